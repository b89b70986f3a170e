use Rattle.layouts.proofs.Digits.{numerals}
use Rattle.layouts.proofs.number.numbers_read_as_written.Goals as goal

pub returns : goal.returns
returns c = numerals
