use Rattle.text.proofs.Runs.{by_bytes}
use Rattle.text.proofs.words.words_by_bytes.Goals as goal

pub returns : goal.returns
returns c = by_bytes
