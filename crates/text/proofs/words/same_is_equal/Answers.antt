use Rattle.text.proofs.Runs.{same_equal}
use Rattle.text.proofs.words.same_is_equal.Goals as goal

pub returns : goal.returns
returns c = same_equal
