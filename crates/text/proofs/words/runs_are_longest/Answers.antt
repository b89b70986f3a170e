use Rattle.text.proofs.Runs.{longest}
use Rattle.text.proofs.words.runs_are_longest.Goals as goal

pub returns : goal.returns
returns c = longest
