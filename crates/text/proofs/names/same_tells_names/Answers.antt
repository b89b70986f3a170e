use Rattle.text.proofs.Packs.{tells_names}
use Rattle.text.proofs.names.same_tells_names.Goals as goal

pub returns : goal.returns
returns c = tells_names
