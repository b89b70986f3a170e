use Rattle.text.proofs.Packs.{reads_back}
use Rattle.text.proofs.names.names_read_back.Goals as goal

pub returns : goal.returns
returns c = reads_back
