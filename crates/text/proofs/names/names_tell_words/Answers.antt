use Rattle.text.proofs.Packs.{tells_words}
use Rattle.text.proofs.names.names_tell_words.Goals as goal

pub returns : goal.returns
returns c = tells_words
