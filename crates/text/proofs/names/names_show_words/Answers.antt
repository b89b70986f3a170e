use Rattle.text.proofs.Shown.{shows_words}
use Rattle.text.proofs.names.names_show_words.Goals as goal

pub returns : goal.returns
returns c = shows_words
