use Rattle.grammar.proofs.Complete.{spelled_read}
use Rattle.grammar.proofs.Follows.{read_spelled}
use Rattle.grammar.proofs.read_is_spelled.Goals as goal

pub returns : goal.returns
returns c = λ ts t. (spelled_read, read_spelled ts)
