use Rattle.logic.proofs.Lines.{by_lines}
use Rattle.logic.proofs.meaning.nodes_mean_their_lines.Goals as goal

pub returns : goal.returns
returns c = by_lines
