use Rattle.std.proofs.Common.{rules}
use Rattle.text.proofs.Tables.{number_below}
use Rattle.text.proofs.numbering.Names.number_of.Goals as goal

pub returns-clause-below : goal.returns-clause-below
returns-clause-below c = number_below c.args.self.now c.args.name.now c.find.result (search rules)
