use Rattle.std.proofs.Common.{◌≡◌, drop}
use Rattle.text.specs.Held.{held}
use Rattle.text.specs.Numbering.{join_all}
use Rattle.text.proofs.numbering.Names.join_all.Given as goal

-- the names that are left still have to join
abbrev pub invariant-loop-name : goal.invariant-loop-name
invariant-loop-name l = join_all (held l.joined) (drop l.name-index l.names) ≡ join_all (held l.self) l.names
