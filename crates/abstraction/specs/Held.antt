-- What a sheet holds. Assumes nothing.
use Rattle.std.specs.Prelude.{List}
use Rattle.lists.specs.Items.{items}
use Rattle.abstraction.specs.declared.rule.Rule.{Rule}
use Rattle.abstraction.specs.declared.sheet.Sheet.{Sheet}

-- the rules of a sheet, the oldest first
abbrev pub held : Sheet → List Rule
held s = items s.rules
