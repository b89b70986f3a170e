-- The names that a label was read as. Assumes nothing.
use Rattle.std.specs.Prelude.{List}
use Rattle.text.specs.declared.names.Name.{Name}
use Rattle.lists.specs.Items.{items}
use Rattle.contents.specs.declared.label.Label.{Label}

abbrev pub labelled : Label → List Name
labelled l = items l.names
