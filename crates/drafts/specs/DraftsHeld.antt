-- The nodes that a draft holds. Assumes nothing.
use Rattle.std.specs.Prelude.{suc, cond, length}
use Rattle.lists.specs.Items.{items}
use Rattle.logic.specs.Limits.{max_nodes}
use Rattle.drafts.specs.Drafts.{Drafted}
use Rattle.drafts.specs.EntriesHeld.{entries_read}
use Rattle.drafts.specs.declared.draft.Draft.{Draft}

abbrev pub drafted : Draft → Drafted
drafted d = record { nodes = items d.nodes; count = cond d.too_long (suc max_nodes) (length (items d.nodes)); entries = entries_read d.entries; deep = d.too_deep; unknown = d.unknown; odd = d.odd }
