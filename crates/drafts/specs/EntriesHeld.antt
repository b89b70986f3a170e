-- The entries that a draft holds. Assumes nothing.
use Rattle.lists.specs.Items.{items}
use Rattle.drafts.specs.Entries.{EntriesRead}
use Rattle.drafts.specs.declared.entries.EntryDraft.{EntryDraft}

abbrev pub entries_read : EntryDraft → EntriesRead
entries_read d = record { list = items d.list; written = d.written; unknown = d.unknown }
