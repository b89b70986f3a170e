pub mod Entries
pub mod EntriesHeld
pub mod Drafts
pub mod DraftsHeld
pub mod Emission
