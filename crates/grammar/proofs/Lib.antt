pub mod Readings
pub mod EventTurns
pub mod EventRules
pub mod EventGrammar
pub mod Turns
pub mod Rules
pub mod Complete
pub mod Follows
