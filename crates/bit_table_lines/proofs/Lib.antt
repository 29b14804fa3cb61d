pub mod Sending
pub mod LineLemmas
pub mod GoingLemmas
pub mod Pieces
pub mod ReachedLemmas
pub mod ScriptCallerLemmas
mod KnownRuns
