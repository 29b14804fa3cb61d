pub mod AskLemmas
pub mod CallerLemmas
mod CountLemmas
pub mod LentCallerLemmas
pub mod SeekLemmas
