mod ReadingLemmas
pub mod DigitLemmas
mod ReplyLemmas
pub mod MarkLemmas
pub mod CauseLemmas
pub mod ValueLemmas
pub mod CutLemmas
pub mod EditLemmas
pub mod SpelledLemmas
pub mod CallerLemmas
mod KnownRows
