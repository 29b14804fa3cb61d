mod NumeralLemmas
mod PlaceLemmas
mod WordLemmas
mod FieldLemmas
mod NameLemmas
mod LayoutLemmas
pub mod DigitLemmas
pub mod ReadingLemmas
pub mod RowLemmas
pub mod ImageLemmas
pub mod LoadLemmas
mod KnownLetters
mod KnownRows
pub mod CallerLemmas
