mod ChoiceLemmas
mod KnownRows
