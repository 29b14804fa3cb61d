pub mod RowLemmas
pub mod KeptLemmas
pub mod KeepLemmas
pub mod KeepRowLemmas
pub mod MoveCallerLemmas
mod KnownMoves
pub mod PlaceLemmas
pub mod EditLemmas
pub mod RowListLemmas
pub mod KeptRowLemmas
mod KnownRows
pub mod RowListCallerLemmas
mod NumberLemmas
pub mod KeptListLemmas
pub mod MarkLemmas
pub mod LetterEditLemmas
pub mod WalkLemmas
pub mod PutLemmas
pub mod ColumnLemmas
pub mod SpaceLemmas
pub mod ListLemmas
pub mod CombineLemmas
pub mod DropLemmas
