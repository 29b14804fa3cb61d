mod WidthLemmas
mod ListLemmas
mod SelectLemmas
mod PackedLemmas
mod AnswerLemmas
