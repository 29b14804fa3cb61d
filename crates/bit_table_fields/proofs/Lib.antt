pub mod WindowLemmas
pub mod CallerLemmas
mod KnownNumbers
pub mod FieldLemmas
mod CountLemmas
mod ChunkLemmas
