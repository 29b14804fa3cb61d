pub mod Marked
pub mod Header
