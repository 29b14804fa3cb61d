pub mod Lines
pub mod Streams
pub mod Ends
pub mod Runs
pub mod Going
