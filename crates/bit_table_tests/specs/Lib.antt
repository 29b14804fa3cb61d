pub mod Numbers
pub mod Queue
