pub mod Numbers
pub mod Widths
pub mod Conditions
pub mod Selections
pub mod Answers
pub mod Packed
