pub mod Checksum
pub mod Fields
pub mod Header
