pub mod Storages
pub mod Options
pub mod Choices
