pub mod Words
pub mod Registers
pub mod Devices
