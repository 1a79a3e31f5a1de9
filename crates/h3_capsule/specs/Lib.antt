pub mod Capsule
pub mod Told
pub mod Datagram
pub mod Rows
pub mod ReaderStates
