pub mod Reading
pub mod Sends
pub mod Faithful
pub mod Steps
pub mod WorkedFaithful
pub mod WorkedMemory
