pub mod Received
pub mod KeptSettings
pub mod OthersRead
