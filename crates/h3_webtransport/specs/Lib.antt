pub mod Joint
pub mod Parts
pub mod Sending
pub mod Ordering
pub mod Opening
pub mod Receiving
pub mod Keeping
pub mod Closing
