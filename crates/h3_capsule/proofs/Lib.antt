pub mod Heads
pub mod Telling
pub mod ReadsBack
pub mod RowsHold
pub mod Lengths
pub mod Words
