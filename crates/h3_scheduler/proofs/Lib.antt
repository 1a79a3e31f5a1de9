pub mod Found
pub mod Turning
pub mod ThirdTurn
pub mod NextStands
pub mod RowsHold
