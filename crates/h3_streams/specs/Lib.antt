pub mod Ids
pub mod Placed
pub mod PlacedLaws
pub mod ReadingOn
pub mod Stopping
pub mod Plain
pub mod ReadingOnLaws
