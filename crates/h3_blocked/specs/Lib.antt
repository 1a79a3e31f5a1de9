pub mod Counting
pub mod CountingLaws
pub mod SumLaws
pub mod Sums
