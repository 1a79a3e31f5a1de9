pub mod Forms
pub mod Fronts
pub mod Numbers
pub mod WholeEncodings
pub mod Varints
