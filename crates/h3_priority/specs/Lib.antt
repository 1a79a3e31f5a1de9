pub mod Characters
pub mod Reading
pub mod Items
pub mod Dictionary
pub mod Priority
pub mod Rows
