pub mod Bodies
pub mod Cuts
pub mod Denials
pub mod Fields
pub mod HeadWords
pub mod Lines
pub mod Numbers
pub mod OneRefusal
pub mod PlainSetups
mod PrintedLines
pub mod Reading
pub mod Requests
pub mod ScriptSizes
pub mod Scripts
pub mod SectionLines
pub mod Unique
