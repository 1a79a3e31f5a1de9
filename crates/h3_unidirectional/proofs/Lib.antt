pub mod FrameFronts
pub mod ControlFronts
pub mod KeptFronts
mod FirstReads
mod InstructionFronts
mod Excess
mod WindowLaws
mod Heard
mod Listened
mod Waits
mod Unfinished
mod Heads
mod Behind
mod PeerLaws
mod UpdatePlaces
mod UpdateTexts
mod OthersTold
mod BothStarts
