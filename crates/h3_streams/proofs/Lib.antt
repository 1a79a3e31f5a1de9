mod Closing
mod Heard
mod Allowed
mod PeerAgain
mod Beginnings
mod EncoderReads
mod Peers
mod DecoderReads
mod Frames
mod Again
mod FirstFrames
mod EarlyReads
mod Told
mod ArrivedBytes
pub mod Held
mod Rows
mod Joined
mod PlacedLaws
