pub mod Hex
pub mod Call
pub mod Answer
pub mod MoreCalls
