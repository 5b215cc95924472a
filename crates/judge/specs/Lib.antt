pub mod Meaning
pub mod Listed
pub mod Metres
pub mod Rounding
pub mod Gauge
