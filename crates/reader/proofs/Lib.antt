mod Rows
mod Mapped
mod FirstLetter
mod Applies
mod LetterRuns
mod WordParts
mod Places
mod WordSteps
mod Scanning
mod Counting
mod OrderSteps
pub mod LineSteps
mod Bounded
pub mod Telling
mod Turns
