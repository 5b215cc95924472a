pub mod Kinds
pub mod ParameterNumber
pub mod Meaning
pub mod Parameters
pub mod Bare
pub mod Mount
pub mod BareLaws
