pub mod ExampleTree
pub mod Examples
