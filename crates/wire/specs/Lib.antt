pub mod Field
pub mod Leaf
pub mod Name
pub mod Text
