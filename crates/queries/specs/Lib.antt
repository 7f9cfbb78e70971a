pub mod This
pub mod Sizes
pub mod Arrays
