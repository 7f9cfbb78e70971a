pub mod Laws
pub mod Shown
