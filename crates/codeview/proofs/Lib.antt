pub mod Laws
pub mod Tags
pub mod Right
