pub mod Laws
pub mod Pass
pub mod Near
