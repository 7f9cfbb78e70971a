pub mod Context
pub mod Opening
