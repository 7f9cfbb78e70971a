pub mod Damage
pub mod Superblock
pub mod Directory
pub mod Contents
pub mod Inner
