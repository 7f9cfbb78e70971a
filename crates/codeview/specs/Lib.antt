pub mod IdRecord
pub mod Kinds
pub mod Read
pub mod Record
