pub mod Command
pub mod Line
pub mod Sheet
pub mod Printed
