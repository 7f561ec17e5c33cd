pub mod Registers
pub mod Meaning
pub mod Rooms
pub mod inside
