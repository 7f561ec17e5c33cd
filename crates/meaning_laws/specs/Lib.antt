pub mod Members
pub mod Printing
