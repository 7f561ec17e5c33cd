pub mod Rows
pub mod Layouts
pub mod Groupings
pub mod Loads
pub mod HandedOver
