pub mod Devices
pub mod Device
