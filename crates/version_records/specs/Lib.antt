pub mod VersionRecords
pub mod inside
