pub mod VersionFlats
