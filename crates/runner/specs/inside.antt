pub mod Results
pub mod Position
pub mod Groups
pub mod Employment
pub mod Done
pub mod ChangedSets
pub mod Uses
