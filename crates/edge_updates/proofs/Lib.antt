pub mod Packing
pub mod SortedUpdates
pub mod KeepingLast
pub mod Transposing
pub mod EndWidths
pub mod Weighted
pub mod PairColumns
