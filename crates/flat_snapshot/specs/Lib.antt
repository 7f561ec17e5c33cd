pub mod FlatEdges
pub use Rattle.ascending_lists.specs.Maps
pub use Rattle.tree_batch.specs.Digraph
pub use Rattle.tree_batch.specs.Edge
pub use Rattle.tree_batch.specs.Neighbours
pub mod inside
