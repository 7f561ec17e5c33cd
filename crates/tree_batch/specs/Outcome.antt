-- What the calls that make a graph give, case by case.
use Rattle.std.specs.Prelude.{◌≡◌, ℕ, true, false, Result, Ok, Err, List}
use Rattle.tree_batch.specs.declared.error.GraphError.{GraphError}
use Rattle.tree_batch.specs.declared.error.GraphError.TheVariants.{VertexRange, BadChunkSize, NoMemory}
use Rattle.tree_batch.specs.declared.batch.Entry.{Entry}
use Rattle.tree_batch.specs.Edge.{misfits}
use Rattle.tree_batch.specs.Digraph.{Digraph, empty_graph, graph_after, is_vertex_count, is_chunk_size}

-- a graph of n vertices in chunks of b without edges, or the first refusal
abbrev pub Opens : ℕ → ℕ → Result Digraph GraphError → Type 0
Opens n b (Ok g) = (is_vertex_count n ≡ true) × (is_chunk_size b ≡ true) × (g ≡ empty_graph n)
Opens n b (Err VertexRange) = is_vertex_count n ≡ false
Opens n b (Err BadChunkSize) = (is_vertex_count n ≡ true) × (is_chunk_size b ≡ false)
Opens n b (Err NoMemory) = (is_vertex_count n ≡ true) × (is_chunk_size b ≡ true)

-- the graph after a batch, or the refusal of a batch that does not fit
abbrev pub Applies : Digraph → List Entry → Result Digraph GraphError → Type 0
Applies g batch (Ok new) = (misfits g.vertices batch ≡ false) × (new ≡ graph_after g batch)
Applies g batch (Err VertexRange) = misfits g.vertices batch ≡ true
Applies g batch (Err BadChunkSize) = ⊥
Applies g batch (Err NoMemory) = misfits g.vertices batch ≡ false
