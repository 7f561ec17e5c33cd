-- That a graph is refused for want of memory only where its batch fits.
use Rattle.std.proofs.Common.{◌≡◌, false, Result, Ok, Err, IsErr, IsErrAnd, List}
use Rattle.tree_batch.specs.declared.error.GraphError.{GraphError}
use Rattle.tree_batch.specs.declared.error.GraphError.TheVariants.{VertexRange, BadChunkSize, NoMemory}
use Rattle.tree_batch.specs.declared.batch.Entry.{Entry}
use Rattle.tree_batch.specs.Edge.{misfits}
use Rattle.tree_batch.specs.Digraph.{Digraph}
use Rattle.tree_batch.specs.Outcome.{Applies}

pub lacks_memory : (g : Digraph) (batch : List Entry) (r : Result Digraph GraphError) → IsErr r → IsErrAnd r (λ e. e ≡ NoMemory) → misfits g.vertices batch ≡ false → Applies g batch r
lacks_memory g batch (Ok new) is why fit = absurd cc
lacks_memory g batch (Err NoMemory) is why fit = fit
lacks_memory g batch (Err VertexRange) is why fit = absurd cc
lacks_memory g batch (Err BadChunkSize) is why fit = absurd cc
