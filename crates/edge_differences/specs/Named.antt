-- The edges that batches name.
use Rattle.std.specs.Prelude.{◌≡◌, false, option_to_list, List, [], ◌∷◌, ◌++◌}
use Rattle.tree_batch.specs.declared.batch.Entry.{Entry}
use Rattle.tree_batch.specs.Edge.{Ends, misfits, named_by}
use Rattle.tree_batch.specs.Digraph.{Digraph, graph_after}

-- the ends that the entries of a batch name, in order
abbrev pub named_in : List Entry → List Ends
named_in [] = []
named_in (x ∷ xs) = option_to_list (named_by x) ++ named_in xs

-- those of batches
abbrev pub named_in_all : List (List Entry) → List Ends
named_in_all [] = []
named_in_all (batch ∷ batches) = named_in batch ++ named_in_all batches

-- each batch fits the graph after the batches before it
abbrev pub EachFits : Digraph → List (List Entry) → Type 0
EachFits g [] = Unit {0}
EachFits g (batch ∷ batches) = (misfits g.vertices batch ≡ false) × EachFits (graph_after g batch) batches
