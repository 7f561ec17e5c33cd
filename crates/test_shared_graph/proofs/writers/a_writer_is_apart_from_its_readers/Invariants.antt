use Rattle.test_shared_graph.proofs.writers.a_writer_is_apart_from_its_readers.Given as goal

-- the graph that was just opened
abbrev pub ghosts-counts_apart : goal.ghosts-counts_apart
ghosts-counts_apart g a = record { book = a.opening; vertices = a.vertices; room = 16777216 }
