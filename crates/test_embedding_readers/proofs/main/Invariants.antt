use Rattle.test_embedding_readers.proofs.main.Given as goal

-- the graph that was just opened
abbrev pub ghosts-share : goal.ghosts-share
ghosts-share a b = record { book = b.opening; vertices = 64; room = 16777216 }
