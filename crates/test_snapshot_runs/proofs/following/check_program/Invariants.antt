use Rattle.test_snapshot_runs.proofs.following.check_program.Given as goal

-- the graph that was just opened
abbrev pub ghosts-check_opened : goal.ghosts-check_opened
ghosts-check_opened g a = record { book = a.opening; vertices = a.vertices; room = 16777216 }
