use Rattle.races.proofs.racing.race.Given as goal

-- the graph that is opened
abbrev pub ghosts-race_known : goal.ghosts-race_known
ghosts-race_known a b = record { book = b.opening; vertices = b.script.vertices; room = 16777216 }
