use Rattle.std.proofs.Common.{◌≡◌, ◌+◌, drop}
use Rattle.follow_engine.specs.Work.{edges_to}
use Rattle.follow_engine.proofs.among.fits_budget.Given as goal

-- the edges to the destinations that have come are taken off the budget
abbrev pub invariant-destinations : goal.invariant-destinations
invariant-destinations l = l.left + edges_to l.flat.edges l.destinations ≡ l.budget + edges_to l.flat.edges (drop l.destination-index l.destinations)
