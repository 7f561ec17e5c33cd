use Rattle.std.proofs.Common.{◌≡◌, take}
use Rattle.vectors.specs.inside.Layout.{vectors_at}
use Rattle.vectors.proofs.location.copy_vectors.Given as goal

-- the vectors of the locations so far
abbrev pub invariant-locations : goal.invariant-locations
invariant-locations l = l.copies.items ≡ vectors_at l.arrays (take l.location-index l.locations)
