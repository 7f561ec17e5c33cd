use Rattle.vectors.proofs.HandedOver.{AreHome}
use Rattle.vectors.proofs.vectors.Vectors.into_arrays.Given as goal

abbrev pub invariant-positions : goal.invariant-positions
invariant-positions l = AreHome l.initial.arrays.items l.locations.items l.position l.arrays.items
