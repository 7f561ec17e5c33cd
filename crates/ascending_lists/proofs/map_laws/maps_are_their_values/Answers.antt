-- Proofs of `maps_are_their_values`, src/map_laws.rt.
use Rattle.std.proofs.Common.{◌^◌}
use Rattle.ascending_lists.proofs.MapValues.{same_entries}
use Rattle.ascending_lists.proofs.map_laws.maps_are_their_values.Goals as goal

pub returns : goal.returns
returns g c = same_entries 0 (2 ^ 32)
