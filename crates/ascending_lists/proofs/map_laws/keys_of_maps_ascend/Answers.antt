-- Proofs of `keys_of_maps_ascend`, src/map_laws.rt.
use Rattle.std.proofs.Common.{arith}
use Rattle.ascending_lists.proofs.MapKeys.{keys_ascend, entries_rise}
use Rattle.ascending_lists.proofs.map_laws.keys_of_maps_ascend.Goals as goal

pub returns : goal.returns
returns g c = λ es. (keys_ascend 0 es, entries_rise 0 es (omega arith))
