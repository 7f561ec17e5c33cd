-- Proofs of `differences_lack_the_keys`, src/map_laws.rt.
use Rattle.ascending_lists.proofs.MapDifferences.{keys_without, value_without, map_without}
use Rattle.ascending_lists.proofs.map_laws.differences_lack_the_keys.Goals as goal

pub returns-clause-keys : goal.returns-clause-keys
returns-clause-keys g c = keys_without

pub returns-clause-values : goal.returns-clause-values
returns-clause-values g c = value_without

pub returns-clause-map : goal.returns-clause-map
returns-clause-map g c = map_without
