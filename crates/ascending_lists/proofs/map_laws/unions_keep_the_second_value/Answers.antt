-- Proofs of `unions_keep_the_second_value`, src/map_laws.rt.
use Rattle.ascending_lists.proofs.MapUnions.{keys_of_second, value_of_second, map_of_second}
use Rattle.ascending_lists.proofs.map_laws.unions_keep_the_second_value.Goals as goal

pub returns-clause-keys : goal.returns-clause-keys
returns-clause-keys g c = keys_of_second

pub returns-clause-values : goal.returns-clause-values
returns-clause-values g c = value_of_second

pub returns-clause-map : goal.returns-clause-map
returns-clause-map g c = map_of_second
