-- Proofs of `unions_keep_the_first_value`, src/map_laws.rt.
use Rattle.ascending_lists.proofs.MapUnions.{keys_of_first, value_of_first, map_of_first, exchanged}
use Rattle.ascending_lists.proofs.map_laws.unions_keep_the_first_value.Goals as goal

pub returns-clause-keys : goal.returns-clause-keys
returns-clause-keys g c = keys_of_first

pub returns-clause-values : goal.returns-clause-values
returns-clause-values g c = λ k xs ys s. value_of_first 0 k xs ys s

pub returns-clause-map : goal.returns-clause-map
returns-clause-map g c = map_of_first

pub returns-clause-exchanged : goal.returns-clause-exchanged
returns-clause-exchanged g c = exchanged
