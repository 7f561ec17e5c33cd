-- Proofs of `cuts_keep_values`, src/map_laws.rt.
use Rattle.ascending_lists.proofs.MapCuts.{keys_below, keys_above, values_below, values_above}
use Rattle.ascending_lists.proofs.map_laws.cuts_keep_values.Goals as goal

pub returns-clause-keys_below : goal.returns-clause-keys_below
returns-clause-keys_below g c = keys_below

pub returns-clause-keys_above : goal.returns-clause-keys_above
returns-clause-keys_above g c = keys_above

pub returns-clause-values_below : goal.returns-clause-values_below
returns-clause-values_below g c = values_below

pub returns-clause-values_above : goal.returns-clause-values_above
returns-clause-values_above g c = values_above
