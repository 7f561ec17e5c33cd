-- Proofs of `all_vertices_are_those_below`, src/laws.rt.
use Rattle.std.proofs.Common.{arith}
use Rattle.std.proofs.lemmas.List.FromFn.{length-range_with_len}
use Rattle.vertex_sets.proofs.Ascending.{range_has, range_bound}
use Rattle.vertex_sets.proofs.StoredSets.{all_ascending}
use Rattle.vertex_sets.proofs.laws.all_vertices_are_those_below.Goals as goal

pub returns-clause-members : goal.returns-clause-members
returns-clause-members c = λ n v. (λ is. omega (arith, range_bound 0 n v is), λ lt. range_has 0 n v (omega arith) (omega arith))

pub returns-clause-ascending : goal.returns-clause-ascending
returns-clause-ascending c = all_ascending

pub returns-clause-count : goal.returns-clause-count
returns-clause-count c = λ n. length-range_with_len 0 n
