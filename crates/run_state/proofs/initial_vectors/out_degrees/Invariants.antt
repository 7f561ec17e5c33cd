use Rattle.std.proofs.Common.{◌≡◌, map, pos}
use Rattle.std.specs.List.{range_with_len}
use Rattle.algorithm_meaning.specs.Arithmetic.{wrapped}
use Rattle.algorithm_meaning.specs.Meaning.{out_degree}
use Rattle.run_state.proofs.initial_vectors.out_degrees.Given as goal

-- the degrees of the vertices so far
abbrev pub invariant-vertices : goal.invariant-vertices
invariant-vertices l = l.degrees.items ≡ map (λ v. wrapped (pos (out_degree v l.graph.edges))) (range_with_len 0 l.vertex)
