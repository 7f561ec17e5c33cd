-- Proofs of `out_degrees`, src/initial_vectors.rt.
use Rattle.std.proofs.Common.{◌≡◌, ℕ, ℤ, ◌<◌, ◌^◌, List, [], ◌∷◌, ◌++◌, map, pos, ap, sym, ◌∙◌, arith, rules, FitsSigned, to_z, of_z, w64}
use Rattle.std.proofs.lemmas.Int.{to_z-of_z}
use Rattle.std.specs.List.{range_with_len}
use Rattle.std.proofs.lemmas.List.FromFn.{map-range_with_len_more}
use Rattle.algorithm_meaning.specs.Arithmetic.{wrapped}
use Rattle.algorithm_meaning.specs.Meaning.{out_degree}
use Rattle.run_state.proofs.Degrees.{degree}
use Rattle.run_state.proofs.initial_vectors.out_degrees.Goals as goal

pub vertices-preserved : goal.vertices-preserved
vertices-preserved c =
    let v = c.vertices.vertex in
    let es = c.args.graph.now.edges in
    let f : ℕ → ℤ = λ u. wrapped (pos (out_degree u es)) in
    let small : c.out_degree.result < 2 ^ 32 = omega arith in
    let here : c.from.result ≡ f v = c.from.ensures ∙ degree c.out_degree.result v es c.out_degree.ensures small in
    let fits : FitsSigned w64 c.from.result = search rules in
    c.in_ok-push.ensures.items
    ∙ ap (λ (xs : List ℤ). xs ++ to_z w64 (of_z w64 c.from.result) ∷ []) c.vertices.invariant
    ∙ ap (λ (x : ℤ). map f (range_with_len 0 v) ++ x ∷ []) (to_z-of_z w64 c.from.result fits ∙ here)
    ∙ sym (map-range_with_len_more f 0 v v (omega arith))
