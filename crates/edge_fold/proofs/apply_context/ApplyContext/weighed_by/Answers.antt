-- Proofs of `weighed_by`, src/entry_contributions.rt.
use Rattle.std.proofs.Common.{rules, ◌∷◌, [], ℤ, List, FitsSigned, w64, ap, sym, ◌∙◌}
use Rattle.std.proofs.lemmas.Int.{to_z-of_z}
use Rattle.algorithm_meaning.specs.Arithmetic.{arithmetic}
use Rattle.algorithm_meaning.specs.Value.{entry}
use Rattle.vectors.specs.Lanes.{lane_entry}
use Rattle.edge_fold.specs.Contributions.{reduced_at}
use Rattle.edge_fold.proofs.apply_context.ApplyContext.weighed_by.Goals as goal

pub returns : goal.returns
returns c m gives vectors is =
    let given = c.args.given in
    let lane = c.lane.result in
    let n = c.in_ok-number.number in
    let fits : FitsSigned w64 n = search rules in
    record {
      number = λ s w. arithmetic given.operator (lane_entry lane s) w;
      each = λ s d w. is (s, d, w)
          ∙ ap (λ (k : ℤ). (given.vector, given.reduction, arithmetic given.operator k w) ∷ []) (sym (c.lane.ensures s ∙ ap (λ (vs : List (List ℤ)). entry vs given.from s) vectors));
      all = λ d v h. ap (λ (k : ℤ). reduced_at given.reduction v h ((d, k) ∷ [])) (to_z-of_z w64 n fits) ∙ c.in_ok-number.ensures d v h;
    }
