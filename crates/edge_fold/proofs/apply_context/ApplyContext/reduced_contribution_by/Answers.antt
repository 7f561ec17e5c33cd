-- Proofs of `reduced_contribution_by`, src/reduced_contributions.rt.
use Rattle.std.proofs.Common.{rules, ◌∷◌, [], ℤ, pos, List, FitsSigned, to_z, of_z, w64, ap, sym, ◌∙◌}
use Rattle.std.proofs.lemmas.Int.{to_z-of_z}
use Rattle.typed_tree.specs.declared.expression.Operator.TheVariants as operator
use Rattle.algorithm_meaning.specs.Arithmetic.{arithmetic}
use Rattle.algorithm_meaning.specs.Value.{entry}
use Rattle.vectors.specs.Lanes.{lane_entry}
use Rattle.edge_fold.specs.Contributions.{reduced_at}
use Rattle.kernels.specs.declared.shape.Shape.{Shape}
use Rattle.kernels.specs.ShapePairs.{shape_given}
use Rattle.edge_fold.proofs.apply_context.ApplyContext.reduced_contribution_by.Goals as goal

pub returns-in_ok-reduce_numbers-in-Source : goal.returns-in_ok-reduce_numbers-in-Source
returns-in_ok-reduce_numbers-in-Source c m vectors =
    let r = c.in-Source.reduction in
    let n = c.in_ok-reduce_numbers-in-Source.field-0 in
    let fits : FitsSigned w64 n = search rules in
    record {
      number = λ s. pos s;
      each = λ s d w. ap (λ (t : Shape). shape_given t m (s, d, w)) c.in-Source.is;
      all = λ d v h. ap (λ (k : ℤ). reduced_at r v h ((d, k) ∷ [])) (to_z-of_z w64 n fits) ∙ c.in_ok-reduce_numbers-in-Source.ensures d v h;
    }

pub returns-in_ok-reduce_numbers-in-Entry : goal.returns-in_ok-reduce_numbers-in-Entry
returns-in_ok-reduce_numbers-in-Entry c m vectors =
    let x = c.in-Entry.vector in
    let r = c.in-Entry.reduction in
    let y = c.in-Entry.from in
    let lane = c.lane.result in
    let n = c.in_ok-reduce_numbers-in-Entry.field-0 in
    let fits : FitsSigned w64 n = search rules in
    record {
      number = lane_entry lane;
      each = λ s d w. ap (λ (t : Shape). shape_given t m (s, d, w)) c.in-Entry.is ∙ ap (λ (k : ℤ). (x, r, k) ∷ []) (sym (c.lane.ensures s ∙ ap (λ (vs : List (List ℤ)). entry vs y s) vectors));
      all = λ d v h. ap (λ (k : ℤ). reduced_at r v h ((d, k) ∷ [])) (to_z-of_z w64 n fits) ∙ c.in_ok-reduce_numbers-in-Entry.ensures d v h;
    }

pub returns-in_ok-reduce_numbers-in-EntryPlus : goal.returns-in_ok-reduce_numbers-in-EntryPlus
returns-in_ok-reduce_numbers-in-EntryPlus c m vectors =
    let x = c.in-EntryPlus.vector in
    let r = c.in-EntryPlus.reduction in
    let y = c.in-EntryPlus.from in
    let plus = c.in-EntryPlus.number in
    let lane = c.lane-in-EntryPlus.result in
    let n = c.in_ok-reduce_numbers-in-EntryPlus.field-0 in
    let fits : FitsSigned w64 n = search rules in
    let plus_fits : FitsSigned w64 plus = search rules in
    let sum = λ (k : ℤ) (l : ℤ). arithmetic operator.Add k l in
    record {
      number = λ s. sum (lane_entry lane s) (to_z w64 (of_z w64 plus));
      each = λ s d w. ap (λ (t : Shape). shape_given t m (s, d, w)) c.in-EntryPlus.is
          ∙ ap (λ (k : ℤ). (x, r, k) ∷ []) (sym (ap (sum (lane_entry lane s)) (to_z-of_z w64 plus plus_fits)
          ∙ ap (λ (k : ℤ). sum k plus) (c.lane-in-EntryPlus.ensures s ∙ ap (λ (vs : List (List ℤ)). entry vs y s) vectors)));
      all = λ d v h. ap (λ (k : ℤ). reduced_at r v h ((d, k) ∷ [])) (to_z-of_z w64 n fits) ∙ c.in_ok-reduce_numbers-in-EntryPlus.ensures d v h;
    }

pub returns-in_ok-reduce_numbers-in-Constant : goal.returns-in_ok-reduce_numbers-in-Constant
returns-in_ok-reduce_numbers-in-Constant c m vectors =
    let x = c.in-Constant.vector in
    let r = c.in-Constant.reduction in
    let plus = c.in-Constant.number in
    let n = c.in_ok-reduce_numbers-in-Constant.field-0 in
    let fits : FitsSigned w64 n = search rules in
    let plus_fits : FitsSigned w64 plus = search rules in
    record {
      number = λ s. to_z w64 (of_z w64 plus);
      each = λ s d w. ap (λ (t : Shape). shape_given t m (s, d, w)) c.in-Constant.is ∙ ap (λ (k : ℤ). (x, r, k) ∷ []) (sym (to_z-of_z w64 plus plus_fits));
      all = λ d v h. ap (λ (k : ℤ). reduced_at r v h ((d, k) ∷ [])) (to_z-of_z w64 n fits) ∙ c.in_ok-reduce_numbers-in-Constant.ensures d v h;
    }
