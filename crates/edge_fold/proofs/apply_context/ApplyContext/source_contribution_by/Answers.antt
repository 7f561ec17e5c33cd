-- Proofs of `source_contribution_by`, src/source_contributions.rt.
use Rattle.std.proofs.Common.{rules, ◌∷◌, [], ℤ, List, FitsSigned, to_z, of_z, w64, ap, sym, ◌∙◌}
use Rattle.std.proofs.lemmas.Int.{to_z-of_z}
use Rattle.typed_tree.specs.declared.expression.Operator.TheVariants as operator
use Rattle.algorithm_meaning.specs.Arithmetic.{arithmetic}
use Rattle.algorithm_meaning.specs.Value.{entry}
use Rattle.kernels.specs.declared.shape.Shape.{Shape}
use Rattle.kernels.specs.ShapePairs.{shape_given}
use Rattle.edge_fold.proofs.apply_context.ApplyContext.source_contribution_by.Goals as goal

pub returns-in-Source : goal.returns-in-Source
returns-in-Source c m vectors d w =
    let x = c.in-Source.vector in
    let r = c.in-Source.reduction in
    let fits : FitsSigned w64 c.from.result = search rules in
    ap (λ (t : Shape). shape_given t m (c.args.source, d, w)) c.in-Source.is
    ∙ ap (λ (n : ℤ). (x, r, n) ∷ []) (sym (to_z-of_z w64 c.from.result fits ∙ c.from.ensures))

pub returns-in-Entry : goal.returns-in-Entry
returns-in-Entry c m vectors d w =
    let x = c.in-Entry.vector in
    let r = c.in-Entry.reduction in
    let y = c.in-Entry.from in
    let s = c.args.source in
    let fits : FitsSigned w64 c.get.result = search rules in
    let number = to_z-of_z w64 c.get.result fits ∙ c.get.ensures ∙ c.lane.ensures s ∙ ap (λ (vs : List (List ℤ)). entry vs y s) vectors in
    ap (λ (t : Shape). shape_given t m (s, d, w)) c.in-Entry.is ∙ ap (λ (n : ℤ). (x, r, n) ∷ []) (sym number)

pub returns-in-EntryPlus : goal.returns-in-EntryPlus
returns-in-EntryPlus c m vectors d w =
    let x = c.in-EntryPlus.vector in
    let r = c.in-EntryPlus.reduction in
    let y = c.in-EntryPlus.from in
    let s = c.args.source in
    let plus = c.in-EntryPlus.number in
    let fits : FitsSigned w64 c.arithmetic_of.result = search rules in
    let got_fits : FitsSigned w64 c.get-in-EntryPlus.result = search rules in
    let plus_fits : FitsSigned w64 plus = search rules in
    let got = to_z-of_z w64 c.get-in-EntryPlus.result got_fits ∙ c.get-in-EntryPlus.ensures ∙ c.lane-in-EntryPlus.ensures s ∙ ap (λ (vs : List (List ℤ)). entry vs y s) vectors in
    let number = to_z-of_z w64 c.arithmetic_of.result fits ∙ c.arithmetic_of.ensures
    ∙ ap (λ (n : ℤ). arithmetic operator.Add n (to_z w64 (of_z w64 plus))) got
    ∙ ap (λ (n : ℤ). arithmetic operator.Add (entry m.vectors y s) n) (to_z-of_z w64 plus plus_fits) in
    ap (λ (t : Shape). shape_given t m (s, d, w)) c.in-EntryPlus.is ∙ ap (λ (n : ℤ). (x, r, n) ∷ []) (sym number)
