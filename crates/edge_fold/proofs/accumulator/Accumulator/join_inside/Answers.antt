-- Proofs of `join_inside`, src/joins.rt.
use Rattle.std.proofs.Common.{rules, ◌≡◌, ℕ, ◌<◌, ℤ, pos, length, get_or, FitsSigned, to_z, of_z, w64, ap, ◌∙◌, true, false}
use Rattle.std.proofs.lemmas.Int.{to_z-of_z}
use Rattle.std.proofs.lemmas.List.{get_or_default}
use Rattle.algorithm_meaning.specs.Arithmetic.{reduced}
use Rattle.vertex_marks.specs.Marks.{is_marked}
use Rattle.edge_fold.specs.FoldStarts.{combined_with_seed}
use Rattle.edge_fold.specs.inside.FoldStarts.{initial_seed, start_of}
use Rattle.edge_fold.proofs.Entries.{joined_again, joined_new}
use Rattle.edge_fold.proofs.JoinedSlots.{combined_more}
use Rattle.edge_fold.proofs.accumulator.Accumulator.join_inside.Goals as goal

pub returns-then-has_entry : goal.returns-then-has_entry
returns-then-has_entry c v h =
    let now = c.args.self.now in
    let fits : FitsSigned w64 c.reduce.result = search rules in
    let inside : c.args.vertex < length now.values.items = search rules in
    let on : is_marked now.marks c.args.vertex ≡ true = search rules in
    let number_fits : FitsSigned w64 c.args.number = search rules in
    let found = c.index.result.now in
    let found_fits : FitsSigned w64 found = search rules in
    let value = to_z-of_z w64 found found_fits ∙ c.index.ensures ∙ get_or_default now.values.items c.args.vertex found (pos 0) inside in
    let number = c.reduce.ensures
    ∙ ap (λ (y : ℤ). reduced c.args.reduction y (to_z w64 (of_z w64 c.args.number))) value
    ∙ ap (λ (y : ℤ). reduced c.args.reduction (get_or now.values.items c.args.vertex (pos 0)) y) (to_z-of_z w64 c.args.number number_fits) in
    let o = initial_seed c.args.seeds v h in
    let combine = combined_with_seed (start_of c.args.seeds) c.args.reduction in
    joined_again c.args.reduction combine now.values.items (is_marked now.marks) c.args.vertex v _ o c.args.number inside on
    (ap (combine o) (to_z-of_z w64 c.reduce.result fits ∙ number) ∙ combined_more (start_of c.args.seeds) c.args.reduction o (get_or now.values.items c.args.vertex (pos 0)) c.args.number)

pub returns : goal.returns
returns c v h =
    let now = c.args.self.now in
    let p = c.args.vertex in
    let o = λ (u : ℕ). initial_seed c.args.seeds u h in
    let combine = combined_with_seed (start_of c.args.seeds) c.args.reduction in
    let fits : FitsSigned w64 c.first.result = search rules in
    let number_fits : FitsSigned w64 c.args.number = search rules in
    let inside : p < length now.values.items = search rules in
    let off : is_marked now.marks p ≡ false = search rules in
    let number = ap (combine (o p)) (to_z-of_z w64 c.first.result fits) ∙ c.first.ensures h
    ∙ ap (λ (y : ℤ). reduced c.args.reduction (o p) y) (to_z-of_z w64 c.args.number number_fits) in
    joined_new c.args.reduction combine o now.values.items (is_marked now.marks) (is_marked c.insert.new.self) p v _ c.args.number inside off c.insert.ensures.marks number
