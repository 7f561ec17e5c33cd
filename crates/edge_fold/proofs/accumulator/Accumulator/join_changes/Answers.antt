-- Proofs of `join_changes`, src/joins.rt.
use Rattle.std.proofs.Common.{rules, ◌≡◌, ◌==◌, ◌<◌, ◌+◌, if◌then◌else◌, ℕ, ℤ, List, length, drop, get_or, FitsSigned, to_z, of_z, w64, sym, ap, ◌∙◌}
use Rattle.std.proofs.lemmas.Int.{to_z-of_z}
use Rattle.std.proofs.lemmas.List.{drop_more}
use Rattle.algorithm_meaning.specs.Arithmetic.{reduced}
use Rattle.vectors.specs.declared.changes.EntryChange.{EntryChange}
use Rattle.edge_fold.specs.Gathered.{given_numbers}
use Rattle.edge_fold.specs.Contributions.{reduced_at}
use Rattle.edge_fold.specs.Held.{held_with}
use Rattle.edge_fold.specs.FoldStarts.{combined_with_seed}
use Rattle.edge_fold.specs.inside.FoldStarts.{initial_seed, start_of}
use Rattle.edge_fold.proofs.accumulator.Accumulator.join_changes.Goals as goal

pub numbers-preserved : goal.numbers-preserved
numbers-preserved c v h =
    let a = c.args in
    let r = a.reduction in
    let cs = a.numbers.now in
    let i = c.numbers.change-index in
    let none : EntryChange = c.change-item.result in
    let change = get_or cs i none in
    let inside : i < length cs = c.numbers-test.true in
    let fits : FitsSigned w64 c.number.result = search rules in
    let number : to_z w64 (of_z w64 c.number.result) ≡ change.number = to_z-of_z w64 c.number.result fits ∙ c.number.ensures ∙ ap (λ (e : EntryChange). e.number) c.change-item.is in
    let now = held_with (combined_with_seed (start_of a.seeds) r) c.numbers.self v (initial_seed a.seeds v h) in
    ap (λ (n : ℤ). reduced_at r v n (given_numbers (drop (i + 1) cs)))
    (c.in_ok-join.ensures v h
    ∙ ap (λ (n : ℤ). if c.vertex.result == v then reduced r now n else now) number
    ∙ ap (λ (u : ℕ). if u == v then reduced r now change.number else now) (c.vertex.ensures ∙ ap (λ (e : EntryChange). e.vertex) c.change-item.is))
    ∙ ap (λ (ds : List EntryChange). reduced_at r v now (given_numbers ds)) (sym (drop_more cs i none inside))
    ∙ c.numbers.invariant v h
