-- Proofs of `keep_set_weighted`, src/weighted_members.rt.
use Rattle.std.proofs.Common.{rules, ◌≡◌, ◌+◌, ◌<◌, ℕ, ℤ, pos, List, length, get_or, set, take, sym, ap, ◌∙◌, subst, arith, FitsSigned, w64}
use Rattle.std.proofs.lemmas.Int.{to_z-of_z}
use Rattle.std.proofs.lemmas.List.{length-set}
use Rattle.std.proofs.lemmas.List.Filters.{FiltersInPlace}
use Rattle.std.specs.List.{filter}
use Rattle.edge_fold.specs.Contributions.{weighted_entries}
use Rattle.edge_apply.specs.Words.{is_set}
use Rattle.edge_fold.proofs.WeightColumns.{entries-at, entries-length}
use Rattle.edge_apply.proofs.Kept.{entries-set, entries-take, one_more}
use Rattle.edge_apply.proofs.weighted_members.keep_set_weighted.Goals as goal

pub positions-preserved : goal.positions-preserved
positions-preserved c =
    let a = c.args in
    let test = λ (e : ℕ × ℤ). is_set a.words.now e.0 in
    let ks = c.positions.block in
    let ws = c.positions.weights in
    let i = c.positions.position in
    let k = c.positions.kept in
    let x = get_or ks i 0 in
    let w = get_or ws i (pos 0) in
    let fits : FitsSigned w64 w = search rules in
    let inside : i < length ks = omega arith in
    let even : length ws ≡ length ks = omega arith in
    let long : i < length (weighted_entries ks ws) = let l = entries-length ks ws in omega (arith, l, inside) in
    let n = k + c.from-kept.result in
    let moved = one_more test (weighted_entries a.block.now a.weights.now) (weighted_entries ks ws) k i (x, w) n c.is_set.result c.positions.invariant.entries long (sym c.is_set.ensures)
    (entries-at i ks ws 0 (pos 0) (x, w) even inside)
    (λ e. let one : c.from-kept.result ≡ 1 = rw e at c.from-kept.ensures in omega (arith, one))
    (λ e. let none : c.from-kept.result ≡ 0 = rw e at c.from-kept.ensures in omega (arith, none)) in
    record {
      room = length-set ks k x ∙ c.positions.invariant.room;
      same = length-set ws k _ ∙ c.positions.invariant.same;
      entries = subst (λ (es : List (ℕ × ℤ)). FiltersInPlace test (weighted_entries a.block.now a.weights.now) es n (i + 1))
          (sym (entries-set k ks ws x w even) ∙ ap (λ (v : ℤ). weighted_entries (set ks k x) (set ws k v)) (sym (to_z-of_z w64 w fits))) moved;
    }

pub returns-clause-kept : goal.returns-clause-kept
returns-clause-kept c =
    let a = c.args in
    let test = λ (e : ℕ × ℤ). is_set a.words.now e.0 in
    let even : length c.positions.weights ≡ length c.positions.block = omega arith in
    let done : c.positions.position ≡ a.count = omega arith in
    entries-take c.positions.kept c.positions.block c.positions.weights even
    ∙ c.positions.invariant.entries.front
    ∙ ap (λ n. filter test (take n (weighted_entries a.block.now a.weights.now))) done
    ∙ ap (filter test) (sym (entries-take a.count a.block.now a.weights.now c.requires.same))
