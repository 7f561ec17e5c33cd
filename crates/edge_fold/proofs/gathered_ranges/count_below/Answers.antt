-- Proofs of `count_below`, src/gathered_ranges.rt.
use Rattle.std.proofs.Common.{◌≡◌, ◌-◌, ◌/◌, ◌<◌, ◌≤◌, ◌+◌, ℕ, List, length, get_or, refl, ap, ◌∙◌, arith}
use Rattle.std.proofs.lemmas.List.{get_or_default}
use Rattle.vectors.specs.declared.changes.EntryChange.{EntryChange}
use Rattle.edge_fold.specs.Gathered.{IsNonDescending}
use Rattle.edge_fold.proofs.gathered_ranges.count_below.Goals as goal

-- the middle of what is left
middle_inside : (low high middle : ℕ) → middle ≡ low + (high - low) / 2 → low < high → (low ≤ middle) × (middle < high)
middle_inside low high middle is some = (omega (arith, is, some), omega (arith, is, some))

-- what the number in the middle says of those before it and after it
before_middle : (cs : List EntryChange) (k middle : ℕ) (d e : EntryChange) (x : ℕ) → IsNonDescending cs → k ≤ middle → middle < length cs → (get_or cs middle e).vertex < x → (get_or cs k d).vertex < x
before_middle cs k middle d e x up l inside less =
    let most = up k middle d l inside in
    let same = ap (λ (c : EntryChange). c.vertex) (get_or_default cs middle d e inside) in
    omega (arith, most, same, less)

after_middle : (cs : List EntryChange) (k middle : ℕ) (d e : EntryChange) (x : ℕ) → IsNonDescending cs → middle ≤ k → k < length cs → x ≤ (get_or cs middle e).vertex → x ≤ (get_or cs k d).vertex
after_middle cs k middle d e x up l inside more =
    let most = up middle k d l inside in
    let same = ap (λ (c : EntryChange). c.vertex) (get_or_default cs middle d e (omega (arith, l, inside))) in
    omega (arith, most, same, more)

pub halves-preserved-then-vertex : goal.halves-preserved-then-vertex
halves-preserved-then-vertex c =
    let low = c.halves.low in
    let high = c.halves.high in
    let middle = low + (high - low) / 2 in
    let at = middle_inside low high middle refl c.halves-test.true in
    let over : middle < high = at.1 in
    let inside : high ≤ length c.args.numbers.now = c.halves.invariant.inside in
    let one : EntryChange = c.index-numbers-middle.result in
    let own : c.vertex.result ≡ (get_or c.args.numbers.now middle one).vertex = c.vertex.ensures ∙ ap (λ (e : EntryChange). e.vertex) c.index-numbers-middle.is in
    let less = c.if-vertex.true in
    record {
      order = omega (arith, over);
      inside = inside;
      below = λ up k d l. before_middle c.args.numbers.now k middle d one c.args.vertex up (omega (arith, l)) (omega (arith, over, inside)) (omega (arith, own, less));
      above = c.halves.invariant.above;
    }

pub halves-preserved : goal.halves-preserved
halves-preserved c =
    let low = c.halves.low in
    let high = c.halves.high in
    let middle = low + (high - low) / 2 in
    let at = middle_inside low high middle refl c.halves-test.true in
    let under : low ≤ middle = at.0 in
    let over : middle < high = at.1 in
    let inside : high ≤ length c.args.numbers.now = c.halves.invariant.inside in
    let one : EntryChange = c.index-numbers-middle.result in
    let own : c.vertex.result ≡ (get_or c.args.numbers.now middle one).vertex = c.vertex.ensures ∙ ap (λ (e : EntryChange). e.vertex) c.index-numbers-middle.is in
    let more = c.if-vertex.false in
    record {
      order = under;
      inside = omega (arith, over, inside);
      below = c.halves.invariant.below;
      above = λ up k d l b. after_middle c.args.numbers.now k middle d one c.args.vertex up l b (omega (arith, own, more));
    }

pub returns-clause-split : goal.returns-clause-split
returns-clause-split c up =
    let done = c.halves-test.false in
    let order = c.halves.invariant.order in
    (λ k d l b. c.halves.invariant.below up k d b, λ k d l b. c.halves.invariant.above up k d (omega (arith, l, done, order)) b)
