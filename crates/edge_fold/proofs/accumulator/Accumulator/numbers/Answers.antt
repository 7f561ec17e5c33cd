-- Proofs of `numbers`, src/gathered.rt.
use Rattle.std.proofs.Common.{ℕ, ◌<◌, ◌≤◌, inl, ℤ, List, length, get_or, Contains, ap, ◌∙◌, subst, arith}
use Rattle.std.proofs.lemmas.List.Elements.{Contains-get_or}
use Rattle.apply_options.specs.declared.reduction.Reduction.{Reduction}
use Rattle.vectors.specs.declared.changes.EntryChange.{EntryChange}
use Rattle.edge_fold.specs.Gathered.{given_numbers}
use Rattle.edge_fold.specs.Contributions.{reduced_at}
use Rattle.edge_fold.proofs.Ascending.{ascends_more, no_numbers}
use Rattle.edge_fold.proofs.ChangedRows.{between_kept}
use Rattle.edge_fold.proofs.Gathering.{all_found, found_step, left_step, one_number_more, onto}
use Rattle.edge_fold.proofs.accumulator.Accumulator.numbers.Goals as goal

pub kept-init : goal.kept-init
kept-init c = record {
  inside = omega arith;
  passed = λ up i l. absurd (omega (arith, l));
  found = λ up r h new here there v l. absurd (omega (arith, l));
  left = λ r v h l. ap (λ (cs : List EntryChange). reduced_at r v h (given_numbers cs)) c.in_ok-numbers.ensures.items;
  ascends = no_numbers 0 c.in_ok-numbers.numbers.items c.in_ok-numbers.ensures.items;
}

pub kept-preserved : goal.kept-preserved
kept-preserved c =
    let a = c.args in
    let kept = a.kept.now in
    let index = c.kept.vertex-index in
    let next = c.kept.next in
    let k = get_or kept index 0 in
    let inside : index < length kept = c.kept-test.true in
    let from : next ≤ k = omega (arith, c.if-vertex-next.false) in
    let was = c.kept.numbers.items in
    let more = λ (r : Reduction) (v : ℕ) (h : ℤ). one_number_more r a.self.now v k h was c.push_number.new.numbers.items c.in_ok-push_number.ensures in
    record {
      inside = omega (arith, c.if-vertices-vertex.false);
      passed = λ up i l. let most = up i index 0 (omega (arith, l)) inside in inl (omega (arith, most));
      found = λ up r h new here there v l.
          let y = reduced_at r v h (given_numbers was) in
          more r v h
          ∙ found_step new (λ n. onto r a.self.now v n) y h k v next from l
          (c.kept.invariant.found up r h new here there v)
          (c.kept.invariant.left r v h)
          (λ own. here v (subst (λ (u : ℕ). Contains kept u) own (Contains-get_or kept index 0 inside)))
          (λ b d. there v (omega (arith, d, c.if-vertices-vertex.false)) (between_kept kept index next a.vertices v up (c.kept.invariant.passed up) b (omega (arith, d, c.if-vertices-vertex.false))
          (λ _. d)));
      left = λ r v h l. more r v h ∙ left_step (λ n. onto r a.self.now v n) (reduced_at r v h (given_numbers was)) h k v l (c.kept.invariant.left r v h (omega (arith, from, l)));
      ascends = ascends_more a.self.now next k was c.push_number.new.numbers.items from c.in_ok-push_number.ensures c.kept.invariant.ascends;
    }

pub returns-clause-given : goal.returns-clause-given
returns-clause-given c up r h new here there v l =
    let a = c.args in
    let kept = a.kept.now in
    let index = c.kept.vertex-index in
    let next = c.kept.next in
    let done = c.kept-test.false in
    all_found (reduced_at r v h (given_numbers c.kept.numbers.items)) (new v) h v next
    (c.kept.invariant.found up r h new here there v)
    (c.kept.invariant.left r v h)
    (λ b. there v l (between_kept kept index next a.vertices v up (c.kept.invariant.passed up) b l (λ m. absurd (omega (arith, done, m)))))
