-- Proofs of `changes`, src/changes.rt.
use Rattle.std.proofs.Common.{rules, ◌<◌, ◌≤◌, ◌++◌, inl, ℤ, List, length, get_or, FitsSigned, to_z, of_z, w64, ap, sym, ◌∙◌, arith}
use Rattle.std.proofs.lemmas.Int.{to_z-of_z}
use Rattle.std.proofs.lemmas.List.Elements.{Contains-get_or}
use Rattle.vectors.specs.declared.changes.EntryChange.{EntryChange}
use Rattle.vectors.specs.Lanes.{lane_entry}
use Rattle.edge_fold.specs.Changed.{change_at}
use Rattle.edge_fold.proofs.ChangedRows.{between_kept, changed_more, changed_rest, none_yet}
use Rattle.edge_fold.proofs.accumulator.Accumulator.changes.Goals as goal

pub kept-init : goal.kept-init
kept-init c = record {
  inside = omega arith;
  passed = λ up i l. absurd (omega (arith, l));
  found = λ up given new here there. c.new-changes.ensures.items ∙ sym (none_yet (lane_entry c.args.old) new);
}

pub kept-preserved : goal.kept-preserved
kept-preserved c =
    let kept = c.args.kept.now in
    let index = c.kept.vertex-index in
    let next = c.kept.next in
    let v = get_or kept index 0 in
    let inside : index < length kept = c.kept-test.true in
    let old = lane_entry c.args.old in
    let from : next ≤ v = omega (arith, c.if-vertex-next.false) in
    record {
      inside = omega (arith, c.if-vertices-vertex.false);
      passed = λ up i l. let most = up i index 0 (omega (arith, l)) inside in inl (omega (arith, most));
      found = λ up given new here there.
          let items = c.kept.changes.items in
          let has = Contains-get_or kept index 0 inside in
          let before_fits : FitsSigned w64 c.get-before.result = search rules in
          let number_fits : FitsSigned w64 c.given.result = search rules in
          let number = to_z w64 (of_z w64 c.given.result) in
          let was = to_z-of_z w64 c.get-before.result before_fits ∙ c.get-before.ensures in
          let is = to_z-of_z w64 c.given.result number_fits ∙ c.given.ensures (given v has) (old v) ∙ sym (here v has) in
          c.in_ok-push_change.ensures
          ∙ ap (λ (y : ℤ). items ++ change_at (λ _. y) (λ _. number) v) was
          ∙ ap (λ (y : ℤ). items ++ change_at (λ _. old v) (λ _. y) v) is
          ∙ ap (λ (cs : List EntryChange). cs ++ change_at old new v) (c.kept.invariant.found up given new here there)
          ∙ changed_more old new next v from (λ u a b. there u (omega (arith, b, c.if-vertices-vertex.false))
          (between_kept kept index next c.args.vertices u up (c.kept.invariant.passed up) a (omega (arith, b, c.if-vertices-vertex.false)) (λ l. b)));
    }

pub returns : goal.returns
returns c up given new here there =
    let kept = c.args.kept.now in
    let index = c.kept.vertex-index in
    let done = c.kept-test.false in
    c.kept.invariant.found up given new here there
    ∙ changed_rest (lane_entry c.args.old) new c.kept.next c.args.vertices c.kept.invariant.inside
    (λ u a b. there u b (between_kept kept index c.kept.next c.args.vertices u up (c.kept.invariant.passed up) a b (λ l. absurd (omega (arith, done, l)))))
