-- Proofs of `unsorted_with_weights`, src/updates.rt.
use Rattle.std.proofs.Common.{◌≡◌, ◌<◌, List, Some, None, length, get_or, vec_len, vec_capacity, sym, ap, subst, ◌∙◌, arith}
use Rattle.std.proofs.lemmas.List.{append-nil, map-append}
use Rattle.edge_updates.specs.WeightedUpdates.{pairs_in, weighted_pair}
use Rattle.tree_batch.specs.declared.batch.Entry.{Entry}
use Rattle.tree_batch.specs.inside.Entry.{IsUpdateOf}
use Rattle.tree_batch.proofs.Decided.{decided_more}
use Rattle.tree_batch.proofs.updates.unsorted_with_weights.Goals.{in-Some, in_default}
use Rattle.tree_batch.proofs.updates.unsorted_with_weights.Goals as goal

pub loop-index-preserved : goal.loop-index-preserved
loop-index-preserved c =
    let xs : List Entry = c.args.batch.now in
    let i = c.loop-index.index in
    let x : Entry = c.entry.result in
    let lt : i < length xs = omega (arith, c.loop-index-test.true, c.len-index-end.ensures) in
    let is : x ≡ get_or xs i x = c.entry.ensures x in
    let before = c.loop-index.updates in
    let after = c.match-update.updates in
    let known = c.loop-index.invariant in
    elim c.match-update.branch [
      | in-Some w ↦
          let u = w.in-Some.update in
          record {
            same = decided_more xs i x (pairs_in before.items) (pairs_in after.items) (Some (u.update, u.weight)) lt
                (subst (λ y. IsUpdateOf y (Some (u.update, u.weight))) is w.in-Some.ensures)
                (ap (λ v. pairs_in v.items) w.updates-is ∙ ap pairs_in w.push_reserved.ensures.items ∙ map-append weighted_pair before.items _) known.same;
            len = omega (arith, ap (λ v. vec_len v) w.updates-is, w.push_reserved.ensures.len, known.len);
            room = omega (arith, ap (λ v. vec_capacity v) w.updates-is, w.push_reserved.ensures.capacity, known.room);
          }
      | in_default w ↦ record {
        same = decided_more xs i x (pairs_in before.items) (pairs_in after.items) None lt (subst (λ y. IsUpdateOf y None) is w.in_default.ensures)
            (ap (λ v. pairs_in v.items) w.updates-is ∙ sym (append-nil (pairs_in before.items))) known.same;
        len = omega (arith, ap (λ v. vec_len v) w.updates-is, known.len);
        room = omega (arith, ap (λ v. vec_capacity v) w.updates-is, known.room);
      }
    ]
