-- Proofs of `unsorted`, src/updates.rt.
use Rattle.std.proofs.Common.{◌≡◌, ◌<◌, pos, List, Some, None, map, length, get_or, vec_len, vec_capacity, sym, ap, subst, ◌∙◌, arith}
use Rattle.std.proofs.lemmas.List.{append-nil, map-append}
use Rattle.edge_updates.specs.Updates.{unit_pair}
use Rattle.tree_batch.specs.declared.batch.Entry.{Entry}
use Rattle.tree_batch.specs.inside.Entry.{IsUpdateOf}
use Rattle.tree_batch.proofs.Decided.{decided_more}
use Rattle.tree_batch.proofs.UnitWeights.{unit_update, none_weighted}
use Rattle.tree_batch.proofs.updates.unsorted.Goals.{in-Some, in_default}
use Rattle.tree_batch.proofs.updates.unsorted.Goals as goal

pub loop-index-preserved : goal.loop-index-preserved
loop-index-preserved c =
    let xs : List Entry = c.args.batch.now in
    let i = c.loop-index.index in
    let x : Entry = c.entry.result in
    let lt : i < length xs = omega (arith, c.loop-index-test.true, c.len-index-end.ensures) in
    let is : x ≡ get_or xs i x = c.entry.ensures x in
    let before = c.loop-index.updates in
    let after = c.match-update.updates in
    let known = c.loop-index.invariant in
    elim c.match-update.branch [
      | in-Some w ↦
          let u = w.in-Some.update in
          record {
            same = decided_more xs i x (map unit_pair before.items) (map unit_pair after.items) (Some (u.update, pos 1)) lt
                (unit_update _ (u.update, u.weight) (none_weighted xs i x c.requires.unweighted lt) (subst (λ y. IsUpdateOf y (Some (u.update, u.weight))) is w.in-Some.ensures))
                (ap (λ v. map unit_pair v.items) w.updates-is ∙ ap (map unit_pair) w.push_reserved.ensures.items ∙ map-append unit_pair before.items _) known.same;
            len = omega (arith, ap (λ v. vec_len v) w.updates-is, w.push_reserved.ensures.len, known.len);
            room = omega (arith, ap (λ v. vec_capacity v) w.updates-is, w.push_reserved.ensures.capacity, known.room);
          }
      | in_default w ↦ record {
        same = decided_more xs i x (map unit_pair before.items) (map unit_pair after.items) None lt (subst (λ y. IsUpdateOf y None) is w.in_default.ensures)
            (ap (λ v. map unit_pair v.items) w.updates-is ∙ sym (append-nil (map unit_pair before.items))) known.same;
        len = omega (arith, ap (λ v. vec_len v) w.updates-is, known.len);
        room = omega (arith, ap (λ v. vec_capacity v) w.updates-is, known.room);
      }
    ]
