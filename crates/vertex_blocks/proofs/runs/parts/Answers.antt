-- Proofs of `parts`, src/runs.rt.
use Rattle.std.proofs.Common.{◌≡◌, ◌<◌, ℤ, w64, ◌∷◌, [], ◌++◌, length, length-append, get_or, refl, sym, ◌∙◌, ap, arith, rules}
use Rattle.std.specs.List.{zip}
use Rattle.std.proofs.lemmas.Int.{to_z-of_z}
use mir.Val.{SFits, to_z, of_z}
use Rattle.tail_codec.proofs.Columns.{zip_append}
use Rattle.pages.proofs.UpdateRuns.{no_update}
use Rattle.vertex_blocks.specs.inside.Runs.{added_in, removed_in}
use Rattle.vertex_blocks.proofs.Decisions.{added_ascend, removed_ascend, parted_end, next_added, none_added, next_removed, none_removed}
use Rattle.edge_updates.specs.EdgeUpdate.{neighbour_of}
use Rattle.vertex_blocks.proofs.runs.parts.Goals.{then-is_added+in_ok-push+in_ok-push-2, else-is_added+in_ok-push-3}
use Rattle.vertex_blocks.proofs.runs.parts.Goals as goal

pub returns-clause-added : goal.returns-clause-added
returns-clause-added c =
    let l = c.loop-index in
    c.new.ensures ∙ parted_end l.index added_in c.args.updates.now (zip l.added.items l.weights.items) refl (omega (arith, c.loop-index-test.false, c.len-index-end.ensures)) l.invariant.added

pub returns-clause-added_ascend : goal.returns-clause-added_ascend
returns-clause-added_ascend c = rw (returns-clause-added c) (added_ascend 0 c.args.updates.now c.requires)

pub returns-clause-removed_ascend : goal.returns-clause-removed_ascend
returns-clause-removed_ascend c =
    rw (parted_end c.loop-index.index removed_in c.args.updates.now c.loop-index.removed.items refl (omega (arith, c.loop-index-test.false, c.len-index-end.ensures)) c.loop-index.invariant.removed)
    (removed_ascend 0 c.args.updates.now c.requires)

pub loop-index-preserved : goal.loop-index-preserved
loop-index-preserved c =
    let l = c.loop-index in
    let cs = c.args.updates.now in
    let u = c.update-update.result in
    let v = (get_or cs l.index no_update).1 in
    let ks = l.added.items in
    let ws = l.weights.items in
    let lt : l.index < length cs = omega (arith, c.loop-index-test.true, c.len-index-end.ensures) in
    let pair : (u, v) ≡ get_or cs l.index no_update = ap (λ x. (x, v)) (c.update-update.ensures no_update) in
    elim c.if-is_added.branch [
      | then-is_added+in_ok-push+in_ok-push-2 w ↦
          let fits : SFits w64 w.weight.result = search rules in
          let read : to_z w64 (of_z w64 w.weight.result) ≡ v = to_z-of_z w64 w.weight.result fits ∙ w.weight.ensures no_update in
          let keys : w.push.new.self.items ≡ ks ++ neighbour_of u ∷ [] = w.in_ok-push.ensures.items ∙ ap (λ n. ks ++ n ∷ []) c.neighbour-neighbour.ensures.value in
          let weights : w.push-then-is_added.new.self.items ≡ ws ++ v ∷ [] = w.in_ok-push-2.ensures.items ∙ ap (λ (x : ℤ). ws ++ x ∷ []) read in
          let more : zip w.push.new.self.items w.push-then-is_added.new.self.items ≡ zip ks ws ++ (neighbour_of u, v) ∷ [] =
          ap (λ xs. zip xs w.push-then-is_added.new.self.items) keys ∙ ap (λ xs. zip (ks ++ neighbour_of u ∷ []) xs) weights ∙ zip_append ks (neighbour_of u ∷ []) ws (v ∷ []) l.invariant.columns in
          let is = sym c.is_added.ensures ∙ w.if-is_added.true in
          rw (w.added-is, w.weights-is, w.removed-is) (record {
            columns = omega (arith, ap length keys, ap length weights, length-append ks (neighbour_of u ∷ []), length-append ws (v ∷ []), l.invariant.columns);
            added = next_added cs l.index u v lt pair (zip ks ws) (zip w.push.new.self.items w.push-then-is_added.new.self.items) is more l.invariant.added;
            removed = none_removed cs l.index u v lt pair l.removed.items is l.invariant.removed;
          })
      | else-is_added+in_ok-push-3 w ↦
          let isnt = sym c.is_added.ensures ∙ w.if-is_added.false in
          rw (w.added-is, w.weights-is, w.removed-is) (record {
            columns = l.invariant.columns;
            added = none_added cs l.index u v lt pair (zip ks ws) isnt l.invariant.added;
            removed = next_removed cs l.index u v lt pair l.removed.items w.push-else-is_added.new.self.items isnt
                (w.in_ok-push-3.ensures.items ∙ ap (λ n. l.removed.items ++ n ∷ []) c.neighbour-neighbour.ensures.value) l.invariant.removed;
          })
    ]
