-- Proofs of `collect_added`, src/runs.rt.
use Rattle.std.proofs.Common.{◌≡◌, ◌<◌, w64, ◌∷◌, [], ◌++◌, length, get_or, refl, sym, ◌∙◌, ap, arith, rules}
use Rattle.std.proofs.lemmas.Int.{to_z-of_z}
use mir.Val.{SFits, to_z, of_z}
use Rattle.pages.proofs.UpdateRuns.{no_update}
use Rattle.vertex_blocks.specs.inside.Runs.{added_in}
use Rattle.vertex_blocks.proofs.Decisions.{added_ascend, parted_end, next_added, none_added}
use Rattle.edge_updates.specs.EdgeUpdate.{neighbour_of}
use Rattle.vertex_blocks.proofs.runs.collect_added.Goals.{then-is_added+in_ok-push, else-is_added}
use Rattle.vertex_blocks.proofs.runs.collect_added.Goals as goal

pub loop-index-preserved : goal.loop-index-preserved
loop-index-preserved c =
    let l = c.loop-index in
    let cs = c.args.updates.now in
    let u = c.update-update.result in
    let v = (get_or cs l.index no_update).1 in
    let lt : l.index < length cs = omega (arith, c.loop-index-test.true, c.len-index-end.ensures) in
    let pair : (u, v) ≡ get_or cs l.index no_update = ap (λ x. (x, v)) (c.update-update.ensures no_update) in
    elim c.if-is_added.branch [
      | then-is_added+in_ok-push w ↦
          let fits : SFits w64 w.weight.result = search rules in
          let read : to_z w64 (of_z w64 w.weight.result) ≡ v = to_z-of_z w64 w.weight.result fits ∙ w.weight.ensures no_update in
          rw w.added-is (next_added cs l.index u v lt pair l.added w.push.new.self (sym c.is_added.ensures ∙ w.if-is_added.true)
          (w.in_ok-push.ensures ∙ ap (λ n. l.added ++ (n, to_z w64 (of_z w64 w.weight.result)) ∷ []) w.neighbour.ensures.value ∙ ap (λ x. l.added ++ (neighbour_of u, x) ∷ []) read) l.invariant)
      | else-is_added w ↦ rw w.added-is (none_added cs l.index u v lt pair l.added (sym c.is_added.ensures ∙ w.if-is_added.false) l.invariant)
    ]

pub returns-clause-ascending : goal.returns-clause-ascending
returns-clause-ascending c =
    let l = c.loop-index in
    rw (parted_end l.index added_in c.args.updates.now l.added refl (omega (arith, c.loop-index-test.false, c.len-index-end.ensures)) l.invariant) (added_ascend 0 c.args.updates.now c.requires)
