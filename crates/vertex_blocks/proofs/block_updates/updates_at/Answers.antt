-- Proofs of `updates_at`, src/block_updates.rt.
use Rattle.std.proofs.Common.{◌≡◌, ◌∙◌, ◌%◌, ◌+◌, ◌<◌, ◌∷◌, length, drop, get_or, length-drop, ap, arith}
use Rattle.std.proofs.lemmas.List.{drop_more}
use Rattle.pages.specs.Updates.{vertex_in_page}
use Rattle.pages.proofs.UpdateRuns.{no_update}
use Rattle.vertex_blocks.proofs.Updating.{skip_one, from_vertex}
use Rattle.vertex_blocks.proofs.block_updates.updates_at.Goals.{then-loop-start-test+else-vertex, else-loop-start-test}
use Rattle.vertex_blocks.proofs.block_updates.updates_at.Goals as goal

pub loop-start-preserved : goal.loop-start-preserved
loop-start-preserved c =
    let l = c.loop-start in
    let at = ap vertex_in_page (c.update.ensures no_update) in
    let next = skip_one c.args.vertex l.start c.args.updates.now no_update (omega (arith, c.loop-start-test.true, c.len.ensures))
    (omega (arith, at, ap (λ w. w % 64) c.vertex.ensures.value, c.if-vertex.true)) l.invariant.coming in
    record { within = omega (arith, c.loop-start-test.true, c.len.ensures); coming = next.0; same = next.1 ∙ l.invariant.same }

pub run_length-requires : goal.run_length-requires
run_length-requires c =
    let l = c.loop-start in
    let us = c.args.updates.now in
    elim c.loop-start-test.branch [
      | then-loop-start-test+else-vertex w ↦
          let lt : l.start < length us = omega (arith, w.loop-start-test.true, c.len.ensures) in
          let cells : drop l.start us ≡ get_or us l.start no_update ∷ drop (l.start + 1) us = drop_more us l.start no_update lt in
          let at = ap (λ xs. vertex_in_page (get_or xs 0 no_update).0) cells in
          let here = ap vertex_in_page (w.update.ensures no_update) in
          rw c.split_at-rest.ensures.back (from_vertex c.args.vertex (drop l.start us) no_update l.invariant.coming
          (λ some. omega (arith, at, here, ap (λ w. w % 64) w.vertex.ensures.value, w.if-vertex.false)))
      | else-loop-start-test w ↦
          rw c.split_at-rest.ensures.back (from_vertex c.args.vertex (drop l.start us) no_update l.invariant.coming
          (λ some. absurd (omega (arith, some, length-drop l.start us, w.loop-start-test.false, c.len.ensures))))
    ]
