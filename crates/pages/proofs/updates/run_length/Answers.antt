-- Proofs of `run_length`, src/updates.rt.
use Rattle.std.proofs.Common.{◌*◌, ◌%◌, ◌^◌, sym, ◌∙◌, ap, arith}
use Rattle.pages.specs.Updates.{vertex_in_page}
use Rattle.pages.proofs.UpdateRuns.{run_more, run_ends, run_ascends, no_update}
use Rattle.pages.proofs.updates.run_length.Goals as goal

pub loop-count-preserved : goal.loop-count-preserved
loop-count-preserved c =
    run_more c.args.vertex c.loop-count.count c.args.updates.now no_update (omega (arith, c.loop-count-test.true, c.len.ensures))
    (ap vertex_in_page (sym (c.update.ensures no_update)) ∙ ap (λ w. w % 64) (sym c.vertex.ensures.value) ∙ c.if-vertex.true) c.loop-count.invariant

pub returns-else-vertex-clause-run : goal.returns-else-vertex-clause-run
returns-else-vertex-clause-run c =
    (run_ends c.args.vertex c.loop-count.count c.args.updates.now no_update c.loop-count.invariant
    (λ lt at. c.if-vertex.false (ap (λ w. w % 64) c.vertex.ensures.value ∙ ap vertex_in_page (c.update.ensures no_update) ∙ at))).0

pub returns-else-vertex-clause-rest : goal.returns-else-vertex-clause-rest
returns-else-vertex-clause-rest c =
    (run_ends c.args.vertex c.loop-count.count c.args.updates.now no_update c.loop-count.invariant
    (λ lt at. c.if-vertex.false (ap (λ w. w % 64) c.vertex.ensures.value ∙ ap vertex_in_page (c.update.ensures no_update) ∙ at))).1

pub returns-else-vertex-clause-ascending : goal.returns-else-vertex-clause-ascending
returns-else-vertex-clause-ascending c =
    rw (returns-else-vertex-clause-run c) (run_ascends c.args.vertex 0 (c.args.vertex * 2 ^ 24) c.args.updates.now c.requires (omega arith))

pub returns-after-loop-count-clause-ascending : goal.returns-after-loop-count-clause-ascending
returns-after-loop-count-clause-ascending c =
    let run = (run_ends c.args.vertex c.loop-count.count c.args.updates.now no_update c.loop-count.invariant (λ lt. absurd (omega (arith, lt)))).0 in
    rw run (run_ascends c.args.vertex 0 (c.args.vertex * 2 ^ 24) c.args.updates.now c.requires (omega arith))
