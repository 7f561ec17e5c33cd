-- Proofs of `new`, src/source_degrees.rt.
use Rattle.std.proofs.Common.{◌≡◌, ℕ, ◌+◌, ◌*◌, ◌<◌, ◌≤◌, List, [], ◌∷◌, length, slice_range, take, ap, ◌∙◌, arith, length-append}
use Rattle.std.proofs.lemmas.List.{length-map, take_all}
use Rattle.crew.specs.Limits.{weight}
use Rattle.flat_snapshot.specs.Neighbours.{destinations_of}
use Rattle.push_engine.specs.inside.Degrees.{out_degrees}
use Rattle.push_engine.proofs.SourceTotals.{run_degrees, run_stop, totals_more, weight_more}
use Rattle.push_engine.proofs.source_degrees.SourceDegrees.new.Goals as goal

pub runs-preserved : goal.runs-preserved
runs-preserved c =
    let g = c.args.flat.now in
    let us = c.args.sources.now in
    let s = 64 * c.runs.run in
    let ds = out_degrees g us in
    let before = c.runs.invariant in
    let w = c.weight_of-weight.result in
    let inside : s < length us = omega (arith, c.runs-test.true, c.div_ceil-runs.ensures) in
    let run : w ≡ weight (slice_range ds s (s + 64)) =
    c.weight_of-weight.ensures.weight ∙ ap (λ (vs : List ℕ). weight (out_degrees g vs)) (run_stop us s c.min-stop.result (omega (arith, inside)) c.min-stop.ensures)
    ∙ ap weight (run_degrees g us s (s + 64)) in
    let next : s + 64 ≡ 64 * (c.runs.run + 1) = omega arith in
    let more = weight_more ds s in
    let count = before.count in
    let total = before.total in
    record {
      count = ap length c.in_ok-push.ensures.items ∙ length-append c.runs.totals.items (w ∷ []) ∙ omega (arith, count);
      runs = totals_more (λ k. weight (slice_range ds (64 * k) (64 * k + 64))) c.runs.totals.items c.push.new.self.items c.runs.run w count c.in_ok-push.ensures.items run before.runs;
      total = omega (arith, total, run, more) ∙ ap (λ n. weight (take n ds)) next;
      few = omega (arith, before.few, c.weight_of-weight.ensures.few);
    }

pub invariant_of-result : goal.invariant_of-result
invariant_of-result c =
    let us = c.args.sources.now in
    let ds = out_degrees c.args.flat.now us in
    let before = c.runs.invariant in
    let count = before.count in
    let long = length-map us (λ (u : ℕ). length (destinations_of u c.args.flat.now.edges)) in
    let all : length us ≤ 64 * c.runs.run = omega (arith, c.runs-test.false, c.div_ceil-runs.ensures) in
    record {
      room = omega (arith, all, count);
      runs = λ k inside. before.runs k (omega (arith, inside, long, all));
      whole = before.total ∙ ap weight (take_all (64 * c.runs.run) ds (omega (arith, long, all)));
    }
