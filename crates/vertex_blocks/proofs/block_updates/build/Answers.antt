-- Proofs of `build`, src/block_updates.rt.
use Rattle.std.proofs.Common.{◌≡◌, ◌≢◌, ℕ, ◌%◌, [], sym, ◌∙◌, ap, arith}
use Rattle.std.specs.Option.{option_copied}
use Rattle.pages.specs.Vertices.{neighbours_of}
use Rattle.pages.specs.Updates.{updated, updates_of}
use Rattle.pages.proofs.Steps.{first_vertex}
use Rattle.vertex_blocks.specs.Blocks.{vertices_at}
use Rattle.vertex_blocks.specs.inside.Steps.{list_after}
use Rattle.vertex_blocks.proofs.Carrying.{built_none, built_rises, built_put}
use Rattle.vertex_blocks.proofs.Putting.{some_then}
use Rattle.vertex_blocks.proofs.Updating.{kept_to, updated_at}
use Rattle.vertex_blocks.proofs.block_updates.build.Goals as goal

pub loop-first-init : goal.loop-first-init
loop-first-init c = record {
  low = omega arith;
  built = rw (c.in_ok-building.ensures.page, c.in_ok-building.ensures.long) (built_none (list_after c.args.updates.now (option_copied c.args.old)));
  coming = rw c.lend-rest.ensures c.requires.updates;
  passed = λ u le. ap (updates_of u) (sym c.lend-rest.ensures);
}

pub carry-requires-clause-order : goal.carry-requires-clause-order
carry-requires-clause-order c =
    let l = c.loop-first in
    let v : ℕ = c.vertex-vertex.result % 64 in
    (first_vertex l.low v (c.in-Some.first, c.in-Some.ensures.0) c.in-Some.ensures.1 l.rest (ap (λ w. w % 64) c.vertex-vertex.ensures.value) c.in-Some.ensures.2 l.invariant.coming).0

pub carry-requires-clause-built : goal.carry-requires-clause-built
carry-requires-clause-built c = (list_after c.args.updates.now (option_copied c.args.old), c.loop-first.invariant.built)

pub push_updated-requires-clause-above_page : goal.push_updated-requires-clause-above_page
push_updated-requires-clause-above_page c =
    let l = c.loop-first in
    let v : ℕ = c.vertex-vertex.result % 64 in
    let us = c.args.updates.now in
    let old = option_copied c.args.old in
    let first = first_vertex l.low v (c.in-Some.first, c.in-Some.ensures.0) c.in-Some.ensures.1 l.rest (ap (λ w. w % 64) c.vertex-vertex.ensures.value) c.in-Some.ensures.2 l.invariant.coming in
    (built_rises (list_after us old) v _ _ (c.in_ok-carry.ensures (list_after us old) l.invariant.built (kept_to us old l.low v l.rest first.2 l.invariant.passed))).0

pub push_updated-requires-clause-above_long : goal.push_updated-requires-clause-above_long
push_updated-requires-clause-above_long c =
    let l = c.loop-first in
    let v : ℕ = c.vertex-vertex.result % 64 in
    let us = c.args.updates.now in
    let old = option_copied c.args.old in
    let first = first_vertex l.low v (c.in-Some.first, c.in-Some.ensures.0) c.in-Some.ensures.1 l.rest (ap (λ w. w % 64) c.vertex-vertex.ensures.value) c.in-Some.ensures.2 l.invariant.coming in
    (built_rises (list_after us old) v _ _ (c.in_ok-carry.ensures (list_after us old) l.invariant.built (kept_to us old l.low v l.rest first.2 l.invariant.passed))).1

pub push_updated-requires-clause-updates : goal.push_updated-requires-clause-updates
push_updated-requires-clause-updates c = rw c.split_at-run.ensures.front c.run_length.ensures.ascending

pub push_updated-requires-clause-ready : goal.push_updated-requires-clause-ready
push_updated-requires-clause-ready c =
    let l = c.loop-first in
    let v : ℕ = c.vertex-vertex.result % 64 in
    let us = c.args.updates.now in
    let old = option_copied c.args.old in
    let first = first_vertex l.low v (c.in-Some.first, c.in-Some.ensures.0) c.in-Some.ensures.1 l.rest (ap (λ w. w % 64) c.vertex-vertex.ensures.value) c.in-Some.ensures.2 l.invariant.coming in
    some_then (option_copied c.args.ready) _ _ (λ r h at. h ∙ ap (list_after us old) at
    ∙ sym (updated_at us old l.low v l.rest c.split_at-run.result.0 first.0 l.invariant.passed (c.split_at-run.ensures.front ∙ c.run_length.ensures.run))) c.requires.ready

pub loop-first-preserved : goal.loop-first-preserved
loop-first-preserved c =
    let l = c.loop-first in
    let v : ℕ = c.vertex-vertex.result % 64 in
    let us = c.args.updates.now in
    let old = option_copied c.args.old in
    let first = first_vertex l.low v (c.in-Some.first, c.in-Some.ensures.0) c.in-Some.ensures.1 l.rest (ap (λ w. w % 64) c.vertex-vertex.ensures.value) c.in-Some.ensures.2 l.invariant.coming in
    let carried = c.in_ok-carry.ensures (list_after us old) l.invariant.built (kept_to us old l.low v l.rest first.2 l.invariant.passed) in
    record {
      low = omega (arith, first.1);
      built = built_put (list_after us old) v (updated (neighbours_of v (vertices_at old)) c.split_at-run.result.0) _ _ _ _ carried c.in_ok-push_updated.ensures
          (updated_at us old l.low v l.rest c.split_at-run.result.0 first.0 l.invariant.passed (c.split_at-run.ensures.front ∙ c.run_length.ensures.run));
      coming = rw c.split_at-run.ensures.back c.run_length.ensures.rest;
      passed = λ u ge.
          let other : u ≢ v = omega arith in
          l.invariant.passed u (omega (arith, first.0)) ∙ c.run_length.ensures.others u other ∙ ap (updates_of u) (sym c.split_at-run.ensures.back);
    }

pub carry-requires-2-clause-built : goal.carry-requires-2-clause-built
carry-requires-2-clause-built c = (list_after c.args.updates.now (option_copied c.args.old), c.loop-first.invariant.built)

pub returns : goal.returns
returns c =
    let l = c.loop-first in
    let us = c.args.updates.now in
    let old = option_copied c.args.old in
    let none : l.rest ≡ [] = c.in_default.ensures in
    c.in_ok-carry-2.ensures (list_after us old) l.invariant.built (λ u ge lt. ap (updated (neighbours_of u (vertices_at old))) (l.invariant.passed u ge ∙ ap (updates_of u) none))
