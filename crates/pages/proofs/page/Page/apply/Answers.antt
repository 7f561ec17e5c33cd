-- Proofs of `apply`, src/applying.rt.
use Rattle.std.proofs.Common.{◌≡◌, ◌≢◌, ℕ, ◌%◌, [], ◌++◌, slice_range, sym, ◌∙◌, ap, arith}
use Rattle.pages.specs.Vertices.{neighbours_of, count_below}
use Rattle.pages.specs.Updates.{updated, updates_of}
use Rattle.pages.specs.inside.Built.{entry_of}
use Rattle.pages.proofs.Building.{below_up, below_all}
use Rattle.pages.proofs.Steps.{first_vertex, carried_rises, updated_to, all_updated}
use Rattle.pages.proofs.page.Page.apply.Goals as goal

pub push_updated-requires-clause-order : goal.push_updated-requires-clause-order
push_updated-requires-clause-order c =
    let l = c.loop-first in
    let v : ℕ = c.vertex-vertex.result % 64 in
    (first_vertex l.low v (c.in-Some.first, c.in-Some.ensures.0) c.in-Some.ensures.1 l.rest (ap (λ w. w % 64) c.vertex-vertex.ensures.value) c.in-Some.ensures.2 l.invariant.coming).0

pub push_updated-requires-clause-few : goal.push_updated-requires-clause-few
push_updated-requires-clause-few c =
    let l = c.loop-first in
    let v : ℕ = c.vertex-vertex.result % 64 in
    let first = first_vertex l.low v (c.in-Some.first, c.in-Some.ensures.0) c.in-Some.ensures.1 l.rest (ap (λ w. w % 64) c.vertex-vertex.ensures.value) c.in-Some.ensures.2 l.invariant.coming in
    rw (c.split_at-run.ensures.front, c.run_length.ensures.run, ← l.invariant.passed v first.0) (c.requires.few v first.1)

pub push_updated-requires-clause-map : goal.push_updated-requires-clause-map
push_updated-requires-clause-map c =
    let l = c.loop-first in
    let v : ℕ = c.vertex-vertex.result % 64 in
    let first = first_vertex l.low v (c.in-Some.first, c.in-Some.ensures.0) c.in-Some.ensures.1 l.rest (ap (λ w. w % 64) c.vertex-vertex.ensures.value) c.in-Some.ensures.2 l.invariant.coming in
    rw l.invariant.page (carried_rises c.args.self.now c.in_ok-page.ensures.page c.args.updates.now l.low v l.rest first.0 first.2 l.invariant.passed)

pub push_updated-requires-clause-updates : goal.push_updated-requires-clause-updates
push_updated-requires-clause-updates c =
    rw c.split_at-run.ensures.front c.run_length.ensures.ascending

pub loop-first-preserved : goal.loop-first-preserved
loop-first-preserved c =
    let l = c.loop-first in
    let v : ℕ = c.vertex-vertex.result % 64 in
    let first = first_vertex l.low v (c.in-Some.first, c.in-Some.ensures.0) c.in-Some.ensures.1 l.rest (ap (λ w. w % 64) c.vertex-vertex.ensures.value) c.in-Some.ensures.2 l.invariant.coming in
    let run : c.split_at-run.result.0 ≡ updates_of v l.rest = c.split_at-run.ensures.front ∙ c.run_length.ensures.run in
    let es = c.args.self.now in
    record {
      low = omega (arith, first.1);
      page = c.in_ok-push_updated.ensures ∙ ap (λ p. p ++ slice_range es (count_below l.low es) (count_below v es)
          ++ entry_of v (updated (neighbours_of v es) c.split_at-run.result.0)) l.invariant.page
          ∙ updated_to es c.in_ok-page.ensures.page c.args.updates.now l.low v l.rest c.split_at-run.result.0 first.0 first.2 l.invariant.passed run;
      coming = rw c.split_at-run.ensures.back c.run_length.ensures.rest;
      passed = λ u ge.
          let other : u ≢ v = omega arith in
          l.invariant.passed u (omega (arith, first.0)) ∙ c.run_length.ensures.others u other ∙ ap (updates_of u) (sym c.split_at-run.ensures.back);
    }

pub push_run-requires-clause-order : goal.push_run-requires-clause-order
push_run-requires-clause-order c = omega (arith, c.index.ensures.index, c.index-2.ensures.index, below_up c.loop-first.low 64 c.args.self.now c.loop-first.invariant.low)

pub push_run-requires-clause-within : goal.push_run-requires-clause-within
push_run-requires-clause-within c = omega (arith, c.index-2.ensures.index, below_all 64 c.args.self.now)

pub push_run-requires-clause-map : goal.push_run-requires-clause-map
push_run-requires-clause-map c =
    let l = c.loop-first in
    let none : l.rest ≡ [] = c.in_default.ensures in
    rw (l.invariant.page, c.index.ensures.index, c.index-2.ensures.index)
    (carried_rises c.args.self.now c.in_ok-page.ensures.page c.args.updates.now l.low 64 [] l.invariant.low tt (λ u ge. l.invariant.passed u ge ∙ ap (updates_of u) none))

pub returns : goal.returns
returns c =
    let l = c.loop-first in
    let none : l.rest ≡ [] = c.in_default.ensures in
    all_updated c.args.self.now c.in_ok-page.ensures.page c.args.updates.now l.low 64 c.index.result c.index-2.result c.push_run.new.self l.page l.invariant.low
    (λ u ge. l.invariant.passed u ge ∙ ap (updates_of u) none) l.invariant.page c.index.ensures.index c.index-2.ensures.index c.in_ok-push_run.ensures.ok
