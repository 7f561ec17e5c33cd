-- Proofs of `keep_passing`, src/filtering.rt.
use Rattle.std.proofs.Common.{ℕ, ◌+◌, ◌<◌, List, ◌++◌, length, drop, append_assoc, ap, ◌∙◌}
use Rattle.run_state.specs.inside.Passing.{passing}
use Rattle.run_state.proofs.Passed.{next_passing}
use Rattle.run_state.proofs.filtering.keep_passing.Goals as goal

pub indices-preserved : goal.indices-preserved
indices-preserved c =
    let block = c.args.block.now in
    let part = c.args.part.now in
    let i = c.indices.index in
    let kept = c.indices.kept.items in
    let more = passing block (i + 1) (drop (i + 1) part) in
    let inside : i < length part = c.indices-test.true in
    ap (λ (xs : List ℕ). xs ++ more) c.in_ok-keep_where.ensures
    ∙ append_assoc kept _ more
    ∙ ap (λ (xs : List ℕ). kept ++ xs) (next_passing block i i part c.passes.result c.passes.ensures inside)
    ∙ c.indices.invariant
