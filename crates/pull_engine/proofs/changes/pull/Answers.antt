-- Proofs of `pull`, src/changes.rt.
use Rattle.std.proofs.Common.{◌≡◌, ◌<◌, ◌-◌, ◌∙◌, ℕ, ℤ, List, IfSome, Option, ap, sym, subst, arith}
use Rattle.std.proofs.lemmas.Result.{IfOk-weaker}
use Rattle.edge_apply.specs.Words.{passes_words}
use Rattle.edge_apply.proofs.Filtered.{between_agree, changes_along}
use Rattle.edge_fold.specs.Between.{edges_between}
use Rattle.edge_fold.specs.Contributions.{all_given}
use Rattle.edge_fold.specs.declared.apply_context.ApplyContext.{ApplyContext}
use Rattle.pull_engine.specs.inside.Masked.{IsMaskOf}
use Rattle.pull_engine.specs.inside.Pulls.{IsRangeChanged}
use Rattle.pull_engine.specs.Ranges.{AreChangesFrom}
use Rattle.pull_engine.specs.declared.ranges.PullRange.{PullRange}
use Rattle.pull_engine.proofs.Shaped.{shape_gives_only, whole_changes}
use Rattle.pull_engine.proofs.changes.pull.Goals as goal

pub pull_shape-requires-clause-mask : goal.pull_shape-requires-clause-mask
pull_shape-requires-clause-mask c =
    let a = c.args.apply.now in
    let from = passes_words c.words-from.result in
    subst (λ (f : ApplyContext). IsMaskOf c.apply_shape-shape.result f.vectors.now.vectors from c.deref.result.now) (sym c.context-context.ensures.context)
    (subst (λ (xs : List ℤ). IsMaskOf c.apply_shape-shape.result a.vectors.now.vectors from xs) (sym c.deref.ensures.value) c.in_ok-masked.ensures)

pub returns-in_default-clause-changes : goal.returns-in_default-clause-changes
returns-in_default-clause-changes c =
    let g = c.args.apply.now.flat.now in
    let context = c.context-context.ensures.context in
    let count = ap (λ (f : ApplyContext). f.vertices) context in
    let start = ap (λ (f : ApplyContext). f.start) context in
    let from = passes_words c.words-from.result in
    IfOk-weaker c.pull_folded.result _ _
    (λ cs changes m steps test to vectors sizes kernels is_from is_to.
    let reads = c.context-context.ensures.reads m steps (record { vectors = vectors; sizes = sizes; kernels = kernels }) in
    let passing : (v : ℕ) → v < g.vertices → test v ≡ from v = λ v l. sym (c.words-from.ensures v
    ∙ c.in_ok-sources.ensures.passing m test reads.vectors reads.sizes is_from v (omega (arith, count, l))) in
    changes_along g.vertices _ _ m steps cs.vectors.items (between_agree g test from to c.context-context.ensures.graph passing) (changes m steps to reads count start is_to))
    c.pull_folded.ensures.changes

pub returns-clause-changes : goal.returns-clause-changes
returns-clause-changes c =
    let a = c.args.apply.now in
    let g = a.flat.now in
    let context = c.context-context.ensures.context in
    let count = ap (λ (f : ApplyContext). f.vertices) context in
    let from = passes_words c.words-from.result in
    let y = c.in-Some.target.vector in
    let found = c.in_ok-changes.changes in
    let vertices = c.vertices.ensures.count in
    IfOk-weaker c.changes_in.result _ _
    (λ cs each m steps test to same sizes kernels is_from is_to.
    let reads = c.context-context.ensures.reads m steps (record { vectors = same; sizes = sizes; kernels = kernels }) in
    let passing : (v : ℕ) → v < g.vertices → test v ≡ from v = λ v l. sym (c.words-from.ensures v
    ∙ c.in_ok-sources.ensures.passing m test reads.vectors reads.sizes is_from v (omega (arith, count, l))) in
    let edges = edges_between from to g.edges in
    let range : PullRange = record { flat = a.flat; context = c.context-context.result; from = c.words-from.result; to = a.to; low = 0; high = c.vertices.result; masked = c.deref.result } in
    let changed = subst (λ (o : Option ℕ). IfSome o (λ v. IsRangeChanged range v found.items)) c.in-Some.ensures.some c.in_ok-changes.ensures in
    let all : c.vertices.result - 0 ≡ g.vertices = omega (arith, vertices) in
    changes_along g.vertices _ _ m steps cs.vectors.items (between_agree g test from to c.context-context.ensures.graph passing)
    (whole_changes y g.vertices edges m steps found.items cs.vectors.items each
    (λ e. shape_gives_only c.apply_shape-shape.result y m e (all_given m steps e) c.in-Some.ensures.some
    (c.apply_shape-shape.ensures m c.context-context.result.sizes.now steps reads.sizes reads.kernels e))
    (subst (λ (n : ℕ). AreChangesFrom y 0 n edges m steps found.items) all (changed m steps to reads is_to))))
    c.changes_in.ensures.changes
