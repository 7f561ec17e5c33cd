-- Proofs of `fold_passing`, src/sources.rt.
use Rattle.std.proofs.Common.{rules, ◌≡◌, ℕ, ◌++◌, [], ◌∷◌, List, length, refl, ap, sym, ◌∙◌, arith}
use Rattle.std.specs.List.{filter}
use Rattle.edge_fold.specs.Between.{firsts}
use Rattle.push_engine.specs.inside.Rows.{rows_to}
use Rattle.edge_apply.specs.Words.{passes_words}
use Rattle.edge_fold.proofs.Walks.{folded_along, pass_begun, pass_more}
use Rattle.push_engine.proofs.RowFolds.{rows_to-append}
use Rattle.push_engine.proofs.Walked.{passed_all}
use Rattle.push_engine.proofs.sources.fold_passing.Goals as goal

empty : (xs : List ℕ) → length xs ≡ 0 → xs ≡ []
empty [] e = refl
empty (x ∷ xs) e = absurd (omega (arith, e))

pub returns-then-is_empty : goal.returns-then-is_empty
returns-then-is_empty c =
    let a = c.args in
    let w = c.parts.invariant in
    let taken = c.in_ok-take_part.ensures in
    let few : length c.take_part.new.part.items ≡ 0 = search rules in
    let part_none = empty c.take_part.new.part.items few in
    let none = sym taken.taken ∙ ap (λ ks. ks ++ firsts c.take_part.new.vertices) part_none ∙ ap firsts (taken.none part_none) in
    passed_all a.from a.input.context (passes_words a.input.to) a.input.flat.now.edges w.0 (firsts c.parts.sources) a.scratch.now c.parts.scratch none w.1 w.2

pub parts-preserved : goal.parts-preserved
parts-preserved c =
    let a = c.args in
    let to = passes_words a.input.to in
    let edges = a.input.flat.now.edges in
    let w = c.parts.invariant in
    let kept = c.keep_passing.new.kept.items in (
      w.0,
      w.1,
      pass_more a.from a.input.context (rows_to to edges) (firsts w.0) (firsts c.parts.sources) c.take_part.new.part.items
          (firsts c.take_part.new.vertices) kept a.scratch.now c.parts.scratch c.fold_rows.new.scratch (rows_to-append to edges)
          c.in_ok-take_part.ensures.taken
          (λ m steps test are is. c.in_ok-keep_passing.ensures.kept m test are.vectors are.sizes is ∙ ap (λ (ks : List ℕ). ks ++ filter test c.deref.result.now) c.clear.ensures.items
          ∙ ap (filter test) c.deref.ensures.value)
          (λ m steps es are has. folded_along c.args.input.context m steps (es ++ rows_to to edges c.deref-in-parts.result.now) (es ++ rows_to to edges kept) c.fold_rows.new.scratch
          (ap (λ (ks : List ℕ). es ++ rows_to to edges ks) c.deref-in-parts.ensures.value)
          (c.in_ok-fold_rows.ensures m steps es are (c.in_ok-keep_passing.ensures.folded a.input.context m steps es has)))
          w.2,
    )

pub parts-init : goal.parts-init
parts-init c =
    let a = c.args in
    let rows_of = rows_to (passes_words a.input.to) a.input.flat.now.edges in
    let ds = c.sources-sources.result in
    (ds, c.sources-sources.ensures.degrees, pass_begun a.from a.input.context rows_of (firsts ds) a.scratch.now refl)
