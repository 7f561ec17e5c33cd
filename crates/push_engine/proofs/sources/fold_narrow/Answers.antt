-- Proofs of `fold_narrow`, src/sources.rt.
use Rattle.std.proofs.Common.{◌+◌, drop, take, refl, sym, ap, ◌∙◌, subst, arith}
use Rattle.std.specs.List.{filter}
use Rattle.std.specs.Map.{keys_of}
use Rattle.std.proofs.lemmas.List.{drop-drop, drop-map, drop_all}
use Rattle.edge_fold.specs.declared.scratch.Scratch.{Scratch}
use Rattle.edge_fold.proofs.Walks.{HasWalked, parts_of, walk_begun, walk_done, walk_more}
use Rattle.edge_apply.specs.Words.{passes_words}
use Rattle.push_engine.proofs.Blocks.{keys_kept}
use Rattle.push_engine.proofs.Walked.{row_in_row, row_to}
use Rattle.push_engine.proofs.sources.fold_narrow.Goals as goal

pub returns-then-done : goal.returns-then-done
returns-then-done c = c.in_ok-done.ensures.folded c.if-done.true

pub parts-init : goal.parts-init
parts-init c =
    let a = c.args in
    let row = row_to (passes_words a.input.to) a.source in
    record {
      within = omega arith;
      walked = subst (λ (s : Scratch). HasWalked a.input.context row a.list.now a.list.now a.scratch.now s) (sym (c.in_ok-done.ensures.unchanged c.if-done.false))
          (walk_begun a.input.context row a.list.now a.scratch.now refl);
    }

pub parts-preserved : goal.parts-preserved
parts-preserved c =
    let a = c.args in
    let to = passes_words a.input.to in
    let u = a.source in
    let f = c.parts.first in
    let n = c.min-count.result in
    let coming = drop f a.list.now in
    let part = take n coming in
    let rest = drop (f + n) a.list.now in
    let kept = take c.read_passing-kept.result c.read_passing-kept.new.keys in
    let read = c.read_passing-kept.ensures.kept ∙ ap (λ ks. filter to (take n ks)) (drop-map (λ e. e.0) f a.list.now) in
    let same = keys_kept to n coming (keys_of coming) kept refl read in
    record {
      within = omega arith;
      walked = walk_more a.input.context (row_to to u) a.list.now coming part rest a.scratch.now c.parts.scratch c.fold.new.self
          (row_in_row to u) (parts_of n coming part rest refl (sym (drop-drop n f a.list.now)))
          (λ m steps es are has. c.in_ok-fold.ensures m steps es (filter (λ e. to e.0) part) same are has)
          c.parts.invariant.walked;
    }

pub returns : goal.returns
returns c =
    let a = c.args in
    let none = drop_all c.parts.first a.list.now (omega (arith, c.parts-test.false, c.len-len.ensures.count)) in
    walk_done a.input.context (row_to (passes_words a.input.to) a.source) a.list.now (drop c.parts.first a.list.now) a.scratch.now c.parts.scratch none c.parts.invariant.walked
