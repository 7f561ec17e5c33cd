-- Proofs of `filtered`, src/filtering.rt.
use Rattle.std.proofs.Common.{rules, ◌≡◌, ℕ, List, ◌++◌, length, take, zero-add, append-nil, append_assoc, refl, ap, ap₂, sym, subst, ◌∙◌, arith}
use Rattle.std.specs.List.{filter}
use Rattle.std.proofs.lemmas.List.Elements.{filter-append}
use Rattle.algorithm_meaning.specs.Function.{result_of}
use Rattle.kernels.specs.Kernels.{HasRegisters, passes_at}
use Rattle.kernels.specs.RegisterCounts.{RegisterCounts}
use Rattle.vertex_sets.specs.VertexSet.{IsAscendingBelow}
use Rattle.run_state.specs.inside.Passing.{passing}
use Rattle.run_state.proofs.Passed.{Ascends, ascending_of, ascends, kept_ascend, none_left, parts_of, passing_is}
use Rattle.run_state.proofs.filtering.filtered.Goals as goal

pub parts-init : goal.parts-init
parts-init c =
    let n = c.args.set.now.vertices in
    let all = c.args.set.now.members in
    let begun : c.new-kept.result.items ++ c.iter-left.result ≡ all = ap₂ (λ (xs ys : List ℕ). xs ++ ys) c.new-kept.ensures.items c.iter-left.ensures.members in
    record {
      size = refl;
      ascending = subst (Ascends n 0) (sym begun) (ascends n all c.iter-left.ensures.valid);
      room = subst (λ (room : RegisterCounts). HasRegisters c.make_room.new.self room) c.room.ensures c.in_ok-make_room.ensures.room;
      passed = λ steps m is same has. ap₂ (λ (xs ys : List ℕ). xs ++ filter (result_of steps m.sets m.vectors) ys) c.new-kept.ensures.items c.iter-left.ensures.members;
    }

pub from_ascending-requires : goal.from_ascending-requires
from_ascending-requires c =
    let n = c.args.set.now.vertices in
    let left = c.parts.left in
    let kept = c.parts.kept.items in
    let size = c.parts.invariant.size in
    let count = c.take_part-count.ensures.count in
    let empty = c.if-count-eq0.true in
    let few : length left ≡ 0 = omega arith in
    let all = ascending_of n kept (subst (Ascends n 0) (ap (λ (xs : List ℕ). kept ++ xs) (none_left n left few) ∙ append-nil kept) c.parts.invariant.ascending) in
    subst (λ (k : ℕ). IsAscendingBelow k c.deref.result.now) (sym c.vertices.ensures) (subst (λ (xs : List ℕ). IsAscendingBelow n xs) (sym c.deref.ensures.value) all)

pub parts-preserved : goal.parts-preserved
parts-preserved c =
    let set = c.args.set.now in
    let left = c.parts.left in
    let kept = c.parts.kept.items in
    let n = c.take_part-count.result in
    let part = take n c.take_part-count.new.part in
    let rest = c.take_part-count.new.vertices in
    let block = c.run.new.block in
    let whole : part ++ rest ≡ left = parts_of n left part rest c.take_part-count.ensures.taken c.take_part-count.ensures.rest in
    record {
      size = search rules;
      ascending =
          subst (Ascends set.vertices 0) (sym (ap (λ (xs : List ℕ). xs ++ rest) c.in_ok-keep_passing.ensures ∙ append_assoc kept (passing block 0 part) rest))
          (kept_ascend block set.vertices 0 kept part rest (subst (Ascends set.vertices 0) (ap (λ (xs : List ℕ). kept ++ xs) (sym whole)) c.parts.invariant.ascending));
      room = c.run.ensures.keeps c.args.kernel.now.room c.parts.invariant.room;
      passed = λ steps m is same has.
          let test = result_of steps m.sets m.vectors in
          ap (λ (xs : List ℕ). xs ++ filter test rest)
          (c.in_ok-keep_passing.ensures ∙ ap (λ (xs : List ℕ). kept ++ xs)
          (passing_is block test 0 part (λ k h. ap (passes_at block) (zero-add k) ∙ c.run.ensures.passes steps m is (record { vectors = same; sizes = has }) k h)))
          ∙ append_assoc kept (filter test part) (filter test rest)
          ∙ ap (λ (xs : List ℕ). kept ++ xs) (sym (filter-append test part rest) ∙ ap (filter test) whole)
          ∙ c.parts.invariant.passed steps m is same has;
    }
