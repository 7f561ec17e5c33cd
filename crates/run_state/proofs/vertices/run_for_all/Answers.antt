-- Proofs of `run_for_all`, src/vertices.rt.
use Rattle.std.proofs.Common.{rules, ℕ, List, take, refl, ap, sym, subst, ◌∙◌, arith}
use Rattle.std.specs.List.Sorted.{IsStrictlyIncreasing}
use Rattle.algorithm_meaning.specs.State.{StateValue}
use Rattle.algorithm_meaning.specs.VertexSets.{after_vertices}
use Rattle.vertex_sets.proofs.Ascending.{Rises, increasing_from_rises, rises_from_increasing}
use Rattle.run_state.proofs.Passed.{after_vertices-append, parts_of, rises_drop, rises_take}
use Rattle.run_state.proofs.vertices.run_for_all.Goals as goal

pub parts-init : goal.parts-init
parts-init c = record {
  size = refl;
  ascending = rises_from_increasing 0 c.args.vertices (omega arith) c.requires.ascending;
  groups = refl;
  keeps = λ other has. has;
  rest = λ steps m code same has. ap (after_vertices steps m.sets c.args.vertices) same;
}

pub run-requires-clause-ascending : goal.run-requires-clause-ascending
run-requires-clause-ascending c =
    let left = c.parts.left in
    let n = c.take_part-count.result in
    subst (λ (xs : List ℕ). IsStrictlyIncreasing xs) (sym c.take_part-count.ensures.taken) (increasing_from_rises 0 (take n left) (rises_take 0 n left c.parts.invariant.ascending))

pub parts-preserved : goal.parts-preserved
parts-preserved c =
    let left = c.parts.left in
    let n = c.take_part-count.result in
    let part = take n c.take_part-count.new.part in
    let rest = c.take_part-count.new.vertices in
    let vectors = c.parts.vectors.vectors in
    record {
      size = search rules;
      ascending = subst (Rises 0) (sym c.take_part-count.ensures.rest) (rises_drop 0 n left c.parts.invariant.ascending);
      groups = c.run.ensures.groups ∙ c.parts.invariant.groups;
      keeps = λ other has. c.run.ensures.keeps other (c.parts.invariant.keeps other has);
      rest = λ steps m code same has.
          let now : StateValue = record m { vectors = vectors } in
          ap (after_vertices steps m.sets rest) (c.run.ensures.vectors steps now code refl has)
          ∙ sym (after_vertices-append m steps part rest vectors)
          ∙ ap (λ (us : List ℕ). after_vertices steps m.sets us vectors) (parts_of n left part rest c.take_part-count.ensures.taken c.take_part-count.ensures.rest)
          ∙ c.parts.invariant.rest steps m code same has;
    }
