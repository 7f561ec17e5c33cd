-- Proofs of `found_in_slots`, src/apply_changes.rt.
use Rattle.std.proofs.Common.{rules, ℕ, ◌<◌, ◌+◌, ◌≤◌, ◌==◌, ◌∷◌, cond, List, length, drop, sym, ap, ◌∙◌, subst, arith}
use Rattle.std.proofs.lemmas.List.{length-take-le, get_or-take, drop_all, drop_more}
use Rattle.algorithm_meaning.specs.Value.{entry}
use Rattle.vectors.specs.declared.changes.EntryChange.{EntryChange}
use Rattle.vectors.specs.declared.changes.VectorChanges.{VectorChanges}
use Rattle.edge_fold.specs.declared.vector_accumulator.VectorAccumulator.{VectorAccumulator}
use Rattle.edge_fold.specs.VectorAccumulators.{active}
use Rattle.edge_fold.specs.Changed.{AreApart, changes_or}
use Rattle.edge_fold.proofs.Findings.{found_in, found_is}
use Rattle.edge_fold.proofs.apply_changes.found_in_slots.Goals as goal

pub slots-init : goal.slots-init
slots-init c = record {
  apart = subst (λ (cs : List VectorChanges). AreApart cs) (sym c.new-vectors.ensures.items) tt;
  found = λ m test vectors sizes is x. ap (λ (cs : List VectorChanges). changes_or x cs
      (found_in c.args.context.vertices (entry m.vectors) test (active c.args.slots.now) x)) c.new-vectors.ensures.items;
}

pub slots-preserved : goal.slots-preserved
slots-preserved c =
    let slots = c.args.slots.now in
    let all = active slots in
    let k = c.slots.position in
    let s : VectorAccumulator = c.index.result.now in
    let few : slots.used ≤ length slots.slots.items = search rules in
    let below : k < slots.used = c.slots-test.true in
    let long = length-take-le slots.used slots.slots.items few in
    let inside : k < length all = omega (arith, long, below) in
    let rest = drop (k + 1) all in
    let step = drop_more all k s inside ∙ ap (λ (t : VectorAccumulator). t ∷ rest) (get_or-take slots.used slots.slots.items k s below ∙ sym c.index.ensures) in
    let one = c.in_ok-found.found in
    let found = c.in_ok-found.ensures in
    record {
      apart = c.in_ok-push_once.ensures.apart c.slots.invariant.apart;
      found = λ m test vectors sizes is x.
          let f = λ (ss : List VectorAccumulator). found_in c.args.context.vertices (entry m.vectors) test ss x in
          c.in_ok-push_once.ensures.changes x (f rest)
          ∙ ap (λ (r : List EntryChange). changes_or x c.slots.vectors.items r)
          (ap (λ (y : ℕ). cond (y == x) one.changes.items (f rest)) found.vector
          ∙ ap (λ (cs : List EntryChange). cond (s.vector == x) cs (f rest)) (found.changes m test vectors sizes is)
          ∙ ap f (sym step))
          ∙ c.slots.invariant.found m test vectors sizes is x;
    }

pub returns-clause-changes : goal.returns-clause-changes
returns-clause-changes c m test vectors sizes is x =
    let all = active c.args.slots.now in
    let k = c.slots.position in
    let few_then : c.args.slots.now.used ≤ length c.args.slots.now.slots.items = search rules in
    let long = length-take-le c.args.slots.now.used c.args.slots.now.slots.items few_then in
    let done = c.slots-test.false in
    let found = c.slots.vectors.items in
    ap (λ (ss : List VectorAccumulator). changes_or x found (found_in c.args.context.vertices (entry m.vectors) test ss x)) (sym (drop_all k all (omega (arith, long, done))))
    ∙ c.slots.invariant.found m test vectors sizes is x
    ∙ found_is c.args.context.vertices (entry m.vectors) test all x
