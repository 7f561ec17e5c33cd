-- Proofs of `weight_in`, src/lookup.rt.
use Rattle.std.proofs.Common.{◌≡◌, ℕ, ℤ, ◌+◌, ◌^◌, ◌≤◌, inl, inr, List, ◌∷◌, nat_eq, to_z, of_z, w64, refl, sym, ◌∙◌, ap, arith, rules}
use Rattle.std.specs.Map.{keys_of}
use Rattle.std.specs.Bool.{then_some}
use Rattle.std.proofs.lemmas.Bool.{cases_eq, eq-eqb, ne_eqb}
use Rattle.ascending_lists.specs.Ascending.{least}
use Rattle.ascending_lists.specs.Maps.{IsMap, lookup}
use Rattle.ascending_lists.proofs.Ascending.{ascends_from}
use Rattle.ascending_lists.proofs.MapKeys.{entries_rise}
use Rattle.ascending_lists.proofs.MapCuts.{lookup_later}
use Rattle.ascending_lists.proofs.MapOrder.{rises_from, lookup_below}
use Rattle.c_tree.proofs.lookup.weight_in.Goals as goal

-- at the first key that is not below, the answer is its weight if it is the one
met : (now rest : List (ℕ × ℤ)) (k x : ℕ) (w : ℤ) → now ≡ (x, w) ∷ rest → IsMap now → k ≤ x → then_some (nat_eq x k) w ≡ lookup k now
met now rest k x w cells map le =
    let map' : IsMap ((x, w) ∷ rest) = rw cells at map in
    rw cells (elim (cases_eq x k) [
      | inl is ↦ rw (eq-eqb x k is) refl
      | inr other ↦ rw (ne_eqb x k other) (sym (lookup_below (x + 1) (2 ^ 32) rest k map'.1 (omega arith)))
    ])

pub loop-other-init : goal.loop-other-init
loop-other-init c =
    let t = c.args.tail.now in
    let e : c.into_iter-other-iterator.result ≡ t.entries = search rules in
    record {
      can = tt;
      finite = tt;
      map = rw e (entries_rise 0 t.entries (omega arith) (ascends_from 0 (least t.base) (keys_of t.entries) (omega arith) c.iter-other-items.ensures.valid));
      same = ap (lookup c.args.key) e;
    }

pub returns-then-other-key : goal.returns-then-other-key
returns-then-other-key c =
    let l = c.loop-other in
    let cells : l.other-iterator ≡ (c.in-Some.other, c.in-Some.weight) ∷ c.next.new.self = search rules in
    let round : to_z w64 (of_z w64 c.in-Some.weight) ≡ c.in-Some.weight = search rules in
    c.then_some.ensures ∙ ap (then_some (nat_eq c.in-Some.other c.args.key)) round
    ∙ met l.other-iterator c.next.new.self c.args.key c.in-Some.other c.in-Some.weight cells l.invariant.map c.if-other-key.true ∙ l.invariant.same

pub loop-other-preserved : goal.loop-other-preserved
loop-other-preserved c =
    let l = c.loop-other in
    let x = c.in-Some.other in
    let rest = c.next.new.self in
    let cells : l.other-iterator ≡ (x, c.in-Some.weight) ∷ rest = search rules in
    let map : IsMap ((x, c.in-Some.weight) ∷ rest) = rw cells at l.invariant.map in
    record {
      can = tt;
      finite = tt;
      map = rises_from 0 (x + 1) (2 ^ 32) rest (omega arith) map.1;
      same = sym (lookup_later (x, c.in-Some.weight) rest c.args.key (omega arith)) ∙ ap (lookup c.args.key) (sym cells) ∙ l.invariant.same;
    }
