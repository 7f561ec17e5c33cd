-- Proofs of `passing_between`, src/passing.rt.
use Rattle.std.proofs.Common.{rules, ◌≡◌, ℕ, ◌+◌, ◌<◌, ◌≤◌, Bool, true, false, ◌||◌, ◌&&◌, nat_lt, List, ◌++◌, ap, ◌∙◌, arith}
use Rattle.std.proofs.lemmas.Bool.Decides.{nat_tests}
use Rattle.std.specs.List.{filter}
use Rattle.kernels.specs.EdgeApply.{is_member}
use Rattle.edge_apply.proofs.Bits.{passing_more}
use Rattle.edge_apply.proofs.passing.passing_between.Goals as goal

none_below : (t : Bool) (v n : ℕ) → n ≤ v → false ≡ t && nat_lt v n
none_below true v n l = grind (arith, nat_tests)
none_below false v n l = grind (arith, nat_tests)

pub parts-init : goal.parts-init
parts-init c = record {
  vertices = ap (λ s. s.vertices) c.in_ok-set.ensures.members;
  form = ap (λ s. s.form) c.in_ok-set.ensures.members;
  begun = search rules;
  below = search rules;
  members = λ m test vectors sizes is v from l. ap (λ s. is_member v s.members) c.in_ok-set.ensures.members ∙ none_below (test v) v c.args.first from;
}

pub parts-preserved : goal.parts-preserved
parts-preserved c =
    let next = c.parts.next in
    let stop = next + c.min.result in
    let begun : c.args.first ≤ next = c.parts.invariant.begun in
    let invariant = c.parts.invariant in
    let inserted = c.in_ok-insert_all.ensures in
    record {
      vertices = inserted.vertices ∙ invariant.vertices;
      form = inserted.form ∙ invariant.form;
      begun = omega (arith, begun);
      below = search rules;
      members = λ m test vectors sizes is v from l.
          inserted.members v (let count = invariant.vertices in omega (arith, count, l))
          ∙ ap (λ (b : Bool). b || is_member v c.deref-in-parts.result.now) (invariant.members m test vectors sizes is v from l)
          ∙ ap (λ (ks : List ℕ). (test v && nat_lt v next) || is_member v ks)
          (c.deref-in-parts.ensures.value ∙ c.in_ok-keep_passing.ensures.kept m test vectors sizes is ∙ ap (λ (ks : List ℕ). ks ++ filter test c.deref.result.now) c.clear.ensures.items
          ∙ ap (filter test) (c.deref.ensures.value ∙ c.in_ok-number_between.ensures))
          ∙ passing_more test v next stop (omega arith);
    }

all_below : (t : Bool) (v n : ℕ) → v < n → t && nat_lt v n ≡ t
all_below true v n l = grind (arith, nat_tests)
all_below false v n l = grind (arith, nat_tests)

pub returns-clause-members : goal.returns-clause-members
returns-clause-members c m test vectors sizes is v from l =
    let done = c.parts-test.false in
    c.parts.invariant.members m test vectors sizes is v from l ∙ all_below (test v) v c.parts.next (omega (arith, done, l))
