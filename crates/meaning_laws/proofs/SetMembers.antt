-- What a filter of a list keeps, in terms of its members.
use Rattle.std.proofs.Common.{◌≡◌, ◌≢◌, ◌↔◌, ℕ, zero, suc, ◌+◌, ◌<◌, ◌==◌, nat_lt, Bool, true, false, not, ◌&&◌, ℤ, int_lt, List, [], ◌∷◌, slice_get, Contains, Option, Some, None, inl, inr, refl, sym}
use Rattle.std.proofs.Common.{ap, ◌∙◌, subst, arith, zero-add}
use Rattle.std.proofs.lemmas.Bool.{cases_Bool, cond_both, false≢true, ltb-true, lt-ltb, eqb-true, eq-eqb}
use Rattle.std.proofs.lemmas.Bool.Decides.{Decides-int_eq}
use Rattle.std.proofs.lemmas.List.Elements.{All-contains, All-filter, All-contains_itself, filter_passes}
use Rattle.std.proofs.lemmas.List.FromFn.{length-range_with_len, get_or-range_with_len}
use Rattle.std.proofs.lemmas.List.Kept.{IsStrictlyIncreasing-filter}
use Rattle.std.specs.List.{filter}
use Rattle.std.specs.List.Sorted.{IsStrictlyIncreasing}
use Rattle.std.specs.Ordering.{int_eq}
use Rattle.weighted_edges.specs.Edge.{Edge}
use Rattle.typed_tree.specs.declared.expression.VarRef.{VarRef}
use Rattle.typed_tree.specs.declared.statement.ApplyEnds.{ApplyEnds}
use Rattle.typed_tree.specs.declared.statement.SetValue.TheVariants as set
use Rattle.typed_tree.specs.declared.statement.VertexFilter.{VertexFilter}
use Rattle.typed_tree.specs.declared.statement.VertexFilter.TheVariants.{Members, Function}
use Rattle.typed_tree.specs.FunctionStatementTree.{FunctionTree}
use Rattle.typed_tree.specs.ProgramTree.{ProgramTree}
use Rattle.algorithm_meaning.specs.Arithmetic.{int_equal}
use Rattle.algorithm_meaning.specs.State.{GraphValue, StateValue}
use Rattle.algorithm_meaning.specs.Value.{entry, members_of}
use Rattle.algorithm_meaning.specs.Function.{steps_of, result_of, lets_through}
use Rattle.algorithm_meaning.specs.EdgeApply.{is_end, is_member, is_modified, matching, passes}
use Rattle.algorithm_meaning.specs.VertexSets.{all_below, members_for, vectors_after}
use Rattle.meaning_laws.specs.Members.{AreVertices, IsEndOf, LetsThrough}

-- a filter keeps exactly the elements that pass its test
in_filtered : {X : Type 0} (test : X → Bool) (xs : List X) (x : X) → Contains (filter test xs) x → Contains xs x × (test x ≡ true)
in_filtered test xs x is =
    (All-contains (Contains xs) (filter test xs) x (All-filter test (Contains xs) xs (All-contains_itself xs)) is, All-contains (λ y. test y ≡ true) (filter test xs) x (filter_passes test xs) is)

later : {X : Type 0} (y : X) (ys : List X) (x : X) → Contains ys x → Contains (y ∷ ys) x
later y ys x is = (suc is.0, omega (arith, is.1), is.2)

stays : {X : Type 0} (test : X → Bool) (xs : List X) (x : X) → Contains xs x → test x ≡ true → Contains (filter test xs) x
stays test [] x is passing = absurd (omega (arith, is.1))
stays test (y ∷ ys) x (zero, within, is) passing =
    let kept : test y ≡ true = ap test is ∙ passing in
    rw (kept) (zero, omega arith, is)
stays test (y ∷ ys) x (suc k, within, is) passing =
    let rest = stays test ys x (k, omega (arith, within), is) passing in
    cond_both (test y) (y ∷ filter test ys) (filter test ys) (λ (l : List _). Contains l x) (λ _. later y (filter test ys) x rest) (λ _. rest)

pub filtered_contains : {X : Type 0} (test : X → Bool) (xs : List X) (x : X) → Contains (filter test xs) x ↔ (Contains xs x × (test x ≡ true))
filtered_contains test xs x = (in_filtered test xs x, λ both. stays test xs x both.0 both.1)

-- the vertices of a graph
all_contains : (n v : ℕ) → Contains (all_below n) v ↔ (v < n)
all_contains n v = (
  λ is. omega (arith, is.1, is.2, length-range_with_len 0 n, get_or-range_with_len 0 n is.0 v (omega (arith, is.1, length-range_with_len 0 n))),
  λ below. (v, omega (arith, below, length-range_with_len 0 n), get_or-range_with_len 0 n v v below ∙ zero-add v),
)

all_ascend : (n : ℕ) → IsStrictlyIncreasing (all_below n)
all_ascend n k within =
    let long = length-range_with_len 0 n in
    omega (arith, within, long, get_or-range_with_len 0 n k 0 (omega (arith, within, long)), get_or-range_with_len 0 n (k + 1) 0 (omega (arith, within, long)))

-- ints that are equal by the test are the same
equal_is : (a b : ℤ) → int_equal a b ≡ int_eq a b
equal_is a b = elim (cases_Bool (int_lt a b)) [
  | inl below ↦ rw (below) refl
  | inr within ↦ elim (cases_Bool (int_lt b a)) [ inl above ↦ rw (within, above) refl | inr same ↦ rw (within, same) refl ]
]

differs_is : (a b : ℤ) → (not (int_equal a b) ≡ true) ↔ (a ≢ b)
differs_is a b = (
  λ differs same. let no : not true ≡ true = ap (λ (t : Bool). not t) (sym (equal_is a b ∙ (Decides-int_eq a b).1 same)) ∙ differs in absurd (false≢true no),
  λ apart. elim (cases_Bool (int_equal a b)) [
    | inl same ↦ absurd (apart ((Decides-int_eq a b).0 (sym (equal_is a b) ∙ same)))
    | inr other ↦ ap (λ (t : Bool). not t) other
  ],
)

pub modified_members : (p : ProgramTree) (g : GraphValue) (ends : ApplyEnds) (function vector : ℕ) (s : StateValue) (v : ℕ)
    → Contains (members_for p g (set.Modified ends function vector) s) v
    ↔ ((v < g.vertices) × (entry s.vectors vector v ≢ entry (vectors_after p g (set.Modified ends function vector) s) vector v))
modified_members p g ends function vector s v =
    let after = vectors_after p g (set.Modified ends function vector) s in
    let kept = filtered_contains (is_modified vector s.vectors after) (all_below g.vertices) v in
    let all = all_contains g.vertices v in
    let differs = differs_is (entry s.vectors vector v) (entry after vector v) in
    (λ is. (all.0 (kept.0 is).0, differs.0 (kept.0 is).1), λ both. kept.1 (all.1 both.0, differs.1 both.1))

-- what is filtered of vertices in order are vertices in order
pub filtered_vertices : (n : ℕ) (test : ℕ → Bool) (members : List ℕ) → AreVertices n members → AreVertices n (filter test members)
filtered_vertices n test members are = record {
  ascending = IsStrictlyIncreasing-filter test members are.ascending;
  below = All-filter test (λ v. v < n) members are.below;
}

pub whole_vertices : (n : ℕ) → AreVertices n (all_below n)
whole_vertices n = record {
  ascending = all_ascend n;
  below = λ k d within.
      let long = length-range_with_len 0 n in
      omega (arith, within, long, get_or-range_with_len 0 n k d (omega (arith, within, long)));
}

pub modified_vertices : (p : ProgramTree) (g : GraphValue) (ends : ApplyEnds) (function vector : ℕ) (s : StateValue)
    → AreVertices g.vertices (members_for p g (set.Modified ends function vector) s)
modified_vertices p g ends function vector s =
    filtered_vertices g.vertices (is_modified vector s.vectors (vectors_after p g (set.Modified ends function vector) s)) (all_below g.vertices) (whole_vertices g.vertices)

pub filter_members : (p : ProgramTree) (g : GraphValue) (slot : VarRef) (function : ℕ) (s : StateValue) (v : ℕ)
    → Contains (members_for p g (set.Filter slot function) s) v
    ↔ (Contains (members_of (slice_get s.sets slot.index)) v × (result_of (steps_of (slice_get p.filters function)) s.sets s.vectors v ≡ true))
filter_members p g slot function s v = filtered_contains (lets_through p.filters function s.sets s.vectors) (members_of (slice_get s.sets slot.index)) v

pub filter_of_all : (p : ProgramTree) (g : GraphValue) (slot : VarRef) (function : ℕ) (s : StateValue) (v : ℕ)
    → members_of (slice_get s.sets slot.index) ≡ all_below g.vertices
    → Contains (members_for p g (set.Filter slot function) s) v
    ↔ ((v < g.vertices) × (result_of (steps_of (slice_get p.filters function)) s.sets s.vectors v ≡ true))
filter_of_all p g slot function s v whole =
    let kept = filter_members p g slot function s v in
    let all = all_contains g.vertices v in (
      λ is. (all.0 (subst (λ (l : List ℕ). Contains l v) whole (kept.0 is).0), (kept.0 is).1),
      λ both. kept.1 (subst (λ (l : List ℕ). Contains l v) (sym whole) (all.1 both.0), both.1),
    )

pub filter_vertices : (p : ProgramTree) (g : GraphValue) (slot : VarRef) (function : ℕ) (s : StateValue)
    → AreVertices g.vertices (members_of (slice_get s.sets slot.index)) → AreVertices g.vertices (members_for p g (set.Filter slot function) s)
filter_vertices p g slot function s are = filtered_vertices g.vertices (lets_through p.filters function s.sets s.vectors) (members_of (slice_get s.sets slot.index)) are

-- the test of a member finds it
member_is : (v : ℕ) (members : List ℕ) → (is_member v members ≡ true) ↔ Contains members v
member_is v members = (found v members, contained v members)
  where
    found : (v : ℕ) (members : List ℕ) → is_member v members ≡ true → Contains members v
    found v [] is = absurd (false≢true is)
    found v (m ∷ ms) is = elim (cases_Bool (m == v)) [
      | inl here ↦ (zero, omega arith, eqb-true m v here)
      | inr other ↦ let rest : is_member v ms ≡ true = rw (other) at is in later m ms v (found v ms rest)
    ]

    contained : (v : ℕ) (members : List ℕ) → Contains members v → is_member v members ≡ true
    contained v [] is = absurd (omega (arith, is.1))
    contained v (m ∷ ms) (zero, within, is) = let here : m == v ≡ true = eq-eqb m v is in rw (here) refl
    contained v (m ∷ ms) (suc k, within, is) =
        let rest = contained v ms (k, omega (arith, within), is) in
        elim (cases_Bool (m == v)) [ inl here ↦ rw (here) refl | inr other ↦ rw (other) rest ]

passes_is : (filters : List FunctionTree) (s : StateValue) (end : Option VertexFilter) (v : ℕ) → (passes filters s end v ≡ true) ↔ LetsThrough filters s end v
passes_is filters s None v = (λ is. tt, λ is. refl)
passes_is filters s (Some (Members slot)) v = member_is v (members_of (slice_get s.sets slot.index))
passes_is filters s (Some (Function function)) v = (λ is. is, λ is. is)

-- both tests hold where each does
both_hold : (a b : Bool) → (a && b ≡ true) ↔ ((a ≡ true) × (b ≡ true))
both_hold true b = (λ is. (refl, is), λ both. both.1)
both_hold false b = (λ is. absurd (false≢true is), λ both. absurd (false≢true both.0))

end_is : (filters : List FunctionTree) (g : GraphValue) (s : StateValue) (end : Option VertexFilter) (v : ℕ) → (is_end filters g s end v ≡ true) ↔ IsEndOf filters g s end v
end_is filters g s end v =
    let both = both_hold (nat_lt v g.vertices) (passes filters s end v) in
    let passing = passes_is filters s end v in (
      λ is. record { vertex = ltb-true v g.vertices (both.0 is).0; passes = passing.0 (both.0 is).1 },
      λ is. both.1 (lt-ltb v g.vertices is.vertex, passing.1 is.passes),
    )

pub matching_edges : (filters : List FunctionTree) (g : GraphValue) (s : StateValue) (ends : ApplyEnds) (edge : Edge)
    → Contains (matching filters g s ends) edge
    ↔ (Contains g.edges edge × IsEndOf filters g s ends.from edge.0 × IsEndOf filters g s ends.to edge.1)
matching_edges filters g s ends edge =
    let kept = filtered_contains (λ (e : Edge). is_end filters g s ends.from e.0 && is_end filters g s ends.to e.1) g.edges edge in
    let both = both_hold (is_end filters g s ends.from edge.0) (is_end filters g s ends.to edge.1) in
    let source = end_is filters g s ends.from edge.0 in
    let destination = end_is filters g s ends.to edge.1 in (
      λ is. ((kept.0 is).0, source.0 (both.0 (kept.0 is).1).0, destination.0 (both.0 (kept.0 is).1).1),
      λ all. kept.1 (all.0, both.1 (source.1 all.1, destination.1 all.2)),
    )
