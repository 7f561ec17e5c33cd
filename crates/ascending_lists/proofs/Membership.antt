-- The elements of unions and differences.
use Rattle.std.proofs.Common.{◌≡◌, ◌⊎◌, ◌↔◌, ℕ, ◌<◌, true, inl, inr, List, [], ◌∷◌, refl, arith}
use Rattle.std.specs.List.{Contains}
use Rattle.std.proofs.lemmas.Bool.{cases_lt, cases_eq, cases_order, cases_Bool, both_ways, lt-ltb, le-ltb, eq-eqb, ne_eqb}
use Rattle.std.proofs.lemmas.List.Elements.{Contains-append_left, Contains-append_right, Contains-append_cases}
use Rattle.ascending_lists.proofs.Ascending.{contains_head, contains_tail, contains_none, contains_cases}
use Rattle.ascending_lists.specs.Sets.{has, below, above, union, difference}

contains_at : (x e : ℕ) (xs : List ℕ) → x ≡ e → Contains (x ∷ xs) e
contains_at x e xs is = (0, omega arith, is)

in_below : (k e : ℕ) (xs : List ℕ) → e < k → Contains xs e → Contains (below k xs) e
in_below k e [] lt c = c
in_below k e (x ∷ xs) lt c =
    elim (cases_lt x k) [
      | inl a ↦ rw (lt-ltb x k a) (elim (contains_cases x e xs c) [ inl is ↦ contains_at x e (below k xs) is | inr later ↦ contains_tail x e (below k xs) (in_below k e xs lt later) ])
      | inr a ↦ rw (le-ltb x k a) (elim (contains_cases x e xs c) [ inl is ↦ absurd (omega (arith, is)) | inr later ↦ in_below k e xs lt later ])
    ]

in_above : (k e : ℕ) (xs : List ℕ) → k < e → Contains xs e → Contains (above k xs) e
in_above k e [] lt c = c
in_above k e (x ∷ xs) lt c =
    elim (cases_lt k x) [
      | inl a ↦ rw (lt-ltb k x a) (elim (contains_cases x e xs c) [ inl is ↦ contains_at x e (above k xs) is | inr later ↦ contains_tail x e (above k xs) (in_above k e xs lt later) ])
      | inr a ↦ rw (le-ltb k x a) (elim (contains_cases x e xs c) [ inl is ↦ absurd (omega (arith, is)) | inr later ↦ in_above k e xs lt later ])
    ]

from_below : (k e : ℕ) (xs : List ℕ) → Contains (below k xs) e → Contains xs e
from_below k e [] c = c
from_below k e (x ∷ xs) c =
    elim (cases_lt x k) [
      | inl a ↦
          let d : Contains (x ∷ below k xs) e = rw (lt-ltb x k a) at c in
          elim (contains_cases x e (below k xs) d) [ inl is ↦ contains_at x e xs is | inr later ↦ contains_tail x e xs (from_below k e xs later) ]
      | inr a ↦
          let d : Contains (below k xs) e = rw (le-ltb x k a) at c in
          contains_tail x e xs (from_below k e xs d)
    ]

from_above : (k e : ℕ) (xs : List ℕ) → Contains (above k xs) e → Contains xs e
from_above k e [] c = c
from_above k e (x ∷ xs) c =
    elim (cases_lt k x) [
      | inl a ↦
          let d : Contains (x ∷ above k xs) e = rw (lt-ltb k x a) at c in
          elim (contains_cases x e (above k xs) d) [ inl is ↦ contains_at x e xs is | inr later ↦ contains_tail x e xs (from_above k e xs later) ]
      | inr a ↦
          let d : Contains (above k xs) e = rw (le-ltb k x a) at c in
          contains_tail x e xs (from_above k e xs d)
    ]

from_union : (e : ℕ) (xs ys : List ℕ) → Contains (union xs ys) e → Contains xs e ⊎ Contains ys e
from_union e [] ys c = inr c
from_union e (x ∷ xs) ys c =
    elim (Contains-append_cases (below x ys) (x ∷ union xs (above x ys)) e c) [
      | inl before ↦ inr (from_below x e ys before)
      | inr there ↦ elim (contains_cases x e (union xs (above x ys)) there) [
        | inl is ↦ inl (contains_at x e xs is)
        | inr later ↦ elim (from_union e xs (above x ys) later) [ inl a ↦ inl (contains_tail x e xs a) | inr b ↦ inr (from_above x e ys b) ]
      ]
    ]

in_union_left : (e : ℕ) (xs ys : List ℕ) → Contains xs e → Contains (union xs ys) e
in_union_left e [] ys c = absurd (contains_none e c)
in_union_left e (x ∷ xs) ys c =
    Contains-append_right (below x ys) (x ∷ union xs (above x ys)) e
    (elim (contains_cases x e xs c) [ inl is ↦ contains_at x e (union xs (above x ys)) is | inr later ↦ contains_tail x e (union xs (above x ys)) (in_union_left e xs (above x ys) later) ])

in_union_right : (e : ℕ) (xs ys : List ℕ) → Contains ys e → Contains (union xs ys) e
in_union_right e [] ys c = c
in_union_right e (x ∷ xs) ys c =
    elim (cases_order e x) [
      | inl is ↦ rw is (Contains-append_right (below x ys) (x ∷ union xs (above x ys)) x (contains_head x (union xs (above x ys))))
      | inr other ↦ elim other [
        | inl lt ↦ Contains-append_left (below x ys) (x ∷ union xs (above x ys)) e (in_below x e ys lt c)
        | inr gt ↦ Contains-append_right (below x ys) (x ∷ union xs (above x ys)) e (contains_tail x e (union xs (above x ys)) (in_union_right e xs (above x ys) (in_above x e ys gt c)))
      ]
    ]

pub union_members : (xs ys : List ℕ) (e : ℕ) → Contains (union xs ys) e ↔ (Contains xs e ⊎ Contains ys e)
union_members xs ys e = (from_union e xs ys, λ c. elim c [ inl a ↦ in_union_left e xs ys a | inr b ↦ in_union_right e xs ys b ])

pub has_if : (e : ℕ) (xs : List ℕ) → Contains xs e → has e xs ≡ true
has_if e [] c = absurd (contains_none e c)
has_if e (x ∷ xs) c =
    elim (cases_eq x e) [
      | inl is ↦ rw (eq-eqb x e is) refl
      | inr ne ↦ rw (ne_eqb x e ne) (elim (contains_cases x e xs c) [ inl is ↦ absurd (ne is) | inr later ↦ has_if e xs later ])
    ]

pub has_only : (e : ℕ) (xs : List ℕ) → has e xs ≡ true → Contains xs e
has_only e [] h = cc
has_only e (x ∷ xs) h =
    elim (cases_eq x e) [
      | inl is ↦ contains_at x e xs is
      | inr ne ↦
          let later : has e xs ≡ true = rw (ne_eqb x e ne) at h in
          contains_tail x e xs (has_only e xs later)
    ]

from_difference : (e : ℕ) (xs ys : List ℕ) → Contains (difference xs ys) e → Contains xs e × ¬ Contains ys e
from_difference e [] ys c = absurd (contains_none e c)
from_difference e (x ∷ xs) ys c =
    elim (cases_Bool (has x ys)) [
      | inl h ↦
          let d : Contains (difference xs ys) e = rw h at c in
          let r = from_difference e xs ys d in
          (contains_tail x e xs r.0, r.1)
      | inr h ↦
          let d : Contains (x ∷ difference xs ys) e = rw h at c in
          elim (contains_cases x e (difference xs ys) d) [
            | inl is ↦ (contains_at x e xs is, λ b. both_ways (has x ys) h (rw is (has_if e ys b)))
            | inr later ↦
                let r = from_difference e xs ys later in
                (contains_tail x e xs r.0, r.1)
          ]
    ]

in_difference : (e : ℕ) (xs ys : List ℕ) → Contains xs e → ¬ Contains ys e → Contains (difference xs ys) e
in_difference e [] ys c none = c
in_difference e (x ∷ xs) ys c none =
    elim (cases_Bool (has x ys)) [
      | inl h ↦ rw h (elim (contains_cases x e xs c) [ inl is ↦ absurd (none (has_only e ys (rw (← is) h))) | inr later ↦ in_difference e xs ys later none ])
      | inr h ↦ rw h (elim (contains_cases x e xs c) [ inl is ↦ contains_at x e (difference xs ys) is | inr later ↦ contains_tail x e (difference xs ys) (in_difference e xs ys later none) ])
    ]

pub difference_members : (xs ys : List ℕ) (e : ℕ) → Contains (difference xs ys) e ↔ (Contains xs e × ¬ Contains ys e)
difference_members xs ys e = (from_difference e xs ys, λ c. in_difference e xs ys c.0 c.1)
