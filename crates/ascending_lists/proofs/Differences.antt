-- Differences of ascending lists, by the indices where they are cut.
use Rattle.std.proofs.Common.{◌≡◌, ◌≢◌, ℕ, ◌+◌, ◌<◌, ◌≤◌, Bool, if◌then◌else◌, inl, inr, List, [], ◌∷◌, ◌++◌, refl, sym, ◌∙◌, ap, arith}
use Rattle.std.proofs.lemmas.Bool.{cases_lt, cases_eq, cases_order, cases_Bool, lt-ltb, le-ltb, eq-eqb, ne_eqb}
use Rattle.ascending_lists.specs.Ascending.{AscendsFrom}
use Rattle.ascending_lists.proofs.Ascending.{ascends_from}
use Rattle.ascending_lists.specs.Sets.{has, below, above, difference}
use Rattle.ascending_lists.proofs.Cutting.{below_none, has_none, before_it, after_it, has_it, has_before, has_after}

pub difference_append : (xs zs ys : List ℕ) → difference (xs ++ zs) ys ≡ difference xs ys ++ difference zs ys
difference_append [] zs ys = refl
difference_append (x ∷ xs) zs ys =
    elim (cases_Bool (has x ys)) [
      | inl h ↦ rw h (difference_append xs zs ys)
      | inr h ↦ rw h (ap (λ v. x ∷ v) (difference_append xs zs ys))
    ]

pub difference_nothing : (xs : List ℕ) → difference xs [] ≡ xs
difference_nothing [] = refl
difference_nothing (x ∷ xs) = ap (λ v. x ∷ v) (difference_nothing xs)

-- a difference of ascending lists ascends
pub difference_ascends : (low : ℕ) (xs ys : List ℕ) → AscendsFrom low xs → AscendsFrom low (difference xs ys)
difference_ascends low [] ys s = tt
difference_ascends low (x ∷ xs) ys s =
    elim (cases_Bool (has x ys)) [
      | inl h ↦ rw h (ascends_from low (x + 1) (difference xs ys) (omega (arith, s.0)) (difference_ascends (x + 1) xs ys s.2))
      | inr h ↦ rw h (s.0, s.1, difference_ascends (x + 1) xs ys s.2)
    ]

has_below : (j k : ℕ) (ys : List ℕ) → j < k → has j (below k ys) ≡ has j ys
has_below j k [] lt = refl
has_below j k (y ∷ ys) lt =
    elim (cases_lt y k) [
      | inl a ↦ rw (lt-ltb y k a) (elim (cases_eq y j) [ inl e ↦ rw (eq-eqb y j e) refl | inr ne ↦ rw (ne_eqb y j ne) (has_below j k ys lt) ])
      | inr a ↦ rw (le-ltb y k a, ne_eqb y j (omega arith)) (has_below j k ys lt)
    ]

has_above : (j k : ℕ) (ys : List ℕ) → k < j → has j (above k ys) ≡ has j ys
has_above j k [] lt = refl
has_above j k (y ∷ ys) lt =
    elim (cases_lt k y) [
      | inl a ↦ rw (lt-ltb k y a) (elim (cases_eq y j) [ inl e ↦ rw (eq-eqb y j e) refl | inr ne ↦ rw (ne_eqb y j ne) (has_above j k ys lt) ])
      | inr a ↦ rw (le-ltb k y a, ne_eqb y j (omega arith)) (has_above j k ys lt)
    ]

-- one element of a difference
abbrev one_of : Bool → ℕ → List ℕ → List ℕ
one_of h x zs = if h then zs else x ∷ zs

-- only what stands before k matters to what stands before it
front_only : (k : ℕ) (r : List ℕ) (low : ℕ) (l ys : List ℕ) → AscendsFrom low (l ++ k ∷ r) → difference l ys ≡ difference l (below k ys)
front_only k r low [] ys s = refl
front_only k r low (x ∷ l) ys s =
    let lt : x + 1 ≤ k = before_it k r (x + 1) l s.2 in
    ap (λ v. one_of (has x ys) x v) (front_only k r (x + 1) l ys s.2) ∙ ap (λ h. one_of h x (difference l (below k ys))) (sym (has_below x k ys (omega arith)))

back_only : (k low : ℕ) (r ys : List ℕ) → k < low → AscendsFrom low r → difference r ys ≡ difference r (above k ys)
back_only k low [] ys le s = refl
back_only k low (x ∷ r) ys le s =
    let lt : k < x = omega (arith, s.0) in
    ap (λ v. one_of (has x ys) x v) (back_only k (x + 1) r ys (omega arith) s.2) ∙ ap (λ h. one_of h x (difference r (above k ys))) (sym (has_above x k ys lt))

-- cut at an element of the first
pub difference_at : (k low : ℕ) (l r ys : List ℕ) → AscendsFrom low (l ++ k ∷ r)
    → difference (l ++ k ∷ r) ys ≡ difference l (below k ys) ++ (if has k ys then difference r (above k ys) else k ∷ difference r (above k ys))
difference_at k low l r ys s =
    difference_append l (k ∷ r) ys
    ∙ ap (λ v. v ++ difference (k ∷ r) ys) (front_only k r low l ys s)
    ∙ ap (λ v. difference l (below k ys) ++ one_of (has k ys) k v) (back_only k (k + 1) r ys (omega arith) (after_it k r low l s))

-- cut at an element of the second
pub difference_by : (k low' : ℕ) (l r : List ℕ) → AscendsFrom low' (l ++ k ∷ r) → (low : ℕ) (xs : List ℕ) → AscendsFrom low xs
    → difference xs (l ++ k ∷ r) ≡ difference (below k xs) l ++ difference (above k xs) r
difference_by k low' l r t low [] s = refl
difference_by k low' l r t low (x ∷ xs) s =
    elim (cases_order x k) [
      | inl e ↦
          rw (e, has_it k r l, le-ltb k k (omega arith)) (difference_by k low' l r t (x + 1) xs s.2)
      | inr other ↦ elim other [
        | inl lt ↦
            ap (λ v. one_of (has x (l ++ k ∷ r)) x v) (difference_by k low' l r t (x + 1) xs s.2)
            ∙ ap (λ h. one_of h x (difference (below k xs) l ++ difference (above k xs) r)) (has_before x k r low' l t lt)
            ∙ rw (lt-ltb x k lt, le-ltb k x (omega arith)) (elim (cases_Bool (has x l)) [ inl h ↦ rw h refl | inr h ↦ rw h refl ])
        | inr gt ↦
            let none : below k xs ≡ [] = below_none k (x + 1) xs (omega arith) s.2 in
            ap (λ v. one_of (has x (l ++ k ∷ r)) x v) (difference_by k low' l r t (x + 1) xs s.2)
            ∙ ap (λ h. one_of h x (difference (below k xs) l ++ difference (above k xs) r)) (has_after x k r low' l t gt)
            ∙ rw (le-ltb x k (omega arith), lt-ltb k x gt, none) (elim (cases_Bool (has x r)) [ inl h ↦ rw h refl | inr h ↦ rw h refl ])
      ]
    ]

-- first elements, of which the lesser is looked at first
pub difference_lesser : (x y : ℕ) (xs ys : List ℕ) → x < y → AscendsFrom (y + 1) ys → difference (x ∷ xs) (y ∷ ys) ≡ x ∷ difference xs (y ∷ ys)
difference_lesser x y xs ys lt s = rw (ne_eqb y x (omega arith), has_none x (y + 1) ys (omega arith) s) refl

-- an element below all of a list makes no difference to it
pub difference_skip : (y low : ℕ) (xs ys : List ℕ) → y < low → AscendsFrom low xs → difference xs (y ∷ ys) ≡ difference xs ys
difference_skip y low [] ys lt s = refl
difference_skip y low (x ∷ xs) ys lt s =
    let ne : y ≢ x = omega (arith, s.0) in
    ap (λ v. one_of (has x (y ∷ ys)) x v) (difference_skip y (x + 1) xs ys (omega (arith, s.0)) s.2)
    ∙ ap (λ h. one_of h x (difference xs ys)) (rw (ne_eqb y x ne) refl)

pub difference_equal : (x y : ℕ) (xs ys : List ℕ) → x ≡ y → AscendsFrom (x + 1) xs → difference (x ∷ xs) (y ∷ ys) ≡ difference xs ys
difference_equal x y xs ys e s = rw (eq-eqb y x (sym e)) (difference_skip y (x + 1) xs ys (omega arith) s)
