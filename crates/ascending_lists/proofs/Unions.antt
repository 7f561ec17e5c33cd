-- Unions of ascending lists, by the indices where they are cut.
use Rattle.std.proofs.Common.{◌≡◌, ℕ, ◌+◌, ◌<◌, ◌≤◌, inl, inr, List, [], ◌∷◌, ◌++◌, refl, sym, ◌∙◌, ap, append_assoc, arith}
use Rattle.std.proofs.lemmas.Bool.{cases_order, lt-ltb, le-ltb}
use Rattle.ascending_lists.specs.Ascending.{AscendsFrom}
use Rattle.ascending_lists.specs.Sets.{below, above, union}
use Rattle.ascending_lists.proofs.Cutting.{below_below, above_above, below_above, below_none, above_all, above_from, below_then, before_it}

-- cut at an element of the first
pub union_at : (k low : ℕ) (l r ys : List ℕ) → AscendsFrom low (l ++ k ∷ r) → union (l ++ k ∷ r) ys ≡ union l (below k ys) ++ k ∷ union r (above k ys)
union_at k low [] r ys s = refl
union_at k low (x ∷ l) r ys s =
    let lt : x + 1 ≤ k = before_it k r (x + 1) l s.2 in
    let back : union (l ++ k ∷ r) (above x ys) ≡ union l (above x (below k ys)) ++ k ∷ union r (above k ys) =
    union_at k (x + 1) l r (above x ys) s.2
    ∙ ap (λ v. union l v ++ k ∷ union r (above k (above x ys))) (below_above x k ys)
    ∙ ap (λ v. union l (above x (below k ys)) ++ k ∷ union r v) (above_above k x ys (omega arith)) in
    ap (λ v. v ++ x ∷ union (l ++ k ∷ r) (above x ys)) (sym (below_below x k ys (omega arith)))
    ∙ ap (λ v. below x (below k ys) ++ x ∷ v) back
    ∙ sym (append_assoc (below x (below k ys)) (x ∷ union l (above x (below k ys))) (k ∷ union r (above k ys)))

pub union_nothing : (low : ℕ) (xs : List ℕ) → union xs [] ≡ xs
union_nothing low [] = refl
union_nothing low (x ∷ xs) = ap (λ v. x ∷ v) (union_nothing low xs)

-- the lesser of two first elements comes first
pub union_lesser : (x y : ℕ) (xs ys : List ℕ) → x < y → AscendsFrom (y + 1) ys → union (x ∷ xs) (y ∷ ys) ≡ x ∷ union xs (y ∷ ys)
union_lesser x y xs ys lt s = rw (le-ltb y x (omega arith), lt-ltb x y lt, below_none x (y + 1) ys (omega arith) s, above_all x (y + 1) ys (omega arith) s) refl

pub union_equal : (x y : ℕ) (xs ys : List ℕ) → x ≡ y → AscendsFrom (y + 1) ys → union (x ∷ xs) (y ∷ ys) ≡ x ∷ union xs ys
union_equal x y xs ys e s = rw (le-ltb y x (omega arith), le-ltb x y (omega arith), below_none x (y + 1) ys (omega arith) s, above_all x (y + 1) ys (omega arith) s) refl

pub union_greater : (x y : ℕ) (xs ys : List ℕ) → y < x → union (x ∷ xs) (y ∷ ys) ≡ y ∷ union (x ∷ xs) ys
union_greater x y xs ys lt = rw (lt-ltb y x lt, le-ltb x y (omega arith)) refl

-- the first element of the second list, put in its place
union_put : (x : ℕ) (xs : List ℕ) (low : ℕ) (ys : List ℕ) → AscendsFrom (x + 1) xs → AscendsFrom low ys → union ys (x ∷ xs) ≡ below x ys ++ x ∷ union (above x ys) xs
union_put x xs low [] s t = refl
union_put x xs low (y ∷ ys) s t =
    elim (cases_order x y) [
      | inl e ↦
          union_equal y x ys xs (sym e) s
          ∙ rw (le-ltb y x (omega arith), le-ltb x y (omega arith), below_none x (y + 1) ys (omega arith) t.2, above_all x (y + 1) ys (omega arith) t.2) (rw e refl)
      | inr other ↦ elim other [
        | inl lt ↦
            union_greater y x ys xs lt
            ∙ rw (le-ltb y x (omega arith), lt-ltb x y lt, below_none x (y + 1) ys (omega arith) t.2, above_all x (y + 1) ys (omega arith) t.2) refl
        | inr gt ↦
            union_lesser y x ys xs gt s
            ∙ rw (lt-ltb y x gt, le-ltb x y (omega arith)) (ap (λ v. y ∷ v) (union_put x xs (y + 1) ys s t.2))
      ]
    ]

pub union_swap : (low : ℕ) (xs : List ℕ) (low' : ℕ) (ys : List ℕ) → AscendsFrom low xs → AscendsFrom low' ys → union xs ys ≡ union ys xs
union_swap low [] low' ys s t = sym (union_nothing 0 ys)
union_swap low (x ∷ xs) low' ys s t =
    ap (λ v. below x ys ++ x ∷ v) (union_swap (x + 1) xs (x + 1) (above x ys) s.2 (above_from x low' ys t))
    ∙ sym (union_put x xs low' ys s.2 t)

-- a union of ascending lists ascends
pub union_ascends : (low : ℕ) (xs ys : List ℕ) → AscendsFrom low xs → AscendsFrom low ys → AscendsFrom low (union xs ys)
union_ascends low [] ys s t = t
union_ascends low (x ∷ xs) ys s t =
    let rest = union_ascends (x + 1) xs (above x ys) s.2 (above_from x low ys t) in
    below_then x low ys (x ∷ union xs (above x ys)) t s.0 (omega arith, s.1, rest)
