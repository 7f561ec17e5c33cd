-- Ascending lists, and their elements.
use Rattle.std.proofs.Common.{◌≡◌, ℕ, zero, suc, ◌+◌, ◌^◌, ◌≤◌, ◌⊎◌, inl, inr, List, [], ◌∷◌, ◌++◌, length, refl, arith}
use Rattle.std.specs.List.{Contains}
use Rattle.std.proofs.lemmas.List.Elements.{Contains-append_right}
use Rattle.ascending_lists.specs.Ascending.{AscendsFrom}

-- a list that ascends from a number ascends from a smaller one
pub ascends_from : (low high : ℕ) (xs : List ℕ) → low ≤ high → AscendsFrom high xs → AscendsFrom low xs
ascends_from low high [] le s = tt
ascends_from low high (x ∷ xs) le s = (omega (arith, s.0), s.1, s.2)

pub ascends_front : (low : ℕ) (xs ys : List ℕ) → AscendsFrom low (xs ++ ys) → AscendsFrom low xs
ascends_front low [] ys s = tt
ascends_front low (x ∷ xs) ys s = (s.0, s.1, ascends_front (x + 1) xs ys s.2)

pub ascends_back : (low : ℕ) (xs ys : List ℕ) → AscendsFrom low (xs ++ ys) → AscendsFrom low ys
ascends_back low [] ys s = s
ascends_back low (x ∷ xs) ys s = ascends_from low (x + 1) ys (omega (arith, s.0)) (ascends_back (x + 1) xs ys s.2)

-- there is room for the elements of an ascending list
pub ascends_room : (low : ℕ) (xs : List ℕ) → low ≤ 2 ^ 32 → AscendsFrom low xs → low + length xs ≤ 2 ^ 32
ascends_room low [] le s = omega arith
ascends_room low (x ∷ xs) le s = omega (arith, s.0, ascends_room (x + 1) xs (omega (arith, s.1)) s.2)

pub contains_head : (x : ℕ) (xs : List ℕ) → Contains (x ∷ xs) x
contains_head x xs = (0, omega arith, refl)

pub contains_tail : (x e : ℕ) (xs : List ℕ) → Contains xs e → Contains (x ∷ xs) e
contains_tail x e xs h = Contains-append_right (x ∷ []) xs e h

pub contains_none : (e : ℕ) → Contains [] e → ⊥
contains_none e (k, lt, is) = omega arith

pub contains_cases : (x e : ℕ) (xs : List ℕ) → Contains (x ∷ xs) e → (x ≡ e) ⊎ Contains xs e
contains_cases x e xs (zero, lt, is) = inl is
contains_cases x e xs (suc k, lt, is) = inr (k, omega arith, is)

-- an element is not below the number that its list ascends from
pub least_element : (low e : ℕ) (xs : List ℕ) → AscendsFrom low xs → Contains xs e → low ≤ e
least_element low e [] s h = absurd (contains_none e h)
least_element low e (x ∷ xs) s h =
    elim (contains_cases x e xs h) [ inl is ↦ omega (arith, s.0) | inr later ↦ omega (arith, s.0, least_element (x + 1) e xs s.2 later) ]
