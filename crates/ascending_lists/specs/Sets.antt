-- Unions and differences of ascending lists.
use Rattle.std.specs.Prelude.{◌≡◌, ℕ, ◌==◌, nat_lt, Bool, true, false, if◌then◌else◌, List, [], ◌∷◌, ◌++◌}

-- whether a number is an element
abbrev pub has : ℕ → List ℕ → Bool
has k [] = false
has k (x ∷ xs) = if x == k then true else has k xs

-- the elements below a number
abbrev pub below : ℕ → List ℕ → List ℕ
below k [] = []
below k (x ∷ xs) = if nat_lt x k then x ∷ below k xs else below k xs

-- the elements above a number
abbrev pub above : ℕ → List ℕ → List ℕ
above k [] = []
above k (x ∷ xs) = if nat_lt k x then x ∷ above k xs else above k xs

-- the elements of both lists in order, each once
abbrev pub union : List ℕ → List ℕ → List ℕ
union [] ys = ys
union (x ∷ xs) ys = below x ys ++ x ∷ union xs (above x ys)

-- the elements of the first list that the second lacks
abbrev pub difference : List ℕ → List ℕ → List ℕ
difference [] ys = []
difference (x ∷ xs) ys = if has x ys then difference xs ys else x ∷ difference xs ys

-- The list xs cut at k: l is what it has below k, found says whether it has k, and r is what it has above.
pub record Cuts (k : ℕ) (xs l : List ℕ) (found : Bool) (r : List ℕ) : Type 0 where
  pub front : l ≡ below k xs
  pub there : found ≡ has k xs
  pub back : r ≡ above k xs
