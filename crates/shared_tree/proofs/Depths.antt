-- The depth of a tree one side of which was changed.
use Rattle.std.proofs.Common.{◌≡◌, ℕ, ◌+◌, ◌≤◌, ◌⊎◌, max, inl, inr, arith}
use Rattle.std.proofs.lemmas.Bool.{cases_lt}
use Rattle.shared_tree.specs.Balanced.{DifferByAtMostOne}

-- two depths are near, or one is two or more above the other
cases_near : (l r : ℕ) → (DifferByAtMostOne l r) ⊎ ((r + 2 ≤ l) ⊎ (l + 2 ≤ r))
cases_near l r =
    elim (cases_lt (r + 1) l) [
      | inl lt ↦ inr (inl (omega arith))
      | inr le ↦ elim (cases_lt (l + 1) r) [ inl lt ↦ inr (inr (omega arith)) | inr le' ↦ inl (le, le') ]
    ]

-- l and r are the depths of the sides before, and x and y those after, of which the tree n was joined
module _ (l r x y n : ℕ) (balanced : DifferByAtMostOne l r) (not_less : max x y ≤ n) (not_more : n ≤ max x y + 1) (near : DifferByAtMostOne x y → n ≡ max x y + 1) where
  -- no side was made less deep, and one of them at most one deeper
  pub grown : l ≤ x → r ≤ y → x + y ≤ l + r + 1 → (max l r + 1 ≤ n) × (n ≤ max l r + 2)
  grown p q s =
      elim (cases_near x y) [
        | inl same ↦ let e = near same in (omega arith, omega arith)
        | inr far ↦ elim far [ inl left ↦ (omega arith, omega arith) | inr right ↦ (omega arith, omega arith) ]
      ]

  -- no side was made deeper, and one of them at most one less deep
  pub shrunk : x ≤ l → y ≤ r → l + r ≤ x + y + 1 → (max l r ≤ n) × (n ≤ max l r + 1)
  shrunk p q s =
      elim (cases_near x y) [
        | inl same ↦ let e = near same in (omega arith, omega arith)
        | inr far ↦ elim far [ inl left ↦ (omega arith, omega arith) | inr right ↦ (omega arith, omega arith) ]
      ]
