-- Entries that are read one after another.
use Rattle.std.proofs.Common.{◌≡◌, ℕ, ◌+◌, ◌-◌, ◌^◌, ◌<◌, ◌≤◌, List, [], ◌∷◌, ◌++◌, length, get_or, set, take, drop, sym, ap, ◌∙◌, append_assoc, arith}
use Rattle.std.specs.List.{swap_remove}
use Rattle.std.proofs.lemmas.List.{take_more, take-append-drop, take-set, take_all}
use Rattle.ascending_lists.specs.Maps.{Rises, IsMap}
use Rattle.ascending_lists.proofs.MapOrder.{rises_to, rises_left, rises_right, rises_joined, rises_front, rises_back}

module _ {V : Type 0} (es : List (ℕ × V)) (i : ℕ) (e : ℕ × V) (lt : i < length es) (is : e ≡ get_or es i e) where
  one_more : take (i + 1) es ≡ take i es ++ e ∷ []
  one_more = take_more es i e lt ∙ ap (λ x. take i es ++ x ∷ []) (sym is)

  -- an entry above those before it
  pub rises_more : (low : ℕ) → low ≤ e.0 → Rises 0 low (take i es) → Rises 0 (e.0 + 1) (take (i + 1) es)
  rises_more low le s =
      let last : e.0 + 1 ≤ e.0 + 1 = omega arith in
      rw one_more (rises_joined 0 (e.0 + 1) (take i es) e.0 e.1 [] (rises_to 0 low e.0 (take i es) s le) last)

  -- the bound above it is the least
  pub least_more : (h : ℕ) → Rises 0 h (take (i + 1) es) → e.0 + 1 ≤ h
  least_more h s = rises_right 0 h (take i es) e.0 e.1 [] (rw one_more at s)

  -- an entry that is not above those before it
  pub no_map : (low : ℕ) → ((h : ℕ) → Rises 0 h (take i es) → low ≤ h) → e.0 < low → IsMap es → ⊥
  no_map low least below m =
      let front = rises_front 0 (2 ^ 32) (take (i + 1) es) (drop (i + 1) es) (rw (take-append-drop (i + 1) es) m) in
      omega (arith, least e.0 (rises_left 0 (2 ^ 32) (take i es) e.0 e.1 [] (rw one_more at front)))

module _ {V : Type 0} where
  -- all entries were read
  pub map_read : (es : List (ℕ × V)) (i low : ℕ) → length es ≤ i → low ≤ 2 ^ 32 → Rises 0 low (take i es) → IsMap es
  map_read es i low past fits s = rises_to 0 low (2 ^ 32) es (rw (take_all i es past) at s) fits

  -- what is left before an entry and a tree that were taken
  pub map_rest : (a b : List (ℕ × V)) (r : List (ℕ × V)) (e : ℕ × V) (c : List (ℕ × V)) → IsMap a → a ≡ b ++ r → b ≡ c ++ e ∷ [] → IsMap c
  map_rest a b r e c m p q = rises_front 0 (2 ^ 32) c (e ∷ []) (rw q at (rises_front 0 (2 ^ 32) b r (rw p at m)))

  -- a tree, an entry and a tree that were taken one after another from the end
  pub taken : (a b r : List (ℕ × V)) (e : ℕ × V) (c d l : List (ℕ × V)) → a ≡ b ++ r → b ≡ c ++ e ∷ [] → c ≡ d ++ l → a ≡ d ++ (l ++ e ∷ r)
  taken a b r e c d l p q s = p ∙ ap (λ b. b ++ r) q ∙ append_assoc c (e ∷ []) r ∙ ap (λ c. c ++ e ∷ r) s ∙ append_assoc d l (e ∷ r)

  -- make a map
  pub map_taken : (a b r : List (ℕ × V)) (e : ℕ × V) (c d l : List (ℕ × V)) → IsMap a → a ≡ b ++ r → b ≡ c ++ e ∷ [] → c ≡ d ++ l → IsMap (l ++ e ∷ r)
  map_taken a b r e c d l m p q s = rises_back 0 (2 ^ 32) d (l ++ e ∷ r) (rw (taken a b r e c d l p q s) at m)

-- the last element, which was taken out
pub last_taken : {A : Type 0} → (xs ys : List A) (i : ℕ) (x : A) → i + 1 ≡ length xs → x ≡ get_or xs i x → ys ≡ swap_remove xs i x → xs ≡ ys ++ x ∷ []
last_taken xs ys i x last is swapped =
    let at : length xs - 1 ≡ i = omega arith in
    let lt : i < length xs = omega arith in
    let rest : ys ≡ take i xs = swapped ∙ ap (λ n. take n (set xs i (get_or xs n x))) at ∙ take-set xs i (get_or xs i x) in
    sym (take_all (i + 1) xs (omega arith)) ∙ take_more xs i x lt ∙ ap (λ y. take i xs ++ y ∷ []) (sym is) ∙ ap (λ zs. zs ++ x ∷ []) (sym rest)
