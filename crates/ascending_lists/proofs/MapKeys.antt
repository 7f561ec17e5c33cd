-- The keys of lists of entries.
use Rattle.std.proofs.Common.{◌≡◌, ℕ, ◌+◌, ◌^◌, ◌≤◌, List, [], ◌∷◌, ◌++◌, refl, ap, arith}
use Rattle.std.specs.Map.{keys_of}
use Rattle.ascending_lists.specs.Ascending.{AscendsFrom}
use Rattle.ascending_lists.specs.Maps.{Rises}
use Rattle.ascending_lists.proofs.MapOrder.{rises_room}

module _ {V : Type 0} where
  pub keys_append : (xs ys : List (ℕ × V)) → keys_of (xs ++ ys) ≡ keys_of xs ++ keys_of ys
  keys_append [] ys = refl
  keys_append (x ∷ xs) ys = ap (λ v. x.0 ∷ v) (keys_append xs ys)

  pub keys_ascend : (low : ℕ) (es : List (ℕ × V)) → Rises low (2 ^ 32) es → AscendsFrom low (keys_of es)
  keys_ascend low [] s = tt
  keys_ascend low (e ∷ es) s = (s.0, omega (arith, rises_room (e.0 + 1) (2 ^ 32) es s.1), keys_ascend (e.0 + 1) es s.1)

  pub entries_rise : (low : ℕ) (es : List (ℕ × V)) → low ≤ 2 ^ 32 → AscendsFrom low (keys_of es) → Rises low (2 ^ 32) es
  entries_rise low [] le s = le
  entries_rise low (e ∷ es) le s = (s.0, entries_rise (e.0 + 1) es (omega (arith, s.1)) s.2)
