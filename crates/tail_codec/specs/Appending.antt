-- Bytes that come after others.
use Rattle.std.specs.Prelude.{◌≡◌, ℕ, ◌+◌, Result, IfOk, List, [], ◌∷◌, ◌++◌}

-- the least number that may be next after these elements
abbrev pub least_after : ℕ → List ℕ → ℕ
least_after low [] = low
least_after low (x ∷ xs) = least_after (x + 1) xs

-- The new bytes are the old ones and more after them, whether or not the call succeeded. Where it did,
-- P holds of its value and of what is after.
pub record IsAppended {T E : Type 0} (old : List ℕ) (r : Result T E) (P : T → List ℕ → Type 0) (new : List ℕ) : Type 0 where
  pub more : List ℕ
  pub behind : new ≡ old ++ more
  pub bytes : IfOk r (λ x. P x more)
