-- The rule of the claim word: every number below the word was claimed by one worker, once, and by no other.
use Rattle.std.specs.Prelude.{[], ℕ, List, ◌+◌, cond, nat_eq, ◌∷◌, nat_lt, ◌^◌, ◌≡◌, ◌≤◌, length, ◌++◌}
use mathlib.Core.Option.{some}
use lib.ListN.{get_elem?}
use Rattle.crew.specs.declared.claim_word.ClaimView.{ClaimView}

-- the view of a worker with these rights, the numbers that it claimed, and one more than the last of them
abbrev pub claim_view : ℕ → List ℕ → ℕ → ClaimView
claim_view rights claimed next = record { rights = rights; claimed = claimed; next = next }

-- how often x is in the list
abbrev pub times : ℕ → List ℕ → ℕ
times x [] = 0
times x (y ∷ ys) = cond (nat_eq y x) 1 0 + times x ys

-- 1 where x is below n, and else 0
abbrev pub once_below : ℕ → ℕ → ℕ
once_below x n = cond (nat_lt x n) 1 0

-- what f gives of the views, added up
abbrev pub total : (ClaimView → ℕ) → List ClaimView → ℕ
total f [] = 0
total f (v ∷ vs) = f v + total f vs

-- all rights to claim, which the first view has; a right is for one claim
abbrev pub all_rights : ℕ
all_rights = 2 ^ 40

-- The views have all rights. Together they claimed n numbers, and those are the numbers below n, each once
abbrev pub AreClaimed : ℕ → List ClaimView → Type 0
AreClaimed n views =
    (total (λ v. v.rights) views ≡ all_rights)
    × (total (λ v. length v.claimed) views ≡ n)
    × ((x : ℕ) → total (λ v. times x v.claimed) views ≡ once_below x n)
    × ((worker : ℕ) (v : ClaimView) → get_elem? views worker ≡ some v → (v.next ≤ n) × (length v.claimed ≤ v.rights))

-- the rule over the words of the table and the views
abbrev pub IsClaimWord : List ℕ → List ClaimView → Type 0
IsClaimWord words views = (n : ℕ) × (words ≡ n ∷ []) × AreClaimed n views

-- What a claim tells: the number is not below one that the worker has, and is after those.
-- Who has all rights claimed each number below it before, and no other
abbrev pub Claims : ClaimView → ℕ → ClaimView → Type 0
Claims v k w = (v.next ≤ k) × (w ≡ claim_view v.rights (v.claimed ++ k ∷ []) (k + 1))
    × (v.rights ≡ all_rights → (x : ℕ) → times x v.claimed ≡ once_below x k)
