-- Vertex sets: their indices, and one more member.
use Rattle.std.proofs.Common.{◌≡◌, ℕ, zero, suc, ◌<◌, ◌≤◌, cond, nat_lt, List, [], ◌∷◌, ◌++◌, length, slice_set, slice_index_or, ap, refl, arith}
use Rattle.std.proofs.lemmas.Bool.Decides.{nat_tests}
use Rattle.algorithm_meaning.specs.declared.state.SetBinding.{SetBinding}
use Rattle.algorithm_meaning.specs.VertexSets.{set_members, inserted}

pub set_members_inside : (sets : List SetBinding) (index : ℕ) (members : List ℕ) (d : SetBinding) → index < length sets
    → slice_set sets index (record { name = (slice_index_or sets index d).name; members = members }) ≡ set_members sets index members
set_members_inside [] index members d h = absurd (omega (arith, h))
set_members_inside (x ∷ xs) zero members d h = refl
set_members_inside (x ∷ xs) (suc n) members d h = ap (λ (r : List SetBinding). x ∷ r) (set_members_inside xs n members d (omega (arith, h)))

pub set_members_outside : (sets : List SetBinding) (index : ℕ) (members : List ℕ) → length sets ≤ index → sets ≡ set_members sets index members
set_members_outside [] index members h = refl
set_members_outside (x ∷ xs) zero members h = absurd (omega (arith, h))
set_members_outside (x ∷ xs) (suc n) members h = ap (λ (r : List SetBinding). x ∷ r) (set_members_outside xs n members (omega (arith, h)))

-- a number above the first goes in after it
pub inserted_above : (v x : ℕ) (xs : List ℕ) → x < v → inserted v (x ∷ xs) ≡ x ∷ inserted v xs
inserted_above v x xs h = grind (arith, nat_tests)

-- a number that is not above the first goes in before it, if it is not the first
pub inserted_before : (v x : ℕ) (xs : List ℕ) → v ≤ x → (cond (nat_lt v x) (v ∷ []) []) ++ (x ∷ xs) ≡ inserted v (x ∷ xs)
inserted_before v x xs h = grind (arith, nat_tests)
