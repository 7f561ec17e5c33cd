-- Pieces of vertices that have with their edges about as much as one another.
use Rattle.std.specs.Prelude.{◌≢◌, ℕ, ◌+◌, ◌-◌, ◌<◌, ◌≤◌, ◌==◌, nat_le, if◌then◌else◌, List, [], ◌∷◌, length, slice_range}
use Rattle.std.specs.List.{sum_by}

-- how many vertices of these degrees and edges of theirs there are
abbrev pub weight : (degrees : List ℕ) → ℕ
weight degrees = sum_by (λ d. d + 1) degrees

-- the ends of runs, each ended at the first vertex where its weight reaches a limit, and the last one with the list;
-- the run that is not ended has reached so much at an index, after which vertices of these degrees stand
abbrev pub limited_ends : (limit reached index : ℕ) → (degrees : List ℕ) → List ℕ
limited_ends limit reached index [] = if reached == 0 then [] else index ∷ []
limited_ends limit reached index (d ∷ ds) =
    if nat_le limit (reached + (d + 1)) then (index + 1) ∷ limited_ends limit 0 (index + 1) ds
    else limited_ends limit (reached + (d + 1)) (index + 1) ds

-- a run reaches the limit at its end, or ends with the list, and does not reach it before
pub record EndsAtLimit (limit start end : ℕ) (degrees : List ℕ) : Type 0 where
  pub reaches : end ≢ length degrees → limit ≤ weight (slice_range degrees start end)
  pub first : weight (slice_range degrees start (end - 1)) < limit

-- each run from an index on does
abbrev pub EachEndsAtLimit : (limit start : ℕ) → (ends degrees : List ℕ) → Type 0
EachEndsAtLimit limit start [] degrees = Unit {0}
EachEndsAtLimit limit start (e ∷ es) degrees = EndsAtLimit limit start e degrees × EachEndsAtLimit limit e es degrees
