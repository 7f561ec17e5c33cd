-- What a worker's claim is, and which pieces its numbers mean.
use Rattle.std.specs.Prelude.{◌≡◌, ℕ, ◌+◌, ◌^◌, cond, nat_lt, List, [], ◌∷◌}
use Rattle.atomic_table.specs.declared.shared.Seat.{Seat}
use Rattle.atomic_table.specs.Seated.{TableId}
use Rattle.crew.specs.declared.claim_word.ClaimView.{ClaimView}

-- the rights of one worker, more than a run has pieces
abbrev pub worker_rights : ℕ
worker_rights = 2 ^ 33

-- what the worker knows
abbrev pub view_of : Seat (Unit {0}) ClaimView → ClaimView
view_of claim = claim.me.0

-- it is a claim at the claim word of this table
abbrev pub IsClaimAt : TableId → Seat (Unit {0}) ClaimView → Type 0
IsClaimAt table claim = (claim.table_id ≡ table) × (table.words ≡ 1) × (claim.me.1 ≡ [])

-- of the indices, those below the number of pieces, as pieces, which are numbered from 1
abbrev pub pieces_at : ℕ → List ℕ → List ℕ
pieces_at n [] = []
pieces_at n (k ∷ ks) = cond (nat_lt k n) ((k + 1) ∷ pieces_at n ks) (pieces_at n ks)
