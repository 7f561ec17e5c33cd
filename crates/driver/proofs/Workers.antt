-- Numbers of workers.
use Rattle.std.proofs.Common.{◌≡◌, ℕ, true, nat_lt, arith}
use Rattle.std.proofs.lemmas.Bool.{ltb-true}
use Rattle.crew.specs.Outcome.{AreWorkers}
use Rattle.scripts.specs.Replies.{is_worker_count}
use Rattle.scripts.proofs.WordLaws.{and_true}

-- those that a script runs a program by are those of a crew
pub counted_workers : (workers : ℕ) → is_worker_count workers ≡ true → AreWorkers workers
counted_workers workers counted =
    let parts = and_true (nat_lt 0 workers) (nat_lt workers 65) counted in
    (omega (arith, ltb-true 0 workers parts.0), omega (arith, ltb-true workers 65 parts.1))
