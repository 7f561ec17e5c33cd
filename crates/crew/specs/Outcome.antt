-- What a run of pieces gives, case by case.
use Rattle.std.specs.Prelude.{◌≡◌, ℕ, ◌≤◌, Result, Ok, Err, Vec}
use Rattle.crew.specs.declared.error.CrewError.{CrewError}
use Rattle.crew.specs.declared.error.CrewError.TheVariants.{BadWorkers, NoMemory}
use Rattle.crew.specs.declared.piece_results.Found.{Found}
use Rattle.crew.specs.Pieces.{AreFound}

-- a run may have 1 to 64 workers
abbrev pub AreWorkers : ℕ → Type 0
AreWorkers workers = (1 ≤ workers) × (workers ≤ 64)

-- each piece with its own answer, or the refusal of a number of workers
abbrev pub Finds : {T A : Type 0} → (ℕ → T → Type 0) → ℕ → ℕ → Result (Vec (Found T) A) CrewError → Type 0
Finds answers pieces workers (Ok found) = AreWorkers workers × AreFound answers pieces found.items
Finds answers pieces workers (Err BadWorkers) = ¬ AreWorkers workers
Finds answers pieces workers (Err NoMemory) = AreWorkers workers

-- the edges that each worker is to have
abbrev pub edges_of_a_worker : ℕ
edges_of_a_worker = 16384
