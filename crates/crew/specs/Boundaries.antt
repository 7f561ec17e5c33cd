-- Where the pieces of a list of vertices end. Pieces are runs of the list, one after the other.
use Rattle.std.specs.Prelude.{ℕ, ◌+◌, ◌-◌, ◌*◌, ◌/◌, ◌%◌, ◌==◌, min, if◌then◌else◌, List, [], ◌∷◌, ◌++◌, replicate}
use Rattle.std.specs.Int.{div_ceil}
use Rattle.apply_options.specs.declared.apply_schedule.Parallelization.{Parallelization}
use Rattle.apply_options.specs.declared.apply_schedule.Parallelization.TheVariants.{Serial, StaticVertex, DynamicVertex, EdgeAwareDynamicVertex}
use Rattle.crew.specs.Limits.{limited_ends, weight}

-- the ends of runs that have so many vertices each
abbrev pub run_ends_from : (start : ℕ) → (lengths : List ℕ) → List ℕ
run_ends_from start [] = []
run_ends_from start (n ∷ ns) = (start + n) ∷ run_ends_from (start + n) ns

-- what is left over, where something is
abbrev pub rest_of : ℕ → List ℕ
rest_of n = if n == 0 then [] else n ∷ []

-- all in one piece
abbrev pub serial_ends : (count : ℕ) → List ℕ
serial_ends count = run_ends_from 0 (rest_of count)

-- a piece for each worker, where there is a vertex for each; the first ones have one vertex more than the others
abbrev pub static_ends : (workers count : ℕ) → List ℕ
static_ends workers count =
    let pieces = min workers count in
    let longer = count % pieces in
    run_ends_from 0 (replicate longer (count / pieces + 1) ++ replicate (pieces - longer) (count / pieces))

-- so many vertices as make four pieces for each worker, and what is left over
abbrev pub dynamic_ends : (workers count : ℕ) → List ℕ
dynamic_ends workers count =
    let run = div_ceil count (4 * workers) in
    run_ends_from 0 (replicate (count / run) run ++ rest_of (count % run))

-- as many vertices as have with their edges a part of all that makes four for each worker
abbrev pub edge_aware_ends : (workers : ℕ) → (degrees : List ℕ) → List ℕ
edge_aware_ends workers degrees = limited_ends (div_ceil (weight degrees) (4 * workers)) 0 0 degrees

-- as a schedule says for n vertices, of these degrees
abbrev pub boundaries : Parallelization → (workers count : ℕ) → (degrees : List ℕ) → List ℕ
boundaries Serial workers count degrees = serial_ends count
boundaries StaticVertex workers count degrees = static_ends workers count
boundaries DynamicVertex workers count degrees = dynamic_ends workers count
boundaries EdgeAwareDynamicVertex workers count degrees = edge_aware_ends workers degrees
