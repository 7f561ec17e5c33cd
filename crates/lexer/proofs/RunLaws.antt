-- Laws of runs of bytes.
use Rattle.std.proofs.Common.{◌≡◌, ℕ, ◌<◌, ◌≤◌, Bool, true, false, List, [], ◌∷◌, length, take, drop, get_or, zero, suc, arith}
use Rattle.lexer.specs.Spelling.{Every}
use Rattle.lexer.specs.inside.Runs.{EndsRun, IsRun}

-- the bytes before a place pass a test that each of them passes
every_before : (test : ℕ → Bool) (bytes : List ℕ) (i : ℕ) → ((k : ℕ) → k < i → test (get_or bytes k 0) ≡ true) → i ≤ length bytes → Every test (take i bytes)
every_before test [] zero passes within = tt
every_before test [] (suc i) passes within = absurd (omega arith)
every_before test (b ∷ bytes) zero passes within = tt
every_before test (b ∷ bytes) (suc i) passes within =
    (passes 0 (omega arith), every_before test bytes i (λ k below. passes (suc k) (omega arith)) (omega arith))

-- a run ends where the test fails
pub ends_at : (test : ℕ → Bool) (bytes : List ℕ) (i : ℕ) → i < length bytes → test (get_or bytes i 0) ≡ false → EndsRun test (drop i bytes)
ends_at test [] i within fails = absurd (omega arith)
ends_at test (b ∷ bytes) zero within fails = fails
ends_at test (b ∷ bytes) (suc i) within fails = ends_at test bytes i (omega arith) fails

-- a run up to the first byte that fails the test
pub run_to : (test : ℕ → Bool) (bytes : List ℕ) (i : ℕ) → i < length bytes → test (get_or bytes i 0) ≡ false → ((k : ℕ) → k < i → test (get_or bytes k 0) ≡ true) → IsRun test bytes i
run_to test bytes i within fails passes =
    (omega arith, every_before test bytes i passes (omega arith), ends_at test bytes i within fails)

pub ends_whole : (test : ℕ → Bool) (bytes : List ℕ) → EndsRun test (drop (length bytes) bytes)
ends_whole test [] = tt
ends_whole test (b ∷ bytes) = ends_whole test bytes

-- a run of all bytes
pub run_all : (test : ℕ → Bool) (bytes : List ℕ) → ((k : ℕ) → k < length bytes → test (get_or bytes k 0) ≡ true) → IsRun test bytes (length bytes)
run_all test bytes passes =
    (omega arith, every_before test bytes (length bytes) passes (omega arith), ends_whole test bytes)
