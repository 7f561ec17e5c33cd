-- Vertex sets are ascending, in each state of a run.
use Rattle.std.proofs.Common.{◌≡◌, ℕ, zero, suc, ◌+◌, ◌<◌, ◌≤◌, nat_lt, ◌==◌, Bool, true, false, cond, List, [], ◌∷◌, slice_get, slice_index_or, refl, subst, arith}
use Rattle.std.proofs.lemmas.Bool.Decides.{nat_tests}
use Rattle.std.specs.List.{filter, range_with_len}
use Rattle.std.specs.List.Sorted.{IsStrictlyIncreasing}
use Rattle.algorithm_meaning.specs.State.{StateValue}
use Rattle.algorithm_meaning.specs.Value.{members_of}
use Rattle.algorithm_meaning.specs.VertexSets.{inserted}

-- each number is greater than the one before it, and none is below this
abbrev pub AscendsFrom : ℕ → List ℕ → Type 0
AscendsFrom low [] = Unit {0}
AscendsFrom low (x ∷ xs) = (low ≤ x) × AscendsFrom (x + 1) xs

pub lower : (a b : ℕ) (xs : List ℕ) → a ≤ b → AscendsFrom b xs → AscendsFrom a xs
lower a b [] h asc = tt
lower a b (x ∷ xs) h asc = (omega (arith, h, asc.0), asc.1)

pub ascends_range : (a n : ℕ) → AscendsFrom a (range_with_len a n)
ascends_range a zero = tt
ascends_range a (suc n) = (omega arith, ascends_range (a + 1) n)

ascends_if : (b : Bool) (low x : ℕ) (xs : List ℕ) → low ≤ x → AscendsFrom (x + 1) xs → AscendsFrom low (cond b (x ∷ xs) xs)
ascends_if true low x xs h asc = (h, asc)
ascends_if false low x xs h asc = lower low (x + 1) xs (omega (arith, h)) asc

pub ascends_filter : (test : ℕ → Bool) (low : ℕ) (xs : List ℕ) → AscendsFrom low xs → AscendsFrom low (filter test xs)
ascends_filter test low [] asc = tt
ascends_filter test low (x ∷ xs) asc = ascends_if (test x) low x (filter test xs) asc.0 (ascends_filter test (x + 1) xs asc.1)

ascends_where : (before same : Bool) (v x low : ℕ) (xs more : List ℕ) → nat_lt v x ≡ before → (v == x) ≡ same → low ≤ v → low ≤ x → AscendsFrom (x + 1) xs
    → (x + 1 ≤ v → AscendsFrom (x + 1) more) → AscendsFrom low (cond before (v ∷ x ∷ xs) (cond same (x ∷ xs) (x ∷ more)))
ascends_where true same v x low xs more is e h k asc go = let less : v + 1 ≤ x = grind (arith, nat_tests) in (h, (less, asc))
ascends_where false true v x low xs more is e h k asc go = (k, asc)
ascends_where false false v x low xs more is e h k asc go = let above : x + 1 ≤ v = grind (arith, nat_tests) in (k, go above)

pub ascends_inserted : (v low : ℕ) (xs : List ℕ) → low ≤ v → AscendsFrom low xs → AscendsFrom low (inserted v xs)
ascends_inserted v low [] h asc = (h, tt)
ascends_inserted v low (x ∷ xs) h asc =
    ascends_where (nat_lt v x) (v == x) v x low xs (inserted v xs) refl refl h asc.0 asc.1 (λ above. ascends_inserted v (x + 1) xs above asc.1)

increasing_later : (x : ℕ) (xs : List ℕ) → IsStrictlyIncreasing (x ∷ xs) → IsStrictlyIncreasing xs
increasing_later x xs up k within =
    let e : suc k + 1 ≡ suc (k + 1) = omega arith in
    subst (λ n. slice_index_or xs k 0 < slice_index_or (x ∷ xs) n 0) e (up (suc k) (omega arith))

increasing_second : (x : ℕ) (xs : List ℕ) → IsStrictlyIncreasing (x ∷ xs) → x + 1 ≤ slice_index_or xs 0 (x + 1)
increasing_second x [] up = omega arith
increasing_second x (y ∷ ys) up = omega (arith, up 0 (omega arith))

pub ascends_increasing : (low : ℕ) (xs : List ℕ) → low ≤ slice_index_or xs 0 low → IsStrictlyIncreasing xs → AscendsFrom low xs
ascends_increasing low [] h up = tt
ascends_increasing low (x ∷ xs) h up = (h, ascends_increasing (x + 1) xs (increasing_second x xs up) (increasing_later x xs up))

-- so are all these sets
abbrev pub AreAscending : StateValue → Type 0
AreAscending s = (index : ℕ) → AscendsFrom 0 (members_of (slice_get s.sets index))
