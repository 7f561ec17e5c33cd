-- Which source alone counts.
use Rattle.std.proofs.Common.{◌≡◌, ℕ, zero, suc, ◌+◌, ◌-◌, ◌<◌, ◌≤◌, ℤ, pos, Bool, true, false, cond, Option, Some, None, List, [], ◌∷◌, ◌++◌, length, take, drop, get_or, refl, sym, ap, ◌∙◌, arith}
use Rattle.std.proofs.lemmas.Int.{ints, clamps}
use Rattle.std.proofs.lemmas.List.{drop-map, get_or-take, length-take-le, take_more, take-append-drop}
use Rattle.std.proofs.lemmas.List.Elements.{filter-append}
use Rattle.std.specs.Int.{int_min, int_max}
use Rattle.std.specs.List.{filter}
use Rattle.std.specs.Map.{keys_of}
use Rattle.apply_options.specs.declared.reduction.Reduction.{Reduction}
use Rattle.apply_options.specs.declared.reduction.Reduction.TheVariants as reduction
use Rattle.kernels.specs.Arithmetic.{reduced}
use Rattle.edge_fold.specs.ReducedContributions.{reduced_with}
use Rattle.ascending_lists.specs.Ascending.{AscendsFrom}
use Rattle.pull_engine.specs.EarlySources.{CountsOnce, first_of, last_source, last_or, reduced_once}

-- of two numbers the greater decides alone, and the less
above_all : (old : ℤ) (x y : ℕ) → x ≤ y → int_max (int_max old (pos x)) (pos y) ≡ int_max old (pos y)
above_all old x y l = omega (arith, ints, clamps, l)

below_all : (old : ℤ) (x y : ℕ) → x ≤ y → int_min (int_min old (pos x)) (pos y) ≡ int_min old (pos x)
below_all old x y l = omega (arith, ints, clamps, l)

-- a list that ascends from one number ascends from a lower one
from_lower : (low high : ℕ) (xs : List ℕ) → low ≤ high → AscendsFrom high xs → AscendsFrom low xs
from_lower low high [] l up = tt
from_lower low high (x ∷ xs) l up = ((let at = up.0 in omega (arith, l, at)), up.1, up.2)

ascends_filtered : (p : ℕ → Bool) (low x : ℕ) (rest : List ℕ) (b : Bool) → low ≤ x → x < 4294967296 → AscendsFrom (x + 1) rest → AscendsFrom low (cond b (x ∷ rest) rest)
ascends_filtered p low x rest true l few up = (l, few, up)
ascends_filtered p low x rest false l few up = from_lower low (x + 1) rest (omega (arith, l)) up

pub ascends_filter : (p : ℕ → Bool) (low : ℕ) (xs : List ℕ) → AscendsFrom low xs → AscendsFrom low (filter p xs)
ascends_filter p low [] up = tt
ascends_filter p low (x ∷ xs) up = ascends_filtered p low x (filter p xs) (p x) up.0 up.1 (ascends_filter p (x + 1) xs up.2)

greatest_after : (old : ℤ) (x : ℕ) (xs : List ℕ) → AscendsFrom x xs → reduced_with reduction.Max (λ s. pos s) (int_max old (pos x)) xs ≡ reduced_once reduction.Max (λ s. pos s) old
    (last_or (Some x) xs)
greatest_after old x [] up = refl
greatest_after old x (y ∷ ys) up =
    ap (λ (n : ℤ). reduced_with reduction.Max (λ s. pos s) n ys) (above_all old x y up.0) ∙ greatest_after old y ys (from_lower y (y + 1) ys (omega arith) up.2)

pub greatest : (old : ℤ) (low : ℕ) (xs : List ℕ) → AscendsFrom low xs → reduced_with reduction.Max (λ s. pos s) old xs ≡ reduced_once reduction.Max (λ s. pos s) old (last_source xs)
greatest old low [] up = refl
greatest old low (x ∷ xs) up = greatest_after old x xs (from_lower x (x + 1) xs (omega arith) up.2)

least_after : (old : ℤ) (x : ℕ) (xs : List ℕ) → AscendsFrom x xs → reduced_with reduction.Min (λ s. pos s) (int_min old (pos x)) xs ≡ int_min old (pos x)
least_after old x [] up = refl
least_after old x (y ∷ ys) up =
    ap (λ (n : ℤ). reduced_with reduction.Min (λ s. pos s) n ys) (below_all old x y up.0) ∙ least_after old x ys (let at = up.0 in from_lower x (y + 1) ys (omega (arith, at)) up.2)

pub least : (old : ℤ) (low : ℕ) (xs : List ℕ) → AscendsFrom low xs → reduced_with reduction.Min (λ s. pos s) old xs ≡ reduced_once reduction.Min (λ s. pos s) old (first_of xs)
least old low [] up = refl
least old low (x ∷ xs) up = least_after old x xs (from_lower x (x + 1) xs (omega arith) up.2)

-- a number counts once
pub reduced_twice : (r : Reduction) → CountsOnce r → (old n : ℤ) → reduced r (reduced r old n) n ≡ reduced r old n
reduced_twice reduction.Min is old n = omega (arith, ints, clamps)
reduced_twice reduction.Max is old n = omega (arith, ints, clamps)
reduced_twice reduction.Plus is old n = absurd (is refl)

one_after : (r : Reduction) → CountsOnce r → (old n : ℤ) (xs : List ℕ) → reduced_with r (λ _. n) (reduced r old n) xs ≡ reduced r old n
one_after r is old n [] = refl
one_after r is old n (x ∷ xs) = ap (λ (m : ℤ). reduced_with r (λ _. n) m xs) (reduced_twice r is old n) ∙ one_after r is old n xs

pub one_number : (r : Reduction) → CountsOnce r → (n old : ℤ) (xs : List ℕ) → reduced_with r (λ _. n) old xs ≡ reduced_once r (λ _. n) old (first_of xs)
one_number r is n old [] = refl
one_number r is n old (x ∷ xs) = one_after r is old n xs

-- the last of those that pass, where one more comes
last_more : (o : Option ℕ) (xs : List ℕ) (x : ℕ) → last_or o (xs ++ x ∷ []) ≡ Some x
last_more o [] x = refl
last_more o (y ∷ ys) x = last_more (Some y) ys x

last_with : (o : Option ℕ) (xs : List ℕ) (x : ℕ) (b : Bool) → last_or o (xs ++ cond b (x ∷ []) []) ≡ cond b (Some x) (last_or o xs)
last_with o [] x true = refl
last_with o [] x false = refl
last_with o (y ∷ ys) x b = last_with (Some y) ys x b

pub last_passes : (p : ℕ → Bool) (xs : List ℕ) (i : ℕ) (b : Bool) → i < length xs → p (get_or xs i 0) ≡ b
    → last_source (filter p (take (i + 1) xs)) ≡ cond b (Some (get_or xs i 0)) (last_source (filter p (take i xs)))
last_passes p xs i b l is =
    let x = get_or xs i 0 in
    ap (λ (ys : List ℕ). last_source (filter p ys)) (take_more xs i 0 l)
    ∙ ap last_source (filter-append p (take i xs) (x ∷ []))
    ∙ ap (λ (c : Bool). last_source (filter p (take i xs) ++ cond c (x ∷ []) [])) is
    ∙ last_with None (filter p (take i xs)) x b

-- the neighbours of the entries that are left
pub keys_behind : (n : ℕ) (all rest : List (ℕ × ℤ)) → rest ≡ drop n all → keys_of rest ≡ drop n (keys_of all)
keys_behind n all rest is = ap (λ (es : List (ℕ × ℤ)). keys_of es) is ∙ sym (drop-map (λ (e : ℕ × ℤ). e.0) n all)

-- what comes before does not matter where one passes after it
pub last_after : (o : Option ℕ) (xs ys : List ℕ) → last_or o (xs ++ ys) ≡ last_or (last_or o xs) ys
last_after o [] ys = refl
last_after o (x ∷ xs) ys = last_after (Some x) xs ys

pub last_at : (o : Option ℕ) (xs : List ℕ) (k : ℕ) → k + 1 ≡ length xs → last_or o xs ≡ Some (get_or xs k 0)
last_at o [] k e = absurd (omega (arith, e))
last_at o (x ∷ []) k e = let z : k ≡ 0 = omega (arith, e) in sym (ap (λ j. Some (get_or (x ∷ []) j 0)) z)
last_at o (x ∷ y ∷ ys) zero e = absurd (omega (arith, e))
last_at o (x ∷ y ∷ ys) (suc k) e = last_at (Some x) (y ∷ ys) k (omega (arith, e))

-- one round of a walk: the last that passes among those that came
round_parts : (p : ℕ → Bool) (o : Option ℕ) (all first second : List ℕ) (count kept : ℕ) → take count first ≡ take count all → take kept second ≡ filter p (take count first)
    → last_or o (filter p all) ≡ last_or (last_or o (take kept second)) (filter p (drop count all))
round_parts p o all first second count kept filled keeps =
    ap (λ xs. last_or o (filter p xs)) (sym (take-append-drop count all))
    ∙ ap (last_or o) (filter-append p (take count all) (drop count all))
    ∙ last_after o (filter p (take count all)) (filter p (drop count all))
    ∙ ap (λ xs. last_or (last_or o xs) (filter p (drop count all))) (sym (keeps ∙ ap (filter p) filled))

pub last_of_round : (p : ℕ → Bool) (o : Option ℕ) (all first second : List ℕ) (count kept : ℕ) → take count first ≡ take count all → take kept second ≡ filter p (take count first) → 0 < kept
    → kept ≤ length second
    → last_or (Some (get_or second (kept - 1) 0)) (filter p (drop count all)) ≡ last_or o (filter p all)
last_of_round p o all first second count kept filled keeps some few =
    let long = length-take-le kept second few in
    let last : kept - 1 + 1 ≡ length (take kept second) = omega (arith, long, some) in
    sym (round_parts p o all first second count kept filled keeps
    ∙ ap (λ (l : Option ℕ). last_or l (filter p (drop count all))) (last_at o (take kept second) (kept - 1) last ∙ ap Some (get_or-take kept second (kept - 1) 0 (omega (arith, some)))))

pub none_of_round : (p : ℕ → Bool) (o : Option ℕ) (all first second : List ℕ) (count kept : ℕ) → take count first ≡ take count all → take kept second ≡ filter p (take count first) → kept ≡ 0
    → last_or o (filter p (drop count all)) ≡ last_or o (filter p all)
none_of_round p o all first second count kept filled keeps none =
    sym (round_parts p o all first second count kept filled keeps ∙ ap (λ (k : ℕ). last_or (last_or o (take k second)) (filter p (drop count all))) none)

-- one round of a walk over all sources
pub reduced_with-append : (r : Reduction) (number : ℕ → ℤ) (n : ℤ) (xs ys : List ℕ) → reduced_with r number n (xs ++ ys) ≡ reduced_with r number (reduced_with r number n xs) ys
reduced_with-append r number n [] ys = refl
reduced_with-append r number n (x ∷ xs) ys = reduced_with-append r number (reduced r n (number x)) xs ys

pub all_of_round : (p : ℕ → Bool) (r : Reduction) (number : ℕ → ℤ) (n m : ℤ) (all first second : List ℕ) (count kept : ℕ) → take count first ≡ take count all
    → take kept second ≡ filter p (take count first)
    → m ≡ reduced_with r number n (take kept second) → reduced_with r number m (filter p (drop count all)) ≡ reduced_with r number n (filter p all)
all_of_round p r number n m all first second count kept filled keeps is =
    ap (λ (k : ℤ). reduced_with r number k (filter p (drop count all))) (is ∙ ap (reduced_with r number n) (keeps ∙ ap (filter p) filled))
    ∙ sym (reduced_with-append r number n (filter p (take count all)) (filter p (drop count all)))
    ∙ ap (reduced_with r number n) (sym (filter-append p (take count all) (drop count all)) ∙ ap (filter p) (take-append-drop count all))
