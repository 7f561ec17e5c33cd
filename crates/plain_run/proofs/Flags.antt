-- Flags of vertices.
use Rattle.std.proofs.Common.{◌≡◌, ℕ, zero, suc, ◌+◌, nat_lt, ◌==◌, Bool, true, false, ◌&&◌, ◌||◌, List, [], ◌∷◌, length, map, replicate, slice_index_or, slice_set, ap, sym, ◌∙◌, refl, arith}
use Rattle.std.proofs.lemmas.Bool.Decides.{nat_tests}
use Rattle.std.proofs.lemmas.List.{length-set}
use Rattle.std.specs.List.{range_with_len}
use Rattle.algorithm_meaning.specs.EdgeApply.{is_member}
use Rattle.plain_run.specs.inside.Flags.{marked}

none_below_zero : (v : ℕ) → nat_lt v 0 ≡ false
none_below_zero v = grind (arith, nat_tests)

zero_below : (n : ℕ) → nat_lt 0 (suc n) ≡ true
zero_below n = grind (arith, nat_tests)

below_next : (v n : ℕ) → nat_lt (suc v) (suc n) ≡ nat_lt v n
below_next v n = grind (arith, nat_tests)

-- a test of each number of a range
pub flag_of_range : (test : ℕ → Bool) (a n v : ℕ) → slice_index_or (map test (range_with_len a n)) v false ≡ nat_lt v n && test (a + v)
flag_of_range test a zero v = ap (λ (b : Bool). b && test (a + v)) (sym (none_below_zero v))
flag_of_range test a (suc n) zero = ap test (omega arith) ∙ ap (λ (b : Bool). b && test (a + 0)) (sym (zero_below n))
flag_of_range test a (suc n) (suc v) =
    flag_of_range test (a + 1) n v
    ∙ ap (λ (x : ℕ). nat_lt v n && test x) (omega arith)
    ∙ ap (λ (b : Bool). b && test (a + suc v)) (sym (below_next v n))

-- a test of each number below a bound
pub flag_of_vertex : (test : ℕ → Bool) (n v : ℕ) → slice_index_or (map test (range_with_len 0 n)) v false ≡ nat_lt v n && test v
flag_of_vertex test n v = flag_of_range test 0 n v ∙ ap (λ (x : ℕ). nat_lt v n && test x) (omega arith)

no_more : (l f : Bool) → f ≡ (l && false) || f
no_more true f = refl
no_more false f = refl

one_more : (l e m f : Bool) → (l && m) || ((l && e) || f) ≡ (l && (e || m)) || f
one_more true true true f = refl
one_more true true false f = refl
one_more true false m f = refl
one_more false e m f = refl

no_next_zero : (v : ℕ) → (0 == suc v) ≡ false
no_next_zero v = grind (arith, nat_tests)

no_zero_next : (m : ℕ) → (suc m == 0) ≡ false
no_zero_next m = grind (arith, nat_tests)

same_next : (m v : ℕ) → (suc m == suc v) ≡ (m == v)
same_next m v = grind (arith, nat_tests)

first_set : (f : Bool) (n : ℕ) → true ≡ (nat_lt 0 (suc n) && true) || f
first_set f n = ap (λ (b : Bool). (b && true) || f) (sym (zero_below n))

-- a flag after one was set
set_flag_at : (flags : List Bool) (m v : ℕ) → slice_index_or (slice_set flags m true) v false ≡ (nat_lt v (length flags) && (m == v)) || slice_index_or flags v false
set_flag_at [] m v = ap (λ (b : Bool). (b && (m == v)) || false) (sym (none_below_zero v))
set_flag_at (f ∷ fs) zero zero = first_set f (length fs)
set_flag_at (f ∷ fs) zero (suc v) = no_more (nat_lt (suc v) (suc (length fs))) (slice_index_or fs v false)
    ∙ ap (λ (b : Bool). (nat_lt (suc v) (suc (length fs)) && b) || slice_index_or fs v false) (sym (no_next_zero v))
set_flag_at (f ∷ fs) (suc m) zero = no_more (nat_lt 0 (suc (length fs))) f
    ∙ ap (λ (b : Bool). (nat_lt 0 (suc (length fs)) && b) || f) (sym (no_zero_next m))
set_flag_at (f ∷ fs) (suc m) (suc v) =
    set_flag_at fs m v ∙ ap (λ (b : Bool). (b && (m == v)) || slice_index_or fs v false) (sym (below_next v (length fs)))
    ∙ ap (λ (b : Bool). (nat_lt (suc v) (suc (length fs)) && b) || slice_index_or fs v false) (sym (same_next m v))

-- the flags after those of some vertices were set
pub marked_flag : (members : List ℕ) (flags : List Bool) (v : ℕ)
    → slice_index_or (marked members flags) v false ≡ (nat_lt v (length flags) && is_member v members) || slice_index_or flags v false
marked_flag [] flags v = no_more (nat_lt v (length flags)) (slice_index_or flags v false)
marked_flag (m ∷ ms) flags v =
    marked_flag ms (slice_set flags m true) v
    ∙ ap (λ (n : ℕ). (nat_lt v n && is_member v ms) || slice_index_or (slice_set flags m true) v false) (length-set flags m true)
    ∙ ap (λ (b : Bool). (nat_lt v (length flags) && is_member v ms) || b) (set_flag_at flags m v)
    ∙ one_more (nat_lt v (length flags)) (m == v) (is_member v ms) (slice_index_or flags v false)

all_false : (n v : ℕ) → slice_index_or (replicate n false) v false ≡ false
all_false zero v = refl
all_false (suc n) zero = refl
all_false (suc n) (suc v) = all_false n v

false_last : (b : Bool) → b || false ≡ b
false_last true = refl
false_last false = refl

length_of : (n : ℕ) → length (replicate n false) ≡ n
length_of zero = refl
length_of (suc n) = ap suc (length_of n)

-- those of members alone
pub flag_of_member : (members : List ℕ) (n v : ℕ) → slice_index_or (marked members (replicate n false)) v false ≡ nat_lt v n && is_member v members
flag_of_member members n v =
    marked_flag members (replicate n false) v
    ∙ ap (λ (b : Bool). (nat_lt v (length (replicate n false)) && is_member v members) || b) (all_false n v)
    ∙ false_last (nat_lt v (length (replicate n false)) && is_member v members)
    ∙ ap (λ (x : ℕ). nat_lt v x && is_member v members) (length_of n)
