-- Reductions: their order and grouping do not matter.
use Rattle.std.proofs.Common.{◌≡◌, ◌<◌, ◌^◌, ℤ, pos, negsuc, ◌+ℤ◌, FitsSigned, w64, List, [], ◌∷◌, ◌++◌, ap, sym, ◌∙◌, refl, arith}
use Rattle.std.proofs.lemmas.Bool.Decides.{nat_tests}
use Rattle.std.proofs.lemmas.List.Elements.{All-head, All-tail}
use Rattle.std.proofs.lemmas.Int.{ints, clamps, int_wrap_fits, int_wrap-add_left, int_wrap-add_right}
use Rattle.std.specs.Int.{int_min, int_max}
use Rattle.std.specs.List.{All}
use Rattle.apply_options.specs.declared.reduction.Reduction.{Reduction}
use Rattle.apply_options.specs.declared.reduction.Reduction.TheVariants as reduction
use Rattle.algorithm_meaning.specs.declared.contribution.Contribution.{Contribution}
use Rattle.algorithm_meaning.specs.Arithmetic.{wrapped, reduced}
use Rattle.algorithm_meaning.specs.Laws.{IsReduction, unit_of, reduced_all}

min_commutative : (a b : ℤ) → int_min a b ≡ int_min b a
min_commutative a b = omega (arith, ints, clamps)

min_associative : (a b c : ℤ) → int_min (int_min a b) c ≡ int_min a (int_min b c)
min_associative a b c = omega (arith, ints, clamps)

max_commutative : (a b : ℤ) → int_max a b ≡ int_max b a
max_commutative a b = omega (arith, ints, clamps)

max_associative : (a b c : ℤ) → int_max (int_max a b) c ≡ int_max a (int_max b c)
max_associative a b c = omega (arith, ints, clamps)

sum_commutative : (a b : ℤ) → a +ℤ b ≡ b +ℤ a
sum_commutative a b = omega (arith, ints)

sum_associative : (a b c : ℤ) → (a +ℤ b) +ℤ c ≡ a +ℤ (b +ℤ c)
sum_associative a b c = omega (arith, ints)

sum_zero : (a : ℤ) → a +ℤ pos 0 ≡ a
sum_zero a = omega (arith, ints)

-- sums of 64 bits
plus_associative : (a b c : ℤ) → wrapped (wrapped (a +ℤ b) +ℤ c) ≡ wrapped (a +ℤ wrapped (b +ℤ c))
plus_associative a b c =
    int_wrap-add_left w64 (a +ℤ b) c ∙ ap wrapped (sum_associative a b c) ∙ sym (int_wrap-add_right w64 a (b +ℤ c))

greatest : (a : ℤ) → FitsSigned w64 a → int_min a (unit_of reduction.Min) ≡ a
greatest (pos n) fits = let small : n < 2 ^ 63 = omega (arith, fits) in grind (arith, nat_tests)
greatest (negsuc n) fits = refl

least : (a : ℤ) → FitsSigned w64 a → int_max a (unit_of reduction.Max) ≡ a
least (pos n) fits = refl
least (negsuc n) fits = let small : n < 2 ^ 63 = omega (arith, fits) in grind (arith, nat_tests)

pub reductions : (r : Reduction) → IsReduction r
reductions reduction.Min = record { commutative = min_commutative; associative = min_associative; unit = greatest }
reductions reduction.Max = record { commutative = max_commutative; associative = max_associative; unit = least }
reductions reduction.Plus = record {
  commutative = λ a b. ap wrapped (sum_commutative a b);
  associative = plus_associative;
  unit = λ a fits. ap wrapped (sum_zero a) ∙ int_wrap_fits w64 a fits;
}

-- two numbers that a third is reduced with change places
swapped : (r : Reduction) → IsReduction r → (n a b : ℤ) → reduced r (reduced r n a) b ≡ reduced r (reduced r n b) a
swapped r law n a b = law.associative n a b ∙ ap (reduced r n) (law.commutative a b) ∙ sym (law.associative n b a)

-- two neighbours that are given by one reduction change places
pub neighbours_swapped : (n : ℤ) (first : List Contribution) (a b : Contribution) (rest : List Contribution) → a.reduction ≡ b.reduction
    → reduced_all n (first ++ a ∷ b ∷ rest) ≡ reduced_all n (first ++ b ∷ a ∷ rest)
neighbours_swapped n [] a b rest e =
    ap (λ (m : ℤ). reduced_all m rest) (
    ap (λ (r : Reduction). reduced r (reduced a.reduction n a.number) b.number) (sym e)
    ∙ swapped a.reduction (reductions a.reduction) n a.number b.number
    ∙ ap (λ (r : Reduction). reduced a.reduction (reduced r n b.number) a.number) e)
neighbours_swapped n (c ∷ cs) a b rest e = neighbours_swapped (reduced c.reduction n c.number) cs a b rest e

-- one list after another
pub reduced_all-append : (n : ℤ) (cs ds : List Contribution) → reduced_all n (cs ++ ds) ≡ reduced_all (reduced_all n cs) ds
reduced_all-append n [] ds = refl
reduced_all-append n (c ∷ cs) ds = reduced_all-append (reduced c.reduction n c.number) cs ds

-- a number given before the others may be given after them
given_last : (r : Reduction) (n x : ℤ) (cs : List Contribution) → All (λ c. c.reduction ≡ r) cs → reduced_all (reduced r n x) cs ≡ reduced r (reduced_all n cs) x
given_last r n x [] by_one = refl
given_last r n x (c ∷ cs) by_one =
    let e = All-head (λ (c : Contribution). c.reduction ≡ r) c cs by_one in
    ap (λ (s : Reduction). reduced_all (reduced s (reduced r n x) c.number) cs) e
    ∙ ap (λ (m : ℤ). reduced_all m cs) (swapped r (reductions r) n x c.number)
    ∙ given_last r (reduced r n c.number) x cs (All-tail (λ (c : Contribution). c.reduction ≡ r) c cs by_one)
    ∙ ap (λ (s : Reduction). reduced r (reduced_all (reduced s n c.number) cs) x) (sym e)

-- two lists that are given by one reduction change places
pub lists_swapped : (r : Reduction) (n : ℤ) (cs ds : List Contribution) → All (λ c. c.reduction ≡ r) cs → All (λ c. c.reduction ≡ r) ds
    → reduced_all (reduced_all n cs) ds ≡ reduced_all (reduced_all n ds) cs
lists_swapped r n [] ds by_one also = refl
lists_swapped r n (c ∷ cs) ds by_one also =
    let e = All-head (λ (c : Contribution). c.reduction ≡ r) c cs by_one in
    lists_swapped r (reduced c.reduction n c.number) cs ds (All-tail (λ (c : Contribution). c.reduction ≡ r) c cs by_one) also
    ∙ ap (λ (s : Reduction). reduced_all (reduced_all (reduced s n c.number) ds) cs) e
    ∙ ap (λ (m : ℤ). reduced_all m cs) (given_last r n c.number ds also)
    ∙ ap (λ (s : Reduction). reduced_all (reduced s (reduced_all n ds) c.number) cs) (sym e)
