-- Numbers reduced with masked ones, and lists of these.
use Rattle.std.proofs.Common.{◌≡◌, ℕ, ◌<◌, ℤ, pos, Bool, true, false, cond, List, [], ◌∷◌, ◌++◌, length, get_or, FitsSigned, w64, refl, ap, ◌∙◌, arith, zero, suc}
use Rattle.apply_options.specs.declared.reduction.Reduction.{Reduction}
use Rattle.typed_tree.specs.declared.expression.Operator.TheVariants as operator
use Rattle.kernels.specs.Arithmetic.{arithmetic, reduced}
use Rattle.kernels.specs.Value.{entry}
use Rattle.kernels.specs.declared.shape.Shape.{Shape}
use Rattle.kernels.specs.declared.shape.Shape.TheVariants as shape
use Rattle.algorithm_meaning.specs.Laws.{unit_of}
use Rattle.algorithm_meaning.proofs.Reductions.{reductions}
use Rattle.pull_engine.specs.inside.Masked.{AreMasked, IsMaskOf, number_or_unit}

-- the unit leaves a number as it is
pub reduced_masked : (r : Reduction) (n x : ℤ) (b : Bool) → FitsSigned w64 n → reduced r n (cond b x (unit_of r)) ≡ cond b (reduced r n x) n
reduced_masked r n x true fits = refl
reduced_masked r n x false fits = (reductions r).unit n fits

-- one more of a list whose entries are known by their places
known_more : (f : ℕ → ℤ) (xs : List ℤ) (x d : ℤ) → ((v : ℕ) → v < length xs → get_or xs v d ≡ f v) → x ≡ f (length xs)
    → (v : ℕ) → v < length (xs ++ x ∷ []) → get_or (xs ++ x ∷ []) v d ≡ f v
known_more f [] x d are is zero l = is
known_more f [] x d are is (suc v) l = absurd (omega (arith, l))
known_more f (y ∷ ys) x d are is zero l = are 0 (omega arith)
known_more f (y ∷ ys) x d are is (suc v) l = known_more (λ k. f (suc k)) ys x d (λ k h. are (suc k) (omega (arith, h))) is v (omega (arith, l))

-- one more vertex
pub more_masked : (r : Reduction) (number : ℕ → ℤ) (passes : ℕ → Bool) (xs : List ℤ) (x : ℤ) → AreMasked r number passes xs
    → x ≡ number_or_unit r number passes (length xs) → AreMasked r number passes (xs ++ x ∷ [])
more_masked r number passes xs x are is = known_more (number_or_unit r number passes) xs x (pos 0) are is

-- lists of numbers that are the same, or of vertices that pass alike
pub masked_by : (r : Reduction) (f g : ℕ → ℤ) (passes : ℕ → Bool) (xs : List ℤ) → ((v : ℕ) → f v ≡ g v) → AreMasked r f passes xs → AreMasked r g passes xs
masked_by r f g passes xs same are v l = are v l ∙ ap (λ n. cond (passes v) n (unit_of r)) (same v)

masked_alike : (r : Reduction) (f : ℕ → ℤ) (p q : ℕ → Bool) (xs : List ℤ) → ((v : ℕ) → p v ≡ q v) → AreMasked r f p xs → AreMasked r f q xs
masked_alike r f p q xs same are v l = are v l ∙ ap (λ b. cond b (f v) (unit_of r)) (same v)

pub mask_alike : (t : Shape) (vs : List (List ℤ)) (p q : ℕ → Bool) (xs : List ℤ) → ((v : ℕ) → p v ≡ q v) → IsMaskOf t vs p xs → IsMaskOf t vs q xs
mask_alike shape.Other vs p q xs same are = tt
mask_alike (shape.Source x r) vs p q xs same are = masked_alike r (λ s. pos s) p q xs same are
mask_alike (shape.Entry x r y) vs p q xs same are = masked_alike r (λ s. entry vs y s) p q xs same are
mask_alike (shape.EntryPlus x r y n) vs p q xs same are = masked_alike r (λ s. arithmetic operator.Add (entry vs y s) n) p q xs same are
mask_alike (shape.Constant x r n) vs p q xs same are = masked_alike r (λ s. n) p q xs same are
mask_alike (shape.EntryWith x r y o) vs p q xs same are = tt

-- nothing is the mask of any function
none_masked : (r : Reduction) (f : ℕ → ℤ) (passes : ℕ → Bool) (xs : List ℤ) → xs ≡ [] → AreMasked r f passes xs
none_masked r f passes xs none v l = absurd (omega (arith, l, ap length none))

pub no_mask : (t : Shape) (vs : List (List ℤ)) (passes : ℕ → Bool) (xs : List ℤ) → xs ≡ [] → IsMaskOf t vs passes xs
no_mask shape.Other vs passes xs none = tt
no_mask (shape.Source x r) vs passes xs none = none_masked r (λ s. pos s) passes xs none
no_mask (shape.Entry x r y) vs passes xs none = none_masked r (λ s. entry vs y s) passes xs none
no_mask (shape.EntryPlus x r y n) vs passes xs none = none_masked r (λ s. arithmetic operator.Add (entry vs y s) n) passes xs none
no_mask (shape.Constant x r n) vs passes xs none = none_masked r (λ s. n) passes xs none
no_mask (shape.EntryWith x r y o) vs passes xs none = tt
