-- Proofs of `of`, src/weights.rt.
use Rattle.std.proofs.Common.{◌≡◌, ℕ, ◌+◌, ◌<◌, ℤ, pos, ◌≤ℤ◌, get_or, w64, int_cmp, ◌⊎◌, subst, refl, sym, inl, inr, ◌∙◌, ap, arith, rules}
use Rattle.std.specs.Ordering.{ord_min, ord_max}
use Rattle.std.specs.Int.{int_min, int_max}
use Rattle.std.proofs.lemmas.Bool.{cases_Bool}
use Rattle.std.proofs.lemmas.Int.{ints, clamps, to_z-of_z}
use Rattle.std.proofs.lemmas.List.{get_or_default}
use Rattle.pages.specs.declared.weights.WeightWidth.{WeightWidth}
use Rattle.pages.specs.declared.weights.WeightWidth.TheVariants.{Ones}
use Rattle.pages.specs.inside.Weights.{Allows}
use lib.Signed.{lt_z}
use mir.Val.{SFits, to_z, of_z}
use Rattle.pages.proofs.Weighing.{true_more}
use Rattle.pages.proofs.weights.WeightWidth.of.Goals as goal

min_is : (a b : ℤ) → ord_min int_cmp a b ≡ int_min a b
min_is a b = elim (cases_Bool (lt_z b a)) [
  | inl lt ↦ rw lt refl
  | inr ge ↦ elim (cases_Bool (lt_z a b)) [ inl lt ↦ rw (ge, lt) refl | inr le ↦ rw (ge, le) refl ]
]

max_is : (a b : ℤ) → ord_max int_cmp a b ≡ int_max a b
max_is a b = elim (cases_Bool (lt_z b a)) [
  | inl lt ↦ rw lt refl
  | inr ge ↦ elim (cases_Bool (lt_z a b)) [ inl lt ↦ rw (ge, lt) refl | inr le ↦ rw (ge, le) refl ]
]

-- the least and the greatest of some weights and one more
min_low : (a b m : ℤ) → m ≡ int_min a b → (m ≤ℤ a) × (m ≤ℤ b)
min_low a b m is = (omega (arith, ints, clamps), omega (arith, ints, clamps))

max_high : (a b m : ℤ) → m ≡ int_max a b → (a ≤ℤ m) × (b ≤ℤ m)
max_high a b m is = (omega (arith, ints, clamps), omega (arith, ints, clamps))

one_of_min : (a b m : ℤ) → m ≡ int_min a b → (m ≡ a) ⊎ (m ≡ b)
one_of_min a b m is = elim (cases_Bool (lt_z b a)) [ inl lt ↦ inr (omega (arith, ints, clamps)) | inr ge ↦ inl (omega (arith, ints, clamps)) ]

one_of_max : (a b m : ℤ) → m ≡ int_max a b → (m ≡ a) ⊎ (m ≡ b)
one_of_max a b m is = elim (cases_Bool (lt_z b a)) [ inl lt ↦ inl (omega (arith, ints, clamps)) | inr ge ↦ inr (omega (arith, ints, clamps)) ]

allowed : (w : WeightWidth) (a b m : ℤ) → (m ≡ a) ⊎ (m ≡ b) → Allows w a → Allows w b → Allows w m
allowed w a b m one first second = elim one [ inl is ↦ subst (Allows w) (sym is) first | inr is ↦ subst (Allows w) (sym is) second ]

through : (a b d : ℤ) → a ≤ℤ b → b ≤ℤ d → a ≤ℤ d
through a b d s t = omega (arith, ints)

pub loop-weight-preserved : goal.loop-weight-preserved
loop-weight-preserved c =
    let l = c.loop-weight in
    let n : ℕ = l.weight-index in
    let ws = c.args.weights.now in
    let x : ℤ = get_or ws n (pos 0) in
    let fits : SFits w64 x = search rules in
    let fits_least : SFits w64 c.min-least.result = search rules in
    let fits_greatest : SFits w64 c.max-greatest.result = search rules in
    let low : ℤ = to_z w64 (of_z w64 c.min-least.result) in
    let high : ℤ = to_z w64 (of_z w64 c.max-greatest.result) in
    let least : low ≡ int_min (to_z w64 l.least-bits) x = to_z-of_z w64 c.min-least.result fits_least ∙ c.min-least.ensures ∙ ap (λ w. ord_min int_cmp (to_z w64 l.least-bits) w) (to_z-of_z w64 x fits)
    ∙ min_is (to_z w64 l.least-bits) x in
    let greatest : high ≡ int_max (to_z w64 l.greatest-bits) x = to_z-of_z w64 c.max-greatest.result fits_greatest ∙ c.max-greatest.ensures
    ∙ ap (λ w. ord_max int_cmp (to_z w64 l.greatest-bits) w) (to_z-of_z w64 x fits) ∙ max_is (to_z w64 l.greatest-bits) x in
    let under = min_low (to_z w64 l.least-bits) x low least in
    let over = max_high (to_z w64 l.greatest-bits) x high greatest in
    let same : x ≡ get_or ws n (pos 1) = get_or_default ws n (pos 0) (pos 1) c.loop-weight-test.true in
    let allows : (w : WeightWidth) → Allows w (pos 1) → ((i : ℕ) → i < n + 1 → Allows w (get_or ws i (pos 1))) → Allows w low × Allows w high = λ w one all.
    let before = l.invariant.allows w one (λ i lt. all i (omega (arith, lt))) in
    let here : Allows w x = subst (Allows w) (sym same) (all n (omega arith)) in (
      allowed w (to_z w64 l.least-bits) x low (one_of_min (to_z w64 l.least-bits) x low least) before.0 here,
      allowed w (to_z w64 l.greatest-bits) x high (one_of_max (to_z w64 l.greatest-bits) x high greatest) before.1 here,
    ) in
    record {
      least = through low (to_z w64 l.least-bits) (pos 1) under.0 l.invariant.least;
      greatest = through (pos 1) (to_z w64 l.greatest-bits) high l.invariant.greatest over.0;
      low = true_more (λ w. low ≤ℤ w) ws n (λ i lt. through low (to_z w64 l.least-bits) (get_or ws i (pos 1)) under.0 (l.invariant.low i lt)) (rw (← same) under.1);
      high = true_more (λ w. w ≤ℤ high) ws n (λ i lt. through (get_or ws i (pos 1)) (to_z w64 l.greatest-bits) high (l.invariant.high i lt) over.0) (rw (← same) over.1);
      ones = allows Ones refl;
      allows = allows;
    }
