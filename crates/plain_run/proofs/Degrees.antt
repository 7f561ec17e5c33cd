-- Edges counted at their sources.
use Rattle.std.proofs.Common.{◌≡◌, ℕ, zero, suc, ◌+◌, ◌<◌, ℤ, pos, ◌+ℤ◌, Bool, true, false, cond, ◌==◌, List, [], ◌∷◌, map, replicate, slice_index_or, slice_set, ap, sym, ◌∙◌, refl, arith, w64}
use Rattle.std.proofs.lemmas.Bool.Decides.{nat_tests}
use Rattle.std.proofs.lemmas.Int.{int_wrap-add_left}
use Rattle.std.specs.Int.{int_wrap}
use Rattle.std.specs.List.{range_with_len}
use Rattle.weighted_edges.specs.Edge.{Edge}
use Rattle.algorithm_meaning.specs.Arithmetic.{wrapped}
use Rattle.plain_run.specs.inside.Degrees.{counted}
use Rattle.algorithm_meaning.specs.Meaning.{out_degree}

-- one more
one_more : (n : ℕ) → wrapped (wrapped (pos n) +ℤ pos 1) ≡ wrapped (pos (suc n))
one_more n = int_wrap-add_left w64 (pos n) (pos 1) ∙ ap (λ (m : ℕ). wrapped (pos m)) (omega arith)

abbrev more_at : ℕ → (ℕ → ℕ) → ℕ → ℕ
more_at u count v = cond (u == v) (suc (count v)) (count v)

abbrev degrees : (ℕ → ℕ) → (a n : ℕ) → List ℤ
degrees count a n = map (λ v. wrapped (pos (count v))) (range_with_len a n)

differ : (u v : ℕ) → u < v → (u == v) ≡ false
differ u v h = grind (arith, nat_tests)

differ_above : (u v : ℕ) → v < u → (u == v) ≡ false
differ_above u v h = grind (arith, nat_tests)

same : (u v : ℕ) → u ≡ v → (u == v) ≡ true
same u v h = grind (arith, nat_tests)

-- a count below a range changes nothing in it
below : (count : ℕ → ℕ) (u a n : ℕ) → u < a → degrees count a n ≡ degrees (more_at u count) a n
below count u a zero h = refl
below count u a (suc n) h =
    ap (λ (b : Bool). wrapped (pos (cond b (suc (count a)) (count a))) ∷ degrees count (a + 1) n) (sym (differ u a h))
    ∙ ap (λ (xs : List ℤ). wrapped (pos (more_at u count a)) ∷ xs) (below count u (a + 1) n (omega (arith, h)))

once : (count : ℕ → ℕ) (u a n : ℕ) → slice_set (degrees count a n) u (wrapped (slice_index_or (degrees count a n) u (pos 0) +ℤ pos 1)) ≡ degrees (more_at (a + u) count) a n
once count u a zero = refl
once count zero a (suc n) =
    ap (λ (x : ℤ). x ∷ degrees count (a + 1) n) (one_more (count a))
    ∙ ap (λ (b : Bool). wrapped (pos (cond b (suc (count a)) (count a))) ∷ degrees count (a + 1) n) (sym (same (a + 0) a (omega arith)))
    ∙ ap (λ (xs : List ℤ). wrapped (pos (more_at (a + 0) count a)) ∷ xs) (below count (a + 0) (a + 1) n (omega arith))
once count (suc u) a (suc n) =
    ap (λ (xs : List ℤ). wrapped (pos (count a)) ∷ xs) (once count u (a + 1) n)
    ∙ ap (λ (x : ℕ). wrapped (pos (count a)) ∷ degrees (more_at x count) (a + 1) n) (omega arith)
    ∙ ap (λ (b : Bool). wrapped (pos (cond b (suc (count a)) (count a))) ∷ degrees (more_at (a + suc u) count) (a + 1) n) (sym (differ_above (a + suc u) a (omega arith)))

degrees_same : (f g : ℕ → ℕ) → ((v : ℕ) → f v ≡ g v) → (a n : ℕ) → degrees f a n ≡ degrees g a n
degrees_same f g h a zero = refl
degrees_same f g h a (suc n) =
    ap (λ (m : ℕ). wrapped (pos m) ∷ degrees f (a + 1) n) (h a) ∙ ap (λ (xs : List ℤ). wrapped (pos (g a)) ∷ xs) (degrees_same f g h (a + 1) n)

either_count : (b : Bool) (m d : ℕ) → cond b (suc m) m + d ≡ m + cond b (suc d) d
either_count true m d = omega arith
either_count false m d = refl

counted_from : (edges : List Edge) (count : ℕ → ℕ) (n : ℕ) → counted edges (degrees count 0 n) ≡ degrees (λ v. count v + out_degree v edges) 0 n
counted_from [] count n = degrees_same count (λ v. count v + 0) (λ v. omega arith) 0 n
counted_from (edge ∷ edges) count n =
    ap (counted edges) (once count edge.0 0 n)
    ∙ ap (λ (x : ℕ). counted edges (degrees (more_at x count) 0 n)) (omega arith)
    ∙ counted_from edges (more_at edge.0 count) n
    ∙ degrees_same (λ v. more_at edge.0 count v + out_degree v edges) (λ v. count v + out_degree v (edge ∷ edges)) (λ v. either_count (edge.0 == v) (count v) (out_degree v edges)) 0 n

zero_wrapped : pos 0 ≡ wrapped (pos 0)
unfolding int_wrap
zero_wrapped = refl

zeros : (a n : ℕ) → replicate n (pos 0) ≡ degrees (λ v. 0) a n
zeros a zero = refl
zeros a (suc n) = ap (λ (xs : List ℤ). pos 0 ∷ xs) (zeros (a + 1) n) ∙ ap (λ (z : ℤ). z ∷ degrees (λ v. 0) (a + 1) n) zero_wrapped

-- from zeros, each edge counted at its source
pub counted_zeros : (edges : List Edge) (n : ℕ) → counted edges (replicate n (pos 0)) ≡ map (λ v. wrapped (pos (out_degree v edges))) (range_with_len 0 n)
counted_zeros edges n =
    ap (counted edges) (zeros 0 n) ∙ counted_from edges (λ v. 0) n ∙ degrees_same (λ v. 0 + out_degree v edges) (λ v. out_degree v edges) (λ v. omega arith) 0 n
