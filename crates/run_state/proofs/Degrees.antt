-- Out-degrees of vertices.
use Rattle.std.proofs.Common.{◌≡◌, ℕ, ℤ, suc, ◌^◌, ◌<◌, ◌==◌, pos, Bool, true, false, cond, List, [], ◌∷◌, length, FitsSigned, w64, ap, sym, ◌∙◌, refl, arith}
use Rattle.std.proofs.lemmas.Int.{int_wrap_fits, ints}
use Rattle.weighted_edges.specs.Edge.{Edge}
use Rattle.algorithm_meaning.specs.Arithmetic.{wrapped}
use Rattle.algorithm_meaning.specs.Meaning.{out_degree}
use Rattle.flat_snapshot.specs.Neighbours.{destinations_of}

either_length : (b : Bool) (x : ℕ × ℤ) (xs : List (ℕ × ℤ)) (n : ℕ) → length xs ≡ n → length (cond b (x ∷ xs) xs) ≡ cond b (suc n) n
either_length true x xs n e = ap suc e
either_length false x xs n e = e

-- a vertex has as many edges as destinations
destinations_counted : (u : ℕ) (es : List Edge) → length (destinations_of u es) ≡ out_degree u es
destinations_counted u [] = refl
destinations_counted u (e ∷ es) = either_length (e.0 == u) (e.1, e.2) (destinations_of u es) (out_degree u es) (destinations_counted u es)

-- a degree is an int
pub degree : (n u : ℕ) (es : List Edge) → n ≡ length (destinations_of u es) → n < 2 ^ 32 → pos n ≡ wrapped (pos (out_degree u es))
degree n u es counted small =
    let fits : FitsSigned w64 (pos n) = omega (arith, ints) in
    sym (int_wrap_fits w64 (pos n) fits) ∙ ap (λ (m : ℕ). wrapped (pos m)) (counted ∙ destinations_counted u es)
