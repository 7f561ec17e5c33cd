-- Reducing in parts, and in another order.
use Rattle.std.proofs.Common.{◌≡◌, ℕ, ◌+◌, ◌==◌, ℤ, Bool, true, false, cond, List, [], ◌∷◌, ◌++◌, ◌<◌, length, drop, get_or, refl, sym, ap, ◌∙◌, append_assoc}
use Rattle.std.proofs.lemmas.List.{drop_more}
use Rattle.weighted_edges.specs.Edge.{Edge}
use Rattle.apply_options.specs.declared.reduction.Reduction.{Reduction}
use Rattle.algorithm_meaning.specs.Arithmetic.{reduced}
use Rattle.algorithm_meaning.proofs.Reductions.{reductions}
use Rattle.edge_fold.specs.Contributions.{numbers_for_vector, given_on, reduced_at}
use Rattle.edge_fold.specs.inside.Contributions.{given_from}

-- a number reduced with one that is given to a vertex
abbrev joined : Reduction → ℕ → ℤ → ℕ × ℤ → ℤ
joined r v x g = cond (g.0 == v) (reduced r x g.1) x

pub reduced_at-append : (r : Reduction) (v : ℕ) (x : ℤ) (gs hs : List (ℕ × ℤ)) → reduced_at r v x (gs ++ hs) ≡ reduced_at r v (reduced_at r v x gs) hs
reduced_at-append r v x [] hs = refl
reduced_at-append r v x (g ∷ gs) hs = reduced_at-append r v (joined r v x g) gs hs

numbers_swapped : (r : Reduction) (x a b : ℤ) → reduced r (reduced r x a) b ≡ reduced r (reduced r x b) a
numbers_swapped r x a b =
    let law = reductions r in
    law.associative x a b ∙ ap (reduced r x) (law.commutative a b) ∙ sym (law.associative x b a)

joined_swapped : (r : Reduction) (x a b : ℤ) (p q : Bool)
    → cond q (reduced r (cond p (reduced r x a) x) b) (cond p (reduced r x a) x) ≡ cond p (reduced r (cond q (reduced r x b) x) a) (cond q (reduced r x b) x)
joined_swapped r x a b true true = numbers_swapped r x a b
joined_swapped r x a b true false = refl
joined_swapped r x a b false true = refl
joined_swapped r x a b false false = refl

-- what is given before the rest may be given after it
given_last : (r : Reduction) (v : ℕ) (x : ℤ) (g : ℕ × ℤ) (gs : List (ℕ × ℤ)) → reduced_at r v (joined r v x g) gs ≡ joined r v (reduced_at r v x gs) g
given_last r v x g [] = refl
given_last r v x g (h ∷ hs) =
    ap (λ (y : ℤ). reduced_at r v y hs) (joined_swapped r x g.1 h.1 (g.0 == v) (h.0 == v)) ∙ given_last r v (joined r v x h) g hs

pub reduced_at-swap : (r : Reduction) (v : ℕ) (x : ℤ) (gs hs : List (ℕ × ℤ)) → reduced_at r v (reduced_at r v x gs) hs ≡ reduced_at r v (reduced_at r v x hs) gs
reduced_at-swap r v x [] hs = refl
reduced_at-swap r v x (g ∷ gs) hs = reduced_at-swap r v (joined r v x g) gs hs ∙ ap (λ (y : ℤ). reduced_at r v y gs) (given_last r v x g hs)

for_one : (x d : ℕ) (g : ℕ × Reduction × ℤ) (b : Bool) (hs : List (ℕ × ℤ)) (gs : List (ℕ × ℤ)) → cond b ((d, g.2) ∷ (hs ++ gs)) (hs ++ gs) ≡ cond b ((d, g.2) ∷ hs) hs ++ gs
for_one x d g true hs gs = refl
for_one x d g false hs gs = refl

pub for_vector-append : (x d : ℕ) (gs hs : List (ℕ × Reduction × ℤ)) → numbers_for_vector x d (gs ++ hs) ≡ numbers_for_vector x d gs ++ numbers_for_vector x d hs
for_vector-append x d [] hs = refl
for_vector-append x d (g ∷ gs) hs =
    ap (λ (is : List (ℕ × ℤ)). cond (g.0 == x) ((d, g.2) ∷ is) is) (for_vector-append x d gs hs)
    ∙ for_one x d g (g.0 == x) (numbers_for_vector x d gs) (numbers_for_vector x d hs)

-- what is given to each pair may be given in two rounds
pub given_in_rounds : (r : Reduction) (v x : ℕ) (n : ℤ) (a b : ℕ → List (ℕ × Reduction × ℤ)) (i : ℕ) (ds : List ℕ)
    → reduced_at r v n (given_from x (λ k. a k ++ b k) i ds) ≡ reduced_at r v (reduced_at r v n (given_from x a i ds)) (given_from x b i ds)
given_in_rounds r v x n a b i [] = refl
given_in_rounds r v x n a b i (d ∷ ds) =
    let A = numbers_for_vector x d (a i) in
    let B = numbers_for_vector x d (b i) in
    let more_a = given_from x a (i + 1) ds in
    let more_b = given_from x b (i + 1) ds in
    let more = given_from x (λ k. a k ++ b k) (i + 1) ds in
    let m = reduced_at r v n A in
    reduced_at-append r v n (numbers_for_vector x d (a i ++ b i)) more
    ∙ ap (λ (gs : List (ℕ × ℤ)). reduced_at r v (reduced_at r v n gs) more) (for_vector-append x d (a i) (b i))
    ∙ ap (λ (y : ℤ). reduced_at r v y more) (reduced_at-append r v n A B)
    ∙ given_in_rounds r v x (reduced_at r v m B) a b (i + 1) ds
    ∙ ap (λ (y : ℤ). reduced_at r v y more_b) (reduced_at-swap r v m B more_a)
    ∙ ap (λ (y : ℤ). reduced_at r v (reduced_at r v y B) more_b) (sym (reduced_at-append r v n A more_a))
    ∙ sym (reduced_at-append r v (reduced_at r v n (A ++ more_a)) B more_b)

pub given_on-append : (x : ℕ) (gives : Edge → List (ℕ × Reduction × ℤ)) (es fs : List Edge) → given_on x gives (es ++ fs) ≡ given_on x gives es ++ given_on x gives fs
given_on-append x gives [] fs = refl
given_on-append x gives (e ∷ es) fs =
    ap (λ (gs : List (ℕ × ℤ)). numbers_for_vector x e.1 (gives e) ++ gs) (given_on-append x gives es fs)
    ∙ sym (append_assoc (numbers_for_vector x e.1 (gives e)) (given_on x gives es) (given_on x gives fs))

-- where nothing is given, a number stays
pub nothing_given : (r : Reduction) (v x : ℕ) (n : ℤ) (i : ℕ) (ds : List ℕ) → reduced_at r v n (given_from x (λ k. []) i ds) ≡ n
nothing_given r v x n i [] = refl
nothing_given r v x n i (d ∷ ds) = nothing_given r v x n (i + 1) ds

-- one pair of those that are left
pub one_pair_more : (r : Reduction) (v x : ℕ) (n : ℤ) (row : ℕ → List (ℕ × Reduction × ℤ)) (k : ℕ) (ds : List ℕ) → k < length ds
    → reduced_at r v (reduced_at r v n (numbers_for_vector x (get_or ds k 0) (row k))) (given_from x row (k + 1) (drop (k + 1) ds)) ≡ reduced_at r v n (given_from x row k (drop k ds))
one_pair_more r v x n row k ds l =
    sym (reduced_at-append r v n (numbers_for_vector x (get_or ds k 0) (row k)) (given_from x row (k + 1) (drop (k + 1) ds)))
    ∙ ap (λ (zs : List ℕ). reduced_at r v n (given_from x row k zs)) (sym (drop_more ds k 0 l))

-- each pair is given the same
pub given_same : (x : ℕ) (a b : ℕ → List (ℕ × Reduction × ℤ)) → ((i : ℕ) → a i ≡ b i) → (i : ℕ) (ds : List ℕ) → given_from x a i ds ≡ given_from x b i ds
given_same x a b e i [] = refl
given_same x a b e i (d ∷ ds) =
    ap (λ (gs : List (ℕ × Reduction × ℤ)). numbers_for_vector x d gs ++ given_from x a (i + 1) ds) (e i)
    ∙ ap (λ (gs : List (ℕ × ℤ)). numbers_for_vector x d (b i) ++ gs) (given_same x a b e (i + 1) ds)
