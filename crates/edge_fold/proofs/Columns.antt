-- What several sources give a destination.
use Rattle.std.proofs.Common.{◌≡◌, ℕ, ◌+◌, ◌≤◌, ◌==◌, ℤ, Bool, true, false, cond, List, [], ◌∷◌, ◌++◌, length, take, replicate, append_assoc, refl, sym, ap, ◌∙◌, subst, arith}
use Rattle.std.proofs.lemmas.Bool.Decides.{nat_tests}
use Rattle.std.proofs.lemmas.List.{length-take-le, map-append}
use Rattle.std.proofs.lemmas.Slice.{take-put_mid}
use borrow.Rule.Slice.PartMut.{put_mid}
use Rattle.weighted_edges.specs.Edge.{Edge, unit_weight}
use Rattle.apply_options.specs.declared.reduction.Reduction.{Reduction}
use Rattle.algorithm_meaning.specs.Arithmetic.{reduced}
use Rattle.algorithm_meaning.proofs.Reductions.{reductions}
use Rattle.edge_fold.specs.declared.apply_context.SourceContribution.{SourceContribution}
use Rattle.edge_fold.specs.Between.{firsts}
use Rattle.edge_fold.specs.Contributions.{column, weighted_entries, numbers_for_vector, given_on, pairs, reduced_at}
use Rattle.edge_fold.specs.inside.Contributions.{each_given}
use Rattle.edge_fold.specs.inside.ReducedContributions.{IsReducedTo, IsReducedContribution, numbers_given}
use Rattle.edge_fold.specs.ReducedContributions.{reduced_with}
use Rattle.edge_fold.proofs.Edges.{pairs-append, unit_pairs-append}

-- two numbers may be reduced to one before a third is reduced with them
pub grouped : (r : Reduction) (h a b : ℤ) (q : Bool) → cond q (reduced r h (reduced r a b)) h ≡ cond q (reduced r (cond q (reduced r h a) h) b) (cond q (reduced r h a) h)
grouped r h a b true = (let law = reductions r in sym (law.associative h a b))
grouped r h a b false = refl

reduced_first : (r : Reduction) (number : ℕ → ℤ) (d v : ℕ) (h n : ℤ) (ss : List ℕ)
    → reduced_at r v h ((d, reduced_with r number n ss) ∷ []) ≡ reduced_at r v h ((d, n) ∷ numbers_given number d ss)
reduced_first r number d v h n [] = refl
reduced_first r number d v h n (s ∷ ss) =
    reduced_first r number d v h (reduced r n (number s)) ss
    ∙ ap (λ (y : ℤ). reduced_at r v y (numbers_given number d ss)) (grouped r h n (number s) (d == v))

pub is_reduced_to : (r : Reduction) (number : ℕ → ℤ) (s : ℕ) (all ss : List ℕ) (n first : ℤ) → all ≡ s ∷ ss → first ≡ number s → n ≡ reduced_with r number first ss → IsReducedTo r number all n
is_reduced_to r number s all ss n first whole begins is d v h =
    ap (λ (y : ℤ). reduced_at r v h ((d, y) ∷ [])) (is ∙ ap (λ (y : ℤ). reduced_with r number y ss) begins)
    ∙ reduced_first r number d v h (number s) ss
    ∙ ap (λ (us : List ℕ). reduced_at r v h (numbers_given number d us)) (sym whole)

-- one number for each source
pub one_for : (y x d : ℕ) (n : ℤ) (b : Bool) (more rest : List (ℕ × ℤ)) → rest ≡ cond b more [] → cond b ((d, n) ∷ []) [] ++ rest ≡ cond b ((d, n) ∷ more) []
one_for y x d n true more rest e = ap (λ (gs : List (ℕ × ℤ)). (d, n) ∷ gs) e
one_for y x d n false more rest e = e

pub nothing_either : (b : Bool) (none : List (ℕ × ℤ)) → none ≡ [] → [] ≡ cond b none []
nothing_either true none e = sym e
nothing_either false none e = refl

given_by_column : (x y d : ℕ) (r : Reduction) (number : ℕ → ℤ) (g : Edge → List (ℕ × Reduction × ℤ)) → ((s d : ℕ) (w : ℤ) → g (s, d, w) ≡ (y, r, number s) ∷ []) → (es : List (ℕ × ℤ))
    → given_on x g (column d es) ≡ cond (y == x) (numbers_given number d (firsts es)) []
given_by_column x y d r number g same [] = nothing_either (y == x) [] refl
given_by_column x y d r number g same (e ∷ es) =
    ap (λ (gs : List (ℕ × Reduction × ℤ)). numbers_for_vector x d gs ++ given_on x g (column d es)) (same e.0 d e.1)
    ∙ one_for y x d (number e.0) (y == x) (numbers_given number d (firsts es)) (given_on x g (column d es)) (given_by_column x y d r number g same es)

pub equal : (m n : ℕ) → (m == n) ≡ true → m ≡ n
equal m n h = grind (arith, nat_tests)

pub joined_at : (r s : Reduction) (v : ℕ) (h : ℤ) (gs hs : List (ℕ × ℤ)) (b : Bool) → (b ≡ true → s ≡ r) → reduced_at s v h gs ≡ reduced_at s v h hs
    → reduced_at r v h (cond b gs []) ≡ reduced_at r v h (cond b hs [])
joined_at r s v h gs hs true own all = subst (λ (t : Reduction). reduced_at t v h gs ≡ reduced_at t v h hs) (own refl) all
joined_at r s v h gs hs false own all = refl

-- to join what is sent is to join what the edges give
pub together_given : (r : Reduction) (x d v : ℕ) (h : ℤ) (contribution : SourceContribution) (g : Edge → List (ℕ × Reduction × ℤ)) (ss : List ℕ) (es : List (ℕ × ℤ))
    → IsReducedContribution contribution g ss → (contribution.vector ≡ x → contribution.reduction ≡ r) → firsts es ≡ ss
    → reduced_at r v h (cond (contribution.vector == x) (each_given contribution.number (d ∷ [])) []) ≡ reduced_at r v h (given_on x g (column d es))
together_given r x d v h contribution g ss es is own keys =
    joined_at r contribution.reduction v h (each_given contribution.number (d ∷ [])) (numbers_given is.number d ss) (contribution.vector == x) (λ at. own (equal contribution.vector x at))
    (is.all d v h)
    ∙ sym (ap (λ (gs : List (ℕ × ℤ)). reduced_at r v h gs) (given_by_column x contribution.vector d contribution.reduction is.number g is.each es
    ∙ ap (λ (us : List ℕ). cond (contribution.vector == x) (numbers_given is.number d us) []) keys))

-- a column in two parts
pub column_parts : (d : ℕ) (first rest all : List (ℕ × ℤ)) (es : List Edge) → first ++ rest ≡ all → (es ++ column d first) ++ column d rest ≡ es ++ column d all
column_parts d first rest all es whole =
    append_assoc es (column d first) (column d rest)
    ∙ ap (λ fs. es ++ fs) (sym (map-append (λ e. (e.0, d, e.1)) first rest) ∙ ap (column d) whole)

pairs-column : (d : ℕ) (ss : List ℕ) (ws : List ℤ) → pairs ss (replicate (length ss) d) ws ≡ column d (weighted_entries ss ws)
pairs-column d [] ws = refl
pairs-column d (s ∷ ss) [] = ap (λ es. (s, d, unit_weight) ∷ es) (pairs-column d ss [])
pairs-column d (s ∷ ss) (w ∷ ws) = ap (λ es. (s, d, w) ∷ es) (pairs-column d ss ws)

-- the first indices of lists after more were written after them
pub waiting_into : (d n k : ℕ) (ss ts ys zs us : List ℕ) → n ≤ length ss → n ≤ length ts → length zs ≡ length us → zs ≡ replicate (length us) d → ys ≡ us
    → pairs (take (n + length us) (put_mid n k ss ys)) (take (n + length us) (put_mid n k ts zs)) [] ≡ pairs (take n ss) (take n ts) [] ++ column d (weighted_entries us [])
waiting_into d n k ss ts ys zs us l m long filled copied =
    let even : length ys ≡ length us = ap length copied in
    let sources = take-put_mid n k ss ys (n + length us) (omega (arith, even)) l ∙ ap (λ xs. take n ss ++ xs) copied in
    let destinations = take-put_mid n k ts zs (n + length us) (omega (arith, long)) m ∙ ap (λ xs. take n ts ++ xs) filled in
    ap (λ xs. pairs xs (take (n + length us) (put_mid n k ts zs)) []) sources ∙ ap (λ xs. pairs (take n ss ++ us) xs []) destinations
    ∙ unit_pairs-append (take n ss) (take n ts) us (replicate (length us) d) (length-take-le n ss l ∙ sym (length-take-le n ts m))
    ∙ ap (λ es. pairs (take n ss) (take n ts) [] ++ es) (pairs-column d us [])

pub weighted_into : (d n k : ℕ) (ss ts ys zs us : List ℕ) (qs vs ws : List ℤ) → n ≤ length ss → n ≤ length ts → n ≤ length qs → length ws ≡ length us → length zs ≡ length us
    → zs ≡ replicate (length us) d → ys ≡ us → vs ≡ ws
    → pairs (take (n + length us) (put_mid n k ss ys)) (take (n + length us) (put_mid n k ts zs)) (take (n + length us) (put_mid n k qs vs)) ≡ pairs (take n ss) (take n ts) (take n qs)
    ++ column d (weighted_entries us ws)
weighted_into d n k ss ts ys zs us qs vs ws l m o same long filled copied weighed =
    let even : length ys ≡ length us = ap length copied in
    let level : length vs ≡ length us = ap length weighed ∙ same in
    let sources = take-put_mid n k ss ys (n + length us) (omega (arith, even)) l ∙ ap (λ xs. take n ss ++ xs) copied in
    let destinations = take-put_mid n k ts zs (n + length us) (omega (arith, long)) m ∙ ap (λ xs. take n ts ++ xs) filled in
    let weights = take-put_mid n k qs vs (n + length us) (omega (arith, level)) o ∙ ap (λ xs. take n qs ++ xs) weighed in
    let behind = replicate (length us) d in
    ap (λ xs. pairs xs (take (n + length us) (put_mid n k ts zs)) (take (n + length us) (put_mid n k qs vs))) sources
    ∙ ap (λ xs. pairs (take n ss ++ us) xs (take (n + length us) (put_mid n k qs vs))) destinations
    ∙ ap (λ xs. pairs (take n ss ++ us) (take n ts ++ behind) xs) weights
    ∙ pairs-append (take n ss) (take n ts) (take n qs) us behind ws (length-take-le n ss l ∙ sym (length-take-le n ts m)) (length-take-le n qs o ∙ sym (length-take-le n ts m))
    ∙ ap (λ es. pairs (take n ss) (take n ts) (take n qs) ++ es) (pairs-column d us ws)
