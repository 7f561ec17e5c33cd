-- Laws of lists that agree index by index.
use Rattle.std.proofs.Common.{◌≡◌, ◌<◌, ◌+◌, ℕ, zero, suc, List, [], ◌∷◌, ◌++◌, map, take, length, get_or, slice_get, sym, ap, ◌∙◌, subst}
use Rattle.std.proofs.lemmas.List.{map-append, take_more}
use Rattle.std.specs.Option.{unwrap_or}
use Rattle.algorithm_meaning.specs.Function.{steps_of}
use Rattle.typed_tree.specs.FunctionStatementTree.{FunctionStatementsTree, NoStep, FunctionTree}
use Rattle.plans.specs.Operation.{ArePairwise}

-- one more on either side
pub pairwise_snoc : {A B : Type 0} (R : A → B → Type 0) (xs : List A) (ys : List B) (x : A) (y : B) → ArePairwise R xs ys → R x y → ArePairwise R (xs ++ x ∷ []) (ys ++ y ∷ [])
pairwise_snoc R [] [] x y all one = (one, tt)
pairwise_snoc R [] (b ∷ ys) x y all one = absurd all
pairwise_snoc R (a ∷ xs) [] x y all one = absurd all
pairwise_snoc R (a ∷ xs) (b ∷ ys) x y all one = (all.0, pairwise_snoc R xs ys x y all.1 one)

-- one list after the other on either side
pub pairwise_append : {A B : Type 0} (R : A → B → Type 0) (xs : List A) (ys : List B) (vs : List A) (ws : List B) → ArePairwise R xs ys → ArePairwise R vs ws → ArePairwise R (xs ++ vs) (ys ++ ws)
pairwise_append R [] [] vs ws all more = more
pairwise_append R [] (b ∷ ys) vs ws all more = absurd all
pairwise_append R (a ∷ xs) [] vs ws all more = absurd all
pairwise_append R (a ∷ xs) (b ∷ ys) vs ws all more = (all.0, pairwise_append R xs ys vs ws all.1 more)

-- the kernel at an index is that of the statements there, and what stands in for it that of none
pub pairwise_at : {K : Type 0} (R : K → FunctionStatementsTree → Type 0) (ks : List K) (fs : List FunctionTree) (nothing : K) → ArePairwise (λ k f. R k f.steps) ks fs → R nothing NoStep
    → (index : ℕ) → R (unwrap_or (slice_get ks index) nothing) (steps_of (slice_get fs index))
pairwise_at R [] [] nothing all none index = none
pairwise_at R [] (f ∷ fs) nothing all none index = absurd all
pairwise_at R (k ∷ ks) [] nothing all none index = absurd all
pairwise_at R (k ∷ ks) (f ∷ fs) nothing all none zero = all.0
pairwise_at R (k ∷ ks) (f ∷ fs) nothing all none (suc index) = pairwise_at R ks fs nothing all.1 none index

-- one more kernel, of the next function
pub pairwise_next : {A B C : Type 0} (R : A → B → Type 0) (tree : C → B) (ks : List A) (k : A) (fs : List C) (i : ℕ) (f : C) → i < length fs → f ≡ get_or fs i f
    → ArePairwise R ks (map tree (take i fs)) → R k (tree f) → ArePairwise R (ks ++ k ∷ []) (map tree (take (i + 1) fs))
pairwise_next R tree ks k fs i f inside is all one =
    let step : map tree (take (i + 1) fs) ≡ map tree (take i fs) ++ tree f ∷ [] =
    ap (map tree) (take_more fs i f inside ∙ ap (λ t. take i fs ++ t ∷ []) (sym is)) ∙ map-append tree (take i fs) (f ∷ []) in
    subst (λ ts. ArePairwise R (ks ++ k ∷ []) ts) (sym step) (pairwise_snoc R ks (map tree (take i fs)) k (tree f) all one)
