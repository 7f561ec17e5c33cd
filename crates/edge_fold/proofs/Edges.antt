-- What is given on edges.
use Rattle.std.proofs.Common.{◌≡◌, ℕ, suc, ◌+◌, ◌<◌, ◌≤◌, ◌==◌, ℤ, Bool, true, false, cond, List, [], ◌∷◌, ◌++◌, length, get_or, take, replicate, append_assoc, Option, Some, None, refl, sym, ap, ◌∙◌}
use Rattle.std.proofs.Common.{subst, arith}
use Rattle.std.proofs.lemmas.List.{length-take-le, map-append}
use Rattle.std.proofs.lemmas.Slice.{take-put_mid}
use borrow.Rule.Slice.PartMut.{put_mid}
use Rattle.std.specs.Borrow.{Bor}
use Rattle.weighted_edges.specs.Edge.{Edge, unit_weight}
use Rattle.apply_options.specs.declared.reduction.Reduction.{Reduction}
use Rattle.typed_tree.specs.FunctionStatementTree.{FunctionStatementsTree}
use Rattle.kernels.specs.declared.kernel.EdgeKernel.{EdgeKernel}
use Rattle.kernels.specs.Kernels.{IsEdgeKernel}
use Rattle.edge_fold.specs.Between.{firsts}
use Rattle.edge_fold.specs.Folded.{AreKernels}
use Rattle.edge_fold.specs.inside.Contributions.{each_given, given_from}
use Rattle.edge_fold.specs.Contributions.{weighted_entries, numbers_for_vector, given_on, pairs, reduced_at, row}
use Rattle.edge_fold.proofs.Folds.{for_vector-append, given_on-append, reduced_at-append, reduced_at-swap}

-- what a block's pairs are given, by the pairs
first_index : (k : ℕ) → k + 0 ≡ k
first_index k = omega arith

next_index : (k i : ℕ) → k + 1 + i ≡ k + suc i
next_index k i = omega arith

pub paired : (x : ℕ) (gives : ℕ → List (ℕ × Reduction × ℤ)) (g : Edge → List (ℕ × Reduction × ℤ)) (k : ℕ) (ss ds : List ℕ) (ws : List ℤ) → length ds ≡ length ss
    → ((i : ℕ) → i < length ss → gives (k + i) ≡ g (get_or ss i 0, get_or ds i 0, get_or ws i unit_weight)) → given_from x gives k ds ≡ given_on x g (pairs ss ds ws)
paired x gives g k [] [] ws same at = refl
paired x gives g k [] (d ∷ ds) ws same at = absurd (omega (arith, same))
paired x gives g k (s ∷ ss) [] ws same at = absurd (omega (arith, same))
paired x gives g k (s ∷ ss) (d ∷ ds) [] same at =
    ap (λ (gs : List (ℕ × Reduction × ℤ)). numbers_for_vector x d gs ++ given_from x gives (k + 1) ds) (ap gives (sym (first_index k)) ∙ at 0 (omega arith))
    ∙ ap (λ (gs : List (ℕ × ℤ)). numbers_for_vector x d (g (s, d, unit_weight)) ++ gs)
    (paired x gives g (k + 1) ss ds [] (omega (arith, same)) (λ i l. ap gives (next_index k i) ∙ at (suc i) (omega (arith, l))))
paired x gives g k (s ∷ ss) (d ∷ ds) (w ∷ ws) same at =
    ap (λ (gs : List (ℕ × Reduction × ℤ)). numbers_for_vector x d gs ++ given_from x gives (k + 1) ds) (ap gives (sym (first_index k)) ∙ at 0 (omega arith))
    ∙ ap (λ (gs : List (ℕ × ℤ)). numbers_for_vector x d (g (s, d, w)) ++ gs) (paired x gives g (k + 1) ss ds ws (omega (arith, same))
    (λ i l. ap gives (next_index k i) ∙ at (suc i) (omega (arith, l))))

-- what two functions give may be given in two rounds
pub on_in_rounds : (r : Reduction) (v x : ℕ) (n : ℤ) (a b : Edge → List (ℕ × Reduction × ℤ)) (es : List Edge)
    → reduced_at r v n (given_on x (λ e. a e ++ b e) es) ≡ reduced_at r v (reduced_at r v n (given_on x a es)) (given_on x b es)
on_in_rounds r v x n a b [] = refl
on_in_rounds r v x n a b (e ∷ es) =
    let A = numbers_for_vector x e.1 (a e) in
    let B = numbers_for_vector x e.1 (b e) in
    let more_a = given_on x a es in
    let more_b = given_on x b es in
    let more = given_on x (λ k. a k ++ b k) es in
    let m = reduced_at r v n A in
    reduced_at-append r v n (numbers_for_vector x e.1 (a e ++ b e)) more
    ∙ ap (λ (gs : List (ℕ × ℤ)). reduced_at r v (reduced_at r v n gs) more) (for_vector-append x e.1 (a e) (b e))
    ∙ ap (λ (y : ℤ). reduced_at r v y more) (reduced_at-append r v n A B)
    ∙ on_in_rounds r v x (reduced_at r v m B) a b es
    ∙ ap (λ (y : ℤ). reduced_at r v y more_b) (reduced_at-swap r v m B more_a)
    ∙ ap (λ (y : ℤ). reduced_at r v (reduced_at r v y B) more_b) (sym (reduced_at-append r v n A more_a))
    ∙ sym (reduced_at-append r v (reduced_at r v n (A ++ more_a)) B more_b)

pub on_same : (x : ℕ) (a b : Edge → List (ℕ × Reduction × ℤ)) → ((e : Edge) → a e ≡ b e) → (es : List Edge) → given_on x a es ≡ given_on x b es
on_same x a b same [] = refl
on_same x a b same (e ∷ es) =
    ap (λ (gs : List (ℕ × Reduction × ℤ)). numbers_for_vector x e.1 gs ++ given_on x a es) (same e)
    ∙ ap (λ (gs : List (ℕ × ℤ)). numbers_for_vector x e.1 (b e) ++ gs) (on_same x a b same es)

-- edges that come after
pub fold_more : (r : Reduction) (v x : ℕ) (h o : ℤ) (g : Edge → List (ℕ × Reduction × ℤ)) (ws es more : List Edge)
    → reduced_at r v h (given_on x g ws) ≡ reduced_at r v o (given_on x g es) → reduced_at r v h (given_on x g (ws ++ more)) ≡ reduced_at r v o (given_on x g (es ++ more))
fold_more r v x h o g ws es more e =
    ap (λ (gs : List (ℕ × ℤ)). reduced_at r v h gs) (given_on-append x g ws more)
    ∙ reduced_at-append r v h (given_on x g ws) (given_on x g more)
    ∙ ap (λ (y : ℤ). reduced_at r v y (given_on x g more)) e
    ∙ sym (reduced_at-append r v o (given_on x g es) (given_on x g more))
    ∙ ap (λ (gs : List (ℕ × ℤ)). reduced_at r v o gs) (sym (given_on-append x g es more))

-- edges that are folded before those that wait
pub fold_before : (r : Reduction) (v x : ℕ) (h o : ℤ) (g : Edge → List (ℕ × Reduction × ℤ)) (ws es more : List Edge)
    → reduced_at r v h (given_on x g ws) ≡ reduced_at r v o (given_on x g es)
    → reduced_at r v (reduced_at r v h (given_on x g more)) (given_on x g ws) ≡ reduced_at r v o (given_on x g (es ++ more))
fold_before r v x h o g ws es more e =
    reduced_at-swap r v h (given_on x g more) (given_on x g ws)
    ∙ sym (reduced_at-append r v h (given_on x g ws) (given_on x g more))
    ∙ ap (λ (gs : List (ℕ × ℤ)). reduced_at r v h gs) (sym (given_on-append x g ws more))
    ∙ fold_more r v x h o g ws es more e

-- one number for each destination
one_for : (x y : ℕ) (r : Reduction) (n : ℤ) (d : ℕ) (ds : List ℕ) (b : Bool) (rest : List (ℕ × ℤ)) → rest ≡ cond b (each_given n ds) []
    → cond b ((d, n) ∷ []) [] ++ rest ≡ cond b (each_given n (d ∷ ds)) []
one_for x y r n d ds true rest e = ap (λ (gs : List (ℕ × ℤ)). (d, n) ∷ gs) e
one_for x y r n d ds false rest e = e

nothing_either : (n : ℤ) (b : Bool) → [] ≡ cond b (each_given n []) []
nothing_either n true = refl
nothing_either n false = refl

pub contribution_row : (x y source : ℕ) (r : Reduction) (n : ℤ) (g : Edge → List (ℕ × Reduction × ℤ)) → ((d : ℕ) (w : ℤ) → g (source, d, w) ≡ (y, r, n) ∷ []) → (es : List (ℕ × ℤ))
    → given_on x g (row source es) ≡ cond (y == x) (each_given n (firsts es)) []
contribution_row x y source r n g same [] = nothing_either n (y == x)
contribution_row x y source r n g same (e ∷ es) =
    ap (λ (gs : List (ℕ × Reduction × ℤ)). numbers_for_vector x e.0 gs ++ given_on x g (row source es)) (same e.0 e.1)
    ∙ one_for x y r n e.0 (firsts es) (y == x) (given_on x g (row source es)) (contribution_row x y source r n g same es)

-- one function, or two
pub record IsOne (first : EdgeKernel) (steps : List FunctionStatementsTree) : Type 0 where
  pub a : FunctionStatementsTree
  pub alone : steps ≡ a ∷ []
  pub kernel : IsEdgeKernel first a

pub record AreTwo (first second : EdgeKernel) (steps : List FunctionStatementsTree) : Type 0 where
  pub a : FunctionStatementsTree
  pub b : FunctionStatementsTree
  pub both : steps ≡ a ∷ b ∷ []
  pub kernel : IsEdgeKernel first a
  pub other : IsEdgeKernel second b

one_of : (first : EdgeKernel) (steps : List FunctionStatementsTree) → AreKernels first None steps → IsOne first steps
one_of first [] are = absurd are
one_of first (a ∷ []) are = record { a = a; alone = refl; kernel = are }
one_of first (a ∷ b ∷ cs) are = absurd are

pub one_function : (first : EdgeKernel) (second : Option (Bor EdgeKernel)) (steps : List FunctionStatementsTree) → second ≡ None → AreKernels first second steps → IsOne first steps
one_function first second steps e are = one_of first steps (subst (λ (o : Option (Bor EdgeKernel)). AreKernels first o steps) e are)

two_of : (first : EdgeKernel) (second : Bor EdgeKernel) (steps : List FunctionStatementsTree) → AreKernels first (Some second) steps → AreTwo first second.now steps
two_of first second [] are = absurd are
two_of first second (a ∷ []) are = absurd are
two_of first second (a ∷ b ∷ []) are = record { a = a; b = b; both = refl; kernel = are.0; other = are.1 }
two_of first second (a ∷ b ∷ c ∷ cs) are = absurd are

pub two_functions : (first : EdgeKernel) (second : Option (Bor EdgeKernel)) (s : Bor EdgeKernel) (steps : List FunctionStatementsTree) → second ≡ Some s → AreKernels first second steps
    → AreTwo first s.now steps
two_functions first second s steps e are = two_of first s steps (subst (λ (o : Option (Bor EdgeKernel)). AreKernels first o steps) e are)

-- pairs in a row
pub unit_pairs-append : (ks ls cs ds : List ℕ) → length ks ≡ length ls → pairs (ks ++ cs) (ls ++ ds) [] ≡ pairs ks ls [] ++ pairs cs ds []
unit_pairs-append [] [] cs ds e = refl
unit_pairs-append [] (l ∷ ls) cs ds e = absurd (omega (arith, e))
unit_pairs-append (k ∷ ks) [] cs ds e = absurd (omega (arith, e))
unit_pairs-append (k ∷ ks) (l ∷ ls) cs ds e = ap (λ es. (k, l, unit_weight) ∷ es) (unit_pairs-append ks ls cs ds (omega (arith, e)))

pub pairs-append : (ks ls : List ℕ) (ws : List ℤ) (cs ds : List ℕ) (vs : List ℤ) → length ks ≡ length ls → length ws ≡ length ls
    → pairs (ks ++ cs) (ls ++ ds) (ws ++ vs) ≡ pairs ks ls ws ++ pairs cs ds vs
pairs-append [] [] [] cs ds vs e f = refl
pairs-append [] [] (w ∷ ws) cs ds vs e f = absurd (omega (arith, f))
pairs-append [] (l ∷ ls) ws cs ds vs e f = absurd (omega (arith, e))
pairs-append (k ∷ ks) [] ws cs ds vs e f = absurd (omega (arith, e))
pairs-append (k ∷ ks) (l ∷ ls) [] cs ds vs e f = absurd (omega (arith, f))
pairs-append (k ∷ ks) (l ∷ ls) (w ∷ ws) cs ds vs e f = ap (λ es. (k, l, w) ∷ es) (pairs-append ks ls ws cs ds vs (omega (arith, e)) (omega (arith, f)))

pub pairs-replicate : (s : ℕ) (ds : List ℕ) (ws : List ℤ) → pairs (replicate (length ds) s) ds ws ≡ row s (weighted_entries ds ws)
pairs-replicate s [] ws = refl
pairs-replicate s (d ∷ ds) [] = ap (λ es. (s, d, unit_weight) ∷ es) (pairs-replicate s ds [])
pairs-replicate s (d ∷ ds) (w ∷ ws) = ap (λ es. (s, d, w) ∷ es) (pairs-replicate s ds ws)

-- a row in two parts
pub row_parts : (s : ℕ) (first rest all : List (ℕ × ℤ)) (es : List Edge) → first ++ rest ≡ all → (es ++ row s first) ++ row s rest ≡ es ++ row s all
row_parts s first rest all es whole =
    append_assoc es (row s first) (row s rest)
    ∙ ap (λ fs. es ++ fs) (sym (map-append (λ e. (s, e.0, e.1)) first rest) ∙ ap (row s) whole)

-- the first indices of lists after more were written after them
pub waiting_more : (s n k : ℕ) (ss ts ys zs ds : List ℕ) → n ≤ length ss → n ≤ length ts → length ys ≡ length ds → ys ≡ replicate (length ds) s → zs ≡ ds
    → pairs (take (n + length ds) (put_mid n k ss ys)) (take (n + length ds) (put_mid n k ts zs)) [] ≡ pairs (take n ss) (take n ts) [] ++ row s (weighted_entries ds [])
waiting_more s n k ss ts ys zs ds l m long filled copied =
    let even : length zs ≡ length ds = ap length copied in
    let sources = take-put_mid n k ss ys (n + length ds) (omega (arith, long)) l ∙ ap (λ xs. take n ss ++ xs) filled in
    let destinations = take-put_mid n k ts zs (n + length ds) (omega (arith, even)) m ∙ ap (λ xs. take n ts ++ xs) copied in
    ap (λ xs. pairs xs (take (n + length ds) (put_mid n k ts zs)) []) sources ∙ ap (λ xs. pairs (take n ss ++ replicate (length ds) s) xs []) destinations
    ∙ unit_pairs-append (take n ss) (take n ts) (replicate (length ds) s) ds (length-take-le n ss l ∙ sym (length-take-le n ts m))
    ∙ ap (λ es. pairs (take n ss) (take n ts) [] ++ es) (pairs-replicate s ds [])

pub weighted_more : (s n k : ℕ) (ss ts ys zs ds : List ℕ) (qs vs ws : List ℤ) → n ≤ length ss → n ≤ length ts → n ≤ length qs → length ws ≡ length ds → length ys ≡ length ds
    → ys ≡ replicate (length ds) s → zs ≡ ds → vs ≡ ws
    → pairs (take (n + length ds) (put_mid n k ss ys)) (take (n + length ds) (put_mid n k ts zs)) (take (n + length ds) (put_mid n k qs vs)) ≡ pairs (take n ss) (take n ts) (take n qs)
    ++ row s (weighted_entries ds ws)
weighted_more s n k ss ts ys zs ds qs vs ws l m o same long filled copied weighed =
    let even : length zs ≡ length ds = ap length copied in
    let level : length vs ≡ length ds = ap length weighed ∙ same in
    let sources = take-put_mid n k ss ys (n + length ds) (omega (arith, long)) l ∙ ap (λ xs. take n ss ++ xs) filled in
    let destinations = take-put_mid n k ts zs (n + length ds) (omega (arith, even)) m ∙ ap (λ xs. take n ts ++ xs) copied in
    let weights = take-put_mid n k qs vs (n + length ds) (omega (arith, level)) o ∙ ap (λ xs. take n qs ++ xs) weighed in
    ap (λ xs. pairs xs (take (n + length ds) (put_mid n k ts zs)) (take (n + length ds) (put_mid n k qs vs))) sources
    ∙ ap (λ xs. pairs (take n ss ++ replicate (length ds) s) xs (take (n + length ds) (put_mid n k qs vs))) destinations
    ∙ ap (λ xs. pairs (take n ss ++ replicate (length ds) s) (take n ts ++ ds) xs) weights
    ∙ pairs-append (take n ss) (take n ts) (take n qs) (replicate (length ds) s) ds ws (length-take-le n ss l ∙ sym (length-take-le n ts m)) (length-take-le n qs o ∙ sym (length-take-le n ts m))
    ∙ ap (λ es. pairs (take n ss) (take n ts) (take n qs) ++ es) (pairs-replicate s ds ws)
