-- What is folded, in the words of the meaning.
use Rattle.std.proofs.Common.{◌≡◌, ℕ, ◌<◌, ◌==◌, ℤ, Bool, true, false, cond, List, [], ◌∷◌, ◌++◌, length, slice_index_or, refl, sym, ap, ◌∙◌, subst, arith}
use Rattle.std.proofs.lemmas.Bool.Decides.{nat_tests}
use Rattle.std.proofs.lemmas.Bool.{false≢true}
use Rattle.std.proofs.lemmas.List.Elements.{All-head, All-tail}
use Rattle.std.specs.List.{All, filter}
use Rattle.weighted_edges.specs.Edge.{Edge}
use Rattle.apply_options.specs.declared.reduction.Reduction.{Reduction}
use Rattle.typed_tree.specs.FunctionStatementTree.{FunctionStatementsTree}
use Rattle.algorithm_meaning.specs.declared.contribution.Contribution.{Contribution}
use Rattle.algorithm_meaning.specs.Arithmetic.{reduced}
use Rattle.algorithm_meaning.specs.EdgeApply.{after_edges, all_give, gives, IsGivenBy, for_vector as for_one}
use Rattle.algorithm_meaning.specs.Laws.{given_to, reduced_all}
use Rattle.algorithm_meaning.specs.State.{StateValue}
use Rattle.algorithm_meaning.specs.Value.{entry}
use Rattle.algorithm_meaning.proofs.EdgeApplies.{entry_after_edges}
use Rattle.algorithm_meaning.proofs.Reductions.{reduced_all-append}
use Rattle.kernels.specs.Meaning.{each}
use Rattle.edge_fold.specs.Contributions.{IsBy, IsReducedBy, all_given, numbers_for_vector, given_on, reduced_at}
use Rattle.edge_fold.proofs.Folds.{reduced_at-append}

same : (m n : ℕ) → (m == n) ≡ true → m ≡ n
same m n h = grind (arith, nat_tests)

abbrev triple : Contribution → ℕ × Reduction × ℤ
triple c = (c.vector, c.reduction, c.number)

each-append : (a b : List Contribution) → each (a ++ b) triple ≡ each a triple ++ each b triple
each-append [] b = refl
each-append (c ∷ cs) b = ap (λ (gs : List (ℕ × Reduction × ℤ)). triple c ∷ gs) (each-append cs b)

all_given_is : (m : StateValue) (steps : List FunctionStatementsTree) (e : Edge) → all_given m steps e ≡ each (all_give steps m.sets m.vectors e) triple
all_given_is m [] e = refl
all_given_is m (s ∷ ss) e =
    ap (λ (gs : List (ℕ × Reduction × ℤ)). each (gives s m.sets m.vectors e) triple ++ gs) (all_given_is m ss e)
    ∙ sym (each-append (gives s m.sets m.vectors e) (all_give ss m.sets m.vectors e))

-- by one reduction
equal_test : (m n : ℕ) → m ≡ n → (m == n) ≡ true
equal_test m n h = grind (arith, nat_tests)

by_head : (r : Reduction) (x : ℕ) (c : Contribution) (cs : List Contribution) (b : Bool) → (c.vector == x) ≡ b → All (λ c. c.reduction ≡ r) (cond b (c ∷ cs) cs) → c.vector ≡ x → c.reduction ≡ r
by_head r x c cs true e all own = All-head (λ (c : Contribution). c.reduction ≡ r) c cs all
by_head r x c cs false e all own = absurd (false≢true (sym e ∙ equal_test c.vector x own))

by_tail : (r : Reduction) (c : Contribution) (cs : List Contribution) (b : Bool) → All (λ c. c.reduction ≡ r) (cond b (c ∷ cs) cs) → All (λ c. c.reduction ≡ r) cs
by_tail r c cs true all = All-tail (λ (c : Contribution). c.reduction ≡ r) c cs all
by_tail r c cs false all = all

is_by : (r : Reduction) (x : ℕ) (cs : List Contribution) → All (λ c. c.reduction ≡ r) (for_one x cs) → IsBy r x (each cs triple)
is_by r x [] all = tt
is_by r x (c ∷ cs) all = (by_head r x c (for_one x cs) (c.vector == x) refl all, is_by r x cs (by_tail r c (for_one x cs) (c.vector == x) all))

pub given_by_one : (r : Reduction) (x : ℕ) (m : StateValue) (steps : List FunctionStatementsTree) → IsGivenBy r x steps m.sets m.vectors → IsReducedBy r x m steps
given_by_one r x m steps by e = subst (λ (gs : List (ℕ × Reduction × ℤ)). IsBy r x gs) (sym (all_given_is m steps e)) (is_by r x (all_give steps m.sets m.vectors e) (by e))

-- what one edge gives a vertex
one_number : (r : Reduction) (v d : ℕ) (n : ℤ) (c : Contribution) (cs : List Contribution) (gs : List (ℕ × ℤ)) (p q : Bool) → (d == v) ≡ q
    → (p ≡ true → c.reduction ≡ r)
    → ((n : ℤ) → reduced_all n (cond q cs []) ≡ reduced_at r v n gs)
    → reduced_all n (cond q (cond p (c ∷ cs) cs) []) ≡ reduced_at r v n (cond p ((d, c.number) ∷ gs) gs)
one_number r v d n c cs gs true true e own more =
    ap (λ (s : Reduction). reduced_all (reduced s n c.number) cs) (own refl)
    ∙ more (reduced r n c.number)
    ∙ sym (ap (λ (b : Bool). reduced_at r v (cond b (reduced r n c.number) n) gs) e)
one_number r v d n c cs gs true false e own more = more n ∙ sym (ap (λ (b : Bool). reduced_at r v (cond b (reduced r n c.number) n) gs) e)
one_number r v d n c cs gs false q e own more = more n

nothing_given_here : (b : Bool) (n : ℤ) → reduced_all n (cond b [] []) ≡ n
nothing_given_here true n = refl
nothing_given_here false n = refl

edge_numbers : (r : Reduction) (x v d : ℕ) (n : ℤ) (cs : List Contribution) → All (λ c. c.reduction ≡ r) (for_one x cs)
    → reduced_all n (cond (d == v) (for_one x cs) []) ≡ reduced_at r v n (numbers_for_vector x d (each cs triple))
edge_numbers r x v d n [] all = nothing_given_here (d == v) n
edge_numbers r x v d n (c ∷ cs) all =
    one_number r v d n c (for_one x cs) (numbers_for_vector x d (each cs triple)) (c.vector == x) (d == v) refl
    (λ is. by_head r x c (for_one x cs) (c.vector == x) refl all (same c.vector x is))
    (λ k. edge_numbers r x v d k cs (by_tail r c (for_one x cs) (c.vector == x) all))

-- what edges give a vertex
edges_numbers : (r : Reduction) (x v : ℕ) (m : StateValue) (steps : List FunctionStatementsTree) → IsGivenBy r x steps m.sets m.vectors → (n : ℤ) (es : List Edge)
    → reduced_all n (given_to x v steps m.sets m.vectors es) ≡ reduced_at r v n (given_on x (all_given m steps) es)
edges_numbers r x v m steps by n [] = refl
edges_numbers r x v m steps by n (e ∷ es) =
    let cs = all_give steps m.sets m.vectors e in
    let here = cond (e.1 == v) (for_one x cs) [] in
    let more = given_to x v steps m.sets m.vectors es in
    let g = all_given m steps in
    reduced_all-append n here more
    ∙ edges_numbers r x v m steps by (reduced_all n here) es
    ∙ ap (λ (k : ℤ). reduced_at r v k (given_on x g es)) (edge_numbers r x v e.1 n cs (by e)
    ∙ ap (λ (gs : List (ℕ × Reduction × ℤ)). reduced_at r v n (numbers_for_vector x e.1 gs)) (sym (all_given_is m steps e)))
    ∙ sym (reduced_at-append r v n (numbers_for_vector x e.1 (g e)) (given_on x g es))

-- the edges to another vertex do not matter
elsewhere_at : (r : Reduction) (x v d : ℕ) (n : ℤ) (g : ℕ × Reduction × ℤ) (gs : List (ℕ × Reduction × ℤ)) (b : Bool) → (d == v) ≡ false → ((k : ℤ) → reduced_at r v k (numbers_for_vector x d gs) ≡ k)
    → reduced_at r v n (cond b ((d, g.2) ∷ numbers_for_vector x d gs) (numbers_for_vector x d gs)) ≡ n
elsewhere_at r x v d n g gs true off more = ap (λ (b : Bool). reduced_at r v (cond b (reduced r n g.2) n) (numbers_for_vector x d gs)) off ∙ more n
elsewhere_at r x v d n g gs false off more = more n

elsewhere : (r : Reduction) (x v d : ℕ) (n : ℤ) (gs : List (ℕ × Reduction × ℤ)) → (d == v) ≡ false → reduced_at r v n (numbers_for_vector x d gs) ≡ n
elsewhere r x v d n [] off = refl
elsewhere r x v d n (g ∷ gs) off = elsewhere_at r x v d n g gs (g.0 == x) off (λ k. elsewhere r x v d k gs off)

-- an edge whose destination passes, or not
filtered_edge : (r : Reduction) (x v : ℕ) (n : ℤ) (test : ℕ → Bool) (g : Edge → List (ℕ × Reduction × ℤ)) (e : Edge) (es : List Edge) (p q : Bool) → test e.1 ≡ p → (e.1 == v) ≡ q
    → ((k : ℤ) → reduced_at r v k (given_on x g (filter (λ e. test e.1) es)) ≡ cond (test v) (reduced_at r v k (given_on x g es)) k)
    → reduced_at r v n (given_on x g (cond p (e ∷ filter (λ e. test e.1) es) (filter (λ e. test e.1) es))) ≡ cond (test v) (reduced_at r v n (numbers_for_vector x e.1 (g e) ++ given_on x g es)) n
filtered_edge r x v n test g e es true true is at more =
    let here = numbers_for_vector x e.1 (g e) in
    let on : test v ≡ true = ap test (sym (same e.1 v at)) ∙ is in
    reduced_at-append r v n here (given_on x g (filter (λ e. test e.1) es))
    ∙ more (reduced_at r v n here)
    ∙ ap (λ (b : Bool). cond b (reduced_at r v (reduced_at r v n here) (given_on x g es)) (reduced_at r v n here)) on
    ∙ sym (reduced_at-append r v n here (given_on x g es))
    ∙ sym (ap (λ (b : Bool). cond b (reduced_at r v n (here ++ given_on x g es)) n) on)
filtered_edge r x v n test g e es true false is at more =
    let here = numbers_for_vector x e.1 (g e) in
    let still = elsewhere r x v e.1 n (g e) at in
    reduced_at-append r v n here (given_on x g (filter (λ e. test e.1) es))
    ∙ ap (λ (k : ℤ). reduced_at r v k (given_on x g (filter (λ e. test e.1) es))) still
    ∙ more n
    ∙ ap (λ (k : ℤ). cond (test v) k n) (sym (reduced_at-append r v n here (given_on x g es) ∙ ap (λ (k : ℤ). reduced_at r v k (given_on x g es)) still))
filtered_edge r x v n test g e es false true is at more =
    let off : test v ≡ false = ap test (sym (same e.1 v at)) ∙ is in
    more n ∙ ap (λ (b : Bool). cond b (reduced_at r v n (given_on x g es)) n) off ∙ sym (ap (λ (b : Bool). cond b (reduced_at r v n (numbers_for_vector x e.1 (g e) ++ given_on x g es)) n) off)
filtered_edge r x v n test g e es false false is at more =
    let here = numbers_for_vector x e.1 (g e) in
    let still = elsewhere r x v e.1 n (g e) at in
    more n ∙ ap (λ (k : ℤ). cond (test v) k n) (sym (reduced_at-append r v n here (given_on x g es) ∙ ap (λ (k : ℤ). reduced_at r v k (given_on x g es)) still))

either_way : (b : Bool) (n : ℤ) → cond b n n ≡ n
either_way true n = refl
either_way false n = refl

pub filtered_edges : (r : Reduction) (x v : ℕ) (n : ℤ) (test : ℕ → Bool) (g : Edge → List (ℕ × Reduction × ℤ)) (es : List Edge)
    → reduced_at r v n (given_on x g (filter (λ e. test e.1) es)) ≡ cond (test v) (reduced_at r v n (given_on x g es)) n
filtered_edges r x v n test g [] = sym (either_way (test v) n)
filtered_edges r x v n test g (e ∷ es) = filtered_edge r x v n test g e es (test e.1) (e.1 == v) refl refl (λ k. filtered_edges r x v k test g es)

-- the entries after an apply of these edges, where those to vertices that do not pass are left out
pub entries_after : (r : Reduction) (x v : ℕ) (m : StateValue) (steps : List FunctionStatementsTree) (test : ℕ → Bool) (es : List Edge) → IsGivenBy r x steps m.sets m.vectors
    → v < length (slice_index_or m.vectors x [])
    → cond (test v) (reduced_at r v (entry m.vectors x v) (given_on x (all_given m steps) es)) (entry m.vectors x v)
    ≡ entry (after_edges steps m.sets m.vectors (filter (λ e. test e.1) es) m.vectors) x v
entries_after r x v m steps test es by inside =
    let kept = filter (λ (e : Edge). test e.1) es in
    sym (filtered_edges r x v (entry m.vectors x v) test (all_given m steps) es)
    ∙ sym (edges_numbers r x v m steps by (entry m.vectors x v) kept)
    ∙ sym (entry_after_edges steps m.sets m.vectors kept m.vectors x v inside)
