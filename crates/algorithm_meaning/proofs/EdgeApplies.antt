-- What edge applies do to an entry.
use Rattle.std.proofs.Common.{◌≡◌, ℕ, ◌<◌, ◌≤◌, ◌==◌, nat_lt, ℤ, pos, Bool, true, false, cond, List, [], ◌∷◌, length, slice_index_or, ap, sym, ◌∙◌, refl, arith}
use Rattle.std.proofs.lemmas.Bool.Decides.{nat_tests}
use Rattle.std.proofs.lemmas.List.{get_or_past}
use Rattle.std.proofs.lemmas.List.Elements.{All-nil}
use Rattle.std.specs.List.{All, fold}
use Rattle.std.specs.List.Sorted.{IsPermutation}
use Rattle.weighted_edges.specs.Edge.{Edge}
use Rattle.apply_options.specs.declared.reduction.Reduction.{Reduction}
use Rattle.typed_tree.specs.FunctionStatementTree.{FunctionStatementsTree}
use Rattle.algorithm_meaning.specs.declared.contribution.Contribution.{Contribution}
use Rattle.algorithm_meaning.specs.declared.state.SetBinding.{SetBinding}
use Rattle.algorithm_meaning.specs.Arithmetic.{reduced}
use Rattle.algorithm_meaning.specs.Value.{entry, reduce_at}
use Rattle.algorithm_meaning.specs.EdgeApply.{all_give, with_given, after_edges, IsGivenBy, for_vector}
use Rattle.algorithm_meaning.specs.Laws.{given_to, reduced_all}
use Rattle.algorithm_meaning.proofs.Lists.{Commutes, fold-permutation}
use Rattle.algorithm_meaning.proofs.Reductions.{reduced_all-append, lists_swapped}
use Rattle.algorithm_meaning.proofs.WrittenEntries.{entry_written, entry_elsewhere, entry_of_other, length_stays}

same_number : (m n : ℕ) → (m == n) ≡ true → m ≡ n
same_number m n h = grind (arith, nat_tests)

length_after_given : (u : ℕ) (cs : List Contribution) (vectors : List (List ℤ)) (vector : ℕ)
    → length (slice_index_or (with_given u cs vectors) vector []) ≡ length (slice_index_or vectors vector [])
length_after_given u [] vectors vector = refl
length_after_given u (c ∷ cs) vectors vector =
    length_after_given u cs (reduce_at vectors c.vector u c.reduction c.number) vector
    ∙ length_stays vectors c.vector u (reduced c.reduction (entry vectors c.vector u) c.number) vector

still_inside : (v m n : ℕ) → m ≡ n → v < n → v < m
still_inside v m n e h = omega (arith, e, h)

-- the entry after one number was given to its vertex
after_contribution : (c : Contribution) (vectors : List (List ℤ)) (vector v : ℕ) (rest : List Contribution) (b : Bool) → (c.vector == vector) ≡ b
    → v < length (slice_index_or vectors vector [])
    → reduced_all (entry (reduce_at vectors c.vector v c.reduction c.number) vector v) rest ≡ reduced_all (entry vectors vector v) (cond b (c ∷ rest) rest)
after_contribution c vectors vector v rest true e h =
    let here : c.vector ≡ vector = same_number c.vector vector e in
    ap (λ (u : ℕ). reduced_all (entry (reduce_at vectors u v c.reduction c.number) vector v) rest) here
    ∙ ap (λ (n : ℤ). reduced_all n rest) (entry_written vectors vector v (reduced c.reduction (entry vectors vector v) c.number) h)
after_contribution c vectors vector v rest false e h =
    ap (λ (n : ℤ). reduced_all n rest) (entry_of_other vectors c.vector v (reduced c.reduction (entry vectors c.vector v) c.number) vector v e)

-- after all that its vertex was given
given_here : (v : ℕ) (cs : List Contribution) (vectors : List (List ℤ)) (vector : ℕ) → v < length (slice_index_or vectors vector [])
    → entry (with_given v cs vectors) vector v ≡ reduced_all (entry vectors vector v) (for_vector vector cs)
given_here v [] vectors vector h = refl
given_here v (c ∷ cs) vectors vector h =
    let next = reduce_at vectors c.vector v c.reduction c.number in
    let long = length_stays vectors c.vector v (reduced c.reduction (entry vectors c.vector v) c.number) vector in
    given_here v cs next vector (still_inside v (length (slice_index_or next vector [])) (length (slice_index_or vectors vector [])) long h)
    ∙ after_contribution c vectors vector v (for_vector vector cs) (c.vector == vector) refl h

-- what another vertex was given
given_elsewhere : (u : ℕ) (cs : List Contribution) (vectors : List (List ℤ)) (vector v : ℕ) → (u == v) ≡ false
    → entry (with_given u cs vectors) vector v ≡ entry vectors vector v
given_elsewhere u [] vectors vector v apart = refl
given_elsewhere u (c ∷ cs) vectors vector v apart =
    given_elsewhere u cs (reduce_at vectors c.vector u c.reduction c.number) vector v apart
    ∙ entry_elsewhere vectors c.vector u (reduced c.reduction (entry vectors c.vector u) c.number) vector v apart

-- after what the vertex at the end of an edge was given
after_given : (u : ℕ) (cs : List Contribution) (vectors : List (List ℤ)) (vector v : ℕ) (b : Bool) → (u == v) ≡ b → v < length (slice_index_or vectors vector [])
    → entry (with_given u cs vectors) vector v ≡ reduced_all (entry vectors vector v) (cond b (for_vector vector cs) [])
after_given u cs vectors vector v true e h =
    ap (λ (x : ℕ). entry (with_given x cs vectors) vector v) (same_number u v e) ∙ given_here v cs vectors vector h
after_given u cs vectors vector v false e h = given_elsewhere u cs vectors vector v e

pub entry_after_edges : (functions : List FunctionStatementsTree) (sets : List SetBinding) (before : List (List ℤ)) (edges : List Edge) (vectors : List (List ℤ)) (vector v : ℕ)
    → v < length (slice_index_or vectors vector [])
    → entry (after_edges functions sets before edges vectors) vector v ≡ reduced_all (entry vectors vector v) (given_to vector v functions sets before edges)
entry_after_edges functions sets before [] vectors vector v h = refl
entry_after_edges functions sets before (edge ∷ edges) vectors vector v h =
    let given = all_give functions sets before edge in
    let next = with_given edge.1 given vectors in
    let here = cond (edge.1 == v) (for_vector vector given) [] in
    let more = given_to vector v functions sets before edges in
    let long = length_after_given edge.1 given vectors vector in
    entry_after_edges functions sets before edges next vector v (still_inside v (length (slice_index_or next vector [])) (length (slice_index_or vectors vector [])) long h)
    ∙ ap (λ (n : ℤ). reduced_all n more) (after_given edge.1 given vectors vector v (edge.1 == v) refl h)
    ∙ sym (reduced_all-append (entry vectors vector v) here more)

length_after_edges : (functions : List FunctionStatementsTree) (sets : List SetBinding) (before : List (List ℤ)) (edges : List Edge) (vectors : List (List ℤ)) (vector : ℕ)
    → length (slice_index_or (after_edges functions sets before edges vectors) vector []) ≡ length (slice_index_or vectors vector [])
length_after_edges functions sets before [] vectors vector = refl
length_after_edges functions sets before (edge ∷ edges) vectors vector =
    length_after_edges functions sets before edges (with_given edge.1 (all_give functions sets before edge) vectors) vector
    ∙ length_after_given edge.1 (all_give functions sets before edge) vectors vector

-- where there is no such entry, it reads as 0 after an apply as well
entry_outside : (functions : List FunctionStatementsTree) (sets : List SetBinding) (before : List (List ℤ)) (edges : List Edge) (vectors : List (List ℤ)) (vector v : ℕ)
    → length (slice_index_or vectors vector []) ≤ v → entry (after_edges functions sets before edges vectors) vector v ≡ pos 0
entry_outside functions sets before edges vectors vector v h =
    let long = length_after_edges functions sets before edges vectors vector in
    get_or_past (slice_index_or (after_edges functions sets before edges vectors) vector []) v (pos 0) (omega (arith, long, h))

-- what an edge gives a vertex for one vector
abbrev edge_gives : (vector v : ℕ) → List FunctionStatementsTree → List SetBinding → (before : List (List ℤ)) → Edge → List Contribution
edge_gives vector v functions sets before edge = cond (edge.1 == v) (for_vector vector (all_give functions sets before edge)) []

-- a number reduced with what an edge gives
abbrev reduced_by_edge : (vector v : ℕ) → List FunctionStatementsTree → List SetBinding → (before : List (List ℤ)) → ℤ → Edge → ℤ
reduced_by_edge vector v functions sets before n edge = reduced_all n (edge_gives vector v functions sets before edge)

edge_by_edge : (vector v : ℕ) (functions : List FunctionStatementsTree) (sets : List SetBinding) (before : List (List ℤ)) (edges : List Edge) (n : ℤ)
    → reduced_all n (given_to vector v functions sets before edges) ≡ fold (reduced_by_edge vector v functions sets before) n edges
edge_by_edge vector v functions sets before [] n = refl
edge_by_edge vector v functions sets before (edge ∷ edges) n =
    reduced_all-append n (edge_gives vector v functions sets before edge) (given_to vector v functions sets before edges)
    ∙ edge_by_edge vector v functions sets before edges (reduced_by_edge vector v functions sets before n edge)

all_or_none : (r : Reduction) (b : Bool) (cs : List Contribution) → All (λ c. c.reduction ≡ r) cs → All (λ c. c.reduction ≡ r) (cond b cs [])
all_or_none r true cs h = h
all_or_none r false cs h = All-nil (λ (c : Contribution). c.reduction ≡ r)

edges_commute : (r : Reduction) (vector v : ℕ) (functions : List FunctionStatementsTree) (sets : List SetBinding) (before : List (List ℤ)) → IsGivenBy r vector functions sets before
    → Commutes (reduced_by_edge vector v functions sets before)
edges_commute r vector v functions sets before by_one n first second =
    lists_swapped r n (edge_gives vector v functions sets before first) (edge_gives vector v functions sets before second)
    (all_or_none r (first.1 == v) (for_vector vector (all_give functions sets before first)) (by_one first))
    (all_or_none r (second.1 == v) (for_vector vector (all_give functions sets before second)) (by_one second))

either_order : (r : Reduction) (functions : List FunctionStatementsTree) (sets : List SetBinding) (before : List (List ℤ)) (edges others : List Edge) (vectors : List (List ℤ)) (vector v : ℕ)
    (b : Bool)
    → nat_lt v (length (slice_index_or vectors vector [])) ≡ b → IsGivenBy r vector functions sets before → IsPermutation edges others
    → entry (after_edges functions sets before edges vectors) vector v ≡ entry (after_edges functions sets before others vectors) vector v
either_order r functions sets before edges others vectors vector v true is by_one same =
    let inside : v < length (slice_index_or vectors vector []) = grind (arith, nat_tests) in
    let step = reduced_by_edge vector v functions sets before in
    let old = entry vectors vector v in
    entry_after_edges functions sets before edges vectors vector v inside
    ∙ edge_by_edge vector v functions sets before edges old
    ∙ fold-permutation Edge ℤ step (edges_commute r vector v functions sets before by_one) old edges others same
    ∙ sym (edge_by_edge vector v functions sets before others old)
    ∙ sym (entry_after_edges functions sets before others vectors vector v inside)
either_order r functions sets before edges others vectors vector v false is by_one same =
    let outside : length (slice_index_or vectors vector []) ≤ v = grind (arith, nat_tests) in
    entry_outside functions sets before edges vectors vector v outside ∙ sym (entry_outside functions sets before others vectors vector v outside)

pub entry_in_any_order : (r : Reduction) (functions : List FunctionStatementsTree) (sets : List SetBinding) (before : List (List ℤ)) (edges others : List Edge) (vectors : List (List ℤ)) (vector v : ℕ)
    → IsGivenBy r vector functions sets before → IsPermutation edges others
    → entry (after_edges functions sets before edges vectors) vector v ≡ entry (after_edges functions sets before others vectors) vector v
entry_in_any_order r functions sets before edges others vectors vector v by_one same =
    either_order r functions sets before edges others vectors vector v (nat_lt v (length (slice_index_or vectors vector []))) refl by_one same
