-- The edges that an apply looks at, and what it leaves alone.
use Rattle.std.proofs.Common.{◌≡◌, ℕ, ◌<◌, ◌≤◌, ◌==◌, nat_lt, ℤ, Bool, true, false, cond, ◌&&◌, Some, List, [], ◌∷◌, length, slice_index_or, refl, sym, ap, ap₂, ◌∙◌, arith}
use Rattle.std.proofs.lemmas.Bool.{false≢true}
use Rattle.std.proofs.lemmas.Bool.Decides.{nat_tests}
use Rattle.std.specs.List.{filter}
use Rattle.weighted_edges.specs.Edge.{Edge}
use Rattle.typed_tree.specs.declared.statement.ApplyEnds.{ApplyEnds}
use Rattle.typed_tree.specs.FunctionStatementTree.{FunctionTree, FunctionStatementsTree}
use Rattle.algorithm_meaning.specs.declared.contribution.Contribution.{Contribution}
use Rattle.algorithm_meaning.specs.Arithmetic.{reduced}
use Rattle.algorithm_meaning.specs.EdgeApply.{after_edges, all_give, is_end, matching, passes, with_given}
use Rattle.algorithm_meaning.specs.State.{GraphValue, StateValue}
use Rattle.algorithm_meaning.specs.Value.{entry, reduce_at}
use Rattle.algorithm_meaning.proofs.WrittenEntries.{entry_elsewhere, length_stays}
use Rattle.flat_snapshot.specs.Edge.{Ends, ends_of, weight_in, IsWithin}
use Rattle.edge_fold.specs.Between.{edges_between}
use Rattle.edge_apply.proofs.Filtered.{filter_agree}
use Rattle.runner.proofs.WrittenChanges.{count_after_entry}

count_after_given : (u : ℕ) (cs : List Contribution) (vectors : List (List ℤ)) → length (with_given u cs vectors) ≡ length vectors
count_after_given u [] vectors = refl
count_after_given u (c ∷ cs) vectors =
    count_after_given u cs (reduce_at vectors c.vector u c.reduction c.number)
    ∙ count_after_entry vectors c.vector u (reduced c.reduction (entry vectors c.vector u) c.number)

-- an apply keeps the number of vectors
pub count_after_edges : (steps : List FunctionStatementsTree) (m : StateValue) (before : List (List ℤ)) (edges : List Edge) (vectors : List (List ℤ))
    → length (after_edges steps m.sets before edges vectors) ≡ length vectors
count_after_edges steps m before [] vectors = refl
count_after_edges steps m before (edge ∷ edges) vectors =
    count_after_edges steps m before edges (with_given edge.1 (all_give steps m.sets before edge) vectors)
    ∙ count_after_given edge.1 (all_give steps m.sets before edge) vectors

rows_after_given : (u : ℕ) (cs : List Contribution) (vectors : List (List ℤ)) (x : ℕ) → length (slice_index_or (with_given u cs vectors) x []) ≡ length (slice_index_or vectors x [])
rows_after_given u [] vectors x = refl
rows_after_given u (c ∷ cs) vectors x =
    rows_after_given u cs (reduce_at vectors c.vector u c.reduction c.number) x
    ∙ length_stays vectors c.vector u (reduced c.reduction (entry vectors c.vector u) c.number) x

-- and how many entries each has
pub rows_after_edges : (steps : List FunctionStatementsTree) (m : StateValue) (before : List (List ℤ)) (edges : List Edge) (vectors : List (List ℤ)) (x : ℕ)
    → length (slice_index_or (after_edges steps m.sets before edges vectors) x []) ≡ length (slice_index_or vectors x [])
rows_after_edges steps m before [] vectors x = refl
rows_after_edges steps m before (edge ∷ edges) vectors x =
    rows_after_edges steps m before edges (with_given edge.1 (all_give steps m.sets before edge) vectors) x
    ∙ rows_after_given edge.1 (all_give steps m.sets before edge) vectors x

given_elsewhere : (u : ℕ) (cs : List Contribution) (vectors : List (List ℤ)) (x v : ℕ) → (u == v) ≡ false → entry (with_given u cs vectors) x v ≡ entry vectors x v
given_elsewhere u [] vectors x v apart = refl
given_elsewhere u (c ∷ cs) vectors x v apart =
    given_elsewhere u cs (reduce_at vectors c.vector u c.reduction c.number) x v apart
    ∙ entry_elsewhere vectors c.vector u (reduced c.reduction (entry vectors c.vector u) c.number) x v apart

one_edge : (steps : List FunctionStatementsTree) (m : StateValue) (before : List (List ℤ)) (e : Edge) (es : List Edge) (vectors : List (List ℤ)) (x v : ℕ) (b : Bool)
    → (b ≡ true → (e.1 == v) ≡ false)
    → ((now : List (List ℤ)) → entry (after_edges steps m.sets before es now) x v ≡ entry now x v)
    → entry (after_edges steps m.sets before (cond b (e ∷ es) es) vectors) x v ≡ entry vectors x v
one_edge steps m before e es vectors x v true apart others =
    others (with_given e.1 (all_give steps m.sets before e) vectors) ∙ given_elsewhere e.1 (all_give steps m.sets before e) vectors x v (apart refl)
one_edge steps m before e es vectors x v false apart others = others vectors

-- a vertex to which none of the edges leads keeps its entries
entry_beyond : (steps : List FunctionStatementsTree) (m : StateValue) (before : List (List ℤ)) (test : Edge → Bool) (edges : List Edge) (vectors : List (List ℤ)) (x v : ℕ)
    → ((e : Edge) → test e ≡ true → (e.1 == v) ≡ false) → entry (after_edges steps m.sets before (filter test edges) vectors) x v ≡ entry vectors x v
entry_beyond steps m before test [] vectors x v apart = refl
entry_beyond steps m before test (e ∷ es) vectors x v apart =
    one_edge steps m before e (filter test es) vectors x v (test e) (apart e) (λ now. entry_beyond steps m before test es now x v apart)

first_holds : (a b : Bool) → a && b ≡ true → a ≡ true
first_holds true b e = refl
first_holds false b e = e

second_holds : (a b : Bool) → a && b ≡ true → b ≡ true
second_holds true b e = e
second_holds false b e = absurd (false≢true e)

is_apart : (u v n : ℕ) → nat_lt u n ≡ true → n ≤ v → (u == v) ≡ false
is_apart u v n t h = grind (arith, nat_tests)

-- what is no vertex of the graph keeps its entries
pub entry_past : (filters : List FunctionTree) (g : GraphValue) (m : StateValue) (ends : ApplyEnds) (steps : List FunctionStatementsTree) (x v : ℕ) → g.vertices ≤ v
    → entry (after_edges steps m.sets m.vectors (matching filters g m ends) m.vectors) x v ≡ entry m.vectors x v
entry_past filters g m ends steps x v past =
    entry_beyond steps m m.vectors (λ e. is_end filters g m ends.from e.0 && is_end filters g m ends.to e.1) g.edges m.vectors x v (λ e t.
    let to = second_holds (is_end filters g m ends.from e.0) (is_end filters g m ends.to e.1) t in
    is_apart e.1 v g.vertices (first_holds (nat_lt e.1 g.vertices) (passes filters m ends.to e.1) to) past)

inside : (u n : ℕ) → u < n → nat_lt u n ≡ true
inside u n h = grind (arith, nat_tests)

-- where all edges are between vertices, those that an apply looks at are those between its ends
pub matching_between : (filters : List FunctionTree) (g : GraphValue) (m : StateValue) (ends : ApplyEnds) (es : List Edge) → es ≡ g.edges
    → ((p : Ends) (w : ℤ) → weight_in p es ≡ Some w → IsWithin g.vertices p)
    → edges_between (passes filters m ends.from) (passes filters m ends.to) es ≡ matching filters g m ends
matching_between filters g m ends es same within =
    let looked_at : Edge → Bool = λ e. is_end filters g m ends.from e.0 && is_end filters g m ends.to e.1 in
    filter_agree (λ e. passes filters m ends.from e.0 && passes filters m ends.to e.1) looked_at es (λ e w has.
    let both = within (ends_of e) w has in
    sym (ap₂ (λ (a b : Bool). (a && passes filters m ends.from e.0) && (b && passes filters m ends.to e.1)) (inside e.0 g.vertices both.0) (inside e.1 g.vertices both.1)))
    ∙ ap (λ (fs : List Edge). filter looked_at fs) same
