-- Walks over sources, and the vertices with edges.
use Rattle.std.proofs.Common.{◌≡◌, ℕ, ◌+◌, ◌<◌, ℤ, Bool, true, ◌&&◌, List, [], ◌∷◌, ◌++◌, length, take, get_or, sym, ap, ◌∙◌, append_assoc}
use Rattle.std.proofs.lemmas.List.{append-nil, map-append, take_more}
use Rattle.std.proofs.lemmas.List.Elements.{filter-append}
use Rattle.std.specs.List.{filter}
use Rattle.weighted_edges.specs.Edge.{Edge}
use Rattle.kernels.specs.FunctionStatementTree.{FunctionStatementsTree}
use Rattle.kernels.specs.State.{StateValue}
use Rattle.kernels.specs.declared.endpoint_filter.EndpointFilter.{EndpointFilter}
use Rattle.edge_fold.specs.declared.apply_context.ApplyContext.{ApplyContext}
use Rattle.edge_fold.specs.declared.scratch.Scratch.{Scratch}
use Rattle.edge_fold.specs.Ends.{IsTest}
use Rattle.edge_fold.specs.Folded.{IsContextOf, HasFolded}
use Rattle.edge_fold.specs.Contributions.{row}
use Rattle.edge_fold.proofs.Walks.{FoldsMore, HasPassed, HasWalked, InRow, folded_along, pass_done, walk_done}
use Rattle.flat_snapshot.specs.FlatEdges.{AreDegreesOf}
use Rattle.flat_snapshot.specs.Neighbours.{destinations_of}
use Rattle.vertex_sets.proofs.Ascending.{Rises}
use Rattle.edge_fold.specs.Between.{edges_between, firsts}
use Rattle.push_engine.specs.inside.Rows.{rows_to}
use Rattle.edge_apply.proofs.Listed.{degree_listed, degrees_rise, member_filtered, rises_filtered}
use Rattle.push_engine.proofs.RowFolds.{Agree, agree_on_rows, filter_row, rows_to-append, rows_to_are_edges}

-- the edges from one source to those destinations that pass
abbrev pub row_to : (to : ℕ → Bool) → ℕ → List (ℕ × ℤ) → List Edge
row_to to source es = row source (filter (λ e. to e.0) es)

pub row_in_row : (to : ℕ → Bool) (source : ℕ) → InRow (row_to to source)
row_in_row to source es fs =
    ap (row source) (filter-append (λ e. to e.0) es fs) ∙ map-append (λ e. (source, e.0, e.1)) (filter (λ e. to e.0) es) (filter (λ e. to e.0) fs)

one_row : (to : ℕ → Bool) (edges : List Edge) (u : ℕ) → rows_to to edges (u ∷ []) ≡ row_to to u (destinations_of u edges)
one_row to edges u = ap (filter (λ (e : Edge). to e.1)) (append-nil (row u (destinations_of u edges))) ∙ filter_row to u (destinations_of u edges)

pub one_source : (f : ApplyContext) (to : ℕ → Bool) (edges : List Edge) (u : ℕ) (s t : Scratch) → FoldsMore f (row_to to u (destinations_of u edges)) s t → FoldsMore f (rows_to to edges (u ∷ [])) s t
one_source f to edges u s t more m steps es are has =
    folded_along f m steps (es ++ row_to to u (destinations_of u edges)) (es ++ rows_to to edges (u ∷ [])) t (ap (λ ks. es ++ ks) (sym (one_row to edges u))) (more m steps es are has)

-- the edges between the ends
pub folded_edges : (f : ApplyContext) (m : StateValue) (steps : List FunctionStatementsTree) (from to : ℕ → Bool) (us : List ℕ) (es : List Edge) (s : Scratch) → Rises 0 us → Agree from us es
    → HasFolded f m steps (rows_to to es us) s → HasFolded f m steps (edges_between from to es) s
folded_edges f m steps from to us es s up agree has = λ x r by.
    let was = has x r by in
    record { entries = λ v h l. was.entries v h l ∙ rows_to_are_edges r x v _ from to us up es agree _; reduction = was.reduction }

pub walked_all : (f : ApplyContext) (edges : List Edge) (all left : List ℕ) (start s : Scratch) (from to : ℕ → Bool) → left ≡ [] → Rises 0 all → Agree from all edges
    → HasWalked f (rows_to to edges) all left start s
    → (m : StateValue) (steps : List FunctionStatementsTree) → IsContextOf f m steps → HasFolded f m steps [] start → HasFolded f m steps (edges_between from to edges) s
walked_all f edges all left start s from to none up agree w m steps are has =
    folded_edges f m steps from to all edges s up agree (walk_done f (rows_to to edges) all left start s none w m steps [] are has)

pub sources_agree : (edges : List Edge) (ds : List (ℕ × ℕ)) (from : ℕ → Bool) → AreDegreesOf (λ u. destinations_of u edges) ds → ((v : ℕ) → from v ≡ true) → Agree from (firsts ds) edges
sources_agree edges ds from are all = agree_on_rows from (firsts ds) edges (λ u l. degree_listed (λ u. destinations_of u edges) ds u are l ∙ sym (all u))

pub passed_all : (from : EndpointFilter) (f : ApplyContext) (to : ℕ → Bool) (edges : List Edge) (ds : List (ℕ × ℕ)) (left : List ℕ) (start s : Scratch) → left ≡ []
    → AreDegreesOf (λ u. destinations_of u edges) ds → HasPassed from f (rows_to to edges) (firsts ds) left start s
    → (m : StateValue) (steps : List FunctionStatementsTree) (test : ℕ → Bool) → IsContextOf f m steps → IsTest from m test → HasFolded f m steps [] start
    → HasFolded f m steps (edges_between test to edges) s
passed_all from f to edges ds left start s none degrees w m steps test are is has =
    let neighbours = λ (u : ℕ). destinations_of u edges in
    let us = filter test (firsts ds) in
    folded_edges f m steps test to us edges s (rises_filtered test 0 (firsts ds) (degrees_rise neighbours ds degrees))
    (agree_on_rows test us edges (λ u l. member_filtered test u (firsts ds) ∙ ap (λ (b : Bool). b && test u) (degree_listed neighbours ds u degrees l)))
    (pass_done from f (rows_to to edges) (firsts ds) left start s none w m steps test [] are is has)

-- the row of the next of some sources
pub rows_next : (to : ℕ → Bool) (edges es : List Edge) (us : List ℕ) (i : ℕ) → i < length us
    → (es ++ rows_to to edges (take i us)) ++ row_to to (get_or us i 0) (destinations_of (get_or us i 0) edges) ≡ es ++ rows_to to edges (take (i + 1) us)
rows_next to edges es us i l =
    let u = get_or us i 0 in
    append_assoc es (rows_to to edges (take i us)) (row_to to u (destinations_of u edges))
    ∙ ap (λ ks. es ++ ks) (ap (λ ks. rows_to to edges (take i us) ++ ks) (sym (one_row to edges u)) ∙ sym (rows_to-append to edges (take i us) (u ∷ []))
    ∙ ap (rows_to to edges) (sym (take_more us i 0 l)))
