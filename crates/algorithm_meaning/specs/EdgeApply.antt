-- `apply` of edge functions, and `applyModified`.
use Rattle.std.specs.Prelude.{ℕ, ℤ, Bool, true, not, ◌&&◌, nat_lt, ◌==◌, List, [], ◌∷◌, ◌++◌, map, Option, Some, None, slice_get, if◌then◌else◌, ◌≡◌}
use Rattle.std.specs.List.{filter, list_any, range_with_len, All}
use Rattle.apply_options.specs.declared.reduction.Reduction.{Reduction}
use Rattle.apply_options.specs.declared.reduction.Reduction.TheVariants as reduction
use Rattle.weighted_edges.specs.Edge.{Edge}
use Rattle.typed_tree.specs.declared.statement.ApplyEnds.{ApplyEnds}
use Rattle.typed_tree.specs.declared.statement.VertexFilter.{VertexFilter}
use Rattle.typed_tree.specs.FunctionStatementTree.{FunctionStatementsTree, FunctionTree}
use Rattle.typed_tree.specs.declared.statement.VertexFilter.TheVariants as end
use Rattle.algorithm_meaning.specs.declared.contribution.Contribution.{Contribution}
use Rattle.algorithm_meaning.specs.declared.contribution.Writing.TheVariants.{Collected}
use Rattle.algorithm_meaning.specs.declared.state.SetBinding.{SetBinding}
use Rattle.algorithm_meaning.specs.Arithmetic.{int_equal}
use Rattle.algorithm_meaning.specs.State.{GraphValue, StateValue, edge_scope}
use Rattle.algorithm_meaning.specs.Value.{entry, members_of, reduce_at}
use Rattle.algorithm_meaning.specs.Function.{first_work, after_steps, steps_of, lets_through}

-- the vertex is a member
abbrev pub is_member : ℕ → List ℕ → Bool
is_member v members = list_any (λ m. m == v) members

-- whether an end of an edge lets a vertex through, over the vectors before the apply; one that is not given lets all through
abbrev pub passes : List FunctionTree → StateValue → Option VertexFilter → ℕ → Bool
passes filters s None v = true
passes filters s (Some (end.Members slot)) v = is_member v (members_of (slice_get s.sets slot.index))
passes filters s (Some (end.Function function)) v = lets_through filters function s.sets s.vectors v

-- whether the number is a vertex of the graph that the end lets through
abbrev pub is_end : List FunctionTree → GraphValue → StateValue → Option VertexFilter → ℕ → Bool
is_end filters g s end v = nat_lt v g.vertices && passes filters s end v

-- the edges that an apply looks at, in their order
abbrev pub matching : List FunctionTree → GraphValue → StateValue → ApplyEnds → List Edge
matching filters g s ends = filter (λ e. is_end filters g s ends.from e.0 && is_end filters g s ends.to e.1) g.edges

-- what an edge function gives the destination of an edge; it reads these vectors only
abbrev pub gives : FunctionStatementsTree → List SetBinding → List (List ℤ) → Edge → List Contribution
gives steps sets before edge = (after_steps Collected sets steps (first_work before (edge_scope edge))).given

-- what several functions give
abbrev pub all_give : List FunctionStatementsTree → List SetBinding → List (List ℤ) → Edge → List Contribution
all_give [] sets before edge = []
all_give (steps ∷ more) sets before edge = gives steps sets before edge ++ all_give more sets before edge

-- the vectors after a vertex got this
abbrev pub with_given : ℕ → List Contribution → List (List ℤ) → List (List ℤ)
with_given v [] vectors = vectors
with_given v (c ∷ cs) vectors = with_given v cs (reduce_at vectors c.vector v c.reduction c.number)

-- the vectors after these edges; the functions read the vectors before the apply
abbrev pub after_edges : List FunctionStatementsTree → List SetBinding → (before : List (List ℤ)) → List Edge → List (List ℤ) → List (List ℤ)
after_edges functions sets before [] vectors = vectors
after_edges functions sets before (edge ∷ edges) vectors =
    after_edges functions sets before edges (with_given edge.1 (all_give functions sets before edge) vectors)

-- the vectors after the functions at these indices were applied to the edges between the ends
abbrev pub after_edge_apply : (filters functions : List FunctionTree) → GraphValue → ApplyEnds → List ℕ → StateValue → List (List ℤ)
after_edge_apply filters functions g ends indices s =
    after_edges (map (λ index. steps_of (slice_get functions index)) indices) s.sets s.vectors (matching filters g s ends) s.vectors

-- the entry of a vector at a vertex differs
abbrev pub is_modified : (vector : ℕ) → (before after : List (List ℤ)) → ℕ → Bool
is_modified vector before after v = not (int_equal (entry before vector v) (entry after vector v))

-- the vertices where it does, ascending
abbrev pub modified : ℕ → (vector : ℕ) → (before after : List (List ℤ)) → List ℕ
modified vertices vector before after = filter (is_modified vector before after) (range_with_len 0 vertices)

-- of what a vertex is given, that for one vector
abbrev pub for_vector : ℕ → List Contribution → List Contribution
for_vector vector [] = []
for_vector vector (c ∷ cs) = if c.vector == vector then c ∷ for_vector vector cs else for_vector vector cs

-- for this vector the functions give numbers by one reduction alone, on any edge
abbrev pub IsGivenBy : Reduction → (vector : ℕ) → List FunctionStatementsTree → List SetBinding → (before : List (List ℤ)) → Type 0
IsGivenBy r vector functions sets before =
    (edge : Edge) → All (λ c. c.reduction ≡ r) (for_vector vector (all_give functions sets before edge))
