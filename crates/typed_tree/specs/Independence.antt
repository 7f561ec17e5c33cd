-- The vectors that functions read and write, which two applies have the same sets, and which are independent.
use Rattle.std.specs.Prelude.{ℕ, Bool, true, false, not, ◌&&◌, ◌||◌, nat_eq, List, [], Option, Some, None, slice_get, ◌∷◌, ◌==◌}
use Rattle.std.specs.Str.{bytes_eq}
use Rattle.std.specs.List.{list_any, list_all}
use Rattle.typed_tree.specs.declared.statement.VertexFilter.{VertexFilter}
use Rattle.typed_tree.specs.ProgramTree.{ProgramTree}
use Rattle.typed_tree.specs.declared.apply.StatementApply.{StatementApply}
use Rattle.typed_tree.specs.declared.apply.StatementApply.TheVariants.{Vertices, Edges}
use Rattle.typed_tree.specs.declared.accesses.Access.{Access}
use Rattle.typed_tree.specs.declared.accesses.Access.TheVariants.{ReadAtVertex, ReadAtIndex, ReadSet, Write}
use Rattle.typed_tree.specs.Fold.{Fold, gathered, function_fold, end_fold}
use Rattle.typed_tree.specs.FunctionStatementTree.{FunctionTree}
use Rattle.typed_tree.specs.declared.statement.VertexFilter.TheVariants as end

-- the name at an index; one that is not there is empty
abbrev pub or_empty : Option (List ℕ) → List ℕ
or_empty None = []
or_empty (Some name) = name

abbrev pub name_at : List (List ℕ) → ℕ → List ℕ
name_at names index = or_empty (slice_get names index)

-- the names at two indices are the same
abbrev pub are_same : List (List ℕ) → ℕ → ℕ → Bool
are_same names a b = bytes_eq (name_at names a) (name_at names b)

-- two ends are the same set or the same filter, or none is given
abbrev pub are_same_ends : List (List ℕ) → Option VertexFilter → Option VertexFilter → Bool
are_same_ends names None None = true
are_same_ends names (Some (end.Members a)) (Some (end.Members b)) = are_same names a.name b.name
are_same_ends names (Some (end.Function a)) (Some (end.Function b)) = nat_eq a b
are_same_ends names _ _ = false

-- both apply to vertices or both to edges, of the same sets and filters
abbrev pub have_same_sets : List (List ℕ) → StatementApply → StatementApply → Bool
have_same_sets names (Vertices a f) (Vertices b g) = are_same names a.name b.name
have_same_sets names (Edges a f r) (Edges b g s) = are_same_ends names a.from b.from && are_same_ends names a.to b.to
have_same_sets names _ _ = false

-- an end is the set of this name
abbrev pub is_end_of_name : List (List ℕ) → Option ℕ → Option VertexFilter → Bool
is_end_of_name names (Some name) (Some (end.Members set)) = are_same names name set.name
is_end_of_name names _ _ = false

-- the vector of which an entry is read or written
abbrev pub vector_of : Access → List ℕ
vector_of (ReadAtVertex vector) = vector ∷ []
vector_of (ReadAtIndex vector) = vector ∷ []
vector_of (ReadSet index) = []
vector_of (Write vector) = vector ∷ []

-- the vectors that are read or written, in the order of the text
abbrev pub used : Fold (List ℕ)
used = gathered vector_of

abbrev pub function_uses : List FunctionTree → ℕ → List ℕ
function_uses functions index = function_fold used functions index

-- those that are written alone, as no expression writes
abbrev pub written : Fold (List ℕ)
written = record used { expression = λ reads. [] }

abbrev pub function_writes : List FunctionTree → ℕ → List ℕ
function_writes functions index = function_fold written functions index

-- the vectors that the filter of an end reads; a vertex set reads none
abbrev pub end_reads : List FunctionTree → Option VertexFilter → List ℕ
end_reads filters end = end_fold used filters end

-- the vector is none of these
abbrev pub is_none_of : ℕ → List ℕ → Bool
is_none_of vector vectors = not (list_any (λ v. v == vector) vectors)

-- none of the vectors is one of the others
abbrev pub are_apart : List ℕ → List ℕ → Bool
are_apart vectors others = list_all (λ v. is_none_of v others) vectors

-- no vector that the first function writes is read or written by the second, or read by a filter of the second's ends, and
-- no end of the second is the set that the first one's changes go to; two vertex applies are independent
abbrev pub are_independent : ProgramTree → StatementApply → StatementApply → Bool
are_independent p (Edges a f r) (Edges b g s) =
    not (is_end_of_name p.names r b.from || is_end_of_name p.names r b.to)
    && (are_apart (function_uses p.edge_functions g) (function_writes p.edge_functions f)
    && (are_apart (end_reads p.filters b.from) (function_writes p.edge_functions f)
    && are_apart (end_reads p.filters b.to) (function_writes p.edge_functions f)))
are_independent p _ _ = true
