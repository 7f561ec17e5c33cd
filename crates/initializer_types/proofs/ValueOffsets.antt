-- Each fault of an initial or assigned value stands at one of its names, or where its statement or declaration does.
use Rattle.std.specs.Prelude.{IfSome}
use Rattle.std.proofs.Common.{ℕ, zero, suc, ℤ, pos, negsuc, Bool, true, false, ◌||◌, List, [], Option, Some, None}
use Rattle.syntax.specs.Terminals.{Terminal, Identifier}
use Rattle.syntax.specs.SourceTrees.{ExpressionTree, InitialTree}
use Rattle.syntax.specs.ExpressionSpelling.{expression_terminals}
use Rattle.syntax.specs.Offsets.{StandWhere, StandsWhere}
use Rattle.syntax.specs.SourceTrees as source
use Rattle.syntax.specs.SourceSpelling.{initial_before}
use Rattle.syntax.proofs.Behind.{all_left, ends_after}
use Rattle.syntax.proofs.Offsets.{from_stands, to_stands}
use Rattle.typed_tree.specs.declared.expression.VarRef.{VarRef}
use Rattle.typed_tree.specs.declared.statement.ApplyEnds.{ApplyEnds}
use Rattle.typed_tree.specs.IntExpressionTree.{IntExpressionTree, Parameter}
use Rattle.expression_types.specs.declared.fault.TypeRule.TheVariants as rule
use Rattle.expression_types.specs.declared.scope.Entity.{Entity}
use Rattle.expression_types.specs.Expression.{used_name, value_of}
use Rattle.expression_types.specs.Faults.{fault_at, sure}
use Rattle.expression_types.specs.ScopeTree.{ScopeTree}
use Rattle.expression_types.specs.ValueTree.{ValueTree, Integer, Condition, Vertex, Set, ErrorValue, condition_reads_entry, entity_set, reads_entry}
use Rattle.expression_types.proofs.FaultOffsets.{FaultsStand, both_stand, if_stand, used_stands, value_stands}
use Rattle.initializer_types.specs.Checker.{CheckerTree, condition_wanted, as_index, integer_wanted, as_members, condition_in, integer_in, no_index, unread}
use Rattle.initializer_types.specs.Initial.{ApplyEndTree, InitializerTree, Typed, Members, Loaded, Degrees, ErrorInitializer, initializer_condition, edge_function, apply_end_of, ends_given, filter_function}
use Rattle.initializer_types.specs.Initial.{filtered_set, filtered_by, initializer_of, initializer_integer, is_edges, names_error, is_error_end, is_wrong, loaded, initializer_members, initial_modified}
use Rattle.initializer_types.specs.Initial.{modified_by, new_set, of_edges, vector_of, writes_vector, lacks_weights}

-- values of the type that their place wants
pub as_integer_stands : (P : ℕ → Type 0) (at : ℕ) (v : ValueTree) → P at → FaultsStand P (integer_wanted at v)
as_integer_stands P at (Integer e) here = tt
as_integer_stands P at (Condition c) here = (here, tt)
as_integer_stands P at (Vertex p) here = tt
as_integer_stands P at (Set slot) here = (here, tt)
as_integer_stands P at ErrorValue here = tt

as_condition_stands : (P : ℕ → Type 0) (at : ℕ) (v : ValueTree) → P at → FaultsStand P (condition_wanted at v)
as_condition_stands P at (Integer e) here = (here, tt)
as_condition_stands P at (Condition c) here = tt
as_condition_stands P at (Vertex p) here = (here, tt)
as_condition_stands P at (Set slot) here = (here, tt)
as_condition_stands P at ErrorValue here = tt

as_members_stands : (P : ℕ → Type 0) (at : ℕ) (v : ValueTree) → P at → FaultsStand P (as_members at v)
as_members_stands P at (Integer e) here = (here, tt)
as_members_stands P at (Condition c) here = (here, tt)
as_members_stands P at (Vertex p) here = (here, tt)
as_members_stands P at (Set slot) here = tt
as_members_stands P at ErrorValue here = tt

pub integer_in_stands : (P : ℕ → Type 0) (scope : ScopeTree) (at : ℕ) (e : ExpressionTree) → P at → StandWhere P (expression_terminals e) → FaultsStand P (integer_in scope at e)
integer_in_stands P scope at e here all =
    let v = value_of scope at e in both_stand P v.faults _ (value_stands P scope at e here all) (as_integer_stands P at v.value here)

pub condition_in_stands : (P : ℕ → Type 0) (scope : ScopeTree) (at : ℕ) (e : ExpressionTree) → P at → StandWhere P (expression_terminals e) → FaultsStand P (condition_in scope at e)
condition_in_stands P scope at e here all =
    let v = value_of scope at e in both_stand P v.faults _ (value_stands P scope at e here all) (as_condition_stands P at v.value here)

unread_stands : (P : ℕ → Type 0) (at : ℕ) (e : IntExpressionTree) → P at → FaultsStand P (unread at e)
unread_stands P at e here = if_stand P (reads_entry e) (fault_at at rule.WrongIndex None) (sure (Some e)) (here, tt) tt

no_index_stands : (P : ℕ → Type 0) (at : ℕ) (b : Bool) → P at → FaultsStand P (no_index at b)
no_index_stands P at true here = (here, (here, tt))
no_index_stands P at false here = (here, tt)

pub as_index_stands : (P : ℕ → Type 0) (at : ℕ) (v : ValueTree) → P at → FaultsStand P (as_index at v)
as_index_stands P at (Integer e) here = unread_stands P at e here
as_index_stands P at (Condition c) here = no_index_stands P at (condition_reads_entry c) here
as_index_stands P at (Vertex p) here = unread_stands P at (Parameter p) here
as_index_stands P at (Set slot) here = (here, tt)
as_index_stands P at ErrorValue here = tt

-- an end of an apply
pub end_stands : (P : ℕ → Type 0) (scope : ScopeTree) (end : Option Identifier) → IfSome end (λ name. P name.at) → FaultsStand P (apply_end_of scope end)
end_stands P scope None there = tt
end_stands P scope (Some name) there =
    let e = used_name scope name in both_stand P e.faults [] (used_stands P scope name there) tt

-- values that are no expressions
of_edges_stands : (P : ℕ → Type 0) (at : ℕ) (x : InitializerTree) (e : Entity) → P at → FaultsStand P (of_edges at x e)
of_edges_stands P at x e here =
    if_stand P (names_error e) _ _ tt (if_stand P (is_edges e) (sure x) (fault_at at rule.WrongType ErrorInitializer) tt (here, tt))

filtered_by_stands : (P : ℕ → Type 0) (at : ℕ) (set : Option VarRef) (index : Option ℕ) → P at → FaultsStand P (filtered_by at set index)
filtered_by_stands P at None index here = (here, tt)
filtered_by_stands P at (Some slot) None here = (here, tt)
filtered_by_stands P at (Some slot) (Some index) here = tt

filtered_stands : (P : ℕ → Type 0) (at : ℕ) (s f : Entity) → P at → FaultsStand P (filtered_set at s f)
filtered_stands P at s f here = if_stand P (names_error s || names_error f) _ _ tt (filtered_by_stands P at (entity_set s) (filter_function f) here)

modified_by_stands : (P : ℕ → Type 0) (c : CheckerTree) (at : ℕ) (ends : ApplyEnds) (function vector : Option ℕ) → P at → FaultsStand P (modified_by c at ends function vector)
modified_by_stands P c at ends None vector here = (here, tt)
modified_by_stands P c at ends (Some function) None here = (here, tt)
modified_by_stands P c at ends (Some function) (Some vector) here = if_stand P (writes_vector c.written function vector) _ _ tt (here, tt)

modified_stands : (P : ℕ → Type 0) (c : CheckerTree) (at : ℕ) (edges : Entity) (a b : ApplyEndTree) (f v : Entity) → P at → FaultsStand P (initial_modified c at edges a b f v)
modified_stands P c at edges a b f v here =
    if_stand P (names_error edges || is_error_end a || is_error_end b || names_error f || names_error v) _ _ tt
    (if_stand P (is_edges edges) _ _
    (if_stand P (is_wrong a || is_wrong b || lacks_weights edges f) _ _ (here, tt) (modified_by_stands P c at (ends_given a b) (edge_function f) (vector_of v) here))
    (here, tt))

new_set_stands : (P : ℕ → Type 0) (at : ℕ) (n : ℤ) → P at → FaultsStand P (new_set at n)
new_set_stands P at (pos zero) here = tt
new_set_stands P at (pos (suc n)) here = (here, tt)
new_set_stands P at (negsuc n) here = (here, tt)

loaded_stands : (P : ℕ → Type 0) (at : ℕ) (n : ℤ) → P at → FaultsStand P (loaded at n)
loaded_stands P at (pos zero) here = (here, tt)
loaded_stands P at (pos (suc zero)) here = tt
loaded_stands P at (pos (suc (suc n))) here = (here, tt)
loaded_stands P at (negsuc n) here = (here, tt)

pub initializer_stands : (P : ℕ → Type 0) (c : CheckerTree) (at : ℕ) (initial : InitialTree) (rest : List Terminal) → P at → StandWhere P (initial_before initial rest)
    → FaultsStand P (initializer_of c at initial)
initializer_stands P c at (source.NewSet size) rest here all = new_set_stands P at size here
initializer_stands P c at (source.Load argument) rest here all = loaded_stands P at argument here
initializer_stands P c at (source.Vertices edges) rest here all =
    let e = used_name c.scope edges in both_stand P e.faults _ (used_stands P c.scope edges all.0) (of_edges_stands P at _ e.value here)
initializer_stands P c at (source.OutDegrees edges) rest here all =
    let e = used_name c.scope edges in both_stand P e.faults _ (used_stands P c.scope edges all.0) (of_edges_stands P at _ e.value here)
initializer_stands P c at (source.Filter set test) rest here all =
    let s = used_name c.scope set in
    let f = used_name c.scope test in
    both_stand P s.faults _ (used_stands P c.scope set all.0)
    (both_stand P f.faults _ (used_stands P c.scope test all.1.1.1.1.0) (filtered_stands P at s.value f.value here))
initializer_stands P c at (source.ApplyModified edges ends function vector) rest here all =
    let e = used_name c.scope edges in
    let a = apply_end_of c.scope ends.from in
    let b = apply_end_of c.scope ends.to in
    let f = used_name c.scope function in
    let v = used_name c.scope vector in
    let names = ends_after (StandsWhere P) ends _ all.1 in
    both_stand P e.faults _ (used_stands P c.scope edges all.0)
    (both_stand P a.faults _ (end_stands P c.scope ends.from (from_stands P ends _ all.1))
    (both_stand P b.faults _ (end_stands P c.scope ends.to (to_stands P ends _ all.1))
    (both_stand P f.faults _ (used_stands P c.scope function names.1.1.1.0)
    (both_stand P v.faults _ (used_stands P c.scope vector names.1.1.1.1.1.0)
    (modified_stands P c at e.value a.value b.value f.value v.value here)))))
initializer_stands P c at (source.Value e) rest here all =
    let v = value_of c.scope at e in both_stand P v.faults [] (value_stands P c.scope at e here (all_left (StandsWhere P) (expression_terminals e) rest all)) tt

-- what a variable gets
pub initializer_integer_stands : (P : ℕ → Type 0) (at : ℕ) (initializer : InitializerTree) → P at → FaultsStand P (initializer_integer at initializer)
initializer_integer_stands P at (Typed v) here = as_integer_stands P at v here
initializer_integer_stands P at (Members s) here = (here, tt)
initializer_integer_stands P at Loaded here = (here, tt)
initializer_integer_stands P at Degrees here = (here, tt)
initializer_integer_stands P at ErrorInitializer here = tt

pub initializer_condition_stands : (P : ℕ → Type 0) (at : ℕ) (initializer : InitializerTree) → P at → FaultsStand P (initializer_condition at initializer)
initializer_condition_stands P at (Typed v) here = as_condition_stands P at v here
initializer_condition_stands P at (Members s) here = (here, tt)
initializer_condition_stands P at Loaded here = (here, tt)
initializer_condition_stands P at Degrees here = (here, tt)
initializer_condition_stands P at ErrorInitializer here = tt

pub initializer_members_stands : (P : ℕ → Type 0) (at : ℕ) (initializer : InitializerTree) → P at → FaultsStand P (initializer_members at initializer)
initializer_members_stands P at (Typed v) here = as_members_stands P at v here
initializer_members_stands P at (Members s) here = tt
initializer_members_stands P at Loaded here = (here, tt)
initializer_members_stands P at Degrees here = (here, tt)
initializer_members_stands P at ErrorInitializer here = tt
