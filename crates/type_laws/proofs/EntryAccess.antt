-- In a source without a fault functions of users read and write vectors at their own vertices, and no index of main has an entry in it.
use Rattle.std.proofs.Common.{◌≡◌, refl, sym, subst, ap, arith, ℕ, suc, Bool, true, false, ◌&&◌, if◌then◌else◌, List, [], ◌∷◌, ◌++◌, Option, Some, None, inl, inr}
use Rattle.std.specs.List.{AllByRecursion, Contains}
use Rattle.syntax.specs.Terminals.{Identifier}
use Rattle.syntax.specs.SourceTrees.{ExpressionTree, InitialTree, ParameterTree, DeclarationTree, SourceTree}
use Rattle.syntax.specs.SourceTrees as source
use Rattle.typed_tree.specs.declared.expression.Endpoint.{Endpoint}
use Rattle.typed_tree.specs.declared.expression.Endpoint.TheVariants as endpoint
use Rattle.typed_tree.specs.IntExpressionTree.{Entry, IntExpressionTree}
use Rattle.typed_tree.specs.BlockTree.{BlockTree, Empty}
use Rattle.typed_tree.specs.FunctionStatementTree.{FunctionStatementsTree, NoStep}
use Rattle.expression_types.specs.declared.fault.TypeRule.TheVariants as rule
use Rattle.expression_types.specs.declared.scope.Entity.TheVariants as entity
use Rattle.expression_types.specs.declared.scope.Inside.{Inside}
use Rattle.expression_types.specs.declared.scope.Inside.TheVariants as inside
use Rattle.expression_types.specs.Expression.{index_lacks_value, index_value, no_vertex, used_name, value_of, vector_index}
use Rattle.expression_types.specs.Faults.{WithFaults, fault_at, sure}
use Rattle.expression_types.specs.Operators.{entry_value, function_entry, main_entry}
use Rattle.expression_types.specs.ScopeTree.{ScopeTree}
use Rattle.expression_types.specs.ValueTree.{ValueTree, Integer, Condition, Vertex, Set, ErrorValue, condition_reads_entry, reads_entry}
use Rattle.types.specs.Block.{action_typed, then_statement, closed, statements_typed}
use Rattle.initializer_types.specs.Checker.{CheckerTree, counted, declared_in, integer_slot, with_label, restarted, as_index, condition_in, integer_in, no_index}
use Rattle.initializer_types.specs.DeclarationForms.{FunctionKindTree, MainKind, EdgeKind, VertexKind, FilterKind, NoKind, is_bool_type, is_vertex_type, kind_of, takes_nothing, is_int_type}
use Rattle.types.specs.Declaration.{DeclaredTree, declaration_typed, declarations_typed, inside_of, kind_fits, main_declared, opened, steps_declared, takes_weight}
use Rattle.type_laws.specs.EntryAccess.{AccessesEntriesWell, AccessesOwnVertices, ActionAccesses, BlockAccesses, ExpressionReadsAt, HasNoEntry, InitialReadsAt, IsNameAmong}
use Rattle.initializer_types.specs.Initial.{initializer_of}
use Rattle.types.specs.Program.{no_declarations, program_of, set_count}
use Rattle.types.specs.Statement.{add_vertex, assign, print, reduce, reduce_entry, set_entry}
use Rattle.types.specs.Step.{assign_step, at_own, may_reduce, may_set, own_vertex, reduce_step, same_endpoint, set_entry_step, step_after, step_typed, steps_after, steps_typed, written_at}
use Rattle.type_laws.proofs.Booleans.{both_true}
use Rattle.type_laws.proofs.ClearValues.{IsClear, condition_index_is_error}
use Rattle.type_laws.proofs.EachDeclaration.{each_declaration, main_is_declared, user_declared}
use Rattle.type_laws.proofs.EntryReads.{Reads, expression_reads, index_clear}
use Rattle.type_laws.proofs.Faultless.{no_left, no_right, not_empty}
use Rattle.type_laws.proofs.KnownDeclarations.{AllKnown, ParametersFit, ResultFits, declaration_known, opened_known}
use Rattle.type_laws.proofs.KnownScopes.{IsKnown, Vertices, action_known, declared_known, labelled_scope, nowhere, step_known}
use Rattle.type_laws.proofs.MainFunction.{MainTakesNothing, mains_take_nothing}
use Rattle.type_laws.proofs.PlainIndexes.{IsPlain, expression_plain}
use Rattle.type_laws.proofs.VertexNames.{IsVertexSo, index_is_name}

-- where an expression of a body may read, and a statement may write
pub record Body (At : Vertices) (i : Inside) (Read Write : ExpressionTree → Type 0) : Type 0 where
  pub reads : (scope : ScopeTree) (at : ℕ) → IsKnown At i scope → Reads At i Read scope at
  pub writes : (scope : ScopeTree) (at : ℕ) (index : ExpressionTree) → IsKnown At i scope → (index_value scope at index).faults ≡ []
      → (written_at at (own_vertex scope.inside) (index_value scope at index).value).faults ≡ [] → Write index

initializer_reads : {At : Vertices} {i : Inside} {Index : ExpressionTree → Type 0} (c : CheckerTree) (at : ℕ) → Reads At i Index c.scope at → (initial : InitialTree)
    → (initializer_of c at initial).faults ≡ [] → InitialReadsAt Index initial
initializer_reads c at r (source.NewSet size) none = tt
initializer_reads c at r (source.Load argument) none = tt
initializer_reads c at r (source.Vertices edges) none = tt
initializer_reads c at r (source.OutDegrees edges) none = tt
initializer_reads c at r (source.Filter s f) none = tt
initializer_reads c at r (source.ApplyModified edges ends f v) none = tt
initializer_reads c at r (source.Value e) none = (expression_reads c.scope at r e (no_left (value_of c.scope at e).faults [] none)).0

integer_reads : {At : Vertices} {i : Inside} {Index : ExpressionTree → Type 0} (scope : ScopeTree) (at : ℕ) → Reads At i Index scope at → (e : ExpressionTree)
    → (integer_in scope at e).faults ≡ [] → ExpressionReadsAt Index e
integer_reads scope at r e none = (expression_reads scope at r e (no_left (value_of scope at e).faults _ none)).0

condition_reads : {At : Vertices} {i : Inside} {Index : ExpressionTree → Type 0} (scope : ScopeTree) (at : ℕ) → Reads At i Index scope at → (e : ExpressionTree)
    → (condition_in scope at e).faults ≡ [] → ExpressionReadsAt Index e
condition_reads scope at r e none = (expression_reads scope at r e (no_left (value_of scope at e).faults _ none)).0

-- statements of functions
mutual
  step_accesses : {At : Vertices} {i : Inside} {Read Write : ExpressionTree → Type 0} → Body At i Read Write → (c : CheckerTree) (action : source.StatementKindTree) → IsKnown At i c.scope
      → (step_typed c action).faults ≡ [] → ActionAccesses Read Write action
  step_accesses body c (source.Declare at x initial) known none =
      initializer_reads c at (body.reads c.scope at known) initial (no_left (initializer_of c at initial).faults _ none)
  step_accesses body c (source.While at test inner) known none = absurd (not_empty _ _ none)
  step_accesses body c (source.For at name first limit inner) known none = absurd (not_empty _ _ none)
  step_accesses body c (source.If at test inner) known none =
      let t = condition_in c.scope at test in
      let b = steps_typed c NoStep inner in (
        condition_reads c.scope at (body.reads c.scope at known) test (no_left t.faults _ none),
        steps_access body c NoStep inner known (no_left b.faults [] (no_right t.faults _ none)),
      )
  step_accesses body c (source.IfElse at test inner otherwise) known none =
      let t = condition_in c.scope at test in
      let b = steps_typed c NoStep inner in
      let d = steps_after c b.value.1 in
      let o = steps_typed d NoStep otherwise in
      let both = no_right t.faults (b.faults ++ (o.faults ++ [])) none in (
        condition_reads c.scope at (body.reads c.scope at known) test (no_left t.faults _ none),
        steps_access body c NoStep inner known (no_left b.faults (o.faults ++ []) both),
        steps_access body d NoStep otherwise known (no_left o.faults [] (no_right b.faults (o.faults ++ []) both)),
      )
  step_accesses body c (source.Print at e) known none = absurd (not_empty _ _ none)
  step_accesses body c (source.Assign name initial) known none =
      let all = no_left (assign_step c name.at name initial).faults [] none in
      initializer_reads c name.at (body.reads c.scope name.at known) initial (no_left (initializer_of c name.at initial).faults _ (no_right (used_name c.scope name).faults _ all))
  step_accesses body c (source.Reduce name by e) known none =
      let all = no_left (reduce_step c.scope name.at name by e).faults [] none in
      (expression_reads c.scope name.at (body.reads c.scope name.at known) e (no_left (value_of c.scope name.at e).faults _ (no_right (used_name c.scope name).faults _ all))).0
  step_accesses body c (source.SetEntry vector subscript e) known none =
      let index = vector_index c.scope vector.at vector in
      let v = index_value c.scope vector.at subscript in
      let w = written_at vector.at (own_vertex c.scope.inside) v.value in
      let all = no_right (may_set vector.at c.scope.inside).faults _ (no_left (set_entry_step c.scope vector.at vector subscript e).faults [] none) in
      let after_vector = no_right index.faults _ all in
      let behind_index = no_right v.faults _ after_vector in (
        body.writes c.scope vector.at subscript known (no_left v.faults _ after_vector) (no_left w.faults _ behind_index),
        integer_reads c.scope vector.at (body.reads c.scope vector.at known) e (no_left (integer_in c.scope vector.at e).faults _ (no_right w.faults _ behind_index)),
      )
  step_accesses body c (source.ReduceEntry vector subscript by e) known none =
      let index = vector_index c.scope vector.at vector in
      let v = index_value c.scope vector.at subscript in
      let w = written_at vector.at (own_vertex c.scope.inside) v.value in
      let after_vector = no_right (may_reduce vector.at c.scope.inside index.value by c.writes).faults _ (no_right index.faults _ none) in
      let behind_index = no_right v.faults _ after_vector in (
        body.writes c.scope vector.at subscript known (no_left v.faults _ after_vector) (no_left w.faults _ behind_index),
        integer_reads c.scope vector.at (body.reads c.scope vector.at known) e (no_left (integer_in c.scope vector.at e).faults _ (no_right w.faults _ behind_index)),
      )
  step_accesses body c (source.AddVertex set e) known none = absurd (not_empty _ _ none)
  step_accesses body c (source.Apply target ends function) known none = absurd (not_empty _ _ none)

  steps_access : {At : Vertices} {i : Inside} {Read Write : ExpressionTree → Type 0} → Body At i Read Write → (c : CheckerTree) (so_far : FunctionStatementsTree) (block : source.BlockTree)
      → IsKnown At i c.scope → (steps_typed c so_far block).faults ≡ [] → BlockAccesses Read Write block
  steps_access body c so_far source.Empty known none = tt
  steps_access {At = At} {i = i} body c so_far (source.Then label action others) known none =
      let l = with_label c label in
      let s = step_typed l.value.1 action in
      let rest = steps_typed s.value.1 (step_after so_far s.value.0) others in
      let both = no_right l.faults (s.faults ++ rest.faults) none in
      let here = subst (λ scope. IsKnown At i scope) (sym (labelled_scope c label)) known in
      let clear = no_left s.faults rest.faults both in (
        step_accesses body l.value.1 action here clear,
        steps_access body s.value.1 (step_after so_far s.value.0) others (step_known At i l.value.1 action here clear) (no_right s.faults rest.faults both),
      )

-- an index of main
if_plain : (b : Bool) (at vector : ℕ) (e : IntExpressionTree) → (if b then fault_at at rule.WrongIndex ErrorValue else sure (Integer (Entry vector e))).faults ≡ [] → b ≡ false
if_plain true at vector e none = absurd (not_empty _ _ none)
if_plain false at vector e none = refl

read_index_is_plain : (at vector : ℕ) (v : ValueTree) → IsClear v → (main_entry at vector v).faults ≡ [] → IsPlain v
read_index_is_plain at vector (Integer e) clear none = if_plain (reads_entry e) at vector e none
read_index_is_plain at vector (Condition c) clear none = absurd (condition_index_is_error at (condition_reads_entry c) none)
read_index_is_plain at vector (Vertex p) clear none = tt
read_index_is_plain at vector (Set slot) clear none = tt
read_index_is_plain at vector ErrorValue clear none = clear

if_unread : (b : Bool) (at : ℕ) (e : IntExpressionTree) → (if b then fault_at at rule.WrongIndex None else sure (Some e)).faults ≡ [] → b ≡ false
if_unread true at e none = absurd (not_empty _ _ none)
if_unread false at e none = refl

no_condition_index : (at : ℕ) (b : Bool) → (no_index at b).faults ≡ [] → ⊥
no_condition_index at true none = not_empty _ _ none
no_condition_index at false none = not_empty _ _ none

written_index_is_plain : (at : ℕ) (v : ValueTree) → IsClear v → (as_index at v).faults ≡ [] → IsPlain v
written_index_is_plain at (Integer e) clear none = if_unread (reads_entry e) at e none
written_index_is_plain at (Condition c) clear none = absurd (no_condition_index at (condition_reads_entry c) none)
written_index_is_plain at (Vertex p) clear none = tt
written_index_is_plain at (Set slot) clear none = tt
written_index_is_plain at ErrorValue clear none = clear

-- an index of main is any expression
main_index : (scope : ScopeTree) (at : ℕ) (index : ExpressionTree) → scope.inside ≡ inside.Main → index_value scope at index ≡ value_of scope at index
main_index scope at index main = ap (λ i. if index_lacks_value i scope index then sure no_vertex else value_of scope at index) main

pub main_reads : (scope : ScopeTree) (at : ℕ) → IsKnown nowhere inside.Main scope → Reads nowhere inside.Main HasNoEntry scope at
main_reads scope at known = record {
  known = known;
  entry = λ vector index sound clear none. expression_plain scope at index
      (subst (λ (m : WithFaults ValueTree). IsPlain m.value) (main_index scope at index known.0) (read_index_is_plain at vector (index_value scope at index).value clear
      (subst (λ i. (entry_value i at (Some vector) (index_value scope at index).value).faults ≡ []) known.0 none)));
}

main_writes : (scope : ScopeTree) (at : ℕ) (index : ExpressionTree) → IsKnown nowhere inside.Main scope → (value_of scope at index).faults ≡ []
    → (as_index at (value_of scope at index).value).faults ≡ [] → HasNoEntry index
main_writes scope at index known sound none =
    expression_plain scope at index (written_index_is_plain at (value_of scope at index).value (expression_reads scope at (main_reads scope at known) index sound).1 none)

-- statements of main
mutual
  action_accesses : (c : CheckerTree) (action : source.StatementKindTree) → IsKnown nowhere inside.Main c.scope → (action_typed c action).faults ≡ []
      → ActionAccesses HasNoEntry HasNoEntry action
  action_accesses c (source.Declare at x initial) known none = initializer_reads c at (main_reads c.scope at known) initial (no_left (initializer_of c at initial).faults _ none)
  action_accesses c (source.While at test body) known none =
      let t = condition_in c.scope at test in
      let b = statements_typed c Empty body in (
        condition_reads c.scope at (main_reads c.scope at known) test (no_left t.faults _ none),
        statements_access c Empty body known (no_left b.faults [] (no_right t.faults _ none)),
      )
  action_accesses c (source.For at name first limit body) known none =
      let e = entity.LoopVariable (integer_slot c) in
      let a = integer_in c.scope at first in
      let z = integer_in c.scope at limit in
      let d = declared_in c name e in
      let b = statements_typed d.value Empty body in
      let bounds = no_right a.faults _ none in
      let both = no_right z.faults (d.faults ++ (b.faults ++ [])) bounds in
      let inner = declared_known nowhere inside.Main c name e known tt (no_left d.faults (b.faults ++ []) both) in (
        integer_reads c.scope at (main_reads c.scope at known) first (no_left a.faults _ none),
        integer_reads c.scope at (main_reads c.scope at known) limit (no_left z.faults _ bounds),
        statements_access d.value Empty body inner (no_left b.faults [] (no_right d.faults (b.faults ++ []) both)),
      )
  action_accesses c (source.If at test body) known none =
      let t = condition_in c.scope at test in
      let b = statements_typed c Empty body in (
        condition_reads c.scope at (main_reads c.scope at known) test (no_left t.faults _ none),
        statements_access c Empty body known (no_left b.faults [] (no_right t.faults _ none)),
      )
  action_accesses c (source.IfElse at test body otherwise) known none =
      let t = condition_in c.scope at test in
      let b = statements_typed c Empty body in
      let d = closed c b.value.1 in
      let o = statements_typed d Empty otherwise in
      let both = no_right t.faults (b.faults ++ (o.faults ++ [])) none in (
        condition_reads c.scope at (main_reads c.scope at known) test (no_left t.faults _ none),
        statements_access c Empty body known (no_left b.faults (o.faults ++ []) both),
        statements_access d Empty otherwise known (no_left o.faults [] (no_right b.faults (o.faults ++ []) both)),
      )
  action_accesses c (source.Print at e) known none =
      (expression_reads c.scope at (main_reads c.scope at known) e (no_left (value_of c.scope at e).faults _ (no_left (print c.scope at e).faults [] none))).0
  action_accesses c (source.Assign name initial) known none =
      let all = no_left (assign c name.at name initial).faults [] none in
      initializer_reads c name.at (main_reads c.scope name.at known) initial (no_left (initializer_of c name.at initial).faults _ (no_right (used_name c.scope name).faults _ all))
  action_accesses c (source.Reduce name by e) known none =
      let all = no_left (reduce c.scope name.at name by e).faults [] none in
      (expression_reads c.scope name.at (main_reads c.scope name.at known) e (no_left (value_of c.scope name.at e).faults _ (no_right (used_name c.scope name).faults _ all))).0
  action_accesses c (source.SetEntry vector subscript e) known none =
      let index = vector_index c.scope vector.at vector in
      let v = value_of c.scope vector.at subscript in
      let w = as_index vector.at v.value in
      let after_vector = no_right index.faults _ (no_left (set_entry c.scope vector.at vector subscript e).faults [] none) in
      let behind_index = no_right v.faults _ after_vector in (
        main_writes c.scope vector.at subscript known (no_left v.faults _ after_vector) (no_left w.faults _ behind_index),
        integer_reads c.scope vector.at (main_reads c.scope vector.at known) e (no_left (integer_in c.scope vector.at e).faults _ (no_right w.faults _ behind_index)),
      )
  action_accesses c (source.ReduceEntry vector subscript by e) known none =
      let index = vector_index c.scope vector.at vector in
      let v = value_of c.scope vector.at subscript in
      let w = as_index vector.at v.value in
      let after_vector = no_right index.faults _ (no_left (reduce_entry c.scope vector.at vector subscript by e).faults [] none) in
      let behind_index = no_right v.faults _ after_vector in (
        main_writes c.scope vector.at subscript known (no_left v.faults _ after_vector) (no_left w.faults _ behind_index),
        integer_reads c.scope vector.at (main_reads c.scope vector.at known) e (no_left (integer_in c.scope vector.at e).faults _ (no_right w.faults _ behind_index)),
      )
  action_accesses c (source.AddVertex set e) known none =
      let all = no_left (add_vertex c.scope set.at set e).faults [] none in
      (expression_reads c.scope set.at (main_reads c.scope set.at known) e (no_left (value_of c.scope set.at e).faults _ (no_right (used_name c.scope set).faults _ all))).0
  action_accesses c (source.Apply target ends function) known none = tt

  statements_access : (c : CheckerTree) (so_far : BlockTree) (block : source.BlockTree) → IsKnown nowhere inside.Main c.scope → (statements_typed c so_far block).faults ≡ []
      → BlockAccesses HasNoEntry HasNoEntry block
  statements_access c so_far source.Empty known none = tt
  statements_access c so_far (source.Then label action others) known none =
      let l = with_label c label in
      let d = counted l.value.1 in
      let a = action_typed d action in
      let more = then_statement so_far (suc l.value.1.statements) l.value.0 a.value.0 in
      let rest = statements_typed a.value.1 more others in
      let both = no_right l.faults (a.faults ++ rest.faults) none in
      let here = subst (λ scope. IsKnown nowhere inside.Main scope) (sym (labelled_scope c label)) known in
      let clear = no_left a.faults rest.faults both in (
        action_accesses d action here clear,
        statements_access a.value.1 more others (action_known nowhere inside.Main d action here clear) (no_right a.faults rest.faults both),
      )

-- an index of a function is a vertex that it works on
abbrev IsUser : Inside → Type 0
IsUser inside.Main = ⊥
IsUser inside.EdgeFunction = Unit {0}
IsUser inside.VertexFunction = Unit {0}
IsUser inside.Filter = Unit {0}

read_index_is_vertex : (at vector : ℕ) (v : ValueTree) → IsClear v → (function_entry at vector v).faults ≡ [] → IsVertexSo (λ p. Unit {0}) v
read_index_is_vertex at vector (Integer e) clear none = absurd (not_empty _ _ none)
read_index_is_vertex at vector (Condition c) clear none = absurd (not_empty _ _ none)
read_index_is_vertex at vector (Vertex p) clear none = tt
read_index_is_vertex at vector (Set slot) clear none = absurd (not_empty _ _ none)
read_index_is_vertex at vector ErrorValue clear none = clear

user_index_is_vertex : (i : Inside) (at vector : ℕ) (v : ValueTree) → IsUser i → IsClear v → (entry_value i at (Some vector) v).faults ≡ [] → IsVertexSo (λ p. Unit {0}) v
user_index_is_vertex inside.Main at vector v user clear none = absurd user
user_index_is_vertex inside.EdgeFunction at vector v user clear none = read_index_is_vertex at vector v clear none
user_index_is_vertex inside.VertexFunction at vector v user clear none = read_index_is_vertex at vector v clear none
user_index_is_vertex inside.Filter at vector v user clear none = read_index_is_vertex at vector v clear none

own_endpoint : (at : ℕ) (p own : Endpoint) → (at_own at (same_endpoint p own)).faults ≡ [] → p ≡ own
own_endpoint at endpoint.Source endpoint.Source none = refl
own_endpoint at endpoint.Source endpoint.Destination none = absurd (not_empty _ _ none)
own_endpoint at endpoint.Destination endpoint.Source none = absurd (not_empty _ _ none)
own_endpoint at endpoint.Destination endpoint.Destination none = refl

written_index_is_own : (at : ℕ) (own : Endpoint) (v : ValueTree) → IsClear v → (written_at at own v).faults ≡ [] → IsVertexSo (λ p. p ≡ own) v
written_index_is_own at own (Integer e) clear none = absurd (not_empty _ _ none)
written_index_is_own at own (Condition c) clear none = absurd (not_empty _ _ none)
written_index_is_own at own (Vertex p) clear none = own_endpoint at p own none
written_index_is_own at own (Set slot) clear none = absurd (not_empty _ _ none)
written_index_is_own at own ErrorValue clear none = clear

user_reads : (At : Vertices) (i : Inside) (names : List (List ℕ)) → IsUser i → ((p : Endpoint) (name : List ℕ) → At p name → Contains names name)
    → (scope : ScopeTree) (at : ℕ) → IsKnown At i scope → Reads At i (IsNameAmong names) scope at
user_reads At i names user among scope at known = record {
  known = known;
  entry = λ vector index sound clear none. index_is_name {So = λ p. Unit {0}} {names = names} scope at (record { known = known; among = λ p name so there. among p name there }) index sound
      (user_index_is_vertex i at vector (index_value scope at index).value user clear
      (subst (λ i. (entry_value i at (Some vector) (index_value scope at index).value).faults ≡ []) known.0 none));
}

-- a body that reads at these names and writes at the last of them
user_body : (At : Vertices) (i : Inside) (names : List (List ℕ)) (own : List ℕ) → IsUser i → ((p : Endpoint) (name : List ℕ) → At p name → Contains names name)
    → ((p : Endpoint) (name : List ℕ) → p ≡ own_vertex i → At p name → Contains (own ∷ []) name) → Body At i (IsNameAmong names) (IsNameAmong (own ∷ []))
user_body At i names own user among last = record {
  reads = user_reads At i names user among;
  writes = λ scope at index known sound none. index_is_name {So = λ p. p ≡ own_vertex i} {names = own ∷ []} scope at (record { known = known; among = last }) index sound
      (written_index_is_own at (own_vertex i) (index_value scope at index).value
      (index_clear scope index (value_of scope at index) (λ none. (expression_reads scope at (user_reads At i names user among scope at known) index none).1) sound)
      (subst (λ i. (written_at at (own_vertex i) (index_value scope at index).value).faults ≡ []) known.0 none));
}

-- the names of the vertices of a function
abbrev pub named : (src dst : List ℕ) → Vertices
named src dst endpoint.Source name = name ≡ src
named src dst endpoint.Destination name = name ≡ dst

first_of_names : (name src : List ℕ) (others : List (List ℕ)) → name ≡ src → Contains (src ∷ others) name
first_of_names name src others is = (0, omega arith, sym is)

second_of_names : (name src dst : List ℕ) → name ≡ dst → Contains (src ∷ dst ∷ []) name
second_of_names name src dst is = (1, omega arith, sym is)

one_vertex : (v : List ℕ) (p : Endpoint) (name : List ℕ) → named v v p name → Contains (v ∷ []) name
one_vertex v endpoint.Source name is = first_of_names name v [] is
one_vertex v endpoint.Destination name is = first_of_names name v [] is

two_vertices : (src dst : List ℕ) (p : Endpoint) (name : List ℕ) → named src dst p name → Contains (src ∷ dst ∷ []) name
two_vertices src dst endpoint.Source name is = first_of_names name src (dst ∷ []) is
two_vertices src dst endpoint.Destination name is = second_of_names name src dst is

destination_alone : (src dst : List ℕ) (p : Endpoint) (name : List ℕ) → p ≡ endpoint.Destination → named src dst p name → Contains (dst ∷ []) name
destination_alone src dst endpoint.Source name is there = absurd cc
destination_alone src dst endpoint.Destination name is there = first_of_names name dst [] there

vertex_body : (i : Inside) (v : List ℕ) → IsUser i → Body (named v v) i (IsNameAmong (v ∷ [])) (IsNameAmong (v ∷ []))
vertex_body i v user = user_body (named v v) i (v ∷ []) v user (one_vertex v) (λ p name own there. one_vertex v p name there)

pub edge_body : (src dst : List ℕ) → Body (named src dst) inside.EdgeFunction (IsNameAmong (src ∷ dst ∷ [])) (IsNameAmong (dst ∷ []))
edge_body src dst = user_body (named src dst) inside.EdgeFunction (src ∷ dst ∷ []) dst tt (two_vertices src dst) (destination_alone src dst)

-- functions
steps_declared_access : {At : Vertices} {Read Write : ExpressionTree → Type 0} (d : DeclaredTree) (at : ℕ) (kind : FunctionKindTree) (name : Identifier) (parameters : List ParameterTree)
    (result : Option ParameterTree) (body : source.BlockTree) → Body At (inside_of kind) Read Write → ParametersFit (takes_weight kind) At endpoint.Source parameters → ResultFits kind result
    → AllKnown d
    → (steps_declared d at kind name parameters result body).faults ≡ [] → BlockAccesses Read Write body
steps_declared_access {At = At} d at kind name parameters result body may fit fits known none =
    let c = opened d.checker kind parameters result in
    let b = steps_typed c.value NoStep body in
    let inner = no_right (kind_fits at kind).faults _ none in
    let first = opened_known At d.checker kind parameters result fit fits known (no_left c.faults _ inner) in
    steps_access may c.value NoStep body first (no_left b.faults _ (no_right c.faults _ inner))

vertex_function_accesses : (d : DeclaredTree) (at : ℕ) (name : Identifier) (v : ParameterTree) (body : source.BlockTree) (b : Bool) → is_vertex_type v.declared ≡ b → AllKnown d
    → (steps_declared d at (if b then VertexKind else NoKind) name (v ∷ []) None body).faults ≡ [] → AccessesOwnVertices (v ∷ []) body
vertex_function_accesses d at name v body true is known none =
    steps_declared_access d at VertexKind name (v ∷ []) None body (vertex_body inside.VertexFunction v.name.bytes tt) (inl (is, refl), tt) tt known none
vertex_function_accesses d at name v body false is known none = absurd (not_empty _ _ none)

filter_accesses : (d : DeclaredTree) (at : ℕ) (name : Identifier) (v result : ParameterTree) (body : source.BlockTree) (b : Bool) → (is_vertex_type v.declared && is_bool_type result.declared) ≡ b
    → AllKnown d → (steps_declared d at (if b then FilterKind else NoKind) name (v ∷ []) (Some result) body).faults ≡ [] → AccessesOwnVertices (v ∷ []) body
filter_accesses d at name v result body true is known none =
    let vertex = (both_true (is_vertex_type v.declared) (is_bool_type result.declared) is).0 in
    steps_declared_access d at FilterKind name (v ∷ []) (Some result) body (vertex_body inside.Filter v.name.bytes tt) (inl (vertex, refl), tt) tt known none
filter_accesses d at name v result body false is known none = absurd (not_empty _ _ none)

edge_function_accesses : (d : DeclaredTree) (at : ℕ) (name : Identifier) (src dst : ParameterTree) (body : source.BlockTree) (b : Bool)
    → (is_vertex_type src.declared && is_vertex_type dst.declared) ≡ b
    → AllKnown d → (steps_declared d at (if b then EdgeKind false else NoKind) name (src ∷ dst ∷ []) None body).faults ≡ [] → AccessesOwnVertices (src ∷ dst ∷ []) body
edge_function_accesses d at name src dst body true is known none =
    let vertices = both_true (is_vertex_type src.declared) (is_vertex_type dst.declared) is in
    steps_declared_access d at (EdgeKind false) name (src ∷ dst ∷ []) None body (edge_body src.name.bytes dst.name.bytes) (inl (vertices.0, refl), (inl (vertices.1, refl), tt)) tt known none
edge_function_accesses d at name src dst body false is known none = absurd (not_empty _ _ none)

weighted_function_accesses : (d : DeclaredTree) (at : ℕ) (name : Identifier) (src dst w : ParameterTree) (body : source.BlockTree) (b : Bool)
    → (is_vertex_type src.declared && is_vertex_type dst.declared && is_int_type w.declared) ≡ b
    → AllKnown d → (steps_declared d at (if b then EdgeKind true else NoKind) name (src ∷ dst ∷ w ∷ []) None body).faults ≡ [] → AccessesOwnVertices (src ∷ dst ∷ w ∷ []) body
weighted_function_accesses d at name src dst w body true is known none =
    let types = both_true (is_vertex_type src.declared && is_vertex_type dst.declared) (is_int_type w.declared) is in
    let vertices = both_true (is_vertex_type src.declared) (is_vertex_type dst.declared) types.0 in
    steps_declared_access d at (EdgeKind true) name (src ∷ dst ∷ w ∷ []) None body (edge_body src.name.bytes dst.name.bytes)
    (inl (vertices.0, refl), (inl (vertices.1, refl), (inr (refl, types.1), tt))) tt known none
weighted_function_accesses d at name src dst w body false is known none = absurd (not_empty _ _ none)

user_function_accesses : (d : DeclaredTree) (at : ℕ) (name : Identifier) (parameters : List ParameterTree) (result : Option ParameterTree) (body : source.BlockTree) → AllKnown d
    → (steps_declared d at (kind_of parameters result) name parameters result body).faults ≡ [] → AccessesOwnVertices parameters body
user_function_accesses d at name [] result body known none = absurd (not_empty _ _ none)
user_function_accesses d at name (v ∷ []) None body known none = vertex_function_accesses d at name v body (is_vertex_type v.declared) refl known none
user_function_accesses d at name (v ∷ []) (Some result) body known none =
    filter_accesses d at name v result body (is_vertex_type v.declared && is_bool_type result.declared) refl known none
user_function_accesses d at name (src ∷ dst ∷ []) None body known none =
    edge_function_accesses d at name src dst body (is_vertex_type src.declared && is_vertex_type dst.declared) refl known none
user_function_accesses d at name (src ∷ dst ∷ []) (Some result) body known none = absurd (not_empty _ _ none)
user_function_accesses d at name (src ∷ dst ∷ w ∷ []) None body known none =
    weighted_function_accesses d at name src dst w body (is_vertex_type src.declared && is_vertex_type dst.declared && is_int_type w.declared) refl known none
user_function_accesses d at name (src ∷ dst ∷ w ∷ []) (Some result) body known none = absurd (not_empty _ _ none)
user_function_accesses d at name (x ∷ y ∷ z ∷ u ∷ others) result body known none = absurd (not_empty _ _ none)

main_accesses : (d : DeclaredTree) (name : Identifier) (parameters : List ParameterTree) (result : Option ParameterTree) (body : source.BlockTree) → (parameters ≡ []) × (result ≡ None)
    → AllKnown d → (main_declared d (takes_nothing parameters result) name parameters result body).faults ≡ [] → BlockAccesses HasNoEntry HasNoEntry body
main_accesses d name parameters result body nothing known none =
    let none' = subst (λ r. (main_declared d (takes_nothing [] r) name [] r body).faults ≡ []) nothing.1
    (subst (λ ps. (main_declared d (takes_nothing ps result) name ps result body).faults ≡ []) nothing.0 none) in
    let c = opened (restarted d.checker) (MainKind true) [] None in
    let b = statements_typed c.value Empty body in
    statements_access c.value Empty body (refl, known.1) (no_left b.faults _ (no_right c.faults _ none'))

declaration_accesses : (d : DeclaredTree) (x : DeclarationTree) → AllKnown d → (declaration_typed d x).faults ≡ [] → (MainTakesNothing x → AccessesEntriesWell x)
    × AllKnown (declaration_typed d x).value
declaration_accesses d (source.Constant at x initial) known none = (λ nothing. tt, declaration_known d (source.Constant at x initial) known none)
declaration_accesses d (source.Function at name parameters result body) known none = (
  λ nothing. (
    λ is. main_accesses d name parameters result body (nothing is) known (main_is_declared d at name parameters result body is none),
    λ other. user_function_accesses d at name parameters result body known (user_declared d at name parameters result body other none),
  ),
  declaration_known d (source.Function at name parameters result body) known none,
)

all_apply : (xs : List DeclarationTree) → AllByRecursion (λ x. MainTakesNothing x → AccessesEntriesWell x) xs → AllByRecursion MainTakesNothing xs → AllByRecursion AccessesEntriesWell xs
all_apply [] all nothing = tt
all_apply (x ∷ others) all nothing = (all.0 nothing.0, all_apply others all.1 nothing.1)

pub entries_are_accessed_well : (source : SourceTree) (length : ℕ) → (program_of source length).faults ≡ [] → AllByRecursion AccessesEntriesWell source.declarations
entries_are_accessed_well source length none =
    let start = no_declarations (set_count source.declarations) in
    let all = each_declaration AllKnown (λ x. MainTakesNothing x → AccessesEntriesWell x) declaration_accesses start source.declarations (refl, tt)
    (no_left (declarations_typed start source.declarations).faults _ none) in
    all_apply source.declarations all (mains_take_nothing source length none)
