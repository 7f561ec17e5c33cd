-- In a source without a fault constants and functions are of the kinds that there are.
use Rattle.std.proofs.Common.{◌≡◌, refl, ap, sym, subst, ◌∙◌, inl, inr, ◌⊎◌, ℕ, zero, suc, ℤ, pos, negsuc, Bool, true, false, not, ◌&&◌, ◌||◌, if◌then◌else◌, List, [], ◌∷◌, ◌++◌, Option, Some, None}
use Rattle.std.specs.Prelude.{IsSome}
use Rattle.std.specs.List.{AllByRecursion}
use Rattle.syntax.specs.Terminals.{Identifier}
use Rattle.syntax.specs.declared.declaration.DeclaredType.{DeclaredType}
use Rattle.syntax.specs.declared.declaration.DeclaredType.TheVariants as declared
use Rattle.apply_options.specs.declared.reduction.Reduction.{Reduction}
use Rattle.syntax.specs.SourceTrees as source
use Rattle.syntax.specs.SourceTrees.{InitialTree, ParameterTree, DeclarationTree, SourceTree}
use Rattle.typed_tree.specs.declared.expression.VarRef.{VarRef}
use Rattle.typed_tree.specs.declared.program.InitialValue.TheVariants as beginning
use Rattle.typed_tree.specs.declared.statement.ApplyEnds.{ApplyEnds}
use Rattle.typed_tree.specs.declared.statement.SetValue.TheVariants as set
use Rattle.typed_tree.specs.FunctionStatementTree.{FunctionStatementsTree, NoStep}
use Rattle.expression_types.specs.declared.fault.TypeRule.TheVariants as rule
use Rattle.expression_types.specs.declared.scope.Entity.{Entity}
use Rattle.expression_types.specs.declared.scope.Entity.TheVariants as entity
use Rattle.expression_types.specs.declared.scope.Inside.{Inside}
use Rattle.expression_types.specs.declared.scope.Inside.TheVariants as inside
use Rattle.expression_types.specs.Expression.{used_name, value_of, vector_index}
use Rattle.expression_types.specs.Faults.{WithFaults, fault_at, sure, ◌>>=◌}
use Rattle.expression_types.specs.ValueTree.{ValueTree, Integer, Condition, Vertex, Set, ErrorValue, is_error, entity_set}
use Rattle.initializer_types.specs.Checker.{CheckerTree, condition_slot, integer_slot, with_label, condition_in}
use Rattle.initializer_types.specs.DeclarationForms.{FunctionKindTree, EdgeKind, VertexKind, FilterKind, NoKind, is_bool_type, is_vertex_type, kind_of, is_int_type, literal_condition, literal_integer}
use Rattle.types.specs.Declaration.{DeclaredTree, begins, declaration_typed, declarations_typed, declare_constant_as, has_all, inside_of}
use Rattle.types.specs.Declaration.{kind_fits, literal_or_fault, loads, opened, steps_declared, wanted}
use Rattle.initializer_types.specs.Initial.{ApplyEndTree, InitializerTree, Members, Loaded, Degrees, ErrorInitializer, edge_function, apply_end_of, ends_given, filter_function, filter_named, filtered_set}
use Rattle.initializer_types.specs.Initial.{filtered_by, initializer_of, is_all, is_degrees, is_edges, is_loaded, is_sound, names_error, is_error_end, is_wrong, loaded, initial_modified, modified_by, new_set}
use Rattle.initializer_types.specs.Initial.{of_edges, vector_of, writes_vector, lacks_weights}
use Rattle.types.specs.Program.{no_declarations, program_of, set_count}
use Rattle.types.specs.Step.{declare_step_as, may_reduce, may_set, set_entry_step, step_after, step_typed, steps_after, steps_typed}
use Rattle.type_laws.specs.WellTyped.{ActionFits, BlockFits, ConstantFits, DeclarationFits, FunctionFits, IsAllVertices, IsLoaded, IsNumberOrTruth, IsOutDegrees}
use Rattle.type_laws.proofs.Booleans.{both_true, false_is_not_true, neither_true}
use Rattle.type_laws.proofs.ClearValues.{IsClear}
use Rattle.type_laws.proofs.EachDeclaration.{each_declaration, user_declared}
use Rattle.types.proofs.EdgeWrites.{declared_goes, opened_inside}
use Rattle.type_laws.proofs.EntryAccess.{main_reads}
use Rattle.type_laws.proofs.EntryReads.{expression_reads}
use Rattle.type_laws.proofs.Faultless.{no_left, no_right, not_empty}
use Rattle.type_laws.proofs.KnownDeclarations.{AllKnown, declaration_known, int_type}
use Rattle.type_laws.proofs.KnownScopes.{EntityIsKnown, IsKnown, Vertices, labelled_scope, nowhere, used_known}

-- statements of functions
variable_fits : (c : CheckerTree) (at : ℕ) (name : Identifier) (initializer : InitializerTree) (type : DeclaredType) → (declare_step_as c at name initializer type).faults ≡ [] → IsNumberOrTruth type
variable_fits c at name initializer declared.Int none = tt
variable_fits c at name initializer declared.Bool none = tt
variable_fits c at name initializer declared.Vertex none = absurd (not_empty _ _ none)
variable_fits c at name initializer declared.VertexSet none = absurd (not_empty _ _ none)
variable_fits c at name initializer declared.Vector none = absurd (not_empty _ _ none)
variable_fits c at name initializer declared.EdgeSet none = absurd (not_empty _ _ none)
variable_fits c at name initializer declared.WeightedEdgeSet none = absurd (not_empty _ _ none)

-- after a statement the checker is in the same function
variable_inside : (c : CheckerTree) (at : ℕ) (name : Identifier) (initializer : InitializerTree) (type : DeclaredType)
    → (declare_step_as c at name initializer type).value.1.scope.inside ≡ c.scope.inside
variable_inside c at name initializer declared.Int = (declared_goes c name (entity.IntVariable (integer_slot c))).0
variable_inside c at name initializer declared.Bool = (declared_goes c name (entity.BoolVariable (condition_slot c))).0
variable_inside c at name initializer declared.Vertex = (declared_goes c name entity.Error).0
variable_inside c at name initializer declared.VertexSet = (declared_goes c name entity.Error).0
variable_inside c at name initializer declared.Vector = (declared_goes c name entity.Error).0
variable_inside c at name initializer declared.EdgeSet = (declared_goes c name entity.Error).0
variable_inside c at name initializer declared.WeightedEdgeSet = (declared_goes c name entity.Error).0

step_inside : (c : CheckerTree) (action : source.StatementKindTree) → (step_typed c action).value.1.scope.inside ≡ c.scope.inside
step_inside c (source.Declare at x initial) = variable_inside c at x.name (initializer_of c at initial).value x.declared
step_inside c (source.While at test body) = refl
step_inside c (source.For at name first limit body) = refl
step_inside c (source.If at test body) = refl
step_inside c (source.IfElse at test body otherwise) = refl
step_inside c (source.Print at e) = refl
step_inside c (source.Assign name initial) = refl
step_inside c (source.Reduce name by e) = refl
step_inside c (source.SetEntry vector index e) = refl
step_inside c (source.ReduceEntry vector index by e) = refl
step_inside c (source.AddVertex set e) = refl
step_inside c (source.Apply target ends function) = refl

-- what the statements at an index may do with entries
pub record May (i : Inside) (Sets Reduces : Type 0) : Type 0 where
  pub sets : (at : ℕ) → (may_set at i).faults ≡ [] → Sets
  pub reduces : (at : ℕ) (vector : Option ℕ) (by : Reduction) (writes : List (ℕ × Reduction)) → (may_reduce at i vector by writes).faults ≡ [] → Reduces

mutual
  step_fits_kind : {i : Inside} {Sets Reduces : Type 0} → May i Sets Reduces → (c : CheckerTree) (action : source.StatementKindTree) → c.scope.inside ≡ i → (step_typed c action).faults ≡ []
      → ActionFits Sets Reduces action
  step_fits_kind may c (source.Declare at x initial) is none =
      let initializer = initializer_of c at initial in variable_fits c at x.name initializer.value x.declared (no_right initializer.faults _ none)
  step_fits_kind may c (source.While at test body) is none = absurd (not_empty _ _ none)
  step_fits_kind may c (source.For at name first limit body) is none = absurd (not_empty _ _ none)
  step_fits_kind may c (source.If at test body) is none =
      let b = steps_typed c NoStep body in
      steps_fit_kind may c NoStep body is (no_left b.faults [] (no_right (condition_in c.scope at test).faults _ none))
  step_fits_kind may c (source.IfElse at test body otherwise) is none =
      let b = steps_typed c NoStep body in
      let d = steps_after c b.value.1 in
      let o = steps_typed d NoStep otherwise in
      let both = no_right (condition_in c.scope at test).faults (b.faults ++ (o.faults ++ [])) none in (
        steps_fit_kind may c NoStep body is (no_left b.faults (o.faults ++ []) both),
        steps_fit_kind may d NoStep otherwise is (no_left o.faults [] (no_right b.faults (o.faults ++ []) both)),
      )
  step_fits_kind may c (source.Print at e) is none = absurd (not_empty _ _ none)
  step_fits_kind may c (source.Assign name initial) is none = tt
  step_fits_kind may c (source.Reduce name by e) is none = tt
  step_fits_kind may c (source.SetEntry vector subscript e) is none =
      let m = may_set vector.at c.scope.inside in
      let sound = no_left m.faults _ (no_left (set_entry_step c.scope vector.at vector subscript e).faults [] none) in
      may.sets vector.at (subst (λ i. (may_set vector.at i).faults ≡ []) is sound)
  step_fits_kind may c (source.ReduceEntry vector subscript by e) is none =
      let index = vector_index c.scope vector.at vector in
      let m = may_reduce vector.at c.scope.inside index.value by c.writes in
      let sound = no_left m.faults _ (no_right index.faults _ none) in
      may.reduces vector.at index.value by c.writes (subst (λ i. (may_reduce vector.at i index.value by c.writes).faults ≡ []) is sound)
  step_fits_kind may c (source.AddVertex set e) is none = absurd (not_empty _ _ none)
  step_fits_kind may c (source.Apply target ends function) is none = absurd (not_empty _ _ none)

  steps_fit_kind : {i : Inside} {Sets Reduces : Type 0} → May i Sets Reduces → (c : CheckerTree) (so_far : FunctionStatementsTree) (block : source.BlockTree) → c.scope.inside ≡ i
      → (steps_typed c so_far block).faults ≡ [] → BlockFits Sets Reduces block
  steps_fit_kind may c so_far source.Empty is none = tt
  steps_fit_kind may c so_far (source.Then label action others) is none =
      let l = with_label c label in
      let s = step_typed l.value.1 action in
      let rest = steps_typed s.value.1 (step_after so_far s.value.0) others in
      let both = no_right l.faults (s.faults ++ rest.faults) none in
      let here = ap (λ scope. scope.inside) (labelled_scope c label) ∙ is in (
        step_fits_kind may l.value.1 action here (no_left s.faults rest.faults both),
        steps_fit_kind may s.value.1 (step_after so_far s.value.0) others (step_inside l.value.1 action ∙ here) (no_right s.faults rest.faults both),
      )

may_vertex : May inside.VertexFunction (Unit {0}) (Unit {0})
may_vertex = record { sets = λ at none. tt; reduces = λ at vector by writes none. tt }

may_filter : May inside.Filter ⊥ ⊥
may_filter = record { sets = λ at none. not_empty _ _ none; reduces = λ at vector by writes none. not_empty _ _ none }

may_edge : May inside.EdgeFunction ⊥ (Unit {0})
may_edge = record { sets = λ at none. not_empty _ _ none; reduces = λ at vector by writes none. tt }

-- functions
steps_declared_fit : {Sets Reduces : Type 0} (d : DeclaredTree) (at : ℕ) (kind : FunctionKindTree) (name : Identifier) (parameters : List ParameterTree) (result : Option ParameterTree)
    (body : source.BlockTree) → May (inside_of kind) Sets Reduces → (steps_declared d at kind name parameters result body).faults ≡ [] → BlockFits Sets Reduces body
steps_declared_fit d at kind name parameters result body may none =
    let c = opened d.checker kind parameters result in
    let b = steps_typed c.value NoStep body in
    let inner = no_right c.faults _ (no_right (kind_fits at kind).faults _ none) in
    steps_fit_kind may c.value NoStep body (opened_inside d.checker kind parameters result) (no_left b.faults _ inner)

vertex_type : (type : DeclaredType) → is_vertex_type type ≡ true → type ≡ declared.Vertex
vertex_type declared.Int is = absurd (false_is_not_true is)
vertex_type declared.Bool is = absurd (false_is_not_true is)
vertex_type declared.Vertex is = refl
vertex_type declared.VertexSet is = absurd (false_is_not_true is)
vertex_type declared.Vector is = absurd (false_is_not_true is)
vertex_type declared.EdgeSet is = absurd (false_is_not_true is)
vertex_type declared.WeightedEdgeSet is = absurd (false_is_not_true is)

bool_type : (type : DeclaredType) → is_bool_type type ≡ true → type ≡ declared.Bool
bool_type declared.Int is = absurd (false_is_not_true is)
bool_type declared.Bool is = refl
bool_type declared.Vertex is = absurd (false_is_not_true is)
bool_type declared.VertexSet is = absurd (false_is_not_true is)
bool_type declared.Vector is = absurd (false_is_not_true is)
bool_type declared.EdgeSet is = absurd (false_is_not_true is)
bool_type declared.WeightedEdgeSet is = absurd (false_is_not_true is)

vertex_function_fits : (d : DeclaredTree) (at : ℕ) (name : Identifier) (v : ParameterTree) (body : source.BlockTree) (b : Bool) → is_vertex_type v.declared ≡ b
    → (steps_declared d at (if b then VertexKind else NoKind) name (v ∷ []) None body).faults ≡ [] → FunctionFits (v ∷ []) None body
vertex_function_fits d at name v body true is none = (vertex_type v.declared is, steps_declared_fit d at VertexKind name (v ∷ []) None body may_vertex none)
vertex_function_fits d at name v body false is none = absurd (not_empty _ _ none)

filter_fits : (d : DeclaredTree) (at : ℕ) (name : Identifier) (v result : ParameterTree) (body : source.BlockTree) (b : Bool) → (is_vertex_type v.declared && is_bool_type result.declared) ≡ b
    → (steps_declared d at (if b then FilterKind else NoKind) name (v ∷ []) (Some result) body).faults ≡ [] → FunctionFits (v ∷ []) (Some result) body
filter_fits d at name v result body true is none =
    let types = both_true (is_vertex_type v.declared) (is_bool_type result.declared) is in
    (vertex_type v.declared types.0, bool_type result.declared types.1, steps_declared_fit d at FilterKind name (v ∷ []) (Some result) body may_filter none)
filter_fits d at name v result body false is none = absurd (not_empty _ _ none)

edge_function_fits : (d : DeclaredTree) (at : ℕ) (name : Identifier) (src dst : ParameterTree) (body : source.BlockTree) (b : Bool) → (is_vertex_type src.declared && is_vertex_type dst.declared) ≡ b
    → (steps_declared d at (if b then EdgeKind false else NoKind) name (src ∷ dst ∷ []) None body).faults ≡ [] → FunctionFits (src ∷ dst ∷ []) None body
edge_function_fits d at name src dst body true is none =
    let types = both_true (is_vertex_type src.declared) (is_vertex_type dst.declared) is in
    (vertex_type src.declared types.0, vertex_type dst.declared types.1, steps_declared_fit d at (EdgeKind false) name (src ∷ dst ∷ []) None body may_edge none)
edge_function_fits d at name src dst body false is none = absurd (not_empty _ _ none)

weighted_function_fits : (d : DeclaredTree) (at : ℕ) (name : Identifier) (src dst w : ParameterTree) (body : source.BlockTree) (b : Bool)
    → (is_vertex_type src.declared && is_vertex_type dst.declared && is_int_type w.declared) ≡ b
    → (steps_declared d at (if b then EdgeKind true else NoKind) name (src ∷ dst ∷ w ∷ []) None body).faults ≡ [] → FunctionFits (src ∷ dst ∷ w ∷ []) None body
weighted_function_fits d at name src dst w body true is none =
    let types = both_true (is_vertex_type src.declared && is_vertex_type dst.declared) (is_int_type w.declared) is in
    let vertices = both_true (is_vertex_type src.declared) (is_vertex_type dst.declared) types.0 in (
      vertex_type src.declared vertices.0,
      vertex_type dst.declared vertices.1,
      int_type w.declared types.1,
      steps_declared_fit d at (EdgeKind true) name (src ∷ dst ∷ w ∷ []) None body may_edge none,
    )
weighted_function_fits d at name src dst w body false is none = absurd (not_empty _ _ none)

function_fits : (d : DeclaredTree) (at : ℕ) (name : Identifier) (parameters : List ParameterTree) (result : Option ParameterTree) (body : source.BlockTree)
    → (steps_declared d at (kind_of parameters result) name parameters result body).faults ≡ [] → FunctionFits parameters result body
function_fits d at name [] result body none = absurd (not_empty _ _ none)
function_fits d at name (v ∷ []) None body none = vertex_function_fits d at name v body (is_vertex_type v.declared) refl none
function_fits d at name (v ∷ []) (Some result) body none = filter_fits d at name v result body (is_vertex_type v.declared && is_bool_type result.declared) refl none
function_fits d at name (src ∷ dst ∷ []) None body none = edge_function_fits d at name src dst body (is_vertex_type src.declared && is_vertex_type dst.declared) refl none
function_fits d at name (src ∷ dst ∷ []) (Some result) body none = absurd (not_empty _ _ none)
function_fits d at name (src ∷ dst ∷ w ∷ []) None body none =
    weighted_function_fits d at name src dst w body (is_vertex_type src.declared && is_vertex_type dst.declared && is_int_type w.declared) refl none
function_fits d at name (src ∷ dst ∷ w ∷ []) (Some result) body none = absurd (not_empty _ _ none)
function_fits d at name (x ∷ y ∷ z ∷ u ∷ others) result body none = absurd (not_empty _ _ none)

-- the value of a constant has no faulty part
abbrev IsSound : WithFaults InitializerTree → Type 0
IsSound m = m.faults ≡ [] → is_sound m.value ≡ true

if_sound : (b : Bool) (x y : WithFaults InitializerTree) → b ≡ false → IsSound y → IsSound (if b then x else y)
if_sound true x y is sound none = absurd (false_is_not_true (sym is))
if_sound false x y is sound none = sound none

if_first : (b : Bool) (x : InitializerTree) (at : ℕ) → is_sound x ≡ true → IsSound (if b then sure x else fault_at at rule.WrongType ErrorInitializer)
if_first true x at sound none = sound
if_first false x at sound none = absurd (not_empty _ _ none)

clear_entity : (At : Vertices) (name : List ℕ) (e : Entity) → EntityIsKnown At name e → names_error e ≡ false
clear_entity At name entity.Error known = absurd known
clear_entity At name _ known = refl

of_edges_sound : (at : ℕ) (x : InitializerTree) (e : Entity) → is_sound x ≡ true → names_error e ≡ false → IsSound (of_edges at x e)
of_edges_sound at x e sound clear =
    if_sound (names_error e) (sure ErrorInitializer) (if is_edges e then sure x else fault_at at rule.WrongType ErrorInitializer) clear (if_first (is_edges e) x at sound)

filtered_by_sound : (at : ℕ) (s : Option VarRef) (f : Option ℕ) → IsSound (filtered_by at s f)
filtered_by_sound at None f none = absurd (not_empty _ _ none)
filtered_by_sound at (Some slot) None none = absurd (not_empty _ _ none)
filtered_by_sound at (Some slot) (Some index) none = refl

filtered_sound : (at : ℕ) (s f : Entity) → names_error s ≡ false → names_error f ≡ false → IsSound (filtered_set at s f)
filtered_sound at s f first second =
    if_sound (names_error s || names_error f) (sure ErrorInitializer) (filtered_by at (entity_set s) (filter_function f)) (neither_true (names_error s) (names_error f) first second)
    (filtered_by_sound at (entity_set s) (filter_function f))

end_is_known : (At : Vertices) (name : List ℕ) (e : Entity) → EntityIsKnown At name e → is_error_end (filter_named e) ≡ false
end_is_known At name entity.Error known = absurd known
end_is_known At name (entity.ConstantSet slot) known = refl
end_is_known At name (entity.SetVariable slot) known = refl
end_is_known At name (entity.Filter index) known = refl
end_is_known At name _ known = refl

end_known : (At : Vertices) (i : Inside) (c : CheckerTree) (end : Option Identifier) → IsKnown At i c.scope → (apply_end_of c.scope end).faults ≡ []
    → is_error_end (apply_end_of c.scope end).value ≡ false
end_known At i c None known none = refl
end_known At i c (Some name) known none =
    let e = used_name c.scope name in end_is_known At name.bytes e.value (used_known At i c.scope name known (no_left e.faults [] none))

if_then : (b : Bool) (m : WithFaults InitializerTree) (at : ℕ) → IsSound m → IsSound (if b then m else fault_at at rule.WrongType ErrorInitializer)
if_then true m at sound none = sound none
if_then false m at sound none = absurd (not_empty _ _ none)

if_else : (b : Bool) (m : WithFaults InitializerTree) (at : ℕ) → IsSound m → IsSound (if b then fault_at at rule.WrongType ErrorInitializer else m)
if_else true m at sound none = absurd (not_empty _ _ none)
if_else false m at sound none = sound none

modified_by_sound : (c : CheckerTree) (at : ℕ) (ends : ApplyEnds) (f v : Option ℕ) → IsSound (modified_by c at ends f v)
modified_by_sound c at ends None v none = absurd (not_empty _ _ none)
modified_by_sound c at ends (Some f) None none = absurd (not_empty _ _ none)
modified_by_sound c at ends (Some f) (Some v) none = if_first (writes_vector c.written f v) (Members (set.Modified ends f v)) at refl none

modified_sound : (c : CheckerTree) (at : ℕ) (edges : Entity) (a b : ApplyEndTree) (f v : Entity) → names_error edges ≡ false → is_error_end a ≡ false → is_error_end b ≡ false → names_error f ≡ false
    → names_error v ≡ false → IsSound (initial_modified c at edges a b f v)
modified_sound c at edges a b f v first second third fourth fifth =
    let by = modified_by c at (ends_given a b) (edge_function f) (vector_of v) in
    let between = if is_wrong a || is_wrong b || lacks_weights edges f then fault_at at rule.WrongType ErrorInitializer else by in
    let error = neither_true (names_error edges || is_error_end a || is_error_end b || names_error f) (names_error v)
    (neither_true (names_error edges || is_error_end a || is_error_end b) (names_error f)
    (neither_true (names_error edges || is_error_end a) (is_error_end b) (neither_true (names_error edges) (is_error_end a) first second) third) fourth) fifth in
    if_sound (names_error edges || is_error_end a || is_error_end b || names_error f || names_error v) (sure ErrorInitializer)
    (if is_edges edges then between else fault_at at rule.WrongType ErrorInitializer) error
    (if_then (is_edges edges) between at (if_else (is_wrong a || is_wrong b || lacks_weights edges f) by at (modified_by_sound c at (ends_given a b) (edge_function f) (vector_of v))))

new_set_sound : (at : ℕ) (size : ℤ) → IsSound (new_set at size)
new_set_sound at (pos zero) none = refl
new_set_sound at (pos (suc n)) none = absurd (not_empty _ _ none)
new_set_sound at (negsuc n) none = absurd (not_empty _ _ none)

loaded_sound : (at : ℕ) (argument : ℤ) → IsSound (loaded at argument)
loaded_sound at (pos zero) none = absurd (not_empty _ _ none)
loaded_sound at (pos (suc zero)) none = refl
loaded_sound at (pos (suc (suc n))) none = absurd (not_empty _ _ none)
loaded_sound at (negsuc n) none = absurd (not_empty _ _ none)

value_sound : (v : ValueTree) → IsClear v → not (is_error v) ≡ true
value_sound (Integer e) clear = refl
value_sound (Condition c) clear = refl
value_sound (Vertex p) clear = refl
value_sound (Set slot) clear = refl
value_sound ErrorValue clear = absurd clear

initializer_sound : (c : CheckerTree) (at : ℕ) (initial : InitialTree) → IsKnown nowhere inside.Main c.scope → IsSound (initializer_of c at initial)
initializer_sound c at (source.NewSet size) known none = new_set_sound at size none
initializer_sound c at (source.Load argument) known none = loaded_sound at argument none
initializer_sound c at (source.Vertices edges) known none =
    let e = used_name c.scope edges in
    let clear = clear_entity nowhere edges.bytes e.value (used_known nowhere inside.Main c.scope edges known (no_left e.faults _ none)) in
    of_edges_sound at (Members set.All) e.value refl clear (no_right e.faults _ none)
initializer_sound c at (source.OutDegrees edges) known none =
    let e = used_name c.scope edges in
    let clear = clear_entity nowhere edges.bytes e.value (used_known nowhere inside.Main c.scope edges known (no_left e.faults _ none)) in
    of_edges_sound at Degrees e.value refl clear (no_right e.faults _ none)
initializer_sound c at (source.Filter s f) known none =
    let a = used_name c.scope s in
    let b = used_name c.scope f in
    let behind = no_right a.faults _ none in
    let first = clear_entity nowhere s.bytes a.value (used_known nowhere inside.Main c.scope s known (no_left a.faults _ none)) in
    let second = clear_entity nowhere f.bytes b.value (used_known nowhere inside.Main c.scope f known (no_left b.faults _ behind)) in
    filtered_sound at a.value b.value first second (no_right b.faults _ behind)
initializer_sound c at (source.ApplyModified edges ends f v) known none =
    let e = used_name c.scope edges in
    let a = apply_end_of c.scope ends.from in
    let b = apply_end_of c.scope ends.to in
    let g = used_name c.scope f in
    let x = used_name c.scope v in
    let behind_edges = no_right e.faults _ none in
    let after_from = no_right a.faults _ behind_edges in
    let after_to = no_right b.faults _ after_from in
    let after_function = no_right g.faults _ after_to in
    modified_sound c at e.value a.value b.value g.value x.value
    (clear_entity nowhere edges.bytes e.value (used_known nowhere inside.Main c.scope edges known (no_left e.faults _ none)))
    (end_known nowhere inside.Main c ends.from known (no_left a.faults _ behind_edges)) (end_known nowhere inside.Main c ends.to known (no_left b.faults _ after_from))
    (clear_entity nowhere f.bytes g.value (used_known nowhere inside.Main c.scope f known (no_left g.faults _ after_to)))
    (clear_entity nowhere v.bytes x.value (used_known nowhere inside.Main c.scope v known (no_left x.faults _ after_function))) (no_right x.faults _ after_function)
initializer_sound c at (source.Value e) known none =
    let v = value_of c.scope at e in value_sound v.value (expression_reads c.scope at (main_reads c.scope at known) e (no_left v.faults [] none)).1

-- which values are of one kind alone
if_not : (Q : InitializerTree → Bool) (b : Bool) (x y : WithFaults InitializerTree) → Q x.value ≡ false → Q y.value ≡ false → Q (if b then x else y).value ≡ false
if_not Q true x y first second = first
if_not Q false x y first second = second

new_set_not : (Q : InitializerTree → Bool) (at : ℕ) (size : ℤ) → Q ErrorInitializer ≡ false → Q (Members set.Empty) ≡ false → Q (new_set at size).value ≡ false
new_set_not Q at (pos zero) broken empty = empty
new_set_not Q at (pos (suc n)) broken empty = broken
new_set_not Q at (negsuc n) broken empty = broken

loaded_not : (Q : InitializerTree → Bool) (at : ℕ) (argument : ℤ) → Q ErrorInitializer ≡ false → Q Loaded ≡ false → Q (loaded at argument).value ≡ false
loaded_not Q at (pos zero) broken load = broken
loaded_not Q at (pos (suc zero)) broken load = load
loaded_not Q at (pos (suc (suc n))) broken load = broken
loaded_not Q at (negsuc n) broken load = broken

of_edges_not : (Q : InitializerTree → Bool) (at : ℕ) (x : InitializerTree) (e : Entity) → Q ErrorInitializer ≡ false → Q x ≡ false → Q (of_edges at x e).value ≡ false
of_edges_not Q at x e broken other =
    if_not Q (names_error e) (sure ErrorInitializer) (if is_edges e then sure x else fault_at at rule.WrongType ErrorInitializer) broken
    (if_not Q (is_edges e) (sure x) (fault_at at rule.WrongType ErrorInitializer) other broken)

filtered_by_not : (Q : InitializerTree → Bool) (at : ℕ) (s : Option VarRef) (f : Option ℕ) → Q ErrorInitializer ≡ false → ((slot : VarRef) (index : ℕ) → Q (Members (set.Filter slot index)) ≡ false)
    → Q (filtered_by at s f).value ≡ false
filtered_by_not Q at None f broken other = broken
filtered_by_not Q at (Some slot) None broken other = broken
filtered_by_not Q at (Some slot) (Some index) broken other = other slot index

filtered_not : (Q : InitializerTree → Bool) (at : ℕ) (s f : Entity) → Q ErrorInitializer ≡ false → ((slot : VarRef) (index : ℕ) → Q (Members (set.Filter slot index)) ≡ false)
    → Q (filtered_set at s f).value ≡ false
filtered_not Q at s f broken other =
    if_not Q (names_error s || names_error f) (sure ErrorInitializer) (filtered_by at (entity_set s) (filter_function f)) broken (filtered_by_not Q at (entity_set s) (filter_function f) broken other)

modified_by_not : (Q : InitializerTree → Bool) (c : CheckerTree) (at : ℕ) (ends : ApplyEnds) (f v : Option ℕ) → Q ErrorInitializer ≡ false
    → ((ends : ApplyEnds) (f v : ℕ) → Q (Members (set.Modified ends f v)) ≡ false)
    → Q (modified_by c at ends f v).value ≡ false
modified_by_not Q c at ends None v broken other = broken
modified_by_not Q c at ends (Some f) None broken other = broken
modified_by_not Q c at ends (Some f) (Some v) broken other =
    if_not Q (writes_vector c.written f v) (sure (Members (set.Modified ends f v))) (fault_at at rule.WrongType ErrorInitializer) (other ends f v) broken

modified_not : (Q : InitializerTree → Bool) (c : CheckerTree) (at : ℕ) (edges : Entity) (a b : ApplyEndTree) (f v : Entity) → Q ErrorInitializer ≡ false
    → ((ends : ApplyEnds) (f v : ℕ) → Q (Members (set.Modified ends f v)) ≡ false) → Q (initial_modified c at edges a b f v).value ≡ false
modified_not Q c at edges a b f v broken other =
    let by = modified_by c at (ends_given a b) (edge_function f) (vector_of v) in
    let wrong = fault_at at rule.WrongType ErrorInitializer in
    let between = if is_wrong a || is_wrong b || lacks_weights edges f then wrong else by in
    if_not Q (names_error edges || is_error_end a || is_error_end b || names_error f || names_error v) (sure ErrorInitializer) (if is_edges edges then between else wrong) broken
    (if_not Q (is_edges edges) between wrong (if_not Q (is_wrong a || is_wrong b || lacks_weights edges f) wrong by broken
    (modified_by_not Q c at (ends_given a b) (edge_function f) (vector_of v) broken other)) broken)

clash : (b : Bool) → b ≡ false → b ≡ true → ⊥
clash b first second = false_is_not_true (sym first ∙ second)

load_argument : (at : ℕ) (argument : ℤ) → is_loaded (loaded at argument).value ≡ true → argument ≡ pos 1
load_argument at (pos zero) is = absurd (false_is_not_true is)
load_argument at (pos (suc zero)) is = refl
load_argument at (pos (suc (suc n))) is = absurd (false_is_not_true is)
load_argument at (negsuc n) is = absurd (false_is_not_true is)

initializer_is_load : (c : CheckerTree) (at : ℕ) (initial : InitialTree) → is_loaded (initializer_of c at initial).value ≡ true → IsLoaded initial
initializer_is_load c at (source.NewSet size) is = clash _ (new_set_not is_loaded at size refl refl) is
initializer_is_load c at (source.Load argument) is = load_argument at argument is
initializer_is_load c at (source.Vertices edges) is = clash _ (of_edges_not is_loaded at (Members set.All) (used_name c.scope edges).value refl refl) is
initializer_is_load c at (source.OutDegrees edges) is = clash _ (of_edges_not is_loaded at Degrees (used_name c.scope edges).value refl refl) is
initializer_is_load c at (source.Filter s f) is = clash _ (filtered_not is_loaded at (used_name c.scope s).value (used_name c.scope f).value refl (λ slot index. refl)) is
initializer_is_load c at (source.ApplyModified edges ends f v) is =
    clash _ (modified_not is_loaded c at (used_name c.scope edges).value (apply_end_of c.scope ends.from).value (apply_end_of c.scope ends.to).value (used_name c.scope f).value
    (used_name c.scope v).value refl
    (λ ends f v. refl)) is
initializer_is_load c at (source.Value e) is = false_is_not_true is

initializer_is_all : (c : CheckerTree) (at : ℕ) (initial : InitialTree) → is_all (initializer_of c at initial).value ≡ true → IsAllVertices initial
initializer_is_all c at (source.NewSet size) is = clash _ (new_set_not is_all at size refl refl) is
initializer_is_all c at (source.Load argument) is = clash _ (loaded_not is_all at argument refl refl) is
initializer_is_all c at (source.Vertices edges) is = tt
initializer_is_all c at (source.OutDegrees edges) is = clash _ (of_edges_not is_all at Degrees (used_name c.scope edges).value refl refl) is
initializer_is_all c at (source.Filter s f) is = clash _ (filtered_not is_all at (used_name c.scope s).value (used_name c.scope f).value refl (λ slot index. refl)) is
initializer_is_all c at (source.ApplyModified edges ends f v) is =
    clash _ (modified_not is_all c at (used_name c.scope edges).value (apply_end_of c.scope ends.from).value (apply_end_of c.scope ends.to).value (used_name c.scope f).value
    (used_name c.scope v).value refl
    (λ ends f v. refl)) is
initializer_is_all c at (source.Value e) is = false_is_not_true is

initializer_is_degrees : (c : CheckerTree) (at : ℕ) (initial : InitialTree) → is_degrees (initializer_of c at initial).value ≡ true → IsOutDegrees initial
initializer_is_degrees c at (source.NewSet size) is = clash _ (new_set_not is_degrees at size refl refl) is
initializer_is_degrees c at (source.Load argument) is = clash _ (loaded_not is_degrees at argument refl refl) is
initializer_is_degrees c at (source.Vertices edges) is = clash _ (of_edges_not is_degrees at (Members set.All) (used_name c.scope edges).value refl refl) is
initializer_is_degrees c at (source.OutDegrees edges) is = tt
initializer_is_degrees c at (source.Filter s f) is = clash _ (filtered_not is_degrees at (used_name c.scope s).value (used_name c.scope f).value refl (λ slot index. refl)) is
initializer_is_degrees c at (source.ApplyModified edges ends f v) is =
    clash _ (modified_not is_degrees c at (used_name c.scope edges).value (apply_end_of c.scope ends.from).value (apply_end_of c.scope ends.to).value (used_name c.scope f).value
    (used_name c.scope v).value refl
    (λ ends f v. refl)) is
initializer_is_degrees c at (source.Value e) is = false_is_not_true is

-- constants
literal_is_there : {A : Type 0} (at : ℕ) (b : Bool) (other : A) (o : Option A) → b ≡ true → (literal_or_fault at b other o).faults ≡ [] → IsSome o
literal_is_there at b other (Some x) sound none = refl
literal_is_there at true other None sound none = absurd (not_empty _ _ none)
literal_is_there at false other None sound none = absurd (false_is_not_true sound)

wanted_is : (at : ℕ) (b : Bool) → (wanted at b).faults ≡ [] → b ≡ true
wanted_is at true none = refl
wanted_is at false none = absurd (not_empty _ _ none)

sound_then : (sound b : Bool) → sound ≡ true → (not sound || b) ≡ true → b ≡ true
sound_then true b sound is = is
sound_then false b sound is = absurd (false_is_not_true sound)

vector_begins : (at : ℕ) (initializer : InitializerTree) (initial : InitialTree) (b : Bool) → is_degrees initializer ≡ b → is_sound initializer ≡ true
    → (if b then sure beginning.OutDegrees else (literal_or_fault at (is_sound initializer) (pos 0) (literal_integer initial) >>= λ n. sure (beginning.Number n))).faults ≡ []
    → (is_degrees initializer ≡ true) ⊎ IsSome (literal_integer initial)
vector_begins at initializer initial true is sound none = inl is
vector_begins at initializer initial false is sound none =
    let l = literal_or_fault at (is_sound initializer) (pos 0) (literal_integer initial) in
    inr (literal_is_there at (is_sound initializer) (pos 0) (literal_integer initial) sound (no_left l.faults [] none))

constant_fits : (d : DeclaredTree) (at : ℕ) (name : Identifier) (initial : InitialTree) (type : DeclaredType) → AllKnown d → (initializer_of d.checker at initial).faults ≡ []
    → (declare_constant_as d at name initial type (initializer_of d.checker at initial).value).faults ≡ [] → ConstantFits type initial
constant_fits d at name initial declared.Int known sound none =
    let initializer = (initializer_of d.checker at initial).value in
    let l = literal_or_fault at (is_sound initializer) (pos 0) (literal_integer initial) in
    literal_is_there at (is_sound initializer) (pos 0) (literal_integer initial) (initializer_sound d.checker at initial known sound) (no_left l.faults _ none)
constant_fits d at name initial declared.Bool known sound none =
    let initializer = (initializer_of d.checker at initial).value in
    let l = literal_or_fault at (is_sound initializer) false (literal_condition initial) in
    literal_is_there at (is_sound initializer) false (literal_condition initial) (initializer_sound d.checker at initial known sound) (no_left l.faults _ none)
constant_fits d at name initial declared.Vertex known sound none = absurd (not_empty _ _ none)
constant_fits d at name initial declared.VertexSet known sound none =
    let initializer = (initializer_of d.checker at initial).value in
    let all = wanted_is at (not (is_sound initializer) || is_all initializer) (no_left (has_all at initializer).faults _ none) in
    initializer_is_all d.checker at initial (sound_then (is_sound initializer) (is_all initializer) (initializer_sound d.checker at initial known sound) all)
constant_fits d at name initial declared.Vector known sound none =
    let initializer = (initializer_of d.checker at initial).value in
    elim (vector_begins at initializer initial (is_degrees initializer) refl (initializer_sound d.checker at initial known sound) (no_left (begins at initializer initial).faults _ none)) [
      | inl is ↦ inl (initializer_is_degrees d.checker at initial is)
      | inr literal ↦ inr literal
    ]
constant_fits d at name initial declared.EdgeSet known sound none =
    let initializer = (initializer_of d.checker at initial).value in
    let all = wanted_is at (not (is_sound initializer) || is_loaded initializer) (no_left (loads at initializer).faults _ none) in
    initializer_is_load d.checker at initial (sound_then (is_sound initializer) (is_loaded initializer) (initializer_sound d.checker at initial known sound) all)
constant_fits d at name initial declared.WeightedEdgeSet known sound none =
    let initializer = (initializer_of d.checker at initial).value in
    let all = wanted_is at (not (is_sound initializer) || is_loaded initializer) (no_left (loads at initializer).faults _ none) in
    initializer_is_load d.checker at initial (sound_then (is_sound initializer) (is_loaded initializer) (initializer_sound d.checker at initial known sound) all)

declaration_fits : (d : DeclaredTree) (x : DeclarationTree) → AllKnown d → (declaration_typed d x).faults ≡ [] → DeclarationFits x × AllKnown (declaration_typed d x).value
declaration_fits d (source.Constant at x initial) known none =
    let initializer = initializer_of d.checker at initial in (
      constant_fits d at x.name initial x.declared known (no_left initializer.faults _ none) (no_right initializer.faults _ none),
      declaration_known d (source.Constant at x initial) known none,
    )
declaration_fits d (source.Function at name parameters result body) known none = (
  λ other. function_fits d at name parameters result body (user_declared d at name parameters result body other none),
  declaration_known d (source.Function at name parameters result body) known none,
)

pub declarations_fit : (source : SourceTree) (length : ℕ) → (program_of source length).faults ≡ [] → AllByRecursion DeclarationFits source.declarations
declarations_fit source length none =
    let start = no_declarations (set_count source.declarations) in
    each_declaration AllKnown DeclarationFits declaration_fits start source.declarations (refl, tt) (no_left (declarations_typed start source.declarations).faults _ none)
