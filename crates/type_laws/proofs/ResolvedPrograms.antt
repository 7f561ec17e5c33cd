-- A program without a fault is resolved.
use Rattle.std.proofs.Common.{◌≡◌, refl, ap, sym, subst, ◌∙◌, ℕ, suc, ◌+◌, ◌<◌, ◌≤◌, pos, Bool, true, false, ◌&&◌, if◌then◌else◌, List, [], ◌∷◌, ◌++◌, length, length-append, arith, Option, Some, None}
use Rattle.std.specs.Prelude.{slice_get}
use Rattle.std.specs.Str.{bytes_eq}
use Rattle.std.specs.List.{AllByRecursion}
use Rattle.syntax.specs.Terminals.{Identifier}
use Rattle.syntax.specs.declared.declaration.DeclaredType.{DeclaredType}
use Rattle.syntax.specs.declared.declaration.DeclaredType.TheVariants as declared
use Rattle.syntax.specs.SourceTrees as source
use Rattle.syntax.specs.SourceTrees.{ParameterTree, InitialTree, DeclarationTree, SourceTree}
use Rattle.typed_tree.specs.declared.expression.Endpoint.{Endpoint}
use Rattle.typed_tree.specs.declared.expression.Endpoint.TheVariants as endpoint
use Rattle.typed_tree.specs.declared.program.Vector.{Vector}
use Rattle.typed_tree.specs.BlockTree.{BlockTree, Empty}
use Rattle.typed_tree.specs.FunctionStatementTree.{FunctionStatementsTree, NoStep}
use Rattle.typed_tree.specs.ProgramTree.{ProgramTree}
use Rattle.typed_tree.specs.Resolved.{VisibleTree, BlockIsResolved, EdgeFunctionIsResolved, EdgesAreResolved, FilterIsResolved, IsNameIndex, IsResolved, IsVertex, StepsAreResolved, VectorIsResolved}
use Rattle.typed_tree.specs.Resolved.{VertexFunctionIsResolved, in_edge_function, in_filter, in_main, in_vertex_function}
use Rattle.expression_types.specs.declared.scope.Entity.{Entity}
use Rattle.expression_types.specs.declared.scope.Entity.TheVariants as entity
use Rattle.expression_types.specs.declared.scope.Inside.TheVariants as inside
use Rattle.expression_types.specs.ScopeTree.{conditions_of, entered, integers_of, sets_of}
use Rattle.types.specs.Block.{statements_typed}
use Rattle.initializer_types.specs.Checker.{CheckerTree, condition_slot, declared_in, restarted, in_scope}
use Rattle.initializer_types.specs.DeclarationForms.{FunctionKindTree, MainKind, EdgeKind, VertexKind, FilterKind, NoKind, is_bool_type, is_vertex_type, kind, kind_of, main_bytes, takes_nothing}
use Rattle.types.specs.Declaration.{DeclaredTree, begins, declaration_typed, declarations_typed, declare_constant_as}
use Rattle.types.specs.Declaration.{declare_function, declare_name, function_declared, function_of, has_all, inside_of, kind_fits, literal_or_fault, loads}
use Rattle.types.specs.Declaration.{main_declared, next_name, only_edges, opened, parameter, parameters_declared, result_declared, result_entity, steps_declared}
use Rattle.initializer_types.specs.DeclarationForms.{is_int_type, literal_condition, literal_integer}
use Rattle.types.specs.Declaration.{with_main_block, takes_weight}
use Rattle.initializer_types.specs.Initial.{InitializerTree, initializer_of, is_sound}
use Rattle.types.specs.Program.{counting, main_of, no_declarations, program_of, set_count}
use Rattle.types.specs.Step.{steps_typed, with_writes}
use Rattle.type_laws.proofs.Booleans.{both_true}
use Rattle.type_laws.proofs.Faultless.{no_left, no_right, not_empty}
use Rattle.type_laws.proofs.ResolvedScopes.{CheckerFits, Grows, Within, all_then, declared_before, declared_fits, declared_name, get_before, get_last, known_grows, left_fits}
use Rattle.type_laws.proofs.ResolvedStatements.{behind_block, statements_before, statements_fit}
use Rattle.type_laws.proofs.ResolvedSteps.{behind_steps, condition_declared, steps_before, steps_fit}
use Rattle.type_laws.proofs.ResolvedValues.{EntityIsResolved}

-- the program has all that was declared
abbrev WithinProgram : ProgramTree → DeclaredTree → Type 0
WithinProgram p d =
    Within p d.checker × (length d.vectors ≤ length p.vectors) × (length d.edge_functions ≤ length p.edge_functions)
    × (length d.vertex_functions ≤ length p.vertex_functions) × (length d.filters ≤ length p.filters)
    × ((k x : ℕ) → slice_get d.sets k ≡ Some x → slice_get p.sets k ≡ Some x)

shorter : {A : Type 0} (xs : List A) (x : A) (n : ℕ) → length (xs ++ x ∷ []) ≤ n → length xs ≤ n
shorter xs x n is = omega (arith, is, length-append xs (x ∷ []))

last_within : {A : Type 0} (xs : List A) (x : A) (n : ℕ) → length (xs ++ x ∷ []) ≤ n → suc (length xs) ≤ n
last_within xs x n is = omega (arith, is, length-append xs (x ∷ []))

-- what a function of each kind sees before its result
abbrev visible_in : ProgramTree → FunctionKindTree → VisibleTree
visible_in p (MainKind true) = in_main p
visible_in p (MainKind false) = record (in_edge_function p) { indexes = true }
visible_in p (EdgeKind weighted) = in_edge_function p
visible_in p VertexKind = in_vertex_function p
visible_in p FilterKind = in_vertex_function p
visible_in p NoKind = in_edge_function p

-- it works on a vertex at each of its parameters, the weight's too, and a filter has a result
abbrev Enough : VisibleTree → Endpoint → List ParameterTree → Type 0
Enough v at [] = Unit {0}
Enough v at (x ∷ others) = IsVertex v at × Enough v endpoint.Destination others

abbrev HasResult : FunctionKindTree → Option ParameterTree → Type 0
HasResult (MainKind fits) result = Unit {0}
HasResult (EdgeKind weighted) result = Unit {0}
HasResult VertexKind result = Unit {0}
HasResult FilterKind None = ⊥
HasResult FilterKind (Some result) = Unit {0}
HasResult NoKind result = Unit {0}

abbrev KindFits : ProgramTree → FunctionKindTree → List ParameterTree → Option ParameterTree → Type 0
KindFits p kind parameters result = Enough (visible_in p kind) endpoint.Source parameters × HasResult kind result

enough_two : (v : VisibleTree) → 1 < v.vertices → (parameters : List ParameterTree) → Enough v endpoint.Destination parameters
enough_two v two [] = tt
enough_two v two (x ∷ others) = (two, enough_two v two others)

enough : (v : VisibleTree) → 1 < v.vertices → (parameters : List ParameterTree) → Enough v endpoint.Source parameters
enough v two [] = tt
enough v two (x ∷ others) = (omega (arith, two), enough_two v two others)

enough_one : (p : ProgramTree) (x : ParameterTree) → Enough (in_vertex_function p) endpoint.Source (x ∷ [])
enough_one p x = (omega arith, tt)

main_kind : (p : ProgramTree) (parameters : List ParameterTree) (result : Option ParameterTree) → KindFits p (MainKind (takes_nothing parameters result)) parameters result
main_kind p [] None = (tt, tt)
main_kind p [] (Some result) = (tt, tt)
main_kind p (x ∷ others) result = (enough (visible_in p (MainKind false)) (omega arith) (x ∷ others), tt)

if_kind : (p : ProgramTree) (b : Bool) (k l : FunctionKindTree) (parameters : List ParameterTree) (result : Option ParameterTree) → KindFits p k parameters result
    → KindFits p l parameters result → KindFits p (if b then k else l) parameters result
if_kind p true k l parameters result first other = first
if_kind p false k l parameters result first other = other

other_kind : (p : ProgramTree) (parameters : List ParameterTree) (result : Option ParameterTree) → KindFits p (kind_of parameters result) parameters result
other_kind p [] result = (enough (in_edge_function p) (omega arith) [], tt)
other_kind p (x ∷ []) None = if_kind p (is_vertex_type x.declared) VertexKind NoKind (x ∷ []) None (enough_one p x, tt) (enough (in_edge_function p) (omega arith) (x ∷ []), tt)
other_kind p (x ∷ []) (Some result) =
    if_kind p (is_vertex_type x.declared && is_bool_type result.declared) FilterKind NoKind (x ∷ []) (Some result) (enough_one p x, tt) (enough (in_edge_function p) (omega arith) (x ∷ []), tt)
other_kind p (x ∷ y ∷ []) None =
    if_kind p (is_vertex_type x.declared && is_vertex_type y.declared) (EdgeKind false) NoKind (x ∷ y ∷ []) None (enough (in_edge_function p) (omega arith) (x ∷ y ∷ []), tt)
    (enough (in_edge_function p) (omega arith) (x ∷ y ∷ []), tt)
other_kind p (x ∷ y ∷ []) (Some result) = (enough (in_edge_function p) (omega arith) (x ∷ y ∷ []), tt)
other_kind p (x ∷ y ∷ z ∷ []) None =
    if_kind p (is_vertex_type x.declared && is_vertex_type y.declared && is_int_type z.declared) (EdgeKind true) NoKind (x ∷ y ∷ z ∷ []) None
    (enough (in_edge_function p) (omega arith) (x ∷ y ∷ z ∷ []), tt) (enough (in_edge_function p) (omega arith) (x ∷ y ∷ z ∷ []), tt)
other_kind p (x ∷ y ∷ z ∷ []) (Some result) = (enough (in_edge_function p) (omega arith) (x ∷ y ∷ z ∷ []), tt)
other_kind p (x ∷ y ∷ z ∷ u ∷ others) result = (enough (in_edge_function p) (omega arith) (x ∷ y ∷ z ∷ u ∷ others), tt)

each_kind : (p : ProgramTree) (name : List ℕ) (parameters : List ParameterTree) (result : Option ParameterTree) → KindFits p (kind name parameters result) parameters result
each_kind p name parameters result =
    if_kind p (bytes_eq name main_bytes) (MainKind (takes_nothing parameters result)) (kind_of parameters result) parameters result
    (main_kind p parameters result) (other_kind p parameters result)

-- parameters
parameters_before : (w : Bool) (p : ProgramTree) (c : CheckerTree) (at : Endpoint) (parameters : List ParameterTree) → Within p (parameters_declared w c at parameters).value → Within p c
parameters_before w p c at [] within = within
parameters_before w p c at (x ∷ others) within =
    let e = parameter w at x.declared in
    declared_before p c x.name e (parameters_before w p (declared_in c x.name e).value endpoint.Destination others within)

result_before : (p : ProgramTree) (c : CheckerTree) (kind : FunctionKindTree) (result : Option ParameterTree) → Within p (result_declared c kind result).value → Within p c
result_before p c kind None within = within
result_before p c kind (Some result) within = declared_before p c result.name (result_entity c kind) within

opened_before : (p : ProgramTree) (c : CheckerTree) (kind : FunctionKindTree) (parameters : List ParameterTree) (result : Option ParameterTree)
    → Within p (opened c kind parameters result).value → Within p c
opened_before p c kind parameters result within =
    let e = with_writes (in_scope c (entered (inside_of kind) c.scope)) [] in
    let d = (parameters_declared (takes_weight kind) e endpoint.Source parameters).value in
    parameters_before (takes_weight kind) p e endpoint.Source parameters (result_before p d kind result within)

stays : (v : VisibleTree) → Grows v v
stays v = record { integers = λ k x is. is; conditions = λ k x is. is; sets = λ k x is. is; vertices = omega arith }

-- a name that takes no index
placeless : (p : ProgramTree) (v : VisibleTree) (c : CheckerTree) (name : Identifier) (e : Entity) → (declared_in c name e).faults ≡ [] → CheckerFits p v c
    → EntityIsResolved p v e → integers_of e ≡ 0 → conditions_of e ≡ 0 → sets_of e ≡ 0 → CheckerFits p v (declared_in c name e).value
placeless p v c name e none fits is integers conditions sets =
    declared_fits p v v c name e none fits (stays v) refl is (omega (arith, integers)) (omega (arith, conditions)) (omega (arith, sets))

abbrev parameter_of : (at : Endpoint) (vertex weight : Bool) → Entity
parameter_of at vertex weight = if vertex then entity.Parameter at else (if weight then entity.Weight else entity.Error)

parameter_fits : (p : ProgramTree) (v : VisibleTree) (c : CheckerTree) (name : Identifier) (at : Endpoint) (vertex weight : Bool)
    → (declared_in c name (parameter_of at vertex weight)).faults ≡ [] → CheckerFits p v c → IsVertex v at → (weight ≡ true → IsVertex v endpoint.Destination)
    → CheckerFits p v (declared_in c name (parameter_of at vertex weight)).value
parameter_fits p v c name at true weight none fits is edge = placeless p v c name (entity.Parameter at) none fits is refl refl refl
parameter_fits p v c name at false true none fits is edge = placeless p v c name entity.Weight none fits (edge refl) refl refl refl
parameter_fits p v c name at false false none fits is edge = placeless p v c name entity.Error none fits tt refl refl refl

parameters_fit : (w : Bool) (p : ProgramTree) (v : VisibleTree) (c : CheckerTree) (at : Endpoint) (parameters : List ParameterTree) → (parameters_declared w c at parameters).faults ≡ []
    → CheckerFits p v c → Enough v at parameters → (w ≡ true → IsVertex v endpoint.Destination) → CheckerFits p v (parameters_declared w c at parameters).value
parameters_fit w p v c at [] none fits enough edge = fits
parameters_fit w p v c at (x ∷ others) none fits enough edge =
    let d = declared_in c x.name (parameter w at x.declared) in
    let rest = parameters_declared w d.value endpoint.Destination others in
    parameters_fit w p v d.value endpoint.Destination others (no_right d.faults rest.faults none)
    (parameter_fits p v c x.name at (is_vertex_type x.declared) (w && is_int_type x.declared) (no_left d.faults rest.faults none) fits enough.0
    (λ weight. edge (both_true w (is_int_type x.declared) weight).0)) enough.1 edge

-- the scope of a function, where it differs from that around it by vertices alone
abbrev on_vertices : ProgramTree → ℕ → Bool → VisibleTree
on_vertices p n indexes = record { integers = []; conditions = []; sets = p.sets; vertices = n; indexes = indexes }

entered_as : (p : ProgramTree) (n : ℕ) (indexes : Bool) (kind : FunctionKindTree) (c : CheckerTree) → (inside_of kind ≡ inside.Main → indexes ≡ true) → CheckerFits p (in_main p) c
    → CheckerFits p (on_vertices p n indexes) (with_writes (in_scope c (entered (inside_of kind) c.scope)) [])
entered_as p n indexes kind c main fits =
    let more : Grows (in_main p) (on_vertices p n indexes) = record { integers = λ k x is. is; conditions = λ k x is. is; sets = λ k x is. is; vertices = omega arith } in (
      record {
        integers = fits.0.integers;
        conditions = fits.0.conditions;
        sets = fits.0.sets;
        known = (main, known_grows p (in_main p) (on_vertices p n indexes) more c.scope.visible fits.0.known.1);
      },
      fits.1,
    )

entered_fits : (p : ProgramTree) (kind : FunctionKindTree) (c : CheckerTree) → CheckerFits p (in_main p) c
    → CheckerFits p (visible_in p kind) (with_writes (in_scope c (entered (inside_of kind) c.scope)) [])
entered_fits p (MainKind true) c fits = entered_as p 0 true (MainKind true) c (λ main. refl) fits
entered_fits p (MainKind false) c fits = entered_as p 2 true (MainKind false) c (λ main. refl) fits
entered_fits p (EdgeKind weighted) c fits = entered_as p 2 false (EdgeKind weighted) c (λ main. cc) fits
entered_fits p VertexKind c fits = entered_as p 1 false VertexKind c (λ main. cc) fits
entered_fits p FilterKind c fits = entered_as p 1 false FilterKind c (λ main. cc) fits
entered_fits p NoKind c fits = entered_as p 2 false NoKind c (λ main. cc) fits

-- the weight is taken where there is a destination
weight_on_edge : (p : ProgramTree) (kind : FunctionKindTree) → takes_weight kind ≡ true → IsVertex (visible_in p kind) endpoint.Destination
weight_on_edge p (MainKind fits) takes = absurd cc
weight_on_edge p (EdgeKind weighted) takes = omega arith
weight_on_edge p VertexKind takes = absurd cc
weight_on_edge p FilterKind takes = absurd cc
weight_on_edge p NoKind takes = absurd cc

-- a result without a clear meaning
error_result : (p : ProgramTree) (v : VisibleTree) (c : CheckerTree) (kind : FunctionKindTree) (result : Option ParameterTree) → result_entity c kind ≡ entity.Error
    → (result_declared c kind result).faults ≡ [] → CheckerFits p v c → CheckerFits p v (result_declared c kind result).value
error_result p v c kind None same none fits = fits
error_result p v c kind (Some result) same none fits =
    subst (λ e. (declared_in c result.name e).faults ≡ [] → CheckerFits p v (declared_in c result.name e).value) (sym same)
    (λ clear. placeless p v c result.name entity.Error clear fits tt refl refl refl) none

-- the checker at the first statement of a function, its result aside
abbrev before_result : CheckerTree → FunctionKindTree → List ParameterTree → CheckerTree
before_result c kind parameters = (parameters_declared (takes_weight kind) (with_writes (in_scope c (entered (inside_of kind) c.scope)) []) endpoint.Source parameters).value

before_result_fits : (p : ProgramTree) (c : CheckerTree) (kind : FunctionKindTree) (parameters : List ParameterTree) (result : Option ParameterTree)
    → (opened c kind parameters result).faults ≡ [] → CheckerFits p (in_main p) c → KindFits p kind parameters result
    → CheckerFits p (visible_in p kind) (before_result c kind parameters)
before_result_fits p c kind parameters result none fits shape =
    let e = with_writes (in_scope c (entered (inside_of kind) c.scope)) [] in
    let d = parameters_declared (takes_weight kind) e endpoint.Source parameters in
    parameters_fit (takes_weight kind) p (visible_in p kind) e endpoint.Source parameters (no_left d.faults (result_declared d.value kind result).faults none) (entered_fits p kind c fits) shape.0
    (weight_on_edge p kind)

opened_fits : (p : ProgramTree) (c : CheckerTree) (kind : FunctionKindTree) (parameters : List ParameterTree) (result : Option ParameterTree)
    → result_entity (before_result c kind parameters) kind ≡ entity.Error → (opened c kind parameters result).faults ≡ [] → CheckerFits p (in_main p) c
    → KindFits p kind parameters result → CheckerFits p (visible_in p kind) (opened c kind parameters result).value
opened_fits p c kind parameters result same none fits shape =
    let e = with_writes (in_scope c (entered (inside_of kind) c.scope)) [] in
    let d = parameters_declared (takes_weight kind) e endpoint.Source parameters in
    error_result p (visible_in p kind) d.value kind result same (no_right d.faults (result_declared d.value kind result).faults none)
    (before_result_fits p c kind parameters result none fits shape)

-- a filter's result is its first condition
filter_opened : (p : ProgramTree) (c : CheckerTree) (parameters : List ParameterTree) (result : Option ParameterTree) → (opened c FilterKind parameters result).faults ≡ []
    → Within p (opened c FilterKind parameters result).value → CheckerFits p (in_main p) c → KindFits p FilterKind parameters result
    → (name : ℕ) × IsNameIndex p name × CheckerFits p (in_filter p name) (opened c FilterKind parameters result).value
filter_opened p c parameters None none within fits shape = absurd shape.1
filter_opened p c parameters (Some result) none within fits shape =
    let e = with_writes (in_scope c (entered (inside_of FilterKind) c.scope)) [] in
    let d = parameters_declared false e endpoint.Source parameters in
    let slot = entity.BoolVariable (condition_slot d.value) in (
      length d.value.names,
      declared_name p d.value result.name slot within,
      condition_declared p (in_vertex_function p) d.value result.name (no_right d.faults (declared_in d.value result.name slot).faults none) within
          (before_result_fits p c FilterKind parameters (Some result) none fits shape),
    )

-- what was declared is resolved
abbrev MainIsResolved : ProgramTree → Option BlockTree → Type 0
MainIsResolved p None = Unit {0}
MainIsResolved p (Some main) = BlockIsResolved p (in_main p) main

abbrev DeclaredFits : ProgramTree → DeclaredTree → Type 0
DeclaredFits p d =
    CheckerFits p (in_main p) d.checker × EdgesAreResolved p d.edges × AllByRecursion (VectorIsResolved p) d.vectors × AllByRecursion (IsNameIndex p) d.sets
    × AllByRecursion (EdgeFunctionIsResolved p) d.edge_functions × AllByRecursion (VertexFunctionIsResolved p) d.vertex_functions
    × AllByRecursion (FilterIsResolved p) d.filters × MainIsResolved p d.main

-- constants
constant_before : (p : ProgramTree) (d : DeclaredTree) (at : ℕ) (name : Identifier) (initial : InitialTree) (type : DeclaredType) (initializer : InitializerTree)
    → WithinProgram p (declare_constant_as d at name initial type initializer).value → WithinProgram p d
constant_before p d at name initial declared.Int initializer within =
    let n = (literal_or_fault at (is_sound initializer) (pos 0) (literal_integer initial)).value in
    (declared_before p d.checker name (entity.IntConstant (next_name d) n) within.0, within.1, within.2, within.3, within.4, within.5)
constant_before p d at name initial declared.Bool initializer within =
    let b = (literal_or_fault at (is_sound initializer) false (literal_condition initial)).value in
    (declared_before p d.checker name (entity.BoolConstant (next_name d) b) within.0, within.1, within.2, within.3, within.4, within.5)
constant_before p d at name initial declared.Vertex initializer within =
    (declared_before p d.checker name entity.Error within.0, within.1, within.2, within.3, within.4, within.5)
constant_before p d at name initial declared.VertexSet initializer within = (
  declared_before p d.checker name (entity.ConstantSet (record { index = length d.sets; name = next_name d })) within.0,
  within.1,
  within.2,
  within.3,
  within.4,
  λ k x is. within.5 k x (get_before d.sets (next_name d ∷ []) k x is),
)
constant_before p d at name initial declared.Vector initializer within =
    (declared_before p d.checker name (entity.Vector (length d.vectors)) within.0, shorter d.vectors _ (length p.vectors) within.1, within.2, within.3, within.4, within.5)
constant_before p d at name initial declared.EdgeSet initializer within =
    (declared_before p d.checker name (entity.Edges false) within.0, within.1, within.2, within.3, within.4, within.5)
constant_before p d at name initial declared.WeightedEdgeSet initializer within =
    (declared_before p d.checker name (entity.Edges true) within.0, within.1, within.2, within.3, within.4, within.5)

edges_resolved : (p : ProgramTree) (name : Identifier) (index : ℕ) (edges : Option ℕ) → EdgesAreResolved p edges → IsNameIndex p index → EdgesAreResolved p (only_edges name index edges).value
edges_resolved p name index None old new = new
edges_resolved p name index (Some edges) old new = old

constant_fits : (p : ProgramTree) (d : DeclaredTree) (at : ℕ) (name : Identifier) (initial : InitialTree) (type : DeclaredType) (initializer : InitializerTree)
    → (declare_constant_as d at name initial type initializer).faults ≡ [] → WithinProgram p (declare_constant_as d at name initial type initializer).value → DeclaredFits p d
    → DeclaredFits p (declare_constant_as d at name initial type initializer).value
constant_fits p d at name initial declared.Int initializer none within fits =
    let n = literal_or_fault at (is_sound initializer) (pos 0) (literal_integer initial) in
    let e = entity.IntConstant (next_name d) n.value in
    let left = no_left (declared_in d.checker name e).faults [] (no_right n.faults _ none) in
    (placeless p (in_main p) d.checker name e left fits.0 (declared_name p d.checker name e within.0) refl refl refl, fits.1, fits.2, fits.3, fits.4, fits.5, fits.6, fits.7)
constant_fits p d at name initial declared.Bool initializer none within fits =
    let b = literal_or_fault at (is_sound initializer) false (literal_condition initial) in
    let e = entity.BoolConstant (next_name d) b.value in
    let left = no_left (declared_in d.checker name e).faults [] (no_right b.faults _ none) in
    (placeless p (in_main p) d.checker name e left fits.0 (declared_name p d.checker name e within.0) refl refl refl, fits.1, fits.2, fits.3, fits.4, fits.5, fits.6, fits.7)
constant_fits p d at name initial declared.Vertex initializer none within fits = absurd (not_empty _ _ none)
constant_fits p d at name initial declared.VertexSet initializer none within fits =
    let e = entity.ConstantSet (record { index = length d.sets; name = next_name d }) in
    let named = no_left (declare_name d name e).faults [] (no_right (has_all at initializer).faults _ none) in
    let left = no_left (declared_in d.checker name e).faults [] named in
    let there = declared_name p d.checker name e within.0 in
    let index = within.5 (length d.sets) (next_name d) (get_last d.sets (next_name d) []) in
    (placeless p (in_main p) d.checker name e left fits.0 (index, there) refl refl refl, fits.1, fits.2, all_then (IsNameIndex p) d.sets (next_name d) fits.3 there, fits.4, fits.5, fits.6, fits.7)
constant_fits p d at name initial declared.Vector initializer none within fits =
    let e = entity.Vector (length d.vectors) in
    let b = begins at initializer initial in
    let named = no_left (declare_name d name e).faults [] (no_right b.faults _ none) in
    let left = no_left (declared_in d.checker name e).faults [] named in
    let there = declared_name p d.checker name e within.0 in
    let vector : Vector = record { name = next_name d; beginning = b.value } in (
      placeless p (in_main p) d.checker name e left fits.0 (last_within d.vectors vector (length p.vectors) within.1) refl refl refl,
      fits.1,
      all_then (VectorIsResolved p) d.vectors vector fits.2 there,
      fits.3,
      fits.4,
      fits.5,
      fits.6,
      fits.7,
    )
constant_fits p d at name initial declared.EdgeSet initializer none within fits =
    let only = only_edges name (next_name d) d.edges in
    let named = no_right only.faults ((declare_name d name (entity.Edges false)).faults ++ []) (no_right (loads at initializer).faults _ none) in
    let left = no_left (declared_in d.checker name (entity.Edges false)).faults [] (no_left (declare_name d name (entity.Edges false)).faults [] named) in (
      placeless p (in_main p) d.checker name (entity.Edges false) left fits.0 tt refl refl refl,
      edges_resolved p name (next_name d) d.edges fits.1 (declared_name p d.checker name (entity.Edges false) within.0),
      fits.2,
      fits.3,
      fits.4,
      fits.5,
      fits.6,
      fits.7,
    )
constant_fits p d at name initial declared.WeightedEdgeSet initializer none within fits =
    let only = only_edges name (next_name d) d.edges in
    let named = no_right only.faults ((declare_name d name (entity.Edges true)).faults ++ []) (no_right (loads at initializer).faults _ none) in
    let left = no_left (declared_in d.checker name (entity.Edges true)).faults [] (no_left (declare_name d name (entity.Edges true)).faults [] named) in (
      placeless p (in_main p) d.checker name (entity.Edges true) left fits.0 tt refl refl refl,
      edges_resolved p name (next_name d) d.edges fits.1 (declared_name p d.checker name (entity.Edges true) within.0),
      fits.2,
      fits.3,
      fits.4,
      fits.5,
      fits.6,
      fits.7,
    )

-- what the statements of a function of each kind have to be
abbrev StepsFitKind : ProgramTree → FunctionKindTree → FunctionStatementsTree → Type 0
StepsFitKind p (MainKind fits) steps = Unit {0}
StepsFitKind p (EdgeKind weighted) steps = StepsAreResolved p (in_edge_function p) steps
StepsFitKind p VertexKind steps = StepsAreResolved p (in_vertex_function p) steps
StepsFitKind p FilterKind steps = (result : ℕ) × IsNameIndex p result × StepsAreResolved p (in_filter p result) steps
StepsFitKind p NoKind steps = Unit {0}

-- functions, after their statements
function_before : (p : ProgramTree) (d : DeclaredTree) (kind : FunctionKindTree) (name : Identifier) (steps : FunctionStatementsTree)
    → WithinProgram p (function_declared d kind name steps).value → WithinProgram p d
function_before p d (MainKind fits) name steps within =
    (declared_before p d.checker name entity.Error within.0, within.1, within.2, within.3, within.4, within.5)
function_before p d (EdgeKind weighted) name steps within = (
  declared_before p d.checker name (entity.EdgeFunction (length d.edge_functions) weighted) within.0,
  within.1,
  shorter d.edge_functions _ (length p.edge_functions) within.2,
  within.3,
  within.4,
  within.5,
)
function_before p d VertexKind name steps within = (
  declared_before p d.checker name (entity.VertexFunction (length d.vertex_functions)) within.0,
  within.1,
  within.2,
  shorter d.vertex_functions _ (length p.vertex_functions) within.3,
  within.4,
  within.5,
)
function_before p d FilterKind name steps within = (
  declared_before p d.checker name (entity.Filter (length d.filters)) within.0,
  within.1,
  within.2,
  within.3,
  shorter d.filters _ (length p.filters) within.4,
  within.5,
)
function_before p d NoKind name steps within =
    (declared_before p d.checker name entity.Error within.0, within.1, within.2, within.3, within.4, within.5)

function_fits : (p : ProgramTree) (d : DeclaredTree) (kind : FunctionKindTree) (name : Identifier) (steps : FunctionStatementsTree) → (function_declared d kind name steps).faults ≡ []
    → WithinProgram p (function_declared d kind name steps).value → DeclaredFits p d → StepsFitKind p kind steps
    → DeclaredFits p (function_declared d kind name steps).value
function_fits p d (MainKind fits) name steps none within all resolved =
    let left = no_left (declared_in d.checker name entity.Error).faults [] none in
    (placeless p (in_main p) d.checker name entity.Error left all.0 tt refl refl refl, all.1, all.2, all.3, all.4, all.5, all.6, all.7)
function_fits p d (EdgeKind weighted) name steps none within all resolved =
    let e = entity.EdgeFunction (length d.edge_functions) weighted in
    let left = no_left (declared_in d.checker name e).faults [] (no_left (declare_name d name e).faults [] none) in
    let f = function_of d steps in (
      placeless p (in_main p) d.checker name e left all.0 (last_within d.edge_functions f (length p.edge_functions) within.2) refl refl refl,
      all.1,
      all.2,
      all.3,
      all_then (EdgeFunctionIsResolved p) d.edge_functions f all.4 (declared_name p d.checker name e within.0, resolved),
      all.5,
      all.6,
      all.7,
    )
function_fits p d VertexKind name steps none within all resolved =
    let e = entity.VertexFunction (length d.vertex_functions) in
    let left = no_left (declared_in d.checker name e).faults [] (no_left (declare_name d name e).faults [] none) in
    let f = function_of d steps in (
      placeless p (in_main p) d.checker name e left all.0 (last_within d.vertex_functions f (length p.vertex_functions) within.3) refl refl refl,
      all.1,
      all.2,
      all.3,
      all.4,
      all_then (VertexFunctionIsResolved p) d.vertex_functions f all.5 (declared_name p d.checker name e within.0, resolved),
      all.6,
      all.7,
    )
function_fits p d FilterKind name steps none within all resolved =
    let e = entity.Filter (length d.filters) in
    let left = no_left (declared_in d.checker name e).faults [] (no_left (declare_name d name e).faults [] none) in
    let f = function_of d steps in (
      placeless p (in_main p) d.checker name e left all.0 (last_within d.filters f (length p.filters) within.4) refl refl refl,
      all.1,
      all.2,
      all.3,
      all.4,
      all.5,
      all_then (FilterIsResolved p) d.filters f all.6 (declared_name p d.checker name e within.0, resolved),
      all.7,
    )
function_fits p d NoKind name steps none within all resolved =
    let left = no_left (declared_in d.checker name entity.Error).faults [] none in
    (placeless p (in_main p) d.checker name entity.Error left all.0 tt refl refl refl, all.1, all.2, all.3, all.4, all.5, all.6, all.7)

-- after the statements of a function the scope around it stands again
abbrev around : DeclaredTree → CheckerTree → DeclaredTree
around d c = record d { checker = in_scope c d.checker.scope }

around_fits : (p : ProgramTree) (v : VisibleTree) (d : DeclaredTree) (c : CheckerTree) → DeclaredFits p d → CheckerFits p v c → DeclaredFits p (around d c)
around_fits p v d c all inner = (left_fits p (in_main p) v d.checker c all.0 inner, all.1, all.2, all.3, all.4, all.5, all.6, all.7)

steps_declared_before : (p : ProgramTree) (d : DeclaredTree) (at : ℕ) (kind : FunctionKindTree) (name : Identifier) (parameters : List ParameterTree) (result : Option ParameterTree)
    (body : source.BlockTree) → WithinProgram p (steps_declared d at kind name parameters result body).value → WithinProgram p d
steps_declared_before p d at kind name parameters result body within =
    let c = (opened d.checker kind parameters result).value in
    let b = (steps_typed c NoStep body).value in
    let inner = function_before p (around d b.1) kind name b.0 within in
    (opened_before p d.checker kind parameters result (steps_before p c NoStep body inner.0), inner.1, inner.2, inner.3, inner.4, inner.5)

steps_declared_fits : (p : ProgramTree) (v : VisibleTree) (d : DeclaredTree) (at : ℕ) (kind : FunctionKindTree) (name : Identifier) (parameters : List ParameterTree)
    (result : Option ParameterTree) (body : source.BlockTree) → (steps_declared d at kind name parameters result body).faults ≡ []
    → WithinProgram p (steps_declared d at kind name parameters result body).value → DeclaredFits p d
    → CheckerFits p v (opened d.checker kind parameters result).value
    → (StepsAreResolved p v (steps_typed (opened d.checker kind parameters result).value NoStep body).value.0
    → StepsFitKind p kind (steps_typed (opened d.checker kind parameters result).value NoStep body).value.0)
    → DeclaredFits p (steps_declared d at kind name parameters result body).value
steps_declared_fits p v d at kind name parameters result body none within all fits make =
    let c = opened d.checker kind parameters result in
    let b = steps_typed c.value NoStep body in
    let f = function_declared (around d b.value.1) kind name b.value.0 in
    let both = no_right c.faults (b.faults ++ f.faults) (no_right (kind_fits at kind).faults _ none) in
    let inner = function_before p (around d b.value.1) kind name b.value.0 within in
    let steps = steps_fit p v c.value NoStep body (no_left b.faults f.faults both) inner.0 tt fits in
    function_fits p (around d b.value.1) kind name b.value.0 (no_right b.faults f.faults both) within
    (around_fits p (behind_steps b.value.0 v) d b.value.1 all steps.1) (make steps.0)

-- the checker at the first statement of a function has met no more than the one at its end
opened_within : (p : ProgramTree) (d : DeclaredTree) (at : ℕ) (kind : FunctionKindTree) (name : Identifier) (parameters : List ParameterTree) (result : Option ParameterTree)
    (body : source.BlockTree) → WithinProgram p (steps_declared d at kind name parameters result body).value → Within p (opened d.checker kind parameters result).value
opened_within p d at kind name parameters result body within =
    let c = (opened d.checker kind parameters result).value in
    let b = (steps_typed c NoStep body).value in
    steps_before p c NoStep body (function_before p (around d b.1) kind name b.0 within).0

opened_faultless : (d : DeclaredTree) (at : ℕ) (kind : FunctionKindTree) (name : Identifier) (parameters : List ParameterTree) (result : Option ParameterTree)
    (body : source.BlockTree) → (steps_declared d at kind name parameters result body).faults ≡ [] → (opened d.checker kind parameters result).faults ≡ []
opened_faultless d at kind name parameters result body none =
    no_left (opened d.checker kind parameters result).faults _ (no_right (kind_fits at kind).faults _ none)

-- main
with_main_before : (p : ProgramTree) (e : DeclaredTree) (fits : Bool) (main : BlockTree) → WithinProgram p (with_main_block e fits main) → WithinProgram p e
with_main_before p e true main within = within
with_main_before p e false main within = within

with_main_fits : (p : ProgramTree) (e : DeclaredTree) (fits : Bool) (main : BlockTree) → DeclaredFits p e → BlockIsResolved p (visible_in p (MainKind fits)) main
    → DeclaredFits p (with_main_block e fits main)
with_main_fits p e true main all resolved = (all.0, all.1, all.2, all.3, all.4, all.5, all.6, resolved)
with_main_fits p e false main all resolved = all

main_before : (p : ProgramTree) (d : DeclaredTree) (fits : Bool) (name : Identifier) (parameters : List ParameterTree) (result : Option ParameterTree) (body : source.BlockTree)
    → WithinProgram p (main_declared d fits name parameters result body).value
    → Within p (statements_typed (opened (restarted d.checker) (MainKind fits) parameters result).value Empty body).value.1 × WithinProgram p d
main_before p d fits name parameters result body within =
    let c = (opened (restarted d.checker) (MainKind fits) parameters result).value in
    let b = (statements_typed c Empty body).value in
    let inner = with_main_before p (declare_name (around d b.1) name entity.Main).value fits b.0 within in
    let between = declared_before p (in_scope b.1 d.checker.scope) name entity.Main inner.0 in (
      between,
      (
        opened_before p (restarted d.checker) (MainKind fits) parameters result (statements_before p c Empty body between),
        inner.1,
        inner.2,
        inner.3,
        inner.4,
        inner.5,
      ),
    )

main_fits : (p : ProgramTree) (d : DeclaredTree) (fits : Bool) (name : Identifier) (parameters : List ParameterTree) (result : Option ParameterTree) (body : source.BlockTree)
    → (main_declared d fits name parameters result body).faults ≡ [] → WithinProgram p (main_declared d fits name parameters result body).value → DeclaredFits p d
    → KindFits p (MainKind fits) parameters result → DeclaredFits p (main_declared d fits name parameters result body).value
main_fits p d fits name parameters result body none within all shape =
    let c = opened (restarted d.checker) (MainKind fits) parameters result in
    let b = statements_typed c.value Empty body in
    let e = declare_name (around d b.value.1) name entity.Main in
    let v = visible_in p (MainKind fits) in
    let both = no_right c.faults (b.faults ++ (e.faults ++ [])) none in
    let between = (main_before p d fits name parameters result body within).0 in
    let first = opened_fits p (restarted d.checker) (MainKind fits) parameters result refl (no_left c.faults (b.faults ++ (e.faults ++ [])) none) all.0 shape in
    let inner = statements_fit p v c.value Empty body (no_left b.faults (e.faults ++ []) both) between tt first in
    let again = around_fits p (behind_block b.value.0 v) d b.value.1 all inner.1 in
    let named = no_left e.faults [] (no_right b.faults (e.faults ++ []) both) in
    let left = no_left (declared_in (in_scope b.value.1 d.checker.scope) name entity.Main).faults [] named in
    with_main_fits p e.value fits b.value.0
    (placeless p (in_main p) (in_scope b.value.1 d.checker.scope) name entity.Main left again.0 tt refl refl refl, all.1, all.2, all.3, all.4, all.5, all.6, all.7) inner.0

-- declarations
declared_function_before : (p : ProgramTree) (d : DeclaredTree) (at : ℕ) (name : Identifier) (parameters : List ParameterTree) (result : Option ParameterTree) (body : source.BlockTree)
    (kind : FunctionKindTree) → WithinProgram p (declare_function d at name parameters result body kind).value → WithinProgram p d
declared_function_before p d at name parameters result body (MainKind fits) within = (main_before p d fits name parameters result body within).1
declared_function_before p d at name parameters result body (EdgeKind weighted) within = steps_declared_before p d at (EdgeKind weighted) name parameters result body within
declared_function_before p d at name parameters result body VertexKind within = steps_declared_before p d at VertexKind name parameters result body within
declared_function_before p d at name parameters result body FilterKind within = steps_declared_before p d at FilterKind name parameters result body within
declared_function_before p d at name parameters result body NoKind within = steps_declared_before p d at NoKind name parameters result body within

filter_fits : (p : ProgramTree) (d : DeclaredTree) (at : ℕ) (name : Identifier) (parameters : List ParameterTree) (result : Option ParameterTree) (body : source.BlockTree)
    → (steps_declared d at FilterKind name parameters result body).faults ≡ [] → WithinProgram p (steps_declared d at FilterKind name parameters result body).value
    → DeclaredFits p d → ((n : ℕ) × IsNameIndex p n × CheckerFits p (in_filter p n) (opened d.checker FilterKind parameters result).value)
    → DeclaredFits p (steps_declared d at FilterKind name parameters result body).value
filter_fits p d at name parameters result body none within all first =
    steps_declared_fits p (in_filter p first.0) d at FilterKind name parameters result body none within all first.2 (λ steps. (first.0, first.1, steps))

declared_function_fits : (p : ProgramTree) (d : DeclaredTree) (at : ℕ) (name : Identifier) (parameters : List ParameterTree) (result : Option ParameterTree) (body : source.BlockTree)
    (kind : FunctionKindTree) → (declare_function d at name parameters result body kind).faults ≡ [] → WithinProgram p (declare_function d at name parameters result body kind).value
    → DeclaredFits p d → KindFits p kind parameters result → DeclaredFits p (declare_function d at name parameters result body kind).value
declared_function_fits p d at name parameters result body (MainKind fits) none within all shape = main_fits p d fits name parameters result body none within all shape
declared_function_fits p d at name parameters result body (EdgeKind weighted) none within all shape =
    let clear = opened_faultless d at (EdgeKind weighted) name parameters result body none in
    steps_declared_fits p (in_edge_function p) d at (EdgeKind weighted) name parameters result body none within all
    (opened_fits p d.checker (EdgeKind weighted) parameters result refl clear all.0 shape) (λ steps. steps)
declared_function_fits p d at name parameters result body VertexKind none within all shape =
    let clear = opened_faultless d at VertexKind name parameters result body none in
    steps_declared_fits p (in_vertex_function p) d at VertexKind name parameters result body none within all
    (opened_fits p d.checker VertexKind parameters result refl clear all.0 shape) (λ steps. steps)
declared_function_fits p d at name parameters result body FilterKind none within all shape =
    let clear = opened_faultless d at FilterKind name parameters result body none in
    filter_fits p d at name parameters result body none within all
    (filter_opened p d.checker parameters result clear (opened_within p d at FilterKind name parameters result body within) all.0 shape)
declared_function_fits p d at name parameters result body NoKind none within all shape =
    let clear = opened_faultless d at NoKind name parameters result body none in
    steps_declared_fits p (in_edge_function p) d at NoKind name parameters result body none within all
    (opened_fits p d.checker NoKind parameters result refl clear all.0 shape) (λ steps. tt)

declaration_before : (p : ProgramTree) (d : DeclaredTree) (x : DeclarationTree) → WithinProgram p (declaration_typed d x).value → WithinProgram p d
declaration_before p d (source.Constant at x initial) within = constant_before p d at x.name initial x.declared (initializer_of d.checker at initial).value within
declaration_before p d (source.Function at name parameters result body) within =
    declared_function_before p d at name parameters result body (kind name.bytes parameters result) within

declarations_before : (p : ProgramTree) (d : DeclaredTree) (xs : List DeclarationTree) → WithinProgram p (declarations_typed d xs).value → WithinProgram p d
declarations_before p d [] within = within
declarations_before p d (x ∷ others) within = declaration_before p d x (declarations_before p (declaration_typed d x).value others within)

declaration_fits : (p : ProgramTree) (d : DeclaredTree) (x : DeclarationTree) → (declaration_typed d x).faults ≡ [] → WithinProgram p (declaration_typed d x).value
    → DeclaredFits p d → DeclaredFits p (declaration_typed d x).value
declaration_fits p d (source.Constant at x initial) none within all =
    let initializer = initializer_of d.checker at initial in
    constant_fits p d at x.name initial x.declared initializer.value (no_right initializer.faults _ none) within all
declaration_fits p d (source.Function at name parameters result body) none within all =
    declared_function_fits p d at name parameters result body (kind name.bytes parameters result) none within all (each_kind p name.bytes parameters result)

declarations_fit : (p : ProgramTree) (d : DeclaredTree) (xs : List DeclarationTree) → (declarations_typed d xs).faults ≡ [] → WithinProgram p (declarations_typed d xs).value
    → DeclaredFits p d → DeclaredFits p (declarations_typed d xs).value
declarations_fit p d [] none within all = all
declarations_fit p d (x ∷ others) none within all =
    let e = declaration_typed d x in
    let rest = declarations_typed e.value others in
    declarations_fit p e.value others (no_right e.faults rest.faults none) within
    (declaration_fits p d x (no_left e.faults rest.faults none) (declarations_before p e.value others within) all)

-- as many constant sets are declared as were counted
constant_sets : (d : DeclaredTree) (at : ℕ) (name : Identifier) (initial : InitialTree) (type : DeclaredType) (initializer : InitializerTree) (n : ℕ)
    → length (declare_constant_as d at name initial type initializer).value.sets + n ≡ length d.sets + counting type n
constant_sets d at name initial declared.Int initializer n = refl
constant_sets d at name initial declared.Bool initializer n = refl
constant_sets d at name initial declared.Vertex initializer n = refl
constant_sets d at name initial declared.VertexSet initializer n = omega (arith, length-append d.sets (next_name d ∷ []))
constant_sets d at name initial declared.Vector initializer n = refl
constant_sets d at name initial declared.EdgeSet initializer n = refl
constant_sets d at name initial declared.WeightedEdgeSet initializer n = refl

with_main_sets : (e : DeclaredTree) (fits : Bool) (main : BlockTree) → (with_main_block e fits main).sets ≡ e.sets
with_main_sets e true main = refl
with_main_sets e false main = refl

function_sets : (d : DeclaredTree) (at : ℕ) (name : Identifier) (parameters : List ParameterTree) (result : Option ParameterTree) (body : source.BlockTree) (kind : FunctionKindTree)
    → (declare_function d at name parameters result body kind).value.sets ≡ d.sets
function_sets d at name parameters result body (MainKind fits) =
    let b = (statements_typed (opened (restarted d.checker) (MainKind fits) parameters result).value Empty body).value in
    with_main_sets (declare_name (around d b.1) name entity.Main).value fits b.0
function_sets d at name parameters result body (EdgeKind weighted) = refl
function_sets d at name parameters result body VertexKind = refl
function_sets d at name parameters result body FilterKind = refl
function_sets d at name parameters result body NoKind = refl

pub sets_counted : (d : DeclaredTree) (xs : List DeclarationTree) → length (declarations_typed d xs).value.sets ≡ length d.sets + set_count xs
sets_counted d [] = omega arith
sets_counted d (source.Constant at x initial ∷ others) =
    sets_counted (declaration_typed d (source.Constant at x initial)).value others
    ∙ constant_sets d at x.name initial x.declared (initializer_of d.checker at initial).value (set_count others)
sets_counted d (source.Function at name parameters result body ∷ others) =
    sets_counted (declaration_typed d (source.Function at name parameters result body)).value others
    ∙ ap (λ sets. length sets + set_count others) (function_sets d at name parameters result body (kind name.bytes parameters result))

-- the program of a source
main_resolved : (p : ProgramTree) (length : ℕ) (main : Option BlockTree) → MainIsResolved p main → BlockIsResolved p (in_main p) (main_of length main).value
main_resolved p length None resolved = tt
main_resolved p length (Some main) resolved = resolved

no_declarations_fit : (p : ProgramTree) (n : ℕ) → length p.sets ≡ n → DeclaredFits p (no_declarations n)
no_declarations_fit p n counted = ((record { integers = refl; conditions = refl; sets = sym counted; known = (λ main. refl, tt) }, refl), tt, tt, tt, tt, tt, tt, tt)

pub program_resolved : (source : SourceTree) (length : ℕ) → (program_of source length).faults ≡ [] → IsResolved (program_of source length).value
program_resolved source length none =
    let p = (program_of source length).value in
    let start = no_declarations (set_count source.declarations) in
    let d = declarations_typed start source.declarations in
    let counted = sets_counted start source.declarations in
    let within : WithinProgram p d.value = ((omega arith, omega arith), omega arith, omega arith, omega arith, omega arith, λ k x is. is) in
    let all = declarations_fit p start source.declarations (no_left d.faults _ none) within (no_declarations_fit p (set_count source.declarations) (omega (arith, counted))) in
    record {
      edges = all.1;
      vectors = all.2;
      sets = all.3;
      edge_functions = all.4;
      vertex_functions = all.5;
      filters = all.6;
      main = main_resolved p length d.value.main all.7;
    }
