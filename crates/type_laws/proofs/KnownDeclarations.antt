-- What names stand for after a declaration, and at the first statement of a function, in a source without a fault.
use Rattle.std.proofs.Common.{◌≡◌, ◌⊎◌, inl, inr, refl, sym, subst, ◌&&◌, ℕ, pos, Bool, true, false, if◌then◌else◌, List, [], ◌∷◌, ◌++◌, length, Option, Some, None}
use Rattle.syntax.specs.Terminals.{Identifier}
use Rattle.syntax.specs.declared.declaration.DeclaredType.{DeclaredType}
use Rattle.syntax.specs.declared.declaration.DeclaredType.TheVariants as declared
use Rattle.syntax.specs.SourceTrees as source
use Rattle.syntax.specs.SourceTrees.{ParameterTree, InitialTree, DeclarationTree}
use Rattle.typed_tree.specs.declared.expression.Endpoint.{Endpoint}
use Rattle.typed_tree.specs.declared.expression.Endpoint.TheVariants as endpoint
use Rattle.typed_tree.specs.BlockTree.{BlockTree, Empty}
use Rattle.typed_tree.specs.FunctionStatementTree.{FunctionStatementsTree, NoStep}
use Rattle.expression_types.specs.declared.scope.Entity.{Entity}
use Rattle.expression_types.specs.declared.scope.Entity.TheVariants as entity
use Rattle.expression_types.specs.declared.scope.Inside.{Inside}
use Rattle.expression_types.specs.declared.scope.Inside.TheVariants as inside
use Rattle.expression_types.specs.ScopeTree.{entered}
use Rattle.types.specs.Block.{statements_typed}
use Rattle.initializer_types.specs.Checker.{CheckerTree, condition_slot, declared_in, restarted, in_scope}
use Rattle.initializer_types.specs.DeclarationForms.{FunctionKindTree, MainKind, EdgeKind, VertexKind, FilterKind, NoKind, is_vertex_type, kind, is_int_type, literal_condition, literal_integer}
use Rattle.types.specs.Declaration.{DeclaredTree, begins, declaration_typed, declare_constant_as, declare_function, declare_name}
use Rattle.types.specs.Declaration.{function_declared, has_all, inside_of, kind_fits, literal_or_fault, loads, main_declared, next_name, only_edges, opened, parameter}
use Rattle.types.specs.Declaration.{parameters_declared, result_declared, steps_declared, with_main_block, takes_weight}
use Rattle.initializer_types.specs.Initial.{InitializerTree, initializer_of, is_sound}
use Rattle.types.specs.Step.{steps_typed, with_writes}
use Rattle.type_laws.proofs.EachDeclaration.{IsUserKind}
use Rattle.type_laws.proofs.Faultless.{no_left, no_right, not_empty}
use Rattle.type_laws.proofs.Booleans.{false_is_not_true}
use Rattle.type_laws.proofs.KnownScopes.{EntityIsKnown, IsKnown, Vertices, becomes_known, declared_known, nowhere}

-- parameters, which are vertices, or the weight
abbrev pub ParameterFits : Bool → Vertices → Endpoint → ParameterTree → Type 0
ParameterFits w At p v = ((is_vertex_type v.declared ≡ true) × At p v.name.bytes) ⊎ ((w ≡ true) × (is_int_type v.declared ≡ true))

abbrev pub ParametersFit : Bool → Vertices → Endpoint → List ParameterTree → Type 0
ParametersFit w At p [] = Unit {0}
ParametersFit w At p (v ∷ others) = ParameterFits w At p v × ParametersFit w At endpoint.Destination others

vertex_known : (At : Vertices) (p : Endpoint) (name : List ℕ) (b : Bool) (other : Entity) → b ≡ true → At p name → EntityIsKnown At name (if b then entity.Parameter p else other)
vertex_known At p name true other is there = there
vertex_known At p name false other is there = absurd cc

pub int_type : (type : DeclaredType) → is_int_type type ≡ true → type ≡ declared.Int
int_type declared.Int is = refl
int_type declared.Bool is = absurd (false_is_not_true is)
int_type declared.Vertex is = absurd (false_is_not_true is)
int_type declared.VertexSet is = absurd (false_is_not_true is)
int_type declared.Vector is = absurd (false_is_not_true is)
int_type declared.EdgeSet is = absurd (false_is_not_true is)
int_type declared.WeightedEdgeSet is = absurd (false_is_not_true is)

weight_known : (w : Bool) (At : Vertices) (p : Endpoint) (name : List ℕ) (type : DeclaredType) → w ≡ true → type ≡ declared.Int → EntityIsKnown At name (parameter w p type)
weight_known w At p name type is int =
    subst (λ w. EntityIsKnown At name (parameter w p type)) (sym is) (subst (λ t. EntityIsKnown At name (parameter true p t)) (sym int) tt)

parameter_known : (w : Bool) (At : Vertices) (p : Endpoint) (v : ParameterTree) → ParameterFits w At p v → EntityIsKnown At v.name.bytes (parameter w p v.declared)
parameter_known w At p v fits =
    elim fits [
      | inl vertex ↦ vertex_known At p v.name.bytes (is_vertex_type v.declared) (if w && is_int_type v.declared then entity.Weight else entity.Error) vertex.0 vertex.1
      | inr weight ↦ weight_known w At p v.name.bytes v.declared weight.0 (int_type v.declared weight.1)
    ]

parameters_known : (w : Bool) (At : Vertices) (i : Inside) (c : CheckerTree) (p : Endpoint) (parameters : List ParameterTree) → ParametersFit w At p parameters → IsKnown At i c.scope
    → (parameters_declared w c p parameters).faults ≡ [] → IsKnown At i (parameters_declared w c p parameters).value.scope
parameters_known w At i c p [] fit known none = known
parameters_known w At i c p (v ∷ others) fit known none =
    let e = parameter w p v.declared in
    let d = declared_in c v.name e in
    let rest = parameters_declared w d.value endpoint.Destination others in
    let first = declared_known At i c v.name e known (parameter_known w At p v fit.0) (no_left d.faults rest.faults none) in
    parameters_known w At i d.value endpoint.Destination others fit.1 first (no_right d.faults rest.faults none)

-- a result, which only a filter has
abbrev pub ResultFits : FunctionKindTree → Option ParameterTree → Type 0
ResultFits kind None = Unit {0}
ResultFits (MainKind fits) (Some result) = ⊥
ResultFits (EdgeKind weighted) (Some result) = ⊥
ResultFits VertexKind (Some result) = ⊥
ResultFits FilterKind (Some result) = Unit {0}
ResultFits NoKind (Some result) = ⊥

result_known : (At : Vertices) (i : Inside) (c : CheckerTree) (kind : FunctionKindTree) (result : Option ParameterTree) → ResultFits kind result → IsKnown At i c.scope
    → (result_declared c kind result).faults ≡ [] → IsKnown At i (result_declared c kind result).value.scope
result_known At i c kind None fits known none = known
result_known At i c (MainKind main) (Some result) fits known none = absurd fits
result_known At i c (EdgeKind weighted) (Some result) fits known none = absurd fits
result_known At i c VertexKind (Some result) fits known none = absurd fits
result_known At i c FilterKind (Some result) fits known none = declared_known At i c result.name (entity.BoolVariable (condition_slot c)) known tt none
result_known At i c NoKind (Some result) fits known none = absurd fits

pub opened_known : (At : Vertices) (c : CheckerTree) (kind : FunctionKindTree) (parameters : List ParameterTree) (result : Option ParameterTree)
    → ParametersFit (takes_weight kind) At endpoint.Source parameters
    → ResultFits kind result → IsKnown nowhere inside.Main c.scope → (opened c kind parameters result).faults ≡ [] → IsKnown At (inside_of kind) (opened c kind parameters result).value.scope
opened_known At c kind parameters result fit fits known none =
    let e = with_writes (in_scope c (entered (inside_of kind) c.scope)) [] in
    let d = parameters_declared (takes_weight kind) e endpoint.Source parameters in
    let r = result_declared d.value kind result in
    let first = parameters_known (takes_weight kind) At (inside_of kind) e endpoint.Source parameters fit (refl, becomes_known At c.scope.visible known.1) (no_left d.faults r.faults none) in
    result_known At (inside_of kind) d.value kind result fits first (no_right d.faults r.faults none)

-- declarations
abbrev pub AllKnown : DeclaredTree → Type 0
AllKnown d = IsKnown nowhere inside.Main d.checker.scope

name_known : (d : DeclaredTree) (name : Identifier) (e : Entity) → AllKnown d → EntityIsKnown nowhere name.bytes e → (declare_name d name e).faults ≡ []
    → AllKnown (declare_name d name e).value
name_known d name e known is none = declared_known nowhere inside.Main d.checker name e known is (no_left (declared_in d.checker name e).faults [] none)

constant_known : (d : DeclaredTree) (at : ℕ) (name : Identifier) (initial : InitialTree) (type : DeclaredType) (initializer : InitializerTree) → AllKnown d
    → (declare_constant_as d at name initial type initializer).faults ≡ [] → AllKnown (declare_constant_as d at name initial type initializer).value
constant_known d at name initial declared.Int initializer known none =
    let n = literal_or_fault at (is_sound initializer) (pos 0) (literal_integer initial) in
    name_known d name (entity.IntConstant (next_name d) n.value) known tt (no_right n.faults _ none)
constant_known d at name initial declared.Bool initializer known none =
    let b = literal_or_fault at (is_sound initializer) false (literal_condition initial) in
    name_known d name (entity.BoolConstant (next_name d) b.value) known tt (no_right b.faults _ none)
constant_known d at name initial declared.Vertex initializer known none = absurd (not_empty _ _ none)
constant_known d at name initial declared.VertexSet initializer known none =
    let e = entity.ConstantSet (record { index = length d.sets; name = next_name d }) in
    name_known d name e known tt (no_left (declare_name d name e).faults [] (no_right (has_all at initializer).faults _ none))
constant_known d at name initial declared.Vector initializer known none =
    let e = entity.Vector (length d.vectors) in
    name_known d name e known tt (no_left (declare_name d name e).faults [] (no_right (begins at initializer initial).faults _ none))
constant_known d at name initial declared.EdgeSet initializer known none =
    let only = only_edges name (next_name d) d.edges in
    name_known d name (entity.Edges false) known tt
    (no_left (declare_name d name (entity.Edges false)).faults [] (no_right only.faults ((declare_name d name (entity.Edges false)).faults ++ []) (no_right (loads at initializer).faults _ none)))
constant_known d at name initial declared.WeightedEdgeSet initializer known none =
    let only = only_edges name (next_name d) d.edges in
    name_known d name (entity.Edges true) known tt
    (no_left (declare_name d name (entity.Edges true)).faults [] (no_right only.faults ((declare_name d name (entity.Edges true)).faults ++ []) (no_right (loads at initializer).faults _ none)))

function_known : (d : DeclaredTree) (at : ℕ) (kind : FunctionKindTree) (name : Identifier) (steps : FunctionStatementsTree) → IsUserKind kind → (kind_fits at kind).faults ≡ [] → AllKnown d
    → (function_declared d kind name steps).faults ≡ [] → AllKnown (function_declared d kind name steps).value
function_known d at (MainKind fits) name steps user sound known none = absurd user
function_known d at (EdgeKind weighted) name steps user sound known none =
    let e = entity.EdgeFunction (length d.edge_functions) weighted in name_known d name e known tt (no_left (declare_name d name e).faults [] none)
function_known d at VertexKind name steps user sound known none =
    let e = entity.VertexFunction (length d.vertex_functions) in name_known d name e known tt (no_left (declare_name d name e).faults [] none)
function_known d at FilterKind name steps user sound known none =
    let e = entity.Filter (length d.filters) in name_known d name e known tt (no_left (declare_name d name e).faults [] none)
function_known d at NoKind name steps user sound known none = absurd (not_empty _ _ sound)

steps_known : (d : DeclaredTree) (at : ℕ) (kind : FunctionKindTree) (name : Identifier) (parameters : List ParameterTree) (result : Option ParameterTree) (body : source.BlockTree) → IsUserKind kind
    → AllKnown d → (steps_declared d at kind name parameters result body).faults ≡ [] → AllKnown (steps_declared d at kind name parameters result body).value
steps_known d at kind name parameters result body user known none =
    let f = kind_fits at kind in
    let c = opened d.checker kind parameters result in
    let b = steps_typed c.value NoStep body in
    let around = record d { checker = in_scope b.value.1 d.checker.scope } in
    let g = function_declared around kind name b.value.0 in
    let behind = no_right c.faults (b.faults ++ g.faults) (no_right f.faults (c.faults ++ (b.faults ++ g.faults)) none) in
    function_known around at kind name b.value.0 user (no_left f.faults (c.faults ++ (b.faults ++ g.faults)) none) known (no_right b.faults g.faults behind)

with_main_known : (e : DeclaredTree) (fits : Bool) (main : BlockTree) → AllKnown e → AllKnown (with_main_block e fits main)
with_main_known e true main known = known
with_main_known e false main known = known

main_known : (d : DeclaredTree) (fits : Bool) (name : Identifier) (parameters : List ParameterTree) (result : Option ParameterTree) (body : source.BlockTree) → AllKnown d
    → (main_declared d fits name parameters result body).faults ≡ [] → AllKnown (main_declared d fits name parameters result body).value
main_known d fits name parameters result body known none =
    let c = opened (restarted d.checker) (MainKind fits) parameters result in
    let b = statements_typed c.value Empty body in
    let around = record d { checker = in_scope b.value.1 d.checker.scope } in
    let e = declare_name around name entity.Main in
    let both = no_right c.faults (b.faults ++ (e.faults ++ [])) none in
    with_main_known e.value fits b.value.0 (name_known around name entity.Main known tt (no_left e.faults [] (no_right b.faults (e.faults ++ []) both)))

each_function_known : (d : DeclaredTree) (at : ℕ) (name : Identifier) (parameters : List ParameterTree) (result : Option ParameterTree) (body : source.BlockTree) (kind : FunctionKindTree) → AllKnown d
    → (declare_function d at name parameters result body kind).faults ≡ [] → AllKnown (declare_function d at name parameters result body kind).value
each_function_known d at name parameters result body (MainKind fits) known none = main_known d fits name parameters result body known none
each_function_known d at name parameters result body (EdgeKind weighted) known none = steps_known d at (EdgeKind weighted) name parameters result body tt known none
each_function_known d at name parameters result body VertexKind known none = steps_known d at VertexKind name parameters result body tt known none
each_function_known d at name parameters result body FilterKind known none = steps_known d at FilterKind name parameters result body tt known none
each_function_known d at name parameters result body NoKind known none = steps_known d at NoKind name parameters result body tt known none

pub declaration_known : (d : DeclaredTree) (x : DeclarationTree) → AllKnown d → (declaration_typed d x).faults ≡ [] → AllKnown (declaration_typed d x).value
declaration_known d (source.Constant at x initial) known none =
    let initializer = initializer_of d.checker at initial in constant_known d at x.name initial x.declared initializer.value known (no_right initializer.faults _ none)
declaration_known d (source.Function at name parameters result body) known none =
    each_function_known d at name parameters result body (kind name.bytes parameters result) known none
