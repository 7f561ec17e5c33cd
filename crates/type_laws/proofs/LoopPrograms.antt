-- A program without a fault assigns no variable of a `for` inside its body.
use Rattle.std.proofs.Common.{◌≡◌, refl, ℕ, pos, Bool, true, false, ◌&&◌, if◌then◌else◌, List, [], ◌∷◌, ◌++◌, length, Option, Some, None}
use Rattle.syntax.specs.Terminals.{Identifier}
use Rattle.syntax.specs.declared.declaration.DeclaredType.{DeclaredType}
use Rattle.syntax.specs.declared.declaration.DeclaredType.TheVariants as declared
use Rattle.syntax.specs.SourceTrees as source
use Rattle.syntax.specs.SourceTrees.{ParameterTree, InitialTree, DeclarationTree, SourceTree}
use Rattle.typed_tree.specs.declared.expression.Endpoint.{Endpoint}
use Rattle.typed_tree.specs.declared.expression.Endpoint.TheVariants as endpoint
use Rattle.typed_tree.specs.BlockTree.{BlockTree, Empty}
use Rattle.typed_tree.specs.FunctionStatementTree.{FunctionStatementsTree, NoStep}
use Rattle.expression_types.specs.declared.scope.Entity.{Entity}
use Rattle.expression_types.specs.declared.scope.Entity.TheVariants as entity
use Rattle.expression_types.specs.declared.scope.Inside.TheVariants as inside
use Rattle.expression_types.specs.ScopeTree.{entered, integers_of}
use Rattle.types.specs.Block.{statements_typed}
use Rattle.initializer_types.specs.Checker.{CheckerTree, declared_in, restarted, in_scope}
use Rattle.initializer_types.specs.DeclarationForms.{FunctionKindTree, MainKind, EdgeKind, VertexKind, FilterKind, NoKind, is_int_type, is_vertex_type, kind, literal_condition, literal_integer}
use Rattle.types.specs.Declaration.{DeclaredTree, begins, declaration_typed, declarations_typed, declare_constant_as}
use Rattle.types.specs.Declaration.{declare_function, declare_name, function_declared, has_all, kind_fits, literal_or_fault, loads, main_declared, next_name}
use Rattle.types.specs.Declaration.{only_edges, opened, parameter, parameters_declared, result_declared, steps_declared, with_main_block}
use Rattle.initializer_types.specs.Initial.{InitializerTree, initializer_of, is_sound}
use Rattle.types.specs.Program.{main_of, no_declarations, program_of, set_count}
use Rattle.types.specs.Step.{steps_typed, with_writes}
use Rattle.type_laws.specs.LoopVariables.{KeepsLoops, KeepsLoopVariables}
use Rattle.type_laws.proofs.Faultless.{no_left, no_right, not_empty}
use Rattle.type_laws.proofs.LoopStatements.{EntityIsOutside, LoopsFit, other_declared, statements_fit}

-- no integer is visible outside functions, and main assigns no variable of a loop
abbrev MainKeeps : Option BlockTree → Type 0
MainKeeps None = Unit {0}
MainKeeps (Some main) = KeepsLoops 0 [] main

abbrev DeclaredFits : DeclaredTree → Type 0
DeclaredFits d = LoopsFit [] 0 d.checker.scope × MainKeeps d.main

name_declared : (d : DeclaredTree) (name : Identifier) (e : Entity) → (declare_name d name e).faults ≡ [] → DeclaredFits d → integers_of e ≡ 0 → EntityIsOutside [] 0 e
    → DeclaredFits (declare_name d name e).value
name_declared d name e none fits no_integer own = (other_declared [] 0 d.checker name e (no_left (declared_in d.checker name e).faults [] none) fits.0 no_integer own, fits.1)

constant_fits : (d : DeclaredTree) (at : ℕ) (name : Identifier) (initial : InitialTree) (type : DeclaredType) (initializer : InitializerTree)
    → (declare_constant_as d at name initial type initializer).faults ≡ [] → DeclaredFits d → DeclaredFits (declare_constant_as d at name initial type initializer).value
constant_fits d at name initial declared.Int initializer none fits =
    let n = literal_or_fault at (is_sound initializer) (pos 0) (literal_integer initial) in
    name_declared d name (entity.IntConstant (next_name d) n.value) (no_right n.faults _ none) fits refl tt
constant_fits d at name initial declared.Bool initializer none fits =
    let b = literal_or_fault at (is_sound initializer) false (literal_condition initial) in
    name_declared d name (entity.BoolConstant (next_name d) b.value) (no_right b.faults _ none) fits refl tt
constant_fits d at name initial declared.Vertex initializer none fits = absurd (not_empty _ _ none)
constant_fits d at name initial declared.VertexSet initializer none fits =
    let e = entity.ConstantSet (record { index = length d.sets; name = next_name d }) in
    name_declared d name e (no_left (declare_name d name e).faults [] (no_right (has_all at initializer).faults _ none)) fits refl tt
constant_fits d at name initial declared.Vector initializer none fits =
    let e = entity.Vector (length d.vectors) in
    name_declared d name e (no_left (declare_name d name e).faults [] (no_right (begins at initializer initial).faults _ none)) fits refl tt
constant_fits d at name initial declared.EdgeSet initializer none fits =
    let only = only_edges name (next_name d) d.edges in
    let e = declare_name d name (entity.Edges false) in
    name_declared d name (entity.Edges false) (no_left e.faults [] (no_right only.faults (e.faults ++ []) (no_right (loads at initializer).faults _ none))) fits refl tt
constant_fits d at name initial declared.WeightedEdgeSet initializer none fits =
    let only = only_edges name (next_name d) d.edges in
    let e = declare_name d name (entity.Edges true) in
    name_declared d name (entity.Edges true) (no_left e.faults [] (no_right only.faults (e.faults ++ []) (no_right (loads at initializer).faults _ none))) fits refl tt

-- functions of users, after their statements
function_fits : (d : DeclaredTree) (kind : FunctionKindTree) (name : Identifier) (steps : FunctionStatementsTree) → (function_declared d kind name steps).faults ≡ [] → DeclaredFits d
    → DeclaredFits (function_declared d kind name steps).value
function_fits d (MainKind fits) name steps none all = name_declared d name entity.Error none all refl tt
function_fits d (EdgeKind weighted) name steps none all =
    let e = entity.EdgeFunction (length d.edge_functions) weighted in name_declared d name e (no_left (declare_name d name e).faults [] none) all refl tt
function_fits d VertexKind name steps none all =
    let e = entity.VertexFunction (length d.vertex_functions) in name_declared d name e (no_left (declare_name d name e).faults [] none) all refl tt
function_fits d FilterKind name steps none all = let e = entity.Filter (length d.filters) in name_declared d name e (no_left (declare_name d name e).faults [] none) all refl tt
function_fits d NoKind name steps none all = name_declared d name entity.Error none all refl tt

-- after the statements of a function the scope around it is visible again
abbrev around : DeclaredTree → CheckerTree → DeclaredTree
around d c = record d { checker = in_scope c d.checker.scope }

steps_fit : (d : DeclaredTree) (at : ℕ) (kind : FunctionKindTree) (name : Identifier) (parameters : List ParameterTree) (result : Option ParameterTree) (body : source.BlockTree)
    → (steps_declared d at kind name parameters result body).faults ≡ [] → DeclaredFits d → DeclaredFits (steps_declared d at kind name parameters result body).value
steps_fit d at kind name parameters result body none all =
    let c = opened d.checker kind parameters result in
    let b = steps_typed c.value NoStep body in
    let f = function_declared (around d b.value.1) kind name b.value.0 in
    let both = no_right c.faults (b.faults ++ f.faults) (no_right (kind_fits at kind).faults _ none) in
    function_fits (around d b.value.1) kind name b.value.0 (no_right b.faults f.faults both) all

-- main
parameter_outside : (at : Endpoint) (vertex weight : Bool) → EntityIsOutside [] 0 (if vertex then entity.Parameter at else (if weight then entity.Weight else entity.Error))
parameter_outside at true weight = tt
parameter_outside at false true = tt
parameter_outside at false false = tt

parameter_integers : (at : Endpoint) (vertex weight : Bool) → integers_of (if vertex then entity.Parameter at else (if weight then entity.Weight else entity.Error)) ≡ 0
parameter_integers at true weight = refl
parameter_integers at false true = refl
parameter_integers at false false = refl

parameters_fit : (w : Bool) (c : CheckerTree) (at : Endpoint) (parameters : List ParameterTree) → (parameters_declared w c at parameters).faults ≡ [] → LoopsFit [] 0 c.scope
    → LoopsFit [] 0 (parameters_declared w c at parameters).value.scope
parameters_fit w c at [] none fits = fits
parameters_fit w c at (x ∷ others) none fits =
    let e = parameter w at x.declared in
    let d = declared_in c x.name e in
    let rest = parameters_declared w d.value endpoint.Destination others in
    let weight = w && is_int_type x.declared in
    let first = other_declared [] 0 c x.name e (no_left d.faults rest.faults none) fits (parameter_integers at (is_vertex_type x.declared) weight)
    (parameter_outside at (is_vertex_type x.declared) weight) in
    parameters_fit w d.value endpoint.Destination others (no_right d.faults rest.faults none) first

result_fits : (c : CheckerTree) (fits : Bool) (result : Option ParameterTree) → (result_declared c (MainKind fits) result).faults ≡ [] → LoopsFit [] 0 c.scope
    → LoopsFit [] 0 (result_declared c (MainKind fits) result).value.scope
result_fits c fits None none all = all
result_fits c fits (Some result) none all = other_declared [] 0 c result.name entity.Error none all refl tt

main_opened : (c : CheckerTree) (fits : Bool) (parameters : List ParameterTree) (result : Option ParameterTree) → (opened c (MainKind fits) parameters result).faults ≡ []
    → LoopsFit [] 0 c.scope → LoopsFit [] 0 (opened c (MainKind fits) parameters result).value.scope
main_opened c fits parameters result none all =
    let e = with_writes (in_scope c (entered inside.Main c.scope)) [] in
    let d = parameters_declared false e endpoint.Source parameters in
    let r = result_declared d.value (MainKind fits) result in
    let start : LoopsFit [] 0 e.scope = record { count = all.count; below = tt; known = all.known } in
    result_fits d.value fits result (no_right d.faults r.faults none) (parameters_fit false e endpoint.Source parameters (no_left d.faults r.faults none) start)

with_main_fits : (e : DeclaredTree) (fits : Bool) (main : BlockTree) → DeclaredFits e → KeepsLoops 0 [] main → DeclaredFits (with_main_block e fits main)
with_main_fits e true main all keeps = (all.0, keeps)
with_main_fits e false main all keeps = all

main_fits : (d : DeclaredTree) (fits : Bool) (name : Identifier) (parameters : List ParameterTree) (result : Option ParameterTree) (body : source.BlockTree)
    → (main_declared d fits name parameters result body).faults ≡ [] → DeclaredFits d → DeclaredFits (main_declared d fits name parameters result body).value
main_fits d fits name parameters result body none all =
    let c = opened (restarted d.checker) (MainKind fits) parameters result in
    let b = statements_typed c.value Empty body in
    let e = declare_name (around d b.value.1) name entity.Main in
    let both = no_right c.faults (b.faults ++ (e.faults ++ [])) none in
    let first = main_opened (restarted d.checker) fits parameters result (no_left c.faults (b.faults ++ (e.faults ++ [])) none) all.0 in
    let inner = statements_fit [] 0 c.value Empty body (no_left b.faults (e.faults ++ []) both) tt first in
    with_main_fits e.value fits b.value.0 (name_declared (around d b.value.1) name entity.Main (no_left e.faults [] (no_right b.faults (e.faults ++ []) both)) all refl tt) inner.0

-- declarations
declared_function_fits : (d : DeclaredTree) (at : ℕ) (name : Identifier) (parameters : List ParameterTree) (result : Option ParameterTree) (body : source.BlockTree) (kind : FunctionKindTree)
    → (declare_function d at name parameters result body kind).faults ≡ [] → DeclaredFits d → DeclaredFits (declare_function d at name parameters result body kind).value
declared_function_fits d at name parameters result body (MainKind fits) none all = main_fits d fits name parameters result body none all
declared_function_fits d at name parameters result body (EdgeKind weighted) none all = steps_fit d at (EdgeKind weighted) name parameters result body none all
declared_function_fits d at name parameters result body VertexKind none all = steps_fit d at VertexKind name parameters result body none all
declared_function_fits d at name parameters result body FilterKind none all = steps_fit d at FilterKind name parameters result body none all
declared_function_fits d at name parameters result body NoKind none all = steps_fit d at NoKind name parameters result body none all

declaration_fits : (d : DeclaredTree) (x : DeclarationTree) → (declaration_typed d x).faults ≡ [] → DeclaredFits d → DeclaredFits (declaration_typed d x).value
declaration_fits d (source.Constant at x initial) none all =
    let initializer = initializer_of d.checker at initial in constant_fits d at x.name initial x.declared initializer.value (no_right initializer.faults _ none) all
declaration_fits d (source.Function at name parameters result body) none all =
    declared_function_fits d at name parameters result body (kind name.bytes parameters result) none all

declarations_fit : (d : DeclaredTree) (xs : List DeclarationTree) → (declarations_typed d xs).faults ≡ [] → DeclaredFits d → DeclaredFits (declarations_typed d xs).value
declarations_fit d [] none all = all
declarations_fit d (x ∷ others) none all =
    let e = declaration_typed d x in
    let rest = declarations_typed e.value others in
    declarations_fit e.value others (no_right e.faults rest.faults none) (declaration_fits d x (no_left e.faults rest.faults none) all)

main_keeps : (length : ℕ) (main : Option BlockTree) → MainKeeps main → KeepsLoops 0 [] (main_of length main).value
main_keeps length None keeps = tt
main_keeps length (Some main) keeps = keeps

pub keeps_loop_variables : (source : SourceTree) (length : ℕ) → (program_of source length).faults ≡ [] → KeepsLoopVariables (program_of source length).value
keeps_loop_variables source length none =
    let start = no_declarations (set_count source.declarations) in
    let d = declarations_typed start source.declarations in
    let before : LoopsFit [] 0 start.checker.scope = record { count = refl; below = tt; known = tt } in
    main_keeps length d.value.main (declarations_fit start source.declarations (no_left d.faults _ none) (before, tt)).1
