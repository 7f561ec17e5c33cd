-- Typing of declarations.
use Rattle.std.specs.Prelude.{[], ℕ, pos, Bool, true, false, not, ◌&&◌, ◌||◌, if◌then◌else◌, List, ◌∷◌, ◌++◌, length, Option, Some, None}
use Rattle.syntax.specs.Terminals.{Identifier}
use Rattle.syntax.specs.declared.declaration.DeclaredType.{DeclaredType}
use Rattle.syntax.specs.SourceTrees.{ParameterTree, InitialTree, DeclarationTree, Constant, Function}
use Rattle.syntax.specs.declared.declaration.DeclaredType.TheVariants as declared
use Rattle.syntax.specs.SourceTrees as source
use Rattle.typed_tree.specs.declared.expression.Endpoint.{Endpoint}
use Rattle.typed_tree.specs.declared.program.InitialValue.{InitialValue}
use Rattle.typed_tree.specs.declared.program.Vector.{Vector}
use Rattle.typed_tree.specs.BlockTree.{BlockTree, Empty}
use Rattle.typed_tree.specs.FunctionStatementTree.{FunctionTree, FunctionStatementsTree, NoStep}
use Rattle.typed_tree.specs.declared.expression.Endpoint.TheVariants as endpoint
use Rattle.typed_tree.specs.declared.program.InitialValue.TheVariants as beginning
use Rattle.expression_types.specs.declared.scope.Entity.{Entity}
use Rattle.expression_types.specs.declared.scope.Inside.{Inside}
use Rattle.expression_types.specs.Faults.{WithFaults, sure, fault_at, ◌>>=◌}
use Rattle.expression_types.specs.ScopeTree.{entered}
use Rattle.expression_types.specs.declared.fault.TypeRule.TheVariants as rule
use Rattle.expression_types.specs.declared.scope.Entity.TheVariants as entity
use Rattle.expression_types.specs.declared.scope.Inside.TheVariants as inside
use Rattle.types.specs.Block.{statements_typed}
use Rattle.initializer_types.specs.Checker.{CheckerTree, condition_slot, in_scope, declared_in, restarted}
use Rattle.initializer_types.specs.Initial.{InitializerTree, ErrorInitializer, is_all, is_degrees, is_loaded, is_sound, initializer_of}
use Rattle.initializer_types.specs.DeclarationForms.{FunctionKindTree, MainKind, EdgeKind, VertexKind, FilterKind, NoKind, is_int_type, is_vertex_type, kind, literal_integer, literal_condition}
use Rattle.types.specs.Step.{steps_typed, with_writes}

-- what was declared so far, beside what the checker knows
pub record DeclaredTree : Type 0 where
  pub checker : CheckerTree
  pub edges : Option ℕ
  pub vectors : List Vector
  pub sets : List ℕ
  pub edge_functions : List FunctionTree
  pub vertex_functions : List FunctionTree
  pub filters : List FunctionTree
  pub main : Option BlockTree

-- the next name is this
abbrev pub next_name : DeclaredTree → ℕ
next_name d = length d.checker.names

-- a name is declared
abbrev pub declare_name : DeclaredTree → Identifier → Entity → WithFaults DeclaredTree
declare_name d name entity = declared_in d.checker name entity >>= λ c. sure (record d { checker = c })

-- A constant is a literal; one with a faulty part breaks no further rule.
abbrev pub literal_or_fault : {A : Type 0} → ℕ → Bool → A → Option A → WithFaults A
literal_or_fault at sound other (Some x) = sure x
literal_or_fault at true other None = fault_at at rule.WrongType other
literal_or_fault at false other None = sure other

abbrev pub declare_int : DeclaredTree → ℕ → Identifier → InitializerTree → InitialTree → WithFaults DeclaredTree
declare_int d at name initializer initial =
    literal_or_fault at (is_sound initializer) (pos 0) (literal_integer initial) >>= λ n. declare_name d name (entity.IntConstant (next_name d) n)

abbrev pub declare_bool : DeclaredTree → ℕ → Identifier → InitializerTree → InitialTree → WithFaults DeclaredTree
declare_bool d at name initializer initial =
    literal_or_fault at (is_sound initializer) false (literal_condition initial) >>= λ b. declare_name d name (entity.BoolConstant (next_name d) b)

-- a constant vertex set has all vertices, and the next index of constant sets
abbrev pub wanted : ℕ → Bool → WithFaults InitializerTree
wanted at true = sure ErrorInitializer
wanted at false = fault_at at rule.WrongType ErrorInitializer

abbrev pub has_all : ℕ → InitializerTree → WithFaults InitializerTree
has_all at initializer = wanted at (not (is_sound initializer) || is_all initializer)

abbrev pub declare_set : DeclaredTree → ℕ → Identifier → InitializerTree → WithFaults DeclaredTree
declare_set d at name initializer =
    has_all at initializer >>= λ g. declare_name d name (entity.ConstantSet (record { index = length d.sets; name = next_name d })) >>= λ e.
    sure (record e { sets = e.sets ++ next_name d ∷ [] })

-- a vector begins with a literal, or with the out-degrees
abbrev pub begins : ℕ → InitializerTree → InitialTree → WithFaults InitialValue
begins at initializer initial =
    if is_degrees initializer then sure beginning.OutDegrees
    else (literal_or_fault at (is_sound initializer) (pos 0) (literal_integer initial) >>= λ n. sure (beginning.Number n))

abbrev pub declare_vector : DeclaredTree → ℕ → Identifier → InitializerTree → InitialTree → WithFaults DeclaredTree
declare_vector d at name initializer initial =
    begins at initializer initial >>= λ b. declare_name d name (entity.Vector (length d.vectors)) >>= λ e.
    sure (record e { vectors = e.vectors ++ record { name = next_name d; beginning = b } ∷ [] })

-- the edges are loaded, and there is one constant of them
abbrev pub loads : ℕ → InitializerTree → WithFaults InitializerTree
loads at initializer = wanted at (not (is_sound initializer) || is_loaded initializer)

abbrev pub only_edges : Identifier → ℕ → Option ℕ → WithFaults (Option ℕ)
only_edges name index None = sure (Some index)
only_edges name index (Some old) = fault_at name.at rule.Redeclared (Some old)

abbrev pub declare_edges : Bool → DeclaredTree → ℕ → Identifier → InitializerTree → WithFaults DeclaredTree
declare_edges weights d at name initializer =
    loads at initializer >>= λ g. only_edges name (next_name d) d.edges >>= λ edges. declare_name d name (entity.Edges weights) >>= λ e. sure
    (record e { edges = edges })

-- a constant; none is a Vertex
abbrev pub declare_constant_as : DeclaredTree → ℕ → Identifier → InitialTree → DeclaredType → InitializerTree → WithFaults DeclaredTree
declare_constant_as d at name initial declared.Int initializer = declare_int d at name initializer initial
declare_constant_as d at name initial declared.Bool initializer = declare_bool d at name initializer initial
declare_constant_as d at name initial declared.Vertex initializer = fault_at at rule.WrongType d >>= λ d. declare_name d name entity.Error
declare_constant_as d at name initial declared.VertexSet initializer = declare_set d at name initializer
declare_constant_as d at name initial declared.Vector initializer = declare_vector d at name initializer initial
declare_constant_as d at name initial declared.EdgeSet initializer = declare_edges false d at name initializer
declare_constant_as d at name initial declared.WeightedEdgeSet initializer = declare_edges true d at name initializer

abbrev pub declare_constant : DeclaredTree → ℕ → ParameterTree → InitialTree → WithFaults DeclaredTree
declare_constant d at p initial = initializer_of d.checker at initial >>= declare_constant_as d at p.name initial p.declared

abbrev pub inside_of : FunctionKindTree → Inside
inside_of (MainKind fits) = inside.Main
inside_of (EdgeKind weighted) = inside.EdgeFunction
inside_of VertexKind = inside.VertexFunction
inside_of FilterKind = inside.Filter
inside_of NoKind = inside.VertexFunction

-- it is an edge function whose third parameter is the edge's weight
abbrev pub takes_weight : FunctionKindTree → Bool
takes_weight (MainKind fits) = false
takes_weight (EdgeKind weighted) = weighted
takes_weight VertexKind = false
takes_weight FilterKind = false
takes_weight NoKind = false

-- Parameters are vertices: the source, and any after the first the destination. One of type int is the weight, in a function that takes it.
-- One of another type has no clear meaning.
abbrev pub parameter : Bool → Endpoint → DeclaredType → Entity
parameter weighted p type = if is_vertex_type type then entity.Parameter p else (if weighted && is_int_type type then entity.Weight else entity.Error)

abbrev pub parameters_declared : Bool → CheckerTree → Endpoint → List ParameterTree → WithFaults CheckerTree
parameters_declared weighted c p [] = sure c
parameters_declared weighted c p (v ∷ others) =
    declared_in c v.name (parameter weighted p v.declared) >>= λ d. parameters_declared weighted d endpoint.Destination others

-- a filter's result is a condition, the first of its function
abbrev pub result_entity : CheckerTree → FunctionKindTree → Entity
result_entity c (MainKind fits) = entity.Error
result_entity c (EdgeKind weighted) = entity.Error
result_entity c VertexKind = entity.Error
result_entity c FilterKind = entity.BoolVariable (condition_slot c)
result_entity c NoKind = entity.Error

abbrev pub result_declared : CheckerTree → FunctionKindTree → Option ParameterTree → WithFaults CheckerTree
result_declared c kind None = sure c
result_declared c kind (Some result) = declared_in c result.name (result_entity c kind)

-- what is known at the first statement of a function
abbrev pub opened : CheckerTree → FunctionKindTree → List ParameterTree → Option ParameterTree → WithFaults CheckerTree
opened c kind parameters result =
    parameters_declared (takes_weight kind) (with_writes (in_scope c
    (entered (inside_of kind) c.scope)) []) endpoint.Source parameters >>= λ d. result_declared d kind result

-- a function is one of the kinds
abbrev pub kind_fits : ℕ → FunctionKindTree → WithFaults Bool
kind_fits at (MainKind fits) = sure true
kind_fits at (EdgeKind weighted) = sure true
kind_fits at VertexKind = sure true
kind_fits at FilterKind = sure true
kind_fits at NoKind = fault_at at rule.WrongType false

abbrev pub with_main_block : DeclaredTree → Bool → BlockTree → DeclaredTree
with_main_block d true main = record d { main = Some main }
with_main_block d false main = d

abbrev pub main_declared : DeclaredTree → Bool → Identifier → List ParameterTree → Option ParameterTree → source.BlockTree → WithFaults DeclaredTree
main_declared d fits name parameters result body =
    opened (restarted d.checker) (MainKind fits) parameters result >>= λ c. statements_typed c Empty body >>= λ b.
    declare_name (record d { checker = in_scope b.1 d.checker.scope }) name entity.Main >>= λ e. sure (with_main_block e fits b.0)

-- a function with its name and its statements
abbrev pub function_of : DeclaredTree → FunctionStatementsTree → FunctionTree
function_of d steps = record { name = next_name d; steps = steps }

-- what an edge function writes is kept
abbrev pub edge_function_declared : Bool → DeclaredTree → Identifier → FunctionTree → WithFaults DeclaredTree
edge_function_declared weighted d name f =
    declare_name d name (entity.EdgeFunction (length d.edge_functions) weighted) >>= λ e.
    sure (record e {
      edge_functions = e.edge_functions ++ f ∷ [];
      checker =
          record e.checker { written = e.checker.written ++ e.checker.writes ∷ []; writes = [] };
    })

abbrev pub function_declared : DeclaredTree → FunctionKindTree → Identifier → FunctionStatementsTree → WithFaults DeclaredTree
function_declared d (MainKind fits) name steps = declare_name d name entity.Error
function_declared d (EdgeKind weighted) name steps = edge_function_declared weighted d name (function_of d steps)
function_declared d VertexKind name steps =
    declare_name d name (entity.VertexFunction (length d.vertex_functions)) >>= λ e.
    sure (record e { vertex_functions = e.vertex_functions ++ function_of d steps ∷ [] })
function_declared d FilterKind name steps =
    declare_name d name (entity.Filter (length d.filters)) >>= λ e. sure (record e { filters = e.filters ++ function_of d steps ∷ [] })
function_declared d NoKind name steps = declare_name d name entity.Error

abbrev pub steps_declared : DeclaredTree → ℕ → FunctionKindTree → Identifier → List ParameterTree → Option ParameterTree → source.BlockTree
    → WithFaults DeclaredTree
steps_declared d at kind name parameters result body =
    kind_fits at kind >>= λ f. opened d.checker kind parameters result >>= λ c. steps_typed c NoStep body >>= λ b.
    function_declared (record d { checker = in_scope b.1 d.checker.scope }) kind name b.0

abbrev pub declare_function : DeclaredTree → ℕ → Identifier → List ParameterTree → Option ParameterTree → source.BlockTree → FunctionKindTree
    → WithFaults DeclaredTree
declare_function d at name parameters result body (MainKind fits) = main_declared d fits name parameters result body
declare_function d at name parameters result body (EdgeKind weighted) = steps_declared d at (EdgeKind weighted) name parameters result body
declare_function d at name parameters result body VertexKind = steps_declared d at VertexKind name parameters result body
declare_function d at name parameters result body FilterKind = steps_declared d at FilterKind name parameters result body
declare_function d at name parameters result body NoKind = steps_declared d at NoKind name parameters result body

abbrev pub declaration_typed : DeclaredTree → DeclarationTree → WithFaults DeclaredTree
declaration_typed d (Constant at p initial) = declare_constant d at p initial
declaration_typed d (Function at name parameters result body) = declare_function d at name parameters result body (kind name.bytes parameters result)

-- in the order of the text
abbrev pub declarations_typed : DeclaredTree → List DeclarationTree → WithFaults DeclaredTree
declarations_typed d [] = sure d
declarations_typed d (x ∷ others) = declaration_typed d x >>= λ e. declarations_typed e others
