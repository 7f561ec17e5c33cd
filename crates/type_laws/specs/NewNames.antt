-- Sources in which no visible name is declared again, and the edges once at most. A list of names has those that are visible, in the order of the text.
use Rattle.std.specs.Prelude.{◌≢◌, ℕ, ◌+◌, List, [], ◌∷◌, ◌++◌, Option, Some, None}
use Rattle.std.specs.List.{AllByRecursion}
use Rattle.syntax.specs.Terminals.{Identifier}
use Rattle.syntax.specs.declared.declaration.DeclaredType.{DeclaredType}
use Rattle.syntax.specs.declared.declaration.DeclaredType.TheVariants as declared
use Rattle.syntax.specs.SourceTrees.{ParameterTree, StatementKindTree, Declare, While, For, If, IfElse, Print, Assign, Reduce, SetEntry, ReduceEntry, AddVertex}
use Rattle.syntax.specs.SourceTrees.{Apply, BlockTree, Empty, Then, DeclarationTree, Constant, Function}

-- the visible names with one more
abbrev pub with_new : List (List ℕ) → Identifier → List (List ℕ)
with_new visible name = visible ++ name.bytes ∷ []

-- the name is none of those that are visible
abbrev pub IsNew : List (List ℕ) → Identifier → Type 0
IsNew visible name = AllByRecursion (λ other. name.bytes ≢ other) visible

-- what is visible after a statement: a declared variable, to the end of its block
abbrev pub names_after : List (List ℕ) → StatementKindTree → List (List ℕ)
names_after visible (Declare at variable initial) = with_new visible variable.name
names_after visible (While at test body) = visible
names_after visible (For at name first limit body) = visible
names_after visible (If at test body) = visible
names_after visible (IfElse at test body otherwise) = visible
names_after visible (Print at e) = visible
names_after visible (Assign name initial) = visible
names_after visible (Reduce name by e) = visible
names_after visible (SetEntry vector index e) = visible
names_after visible (ReduceEntry vector index by e) = visible
names_after visible (AddVertex set e) = visible
names_after visible (Apply target ends function) = visible

abbrev mutual
  -- each name that is declared in a statement is new where it is
  pub ActionDeclaresNew : List (List ℕ) → StatementKindTree → Type 0
  ActionDeclaresNew visible (Declare at variable initial) = IsNew visible variable.name
  ActionDeclaresNew visible (While at test body) = BlockDeclaresNew visible body
  ActionDeclaresNew visible (For at name first limit body) = IsNew visible name × BlockDeclaresNew (with_new visible name) body
  ActionDeclaresNew visible (If at test body) = BlockDeclaresNew visible body
  ActionDeclaresNew visible (IfElse at test body otherwise) = BlockDeclaresNew visible body × BlockDeclaresNew visible otherwise
  ActionDeclaresNew visible (Print at e) = Unit {0}
  ActionDeclaresNew visible (Assign name initial) = Unit {0}
  ActionDeclaresNew visible (Reduce name by e) = Unit {0}
  ActionDeclaresNew visible (SetEntry vector index e) = Unit {0}
  ActionDeclaresNew visible (ReduceEntry vector index by e) = Unit {0}
  ActionDeclaresNew visible (AddVertex set e) = Unit {0}
  ActionDeclaresNew visible (Apply target ends function) = Unit {0}

  pub BlockDeclaresNew : List (List ℕ) → BlockTree → Type 0
  BlockDeclaresNew visible Empty = Unit {0}
  BlockDeclaresNew visible (Then label action others) = ActionDeclaresNew visible action × BlockDeclaresNew (names_after visible action) others

-- parameters, one after the other, and a result
abbrev pub with_parameters : List (List ℕ) → List ParameterTree → List (List ℕ)
with_parameters visible [] = visible
with_parameters visible (p ∷ others) = with_parameters (with_new visible p.name) others

abbrev pub ParametersAreNew : List (List ℕ) → List ParameterTree → Type 0
ParametersAreNew visible [] = Unit {0}
ParametersAreNew visible (p ∷ others) = IsNew visible p.name × ParametersAreNew (with_new visible p.name) others

abbrev pub with_result_name : List (List ℕ) → Option ParameterTree → List (List ℕ)
with_result_name visible None = visible
with_result_name visible (Some result) = with_new visible result.name

abbrev pub ResultIsNew : List (List ℕ) → Option ParameterTree → Type 0
ResultIsNew visible None = Unit {0}
ResultIsNew visible (Some result) = IsNew visible result.name

-- what is visible in a function at its first statement
abbrev pub names_inside : List (List ℕ) → List ParameterTree → Option ParameterTree → List (List ℕ)
names_inside visible parameters result = with_result_name (with_parameters visible parameters) result

abbrev pub FunctionDeclaresNew : List (List ℕ) → List ParameterTree → Option ParameterTree → BlockTree → Type 0
FunctionDeclaresNew visible parameters result body =
    ParametersAreNew visible parameters × ResultIsNew (with_parameters visible parameters) result
    × BlockDeclaresNew (names_inside visible parameters result) body

-- The name of a function is visible after its end.
abbrev pub DeclarationDeclaresNew : List (List ℕ) → DeclarationTree → Type 0
DeclarationDeclaresNew visible (Constant at p initial) = IsNew visible p.name
DeclarationDeclaresNew visible (Function at name parameters result body) = FunctionDeclaresNew visible parameters result body × IsNew visible name

abbrev pub with_declaration : List (List ℕ) → DeclarationTree → List (List ℕ)
with_declaration visible (Constant at p initial) = with_new visible p.name
with_declaration visible (Function at name parameters result body) = with_new visible name

abbrev pub DeclarationsDeclareNew : List (List ℕ) → List DeclarationTree → Type 0
DeclarationsDeclareNew visible [] = Unit {0}
DeclarationsDeclareNew visible (x ∷ others) = DeclarationDeclaresNew visible x × DeclarationsDeclareNew (with_declaration visible x) others

-- 1 for the type of the edges
abbrev pub edge_type_count : DeclaredType → ℕ
edge_type_count declared.Int = 0
edge_type_count declared.Bool = 0
edge_type_count declared.Vertex = 0
edge_type_count declared.VertexSet = 0
edge_type_count declared.Vector = 0
edge_type_count declared.EdgeSet = 1
edge_type_count declared.WeightedEdgeSet = 1

-- how many constants are the edges
abbrev pub edges_declared : List DeclarationTree → ℕ
edges_declared [] = 0
edges_declared (Constant at p initial ∷ others) = edge_type_count p.declared + edges_declared others
edges_declared (Function at name parameters result body ∷ others) = edges_declared others
