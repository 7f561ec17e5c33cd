-- What visible names stand for in a source without a fault: each declaration is sound, and a vertex is a parameter of the function.
use Rattle.std.proofs.Common.{◌≡◌, refl, sym, subst, ℕ, Bool, true, false, if◌then◌else◌, List, [], ◌∷◌, Option, Some, None}
use Rattle.std.specs.Str.{bytes_eq}
use Rattle.std.specs.List.{AllByRecursion}
use Rattle.std.proofs.lemmas.Slice.Eq.{bytes_eq-Decides}
use Rattle.syntax.specs.Terminals.{Identifier}
use Rattle.syntax.specs.declared.declaration.DeclaredType.{DeclaredType}
use Rattle.syntax.specs.declared.declaration.DeclaredType.TheVariants as declared
use Rattle.syntax.specs.SourceTrees as source
use Rattle.typed_tree.specs.declared.expression.Endpoint.{Endpoint}
use Rattle.expression_types.specs.declared.scope.Entity.{Entity}
use Rattle.expression_types.specs.declared.scope.Entity.TheVariants as entity
use Rattle.expression_types.specs.declared.scope.Inside.{Inside}
use Rattle.expression_types.specs.Expression.{used_name, used_as}
use Rattle.expression_types.specs.ScopeTree.{found, ScopeTree, declared_over}
use Rattle.types.specs.Block.{action_typed}
use Rattle.initializer_types.specs.Checker.{CheckerTree, condition_slot, declared_in, integer_slot, with_label, new_label, set_slot}
use Rattle.initializer_types.specs.Initial.{InitializerTree, initializer_condition, initializer_of, initializer_integer, initializer_members}
use Rattle.types.specs.Statement.{declare_as}
use Rattle.types.specs.Step.{declare_step_as, step_typed}
use Rattle.type_laws.proofs.Faultless.{no_left, no_right, not_empty}
use Rattle.type_laws.proofs.ResolvedScopes.{all_then}

-- which names may stand for the vertices that a function works on
abbrev pub Vertices : Type 1
Vertices = Endpoint → List ℕ → Type 0

-- none does
abbrev pub nowhere : Vertices
nowhere p name = ⊥

abbrev pub EntityIsKnown : Vertices → List ℕ → Entity → Type 0
EntityIsKnown At name (entity.Edges weights) = Unit {0}
EntityIsKnown At name (entity.Vector index) = Unit {0}
EntityIsKnown At name (entity.ConstantSet slot) = Unit {0}
EntityIsKnown At name (entity.IntConstant own n) = Unit {0}
EntityIsKnown At name (entity.BoolConstant own b) = Unit {0}
EntityIsKnown At name (entity.IntVariable slot) = Unit {0}
EntityIsKnown At name (entity.BoolVariable slot) = Unit {0}
EntityIsKnown At name (entity.SetVariable slot) = Unit {0}
EntityIsKnown At name (entity.LoopVariable slot) = Unit {0}
EntityIsKnown At name (entity.Parameter p) = At p name
EntityIsKnown At name entity.Weight = Unit {0}
EntityIsKnown At name (entity.EdgeFunction index weighted) = Unit {0}
EntityIsKnown At name (entity.VertexFunction index) = Unit {0}
EntityIsKnown At name (entity.Filter index) = Unit {0}
EntityIsKnown At name entity.Main = Unit {0}
EntityIsKnown At name entity.Error = ⊥

-- where expressions stand, and all visible names do so
abbrev pub IsKnown : Vertices → Inside → ScopeTree → Type 0
IsKnown At i scope = (scope.inside ≡ i) × AllByRecursion (λ x. EntityIsKnown At x.0 x.1) scope.visible

-- where no name stands for a vertex, these may
entity_becomes_known : (At : Vertices) (name : List ℕ) (e : Entity) → EntityIsKnown nowhere name e → EntityIsKnown At name e
entity_becomes_known At name (entity.Parameter p) known = absurd known
entity_becomes_known At name entity.Error known = known
entity_becomes_known At name _ known = tt

pub becomes_known : (At : Vertices) (visible : List (List ℕ × Entity)) → AllByRecursion (λ x. EntityIsKnown nowhere x.0 x.1) visible
    → AllByRecursion (λ x. EntityIsKnown At x.0 x.1) visible
becomes_known At [] known = tt
becomes_known At (x ∷ others) known = (entity_becomes_known At x.0 x.1 known.0, becomes_known At others known.1)

-- a used name
used_first : (At : Vertices) (name : Identifier) (other : List ℕ) (b : Bool) (e : Entity) (o : Option Entity) → bytes_eq name.bytes other ≡ b
    → (used_as name (if b then Some e else o)).faults ≡ [] → EntityIsKnown At other e
    → ((used_as name o).faults ≡ [] → EntityIsKnown At name.bytes (used_as name o).value)
    → EntityIsKnown At name.bytes (used_as name (if b then Some e else o)).value
used_first At name other true e o test none first further = subst (λ own. EntityIsKnown At own e) (sym ((bytes_eq-Decides name.bytes other).0 test)) first
used_first At name other false e o test none first further = further none

used_among : (At : Vertices) (name : Identifier) (visible : List (List ℕ × Entity)) → AllByRecursion (λ x. EntityIsKnown At x.0 x.1) visible
    → (used_as name (found name.bytes visible)).faults ≡ [] → EntityIsKnown At name.bytes (used_as name (found name.bytes visible)).value
used_among At name [] known none = absurd (not_empty _ _ none)
used_among At name (x ∷ others) known none =
    used_first At name x.0 (bytes_eq name.bytes x.0) x.1 (found name.bytes others) refl none known.0 (used_among At name others known.1)

pub used_known : (At : Vertices) (i : Inside) (scope : ScopeTree) (name : Identifier) → IsKnown At i scope → (used_name scope name).faults ≡ []
    → EntityIsKnown At name.bytes (used_name scope name).value
used_known At i scope name known none = used_among At name scope.visible known.1 none

-- a declaration
declared_over_known : (At : Vertices) (i : Inside) (o : Option Entity) (name : Identifier) (e : Entity) (scope : ScopeTree) → IsKnown At i scope → EntityIsKnown At name.bytes e
    → (declared_over o name e scope).faults ≡ [] → IsKnown At i (declared_over o name e scope).value
declared_over_known At i None name e scope known is none = (known.0, all_then (λ x. EntityIsKnown At x.0 x.1) scope.visible (name.bytes, e) known.1 is)
declared_over_known At i (Some old) name e scope known is none = absurd (not_empty _ _ none)

pub declared_known : (At : Vertices) (i : Inside) (c : CheckerTree) (name : Identifier) (e : Entity) → IsKnown At i c.scope → EntityIsKnown At name.bytes e
    → (declared_in c name e).faults ≡ [] → IsKnown At i (declared_in c name e).value.scope
declared_known At i c name e known is none =
    let o = found name.bytes c.scope.visible in
    declared_over_known At i o name e c.scope known is (no_left (declared_over o name e c.scope).faults [] none)

-- a label stands for nothing
new_label_scope : (c : CheckerTree) (label : Identifier) (index : Option ℕ) → (new_label c label index).value.1.scope ≡ c.scope
new_label_scope c label None = refl
new_label_scope c label (Some index) = refl

pub labelled_scope : (c : CheckerTree) (label : Option Identifier) → (with_label c label).value.1.scope ≡ c.scope
labelled_scope c None = refl
labelled_scope c (Some label) = new_label_scope c label (found label.bytes c.labels)

-- after a statement of a function
declare_step_known : (At : Vertices) (i : Inside) (c : CheckerTree) (at : ℕ) (name : Identifier) (initializer : InitializerTree) (type : DeclaredType) → IsKnown At i c.scope
    → (declare_step_as c at name initializer type).faults ≡ [] → IsKnown At i (declare_step_as c at name initializer type).value.1.scope
declare_step_known At i c at name initializer declared.Int known none =
    let e = entity.IntVariable (integer_slot c) in
    declared_known At i c name e known tt (no_left (declared_in c name e).faults [] (no_right (initializer_integer at initializer).faults _ none))
declare_step_known At i c at name initializer declared.Bool known none =
    let e = entity.BoolVariable (condition_slot c) in
    declared_known At i c name e known tt (no_left (declared_in c name e).faults [] (no_right (initializer_condition at initializer).faults _ none))
declare_step_known At i c at name initializer declared.Vertex known none = absurd (not_empty _ _ none)
declare_step_known At i c at name initializer declared.VertexSet known none = absurd (not_empty _ _ none)
declare_step_known At i c at name initializer declared.Vector known none = absurd (not_empty _ _ none)
declare_step_known At i c at name initializer declared.EdgeSet known none = absurd (not_empty _ _ none)
declare_step_known At i c at name initializer declared.WeightedEdgeSet known none = absurd (not_empty _ _ none)

pub step_known : (At : Vertices) (i : Inside) (c : CheckerTree) (action : source.StatementKindTree) → IsKnown At i c.scope → (step_typed c action).faults ≡ []
    → IsKnown At i (step_typed c action).value.1.scope
step_known At i c (source.Declare at x initial) known none =
    let initializer = initializer_of c at initial in declare_step_known At i c at x.name initializer.value x.declared known (no_right initializer.faults _ none)
step_known At i c (source.While at test body) known none = known
step_known At i c (source.For at name first limit body) known none = known
step_known At i c (source.If at test body) known none = known
step_known At i c (source.IfElse at test body otherwise) known none = known
step_known At i c (source.Print at e) known none = known
step_known At i c (source.Assign name initial) known none = known
step_known At i c (source.Reduce name by e) known none = known
step_known At i c (source.SetEntry vector index e) known none = known
step_known At i c (source.ReduceEntry vector index by e) known none = known
step_known At i c (source.AddVertex set e) known none = known
step_known At i c (source.Apply target ends function) known none = known

-- after a statement of main
declare_known : (At : Vertices) (i : Inside) (c : CheckerTree) (at : ℕ) (name : Identifier) (initializer : InitializerTree) (type : DeclaredType) → IsKnown At i c.scope
    → (declare_as c at name initializer type).faults ≡ [] → IsKnown At i (declare_as c at name initializer type).value.1.scope
declare_known At i c at name initializer declared.Int known none =
    let e = entity.IntVariable (integer_slot c) in
    declared_known At i c name e known tt (no_left (declared_in c name e).faults [] (no_right (initializer_integer at initializer).faults _ none))
declare_known At i c at name initializer declared.Bool known none =
    let e = entity.BoolVariable (condition_slot c) in
    declared_known At i c name e known tt (no_left (declared_in c name e).faults [] (no_right (initializer_condition at initializer).faults _ none))
declare_known At i c at name initializer declared.Vertex known none = absurd (not_empty _ _ none)
declare_known At i c at name initializer declared.VertexSet known none =
    let e = entity.SetVariable (set_slot c) in
    declared_known At i c name e known tt (no_left (declared_in c name e).faults [] (no_right (initializer_members at initializer).faults _ none))
declare_known At i c at name initializer declared.Vector known none = absurd (not_empty _ _ none)
declare_known At i c at name initializer declared.EdgeSet known none = absurd (not_empty _ _ none)
declare_known At i c at name initializer declared.WeightedEdgeSet known none = absurd (not_empty _ _ none)

pub action_known : (At : Vertices) (i : Inside) (c : CheckerTree) (action : source.StatementKindTree) → IsKnown At i c.scope → (action_typed c action).faults ≡ []
    → IsKnown At i (action_typed c action).value.1.scope
action_known At i c (source.Declare at x initial) known none =
    let initializer = initializer_of c at initial in declare_known At i c at x.name initializer.value x.declared known (no_right initializer.faults _ none)
action_known At i c (source.While at test body) known none = known
action_known At i c (source.For at name first limit body) known none = known
action_known At i c (source.If at test body) known none = known
action_known At i c (source.IfElse at test body otherwise) known none = known
action_known At i c (source.Print at e) known none = known
action_known At i c (source.Assign name initial) known none = known
action_known At i c (source.Reduce name by e) known none = known
action_known At i c (source.SetEntry vector index e) known none = known
action_known At i c (source.ReduceEntry vector index by e) known none = known
action_known At i c (source.AddVertex set e) known none = known
action_known At i c (source.Apply target ends function) known none = known
