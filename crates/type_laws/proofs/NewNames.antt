-- A source without a fault declares no visible name again.
use Rattle.std.proofs.Common.{◌≡◌, ◌≢◌, refl, ap, sym, subst, ◌∙◌, ℕ, ◌+◌, ◌≤◌, arith, suc, pos, length, Bool, true, false, if◌then◌else◌, List, [], ◌∷◌, ◌++◌, map, Option, Some, None}
use Rattle.std.specs.Str.{bytes_eq}
use Rattle.std.specs.List.{AllByRecursion}
use Rattle.std.proofs.lemmas.Bool.Decides.{not_from_Decides}
use Rattle.std.proofs.lemmas.List.{map-append}
use Rattle.std.proofs.lemmas.Option.{none-some}
use Rattle.std.proofs.lemmas.Slice.Eq.{bytes_eq-Decides}
use Rattle.syntax.specs.Terminals.{Identifier}
use Rattle.syntax.specs.declared.declaration.DeclaredType.{DeclaredType}
use Rattle.syntax.specs.declared.declaration.DeclaredType.TheVariants as declared
use Rattle.syntax.specs.SourceTrees as source
use Rattle.syntax.specs.SourceTrees.{ParameterTree, InitialTree, DeclarationTree, SourceTree}
use Rattle.typed_tree.specs.declared.expression.Endpoint.{Endpoint}
use Rattle.typed_tree.specs.declared.expression.Endpoint.TheVariants as endpoint
use Rattle.typed_tree.specs.BlockTree.{BlockTree, Empty}
use Rattle.typed_tree.specs.FunctionStatementTree.{FunctionStatementsTree, NoStep}
use Rattle.expression_types.specs.declared.scope.Entity.{Entity}
use Rattle.expression_types.specs.declared.scope.Entity.TheVariants as entity
use Rattle.expression_types.specs.ScopeTree.{found, ScopeTree, declared_over, entered}
use Rattle.types.specs.Block.{action_typed, then_statement, closed, statements_typed}
use Rattle.initializer_types.specs.Checker.{CheckerTree, condition_slot, counted, declared_in, integer_slot, with_label, new_label, restarted, set_slot, in_scope, condition_in, integer_in}
use Rattle.initializer_types.specs.DeclarationForms.{FunctionKindTree, MainKind, EdgeKind, VertexKind, FilterKind, NoKind, kind, literal_condition, literal_integer}
use Rattle.types.specs.Declaration.{DeclaredTree, begins, declaration_typed, declarations_typed, declare_constant_as}
use Rattle.types.specs.Declaration.{declare_function, declare_name, function_declared, has_all, inside_of, kind_fits, literal_or_fault, loads, main_declared, next_name, only_edges, opened}
use Rattle.types.specs.Declaration.{parameter, parameters_declared, result_declared, result_entity, steps_declared, with_main_block, takes_weight}
use Rattle.initializer_types.specs.Initial.{InitializerTree, initializer_condition, initializer_of, initializer_integer, is_sound, initializer_members}
use Rattle.type_laws.specs.NewNames.{ActionDeclaresNew, BlockDeclaresNew, DeclarationDeclaresNew, DeclarationsDeclareNew, FunctionDeclaresNew, IsNew, ParametersAreNew, ResultIsNew, edges_declared}
use Rattle.type_laws.specs.NewNames.{edge_type_count, names_after, names_inside, with_declaration, with_new, with_parameters, with_result_name}
use Rattle.types.specs.Program.{no_declarations, program_of, set_count}
use Rattle.types.specs.Statement.{declare_as}
use Rattle.types.specs.Step.{declare_step_as, step_after, step_typed, steps_after, steps_typed, with_writes}
use Rattle.type_laws.proofs.Faultless.{no_left, no_right, not_empty}

-- the names that are visible to the checker
abbrev names : CheckerTree → List (List ℕ)
names c = map (λ x. x.0) c.scope.visible

found_first : (name other : List ℕ) (b : Bool) (e : Entity) (o : Option Entity) → bytes_eq name other ≡ b → (if b then Some e else o) ≡ None → (name ≢ other) × (o ≡ None)
found_first name other true e o test none = absurd (none-some e (sym none))
found_first name other false e o test none = (not_from_Decides (bytes_eq name other) (bytes_eq-Decides name other) test, none)

not_found : (name : List ℕ) (visible : List (List ℕ × Entity)) → found name visible ≡ None → AllByRecursion (λ other. name ≢ other) (map (λ x. x.0) visible)
not_found name [] none = tt
not_found name (x ∷ others) none =
    let first = found_first name x.0 (bytes_eq name x.0) x.1 (found name others) refl none in (first.0, not_found name others first.1)

-- a declaration
declared_over_new : (name : Identifier) (e : Entity) (scope : ScopeTree) (o : Option Entity) → found name.bytes scope.visible ≡ o → (declared_over o name e scope).faults ≡ []
    → IsNew (map (λ x. x.0) scope.visible) name × (map (λ x. x.0) (declared_over o name e scope).value.visible ≡ with_new (map (λ x. x.0) scope.visible) name)
declared_over_new name e scope None is none = (not_found name.bytes scope.visible is, map-append (λ x. x.0) scope.visible ((name.bytes, e) ∷ []))
declared_over_new name e scope (Some old) is none = absurd (not_empty _ _ none)

pub declared_new : (c : CheckerTree) (name : Identifier) (e : Entity) → (declared_in c name e).faults ≡ []
    → IsNew (names c) name × (names (declared_in c name e).value ≡ with_new (names c) name)
declared_new c name e none =
    let o = found name.bytes c.scope.visible in
    declared_over_new name e c.scope o refl (no_left (declared_over o name e c.scope).faults [] none)

new_label_same : (c : CheckerTree) (label : Identifier) (index : Option ℕ) → names (new_label c label index).value.1 ≡ names c
new_label_same c label None = refl
new_label_same c label (Some index) = refl

pub labelled_same : (c : CheckerTree) (label : Option Identifier) → names (with_label c label).value.1 ≡ names c
labelled_same c None = refl
labelled_same c (Some label) = new_label_same c label (found label.bytes c.labels)

-- statements of functions
declare_step_new : (c : CheckerTree) (at : ℕ) (name : Identifier) (initializer : InitializerTree) (type : DeclaredType) → (declare_step_as c at name initializer type).faults ≡ []
    → IsNew (names c) name × (names (declare_step_as c at name initializer type).value.1 ≡ with_new (names c) name)
declare_step_new c at name initializer declared.Int none =
    let e = entity.IntVariable (integer_slot c) in
    declared_new c name e (no_left (declared_in c name e).faults [] (no_right (initializer_integer at initializer).faults _ none))
declare_step_new c at name initializer declared.Bool none =
    let e = entity.BoolVariable (condition_slot c) in
    declared_new c name e (no_left (declared_in c name e).faults [] (no_right (initializer_condition at initializer).faults _ none))
declare_step_new c at name initializer declared.Vertex none = absurd (not_empty _ _ none)
declare_step_new c at name initializer declared.VertexSet none = absurd (not_empty _ _ none)
declare_step_new c at name initializer declared.Vector none = absurd (not_empty _ _ none)
declare_step_new c at name initializer declared.EdgeSet none = absurd (not_empty _ _ none)
declare_step_new c at name initializer declared.WeightedEdgeSet none = absurd (not_empty _ _ none)

mutual
  pub step_new : (c : CheckerTree) (action : source.StatementKindTree) → (step_typed c action).faults ≡ []
      → ActionDeclaresNew (names c) action × (names (step_typed c action).value.1 ≡ names_after (names c) action)
  step_new c (source.Declare at x initial) none =
      let initializer = initializer_of c at initial in declare_step_new c at x.name initializer.value x.declared (no_right initializer.faults _ none)
  step_new c (source.While at test body) none = absurd (not_empty _ _ none)
  step_new c (source.For at name first limit body) none = absurd (not_empty _ _ none)
  step_new c (source.If at test body) none =
      let b = steps_typed c NoStep body in
      (steps_new c NoStep body (no_left b.faults [] (no_right (condition_in c.scope at test).faults _ none)), refl)
  step_new c (source.IfElse at test body otherwise) none =
      let b = steps_typed c NoStep body in
      let d = steps_after c b.value.1 in
      let o = steps_typed d NoStep otherwise in
      let both = no_right (condition_in c.scope at test).faults (b.faults ++ (o.faults ++ [])) none in (
        (
          steps_new c NoStep body (no_left b.faults (o.faults ++ []) both),
          steps_new d NoStep otherwise (no_left o.faults [] (no_right b.faults (o.faults ++ []) both)),
        ),
        refl,
      )
  step_new c (source.Print at e) none = (tt, refl)
  step_new c (source.Assign name initial) none = (tt, refl)
  step_new c (source.Reduce name by e) none = (tt, refl)
  step_new c (source.SetEntry vector index e) none = (tt, refl)
  step_new c (source.ReduceEntry vector index by e) none = (tt, refl)
  step_new c (source.AddVertex set e) none = (tt, refl)
  step_new c (source.Apply target ends function) none = (tt, refl)

  steps_new : (c : CheckerTree) (so_far : FunctionStatementsTree) (block : source.BlockTree) → (steps_typed c so_far block).faults ≡ [] → BlockDeclaresNew (names c) block
  steps_new c so_far source.Empty none = tt
  steps_new c so_far (source.Then label action others) none =
      let l = with_label c label in
      let s = step_typed l.value.1 action in
      let rest = steps_typed s.value.1 (step_after so_far s.value.0) others in
      let both = no_right l.faults (s.faults ++ rest.faults) none in
      let first = step_new l.value.1 action (no_left s.faults rest.faults both) in
      let rest_new = steps_new s.value.1 (step_after so_far s.value.0) others (no_right s.faults rest.faults both) in
      subst (λ visible. ActionDeclaresNew visible action × BlockDeclaresNew (names_after visible action) others) (labelled_same c label)
      (first.0, subst (λ visible. BlockDeclaresNew visible others) first.1 rest_new)

-- statements of main
declare_new : (c : CheckerTree) (at : ℕ) (name : Identifier) (initializer : InitializerTree) (type : DeclaredType) → (declare_as c at name initializer type).faults ≡ []
    → IsNew (names c) name × (names (declare_as c at name initializer type).value.1 ≡ with_new (names c) name)
declare_new c at name initializer declared.Int none =
    let e = entity.IntVariable (integer_slot c) in
    declared_new c name e (no_left (declared_in c name e).faults [] (no_right (initializer_integer at initializer).faults _ none))
declare_new c at name initializer declared.Bool none =
    let e = entity.BoolVariable (condition_slot c) in
    declared_new c name e (no_left (declared_in c name e).faults [] (no_right (initializer_condition at initializer).faults _ none))
declare_new c at name initializer declared.Vertex none = absurd (not_empty _ _ none)
declare_new c at name initializer declared.VertexSet none =
    let e = entity.SetVariable (set_slot c) in
    declared_new c name e (no_left (declared_in c name e).faults [] (no_right (initializer_members at initializer).faults _ none))
declare_new c at name initializer declared.Vector none = absurd (not_empty _ _ none)
declare_new c at name initializer declared.EdgeSet none = absurd (not_empty _ _ none)
declare_new c at name initializer declared.WeightedEdgeSet none = absurd (not_empty _ _ none)

mutual
  pub action_new : (c : CheckerTree) (action : source.StatementKindTree) → (action_typed c action).faults ≡ []
      → ActionDeclaresNew (names c) action × (names (action_typed c action).value.1 ≡ names_after (names c) action)
  action_new c (source.Declare at x initial) none =
      let initializer = initializer_of c at initial in declare_new c at x.name initializer.value x.declared (no_right initializer.faults _ none)
  action_new c (source.While at test body) none =
      let b = statements_typed c Empty body in
      (statements_new c Empty body (no_left b.faults [] (no_right (condition_in c.scope at test).faults _ none)), refl)
  action_new c (source.For at name first limit body) none =
      let e = entity.LoopVariable (integer_slot c) in
      let d = declared_in c name e in
      let b = statements_typed d.value Empty body in
      let both = no_right (integer_in c.scope at limit).faults (d.faults ++ (b.faults ++ [])) (no_right (integer_in c.scope at first).faults _ none) in
      let new = declared_new c name e (no_left d.faults (b.faults ++ []) both) in
      let inner = statements_new d.value Empty body (no_left b.faults [] (no_right d.faults (b.faults ++ []) both)) in
      ((new.0, subst (λ visible. BlockDeclaresNew visible body) new.1 inner), refl)
  action_new c (source.If at test body) none =
      let b = statements_typed c Empty body in
      (statements_new c Empty body (no_left b.faults [] (no_right (condition_in c.scope at test).faults _ none)), refl)
  action_new c (source.IfElse at test body otherwise) none =
      let b = statements_typed c Empty body in
      let d = closed c b.value.1 in
      let o = statements_typed d Empty otherwise in
      let both = no_right (condition_in c.scope at test).faults (b.faults ++ (o.faults ++ [])) none in (
        (
          statements_new c Empty body (no_left b.faults (o.faults ++ []) both),
          statements_new d Empty otherwise (no_left o.faults [] (no_right b.faults (o.faults ++ []) both)),
        ),
        refl,
      )
  action_new c (source.Print at e) none = (tt, refl)
  action_new c (source.Assign name initial) none = (tt, refl)
  action_new c (source.Reduce name by e) none = (tt, refl)
  action_new c (source.SetEntry vector index e) none = (tt, refl)
  action_new c (source.ReduceEntry vector index by e) none = (tt, refl)
  action_new c (source.AddVertex set e) none = (tt, refl)
  action_new c (source.Apply target ends function) none = (tt, refl)

  statements_new : (c : CheckerTree) (so_far : BlockTree) (block : source.BlockTree) → (statements_typed c so_far block).faults ≡ [] → BlockDeclaresNew (names c) block
  statements_new c so_far source.Empty none = tt
  statements_new c so_far (source.Then label action others) none =
      let l = with_label c label in
      let a = action_typed (counted l.value.1) action in
      let more = then_statement so_far (suc l.value.1.statements) l.value.0 a.value.0 in
      let rest = statements_typed a.value.1 more others in
      let both = no_right l.faults (a.faults ++ rest.faults) none in
      let first = action_new (counted l.value.1) action (no_left a.faults rest.faults both) in
      let rest_new = statements_new a.value.1 more others (no_right a.faults rest.faults both) in
      subst (λ visible. ActionDeclaresNew visible action × BlockDeclaresNew (names_after visible action) others) (labelled_same c label)
      (first.0, subst (λ visible. BlockDeclaresNew visible others) first.1 rest_new)

-- functions
parameters_new : (w : Bool) (c : CheckerTree) (at : Endpoint) (parameters : List ParameterTree) → (parameters_declared w c at parameters).faults ≡ []
    → ParametersAreNew (names c) parameters × (names (parameters_declared w c at parameters).value ≡ with_parameters (names c) parameters)
parameters_new w c at [] none = (tt, refl)
parameters_new w c at (x ∷ others) none =
    let e = parameter w at x.declared in
    let d = declared_in c x.name e in
    let rest = parameters_declared w d.value endpoint.Destination others in
    let first = declared_new c x.name e (no_left d.faults rest.faults none) in
    let rest_new = parameters_new w d.value endpoint.Destination others (no_right d.faults rest.faults none) in
    ((first.0, subst (λ visible. ParametersAreNew visible others) first.1 rest_new.0), rest_new.1 ∙ ap (λ visible. with_parameters visible others) first.1)

result_new : (c : CheckerTree) (kind : FunctionKindTree) (result : Option ParameterTree) → (result_declared c kind result).faults ≡ []
    → ResultIsNew (names c) result × (names (result_declared c kind result).value ≡ with_result_name (names c) result)
result_new c kind None none = (tt, refl)
result_new c kind (Some result) none = declared_new c result.name (result_entity c kind) none

pub opened_new : (c : CheckerTree) (kind : FunctionKindTree) (parameters : List ParameterTree) (result : Option ParameterTree) → (opened c kind parameters result).faults ≡ []
    → ParametersAreNew (names c) parameters × ResultIsNew (with_parameters (names c) parameters) result
    × (names (opened c kind parameters result).value ≡ names_inside (names c) parameters result)
opened_new c kind parameters result none =
    let e = with_writes (in_scope c (entered (inside_of kind) c.scope)) [] in
    let d = parameters_declared (takes_weight kind) e endpoint.Source parameters in
    let r = result_declared d.value kind result in
    let first = parameters_new (takes_weight kind) e endpoint.Source parameters (no_left d.faults r.faults none) in
    let rest_new = result_new d.value kind result (no_right d.faults r.faults none) in
    (first.0, subst (λ visible. ResultIsNew visible result) first.1 rest_new.0, rest_new.1 ∙ ap (λ visible. with_result_name visible result) first.1)

-- what is declared, and the names after it
abbrev New : DeclaredTree → Identifier → DeclaredTree → Type 0
New d name e = IsNew (names d.checker) name × (names e.checker ≡ with_new (names d.checker) name)

name_new : (d : DeclaredTree) (name : Identifier) (e : Entity) → (declare_name d name e).faults ≡ [] → New d name (declare_name d name e).value
name_new d name e none = declared_new d.checker name e (no_left (declared_in d.checker name e).faults [] none)

constant_new : (d : DeclaredTree) (at : ℕ) (name : Identifier) (initial : InitialTree) (type : DeclaredType) (initializer : InitializerTree)
    → (declare_constant_as d at name initial type initializer).faults ≡ [] → New d name (declare_constant_as d at name initial type initializer).value
constant_new d at name initial declared.Int initializer none =
    let n = literal_or_fault at (is_sound initializer) (pos 0) (literal_integer initial) in
    name_new d name (entity.IntConstant (next_name d) n.value) (no_right n.faults _ none)
constant_new d at name initial declared.Bool initializer none =
    let b = literal_or_fault at (is_sound initializer) false (literal_condition initial) in
    name_new d name (entity.BoolConstant (next_name d) b.value) (no_right b.faults _ none)
constant_new d at name initial declared.Vertex initializer none = absurd (not_empty _ _ none)
constant_new d at name initial declared.VertexSet initializer none =
    let e = entity.ConstantSet (record { index = length d.sets; name = next_name d }) in
    name_new d name e (no_left (declare_name d name e).faults [] (no_right (has_all at initializer).faults _ none))
constant_new d at name initial declared.Vector initializer none =
    let e = entity.Vector (length d.vectors) in
    name_new d name e (no_left (declare_name d name e).faults [] (no_right (begins at initializer initial).faults _ none))
constant_new d at name initial declared.EdgeSet initializer none =
    let only = only_edges name (next_name d) d.edges in
    name_new d name (entity.Edges false)
    (no_left (declare_name d name (entity.Edges false)).faults [] (no_right only.faults ((declare_name d name (entity.Edges false)).faults ++ []) (no_right (loads at initializer).faults _ none)))
constant_new d at name initial declared.WeightedEdgeSet initializer none =
    let only = only_edges name (next_name d) d.edges in
    name_new d name (entity.Edges true)
    (no_left (declare_name d name (entity.Edges true)).faults [] (no_right only.faults ((declare_name d name (entity.Edges true)).faults ++ []) (no_right (loads at initializer).faults _ none)))

function_new : (d : DeclaredTree) (kind : FunctionKindTree) (name : Identifier) (steps : FunctionStatementsTree) → (function_declared d kind name steps).faults ≡ []
    → New d name (function_declared d kind name steps).value
function_new d (MainKind fits) name steps none = name_new d name entity.Error none
function_new d (EdgeKind weighted) name steps none =
    let e = entity.EdgeFunction (length d.edge_functions) weighted in name_new d name e (no_left (declare_name d name e).faults [] none)
function_new d VertexKind name steps none =
    let e = entity.VertexFunction (length d.vertex_functions) in name_new d name e (no_left (declare_name d name e).faults [] none)
function_new d FilterKind name steps none =
    let e = entity.Filter (length d.filters) in name_new d name e (no_left (declare_name d name e).faults [] none)
function_new d NoKind name steps none = name_new d name entity.Error none

-- a function with what is declared in it
abbrev FunctionNew : DeclaredTree → Identifier → List ParameterTree → Option ParameterTree → source.BlockTree → DeclaredTree → Type 0
FunctionNew d name parameters result body e = FunctionDeclaresNew (names d.checker) parameters result body × New d name e

steps_declared_new : (d : DeclaredTree) (at : ℕ) (kind : FunctionKindTree) (name : Identifier) (parameters : List ParameterTree) (result : Option ParameterTree) (body : source.BlockTree)
    → (steps_declared d at kind name parameters result body).faults ≡ []
    → FunctionNew d name parameters result body (steps_declared d at kind name parameters result body).value
steps_declared_new d at kind name parameters result body none =
    let c = opened d.checker kind parameters result in
    let b = steps_typed c.value NoStep body in
    let around = record d { checker = in_scope b.value.1 d.checker.scope } in
    let f = function_declared around kind name b.value.0 in
    let inside = no_right (kind_fits at kind).faults (c.faults ++ (b.faults ++ f.faults)) none in
    let both = no_right c.faults (b.faults ++ f.faults) inside in
    let first = opened_new d.checker kind parameters result (no_left c.faults (b.faults ++ f.faults) inside) in (
      (first.0, first.1, subst (λ visible. BlockDeclaresNew visible body) first.2 (steps_new c.value NoStep body (no_left b.faults f.faults both))),
      function_new around kind name b.value.0 (no_right b.faults f.faults both),
    )

with_main_names : (e : DeclaredTree) (fits : Bool) (main : BlockTree) → names (with_main_block e fits main).checker ≡ names e.checker
with_main_names e true main = refl
with_main_names e false main = refl

main_new : (d : DeclaredTree) (fits : Bool) (name : Identifier) (parameters : List ParameterTree) (result : Option ParameterTree) (body : source.BlockTree)
    → (main_declared d fits name parameters result body).faults ≡ []
    → FunctionNew d name parameters result body (main_declared d fits name parameters result body).value
main_new d fits name parameters result body none =
    let c = opened (restarted d.checker) (MainKind fits) parameters result in
    let b = statements_typed c.value Empty body in
    let around = record d { checker = in_scope b.value.1 d.checker.scope } in
    let e = declare_name around name entity.Main in
    let both = no_right c.faults (b.faults ++ (e.faults ++ [])) none in
    let first = opened_new (restarted d.checker) (MainKind fits) parameters result (no_left c.faults (b.faults ++ (e.faults ++ [])) none) in
    let named = name_new around name entity.Main (no_left e.faults [] (no_right b.faults (e.faults ++ []) both)) in (
      (first.0, first.1, subst (λ visible. BlockDeclaresNew visible body) first.2 (statements_new c.value Empty body (no_left b.faults (e.faults ++ []) both))),
      (named.0, with_main_names e.value fits b.value.0 ∙ named.1),
    )

each_function_new : (d : DeclaredTree) (at : ℕ) (name : Identifier) (parameters : List ParameterTree) (result : Option ParameterTree) (body : source.BlockTree) (kind : FunctionKindTree)
    → (declare_function d at name parameters result body kind).faults ≡ []
    → FunctionNew d name parameters result body (declare_function d at name parameters result body kind).value
each_function_new d at name parameters result body (MainKind fits) none = main_new d fits name parameters result body none
each_function_new d at name parameters result body (EdgeKind weighted) none = steps_declared_new d at (EdgeKind weighted) name parameters result body none
each_function_new d at name parameters result body VertexKind none = steps_declared_new d at VertexKind name parameters result body none
each_function_new d at name parameters result body FilterKind none = steps_declared_new d at FilterKind name parameters result body none
each_function_new d at name parameters result body NoKind none = steps_declared_new d at NoKind name parameters result body none

-- declarations
pub declaration_new : (d : DeclaredTree) (x : DeclarationTree) → (declaration_typed d x).faults ≡ []
    → DeclarationDeclaresNew (names d.checker) x × (names (declaration_typed d x).value.checker ≡ with_declaration (names d.checker) x)
declaration_new d (source.Constant at x initial) none =
    let initializer = initializer_of d.checker at initial in constant_new d at x.name initial x.declared initializer.value (no_right initializer.faults _ none)
declaration_new d (source.Function at name parameters result body) none =
    let all = each_function_new d at name parameters result body (kind name.bytes parameters result) none in ((all.0, all.1.0), all.1.1)

declarations_new : (d : DeclaredTree) (xs : List DeclarationTree) → (declarations_typed d xs).faults ≡ [] → DeclarationsDeclareNew (names d.checker) xs
declarations_new d [] none = tt
declarations_new d (x ∷ others) none =
    let e = declaration_typed d x in
    let rest = declarations_typed e.value others in
    let first = declaration_new d x (no_left e.faults rest.faults none) in
    (first.0, subst (λ visible. DeclarationsDeclareNew visible others) first.1 (declarations_new e.value others (no_right e.faults rest.faults none)))

pub names_are_new : (source : SourceTree) (length : ℕ) → (program_of source length).faults ≡ [] → DeclarationsDeclareNew [] source.declarations
names_are_new source length none =
    let start = no_declarations (set_count source.declarations) in
    declarations_new start source.declarations (no_left (declarations_typed start source.declarations).faults _ none)

-- how many constants of the edges came before
abbrev edges_met : Option ℕ → ℕ
edges_met None = 0
edges_met (Some name) = 1

only_edges_met : (name : Identifier) (index : ℕ) (edges : Option ℕ) → (only_edges name index edges).faults ≡ []
    → edges_met (only_edges name index edges).value ≡ edges_met edges + 1
only_edges_met name index None none = refl
only_edges_met name index (Some old) none = absurd (not_empty _ _ none)

constant_edges : (d : DeclaredTree) (at : ℕ) (name : Identifier) (initial : InitialTree) (type : DeclaredType) (initializer : InitializerTree)
    → (declare_constant_as d at name initial type initializer).faults ≡ []
    → edges_met (declare_constant_as d at name initial type initializer).value.edges ≡ edges_met d.edges + edge_type_count type
constant_edges d at name initial declared.Int initializer none = omega arith
constant_edges d at name initial declared.Bool initializer none = omega arith
constant_edges d at name initial declared.Vertex initializer none = omega arith
constant_edges d at name initial declared.VertexSet initializer none = omega arith
constant_edges d at name initial declared.Vector initializer none = omega arith
constant_edges d at name initial declared.EdgeSet initializer none =
    let only = only_edges name (next_name d) d.edges in
    only_edges_met name (next_name d) d.edges (no_left only.faults ((declare_name d name (entity.Edges false)).faults ++ []) (no_right (loads at initializer).faults _ none))
constant_edges d at name initial declared.WeightedEdgeSet initializer none =
    let only = only_edges name (next_name d) d.edges in
    only_edges_met name (next_name d) d.edges (no_left only.faults ((declare_name d name (entity.Edges true)).faults ++ []) (no_right (loads at initializer).faults _ none))

with_main_edges : (e : DeclaredTree) (fits : Bool) (main : BlockTree) → (with_main_block e fits main).edges ≡ e.edges
with_main_edges e true main = refl
with_main_edges e false main = refl

function_edges : (d : DeclaredTree) (at : ℕ) (name : Identifier) (parameters : List ParameterTree) (result : Option ParameterTree) (body : source.BlockTree) (kind : FunctionKindTree)
    → (declare_function d at name parameters result body kind).value.edges ≡ d.edges
function_edges d at name parameters result body (MainKind fits) =
    let b = (statements_typed (opened (restarted d.checker) (MainKind fits) parameters result).value Empty body).value in
    with_main_edges (declare_name (record d { checker = in_scope b.1 d.checker.scope }) name entity.Main).value fits b.0
function_edges d at name parameters result body (EdgeKind weighted) = refl
function_edges d at name parameters result body VertexKind = refl
function_edges d at name parameters result body FilterKind = refl
function_edges d at name parameters result body NoKind = refl

few_edges : (edges : Option ℕ) → edges_met edges + 0 ≤ 1
few_edges None = omega arith
few_edges (Some name) = omega arith

one_of_edges : (d : DeclaredTree) (xs : List DeclarationTree) → (declarations_typed d xs).faults ≡ [] → edges_met d.edges + edges_declared xs ≤ 1
one_of_edges d [] none = few_edges d.edges
one_of_edges d (source.Constant at x initial ∷ others) none =
    let initializer = initializer_of d.checker at initial in
    let e = declaration_typed d (source.Constant at x initial) in
    let rest = declarations_typed e.value others in
    let first = constant_edges d at x.name initial x.declared initializer.value (no_right initializer.faults _ (no_left e.faults rest.faults none)) in
    let all = one_of_edges e.value others (no_right e.faults rest.faults none) in
    omega (arith, first, all)
one_of_edges d (source.Function at name parameters result body ∷ others) none =
    let e = declaration_typed d (source.Function at name parameters result body) in
    let rest = declarations_typed e.value others in
    let same = function_edges d at name parameters result body (kind name.bytes parameters result) in
    subst (λ edges. edges_met edges + edges_declared others ≤ 1) same (one_of_edges e.value others (no_right e.faults rest.faults none))

pub edges_are_one : (source : SourceTree) (length : ℕ) → (program_of source length).faults ≡ [] → edges_declared source.declarations ≤ 1
edges_are_one source length none =
    let start = no_declarations (set_count source.declarations) in
    let all = one_of_edges start source.declarations (no_left (declarations_typed start source.declarations).faults _ none) in
    omega (arith, all)
