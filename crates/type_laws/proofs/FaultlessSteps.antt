-- A statement of a function without a fault keeps the rules.
use Rattle.std.proofs.Common.{◌≡◌, refl, sym, subst, ℕ, Bool, true, false, if◌then◌else◌, nat_eq, List, [], ◌++◌, Option, Some, None}
use Rattle.std.specs.Map.{lookup}
use Rattle.syntax.specs.Terminals.{Identifier}
use Rattle.syntax.specs.SourceTrees.{ExpressionTree, InitialTree}
use Rattle.syntax.specs.SourceTrees as source
use Rattle.syntax.specs.declared.declaration.DeclaredType.{DeclaredType}
use Rattle.syntax.specs.declared.declaration.DeclaredType.TheVariants as declared
use Rattle.apply_options.specs.declared.reduction.Reduction.{Reduction}
use Rattle.apply_options.specs.declared.reduction.Reduction.TheVariants as reduction
use Rattle.typed_tree.specs.FunctionStatementTree.{NoStep, FunctionStatementsTree}
use Rattle.typed_tree.specs.declared.expression.Endpoint.{Endpoint}
use Rattle.typed_tree.specs.declared.expression.Endpoint.TheVariants as endpoint
use Rattle.expression_types.specs.declared.scope.Entity.{Entity}
use Rattle.expression_types.specs.declared.scope.Entity.TheVariants as entity
use Rattle.expression_types.specs.declared.scope.Inside.{Inside}
use Rattle.expression_types.specs.declared.scope.Inside.TheVariants as inside
use Rattle.expression_types.specs.Expression.{index_lacks_value, index_value, no_vertex, used_name, value_of, vector_index}
use Rattle.expression_types.specs.ScopeTree.{found}
use Rattle.expression_types.specs.ValueTree as value
use Rattle.expression_types.specs.ValueTree.{ValueTree}
use Rattle.expression_types.specs.Faults.{WithFaults, sure}
use Rattle.initializer_types.specs.Checker.{CheckerTree, condition_slot, declared_in, integer_slot, with_label, integer_wanted, condition_in, integer_in}
use Rattle.initializer_types.specs.Initial.{initializer_condition, initializer_integer, initializer_of}
use Rattle.types.specs.Step.{assign_step, assigned_step, at_own, declare_step, may_reduce, may_set, own_vertex, reduce_entry_step, reduce_step, reduced_as, reduced_step, same_endpoint, same_reduction}
use Rattle.types.specs.Step.{set_entry_step, step_after, step_typed, steps_after, steps_typed, written_at, written_with}
use Rattle.type_laws.specs.ExpressionTypes.{ExpressionHas, ExpressionType, IsNumberExpression, Number, Set, Truth, Vertex}
use Rattle.type_laws.specs.KeptRules.{ActionKeeps, AgreesWith, AssignFits, AssignsNumber, AssignsTruth, BlockKeeps, MayReduce, MaySet, ReducesEntry, VariableFits, WrittenAt}
use Rattle.type_laws.specs.Meanings as meaning
use Rattle.type_laws.specs.Meanings.{IsNew, Known, Meanings, closed_known, known_after, known_behind, labelled_known}
use Rattle.type_laws.proofs.Faultless.{no_left, no_right, not_empty}
use Rattle.type_laws.proofs.TypedExpressions.{IsOf}
use Rattle.type_laws.proofs.FaultlessExpressions.{IsMeant, Typed}
use Rattle.type_laws.proofs.KeptNames.{closed_kept}
use Rattle.type_laws.proofs.KeptSteps.{IsUser, step_kept, steps_kept}
use Rattle.type_laws.proofs.FaultlessInitials.{Sees, condition_truth, gives_number, gives_truth, integer_number, used_is, value_number, value_typed}
use Rattle.type_laws.proofs.FaultlessStatements.{after_some, declares_new, labelled_sees}
use Rattle.type_laws.proofs.FaultlessInitials.{vector_is_found}

declare_step_keeps : (i : Inside) (c : CheckerTree) (k : Known) → Sees i c k → (at : ℕ) (name : Identifier) (initial : InitialTree) (type : DeclaredType)
    → (declare_step c at name type initial).faults ≡ []
    → VariableFits i k type initial × IsNew k name
declare_step_keeps i c k s at name initial declared.Int none =
    let g = initializer_of c at initial in
    let x = initializer_integer at g.value in
    let after_g = no_right g.faults _ none in
    let d = no_right x.faults _ after_g in (
      gives_number i c k s at initial (no_left g.faults _ none) (no_left x.faults _ after_g),
      declares_new i c k s name (entity.IntVariable (integer_slot c)) (no_left (declared_in c name (entity.IntVariable (integer_slot c))).faults [] d),
    )
declare_step_keeps i c k s at name initial declared.Bool none =
    let g = initializer_of c at initial in
    let x = initializer_condition at g.value in
    let after_g = no_right g.faults _ none in
    let d = no_right x.faults _ after_g in (
      gives_truth i c k s at initial (no_left g.faults _ none) (no_left x.faults _ after_g),
      declares_new i c k s name (entity.BoolVariable (condition_slot c)) (no_left (declared_in c name (entity.BoolVariable (condition_slot c))).faults [] d),
    )
declare_step_keeps i c k s at name initial declared.VertexSet none = absurd (not_empty _ _ (no_right (initializer_of c at initial).faults _ none))
declare_step_keeps i c k s at name initial declared.Vertex none = absurd (not_empty _ _ (no_right (initializer_of c at initial).faults _ none))
declare_step_keeps i c k s at name initial declared.Vector none = absurd (not_empty _ _ (no_right (initializer_of c at initial).faults _ none))
declare_step_keeps i c k s at name initial declared.EdgeSet none = absurd (not_empty _ _ (no_right (initializer_of c at initial).faults _ none))
declare_step_keeps i c k s at name initial declared.WeightedEdgeSet none = absurd (not_empty _ _ (no_right (initializer_of c at initial).faults _ none))

assigned_step_fits : (i : Inside) (c : CheckerTree) (k : Known) → Sees i c k → (at : ℕ) (name : Identifier) (initial : InitialTree) → (initializer_of c at initial).faults ≡ [] → (e : Entity)
    → IsMeant k.names name e
    → (assigned_step at (initializer_of c at initial).value e).faults ≡ [] → AssignFits i k name initial
assigned_step_fits i c k s at name initial given (entity.IntVariable slot) is none =
    AssignsNumber is.means (gives_number i c k s at initial given (no_left (initializer_integer at (initializer_of c at initial).value).faults [] none))
assigned_step_fits i c k s at name initial given (entity.BoolVariable slot) is none =
    AssignsTruth is.means (gives_truth i c k s at initial given (no_left (initializer_condition at (initializer_of c at initial).value).faults [] none))
assigned_step_fits i c k s at name initial given entity.Error is none = absurd (is.clear refl)
assigned_step_fits i c k s at name initial given _ is none = absurd (not_empty _ _ none)

assign_step_keeps : (i : Inside) (c : CheckerTree) (k : Known) → Sees i c k → (at : ℕ) (name : Identifier) (initial : InitialTree) → (assign_step c at name initial).faults ≡ []
    → AssignFits i k name initial
assign_step_keeps i c k s at name initial none =
    let u = used_name c.scope name in
    let g = initializer_of c at initial in
    let after_u = no_right u.faults _ none in
    assigned_step_fits i c k s at name initial (no_left g.faults _ after_u) u.value (used_is i c k s name (no_left u.faults _ none)) (no_right g.faults _ after_u)

reduced_step_is : (names : Meanings) (at : ℕ) (name : Identifier) (by : Reduction) (v : ValueTree) (e : Entity) → IsMeant names name e → (reduced_step at by v e).faults ≡ []
    → (found name.bytes names ≡ Some meaning.NumberVariable) × ((integer_wanted at v).faults ≡ [])
reduced_step_is names at name by v (entity.IntVariable slot) is none = (is.means, no_left (integer_wanted at v).faults [] none)
reduced_step_is names at name by v entity.Error is none = absurd (is.clear refl)
reduced_step_is names at name by v _ is none = absurd (not_empty _ _ none)

reduce_step_keeps : (i : Inside) (c : CheckerTree) (k : Known) → Sees i c k → (at : ℕ) (name : Identifier) (by : Reduction) (e : ExpressionTree) → (reduce_step c.scope at name by e).faults ≡ []
    → (found name.bytes k.names ≡ Some meaning.NumberVariable) × IsNumberExpression k.names i e
reduce_step_keeps i c k s at name by e none =
    let u = used_name c.scope name in
    let v = value_of c.scope at e in
    let after_u = no_right u.faults _ none in
    let x = reduced_step_is k.names at name by v.value u.value (used_is i c k s name (no_left u.faults _ none)) (no_right v.faults _ after_u) in
    (x.0, value_number i c k s at e (no_left v.faults _ after_u) x.1)

-- an entry is written at the function's own vertex
own_end_is : (at : ℕ) (p own : Endpoint) → (at_own at (same_endpoint p own)).faults ≡ [] → p ≡ own
own_end_is at endpoint.Source endpoint.Source none = refl
own_end_is at endpoint.Source endpoint.Destination none = absurd (not_empty _ _ none)
own_end_is at endpoint.Destination endpoint.Source none = absurd (not_empty _ _ none)
own_end_is at endpoint.Destination endpoint.Destination none = refl

vertex_has : (Has : ExpressionType → Type 0) (type : ExpressionType) (p : Endpoint) → Has type → IsOf type (value.Vertex p) → Has (Vertex p)
vertex_has Has (Vertex q) p has is = subst (λ x. Has (Vertex x)) (sym is) has
vertex_has Has Number p has is = absurd is
vertex_has Has Truth p has is = absurd is
vertex_has Has Set p has is = absurd is

no_value : (type : ExpressionType) → IsOf type value.ErrorValue → ⊥
no_value Number is = is
no_value Truth is = is
no_value (Vertex p) is = is
no_value Set is = is

written_is : (Has : ExpressionType → Type 0) (at : ℕ) (own : Endpoint) (type : ExpressionType) (v : ValueTree) → Has type → IsOf type v → (written_at at own v).faults ≡ [] → Has (Vertex own)
written_is Has at own type (value.Integer e) has is none = absurd (not_empty _ _ none)
written_is Has at own type (value.Condition c) has is none = absurd (not_empty _ _ none)
written_is Has at own type (value.Vertex p) has is none = subst (λ q. Has (Vertex q)) (own_end_is at p own none) (vertex_has Has type p has is)
written_is Has at own type (value.Set slot) has is none = absurd (not_empty _ _ none)
written_is Has at own type value.ErrorValue has is none = absurd (no_value type is)

if_written : (Has : ExpressionType → Type 0) (at : ℕ) (own : Endpoint) (m : WithFaults ValueTree) (lacks : Bool) → (m.faults ≡ [] → Typed m Has) → (if lacks then sure no_vertex else m).faults ≡ []
    → (written_at at own (if lacks then sure no_vertex else m).value).faults ≡ [] → Has (Vertex own)
if_written Has at own m true typed sound none = absurd (not_empty _ _ none)
if_written Has at own m false typed sound none = let t = typed sound in written_is Has at own t.type m.value t.has t.is none

index_keeps : (i : Inside) (c : CheckerTree) (k : Known) → Sees i c k → (at : ℕ) (index : ExpressionTree) → (index_value c.scope at index).faults ≡ []
    → (written_at at (own_vertex c.scope.inside) (index_value c.scope at index).value).faults ≡ [] → ExpressionHas k.names i index (Vertex (own_vertex i))
index_keeps i c k s at index sound none =
    subst (λ j. ExpressionHas k.names i index (Vertex (own_vertex j))) s.matches.inside
    (if_written (ExpressionHas k.names i index) at (own_vertex c.scope.inside) (value_of c.scope at index) (index_lacks_value c.scope.inside c.scope index) (value_typed i c k s at index) sound none)

-- what a function may do with entries
may_set_is : (at : ℕ) (i : Inside) → IsUser i → (may_set at i).faults ≡ [] → MaySet i
may_set_is at inside.Main user none = tt
may_set_is at inside.EdgeFunction user none = absurd (not_empty _ _ none)
may_set_is at inside.VertexFunction user none = tt
may_set_is at inside.Filter user none = absurd (not_empty _ _ none)

set_at : (i : Inside) (names : Meanings) (index : ExpressionTree) → IsUser i → MaySet i → ExpressionHas names i index (Vertex (own_vertex i)) → WrittenAt i names index
set_at inside.Main names index user may has = absurd user
set_at inside.EdgeFunction names index user may has = has
set_at inside.VertexFunction names index user may has = has
set_at inside.Filter names index user may has = absurd may

same_by : (a b : Reduction) → same_reduction a b ≡ true → a ≡ b
same_by reduction.Min reduction.Min is = refl
same_by reduction.Min reduction.Max is = absurd cc
same_by reduction.Min reduction.Plus is = absurd cc
same_by reduction.Max reduction.Min is = absurd cc
same_by reduction.Max reduction.Max is = refl
same_by reduction.Max reduction.Plus is = absurd cc
same_by reduction.Plus reduction.Min is = absurd cc
same_by reduction.Plus reduction.Max is = absurd cc
same_by reduction.Plus reduction.Plus is = refl

agrees_once : (at vector : ℕ) (by : Reduction) (writes : List (ℕ × Reduction)) (first : Option Reduction) → (written_with at vector by writes first).faults ≡ [] → AgreesWith first by
agrees_once at vector by writes None none = tt
agrees_once at vector by writes (Some first) none = same_by first by (at_test (same_reduction first by) none)
  where
    at_test : (b : Bool) → (reduced_as at b writes).faults ≡ [] → b ≡ true
    at_test true none = refl
    at_test false none = absurd (not_empty _ _ none)

may_reduce_is : (i : Inside) (k : Known) (at vector : ℕ) (by : Reduction) → (may_reduce at i (Some vector) by k.reduced).faults ≡ [] → MayReduce i k vector by
may_reduce_is inside.Main k at vector by none = tt
may_reduce_is inside.EdgeFunction k at vector by none = agrees_once at vector by k.reduced (lookup (nat_eq vector) k.reduced) none
may_reduce_is inside.VertexFunction k at vector by none = tt
may_reduce_is inside.Filter k at vector by none = absurd (not_empty _ _ none)

reduced_at : (i : Inside) (k : Known) (vector : ℕ) (by : Reduction) (index : ExpressionTree) → IsUser i → MayReduce i k vector by → ExpressionHas k.names i index (Vertex (own_vertex i))
    → WrittenAt i k.names index
reduced_at inside.Main k vector by index user may has = absurd user
reduced_at inside.EdgeFunction k vector by index user may has = has
reduced_at inside.VertexFunction k vector by index user may has = has
reduced_at inside.Filter k vector by index user may has = absurd may

-- the index and the value of an entry that is written
index_and_value_keep : (i : Inside) (c : CheckerTree) (k : Known) → Sees i c k → (at : ℕ) (index e : ExpressionTree)
    → (index_value c.scope at index).faults ++ ((written_at at (own_vertex c.scope.inside) (index_value c.scope at index).value).faults ++ ((integer_in c.scope at e).faults ++ [])) ≡ []
    → ExpressionHas k.names i index (Vertex (own_vertex i)) × IsNumberExpression k.names i e
index_and_value_keep i c k s at index e none =
    let v = index_value c.scope at index in
    let w = written_at at (own_vertex c.scope.inside) v.value in
    let after_v = no_right v.faults _ none in (
      index_keeps i c k s at index (no_left v.faults _ none) (no_left w.faults _ after_v),
      integer_number i c k s at e (no_left (integer_in c.scope at e).faults [] (no_right w.faults _ after_v)),
    )

reduce_entry_keeps : (i : Inside) (c : CheckerTree) (k : Known) → IsUser i → Sees i c k → (at : ℕ) (name : Identifier) (subscript : ExpressionTree) (by : Reduction) (e : ExpressionTree)
    → (reduce_entry_step c at name subscript by e).faults ≡ [] → ReducesEntry i k name subscript by e
reduce_entry_keeps i c k user s at name subscript by e none =
    let index = vector_index c.scope at name in
    let may = may_reduce at c.scope.inside index.value by c.writes in
    let after_vector = no_right index.faults _ none in
    let there = vector_is_found i c k s at name (no_left index.faults _ none) in
    let allowed : (may_reduce at i (Some there.vector) by k.reduced).faults ≡ [] =
    subst (λ w. (may_reduce at i (Some there.vector) by w).faults ≡ []) s.matches.reduced
    (subst (λ p. (may_reduce at i p by c.writes).faults ≡ []) there.index
    (subst (λ j. (may_reduce at j index.value by c.writes).faults ≡ []) s.matches.inside (no_left may.faults _ after_vector))) in
    let reduces = may_reduce_is i k at there.vector by allowed in
    let both = index_and_value_keep i c k s at subscript e (no_right may.faults _ after_vector) in
    record { index = there.vector; means = there.means; may = reduces; at = reduced_at i k there.vector by subscript user reduces both.0; value = both.1 }

mutual
  pub step_keeps : (i : Inside) (c : CheckerTree) (k : Known) → IsUser i → Sees i c k → (action : source.StatementKindTree) → (step_typed c action).faults ≡ [] → ActionKeeps i k action
  step_keeps i c k user s (source.Declare at p initial) none = declare_step_keeps i c k s at p.name initial p.declared none
  step_keeps i c k user s (source.While at test body) none = absurd (not_empty _ _ none)
  step_keeps i c k user s (source.For at name first limit body) none = absurd (not_empty _ _ none)
  step_keeps i c k user s (source.If at test body) none =
      let t = condition_in c.scope at test in
      let b = steps_typed c NoStep body in
      (condition_truth i c k s at test (no_left t.faults _ none), steps_keep i c k user s NoStep body (no_left b.faults [] (no_right t.faults _ none)))
  step_keeps i c k user s (source.IfElse at test body otherwise) none =
      let t = condition_in c.scope at test in
      let b = steps_typed c NoStep body in
      let d = steps_after c b.value.1 in
      let o = steps_typed d NoStep otherwise in
      let after_t = no_right t.faults _ none in
      let first = steps_keep i c k user s NoStep body (no_left b.faults _ after_t) in
      let inner : Sees i d (closed_known k (known_after i k body)) = record {
        matches =
            closed_kept i i c b.value.1 k (known_after i k body) s.matches (steps_kept i c k user s.matches NoStep body first).1;
        some = s.some;
      } in (
        condition_truth i c k s at test (no_left t.faults _ none),
        first,
        steps_keep i d (closed_known k (known_after i k body)) user inner NoStep otherwise (no_left o.faults [] (no_right b.faults _ after_t)),
      )
  step_keeps i c k user s (source.Print at e) none = absurd (not_empty _ _ none)
  step_keeps i c k user s (source.Assign name initial) none = assign_step_keeps i c k s name.at name initial (no_left (assign_step c name.at name initial).faults [] none)
  step_keeps i c k user s (source.Reduce name by e) none = reduce_step_keeps i c k s name.at name by e (no_left (reduce_step c.scope name.at name by e).faults [] none)
  step_keeps i c k user s (source.SetEntry vector subscript e) none =
      let all = no_left (set_entry_step c.scope vector.at vector subscript e).faults [] none in
      let may = may_set vector.at c.scope.inside in
      let index = vector_index c.scope vector.at vector in
      let after_may = no_right may.faults _ all in
      let there = vector_is_found i c k s vector.at vector (no_left index.faults _ after_may) in
      let allowed = may_set_is vector.at i user (subst (λ j. (may_set vector.at j).faults ≡ []) s.matches.inside (no_left may.faults _ all)) in
      let both = index_and_value_keep i c k s vector.at subscript e (no_right index.faults _ after_may) in
      (allowed, record { vector = there.vector; means = there.means }, set_at i k.names subscript user allowed both.0, both.1)
  step_keeps i c k user s (source.ReduceEntry vector subscript by e) none = reduce_entry_keeps i c k user s vector.at vector subscript by e none
  step_keeps i c k user s (source.AddVertex set e) none = absurd (not_empty _ _ none)
  step_keeps i c k user s (source.Apply target ends function) none = absurd (not_empty _ _ none)

  pub steps_keep : (i : Inside) (c : CheckerTree) (k : Known) → IsUser i → Sees i c k → (so_far : FunctionStatementsTree) (block : source.BlockTree) → (steps_typed c so_far block).faults ≡ []
      → BlockKeeps i k block
  steps_keep i c k user s so_far source.Empty none = tt
  steps_keep i c k user s so_far (source.Then label action others) none =
      let l = with_label c label in
      let a = step_typed l.value.1 action in
      let after_l = no_right l.faults _ none in
      let labels = labelled_sees i c k s label (no_left l.faults _ none) in
      let known = labelled_known k label in
      let keeps = step_keeps i l.value.1 known user labels.1 action (no_left a.faults _ after_l) in
      let next : Sees i a.value.1 (known_behind i known action) = record {
        matches = (step_kept i l.value.1 known user labels.1.matches action keeps).1;
        some =
            after_some i known action labels.1.some keeps;
      } in
      (labels.0, keeps, steps_keep i a.value.1 (known_behind i known action) user next (step_after so_far a.value.0) others (no_right a.faults _ after_l))
