-- The statements of a main without a fault assign no variable of a `for` around them.
use Rattle.std.proofs.Common.{◌≡◌, refl, ap, sym, subst, ◌∙◌, ℕ, suc, ◌+◌, ◌<◌, ◌≤◌, Bool, true, false, ◌||◌, if◌then◌else◌, List, [], ◌∷◌, ◌++◌, arith, Option, Some, None}
use Rattle.std.specs.List.{AllByRecursion}
use Rattle.syntax.specs.Terminals.{Identifier}
use Rattle.syntax.specs.declared.declaration.DeclaredType.{DeclaredType}
use Rattle.syntax.specs.declared.declaration.DeclaredType.TheVariants as declared
use Rattle.apply_options.specs.declared.reduction.Reduction.{Reduction}
use Rattle.syntax.specs.SourceTrees as source
use Rattle.typed_tree.specs.declared.expression.VarRef.{VarRef}
use Rattle.typed_tree.specs.BlockTree.{StatementKindTree, BlockTree, Empty, Then}
use Rattle.typed_tree.specs.IntExpressionTree.{IntExpressionTree}
use Rattle.expression_types.specs.declared.scope.Entity.{Entity}
use Rattle.expression_types.specs.declared.scope.Entity.TheVariants as entity
use Rattle.expression_types.specs.Expression.{used_name, value_of, vector_index}
use Rattle.expression_types.specs.ScopeTree.{found, ScopeTree, declared_over, integers_of}
use Rattle.expression_types.specs.Faults.{WithFaults}
use Rattle.expression_types.specs.ValueTree as value
use Rattle.expression_types.specs.ValueTree.{ValueTree, entity_set}
use Rattle.types.specs.Block.{action_typed, then_statement, closed, statements_typed}
use Rattle.initializer_types.specs.Checker.{CheckerTree, condition_slot, counted, declared_in, integer_slot, with_label, set_slot, as_index, condition_in, integer_in}
use Rattle.initializer_types.specs.Initial.{ApplyEndTree, InitializerTree, edge_function, apply_end_of, initializer_condition, initializer_integer, initializer_members, initializer_of, is_edges, is_error_end}
use Rattle.initializer_types.specs.Initial.{is_wrong, lacks_weights, names_error, vertex_function}
use Rattle.types.specs.Statement.{add_vertex, added_to_set, applied, apply, assign, assigned, declare_as, edges_applied, entry_reduced, entry_set, has_ends, print, printed, reduce, reduce_entry}
use Rattle.types.specs.Statement.{reduced, set_applied, set_entry, vertices_applied}
use Rattle.type_laws.specs.LoopVariables.{IsOutside, KeepsInside, KeepsLoops, integers_behind}
use Rattle.type_laws.proofs.Faultless.{no_left, no_right, not_empty}
use Rattle.type_laws.proofs.KnownScopes.{labelled_scope}
use Rattle.type_laws.proofs.ResolvedScopes.{all_then, declared_over_is}
use Rattle.type_laws.proofs.ResolvedValues.{used_among}

-- the variables of loops have indices below this
abbrev pub AreBelow : List ℕ → ℕ → Type 0
AreBelow [] n = Unit {0}
AreBelow (i ∷ is) n = (i + 1 < n) × AreBelow is n

pub below_more : (is : List ℕ) (m n : ℕ) → m ≤ n → AreBelow is m → AreBelow is n
below_more [] m n more below = tt
below_more (i ∷ is) m n more below = let here : i + 1 < m = below.0 in (omega (arith, here, more), below_more is m n more below.1)

next_outside : (is : List ℕ) (n x : ℕ) → AreBelow is n → n ≤ x → IsOutside is x
next_outside [] n x below more = tt
next_outside (i ∷ is) n x below more =
    let here : i + 1 < n = below.0 in (λ same. omega (arith, here, more, same), λ same. omega (arith, here, more, same), next_outside is n x below.1 more)

-- an integer variable that has a name has an index below this, and is no variable of a loop
abbrev pub EntityIsOutside : List ℕ → ℕ → Entity → Type 0
EntityIsOutside is n (entity.IntVariable slot) = (slot.index < n) × IsOutside is slot.index
EntityIsOutside is n _ = Unit {0}

entity_more : (is : List ℕ) (m n : ℕ) → m ≤ n → (e : Entity) → EntityIsOutside is m e → EntityIsOutside is n e
entity_more is m n more (entity.IntVariable slot) outside = let here : slot.index < m = outside.0 in (omega (arith, here, more), outside.1)
entity_more is m n more _ outside = tt

entity_in_loop : (is : List ℕ) (n : ℕ) (e : Entity) → EntityIsOutside is n e → EntityIsOutside (n ∷ is) (n + 2) e
entity_in_loop is n (entity.IntVariable slot) outside =
    let here : slot.index < n = outside.0 in (omega (arith, here), (λ same. omega (arith, here, same), λ same. omega (arith, here, same), outside.1))
entity_in_loop is n _ outside = tt

-- this many integers are visible, and no name is a variable of a loop
pub record LoopsFit (is : List ℕ) (n : ℕ) (scope : ScopeTree) : Type 0 where
  pub count : scope.integers ≡ n
  pub below : AreBelow is n
  pub known : AllByRecursion (λ x. EntityIsOutside is n x.1) scope.visible

all_outside : (is js : List ℕ) (n m : ℕ) → ((e : Entity) → EntityIsOutside is n e → EntityIsOutside js m e) → (visible : List (List ℕ × Entity))
    → AllByRecursion (λ x. EntityIsOutside is n x.1) visible → AllByRecursion (λ x. EntityIsOutside js m x.1) visible
all_outside is js n m more [] all = tt
all_outside is js n m more (x ∷ others) all = (more x.1 all.0, all_outside is js n m more others all.1)

-- a declaration
declared_fits : (is js : List ℕ) (n m : ℕ) (c : CheckerTree) (name : Identifier) (e : Entity) → (declared_in c name e).faults ≡ [] → LoopsFit is n c.scope → n + integers_of e ≡ m
    → ((x : Entity) → EntityIsOutside is n x → EntityIsOutside js m x) → AreBelow js m → EntityIsOutside js m e → LoopsFit js m (declared_in c name e).value.scope
declared_fits is js n m c name e none fits count more below own =
    let over = declared_over (found name.bytes c.scope.visible) name e c.scope in
    let same = declared_over_is (found name.bytes c.scope.visible) name e c.scope (no_left over.faults [] none) in
    subst (λ scope. LoopsFit js m scope) (sym same) (record {
      count = ap (λ k. k + integers_of e) fits.count ∙ count;
      below = below;
      known = all_then (λ x. EntityIsOutside js m x.1) c.scope.visible (name.bytes, e) (all_outside is js n m more c.scope.visible fits.known) own;
    })

-- a name that is no integer
pub other_declared : (is : List ℕ) (n : ℕ) (c : CheckerTree) (name : Identifier) (e : Entity) → (declared_in c name e).faults ≡ [] → LoopsFit is n c.scope → integers_of e ≡ 0
    → EntityIsOutside is n e → LoopsFit is n (declared_in c name e).value.scope
other_declared is n c name e none fits no_integer own = declared_fits is is n n c name e none fits (omega (arith, no_integer)) (λ x outside. outside) fits.below own

integer_declared : (is : List ℕ) (n : ℕ) (c : CheckerTree) (name : Identifier) → (declared_in c name (entity.IntVariable (integer_slot c))).faults ≡ [] → LoopsFit is n c.scope
    → LoopsFit is (n + 1) (declared_in c name (entity.IntVariable (integer_slot c))).value.scope
integer_declared is n c name none fits =
    let count : c.scope.integers ≡ n = fits.count in
    declared_fits is is n (n + 1) c name (entity.IntVariable (integer_slot c)) none fits refl (entity_more is n (n + 1) (omega arith)) (below_more is n (n + 1) (omega arith) fits.below)
    (omega (arith, count), next_outside is n c.scope.integers fits.below (omega (arith, count)))

loop_declared : (is : List ℕ) (n : ℕ) (c : CheckerTree) (name : Identifier) → (declared_in c name (entity.LoopVariable (integer_slot c))).faults ≡ [] → LoopsFit is n c.scope
    → LoopsFit (n ∷ is) (n + 2) (declared_in c name (entity.LoopVariable (integer_slot c))).value.scope
loop_declared is n c name none fits =
    declared_fits is (n ∷ is) n (n + 2) c name (entity.LoopVariable (integer_slot c)) none fits refl (entity_in_loop is n) (omega arith, below_more is n (n + 2) (omega arith) fits.below) tt

used_outside : (is : List ℕ) (n : ℕ) (scope : ScopeTree) (name : Identifier) → LoopsFit is n scope → EntityIsOutside is n (used_name scope name).value
used_outside is n scope name fits = used_among (EntityIsOutside is n) tt name scope.visible fits.known

-- a statement that declares nothing and has no block
abbrev Plain : List ℕ → ℕ → StatementKindTree → Type 0
Plain is n a = KeepsInside n is a × (integers_behind a n ≡ n)

module _ (is : List ℕ) (n : ℕ) where
  if_plain : (b : Bool) (x y : WithFaults StatementKindTree) → Plain is n x.value → Plain is n y.value → Plain is n (if b then x else y).value
  if_plain true x y first other = first
  if_plain false x y first other = other

  assigned_plain : (at : ℕ) (initializer : InitializerTree) (e : Entity) → EntityIsOutside is n e → Plain is n (assigned at initializer e).value
  assigned_plain at initializer (entity.IntVariable slot) outside = (outside.1, refl)
  assigned_plain at initializer _ outside = (tt, refl)

  reduced_plain : (at : ℕ) (by : Reduction) (x : ValueTree) (e : Entity) → EntityIsOutside is n e → Plain is n (reduced at by x e).value
  reduced_plain at by x (entity.IntVariable slot) outside = (outside.1, refl)
  reduced_plain at by x _ outside = (tt, refl)

  added_plain : (at : ℕ) (x : ValueTree) (e : Entity) → Plain is n (added_to_set at x e).value
  added_plain at x (entity.Edges weights) = (tt, refl)
  added_plain at x _ = (tt, refl)

  set_plain : (vector : Option ℕ) (subscript : Option IntExpressionTree) (e : IntExpressionTree) → Plain is n (entry_set vector subscript e)
  set_plain None subscript e = (tt, refl)
  set_plain (Some vector) None e = (tt, refl)
  set_plain (Some vector) (Some subscript) e = (tt, refl)

  entry_plain : (vector : Option ℕ) (subscript : Option IntExpressionTree) (by : Reduction) (e : IntExpressionTree) → Plain is n (entry_reduced vector subscript by e)
  entry_plain None subscript by e = (tt, refl)
  entry_plain (Some vector) None by e = (tt, refl)
  entry_plain (Some vector) (Some subscript) by e = (tt, refl)

  printed_plain : (at : ℕ) (x : ValueTree) → Plain is n (printed at x).value
  printed_plain at (value.Integer e) = (tt, refl)
  printed_plain at (value.Condition c) = (tt, refl)
  printed_plain at (value.Vertex e) = (tt, refl)
  printed_plain at (value.Set slot) = (tt, refl)
  printed_plain at value.ErrorValue = (tt, refl)

  edges_plain : (at : ℕ) (a b : ApplyEndTree) (error : Bool) (function : Option ℕ) → Plain is n (edges_applied at a b error function).value
  edges_plain at a b true None = (tt, refl)
  edges_plain at a b false None = (tt, refl)
  edges_plain at a b error (Some function) = if_plain (is_error_end a || is_error_end b) _ _ (tt, refl) (tt, refl)

  vertices_plain : (at : ℕ) (slot : VarRef) (error : Bool) (function : Option ℕ) → Plain is n (vertices_applied at slot error function).value
  vertices_plain at slot true None = (tt, refl)
  vertices_plain at slot false None = (tt, refl)
  vertices_plain at slot error (Some function) = (tt, refl)

  set_applied_plain : (at : ℕ) (ends : Bool) (f : Entity) (slot : Option VarRef) → Plain is n (set_applied at ends f slot).value
  set_applied_plain at ends f None = (tt, refl)
  set_applied_plain at ends f (Some slot) = if_plain ends _ _ (tt, refl) (vertices_plain at slot (names_error f) (vertex_function f))

  applied_plain : (at : ℕ) (t : Entity) (a b : ApplyEndTree) (ends : Bool) (f : Entity) → Plain is n (applied at t a b ends f).value
  applied_plain at t a b ends f =
      if_plain (names_error t) _ _ (tt, refl) (if_plain (is_edges t) _ _
      (if_plain (is_wrong a || is_wrong b || lacks_weights t f) _ _ (tt, refl) (edges_plain at a b (names_error f) (edge_function f))) (set_applied_plain at ends f (entity_set t)))

-- a block with one statement more
abbrev pub all_after : BlockTree → ℕ → ℕ
all_after Empty n = n
all_after (Then number label action others) n = all_after others (integers_behind action n)

keeps_then : (is : List ℕ) (n : ℕ) (so_far : BlockTree) (number : ℕ) (label : Option ℕ) (action : StatementKindTree) → KeepsLoops n is so_far → KeepsInside (all_after so_far n) is action
    → KeepsLoops n is (then_statement so_far number label action)
keeps_then is n Empty number label action keeps own = (own, tt)
keeps_then is n (Then m l a others) number label action keeps own = (keeps.0, keeps_then is (integers_behind a n) others number label action keeps.1 own)

after_then : (n : ℕ) (so_far : BlockTree) (number : ℕ) (label : Option ℕ) (action : StatementKindTree)
    → all_after (then_statement so_far number label action) n ≡ integers_behind action (all_after so_far n)
after_then n Empty number label action = refl
after_then n (Then m l a others) number label action = after_then (integers_behind a n) others number label action

-- statements, and what is visible after them
abbrev ActionFits : List ℕ → ℕ → StatementKindTree × CheckerTree → Type 0
ActionFits is n r = KeepsInside n is r.0 × LoopsFit is (integers_behind r.0 n) r.1.scope

abbrev pub BlockFits : List ℕ → ℕ → BlockTree × CheckerTree → Type 0
BlockFits is n r = KeepsLoops n is r.0 × LoopsFit is (all_after r.0 n) r.1.scope

plain_fits : (is : List ℕ) (n : ℕ) (c : CheckerTree) (a : StatementKindTree) → LoopsFit is n c.scope → Plain is n a → ActionFits is n (a, c)
plain_fits is n c a fits plain = (plain.0, subst (λ m. LoopsFit is m c.scope) (sym plain.1) fits)

declare_fits : (is : List ℕ) (n : ℕ) (c : CheckerTree) (at : ℕ) (name : Identifier) (initializer : InitializerTree) (type : DeclaredType)
    → (declare_as c at name initializer type).faults ≡ [] → LoopsFit is n c.scope → ActionFits is n (declare_as c at name initializer type).value
declare_fits is n c at name initializer declared.Int none fits =
    let e = entity.IntVariable (integer_slot c) in
    (tt, integer_declared is n c name (no_left (declared_in c name e).faults [] (no_right (initializer_integer at initializer).faults _ none)) fits)
declare_fits is n c at name initializer declared.Bool none fits =
    let e = entity.BoolVariable (condition_slot c) in
    (tt, other_declared is n c name e (no_left (declared_in c name e).faults [] (no_right (initializer_condition at initializer).faults _ none)) fits refl tt)
declare_fits is n c at name initializer declared.Vertex none fits = absurd (not_empty _ _ none)
declare_fits is n c at name initializer declared.VertexSet none fits =
    let e = entity.SetVariable (set_slot c) in
    (tt, other_declared is n c name e (no_left (declared_in c name e).faults [] (no_right (initializer_members at initializer).faults _ none)) fits refl tt)
declare_fits is n c at name initializer declared.Vector none fits = absurd (not_empty _ _ none)
declare_fits is n c at name initializer declared.EdgeSet none fits = absurd (not_empty _ _ none)
declare_fits is n c at name initializer declared.WeightedEdgeSet none fits = absurd (not_empty _ _ none)

mutual
  action_fits : (is : List ℕ) (n : ℕ) (c : CheckerTree) (action : source.StatementKindTree) → (action_typed c action).faults ≡ [] → LoopsFit is n c.scope
      → ActionFits is n (action_typed c action).value
  action_fits is n c (source.Declare at x initial) none fits =
      let initializer = initializer_of c at initial in declare_fits is n c at x.name initializer.value x.declared (no_right initializer.faults _ none) fits
  action_fits is n c (source.While at test body) none fits =
      let b = statements_typed c Empty body in
      let inner = statements_fit is n c Empty body (no_left b.faults [] (no_right (condition_in c.scope at test).faults _ none)) tt fits in (inner.0, fits)
  action_fits is n c (source.For at name first limit body) none fits =
      let d = declared_in c name (entity.LoopVariable (integer_slot c)) in
      let b = statements_typed d.value Empty body in
      let clear = no_right (integer_in c.scope at limit).faults (d.faults ++ (b.faults ++ [])) (no_right (integer_in c.scope at first).faults _ none) in
      let entered = loop_declared is n c name (no_left d.faults (b.faults ++ []) clear) fits in
      let inner = statements_fit (n ∷ is) (n + 2) d.value Empty body (no_left b.faults [] (no_right d.faults (b.faults ++ []) clear)) tt entered in (inner.0, fits)
  action_fits is n c (source.If at test body) none fits =
      let b = statements_typed c Empty body in
      let inner = statements_fit is n c Empty body (no_left b.faults [] (no_right (condition_in c.scope at test).faults _ none)) tt fits in (inner.0, fits)
  action_fits is n c (source.IfElse at test body otherwise) none fits =
      let b = statements_typed c Empty body in
      let d = closed c b.value.1 in
      let o = statements_typed d Empty otherwise in
      let both = no_right (condition_in c.scope at test).faults (b.faults ++ (o.faults ++ [])) none in
      let inner = statements_fit is n c Empty body (no_left b.faults (o.faults ++ []) both) tt fits in
      let other = statements_fit is n d Empty otherwise (no_left o.faults [] (no_right b.faults (o.faults ++ []) both)) tt fits in ((inner.0, other.0), fits)
  action_fits is n c (source.Print at e) none fits = plain_fits is n c (print c.scope at e).value fits (printed_plain is n at (value_of c.scope at e).value)
  action_fits is n c (source.Assign name initial) none fits =
      plain_fits is n c (assign c name.at name initial).value fits
      (assigned_plain is n name.at (initializer_of c name.at initial).value (used_name c.scope name).value (used_outside is n c.scope name fits))
  action_fits is n c (source.Reduce name by e) none fits =
      plain_fits is n c (reduce c.scope name.at name by e).value fits
      (reduced_plain is n name.at by (value_of c.scope name.at e).value (used_name c.scope name).value (used_outside is n c.scope name fits))
  action_fits is n c (source.SetEntry vector subscript e) none fits =
      plain_fits is n c (set_entry c.scope vector.at vector subscript e).value fits
      (set_plain is n (vector_index c.scope vector.at vector).value (as_index vector.at (value_of c.scope vector.at subscript).value).value (integer_in c.scope vector.at e).value)
  action_fits is n c (source.ReduceEntry vector subscript by e) none fits =
      plain_fits is n c (reduce_entry c.scope vector.at vector subscript by e).value fits
      (entry_plain is n (vector_index c.scope vector.at vector).value (as_index vector.at (value_of c.scope vector.at subscript).value).value by (integer_in c.scope vector.at e).value)
  action_fits is n c (source.AddVertex set e) none fits =
      plain_fits is n c (add_vertex c.scope set.at set e).value fits (added_plain is n set.at (value_of c.scope set.at e).value (used_name c.scope set).value)
  action_fits is n c (source.Apply target ends function) none fits =
      plain_fits is n c (apply c.scope target.at target ends function).value fits
      (applied_plain is n target.at (used_name c.scope target).value (apply_end_of c.scope ends.from).value (apply_end_of c.scope ends.to).value (has_ends ends) (used_name c.scope function).value)

  pub statements_fit : (is : List ℕ) (n : ℕ) (c : CheckerTree) (so_far : BlockTree) (block : source.BlockTree) → (statements_typed c so_far block).faults ≡ []
      → KeepsLoops n is so_far → LoopsFit is (all_after so_far n) c.scope → BlockFits is n (statements_typed c so_far block).value
  statements_fit is n c so_far source.Empty none keeps fits = (keeps, fits)
  statements_fit is n c so_far (source.Then label action others) none keeps fits =
      let l = with_label c label in
      let d = counted l.value.1 in
      let a = action_typed d action in
      let number = suc l.value.1.statements in
      let next = then_statement so_far number l.value.0 a.value.0 in
      let rest = statements_typed a.value.1 next others in
      let here = all_after so_far n in
      let both = no_right l.faults (a.faults ++ rest.faults) none in
      let labels : LoopsFit is here d.scope = subst (λ scope. LoopsFit is here scope) (sym (labelled_scope c label)) fits in
      let first = action_fits is here d action (no_left a.faults rest.faults both) labels in
      statements_fit is n a.value.1 next others (no_right a.faults rest.faults both) (keeps_then is n so_far number l.value.0 a.value.0 keeps first.0)
      (subst (λ m. LoopsFit is m a.value.1.scope) (sym (after_then n so_far number l.value.0 a.value.0)) first.1)
