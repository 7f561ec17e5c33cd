-- A source without a fault uses visible names alone.
use Rattle.std.proofs.Common.{◌≡◌, refl, sym, subst, ℕ, suc, ◌<◌, arith, Bool, true, false, if◌then◌else◌, List, [], ◌∷◌, ◌++◌, length, map, Option, Some, None}
use Rattle.std.specs.Str.{bytes_eq}
use Rattle.std.specs.List.{Contains}
use Rattle.std.proofs.lemmas.Slice.Eq.{bytes_eq-Decides}
use Rattle.syntax.specs.Terminals.{Identifier}
use Rattle.syntax.specs.declared.operators.Addition.{Addition}
use Rattle.syntax.specs.declared.operators.Multiplication.{Multiplication}
use Rattle.syntax.specs.SourceTrees as tree
use Rattle.syntax.specs.SourceTrees.{ExpressionTree, ConjunctionTree, ComparisonTree, SumTree, TermTree, UnaryTree, PrimaryTree, InitialTree, ParameterTree, DeclarationTree, SourceTree}
use Rattle.typed_tree.specs.BlockTree.{BlockTree, Empty}
use Rattle.typed_tree.specs.FunctionStatementTree.{FunctionStatementsTree, NoStep}
use Rattle.expression_types.specs.declared.scope.Entity.{Entity}
use Rattle.expression_types.specs.declared.scope.Entity.TheVariants as entity
use Rattle.expression_types.specs.declared.scope.Inside.{Inside}
use Rattle.expression_types.specs.declared.scope.Inside.TheVariants as inside
use Rattle.expression_types.specs.BareNames.{lone_name, comparison_name, conjunction_name, primary_name, sum_name, term_name, unary_name}
use Rattle.expression_types.specs.Expression.{comparison_value, conjunction_value, conjuncts, disjuncts, factors, index_as, index_lacks_value, index_value, lacks_value, name_lacks_value, no_vertex}
use Rattle.expression_types.specs.Expression.{primary_value, sum_value, summands, term_value, unary_value, used_name, used_as, value_of, vector_index}
use Rattle.expression_types.specs.ScopeTree.{found, ScopeTree}
use Rattle.expression_types.specs.Faults.{WithFaults, sure}
use Rattle.expression_types.specs.Operators.{ConditionsTree, IntegersTree, first_condition, first_integer}
use Rattle.expression_types.specs.ValueTree.{ValueTree}
use Rattle.types.specs.Block.{action_typed, then_statement, closed, statements_typed}
use Rattle.initializer_types.specs.Checker.{CheckerTree, counted, declared_in, integer_slot, with_label, restarted, as_index, condition_in, integer_in}
use Rattle.initializer_types.specs.DeclarationForms.{FunctionKindTree, MainKind, EdgeKind, VertexKind, FilterKind, NoKind, kind}
use Rattle.types.specs.Declaration.{DeclaredTree, declaration_typed, declarations_typed, declare_function, kind_fits, main_declared, opened, steps_declared}
use Rattle.initializer_types.specs.Initial.{apply_end_of, initializer_of}
use Rattle.type_laws.specs.NewNames.{names_after, names_inside}
use Rattle.types.specs.Program.{no_declarations, program_of, set_count}
use Rattle.types.specs.Statement.{add_vertex, apply, assign, print, reduce, reduce_entry, set_entry}
use Rattle.types.specs.Step.{assign_step, may_reduce, may_set, own_vertex, reduce_step, set_entry_step, step_after, step_typed, steps_after, steps_typed, written_at}
use Rattle.type_laws.specs.UsedNames.{ActionUsesVisible, BlockUsesVisible, ComparisonUsesVisible, ConjunctionUsesVisible, DeclarationUsesVisible, DeclarationsUseVisible, EndIsVisible}
use Rattle.type_laws.specs.UsedNames.{ExpressionUsesVisible, InitialUsesVisible, IsVisible, PrimaryUsesVisible, SumUsesVisible, TermUsesVisible, UnaryUsesVisible}
use Rattle.type_laws.proofs.Booleans.{false_is_not_true}
use Rattle.type_laws.proofs.NewNames.{action_new, declaration_new, declared_new, labelled_same, opened_new, step_new}
use Rattle.type_laws.proofs.Faultless.{no_left, no_right, not_empty}

-- the names that are visible
abbrev seen : ScopeTree → List (List ℕ)
seen scope = map (λ x. x.0) scope.visible

first_visible : (name : Identifier) (other : List ℕ) (b : Bool) (e : Entity) (o : Option Entity) (others : List (List ℕ)) → bytes_eq name.bytes other ≡ b
    → (used_as name (if b then Some e else o)).faults ≡ [] → ((used_as name o).faults ≡ [] → Contains others name.bytes) → Contains (other ∷ others) name.bytes
first_visible name other true e o others test none further = (0, omega arith, sym ((bytes_eq-Decides name.bytes other).0 test))
first_visible name other false e o others test none further =
    let there = further none in let within : there.0 < length others = there.1 in (suc there.0, omega (arith, within), there.2)

one_visible : (name : Identifier) (visible : List (List ℕ × Entity)) → (used_as name (found name.bytes visible)).faults ≡ [] → Contains (map (λ x. x.0) visible) name.bytes
one_visible name [] none = absurd (not_empty _ _ none)
one_visible name (x ∷ others) none =
    first_visible name x.0 (bytes_eq name.bytes x.0) x.1 (found name.bytes others) (map (λ x. x.0) others) refl none (one_visible name others)

used_visible : (scope : ScopeTree) (name : Identifier) → (used_name scope name).faults ≡ [] → IsVisible (seen scope) name
used_visible scope name none = one_visible name scope.visible none

vector_visible : (scope : ScopeTree) (at : ℕ) (name : Identifier) → (vector_index scope at name).faults ≡ [] → IsVisible (seen scope) name
vector_visible scope at name none = used_visible scope name (no_left (used_name scope name).faults _ none)

-- a bare name that lacks a value is visible
lacking_used : (name : Identifier) (e : Option Entity) → lacks_value e ≡ true → (used_as name e).faults ≡ []
lacking_used name None is = absurd (false_is_not_true is)
lacking_used name (Some e) is = refl

mutual
  bare_visible : (scope : ScopeTree) (e : ExpressionTree) → name_lacks_value scope (lone_name e) ≡ true → ExpressionUsesVisible (seen scope) e
  bare_visible scope (tree.LastConjunction c) is = conjunction_bare scope c is
  bare_visible scope (tree.ConjunctionThen c others) is = absurd (false_is_not_true is)

  conjunction_bare : (scope : ScopeTree) (c : ConjunctionTree) → name_lacks_value scope (conjunction_name c) ≡ true → ConjunctionUsesVisible (seen scope) c
  conjunction_bare scope (tree.LastComparison c) is = comparison_bare scope c is
  conjunction_bare scope (tree.ComparisonThen c others) is = absurd (false_is_not_true is)

  comparison_bare : (scope : ScopeTree) (c : ComparisonTree) → name_lacks_value scope (comparison_name c) ≡ true → ComparisonUsesVisible (seen scope) c
  comparison_bare scope (tree.OneSum s) is = sum_bare scope s is
  comparison_bare scope (tree.TwoSums left relation right) is = absurd (false_is_not_true is)

  sum_bare : (scope : ScopeTree) (s : SumTree) → name_lacks_value scope (sum_name s) ≡ true → SumUsesVisible (seen scope) s
  sum_bare scope (tree.LastTerm t) is = term_bare scope t is
  sum_bare scope (tree.TermThen t o others) is = absurd (false_is_not_true is)

  term_bare : (scope : ScopeTree) (t : TermTree) → name_lacks_value scope (term_name t) ≡ true → TermUsesVisible (seen scope) t
  term_bare scope (tree.LastUnary u) is = unary_bare scope u is
  term_bare scope (tree.UnaryThen u o others) is = absurd (false_is_not_true is)

  unary_bare : (scope : ScopeTree) (u : UnaryTree) → name_lacks_value scope (unary_name u) ≡ true → UnaryUsesVisible (seen scope) u
  unary_bare scope (tree.Bare e) is = primary_bare scope e is
  unary_bare scope (tree.Signed sign u) is = absurd (false_is_not_true is)

  primary_bare : (scope : ScopeTree) (e : PrimaryTree) → name_lacks_value scope (primary_name e) ≡ true → PrimaryUsesVisible (seen scope) e
  primary_bare scope (tree.Literal n) is = tt
  primary_bare scope (tree.Truth b) is = tt
  primary_bare scope (tree.Variable name) is = used_visible scope name (lacking_used name (found name.bytes scope.visible) is)
  primary_bare scope (tree.Entry vector index) is = absurd (false_is_not_true is)
  primary_bare scope (tree.Size set) is = absurd (false_is_not_true is)
  primary_bare scope (tree.Parentheses inside) is = bare_visible scope inside is

lacking_bare : (i : Inside) (scope : ScopeTree) (index : ExpressionTree) → index_lacks_value i scope index ≡ true → name_lacks_value scope (lone_name index) ≡ true
lacking_bare inside.Main scope index is = absurd (false_is_not_true is)
lacking_bare inside.EdgeFunction scope index is = is
lacking_bare inside.VertexFunction scope index is = is
lacking_bare inside.Filter scope index is = is

if_visible : (scope : ScopeTree) (index : ExpressionTree) (value : WithFaults ValueTree) (lacks : Bool) → index_lacks_value scope.inside scope index ≡ lacks
    → (value.faults ≡ [] → ExpressionUsesVisible (seen scope) index) → (if lacks then sure no_vertex else value).faults ≡ [] → ExpressionUsesVisible (seen scope) index
if_visible scope index value true is visible none = bare_visible scope index (lacking_bare scope.inside scope index is)
if_visible scope index value false is visible none = visible none

index_visible : (scope : ScopeTree) (index : ExpressionTree) (value : WithFaults ValueTree) → (value.faults ≡ [] → ExpressionUsesVisible (seen scope) index) → (index_as scope index value).faults ≡ []
    → ExpressionUsesVisible (seen scope) index
index_visible scope index value visible none = if_visible scope index value (index_lacks_value scope.inside scope index) refl visible none

-- expressions
mutual
  expression_visible : (scope : ScopeTree) (at : ℕ) (e : ExpressionTree) → (value_of scope at e).faults ≡ [] → ExpressionUsesVisible (seen scope) e
  expression_visible scope at (tree.LastConjunction c) none = conjunction_visible scope at c none
  expression_visible scope at (tree.ConjunctionThen c others) none =
      let x = conjunction_value scope at c in
      let rest = disjuncts scope at (first_condition x.value) others in (
        conjunction_visible scope at c (no_left x.faults _ none),
        disjuncts_visible scope at (first_condition x.value) others (no_left rest.faults _ (no_right x.faults _ none)),
      )

  disjuncts_visible : (scope : ScopeTree) (at : ℕ) (left : ConditionsTree) (e : ExpressionTree) → (disjuncts scope at left e).faults ≡ [] → ExpressionUsesVisible (seen scope) e
  disjuncts_visible scope at left (tree.LastConjunction c) none = conjunction_visible scope at c (no_left (conjunction_value scope at c).faults [] none)
  disjuncts_visible scope at left (tree.ConjunctionThen c others) none =
      let x = conjunction_value scope at c in
      (conjunction_visible scope at c (no_left x.faults _ none), disjuncts_visible scope at _ others (no_right x.faults _ none))

  conjunction_visible : (scope : ScopeTree) (at : ℕ) (c : ConjunctionTree) → (conjunction_value scope at c).faults ≡ [] → ConjunctionUsesVisible (seen scope) c
  conjunction_visible scope at (tree.LastComparison c) none = comparison_visible scope at c none
  conjunction_visible scope at (tree.ComparisonThen c others) none =
      let x = comparison_value scope at c in
      let rest = conjuncts scope at (first_condition x.value) others in (
        comparison_visible scope at c (no_left x.faults _ none),
        conjuncts_visible scope at (first_condition x.value) others (no_left rest.faults _ (no_right x.faults _ none)),
      )

  conjuncts_visible : (scope : ScopeTree) (at : ℕ) (left : ConditionsTree) (c : ConjunctionTree) → (conjuncts scope at left c).faults ≡ [] → ConjunctionUsesVisible (seen scope) c
  conjuncts_visible scope at left (tree.LastComparison c) none = comparison_visible scope at c (no_left (comparison_value scope at c).faults [] none)
  conjuncts_visible scope at left (tree.ComparisonThen c others) none =
      let x = comparison_value scope at c in
      (comparison_visible scope at c (no_left x.faults _ none), conjuncts_visible scope at _ others (no_right x.faults _ none))

  comparison_visible : (scope : ScopeTree) (at : ℕ) (c : ComparisonTree) → (comparison_value scope at c).faults ≡ [] → ComparisonUsesVisible (seen scope) c
  comparison_visible scope at (tree.OneSum s) none = sum_visible scope at s none
  comparison_visible scope at (tree.TwoSums left relation right) none =
      let a = sum_value scope at left in
      let b = sum_value scope at right in
      (sum_visible scope at left (no_left a.faults _ none), sum_visible scope at right (no_left b.faults _ (no_right a.faults _ none)))

  sum_visible : (scope : ScopeTree) (at : ℕ) (s : SumTree) → (sum_value scope at s).faults ≡ [] → SumUsesVisible (seen scope) s
  sum_visible scope at (tree.LastTerm t) none = term_visible scope at t none
  sum_visible scope at (tree.TermThen t o others) none =
      let x = term_value scope at t in
      let rest = summands scope at (first_integer x.value) o others in (
        term_visible scope at t (no_left x.faults _ none),
        summands_visible scope at (first_integer x.value) o others (no_left rest.faults _ (no_right x.faults _ none)),
      )

  summands_visible : (scope : ScopeTree) (at : ℕ) (left : IntegersTree) (o : Addition) (s : SumTree) → (summands scope at left o s).faults ≡ [] → SumUsesVisible (seen scope) s
  summands_visible scope at left o (tree.LastTerm t) none = term_visible scope at t (no_left (term_value scope at t).faults [] none)
  summands_visible scope at left o (tree.TermThen t next others) none =
      let x = term_value scope at t in
      (term_visible scope at t (no_left x.faults _ none), summands_visible scope at _ next others (no_right x.faults _ none))

  term_visible : (scope : ScopeTree) (at : ℕ) (t : TermTree) → (term_value scope at t).faults ≡ [] → TermUsesVisible (seen scope) t
  term_visible scope at (tree.LastUnary u) none = unary_visible scope at u none
  term_visible scope at (tree.UnaryThen u o others) none =
      let x = unary_value scope at u in
      let rest = factors scope at (first_integer x.value) o others in (
        unary_visible scope at u (no_left x.faults _ none),
        factors_visible scope at (first_integer x.value) o others (no_left rest.faults _ (no_right x.faults _ none)),
      )

  factors_visible : (scope : ScopeTree) (at : ℕ) (left : IntegersTree) (o : Multiplication) (t : TermTree) → (factors scope at left o t).faults ≡ [] → TermUsesVisible (seen scope) t
  factors_visible scope at left o (tree.LastUnary u) none = unary_visible scope at u (no_left (unary_value scope at u).faults [] none)
  factors_visible scope at left o (tree.UnaryThen u next others) none =
      let x = unary_value scope at u in
      (unary_visible scope at u (no_left x.faults _ none), factors_visible scope at _ next others (no_right x.faults _ none))

  unary_visible : (scope : ScopeTree) (at : ℕ) (u : UnaryTree) → (unary_value scope at u).faults ≡ [] → UnaryUsesVisible (seen scope) u
  unary_visible scope at (tree.Bare e) none = primary_visible scope at e none
  unary_visible scope at (tree.Signed sign u) none = unary_visible scope at u (no_left (unary_value scope at u).faults _ none)

  primary_visible : (scope : ScopeTree) (at : ℕ) (e : PrimaryTree) → (primary_value scope at e).faults ≡ [] → PrimaryUsesVisible (seen scope) e
  primary_visible scope at (tree.Literal n) none = tt
  primary_visible scope at (tree.Truth b) none = tt
  primary_visible scope at (tree.Variable name) none = used_visible scope name (no_left (used_name scope name).faults _ none)
  primary_visible scope at (tree.Entry vector subscript) none =
      let e = used_name scope vector in (
        used_visible scope vector (no_left e.faults _ none),
        index_visible scope subscript (value_of scope at subscript) (expression_visible scope at subscript) (no_left (index_value scope at subscript).faults _ (no_right e.faults _ none)),
      )
  primary_visible scope at (tree.Size set) none = used_visible scope set (no_left (used_name scope set).faults _ none)
  primary_visible scope at (tree.Parentheses inside) none = expression_visible scope at inside none

integer_visible : (scope : ScopeTree) (at : ℕ) (e : ExpressionTree) → (integer_in scope at e).faults ≡ [] → ExpressionUsesVisible (seen scope) e
integer_visible scope at e none = expression_visible scope at e (no_left (value_of scope at e).faults _ none)

condition_visible : (scope : ScopeTree) (at : ℕ) (e : ExpressionTree) → (condition_in scope at e).faults ≡ [] → ExpressionUsesVisible (seen scope) e
condition_visible scope at e none = expression_visible scope at e (no_left (value_of scope at e).faults _ none)

-- ends, and initial values
end_visible : (scope : ScopeTree) (name : Option Identifier) → (apply_end_of scope name).faults ≡ [] → EndIsVisible (seen scope) name
end_visible scope None none = tt
end_visible scope (Some name) none = used_visible scope name (no_left (used_name scope name).faults [] none)

initializer_visible : (c : CheckerTree) (at : ℕ) (initial : InitialTree) → (initializer_of c at initial).faults ≡ [] → InitialUsesVisible (seen c.scope) initial
initializer_visible c at (tree.NewSet size) none = tt
initializer_visible c at (tree.Load argument) none = tt
initializer_visible c at (tree.Vertices edges) none = used_visible c.scope edges (no_left (used_name c.scope edges).faults _ none)
initializer_visible c at (tree.OutDegrees edges) none = used_visible c.scope edges (no_left (used_name c.scope edges).faults _ none)
initializer_visible c at (tree.Filter s f) none = (
  used_visible c.scope s (no_left (used_name c.scope s).faults _ none),
  used_visible c.scope f (no_left (used_name c.scope f).faults _ (no_right (used_name c.scope s).faults _ none)),
)
initializer_visible c at (tree.ApplyModified edges ends f x) none =
    let behind_edges = no_right (used_name c.scope edges).faults _ none in
    let after_from = no_right (apply_end_of c.scope ends.from).faults _ behind_edges in
    let after_to = no_right (apply_end_of c.scope ends.to).faults _ after_from in (
      used_visible c.scope edges (no_left (used_name c.scope edges).faults _ none),
      (
        end_visible c.scope ends.from (no_left (apply_end_of c.scope ends.from).faults _ behind_edges),
        end_visible c.scope ends.to (no_left (apply_end_of c.scope ends.to).faults _ after_from),
      ),
      used_visible c.scope f (no_left (used_name c.scope f).faults _ after_to),
      used_visible c.scope x (no_left (used_name c.scope x).faults _ (no_right (used_name c.scope f).faults _ after_to)),
    )
initializer_visible c at (tree.Value e) none = expression_visible c.scope at e (no_left (value_of c.scope at e).faults [] none)

-- statements of functions
mutual
  step_visible : (c : CheckerTree) (action : tree.StatementKindTree) → (step_typed c action).faults ≡ [] → ActionUsesVisible (seen c.scope) action
  step_visible c (tree.Declare at x initial) none = initializer_visible c at initial (no_left (initializer_of c at initial).faults _ none)
  step_visible c (tree.While at test body) none = absurd (not_empty _ _ none)
  step_visible c (tree.For at name first limit body) none = absurd (not_empty _ _ none)
  step_visible c (tree.If at test body) none =
      let t = condition_in c.scope at test in
      let b = steps_typed c NoStep body in
      (condition_visible c.scope at test (no_left t.faults _ none), steps_visible c NoStep body (no_left b.faults [] (no_right t.faults _ none)))
  step_visible c (tree.IfElse at test body otherwise) none =
      let t = condition_in c.scope at test in
      let b = steps_typed c NoStep body in
      let d = steps_after c b.value.1 in
      let o = steps_typed d NoStep otherwise in
      let both = no_right t.faults (b.faults ++ (o.faults ++ [])) none in (
        condition_visible c.scope at test (no_left t.faults _ none),
        steps_visible c NoStep body (no_left b.faults (o.faults ++ []) both),
        steps_visible d NoStep otherwise (no_left o.faults [] (no_right b.faults (o.faults ++ []) both)),
      )
  step_visible c (tree.Print at e) none = absurd (not_empty _ _ none)
  step_visible c (tree.Assign name initial) none =
      let all = no_left (assign_step c name.at name initial).faults [] none in (
        used_visible c.scope name (no_left (used_name c.scope name).faults _ all),
        initializer_visible c name.at initial (no_left (initializer_of c name.at initial).faults _ (no_right (used_name c.scope name).faults _ all)),
      )
  step_visible c (tree.Reduce name by e) none =
      let all = no_left (reduce_step c.scope name.at name by e).faults [] none in (
        used_visible c.scope name (no_left (used_name c.scope name).faults _ all),
        expression_visible c.scope name.at e (no_left (value_of c.scope name.at e).faults _ (no_right (used_name c.scope name).faults _ all)),
      )
  step_visible c (tree.SetEntry vector subscript e) none =
      let index = vector_index c.scope vector.at vector in
      let v = index_value c.scope vector.at subscript in
      let all = no_right (may_set vector.at c.scope.inside).faults _ (no_left (set_entry_step c.scope vector.at vector subscript e).faults [] none) in
      let after_vector = no_right index.faults _ all in
      let behind_index = no_right (written_at vector.at (own_vertex c.scope.inside) v.value).faults _ (no_right v.faults _ after_vector) in (
        vector_visible c.scope vector.at vector (no_left index.faults _ all),
        index_visible c.scope subscript (value_of c.scope vector.at subscript) (expression_visible c.scope vector.at subscript) (no_left v.faults _ after_vector),
        integer_visible c.scope vector.at e (no_left (integer_in c.scope vector.at e).faults _ behind_index),
      )
  step_visible c (tree.ReduceEntry vector subscript by e) none =
      let index = vector_index c.scope vector.at vector in
      let v = index_value c.scope vector.at subscript in
      let after_vector = no_right (may_reduce vector.at c.scope.inside index.value by c.writes).faults _ (no_right index.faults _ none) in
      let behind_index = no_right (written_at vector.at (own_vertex c.scope.inside) v.value).faults _ (no_right v.faults _ after_vector) in (
        vector_visible c.scope vector.at vector (no_left index.faults _ none),
        index_visible c.scope subscript (value_of c.scope vector.at subscript) (expression_visible c.scope vector.at subscript) (no_left v.faults _ after_vector),
        integer_visible c.scope vector.at e (no_left (integer_in c.scope vector.at e).faults _ behind_index),
      )
  step_visible c (tree.AddVertex set e) none = absurd (not_empty _ _ none)
  step_visible c (tree.Apply target ends function) none = absurd (not_empty _ _ none)

  steps_visible : (c : CheckerTree) (so_far : FunctionStatementsTree) (block : tree.BlockTree) → (steps_typed c so_far block).faults ≡ [] → BlockUsesVisible (seen c.scope) block
  steps_visible c so_far tree.Empty none = tt
  steps_visible c so_far (tree.Then label action others) none =
      let l = with_label c label in
      let s = step_typed l.value.1 action in
      let rest = steps_typed s.value.1 (step_after so_far s.value.0) others in
      let both = no_right l.faults (s.faults ++ rest.faults) none in
      let clear = no_left s.faults rest.faults both in
      let last = steps_visible s.value.1 (step_after so_far s.value.0) others (no_right s.faults rest.faults both) in
      subst (λ visible. ActionUsesVisible visible action × BlockUsesVisible (names_after visible action) others) (labelled_same c label)
      (step_visible l.value.1 action clear, subst (λ visible. BlockUsesVisible visible others) (step_new l.value.1 action clear).1 last)

-- statements of main
mutual
  action_visible : (c : CheckerTree) (action : tree.StatementKindTree) → (action_typed c action).faults ≡ [] → ActionUsesVisible (seen c.scope) action
  action_visible c (tree.Declare at x initial) none = initializer_visible c at initial (no_left (initializer_of c at initial).faults _ none)
  action_visible c (tree.While at test body) none =
      let t = condition_in c.scope at test in
      let b = statements_typed c Empty body in
      (condition_visible c.scope at test (no_left t.faults _ none), statements_visible c Empty body (no_left b.faults [] (no_right t.faults _ none)))
  action_visible c (tree.For at name first limit body) none =
      let e = entity.LoopVariable (integer_slot c) in
      let a = integer_in c.scope at first in
      let z = integer_in c.scope at limit in
      let d = declared_in c name e in
      let b = statements_typed d.value Empty body in
      let bounds = no_right a.faults _ none in
      let both = no_right z.faults (d.faults ++ (b.faults ++ [])) bounds in
      let inner = statements_visible d.value Empty body (no_left b.faults [] (no_right d.faults (b.faults ++ []) both)) in (
        integer_visible c.scope at first (no_left a.faults _ none),
        integer_visible c.scope at limit (no_left z.faults _ bounds),
        subst (λ visible. BlockUsesVisible visible body) (declared_new c name e (no_left d.faults (b.faults ++ []) both)).1 inner,
      )
  action_visible c (tree.If at test body) none =
      let t = condition_in c.scope at test in
      let b = statements_typed c Empty body in
      (condition_visible c.scope at test (no_left t.faults _ none), statements_visible c Empty body (no_left b.faults [] (no_right t.faults _ none)))
  action_visible c (tree.IfElse at test body otherwise) none =
      let t = condition_in c.scope at test in
      let b = statements_typed c Empty body in
      let d = closed c b.value.1 in
      let o = statements_typed d Empty otherwise in
      let both = no_right t.faults (b.faults ++ (o.faults ++ [])) none in (
        condition_visible c.scope at test (no_left t.faults _ none),
        statements_visible c Empty body (no_left b.faults (o.faults ++ []) both),
        statements_visible d Empty otherwise (no_left o.faults [] (no_right b.faults (o.faults ++ []) both)),
      )
  action_visible c (tree.Print at e) none =
      expression_visible c.scope at e (no_left (value_of c.scope at e).faults _ (no_left (print c.scope at e).faults [] none))
  action_visible c (tree.Assign name initial) none =
      let all = no_left (assign c name.at name initial).faults [] none in (
        used_visible c.scope name (no_left (used_name c.scope name).faults _ all),
        initializer_visible c name.at initial (no_left (initializer_of c name.at initial).faults _ (no_right (used_name c.scope name).faults _ all)),
      )
  action_visible c (tree.Reduce name by e) none =
      let all = no_left (reduce c.scope name.at name by e).faults [] none in (
        used_visible c.scope name (no_left (used_name c.scope name).faults _ all),
        expression_visible c.scope name.at e (no_left (value_of c.scope name.at e).faults _ (no_right (used_name c.scope name).faults _ all)),
      )
  action_visible c (tree.SetEntry vector subscript e) none =
      let index = vector_index c.scope vector.at vector in
      let v = value_of c.scope vector.at subscript in
      let all = no_left (set_entry c.scope vector.at vector subscript e).faults [] none in
      let after_vector = no_right index.faults _ all in
      let behind_index = no_right (as_index vector.at v.value).faults _ (no_right v.faults _ after_vector) in (
        vector_visible c.scope vector.at vector (no_left index.faults _ all),
        expression_visible c.scope vector.at subscript (no_left v.faults _ after_vector),
        integer_visible c.scope vector.at e (no_left (integer_in c.scope vector.at e).faults _ behind_index),
      )
  action_visible c (tree.ReduceEntry vector subscript by e) none =
      let index = vector_index c.scope vector.at vector in
      let v = value_of c.scope vector.at subscript in
      let all = no_left (reduce_entry c.scope vector.at vector subscript by e).faults [] none in
      let after_vector = no_right index.faults _ all in
      let behind_index = no_right (as_index vector.at v.value).faults _ (no_right v.faults _ after_vector) in (
        vector_visible c.scope vector.at vector (no_left index.faults _ all),
        expression_visible c.scope vector.at subscript (no_left v.faults _ after_vector),
        integer_visible c.scope vector.at e (no_left (integer_in c.scope vector.at e).faults _ behind_index),
      )
  action_visible c (tree.AddVertex set e) none =
      let all = no_left (add_vertex c.scope set.at set e).faults [] none in (
        used_visible c.scope set (no_left (used_name c.scope set).faults _ all),
        expression_visible c.scope set.at e (no_left (value_of c.scope set.at e).faults _ (no_right (used_name c.scope set).faults _ all)),
      )
  action_visible c (tree.Apply target ends function) none =
      let all = no_left (apply c.scope target.at target ends function).faults [] none in
      let after_target = no_right (used_name c.scope target).faults _ all in
      let after_from = no_right (apply_end_of c.scope ends.from).faults _ after_target in
      let after_to = no_right (apply_end_of c.scope ends.to).faults _ after_from in (
        used_visible c.scope target (no_left (used_name c.scope target).faults _ all),
        (
          end_visible c.scope ends.from (no_left (apply_end_of c.scope ends.from).faults _ after_target),
          end_visible c.scope ends.to (no_left (apply_end_of c.scope ends.to).faults _ after_from),
        ),
        used_visible c.scope function (no_left (used_name c.scope function).faults _ after_to),
      )

  statements_visible : (c : CheckerTree) (so_far : BlockTree) (block : tree.BlockTree) → (statements_typed c so_far block).faults ≡ [] → BlockUsesVisible (seen c.scope) block
  statements_visible c so_far tree.Empty none = tt
  statements_visible c so_far (tree.Then label action others) none =
      let l = with_label c label in
      let d = counted l.value.1 in
      let a = action_typed d action in
      let more = then_statement so_far (suc l.value.1.statements) l.value.0 a.value.0 in
      let rest = statements_typed a.value.1 more others in
      let both = no_right l.faults (a.faults ++ rest.faults) none in
      let clear = no_left a.faults rest.faults both in
      let last = statements_visible a.value.1 more others (no_right a.faults rest.faults both) in
      subst (λ visible. ActionUsesVisible visible action × BlockUsesVisible (names_after visible action) others) (labelled_same c label)
      (action_visible d action clear, subst (λ visible. BlockUsesVisible visible others) (action_new d action clear).1 last)

-- functions
steps_declared_visible : (d : DeclaredTree) (at : ℕ) (kind : FunctionKindTree) (name : Identifier) (parameters : List ParameterTree) (result : Option ParameterTree) (body : tree.BlockTree)
    → (steps_declared d at kind name parameters result body).faults ≡ [] → BlockUsesVisible (names_inside (seen d.checker.scope) parameters result) body
steps_declared_visible d at kind name parameters result body none =
    let c = opened d.checker kind parameters result in
    let b = steps_typed c.value NoStep body in
    let inside = no_right (kind_fits at kind).faults _ none in
    let clear = no_left b.faults _ (no_right c.faults _ inside) in
    subst (λ visible. BlockUsesVisible visible body) (opened_new d.checker kind parameters result (no_left c.faults _ inside)).2 (steps_visible c.value NoStep body clear)

main_visible : (d : DeclaredTree) (fits : Bool) (name : Identifier) (parameters : List ParameterTree) (result : Option ParameterTree) (body : tree.BlockTree)
    → (main_declared d fits name parameters result body).faults ≡ [] → BlockUsesVisible (names_inside (seen d.checker.scope) parameters result) body
main_visible d fits name parameters result body none =
    let c = opened (restarted d.checker) (MainKind fits) parameters result in
    let b = statements_typed c.value Empty body in
    let clear = no_left b.faults _ (no_right c.faults _ none) in
    subst (λ visible. BlockUsesVisible visible body) (opened_new (restarted d.checker) (MainKind fits) parameters result (no_left c.faults _ none)).2
    (statements_visible c.value Empty body clear)

function_visible : (d : DeclaredTree) (at : ℕ) (name : Identifier) (parameters : List ParameterTree) (result : Option ParameterTree) (body : tree.BlockTree) (kind : FunctionKindTree)
    → (declare_function d at name parameters result body kind).faults ≡ [] → BlockUsesVisible (names_inside (seen d.checker.scope) parameters result) body
function_visible d at name parameters result body (MainKind fits) none = main_visible d fits name parameters result body none
function_visible d at name parameters result body (EdgeKind weighted) none = steps_declared_visible d at (EdgeKind weighted) name parameters result body none
function_visible d at name parameters result body VertexKind none = steps_declared_visible d at VertexKind name parameters result body none
function_visible d at name parameters result body FilterKind none = steps_declared_visible d at FilterKind name parameters result body none
function_visible d at name parameters result body NoKind none = steps_declared_visible d at NoKind name parameters result body none

-- declarations
declaration_visible : (d : DeclaredTree) (x : DeclarationTree) → (declaration_typed d x).faults ≡ [] → DeclarationUsesVisible (seen d.checker.scope) x
declaration_visible d (tree.Constant at x initial) none = initializer_visible d.checker at initial (no_left (initializer_of d.checker at initial).faults _ none)
declaration_visible d (tree.Function at name parameters result body) none =
    function_visible d at name parameters result body (kind name.bytes parameters result) none

declarations_visible : (d : DeclaredTree) (xs : List DeclarationTree) → (declarations_typed d xs).faults ≡ [] → DeclarationsUseVisible (seen d.checker.scope) xs
declarations_visible d [] none = tt
declarations_visible d (x ∷ others) none =
    let e = declaration_typed d x in
    let rest = declarations_typed e.value others in
    let clear = no_left e.faults rest.faults none in (
      declaration_visible d x clear,
      subst (λ visible. DeclarationsUseVisible visible others) (declaration_new d x clear).1 (declarations_visible e.value others (no_right e.faults rest.faults none)),
    )

pub names_are_visible : (source : SourceTree) (length : ℕ) → (program_of source length).faults ≡ [] → DeclarationsUseVisible [] source.declarations
names_are_visible source length none =
    let start = no_declarations (set_count source.declarations) in
    declarations_visible start source.declarations (no_left (declarations_typed start source.declarations).faults _ none)
