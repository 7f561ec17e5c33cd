-- A source that keeps the rules has no fault.
use Rattle.std.proofs.Common.{◌≡◌, refl, sym, subst, ap, ◌∙◌, arith, ℕ, suc, pos, ℤ, Bool, true, false, if◌then◌else◌, List, [], ◌∷◌, ◌++◌, length, length-append, Option, Some, None}
use Rattle.std.specs.Prelude.{IsSome, is_some}
use Rattle.syntax.specs.Terminals.{Identifier}
use Rattle.syntax.specs.declared.operators.Prefix.TheVariants as prefix
use Rattle.syntax.specs.SourceTrees as tree
use Rattle.syntax.specs.SourceTrees.{ExpressionTree, PrimaryTree, UnaryTree, DeclarationTree, InitialTree, ParameterTree, SourceTree}
use Rattle.syntax.specs.declared.declaration.DeclaredType.{DeclaredType}
use Rattle.syntax.specs.declared.declaration.DeclaredType.TheVariants as declared
use Rattle.typed_tree.specs.declared.statement.SetValue.TheVariants as set
use Rattle.expression_types.specs.declared.scope.Entity.{Entity}
use Rattle.expression_types.specs.declared.scope.Entity.TheVariants as entity
use Rattle.expression_types.specs.declared.scope.Inside.TheVariants as inside
use Rattle.expression_types.specs.Expression.{primary_value, unary_value, used_name, value_of}
use Rattle.expression_types.specs.ScopeTree.{ScopeTree}
use Rattle.expression_types.specs.Faults.{WithFaults, sure}
use Rattle.typed_tree.specs.declared.program.InitialValue.TheVariants as beginning
use Rattle.initializer_types.specs.Checker.{CheckerTree, declared_in}
use Rattle.types.specs.Declaration.{DeclaredTree, begins, declare_constant_as, declare_name, literal_or_fault, next_name, only_edges, declare_edges}
use Rattle.initializer_types.specs.Initial.{Degrees, InitializerTree, Loaded, Members, initializer_of, is_degrees, is_sound, loaded}
use Rattle.initializer_types.specs.DeclarationForms.{expression_integer, expression_truth, literal_condition, literal_integer, primary_number, primary_truth, unary_number, unary_truth}
use Rattle.type_laws.specs.KeptRules.{ConstantKeeps, Declarations, after_constant}
use Rattle.type_laws.specs.Meanings as meaning
use Rattle.type_laws.specs.ScopeMeanings.{meaning_of, meanings_of}
use Rattle.type_laws.specs.Meanings.{IsNew, Known, closed_known, known_after, known_behind, labelled_known, with_meaning}
use Rattle.type_laws.proofs.Booleans.{false_is_not_true}
use Rattle.type_laws.proofs.KeptNames.{Matches, declared_kept, labels_named, used_kept}
use Rattle.type_laws.proofs.KeptStatements.{of_edges_fine}
use Rattle.type_laws.proofs.Faultless.{both_none}

-- what a checker knows between declarations
pub record CheckerAgrees (c : CheckerTree) (k : Known) : Type 0 where
  pub names : meanings_of c.scope.visible ≡ k.names
  pub labels : labels_named c.labels ≡ k.labels
  pub written : c.written ≡ k.written
  pub inside : c.scope.inside ≡ inside.Main

pub record Agrees (d : DeclaredTree) (k : Declarations) : Type 0 where
  pub checker : CheckerAgrees d.checker k.known
  pub vectors : length d.vectors ≡ k.vectors
  pub functions : length d.edge_functions ≡ length k.known.written
  pub edges : is_some d.edges ≡ k.edges
  pub main : is_some d.main ≡ k.main

abbrev pub Fits : WithFaults DeclaredTree → Declarations → Type 0
Fits m k = (m.faults ≡ []) × Agrees m.value k

-- whatever was reduced before
pub as_matches : (c : CheckerTree) (k : Known) → CheckerAgrees c k → Matches inside.Main c (record k { reduced = c.writes })
as_matches c k a = record { names = a.names; labels = a.labels; reduced = refl; written = a.written; inside = a.inside }

pub checker_declared : (c : CheckerTree) (k : Known) → CheckerAgrees c k → (name : Identifier) (e : Entity) (n : meaning.Meaning) → meaning_of e ≡ n → IsNew k name
    → ((declared_in c name e).faults ≡ []) × CheckerAgrees (declared_in c name e).value (with_meaning k name n)
checker_declared c k a name e n is new =
    let d = declared_kept inside.Main c (record k { reduced = c.writes }) (as_matches c k a) name e n is new in
    (d.0, record { names = d.1.names; labels = d.1.labels; written = d.1.written; inside = d.1.inside })

-- literals have no fault
primary_literal : (scope : ScopeTree) (at : ℕ) (e : PrimaryTree) → IsSome (primary_number e) → (primary_value scope at e).faults ≡ []
primary_literal scope at (tree.Literal n) is = refl
primary_literal scope at (tree.Truth b) is = absurd (false_is_not_true is)
primary_literal scope at (tree.Variable name) is = absurd (false_is_not_true is)
primary_literal scope at (tree.Entry name index) is = absurd (false_is_not_true is)
primary_literal scope at (tree.Size name) is = absurd (false_is_not_true is)
primary_literal scope at (tree.Parentheses e) is = absurd (false_is_not_true is)

minus_literal : (scope : ScopeTree) (at : ℕ) (e : PrimaryTree) → IsSome (unary_number (tree.Signed prefix.Minus (tree.Bare e)))
    → (unary_value scope at (tree.Signed prefix.Minus (tree.Bare e))).faults ≡ []
minus_literal scope at (tree.Literal n) is = refl
minus_literal scope at (tree.Truth b) is = absurd (false_is_not_true is)
minus_literal scope at (tree.Variable name) is = absurd (false_is_not_true is)
minus_literal scope at (tree.Entry name index) is = absurd (false_is_not_true is)
minus_literal scope at (tree.Size name) is = absurd (false_is_not_true is)
minus_literal scope at (tree.Parentheses e) is = absurd (false_is_not_true is)

unary_literal : (scope : ScopeTree) (at : ℕ) (u : UnaryTree) → IsSome (unary_number u) → (unary_value scope at u).faults ≡ []
unary_literal scope at (tree.Bare e) is = primary_literal scope at e is
unary_literal scope at (tree.Signed prefix.Minus (tree.Bare e)) is = minus_literal scope at e is
unary_literal scope at (tree.Signed prefix.Minus (tree.Signed sign u)) is = absurd (false_is_not_true is)
unary_literal scope at (tree.Signed prefix.Not u) is = absurd (false_is_not_true is)

number_literal : (scope : ScopeTree) (at : ℕ) (e : ExpressionTree) → IsSome (expression_integer e) → (value_of scope at e).faults ≡ []
number_literal scope at (tree.ConjunctionThen c others) is = absurd (false_is_not_true is)
number_literal scope at (tree.LastConjunction (tree.ComparisonThen c others)) is = absurd (false_is_not_true is)
number_literal scope at (tree.LastConjunction (tree.LastComparison (tree.TwoSums left relation right))) is = absurd (false_is_not_true is)
number_literal scope at (tree.LastConjunction (tree.LastComparison (tree.OneSum (tree.TermThen t operator others)))) is = absurd (false_is_not_true is)
number_literal scope at (tree.LastConjunction (tree.LastComparison (tree.OneSum (tree.LastTerm (tree.UnaryThen u operator others))))) is = absurd (false_is_not_true is)
number_literal scope at (tree.LastConjunction (tree.LastComparison (tree.OneSum (tree.LastTerm (tree.LastUnary u))))) is = unary_literal scope at u is

primary_truth_literal : (scope : ScopeTree) (at : ℕ) (e : PrimaryTree) → IsSome (primary_truth e) → (primary_value scope at e).faults ≡ []
primary_truth_literal scope at (tree.Literal n) is = refl
primary_truth_literal scope at (tree.Truth b) is = refl
primary_truth_literal scope at (tree.Variable name) is = absurd (false_is_not_true is)
primary_truth_literal scope at (tree.Entry name index) is = absurd (false_is_not_true is)
primary_truth_literal scope at (tree.Size name) is = absurd (false_is_not_true is)
primary_truth_literal scope at (tree.Parentheses e) is = absurd (false_is_not_true is)

unary_truth_literal : (scope : ScopeTree) (at : ℕ) (u : UnaryTree) → IsSome (unary_truth u) → (unary_value scope at u).faults ≡ []
unary_truth_literal scope at (tree.Bare e) is = primary_truth_literal scope at e is
unary_truth_literal scope at (tree.Signed sign u) is = absurd (false_is_not_true is)

truth_literal : (scope : ScopeTree) (at : ℕ) (e : ExpressionTree) → IsSome (expression_truth e) → (value_of scope at e).faults ≡ []
truth_literal scope at (tree.ConjunctionThen c others) is = absurd (false_is_not_true is)
truth_literal scope at (tree.LastConjunction (tree.ComparisonThen c others)) is = absurd (false_is_not_true is)
truth_literal scope at (tree.LastConjunction (tree.LastComparison (tree.TwoSums left relation right))) is = absurd (false_is_not_true is)
truth_literal scope at (tree.LastConjunction (tree.LastComparison (tree.OneSum (tree.TermThen t operator others)))) is = absurd (false_is_not_true is)
truth_literal scope at (tree.LastConjunction (tree.LastComparison (tree.OneSum (tree.LastTerm (tree.UnaryThen u operator others))))) is = absurd (false_is_not_true is)
truth_literal scope at (tree.LastConjunction (tree.LastComparison (tree.OneSum (tree.LastTerm (tree.LastUnary u))))) is = unary_truth_literal scope at u is

literal_number : (c : CheckerTree) (at : ℕ) (initial : InitialTree) → IsSome (literal_integer initial) → (initializer_of c at initial).faults ≡ []
literal_number c at (tree.Value e) is = both_none (value_of c.scope at e).faults [] (number_literal c.scope at e is) refl
literal_number c at (tree.NewSet size) is = absurd (false_is_not_true is)
literal_number c at (tree.Load argument) is = absurd (false_is_not_true is)
literal_number c at (tree.Vertices edges) is = absurd (false_is_not_true is)
literal_number c at (tree.OutDegrees edges) is = absurd (false_is_not_true is)
literal_number c at (tree.Filter set test) is = absurd (false_is_not_true is)
literal_number c at (tree.ApplyModified edges ends f v) is = absurd (false_is_not_true is)

literal_truth : (c : CheckerTree) (at : ℕ) (initial : InitialTree) → IsSome (literal_condition initial) → (initializer_of c at initial).faults ≡ []
literal_truth c at (tree.Value e) is = both_none (value_of c.scope at e).faults [] (truth_literal c.scope at e is) refl
literal_truth c at (tree.NewSet size) is = absurd (false_is_not_true is)
literal_truth c at (tree.Load argument) is = absurd (false_is_not_true is)
literal_truth c at (tree.Vertices edges) is = absurd (false_is_not_true is)
literal_truth c at (tree.OutDegrees edges) is = absurd (false_is_not_true is)
literal_truth c at (tree.Filter set test) is = absurd (false_is_not_true is)
literal_truth c at (tree.ApplyModified edges ends f v) is = absurd (false_is_not_true is)

literal_there : {A : Type 0} (at : ℕ) (sound : Bool) (other : A) (o : Option A) → IsSome o → (literal_or_fault at sound other o).faults ≡ []
literal_there at sound other (Some x) is = refl
literal_there at sound other None is = absurd (false_is_not_true is)

-- a constant
constant_declared : (d : DeclaredTree) (k : Declarations) → Agrees d k → (name : Identifier) (e : Entity) (n : meaning.Meaning) → meaning_of e ≡ n → IsNew k.known name
    → ((declare_name d name e).faults ≡ []) × CheckerAgrees (declare_name d name e).value.checker (with_meaning k.known name n)
constant_declared d k a name e n is new =
    let c = checker_declared d.checker k.known a.checker name e n is new in (both_none (declared_in d.checker name e).faults [] c.0 refl, c.1)

number_constant : (d : DeclaredTree) (k : Declarations) → Agrees d k → (at : ℕ) (p : ParameterTree) (initial : InitialTree) (given : InitializerTree) → p.declared ≡ declared.Int
    → IsSome (literal_integer initial) → IsNew k.known p.name → Fits (declare_constant_as d at p.name initial declared.Int given) (after_constant k p)
number_constant d k a at p initial given type is new =
    let x = literal_or_fault at (is_sound given) (pos 0) (literal_integer initial) in
    let c = constant_declared d k a p.name (entity.IntConstant (next_name d) x.value) meaning.NumberConstant refl new in (
      both_none x.faults _ (literal_there at (is_sound given) (pos 0) (literal_integer initial) is) c.0,
      subst (λ t. Agrees (declare_name d p.name (entity.IntConstant (next_name d) x.value)).value (after_constant k (record p { declared = t }))) (sym type)
          (record { checker = c.1; vectors = a.vectors; functions = a.functions; edges = a.edges; main = a.main }),
    )

truth_constant : (d : DeclaredTree) (k : Declarations) → Agrees d k → (at : ℕ) (p : ParameterTree) (initial : InitialTree) (given : InitializerTree) → p.declared ≡ declared.Bool
    → IsSome (literal_condition initial) → IsNew k.known p.name → Fits (declare_constant_as d at p.name initial declared.Bool given) (after_constant k p)
truth_constant d k a at p initial given type is new =
    let x = literal_or_fault at (is_sound given) false (literal_condition initial) in
    let c = constant_declared d k a p.name (entity.BoolConstant (next_name d) x.value) meaning.TruthConstant refl new in (
      both_none x.faults _ (literal_there at (is_sound given) false (literal_condition initial) is) c.0,
      subst (λ t. Agrees (declare_name d p.name (entity.BoolConstant (next_name d) x.value)).value (after_constant k (record p { declared = t }))) (sym type)
          (record { checker = c.1; vectors = a.vectors; functions = a.functions; edges = a.edges; main = a.main }),
    )

set_constant : (d : DeclaredTree) (k : Declarations) → Agrees d k → (at : ℕ) (p : ParameterTree) (initial : InitialTree) → p.declared ≡ declared.VertexSet → IsNew k.known p.name
    → Fits (declare_constant_as d at p.name initial declared.VertexSet (Members set.All)) (after_constant k p)
set_constant d k a at p initial type new =
    let e = entity.ConstantSet (record { index = length d.sets; name = next_name d }) in
    let c = constant_declared d k a p.name e meaning.ConstantSet refl new in (
      both_none (declare_name d p.name e).faults [] c.0 refl,
      subst (λ t. Agrees (declare_constant_as d at p.name initial declared.VertexSet (Members set.All)).value (after_constant k (record p { declared = t }))) (sym type)
          (record { checker = c.1; vectors = a.vectors; functions = a.functions; edges = a.edges; main = a.main }),
    )

pub one_more : {A : Type 0} (xs : List A) (x : A) (n : ℕ) → length xs ≡ n → length (xs ++ x ∷ []) ≡ suc n
one_more xs x n is = omega (arith, length-append xs (x ∷ []), is)

vector_constant : (d : DeclaredTree) (k : Declarations) → Agrees d k → (at : ℕ) (p : ParameterTree) (initial : InitialTree) (given : InitializerTree) → p.declared ≡ declared.Vector
    → (begins at given initial).faults ≡ [] → IsNew k.known p.name → Fits (declare_constant_as d at p.name initial declared.Vector given) (after_constant k p)
vector_constant d k a at p initial given type none new =
    let e = entity.Vector (length d.vectors) in
    let c = constant_declared d k a p.name e (meaning.Vector k.vectors) (ap meaning.Vector a.vectors) new in (
      both_none (begins at given initial).faults _ none (both_none (declare_name d p.name e).faults [] c.0 refl),
      subst (λ t. Agrees (declare_constant_as d at p.name initial declared.Vector given).value (after_constant k (record p { declared = t }))) (sym type)
          (record { checker = c.1; vectors = one_more d.vectors _ k.vectors a.vectors; functions = a.functions; edges = a.edges; main = a.main }),
    )

none_there : (o : Option ℕ) → is_some o ≡ false → o ≡ None
none_there None is = refl
none_there (Some x) is = cc

first_edges : (name : Identifier) (index : ℕ) (o : Option ℕ) → o ≡ None → ((only_edges name index o).faults ≡ []) × (is_some (only_edges name index o).value ≡ true)
first_edges name index None is = (refl, refl)
first_edges name index (Some x) is = absurd cc

abbrev behind_edges : Declarations → ParameterTree → (weights : Bool) → Declarations
behind_edges k p weights = record { known = with_meaning k.known p.name (meaning.Edges weights); vectors = k.vectors; edges = true; main = k.main }

edges_constant : (d : DeclaredTree) (k : Declarations) → Agrees d k → (weights : Bool) (at : ℕ) (p : ParameterTree) → k.edges ≡ false → IsNew k.known p.name
    → Fits (declare_edges weights d at p.name Loaded) (behind_edges k p weights)
edges_constant d k a weights at p before new =
    let e = entity.Edges weights in
    let c = constant_declared d k a p.name e (meaning.Edges weights) refl new in
    let o = first_edges p.name (next_name d) d.edges (none_there d.edges (a.edges ∙ before)) in (
      both_none (only_edges p.name (next_name d) d.edges).faults _ o.0 (both_none (declare_name d p.name e).faults [] c.0 refl),
      record { checker = c.1; vectors = a.vectors; functions = a.functions; edges = o.1; main = a.main },
    )

loaded_first : (at : ℕ) (n : ℤ) → n ≡ pos 1 → ((loaded at n).faults ≡ []) × ((loaded at n).value ≡ Loaded)
loaded_first at n is = subst (λ z. ((loaded at z).faults ≡ []) × ((loaded at z).value ≡ Loaded)) (sym is) (refl, refl)

-- a constant whose initializer is known
known_given : (d : DeclaredTree) (k : Declarations) (at : ℕ) (p : ParameterTree) (initial : InitialTree) (type : DeclaredType) (given : InitializerTree)
    → (initializer_of d.checker at initial).faults ≡ [] → (initializer_of d.checker at initial).value ≡ given → Fits (declare_constant_as d at p.name initial type given) (after_constant k p)
    → Fits (record {
      faults = (initializer_of d.checker at initial).faults ++ (declare_constant_as d at p.name initial type (initializer_of d.checker at initial).value).faults;
      value = (declare_constant_as d at p.name initial type (initializer_of d.checker at initial).value).value;
    }) (after_constant k p)
known_given d k at p initial type given none is fits =
    let here = subst (λ g. Fits (declare_constant_as d at p.name initial type g) (after_constant k p)) (sym is) fits in
    (both_none (initializer_of d.checker at initial).faults _ none here.0, here.1)

-- what a vector begins with, where it is a literal
begins_with : (at : ℕ) (given : InitializerTree) (initial : InitialTree) → IsSome (literal_integer initial) → (begins at given initial).faults ≡ []
begins_with at given initial is = at_degrees (is_degrees given)
  where
    at_degrees : (b : Bool) → (if b then sure beginning.OutDegrees else (record {
      faults = (literal_or_fault at (is_sound given) (pos 0) (literal_integer initial)).faults ++ [];
      value = beginning.Number (literal_or_fault at (is_sound given) (pos 0) (literal_integer initial)).value;
    })).faults ≡ []
    at_degrees true = refl
    at_degrees false = both_none (literal_or_fault at (is_sound given) (pos 0) (literal_integer initial)).faults [] (literal_there at (is_sound given) (pos 0) (literal_integer initial) is) refl

literal_vector : (d : DeclaredTree) (k : Declarations) → Agrees d k → (at : ℕ) (p : ParameterTree) (initial : InitialTree) → p.declared ≡ declared.Vector → IsSome (literal_integer initial)
    → IsNew k.known p.name → Fits (record {
      faults = (initializer_of d.checker at initial).faults ++ (declare_constant_as d at p.name initial declared.Vector (initializer_of d.checker at initial).value).faults;
      value = (declare_constant_as d at p.name initial declared.Vector (initializer_of d.checker at initial).value).value;
    }) (after_constant k p)
literal_vector d k a at p initial type is new =
    let g = initializer_of d.checker at initial in
    known_given d k at p initial declared.Vector g.value (literal_number d.checker at initial is) refl (vector_constant d k a at p initial g.value type (begins_with at g.value initial is) new)

pub constant_kept : (d : DeclaredTree) (k : Declarations) → Agrees d k → (at : ℕ) (p : ParameterTree) (type : DeclaredType) (initial : InitialTree) → p.declared ≡ type → ConstantKeeps k type initial
    → IsNew k.known p.name → Fits (record {
      faults = (initializer_of d.checker at initial).faults ++ (declare_constant_as d at p.name initial type (initializer_of d.checker at initial).value).faults;
      value = (declare_constant_as d at p.name initial type (initializer_of d.checker at initial).value).value;
    }) (after_constant k p)
constant_kept d k a at p declared.Int initial type keeps new =
    let g = (initializer_of d.checker at initial).value in
    known_given d k at p initial declared.Int g (literal_number d.checker at initial keeps) refl (number_constant d k a at p initial g type keeps new)
constant_kept d k a at p declared.Bool initial type keeps new =
    let g = (initializer_of d.checker at initial).value in
    known_given d k at p initial declared.Bool g (literal_truth d.checker at initial keeps) refl (truth_constant d k a at p initial g type keeps new)
constant_kept d k a at p declared.Vertex initial type keeps new = absurd keeps
constant_kept d k a at p declared.VertexSet (tree.Vertices edges) type keeps new =
    let c = d.checker in
    let e = used_kept inside.Main c (record k.known { reduced = c.writes }) (as_matches c k.known a.checker) edges (meaning.Edges keeps.0) keeps.1 in
    let x = of_edges_fine at (used_name c.scope edges).value keeps.0 e.1 (Members set.All) in
    known_given d k at p (tree.Vertices edges) declared.VertexSet (Members set.All) (both_none (used_name c.scope edges).faults _ e.0 x.0) x.1
    (set_constant d k a at p (tree.Vertices edges) type new)
constant_kept d k a at p declared.VertexSet (tree.NewSet size) type keeps new = absurd keeps
constant_kept d k a at p declared.VertexSet (tree.Load argument) type keeps new = absurd keeps
constant_kept d k a at p declared.VertexSet (tree.OutDegrees edges) type keeps new = absurd keeps
constant_kept d k a at p declared.VertexSet (tree.Filter s f) type keeps new = absurd keeps
constant_kept d k a at p declared.VertexSet (tree.ApplyModified edges ends f v) type keeps new = absurd keeps
constant_kept d k a at p declared.VertexSet (tree.Value e) type keeps new = absurd keeps
constant_kept d k a at p declared.Vector (tree.OutDegrees edges) type keeps new =
    let c = d.checker in
    let e = used_kept inside.Main c (record k.known { reduced = c.writes }) (as_matches c k.known a.checker) edges (meaning.Edges keeps.0) keeps.1 in
    let x = of_edges_fine at (used_name c.scope edges).value keeps.0 e.1 Degrees in
    known_given d k at p (tree.OutDegrees edges) declared.Vector Degrees (both_none (used_name c.scope edges).faults _ e.0 x.0) x.1
    (vector_constant d k a at p (tree.OutDegrees edges) Degrees type refl new)
constant_kept d k a at p declared.Vector (tree.NewSet size) type keeps new = literal_vector d k a at p (tree.NewSet size) type keeps new
constant_kept d k a at p declared.Vector (tree.Load argument) type keeps new = literal_vector d k a at p (tree.Load argument) type keeps new
constant_kept d k a at p declared.Vector (tree.Vertices edges) type keeps new = literal_vector d k a at p (tree.Vertices edges) type keeps new
constant_kept d k a at p declared.Vector (tree.Filter s f) type keeps new = literal_vector d k a at p (tree.Filter s f) type keeps new
constant_kept d k a at p declared.Vector (tree.ApplyModified edges ends f v) type keeps new = literal_vector d k a at p (tree.ApplyModified edges ends f v) type keeps new
constant_kept d k a at p declared.Vector (tree.Value e) type keeps new = literal_vector d k a at p (tree.Value e) type keeps new
constant_kept d k a at p declared.EdgeSet (tree.Load argument) type keeps new =
    let x = loaded_first at argument keeps.0 in
    known_given d k at p (tree.Load argument) declared.EdgeSet Loaded x.0 x.1
    (subst (λ t. Fits (declare_edges false d at p.name Loaded) (after_constant k (record p { declared = t }))) (sym type) (edges_constant d k a false at p keeps.1 new))
constant_kept d k a at p declared.WeightedEdgeSet (tree.Load argument) type keeps new =
    let x = loaded_first at argument keeps.0 in
    known_given d k at p (tree.Load argument) declared.WeightedEdgeSet Loaded x.0 x.1
    (subst (λ t. Fits (declare_edges true d at p.name Loaded) (after_constant k (record p { declared = t }))) (sym type) (edges_constant d k a true at p keeps.1 new))
constant_kept d k a at p declared.EdgeSet (tree.NewSet size) type keeps new = absurd keeps
constant_kept d k a at p declared.WeightedEdgeSet (tree.NewSet size) type keeps new = absurd keeps
constant_kept d k a at p declared.EdgeSet (tree.Vertices edges) type keeps new = absurd keeps
constant_kept d k a at p declared.WeightedEdgeSet (tree.Vertices edges) type keeps new = absurd keeps
constant_kept d k a at p declared.EdgeSet (tree.OutDegrees edges) type keeps new = absurd keeps
constant_kept d k a at p declared.WeightedEdgeSet (tree.OutDegrees edges) type keeps new = absurd keeps
constant_kept d k a at p declared.EdgeSet (tree.Filter s f) type keeps new = absurd keeps
constant_kept d k a at p declared.WeightedEdgeSet (tree.Filter s f) type keeps new = absurd keeps
constant_kept d k a at p declared.EdgeSet (tree.ApplyModified edges ends f v) type keeps new = absurd keeps
constant_kept d k a at p declared.WeightedEdgeSet (tree.ApplyModified edges ends f v) type keeps new = absurd keeps
constant_kept d k a at p declared.EdgeSet (tree.Value e) type keeps new = absurd keeps
constant_kept d k a at p declared.WeightedEdgeSet (tree.Value e) type keeps new = absurd keeps
