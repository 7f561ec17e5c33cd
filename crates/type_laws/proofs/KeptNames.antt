-- What is known at a point of a source that keeps the rules is what its checker knows there.
use Rattle.std.proofs.Common.{◌≡◌, refl, sym, subst, ap, ◌∙◌, ℕ, Bool, true, false, ◌||◌, if◌then◌else◌, List, [], ◌∷◌, ◌++◌, Option, Some, None}
use Rattle.std.specs.List.{Contains, list_any}
use Rattle.std.specs.Option.{option_map}
use Rattle.std.specs.Str.{bytes_eq}
use Rattle.std.proofs.lemmas.Map.Views.{Contains-from_any}
use Rattle.std.proofs.lemmas.Slice.Eq.{bytes_eq-Decides}
use Rattle.syntax.specs.Terminals.{Identifier}
use Rattle.syntax.specs.SourceTrees.{ExpressionTree}
use Rattle.typed_tree.specs.declared.expression.VarRef.{VarRef}
use Rattle.expression_types.specs.declared.scope.Entity.{Entity}
use Rattle.expression_types.specs.declared.scope.Entity.TheVariants as entity
use Rattle.expression_types.specs.declared.scope.Inside.{Inside}
use Rattle.expression_types.specs.Expression.{used_name, used_as, value_of, vector_index}
use Rattle.expression_types.specs.ScopeTree.{found, declared_over}
use Rattle.expression_types.specs.ValueTree as value
use Rattle.expression_types.specs.ValueTree.{ValueTree, entity_set}
use Rattle.initializer_types.specs.Checker.{CheckerTree, counted, declared_in, with_label, new_label, in_scope, condition_wanted, integer_wanted, condition_in, integer_in}
use Rattle.type_laws.specs.ExpressionTypes.{ExpressionHas, ExpressionType, IsNumberExpression, IsTruth, NameHas, Set, Truth, type_named}
use Rattle.type_laws.specs.Meanings as meaning
use Rattle.type_laws.specs.ScopeMeanings.{meaning_of, meanings_of}
use Rattle.type_laws.specs.Meanings.{IsNew, Known, LabelIsNew, Meaning, Meanings, closed_known, labelled_known, with_meaning}
use Rattle.type_laws.proofs.TypedExpressions.{Fine, IsNumeric, IsOf, NumericFine, expression_fine, found_meaning, numeric_fine, used_means, vector_fine}
use Rattle.type_laws.proofs.Faultless.{both_none}

abbrev pub labels_named : List (List ℕ × ℕ) → List (List ℕ)
labels_named [] = []
labels_named (x ∷ others) = x.0 ∷ labels_named others

pub record Matches (i : Inside) (c : CheckerTree) (k : Known) : Type 0 where
  pub names : meanings_of c.scope.visible ≡ k.names
  pub labels : labels_named c.labels ≡ k.labels
  pub reduced : c.writes ≡ k.reduced
  pub written : c.written ≡ k.written
  pub inside : c.scope.inside ≡ i

-- expressions
pub expression_kept : (i : Inside) (c : CheckerTree) (k : Known) → Matches i c k → (at : ℕ) (e : ExpressionTree) (type : ExpressionType) → ExpressionHas k.names i e type
    → Fine (value_of c.scope at e) type
expression_kept i c k m at e type has =
    expression_fine c.scope at e type (subst (λ j. ExpressionHas (meanings_of c.scope.visible) j e type) (sym m.inside) (subst (λ n. ExpressionHas n i e type) (sym m.names) has))

pub number_value : (i : Inside) (c : CheckerTree) (k : Known) → Matches i c k → (at : ℕ) (e : ExpressionTree) → IsNumberExpression k.names i e → NumericFine (value_of c.scope at e)
number_value i c k m at e has = numeric_fine (value_of c.scope at e) (ExpressionHas k.names i e) (expression_kept i c k m at e) has

pub numeric_integer : (at : ℕ) (v : ValueTree) → IsNumeric v → (integer_wanted at v).faults ≡ []
numeric_integer at (value.Integer e) is = refl
numeric_integer at (value.Condition c) is = absurd is
numeric_integer at (value.Vertex p) is = refl
numeric_integer at (value.Set slot) is = absurd is
numeric_integer at value.ErrorValue is = absurd is

pub truth_condition : (at : ℕ) (v : ValueTree) → IsOf Truth v → (condition_wanted at v).faults ≡ []
truth_condition at (value.Integer e) is = absurd is
truth_condition at (value.Condition c) is = refl
truth_condition at (value.Vertex p) is = absurd is
truth_condition at (value.Set slot) is = absurd is
truth_condition at value.ErrorValue is = absurd is

pub number_kept : (i : Inside) (c : CheckerTree) (k : Known) → Matches i c k → (at : ℕ) (e : ExpressionTree) → IsNumberExpression k.names i e → (integer_in c.scope at e).faults ≡ []
number_kept i c k m at e has =
    let x = number_value i c k m at e has in both_none (value_of c.scope at e).faults _ x.none (numeric_integer at (value_of c.scope at e).value x.is)

pub truth_kept : (i : Inside) (c : CheckerTree) (k : Known) → Matches i c k → (at : ℕ) (e : ExpressionTree) → IsTruth k.names i e → (condition_in c.scope at e).faults ≡ []
truth_kept i c k m at e has =
    let x = expression_kept i c k m at e Truth has in both_none (value_of c.scope at e).faults _ x.none (truth_condition at (value_of c.scope at e).value x.is)

-- names
pub used_kept : (i : Inside) (c : CheckerTree) (k : Known) → Matches i c k → (name : Identifier) (n : Meaning) → found name.bytes k.names ≡ Some n
    → ((used_name c.scope name).faults ≡ []) × (meaning_of (used_name c.scope name).value ≡ n)
used_kept i c k m name n is = used_means c.scope name n (subst (λ ns. found name.bytes ns ≡ Some n) (sym m.names) is)

pub vector_kept : (i : Inside) (c : CheckerTree) (k : Known) → Matches i c k → (at : ℕ) (name : Identifier) (vector : ℕ) → found name.bytes k.names ≡ Some (meaning.Vector vector)
    → ((vector_index c.scope at name).faults ≡ []) × ((vector_index c.scope at name).value ≡ Some vector)
vector_kept i c k m at name vector is = vector_fine c.scope at name vector (subst (λ ns. found name.bytes ns ≡ Some (meaning.Vector vector)) (sym m.names) is)

no_type_set : (a : ExpressionType) → None ≡ Some a → ⊥
no_type_set a is = cc

set_used : (name : Identifier) (o : Option Entity) → type_named (option_map meaning_of o) ≡ Some Set
    → ((used_as name o).faults ≡ []) × (type_named (Some (meaning_of (used_as name o).value)) ≡ Some Set)
set_used name None has = absurd (no_type_set Set has)
set_used name (Some e) has = (refl, has)

pub set_kept : (i : Inside) (c : CheckerTree) (k : Known) → Matches i c k → (name : Identifier) → NameHas k.names name Set
    → ((used_name c.scope name).faults ≡ []) × (type_named (Some (meaning_of (used_name c.scope name).value)) ≡ Some Set)
set_kept i c k m name has =
    set_used name (found name.bytes c.scope.visible)
    (subst (λ o. type_named o ≡ Some Set) (found_meaning name.bytes c.scope.visible) (subst (λ ns. type_named (found name.bytes ns) ≡ Some Set) (sym m.names) has))

-- what has a meaning is that
pub edges_are : (e : Entity) (weights : Bool) → meaning_of e ≡ meaning.Edges weights → e ≡ entity.Edges weights
edges_are (entity.Edges w) weights is = cc
edges_are _ weights is = absurd cc

pub vector_entity : (e : Entity) (n : ℕ) → meaning_of e ≡ meaning.Vector n → e ≡ entity.Vector n
vector_entity (entity.Vector index) n is = cc
vector_entity _ n is = absurd cc

pub number_variable : (e : Entity) → meaning_of e ≡ meaning.NumberVariable → (slot : VarRef) × (e ≡ entity.IntVariable slot)
number_variable (entity.IntVariable slot) is = (slot, refl)
number_variable _ is = absurd cc

pub truth_variable : (e : Entity) → meaning_of e ≡ meaning.TruthVariable → (slot : VarRef) × (e ≡ entity.BoolVariable slot)
truth_variable (entity.BoolVariable slot) is = (slot, refl)
truth_variable _ is = absurd cc

pub set_variable : (e : Entity) → meaning_of e ≡ meaning.SetVariable → (slot : VarRef) × (e ≡ entity.SetVariable slot)
set_variable (entity.SetVariable slot) is = (slot, refl)
set_variable _ is = absurd cc

pub edge_function_entity : (e : Entity) (n : ℕ) (weighted : Bool) → meaning_of e ≡ meaning.EdgeFunction n weighted → e ≡ entity.EdgeFunction n weighted
edge_function_entity (entity.EdgeFunction index w) n weighted is = cc
edge_function_entity _ n weighted is = absurd cc

pub vertex_function_entity : (e : Entity) → meaning_of e ≡ meaning.VertexFunction → (index : ℕ) × (e ≡ entity.VertexFunction index)
vertex_function_entity (entity.VertexFunction index) is = (index, refl)
vertex_function_entity _ is = absurd cc

pub filter_entity : (e : Entity) → meaning_of e ≡ meaning.Filter → (index : ℕ) × (e ≡ entity.Filter index)
filter_entity (entity.Filter index) is = (index, refl)
filter_entity _ is = absurd cc

-- declarations
meanings_more : (visible : List (List ℕ × Entity)) (name : List ℕ) (e : Entity) → meanings_of (visible ++ (name, e) ∷ []) ≡ meanings_of visible ++ (name, meaning_of e) ∷ []
meanings_more [] name e = refl
meanings_more (x ∷ others) name e = ap (λ more. (x.0, meaning_of x.1) ∷ more) (meanings_more others name e)

none_found : (o : Option Entity) → option_map meaning_of o ≡ None → o ≡ None
none_found None is = refl
none_found (Some e) is = absurd cc

pub new_name : (i : Inside) (c : CheckerTree) (k : Known) → Matches i c k → (name : Identifier) → IsNew k name → found name.bytes c.scope.visible ≡ None
new_name i c k m name new =
    none_found (found name.bytes c.scope.visible) (subst (λ o. o ≡ None) (found_meaning name.bytes c.scope.visible) (subst (λ ns. found name.bytes ns ≡ None) (sym m.names) new))

pub declared_kept : (i : Inside) (c : CheckerTree) (k : Known) → Matches i c k → (name : Identifier) (e : Entity) (n : Meaning) → meaning_of e ≡ n → IsNew k name
    → ((declared_in c name e).faults ≡ []) × Matches i (declared_in c name e).value (with_meaning k name n)
declared_kept i c k m name e n is new = at_found (found name.bytes c.scope.visible) (new_name i c k m name new)
  where
    at_found : (o : Option Entity) → o ≡ None
        → (((declared_over o name e c.scope).faults ++ []) ≡ [])
        × Matches i (record c { scope = (declared_over o name e c.scope).value; names = c.names ++ name.bytes ∷ [] }) (with_meaning k name n)
    at_found None none = (
      refl,
      record {
        names = meanings_more c.scope.visible name.bytes e ∙ ap (λ ns. ns ++ (name.bytes, meaning_of e) ∷ []) m.names ∙ ap (λ n. k.names ++ (name.bytes, n) ∷ []) is;
        labels = m.labels;
        reduced = m.reduced;
        written = m.written;
        inside = m.inside;
      },
    )
    at_found (Some old) none = absurd cc

-- labels
labels_more : (labels : List (List ℕ × ℕ)) (label : List ℕ) (index : ℕ) → labels_named (labels ++ (label, index) ∷ []) ≡ labels_named labels ++ label ∷ []
labels_more [] label index = refl
labels_more (x ∷ others) label index = ap (λ more. x.0 ∷ more) (labels_more others label index)

not_there : (label : List ℕ) (labels : List (List ℕ × ℕ)) → list_any (bytes_eq label) (labels_named labels) ≡ false → found label labels ≡ None
not_there label [] is = refl
not_there label (x ∷ others) is = at_test (bytes_eq label x.0) is (not_there label others)
  where
    at_test : (b : Bool) → (b || list_any (bytes_eq label) (labels_named others)) ≡ false → (list_any (bytes_eq label) (labels_named others) ≡ false → found label others ≡ None)
        → (if b then Some x.1 else found label others) ≡ None
    at_test true is rest = absurd cc
    at_test false is rest = rest is

new_label_there : (labels : List (List ℕ × ℕ)) (label : List ℕ) → (Contains (labels_named labels) label → ⊥) → found label labels ≡ None
new_label_there labels label new = at_any (list_any (bytes_eq label) (labels_named labels)) refl
  where
    at_any : (b : Bool) → list_any (bytes_eq label) (labels_named labels) ≡ b → found label labels ≡ None
    at_any true is = absurd (new (Contains-from_any {eq = bytes_eq} (λ x y same. (bytes_eq-Decides x y).0 same) label (labels_named labels) is))
    at_any false is = not_there label labels is

pub labelled_kept : (i : Inside) (c : CheckerTree) (k : Known) → Matches i c k → (label : Option Identifier) → LabelIsNew k label
    → ((with_label c label).faults ≡ []) × Matches i (with_label c label).value.1 (labelled_known k label)
labelled_kept i c k m None new = (refl, m)
labelled_kept i c k m (Some label) new =
    at_found (found label.bytes c.labels) (new_label_there c.labels label.bytes (subst (λ ls. Contains ls label.bytes → ⊥) (sym m.labels) new))
  where
    at_found : (o : Option ℕ) → o ≡ None → ((new_label c label o).faults ≡ []) × Matches i (new_label c label o).value.1 (labelled_known k (Some label))
    at_found None none = (
      refl,
      record {
        names = m.names;
        labels = labels_more c.labels label.bytes _ ∙ ap (λ ls. ls ++ label.bytes ∷ []) m.labels;
        reduced = m.reduced;
        written = m.written;
        inside = m.inside;
      },
    )
    at_found (Some index) none = absurd cc

pub counted_kept : (i : Inside) (c : CheckerTree) (k : Known) → Matches i c k → Matches i (counted c) k
counted_kept i c k m = record { names = m.names; labels = m.labels; reduced = m.reduced; written = m.written; inside = m.inside }

-- after a block the old names stand again
pub closed_kept : (i j : Inside) (c d : CheckerTree) (k inner : Known) → Matches i c k → Matches j d inner → Matches i (in_scope d c.scope) (closed_known k inner)
closed_kept i j c d k inner m further = record { names = m.names; labels = further.labels; reduced = further.reduced; written = further.written; inside = m.inside }
