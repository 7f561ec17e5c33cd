-- What the names, the ends and the initial values of statements without a fault are.
use Rattle.std.proofs.Common.{◌≡◌, ◌⊎◌, inl, inr, refl, sym, subst, ap, ◌∙◌, ℕ, zero, suc, ℤ, pos, negsuc, Bool, true, false, not, ◌||◌, ◌&&◌, if◌then◌else◌, nat_eq, List, [], ◌∷◌, ◌++◌}
use Rattle.std.proofs.Common.{Option, Some, None}
use Rattle.std.specs.Prelude.{is_some, slice_index_or}
use Rattle.std.specs.Map.{lookup}
use Rattle.syntax.specs.Terminals.{Identifier}
use Rattle.syntax.specs.SourceTrees.{ExpressionTree, InitialTree}
use Rattle.syntax.specs.SourceTrees as source
use Rattle.apply_options.specs.declared.reduction.Reduction.{Reduction}
use Rattle.typed_tree.specs.declared.expression.VarRef.{VarRef}
use Rattle.typed_tree.specs.declared.statement.SetValue.TheVariants as set
use Rattle.expression_types.specs.declared.fault.TypeRule.TheVariants as rule
use Rattle.expression_types.specs.declared.scope.Entity.{Entity}
use Rattle.expression_types.specs.declared.scope.Entity.TheVariants as entity
use Rattle.expression_types.specs.declared.scope.Inside.{Inside}
use Rattle.expression_types.specs.Expression.{used_name, value_of, vector_index}
use Rattle.expression_types.specs.ScopeTree.{found}
use Rattle.expression_types.specs.Operators.{first_condition, first_integer}
use Rattle.expression_types.specs.ValueTree as value
use Rattle.expression_types.specs.ValueTree.{ValueTree, entity_set}
use Rattle.expression_types.specs.Faults.{WithFaults, fault_at, sure}
use Rattle.types.specs.Block.{then_statement}
use Rattle.initializer_types.specs.Checker.{CheckerTree, condition_wanted, integer_wanted, as_members, condition_in, integer_in}
use Rattle.initializer_types.specs.Initial as initial_value
use Rattle.initializer_types.specs.Initial.{ApplyEndTree, Degrees, ErrorInitializer, InitializerTree, Loaded, edge_function, apply_end_of, ends_given, filter_function, filter_named}
use Rattle.initializer_types.specs.Initial.{filtered_set, filtered_by, initializer_condition, initializer_integer, initializer_members, initializer_of, is_edges, is_error_end, is_wrong, lacks_weights, loaded}
use Rattle.initializer_types.specs.Initial.{initial_modified, modified_by, names_error, new_set, of_edges, takes_edge_weight, vector_of, writes_vector}
use Rattle.type_laws.specs.ExpressionTypes.{ExpressionHas, ExpressionType, IsNumberExpression, IsTruth, NameHas, Number, Set, Truth, Vertex, type_named}
use Rattle.type_laws.specs.KeptRules.{EndFits, EndsFit, GivesMembers}
use Rattle.type_laws.specs.KeptRules.{GivesNumber, GivesTruth, Modifies, SeesWeights}
use Rattle.type_laws.specs.Meanings as meaning
use Rattle.type_laws.specs.ScopeMeanings.{AreMeant, meaning_of, meanings_of}
use Rattle.type_laws.specs.Meanings.{Known, Meaning, Meanings, MeansEdges}
use Rattle.type_laws.proofs.Booleans.{both_false, false_is_not_true, neither_true}
use Rattle.type_laws.proofs.Faultless.{no_left, no_right, not_empty}
use Rattle.type_laws.proofs.TypedExpressions.{AreConditions, AreIntegers, IsOf}
use Rattle.type_laws.proofs.FaultlessExpressions.{IsMeant, Typed, VectorFound, as_number, as_truth, expression_typed, used_meant, vector_found}
use Rattle.type_laws.proofs.KeptNames.{Matches}

-- no name has a faulty declaration
abbrev pub IsSome : Meaning → Type 0
IsSome meaning.Nothing = ⊥
IsSome _ = Unit {0}

abbrev pub AreSome : Meanings → Type 0
AreSome [] = Unit {0}
AreSome (x ∷ others) = IsSome x.1 × AreSome others

some_clear : (e : Entity) → IsSome (meaning_of e) → e ≡ entity.Error → ⊥
some_clear entity.Error is error = is
some_clear (entity.Edges weights) is error = cc
some_clear (entity.Vector index) is error = cc
some_clear (entity.ConstantSet slot) is error = cc
some_clear (entity.IntConstant name n) is error = cc
some_clear (entity.BoolConstant name b) is error = cc
some_clear (entity.IntVariable slot) is error = cc
some_clear (entity.BoolVariable slot) is error = cc
some_clear (entity.SetVariable slot) is error = cc
some_clear (entity.LoopVariable slot) is error = cc
some_clear (entity.Parameter p) is error = cc
some_clear entity.Weight is error = cc
some_clear (entity.EdgeFunction index weighted) is error = cc
some_clear (entity.VertexFunction index) is error = cc
some_clear (entity.Filter index) is error = cc
some_clear entity.Main is error = cc

all_meant : (visible : List (List ℕ × Entity)) → AreSome (meanings_of visible) → AreMeant visible
all_meant [] all = tt
all_meant (x ∷ others) all = (some_clear x.1 all.0, all_meant others all.1)

pub more_some : (names : Meanings) (name : List ℕ) (m : Meaning) → AreSome names → IsSome m → AreSome (names ++ (name, m) ∷ [])
more_some [] name m all is = (is, tt)
more_some (x ∷ others) name m all is = (all.0, more_some others name m all.1 is)

-- What is known at a point: the checker's names mean something, and are those of the source.
pub record Sees (i : Inside) (c : CheckerTree) (k : Known) : Type 0 where
  pub matches : Matches i c k
  pub some : AreSome k.names

pub meant : (i : Inside) (c : CheckerTree) (k : Known) → Sees i c k → AreMeant c.scope.visible
meant i c k s = all_meant c.scope.visible (subst AreSome (sym s.matches.names) s.some)

-- expressions
pub value_typed : (i : Inside) (c : CheckerTree) (k : Known) → Sees i c k → (at : ℕ) (e : ExpressionTree) → (value_of c.scope at e).faults ≡ []
    → Typed (value_of c.scope at e) (ExpressionHas k.names i e)
value_typed i c k s at e none =
    let t = expression_typed c.scope at (meant i c k s) e none in
    record { type = t.type; has = subst (λ n. ExpressionHas n i e t.type) s.matches.names (subst (λ j. ExpressionHas (meanings_of c.scope.visible) j e t.type) s.matches.inside t.has); is = t.is }

pub not_error : (type : ExpressionType) → IsOf type value.ErrorValue → ⊥
not_error Number is = is
not_error Truth is = is
not_error (Vertex p) is = is
not_error Set is = is

pub integer_of : (at : ℕ) (type : ExpressionType) (v : ValueTree) → IsOf type v → (integer_wanted at v).faults ≡ [] → AreIntegers (first_integer v)
integer_of at type (value.Integer e) is none = tt
integer_of at type (value.Condition c) is none = absurd (not_empty _ _ none)
integer_of at type (value.Vertex p) is none = tt
integer_of at type (value.Set slot) is none = absurd (not_empty _ _ none)
integer_of at type value.ErrorValue is none = absurd (not_error type is)

pub condition_of : (at : ℕ) (type : ExpressionType) (v : ValueTree) → IsOf type v → (condition_wanted at v).faults ≡ [] → AreConditions (first_condition v)
condition_of at type (value.Integer e) is none = absurd (not_empty _ _ none)
condition_of at type (value.Condition c) is none = tt
condition_of at type (value.Vertex p) is none = absurd (not_empty _ _ none)
condition_of at type (value.Set slot) is none = absurd (not_empty _ _ none)
condition_of at type value.ErrorValue is none = absurd (not_error type is)

set_type : (type : ExpressionType) (slot : VarRef) → IsOf type (value.Set slot) → type ≡ Set
set_type Set slot is = refl
set_type Number slot is = absurd is
set_type Truth slot is = absurd is
set_type (Vertex p) slot is = absurd is

pub set_of : (at : ℕ) (type : ExpressionType) (v : ValueTree) → IsOf type v → (as_members at v).faults ≡ [] → type ≡ Set
set_of at type (value.Integer e) is none = absurd (not_empty _ _ none)
set_of at type (value.Condition c) is none = absurd (not_empty _ _ none)
set_of at type (value.Vertex p) is none = absurd (not_empty _ _ none)
set_of at type (value.Set slot) is none = set_type type slot is
set_of at type value.ErrorValue is none = absurd (not_error type is)

pub value_number : (i : Inside) (c : CheckerTree) (k : Known) → Sees i c k → (at : ℕ) (e : ExpressionTree) → (value_of c.scope at e).faults ≡ []
    → (integer_wanted at (value_of c.scope at e).value).faults ≡ []
    → IsNumberExpression k.names i e
value_number i c k s at e none wanted =
    let t = value_typed i c k s at e none in as_number (value_of c.scope at e) (ExpressionHas k.names i e) t (integer_of at t.type (value_of c.scope at e).value t.is wanted)

pub value_truth : (i : Inside) (c : CheckerTree) (k : Known) → Sees i c k → (at : ℕ) (e : ExpressionTree) → (value_of c.scope at e).faults ≡ []
    → (condition_wanted at (value_of c.scope at e).value).faults ≡ []
    → IsTruth k.names i e
value_truth i c k s at e none wanted =
    let t = value_typed i c k s at e none in as_truth (value_of c.scope at e) (ExpressionHas k.names i e) t (condition_of at t.type (value_of c.scope at e).value t.is wanted)

pub integer_number : (i : Inside) (c : CheckerTree) (k : Known) → Sees i c k → (at : ℕ) (e : ExpressionTree) → (integer_in c.scope at e).faults ≡ [] → IsNumberExpression k.names i e
integer_number i c k s at e none = value_number i c k s at e (no_left (value_of c.scope at e).faults _ none) (no_right (value_of c.scope at e).faults _ none)

pub condition_truth : (i : Inside) (c : CheckerTree) (k : Known) → Sees i c k → (at : ℕ) (e : ExpressionTree) → (condition_in c.scope at e).faults ≡ [] → IsTruth k.names i e
condition_truth i c k s at e none = value_truth i c k s at e (no_left (value_of c.scope at e).faults _ none) (no_right (value_of c.scope at e).faults _ none)

-- names
pub used_is : (i : Inside) (c : CheckerTree) (k : Known) → Sees i c k → (name : Identifier) → (used_name c.scope name).faults ≡ [] → IsMeant k.names name (used_name c.scope name).value
used_is i c k s name none =
    let m = used_meant c.scope name (meant i c k s) none in record {
      means = subst (λ n. found name.bytes n ≡ Some (meaning_of (used_name c.scope name).value)) s.matches.names m.means;
      clear =
          m.clear;
    }

pub vector_is_found : (i : Inside) (c : CheckerTree) (k : Known) → Sees i c k → (at : ℕ) (name : Identifier) → (vector_index c.scope at name).faults ≡ []
    → VectorFound (vector_index c.scope at name) k.names name
vector_is_found i c k s at name none =
    let v = vector_found c.scope at name (meant i c k s) none in
    record { vector = v.vector; means = subst (λ n. found name.bytes n ≡ Some (meaning.Vector v.vector)) s.matches.names v.means; index = v.index }

pub clear_no_error : (e : Entity) → (e ≡ entity.Error → ⊥) → names_error e ≡ false
clear_no_error entity.Error clear = absurd (clear refl)
clear_no_error _ clear = refl

-- the meanings of what is found
pub set_means : (e : Entity) (slot : VarRef) → entity_set e ≡ Some slot → type_named (Some (meaning_of e)) ≡ Some Set
set_means (entity.ConstantSet x) slot is = refl
set_means (entity.SetVariable x) slot is = refl
set_means _ slot is = absurd cc

filter_means : (e : Entity) (index : ℕ) → filter_function e ≡ Some index → meaning_of e ≡ meaning.Filter
filter_means (entity.Filter x) index is = refl
filter_means _ index is = absurd cc

-- edges, and an edge function that goes with them
pub record EdgesFit (e f : Entity) (index : ℕ) : Type 0 where
  pub weights : Bool
  pub weighted : Bool
  pub edges : meaning_of e ≡ meaning.Edges weights
  pub function : meaning_of f ≡ meaning.EdgeFunction index weighted
  pub sees : SeesWeights weights weighted

weights_are_seen : (weights weighted : Bool) → (not weights && weighted) ≡ false → SeesWeights weights weighted
weights_are_seen true true lacks = refl
weights_are_seen false true lacks = absurd (false_is_not_true (sym lacks))
weights_are_seen weights false lacks = tt

function_fits_edges : (weights : Bool) (f : Entity) (index : ℕ) → edge_function f ≡ Some index → (not weights && takes_edge_weight f) ≡ false → EdgesFit (entity.Edges weights) f index
function_fits_edges weights (entity.EdgeFunction x weighted) index is lacks = record {
  weights = weights;
  weighted = weighted;
  edges = refl;
  function = cc;
  sees =
      weights_are_seen weights weighted lacks;
}
function_fits_edges weights _ index is lacks = absurd cc

pub edges_fit : (e f : Entity) (index : ℕ) → is_edges e ≡ true → edge_function f ≡ Some index → lacks_weights e f ≡ false → EdgesFit e f index
edges_fit (entity.Edges weights) f index are is lacks = function_fits_edges weights f index is lacks
edges_fit _ f index are is lacks = absurd (false_is_not_true are)

pub vertex_function_means : (e : Entity) (index : ℕ) → initial_value.vertex_function e ≡ Some index → meaning_of e ≡ meaning.VertexFunction
vertex_function_means (entity.VertexFunction x) index is = refl
vertex_function_means _ index is = absurd cc

vector_means : (e : Entity) (index : ℕ) → vector_of e ≡ Some index → meaning_of e ≡ meaning.Vector index
vector_means (entity.Vector x) index is = cc
vector_means _ index is = absurd cc

pub means_as : (names : Meanings) (name : Identifier) (e : Entity) (m : Meaning) → IsMeant names name e → meaning_of e ≡ m → found name.bytes names ≡ Some m
means_as names name e m is same = is.means ∙ ap Some same

pub has_as : (names : Meanings) (name : Identifier) (e : Entity) (type : ExpressionType) → IsMeant names name e → type_named (Some (meaning_of e)) ≡ Some type → NameHas names name type
has_as names name e type is same = subst (λ o. type_named o ≡ Some type) (sym is.means) same

-- initial values: the edges' own
of_edges_is : (at : ℕ) (x : InitializerTree) (e : Entity) → (e ≡ entity.Error → ⊥) → (of_edges at x e).faults ≡ [] → ((weights : Bool) × (meaning_of e ≡ meaning.Edges weights))
    × ((of_edges at x e).value ≡ x)
of_edges_is at x (entity.Edges weights) clear none = ((weights, refl), refl)
of_edges_is at x entity.Error clear none = absurd (clear refl)
of_edges_is at x _ clear none = absurd (not_empty _ _ none)

-- a filter on a set
abbrev pub AreMembers : InitializerTree → Type 0
AreMembers (initial_value.Members m) = Unit {0}
AreMembers _ = ⊥

pub record Filters (m : WithFaults InitializerTree) (s f : Entity) : Type 0 where
  pub set : type_named (Some (meaning_of s)) ≡ Some Set
  pub filter : meaning_of f ≡ meaning.Filter
  pub members : AreMembers m.value

filtered_by_is : (at : ℕ) (s f : Entity) (a : Option VarRef) (b : Option ℕ) → entity_set s ≡ a → filter_function f ≡ b → (filtered_by at a b).faults ≡ [] → Filters (filtered_by at a b) s f
filtered_by_is at s f None b one other none = absurd (not_empty _ _ none)
filtered_by_is at s f (Some slot) None one other none = absurd (not_empty _ _ none)
filtered_by_is at s f (Some slot) (Some index) one other none = record { set = set_means s slot one; filter = filter_means f index other; members = tt }

filtered_is : (at : ℕ) (s f : Entity) → (s ≡ entity.Error → ⊥) → (f ≡ entity.Error → ⊥) → (filtered_set at s f).faults ≡ [] → Filters (filtered_set at s f) s f
filtered_is at s f clear also none =
    let neither = neither_true (names_error s) (names_error f) (clear_no_error s clear) (clear_no_error f also) in
    subst (λ m. Filters m s f) (sym (at_test neither)) (filtered_by_is at s f (entity_set s) (filter_function f) refl refl
    (subst (λ (m : WithFaults InitializerTree). m.faults ≡ []) (at_test neither) none))
  where
    at_test : (names_error s || names_error f) ≡ false → filtered_set at s f ≡ filtered_by at (entity_set s) (filter_function f)
    at_test is = ap (λ b. if b then sure ErrorInitializer else filtered_by at (entity_set s) (filter_function f)) is

-- ends of applies
named_end_is_clear : (e : Entity) → (e ≡ entity.Error → ⊥) → is_error_end (filter_named e) ≡ false
named_end_is_clear entity.Error clear = absurd (clear refl)
named_end_is_clear _ clear = refl

pub end_is_clear : (i : Inside) (c : CheckerTree) (k : Known) → Sees i c k → (name : Option Identifier) → (apply_end_of c.scope name).faults ≡ []
    → is_error_end (apply_end_of c.scope name).value ≡ false
end_is_clear i c k s None none = refl
end_is_clear i c k s (Some name) none = named_end_is_clear (used_name c.scope name).value (used_is i c k s name (no_left (used_name c.scope name).faults [] none)).clear

named_end_fits : (names : Meanings) (name : Identifier) (e : Entity) → IsMeant names name e → is_wrong (filter_named e) ≡ false → NameHas names name Set
    ⊎ (found name.bytes names ≡ Some meaning.Filter)
named_end_fits names name (entity.ConstantSet slot) is right = inl (has_as names name (entity.ConstantSet slot) Set is refl)
named_end_fits names name (entity.SetVariable slot) is right = inl (has_as names name (entity.SetVariable slot) Set is refl)
named_end_fits names name (entity.Filter index) is right = inr is.means
named_end_fits names name entity.Error is right = absurd (is.clear refl)
named_end_fits names name _ is right = absurd cc

pub end_fits : (i : Inside) (c : CheckerTree) (k : Known) → Sees i c k → (name : Option Identifier) → (apply_end_of c.scope name).faults ≡ [] → is_wrong (apply_end_of c.scope name).value ≡ false
    → EndFits k.names name
end_fits i c k s None none right = tt
end_fits i c k s (Some name) none right = named_end_fits k.names name (used_name c.scope name).value (used_is i c k s name (no_left (used_name c.scope name).faults [] none)) right

-- the members that an apply modifies
pub record ModifiesBy (m : WithFaults InitializerTree) (c : CheckerTree) (e f v : Entity) (a b : ApplyEndTree) : Type 0 where
  pub from : is_wrong a ≡ false
  pub to : is_wrong b ≡ false
  pub index : ℕ
  pub vector : ℕ
  pub by : Reduction
  pub fit : EdgesFit e f index
  pub vector_means_it : meaning_of v ≡ meaning.Vector vector
  pub writes : lookup (nat_eq vector) (slice_index_or c.written index []) ≡ Some by
  pub members : AreMembers m.value

some_value : (o : Option Reduction) → is_some o ≡ true → (by : Reduction) × (o ≡ Some by)
some_value None is = absurd (false_is_not_true is)
some_value (Some by) is = (by, refl)

modified_by_is : (c : CheckerTree) (at : ℕ) (e f v : Entity) (a b : ApplyEndTree) → is_edges e ≡ true → lacks_weights e f ≡ false → is_wrong a ≡ false → is_wrong b ≡ false
    → (g : Option ℕ) (w : Option ℕ)
    → edge_function f ≡ g → vector_of v ≡ w → (modified_by c at (ends_given a b) g w).faults ≡ [] → ModifiesBy (modified_by c at (ends_given a b) g w) c e f v a b
modified_by_is c at e f v a b edges lacks from to None w one other none = absurd (not_empty _ _ none)
modified_by_is c at e f v a b edges lacks from to (Some index) None one other none = absurd (not_empty _ _ none)
modified_by_is c at e f v a b edges lacks from to (Some index) (Some vector) one other none = at_test (writes_vector c.written index vector) refl none
  where
    at_test : (x : Bool) → writes_vector c.written index vector ≡ x
        → (if x then sure (initial_value.Members (set.Modified (ends_given a b) index vector)) else fault_at at rule.WrongType ErrorInitializer).faults ≡ []
        → ModifiesBy (if x then sure (initial_value.Members (set.Modified (ends_given a b) index vector)) else fault_at at rule.WrongType ErrorInitializer) c e f v a b
    at_test true is none =
        let by = some_value (lookup (nat_eq vector) (slice_index_or c.written index [])) is in
        record {
          from = from;
          to = to;
          index = index;
          vector = vector;
          by = by.0;
          fit = edges_fit e f index edges one lacks;
          vector_means_it = vector_means v vector other;
          writes = by.1;
          members =
              tt;
        }
    at_test false is none = absurd (not_empty _ _ none)

abbrev modified_at : CheckerTree → ℕ → (f v : Entity) → (a b : ApplyEndTree) → (error edges wrong : Bool) → WithFaults InitializerTree
modified_at c at f v a b error edges wrong =
    if error then sure ErrorInitializer
    else (if edges then (if wrong then fault_at at rule.WrongType ErrorInitializer else modified_by c at (ends_given a b) (edge_function f)
    (vector_of v)) else fault_at at rule.WrongType ErrorInitializer)

modified_where : (c : CheckerTree) (at : ℕ) (e f v : Entity) (a b : ApplyEndTree) (error edges wrong : Bool) → error ≡ false → is_edges e ≡ edges
    → (is_wrong a || is_wrong b || lacks_weights e f) ≡ wrong
    → (modified_at c at f v a b error edges wrong).faults ≡ [] → ModifiesBy (modified_at c at f v a b error edges wrong) c e f v a b
modified_where c at e f v a b true edges wrong clear are is none = absurd cc
modified_where c at e f v a b false false wrong clear are is none = absurd (not_empty _ _ none)
modified_where c at e f v a b false true true clear are is none = absurd (not_empty _ _ none)
modified_where c at e f v a b false true false clear are is none =
    let all = both_false (is_wrong a || is_wrong b) (lacks_weights e f) is in
    let right = both_false (is_wrong a) (is_wrong b) all.0 in
    modified_by_is c at e f v a b are all.1 right.0 right.1 (edge_function f) (vector_of v) refl refl none

modified_is : (c : CheckerTree) (at : ℕ) (e f v : Entity) (a b : ApplyEndTree) → (e ≡ entity.Error → ⊥) → (f ≡ entity.Error → ⊥) → (v ≡ entity.Error → ⊥) → is_error_end a ≡ false
    → is_error_end b ≡ false
    → (initial_modified c at e a b f v).faults ≡ [] → ModifiesBy (initial_modified c at e a b f v) c e f v a b
modified_is c at e f v a b clear_e clear_f clear_v clear_a clear_b none =
    let all = neither_true (names_error e || is_error_end a || is_error_end b || names_error f) (names_error v)
    (neither_true (names_error e || is_error_end a || is_error_end b) (names_error f)
    (neither_true (names_error e || is_error_end a) (is_error_end b) (neither_true (names_error e) (is_error_end a) (clear_no_error e clear_e) clear_a) clear_b) (clear_no_error f clear_f))
    (clear_no_error v clear_v) in
    modified_where c at e f v a b (names_error e || is_error_end a || is_error_end b || names_error f || names_error v) (is_edges e) (is_wrong a || is_wrong b || lacks_weights e f) all refl refl none

-- What an initial value is that has no fault.
abbrev pub Gives : (i : Inside) (c : CheckerTree) (k : Known) → ℕ → InitialTree → InitializerTree → Type 0
Gives i c k at (source.NewSet size) g = (size ≡ pos 0) × AreMembers g
Gives i c k at (source.Load argument) g = (argument ≡ pos 1) × (g ≡ Loaded)
Gives i c k at (source.Vertices edges) g = MeansEdges k.names edges × (g ≡ initial_value.Members set.All)
Gives i c k at (source.OutDegrees edges) g = MeansEdges k.names edges × (g ≡ Degrees)
Gives i c k at (source.Filter s f) g = (NameHas k.names s Set × (found f.bytes k.names ≡ Some meaning.Filter)) × AreMembers g
Gives i c k at (source.ApplyModified edges ends f v) g = (EndsFit k.names ends × Modifies k edges f v) × AreMembers g
Gives i c k at (source.Value e) g = ((value_of c.scope at e).faults ≡ []) × (g ≡ initial_value.Typed (value_of c.scope at e).value)

new_set_is : (at : ℕ) (size : ℤ) → (new_set at size).faults ≡ [] → (size ≡ pos 0) × AreMembers (new_set at size).value
new_set_is at (pos zero) none = (refl, tt)
new_set_is at (pos (suc n)) none = absurd (not_empty _ _ none)
new_set_is at (negsuc n) none = absurd (not_empty _ _ none)

loaded_is : (at : ℕ) (n : ℤ) → (loaded at n).faults ≡ [] → (n ≡ pos 1) × ((loaded at n).value ≡ Loaded)
loaded_is at (pos zero) none = absurd (not_empty _ _ none)
loaded_is at (pos (suc zero)) none = (refl, refl)
loaded_is at (pos (suc (suc n))) none = absurd (not_empty _ _ none)
loaded_is at (negsuc n) none = absurd (not_empty _ _ none)

pub initial_gives : (i : Inside) (c : CheckerTree) (k : Known) → Sees i c k → (at : ℕ) (initial : InitialTree) → (initializer_of c at initial).faults ≡ []
    → Gives i c k at initial (initializer_of c at initial).value
initial_gives i c k s at (source.NewSet size) none = new_set_is at size none
initial_gives i c k s at (source.Load argument) none = loaded_is at argument none
initial_gives i c k s at (source.Vertices edges) none =
    let e = used_name c.scope edges in
    let m = used_is i c k s edges (no_left e.faults _ none) in
    let x = of_edges_is at (initial_value.Members set.All) e.value m.clear (no_right e.faults _ none) in
    ((x.0.0, means_as k.names edges e.value (meaning.Edges x.0.0) m x.0.1), x.1)
initial_gives i c k s at (source.OutDegrees edges) none =
    let e = used_name c.scope edges in
    let m = used_is i c k s edges (no_left e.faults _ none) in
    let x = of_edges_is at Degrees e.value m.clear (no_right e.faults _ none) in
    ((x.0.0, means_as k.names edges e.value (meaning.Edges x.0.0) m x.0.1), x.1)
initial_gives i c k s at (source.Filter set test) none =
    let e = used_name c.scope set in
    let f = used_name c.scope test in
    let then_statement = no_right e.faults _ none in
    let m = used_is i c k s set (no_left e.faults _ none) in
    let n = used_is i c k s test (no_left f.faults _ then_statement) in
    let x = filtered_is at e.value f.value m.clear n.clear (no_right f.faults _ then_statement) in
    ((has_as k.names set e.value Set m x.set, means_as k.names test f.value meaning.Filter n x.filter), x.members)
initial_gives i c k s at (source.ApplyModified edges ends f v) none =
    let e = used_name c.scope edges in
    let a = apply_end_of c.scope ends.from in
    let b = apply_end_of c.scope ends.to in
    let g = used_name c.scope f in
    let w = used_name c.scope v in
    let after_e = no_right e.faults _ none in
    let after_a = no_right a.faults _ after_e in
    let after_b = no_right b.faults _ after_a in
    let after_g = no_right g.faults _ after_b in
    let m = used_is i c k s edges (no_left e.faults _ none) in
    let n = used_is i c k s f (no_left g.faults _ after_b) in
    let o = used_is i c k s v (no_left w.faults _ after_g) in
    let from = no_left a.faults _ after_e in
    let to = no_left b.faults _ after_a in
    let x = modified_is c at e.value g.value w.value a.value b.value m.clear n.clear o.clear (end_is_clear i c k s ends.from from) (end_is_clear i c k s ends.to to) (no_right w.faults _ after_g) in (
      (
        (end_fits i c k s ends.from from x.from, end_fits i c k s ends.to to x.to),
        record {
          weights = x.fit.weights;
          index = x.index;
          weighted = x.fit.weighted;
          edges_mean = means_as k.names edges e.value (meaning.Edges x.fit.weights) m x.fit.edges;
          sees = x.fit.sees;
          written = x.vector;
          by = x.by;
          function_means = means_as k.names f g.value (meaning.EdgeFunction x.index x.fit.weighted) n x.fit.function;
          vector_means = means_as k.names v w.value (meaning.Vector x.vector) o x.vector_means_it;
          writes = subst (λ ws. lookup (nat_eq x.vector) (slice_index_or ws x.index []) ≡ Some x.by) s.matches.written x.writes;
        },
      ),
      x.members,
    )
initial_gives i c k s at (source.Value e) none = (no_left (value_of c.scope at e).faults [] none, refl)

-- members are no number, and no condition
no_number : (at : ℕ) (g : InitializerTree) → AreMembers g → (initializer_integer at g).faults ≡ [] → ⊥
no_number at (initial_value.Members m) are none = not_empty _ _ none
no_number at (initial_value.Typed v) are none = are
no_number at Loaded are none = are
no_number at Degrees are none = are
no_number at ErrorInitializer are none = are

no_truth : (at : ℕ) (g : InitializerTree) → AreMembers g → (initializer_condition at g).faults ≡ [] → ⊥
no_truth at (initial_value.Members m) are none = not_empty _ _ none
no_truth at (initial_value.Typed v) are none = are
no_truth at Loaded are none = are
no_truth at Degrees are none = are
no_truth at ErrorInitializer are none = are

pub gives_number : (i : Inside) (c : CheckerTree) (k : Known) → Sees i c k → (at : ℕ) (initial : InitialTree) → (initializer_of c at initial).faults ≡ []
    → (initializer_integer at (initializer_of c at initial).value).faults ≡ [] → GivesNumber k.names i initial
gives_number i c k s at initial none wanted = at_initial initial (initializer_of c at initial).value (initial_gives i c k s at initial none) wanted
  where
    at_initial : (initial : InitialTree) (g : InitializerTree) → Gives i c k at initial g → (initializer_integer at g).faults ≡ [] → GivesNumber k.names i initial
    at_initial (source.NewSet size) g is wanted = no_number at g is.1 wanted
    at_initial (source.Load argument) g is wanted = not_empty _ _ (subst (λ g. (initializer_integer at g).faults ≡ []) is.1 wanted)
    at_initial (source.Vertices edges) g is wanted = not_empty _ _ (subst (λ g. (initializer_integer at g).faults ≡ []) is.1 wanted)
    at_initial (source.OutDegrees edges) g is wanted = not_empty _ _ (subst (λ g. (initializer_integer at g).faults ≡ []) is.1 wanted)
    at_initial (source.Filter set test) g is wanted = no_number at g is.1 wanted
    at_initial (source.ApplyModified edges ends f v) g is wanted = no_number at g is.1 wanted
    at_initial (source.Value e) g is wanted = value_number i c k s at e is.0 (subst (λ g. (initializer_integer at g).faults ≡ []) is.1 wanted)

pub gives_truth : (i : Inside) (c : CheckerTree) (k : Known) → Sees i c k → (at : ℕ) (initial : InitialTree) → (initializer_of c at initial).faults ≡ []
    → (initializer_condition at (initializer_of c at initial).value).faults ≡ [] → GivesTruth k.names i initial
gives_truth i c k s at initial none wanted = at_initial initial (initializer_of c at initial).value (initial_gives i c k s at initial none) wanted
  where
    at_initial : (initial : InitialTree) (g : InitializerTree) → Gives i c k at initial g → (initializer_condition at g).faults ≡ [] → GivesTruth k.names i initial
    at_initial (source.NewSet size) g is wanted = no_truth at g is.1 wanted
    at_initial (source.Load argument) g is wanted = not_empty _ _ (subst (λ g. (initializer_condition at g).faults ≡ []) is.1 wanted)
    at_initial (source.Vertices edges) g is wanted = not_empty _ _ (subst (λ g. (initializer_condition at g).faults ≡ []) is.1 wanted)
    at_initial (source.OutDegrees edges) g is wanted = not_empty _ _ (subst (λ g. (initializer_condition at g).faults ≡ []) is.1 wanted)
    at_initial (source.Filter set test) g is wanted = no_truth at g is.1 wanted
    at_initial (source.ApplyModified edges ends f v) g is wanted = no_truth at g is.1 wanted
    at_initial (source.Value e) g is wanted = value_truth i c k s at e is.0 (subst (λ g. (initializer_condition at g).faults ≡ []) is.1 wanted)

pub gives_members : (i : Inside) (c : CheckerTree) (k : Known) → Sees i c k → (at : ℕ) (initial : InitialTree) → (initializer_of c at initial).faults ≡ []
    → (initializer_members at (initializer_of c at initial).value).faults ≡ [] → GivesMembers k i initial
gives_members i c k s at initial none wanted = at_initial initial (initializer_of c at initial).value (initial_gives i c k s at initial none) wanted
  where
    at_initial : (initial : InitialTree) (g : InitializerTree) → Gives i c k at initial g → (initializer_members at g).faults ≡ [] → GivesMembers k i initial
    at_initial (source.NewSet size) g is wanted = is.0
    at_initial (source.Load argument) g is wanted = not_empty _ _ (subst (λ g. (initializer_members at g).faults ≡ []) is.1 wanted)
    at_initial (source.Vertices edges) g is wanted = is.0
    at_initial (source.OutDegrees edges) g is wanted = not_empty _ _ (subst (λ g. (initializer_members at g).faults ≡ []) is.1 wanted)
    at_initial (source.Filter set test) g is wanted = is.0
    at_initial (source.ApplyModified edges ends f v) g is wanted = is.0
    at_initial (source.Value e) g is wanted =
        let t = value_typed i c k s at e is.0 in
        subst (ExpressionHas k.names i e) (set_of at t.type (value_of c.scope at e).value t.is (subst (λ g. (initializer_members at g).faults ≡ []) is.1 wanted)) t.has
