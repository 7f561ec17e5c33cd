-- What is known at a point of a source, and what is visible there in its program.
use Rattle.std.proofs.Common.{◌≡◌, refl, ap, sym, ◌∙◌, subst, ℕ, zero, suc, ◌+◌, ◌<◌, ◌≤◌, arith, List, [], ◌∷◌, ◌++◌, length, length-append, Option, Some, None}
use Rattle.std.specs.Prelude.{slice_get}
use Rattle.std.specs.List.{AllByRecursion}
use Rattle.std.proofs.lemmas.Option.{none-some}
use Rattle.syntax.specs.Terminals.{Identifier}
use Rattle.typed_tree.specs.declared.expression.Endpoint.{Endpoint}
use Rattle.typed_tree.specs.declared.expression.Endpoint.TheVariants as endpoint
use Rattle.typed_tree.specs.ProgramTree.{ProgramTree}
use Rattle.typed_tree.specs.Resolved.{VisibleTree, IsLabel, IsNameIndex, IsVertex}
use Rattle.expression_types.specs.declared.scope.Entity.{Entity}
use Rattle.expression_types.specs.declared.scope.Entity.TheVariants as entity
use Rattle.expression_types.specs.ScopeTree.{found, ScopeTree, conditions_of, declared_over, integers_of, sets_of, with_entity}
use Rattle.initializer_types.specs.Checker.{CheckerTree, declared_in, with_label, new_label, in_scope, without_ends}
use Rattle.type_laws.proofs.Faultless.{no_left, not_empty}
use Rattle.type_laws.proofs.ResolvedValues.{EntityIsResolved, Known}

-- lists with one more, and indices in longer ones
pub all_then : {A : Type 0} (P : A → Type 0) (xs : List A) (x : A) → AllByRecursion P xs → P x → AllByRecursion P (xs ++ x ∷ [])
all_then P [] x all last = (last, tt)
all_then P (y ∷ xs) x all last = (all.0, all_then P xs x all.1 last)

pub get_before : {A : Type 0} (xs ys : List A) (k : ℕ) (x : A) → slice_get xs k ≡ Some x → slice_get (xs ++ ys) k ≡ Some x
get_before [] ys k x is = absurd (none-some x is)
get_before (y ∷ xs) ys zero x is = is
get_before (y ∷ xs) ys (suc k) x is = get_before xs ys k x is

pub get_last : {A : Type 0} (xs : List A) (y : A) (ys : List A) → slice_get (xs ++ y ∷ ys) (length xs) ≡ Some y
get_last [] y ys = refl
get_last (x ∷ xs) y ys = get_last xs y ys

-- what is visible at the first point still is at the second, at its index
pub record Grows (v w : VisibleTree) : Type 0 where
  pub integers : (k : ℕ) (x : Option ℕ) → slice_get v.integers k ≡ Some x → slice_get w.integers k ≡ Some x
  pub conditions : (k x : ℕ) → slice_get v.conditions k ≡ Some x → slice_get w.conditions k ≡ Some x
  pub sets : (k x : ℕ) → slice_get v.sets k ≡ Some x → slice_get w.sets k ≡ Some x
  pub vertices : v.vertices ≤ w.vertices

vertex_grows : (v w : VisibleTree) (at : Endpoint) → v.vertices ≤ w.vertices → IsVertex v at → IsVertex w at
vertex_grows v w endpoint.Source more is = omega (arith, more, is)
vertex_grows v w endpoint.Destination more is = omega (arith, more, is)

entity_grows : (p : ProgramTree) (v w : VisibleTree) → Grows v w → (e : Entity) → EntityIsResolved p v e → EntityIsResolved p w e
entity_grows p v w more (entity.Edges weights) is = is
entity_grows p v w more (entity.Vector index) is = is
entity_grows p v w more (entity.ConstantSet slot) is = (more.sets slot.index slot.name is.0, is.1)
entity_grows p v w more (entity.IntConstant name n) is = is
entity_grows p v w more (entity.BoolConstant name b) is = is
entity_grows p v w more (entity.IntVariable slot) is = (more.integers slot.index (Some slot.name) is.0, is.1)
entity_grows p v w more (entity.BoolVariable slot) is = (more.conditions slot.index slot.name is.0, is.1)
entity_grows p v w more (entity.SetVariable slot) is = (more.sets slot.index slot.name is.0, is.1)
entity_grows p v w more (entity.LoopVariable slot) is = (more.integers slot.index (Some slot.name) is.0, is.1)
entity_grows p v w more (entity.Parameter at) is = vertex_grows v w at more.vertices is
entity_grows p v w more entity.Weight is = vertex_grows v w endpoint.Destination more.vertices is
entity_grows p v w more (entity.EdgeFunction index weighted) is = is
entity_grows p v w more (entity.VertexFunction index) is = is
entity_grows p v w more (entity.Filter index) is = is
entity_grows p v w more entity.Main is = is
entity_grows p v w more entity.Error is = is

pub known_grows : (p : ProgramTree) (v w : VisibleTree) → Grows v w → (visible : List (List ℕ × Entity)) → AllByRecursion (λ x. EntityIsResolved p v x.1) visible
    → AllByRecursion (λ x. EntityIsResolved p w x.1) visible
known_grows p v w more [] all = tt
known_grows p v w more (x ∷ others) all = (entity_grows p v w more x.1 all.0, known_grows p v w more others all.1)

-- the counts of indices are those of what is visible, and what names stand for is there
pub record ScopeFits (p : ProgramTree) (v : VisibleTree) (scope : ScopeTree) : Type 0 where
  pub integers : scope.integers ≡ length v.integers
  pub conditions : scope.conditions ≡ length v.conditions
  pub sets : scope.sets ≡ length v.sets
  pub known : Known p v scope

abbrev pub CheckerFits : ProgramTree → VisibleTree → CheckerTree → Type 0
CheckerFits p v c = ScopeFits p v c.scope × (length c.labels ≡ length c.label_names)

-- the program has all names and labels that were met
abbrev pub Within : ProgramTree → CheckerTree → Type 0
Within p c = (length c.names ≤ length p.names) × (length c.label_names ≤ length p.labels)

-- a declaration
pub declared_over_is : (o : Option Entity) (name : Identifier) (e : Entity) (scope : ScopeTree) → (declared_over o name e scope).faults ≡ []
    → (declared_over o name e scope).value ≡ with_entity name.bytes e scope
declared_over_is None name e scope none = refl
declared_over_is (Some old) name e scope none = absurd (not_empty _ _ none)

pub declared_before : (p : ProgramTree) (c : CheckerTree) (name : Identifier) (e : Entity) → Within p (declared_in c name e).value → Within p c
declared_before p c name e within =
    let names : length (c.names ++ name.bytes ∷ []) ≤ length p.names = within.0 in
    (omega (arith, names, length-append c.names (name.bytes ∷ [])), within.1)

pub declared_name : (p : ProgramTree) (c : CheckerTree) (name : Identifier) (e : Entity) → Within p (declared_in c name e).value → IsNameIndex p (length c.names)
declared_name p c name e within =
    let names : length (c.names ++ name.bytes ∷ []) ≤ length p.names = within.0 in
    omega (arith, names, length-append c.names (name.bytes ∷ []))

entity_scope : (p : ProgramTree) (v w : VisibleTree) (scope : ScopeTree) (name : List ℕ) (e : Entity) → ScopeFits p v scope → Grows v w → w.indexes ≡ v.indexes → EntityIsResolved p w e
    → length w.integers ≡ length v.integers + integers_of e → length w.conditions ≡ length v.conditions + conditions_of e → length w.sets ≡ length v.sets + sets_of e
    → ScopeFits p w (with_entity name e scope)
entity_scope p v w scope name e fits more same is integers conditions sets = record {
  integers = ap (λ n. n + integers_of e) fits.integers ∙ sym integers;
  conditions = ap (λ n. n + conditions_of e) fits.conditions ∙ sym conditions;
  sets = ap (λ n. n + sets_of e) fits.sets ∙ sym sets;
  known = (λ main. same ∙ fits.known.0 main, all_then (λ x. EntityIsResolved p w x.1) scope.visible (name, e) (known_grows p v w more scope.visible fits.known.1) is);
}

pub declared_fits : (p : ProgramTree) (v w : VisibleTree) (c : CheckerTree) (name : Identifier) (e : Entity) → (declared_in c name e).faults ≡ [] → CheckerFits p v c
    → Grows v w → w.indexes ≡ v.indexes → EntityIsResolved p w e → length w.integers ≡ length v.integers + integers_of e → length w.conditions ≡ length v.conditions + conditions_of e
    → length w.sets ≡ length v.sets + sets_of e → CheckerFits p w (declared_in c name e).value
declared_fits p v w c name e none fits more indexes is integers conditions sets =
    let over = declared_over (found name.bytes c.scope.visible) name e c.scope in
    let same = declared_over_is (found name.bytes c.scope.visible) name e c.scope (no_left over.faults [] none) in
    (subst (λ scope. ScopeFits p w scope) (sym same) (entity_scope p v w c.scope name.bytes e fits.0 more indexes is integers conditions sets), fits.1)

-- a label
new_label_before : (p : ProgramTree) (c : CheckerTree) (label : Identifier) (index : Option ℕ) → Within p (new_label c label index).value.1 → Within p c
new_label_before p c label None within =
    (within.0, omega (arith, within.1, length-append c.label_names (without_ends label.bytes ∷ [])))
new_label_before p c label (Some index) within = within

pub labelled_before : (p : ProgramTree) (c : CheckerTree) (label : Option Identifier) → Within p (with_label c label).value.1 → Within p c
labelled_before p c None within = within
labelled_before p c (Some label) within = new_label_before p c label (found label.bytes c.labels) within

new_label_fits : (p : ProgramTree) (v : VisibleTree) (c : CheckerTree) (label : Identifier) (index : Option ℕ) → (new_label c label index).faults ≡ [] → CheckerFits p v c
    → Within p (new_label c label index).value.1 → CheckerFits p v (new_label c label index).value.1 × IsLabel p (new_label c label index).value.0
new_label_fits p v c label None none fits within =
    let one : List (List ℕ × ℕ) = (label.bytes, length c.labels) ∷ [] in
    let name : List (List ℕ) = without_ends label.bytes ∷ [] in
    let same : length c.labels ≡ length c.label_names = fits.1 in
    let both : length (c.labels ++ one) ≡ length (c.label_names ++ name) = omega (arith, same, length-append c.labels one, length-append c.label_names name) in
    let there : length c.labels < length p.labels = omega (arith, same, within.1, length-append c.label_names name) in
    ((fits.0, both), there)
new_label_fits p v c label (Some index) none fits within = absurd (not_empty _ _ none)

pub labelled_fits : (p : ProgramTree) (v : VisibleTree) (c : CheckerTree) (label : Option Identifier) → (with_label c label).faults ≡ [] → CheckerFits p v c
    → Within p (with_label c label).value.1 → CheckerFits p v (with_label c label).value.1 × IsLabel p (with_label c label).value.0
labelled_fits p v c None none fits within = (fits, tt)
labelled_fits p v c (Some label) none fits within = new_label_fits p v c label (found label.bytes c.labels) none fits within

-- after a block
pub left_fits : (p : ProgramTree) (v w : VisibleTree) (c d : CheckerTree) → CheckerFits p v c → CheckerFits p w d → CheckerFits p v (in_scope d c.scope)
left_fits p v w c d fits inner = (fits.0, inner.1)
