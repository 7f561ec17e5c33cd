-- The statements of a main without a fault name visible vertex sets apart, and ask for written vectors.
use Rattle.std.proofs.Common.{◌≡◌, ◌≢◌, refl, ap, sym, subst, ◌∙◌, inl, inr, ◌⊎◌, ℕ, zero, suc, ◌+◌, ◌≤◌, ℤ, pos, negsuc, Bool, true, false, ◌||◌, if◌then◌else◌, List, [], ◌∷◌, ◌++◌, length}
use Rattle.std.proofs.Common.{length-append, map, arith, Option, Some, None}
use Rattle.std.specs.Prelude.{slice_get}
use Rattle.std.specs.List.{AllByRecursion, Contains}
use Rattle.std.proofs.lemmas.List.{map-append}
use Rattle.std.proofs.lemmas.Option.{none-some, same_Some}
use Rattle.std.proofs.lemmas.Slice.Eq.{bytes_eq-Decides}
use Rattle.syntax.specs.Terminals.{Identifier}
use Rattle.syntax.specs.declared.declaration.DeclaredType.{DeclaredType}
use Rattle.syntax.specs.declared.declaration.DeclaredType.TheVariants as declared
use Rattle.apply_options.specs.declared.reduction.Reduction.{Reduction}
use Rattle.syntax.specs.SourceTrees as source
use Rattle.syntax.specs.SourceTrees.{InitialTree}
use Rattle.typed_tree.specs.declared.expression.VarRef.{VarRef}
use Rattle.typed_tree.specs.declared.statement.ApplyEnds.{ApplyEnds}
use Rattle.typed_tree.specs.declared.statement.SetValue.TheVariants as set
use Rattle.typed_tree.specs.Independence.{function_writes, are_same, name_at, or_empty}
use Rattle.typed_tree.specs.BlockTree.{StatementKindTree, BlockTree, Empty, Then}
use Rattle.typed_tree.specs.IntExpressionTree.{IntExpressionTree}
use Rattle.typed_tree.specs.ProgramTree.{ProgramTree}
use Rattle.expression_types.specs.declared.scope.Entity.{Entity}
use Rattle.expression_types.specs.declared.scope.Entity.TheVariants as entity
use Rattle.expression_types.specs.Expression.{used_name, value_of, vector_index}
use Rattle.expression_types.specs.ScopeTree.{found, ScopeTree, declared_over, sets_of, with_entity}
use Rattle.expression_types.specs.Faults.{WithFaults}
use Rattle.expression_types.specs.ValueTree as value
use Rattle.expression_types.specs.ValueTree.{ValueTree, entity_set}
use Rattle.types.specs.Block.{action_typed, then_statement, closed, statements_typed}
use Rattle.initializer_types.specs.Checker.{CheckerTree, condition_slot, counted, declared_in, integer_slot, with_label, new_label, set_slot, as_index, as_members, condition_in, integer_in}
use Rattle.initializer_types.specs.Initial.{ApplyEndTree, InitializerTree, Typed, Members, Loaded, Degrees, ErrorInitializer, edge_function, apply_end_of, ends_given, filter_function, filter_named, filtered_set}
use Rattle.initializer_types.specs.Initial.{filtered_by, given_filter, initializer_condition, initializer_integer, initializer_members, initializer_of, is_edges, is_error_end, is_wrong, loaded, initial_modified}
use Rattle.initializer_types.specs.Initial.{modified_by, names_error, new_set, of_edges, vector_of, vertex_function, writes_vector, lacks_weights}
use Rattle.types.specs.Statement.{add_vertex, added_to_set, applied, apply, assign, assigned, declare_as, edges_applied, entry_reduced, entry_set, has_ends, print, printed, reduce, reduce_entry}
use Rattle.types.specs.Statement.{reduced, set_applied, set_entry, vertices_applied}
use Rattle.type_laws.specs.AskedVectors.{AsksForWritten, ValueAsksForWritten}
use Rattle.type_laws.specs.EachStatement.{HoldsInside, HoldsOfEach, SetNames, names_after}
use Rattle.type_laws.specs.VisibleSets.{EndIsVisible, EndsAreVisible, IsVisible, NamesSets, SetsAreVisible, ValueIsVisible}
use Rattle.type_laws.proofs.Faultless.{no_left, no_right, not_empty}
use Rattle.type_laws.proofs.KnownScopes.{labelled_scope}
use Rattle.type_laws.proofs.NamesGrow.{Begins, statements_grow}
use Rattle.type_laws.proofs.NewNames.{declared_new}
use Rattle.type_laws.proofs.ResolvedScopes.{all_then, declared_over_is, get_before, get_last}
use Rattle.type_laws.proofs.ResolvedValues.{used_among}

-- one of these names
abbrev pub IsAmong : List ℕ → List (List ℕ) → Type 0
IsAmong name [] = ⊥
IsAmong name (x ∷ others) = (name ≡ x) ⊎ IsAmong name others

among_left : (name : List ℕ) (xs ys : List (List ℕ)) → IsAmong name xs → IsAmong name (xs ++ ys)
among_left name [] ys is = absurd is
among_left name (x ∷ xs) ys (inl is) = inl is
among_left name (x ∷ xs) ys (inr is) = inr (among_left name xs ys is)

among_last : (name other : List ℕ) (xs : List (List ℕ)) → name ≡ other → IsAmong name (xs ++ other ∷ [])
among_last name other [] is = inl is
among_last name other (x ∷ xs) is = inr (among_last name other xs is)

new_not_among : (new name : List ℕ) (xs : List (List ℕ)) → AllByRecursion (λ other. new ≢ other) xs → name ≡ new → IsAmong name xs → ⊥
new_not_among new name [] all same is = is
new_not_among new name (x ∷ xs) all same (inl is) = all.0 (sym same ∙ is)
new_not_among new name (x ∷ xs) all same (inr is) = new_not_among new name xs all.1 same is

pub get_cases : {A : Type 0} (xs : List A) (y : A) (k : ℕ) (x : A) → slice_get (xs ++ y ∷ []) k ≡ Some x → (slice_get xs k ≡ Some x) ⊎ ((k ≡ length xs) × (x ≡ y))
get_cases [] y zero x is = inr (refl, sym (same_Some y x is))
get_cases [] y (suc k) x is = absurd (none-some x is)
get_cases (z ∷ xs) y zero x is = inl is
get_cases (z ∷ xs) y (suc k) x is =
    elim (get_cases xs y k x is) [ inl h ↦ inl h | inr h ↦ (let same : k ≡ length xs = h.0 in inr (omega (arith, same), h.1)) ]

-- a label changes nothing that edge functions write
new_label_written : (c : CheckerTree) (label : Identifier) (index : Option ℕ) → (new_label c label index).value.1.written ≡ c.written
new_label_written c label None = refl
new_label_written c label (Some index) = refl

pub labelled_written : (c : CheckerTree) (label : Option Identifier) → (with_label c label).value.1.written ≡ c.written
labelled_written c None = refl
labelled_written c (Some label) = new_label_written c label (found label.bytes c.labels)

-- at which indices vertex sets are visible, and by which names
abbrev pub Visible : Type 1
Visible = (index name : ℕ) → Type 0

abbrev pub InNames : SetNames → Visible
InNames names index name = slice_get names index ≡ Some (Some name)

module _ (p : ProgramTree) where
  -- a set that a name stands for is visible
  abbrev pub EntityStands : Visible → Entity → Type 0
  EntityStands V (entity.Edges weights) = Unit {0}
  EntityStands V (entity.Vector index) = Unit {0}
  EntityStands V (entity.ConstantSet slot) = V slot.index slot.name
  EntityStands V (entity.IntConstant name n) = Unit {0}
  EntityStands V (entity.BoolConstant name b) = Unit {0}
  EntityStands V (entity.IntVariable slot) = Unit {0}
  EntityStands V (entity.BoolVariable slot) = Unit {0}
  EntityStands V (entity.SetVariable slot) = V slot.index slot.name × (length p.sets ≤ slot.index)
  EntityStands V (entity.LoopVariable slot) = Unit {0}
  EntityStands V (entity.Parameter at) = Unit {0}
  EntityStands V entity.Weight = Unit {0}
  EntityStands V (entity.EdgeFunction index weighted) = Unit {0}
  EntityStands V (entity.VertexFunction index) = Unit {0}
  EntityStands V (entity.Filter index) = Unit {0}
  EntityStands V entity.Main = Unit {0}
  EntityStands V entity.Error = Unit {0}

  -- the visible sets are those that visible names stand for, and have different names
  pub record SetsFit (V : Visible) (scope : ScopeTree) : Type 0 where
    pub known : AllByRecursion (λ x. EntityStands V x.1) scope.visible
    pub named : (index name : ℕ) → V index name → IsAmong (name_at p.names name) (map (λ x. x.0) scope.visible)
    pub apart : (i j a b : ℕ) → V i a → V j b → are_same p.names a b ≡ true → i ≡ j

  entity_stands : (V W : Visible) → ((index name : ℕ) → V index name → W index name) → (e : Entity) → EntityStands V e → EntityStands W e
  entity_stands V W more (entity.ConstantSet slot) is = more slot.index slot.name is
  entity_stands V W more (entity.SetVariable slot) is = (more slot.index slot.name is.0, is.1)
  entity_stands V W more _ is = tt

  pub all_stand : (V W : Visible) → ((index name : ℕ) → V index name → W index name) → (visible : List (List ℕ × Entity)) → AllByRecursion (λ x. EntityStands V x.1) visible
      → AllByRecursion (λ x. EntityStands W x.1) visible
  all_stand V W more [] all = tt
  all_stand V W more (x ∷ others) all = (entity_stands V W more x.1 all.0, all_stand V W more others all.1)

  -- a declaration of a name, of a set at an index or of something else
  module _ (V W : Visible) (c : CheckerTree) (name : Identifier) (e : Entity) (none : (declared_in c name e).faults ≡ []) (there : slice_get p.names (length c.names) ≡ Some name.bytes)
      (fits : SetsFit V c.scope) (more : (index own : ℕ) → V index own → W index own) (at : ℕ) (less : (index own : ℕ) → W index own → V index own ⊎ ((index ≡ at) × (own ≡ length c.names)))
      (stands : EntityStands W e) where
    is_name : name_at p.names (length c.names) ≡ name.bytes
    is_name = ap or_empty there

    is_own : (own : ℕ) → own ≡ length c.names → name_at p.names own ≡ name.bytes
    is_own own same = ap (name_at p.names) same ∙ is_name

    new_named : (index own : ℕ) → W index own → IsAmong (name_at p.names own) (map (λ x. x.0) c.scope.visible ++ name.bytes ∷ [])
    new_named index own is =
        elim (less index own is) [
          | inl old ↦ among_left (name_at p.names own) (map (λ x. x.0) c.scope.visible) (name.bytes ∷ []) (fits.named index own old)
          | inr new ↦ among_last (name_at p.names own) name.bytes (map (λ x. x.0) c.scope.visible) (is_own own new.1)
        ]

    differ : (index a b : ℕ) → V index a → b ≡ length c.names → name_at p.names a ≡ name_at p.names b → ⊥
    differ index a b old new same =
        new_not_among name.bytes (name_at p.names a) (map (λ x. x.0) c.scope.visible) (declared_new c name e none).0 (same ∙ is_own b new) (fits.named index a old)

    equal_bytes : (a b : ℕ) → are_same p.names a b ≡ true → name_at p.names a ≡ name_at p.names b
    equal_bytes a b same = (bytes_eq-Decides (name_at p.names a) (name_at p.names b)).0 same

    new_apart : (i j a b : ℕ) → W i a → W j b → are_same p.names a b ≡ true → i ≡ j
    new_apart i j a b first second same =
        elim (less i a first) [
          | inl old ↦
              elim (less j b second) [
                | inl other ↦ fits.apart i j a b old other same
                | inr new ↦ absurd (differ i a b old new.1 (equal_bytes a b same))
              ]
          | inr new ↦
              elim (less j b second) [
                | inl other ↦ absurd (differ j b a other new.1 (sym (equal_bytes a b same)))
                | inr own ↦ new.0 ∙ sym own.0
              ]
        ]

    entity_fits : SetsFit W (with_entity name.bytes e c.scope)
    entity_fits = record {
      known = all_then (λ x. EntityStands W x.1) c.scope.visible (name.bytes, e) (all_stand V W more c.scope.visible fits.known) stands;
      named = λ index own is. subst (IsAmong (name_at p.names own)) (sym (map-append (λ x. x.0) c.scope.visible ((name.bytes, e) ∷ []))) (new_named index own is);
      apart = new_apart;
    }

    is_entity : (declared_in c name e).value.scope ≡ with_entity name.bytes e c.scope
    is_entity =
        let o = found name.bytes c.scope.visible in
        declared_over_is o name e c.scope (no_left (declared_over o name e c.scope).faults [] none)

    pub declared_sets : SetsFit W (declared_in c name e).value.scope
    declared_sets = subst (λ scope. SetsFit W scope) (sym is_entity) entity_fits

    pub declared_count : (declared_in c name e).value.scope.sets ≡ c.scope.sets + sets_of e
    declared_count = ap (λ (scope : ScopeTree). scope.sets) is_entity

  -- in main: the names of the sets by their indices, and what edge functions write
  abbrev pub AreWritten : List (List (ℕ × Reduction)) → Type 0
  AreWritten written = (function vector : ℕ) → writes_vector written function vector ≡ true → Contains (function_writes p.edge_functions function) vector

  -- so many edge functions came before
  abbrev pub WrittenFits : (count : ℕ) → List (List (ℕ × Reduction)) → Type 0
  WrittenFits count written = (length written ≡ count) × AreWritten written

  pub record MainFits (functions : ℕ) (names : SetNames) (c : CheckerTree) : Type 0 where
    pub sets : SetsFit (InNames names) c.scope
    pub count : c.scope.sets ≡ length names
    pub low : length p.sets ≤ length names
    pub written : WrittenFits functions c.written

  -- what holds of a statement
  abbrev pub Holds : SetNames → StatementKindTree → Type 0
  Holds names a = NamesSets p names a × AsksForWritten p a

  -- what is visible after statements
  abbrev all_after : BlockTree → SetNames → SetNames
  all_after Empty names = names
  all_after (Then number label action others) names = all_after others (names_after action names)

  abbrev Stands : SetNames → Entity → Type 0
  Stands names e = EntityStands (InNames names) e

  module _ (functions : ℕ) where
    main_used : (names : SetNames) (c : CheckerTree) (name : Identifier) → MainFits functions names c → Stands names (used_name c.scope name).value
    main_used names c name fits = used_among (Stands names) tt name c.scope.visible fits.sets.known

    abbrev MaybeVisible : SetNames → Option VarRef → Type 0
    MaybeVisible names None = Unit {0}
    MaybeVisible names (Some slot) = IsVisible names slot

    named_visible : (names : SetNames) (e : Entity) → Stands names e → MaybeVisible names (entity_set e)
    named_visible names (entity.ConstantSet slot) is = is
    named_visible names (entity.SetVariable slot) is = is.0
    named_visible names _ is = tt

    end_named : (names : SetNames) (e : Entity) → Stands names e → EndIsVisible names (given_filter (filter_named e))
    end_named names (entity.ConstantSet slot) is = is
    end_named names (entity.SetVariable slot) is = is.0
    end_named names (entity.Filter index) is = tt
    end_named names _ is = tt

    main_end : (names : SetNames) (c : CheckerTree) (name : Option Identifier) → MainFits functions names c → EndIsVisible names (given_filter (apply_end_of c.scope name).value)
    main_end names c None fits = tt
    main_end names c (Some name) fits = end_named names (used_name c.scope name).value (main_used names c name fits)

    -- initial values
    abbrev InitializerStands : SetNames → InitializerTree → Type 0
    InitializerStands names (Typed x) = Unit {0}
    InitializerStands names (Members s) = ValueIsVisible names s × ValueAsksForWritten p s
    InitializerStands names Loaded = Unit {0}
    InitializerStands names Degrees = Unit {0}
    InitializerStands names ErrorInitializer = Unit {0}

    if_initializer : (names : SetNames) (b : Bool) (x y : WithFaults InitializerTree) → (b ≡ true → InitializerStands names x.value) → InitializerStands names y.value
        → InitializerStands names (if b then x else y).value
    if_initializer names true x y first other = first refl
    if_initializer names false x y first other = other

    of_edges_stands : (names : SetNames) (at : ℕ) (x : InitializerTree) (e : Entity) → InitializerStands names x → InitializerStands names (of_edges at x e).value
    of_edges_stands names at x e is = if_initializer names (names_error e) _ _ (λ b. tt) (if_initializer names (is_edges e) _ _ (λ b. is) tt)

    filtered_by_stands : (names : SetNames) (at : ℕ) (slot : Option VarRef) (index : Option ℕ) → MaybeVisible names slot → InitializerStands names (filtered_by at slot index).value
    filtered_by_stands names at None index is = tt
    filtered_by_stands names at (Some slot) None is = tt
    filtered_by_stands names at (Some slot) (Some index) is = (is, tt)

    filtered_stands : (names : SetNames) (at : ℕ) (s f : Entity) → Stands names s → InitializerStands names (filtered_set at s f).value
    filtered_stands names at s f is =
        if_initializer names (names_error s || names_error f) _ _ (λ b. tt) (filtered_by_stands names at (entity_set s) (filter_function f) (named_visible names s is))

    modified_by_stands : (names : SetNames) (c : CheckerTree) (at : ℕ) (ends : ApplyEnds) (function vector : Option ℕ) → EndsAreVisible names ends → WrittenFits functions c.written
        → InitializerStands names (modified_by c at ends function vector).value
    modified_by_stands names c at ends None vector visible written = tt
    modified_by_stands names c at ends (Some function) None visible written = tt
    modified_by_stands names c at ends (Some function) (Some vector) visible written =
        if_initializer names (writes_vector c.written function vector) _ _ (λ b. (visible, written.1 function vector b)) tt

    modified_stands : (names : SetNames) (c : CheckerTree) (at : ℕ) (e : Entity) (a b : ApplyEndTree) (f x : Entity) → EndIsVisible names (given_filter a) → EndIsVisible names (given_filter b)
        → WrittenFits functions c.written → InitializerStands names (initial_modified c at e a b f x).value
    modified_stands names c at e a b f x from to written =
        if_initializer names (names_error e || is_error_end a || is_error_end b || names_error f || names_error x) _ _ (λ is. tt)
        (if_initializer names (is_edges e) _ _
        (λ is. if_initializer names (is_wrong a || is_wrong b || lacks_weights e f) _ _ (λ wrong. tt)
        (modified_by_stands names c at (ends_given a b) (edge_function f) (vector_of x) (from, to) written)) tt)

    new_set_stands : (names : SetNames) (at : ℕ) (n : ℤ) → InitializerStands names (new_set at n).value
    new_set_stands names at (pos zero) = (tt, tt)
    new_set_stands names at (pos (suc n)) = tt
    new_set_stands names at (negsuc n) = tt

    loaded_stands : (names : SetNames) (at : ℕ) (n : ℤ) → InitializerStands names (loaded at n).value
    loaded_stands names at (pos zero) = tt
    loaded_stands names at (pos (suc zero)) = tt
    loaded_stands names at (pos (suc (suc n))) = tt
    loaded_stands names at (negsuc n) = tt

    initializer_stands : (names : SetNames) (c : CheckerTree) (at : ℕ) → MainFits functions names c → (initial : InitialTree) → InitializerStands names (initializer_of c at initial).value
    initializer_stands names c at fits (source.NewSet size) = new_set_stands names at size
    initializer_stands names c at fits (source.Load argument) = loaded_stands names at argument
    initializer_stands names c at fits (source.Vertices edges) = of_edges_stands names at (Members set.All) (used_name c.scope edges).value (tt, tt)
    initializer_stands names c at fits (source.OutDegrees edges) = of_edges_stands names at Degrees (used_name c.scope edges).value tt
    initializer_stands names c at fits (source.Filter s f) = filtered_stands names at (used_name c.scope s).value (used_name c.scope f).value (main_used names c s fits)
    initializer_stands names c at fits (source.ApplyModified edges ends f x) =
        modified_stands names c at (used_name c.scope edges).value (apply_end_of c.scope ends.from).value (apply_end_of c.scope ends.to).value (used_name c.scope f).value (used_name c.scope x).value
        (main_end names c ends.from fits) (main_end names c ends.to fits) fits.written
    initializer_stands names c at fits (source.Value e) = tt

    members_of_value : (names : SetNames) (at : ℕ) (x : ValueTree) → ValueIsVisible names (as_members at x).value × ValueAsksForWritten p (as_members at x).value
    members_of_value names at (value.Integer e) = (tt, tt)
    members_of_value names at (value.Condition c) = (tt, tt)
    members_of_value names at (value.Vertex e) = (tt, tt)
    members_of_value names at (value.Set slot) = (tt, tt)
    members_of_value names at value.ErrorValue = (tt, tt)

    members_stand : (names : SetNames) (at : ℕ) (x : InitializerTree) → InitializerStands names x
        → ValueIsVisible names (initializer_members at x).value × ValueAsksForWritten p (initializer_members at x).value
    members_stand names at (Typed x) is = members_of_value names at x
    members_stand names at (Members s) is = is
    members_stand names at Loaded is = (tt, tt)
    members_stand names at Degrees is = (tt, tt)
    members_stand names at ErrorInitializer is = (tt, tt)

    -- a statement that declares nothing and has no block
    abbrev Plain : SetNames → StatementKindTree → Type 0
    Plain names a = (SetsAreVisible p names a × AsksForWritten p a) × HoldsInside Holds names a × (names_after a names ≡ names)

    if_plain : (names : SetNames) (b : Bool) (x y : WithFaults StatementKindTree) → Plain names x.value → Plain names y.value → Plain names (if b then x else y).value
    if_plain names true x y first other = first
    if_plain names false x y first other = other

    assigned_plain : (names : SetNames) (at : ℕ) (initializer : InitializerTree) (e : Entity) → InitializerStands names initializer → Stands names e → Plain names (assigned at initializer e).value
    assigned_plain names at initializer (entity.SetVariable slot) value is =
        let members = members_stand names at initializer value in (((is, members.0), members.1), tt, refl)
    assigned_plain names at initializer _ value is = ((tt, tt), tt, refl)

    reduced_plain : (names : SetNames) (at : ℕ) (by : Reduction) (x : ValueTree) (e : Entity) → Plain names (reduced at by x e).value
    reduced_plain names at by x (entity.Edges weights) = ((tt, tt), tt, refl)
    reduced_plain names at by x _ = ((tt, tt), tt, refl)

    added_plain : (names : SetNames) (at : ℕ) (x : ValueTree) (e : Entity) → Stands names e → Plain names (added_to_set at x e).value
    added_plain names at x (entity.SetVariable slot) is = ((is, tt), tt, refl)
    added_plain names at x _ is = ((tt, tt), tt, refl)

    set_plain : (names : SetNames) (vector : Option ℕ) (subscript : Option IntExpressionTree) (e : IntExpressionTree) → Plain names (entry_set vector subscript e)
    set_plain names None subscript e = ((tt, tt), tt, refl)
    set_plain names (Some vector) None e = ((tt, tt), tt, refl)
    set_plain names (Some vector) (Some subscript) e = ((tt, tt), tt, refl)

    entry_plain : (names : SetNames) (vector : Option ℕ) (subscript : Option IntExpressionTree) (by : Reduction) (e : IntExpressionTree) → Plain names (entry_reduced vector subscript by e)
    entry_plain names None subscript by e = ((tt, tt), tt, refl)
    entry_plain names (Some vector) None by e = ((tt, tt), tt, refl)
    entry_plain names (Some vector) (Some subscript) by e = ((tt, tt), tt, refl)

    printed_plain : (names : SetNames) (at : ℕ) (x : ValueTree) → Plain names (printed at x).value
    printed_plain names at (value.Integer e) = ((tt, tt), tt, refl)
    printed_plain names at (value.Condition c) = ((tt, tt), tt, refl)
    printed_plain names at (value.Vertex e) = ((tt, tt), tt, refl)
    printed_plain names at (value.Set slot) = ((tt, tt), tt, refl)
    printed_plain names at value.ErrorValue = ((tt, tt), tt, refl)

    edges_plain : (names : SetNames) (at : ℕ) (a b : ApplyEndTree) (error : Bool) (function : Option ℕ) → EndIsVisible names (given_filter a) → EndIsVisible names (given_filter b)
        → Plain names (edges_applied at a b error function).value
    edges_plain names at a b true None from to = ((tt, tt), tt, refl)
    edges_plain names at a b false None from to = ((tt, tt), tt, refl)
    edges_plain names at a b error (Some function) from to = if_plain names (is_error_end a || is_error_end b) _ _ ((tt, tt), tt, refl) (((from, to), tt), tt, refl)

    vertices_plain : (names : SetNames) (at : ℕ) (slot : VarRef) (error : Bool) (function : Option ℕ) → IsVisible names slot → Plain names (vertices_applied at slot error function).value
    vertices_plain names at slot true None is = ((tt, tt), tt, refl)
    vertices_plain names at slot false None is = ((tt, tt), tt, refl)
    vertices_plain names at slot error (Some function) is = ((is, tt), tt, refl)

    set_applied_plain : (names : SetNames) (at : ℕ) (ends : Bool) (f : Entity) (slot : Option VarRef) → MaybeVisible names slot → Plain names (set_applied at ends f slot).value
    set_applied_plain names at ends f None is = ((tt, tt), tt, refl)
    set_applied_plain names at ends f (Some slot) is =
        if_plain names ends _ _ ((tt, tt), tt, refl) (vertices_plain names at slot (names_error f) (vertex_function f) is)

    applied_plain : (names : SetNames) (at : ℕ) (t : Entity) (a b : ApplyEndTree) (ends : Bool) (f : Entity) → Stands names t → EndIsVisible names (given_filter a)
        → EndIsVisible names (given_filter b)
        → Plain names (applied at t a b ends f).value
    applied_plain names at t a b ends f target from to =
        if_plain names (names_error t) _ _ ((tt, tt), tt, refl) (if_plain names (is_edges t) _ _
        (if_plain names (is_wrong a || is_wrong b || lacks_weights t f) _ _ ((tt, tt), tt, refl) (edges_plain names at a b (names_error f) (edge_function f) from to))
        (set_applied_plain names at ends f (entity_set t) (named_visible names t target)))

    each_then : (names : SetNames) (so_far : BlockTree) (number : ℕ) (label : Option ℕ) (action : StatementKindTree) → HoldsOfEach Holds names so_far → Holds (all_after so_far names) action
        → HoldsInside Holds (all_after so_far names) action → HoldsOfEach Holds names (then_statement so_far number label action)
    each_then names Empty number label action all own inner = (own, inner, tt)
    each_then names (Then n l a others) number label action all own inner = (all.0, all.1, each_then (names_after a names) others number label action all.2 own inner)

    after_then : (names : SetNames) (so_far : BlockTree) (number : ℕ) (label : Option ℕ) (action : StatementKindTree)
        → all_after (then_statement so_far number label action) names ≡ names_after action (all_after so_far names)
    after_then names Empty number label action = refl
    after_then names (Then n l a others) number label action = after_then (names_after a names) others number label action

    abbrev ActionFits : SetNames → StatementKindTree × CheckerTree → Type 0
    ActionFits names r = Holds names r.0 × HoldsInside Holds names r.0 × MainFits functions (names_after r.0 names) r.1

    abbrev pub BlockFits : SetNames → BlockTree × CheckerTree → Type 0
    BlockFits names r = HoldsOfEach Holds names r.0 × MainFits functions (all_after r.0 names) r.1

    plain_fits : (names : SetNames) (c : CheckerTree) (a : StatementKindTree) → MainFits functions names c → Plain names a → ActionFits names (a, c)
    plain_fits names c a fits plain = (((fits.sets.apart, plain.0.0), plain.0.1), plain.1, subst (λ ns. MainFits functions ns c) (sym plain.2) fits)

    -- a name that is no set's
    pub other_declared : (names : SetNames) (c : CheckerTree) (name : Identifier) (e : Entity) → (declared_in c name e).faults ≡ [] → Begins (declared_in c name e).value.names p.names
        → EntityStands (InNames names) e → sets_of e ≡ 0 → MainFits functions names c → MainFits functions names (declared_in c name e).value
    other_declared names c name e none begins stands no_set fits =
        let there = begins (length c.names) name.bytes (get_last c.names name.bytes []) in
        let count = declared_count (InNames names) (InNames names) c name e none there fits.sets (λ k a is. is) 0 (λ k a is. inl is) stands in
        record {
          sets = declared_sets (InNames names) (InNames names) c name e none there fits.sets (λ k a is. is) 0 (λ k a is. inl is) stands;
          count = count ∙ ap (λ n. c.scope.sets + n) no_set ∙ (omega arith) ∙ fits.count;
          low = fits.low;
          written = fits.written;
        }

    -- a set
    last_or_before : (names : SetNames) (new index name : ℕ) → InNames (names ++ Some new ∷ []) index name → InNames names index name ⊎ ((index ≡ length names) × (name ≡ new))
    last_or_before names new index name is =
        elim (get_cases names (Some new) index (Some name) is) [ inl h ↦ inl h | inr h ↦ inr (h.0, same_Some name new h.1) ]

    set_declared : (names : SetNames) (c : CheckerTree) (name : Identifier) → (declared_in c name (entity.SetVariable (set_slot c))).faults ≡ []
        → Begins (declared_in c name (entity.SetVariable (set_slot c))).value.names p.names → MainFits functions names c
        → MainFits functions (names ++ Some (length c.names) ∷ []) (declared_in c name (entity.SetVariable (set_slot c))).value
    set_declared names c name none begins fits =
        let e = entity.SetVariable (set_slot c) in
        let new = length c.names in
        let V = InNames names in
        let W = InNames (names ++ Some new ∷ []) in
        let there = begins (length c.names) name.bytes (get_last c.names name.bytes []) in
        let more = λ (k a : ℕ) (is : V k a). get_before names (Some new ∷ []) k (Some a) is in
        let count : c.scope.sets ≡ length names = fits.count in
        let low : length p.sets ≤ length names = fits.low in
        let index : W c.scope.sets new = ap (λ k. slice_get (names ++ Some new ∷ []) k) count ∙ get_last names (Some new) [] in
        let stands : EntityStands W e = (index, omega arith) in
        let counted = declared_count V W c name e none there fits.sets more (length names) (last_or_before names new) stands in
        record {
          sets = declared_sets V W c name e none there fits.sets more (length names) (last_or_before names new) stands;
          count = omega (arith, counted, count, length-append names (Some new ∷ []));
          low = omega (arith, low, length-append names (Some new ∷ []));
          written = fits.written;
        }

    declare_fits : (names : SetNames) (c : CheckerTree) (at : ℕ) (name : Identifier) (initializer : InitializerTree) (type : DeclaredType) → (declare_as c at name initializer type).faults ≡ []
        → Begins (declare_as c at name initializer type).value.1.names p.names → MainFits functions names c → InitializerStands names initializer
        → ActionFits names (declare_as c at name initializer type).value
    declare_fits names c at name initializer declared.Int none begins fits value =
        let e = entity.IntVariable (integer_slot c) in
        let left = no_left (declared_in c name e).faults [] (no_right (initializer_integer at initializer).faults _ none) in
        (((fits.sets.apart, tt), tt), tt, other_declared names c name e left begins tt refl fits)
    declare_fits names c at name initializer declared.Bool none begins fits value =
        let e = entity.BoolVariable (condition_slot c) in
        let left = no_left (declared_in c name e).faults [] (no_right (initializer_condition at initializer).faults _ none) in
        (((fits.sets.apart, tt), tt), tt, other_declared names c name e left begins tt refl fits)
    declare_fits names c at name initializer declared.Vertex none begins fits value = absurd (not_empty _ _ none)
    declare_fits names c at name initializer declared.VertexSet none begins fits value =
        let e = entity.SetVariable (set_slot c) in
        let left = no_left (declared_in c name e).faults [] (no_right (initializer_members at initializer).faults _ none) in
        let members = members_stand names at initializer value in
        (((fits.sets.apart, members.0), members.1), tt, set_declared names c name left begins fits)
    declare_fits names c at name initializer declared.Vector none begins fits value = absurd (not_empty _ _ none)
    declare_fits names c at name initializer declared.EdgeSet none begins fits value = absurd (not_empty _ _ none)
    declare_fits names c at name initializer declared.WeightedEdgeSet none begins fits value = absurd (not_empty _ _ none)

    labelled_fits : (names : SetNames) (c : CheckerTree) (label : Option Identifier) → MainFits functions names c → MainFits functions names (with_label c label).value.1
    labelled_fits names c label fits =
        let same = labelled_scope c label in
        record {
          sets = subst (λ scope. SetsFit (InNames names) scope) (sym same) fits.sets;
          count = ap (λ (scope : ScopeTree). scope.sets) same ∙ fits.count;
          low = fits.low;
          written = subst (WrittenFits functions) (sym (labelled_written c label)) fits.written;
        }

    -- after a block
    left_again : (names others : SetNames) (c d : CheckerTree) → MainFits functions names c → MainFits functions others d → MainFits functions names (closed c d)
    left_again names others c d fits inner = record { sets = fits.sets; count = fits.count; low = fits.low; written = inner.written }

    mutual
      action_fits : (names : SetNames) (c : CheckerTree) (action : source.StatementKindTree) → (action_typed c action).faults ≡ [] → Begins (action_typed c action).value.1.names p.names
          → MainFits functions names c
          → ActionFits names (action_typed c action).value
      action_fits names c (source.Declare at x initial) none begins fits =
          let initializer = initializer_of c at initial in
          declare_fits names c at x.name initializer.value x.declared (no_right initializer.faults _ none) begins fits (initializer_stands names c at fits initial)
      action_fits names c (source.While at test body) none begins fits =
          let b = statements_typed c Empty body in
          let inner = statements_fit names c Empty body (no_left b.faults [] (no_right (condition_in c.scope at test).faults _ none)) begins tt fits in
          (((fits.sets.apart, tt), tt), inner.0, left_again names (all_after b.value.0 names) c b.value.1 fits inner.1)
      action_fits names c (source.For at name first limit body) none begins fits =
          let e = entity.LoopVariable (integer_slot c) in
          let d = declared_in c name e in
          let b = statements_typed d.value Empty body in
          let clear = no_right (integer_in c.scope at limit).faults (d.faults ++ (b.faults ++ [])) (no_right (integer_in c.scope at first).faults _ none) in
          let between : Begins d.value.names p.names = λ k x is. begins k x (statements_grow d.value Empty body k x is) in
          let declared_here = other_declared names c name e (no_left d.faults (b.faults ++ []) clear) between tt refl fits in
          let inner = statements_fit names d.value Empty body (no_left b.faults [] (no_right d.faults (b.faults ++ []) clear)) begins tt declared_here in
          (((fits.sets.apart, tt), tt), inner.0, left_again names (all_after b.value.0 names) c b.value.1 fits inner.1)
      action_fits names c (source.If at test body) none begins fits =
          let b = statements_typed c Empty body in
          let inner = statements_fit names c Empty body (no_left b.faults [] (no_right (condition_in c.scope at test).faults _ none)) begins tt fits in
          (((fits.sets.apart, tt), tt), inner.0, left_again names (all_after b.value.0 names) c b.value.1 fits inner.1)
      action_fits names c (source.IfElse at test body otherwise) none begins fits =
          let b = statements_typed c Empty body in
          let d = closed c b.value.1 in
          let o = statements_typed d Empty otherwise in
          let both = no_right (condition_in c.scope at test).faults (b.faults ++ (o.faults ++ [])) none in
          let between : Begins b.value.1.names p.names = λ k x is. begins k x (statements_grow d Empty otherwise k x is) in
          let inner = statements_fit names c Empty body (no_left b.faults (o.faults ++ []) both) between tt fits in
          let again = left_again names (all_after b.value.0 names) c b.value.1 fits inner.1 in
          let other = statements_fit names d Empty otherwise (no_left o.faults [] (no_right b.faults (o.faults ++ []) both)) begins tt again in
          (((fits.sets.apart, tt), tt), (inner.0, other.0), left_again names (all_after o.value.0 names) d o.value.1 again other.1)
      action_fits names c (source.Print at e) none begins fits = plain_fits names c (print c.scope at e).value fits (printed_plain names at (value_of c.scope at e).value)
      action_fits names c (source.Assign name initial) none begins fits =
          plain_fits names c (assign c name.at name initial).value fits
          (assigned_plain names name.at (initializer_of c name.at initial).value (used_name c.scope name).value (initializer_stands names c name.at fits initial) (main_used names c name fits))
      action_fits names c (source.Reduce name by e) none begins fits =
          plain_fits names c (reduce c.scope name.at name by e).value fits (reduced_plain names name.at by (value_of c.scope name.at e).value (used_name c.scope name).value)
      action_fits names c (source.SetEntry vector subscript e) none begins fits =
          plain_fits names c (set_entry c.scope vector.at vector subscript e).value fits
          (set_plain names (vector_index c.scope vector.at vector).value (as_index vector.at (value_of c.scope vector.at subscript).value).value (integer_in c.scope vector.at e).value)
      action_fits names c (source.ReduceEntry vector subscript by e) none begins fits =
          plain_fits names c (reduce_entry c.scope vector.at vector subscript by e).value fits
          (entry_plain names (vector_index c.scope vector.at vector).value (as_index vector.at (value_of c.scope vector.at subscript).value).value by (integer_in c.scope vector.at e).value)
      action_fits names c (source.AddVertex set e) none begins fits =
          plain_fits names c (add_vertex c.scope set.at set e).value fits (added_plain names set.at (value_of c.scope set.at e).value (used_name c.scope set).value (main_used names c set fits))
      action_fits names c (source.Apply target ends function) none begins fits =
          plain_fits names c (apply c.scope target.at target ends function).value fits
          (applied_plain names target.at (used_name c.scope target).value (apply_end_of c.scope ends.from).value (apply_end_of c.scope ends.to).value (has_ends ends) (used_name c.scope function).value
          (main_used names c target fits) (main_end names c ends.from fits) (main_end names c ends.to fits))

      pub statements_fit : (names : SetNames) (c : CheckerTree) (so_far : BlockTree) (block : source.BlockTree) → (statements_typed c so_far block).faults ≡ []
          → Begins (statements_typed c so_far block).value.1.names p.names → HoldsOfEach Holds names so_far → MainFits functions (all_after so_far names) c
          → BlockFits names (statements_typed c so_far block).value
      statements_fit names c so_far source.Empty none begins each fits = (each, fits)
      statements_fit names c so_far (source.Then label action others) none begins each fits =
          let l = with_label c label in
          let d = counted l.value.1 in
          let a = action_typed d action in
          let number = suc l.value.1.statements in
          let next = then_statement so_far number l.value.0 a.value.0 in
          let rest = statements_typed a.value.1 next others in
          let here = all_after so_far names in
          let both = no_right l.faults (a.faults ++ rest.faults) none in
          let between : Begins a.value.1.names p.names = λ k x is. begins k x (statements_grow a.value.1 next others k x is) in
          let labels = labelled_fits here c label fits in
          let again : MainFits functions here d = record { sets = labels.sets; count = labels.count; low = labels.low; written = labels.written } in
          let first = action_fits here d action (no_left a.faults rest.faults both) between again in
          statements_fit names a.value.1 next others (no_right a.faults rest.faults both) begins
          (each_then names so_far number l.value.0 a.value.0 each first.0 first.1)
          (subst (λ ns. MainFits functions ns a.value.1) (sym (after_then names so_far number l.value.0 a.value.0)) first.2)
