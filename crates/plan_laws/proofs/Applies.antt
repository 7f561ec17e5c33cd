-- What is known of the applies of a checked program.
use Rattle.std.proofs.Common.{◌≡◌, refl, ap, sym, ◌∙◌, inl, inr, ◌⊎◌, ℕ, ◌≤◌, [], ◌∷◌, ◌++◌, length, Option, Some, None}
use Rattle.std.specs.Prelude.{slice_get}
use Rattle.std.specs.List.{Contains}
use Rattle.std.proofs.lemmas.Option.{none-some, same_Some}
use Rattle.typed_tree.specs.declared.expression.VarRef.{VarRef}
use Rattle.typed_tree.specs.declared.statement.SetValue.{SetValue}
use Rattle.typed_tree.specs.declared.statement.SetValue.TheVariants as set
use Rattle.typed_tree.specs.declared.statement.VertexFilter.{VertexFilter}
use Rattle.typed_tree.specs.declared.statement.VertexFilter.TheVariants as filter
use Rattle.typed_tree.specs.declared.apply.StatementApply.{StatementApply}
use Rattle.typed_tree.specs.declared.apply.StatementApply.TheVariants.{Vertices, Edges}
use Rattle.typed_tree.specs.Independence.{function_writes}
use Rattle.typed_tree.specs.BlockTree.{StatementKindTree, Simple, DeclareSet, AssignSet, ApplyVertex, ApplyEdges}
use Rattle.typed_tree.specs.ProgramTree.{ProgramTree}
use Rattle.typed_tree.specs.Resolved.{VisibleTree, ActionIsResolved, EndsAreResolved, after_action}
use Rattle.schedule.specs.Schedule.{apply_of, modifying_as}
use Rattle.algorithm_meaning.specs.declared.state.Depth.{Depth}
use Rattle.plans.specs.Instruction.{ResultTree, Dropped, Declared, Assigned, EdgePartTree}
use Rattle.plans.specs.Fusing.{EdgeApplyTree, VertexApplyTree, apply_tree, edge_apply_of, vertex_apply_of}
use Rattle.type_laws.specs.AskedVectors.{AsksForWritten}
use Rattle.type_laws.specs.EachStatement.{SetNames, names_after}
use Rattle.type_laws.specs.VisibleSets.{EndIsVisible, EndsAreVisible, IsVisible, SetsAreVisible, ValueIsVisible}
use Rattle.type_laws.proofs.ResolvedScopes.{get_before, get_last}

-- what is visible stays so after a statement
pub stays_visible : (a : StatementKindTree) (names : SetNames) (k : ℕ) (x : Option ℕ) → slice_get names k ≡ Some x → slice_get (names_after a names) k ≡ Some x
stays_visible (Simple (DeclareSet name value)) names k x is = get_before names (Some name ∷ []) k x is
stays_visible _ names k x is = is

end_stays : (a : StatementKindTree) (names : SetNames) (end : Option VertexFilter) → EndIsVisible names end → EndIsVisible (names_after a names) end
end_stays a names None visible = tt
end_stays a names (Some (filter.Members slot)) visible = stays_visible a names slot.index (Some slot.name) visible
end_stays a names (Some (filter.Function index)) visible = tt

value_stays : (a : StatementKindTree) (names : SetNames) (value : SetValue) → ValueIsVisible names value → ValueIsVisible (names_after a names) value
value_stays a names (set.Filter slot index) visible = stays_visible a names slot.index (Some slot.name) visible
value_stays a names (set.Modified ends function vector) visible = (end_stays a names ends.from visible.0, end_stays a names ends.to visible.1)
value_stays a names _ visible = tt

-- what a statement speaks of is visible after it too
pub sets_stay : (p : ProgramTree) (a : StatementKindTree) (names : SetNames) → SetsAreVisible p names a → SetsAreVisible p (names_after a names) a
sets_stay p (Simple (DeclareSet name value)) names visible = value_stays (Simple (DeclareSet name value)) names value visible
sets_stay p _ names visible = visible

module _ (p : ProgramTree) where
  -- the set that gets what an apply changed stands at its index after the statement, and is a variable
  abbrev pub ResultStands : VisibleTree → Depth → ResultTree → Type 0
  ResultStands behind d Dropped = Unit {0}
  ResultStands behind d (Declared name vector) = (slice_get behind.sets d.sets ≡ Some name) × (length p.sets ≤ d.sets)
  ResultStands behind d (Assigned slot vector) = (slice_get behind.sets slot.index ≡ Some slot.name) × (length p.sets ≤ slot.index)

  -- its vector is one that the edge function writes
  abbrev pub ResultIsWritten : (function : ℕ) → ResultTree → Type 0
  ResultIsWritten function Dropped = Unit {0}
  ResultIsWritten function (Declared name vector) = Contains (function_writes p.edge_functions function) vector
  ResultIsWritten function (Assigned slot vector) = Contains (function_writes p.edge_functions function) vector

  pub record IsEdgeApply (v : VisibleTree) (names : SetNames) (a : StatementKindTree) (x : StatementApply) : Type 0 where
    pub apply : EdgeApplyTree
    pub is : edge_apply_of a ≡ Some apply
    pub tree : x ≡ apply_tree apply
    pub resolved : EndsAreResolved p v apply.ends
    pub visible : EndsAreVisible names apply.ends
    pub written : ResultIsWritten apply.part.function apply.part.result
    pub stands : (d : Depth) → d.sets ≡ length v.sets → length p.sets ≤ d.sets → ResultStands (after_action a v) d apply.part.result

  pub record IsVertexApply (names : SetNames) (a : StatementKindTree) (x : StatementApply) : Type 0 where
    pub apply : VertexApplyTree
    pub is : vertex_apply_of a ≡ Some apply
    pub no_edges : edge_apply_of a ≡ None
    pub tree : x ≡ Vertices apply.set apply.function
    pub visible : IsVisible names apply.set

  abbrev pub IsApply : VisibleTree → SetNames → StatementKindTree → StatementApply → Type 0
  IsApply v names a x = IsEdgeApply v names a x ⊎ IsVertexApply names a x

  declared_apply : (v : VisibleTree) (names : SetNames) (name : ℕ) (value : SetValue) (x : StatementApply) → modifying_as name value ≡ Some x
      → ActionIsResolved p v (Simple (DeclareSet name value)) → SetsAreVisible p names (Simple (DeclareSet name value))
      → AsksForWritten p (Simple (DeclareSet name value)) → IsApply v names (Simple (DeclareSet name value)) x
  declared_apply v names name (set.Modified ends function vector) x is resolved visible asks =
      let part : EdgePartTree = record { function = function; result = Declared name vector } in
      inl (record {
        apply = record { ends = ends; part = part };
        is = refl;
        tree = sym (same_Some (Edges ends function (Some name)) x is);
        resolved = resolved.1.0;
        visible = visible;
        written = asks;
        stands = λ d deep low. (ap (λ k. slice_get (v.sets ++ name ∷ []) k) deep ∙ get_last v.sets name [], low);
      })
  declared_apply v names name _ x is resolved visible asks = absurd (none-some x is)

  assigned_apply : (v : VisibleTree) (names : SetNames) (slot : VarRef) (value : SetValue) (x : StatementApply) → modifying_as slot.name value ≡ Some x
      → ActionIsResolved p v (Simple (AssignSet slot value)) → SetsAreVisible p names (Simple (AssignSet slot value))
      → AsksForWritten p (Simple (AssignSet slot value)) → IsApply v names (Simple (AssignSet slot value)) x
  assigned_apply v names slot (set.Modified ends function vector) x is resolved visible asks =
      let part : EdgePartTree = record { function = function; result = Assigned slot vector } in
      inl (record {
        apply = record { ends = ends; part = part };
        is = refl;
        tree = sym (same_Some (Edges ends function (Some slot.name)) x is);
        resolved = resolved.1.0;
        visible = visible.1;
        written = asks;
        stands = λ d deep low. (resolved.0.0, visible.0.1);
      })
  assigned_apply v names slot _ x is resolved visible asks = absurd (none-some x is)

  pub statement_apply : (v : VisibleTree) (names : SetNames) (a : StatementKindTree) (x : StatementApply) → apply_of a ≡ Some x → ActionIsResolved p v a → SetsAreVisible p names a → AsksForWritten p a
      → IsApply v names a x
  statement_apply v names (Simple (ApplyVertex set function)) x is resolved visible asks =
      inr (record {
        apply = record { set = set; function = function };
        is = refl;
        no_edges = refl;
        tree = sym (same_Some (Vertices set function) x is);
        visible = visible;
      })
  statement_apply v names (Simple (ApplyEdges ends function)) x is resolved visible asks =
      let part : EdgePartTree = record { function = function; result = Dropped } in
      inl (record {
        apply = record { ends = ends; part = part };
        is = refl;
        tree = sym (same_Some (Edges ends function None) x is);
        resolved = resolved.0;
        visible = visible;
        written = tt;
        stands = λ d deep low. tt;
      })
  statement_apply v names (Simple (DeclareSet name value)) x is resolved visible asks = declared_apply v names name value x is resolved visible asks
  statement_apply v names (Simple (AssignSet slot value)) x is resolved visible asks = assigned_apply v names slot value x is resolved visible asks
  statement_apply v names _ x is resolved visible asks = absurd (none-some x is)
