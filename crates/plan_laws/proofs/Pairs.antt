-- Two statements that an accepted schedule fuses fit.
use Rattle.std.proofs.Common.{◌≡◌, ◌≢◌, refl, ap, sym, subst, ◌∙◌, inl, inr, ℕ, ◌<◌, ◌≤◌, nat_eq, Bool, true, false, if◌then◌else◌, List, [], ◌∷◌, ◌++◌, length, arith, Option, Some, None}
use Rattle.std.specs.Prelude.{slice_get}
use Rattle.std.specs.List.{AllByRecursion, Contains}
use Rattle.std.proofs.lemmas.Bool.{and_from, and_parts, both_ways, eq-eqb, eqb-true}
use Rattle.std.proofs.lemmas.Option.{same_Some}
use Rattle.std.proofs.lemmas.Slice.Eq.{bytes_eq-Decides}
use Rattle.typed_tree.specs.declared.expression.VarRef.{VarRef}
use Rattle.typed_tree.specs.declared.statement.VertexFilter.{VertexFilter}
use Rattle.typed_tree.specs.declared.statement.VertexFilter.TheVariants as filter
use Rattle.typed_tree.specs.declared.apply.StatementApply.{StatementApply}
use Rattle.typed_tree.specs.declared.apply.StatementApply.TheVariants.{Vertices}
use Rattle.typed_tree.specs.Independence.{are_apart, function_uses, function_writes, are_same, are_same_ends, have_same_sets, is_end_of_name, name_at}
use Rattle.typed_tree.specs.BlockTree.{StatementKindTree}
use Rattle.typed_tree.specs.ProgramTree.{ProgramTree}
use Rattle.typed_tree.specs.Resolved.{VisibleTree, EndIsResolved, EndsAreResolved, IsResolved, after_action}
use Rattle.schedule.specs.Laws.{IsIndependent}
use Rattle.schedule.proofs.Uses.{nothing_in_common}
use Rattle.algorithm_meaning.specs.declared.state.Depth.{Depth}
use Rattle.plans.specs.Instruction.{OperationTree, ApplyEdgesTogether, ApplyVerticesTogether, ResultTree, Dropped, Declared, Assigned}
use Rattle.plans.specs.Fusing.{EdgeApplyTree, VertexApplyTree, apply_tree, edge_apply_of, edges_fit, fused_edges, either, end_sets, function_sizes, is_same_end, result_name, result_indices}
use Rattle.plans.specs.Fusing.{result_vectors, sets_read, together, vertex_apply_of, vertices_fit, fused_vertices}
use Rattle.type_laws.specs.EachStatement.{SetNames}
use Rattle.type_laws.specs.VisibleSets.{HaveDistinctNames, EndIsVisible, IsVisible}
use Rattle.plan_laws.specs.OneInstruction.{AreTogether}
use Rattle.plan_laws.proofs.Apart.{apart_from, apart_from_none, apart_from_one, independent, one_apart, writes_apart}
use Rattle.plan_laws.proofs.Applies.{IsApply, IsEdgeApply, IsVertexApply, ResultIsWritten, ResultStands}
use Rattle.plan_laws.proofs.Sizes.{AreConstant, all_two, edge_function_constant, filter_constant, vertex_function_local}

-- one operation does both
pub record OneDoes (p : ProgramTree) (d : Depth) (a b : StatementKindTree) : Type 0 where
  pub operation : OperationTree
  pub is : together p d a b ≡ Some operation
  pub does : AreTogether a b operation

-- visible sets with the same name stand at the same index
same_set : (p : ProgramTree) (names : SetNames) (a b : VarRef) → HaveDistinctNames p names → IsVisible names a → IsVisible names b → are_same p.names a.name b.name ≡ true
    → nat_eq a.index b.index ≡ true
same_set p names a b apart first second same = eq-eqb a.index b.index (apart a.index b.index a.name b.name first second same)

same_end : (p : ProgramTree) (names : SetNames) (a b : Option VertexFilter) → HaveDistinctNames p names → EndIsVisible names a → EndIsVisible names b
    → are_same_ends p.names a b ≡ true → is_same_end a b ≡ true
same_end p names None None apart first second same = refl
same_end p names None (Some b) apart first second same = cc
same_end p names (Some (filter.Members a)) None apart first second same = cc
same_end p names (Some (filter.Members a)) (Some (filter.Members b)) apart first second same = same_set p names a b apart first second same
same_end p names (Some (filter.Members a)) (Some (filter.Function g)) apart first second same = cc
same_end p names (Some (filter.Function f)) None apart first second same = cc
same_end p names (Some (filter.Function f)) (Some (filter.Members b)) apart first second same = cc
same_end p names (Some (filter.Function f)) (Some (filter.Function g)) apart first second same = same

module _ (p : ProgramTree) (all : IsResolved p) where
  names_same : (a b : ℕ) → a ≡ b → are_same p.names a b ≡ true
  names_same a b same = (bytes_eq-Decides (name_at p.names a) (name_at p.names b)).1 (ap (name_at p.names) same)

  constants_below : (index : ℕ) (xs : List ℕ) → length p.sets ≤ index → AreConstant p xs → AllByRecursion (λ x. x ≢ index) xs
  constants_below index [] low all = tt
  constants_below index (x ∷ xs) low all =
      let below : x < length p.sets = all.0 in
      ((λ same. absurd (omega (arith, same, below, low))), constants_below index xs low all.1)

  -- an end depends on no set at this index, where it is not the set of this name that stands there
  end_apart : (v : VisibleTree) (index name : ℕ) → slice_get v.sets index ≡ Some name → length p.sets ≤ index → (end : Option VertexFilter) → EndIsResolved p v end
      → is_end_of_name p.names (Some name) end ≡ false → AllByRecursion (λ x. x ≢ index) (end_sets p.filters end)
  end_apart v index name at low None resolved other = tt
  end_apart v index name at low (Some (filter.Members slot)) resolved other = (
    λ same. both_ways (are_same p.names name slot.name) other
        (names_same name slot.name (same_Some name slot.name (sym at ∙ ap (slice_get v.sets) (sym same) ∙ resolved.0))),
    tt,
  )
  end_apart v index name at low (Some (filter.Function function)) resolved other =
      constants_below index (function_sizes p.filters function) low (filter_constant p all.filters function)

  reads_apart : (v : VisibleTree) (index name : ℕ) (y : EdgeApplyTree) → slice_get v.sets index ≡ Some name → length p.sets ≤ index → EndsAreResolved p v y.ends
      → is_end_of_name p.names (Some name) y.ends.from ≡ false → is_end_of_name p.names (Some name) y.ends.to ≡ false → are_apart (sets_read p y) (index ∷ []) ≡ true
  reads_apart v index name y at low resolved from to =
      let sizes = function_sizes p.edge_functions y.part.function in
      apart_from_one index (sets_read p y)
      (all_two (λ x. x ≢ index) (end_sets p.filters y.ends.from) (end_sets p.filters y.ends.to ++ sizes) (end_apart v index name at low y.ends.from resolved.0 from)
      (all_two (λ x. x ≢ index) (end_sets p.filters y.ends.to) sizes (end_apart v index name at low y.ends.to resolved.1 to)
      (constants_below index sizes low (edge_function_constant p all.edge_functions y.part.function))))

  -- the second apply depends on no set that gets what the first changed
  result_apart : (v : VisibleTree) (d : Depth) (result : ResultTree) (y : EdgeApplyTree) → ResultStands p v d result → EndsAreResolved p v y.ends
      → is_end_of_name p.names (result_name result) y.ends.from ≡ false → is_end_of_name p.names (result_name result) y.ends.to ≡ false
      → are_apart (sets_read p y) (result_indices d result) ≡ true
  result_apart v d Dropped y stands resolved from to = apart_from_none (sets_read p y)
  result_apart v d (Declared name vector) y stands resolved from to = reads_apart v d.sets name y stands.0 stands.1 resolved from to
  result_apart v d (Assigned slot vector) y stands resolved from to = reads_apart v slot.index slot.name y stands.0 stands.1 resolved from to

  -- no vector that one function writes is written by the other
  module _ (f g : ℕ) (shared_not : (v : ℕ) → Contains (function_uses p.edge_functions g) v → Contains (function_writes p.edge_functions f) v → ⊥) where
    written_not : (v : ℕ) → Contains (function_writes p.edge_functions g) v → Contains (function_writes p.edge_functions f) v → ⊥
    written_not =
        nothing_in_common (function_writes p.edge_functions g) (function_writes p.edge_functions f)
        (writes_apart (slice_get p.edge_functions g) (function_writes p.edge_functions f) (apart_from (function_uses p.edge_functions g) (function_writes p.edge_functions f) shared_not))

    first_apart : (result : ResultTree) → ResultIsWritten p f result → are_apart (result_vectors result) (function_writes p.edge_functions g) ≡ true
    first_apart Dropped written = refl
    first_apart (Declared name vector) written = one_apart vector (function_writes p.edge_functions g) (λ other. written_not vector other written)
    first_apart (Assigned slot vector) written = one_apart vector (function_writes p.edge_functions g) (λ other. written_not vector other written)

    second_apart : (result : ResultTree) → ResultIsWritten p g result → are_apart (result_vectors result) (function_writes p.edge_functions f) ≡ true
    second_apart Dropped written = refl
    second_apart (Declared name vector) written = one_apart vector (function_writes p.edge_functions f) (written_not vector written)
    second_apart (Assigned slot vector) written = one_apart vector (function_writes p.edge_functions f) (written_not vector written)

  -- a statement that has what is known of the first, and one after it
  module _ (v : VisibleTree) (names : SetNames) (d : Depth) (deep : d.sets ≡ length v.sets) (low : length p.sets ≤ d.sets) (apart : HaveDistinctNames p names) (a b : StatementKindTree)
      (one other : StatementApply) where
    fused_edges_do_fit : (x : IsEdgeApply p v names a one) (y : IsEdgeApply p (after_action a v) names b other) → have_same_sets p.names (apply_tree x.apply) (apply_tree y.apply) ≡ true
        → IsIndependent p (apply_tree x.apply) (apply_tree y.apply) → edges_fit p d x.apply y.apply ≡ true
    fused_edges_do_fit x y sets alone =
        let ends = and_parts _ _ sets in
        let f = x.apply.part.function in
        let g = y.apply.part.function in
        and_from _ _
        (and_from _ _ (same_end p names x.apply.ends.from y.apply.ends.from apart x.visible.0 y.visible.0 ends.0)
        (same_end p names x.apply.ends.to y.apply.ends.to apart x.visible.1 y.visible.1 ends.1))
        (and_from _ _ (independent p (apply_tree x.apply) (apply_tree y.apply) alone)
        (and_from _ _ (result_apart (after_action a v) d x.apply.part.result y.apply (x.stands d deep low) y.resolved alone.changes_of_sources alone.changes_of_destinations)
        (and_from _ _ (first_apart f g alone.function x.apply.part.result x.written) (second_apart f g alone.function y.apply.part.result y.written))))

    fused_vertices_do_fit : (x : IsVertexApply p names a one) (y : IsVertexApply p names b other)
        → have_same_sets p.names (Vertices x.apply.set x.apply.function) (Vertices y.apply.set y.apply.function) ≡ true
        → vertices_fit p x.apply y.apply ≡ true
    fused_vertices_do_fit x y same =
        and_from _ _ (same_set p names x.apply.set y.apply.set apart x.visible y.visible same)
        (and_from _ _ (vertex_function_local p all.vertex_functions x.apply.function) (vertex_function_local p all.vertex_functions y.apply.function))

    edges_if : (fits : Bool) (o : OperationTree) (other : Option OperationTree) → fits ≡ true → either (if fits then Some o else None) other ≡ Some o
    edges_if true o other fit = refl
    edges_if false o other fit = cc

    vertices_if : (fits : Bool) (o : OperationTree) → fits ≡ true → (if fits then Some o else None) ≡ Some o
    vertices_if true o fit = refl
    vertices_if false o fit = cc

    edges_do : (x y : EdgeApplyTree) → edge_apply_of a ≡ Some x → edge_apply_of b ≡ Some y → edges_fit p d x y ≡ true → OneDoes p d a b
    edges_do x y is_x is_y fit =
        let o = ApplyEdgesTogether x.ends x.part y.part in
        record {
          operation = o;
          is = ap (λ e. either (fused_edges p d e (edge_apply_of b)) (fused_vertices p (vertex_apply_of a) (vertex_apply_of b))) is_x
              ∙ ap (λ e. either (fused_edges p d (Some x) e) (fused_vertices p (vertex_apply_of a) (vertex_apply_of b))) is_y
              ∙ edges_if (edges_fit p d x y) o (fused_vertices p (vertex_apply_of a) (vertex_apply_of b)) fit;
          does = inl (record {
            one = x;
            other = y;
            first_applies = is_x;
            second_applies = is_y;
            same_sources = (and_parts _ _ (and_parts _ _ fit).0).0;
            same_destinations = (and_parts _ _ (and_parts _ _ fit).0).1;
            does = refl;
          });
        }

    vertices_do : (x y : VertexApplyTree) → edge_apply_of a ≡ None → vertex_apply_of a ≡ Some x → vertex_apply_of b ≡ Some y → vertices_fit p x y ≡ true → OneDoes p d a b
    vertices_do x y none is_x is_y fit =
        let o = ApplyVerticesTogether x.set x.function y.function in
        record {
          operation = o;
          is = ap (λ e. either (fused_edges p d e (edge_apply_of b)) (fused_vertices p (vertex_apply_of a) (vertex_apply_of b))) none
              ∙ ap (λ e. fused_vertices p e (vertex_apply_of b)) is_x ∙ ap (λ e. fused_vertices p (Some x) e) is_y ∙ vertices_if (vertices_fit p x y) o fit;
          does = inr (record {
            one = x;
            other = y;
            first_applies = is_x;
            second_applies = is_y;
            same_set = eqb-true x.set.index y.set.index (and_parts _ _ fit).0;
            does = refl;
          });
        }

    pub fused_do : IsApply p v names a one → IsApply p (after_action a v) names b other → have_same_sets p.names one other ≡ true → IsIndependent p one other → OneDoes p d a b
    fused_do (inl x) (inl y) same alone =
        edges_do x.apply y.apply x.is y.is
        (fused_edges_do_fit x y (subst (λ o. have_same_sets p.names (apply_tree x.apply) o ≡ true) y.tree (subst (λ o. have_same_sets p.names o other ≡ true) x.tree same))
        (subst (λ o. IsIndependent p (apply_tree x.apply) o) y.tree (subst (λ o. IsIndependent p o other) x.tree alone)))
    fused_do (inl x) (inr y) same alone =
        let bad : false ≡ true = subst (λ o. have_same_sets p.names (apply_tree x.apply) o ≡ true) y.tree (subst (λ o. have_same_sets p.names o other ≡ true) x.tree same) in cc
    fused_do (inr x) (inl y) same alone =
        let bad : false ≡ true = subst (λ o. have_same_sets p.names (Vertices x.apply.set x.apply.function) o ≡ true) y.tree (subst (λ o. have_same_sets p.names o other ≡ true) x.tree same) in cc
    fused_do (inr x) (inr y) same alone =
        vertices_do x.apply y.apply x.no_edges x.is y.is
        (fused_vertices_do_fit x y (subst (λ o. have_same_sets p.names (Vertices x.apply.set x.apply.function) o ≡ true) y.tree (subst (λ o. have_same_sets p.names o other ≡ true) x.tree same)))
