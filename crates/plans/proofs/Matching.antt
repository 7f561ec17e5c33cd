-- The edges that two edge applies look at.
use Rattle.std.proofs.Common.{◌≡◌, ℕ, nat_lt, ◌&&◌, true, List, Option, Some, None, slice_get, ap, ◌∙◌, refl}
use Rattle.std.proofs.lemmas.Bool.{eqb-true, and_parts}
use Rattle.std.specs.List.{filter}
use Rattle.typed_tree.specs.declared.statement.VertexFilter.{VertexFilter}
use Rattle.typed_tree.specs.declared.statement.VertexFilter.TheVariants as end
use Rattle.typed_tree.specs.declared.statement.ApplyEnds.{ApplyEnds}
use Rattle.typed_tree.specs.FunctionStatementTree.{FunctionTree}
use Rattle.algorithm_meaning.specs.State.{GraphValue, StateValue}
use Rattle.algorithm_meaning.specs.Value.{members_of}
use Rattle.algorithm_meaning.specs.Function.{steps_of, result_of}
use Rattle.algorithm_meaning.specs.EdgeApply.{is_member, passes, matching}
use Rattle.typed_tree.specs.Independence.{is_none_of, are_apart, end_reads}
use Rattle.typed_tree.specs.inside.Access.{steps_use, steps_use_where, steps_write, steps_write_where}
use Rattle.plans.specs.inside.Fusing.{steps_sizes, steps_sizes_where}
use Rattle.plans.specs.Fusing.{end_sets, is_same_end}
use Rattle.plans.proofs.Beside.{AgreeBut, SetsAgreeBut, result_same}

pub uses_of : (f : Option FunctionTree) → steps_use (steps_of f) ≡ steps_use_where f
uses_of None = refl
uses_of (Some f) = refl

pub writes_of : (f : Option FunctionTree) → steps_write (steps_of f) ≡ steps_write_where f
writes_of None = refl
writes_of (Some f) = refl

pub sizes_of : (f : Option FunctionTree) → steps_sizes (steps_of f) ≡ steps_sizes_where f
sizes_of None = refl
sizes_of (Some f) = refl

module _ (filters : List FunctionTree) (vectors indices : List ℕ) (s t : StateValue) (rows : AgreeBut vectors s.vectors t.vectors) (sets : SetsAgreeBut indices s.sets t.sets) where
  filter_passes : (f : Option FunctionTree) (v : ℕ) → are_apart (steps_use_where f) vectors ≡ true → are_apart (steps_sizes_where f) indices ≡ true
      → result_of (steps_of f) s.sets s.vectors v ≡ result_of (steps_of f) t.sets t.vectors v
  filter_passes f v reads sizes =
      result_same vectors indices s.sets t.sets sets (steps_of f) s.vectors t.vectors rows
      (ap (λ (xs : List ℕ). are_apart xs vectors) (uses_of f) ∙ reads) (ap (λ (xs : List ℕ). are_apart xs indices) (sizes_of f) ∙ sizes) v

  -- an end lets the same vertices through
  passes_same : (a b : Option VertexFilter) (v : ℕ) → is_same_end a b ≡ true → are_apart (end_reads filters b) vectors ≡ true → are_apart (end_sets filters b) indices ≡ true
      → passes filters s a v ≡ passes filters t b v
  passes_same None None v same reads sizes = refl
  passes_same None (Some b) v same reads sizes = cc
  passes_same (Some a) None v same reads sizes = cc
  passes_same (Some (end.Members a)) (Some (end.Members b)) v same reads sizes =
      let own = and_parts (is_none_of b.index indices) true sizes in
      ap (λ (n : ℕ). is_member v (members_of (slice_get s.sets n))) (eqb-true a.index b.index same)
      ∙ ap (is_member v) (sets b.index own.0)
  passes_same (Some (end.Members a)) (Some (end.Function h)) v same reads sizes = cc
  passes_same (Some (end.Function f)) (Some (end.Members b)) v same reads sizes = cc
  passes_same (Some (end.Function f)) (Some (end.Function h)) v same reads sizes =
      ap (λ (n : ℕ). passes filters s (Some (end.Function n)) v) (eqb-true f h same)
      ∙ filter_passes (slice_get filters h) v reads sizes

  pub matching_same : (g : GraphValue) (a b : ApplyEnds) → is_same_end a.from b.from ≡ true → is_same_end a.to b.to ≡ true
      → are_apart (end_reads filters b.from) vectors ≡ true → are_apart (end_sets filters b.from) indices ≡ true
      → are_apart (end_reads filters b.to) vectors ≡ true → are_apart (end_sets filters b.to) indices ≡ true
      → matching filters g s a ≡ matching filters g t b
  matching_same g a b from to from_reads from_sets to_reads to_sets =
      λ i. filter (λ e. (nat_lt e.0 g.vertices && passes_same a.from b.from e.0 from from_reads from_sets i)
      && (nat_lt e.1 g.vertices && passes_same a.to b.to e.1 to to_reads to_sets i)) g.edges
