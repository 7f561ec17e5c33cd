-- Two applies that one instruction does.
use Rattle.std.proofs.Common.{◌≡◌, ℕ, ◌+◌, nat_eq, ◌&&◌, Bool, true, false, if◌then◌else◌, Option, Some, None, slice_get, ap, ◌∙◌, refl}
use Rattle.std.proofs.lemmas.Bool.{eqb-true, and_parts}
use Rattle.typed_tree.specs.declared.statement.SetValue.TheVariants as set
use Rattle.typed_tree.specs.BlockTree.{StatementKindTree, Simple, DeclareSet, AssignSet, ApplyVertex, ApplyEdges, BlockTree, Empty, Then}
use Rattle.typed_tree.specs.FunctionStatementTree.{FunctionTree}
use Rattle.typed_tree.specs.ProgramTree.{ProgramTree}
use Rattle.algorithm_meaning.specs.State.{GraphValue, StateValue}
use Rattle.algorithm_meaning.specs.Value.{members_of}
use Rattle.algorithm_meaning.specs.Statements.{with_vectors}
use Rattle.algorithm_meaning.specs.Function.{steps_of}
use Rattle.algorithm_meaning.specs.VertexSets.{after_vertices, after_apply_vertex}
use Rattle.apply_options.specs.ScheduleTree.{ScheduleTree, apply_schedule_at}
use Rattle.algorithm_meaning.specs.declared.state.Depth.{Depth}
use Rattle.plans.specs.Instruction.{OperationTree, ApplyEdgesTogether, ApplyVerticesTogether}
use Rattle.plans.specs.Fusing.{EdgeApplyTree, VertexApplyTree, edge_apply_of, vertex_apply_of, function_is_local, edges_fit, vertices_fit, fused_edges, fused_vertices, either, together, is_with}
use Rattle.plans.specs.Fusing.{Alone, with_next, fusion_role_of}
use Rattle.plans.specs.inside.Fusing.{steps_are_local, steps_are_local_where}
use Rattle.plans.specs.Machine.{At, after_apply_both}
use Rattle.plans.proofs.Proper.{IsProper}
use Rattle.plans.proofs.Joined.{IsFaultless, DoesBoth, IsGoodCompany}
use Rattle.plans.proofs.VertexPairs.{both_at_each}
use Rattle.plans.proofs.EdgePairs.{after_part, edges_at_once}

pub local_steps : (f : Option FunctionTree) → steps_are_local_where f ≡ true → steps_are_local (steps_of f) ≡ true
local_steps None h = refl
local_steps (Some f) h = h

module _ (p : ProgramTree) (g : GraphValue) where
  -- the statement is this apply
  abbrev IsEdgeApply : StatementKindTree → Option EdgeApplyTree → Type 0
  IsEdgeApply a None = Unit {0}
  IsEdgeApply a (Some x) = IsFaultless p g a (after_part p g x)

  is_edge_apply : (a : StatementKindTree) → IsEdgeApply a (edge_apply_of a)
  is_edge_apply (Simple (ApplyEdges ends function)) = record { statement = ApplyEdges ends function; simple = refl; means = λ number s. refl }
  is_edge_apply (Simple (DeclareSet name (set.Modified ends function vector))) = record { statement = DeclareSet name (set.Modified ends function vector); simple = refl; means = λ number s. refl }
  is_edge_apply (Simple (AssignSet slot (set.Modified ends function vector))) = record { statement = AssignSet slot (set.Modified ends function vector); simple = refl; means = λ number s. refl }
  is_edge_apply a = tt

  abbrev after_vertex_apply : VertexApplyTree → StateValue → StateValue
  after_vertex_apply x s = after_apply_vertex p.vertex_functions x.set.index x.function s

  abbrev IsVertexApply : StatementKindTree → Option VertexApplyTree → Type 0
  IsVertexApply a None = Unit {0}
  IsVertexApply a (Some x) = IsFaultless p g a (after_vertex_apply x)

  is_vertex_apply : (a : StatementKindTree) → IsVertexApply a (vertex_apply_of a)
  is_vertex_apply (Simple (ApplyVertex set function)) = record { statement = ApplyVertex set function; simple = refl; means = λ number s. refl }
  is_vertex_apply a = tt

  vertices_at_once : (x y : VertexApplyTree) (d : Depth) (turns : ℕ) (s : StateValue) → vertices_fit p x y ≡ true → IsProper d turns s
      → after_apply_both p x.set.index x.function y.function s ≡ after_vertex_apply y (after_vertex_apply x s)
  vertices_at_once x y d turns s fit q =
      let fits = and_parts (nat_eq x.set.index y.set.index) (function_is_local p.vertex_functions x.function && function_is_local p.vertex_functions y.function) fit in
      let local = and_parts (function_is_local p.vertex_functions x.function) (function_is_local p.vertex_functions y.function) fits.1 in
      let f = steps_of (slice_get p.vertex_functions x.function) in
      let h = steps_of (slice_get p.vertex_functions y.function) in
      ap (with_vectors s) (both_at_each f h (local_steps (slice_get p.vertex_functions x.function) local.0) (local_steps (slice_get p.vertex_functions y.function) local.1) 0 s
      (members_of (slice_get s.sets x.set.index)) s.vectors (q.sets x.set.index))
      ∙ ap (λ (n : ℕ). with_vectors s (after_vertices h s.sets (members_of (slice_get s.sets n)) (after_vertices f s.sets (members_of (slice_get s.sets x.set.index)) s.vectors)))
      (eqb-true x.set.index y.set.index fits.0)

  -- an operation, if there is one, does both
  abbrev DoesBothIf : Option OperationTree → Depth → StatementKindTree → StatementKindTree → Type 0
  DoesBothIf None d a b = Unit {0}
  DoesBothIf (Some operation) d a b = DoesBoth p g operation d a b

  edges_if : (d : Depth) (a b : StatementKindTree) (x y : EdgeApplyTree) (fits : Bool) → edges_fit p d x y ≡ fits → IsFaultless p g a (after_part p g x) → IsFaultless p g b (after_part p g y)
      → DoesBothIf (if fits then Some (ApplyEdgesTogether x.ends x.part y.part) else None) d a b
  edges_if d a b x y false e h k = tt
  edges_if d a b x y true e h k = record {
    first = after_part p g x;
    second = after_part p g y;
    first_means = h;
    second_means = k;
    acts = λ number shown index loops turns s q. ap (At (index + 1) loops) (edges_at_once p g d x y s e (ap (λ (d : Depth). d.sets) q.deep));
  }

  vertices_if : (d : Depth) (a b : StatementKindTree) (x y : VertexApplyTree) (fits : Bool) → vertices_fit p x y ≡ fits → IsFaultless p g a (after_vertex_apply x)
      → IsFaultless p g b (after_vertex_apply y)
      → DoesBothIf (if fits then Some (ApplyVerticesTogether x.set x.function y.function) else None) d a b
  vertices_if d a b x y false e h k = tt
  vertices_if d a b x y true e h k = record {
    first = after_vertex_apply x;
    second = after_vertex_apply y;
    first_means = h;
    second_means = k;
    acts = λ number shown index loops turns s q. ap (At (index + 1) loops) (vertices_at_once x y d turns s e q);
  }

  edges_do_both : (d : Depth) (a b : StatementKindTree) (x y : Option EdgeApplyTree) → IsEdgeApply a x → IsEdgeApply b y → DoesBothIf (fused_edges p d x y) d a b
  edges_do_both d a b None y h k = tt
  edges_do_both d a b (Some x) None h k = tt
  edges_do_both d a b (Some x) (Some y) h k = edges_if d a b x y (edges_fit p d x y) refl h k

  vertices_do_both : (d : Depth) (a b : StatementKindTree) (x y : Option VertexApplyTree) → IsVertexApply a x → IsVertexApply b y → DoesBothIf (fused_vertices p x y) d a b
  vertices_do_both d a b None y h k = tt
  vertices_do_both d a b (Some x) None h k = tt
  vertices_do_both d a b (Some x) (Some y) h k = vertices_if d a b x y (vertices_fit p x y) refl h k

  either_does_both : (o other : Option OperationTree) (d : Depth) (a b : StatementKindTree) → DoesBothIf o d a b → DoesBothIf other d a b → DoesBothIf (either o other) d a b
  either_does_both None other d a b h k = k
  either_does_both (Some operation) other d a b h k = h

  together_does_both : (d : Depth) (a b : StatementKindTree) → DoesBothIf (together p d a b) d a b
  together_does_both d a b =
      either_does_both (fused_edges p d (edge_apply_of a) (edge_apply_of b)) (fused_vertices p (vertex_apply_of a) (vertex_apply_of b)) d a b
      (edges_do_both d a b (edge_apply_of a) (edge_apply_of b) (is_edge_apply a) (is_edge_apply b))
      (vertices_do_both d a b (vertex_apply_of a) (vertex_apply_of b) (is_vertex_apply a) (is_vertex_apply b))

  good_with_next : (o : Option OperationTree) (d : Depth) (a b : StatementKindTree) (number : ℕ) (label : Option ℕ) (rest : BlockTree) → DoesBothIf o d a b
      → IsGoodCompany p g (with_next o) d a (Then number label b rest)
  good_with_next None d a b number label rest h = tt
  good_with_next (Some operation) d a b number label rest h = h

  good_if_fused : (fused : Bool) (o : Option OperationTree) (d : Depth) (a b : StatementKindTree) (number : ℕ) (label : Option ℕ) (rest : BlockTree) → DoesBothIf o d a b
      → IsGoodCompany p g (if fused then with_next o else Alone) d a (Then number label b rest)
  good_if_fused true o d a b number label rest h = good_with_next o d a b number label rest h
  good_if_fused false o d a b number label rest h = tt

  -- each statement is in good company
  pub company_is_good : (schedule : ScheduleTree) (d : Depth) (label : Option ℕ) (a : StatementKindTree) (rest : BlockTree)
      → IsGoodCompany p g (fusion_role_of p schedule d false label a rest) d a rest
  company_is_good schedule d label a Empty = tt
  company_is_good schedule d label a (Then number other b rest) =
      good_if_fused (is_with (apply_schedule_at label schedule).fused other) (together p d a b) d a b number other rest (together_does_both d a b)
