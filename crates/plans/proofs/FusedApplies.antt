-- Two applies that a plan does together fit.
use Rattle.std.proofs.Common.{◌≡◌, ℕ, ◌+◌, nat_eq, ◌&&◌, Bool, true, false, if◌then◌else◌, List, [], ◌∷◌, Option, Some, None, slice_get, refl, arith}
use Rattle.typed_tree.specs.BlockTree.{StatementKindTree, Simple, If, IfElse, While, For, BlockTree, Empty, Then}
use Rattle.typed_tree.specs.ProgramTree.{ProgramTree}
use Rattle.algorithm_meaning.specs.Function.{steps_of}
use Rattle.apply_options.specs.ScheduleTree.{ScheduleTree, apply_schedule_at}
use Rattle.std.proofs.lemmas.Bool.{and_parts}
use Rattle.algorithm_meaning.specs.declared.state.Depth.{Depth}
use Rattle.plans.specs.Instruction.{OperationTree, ApplyEdgesTogether, ApplyVerticesTogether, Advance, Jump, End, InstructionTree}
use Rattle.plans.specs.Fusing.{EdgeApplyTree, VertexApplyTree, edge_apply_of, vertex_apply_of, function_is_local, edges_fit, vertices_fit, fused_edges, fused_vertices, either, together, is_with}
use Rattle.plans.specs.Fusing.{FusionRole, Alone, WithNext, WithPrevious, with_next, fusion_role_of, takes_next}
use Rattle.plans.specs.Plan.{depth_after, depth_after_all, depth_in_loop, main_depth, plain, loop_step, size_in, plan_in, size, size_all, plan, plan_all, plan_of}
use Rattle.plans.specs.Fused.{FitTogether, FusedFit}
use Rattle.plans.proofs.Ascending.{ascends_increasing}
use Rattle.plans.proofs.VertexPairs.{both_at_each}
use Rattle.plans.proofs.EdgePairs.{writes_fit}
use Rattle.plans.proofs.Pairs.{local_steps}
use Rattle.plans.proofs.Origins.{AllOf, all_append, all_at}

module _ (p : ProgramTree) where
  abbrev FitsIf : Option OperationTree → Type 0
  FitsIf None = Unit {0}
  FitsIf (Some operation) = FitTogether p operation

  abbrev CompanyFits : FusionRole → Type 0
  CompanyFits Alone = Unit {0}
  CompanyFits (WithNext operation) = FitTogether p operation
  CompanyFits WithPrevious = Unit {0}

  vertices_apart : (x y : VertexApplyTree) → vertices_fit p x y ≡ true → FitTogether p (ApplyVerticesTogether x.set x.function y.function)
  vertices_apart x y fit m vs vectors up =
      let fits = and_parts (nat_eq x.set.index y.set.index) (function_is_local p.vertex_functions x.function && function_is_local p.vertex_functions y.function) fit in
      let local = and_parts (function_is_local p.vertex_functions x.function) (function_is_local p.vertex_functions y.function) fits.1 in
      both_at_each (steps_of (slice_get p.vertex_functions x.function)) (steps_of (slice_get p.vertex_functions y.function))
      (local_steps (slice_get p.vertex_functions x.function) local.0) (local_steps (slice_get p.vertex_functions y.function) local.1)
      0 m vs vectors (ascends_increasing 0 vs (omega arith) up)

  edges_if : (d : Depth) (x y : EdgeApplyTree) (fits : Bool) → edges_fit p d x y ≡ fits → FitsIf (if fits then Some (ApplyEdgesTogether x.ends x.part y.part) else None)
  edges_if d x y true e = writes_fit p d x y e
  edges_if d x y false e = tt

  vertices_if : (x y : VertexApplyTree) (fits : Bool) → vertices_fit p x y ≡ fits → FitsIf (if fits then Some (ApplyVerticesTogether x.set x.function y.function) else None)
  vertices_if x y true e = vertices_apart x y e
  vertices_if x y false e = tt

  fused_edges_fit : (d : Depth) (a b : Option EdgeApplyTree) → FitsIf (fused_edges p d a b)
  fused_edges_fit d None b = tt
  fused_edges_fit d (Some x) None = tt
  fused_edges_fit d (Some x) (Some y) = edges_if d x y (edges_fit p d x y) refl

  fused_vertices_fit : (a b : Option VertexApplyTree) → FitsIf (fused_vertices p a b)
  fused_vertices_fit None b = tt
  fused_vertices_fit (Some x) None = tt
  fused_vertices_fit (Some x) (Some y) = vertices_if x y (vertices_fit p x y) refl

  either_fits : (a b : Option OperationTree) → FitsIf a → FitsIf b → FitsIf (either a b)
  either_fits None b h k = k
  either_fits (Some operation) b h k = h

  fused_fits : (fused : Bool) (o : Option OperationTree) → FitsIf o → CompanyFits (if fused then with_next o else Alone)
  fused_fits true None h = tt
  fused_fits true (Some operation) h = h
  fused_fits false o h = tt

  company_fits : (s : ScheduleTree) (d : Depth) (is_done : Bool) (label : Option ℕ) (a : StatementKindTree) (rest : BlockTree) → CompanyFits (fusion_role_of p s d is_done label a rest)
  company_fits s d true label a rest = tt
  company_fits s d false label a Empty = tt
  company_fits s d false label a (Then number other b rest) =
      fused_fits (is_with (apply_schedule_at label s).fused other) (together p d a b)
      (either_fits (fused_edges p d (edge_apply_of a) (edge_apply_of b)) (fused_vertices p (vertex_apply_of a) (vertex_apply_of b))
      (fused_edges_fit d (edge_apply_of a) (edge_apply_of b)) (fused_vertices_fit (vertex_apply_of a) (vertex_apply_of b)))

module _ (p : ProgramTree) (s : ScheduleTree) where
  abbrev Fits : InstructionTree → Type 0
  Fits i = FitTogether p i.operation

  in_company : (company : FusionRole) (number : ℕ) (label : Option ℕ) (d : Depth) (is : List InstructionTree) → CompanyFits p company → AllOf Fits is
      → AllOf Fits (plan_in company s number label d is)
  in_company Alone number label d is fits own = own
  in_company (WithNext operation) number label d is fits own = (fits, tt)
  in_company WithPrevious number label d is fits own = tt

  mutual
    -- what a statement, and what a block does together fits
    action_fits : (a : StatementKindTree) (index number : ℕ) (label : Option ℕ) (d : Depth) → AllOf Fits (plan p s index d number label a)
    action_fits (Simple a) index number label d = (tt, tt)
    action_fits (If c body) index number label d = (tt, block_fits body false (index + 1) d)
    action_fits (IfElse c body others) index number label d =
        let to = index + 1 + size_all p s d false body + 1 in (
          tt,
          all_append Fits (plan_all p s (index + 1) d false body) (plain number d (Jump (to + size_all p s d false others)) ∷ plan_all p s to d false others)
              (block_fits body false (index + 1) d) (tt, block_fits others false to d),
        )
    action_fits (While c body) index number label d = (
      tt,
      (tt, all_append Fits (plan_all p s (index + 2) d false body) (plain number d (Jump index) ∷ []) (block_fits body false (index + 2) d) (tt, tt)),
    )
    action_fits (For name first end body) index number label d =
        let deep = depth_in_loop d in (
          tt,
          (
            tt,
            (
              tt,
              (
                tt,
                all_append Fits (plan_all p s (index + 4) deep false body) (plain number d (Advance name) ∷ loop_step number deep d (Jump (index + 2)) ∷ [])
                    (block_fits body false (index + 4) deep) (tt, (tt, tt)),
              ),
            ),
          ),
        )

    block_fits : (b : BlockTree) (is_done : Bool) (index : ℕ) (d : Depth) → AllOf Fits (plan_all p s index d is_done b)
    block_fits Empty is_done index d = tt
    block_fits (Then number label action rest) is_done index d =
        let company = fusion_role_of p s d is_done label action rest in
        let own = plan p s index d number label action in
        let n = size_in company (size p s d action) in
        all_append Fits (plan_in company s number label d own) (plan_all p s (index + n) (depth_after action d) (takes_next company) rest)
        (in_company company number label d own (company_fits p s d is_done label action rest) (action_fits action index number label d))
        (block_fits rest (takes_next company) (index + n) (depth_after action d))

pub fused_fit : (p : ProgramTree) (s : ScheduleTree) → FusedFit p (plan_of p s)
fused_fit p s index i at =
    let d = main_depth p in
    let last = plain 0 (depth_after_all p.main d) End ∷ [] in
    all_at (Fits p s) (plan_of p s) index i (all_append (Fits p s) (plan_all p s 0 d false p.main) last (block_fits p s p.main false 0 d) (tt, tt)) at
