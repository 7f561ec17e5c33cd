-- From which statements the instructions of a plan come.
use Rattle.std.proofs.Common.{◌≡◌, ℕ, zero, suc, ◌+◌, Bool, true, false, if◌then◌else◌, inl, inr, List, [], ◌∷◌, ◌++◌, Option, Some, None, slice_get, sym, ◌∙◌, refl, subst}
use Rattle.typed_tree.specs.BlockTree.{StatementKindTree, Simple, If, IfElse, While, For, BlockTree, Empty, Then}
use Rattle.typed_tree.specs.ProgramTree.{ProgramTree}
use Rattle.apply_options.specs.ScheduleTree.{ScheduleTree, apply_schedule_at}
use Rattle.algorithm_meaning.specs.declared.state.Depth.{Depth}
use Rattle.plans.specs.Instruction.{OperationTree, ApplyEdgesTogether, ApplyVerticesTogether, Advance, Jump, End, InstructionTree}
use Rattle.plans.specs.Fusing.{EdgeApplyTree, VertexApplyTree, edge_apply_of, vertex_apply_of, edges_fit, vertices_fit, fused_edges, fused_vertices, either, together, is_with, FusionRole, Alone}
use Rattle.plans.specs.Fusing.{WithNext, WithPrevious, with_next, fusion_role_of, takes_next}
use Rattle.plans.specs.Plan.{depth_after, depth_after_all, depth_in_loop, main_depth, plain, loop_step, chosen, size_in, plan_in, size, size_all, plan, plan_all, plan_of}
use Rattle.plans.specs.ApplySchedules.{IsStatementOf, StandsInside, first_apply, ComesFrom, GoBySchedule}

abbrev pub AllOf : (InstructionTree → Type 0) → List InstructionTree → Type 0
AllOf P [] = Unit {0}
AllOf P (i ∷ is) = P i × AllOf P is

pub all_append : (P : InstructionTree → Type 0) (a b : List InstructionTree) → AllOf P a → AllOf P b → AllOf P (a ++ b)
all_append P [] b h k = k
all_append P (i ∷ a) b h k = (h.0, all_append P a b h.1 k)

pub all_at : (P : InstructionTree → Type 0) (is : List InstructionTree) (index : ℕ) (i : InstructionTree) → AllOf P is → slice_get is index ≡ Some i → P i
all_at P [] index i h at = let bad : None ≡ Some i = at in cc
all_at P (x ∷ xs) zero i h at = let same : x ≡ i = cc in subst P same h.0
all_at P (x ∷ xs) (suc n) i h at = all_at P xs n i h.1 at

-- the first apply of an operation, if there is one, is this
abbrev BeginsIf : Option EdgeApplyTree → Option OperationTree → Type 0
BeginsIf a None = Unit {0}
BeginsIf a (Some operation) = (x : EdgeApplyTree) → first_apply operation ≡ Some x → a ≡ Some x

abbrev Begins : Option EdgeApplyTree → FusionRole → Type 0
Begins a Alone = Unit {0}
Begins a (WithNext operation) = (x : EdgeApplyTree) → first_apply operation ≡ Some x → a ≡ Some x
Begins a WithPrevious = Unit {0}

edges_begin : (p : ProgramTree) (d : Depth) (a b : Option EdgeApplyTree) → BeginsIf a (fused_edges p d a b)
edges_begin p d None b = tt
edges_begin p d (Some x) None = tt
edges_begin p d (Some x) (Some y) = by_test (edges_fit p d x y)
  where
    by_test : (b : Bool) → BeginsIf (Some x) (if b then Some (ApplyEdgesTogether x.ends x.part y.part) else None)
    by_test true = λ z e. e
    by_test false = tt

vertices_begin : (p : ProgramTree) (c : Option EdgeApplyTree) (a b : Option VertexApplyTree) → BeginsIf c (fused_vertices p a b)
vertices_begin p c None b = tt
vertices_begin p c (Some x) None = tt
vertices_begin p c (Some x) (Some y) = by_test (vertices_fit p x y)
  where
    by_test : (b : Bool) → BeginsIf c (if b then Some (ApplyVerticesTogether x.set x.function y.function) else None)
    by_test true = λ z e. let bad : None ≡ Some z = e in cc
    by_test false = tt

either_begins : (c : Option EdgeApplyTree) (a b : Option OperationTree) → BeginsIf c a → BeginsIf c b → BeginsIf c (either a b)
either_begins c None b h k = k
either_begins c (Some operation) b h k = h

fused_begins : (c : Option EdgeApplyTree) (fused : Bool) (o : Option OperationTree) → BeginsIf c o → Begins c (if fused then with_next o else Alone)
fused_begins c true None h = tt
fused_begins c true (Some operation) h = h
fused_begins c false o h = tt

company_begins : (p : ProgramTree) (schedule : ScheduleTree) (d : Depth) (is_done : Bool) (label : Option ℕ) (a : StatementKindTree) (rest : BlockTree)
    → Begins (edge_apply_of a) (fusion_role_of p schedule d is_done label a rest)
company_begins p schedule d true label a rest = tt
company_begins p schedule d false label a Empty = tt
company_begins p schedule d false label a (Then number other b rest) =
    fused_begins (edge_apply_of a) (is_with (apply_schedule_at label schedule).fused other) (together p d a b)
    (either_begins (edge_apply_of a) (fused_edges p d (edge_apply_of a) (edge_apply_of b)) (fused_vertices p (vertex_apply_of a) (vertex_apply_of b))
    (edges_begin p d (edge_apply_of a) (edge_apply_of b)) (vertices_begin p (edge_apply_of a) (vertex_apply_of a) (vertex_apply_of b)))

module _ (p : ProgramTree) (schedule : ScheduleTree) (P : InstructionTree → Type 0) where
  -- P holds of the instructions of a statement
  abbrev HoldsFor : (number : ℕ) → Option ℕ → StatementKindTree → Type 0
  HoldsFor number label action =
      (i : InstructionTree) → i.number ≡ number → ((x : EdgeApplyTree) → first_apply i.operation ≡ Some x → (edge_apply_of action ≡ Some x) × (i.apply_schedule ≡ apply_schedule_at label schedule))
      → P i

  in_company : (company : FusionRole) (number : ℕ) (label : Option ℕ) (d : Depth) (action : StatementKindTree) (is : List InstructionTree) → Begins (edge_apply_of action) company
      → HoldsFor number label action
      → AllOf P is → AllOf P (plan_in company schedule number label d is)
  in_company Alone number label d action is begins holds own = own
  in_company (WithNext operation) number label d action is begins holds own = (holds (chosen schedule number label d operation) refl (λ x e. (begins x e, refl)), tt)
  in_company WithPrevious number label d action is begins holds own = tt

  -- an instruction that does no apply
  other : (number : ℕ) (label : Option ℕ) (action : StatementKindTree) (i : InstructionTree) → HoldsFor number label action → i.number ≡ number → first_apply i.operation ≡ None → P i
  other number label action i holds numbered none = holds i numbered (λ x e. let bad : None ≡ Some x = sym none ∙ e in cc)

  mutual
    action_comes : (a : StatementKindTree) (index number : ℕ) (label : Option ℕ) (d : Depth) → HoldsFor number label a
        → ((n : ℕ) (l : Option ℕ) (c : StatementKindTree) → StandsInside a n l c → HoldsFor n l c)
        → AllOf P (plan p schedule index d number label a)
    action_comes (Simple a) index number label d own inner = (own _ refl (λ x e. (e, refl)), tt)
    action_comes (If c body) index number label d own inner =
        (other number label (If c body) _ own refl refl, block_comes body false (index + 1) d inner)
    action_comes (IfElse c body others) index number label d own inner =
        let to = index + 1 + size_all p schedule d false body + 1 in (
          other number label (IfElse c body others) _ own refl refl,
          all_append P (plan_all p schedule (index + 1) d false body) (plain number d (Jump (to + size_all p schedule d false others)) ∷ plan_all p schedule to d false others)
              (block_comes body false (index + 1) d (λ n l c h. inner n l c (inl h)))
              (other number label (IfElse c body others) _ own refl refl, block_comes others false to d (λ n l c h. inner n l c (inr h))),
        )
    action_comes (While c body) index number label d own inner = (
      other number label (While c body) _ own refl refl,
      (
        other number label (While c body) _ own refl refl,
        all_append P (plan_all p schedule (index + 2) d false body) (plain number d (Jump index) ∷ [])
            (block_comes body false (index + 2) d inner) (other number label (While c body) _ own refl refl, tt),
      ),
    )
    action_comes (For name first end body) index number label d own inner =
        let deep = depth_in_loop d in
        let a = For name first end body in (
          other number label a _ own refl refl,
          (
            other number label a _ own refl refl,
            (
              other number label a _ own refl refl,
              (
                other number label a _ own refl refl,
                all_append P (plan_all p schedule (index + 4) deep false body) (plain number d (Advance name) ∷ loop_step number deep d (Jump (index + 2)) ∷ [])
                    (block_comes body false (index + 4) deep inner) (other number label a _ own refl refl, (other number label a _ own refl refl, tt)),
              ),
            ),
          ),
        )

    block_comes : (b : BlockTree) (is_done : Bool) (index : ℕ) (d : Depth) → ((n : ℕ) (l : Option ℕ) (c : StatementKindTree) → IsStatementOf b n l c → HoldsFor n l c)
        → AllOf P (plan_all p schedule index d is_done b)
    block_comes Empty is_done index d holds = tt
    block_comes (Then number label action rest) is_done index d holds =
        let company = fusion_role_of p schedule d is_done label action rest in
        let own = plan p schedule index d number label action in
        let n = size_in company (size p schedule d action) in
        all_append P (plan_in company schedule number label d own) (plan_all p schedule (index + n) (depth_after action d) (takes_next company) rest)
        (in_company company number label d action own (company_begins p schedule d is_done label action rest) (holds number label action (inl (refl, refl, refl)))
        (action_comes action index number label d (holds number label action (inl (refl, refl, refl))) (λ n l c h. holds n l c (inr (inl h)))))
        (block_comes rest (takes_next company) (index + n) (depth_after action d) (λ n l c h. holds n l c (inr (inr h))))

pub go_by_schedule : (p : ProgramTree) (schedule : ScheduleTree) → GoBySchedule p.main schedule (plan_of p schedule)
go_by_schedule p schedule index i x at e =
    let P : InstructionTree → Type 0 = λ i. (x : EdgeApplyTree) → first_apply i.operation ≡ Some x → ComesFrom p.main schedule i x in
    let d = main_depth p in
    let last = plain 0 (depth_after_all p.main d) End ∷ [] in
    let from_main = block_comes p schedule P p.main false 0 d (λ n l c stands i numbered tells x e.
    let t = tells x e in record { number = n; label = l; action = c; stands = stands; applies = t.0; numbered = numbered; chosen = t.1 }) in
    all_at P (plan_of p schedule) index i (all_append P (plan_all p schedule 0 d false p.main) last from_main (λ x e. let bad : None ≡ Some x = e in cc, tt)) at x e
