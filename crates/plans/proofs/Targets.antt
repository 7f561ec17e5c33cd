-- Where the instructions of a plan lead.
use Rattle.std.proofs.Common.{◌≡◌, ℕ, ◌+◌, ◌<◌, Bool, true, false, List, [], ◌∷◌, ◌++◌, length, if◌then◌else◌, ◌⊎◌, inl, inr, Option, Some, None, slice_get, ap, sym, refl, arith, subst}
use Rattle.typed_tree.specs.BlockTree.{StatementKindTree, Simple, If, IfElse, While, For, BlockTree, Empty, Then}
use Rattle.typed_tree.specs.ProgramTree.{ProgramTree}
use Rattle.apply_options.specs.ScheduleTree.{ScheduleTree, apply_schedule_at}
use Rattle.algorithm_meaning.specs.declared.state.Depth.{Depth}
use Rattle.plans.specs.Instruction.{OperationTree, ApplyEdgesTogether, ApplyVerticesTogether, Unless, UnlessBelow, Advance, Turn, Jump, End, InstructionTree}
use Rattle.plans.specs.Fusing.{EdgeApplyTree, VertexApplyTree, edge_apply_of, vertex_apply_of, edges_fit, vertices_fit, fused_edges, fused_vertices, either, together, is_with, FusionRole, Alone}
use Rattle.plans.specs.Fusing.{WithNext, WithPrevious, with_next, fusion_role_of, takes_next}
use Rattle.plans.specs.Plan.{depth_after, depth_after_all, depth_in_loop, main_depth, plan_of, plain, loop_step, size_in, plan_in, size, size_all, plan, plan_all}
use Rattle.plans.specs.Bound.{is_turn}
use Rattle.plans.proofs.Indices.{HasAt, has_front, has_behind, has_all, length_in, length-plan, length-plan_all}

-- the index to which a test leaves
abbrev pub leaving_index : OperationTree → Option ℕ
leaving_index (Unless c to) = Some to
leaving_index (UnlessBelow name to) = Some to
leaving_index _ = None

-- a loop has its head at an index, and what stands after it at another
pub record IsHead (code : List InstructionTree) (head to : ℕ) : Type 0 where
  pub instruction : InstructionTree
  pub stands : slice_get code head ≡ Some instruction
  pub leaves : leaving_index instruction.operation ≡ Some to
  pub turn : is_turn (slice_get code (head + 1)) ≡ true

-- a jump leads on, or back to the head of a loop whose last instruction it is
abbrev pub LeadsWell : List InstructionTree → (index : ℕ) → OperationTree → Type 0
LeadsWell code index (Unless c to) = index < to
LeadsWell code index (UnlessBelow name to) = (index < to) × (is_turn (slice_get code (index + 1)) ≡ true)
LeadsWell code index (Jump to) = (index < to) ⊎ IsHead code to (index + 1)
LeadsWell code index _ = Unit {0}

abbrev pub AllLeadWell : List InstructionTree → (index : ℕ) → List InstructionTree → Type 0
AllLeadWell code index [] = Unit {0}
AllLeadWell code index (i ∷ is) = LeadsWell code index i.operation × AllLeadWell code (index + 1) is

lead_append : (code : List InstructionTree) (index n : ℕ) (a b : List InstructionTree) → length a ≡ n → AllLeadWell code index a → AllLeadWell code (index + n) b → AllLeadWell code index (a ++ b)
lead_append code index n [] b e h k =
    let same : index + n ≡ index = omega (arith, e) in
    subst (λ (x : ℕ). AllLeadWell code x b) same k
lead_append code index n (i ∷ a) b e h k =
    let same : index + n ≡ index + 1 + length a = omega (arith, e) in
    (h.0, lead_append code (index + 1) (length a) a b refl h.1 (subst (λ (x : ℕ). AllLeadWell code x b) same k))

-- an operation that does two applies
abbrev IsForTwo : OperationTree → Type 0
IsForTwo (ApplyEdgesTogether ends a b) = Unit {0}
IsForTwo (ApplyVerticesTogether set a b) = Unit {0}
IsForTwo _ = ⊥

abbrev IsForTwoIf : Option OperationTree → Type 0
IsForTwoIf None = Unit {0}
IsForTwoIf (Some operation) = IsForTwo operation

abbrev IsCompanyOfTwo : FusionRole → Type 0
IsCompanyOfTwo Alone = Unit {0}
IsCompanyOfTwo (WithNext operation) = IsForTwo operation
IsCompanyOfTwo WithPrevious = Unit {0}

edges_for_two : (p : ProgramTree) (d : Depth) (a b : Option EdgeApplyTree) → IsForTwoIf (fused_edges p d a b)
edges_for_two p d None b = tt
edges_for_two p d (Some x) None = tt
edges_for_two p d (Some x) (Some y) = by_test (edges_fit p d x y)
  where
    by_test : (b : Bool) → IsForTwoIf (if b then Some (ApplyEdgesTogether x.ends x.part y.part) else None)
    by_test true = tt
    by_test false = tt

vertices_for_two : (p : ProgramTree) (a b : Option VertexApplyTree) → IsForTwoIf (fused_vertices p a b)
vertices_for_two p None b = tt
vertices_for_two p (Some x) None = tt
vertices_for_two p (Some x) (Some y) = by_test (vertices_fit p x y)
  where
    by_test : (b : Bool) → IsForTwoIf (if b then Some (ApplyVerticesTogether x.set x.function y.function) else None)
    by_test true = tt
    by_test false = tt

either_for_two : (a b : Option OperationTree) → IsForTwoIf a → IsForTwoIf b → IsForTwoIf (either a b)
either_for_two None b h k = k
either_for_two (Some operation) b h k = h

fused_for_two : (fused : Bool) (o : Option OperationTree) → IsForTwoIf o → IsCompanyOfTwo (if fused then with_next o else Alone)
fused_for_two true None h = tt
fused_for_two true (Some operation) h = h
fused_for_two false o h = tt

company_of_two : (p : ProgramTree) (schedule : ScheduleTree) (d : Depth) (is_done : Bool) (label : Option ℕ) (a : StatementKindTree) (rest : BlockTree)
    → IsCompanyOfTwo (fusion_role_of p schedule d is_done label a rest)
company_of_two p schedule d true label a rest = tt
company_of_two p schedule d false label a Empty = tt
company_of_two p schedule d false label a (Then number other b rest) =
    fused_for_two (is_with (apply_schedule_at label schedule).fused other) (together p d a b)
    (either_for_two (fused_edges p d (edge_apply_of a) (edge_apply_of b)) (fused_vertices p (vertex_apply_of a) (vertex_apply_of b))
    (edges_for_two p d (edge_apply_of a) (edge_apply_of b)) (vertices_for_two p (vertex_apply_of a) (vertex_apply_of b)))

module _ (p : ProgramTree) (schedule : ScheduleTree) (code : List InstructionTree) where
  company_leads : (company : FusionRole) (index number : ℕ) (label : Option ℕ) (d : Depth) (is : List InstructionTree) → IsCompanyOfTwo company
      → HasAt code index (plan_in company schedule number label d is) → (HasAt code index is → AllLeadWell code index is) → AllLeadWell code index (plan_in company schedule number label d is)
  company_leads Alone index number label d is for_two at own = own at
  company_leads (WithNext (ApplyEdgesTogether ends a b)) index number label d is for_two at own = (tt, tt)
  company_leads (WithNext (ApplyVerticesTogether set a b)) index number label d is for_two at own = (tt, tt)
  company_leads (WithNext operation) index number label d is for_two at own = absurd for_two
  company_leads WithPrevious index number label d is for_two at own = tt

  -- instructions between others
  inner : (index n to : ℕ) (a b : List InstructionTree) → length a ≡ n → index + n ≡ to → AllLeadWell code index a → AllLeadWell code to b → AllLeadWell code index (a ++ b)
  inner index n to a b e same h k = lead_append code index n a b e h (subst (λ (x : ℕ). AllLeadWell code x b) (sym same) k)

  turn_at : (index number : ℕ) (keep shown : Depth) → slice_get code index ≡ Some (loop_step number keep shown Turn) → is_turn (slice_get code index) ≡ true
  turn_at index number keep shown e = ap is_turn e

  mutual
    action_leads : (a : StatementKindTree) (index number : ℕ) (label : Option ℕ) (d : Depth) → HasAt code index (plan p schedule index d number label a)
        → AllLeadWell code index (plan p schedule index d number label a)
    action_leads (Simple a) index number label d at = (tt, tt)
    action_leads (If c body) index number label d at = (omega arith, block_leads body false (index + 1) d at.1)
    action_leads (IfElse c body other) index number label d at =
        let n = size_all p schedule d false body in
        let back = index + 1 + n in
        let from = back + 1 in
        let to = from + size_all p schedule d false other in
        let own = plan_all p schedule (index + 1) d false body in
        let after_own = plain number d (Jump to) ∷ plan_all p schedule from d false other in
        let others = has_behind code (index + 1) n back own after_own (length-plan_all p schedule body (index + 1) d false) refl at.1 in
        let on : back < to = omega arith in (
          omega arith,
          inner (index + 1) n back own after_own (length-plan_all p schedule body (index + 1) d false) refl
              (block_leads body false (index + 1) d (has_front code (index + 1) own after_own at.1))
              (inl on, block_leads other false from d others.1),
        )
    action_leads (While c body) index number label d at =
        let n = size_all p schedule d false body in
        let back = index + 2 + n in
        let own = plan_all p schedule (index + 2) d false body in
        let jump = plain number d (Jump index) ∷ [] in
        let second : index + 1 + 1 ≡ index + 2 = omega arith in
        let inside = subst (λ (x : ℕ). HasAt code x (own ++ jump)) second at.1.1 in
        let head : IsHead code index (back + 1) = record { instruction = plain number d (Unless c (back + 1)); stands = at.0; leaves = refl; turn = turn_at (index + 1) number d d at.1.0 } in
        let both = inner (index + 2) n back own jump (length-plan_all p schedule body (index + 2) d false) refl
        (block_leads body false (index + 2) d (has_front code (index + 2) own jump inside)) (inr head, tt) in
        (omega arith, (tt, subst (λ (x : ℕ). AllLeadWell code x (own ++ jump)) (sym second) both))
    action_leads (For name first end body) index number label d at =
        let deep = depth_in_loop d in
        let n = size_all p schedule deep false body in
        let back = index + 4 + n in
        let own = plan_all p schedule (index + 4) deep false body in
        let last = plain number d (Advance name) ∷ loop_step number deep d (Jump (index + 2)) ∷ [] in
        let second : index + 1 + 1 ≡ index + 2 = omega arith in
        let third : index + 1 + 1 + 1 ≡ index + 2 + 1 = omega arith in
        let fourth : index + 1 + 1 + 1 + 1 ≡ index + 4 = omega arith in
        let inside = subst (λ (x : ℕ). HasAt code x (own ++ last)) fourth at.1.1.1.1 in
        let to = back + 2 in
        let test = loop_step number deep d (UnlessBelow name to) in
        let behind_last : to ≡ back + 1 + 1 = omega arith in
        let turn = turn_at (index + 1 + 1 + 1) number deep d at.1.1.1.0 in
        let head : IsHead code (index + 2) (back + 1 + 1) = record {
          instruction = test;
          stands = subst (λ (x : ℕ). slice_get code x ≡ Some test) second at.1.1.0;
          leaves = ap {B = Option ℕ} Some behind_last;
          turn = subst (λ (x : ℕ). is_turn (slice_get code x) ≡ true) third turn;
        } in
        let both = inner (index + 4) n back own last (length-plan_all p schedule body (index + 4) deep false) refl
        (block_leads body false (index + 4) deep (has_front code (index + 4) own last inside)) (tt, (inr head, tt)) in
        (tt, (tt, ((omega arith, turn), (tt, subst (λ (x : ℕ). AllLeadWell code x (own ++ last)) (sym fourth) both))))

    block_leads : (b : BlockTree) (is_done : Bool) (index : ℕ) (d : Depth) → HasAt code index (plan_all p schedule index d is_done b) → AllLeadWell code index (plan_all p schedule index d is_done b)
    block_leads Empty is_done index d at = tt
    block_leads (Then number label action rest) is_done index d at =
        let company = fusion_role_of p schedule d is_done label action rest in
        let own = plan p schedule index d number label action in
        let n = size_in company (size p schedule d action) in
        let first = plan_in company schedule number label d own in
        let others = plan_all p schedule (index + n) (depth_after action d) (takes_next company) rest in
        let e : length first ≡ n = length_in company schedule number label d own (size p schedule d action) (length-plan p schedule action index d number label) in
        lead_append code index n first others e
        (company_leads company index number label d own (company_of_two p schedule d is_done label action rest) (has_front code index first others at)
        (λ here. action_leads action index number label d here))
        (block_leads rest (takes_next company) (index + n) (depth_after action d) (has_behind code index n (index + n) first others e refl at))

-- each instruction of the plan of a program leads well
pub plan_leads : (p : ProgramTree) (schedule : ScheduleTree) → AllLeadWell (plan_of p schedule) 0 (plan_of p schedule)
plan_leads p schedule =
    let code = plan_of p schedule in
    let d = main_depth p in
    let main = plan_all p schedule 0 d false p.main in
    let last = plain 0 (depth_after_all p.main d) End ∷ [] in
    lead_append code 0 (size_all p schedule d false p.main) main last (length-plan_all p schedule p.main 0 d false)
    (block_leads p schedule code p.main false 0 d (has_front code 0 main last (has_all code []))) (tt, tt)
