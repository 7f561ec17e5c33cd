-- A plan around the instruction of two fused statements.
use Rattle.std.proofs.Common.{◌≡◌, refl, ap, sym, subst, ◌∙◌, inl, inr, ℕ, suc, ◌+◌, ◌<◌, ◌≤◌, nat_eq, Bool, true, false, if◌then◌else◌, List, [], ◌∷◌, ◌++◌, length, length-append, arith, Option}
use Rattle.std.proofs.Common.{Some, None}
use Rattle.std.specs.List.{AllByRecursion}
use Rattle.std.proofs.lemmas.Bool.{eq-eqb, eqb-true}
use Rattle.std.proofs.lemmas.List.{append_assoc}
use Rattle.std.proofs.lemmas.Option.{none-some}
use Rattle.typed_tree.specs.BlockTree.{StatementKindTree, Simple, DeclareSet, If, IfElse, While, For, BlockTree, Empty, Then}
use Rattle.typed_tree.specs.ProgramTree.{ProgramTree}
use Rattle.typed_tree.specs.Resolved as resolved
use Rattle.typed_tree.specs.Resolved.{VisibleTree, ActionIsResolved, BlockIsResolved, after_action}
use Rattle.apply_options.specs.declared.apply_schedule.Fused.{Fused}
use Rattle.apply_options.specs.declared.apply_schedule.Fused.TheVariants.{With, Into}
use Rattle.apply_options.specs.ScheduleTree.{ScheduleTree, apply_schedule_at, apply_schedule_of}
use Rattle.schedule.specs.Laws.{FusesInPairs}
use Rattle.algorithm_meaning.specs.declared.state.Depth.{Depth}
use Rattle.plans.specs.Instruction.{OperationTree, InstructionTree, Jump, Advance}
use Rattle.plans.specs.Fusing.{FusionRole, Alone, WithNext, EdgeApplyTree, VertexApplyTree, fusion_role_of, edge_apply_of, fused_edges, either, is_with, takes_next, together, vertex_apply_of}
use Rattle.plans.specs.Fusing.{fused_vertices, with_next}
use Rattle.plans.specs.Plan.{depth_after, chosen, depth_in_loop, loop_step, plain, plan, plan_all, plan_in, size, size_all, size_in}
use Rattle.type_laws.specs.Numbers.{InOrder, inner_numbers, numbers}
use Rattle.plan_laws.specs.Neighbours.{AreNeighbours, AreNeighboursInside, BeginsWith, StatementTree}
use Rattle.plan_laws.specs.OneInstruction.{AreTogether, IsOfNeither}
use Rattle.plan_laws.proofs.Counted.{action_between, block_between, company_between, in_two, inside_ascend, neighbours_ascend, neither_above, neither_below}
use Rattle.plan_laws.proofs.Pairs.{OneDoes}
use Rattle.plan_laws.proofs.Sizes.{all_two}

-- the instruction of two statements, with those before it and after it, which are of neither
pub record Split (s : ScheduleTree) (one other : StatementTree) (is : List InstructionTree) : Type 0 where
  pub before : List InstructionTree
  pub instruction : InstructionTree
  pub rest : List InstructionTree
  pub all : is ≡ before ++ instruction ∷ rest
  pub number : instruction.number ≡ one.number
  pub apply_schedule : instruction.apply_schedule ≡ apply_schedule_at one.label s
  pub done : AreTogether one.action other.action instruction.operation
  pub others_before : AllByRecursion (IsOfNeither one other) before
  pub others_after : AllByRecursion (IsOfNeither one other) rest

-- after others, and before others
pub split_after : (s : ScheduleTree) (one other : StatementTree) (xs is : List InstructionTree) → AllByRecursion (IsOfNeither one other) xs → Split s one other is → Split s one other (xs ++ is)
split_after s one other xs is others x = record {
  before = xs ++ x.before;
  instruction = x.instruction;
  rest = x.rest;
  all = ap (λ ys. xs ++ ys) x.all ∙ sym (append_assoc xs x.before (x.instruction ∷ x.rest));
  number = x.number;
  apply_schedule = x.apply_schedule;
  done = x.done;
  others_before = all_two (IsOfNeither one other) xs x.before others x.others_before;
  others_after = x.others_after;
}

pub split_before : (s : ScheduleTree) (one other : StatementTree) (is xs : List InstructionTree) → Split s one other is → AllByRecursion (IsOfNeither one other) xs → Split s one other (is ++ xs)
split_before s one other is xs x others = record {
  before = x.before;
  instruction = x.instruction;
  rest = x.rest ++ xs;
  all = ap (λ ys. ys ++ xs) x.all ∙ append_assoc x.before (x.instruction ∷ x.rest) xs;
  number = x.number;
  apply_schedule = x.apply_schedule;
  done = x.done;
  others_before = x.others_before;
  others_after = all_two (IsOfNeither one other) x.rest xs x.others_after others;
}

-- what is known of two fused statements, wherever they stand
pub record IsPair (p : ProgramTree) (s : ScheduleTree) (one other : StatementTree) : Type 0 where
  pub first : ℕ
  pub second : ℕ
  pub first_has : one.label ≡ Some first
  pub second_has : other.label ≡ Some second
  pub fused : (apply_schedule_of first s).fused ≡ Some (With second)
  pub fit : (v : VisibleTree) (d : Depth) → d.sets ≡ length v.sets → length p.sets ≤ d.sets → ActionIsResolved p v one.action → ActionIsResolved p (after_action one.action v) other.action
      → OneDoes p d one.action other.action

-- no block is in the statement
abbrev IsPlain : StatementKindTree → Type 0
IsPlain (Simple a) = Unit {0}
IsPlain _ = ⊥

-- the first statement of a block that is done already is the second of a fusing, and has no block
abbrev IsDone : ScheduleTree → Bool → BlockTree → Type 0
IsDone s false b = Unit {0}
IsDone s true Empty = ⊥
IsDone s true (Then number label action rest) = IsPlain action × ((first : ℕ) × ((apply_schedule_at label s).fused ≡ Some (Into first)))

module _ (p : ProgramTree) (s : ScheduleTree) (pairs : FusesInPairs s) where
  -- a statement with a block is done with no other
  no_second : (d : Depth) (x : Option EdgeApplyTree) (y : Option VertexApplyTree) → either (fused_edges p d x None) (fused_vertices p y None) ≡ None
  no_second d None None = refl
  no_second d None (Some y) = refl
  no_second d (Some x) None = refl
  no_second d (Some x) (Some y) = refl

  second_is_plain : (d : Depth) (a b : StatementKindTree) (o : OperationTree) → together p d a b ≡ Some o → IsPlain b
  second_is_plain d a (Simple b) o is = tt
  second_is_plain d a _ o is = absurd (none-some o (sym (no_second d (edge_apply_of a) (vertex_apply_of a)) ∙ is))

  -- the label that a schedule fuses another with
  second_fused : (label other : Option ℕ) → is_with (apply_schedule_at label s).fused other ≡ true → (first : ℕ) × ((apply_schedule_at other s).fused ≡ Some (Into first))
  second_fused None other is = absurd cc
  second_fused (Some first) other is = by_apply_schedule (apply_schedule_of first s).fused other refl is
    where
      by_apply_schedule : (fused : Option Fused) (other : Option ℕ) → (apply_schedule_of first s).fused ≡ fused → is_with fused other ≡ true → (label : ℕ)
          × ((apply_schedule_at other s).fused ≡ Some (Into label))
      by_apply_schedule None other chosen is = absurd cc
      by_apply_schedule (Some (Into label)) other chosen is = absurd cc
      by_apply_schedule (Some (With second)) None chosen is = absurd cc
      by_apply_schedule (Some (With second)) (Some label) chosen is =
          let same : second ≡ label = eqb-true second label is in
          (first, subst (λ l. (apply_schedule_of l s).fused ≡ Some (Into first)) same (pairs.0 first second chosen))

  next_done : (d : Depth) (label other : Option ℕ) (number : ℕ) (a b : StatementKindTree) (rest : BlockTree) (test : Bool) (o : Option OperationTree)
      → is_with (apply_schedule_at label s).fused other ≡ test
      → together p d a b ≡ o → IsDone s (takes_next (if test then with_next o else Alone)) (Then number other b rest)
  next_done d label other number a b rest false o is does = tt
  next_done d label other number a b rest true None is does = tt
  next_done d label other number a b rest true (Some o) is does = (second_is_plain d a b o does, second_fused label other is)

  rest_done : (d : Depth) (is_done : Bool) (label : Option ℕ) (a : StatementKindTree) (rest : BlockTree) → IsDone s (takes_next (fusion_role_of p s d is_done label a rest)) rest
  rest_done d true label a rest = tt
  rest_done d false label a Empty = tt
  rest_done d false label a (Then number other b rest) = next_done d label other number a b rest (is_with (apply_schedule_at label s).fused other) (together p d a b) refl refl

  -- a statement that is no apply is done alone
  none_taken : (test : Bool) → (if test then with_next None else Alone) ≡ Alone
  none_taken true = refl
  none_taken false = refl

  is_alone : (d : Depth) (label : Option ℕ) (a : StatementKindTree) (rest : BlockTree) → edge_apply_of a ≡ None → vertex_apply_of a ≡ None → fusion_role_of p s d false label a rest ≡ Alone
  is_alone d label a Empty no_edges no_vertices = refl
  is_alone d label a (Then number other b rest) no_edges no_vertices =
      let test = is_with (apply_schedule_at label s).fused other in
      ap (λ e. if test then with_next (either (fused_edges p d e (edge_apply_of b)) (fused_vertices p (vertex_apply_of a) (vertex_apply_of b))) else Alone) no_edges
      ∙ ap (λ e. if test then with_next (either (fused_edges p d None (edge_apply_of b)) (fused_vertices p e (vertex_apply_of b))) else Alone) no_vertices
      ∙ none_taken test

  block_alone : (d : Depth) (is_done : Bool) (number : ℕ) (label : Option ℕ) (a : StatementKindTree) (rest : BlockTree) → (IsPlain a → ⊥) → edge_apply_of a ≡ None → vertex_apply_of a ≡ None
      → IsDone s is_done (Then number label a rest) → fusion_role_of p s d is_done label a rest ≡ Alone
  block_alone d true number label a rest not_plain no_edges no_vertices done = absurd (not_plain done.0)
  block_alone d false number label a rest not_plain no_edges no_vertices done = is_alone d label a rest no_edges no_vertices

  inside_alone : (one other : StatementTree) (d : Depth) (is_done : Bool) (number : ℕ) (label : Option ℕ) (a : StatementKindTree) (rest : BlockTree) → AreNeighboursInside one other a
      → IsDone s is_done (Then number label a rest) → fusion_role_of p s d is_done label a rest ≡ Alone
  inside_alone one other d is_done number label (Simple a) rest are done = absurd are
  inside_alone one other d is_done number label a rest are done = block_alone d is_done number label a rest (λ plain. plain) refl refl done

  -- the first of a fusing is done with the second
  not_second : (is_done : Bool) (number : ℕ) (label : Option ℕ) (a : StatementKindTree) (rest : BlockTree) (second : ℕ) → (apply_schedule_at label s).fused ≡ Some (With second)
      → IsDone s is_done (Then number label a rest) → is_done ≡ false
  not_second false number label a rest second fused done = refl
  not_second true number label a rest second fused done =
      let first = done.1.0 in
      let into : (apply_schedule_at label s).fused ≡ Some (Into first) = done.1.1 in
      let bad : Some (With second) ≡ Some (Into first) = sym fused ∙ into in
      cc

  taken : (test : Bool) (o : OperationTree) → test ≡ true → (if test then with_next (Some o) else Alone) ≡ WithNext o
  taken true o is = refl
  taken false o is = cc

  takes : (d : Depth) (number other_number : ℕ) (label other : Option ℕ) (a b : StatementKindTree) (rest : BlockTree) (second : ℕ) (o : OperationTree)
      → (apply_schedule_at label s).fused ≡ Some (With second)
      → other ≡ Some second → together p d a b ≡ Some o → fusion_role_of p s d false label a (Then other_number other b rest) ≡ WithNext o
  takes d number other_number label other a b rest second o fused has does =
      ap (λ t. if is_with (apply_schedule_at label s).fused other then with_next t else Alone) does
      ∙ ap (λ f. if is_with f other then with_next (Some o) else Alone) fused
      ∙ ap (λ l. if is_with (Some (With second)) l then with_next (Some o) else Alone) has
      ∙ taken (nat_eq second second) o (eq-eqb second second refl)

  deep_after : (a : StatementKindTree) (d : Depth) (v : VisibleTree) → d.sets ≡ length v.sets → (depth_after a d).sets ≡ length (after_action a v).sets
  deep_after (Simple (DeclareSet name value)) d v deep = omega (arith, deep, length-append v.sets (name ∷ []))
  deep_after _ d v deep = deep

  low_after : (a : StatementKindTree) (d : Depth) → length p.sets ≤ d.sets → length p.sets ≤ (depth_after a d).sets
  low_after (Simple (DeclareSet name value)) d low = omega (arith, low)
  low_after _ d low = low

  -- as the first two statements of a block
  module _ (index : ℕ) (d : Depth) (n number other_number : ℕ) (label other_label : Option ℕ) (a b : StatementKindTree) (rest : BlockTree) where
    abbrev first_statement : StatementTree
    first_statement = record { number = number; label = label; action = a }

    abbrev second_statement : StatementTree
    second_statement = record { number = other_number; label = other_label; action = b }

    abbrev others : BlockTree
    others = Then other_number other_label b rest

    abbrev whole : FusionRole → List InstructionTree
    whole company =
        plan_in company s number label d (plan p s index d number label a) ++ plan_all p s (index + size_in company (size p s d a)) (depth_after a d) (takes_next company) others

    abbrev remaining : List InstructionTree
    remaining = plan_all p s (index + 1 + 0) (depth_after b (depth_after a d)) false rest

    with_operation : (o : OperationTree) → AreTogether a b o → number < other_number → AllByRecursion (IsOfNeither first_statement second_statement) remaining
        → Split s first_statement second_statement (whole (WithNext o))
    with_operation o does less neither = record {
      before = [];
      instruction = chosen s number label d o;
      rest = remaining;
      all = refl;
      number = refl;
      apply_schedule = refl;
      done = does;
      others_before = tt;
      others_after = neither;
    }

    both_here : (v : VisibleTree) (is_done : Bool) → IsPair p s first_statement second_statement → d.sets ≡ length v.sets → length p.sets ≤ d.sets → ActionIsResolved p v a
        → ActionIsResolved p (after_action a v) b → InOrder n (numbers (Then number label a others)) → IsDone s is_done (Then number label a others)
        → Split s first_statement second_statement (plan_all p s index d is_done (Then number label a others))
    both_here v is_done pair deep low first second order done =
        let does = pair.fit v d deep low first second in
        let fused = ap (λ l. (apply_schedule_at l s).fused) pair.first_has ∙ pair.fused in
        let inner = inner_numbers a in
        let two = in_two (suc n) inner (numbers others) order.1 in
        let three = in_two (suc (length inner + suc n)) (inner_numbers b) (numbers rest) two.1.1 in
        let is : number ≡ n = order.0 in
        let is_other : other_number ≡ length inner + suc n = two.1.0 in
        let m = length (inner_numbers b) + suc (length inner + suc n) in
        let less : number < other_number = omega arith in
        let above : other_number < m = omega arith in
        let neither = neither_above m (length (numbers rest) + m) first_statement second_statement remaining
        (block_between p s m (length (numbers rest) + m) rest (index + 1 + 0) (depth_after b (depth_after a d)) false m three.1 (omega arith) (omega arith)) less above in
        subst (λ t. Split s first_statement second_statement (plan_all p s index d t (Then number label a others))) (sym (not_second is_done number label a others pair.second fused done))
        (subst (λ company. Split s first_statement second_statement (whole company))
        (sym (takes d number other_number label other_label a b rest pair.second does.operation fused pair.second_has does.is))
        (with_operation does.operation does.does less neither))

  module _ (one other : StatementTree) (pair : IsPair p s one other) where
    abbrev Splits : List InstructionTree → Type 0
    Splits is = Split s one other is

    -- one instruction before the rest, which has another number
    one_before : (i : InstructionTree) (is : List InstructionTree) → i.number < one.number → one.number < other.number → Splits is → Splits (i ∷ is)
    one_before i is first second x = split_after s one other (i ∷ []) is ((((λ same. absurd (omega (arith, same))), (λ same. absurd (omega (arith, same)))), tt)) x

    neither_of : (i : InstructionTree) → i.number < one.number → one.number < other.number → IsOfNeither one other i
    neither_of i first second = ((λ same. absurd (omega (arith, same))), (λ same. absurd (omega (arith, same))))

    here : (index : ℕ) (d : Depth) (v : VisibleTree) (is_done : Bool) (n number : ℕ) (label : Option ℕ) (a : StatementKindTree) (rest : BlockTree)
        → BeginsWith one (Then number label a rest) → BeginsWith other rest → d.sets ≡ length v.sets → length p.sets ≤ d.sets → BlockIsResolved p v (Then number label a rest)
        → InOrder n (numbers (Then number label a rest)) → IsDone s is_done (Then number label a rest) → Splits (plan_all p s index d is_done (Then number label a rest))
    here index d v is_done n number label a Empty first second deep low known order done = absurd second
    here index d v is_done n number label a (Then other_number other_label b rest) first second deep low known order done =
        let is = plan_all p s index d is_done (Then number label a (Then other_number other_label b rest)) in
        subst (λ t. Split s t other is) first
        (subst (λ t. Split s (record { number = number; label = label; action = a }) t is) second
        (both_here index d n number other_number label other_label a b rest v is_done
        (subst (λ t. IsPair p s (record { number = number; label = label; action = a }) t) (sym second) (subst (λ t. IsPair p s t other) (sym first) pair))
        deep low known.1 known.2.1 order done))

    mutual
      split_inside : (a : StatementKindTree) (index : ℕ) (d : Depth) (v : VisibleTree) (number : ℕ) (label : Option ℕ) (n : ℕ) → AreNeighboursInside one other a → d.sets ≡ length v.sets
          → length p.sets ≤ d.sets → ActionIsResolved p v a → number < n → InOrder n (inner_numbers a) → Splits (plan p s index d number label a)
      split_inside (If c body) index d v number label n are deep low known above order =
          let up = neighbours_ascend body one other n order are in
          let first : number < one.number = omega (arith, up.from) in
          one_before _ _ first up.two (split_block body (index + 1) d v false n are deep low known.1 order tt)
      split_inside (IfElse c body others) index d v number label n (inl are) deep low known above order =
          let two = in_two n (numbers body) (numbers others) order in
          let m = length (numbers body) + n in
          let up = neighbours_ascend body one other n two.0 are in
          let first : number < one.number = omega (arith, up.from) in
          let to = index + 1 + size_all p s d false body + 1 in
          let last = plan_all p s to d false others in
          let below : other.number < m = up.to in
          one_before _ _ first up.two
          (split_before s one other (plan_all p s (index + 1) d false body) (plain number d (Jump (to + size_all p s d false others)) ∷ last)
          (split_block body (index + 1) d v false n are deep low known.1 two.0 tt) (
            neither_of (plain number d (Jump (to + size_all p s d false others))) first up.two,
            neither_above m (length (numbers others) + m) one other last (block_between p s m (length (numbers others) + m) others to d false m two.1 (omega arith) (omega arith)) up.two below,
          ))
      split_inside (IfElse c body others) index d v number label n (inr are) deep low known above order =
          let two = in_two n (numbers body) (numbers others) order in
          let m = length (numbers body) + n in
          let up = neighbours_ascend others one other m two.1 are in
          let first : number < one.number = omega (arith, up.from) in
          let to = index + 1 + size_all p s d false body + 1 in
          let start = plan_all p s (index + 1) d false body in
          let from : m ≤ one.number = up.from in
          one_before _ _ first up.two
          (split_after s one other start (plain number d (Jump (to + size_all p s d false others)) ∷ plan_all p s to d false others)
          (neither_below n m one other start (block_between p s n m body (index + 1) d false n two.0 (omega arith) (omega arith)) from up.two)
          (one_before _ _ first up.two (split_block others to d v false m are deep low known.2 two.1 tt)))
      split_inside (While c body) index d v number label n are deep low known above order =
          let up = neighbours_ascend body one other n order are in
          let first : number < one.number = omega (arith, up.from) in
          one_before _ _ first up.two (one_before _ _ first up.two
          (split_before s one other (plan_all p s (index + 2) d false body) (plain number d (Jump index) ∷ []) (split_block body (index + 2) d v false n are deep low known.1 order tt)
          (neither_of (plain number d (Jump index)) first up.two, tt)))
      split_inside (For name start end body) index d v number label n are deep low known above order =
          let inner = depth_in_loop d in
          let up = neighbours_ascend body one other n order are in
          let first : number < one.number = omega (arith, up.from) in
          one_before _ _ first up.two (one_before _ _ first up.two (one_before _ _ first up.two (one_before _ _ first up.two
          (split_before s one other (plan_all p s (index + 4) inner false body) (plain number d (Advance name) ∷ loop_step number inner d (Jump (index + 2)) ∷ [])
          (split_block body (index + 4) inner (resolved.in_loop name v) false n are deep low known.3 order tt)
          (neither_of (plain number d (Advance name)) first up.two, (neither_of (loop_step number inner d (Jump (index + 2))) first up.two, tt))))))
      split_inside (Simple a) index d v number label n are deep low known above order = absurd are

      pub split_block : (block : BlockTree) (index : ℕ) (d : Depth) (v : VisibleTree) (is_done : Bool) (n : ℕ) → AreNeighbours one other block → d.sets ≡ length v.sets
          → length p.sets ≤ d.sets → BlockIsResolved p v block → InOrder n (numbers block) → IsDone s is_done block → Splits (plan_all p s index d is_done block)
      split_block Empty index d v is_done n are deep low known order done = absurd are
      split_block (Then number label a rest) index d v is_done n (inl are) deep low known order done =
          here index d v is_done n number label a rest are.0 are.1 deep low known order done
      split_block (Then number label a rest) index d v is_done n (inr (inl are)) deep low known order done =
          let two = in_two (suc n) (inner_numbers a) (numbers rest) order.1 in
          let m = length (inner_numbers a) + suc n in
          let is : number ≡ n = order.0 in
          let company = fusion_role_of p s d is_done label a rest in
          let index_behind = index + size_in company (size p s d a) in
          let last = plan_all p s index_behind (depth_after a d) (takes_next company) rest in
          let up = inside_ascend a one other (suc n) two.0 are in
          let below : other.number < m = up.to in
          split_before s one other (plan_in company s number label d (plan p s index d number label a)) last
          (subst (λ c. Splits (plan_in c s number label d (plan p s index d number label a))) (sym (inside_alone one other d is_done number label a rest are done))
          (split_inside a index d v number label (suc n) are deep low known.1 (omega arith) two.0))
          (neither_above m (length (numbers rest) + m) one other last
          (block_between p s m (length (numbers rest) + m) rest index_behind (depth_after a d) (takes_next company) m two.1 (omega arith) (omega arith)) up.two below)
      split_block (Then number label a rest) index d v is_done n (inr (inr are)) deep low known order done =
          let two = in_two (suc n) (inner_numbers a) (numbers rest) order.1 in
          let m = length (inner_numbers a) + suc n in
          let is : number ≡ n = order.0 in
          let company = fusion_role_of p s d is_done label a rest in
          let own = plan p s index d number label a in
          let index_behind = index + size_in company (size p s d a) in
          let up = neighbours_ascend rest one other m two.1 are in
          let from : m ≤ one.number = up.from in
          let here : (n ≤ number) × (number < m) = (omega arith, omega arith) in
          split_after s one other (plan_in company s number label d own) (plan_all p s index_behind (depth_after a d) (takes_next company) rest)
          (neither_below n m one other (plan_in company s number label d own)
          (company_between p s n m company number label d own here (action_between p s n m a index d number label (suc n) here two.0 (omega arith) (omega arith))) from up.two)
          (split_block rest index_behind (depth_after a d) (after_action a v) (takes_next company) m are (deep_after a d v deep) (low_after a d low) known.2 two.1 (rest_done d is_done label a rest))
