-- The numbers of the instructions of a block are those of its statements.
use Rattle.std.proofs.Common.{◌≡◌, ap, sym, subst, ◌∙◌, inl, inr, ℕ, suc, ◌+◌, ◌<◌, ◌≤◌, Bool, false, List, [], ◌∷◌, ◌++◌, length, length-append, arith, Option}
use Rattle.std.specs.List.{AllByRecursion}
use Rattle.typed_tree.specs.BlockTree.{StatementKindTree, Simple, If, IfElse, While, For, BlockTree, Empty, Then}
use Rattle.typed_tree.specs.ProgramTree.{ProgramTree}
use Rattle.apply_options.specs.ScheduleTree.{ScheduleTree}
use Rattle.algorithm_meaning.specs.declared.state.Depth.{Depth}
use Rattle.plans.specs.Instruction.{InstructionTree, Advance, Jump}
use Rattle.plans.specs.Fusing.{FusionRole, Alone, WithNext, WithPrevious, fusion_role_of, takes_next}
use Rattle.plans.specs.Plan.{depth_after, depth_in_loop, loop_step, plain, plan, plan_all, plan_in, size, size_all, size_in}
use Rattle.type_laws.specs.Numbers.{InOrder, inner_numbers, numbers}
use Rattle.plan_laws.specs.Neighbours.{AreNeighbours, AreNeighboursInside, BeginsWith, StatementTree}
use Rattle.plan_laws.specs.OneInstruction.{IsOfNeither}
use Rattle.plan_laws.proofs.Sizes.{all_two}

-- numbers in order, in two parts
pub in_two : (n : ℕ) (xs ys : List ℕ) → InOrder n (xs ++ ys) → InOrder n xs × InOrder (length xs + n) ys
in_two n [] ys order = (tt, let same : n ≡ 0 + n = omega arith in subst (λ m. InOrder m ys) same order)
in_two n (x ∷ xs) ys order =
    let further = in_two (suc n) xs ys order.1 in
    let same : length xs + suc n ≡ suc (length xs) + n = omega arith in
    ((order.0, further.0), subst (λ m. InOrder m ys) same further.1)

-- the number of an instruction is one of these
abbrev pub IsBetween : (low high : ℕ) → InstructionTree → Type 0
IsBetween low high i = (low ≤ i.number) × (i.number < high)

abbrev pub AreBetween : (low high : ℕ) → List InstructionTree → Type 0
AreBetween low high is = AllByRecursion (IsBetween low high) is

pub two_between : (low high : ℕ) (xs ys : List InstructionTree) → AreBetween low high xs → AreBetween low high ys → AreBetween low high (xs ++ ys)
two_between low high xs ys = all_two (IsBetween low high) xs ys

module _ (p : ProgramTree) (s : ScheduleTree) (low high : ℕ) where
  pub company_between : (company : FusionRole) (number : ℕ) (label : Option ℕ) (d : Depth) (is : List InstructionTree) → (low ≤ number) × (number < high) → AreBetween low high is
      → AreBetween low high (plan_in company s number label d is)
  company_between Alone number label d is own all = all
  company_between (WithNext operation) number label d is own all = (own, tt)
  company_between WithPrevious number label d is own all = tt

  mutual
    pub action_between : (a : StatementKindTree) (index : ℕ) (d : Depth) (number : ℕ) (label : Option ℕ) (n : ℕ) → (low ≤ number) × (number < high) → InOrder n (inner_numbers a) → low ≤ n
        → length (inner_numbers a) + n ≤ high → AreBetween low high (plan p s index d number label a)
    action_between (Simple a) index d number label n own order from to = (own, tt)
    action_between (If c body) index d number label n own order from to = (own, block_between body (index + 1) d false n order from to)
    action_between (IfElse c body other) index d number label n own order from to =
        let to_other = index + 1 + size_all p s d false body + 1 in
        let two = in_two n (numbers body) (numbers other) order in
        let all : length (numbers body ++ numbers other) + n ≤ high = to in
        let first : length (numbers body) + n ≤ high = omega (arith, length-append (numbers body) (numbers other)) in
        let second : length (numbers other) + (length (numbers body) + n) ≤ high = omega (arith, length-append (numbers body) (numbers other)) in (
          own,
          two_between low high (plan_all p s (index + 1) d false body) (plain number d (Jump (to_other + size_all p s d false other)) ∷ plan_all p s to_other d false other)
              (block_between body (index + 1) d false n two.0 from first)
              (own, block_between other to_other d false (length (numbers body) + n) two.1 (omega arith) second),
        )
    action_between (While c body) index d number label n own order from to = (
      own,
      (own, two_between low high (plan_all p s (index + 2) d false body) (plain number d (Jump index) ∷ []) (block_between body (index + 2) d false n order from to) (own, tt)),
    )
    action_between (For name start end body) index d number label n own order from to =
        let deep = depth_in_loop d in (
          own,
          (
            own,
            (
              own,
              (
                own,
                two_between low high (plan_all p s (index + 4) deep false body) (plain number d (Advance name) ∷ loop_step number deep d (Jump (index + 2)) ∷ [])
                    (block_between body (index + 4) deep false n order from to) (own, (own, tt)),
              ),
            ),
          ),
        )

    pub block_between : (b : BlockTree) (index : ℕ) (d : Depth) (is_done : Bool) (n : ℕ) → InOrder n (numbers b) → low ≤ n → length (numbers b) + n ≤ high
        → AreBetween low high (plan_all p s index d is_done b)
    block_between Empty index d is_done n order from to = tt
    block_between (Then number label action rest) index d is_done n order from to =
        let company = fusion_role_of p s d is_done label action rest in
        let own = plan p s index d number label action in
        let inner = inner_numbers action in
        let two = in_two (suc n) inner (numbers rest) order.1 in
        let is : number ≡ n = order.0 in
        let all : suc (length (inner ++ numbers rest)) + n ≤ high = to in
        let here : low ≤ number = omega arith in
        let below : number < high = omega arith in
        let first : length inner + suc n ≤ high = omega (arith, length-append inner (numbers rest)) in
        let second : length (numbers rest) + (length inner + suc n) ≤ high = omega (arith, length-append inner (numbers rest)) in
        let index_behind = index + size_in company (size p s d action) in
        two_between low high (plan_in company s number label d own) (plan_all p s index_behind (depth_after action d) (takes_next company) rest)
        (company_between company number label d own (here, below) (action_between action index d number label (suc n) (here, below) two.0 (omega arith) first))
        (block_between rest index_behind (depth_after action d) (takes_next company) (length inner + suc n) two.1 (omega arith) second)

-- two neighbours have ascending numbers among those of their block
pub record AreAscending (low high : ℕ) (one other : StatementTree) : Type 0 where
  pub from : low ≤ one.number
  pub two : one.number < other.number
  pub to : other.number < high

higher : (low high low' high' : ℕ) (one other : StatementTree) → low' ≤ low → high ≤ high' → AreAscending low high one other → AreAscending low' high' one other
higher low high low' high' one other from to x =
    let a : low ≤ one.number = x.from in
    let b : other.number < high = x.to in
    record { from = omega arith; two = x.two; to = omega arith }

begins_at : (n : ℕ) (b : BlockTree) (t : StatementTree) → InOrder n (numbers b) → BeginsWith t b → (t.number ≡ n) × (0 < length (numbers b))
begins_at n Empty t order begins = absurd begins
begins_at n (Then number label action rest) t order begins = (ap (λ (x : StatementTree). x.number) (sym begins) ∙ order.0, omega arith)

mutual
  pub inside_ascend : (a : StatementKindTree) (one other : StatementTree) (n : ℕ) → InOrder n (inner_numbers a) → AreNeighboursInside one other a
      → AreAscending n (length (inner_numbers a) + n) one other
  inside_ascend (If c body) one other n order are = neighbours_ascend body one other n order are
  inside_ascend (IfElse c body others) one other n order (inl are) =
      let two = in_two n (numbers body) (numbers others) order in
      higher n (length (numbers body) + n) n (length (numbers body ++ numbers others) + n) one other (omega arith) (omega (arith, length-append (numbers body) (numbers others)))
      (neighbours_ascend body one other n two.0 are)
  inside_ascend (IfElse c body others) one other n order (inr are) =
      let two = in_two n (numbers body) (numbers others) order in
      let m = length (numbers body) + n in
      higher m (length (numbers others) + m) n (length (numbers body ++ numbers others) + n) one other (omega arith) (omega (arith, length-append (numbers body) (numbers others)))
      (neighbours_ascend others one other m two.1 are)
  inside_ascend (While c body) one other n order are = neighbours_ascend body one other n order are
  inside_ascend (For name start end body) one other n order are = neighbours_ascend body one other n order are
  inside_ascend _ one other n order are = absurd are

  pub neighbours_ascend : (b : BlockTree) (one other : StatementTree) (n : ℕ) → InOrder n (numbers b) → AreNeighbours one other b → AreAscending n (length (numbers b) + n) one other
  neighbours_ascend Empty one other n order are = absurd are
  neighbours_ascend (Then number label action rest) one other n order (inl are) =
      let inner = inner_numbers action in
      let two = in_two (suc n) inner (numbers rest) order.1 in
      let second = begins_at (length inner + suc n) rest other two.1 are.1 in
      let first : one.number ≡ n = ap (λ (x : StatementTree). x.number) (sym are.0) ∙ order.0 in
      let at : other.number ≡ length inner + suc n = second.0 in
      let some : 0 < length (numbers rest) = second.1 in
      record { from = omega arith; two = omega arith; to = omega (arith, length-append inner (numbers rest)) }
  neighbours_ascend (Then number label action rest) one other n order (inr (inl are)) =
      let inner = inner_numbers action in
      let two = in_two (suc n) inner (numbers rest) order.1 in
      higher (suc n) (length inner + suc n) n (suc (length (inner ++ numbers rest)) + n) one other (omega arith) (omega (arith, length-append inner (numbers rest)))
      (inside_ascend action one other (suc n) two.0 are)
  neighbours_ascend (Then number label action rest) one other n order (inr (inr are)) =
      let inner = inner_numbers action in
      let two = in_two (suc n) inner (numbers rest) order.1 in
      let m = length inner + suc n in
      higher m (length (numbers rest) + m) n (suc (length (inner ++ numbers rest)) + n) one other (omega arith) (omega (arith, length-append inner (numbers rest)))
      (neighbours_ascend rest one other m two.1 are)

-- instructions with lower numbers, and with higher ones, are of neither of the two
pub neither_below : (low high : ℕ) (one other : StatementTree) (is : List InstructionTree) → AreBetween low high is → high ≤ one.number → one.number < other.number
    → AllByRecursion (IsOfNeither one other) is
neither_below low high one other [] all first second = tt
neither_below low high one other (i ∷ is) all first second =
    let below : i.number < high = all.0.1 in
    (((λ same. absurd (omega (arith, same))), (λ same. absurd (omega (arith, same)))), neither_below low high one other is all.1 first second)

pub neither_above : (low high : ℕ) (one other : StatementTree) (is : List InstructionTree) → AreBetween low high is → one.number < other.number → other.number < low
    → AllByRecursion (IsOfNeither one other) is
neither_above low high one other [] all first second = tt
neither_above low high one other (i ∷ is) all first second =
    let above : low ≤ i.number = all.0.0 in
    (((λ same. absurd (omega (arith, same))), (λ same. absurd (omega (arith, same)))), neither_above low high one other is all.1 first second)
