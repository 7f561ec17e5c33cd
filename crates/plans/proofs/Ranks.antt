-- Each step but a turn leads to a lower rank.
use Rattle.std.proofs.Common.{◌≡◌, ℕ, zero, suc, ◌+◌, ◌-◌, ◌*◌, ◌<◌, ◌≤◌, Bool, true, false, List, [], ◌∷◌, length, inl, inr, Option, Some, None, slice_get, ap, ◌∙◌, refl, arith, subst}
use Rattle.plans.specs.Instruction.{OperationTree, Do, ApplyEdgesTogether, ApplyVerticesTogether, Unless, Enter, UnlessBelow, Advance, Turn, Jump, End, InstructionTree}
use Rattle.plans.specs.Bound.{is_turn, rank_by, rank_where, rank}
use Rattle.plans.proofs.Reaching.{is_inside}
use Rattle.plans.proofs.Targets.{leaving_index, IsHead, LeadsWell, AllLeadWell}

-- where an instruction leads to has a lower rank
abbrev pub LeadsLower : List InstructionTree → (index : ℕ) → OperationTree → Type 0
LeadsLower code index (Unless c to) = (rank code (index + 1) < rank code index) × (rank code to < rank code index)
LeadsLower code index (UnlessBelow name to) = (rank code (index + 1) < rank code index) × (rank code to < rank code index)
LeadsLower code index (Jump to) = rank code to < rank code index
LeadsLower code index Turn = Unit {0}
LeadsLower code index End = Unit {0}
LeadsLower code index _ = rank code (index + 1) < rank code index

leads_at : (code is : List InstructionTree) (index k : ℕ) (i : InstructionTree) → AllLeadWell code index is → slice_get is k ≡ Some i → LeadsWell code (index + k) i.operation
leads_at code [] index k i well at = let bad : None ≡ Some i = at in cc
leads_at code (x ∷ xs) index zero i well at =
    let same : x ≡ i = cc in
    let e : index ≡ index + 0 = omega arith in
    subst (λ (n : ℕ). LeadsWell code n i.operation) e (subst (λ (i : InstructionTree). LeadsWell code index i.operation) same well.0)
leads_at code (x ∷ xs) index (suc n) i well at =
    let e : index + 1 + n ≡ index + suc n = omega arith in
    subst (λ (n : ℕ). LeadsWell code n i.operation) e (leads_at code xs (index + 1) n i well.1 at)

module _ (code : List InstructionTree) (well : AllLeadWell code 0 code) where
  well_at : (index : ℕ) (i : InstructionTree) → slice_get code index ≡ Some i → LeadsWell code index i.operation
  well_at index i at =
      let e : 0 + index ≡ index = omega arith in
      subst (λ (n : ℕ). LeadsWell code n i.operation) e (leads_at code code 0 index i well at)

  low_by : (index : ℕ) (operation : OperationTree) (b : Bool) → LeadsWell code index operation → index < length code → rank_by (length code) index operation b ≤ 2 * (length code - index)
  low_by index (Do action) b leads within = omega arith
  low_by index (ApplyEdgesTogether ends x y) b leads within = omega arith
  low_by index (ApplyVerticesTogether set x y) b leads within = omega arith
  low_by index (Unless c to) true leads within = omega (arith, leads, within)
  low_by index (Unless c to) false leads within = omega arith
  low_by index (Enter name end) b leads within = omega arith
  low_by index (UnlessBelow name to) true leads within = omega (arith, leads, within)
  low_by index (UnlessBelow name to) false leads within = omega arith
  low_by index (Advance name) b leads within = omega arith
  low_by index Turn b leads within = omega arith
  low_by index (Jump to) b leads within = omega arith
  low_by index End b leads within = omega arith

  low_where : (index : ℕ) (o : Option InstructionTree) → slice_get code index ≡ o → rank_where code index o ≤ 2 * (length code - index)
  low_where index None at = omega arith
  low_where index (Some i) at = low_by index i.operation (is_turn (slice_get code (index + 1))) (well_at index i at) (is_inside code index i at)

  -- no rank is greater than that of an index where nothing turns back
  pub low : (index : ℕ) → rank code index ≤ 2 * (length code - index)
  low index = low_where index (slice_get code index) refl

  turn_rank : (index : ℕ) (o : Option InstructionTree) → slice_get code index ≡ o → is_turn o ≡ true → rank_where code index o ≡ 0
  turn_rank index None at turn = cc
  turn_rank index (Some i) at turn = of_operation i.operation turn
    where
      of_operation : (operation : OperationTree) → is_turn (Some (record i { operation = operation })) ≡ true → rank_by (length code) index operation (is_turn (slice_get code (index + 1))) ≡ 0
      of_operation Turn h = refl
      of_operation (Do action) h = cc
      of_operation (ApplyEdgesTogether ends x y) h = cc
      of_operation (ApplyVerticesTogether set x y) h = cc
      of_operation (Unless c to) h = cc
      of_operation (Enter name end) h = cc
      of_operation (UnlessBelow name to) h = cc
      of_operation (Advance name) h = cc
      of_operation (Jump to) h = cc
      of_operation End h = cc

  head_rank_by : (index to : ℕ) (operation : OperationTree) → leaving_index operation ≡ Some to → rank_by (length code) index operation true ≡ 2 * (length code - to) + 1
  head_rank_by index to (Unless c at) h = let same : at ≡ to = cc in ap (λ (n : ℕ). 2 * (length code - n) + 1) same
  head_rank_by index to (UnlessBelow name at) h = let same : at ≡ to = cc in ap (λ (n : ℕ). 2 * (length code - n) + 1) same
  head_rank_by index to (Do action) h = cc
  head_rank_by index to (ApplyEdgesTogether ends x y) h = cc
  head_rank_by index to (ApplyVerticesTogether set x y) h = cc
  head_rank_by index to (Enter name end) h = cc
  head_rank_by index to (Advance name) h = cc
  head_rank_by index to Turn h = cc
  head_rank_by index to (Jump at) h = cc
  head_rank_by index to End h = cc

  rank_is : (index : ℕ) (i : InstructionTree) (b : Bool) → slice_get code index ≡ Some i → is_turn (slice_get code (index + 1)) ≡ b → rank code index ≡ rank_by (length code) index i.operation b
  rank_is index i b at turn = ap (rank_where code index) at ∙ ap (rank_by (length code) index i.operation) turn

  head_rank : (head to : ℕ) → IsHead code head to → rank code head ≡ 2 * (length code - to) + 1
  head_rank head to h = rank_is head h.instruction true h.stands h.turn ∙ head_rank_by head to h.instruction.operation h.leaves

  next_lower : (index : ℕ) → index < length code → rank code index ≡ 2 * (length code - index) → rank code (index + 1) < rank code index
  next_lower index within e = let below = low (index + 1) in omega (arith, below, within, e)

  later_lower : (index to : ℕ) → index < length code → index < to → rank code index ≡ 2 * (length code - index) → rank code to < rank code index
  later_lower index to within later e = let below = low to in omega (arith, below, within, later, e)

  test_lower : (index to : ℕ) (b : Bool) (i : InstructionTree) → slice_get code index ≡ Some i → is_turn (slice_get code (index + 1)) ≡ b → leaving_index i.operation ≡ Some to → index < to
      → index < length code
      → (b ≡ false → rank code index ≡ 2 * (length code - index)) → (rank code (index + 1) < rank code index) × (rank code to < rank code index)
  test_lower index to true i at turn leaves later within e =
      let own = head_rank index to (record { instruction = i; stands = at; leaves = leaves; turn = turn }) in
      let none = turn_rank (index + 1) (slice_get code (index + 1)) refl turn in
      let below = low to in
      (omega (arith, own, none), omega (arith, own, below))
  test_lower index to false i at turn leaves later within e = (next_lower index within (e refl), later_lower index to within later (e refl))

  lower_by : (index : ℕ) (i : InstructionTree) (operation : OperationTree) → i.operation ≡ operation → slice_get code index ≡ Some i → LeadsWell code index operation → index < length code
      → rank code index ≡ rank_by (length code) index operation (is_turn (slice_get code (index + 1))) → LeadsLower code index operation
  lower_by index i (Do action) same at leads within e = next_lower index within e
  lower_by index i (ApplyEdgesTogether ends x y) same at leads within e = next_lower index within e
  lower_by index i (ApplyVerticesTogether set x y) same at leads within e = next_lower index within e
  lower_by index i (Unless c to) same at leads within e =
      test_lower index to (is_turn (slice_get code (index + 1))) i at refl (ap leaving_index same) leads within (λ no. e ∙ ap (rank_by (length code) index (Unless c to)) no)
  lower_by index i (Enter name end) same at leads within e = next_lower index within e
  lower_by index i (UnlessBelow name to) same at leads within e =
      test_lower index to (is_turn (slice_get code (index + 1))) i at refl (ap leaving_index same) leads.0 within (λ no. e ∙ ap (rank_by (length code) index (UnlessBelow name to)) no)
  lower_by index i (Advance name) same at leads within e = next_lower index within e
  lower_by index i Turn same at leads within e = tt
  lower_by index i (Jump to) same at (inl later) within e = later_lower index to within later e
  lower_by index i (Jump to) same at (inr head) within e = let there = head_rank to (index + 1) head in omega (arith, there, within, e)
  lower_by index i End same at leads within e = tt

  pub leads_lower : (index : ℕ) (i : InstructionTree) → slice_get code index ≡ Some i → LeadsLower code index i.operation
  leads_lower index i at =
      lower_by index i i.operation refl at (well_at index i at) (is_inside code index i at) (rank_is index i (is_turn (slice_get code (index + 1))) at refl)
