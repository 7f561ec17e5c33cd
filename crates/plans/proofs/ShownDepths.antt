-- What an instruction shows it keeps.
use Rattle.std.proofs.Common.{◌≡◌, ℕ, ◌+◌, false, List, [], ◌∷◌, Bool, Option, Some, slice_get, arith}
use Rattle.typed_tree.specs.BlockTree.{StatementKindTree, Simple, If, IfElse, While, For, BlockTree, Empty, Then}
use Rattle.typed_tree.specs.ProgramTree.{ProgramTree}
use Rattle.apply_options.specs.ScheduleTree.{ScheduleTree}
use Rattle.algorithm_meaning.specs.declared.state.Depth.{Depth}
use Rattle.plans.specs.Instruction.{Advance, InstructionTree, Jump}
use Rattle.plans.specs.Fusing.{FusionRole, Alone, WithNext, WithPrevious, fusion_role_of, takes_next}
use Rattle.plans.specs.inside.Plan.{IsWithin}
use Rattle.plans.specs.Plan.{depth_after, depth_after_all, depth_in_loop, loop_step, main_depth, plain, plan, plan_all, plan_in, plan_of, size, size_all, size_in, depth_with_integer}
use Rattle.plans.proofs.Depths.{within_itself, within_loop}
use Rattle.plans.proofs.Origins.{AllOf, all_append, all_at}

-- no more is shown than kept
abbrev pub ShowsWithin : InstructionTree → Type 0
ShowsWithin i = IsWithin i.shown i.keep

one_deeper : (d : Depth) → IsWithin d (depth_with_integer d)
one_deeper d = record { integers = omega arith; conditions = omega arith; sets = omega arith }

in_company : (company : FusionRole) (s : ScheduleTree) (number : ℕ) (label : Option ℕ) (d : Depth) (is : List InstructionTree) → AllOf ShowsWithin is
    → AllOf ShowsWithin (plan_in company s number label d is)
in_company Alone s number label d is own = own
in_company (WithNext operation) s number label d is own = (within_itself d, tt)
in_company WithPrevious s number label d is own = tt

module _ (p : ProgramTree) (s : ScheduleTree) where
  mutual
    action_shows : (a : StatementKindTree) (index number : ℕ) (label : Option ℕ) (d : Depth) → AllOf ShowsWithin (plan p s index d number label a)
    action_shows (Simple a) index number label d = (within_itself d, tt)
    action_shows (If c body) index number label d = (within_itself d, block_shows body false (index + 1) d)
    action_shows (IfElse c body others) index number label d =
        let to = index + 1 + size_all p s d false body + 1 in (
          within_itself d,
          all_append ShowsWithin (plan_all p s (index + 1) d false body) (plain number d (Jump (to + size_all p s d false others)) ∷ plan_all p s to d false others)
              (block_shows body false (index + 1) d) (within_itself d, block_shows others false to d),
        )
    action_shows (While c body) index number label d = (
      within_itself d,
      (
        within_itself d,
        all_append ShowsWithin (plan_all p s (index + 2) d false body) (plain number d (Jump index) ∷ []) (block_shows body false (index + 2) d) (within_itself d, tt),
      ),
    )
    action_shows (For name first end body) index number label d =
        let deep = depth_in_loop d in (
          within_itself d,
          (
            one_deeper d,
            (
              within_loop d,
              (
                within_loop d,
                all_append ShowsWithin (plan_all p s (index + 4) deep false body) (plain number d (Advance name) ∷ loop_step number deep d (Jump (index + 2)) ∷ [])
                    (block_shows body false (index + 4) deep) (within_itself d, (within_loop d, tt)),
              ),
            ),
          ),
        )

    block_shows : (b : BlockTree) (is_done : Bool) (index : ℕ) (d : Depth) → AllOf ShowsWithin (plan_all p s index d is_done b)
    block_shows Empty is_done index d = tt
    block_shows (Then number label action rest) is_done index d =
        let company = fusion_role_of p s d is_done label action rest in
        let own = plan p s index d number label action in
        let n = size_in company (size p s d action) in
        all_append ShowsWithin (plan_in company s number label d own) (plan_all p s (index + n) (depth_after action d) (takes_next company) rest)
        (in_company company s number label d own (action_shows action index number label d))
        (block_shows rest (takes_next company) (index + n) (depth_after action d))

-- each instruction of a plan does so
pub shows_within : (p : ProgramTree) (s : ScheduleTree) (index : ℕ) (i : InstructionTree) → slice_get (plan_of p s) index ≡ Some i → IsWithin i.shown i.keep
shows_within p s index i at =
    let d = main_depth p in
    let last = depth_after_all p.main d in
    all_at ShowsWithin (plan_of p s) index i
    (all_append ShowsWithin (plan_all p s 0 d false p.main) _ (block_shows p s p.main false 0 d) (within_itself last, tt)) at
