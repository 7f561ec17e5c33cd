-- Two fused statements of a checked program are one instruction of its plan.
use Rattle.std.proofs.Common.{◌≡◌, refl, ap, subst, ◌∙◌, inl, inr, ℕ, ◌<◌, ◌≤◌, false, [], ◌∷◌, arith, Option, Some}
use Rattle.std.specs.Prelude.{Ok}
use Rattle.typed_tree.specs.BlockTree.{StatementKindTree, If, IfElse, While, For, BlockTree, Empty, Then}
use Rattle.typed_tree.specs.ProgramTree.{ProgramTree}
use Rattle.typed_tree.specs.Resolved.{IsResolved, after_action, in_main}
use Rattle.apply_options.specs.declared.apply_schedule.Fused.TheVariants.{With}
use Rattle.apply_options.specs.ScheduleTree.{ScheduleTree, apply_schedule_at, apply_schedule_of}
use Rattle.schedule.specs.Calls.{schedule_of}
use Rattle.schedule.specs.Laws.{IsFusedWell}
use Rattle.schedule.proofs.FusedOnce.{accepted_fuses_in_pairs}
use Rattle.schedule.proofs.FusedPairs.{accepted_fuses_well}
use Rattle.plans.specs.Instruction.{End}
use Rattle.plans.specs.Plan.{depth_after_all, main_depth, plain, plan_all}
use Rattle.type_laws.specs.AskedVectors.{AskForWritten, AsksForWritten}
use Rattle.type_laws.specs.EachStatement.{HoldsInside, HoldsOfEach, SetNames, names_before, names_after}
use Rattle.type_laws.specs.LabelIndices.{LabelsAreInOrder}
use Rattle.type_laws.specs.Numbers.{InOrder, numbers}
use Rattle.type_laws.specs.VisibleSets.{NamesSets, NamesSetsApart}
use Rattle.plan_laws.specs.Neighbours.{AreNeighbours, AreNeighboursInside, BeginsWith, StatementTree}
use Rattle.plan_laws.specs.OneInstruction.{IsOneInstruction}
use Rattle.plan_laws.proofs.Applies.{sets_stay, statement_apply}
use Rattle.plan_laws.proofs.Counted.{neighbours_ascend}
use Rattle.plan_laws.proofs.Pairs.{fused_do}
use Rattle.plan_laws.proofs.Sites.{AreFused, fused_stand}
use Rattle.plan_laws.proofs.Splits.{IsPair, Split, split_before, split_block}

-- what holds of each statement of main holds of both
module _ (P : SetNames → StatementKindTree → Type 0) (one other : StatementTree) where
  record HoldsOfBoth : Type 0 where
    pub names : SetNames
    pub first : P names one.action
    pub second : P (names_after one.action names) other.action

  at_both : (names : SetNames) (number : ℕ) (label : Option ℕ) (a : StatementKindTree) (rest : BlockTree) → BeginsWith one (Then number label a rest) → BeginsWith other rest
      → HoldsOfEach P names (Then number label a rest) → HoldsOfBoth
  at_both names number label a Empty first second all = absurd second
  at_both names number label a (Then n l b rest) first second all =
      let is : a ≡ one.action = ap (λ (t : StatementTree). t.action) first in
      let is_other : b ≡ other.action = ap (λ (t : StatementTree). t.action) second in
      record {
        names = names;
        first = subst (λ x. P names x) is all.0;
        second = subst (λ x. P (names_after x names) other.action) is (subst (λ x. P (names_after a names) x) is_other all.2.0);
      }

  mutual
    both_inside : (a : StatementKindTree) (names : SetNames) → AreNeighboursInside one other a → HoldsInside P names a → HoldsOfBoth
    both_inside (If c body) names are all = both_of body names are all
    both_inside (IfElse c body others) names (inl are) all = both_of body names are all.0
    both_inside (IfElse c body others) names (inr are) all = both_of others names are all.1
    both_inside (While c body) names are all = both_of body names are all
    both_inside (For name start end body) names are all = both_of body names are all
    both_inside _ names are all = absurd are

    both_of : (b : BlockTree) (names : SetNames) → AreNeighbours one other b → HoldsOfEach P names b → HoldsOfBoth
    both_of Empty names are all = absurd are
    both_of (Then number label a rest) names (inl are) all = at_both names number label a rest are.0 are.1 all
    both_of (Then number label a rest) names (inr (inl are)) all = both_inside a names are all.1
    both_of (Then number label a rest) names (inr (inr are)) all = both_of rest (names_after a names) are all.2

module _ (p : ProgramTree) (s : ScheduleTree) (all : IsResolved p) (named : NamesSetsApart p) (asked : AskForWritten p) (first second : ℕ)
    (fused : (apply_schedule_of first s).fused ≡ Some (With second)) (well : IsFusedWell p first second) (both : AreFused p.main first second well.one well.other) where
  pair : IsPair p s both.one both.other
  pair =
      let sets = both_of (NamesSets p) both.one both.other p.main (names_before named.constants_before p.sets) both.neighbours named.each in
      let vectors = both_of (λ names a. AsksForWritten p a) both.one both.other p.main asked.names both.neighbours asked.each in
      let names = names_after both.one.action sets.names in
      record {
        first = first;
        second = second;
        first_has = both.first_has;
        second_has = both.second_has;
        fused = fused;
        fit = λ v d deep low one other.
            fused_do p all v names d deep low sets.second.0 both.one.action both.other.action well.one well.other
            (statement_apply p v names both.one.action well.one both.first_applies one (sets_stay p both.one.action sets.names sets.first.1) vectors.first)
            (statement_apply p (after_action both.one.action v) names both.other.action well.other both.second_applies other sets.second.1 vectors.second)
            well.same_sets well.independent;
      }

  is_one : InOrder 1 (numbers p.main) → Split s both.one both.other (plan_all p s 0 (main_depth p) false p.main) → IsOneInstruction p s first second
  is_one order x =
      let up = neighbours_ascend p.main both.one both.other 1 order both.neighbours in
      let from : 1 ≤ both.one.number = up.from in
      let less : both.one.number < both.other.number = up.two in
      let end = plain 0 (depth_after_all p.main (main_depth p)) End in
      let y = split_before s both.one both.other (plan_all p s 0 (main_depth p) false p.main) (end ∷ []) x (((λ same. absurd (omega (arith, same))), (λ same. absurd (omega (arith, same)))), tt) in
      record {
        first = both.one;
        second = both.other;
        neighbours = both.neighbours;
        first_has = both.first_has;
        second_has = both.second_has;
        two = λ same. absurd (omega (arith, same));
        before = y.before;
        instruction = y.instruction;
        after = y.rest;
        plan = y.all;
        number = y.number;
        apply_schedule = y.apply_schedule ∙ ap (λ l. apply_schedule_at l s) both.first_has;
        together = y.done;
        others_before = y.others_before;
        others_after = y.others_after;
      }

pub fused_are_one : (p : ProgramTree) (s : ScheduleTree) → IsResolved p → NamesSetsApart p → AskForWritten p → LabelsAreInOrder p → InOrder 1 (numbers p.main) → schedule_of p ≡ Ok s
    → (first second : ℕ) → (apply_schedule_of first s).fused ≡ Some (With second) → IsOneInstruction p s first second
fused_are_one p s all named asked labels order accepted first second fused =
    let well = accepted_fuses_well p s accepted first second fused in
    let both = fused_stand p labels.first first second labels.ordered well in
    is_one p s all named asked first second fused well both order
    (split_block p s (accepted_fuses_in_pairs p s accepted) both.one both.other (pair p s all named asked first second fused well both) p.main 0 (main_depth p) (in_main p) false 1 both.neighbours refl
    (omega arith) all.main order tt)
