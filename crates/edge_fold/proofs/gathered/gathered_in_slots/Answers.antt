-- Proofs of `gathered_in_slots`, src/gathered.rt.
use Rattle.std.proofs.Common.{rules, ◌≡◌, ◌<◌, ◌≤◌, ◌++◌, ◌∷◌, [], ℤ, List, if◌then◌else◌, length, take, refl, sym, ap, ◌∙◌, subst, arith}
use Rattle.std.proofs.lemmas.List.{length-take-le, take_more}
use Rattle.edge_fold.specs.declared.apply_context.FoldStart.TheVariants as start
use Rattle.edge_fold.specs.declared.gathered.GatheredIn.{GatheredIn}
use Rattle.edge_fold.specs.declared.vector_accumulator.VectorAccumulator.{VectorAccumulator}
use Rattle.edge_fold.specs.Gathered.{AllAreNonDescending, IsGatheredBy, gathered_for}
use Rattle.edge_fold.specs.Contributions.{reduced_at}
use Rattle.edge_fold.specs.FoldStarts.{combined_with_seed}
use Rattle.edge_fold.specs.VectorAccumulators.{held_in_with, reduction_in}
use Rattle.edge_fold.specs.inside.VectorAccumulators.{index_in}
use Rattle.edge_fold.proofs.Ascending.{ascending_push}
use Rattle.edge_fold.proofs.Gathering.{gathered_by_more, gathered_more, hidden_slot, onto}
use Rattle.edge_fold.proofs.gathered.gathered_in_slots.Goals as goal

pub slots-preserved-then-find-position : goal.slots-preserved-then-find-position
slots-preserved-then-find-position c =
    let items = c.args.slots.now.slots.items in
    let k = c.slots.position in
    let s : VectorAccumulator = c.index-slot.result.now in
    let inside : k < length items = search rules in
    let ts = take k items in
    let long = length-take-le k items (omega (arith, inside)) in
    let step = take_more items k s inside ∙ ap (λ (t : VectorAccumulator). ts ++ t ∷ []) (sym c.index-slot.ensures) in
    let position : c.find.result ≡ index_in s.vector ts = search rules in
    let before : index_in s.vector ts < length ts = omega (arith, position, long, c.if-find-position.true) in
    record {
      ascending = c.slots.invariant.ascending;
      reduction = λ x r now. c.slots.invariant.reduction x r (sym (ap (λ ss. reduction_in ss x r) step ∙ hidden_slot (λ t. t.reduction) ts s x r before) ∙ now);
      numbers = λ m test vectors sizes is x v r h l.
          c.slots.invariant.numbers m test vectors sizes is x v r h l
          ∙ ap (λ (n : ℤ). if test v then n else h) (sym (ap (λ ss. held_in_with (combined_with_seed start.Unit r) ss x v h) step ∙ hidden_slot (λ t. onto r t.entries v h) ts s x h before));
    }

pub slots-preserved : goal.slots-preserved
slots-preserved c =
    let items = c.args.slots.now.slots.items in
    let k = c.slots.position in
    let s : VectorAccumulator = c.index-slot.result.now in
    let inside : k < length items = search rules in
    let ts = take k items in
    let long = length-take-le k items (omega (arith, inside)) in
    let step = take_more items k s inside ∙ ap (λ (t : VectorAccumulator). ts ++ t ∷ []) (sym c.index-slot.ensures) in
    let position : c.find.result ≡ index_in s.vector ts = search rules in
    let first : length ts ≤ index_in s.vector ts = omega (arith, position, long, c.if-find-position.false) in
    let vs = c.slots.vectors.items in
    let g : GatheredIn = record { vector = s.vector; reduction = s.reduction; numbers = c.in_ok-numbers.numbers } in
    let more = c.in_ok-push.ensures.items in
    record {
      ascending = subst (λ (gs : List GatheredIn). AllAreNonDescending gs) (sym more) (ascending_push vs g c.slots.invariant.ascending c.in_ok-numbers.ensures.ascending);
      reduction = λ x r now. subst (λ (gs : List GatheredIn). IsGatheredBy r x gs) (sym more)
          (gathered_by_more r x ts s vs g refl refl first (c.slots.invariant.reduction x r) (sym (ap (λ ss. reduction_in ss x r) step) ∙ now));
      numbers = λ m test vectors sizes is x v r h l.
          ap (λ (gs : List GatheredIn). reduced_at r v h (gathered_for x gs)) more
          ∙ gathered_more r x v h (test v) ts s vs g refl first (c.slots.invariant.numbers m test vectors sizes is x v r h l) (λ n. c.in_ok-numbers.ensures.given m test vectors sizes is r v n l)
          ∙ ap (λ ss. if test v then held_in_with (combined_with_seed start.Unit r) ss x v h else h) (sym step);
    }
