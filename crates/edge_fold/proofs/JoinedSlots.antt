-- What was joined, one join after the other.
use Rattle.std.proofs.Common.{◌≡◌, ℕ, ◌<◌, ◌≤◌, ◌==◌, ℤ, Bool, true, false, List, [], ◌++◌, length, get_or, set, take, refl, sym, ap, ◌∙◌, subst, arith, cond}
use Rattle.std.proofs.lemmas.Bool.Decides.{nat_tests}
use Rattle.weighted_edges.specs.Edge.{Edge}
use Rattle.apply_options.specs.declared.reduction.Reduction.{Reduction}
use Rattle.algorithm_meaning.specs.Arithmetic.{reduced}
use Rattle.algorithm_meaning.proofs.Reductions.{reductions}
use Rattle.edge_fold.specs.declared.apply_context.ApplyContext.{ApplyContext}
use Rattle.edge_fold.specs.declared.apply_context.FoldStart.{FoldStart}
use Rattle.edge_fold.specs.declared.apply_context.FoldStart.TheVariants as start
use Rattle.edge_fold.specs.declared.accumulator.Accumulator.{Accumulator}
use Rattle.edge_fold.specs.declared.scratch.Scratch.{Scratch}
use Rattle.edge_fold.specs.declared.vector_accumulator.VectorAccumulator.{VectorAccumulator}
use Rattle.edge_fold.specs.declared.vector_accumulator.VectorAccumulators.{VectorAccumulators}
use Rattle.typed_tree.specs.FunctionStatementTree.{FunctionStatementsTree}
use Rattle.algorithm_meaning.specs.State.{StateValue}
use Rattle.algorithm_meaning.specs.Value.{entry}
use Rattle.edge_fold.specs.Folded.{HasFoldedFor, waiting}
use Rattle.edge_fold.specs.Contributions.{all_given, given_on, pairs, reduced_at}
use Rattle.edge_fold.specs.Held.{held_with}
use Rattle.edge_fold.specs.FoldStarts.{combined_with_seed, first_entry, seed}
use Rattle.edge_fold.specs.inside.VectorAccumulators.{HaveJoined, held_in, index_in}
use Rattle.edge_fold.specs.VectorAccumulators.{active, held_in_with, reduction_in}
use Rattle.edge_fold.proofs.Edges.{fold_before, fold_more}
use Rattle.edge_fold.proofs.Folds.{reduced_at-append}
use Rattle.edge_fold.proofs.SlotRows.{first_vector, of_slot-change}

-- to combine with a number and reduce, in either order
pub combined_more : (s : FoldStart) (r : Reduction) (h y n : ℤ) → combined_with_seed s r h (reduced r y n) ≡ reduced r (combined_with_seed s r h y) n
combined_more start.OldEntry r h y n = refl
combined_more start.Unit r h y n = let law = reductions r in sym (law.associative h y n)

pub joined_nothing : (f : ApplyContext) (x : ℕ) (r : Reduction) (s : VectorAccumulators) → HaveJoined f x r s s []
joined_nothing f x r s = record { entries = λ v h. refl; reduction = λ was. was }

pub joined_more : (f : ApplyContext) (x : ℕ) (r : Reduction) (a b c : VectorAccumulators) (gs hs : List (ℕ × ℤ)) → HaveJoined f x r a b gs → HaveJoined f x r b c hs → HaveJoined f x r a c (gs ++ hs)
joined_more f x r a b c gs hs one more = record {
  entries = λ v h.
      let o = first_entry f x v h in
      more.entries v h ∙ ap (λ (y : ℤ). reduced_at r v y hs) (one.entries v h)
      ∙ sym (reduced_at-append r v (held_in_with (combined_with_seed f.start r) (active a) x v o) gs hs);
  reduction = λ was. more.reduction (one.reduction was);
}

-- what is given otherwise, if entries reduced with it are the same
pub joined_alike : (f : ApplyContext) (x : ℕ) (r : Reduction) (a b : VectorAccumulators) (gs hs : List (ℕ × ℤ)) → ((v : ℕ) (n : ℤ) → reduced_at r v n gs ≡ reduced_at r v n hs)
    → HaveJoined f x r a b gs → HaveJoined f x r a b hs
joined_alike f x r a b gs hs same one = record {
  entries = λ v h. one.entries v h ∙ same v (held_in_with (combined_with_seed f.start r) (active a) x v (first_entry f x v h));
  reduction = one.reduction;
}

-- to join to the entries of a vector's slot
pub equal : (m n : ℕ) → (m == n) ≡ true → m ≡ n
equal m n h = grind (arith, nat_tests)

pub along : (f : ApplyContext) (x y v : ℕ) (q r : Reduction) (k : FoldStart) (a b : Accumulator) (h o : ℤ) (gs : ℕ → List (ℕ × ℤ)) → y ≡ x → q ≡ r → k ≡ f.start → o ≡ first_entry f y v h
    → held_with (combined_with_seed k q) b v o ≡ reduced_at q v (held_with (combined_with_seed k q) a v o) (gs y)
    → held_with (combined_with_seed f.start r) b v (first_entry f x v h) ≡ reduced_at r v (held_with (combined_with_seed f.start r) a v (first_entry f x v h)) (gs x)
along f x y v q r k a b h o gs own by begins from joined =
    let at = subst (λ (y : ℕ). held_with (combined_with_seed k q) b v o ≡ reduced_at q v (held_with (combined_with_seed k q) a v o) (gs y)) own joined in
    let with = subst (λ (q : Reduction). held_with (combined_with_seed k q) b v o ≡ reduced_at q v (held_with (combined_with_seed k q) a v o) (gs x)) by at in
    let starts = subst (λ (k : FoldStart). held_with (combined_with_seed k r) b v o ≡ reduced_at r v (held_with (combined_with_seed k r) a v o) (gs x)) begins with in
    let seeds = from ∙ ap (λ (y : ℕ). first_entry f y v h) own in
    subst (λ (o : ℤ). held_with (combined_with_seed f.start r) b v o ≡ reduced_at r v (held_with (combined_with_seed f.start r) a v o) (gs x)) seeds starts

same_number : (r : Reduction) (v : ℕ) (n : ℤ) (gs : List (ℕ × ℤ)) → gs ≡ [] → reduced_at r v n gs ≡ n
same_number r v n gs none = ap (λ (hs : List (ℕ × ℤ)). reduced_at r v n hs) none

pub joined_slot : (f : ApplyContext) (x y p : ℕ) (r : Reduction) (before now after : VectorAccumulators) (was t : VectorAccumulator) (gs : List (ℕ × ℤ))
    → active after ≡ take now.used (set now.slots.items p t)
    → p ≡ index_in y (active now) → p < now.used → now.used ≤ length now.slots.items → was ≡ get_or now.slots.items p was → t.vector ≡ was.vector → t.reduction ≡ was.reduction
    → ((combine : ℤ → ℤ → ℤ) (x v : ℕ) (h : ℤ) → held_in_with combine (active now) x v h ≡ held_in_with combine (active before) x v h)
    → (reduction_in (active before) x r ≡ r → reduction_in (active now) x r ≡ r)
    → ((v : ℕ) (h : ℤ) → (y == x) ≡ true → held_with (combined_with_seed f.start r) t.entries v (first_entry f x v h) ≡ reduced_at r v
    (held_with (combined_with_seed f.start r) was.entries v (first_entry f x v h)) gs)
    → ((y == x) ≡ false → gs ≡ [])
    → HaveJoined f x r before after gs
joined_slot f x y p r before now after was t gs is index inside few slot vector reduction held kept here others =
    let own = vector ∙ ap (λ (s : VectorAccumulator). s.vector) slot ∙ first_vector now.slots.items y now.used p was index inside few in
    record {
      entries = λ v h.
          let o = first_entry f x v h in
          let combine = combined_with_seed f.start r in
          let F = λ (z : ℤ). reduced_at r v z gs in
          ap (λ (ss : List VectorAccumulator). held_in_with combine ss x v o) is
          ∙ of_slot-change (λ s. held_with combine s.entries v o) F o y x now.used p now.slots.items t was index inside few own
          (λ at. here v h at ∙ ap (λ (s : VectorAccumulator). F (held_with combine s.entries v o)) slot)
          (λ off z. same_number r v z gs (others off))
          ∙ ap F (held combine x v o);
      reduction = λ has.
          ap (λ (ss : List VectorAccumulator). reduction_in ss x r) is
          ∙ of_slot-change (λ s. s.reduction) (λ q. q) r y x now.used p now.slots.items t was index inside few own
          (λ at. reduction ∙ ap (λ (s : VectorAccumulator). s.reduction) slot)
          (λ off z. refl)
          ∙ kept has;
    }

-- edges that are joined at once, before those that wait, if to reduce with what is joined is to reduce with what they give
pub folded_before_alike : (f : ApplyContext) (m : StateValue) (steps : List FunctionStatementsTree) (es more : List Edge) (a b : Scratch) (x : ℕ) (r : Reduction) (gs : List (ℕ × ℤ))
    → waiting f.weighted b.pairs ≡ waiting f.weighted a.pairs
    → HaveJoined f x r a.slots b.slots gs → ((v : ℕ) (n : ℤ) → v < f.vertices → reduced_at r v n gs ≡ reduced_at r v n (given_on x (all_given m steps) more))
    → HasFoldedFor f m steps es a x r → HasFoldedFor f m steps (es ++ more) b x r
folded_before_alike f m steps es more a b x r gs same joined alike has = record {
  entries = λ v h l.
      let g = all_given m steps in
      let o = first_entry f x v h in
      let n = held_in_with (combined_with_seed f.start r) (active a.slots) x v o in
      ap (λ (ws : List Edge). reduced_at r v (held_in_with (combined_with_seed f.start r) (active b.slots) x v o) (given_on x g ws)) same
      ∙ ap (λ (y : ℤ). reduced_at r v y (given_on x g (waiting f.weighted a.pairs))) (joined.entries v h ∙ alike v n l)
      ∙ fold_before r v x n o g (waiting f.weighted a.pairs) es more (has.entries v h l);
  reduction = joined.reduction has.reduction;
}

pub folded_before : (f : ApplyContext) (m : StateValue) (steps : List FunctionStatementsTree) (es more : List Edge) (a b : Scratch) (x : ℕ) (r : Reduction)
    → waiting f.weighted b.pairs ≡ waiting f.weighted a.pairs
    → HaveJoined f x r a.slots b.slots (given_on x (all_given m steps) more) → HasFoldedFor f m steps es a x r → HasFoldedFor f m steps (es ++ more) b x r
folded_before f m steps es more a b x r same joined has = folded_before_alike f m steps es more a b x r (given_on x (all_given m steps) more) same joined (λ v n l. refl) has

-- nothing was joined to slots of which none was in use, and no edge waits
pub folded_nothing : (f : ApplyContext) (m : StateValue) (steps : List FunctionStatementsTree) (none : VectorAccumulators) (s : Scratch) (x : ℕ) (r : Reduction) → none.used ≡ 0 → s.pairs.count ≡ 0
    → HaveJoined f x r none s.slots [] → HasFoldedFor f m steps [] s x r
folded_nothing f m steps none s x r empty waits joined = record {
  entries = λ v h l.
      let o = first_entry f x v h in
      let n = held_in_with (combined_with_seed f.start r) (active s.slots) x v o in
      ap (λ (k : ℕ). reduced_at r v n (given_on x (all_given m steps) (pairs (take k s.pairs.sources) (take k s.pairs.destinations) (cond f.weighted (take k s.pairs.weights) [])))) waits
      ∙ joined.entries v h ∙ ap (λ (k : ℕ). held_in_with (combined_with_seed f.start r) (take k none.slots.items) x v o) empty;
  reduction = joined.reduction (ap (λ (k : ℕ). reduction_in (take k none.slots.items) x r) empty);
}

-- edges that wait
pub folded_later : (f : ApplyContext) (m : StateValue) (steps : List FunctionStatementsTree) (es more : List Edge) (a b : Scratch) (x : ℕ) (r : Reduction) (w : Bool) → f.weighted ≡ w
    → b.slots ≡ a.slots → waiting w b.pairs ≡ waiting w a.pairs ++ more
    → HasFoldedFor f m steps es a x r → HasFoldedFor f m steps (es ++ more) b x r
folded_later f m steps es more a b x r w counts same waits has = record {
  entries = λ v h l.
      let g = all_given m steps in
      let o = first_entry f x v h in
      let n = λ (s : VectorAccumulators). held_in_with (combined_with_seed f.start r) (active s) x v o in
      let at = subst (λ (k : Bool). waiting k b.pairs ≡ waiting k a.pairs ++ more) (sym counts) waits in
      ap (λ (s : VectorAccumulators). reduced_at r v (n s) (given_on x g (waiting f.weighted b.pairs))) same
      ∙ ap (λ (ws : List Edge). reduced_at r v (n a.slots) (given_on x g ws)) at
      ∙ fold_more r v x (n a.slots) o g (waiting f.weighted a.pairs) es more (has.entries v h l);
  reduction = ap (λ (s : VectorAccumulators). reduction_in (active s) x r) same ∙ has.reduction;
}

-- new entries that began with the old ones
pub old_entries : (f : ApplyContext) (m : StateValue) (x v : ℕ) (r : Reduction) (ss : List VectorAccumulator) (gs hs : List (ℕ × ℤ)) → f.start ≡ start.OldEntry → f.vectors.now.vectors ≡ m.vectors
    → reduced_at r v (held_in_with (combined_with_seed f.start r) ss x v (first_entry f x v (entry m.vectors x v))) gs ≡ reduced_at r v (first_entry f x v (entry m.vectors x v)) hs
    → reduced_at r v (held_in ss x v (entry m.vectors x v)) gs ≡ reduced_at r v (entry m.vectors x v) hs
old_entries f m x v r ss gs hs old vectors has =
    let o = entry m.vectors x v in
    let then = subst (λ (k : FoldStart). reduced_at r v (held_in_with (combined_with_seed k r) ss x v (seed k (entry f.vectors.now.vectors x v) o)) gs ≡ reduced_at r v
    (seed k (entry f.vectors.now.vectors x v) o) hs) old has in
    subst (λ (vs : List (List ℤ)). reduced_at r v (held_in ss x v (entry vs x v)) gs ≡ reduced_at r v (entry vs x v) hs) vectors then

-- new entries that began with the unit, and are combined with a number
pub unit_entries : (f : ApplyContext) (x v : ℕ) (h : ℤ) (r : Reduction) (ss : List VectorAccumulator) (gs hs : List (ℕ × ℤ)) → f.start ≡ start.Unit
    → reduced_at r v (held_in_with (combined_with_seed f.start r) ss x v (first_entry f x v h)) gs ≡ reduced_at r v (first_entry f x v h) hs
    → reduced_at r v (held_in_with (combined_with_seed start.Unit r) ss x v h) gs ≡ reduced_at r v h hs
unit_entries f x v h r ss gs hs unit has =
    let o = entry f.vectors.now.vectors x v in
    subst (λ (k : FoldStart). reduced_at r v (held_in_with (combined_with_seed k r) ss x v (seed k o h)) gs ≡ reduced_at r v (seed k o h) hs) unit has
