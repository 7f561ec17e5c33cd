-- Proofs of `by_degrees`, src/partition.rt.
use Rattle.std.proofs.Common.{◌≡◌, ◌++◌, ◌∙◌, ap, sym, subst, List, ℕ, arith}
use Rattle.crew.specs.Boundaries.{boundaries}
use Rattle.crew.specs.Partition.{AreEnds}
use Rattle.crew.proofs.AllPartitions.{all_are_ends, none_of_none}
use Rattle.crew.proofs.partition.Partition.by_degrees.Goals as goal
use Rattle.crew.proofs.partition.Partition.by_degrees.Goals.{then-count-gt0+in_ok-push_ends, else-count-gt0}

pub returns-clause-ends : goal.returns-clause-ends
returns-clause-ends g c =
    let p = c.args.parallelization in
    let ds = g.D.DegreeList.degrees c.args.degrees.now in
    let same = c.get-workers.ensures.value in
    elim c.if-count-gt0.branch [
      | then-count-gt0+in_ok-push_ends w ↦ ap (λ v. v.items) w.ends-is ∙ w.in_ok-push_ends.ensures
          ∙ ap (λ (es : List ℕ). es ++ boundaries p c.get-workers.result c.args.count ds) c.new-ends.ensures.items
          ∙ ap (λ (n : ℕ). boundaries p n c.args.count ds) same
      | else-count-gt0 w ↦
          let none : c.args.count ≡ 0 = omega (arith, w.if-count-gt0.false) in
          ap (λ v. v.items) w.ends-is ∙ c.new-ends.ensures.items
          ∙ sym (none_of_none p c.args.workers ds (λ h. c.requires.degrees h ∙ none))
          ∙ ap (λ k. boundaries p c.args.workers k ds) (sym none)
    ]

pub returns-clause-whole : goal.returns-clause-whole
returns-clause-whole g c =
    let some = c.get-workers.ensures.valid.0 in
    let same = c.get-workers.ensures.value in
    subst (AreEnds 0 c.args.count) (sym (returns-clause-ends g c))
    (all_are_ends c.args.parallelization c.args.workers c.args.count (g.D.DegreeList.degrees c.args.degrees.now) (omega (arith, some, same)) c.requires.degrees)
