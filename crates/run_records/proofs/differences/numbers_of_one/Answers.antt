-- Proofs of `numbers_of_one`, src/differences.rt.
use Rattle.std.proofs.Common.{ℕ, ◌++◌, ◌∙◌, List, ap, ap₂}
use Rattle.run_records.proofs.SideBySide.{alike_at_end, alike_further, all_after, further}
use Rattle.run_records.proofs.differences.numbers_of_one.Goals as goal

pub numbers-preserved : goal.numbers-preserved
numbers-preserved c =
    let first = c.args.first.now in
    let second = c.args.second.now in
    let found = c.numbers.found.items in
    let more = c.push_lesser.new.found.items in
    let l = c.numbers-test.true in
    let m = c.if-right-second.true in
    let on = c.advanced-left.ensures in
    let on_second = c.advanced-right.ensures in
    let ends = further first second found more c.numbers.left c.numbers.right c.advanced-left.result c.advanced-right.result l m on.next on.same on_second.next on_second.same in
    record {
      left = ends.1;
      right = ends.2;
      alike = alike_further first second found more c.numbers.left c.numbers.right c.advanced-left.result c.advanced-right.result l m on.next on.same on_second.next on_second.same
          c.in_ok-push_lesser.ensures c.numbers.invariant.alike;
    }

pub returns : goal.returns
returns c v off =
    alike_at_end c.args.first.now c.args.second.now c.numbers.found.items _ c.numbers.left c.numbers.right v c.numbers.invariant.alike
    (c.in_ok-extend_from_slice-2.ensures.items ∙ ap₂ (λ (us vs : List ℕ). us ++ vs)
    (c.in_ok-extend_from_slice.ensures.items ∙ ap (λ (us : List ℕ). c.numbers.found.items ++ us) (all_after c.args.first.now c.numbers.left)) (all_after c.args.second.now c.numbers.right)) off
