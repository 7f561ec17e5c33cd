-- Proofs of `copied`, src/copies.rt.
use Rattle.std.proofs.Common.{◌<◌, ◌∙◌, length, arith}
use Rattle.lowering.proofs.Copying.{copied_more}
use Rattle.lowering.proofs.copies.copied.Goals as goal

pub lists-preserved : goal.lists-preserved
lists-preserved g c =
    let within : c.lists.list-index < length c.args.lists.now = omega (arith, c.lists-test.true, c.lists.auto.list-index-end) in
    copied_more c.args.lists.now c.lists.copies.items c.push.new.self.items c.lists.list-index c.new.result c.list-item.result c.list-item.result within
    c.lists.invariant c.list-item.is (c.new.ensures ∙ c.in_ok-copy.ensures.items ∙ c.as_slice.ensures) c.in_ok-push.ensures.items
