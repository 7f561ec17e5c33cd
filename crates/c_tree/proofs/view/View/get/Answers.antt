-- Proofs of `get`, src/lookup.rt.
use Rattle.std.proofs.Common.{◌≡◌, Some, to_z, of_z, w64, ◌∙◌, ap, arith, rules}
use Rattle.c_tree.specs.Chunks.{ChunkedSet}
use Rattle.c_tree.specs.inside.Chunks.{together}
use Rattle.c_tree.proofs.Turns.{starts, turn_left, turn_right, at_head, stands_in_tail}
use Rattle.c_tree.proofs.view.View.get.Goals as goal

pub loop-below-init : goal.loop-below-init
loop-below-init c =
    let v = c.self.inside in
    starts c.args.key c.args.self.now.entries (together v.prefix.now v.chunks.now.entries) (ap (λ (s : ChunkedSet). s.entries) c.self.view_is) c.self.invariant.ascending

pub loop-below-preserved-then-key-head-2 : goal.loop-below-preserved-then-key-head-2
loop-below-preserved-then-key-head-2 c =
    let l = c.loop-below in
    let p = c.in-Some in
    turn_left c.args.key c.args.self.now.entries l.tail.now l.chunks.now p.below.now p.head p.at_head.now p.above.now p.ensures l.invariant c.if-key-head-2.true

pub loop-below-preserved : goal.loop-below-preserved
loop-below-preserved c =
    let l = c.loop-below in
    let p = c.in-Some in
    rw c.tail-tail.ensures (turn_right c.args.key c.args.self.now.entries l.tail.now l.chunks.now p.below.now p.head p.at_head.now p.above.now p.ensures l.invariant
    (omega (arith, c.if-key-head.false, c.if-key-head-2.false)))

pub returns-then-key-head : goal.returns-then-key-head
returns-then-key-head c =
    let l = c.loop-below in
    let p = c.in-Some in
    let round : to_z w64 (of_z w64 c.weight.result) ≡ c.weight.result = search rules in
    ap Some (round ∙ c.weight.ensures) ∙ (at_head c.args.key c.args.self.now.entries l.tail.now l.chunks.now p.below.now p.head p.at_head.now p.above.now p.ensures l.invariant c.if-key-head.true)

pub returns : goal.returns
returns c =
    let l = c.loop-below in
    stands_in_tail c.args.key c.args.self.now.entries l.tail.now l.chunks.now c.weight_in.result c.in_default.ensures l.invariant c.weight_in.ensures
