-- Proofs of `root`, src/view.rt.
use Rattle.std.proofs.Common.{◌≡◌, to_z, of_z, w64, sym, ap, ◌∙◌, rules}
use Rattle.tail_codec.specs.Spelling.{BasedList}
use Rattle.c_tree.specs.inside.Parts.{in_chunks}
use Rattle.c_tree.proofs.Rooted.{left_part, right_part, is_root}
use Rattle.c_tree.proofs.view.View.root.Goals as goal

pub new-left-requires : goal.new-left-requires
new-left-requires c =
    let p = c.self.inside in
    let t = c.in_ok-below in
    left_part p.chunk_size p.prefix.now p.chunks.now t.below.now t.key t.at_head.now t.above.now c.self.invariant t.ensures

pub new-right-requires : goal.new-right-requires
new-right-requires c =
    let p = c.self.inside in
    let t = c.in_ok-below in
    rw c.tail.ensures (right_part p.chunk_size p.prefix.now p.chunks.now t.below.now t.key t.at_head.now t.above.now c.self.invariant t.ensures)

pub returns : goal.returns
returns c =
    let p = c.self.inside in
    let t = c.in_ok-below in
    let round : to_z w64 (of_z w64 c.weight.result) ≡ c.weight.result = search rules in
    rw (round, c.weight.ensures)
    (is_root p.chunk_size p.prefix.now p.chunks.now t.below.now t.key t.at_head.now t.above.now c.self.invariant t.ensures
    c.args.self.now c.new-left.result c.new-right.result (sym c.self.view_is) c.new-left.ensures
    (c.new-right.ensures ∙ ap (λ (v : BasedList). in_chunks p.chunk_size v t.above.now) c.tail.ensures))
