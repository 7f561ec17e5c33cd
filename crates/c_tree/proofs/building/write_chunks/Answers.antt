-- Proofs of `write_chunks`, src/building.rt.
use Rattle.std.proofs.Common.{◌≡◌, ℕ, ◌+◌, ℤ, ◌∷◌, ◌++◌, [], Some, ◌∙◌, ap, rules}
use Rattle.std.specs.Map.{keys_of}
use Rattle.ascending_lists.specs.Ascending.{AscendsFrom}
use Rattle.tail_codec.specs.Spelling.{based_list}
use Rattle.c_tree.specs.Chunks.{head_value}
use Rattle.c_tree.proofs.Making.{before_ascends, next_ascends, next_cut, next_shorter, one_chunk}
use Rattle.c_tree.proofs.building.write_chunks.Goals as goal

pub write-requires : goal.write-requires
write-requires c =
    let head = c.in-Some.head.now in
    let after = c.from.result in
    let cells : c.loop-head.rest ≡ (head, c.weight-weight.result) ∷ after = search rules in
    let up : AscendsFrom 0 (keys_of ((head, c.weight-weight.result) ∷ after)) = rw cells at c.loop-head.invariant.ascending in
    rw c.split_at_head-tail.ensures.front (before_ascends c.args.chunk_size (head + 1) after up.2)

pub loop-head-smaller : goal.loop-head-smaller
loop-head-smaller c =
    let h : ℕ × ℤ = (c.in-Some.head.now, c.weight-weight.result) in
    let cells : c.loop-head.rest ≡ h ∷ c.from.result = search rules in
    next_shorter c.args.chunk_size c.loop-head.rest h c.from.result c.split_at_head-tail.result.1 cells c.split_at_head-tail.ensures.rest

pub loop-head-preserved : goal.loop-head-preserved
loop-head-preserved c =
    let l = c.loop-head in
    let b = c.args.chunk_size in
    let head = c.in-Some.head.now in
    let weight = c.weight-weight.result in
    let h : ℕ × ℤ = (head, weight) in
    let after = c.from.result in
    let next = c.split_at_head-tail.result.1 in
    let cells : l.rest ≡ h ∷ after = search rules in
    let is = c.split_at_head-tail.ensures.rest in
    let made : c.new.result ≡ head_value weight (based_list (Some head) c.split_at_head-tail.result.0) = search rules in
    let more : c.push.new.self.items ≡ l.chunks.items ++ (head, c.new.result) ∷ [] = search rules in
    record {
      whole = one_chunk b l.rest h after next cells is l.chunks.items c.push.new.self.items c.new.result c.args.entries l.invariant.cut
          (made ∙ ap (λ v. head_value weight (based_list (Some head) v)) c.split_at_head-tail.ensures.front) more l.invariant.whole;
      ascending = next_ascends b l.rest h after next cells is l.invariant.ascending;
      cut = next_cut b l.rest h after next cells is;
    }
