-- Proofs of `first_from`, src/adjacency.rt.
use Rattle.std.proofs.Common.{◌≡◌, ℕ, ◌+◌, ◌*◌, ◌%◌, ◌<◌, ◌≤◌, [], length, refl, sym, ◌∙◌, ap, arith}
use Rattle.pages.specs.Vertices.{neighbours_of}
use Rattle.flat_snapshot.specs.inside.Lists.{lists_in, degrees_of}
use Rattle.flat_snapshot.specs.inside.Chunks.{slots_in}
use Rattle.flat_snapshot.proofs.Chunks.{slots_length, slots_blocks}
use Rattle.flat_snapshot.proofs.Numbered.{rises_in, lists_in_are}
use Rattle.flat_snapshot.proofs.Walks.{passed, next_at, none_from}
use Rattle.flat_snapshot.proofs.adjacency.Adjacency.first_from.Goals as goal

pub returns-clause-degrees : goal.returns-clause-degrees
returns-clause-degrees c =
    let a = c.self.inside in
    let all = lists_in 0 (slots_in a.chunks.items) in
    let rises = rises_in 0 (slots_in a.chunks.items) (slots_blocks a.chunks.items c.self.invariant.1) in
    let none : (w : ℕ) → c.args.from ≤ w → w < c.loop-vertex.vertex → neighbours_of w all ≡ [] = rw (c.self.view_is) c.loop-vertex.invariant.none in
    let past : 64 * (0 + length (slots_in a.chunks.items)) ≤ c.loop-vertex.vertex = omega (arith, slots_length a.chunks.items c.self.invariant.1, c.loop-vertex-test.false, c.len.ensures) in
    rw (← c.self.view_is) (ap degrees_of (passed c.args.from c.loop-vertex.vertex 0 (64 * (0 + length (slots_in a.chunks.items))) all rises
    (lists_in_are 0 (slots_in a.chunks.items) (slots_blocks a.chunks.items c.self.invariant.1)) c.loop-vertex.invariant.from none ∙ none_from c.loop-vertex.vertex 0 (64 * (0 + length (slots_in a.chunks.items))) all rises past))

pub returns-then-degree-gt0-clause-degrees : goal.returns-then-degree-gt0-clause-degrees
returns-then-degree-gt0-clause-degrees c =
    let a = c.self.inside in
    let v = c.loop-vertex.vertex in
    let all = lists_in 0 (slots_in a.chunks.items) in
    let rises = rises_in 0 (slots_in a.chunks.items) (slots_blocks a.chunks.items c.self.invariant.1) in
    let none : (w : ℕ) → c.args.from ≤ w → w < v → neighbours_of w all ≡ [] = rw (c.self.view_is) c.loop-vertex.invariant.none in
    let list : neighbours_of (v % 64) c.in-Some.block.now ≡ neighbours_of v all = c.in-Some.ensures.lists v refl ∙ ap (neighbours_of v) (sym c.self.view_is) in
    let degree : c.degree-degree.result ≡ length (neighbours_of v all) = c.degree-degree.ensures ∙ ap length list in
    let some : 0 < length (neighbours_of v all) = omega (arith, c.if-degree-gt0.true, degree) in
    rw (← c.self.view_is, degree) (ap degrees_of (passed c.args.from v 0 (64 * (0 + length (slots_in a.chunks.items))) all rises
    (lists_in_are 0 (slots_in a.chunks.items) (slots_blocks a.chunks.items c.self.invariant.1)) c.loop-vertex.invariant.from none ∙ next_at v 0 (64 * (0 + length (slots_in a.chunks.items))) all rises some))
