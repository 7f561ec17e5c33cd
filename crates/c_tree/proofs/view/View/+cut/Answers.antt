-- Proofs of `cut` and its mutually recursive functions, src/cut.rt.
use Rattle.std.proofs.Common.{◌≡◌, ◌++◌, ◌∷◌, to_z, of_z, w64, arith, rules}
use Rattle.c_tree.specs.Chunks.{IsSetOf}
use Rattle.c_tree.specs.Parts.{IsCut}
use Rattle.c_tree.proofs.Cuts.{left_ascends, cut_left, right_ascends, cut_right, cut_here}
use Rattle.c_tree.proofs.view.View.+cut.Goals as goal

pub join-requires-clause-ascending : goal.join-requires-clause-ascending
join-requires-clause-ascending t c =
    let p = c.in_ok-inner.inner in
    let is : IsCut c.args.key c.in-Some.left p.below p.found p.above = search rules in
    let right : c.in_ok-share.field-0 ≡ c.in-Some.right = search rules in
    let round : to_z w64 (of_z w64 c.in-Some.weight) ≡ c.in-Some.weight = search rules in
    rw (right, round) (left_ascends c.args.key c.args.self.now c.in-Some.left c.in-Some.head c.in-Some.weight c.in-Some.right c.in-Some.ensures p.below p.found p.above c.if-key-head.true is)

pub join-requires-then-head-key-clause-ascending : goal.join-requires-then-head-key-clause-ascending
join-requires-then-head-key-clause-ascending t c =
    let p = c.in_ok-inner-2.inner in
    let is : IsCut c.args.key c.in-Some.right p.below p.found p.above = search rules in
    let left : c.in_ok-share-2.field-0 ≡ c.in-Some.left = search rules in
    let round : to_z w64 (of_z w64 c.in-Some.weight) ≡ c.in-Some.weight = search rules in
    rw (left, round) (right_ascends c.args.key c.args.self.now c.in-Some.left c.in-Some.head c.in-Some.weight c.in-Some.right c.in-Some.ensures p.below p.found p.above c.if-head-key.true is)

pub returns-in_ok-above : goal.returns-in_ok-above
returns-in_ok-above t c =
    let p = c.in_ok-inner.inner in
    let is : IsCut c.args.key c.in-Some.left p.below p.found p.above = search rules in
    let right : c.in_ok-share.field-0 ≡ c.in-Some.right = search rules in
    let made : IsSetOf (p.above.entries ++ (c.in-Some.head, c.in-Some.weight) ∷ c.in_ok-share.field-0.entries) p.above.chunk_size c.in_ok-above.above = search rules in
    cut_left c.args.key c.args.self.now c.in-Some.left c.in-Some.head c.in-Some.weight c.in-Some.right c.in-Some.ensures p.below p.found p.above c.if-key-head.true is c.in_ok-above.above
    (rw right at made)

pub returns-in_ok-below : goal.returns-in_ok-below
returns-in_ok-below t c =
    let p = c.in_ok-inner-2.inner in
    let is : IsCut c.args.key c.in-Some.right p.below p.found p.above = search rules in
    let left : c.in_ok-share-2.field-0 ≡ c.in-Some.left = search rules in
    let made : IsSetOf (c.in_ok-share-2.field-0.entries ++ (c.in-Some.head, c.in-Some.weight) ∷ p.below.entries) c.in_ok-share-2.field-0.chunk_size c.in_ok-below.below = search rules in
    cut_right c.args.key c.args.self.now c.in-Some.left c.in-Some.head c.in-Some.weight c.in-Some.right c.in-Some.ensures p.below p.found p.above c.if-head-key.true is c.in_ok-below.below
    (rw left at made)

pub returns-in_ok-share-4 : goal.returns-in_ok-share-4
returns-in_ok-share-4 t c =
    let left : c.in_ok-share-3.field-0 ≡ c.in-Some.left = search rules in
    let right : c.in_ok-share-4.field-0 ≡ c.in-Some.right = search rules in
    let round : to_z w64 (of_z w64 c.in-Some.weight) ≡ c.in-Some.weight = search rules in
    rw (left, right, round) (cut_here c.args.key c.args.self.now c.in-Some.left c.in-Some.head c.in-Some.weight c.in-Some.right c.in-Some.ensures
    (omega (arith, c.if-key-head.false, c.if-head-key.false)))
