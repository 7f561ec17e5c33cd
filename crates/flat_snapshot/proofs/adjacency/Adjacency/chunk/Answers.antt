-- Proofs of `chunk`, src/adjacency.rt.
use Rattle.std.proofs.Common.{◌≡◌, ℕ, ℤ, ◌<◌, true, false, List, Result, Ok, Err, IfOk, length, get_or, sym, ◌∙◌, ap, subst, arith}
use Rattle.std.specs.Result.{MatchResult}
use Rattle.std.specs.declared.sync.Arc.{Arc}
use Rattle.std.proofs.lemmas.List.{get_or_default}
use Rattle.pages.specs.Vertices.{neighbours_of}
use Rattle.vertex_blocks.specs.Blocks.{lists_of}
use Rattle.flat_snapshot.specs.declared.chunk.Chunk.{Chunk}
use Rattle.flat_snapshot.specs.inside.Chunks.{is_changed, IsChunkOf}
use Rattle.flat_snapshot.proofs.Following.{kept_chunk}
use Rattle.flat_snapshot.proofs.adjacency.Adjacency.chunk.Goals as goal

-- what is cloned is the chunk that it was cloned from
cloned : {Z E : Type 0} (es : List (ℕ × List (ℕ × ℤ))) (k : ℕ) (r : Result (Arc Chunk Z) E) (c : Arc Chunk Z) → MatchResult r (λ d. d.value ≡ c.value) (λ x. ¬ ⊥) → IsChunkOf es k c.value.blocks → IfOk r (λ d. IsChunkOf es k d.value.blocks)
cloned es k (Ok d) c is made = subst (λ v. IsChunkOf es k v.blocks) (sym is) made
cloned es k (Err e) c is made = tt

pub returns : goal.returns
returns c =
    let a = c.self.inside in
    let k = c.args.number in
    let es = lists_of c.args.tree.now.entries in
    let chunk = c.index.result.now in
    let inside : k < length a.chunks.items = omega (arith, c.if-index-len.false, c.len.ensures) in
    let off : is_changed c.args.changed.now k ≡ false = get_or_default c.args.changed.now k true false (omega (arith, c.if-index-changed.false)) ∙ c.if-changed-index.false in
    let kept : IsChunkOf es k (get_or a.chunks.items k chunk).value.blocks =
    kept_chunk k a.chunks.items chunk es c.self.invariant.1 inside
    (λ u at. ap (neighbours_of u) c.self.view_is ∙ c.requires.same u (ap (is_changed c.args.changed.now) at ∙ off)) in
    cloned es k c.clone.result chunk c.clone.ensures.cases (subst (λ it. IsChunkOf es k it.value.blocks) (sym c.index.ensures) kept)
