-- Proofs of `destination_words`, src/pieces.rt.
use Rattle.std.proofs.Common.{◌≡◌, ℕ, ◌<◌, Bool, Option, IfSome, ◌∙◌, subst}
use Rattle.std.proofs.lemmas.Option.{IfSome_then}
use Rattle.kernels.specs.EdgeApply.{is_member}
use Rattle.kernels.specs.State.{StateValue}
use Rattle.kernels.specs.Registers.{HasSizes}
use Rattle.vertex_sets.specs.VertexSet.{VertexSubset}
use Rattle.edge_fold.specs.Ends.{IsEndTest}
use Rattle.edge_apply.proofs.Bits.{words_have_members}
use Rattle.push_engine.proofs.work.PushWork.destination_words.Goals as goal

pub returns-in-Some : goal.returns-in-Some
returns-in-Some c =
    let w = c.args.self.now in
    let passing = subst (λ (b : Option VertexSubset). IfSome b (λ s. (m : StateValue) (to : ℕ → Bool) → w.apply.vectors.now.vectors ≡ m.vectors → HasSizes w.apply.sizes.now m
    → IsEndTest w.apply.to m to
    → (v : ℕ) → v < w.apply.flat.now.vertices → is_member v s.members ≡ to v)) c.in-Some.is w.destinations in
    IfSome_then c.words.result c.words.ensures.members
    (λ words are m to vectors sizes is v l. words_have_members c.in-Some.set words.now are v ∙ passing m to vectors sizes is v l)

pub returns-in-None : goal.returns-in-None
returns-in-None c =
    IfSome_then c.words_of_end.result c.words_of_end.ensures (λ words are m to vectors sizes is v l. are m to is v)
