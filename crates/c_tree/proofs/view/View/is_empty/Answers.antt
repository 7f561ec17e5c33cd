-- Proofs of `is_empty`, src/view.rt.
use Rattle.std.proofs.Common.{◌≡◌, sym, ap, ◌∙◌}
use Rattle.c_tree.specs.Chunks.{ChunkedSet}
use Rattle.c_tree.specs.inside.Chunks.{together}
use Rattle.c_tree.proofs.Rooted.{nothing_together, together_nothing}
use Rattle.c_tree.proofs.view.View.is_empty.Goals as goal

pub returns-then-is_empty : goal.returns-then-is_empty
returns-then-is_empty c =
    let p = c.self.inside in
    let same : together p.prefix.now p.chunks.now.entries ≡ c.args.self.now.entries = ap (λ (s : ChunkedSet). s.entries) c.self.view_is in (
      λ yes. sym same ∙ together_nothing p.prefix.now p.chunks.now.entries (c.is_empty.ensures.0 c.if-is_empty.true) (c.is_empty-then-is_empty.ensures.0 yes),
      λ none. c.is_empty-then-is_empty.ensures.1 (nothing_together p.prefix.now p.chunks.now.entries (same ∙ none)).1,
    )
