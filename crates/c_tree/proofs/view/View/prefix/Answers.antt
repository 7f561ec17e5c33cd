-- Proofs of `prefix`, src/view.rt.
use Rattle.std.proofs.Common.{sym, subst, ◌∙◌, ap}
use Rattle.c_tree.specs.Chunks.{ChunkedSet, HasNoHead}
use Rattle.c_tree.proofs.Rooted.{only_loose}
use Rattle.c_tree.proofs.view.View.prefix.Goals as goal

pub returns-clause-entries : goal.returns-clause-entries
returns-clause-entries c =
    let p = c.self.inside in
    only_loose p.chunk_size p.prefix.now p.chunks.now.entries c.self.invariant (subst (λ (s : ChunkedSet). HasNoHead s.chunk_size s.entries) (sym c.self.view_is) c.requires)
    ∙ ap (λ (s : ChunkedSet). s.entries) c.self.view_is
