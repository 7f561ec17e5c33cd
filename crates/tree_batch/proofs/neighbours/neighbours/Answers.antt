-- Proofs of `neighbours`, src/neighbours.rt.
use Rattle.std.proofs.Common.{◌%◌, sym, ap, ◌∙◌}
use Rattle.std.proofs.lemmas.Bool.{false≢true}
use Rattle.pages.specs.Vertices.{neighbours_of}
use Rattle.vertex_blocks.specs.Blocks.{vertices_at}
use Rattle.tree_batch.proofs.Neighbourhoods.{in_block}
use Rattle.tree_batch.proofs.neighbours.neighbours.Goals as goal

pub returns-in_default : goal.returns-in_default
returns-in_default c =
    in_block c.args.vertex c.args.tree.now.entries c.requires ∙ ap (λ o. neighbours_of (c.args.vertex % 64) (vertices_at o)) (sym c.in_default.ensures)

pub returns-then-is_empty : goal.returns-then-is_empty
returns-then-is_empty c =
    in_block c.args.vertex c.args.tree.now.entries c.requires ∙ ap (λ o. neighbours_of (c.args.vertex % 64) (vertices_at o)) (sym c.in-Some.ensures) ∙ sym c.neighbours-neighbours.ensures
    ∙ c.is_empty.ensures.0 c.if-is_empty.true

pub returns : goal.returns
returns c =
    let is = c.neighbours-neighbours.ensures ∙ ap (λ o. neighbours_of (c.args.vertex % 64) (vertices_at o)) c.in-Some.ensures ∙ sym (in_block c.args.vertex c.args.tree.now.entries c.requires) in
    (is, λ none. false≢true (sym c.if-is_empty.false ∙ c.is_empty.ensures.1 (is ∙ none)))
