-- Proofs of `fill_weights_below`, src/neighbours.rt.
use Rattle.std.proofs.Common.{reverse, length, ◌∙◌, ap, arith}
use Rattle.std.specs.Map.{values_of}
use Rattle.std.proofs.lemmas.List.{length-map}
use Rattle.pages.proofs.Filling.{turned}
use Rattle.pages.proofs.neighbours.Neighbours.fill_weights_below.Goals as goal

pub returns : goal.returns
returns c =
    let ws = values_of c.args.self.now in
    c.reverse.ensures.after ∙ ap reverse c.fill_weights_from.ensures ∙ turned ws c.args.end (length c.args.block.now)
    (omega (arith, c.requires.within, length-map c.args.self.now (λ e. e.1))) c.requires.room
