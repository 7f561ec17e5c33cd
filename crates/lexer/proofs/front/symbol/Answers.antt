-- Proofs of `symbol`, src/front.rt.
use Rattle.lexer.proofs.FrontLaws.{mark_fault}
use Rattle.lexer.proofs.front.symbol.Goals as goal

pub returns-in-None : goal.returns-in-None
returns-in-None c =
    mark_fault c.args.first c.args.rest.now c.requires.class c.in-None.ensures
    (λ second others begins. (
      c.in_default.ensures second others begins,
      λ slash again. c.requires.no_comment others (cc (slash, again, begins)),
    ))
