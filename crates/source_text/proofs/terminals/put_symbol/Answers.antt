-- Proofs of `put_symbol`, src/terminals.rt.
use Rattle.std.proofs.lemmas.Result.{on_ok_weaker}
use Rattle.syntax.specs.Terminals.{OfSymbol}
use Rattle.source_text.proofs.Puts.{put_terminal}
use Rattle.source_text.proofs.terminals.put_symbol.Goals as goal

pub returns : goal.returns
returns c =
    on_ok_weaker c.put.result
    (put_terminal (OfSymbol c.args.symbol) c.spelling.result.now c.gap_after_symbol.result c.args.out.now.items c.put.new.out.items c.spelling.ensures c.gap_after_symbol.ensures) c.put.ensures
