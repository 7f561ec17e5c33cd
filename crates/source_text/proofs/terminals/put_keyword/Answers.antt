-- Proofs of `put_keyword`, src/terminals.rt.
use Rattle.std.proofs.lemmas.Result.{on_ok_weaker}
use Rattle.syntax.specs.Terminals.{LeadingKeyword, OfKeyword}
use Rattle.source_text.proofs.Puts.{put_terminal}
use Rattle.source_text.proofs.terminals.put_keyword.Goals as goal

pub returns-clause-statement_keyword : goal.returns-clause-statement_keyword
returns-clause-statement_keyword c =
    on_ok_weaker c.put.result
    (λ is at. put_terminal
    (LeadingKeyword c.args.keyword at) c.spelling.result.now c.gap_after_keyword.result c.args.out.now.items c.put.new.out.items c.spelling.ensures c.gap_after_keyword.ensures is) c.put.ensures

pub returns-clause-reserved : goal.returns-clause-reserved
returns-clause-reserved c =
    on_ok_weaker c.put.result
    (put_terminal (OfKeyword c.args.keyword) c.spelling.result.now c.gap_after_keyword.result c.args.out.now.items c.put.new.out.items c.spelling.ensures c.gap_after_keyword.ensures) c.put.ensures
