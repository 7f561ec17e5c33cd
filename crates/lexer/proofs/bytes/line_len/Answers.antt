-- Proofs of `line_len`, src/bytes.rt.
use Rattle.std.proofs.Common.{rules}
use Rattle.lexer.specs.Spelling.{is_in_line}
use Rattle.lexer.proofs.RunLaws.{run_to, run_all}
use Rattle.lexer.proofs.bytes.line_len.Goals as goal

pub returns-in-Some : goal.returns-in-Some
returns-in-Some c =
    run_to is_in_line c.args.bytes.now c.in-Some.len (search rules) (search rules) (search rules)

pub returns-in-None : goal.returns-in-None
returns-in-None c =
    run_all is_in_line c.args.bytes.now (search rules)
