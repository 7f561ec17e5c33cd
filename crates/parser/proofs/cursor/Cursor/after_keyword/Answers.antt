-- Proofs of `after_keyword`, src/cursor.rt.
use Rattle.std.proofs.Common.{rules}
use Rattle.parser.proofs.Keywords.{no_keyword, none_after, is_keyword, some_after}
use Rattle.parser.proofs.cursor.Cursor.after_keyword.Goals as goal

pub returns-then-eq-clause-is : goal.returns-then-eq-clause-is
returns-then-eq-clause-is c = is_keyword c.in_ok-token.token.kind _ _ c.args.keyword _ _ c.in_ok-token.ensures.terminal (search rules) c.requires

pub returns-then-eq-clause-behind : goal.returns-then-eq-clause-behind
returns-then-eq-clause-behind c = some_after c.in_ok-token.token.kind _ _ c.args.keyword _ _ c.in_ok-token.ensures.terminal (search rules) c.requires

pub returns-else-eq-clause-is : goal.returns-else-eq-clause-is
returns-else-eq-clause-is c = no_keyword c.in_ok-token.token.kind _ _ c.args.keyword _ _ c.in_ok-token.ensures.terminal (λ is. search rules)

pub returns-else-eq-clause-behind : goal.returns-else-eq-clause-behind
returns-else-eq-clause-behind c = none_after c.in_ok-token.token.kind _ _ c.args.keyword _ _ c.in_ok-token.ensures.terminal (λ is. search rules)
