-- Proofs of `tokens_in_order`, src/scan.rt.
use Rattle.lexer.proofs.OrderLaws.{HasTokens-AreInOrder}
use Rattle.lexer.proofs.scan.tokens_in_order.Goals as goal

pub returns : goal.returns
returns c = HasTokens-AreInOrder
