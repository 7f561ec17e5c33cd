use Rattle.std.proofs.Common.{take, ◌∷◌}
use Rattle.std.specs.List.{flat_map}
use Rattle.std.specs.Fmt.{signed_decimal}
use Rattle.replies.specs.Sending.{Sends}
use Rattle.replies.proofs.reply_writer.ReplyWriter.send_integers.Given as goal

-- those so far are sent
abbrev pub invariant-integers : goal.invariant-integers
invariant-integers g l = Sends l.fn.self l.self (flat_map (λ n. 32 ∷ signed_decimal n) (take l.integer-index l.integers))
