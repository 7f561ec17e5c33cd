use Rattle.std.proofs.Common.{take, ◌∷◌, decimal}
use Rattle.std.specs.List.{flat_map}
use Rattle.replies.specs.Sending.{Sends}
use Rattle.replies.proofs.reply_writer.ReplyWriter.send_members.Given as goal

-- those so far are sent
abbrev pub invariant-members : goal.invariant-members
invariant-members g l = Sends l.fn.self l.self (flat_map (λ n. 32 ∷ decimal n) (take l.member-index l.members))
