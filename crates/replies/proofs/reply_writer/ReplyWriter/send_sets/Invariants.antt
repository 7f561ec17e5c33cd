use Rattle.std.proofs.Common.{take}
use Rattle.std.specs.List.{flat_map}
use Rattle.replies.specs.ReplyText.{set_line}
use Rattle.replies.specs.Sending.{Sends}
use Rattle.replies.proofs.reply_writer.ReplyWriter.send_sets.Given as goal

-- those so far are sent
abbrev pub invariant-sets : goal.invariant-sets
invariant-sets g l = Sends l.fn.self l.self (flat_map set_line (take l.set-index l.sets))
