use Rattle.std.proofs.Common.{take}
use Rattle.std.specs.List.{flat_map}
use Rattle.replies.specs.ReplyText.{vector_line}
use Rattle.replies.specs.Sending.{Sends}
use Rattle.replies.proofs.reply_writer.ReplyWriter.send_vectors.Given as goal

-- those so far are sent
abbrev pub invariant-vectors : goal.invariant-vectors
invariant-vectors g l = Sends l.fn.self l.self (flat_map vector_line (take l.vector-index l.vectors))
