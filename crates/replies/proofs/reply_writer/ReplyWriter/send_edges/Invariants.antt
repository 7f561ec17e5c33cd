use Rattle.std.proofs.Common.{◌≡◌, ◌++◌, length, codes}
use Rattle.std.specs.List.{flat_map}
use Rattle.replies.specs.ReplyText.{word_line, edge_line}
use Rattle.replies.specs.Sending.{Sends}
use Rattle.replies.proofs.reply_writer.ReplyWriter.send_edges.Given as goal

-- the edges so far are sent, and the others are to come
abbrev pub invariant-edges : goal.invariant-edges
invariant-edges g l = Sends l.fn.self l.self (word_line (codes "edges") (length l.fn.graph.edges) ++ flat_map edge_line l.yielded)
    × (l.yielded ++ l.edge-iterator ≡ l.fn.graph.edges)
