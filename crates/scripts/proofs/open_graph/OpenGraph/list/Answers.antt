-- Proofs of `list`, src/open_graph.rt.
use Rattle.std.proofs.Common.{◌≡◌, arith}
use Rattle.std.proofs.lemmas.Grind.{common_steps}
use Rattle.replies.specs.declared.line_reply.LineReply.TheVariants as line_reply
use Rattle.replies.specs.ReplyText.{edges_text, line_text}
use Rattle.scripts.specs.Replies.{graph_of, listing_text}
use Rattle.replies.proofs.SendingLaws.{emits_as}
use Rattle.scripts.proofs.open_graph.OpenGraph.list.Goals as goal

pub returns-in-Some : goal.returns-in-Some
returns-in-Some g c =
    let text : listing_text (graph_of c.args.self.now.versions c.args.ticket) ≡ edges_text c.in-Some.graph.now.edges = grind (arith, common_steps) in
    emits_as _ _ _ _ _ c.send_edges.ensures text

pub returns-in-None : goal.returns-in-None
returns-in-None g c =
    let text : listing_text (graph_of c.args.self.now.versions c.args.ticket) ≡ line_text (line_reply.Refused c.number.result) = grind (arith, common_steps) in
    emits_as _ _ _ _ _ c.refuse.ensures text
