-- Proofs of `answer_line`, src/script_state.rt.
use Rattle.std.proofs.Common.{◌≡◌, ◌<◌, length, arith}
use Rattle.std.proofs.lemmas.Grind.{common_steps}
use Rattle.replies.specs.declared.line_reply.LineReply.TheVariants as line_reply
use Rattle.replies.specs.ReplyText.{line_text}
use Rattle.scripts.specs.Replies.{answer, on_open, unopened}
use Rattle.scripts.proofs.ReadingLaws.{answer_command}
use Rattle.replies.proofs.SendingLaws.{emits_as}
use Rattle.scripts.proofs.script_state.answer_line.Goals as goal

pub returns-in_default-clause-emits : goal.returns-in_default-clause-emits
returns-in_default-clause-emits g c =
    let some : 0 < length c.args.line.now = grind (arith, common_steps) in
    let is = answer_command (g.P.Programs.trees c.args.host.now.programs.now) c.args.graph.now c.args.line.now some in
    let text : (answer (g.P.Programs.trees c.args.host.now.programs.now) c.args.graph.now c.args.line.now).text ≡ line_text (line_reply.Refused 801) = grind (arith, common_steps) in
    emits_as _ _ _ _ _ c.refuse.ensures text

pub returns-in-Some-graph-clause-emits : goal.returns-in-Some-graph-clause-emits
returns-in-Some-graph-clause-emits g c =
    let some : 0 < length c.args.line.now = grind (arith, common_steps) in
    let is = answer_command (g.P.Programs.trees c.args.host.now.programs.now) c.args.graph.now c.args.line.now some in
    let text : (answer (g.P.Programs.trees c.args.host.now.programs.now) c.args.graph.now c.args.line.now).text ≡
    (on_open (g.P.Programs.trees c.args.host.now.programs.now) c.in-Some-graph.open c.in-Some.command).text = grind (arith, common_steps) in
    emits_as _ _ _ _ _ c.answer.ensures.emits text

pub returns-in-None-clause-emits : goal.returns-in-None-clause-emits
returns-in-None-clause-emits g c =
    let some : 0 < length c.args.line.now = grind (arith, common_steps) in
    let is = answer_command (g.P.Programs.trees c.args.host.now.programs.now) c.args.graph.now c.args.line.now some in
    let text : (answer (g.P.Programs.trees c.args.host.now.programs.now) c.args.graph.now c.args.line.now).text ≡ (unopened c.in-Some.command).text = grind (arith, common_steps) in
    emits_as _ _ _ _ _ c.open.ensures.emits text
