-- Proofs of `run_numbered`, src/open_graph.rt.
use Rattle.std.proofs.Common.{Option, ap}
use Rattle.algorithm_meaning.specs.ProgramTree.{ProgramTree}
use Rattle.scripts.specs.Replies.{running, graph_of}
use Rattle.replies.proofs.SendingLaws.{emits_as}
use Rattle.scripts.proofs.open_graph.OpenGraph.run_numbered.Goals as goal

pub returns-in_default-clause-emits : goal.returns-in_default-clause-emits
returns-in_default-clause-emits g c =
    let run = λ (p : Option ProgramTree). (running c.args.self.now c.args.line.turns c.args.line.workers p (graph_of c.args.self.now.versions c.args.line.ticket)).text in
    emits_as _ _ _ _ _ c.refuse.ensures (ap run c.in_default.ensures.program)

pub returns-clause-emits : goal.returns-clause-emits
returns-clause-emits g c =
    let run = λ (p : Option ProgramTree). (running c.args.self.now c.args.line.turns c.args.line.workers p (graph_of c.args.self.now.versions c.args.line.ticket)).text in
    emits_as _ _ _ _ _ c.run.ensures.emits (ap run c.in-Some.ensures.program)
