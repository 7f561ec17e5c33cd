-- Proofs of `answer`, src/open_graph.rt.
use Rattle.std.proofs.Common.{ap}
use Rattle.scripts.specs.declared.commands.Command.{Command}
use Rattle.scripts.specs.Replies.{on_open}
use Rattle.version_records.proofs.Keeping.{AreRecordsOf-lost}
use Rattle.replies.proofs.SendingLaws.{emits_as, emits_nothing}
use Rattle.scripts.proofs.StepLaws.{emits_step, leaves_step}
use Rattle.scripts.proofs.open_graph.OpenGraph.answer.Goals as goal

pub returns-in-Add-clause-emits : goal.returns-in-Add-clause-emits
returns-in-Add-clause-emits g c =
    let text = ap (λ (k : Command). (on_open (g.P.Programs.trees c.args.host.now.programs.now) c.args.self.now k).text) c.in-Add.is in
    emits_as _ _ _ _ _ (emits_nothing _ c.join.result c.join.ensures.err) text

pub returns-in-Remove-clause-emits : goal.returns-in-Remove-clause-emits
returns-in-Remove-clause-emits g c =
    let text = ap (λ (k : Command). (on_open (g.P.Programs.trees c.args.host.now.programs.now) c.args.self.now k).text) c.in-Remove.is in
    emits_as _ _ _ _ _ (emits_nothing _ c.join-in-Remove.result c.join-in-Remove.ensures.err) text

pub returns-in-Grow-clause-emits : goal.returns-in-Grow-clause-emits
returns-in-Grow-clause-emits g c =
    let text = ap (λ (k : Command). (on_open (g.P.Programs.trees c.args.host.now.programs.now) c.args.self.now k).text) c.in-Grow.is in
    emits_as _ _ _ _ _ (emits_nothing _ c.join-in-Grow.result c.join-in-Grow.ensures.err) text

pub returns-in-Commit-clause-emits : goal.returns-in-Commit-clause-emits
returns-in-Commit-clause-emits g c =
    emits_step _ _ _ _ _ c.commit.result c.reply.result (ap (λ (k : Command). on_open
    (g.P.Programs.trees c.args.host.now.programs.now) c.args.self.now k) c.in-Commit.is) c.commit.ensures.answered c.reply.ensures.sent c.reply.ensures.unsent

pub returns-in-Commit-clause-state : goal.returns-in-Commit-clause-state
returns-in-Commit-clause-state g c =
    leaves_step _ _ _ _ _ c.commit.result c.reply.result (ap (λ (k : Command). on_open
    (g.P.Programs.trees c.args.host.now.programs.now) c.args.self.now k) c.in-Commit.is) c.commit.ensures.answered c.reply.ensures.unsent

pub returns-in-Hold-clause-emits : goal.returns-in-Hold-clause-emits
returns-in-Hold-clause-emits g c =
    emits_step _ _ _ _ _ c.hold.result c.reply-in-Hold.result (ap (λ (k : Command). on_open
    (g.P.Programs.trees c.args.host.now.programs.now) c.args.self.now k) c.in-Hold.is) c.hold.ensures c.reply-in-Hold.ensures.sent c.reply-in-Hold.ensures.unsent

pub returns-in-Hold-clause-state : goal.returns-in-Hold-clause-state
returns-in-Hold-clause-state g c =
    leaves_step _ _ _ _ _ c.hold.result c.reply-in-Hold.result (ap (λ (k : Command). on_open
    (g.P.Programs.trees c.args.host.now.programs.now) c.args.self.now k) c.in-Hold.is) c.hold.ensures c.reply-in-Hold.ensures.unsent

pub returns-in-Release-clause-emits : goal.returns-in-Release-clause-emits
returns-in-Release-clause-emits g c =
    emits_step _ _ _ _ _ c.release.result c.reply-in-Release.result (ap (λ (k : Command). on_open
    (g.P.Programs.trees c.args.host.now.programs.now) c.args.self.now k) c.in-Release.is) c.release.ensures.answered c.reply-in-Release.ensures.sent c.reply-in-Release.ensures.unsent

pub returns-in-Release-clause-state : goal.returns-in-Release-clause-state
returns-in-Release-clause-state g c =
    leaves_step _ _ _ _ _ c.release.result c.reply-in-Release.result (ap (λ (k : Command). on_open
    (g.P.Programs.trees c.args.host.now.programs.now) c.args.self.now k) c.in-Release.is) c.release.ensures.answered c.reply-in-Release.ensures.unsent

pub returns-in-Edges-clause-emits : goal.returns-in-Edges-clause-emits
returns-in-Edges-clause-emits g c =
    emits_as _ _ _ _ _ c.list.ensures (ap (λ (k : Command). (on_open (g.P.Programs.trees c.args.host.now.programs.now) c.args.self.now k).text) c.in-Edges.is)

pub returns-in-Run-clause-emits : goal.returns-in-Run-clause-emits
returns-in-Run-clause-emits g c =
    emits_as _ _ _ _ _ c.run_numbered.ensures.emits (ap (λ (k : Command). (on_open (g.P.Programs.trees c.args.host.now.programs.now) c.args.self.now k).text) c.in-Run.is)

pub returns-in-Commit-clause-records : goal.returns-in-Commit-clause-records
returns-in-Commit-clause-records g c =
    AreRecordsOf-lost (g.P.Programs.is_record c.args.host.now.programs.now) c.args.self.now.versions c.args.records.now c.commit.new.records c.commit.ensures.records c.requires.records

pub returns-in-Release-clause-records : goal.returns-in-Release-clause-records
returns-in-Release-clause-records g c =
    AreRecordsOf-lost (g.P.Programs.is_record c.args.host.now.programs.now) c.args.self.now.versions c.args.records.now c.release.new.records c.release.ensures.records c.requires.records
