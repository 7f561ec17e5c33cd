use Rattle.std.proofs.Common.{length}
use Rattle.scripts.specs.inside.Records.{AreRecordsIn}
use Rattle.scripts.proofs.ReadingLaws.{IsTaking}
use Rattle.scripts.proofs.script_state.ScriptState.take.Given as goal

-- the lines before the rest are answered, and the records are those of runs
abbrev pub invariant-lines : goal.invariant-lines
invariant-lines g l = record {
  taking : IsTaking (g.P.Programs.trees l.fn.host.programs.now) l.fn.self l.fn.bytes l.fn.replies l.self l.rest l.replies;
  records : AreRecordsIn (g.P.Programs.is_record l.fn.host.programs.now) l.self.state l.records;
}

abbrev pub decreases-lines : goal.decreases-lines
decreases-lines g l = length l.rest
