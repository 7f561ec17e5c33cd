use Rattle.scripts.specs.Script.{input}
use Rattle.scripts.specs.inside.Records.{AreRecordsIn}
use Rattle.scripts.proofs.Running.{IsReading}
use Rattle.scripts.proofs.scripts.read_to_end.Given as goal

-- the lines that have ended among the bytes so far are answered, the replies written, and the records those of runs
abbrev pub invariant-reads : goal.invariant-reads
invariant-reads g l = record {
  records : AreRecordsIn (g.P.Programs.is_record l.fn.host.programs.now) l.state.state l.records;
  reading : IsReading (g.P.Programs.trees l.fn.host.programs.now) (input (g.R.Feed.bytes_read l.fn.reader) (g.R.Feed.ended l.fn.reader) (g.R.Feed.failures l.fn.reader))
      (input (g.R.Feed.bytes_read l.reader) (g.R.Feed.ended l.reader) (g.R.Feed.failures l.reader)) l.fn.replies l.state l.replies;
}

abbrev pub decreases-reads : goal.decreases-reads
decreases-reads g l = g.R.Feed.reads_left l.reader
