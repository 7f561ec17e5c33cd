-- Proofs of `read_to_end`, src/scripts.rt.
use Rattle.std.proofs.Common.{◌≡◌, ◌∙◌, ◌++◌, ◌<◌, length, take, true, ap, arith, sym, subst, append-nil}
use Rattle.std.proofs.lemmas.Bool.{or_right, and_from, eq-eqb, lt-ltb}
use Rattle.scripts.specs.Script.{Reading, input}
use Rattle.scripts.specs.inside.Records.{AreRecordsIn}
use Rattle.scripts.proofs.Running.{IsReading, reading_starts, reading_unended, read_fails, lines_fail, reading_goes_on, flush_fails, finish_fails, last_flush_fails, script_ends, runs_failed}
use Rattle.scripts.proofs.scripts.read_to_end.Goals as goal

pub returns-in-Err-clause-runs : goal.returns-in-Err-clause-runs
returns-in-Err-clause-runs g c =
    let old = input (g.R.Feed.bytes_read c.args.reader.now) (g.R.Feed.ended c.args.reader.now) (g.R.Feed.failures c.args.reader.now) in
    let now = input (g.R.Feed.bytes_read c.reads.reader) (g.R.Feed.ended c.reads.reader) (g.R.Feed.failures c.reads.reader) in
    let new = input (g.R.Feed.bytes_read c.read.new.self) (g.R.Feed.ended c.read.new.self) (g.R.Feed.failures c.read.new.self) in
    read_fails (g.P.Programs.trees c.args.host.now.programs.now) old now c.args.replies.now c.reads.state c.reads.replies c.reads.invariant.reading new c.requires.kept c.in-Err.ensures.err.0
    c.in-Err.ensures.err.1

pub take-requires : goal.take-requires
take-requires g c =
    let old = input (g.R.Feed.bytes_read c.args.reader.now) (g.R.Feed.ended c.args.reader.now) (g.R.Feed.failures c.args.reader.now) in
    let now = input (g.R.Feed.bytes_read c.reads.reader) (g.R.Feed.ended c.reads.reader) (g.R.Feed.failures c.reads.reader) in
    record {
      ready = c.requires.ready;
      records = c.reads.invariant.records;
      partial = reading_unended (g.P.Programs.trees c.args.host.now.programs.now) old now c.args.replies.now c.reads.state c.reads.replies c.reads.invariant.reading;
    }

pub returns-in_err-take-clause-runs : goal.returns-in_err-take-clause-runs
returns-in_err-take-clause-runs g c =
    let old = input (g.R.Feed.bytes_read c.args.reader.now) (g.R.Feed.ended c.args.reader.now) (g.R.Feed.failures c.args.reader.now) in
    let now = input (g.R.Feed.bytes_read c.reads.reader) (g.R.Feed.ended c.reads.reader) (g.R.Feed.failures c.reads.reader) in
    let new = input (g.R.Feed.bytes_read c.read.new.self) (g.R.Feed.ended c.read.new.self) (g.R.Feed.failures c.read.new.self) in
    let fails = lines_fail (g.P.Programs.trees c.args.host.now.programs.now) old now c.args.replies.now c.reads.state c.reads.replies c.reads.invariant.reading new
    (take c.in-Ok.count c.read.new.buffer) c.in-Ok.ensures.bytes_read c.in-Ok.ensures.no_failure c.take.new.replies c.in_err-take.field-0.0 c.requires.kept c.in_err-take.ensures.emits in
    runs_failed _ _ _ _ _ _ _ c.from_residual.ensures.1 fails

pub reads-preserved : goal.reads-preserved
reads-preserved g c =
    let old = input (g.R.Feed.bytes_read c.args.reader.now) (g.R.Feed.ended c.args.reader.now) (g.R.Feed.failures c.args.reader.now) in
    let now = input (g.R.Feed.bytes_read c.reads.reader) (g.R.Feed.ended c.reads.reader) (g.R.Feed.failures c.reads.reader) in
    let new = input (g.R.Feed.bytes_read c.read.new.self) (g.R.Feed.ended c.read.new.self) (g.R.Feed.failures c.read.new.self) in
    record {
      records = c.in_ok-take.ensures.records;
      reading = reading_goes_on (g.P.Programs.trees c.args.host.now.programs.now) old now c.args.replies.now c.reads.state c.reads.replies c.reads.invariant.reading new
          (take c.in-Ok.count c.read.new.buffer) c.in-Ok.ensures.bytes_read c.in-Ok.ensures.no_failure c.take.new.replies c.in_ok-take.ensures.emits c.take.new.self c.in_ok-take.ensures.reading
          c.flush.new.self c.in_ok-flush.ensures.emits c.in_ok-flush.ensures.empty;
    }

pub returns-in_err-flush-clause-runs : goal.returns-in_err-flush-clause-runs
returns-in_err-flush-clause-runs g c =
    let old = input (g.R.Feed.bytes_read c.args.reader.now) (g.R.Feed.ended c.args.reader.now) (g.R.Feed.failures c.args.reader.now) in
    let now = input (g.R.Feed.bytes_read c.reads.reader) (g.R.Feed.ended c.reads.reader) (g.R.Feed.failures c.reads.reader) in
    let new = input (g.R.Feed.bytes_read c.read.new.self) (g.R.Feed.ended c.read.new.self) (g.R.Feed.failures c.read.new.self) in
    let fails = flush_fails (g.P.Programs.trees c.args.host.now.programs.now) old now c.args.replies.now c.reads.state c.reads.replies c.reads.invariant.reading new
    (take c.in-Ok.count c.read.new.buffer) c.in-Ok.ensures.bytes_read c.in-Ok.ensures.no_failure c.take.new.replies c.in_ok-take.ensures.emits c.flush.new.self c.in_err-flush.field-0.0 c.requires.kept
    c.in_err-flush.ensures.emits in
    runs_failed _ _ _ _ _ _ _ c.from_residual-in_err-flush.ensures.1 fails

pub returns-in_err-finish-clause-runs : goal.returns-in_err-finish-clause-runs
returns-in_err-finish-clause-runs g c =
    let old = input (g.R.Feed.bytes_read c.args.reader.now) (g.R.Feed.ended c.args.reader.now) (g.R.Feed.failures c.args.reader.now) in
    let now = input (g.R.Feed.bytes_read c.reads.reader) (g.R.Feed.ended c.reads.reader) (g.R.Feed.failures c.reads.reader) in
    let new = input (g.R.Feed.bytes_read c.read.new.self) (g.R.Feed.ended c.read.new.self) (g.R.Feed.failures c.read.new.self) in
    let nothing : g.R.Feed.bytes_read c.read.new.self ≡ g.R.Feed.bytes_read c.reads.reader = c.in-Ok.ensures.bytes_read
    ∙ ap (λ n. g.R.Feed.bytes_read c.reads.reader ++ take n c.read.new.buffer) c.if-count-eq0.true ∙ append-nil (g.R.Feed.bytes_read c.reads.reader) in
    let room : 0 < length c.read.new.buffer = omega (arith, c.requires.block, c.reads.auto.block, c.read.auto.buffer) in
    let at_end : g.R.Feed.ended c.read.new.self ≡ true = c.in-Ok.ensures.ended ∙ or_right _ _ (and_from _ _ (eq-eqb c.in-Ok.count 0 c.if-count-eq0.true) (lt-ltb 0 (length c.read.new.buffer) room)) in
    let fails = finish_fails
    (g.P.Programs.trees c.args.host.now.programs.now) old now c.args.replies.now c.reads.state c.reads.replies c.reads.invariant.reading new nothing at_end c.in-Ok.ensures.no_failure c.finish.new.replies
    c.in_err-finish.field-0.0 c.requires.kept c.in_err-finish.ensures.emits in
    runs_failed _ _ _ _ _ _ _ c.from_residual-in_err-finish.ensures.1 fails

pub returns-in_err-flush-2-clause-runs : goal.returns-in_err-flush-2-clause-runs
returns-in_err-flush-2-clause-runs g c =
    let old = input (g.R.Feed.bytes_read c.args.reader.now) (g.R.Feed.ended c.args.reader.now) (g.R.Feed.failures c.args.reader.now) in
    let now = input (g.R.Feed.bytes_read c.reads.reader) (g.R.Feed.ended c.reads.reader) (g.R.Feed.failures c.reads.reader) in
    let new = input (g.R.Feed.bytes_read c.read.new.self) (g.R.Feed.ended c.read.new.self) (g.R.Feed.failures c.read.new.self) in
    let nothing : g.R.Feed.bytes_read c.read.new.self ≡ g.R.Feed.bytes_read c.reads.reader = c.in-Ok.ensures.bytes_read
    ∙ ap (λ n. g.R.Feed.bytes_read c.reads.reader ++ take n c.read.new.buffer) c.if-count-eq0.true ∙ append-nil (g.R.Feed.bytes_read c.reads.reader) in
    let room : 0 < length c.read.new.buffer = omega (arith, c.requires.block, c.reads.auto.block, c.read.auto.buffer) in
    let at_end : g.R.Feed.ended c.read.new.self ≡ true = c.in-Ok.ensures.ended ∙ or_right _ _ (and_from _ _ (eq-eqb c.in-Ok.count 0 c.if-count-eq0.true) (lt-ltb 0 (length c.read.new.buffer) room)) in
    let fails = last_flush_fails
    (g.P.Programs.trees c.args.host.now.programs.now) old now c.args.replies.now c.reads.state c.reads.replies c.reads.invariant.reading new nothing at_end c.in-Ok.ensures.no_failure c.finish.new.replies
    c.in_ok-finish.ensures.emits c.flush-2.new.self c.in_err-flush-2.field-0.0 c.requires.kept c.in_err-flush-2.ensures.emits in
    runs_failed _ _ _ _ _ _ _ c.from_residual-in_err-flush-2.ensures.1 fails

pub returns-clause-runs : goal.returns-clause-runs
returns-clause-runs g c =
    let old = input (g.R.Feed.bytes_read c.args.reader.now) (g.R.Feed.ended c.args.reader.now) (g.R.Feed.failures c.args.reader.now) in
    let now = input (g.R.Feed.bytes_read c.reads.reader) (g.R.Feed.ended c.reads.reader) (g.R.Feed.failures c.reads.reader) in
    let new = input (g.R.Feed.bytes_read c.read.new.self) (g.R.Feed.ended c.read.new.self) (g.R.Feed.failures c.read.new.self) in
    let nothing : g.R.Feed.bytes_read c.read.new.self ≡ g.R.Feed.bytes_read c.reads.reader = c.in-Ok.ensures.bytes_read
    ∙ ap (λ n. g.R.Feed.bytes_read c.reads.reader ++ take n c.read.new.buffer) c.if-count-eq0.true ∙ append-nil (g.R.Feed.bytes_read c.reads.reader) in
    let room : 0 < length c.read.new.buffer = omega (arith, c.requires.block, c.reads.auto.block, c.read.auto.buffer) in
    let at_end : g.R.Feed.ended c.read.new.self ≡ true = c.in-Ok.ensures.ended ∙ or_right _ _ (and_from _ _ (eq-eqb c.in-Ok.count 0 c.if-count-eq0.true) (lt-ltb 0 (length c.read.new.buffer) room)) in
    script_ends (g.P.Programs.trees c.args.host.now.programs.now) old now c.args.replies.now c.reads.state c.reads.replies c.reads.invariant.reading new nothing at_end c.in-Ok.ensures.no_failure
    c.finish.new.replies c.in_ok-finish.ensures.emits c.flush-2.new.self c.requires.kept c.in_ok-flush-2.ensures.empty c.in_ok-flush-2.ensures.emits _ c.in_ok-finish.ensures.state _
    c.has_faulted.ensures

pub reads-init : goal.reads-init
reads-init g c =
    let now = input (g.R.Feed.bytes_read c.args.reader.now) (g.R.Feed.ended c.args.reader.now) (g.R.Feed.failures c.args.reader.now) in
    record {
      records = subst (λ (r : Reading). AreRecordsIn (g.P.Programs.is_record c.args.host.now.programs.now) r.state c.args.records.now) (sym c.requires.state) c.requires.records;
      reading = subst (λ (r : Reading). IsReading (g.P.Programs.trees c.args.host.now.programs.now) now now c.args.replies.now r c.args.replies.now) (sym c.requires.state)
          (reading_starts (g.P.Programs.trees c.args.host.now.programs.now) now c.args.replies.now c.requires.kept);
    }
