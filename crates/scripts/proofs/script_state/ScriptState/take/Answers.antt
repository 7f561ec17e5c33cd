-- Proofs of `take`, src/script_state.rt.
use Rattle.std.proofs.Common.{◌++◌, refl, rules}
use Rattle.scripts.specs.Commands.{HasNone}
use Rattle.scripts.proofs.RecordLaws.{AreRecordsIn-answer}
use Rattle.scripts.proofs.ReadingLaws.{taking_starts, taking_ends, reading_ends, taking_line, taking_fails, taking_lacks}
use Rattle.replies.proofs.SendingLaws.{emits_failed}
use Rattle.scripts.proofs.script_state.ScriptState.take.Goals as goal

pub lines-init : goal.lines-init
lines-init g c = record {
  taking = taking_starts (g.P.Programs.trees c.args.host.now.programs.now) c.args.self.now c.args.bytes.now _ c.requires.partial;
  records = c.requires.records;
}

pub returns-in_err-end_line-clause-emits : goal.returns-in_err-end_line-clause-emits
returns-in_err-end_line-clause-emits g c =
    emits_failed _ _ _ _ _ c.from_residual.ensures.1
    (taking_fails
    (g.P.Programs.trees c.args.host.now.programs.now) c.args.self.now c.args.bytes.now _ c.lines.self c.lines.rest.now _ c.lines.invariant.taking c.in-Some.line.now c.in-Some.after.now
    c.in-Some.ensures.cut.0 c.in-Some.ensures.cut.1 _ c.in_err-end_line.field-0.0 c.in_err-end_line.ensures.emits)

pub lines-preserved : goal.lines-preserved
lines-preserved g c =
    let is_record = g.P.Programs.is_record c.args.host.now.programs.now in
    record {
      taking = rw (c.in_ok-end_line.ensures.reading)
          (taking_line (g.P.Programs.trees c.args.host.now.programs.now) c.args.self.now c.args.bytes.now _ c.lines.self c.lines.rest.now _ c.lines.invariant.taking c.in-Some.line.now c.in-Some.after.now
          c.in-Some.ensures.cut.0 c.in-Some.ensures.cut.1 _ c.in_ok-end_line.ensures.emits);
      records = rw (c.in_ok-end_line.ensures.reading) (AreRecordsIn-answer is_record _ (g.P.Programs.trees c.args.host.now.programs.now) c.lines.self.state (c.lines.self.partial ++ c.in-Some.line.now) c.end_line.ensures.records);
    }

pub returns-in_err-extend_from_slice-clause-emits : goal.returns-in_err-extend_from_slice-clause-emits
returns-in_err-extend_from_slice-clause-emits g c =
    emits_failed _ _ _ _ _ c.from_residual-in_err-extend_from_slice.ensures.1
    (taking_lacks (g.P.Programs.trees c.args.host.now.programs.now) c.args.self.now c.args.bytes.now _ c.lines.self c.lines.rest.now _ c.lines.invariant.taking _ refl refl refl)

pub returns-clause-emits : goal.returns-clause-emits
returns-clause-emits g c =
    let none : HasNone 10 c.lines.rest.now = search rules in
    taking_ends (g.P.Programs.trees c.args.host.now.programs.now) c.args.self.now c.args.bytes.now _ c.lines.self c.lines.rest.now _ c.lines.invariant.taking none

pub returns-clause-reading : goal.returns-clause-reading
returns-clause-reading g c =
    let none : HasNone 10 c.lines.rest.now = search rules in
    let whole = reading_ends (g.P.Programs.trees c.args.host.now.programs.now) c.args.self.now c.args.bytes.now _ c.lines.self c.lines.rest.now _ c.lines.invariant.taking none in
    rw (whole, ← c.self.view_is, c.in_ok-extend_from_slice.ensures.items)
