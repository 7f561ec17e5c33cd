use Rattle.std.proofs.Common.{◌≡◌, map, drop}
use Rattle.std.specs.List.{concat}
use Rattle.typed_tree.specs.ProgramTree.{call_tree, program_tree}
use Rattle.schedule.specs.Calls.{with_calls}
use Rattle.schedule.proofs.calls.Tables.put_calls.Given as goal

-- what the calls to come leave is what all leave
abbrev pub invariant-calls : goal.invariant-calls
invariant-calls l = record {
  outcome : with_calls (program_tree l.self.program.now) (map call_tree (drop l.call-index l.calls)) l.schedule
      ≡ with_calls (program_tree l.self.program.now) (map call_tree l.calls) l.fn.schedule;
  taken : l.taken.keys ≡ concat l.schedule.groups;
}
