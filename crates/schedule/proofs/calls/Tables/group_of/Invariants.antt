use Rattle.std.proofs.Common.{◌≡◌, ◌++◌, [], drop}
use Rattle.typed_tree.specs.ProgramTree.{program_tree}
use Rattle.schedule.specs.Calls.{grown}
use Rattle.schedule.proofs.calls.Tables.group_of.Given as goal

-- the group of the names to come, after that of those before, is the group of all
abbrev pub invariant-names : goal.invariant-names
invariant-names l = record {
  group : grown (program_tree l.self.program.now) l.fn.taken.keys l.group.items (drop l.name-index l.names)
      ≡ grown (program_tree l.self.program.now) l.fn.taken.keys [] l.names;
  taken : l.taken.keys ≡ l.fn.taken.keys ++ l.group.items;
}
