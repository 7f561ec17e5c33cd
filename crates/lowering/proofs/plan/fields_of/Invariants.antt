use Rattle.std.proofs.Common.{◌≡◌, ◌++◌, drop}
use Rattle.typed_tree.specs.ProgramTree.{program_tree}
use Rattle.lowering.specs.Text.{group_lines}
use Rattle.lowering.proofs.plan.fields_of.Given as goal

-- with what is left to put it is what was to be put
abbrev pub invariant-groups : goal.invariant-groups
invariant-groups l =
    l.fields.items ++ group_lines (program_tree l.program) (drop l.group-index l.groups) ≡ group_lines (program_tree l.program) l.groups
