use Rattle.std.proofs.Common.{◌≡◌, ◌+◌, ◌≤◌, map, drop}
use Rattle.syntax.specs.SourceViews.{declaration_tree}
use Rattle.types.specs.Program.{set_count}
use Rattle.types.proofs.program.count_sets.Given as goal

-- those that were counted and those that are left are all
abbrev pub invariant-declarations : goal.invariant-declarations
invariant-declarations l =
    (l.count + set_count (map declaration_tree (drop l.declaration-index l.declarations)) ≡ set_count (map declaration_tree l.declarations))
    × (l.count ≤ l.declaration-index)
