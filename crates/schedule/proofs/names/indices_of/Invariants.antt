use Rattle.std.proofs.Common.{◌≡◌, ℕ, List, drop}
use Rattle.expression_types.specs.ScopeTree.{found}
use Rattle.schedule.specs.Schedule.{index_from}
use Rattle.schedule.specs.inside.Putting.{first_of}
use Rattle.schedule.proofs.names.indices_of.Given as goal

-- a name has its position so far, or the first of those to come
abbrev pub invariant-loop-position : goal.invariant-loop-position
invariant-loop-position l = (name : List ℕ) → first_of (found name l.positions) (index_from l.position name (drop l.position l.names)) ≡ index_from 0 name l.names
