-- The least of several faults.
use Rattle.std.specs.Prelude.{◌≡◌, ◌⊎◌, ◌<◌, ◌≤◌, List}
use Rattle.std.specs.List.{AllByRecursion, Contains}
use Rattle.expression_types.specs.declared.fault.Fault.{Fault}
use Rattle.expression_types.specs.Faults.{number_of}

-- the first has the lesser offset, or the same and no greater number
abbrev pub IsAtMost : Fault → Fault → Type 0
IsAtMost f e = (f.at < e.at) ⊎ ((f.at ≡ e.at) × (number_of f.rule ≤ number_of e.rule))

-- it is one of them, and at most each of them
abbrev pub IsLeast : Fault → List Fault → Type 0
IsLeast f faults = Contains faults f × AllByRecursion (IsAtMost f) faults
