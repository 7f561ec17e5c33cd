-- Tests of destinations that compare entries with a number.
use Rattle.algorithm_meaning.specs.Arithmetic.{compared}
use Rattle.vectors.specs.Lanes.{lane_entry}
use Rattle.pull_engine.specs.declared.entry_tests.EntryTest.{EntryTest}
use Rattle.pull_engine.specs.declared.ranges.PullRange.{PullRange}
use Rattle.pull_engine.specs.inside.Pulls.{IsRangeEnd}

-- the destinations of the range that pass are those that pass the test
abbrev pub IsTestOf : PullRange → EntryTest → Type 0
IsTestOf p t = IsRangeEnd p (λ v. compared t.comparison (lane_entry t.lane v) t.number)
