use Rattle.std.proofs.Common.{◌≡◌, ◌++◌, drop}
use Rattle.run_state.specs.inside.Passing.{passing}
use Rattle.run_state.proofs.filtering.keep_passing.Given as goal

-- what is kept, and what still passes, are all that passes
abbrev pub invariant-indices : goal.invariant-indices
invariant-indices l = l.kept.items ++ passing l.block l.index (drop l.index l.part) ≡ l.fn.kept.items ++ passing l.block 0 l.part
