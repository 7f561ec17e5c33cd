-- The numbers by which refusals of runs of a text are known.
use Rattle.std.specs.Prelude.{ℕ}
use Rattle.compiler.specs.Refusal.{number_of as compile_number_of}
use Rattle.snapshot_runs.specs.Refusal.{number_of as run_number_of}
use Rattle.compiled_runs.specs.declared.error.TextRunError.{TextRunError}
use Rattle.compiled_runs.specs.declared.error.TextRunError.TheVariants.{NotCompiled, NotRun}

-- the number of a refusal
abbrev pub number_of : TextRunError → ℕ
number_of (NotCompiled error) = compile_number_of error
number_of (NotRun error) = run_number_of error
