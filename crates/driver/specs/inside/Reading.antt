-- Beside `Reading`: definitions that no public contract cites.
use Rattle.std.specs.Prelude.{ℕ, List, Result, Ok, Err, map}
use Rattle.std.specs.Global.{Vec}
use Rattle.std.specs.declared.io.Error.{Error}
use Rattle.plans.specs.declared.plan.Plan.{Plan}
use Rattle.driver.specs.declared.error.ServeError.{ServeError}
use Rattle.driver.specs.Reading.{FailsRead, HoldsPlan, IsNoProgram, HoldPrograms, LacksProgram, tree_of}
use Rattle.driver.specs.declared.compiled_plan.CompiledPlan.{CompiledPlan}

-- what is read of the file of this name
abbrev pub ReadsWhole : (List ℕ → Type 0) → (Error → Type 0) → List ℕ → Result (Vec ℕ) ServeError → Type 0
ReadsWhole holds fails name (Ok bytes) = holds bytes.items
ReadsWhole holds fails name (Err e) = FailsRead fails name e

-- what is made of the file of this name
abbrev pub CompilesFile : (List ℕ → Type 0) → (Error → Type 0) → List ℕ → Result Plan ServeError → Type 0
CompilesFile holds fails name (Ok plan) = HoldsPlan holds plan
CompilesFile holds fails name (Err e) = IsNoProgram holds fails name e

-- what is made of the files of these names
abbrev pub CompilesFiles : (List ℕ → List ℕ → Type 0) → (List ℕ → Error → Type 0) → List (List ℕ) → Result (Vec CompiledPlan) ServeError → Type 0
CompilesFiles holds fails names (Ok programs) = HoldPrograms holds names (map tree_of programs.items)
CompilesFiles holds fails names (Err e) = LacksProgram holds fails names e
