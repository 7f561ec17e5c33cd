-- Files, and the texts and plans that are made of them.
use Rattle.std.specs.Prelude.{[], ◌≡◌, ◌≢◌, ℕ, List, ◌∷◌, ◌⊎◌, Result, Ok, Err}
use Rattle.std.specs.Arc.{arc_value}
use Rattle.std.specs.Borrow.{Bor}
use Rattle.std.specs.Global.{Vec}
use Rattle.std.specs.declared.io.Error.{Error}
use Rattle.algorithm_meaning.specs.ProgramTree.{ProgramTree}
use Rattle.plans.specs.declared.plan.Plan.{Plan}
use Rattle.plans.specs.PlanOf.{program_of}
use Rattle.compiler.specs.declared.error.CompileError.{CompileError}
use Rattle.compiler.specs.Outcome.{Compiles, IsPlanOfText, IsProgram}
use Rattle.compiler.specs.declared.error.CompileError.TheVariants as compiler
use Rattle.driver.specs.Endings.{of_file_read}
use Rattle.driver.specs.declared.error.ServeError.{ServeError}
use Rattle.driver.specs.declared.error.ServeError.TheVariants.{NoMemory, ReadFailed, FileFailed, WriteFailed, Refused, RaceRefused, Closed}
use Rattle.driver.specs.declared.compiled_plan.CompiledPlan.{CompiledPlan}

-- a read answered with bytes that the file may hold, or failed as it may fail
abbrev pub AnswersRead : (List ℕ → Type 0) → (Error → Type 0) → Result (Vec ℕ) Error → Type 0
AnswersRead holds fails (Ok bytes) = holds bytes.items
AnswersRead holds fails (Err error) = fails error

-- a file that may hold the text of this program
pub record HoldsProgram (holds : List ℕ → Type 0) (program : ProgramTree) : Type 0 where
  pub text : List ℕ
  pub held : holds text
  pub compiled : IsProgram text program

-- a file that may hold the text of a program, of which this is the plan
pub record HoldsPlan (holds : List ℕ → Type 0) (plan : Plan) : Type 0 where
  pub text : List ℕ
  pub held : holds text
  pub planned : IsPlanOfText text plan

-- a file that may hold a text which the compiler refuses so
pub record HoldsRefused (holds : List ℕ → Type 0) (error : CompileError) : Type 0 where
  pub text : List ℕ
  pub held : holds text
  pub refused : Compiles text (Err error)
  pub cause : error ≢ compiler.NoMemory

-- the file of this name may fail to be read, with this outcome
pub record FailsRead (fails : Error → Type 0) (name : List ℕ) (e : ServeError) : Type 0 where
  pub error : Error
  pub failed : fails error
  pub file : Bor (List ℕ)
  pub named : file.now ≡ name
  pub outcome : e ≡ of_file_read file error

-- The file of this name is no program: it cannot be read, or its text is refused. Nothing is said if memory runs out.
abbrev pub IsNoProgram : (List ℕ → Type 0) → (Error → Type 0) → List ℕ → ServeError → Type 0
IsNoProgram holds fails name NoMemory = Unit {0}
IsNoProgram holds fails name ReadFailed = ⊥
IsNoProgram holds fails name (FileFailed file kind) = FailsRead fails name (FileFailed file kind)
IsNoProgram holds fails name WriteFailed = ⊥
IsNoProgram holds fails name (Refused file error) = (file.now ≡ name) × HoldsRefused holds error
IsNoProgram holds fails name (RaceRefused file number) = ⊥
IsNoProgram holds fails name Closed = ⊥

-- the files of these names may hold these programs, one for one
abbrev pub HoldPrograms : (List ℕ → List ℕ → Type 0) → List (List ℕ) → List ProgramTree → Type 0
HoldPrograms holds [] [] = Unit {0}
HoldPrograms holds [] (p ∷ programs) = ⊥
HoldPrograms holds (name ∷ names) [] = ⊥
HoldPrograms holds (name ∷ names) (p ∷ programs) = HoldsProgram (holds name) p × HoldPrograms holds names programs

-- the first of these files that is no program is no program for this reason
abbrev pub LacksProgram : (List ℕ → List ℕ → Type 0) → (List ℕ → Error → Type 0) → List (List ℕ) → ServeError → Type 0
LacksProgram holds fails [] e = e ≡ NoMemory
LacksProgram holds fails (name ∷ names) e =
    IsNoProgram (holds name) (fails name) name e ⊎ ((p : ProgramTree) × (HoldsProgram (holds name) p × LacksProgram holds fails names e))

-- the files of these names may hold programs, and the one of the script cannot be read
pub record LacksScript (holds : List ℕ → List ℕ → Type 0) (fails : List ℕ → Error → Type 0) (script : List ℕ) (names : List (List ℕ))
    (e : ServeError) : Type 0 where
  pub programs : List ProgramTree
  pub compiled : HoldPrograms holds names programs
  pub failed : FailsRead (fails script) script e

abbrev pub tree_of : CompiledPlan → ProgramTree
tree_of compiled = program_of (arc_value compiled.plan)
