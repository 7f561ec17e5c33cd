-- What a run shows so far.
use Rattle.std.proofs.Common.{◌≡◌, ℕ, List, Option, Some, None, Result, Ok, Err, IfOk, slice_get, ap}
use Rattle.std.specs.Option.{unwrap_or}
use Rattle.typed_tree.specs.ProgramTree.{ProgramTree}
use Rattle.algorithm_meaning.specs.declared.outcome.End.{End as Ending}
use Rattle.algorithm_meaning.specs.declared.outcome.End.TheVariants.{TurnsOver}
use Rattle.algorithm_meaning.specs.Meaning.{shown}
use Rattle.algorithm_meaning.specs.State.{StateValue}
use Rattle.algorithm_meaning.specs.declared.state.LoopCounter.{LoopCounter}
use Rattle.algorithm_meaning.specs.declared.state.Depth.{Depth}
use Rattle.plans.specs.Instruction.{InstructionTree}
use Rattle.algorithm_meaning.specs.Loop.{forget_beyond}
use Rattle.runner.specs.inside.Position.{IsShown, IsShownWhere, position}
use Rattle.runner.specs.Position.{outcome_so_far, shown_where}

shown_here : (p : ProgramTree) (turns : ℕ) (o : Option InstructionTree) (s : StateValue) (d : Depth) → IsShownWhere o s d → shown p turns (forget_beyond d s) TurnsOver ≡ shown_where p turns o s
shown_here p turns None s d is = ap (λ (t : StateValue). shown p turns t TurnsOver) is
shown_here p turns (Some i) s d is = ap (λ (e : Depth). shown p turns (forget_beyond e s) TurnsOver) is

pub shows_so_far : (p : ProgramTree) (turns : ℕ) (plan : List InstructionTree) (end : Option Ending) (index : ℕ) (loops : List LoopCounter) (s : StateValue) (d : Depth)
    → IsShown plan (position end index loops s) d → shown p turns (forget_beyond d s) (unwrap_or end TurnsOver) ≡ outcome_so_far p turns plan (position end index loops s)
shows_so_far p turns plan None index loops s d is = shown_here p turns (slice_get plan index) s d is
shows_so_far p turns plan (Some end) index loops s d is = ap (λ (t : StateValue). shown p turns t end) is

-- what follows from a fact of a result
pub if_ok : {A E : Type 0} (P Q : A → Type 0) (r : Result A E) → ((a : A) → P a → Q a) → IfOk r P → IfOk r Q
if_ok P Q (Ok a) f is = f a is
if_ok P Q (Err e) f is = tt
