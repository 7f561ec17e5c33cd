-- A refusal stands in the text, or at its end.
use Rattle.std.proofs.Common.{◌≡◌, ap, subst, ℕ, ◌≤◌, List, [], ◌∷◌, length, Result, Ok, Err}
use Rattle.std.specs.List.{AllByRecursion}
use Rattle.std.proofs.Math.Nat.{le_refl}
use Rattle.std.proofs.lemmas.List.Elements.{All-contains, All-from_recursion}
use Rattle.schedule.specs.ProgramTree.{ProgramTree, ScheduleCallTree}
use Rattle.parser.specs.declared.error.ParseError.TheVariants as parser
use Rattle.parser.proofs.Offsets.{source_within, stands_in as parser_stands_in}
use Rattle.expression_types.specs.declared.fault.Fault.{Fault}
use Rattle.expression_types.proofs.LeastLaws.{told_is_least}
use Rattle.types.specs.Program.{program_of}
use Rattle.types.proofs.SourceOffsets.{faults_stand, schedule_calls_stand}
use Rattle.schedule.specs.Calls.{after_call, with_call, with_calls}
use Rattle.schedule.specs.ScheduleTree.{ScheduleTree}
use Rattle.schedule.specs.Schedule.{empty_schedule}
use Rattle.schedule.specs.declared.error.ScheduleRule.{ScheduleRule}
use Rattle.compiler.specs.declared.error.CompileError.{CompileError}
use Rattle.compiler.specs.declared.error.CompileError.TheVariants.{NotParsed, NotTyped, NotScheduled, NoMemory}
use Rattle.compiler.specs.Outcome.{Compiles, HasFault, HasFaultyCall, StandsIn}

-- the fault that is told is one of all
fault_within : (text : List ℕ) (fault : Fault) → HasFault text fault → fault.at ≤ length text
fault_within text fault told =
    let faults = (program_of told.source (length text)).faults in
    let all = faults_stand (λ at. at ≤ length text) told.source (length text) (source_within text told.source told.parsed) (le_refl (length text)) in
    let least = told_is_least faults fault told.told in
    All-contains (λ (f : Fault). f.at ≤ length text) faults fault (All-from_recursion (λ (f : Fault). f.at ≤ length text) faults all) least.0

-- the call that is told is one of all
after_stands : (P : ℕ → Type 0) (here : ℕ) (done : Result ScheduleTree ScheduleRule) (rest : ScheduleTree → Result ScheduleTree (ScheduleRule × ℕ)) (rule : ScheduleRule) (at : ℕ)
    → after_call here done rest ≡ Err (rule, at) → P here → ((s : ScheduleTree) → rest s ≡ Err (rule, at) → P at) → P at
after_stands P here (Ok s) rest rule at told stands behind = behind s told
after_stands P here (Err r) rest rule at told stands behind = let both : ◌≡◌ {A = ScheduleRule × ℕ} (r, here) (rule, at) = cc told in subst P (ap (λ (x : ScheduleRule × ℕ). x.1) both) stands

calls_stand : (P : ℕ → Type 0) (p : ProgramTree) (calls : List ScheduleCallTree) (s : ScheduleTree) (rule : ScheduleRule) (at : ℕ)
    → with_calls p calls s ≡ Err (rule, at) → AllByRecursion (λ call. P call.at) calls → P at
calls_stand P p [] s rule at told all = absurd cc
calls_stand P p (call ∷ calls) s rule at told all =
    after_stands P call.at (with_call p call s) (λ new. with_calls p calls new) rule at told all.0 (λ new told. calls_stand P p calls new rule at told all.1)

call_within : (text : List ℕ) (rule : ScheduleRule) (at : ℕ) → HasFaultyCall text rule at → at ≤ length text
call_within text rule at told =
    let typed = told.typed in
    let all = schedule_calls_stand (λ at. at ≤ length text) typed.source (length text) (source_within text typed.source typed.parsed) in
    calls_stand (λ at. at ≤ length text) told.program told.program.schedule empty_schedule rule at told.told
    (subst (λ (p : ProgramTree). AllByRecursion (λ (call : ScheduleCallTree). call.at ≤ length text) p.schedule) typed.typed.1 all)

pub stands_in : (text : List ℕ) (error : CompileError) → Compiles text (Err error) → StandsIn text error
stands_in text (NotParsed parser.NoMemory) told = absurd told
stands_in text (NotParsed (parser.BadByte at)) told = parser_stands_in text (parser.BadByte at) told
stands_in text (NotParsed (parser.NumberTooLarge at)) told = parser_stands_in text (parser.NumberTooLarge at) told
stands_in text (NotParsed (parser.UnfinishedText at)) told = parser_stands_in text (parser.UnfinishedText at) told
stands_in text (NotParsed (parser.Unexpected at)) told = parser_stands_in text (parser.Unexpected at) told
stands_in text (NotParsed (parser.TooDeep at)) told = parser_stands_in text (parser.TooDeep at) told
stands_in text (NotTyped fault) told = fault_within text fault told
stands_in text (NotScheduled rule at) told = call_within text rule at told
stands_in text NoMemory told = tt
