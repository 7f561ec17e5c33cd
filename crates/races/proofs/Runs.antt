-- Programs that run twice.
use Rattle.std.proofs.Common.{◌≡◌, ℕ, List, [], ◌∷◌, ◌++◌, map, sym, ap, subst, append_assoc, append-nil}
use Rattle.plans.specs.declared.plan.Plan.{Plan}
use Rattle.shared_graph.specs.declared.entry.Entry.{Entry}
use Rattle.shared_graph.specs.declared.naming.Naming as naming
use Rattle.races.specs.declared.entrants.EarlyRun.{EarlyRun}
use Rattle.races.specs.declared.outcomes.ProgramRuns.{ProgramRuns}
use Rattle.races.specs.Race.{AllRan, RanTwice}
use Rattle.snapshot_runs.specs.Runs.{plan_of_runs}

-- some programs of all ran: what the others give makes up the whole
abbrev pub IsRunning : (n room turns : ℕ) → List Entry → (all left : List Plan) → List ProgramRuns → Type 0
IsRunning n room turns told all left runs = (more : List ProgramRuns) → AllRan n room turns told left more → AllRan n room turns told all (runs ++ more)

pub running_starts : (n room turns : ℕ) (told : List Entry) (all : List Plan) (runs : List ProgramRuns) → runs ≡ [] → IsRunning n room turns told all all runs
running_starts n room turns told all runs none = subst (IsRunning n room turns told all all) (sym none) (λ more ran. ran)

pub running_goes : (n room turns : ℕ) (told : List Entry) (all left : List Plan) (plan : Plan) (runs made : List ProgramRuns) (one : ProgramRuns)
    → IsRunning n room turns told all (plan ∷ left) runs → RanTwice n room plan turns told one → made ≡ runs ++ one ∷ []
    → IsRunning n room turns told all left made
running_goes n room turns told all left plan runs made one running ran is =
    subst (IsRunning n room turns told all left) (sym is)
    (λ more rest. subst (AllRan n room turns told all) (sym (append_assoc runs (one ∷ []) more)) (running (one ∷ more) (ran, rest)))

pub running_ends : (n room turns : ℕ) (told : List Entry) (all left : List Plan) (runs : List ProgramRuns) → IsRunning n room turns told all left runs → left ≡ []
    → AllRan n room turns told all runs
running_ends n room turns told all left runs running none =
    subst (AllRan n room turns told all) (append-nil runs) (running [] (subst (λ (l : List Plan). AllRan n room turns told l []) (sym none) tt))

-- the programs of runs that are left
abbrev pub plans_of : {J : Type 0} {g : naming.Ghosts J} → List (EarlyRun J g) → List Plan
plans_of ran = map (λ r. plan_of_runs r.runs) ran

pub running_goes_on : {J : Type 0} {g : naming.Ghosts J} (n room turns : ℕ) (told : List Entry) (all : List Plan) (first : EarlyRun J g) (before after : List (EarlyRun J g)) (runs made : List ProgramRuns) (one : ProgramRuns)
    → before ≡ first ∷ after → IsRunning n room turns told all (plans_of before) runs → RanTwice n room (plan_of_runs first.runs) turns told one → made ≡ runs ++ one ∷ []
    → IsRunning n room turns told all (plans_of after) made
running_goes_on n room turns told all first before after runs made one steps running ran is =
    running_goes n room turns told all (plans_of after) (plan_of_runs first.runs) runs made one
    (subst (λ ps. IsRunning n room turns told all ps runs) (ap plans_of steps) running) ran is

pub running_ends_at : {J : Type 0} {g : naming.Ghosts J} (n room turns : ℕ) (told : List Entry) (all : List Plan) (left : List (EarlyRun J g)) (runs : List ProgramRuns) → IsRunning n room turns told all (plans_of left) runs
    → left ≡ []
    → AllRan n room turns told all runs
running_ends_at n room turns told all left runs running none = running_ends n room turns told all (plans_of left) runs running (ap plans_of none)
