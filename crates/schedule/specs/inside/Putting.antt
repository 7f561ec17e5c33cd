-- Steps of reading a schedule: what each puts into a table or a schedule, for the contracts of private functions.
use Rattle.std.specs.Prelude.{◌≡◌, ℕ, nat_eq, List, ◌++◌, Option, Some, None, Result, Ok, Err, if◌then◌else◌}
use Rattle.std.specs.Borrow.{Bor}
use Rattle.std.specs.Map.{lookup}
use Rattle.typed_tree.specs.BlockTree.{BlockTree}
use Rattle.schedule.specs.declared.site.Site.{Site}
use Rattle.schedule.specs.Schedule.{site_of, index_from}
use Rattle.std.specs.Str.{bytes_eq}
use Rattle.expression_types.specs.ScopeTree.{found}
use Rattle.schedule.specs.declared.error.ScheduleRule.{ScheduleRule}
use Rattle.schedule.specs.declared.error.ScheduleError.{ScheduleError}
use Rattle.schedule.specs.declared.error.ScheduleError.TheVariants.{Faulty, NoMemory}
use Rattle.apply_options.specs.ScheduleTree.{ScheduleTree}

abbrev pub first_of : {T : Type 0} → Option T → Option T → Option T
first_of (Some index) rest = Some index
first_of None rest = rest

-- the table has the indices of these names, of each the first
abbrev pub AreIndices : List (List ℕ × ℕ) → List (List ℕ) → Type 0
AreIndices indices names = (name : List ℕ) → found name indices ≡ index_from 0 name names

-- the name has this index where it had none
abbrev pub PutsIndex : List (List ℕ × ℕ) → List ℕ → ℕ → List (List ℕ × ℕ) → Type 0
PutsIndex old name index new =
    (other : List ℕ) (rest : Option ℕ) → first_of (found other new) rest ≡ first_of (found other old) (if bytes_eq other name then Some index else rest)

-- a call that breaks no rule leaves its result, and another answers the rule
abbrev pub Puts : Result ScheduleTree ScheduleRule → Option ScheduleRule → ScheduleTree → Type 0
Puts outcome None new = outcome ≡ Ok new
Puts outcome (Some rule) new = outcome ≡ Err rule

-- the vectors of the names that are read, and all that are taken then; or none
abbrev pub Groups : Option (List ℕ) → Option (List ℕ) → (old new : List ℕ) → Type 0
Groups outcome None old new = outcome ≡ None
Groups outcome (Some group) old new = (outcome ≡ Some group) × (new ≡ old ++ group)

-- the same as `Puts` of calls in a row
abbrev pub PutsAll : {T : Type 0} → Result ScheduleTree (ScheduleRule × ℕ) → Result T ScheduleError → ScheduleTree → Type 0
PutsAll outcome (Ok _) new = outcome ≡ Ok new
PutsAll outcome (Err (Faulty rule at)) new = outcome ≡ Err (rule, at)
PutsAll outcome (Err NoMemory) new = Unit {0}

-- the table has what each label is before
abbrev pub AreSites : List (ℕ × Site) → BlockTree → Type 0
AreSites sites main = (label : ℕ) → lookup (nat_eq label) sites ≡ site_of label main

-- the bytes of two arguments
abbrev pub bytes_of_two : Bor (List ℕ) × Bor (List ℕ) → List ℕ × List ℕ
bytes_of_two arguments = (arguments.0.now, arguments.1.now)

-- the label is before this where it stood before nothing
abbrev pub PutsSite : List (ℕ × Site) → ℕ → Site → List (ℕ × Site) → Type 0
PutsSite old label site new =
    (other : ℕ) (rest : Option Site) → first_of (lookup (nat_eq other) new) rest ≡ first_of (lookup (nat_eq other) old)
    (if nat_eq other label then Some site else rest)
