-- The parts of a race, in any order.
use Rattle.std.proofs.Common.{◌≡◌, ◌∙◌, ◌++◌, ◌<◌, ◌≤◌, ℕ, true, false, List, [], ◌∷◌, length, Option, Some, None, refl, sym, ap, subst, codes, arith, append-nil}
use Rattle.clap.specs.Lexer.{usize_max}
use Rattle.clap.specs.ValueTests.{accepts}
use Rattle.clap.specs.Words.{Row, Text}
use Rattle.clap.specs.Faults.{settle_fault, values_fault}
use Rattle.clap.specs.Simple.{filled}
use Rattle.clap.specs.Walk.{Waiting, Walk, idle, positional, settled_rows}
use Rattle.requests.specs.Asked.{race_programs}
use Rattle.requests.specs.Forms.{NumberOption, number_for, numbers_of, option_name, the_turns, the_workers}
use Rattle.requests.proofs.RaceRows.{found_row, given, look, look_kept, look_more, look_new, no_row, without_none}
use Rattle.requests.proofs.RaceWords.{race}
use Rattle.requests.proofs.ScriptWords.{range_quiet}

-- ---- what is found of n files and numbers

abbrev pub script_row : List Text → Option Row
script_row [] = None
script_row (script ∷ programs) = Some (found_row (codes "SCRIPT") (script ∷ []))

abbrev pub programs_row : List Text → Option Row
programs_row [] = None
programs_row (script ∷ []) = None
programs_row (script ∷ program ∷ programs) = Some (found_row (codes "PROGRAM") (program ∷ programs))

abbrev pub number_row : NumberOption → List Text → Option Row
number_row option [] = None
number_row option (number ∷ more) = Some (found_row (option_name option) (number ∷ []))

-- the rows are those of these files and numbers
pub record AreRows (files workers turns : List Text) (rows : List Row) : Type 0 where
  pub script : look (codes "SCRIPT") rows ≡ script_row files
  pub programs : look (codes "PROGRAM") rows ≡ programs_row files
  pub workers_are : look (codes "workers") rows ≡ number_row the_workers workers
  pub turns_are : look (codes "turns") rows ≡ number_row the_turns turns

-- ---- what is pending between two parts

pub data Pending : Type 0 where
  nothing : Pending
  a_script : (script : Text) → Pending
  some_programs : (program : Text) (programs : List Text) → Pending
  a_number : (option : NumberOption) (number : Text) → Pending

abbrev pub pending_of : Pending → Option (Text × List Text)
pending_of nothing = None
pending_of (a_script script) = Some (codes "SCRIPT", script ∷ [])
pending_of (some_programs program programs) = Some (codes "PROGRAM", program ∷ programs)
pending_of (a_number option number) = Some (option_name option, number ∷ [])

abbrev pub waiting_in : Pending → Waiting
waiting_in (some_programs program programs) = positional
waiting_in _ = idle

abbrev pub pending_files : Pending → List Text
pending_files (a_script script) = script ∷ []
pending_files (some_programs program programs) = program ∷ programs
pending_files _ = []

abbrev pub pending_numbers : NumberOption → Pending → List Text
pending_numbers option (a_number other number) = number_for option other number
pending_numbers option _ = []

-- where the walk stands
abbrev pub walk_at : ℕ → List Row → Pending → Walk
walk_at position rows pending = record {
  held = record { rows = rows; pending = pending_of pending; skip = 0 };
  waiting = waiting_in pending;
  position = position;
  is_trailing = false;
  stopped = None;
}

-- the script is the first positional, and programs are the second
abbrev pub position_after : List Text → ℕ
position_after [] = 1
position_after (f ∷ fs) = 2

-- what is pending may follow these files and numbers
abbrev pub Follows : List Text → List Text → List Text → Pending → Type 0
Follows files workers turns nothing = Unit {0}
Follows files workers turns (a_script script) = files ≡ []
Follows files workers turns (some_programs program programs) = 0 < length files
Follows files workers turns (a_number the_workers number) = (workers ≡ []) × (accepts false (numbers_of the_workers) number ≡ true)
Follows files workers turns (a_number the_turns number) = (turns ≡ []) × (accepts false (numbers_of the_turns) number ≡ true)

-- the rows once that is used
abbrev pub settled_at : List Row → Pending → List Row
settled_at rows pending = settled_rows race.rules (pending_of pending) rows

-- ---- use of what is pending

-- a script is found
script_used : (files workers turns : List Text) (rows : List Row) (script : Text) → files ≡ [] → AreRows files workers turns rows
    → AreRows (files ++ script ∷ []) workers turns (settled_at rows (a_script script))
script_used [] workers turns rows script none are =
    let same : settled_at rows (a_script script) ≡ given (codes "SCRIPT") (script ∷ []) rows = ap (given (codes "SCRIPT") (script ∷ [])) (without_none (codes "SCRIPT") rows are.script) in
    subst (AreRows (script ∷ []) workers turns) (sym same) (record {
      script = look_new (codes "SCRIPT") (script ∷ []) refl rows are.script;
      programs = look_kept (codes "SCRIPT") (codes "PROGRAM") (script ∷ []) refl rows ∙ are.programs;
      workers_are = look_kept (codes "SCRIPT") (codes "workers") (script ∷ []) refl rows ∙ are.workers_are;
      turns_are = look_kept (codes "SCRIPT") (codes "turns") (script ∷ []) refl rows ∙ are.turns_are;
    })
script_used (f ∷ fs) workers turns rows script none are = cc

-- programs are found
programs_used : (files workers turns : List Text) (rows : List Row) (program : Text) (programs : List Text) → 0 < length files → AreRows files workers turns rows
    → AreRows (files ++ program ∷ programs) workers turns (settled_at rows (some_programs program programs))
programs_used [] workers turns rows program programs some are = absurd (omega (arith, some))
programs_used (script ∷ []) workers turns rows program programs some are = record {
  script = look_kept (codes "PROGRAM") (codes "SCRIPT") (program ∷ programs) refl rows ∙ are.script;
  programs = look_new (codes "PROGRAM") (program ∷ programs) refl rows are.programs;
  workers_are = look_kept (codes "PROGRAM") (codes "workers") (program ∷ programs) refl rows ∙ are.workers_are;
  turns_are = look_kept (codes "PROGRAM") (codes "turns") (program ∷ programs) refl rows ∙ are.turns_are;
}
programs_used (script ∷ p ∷ ps) workers turns rows program programs some are = record {
  script = look_kept (codes "PROGRAM") (codes "SCRIPT") (program ∷ programs) refl rows ∙ are.script;
  programs = look_more (codes "PROGRAM") (p ∷ ps) (program ∷ programs) rows are.programs;
  workers_are = look_kept (codes "PROGRAM") (codes "workers") (program ∷ programs) refl rows ∙ are.workers_are;
  turns_are = look_kept (codes "PROGRAM") (codes "turns") (program ∷ programs) refl rows ∙ are.turns_are;
}

-- a number of workers is found
pub workers_used : (files turns : List Text) (rows : List Row) (number : Text) → AreRows files [] turns rows → AreRows files (number ∷ []) turns (settled_at rows (a_number the_workers number))
workers_used files turns rows number are =
    let same : settled_at rows (a_number the_workers number) ≡ given (codes "workers") (number ∷ []) rows =
    ap (given (codes "workers") (number ∷ [])) (without_none (codes "workers") rows are.workers_are) in
    subst (AreRows files (number ∷ []) turns) (sym same) (record {
      script = look_kept (codes "workers") (codes "SCRIPT") (number ∷ []) refl rows ∙ are.script;
      programs = look_kept (codes "workers") (codes "PROGRAM") (number ∷ []) refl rows ∙ are.programs;
      workers_are = look_new (codes "workers") (number ∷ []) refl rows are.workers_are;
      turns_are = look_kept (codes "workers") (codes "turns") (number ∷ []) refl rows ∙ are.turns_are;
    })

-- a bound of turns is found
pub turns_used : (files workers : List Text) (rows : List Row) (number : Text) → AreRows files workers [] rows → AreRows files workers (number ∷ []) (settled_at rows (a_number the_turns number))
turns_used files workers rows number are =
    let same : settled_at rows (a_number the_turns number) ≡ given (codes "turns") (number ∷ []) rows = ap (given (codes "turns") (number ∷ [])) (without_none (codes "turns") rows are.turns_are) in
    subst (AreRows files workers (number ∷ [])) (sym same) (record {
      script = look_kept (codes "turns") (codes "SCRIPT") (number ∷ []) refl rows ∙ are.script;
      programs = look_kept (codes "turns") (codes "PROGRAM") (number ∷ []) refl rows ∙ are.programs;
      workers_are = look_kept (codes "turns") (codes "workers") (number ∷ []) refl rows ∙ are.workers_are;
      turns_are = look_new (codes "turns") (number ∷ []) refl rows are.turns_are;
    })

-- whatever is pending is found
pub all_used : (files workers turns : List Text) (rows : List Row) (pending : Pending) → AreRows files workers turns rows → Follows files workers turns pending
    → AreRows (files ++ pending_files pending) (workers ++ pending_numbers the_workers pending) (turns ++ pending_numbers the_turns pending) (settled_at rows pending)
all_used files workers turns rows nothing are follows = rw (append-nil files, append-nil workers, append-nil turns) are
all_used files workers turns rows (a_script script) are follows = rw (append-nil workers, append-nil turns) (script_used files workers turns rows script follows are)
all_used files workers turns rows (some_programs program programs) are follows =
    rw (append-nil workers, append-nil turns) (programs_used files workers turns rows program programs follows are)
all_used files workers turns rows (a_number the_workers number) are follows =
    rw (append-nil files, append-nil turns, follows.0) (workers_used files turns rows number (subst (λ (w : List Text). AreRows files w turns rows) follows.0 are))
all_used files workers turns rows (a_number the_turns number) are follows =
    rw (append-nil files, append-nil workers, follows.0) (turns_used files workers rows number (subst (λ (t : List Text). AreRows files workers t rows) follows.0 are))

texts_quiet : (words : List Text) → values_fault (filled race_programs) words ≡ []
texts_quiet [] = refl
texts_quiet (word ∷ words) = texts_quiet words

-- it is used without a fault
pub use_quiet : (files workers turns : List Text) (rows : List Row) (pending : Pending) → AreRows files workers turns rows → Follows files workers turns pending
    → length (pending_files pending) ≤ usize_max → settle_fault race.rules false (record { rows = rows; pending = pending_of pending; skip = 0 }) ≡ []
use_quiet files workers turns rows nothing are follows few = refl
use_quiet files workers turns rows (a_script script) are follows few =
    rw (no_row (codes "SCRIPT") rows (subst (λ (fs : List Text). look (codes "SCRIPT") rows ≡ script_row fs) follows are.script)) refl
use_quiet files workers turns rows (some_programs program programs) are follows few =
    rw (range_quiet (length (program ∷ programs)) (omega arith) few) (texts_quiet (program ∷ programs))
use_quiet files workers turns rows (a_number the_workers number) are follows few =
    rw (no_row (codes "workers") rows (subst (λ (w : List Text). look (codes "workers") rows ≡ number_row the_workers w) follows.0 are.workers_are), follows.1) refl
use_quiet files workers turns rows (a_number the_turns number) are follows few =
    rw (no_row (codes "turns") rows (subst (λ (t : List Text). look (codes "turns") rows ≡ number_row the_turns t) follows.0 are.turns_are), follows.1) refl
