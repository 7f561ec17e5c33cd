-- The walk over the parts of a race, in any order.
use Rattle.std.proofs.Common.{◌≡◌, ◌++◌, ◌==◌, ◌&&◌, ℕ, Bool, true, false, List, [], ◌∷◌, length, Some, None, refl, sym, subst}
use Rattle.std.proofs.lemmas.Bool.{eqb-true, true≢false}
use Rattle.std.specs.Prelude.{nat_lt}
use Rattle.clap.specs.ValueTests.{accepts, is_numeral}
use Rattle.clap.specs.Words.{Row, Text}
use Rattle.clap.specs.Faults.{settle_fault, turn_fault}
use Rattle.clap.specs.Walk.{Walk, option, walked}
use Rattle.requests.specs.Forms.{HasNoHyphen, NumberOption, numbers_of, option_name, option_word, the_turns, the_workers}
use Rattle.requests.proofs.Flags.{no_dashes}
use Rattle.requests.proofs.RaceParts.{Pending, a_number, a_script, nothing, pending_of, settled_at, some_programs, walk_at}
use Rattle.requests.proofs.RaceWords.{race}

-- a word leads the walk from one index to another without a fault
pub record Turn (from : Walk) (word : Text) (to : Walk) : Type 0 where
  pub is : walked race.rules [] from word ≡ to
  pub quiet : turn_fault race [] from word ≡ []

abbrev pub IsQuiet : List Row → Pending → Type 0
IsQuiet rows pending = settle_fault race.rules false (record { rows = rows; pending = pending_of pending; skip = 0 }) ≡ []

-- ---- files

pub first_file : (rows : List Row) (file : Text) → HasNoHyphen file → Turn (walk_at 1 rows nothing) file (walk_at 2 rows (a_script file))
unfolding walked
first_file rows file h = record { is = simp (h, no_dashes file h); quiet = simp (h, no_dashes file h) }

pub first_after_workers : (rows : List Row) (number file : Text) → HasNoHyphen file → IsQuiet rows (a_number the_workers number)
    → Turn (walk_at 1 rows (a_number the_workers number)) file (walk_at 2 (settled_at rows (a_number the_workers number)) (a_script file))
unfolding walked
first_after_workers rows number file h quiet = record { is = simp (h, no_dashes file h); quiet = simp (h, no_dashes file h, quiet) }

pub first_after_turns : (rows : List Row) (number file : Text) → HasNoHyphen file → IsQuiet rows (a_number the_turns number)
    → Turn (walk_at 1 rows (a_number the_turns number)) file (walk_at 2 (settled_at rows (a_number the_turns number)) (a_script file))
unfolding walked
first_after_turns rows number file h quiet = record { is = simp (h, no_dashes file h); quiet = simp (h, no_dashes file h, quiet) }

pub next_file : (rows : List Row) (file : Text) → HasNoHyphen file → Turn (walk_at 2 rows nothing) file (walk_at 2 rows (some_programs file []))
unfolding walked
next_file rows file h = record { is = simp (h, no_dashes file h); quiet = simp (h, no_dashes file h) }

pub next_after_script : (rows : List Row) (script file : Text) → HasNoHyphen file → IsQuiet rows (a_script script)
    → Turn (walk_at 2 rows (a_script script)) file (walk_at 2 (settled_at rows (a_script script)) (some_programs file []))
unfolding walked
next_after_script rows script file h quiet = record { is = simp (h, no_dashes file h); quiet = simp (h, no_dashes file h, quiet) }

pub next_after_workers : (rows : List Row) (number file : Text) → HasNoHyphen file → IsQuiet rows (a_number the_workers number)
    → Turn (walk_at 2 rows (a_number the_workers number)) file (walk_at 2 (settled_at rows (a_number the_workers number)) (some_programs file []))
unfolding walked
next_after_workers rows number file h quiet = record { is = simp (h, no_dashes file h); quiet = simp (h, no_dashes file h, quiet) }

pub next_after_turns : (rows : List Row) (number file : Text) → HasNoHyphen file → IsQuiet rows (a_number the_turns number)
    → Turn (walk_at 2 rows (a_number the_turns number)) file (walk_at 2 (settled_at rows (a_number the_turns number)) (some_programs file []))
unfolding walked
next_after_turns rows number file h quiet = record { is = simp (h, no_dashes file h); quiet = simp (h, no_dashes file h, quiet) }

pub one_more_program : (rows : List Row) (program : Text) (programs : List Text) (file : Text) → HasNoHyphen file
    → Turn (walk_at 2 rows (some_programs program programs)) file (walk_at 2 rows (some_programs program (programs ++ file ∷ [])))
unfolding walked
one_more_program rows program programs file h = record { is = simp (h, no_dashes file h); quiet = simp (h, no_dashes file h) }

-- ---- options

-- the faults of a use of the option on these rows
abbrev IsFree : List Row → NumberOption → Text → Type 0
IsFree rows o number = IsQuiet rows (a_number o number)

pub workers_joined : (position : ℕ) (rows : List Row) (pending : Pending) (number : Text) → IsQuiet rows pending → IsFree (settled_at rows pending) the_workers number
    → Turn (walk_at position rows pending) (option_word the_workers ++ 61 ∷ number) (walk_at position (settled_at (settled_at rows pending) (a_number the_workers number)) nothing)
unfolding walked
workers_joined position rows nothing number quiet free = record { is = refl; quiet = rw free refl }
workers_joined position rows (a_script s) number quiet free = record { is = refl; quiet = rw (quiet, free) refl }
workers_joined position rows (some_programs p ps) number quiet free = record { is = refl; quiet = rw (quiet, free) refl }
workers_joined position rows (a_number the_workers n) number quiet free = record { is = refl; quiet = rw (quiet, free) refl }
workers_joined position rows (a_number the_turns n) number quiet free = record { is = refl; quiet = rw (quiet, free) refl }

pub turns_joined : (position : ℕ) (rows : List Row) (pending : Pending) (number : Text) → IsQuiet rows pending → IsFree (settled_at rows pending) the_turns number
    → Turn (walk_at position rows pending) (option_word the_turns ++ 61 ∷ number) (walk_at position (settled_at (settled_at rows pending) (a_number the_turns number)) nothing)
unfolding walked
turns_joined position rows nothing number quiet free = record { is = refl; quiet = rw free refl }
turns_joined position rows (a_script s) number quiet free = record { is = refl; quiet = rw (quiet, free) refl }
turns_joined position rows (some_programs p ps) number quiet free = record { is = refl; quiet = rw (quiet, free) refl }
turns_joined position rows (a_number the_workers n) number quiet free = record { is = refl; quiet = rw (quiet, free) refl }
turns_joined position rows (a_number the_turns n) number quiet free = record { is = refl; quiet = rw (quiet, free) refl }

-- the walk waits for the number of an option
abbrev pub waits_at : ℕ → List Row → NumberOption → Walk
waits_at position rows o = record {
  held = record { rows = rows; pending = Some (option_name o, []); skip = 0 };
  waiting = option (option_name o);
  position = position;
  is_trailing = false;
  stopped = None;
}

pub workers_named : (position : ℕ) (rows : List Row) (pending : Pending) → IsQuiet rows pending
    → Turn (walk_at position rows pending) (option_word the_workers) (waits_at position (settled_at rows pending) the_workers)
unfolding walked
workers_named position rows nothing quiet = record { is = refl; quiet = refl }
workers_named position rows (a_script s) quiet = record { is = refl; quiet = rw quiet refl }
workers_named position rows (some_programs p ps) quiet = record { is = refl; quiet = rw quiet refl }
workers_named position rows (a_number the_workers n) quiet = record { is = refl; quiet = rw quiet refl }
workers_named position rows (a_number the_turns n) quiet = record { is = refl; quiet = rw quiet refl }

pub turns_named : (position : ℕ) (rows : List Row) (pending : Pending) → IsQuiet rows pending
    → Turn (walk_at position rows pending) (option_word the_turns) (waits_at position (settled_at rows pending) the_turns)
unfolding walked
turns_named position rows nothing quiet = record { is = refl; quiet = refl }
turns_named position rows (a_script s) quiet = record { is = refl; quiet = rw quiet refl }
turns_named position rows (some_programs p ps) quiet = record { is = refl; quiet = rw quiet refl }
turns_named position rows (a_number the_workers n) quiet = record { is = refl; quiet = rw quiet refl }
turns_named position rows (a_number the_turns n) quiet = record { is = refl; quiet = rw quiet refl }

pub number_met : (o : NumberOption) (position : ℕ) (rows : List Row) (number : Text) → HasNoHyphen number → Turn (waits_at position rows o) number (walk_at position rows (a_number o number))
unfolding walked
number_met the_workers position rows number h = record { is = simp (h, no_dashes number h); quiet = simp (h, no_dashes number h) }
number_met the_turns position rows number h = record { is = simp (h, no_dashes number h); quiet = simp (h, no_dashes number h) }

-- a number begins with no hyphen
first_true : (a b : Bool) → (a && b) ≡ true → a ≡ true
first_true true b both = refl
first_true false b both = both

second_true : (a b : Bool) → (a && b) ≡ true → b ≡ true
second_true true b both = both
second_true false b both = absurd (true≢false (sym both))

no_numeral : (number : Text) → is_numeral (45 ∷ number) ≡ true → ⊥
no_numeral number is = true≢false (sym (second_true (nat_lt 0 (length (45 ∷ number))) _ is))

no_number : (o : NumberOption) (number : Text) → accepts false (numbers_of o) (45 ∷ number) ≡ true → ⊥
no_number the_workers number taken = no_numeral number (first_true (is_numeral (45 ∷ number)) _ taken)
no_number the_turns number taken = no_numeral number (first_true (is_numeral (45 ∷ number)) _ taken)

pub number_has_no_hyphen : (o : NumberOption) (number : Text) → accepts false (numbers_of o) number ≡ true → HasNoHyphen number
number_has_no_hyphen o [] taken = refl
number_has_no_hyphen o (c ∷ number) taken = go (c == 45) refl
  where
    go : (b : Bool) → (c == 45) ≡ b → HasNoHyphen (c ∷ number)
    go true is = absurd (no_number o number (subst (λ (d : ℕ). accepts false (numbers_of o) (d ∷ number) ≡ true) (eqb-true c 45 is) taken))
    go false is = rw is refl
