-- The words of races.
use Rattle.std.proofs.Common.{◌≡◌, ◌∙◌, ◌++◌, true, false, List, [], ◌∷◌, Some, None, ap, codes, refl}
use Rattle.std.specs.Prelude.{fold, slice_index_or}
use Rattle.std.specs.Str.Parse.{digits_value, without_leading_plus}
use Rattle.clap.proofs.OnLiterals.{clap_on_literals}
use Rattle.clap.proofs.FaultLemmas.{stopped_fault}
use Rattle.clap.specs.ValueTests.{accepts}
use Rattle.clap.specs.Words.{Row, Shape, Text, built, fault_of}
use Rattle.clap.specs.Faults.{defaults_fault, level_fault, turn_fault, walk_fault}
use Rattle.clap.specs.Walk.{Walk, has_row, idle, nothing_held, positional, settled_rows, walked}
use Rattle.clap.specs.declared.builder.value_parser.Reading.TheVariants.{AsWritten}
use Rattle.clap.specs.declared.parser.matches.ValueSource.TheVariants.{CommandLine}
use Rattle.clap.specs.declared.builder.value_parser.ValueParser.TheVariants.{Unsigned}
use Rattle.clap.specs.declared.error.kind.ErrorKind.TheVariants.{ValueValidation}
use Rattle.requests.specs.Asked.{Asks, a_race, command_line, race_command}
use Rattle.requests.specs.Forms.{HasNoHyphen}
use Rattle.requests.proofs.Flags.{no_dashes}
use Rattle.requests.proofs.Operands.{at_start, gathers, names, top}

-- a script and a program
pub plain_race : (script program : Text) → HasNoHyphen script → HasNoHyphen program → Asks (codes "race" ∷ script ∷ program ∷ []) (a_race script (program ∷ []) 2 1000000)
unfolding clap_on_literals
plain_race script program s p = (simp (s, no_dashes script s, p, no_dashes program p), simp (s, no_dashes script s, p, no_dashes program p))

-- a number of workers that is none from 1 to 64
pub bad_workers : (number : Text) (words : List Text) → accepts false (Unsigned 1 64) number ≡ false
    → fault_of command_line (codes "race" ∷ (codes "--workers=" ++ number) ∷ words) ≡ ValueValidation ∷ []
unfolding clap_on_literals
bad_workers number words bad =
    rw (
      gathers top.rules names (at_start false) (codes "race") [] ((codes "--workers=" ++ number) ∷ words),
      stopped_fault top names (at_start false) (codes "race", []) ((codes "--workers=" ++ number) ∷ words),
    ) (rw bad refl)

-- a bound of turns that is no number below 2 ^ 64
pub bad_turns : (number : Text) (words : List Text) → accepts false (Unsigned 0 18446744073709551615) number ≡ false
    → fault_of command_line (codes "race" ∷ (codes "--turns=" ++ number) ∷ words) ≡ ValueValidation ∷ []
unfolding clap_on_literals
bad_turns number words bad =
    rw (
      gathers top.rules names (at_start false) (codes "race") [] ((codes "--turns=" ++ number) ∷ words),
      stopped_fault top names (at_start false) (codes "race", []) ((codes "--turns=" ++ number) ∷ words),
    ) (rw bad refl)

-- ---- options in front of the files

-- the command `race`, once it is built
abbrev pub race : Shape
race = slice_index_or (built command_line).subs 3 race_command.top

-- what is found of an option with this number
abbrev number_row : Text → Text → Row
number_row name number = record { id = name; values = number ∷ []; count = None; source = Some CommandLine; reading = AsWritten }

-- after these options
abbrev after_options : List Row → Walk
after_options rows = record { held = record { rows = rows; pending = None; skip = 0 }; waiting = idle; position = 1; is_trailing = false; stopped = None }

-- and the script
abbrev after_script : List Row → Text → Walk
after_script rows script = record { held = record { rows = rows; pending = Some (codes "SCRIPT", script ∷ []); skip = 0 }; waiting = idle; position = 2; is_trailing = false; stopped = None }

-- and a program
abbrev after_program : List Row → Text → Text → Walk
after_program rows script program = record {
  held = record { rows = settled_rows race.rules (Some (codes "SCRIPT", script ∷ [])) rows; pending = Some (codes "PROGRAM", program ∷ []); skip = 0 };
  waiting = positional;
  position = 2;
  is_trailing = false;
  stopped = None;
}

workers_walked : (number : Text) → walked race.rules [] (after_options []) (codes "--workers=" ++ number) ≡ after_options (number_row (codes "workers") number ∷ [])
unfolding walked
workers_walked number = refl

workers_quiet : (number : Text) → accepts false (Unsigned 1 64) number ≡ true → turn_fault race [] (after_options []) (codes "--workers=" ++ number) ≡ []
unfolding walked
workers_quiet number is = rw is refl

turns_walked : (workers number : Text) → walked race.rules [] (after_options (number_row (codes "workers") workers ∷ [])) (codes "--turns=" ++ number)
    ≡ after_options (number_row (codes "workers") workers ∷ number_row (codes "turns") number ∷ [])
unfolding walked
turns_walked workers number = refl

turns_quiet : (workers number : Text) → accepts false (Unsigned 0 18446744073709551615) number ≡ true
    → turn_fault race [] (after_options (number_row (codes "workers") workers ∷ [])) (codes "--turns=" ++ number) ≡ []
unfolding walked
turns_quiet workers number is = rw is refl

script_walked : (rows : List Row) (script : Text) → HasNoHyphen script → walked race.rules [] (after_options rows) script ≡ after_script rows script
unfolding walked
script_walked rows script h = simp (h, no_dashes script h)

script_quiet : (rows : List Row) (script : Text) → HasNoHyphen script → turn_fault race [] (after_options rows) script ≡ []
unfolding walked
script_quiet rows script h = simp (h, no_dashes script h)

program_walked : (rows : List Row) (script program : Text) → HasNoHyphen program → walked race.rules [] (after_script rows script) program ≡ after_program rows script program
unfolding walked
program_walked rows script program h = simp (h, no_dashes program h)

program_quiet : (rows : List Row) (script program : Text) → has_row (codes "SCRIPT") rows ≡ false → HasNoHyphen program → turn_fault race [] (after_script rows script) program ≡ []
unfolding walked
program_quiet rows script program new h = simp (new, h, no_dashes program h)

module _ (workers turns script program : Text) (w : accepts false (Unsigned 1 64) workers ≡ true) (t : accepts false (Unsigned 0 18446744073709551615) turns ≡ true)
    (s : HasNoHyphen script) (p : HasNoHyphen program) where
  abbrev words : List Text
  words = (codes "--workers=" ++ workers) ∷ (codes "--turns=" ++ turns) ∷ script ∷ program ∷ []

  abbrev rows : List Row
  rows = number_row (codes "workers") workers ∷ number_row (codes "turns") turns ∷ []

  walk_is : fold (walked race.rules []) (after_options []) words ≡ after_program rows script program
  walk_is =
      ap (λ (x : Walk). fold (walked race.rules []) x ((codes "--turns=" ++ turns) ∷ script ∷ program ∷ [])) (workers_walked workers)
      ∙ ap (λ (x : Walk). fold (walked race.rules []) x (script ∷ program ∷ [])) (turns_walked workers turns)
      ∙ ap (λ (x : Walk). fold (walked race.rules []) x (program ∷ [])) (script_walked rows script s)
      ∙ program_walked rows script program p

  turns_are_quiet : walk_fault race [] (after_options []) words ≡ []
  unfolding walk_fault
  turns_are_quiet =
      rw (
        workers_quiet workers w,
        workers_walked workers,
        turns_quiet workers turns t,
        turns_walked workers turns,
        script_quiet rows script s,
        script_walked rows script s,
        program_quiet rows script program refl p,
      ) refl

  level_quiet : level_fault race [] nothing_held words false [] ≡ []
  unfolding defaults_fault
  level_quiet = rw (turns_are_quiet, walk_is) refl

  pub race_by_options : Asks (codes "race" ∷ (codes "--workers=" ++ workers) ∷ (codes "--turns=" ++ turns) ∷ script ∷ program ∷ [])
      (a_race script (program ∷ []) (digits_value 10 (without_leading_plus workers)) (digits_value 10 (without_leading_plus turns)))
  unfolding clap_on_literals
  race_by_options = (rw level_quiet refl, rw walk_is (rw (w, t) refl))
