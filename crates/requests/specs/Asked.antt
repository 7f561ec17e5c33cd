-- The commands and options of the command line, and what words ask for, as clap reads them.
use Rattle.std.specs.Prelude.{◌≡◌, ◌≢◌, ℕ, ◌<◌, ◌≤◌, List, [], ◌∷◌, Option, Some, None, Result, Ok, Err, false, codes, map, unwrap_or, if◌then◌else◌, true}
use Rattle.std.specs.Option.{option_map_or}
use Rattle.std.specs.Str.{bytes_eq}
use Rattle.std.specs.Str.Parse.{digits_value, without_leading_plus}
use Rattle.clap.specs.Words.{Kinds, IsAmong, Row, Text, all_of, fault_of, first_of, kind_of, one_of, subcommand_of, Rule, new_rule, App, new_app, with_rule}
use Rattle.clap.specs.Words.{with_subcommand}
use Rattle.clap.specs.ValueTests.{accepts}
use Rattle.clap.specs.declared.builder.value_parser.ValueParser.TheVariants.{Unsigned}
use Rattle.clap.specs.Lexer.{usize_max}
use Rattle.clap.specs.declared.builder.action.ArgAction.TheVariants.{Append}
use Rattle.clap.specs.declared.error.kind.ErrorKind.TheVariants as kind
use Rattle.requests.specs.declared.asked.Request.{Request}
use Rattle.requests.specs.declared.asked.Request.TheVariants.{Input, Check, Plan, Script, Race}
use Rattle.requests.specs.declared.asked.RequestError.{RequestError}
use Rattle.requests.specs.declared.asked.RequestError.TheVariants as error

-- what is asked for: files by their names, a number of workers and a bound of turns
pub data Asked : Type 0 where
  the_input : Asked
  a_check : (file : Text) → Asked
  a_plan : (file : Text) → Asked
  a_script : (script : Text) (programs : List Text) → Asked
  a_race : (script : Text) (programs : List Text) (workers turns : ℕ) → Asked

-- what a request asks for
abbrev pub asked_by : Request → Asked
asked_by Input = the_input
asked_by (Check file) = a_check file.now
asked_by (Plan file) = a_plan file.now
asked_by (Script script programs) = a_script script.now (map (λ p. p.now) programs.items)
asked_by (Race script programs workers turns) = a_race script.now (map (λ p. p.now) programs.items) workers turns

-- the file that was found by this name
abbrev pub file_of : Text → List Row → Text
file_of id rows = unwrap_or (first_of id rows) []

-- the files that were found by this name
abbrev pub files_of : Text → List Row → List Text
files_of id rows = unwrap_or (all_of id rows) []

-- the number from `least` to `most` that the text is, or else the default
abbrev pub number_in : (least most default : ℕ) → Text → ℕ
number_in least most default text = if accepts false (Unsigned least most) text then digits_value 10 (without_leading_plus text) else default

-- the number that was found by this name, or the default
abbrev pub number_of : (id : Text) (least most default : ℕ) → List Row → ℕ
number_of id least most default rows = option_map_or (number_in least most default) (one_of id rows) default

-- the first file is the script
abbrev pub script_with : List Text → Asked
script_with [] = the_input
script_with (script ∷ programs) = a_script script programs

-- a race of the files and numbers that were found; 2 workers and 1,000,000 turns if none are given
abbrev pub race_of : List Row → Asked
race_of rows =
    a_race (file_of (codes "SCRIPT") rows) (files_of (codes "PROGRAM") rows) (number_of (codes "workers") 1 64 2 rows)
    (number_of (codes "turns") 0 18446744073709551615 1000000 rows)

-- what the command of this name asks for, with what was found after it
abbrev pub command_named : Text → List Row → Asked
command_named name rows =
    if bytes_eq name (codes "check") then a_check (file_of (codes "FILE") rows) else
    if bytes_eq name (codes "plan") then a_plan (file_of (codes "FILE") rows) else
    if bytes_eq name (codes "race") then race_of rows else
    script_with (files_of (codes "FILE") rows)

-- with no command, the input
abbrev pub found_request : Option (Text × List Row) → Asked
found_request None = the_input
found_request (Some p) = command_named p.0 p.1

-- the name of the script's file after `race`
abbrev pub race_script : Rule
race_script = record (new_rule (codes "SCRIPT")) { required = true }

-- the names of the programs' files after `race`, one or more, which options may be between
abbrev pub race_programs : Rule
race_programs = record (new_rule (codes "PROGRAM")) {
  required = true;
  range = Some (record { start_inclusive = 1; end_inclusive = usize_max });
}

-- an option of this name with a number from `least` to `most`
abbrev pub number_option : Text → ℕ → ℕ → Rule
number_option name least most = record (new_rule name) { long = Some name; parser = Some (Unsigned least most) }

-- how many workers a run has
abbrev pub workers_option : Rule
workers_option = number_option (codes "workers") 1 64

-- how many turns a run may use
abbrev pub turns_option : Rule
turns_option = number_option (codes "turns") 0 18446744073709551615

-- the command `race`
abbrev pub race_command : App
race_command = with_rule (with_rule (with_rule (with_rule (new_app (codes "race")) race_script) race_programs) workers_option) turns_option

-- the name of the one file that a command takes
abbrev pub one_file : Rule
one_file = record (new_rule (codes "FILE")) { required = true }

-- a command of this name that takes one file
abbrev pub file_command : Text → App
file_command name = with_rule (new_app name) one_file

-- the files' names after `script`: that of the script, and then those of programs
abbrev pub script_files : Rule
script_files = record (new_rule (codes "FILE")) {
  required = true;
  action = Some Append;
  value_names = 2;
  range = Some (record { start_inclusive = 1; end_inclusive = usize_max });
}

-- the command `script`
abbrev pub script_command : App
script_command = with_rule (new_app (codes "script")) script_files

-- the program, which clap gets the words of without its name
abbrev pub program : App
program =
    let named = new_app (codes "gsnap") in
    record { top = record named.top { no_binary_name = true; has_version = true }; subs = [] }

-- the commands that a file or more follow
abbrev pub file_commands : App
file_commands =
    with_subcommand (with_subcommand (with_subcommand program (file_command (codes "check")).top) (file_command (codes "plan")).top) script_command.top

-- the whole command line
abbrev pub command_line : App
command_line = with_subcommand file_commands race_command.top

-- what the words ask for
abbrev pub request_of : List Text → Asked
request_of words = found_request (subcommand_of command_line words)

-- out of memory, or a fault of one of these kinds
abbrev pub IsFaultAmong : Kinds → RequestError → Type 0
IsFaultAmong kinds error.NoMemory = Unit {0}
IsFaultAmong kinds error.NotText = ⊥
IsFaultAmong kinds (error.Fault e) = (kind_of e ≢ kind.OutOfMemory) × IsAmong (kind_of e) kinds

-- the words are without a fault, and this is what they ask for; or they have a fault of this kind, or memory ran out
abbrev pub Answers : List Text → Result Request RequestError → Type 0
Answers words (Ok request) = (fault_of command_line words ≡ []) × (asked_by request ≡ request_of words)
Answers words (Err e) = IsFaultAmong (fault_of command_line words) e

-- the words are without a fault, and ask for this
abbrev pub Asks : List Text → Asked → Type 0
Asks words asked = (fault_of command_line words ≡ []) × (request_of words ≡ asked)

-- 1 to 64 workers, where a race is asked for
abbrev pub HasFewWorkers : Asked → Type 0
HasFewWorkers (a_race script programs workers turns) = (0 < workers) × (workers ≤ 64)
HasFewWorkers asked = Unit {0}
