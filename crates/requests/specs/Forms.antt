-- The forms of a command line, and the words that each means.
use Rattle.std.specs.Prelude.{◌≡◌, ℕ, false, true, List, [], ◌∷◌, ◌++◌, None, codes, if◌then◌else◌}
use Rattle.std.specs.List.{AllByRecursion}
use Rattle.std.specs.Str.{bytes_eq}
use Rattle.clap.specs.Lexer.{strip_byte}
use Rattle.std.specs.Str.Parse.{digits_value, without_leading_plus}
use Rattle.clap.specs.ValueTests.{accepts}
use Rattle.clap.specs.Words.{Text}
use Rattle.clap.specs.declared.builder.value_parser.ValueParser.{ValueParser}
use Rattle.clap.specs.declared.builder.value_parser.ValueParser.TheVariants.{Unsigned}
use Rattle.requests.specs.Asked.{Asked, the_input, a_check, a_plan, a_script, a_race}

-- the words without the first `--`, after which no word is an option
abbrev pub operands : List Text → List Text
operands [] = []
operands (w ∷ ws) = if bytes_eq w (codes "--") then ws else w ∷ operands ws

-- what the operands of these words are, but for those of a race, which may have options
abbrev pub HasOperands : List Text → Asked → Type 0
HasOperands words the_input = operands words ≡ []
HasOperands words (a_check file) = operands words ≡ codes "check" ∷ file ∷ []
HasOperands words (a_plan file) = operands words ≡ codes "plan" ∷ file ∷ []
HasOperands words (a_script script programs) = operands words ≡ codes "script" ∷ script ∷ programs
HasOperands words (a_race script programs workers turns) = Unit {0}

-- no hyphen (45) begins the word
abbrev pub HasNoHyphen : Text → Type 0
HasNoHyphen word = strip_byte 45 word ≡ None

-- no words, or `check` or `plan` and one file, or `script` and files; after `--` where a hyphen may begin a name
pub data IsCommand : List Text → Type 0 where
  no_words : IsCommand []
  check_word : (file : Text) → HasNoHyphen file → IsCommand (codes "check" ∷ file ∷ [])
  check_after_dashes : (file : Text) → IsCommand (codes "check" ∷ codes "--" ∷ file ∷ [])
  plan_word : (file : Text) → HasNoHyphen file → IsCommand (codes "plan" ∷ file ∷ [])
  plan_after_dashes : (file : Text) → IsCommand (codes "plan" ∷ codes "--" ∷ file ∷ [])
  script_words : (file : Text) (others : List Text) → AllByRecursion HasNoHyphen (file ∷ others) → IsCommand (codes "script" ∷ file ∷ others)
  script_after_dashes : (file : Text) (others : List Text) → IsCommand (codes "script" ∷ codes "--" ∷ file ∷ others)

-- the options of a race, which have a number each
pub data NumberOption : Type 0 where
  the_workers : NumberOption
  the_turns : NumberOption

abbrev pub option_name : NumberOption → Text
option_name the_workers = codes "workers"
option_name the_turns = codes "turns"

-- the numbers that an option takes
abbrev pub numbers_of : NumberOption → ValueParser
numbers_of the_workers = Unsigned 1 64
numbers_of the_turns = Unsigned 0 18446744073709551615

-- a part of the words after `race`: a file, or an option with its number, joined by `=` or apart
pub data RacePart : Type 0 where
  a_file : (file : Text) → RacePart
  joined : (option : NumberOption) (number : Text) → RacePart
  apart : (option : NumberOption) (number : Text) → RacePart

-- the words of an option: two hyphens (45) before its name, and `=` (61)
abbrev pub option_word : NumberOption → Text
option_word option = 45 ∷ 45 ∷ option_name option

abbrev pub words_of_parts : List RacePart → List Text
words_of_parts [] = []
words_of_parts (a_file file ∷ parts) = file ∷ words_of_parts parts
words_of_parts (joined option number ∷ parts) = (option_word option ++ 61 ∷ number) ∷ words_of_parts parts
words_of_parts (apart option number ∷ parts) = option_word option ∷ number ∷ words_of_parts parts

abbrev pub files_in : List RacePart → List Text
files_in [] = []
files_in (a_file file ∷ parts) = file ∷ files_in parts
files_in (joined option number ∷ parts) = files_in parts
files_in (apart option number ∷ parts) = files_in parts

-- the number, where the options are the same
abbrev pub number_for : NumberOption → NumberOption → Text → List Text
number_for the_workers the_workers number = number ∷ []
number_for the_workers the_turns number = []
number_for the_turns the_workers number = []
number_for the_turns the_turns number = number ∷ []

-- the numbers that an option is given
abbrev pub numbers_in : NumberOption → List RacePart → List Text
numbers_in option [] = []
numbers_in option (a_file file ∷ parts) = numbers_in option parts
numbers_in option (joined other number ∷ parts) = number_for option other number ++ numbers_in option parts
numbers_in option (apart other number ∷ parts) = number_for option other number ++ numbers_in option parts

-- the option is not given, or once with a number that it takes
abbrev pub IsTaken : NumberOption → List Text → Type 0
IsTaken option [] = Unit {0}
IsTaken option (number ∷ []) = accepts false (numbers_of option) number ≡ true
IsTaken option (number ∷ other ∷ more) = ⊥

-- the number that is given, or else the default
abbrev pub number_given : ℕ → List Text → ℕ
number_given default [] = default
number_given default (number ∷ more) = digits_value 10 (without_leading_plus number)
