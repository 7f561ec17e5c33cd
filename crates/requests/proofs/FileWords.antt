-- The words after a command that takes one file: without a fault, they are that file, but for a `--`.
use Rattle.std.proofs.Common.{◌≡◌, ◌∙◌, ◌++◌, ℕ, Bool, true, false, List, [], ◌∷◌, Option, Some, None, refl, ap, subst, codes}
use Rattle.std.specs.Prelude.{MatchOption, fold, slice_index_or}
use Rattle.std.specs.Str.{bytes_eq}
use Rattle.clap.specs.Lexer.{long_of}
use Rattle.clap.specs.Words.{Rule, Shape, Text, built, all_of, with_subcommand}
use Rattle.clap.specs.Walk.{Walk, idle, rows_after, walked}
use Rattle.clap.specs.Faults.{defaults_fault, flag_word_fault, level_fault, walk_fault}
use Rattle.clap.specs.Kinds.{Kinds}
use Rattle.clap.specs.declared.error.kind.ErrorKind.TheVariants.{MissingRequiredArgument, UnknownArgument}
use Rattle.requests.specs.Asked.{file_command, program}
use Rattle.requests.specs.Forms.{HasNoHyphen, operands}
use Rattle.requests.proofs.Flags.{HasOnlyAnswers, TakesValues, dashes, first_is_quiet, held, is_value, no_dashes, none_or_help, second_is_quiet, step_is_fault}

-- the command of this name, once it is built
abbrev pub taker : Text → Shape
taker name = slice_index_or (built (with_subcommand program (file_command name).top)).subs 0 (file_command name).top

-- its rules, which are those of any such command
abbrev rules : List Rule
rules = (taker []).rules

-- the words are the one file that clap finds in them, but for a `--`
abbrev pub NamesOne : List Text → Option (List Text) → Type 0
NamesOne words files = MatchOption files ⊥ (λ fs. (file : Text) × (fs ≡ file ∷ []) × (operands words ≡ file ∷ []))

only_help : HasOnlyAnswers rules
only_help = record { long = λ name. none_or_help _; short = λ x. none_or_help _ }

-- ---- where the walk stands after no file or one; `behind` says that it has passed a `--`

abbrev pending_file : Option Text → Option (Text × List Text)
pending_file None = None
pending_file (Some file) = Some (codes "FILE", file ∷ [])

abbrev position_after : Option Text → ℕ
position_after None = 1
position_after (Some file) = 2

abbrev at_file : Option Text → Bool → Walk
at_file file behind = record { held = held (pending_file file); waiting = idle; position = position_after file; is_trailing = behind; stopped = None }

abbrev after_words : Option Text → Bool → List Text → Walk
after_words file behind words = fold (walked rules []) (at_file file behind) words

-- the operands among words after a `--` or not
abbrev operands_from : Bool → List Text → List Text
operands_from true words = words
operands_from false words = operands words

abbrev files_of : Option Text → List Text
files_of None = []
files_of (Some file) = file ∷ []

takes_values : TakesValues rules idle
takes_values word h = refl

-- the faults of a word that is no `--`
abbrev faults_in : Option Text → Text → Kinds
faults_in file word = flag_word_fault rules false (long_of word) word (held (pending_file file))

-- the walk over these words ends after no file or one, and the words name it
record Ends (file : Option Text) (behind : Bool) (words : List Text) : Type 0 where
  pub last : Option Text
  pub is_behind : Bool
  pub is : after_words file behind words ≡ at_file last is_behind
  pub names : files_of file ++ operands_from behind words ≡ files_of last

-- ---- one word

walked_file : (word : Text) → bytes_eq word dashes ≡ false → faults_in None word ≡ [] → walked rules [] (at_file None false) word ≡ at_file (Some word) false
unfolding walked
walked_file word other quiet = rw (other, is_value rules only_help idle takes_values None word (long_of word) quiet) refl

walked_dashes : (file : Option Text) (word : Text) → bytes_eq word dashes ≡ true → walked rules [] (at_file file false) word ≡ at_file file true
unfolding walked
walked_dashes None word is = rw is refl
walked_dashes (Some file) word is = rw is refl

second_is_fault : (name file word : Text) (words : List Text) → bytes_eq word dashes ≡ false
    → walk_fault (taker name) [] (at_file (Some file) false) (word ∷ words) ≡ [] → ⊥
unfolding walk_fault
second_is_fault name file word words other e =
    let faults = rw other at e in
    let value = is_value rules only_help idle takes_values (pending_file (Some file)) word (long_of word) (first_is_quiet _ _ (first_is_quiet _ _ faults)) in
    step_is_fault _ _ UnknownArgument [] (rw value at faults)

second_is_fault_after : (name file word : Text) (words : List Text) → walk_fault (taker name) [] (at_file (Some file) true) (word ∷ words) ≡ [] → ⊥
unfolding walk_fault
second_is_fault_after name file word words e =
    let bad : UnknownArgument ∷ [] ≡ [] = e in
    cc

-- ---- all the words

-- a walk that is one step further on ends where it ends from there
one_step : (file next : Option Text) (behind further : Bool) (word : Text) (words : List Text)
    → walked rules [] (at_file file behind) word ≡ at_file next further
    → files_of file ++ operands_from behind (word ∷ words) ≡ files_of next ++ operands_from further words
    → Ends next further words → Ends file behind (word ∷ words)
one_step file next behind further word words step named rest = record {
  last = rest.last;
  is_behind = rest.is_behind;
  is = ap (λ w. fold (walked rules []) w words) step ∙ rest.is;
  names = named ∙ rest.names;
}

all_after : (name : Text) (file : Option Text) (words : List Text) → walk_fault (taker name) [] (at_file file true) words ≡ [] → Ends file true words
unfolding walk_fault walked
all_after name None [] e = record { last = None; is_behind = true; is = refl; names = refl }
all_after name (Some file) [] e = record { last = Some file; is_behind = true; is = refl; names = refl }
all_after name None (word ∷ words) e = one_step None (Some word) true true word words refl refl (all_after name (Some word) words e)
all_after name (Some file) (word ∷ words) e = absurd (second_is_fault_after name file word words e)

past_dashes : (name : Text) (file : Option Text) (word : Text) (words : List Text) → bytes_eq word dashes ≡ true
    → walk_fault (taker name) [] (at_file file false) (word ∷ words) ≡ [] → Ends file false (word ∷ words)
unfolding walk_fault
past_dashes name file word words is e =
    let step = walked_dashes file word is in
    let rest = all_after name file words (subst (λ w. walk_fault (taker name) [] w words ≡ []) step (second_is_quiet _ _ e)) in
    one_step file file false true word words step (rw is refl) rest

past_file : (name file : Text) (words : List Text) → walk_fault (taker name) [] (at_file (Some file) false) words ≡ [] → Ends (Some file) false words
past_file name file [] e = record { last = Some file; is_behind = false; is = refl; names = refl }
past_file name file (word ∷ words) e = go (bytes_eq word dashes) refl
  where
    go : (b : Bool) → bytes_eq word dashes ≡ b → Ends (Some file) false (word ∷ words)
    go true is = past_dashes name (Some file) word words is e
    go false other = absurd (second_is_fault name file word words other e)

first_is_file : (name word : Text) (words : List Text) → bytes_eq word dashes ≡ false
    → walk_fault (taker name) [] (at_file None false) (word ∷ words) ≡ [] → Ends None false (word ∷ words)
unfolding walk_fault
first_is_file name word words other e =
    let step = walked_file word other (first_is_quiet _ _ (first_is_quiet _ _ (rw other at e))) in
    let rest = past_file name word words (subst (λ w. walk_fault (taker name) [] w words ≡ []) step (second_is_quiet _ _ e)) in
    one_step None (Some word) false false word words step (rw other refl) rest

all_words : (name : Text) (words : List Text) → walk_fault (taker name) [] (at_file None false) words ≡ [] → Ends None false words
all_words name [] e = record { last = None; is_behind = false; is = refl; names = refl }
all_words name (word ∷ words) e = go (bytes_eq word dashes) refl
  where
    go : (b : Bool) → bytes_eq word dashes ≡ b → Ends None false (word ∷ words)
    go true is = past_dashes name None word words is e
    go false other = first_is_file name word words other e

-- ---- the file

-- the files that clap finds in the words
abbrev pub file_in : List Text → Option (List Text)
file_in words = all_of (codes "FILE") (rows_after rules [] words)

found : (name : Text) (words : List Text) (last : Option Text) (is_behind : Bool) → after_words None false words ≡ at_file last is_behind
    → operands words ≡ files_of last → level_fault (taker name) [] (held None) words false [] ≡ [] → NamesOne words (file_in words)
unfolding defaults_fault
found name words None is_behind walk_is named e =
    let bad : MissingRequiredArgument ∷ [] ≡ [] = second_is_quiet _ _ (rw walk_is at e) in
    cc
found name words (Some file) is_behind walk_is named e = rw walk_is (file, refl, named)

pub file_read : (name : Text) (words : List Text) → level_fault (taker name) [] (held None) words false [] ≡ [] → NamesOne words (file_in words)
file_read name words e =
    let end = all_words name words (first_is_quiet _ _ e) in
    found name words end.last end.is_behind end.is end.names e

-- ---- words without a fault

pub file_quiet : (name file : Text) → HasNoHyphen file → level_fault (taker name) [] (held None) (file ∷ []) false [] ≡ []
unfolding walk_fault walked defaults_fault
file_quiet name file no_hyphen = simp (no_hyphen, no_dashes file no_hyphen)

pub file_quiet_after : (name file : Text) → level_fault (taker name) [] (held None) (dashes ∷ file ∷ []) false [] ≡ []
unfolding walk_fault walked defaults_fault
file_quiet_after name file = refl
