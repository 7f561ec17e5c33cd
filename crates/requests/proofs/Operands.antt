-- What the words of `check`, `plan` and `script` ask for.
use Rattle.std.proofs.Common.{◌≡◌, ◌∙◌, ◌≤◌, length, arith, Bool, true, false, List, [], ◌∷◌, ◌++◌, Option, Some, None, refl, sym, ap, codes}
use Rattle.std.proofs.lemmas.List.{append-nil, append_assoc}
use Rattle.std.proofs.lemmas.Slice.Eq.{bytes_eq-Decides}
use Rattle.std.specs.Prelude.{fold, find, option_map, slice_get, unwrap_or}
use Rattle.std.specs.Option.{option_and_then}
use Rattle.std.specs.Str.{bytes_eq}
use Rattle.clap.proofs.OnLiterals.{clap_on_literals}
use Rattle.clap.proofs.FaultLemmas.{stopped_fault}
use Rattle.clap.specs.Lexer.{long_of, usize_max}
use Rattle.clap.specs.Words.{Row, Rule, Shape, Text, built, all_of, fault_of}
use Rattle.clap.specs.Simple.{names_of}
use Rattle.clap.specs.Walk.{Names, Walk, idle, rows_after, walk, walked}
use Rattle.clap.specs.Faults.{defaults_fault, level_fault, walk_fault}
use Rattle.clap.specs.declared.error.kind.ErrorKind.TheVariants.{UnknownArgument, InvalidSubcommand, DisplayHelp}
use Rattle.requests.specs.Asked.{command_line, file_of, request_of, script_with}
use Rattle.requests.specs.Forms.{HasOperands, IsCommand, no_words, check_word, check_after_dashes, plan_word, plan_after_dashes, script_words, script_after_dashes, operands}
use Rattle.requests.proofs.FileWords.{NamesOne, file_quiet, file_quiet_after, file_read, taker}
use Rattle.requests.proofs.Flags.{HasOnlyAnswers, dashes, first_is_quiet, held, is_value, none_or_answer, second_is_quiet, step_is_fault}
use Rattle.requests.proofs.ScriptWords.{NamesFiles, files_in, files_quiet, files_quiet_after, files_read, script}

-- what is asked for has these words' operands
abbrev IsRead : List Text → Type 0
IsRead words = HasOperands words (request_of words)

abbrev pub top : Shape
top = (built command_line).top

abbrev pub names : Names
names = names_of (built command_line)

-- where the walk stands before any file; `behind` says that it has passed a `--`
abbrev pub at_start : Bool → Walk
at_start behind = record { held = held None; waiting = idle; position = 1; is_trailing = behind; stopped = None }

only_help : HasOnlyAnswers top.rules
only_help = record { long = λ name. none_or_answer _ _; short = λ x. none_or_answer _ _ }

-- ---- a command

-- the walk met the command of this name
abbrev met : Text → Walk
met name = record (at_start false) { stopped = Some (name, []) }

-- past a subcommand, the walk gathers the words
pub gathers : (c : List Rule) (ns : Names) (w : Walk) (name : Text) (before words : List Text)
    → fold (walked c ns) (record w { stopped = Some (name, before) }) words ≡ record w { stopped = Some (name, before ++ words) }
unfolding walked
gathers c ns w name before [] = rw append-nil refl
gathers c ns w name before (x ∷ xs) = rw (gathers c ns w name (before ++ x ∷ []) xs, append_assoc) refl

walked_to_check : (word : Text) → bytes_eq (codes "check") word ≡ true → walked top.rules names (at_start false) word ≡ met (codes "check")
unfolding walked
walked_to_check word is = rw is refl

walked_to_plan : (word : Text) → bytes_eq (codes "check") word ≡ false → bytes_eq (codes "plan") word ≡ true
    → walked top.rules names (at_start false) word ≡ met (codes "plan")
unfolding walked
walked_to_plan word no_check is = rw (no_check, is) refl

walked_to_script : (word : Text) → bytes_eq (codes "check") word ≡ false → bytes_eq (codes "plan") word ≡ false → bytes_eq (codes "script") word ≡ true
    → walked top.rules names (at_start false) word ≡ met (codes "script")
unfolding walked
walked_to_script word no_check no_plan is = rw (no_check, no_plan, is) refl

pub walked_to_race : (word : Text) → bytes_eq (codes "check") word ≡ false → bytes_eq (codes "plan") word ≡ false → bytes_eq (codes "script") word ≡ false
    → bytes_eq (codes "race") word ≡ true → walked top.rules names (at_start false) word ≡ met (codes "race")
unfolding walked
walked_to_race word no_check no_plan no_script is = rw (no_check, no_plan, no_script, is) refl

pub walk_from_command : (name word : Text) (words : List Text) → walked top.rules names (at_start false) word ≡ met name
    → walk top.rules names (held None) (word ∷ words) ≡ record (at_start false) { stopped = Some (name, words) }
walk_from_command name word words first = rw first (gathers top.rules names (at_start false) name [] words)

-- the one file that was found is the operand after the command
one_file : (name word : Text) (words : List Text) (rows : List Row) → operands (word ∷ words) ≡ name ∷ operands words → NamesOne words (all_of (codes "FILE") rows)
    → operands (word ∷ words) ≡ name ∷ file_of (codes "FILE") rows ∷ []
one_file name word words rows is named = is ∙ ap (λ ops. name ∷ ops) (go (find (λ r. bytes_eq r.id (codes "FILE")) rows) named)
  where
    go : (o : Option Row) → NamesOne words (option_map (λ r. r.values) o) → operands words ≡ unwrap_or (option_and_then (λ r. slice_get r.values 0) o) [] ∷ []
    go None h = absurd h
    go (Some r) h = h.2 ∙ ap (λ (vs : List Text). unwrap_or (slice_get vs 0) [] ∷ []) (sym h.1)

-- the files that were found are the operands after `script`
all_files : (word : Text) (words : List Text) (files : Option (List Text)) → operands (word ∷ words) ≡ codes "script" ∷ operands words → NamesFiles words files
    → HasOperands (word ∷ words) (script_with (unwrap_or files []))
all_files word words None is named = absurd named
all_files word words (Some []) is named = absurd (omega (arith, named.1))
all_files word words (Some (f ∷ fs)) is named = is ∙ ap (λ ops. codes "script" ∷ ops) named.0

check_first : (word : Text) (words : List Text) → bytes_eq (codes "check") word ≡ true → fault_of command_line (word ∷ words) ≡ []
    → IsRead (word ∷ words)
check_first word words t e =
    let walk_is = walk_from_command (codes "check") word words (walked_to_check word t) in
    let below : level_fault (taker (codes "check")) [] (held None) words false [] ≡ [] = first_is_quiet _ _ (second_is_quiet _ _ (rw walk_is at e)) in
    let is : word ≡ codes "check" = sym ((bytes_eq-Decides (codes "check") word).0 t) in
    rw walk_is (one_file (codes "check") word words (rows_after (taker []).rules [] words) (rw is refl) (file_read (codes "check") words below))

plan_first : (word : Text) (words : List Text) → bytes_eq (codes "check") word ≡ false → bytes_eq (codes "plan") word ≡ true
    → fault_of command_line (word ∷ words) ≡ [] → IsRead (word ∷ words)
plan_first word words no_check t e =
    let walk_is = walk_from_command (codes "plan") word words (walked_to_plan word no_check t) in
    let below : level_fault (taker (codes "plan")) [] (held None) words false [] ≡ [] = first_is_quiet _ _ (second_is_quiet _ _ (rw walk_is at e)) in
    let is : word ≡ codes "plan" = sym ((bytes_eq-Decides (codes "plan") word).0 t) in
    rw walk_is (one_file (codes "plan") word words (rows_after (taker []).rules [] words) (rw is refl) (file_read (codes "plan") words below))

script_first : (word : Text) (words : List Text) → bytes_eq (codes "check") word ≡ false → bytes_eq (codes "plan") word ≡ false → bytes_eq (codes "script") word ≡ true
    → fault_of command_line (word ∷ words) ≡ [] → IsRead (word ∷ words)
script_first word words no_check no_plan t e =
    let walk_is = walk_from_command (codes "script") word words (walked_to_script word no_check no_plan t) in
    let below : level_fault script [] (held None) words false [] ≡ [] = first_is_quiet _ _ (second_is_quiet _ _ (rw walk_is at e)) in
    let is : codes "script" ≡ word = (bytes_eq-Decides (codes "script") word).0 t in
    rw walk_is (all_files word words (files_in words) (rw (← is) refl) (files_read words below))

race_first : (word : Text) (words : List Text) → bytes_eq (codes "check") word ≡ false → bytes_eq (codes "plan") word ≡ false → bytes_eq (codes "script") word ≡ false
    → bytes_eq (codes "race") word ≡ true → IsRead (word ∷ words)
race_first word words no_check no_plan no_script t =
    let walk_is = walk_from_command (codes "race") word words (walked_to_race word no_check no_plan no_script t) in
    rw walk_is tt

-- ---- no command

dashes_first : (word : Text) (words : List Text) → bytes_eq word dashes ≡ true → walk_fault top names (at_start true) words ≡ []
    → walked top.rules names (at_start false) word ≡ at_start true → IsRead (word ∷ words)
unfolding walk_fault walked
dashes_first word [] is e step = rw (step, is) refl
dashes_first word (x ∷ xs) is e step =
    let bad : UnknownArgument ∷ InvalidSubcommand ∷ [] ≡ [] = e in
    cc

no_command_first : (word : Text) (words : List Text) → bytes_eq (codes "check") word ≡ false → bytes_eq (codes "plan") word ≡ false
    → bytes_eq (codes "script") word ≡ false → bytes_eq (codes "race") word ≡ false → walk_fault top names (at_start false) (word ∷ words) ≡ [] → IsRead (word ∷ words)
unfolding walk_fault walked
no_command_first word words no_check no_plan no_script no_race e = go (bytes_eq (codes "help") word) (bytes_eq word dashes) refl refl
  where
    go : (h d : Bool) → bytes_eq (codes "help") word ≡ h → bytes_eq word dashes ≡ d → IsRead (word ∷ words)
    go true d help other =
        let bad : DisplayHelp ∷ InvalidSubcommand ∷ [] ≡ [] = rw (no_check, no_plan, no_script, no_race, help) at e in
        cc
    go false true no_help is = dashes_first word words is (rw (no_check, no_plan, no_script, no_race, no_help, is) at e) (rw (no_check, no_plan, no_script, no_race, no_help, is) refl)
    go false false no_help other =
        let faults = rw (no_check, no_plan, no_script, no_race, no_help, other) at e in
        let value = is_value top.rules only_help idle (λ w h. refl) None word (long_of word) (first_is_quiet _ _ (first_is_quiet _ _ faults)) in
        absurd (step_is_fault _ _ UnknownArgument (InvalidSubcommand ∷ []) (rw value at faults))

pub is_read : (words : List Text) → fault_of command_line words ≡ [] → HasOperands words (request_of words)
unfolding clap_on_literals
is_read [] e = refl
is_read (word ∷ words) e = go (bytes_eq (codes "check") word) (bytes_eq (codes "plan") word) (bytes_eq (codes "script") word) (bytes_eq (codes "race") word) refl refl refl refl
  where
    go : (c p s r : Bool) → bytes_eq (codes "check") word ≡ c → bytes_eq (codes "plan") word ≡ p → bytes_eq (codes "script") word ≡ s → bytes_eq (codes "race") word ≡ r → IsRead (word ∷ words)
    go true p s r is _ _ _ = check_first word words is e
    go false true s r no_check is _ _ = plan_first word words no_check is e
    go false false true r no_check no_plan is _ = script_first word words no_check no_plan is e
    go false false false true no_check no_plan no_script is = race_first word words no_check no_plan no_script is
    go false false false false no_check no_plan no_script no_race = no_command_first word words no_check no_plan no_script no_race (first_is_quiet _ _ e)

-- ---- words without a fault

pub is_quiet : (words : List Text) → length words ≤ usize_max → IsCommand words → fault_of command_line words ≡ []
unfolding walk_fault walked defaults_fault
is_quiet words few no_words = refl
is_quiet words few (check_word file no_hyphen) = rw (file_quiet (codes "check") file no_hyphen) refl
is_quiet words few (check_after_dashes file) = rw (file_quiet_after (codes "check") file) refl
is_quiet words few (plan_word file no_hyphen) = rw (file_quiet (codes "plan") file no_hyphen) refl
is_quiet words few (plan_after_dashes file) = rw (file_quiet_after (codes "plan") file) refl
is_quiet words few (script_words file others all) =
    rw (
      gathers top.rules names (at_start false) (codes "script") [] (file ∷ others),
      stopped_fault top names (at_start false) (codes "script", []) (file ∷ others),
      files_quiet file others all (omega (arith, few)),
    ) refl
is_quiet words few (script_after_dashes file others) =
    rw (
      gathers top.rules names (at_start false) (codes "script") [] (dashes ∷ file ∷ others),
      stopped_fault top names (at_start false) (codes "script", []) (dashes ∷ file ∷ others),
      files_quiet_after file others (omega (arith, few)),
    ) refl
