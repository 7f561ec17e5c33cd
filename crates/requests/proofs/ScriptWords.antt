-- The words after `script`: without a fault, they are the files, but for a `--`.
use Rattle.std.proofs.Common.{◌≡◌, ◌∙◌, ◌<◌, ◌≤◌, ◌==◌, ℕ, Bool, true, false, List, [], ◌∷◌, ◌++◌, length, Option, Some, None, refl, sym, ap, ap₂, subst, codes, arith}
use Rattle.std.proofs.lemmas.Bool.{ltb-true, ne_eqb}
use Rattle.std.proofs.lemmas.List.{append-nil, append_assoc}
use Rattle.std.specs.Prelude.{MatchOption, fold, nat_lt, slice_index_or}
use Rattle.std.specs.List.{AllByRecursion}
use Rattle.std.specs.Str.{bytes_eq}
use Rattle.clap.specs.Lexer.{long_of, usize_max}
use Rattle.clap.specs.Simple.{filled}
use Rattle.clap.specs.Words.{Shape, Text, built, all_of}
use Rattle.clap.specs.Walk.{Walk, Waiting, finished, idle, positional, rows_after, settled, walked}
use Rattle.clap.specs.Faults.{check_fault, defaults_fault, flag_word_fault, level_fault, settle_fault, values_fault, walk_fault}
use Rattle.clap.specs.Kinds.{Kinds, or_else, range_kinds}
use Rattle.clap.specs.declared.error.kind.ErrorKind.TheVariants.{MissingRequiredArgument}
use Rattle.requests.specs.Asked.{command_line, script_command, script_files}
use Rattle.requests.specs.Forms.{HasNoHyphen, operands}
use Rattle.requests.proofs.Flags.{HasOnlyAnswers, TakesValues, dashes, first_is_quiet, held, is_value, no_dashes, none_or_help, second_is_quiet}

-- the command `script`, once it is built
abbrev pub script : Shape
script = slice_index_or (built command_line).subs 2 script_command.top

-- the files that clap finds in the words after `script`
abbrev pub files_in : List Text → Option (List Text)
files_in words = all_of (codes "FILE") (rows_after script.rules [] words)

-- the words are those files, of which there is one, but for a `--`
abbrev pub NamesFiles : List Text → Option (List Text) → Type 0
NamesFiles words files = MatchOption files ⊥ (λ fs. (operands words ≡ fs) × (0 < length fs))

only_help : HasOnlyAnswers script.rules
only_help = record { long = λ name. none_or_help _; short = λ x. none_or_help _ }

-- ---- where the walk stands after these files; `behind` says that it has passed a `--`

abbrev pub pending_files : List Text → Option (Text × List Text)
pending_files [] = None
pending_files (f ∷ fs) = Some (codes "FILE", f ∷ fs)

abbrev pub waiting_after : List Text → Waiting
waiting_after [] = idle
waiting_after (f ∷ fs) = positional

abbrev pub at_files : List Text → Bool → Walk
at_files fs behind = record { held = held (pending_files fs); waiting = waiting_after fs; position = 1; is_trailing = behind; stopped = None }

takes_values : (fs : List Text) → TakesValues script.rules (waiting_after fs)
takes_values [] word h = refl
takes_values (f ∷ fs) word h = refl

-- the faults of a word that is no `--`
abbrev faults_in : List Text → Text → Kinds
faults_in fs word = flag_word_fault script.rules false (long_of word) word (held (pending_files fs))

walked_value : (fs : List Text) (word : Text) → bytes_eq word dashes ≡ false → faults_in fs word ≡ []
    → walked script.rules [] (at_files fs false) word ≡ at_files (fs ++ word ∷ []) false
unfolding walked
walked_value [] word other quiet = rw (other, is_value script.rules only_help idle (takes_values []) None word (long_of word) quiet) refl
walked_value (f ∷ fs) word other quiet =
    rw (other, is_value script.rules only_help positional (takes_values (f ∷ fs)) (pending_files (f ∷ fs)) word (long_of word) quiet) refl

walked_dashes : (fs : List Text) (word : Text) → bytes_eq word dashes ≡ true → walked script.rules [] (at_files fs false) word ≡ at_files fs true
unfolding walked
walked_dashes [] word is = rw is refl
walked_dashes (f ∷ fs) word is = rw is refl

walked_after : (fs : List Text) (word : Text) → walked script.rules [] (at_files fs true) word ≡ at_files (fs ++ word ∷ []) true
unfolding walked
walked_after [] word = refl
walked_after (f ∷ fs) word = refl

-- ---- all the words

-- where the walk stands after these words
abbrev pub after_words : List Text → Bool → List Text → Walk
after_words fs behind words = fold (walked script.rules []) (at_files fs behind) words

all_after : (fs words : List Text) → after_words fs true words ≡ at_files (fs ++ words) true
all_after fs [] = ap (λ gs. at_files gs true) (sym (append-nil fs))
all_after fs (word ∷ words) =
    ap (λ w. fold (walked script.rules []) w words) (walked_after fs word) ∙ all_after (fs ++ word ∷ []) words
    ∙ ap (λ gs. at_files gs true) (append_assoc fs (word ∷ []) words)

-- the walk ends after the files, after a `--` or not
pub record Ends (fs words : List Text) : Type 0 where
  pub behind : Bool
  pub is : after_words fs false words ≡ at_files (fs ++ operands words) behind

word_is_quiet : (fs : List Text) (word : Text) (words : List Text) → bytes_eq word dashes ≡ false
    → walk_fault script [] (at_files fs false) (word ∷ words) ≡ [] → faults_in fs word ≡ []
unfolding walk_fault
word_is_quiet [] word words other e = first_is_quiet _ _ (first_is_quiet _ _ (rw other at e))
word_is_quiet (f ∷ fs) word words other e = first_is_quiet _ _ (first_is_quiet _ _ (rw other at e))

all_words : (fs words : List Text) → walk_fault script [] (at_files fs false) words ≡ [] → Ends fs words
unfolding walk_fault
all_words fs [] e = record { behind = false; is = ap (λ gs. at_files gs false) (sym (append-nil fs)) }
all_words fs (word ∷ words) e = go (λ gs quiet. all_words gs words quiet) (bytes_eq word dashes) refl
  where
    further : bytes_eq word dashes ≡ false → after_words fs false (word ∷ words) ≡ after_words (fs ++ word ∷ []) false words → Ends (fs ++ word ∷ []) words → Ends fs (word ∷ words)
    further other same rest = record {
      behind = rest.behind;
      is = same ∙ rest.is ∙ rw other (ap (λ gs. at_files gs rest.behind) (append_assoc fs (word ∷ []) (operands words)));
    }

    go : ((gs : List Text) → walk_fault script [] (at_files gs false) words ≡ [] → Ends gs words) → (b : Bool) → bytes_eq word dashes ≡ b → Ends fs (word ∷ words)
    go later true is = record { behind = true; is = ap (λ w. fold (walked script.rules []) w words) (walked_dashes fs word is) ∙ rw is (all_after fs words) }
    go later false other =
        let step = walked_value fs word other (word_is_quiet fs word words other e) in
        let rest : walk_fault script [] (at_files (fs ++ word ∷ []) false) words ≡ [] = subst (λ w. walk_fault script [] w words ≡ []) step (second_is_quiet _ _ e) in
        further other (ap (λ w. fold (walked script.rules []) w words) step) (later (fs ++ word ∷ []) rest)

-- ---- the files

found : (words gs : List Text) (behind : Bool) → operands words ≡ gs → after_words [] false words ≡ at_files gs behind
    → level_fault script [] (held None) words false [] ≡ [] → NamesFiles words (files_in words)
unfolding defaults_fault
found words [] behind is walk_is e =
    let bad : MissingRequiredArgument ∷ [] ≡ [] = second_is_quiet _ _ (rw walk_is at e) in
    cc
found words (g ∷ gs) behind is walk_is e = rw walk_is (is, omega arith)

pub files_read : (words : List Text) → level_fault script [] (held None) words false [] ≡ [] → NamesFiles words (files_in words)
files_read words e =
    let end = all_words [] words (first_is_quiet _ _ e) in
    found words (operands words) end.behind refl end.is e

-- ---- words without a fault

quiet_after : (fs words : List Text) → walk_fault script [] (at_files fs true) words ≡ []
unfolding walk_fault
quiet_after [] [] = refl
quiet_after (f ∷ fs) [] = refl
quiet_after [] (word ∷ words) = rw (walked_after [] word) (quiet_after (word ∷ []) words)
quiet_after (f ∷ fs) (word ∷ words) = rw (walked_after (f ∷ fs) word) (quiet_after (f ∷ (fs ++ word ∷ [])) words)

-- a word that no hyphen begins is one more file
walked_file : (fs : List Text) (word : Text) → HasNoHyphen word → walked script.rules [] (at_files fs false) word ≡ at_files (fs ++ word ∷ []) false
unfolding walked
walked_file [] word no_hyphen = simp (no_hyphen, no_dashes word no_hyphen)
walked_file (f ∷ fs) word no_hyphen = simp (no_hyphen, no_dashes word no_hyphen)

quiet_file : (fs : List Text) (word : Text) (words : List Text) → HasNoHyphen word
    → walk_fault script [] (at_files (fs ++ word ∷ []) false) words ≡ [] → walk_fault script [] (at_files fs false) (word ∷ words) ≡ []
unfolding walk_fault
quiet_file [] word words no_hyphen rest = rw (walked_file [] word no_hyphen) (simp (no_hyphen, no_dashes word no_hyphen, rest))
quiet_file (f ∷ fs) word words no_hyphen rest = rw (walked_file (f ∷ fs) word no_hyphen) (simp (no_hyphen, no_dashes word no_hyphen, rest))

quiet_files : (fs words : List Text) → AllByRecursion HasNoHyphen words → walk_fault script [] (at_files fs false) words ≡ []
unfolding walk_fault
quiet_files fs [] all = refl
quiet_files fs (word ∷ words) all = quiet_file fs word words all.0 (quiet_files (fs ++ word ∷ []) words all.1)

walked_files : (fs words : List Text) → AllByRecursion HasNoHyphen words → after_words fs false words ≡ at_files (fs ++ words) false
walked_files fs [] all = ap (λ gs. at_files gs false) (sym (append-nil fs))
walked_files fs (word ∷ words) all =
    ap (λ w. fold (walked script.rules []) w words) (walked_file fs word all.0) ∙ walked_files (fs ++ word ∷ []) words all.1
    ∙ ap (λ gs. at_files gs false) (append_assoc fs (word ∷ []) words)

texts_quiet : (words : List Text) → values_fault (filled script_files) words ≡ []
texts_quiet [] = refl
texts_quiet (word ∷ words) = texts_quiet words

not_less : (a b : ℕ) → b ≤ a → nat_lt a b ≡ false
not_less a b le = go (nat_lt a b) refl
  where
    go : (t : Bool) → nat_lt a b ≡ t → nat_lt a b ≡ false
    go true less = absurd (omega (arith, le, ltb-true a b less))
    go false less = less

pub range_quiet : (n : ℕ) → 0 < n → n ≤ usize_max → range_kinds 1 usize_max n ≡ []
range_quiet n some few =
    let none : (n == 0) ≡ false = ne_eqb n 0 (λ e. omega (arith, e, some)) in
    rw (none, not_less n 1 (omega (arith, some)), not_less usize_max n few) refl

-- the faults at the end of a walk
abbrev end_fault : Walk → Kinds
end_fault end =
    or_else (settle_fault script.rules script.args_override_self end.held)
    (or_else (defaults_fault (settled script.rules end.held).rows script.rules) (check_fault script (finished script.rules end.held) false))

end_is : (file : Text) (others : List Text) (behind : Bool)
    → end_fault (at_files (file ∷ others) behind) ≡ or_else (or_else (range_kinds 1 usize_max (length (file ∷ others))) (values_fault (filled script_files) (file ∷ others))) []
unfolding defaults_fault
end_is file others behind = refl

end_quiet : (file : Text) (others : List Text) (behind : Bool) → length (file ∷ others) ≤ usize_max → end_fault (at_files (file ∷ others) behind) ≡ []
end_quiet file others behind few =
    end_is file others behind
    ∙ ap₂ (λ (range values : Kinds). or_else (or_else range values) []) (range_quiet (length (file ∷ others)) (omega arith) few) (texts_quiet (file ∷ others))

-- a level has the faults of its walk and those of the end
all_quiet : (words : List Text) (end : Walk) → walk_fault script [] (at_files [] false) words ≡ [] → after_words [] false words ≡ end → end_fault end ≡ []
    → level_fault script [] (held None) words false [] ≡ []
all_quiet words end turns is quiet = rw (turns, is) quiet

pub files_quiet : (file : Text) (others : List Text) → AllByRecursion HasNoHyphen (file ∷ others) → length (file ∷ others) ≤ usize_max
    → level_fault script [] (held None) (file ∷ others) false [] ≡ []
files_quiet file others all few =
    all_quiet (file ∷ others) (at_files (file ∷ others) false) (quiet_files [] (file ∷ others) all) (walked_files [] (file ∷ others) all) (end_quiet file others false few)

pub files_quiet_after : (file : Text) (others : List Text) → length (file ∷ others) ≤ usize_max
    → level_fault script [] (held None) (dashes ∷ file ∷ others) false [] ≡ []
unfolding walk_fault walked
files_quiet_after file others few =
    all_quiet (dashes ∷ file ∷ others) (at_files (file ∷ others) true) (quiet_after [] (file ∷ others)) (all_after [] (file ∷ others)) (end_quiet file others true few)
