-- Flags of a command that has none but those of help and of the version: every flag is a fault there, so a word that
-- is none is a value.
use Rattle.std.proofs.Common.{◌≡◌, ◌⊎◌, inl, inr, ℕ, zero, suc, Bool, true, false, List, [], ◌∷◌, Option, Some, None, length, refl, codes, if◌then◌else◌}
use Rattle.std.proofs.lemmas.Slice.Eq.{bytes_eq-Decides}
use Rattle.std.specs.Prelude.{slice_get}
use Rattle.std.specs.Option.{option_map_or}
use Rattle.std.specs.Str.{bytes_eq, chars}
use Rattle.clap.specs.Lexer.{short_of, strip_byte}
use Rattle.clap.specs.Words.{Rule, Text}
use Rattle.clap.specs.Simple.{filled, help_rule, version_rule}
use Rattle.clap.specs.Walk.{Held, Outcome, Waiting, plain, plain_word, value, arg_by_long, arg_by_short, bundle_met, bundle_step, long_or_other, short_or_plain}
use Rattle.clap.specs.Faults.{react_fault, settle_fault, long_fault, short_fault, flags_fault, bundle_step_fault, flag_word_fault, bundle_fault}
use Rattle.clap.specs.Kinds.{Kinds, or_else}
use Rattle.clap.specs.declared.error.kind.ErrorKind.{ErrorKind}
use Rattle.requests.specs.Forms.{HasNoHyphen}
use Rattle.clap.specs.declared.error.kind.ErrorKind.TheVariants.{UnknownArgument, TooManyValues, DisplayHelp, DisplayVersion}

-- ---- faults in turn

pub first_is_quiet : (a b : Kinds) → or_else a b ≡ [] → a ≡ []
first_is_quiet [] b e = refl
first_is_quiet (k ∷ ks) b e = cc

pub second_is_quiet : (a b : Kinds) → or_else a b ≡ [] → b ≡ []
second_is_quiet [] b e = e
second_is_quiet (k ∷ ks) b e = cc

-- a turn has the faults of its word and then those of what the word does
pub step_is_fault : (word rest : Kinds) (k : ErrorKind) (ks : Kinds) → or_else (or_else word (k ∷ ks)) rest ≡ [] → ⊥
step_is_fault [] rest k ks e = cc
step_is_fault (w ∷ ws) rest k ks e = cc

-- ---- one flag

abbrev pub help : Rule
help = filled help_rule

abbrev pub version : Rule
version = filled version_rule

abbrev pub IsNoneOrAnswer : Option Rule → Type 0
IsNoneOrAnswer found = (found ≡ None) ⊎ ((found ≡ Some help) ⊎ (found ≡ Some version))

pub record HasOnlyAnswers (c : List Rule) : Type 0 where
  pub long : (name : Text) → IsNoneOrAnswer (arg_by_long c name)
  pub short : (x : ℕ) → IsNoneOrAnswer (arg_by_short c x)

pub none_or_help : (b : Bool) → IsNoneOrAnswer (if b then Some help else None)
none_or_help true = inr (inl refl)
none_or_help false = inl refl

pub none_or_answer : (a b : Bool) → IsNoneOrAnswer (if a then Some help else (if b then Some version else None))
none_or_answer true b = inr (inl refl)
none_or_answer false true = inr (inr refl)
none_or_answer false false = inl refl

help_is_fault : (c : List Rule) (h : Held) → react_fault c false help [] h ≡ [] → ⊥
help_is_fault c h e =
    let bad : DisplayHelp ∷ [] ≡ [] = second_is_quiet (settle_fault c false h) _ e in
    cc

version_is_fault : (c : List Rule) (h : Held) → react_fault c false version [] h ≡ [] → ⊥
version_is_fault c h e =
    let bad : DisplayVersion ∷ [] ≡ [] = second_is_quiet (settle_fault c false h) _ e in
    cc

long_is_fault : (c : List Rule) (found : Option Rule) (v : Option Text) (h : Held) → IsNoneOrAnswer found
    → long_fault c false found v h ≡ [] → ⊥
long_is_fault c found v h (inl none) e =
    let bad : UnknownArgument ∷ [] ≡ [] = rw none at e in
    cc
long_is_fault c found (Some v) h (inr (inl some)) e =
    let bad : TooManyValues ∷ [] ≡ [] = rw some at e in
    cc
long_is_fault c found (Some v) h (inr (inr some)) e =
    let bad : TooManyValues ∷ [] ≡ [] = rw some at e in
    cc
long_is_fault c found None h (inr (inl some)) e = help_is_fault c h (rw some at e)
long_is_fault c found None h (inr (inr some)) e = version_is_fault c h (rw some at e)

short_is_fault : (c : List Rule) (found : Option Rule) (rest : Text) (h : Held) (next : Held → Kinds) → IsNoneOrAnswer found
    → short_fault c false found rest h next ≡ [] → ⊥
short_is_fault c found rest h next (inl none) e =
    let bad : UnknownArgument ∷ [] ≡ [] = rw none at e in
    cc
short_is_fault c found rest h next (inr (inl some)) e = help_is_fault c h (first_is_quiet _ _ (rw some at e))
short_is_fault c found rest h next (inr (inr some)) e = version_is_fault c h (first_is_quiet _ _ (rw some at e))

-- ---- a word

abbrev pub dashes : Text
dashes = codes "--"

pub no_dashes : (word : Text) → HasNoHyphen word → bytes_eq word dashes ≡ false
no_dashes word no_hyphen = go (bytes_eq word dashes) refl
  where
    go : (b : Bool) → bytes_eq word dashes ≡ b → bytes_eq word dashes ≡ false
    go true t =
        let is : word ≡ dashes = (bytes_eq-Decides word dashes).0 t in
        let bad : strip_byte 45 dashes ≡ None = rw is at no_hyphen in
        cc
    go false t = t

-- no use yet, and this argument pending
abbrev pub held : Option (Text × List Text) → Held
held p = record { rows = []; pending = p; skip = 0 }

no_flag : (c : List Rule) → HasOnlyAnswers c → (x : Option ℕ) (flags : Text) (h : Held) (faults : Text → ℕ → Held → Kinds)
    (next : Text → ℕ → Outcome → Held → Held × Outcome)
    → bundle_step_fault c false x flags 0 h faults ≡ [] → bundle_step c x flags 0 plain h next ≡ (h, plain)
no_flag c only None flags h faults next e = refl
no_flag c only (Some x) flags h faults next e = absurd (short_is_fault c (arg_by_short c x) _ h _ (only.short x) e)

no_flags : (c : List Rule) → HasOnlyAnswers c → (k : ℕ) (flags : Text) (h : Held)
    → flags_fault c false k flags 0 h ≡ [] → bundle_met c k flags 0 plain h ≡ (h, plain)
unfolding flags_fault bundle_met
no_flags c only zero flags h e = refl
no_flags c only (suc k) flags h e =
    no_flag c only (slice_get (chars flags) 0) flags h (flags_fault c false k) (bundle_met c k) e

-- where a word that is no flag is a value
abbrev pub TakesValues : List Rule → Waiting → Type 0
TakesValues c waiting = (word : Text) (h : Held) → plain_word c waiting word h ≡ (h, value)

is_value_by_short : (c : List Rule) → HasOnlyAnswers c → (waiting : Waiting) → TakesValues c waiting → (p : Option (Text × List Text)) (word : Text) (flags : Option Text)
    → option_map_or (λ f. bundle_fault c false f (held p)) flags [] ≡ []
    → short_or_plain c waiting word flags (held p) ≡ (held p, value)
is_value_by_short c only waiting takes p word None e = takes word (held p)
is_value_by_short c only waiting takes p word (Some flags) e = rw (no_flags c only (length flags) flags (held p) e) (takes word (held p))

-- a word without a fault is a value, where it is no `--`
pub is_value : (c : List Rule) → HasOnlyAnswers c → (waiting : Waiting) → TakesValues c waiting → (p : Option (Text × List Text)) (word : Text) (flag : Option (Text × Option Text))
    → flag_word_fault c false flag word (held p) ≡ [] → long_or_other c waiting word flag (held p) ≡ (held p, value)
is_value c only waiting takes p word (Some q) e = absurd (long_is_fault c (arg_by_long c q.0) q.1 (held p) (only.long q.0) e)
is_value c only waiting takes p word None e = is_value_by_short c only waiting takes p word (short_of word) e
