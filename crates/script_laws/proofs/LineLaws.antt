-- The words of a command have no space, so the line that joins them has these words.
use Rattle.std.proofs.Common.{◌≡◌, ◌↔◌, ℕ, ℤ, ◌+◌, ◌≤◌, ◌^◌, ◌==◌, ◌&&◌, Bool, true, false, not, List, [], ◌∷◌, Some, None, codes, inl, inr, refl, sym, ap, ◌∙◌, subst, arith}
use Rattle.std.proofs.lemmas.Bool.{eq-eqb, false≢true}
use Rattle.std.specs.Char.{is_ascii_digit}
use Rattle.std.specs.List.{AllByRecursion, AllZip, join_with_byte, list_all}
use Rattle.std.specs.Str.{all_ascii_digits}
use Rattle.scripts.specs.declared.commands.Command.{Command}
use Rattle.scripts.specs.declared.commands.Command.TheVariants.{Vertices, Add, Remove, Grow, Commit, Hold, Release, Edges, Run}
use Rattle.scripts.specs.Commands.{command_of, command_of_words, AreParts, HasNone, words_of}
use Rattle.scripts.proofs.PieceLaws.{join_with_byte-pieces, pieces-join_with_byte}
use Rattle.script_laws.specs.Spelling.{AreArguments, AreAt, AreEdge, HasWords, IsInRange, IsInteger, IsNumber, command_name, spelling_of}
use Rattle.script_laws.proofs.DigitLaws.{number_digits}
use Rattle.script_laws.proofs.WordLaws.{command_is, spelling_is}

both_true : (a b : Bool) → a && b ≡ true → (a ≡ true) × (b ≡ true)
both_true true b is = (refl, is)
both_true false b is = absurd (false≢true is)

-- a text whose bytes are looked at
looked_at : (text : List ℕ) → list_all (λ b. not (b == 32)) text ≡ true → HasNone 32 text
looked_at [] is = tt
looked_at (b ∷ text) is =
    let both = both_true (not (b == 32)) (list_all (λ b. not (b == 32)) text) is in
    ((λ same. let no : not true ≡ true = ap not (sym (eq-eqb b 32 same)) ∙ both.0 in absurd (false≢true no)), looked_at text both.1)

-- digits are no spaces
digits_only : (text : List ℕ) → all_ascii_digits text ≡ true → HasNone 32 text
digits_only [] is = tt
digits_only (b ∷ text) is =
    let both = both_true (is_ascii_digit b) (all_ascii_digits text) is in
    ((λ same. let no : false ≡ true = ap is_ascii_digit (sym same) ∙ both.0 in absurd (false≢true no)), digits_only text both.1)

number_only : (limit n : ℕ) (word : List ℕ) → limit ≤ 2 ^ 64 → IsNumber limit n word → HasNone 32 word
number_only limit n word wide is = digits_only word (number_digits limit n word wide is)

numbers_only : (limit : ℕ) (numbers : List ℕ) (words : List (List ℕ)) → limit ≤ 2 ^ 64 → AllZip (IsNumber limit) numbers words → AllByRecursion (HasNone 32) words
numbers_only limit [] [] wide are = tt
numbers_only limit [] (word ∷ words) wide are = absurd are
numbers_only limit (n ∷ numbers) [] wide are = absurd are
numbers_only limit (n ∷ numbers) (word ∷ words) wide are = (number_only limit n word wide are.0, numbers_only limit numbers words wide are.1)

integer_only : (w : ℤ) (word : List ℕ) → IsInteger w word → HasNone 32 word
integer_only w word (inl plain) = number_only (2 ^ 63) plain.0 word (omega arith) plain.2
integer_only w word (inr negative) =
    subst (HasNone 32) (sym negative.3) ((λ same. absurd (omega (arith, same))), number_only (2 ^ 63 + 1) negative.0 negative.1 (omega arith) negative.4)

no_words : (words : List (List ℕ)) → words ≡ [] → AllByRecursion (HasNone 32) words
no_words words none = subst (AllByRecursion (HasNone 32)) (sym none) tt

edge_only : (u v : ℕ) (w : ℤ) (words : List (List ℕ)) → AreEdge u v w words → AllByRecursion (HasNone 32) words
edge_only u v w [] are = absurd are
edge_only u v w (a ∷ []) are = absurd are
edge_only u v w (a ∷ b ∷ []) are = numbers_only (2 ^ 32) (u ∷ v ∷ []) (a ∷ b ∷ []) (omega arith) are.0
edge_only u v w (a ∷ b ∷ d ∷ []) are =
    let ends = numbers_only (2 ^ 32) (u ∷ v ∷ []) (a ∷ b ∷ []) (omega arith) are.0 in
    (ends.0, (ends.1.0, (integer_only w d are.1, tt)))
edge_only u v w (a ∷ b ∷ d ∷ e ∷ rest) are = absurd are

at_only : (k : ℕ) (words : List (List ℕ)) → AreAt k words → AllByRecursion (HasNone 32) words
at_only k [] are = absurd are
at_only k (word ∷ words) are = (subst (HasNone 32) (sym are.0) (looked_at (codes "at") refl), numbers_only (2 ^ 64) (k ∷ []) words (omega arith) are.1)

arguments_only : (c : Command) (words : List (List ℕ)) → AreArguments c words → AllByRecursion (HasNone 32) words
arguments_only (Vertices n b) words (inl are) = numbers_only (2 ^ 32) (n ∷ []) words (omega arith) are.0
arguments_only (Vertices n b) words (inr are) = numbers_only (2 ^ 32) (n ∷ b ∷ []) words (omega arith) are
arguments_only (Add u v w) words are = edge_only u v w words are
arguments_only (Remove u v) words are = numbers_only (2 ^ 32) (u ∷ v ∷ []) words (omega arith) are
arguments_only (Grow n) words are = numbers_only (2 ^ 32) (n ∷ []) words (omega arith) are
arguments_only Commit words are = no_words words are
arguments_only (Hold None) words are = no_words words are
arguments_only (Hold (Some k)) words are = at_only k words are
arguments_only (Release k) words are = numbers_only (2 ^ 64) (k ∷ []) words (omega arith) are
arguments_only (Edges None) words are = no_words words are
arguments_only (Edges (Some k)) words are = numbers_only (2 ^ 64) (k ∷ []) words (omega arith) are
arguments_only (Run p t w None) words are = numbers_only (2 ^ 64) (p ∷ t ∷ w ∷ []) words (omega arith) are
arguments_only (Run p t w (Some k)) words are = numbers_only (2 ^ 64) (p ∷ t ∷ w ∷ k ∷ []) words (omega arith) are

name_only : (c : Command) → HasNone 32 (command_name c)
name_only (Vertices n b) = looked_at (codes "vertices") refl
name_only (Add u v w) = looked_at (codes "add") refl
name_only (Remove u v) = looked_at (codes "del") refl
name_only (Grow n) = looked_at (codes "grow") refl
name_only Commit = looked_at (codes "commit") refl
name_only (Hold version) = looked_at (codes "hold") refl
name_only (Release k) = looked_at (codes "release") refl
name_only (Edges k) = looked_at (codes "edges") refl
name_only (Run p t w k) = looked_at (codes "run") refl

are_parts : (c : Command) (words : List (List ℕ)) → HasWords c words → AreParts 32 words
are_parts c [] is = absurd is
are_parts c (name ∷ words) is = (omega arith, (subst (HasNone 32) (sym is.0) (name_only c), arguments_only c words is.1))

-- the words that a line joins
joined_words : (c : Command) (words : List (List ℕ)) → HasWords c words → words_of (join_with_byte 32 words) ≡ words
joined_words c words is = pieces-join_with_byte 32 words (are_parts c words is)

pub line_is : (line : List ℕ) (c : Command) → (command_of line ≡ Some c) ↔ ((words : List (List ℕ)) × HasWords c words × (join_with_byte 32 words ≡ line))
line_is line c = (
  λ read. (words_of line, (command_is (words_of line) c).0 read, join_with_byte-pieces 32 line),
  λ spelled. ap command_of (sym spelled.2) ∙ ap command_of_words (joined_words c spelled.0 spelled.1) ∙ (command_is spelled.0 c).1 spelled.1,
)

pub spelled_line : (c : Command) → IsInRange c → command_of (join_with_byte 32 (spelling_of c)) ≡ Some c
spelled_line c are =
    let read = spelling_is c are in
    (line_is (join_with_byte 32 (spelling_of c)) c).1 (spelling_of c, (command_is (spelling_of c) c).0 read, refl)
