-- Laws of the pieces of a text.
use Rattle.std.proofs.Common.{◌≡◌, ◌≢◌, ℕ, ◌+◌, ◌<◌, inl, inr, List, [], ◌∷◌, ◌++◌, length, take, drop, get_or, zero, suc, Option, None, Some, IsNone, MatchOption, ◌↔◌, rules, refl, sym, ◌∙◌, ap}
use Rattle.std.proofs.Common.{subst, arith, length-append}
use Rattle.std.specs.Borrow.{Bor}
use Rattle.std.specs.List.{join_with_byte, onto_first}
use Rattle.std.proofs.lemmas.Bool.Decides.{eqb_tells}
use Rattle.std.proofs.lemmas.Bool.{eq-eqb}
use Rattle.std.proofs.lemmas.List.{take-append-drop, drop_more}
use Rattle.scripts.specs.Commands.{HasNone, pieces, lines_of, AreParts, JoinsAgain, all_but_last, last_of, ended_lines, unended_line}
use Rattle.scripts.specs.inside.Parsing.{IsCutAt}

-- two texts with no c, one after the other, have none
pub HasNone-append : (c : ℕ) (xs ys : List ℕ) → HasNone c xs → HasNone c ys → HasNone c (xs ++ ys)
HasNone-append c [] ys none more = more
HasNone-append c (x ∷ xs) ys none more = (none.0, HasNone-append c xs ys none.1 more)

-- a text with c in its midst has a c
pub HasNone-not : (c : ℕ) (xs ys : List ℕ) → HasNone c (xs ++ c ∷ ys) → ⊥
HasNone-not c [] ys none = none.0 refl
HasNone-not c (x ∷ xs) ys none = HasNone-not c xs ys none.1

-- a separator ends a piece, and another byte goes onto the first
pub pieces_separator : (c : ℕ) (bytes : List ℕ) → pieces c (c ∷ bytes) ≡ [] ∷ pieces c bytes
pieces_separator c bytes = rw (eq-eqb c c refl) refl

pub pieces_other : (c b : ℕ) (bytes : List ℕ) → b ≢ c → pieces c (b ∷ bytes) ≡ onto_first b (pieces c bytes)
pieces_other c b bytes other =
    elim (eqb_tells b c) [ inl same ↦ absurd (other same.1) | inr apart ↦ rw (apart.0) refl ]

-- a text with no separator is one piece
pub pieces_alone : (c : ℕ) (bytes : List ℕ) → HasNone c bytes → pieces c bytes ≡ bytes ∷ []
pieces_alone c [] none = refl
pieces_alone c (b ∷ bytes) none = pieces_other c b bytes none.0 ∙ ap (onto_first b) (pieces_alone c bytes none.1)

-- a text with no separator before one is the first piece
pub pieces_before : (c : ℕ) (front rest : List ℕ) → HasNone c front → pieces c (front ++ c ∷ rest) ≡ front ∷ pieces c rest
pieces_before c [] rest none = pieces_separator c rest
pieces_before c (b ∷ front) rest none =
    pieces_other c b (front ++ c ∷ rest) none.0 ∙ ap (onto_first b) (pieces_before c front rest none.1)

-- a byte that goes onto the first part stands in front of what the parts join to
join_onto_first : (c b : ℕ) (parts : List (List ℕ)) → 0 < length parts → join_with_byte c (onto_first b parts) ≡ b ∷ join_with_byte c parts
join_onto_first c b [] some = absurd (omega arith)
join_onto_first c b (part ∷ []) some = refl
join_onto_first c b (part ∷ next ∷ parts) some = refl

-- an empty part in front puts a separator in front of what the parts join to
join_empty_first : (c : ℕ) (parts : List (List ℕ)) → 0 < length parts → join_with_byte c ([] ∷ parts) ≡ c ∷ join_with_byte c parts
join_empty_first c [] some = absurd (omega arith)
join_empty_first c (part ∷ parts) some = refl

-- parts stay parts where another byte goes onto the first
AreParts-onto_first : (c b : ℕ) (parts : List (List ℕ)) → b ≢ c → AreParts c parts → AreParts c (onto_first b parts)
AreParts-onto_first c b [] other are = absurd (omega arith)
AreParts-onto_first c b (part ∷ parts) other are = (omega arith, ((other, are.1.0), are.1.1))

-- no piece has the separator
pub pieces-AreParts : (c : ℕ) (bytes : List ℕ) → AreParts c (pieces c bytes)
pieces-AreParts c [] = (omega arith, (tt, tt))
pieces-AreParts c (b ∷ bytes) =
    elim (eqb_tells b c) [
      | inl same ↦ rw (same.0) (omega arith, (tt, (pieces-AreParts c bytes).1))
      | inr apart ↦ rw (apart.0) (AreParts-onto_first c b (pieces c bytes) apart.1 (pieces-AreParts c bytes))
    ]

-- the pieces join to the text
pub join_with_byte-pieces : (c : ℕ) (bytes : List ℕ) → join_with_byte c (pieces c bytes) ≡ bytes
join_with_byte-pieces c [] = refl
join_with_byte-pieces c (b ∷ bytes) =
    let rest : join_with_byte c (pieces c bytes) ≡ bytes = join_with_byte-pieces c bytes in
    elim (eqb_tells b c) [
      | inl same ↦ rw (same.0) (join_empty_first c (pieces c bytes) ((pieces-AreParts c bytes).0) ∙ cc (same.1, rest))
      | inr apart ↦ rw (apart.0) (join_onto_first c b (pieces c bytes) ((pieces-AreParts c bytes).0) ∙ ap (λ v. b ∷ v) rest)
    ]

-- parts with no separator are the pieces of what they join to
pub pieces-join_with_byte : (c : ℕ) (parts : List (List ℕ)) → AreParts c parts → pieces c (join_with_byte c parts) ≡ parts
pieces-join_with_byte c [] are = absurd (omega arith)
pieces-join_with_byte c (part ∷ []) are = pieces_alone c part are.1.0
pieces-join_with_byte c (part ∷ next ∷ parts) are =
    pieces_before c part (join_with_byte c (next ∷ parts)) are.1.0
    ∙ ap (λ v. part ∷ v) (pieces-join_with_byte c (next ∷ parts) (omega arith, are.1.1))

-- the two together
pub pieces-JoinsAgain : (c : ℕ) (bytes : List ℕ) → JoinsAgain c bytes
pieces-JoinsAgain c bytes = record {
  joined = join_with_byte-pieces c bytes;
  parts = pieces-AreParts c bytes;
  only = λ others parts joined. sym (pieces-join_with_byte c others parts) ∙ ap (pieces c) joined;
}

-- a text is what stands before index i, the byte there, and what stands after it
pub cut_at : (c : ℕ) (bytes : List ℕ) (i : ℕ) → i < length bytes → get_or bytes i 0 ≡ c → bytes ≡ take i bytes ++ c ∷ drop (i + 1) bytes
cut_at c bytes i within found =
    sym (take-append-drop i bytes) ∙ ap (λ v. take i bytes ++ v) (drop_more bytes i 0 within ∙ ap (λ v. v ∷ drop (i + 1) bytes) found)

-- the front of a text has no c where no index in it has
pub HasNone-take : (c : ℕ) (bytes : List ℕ) (i : ℕ) → ((k : ℕ) → k < i → get_or bytes k 0 ≢ c) → HasNone c (take i bytes)
HasNone-take c [] zero none = tt
HasNone-take c [] (suc i) none = tt
HasNone-take c (b ∷ bytes) zero none = tt
HasNone-take c (b ∷ bytes) (suc i) none =
    (none 0 (omega arith), HasNone-take c bytes i (λ k within. none (suc k) (omega arith)))

-- what a cut at the first separator says of the pieces
pub split_none : (c : ℕ) (bytes : List ℕ) (r : Option (Bor (List ℕ) × Bor (List ℕ))) → IsCutAt c bytes r → IsNone r ↔ HasNone c bytes
split_none c bytes None cut = (λ _. cut, λ _. search rules)
split_none c bytes (Some parts) cut =
    (λ none. absurd (search rules), λ none. absurd (HasNone-not c parts.0.now parts.1.now (subst (HasNone c) cut.0 none)))

pub split_pieces : (c : ℕ) (bytes : List ℕ) (r : Option (Bor (List ℕ) × Bor (List ℕ))) → IsCutAt c bytes r
    → MatchOption r (pieces c bytes ≡ bytes ∷ []) (λ parts. pieces c bytes ≡ parts.0.now ∷ pieces c parts.1.now)
split_pieces c bytes None cut = pieces_alone c bytes cut
split_pieces c bytes (Some parts) cut = ap (pieces c) cut.0 ∙ pieces_before c parts.0.now parts.1.now cut.1

-- one more in front of a list that is not empty
all_but_last-cons : (x : List ℕ) (xs : List (List ℕ)) → 0 < length xs → all_but_last (x ∷ xs) ≡ x ∷ all_but_last xs
all_but_last-cons x [] some = absurd (omega arith)
all_but_last-cons x (y ∷ xs) some = refl

last_of-cons : (x : List ℕ) (xs : List (List ℕ)) → 0 < length xs → last_of (x ∷ xs) ≡ last_of xs
last_of-cons x [] some = absurd (omega arith)
last_of-cons x (y ∷ xs) some = refl

-- more in front of a list that is not empty
all_but_last-append : (xs ys : List (List ℕ)) → 0 < length ys → all_but_last (xs ++ ys) ≡ xs ++ all_but_last ys
all_but_last-append [] ys some = refl
all_but_last-append (x ∷ xs) ys some =
    all_but_last-cons x (xs ++ ys) (omega (arith, length-append xs ys)) ∙ ap (λ zs. x ∷ zs) (all_but_last-append xs ys some)

last_of-append : (xs ys : List (List ℕ)) → 0 < length ys → last_of (xs ++ ys) ≡ last_of ys
last_of-append [] ys some = refl
last_of-append (x ∷ xs) ys some = last_of-cons x (xs ++ ys) (omega (arith, length-append xs ys)) ∙ last_of-append xs ys some

-- a list that is not empty is all but its last, and its last
cut_last : (xs : List (List ℕ)) → 0 < length xs → xs ≡ all_but_last xs ++ last_of xs ∷ []
cut_last [] some = absurd (omega arith)
cut_last (x ∷ []) some = refl
cut_last (x ∷ y ∷ xs) some = ap (λ zs. x ∷ zs) (cut_last (y ∷ xs) (omega arith))

HasNone-last : (c : ℕ) (parts : List (List ℕ)) → AreParts c parts → HasNone c (last_of parts)
HasNone-last c [] are = absurd (omega arith)
HasNone-last c (part ∷ []) are = are.1.0
HasNone-last c (part ∷ next ∷ parts) are = HasNone-last c (next ∷ parts) (omega arith, are.1.1)

-- a byte that goes onto the first piece of two texts
onto_both : (c b : ℕ) (parts : List (List ℕ)) (more : List ℕ) → b ≢ c → 0 < length parts
    → onto_first b (all_but_last parts ++ pieces c (last_of parts ++ more)) ≡ all_but_last (onto_first b parts) ++ pieces c (last_of (onto_first b parts) ++ more)
onto_both c b [] more other some = absurd (omega arith)
onto_both c b (part ∷ []) more other some = sym (pieces_other c b (part ++ more) other)
onto_both c b (part ∷ next ∷ parts) more other some = refl

-- the pieces of two texts: those of the first but its last, which goes on in the second
pieces_both : (c : ℕ) (bytes more : List ℕ) → pieces c (bytes ++ more) ≡ all_but_last (pieces c bytes) ++ pieces c (last_of (pieces c bytes) ++ more)
pieces_both c [] more = refl
pieces_both c (b ∷ bytes) more =
    let some : 0 < length (pieces c bytes) = (pieces-AreParts c bytes).0 in
    elim (eqb_tells b c) [
      | inl same ↦ rw (same.0, all_but_last-cons [] (pieces c bytes) some, last_of-cons [] (pieces c bytes) some) (ap (λ ps. [] ∷ ps) (pieces_both c bytes more))
      | inr apart ↦ rw (apart.0) (ap (onto_first b) (pieces_both c bytes more) ∙ onto_both c b (pieces c bytes) more apart.1 some)
    ]

-- a text's lines are those that have ended, and the one that has not
pub lines_of-ended : (text : List ℕ) → lines_of text ≡ ended_lines text ++ unended_line text ∷ []
lines_of-ended text = cut_last (lines_of text) (pieces-AreParts 10 text).0

-- no line feed stands in the line that has not ended
pub HasNone-unended : (text : List ℕ) → HasNone 10 (unended_line text)
HasNone-unended text = HasNone-last 10 (lines_of text) (pieces-AreParts 10 text)

-- the lines that have ended in two texts, and the one that has not
pub ended_lines-append : (text more : List ℕ) → ended_lines (text ++ more) ≡ ended_lines text ++ ended_lines (unended_line text ++ more)
ended_lines-append text more =
    ap all_but_last (pieces_both 10 text more)
    ∙ all_but_last-append (ended_lines text) (lines_of (unended_line text ++ more)) (pieces-AreParts 10 (unended_line text ++ more)).0

pub unended_line-append : (text more : List ℕ) → unended_line (text ++ more) ≡ unended_line (unended_line text ++ more)
unended_line-append text more =
    ap last_of (pieces_both 10 text more)
    ∙ last_of-append (ended_lines text) (lines_of (unended_line text ++ more)) (pieces-AreParts 10 (unended_line text ++ more)).0

-- the line before the first line feed is the first that has ended
pub ended_lines-first : (front rest : List ℕ) → HasNone 10 front → ended_lines (front ++ 10 ∷ rest) ≡ front ∷ ended_lines rest
ended_lines-first front rest none = ap all_but_last (pieces_before 10 front rest none) ∙ all_but_last-cons front (lines_of rest) (pieces-AreParts 10 rest).0

pub unended_line-first : (front rest : List ℕ) → HasNone 10 front → unended_line (front ++ 10 ∷ rest) ≡ unended_line rest
unended_line-first front rest none = ap last_of (pieces_before 10 front rest none) ∙ last_of-cons front (lines_of rest) (pieces-AreParts 10 rest).0

-- in a text with no line feed no line has ended
pub ended_lines-none : (text : List ℕ) → HasNone 10 text → ended_lines text ≡ []
ended_lines-none text none = ap all_but_last (pieces_alone 10 text none)

pub unended_line-none : (text : List ℕ) → HasNone 10 text → unended_line text ≡ text
unended_line-none text none = ap last_of (pieces_alone 10 text none)
