-- The text of an outcome determines it.
use Rattle.std.proofs.Common.{◌≡◌, ◌⊎◌, ℕ, suc, ℤ, pos, negsuc, FitsSigned, ◌<◌, ◌^◌, true, false, List, [], ◌∷◌, ◌++◌, codes, decimal, inl, inr, refl, sym, ap, ◌∙◌, arith, append_assoc}
use lib.Signed.{mag}
use Rattle.std.proofs.lemmas.Fmt.{decimal_injective, signed_decimal_injective}
use Rattle.std.proofs.lemmas.List.{append_cancel_left}
use Rattle.std.specs.Fmt.{signed_decimal}
use Rattle.std.specs.Int.{w64}
use Rattle.std.specs.List.{AllByRecursion, concat, flat_map}
use Rattle.algorithm_meaning.specs.declared.outcome.End.{End}
use Rattle.algorithm_meaning.specs.declared.outcome.End.TheVariants.{Finished, TurnsOver, Fault}
use Rattle.algorithm_meaning.specs.declared.outcome.NamedVector.{NamedVector}
use Rattle.algorithm_meaning.specs.declared.outcome.NamedSet.{NamedSet}
use Rattle.algorithm_meaning.specs.declared.outcome.Outcome.{Outcome}
use Rattle.replies.specs.ReplyText.{end_line, end_text, fault_text, labelled, outcome_text, set_line, vector_line}
use Rattle.scripts.specs.Commands.{HasNone}
use Rattle.meaning_laws.specs.Printing.{IsPrintedLine}
use Rattle.meaning_laws.proofs.Sound.{prints}
use Rattle.typed_tree.specs.ProgramTree.{ProgramTree}
use Rattle.algorithm_meaning.specs.State.{GraphValue}
use Rattle.algorithm_meaning.specs.Meaning.{meaning}
use Rattle.script_laws.specs.Shown.{HasNumbers, IsEnd, IsOutcome, IsSet, IsVector}
use Rattle.script_laws.proofs.Cuts.{IsDigit, Passes, at_end, cut_at_byte, decimal_digits, digits_none, digits_pass, integer_passes, line_cut, line_of, no_end}

-- printed lines end at their line feed, and none begins as the line of the end does
body_of : (line : List ℕ) → IsPrintedLine line → (body : List ℕ) × HasNone 10 body × (line ≡ body ++ 10 ∷ [])
body_of line (inl (pos n, is)) = (decimal n, digits_none 10 (inl (omega arith)) (decimal n) (decimal_digits n), is)
body_of line (inl (negsuc n, is)) = (45 ∷ decimal (suc n), ((λ same. absurd (omega (arith, same))), digits_none 10 (inl (omega arith)) (decimal (suc n)) (decimal_digits (suc n))), is)
body_of line (inr (true, is)) = (codes "true", ((λ e. absurd (omega (arith, e))), ((λ e. absurd (omega (arith, e))), ((λ e. absurd (omega (arith, e))), ((λ e. absurd (omega (arith, e))), tt)))), is)
body_of line (inr (false, is)) = (
  codes "false",
  (
    (λ e. absurd (omega (arith, e))),
    (
      (λ e. absurd (omega (arith, e))),
      ((λ e. absurd (omega (arith, e))), ((λ e. absurd (omega (arith, e))), ((λ e. absurd (omega (arith, e))), tt))),
    ),
  ),
  is,
)

digits_first : (digits rest more : List ℕ) → AllByRecursion IsDigit digits → digits ++ 10 ∷ rest ≡ 101 ∷ more → ⊥
digits_first [] rest more are same = let head : ◌≡◌ {A = ℕ} 10 101 = cc in absurd (omega (arith, head))
digits_first (d ∷ digits) rest more are same = let head : d ≡ 101 = cc in absurd (omega (arith, head, are.0.1))

not_end : (line rest more : List ℕ) → IsPrintedLine line → line ++ rest ≡ 101 ∷ more → ⊥
not_end line rest more (inl (pos n, is)) same =
    digits_first (decimal n) rest more (decimal_digits n) (sym (append_assoc (decimal n) (10 ∷ []) rest) ∙ ap (λ (l : List ℕ). l ++ rest) (sym is) ∙ same)
not_end line rest more (inl (negsuc n, is)) same =
    let all = ap (λ (l : List ℕ). l ++ rest) (sym is) ∙ same in
    let head : ◌≡◌ {A = ℕ} 45 101 = cc in
    absurd (omega (arith, head))
not_end line rest more (inr (true, is)) same =
    let all = ap (λ (l : List ℕ). l ++ rest) (sym is) ∙ same in
    let head : ◌≡◌ {A = ℕ} 116 101 = cc in
    absurd (omega (arith, head))
not_end line rest more (inr (false, is)) same =
    let all = ap (λ (l : List ℕ). l ++ rest) (sym is) ∙ same in
    let head : ◌≡◌ {A = ℕ} 102 101 = cc in
    absurd (omega (arith, head))

-- what is printed before the line of the end
printed_cut : (lines others : List (List ℕ)) (rest more : List ℕ) → AllByRecursion IsPrintedLine lines → AllByRecursion IsPrintedLine others
    → concat lines ++ 101 ∷ rest ≡ concat others ++ 101 ∷ more → (concat lines ≡ concat others) × (101 ∷ rest ≡ 101 ∷ more)
printed_cut [] [] rest more first second same = (refl, same)
printed_cut [] (other ∷ others) rest more first second same =
    absurd (not_end other (concat others ++ 101 ∷ more) rest second.0 (sym (same ∙ append_assoc other (concat others) (101 ∷ more))))
printed_cut (line ∷ lines) [] rest more first second same =
    absurd (not_end line (concat lines ++ 101 ∷ rest) more first.0 (sym (append_assoc line (concat lines) (101 ∷ rest)) ∙ same))
printed_cut (line ∷ lines) (other ∷ others) rest more first second same =
    let a = body_of line first.0 in
    let b = body_of other second.0 in
    let left : (line ++ concat lines) ++ 101 ∷ rest ≡ a.0 ++ 10 ∷ (concat lines ++ 101 ∷ rest) =
    append_assoc line (concat lines) (101 ∷ rest) ∙ ap (λ (l : List ℕ). l ++ (concat lines ++ 101 ∷ rest)) a.2 ∙ append_assoc a.0 (10 ∷ []) (concat lines ++ 101 ∷ rest) in
    let right : (other ++ concat others) ++ 101 ∷ more ≡ b.0 ++ 10 ∷ (concat others ++ 101 ∷ more) =
    append_assoc other (concat others) (101 ∷ more) ∙ ap (λ (l : List ℕ). l ++ (concat others ++ 101 ∷ more)) b.2 ∙ append_assoc b.0 (10 ∷ []) (concat others ++ 101 ∷ more) in
    let parts = cut_at_byte 10 a.0 b.0 (concat lines ++ 101 ∷ rest) (concat others ++ 101 ∷ more) a.1 b.1 (sym left ∙ same ∙ right) in
    let inner = printed_cut lines others rest more first.1 second.1 parts.1 in
    let one : line ≡ other = a.2 ∙ ap (λ (l : List ℕ). l ++ 10 ∷ []) parts.0 ∙ sym b.2 in
    (ap (λ (l : List ℕ). l ++ concat lines) one ∙ ap (λ (l : List ℕ). other ++ l) inner.0, inner.1)

-- numbers before a byte that is no digit
number_cut : (c m n : ℕ) (rest more : List ℕ) → (c < 48) ⊎ (57 < c) → m < 2 ^ 64 → n < 2 ^ 64 → decimal m ++ c ∷ rest ≡ decimal n ++ c ∷ more → (m ≡ n) × (rest ≡ more)
number_cut c m n rest more other first second same =
    let parts = cut_at_byte c (decimal m) (decimal n) rest more (digits_none c other (decimal m) (decimal_digits m)) (digits_none c other (decimal n) (decimal_digits n)) same in
    (decimal_injective m n first second parts.0, parts.1)

-- the rest of the line of the end, after how the run ended
abbrev turns_text : ℕ → List ℕ → List ℕ
turns_text turns rest = codes " turns " ++ (decimal turns ++ 10 ∷ rest)

turns_cut : (t u : ℕ) (rest more : List ℕ) → t < 2 ^ 64 → u < 2 ^ 64 → turns_text t rest ≡ turns_text u more → (t ≡ u) × (rest ≡ more)
turns_cut t u rest more first second same =
    number_cut 10 t u rest more (inl (omega arith)) first second (append_cancel_left (codes " turns ") (decimal t ++ 10 ∷ rest) (decimal u ++ 10 ∷ more) same)

fault_joined : (number statement : ℕ) (rest : List ℕ) → fault_text number statement ++ rest ≡ codes "fault " ++ (decimal number ++ (codes " statement " ++ (decimal statement ++ rest)))
fault_joined number statement rest =
    ap (λ (l : List ℕ). codes "fault " ++ l) (append_assoc (decimal number) (codes " statement " ++ decimal statement) rest)

fault_cut : (number statement other index t u : ℕ) (rest more : List ℕ) → IsEnd (Fault number statement) → IsEnd (Fault other index) → t < 2 ^ 64 → u < 2 ^ 64
    → fault_text number statement ++ turns_text t rest ≡ fault_text other index ++ turns_text u more → (number ≡ other) × (statement ≡ index) × (t ≡ u) × (rest ≡ more)
fault_cut number statement other index t u rest more first second small also same =
    let joined = sym (fault_joined number statement (turns_text t rest)) ∙ same ∙ fault_joined other index (turns_text u more) in
    let behind = append_cancel_left (codes "fault ") (decimal number ++ (codes " statement " ++ (decimal statement ++ turns_text t rest)))
    (decimal other ++ (codes " statement " ++ (decimal index ++ turns_text u more))) joined in
    let one = number_cut 32 number other (codes "statement " ++ (decimal statement ++ turns_text t rest)) (codes "statement " ++ (decimal index ++ turns_text u more))
    (inl (omega arith)) first.0 second.0 behind in
    let next = append_cancel_left (codes "statement ") (decimal statement ++ turns_text t rest) (decimal index ++ turns_text u more) one.1 in
    let two = number_cut 32 statement index (codes "turns " ++ (decimal t ++ 10 ∷ rest)) (codes "turns " ++ (decimal u ++ 10 ∷ more)) (inl (omega arith)) first.1 second.1 next in
    let three = turns_cut t u rest more small also (ap (λ (l : List ℕ). 32 ∷ l) two.1) in
    (one.0, two.0, three.0, three.1)

end_cut : (x y : End) (t u : ℕ) (rest more : List ℕ) → IsEnd x → IsEnd y → t < 2 ^ 64 → u < 2 ^ 64 → end_text x ++ turns_text t rest ≡ end_text y ++ turns_text u more → (x ≡ y) × (t ≡ u)
    × (rest ≡ more)
end_cut Finished Finished t u rest more first second small also same =
    let turns = turns_cut t u rest more small also (append_cancel_left (codes "finished") (turns_text t rest) (turns_text u more) same) in
    (refl, turns.0, turns.1)
end_cut Finished TurnsOver t u rest more first second small also same = let head : ◌≡◌ {A = ℕ} 102 116 = cc in absurd (omega (arith, head))
end_cut Finished (Fault number statement) t u rest more first second small also same = let head : ◌≡◌ {A = ℕ} 105 97 = cc in absurd (omega (arith, head))
end_cut TurnsOver Finished t u rest more first second small also same = let head : ◌≡◌ {A = ℕ} 116 102 = cc in absurd (omega (arith, head))
end_cut TurnsOver TurnsOver t u rest more first second small also same =
    let turns = turns_cut t u rest more small also (append_cancel_left (codes "turns-over") (turns_text t rest) (turns_text u more) same) in
    (refl, turns.0, turns.1)
end_cut TurnsOver (Fault number statement) t u rest more first second small also same = let head : ◌≡◌ {A = ℕ} 116 102 = cc in absurd (omega (arith, head))
end_cut (Fault number statement) Finished t u rest more first second small also same = let head : ◌≡◌ {A = ℕ} 97 105 = cc in absurd (omega (arith, head))
end_cut (Fault number statement) TurnsOver t u rest more first second small also same = let head : ◌≡◌ {A = ℕ} 102 116 = cc in absurd (omega (arith, head))
end_cut (Fault number statement) (Fault other index) t u rest more first second small also same =
    let all = fault_cut number statement other index t u rest more first second small also same in
    (ap (λ (n : ℕ). Fault n statement) all.0 ∙ ap (Fault other) all.1, all.2, all.3)

-- the line of the end, before what follows
end_joined : (x : End) (t : ℕ) (rest : List ℕ) → end_line x t ++ rest ≡ codes "end " ++ (end_text x ++ turns_text t rest)
end_joined x t rest =
    ap (λ (l : List ℕ). codes "end " ++ l) (append_assoc (end_text x) (labelled (codes " turns ") t ++ 10 ∷ []) rest
    ∙ ap (λ (l : List ℕ). end_text x ++ (codes " turns " ++ l)) (append_assoc (decimal t) (10 ∷ []) rest))

-- the lines of vectors and sets
vector_line_is : (v : NamedVector) (rest : List ℕ) → vector_line v ++ rest ≡ codes "vector " ++ (line_of signed_decimal v.name v.entries ++ rest)
vector_line_is v rest = refl

fits_mag : (n : ℤ) → FitsSigned w64 n → mag n < 2 ^ 63
fits_mag (pos n) fits = omega (arith, fits)
fits_mag (negsuc n) fits = omega (arith, fits)

same_integer : (m n : ℤ) → FitsSigned w64 m → FitsSigned w64 n → signed_decimal m ≡ signed_decimal n → m ≡ n
same_integer m n first second same = signed_decimal_injective m n (fits_mag m first) (fits_mag n second) same

integer_plain : (n : ℤ) → Passes at_end (signed_decimal n)
integer_plain n = integer_passes at_end no_end refl n

same_member : (m n : ℕ) → m < 2 ^ 64 → n < 2 ^ 64 → decimal m ≡ decimal n → m ≡ n
same_member m n first second same = decimal_injective m n first second same

member_plain : (n : ℕ) → Passes at_end (decimal n)
member_plain n = digits_pass at_end no_end (decimal n) (decimal_digits n)

vector_cut : (v w : NamedVector) (rest more : List ℕ) → IsVector v → IsVector w → vector_line v ++ rest ≡ vector_line w ++ more → (v ≡ w) × (rest ≡ more)
vector_cut v w rest more first second same =
    let line : line_of signed_decimal v.name v.entries ++ rest ≡ line_of signed_decimal w.name w.entries ++ more =
    append_cancel_left (codes "vector ") (line_of signed_decimal v.name v.entries ++ rest) (line_of signed_decimal w.name w.entries ++ more) same in
    let parts = line_cut signed_decimal (FitsSigned w64) integer_plain same_integer v.name w.name v.entries w.entries rest more first.name second.name first.entries second.entries line in
    (λ i. record { name = parts.0 i; entries = parts.1 i }, parts.2)

set_cut : (s t : NamedSet) (rest more : List ℕ) → IsSet s → IsSet t → set_line s ++ rest ≡ set_line t ++ more → (s ≡ t) × (rest ≡ more)
set_cut s t rest more first second same =
    let line : line_of decimal s.name s.members ++ rest ≡ line_of decimal t.name t.members ++ more =
    append_cancel_left (codes "set ") (line_of decimal s.name s.members ++ rest) (line_of decimal t.name t.members ++ more) same in
    let parts = line_cut decimal (λ m. m < 2 ^ 64) member_plain same_member s.name t.name s.members t.members rest more first.name second.name first.members second.members line in
    (λ i. record { name = parts.0 i; members = parts.1 i }, parts.2)

sets_cut : (xs ys : List NamedSet) → AllByRecursion IsSet xs → AllByRecursion IsSet ys → flat_map set_line xs ≡ flat_map set_line ys → xs ≡ ys
sets_cut [] [] first second same = refl
sets_cut [] (y ∷ ys) first second same = absurd cc
sets_cut (x ∷ xs) [] first second same = absurd cc
sets_cut (x ∷ xs) (y ∷ ys) first second same =
    let parts = set_cut x y (flat_map set_line xs) (flat_map set_line ys) first.0 second.0 same in
    let inner = sets_cut xs ys first.1 second.1 parts.1 in
    ap (λ (z : NamedSet). z ∷ xs) parts.0 ∙ ap (λ (zs : List NamedSet). y ∷ zs) inner

-- a line of a set is none of a vector
no_vector : (v : NamedVector) (vectors : List NamedVector) (sets others : List NamedSet) → flat_map set_line sets ≡ flat_map vector_line (v ∷ vectors) ++ flat_map set_line others → ⊥
no_vector v vectors [] others same = absurd cc
no_vector v vectors (s ∷ sets) others same = let head : ◌≡◌ {A = ℕ} 115 118 = cc in absurd (omega (arith, head))

vectors_cut : (vs ws : List NamedVector) (xs ys : List NamedSet) → AllByRecursion IsVector vs → AllByRecursion IsVector ws → AllByRecursion IsSet xs → AllByRecursion IsSet ys
    → flat_map vector_line vs ++ flat_map set_line xs ≡ flat_map vector_line ws ++ flat_map set_line ys → (vs ≡ ws) × (xs ≡ ys)
vectors_cut [] [] xs ys first second good also same = (refl, sets_cut xs ys good also same)
vectors_cut [] (w ∷ ws) xs ys first second good also same = absurd (no_vector w ws xs ys same)
vectors_cut (v ∷ vs) [] xs ys first second good also same = absurd (no_vector v vs ys xs (sym same))
vectors_cut (v ∷ vs) (w ∷ ws) xs ys first second good also same =
    let left = append_assoc (vector_line v) (flat_map vector_line vs) (flat_map set_line xs) in
    let right = append_assoc (vector_line w) (flat_map vector_line ws) (flat_map set_line ys) in
    let parts = vector_cut v w (flat_map vector_line vs ++ flat_map set_line xs) (flat_map vector_line ws ++ flat_map set_line ys) first.0 second.0 (sym left ∙ same ∙ right) in
    let inner = vectors_cut vs ws xs ys first.1 second.1 good also parts.1 in
    (ap (λ (z : NamedVector). z ∷ vs) parts.0 ∙ ap (λ (zs : List NamedVector). w ∷ zs) inner.0, inner.1)

pub text_determines : (a b : Outcome) → IsOutcome a → IsOutcome b → outcome_text a ≡ outcome_text b → a ≡ b
text_determines a b first second same =
    let a_lines = flat_map vector_line a.vectors ++ flat_map set_line a.sets in
    let b_lines = flat_map vector_line b.vectors ++ flat_map set_line b.sets in
    let a_end = codes "nd " ++ (end_text a.end ++ turns_text a.turns a_lines) in
    let b_end = codes "nd " ++ (end_text b.end ++ turns_text b.turns b_lines) in
    let a_is : outcome_text a ≡ concat first.printed.0 ++ 101 ∷ a_end =
    ap (λ (l : List ℕ). a.text ++ l) (end_joined a.end a.turns a_lines) ∙ ap (λ (l : List ℕ). l ++ 101 ∷ a_end) first.printed.2 in
    let b_is : outcome_text b ≡ concat second.printed.0 ++ 101 ∷ b_end =
    ap (λ (l : List ℕ). b.text ++ l) (end_joined b.end b.turns b_lines) ∙ ap (λ (l : List ℕ). l ++ 101 ∷ b_end) second.printed.2 in
    let printed = printed_cut first.printed.0 second.printed.0 a_end b_end first.printed.1 second.printed.1 (sym a_is ∙ same ∙ b_is) in
    let behind = append_cancel_left (codes "end ") (end_text a.end ++ turns_text a.turns a_lines) (end_text b.end ++ turns_text b.turns b_lines) printed.1 in
    let ends = end_cut a.end b.end a.turns b.turns a_lines b_lines first.numbers.end second.numbers.end first.numbers.turns second.numbers.turns behind in
    let rest = vectors_cut a.vectors b.vectors a.sets b.sets first.numbers.vectors second.numbers.vectors first.numbers.sets second.numbers.sets ends.2 in
    let text : a.text ≡ b.text = first.printed.2 ∙ printed.0 ∙ sym second.printed.2 in
    λ i. record { end = ends.0 i; turns = ends.1 i; vectors = rest.0 i; sets = rest.1 i; text = text i }

pub runs_determined : (p q : ProgramTree) (g h : GraphValue) (turns more : ℕ) → HasNumbers (meaning p g turns) → HasNumbers (meaning q h more)
    → outcome_text (meaning p g turns) ≡ outcome_text (meaning q h more) → meaning p g turns ≡ meaning q h more
runs_determined p q g h turns more first second same =
    text_determines (meaning p g turns) (meaning q h more) (record { printed = prints p g turns; numbers = first }) (record { printed = prints q h more; numbers = second }) same
