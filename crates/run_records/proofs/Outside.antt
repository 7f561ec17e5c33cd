-- Outside the vertices at which vectors were found to differ they agree.
use Rattle.std.proofs.Common.{◌≡◌, ◌↔◌, ℕ, ◌≤◌, ◌&&◌, ℤ, Bool, true, false, List, Contains, length, inl, inr, refl, ap, sym, ◌∙◌, arith, subst}
use Rattle.std.proofs.lemmas.Bool.Decides.{leb_tells}
use Rattle.std.specs.List.{filter}
use Rattle.algorithm_meaning.specs.VertexSets.{all_below}
use Rattle.kernels.specs.EdgeApply.{is_member}
use Rattle.edge_apply.proofs.Listed.{member_filtered, member_of_range}
use Rattle.edge_fold.proofs.Findings.{member_is}
use Rattle.follow_engine.specs.Differing.{differ_at}
use Rattle.follow_engine.specs.Local.{AgreeAt}
use Rattle.run_records.specs.inside.FormerRun.{AreAlikeBut}
use Rattle.run_records.specs.inside.Rows.{HaveRows}
use Rattle.run_records.proofs.Known.{agree_past}

-- vectors of so many rows agree at a vertex at which none of these differs
abbrev AgreeIfNoneDiffers : (vectors kept : List (List ℤ)) (count : ℕ) → Type 0
AgreeIfNoneDiffers vectors kept count = (v : ℕ) → differ_at vectors kept count v ≡ false → AgreeAt vectors kept v

agree_at : (vectors kept : List (List ℤ)) (count : ℕ) (listed : List ℕ) (v : ℕ) (b : Bool) → AgreeIfNoneDiffers vectors kept count
    → (is_member v listed ≡ false → AgreeAt vectors kept v) → is_member v listed ≡ b → is_member v (filter (differ_at vectors kept count) listed) ≡ false → AgreeAt vectors kept v
agree_at vectors kept count listed v true law known is out =
    law v (sym (ap (λ (c : Bool). c && differ_at vectors kept count v) is) ∙ sym (member_filtered (differ_at vectors kept count) v listed) ∙ out)
agree_at vectors kept count listed v false law known is out = known is

-- of vertices outside which they agree
pub alike_but_found : (count n : ℕ) (vectors kept : List (List ℤ)) (listed found : List ℕ) → HaveRows count n vectors → HaveRows count n kept → AgreeIfNoneDiffers vectors kept count
    → ((v : ℕ) → is_member v listed ≡ false → AgreeAt vectors kept v) → found ≡ filter (differ_at vectors kept count) listed → AreAlikeBut n kept vectors found
alike_but_found count n vectors kept listed found has has_kept law known is = record {
  count = count;
  kept_rows = has_kept;
  rows = has;
  entries = λ v out. agree_at vectors kept count listed v (is_member v listed) law (known v) refl (sym (ap (is_member v) is) ∙ out);
}

-- of all vertices
pub alike_past : (count n : ℕ) (vectors kept : List (List ℤ)) (v : ℕ) → HaveRows count n vectors → HaveRows count n kept → is_member v (all_below n) ≡ false → AgreeAt vectors kept v
alike_past count n vectors kept v has has_kept out =
    elim (leb_tells n v) [
      | inl h ↦ agree_past count n vectors kept v has has_kept h.1
      | inr h ↦ absurd (never (sym (member_of_range v n h.1) ∙ out))
    ]
  where
    never : true ≡ false → ⊥
    never is = cc

-- the law that vectors agree where none of so many differs
abbrev AgreementLaw : Type 0
AgreementLaw = (now was : List (List ℤ)) (count v : ℕ) → length now ≤ count → length was ≤ count → differ_at now was count v ≡ false → AgreeAt now was v

agree_if_none : (count n : ℕ) (vectors kept : List (List ℤ)) → HaveRows count n vectors → HaveRows count n kept → AgreementLaw → AgreeIfNoneDiffers vectors kept count
agree_if_none count n vectors kept has has_kept law v none =
    let is = has.count in
    let is_kept = has_kept.count in
    law vectors kept count v (omega (arith, is)) (omega (arith, is_kept)) none

-- the vertices that were found are all outside which the vectors agree: of all vertices, and of those outside which they do so
pub alike_but_all : (count n m : ℕ) (vectors kept : List (List ℤ)) (found : List ℕ) → m ≡ n → HaveRows count m vectors → HaveRows count m kept → AgreementLaw
    → found ≡ filter (differ_at vectors kept count) (all_below m) → AreAlikeBut n kept vectors found
alike_but_all count n m vectors kept found same has has_kept law is =
    subst (λ (k : ℕ). AreAlikeBut k kept vectors found) same
    (alike_but_found count m vectors kept (all_below m) found has has_kept (agree_if_none count m vectors kept has has_kept law)
    (λ v out. alike_past count m vectors kept v has has_kept out) is)

pub alike_but_listed : (count n m : ℕ) (vectors kept : List (List ℤ)) (listed found : List ℕ) → m ≡ n → HaveRows count m vectors → HaveRows count m kept → AgreementLaw
    → AreAlikeBut n kept vectors listed → found ≡ filter (differ_at vectors kept count) listed → AreAlikeBut n kept vectors found
alike_but_listed count n m vectors kept listed found same has has_kept law known is =
    subst (λ (k : ℕ). AreAlikeBut k kept vectors found) same
    (alike_but_found count m vectors kept listed found has has_kept (agree_if_none count m vectors kept has has_kept law) known.entries is)

-- the members of a list that has what passes a test
pub member_tested : (test : ℕ → Bool) (xs : List ℕ) → ((v : ℕ) → Contains xs v ↔ (test v ≡ true)) → (v : ℕ) → is_member v xs ≡ test v
member_tested test xs has v = sym (member_is v xs (test v) (λ on. (has v).1 on, λ there. (has v).0 there))
