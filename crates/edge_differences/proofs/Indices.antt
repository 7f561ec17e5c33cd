-- Ends that come in the order of their indices, each once.
use Rattle.std.proofs.Common.{◌≡◌, ℕ, zero, suc, ◌+◌, ◌*◌, ◌/◌, ◌%◌, ◌^◌, ◌<◌, ◌≤◌, ◌==◌, Bool, true, false, ◌||◌, ◌&&◌, List, [], ◌∷◌, ◌++◌, length, take, get_or, refl, sym, ap, ◌∙◌, subst, arith}
use Rattle.std.proofs.Common.{add-one, length-take}
use Rattle.std.proofs.lemmas.Bool.{false≢true}
use Rattle.std.proofs.lemmas.List.{get_or-take, get_or_default, take_more}
use Rattle.std.proofs.lemmas.List.Folds.{list_any-append, list_any_at}
use Rattle.std.specs.List.{list_any}
use Rattle.std.specs.List.Sorted.{IsNonDecreasing}
use Rattle.tree_batch.specs.Edge.{Ends, index}
use Rattle.edge_differences.specs.Listed.{EndsRise, is_listed}
use Rattle.edge_differences.specs.inside.Indices.{after_last, is_index_of}

-- the indices of ends
pub record HaveIndices (ps : List Ends) (ks : List ℕ) : Type 0 where
  pub listed : (u v : ℕ) → is_listed ps u v ≡ list_any (is_index_of u v) ks

or_none : (a b : Bool) → a || (b || false) ≡ a || b
or_none a true = refl
or_none a false = refl

listed_more : (ps : List Ends) (i : ℕ) (d : Ends) (u v : ℕ) → i < length ps → is_listed (take (i + 1) ps) u v ≡ is_listed (take i ps) u v || (((get_or ps i d).0 == u) && ((get_or ps i d).1 == v))
listed_more ps i d u v l =
    let p = get_or ps i d in
    ap (λ (qs : List Ends). is_listed qs u v) (take_more ps i d l)
    ∙ list_any-append (λ (q : Ends). (q.0 == u) && (q.1 == v)) (take i ps) (p ∷ [])
    ∙ or_none (is_listed (take i ps) u v) ((p.0 == u) && (p.1 == v))

listed_pushed : (ps : List Ends) (p : Ends) (u v : ℕ) → is_listed (ps ++ p ∷ []) u v ≡ is_listed ps u v || ((p.0 == u) && (p.1 == v))
listed_pushed ps p u v =
    list_any-append (λ (q : Ends). (q.0 == u) && (q.1 == v)) ps (p ∷ []) ∙ or_none (is_listed ps u v) ((p.0 == u) && (p.1 == v))

any_pushed : (ks : List ℕ) (k u v : ℕ) → list_any (is_index_of u v) (ks ++ k ∷ []) ≡ list_any (is_index_of u v) ks || is_index_of u v k
any_pushed ks k u v = list_any-append (is_index_of u v) ks (k ∷ []) ∙ or_none (list_any (is_index_of u v) ks) (is_index_of u v k)

any_more : (ks : List ℕ) (i u v : ℕ) → i < length ks → list_any (is_index_of u v) (take (i + 1) ks) ≡ list_any (is_index_of u v) (take i ks) || is_index_of u v (get_or ks i 0)
any_more ks i u v l = ap (list_any (is_index_of u v)) (take_more ks i 0 l) ∙ any_pushed (take i ks) (get_or ks i 0) u v

-- one more of the ends
pub indices_more : (ps : List Ends) (i : ℕ) (d : Ends) (k : ℕ) (ks : List ℕ) → i < length ps → k / 2 ^ 32 ≡ (get_or ps i d).0 → k % 2 ^ 32 ≡ (get_or ps i d).1 → HaveIndices (take i ps) ks
    → HaveIndices (take (i + 1) ps) (ks ++ k ∷ [])
indices_more ps i d k ks l first second so = record {
  listed = λ u v.
      listed_more ps i d u v l
      ∙ ap (λ (b : Bool). b || (((get_or ps i d).0 == u) && ((get_or ps i d).1 == v))) (so.listed u v)
      ∙ ap (λ (a : ℕ). list_any (is_index_of u v) ks || ((a == u) && ((get_or ps i d).1 == v))) (sym first)
      ∙ ap (λ (b : ℕ). list_any (is_index_of u v) ks || (((k / 2 ^ 32) == u) && (b == v))) (sym second)
      ∙ sym (any_pushed ks k u v);
}

-- the first ends in order
pub record AreFirst (ks : List ℕ) (i : ℕ) (ps : List Ends) : Type 0 where
  pub ascending : EndsRise 0 (after_last ks i) ps
  pub listed : (u v : ℕ) → is_listed ps u v ≡ list_any (is_index_of u v) (take i ks)

rise_pushed : (low high : ℕ) (ps : List Ends) (p : Ends) → EndsRise low high ps → high ≤ index p → EndsRise low (index p + 1) (ps ++ p ∷ [])
rise_pushed low high [] p up l = (omega (arith, up, l), omega arith)
rise_pushed low high (q ∷ qs) p up l = (up.0, rise_pushed (index q + 1) high qs p up.1 l)

pub rise_wider : (low high higher : ℕ) (ps : List Ends) → EndsRise low high ps → high ≤ higher → EndsRise low higher ps
rise_wider low high higher [] up l = omega (arith, up, l)
rise_wider low high higher (p ∷ ps) up l = (up.0, rise_wider (index p + 1) high higher ps up.1 l)

parts_whole : (k : ℕ) → k / 2 ^ 32 * 2 ^ 32 + k % 2 ^ 32 ≡ k
parts_whole k = omega arith

-- a new index
pub first_more : (ks : List ℕ) (i : ℕ) (ps : List Ends) (p : Ends) → i < length ks → after_last ks i ≤ get_or ks i 0 → p.0 ≡ get_or ks i 0 / 2 ^ 32 → p.1 ≡ get_or ks i 0 % 2 ^ 32
    → AreFirst ks i ps → AreFirst ks (suc i) (ps ++ p ∷ [])
first_more ks i ps p l above first second so =
    let k = get_or ks i 0 in
    let whole : index p ≡ k = ap (λ (a : ℕ). a * 2 ^ 32 + p.1) first ∙ ap (λ (b : ℕ). k / 2 ^ 32 * 2 ^ 32 + b) second ∙ parts_whole k in
    record {
      ascending = subst (λ (h : ℕ). EndsRise 0 (h + 1) (ps ++ p ∷ [])) whole (rise_pushed 0 (after_last ks i) ps p so.ascending (omega (arith, above, whole)));
      listed = λ u v.
          listed_pushed ps p u v
          ∙ ap (λ (b : Bool). b || ((p.0 == u) && (p.1 == v))) (so.listed u v)
          ∙ ap (λ (a : ℕ). list_any (is_index_of u v) (take i ks) || ((a == u) && (p.1 == v))) first
          ∙ ap (λ (b : ℕ). list_any (is_index_of u v) (take i ks) || (((k / 2 ^ 32) == u) && (b == v))) second
          ∙ sym (any_more ks i u v l)
          ∙ ap (λ (j : ℕ). list_any (is_index_of u v) (take j ks)) (add-one i);
    }

-- the index in front of it once more
or_same : (a b : Bool) → (b ≡ true → a ≡ true) → a ≡ a || b
or_same true b more = refl
or_same false true more = absurd (false≢true (more refl))
or_same false false more = refl

pub first_again : (ks : List ℕ) (i : ℕ) (ps : List Ends) → i < length ks → IsNonDecreasing ks → get_or ks i 0 < after_last ks i → AreFirst ks i ps → AreFirst ks (suc i) ps
first_again ks zero ps l up below so = absurd (omega (arith, below))
first_again ks (suc j) ps l up below so =
    let k = get_or ks (suc j) 0 in
    let rising = up j (suc j) 0 (omega arith) l in
    let same : get_or ks j 0 ≡ k = omega (arith, rising, below) in
    let inside : j < length (take (suc j) ks) = omega (arith, l, length-take {A = ℕ}) in
    record {
      ascending = subst (λ (h : ℕ). EndsRise 0 (h + 1) ps) same so.ascending;
      listed = λ u v.
          so.listed u v
          ∙ or_same (list_any (is_index_of u v) (take (suc j) ks)) (is_index_of u v k)
          (λ on. list_any_at (is_index_of u v) (take (suc j) ks) j k inside (ap (is_index_of u v) (get_or-take (suc j) ks j k (omega arith) ∙ get_or_default ks j k 0 (omega (arith, l)) ∙ same) ∙ on))
          ∙ sym (any_more ks (suc j) u v l)
          ∙ ap (λ (m : ℕ). list_any (is_index_of u v) (take m ks)) (add-one (suc j));
    }

-- indices of 64 bits
pub rise_all : (ks : List ℕ) (i : ℕ) (ps : List Ends) → ((k : ℕ) → get_or ks k 0 < 2 ^ 64) → EndsRise 0 (after_last ks i) ps → EndsRise 0 (2 ^ 64) ps
rise_all ks zero ps small up = rise_wider 0 0 (2 ^ 64) ps up (omega arith)
rise_all ks (suc j) ps small up = rise_wider 0 (get_or ks j 0 + 1) (2 ^ 64) ps up (let last = small j in omega (arith, last))

-- the position after this one
pub next_position : (ks : List ℕ) (i : ℕ) (ps : List Ends) → AreFirst ks (suc i) ps → AreFirst ks (i + 1) ps
next_position ks i ps are = subst (λ (j : ℕ). AreFirst ks j ps) (sym (add-one i)) are
