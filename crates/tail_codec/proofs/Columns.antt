-- Entries in columns, against the list of pairs.
use Rattle.std.proofs.Common.{◌≡◌, ℕ, zero, suc, ◌+◌, ◌-◌, ◌<◌, ℤ, pos, Option, Some, None, List, [], ◌∷◌, ◌++◌, length, take, drop, get_or, slice_set, refl, sym, ◌∙◌, ap, length-append, arith}
use Rattle.std.specs.List.{zip}
use Rattle.std.proofs.Math.ListN.{replicate}
use Rattle.std.specs.Map.{keys_of}
use Rattle.std.specs.Borrow.{Bor}
use Rattle.std.specs.Option.{option_map, option_copied}
use Rattle.std.proofs.lemmas.List.{length-replicate, take_all}
use Rattle.std.proofs.lemmas.Slice.Zip.{length-zip, get_or-zip}
use Rattle.std.proofs.lemmas.Map.Made.{keys_of-zip}
use Rattle.tail_codec.specs.Columns.{entries_in}
use Rattle.tail_codec.specs.inside.Columns.{AreColumns, AreAppended}

pub length_in : (keys : List ℕ) (weights : Option (List ℤ)) → AreColumns keys weights → length (entries_in keys weights) ≡ length keys
length_in [] None s = refl
length_in (k ∷ ks) None s = ap suc (length_in ks None tt)
length_in keys (Some ws) s = length-zip keys ws ∙ omega (arith, s)

pub keys_in : (keys : List ℕ) (weights : Option (List ℤ)) → AreColumns keys weights → keys_of (entries_in keys weights) ≡ keys
keys_in [] None s = refl
keys_in (k ∷ ks) None s = ap (λ v. k ∷ v) (keys_in ks None tt)
keys_in keys (Some ws) s = keys_of-zip keys ws s

pub weight_one : (keys : List ℕ) (i : ℕ) → i < length keys → (get_or (entries_in keys None) i (0, pos 0)).1 ≡ pos 1
weight_one [] i lt = absurd (omega (arith, lt))
weight_one (k ∷ ks) zero lt = refl
weight_one (k ∷ ks) (suc i) lt = weight_one ks i (omega (arith, lt))

pub weight_in : (keys : List ℕ) (weights : List ℤ) (i : ℕ) → length weights ≡ length keys → i < length keys → (get_or (zip keys weights) i (0, pos 0)).1 ≡ get_or weights i (pos 0)
weight_in keys ws i s lt = ap (λ e. e.1) (get_or-zip keys ws i (0, pos 0) lt (omega (arith, s, lt)))

take_zip : (n : ℕ) (keys : List ℕ) (weights : List ℤ) → take n (zip keys weights) ≡ zip (take n keys) (take n weights)
take_zip zero ks ws = refl
take_zip (suc n) [] ws = refl
take_zip (suc n) (k ∷ ks) [] = refl
take_zip (suc n) (k ∷ ks) (w ∷ ws) = ap (λ v. (k, w) ∷ v) (take_zip n ks ws)

zip_nothing : (keys : List ℕ) → zip {X = ℤ} keys [] ≡ []
zip_nothing [] = refl
zip_nothing (k ∷ ks) = refl

drop_zip : (n : ℕ) (keys : List ℕ) (weights : List ℤ) → drop n (zip keys weights) ≡ zip (drop n keys) (drop n weights)
drop_zip zero ks ws = refl
drop_zip (suc n) [] ws = refl
drop_zip (suc n) (k ∷ ks) [] = sym (zip_nothing (drop n ks))
drop_zip (suc n) (k ∷ ks) (w ∷ ws) = drop_zip n ks ws

pub take_in : (n : ℕ) (keys : List ℕ) (weights : Option (List ℤ)) → take n (entries_in keys weights) ≡ entries_in (take n keys) (option_map (take n) weights)
take_in zero ks None = refl
take_in (suc n) [] None = refl
take_in (suc n) (k ∷ ks) None = ap (λ v. (k, pos 1) ∷ v) (take_in n ks None)
take_in n ks (Some ws) = take_zip n ks ws

pub drop_in : (n : ℕ) (keys : List ℕ) (weights : Option (List ℤ)) → drop n (entries_in keys weights) ≡ entries_in (drop n keys) (option_map (drop n) weights)
drop_in zero ks None = refl
drop_in (suc n) [] None = refl
drop_in (suc n) (k ∷ ks) None = drop_in n ks None
drop_in n ks (Some ws) = drop_zip n ks ws

pub zip_append : (ks js : List ℕ) (ws vs : List ℤ) → length ws ≡ length ks → zip (ks ++ js) (ws ++ vs) ≡ zip ks ws ++ zip js vs
zip_append [] js [] vs s = refl
zip_append [] js (w ∷ ws) vs s = absurd (omega (arith, s))
zip_append (k ∷ ks) js [] vs s = absurd (omega (arith, s))
zip_append (k ∷ ks) js (w ∷ ws) vs s = ap (λ v. (k, w) ∷ v) (zip_append ks js ws vs (omega (arith, s)))

-- a column of as many ones as there are keys
pub zip_ones : (keys : List ℕ) → zip keys (replicate (length keys) (pos 1)) ≡ entries_in keys None
zip_ones [] = refl
zip_ones (k ∷ ks) = ap (λ v. (k, pos 1) ∷ v) (zip_ones ks)

-- entries after others, with a column of weights and without one
pub appended_column : (old keys new : List ℕ) (old' weights new' : List ℤ) → length old' ≡ length old → length weights ≡ length keys → new ≡ old ++ keys → new' ≡ old' ++ weights
    → AreAppended old old' (zip keys weights) new new'
appended_column old keys new old' weights new' same same' is is' =
    rw (is, is') (record {
      columns = omega (arith, length-append old keys, length-append old' weights, same, same');
      whole = zip_append old keys old' weights same;
    })

pub appended_ones : (old keys new : List ℕ) (old' new' : List ℤ) (m n : ℕ) → length old' ≡ length old → m ≡ length old' → n ≡ length new → new ≡ old ++ keys
    → new' ≡ take n old' ++ replicate (n - m) (pos 1) → AreAppended old old' (entries_in keys None) new new'
appended_ones old keys new old' new' m n same m_is n_is is is' =
    let long : n ≡ length old + length keys = n_is ∙ ap length is ∙ length-append old keys in
    let front : take n old' ≡ old' = take_all n old' (omega (arith, long, same)) in
    let more : n - m ≡ length keys = omega (arith, long, same, m_is) in
    let column : new' ≡ old' ++ replicate (length keys) (pos 1) = is' ∙ ap (λ v. v ++ replicate (n - m) (pos 1)) front ∙ ap (λ (k : ℕ). old' ++ replicate k (pos 1)) more in
    rw (← zip_ones keys) (appended_column old keys new old' (replicate (length keys) (pos 1)) new' same (length-replicate (length keys) (pos 1)) is column)

-- both columns are changed at one position
pub set_zip : (n : ℕ) (keys : List ℕ) (weights : List ℤ) (k : ℕ) (w : ℤ) → zip (slice_set keys n k) (slice_set weights n w) ≡ slice_set (zip keys weights) n (k, w)
set_zip n [] ws k w = refl
set_zip zero (x ∷ ks) [] k w = refl
set_zip (suc n) (x ∷ ks) [] k w = refl
set_zip zero (x ∷ ks) (y ∷ ws) k w = refl
set_zip (suc n) (x ∷ ks) (y ∷ ws) k w = ap (λ v. (x, y) ∷ v) (set_zip n ks ws k w)

-- a column in which each weight is 1
pub all_one : (weights : List ℤ) (keys : List ℕ) → ((i : ℕ) → i < length weights → get_or weights i (pos 0) ≡ pos 1) → length weights ≡ length keys → entries_in keys None ≡ zip keys weights
all_one [] [] each s = refl
all_one [] (k ∷ ks) each s = absurd (omega (arith, s))
all_one (w ∷ ws) [] each s = absurd (omega (arith, s))
all_one (w ∷ ws) (k ∷ ks) each s =
    let first : w ≡ pos 1 = each 0 (omega arith) in
    rw first (ap (λ v. (k, pos 1) ∷ v) (all_one ws ks (λ i lt. each (suc i) (omega (arith, lt))) (omega (arith, s))))

-- the columns of lent entries, and what is seen of them
module _ (keys : List ℕ) (lent : Option (Bor (List ℤ))) (es : List (ℕ × ℤ)) (columns : AreColumns keys (option_copied lent)) (seen : entries_in keys (option_copied lent) ≡ es) where
  pub keys_long : length keys ≡ length es
  keys_long = sym (length_in keys (option_copied lent) columns) ∙ ap length seen

  module _ (weights : Bor (List ℤ)) (some : lent ≡ Some weights) where
    pub some_long : length weights.now ≡ length keys
    some_long = rw some at columns

    pub weights_long : length weights.now ≡ length es
    weights_long = some_long ∙ keys_long

    pub seen_zip : zip keys weights.now ≡ es
    seen_zip = rw some at seen

  -- the keys that are seen, each with weight 1
  pub only_ones : lent ≡ None → es ≡ entries_in (keys_of es) None
  only_ones none =
      let ones : entries_in keys None ≡ es = rw none at seen in
      let same : keys ≡ keys_of es = sym (keys_in keys (option_copied lent) columns) ∙ ap keys_of seen in
      sym ones ∙ ap (λ v. entries_in v None) same

  pub seen_ones : lent ≡ None → entries_in keys None ≡ es
  seen_ones none = rw none at seen
