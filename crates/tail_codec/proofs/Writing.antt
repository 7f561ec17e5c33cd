-- A list of entries that grows at its end, and its bytes with it.
use Rattle.std.proofs.Common.{◌≡◌, ℕ, ◌+◌, ◌-◌, ◌*◌, ◌^◌, ◌<◌, ◌≤◌, zero, suc, ℤ, pos, inl, inr, None, List, [], ◌∷◌, ◌++◌, length, take, drop, get_or, refl, sym, ◌∙◌, ap, subst, append_assoc, arith}
use Rattle.std.specs.List.{zip}
use Rattle.std.specs.Map.{keys_of}
use Rattle.std.proofs.Math.Seq.{take-append_seam}
use Rattle.std.proofs.lemmas.Bool.{cases_Bool}
use Rattle.std.proofs.lemmas.List.{append-nil, drop_more, take_all, take_more}
use Rattle.std.proofs.lemmas.Slice.Zip.{length-zip}
use Rattle.ascending_lists.specs.Ascending.{AscendsFrom}
use Rattle.ascending_lists.proofs.Ascending.{ascends_from, ascends_room}
use Rattle.tail_codec.specs.Columns.{entries_in}
use Rattle.tail_codec.specs.Appending.{least_after}
use Rattle.tail_codec.specs.Spelling.{SpellsNumbers, SpellsFrom, AreWeights, weight_number, is_one, entry_numbers, list_numbers}
use Rattle.tail_codec.specs.inside.Writing.{WritesEntry, entry_room, list_room}
use Rattle.tail_codec.proofs.Numbers.{numbers_append}

-- an entry and others after a list
list_numbers-joined : (low : ℕ) (xs : List (ℕ × ℤ)) (e : ℕ × ℤ) (ys : List (ℕ × ℤ))
    → list_numbers low (xs ++ e ∷ ys) ≡ list_numbers low xs ++ (entry_numbers (e.0 - least_after low (keys_of xs)) e.1 ++ list_numbers (e.0 + 1) ys)
list_numbers-joined low [] e ys = refl
list_numbers-joined low (x ∷ xs) e ys =
    ap (λ v. entry_numbers (x.0 - low) x.1 ++ v) (list_numbers-joined (x.0 + 1) xs e ys)
    ∙ sym (append_assoc (entry_numbers (x.0 - low) x.1) (list_numbers (x.0 + 1) xs) _)

ascends-joined : (low : ℕ) (xs : List (ℕ × ℤ)) (e : ℕ × ℤ) (ys : List (ℕ × ℤ)) → AscendsFrom low (keys_of xs) → least_after low (keys_of xs) ≤ e.0 → e.0 < 2 ^ 32 → AscendsFrom (e.0 + 1) (keys_of ys)
    → AscendsFrom low (keys_of (xs ++ e ∷ ys))
ascends-joined low [] e ys s le small t = (le, small, t)
ascends-joined low (x ∷ xs) e ys s le small t = (s.0, s.1, ascends-joined (x.0 + 1) xs e ys s.2 le small t)

weights-joined : (xs : List (ℕ × ℤ)) (e : ℕ × ℤ) (ys : List (ℕ × ℤ)) → AreWeights xs → weight_number e.1 < 2 ^ 64 → AreWeights ys → AreWeights (xs ++ e ∷ ys)
weights-joined [] e ys s fits t = (fits, t)
weights-joined (x ∷ xs) e ys s fits t = (s.0, weights-joined xs e ys s.1 fits t)

pub spells-joined : (low : ℕ) (xs : List (ℕ × ℤ)) (e : ℕ × ℤ) (ys : List (ℕ × ℤ)) (bytes own more : List ℕ) → SpellsFrom low xs bytes → least_after low (keys_of xs) ≤ e.0 → e.0 < 2 ^ 32
    → weight_number e.1 < 2 ^ 64 → SpellsNumbers (entry_numbers (e.0 - least_after low (keys_of xs)) e.1) own → SpellsFrom (e.0 + 1) ys more → SpellsFrom low (xs ++ e ∷ ys) (bytes ++ (own ++ more))
spells-joined low xs e ys bytes own more s le small fits number t = record {
  ascending = ascends-joined low xs e ys s.ascending le small t.ascending;
  weights = weights-joined xs e ys s.weights fits t.weights;
  numbers = rw (list_numbers-joined low xs e ys) (numbers_append (list_numbers low xs) _ bytes (own ++ more) s.numbers
      (numbers_append (entry_numbers (e.0 - least_after low (keys_of xs)) e.1) (list_numbers (e.0 + 1) ys) own more number t.numbers));
}

pub spells_nothing : (low : ℕ) → SpellsFrom low [] []
spells_nothing low = record { ascending = tt; weights = tt; numbers = refl }

-- the last element is above those before it
least_after-le : (low : ℕ) (xs : List ℕ) (x : ℕ) → AscendsFrom low (xs ++ x ∷ []) → (least_after low xs ≤ x) × (x < 2 ^ 32)
least_after-le low [] x ascends = (ascends.0, ascends.1)
least_after-le low (y ∷ ys) x ascends = least_after-le (y + 1) ys x ascends.2

least_after-push : (low : ℕ) (xs : List ℕ) (x : ℕ) → least_after low (xs ++ x ∷ []) ≡ x + 1
least_after-push low [] x = refl
least_after-push low (y ∷ ys) x = least_after-push (y + 1) ys x

-- a front of an ascending list ascends
AscendsFrom-take : (low n : ℕ) (xs : List ℕ) → AscendsFrom low xs → AscendsFrom low (take n xs)
AscendsFrom-take low zero xs ascends = tt
AscendsFrom-take low (suc n) [] ascends = tt
AscendsFrom-take low (suc n) (x ∷ xs) ascends = (ascends.0, ascends.1, AscendsFrom-take (x + 1) n xs ascends.2)

-- the next key of a list, of which the first n are after
module _ (low n : ℕ) (xs : List ℕ) (within : n < length xs) where
  pub next_fits : AscendsFrom low xs → (least_after low (take n xs) ≤ get_or xs n 0) × (get_or xs n 0 < 2 ^ 32)
  next_fits ascends =
      let front : AscendsFrom low (take n xs ++ get_or xs n 0 ∷ []) = rw (← take_more xs n 0 within) (AscendsFrom-take low (n + 1) xs ascends) in
      least_after-le low (take n xs) (get_or xs n 0) front

  pub next_least : least_after low (take (n + 1) xs) ≡ get_or xs n 0 + 1
  next_least = rw (take_more xs n 0 within) (least_after-push low (take n xs) (get_or xs n 0))

-- keys of entries at a position
pub take_keys : (n : ℕ) (es : List (ℕ × ℤ)) → keys_of (take n es) ≡ take n (keys_of es)
take_keys zero es = refl
take_keys (suc n) [] = refl
take_keys (suc n) (e ∷ es) = ap (λ v. e.0 ∷ v) (take_keys n es)

pub key_of : (n : ℕ) (es : List (ℕ × ℤ)) → n < length es → get_or (keys_of es) n 0 ≡ (get_or es n (0, pos 0)).0
key_of n [] lt = absurd (omega (arith, lt))
key_of zero (e ∷ es) lt = refl
key_of (suc n) (e ∷ es) lt = key_of n es (omega (arith, lt))

pub length_keys : (es : List (ℕ × ℤ)) → length (keys_of es) ≡ length es
length_keys [] = refl
length_keys (e ∷ es) = ap suc (length_keys es)

-- the key of an entry fits after those before it
pub entry_fits : (low n : ℕ) (es : List (ℕ × ℤ)) → n < length es → AscendsFrom low (keys_of es) → (least_after low (keys_of (take n es)) ≤ (get_or es n (0, pos 0)).0)
    × ((get_or es n (0, pos 0)).0 < 2 ^ 32)
entry_fits low n es within ascends =
    let within' : n < length (keys_of es) = omega (arith, within, length_keys es) in
    let small = next_fits low n (keys_of es) within' ascends in
    (rw (take_keys n es, ← key_of n es within) small.0, rw (← key_of n es within) small.1)

pub entry_next : (low n : ℕ) (es : List (ℕ × ℤ)) → n < length es → least_after low (keys_of (take (n + 1) es)) ≡ (get_or es n (0, pos 0)).0 + 1
entry_next low n es within =
    let within' : n < length (keys_of es) = omega (arith, within, length_keys es) in
    ap (least_after low) (take_keys (n + 1) es) ∙ next_least low n (keys_of es) within' ∙ ap (λ (k : ℕ). k + 1) (key_of n es within)

-- the bytes of one entry more
pub written : (low n : ℕ) (es : List (ℕ × ℤ)) (g position next : ℕ) (old new : List ℕ) → n < length es → AscendsFrom low (keys_of es) → SpellsFrom low (take n es) (take position old)
    → g ≡ (get_or es n (0, pos 0)).0 - least_after low (keys_of (take n es)) → weight_number (get_or es n (0, pos 0)).1 < 2 ^ 64 → WritesEntry g (get_or es n (0, pos 0)).1 position old next new
    → SpellsFrom low (take (n + 1) es) (take next new)
written low n es g position next old new within ascends spells is fits writes =
    let e = get_or es n (0, pos 0) in
    let small = entry_fits low n es within ascends in
    rw (take_more es n (0, pos 0) within, writes.front)
    (subst (λ v. SpellsFrom low (take n es ++ e ∷ []) (take position old ++ v)) (append-nil writes.bytes)
    (spells-joined low (take n es) e [] (take position old) writes.bytes [] spells small.0 small.1 fits (rw is at writes.spells) (spells_nothing (e.0 + 1))))

-- the room for an entry
pub room_small : (w : ℤ) → entry_room w ≤ 15
room_small w = elim (cases_Bool (is_one w)) [ inl h ↦ rw h (omega arith) | inr h ↦ rw h (omega arith) ]

-- the room for entries, for those of weight 1, and for those from a position on
pub list_room_small : (es : List (ℕ × ℤ)) → list_room es ≤ 15 * length es
list_room_small [] = omega arith
list_room_small (e ∷ es) = omega (arith, room_small e.1, list_room_small es)

ones_room : (keys : List ℕ) → list_room (entries_in keys None) ≡ 5 * length keys
ones_room [] = refl
ones_room (k ∷ ks) = omega (arith, ones_room ks)

pub list_room_ones : (es : List (ℕ × ℤ)) → es ≡ entries_in (keys_of es) None → list_room es ≡ 5 * length es
list_room_ones es is = omega (arith, ap list_room is, ones_room (keys_of es), length_keys es)

pub room_after : (n : ℕ) (es : List (ℕ × ℤ)) → n < length es → list_room (drop n es) ≡ entry_room (get_or es n (0, pos 0)).1 + list_room (drop (n + 1) es)
room_after n es within = ap list_room (drop_more es n (0, pos 0) within)

-- a vector whose elements were written anew
pub written_anew : {A : Type 0} (n : ℕ) (new old : List A) → length new ≡ n → take n (new ++ drop (length new) old) ≡ new
written_anew n new old e = ap (λ (k : ℕ). take k (new ++ drop (length new) old)) (sym e) ∙ take-append_seam new (drop (length new) old)

-- there is room for the entries of an ascending list
pub few_entries : (low : ℕ) (es : List (ℕ × ℤ)) → AscendsFrom low (keys_of es) → length es ≤ 2 ^ 32
few_entries low es ascends =
    omega (arith, length_keys es, ascends_room 0 (keys_of es) (omega arith) (ascends_from 0 low (keys_of es) (omega arith) ascends))

-- two vectors that were, as columns
pub columns_anew : (m n : ℕ) (keys old : List ℕ) (weights old' : List ℤ) → length keys ≡ m → length weights ≡ n
    → zip (take m (keys ++ drop (length keys) old)) (take n (weights ++ drop (length weights) old')) ≡ zip keys weights
columns_anew m n keys old weights old' e e' =
    ap (λ v. zip v (take n (weights ++ drop (length weights) old'))) (written_anew m keys old e)
    ∙ ap (λ v. zip keys v) (written_anew n weights old' e')

-- two columns into which entries were read, and then others after them
pub columns_joined : (p q : ℕ) (keys keys' all : List ℕ) (weights weights' all' : List ℤ) (es fs : List (ℕ × ℤ)) → keys' ≡ keys → weights' ≡ weights → take p (zip keys weights) ≡ es
    → take q (zip all all') ≡ take p (zip keys' weights') ++ fs → length all ≤ q → zip all all' ≡ es ++ fs
columns_joined p q keys keys' all weights weights' all' es fs same same' first second le =
    sym (take_all q (zip all all') (omega (arith, length-zip all all', le)))
    ∙ second
    ∙ ap (λ v. take p (zip v weights') ++ fs) same
    ∙ ap (λ v. take p (zip keys v) ++ fs) same'
    ∙ ap (λ v. v ++ fs) first
