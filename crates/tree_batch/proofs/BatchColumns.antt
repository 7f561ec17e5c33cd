-- What columns of numbers, kinds and weights say as lists of entries.
use Rattle.std.proofs.Common.{◌≡◌, ℕ, zero, suc, ◌+◌, ◌<◌, ℤ, pos, List, [], ◌∷◌, ◌++◌, length, get_or, take, Bool, false, Result, Ok, Err, OnErr, refl, sym, ap, ◌∙◌, arith}
use Rattle.std.proofs.lemmas.List.{take_more}
use Rattle.std.proofs.lemmas.List.Folds.{list_any-append}
use Rattle.std.specs.List.{list_any}
use Rattle.tree_batch.specs.declared.batch.Entry.{Entry}
use Rattle.tree_batch.specs.declared.batch.Entry.TheVariants.{Add, Remove, Grow}
use Rattle.tree_batch.specs.declared.batch_columns.EntryKind.{EntryKind}
use Rattle.tree_batch.specs.declared.batch_columns.EntryKind.TheVariants.{Adds}
use Rattle.tree_batch.specs.declared.batch_columns.EntryNumbers.{EntryNumbers}
use Rattle.tree_batch.specs.inside.BatchColumns.{entries_from, entry_of, kind_of, numbers_of, weight_of}

-- how many there are
pub columns_length : (i : ℕ) (ns : List EntryNumbers) (ks : List EntryKind) (ws : List ℤ) → length (entries_from i ns ks ws) ≡ length ns
columns_length i [] ks ws = refl
columns_length i (n ∷ ns) ks ws = ap suc (columns_length (suc i) ns ks ws)

-- the entry of what it is made of
pub entry_again : (x : Entry) → entry_of (kind_of x) (numbers_of x) (weight_of x) ≡ x
entry_again (Add u v w) = refl
entry_again (Remove u v) = refl
entry_again (Grow n) = refl

-- the entry at an index
pub column_at : (i : ℕ) (ns : List EntryNumbers) (ks : List EntryKind) (ws : List ℤ) (j : ℕ) (d : Entry) (e : EntryNumbers) → j < length ns
    → get_or (entries_from i ns ks ws) j d ≡ entry_of (get_or ks (i + j) Adds) (get_or ns j e) (get_or ws (i + j) (pos 1))
column_at i [] ks ws j d e lt = absurd (omega arith)
column_at i (n ∷ ns) ks ws zero d e lt =
    let same : i ≡ i + zero = omega arith in
    ap (λ k. entry_of (get_or ks k Adds) n (get_or ws k (pos 1))) same
column_at i (n ∷ ns) ks ws (suc j) d e lt =
    let same : suc i + j ≡ i + suc j = omega arith in
    column_at (suc i) ns ks ws j d e (omega arith) ∙ ap (λ k. entry_of (get_or ks k Adds) (get_or ns j e) (get_or ws k (pos 1))) same

-- columns that are the same before the end give the same entries
pub same_columns : (i : ℕ) (ns : List EntryNumbers) (ks ms : List EntryKind) (ws vs : List ℤ)
    → ((j : ℕ) → j < i + length ns → get_or ms j Adds ≡ get_or ks j Adds) → ((j : ℕ) → j < i + length ns → get_or vs j (pos 1) ≡ get_or ws j (pos 1))
    → entries_from i ns ms vs ≡ entries_from i ns ks ws
same_columns i [] ks ms ws vs kinds weights = refl
same_columns i (n ∷ ns) ks ms ws vs kinds weights =
    ap (λ k. entry_of k n (get_or vs i (pos 1)) ∷ entries_from (suc i) ns ms vs) (kinds i (omega arith))
    ∙ ap (λ w. entry_of (get_or ks i Adds) n w ∷ entries_from (suc i) ns ms vs) (weights i (omega arith))
    ∙ ap (λ xs. entry_of (get_or ks i Adds) n (get_or ws i (pos 1)) ∷ xs)
    (same_columns (suc i) ns ks ms ws vs (λ j lt. kinds j (omega (arith, lt))) (λ j lt. weights j (omega (arith, lt))))

-- one more row of numbers
columns_longer : (i : ℕ) (ns : List EntryNumbers) (n : EntryNumbers) (ks : List EntryKind) (ws : List ℤ)
    → entries_from i (ns ++ n ∷ []) ks ws ≡ entries_from i ns ks ws ++ entry_of (get_or ks (i + length ns) Adds) n (get_or ws (i + length ns) (pos 1)) ∷ []
columns_longer i [] n ks ws =
    let same : i ≡ i + zero = omega arith in
    ap (λ k. entry_of (get_or ks k Adds) n (get_or ws k (pos 1)) ∷ []) same
columns_longer i (m ∷ ns) n ks ws =
    let same : suc i + length ns ≡ i + suc (length ns) = omega arith in
    ap (λ xs. entry_of (get_or ks i Adds) m (get_or ws i (pos 1)) ∷ xs) (columns_longer (suc i) ns n ks ws
    ∙ ap (λ k. entries_from (suc i) ns ks ws ++ entry_of (get_or ks k Adds) n (get_or ws k (pos 1)) ∷ []) same)

-- one more entry
pub columns_pushed : (n : ℕ) (ns new : List EntryNumbers) (ks ms : List EntryKind) (ws vs : List ℤ) (x : Entry) → n ≡ length ns → new ≡ ns ++ numbers_of x ∷ []
    → ((j : ℕ) → j < n → get_or ms j Adds ≡ get_or ks j Adds) → get_or ms n Adds ≡ kind_of x
    → ((j : ℕ) → j < n → get_or vs j (pos 1) ≡ get_or ws j (pos 1)) → get_or vs n (pos 1) ≡ weight_of x
    → entries_from 0 new ms vs ≡ entries_from 0 ns ks ws ++ x ∷ []
columns_pushed n ns new ks ms ws vs x end is kinds kind weights weight =
    let last : 0 + length ns ≡ length ns = omega arith in
    ap (λ zs. entries_from 0 zs ms vs) is ∙ columns_longer 0 ns (numbers_of x) ms vs
    ∙ ap (λ k. entries_from 0 ns ms vs ++ entry_of (get_or ms k Adds) (numbers_of x) (get_or vs k (pos 1)) ∷ []) last
    ∙ ap (λ xs. xs ++ entry_of (get_or ms (length ns) Adds) (numbers_of x) (get_or vs (length ns) (pos 1)) ∷ [])
    (same_columns 0 ns ks ms ws vs (λ j lt. kinds j (omega (arith, lt, end))) (λ j lt. weights j (omega (arith, lt, end))))
    ∙ ap (λ k. entries_from 0 ns ks ws ++ entry_of k (numbers_of x) (get_or vs (length ns) (pos 1)) ∷ []) (ap (λ k. get_or ms k Adds) (sym end) ∙ kind)
    ∙ ap (λ w. entries_from 0 ns ks ws ++ entry_of (kind_of x) (numbers_of x) w ∷ []) (ap (λ k. get_or vs k (pos 1)) (sym end) ∙ weight)
    ∙ ap (λ y. entries_from 0 ns ks ws ++ y ∷ []) (entry_again x)

-- without one more row of numbers the entries are as they were
pub columns_kept : (n : ℕ) (ns : List EntryNumbers) (ks ms : List EntryKind) (ws vs : List ℤ) (xs : List Entry) → n ≡ length ns
    → ((j : ℕ) → j < n → get_or ms j Adds ≡ get_or ks j Adds) → ((j : ℕ) → j < n → get_or vs j (pos 1) ≡ get_or ws j (pos 1))
    → entries_from 0 ns ks ws ≡ xs → entries_from 0 ns ms vs ≡ xs
columns_kept n ns ks ms ws vs xs end kinds weights is =
    same_columns 0 ns ks ms ws vs (λ j lt. kinds j (omega (arith, lt, end))) (λ j lt. weights j (omega (arith, lt, end))) ∙ is

-- the entry at an index of columns that are this list
pub entry_is : (ns : List EntryNumbers) (ks : List EntryKind) (ws : List ℤ) (xs : List Entry) (i : ℕ) (d : Entry) (k : EntryKind) (e : EntryNumbers) (w : ℤ)
    → entries_from 0 ns ks ws ≡ xs → i < length ns → k ≡ get_or ks i Adds → e ≡ get_or ns i e → w ≡ get_or ws i (pos 1) → entry_of k e w ≡ get_or xs i d
entry_is ns ks ws xs i d k e w is lt kind numbers weight =
    let same : i ≡ 0 + i = omega arith in
    ap (λ v. entry_of k e v) weight
    ∙ ap (λ m. entry_of m e (get_or ws i (pos 1))) kind
    ∙ ap (λ q. entry_of (get_or ks i Adds) q (get_or ws i (pos 1))) numbers
    ∙ ap (λ j. entry_of (get_or ks j Adds) (get_or ns i e) (get_or ws j (pos 1))) same
    ∙ sym (column_at 0 ns ks ws i d e lt) ∙ ap (λ zs. get_or zs i d) is

pub on_err : {T E P : Type 0} (r : Result T E) → P → OnErr r P
on_err (Ok x) p = tt
on_err (Err e) p = p

-- one more entry that does not pass a test
pub none_more : (p : Entry → Bool) (xs : List Entry) (i : ℕ) (d : Entry) → i < length xs → list_any p (take i xs) ≡ false → p (get_or xs i d) ≡ false
    → list_any p (take (i + 1) xs) ≡ false
none_more p xs i d lt none fails = rw (take_more xs i d lt, list_any-append p (take i xs) (get_or xs i d ∷ []), none, fails) refl
