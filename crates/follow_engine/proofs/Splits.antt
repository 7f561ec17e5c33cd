-- The changes found at some vertices, and those recorded at all others, are the changes of the whole.
use Rattle.std.proofs.Common.{◌≡◌, ◌⊎◌, inl, inr, ℕ, zero, suc, ◌+◌, ◌<◌, ◌≤◌, ℤ, Bool, true, false, not, cond, nat_lt, List, [], ◌∷◌, ◌++◌, refl, sym, ap, ap₂, ◌∙◌, arith}
use Rattle.std.proofs.lemmas.Bool.Decides.{nat_tests}
use Rattle.std.specs.List.{filter}
use Rattle.kernels.specs.Arithmetic.{int_equal}
use Rattle.vectors.specs.declared.changes.EntryChange.{EntryChange}
use Rattle.edge_fold.specs.Changed.{change_at, changed, changed_from}
use Rattle.edge_fold.proofs.ChangedRows.{equal_itself}
use Rattle.follow_engine.specs.Spliced.{changes_below, changes_from, merged, spliced}

-- at a vertex of the test the new entry was found; at others the entries are as they were, before and after
abbrev pub SplitsAt : (test : ℕ → Bool) → (old new found was became : ℕ → ℤ) → ℕ → Type 0
SplitsAt test old new found was became v =
    ((test v ≡ true) × (found v ≡ new v)) ⊎ ((test v ≡ false) × (found v ≡ old v) × (was v ≡ old v) × (became v ≡ new v))

-- the first change is at no vertex below this one
abbrev BeginsFrom : ℕ → List EntryChange → Type 0
BeginsFrom low [] = Unit {0}
BeginsFrom low (c ∷ cs) = low ≤ c.vertex

begins_later : (low high : ℕ) (cs : List EntryChange) → low ≤ high → BeginsFrom high cs → BeginsFrom low cs
begins_later low high [] le from = tt
begins_later low high (c ∷ cs) le from = omega (arith, le, from)

abbrev kept : (test : ℕ → Bool) → List EntryChange → List EntryChange
kept test cs = filter (λ c. not (test c.vertex)) cs

-- the change at a vertex, if there is one
abbrev one_or_none : Bool → ℕ → ℤ → List EntryChange
one_or_none b v n = cond b [] (record { vertex = v; number = n } ∷ [])

begins_at : (v : ℕ) (n : ℤ) (b : Bool) (cs : List EntryChange) → BeginsFrom (v + 1) cs → BeginsFrom v (one_or_none b v n ++ cs)
begins_at v n true cs from = begins_later v (v + 1) cs (omega arith) from
begins_at v n false cs from = omega arith

begins_row : (old new : ℕ → ℤ) (v n : ℕ) → BeginsFrom v (changed_from old new v n)
unfolding changed_from
begins_row old new v zero = tt
begins_row old new v (suc n) = begins_at v (new v) (int_equal (old v) (new v)) (changed_from old new (v + 1) n) (begins_row old new (v + 1) n)

begins_test : (v : ℕ) (n : ℤ) (t : Bool) (cs : List EntryChange) → BeginsFrom (v + 1) cs → BeginsFrom v (cond (not t) (record { vertex = v; number = n } ∷ cs) cs)
begins_test v n true cs from = begins_later v (v + 1) cs (omega arith) from
begins_test v n false cs from = omega arith

begins_kept_at : (test : ℕ → Bool) (v : ℕ) (n : ℤ) (b : Bool) (cs : List EntryChange) → BeginsFrom (v + 1) (kept test cs) → BeginsFrom v (kept test (one_or_none b v n ++ cs))
begins_kept_at test v n true cs from = begins_later v (v + 1) (kept test cs) (omega arith) from
begins_kept_at test v n false cs from = begins_test v n (test v) (kept test cs) from

begins_kept : (test : ℕ → Bool) (old new : ℕ → ℤ) (v n : ℕ) → BeginsFrom v (kept test (changed_from old new v n))
unfolding changed_from
begins_kept test old new v zero = tt
begins_kept test old new v (suc n) = begins_kept_at test v (new v) (int_equal (old v) (new v)) (changed_from old new (v + 1) n) (begins_kept test old new (v + 1) n)

-- a first change that comes before all of the other list
below_test : (u v : ℕ) → u < v → nat_lt u v ≡ true
below_test u v l = grind (arith, nat_tests)

above_test : (u v : ℕ) → v ≤ u → nat_lt u v ≡ false
above_test u v l = grind (arith, nat_tests)

merged_first : (c : EntryChange) (fs rs : List EntryChange) → BeginsFrom (c.vertex + 1) rs → merged (c ∷ fs) rs ≡ c ∷ merged fs rs
merged_first c fs [] from = refl
merged_first c fs (d ∷ rs) from =
    let test = below_test c.vertex d.vertex (omega (arith, from)) in
    ap₂ (λ (a b : List EntryChange). a ++ d ∷ merged b rs)
    (ap (λ (b : Bool). cond b (c ∷ changes_below d.vertex fs) []) test) (ap (λ (b : Bool). cond b (changes_from d.vertex fs) (c ∷ fs)) test)

-- one of the other list that comes before all
none_below : (v : ℕ) (fs : List EntryChange) → BeginsFrom v fs → changes_below v fs ≡ []
none_below v [] from = refl
none_below v (c ∷ fs) from = ap (λ (b : Bool). cond b (c ∷ changes_below v fs) []) (above_test c.vertex v from)

all_from : (v : ℕ) (fs : List EntryChange) → BeginsFrom v fs → changes_from v fs ≡ fs
all_from v [] from = refl
all_from v (c ∷ fs) from = ap (λ (b : Bool). cond b (changes_from v fs) (c ∷ fs)) (above_test c.vertex v from)

merged_recorded : (c : EntryChange) (fs rs : List EntryChange) → BeginsFrom c.vertex fs → merged fs (c ∷ rs) ≡ c ∷ merged fs rs
merged_recorded c fs rs from =
    ap₂ (λ (a b : List EntryChange). a ++ c ∷ merged b rs) (none_below c.vertex fs from) (all_from c.vertex fs from)

-- the next vertex
split_found : (v : ℕ) (n : ℤ) (b : Bool) (fs rs : List EntryChange) → BeginsFrom (v + 1) rs → merged (one_or_none b v n ++ fs) rs ≡ one_or_none b v n ++ merged fs rs
split_found v n true fs rs from = refl
split_found v n false fs rs from = merged_first (record { vertex = v; number = n }) fs rs from

split_recorded : (test : ℕ → Bool) (v : ℕ) (n : ℤ) (b : Bool) (fs cs : List EntryChange) → test v ≡ false → BeginsFrom v fs
    → merged fs (kept test (one_or_none b v n ++ cs)) ≡ one_or_none b v n ++ merged fs (kept test cs)
split_recorded test v n true fs cs off from = refl
split_recorded test v n false fs cs off from =
    let c : EntryChange = record { vertex = v; number = n } in
    ap (λ (t : Bool). merged fs (cond (not t) (c ∷ kept test cs) (kept test cs))) off ∙ merged_recorded c fs (kept test cs) from

left_out : (test : ℕ → Bool) (v : ℕ) (n : ℤ) (b : Bool) (cs : List EntryChange) → test v ≡ true → kept test (one_or_none b v n ++ cs) ≡ kept test cs
left_out test v n true cs on = refl
left_out test v n false cs on = ap (λ (t : Bool). cond (not t) (record { vertex = v; number = n } ∷ kept test cs) (kept test cs)) on

change_same : (old new a b : ℕ → ℤ) (v : ℕ) → a v ≡ old v → b v ≡ new v → change_at a b v ≡ change_at old new v
change_same old new a b v first second =
    ap₂ (λ (x y : ℤ). cond (int_equal x y) [] (record { vertex = v; number = y } ∷ [])) first second

no_change : (old new : ℕ → ℤ) (v : ℕ) → new v ≡ old v → change_at old new v ≡ []
no_change old new v is = ap (λ (b : Bool). one_or_none b v (new v)) (ap (int_equal (old v)) is ∙ equal_itself (old v))

split_at : (test : ℕ → Bool) (old new found was became : ℕ → ℤ) (v : ℕ) (fs cs all : List EntryChange) → SplitsAt test old new found was became v → BeginsFrom (v + 1) fs
    → BeginsFrom (v + 1) (kept test cs)
    → merged fs (kept test cs) ≡ all → merged (change_at old found v ++ fs) (kept test (change_at was became v ++ cs)) ≡ change_at old new v ++ all
split_at test old new found was became v fs cs all (inl (on, is)) first second more =
    ap (merged (change_at old found v ++ fs)) (left_out test v (became v) (int_equal (was v) (became v)) cs on)
    ∙ split_found v (found v) (int_equal (old v) (found v)) fs (kept test cs) second
    ∙ ap₂ (λ (a b : List EntryChange). a ++ b) (change_same old new old found v refl is) more
split_at test old new found was became v fs cs all (inr (off, is, before, after)) first second more =
    ap (λ (a : List EntryChange). merged (a ++ fs) (kept test (change_at was became v ++ cs))) (no_change old found v is)
    ∙ split_recorded test v (became v) (int_equal (was v) (became v)) fs cs off (begins_later v (v + 1) fs (omega arith) first)
    ∙ ap₂ (λ (a b : List EntryChange). a ++ b) (change_same old new was became v before after) more

split_from : (test : ℕ → Bool) (old new found was became : ℕ → ℤ) (v n : ℕ) → ((u : ℕ) → v ≤ u → u < v + n → SplitsAt test old new found was became u)
    → merged (changed_from old found v n) (kept test (changed_from was became v n)) ≡ changed_from old new v n
unfolding changed_from
split_from test old new found was became v zero at = refl
split_from test old new found was became v (suc n) at =
    split_at test old new found was became v (changed_from old found (v + 1) n) (changed_from was became (v + 1) n) (changed_from old new (v + 1) n)
    (at v (omega arith) (omega arith)) (begins_row old found (v + 1) n) (begins_kept test was became (v + 1) n)
    (split_from test old new found was became (v + 1) n (λ u from to. at u (omega (arith, from)) (omega (arith, to))))

-- what was found is at vertices of the test
marked_one : (test : ℕ → Bool) (v : ℕ) (n : ℤ) (b : Bool) (cs all : List EntryChange) → test v ≡ true → filter (λ c. test c.vertex) cs ≡ all
    → filter (λ c. test c.vertex) (one_or_none b v n ++ cs) ≡ one_or_none b v n ++ all
marked_one test v n true cs all on more = more
marked_one test v n false cs all on more =
    let c : EntryChange = record { vertex = v; number = n } in
    ap (λ (t : Bool). cond t (c ∷ filter (λ d. test d.vertex) cs) (filter (λ d. test d.vertex) cs)) on ∙ ap (λ (ds : List EntryChange). c ∷ ds) more

marked_at : (test : ℕ → Bool) (old new found was became : ℕ → ℤ) (v : ℕ) (cs all : List EntryChange) → SplitsAt test old new found was became v
    → filter (λ c. test c.vertex) cs ≡ all → filter (λ c. test c.vertex) (change_at old found v ++ cs) ≡ change_at old found v ++ all
marked_at test old new found was became v cs all (inl (on, is)) more = marked_one test v (found v) (int_equal (old v) (found v)) cs all on more
marked_at test old new found was became v cs all (inr (off, is, before, after)) more =
    let none = no_change old found v is in
    ap (λ (a : List EntryChange). filter (λ c. test c.vertex) (a ++ cs)) none ∙ more ∙ ap (λ (a : List EntryChange). a ++ all) (sym none)

marked_from : (test : ℕ → Bool) (old new found was became : ℕ → ℤ) (v n : ℕ) → ((u : ℕ) → v ≤ u → u < v + n → SplitsAt test old new found was became u)
    → filter (λ c. test c.vertex) (changed_from old found v n) ≡ changed_from old found v n
unfolding changed_from
marked_from test old new found was became v zero at = refl
marked_from test old new found was became v (suc n) at =
    marked_at test old new found was became v (changed_from old found (v + 1) n) (changed_from old found (v + 1) n) (at v (omega arith) (omega arith))
    (marked_from test old new found was became (v + 1) n (λ u from to. at u (omega (arith, from)) (omega (arith, to))))

-- the changes of the whole
pub split : (test : ℕ → Bool) (old new found was became : ℕ → ℤ) (n : ℕ) (fs rs : List EntryChange) → fs ≡ changed n old found → rs ≡ changed n was became
    → ((u : ℕ) → u < n → SplitsAt test old new found was became u) → spliced test fs rs ≡ changed n old new
split test old new found was became n fs rs first second at =
    ap₂ (λ (a b : List EntryChange). spliced test a b) first second
    ∙ ap (λ (a : List EntryChange). merged a (kept test (changed n was became))) (marked_from test old new found was became 0 n (λ u from to. at u (omega (arith, to))))
    ∙ split_from test old new found was became 0 n (λ u from to. at u (omega (arith, to)))
