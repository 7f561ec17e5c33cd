-- At a vertex that the test does not hold at the changes are those of the record.
use Rattle.std.proofs.Common.{◌≡◌, ℕ, ◌==◌, Bool, true, false, not, cond, nat_lt, List, [], ◌∷◌, ◌++◌, refl, sym, ap, ◌∙◌}
use Rattle.std.proofs.lemmas.Bool.{false≢true}
use Rattle.std.specs.List.{filter}
use Rattle.vectors.specs.declared.changes.EntryChange.{EntryChange}
use Rattle.follow_engine.specs.Spliced.{changes_at, changes_below, changes_from, merged, spliced}
use Rattle.follow_engine.proofs.Columns.{same}

-- no change is at the vertex
abbrev NoneAt : ℕ → List EntryChange → Type 0
NoneAt v [] = Unit {0}
NoneAt v (c ∷ cs) = ((c.vertex == v) ≡ false) × NoneAt v cs

-- the changes at a vertex, after a first change
with_first : (v : ℕ) (c : EntryChange) (cs ds : List EntryChange) → changes_at v cs ≡ changes_at v ds → changes_at v (c ∷ cs) ≡ changes_at v (c ∷ ds)
with_first v c cs ds more = ap (λ (es : List EntryChange). cond (c.vertex == v) (c ∷ es) es) more

without_first : (v : ℕ) (c : EntryChange) (cs : List EntryChange) → (c.vertex == v) ≡ false → changes_at v (c ∷ cs) ≡ changes_at v cs
without_first v c cs off = ap (λ (b : Bool). cond b (c ∷ changes_at v cs) (changes_at v cs)) off

after_none : (v : ℕ) (cs ds : List EntryChange) → NoneAt v cs → changes_at v (cs ++ ds) ≡ changes_at v ds
after_none v [] ds none = refl
after_none v (c ∷ cs) ds none = without_first v c (cs ++ ds) none.0 ∙ after_none v cs ds none.1

nothing_at : (v : ℕ) (cs : List EntryChange) → NoneAt v cs → changes_at v cs ≡ []
nothing_at v [] none = refl
nothing_at v (c ∷ cs) none = without_first v c cs none.0 ∙ nothing_at v cs none.1

-- so it is with the changes in front, and with those after them
none_in_front : (v : ℕ) (c : EntryChange) (cs : List EntryChange) (b : Bool) → (c.vertex == v) ≡ false → NoneAt v cs → NoneAt v (cond b (c ∷ cs) [])
none_in_front v c cs true off none = (off, none)
none_in_front v c cs false off none = tt

none_below : (v k : ℕ) (cs : List EntryChange) → NoneAt v cs → NoneAt v (changes_below k cs)
none_below v k [] none = tt
none_below v k (c ∷ cs) none = none_in_front v c (changes_below k cs) (nat_lt c.vertex k) none.0 (none_below v k cs none.1)

none_after : (v : ℕ) (c : EntryChange) (cs ds : List EntryChange) (b : Bool) → NoneAt v (c ∷ cs) → NoneAt v ds → NoneAt v (cond b ds (c ∷ cs))
none_after v c cs ds true none others = others
none_after v c cs ds false none others = none

none_from : (v k : ℕ) (cs : List EntryChange) → NoneAt v cs → NoneAt v (changes_from k cs)
none_from v k [] none = tt
none_from v k (c ∷ cs) none = none_after v c cs (changes_from k cs) (nat_lt c.vertex k) none (none_from v k cs none.1)

of_recorded : (v : ℕ) (fs cs : List EntryChange) → NoneAt v fs → changes_at v (merged fs cs) ≡ changes_at v cs
of_recorded v fs [] none = nothing_at v fs none
of_recorded v fs (c ∷ cs) none =
    let rest = merged (changes_from c.vertex fs) cs in
    after_none v (changes_below c.vertex fs) (c ∷ rest) (none_below v c.vertex fs none)
    ∙ with_first v c rest cs (of_recorded v (changes_from c.vertex fs) cs (none_from v c.vertex fs none))

-- a vertex of the test is another one
is_another : (test : ℕ → Bool) (u v : ℕ) (b : Bool) → (u == v) ≡ b → test u ≡ true → test v ≡ false → b ≡ false
is_another test u v true is on off = absurd (false≢true (sym off ∙ ap test (sym (same u v is)) ∙ on))
is_another test u v false is on off = refl

none_if_marked : (test : ℕ → Bool) (v : ℕ) (c : EntryChange) (cs : List EntryChange) (b : Bool) → test c.vertex ≡ b → test v ≡ false → NoneAt v cs
    → NoneAt v (cond b (c ∷ cs) cs)
none_if_marked test v c cs true on off none = (is_another test c.vertex v (c.vertex == v) refl on off, none)
none_if_marked test v c cs false on off none = none

none_marked : (test : ℕ → Bool) (v : ℕ) (cs : List EntryChange) → test v ≡ false → NoneAt v (filter (λ c. test c.vertex) cs)
none_marked test v [] off = tt
none_marked test v (c ∷ cs) off = none_if_marked test v c (filter (λ d. test d.vertex) cs) (test c.vertex) refl off (none_marked test v cs off)

kept_if : (test : ℕ → Bool) (v : ℕ) (c : EntryChange) (ks cs : List EntryChange) (b : Bool) → test c.vertex ≡ b → test v ≡ false → changes_at v ks ≡ changes_at v cs
    → changes_at v (cond (not b) (c ∷ ks) ks) ≡ changes_at v (c ∷ cs)
kept_if test v c ks cs true on off more = more ∙ sym (without_first v c cs (is_another test c.vertex v (c.vertex == v) refl on off))
kept_if test v c ks cs false on off more = with_first v c ks cs more

kept_at : (test : ℕ → Bool) (v : ℕ) (cs : List EntryChange) → test v ≡ false → changes_at v (filter (λ c. not (test c.vertex)) cs) ≡ changes_at v cs
kept_at test v [] off = refl
kept_at test v (c ∷ cs) off = kept_if test v c (filter (λ d. not (test d.vertex)) cs) cs (test c.vertex) refl off (kept_at test v cs off)

pub kept_changes : (test : ℕ → Bool) (v : ℕ) (fs cs : List EntryChange) → test v ≡ false → changes_at v (spliced test fs cs) ≡ changes_at v cs
kept_changes test v fs cs off =
    of_recorded v (filter (λ c. test c.vertex) fs) (filter (λ c. not (test c.vertex)) cs) (none_marked test v fs off) ∙ kept_at test v cs off
