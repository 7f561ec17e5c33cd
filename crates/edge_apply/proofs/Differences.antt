-- The vertices where entries differ, one after the other.
use Rattle.std.proofs.Common.{◌≡◌, ℕ, zero, suc, ◌+◌, ◌<◌, ◌≤◌, ℤ, Bool, true, false, cond, not, List, [], ◌∷◌, ◌++◌, refl, sym, ap, ◌∙◌, subst, arith, append_assoc}
use Rattle.std.proofs.lemmas.List.{append-nil}
use Rattle.std.specs.List.{filter, range_with_len}
use Rattle.kernels.specs.Arithmetic.{int_equal}
use Rattle.vectors.specs.declared.changes.EntryChange.{EntryChange}
use Rattle.edge_fold.specs.Changed.{changed_from}

abbrev pub differs : (old new : ℕ → ℤ) → ℕ → Bool
differs old new v = not (int_equal (old v) (new v))

-- the next vertex where entries differ: from it on, all before it are alike
pub record IsNext (old new : ℕ → ℤ) (v count u : ℕ) (rest : List EntryChange) : Type 0 where
  pub more : ℕ
  pub from : v ≤ u
  pub whole : v + count ≡ u + 1 + more
  pub others : rest ≡ changed_from old new (u + 1) more
  pub members : filter (differs old new) (range_with_len v count) ≡ u ∷ filter (differs old new) (range_with_len (u + 1) more)

abbrev heads : List EntryChange → ℕ → ℕ
heads [] d = d
heads (c ∷ cs) d = c.vertex

abbrev tails : List EntryChange → List EntryChange
tails [] = []
tails (c ∷ cs) = cs

abbrev HasOne : List EntryChange → Type 0
HasOne [] = ⊥
HasOne (c ∷ cs) = Unit {0}

next_at : (old new : ℕ → ℤ) (v n : ℕ) (c : EntryChange) (cs : List EntryChange) (b : Bool) → int_equal (old v) (new v) ≡ b
    → cond b [] (record { vertex = v; number = new v } ∷ []) ++ changed_from old new (v + 1) n ≡ c ∷ cs
    → (changed_from old new (v + 1) n ≡ c ∷ cs → IsNext old new (v + 1) n c.vertex cs)
    → IsNext old new v (suc n) c.vertex cs
next_at old new v n c cs true is e more =
    let later = more e in
    record {
      more = later.more;
      from = (let f = later.from in omega (arith, f));
      whole = (let w = later.whole in omega (arith, w));
      others = later.others;
      members = ap (λ (b : Bool). cond (not b) (v ∷ filter (differs old new) (range_with_len (v + 1) n)) (filter (differs old new) (range_with_len (v + 1) n))) is ∙ later.members;
    }
next_at old new v n c cs false is e more =
    let here : v ≡ c.vertex = ap (λ (ks : List EntryChange). heads ks 0) e in
    let rest : changed_from old new (v + 1) n ≡ cs = ap tails e in
    record {
      more = n;
      from = omega (arith, here);
      whole = omega (arith, here);
      others = sym rest ∙ ap (λ (k : ℕ). changed_from old new (k + 1) n) here;
      members = ap (λ (b : Bool). cond (not b) (v ∷ filter (differs old new) (range_with_len (v + 1) n)) (filter (differs old new) (range_with_len (v + 1) n))) is
          ∙ ap (λ (k : ℕ). k ∷ filter (differs old new) (range_with_len (k + 1) n)) here;
    }

pub next_change : (old new : ℕ → ℤ) (v n : ℕ) (c : EntryChange) (cs : List EntryChange) → changed_from old new v n ≡ c ∷ cs → IsNext old new v n c.vertex cs
unfolding changed_from
next_change old new v zero c cs e = absurd (subst HasOne (sym e) tt)
next_change old new v (suc n) c cs e = next_at old new v n c cs (int_equal (old v) (new v)) refl e (λ h. next_change old new (v + 1) n c cs h)

-- where no change is left, no vertex is
quiet_at : (old new : ℕ → ℤ) (v n : ℕ) (b : Bool) → int_equal (old v) (new v) ≡ b
    → cond b [] (record { vertex = v; number = new v } ∷ []) ++ changed_from old new (v + 1) n ≡ []
    → (changed_from old new (v + 1) n ≡ [] → filter (differs old new) (range_with_len (v + 1) n) ≡ [])
    → cond (not (int_equal (old v) (new v))) (v ∷ filter (differs old new) (range_with_len (v + 1) n)) (filter (differs old new) (range_with_len (v + 1) n)) ≡ []
quiet_at old new v n true is e more =
    ap (λ (b : Bool). cond (not b) (v ∷ filter (differs old new) (range_with_len (v + 1) n)) (filter (differs old new) (range_with_len (v + 1) n))) is ∙ more e
quiet_at old new v n false is e more = absurd (subst HasOne e tt)

pub no_change : (old new : ℕ → ℤ) (v n : ℕ) → changed_from old new v n ≡ [] → filter (differs old new) (range_with_len v n) ≡ []
unfolding changed_from
no_change old new v zero e = refl
no_change old new v (suc n) e = quiet_at old new v n (int_equal (old v) (new v)) refl e (λ h. no_change old new (v + 1) n h)

-- the vertices that are found, and the changes that are left, below n
pub record HasFound (n : ℕ) (old new : ℕ → ℤ) (members : List ℕ) (next : ℕ) (left : List EntryChange) : Type 0 where
  pub count : ℕ
  pub whole : next + count ≡ n
  pub others : left ≡ changed_from old new next count
  pub found : members ++ filter (differs old new) (range_with_len next count) ≡ filter (differs old new) (range_with_len 0 n)

pub found_more : (n : ℕ) (old new : ℕ → ℤ) (members : List ℕ) (next : ℕ) (c : EntryChange) (rest : List EntryChange) → HasFound n old new members next (c ∷ rest)
    → (next ≤ c.vertex) × (c.vertex < n) × HasFound n old new (members ++ c.vertex ∷ []) (c.vertex + 1) rest
found_more n old new members next c rest h =
    let k = next_change old new next h.count c rest (sym h.others) in (
      k.from,
      (let a = k.whole in let b = h.whole in omega (arith, a, b)),
      record {
        count = k.more;
        whole = (let a = k.whole in let b = h.whole in omega (arith, a, b));
        others = k.others;
        found = append_assoc members (c.vertex ∷ []) (filter (differs old new) (range_with_len (c.vertex + 1) k.more)) ∙ ap (λ (ks : List ℕ). members ++ ks) (sym k.members) ∙ h.found;
      },
    )

pub found_all : (n : ℕ) (old new : ℕ → ℤ) (members : List ℕ) (next : ℕ) → HasFound n old new members next [] → members ≡ filter (differs old new) (range_with_len 0 n)
found_all n old new members next h =
    sym (append-nil members) ∙ ap (λ (ks : List ℕ). members ++ ks) (sym (no_change old new next h.count (sym h.others))) ∙ h.found
