-- What a reader of a chain reads, from what the reader of its items reads.
use Rattle.std.proofs.Common.{◌≡◌, refl, ◌∙◌, ap, ℕ, zero, suc, ◌<◌, ◌≤◌, arith, length, List, [], ◌∷◌, Option, Some, None}
use Rattle.syntax.specs.Terminals.{Terminal}
use Rattle.syntax.specs.Nesting.{◌>>=◌}
use Rattle.syntax.specs.ExpressionReading.{Reader, links_by, linked, chain_by}

-- what a reader answers is so
abbrev pub At : {A : Type 0} → (List Terminal → A → List Terminal → Type 0) → List Terminal → Option (A × List Terminal) → Type 0
At Is ws None = Unit {0}
At Is ws (Some x) = Is ws x.0 x.1

abbrev pub Sound : {A : Type 0} → (List Terminal → A → List Terminal → Type 0) → Reader A → Type 0
Sound Is read = (ws : List Terminal) → At Is ws (read ws)

-- what is so, a reader answers
abbrev pub Complete : {A : Type 0} → (List Terminal → A → List Terminal → Type 0) → Reader A → Type 0
Complete {A = A} Is read = (ws : List Terminal) (x : A) (rest : List Terminal) → Is ws x rest → ◌≡◌ {A = Option (A × List Terminal)} (read ws) (Some (x, rest))

module _ {A C : Type 0} (Is : List Terminal → A → List Terminal → Type 0) (Js : List Terminal → C → List Terminal → Type 0) (ws ws' : List Terminal)
    (f : A × List Terminal → Option (C × List Terminal)) where
  pub then_at : (o : Option (A × List Terminal)) → At Is ws o → ((x : A × List Terminal) → Is ws x.0 x.1 → At Js ws' (f x)) → At Js ws' (o >>= f)
  then_at None is then = tt
  then_at (Some x) is then = then x is

module _ {A L C : Type 0} (Is : List Terminal → A → List Terminal → Type 0) (Js : List Terminal → C → List Terminal → Type 0)
    (item : Reader A) (link : List Terminal → Option (Option (L × List Terminal))) (make : A → List L → C) where
  -- what a link adds
  pub record Adds (ws₀ : List Terminal) (a : A) (x : L) (rest : List Terminal) : Type 0 where
    pub operand : A
    pub terminals : List Terminal
    pub is : Is terminals operand rest
    pub lift : (xs : List L) (end : List Terminal) → Js terminals (make operand xs) end → Js ws₀ (make a (x ∷ xs)) end

  abbrev pub Lasts : Type 0
  Lasts = (ws₀ : List Terminal) (a : A) (ws : List Terminal) → Is ws₀ a ws → link ws ≡ None → Js ws₀ (make a []) ws

  abbrev pub Steps : Type 0
  Steps = (ws₀ : List Terminal) (a : A) (ws : List Terminal) (x : L) (rest : List Terminal) → Is ws₀ a ws
      → ◌≡◌ {A = Option (Option (L × List Terminal))} (link ws) (Some (Some (x, rest))) → Adds ws₀ a x rest

  abbrev with_first : A → Option (List L × List Terminal) → Option (C × List Terminal)
  with_first a read = read >>= λ y. Some (make a y.0, y.1)

  lifted : (ws₀ : List Terminal) (a : A) (x : L) (rest : List Terminal) (adds : Adds ws₀ a x rest) (o : Option (List L × List Terminal))
      → At Js adds.terminals (with_first adds.operand o) → At Js ws₀ (with_first a (o >>= λ y. Some (x ∷ y.0, y.1)))
  lifted ws₀ a x rest adds None is = tt
  lifted ws₀ a x rest adds (Some y) is = adds.lift y.0 y.1 is

  module _ (lasts : Lasts) (steps : Steps) where
    links_at : (n : ℕ) (ws₀ : List Terminal) (a : A) (ws : List Terminal) → Is ws₀ a ws → At Js ws₀ (with_first a (links_by link n ws))
    links_at zero ws₀ a ws is = tt
    links_at (suc n) ws₀ a ws is = go (link ws) refl (links_at n)
      where
        go : (l : Option (Option (L × List Terminal))) → link ws ≡ l
            → ((ws₁ : List Terminal) (b : A) (ws₂ : List Terminal) → Is ws₁ b ws₂ → At Js ws₁ (with_first b (links_by link n ws₂)))
            → At Js ws₀ (with_first a (linked link (links_by link n) ws l))
        go None e again = lasts ws₀ a ws is e
        go (Some None) e again = tt
        go (Some (Some x)) e again =
            let adds = steps ws₀ a ws x.0 x.1 is e in
            lifted ws₀ a x.0 x.1 adds (links_by link n x.1) (again adds.terminals adds.operand x.1 adds.is)

    pub chain_sound : Sound Is item → Sound Js (chain_by item link make)
    chain_sound sound ws =
        then_at Is Js ws ws (λ x. with_first x.0 (links_by link (suc (length x.1)) x.1)) (item ws) (sound ws)
        (λ x is. links_at (suc (length x.1)) ws x.0 x.1 is)

  -- the items and links of a chain, as they are read
  pub record Parts (ws : List Terminal) (c : C) (rest : List Terminal) : Type 0 where
    pub first : A
    pub more : List L
    pub mid : List Terminal
    pub same : make first more ≡ c
    pub begins : ◌≡◌ {A = Option (A × List Terminal)} (item ws) (Some (first, mid))
    pub shorter : length mid ≤ length ws
    pub links : (n : ℕ) → length mid < n → ◌≡◌ {A = Option (List L × List Terminal)} (links_by link n mid) (Some (more, rest))

  last_links : (rest : List Terminal) → link rest ≡ None → (n : ℕ) → length rest < n
      → ◌≡◌ {A = Option (List L × List Terminal)} (links_by link n rest) (Some ([], rest))
  last_links rest none zero enough = absurd (omega arith)
  last_links rest none (suc n) enough = ap (linked link (links_by link n) rest) none

  pub last_part : (ws : List Terminal) (a : A) (rest : List Terminal) → ◌≡◌ {A = Option (A × List Terminal)} (item ws) (Some (a, rest)) → length rest ≤ length ws → link rest ≡ None
      → Parts ws (make a []) rest
  last_part ws a rest begins shorter none =
      record { first = a; more = []; mid = rest; same = refl; begins = begins; shorter = shorter; links = last_links rest none }

  more_links : (mid : List Terminal) (x : L) (mid' : List Terminal) (xs : List L) (rest : List Terminal)
      → ◌≡◌ {A = Option (Option (L × List Terminal))} (link mid) (Some (Some (x, mid'))) → length mid' < length mid
      → ((n : ℕ) → length mid' < n → ◌≡◌ {A = Option (List L × List Terminal)} (links_by link n mid') (Some (xs, rest)))
      → (n : ℕ) → length mid < n → ◌≡◌ {A = Option (List L × List Terminal)} (links_by link n mid) (Some (x ∷ xs, rest))
  more_links mid x mid' xs rest linked_so less links zero enough = absurd (omega arith)
  more_links mid x mid' xs rest linked_so less links (suc n) enough =
      ap (linked link (links_by link n) mid) linked_so
      ∙ ap (λ r. r >>= λ y. Some (x ∷ y.0, y.1)) (links n (omega arith))

  pub more_parts : (ws : List Terminal) (a : A) (mid ws' : List Terminal) (c : C) (rest : List Terminal) (wrap : A → L) (onto : C → C)
      → ◌≡◌ {A = Option (A × List Terminal)} (item ws) (Some (a, mid)) → length mid ≤ length ws → length ws' < length mid
      → ((b : A) (r : List Terminal) → ◌≡◌ {A = Option (A × List Terminal)} (item ws') (Some (b, r)) → ◌≡◌ {A = Option (Option (L × List Terminal))} (link mid) (Some (Some (wrap b, r))))
      → ((b : A) (xs : List L) → make a (wrap b ∷ xs) ≡ onto (make b xs))
      → Parts ws' c rest → Parts ws (onto c) rest
  more_parts ws a mid ws' c rest wrap onto begins shorter less follows makes parts = record {
    first = a;
    more = wrap parts.first ∷ parts.more;
    mid = mid;
    same = makes parts.first parts.more ∙ ap onto parts.same;
    begins = begins;
    shorter = shorter;
    links = more_links mid (wrap parts.first) parts.mid parts.more rest (follows parts.first parts.mid parts.begins)
        (let h : length parts.mid ≤ length ws' = parts.shorter in omega arith) parts.links;
  }

  pub parts_read : (ws : List Terminal) (c : C) (rest : List Terminal) → Parts ws c rest → ◌≡◌ {A = Option (C × List Terminal)} (chain_by item link make ws) (Some (c, rest))
  parts_read ws c rest parts =
      let f : C → Option (C × List Terminal) = λ d. Some (d, rest) in
      ap (λ r. r >>= λ x. links_by link (suc (length x.1)) x.1 >>= λ y. Some (make x.0 y.0, y.1)) parts.begins
      ∙ ap (λ r. r >>= λ y. Some (make parts.first y.0, y.1)) (parts.links (suc (length parts.mid)) (omega arith))
      ∙ ap f parts.same
