-- A loop over the links of a chain, and one over signs.
use Rattle.std.proofs.Common.{◌≡◌, refl, sym, ◌∙◌, ap, subst, map, ℕ, zero, suc, ◌<◌, ◌≤◌, arith, length, List, [], ◌∷◌, ◌++◌, Option, Some, None}
use Rattle.std.proofs.lemmas.List.{append_assoc, append-nil, map-append}
use Rattle.syntax.specs.declared.operators.Prefix.{Prefix}
use Rattle.syntax.specs.Terminals.{Terminal}
use Rattle.syntax.specs.SourceTrees.{UnaryTree, PrimaryTree, Bare, Signed}
use Rattle.syntax.specs.ExpressionViews.{signed_operand}
use Rattle.syntax.specs.Nesting.{◌>>=◌}
use Rattle.syntax.specs.ExpressionReading.{Reader, links_by, linked, chain_by, operand_by, after_by, signs_by, signed_by, prefix}

module _ {L : Type 0} where
  -- what was read before, and then what was read after
  abbrev pub with_links : List L → Option (List L × List Terminal) → Option (List L × List Terminal)
  with_links front read = read >>= λ y. Some (front ++ y.0, y.1)

  with_none : (read : Option (List L × List Terminal)) → with_links [] read ≡ read
  with_none None = refl
  with_none (Some y) = refl

  with_more : (front : List L) (x : L) (read : Option (List L × List Terminal))
      → with_links front (read >>= λ y. Some (x ∷ y.0, y.1)) ≡ with_links (front ++ x ∷ []) read
  with_more front x None = refl
  with_more front x (Some y) =
      let f : List L → Option (List L × List Terminal) = λ zs. Some (zs, y.1) in
      ap f (sym (append_assoc front (x ∷ []) y.0))

  -- the links in front were read from the start on, and left is after them
  pub record Goes (link : List Terminal → Option (Option (L × List Terminal))) (start : List Terminal) (front : List L) (left : List Terminal) : Type 0 where
    pub fuel : ℕ
    pub enough : length left < fuel
    pub shorter : length left ≤ length start
    pub same : with_links front (links_by link fuel left) ≡ links_by link (suc (length start)) start

  end_at : (link : List Terminal → Option (Option (L × List Terminal))) (front : List L) (left : List Terminal) → link left ≡ None → (fuel : ℕ) → length left < fuel
      → with_links front (links_by link fuel left) ≡ Some (front, left)
  end_at link front left is zero enough = absurd (omega arith)
  end_at link front left is (suc fuel) enough =
      let f : List L → Option (List L × List Terminal) = λ xs. Some (xs, left) in
      ap (λ r. with_links front (linked link (links_by link fuel) left r)) is ∙ ap f (append-nil front)

  fails_at : (link : List Terminal → Option (Option (L × List Terminal))) (front : List L) (left : List Terminal) → link left ≡ Some None → (fuel : ℕ) → length left < fuel
      → with_links front (links_by link fuel left) ≡ None
  fails_at link front left is zero enough = absurd (omega arith)
  fails_at link front left is (suc fuel) enough = ap (λ r. with_links front (linked link (links_by link fuel) left r)) is

  module _ {link : List Terminal → Option (Option (L × List Terminal))} where
    pub goes_start : (start : List Terminal) → Goes link start [] start
    goes_start start = record { fuel = suc (length start); enough = omega arith; shorter = omega arith; same = with_none (links_by link (suc (length start)) start) }

    step_at : (start : List Terminal) (front : List L) (left : List Terminal) (x : L) (rest : List Terminal)
        → link left ≡ Some (Some (x, rest)) → length rest < length left → length left ≤ length start
        → (fuel : ℕ) → length left < fuel
        → with_links front (links_by link fuel left) ≡ links_by link (suc (length start)) start
        → Goes link start (front ++ x ∷ []) rest
    step_at start front left x rest is less shorter zero enough same = absurd (omega arith)
    step_at start front left x rest is less shorter (suc fuel) enough same = record {
      fuel = fuel;
      enough = omega arith;
      shorter = omega arith;
      same = sym (with_more front x (links_by link fuel rest)) ∙ sym (ap (λ r. with_links front (linked link (links_by link fuel) left r)) is) ∙ same;
    }

    pub goes_step : {start : List Terminal} {front : List L} {left : List Terminal} (x : L) (rest : List Terminal)
        → Goes link start front left → link left ≡ Some (Some (x, rest)) → length rest < length left
        → Goes link start (front ++ x ∷ []) rest
    goes_step {start = start} {front = front} {left = left} x rest goes is less =
        step_at start front left x rest is less goes.shorter goes.fuel goes.enough goes.same

    pub goes_end : {start : List Terminal} {front : List L} {left : List Terminal} → Goes link start front left → link left ≡ None
        → links_by link (suc (length start)) start ≡ Some (front, left)
    goes_end {start = start} {front = front} {left = left} goes is = sym goes.same ∙ end_at link front left is goes.fuel goes.enough

    pub goes_fails : {start : List Terminal} {front : List L} {left : List Terminal} → Goes link start front left → link left ≡ Some None
        → links_by link (suc (length start)) start ≡ None
    goes_fails {start = start} {front = front} {left = left} goes is = sym goes.same ∙ fails_at link front left is goes.fuel goes.enough

-- The item was read from the first terminals on, and the links in front after it; left is after them.
pub record Chain {A L : Type 0} (item : Reader A) (link : List Terminal → Option (Option (L × List Terminal))) (ws : List Terminal) (first : A) (front : List L) (left : List Terminal) : Type 0 where
  pub start : List Terminal
  pub begins : item ws ≡ Some (first, start)
  pub goes : Goes link start front left
  pub shorter : length left ≤ length ws

pub chain_start : {A L T : Type 0} {item : Reader A} {link : List Terminal → Option (Option (L × List Terminal))} {ws : List Terminal} {first : A}
    (view : T → L) (none : List T) (start : List Terminal)
    → none ≡ [] → item ws ≡ Some (first, start) → length start ≤ length ws → Chain item link ws first (map view none) start
chain_start {link = link} view none start empty begins shorter = record {
  start = start;
  begins = begins;
  goes = subst (λ xs. Goes link start xs start) (sym (ap (map view) empty)) (goes_start start);
  shorter = shorter;
}

pub chain_step : {A L T : Type 0} {item : Reader A} {link : List Terminal → Option (Option (L × List Terminal))} {ws : List Terminal} {first : A} {left : List Terminal}
    (view : T → L) (old new : List T) (x : T) (rest : List Terminal)
    → new ≡ old ++ x ∷ [] → Chain item link ws first (map view old) left → link left ≡ Some (Some (view x, rest)) → length rest < length left
    → Chain item link ws first (map view new) rest
chain_step {link = link} {left = left} view old new x rest pushed chain is less = record {
  start = chain.start;
  begins = chain.begins;
  goes = subst (λ xs. Goes link chain.start xs rest) (sym (ap (map view) pushed ∙ map-append view old (x ∷ []))) (goes_step (view x) rest chain.goes is less);
  shorter = let h : length left ≤ _ = chain.shorter in omega arith;
}

pub chain_end : {A L C : Type 0} {item : Reader A} {link : List Terminal → Option (Option (L × List Terminal))} {ws : List Terminal} {first : A} {front : List L} {left : List Terminal}
    (make : A → List L → C) → Chain item link ws first front left → link left ≡ None
    → chain_by item link make ws ≡ Some (make first front, left)
chain_end {link = link} {first = first} make chain is =
    ap (λ r. r >>= λ x. links_by link (suc (length x.1)) x.1 >>= λ y. Some (make x.0 y.0, y.1)) chain.begins
    ∙ ap (λ r. r >>= λ y. Some (make first y.0, y.1)) (goes_end chain.goes is)

pub chain_fails : {A L C : Type 0} {item : Reader A} {link : List Terminal → Option (Option (L × List Terminal))} {ws : List Terminal} {first : A} {front : List L} {left : List Terminal}
    (make : A → List L → C) → Chain item link ws first front left → link left ≡ Some None
    → chain_by item link make ws ≡ None
chain_fails {link = link} {first = first} make chain is =
    ap (λ r. r >>= λ x. links_by link (suc (length x.1)) x.1 >>= λ y. Some (make x.0 y.0, y.1)) chain.begins
    ∙ ap (λ r. r >>= λ y. Some (make first y.0, y.1)) (goes_fails chain.goes is)

pub chain_none : {A L C : Type 0} (item : Reader A) (link : List Terminal → Option (Option (L × List Terminal))) {ws : List Terminal} (make : A → List L → C)
    → item ws ≡ None → chain_by item link make ws ≡ None
chain_none item link make is = ap (λ r. r >>= λ x. links_by link (suc (length x.1)) x.1 >>= λ y. Some (make x.0 y.0, y.1)) is

-- an operator and its operand, as a link
pub operand_found : {A O : Type 0} (item : Reader A) (o : O) (after rest : List Terminal) (x : A) (m : Option (O × List Terminal))
    → Some (o, after) ≡ m → item after ≡ Some (x, rest) → operand_by item m ≡ Some (Some ((o, x), rest))
operand_found {A = A} {O = O} item o after rest x m is found =
    let f : Option (A × List Terminal) → Option (Option ((O × A) × List Terminal)) = λ r. Some (r >>= λ y. Some ((o, y.0), y.1)) in
    sym (ap (operand_by item) is) ∙ ap f found

pub operand_fails : {A O : Type 0} (item : Reader A) (o : O) (after : List Terminal) (m : Option (O × List Terminal))
    → Some (o, after) ≡ m → item after ≡ None → operand_by item m ≡ Some None
operand_fails {A = A} {O = O} item o after m is found =
    let f : Option (A × List Terminal) → Option (Option ((O × A) × List Terminal)) = λ r. Some (r >>= λ y. Some ((o, y.0), y.1)) in
    sym (ap (operand_by item) is) ∙ ap f found

pub after_found : {A : Type 0} (item : Reader A) (after rest : List Terminal) (x : A) (m : Option (List Terminal))
    → m ≡ Some after → item after ≡ Some (x, rest) → after_by item m ≡ Some (Some (x, rest))
after_found {A = A} item after rest x m is found =
    let f : Option (A × List Terminal) → Option (Option (A × List Terminal)) = λ r. Some r in
    ap (after_by item) is ∙ ap f found

pub after_fails : {A : Type 0} (item : Reader A) (after : List Terminal) (m : Option (List Terminal))
    → m ≡ Some after → item after ≡ None → after_by item m ≡ Some None
after_fails {A = A} item after m is found =
    let f : Option (A × List Terminal) → Option (Option (A × List Terminal)) = λ r. Some r in
    ap (after_by item) is ∙ ap f found

-- what was read after signs, and the signs before it
abbrev pub with_signs : List Prefix → Option (UnaryTree × List Terminal) → Option (UnaryTree × List Terminal)
with_signs signs read = read >>= λ y. Some (signed_operand signs y.0, y.1)

with_no_signs : (read : Option (UnaryTree × List Terminal)) → with_signs [] read ≡ read
with_no_signs None = refl
with_no_signs (Some y) = refl

behind_more : (signs : List Prefix) (sign : Prefix) (u : UnaryTree) → signed_operand signs (Signed sign u) ≡ signed_operand (signs ++ sign ∷ []) u
behind_more [] sign u = refl
behind_more (s ∷ signs) sign u = ap (Signed s) (behind_more signs sign u)

with_more_signs : (signs : List Prefix) (sign : Prefix) (read : Option (UnaryTree × List Terminal))
    → with_signs signs (read >>= λ y. Some (Signed sign y.0, y.1)) ≡ with_signs (signs ++ sign ∷ []) read
with_more_signs signs sign None = refl
with_more_signs signs sign (Some y) =
    let f : UnaryTree → Option (UnaryTree × List Terminal) = λ u. Some (u, y.1) in
    ap f (behind_more signs sign y.0)

-- the signs were read from the start on, and left is after them
pub record Signs (p : Reader PrimaryTree) (start : List Terminal) (signs : List Prefix) (left : List Terminal) : Type 0 where
  pub fuel : ℕ
  pub enough : length left < fuel
  pub shorter : length left ≤ length start
  pub same : with_signs signs (signs_by p fuel left) ≡ signs_by p (suc (length start)) start

no_sign_at : (p : Reader PrimaryTree) (signs : List Prefix) (left : List Terminal) → prefix left ≡ None → (fuel : ℕ) → length left < fuel
    → with_signs signs (signs_by p fuel left) ≡ with_signs signs (p left >>= λ x. Some (Bare x.0, x.1))
no_sign_at p signs left is zero enough = absurd (omega arith)
no_sign_at p signs left is (suc fuel) enough = ap (λ r. with_signs signs (signed_by p (signs_by p fuel) left r)) is

module _ {p : Reader PrimaryTree} where
  pub signs_start : (none : List Prefix) (start : List Terminal) → none ≡ [] → Signs p start none start
  signs_start none start empty = subst (λ signs. Signs p start signs start) (sym empty)
      (record { fuel = suc (length start); enough = omega arith; shorter = omega arith; same = with_no_signs (signs_by p (suc (length start)) start) })

  more_signs_at : (start : List Terminal) (signs : List Prefix) (left : List Terminal) (sign : Prefix) (rest : List Terminal)
      → prefix left ≡ Some (sign, rest) → length rest < length left → length left ≤ length start
      → (fuel : ℕ) → length left < fuel
      → with_signs signs (signs_by p fuel left) ≡ signs_by p (suc (length start)) start
      → Signs p start (signs ++ sign ∷ []) rest
  more_signs_at start signs left sign rest is less shorter zero enough same = absurd (omega arith)
  more_signs_at start signs left sign rest is less shorter (suc fuel) enough same = record {
    fuel = fuel;
    enough = omega arith;
    shorter = omega arith;
    same = sym (with_more_signs signs sign (signs_by p fuel rest)) ∙ sym (ap (λ r. with_signs signs (signed_by p (signs_by p fuel) left r)) is) ∙ same;
  }

  pub signs_step : {start : List Terminal} {left : List Terminal} (old new : List Prefix) (sign : Prefix) (rest : List Terminal)
      → new ≡ old ++ sign ∷ [] → Signs p start old left → prefix left ≡ Some (sign, rest) → length rest < length left
      → Signs p start new rest
  signs_step {start = start} {left = left} old new sign rest pushed goes is less =
      subst (λ signs. Signs p start signs rest) (sym pushed)
      (more_signs_at start old left sign rest is less goes.shorter goes.fuel goes.enough goes.same)

  pub signs_end : {start : List Terminal} {signs : List Prefix} {left : List Terminal} → Signs p start signs left → prefix left ≡ None
      → signs_by p (suc (length start)) start ≡ with_signs signs (p left >>= λ x. Some (Bare x.0, x.1))
  signs_end {start = start} {signs = signs} {left = left} goes is = sym goes.same ∙ no_sign_at p signs left is goes.fuel goes.enough

pub behind_terminal : (ws : List Terminal) (w : Terminal) (rest : List Terminal) → ws ≡ w ∷ rest → length rest < length ws
behind_terminal ws w rest is = omega (arith, ap length is)

pub below : (a b c : ℕ) → a ≤ b → b < c → a < c
below a b c le lt = omega arith
