-- Pages that are built up vertex by vertex.
use Rattle.std.proofs.Common.{◌≡◌, ◌≢◌, ℕ, zero, suc, ◌+◌, ◌-◌, ◌<◌, ◌≤◌, ◌⊎◌, inl, inr, List, [], ◌∷◌, ◌++◌, length, get_or, take, drop, slice_range, refl, sym, ◌∙◌, ap, subst, arith, add-one}
use Rattle.std.proofs.Common.{append_assoc, get_or-drop, length-drop, ℤ}
use Rattle.std.proofs.lemmas.Bool.{cases_lt, cases_eq, ne_eqb, eq-eqb}
use Rattle.std.proofs.lemmas.List.{append-nil, take_all, take_more}
use Rattle.ascending_lists.specs.Maps.{Rises}
use Rattle.pages.specs.Vertices.{neighbours_of, count_below, IsPacked, ArePacked}
use Rattle.pages.specs.inside.Built.{entry_of, built}
use Rattle.ascending_lists.proofs.MapOrder.{rises_room, rises_append}
use Rattle.pages.proofs.Ranks.{none_below, below_here, below_not, below_first, below_end}

pub rises_entry : (u : ℕ) (xs : List (ℕ × ℤ)) → Rises u (u + 1) (entry_of u xs)
rises_entry u [] = omega arith
rises_entry u (x ∷ xs) = (omega arith, omega arith)

-- the vertices rise
pub rises_built : (f : ℕ → List (ℕ × ℤ)) (n : ℕ) → Rises 0 n (built f n)
rises_built f zero = omega arith
rises_built f (suc u) =
    let up : Rises 0 (u + 1) (built f u ++ entry_of u (f u)) = rises_append 0 u (u + 1) (built f u) (entry_of u (f u)) (rises_built f u) (rises_entry u (f u)) in
    subst (λ n. Rises 0 n (built f u ++ entry_of u (f u))) (add-one u) up

-- the list of a vertex in vertices of which it is among the second ones, or not among them
pub of_right : (u a n : ℕ) (l r : List (ℕ × List (ℕ × ℤ))) → Rises a n l → n ≤ u → neighbours_of u (l ++ r) ≡ neighbours_of u r
of_right u a n [] r s le = refl
of_right u a n (e ∷ l) r s le =
    let other : e.0 ≢ u = omega (arith, rises_room (e.0 + 1) n l s.1) in
    rw (ne_eqb e.0 u other) (of_right u (e.0 + 1) n l r s.1 le)

pub of_left : (u : ℕ) (l r : List (ℕ × List (ℕ × ℤ))) → neighbours_of u r ≡ [] → neighbours_of u (l ++ r) ≡ neighbours_of u l
of_left u [] r none = none
of_left u (e ∷ l) r none = elim (cases_eq e.0 u) [
  | inl at ↦ rw (eq-eqb e.0 u at) refl
  | inr other ↦ rw (ne_eqb e.0 u other) (of_left u l r none)
]

pub entry_self : (u : ℕ) (xs : List (ℕ × ℤ)) → neighbours_of u (entry_of u xs) ≡ xs
entry_self u [] = refl
entry_self u (x ∷ xs) = rw (eq-eqb u u refl) refl

pub entry_other : (u v : ℕ) (xs : List (ℕ × ℤ)) → v ≢ u → neighbours_of u (entry_of v xs) ≡ []
entry_other u v [] other = refl
entry_other u v (x ∷ xs) other = rw (ne_eqb v u other) refl

-- each vertex has the list that the function gives
pub neighbours_built : (f : ℕ → List (ℕ × ℤ)) (u n : ℕ) → u < n → neighbours_of u (built f n) ≡ f u
neighbours_built f u zero lt = absurd (omega arith)
neighbours_built f u (suc m) lt = elim (cases_eq u m) [
  | inl at ↦ of_right u 0 m (built f m) (entry_of m (f m)) (rises_built f m) (omega arith) ∙ ap (λ v. neighbours_of v (entry_of m (f m))) at ∙ entry_self m (f m) ∙ ap f (sym at)
  | inr other ↦ of_left u (built f m) (entry_of m (f m)) (entry_other u m (f m) (λ e. other (sym e))) ∙ neighbours_built f u m (omega arith)
]

-- how many vertices are below one, and below a greater one
pub below_up : (u v : ℕ) (es : List (ℕ × List (ℕ × ℤ))) → u ≤ v → count_below u es ≤ count_below v es
below_up u v [] le = omega arith
below_up u v (e ∷ es) le = elim (cases_lt e.0 u) [
  | inl lt ↦ omega (arith, below_here u e es lt, below_here v e es (omega arith), below_up u v es le)
  | inr ge ↦ elim (cases_lt e.0 v) [
    | inl lt ↦ omega (arith, below_not u e es ge, below_here v e es lt, below_up u v es le)
    | inr past ↦ omega (arith, below_not u e es ge, below_not v e es past, below_up u v es le)
  ]
]

pub below_all : (u : ℕ) (es : List (ℕ × List (ℕ × ℤ))) → count_below u es ≤ length es
below_all u [] = omega arith
below_all u (e ∷ es) = elim (cases_lt e.0 u) [
  | inl lt ↦ omega (arith, below_here u e es lt, below_all u es)
  | inr ge ↦ omega (arith, below_not u e es ge, below_all u es)
]

-- A vertex is not there, or it stands with its list at the index of how many are below it.
pub record IsAbsent (u : ℕ) (es : List (ℕ × List (ℕ × ℤ))) : Type 0 where
  pub same : count_below (u + 1) es ≡ count_below u es
  pub none : neighbours_of u es ≡ []

pub record IsPresent (u : ℕ) (es : List (ℕ × List (ℕ × ℤ))) : Type 0 where
  pub more : count_below (u + 1) es ≡ count_below u es + 1
  pub within : count_below u es < length es
  pub at : get_or es (count_below u es) (0, []) ≡ (u, neighbours_of u es)

pub there_or_not : (u a h : ℕ) (es : List (ℕ × List (ℕ × ℤ))) → Rises a h es → IsAbsent u es ⊎ IsPresent u es
there_or_not u a h [] s = inl (record { same = refl; none = refl })
there_or_not u a h (e ∷ es) s = elim (cases_lt e.0 u) [
  | inl lt ↦
      let other : e.0 ≢ u = omega arith in
      let here = below_here u e es lt in
      let next = below_here (u + 1) e es (omega arith) in
      elim (there_or_not u (e.0 + 1) h es s.1) [
        | inl out ↦ inl (record { same = omega (arith, here, next, out.same); none = rw (ne_eqb e.0 u other) out.none })
        | inr in_it ↦ inr (record {
          more = omega (arith, here, next, in_it.more);
          within = omega (arith, here, in_it.within);
          at = rw (ne_eqb e.0 u other) (ap (λ i. get_or (e ∷ es) i (0, [])) (here ∙ add-one (count_below u es)) ∙ in_it.at);
        })
      ]
  | inr ge ↦
      let none : count_below u es ≡ 0 = below_first u (e.0 + 1) h es s.1 (omega arith) in
      let position : count_below u (e ∷ es) ≡ 0 = below_not u e es ge ∙ none in
      let next_none : count_below (u + 1) es ≡ 0 = below_first (u + 1) (e.0 + 1) h es s.1 (omega arith) in
      elim (cases_eq e.0 u) [
        | inl at ↦ inr (record {
          more = omega (arith, position, below_here (u + 1) e es (omega arith), next_none);
          within = omega (arith, position);
          at = rw (eq-eqb e.0 u at) (ap (λ i. get_or (e ∷ es) i (0, [])) position ∙ ap (λ v. (v, e.1)) at);
        })
        | inr other ↦ inl (record {
          same = omega (arith, position, below_not (u + 1) e es (omega arith), next_none);
          none = rw (ne_eqb e.0 u other) (none_below u (e.0 + 1) h es s.1 (omega arith));
        })
      ]
]

-- each vertex has a neighbour
abbrev pub HaveNeighbours : List (ℕ × List (ℕ × ℤ)) → Type 0
HaveNeighbours es = (i : ℕ) → i < length es → 0 < length ((get_or es i (0, [])).1)

packed_at : (es : List (ℕ × List (ℕ × ℤ))) (i : ℕ) → ArePacked es → i < length es → IsPacked ((get_or es i (0, [])).1)
packed_at [] i ok lt = absurd (omega arith)
packed_at (e ∷ es) zero ok lt = ok.0
packed_at (e ∷ es) (suc i) ok lt = packed_at es i ok.1 (omega arith)

pub packed_some : (es : List (ℕ × List (ℕ × ℤ))) → ArePacked es → HaveNeighbours es
packed_some es ok i lt = (packed_at es i ok lt).some

pub entry_some : (u : ℕ) (xs : List (ℕ × ℤ)) → 0 < length xs → (u, xs) ∷ [] ≡ entry_of u xs
entry_some u [] lt = absurd (omega arith)
entry_some u (x ∷ xs) lt = refl

slice_more : (es : List (ℕ × List (ℕ × ℤ))) (a c : ℕ) → a ≤ c → c < length es → slice_range es a (c + 1) ≡ slice_range es a c ++ get_or es c (0, []) ∷ []
slice_more es a c le lt =
    let gap : c + 1 - a ≡ c - a + 1 = omega arith in
    let back : a + (c - a) ≡ c = omega arith in
    ap (λ k. take k (drop a es)) gap ∙ take_more (drop a es) (c - a) (0, []) (omega (arith, length-drop a es))
    ∙ ap (λ e. take (c - a) (drop a es) ++ e ∷ []) (get_or-drop a es (c - a) (0, []) ∙ ap (λ k. get_or es k (0, [])) back)

module _ (es : List (ℕ × List (ℕ × ℤ))) (map : Rises 0 64 es) (some_each : HaveNeighbours es) where
  -- the vertices from one up to another, and the next one
  next_slice : (a u : ℕ) → a ≤ count_below u es → slice_range es a (count_below (u + 1) es) ≡ slice_range es a (count_below u es) ++ entry_of u (neighbours_of u es)
  next_slice a u le = elim (there_or_not u 0 64 es map) [
    | inl out ↦ ap (slice_range es a) out.same ∙ sym (append-nil (slice_range es a (count_below u es))) ∙ ap (λ xs. slice_range es a (count_below u es) ++ entry_of u xs) (sym out.none)
    | inr in_it ↦
        let some : 0 < length (neighbours_of u es) = omega (arith, some_each (count_below u es) in_it.within, ap (λ e. length e.1) in_it.at) in
        ap (slice_range es a) in_it.more ∙ slice_more es a (count_below u es) le in_it.within
        ∙ ap (λ e. slice_range es a (count_below u es) ++ e ∷ []) in_it.at ∙ ap (λ ls. slice_range es a (count_below u es) ++ ls) (entry_some u (neighbours_of u es) some)
  ]

  -- a run that is carried over builds up what is between
  pub carried : (f : ℕ → List (ℕ × ℤ)) (low high : ℕ) → low ≤ high → ((u : ℕ) → low ≤ u → u < high → f u ≡ neighbours_of u es)
      → built f low ++ slice_range es (count_below low es) (count_below high es) ≡ built f high
  carried f low zero le same =
      let zero_is : low ≡ 0 = omega arith in
      let none : count_below low es - count_below low es ≡ 0 = omega arith in
      rw zero_is (ap (λ k. take k (drop (count_below 0 es) es)) (nothing (count_below 0 es)))
    where
      nothing : (n : ℕ) → n - n ≡ 0
      nothing n = omega arith
  carried f low (suc h) le same = elim (cases_eq low (suc h)) [
    | inl at ↦
        ap (λ k. built f low ++ take (count_below k es - count_below low es) (drop (count_below low es) es)) (sym at)
        ∙ ap (λ k. built f low ++ take k (drop (count_below low es) es)) (nothing (count_below low es)) ∙ append-nil (built f low) ∙ ap (built f) at
    | inr other ↦
        let before = carried f low h (omega arith) (λ u ge lt. same u ge (omega arith)) in
        let next : count_below (suc h) es ≡ count_below (h + 1) es = ap (λ k. count_below k es) (sym (add-one h)) in
        ap (λ k. built f low ++ slice_range es (count_below low es) k) next
        ∙ ap (λ ls. built f low ++ ls) (next_slice (count_below low es) h (below_up low h es (omega arith)))
        ∙ sym (append_assoc (built f low) (slice_range es (count_below low es) (count_below h es)) (entry_of h (neighbours_of h es)))
        ∙ rw (before, ← same h (omega arith) (omega arith)) refl
  ]
    where
      nothing : (n : ℕ) → n - n ≡ 0
      nothing n = omega arith

-- a list of vertices is built up from its look-ups, and so from any function that gives the same
pub built_same : (f g : ℕ → List (ℕ × ℤ)) (n : ℕ) → ((u : ℕ) → u < n → f u ≡ g u) → built f n ≡ built g n
built_same f g zero same = refl
built_same f g (suc u) same = rw (built_same f g u (λ v lt. same v (omega arith)), same u (omega arith)) refl

pub is_built : (n : ℕ) (es : List (ℕ × List (ℕ × ℤ))) → n ≡ 64 → Rises 0 64 es → HaveNeighbours es → es ≡ built (λ u. neighbours_of u es) n
is_built n es is map some_each =
    let none : count_below 0 es ≡ 0 = below_first 0 0 64 es map (omega arith) in
    let all : count_below n es ≡ length es = below_end n 0 64 es map (omega arith) in
    let whole : length es - 0 ≡ length es = omega arith in
    let slice : slice_range es (count_below 0 es) (count_below n es) ≡ es = rw (none, all) (ap (λ k. take k es) whole ∙ take_all (length es) es (omega arith)) in
    sym slice ∙ carried es map some_each (λ u. neighbours_of u es) 0 n (omega arith) (λ u ge lt. refl)

pub same_pages : (n : ℕ) (p q : List (ℕ × List (ℕ × ℤ))) → n ≡ 64 → Rises 0 64 p → ArePacked p → Rises 0 64 q → ArePacked q → ((u : ℕ) → u < 64 → neighbours_of u p ≡ neighbours_of u q) → p ≡ q
same_pages n p q is map packed map' packed' same =
    is_built n p is map (packed_some p packed) ∙ built_same (λ u. neighbours_of u p) (λ u. neighbours_of u q) n (λ u lt. same u (omega arith)) ∙ sym (is_built n q is map' (packed_some q packed'))
