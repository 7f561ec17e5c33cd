-- Marks that are set one after another.
use Rattle.std.proofs.Common.{◌≡◌, ℕ, ◌+◌, ◌<◌, ◌≤◌, ◌==◌, ℤ, Bool, true, false, cond, ◌&&◌, ◌||◌, Option, List, [], ◌∷◌, length, take, get_or, refl, sym, ap, ◌∙◌}
use Rattle.std.proofs.lemmas.List.{take_all, take_more}
use Rattle.std.proofs.lemmas.List.Folds.{list_any-append}
use Rattle.std.specs.List.{list_any}
use Rattle.weighted_edges.specs.Edge.{Edge}
use Rattle.flat_snapshot.specs.Neighbours.{destinations_of}
use Rattle.kernels.specs.declared.endpoint_filter.EndpointFilter.{EndpointFilter}
use Rattle.follow_engine.specs.Reached.{is_edge_reached, leads, may_pass}

pub or_assoc : (a b c : Bool) → (a || b) || c ≡ a || (b || c)
or_assoc true b c = refl
or_assoc false b c = refl

pub or_none : (a : Bool) → a || false ≡ a
or_none true = refl
or_none false = refl

-- the next of some tests
any_more : {A : Type 0} (test : A → Bool) (xs : List A) (i : ℕ) (d : A) → i < length xs → list_any test (take (i + 1) xs) ≡ list_any test (take i xs) || test (get_or xs i d)
any_more test xs i d l =
    ap (list_any test) (take_more xs i d l) ∙ list_any-append test (take i xs) (get_or xs i d ∷ []) ∙ ap (λ (b : Bool). list_any test (take i xs) || b) (or_none (test (get_or xs i d)))

pub tested_more : {A : Type 0} (test : A → Bool) (xs : List A) (i : ℕ) (d : A) (was before now : Bool) → i < length xs → before ≡ was || list_any test (take i xs)
    → now ≡ before || test (get_or xs i d) → now ≡ was || list_any test (take (i + 1) xs)
tested_more test xs i d was before now l so more =
    more
    ∙ ap (λ (b : Bool). b || test (get_or xs i d)) so
    ∙ or_assoc was (list_any test (take i xs)) (test (get_or xs i d))
    ∙ ap (λ (b : Bool). was || b) (sym (any_more test xs i d l))

pub tested_all : {A : Type 0} (test : A → Bool) (xs : List A) (i : ℕ) (was now : Bool) → length xs ≤ i → now ≡ was || list_any test (take i xs) → now ≡ was || list_any test xs
tested_all test xs i was now l so = so ∙ ap (λ (ys : _). was || list_any test ys) (take_all i xs l)

-- the destinations of a source
row_leads_at : (e : Edge) (u v : ℕ) (row : List (ℕ × ℤ)) (rest a : Bool) → (e.0 == u) ≡ a → list_any (λ d. d.0 == v) row ≡ rest
    → list_any (λ d. d.0 == v) (cond a ((e.1, e.2) ∷ row) row) ≡ (a && (e.1 == v)) || rest
row_leads_at e u v row rest true at more = ap (λ (b : Bool). (e.1 == v) || b) more
row_leads_at e u v row rest false at more = more

pub row_leads : (es : List Edge) (u v : ℕ) → list_any (λ d. d.0 == v) (destinations_of u es) ≡ leads es u v
row_leads [] u v = refl
row_leads (e ∷ es) u v = row_leads_at e u v (destinations_of u es) (leads es u v) (e.0 == u) refl (row_leads es u v)

-- the next of them is marked
pub row_more : (v : ℕ) (left rest : List (ℕ × ℤ)) (d : ℕ × ℤ) (before now whole : Bool) → left ≡ d ∷ rest → before || list_any (λ d. d.0 == v) left ≡ whole → now ≡ before || (d.0 == v)
    → now || list_any (λ d. d.0 == v) rest ≡ whole
row_more v left rest d before now whole is so more =
    let any = list_any (λ (d : ℕ × ℤ). d.0 == v) in
    ap (λ (b : Bool). b || any rest) more ∙ or_assoc before (d.0 == v) (any rest) ∙ ap (λ (ds : List (ℕ × ℤ)). before || any ds) (sym is) ∙ so

-- the next of some listed edges
pub edge_more : (now was : Option EndpointFilter) (edges : List (ℕ × ℕ)) (i : ℕ) (d : ℕ × ℕ) (v : ℕ) (old before after wanted : Bool) → i < length edges
    → before ≡ old || is_edge_reached now was (take i edges) v → wanted ≡ may_pass now (get_or edges i d).0 || may_pass was (get_or edges i d).0
    → after ≡ before || (wanted && ((get_or edges i d).1 == v)) → after ≡ old || is_edge_reached now was (take (i + 1) edges) v
edge_more now was edges i d v old before after wanted l so is more =
    tested_more (λ (p : ℕ × ℕ). (may_pass now p.0 || may_pass was p.0) && (p.1 == v)) edges i d old before after l so
    (more ∙ ap (λ (b : Bool). before || (b && ((get_or edges i d).1 == v))) is)
