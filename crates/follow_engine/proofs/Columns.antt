-- What edges give a vertex for one vector: the edges that count, and those that may be left out.
use Rattle.std.proofs.Common.{◌≡◌, ℕ, ◌==◌, Bool, true, false, cond, ◌&&◌, ◌||◌, List, [], ◌∷◌, ◌++◌, refl, sym, ap, ap₂, ◌∙◌, length, arith}
use Rattle.std.proofs.lemmas.Bool.Decides.{Decides-eqb}
use Rattle.std.specs.List.{filter}
use Rattle.weighted_edges.specs.Edge.{Edge}
use Rattle.algorithm_meaning.specs.declared.contribution.Contribution.{Contribution}
use Rattle.kernels.specs.FunctionStatementTree.{FunctionStatementsTree}
use Rattle.kernels.specs.EdgeApply.{all_give, is_member}
use Rattle.edge_fold.specs.Between.{edges_between}
use Rattle.algorithm_meaning.specs.EdgeApply.{for_vector}
use Rattle.kernels.specs.Laws.{given_to}
use Rattle.kernels.specs.State.{StateValue}
use Rattle.follow_engine.specs.Reached.{leads}

pub same : (m n : ℕ) → (m == n) ≡ true → m ≡ n
same m n = (Decides-eqb m n).0

pub itself : (n : ℕ) → (n == n) ≡ true
itself n = (Decides-eqb n n).1 refl

-- what edges give vertex v for vector x
abbrev pub gets : (x v : ℕ) → List FunctionStatementsTree → StateValue → List Edge → List Contribution
gets x v steps m es = given_to x v steps m.sets m.vectors es

-- what one edge gives it
abbrev one_gets : (x v : ℕ) → List FunctionStatementsTree → StateValue → Edge → List Contribution
one_gets x v steps m e = cond (e.1 == v) (for_vector x (all_give steps m.sets m.vectors e)) []

abbrev nothing : List Contribution
nothing = []

-- edges of a list
first_leads : (e : Edge) (es : List Edge) (v : ℕ) → (e.1 == v) ≡ true → leads (e ∷ es) e.0 v ≡ true
first_leads e es v at = ap₂ (λ (a b : Bool). (a && b) || leads es e.0 v) (itself e.0) at

later_leads : (e : Edge) (es : List Edge) (u v : ℕ) → leads es u v ≡ true → leads (e ∷ es) u v ≡ true
later_leads e es u v on = after_any ((e.0 == u) && (e.1 == v)) (leads es u v) on
  where
    after_any : (a b : Bool) → b ≡ true → a || b ≡ true
    after_any true b on = refl
    after_any false b on = on

first_or : (a b c : Bool) → (b ≡ true → c ≡ true) → a || b ≡ true → a || c ≡ true
first_or true b c more on = refl
first_or false b c more on = more on

leads_at : (e : Edge) (es kept : List Edge) (u v : ℕ) (b : Bool) → (leads kept u v ≡ true → leads es u v ≡ true) → leads (cond b (e ∷ kept) kept) u v ≡ true → leads (e ∷ es) u v ≡ true
leads_at e es kept u v true more on = first_or ((e.0 == u) && (e.1 == v)) (leads kept u v) (leads es u v) more on
leads_at e es kept u v false more on = later_leads e es u v (more on)

pub leads_filtered : (p : Edge → Bool) (es : List Edge) (u v : ℕ) → leads (filter p es) u v ≡ true → leads es u v ≡ true
leads_filtered p [] u v on = on
leads_filtered p (e ∷ es) u v on = leads_at e es (filter p es) u v (p e) (leads_filtered p es u v) on

-- an edge that is kept, or not
gets_kept : (x v : ℕ) (steps : List FunctionStatementsTree) (m : StateValue) (e : Edge) (es : List Edge) (b : Bool)
    → gets x v steps m (cond b (e ∷ es) es) ≡ cond b (one_gets x v steps m e) nothing ++ gets x v steps m es
gets_kept x v steps m e es true = refl
gets_kept x v steps m e es false = refl

nothing_either : (b : Bool) → cond b nothing nothing ≡ nothing
nothing_either true = refl
nothing_either false = refl

kept_elsewhere : (x v : ℕ) (steps : List FunctionStatementsTree) (m : StateValue) (e : Edge) (b : Bool) → (e.1 == v) ≡ false → cond b (one_gets x v steps m e) nothing ≡ nothing
kept_elsewhere x v steps m e b off =
    ap (λ (t : Bool). cond b (cond t (for_vector x (all_give steps m.sets m.vectors e)) nothing) nothing) off ∙ nothing_either b

-- whether an edge is kept, and in which state, matters only if it leads to the vertex
kept_alike : (x v : ℕ) (steps : List FunctionStatementsTree) (m k : StateValue) (e : Edge) (b c t : Bool) → (e.1 == v) ≡ t
    → (t ≡ true → cond b (one_gets x v steps m e) nothing ≡ cond c (one_gets x v steps k e) nothing)
    → cond b (one_gets x v steps m e) nothing ≡ cond c (one_gets x v steps k e) nothing
kept_alike x v steps m k e b c true at is = is refl
kept_alike x v steps m k e b c false at is = kept_elsewhere x v steps m e b at ∙ sym (kept_elsewhere x v steps k e c at)

-- tests that agree on the edges to the vertex keep what it gets
pub gets_filtered : (x v : ℕ) (steps : List FunctionStatementsTree) (m : StateValue) (p q : Edge → Bool) (es : List Edge) → ((e : Edge) → leads es e.0 v ≡ true → e.1 ≡ v → p e ≡ q e)
    → gets x v steps m (filter p es) ≡ gets x v steps m (filter q es)
gets_filtered x v steps m p q [] agree = refl
gets_filtered x v steps m p q (e ∷ es) agree =
    gets_kept x v steps m e (filter p es) (p e)
    ∙ ap₂ (λ (cs ds : List Contribution). cs ++ ds)
    (kept_alike x v steps m m e (p e) (q e) (e.1 == v) refl
    (λ at. ap (λ (b : Bool). cond b (one_gets x v steps m e) nothing) (agree e (first_leads e es v at) (same e.1 v at))))
    (gets_filtered x v steps m p q es (λ f on at. agree f (later_leads e es f.0 v on) at))
    ∙ sym (gets_kept x v steps m e (filter q es) (q e))

given_if : (x v : ℕ) (steps : List FunctionStatementsTree) (m k : StateValue) (e : Edge) (b : Bool) → (b ≡ true → all_give steps m.sets m.vectors e ≡ all_give steps k.sets k.vectors e)
    → cond b (one_gets x v steps m e) nothing ≡ cond b (one_gets x v steps k e) nothing
given_if x v steps m k e true alike = ap (λ (cs : List Contribution). cond (e.1 == v) (for_vector x cs) nothing) (alike refl)
given_if x v steps m k e false alike = refl

-- in states in which the edges to the vertex that are kept give the same
pub gets_alike : (x v : ℕ) (steps : List FunctionStatementsTree) (m k : StateValue) (p : Edge → Bool) (es : List Edge)
    → ((e : Edge) → leads es e.0 v ≡ true → e.1 ≡ v → p e ≡ true → all_give steps m.sets m.vectors e ≡ all_give steps k.sets k.vectors e)
    → gets x v steps m (filter p es) ≡ gets x v steps k (filter p es)
gets_alike x v steps m k p [] alike = refl
gets_alike x v steps m k p (e ∷ es) alike =
    gets_kept x v steps m e (filter p es) (p e)
    ∙ ap₂ (λ (cs ds : List Contribution). cs ++ ds)
    (kept_alike x v steps m k e (p e) (p e) (e.1 == v) refl (λ at. given_if x v steps m k e (p e) (alike e (first_leads e es v at) (same e.1 v at))))
    (gets_alike x v steps m k p es (λ f on at. alike f (later_leads e es f.0 v on) at))
    ∙ sym (gets_kept x v steps k e (filter p es) (p e))

-- two tests, one after the other
both_at : (p q : Edge → Bool) (e : Edge) (kept both : List Edge) (a b : Bool) → p e ≡ a → filter p kept ≡ both → filter p (cond b (e ∷ kept) kept) ≡ cond (a && b) (e ∷ both) both
both_at p q e kept both true true is more = ap (λ (t : Bool). cond t (e ∷ filter p kept) (filter p kept)) is ∙ ap (λ (fs : List Edge). e ∷ fs) more
both_at p q e kept both true false is more = more
both_at p q e kept both false true is more = ap (λ (t : Bool). cond t (e ∷ filter p kept) (filter p kept)) is ∙ more
both_at p q e kept both false false is more = more

pub filter_both : (p q : Edge → Bool) (es : List Edge) → filter p (filter q es) ≡ filter (λ e. p e && q e) es
filter_both p q [] = refl
filter_both p q (e ∷ es) = both_at p q e (filter q es) (filter (λ f. p f && q f) es) (p e) (q e) refl (filter_both p q es)

pub none_pass : (es : List Edge) → filter (λ e. false) es ≡ []
none_pass [] = refl
none_pass (e ∷ es) = none_pass es

and_false : (b : Bool) → (b && false) ≡ false
and_false true = refl
and_false false = refl

none_pass_both : (from : ℕ → Bool) (es : List Edge) → filter (λ e. from e.0 && false) es ≡ []
none_pass_both from [] = refl
none_pass_both from (e ∷ es) = rw (and_false (from e.0)) (none_pass_both from es)

-- no edge leads to one of no destinations
pub none_among : (from : ℕ → Bool) (vs : List ℕ) (es : List Edge) → length vs ≡ 0 → edges_between from (λ v. is_member v vs) es ≡ []
none_among from [] es none = none_pass_both from es
none_among from (v ∷ vs) es none = absurd (omega (arith, none))
