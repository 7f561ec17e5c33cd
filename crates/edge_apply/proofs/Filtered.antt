-- The edges between ends that agree on the vertices of a graph.
use Rattle.std.proofs.Common.{◌≡◌, ℕ, ◌<◌, ◌==◌, ℤ, Bool, true, false, cond, ◌&&◌, Option, Some, List, [], ◌∷◌, refl, sym, ap, ◌∙◌, subst}
use Rattle.std.proofs.lemmas.Bool.Decides.{Decides-eqb}
use Rattle.std.specs.List.{filter}
use Rattle.weighted_edges.specs.Edge.{Edge}
use Rattle.kernels.specs.FunctionStatementTree.{FunctionStatementsTree}
use Rattle.kernels.specs.State.{StateValue}
use Rattle.flat_snapshot.specs.Edge.{Ends, ends_eq, ends_of, weight_in}
use Rattle.flat_snapshot.specs.Digraph.{Digraph, IsDigraph}
use Rattle.vectors.specs.declared.changes.VectorChanges.{VectorChanges}
use Rattle.edge_fold.specs.Between.{edges_between}
use Rattle.edge_apply.specs.Applied.{AreChangesOn}

filtered_alike : (p q : Edge → Bool) (e : Edge) (ks ls : List Edge) (b : Bool) → p e ≡ b → q e ≡ b → ks ≡ ls → cond (p e) (e ∷ ks) ks ≡ cond (q e) (e ∷ ls) ls
filtered_alike p q e ks ls b here there more =
    ap (λ (c : Bool). cond c (e ∷ ks) ks) (here ∙ sym there) ∙ ap (λ (ms : List Edge). cond (q e) (e ∷ ms) ms) more

ends_same : (p : Ends) → ends_eq p p ≡ true
ends_same p = ap (λ (b : Bool). b && (p.1 == p.1)) ((Decides-eqb p.0 p.0).1 refl) ∙ (Decides-eqb p.1 p.1).1 refl

-- each edge of a list has a weight in it
pub has_first : (e : Edge) (es : List Edge) → weight_in (ends_of e) (e ∷ es) ≡ Some e.2
has_first e es = ap (λ (b : Bool). cond b (Some e.2) (weight_in (ends_of e) es)) (ends_same (ends_of e))

pub has_later : (b : Bool) (v w : ℤ) (o : Option ℤ) → o ≡ Some w → cond b (Some v) o ≡ Some (cond b v w)
has_later true v w o e = refl
has_later false v w o e = e

-- tests that agree on the edges of a list leave the same of them
pub filter_agree : (p q : Edge → Bool) (es : List Edge) → ((e : Edge) (w : ℤ) → weight_in (ends_of e) es ≡ Some w → p e ≡ q e) → filter p es ≡ filter q es
filter_agree p q [] same = refl
filter_agree p q (e ∷ es) same =
    filtered_alike p q e (filter p es) (filter q es) (q e) (same e e.2 (has_first e es)) refl
    (filter_agree p q es (λ f w has. same f _ (has_later (ends_eq (ends_of e) (ends_of f)) e.2 w (weight_in (ends_of f) es) has)))

-- ends that let the same vertices through
pub between_same : (from other to : ℕ → Bool) (es : List Edge) → ((v : ℕ) → from v ≡ other v) → edges_between from to es ≡ edges_between other to es
between_same from other to es same =
    filter_agree (λ e. from e.0 && to e.1) (λ e. other e.0 && to e.1) es (λ e w has. ap (λ (b : Bool). b && to e.1) (same e.0))

-- the same of destinations
pub to_same : (from to other : ℕ → Bool) (es : List Edge) → ((v : ℕ) → to v ≡ other v) → edges_between from to es ≡ edges_between from other es
to_same from to other es same =
    filter_agree (λ e. from e.0 && to e.1) (λ e. from e.0 && other e.1) es (λ e w has. ap (λ (b : Bool). from e.0 && b) (same e.1))

-- a filter that lets all through
pub all_pass : {A : Type 0} (xs : List A) → filter (λ x. true) xs ≡ xs
all_pass [] = refl
all_pass (x ∷ xs) = ap (λ ys. x ∷ ys) (all_pass xs)

-- ends that let the same vertices of a graph through
pub between_agree : (g : Digraph) (from other to : ℕ → Bool) → IsDigraph g → ((v : ℕ) → v < g.vertices → from v ≡ other v) → edges_between from to g.edges ≡ edges_between other to g.edges
between_agree g from other to is same =
    filter_agree (λ e. from e.0 && to e.1) (λ e. other e.0 && to e.1) g.edges (λ e w has. ap (λ (b : Bool). b && to e.1) (same e.0 (is.within (ends_of e) w has).0))

pub to_agree : (g : Digraph) (from to other : ℕ → Bool) → IsDigraph g → ((v : ℕ) → v < g.vertices → to v ≡ other v) → edges_between from to g.edges ≡ edges_between from other g.edges
to_agree g from to other is same =
    filter_agree (λ e. from e.0 && to e.1) (λ e. from e.0 && other e.1) g.edges (λ e w has. ap (λ (b : Bool). from e.0 && b) (same e.1 (is.within (ends_of e) w has).1))

-- the changes of an apply to the same edges
pub changes_along : (n : ℕ) (es fs : List Edge) (m : StateValue) (steps : List FunctionStatementsTree) (cs : List VectorChanges) → fs ≡ es → AreChangesOn n es m steps cs → AreChangesOn n fs m steps cs
changes_along n es fs m steps cs same are = subst (λ (ks : List Edge). AreChangesOn n ks m steps cs) (sym same) are

pub and_true : (b : Bool) → b && true ≡ b
and_true true = refl
and_true false = refl
