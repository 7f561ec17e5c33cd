-- Edges that no batch names stay as they were.
use Rattle.std.proofs.Common.{◌≡◌, ℕ, ◌+◌, ◌^◌, ◌<◌, ◌≤◌, ◌==◌, ℤ, Bool, true, false, not, cond, ◌&&◌, Option, Some, None, option_to_list, unwrap_or, if◌then◌else◌, List, [], ◌∷◌, ◌++◌, refl, sym, ap}
use Rattle.std.proofs.Common.{◌∙◌, arith}
use Rattle.std.proofs.lemmas.Bool.{false≢true, or_parts}
use Rattle.std.proofs.lemmas.List.Folds.{list_any-append}
use Rattle.std.specs.List.{filter}
use Rattle.weighted_edges.specs.Edge.{Edge}
use Rattle.tree_batch.specs.declared.batch.Entry.{Entry}
use Rattle.tree_batch.specs.Edge.{Ends, IsAscending, EdgesRise, all_ends, ends_eq, ends_of, index, weight_in, NoneNames, is_between, misfits, named_by, vertices_after, weight_after}
use Rattle.tree_batch.specs.Digraph.{Digraph, IsDigraph, graph_after, graph_through}
use Rattle.tree_batch.proofs.AllEdges.{after_within, are_among, digraph_after, few_vertices, in_all, rises_all, weight_in-weighed}
use Rattle.tree_batch.proofs.Deciding.{count_after, none_decides}
use Rattle.tree_batch.proofs.Rising.{ends_eq-true, rises_from, same_edges}
use Rattle.edge_differences.specs.Listed.{AreSameBut, is_listed}
use Rattle.edge_differences.specs.Named.{EachFits, named_in, named_in_all}

-- no entry names ends that are not listed
first_other : (o : Option Ends) (p : Ends) (rest : List Ends) → is_listed (option_to_list o ++ rest) p.0 p.1 ≡ false → (is_between o p ≡ false) × (is_listed rest p.0 p.1 ≡ false)
first_other None p rest h = (refl, h)
first_other (Some q) p rest h = or_parts (ends_eq q p) (is_listed rest p.0 p.1) h

none_names : (xs : List Entry) (p : Ends) → is_listed (named_in xs) p.0 p.1 ≡ false → NoneNames p xs
none_names [] p h = tt
none_names (x ∷ xs) p h = let parts = first_other (named_by x) p (named_in xs) h in (parts.0, none_names xs p parts.1)

either_none : (b : Bool) (o : Option ℤ) → o ≡ None → (if b then o else None) ≡ None
either_none true o e = e
either_none false o e = refl

-- the weight that all ends within have
all_weights : (g : Digraph) (batch : List Entry) (p : Ends) (o : Option ℤ) → IsDigraph g → misfits g.vertices batch ≡ false → weight_after g.edges batch p ≡ o
    → (if are_among (all_ends (vertices_after g.vertices batch)) p then weight_after g.edges batch p else None) ≡ weight_after g.edges batch p
all_weights g batch p None ok fit is =
    either_none (are_among (all_ends (vertices_after g.vertices batch)) p) (weight_after g.edges batch p) is ∙ sym is
all_weights g batch p (Some w) ok fit is =
    ap (λ (b : Bool). if b then weight_after g.edges batch p else None) (in_all (vertices_after g.vertices batch) p (after_within g batch p w ok fit is))

weight_through : (g : Digraph) (batch : List Entry) (p : Ends) → IsDigraph g → misfits g.vertices batch ≡ false → weight_in p (graph_after g batch).edges ≡ weight_after g.edges batch p
weight_through g batch p ok fit =
    weight_in-weighed (weight_after g.edges batch) (all_ends (vertices_after g.vertices batch)) p ∙ all_weights g batch p (weight_after g.edges batch p) ok fit refl

ascending_after : (g : Digraph) (batch : List Entry) → IsDigraph g → misfits g.vertices batch ≡ false → IsAscending (graph_after g batch).edges
ascending_after g batch ok fit =
    let n = vertices_after g.vertices batch in
    rises_all (weight_after g.edges batch) n (omega (arith, few_vertices n (count_after g.vertices batch ok.count fit)))

pub digraph_next : (g : Digraph) (batch : List Entry) → IsDigraph g → misfits g.vertices batch ≡ false → IsDigraph (graph_after g batch)
digraph_next g batch ok fit =
    digraph_after g batch (graph_after g batch).edges ok fit (record { ascending = ascending_after g batch ok fit; weights = λ p. weight_through g batch p ok fit })

pub digraph_through : (g : Digraph) (batches : List (List Entry)) → IsDigraph g → EachFits g batches → IsDigraph (graph_through g batches)
digraph_through g [] ok fit = ok
digraph_through g (batch ∷ batches) ok fit = digraph_through (graph_after g batch) batches (digraph_next g batch ok fit.0) fit.1

-- an edge that a batch does not name stays
weight_stays : (g : Digraph) (batch : List Entry) (p : Ends) → IsDigraph g → misfits g.vertices batch ≡ false → is_listed (named_in batch) p.0 p.1 ≡ false
    → weight_in p (graph_after g batch).edges ≡ weight_in p g.edges
weight_stays g batch p ok fit off =
    weight_through g batch p ok fit ∙ ap (λ (o : Option (Option ℤ)). unwrap_or o (weight_in p g.edges)) (none_decides batch p (none_names batch p off))

-- ends that neither of two lists has
off_both : (ps qs : List Ends) (p : Ends) → is_listed (ps ++ qs) p.0 p.1 ≡ false → (is_listed ps p.0 p.1 ≡ false) × (is_listed qs p.0 p.1 ≡ false)
off_both ps qs p off =
    or_parts (is_listed ps p.0 p.1) (is_listed qs p.0 p.1) (sym (list_any-append (λ (q : Ends). (q.0 == p.0) && (q.1 == p.1)) ps qs) ∙ off)

pub weights_stay : (g : Digraph) (batches : List (List Entry)) (p : Ends) → IsDigraph g → EachFits g batches → is_listed (named_in_all batches) p.0 p.1 ≡ false
    → weight_in p (graph_through g batches).edges ≡ weight_in p g.edges
weights_stay g [] p ok fit off = refl
weights_stay g (batch ∷ batches) p ok fit off =
    let parts = off_both (named_in batch) (named_in_all batches) p off in
    weights_stay (graph_after g batch) batches p (digraph_next g batch ok fit.0) fit.1 parts.1 ∙ weight_stays g batch p ok fit.0 parts.0

-- the edges that are not listed
abbrev unlisted : List Ends → Edge → Bool
unlisted listed e = not (is_listed listed e.0 e.1)

rises_kept : (listed : List Ends) (low high : ℕ) (e : Edge) (es : List Edge) (b : Bool) → low ≤ index (ends_of e) → e.1 < 2 ^ 32 → EdgesRise (index (ends_of e) + 1) high es
    → EdgesRise low high (cond b (e ∷ es) es)
rises_kept listed low high e es true from small up = (from, small, up)
rises_kept listed low high e es false from small up = rises_from (index (ends_of e) + 1) low high es (omega (arith, from)) up

rises_unlisted : (listed : List Ends) (low high : ℕ) (es : List Edge) → EdgesRise low high es → EdgesRise low high (filter (unlisted listed) es)
rises_unlisted listed low high [] up = up
rises_unlisted listed low high (e ∷ es) up =
    rises_kept listed low high e (filter (unlisted listed) es) (unlisted listed e) up.0 up.1
    (rises_unlisted listed (index (ends_of e) + 1) high es up.2)

-- their weights
kept_weight : (listed : List Ends) (e : Edge) (p : Ends) (all rest : Option ℤ) (kept : List Edge) (here off : Bool) → is_listed listed p.0 p.1 ≡ false
    → ends_eq (ends_of e) p ≡ here → is_listed listed e.0 e.1 ≡ off → weight_in p kept ≡ rest
    → weight_in p (cond (not off) (e ∷ kept) kept) ≡ cond here (Some e.2) rest
kept_weight listed e p all rest kept true true out at is more =
    absurd (false≢true (sym out ∙ ap (λ (q : Ends). is_listed listed q.0 q.1) (sym (ends_eq-true (ends_of e) p at)) ∙ is))
kept_weight listed e p all rest kept false true out at is more = more
kept_weight listed e p all rest kept here false out at is more =
    ap (λ (b : Bool). cond b (Some e.2) (weight_in p kept)) at ∙ ap (λ (o : Option ℤ). cond here (Some e.2) o) more

weight_kept : (listed : List Ends) (es : List Edge) (p : Ends) → is_listed listed p.0 p.1 ≡ false → weight_in p (filter (unlisted listed) es) ≡ weight_in p es
weight_kept listed [] p out = refl
weight_kept listed (e ∷ es) p out =
    kept_weight listed e p None (weight_in p es) (filter (unlisted listed) es) (ends_eq (ends_of e) p) (is_listed listed e.0 e.1) out refl refl (weight_kept listed es p out)

left_weight : (listed : List Ends) (e : Edge) (p : Ends) (kept : List Edge) (here off : Bool) → is_listed listed p.0 p.1 ≡ true
    → ends_eq (ends_of e) p ≡ here → is_listed listed e.0 e.1 ≡ off → weight_in p kept ≡ None
    → weight_in p (cond (not off) (e ∷ kept) kept) ≡ None
left_weight listed e p kept here true on at is more = more
left_weight listed e p kept true false on at is more =
    absurd (false≢true (sym is ∙ ap (λ (q : Ends). is_listed listed q.0 q.1) (ends_eq-true (ends_of e) p at) ∙ on))
left_weight listed e p kept false false on at is more = ap (λ (b : Bool). cond b (Some e.2) (weight_in p kept)) at ∙ more

none_listed : (listed : List Ends) (es : List Edge) (p : Ends) → is_listed listed p.0 p.1 ≡ true → weight_in p (filter (unlisted listed) es) ≡ None
none_listed listed [] p on = refl
none_listed listed (e ∷ es) p on =
    left_weight listed e p (filter (unlisted listed) es) (ends_eq (ends_of e) p) (is_listed listed e.0 e.1) on refl refl (none_listed listed es p on)

weight_at : (listed : List Ends) (es fs : List Edge) (p : Ends) (b : Bool) → is_listed listed p.0 p.1 ≡ b → (is_listed listed p.0 p.1 ≡ false → weight_in p es ≡ weight_in p fs)
    → weight_in p (filter (unlisted listed) es) ≡ weight_in p (filter (unlisted listed) fs)
weight_at listed es fs p true on same = none_listed listed es p on ∙ sym (none_listed listed fs p on)
weight_at listed es fs p false out same = weight_kept listed es p out ∙ same out ∙ sym (weight_kept listed fs p out)

-- edges that have the same weights but for the listed ones
pub same_but : (listed : List Ends) (es fs : List Edge) → IsAscending es → IsAscending fs → ((p : Ends) → is_listed listed p.0 p.1 ≡ false → weight_in p es ≡ weight_in p fs) → AreSameBut listed es fs
same_but listed es fs up also same =
    same_edges 0 0 (2 ^ 64) (2 ^ 64) (filter (unlisted listed) es) (filter (unlisted listed) fs) (rises_unlisted listed 0 (2 ^ 64) es up) (rises_unlisted listed 0 (2 ^ 64) fs also)
    (λ p. weight_at listed es fs p (is_listed listed p.0 p.1) refl (same p))

not_named : (named listed : Bool) → (named ≡ true → listed ≡ true) → listed ≡ false → named ≡ false
not_named true listed more off = absurd (false≢true (sym off ∙ more refl))
not_named false listed more off = refl

-- all that batches name is all that they change
pub all_changed : (g : Digraph) (batches : List (List Entry)) (listed : List Ends) → IsDigraph g → EachFits g batches
    → ((u v : ℕ) → is_listed (named_in_all batches) u v ≡ true → is_listed listed u v ≡ true) → AreSameBut listed (graph_through g batches).edges g.edges
all_changed g batches listed ok fit all =
    same_but listed (graph_through g batches).edges g.edges (digraph_through g batches ok fit).ascending ok.ascending
    (λ p out. weights_stay g batches p ok fit (not_named (is_listed (named_in_all batches) p.0 p.1) (is_listed listed p.0 p.1) (all p.0 p.1) out))
