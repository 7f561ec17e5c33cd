-- The edges that the last commits named, and what they say of two versions.
use Rattle.std.proofs.Common.{◌≡◌, ℕ, ◌+◌, ◌<◌, ◌≤◌, nat_lt, Bool, true, false, cond, ◌-◌, Option, Some, None, option_to_list, IfSome, Vec, Global, List, [], ◌∷◌, ◌++◌, length, take, drop, get_or}
use Rattle.std.proofs.Common.{inl, inr, refl, sym, ap, ap₂, ◌∙◌, subst, arith}
use Rattle.std.proofs.lemmas.Bool.{cases_lt, le-ltb, lt-ltb, ltb-false, or_from, or_parts}
use Rattle.std.proofs.lemmas.List.{append-nil, append_assoc, drop-append-le, drop_all, drop_more, length-append, map-append, take-append-drop, take_more, take_rest}
use Rattle.std.proofs.lemmas.List.Folds.{list_any-append}
use Rattle.std.specs.List.{list_any}
use Rattle.tree_batch.specs.declared.batch.Entry.{Entry as Change}
use Rattle.tree_batch.specs.Edge.{Ends, named_by, vertices_after}
use Rattle.tree_batch.specs.Digraph.{Digraph, IsDigraph, empty_graph, graph_after, graph_through, is_vertex_count}
use Rattle.edge_differences.specs.Listed.{AreAscending, is_listed}
use Rattle.edge_differences.specs.Named.{EachFits, named_in, named_in_all}
use Rattle.version_list.specs.declared.step.Done.{Done}
use Rattle.version_list.specs.Machine.{State, commits_of, newest_number, opened, version_graph}
use Rattle.version_list.specs.Since.{grows}
use Rattle.version_list.specs.Timeline.{IsLegal, replay}
use Rattle.version_list.proofs.Commits.{replay_commits, replay_opening}
use Rattle.version_list.proofs.LastBatches.{AreSince, edges_since_are, empty_is_digraph, graph_through-append, legal_fits}
use Rattle.edge_differences.proofs.Unnamed.{digraph_through}
use Rattle.shared_graph.specs.declared.entry.Entry.{Entry}
use Rattle.shared_graph.specs.declared.recent_edges.NamedEdge.{NamedEdge}
use Rattle.shared_graph.specs.declared.recent_edges.RecentEdges.{RecentEdges}
use Rattle.shared_graph.specs.Differences.{AreEdgesSince}
use Rattle.shared_graph.specs.Histories.{steps_of, state_at}
use Rattle.shared_graph.specs.inside.Recent.{AreRecent, edges_of_version, named_after}

cond_append : {A : Type 0} (b : Bool) (x : A) (xs ys : List A) → cond b (x ∷ xs) xs ++ ys ≡ cond b (x ∷ (xs ++ ys)) (xs ++ ys)
cond_append true x xs ys = refl
cond_append false x xs ys = refl

pub after_append : (k : ℕ) (es fs : List NamedEdge) → named_after k (es ++ fs) ≡ named_after k es ++ named_after k fs
after_append k [] fs = refl
after_append k (e ∷ es) fs =
    ap (λ (ps : List Ends). cond (nat_lt k e.version) ((e.source, e.destination) ∷ ps) ps) (after_append k es fs)
    ∙ sym (cond_append (nat_lt k e.version) (e.source, e.destination) (named_after k es) (named_after k fs))

of_later : (k version : ℕ) (ps : List Ends) → k < version → named_after k (edges_of_version version ps) ≡ ps
of_later k version [] later = refl
of_later k version (p ∷ ps) later =
    let is : nat_lt k version ≡ true = lt-ltb k version later in
    rw (is) (ap (λ (qs : List Ends). p ∷ qs) (of_later k version ps later))

of_earlier : (k version : ℕ) (ps : List Ends) → version ≤ k → named_after k (edges_of_version version ps) ≡ []
of_earlier k version [] earlier = refl
of_earlier k version (p ∷ ps) earlier =
    let is : nat_lt k version ≡ false = le-ltb k version earlier in
    rw (is) (of_earlier k version ps earlier)

named_append : (bs more : List (List Change)) → named_in_all (bs ++ more) ≡ named_in_all bs ++ named_in_all more
named_append [] more = refl
named_append (b ∷ bs) more = ap (λ (ps : List Ends). named_in b ++ ps) (named_append bs more) ∙ sym (append_assoc (named_in b) (named_in_all bs) (named_in_all more))

-- the first edges, all of versions up to this one, do not count from it on
pub dropped_more : (k i since version : ℕ) (es : List NamedEdge) (e : NamedEdge) → i < length es → e ≡ get_or es i e → e.version ≤ k
    → named_after k (drop (i + 1) es) ≡ named_after k (drop i es)
dropped_more k i since version es e inside is old =
    let none : nat_lt k e.version ≡ false = le-ltb k e.version old in
    let here : drop i es ≡ e ∷ drop (i + 1) es = drop_more es i e inside ∙ ap (λ (x : NamedEdge). x ∷ drop (i + 1) es) (sym is) in
    sym (ap (named_after k) here ∙ rw (none) refl)

-- one more edge
pub after_more : (k i : ℕ) (es : List NamedEdge) (e : NamedEdge) → i < length es → e ≡ get_or es i e
    → named_after k (take (i + 1) es) ≡ named_after k (take i es) ++ cond (nat_lt k e.version) ((e.source, e.destination) ∷ []) []
after_more k i es e inside is =
    ap (named_after k) (take_more es i e inside ∙ ap (λ (x : NamedEdge). take i es ++ x ∷ []) (sym is)) ∙ after_append k (take i es) (e ∷ [])

named_pushed : (xs : List Change) (x : Change) → named_in (xs ++ x ∷ []) ≡ named_in xs ++ option_to_list (named_by x)
named_pushed [] x = append-nil (option_to_list (named_by x))
named_pushed (y ∷ xs) x =
    ap (λ (ps : List Ends). option_to_list (named_by y) ++ ps) (named_pushed xs x) ∙ sym (append_assoc (option_to_list (named_by y)) (named_in xs) (option_to_list (named_by x)))

abbrev named_edge : ℕ → Ends → NamedEdge
named_edge version p = record { version = version; source = p.0; destination = p.1 }

-- one more entry of a batch
pub edges_more : (version : ℕ) (xs : List Change) (i : ℕ) (x : Change) (o : Option Ends) (was now next : List NamedEdge) → i < length xs → o ≡ named_by (get_or xs i x)
    → now ≡ was ++ edges_of_version version (named_in (take i xs)) → next ≡ now ++ edges_of_version version (option_to_list o)
    → next ≡ was ++ edges_of_version version (named_in (take (i + 1) xs))
edges_more version xs i x o was now next inside is so more =
    let before : List Ends = named_in (take i xs) in
    let named : before ++ option_to_list o ≡ named_in (take (i + 1) xs) =
    ap (λ (e : Option Ends). before ++ option_to_list e) is ∙ sym (ap named_in (take_more xs i x inside) ∙ named_pushed (take i xs) (get_or xs i x)) in
    more
    ∙ ap (λ (es : List NamedEdge). es ++ edges_of_version version (option_to_list o)) so
    ∙ append_assoc was (edges_of_version version before) (edges_of_version version (option_to_list o))
    ∙ ap (λ (es : List NamedEdge). was ++ es) (sym (map-append (named_edge version) before (option_to_list o)))
    ∙ ap (λ (ps : List Ends). was ++ edges_of_version version ps) named

-- no batch followed the version since which edges are known
pub none_recent : (batches : List (List Change)) (recent : RecentEdges) → length batches ≤ recent.since → recent.named.items ≡ [] → AreRecent batches recent
none_recent batches recent past none = record {
  named = λ k from. ap (named_after k) none ∙ sym (ap named_in_all (drop_all k batches (omega (arith, past, from))));
  steady = λ k from. ap (list_any grows) (drop_all k batches (omega (arith, past, from)));
}

-- one more batch
module _ (batches : List (List Change)) (batch : List Change) (old new : RecentEdges) (version : ℕ) (kept : List NamedEdge) (next : length batches + 1 ≡ version)
    (are : AreRecent batches old) (later : old.since ≤ new.since) (same : (k : ℕ) → new.since ≤ k → named_after k kept ≡ named_after k old.named.items)
    (steady : grows batch ≡ false) (named : new.named.items ≡ kept ++ edges_of_version version (named_in batch)) where
  abbrev all : List (List Change)
  all = batches ++ batch ∷ []

  named_now : (k : ℕ) → new.since ≤ k → named_after k new.named.items ≡ named_in_all (drop k batches) ++ named_after k (edges_of_version version (named_in batch))
  named_now k from =
      ap (named_after k) named ∙ after_append k kept (edges_of_version version (named_in batch))
      ∙ ap (λ (ps : List Ends). ps ++ named_after k (edges_of_version version (named_in batch))) (same k from ∙ are.named k (omega (arith, later, from)))

  named_before : (k : ℕ) → new.since ≤ k → k ≤ length batches → named_after k new.named.items ≡ named_in_all (drop k all)
  named_before k from made =
      named_now k from
      ∙ ap (λ (ps : List Ends). named_in_all (drop k batches) ++ ps) (of_later k version (named_in batch) (omega (arith, made, next)) ∙ sym (append-nil (named_in batch)))
      ∙ sym (ap named_in_all (drop-append-le k batches (batch ∷ []) made) ∙ named_append (drop k batches) (batch ∷ []))

  none_left : (k : ℕ) → length batches < k → drop k all ≡ []
  none_left k past = drop_all k all (omega (arith, past, length-append batches (batch ∷ [])))

  named_past : (k : ℕ) → new.since ≤ k → length batches < k → named_after k new.named.items ≡ named_in_all (drop k all)
  named_past k from past =
      named_now k from
      ∙ ap₂ (λ (ps qs : List Ends). ps ++ qs) (ap named_in_all (drop_all k batches (omega (arith, past)))) (of_earlier k version (named_in batch) (omega (arith, past, next)))
      ∙ sym (ap named_in_all (none_left k past))

  steady_before : (k : ℕ) → new.since ≤ k → k ≤ length batches → list_any grows (drop k all) ≡ false
  steady_before k from made =
      ap (list_any grows) (drop-append-le k batches (batch ∷ []) made) ∙ list_any-append grows (drop k batches) (batch ∷ [])
      ∙ or_from (list_any grows (drop k batches)) (list_any grows (batch ∷ [])) (are.steady k (omega (arith, later, from))) (or_from (grows batch) false steady refl)

  pub recent_more : AreRecent all new
  recent_more = record {
    named = λ k from. elim (cases_lt (length batches) k) [ inl past ↦ named_past k from past | inr made ↦ named_before k from made ];
    steady = λ k from. elim (cases_lt (length batches) k) [
      | inl past ↦ ap (list_any grows) (none_left k past)
      | inr made ↦ steady_before k from made
    ];
  }

-- the edges that are left if the first go
pub rest_kept : (items again kept : List NamedEdge) (start : ℕ) → again ≡ items → kept ≡ [] ++ take (length again - start) (drop start again) → kept ≡ drop start items
rest_kept items again kept start same is = is ∙ take_rest again start ∙ ap (drop start) same

-- batches that ask for no number of vertices leave it as it is
stays_after : (n : ℕ) (batch : List Change) → grows batch ≡ false → vertices_after n batch ≡ n
stays_after n batch none =
    let small = ltb-false 0 (vertices_after 0 batch) none in
    omega (arith, small)

vertices_stay : (g : Digraph) (batches : List (List Change)) → list_any grows batches ≡ false → (graph_through g batches).vertices ≡ g.vertices
vertices_stay g [] none = refl
vertices_stay g (batch ∷ batches) none =
    let parts = or_parts (grows batch) (list_any grows batches) none in
    vertices_stay (graph_after g batch) batches parts.1 ∙ stays_after g.vertices batch parts.0

fits_split : (g : Digraph) (first last : List (List Change)) → EachFits g (first ++ last) → EachFits g first × EachFits (graph_through g first) last
fits_split g [] last fits = (tt, fits)
fits_split g (batch ∷ first) last fits =
    let rest = fits_split (graph_after g batch) first last fits.1 in
    ((fits.0, rest.0), rest.1)

-- the batches after version k of a legal history lead from it to the newest version
since_at : (n room : ℕ) (history : List Done) (k : ℕ) → is_vertex_count n ≡ true → IsLegal (opened n room) history → k ≤ newest_number (replay (opened n room) history)
    → AreSince (replay (opened n room) history) k (drop k (replay (opened n room) history).batches)
since_at n room history k count legal made =
    let base : State = opened n room in
    let s : State = replay base history in
    let bs : List (List Change) = s.batches in
    let committed : bs ≡ commits_of history = replay_commits base history legal in
    let opening : s.opening ≡ empty_graph n = replay_opening base history in
    let parts : take k bs ++ drop k bs ≡ bs = take-append-drop k bs in
    let fits = fits_split (empty_graph n) (take k bs) (drop k bs) (subst (EachFits (empty_graph n)) (sym (parts ∙ committed)) (legal_fits base history legal)) in
    let version : version_graph s k ≡ graph_through (empty_graph n) (take k bs) = ap (λ (g : Digraph). graph_through g (take k bs)) opening in
    record {
      made = made;
      all = refl;
      lead = ap (graph_through s.opening) (sym parts) ∙ graph_through-append s.opening (take k bs) (drop k bs);
      digraph = subst IsDigraph (sym version) (digraph_through (empty_graph n) (take k bs) (empty_is_digraph n count) fits.0);
      fit = subst (λ (g : Digraph). EachFits g (drop k bs)) (sym version) fits.1;
    }

-- what the edges that the last commits named say of an earlier version
pub edges_since : (n room : ℕ) (log : List Entry) (recent : RecentEdges) (k : ℕ) (ends : List Ends) → is_vertex_count n ≡ true → IsLegal (opened n room) (steps_of log)
    → AreRecent (state_at (opened n room) log).batches recent → recent.since ≤ k → k ≤ newest_number (state_at (opened n room) log) → AreAscending ends
    → ((u v : ℕ) → is_listed ends u v ≡ is_listed (named_after k recent.named.items) u v) → AreEdgesSince (state_at (opened n room) log) k ends
edges_since n room log recent k ends count legal are from made ascend listed =
    let s : State = state_at (opened n room) log in
    let since : AreSince s k (drop k s.batches) = since_at n room (steps_of log) k count legal made in
    record {
      made = made;
      edges = (edges_since_are s k (drop k s.batches) since ends (λ u v. listed u v ∙ ap (λ (ps : List Ends). is_listed ps u v) (are.named k from))).1;
      vertices = ap (λ (g : Digraph). g.vertices) since.lead ∙ vertices_stay (version_graph s k) (drop k s.batches) (are.steady k from);
      ascending = ascend;
    }

-- the edges that a reader is given
pub edges_given : (n room : ℕ) (log : List Entry) (recent : RecentEdges) (k newest : ℕ) (found : Option (Vec Ends Global)) → is_vertex_count n ≡ true → IsLegal (opened n room) (steps_of log)
    → AreRecent (state_at (opened n room) log).batches recent → newest ≡ newest_number (state_at (opened n room) log)
    → IfSome found (λ ends. (recent.since ≤ k) × (k ≤ newest)) → IfSome found (λ ends. AreAscending ends.items)
    → IfSome found (λ ends. (u v : ℕ) → is_listed ends.items u v ≡ is_listed (named_after k recent.named.items) u v)
    → IfSome found (λ ends. AreEdgesSince (state_at (opened n room) log) k ends.items)
edges_given n room log recent k newest None count legal are is known ascend listed = tt
edges_given n room log recent k newest (Some ends) count legal are is known ascend listed =
    edges_since n room log recent k ends.items count legal are known.0 (omega (arith, known.1, is)) ascend listed
