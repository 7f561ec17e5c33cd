-- The batches at the end of a legal history, and the edges that they name.
use Rattle.std.proofs.Common.{◌≡◌, ℕ, suc, ◌+◌, ◌-◌, ◌<◌, ◌≤◌, nat_le, Bool, true, false, not, ◌&&◌, ◌||◌, List, [], ◌∷◌, ◌++◌, length, take, drop, get_or, inl, inr, refl, sym, ap, ◌∙◌, subst}
use Rattle.std.proofs.Common.{append_assoc, arith, length-append, length-drop, add-one}
use Rattle.std.proofs.Math.Seq.{drop-append_seam, drop-cons, take-append_seam}
use Rattle.std.proofs.lemmas.Bool.{false≢true, and_from, and_left, and_right, cases_Bool, le-leb, lt-leb, ltb-false, not_from_true, or_from, or_left, or_parts, or_right}
use Rattle.std.proofs.lemmas.List.{append-nil, take-append-drop, take_all, take_more}
use Rattle.std.proofs.lemmas.List.Folds.{list_any-append}
use Rattle.std.specs.List.{list_any}
use Rattle.tree_batch.specs.declared.batch.Entry.{Entry}
use Rattle.tree_batch.specs.Edge.{Ends, misfits, vertices_after}
use Rattle.tree_batch.specs.Digraph.{Digraph, IsDigraph, empty_graph, graph_after, graph_through, is_vertex_count}
use Rattle.edge_differences.specs.Listed.{AreSameBut, is_listed}
use Rattle.edge_differences.specs.Named.{EachFits, named_in, named_in_all}
use Rattle.edge_differences.proofs.Unnamed.{all_changed, digraph_through}
use Rattle.version_list.specs.declared.step.Step.{Step}
use Rattle.version_list.specs.declared.step.Step.TheVariants.{Commit, Acquire, Release, Trim}
use Rattle.version_list.specs.declared.step.Done.{Done}
use Rattle.version_list.specs.Machine.{State, committed_by, commits_of, newest_graph, newest_number, reply_to, state_after, version_graph}
use Rattle.version_list.specs.Timeline.{Timeline, IsAccepted, IsLegal, replay}
use Rattle.version_list.specs.inside.Fields.{IsFaithful, base, timeline}
use Rattle.version_list.specs.declared.versions.Versions.TheInside.{Inside}
use Rattle.version_list.specs.Since.{are_listable, batches_since, entry_count, grows, lists_since}
use Rattle.version_list.proofs.Commits.{commits_append, opening_kept, replay_commits, replay_opening, step_adds}

-- a graph through more batches
pub graph_through-append : (g : Digraph) (first last : List (List Entry)) → graph_through g (first ++ last) ≡ graph_through (graph_through g first) last
graph_through-append g [] last = refl
graph_through-append g (batch ∷ first) last = graph_through-append (graph_after g batch) first last

fits_append : (g : Digraph) (first last : List (List Entry)) → EachFits g first → EachFits (graph_through g first) last → EachFits g (first ++ last)
fits_append g [] last fits more = more
fits_append g (batch ∷ first) last fits more = (fits.0, fits_append (graph_after g batch) first last fits.1 more)

fits_split : (g : Digraph) (first last : List (List Entry)) → EachFits g (first ++ last) → EachFits g first × EachFits (graph_through g first) last
fits_split g [] last fits = (tt, fits)
fits_split g (batch ∷ first) last fits =
    let rest = fits_split (graph_after g batch) first last fits.1 in
    ((fits.0, rest.0), rest.1)

-- the batch of an accepted step fits the newest graph
commit_fits : (s : State) (batch : List Entry) → IsAccepted (reply_to s (Commit batch)) → misfits (newest_graph s).vertices batch ≡ false
commit_fits s batch accepted = elim (cases_Bool (misfits (newest_graph s).vertices batch)) [
  | inl outside ↦ absurd (rw (outside) at accepted)
  | inr inside ↦ inside
]

step_fits : (s : State) (step : Step) → IsAccepted (reply_to s step) → EachFits (newest_graph s) (committed_by step)
step_fits s (Commit batch) accepted = (commit_fits s batch accepted, tt)
step_fits s (Acquire which) accepted = tt
step_fits s (Release number) accepted = tt
step_fits s Trim accepted = tt

step_leads : (s : State) (step : Step) → IsAccepted (reply_to s step) → newest_graph (state_after s step) ≡ graph_through (newest_graph s) (committed_by step)
step_leads s step accepted =
    ap (λ (g : Digraph). graph_through g (state_after s step).batches) (opening_kept s step (reply_to s step))
    ∙ ap (graph_through s.opening) (step_adds s step accepted)
    ∙ graph_through-append s.opening s.batches (committed_by step)

pub legal_fits : (s : State) (history : List Done) → IsLegal s history → EachFits (newest_graph s) (commits_of history)
legal_fits s [] legal = tt
legal_fits s (done ∷ history) legal =
    let accepted : IsAccepted (reply_to s done.step) = subst IsAccepted (sym legal.0) legal.1 in
    fits_append (newest_graph s) (committed_by done.step) (commits_of history) (step_fits s done.step accepted)
    (subst (λ (g : Digraph). EachFits g (commits_of history)) (step_leads s done.step accepted) (legal_fits (state_after s done.step) history legal.2))

replay_leads : (s : State) (history : List Done) → IsLegal s history → newest_graph (replay s history) ≡ graph_through (newest_graph s) (commits_of history)
replay_leads s history legal =
    ap (λ (g : Digraph). graph_through g (replay s history).batches) (replay_opening s history)
    ∙ ap (graph_through s.opening) (replay_commits s history legal)
    ∙ graph_through-append s.opening s.batches (commits_of history)

-- the newest graph stays a graph
pub empty_is_digraph : (n : ℕ) → is_vertex_count n ≡ true → IsDigraph (empty_graph n)
empty_is_digraph n is = record { count = is; ascending = omega arith; within = λ p w no. absurd cc }

pub replay_is_digraph : (s : State) (history : List Done) → IsLegal s history → IsDigraph (newest_graph s) → IsDigraph (newest_graph (replay s history))
replay_is_digraph s history legal ok =
    subst IsDigraph (sym (replay_leads s history legal)) (digraph_through (newest_graph s) (commits_of history) ok (legal_fits s history legal))

pub step_is_digraph : (s : State) (step : Step) → IsAccepted (reply_to s step) → IsDigraph (newest_graph s) → IsDigraph (newest_graph (state_after s step))
step_is_digraph s step accepted ok =
    subst IsDigraph (sym (step_leads s step accepted)) (digraph_through (newest_graph s) (committed_by step) ok (step_fits s step accepted))

-- the last batches, which lead from version k to the newest version
pub record AreSince (s : State) (k : ℕ) (batches : List (List Entry)) : Type 0 where
  pub made : k ≤ newest_number s
  pub all : batches_since s k ≡ batches
  pub lead : newest_graph s ≡ graph_through (version_graph s k) batches
  pub digraph : IsDigraph (version_graph s k)
  pub fit : EachFits (version_graph s k) batches

module _ (s : State) (history : List Done) (legal : IsLegal s history) (ok : IsDigraph (newest_graph s)) (start k : ℕ)
    (as_many : length (commits_of (drop start history)) + k ≡ newest_number (replay s history)) where
  abbrev earlier : List (List Entry)
  earlier = commits_of (take start history)

  abbrev later : List (List Entry)
  later = commits_of (drop start history)

  parts : commits_of history ≡ earlier ++ later
  parts = ap commits_of (sym (take-append-drop start history)) ∙ commits_append (take start history) (drop start history)

  batches_are : (replay s history).batches ≡ (s.batches ++ earlier) ++ later
  batches_are = replay_commits s history legal ∙ ap (λ (bs : List (List Entry)). s.batches ++ bs) parts ∙ sym (append_assoc s.batches earlier later)

  seam : length (s.batches ++ earlier) ≡ k
  seam = omega (arith, as_many, ap length batches_are, length-append (s.batches ++ earlier) later)

  pub is_after_begin : newest_number s ≤ k
  is_after_begin = omega (arith, seam, length-append s.batches earlier)

  fits : EachFits (newest_graph s) earlier × EachFits (graph_through (newest_graph s) earlier) later
  fits = fits_split (newest_graph s) earlier later (subst (EachFits (newest_graph s)) parts (legal_fits s history legal))

  version_is : version_graph (replay s history) k ≡ graph_through (newest_graph s) earlier
  version_is =
      ap (λ (g : Digraph). graph_through g (take k (replay s history).batches)) (replay_opening s history)
      ∙ ap (λ (bs : List (List Entry)). graph_through s.opening (take k bs)) batches_are
      ∙ ap (λ (j : ℕ). graph_through s.opening (take j ((s.batches ++ earlier) ++ later))) (sym seam)
      ∙ ap (graph_through s.opening) (take-append_seam (s.batches ++ earlier) later)
      ∙ graph_through-append s.opening s.batches earlier

  newest_is : newest_graph (replay s history) ≡ graph_through (graph_through (newest_graph s) earlier) later
  newest_is = replay_leads s history legal ∙ ap (graph_through (newest_graph s)) parts ∙ graph_through-append (newest_graph s) earlier later

  pub are_since : AreSince (replay s history) k later
  are_since = record {
    made = omega (arith, as_many);
    all =
        ap (drop k) batches_are ∙ ap (λ (j : ℕ). drop j ((s.batches ++ earlier) ++ later)) (sym seam) ∙ drop-append_seam (s.batches ++ earlier) later;
    lead = newest_is ∙ ap (λ (g : Digraph). graph_through g later) (sym version_is);
    digraph = subst IsDigraph (sym version_is) (digraph_through (newest_graph s) earlier ok fits.0);
    fit = subst (λ (g : Digraph). EachFits g later) (sym version_is) fits.1;
  }

-- what versions say of their last batches
pub record AreLast (t : Timeline) (k : ℕ) (batches : List (List Entry)) : Type 0 where
  pub since : AreSince t.state k batches
  pub begun : newest_number t.base ≤ k

pub are_last : (a : Inside) (kept : IsFaithful a) (t : Timeline) → timeline a ≡ t → (items : List Done) → items ≡ a.history.items → (start k count : ℕ)
    → length (commits_of (drop start items)) ≡ count → k ≤ a.number × count ≡ a.number - k → AreLast t k (commits_of (drop start items))
are_last a kept t view items are start k count as_many counted =
    let same : commits_of (drop start a.history.items) ≡ commits_of (drop start items) = ap (λ (ds : List Done). commits_of (drop start ds)) (sym are) in
    let all : length (commits_of (drop start a.history.items)) + k ≡ newest_number (timeline a).state = omega (arith, ap length same, as_many, counted, kept.state.number) in
    subst (λ (u : Timeline). AreLast u k (commits_of (drop start items))) view (record {
      since =
          subst (AreSince (timeline a).state k) same (are_since (base a) a.history.items kept.legal kept.begun start k all);
      begun = is_after_begin (base a) a.history.items kept.legal kept.begun start k all;
    })

-- the batches of a history are too few to lead there from version k
pub begins_after : (a : Inside) (kept : IsFaithful a) (t : Timeline) → timeline a ≡ t → (items : List Done) → items ≡ a.history.items → (k count : ℕ)
    → length (commits_of items) < count → k ≤ a.number × count ≡ a.number - k → k < newest_number t.base
begins_after a kept t view items are k count few counted =
    subst (λ (u : Timeline). k < newest_number u.base) view
    (omega (
      arith,
      few,
      counted,
      kept.state.number,
      ap (λ (ds : List Done). length (commits_of ds)) are,
      ap length (replay_commits (base a) a.history.items kept.legal),
      length-append (base a).batches (commits_of a.history.items),
    ))

-- batches that ask for no number of vertices leave it as it is
stays_after : (n : ℕ) (batch : List Entry) → grows batch ≡ false → vertices_after n batch ≡ n
stays_after n batch none =
    let small = ltb-false 0 (vertices_after 0 batch) none in
    omega (arith, small)

vertices_stay : (g : Digraph) (batches : List (List Entry)) → list_any grows batches ≡ false → (graph_through g batches).vertices ≡ g.vertices
vertices_stay g [] none = refl
vertices_stay g (batch ∷ batches) none =
    let parts = or_parts (grows batch) (list_any grows batches) none in
    vertices_stay (graph_after g batch) batches parts.1 ∙ stays_after g.vertices batch parts.0

module _ (s : State) (k : ℕ) (batches : List (List Entry)) (since : AreSince s k batches) where
  pub edges_since_are : (ends : List Ends) → ((u v : ℕ) → is_listed ends u v ≡ is_listed (named_in_all batches) u v)
      → (k ≤ newest_number s) × AreSameBut ends (newest_graph s).edges (version_graph s k).edges
  edges_since_are ends are = (
    since.made,
    subst (λ (g : Digraph). AreSameBut ends g.edges (version_graph s k).edges) (sym since.lead)
        (all_changed (version_graph s k) batches ends since.digraph since.fit (λ u v on. are u v ∙ on)),
  )

  pub vertices_since_stay : (most : ℕ) → are_listable most batches ≡ true → (newest_graph s).vertices ≡ (version_graph s k).vertices
  vertices_since_stay most may = elim (cases_Bool (list_any grows batches)) [
    | inl some ↦ absurd (false≢true (sym (and_left (not (list_any grows batches)) (nat_le (entry_count batches) most) (not_from_true (list_any grows batches) some)) ∙ may))
    | inr none ↦ ap (λ (g : Digraph). g.vertices) since.lead ∙ vertices_stay (version_graph s k) batches none
  ]

-- what of a list of batches can be listed
any_pushed : (bs : List (List Entry)) (more : List (List Entry)) → list_any grows bs ≡ false → list_any grows more ≡ false → list_any grows (bs ++ more) ≡ false
any_pushed bs more none also = list_any-append grows bs more ∙ or_from (list_any grows bs) (list_any grows more) none also

pub count-append : (bs more : List (List Entry)) → entry_count (bs ++ more) ≡ entry_count bs + entry_count more
count-append [] more = omega arith
count-append (b ∷ bs) more =
    let rest = count-append bs more in
    omega (arith, rest)

named-append : (bs more : List (List Entry)) → named_in_all (bs ++ more) ≡ named_in_all bs ++ named_in_all more
named-append [] more = refl
named-append (b ∷ bs) more = ap (λ (ps : List Ends). named_in b ++ ps) (named-append bs more) ∙ sym (append_assoc (named_in b) (named_in_all bs) (named_in_all more))

-- one more step
pub commits_more : (history : List Done) (i : ℕ) (done : Done) → i < length history → done ≡ get_or history i done → commits_of (take (i + 1) history) ≡ commits_of (take i history) ++ committed_by done.step
commits_more history i done inside is =
    ap commits_of (take_more history i done inside)
    ∙ commits_append (take i history) (get_or history i done ∷ [])
    ∙ ap (λ (d : Done). commits_of (take i history) ++ (committed_by d.step ++ [])) (sym is)
    ∙ ap (λ (bs : List (List Entry)). commits_of (take i history) ++ bs) (append-nil (committed_by done.step))

-- one more step at the front
pub commits_dropped : (history : List Done) (i : ℕ) (done : Done) → i < length history → done ≡ get_or history i done
    → commits_of (drop i history) ≡ committed_by done.step ++ commits_of (drop (i + 1) history)
commits_dropped history i done inside is =
    ap commits_of (drop-cons history i done inside)
    ∙ ap (λ (d : Done). committed_by d.step ++ commits_of (drop (suc i) history)) (sym is)
    ∙ ap (λ (j : ℕ). committed_by done.step ++ commits_of (drop j history)) (sym (add-one i))

-- the first steps' batches can be listed, with room for so many entries more, and these are the ends that they name
pub record AreNamed (steps : List Done) (i most left : ℕ) (named : List Ends) : Type 0 where
  pub named_are : named ≡ named_in_all (commits_of (take i steps))
  pub none : list_any grows (commits_of (take i steps)) ≡ false
  pub count : left + entry_count (commits_of (take i steps)) ≡ most

module _ (steps : List Done) (i most left : ℕ) (named : List Ends) (done : Done) (inside : i < length steps) (is : done ≡ get_or steps i done) (so : AreNamed steps i most left named) where
  more_commits : commits_of (take (i + 1) steps) ≡ commits_of (take i steps) ++ committed_by done.step
  more_commits = commits_more steps i done inside is

  pub names_as_many : [] ≡ committed_by done.step → AreNamed steps (i + 1) most left named
  names_as_many nothing =
      let same : commits_of (take i steps) ≡ commits_of (take (i + 1) steps) =
      sym (more_commits ∙ ap (λ (bs : List (List Entry)). commits_of (take i steps) ++ bs) (sym nothing) ∙ append-nil (commits_of (take i steps))) in
      record {
        named_are = so.named_are ∙ ap named_in_all same;
        none = ap (list_any grows) (sym same) ∙ so.none;
        count = ap (λ (bs : List (List Entry)). left + entry_count bs) (sym same) ∙ so.count;
      }

  module _ (batch : List Entry) (commits : batch ∷ [] ≡ committed_by done.step) where
    next_commits : commits_of (take (i + 1) steps) ≡ commits_of (take i steps) ++ batch ∷ []
    next_commits = more_commits ∙ ap (λ (bs : List (List Entry)). commits_of (take i steps) ++ bs) (sym commits)

    pub names_more : (rest : ℕ) → grows batch ≡ false → rest + length batch ≡ left → AreNamed steps (i + 1) most rest (named ++ named_in batch)
    names_more rest none fewer = record {
      named_are =
          ap (λ (ps : List Ends). ps ++ named_in batch) so.named_are ∙ ap (λ (ps : List Ends). named_in_all (commits_of (take i steps)) ++ ps) (sym (append-nil (named_in batch)))
          ∙ sym (named-append (commits_of (take i steps)) (batch ∷ [])) ∙ ap named_in_all (sym next_commits);
      none = ap (list_any grows) next_commits ∙ any_pushed (commits_of (take i steps)) (batch ∷ []) so.none (or_from (grows batch) false none refl);
      count = omega (arith, so.count, fewer, ap entry_count next_commits, count-append (commits_of (take i steps)) (batch ∷ []));
    }

    all_commits : commits_of steps ≡ commits_of (take i steps) ++ (batch ∷ commits_of (drop (i + 1) steps))
    all_commits =
        ap commits_of (sym (take-append-drop i steps)) ∙ commits_append (take i steps) (drop i steps)
        ∙ ap (λ (bs : List (List Entry)). commits_of (take i steps) ++ bs)
        (commits_dropped steps i done inside is ∙ ap (λ (bs : List (List Entry)). bs ++ commits_of (drop (i + 1) steps)) (sym commits))

    pub not_if_grown : grows batch ≡ true → are_listable most (commits_of steps) ≡ false
    not_if_grown grown =
        let some_grows : list_any grows (commits_of steps) ≡ true =
        ap (list_any grows) all_commits ∙ list_any-append grows (commits_of (take i steps)) (batch ∷ commits_of (drop (i + 1) steps))
        ∙ or_right (list_any grows (commits_of (take i steps))) (grows batch || list_any grows (commits_of (drop (i + 1) steps)))
        (or_left (grows batch) (list_any grows (commits_of (drop (i + 1) steps))) grown) in
        and_left (not (list_any grows (commits_of steps))) (nat_le (entry_count (commits_of steps)) most) (not_from_true (list_any grows (commits_of steps)) some_grows)

    pub not_if_many : left < length batch → are_listable most (commits_of steps) ≡ false
    not_if_many many =
        let past : most < entry_count (commits_of steps) =
        omega (arith, so.count, many, ap entry_count all_commits, count-append (commits_of (take i steps)) (batch ∷ commits_of (drop (i + 1) steps))) in
        and_right (not (list_any grows (commits_of steps))) (nat_le (entry_count (commits_of steps)) most) (lt-leb (entry_count (commits_of steps)) most past)

pub none_named : (steps : List Done) (most : ℕ) → AreNamed steps 0 most most []
none_named steps most = record { named_are = refl; none = refl; count = omega arith }

pub all_named : (steps : List Done) (i most left : ℕ) (named : List Ends) → length steps ≤ i → AreNamed steps i most left named
    → (named ≡ named_in_all (commits_of steps)) × (are_listable most (commits_of steps) ≡ true)
all_named steps i most left named all so =
    let whole : take i steps ≡ steps = take_all i steps all in
    let none : list_any grows (commits_of steps) ≡ false = ap (λ (ds : List Done). list_any grows (commits_of ds)) (sym whole) ∙ so.none in
    let few : entry_count (commits_of steps) ≤ most = omega (arith, so.count, ap (λ (ds : List Done). entry_count (commits_of ds)) whole) in (
      so.named_are ∙ ap (λ (ds : List Done). named_in_all (commits_of ds)) whole,
      and_from (not (list_any grows (commits_of steps))) (nat_le (entry_count (commits_of steps)) most) (ap not none) (le-leb (entry_count (commits_of steps)) most few),
    )

-- when a history lists the edges since a version
module _ (t : Timeline) (k most : ℕ) where
  pub lists_late : newest_number t.state < k → lists_since t k most ≡ false
  lists_late late =
      and_right (nat_le (newest_number t.base) k) (nat_le k (newest_number t.state) && are_listable most (batches_since t.state k))
      (and_left (nat_le k (newest_number t.state)) (are_listable most (batches_since t.state k)) (lt-leb k (newest_number t.state) late))

  pub lists_lost : k < newest_number t.base → lists_since t k most ≡ false
  lists_lost lost =
      and_left (nat_le (newest_number t.base) k) (nat_le k (newest_number t.state) && are_listable most (batches_since t.state k)) (lt-leb (newest_number t.base) k lost)

  pub lists_as : newest_number t.base ≤ k → k ≤ newest_number t.state → lists_since t k most ≡ are_listable most (batches_since t.state k)
  lists_as after made =
      let begun : nat_le (newest_number t.base) k ≡ true = le-leb (newest_number t.base) k after in
      let over : nat_le k (newest_number t.state) ≡ true = le-leb k (newest_number t.state) made in
      rw (begun, over) refl

-- the rest of a list as a part of it
rest_of : {A : Type 0} (xs : List A) (start : ℕ) → take (length xs - start) (drop start xs) ≡ drop start xs
rest_of xs start = take_all (length xs - start) (drop start xs) (omega (arith, length-drop start xs))

-- the batches since version k, and whether their edges can be listed
pub record AreFound (t : Timeline) (k most : ℕ) (batches : List (List Entry)) (can : Bool) : Type 0 where
  pub since : AreSince t.state k batches
  pub may : can ≡ are_listable most batches
  pub listed : can ≡ lists_since t k most

pub are_found : (a : Inside) (kept : IsFaithful a) (t : Timeline) → timeline a ≡ t → (items again : List Done) → items ≡ a.history.items → again ≡ a.history.items
    → (start k count most : ℕ) → length (commits_of (drop start items)) ≡ count → k ≤ a.number × count ≡ a.number - k
    → (can : Bool) → can ≡ are_listable most (commits_of (take (length again - start) (drop start again)))
    → AreFound t k most (commits_of (take (length again - start) (drop start again))) can
are_found a kept t view items again are also start k count most as_many counted can may =
    let same : commits_of (drop start items) ≡ commits_of (take (length again - start) (drop start again)) =
    ap (λ (ds : List Done). commits_of (drop start ds)) (are ∙ sym also) ∙ ap commits_of (sym (rest_of again start)) in
    let last : AreLast t k (commits_of (take (length again - start) (drop start again))) =
    subst (AreLast t k) same (are_last a kept t view items are start k count as_many counted) in
    record { since = last.since; may = may; listed = may ∙ sym (lists_as t k most last.begun last.since.made ∙ ap (are_listable most) last.since.all) }
