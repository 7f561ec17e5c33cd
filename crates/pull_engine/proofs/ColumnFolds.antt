-- The edges into destinations, column by column, and all edges between two ends in their order.
use Rattle.std.proofs.Common.{◌≡◌, ℕ, ◌+◌, ◌<◌, ◌≤◌, ◌==◌, ℤ, Bool, true, false, cond, ◌||◌, ◌&&◌, List, [], ◌∷◌, ◌++◌, length, take, refl, sym, ap, ◌∙◌, append_assoc, arith}
use Rattle.std.proofs.lemmas.Bool.Decides.{Decides-eqb}
use Rattle.std.proofs.lemmas.List.{append-nil, map-append, take-map}
use Rattle.std.proofs.lemmas.List.Elements.{filter-append}
use Rattle.std.specs.List.{filter}
use Rattle.std.specs.Map.{keys_of, values_of}
use Rattle.weighted_edges.specs.Edge.{Edge}
use Rattle.apply_options.specs.declared.reduction.Reduction.{Reduction}
use Rattle.kernels.specs.FunctionStatementTree.{FunctionStatementsTree}
use Rattle.kernels.specs.EdgeApply.{is_member}
use Rattle.kernels.specs.State.{StateValue}
use Rattle.edge_fold.specs.declared.scratch.Scratch.{Scratch}
use Rattle.edge_fold.specs.Between.{edges_between}
use Rattle.edge_fold.specs.declared.apply_context.ApplyContext.{ApplyContext}
use Rattle.edge_fold.specs.Folded.{HasFolded}
use Rattle.edge_fold.specs.Contributions.{column, weighted_entries, given_on, reduced_at}
use Rattle.edge_fold.proofs.Meaning.{filtered_edges}
use Rattle.edge_fold.proofs.Walks.{InRow}
use Rattle.edge_fold.proofs.WeightColumns.{firsts-filter}
use Rattle.flat_snapshot.specs.Neighbours.{sources_of}
use Rattle.vertex_sets.proofs.Ascending.{Rises}
use Rattle.edge_apply.proofs.Kept.{entries_read}
use Rattle.edge_apply.proofs.Listed.{below_all}
use Rattle.pull_engine.specs.Columns.{columns, passing}

-- the edges into a vertex
abbrev pub into : ℕ → List Edge → List Edge
into v es = filter (λ e. e.1 == v) es

nothing_either : (b : Bool) (none : List Edge) → none ≡ [] → [] ≡ cond b none []
nothing_either true none e = sym e
nothing_either false none e = refl

-- columns in a row
pub columns-append : (from : ℕ → Bool) (es : List Edge) → InRow (columns from es)
columns-append from es [] vs = refl
columns-append from es (u ∷ us) vs =
    ap (λ (ks : List Edge). column u (passing from (sources_of u es)) ++ ks) (columns-append from es us vs)
    ∙ sym (append_assoc (column u (passing from (sources_of u es))) (columns from es us) (columns from es vs))

-- the edges into a destination from those sources that pass
abbrev pub column_from : (from : ℕ → Bool) → ℕ → List (ℕ × ℤ) → List Edge
column_from from d ss = column d (passing from ss)

pub column_in_row : (from : ℕ → Bool) (d : ℕ) → InRow (column_from from d)
column_in_row from d us vs = ap (column d) (filter-append (λ s. from s.0) us vs) ∙ map-append (λ s. (s.0, d, s.1)) (passing from us) (passing from vs)

-- one round of a walk: what is kept are the sources that pass
pub kept_keys : (from : ℕ → Bool) (left : List (ℕ × ℤ)) (first second : List ℕ) (count kept : ℕ) → take count first ≡ take count (keys_of left) → take kept second ≡ filter from (take count first)
    → keys_of (passing from (take count left)) ≡ take kept second
kept_keys from left first second count kept filled keeps =
    firsts-filter from (take count left) ∙ ap (filter from) (sym (take-map (λ (e : ℕ × ℤ). e.0) count left) ∙ sym filled) ∙ sym keeps

-- so it is with their weights
pub kept_entries : (from : ℕ → Bool) (left : List (ℕ × ℤ)) (keys : List ℕ) (weights : List ℤ) (count : ℕ) (kept : List (ℕ × ℤ)) → take count keys ≡ take count (keys_of left)
    → take count weights ≡ take count (values_of left)
    → kept ≡ passing from (weighted_entries (take count keys) (take count weights)) → kept ≡ passing from (take count left)
kept_entries from left keys weights count kept same weighed keeps =
    keeps
    ∙ ap (passing from)
    (ap (λ (ks : List ℕ). weighted_entries ks (take count weights)) same ∙ ap (weighted_entries (take count (keys_of left))) weighed ∙ entries_read count left)

-- a walk at its end
pub none_left : (left : List (ℕ × ℤ)) → length left ≤ 0 → left ≡ []
none_left [] l = refl
none_left (s ∷ ss) l = absurd (omega (arith, l))

-- of a column the edges into a vertex are all or none
into_one : (v d : ℕ) (s : ℕ × ℤ) (rest ks : List Edge) (b : Bool) → rest ≡ cond b ks [] → cond b ((s.0, d, s.1) ∷ rest) rest ≡ cond b ((s.0, d, s.1) ∷ ks) []
into_one v d s rest ks true e = ap (λ (ls : List Edge). (s.0, d, s.1) ∷ ls) e
into_one v d s rest ks false e = e

into_column : (v d : ℕ) (ss : List (ℕ × ℤ)) → into v (column d ss) ≡ cond (d == v) (column d ss) []
into_column v d [] = nothing_either (d == v) [] refl
into_column v d (s ∷ ss) = into_one v d s (into v (column d ss)) (column d ss) (d == v) (into_column v d ss)

first_column : (from : ℕ → Bool) (es : List Edge) (u v : ℕ) (b m : Bool) → (u == v) ≡ b → (b ≡ true → m ≡ false)
    → cond b (column u (passing from (sources_of u es))) [] ++ cond m (column v (passing from (sources_of v es))) [] ≡ cond (b || m) (column v (passing from (sources_of v es))) []
first_column from es u v true m is once =
    let C = column v (passing from (sources_of v es)) in
    ap (λ (c : Bool). column u (passing from (sources_of u es)) ++ cond c C []) (once refl)
    ∙ append-nil (column u (passing from (sources_of u es)))
    ∙ ap (λ (k : ℕ). column k (passing from (sources_of k es))) ((Decides-eqb u v).0 is)
first_column from es u v false m is once = refl

into_columns : (v : ℕ) (from : ℕ → Bool) (es : List Edge) (low : ℕ) (us : List ℕ) → Rises low us → into v (columns from es us) ≡ cond (is_member v us) (column v (passing from (sources_of v es))) []
into_columns v from es low [] up = refl
into_columns v from es low (u ∷ us) up =
    let here = column u (passing from (sources_of u es)) in
    filter-append (λ (e : Edge). e.1 == v) here (columns from es us)
    ∙ ap (λ (ks : List Edge). ks ++ into v (columns from es us)) (into_column v u (passing from (sources_of u es)))
    ∙ ap (λ (ks : List Edge). cond (u == v) here [] ++ ks) (into_columns v from es (u + 1) us up.1)
    ∙ first_column from es u v (u == v) (is_member v us) refl (λ is. below_all (u + 1) v us up.1 (let at = (Decides-eqb u v).0 is in omega (arith, at)))

-- of the edges between two ends those into a vertex are all or none
between_one : (from to : ℕ → Bool) (v : ℕ) (e : Edge) (rest : List Edge) (S : List (ℕ × ℤ)) (p q b : Bool) → from e.0 ≡ p → to e.1 ≡ q → (e.1 == v) ≡ b
    → into v rest ≡ cond (to v) (column v (passing from S)) []
    → into v (cond (p && q) (e ∷ rest) rest) ≡ cond (to v) (column v (passing from (cond b ((e.0, e.2) ∷ S) S))) []
between_one from to v e rest S true true true passes is at more =
    let on : to v ≡ true = ap to (sym ((Decides-eqb e.1 v).0 at)) ∙ is in
    ap (λ (c : Bool). cond c (e ∷ into v rest) (into v rest)) at
    ∙ ap (λ (ks : List Edge). e ∷ ks) (more ∙ ap (λ (c : Bool). cond c (column v (passing from S)) []) on)
    ∙ ap (λ (k : ℕ). (e.0, k, e.2) ∷ column v (passing from S)) ((Decides-eqb e.1 v).0 at)
    ∙ sym (ap (λ (c : Bool). column v (cond c ((e.0, e.2) ∷ passing from S) (passing from S))) passes)
    ∙ sym (ap (λ (c : Bool). cond c (column v (passing from ((e.0, e.2) ∷ S))) []) on)
between_one from to v e rest S true true false passes is at more =
    ap (λ (c : Bool). cond c (e ∷ into v rest) (into v rest)) at ∙ more
between_one from to v e rest S true false true passes is at more =
    let off : to v ≡ false = ap to (sym ((Decides-eqb e.1 v).0 at)) ∙ is in
    more ∙ ap (λ (c : Bool). cond c (column v (passing from S)) []) off ∙ sym (ap (λ (c : Bool). cond c (column v (passing from ((e.0, e.2) ∷ S))) []) off)
between_one from to v e rest S true false false passes is at more = more
between_one from to v e rest S false q true passes is at more =
    more ∙ sym (ap (λ (c : Bool). cond (to v) (column v (cond c ((e.0, e.2) ∷ passing from S) (passing from S))) []) passes)
between_one from to v e rest S false q false passes is at more = more

pub into_between : (v : ℕ) (from to : ℕ → Bool) (es : List Edge) → into v (edges_between from to es) ≡ cond (to v) (column v (passing from (sources_of v es))) []
into_between v from to [] = nothing_either (to v) [] refl
into_between v from to (e ∷ es) =
    between_one from to v e (edges_between from to es) (sources_of v es) (from e.0) (to e.1) (e.1 == v) refl refl refl (into_between v from to es)

-- only the edges into a vertex count for it
pub only_into : (r : Reduction) (x v : ℕ) (n : ℤ) (g : Edge → List (ℕ × Reduction × ℤ)) (es : List Edge) → reduced_at r v n (given_on x g (into v es)) ≡ reduced_at r v n (given_on x g es)
only_into r x v n g es = filtered_edges r x v n (λ u. u == v) g es ∙ ap (λ (b : Bool). cond b (reduced_at r v n (given_on x g es)) n) ((Decides-eqb v v).1 refl)

agree_at : (from : ℕ → Bool) (v : ℕ) (S : List (ℕ × ℤ)) (a b : Bool) → (0 < length S → a ≡ b) → cond a (column v (passing from S)) [] ≡ cond b (column v (passing from S)) []
agree_at from v [] a b same = sym (nothing_either a [] refl) ∙ nothing_either b [] refl
agree_at from v (s ∷ ss) a b same = ap (λ (c : Bool). cond c (column v (passing from (s ∷ ss))) []) (same (omega arith))

-- to reduce with the columns of the destinations that pass is to reduce with the edges between the ends
pub columns_are_edges : (r : Reduction) (x v : ℕ) (n : ℤ) (g : Edge → List (ℕ × Reduction × ℤ)) (from to : ℕ → Bool) (us : List ℕ) (es : List Edge) → Rises 0 us
    → ((u : ℕ) → 0 < length (sources_of u es) → is_member u us ≡ to u)
    → reduced_at r v n (given_on x g (columns from es us)) ≡ reduced_at r v n (given_on x g (edges_between from to es))
columns_are_edges r x v n g from to us es up agree =
    sym (only_into r x v n g (columns from es us))
    ∙ ap (λ (ks : List Edge). reduced_at r v n (given_on x g ks))
    (into_columns v from es 0 us up ∙ agree_at from v (sources_of v es) (is_member v us) (to v) (agree v) ∙ sym (into_between v from to es))
    ∙ only_into r x v n g (edges_between from to es)

pub folded_columns : (f : ApplyContext) (m : StateValue) (steps : List FunctionStatementsTree) (from to : ℕ → Bool) (us : List ℕ) (es : List Edge) (s : Scratch) → Rises 0 us
    → ((u : ℕ) → 0 < length (sources_of u es) → is_member u us ≡ to u)
    → HasFolded f m steps (columns from es us) s → HasFolded f m steps (edges_between from to es) s
folded_columns f m steps from to us es s up agree has = λ x r by.
    let was = has x r by in
    record { entries = λ v h l. was.entries v h l ∙ columns_are_edges r x v _ _ from to us es up agree; reduction = was.reduction }
