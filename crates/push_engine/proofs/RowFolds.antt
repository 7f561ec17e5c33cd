-- The edges of sources, row by row, and all edges of a graph in their order.
use Rattle.std.proofs.Common.{◌≡◌, ℕ, ◌+◌, ◌<◌, ◌==◌, ℤ, Bool, true, false, cond, ◌||◌, ◌&&◌, List, [], ◌∷◌, ◌++◌, length, refl, sym, ap, ◌∙◌, append_assoc, arith}
use Rattle.std.proofs.lemmas.Bool.Decides.{nat_tests}
use Rattle.std.proofs.lemmas.Bool.{false≢true}
use Rattle.std.proofs.lemmas.List.Elements.{filter-append}
use Rattle.std.specs.List.{filter}
use Rattle.weighted_edges.specs.Edge.{Edge}
use Rattle.apply_options.specs.declared.reduction.Reduction.{Reduction}
use Rattle.kernels.specs.EdgeApply.{is_member}
use Rattle.edge_fold.specs.Contributions.{numbers_for_vector, given_on, reduced_at, row}
use Rattle.edge_fold.proofs.Meaning.{filtered_edges}
use Rattle.edge_fold.proofs.Folds.{given_on-append, reduced_at-append, reduced_at-swap}
use Rattle.flat_snapshot.specs.Neighbours.{destinations_of}
use Rattle.vertex_sets.proofs.Ascending.{Rises}
use Rattle.edge_fold.specs.Between.{edges_between}
use Rattle.edge_apply.proofs.Listed.{below_all}
use Rattle.push_engine.specs.Rows.{rows}
use Rattle.push_engine.specs.inside.Rows.{rows_to}

same : (m n : ℕ) → (m == n) ≡ true → m ≡ n
same m n h = grind (arith, nat_tests)

same_back : (m n : ℕ) → (m == n) ≡ (n == m)
same_back m n = grind (arith, nat_tests)

apart_test : (m n : ℕ) → n < m → (m == n) ≡ false
apart_test m n l = grind (arith, nat_tests)

-- what an edge gives comes first, where its source is one of these
row_grows : (u : ℕ) (e : Edge) (es : List Edge) (b : Bool) → (e.0 == u) ≡ b → row u (cond b ((e.1, e.2) ∷ destinations_of u es) (destinations_of u es)) ≡ cond b (e ∷ row u (destinations_of u es))
    (row u (destinations_of u es))
row_grows u e es true is = ap (λ (k : ℕ). (k, e.1, e.2) ∷ row u (destinations_of u es)) (sym (same e.0 u is))
row_grows u e es false is = refl

more_rows : (r : Reduction) (x v : ℕ) (g : Edge → List (ℕ × Reduction × ℤ)) (e : Edge) (n : ℤ) (line rest now : List Edge) (b m : Bool) → (b ≡ true → m ≡ false)
    → ((k : ℤ) → reduced_at r v k (given_on x g now) ≡ cond m (reduced_at r v (reduced_at r v k (numbers_for_vector x e.1 (g e))) (given_on x g rest)) (reduced_at r v k (given_on x g rest)))
    → reduced_at r v n (given_on x g (cond b (e ∷ line) line ++ now))
    ≡ cond (b || m) (reduced_at r v (reduced_at r v n (numbers_for_vector x e.1 (g e))) (given_on x g (line ++ rest))) (reduced_at r v n (given_on x g (line ++ rest)))
more_rows r x v g e n line rest now true m once more =
    let here = numbers_for_vector x e.1 (g e) in
    let k = reduced_at r v n here in
    reduced_at-append r v n here (given_on x g (line ++ now))
    ∙ ap (λ gs. reduced_at r v k gs) (given_on-append x g line now)
    ∙ reduced_at-append r v k (given_on x g line) (given_on x g now)
    ∙ more (reduced_at r v k (given_on x g line))
    ∙ ap (λ (c : Bool). cond c (reduced_at r v (reduced_at r v (reduced_at r v k (given_on x g line)) here) (given_on x g rest))
    (reduced_at r v (reduced_at r v k (given_on x g line)) (given_on x g rest))) (once refl)
    ∙ sym (reduced_at-append r v k (given_on x g line) (given_on x g rest))
    ∙ ap (λ gs. reduced_at r v k gs) (sym (given_on-append x g line rest))
more_rows r x v g e n line rest now false true once more =
    let here = numbers_for_vector x e.1 (g e) in
    let k = reduced_at r v n here in
    ap (λ gs. reduced_at r v n gs) (given_on-append x g line now)
    ∙ reduced_at-append r v n (given_on x g line) (given_on x g now)
    ∙ more (reduced_at r v n (given_on x g line))
    ∙ ap (λ (y : ℤ). reduced_at r v y (given_on x g rest)) (reduced_at-swap r v n (given_on x g line) here)
    ∙ sym (reduced_at-append r v k (given_on x g line) (given_on x g rest))
    ∙ ap (λ gs. reduced_at r v k gs) (sym (given_on-append x g line rest))
more_rows r x v g e n line rest now false false once more =
    ap (λ gs. reduced_at r v n gs) (given_on-append x g line now)
    ∙ reduced_at-append r v n (given_on x g line) (given_on x g now)
    ∙ more (reduced_at r v n (given_on x g line))
    ∙ sym (reduced_at-append r v n (given_on x g line) (given_on x g rest))
    ∙ ap (λ gs. reduced_at r v n gs) (sym (given_on-append x g line rest))

-- an edge in front of the others, in the rows of ascending sources
edge_first : (r : Reduction) (x v : ℕ) (g : Edge → List (ℕ × Reduction × ℤ)) (e : Edge) (es : List Edge) (low : ℕ) (us : List ℕ) → Rises low us → (n : ℤ)
    → reduced_at r v n (given_on x g (rows (e ∷ es) us))
    ≡ cond (is_member e.0 us) (reduced_at r v (reduced_at r v n (numbers_for_vector x e.1 (g e))) (given_on x g (rows es us))) (reduced_at r v n (given_on x g (rows es us)))
edge_first r x v g e es low [] up n = refl
edge_first r x v g e es low (u ∷ us) up n =
    let line = row u (destinations_of u es) in
    ap (λ (ks : List Edge). reduced_at r v n (given_on x g (ks ++ rows (e ∷ es) us))) (row_grows u e es (e.0 == u) refl)
    ∙ more_rows r x v g e n line (rows es us) (rows (e ∷ es) us) (e.0 == u) (is_member e.0 us)
    (λ is. below_all (u + 1) e.0 us up.1 (let here = same e.0 u is in omega (arith, here)))
    (λ k. edge_first r x v g e es (u + 1) us up.1 k)
    ∙ ap (λ (b : Bool). cond (b || is_member e.0 us) (reduced_at r v (reduced_at r v n (numbers_for_vector x e.1 (g e))) (given_on x g (line ++ rows es us)))
    (reduced_at r v n (given_on x g (line ++ rows es us)))) (same_back e.0 u)

no_rows : (us : List ℕ) → rows [] us ≡ []
no_rows [] = refl
no_rows (u ∷ us) = no_rows us

-- the sources of these edges are those that pass
abbrev pub Agree : (from : ℕ → Bool) → List ℕ → List Edge → Type 0
Agree from us [] = Unit {0}
Agree from us (e ∷ es) = (is_member e.0 us ≡ from e.0) × Agree from us es

passing_first : (r : Reduction) (x v : ℕ) (g : Edge → List (ℕ × Reduction × ℤ)) (e : Edge) (n : ℤ) (line kept : List Edge) (b : Bool)
    → ((k : ℤ) → reduced_at r v k (given_on x g line) ≡ reduced_at r v k (given_on x g kept))
    → cond b (reduced_at r v (reduced_at r v n (numbers_for_vector x e.1 (g e))) (given_on x g line)) (reduced_at r v n (given_on x g line)) ≡ reduced_at r v n (given_on x g (cond b (e ∷ kept) kept))
passing_first r x v g e n line kept true more =
    let here = numbers_for_vector x e.1 (g e) in
    more (reduced_at r v n here) ∙ sym (reduced_at-append r v n here (given_on x g kept))
passing_first r x v g e n line kept false more = more n

-- to reduce with the rows of the sources that pass is to reduce with the edges from them
pub rows_are_edges : (r : Reduction) (x v : ℕ) (g : Edge → List (ℕ × Reduction × ℤ)) (from : ℕ → Bool) (us : List ℕ) → Rises 0 us → (es : List Edge) → Agree from us es → (n : ℤ)
    → reduced_at r v n (given_on x g (rows es us)) ≡ reduced_at r v n (given_on x g (filter (λ e. from e.0) es))
rows_are_edges r x v g from us up [] agree n = ap (λ (ks : List Edge). reduced_at r v n (given_on x g ks)) (no_rows us)
rows_are_edges r x v g from us up (e ∷ es) agree n =
    let kept = filter (λ (e : Edge). from e.0) es in
    edge_first r x v g e es 0 us up n
    ∙ ap (λ (b : Bool). cond b (reduced_at r v (reduced_at r v n (numbers_for_vector x e.1 (g e))) (given_on x g (rows es us))) (reduced_at r v n (given_on x g (rows es us)))) agree.0
    ∙ passing_first r x v g e n (rows es us) kept (from e.0) (λ k. rows_are_edges r x v g from us up es agree.1 k)

-- where each vertex with an edge agrees
has_row : (u : ℕ) (e : Edge) (es : List Edge) (b : Bool) → 0 < length (destinations_of u es) → 0 < length (cond b ((e.1, e.2) ∷ destinations_of u es) (destinations_of u es))
has_row u e es true l = omega arith
has_row u e es false l = l

itself : (n : ℕ) → (n == n) ≡ true
itself n = grind (arith, nat_tests)

own_row : (e : Edge) (es : List Edge) (b : Bool) → (e.0 == e.0) ≡ b → 0 < length (cond b ((e.1, e.2) ∷ destinations_of e.0 es) (destinations_of e.0 es))
own_row e es true is = omega arith
own_row e es false is = absurd (false≢true (sym is ∙ itself e.0))

pub agree_on_rows : (from : ℕ → Bool) (us : List ℕ) (es : List Edge) → ((u : ℕ) → 0 < length (destinations_of u es) → is_member u us ≡ from u) → Agree from us es
agree_on_rows from us [] all = tt
agree_on_rows from us (e ∷ es) all =
    (all e.0 (own_row e es (e.0 == e.0) refl), agree_on_rows from us es (λ u l. all u (has_row u e es (e.0 == u) l)))

-- the edges between the ends, one end after the other
both_ends : (from to : ℕ → Bool) (e : Edge) (es : List Edge) (p q : Bool) → to e.1 ≡ q
    → filter (λ e. to e.1) (cond p (e ∷ es) es) ≡ cond (p && q) (e ∷ filter (λ e. to e.1) es) (filter (λ e. to e.1) es)
both_ends from to e es true q is = ap (λ (b : Bool). cond b (e ∷ filter (λ (e : Edge). to e.1) es) (filter (λ (e : Edge). to e.1) es)) is
both_ends from to e es false q is = refl

pub ends_one_by_one : (from to : ℕ → Bool) (es : List Edge) → filter (λ e. to e.1) (filter (λ e. from e.0) es) ≡ edges_between from to es
ends_one_by_one from to [] = refl
ends_one_by_one from to (e ∷ es) =
    both_ends from to e (filter (λ (e : Edge). from e.0) es) (from e.0) (to e.1) refl
    ∙ ap (λ (ks : List Edge). cond (from e.0 && to e.1) (e ∷ ks) ks) (ends_one_by_one from to es)

-- rows in a row
pub rows-append : (es : List Edge) (us vs : List ℕ) → rows es (us ++ vs) ≡ rows es us ++ rows es vs
rows-append es [] vs = refl
rows-append es (u ∷ us) vs = ap (λ (ks : List Edge). row u (destinations_of u es) ++ ks) (rows-append es us vs) ∙ sym (append_assoc (row u (destinations_of u es)) (rows es us) (rows es vs))

pub rows_to-append : (to : ℕ → Bool) (es : List Edge) (us vs : List ℕ) → rows_to to es (us ++ vs) ≡ rows_to to es us ++ rows_to to es vs
rows_to-append to es us vs =
    ap (filter (λ (e : Edge). to e.1)) (rows-append es us vs) ∙ filter-append (λ (e : Edge). to e.1) (rows es us) (rows es vs)

-- of a row the edges to the destinations that pass
filter_one : (to : ℕ → Bool) (u : ℕ) (d : ℕ × ℤ) (ds : List (ℕ × ℤ)) (b : Bool) → filter (λ e. to e.1) (row u ds) ≡ row u (filter (λ e. to e.0) ds)
    → cond b ((u, d.0, d.1) ∷ filter (λ e. to e.1) (row u ds)) (filter (λ e. to e.1) (row u ds)) ≡ row u (cond b (d ∷ filter (λ e. to e.0) ds) (filter (λ e. to e.0) ds))
filter_one to u d ds true more = ap (λ (ks : List Edge). (u, d.0, d.1) ∷ ks) more
filter_one to u d ds false more = more

pub filter_row : (to : ℕ → Bool) (u : ℕ) (ds : List (ℕ × ℤ)) → filter (λ e. to e.1) (row u ds) ≡ row u (filter (λ e. to e.0) ds)
filter_row to u [] = refl
filter_row to u (d ∷ ds) = filter_one to u d ds (to d.0) (filter_row to u ds)

-- to reduce with the rows of the sources that pass, to the destinations that pass, is to reduce with the edges between the ends
pub rows_to_are_edges : (r : Reduction) (x v : ℕ) (g : Edge → List (ℕ × Reduction × ℤ)) (from to : ℕ → Bool) (us : List ℕ) → Rises 0 us → (es : List Edge) → Agree from us es → (n : ℤ)
    → reduced_at r v n (given_on x g (rows_to to es us)) ≡ reduced_at r v n (given_on x g (edges_between from to es))
rows_to_are_edges r x v g from to us up es agree n =
    filtered_edges r x v n to g (rows es us)
    ∙ ap (λ (y : ℤ). cond (to v) y n) (rows_are_edges r x v g from us up es agree n)
    ∙ sym (filtered_edges r x v n to g (filter (λ e. from e.0) es))
    ∙ ap (λ ks. reduced_at r v n (given_on x g ks)) (ends_one_by_one from to es)

-- destinations that pass by two tests
tested_twice : (from first second : ℕ → Bool) (e : Edge) (ks : List Edge) (p q b : Bool) → from e.0 ≡ p → first e.1 ≡ q → second e.1 ≡ b
    → filter (λ e. second e.1) (cond (p && q) (e ∷ ks) ks) ≡ cond (p && (q && b)) (e ∷ filter (λ e. second e.1) ks) (filter (λ e. second e.1) ks)
tested_twice from first second e ks true true b here there is = ap (λ (c : Bool). cond c (e ∷ filter (λ (e : Edge). second e.1) ks) (filter (λ (e : Edge). second e.1) ks)) is
tested_twice from first second e ks true false b here there is = refl
tested_twice from first second e ks false q b here there is = refl

pub between_tested : (from first second : ℕ → Bool) (es : List Edge) → filter (λ e. second e.1) (edges_between from first es) ≡ edges_between from (λ v. first v && second v) es
between_tested from first second [] = refl
between_tested from first second (e ∷ es) =
    tested_twice from first second e (edges_between from first es) (from e.0) (first e.1) (second e.1) refl refl refl
    ∙ ap (λ (ks : List Edge). cond (from e.0 && (first e.1 && second e.1)) (e ∷ ks) ks) (between_tested from first second es)
