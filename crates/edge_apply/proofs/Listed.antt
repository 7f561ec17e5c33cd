-- Lists of vertices: those with edges, those that pass, and parts of them.
use Rattle.std.proofs.Common.{◌≡◌, append_assoc, ℕ, zero, suc, ◌+◌, ◌-◌, ◌<◌, ◌≤◌, ◌==◌, ℤ, Bool, true, false, cond, ◌&&◌, ◌||◌, Some, unwrap_or, List, [], ◌∷◌, ◌++◌, length, get_or, refl, sym, ap}
use Rattle.std.proofs.Common.{◌∙◌, arith}
use Rattle.std.proofs.lemmas.Bool.{false≢true}
use Rattle.std.proofs.lemmas.Bool.Decides.{nat_tests}
use Rattle.std.proofs.lemmas.List.{append-nil}
use Rattle.std.specs.List.{filter, range_with_len}
use Rattle.kernels.specs.EdgeApply.{is_member}
use Rattle.apply_options.specs.declared.apply_schedule.Parallelization.{Parallelization}
use Rattle.apply_options.specs.declared.apply_schedule.Parallelization.TheVariants.{Serial, StaticVertex, DynamicVertex, EdgeAwareDynamicVertex}
use Rattle.crew.specs.Boundaries.{edge_aware_ends, boundaries}
use Rattle.crew.specs.Partition.{AreEnds, end_of}
use Rattle.flat_snapshot.specs.FlatEdges.{AreDegreesOf}
use Rattle.flat_snapshot.specs.Maps.{lookup, Rises as Climbs}
use Rattle.edge_fold.specs.Between.{firsts}
use Rattle.vertex_sets.specs.VertexSet.{IsAscendingBelow}
use Rattle.vertex_sets.proofs.Ascending.{Rises, rises, rises_from_lower, rises_range, range_has, same_list, below}
use Rattle.edge_apply.specs.inside.Lists.{AscendsFrom}
use Rattle.edge_apply.proofs.Inserted.{contained, counted}

pub ascends : (low : ℕ) (us : List ℕ) → Rises low us → AscendsFrom low us
ascends low [] up = tt
ascends low (u ∷ us) up = (up.0, ascends (u + 1) us up.1)

pub rising : (low : ℕ) (us : List ℕ) → AscendsFrom low us → Rises low us
rising low [] up = tt
rising low (u ∷ us) up = (up.0, rising (u + 1) us up.1)

-- sources that are found one by one
pub one_more_found : (found new all left rest : List ℕ) (u : ℕ) → new ≡ found ++ u ∷ [] → left ≡ u ∷ rest → found ++ left ≡ all → new ++ rest ≡ all
one_more_found found new all left rest u more next was =
    ap (λ us. us ++ rest) more ∙ append_assoc found (u ∷ []) rest ∙ ap (λ us. found ++ us) (sym next) ∙ was

pub all_found : (found all left : List ℕ) → left ≡ [] → found ++ left ≡ all → found ≡ all
all_found found all left none was = sym (append-nil found) ∙ ap (λ us. found ++ us) (sym none) ∙ was

pub filter_all : {A : Type 0} (test : A → Bool) (xs : List A) → ((x : A) → test x ≡ true) → filter test xs ≡ xs
filter_all test [] all = refl
filter_all test (x ∷ xs) all = ap (λ (b : Bool). cond b (x ∷ filter test xs) (filter test xs)) (all x) ∙ ap (λ ys. x ∷ ys) (filter_all test xs all)

-- the vertices with edges
rises_firsts : (low high : ℕ) (ds : List (ℕ × ℕ)) → Climbs low high ds → Rises low (firsts ds)
rises_firsts low high [] up = tt
rises_firsts low high (d ∷ ds) up = (up.0, rises_firsts (d.0 + 1) high ds up.1)

pub degrees_rise : (neighbours : ℕ → List (ℕ × ℤ)) (ds : List (ℕ × ℕ)) → AreDegreesOf neighbours ds → Rises 0 (firsts ds)
degrees_rise neighbours ds are = rises_firsts 0 _ ds are.map

listed_at : (u : ℕ) (d : ℕ × ℕ) (ds : List (ℕ × ℕ)) (b : Bool) → 0 < unwrap_or (cond b (Some d.1) (lookup u ds)) 0 → (0 < unwrap_or (lookup u ds) 0 → is_member u (firsts ds) ≡ true)
    → b || is_member u (firsts ds) ≡ true
listed_at u d ds true l more = refl
listed_at u d ds false l more = more l

listed : (u : ℕ) (ds : List (ℕ × ℕ)) → 0 < unwrap_or (lookup u ds) 0 → is_member u (firsts ds) ≡ true
listed u [] l = absurd (omega (arith, l))
listed u (d ∷ ds) l = listed_at u d ds (d.0 == u) l (listed u ds)

pub degree_listed : (neighbours : ℕ → List (ℕ × ℤ)) (ds : List (ℕ × ℕ)) (u : ℕ) → AreDegreesOf neighbours ds → 0 < length (neighbours u) → is_member u (firsts ds) ≡ true
degree_listed neighbours ds u are l = let e = are.degrees u in listed u ds (omega (arith, e, l))

-- those that pass
same : (m n : ℕ) → (m == n) ≡ true → m ≡ n
same m n h = grind (arith, nat_tests)

never : (b : Bool) → b && false ≡ false
never true = refl
never false = refl

filtered_at : (test : ℕ → Bool) (u x : ℕ) (us : List ℕ) (p q : Bool) → test x ≡ p → (x == u) ≡ q → is_member u (filter test us) ≡ is_member u us && test u
    → is_member u (cond p (x ∷ filter test us) (filter test us)) ≡ (q || is_member u us) && test u
filtered_at test u x us true true is at more = ap (λ (b : Bool). b || is_member u (filter test us)) at ∙ sym (ap test (sym (same x u at)) ∙ is)
filtered_at test u x us true false is at more = ap (λ (b : Bool). b || is_member u (filter test us)) at ∙ more
filtered_at test u x us false true is at more =
    let off : test u ≡ false = ap test (sym (same x u at)) ∙ is in
    more ∙ ap (λ (b : Bool). is_member u us && b) off ∙ never (is_member u us) ∙ sym off
filtered_at test u x us false false is at more = more

pub member_filtered : (test : ℕ → Bool) (u : ℕ) (us : List ℕ) → is_member u (filter test us) ≡ is_member u us && test u
member_filtered test u [] = refl
member_filtered test u (x ∷ us) = filtered_at test u x us (test x) (x == u) refl refl (member_filtered test u us)

rises_filtered_at : (test : ℕ → Bool) (low x : ℕ) (us : List ℕ) (b : Bool) → low ≤ x → Rises (x + 1) (filter test us) → Rises low (cond b (x ∷ filter test us) (filter test us))
rises_filtered_at test low x us true l up = (l, up)
rises_filtered_at test low x us false l up = rises_from_lower low (x + 1) (filter test us) (omega (arith, l)) up

pub rises_filtered : (test : ℕ → Bool) (low : ℕ) (us : List ℕ) → Rises low us → Rises low (filter test us)
rises_filtered test low [] up = tt
rises_filtered test low (x ∷ us) up = rises_filtered_at test low x us (test x) up.0 (rises_filtered test (x + 1) us up.1)

pub member_of_range : (u n : ℕ) → u < n → is_member u (range_with_len 0 n) ≡ true
member_of_range u n lt = counted u (range_with_len 0 n) (range_has 0 n u (omega arith) (omega (arith, lt)))

-- the members of a set are the vertices that its test lets through
pub members_listed : (n : ℕ) (members : List ℕ) (test : ℕ → Bool) → IsAscendingBelow n members → ((v : ℕ) → test v ≡ is_member v members) → members ≡ filter test (range_with_len 0 n)
members_listed n members test valid is =
    let all = range_with_len 0 n in
    let split : (v : ℕ) → is_member v (filter test all) ≡ is_member v all && test v = λ v. member_filtered test v all in
    same_list 0 members (filter test all) (rises n members valid) (rises_filtered test 0 all (rises_range 0 n))
    (λ v has. contained v (filter test all) (split v ∙ ap (λ (b : Bool). b && test v) (member_of_range v n (below n v members valid has)) ∙ is v ∙ counted v members has))
    (λ v has. contained v members (sym (is v) ∙ second_holds (is_member v all) (test v) (sym (split v) ∙ counted v (filter test all) has)))
  where
    second_holds : (a b : Bool) → a && b ≡ true → b ≡ true
    second_holds true b e = e
    second_holds false b e = absurd (false≢true e)

pub filter_ascends : (from : ℕ → Bool) (us : List ℕ) → AscendsFrom 0 us → AscendsFrom 0 (filter from us)
filter_ascends from us up = ascends 0 (filter from us) (rises_filtered from 0 us (rising 0 us up))

-- the degrees are read only where a schedule asks for them
pub same_ends : (p : Parallelization) (w n : ℕ) (ds es : List ℕ) → (p ≡ EdgeAwareDynamicVertex → ds ≡ es) → boundaries p w n ds ≡ boundaries p w n es
same_ends Serial w n ds es same = refl
same_ends StaticVertex w n ds es same = refl
same_ends DynamicVertex w n ds es same = refl
same_ends EdgeAwareDynamicVertex w n ds es same = ap (edge_aware_ends w) (same refl)

-- a piece stands in the list
pub last_end : (s l : ℕ) (es : List ℕ) → AreEnds s l es → s ≤ l
last_end s l [] are = omega (arith, are)
last_end s l (e ∷ es) are = let more = last_end e l es are.1 in let low = are.0 in omega (arith, more, low)

pub ends_inside : (s l : ℕ) (es : List ℕ) (j : ℕ) → AreEnds s l es → j < length es → (get_or (s ∷ es) j 0 ≤ get_or es j 0) × (get_or es j 0 ≤ l)
ends_inside s l [] j are b = absurd (omega (arith, b))
ends_inside s l (e ∷ es) zero are b = ((let low = are.0 in omega (arith, low)), last_end e l es are.1)
ends_inside s l (e ∷ es) (suc j) are b = ends_inside e l es j are.1 (omega (arith, b))

pub piece_inside : (l : ℕ) (es : List ℕ) (k : ℕ) → AreEnds 0 l es → 0 < k → k ≤ length es → (end_of es (k - 1) ≤ end_of es k) × (end_of es k ≤ l)
piece_inside l es zero are some b = absurd (omega (arith, some))
piece_inside l es (suc j) are some b =
    let here : suc j - 1 ≡ j = omega arith in
    let at = ends_inside 0 l es j are (omega (arith, b)) in
    (let first = at.0 in let same = ap (end_of es) here in omega (arith, first, same), at.1)

apart_numbers : (m n : ℕ) → n < m → (m == n) ≡ false
apart_numbers m n l = grind (arith, nat_tests)

-- a number below all is no member
pub below_all : (low u : ℕ) (us : List ℕ) → Rises low us → u < low → is_member u us ≡ false
below_all low u [] up l = refl
below_all low u (x ∷ xs) up l =
    let low_le : low ≤ x = up.0 in
    ap (λ (b : Bool). b || is_member u xs) (apart_numbers x u (omega (arith, l, low_le))) ∙ below_all (x + 1) u xs up.1 (omega (arith, l, low_le))
