-- Numbers by ascending vertices, and those of a range of vertices among them.
use Rattle.std.proofs.Common.{◌≡◌, ◌≢◌, ℕ, zero, suc, pos, length-append, length-drop, ◌+◌, ◌-◌, ◌<◌, ◌≤◌, ◌==◌, ℤ, Bool, true, false, cond, List, [], ◌∷◌, ◌++◌, length, get_or, take, drop, refl, sym}
use Rattle.std.proofs.Common.{ap, ◌∙◌, subst, arith}
use Rattle.std.proofs.lemmas.Bool.Decides.{nat_tests}
use Rattle.std.proofs.lemmas.Bool.{false≢true}
use Rattle.std.proofs.lemmas.List.{append-nil, get_or-drop, get_or-take, length-take, take-append-drop}
use Rattle.std.proofs.Math.Seq.{get_or-append_seam}
use Rattle.std.proofs.lemmas.List.Sorted.{IsNonDecreasingBy-push}
use Rattle.std.specs.List.Sorted.{IsPartitionPoint}
use Rattle.apply_options.specs.declared.reduction.Reduction.{Reduction}
use Rattle.algorithm_meaning.specs.Arithmetic.{reduced}
use Rattle.vectors.specs.declared.changes.EntryChange.{EntryChange}
use Rattle.vertex_marks.specs.Marks.{is_marked}
use Rattle.edge_fold.specs.declared.accumulator.Accumulator.{Accumulator}
use Rattle.edge_fold.specs.declared.gathered.GatheredIn.{GatheredIn}
use Rattle.edge_fold.specs.Gathered.{AllAreNonDescending, IsNonDescending, gathered_for, is_in_range, given_numbers}
use Rattle.edge_fold.specs.inside.Gathered.{number_at}
use Rattle.edge_fold.specs.Contributions.{reduced_at}
use Rattle.edge_fold.proofs.Folds.{reduced_at-append}
use Rattle.edge_fold.proofs.Gathering.{gathered_for-push, numbers_of-append}

-- the vertices do not fall, and the last is below one
pub record AscendBelow (next : ℕ) (cs : List EntryChange) : Type 0 where
  pub ascending : IsNonDescending cs
  pub below : (d : EntryChange) → 0 < length cs → (get_or cs (length cs - 1) d).vertex < next

pub no_numbers : (next : ℕ) (cs : List EntryChange) → cs ≡ [] → AscendBelow next cs
no_numbers next [] none = record { ascending = λ i j d l k. absurd (omega (arith, k)); below = λ d l. absurd (omega (arith, l)) }
no_numbers next (c ∷ cs) none = absurd (let long = ap length none in omega (arith, long))

last_below : (v : ℕ) (y : EntryChange) (cs : List EntryChange) (d : EntryChange) → y.vertex ≡ v → (get_or (cs ++ y ∷ []) (length (cs ++ y ∷ []) - 1) d).vertex < v + 1
last_below v y cs d own =
    let long = length-append cs (y ∷ []) in
    let index : length (cs ++ y ∷ []) - 1 ≡ length cs = omega (arith, long) in
    let at = ap (λ (c : EntryChange). c.vertex) (ap (λ k. get_or (cs ++ y ∷ []) k d) index ∙ get_or-append_seam cs y [] d) in
    omega (arith, at, own)

ascends_at : (b : Bool) (next v : ℕ) (n : ℤ) (cs : List EntryChange) → next ≤ v → AscendBelow next cs → AscendBelow (v + 1) (cs ++ cond b (record { vertex = v; number = n } ∷ []) [])
ascends_at true next v n cs l was =
    let y : EntryChange = record { vertex = v; number = n } in
    record {
      ascending = IsNonDecreasingBy-push (λ c. c.vertex) cs y was.ascending (λ d some. let low = was.below d some in omega (arith, low, l));
      below = λ d some. last_below v y cs d refl;
    }
ascends_at false next v n cs l was =
    subst (λ es. AscendBelow (v + 1) es) (sym (append-nil cs)) (record { ascending = was.ascending; below = λ d some. let low = was.below d some in omega (arith, low, l) })

pub ascends_more : (a : Accumulator) (next v : ℕ) (cs ds : List EntryChange) → next ≤ v → ds ≡ cs ++ number_at a v → AscendBelow next cs → AscendBelow (v + 1) ds
ascends_more a next v cs ds l e was =
    subst (λ es. AscendBelow (v + 1) es) (sym e) (ascends_at (is_marked a.marks v) next v (get_or a.values.items v (pos 0)) cs l was)

pub ascending_push : (gs : List GatheredIn) (g : GatheredIn) → AllAreNonDescending gs → IsNonDescending g.numbers.items → AllAreNonDescending (gs ++ g ∷ [])
ascending_push [] g all own = (own, tt)
ascending_push (f ∷ fs) g all own = (all.0, ascending_push fs g all.1 own)

pub ascending_at : (gs : List GatheredIn) (i : ℕ) (d : GatheredIn) → AllAreNonDescending gs → i < length gs → IsNonDescending (get_or gs i d).numbers.items
ascending_at [] i d all l = absurd (omega (arith, l))
ascending_at (g ∷ gs) zero d all l = all.0
ascending_at (g ∷ gs) (suc i) d all l = ascending_at gs i d all.1 (omega (arith, l))

-- numbers of other vertices
apart_test : (m n : ℕ) → m ≢ n → (m == n) ≡ false
apart_test m n other = grind (arith, nat_tests)

skipped : (r : Reduction) (v : ℕ) (h : ℤ) (cs : List EntryChange) → ((i : ℕ) (d : EntryChange) → i < length cs → (get_or cs i d).vertex ≢ v) → reduced_at r v h (given_numbers cs) ≡ h
skipped r v h [] other = refl
skipped r v h (c ∷ cs) other =
    ap (λ (b : Bool). reduced_at r v (cond b (reduced r h c.number) h) (given_numbers cs)) (apart_test c.vertex v (other 0 c (omega arith)))
    ∙ skipped r v h cs (λ i d l. other (suc i) d (omega (arith, l)))

inside_test : (low high v : ℕ) → is_in_range low high v ≡ true → (low ≤ v) × (v < high)
inside_test low high v is = (grind (arith, nat_tests), grind (arith, nat_tests))

pub within_test : (low high k : ℕ) → low ≤ k → k < high → is_in_range low high k ≡ true
within_test low high k l b = grind (arith, nat_tests)

-- those of a range are between those before it and those after it
abbrev Stand : (P : ℕ → Type 0) → List EntryChange → Type 0
Stand P cs = (i : ℕ) (d : EntryChange) → i < length cs → P (get_or cs i d).vertex

between_at : (r : Reduction) (low high v : ℕ) (h : ℤ) (front part back : List EntryChange) (b : Bool) → is_in_range low high v ≡ b
    → Stand (λ k. k < low) front → Stand (λ k. low ≤ k) part → Stand (λ k. k < high) part → Stand (λ k. high ≤ k) back
    → reduced_at r v h (given_numbers part) ≡ cond b (reduced_at r v h (given_numbers (front ++ (part ++ back)))) h
between_at r low high v h front part back true is before from to behind =
    let inside = inside_test low high v is in
    let under = inside.0 in
    let over = inside.1 in
    sym (ap (λ gs. reduced_at r v h gs) (numbers_of-append front (part ++ back))
    ∙ reduced_at-append r v h (given_numbers front) (given_numbers (part ++ back))
    ∙ ap (λ (n : ℤ). reduced_at r v n (given_numbers (part ++ back))) (skipped r v h front (λ i d l e. let less = before i d l in omega (arith, less, under, e)))
    ∙ ap (λ gs. reduced_at r v h gs) (numbers_of-append part back)
    ∙ reduced_at-append r v h (given_numbers part) (given_numbers back)
    ∙ skipped r v (reduced_at r v h (given_numbers part)) back (λ i d l e. let more = behind i d l in omega (arith, more, over, e)))
between_at r low high v h front part back false is before from to behind =
    skipped r v h part (λ i d l e. false≢true (sym is ∙ ap (is_in_range low high) (sym e) ∙ within_test low high (get_or part i d).vertex (from i d l) (to i d l)))

front_stands : (P : ℕ → Type 0) (cs : List EntryChange) (n : ℕ) → ((k : ℕ) (d : EntryChange) → 0 ≤ k → k < n → P (get_or cs k d).vertex) → Stand P (take n cs)
front_stands P cs n all i d l =
    let few = length-take n cs in
    let inside : i < n = omega (arith, few, l) in
    subst (λ (c : EntryChange). P c.vertex) (sym (get_or-take n cs i d inside)) (all i d (omega arith) inside)

front_of : (P : ℕ → Type 0) (cs : List EntryChange) (n : ℕ) → Stand P cs → Stand P (take n cs)
front_of P cs n all i d l =
    let few = length-take n cs in
    subst (λ (c : EntryChange). P c.vertex) (sym (get_or-take n cs i d (omega (arith, few, l)))) (all i d (omega (arith, few, l)))

back_stands : (P : ℕ → Type 0) (cs : List EntryChange) (n : ℕ) → ((k : ℕ) (d : EntryChange) → n ≤ k → k < length cs → P (get_or cs k d).vertex) → Stand P (drop n cs)
back_stands P cs n all i d l =
    let long = length-drop n cs in
    subst (λ (c : EntryChange). P c.vertex) (sym (get_or-drop n cs i d)) (all (n + i) d (omega arith) (omega (arith, long, l)))

pub range_of_numbers : (r : Reduction) (low high v : ℕ) (h : ℤ) (cs : List EntryChange) (i j : ℕ) → IsPartitionPoint (λ c. c.vertex < low) (λ c. low ≤ c.vertex) cs i
    → IsPartitionPoint (λ c. c.vertex < high) (λ c. high ≤ c.vertex) (drop i cs) j
    → reduced_at r v h (given_numbers (take j (drop i cs))) ≡ cond (is_in_range low high v) (reduced_at r v h (given_numbers cs)) h
range_of_numbers r low high v h cs i j first second =
    let front = take i cs in
    let rest = drop i cs in
    let part = take j rest in
    let back = drop j rest in
    let from = back_stands (λ k. low ≤ k) cs i first.1 in
    let whole : front ++ (part ++ back) ≡ cs = ap (λ ds. front ++ ds) (take-append-drop j rest) ∙ take-append-drop i cs in
    between_at r low high v h front part back (is_in_range low high v) refl
    (front_stands (λ k. k < low) cs i first.0)
    (front_of (λ k. low ≤ k) rest j from)
    (front_stands (λ k. k < high) rest j second.0)
    (back_stands (λ k. high ≤ k) rest j second.1)
    ∙ ap (λ ds. cond (is_in_range low high v) (reduced_at r v h (given_numbers ds)) h) whole

-- one vector more, of which the range is taken
part_at : (r : Reduction) (v : ℕ) (h y z : ℤ) (ns ms : List (ℕ × ℤ)) (b q : Bool) → y ≡ cond b z h → ((n : ℤ) → reduced_at r v n ns ≡ cond b (reduced_at r v n ms) n)
    → reduced_at r v y (cond q ns []) ≡ cond b (reduced_at r v z (cond q ms [])) h
part_at r v h y z ns ms true true was part = part y ∙ ap (λ (n : ℤ). reduced_at r v n ms) was
part_at r v h y z ns ms false true was part = part y ∙ was
part_at r v h y z ns ms b false was part = was

pub part_more : (r : Reduction) (x v : ℕ) (h : ℤ) (b : Bool) (fs gs : List GatheredIn) (f g : GatheredIn) → f.vector ≡ g.vector
    → reduced_at r v h (gathered_for x fs) ≡ cond b (reduced_at r v h (gathered_for x gs)) h
    → ((n : ℤ) → reduced_at r v n (given_numbers f.numbers.items) ≡ cond b (reduced_at r v n (given_numbers g.numbers.items)) n)
    → reduced_at r v h (gathered_for x (fs ++ f ∷ [])) ≡ cond b (reduced_at r v h (gathered_for x (gs ++ g ∷ []))) h
part_more r x v h b fs gs f g own was part =
    let ns = given_numbers f.numbers.items in
    let ms = given_numbers g.numbers.items in
    let y = reduced_at r v h (gathered_for x fs) in
    let z = reduced_at r v h (gathered_for x gs) in
    ap (λ hs. reduced_at r v h hs) (gathered_for-push x fs f)
    ∙ reduced_at-append r v h (gathered_for x fs) (cond (f.vector == x) ns [])
    ∙ ap (λ (k : ℕ). reduced_at r v y (cond (k == x) ns [])) own
    ∙ part_at r v h y z ns ms b (g.vector == x) was part
    ∙ ap (λ (n : ℤ). cond b n h) (sym (ap (λ hs. reduced_at r v h hs) (gathered_for-push x gs g) ∙ reduced_at-append r v h (gathered_for x gs) (cond (g.vector == x) ms [])))

pub none_between : (b : Bool) (h : ℤ) → h ≡ cond b h h
none_between true h = refl
none_between false h = refl
