-- What slots have, gathered.
use Rattle.std.proofs.Common.{◌≡◌, ℕ, zero, suc, append_assoc, ◌+◌, ◌<◌, ◌≤◌, ◌==◌, ℤ, pos, Bool, true, false, cond, List, [], ◌∷◌, ◌++◌, length, get_or, take, nat_lt, refl, sym, ap, ◌∙◌, subst}
use Rattle.std.proofs.Common.{arith}
use Rattle.std.proofs.lemmas.Bool.Decides.{nat_tests}
use Rattle.std.proofs.lemmas.Bool.{false≢true}
use Rattle.std.proofs.lemmas.List.{append-nil, take_more}
use Rattle.apply_options.specs.declared.reduction.Reduction.{Reduction}
use Rattle.algorithm_meaning.specs.Arithmetic.{reduced}
use Rattle.vectors.specs.declared.changes.EntryChange.{EntryChange}
use Rattle.vertex_marks.specs.Marks.{is_marked}
use Rattle.edge_fold.specs.declared.accumulator.Accumulator.{Accumulator}
use Rattle.edge_fold.specs.declared.apply_context.FoldStart.TheVariants as start
use Rattle.edge_fold.specs.declared.gathered.GatheredIn.{GatheredIn}
use Rattle.edge_fold.specs.declared.vector_accumulator.VectorAccumulator.{VectorAccumulator}
use Rattle.edge_fold.specs.Gathered.{IsGatheredBy, gathered_for, given_numbers}
use Rattle.edge_fold.specs.inside.Gathered.{number_at}
use Rattle.edge_fold.specs.Contributions.{reduced_at}
use Rattle.edge_fold.specs.Held.{held_with}
use Rattle.edge_fold.specs.FoldStarts.{combined_with_seed}
use Rattle.edge_fold.specs.VectorAccumulators.{held_in_with, of_slot, reduction_in}
use Rattle.edge_fold.specs.inside.VectorAccumulators.{index_in}
use Rattle.edge_fold.proofs.Folds.{reduced_at-append}
use Rattle.edge_fold.proofs.SlotRows.{of_slot-none, of_slot-push, of_slot-there, same_test}

same : (m n : ℕ) → (m == n) ≡ true → m ≡ n
same m n h = grind (arith, nat_tests)

-- a number combined with what an accumulator has at a vertex
abbrev pub onto : Reduction → Accumulator → ℕ → ℤ → ℤ
onto r a v h = held_with (combined_with_seed start.Unit r) a v h

pub numbers_of-append : (cs ds : List EntryChange) → given_numbers (cs ++ ds) ≡ given_numbers cs ++ given_numbers ds
numbers_of-append [] ds = refl
numbers_of-append (c ∷ cs) ds = ap (λ (gs : List (ℕ × ℤ)). (c.vertex, c.number) ∷ gs) (numbers_of-append cs ds)

-- one vertex more
either_way : (q : Bool) (n : ℤ) → n ≡ cond q n n
either_way true n = refl
either_way false n = refl

number_there : (r : Reduction) (v k : ℕ) (n y : ℤ) (b q : Bool) → (k == v) ≡ q → reduced_at r v n (given_numbers (cond b (record { vertex = k; number = y } ∷ []) [])) ≡ cond q
    (cond b (reduced r n y) n) n
number_there r v k n y true q e = ap (λ (c : Bool). cond c (reduced r n y) n) e
number_there r v k n y false q e = either_way q n

own_vertex : (r : Reduction) (a : Accumulator) (v k : ℕ) (n : ℤ) (q : Bool) → (k == v) ≡ q → cond q (onto r a k n) n ≡ cond q (onto r a v n) n
own_vertex r a v k n true e = ap (λ (u : ℕ). onto r a u n) (same k v e)
own_vertex r a v k n false e = refl

pub one_number_more : (r : Reduction) (a : Accumulator) (v k : ℕ) (h : ℤ) (cs ds : List EntryChange) → ds ≡ cs ++ number_at a k
    → reduced_at r v h (given_numbers ds) ≡ cond (k == v) (onto r a v (reduced_at r v h (given_numbers cs))) (reduced_at r v h (given_numbers cs))
one_number_more r a v k h cs ds e =
    let n = reduced_at r v h (given_numbers cs) in
    ap (λ (es : List EntryChange). reduced_at r v h (given_numbers es)) e
    ∙ ap (λ (gs : List (ℕ × ℤ)). reduced_at r v h gs) (numbers_of-append cs (number_at a k))
    ∙ reduced_at-append r v h (given_numbers cs) (given_numbers (number_at a k))
    ∙ number_there r v k n (get_or a.values.items k (pos 0)) (is_marked a.marks k) (k == v) refl
    ∙ own_vertex r a v k n (k == v) refl

found_at : (new : ℕ → ℤ) (on : ℤ → ℤ) (y h : ℤ) (k v next : ℕ) (q p : Bool) → (k == v) ≡ q → nat_lt v next ≡ p → next ≤ k → v < k + 1
    → (v < next → y ≡ new v) → (next ≤ v → y ≡ h) → (k ≡ v → new v ≡ on h) → (next ≤ v → v < k → new v ≡ h) → cond q (on y) y ≡ new v
found_at new on y h k v next true p is below from l done left here there = let own = same k v is in ap on (left (omega (arith, own, from))) ∙ sym (here own)
found_at new on y h k v next false true is below from l done left here there = done (grind (arith, nat_tests))
found_at new on y h k v next false false is below from l done left here there =
    let behind : next ≤ v = grind (arith, nat_tests) in
    let before : v < k = grind (arith, nat_tests) in
    left behind ∙ sym (there behind before)

pub found_step : (new : ℕ → ℤ) (on : ℤ → ℤ) (y h : ℤ) (k v next : ℕ) → next ≤ k → v < k + 1
    → (v < next → y ≡ new v) → (next ≤ v → y ≡ h) → (k ≡ v → new v ≡ on h) → (next ≤ v → v < k → new v ≡ h) → cond (k == v) (on y) y ≡ new v
found_step new on y h k v next from l done left here there = found_at new on y h k v next (k == v) (nat_lt v next) refl refl from l done left here there

before_test : (k v : ℕ) → k + 1 ≤ v → (k == v) ≡ false
before_test k v l = grind (arith, nat_tests)

pub left_step : (on : ℤ → ℤ) (y h : ℤ) (k v : ℕ) → k + 1 ≤ v → y ≡ h → cond (k == v) (on y) y ≡ h
left_step on y h k v l e = ap (λ (b : Bool). cond b (on y) y) (before_test k v l) ∙ e

all_at : (y a h : ℤ) (v next : ℕ) (p : Bool) → nat_lt v next ≡ p → (v < next → y ≡ a) → (next ≤ v → y ≡ h) → (next ≤ v → a ≡ h) → y ≡ a
all_at y a h v next true below done left there = done (grind (arith, nat_tests))
all_at y a h v next false below done left there = let behind : next ≤ v = grind (arith, nat_tests) in left behind ∙ sym (there behind)

pub all_found : (y a h : ℤ) (v next : ℕ) → (v < next → y ≡ a) → (next ≤ v → y ≡ h) → (next ≤ v → a ≡ h) → y ≡ a
all_found y a h v next done left there = all_at y a h v next (nat_lt v next) refl done left there

-- what is gathered from one slot more
pub gathered_for-push : (x : ℕ) (gs : List GatheredIn) (g : GatheredIn) → gathered_for x (gs ++ g ∷ []) ≡ gathered_for x gs ++ cond (g.vector == x) (given_numbers g.numbers.items) []
gathered_for-push x [] g = append-nil (cond (g.vector == x) (given_numbers g.numbers.items) [])
gathered_for-push x (f ∷ fs) g =
    let first = cond (f.vector == x) (given_numbers f.numbers.items) [] in
    ap (λ hs. first ++ hs) (gathered_for-push x fs g) ∙ sym (append_assoc first (gathered_for x fs) (cond (g.vector == x) (given_numbers g.numbers.items) []))

pub is_gathered_by-push : (r : Reduction) (x : ℕ) (gs : List GatheredIn) (g : GatheredIn) → IsGatheredBy r x gs → (g.vector ≡ x → g.reduction ≡ r) → IsGatheredBy r x (gs ++ g ∷ [])
is_gathered_by-push r x [] g all own = (own, tt)
is_gathered_by-push r x (f ∷ fs) g all own = (all.0, is_gathered_by-push r x fs g all.1 own)

-- a slot whose vector has one before it
hidden_at : {A : Type 0} (of : VectorAccumulator → A) (ss : List VectorAccumulator) (s : VectorAccumulator) (x : ℕ) (d : A) (q : Bool) → (s.vector == x) ≡ q → index_in s.vector ss < length ss
    → of_slot of ss x (cond q (of s) d) ≡ of_slot of ss x d
hidden_at of ss s x d true e l = of_slot-there of ss x (of s) d (let own = same s.vector x e in subst (λ (k : ℕ). index_in k ss < length ss) own l)
hidden_at of ss s x d false e l = refl

pub hidden_slot : {A : Type 0} (of : VectorAccumulator → A) (ss : List VectorAccumulator) (s : VectorAccumulator) (x : ℕ) (d : A) → index_in s.vector ss < length ss
    → of_slot of (ss ++ s ∷ []) x d ≡ of_slot of ss x d
hidden_slot of ss s x d l = of_slot-push of ss s x d ∙ hidden_at of ss s x d (s.vector == x) refl l

-- a slot that is the first of its vector
pub first_slot : {A : Type 0} (of : VectorAccumulator → A) (ss : List VectorAccumulator) (s : VectorAccumulator) (x : ℕ) (d : A) (q : Bool) → (s.vector == x) ≡ q → length ss ≤ index_in s.vector ss
    → of_slot of ss x (cond q (of s) d) ≡ cond q (of s) (of_slot of ss x d)
first_slot of ss s x d true e l = of_slot-none of ss x (of s) (let own = same s.vector x e in subst (λ (k : ℕ). length ss ≤ index_in k ss) own l)
first_slot of ss s x d false e l = refl

alike : (t : Bool) (h : ℤ) → cond t h h ≡ h
alike true h = refl
alike false h = refl

gathered_at : (r : Reduction) (x v : ℕ) (h y : ℤ) (t : Bool) (ss : List VectorAccumulator) (s : VectorAccumulator) (ns : List (ℕ × ℤ)) (q : Bool) → (s.vector == x) ≡ q
    → length ss ≤ index_in s.vector ss
    → y ≡ cond t (held_in_with (combined_with_seed start.Unit r) ss x v h) h
    → ((n : ℤ) → reduced_at r v n ns ≡ cond t (onto r s.entries v n) n)
    → reduced_at r v y (cond q ns []) ≡ cond t (cond q (onto r s.entries v h) (held_in_with (combined_with_seed start.Unit r) ss x v h)) h
gathered_at r x v h y t ss s ns true e l was numbers =
    let own = same s.vector x e in
    let none = of_slot-none (λ (s : VectorAccumulator). onto r s.entries v h) ss x h (subst (λ (k : ℕ). length ss ≤ index_in k ss) own l) in
    ap (λ (n : ℤ). reduced_at r v n ns) (was ∙ ap (λ (n : ℤ). cond t n h) none ∙ alike t h) ∙ numbers h
gathered_at r x v h y t ss s ns false e l was numbers = was

pub gathered_more : (r : Reduction) (x v : ℕ) (h : ℤ) (t : Bool) (ss : List VectorAccumulator) (s : VectorAccumulator) (gs : List GatheredIn) (g : GatheredIn) → g.vector ≡ s.vector
    → length ss ≤ index_in s.vector ss
    → reduced_at r v h (gathered_for x gs) ≡ cond t (held_in_with (combined_with_seed start.Unit r) ss x v h) h
    → ((n : ℤ) → reduced_at r v n (given_numbers g.numbers.items) ≡ cond t (onto r s.entries v n) n)
    → reduced_at r v h (gathered_for x (gs ++ g ∷ [])) ≡ cond t (held_in_with (combined_with_seed start.Unit r) (ss ++ s ∷ []) x v h) h
gathered_more r x v h t ss s gs g own l was numbers =
    let of = λ (s : VectorAccumulator). onto r s.entries v h in
    let ns = given_numbers g.numbers.items in
    ap (λ (hs : List (ℕ × ℤ)). reduced_at r v h hs) (gathered_for-push x gs g)
    ∙ reduced_at-append r v h (gathered_for x gs) (cond (g.vector == x) ns [])
    ∙ ap (λ (k : ℕ). reduced_at r v (reduced_at r v h (gathered_for x gs)) (cond (k == x) ns [])) own
    ∙ gathered_at r x v h (reduced_at r v h (gathered_for x gs)) t ss s ns (s.vector == x) refl l was numbers
    ∙ ap (λ (n : ℤ). cond t n h) (sym (of_slot-push of ss s x h ∙ first_slot of ss s x h (s.vector == x) refl l))

apart : (m n : ℕ) → (m == n) ≡ false → m ≡ n → ⊥
apart m n h e = absurd (false≢true (sym h ∙ ap (λ k. k == n) e ∙ same_test n))

gathered_by_at : (r : Reduction) (x : ℕ) (ss : List VectorAccumulator) (s : VectorAccumulator) (gs : List GatheredIn) (g : GatheredIn) (q : Bool) → (s.vector == x) ≡ q → g.vector ≡ s.vector
    → g.reduction ≡ s.reduction → length ss ≤ index_in s.vector ss
    → (reduction_in ss x r ≡ r → IsGatheredBy r x gs) → cond q s.reduction (reduction_in ss x r) ≡ r → IsGatheredBy r x (gs ++ g ∷ [])
gathered_by_at r x ss s gs g true e own by l was now =
    let at = same s.vector x e in
    let none = of_slot-none (λ (s : VectorAccumulator). s.reduction) ss x r (subst (λ (k : ℕ). length ss ≤ index_in k ss) at l) in
    is_gathered_by-push r x gs g (was none) (λ _. by ∙ now)
gathered_by_at r x ss s gs g false e own by l was now = is_gathered_by-push r x gs g (was now) (λ i. absurd (apart s.vector x e (sym own ∙ i)))

pub gathered_by_more : (r : Reduction) (x : ℕ) (ss : List VectorAccumulator) (s : VectorAccumulator) (gs : List GatheredIn) (g : GatheredIn) → g.vector ≡ s.vector → g.reduction ≡ s.reduction
    → length ss ≤ index_in s.vector ss
    → (reduction_in ss x r ≡ r → IsGatheredBy r x gs) → reduction_in (ss ++ s ∷ []) x r ≡ r → IsGatheredBy r x (gs ++ g ∷ [])
gathered_by_more r x ss s gs g own by l was now =
    let of = λ (s : VectorAccumulator). s.reduction in
    gathered_by_at r x ss s gs g (s.vector == x) refl own by l was (sym (of_slot-push of ss s x r ∙ first_slot of ss s x r (s.vector == x) refl l) ∙ now)

-- what is gathered for the first vectors
pub is_gathered_at : (r : Reduction) (x : ℕ) (gs : List GatheredIn) (i : ℕ) (d : GatheredIn) → IsGatheredBy r x gs → i < length gs → (get_or gs i d).vector ≡ x → (get_or gs i d).reduction ≡ r
is_gathered_at r x [] i d all l = absurd (omega (arith, l))
is_gathered_at r x (g ∷ gs) zero d all l = all.0
is_gathered_at r x (g ∷ gs) (suc i) d all l = is_gathered_at r x gs i d all.1 (omega (arith, l))

pub gathered_for_next : (x : ℕ) (gs : List GatheredIn) (i : ℕ) (g : GatheredIn) → i < length gs → g ≡ get_or gs i g
    → gathered_for x (take i gs) ++ cond (g.vector == x) (given_numbers g.numbers.items) [] ≡ gathered_for x (take (i + 1) gs)
gathered_for_next x gs i g l e =
    sym (ap (gathered_for x) (take_more gs i g l ∙ ap (λ (f : GatheredIn). take i gs ++ f ∷ []) (sym e)) ∙ gathered_for-push x (take i gs) g)
