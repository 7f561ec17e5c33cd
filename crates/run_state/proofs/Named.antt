-- Vertex sets with their names and their sizes.
use Rattle.std.proofs.Common.{◌≡◌, ℕ, zero, suc, ◌+◌, ◌<◌, ℤ, List, [], ◌∷◌, ◌++◌, length, map, take, drop, set, get_or, slice_get, Some, ap, sym, ◌∙◌, refl, subst, arith}
use Rattle.std.proofs.lemmas.List.{length-append, length-map, length-set, length-take, map-append, map-set, take-map}
use Rattle.algorithm_meaning.specs.Value.{members_of}
use Rattle.algorithm_meaning.specs.VertexSets.{with_members, with_new_set}
use Rattle.vertex_sets.specs.VertexSet.{IsAscendingBelow, VertexSubset}
use Rattle.vertex_sets.proofs.Ascending.{ascending_below, contains_nothing}
use Rattle.run_state.specs.View.{members_in}
use Rattle.run_state.specs.inside.NamedSets.{AreNamed, AreSetsOf, named, nothing, size_of, sizes_of, with_first_set, with_first_sets}

pub named_push : (ns : List ℕ) (ms : List VertexSubset) (n : ℕ) (m : VertexSubset) → length ns ≡ length ms → named (ns ++ n ∷ []) (ms ++ m ∷ []) ≡ with_new_set (named ns ms) n m.members
named_push [] [] n m h = refl
named_push [] (y ∷ ms) n m h = absurd (omega (arith, h))
named_push (x ∷ ns) [] n m h = absurd (omega (arith, h))
named_push (x ∷ ns) (y ∷ ms) n m h = ap (with_first_set x y.members) (named_push ns ms n m (omega (arith, h)))

pub named_replaced : (ns : List ℕ) (ms : List VertexSubset) (index : ℕ) (m : VertexSubset) → length ns ≡ length ms → named ns (set ms index m) ≡ with_members (named ns ms) index m.members
named_replaced [] [] index m h = refl
named_replaced [] (y ∷ ms) index m h = absurd (omega (arith, h))
named_replaced (x ∷ ns) [] index m h = absurd (omega (arith, h))
named_replaced (x ∷ ns) (y ∷ ms) zero m h = refl
named_replaced (x ∷ ns) (y ∷ ms) (suc index) m h = ap (with_first_set x y.members) (named_replaced ns ms index m (omega (arith, h)))

-- where there is no set nothing is replaced
pub replaced_outside : (ns : List ℕ) (ms : List VertexSubset) (index : ℕ) (members : List ℕ) → length ms < index + 1 → named ns ms ≡ with_members (named ns ms) index members
replaced_outside [] ms index members h = refl
replaced_outside (x ∷ ns) [] index members h = refl
replaced_outside (x ∷ ns) (y ∷ ms) zero members h = absurd (omega (arith, h))
replaced_outside (x ∷ ns) (y ∷ ms) (suc index) members h = ap (with_first_set x y.members) (replaced_outside ns ms index members (omega (arith, h)))

no_sets : (ns : List ℕ) (ms : List VertexSubset) → nothing ≡ with_first_sets 0 (named ns ms)
no_sets [] ms = refl
no_sets (x ∷ ns) [] = refl
no_sets (x ∷ ns) (y ∷ ms) = no_sets ns ms

pub named_take : (k : ℕ) (ns : List ℕ) (ms : List VertexSubset) → named (take k ns) (take k ms) ≡ with_first_sets k (named ns ms)
named_take zero ns ms = no_sets ns ms
named_take (suc k) [] ms = refl
named_take (suc k) (x ∷ ns) [] = refl
named_take (suc k) (x ∷ ns) (y ∷ ms) = ap (with_first_set x y.members) (named_take k ns ms)

pub named_sizes : (ns : List ℕ) (ms : List VertexSubset) → length ns ≡ length ms → sizes_of (named ns ms) ≡ map (λ (set : VertexSubset). size_of set.members) ms
named_sizes [] [] h = refl
named_sizes [] (y ∷ ms) h = absurd (omega (arith, h))
named_sizes (x ∷ ns) [] h = absurd (omega (arith, h))
named_sizes (x ∷ ns) (y ∷ ms) h = ap (λ (zs : List ℤ). size_of y.members ∷ zs) (named_sizes ns ms (omega (arith, h)))

pub named_members : (ns : List ℕ) (ms : List VertexSubset) (index : ℕ) → length ns ≡ length ms → members_in (slice_get ms index) ≡ members_of (slice_get (named ns ms).sets index)
named_members [] [] index h = refl
named_members [] (y ∷ ms) index h = absurd (omega (arith, h))
named_members (x ∷ ns) [] index h = absurd (omega (arith, h))
named_members (x ∷ ns) (y ∷ ms) zero h = refl
named_members (x ∷ ns) (y ∷ ms) (suc index) h = named_members ns ms index (omega (arith, h))

pub named_length : (ns : List ℕ) (ms : List VertexSubset) → length ns ≡ length ms → length ms ≡ length (named ns ms).sets
named_length [] [] h = refl
named_length [] (y ∷ ms) h = absurd (omega (arith, h))
named_length (x ∷ ns) [] h = absurd (omega (arith, h))
named_length (x ∷ ns) (y ∷ ms) h = ap suc (named_length ns ms (omega (arith, h)))

no_members : (n : ℕ) → IsAscendingBelow n []
no_members n = ascending_below n [] tt (λ v is. absurd (contains_nothing v is))

pub named_ascending : (n : ℕ) (ns : List ℕ) (ms : List VertexSubset) → AreSetsOf n ms → (index : ℕ) → IsAscendingBelow n (members_of (slice_get (named ns ms).sets index))
named_ascending n [] ms each index = no_members n
named_ascending n (x ∷ ns) [] each index = no_members n
named_ascending n (x ∷ ns) (y ∷ ms) each zero = each.1
named_ascending n (x ∷ ns) (y ∷ ms) each (suc index) = named_ascending n ns ms each.2 index

-- the next name with the next set
pub next_named : (ns : List ℕ) (ms : List VertexSubset) (i : ℕ) (n : ℕ) (m : VertexSubset) → i < length ns → i < length ms
    → named (drop i ns) (drop i ms) ≡ with_first_set (get_or ns i n) (get_or ms i m).members (named (drop (i + 1) ns) (drop (i + 1) ms))
next_named [] ms i n m h k = absurd (omega (arith, h))
next_named (x ∷ ns) [] i n m h k = absurd (omega (arith, k))
next_named (x ∷ ns) (y ∷ ms) zero n m h k = refl
next_named (x ∷ ns) (y ∷ ms) (suc i) n m h k =
    let more : i + 1 ≡ suc i = omega arith in
    let again : suc (suc i) ≡ suc i + 1 = omega arith in
    next_named ns ms i n m (omega (arith, h)) (omega (arith, k))
    ∙ ap (λ (j : ℕ). with_first_set (get_or ns i n) (get_or ms i m).members (named (drop j ns) (drop j ms))) more
    ∙ ap (λ (j : ℕ). with_first_set (get_or ns i n) (get_or ms i m).members (named (drop j (x ∷ ns)) (drop j (y ∷ ms)))) again

-- ---- sets of n vertices

each_push : (n : ℕ) (ms : List VertexSubset) (m : VertexSubset) → AreSetsOf n ms → m.vertices ≡ n → IsAscendingBelow n m.members → AreSetsOf n (ms ++ m ∷ [])
each_push n [] m each v a = (v, a, tt)
each_push n (y ∷ ms) m each v a = (each.0, each.1, each_push n ms m each.2 v a)

each_set : (n : ℕ) (ms : List VertexSubset) (index : ℕ) (m : VertexSubset) → AreSetsOf n ms → m.vertices ≡ n → IsAscendingBelow n m.members → AreSetsOf n (set ms index m)
each_set n [] index m each v a = tt
each_set n (y ∷ ms) zero m each v a = (v, a, each.2)
each_set n (y ∷ ms) (suc index) m each v a = (each.0, each.1, each_set n ms index m each.2 v a)

each_take : (n k : ℕ) (ms : List VertexSubset) → AreSetsOf n ms → AreSetsOf n (take k ms)
each_take n zero ms each = tt
each_take n (suc k) [] each = tt
each_take n (suc k) (y ∷ ms) each = (each.0, each.1, each_take n k ms each.2)

-- a set that is found has as many vertices
pub found_vertices : (n : ℕ) (ms : List VertexSubset) (index : ℕ) (m : VertexSubset) → Some m ≡ slice_get ms index → AreSetsOf n ms → m.vertices ≡ n
found_vertices n [] index m e each = absurd (cc)
found_vertices n (y ∷ ms) zero m e each = let same : m ≡ y = cc in ap (λ (s : VertexSubset). s.vertices) same ∙ each.0
found_vertices n (y ∷ ms) (suc index) m e each = found_vertices n ms index m e each.2

pub found_ascending : (n : ℕ) (ms : List VertexSubset) (index : ℕ) (m : VertexSubset) → Some m ≡ slice_get ms index → AreSetsOf n ms → IsAscendingBelow n m.members
found_ascending n [] index m e each = absurd (cc)
found_ascending n (y ∷ ms) zero m e each = let same : y ≡ m = cc in subst (λ (s : VertexSubset). IsAscendingBelow n s.members) same each.1
found_ascending n (y ∷ ms) (suc index) m e each = found_ascending n ms index m e each.2

pub measured_length : (n : ℕ) (ns : List ℕ) (ms : List VertexSubset) (zs : List ℤ) → AreNamed n ns ms zs → length zs ≡ length ms
measured_length n ns ms zs are = ap (λ (xs : List ℤ). length xs) are.measured ∙ length-map ms (λ (set : VertexSubset). size_of set.members)

pub pushed : (n : ℕ) (ns : List ℕ) (ms : List VertexSubset) (zs : List ℤ) → AreNamed n ns ms zs → (name : ℕ) (m : VertexSubset) (z : ℤ) → m.vertices ≡ n → IsAscendingBelow n m.members
    → z ≡ size_of m.members
    → AreNamed n (ns ++ name ∷ []) (ms ++ m ∷ []) (zs ++ z ∷ [])
pushed n ns ms zs are name m z v a e = record {
  count = omega (arith, are.count, length-append ns (name ∷ []), length-append ms (m ∷ []));
  measured = ap (λ (x : ℤ). zs ++ x ∷ []) e ∙ ap (λ (xs : List ℤ). xs ++ size_of m.members ∷ []) are.measured ∙ sym (map-append (λ (set : VertexSubset). size_of set.members) ms (m ∷ []));
  each = each_push n ms m are.each v a;
}

pub replaced : (n : ℕ) (ns : List ℕ) (ms : List VertexSubset) (zs : List ℤ) → AreNamed n ns ms zs → (index : ℕ) (m : VertexSubset) (z : ℤ) → m.vertices ≡ n → IsAscendingBelow n m.members
    → z ≡ size_of m.members
    → AreNamed n ns (set ms index m) (set zs index z)
replaced n ns ms zs are index m z v a e = record {
  count = are.count ∙ sym (length-set ms index m);
  measured = ap (λ (x : ℤ). set zs index x) e ∙ ap (λ (xs : List ℤ). set xs index (size_of m.members)) are.measured ∙ sym (map-set (λ (set : VertexSubset). size_of set.members) ms index m);
  each = each_set n ms index m are.each v a;
}

pub taken : (n k : ℕ) (ns : List ℕ) (ms : List VertexSubset) (zs : List ℤ) → AreNamed n ns ms zs → AreNamed n (take k ns) (take k ms) (take k zs)
taken n k ns ms zs are = record {
  count = omega (arith, are.count, length-take k ns, length-take k ms);
  measured = ap (take k) are.measured ∙ take-map (λ (set : VertexSubset). size_of set.members) k ms;
  each = each_take n k ms are.each;
}
