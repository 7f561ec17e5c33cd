-- Vectors where they stand.
use Rattle.std.proofs.Common.{◌≡◌, ◌≢◌, Bool, true, false, nat_lt, if◌then◌else◌, ℕ, zero, suc, ◌∷◌, ◌+◌, ◌-◌, ◌*◌, ◌/◌, ◌%◌, ◌^◌, ◌<◌, ◌≤◌, ℤ, pos, List, [], length, get_or, set, map, refl, sym, ap}
use Rattle.std.proofs.Common.{◌∙◌, subst, inl, inr, arith, get_or-set_same, get_or-set_other, zero-add}
use Rattle.std.specs.List.{range_with_len}
use Rattle.std.proofs.Math.ListN.{length-set}
use Rattle.std.proofs.lemmas.Bool.Decides.{Decides-ltb, eqb_tells, leb_tells, nat_tests}
use Rattle.std.proofs.lemmas.List.{get_or-map, get_or_past, length-map, set-get_or}
use Rattle.std.proofs.lemmas.List.FromFn.{fill_by_all, get_or-map-range_with_len, length-map-range_with_len}
use Rattle.std.proofs.lemmas.Nat.{div-mul-add, mod-mul-add}
use Rattle.algorithm_meaning.specs.Value.{entry, with_entry}
use Rattle.vectors.specs.declared.location.Location.{Location}
use Rattle.vectors.specs.inside.Layout.{IsHome, IsLaidOut, StandsIn, location_at, nowhere, number_at, own_location, vector_at, vectors_at}
use Rattle.vectors.proofs.Rows.{index_in_row}

-- lists of the same items are the same
pub same_lists : {A : Type 0} (xs ys : List A) (d : A) → length xs ≡ length ys → ((k : ℕ) → k < length xs → get_or xs k d ≡ get_or ys k d) → xs ≡ ys
same_lists xs ys d n h = fill_by_all (λ k. get_or ys k d) xs (length xs) d refl h ∙ sym (fill_by_all (λ k. get_or ys k d) ys (length xs) d (sym n) (λ k l. refl))

-- a list stays where an index past its end is set
pub set_past : {A : Type 0} (xs : List A) (at : ℕ) (x : A) → length xs ≤ at → set xs at x ≡ xs
set_past [] at x l = refl
set_past (y ∷ xs) zero x l = absurd (omega arith)
set_past (y ∷ xs) (suc at) x l = ap (λ zs. y ∷ zs) (set_past xs at x (omega arith))

-- arrays keep their lengths where a number is written
length_after : (arrays : List (List ℤ)) (array index : ℕ) (x : ℤ) (other : ℕ)
    → length (get_or (set arrays array (set (get_or arrays array []) index x)) other []) ≡ length (get_or arrays other [])
length_after [] array index x other = refl
length_after (xs ∷ more) zero index x zero = length-set xs index x
length_after (xs ∷ more) zero index x (suc n) = refl
length_after (xs ∷ more) (suc m) index x zero = refl
length_after (xs ∷ more) (suc m) index x (suc n) = length_after more m index x n

-- ---- reading

entry_here : (arrays : List (List ℤ)) (l : Location) (v : ℕ) → v < l.vertices → get_or (vector_at arrays l) v (pos 0) ≡ number_at arrays l.array (v * l.stride + l.first)
entry_here arrays l v h =
    get_or-map-range_with_len (λ u. number_at arrays l.array (u * l.stride + l.first)) 0 l.vertices v v (pos 0) h (zero-add v)

pub length-vector : (arrays : List (List ℤ)) (l : Location) → length (vector_at arrays l) ≡ l.vertices
length-vector arrays l = length-map-range_with_len (λ u. number_at arrays l.array (u * l.stride + l.first)) 0 l.vertices

entry_past : (arrays : List (List ℤ)) (l : Location) (v : ℕ) → l.vertices ≤ v → get_or (vector_at arrays l) v (pos 0) ≡ pos 0
entry_past arrays l v h = get_or_past (vector_at arrays l) v (pos 0) (let n = length-vector arrays l in omega arith)

pub vector_here : (arrays : List (List ℤ)) (ls : List Location) (i : ℕ) → i < length ls → get_or (vectors_at arrays ls) i [] ≡ vector_at arrays (location_at ls i)
vector_here arrays ls i h = get_or-map (vector_at arrays) ls i nowhere [] h

pub length-vectors : (arrays : List (List ℤ)) (ls : List Location) → length (vectors_at arrays ls) ≡ length ls
length-vectors arrays ls = length-map ls (vector_at arrays)

pub entry_inside : (arrays : List (List ℤ)) (ls : List Location) (i v : ℕ) → i < length ls → v < (location_at ls i).vertices
    → entry (vectors_at arrays ls) i v ≡ number_at arrays (location_at ls i).array (v * (location_at ls i).stride + (location_at ls i).first)
entry_inside arrays ls i v l h = ap (λ (xs : List ℤ). get_or xs v (pos 0)) (vector_here arrays ls i l) ∙ entry_here arrays (location_at ls i) v h

pub entry_behind : (arrays : List (List ℤ)) (ls : List Location) (i v : ℕ) → i < length ls → (location_at ls i).vertices ≤ v → entry (vectors_at arrays ls) i v ≡ pos 0
entry_behind arrays ls i v l h = ap (λ (xs : List ℤ). get_or xs v (pos 0)) (vector_here arrays ls i l) ∙ entry_past arrays (location_at ls i) v h

pub entry_nowhere : (arrays : List (List ℤ)) (ls : List Location) (i v : ℕ) → length ls ≤ i → entry (vectors_at arrays ls) i v ≡ pos 0
entry_nowhere arrays ls i v l =
    ap (λ (xs : List ℤ). get_or xs v (pos 0)) (get_or_past (vectors_at arrays ls) i [] (let n = length-vectors arrays ls in omega arith))

by_test : {A : Type 0} (b : Bool) (x y z : A) → (b ≡ true → x ≡ z) → (b ≡ false → y ≡ z) → (if b then x else y) ≡ z
by_test true x y z f g = f refl
by_test false x y z f g = g refl

-- an entry as a lane reads it
pub entry_read : (arrays : List (List ℤ)) (ls : List Location) (i v : ℕ) → i < length ls
    → (if nat_lt v (location_at ls i).vertices then number_at arrays (location_at ls i).array (v * (location_at ls i).stride + (location_at ls i).first) else pos 0)
    ≡ entry (vectors_at arrays ls) i v
entry_read arrays ls i v h =
    let l = location_at ls i in
    by_test (nat_lt v l.vertices) (number_at arrays l.array (v * l.stride + l.first)) (pos 0) (entry (vectors_at arrays ls) i v)
    (λ b. sym (entry_inside arrays ls i v h ((Decides-ltb v l.vertices).0 b)))
    (λ b. sym (entry_behind arrays ls i v h (grind (arith, nat_tests))))

-- ---- indices in rows

same_first : (u v stride first other : ℕ) → first < stride → other < stride → u * stride + other ≡ v * stride + first → other ≡ first
same_first u v stride first other f o e = sym (mod-mul-add u stride other o) ∙ ap (λ n. n % stride) e ∙ mod-mul-add v stride first f

same_row : (u v stride first : ℕ) → first < stride → u * stride + first ≡ v * stride + first → u ≡ v
same_row u v stride first f e = sym (div-mul-add u stride first f) ∙ ap (λ n. n / stride) e ∙ div-mul-add v stride first f

-- two vectors of one array have rows of one length, and other indices in them
same_stride : (groups : List (List ℕ)) (count i k : ℕ) (l m : Location) → IsHome groups count i l → IsHome groups count k m → m.array ≡ l.array → m.stride ≡ l.stride
same_stride groups count i k l m h g e = elim (leb_tells count l.array) [
  | inl there ↦
      let at = l.array - count in
      let below = there.1 in
      let one : l.array ≡ count + at = omega arith in
      let two : m.array ≡ count + at = e ∙ one in
      g.grouped at two ∙ sym (h.grouped at one)
  | inr there ↦
      let here = there.1 in
      let also : m.array < count = omega arith in
      g.alone also ∙ sym (h.alone here)
]

same_vector : (groups : List (List ℕ)) (count i k : ℕ) (l m : Location) → IsHome groups count i l → IsHome groups count k m → m.array ≡ l.array → m.first ≡ l.first → k ≡ i
same_vector groups count i k l m h g e f = elim (leb_tells count l.array) [
  | inl there ↦
      let at = l.array - count in
      let below = there.1 in
      let one : l.array ≡ count + at = omega arith in
      let two : m.array ≡ count + at = e ∙ one in
      sym (g.named at two) ∙ ap (λ (n : ℕ). get_or (get_or groups at []) n 0) f ∙ h.named at one
  | inr there ↦
      let here = there.1 in
      let also : m.array < count = omega arith in
      sym (g.own also) ∙ e ∙ h.own here
]

-- ---- one number written

number_written : (arrays : List (List ℤ)) (array index : ℕ) (x : ℤ) → array < length arrays → index < length (get_or arrays array [])
    → number_at (set arrays array (set (get_or arrays array []) index x)) array index ≡ x
number_written arrays array index x l h =
    ap (λ (xs : List ℤ). get_or xs index (pos 0)) (get_or-set_same arrays array (set (get_or arrays array []) index x) [] l)
    ∙ get_or-set_same (get_or arrays array []) index x (pos 0) h

number_beside : (arrays : List (List ℤ)) (array index : ℕ) (x : ℤ) (other : ℕ) → array < length arrays → other ≢ index
    → number_at (set arrays array (set (get_or arrays array []) index x)) array other ≡ number_at arrays array other
number_beside arrays array index x other l h =
    ap (λ (xs : List ℤ). get_or xs other (pos 0)) (get_or-set_same arrays array (set (get_or arrays array []) index x) [] l)
    ∙ get_or-set_other (get_or arrays array []) index other x (pos 0) h

number_elsewhere : (arrays : List (List ℤ)) (array index : ℕ) (x : ℤ) (other at : ℕ) → other ≢ array
    → number_at (set arrays array (set (get_or arrays array []) index x)) other at ≡ number_at arrays other at
number_elsewhere arrays array index x other at h =
    ap (λ (xs : List ℤ). get_or xs at (pos 0)) (get_or-set_other arrays array other (set (get_or arrays array []) index x) [] h)

-- functions that give the same are one
pub same_functions : {A B : Type 0} (f g : A → B) → ((x : A) → f x ≡ g x) → f ≡ g
same_functions f g h = λ i x. h x i

-- a vector keeps its entries where the number written is none of them
vector_stays : (arrays after : List (List ℤ)) (l : Location)
    → ((v : ℕ) → number_at after l.array (v * l.stride + l.first) ≡ number_at arrays l.array (v * l.stride + l.first)) → vector_at after l ≡ vector_at arrays l
vector_stays arrays after l h =
    ap (λ (f : ℕ → ℤ). map f (range_with_len 0 l.vertices))
    (same_functions (λ v. number_at after l.array (v * l.stride + l.first)) (λ v. number_at arrays l.array (v * l.stride + l.first)) h)

other_vector : (arrays : List (List ℤ)) (ls : List Location) (groups : List (List ℕ)) → IsLaidOut arrays ls groups → (i k v : ℕ) (x : ℤ)
    → i < length ls → k < length ls → k ≢ i
    → vector_at (set arrays (location_at ls i).array (set (get_or arrays (location_at ls i).array []) (v * (location_at ls i).stride + (location_at ls i).first) x)) (location_at ls k)
    ≡ vector_at arrays (location_at ls k)
other_vector arrays ls groups laid i k v x hi hk apart =
    let l = location_at ls i in
    let m = location_at ls k in
    let index = v * l.stride + l.first in
    let hl = laid.homes i hi in
    let hm = laid.homes k hk in
    let row = hl.row in
    let known = hl.known in
    let all = laid.count in
    let inside : l.array < length arrays = omega arith in
    vector_stays arrays (set arrays l.array (set (get_or arrays l.array []) index x)) m (λ u.
    elim (eqb_tells m.array l.array) [
      | inl same ↦
          let strides = same_stride groups (length ls) i k l m hl hm same.1 in
          let moved : m.first < l.stride = subst (λ (n : ℕ). m.first < n) strides hm.row in
          let away : u * m.stride + m.first ≢ index = λ e. apart (same_vector groups (length ls) i k l m hl hm same.1
          (same_first u v l.stride l.first m.first row moved (ap (λ (n : ℕ). u * n + m.first) (sym strides) ∙ e))) in
          ap (λ (a : ℕ). number_at (set arrays l.array (set (get_or arrays l.array []) index x)) a (u * m.stride + m.first)) same.1
          ∙ number_beside arrays l.array index x (u * m.stride + m.first) inside away
          ∙ ap (λ (a : ℕ). number_at arrays a (u * m.stride + m.first)) (sym same.1)
      | inr other ↦ number_elsewhere arrays l.array index x m.array (u * m.stride + m.first) other.1
    ])

this_vector : (arrays : List (List ℤ)) (ls : List Location) (groups : List (List ℕ)) → IsLaidOut arrays ls groups → (i v : ℕ) (x : ℤ)
    → i < length ls → v < (location_at ls i).vertices
    → vector_at (set arrays (location_at ls i).array (set (get_or arrays (location_at ls i).array []) (v * (location_at ls i).stride + (location_at ls i).first) x)) (location_at ls i)
    ≡ set (vector_at arrays (location_at ls i)) v x
this_vector arrays ls groups laid i v x hi hv =
    let l = location_at ls i in
    let index = v * l.stride + l.first in
    let after = set arrays l.array (set (get_or arrays l.array []) index x) in
    let hl = laid.homes i hi in
    let row = hl.row in
    let known = hl.known in
    let all = laid.count in
    let inside : l.array < length arrays = omega arith in
    let whole = laid.whole i hi in
    let there : index < length (get_or arrays l.array []) = index_in_row v l.vertices l.stride l.first (length (get_or arrays l.array [])) hv row (omega arith) in
    let n = length-vector arrays l in
    let m = length-vector after l in
    let j = length-set (vector_at arrays l) v x in
    same_lists (vector_at after l) (set (vector_at arrays l) v x) (pos 0) (m ∙ sym n ∙ sym j) (λ u h.
    let hu : u < l.vertices = omega arith in
    entry_here after l u hu
    ∙ elim (eqb_tells u v) [
      | inl same ↦
          ap (λ (w : ℕ). number_at after l.array (w * l.stride + l.first)) same.1
          ∙ number_written arrays l.array index x inside there
          ∙ sym (get_or-set_same (vector_at arrays l) v x (pos 0) (omega arith))
          ∙ ap (λ (w : ℕ). get_or (set (vector_at arrays l) v x) w (pos 0)) (sym same.1)
      | inr other ↦
          let away : u * l.stride + l.first ≢ index = λ e. other.1 (same_row u v l.stride l.first row e) in
          number_beside arrays l.array index x (u * l.stride + l.first) inside away
          ∙ sym (entry_here arrays l u hu)
          ∙ sym (get_or-set_other (vector_at arrays l) v u x (pos 0) other.1)
    ])

-- the vectors after one number was written where a vector's entry stands
pub entry_set : (arrays : List (List ℤ)) (ls : List Location) (groups : List (List ℕ)) → IsLaidOut arrays ls groups → (i v : ℕ) (x : ℤ)
    → i < length ls → v < (location_at ls i).vertices
    → vectors_at (set arrays (location_at ls i).array (set (get_or arrays (location_at ls i).array []) (v * (location_at ls i).stride + (location_at ls i).first) x)) ls
    ≡ with_entry (vectors_at arrays ls) i v x
entry_set arrays ls groups laid i v x hi hv =
    let l = location_at ls i in
    let after = set arrays l.array (set (get_or arrays l.array []) (v * l.stride + l.first) x) in
    let before = vectors_at arrays ls in
    let n = length-vectors arrays ls in
    let m = length-vectors after ls in
    let j = length-set before i (set (get_or before i []) v x) in
    same_lists (vectors_at after ls) (set before i (set (get_or before i []) v x)) [] (m ∙ sym n ∙ sym j) (λ k h.
    let hk : k < length ls = omega arith in
    vector_here after ls k hk
    ∙ elim (eqb_tells k i) [
      | inl same ↦
          ap (λ (w : ℕ). vector_at after (location_at ls w)) same.1
          ∙ this_vector arrays ls groups laid i v x hi hv
          ∙ ap (λ (xs : List ℤ). set xs v x) (sym (vector_here arrays ls i hi))
          ∙ sym (get_or-set_same before i (set (get_or before i []) v x) [] (omega arith))
          ∙ ap (λ (w : ℕ). get_or (set before i (set (get_or before i []) v x)) w []) (sym same.1)
      | inr other ↦
          other_vector arrays ls groups laid i k v x hi hk other.1
          ∙ sym (vector_here arrays ls k hk)
          ∙ sym (get_or-set_other before i k (set (get_or before i []) v x) [] other.1)
    ])

-- where there is no such vertex, or no such vector, nothing is to be written
pub entry_set_past : (arrays : List (List ℤ)) (ls : List Location) (i v : ℕ) (x : ℤ) → i < length ls → (location_at ls i).vertices ≤ v
    → vectors_at arrays ls ≡ with_entry (vectors_at arrays ls) i v x
entry_set_past arrays ls i v x hi hv =
    let before = vectors_at arrays ls in
    let n = length-vector arrays (location_at ls i) in
    let same : set (get_or before i []) v x ≡ get_or before i [] = set_past (get_or before i []) v x (subst (λ (xs : List ℤ). length xs ≤ v) (sym (vector_here arrays ls i hi)) (omega arith)) in
    sym (ap (set before i) same ∙ set-get_or before i [])

pub entry_set_nowhere : (arrays : List (List ℤ)) (ls : List Location) (i v : ℕ) (x : ℤ) → length ls ≤ i
    → vectors_at arrays ls ≡ with_entry (vectors_at arrays ls) i v x
entry_set_nowhere arrays ls i v x h =
    let n = length-vectors arrays ls in
    sym (set_past (vectors_at arrays ls) i (set (get_or (vectors_at arrays ls) i []) v x) (omega arith))

-- the layout stays where arrays keep their lengths
pub laid_out_after : (arrays : List (List ℤ)) (ls : List Location) (groups : List (List ℕ)) (array index : ℕ) (x : ℤ) → IsLaidOut arrays ls groups
    → IsLaidOut (set arrays array (set (get_or arrays array []) index x)) ls groups
laid_out_after arrays ls groups array index x laid = record {
  homes = laid.homes;
  members = laid.members;
  whole = λ i l. laid.whole i l ∙ sym (length_after arrays array index x (location_at ls i).array);
  fits = laid.fits;
  count = length-set arrays array (set (get_or arrays array []) index x) ∙ laid.count;
}

-- ---- each vector in an array of its own

pub own_is_laid_out : (arrays : List (List ℤ)) (ls : List Location) → length ls ≡ length arrays
    → ((i : ℕ) → i < length arrays → location_at ls i ≡ own_location arrays i) → ((i : ℕ) → i < length arrays → length (get_or arrays i []) < 2 ^ 64) → IsLaidOut arrays ls []
own_is_laid_out arrays ls n h few = record {
  homes = λ i l.
      let e : location_at ls i ≡ own_location arrays i = h i (omega arith) in
      subst (IsHome [] (length ls) i) (sym e) (record {
        row = omega arith;
        own = λ b. refl;
        alone = λ b. refl;
        known = omega arith;
        grouped = λ k e. absurd (omega arith);
        named = λ k e. absurd (omega arith);
      });
  members = λ k j l. absurd (omega arith);
  whole = λ i l.
      let e : location_at ls i ≡ own_location arrays i = h i (omega arith) in
      let P : Location → Type 0 = λ m. m.vertices * m.stride ≡ length (get_or arrays m.array []) in
      subst P (sym e) (omega arith);
  fits = λ i l.
      let e : location_at ls i ≡ own_location arrays i = h i (omega arith) in
      let small = few i (omega arith) in
      let P : Location → Type 0 = λ m. m.vertices * m.stride < 2 ^ 64 in
      subst P (sym e) (omega arith);
  count = omega arith;
}

own_vector : (arrays : List (List ℤ)) (i : ℕ) → vector_at arrays (own_location arrays i) ≡ get_or arrays i []
own_vector arrays i =
    let l = own_location arrays i in
    same_lists (vector_at arrays l) (get_or arrays i []) (pos 0) (length-vector arrays l) (λ v h.
    let n = length-vector arrays l in
    let inside : v < l.vertices = omega arith in
    entry_here arrays l v inside ∙ ap (λ (k : ℕ). get_or (get_or arrays i []) k (pos 0)) (omega arith))

pub own_vectors : (arrays : List (List ℤ)) (ls : List Location) → length ls ≡ length arrays
    → ((i : ℕ) → i < length arrays → location_at ls i ≡ own_location arrays i) → vectors_at arrays ls ≡ arrays
own_vectors arrays ls n h =
    same_lists (vectors_at arrays ls) arrays [] (length-vectors arrays ls ∙ n) (λ i l.
    let m = length-vectors arrays ls in
    let inside : i < length ls = omega arith in
    vector_here arrays ls i inside ∙ ap (vector_at arrays) (h i (omega arith)) ∙ own_vector arrays i)

-- a vector's entry is in its array, and its index is a number of 64 bits
pub index_fits : (arrays : List (List ℤ)) (ls : List Location) (groups : List (List ℕ)) → IsLaidOut arrays ls groups → (i v : ℕ) → i < length ls → v < (location_at ls i).vertices
    → v * (location_at ls i).stride + (location_at ls i).first < 2 ^ 64
index_fits arrays ls groups laid i v hi hv =
    let l = location_at ls i in
    let few = laid.fits i hi in
    let row = (laid.homes i hi).row in
    let below : v * l.stride + l.first < l.vertices * l.stride = index_in_row v l.vertices l.stride l.first (l.vertices * l.stride) hv row (omega arith) in
    omega arith

-- ---- vectors that are handed over

-- a vector in the array of its own index is that array
pub alone_here : (arrays : List (List ℤ)) (ls : List Location) (groups : List (List ℕ)) → IsLaidOut arrays ls groups → (i : ℕ) → i < length ls
    → (location_at ls i).array ≡ i → vector_at arrays (location_at ls i) ≡ get_or arrays i []
alone_here arrays ls groups laid i l at =
    let home = laid.homes i l in
    let here : (location_at ls i).array < length ls = omega arith in
    let stride = home.alone here in
    let row = home.row in
    let first : (location_at ls i).first ≡ 0 = omega arith in
    let whole = laid.whole i l in
    let once : (location_at ls i).vertices ≡ (location_at ls i).vertices * 1 = omega arith in
    let many = once ∙ ap (λ (n : ℕ). (location_at ls i).vertices * n) (sym stride) ∙ whole ∙ ap (λ (k : ℕ). length (get_or arrays k [])) at in
    ap (vector_at arrays) (λ j. record { array = at j; first = first j; stride = stride j; vertices = many j }) ∙ own_vector arrays i

-- a vector reads only its own array
pub vector_along : (arrays now : List (List ℤ)) (l : Location) → get_or now l.array [] ≡ get_or arrays l.array [] → vector_at now l ≡ vector_at arrays l
vector_along arrays now l same = ap (λ (xs : List ℤ). map (λ v. get_or xs (v * l.stride + l.first) (pos 0)) (range_with_len 0 l.vertices)) same

-- numbers that are read one after another are the vector
pub lane_is_vector : (arrays : List (List ℤ)) (l : Location) (f : ℕ → ℤ)
    → ((v : ℕ) → f v ≡ (if nat_lt v l.vertices then number_at arrays l.array (v * l.stride + l.first) else pos 0)) → map f (range_with_len 0 l.vertices) ≡ vector_at arrays l
lane_is_vector arrays l f reads =
    let n = length-map-range_with_len f 0 l.vertices in
    same_lists (map f (range_with_len 0 l.vertices)) (vector_at arrays l) (pos 0) (n ∙ sym (length-vector arrays l)) (λ v h.
    let inside : v < l.vertices = omega (arith, h, n) in
    get_or-map-range_with_len f 0 l.vertices v v (pos 0) inside (zero-add v) ∙ reads v
    ∙ by_test (nat_lt v l.vertices) (number_at arrays l.array (v * l.stride + l.first)) (pos 0) (get_or (vector_at arrays l) v (pos 0))
    (λ b. sym (entry_here arrays l v inside))
    (λ b. absurd (grind (arith, nat_tests))))

-- each vector stands in its array
pub stands_in : (arrays : List (List ℤ)) (ls : List Location) (groups : List (List ℕ)) → IsLaidOut arrays ls groups → (i : ℕ) → i < length ls → StandsIn arrays (location_at ls i)
stands_in arrays ls groups laid i l =
    let home = laid.homes i l in
    let known = home.known in
    let all = laid.count in
    record { array = omega arith; row = home.row; whole = laid.whole i l }
