-- The changes of parts, appended to one another.
use Rattle.std.proofs.Common.{◌≡◌, ℕ, suc, ◌+◌, ◌<◌, ◌==◌, Bool, true, false, cond, ◌||◌, List, [], ◌∷◌, ◌++◌, length, get_or, take, slice_get, Some, refl, sym, ap, ap₂, ◌∙◌, arith, append_assoc}
use Rattle.std.proofs.lemmas.Bool.{false≢true}
use Rattle.std.proofs.lemmas.Bool.Decides.{nat_tests}
use Rattle.std.proofs.lemmas.List.{append-nil, take_more}
use Rattle.std.specs.List.{flat_map, range_with_len}
use Rattle.crew.specs.declared.piece_results.Found.{Found}
use Rattle.vectors.specs.declared.changes.Changes.{Changes}
use Rattle.vectors.specs.declared.changes.EntryChange.{EntryChange}
use Rattle.vectors.specs.declared.changes.VectorChanges.{VectorChanges}
use Rattle.edge_fold.specs.Changed.{changes_of, changes_or, is_named}
use Rattle.edge_fold.proofs.Findings.{changes_or-push, changes_or-skip}
use Rattle.edge_apply.specs.inside.Merged.{changes_in_parts}

same : (m n : ℕ) → (m == n) ≡ true → m ≡ n
same m n h = grind (arith, nat_tests)

itself : (n : ℕ) → (n == n) ≡ true
itself n = grind (arith, nat_tests)

-- one part more
parts_push : (x : ℕ) (fs : List (Found Changes)) (f : Found Changes) → changes_in_parts x (fs ++ f ∷ []) ≡ changes_in_parts x fs ++ changes_of x f.out.vectors.items
parts_push x [] f = append-nil (changes_of x f.out.vectors.items)
parts_push x (g ∷ fs) f =
    let first = changes_of x g.out.vectors.items in
    ap (λ cs. first ++ cs) (parts_push x fs f) ∙ sym (append_assoc first (changes_in_parts x fs) (changes_of x f.out.vectors.items))

pub parts_next : (x : ℕ) (fs : List (Found Changes)) (i : ℕ) (f : Found Changes) → i < length fs → f ≡ get_or fs i f
    → changes_in_parts x (take (i + 1) fs) ≡ changes_in_parts x (take i fs) ++ changes_of x f.out.vectors.items
parts_next x fs i f l is =
    ap (changes_in_parts x) (take_more fs i f l ∙ ap (λ (g : Found Changes). take i fs ++ g ∷ []) (sym is)) ∙ parts_push x (take i fs) f

pub no_changes_next : (x : ℕ) (fs : List (Found Changes)) (i : ℕ) (f : Found Changes) → i < length fs → f ≡ get_or fs i f → changes_in_parts x (take i fs) ≡ [] → changes_of x f.out.vectors.items ≡ []
    → changes_in_parts x (take (i + 1) fs) ≡ []
no_changes_next x fs i f l is before here = parts_next x fs i f l is ∙ ap (λ cs. cs ++ changes_of x f.out.vectors.items) before ∙ here

-- a vector that is not there has no change
pub found_or : (x : ℕ) (cs : List VectorChanges) (all : List EntryChange) (b : Bool) → is_named x cs ≡ b → changes_or x cs all ≡ all → (b ≡ false → all ≡ []) → changes_of x cs ≡ all
found_or x cs all true is have none = sym (changes_or-skip x x cs all [] is) ∙ ap (λ (b : Bool). changes_or x cs (cond b all [])) (itself x) ∙ have
found_or x cs all false is have none = ap (changes_or x cs) (sym (none refl)) ∙ have

-- one vector more
own_changes : (v x : ℕ) (fs : List (Found Changes)) (b : Bool) → (v == x) ≡ b → cond b (changes_in_parts v fs) (changes_in_parts x fs) ≡ changes_in_parts x fs
own_changes v x fs true is = ap (λ (y : ℕ). changes_in_parts y fs) (same v x is)
own_changes v x fs false is = refl

pub have_more : (x : ℕ) (fs : List (Found Changes)) (vs : List VectorChanges) (c : VectorChanges) → c.changes.items ≡ changes_in_parts c.vector fs
    → changes_or x vs (changes_in_parts x fs) ≡ changes_in_parts x fs
    → changes_or x (vs ++ c ∷ []) (changes_in_parts x fs) ≡ changes_in_parts x fs
have_more x fs vs c own have =
    changes_or-push x vs c (changes_in_parts x fs)
    ∙ ap (λ cs. changes_or x vs (cond (c.vector == x) cs (changes_in_parts x fs))) own
    ∙ ap (changes_or x vs) (own_changes c.vector x fs (c.vector == x) refl)
    ∙ have

both_off : (p q : Bool) → p || q ≡ false → (p ≡ false) × (q ≡ false)
both_off true q h = absurd (false≢true (sym h))
both_off false q h = (refl, h)

pub named_push : (x : ℕ) (vs : List VectorChanges) (c : VectorChanges) → is_named x (vs ++ c ∷ []) ≡ false → (is_named x vs ≡ false) × ((c.vector == x) ≡ false)
named_push x [] c none = (refl, (both_off (c.vector == x) false none).0)
named_push x (d ∷ vs) c none =
    let parts = both_off (d.vector == x) (is_named x (vs ++ c ∷ [])) none in
    let rest = named_push x vs c parts.1 in
    (ap₂ (λ (p q : Bool). p || q) parts.0 rest.0, rest.1)

other_at : (v x : ℕ) (vs : List VectorChanges) (b : Bool) → (v == x) ≡ b → is_named v vs ≡ true → is_named x vs ≡ false → b ≡ false
other_at v x vs true is there none = absurd (false≢true (sym none ∙ ap (λ (y : ℕ). is_named y vs) (sym (same v x is)) ∙ there))
other_at v x vs false is there none = refl

pub another : (v x : ℕ) (vs : List VectorChanges) → is_named v vs ≡ true → is_named x vs ≡ false → (v == x) ≡ false
another v x vs there none = other_at v x vs (v == x) refl there none

pub others_next : (x : ℕ) (ds : List VectorChanges) (i : ℕ) (d : VectorChanges) → i < length ds → d ≡ get_or ds i d → (d.vector == x) ≡ false → changes_of x (take i ds) ≡ []
    → changes_of x (take (i + 1) ds) ≡ []
others_next x ds i d l is off before =
    ap (changes_of x) (take_more ds i d l ∙ ap (λ (e : VectorChanges). take i ds ++ e ∷ []) (sym is))
    ∙ changes_or-push x (take i ds) d []
    ∙ ap (λ (b : Bool). changes_or x (take i ds) (cond b d.changes.items [])) off
    ∙ before

-- parts that are found in their order, each with the changes of its range
parts_from : (x k : ℕ) (told : ℕ → List EntryChange) (fs : List (Found Changes))
    → ((j : ℕ) → j < length fs → (f : Found Changes) × (slice_get fs j ≡ Some f) × (changes_of x f.out.vectors.items ≡ told (k + j + 1)))
    → changes_in_parts x fs ≡ flat_map told (range_with_len (k + 1) (length fs))
parts_from x k told [] all = refl
parts_from x k told (f ∷ fs) all =
    let first = all 0 (omega arith) in
    let is : first.0 ≡ f = grind arith in
    let here : k + 0 + 1 ≡ k + 1 = omega arith in
    let own = ap (λ (g : Found Changes). changes_of x g.out.vectors.items) (sym is) ∙ first.2 ∙ ap told here in
    let rest = parts_from x (k + 1) told fs (λ j l. let next = all (suc j) (omega (arith, l)) in let index : k + suc j + 1 ≡ k + 1 + j + 1 = omega arith in (next.0, next.1, next.2 ∙ ap told index)) in
    ap₂ (λ (cs ds : List EntryChange). cs ++ ds) own rest

pub parts_in_order : (x pieces : ℕ) (told : ℕ → List EntryChange) (fs : List (Found Changes)) → length fs ≡ pieces
    → ((j : ℕ) → j < pieces → (f : Found Changes) × (slice_get fs j ≡ Some f) × (changes_of x f.out.vectors.items ≡ told (j + 1))) → changes_in_parts x fs ≡ flat_map told (range_with_len 1 pieces)
parts_in_order x pieces told fs long all =
    parts_from x 0 told fs (λ j l. let at = all j (omega (arith, l, long)) in let index : j + 1 ≡ 0 + j + 1 = omega arith in (at.0, at.1, at.2 ∙ ap told index))
    ∙ ap (λ n. flat_map told (range_with_len 1 n)) long
