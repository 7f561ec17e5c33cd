-- Filled vertices: those that all have entries, whose marks nobody asks for.
use Rattle.std.proofs.Common.{◌≡◌, ℕ, ◌+◌, ◌<◌, ◌==◌, ◌||◌, nat_lt, ℤ, pos, Bool, true, false, cond, List, [], ◌∷◌, ◌++◌, length, take, drop, get_or, set, refl, sym, ap, ap₂, ◌∙◌, arith, take_all}
use Rattle.std.proofs.Common.{if◌then◌else◌, inl, inr}
use Rattle.std.proofs.lemmas.Bool.{cases_lt, le-ltb, lt-ltb, ne_eqb}
use Rattle.std.proofs.lemmas.List.{append-nil, drop_all, drop_more}
use Rattle.apply_options.specs.declared.reduction.Reduction.{Reduction}
use Rattle.algorithm_meaning.specs.Arithmetic.{reduced}
use Rattle.edge_fold.specs.declared.apply_context.FoldStart.{FoldStart}
use Rattle.edge_fold.specs.inside.Contributions.{each_given}
use Rattle.edge_fold.specs.Contributions.{reduced_at}
use Rattle.edge_fold.specs.FoldStarts.{combined_with_seed}
use Rattle.edge_fold.proofs.Entries.{joined_again}
use Rattle.edge_fold.proofs.JoinedSlots.{combined_more}

given_more : (n : ℤ) (ds : List ℕ) (k u : ℕ) → k < length ds → u ≡ get_or ds k 0 → each_given n (drop k ds) ≡ (u, n) ∷ each_given n (drop (k + 1) ds)
given_more n ds k u more at = ap (each_given n) (drop_more ds k 0 more) ∙ ap (λ (d : ℕ). (d, n) ∷ each_given n (drop (k + 1) ds)) (sym at)

-- one more vertex, whose value was reduced
pub value_more : (r : Reduction) (n : ℤ) (values : List ℤ) (ds : List ℕ) (k u v : ℕ) (x whole : ℤ) → k < length ds → u ≡ get_or ds k 0 → u < length values → x ≡ reduced r (get_or values u (pos 0)) n
    → reduced_at r v (get_or values v (pos 0)) (each_given n (drop k ds)) ≡ whole
    → reduced_at r v (get_or (set values u x) v (pos 0)) (each_given n (drop (k + 1) ds)) ≡ whole
value_more r n values ds k u v x whole more at inside is was =
    ap (λ (y : ℤ). reduced_at r v y (each_given n (drop (k + 1) ds))) (joined_again r (λ h y. y) values (λ _. true) u v x (pos 0) n inside refl is)
    ∙ ap (λ (gs : List (ℕ × ℤ)). reduced_at r v (get_or values v (pos 0)) gs) (sym (given_more n ds k u more at))
    ∙ was

-- one more vertex, which is another
pub other_more : (r : Reduction) (n : ℤ) (ds : List ℕ) (k u v : ℕ) (h whole : ℤ) → k < length ds → u ≡ get_or ds k 0 → (u ≡ v → ⊥)
    → reduced_at r v h (each_given n (drop k ds)) ≡ whole → reduced_at r v h (each_given n (drop (k + 1) ds)) ≡ whole
other_more r n ds k u v h whole more at apart was =
    sym (ap (λ (gs : List (ℕ × ℤ)). reduced_at r v h gs) (given_more n ds k u more at)
    ∙ ap (λ (b : Bool). reduced_at r v (cond b (reduced r h n) h) (each_given n (drop (k + 1) ds))) (ne_eqb u v apart))
    ∙ was

-- one more vertex, whose entry was joined
pub given_first : (r : Reduction) (n : ℤ) (ds : List ℕ) (k u v : ℕ) (now next : ℤ) → k < length ds → u ≡ get_or ds k 0 → next ≡ reduced_at r v now ((u, n) ∷ [])
    → reduced_at r v next (each_given n (drop (k + 1) ds)) ≡ reduced_at r v now (each_given n (drop k ds))
given_first r n ds k u v now next more at is =
    ap (λ (y : ℤ). reduced_at r v y (each_given n (drop (k + 1) ds))) is ∙ sym (ap (λ (gs : List (ℕ × ℤ)). reduced_at r v now gs) (given_more n ds k u more at))

-- to combine with a number and reduce with all that is given, in either order
combined_once : (s : FoldStart) (r : Reduction) (h y n : ℤ) (b : Bool) → cond b (reduced r (combined_with_seed s r h y) n) (combined_with_seed s r h y) ≡ combined_with_seed s r h
    (cond b (reduced r y n) y)
combined_once s r h y n true = sym (combined_more s r h y n)
combined_once s r h y n false = refl

combined_all : (s : FoldStart) (r : Reduction) (v : ℕ) (h y : ℤ) (gs : List (ℕ × ℤ)) → reduced_at r v (combined_with_seed s r h y) gs ≡ combined_with_seed s r h (reduced_at r v y gs)
combined_all s r v h y [] = refl
combined_all s r v h y (g ∷ gs) =
    ap (λ (z : ℤ). reduced_at r v z gs) (combined_once s r h y g.1 (g.0 == v)) ∙ combined_all s r v h (cond (g.0 == v) (reduced r y g.1) y) gs

-- the entry at a vertex, whether it is marked or not
pub joined_either : (s : FoldStart) (r : Reduction) (v : ℕ) (o x y : ℤ) (some all : List (ℕ × ℤ)) (b : Bool) → reduced_at r v x some ≡ reduced_at r v y all
    → (b ≡ false → reduced_at r v o some ≡ reduced_at r v o all)
    → reduced_at r v (if b then combined_with_seed s r o x else o) some ≡ reduced_at r v (if b then combined_with_seed s r o y else o) all
joined_either s r v o x y some all true here off = combined_all s r v o x some ∙ ap (combined_with_seed s r o) here ∙ sym (combined_all s r v o y all)
joined_either s r v o x y some all false here off = off refl

-- an accumulator without an entry has no mark
pub none_held : (b : Bool) (y : ℤ) → ((combine : ℤ → ℤ → ℤ) (h : ℤ) → cond b (combine h y) h ≡ h) → b ≡ false
none_held true y clean = absurd (let same : pos 1 ≡ pos 0 = clean (λ h z. pos 1) (pos 0) in cc)
none_held false y clean = refl

-- the entry of a vertex that is filled, or has no mark
pub filled_entry : (n v : ℕ) (b old : Bool) (x e : ℤ) → b ≡ nat_lt v n || old → old ≡ false → (v < n → x ≡ e) → (if b then x else e) ≡ e
filled_entry n v b old x e more off copied =
    elim (cases_lt v n) [
      | inl low ↦ ap (λ (c : Bool). if c then x else e) (more ∙ ap (λ (c : Bool). c || old) (lt-ltb v n low)) ∙ copied low
      | inr high ↦ ap (λ (c : Bool). if c then x else e) (more ∙ ap (λ (c : Bool). c || old) (le-ltb v n high) ∙ off)
    ]

pub filled_marked : (n v : ℕ) (b old : Bool) → b ≡ nat_lt v n || old → v < n → b ≡ true
filled_marked n v b old more low = more ∙ ap (λ (c : Bool). c || old) (lt-ltb v n low)

-- a slice that was written as long as it is
pub written_back : {A : Type 0} (n : ℕ) (olds news : List A) → n ≡ length olds → length news ≡ length olds → take n (news ++ drop (length news) olds) ≡ news
written_back n olds news len same =
    ap₂ (λ k xs. take k (news ++ xs)) (len ∙ sym same) (drop_all (length news) olds (omega (arith, same)))
    ∙ ap (take (length news)) (append-nil news) ∙ take_all (length news) news (omega arith)
