-- Vectors that are put side by side, one after another.
use Rattle.std.proofs.Common.{◌≡◌, ◌≢◌, ℕ, ◌+◌, ◌-◌, ◌*◌, ◌^◌, ◌<◌, ◌≤◌, ℤ, pos, List, [], length, get_or, set, refl, sym, ap, ◌∙◌, subst, inl, inr, ◌⊎◌, arith, get_or-set_same, get_or-set_other}
use Rattle.std.proofs.Math.ListN.{length-set}
use Rattle.std.proofs.lemmas.Bool.Decides.{eqb_tells, leb_tells}
use Rattle.std.proofs.lemmas.List.{get_or_past}
use Rattle.vectors.specs.declared.location.Location.{Location}
use Rattle.vectors.specs.Vectors.{HasRows, IsGrouping}
use Rattle.vectors.proofs.Layouts.{entry_inside, length-vector, length-vectors, vector_here}
use Rattle.vectors.specs.inside.Layout.{AreLocated, FitTogether, HasArrays, IsFree, IsLaidOut, IsLocated, IsMember, location_at, nowhere, own_location, vectors_at, vertices_of}

abbrev name_at : List (List ℕ) → ℕ → ℕ → ℕ
name_at groups g h = get_or (get_or groups g []) h 0

-- where all vectors stand alone no group has begun
pub own_are_located : (ls : List Location) (groups : List (List ℕ)) → ((i : ℕ) → i < length ls → (location_at ls i).array ≡ i)
    → ((i : ℕ) → i < length ls → (location_at ls i).first ≡ 0) → ((i : ℕ) → i < length ls → (location_at ls i).stride ≡ 1) → AreLocated ls groups 0 0 ls
own_are_located ls groups at first stride = record {
  count = refl;
  homes = λ i l.
      let a = at i l in
      let f = first i l in
      let s = stride i l in
      record {
        row = omega arith;
        own = λ b. a;
        alone = λ b. s;
        grouped = λ g e. absurd (omega arith);
        named = λ g e. absurd (omega arith);
        even = λ g e. absurd (omega arith);
        done = λ g e. absurd (omega arith);
        part = λ e. absurd (omega arith);
        vertices = refl;
      };
  members = λ g h b c l. absurd (let d : g ≡ 0 = omega arith in let e : h < 0 = c d in omega arith);
}

-- one more vector of a group
pub one_more : (start : List Location) (groups : List (List ℕ)) (k j vertices : ℕ) (ls : List Location) → AreLocated start groups k j ls
    → j < length (get_or groups k []) → vertices ≡ vertices_of start (get_or groups k []) → IsFree ls (get_or (get_or groups k []) j 0) vertices
    → AreLocated start groups k (j + 1)
    (set ls (get_or (get_or groups k []) j 0) (record { array = length ls + k; first = j; stride = length (get_or groups k []); vertices = vertices }))
one_more start groups k j vertices ls done inside size free =
    let name = name_at groups k j in
    let new : Location = record { array = length ls + k; first = j; stride = length (get_or groups k []); vertices = vertices } in
    let after = set ls name new in
    let count = done.count in
    let known = free.known in
    let alone = free.alone in
    let same_length : length after ≡ length ls = length-set ls name new in
    let here : location_at after name ≡ new = get_or-set_same ls name new nowhere known in
    let there = λ (i : ℕ) (d : i ≢ name). (let e : location_at after i ≡ location_at ls i = get_or-set_other ls name i new nowhere d in e) in
    record {
      count = same_length ∙ count;
      homes = λ i l.
          let below : i < length ls = omega arith in
          elim (eqb_tells i name) [
            | inl same ↦
                let at : location_at after i ≡ new = ap (location_at after) same.1 ∙ here in
                let old = done.homes name known in
                subst (IsLocated start groups k (j + 1) i) (sym at) (record {
                  row = inside;
                  own = λ b. absurd (omega arith);
                  alone = λ b. absurd (omega arith);
                  grouped = λ g e. (let k' : k ≡ g = omega arith in ap (λ (m : ℕ). length (get_or groups m [])) k');
                  named = λ g e. (let k' : g ≡ k = omega arith in ap (λ (m : ℕ). name_at groups m j) k' ∙ sym same.1);
                  even = λ g e. (let k' : k ≡ g = omega arith in size ∙ ap (λ (m : ℕ). vertices_of start (get_or groups m [])) k');
                  done = λ g e. (let k' : g ≡ k = omega arith in omega arith);
                  part = λ e. omega arith;
                  vertices = sym free.even ∙ old.vertices ∙ ap (λ (m : ℕ). (location_at start m).vertices) (sym same.1);
                })
            | inr other ↦
                let old = done.homes i below in
                subst (IsLocated start groups k (j + 1) i) (sym (there i other.1)) (record {
                  row = old.row;
                  own = old.own;
                  alone = old.alone;
                  grouped = old.grouped;
                  named = old.named;
                  even = old.even;
                  done = old.done;
                  part = λ e. (let b : (location_at ls i).first < j = old.part e in omega arith);
                  vertices = old.vertices;
                })
          ];
      members = λ g h b c l.
          let keeps : (e : h ≢ j ⊎ g ≢ k) → IsMember groups after g h = λ e. (
          let early : g ≡ k → h < j = λ s. (let m : h < j + 1 = c s in elim e [ inl d ↦ omega arith | inr d ↦ absurd (d s) ]) in
          let old = done.members g h b early l in
          let old_array = old.array in
          let apart : name_at groups g h ≢ name = λ s. (let moved : (location_at ls name).array ≡ length ls + g = ap (λ (m : ℕ). (location_at ls m).array) (sym s) ∙ old_array in omega arith) in
          let at = there (name_at groups g h) apart in
          let within = old.vector in
          record {
            vector = omega arith;
            array = ap (λ (m : Location). m.array) at ∙ old_array ∙ ap (λ (n : ℕ). n + g) (sym same_length);
            first = ap (λ (m : Location). m.first) at ∙ old.first;
          }) in
          elim (eqb_tells g k) [
            | inl same ↦ elim (eqb_tells h j) [
              | inl also ↦
                  let at : name_at groups g h ≡ name = ap (λ (m : ℕ). name_at groups m h) same.1 ∙ ap (λ (m : ℕ). name_at groups k m) also.1 in
                  let found : location_at after (name_at groups g h) ≡ new = ap (location_at after) at ∙ here in
                  record {
                    vector = (let P : ℕ → Type 0 = λ m. m < length after in subst P (sym at) (omega arith));
                    array = ap (λ (m : Location). m.array) found ∙ ap (λ (n : ℕ). n + k) (sym same_length) ∙ ap (λ (n : ℕ). length after + n) (sym same.1);
                    first = ap (λ (m : Location). m.first) found ∙ sym also.1;
                  }
              | inr other ↦ keeps (inl other.1)
            ]
            | inr other ↦ keeps (inr other.1)
          ];
    }

-- all of a group
pub next_group : (start : List Location) (groups : List (List ℕ)) (k : ℕ) (ls : List Location) → AreLocated start groups k (length (get_or groups k [])) ls
    → AreLocated start groups (k + 1) 0 ls
next_group start groups k ls done = record {
  count = done.count;
  homes = λ i l.
      let old = done.homes i l in
      record {
        row = old.row;
        own = old.own;
        alone = old.alone;
        grouped = old.grouped;
        named = old.named;
        even = old.even;
        done = λ g e. (let b : g ≤ k = old.done g e in omega arith);
        part = λ e. absurd (let b : k + 1 ≤ k = old.done (k + 1) e in omega arith);
        vertices = old.vertices;
      };
  members = λ g h b c l.
      let earlier : g ≤ k = elim (eqb_tells g (k + 1)) [ inl same ↦ absurd (let d : h < 0 = c same.1 in omega arith) | inr other ↦ let d = other.1 in omega arith ] in
      done.members g h earlier (λ s. subst (λ (m : ℕ). h < length (get_or groups m [])) s l) l;
}

-- a vector that does not stand alone, or with another number of entries, makes groups that do not fit
pub unfit : (start : List Location) (groups : List (List ℕ)) (k j vertices : ℕ) (ls : List Location) → AreLocated start groups k j ls
    → k < length groups → j < length (get_or groups k []) → vertices ≡ vertices_of start (get_or groups k [])
    → FitTogether start groups → IsFree ls (get_or (get_or groups k []) j 0) vertices
unfit start groups k j vertices ls done inside within size fit =
    let name = name_at groups k j in
    let count = done.count in
    let known = fit.known k j inside within in
    let there : name < length ls = omega arith in
    let l = location_at ls name in
    let home = done.homes name there in
    let alone : l.array ≡ name = elim (leb_tells (length start) l.array) [
      | inl far ↦
          let g = l.array - length start in
          let b = far.1 in
          let at : l.array ≡ length start + g = omega arith in
          let up : g ≤ k = home.done g at in
          let below : g < length groups = omega arith in
          let stride = home.grouped g at in
          let row = home.row in
          let first : l.first < length (get_or groups g []) = omega arith in
          let g' : g ≡ k = fit.group g l.first k j below first inside within (home.named g at) in
          let f' : l.first ≡ j = fit.index g l.first k j below first inside within (home.named g at) in
          absurd (let p : l.first < j = home.part (at ∙ ap (λ (m : ℕ). length start + m) g') in omega arith)
      | inr near ↦ home.own near.1
    ] in
    record {
      known = there;
      alone = alone;
      even = home.vertices ∙ fit.even k j inside within ∙ sym size;
    }

-- a vector has as many entries as at the start
pub same_vertices : (start : List Location) (groups : List (List ℕ)) (k j : ℕ) (ls : List Location) → AreLocated start groups k j ls → (m : ℕ)
    → (location_at ls m).vertices ≡ (location_at start m).vertices
same_vertices start groups k j ls done m = let count = done.count in elim (leb_tells (length ls) m) [
  | inl far ↦ ap (λ (n : Location). n.vertices) (get_or_past ls m nowhere far.1 ∙ sym (get_or_past start m nowhere (let b = far.1 in omega arith)))
  | inr near ↦ (done.homes m near.1).vertices
]

-- when all groups are done
pub is_laid_out : (start : List Location) (groups : List (List ℕ)) (ls : List Location) (arrays : List (List ℤ)) → AreLocated start groups (length groups) 0 ls
    → HasArrays ls groups arrays → IsLaidOut arrays ls groups
is_laid_out start groups ls arrays done has =
    let count = done.count in
    let known = λ (i : ℕ) (l : i < length ls). (let home = done.homes i l in
    let k : (location_at ls i).array < length ls + length groups = elim (leb_tells (length ls + length groups) (location_at ls i).array) [
      | inl far ↦
          let g = (location_at ls i).array - length start in
          let b = far.1 in
          let at : (location_at ls i).array ≡ length start + g = omega arith in
          let up : g ≤ length groups = home.done g at in
          let last : g ≡ length groups = omega arith in
          absurd (let p : (location_at ls i).first < 0 = home.part (at ∙ ap (λ (m : ℕ). length start + m) last) in omega arith)
      | inr near ↦ near.1
    ] in k) in
    let first_same = same_vertices start groups (length groups) 0 ls done in
    let whole = λ (i : ℕ) (l : i < length ls). (let home = done.homes i l in
    let loc = location_at ls i in
    let w : loc.vertices * loc.stride ≡ length (get_or arrays loc.array []) = elim (leb_tells (length ls) loc.array) [
      | inl far ↦
          let g = loc.array - length ls in
          let b = far.1 in
          let at : loc.array ≡ length ls + g = omega arith in
          let at' : loc.array ≡ length start + g = omega arith in
          let within = known i l in
          let below : g < length groups = omega arith in
          ap (λ (n : ℕ). loc.vertices * n) (home.grouped g at')
          ∙ ap (λ (n : ℕ). n * length (get_or groups g [])) (home.even g at' ∙ sym (first_same (get_or (get_or groups g []) 0 0)))
          ∙ sym (has.grouped g below) ∙ ap (λ (m : ℕ). length (get_or arrays m [])) (sym at)
      | inr near ↦
          let b = near.1 in
          let near' : loc.array < length start = omega arith in
          let at = home.own near' in
          let one : loc.vertices * loc.stride ≡ loc.vertices = (let s = home.alone near' in ap (λ (n : ℕ). loc.vertices * n) s ∙ omega arith) in
          one ∙ sym (has.alone i l at) ∙ ap (λ (m : ℕ). length (get_or arrays m [])) (sym at)
    ] in w) in
    record {
      homes = λ i l. let home = done.homes i l in record {
        row = home.row;
        own = λ b. home.own (omega arith);
        alone = λ b. home.alone (omega arith);
        known = known i l;
        grouped = λ g e. home.grouped g (e ∙ ap (λ (n : ℕ). n + g) count);
        named = λ g e. home.named g (e ∙ ap (λ (n : ℕ). n + g) count);
      };
      members = λ g h b l. done.members g h (omega arith) (λ s. absurd (omega arith)) l;
      whole = whole;
      fits = λ i l. (let P : ℕ → Type 0 = λ n. n < 2 ^ 64 in subst P (sym (whole i l)) (has.fits (location_at ls i).array));
      count = has.count;
    }

-- the array of a group has its vectors side by side
pub group_has_rows : (arrays : List (List ℤ)) (ls : List Location) (groups : List (List ℕ)) → IsLaidOut arrays ls groups → (k : ℕ) → k < length groups
    → HasRows (vectors_at arrays ls) (get_or groups k []) (get_or arrays (length ls + k) [])
group_has_rows arrays ls groups laid k inside =
    let names = get_or groups k [] in
    record {
      entries = λ j v h b.
          let i = get_or names j 0 in
          let member = laid.members k j inside h in
          let there = member.vector in
          let home = laid.homes i there in
          let size = ap (λ (xs : List ℤ). length xs) (vector_here arrays ls i there) ∙ length-vector arrays (location_at ls i) in
          let within : v < (location_at ls i).vertices = omega arith in
          sym (entry_inside arrays ls i v there within
          ∙ ap (λ (a : ℕ). get_or (get_or arrays a []) (v * (location_at ls i).stride + (location_at ls i).first) (pos 0)) member.array
          ∙ ap (λ (n : ℕ). get_or (get_or arrays (length ls + k) []) (v * n + (location_at ls i).first) (pos 0)) (home.grouped k member.array)
          ∙ ap (λ (n : ℕ). get_or (get_or arrays (length ls + k) []) (v * length names + n) (pos 0)) member.first);
      size = λ j h.
          let i = get_or names j 0 in
          let member = laid.members k j inside h in
          let there = member.vector in
          let home = laid.homes i there in
          let size = ap (λ (xs : List ℤ). length xs) (vector_here arrays ls i there) ∙ length-vector arrays (location_at ls i) in
          ap (λ (a : ℕ). length (get_or arrays a [])) (sym member.array) ∙ sym (laid.whole i there)
          ∙ ap (λ (n : ℕ). (location_at ls i).vertices * n) (home.grouped k member.array)
          ∙ ap (λ (n : ℕ). n * length names) (sym size);
    }

-- the vectors where they are put have as many entries as those that were given
pub even_vectors : (arrays : List (List ℤ)) (start : List Location) (groups : List (List ℕ)) (k j : ℕ) (ls : List Location) (numbers : List (List ℤ)) → AreLocated start groups k j ls
    → length start ≡ length arrays → ((i : ℕ) → i < length arrays → location_at start i ≡ own_location arrays i)
    → (i : ℕ) → length (get_or arrays i []) ≡ length (get_or (vectors_at numbers ls) i [])
even_vectors arrays start groups k j ls numbers done n own i =
    let count = done.count in
    elim (leb_tells (length arrays) i) [
      | inl far ↦
          let b = far.1 in
          let m = length-vectors numbers ls in
          ap (λ (xs : List ℤ). length xs) (get_or_past arrays i [] b ∙ sym (get_or_past (vectors_at numbers ls) i [] (omega arith)))
      | inr near ↦
          let b = near.1 in
          let inside : i < length ls = omega arith in
          ap (λ (l : Location). l.vertices) (sym (own i b)) ∙ sym (same_vertices start groups k j ls done i)
          ∙ sym (length-vector numbers (location_at ls i)) ∙ ap (λ (xs : List ℤ). length xs) (sym (vector_here numbers ls i inside))
    ]

-- groups that fit the vectors given fit where these stand alone
pub fit_own : (arrays : List (List ℤ)) (start : List Location) (groups : List (List ℕ)) → length start ≡ length arrays
    → ((i : ℕ) → i < length arrays → location_at start i ≡ own_location arrays i) → IsGrouping arrays groups → FitTogether start groups
fit_own arrays start groups n own fit =
    let vertices = λ (i : ℕ). (let e : (location_at start i).vertices ≡ length (get_or arrays i []) = elim (leb_tells (length arrays) i) [
      | inl far ↦ ap (λ (l : Location). l.vertices) (get_or_past start i nowhere (let b = far.1 in omega arith)) ∙ ap (λ (xs : List ℤ). length xs) (sym (get_or_past arrays i [] far.1))
      | inr near ↦ ap (λ (l : Location). l.vertices) (own i near.1)
    ] in e) in
    record {
      known = λ g h a b. (let k = fit.known g h a b in omega arith);
      group = fit.group;
      index = fit.index;
      even = λ g h a b. vertices (name_at groups g h) ∙ fit.even g h a b ∙ sym (vertices (name_at groups g 0));
    }
