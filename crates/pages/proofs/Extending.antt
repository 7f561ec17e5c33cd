-- Entries whose lists come after others.
use Rattle.std.proofs.Common.{◌≡◌, ℕ, ℤ, ◌+◌, ◌-◌, ◌*◌, ◌<◌, ◌≤◌, List, [], ◌∷◌, ◌++◌, length, take, drop, refl, sym, ◌∙◌, ap, subst, arith}
use Rattle.std.proofs.lemmas.Nat.{mul-le}
use Rattle.std.proofs.lemmas.List.{drop_all, take_at, take-take, take-append-le, length-take}
use Rattle.pages.specs.declared.entry.ListEntry.{ListEntry}
use Rattle.ascending_lists.specs.Ascending.{AscendsFrom}
use Rattle.pages.specs.inside.Packed.{elements_in}
use Rattle.edge_updates.specs.Weighted.{weighted}
use Rattle.pages.specs.declared.weights.WeightWidth.{WeightWidth}
use Rattle.pages.specs.declared.weights.WeightWidth.TheVariants.{Ones, OneByte, TwoBytes, FourBytes, EightBytes}
use Rattle.pages.specs.inside.Weights.{weight_size, weights_from}
use Rattle.pages.specs.inside.Entries.{keys_size, size_of, keys_at, weights_at, list_at, lists_in, IsListed, end_of, AreListed}
use Rattle.pages.proofs.Encoding.{same_front, front_stays, middle_stays}
use Rattle.pages.proofs.Weighing.{same_weights}

-- where lists end
weight_small : (v : WeightWidth) → weight_size v ≤ 8
weight_small Ones = omega arith
weight_small OneByte = omega arith
weight_small TwoBytes = omega arith
weight_small FourBytes = omega arith
weight_small EightBytes = omega arith

pub size_small : (bytes : List ℕ) (e : ListEntry) → IsListed bytes e → size_of e ≤ 4096
size_small bytes e is =
    omega (arith, mul-le e.width e.last 4 255 is.width (omega (arith, is.few)), mul-le (weight_size e.weights) (e.last + 1) 8 256 (weight_small e.weights) (omega (arith, is.few)))

-- a list depends on its own bytes alone
pub same_keys : (bytes bytes' : List ℕ) (e e' : ListEntry) → e'.width ≡ e.width → e'.last ≡ e.last → take (size_of e) (drop e'.start bytes') ≡ take (size_of e) (drop e.start bytes)
    → keys_at bytes' e' ≡ keys_at bytes e
same_keys bytes bytes' e e' width last same =
    let one : e.last + 1 - 1 ≡ e.last = omega arith in
    let room : 4 + e.width * (e.last + 1 - 1) ≤ size_of e = omega (arith, ap (λ k. e.width * k) one) in
    ap (λ w. elements_in w (e'.last + 1) (drop e'.start bytes')) width ∙ ap (λ k. elements_in e.width (k + 1) (drop e'.start bytes')) last
    ∙ same_front e.width (e.last + 1) (size_of e) (drop e'.start bytes') (drop e.start bytes) (omega arith) room same

pub same_list : (bytes bytes' : List ℕ) (e e' : ListEntry) → e'.width ≡ e.width → e'.last ≡ e.last → e'.weights ≡ e.weights
    → take (size_of e) (drop e'.start bytes') ≡ take (size_of e) (drop e.start bytes) → list_at bytes' e' ≡ list_at bytes e
same_list bytes bytes' e e' width last weights same =
    let n : ℕ = weight_size e.weights * (e.last + 1) in
    let position : keys_size e' ≡ keys_size e = ap (λ w. 4 + w * e'.last) width ∙ ap (λ k. 4 + e.width * k) last in
    let part : take n (drop (keys_size e) (drop e'.start bytes')) ≡ take n (drop (keys_size e) (drop e.start bytes)) =
    middle_stays (keys_size e) n (size_of e) (drop e'.start bytes') (drop e.start bytes) refl same in
    ap (λ xs. weighted xs (weights_at bytes' e')) (same_keys bytes bytes' e e' width last same)
    ∙ ap (weighted (keys_at bytes e))
    (ap (λ v. weights_from v (e'.last + 1) (drop (keys_size e') (drop e'.start bytes'))) weights
    ∙ ap (λ k. weights_from e.weights (k + 1) (drop (keys_size e') (drop e'.start bytes'))) last
    ∙ ap (λ k. weights_from e.weights (e.last + 1) (drop k (drop e'.start bytes'))) position
    ∙ same_weights e.weights (e.last + 1) n (drop (keys_size e) (drop e'.start bytes')) (drop (keys_size e) (drop e.start bytes)) (omega arith) part)

pub end_from : (position : ℕ) (es : List ListEntry) → position ≤ end_of position es
end_from position [] = omega arith
end_from position (e ∷ es) = omega (arith, end_from (position + size_of e) es)

pub end_small : (position : ℕ) (bytes : List ℕ) (es : List ListEntry) → AreListed position bytes es → end_of position es ≤ position + 4096 * length es
end_small position bytes [] ok = omega arith
end_small position bytes (e ∷ es) ok = omega (arith, end_small (position + size_of e) bytes es ok.2, size_small bytes e ok.1)

-- from any other position on too
pub end_room : (position : ℕ) (bytes : List ℕ) (es : List ListEntry) → AreListed position bytes es → (other : ℕ) → end_of other es ≤ other + 4096 * length es
end_room position bytes [] ok other = omega arith
end_room position bytes (e ∷ es) ok other = omega (arith, end_room (position + size_of e) bytes es ok.2 (other + size_of e), size_small bytes e ok.1)

pub end_append : (position : ℕ) (es fs : List ListEntry) → end_of position (es ++ fs) ≡ end_of (end_of position es) fs
end_append position [] fs = refl
end_append position (e ∷ es) fs = end_append (position + size_of e) es fs

-- more entries after others
pub listed_append : (position : ℕ) (bytes : List ℕ) (es fs : List ListEntry) → AreListed position bytes es → AreListed (end_of position es) bytes fs → AreListed position bytes (es ++ fs)
listed_append position bytes [] fs s t = t
listed_append position bytes (e ∷ es) fs s t = (s.0, s.1, listed_append (position + size_of e) bytes es fs s.2 t)

pub lists_append : (bytes : List ℕ) (es fs : List ListEntry) → lists_in bytes (es ++ fs) ≡ lists_in bytes es ++ lists_in bytes fs
lists_append bytes [] fs = refl
lists_append bytes (e ∷ es) fs = ap (λ ls. (e.vertex, list_at bytes e) ∷ ls) (lists_append bytes es fs)

-- lists stay where their bytes do
module _ (end : ℕ) (bytes bytes' : List ℕ) (same : take end bytes' ≡ take end bytes) (room : end + 3 ≤ length bytes') where
  bytes_stay : (e : ListEntry) → e.start + size_of e ≤ end → take (size_of e) (drop e.start bytes') ≡ take (size_of e) (drop e.start bytes)
  bytes_stay e within = middle_stays e.start (size_of e) (e.start + size_of e) bytes' bytes refl (front_stays (e.start + size_of e) end bytes' bytes within same)

  list_stays : (e : ListEntry) → e.start + size_of e ≤ end → list_at bytes' e ≡ list_at bytes e
  list_stays e within = same_list bytes bytes' e e refl refl refl (bytes_stay e within)

  listed_stays : (e : ListEntry) → IsListed bytes e → e.start + size_of e ≤ end → IsListed bytes' e
  listed_stays e is within = record {
    wide = is.wide;
    width = is.width;
    few = is.few;
    within = omega arith;
    ascends = subst (AscendsFrom 0) (sym (same_keys bytes bytes' e e refl refl (bytes_stay e within))) is.ascends;
  }

  pub lists_stay : (position : ℕ) (es : List ListEntry) → AreListed position bytes es → end_of position es ≤ end → AreListed position bytes' es × (lists_in bytes' es ≡ lists_in bytes es)
  lists_stay position [] ok le = (tt, refl)
  lists_stay position (e ∷ es) ok le =
      let within : e.start + size_of e ≤ end = omega (arith, ok.0, end_from (position + size_of e) es) in
      let rest = lists_stay (position + size_of e) es ok.2 le in
      ((ok.0, listed_stays e ok.1 within, rest.0), rw (list_stays e within, rest.1) refl)

-- bytes that were longer and then written to
pub longer_front : (m n : ℕ) (old fill : List ℕ) → m ≤ n → m ≤ length old → take m (take n old ++ fill) ≡ take m old
longer_front m n old fill le within = take-append-le m (take n old) fill (omega (arith, length-take n old)) ∙ take-take m n old le

pub written_back : (n : ℕ) (old new : List ℕ) → length new ≡ length old → n ≡ length old → take n (new ++ drop (length new) old) ≡ new
written_back n old new same all =
    let none : drop (length new) old ≡ [] = drop_all (length new) old (omega arith) in
    ap (λ ds. take n (new ++ ds)) none ∙ take_at new [] n (omega arith)

-- a list that was written after others
module _ (es : List ListEntry) (bytes bytes' : List ℕ) (e : ListEntry) (xs : List ℕ) (ys : List (ℕ × ℤ)) (listed : AreListed 0 bytes es) (ends : end_of 0 es + 3 ≡ length bytes) where
  pub stored : e.start ≡ end_of 0 es → e.last < 256 → (0 < e.width) × (e.width ≤ 4) → AscendsFrom 0 xs → length bytes' ≡ length bytes + size_of e → take (end_of 0 es) bytes' ≡ take (end_of 0 es) bytes
      → keys_at bytes' e ≡ xs → list_at bytes' e ≡ ys → AreListed 0 bytes' (es ++ e ∷ []) × (end_of 0 (es ++ e ∷ []) + 3 ≡ length bytes')
      × (lists_in bytes' (es ++ e ∷ []) ≡ lists_in bytes es ++ (e.vertex, ys) ∷ [])
  stored start few width ascends long front keys list =
      let is : IsListed bytes' e = record { wide = width.0; width = width.1; few = few; within = omega (arith, start, ends, long); ascends = subst (AscendsFrom 0) (sym keys) ascends } in
      let stay = lists_stay (end_of 0 es) bytes bytes' front (omega (arith, ends, long)) 0 es listed (omega arith) in (
        listed_append 0 bytes' es (e ∷ []) stay.0 (start, is, tt),
        omega (arith, end_append 0 es (e ∷ []), ends, long),
        lists_append bytes' es (e ∷ []) ∙ rw (stay.1, list) refl,
      )
