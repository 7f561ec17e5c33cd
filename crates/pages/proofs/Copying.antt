-- Runs of entries whose bytes are copied after others.
use Rattle.std.proofs.Common.{◌≡◌, ℕ, zero, suc, ◌+◌, ◌-◌, ◌*◌, ◌%◌, ◌^◌, ◌<◌, ◌≤◌, bit_or, List, [], ◌∷◌, ◌++◌, length, get_or, take, drop, refl, sym, ◌∙◌, ap, subst, arith, append_assoc}
use Rattle.std.proofs.Common.{length-append, length-drop, ℤ}
use Rattle.std.proofs.lemmas.List.{drop-take, drop-drop, drop_more, take_more, take-take, take-append-drop, take_at, drop_at, length-take, length-take-le}
use Rattle.pages.specs.declared.entry.ListEntry.{ListEntry}
use Rattle.ascending_lists.specs.Ascending.{AscendsFrom}
use Rattle.ascending_lists.specs.Maps.{Rises}
use Rattle.pages.specs.inside.Index.{IsIndex}
use Rattle.pages.specs.inside.Entries.{size_of, list_at, lists_in, end_of, AreListed, placed_at}
use Rattle.ascending_lists.proofs.MapOrder.{rises_back, rises_left, rises_room}
use Rattle.pages.proofs.Ranks.{index_push}
use Rattle.pages.proofs.Extending.{end_from, end_append, listed_append, lists_append, lists_stay, same_keys, same_list}

-- the next list fits where all that are left do
pub next_fits : (position i : ℕ) (es : List ListEntry) (d : ListEntry) → i < length es → position + size_of (get_or es i d) ≤ end_of position (drop i es)
next_fits position i es d lt =
    let e : ListEntry = get_or es i d in
    let cells : drop i es ≡ e ∷ drop (i + 1) es = drop_more es i d lt in
    omega (arith, end_from (position + size_of e) (drop (i + 1) es), ap (end_of position) cells)

-- the front of entries, and what is after
pub listed_front : (position i : ℕ) (bytes : List ℕ) (es : List ListEntry) → AreListed position bytes es → AreListed position bytes (take i es)
listed_front position zero bytes es ok = tt
listed_front position (suc i) bytes [] ok = tt
listed_front position (suc i) bytes (e ∷ es) ok = (ok.0, ok.1, listed_front (position + size_of e) i bytes es ok.2)

pub listed_after : (position i : ℕ) (bytes : List ℕ) (es : List ListEntry) → AreListed position bytes es → AreListed (end_of position (take i es)) bytes (drop i es)
listed_after position zero bytes es ok = ok
listed_after position (suc i) bytes [] ok = tt
listed_after position (suc i) bytes (e ∷ es) ok = listed_after (position + size_of e) i bytes es ok.2

pub start_at : (position i : ℕ) (bytes : List ℕ) (es : List ListEntry) (d : ListEntry) → AreListed position bytes es → i < length es → (get_or es i d).start ≡ end_of position (take i es)
start_at position i bytes [] d ok lt = absurd (omega arith)
start_at position zero bytes (x ∷ es) d ok lt = ok.0
start_at position (suc i) bytes (x ∷ es) d ok lt = start_at (position + size_of x) i bytes es d ok.2 (omega arith)

pub lists_take : (i : ℕ) (bytes : List ℕ) (es : List ListEntry) → lists_in bytes (take i es) ≡ take i (lists_in bytes es)
lists_take zero bytes es = refl
lists_take (suc i) bytes [] = refl
lists_take (suc i) bytes (e ∷ es) = ap (λ ls. (e.vertex, list_at bytes e) ∷ ls) (lists_take i bytes es)

pub lists_drop : (i : ℕ) (bytes : List ℕ) (es : List ListEntry) → lists_in bytes (drop i es) ≡ drop i (lists_in bytes es)
lists_drop zero bytes es = refl
lists_drop (suc i) bytes [] = refl
lists_drop (suc i) bytes (e ∷ es) = lists_drop i bytes es

-- where the first entries up to one end, and those up to another
pub end_between : (position from to : ℕ) (es : List ListEntry) → from ≤ to → end_of position (take to es) ≡ end_of (end_of position (take from es)) (take (to - from) (drop from es))
end_between position zero to es le =
    let all : to - 0 ≡ to = omega arith in
    ap (λ k. end_of position (take k es)) (sym all)
end_between position (suc from) zero es le = absurd (omega arith)
end_between position (suc from) (suc to) [] le = nothing (suc to - suc from)
  where
    nothing : (k : ℕ) → position ≡ end_of position (take k [])
    nothing zero = refl
    nothing (suc k) = refl
end_between position (suc from) (suc to) (e ∷ es) le =
    let gap : to - from ≡ suc to - suc from = omega arith in
    end_between (position + size_of e) from to es (omega arith) ∙ ap (λ k. end_of (end_of (position + size_of e) (take from es)) (take k (drop from es))) gap

pub end_within : (position i : ℕ) (es : List ListEntry) → end_of position (take i es) ≤ end_of position es
end_within position zero es = end_from position es
end_within position (suc i) [] = omega arith
end_within position (suc i) (e ∷ es) = end_within (position + size_of e) i es

-- entries of bytes that were moved
pub are_placed : (from to n : ℕ) (bytes bytes' : List ℕ) (es : List ListEntry) → AreListed from bytes es → end_of from es ≡ from + n → take n (drop to bytes') ≡ take n (drop from bytes)
    → to + n + 3 ≤ length bytes' → AreListed to bytes' (placed_at to es) × (lists_in bytes' (placed_at to es) ≡ lists_in bytes es) × (end_of to (placed_at to es) ≡ to + n)
are_placed from to n bytes bytes' [] ok ends same room = (tt, refl, omega arith)
are_placed from to n bytes bytes' (e ∷ es) ok ends same room =
    let s : ℕ = size_of e in
    let within : s ≤ n = omega (arith, ends, end_from (from + s) es) in
    let k : ℕ = n - s in
    let up : s + k ≡ n = omega arith in
    let here : take s (drop to bytes') ≡ take s (drop from bytes) = sym (take-take s n (drop to bytes') within) ∙ ap (take s) same ∙ take-take s n (drop from bytes) within in
    let moved : take s (drop to bytes') ≡ take s (drop e.start bytes) = here ∙ ap (λ p. take s (drop p bytes)) (sym ok.0) in
    let e' : ListEntry = record { start = to; last = e.last; width = e.width; weights = e.weights; vertex = e.vertex } in
    let list : list_at bytes' e' ≡ list_at bytes e = same_list bytes bytes' e e' refl refl refl moved in
    let rest : take k (drop (to + s) bytes') ≡ take k (drop (from + s) bytes) =
    ap (take k) (sym (drop-drop s to bytes')) ∙ sym (drop-take s k (drop to bytes')) ∙ ap (λ j. drop s (take j (drop to bytes'))) up ∙ ap (drop s) same
    ∙ sym (ap (λ j. drop s (take j (drop from bytes))) up) ∙ drop-take s k (drop from bytes) ∙ ap (take k) (drop-drop s from bytes) in
    let others = are_placed (from + s) (to + s) k bytes bytes' es ok.2 (omega (arith, ends)) rest (omega arith) in (
      (
        refl,
        record { wide = ok.1.wide; width = ok.1.width; few = ok.1.few; within = omega arith; ascends = subst (AscendsFrom 0) (sym (same_keys bytes bytes' e e' refl refl moved)) ok.1.ascends },
        others.0,
      ),
      rw (list, others.1) refl,
      omega (arith, others.2),
    )

-- bytes up to a position, and the bytes of a run after them
module _ (es run : List ListEntry) (bytes from bytes' : List ℕ) (start stop : ℕ) (listed : AreListed 0 bytes es) (ends : end_of 0 es + 3 ≡ length bytes) (listed' : AreListed start from run)
    (stop_is : stop ≡ end_of start run) (within : stop + 3 ≤ length from) where
  pub copied : bytes' ≡ take (end_of 0 es) bytes ++ take (stop + 3 - start) (drop start from) → AreListed 0 bytes' (es ++ placed_at (end_of 0 es) run)
      × (end_of 0 (es ++ placed_at (end_of 0 es) run) + 3 ≡ length bytes') × (lists_in bytes' (es ++ placed_at (end_of 0 es) run) ≡ lists_in bytes es ++ lists_in from run)
  copied is =
      let end : ℕ = end_of 0 es in
      let order : start ≤ stop = omega (arith, end_from start run) in
      let n : ℕ = stop - start in
      let front_long : length (take end bytes) ≡ end = length-take-le end bytes (omega (arith, ends)) in
      let part : List ℕ = take (stop + 3 - start) (drop start from) in
      let part_long : length part ≡ n + 3 = omega (arith, length-take (stop + 3 - start) (drop start from), length-drop start from) in
      let long : length bytes' ≡ end + n + 3 = omega (arith, ap length is, length-append (take end bytes) part, front_long, part_long) in
      let same : take end bytes' ≡ take end bytes = ap (take end) is ∙ take_at (take end bytes) part end front_long in
      let moved : take n (drop end bytes') ≡ take n (drop start from) = ap (λ b. take n (drop end b)) is ∙ ap (take n) (drop_at (take end bytes) part end front_long)
      ∙ take-take n (stop + 3 - start) (drop start from) (omega arith) in
      let stay = lists_stay end bytes bytes' same (omega (arith, long)) 0 es listed (omega arith) in
      let placed = are_placed start end n from bytes' run listed' (omega (arith, order)) moved (omega (arith, long)) in (
        listed_append 0 bytes' es (placed_at end run) stay.0 placed.0,
        omega (arith, end_append 0 es (placed_at end run), placed.2, long),
        lists_append bytes' es (placed_at end run) ∙ rw (stay.1, placed.1) refl,
      )

-- a mark more
pub mark_more : (bits i : ℕ) (es : List (ℕ × List (ℕ × ℤ))) (bytes : List ℕ) (run : List ListEntry) (d : ListEntry) → i < length run → Rises 0 64 (es ++ lists_in bytes run)
    → IsIndex bits (es ++ lists_in bytes (take i run)) → IsIndex (bit_or bits (1 * 2 ^ ((get_or run i d).vertex % 64) % 2 ^ 64)) (es ++ lists_in bytes (take (i + 1) run))
mark_more bits i es bytes run d lt rises ok =
    let e : ListEntry = get_or run i d in
    let x : List (ℕ × ℤ) = list_at bytes e in
    let before : List (ℕ × List (ℕ × ℤ)) = es ++ lists_in bytes (take i run) in
    let after : List (ℕ × List (ℕ × ℤ)) = lists_in bytes (drop (i + 1) run) in
    let whole : run ≡ take i run ++ e ∷ drop (i + 1) run = sym (take-append-drop i run) ∙ ap (λ ys. take i run ++ ys) (drop_more run i d lt) in
    let all : es ++ lists_in bytes run ≡ before ++ (e.vertex, x) ∷ after = ap (λ r. es ++ lists_in bytes r) whole ∙ ap (λ ls. es ++ ls) (lists_append bytes (take i run) (e ∷ drop (i + 1) run))
    ∙ sym (append_assoc es (lists_in bytes (take i run)) ((e.vertex, x) ∷ after)) in
    let up : Rises 0 64 (before ++ (e.vertex, x) ∷ after) = subst (Rises 0 64) all rises in
    let left : Rises 0 e.vertex before = rises_left 0 64 before e.vertex x after up in
    let small : e.vertex < 64 = omega (arith, rises_room (e.vertex + 1) 64 after (rises_back 0 64 before ((e.vertex, x) ∷ after) up).1) in
    let same : e.vertex % 64 ≡ e.vertex = omega (arith, small) in
    let next : es ++ lists_in bytes (take (i + 1) run) ≡ before ++ (e.vertex, x) ∷ [] = ap (λ r. es ++ lists_in bytes r) (take_more run i d lt)
    ∙ ap (λ ls. es ++ ls) (lists_append bytes (take i run) (e ∷ [])) ∙ sym (append_assoc es (lists_in bytes (take i run)) ((e.vertex, x) ∷ [])) in
    rw (next, same) (index_push bits before ok e.vertex x left small)
