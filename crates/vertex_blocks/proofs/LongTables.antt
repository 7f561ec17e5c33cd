-- Vertices that have lists of their own, by their indices.
use Rattle.std.proofs.Common.{◌≡◌, ℕ, zero, suc, ◌+◌, ◌*◌, ◌%◌, ◌^◌, ◌<◌, bit_or, List, [], ◌∷◌, ◌++◌, ◌-◌, length, get_or, take, drop, slice_range, sym, ◌∙◌, ap, subst, arith, append_assoc}
use Rattle.std.proofs.Common.{take-append-drop}
use Rattle.std.proofs.lemmas.List.{map-append, length-map, take-map, drop-map, take_more, drop_more}
use Rattle.std.specs.Map.{keys_of}
use Rattle.ascending_lists.specs.Ascending.{AscendsFrom}
use Rattle.ascending_lists.specs.Maps.{Rises}
use Rattle.pages.specs.inside.Index.{IsIndex}
use Rattle.ascending_lists.proofs.MapOrder.{rises_room, rises_back, rises_left}
use Rattle.pages.proofs.Ranks.{index_push}
use Rattle.vertex_blocks.specs.declared.long_lists.LongEntry.{LongEntry}
use Rattle.vertex_blocks.specs.Blocks.{Block, AreNeighbourLists, IsBlock}
use Rattle.vertex_blocks.specs.inside.LongLists.{entries_in, long_entry, long_entries, AreLongLists}
use Rattle.vertex_blocks.proofs.Sums.{lists_append}

-- what stands at an index
pub long_at : (ss : List LongEntry) (i : ℕ) (s : LongEntry) → i < length ss → s ≡ get_or ss i s → get_or (long_entries ss) i (0, []) ≡ long_entry s
long_at [] i s lt is = absurd (omega arith)
long_at (x ∷ ss) zero s lt is = ap long_entry (sym is)
long_at (x ∷ ss) (suc i) s lt is = long_at ss i s (omega arith) is

pub long_length : (ss : List LongEntry) → length (long_entries ss) ≡ length ss
long_length ss = length-map ss long_entry

pub long_block : (bits : ℕ) (ss : List LongEntry) → AreLongLists bits ss → IsBlock (long_entries ss)
long_block bits ss ok = record { map = ok.index.map; lists = ok.lists }

-- one more list
pub long_pushed : (bits v : ℕ) (ss : List LongEntry) (s : LongEntry) → AreLongLists bits ss → s.vertex ≡ v → Rises 0 v (long_entries ss) → v < 64 → 0 < length (entries_in s.list)
    → AscendsFrom 0 (keys_of (entries_in s.list)) → AreLongLists (bit_or bits (1 * 2 ^ v % 2 ^ 64)) (ss ++ s ∷ [])
long_pushed bits v ss s ok is above lt some up =
    let whole : long_entries (ss ++ s ∷ []) ≡ long_entries ss ++ (v, (entries_in s.list)) ∷ [] = map-append long_entry ss (s ∷ []) ∙ ap (λ w. long_entries ss ++ (w, (entries_in s.list)) ∷ []) is in
    record {
      index = subst (IsIndex (bit_or bits (1 * 2 ^ v % 2 ^ 64))) (sym whole) (index_push bits (long_entries ss) ok.index v (entries_in s.list) above lt);
      lists = subst AreNeighbourLists (sym whole) (lists_append (long_entries ss) ((v, (entries_in s.list)) ∷ []) ok.lists (record { some = some; ascends = up }, tt));
    }

-- the list at an index is not empty
pub some_at : (ss : List LongEntry) (i : ℕ) (s : LongEntry) → AreNeighbourLists (long_entries ss) → i < length ss → s ≡ get_or ss i s → 0 < length (entries_in s.list)
some_at [] i s ok lt is = absurd (omega arith)
some_at (x ∷ ss) zero s ok lt is = rw is ok.0.some
some_at (x ∷ ss) (suc i) s ok lt is = some_at ss i s ok.1 (omega arith) is

lists_back : (n : ℕ) (ss : List LongEntry) → AreNeighbourLists (long_entries ss) → AreNeighbourLists (long_entries (drop n ss))
lists_back zero ss ok = ok
lists_back (suc n) [] ok = tt
lists_back (suc n) (s ∷ ss) ok = lists_back n ss ok.1

lists_front : (n : ℕ) (ss : List LongEntry) → AreNeighbourLists (long_entries ss) → AreNeighbourLists (long_entries (take n ss))
lists_front zero ss ok = tt
lists_front (suc n) [] ok = tt
lists_front (suc n) (s ∷ ss) ok = (ok.0, lists_front n ss ok.1)

-- some of the lists one after the other
pub lists_between : (from to : ℕ) (ss : List LongEntry) → AreNeighbourLists (long_entries ss) → AreNeighbourLists (long_entries (slice_range ss from to))
lists_between from to ss ok = lists_front (to - from) (drop from ss) (lists_back from ss ok)

long_between : (from to : ℕ) (ss : List LongEntry) → slice_range (long_entries ss) from to ≡ long_entries (slice_range ss from to)
long_between from to ss = ap (take (to - from)) (drop-map long_entry from ss) ∙ take-map long_entry (to - from) (drop from ss)

-- so a run of lists is a part of the table
pub run_is : (from to : ℕ) (es : Block) (xs ss : List LongEntry) → long_entries ss ≡ es → xs ≡ ss → slice_range es from to ≡ long_entries (slice_range xs from to)
run_is from to es xs ss is same = ap (λ e. slice_range e from to) (sym is) ∙ long_between from to ss ∙ ap (λ v. long_entries (slice_range v from to)) (sym same)

pub long_next : (run : List LongEntry) (i : ℕ) (s : LongEntry) → i < length run → s ≡ get_or run i s → long_entries (take (i + 1) run) ≡ long_entries (take i run) ++ long_entry s ∷ []
long_next run i s lt is = ap long_entries (take_more run i s lt) ∙ map-append long_entry (take i run) (get_or run i s ∷ []) ∙ ap (λ x. long_entries (take i run) ++ long_entry x ∷ []) (sym is)

-- a list stands above those before it
pub long_above : (old : Block) (run : List LongEntry) (i : ℕ) (s : LongEntry) → i < length run → s ≡ get_or run i s → Rises 0 64 (old ++ long_entries run)
    → Rises 0 s.vertex (old ++ long_entries (take i run)) × (s.vertex < 64)
long_above old run i s lt is map =
    let rest : Block = long_entries (drop (i + 1) run) in
    let parts : run ≡ take i run ++ s ∷ drop (i + 1) run = sym (take-append-drop i run) ∙ ap (λ ds. take i run ++ ds) (drop_more run i s lt) ∙ ap (λ x. take i run ++ x ∷ drop (i + 1) run) (sym is) in
    let whole : old ++ long_entries run ≡ (old ++ long_entries (take i run)) ++ (s.vertex, (entries_in s.list)) ∷ rest =
    ap (λ rs. old ++ long_entries rs) parts ∙ ap (λ ls. old ++ ls) (map-append long_entry (take i run) (s ∷ drop (i + 1) run))
    ∙ sym (append_assoc old (long_entries (take i run)) ((s.vertex, (entries_in s.list)) ∷ rest)) in
    let up : Rises 0 64 ((old ++ long_entries (take i run)) ++ (s.vertex, (entries_in s.list)) ∷ rest) = subst (Rises 0 64) whole map in
    let behind : Rises 0 64 ((s.vertex, (entries_in s.list)) ∷ rest) = rises_back 0 64 (old ++ long_entries (take i run)) ((s.vertex, (entries_in s.list)) ∷ rest) up in
    (rises_left 0 64 (old ++ long_entries (take i run)) s.vertex (entries_in s.list) rest up, omega (arith, rises_room (s.vertex + 1) 64 rest behind.1))
