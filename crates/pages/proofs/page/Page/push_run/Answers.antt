-- Proofs of `push_run`, src/page.rt.
use Rattle.std.proofs.Common.{◌≡◌, ℕ, ◌-◌, List, ◌++◌, length, take, drop, slice_range, refl, ◌∙◌, ap, arith, length-append, length-drop, ℤ}
use Rattle.std.proofs.lemmas.List.{length-take}
use Rattle.pages.specs.declared.entry.ListEntry.{ListEntry}
use Rattle.ascending_lists.specs.Maps.{Rises}
use Rattle.pages.specs.inside.Entries.{lists_in, end_of}
use Rattle.ascending_lists.proofs.MapOrder.{rises_room}
use Rattle.pages.proofs.Storing.{lists_length}
use Rattle.pages.proofs.Copying.{listed_front, listed_after, lists_take, lists_drop, end_between, end_within}
use Rattle.pages.proofs.page.Page.push_run.Goals as goal

pub start_of-start-requires-clause-within : goal.start_of-start-requires-clause-within
start_of-start-requires-clause-within c =
    let q = c.page.inside in
    omega (arith, c.requires.order, c.requires.within, ap length c.page.view_is, lists_length q.bytes.items q.entries.items, ap length c.as_slice-lists.ensures.value)

pub start_of-stop-requires-clause-within : goal.start_of-stop-requires-clause-within
start_of-stop-requires-clause-within c =
    let q = c.page.inside in
    omega (arith, c.requires.within, ap length c.page.view_is, lists_length q.bytes.items q.entries.items, ap length c.as_slice-lists.ensures.value)

pub offset_bounds-lists-from : goal.offset_bounds-lists-from
offset_bounds-lists-from c =
    let q = c.page.inside in
    omega (arith, c.requires.order, c.requires.within, ap length c.page.view_is, rises_room 0 64 (lists_in q.bytes.items q.entries.items) c.page.invariant.index.map)

pub slice_bounds-run-end : goal.slice_bounds-run-end
slice_bounds-run-end c =
    let q = c.page.inside in
    omega (arith, c.requires.within, ap length c.page.view_is, lists_length q.bytes.items q.entries.items, ap length c.as_slice-lists.ensures.value)

pub copy-requires-clause-room : goal.copy-requires-clause-room
copy-requires-clause-room c =
    let p = c.self.inside in
    let q = c.page.inside in
    let part : List (ℕ × List (ℕ × ℤ)) = slice_range c.args.page.now c.args.from c.args.to in
    omega (
      arith,
      rises_room 0 64 (c.args.self.now ++ part) c.requires.map,
      length-append c.args.self.now part,
      ap length c.self.view_is,
      lists_length p.bytes.items p.entries.items,
      ap length c.page.view_is,
      lists_length q.bytes.items q.entries.items,
      ap length c.as_slice-lists.ensures.value,
      length-take (c.args.to - c.args.from) (drop c.args.from c.args.page.now),
      length-drop c.args.from c.args.page.now,
      length-take (c.args.to - c.args.from) (drop c.args.from c.as_slice-lists.result.now),
      length-drop c.args.from c.as_slice-lists.result.now,
    )

pub copy-requires-clause-run : goal.copy-requires-clause-run
copy-requires-clause-run c =
    let q = c.page.inside in
    let es = q.entries.items in
    let bytes = q.bytes.items in
    rw (c.start_of-start.ensures, c.as_slice-lists.ensures.value, c.as_slice-bytes.ensures.value)
    (listed_front (end_of 0 (take c.args.from es)) (c.args.to - c.args.from) bytes (drop c.args.from es) (listed_after 0 c.args.from bytes es c.page.invariant.listed))

pub copy-requires-clause-stop : goal.copy-requires-clause-stop
copy-requires-clause-stop c =
    let q = c.page.inside in
    rw (c.start_of-start.ensures, c.start_of-stop.ensures, c.as_slice-lists.ensures.value) (end_between 0 c.args.from c.args.to q.entries.items c.requires.order)

pub copy-requires-clause-within : goal.copy-requires-clause-within
copy-requires-clause-within c =
    let q = c.page.inside in
    rw (c.start_of-stop.ensures, c.as_slice-lists.ensures.value, c.as_slice-bytes.ensures.value) (omega (arith, c.page.invariant.ends, end_within 0 c.args.to q.entries.items))

run_is : (c : goal.After-self-1) → lists_in c.as_slice-bytes.result.now (take (c.args.to - c.args.from)
    (drop c.args.from c.as_slice-lists.result.now)) ≡ slice_range c.args.page.now c.args.from c.args.to
run_is c =
    let q = c.page.inside in
    rw (c.as_slice-lists.ensures.value, c.as_slice-bytes.ensures.value, ← c.page.view_is)
    (lists_take (c.args.to - c.args.from) q.bytes.items (drop c.args.from q.entries.items) ∙ ap (take (c.args.to - c.args.from)) (lists_drop c.args.from q.bytes.items q.entries.items))

pub returns-clause-ok : goal.returns-clause-ok
returns-clause-ok c = c.in_ok-copy.ensures.2 ∙ rw (c.self.view_is, run_is c) refl

pub invariant_of-self-2 : goal.invariant_of-self-2
invariant_of-self-2 c =
    let p = c.self.inside in
    let bytes = c.as_slice-bytes.result.now in
    let run : List ListEntry = take (c.args.to - c.args.from) (drop c.args.from c.as_slice-lists.result.now) in
    let old : List (ℕ × List (ℕ × ℤ)) = lists_in p.bytes.items p.entries.items in
    let rises : Rises 0 64 (old ++ lists_in bytes run) = rw (c.self.view_is, run_is c) c.requires.map in
    record {
      listed = c.in_ok-copy.ensures.0;
      ends = c.in_ok-copy.ensures.1;
      index = rw c.in_ok-copy.ensures.2 (c.with_marks-self-inside.ensures old bytes c.self.invariant.index rises);
    }
