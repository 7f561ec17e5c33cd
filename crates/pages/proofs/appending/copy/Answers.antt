-- Proofs of `copy`, src/appending.rt.
use Rattle.std.proofs.Common.{◌≡◌, ◌+◌, ◌-◌, ◌++◌, take, drop, ◌∙◌, ap, arith}
use Rattle.pages.specs.inside.Entries.{end_of, placed_at}
use Rattle.pages.proofs.Extending.{end_from, end_small, end_room}
use Rattle.pages.proofs.Copying.{copied}
use Rattle.pages.proofs.appending.copy.Goals as goal

pub overflow_sub-stop : goal.overflow_sub-stop
overflow_sub-stop c = omega (arith, end_from c.args.start c.args.run.now, c.requires.stop)

pub slice_bounds-part-count : goal.slice_bounds-part-count
slice_bounds-part-count c = omega (arith, end_from c.args.start c.args.run.now, c.requires.stop)

pub slice_bounds-part-start : goal.slice_bounds-part-start
slice_bounds-part-start c = omega (arith, end_from c.args.start c.args.run.now, c.requires.stop)

pub append-requires-clause-fits : goal.append-requires-clause-fits
append-requires-clause-fits c =
    omega (
      arith,
      end_small 0 c.args.bytes.now.items c.args.entries.now.items c.requires.listed,
      end_room c.args.start c.args.from.now c.args.run.now c.requires.run (c.len-end.result - 3),
      c.len-end.ensures,
      c.requires.ends,
      c.requires.room,
    )

pub returns : goal.returns
returns c =
    let es = c.args.entries.now.items in
    let old = c.args.bytes.now.items in
    let run = c.args.run.now in
    let end : c.len-end.result - 3 ≡ end_of 0 es = omega (arith, c.len-end.ensures, c.requires.ends) in
    let entries : c.append.new.entries.items ≡ es ++ placed_at (end_of 0 es) run = c.append.ensures.items ∙ ap (λ ys. ys ++ placed_at (c.len-end.result - 3) run) c.reserve.ensures.items
    ∙ ap (λ k. es ++ placed_at k run) end in
    let bytes : c.extend_from_slice.new.self.items ≡ take (end_of 0 es) old ++ take (c.args.stop + 3 - c.args.start) (drop c.args.start c.args.from.now) =
    c.in_ok-extend_from_slice.ensures.items
    ∙ ap (λ ys. ys ++ take (c.args.stop + 3 - c.args.start) (drop c.args.start c.args.from.now))
    (c.truncate.ensures.items ∙ ap (take (c.len-end.result - 3)) c.reserve-2.ensures.items ∙ ap (λ k. take k old) end) in
    rw entries (copied es run old c.args.from.now c.extend_from_slice.new.self.items c.args.start c.args.stop c.requires.listed c.requires.ends c.requires.run c.requires.stop c.requires.within bytes)
