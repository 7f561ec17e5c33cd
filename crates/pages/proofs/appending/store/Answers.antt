-- Proofs of `store`, src/appending.rt.
use Rattle.std.proofs.Common.{◌≡◌, ℕ, ◌+◌, ◌-◌, [], ◌∷◌, ◌++◌, replicate, length, take, drop, sym, ◌∙◌, ap, arith, vec_len}
use Rattle.pages.specs.declared.entry.ListEntry.{ListEntry}
use Rattle.edge_updates.specs.Weighted.{weighted}
use Rattle.pages.specs.inside.Entries.{size_of, end_of}
use Rattle.ascending_lists.proofs.Cutting.{rises}
use Rattle.pages.proofs.Extending.{end_small, longer_front, written_back, stored}
use Rattle.pages.proofs.appending.store.Goals as goal

pub overflow_sub-keys : goal.overflow_sub-keys
overflow_sub-keys c = rises 0 c.args.keys.now c.requires.ascending 0 (length c.args.keys.now - 1) (omega arith) (omega arith)

pub overflow_cast-entry : goal.overflow_cast-entry
overflow_cast-entry c = omega (arith, end_small 0 c.args.bytes.now.items c.args.entries.now.items c.requires.listed, c.requires.ends, c.len-start.ensures)

pub returns : goal.returns
returns c =
    let old = c.args.bytes.now.items in
    let es = c.args.entries.now.items in
    let xs = c.args.keys.now in
    let new = c.write_list.new.bytes in
    let long = c.resize.new.self.items in
    let n : ℕ = c.len.result + c.size.result in
    let e : ListEntry = record { start = c.len-start.result - 3; last = length xs - 1; width = c.width_of.result; weights = c.of.result; vertex = c.args.vertex } in
    let start : e.start ≡ end_of 0 es = omega (arith, c.len-start.ensures, c.requires.ends) in
    let filled : long ≡ take n old ++ replicate (n - vec_len c.args.bytes.now) 0 = c.in_ok-resize.ensures.items in
    let count : length long ≡ length old + size_of e = omega (arith, c.in_ok-resize.ensures.len, c.len.ensures, c.size.ensures.size) in
    let longer : take (end_of 0 es) long ≡ take (end_of 0 es) old = ap (take (end_of 0 es)) filled
    ∙ longer_front (end_of 0 es) n old (replicate (n - vec_len c.args.bytes.now) 0) (omega (arith, c.len.ensures, c.requires.ends)) (omega (arith, c.requires.ends)) in
    let value : c.deref_mut.result.now ≡ long = c.deref_mut.ensures.value in
    let same : length new ≡ length long = omega (arith, c.write_list.auto.bytes, ap length value) in
    let back : take c.resize.new.self.len (new ++ drop (length new) long) ≡ new = written_back c.resize.new.self.len long new same (omega (arith, c.resize.ensures.len)) in
    let front : take (end_of 0 es) new ≡ take (end_of 0 es) old = ap (λ k. take k new) (sym start) ∙ c.write_list.ensures.front ∙ ap (take e.start) value ∙ ap (λ k. take k long) start ∙ longer in
    let kept : c.reserve.new.self.items ≡ es = c.reserve.ensures.items in
    let pushed : c.push.new.self.items ≡ es ++ e ∷ [] = c.in_ok-push.ensures.items ∙ ap (λ ys. ys ++ e ∷ []) kept in
    rw (back, pushed) (stored es old new e xs (weighted xs c.args.weights.now) c.requires.listed c.requires.ends start (omega (arith, c.requires.few)) c.width_of.ensures.width c.requires.ascending
    (omega (arith, same, count)) front c.write_list.ensures.keys c.write_list.ensures.list)
