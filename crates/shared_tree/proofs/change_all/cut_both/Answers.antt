-- Proofs of `cut_both`, src/change_all.rt.
use Rattle.std.proofs.Common.{◌≡◌, ◌+◌, ◌/◌, ◌^◌, None, [], ◌++◌, length, sym, ap, arith}
use Rattle.std.proofs.lemmas.List.{take-append-drop}
use Rattle.ascending_lists.proofs.MapOrder.{rises_room}
use Rattle.shared_tree.proofs.CutMaps.{cut_at_index, split_empty, split_at_entry, halves_smaller}
use Rattle.shared_tree.proofs.change_all.cut_both.Goals as goal

pub returns-in_default : goal.returns-in_default
returns-in_default g c =
    let es = c.args.tree.now.entries in
    let cs = c.args.changes.now in
    let none : es ≡ [] = ap (λ t. t.entries) c.in_default.ensures in
    let whole : cs ≡ c.split_at.result.0.now ++ c.split_at.result.1.now = rw (c.split_at.ensures.front, c.split_at.ensures.back) (sym (take-append-drop (length cs / 2) cs)) in
    let key = c.in_ok-first.first.now.0 in
    let cut = cut_at_index cs c.split_at.result.0.now c.split_at.result.1.now c.in_ok-first.first.now c.in_ok-first.above.now c.requires whole c.in_ok-first.ensures.cases.0 in
    let map = split_empty key es (omega (arith, rises_room (key + 1) (2 ^ 32) c.in_ok-first.above.now cut.above)) none in
    let smaller = halves_smaller key es es None es cs _ _ _ map cut (omega arith) in
    record { map = map; changes = cut; below_smaller = smaller.0; above_smaller = smaller.1 }

pub returns : goal.returns
returns g c =
    let es = c.args.tree.now.entries in
    let root = c.in-Some.ensures in
    let map = split_at_entry es c.in-Some.left.now.entries c.in-Some.key c.in-Some.value.now c.in-Some.right.now.entries root.map root.entries in
    let smaller = halves_smaller c.in-Some.key es _ _ _ c.args.changes.now _ _ _ map c.cut.ensures (omega arith) in
    record { map = map; changes = c.cut.ensures; below_smaller = smaller.0; above_smaller = smaller.1 }
