-- Proofs of `contains`, src/list.rt.
use Rattle.std.proofs.Common.{arith, ◌↔◌, Contains, IsTrue, is_ok}
use Rattle.std.proofs.lemmas.List.Sorted.{searched}
use Rattle.vertex_sets.proofs.Ascending.{rises_from_increasing, non_decreasing, found_member}
use Rattle.vertex_sets.proofs.list.contains.Goals as goal

pub returns : goal.returns
returns c =
    let xs = c.args.list.now in
    let v = c.args.vertex in
    let r = c.binary_search.result in
    let at = searched xs v r c.binary_search.ensures.position (non_decreasing 0 xs (rises_from_increasing 0 xs (omega arith) c.requires)) in
    let has : IsTrue (is_ok r) ↔ Contains xs v = found_member v xs r at in
    rw c.is_ok.ensures.value has
