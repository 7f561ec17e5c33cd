-- Proofs of `cut_list`, src/ascending_list.rt.
use Rattle.std.proofs.Common.{◌+◌}
use Rattle.std.proofs.lemmas.List.{take_rest}
use Rattle.std.proofs.lemmas.List.Sorted.{searched}
use Rattle.ascending_lists.proofs.Cutting.{cut_found, cut_missed, rises}
use Rattle.ascending_lists.proofs.ascending_list.cut_list.Goals as goal

pub returns-in-Ok : goal.returns-in-Ok
returns-in-Ok c =
    let xs = c.args.elements.now in
    let found = rw c.in-Ok.is at (searched xs c.args.key c.binary_search.result c.binary_search.ensures.position (rises 0 xs c.requires)) in
    rw (take_rest xs (c.in-Ok.position + 1)) (cut_found c.args.key c.in-Ok.position xs c.requires found.0 found.1)

pub returns-in-Err : goal.returns-in-Err
returns-in-Err c =
    let xs = c.args.elements.now in
    let missed = rw c.in-Err.is at (searched xs c.args.key c.binary_search.result c.binary_search.ensures.position (rises 0 xs c.requires)) in
    rw (take_rest xs c.in-Err.position) (cut_missed c.args.key 0 c.in-Err.position xs c.requires missed.0 missed.1 missed.2)
