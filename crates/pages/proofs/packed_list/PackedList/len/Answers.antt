-- Proofs of `len`, src/packed_list.rt.
use Rattle.std.proofs.Common.{◌-◌, ◌*◌, ◌^◌, take, drop, sym}
use Rattle.std.specs.Map.{keys_of}
use Rattle.pages.specs.inside.Numbers.{number_of}
use Rattle.pages.proofs.Decoding.{ascending, keys_seen, entry_count}
use Rattle.pages.proofs.packed_list.PackedList.len.Goals as goal

pub returns-clause-count : goal.returns-clause-count
returns-clause-count c =
    let l = c.self.inside in
    sym (entry_count (number_of (take 4 l.bytes.items)) l.width (2 ^ (8 * l.width) - 1) l.len l.weights (drop 4 l.bytes.items) c.args.self.now c.self.invariant.view c.self.view_is)

pub returns-clause-ascending : goal.returns-clause-ascending
returns-clause-ascending c =
    let l = c.self.inside in
    ascending (number_of (take 4 l.bytes.items)) l.width (2 ^ (8 * l.width) - 1) l.len (drop 4 l.bytes.items) (keys_of c.args.self.now) c.self.invariant.view.view
    (keys_seen (number_of (take 4 l.bytes.items)) l.width (2 ^ (8 * l.width) - 1) l.len l.weights (drop 4 l.bytes.items) c.args.self.now c.self.invariant.view c.self.view_is)
