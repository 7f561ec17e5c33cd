-- Proofs of `fill_from`, src/old_entries.rt.
use Rattle.std.proofs.Common.{rules, ◌≡◌, ◌*◌, ◌++◌, length, take, drop, get_or, pos, sym, ◌∙◌}
use Rattle.vertex_marks.specs.Marks.{is_marked}
use Rattle.vectors.specs.Lanes.{lane_entry}
use Rattle.edge_fold.proofs.Filled.{filled_entry, none_held, written_back}
use Rattle.edge_fold.proofs.accumulator.Accumulator.fill_from.Goals as goal

pub returns : goal.returns
returns c r v h =
    let self = c.args.self.now in
    let new = c.copy_entries.new.values in
    let back : take self.values.len (new ++ drop (length new) self.values.items) ≡ new = written_back self.values.len self.values.items new (search rules) (search rules) in
    let off = none_held (is_marked self.marks v) (get_or self.values.items v (pos 0)) (λ combine h. c.requires combine v h) in
    rw back (filled_entry (64 * c.min-blocks.result) v (is_marked c.insert_blocks.new.self v) (is_marked self.marks v) (get_or new v (pos 0)) (lane_entry c.args.old v)
    (c.insert_blocks.ensures.marks v) off (c.copy_entries.ensures v))
    ∙ sym (c.requires (λ h y. y) v (lane_entry c.args.old v))
