-- Proofs of `keep_last`, src/lasts.rt.
use Rattle.std.proofs.Common.{◌≡◌, length, map, take, drop, ap, ◌∙◌}
use Rattle.std.specs.Map.{keys_of}
use Rattle.edge_updates.specs.inside.LastUpdates.{last_updates}
use Rattle.edge_updates.proofs.KeepingLast.{written, decided_lasts, lasts_ascend, ascend_once}
use Rattle.edge_updates.proofs.lasts.keep_last.Goals as goal

pub returns-clause-ascending : goal.returns-clause-ascending
returns-clause-ascending g c =
    let key = g.T.Keyed.key_of in
    let short : length c.move_lasts-kept.new.updates ≡ c.args.updates.now.len = c.move_lasts-kept.ensures.len ∙ c.as_mut_slice.ensures.len in
    let back = written c.args.updates.now.len c.move_lasts-kept.new.updates (drop (length c.move_lasts-kept.new.updates) c.args.updates.now.items) short in
    let is : c.truncate.new.self.items ≡ last_updates key c.args.updates.now.items = c.truncate.ensures.items ∙ ap (take c.move_lasts-kept.result) back ∙ c.move_lasts-kept.ensures.lasts
    ∙ ap (last_updates key) c.as_mut_slice.ensures.value in
    rw is (lasts_ascend g.T.Update.pair_of g.T.Keyed.key_of g.met.T.Update.keyed c.args.updates.now.items c.requires)

pub returns-clause-once : goal.returns-clause-once
returns-clause-once g c = ascend_once (keys_of (map g.T.Update.pair_of c.truncate.new.self.items)) (returns-clause-ascending g c)

pub returns-clause-same : goal.returns-clause-same
returns-clause-same g c e =
    let key = g.T.Keyed.key_of in
    let short : length c.move_lasts-kept.new.updates ≡ c.args.updates.now.len = c.move_lasts-kept.ensures.len ∙ c.as_mut_slice.ensures.len in
    let back = written c.args.updates.now.len c.move_lasts-kept.new.updates (drop (length c.move_lasts-kept.new.updates) c.args.updates.now.items) short in
    let is : c.truncate.new.self.items ≡ last_updates key c.args.updates.now.items = c.truncate.ensures.items ∙ ap (take c.move_lasts-kept.result) back ∙ c.move_lasts-kept.ensures.lasts
    ∙ ap (last_updates key) c.as_mut_slice.ensures.value in
    rw is (decided_lasts g.T.Update.pair_of g.T.Keyed.key_of g.met.T.Update.keyed c.args.updates.now.items e)
