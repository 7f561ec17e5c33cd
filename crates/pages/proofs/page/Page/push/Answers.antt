-- Proofs of `push`, src/page.rt.
use Rattle.std.proofs.Common.{length, ap, arith}
use Rattle.ascending_lists.specs.Maps.{Rises}
use Rattle.edge_updates.specs.Weighted.{weighted}
use Rattle.pages.specs.inside.Entries.{lists_in}
use Rattle.ascending_lists.proofs.MapOrder.{rises_room}
use Rattle.pages.proofs.Ranks.{index_push}
use Rattle.pages.proofs.Storing.{lists_length}
use Rattle.pages.proofs.page.Page.push.Goals as goal

pub store-requires-clause-room : goal.store-requires-clause-room
store-requires-clause-room c =
    let p = c.self.inside in
    omega (arith, rises_room 0 c.args.vertex c.args.self.now c.requires.above, ap length c.self.view_is, lists_length p.bytes.items p.entries.items)

pub invariant_of-self-2 : goal.invariant_of-self-2
invariant_of-self-2 c =
    let p = c.self.inside in
    let stored = c.in_ok-store.ensures in
    let rises : Rises 0 c.args.vertex (lists_in p.bytes.items p.entries.items) = rw c.self.view_is c.requires.above in
    record {
      listed = stored.0;
      ends = stored.1;
      index = rw stored.2 (index_push p.present (lists_in p.bytes.items p.entries.items) c.self.invariant.index c.args.vertex (weighted c.args.keys.now c.args.weights.now) rises c.requires.vertex);
    }
