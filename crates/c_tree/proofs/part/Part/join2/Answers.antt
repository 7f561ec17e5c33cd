-- Proofs of `join2`, src/join.rt.
use Rattle.std.proofs.Common.{◌≡◌, ◌++◌, rules}
use Rattle.c_tree.specs.Chunks.{IsSetOf}
use Rattle.c_tree.proofs.Rooted.{more_ascends, two_map, two_part, two_whole}
use Rattle.c_tree.proofs.part.Part.join2.Goals as goal

pub extended-requires-clause-ascending : goal.extended-requires-clause-ascending
extended-requires-clause-ascending c =
    let q = c.into_parts-between.result in
    more_ascends c.args.self.entries c.args.other q.2 q.0 q.1 c.into_parts-between.ensures.whole c.requires.ascending

pub concatenated-requires : goal.concatenated-requires
concatenated-requires c =
    let p = c.into_parts-prefix.result in
    let q = c.into_parts-between.result in
    let is : IsSetOf (c.args.self.entries ++ q.0.entries) c.args.self.chunk_size c.in_ok-front.front = search rules in
    two_map p.2 q.2 p.0 p.1 q.0 q.1 c.into_parts-prefix.ensures.part c.into_parts-between.ensures.part c.args.self c.args.other c.in_ok-front.front c.into_parts-between.ensures.whole c.requires.sizes
    c.requires.ascending c.into_parts-prefix.ensures.whole is

pub new-requires : goal.new-requires
new-requires c =
    let p = c.into_parts-prefix.result in
    let q = c.into_parts-between.result in
    let is : IsSetOf (c.args.self.entries ++ q.0.entries) c.args.self.chunk_size c.in_ok-front.front = search rules in
    let all : c.in_ok-chunks.chunks.entries ≡ p.1.entries ++ q.1.entries = search rules in
    two_part p.2 q.2 p.0 p.1 q.0 q.1 c.into_parts-prefix.ensures.part c.into_parts-between.ensures.part c.args.self c.args.other c.in_ok-front.front c.into_parts-between.ensures.whole c.requires.sizes
    c.requires.ascending c.into_parts-prefix.ensures.whole is c.in_ok-chunks.chunks.entries all

pub returns : goal.returns
returns c =
    let p = c.into_parts-prefix.result in
    let q = c.into_parts-between.result in
    let is : IsSetOf (c.args.self.entries ++ q.0.entries) c.args.self.chunk_size c.in_ok-front.front = search rules in
    let all : c.in_ok-chunks.chunks.entries ≡ p.1.entries ++ q.1.entries = search rules in
    two_whole p.2 q.2 p.0 p.1 q.0 q.1 c.into_parts-prefix.ensures.part c.into_parts-between.ensures.part c.args.self c.args.other c.in_ok-front.front c.into_parts-between.ensures.whole
    c.requires.sizes c.requires.ascending c.into_parts-prefix.ensures.whole is c.new.result c.in_ok-chunks.chunks c.new.ensures all
