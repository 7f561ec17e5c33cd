-- Proofs of `join`, src/join.rt.
use Rattle.std.proofs.Common.{◌≡◌, Some, ◌∷◌, ◌++◌, rules}
use Rattle.tail_codec.specs.Spelling.{based_list}
use Rattle.c_tree.specs.Chunks.{head_value}
use Rattle.c_tree.proofs.Rooted.{over_head, joined_map, joined_part, joined_whole}
use Rattle.c_tree.proofs.part.Part.join.Goals as goal

pub over-requires : goal.over-requires
over-requires c =
    let q = c.into_parts-between.result in
    over_head c.args.self.entries c.args.key c.args.weight c.args.other q.2 q.0 q.1 c.into_parts-between.ensures.whole c.requires.ascending

pub joined-requires : goal.joined-requires
joined-requires c =
    let p = c.into_parts-prefix.result in
    let q = c.into_parts-between.result in
    let is : c.new-at_head.result ≡ head_value c.args.weight (based_list (Some c.args.key) q.0.entries) = search rules in
    joined_map p.2 q.2 p.0 p.1 c.args.key c.args.weight q.0 q.1 c.into_parts-prefix.ensures.part c.into_parts-between.ensures.part c.args.self c.args.other c.into_parts-prefix.ensures.whole
    c.into_parts-between.ensures.whole c.requires.sizes c.requires.head c.requires.ascending c.new-at_head.result is

pub new-requires : goal.new-requires
new-requires c =
    let p = c.into_parts-prefix.result in
    let q = c.into_parts-between.result in
    let is : c.new-at_head.result ≡ head_value c.args.weight (based_list (Some c.args.key) q.0.entries) = search rules in
    let all : c.in_ok-chunks.chunks.entries ≡ p.1.entries ++ (c.args.key, c.new-at_head.result) ∷ q.1.entries = search rules in
    joined_part p.2 q.2 p.0 p.1 c.args.key c.args.weight q.0 q.1 c.into_parts-prefix.ensures.part c.into_parts-between.ensures.part c.args.self c.args.other c.into_parts-prefix.ensures.whole
    c.into_parts-between.ensures.whole c.requires.sizes c.requires.head c.requires.ascending c.new-at_head.result is c.in_ok-chunks.chunks.entries all

pub returns : goal.returns
returns c =
    let p = c.into_parts-prefix.result in
    let q = c.into_parts-between.result in
    let is : c.new-at_head.result ≡ head_value c.args.weight (based_list (Some c.args.key) q.0.entries) = search rules in
    let all : c.in_ok-chunks.chunks.entries ≡ p.1.entries ++ (c.args.key, c.new-at_head.result) ∷ q.1.entries = search rules in
    joined_whole p.2 q.2 p.0 p.1 c.args.key c.args.weight q.0 q.1 c.into_parts-prefix.ensures.part c.into_parts-between.ensures.part c.args.self c.args.other c.into_parts-prefix.ensures.whole
    c.into_parts-between.ensures.whole c.requires.sizes c.requires.head c.requires.ascending c.new-at_head.result is c.new.result c.in_ok-chunks.chunks c.new.ensures all
