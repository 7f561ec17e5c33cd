-- Proofs of `fill_weighted`, src/set_walk.rt.
use Rattle.std.proofs.Common.{◌≡◌, ◌≤◌, ℕ, ℤ, List, length, take, ◌∙◌, ap, arith}
use Rattle.std.specs.Map.{keys_of, values_of}
use Rattle.std.proofs.lemmas.List.{length-take-le}
use Rattle.vertex_blocks.proofs.Columns.{filled_front, kept_back}
use Rattle.vertex_blocks.proofs.set_walk.SetWalk.fill_weighted.Goals as goal

pub fill_weighted-count-requires : goal.fill_weighted-count-requires
fill_weighted-count-requires c =
    omega (
      arith,
      c.min-room.ensures,
      length-take-le c.min-room.result c.args.keys.now (omega (arith, c.min-room.ensures)),
      length-take-le c.min-room.result c.args.weights.now (omega (arith, c.min-room.ensures)),
    )

pub returns-clause-keys : goal.returns-clause-keys
returns-clause-keys c =
    let n = c.fill_weighted-count.result in
    let room = c.min-room.result in
    let block = c.args.keys.now in
    let part = c.fill_weighted-count.new.keys in
    let within : room ≤ length block = omega (arith, c.min-room.ensures) in
    let cut : length (take room block) ≡ room = length-take-le room block within in
    let long : length part ≡ room = omega (arith, cut) in
    let le : n ≤ room = omega (arith, c.fill_weighted-count.ensures.count, length-take-le room c.args.keys.now (omega (arith, c.min-room.ensures))) in
    filled_front block part room n within long le (keys_of c.args.self.now) (c.fill_weighted-count.ensures.filled ∙ ap (λ (es : List (ℕ × ℤ)). take n (keys_of es)) c.self.view_is)

pub returns-clause-weights : goal.returns-clause-weights
returns-clause-weights c =
    let n = c.fill_weighted-count.result in
    let room = c.min-room.result in
    let block = c.args.weights.now in
    let part = c.fill_weighted-count.new.weights in
    let within : room ≤ length block = omega (arith, c.min-room.ensures) in
    let cut : length (take room block) ≡ room = length-take-le room block within in
    let long : length part ≡ room = omega (arith, cut) in
    let le : n ≤ room = omega (arith, c.fill_weighted-count.ensures.count, length-take-le room c.args.keys.now (omega (arith, c.min-room.ensures))) in
    filled_front block part room n within long le (values_of c.args.self.now) (c.fill_weighted-count.ensures.weighted ∙ ap (λ (es : List (ℕ × ℤ)). take n (values_of es)) c.self.view_is)

pub returns-clause-kept_keys : goal.returns-clause-kept_keys
returns-clause-kept_keys c =
    let n = c.fill_weighted-count.result in
    let room = c.min-room.result in
    let block = c.args.keys.now in
    let part = c.fill_weighted-count.new.keys in
    let within : room ≤ length block = omega (arith, c.min-room.ensures) in
    let cut : length (take room block) ≡ room = length-take-le room block within in
    let long : length part ≡ room = omega (arith, cut) in
    let le : n ≤ room = omega (arith, c.fill_weighted-count.ensures.count, length-take-le room c.args.keys.now (omega (arith, c.min-room.ensures))) in
    kept_back block part room n within long le c.fill_weighted-count.ensures.kept

pub returns-clause-kept_weights : goal.returns-clause-kept_weights
returns-clause-kept_weights c =
    let n = c.fill_weighted-count.result in
    let room = c.min-room.result in
    let block = c.args.weights.now in
    let part = c.fill_weighted-count.new.weights in
    let within : room ≤ length block = omega (arith, c.min-room.ensures) in
    let cut : length (take room block) ≡ room = length-take-le room block within in
    let long : length part ≡ room = omega (arith, cut) in
    let le : n ≤ room = omega (arith, c.fill_weighted-count.ensures.count, length-take-le room c.args.keys.now (omega (arith, c.min-room.ensures))) in
    kept_back block part room n within long le c.fill_weighted-count.ensures.kept_weights
