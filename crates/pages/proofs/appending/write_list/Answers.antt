-- Proofs of `write_list`, src/appending.rt.
use Rattle.std.proofs.Common.{◌≡◌, ◌+◌, ◌-◌, ◌*◌, ◌≤◌, length, take, drop, refl, sym, ◌∙◌, ap, arith}
use Rattle.std.proofs.lemmas.List.{drop-drop}
use Rattle.edge_updates.specs.Weighted.{weighted}
use Rattle.pages.specs.inside.Weights.{weights_from, column_of}
use Rattle.pages.specs.inside.Packed.{elements_in}
use Rattle.pages.specs.inside.Entries.{keys_size, weights_at}
use Rattle.pages.proofs.Encoding.{front_stays, middle_stays, same_front}
use Rattle.pages.proofs.Weighing.{weighted_column}
use Rattle.pages.proofs.appending.write_list.Goals as goal

pub returns-clause-front : goal.returns-clause-front
returns-clause-front c =
    let e = c.args.entry in
    front_stays e.start (e.start + c.keys_size.result) c.write_weights.new.bytes c.write.new.bytes (omega arith) c.write_weights.ensures.front ∙ c.write.ensures.front

pub returns-clause-keys : goal.returns-clause-keys
returns-clause-keys c =
    let e = c.args.entry in
    let new = c.write_weights.new.bytes in
    let mid = c.write.new.bytes in
    let one : e.last + 1 - 1 ≡ e.last = omega arith in
    let room : 4 + e.width * (e.last + 1 - 1) ≤ c.keys_size.result = omega (arith, c.keys_size.ensures.size, ap (λ k. e.width * k) one) in
    let part : take c.keys_size.result (drop e.start new) ≡ take c.keys_size.result (drop e.start mid) =
    middle_stays e.start c.keys_size.result (e.start + c.keys_size.result) new mid refl c.write_weights.ensures.front in
    same_front e.width (e.last + 1) c.keys_size.result (drop e.start new) (drop e.start mid) (omega arith) room part
    ∙ ap (λ n. elements_in e.width n (drop e.start mid)) (sym c.requires.count)
    ∙ ap (λ w. elements_in w (length c.args.keys.now) (drop e.start mid)) (sym c.from.ensures)
    ∙ c.write.ensures.list

pub returns-clause-list : goal.returns-clause-list
returns-clause-list c =
    let e = c.args.entry in
    let new = c.write_weights.new.bytes in
    let xs = c.args.keys.now in
    let ws = c.args.weights.now in
    let weights : weights_at new e ≡ column_of (length xs) ws =
    ap (λ n. weights_from e.weights n (drop (keys_size e) (drop e.start new))) (sym c.requires.count)
    ∙ ap (weights_from e.weights (length xs)) (drop-drop (keys_size e) e.start new ∙ ap (λ k. drop (e.start + k) new) (sym c.keys_size.ensures.size))
    ∙ c.write_weights.ensures.weights in
    ap (λ v. weighted v (weights_at new e)) (returns-clause-keys c) ∙ ap (weighted xs) weights ∙ weighted_column (length xs) xs ws refl
