-- Proofs of `pad`, src/columns.rt.
use Rattle.std.proofs.Common.{◌≡◌, pos, ◌-◌, ◌++◌, replicate, length, take, ◌∙◌, ap, arith, vec_len}
use Rattle.std.proofs.lemmas.List.{take-take}
use Rattle.pages.proofs.Weighing.{padded}
use Rattle.pages.proofs.columns.pad.Goals as goal

pub returns : goal.returns
returns c =
    let n = c.args.count in
    let old = c.args.weights.now.items in
    let short : c.truncate.new.self.items ≡ take n old = c.truncate.ensures.items in
    let len : n - vec_len c.truncate.new.self ≡ n - length (take n old) = omega (arith, ap length short) in
    c.in_ok-resize.ensures.items
    ∙ ap (λ v. take n v ++ replicate (n - vec_len c.truncate.new.self) (pos 1)) short
    ∙ ap (λ v. v ++ replicate (n - vec_len c.truncate.new.self) (pos 1)) (take-take n n old (omega arith))
    ∙ ap (λ k. take n old ++ replicate k (pos 1)) len
    ∙ padded n old
