-- Proofs of `entry`, src/neighbours.rt.
use Rattle.std.proofs.Common.{◌≡◌, ℕ, ℤ, pos, get_or, w64, ◌∙◌, rules}
use Rattle.std.proofs.lemmas.Int.{to_z-of_z}
use Rattle.std.proofs.lemmas.List.{get_or-map}
use mir.Val.{SFits}
use Rattle.pages.proofs.neighbours.Neighbours.entry.Goals as goal

pub returns : goal.returns
returns c =
    let e : ℕ × ℤ = get_or c.args.self.now c.args.index (0, pos 1) in
    let fits : SFits w64 c.weight.result = search rules in
    let key : c.neighbour.result ≡ e.0 = c.neighbour.ensures ∙ get_or-map (λ (e : ℕ × ℤ). e.0) c.args.self.now c.args.index (0, pos 1) 0 c.requires in
    rw (to_z-of_z w64 c.weight.result fits, key, c.weight.ensures)
