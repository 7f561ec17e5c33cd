-- Proofs of `push_list`, src/building.rt.
use Rattle.std.proofs.Common.{◌≡◌, ◌<◌, List, ℕ, ℤ, [], ◌∷◌, ◌++◌, OnOk, length, sym, ◌∙◌, ap, subst, arith}
use Rattle.std.specs.Map.{keys_of}
use Rattle.ascending_lists.specs.Ascending.{AscendsFrom}
use Rattle.edge_updates.specs.Weighted.{weighted}
use Rattle.edge_updates.proofs.Weighted.{length_weighted, things_of}
use Rattle.vertex_blocks.proofs.Putting.{put_packed, put_long}
use Rattle.vertex_blocks.proofs.building.Building.push_list.Goals as goal

pub of_columns-requires-clause-some : goal.of_columns-requires-clause-some
of_columns-requires-clause-some c =
    let keys = c.columns.result.0.now in
    let ws = c.columns.result.1.now in
    omega (arith, ap length c.columns.ensures, length_weighted keys ws, c.if-count-gt-MAX_PACKED.true)

pub push-requires-clause-some : goal.push-requires-clause-some
push-requires-clause-some c =
    let keys = c.columns.result.0.now in
    let ws = c.columns.result.1.now in
    omega (arith, ap length c.in_ok-long.ensures, ap length c.columns.ensures, length_weighted keys ws, c.if-count-gt-MAX_PACKED.true)

pub returns-then-count-gt-MAX_PACKED : goal.returns-then-count-gt-MAX_PACKED
returns-then-count-gt-MAX_PACKED c =
    let keys = c.columns.result.0.now in
    let ws = c.columns.result.1.now in
    let long = c.args.self.now.long in
    let some : 0 < length c.args.list.now = omega (arith, ap length c.columns.ensures, length_weighted keys ws, c.if-count-gt-MAX_PACKED.true) in
    put_long c.push.result c.args.vertex c.args.list.now c.args.self.now.page long c.push.new.self some
    (subst (λ (es : List (ℕ × ℤ)). OnOk c.push.result (c.push.new.self ≡ long ++ (c.args.vertex, es) ∷ [])) c.in_ok-long.ensures c.push.ensures)

pub push-requires-2-clause-ascending : goal.push-requires-2-clause-ascending
push-requires-2-clause-ascending c =
    let r = c.columns.result in
    subst (AscendsFrom 0) (ap keys_of (sym c.columns.ensures) ∙ things_of r.0.now r.1.now) c.requires.ascending

pub returns : goal.returns
returns c =
    let keys = c.columns.result.0.now in
    let ws = c.columns.result.1.now in
    let some : 0 < length (weighted keys ws) = omega (arith, c.if-count-eq0.false, length_weighted keys ws) in
    rw (← c.columns.ensures) (put_packed c.push-2.result c.args.vertex (weighted keys ws) c.args.self.now.page c.args.self.now.long c.push-2.new.self some c.push-2.ensures.ok)
