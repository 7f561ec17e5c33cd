-- Proofs of `split_at_line_feed`, src/pieces.rt.
use Rattle.std.proofs.Common.{◌≡◌, ◌≢◌, ℕ, ◌<◌, length, get_or, rules}
use Rattle.scripts.proofs.PieceLaws.{cut_at, HasNone-take}
use Rattle.scripts.proofs.pieces.split_at_line_feed.Goals as goal

pub returns : goal.returns
returns c =
    let within : c.in_ok-end.end < length c.args.bytes.now = search rules in
    let found : get_or c.args.bytes.now c.in_ok-end.end 0 ≡ 10 = search rules in
    let before : (k : ℕ) → k < c.in_ok-end.end → get_or c.args.bytes.now k 0 ≢ 10 = search rules in (
      rw (c.around.ensures.before, c.around.ensures.after) (cut_at 10 c.args.bytes.now c.in_ok-end.end within found),
      rw c.around.ensures.before (HasNone-take 10 c.args.bytes.now c.in_ok-end.end before),
    )
