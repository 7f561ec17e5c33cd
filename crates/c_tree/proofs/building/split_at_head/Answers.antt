-- Proofs of `split_at_head`, src/building.rt.
use Rattle.std.proofs.Common.{◌≡◌, ℕ, ◌≤◌, ℤ, List, length, take, drop, refl, sym, ◌∙◌, ap, length-append, arith}
use Rattle.std.proofs.lemmas.List.{take_at, drop_at}
use Rattle.c_tree.specs.Chunks.{before_head}
use Rattle.c_tree.specs.inside.Cutting.{from_head}
use Rattle.c_tree.proofs.Chunking.{cut_at_head}
use Rattle.c_tree.proofs.building.split_at_head.Goals as goal

module _ (b : ℕ) (es : List (ℕ × ℤ)) where
  before_shorter : length (before_head b es) ≤ length es
  before_shorter = omega (arith, ap length (cut_at_head b es), length-append (before_head b es) (from_head b es))

  take_before : take (length (before_head b es)) es ≡ before_head b es
  take_before = ap (take (length (before_head b es))) (sym (cut_at_head b es)) ∙ take_at (before_head b es) (from_head b es) (length (before_head b es)) refl

  drop_before : drop (length (before_head b es)) es ≡ from_head b es
  drop_before = ap (drop (length (before_head b es))) (sym (cut_at_head b es)) ∙ drop_at (before_head b es) (from_head b es) (length (before_head b es)) refl

pub up_to-requires : goal.up_to-requires
up_to-requires c = omega (arith, c.head_index-index.ensures, before_shorter c.args.chunk_size c.args.entries.now)

pub from-requires : goal.from-requires
from-requires c = omega (arith, c.head_index-index.ensures, before_shorter c.args.chunk_size c.args.entries.now)

pub returns-clause-front : goal.returns-clause-front
returns-clause-front c = c.up_to.ensures ∙ ap (λ (n : ℕ). take n c.args.entries.now) c.head_index-index.ensures ∙ take_before c.args.chunk_size c.args.entries.now

pub returns-clause-rest : goal.returns-clause-rest
returns-clause-rest c = c.from.ensures ∙ ap (λ (n : ℕ). drop n c.args.entries.now) c.head_index-index.ensures ∙ drop_before c.args.chunk_size c.args.entries.now
