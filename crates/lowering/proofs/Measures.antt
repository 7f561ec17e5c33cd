-- How large statements are.
use Rattle.std.proofs.Common.{◌≡◌, ◌<◌, ℕ, ◌+◌, ◌*◌, arith}
use Rattle.typed_tree.specs.BlockTree.{StatementKindTree, If, IfElse, While, For, BlockTree, Empty, Then}

abbrev mutual
  pub action_size : StatementKindTree → ℕ
  action_size (If c body) = 1 + block_size body
  action_size (IfElse c body other) = 1 + (block_size body + block_size other)
  action_size (While c body) = 1 + block_size body
  action_size (For name first end body) = 1 + block_size body
  action_size _ = 0

  pub block_size : BlockTree → ℕ
  block_size Empty = 0
  block_size (Then number label action rest) = 1 + (action_size action + block_size rest)

-- a block inside a statement is smaller
pub inner_falls : (statement inner body : ℕ) → statement ≡ 1 + inner → body ≡ inner → 6 * body + 2 < 6 * statement
inner_falls statement inner body is same = omega (arith, is, same)
