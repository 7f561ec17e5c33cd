-- The instructions of statements with blocks, and of blocks.
use Rattle.std.proofs.Common.{◌≡◌, ℕ, ◌+◌, Bool, false, Option, List, [], ◌∷◌, ◌++◌, length, refl, sym, ap, ◌∙◌, arith, subst, append-nil, append_assoc}
use Rattle.typed_tree.specs.declared.statement.MainStatement.{MainStatement}
use Rattle.typed_tree.specs.IntExpressionTree.{IntExpressionTree}
use Rattle.typed_tree.specs.BoolExpressionTree.{BoolExpressionTree}
use Rattle.typed_tree.specs.BlockTree.{StatementKindTree, DeclareInt, If, IfElse, While, For, BlockTree, Then, block_tree}
use Rattle.typed_tree.specs.ProgramTree.{ProgramTree}
use Rattle.apply_options.specs.ScheduleTree.{ScheduleTree}
use Rattle.algorithm_meaning.specs.declared.state.Depth.{Depth}
use Rattle.plans.specs.Instruction.{InstructionTree, Do, Unless, Enter, UnlessBelow, Advance, Turn, Jump, End}
use Rattle.plans.specs.Fusing.{fusion_role_of, takes_next}
use Rattle.plans.specs.Plan.{depth_after, depth_after_all, depth_in_loop, main_depth, plan_of, depth_with_integer, plain, loop_step, plan_in, size_in, size, size_all, plan, plan_all}
use Rattle.plans.proofs.Indices.{length_in, length-plan, length-plan_all}
use Rattle.plans.specs.declared.instruction.Instruction.{Instruction}
use Rattle.plans.proofs.Pairwise.{pairwise_append}
use Rattle.lowering.specs.inside.Putting.{BeginsLoop, Fills, KeepsIndex, Puts}
use Rattle.lowering.specs.Text.{AreWritten, IsWritten}
use Rattle.lowering.proofs.Putting.{index_length, puts_both, puts_filled, puts_length, puts_nothing}

module _ (p : ProgramTree) (s : ScheduleTree) where
  -- of instructions to be put, these are put, and those of the statements that are left come after them
  pub record HasPut (whole : List InstructionTree) (a b : List Instruction) (d : Depth) (is_done : Bool) (left : BlockTree) : Type 0 where
    pub done : List InstructionTree
    pub puts : Puts p a b done
    pub is : whole ≡ done ++ plan_all p s (length b) d is_done left

  pub has_put_next : (whole : List InstructionTree) (a b c : List Instruction) (d : Depth) (is_done : Bool) (number : ℕ) (label : Option ℕ) (action : StatementKindTree) (rest : BlockTree)
      → HasPut whole a b d is_done (Then number label action rest)
      → Puts p b c (plan_in (fusion_role_of p s d is_done label action rest) s number label d (plan p s (length b) d number label action))
      → HasPut whole a c (depth_after action d) (takes_next (fusion_role_of p s d is_done label action rest)) rest
  has_put_next whole a b c d is_done number label action rest before puts =
      let company = fusion_role_of p s d is_done label action rest in
      let own = plan_in company s number label d (plan p s (length b) d number label action) in
      let size_of : length own ≡ size_in company (size p s d action) = length_in company s number label d (plan p s (length b) d number label action) (size p s d action)
      (length-plan p s action (length b) d number label) in
      let to : length c ≡ length b + size_in company (size p s d action) = puts_length p b c own puts ∙ ap (λ n. length b + n) size_of in
      record {
        done = before.done ++ own;
        puts = puts_both p a b c before.done own before.puts puts;
        is = before.is ∙ sym (append_assoc before.done own (plan_all p s (length b + size_in company (size p s d action)) (depth_after action d) (takes_next company) rest))
            ∙ ap (λ n. (before.done ++ own) ++ plan_all p s n (depth_after action d) (takes_next company) rest) (sym to);
      }

  -- none of them is put yet, and all are
  pub has_put_none : (a : List Instruction) (d : Depth) (is_done : Bool) (left : BlockTree) → HasPut (plan_all p s (length a) d is_done left) a a d is_done left
  has_put_none a d is_done left = record { done = []; puts = puts_nothing p a; is = refl }

  pub has_put_all : (whole : List InstructionTree) (a b : List Instruction) (d : Depth) (is_done : Bool) (left : List MainStatement)
      → length left ≡ 0 → HasPut whole a b d is_done (block_tree left) → Puts p a b whole
  has_put_all whole a b d is_done [] none put = subst (Puts p a b) (sym (put.is ∙ append-nil put.done)) put.puts
  has_put_all whole a b d is_done (first ∷ left) none put = absurd (omega (arith, none))

  -- where a block's instructions end
  ends_at : (b c : List Instruction) (d : Depth) (body : BlockTree) → Puts p b c (plan_all p s (length b) d false body) → length c ≡ length b + size_all p s d false body
  ends_at b c d body puts = puts_length p b c (plan_all p s (length b) d false body) puts ∙ ap (λ n. length b + n) (length-plan_all p s body (length b) d false)

  pub puts_if : (a b c e : List Instruction) (n to : ℕ) (d : Depth) (number : ℕ) (label : Option ℕ) (t : BoolExpressionTree) (body : BlockTree)
      → KeepsIndex a b n → Puts p b c (plan_all p s (length b) d false body) → to ≡ length c → Fills p c e n (plain number d (Unless t to))
      → Puts p a e (plan p s (length a) d number label (If t body))
  puts_if a b c e n to d number label t body keeps puts depth_after fills =
      let one = index_length a b n keeps in
      let index : to ≡ length a + 1 + size_all p s d false body = depth_after ∙ ends_at b c d body puts ∙ ap (λ m. m + size_all p s d false body) one in
      puts_filled p a b c e n _ _ keeps (subst (λ m. Puts p b c (plan_all p s m d false body)) one puts) (subst (λ m. Fills p c e n (plain number d (Unless t m))) index fills)

  pub puts_apply_schedule : (a b c e k g h : List Instruction) (n to m : ℕ) (d : Depth) (number : ℕ) (label : Option ℕ) (t : BoolExpressionTree) (body other : BlockTree)
      → KeepsIndex a b n → Puts p b c (plan_all p s (length b) d false body) → to ≡ length c + 1 → Fills p c e n (plain number d (Unless t to))
      → KeepsIndex e k m → Puts p k g (plan_all p s (length k) d false other) → Fills p g h m (loop_step number d d (Jump (length g)))
      → Puts p a h (plan p s (length a) d number label (IfElse t body other))
  puts_apply_schedule a b c e k g h n to m d number label t body other keeps puts otherwise fills keeps_jump more jump =
      let one = index_length a b n keeps in
      let inside : length c ≡ length a + 1 + size_all p s d false body = ends_at b c d body puts ∙ ap (λ q. q + size_all p s d false body) one in
      let index : to ≡ length a + 1 + size_all p s d false body + 1 = otherwise ∙ ap (λ q. q + 1) inside in
      let first = puts_filled p a b c e n _ _ keeps (subst (λ q. Puts p b c (plan_all p s q d false body)) one puts) (subst (λ q. Fills p c e n (plain number d (Unless t q))) index fills) in
      let long : length e ≡ length a + 1 + size_all p s d false body = puts_length p a e _ first ∙ omega (arith, length-plan_all p s body (length a + 1) d false) in
      let second : length k ≡ length a + 1 + size_all p s d false body + 1 = index_length e k m keeps_jump ∙ ap (λ q. q + 1) long in
      let end : length g ≡ length a + 1 + size_all p s d false body + 1 + size_all p s d false other = ends_at k g d other more ∙ ap (λ q. q + size_all p s d false other) second in
      puts_both p a e h _ _ first
      (puts_filled p e k g h m _ _ keeps_jump (subst (λ q. Puts p k g (plan_all p s q d false other)) second more) (subst (λ q. Fills p g h m (loop_step number d d (Jump q))) end jump))

  pub puts_while : (a b c g e : List Instruction) (n to : ℕ) (d : Depth) (number : ℕ) (label : Option ℕ) (t : BoolExpressionTree) (body : BlockTree)
      → BeginsLoop p a b n (loop_step number d d Turn) → Puts p b c (plan_all p s (length b) d false body)
      → Puts p c g (loop_step number d d (Jump n) ∷ []) → to ≡ length g → Fills p g e n (plain number d (Unless t to))
      → Puts p a e (plan p s (length a) d number label (While t body))
  puts_while a b c g e n to d number label t body begins puts jump depth_after fills =
      let one = index_length a begins.test n begins.keeps in
      let two : length b ≡ length a + 2 = puts_length p begins.test b _ begins.turns ∙ omega (arith, one) in
      let index : to ≡ length a + 2 + size_all p s d false body + 1 = depth_after ∙ puts_length p c g _ jump ∙ omega (arith, ends_at b c d body puts, two) in
      puts_filled p a begins.test g e n _ _ begins.keeps
      (puts_both p begins.test b g _ _ begins.turns
      (puts_both p b c g _ _ (subst (λ q. Puts p b c (plan_all p s q d false body)) two puts)
      (subst (λ q. Puts p c g (loop_step number d d (Jump q) ∷ [])) begins.keeps.at jump)))
      (subst (λ q. Fills p g e n (plain number d (Unless t q))) index fills)

  pub puts_for : (a f b c g e : List Instruction) (n : ℕ) (d : Depth) (number : ℕ) (label : Option ℕ) (name : ℕ) (first end : IntExpressionTree) (body : BlockTree)
      → Puts p a f (plain number d (Do (DeclareInt name first)) ∷ loop_step number (depth_with_integer d) d (Enter name end) ∷ [])
      → BeginsLoop p f b n (loop_step number (depth_in_loop d) d Turn) → Puts p b c (plan_all p s (length b) (depth_in_loop d) false body)
      → Puts p c g (plain number d (Advance name) ∷ loop_step number (depth_in_loop d) d (Jump n) ∷ []) → Fills p g e n (loop_step number (depth_in_loop d) d (UnlessBelow name (length g)))
      → Puts p a e (plan p s (length a) d number label (For name first end body))
  puts_for a f b c g e n d number label name first end body bounds begins puts back fills =
      let head : length f ≡ length a + 2 = puts_length p a f _ bounds in
      let one = index_length f begins.test n begins.keeps in
      let two : length b ≡ length a + 4 = puts_length p begins.test b _ begins.turns ∙ omega (arith, one, head) in
      let to : length g ≡ length a + 4 + size_all p s (depth_in_loop d) false body + 2 = puts_length p c g _ back ∙ omega (arith, ends_at b c (depth_in_loop d) body puts, two) in
      let index : n ≡ length a + 2 = begins.keeps.at ∙ head in
      puts_both p a f e _ _ bounds
      (puts_filled p f begins.test g e n _ _ begins.keeps
      (puts_both p begins.test b g _ _ begins.turns
      (puts_both p b c g _ _ (subst (λ q. Puts p b c (plan_all p s q (depth_in_loop d) false body)) two puts)
      (subst (λ q. Puts p c g (plain number d (Advance name) ∷ loop_step number (depth_in_loop d) d (Jump q) ∷ [])) index back)))
      (subst (λ q. Fills p g e n (loop_step number (depth_in_loop d) d (UnlessBelow name q))) to fills))

-- nothing is declared where no statement is left
pub after_none : (left : List MainStatement) (d : Depth) → length left ≡ 0 → depth_after_all (block_tree left) d ≡ d
after_none [] d none = refl
after_none (first ∷ left) d none = absurd (omega (arith, none))

-- main, and the end
pub whole_plan : (p : ProgramTree) (s : ScheduleTree) (a b k : List Instruction) (d : Depth) (i : Instruction)
    → a ≡ [] → d ≡ main_depth p → Puts p a b (plan_all p s (length a) d false p.main) → k ≡ b ++ i ∷ [] → IsWritten p i (plain 0 (depth_after_all p.main (main_depth p)) End)
    → AreWritten p k (plan_of p s)
whole_plan p s a b k d i empty at puts pushed end =
    let main : Puts p [] b (plan_all p s 0 (main_depth p) false p.main) =
    subst (λ x. Puts p [] b (plan_all p s 0 x false p.main)) at (subst (λ xs. Puts p xs b (plan_all p s (length xs) d false p.main)) empty puts) in
    subst (λ xs. AreWritten p xs (plan_of p s)) (sym (pushed ∙ ap (λ xs. xs ++ i ∷ []) main.is))
    (pairwise_append (IsWritten p) main.more (plan_all p s 0 (main_depth p) false p.main) (i ∷ []) (plain 0 (depth_after_all p.main (main_depth p)) End ∷ []) main.are (end, tt))
