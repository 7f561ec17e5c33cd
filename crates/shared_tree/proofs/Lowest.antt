-- Stacks of links that lie over an empty link.
use Rattle.std.proofs.Common.{◌≡◌, ℕ, zero, suc, ◌+◌, ◌-◌, ◌<◌, Global, List, [], ◌∷◌, ◌++◌, length, get_or, take, drop, refl, sym, ap, ◌∙◌, arith}
use Rattle.std.specs.Borrow.{Bor}
use Rattle.std.specs.declared.sync.Arc.{Arc}
use Rattle.std.proofs.lemmas.List.{append-nil, drop_all, get_or-drop, length-drop, take_all}
use borrow.Rule.Slice.PartMut.{put_mid}
use Rattle.shared_tree.specs.declared.tree.Link.{Link}
use Rattle.shared_tree.specs.declared.tree.Link.TheVariants.{Empty, Fork}
use Rattle.shared_tree.specs.declared.tree.Node.{Node}
use Rattle.shared_tree.specs.inside.Pending.{HasRoom, IsOverEmpty}
use Rattle.shared_tree.proofs.Stacks.{room_top, no_room}

-- the list after its first element, lent
pub lent_rest : {A : Type 0} → (xs : List A) → take (length xs - 1) (drop 1 xs) ≡ drop 1 xs
lent_rest xs = take_all (length xs - 1) (drop 1 xs) (omega (arith, length-drop 1 xs))

-- what was written there
pub rest_written : {A : Type 0} → (xs ys : List A) → 0 < length xs → drop 1 (put_mid 1 (length xs - 1) xs ys) ≡ ys
rest_written [] ys some = absurd (omega (arith, some))
rest_written (x ∷ xs) ys some =
    let none : drop (length (x ∷ xs) - 1) xs ≡ [] = drop_all (length (x ∷ xs) - 1) xs (omega arith) in
    ap (λ zs. ys ++ zs) none ∙ append-nil ys

module _ {V : Type 0} (links : List (Bor (Link V))) (s : Bor (Link V)) where
  -- a link that is not the lowest, on the stack
  pub on_stack : (n : ℕ) → 0 < n → s ≡ get_or links n s → s ≡ get_or (drop 1 links) (n - 1) s
  on_stack n some is =
      let at : 1 + (n - 1) ≡ n = omega arith in
      is ∙ ap (λ m. get_or links m s) (sym at) ∙ sym (get_or-drop 1 links (n - 1) s)

  -- a link to a node is not the lowest
  pub above_lowest : (n d k : ℕ) (node : Arc (Node V) Global) → IsOverEmpty links → s ≡ get_or links n s → s.now ≡ Fork d k node → 0 < n
  above_lowest n d k node over is fork = over_lowest links over n is
    where
      over_lowest : (ls : List (Bor (Link V))) → IsOverEmpty ls → (n : ℕ) → s ≡ get_or ls n s → 0 < n
      over_lowest [] o n e = absurd o
      over_lowest (l ∷ ls) o zero e = let empty : s.now ≡ Empty = ap (λ (b : Bor (Link V)). b.now) e ∙ o in absurd (cc)
      over_lowest (l ∷ ls) o (suc n) e = omega arith

  -- an empty link is the lowest
  pub lowest : (n : ℕ) → n < length links → HasRoom 0 (take n (drop 1 links)) → s ≡ get_or links n s → s.now ≡ Empty → n ≡ 0
  lowest zero lt stack is empty = refl
  lowest (suc n) lt stack is empty =
      let within : n < length (drop 1 links) = omega (arith, lt, length-drop 1 links) in
      let at : suc n - 1 ≡ n = omega arith in
      let top : s ≡ get_or (drop 1 links) n s = on_stack (suc n) (omega arith) is ∙ ap (λ m. get_or (drop 1 links) m s) at in
      absurd (no_room n s.now empty (room_top (drop 1 links) n s within top (suc n) (omega arith) stack).1)
