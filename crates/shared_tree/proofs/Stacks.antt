-- Stacks of links whose entries are still to come.
use Rattle.std.proofs.Common.{◌≡◌, ℕ, ◌+◌, ◌^◌, ◌<◌, ◌≤◌, max, Global, List, [], ◌∷◌, ◌++◌, length, get_or, take, set, sym, ap, ◌∙◌, append_assoc, add-zero, arith, length-append}
use Rattle.std.specs.Borrow.{Bor}
use Rattle.std.proofs.lemmas.List.{append-nil, take_more, take_more_set, length-take-le}
use Rattle.std.specs.declared.sync.Arc.{Arc}
use Rattle.shared_tree.specs.declared.tree.Link.{Link}
use Rattle.shared_tree.specs.declared.tree.Link.TheVariants.{Empty, Fork}
use Rattle.shared_tree.specs.declared.tree.Node.{Node}
use Rattle.shared_tree.specs.Balanced.{Balanced}
use Rattle.shared_tree.specs.inside.Shape.{seen, IsBalanced, IsBelow}
use Rattle.shared_tree.proofs.Forks.{root_room}
use Rattle.shared_tree.specs.inside.Pending.{from_link, pending, HasRoomAt, HasRoom}

module _ {V : Type 0} where
  -- a link on top of a stack comes first
  pending_push : (ss : List (Bor (Link V))) (s : Bor (Link V)) → pending (ss ++ s ∷ []) ≡ from_link s.now ++ pending ss
  pending_push [] s = sym (append-nil (from_link s.now))
  pending_push (x ∷ ss) s = rw (pending_push ss s) (append_assoc (from_link s.now) (pending ss) (from_link x.now))

  has_room_push : (i : ℕ) (ss : List (Bor (Link V))) (s : Bor (Link V)) → HasRoom i ss → HasRoomAt (i + length ss) s.now → HasRoom i (ss ++ s ∷ [])
  has_room_push i [] s h r = (rw add-zero at r, tt)
  has_room_push i (x ∷ ss) s h r =
      let e : i + length (x ∷ ss) ≡ i + 1 + length ss = omega arith in
      (h.0, has_room_push (i + 1) ss s h.1 (rw e at r))

  has_room_pop : (i : ℕ) (ss : List (Bor (Link V))) (s : Bor (Link V)) → HasRoom i (ss ++ s ∷ []) → HasRoom i ss × HasRoomAt (i + length ss) s.now
  has_room_pop i [] s h = (tt, rw add-zero h.0)
  has_room_pop i (x ∷ ss) s h =
      let e : i + length (x ∷ ss) ≡ i + 1 + length ss = omega arith in
      let below = has_room_pop (i + 1) ss s h.1 in
      ((h.0, below.0), rw e below.1)

  module _ (ss : List (Bor (Link V))) (n : ℕ) (s : Bor (Link V)) (lt : n < length ss) where
    at_top : length (take n ss) ≡ n
    at_top = length-take-le n ss (omega arith)

    -- what is pending once a link was put on top
    pub pending_put : pending (take (n + 1) (set ss n s)) ≡ from_link s.now ++ pending (take n ss)
    pending_put = rw (take_more_set ss n s lt) (pending_push (take n ss) s)

    pub room_put : HasRoom 0 (take n ss) → HasRoomAt n s.now → HasRoom 0 (take (n + 1) (set ss n s))
    room_put h r =
        let e : 0 + length (take n ss) ≡ n = omega (arith, at_top) in
        rw (take_more_set ss n s lt) (has_room_push 0 (take n ss) s h (rw e r))

    module _ (is : s ≡ get_or ss n s) (high : ℕ) (up : high ≡ n + 1) where
      one_more : take high ss ≡ take n ss ++ s ∷ []
      one_more = ap (λ h. take h ss) up ∙ take_more ss n s lt ∙ ap (λ x. take n ss ++ x ∷ []) (sym is)

      -- what was pending with the link on top
      pub pending_top : pending (take high ss) ≡ from_link s.now ++ pending (take n ss)
      pending_top = rw one_more (pending_push (take n ss) s)

      pub room_top : HasRoom 0 (take high ss) → HasRoom 0 (take n ss) × HasRoomAt n s.now
      room_top h =
          let e : 0 + length (take n ss) ≡ n = omega (arith, at_top) in
          let both = has_room_pop 0 (take n ss) s (rw one_more at h) in
          (both.0, rw e at both.1)

  module _ (l x : Link V) (d k : ℕ) (node : Arc (Node V) Global) (is : l ≡ Fork d k node) where
    module _ (left : IsBelow x node.value.left) where
      -- the entries below a link are those on the left side and then those that the link adds to a stack
      pub fork_entries : (p : List (ℕ × V)) → (seen x).entries ++ (from_link l ++ p) ≡ (seen l).entries ++ p
      fork_entries p =
          let rest : List (ℕ × V) = (k, node.value.value) ∷ node.value.right.entries in
          rw is (ap (λ (t : Balanced V). t.entries ++ (rest ++ p)) (sym left.same) ∙ sym (append_assoc node.value.left.entries rest p))

      pub fork_room : (n : ℕ) → IsBalanced l → n + (seen l).depth ≤ 64 → (n < 64) × (n + 1 + (seen x).depth ≤ 64) × HasRoomAt n l
      fork_room n b r =
          let root = rw is at b in
          let deep = rw is at r in
          let deeper : n + (max node.value.left.depth node.value.right.depth + 1) ≤ 64 = rw (← root.depth) deep in
          let child : node.value.left.depth ≡ (seen x).depth = ap (λ (t : Balanced V). t.depth) left.same in
          (omega arith, omega arith, rw is (omega arith))

      pub fork_smaller : IsBalanced l → length (seen x).entries < length (seen l).entries
      fork_smaller b =
          let fewer : length node.value.left.entries < length (node.value.left.entries ++ (k, node.value.value) ∷ node.value.right.entries) =
          omega (arith, length-append node.value.left.entries ((k, node.value.value) ∷ node.value.right.entries)) in
          rw (is, ← left.same) fewer

    module _ (right : IsBelow x node.value.right) where
      -- the entries after the one of a link are those on the right side
      pub next_entries : (a p q : List (ℕ × V)) → a ≡ from_link l ++ p → q ≡ (seen x).entries ++ p → a ≡ (k, node.value.value) ∷ q
      next_entries a p q e f =
          let g : a ≡ (k, node.value.value) ∷ (node.value.right.entries ++ p) = rw is at e in
          g ∙ ap (λ (t : Balanced V). (k, node.value.value) ∷ (t.entries ++ p)) right.same ∙ ap (λ q. (k, node.value.value) ∷ q) (sym f)

      pub next_room : (n : ℕ) → HasRoomAt n l → n + (seen x).depth ≤ 64
      next_room n r = rw (← right.same) (rw is at r)

  -- a link on a stack is to a node
  pub no_room : (n : ℕ) (l : Link V) → l ≡ Empty → HasRoomAt n l → ⊥
  no_room n l is r = rw is at r

  -- the keys below a link fit 32 bits
  pub below_room : (l : Link V) (t : Balanced V) → IsBelow l t → length t.entries ≤ 2 ^ 32
  below_room Empty t b = rw b.same (omega arith)
  below_room (Fork d k node) t b = rw b.same (root_room (seen (Fork d k node)) node.value.left k node.value.value node.value.right b.balanced)
