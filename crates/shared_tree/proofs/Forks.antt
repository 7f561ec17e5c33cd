-- Trees whose root has an entry between two sides.
use Rattle.std.proofs.Common.{◌≡◌, ℕ, ◌+◌, ◌*◌, ◌^◌, ◌<◌, ◌≤◌, max, Some, ◌∷◌, ◌++◌, length, refl, sym, arith, length-append}
use Rattle.ascending_lists.specs.Maps.{IsMap, lookup}
use Rattle.shared_tree.specs.Balanced.{Balanced, IsFork, DifferByAtMostOne}
use Rattle.ascending_lists.proofs.MapOrder.{rises_room, lookup_left, lookup_here, lookup_right}
use Rattle.shared_tree.proofs.Shallow.{shallow_fork, room_fork, at_most_64}

module _ {V : Type 0} (t l : Balanced V) (k : ℕ) (v : V) (r : Balanced V) where
  -- the keys fit 32 bits
  pub root_room : IsFork t l k v r → length t.entries ≤ 2 ^ 32
  root_room f = omega (arith, rises_room 0 (2 ^ 32) t.entries f.map)

  -- how many entries there are
  pub fork_length : IsFork t l k v r → length t.entries ≡ length l.entries + 1 + length r.entries
  fork_length f = rw f.entries (omega (arith, length-append l.entries ((k, v) ∷ r.entries)))

  pub fork_depth : IsFork t l k v r → t.depth ≤ 64
  fork_depth f = at_most_64 t.depth (length t.entries) f.shallow (root_room f)

  -- the value at the root's key
  pub found_here : (j : ℕ) → IsFork t l k v r → j ≡ k → Some v ≡ lookup j t.entries
  found_here j f e = rw (e, f.entries) (sym (lookup_here 0 (2 ^ 32) l.entries k v r.entries (rw f.entries at f.map)))

  -- the value at a smaller key is on the left side
  pub found_left : (j : ℕ) → IsFork t l k v r → j < k → lookup j l.entries ≡ lookup j t.entries
  found_left j f lt = rw f.entries (sym (lookup_left 0 (2 ^ 32) l.entries k v r.entries j (rw f.entries at f.map) lt))

  -- the value at a greater key is on the right side
  pub found_right : (j : ℕ) → IsFork t l k v r → k < j → lookup j r.entries ≡ lookup j t.entries
  found_right j f lt = rw f.entries (sym (lookup_right 0 (2 ^ 32) l.entries k v r.entries j (rw f.entries at f.map) lt))

module _ {V : Type 0} (l : Balanced V) (k : ℕ) (v : V) (r : Balanced V) where
  -- an entry between two sides of about one depth makes a tree
  pub fork_made : (d : ℕ) → d ≡ max l.depth r.depth + 1 → IsMap (l.entries ++ (k, v) ∷ r.entries) → DifferByAtMostOne l.depth r.depth → 2 ^ l.depth ≤ (length l.entries + 1) * (length l.entries + 1)
      → 2 ^ r.depth ≤ (length r.entries + 1) * (length r.entries + 1) → length l.entries < 2 ^ l.depth → length r.entries < 2 ^ r.depth
      → IsFork (record { entries = l.entries ++ (k, v) ∷ r.entries; depth = d }) l k v r
  fork_made d e m b p q f g = record {
    entries = refl;
    depth = e;
    map = m;
    balanced = b;
    shallow = rw (e, length-append l.entries ((k, v) ∷ r.entries)) (omega (arith, shallow_fork l.depth r.depth (length l.entries) (length r.entries) b p q));
    room = rw (e, length-append l.entries ((k, v) ∷ r.entries)) (omega (arith, room_fork l.depth r.depth (length l.entries) (length r.entries) f g));
  }
