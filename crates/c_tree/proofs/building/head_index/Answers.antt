-- Proofs of `head_index`, src/building.rt.
use Rattle.std.proofs.Common.{◌≡◌, ℕ, ◌+◌, ◌<◌, true, false, ℤ, pos, List, [], ◌∷◌, length, drop, get_or, refl, sym, ◌∙◌, ap, arith}
use Rattle.std.specs.Map.{keys_of}
use Rattle.std.proofs.lemmas.List.{drop_more}
use Rattle.tail_codec.proofs.Writing.{key_of, length_keys}
use Rattle.c_tree.specs.Heads.{is_head}
use Rattle.c_tree.specs.Chunks.{before_head}
use Rattle.c_tree.proofs.building.head_index.Goals as goal

-- the entry at an index, by the column of keys
module _ (b i : ℕ) (es : List (ℕ × ℤ)) (keys : List ℕ) (same : keys ≡ keys_of es) (within : i < length keys) where
  within' : i < length es
  within' = omega (arith, within, ap length same, length_keys es)

  cells : drop i es ≡ get_or es i (0, pos 0) ∷ drop (i + 1) es
  cells = drop_more es i (0, pos 0) within'

  is_key : get_or keys i 0 ≡ (get_or es i (0, pos 0)).0
  is_key = ap (λ v. get_or v i 0) same ∙ key_of i es within'

  stops : is_head b (get_or keys i 0) ≡ true → before_head b (drop i es) ≡ []
  stops h =
      let head : is_head b (get_or es i (0, pos 0)).0 ≡ true = rw is_key at h in
      rw cells (rw head refl)

  goes_on : is_head b (get_or keys i 0) ≡ false → length (before_head b (drop i es)) ≡ length (before_head b (drop (i + 1) es)) + 1
  goes_on h =
      let plain : is_head b (get_or es i (0, pos 0)).0 ≡ false = rw is_key at h in
      rw cells (rw plain (omega arith))

pub returns-then-is_head : goal.returns-then-is_head
returns-then-is_head c =
    let l = c.loop-index in
    let none = stops c.args.chunk_size l.index c.args.entries.now c.keys-key-items.result.now c.keys-key-items.ensures c.loop-index-test.true (sym c.is_head.ensures ∙ c.if-is_head.true) in
    omega (arith, l.invariant, ap length none)

pub loop-index-preserved : goal.loop-index-preserved
loop-index-preserved c =
    let l = c.loop-index in
    let more = goes_on c.args.chunk_size l.index c.args.entries.now c.keys-key-items.result.now c.keys-key-items.ensures c.loop-index-test.true (sym c.is_head.ensures ∙ c.if-is_head.false) in
    omega (arith, l.invariant, more)
