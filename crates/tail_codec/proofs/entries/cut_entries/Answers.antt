-- Proofs of `cut_entries`, src/entries.rt.
use Rattle.std.proofs.Common.{◌≡◌, ℕ, ◌≤◌, Bool, true, false, ℤ, pos, inl, inr, List, length, sym, ◌∙◌, ap, arith, rules}
use Rattle.std.specs.Map.{keys_of}
use Rattle.std.proofs.lemmas.Bool.{cases_Bool}
use Rattle.ascending_lists.specs.Ascending.{AscendsFrom}
use Rattle.ascending_lists.specs.Sets.{below, has}
use Rattle.tail_codec.proofs.MapPositions.{IsAt, IsMissing, position_there, position_missing}
use Rattle.tail_codec.proofs.entries.cut_entries.Goals as goal

-- the position of a key, by the cut of the keys alone
module _ (k : ℕ) (es : List (ℕ × ℤ)) (keys front : List ℕ) (found : Bool) (ascends : AscendsFrom 0 (keys_of es)) (same : keys ≡ keys_of es) (cut : front ≡ below k keys)
    (there : found ≡ has k keys) where
  front_is : front ≡ below k (keys_of es)
  front_is = cut ∙ ap (below k) same

  there_is : has k (keys_of es) ≡ found
  there_is = ap (has k) (sym same) ∙ sym there

  is_at : found ≡ true → IsAt k (length front) es (pos 0)
  is_at hit = rw front_is (position_there k 0 es (pos 0) ascends (there_is ∙ hit))

  is_missing : found ≡ false → IsMissing k (length front) es
  is_missing miss = rw front_is (position_missing k 0 es ascends (there_is ∙ miss))

  within : length front ≤ length es
  within = elim (cases_Bool found) [
    | inl hit ↦ omega (arith, (is_at hit).within)
    | inr miss ↦ (is_missing miss).within
  ]

pub up_to-front-requires : goal.up_to-front-requires
up_to-front-requires c =
    within c.args.key c.args.entries.now c.keys.result.now c.cut_list-found.result.0.now c.cut_list-found.result.1 c.requires c.keys.ensures c.cut_list-found.ensures.front
    c.cut_list-found.ensures.there

pub weight-requires : goal.weight-requires
weight-requires c =
    (is_at c.args.key c.args.entries.now c.keys.result.now c.cut_list-found.result.0.now c.cut_list-found.result.1 c.requires c.keys.ensures c.cut_list-found.ensures.front
    c.cut_list-found.ensures.there c.if-found.true).within

pub from-requires : goal.from-requires
from-requires c =
    let at = is_at c.args.key c.args.entries.now c.keys.result.now c.cut_list-found.result.0.now c.cut_list-found.result.1 c.requires c.keys.ensures c.cut_list-found.ensures.front
    c.cut_list-found.ensures.there c.if-found.true in
    omega (arith, at.within)

pub returns-then-found : goal.returns-then-found
returns-then-found c =
    let at = is_at c.args.key c.args.entries.now c.keys.result.now c.cut_list-found.result.0.now c.cut_list-found.result.1 c.requires c.keys.ensures c.cut_list-found.ensures.front
    c.cut_list-found.ensures.there c.if-found.true in
    record {
      front = c.up_to-front.ensures ∙ at.front;
      there = rw (← at.there, ← c.weight.ensures) (search rules);
      back = c.from.ensures ∙ at.back;
    }

pub from-requires-2 : goal.from-requires-2
from-requires-2 c =
    (is_missing c.args.key c.args.entries.now c.keys.result.now c.cut_list-found.result.0.now c.cut_list-found.result.1 c.requires c.keys.ensures c.cut_list-found.ensures.front
    c.cut_list-found.ensures.there c.if-found.false).within

pub returns : goal.returns
returns c =
    let at = is_missing c.args.key c.args.entries.now c.keys.result.now c.cut_list-found.result.0.now c.cut_list-found.result.1 c.requires c.keys.ensures c.cut_list-found.ensures.front
    c.cut_list-found.ensures.there c.if-found.false in
    record {
      front = c.up_to-front.ensures ∙ at.front;
      there = at.there;
      back = c.from-2.ensures ∙ at.back;
    }
