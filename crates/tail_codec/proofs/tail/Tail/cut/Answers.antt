-- Proofs of `cut`, src/rewrite.rt.
use Rattle.std.proofs.Common.{◌≡◌, ℕ, ℤ, List, length, ◌∙◌, ap, sym, arith, rules}
use Rattle.std.specs.Map.{keys_of}
use Rattle.ascending_lists.specs.Ascending.{least}
use Rattle.ascending_lists.specs.Sets.{below, above}
use Rattle.ascending_lists.specs.MapOperations.{entries_below, entries_above}
use Rattle.ascending_lists.proofs.Ascending.{ascends_from}
use Rattle.ascending_lists.proofs.Cutting.{below_ascends, above_from}
use Rattle.ascending_lists.proofs.MapCuts.{keys_below, keys_above}
use Rattle.tail_codec.proofs.MapPositions.{entries_below_whole, entries_above_whole}
use Rattle.tail_codec.proofs.tail.Tail.cut.Goals as goal

-- a side of the cut list, which is as that of the tail
keys_under : (k : ℕ) (side all es : List (ℕ × ℤ)) → side ≡ entries_below k all → all ≡ es → keys_of side ≡ below k (keys_of es)
keys_under k side all es is same = ap keys_of (is ∙ ap (entries_below k) same) ∙ keys_below k es

keys_over : (k : ℕ) (side all es : List (ℕ × ℤ)) → side ≡ entries_above k all → all ≡ es → keys_of side ≡ above k (keys_of es)
keys_over k side all es is same = ap keys_of (is ∙ ap (entries_above k) same) ∙ keys_above k es

whole_under : (k : ℕ) (side all es : List (ℕ × ℤ)) → side ≡ entries_below k all → all ≡ es → length side ≡ length es → side ≡ es
whole_under k side all es is same long =
    let front : side ≡ entries_below k es = is ∙ ap (entries_below k) same in
    front ∙ entries_below_whole k es (ap length (sym front) ∙ long)

whole_over : (k : ℕ) (side all es : List (ℕ × ℤ)) → side ≡ entries_above k all → all ≡ es → length side ≡ length es → side ≡ es
whole_over k side all es is same long =
    let back : side ≡ entries_above k es = is ∙ ap (entries_above k) same in
    back ∙ entries_above_whole k es (ap length (sym back) ∙ long)

pub cut_entries-below-requires : goal.cut_entries-below-requires
cut_entries-below-requires c =
    let es = c.args.self.now.entries in
    let same : c.lent.result ≡ es = search rules in
    rw same (ascends_from 0 (least c.args.self.now.base) (keys_of es) (omega arith) c.base-base.ensures.valid)

pub side-requires-clause-over : goal.side-requires-clause-over
side-requires-clause-over c =
    let es = c.args.self.now.entries in
    let same : c.lent.result ≡ es = search rules in
    let cut = c.cut_entries-below in
    rw (keys_under c.args.key cut.result.0 c.lent.result es cut.ensures.front same, c.base-base.ensures.base)
    (below_ascends c.args.key (least c.args.self.now.base) (keys_of es) c.base-base.ensures.valid)

pub side-requires-clause-whole : goal.side-requires-clause-whole
side-requires-clause-whole c =
    let es = c.args.self.now.entries in
    let same : c.lent.result ≡ es = search rules in
    let cut = c.cut_entries-below in
    whole_under c.args.key cut.result.0 c.lent.result es cut.ensures.front same

pub side-requires-2-clause-over : goal.side-requires-2-clause-over
side-requires-2-clause-over c =
    let es = c.args.self.now.entries in
    let same : c.lent.result ≡ es = search rules in
    let cut = c.cut_entries-below in
    rw (keys_over c.args.key cut.result.2 c.lent.result es cut.ensures.back same) (above_from c.args.key (least c.args.self.now.base) (keys_of es) c.base-base.ensures.valid)

pub side-requires-2-clause-whole : goal.side-requires-2-clause-whole
side-requires-2-clause-whole c =
    let es = c.args.self.now.entries in
    let same : c.lent.result ≡ es = search rules in
    let cut = c.cut_entries-below in
    whole_over c.args.key cut.result.2 c.lent.result es cut.ensures.back same
