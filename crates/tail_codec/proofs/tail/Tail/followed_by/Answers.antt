-- Proofs of `followed_by`, src/rewrite.rt.
use Rattle.std.proofs.Common.{◌≡◌, ◌≤◌, ◌++◌, length, ◌∙◌, arith}
use Rattle.ascending_lists.specs.Ascending.{least}
use Rattle.tail_codec.proofs.Writing.{written_anew, columns_anew, columns_joined, few_entries}
use Rattle.tail_codec.proofs.tail.Tail.followed_by.Goals as goal

pub overflow_add-len : goal.overflow_add-len
overflow_add-len c =
    let a = c.args.self.now in
    let b = c.args.more.now in
    omega (arith, c.len.ensures.len, c.len-2.ensures.len, few_entries (least a.base) a.entries c.len.ensures.valid, few_entries (least b.base) b.entries c.len-2.ensures.valid)

pub from_ascending-requires : goal.from_ascending-requires
from_ascending-requires c =
    let r = c.read_into-position in
    let s = c.read_into in
    let keys : c.deref_mut-3.result.now ≡ r.new.keys = c.deref_mut-3.ensures.value ∙ written_anew _ r.new.keys _ (r.auto.keys ∙ c.deref_mut.ensures.len) in
    let weights : c.deref_mut-4.result.now ≡ r.new.weights = c.deref_mut-4.ensures.value ∙ written_anew _ r.new.weights _ (r.auto.weights ∙ c.deref_mut-2.ensures.len) in
    let long : length s.new.keys ≤ s.result = omega (
      arith,
      s.ensures.position,
      r.ensures.position,
      s.auto.keys,
      c.deref_mut-3.ensures.len,
      c.in_ok-resize.ensures.len,
      c.len.ensures.len,
      c.len-2.ensures.len,
    ) in
    let made : c.new-entries.result ≡ c.args.self.now.entries ++ c.args.more.now.entries =
    c.new-entries.ensures
    ∙ columns_anew _ _ s.new.keys _ s.new.weights _ (s.auto.keys ∙ c.deref_mut-3.ensures.len) (s.auto.weights ∙ c.deref_mut-4.ensures.len)
    ∙ columns_joined r.result s.result r.new.keys c.deref_mut-3.result.now s.new.keys r.new.weights c.deref_mut-4.result.now s.new.weights c.args.self.now.entries c.args.more.now.entries keys weights
    r.ensures.read s.ensures.read long in
    rw (c.lent.ensures ∙ made) c.requires

pub returns : goal.returns
returns c =
    let r = c.read_into-position in
    let s = c.read_into in
    let keys : c.deref_mut-3.result.now ≡ r.new.keys = c.deref_mut-3.ensures.value ∙ written_anew _ r.new.keys _ (r.auto.keys ∙ c.deref_mut.ensures.len) in
    let weights : c.deref_mut-4.result.now ≡ r.new.weights = c.deref_mut-4.ensures.value ∙ written_anew _ r.new.weights _ (r.auto.weights ∙ c.deref_mut-2.ensures.len) in
    let long : length s.new.keys ≤ s.result = omega (
      arith,
      s.ensures.position,
      r.ensures.position,
      s.auto.keys,
      c.deref_mut-3.ensures.len,
      c.in_ok-resize.ensures.len,
      c.len.ensures.len,
      c.len-2.ensures.len,
    ) in
    let made : c.new-entries.result ≡ c.args.self.now.entries ++ c.args.more.now.entries =
    c.new-entries.ensures
    ∙ columns_anew _ _ s.new.keys _ s.new.weights _ (s.auto.keys ∙ c.deref_mut-3.ensures.len) (s.auto.weights ∙ c.deref_mut-4.ensures.len)
    ∙ columns_joined r.result s.result r.new.keys c.deref_mut-3.result.now s.new.keys r.new.weights c.deref_mut-4.result.now s.new.weights c.args.self.now.entries c.args.more.now.entries keys weights
    r.ensures.read s.ensures.read long in
    rw (c.lent.ensures ∙ made) at c.from_ascending.ensures
