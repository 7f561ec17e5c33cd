-- What a set that is kept in one of the three forms comes to.
use Rattle.std.proofs.Common.{◌≡◌, ℕ, ◌<◌, ◌≤◌, inl, inr, Result, Ok, Err, OnOk, OnErr, List, length, get_or, refl, sym, ◌∙◌, ap, subst, arith, All, Contains}
use Rattle.std.specs.List.{range_with_len}
use Rattle.std.specs.List.Sorted.{IsStrictlyIncreasing}
use Rattle.std.proofs.lemmas.List.Elements.{All-contains, All-from_get_or, Contains-get_or}
use Rattle.vertex_sets.specs.declared.flags.FlagSet.{FlagSet}
use Rattle.vertex_sets.specs.declared.words.WordSet.{WordSet}
use Rattle.vertex_sets.specs.declared.set.Members.{Members}
use Rattle.vertex_sets.specs.declared.set.Members.TheVariants.{Listed, Flagged, Worded}
use Rattle.vertex_sets.specs.VertexSet.{VertexSubset, subset, IsAscendingBelow, IsVertexSet, Adds, AreFlagsOf, AreWordsOf}
use Rattle.vertex_sets.specs.inside.Words.{flag_members, word_members}
use Rattle.vertex_sets.specs.inside.Stored.{members_of, form_of, IsStored}
use Rattle.vertex_sets.proofs.Ascending.{HasOneMore, ascending_below, rises_range, range_bound, room}
use Rattle.vertex_sets.proofs.FlagMembers.{rises_flags, flag_bound, flag_members_has}
use Rattle.vertex_sets.proofs.WordMembers.{rises_words, word_members_has}

pub all_ascending : (n : ℕ) → IsAscendingBelow n (range_with_len 0 n)
all_ascending n = ascending_below n (range_with_len 0 n) (rises_range 0 n) (λ v is. omega (arith, range_bound 0 n v is))

pub valid_members : (n : ℕ) (m : Members) → IsStored n m → IsAscendingBelow n (members_of m)
valid_members n (Listed list) is = is
valid_members n (Flagged set) is =
    ascending_below n (flag_members 0 set.flags.items) (rises_flags 0 set.flags.items) (λ v member. omega (arith, is, flag_bound set.flags.items v member))
valid_members n (Worded set) is =
    ascending_below n (word_members 0 set.words.items) (rises_words 0 set.words.items) (λ v member. All-contains (λ u. u < n) (word_members 0 set.words.items) v is.1 member)

module _ (n : ℕ) (m : Members) (s : VertexSubset) (is : IsStored n m) (view : subset n (members_of m) (form_of m) ≡ s) where
  pub valid_set : IsVertexSet s
  valid_set = subst IsVertexSet view (valid_members n m is)

  pub count_bound : (k : ℕ) → k ≡ length (members_of m) → k ≤ s.vertices
  count_bound k counted =
      let same : k ≡ length s.members = counted ∙ ap (λ t. length t.members) view in
      omega (arith, room s.vertices s.members valid_set)

  pub flags_of : (set : FlagSet) → m ≡ Flagged set → AreFlagsOf s set.flags.items
  flags_of set form =
      let long : length set.flags.items ≡ n = subst (λ t. IsStored n t) form is in
      let here : AreFlagsOf (subset n (members_of (Flagged set)) (form_of (Flagged set))) set.flags.items =
      record { count = long; members = flag_members_has set.flags.items } in
      subst (λ t. AreFlagsOf t set.flags.items) (ap (λ t. subset n (members_of t) (form_of t)) (sym form) ∙ view) here

  pub words_of : (set : WordSet) → m ≡ Worded set → AreWordsOf s set.words.items
  words_of set form =
      let stored : IsStored n (Worded set) = subst (λ t. IsStored n t) form is in
      let here : AreWordsOf (subset n (members_of (Worded set)) (form_of (Worded set))) set.words.items =
      record { count = stored.0; members = word_members_has set.words.items } in
      subst (λ t. AreWordsOf t set.words.items) (ap (λ t. subset n (members_of t) (form_of t)) (sym form) ∙ view) here

  -- one member more, in the same form
  pub added : (v : ℕ) (old new : Members) → m ≡ old → form_of new ≡ form_of old → HasOneMore v (members_of old) (members_of new)
      → Adds v s (subset n (members_of new) (form_of new))
  added v old new at form more =
      let here : Adds v (subset n (members_of old) (form_of old)) (subset n (members_of new) (form_of new)) =
      record { vertices = refl; form = form; members = more } in
      subst (λ t. Adds v t (subset n (members_of new) (form_of new))) (ap (λ t. subset n (members_of t) (form_of t)) (sym at) ∙ view) here

pub on_ok : {T E : Type 0} (r : Result T E) (P Q : Type 0) → (P → Q) → OnOk r P → OnOk r Q
on_ok (Ok x) P Q f p = f p
on_ok (Err e) P Q f p = p

-- a member below n more, and all are below n
pub still_below : (n v : ℕ) (old new : List ℕ) → v < n → All (λ u. u < n) old → HasOneMore v old new → All (λ u. u < n) new
still_below n v old new lt all more =
    All-from_get_or (λ u. u < n) new 0 (λ i within. bound (get_or new i 0) (Contains-get_or new i 0 within))
  where
    bound : (u : ℕ) → Contains new u → u < n
    bound u member =
        elim ((more u).0 member) [ inl here ↦ omega arith | inr was ↦ All-contains (λ w. w < n) old u all was ]

-- a list after an insert, done or refused
pub inserted_list : {T E : Type 0} (n v : ℕ) (old new : List ℕ) (r : Result T E) → v < n → IsAscendingBelow n old → IsStrictlyIncreasing new
    → OnOk r (HasOneMore v old new) → OnErr r (new ≡ old) → IsAscendingBelow n new
inserted_list n v old new (Ok x) lt is up more same = record { ascending = up; below = still_below n v old new lt is.below more }
inserted_list n v old new (Err e) lt is up more same = subst (λ xs. IsAscendingBelow n xs) (sym same) is
