-- The bytes of a prefix and of chunks, put together at the root of their tree.
use Rattle.std.proofs.Common.{◌≡◌, ℕ, ℤ, ◌+◌, ◌-◌, ◌^◌, ◌<◌, ◌≤◌, Some, Result, Ok, Err, List, [], ◌∷◌, ◌++◌, length, refl, ◌∙◌, ap, append_assoc, length-append, arith}
use Rattle.std.specs.List.{All}
use Rattle.std.specs.Map.{keys_of}
use Rattle.std.proofs.lemmas.List.Elements.{All-head, All-tail}
use Rattle.ascending_lists.specs.Ascending.{AscendsFrom, Ascends, least}
use Rattle.tail_codec.specs.Appending.{least_after, IsAppended}
use Rattle.tail_codec.specs.Spelling.{BasedList, SpellsNumbers, entry_numbers, weight_number}
use Rattle.tail_codec.proofs.Writing.{spells-joined}
use Rattle.shared_tree.specs.Balanced.{Balanced, IsFork}
use Rattle.c_tree.specs.Chunks.{HeadValue}
use Rattle.c_tree.specs.inside.Chunks.{together}
use Rattle.c_tree.specs.inside.Spelled.{StandsOverItsHead, SpellsUpTo}
use Rattle.c_tree.proofs.Making.{keys_front, keys_after}
use Rattle.c_tree.proofs.Turns.{together_at, all_left, all_right}

-- an entry fits after those that stand before it
joined_fits : (e : ℕ × ℤ) (r : List (ℕ × ℤ)) (low : ℕ) (l : List (ℕ × ℤ)) → AscendsFrom low (keys_of (l ++ e ∷ r)) → (least_after low (keys_of l) ≤ e.0) × (e.0 < 2 ^ 32)
joined_fits e r low [] s = (s.0, s.1)
joined_fits e r low (x ∷ l) s = joined_fits e r (x.0 + 1) l s.2

least_after-joined : (e : ℕ × ℤ) (r : List (ℕ × ℤ)) (low : ℕ) (l : List (ℕ × ℤ)) → least_after low (keys_of (l ++ e ∷ r)) ≡ least_after (e.0 + 1) (keys_of r)
least_after-joined e r low [] = refl
least_after-joined e r low (x ∷ l) = least_after-joined e r (x.0 + 1) l

module _ (prefix : BasedList) (t l : Balanced HeadValue) (k : ℕ) (v : HeadValue) (r : Balanced HeadValue) (fork : IsFork t l k v r)
    (ascending : Ascends prefix.base (keys_of (together prefix t.entries))) (over : All StandsOverItsHead t.entries) where
  whole : together prefix t.entries ≡ together prefix l.entries ++ (k, v.weight) ∷ together v.tail r.entries
  whole = ap (together prefix) fork.entries ∙ together_at prefix l.entries k v r.entries

  up : AscendsFrom (least prefix.base) (keys_of (together prefix l.entries ++ (k, v.weight) ∷ together v.tail r.entries))
  up = rw whole at ascending

  each : All StandsOverItsHead (l.entries ++ (k, v) ∷ r.entries)
  each = rw fork.entries at over

  pub left_ascends : Ascends prefix.base (keys_of (together prefix l.entries))
  left_ascends = keys_front (least prefix.base) (together prefix l.entries) ((k, v.weight) ∷ together v.tail r.entries) up

  pub left_over : All StandsOverItsHead l.entries
  left_over = all_left StandsOverItsHead l.entries ((k, v) ∷ r.entries) each

  from_root : All StandsOverItsHead ((k, v) ∷ r.entries)
  from_root = all_right StandsOverItsHead l.entries ((k, v) ∷ r.entries) each

  root_over : v.tail.base ≡ Some k
  root_over = All-head StandsOverItsHead (k, v) r.entries from_root

  pub right_over : All StandsOverItsHead r.entries
  right_over = All-tail StandsOverItsHead (k, v) r.entries from_root

  pub right_ascends : Ascends v.tail.base (keys_of (together v.tail r.entries))
  right_ascends = rw root_over (keys_after (k, v.weight) (together v.tail r.entries) (least prefix.base) (together prefix l.entries) up)

  pub root_fits : (least_after (least prefix.base) (keys_of (together prefix l.entries)) ≤ k) × (k < 2 ^ 32)
  root_fits = joined_fits (k, v.weight) (together v.tail r.entries) (least prefix.base) (together prefix l.entries) up

  pub sides_smaller : (length l.entries < length t.entries) × (length r.entries < length t.entries)
  sides_smaller =
      let all : length t.entries ≡ length (l.entries ++ (k, v) ∷ r.entries) = ap length fork.entries in
      (omega (arith, all, length-append l.entries ((k, v) ∷ r.entries)), omega (arith, all, length-append l.entries ((k, v) ∷ r.entries)))

  -- the bytes of the left side, of the head, and of what stands after it
  module _ (front : BasedList) (bytes own : List ℕ) (left : SpellsUpTo prefix.base (together prefix l.entries) front bytes) (fits : weight_number v.weight < 2 ^ 64)
      (entry : SpellsNumbers (entry_numbers (k - least_after (least front.base) (keys_of front.entries)) v.weight) own) where
    pub spelled_whole : (more : List ℕ) (last : BasedList) → SpellsUpTo v.tail.base (together v.tail r.entries) last more
        → SpellsUpTo prefix.base (together prefix t.entries) last (bytes ++ (own ++ more))
    spelled_whole more last right =
        let after : least v.tail.base ≡ k + 1 = ap least root_over in
        rw whole
        (record {
          spells = spells-joined (least prefix.base) (together prefix l.entries) (k, v.weight) (together v.tail r.entries) bytes own more left.spells root_fits.0 root_fits.1 fits
              (rw left.after at entry) (rw after at right.spells);
          after = right.after ∙ ap (λ n. least_after n (keys_of (together v.tail r.entries))) after ∙ sym_after;
        })
      where
        sym_after : least_after (k + 1) (keys_of (together v.tail r.entries)) ≡ least_after (least prefix.base) (keys_of (together prefix l.entries ++ (k, v.weight) ∷ together v.tail r.entries))
        sym_after = rw (least_after-joined (k, v.weight) (together v.tail r.entries) (least prefix.base) (together prefix l.entries)) refl

-- bytes after bytes after bytes
three : (old one two new a b c : List ℕ) → one ≡ old ++ a → two ≡ one ++ b → new ≡ two ++ c → new ≡ old ++ (a ++ (b ++ c))
three old one two new a b c is is' is'' =
    is'' ∙ ap (λ v. v ++ c) (is' ∙ ap (λ v. v ++ b) is) ∙ append_assoc (old ++ a) b c ∙ append_assoc old a (b ++ c)

pub appended_after : {T E : Type 0} (P Q : T → List ℕ → Type 0) (old one two a b : List ℕ) → one ≡ old ++ a → two ≡ one ++ b → (x : Result T E) (new : List ℕ) → IsAppended two x P new
    → ((t : T) (c : List ℕ) → P t c → Q t (a ++ (b ++ c))) → IsAppended old x Q new
appended_after P Q old one two a b is is' (Ok t) new last so = record {
  more = a ++ (b ++ last.more);
  behind = three old one two new a b last.more is is' last.behind;
  bytes =
      so t last.more last.bytes;
}
appended_after P Q old one two a b is is' (Err e) new last so = record { more = a ++ (b ++ last.more); behind = three old one two new a b last.more is is' last.behind; bytes = tt }
