-- Unions of lists of entries: their keys, and what they give.
use Rattle.std.proofs.Common.{◌≡◌, ℕ, ◌+◌, ◌^◌, ◌<◌, inl, inr, Option, Some, None, List, [], ◌∷◌, ◌++◌, refl, sym, ◌∙◌, ap, arith}
use Rattle.std.specs.Map.{keys_of}
use Rattle.std.specs.Option.{option_or, unwrap_or}
use Rattle.std.proofs.lemmas.Bool.{cases_order}
use Rattle.ascending_lists.specs.Sets.{below, above, union}
use Rattle.ascending_lists.specs.Maps.{Rises, IsMap, lookup}
use Rattle.ascending_lists.specs.MapOperations.{entries_below, entries_above, renewed, union_keeping_second, union_keeping_first}
use Rattle.ascending_lists.proofs.Unions.{union_ascends}
use Rattle.ascending_lists.proofs.MapKeys.{keys_append, keys_ascend, entries_rise}
use Rattle.ascending_lists.proofs.MapOrder.{lookup_below}
use Rattle.ascending_lists.proofs.MapCuts.{keys_below, keys_above, lookup_later, lookup_first, lookup_append, value_under, nothing_below, value_over, nothing_above}
use Rattle.ascending_lists.proofs.MapValues.{same_entries}

module _ {V : Type 0} where
  -- the keys of what is below an entry, of the entry, and of what comes after it
  keys_around : (x : ℕ × V) (ys zs : List (ℕ × V)) (ks : List ℕ) → keys_of zs ≡ ks → keys_of (entries_below x.0 ys ++ x ∷ zs) ≡ below x.0 (keys_of ys) ++ x.0 ∷ ks
  keys_around x ys zs ks is =
      keys_append (entries_below x.0 ys) (x ∷ zs)
      ∙ ap (λ v. v ++ x.0 ∷ keys_of zs) (keys_below x.0 ys)
      ∙ ap (λ v. below x.0 (keys_of ys) ++ x.0 ∷ v) is

  pub keys_of_second : (xs ys : List (ℕ × V)) → keys_of (union_keeping_second xs ys) ≡ union (keys_of xs) (keys_of ys)
  keys_of_second [] ys = refl
  keys_of_second (x ∷ xs) ys =
      keys_around (renewed x ys) ys (union_keeping_second xs (entries_above x.0 ys)) (union (keys_of xs) (above x.0 (keys_of ys)))
      (keys_of_second xs (entries_above x.0 ys) ∙ ap (λ v. union (keys_of xs) v) (keys_above x.0 ys))

  pub keys_of_first : (xs ys : List (ℕ × V)) → keys_of (union_keeping_first xs ys) ≡ union (keys_of xs) (keys_of ys)
  keys_of_first [] ys = refl
  keys_of_first (x ∷ xs) ys =
      keys_around x ys (union_keeping_first xs (entries_above x.0 ys)) (union (keys_of xs) (above x.0 (keys_of ys)))
      (keys_of_first xs (entries_above x.0 ys) ∙ ap (λ v. union (keys_of xs) v) (keys_above x.0 ys))

  -- what is given at a key below an entry, at its key, and above it
  given_before : (k : ℕ) (x : ℕ × V) (ys zs : List (ℕ × V)) → k < x.0 → lookup k (entries_below x.0 ys ++ x ∷ zs) ≡ option_or (lookup k ys) (lookup k zs)
  given_before k x ys zs lt =
      lookup_append k (entries_below x.0 ys) (x ∷ zs)
      ∙ ap (λ v. option_or v (lookup k (x ∷ zs))) (value_under k x.0 ys lt)
      ∙ ap (λ v. option_or (lookup k ys) v) (lookup_later x zs k (omega arith))

  given_there : (k : ℕ) (x : ℕ × V) (ys zs : List (ℕ × V)) → x.0 ≡ k → lookup k (entries_below x.0 ys ++ x ∷ zs) ≡ Some x.1
  given_there k x ys zs is =
      lookup_append k (entries_below x.0 ys) (x ∷ zs)
      ∙ ap (λ v. option_or v (lookup k (x ∷ zs))) (nothing_below k x.0 ys (omega (arith, is)))
      ∙ lookup_first x zs k is

  given_after : (k : ℕ) (x : ℕ × V) (ys zs : List (ℕ × V)) → x.0 < k → lookup k (entries_below x.0 ys ++ x ∷ zs) ≡ lookup k zs
  given_after k x ys zs lt =
      lookup_append k (entries_below x.0 ys) (x ∷ zs)
      ∙ ap (λ v. option_or v (lookup k (x ∷ zs))) (nothing_below k x.0 ys (omega arith))
      ∙ lookup_later x zs k (omega arith)

  or_none : (o : Option V) → option_or o None ≡ o
  or_none None = refl
  or_none (Some v) = refl

  some_or : (o : Option V) (v : V) → Some (unwrap_or o v) ≡ option_or o (Some v)
  some_or None v = refl
  some_or (Some w) v = refl

  pub value_of_second : (k : ℕ) (xs ys : List (ℕ × V)) → lookup k (union_keeping_second xs ys) ≡ option_or (lookup k ys) (lookup k xs)
  value_of_second k [] ys = sym (or_none (lookup k ys))
  value_of_second k (x ∷ xs) ys =
      let e = renewed x ys in
      let over = entries_above x.0 ys in
      let rest = union_keeping_second xs over in
      elim (cases_order k x.0) [
        | inl is ↦
            given_there k e ys rest (sym is)
            ∙ some_or (lookup x.0 ys) x.1
            ∙ ap (λ (j : ℕ). option_or (lookup j ys) (Some x.1)) (sym is)
            ∙ ap (λ v. option_or (lookup k ys) v) (sym (lookup_first x xs k (sym is)))
        | inr other ↦ elim other [
          | inl lt ↦
              given_before k e ys rest lt
              ∙ ap (λ v. option_or (lookup k ys) v) (value_of_second k xs over ∙ ap (λ v. option_or v (lookup k xs)) (nothing_above k x.0 ys (omega arith)) ∙ sym (lookup_later x xs k (omega arith)))
          | inr gt ↦
              given_after k e ys rest gt
              ∙ value_of_second k xs over
              ∙ ap (λ v. option_or v (lookup k xs)) (value_over k x.0 ys gt)
              ∙ ap (λ v. option_or (lookup k ys) v) (sym (lookup_later x xs k (omega arith)))
        ]
      ]

  pub value_of_first : (low : ℕ) (k : ℕ) (xs ys : List (ℕ × V)) → Rises low (2 ^ 32) xs → lookup k (union_keeping_first xs ys) ≡ option_or (lookup k xs) (lookup k ys)
  value_of_first low k [] ys s = refl
  value_of_first low k (x ∷ xs) ys s =
      let over = entries_above x.0 ys in
      let rest = union_keeping_first xs over in
      elim (cases_order k x.0) [
        | inl is ↦
            given_there k x ys rest (sym is)
            ∙ ap (λ v. option_or v (lookup k ys)) (sym (lookup_first x xs k (sym is)))
        | inr other ↦ elim other [
          | inl lt ↦
              let none : lookup k xs ≡ None = lookup_below (x.0 + 1) (2 ^ 32) xs k s.1 (omega arith) in
              given_before k x ys rest lt
              ∙ ap (λ v. option_or (lookup k ys) v) (value_of_first (x.0 + 1) k xs over s.1 ∙ ap (λ v. option_or v (lookup k over)) none ∙ nothing_above k x.0 ys (omega arith))
              ∙ or_none (lookup k ys)
              ∙ ap (λ v. option_or v (lookup k ys)) (sym (lookup_later x xs k (omega arith) ∙ none))
          | inr gt ↦
              given_after k x ys rest gt
              ∙ value_of_first (x.0 + 1) k xs over s.1
              ∙ ap (λ v. option_or (lookup k xs) v) (value_over k x.0 ys gt)
              ∙ ap (λ v. option_or v (lookup k ys)) (sym (lookup_later x xs k (omega arith)))
        ]
      ]

  map_of_keys : (es xs ys : List (ℕ × V)) → keys_of es ≡ union (keys_of xs) (keys_of ys) → IsMap xs → IsMap ys → IsMap es
  map_of_keys es xs ys is s t =
      entries_rise 0 es (omega arith) (rw is (union_ascends 0 (keys_of xs) (keys_of ys) (keys_ascend 0 xs s) (keys_ascend 0 ys t)))

  pub map_of_second : (xs ys : List (ℕ × V)) → IsMap xs → IsMap ys → IsMap (union_keeping_second xs ys)
  map_of_second xs ys = map_of_keys (union_keeping_second xs ys) xs ys (keys_of_second xs ys)

  pub map_of_first : (xs ys : List (ℕ × V)) → IsMap xs → IsMap ys → IsMap (union_keeping_first xs ys)
  map_of_first xs ys = map_of_keys (union_keeping_first xs ys) xs ys (keys_of_first xs ys)

  pub exchanged : (xs ys : List (ℕ × V)) → IsMap xs → IsMap ys → union_keeping_first xs ys ≡ union_keeping_second ys xs
  exchanged xs ys s t =
      same_entries 0 (2 ^ 32) (union_keeping_first xs ys) (union_keeping_second ys xs) (map_of_first xs ys s t) (map_of_second ys xs t s)
      (λ k. value_of_first 0 k xs ys s ∙ sym (value_of_second k ys xs))
