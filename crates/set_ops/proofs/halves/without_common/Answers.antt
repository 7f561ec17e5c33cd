-- Proofs of `without_common`, src/halves.rt.
use Rattle.std.proofs.Common.{◌≡◌, ℕ, ℤ, pos, to_z, of_z, w64, ◌+◌, ◌<◌, inl, inr, List, [], ◌∷◌, ◌++◌, length, drop, get_or, refl, sym, ◌∙◌, ap, append_assoc, length-append, arith, rules}
use Rattle.std.specs.List.{Contains, zip}
use Rattle.std.specs.Map.{keys_of}
use Rattle.std.proofs.lemmas.Bool.{cases_Bool, false≢true}
use Rattle.std.proofs.lemmas.List.{drop_more}
use Rattle.ascending_lists.specs.Sets.{has}
use Rattle.ascending_lists.specs.MapOperations.{without_keys}
use Rattle.ascending_lists.proofs.Membership.{has_if, has_only}
use Rattle.tail_codec.proofs.Columns.{zip_append}
use Rattle.tail_codec.proofs.Writing.{key_of, length_keys}
use Rattle.set_ops.proofs.halves.without_common.Goals as goal
use Rattle.set_ops.proofs.halves.without_common.Goals.{then-not-contains+in_ok-push+in_ok-push-2, else-not-contains}

kept : (e : ℕ × ℤ) (es : List (ℕ × ℤ)) (ks : List ℕ) → (Contains ks e.0 → ⊥) → without_keys (e ∷ es) ks ≡ e ∷ without_keys es ks
kept e es ks out = elim (cases_Bool (has e.0 ks)) [ inl h ↦ absurd (out (has_only e.0 ks h)) | inr h ↦ rw h refl ]

left_out : (e : ℕ × ℤ) (es : List (ℕ × ℤ)) (ks : List ℕ) → Contains ks e.0 → without_keys (e ∷ es) ks ≡ without_keys es ks
left_out e es ks there = rw (has_if e.0 ks there) refl

-- one entry more stands in the columns
pushed : (keys : List ℕ) (weights : List ℤ) (e : ℕ × ℤ) (rest : List (ℕ × ℤ)) → length weights ≡ length keys → zip (keys ++ e.0 ∷ []) (weights ++ e.1 ∷ []) ++ rest ≡ zip keys weights ++ e ∷ rest
pushed keys weights e rest same = ap (λ v. v ++ rest) (zip_append keys (e.0 ∷ []) weights (e.1 ∷ []) same) ∙ append_assoc (zip keys weights) (e ∷ []) rest

pub loop-position-preserved : goal.loop-position-preserved
loop-position-preserved c =
    let l = c.loop-position in
    let es = c.args.first.now in
    let ks = keys_of c.args.second.now.entries in
    let first_keys = c.keys-first_keys.result.now in
    let e = get_or es l.position (0, pos 0) in
    let rest = drop (l.position + 1) es in
    let within : l.position < length es = omega (arith, c.loop-position-test.true, ap length c.keys-first_keys.ensures, length_keys es) in
    let key : get_or first_keys l.position 0 ≡ e.0 = ap (λ v. get_or v l.position 0) c.keys-first_keys.ensures ∙ key_of l.position es within in
    let on : zip l.keys.items l.weights.items ++ without_keys (e ∷ rest) ks ≡ without_keys es ks =
    ap (λ v. zip l.keys.items l.weights.items ++ without_keys v ks) (sym (drop_more es l.position (0, pos 0) within)) ∙ l.invariant.whole in
    elim c.if-not-contains.branch [
      | then-not-contains+in_ok-push+in_ok-push-2 w ↦
          let out : Contains ks e.0 → ⊥ = λ there. absurd (false≢true (sym w.if-not-contains.true ∙ c.contains.ensures.1 (rw key there))) in
          let keys : w.push.new.self.items ≡ l.keys.items ++ e.0 ∷ [] = w.in_ok-push.ensures.items ∙ ap (λ (k : ℕ). l.keys.items ++ k ∷ []) key in
          let round : to_z w64 (of_z w64 w.weight.result) ≡ w.weight.result = search rules in
          let weights : w.push-then-not-contains.new.self.items ≡ l.weights.items ++ e.1 ∷ [] = w.in_ok-push-2.ensures.items ∙ ap (λ v. l.weights.items ++ v ∷ []) (round ∙ w.weight.ensures) in
          rw (w.keys-is, w.weights-is) (rw (keys, weights) (record {
            columns = omega (arith, length-append l.keys.items (e.0 ∷ []), length-append l.weights.items (e.1 ∷ []), l.invariant.columns);
            whole = pushed l.keys.items l.weights.items e (without_keys rest ks) l.invariant.columns ∙ ap (λ v. zip l.keys.items l.weights.items ++ v) (sym (kept e rest ks out)) ∙ on;
          }))
      | else-not-contains w ↦
          let there : Contains ks e.0 = rw key at (c.contains.ensures.0 w.if-not-contains.false) in
          rw (w.keys-is, w.weights-is) (record {
            columns = l.invariant.columns;
            whole = ap (λ v. zip l.keys.items l.weights.items ++ v) (sym (left_out e rest ks there)) ∙ on;
          })
    ]
