-- Updates and their weights that are taken apart one by one.
use Rattle.std.proofs.Common.{◌≡◌, ℕ, ◌+◌, ◌<◌, ℤ, List, [], ◌∷◌, ◌++◌, length, get_or, take, refl, sym, ap, ◌∙◌, arith}
use Rattle.std.proofs.lemmas.List.{take_more, map-append, length-append}
use Rattle.edge_updates.specs.declared.edge_update.EdgeUpdate.{EdgeUpdate}
use Rattle.edge_updates.specs.Weighted.{weighted}
use Rattle.edge_updates.specs.declared.weighted_update.WeightedUpdate.{WeightedUpdate}
use Rattle.edge_updates.specs.WeightedUpdates.{pairs_in}

pushed : (us : List EdgeUpdate) (ws : List ℤ) (u : EdgeUpdate) (w : ℤ) → length us ≡ length ws → weighted (us ++ u ∷ []) (ws ++ w ∷ []) ≡ weighted us ws ++ (u, w) ∷ []
pushed [] [] u w same = refl
pushed [] (x ∷ ws) u w same = absurd (omega (arith, same))
pushed (v ∷ us) [] u w same = absurd (omega (arith, same))
pushed (v ∷ us) (x ∷ ws) u w same = ap (λ ps. (v, x) ∷ ps) (pushed us ws u w (omega (arith, same)))

-- one more pair
pub columns_more : (ps : List WeightedUpdate) (i : ℕ) (d : WeightedUpdate) (us : List EdgeUpdate) (ws : List ℤ) (w : ℤ) → i < length ps → w ≡ (get_or ps i d).weight
    → weighted us ws ≡ pairs_in (take i ps) → length us ≡ length ws → weighted (us ++ (get_or ps i d).update ∷ []) (ws ++ w ∷ []) ≡ pairs_in (take (i + 1) ps)
columns_more ps i d us ws w lt is so_far len =
    let p = get_or ps i d in
    pushed us ws p.update w len
    ∙ ap (λ qs. qs ++ (p.update, w) ∷ []) so_far
    ∙ ap (λ (z : ℤ). pairs_in (take i ps) ++ (p.update, z) ∷ []) is
    ∙ sym (map-append (λ (q : WeightedUpdate). (q.update, q.weight)) (take i ps) (p ∷ []))
    ∙ ap pairs_in (sym (take_more ps i d lt))

pub longer : (us vs : List EdgeUpdate) (ws zs : List ℤ) (u : EdgeUpdate) (w : ℤ) → vs ≡ us ++ u ∷ [] → zs ≡ ws ++ w ∷ [] → length us ≡ length ws → length vs ≡ length zs
longer us vs ws zs u w more most len = ap length more ∙ length-append us (u ∷ []) ∙ ap (λ n. n + 1) len ∙ sym (length-append ws (w ∷ [])) ∙ sym (ap length most)
