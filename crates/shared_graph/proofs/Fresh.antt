-- Readers that have shown nothing, with the last of them apart.
use Rattle.std.proofs.Common.{◌≡◌, ℕ, zero, suc, ◌-◌, ◌<◌, List, [], ◌∷◌, ◌++◌, ap, ap₂, ◌∙◌, arith}
use Rattle.shared_graph.specs.Histories.{ReaderState, fresh_reader, fresh_readers}

pub with_last : (n : ℕ) (others : List ReaderState) (last : ReaderState) → 0 < n → others ≡ fresh_readers (n - 1) → last ≡ fresh_reader (n - 1) → others ++ last ∷ [] ≡ fresh_readers n
with_last zero others last some are is = absurd (omega (arith, some))
with_last (suc n) others last some are is =
    let at : suc n - 1 ≡ n = omega arith in
    ap₂ (λ xs x. xs ++ x ∷ []) (are ∙ ap fresh_readers at) (is ∙ ap fresh_reader at)
