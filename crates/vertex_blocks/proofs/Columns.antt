-- Lists in columns: whole ones, and fronts that are filled.
use Rattle.std.proofs.Common.{◌≡◌, ℕ, ℤ, pos, ◌-◌, ◌≤◌, List, [], ◌∷◌, ◌++◌, replicate, length, take, drop, None, refl, sym, ◌∙◌, ap, arith}
use Rattle.std.specs.List.{zip}
use Rattle.std.proofs.lemmas.List.{take-append-le, drop-append-le, take-append-drop, length-take-le, length-take}
use Rattle.edge_updates.specs.Weighted.{weighted}
use Rattle.tail_codec.specs.Columns.{entries_in}
use Rattle.pages.specs.inside.Weights.{column_of}
use Rattle.pages.proofs.Weighing.{column_length, weighted_column, padded}

-- one meaning of a list without a column of weights, and of one with as many as there are keys
pub no_column : (keys : List ℕ) → entries_in keys None ≡ weighted keys []
no_column [] = refl
no_column (k ∷ ks) = ap (λ es. (k, pos 1) ∷ es) (no_column ks)

pub zip_weighted : (keys : List ℕ) (ws : List ℤ) → length ws ≡ length keys → zip keys ws ≡ weighted keys ws
zip_weighted [] ws same = refl
zip_weighted (k ∷ ks) [] same = absurd (omega (arith, same))
zip_weighted (k ∷ ks) (w ∷ ws) same = ap (λ es. (k, w) ∷ es) (zip_weighted ks ws (omega (arith, same)))

-- a column that is filled up with 1s
module _ (n m : ℕ) (keys : List ℕ) (ws column : List ℤ) (is : column ≡ take n ws ++ replicate (n - m) (pos 1)) (long : n ≡ length keys) (had : m ≡ length ws) where
  column_is : column ≡ column_of n ws
  column_is =
      let same : n - m ≡ n - length (take n ws) = omega (arith, had, length-take n ws) in
      is ∙ ap (λ k. take n ws ++ replicate k (pos 1)) same ∙ padded n ws

  pub whole_length : length column ≡ length keys
  whole_length = ap length column_is ∙ column_length n ws ∙ long

  pub whole_column : zip keys column ≡ weighted keys ws
  whole_column = zip_weighted keys column whole_length ∙ ap (weighted keys) column_is ∙ weighted_column n keys ws long

-- a part at the front of a block that was filled
module _ {X : Type 0} (block part : List X) (room n : ℕ) (within : room ≤ length block) (long : length part ≡ room) (le : n ≤ room) where
  pub filled_front : (xs : List X) → take n part ≡ take n xs → take n (part ++ drop room block) ≡ take n xs
  filled_front xs is = take-append-le n part (drop room block) (omega (arith, le, long)) ∙ is

  pub kept_back : drop n part ≡ drop n (take room block) → drop n (part ++ drop room block) ≡ drop n block
  kept_back is =
      drop-append-le n part (drop room block) (omega (arith, le, long)) ∙ ap (λ xs. xs ++ drop room block) is
      ∙ sym (drop-append-le n (take room block) (drop room block) (omega (arith, le, length-take-le room block within))) ∙ ap (drop n) (take-append-drop room block)
