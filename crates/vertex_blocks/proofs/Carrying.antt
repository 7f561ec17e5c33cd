-- Blocks that are built up vertex by vertex.
use Rattle.std.proofs.Common.{◌≡◌, ℕ, ℤ, ◌+◌, ◌<◌, ◌≤◌, ◌⊎◌, nat_lt, inl, inr, if◌then◌else◌, List, [], ◌++◌, slice_range, refl, sym, ◌∙◌, ap, subst, arith, add-one}
use Rattle.std.proofs.lemmas.Bool.{cases_lt, lt-ltb, le-ltb}
use Rattle.std.proofs.lemmas.List.{append-nil}
use Rattle.ascending_lists.specs.Maps.{Rises}
use Rattle.pages.specs.Vertices.{neighbours_of, count_below}
use Rattle.pages.specs.inside.Built.{entry_of, built}
use Rattle.ascending_lists.proofs.MapOrder.{rises_to}
use Rattle.pages.proofs.Building.{HaveNeighbours, packed_some, rises_built, neighbours_built, built_same, carried}
use Rattle.vertex_blocks.specs.Blocks.{Block, IsBlock}
use Rattle.vertex_blocks.specs.inside.Joined.{IsMadeOf}
use Rattle.vertex_blocks.specs.inside.Steps.{IsBuilt, IsPut}
use Rattle.vertex_blocks.proofs.Sums.{lists_some}

-- lists of one function below a number, and of another from it on
abbrev pub up_to : ℕ → (ℕ → List (ℕ × ℤ)) → (ℕ → List (ℕ × ℤ)) → ℕ → List (ℕ × ℤ)
up_to low f g u = if nat_lt u low then f u else g u

module _ (low : ℕ) (f g : ℕ → List (ℕ × ℤ)) where
  before : (u : ℕ) → u < low → up_to low f g u ≡ f u
  before u lt = rw (lt-ltb u low lt) refl

  behind : (u : ℕ) → low ≤ u → up_to low f g u ≡ g u
  behind u le = rw (le-ltb u low le) refl

  built_before : built (up_to low f g) low ≡ built f low
  built_before = built_same (up_to low f g) f low before

-- lists of old vertices come after others
module _ (es : Block) (map : Rises 0 64 es) (some_each : HaveNeighbours es) (f : ℕ → List (ℕ × ℤ)) (low high : ℕ) (p : Block) (le : low ≤ high) (is : p ≡ built f low) where
  pub carried_after : p ++ slice_range es (count_below low es) (count_below high es) ≡ built (up_to low f (λ u. neighbours_of u es)) high
  carried_after =
      let g : ℕ → List (ℕ × ℤ) = up_to low f (λ u. neighbours_of u es) in
      ap (λ l. l ++ slice_range es (count_below low es) (count_below high es)) (is ∙ sym (built_before low f (λ u. neighbours_of u es)))
      ∙ carried es map some_each g low high le (λ u ge lt. behind low f (λ v. neighbours_of v es) u ge)

  pub carried_rise : high ≤ 64 → Rises 0 64 (p ++ slice_range es (count_below low es) (count_below high es))
  carried_rise within =
      rises_to 0 high 64 (p ++ slice_range es (count_below low es) (count_below high es))
      (subst (Rises 0 high) (sym carried_after) (rises_built (up_to low f (λ u. neighbours_of u es)) high)) within

module _ (f : ℕ → List (ℕ × ℤ)) where
  pub built_none : IsBuilt f 0 [] []
  built_none = record { small = λ u. []; large = λ u. []; page = refl; long = refl; lists = λ u lt. absurd (omega arith); apart = λ u lt. absurd (omega arith) }

  pub built_rises : (low : ℕ) (p s : Block) → IsBuilt f low p s → Rises 0 low p × Rises 0 low s
  built_rises low p s ok = (subst (Rises 0 low) (sym ok.page) (rises_built ok.small low), subst (Rises 0 low) (sym ok.long) (rises_built ok.large low))

  -- what was built up has the lists, each once
  pub built_lists : (top : ℕ) (p s : Block) → IsBuilt f top p s → (u : ℕ) → u < top → neighbours_of u p ++ neighbours_of u s ≡ f u
  built_lists top p s ok u lt =
      rw (ap (neighbours_of u) ok.page ∙ neighbours_built ok.small u top lt, ap (neighbours_of u) ok.long ∙ neighbours_built ok.large u top lt) (ok.lists u lt)

  pub built_apart : (top : ℕ) (p s : Block) → IsBuilt f top p s → (u : ℕ) → u < top → (neighbours_of u p ≡ []) ⊎ (neighbours_of u s ≡ [])
  built_apart top p s ok u lt = elim (ok.apart u lt) [
    | inl none ↦ inl (ap (neighbours_of u) ok.page ∙ neighbours_built ok.small u top lt ∙ none)
    | inr none ↦ inr (ap (neighbours_of u) ok.long ∙ neighbours_built ok.large u top lt ∙ none)
  ]

  -- vertices whose lists are as they were
  pub built_carried : (low high : ℕ) (p s b p' s' : Block) → IsMadeOf b p' s' → low ≤ high → high ≤ 64 → ((u : ℕ) → low ≤ u → u < high → f u ≡ neighbours_of u b) → IsBuilt f low p s
      → IsBuilt f high (p ++ slice_range p' (count_below low p') (count_below high p')) (s ++ slice_range s' (count_below low s') (count_below high s'))
  built_carried low high p s b p' s' made le within same ok =
      let old : ℕ → List (ℕ × ℤ) = λ u. neighbours_of u p' in
      let old_large : ℕ → List (ℕ × ℤ) = λ u. neighbours_of u s' in
      record {
        small = up_to low ok.small old;
        large = up_to low ok.large old_large;
        page = carried_after p' made.page.map (packed_some p' made.page.packed) ok.small low high p le ok.page;
        long = carried_after s' made.long.map (lists_some s' made.long.lists) ok.large low high s le ok.long;
        lists = λ u lt. elim (cases_lt u low) [
          | inl under ↦ rw (before low ok.small old u under, before low ok.large old_large u under) (ok.lists u under)
          | inr over ↦ rw (behind low ok.small old u over, behind low ok.large old_large u over) (sym (made.lists u (omega (arith, lt))) ∙ sym (same u over lt))
        ];
        apart = λ u lt. elim (cases_lt u low) [
          | inl under ↦ rw (before low ok.small old u under, before low ok.large old_large u under) (ok.apart u under)
          | inr over ↦ rw (behind low ok.small old u over, behind low ok.large old_large u over) (made.apart u (omega (arith, lt)))
        ];
      }

  -- the next vertex with its list
  pub built_put : (v : ℕ) (xs : List (ℕ × ℤ)) (p s p' s' : Block) → IsBuilt f v p s → IsPut v xs p s p' s' → xs ≡ f v → IsBuilt f (v + 1) p' s'
  built_put v xs p s p' s' ok put is =
      let none : ℕ → List (ℕ × ℤ) = λ u. put.small in
      let none_large : ℕ → List (ℕ × ℤ) = λ u. put.large in
      record {
        small = up_to v ok.small none;
        large = up_to v ok.large none_large;
        page = next ok.small put.small p p' ok.page put.page;
        long = next ok.large put.large s s' ok.long put.long;
        lists = λ u lt. elim (cases_lt u v) [
          | inl under ↦ rw (before v ok.small none u under, before v ok.large none_large u under) (ok.lists u under)
          | inr over ↦ rw (behind v ok.small none u over, behind v ok.large none_large u over) (put.list ∙ is ∙ ap f (omega (arith, lt, over)))
        ];
        apart = λ u lt. elim (cases_lt u v) [
          | inl under ↦ rw (before v ok.small none u under, before v ok.large none_large u under) (ok.apart u under)
          | inr over ↦ rw (behind v ok.small none u over, behind v ok.large none_large u over) put.apart
        ];
      }
    where
      next : (g : ℕ → List (ℕ × ℤ)) (x : List (ℕ × ℤ)) (q q' : Block) → q ≡ built g v → q' ≡ q ++ entry_of v x → q' ≡ built (up_to v g (λ u. x)) (v + 1)
      next g x q q' was becomes =
          becomes ∙ ap (λ l. l ++ entry_of v x) (was ∙ sym (built_before v g (λ u. x)))
          ∙ ap (λ l. built (up_to v g (λ u. x)) v ++ entry_of v l) (sym (behind v g (λ u. x) v (omega arith)))
          ∙ ap (built (up_to v g (λ u. x))) (sym (add-one v))

  -- nothing comes of no block
  pub built_nothing : (low high : ℕ) (p s : Block) → low ≤ high → high ≤ 64 → ((u : ℕ) → low ≤ u → u < high → f u ≡ []) → IsBuilt f low p s → IsBuilt f high p s
  built_nothing low high p s le within none ok =
      subst (λ q. IsBuilt f high q s) (append-nil p) (subst (IsBuilt f high (p ++ [])) (append-nil s) (built_carried low high p s [] [] [] made_nothing le within none ok))
    where
      made_nothing : IsMadeOf [] [] []
      made_nothing =
          let block : IsBlock [] = record { map = omega arith; lists = tt } in
          record { lists = λ u lt. refl; block = block; page = record { map = omega arith; packed = tt }; long = block; apart = λ u lt. inl refl }
