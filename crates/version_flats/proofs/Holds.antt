-- A hold lets no version go.
use Rattle.std.proofs.Common.{◌≡◌, ℕ, ◌==◌, ◌≤◌, true, Option, Some, None, Err, List, [], ◌∷◌, ◌++◌, inl, inr, refl, sym, ap, ◌∙◌, subst, arith}
use Rattle.std.proofs.lemmas.Bool.{false≢true, or_cases, or_left, or_right}
use Rattle.std.specs.List.{list_any}
use Rattle.std.specs.Option.{IfSome}
use Rattle.tree_batch.specs.Digraph.{Digraph}
use Rattle.version_list.specs.declared.step.Which.{Which}
use Rattle.version_list.specs.declared.step.Step.TheVariants.{Acquire}
use Rattle.version_list.specs.declared.step.Reply.TheVariants.{Ticket}
use Rattle.version_list.specs.declared.error.VersionError.{VersionError}
use Rattle.version_list.specs.declared.error.VersionError.TheVariants.{VertexRange, BadChunkSize, NotKept, NotHeld, HistoryFull, NoMemory}
use Rattle.version_list.specs.Machine.{OpenTicket, State, changed, is_kept, newest_number, version_graph}
use Rattle.version_list.specs.Timeline.{Timeline, Accepts}
use Rattle.version_list.specs.Prepared.{Prepares, IsPreparedAcquire}
use Rattle.version_flats.specs.declared.version_flats.VersionFlat.{VersionFlat}
use Rattle.version_flats.specs.declared.version_flats.VersionFlats.{VersionFlats}
use Rattle.version_flats.specs.VersionFlats.{flat_of, AreOf, IsKept, IsMade}

-- a hold that is not prepared changes nothing
pub hold_refused : (old new : Timeline) (which : Which) (e : VersionError) → Prepares old (Acquire which) 2 (λ t p. IsPreparedAcquire t which p) (Err e) new → new ≡ old
hold_refused old new which VertexRange p = p.unchanged
hold_refused old new which BadChunkSize p = p.unchanged
hold_refused old new which NotKept p = p.unchanged
hold_refused old new which NotHeld p = p.unchanged
hold_refused old new which HistoryFull p = p.unchanged
hold_refused old new which NoMemory p = p.1

-- a version that a ticket holds is held beside one ticket more
any_more : (ts : List OpenTicket) (x : OpenTicket) (k : ℕ) → list_any (λ t. t.version == k) ts ≡ true → list_any (λ t. t.version == k) (ts ++ x ∷ []) ≡ true
any_more [] x k is = absurd (false≢true is)
any_more (t ∷ ts) x k is = elim (or_cases (t.version == k) (list_any (λ t. t.version == k) ts) is) [
  | inl here ↦ or_left _ _ here
  | inr later ↦ or_right _ _ (any_more ts x k later)
]

-- the last flat is that of a version that was made still
pub still_made : (s t : State) (o : Option VersionFlat) → newest_number s ≤ newest_number t → ((k : ℕ) → k ≤ newest_number s → version_graph t k ≡ version_graph s k)
    → IfSome o (λ l. IsMade s l.version l.flat.value) → IfSome o (λ l. IsMade t l.version l.flat.value)
still_made s t None more same made = tt
still_made s t (Some l) more same is = record { made = omega (arith, is.made, more); graph = is.graph ∙ sym (same l.version is.made) }

-- after a hold each flat is that of a version that is kept
pub hold_keeps : (old new : Timeline) (which : Which) (number version : ℕ) (flats : VersionFlats) → Accepts old (Acquire which) (Ticket number version) new → AreOf old.state flats
    → AreOf new.state flats
hold_keeps old new which number version flats accepted are =
    let s : State = old.state in
    let x : OpenTicket = record { number = number; version = version } in
    let after : State = changed s (Acquire which) (Ticket number version) in
    let now : new.state ≡ after = accepted.state ∙ ap (changed s (Acquire which)) accepted.is_answer in
    let kept : (k : ℕ) (g : Digraph) → flat_of flats k ≡ Some g → IsKept after k g = λ k g is.
    let was : IsKept s k g = are.kept k g is in
    let held : is_kept after k ≡ true = elim (or_cases (k == newest_number s) (list_any (λ t. t.version == k) s.open_tickets) was.kept) [
      | inl newest ↦ or_left _ _ newest
      | inr held ↦ or_right _ _ (any_more s.open_tickets x k held)
    ] in
    record { kept = held; made = was.made; graph = was.graph } in
    let last = still_made s after flats.last (omega arith) (λ k made. refl) are.last in
    subst (λ (t : State). AreOf t flats) (sym now) (record { kept = kept; last = last })
