-- Proofs of `read_number`, src/reading.rt.
use Rattle.std.proofs.Common.{◌≡◌, ℕ, ◌+◌, ◌-◌, ◌*◌, ◌^◌, ◌<◌, ◌≤◌, ◌⊎◌, inl, inr, List, [], ◌∷◌, length, refl, sym, ◌∙◌, ap, subst, arith, rules}
use Rattle.std.proofs.Math.Nat.{mul-le-mul_left}
use Rattle.tail_codec.proofs.Continuing.{Continues, Ends, continues_end, continued_end, continues, continued, continues_room, continues_none}
use Rattle.tail_codec.proofs.reading.read_number.Goals as goal
use Rattle.tail_codec.proofs.reading.read_number.Goals.{else-place-gt1-via-then-place-gt1+else-byte-eq0, else-place-gt1-via-else-place-gt1}

-- a number that ends at this byte
ends : (number place b : ℕ) (left more : List ℕ) (k : ℕ) (rest : List ℕ) → left ≡ b ∷ more → b < 128 → Continues number place k rest left → Ends number place b k rest more
ends number place b left more k rest cut lt c = continues_end number place b k rest more lt (rw cut at c)

not_first : (place b : ℕ) → 1 < place → b ≡ 0 → (place ≡ 1) ⊎ (0 < b) → ⊥
not_first place b gt is (inl one) = omega arith
not_first place b gt is (inr some) = omega arith

no_bytes : (bytes : List ℕ) → length bytes ≡ 0 → bytes ≡ []
no_bytes [] is = refl
no_bytes (b ∷ bytes) is = absurd (omega (arith, is))

above_none : (b n : ℕ) → n ≡ b → (n ≡ 0 → ⊥) → 0 < b
above_none b n is other = omega arith

pub returns-then-byte-eq0 : goal.returns-then-byte-eq0
returns-then-byte-eq0 c = λ k rest begins.
    let l = c.loop-byte in
    let b = c.in-Some.byte.now in
    let cut : l.rest.now ≡ b ∷ c.in-Some.more.now = search rules in
    let e = ends l.number l.place b l.rest.now c.in-Some.more.now k rest cut (omega (arith, c.from-byte.ensures, c.if-byte-lt128.true)) (l.invariant.back k rest begins) in
    not_first l.place b c.if-place-gt1.true (omega (arith, c.from-byte.ensures, c.if-byte-eq0.true)) e.shortest

pub returns-in_default-checked_mul : goal.returns-in_default-checked_mul
returns-in_default-checked_mul c = λ k rest begins.
    let l = c.loop-byte in
    let b = c.in-Some.byte.now in
    let cut : l.rest.now ≡ b ∷ c.in-Some.more.now = search rules in
    let e = ends l.number l.place b l.rest.now c.in-Some.more.now k rest cut (omega (arith, c.from-byte.ensures, c.if-byte-lt128.true)) (l.invariant.back k rest begins) in
    let fits : l.place * c.from-byte.result < 2 ^ 64 = rw c.from-byte.ensures (omega (arith, e.fits)) in
    c.in_default-checked_mul.ensures fits

pub returns-in_default-checked_add : goal.returns-in_default-checked_add
returns-in_default-checked_add c = λ k rest begins.
    let l = c.loop-byte in
    let b = c.in-Some.byte.now in
    let cut : l.rest.now ≡ b ∷ c.in-Some.more.now = search rules in
    let e = ends l.number l.place b l.rest.now c.in-Some.more.now k rest cut (omega (arith, c.from-byte.ensures, c.if-byte-lt128.true)) (l.invariant.back k rest begins) in
    let last = c.in-Some-checked_mul.ensures.1 in
    let fits : l.number + c.in-Some-checked_mul.last < 2 ^ 64 = rw (last, c.from-byte.ensures) e.fits in
    c.in_default-checked_add.ensures fits

pub returns-in_default-checked_mul-2 : goal.returns-in_default-checked_mul-2
returns-in_default-checked_mul-2 c = λ k rest begins.
    let l = c.loop-byte in
    let b = c.in-Some.byte.now in
    let cut : l.rest.now ≡ b ∷ c.in-Some.more.now = search rules in
    let room = continues_room l.number l.place b k rest c.in-Some.more.now (omega (arith, c.from-byte.ensures, c.if-byte-lt128.false)) (rw cut at (l.invariant.back k rest begins)) in
    c.in_default-checked_mul-2.ensures room

pub returns-then-byte-lt128 : goal.returns-then-byte-lt128
returns-then-byte-lt128 c =
    let l = c.loop-byte in
    let b = c.in-Some.byte.now in
    let more = c.in-Some.more.now in
    let cut : l.rest.now ≡ b ∷ more = search rules in
    let last : c.in-Some-checked_mul.last ≡ l.place * b = c.in-Some-checked_mul.ensures.1 ∙ ap (λ (n : ℕ). l.place * n) c.from-byte.ensures in
    let whole : c.in-Some-checked_add.number ≡ l.number + l.place * b = c.in-Some-checked_add.ensures.1 ∙ ap (λ (n : ℕ). l.number + n) last in
    let fits : l.number + l.place * b < 2 ^ 64 = rw last at c.in-Some-checked_add.ensures.0 in
    let shortest : (l.place ≡ 1) ⊎ (0 < b) = elim c.else-place-gt1.branch [
      | else-place-gt1-via-then-place-gt1+else-byte-eq0 w ↦ inr (above_none b c.from-byte.result c.from-byte.ensures w.if-byte-eq0.false)
      | else-place-gt1-via-else-place-gt1 w ↦ inl (omega (arith, w.if-place-gt1.false, l.invariant.some))
    ] in
    let lt : b < 128 = omega (arith, c.from-byte.ensures, c.if-byte-lt128.true) in
    rw whole (l.invariant.on (l.number + l.place * b) more (subst (Continues l.number l.place (l.number + l.place * b) more) (sym cut) (continued_end l.number l.place b more lt shortest fits)))

pub loop-byte-preserved : goal.loop-byte-preserved
loop-byte-preserved c =
    let l = c.loop-byte in
    let b = c.in-Some.byte.now in
    let more = c.in-Some.more.now in
    let cut : l.rest.now ≡ b ∷ more = search rules in
    let ge : 128 ≤ b = omega (arith, c.from-byte.ensures, c.if-byte-lt128.false) in
    let small : b < 256 = search rules in
    let next = c.in-Some-checked_mul-2.ensures.1 in
    let least : l.place * (b - 128) ≤ l.place * 127 = mul-le-mul_left l.place (omega (arith, small)) in
    rw (next, c.from-byte.ensures) (record {
      some = omega (arith, l.invariant.some);
      below = omega (arith, l.invariant.below, least);
      back = λ k rest begins. continues l.number l.place b k rest more ge (rw cut at (l.invariant.back k rest begins));
      on = λ k rest goes. l.invariant.on k rest (subst (Continues l.number l.place k rest) (sym cut) (continued l.number l.place b k rest more ge small goes));
    })

pub returns : goal.returns
returns c = λ k rest begins.
    let l = c.loop-byte in
    let nothing : l.rest.now ≡ [] = no_bytes l.rest.now c.in_default.ensures.cases in
    continues_none l.number l.place k rest (rw nothing at (l.invariant.back k rest begins))
