-- Texts that are sent one after another.
use Rattle.std.proofs.Common.{◌≡◌, ℕ, List, [], ◌∷◌, ◌++◌, ◌+◌, ◌<◌, length, get_or, take, drop, Result, Ok, Err, IfErr, refl, sym, ap, ◌∙◌, subst, append_assoc, append-nil, arith}
use Rattle.std.proofs.lemmas.List.{take-append-drop, drop_more, take_more}
use Rattle.std.proofs.lemmas.Grind.{flat_map-append}
use Rattle.std.specs.List.{flat_map}
use Rattle.std.specs.Result.{IsErrAnd}
use Rattle.std.proofs.lemmas.Result.{err_from_is_err_and}
use Rattle.devices.specs.Devices.{TakesPart}
use Rattle.replies.specs.declared.send_error.SendError.{SendError}
use Rattle.replies.specs.declared.send_error.SendError.TheVariants.{NoMemory, WriteFailed}
use Rattle.replies.specs.Sending.{Output, TakesFirst, Sends, SendsPart, Fails, Emits}

-- a call that sends a text, where the text is known otherwise
pub emits_as : {A : Type 0} (a b : Output) (t u : List ℕ) (r : Result A SendError) → Emits a b t r → u ≡ t → Emits a b u r
emits_as a b t u r emits is = subst (λ text. Emits a b text r) (sym is) emits

-- a call that failed
pub emits_failed : {A : Type 0} (a b : Output) (t : List ℕ) (r : Result A SendError) (e : SendError) → IsErrAnd r (λ d. d ≡ e) → Fails a b t e → Emits a b t r
emits_failed a b t r e is fails = let p = err_from_is_err_and r is in rw (p.1, p.2) fails

-- nothing is sent
pub sends_none : (o : Output) → Sends o o []
sends_none o = record {
  takes = record { same = refl; sent = []; bytes_written = sym (append-nil o.bytes_written); whole = sym (append-nil o.kept) };
  failures = refl;
}

-- what one call and then another took of their texts is of both texts together
takes_then : (a b c : Output) (t u rest : List ℕ) → Sends a b t → TakesFirst b c u rest → TakesFirst a c (t ++ u) rest
takes_then a b c t u rest one other = record {
  same = other.same ∙ one.takes.same;
  sent = one.takes.sent ++ other.sent;
  bytes_written = other.bytes_written ∙ ap (λ xs. xs ++ other.sent) one.takes.bytes_written ∙ append_assoc a.bytes_written one.takes.sent other.sent;
  whole =
      append_assoc one.takes.sent other.sent rest ∙ ap (λ xs. one.takes.sent ++ xs) other.whole ∙ sym (append_assoc one.takes.sent b.kept u)
      ∙ ap (λ xs. xs ++ u) one.takes.whole ∙ append_assoc a.kept t u;
}

-- two texts are sent
pub sends_then : (a b c : Output) (t u : List ℕ) → Sends a b t → Sends b c u → Sends a c (t ++ u)
sends_then a b c t u one other = record { takes = takes_then a b c t u c.kept one other.takes; failures = other.failures ∙ one.failures }

-- a text is sent, and a part of another
pub part_then : (a b c : Output) (t u : List ℕ) → Sends a b t → SendsPart b c u → SendsPart a c (t ++ u)
part_then a b c t u one other = (other.0, takes_then a b c t u other.0 one other.1)

-- a part of a text is a part of a longer one
pub part_more : (a b : Output) (t u : List ℕ) → SendsPart a b t → SendsPart a b (t ++ u)
part_more a b t u part = (
  part.0 ++ u,
  record {
    same = part.1.same;
    sent = part.1.sent;
    bytes_written = part.1.bytes_written;
    whole = sym (append_assoc part.1.sent part.0 u) ∙ ap (λ xs. xs ++ u) part.1.whole ∙ append_assoc a.kept t u;
  },
)

-- what was sent before is a part, whatever is kept now
pub part_before : (a b c : Output) (t u : List ℕ) → Sends a b t → c.writer ≡ b.writer → c.bytes_written ≡ b.bytes_written → SendsPart a c (t ++ u)
part_before a b c t u one who same =
    part_more a c t u (b.kept, record { same = who ∙ one.takes.same; sent = one.takes.sent; bytes_written = same ∙ one.takes.bytes_written; whole = one.takes.whole })

-- a text was sent, and memory ran out over what comes after it
pub lacks_memory : (a b c : Output) (t u : List ℕ) → Sends a b t → c.writer ≡ b.writer → c.bytes_written ≡ b.bytes_written → c.failures ≡ b.failures → Fails a c (t ++ u) NoMemory
lacks_memory a b c t u one who same failures = (part_before a b c t u one who same, failures ∙ one.failures)

-- nothing is a part of each text
pub part_none : (o : Output) (t : List ℕ) → SendsPart o o t
part_none o t = part_before o o o [] t (sends_none o) refl refl

-- a call that sent nothing and lacked memory
pub emits_none : {A : Type 0} (o : Output) (t : List ℕ) (r : Result A SendError) → IsErrAnd r (λ d. d ≡ NoMemory) → Emits o o t r
emits_none o t r is = emits_failed o o t r NoMemory is (part_none o t, refl)

-- a call that sends nothing, and can only lack memory
pub emits_nothing : {A : Type 0} (o : Output) (r : Result A SendError) → IfErr r (λ e. e ≡ NoMemory) → Emits o o [] r
emits_nothing o (Ok x) is = sends_none o
emits_nothing o (Err e) is = rw is (part_none o [], refl)

-- a text, and then a call that fails
pub fails_then : (a b c : Output) (t u : List ℕ) (e : SendError) → Sends a b t → Fails b c u e → Fails a c (t ++ u) e
fails_then a b c t u NoMemory one other = (part_then a b c t u one other.0, other.1 ∙ one.failures)
fails_then a b c t u WriteFailed one other = (part_then a b c t u one other.0, omega (arith, one.failures, other.1))

-- a text, and then a call
pub emits_then : {A : Type 0} (a b c : Output) (t u : List ℕ) (r : Result A SendError) → Sends a b t → Emits b c u r → Emits a c (t ++ u) r
emits_then a b c t u (Ok x) one other = sends_then a b c t u one other
emits_then a b c t u (Err e) one other = fails_then a b c t u e one other

-- an error within a text is one within a longer text
pub fails_more : (a b : Output) (t u : List ℕ) (e : SendError) → Fails a b t e → Fails a b (t ++ u) e
fails_more a b t u NoMemory h = (part_more a b t u h.0, h.1)
fails_more a b t u WriteFailed h = (part_more a b t u h.0, h.1)

-- a write that failed took a part of what was kept
pub part_of_write : (a b : Output) → b.writer ≡ a.writer → TakesPart a.bytes_written b.bytes_written a.kept → SendsPart a b []
part_of_write a b same part = (
  drop part.count a.kept,
  record {
    same = same;
    sent = take part.count a.kept;
    bytes_written = part.bytes_written;
    whole = take-append-drop part.count a.kept ∙ sym (append-nil a.kept);
  },
)

-- where nothing was kept and nothing is, what was taken is the text
pub all_written : (a b : Output) (t : List ℕ) → a.kept ≡ [] → b.kept ≡ [] → Sends a b t → b.bytes_written ≡ a.bytes_written ++ t
all_written a b t before after sends =
    let sent : sends.takes.sent ≡ t =
    sym (append-nil sends.takes.sent) ∙ ap (λ xs. sends.takes.sent ++ xs) (sym after) ∙ sends.takes.whole ∙ ap (λ xs. xs ++ t) before in
    sends.takes.bytes_written ∙ ap (λ xs. a.bytes_written ++ xs) sent

-- what was kept is written, and then these bytes
pub sends_written : (a b c : Output) (bytes : List ℕ) → Sends a b [] → b.kept ≡ [] → c.writer ≡ b.writer → c.kept ≡ b.kept → c.bytes_written ≡ b.bytes_written ++ bytes → c.failures ≡ b.failures
    → Sends a c bytes
sends_written a b c bytes one none who kept bytes_written failures =
    let whole : bytes ++ c.kept ≡ b.kept ++ bytes = ap (λ xs. bytes ++ xs) (kept ∙ none) ∙ append-nil bytes ∙ ap (λ xs. xs ++ bytes) (sym none) in
    sends_then a b c [] bytes one (record { takes = record { same = who; sent = bytes; bytes_written = bytes_written; whole = whole }; failures = failures })

-- and the writer fails in these
pub fails_written : (a b c : Output) (bytes : List ℕ) → Sends a b [] → b.kept ≡ [] → c.writer ≡ b.writer → TakesPart b.bytes_written c.bytes_written bytes → b.failures < c.failures
    → Fails a c bytes WriteFailed
fails_written a b c bytes one none who part more =
    let whole : take part.count bytes ++ drop part.count bytes ≡ b.kept ++ bytes = take-append-drop part.count bytes ∙ ap (λ xs. xs ++ bytes) (sym none) in
    fails_then a b c [] bytes WriteFailed one ((drop part.count bytes, record { same = who; sent = take part.count bytes; bytes_written = part.bytes_written; whole = whole }), more)

-- a text that is known otherwise was sent, and a call sends another
pub emits_next : {A : Type 0} (a b c : Output) (t u told : List ℕ) (r : Result A SendError) → Sends a b told → told ≡ t → Emits b c u r → Emits a c (t ++ u) r
emits_next a b c t u told r one is other = emits_then a b c t u r (subst (Sends a b) is one) other

-- a call that was to send a text, which is known otherwise and more follows, and failed
pub emits_stopped : {A : Type 0} (a b : Output) (t u told : List ℕ) (r : Result A SendError) (e : SendError) → IsErrAnd r (λ d. d ≡ e) → told ≡ t → Fails a b told e → Emits a b (t ++ u) r
emits_stopped a b t u told r e fails is other = emits_failed a b (t ++ u) r e fails (fails_more a b t u e (subst (λ text. Fails a b text e) is other))

-- one more item
pub sends_item : {A : Type 0} (f : A → List ℕ) (a b c : Output) (t : List ℕ) (xs : List A) (x : A) → Sends a b (t ++ flat_map f xs) → Sends b c (f x) → Sends a c (t ++ flat_map f (xs ++ x ∷ []))
sends_item f a b c t xs x one other =
    let all : (t ++ flat_map f xs) ++ f x ≡ t ++ flat_map f (xs ++ x ∷ []) =
    append_assoc t (flat_map f xs) (f x) ∙ ap (λ us. t ++ (flat_map f xs ++ us)) (sym (append-nil (f x))) ∙ ap (λ us. t ++ us) (sym (flat_map-append f xs (x ∷ []))) in
    subst (Sends a c) all (sends_then a b c (t ++ flat_map f xs) (f x) one other)

-- an item that fails, before others
pub fails_item : {A : Type 0} (f : A → List ℕ) (a b c : Output) (t : List ℕ) (xs rest all : List A) (x : A) (error : SendError) → xs ++ x ∷ rest ≡ all → Sends a b (t ++ flat_map f xs)
    → Fails b c (f x) error → Fails a c (t ++ flat_map f all) error
fails_item {A} f a b c t xs rest all x error is one other =
    let whole : ((t ++ flat_map f xs) ++ f x) ++ flat_map f rest ≡ t ++ flat_map f all =
    append_assoc (t ++ flat_map f xs) (f x) (flat_map f rest) ∙ append_assoc t (flat_map f xs) (f x ++ flat_map f rest) ∙ ap (λ us. t ++ us) (sym (flat_map-append f xs (x ∷ rest)))
    ∙ ap (λ (ys : List A). t ++ flat_map f ys) is in
    subst (λ u. Fails a c u error) whole (fails_more a c ((t ++ flat_map f xs) ++ f x) (flat_map f rest) error (fails_then a b c (t ++ flat_map f xs) (f x) error one other))

-- the same of the items of a list up to an index
module _ {A : Type 0} (f : A → List ℕ) (a b c : Output) (xs : List A) (index : ℕ) (x none : A) (within : index < length xs) (is : x ≡ get_or xs index none) where
  split_at : take index xs ++ x ∷ drop (index + 1) xs ≡ xs
  split_at = ap (λ ys. take index xs ++ ys) (ap (λ y. y ∷ drop (index + 1) xs) is ∙ sym (drop_more xs index none within)) ∙ take-append-drop index xs

  pub sends_at : Sends a b (flat_map f (take index xs)) → Sends b c (f x) → Sends a c (flat_map f (take (index + 1) xs))
  sends_at one other =
      let more : take index xs ++ x ∷ [] ≡ take (index + 1) xs = ap (λ y. take index xs ++ y ∷ []) is ∙ sym (take_more xs index none within) in
      subst (λ (ys : List A). Sends a c (flat_map f ys)) more (sends_item f a b c [] (take index xs) x one other)

  pub fails_at : (error : SendError) → Sends a b (flat_map f (take index xs)) → Fails b c (f x) error → Fails a c (flat_map f xs) error
  fails_at error one other = fails_item f a b c [] (take index xs) (drop (index + 1) xs) xs x error split_at one other
