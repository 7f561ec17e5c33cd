-- The tests of the ends of a push.
use Rattle.std.proofs.Common.{◌≡◌, ℕ, ◌+◌, Bool, List, Option, Some, None, IsSome, IfSome, ◌↔◌, sym, subst, ◌∙◌, arith}
use Rattle.std.proofs.lemmas.Bool.{false≢true}
use Rattle.std.specs.Borrow.{Bor}
use Rattle.kernels.specs.EdgeApply.{is_member}
use Rattle.kernels.specs.State.{StateValue}
use Rattle.kernels.specs.declared.endpoint_filter.EndpointFilter.{EndpointFilter}
use Rattle.vertex_sets.specs.VertexSet.{AreWordsOf, VertexSubset}
use Rattle.vertex_sets.specs.declared.form.Form.TheVariants as Form
use Rattle.edge_fold.specs.Ends.{IsEndTest, IsTest}
use Rattle.edge_apply.specs.Words.{passes_words}
use Rattle.edge_apply.proofs.Bits.{words_have_members}
use Rattle.edge_apply.proofs.Filtered.{and_true}
use Rattle.push_engine.specs.inside.PushEnds.{AreTests, passes_bits, untested_end}
use Rattle.push_engine.specs.declared.push_end.PushEnd.{PushEnd}
use Rattle.push_engine.specs.declared.push_end.PushEnd.TheVariants as tested

-- the words of a set in bits let its members through
pub words_of_members : (s : VertexSubset) (words : Option (Bor (List ℕ))) → (IsSome words ↔ (s.form ≡ Form.Bits)) → IfSome words (λ ws. AreWordsOf s ws.now) → s.form ≡ Form.Bits
    → (v : ℕ) → passes_words words v ≡ is_member v s.members
words_of_members s None given are bits v = absurd (false≢true (given.1 bits))
words_of_members s (Some words) given are bits v = words_have_members s words.now are v

-- where nothing is left to test, the bits are the test of the apply's end
pub bits_are_all : (m : StateValue) (test : ℕ → Bool) (e : PushEnd) → None ≡ untested_end e → ((n : ℕ) → AreTests n m test e) → (v : ℕ) → passes_bits e v ≡ test v
bits_are_all m test tested.All none are v = (are (v + 1)).both v (omega arith)
bits_are_all m test (tested.Given words) none are v = sym (and_true _) ∙ (are (v + 1)).both v (omega arith)
bits_are_all m test (tested.Members set) none are v = sym (and_true _) ∙ (are (v + 1)).both v (omega arith)
bits_are_all m test (tested.Untested end) none are v = cc

-- an end that is left to test is the apply's
pub left_is_end : (m : StateValue) (test : ℕ → Bool) (end : EndpointFilter) (e : PushEnd) → Some end ≡ untested_end e → ((n : ℕ) → AreTests n m test e) → IsTest end m test
left_is_end m test end tested.All left are = cc
left_is_end m test end (tested.Given words) left are = cc
left_is_end m test end (tested.Members set) left are = cc
left_is_end m test end (tested.Untested other) left are = subst (λ (o : Option EndpointFilter). IsEndTest o m test) (sym left) (are 0).untested
