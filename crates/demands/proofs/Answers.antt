-- `one-answer-..`, for each public function: its contract leaves one answer, and one content of what is lent to it.
-- Assumes nothing.
use mathlib.Core.Path.{refl, sym, ap, ◌≡◌, ◌∙◌}
use mathlib.Core.List.{List, []}
use Prim.Native.Nat.{ℕ}
use native.Mathlib.Omega.{arith}
use Rattle.std.specs.declared.result.Result.TheVariants.{Ok, Err}
use Rattle.instruction.specs.Form.{number_of, form_numbered, form_told_apart}
use Rattle.instruction.specs.declared.BadForm.{BadForm}
use Rattle.instruction.specs.declared.BadForm.TheVariants.{NoWriteFlag, NoSuchOp, UselessField, TooShort, Askew, WrongNco, WidePhase, WideCount}
use Rattle.sequence.specs.Numbers.{input_number, input_numbered, input_told_apart, place_number, place_numbered, place_told_apart, fault_number, fault_numbered, fault_told_apart}
use Rattle.sequence.specs.declared.BadInput.{BadInput}
use Rattle.sequence.specs.declared.Misplaced.{Misplaced}
use Rattle.sequence.specs.declared.Fault.{Fault}
use Rattle.sequence.specs.declared.Fault.TheVariants.{PastTheEnd, StackFull, StackEmpty}
use Rattle.sequence.proofs.Laws.{input_some, place_some}
use Rattle.jumps.specs.declared.Arrays.{Arrays}
use Rattle.jumps.specs.State.{Did, state_of}
use Rattle.jumps.specs.Lent.{Done, DoneIn, state_in, arrays_of}
use Rattle.jumps.specs.Jumps.{call_of, return_of}
use Rattle.jumps.specs.declared.Stepped.{Stepped}
use Rattle.look.specs.Closed.{holds, fails}
use Rattle.verdict.proofs.Unique as unique
use Rattle.listing_reader.proofs.Unique as read_back_lem
use Rattle.demands.specs.Answers.{One, OneEqual, OneTold, OneForm, OneInput, OnePlace, OneFault, OneRead, OneWrite, OneRun, OneCheck, OneList, OneReadListing, OneStep, OneStepLent, OneCall, OneReturn, OneCallLent, OneReturnLent, OneMessage, OneMessageLent, OneDispatch, OneLook, OneWalk, OneSeen}

pub one_answer_equation : OneEqual
one_answer_equation A d r r' p q = p ∙ sym q

-- no two of a kind have one number, and none has 0
pub one_told : (E : Type 0) (number : E → ℕ) (numbered : ℕ → E) → ((bad : E) → numbered (number bad) ≡ bad) → ((bad : E) → number bad ≡ 0 → ⊥) → OneTold E number
one_told E number numbered apart some n (Ok a) (Ok b) p q = refl
one_told E number numbered apart some n (Ok a) (Err bad) p q = absurd (some bad (q ∙ sym p))
one_told E number numbered apart some n (Err bad) (Ok a) p q = absurd (some bad (p ∙ sym q))
one_told E number numbered apart some n (Err bad) (Err bad') p q = ap Err (sym (apart bad) ∙ ap numbered (p ∙ sym q) ∙ apart bad')

form_some : (bad : BadForm) → number_of bad ≡ 0 → ⊥
form_some NoWriteFlag e = omega (arith, e)
form_some NoSuchOp e = omega (arith, e)
form_some UselessField e = omega (arith, e)
form_some TooShort e = omega (arith, e)
form_some Askew e = omega (arith, e)
form_some WrongNco e = omega (arith, e)
form_some WidePhase e = omega (arith, e)
form_some WideCount e = omega (arith, e)

fault_some : (bad : Fault) → fault_number bad ≡ 0 → ⊥
fault_some PastTheEnd e = omega (arith, e)
fault_some StackFull e = omega (arith, e)
fault_some StackEmpty e = omega (arith, e)

pub one_answer_form : OneForm
one_answer_form = one_told BadForm number_of form_numbered form_told_apart form_some

pub one_answer_input : OneInput
one_answer_input = one_told BadInput input_number input_numbered input_told_apart input_some

pub one_answer_place : OnePlace
one_answer_place = one_told Misplaced place_number place_numbered place_told_apart place_some

pub one_answer_fault : OneFault
one_answer_fault = one_told Fault fault_number fault_numbered fault_told_apart fault_some

pub one_answer_read : OneRead
one_answer_read rules word r r' p q = p ∙ sym q

pub one_answer_write : OneWrite
one_answer_write rules i r r' p q = p ∙ sym q

pub one_answer_run : OneRun
one_answer_run budget e before r r' p q =
    let a = p.answer ∙ sym q.answer in
    let t = p.trace ∙ sym q.trace in
    λ i. (a i, t i)

pub one_answer_check : OneCheck
one_answer_check rules wave words marks r r' p q =
    let o = unique.one_answer_check rules wave words marks p q in
    λ i. (o.0 i, o.1 i)

pub one_answer_list : OneList
one_answer_list text before r r' p q =
    let n = p.size ∙ sym q.size in
    let o = p.out ∙ sym q.out in
    λ i. (n i, o i)

pub one_answer_read_listing : OneReadListing
one_answer_read_listing rules text before r r' p q =
    let o = read_back_lem.one_answer_read_listing rules text before p q in
    λ i. (o.0 i, o.1 i)

pub one_answer_step : OneStep
one_answer_step e s before r r' p q =
    let end = p.done.end ∙ sym q.done.end in
    let state = p.done.state ∙ sym q.done.state in
    let trace = p.trace ∙ sym q.trace in
    λ i. (record { end = end i; core = (state i).core }, trace i, (state i).returns, (state i).counters, (state i).waits, (state i).totals)

pub one_answer_step_lent : OneStepLent
one_answer_step_lent e s arrays before r r' p q =
    let end = p.done.end ∙ sym q.done.end in
    let state = p.done.state ∙ sym q.done.state in
    let trace = p.trace ∙ sym q.trace in
    λ i. (record { end = end i; core = (state i).core }, trace i, arrays_of (state i))

-- what is done with the stack lent, whatever the engines have counted
one_jump : (does : List ℕ → List ℕ → Did) → One (Stepped × List ℕ × List ℕ) (λ r. (ws ts : List ℕ) → Done (does ws ts) r.0 r.1 r.2 ws ts)
one_jump does r r' p q =
    let end = (p [] []).end ∙ sym (q [] []).end in
    let state = (p [] []).state ∙ sym (q [] []).state in
    λ i. (record { end = end i; core = (state i).core }, (state i).returns, (state i).counters)

pub one_answer_call : OneCall
one_answer_call s returns counters to = one_jump (λ ws ts. call_of (state_of s returns counters ws ts) to)

pub one_answer_return : OneReturn
one_answer_return s returns counters = one_jump (λ ws ts. return_of (state_of s returns counters ws ts))

one_lent : (d : Did) → One (Stepped × Arrays) (λ r. DoneIn d r.0 r.1)
one_lent d r r' p q =
    let end = p.end ∙ sym q.end in
    let state = p.state ∙ sym q.state in
    λ i. (record { end = end i; core = (state i).core }, arrays_of (state i))

pub one_answer_call_lent : OneCallLent
one_answer_call_lent s arrays to = one_lent (call_of (state_in s arrays) to)

pub one_answer_return_lent : OneReturnLent
one_answer_return_lent s arrays = one_lent (return_of (state_in s arrays))

pub one_answer_message : OneMessage
one_answer_message messages s r r' p q =
    let end = (p [] [] [] []).end ∙ sym (q [] [] [] []).end in
    let state = (p [] [] [] []).state ∙ sym (q [] [] [] []).state in
    λ i. record { end = end i; core = (state i).core }

pub one_answer_message_lent : OneMessageLent
one_answer_message_lent messages s r r' p q =
    let none : Arrays = record { returns = []; counters = []; waits = []; totals = [] } in
    let end = (p none).end ∙ sym (q none).end in
    let state = (p none).state ∙ sym (q none).state in
    λ i. record { end = end i; core = (state i).core }

pub one_answer_dispatch : OneDispatch
one_answer_dispatch out k trace waits totals r r' p q =
    let t = p.trace ∙ sym q.trace in
    let w = p.waits ∙ sym q.waits in
    let n = p.totals ∙ sym q.totals in
    λ i. (t i, w i, n i)

pub one_answer_look : OneLook
one_answer_look P r r' (holds p) (holds q) = refl
one_answer_look P r r' (holds p) (fails q) = absurd (q p)
one_answer_look P r r' (fails p) (holds q) = absurd (p q)
one_answer_look P r r' (fails p) (fails q) = refl

pub one_answer_walk : OneWalk
one_answer_walk limit words marks r r' p q = unique.one_marks limit words marks r r' (p.long ∙ sym q.long) p.exact q.exact p.tail q.tail

pub one_answer_seen : OneSeen
one_answer_seen limit words marks after l r r' p q =
    let b = unique.one_back limit words after p.marked.exact l p.returns p.depths q.returns q.depths in
    let f = unique.one_fault limit words after p.fault q.fault in
    λ i. (b i, f i)
