-- "that contract leaves one possible answer and one content of marks and trace" (document 01, "What the contracts settle"), for each public function.
-- Each statement is about the contract as the function's source has it; C's own are in aps2_c.
use Rattle.std.specs.Prelude.{◌≡◌, Bool, List, ℕ, ◌≤◌, Result}
use Rattle.instruction.specs.Form.{number_of, told}
use Rattle.instruction.specs.declared.BadForm.{BadForm}
use Rattle.instruction.specs.declared.Instruction.{Instruction}
use Rattle.instruction.specs.declared.Rules.{Rules}
use Rattle.reader.specs.Reading.{Reading, reading_of}
use Rattle.writer.specs.Writing.{written_of}
use Rattle.writer.specs.declared.Written.{Written}
use Rattle.dispatch.specs.Trace.{Dispatched}
use Rattle.jumps.specs.State.{Fixed, state_of}
use Rattle.jumps.specs.Lent.{Done, DoneIn, Traced, Leaves, state_in}
use Rattle.jumps.specs.Jumps.{call_of, return_of, message_of}
use Rattle.jumps.specs.declared.Arrays.{Arrays}
use Rattle.jumps.specs.declared.Core.{Core}
use Rattle.jumps.specs.declared.State.{State}
use Rattle.jumps.specs.declared.Stepped.{Stepped}
use Rattle.sequence.specs.Numbers.{input_number, place_number, fault_number}
use Rattle.sequence.specs.declared.BadInput.{BadInput}
use Rattle.sequence.specs.declared.Misplaced.{Misplaced}
use Rattle.sequence.specs.declared.Fault.{Fault}
use Rattle.machine.specs.Step.{step_of}
use Rattle.rehearsal.specs.Run.{rehearse, Rehearsed}
use Rattle.rehearsal.specs.declared.Answer.{Answer}
use Rattle.look.specs.Closed.{Tells}
use Rattle.walk.specs.Marks.{Marked}
use Rattle.walk.specs.Loops.{Settled}
use Rattle.flow.specs.Walk.{deepest}
use Rattle.verdict.specs.Check.{CheckIs}
use Rattle.verdict.specs.declared.Verdict.{Verdict}
use Rattle.listing.specs.Listing.{Listed}
use Rattle.listing_reader.specs.ReadBack.{ReadsBack}
use Rattle.listing_reader.specs.declared.ReadBack.{ReadBack}

-- two answers that meet a contract are equal
abbrev pub One : (A : Type 0) → (A → Type 0) → Type 0
One A Meets = (r r' : A) → Meets r → Meets r' → r ≡ r'

-- a contract that is an equation, as those of `read`, `write` and of each function that only computes a number
abbrev pub OneEqual : Type 1
OneEqual = (A : Type 0) (definition : A) → One A (λ r. r ≡ definition)

-- a contract that tells the number of what is refused, as those of the functions that judge a form, an input, a place or a flow
abbrev pub OneTold : (E : Type 0) → (E → ℕ) → Type 0
OneTold E number = (definition : ℕ) → One (Result (Unit {0}) E) (λ r. told number r ≡ definition)

abbrev pub OneForm : Type 0
OneForm = OneTold BadForm number_of

abbrev pub OneInput : Type 0
OneInput = OneTold BadInput input_number

abbrev pub OnePlace : Type 0
OnePlace = OneTold Misplaced place_number

abbrev pub OneFault : Type 0
OneFault = OneTold Fault fault_number

abbrev pub OneRead : Type 0
OneRead = (rules : Rules) (word : ℕ) → One Reading (λ r. r ≡ reading_of rules word)

abbrev pub OneWrite : Type 0
OneWrite = (rules : Rules) (i : Instruction) → One Written (λ r. r ≡ written_of rules i)

-- the answer, and the trace
abbrev pub OneRun : Type 0
OneRun = (budget : ℕ) (e : Fixed) (before : List ℕ) → One (Answer × List ℕ) (λ r. Rehearsed (rehearse budget e) before r.1 r.0)

-- the verdict, and the marks
abbrev pub OneCheck : Type 0
OneCheck = (rules : Rules) (wave : ℕ) (words marks : List ℕ) → One (Verdict × List ℕ) (λ r. CheckIs rules wave words marks r.0 r.1)

-- the length of the listing, and the buffer
abbrev pub OneList : Type 0
OneList = (text before : List ℕ) → One (ℕ × List ℕ) (λ r. Listed text before r.1 r.0)

-- what is told of a listing that is read back, and the buffer
abbrev pub OneReadListing : Type 0
OneReadListing = (rules : Rules) (text before : List ℕ) → One (ReadBack × List ℕ) (λ r. ReadsBack rules text before r.1 r.0)

-- what other crates of ours call: the step, with the arrays and the trace lent to it
abbrev pub OneStep : Type 0
OneStep =
    (e : Fixed) (s : State) (before : List ℕ)
    → One (Stepped × List ℕ × List ℕ × List ℕ × List ℕ × List ℕ) (λ r. Traced (step_of e s) s.core.sent before r.1 r.0 r.2 r.3 r.4 r.5)

-- and with those arrays lent as one
abbrev pub OneStepLent : Type 0
OneStepLent =
    (e : Fixed) (s : Core) (arrays : Arrays) (before : List ℕ)
    → One (Stepped × List ℕ × Arrays) (λ r. Leaves (step_of e (state_in s arrays)) s.sent before r.1 r.0 r.2)

-- CALL and RETURN, with the stack lent to them, and LOAD_CMP; what is not lent stays, whatever it is
abbrev pub OneCall : Type 0
OneCall =
    (s : Core) (returns counters : List ℕ) (to : ℕ)
    → One (Stepped × List ℕ × List ℕ) (λ r. (ws ts : List ℕ) → Done (call_of (state_of s returns counters ws ts) to) r.0 r.1 r.2 ws ts)

abbrev pub OneReturn : Type 0
OneReturn =
    (s : Core) (returns counters : List ℕ)
    → One (Stepped × List ℕ × List ℕ) (λ r. (ws ts : List ℕ) → Done (return_of (state_of s returns counters ws ts)) r.0 r.1 r.2 ws ts)

-- and with all arrays of the state lent to them
abbrev pub OneCallLent : Type 0
OneCallLent = (s : Core) (arrays : Arrays) (to : ℕ) → One (Stepped × Arrays) (λ r. DoneIn (call_of (state_in s arrays) to) r.0 r.1)

abbrev pub OneReturnLent : Type 0
OneReturnLent = (s : Core) (arrays : Arrays) → One (Stepped × Arrays) (λ r. DoneIn (return_of (state_in s arrays)) r.0 r.1)

abbrev pub OneMessage : Type 0
OneMessage = (messages : List ℕ) (s : Core) → One Stepped (λ r. (rs cs ws ts : List ℕ) → Done (message_of messages (state_of s rs cs ws ts)) r rs cs ws ts)

abbrev pub OneMessageLent : Type 0
OneMessageLent = (messages : List ℕ) (s : Core) → One Stepped (λ r. (arrays : Arrays) → DoneIn (message_of messages (state_in s arrays)) r arrays)

-- the dispatcher, with the trace, the waits and the totals
abbrev pub OneDispatch : Type 0
OneDispatch = (out : List ℕ) (k : ℕ) (trace waits totals : List ℕ) → One (List ℕ × List ℕ × List ℕ) (λ r. Dispatched out k trace waits totals r.0 r.1 r.2)

-- a look at an address, which tells whether it is closed, or clean
abbrev pub OneLook : Type 1
OneLook = (P : Type 0) → One Bool (λ r. Tells P r)

-- the walk's marks
abbrev pub OneWalk : Type 0
OneWalk = (limit : ℕ) (words marks : List ℕ) → One (List ℕ) (λ r. Marked limit words marks r)

-- what the walk has seen, up to the depths that a mark has bits for
abbrev pub OneSeen : Type 0
OneSeen = (limit : ℕ) (words marks after : List ℕ) → limit ≤ deepest → One (ℕ × ℕ) (λ r. Settled limit words marks after r.0 r.1)
