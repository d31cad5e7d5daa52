-- The worked sequences of document 01 ("P is proved"): P1 to P12, one table under one claim about the definitions, check and run alike; and H7 as
-- document 02, request 6, amends it. A row says of the answer what the document says, and no more; that no run of P10 falls off stands last.
use Rattle.std.specs.Prelude.{◌≡◌, List, [], ◌∷◌, ℕ, ◌+◌, ◌^◌, ◌≤◌, length, get_or, replicate}
use Rattle.instruction.specs.Form.{numbered}
use Rattle.instruction.specs.declared.Rules.{Rules}
use Rattle.dispatch.specs.Engines.{engine_count}
use Rattle.jumps.specs.State.{Did, fixed_by}
use Rattle.jumps.specs.declared.Setting.{Setting}
use Rattle.rehearsal.specs.Run.{rehearse}
use Rattle.verdict.specs.Check.{CheckIs}
use Rattle.verdict.specs.Flow.{verdict}
use Rattle.verdict.specs.declared.Verdict.{Verdict}

-- what is said of a check (number and place; accepted is 0 at 0), or of one field of a run's answer
pub data Says : Type 0 where
  checks : ℕ → ℕ → Says
  ends : ℕ → Says
  address : ℕ → Says
  steps : ℕ → Says
  trace : ℕ → Says
  waveform_total : ℕ → Says
  totals : List ℕ → Says
  all_waits : ℕ → Says
  counter : ℕ → Says
  register : ℕ → Says

pub record Row : Type 0 where
  pub words : List ℕ
  pub wave : ℕ
  pub messages : List ℕ
  pub triggers : ℕ
  pub budget : ℕ
  pub room : ℕ
  pub says : List Says

-- "unnamed W and triggers are 0, room 8"
abbrev room : ℕ
room = 8

-- a sequence that is checked
abbrev checked : List ℕ → ℕ → ℕ → ℕ → Row
checked words wave number place = record { words = words; wave = wave; messages = []; triggers = 0; budget = 0; room = room; says = checks number place ∷ [] }

-- a sequence that is run
abbrev ran : List ℕ → ℕ → List ℕ → ℕ → ℕ → List Says → Row
ran words wave messages triggers budget says = record { words = words; wave = wave; messages = messages; triggers = triggers; budget = budget; room = room; says = says }

-- SYNC, WAIT, a play of four quad-samples from 1 on, GOTO 0
abbrev pub four_words : List ℕ
four_words = 0x9100800000000000 ∷ 0x2100400000000000 ∷ 0x0100000004000001 ∷ 0x6000000000000000 ∷ []

abbrev pub three_passes : List ℕ
three_passes = 0x3000000000000002 ∷ 0x0100000004000001 ∷ 0x4000000000000001 ∷ 0x6000000000000003 ∷ []

-- CMP = 0, GOTO 0
abbrev pub two_words : List ℕ
two_words = 0x5000000000000000 ∷ 0x6000000000000000 ∷ []

abbrev pub table : List Row
table =
    -- "P1 the four words above, W 5: accepted. P2 W 4: 20 at 2."
    checked four_words 5 0 0
    ∷ checked four_words 4 20 2
    -- "P3 same, W 5, no trigger, budget 10, room 8: 41 at address 0, 4 steps, trace 3, waveform total 4, all waits 1."
    ∷ ran four_words 5 [] 0 10 (ends 41 ∷ address 0 ∷ steps 4 ∷ trace 3 ∷ waveform_total 4 ∷ all_waits 1 ∷ [])
    -- "P4 one trigger: 41, 8 steps, trace 6, total 8. With budget 8: 40."
    ∷ ran four_words 5 [] 1 10 (ends 41 ∷ steps 8 ∷ trace 6 ∷ waveform_total 8 ∷ [])
    ∷ ran four_words 5 [] 1 8 (ends 40 ∷ [])
    -- "P5 .. W 5, budget 7, room 8: 40 at address 3, trace 3, total 12, counter 0."
    ∷ ran three_passes 5 [] 0 7 (ends 40 ∷ address 3 ∷ trace 3 ∷ waveform_total 12 ∷ counter 0 ∷ [])
    -- "P6 8000000000000000: 32 at 0. P7 FFFFFFFFFFFFFFFF: 30 at 1. P8 7000000000000000: 31 at 0."
    ∷ checked (0x8000000000000000 ∷ []) 0 32 0
    ∷ checked (0xFFFFFFFFFFFFFFFF ∷ []) 0 30 1
    ∷ checked (0x7000000000000000 ∷ []) 0 31 0
    -- "P9 CALL 2, GOTO 1, RETURN: accepted."
    ∷ checked (0x7000000000000002 ∷ 0x6000000000000001 ∷ 0x8000000000000000 ∷ []) 0 0 0
    -- "P10 CMP = 0, GOTO 0: 30 at 2, though no run falls off."
    ∷ checked two_words 0 30 2
    -- "P11 2100000000000000: 12."
    ∷ checked (0x2100000000000000 ∷ []) 0 12 0
    -- "P12 LOAD_CMP, GOTO 0, message 7, budget 10: 42, 2 steps, register 7."
    ∷ ran (0xB000000000000000 ∷ 0x6000000000000000 ∷ []) 0 (7 ∷ []) 0 10 (ends 42 ∷ steps 2 ∷ register 7 ∷ [])
    ∷ []

abbrev pub pulses : List Row
pulses =
    -- document 02, request 6: "A marker play adds count + 1": 2, 2^20 and 2^32 - 1 on markers 0 to 2, a wait on marker 3; waveform and modulator add count
    ran (0x1100000000000002 ∷ 0x1500000000100000 ∷ 0x19000000FFFFFFFF ∷ 0x1D00400000000000 ∷ 0x0100000004000001 ∷ 0xA100010000000004 ∷ []) 5 [] 0 6
    (ends 40 ∷ totals (4 ∷ 3 ∷ (2 ^ 20 + 1) ∷ (2 ^ 32) ∷ 0 ∷ 4 ∷ []) ∷ [])
    -- "16 count below 2 in play": the count alone
    ∷ ran (0x1100000000000001 ∷ []) 0 [] 0 1 (ends 16 ∷ [])
    ∷ []

-- ---- the claim

abbrev pub answer_of : Rules → Row → Did
answer_of rules r = rehearse r.budget (fixed_by r.words r.messages r.room (record { wave = record { 0 = r.wave }; rules = rules; triggers = r.triggers }))

-- whatever meets check's contract with marks long enough gives this verdict; a run's answer has this in its field
abbrev pub Holds : Rules → Row → Says → Type 0
Holds rules r (checks number place) =
    (marks marks' : List ℕ) (v : Verdict) → length r.words ≤ length marks → CheckIs rules r.wave r.words marks v marks' → v ≡ verdict (numbered number) place
Holds rules r (ends number) = (answer_of rules r).end.number ≡ number
Holds rules r (address a) = (answer_of rules r).state.core.address.0 ≡ a
Holds rules r (steps k) = (answer_of rules r).state.core.steps ≡ k
Holds rules r (trace k) = length (answer_of rules r).out ≡ k
Holds rules r (waveform_total k) = get_or (answer_of rules r).state.totals 0 0 ≡ k
Holds rules r (totals l) = (answer_of rules r).state.totals ≡ l
Holds rules r (all_waits k) = (answer_of rules r).state.waits ≡ replicate engine_count k
Holds rules r (counter k) = (answer_of rules r).state.core.counter ≡ k
Holds rules r (register k) = (answer_of rules r).state.core.register ≡ k

abbrev pub HoldsAll : Rules → Row → List Says → Type 0
HoldsAll rules r [] = Unit {0}
HoldsAll rules r (s ∷ says) = Holds rules r s × HoldsAll rules r says

abbrev pub WorkedSequences : Rules → List Row → Type 0
WorkedSequences rules [] = Unit {0}
WorkedSequences rules (r ∷ rows) = HoldsAll rules r r.says × WorkedSequences rules rows

-- P10: "though no run falls off", whatever messages, room, W, triggers and budget it gets
abbrev pub NoRunFallsOff : List ℕ → Type 0
NoRunFallsOff words =
    (messages : List ℕ) (room : ℕ) (setting : Setting) (budget : ℕ)
    → (rehearse budget (fixed_by words messages room setting)).end.number ≡ 30 → ⊥
