-- Document 02, CR 3: "A sequence accepted for older firmware is accepted for the current one, with the same run."
-- First of every word, check and run that the older kind does not give 24 for; then of the sequences that it accepts.
use Rattle.std.specs.Prelude.{◌≡◌, List, ℕ}
use Rattle.instruction.specs.Rules.{older, current}
use Rattle.instruction.specs.Word.{spelled_by, word_of}
use Rattle.instruction.specs.declared.Instruction.{Instruction}
use Rattle.instruction.specs.declared.Rules.{Rules}
use Rattle.reader.specs.Reading.{reading_of, number_of}
use Rattle.std.specs.declared.result.Result.TheVariants.{Ok}
use Rattle.writer.specs.Writing.{written_of}
use Rattle.jumps.specs.State.{Fixed, fixed_by}
use Rattle.rehearsal.specs.Run.{rehearse}
use Rattle.verdict.specs.Check.{CheckIs}
use Rattle.verdict.specs.declared.Verdict.{Verdict}

-- ---- a word, and an instruction asked for

abbrev pub OlderReadsAlike : Type 0
OlderReadsAlike = (word : ℕ) → (number_of (reading_of older word) ≡ 24 → ⊥) → reading_of current word ≡ reading_of older word

abbrev pub OlderWritesAlike : Type 0
OlderWritesAlike = (i : Instruction) → ((written_of older i).number ≡ 24 → ⊥) → written_of current i ≡ written_of older i

-- "24 .. after 19", and in the writer after 23: nothing else is wrong where it is given, and the current kind takes it
abbrev pub OlderReadsAlone : Type 0
OlderReadsAlone = (word : ℕ) → number_of (reading_of older word) ≡ 24 → reading_of current word ≡ Ok (spelled_by word)

abbrev pub OlderWritesAlone : Type 0
OlderWritesAlone = (i : Instruction) → (written_of older i).number ≡ 24 → written_of current i ≡ record { number = 0; word = word_of i }

-- "for the older kind": the current one never gives it
abbrev pub CurrentNever : Type 0
CurrentNever = (word : ℕ) → number_of (reading_of current word) ≡ 24 → ⊥

-- ---- check

-- the same number, place and bit, and the same marks
abbrev pub OlderChecksAlike : Type 0
OlderChecksAlike =
    (wave : ℕ) (words marks marks' marks'' : List ℕ) (v v' : Verdict) → CheckIs older wave words marks v marks' → (v.refusal.number ≡ 24 → ⊥)
    → CheckIs current wave words marks v' marks'' → (v' ≡ v) × (marks'' ≡ marks')

-- "A sequence accepted for older firmware is accepted for the current one", with the same marks
abbrev pub OlderThenCurrent : Type 0
OlderThenCurrent =
    (wave : ℕ) (words marks marks' marks'' : List ℕ) (v v' : Verdict) → CheckIs older wave words marks v marks' → v.refusal.number ≡ 0
    → CheckIs current wave words marks v' marks'' → (v'.refusal.number ≡ 0) × (marks'' ≡ marks')

-- ---- run

-- the same words, messages, room, W and triggers, on a module of these rules
abbrev pub under : Rules → Fixed → Fixed
under rules e = fixed_by e.words e.messages e.room (record { wave = e.setting.wave; rules = rules; triggers = e.setting.triggers })

-- the same end and state, and the same words dispatched, whatever the budget
abbrev pub OlderRunsAlike : Type 0
OlderRunsAlike =
    (e : Fixed) (budget : ℕ) → ((rehearse budget (under older e)).end.number ≡ 24 → ⊥)
    → rehearse budget (under current e) ≡ rehearse budget (under older e)

-- "with the same run": every run of a sequence that is accepted for older firmware
abbrev pub AcceptedRunsAlike : Type 0
AcceptedRunsAlike =
    (wave : ℕ) (words marks marks' : List ℕ) (v : Verdict) → CheckIs older wave words marks v marks' → v.refusal.number ≡ 0
    → (e : Fixed) (budget : ℕ) → e.words ≡ words → e.setting.wave.0 ≡ wave
    → rehearse budget (under current e) ≡ rehearse budget (under older e)
