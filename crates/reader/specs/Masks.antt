-- What the code knows of a word on the way to its reading: whether a bit is set that is not named, and a number for every such bit until it is looked for.
-- Not for a reader of the contracts.
use Rattle.std.specs.Prelude.{ℕ, ◌≤◌, ◌≡◌, Bool, [], eqb}
use Rattle.instruction.specs.Bits.{pick, ◌gives◌else◌}
use Rattle.instruction.specs.Table.{word_bits, code_of, last_code, noop_word, waveform_of, marker_of, modulator_of}
use Rattle.instruction.specs.Form.{numbered, form_of}
use Rattle.instruction.specs.Word.{code_in, spelled_by}
use Rattle.instruction.specs.declared.Body.TheVariants.{Waveform, Marker, LoadRepeat, Return, Modulator}
use Rattle.instruction.specs.declared.Refusal.{Refusal}
use Rattle.instruction.specs.declared.Rules.{Rules}
use Rattle.instruction.specs.declared.Instruction.{Instruction}
use Rattle.reader.specs.Reading.{Reading, some_below, is_stray, no_such_code, kind_of, not_its_op, highest_stray}
use Rattle.std.specs.declared.result.Result.TheVariants.{Ok, Err}

-- a bit is set that is not named, of whatever kind
unfoldable pub has_unnamed : ℕ → Bool
has_unnamed word = some_below word_bits (is_stray word)

-- what stands for every bit that is not named, until the bit is looked for
abbrev pub coarse_unnamed : ℕ
coarse_unnamed = 111

-- what every word is judged by: as `form_in`, with that one number
unfoldable pub coarse_in : Rules → ℕ → ℕ
coarse_in rules word =
    no_such_code word gives 10
    else has_unnamed word gives coarse_unnamed
    else not_its_op word gives 12
    else form_of rules (spelled_by word)

-- H2
abbrev pub coarse_of : Rules → ℕ → ℕ
coarse_of rules word = pick (eqb word noop_word) 0 (coarse_in rules word)

-- the refusal that it stands for: only there the bit is looked for
abbrev pub finer : ℕ → ℕ → Refusal
finer word coarse = pick (eqb coarse coarse_unnamed) (record { number = kind_of (code_in word) (highest_stray word); bit = highest_stray word }) (numbered coarse)

-- an instruction where it is 0, and else the refusal
abbrev pub judged_by : ℕ → ℕ → Instruction → Reading
judged_by word coarse i = pick (eqb coarse 0) (Ok i) (Err (finer word coarse))

-- what a function knows of a word's op code that judges by it: WAVEFORM
abbrev pub IsWaveform : ℕ → Type 0
IsWaveform word = code_in word ≡ code_of (Waveform (waveform_of []))

-- MARKER
abbrev pub IsMarker : ℕ → Type 0
IsMarker word = code_in word ≡ code_of (Marker (marker_of []))

-- MODULATOR
abbrev pub IsModulator : ℕ → Type 0
IsModulator word = code_in word ≡ code_of (Modulator (modulator_of []))

-- LOAD_REPEAT to RETURN
abbrev pub IsFlow : ℕ → Type 0
IsFlow word = (code_of (LoadRepeat (record { 0 = 0 })) ≤ code_in word) × (code_in word ≤ code_of (Return (record { 0 = 0 })))

-- none of those that 10 is given for
abbrev pub IsCode : ℕ → Type 0
IsCode word = code_in word ≤ last_code
