-- The table of document 01, "The word": each op code's name and its payload fields, and what an instruction of that name holds.
-- The instruction's fields and the word's are the same numbers, left to right.
use Rattle.std.specs.Prelude.{ℕ, ◌+◌, ◌-◌, ◌^◌, ◌<◌, ◌≤◌, Bool, ◌||◌, List, [], ◌∷◌, eqb, get_or}
use Rattle.instruction.specs.Bits.{◌to◌}
use Rattle.instruction.specs.declared.Field.{Field}
use Rattle.instruction.specs.declared.WaveformFields.{WaveformFields}
use Rattle.instruction.specs.declared.MarkerFields.{MarkerFields}
use Rattle.instruction.specs.declared.Comparison.{Comparison}
use Rattle.instruction.specs.declared.ModulatorFields.{ModulatorFields}
use Rattle.instruction.specs.declared.Body.{Body}
use Rattle.instruction.specs.declared.Body.TheVariants.{Waveform, Marker, Wait, LoadRepeat, Repeat, Cmp, Goto, Call, Return, Sync, Modulator, LoadCmp, Prefetch, Noop}

-- "64-bit APS2 words"
abbrev pub word_bits : ℕ
word_bits = 64

-- a field lies within a word
abbrev pub InWord : Field → Type 0
InWord f = (f.low < word_bits) × (f.width < word_bits) × (f.low + f.width ≤ word_bits)

-- "Header: bits 63-60 op code, 59-58 engine select, 57 reserved, 56 write flag."
abbrev pub op_code : Field
op_code = 63 to 60

abbrev pub engine_select : Field
engine_select = 59 to 58

abbrev pub reserved : Field
reserved = 57 to 57

abbrev pub write_flag : Field
write_flag = 56 to 56

-- below the header
abbrev pub whole_payload : Field
whole_payload = 55 to 0

-- "47-46 op": of WAVEFORM, MARKER, WAIT and SYNC
abbrev pub engine_op : Field
engine_op = 47 to 46

-- "25-0 address": of REPEAT, GOTO, CALL and PREFETCH
abbrev pub target : Field
target = 25 to 0

-- "15-0 count": of LOAD_REPEAT
abbrev pub repeat_count : Field
repeat_count = 15 to 0

-- the payload fields of the op codes 0 to 12, left to right
abbrev pub payloads : List (List Field)
payloads =
    -- 0 WAVEFORM: op, T/A, count, address
    (engine_op ∷ (45 to 45) ∷ (44 to 24) ∷ (23 to 0) ∷ [])
    -- 1 MARKER: op, transition, state, count
    ∷ (engine_op ∷ (36 to 33) ∷ (32 to 32) ∷ (31 to 0) ∷ [])
    -- 2 WAIT: op
    ∷ (engine_op ∷ [])
    -- 3 LOAD_REPEAT: count
    ∷ (repeat_count ∷ [])
    -- 4 REPEAT: address
    ∷ (target ∷ [])
    -- 5 CMP: code, mask
    ∷ ((9 to 8) ∷ (7 to 0) ∷ [])
    -- 6 GOTO, 7 CALL: address
    ∷ (target ∷ [])
    ∷ (target ∷ [])
    -- 8 RETURN: "RETURN and LOAD_CMP name the whole payload"
    ∷ (whole_payload ∷ [])
    -- 9 SYNC: op
    ∷ (engine_op ∷ [])
    -- 10 MODULATOR: op, NCO select, payload
    ∷ ((47 to 45) ∷ (43 to 40) ∷ (31 to 0) ∷ [])
    -- 11 LOAD_CMP
    ∷ (whole_payload ∷ [])
    -- 12 PREFETCH: address
    ∷ (target ∷ [])
    ∷ []

abbrev pub payload_of : ℕ → List Field
payload_of code = get_or payloads code []

-- the op codes of the names
abbrev pub code_of : Body → ℕ
code_of (Waveform f) = 0
code_of (Marker f) = 1
code_of Wait = 2
code_of (LoadRepeat n) = 3
code_of (Repeat a) = 4
code_of (Cmp x) = 5
code_of (Goto a) = 6
code_of (Call a) = 7
code_of (Return p) = 8
code_of Sync = 9
code_of (Modulator f) = 10
code_of (LoadCmp p) = 11
code_of (Prefetch a) = 12
code_of Noop = 15

-- H2: "NOOP has no code in the manual; here it is the word of 64 ones"
abbrev pub noop_word : ℕ
noop_word = 2 ^ word_bits - 1

abbrev pub is_noop : Body → Bool
is_noop b = eqb (code_of b) (code_of Noop)

-- the last op code; NOOP is none
abbrev pub last_code : ℕ
last_code = code_of (Prefetch (record { 0 = 0 }))

-- "RETURN, LOAD_CMP: ignored, any payload"
abbrev pub is_ignored : ℕ → Bool
is_ignored code = eqb code (code_of (Return (record { 0 = 0 }))) || eqb code (code_of (LoadCmp (record { 0 = 0 })))

-- "47-46 op: 1 for WAIT, 2 for SYNC"
abbrev pub wait_op : ℕ
wait_op = 1

abbrev pub sync_op : ℕ
sync_op = 2

-- what the payload fields of a name hold, left to right
abbrev pub values_of : Body → List ℕ
values_of (Waveform f) = f.op ∷ f.ta ∷ f.count.0 ∷ f.address.0 ∷ []
values_of (Marker f) = f.op ∷ f.transition ∷ f.state ∷ f.count.0 ∷ []
values_of Wait = wait_op ∷ []
values_of (LoadRepeat n) = n.0 ∷ []
values_of (Repeat a) = a.0 ∷ []
values_of (Cmp x) = x.code ∷ x.mask ∷ []
values_of (Goto a) = a.0 ∷ []
values_of (Call a) = a.0 ∷ []
values_of (Return p) = p.0 ∷ []
values_of Sync = sync_op ∷ []
values_of (Modulator f) = f.op ∷ f.nco ∷ f.payload ∷ []
values_of (LoadCmp p) = p.0 ∷ []
values_of (Prefetch a) = a.0 ∷ []
values_of Noop = []

-- and the other way: an instruction's body from what the payload fields of its op code hold
abbrev pub waveform_of : List ℕ → WaveformFields
waveform_of vs = record { op = get_or vs 0 0; ta = get_or vs 1 0; count = record { 0 = get_or vs 2 0 }; address = record { 0 = get_or vs 3 0 } }

abbrev pub marker_of : List ℕ → MarkerFields
marker_of vs = record { op = get_or vs 0 0; transition = get_or vs 1 0; state = get_or vs 2 0; count = record { 0 = get_or vs 3 0 } }

abbrev pub comparison_of : List ℕ → Comparison
comparison_of vs = record { code = get_or vs 0 0; mask = get_or vs 1 0 }

abbrev pub modulator_of : List ℕ → ModulatorFields
modulator_of vs = record { op = get_or vs 0 0; nco = get_or vs 1 0; payload = get_or vs 2 0 }

-- one for each op code, in the order of the codes
abbrev pub bodies : List ℕ → List Body
bodies vs =
    Waveform (waveform_of vs)
    ∷ Marker (marker_of vs)
    ∷ Wait
    ∷ LoadRepeat (record { 0 = get_or vs 0 0 })
    ∷ Repeat (record { 0 = get_or vs 0 0 })
    ∷ Cmp (comparison_of vs)
    ∷ Goto (record { 0 = get_or vs 0 0 })
    ∷ Call (record { 0 = get_or vs 0 0 })
    ∷ Return (record { 0 = get_or vs 0 0 })
    ∷ Sync
    ∷ Modulator (modulator_of vs)
    ∷ LoadCmp (record { 0 = get_or vs 0 0 })
    ∷ Prefetch (record { 0 = get_or vs 0 0 })
    ∷ []

abbrev pub body_of : ℕ → List ℕ → Body
body_of code vs = get_or (bodies vs) code Noop
