-- The form numbers 13 to 19 of document 01 and 24 of document 02, which an instruction alone decides: reader and writer give the same ones.
-- "Form, from the word alone, lowest number wins."
use Rattle.std.specs.Prelude.{◌≡◌, refl, ℕ, ◌%◌, ◌^◌, Bool, false, not, ◌||◌, ◌&&◌, ltb, eqb, leb}
use Rattle.std.specs.declared.result.Result.{Result}
use Rattle.std.specs.declared.result.Result.TheVariants.{Ok, Err}
use Rattle.instruction.specs.Bits.{pick, ◌gives◌else◌}
use Rattle.instruction.specs.Table.{wait_op, sync_op}
use Rattle.instruction.specs.Rules.{is_older}
use Rattle.instruction.specs.declared.Rules.{Rules}
use Rattle.instruction.specs.declared.WaveformFields.{WaveformFields}
use Rattle.instruction.specs.declared.MarkerFields.{MarkerFields}
use Rattle.instruction.specs.declared.ModulatorFields.{ModulatorFields}
use Rattle.instruction.specs.declared.WordAddress.{WordAddress}
use Rattle.instruction.specs.declared.Refusal.{Refusal}
use Rattle.instruction.specs.declared.BadForm.{BadForm}
use Rattle.instruction.specs.declared.BadForm.TheVariants.{NoWriteFlag, NoSuchOp, UselessField, TooShort, Askew, WrongNco, WidePhase, WideCount}
use Rattle.instruction.specs.declared.Instruction.{Instruction}
use Rattle.instruction.specs.declared.Body.{Body}
use Rattle.instruction.specs.declared.Body.TheVariants.{Waveform, Marker, Wait, LoadRepeat, Repeat, Cmp, Goto, Call, Return, Sync, Modulator, LoadCmp, Prefetch, Noop}

-- a refusal that is told by its number alone; 0 refuses nothing
abbrev pub numbered : ℕ → Refusal
numbered number = record { number = number; bit = 0 }

-- the number of each thing that a form is refused for
abbrev pub number_of : BadForm → ℕ
number_of NoWriteFlag = 13
number_of NoSuchOp = 14
number_of UselessField = 15
number_of TooShort = 16
number_of Askew = 17
number_of WrongNco = 18
number_of WidePhase = 19
number_of WideCount = 24

-- and what has a number
abbrev pub form_numbered : ℕ → BadForm
form_numbered n =
    pick (eqb n 13) NoWriteFlag
    (pick (eqb n 14) NoSuchOp
    (pick (eqb n 15) UselessField
    (pick (eqb n 16) TooShort
    (pick (eqb n 17) Askew
    (pick (eqb n 18) WrongNco
    (pick (eqb n 19) WidePhase WideCount))))))

pub form_told_apart : (bad : BadForm) → form_numbered (number_of bad) ≡ bad
form_told_apart NoWriteFlag = refl
form_told_apart NoSuchOp = refl
form_told_apart UselessField = refl
form_told_apart TooShort = refl
form_told_apart Askew = refl
form_told_apart WrongNco = refl
form_told_apart WidePhase = refl
form_told_apart WideCount = refl

-- the number of what something is refused for, and 0 where it is not refused
abbrev pub told : {A E : Type 0} → (E → ℕ) → Result A E → ℕ
told number (Ok a) = 0
told number (Err bad) = number bad

-- the numbers that tell a bit: 111, 112, 113
abbrev pub tells_bit : ℕ → Bool
tells_bit number = leb 111 number && leb number 113

-- ---- the engine ops

-- WAVEFORM and MARKER: "0 play, 1 wait trigger, 2 wait sync, 3 prefetch"
abbrev pub plays : ℕ → Bool
plays op = eqb op 0

abbrev pub awaits_trigger : ℕ → Bool
awaits_trigger op = eqb op wait_op

abbrev pub awaits : ℕ → Bool
awaits op = awaits_trigger op || eqb op sync_op

abbrev pub prefetches : ℕ → Bool
prefetches op = eqb op 3

-- MODULATOR: "0 modulate for count; 1 reset phase; 2 wait trigger; 3 set increment; 4 wait sync; 5 set offset; 6 reserved; 7 update frame"
abbrev pub modulates : ℕ → Bool
modulates op = eqb op 0

abbrev pub resets_phase : ℕ → Bool
resets_phase op = eqb op 1

abbrev pub modulator_awaits_trigger : ℕ → Bool
modulator_awaits_trigger op = eqb op 2

abbrev pub modulator_awaits : ℕ → Bool
modulator_awaits op = modulator_awaits_trigger op || eqb op 4

abbrev pub sets_phase : ℕ → Bool
sets_phase op = eqb op 3 || eqb op 5 || eqb op 7

-- ---- a rule for each name that the form numbers speak of

abbrev pub never : {A : Type 0} → A → Bool
never a = false

-- the rule that a name comes under: WAVEFORM, MARKER, WAIT or SYNC, MODULATOR, PREFETCH; the others break none
abbrev pub breaks : (WaveformFields → Bool) → (MarkerFields → Bool) → Bool → (ModulatorFields → Bool) → (WordAddress → Bool) → Body → Bool
breaks waveform marker wait modulator prefetch (Waveform f) = waveform f
breaks waveform marker wait modulator prefetch (Marker f) = marker f
breaks waveform marker wait modulator prefetch Wait = wait
breaks waveform marker wait modulator prefetch (LoadRepeat n) = false
breaks waveform marker wait modulator prefetch (Repeat a) = false
breaks waveform marker wait modulator prefetch (Cmp x) = false
breaks waveform marker wait modulator prefetch (Goto a) = false
breaks waveform marker wait modulator prefetch (Call a) = false
breaks waveform marker wait modulator prefetch (Return p) = false
breaks waveform marker wait modulator prefetch Sync = wait
breaks waveform marker wait modulator prefetch (Modulator f) = modulator f
breaks waveform marker wait modulator prefetch (LoadCmp p) = false
breaks waveform marker wait modulator prefetch (Prefetch a) = prefetch a
breaks waveform marker wait modulator prefetch Noop = false

abbrev pub filled : ℕ → Bool
filled v = not (eqb v 0)

-- "13 WAIT or SYNC without write flag"
abbrev pub unflagged : ℕ → Body → Bool
unflagged write = breaks never never (eqb write 0) never never

-- "14 MARKER op 3, MODULATOR op 6"
abbrev pub no_such_op : Body → Bool
no_such_op = breaks never (λ f. prefetches f.op) false (λ f. eqb f.op 6) never

-- "15 a named field that this engine op has no use for is not zero: all payload fields but op for the waits;
-- T/A and count for waveform prefetch; payload for phase reset"
abbrev pub useless_waveform : WaveformFields → Bool
useless_waveform f =
    (awaits f.op && (filled f.ta || filled f.count.0 || filled f.address.0))
    || (prefetches f.op && (filled f.ta || filled f.count.0))

abbrev pub useless_marker : MarkerFields → Bool
useless_marker f = awaits f.op && (filled f.transition || filled f.state || filled f.count.0)

abbrev pub useless_modulator : ModulatorFields → Bool
useless_modulator f =
    (modulator_awaits f.op && (filled f.nco || filled f.payload))
    || (resets_phase f.op && filled f.payload)

abbrev pub useless : Body → Bool
useless = breaks useless_waveform useless_marker false useless_modulator never

-- "16 count below 2 in play or modulate"
abbrev pub short : ℕ → Bool
short count = ltb count 2

abbrev pub too_short : Body → Bool
too_short =
    breaks (λ f. plays f.op && short f.count.0) (λ f. plays f.op && short f.count.0) false
    (λ f. modulates f.op && short f.payload) never

-- "17 PREFETCH address no multiple of 128; waveform prefetch address no multiple of 16,384"
abbrev pub askew : Body → Bool
askew =
    breaks (λ f. prefetches f.op && filled (f.address.0 % 16384)) never false
    never (λ a. filled (a.0 % 128))

-- "18 NCO select not 1 or 2 for modulate, not 1 to 3 for ops 1, 3, 5, 7"
abbrev pub one_nco : ℕ → Bool
one_nco nco = eqb nco 1 || eqb nco 2

abbrev pub no_such_nco : ModulatorFields → Bool
no_such_nco f =
    (modulates f.op && not (one_nco f.nco))
    || ((resets_phase f.op || sets_phase f.op) && not (one_nco f.nco || eqb f.nco 3))

abbrev pub wrong_nco : Body → Bool
wrong_nco = breaks never never false no_such_nco never

-- "19 phase of 2^30 or more"
abbrev pub wide_phase : Body → Bool
wide_phase = breaks never never false (λ f. sets_phase f.op && not (ltb f.payload (2 ^ 30))) never

-- document 02, CR 3: "24 a wider count for the older kind", which takes "only a 20-bit marker count"
abbrev pub wide : Rules → ℕ → Bool
wide rules count = is_older rules.firmware && not (ltb count (2 ^ 20))

abbrev pub wide_count : Rules → Body → Bool
wide_count rules = breaks never (λ f. plays f.op && wide rules f.count.0) false never never

-- 13 to 19, "24 .. a form number, after 19", and 0 where none is broken: "lowest number wins"
abbrev pub body_form : Rules → ℕ → Body → ℕ
body_form rules write b =
    unflagged write b gives 13
    else no_such_op b gives 14
    else useless b gives 15
    else too_short b gives 16
    else askew b gives 17
    else wrong_nco b gives 18
    else wide_phase b gives 19
    else wide_count rules b gives 24
    else 0

unfoldable pub form_of : Rules → Instruction → ℕ
form_of rules i = body_form rules i.write i.body
