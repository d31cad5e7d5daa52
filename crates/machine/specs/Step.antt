-- One step, as document 01 gives it: its order of tests, and what each instruction does. The budget is the run's.
-- "Order of tests: budget (40); address n (30); form, 20, 21; 22; 31 or 32; 41; 42; 43."
use Rattle.std.specs.Prelude.{ℕ, ◌+◌, ◌-◌, Bool, ◌&&◌, List, ltb, eqb, leb, length, get_or}
use Rattle.std.specs.List.{list_any}
use Rattle.instruction.specs.Bits.{pick}
use Rattle.instruction.specs.declared.Instruction.{Instruction}
use Rattle.instruction.specs.declared.Body.{Body}
use Rattle.instruction.specs.declared.Body.TheVariants.{Waveform, Marker, Wait, LoadRepeat, Repeat, Cmp, Goto, Call, Return, Sync, Modulator, LoadCmp, Prefetch, Noop}
use Rattle.reader.specs.Reading.{Reading, reading_of}
use Rattle.std.specs.declared.result.Result.TheVariants.{Ok, Err}
use Rattle.sequence.specs.Bounds.{group_size}
use Rattle.sequence.specs.Placing.{is_engine, placing_of}
use Rattle.dispatch.specs.Engines.{waits_over, totals_over}
use Rattle.dispatch.specs.Trace.{part}
use Rattle.instruction.specs.Form.{numbered}
use Rattle.jumps.specs.State.{Fixed, Did, state_of, with_sent, with_counter, with_core, refused_by, stop, moves}
use Rattle.jumps.specs.Jumps.{nexts, repeat_of, compare_of, goto_of, call_of, return_of, message_of, hold_of}
use Rattle.jumps.specs.declared.Core.{Core}
use Rattle.jumps.specs.declared.State.{State}

-- ---- dispatch

-- "the next with it high sends the held ones and itself, in order, together"
abbrev pub group_of : Fixed → Core → List ℕ
group_of e c = part (c.address.0 - c.held) (c.held + 1) e.words

abbrev pub sent : Fixed → State → State
sent e s =
    state_of (nexts (with_sent (s.core.sent + (s.core.held + 1)) 0 s.core)) s.returns s.counters
    (waits_over s.waits (group_of e s.core)) (totals_over s.totals (group_of e s.core))

-- "A group goes out whole or not at all (43)."
unfoldable pub send_of : Fixed → State → Did
send_of e s =
    pick (leb (s.core.sent + (s.core.held + 1)) e.room)
    (record { end = numbered 0; state = sent e s; out = group_of e s.core })
    (stop 43 s)

unfoldable pub engine_word_of : Fixed → State → ℕ → Did
engine_word_of e s write = pick (eqb write 0) (moves (with_core (hold_of s.core) s)) (send_of e s)

-- H6: "SYNC ends with 41 while any engine's count exceeds the triggers given."
abbrev pub any_above : ℕ → List ℕ → Bool
any_above triggers = list_any (ltb triggers)

unfoldable pub sync_of : Fixed → State → Did
sync_of e s = pick (any_above e.setting.triggers s.waits) (stop 41 s) (send_of e s)

-- ---- the step

-- what an instruction does that form, 20, 21 and 22 let through; "PREFETCH, NOOP and sync waits change nothing else."
unfoldable pub act_of : Fixed → State → ℕ → Body → Did
act_of e s write (Waveform f) = engine_word_of e s write
act_of e s write (Marker f) = engine_word_of e s write
act_of e s write Wait = send_of e s
act_of e s write (LoadRepeat n) = moves (with_core (nexts (with_counter n.0 s.core)) s)
act_of e s write (Repeat a) = moves (with_core (repeat_of s.core a.0) s)
act_of e s write (Cmp x) = moves (with_core (compare_of s.core x) s)
act_of e s write (Goto a) = moves (with_core (goto_of s.core a.0) s)
act_of e s write (Call a) = call_of s a.0
act_of e s write (Return p) = return_of s
act_of e s write Sync = sync_of e s
act_of e s write (Modulator f) = engine_word_of e s write
act_of e s write (LoadCmp p) = message_of e.messages s
act_of e s write (Prefetch a) = moves (with_core (nexts s.core) s)
act_of e s write Noop = moves (with_core (nexts s.core) s)

-- "22 is given when a group is held and the word is no engine word, or when seven are held and the word is low."
abbrev pub breaks_group : ℕ → ℕ → Body → Bool
breaks_group held write b = pick (is_engine b) (eqb held (group_size - 1) && eqb write 0) (ltb 0 held)

-- 20 and 21, then 22
unfoldable pub execute_of : Fixed → State → Instruction → Did
execute_of e s i =
    pick (eqb (placing_of e.setting.wave.0 (length e.words) i.body) 0)
    (pick (breaks_group s.core.held i.write i.body) (stop 22 s) (act_of e s i.write i.body))
    (stop (placing_of e.setting.wave.0 (length e.words) i.body) s)

-- "The step takes the reading of the word apart at once: an instruction, or else the end with its number."
unfoldable pub with_reading : Fixed → State → Reading → Did
with_reading e s (Ok i) = execute_of e s i
with_reading e s (Err r) = refused_by r s

-- "30 past the last word"
unfoldable pub step_of : Fixed → State → Did
step_of e s =
    pick (ltb s.core.address.0 (length e.words))
    (with_reading e s (reading_of e.setting.rules (get_or e.words s.core.address.0 0)))
    (stop 30 s)
