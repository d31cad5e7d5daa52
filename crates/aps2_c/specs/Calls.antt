-- What C gets of a call on a run that pauses, whose state it holds as 55 numbers: the number, the bit beside it, the numbers and the trace.
-- "condition (0, 1, 2; anything else is 70)": the one thing that a state in numbers can have wrong and a state cannot.
use Rattle.std.specs.Prelude.{ℕ, not, ◌≡◌, List, [], ◌∷◌, ltb, eqb, length, get_or}
use Rattle.instruction.specs.Bits.{pick, ◌gives◌else◌}
use Rattle.instruction.specs.Form.{numbered}
use Rattle.instruction.specs.declared.Refusal.{Refusal}
use Rattle.buffer.specs.Put.{put}
use Rattle.jumps.specs.State.{Fixed}
use Rattle.rehearsal.specs.Run.{input_refused}
use Rattle.paused.specs.Pause.{call_refused, Went, called}
use Rattle.paused.specs.declared.Pace.{Pace}
use Rattle.state_c.specs.Numbers.{held_numbers, held_in}

-- 1, 2, 3, 5, and then 70
unfoldable pub condition_refused : ℕ → Fixed → ℕ
condition_refused budget e =
    not (eqb (input_refused (length e.words) e.setting.wave.0 budget) 0) gives input_refused (length e.words) e.setting.wave.0 budget
    else 70

-- how a call ended, the numbers then, and the words that it dispatched
pub record Told : Type 0 where
  pub end : Refusal
  pub numbers : List ℕ
  pub out : List ℕ

abbrev pub told_of : Went → Told
told_of w = record { end = w.end; numbers = held_numbers w.paused; out = w.out }

unfoldable pub called_on : Pace → ℕ → Fixed → List ℕ → Told
called_on pace budget e l =
    pick (ltb (get_or l 18 0) 3)
    (told_of (called pace budget e (held_in l)))
    (record { end = numbered (condition_refused budget e); numbers = l; out = [] })

-- the refusal of a call on such numbers, 0 where none is given
unfoldable pub called_refused : ℕ → Fixed → List ℕ → ℕ
called_refused budget e l = pick (ltb (get_or l 18 0) 3) (call_refused budget e (held_in l)) (condition_refused budget e)

-- what `aps2_step` and `aps2_go_on` answer, and what they leave in the numbers, in the bit and in the trace
pub record CallMade (t : Told) (l before after l' bit : List ℕ) (r : ℕ) : Type 0 where
  pub number : r ≡ t.end.number
  pub told : bit ≡ t.end.bit ∷ []
  pub numbers : l' ≡ t.numbers
  pub trace : after ≡ put before (get_or l 3 0) t.out
