-- The verdict on flow: "then flow, reporting the lowest faulty address. Accepted is 0 at place 0."
-- A reader of the check believes `FlowIs`.
use Rattle.std.specs.Prelude.{ℕ, ◌≤◌, ◌<◌, List, length}
use Rattle.instruction.specs.Form.{numbered}
use Rattle.instruction.specs.declared.Refusal.{Refusal}
use Rattle.flow.specs.Masks.{to_of}
use Rattle.flow.specs.Move.{move_at}
use Rattle.flow.specs.Walk.{Fault}
use Rattle.look.specs.Closed.{MarksFit}
use Rattle.walk.specs.Marks.{Exact}
use Rattle.walk.specs.Loops.{ReturnsIn, FirstFault}
use Rattle.verdict.specs.declared.Verdict.{Verdict}

abbrev pub verdict : Refusal → ℕ → Verdict
verdict refusal place = record { refusal = refusal; place = record { 0 = place } }

-- 0 at 0 where there is no fault, else the fault at the lowest address that has one
pub data FlowIs (limit : ℕ) (words : List ℕ) : Verdict → Type 0 where
  sound : ((number a : ℕ) → Fault limit words number a → ⊥) → FlowIs limit words (verdict (numbered 0) 0)
  faulty : {number a : ℕ} → Fault limit words number a → ((j b : ℕ) → Fault limit words j b → a ≤ b) → FlowIs limit words (verdict (numbered number) a)

-- every target is the address of a word: what 21 leaves
abbrev pub Targets : List ℕ → Type 0
Targets words = (a : ℕ) → a < length words → to_of (move_at words a) < length words

-- ---- what the functions ask

-- exact marks, of words whose targets are words, with the depths r of their RETURNs and their first fault f
pub record CanJudge (lim : ℕ) (ws ms : List ℕ) (r f : ℕ) : Type 0 where
  pub fits : MarksFit ws ms 0 lim
  pub some : 0 < length ws
  pub targets : Targets ws
  pub exact : Exact lim ws ms
  pub returns : ReturnsIn ws ms (length ws) r
  pub fault : FirstFault lim ws ms (length ws) f
