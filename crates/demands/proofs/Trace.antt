-- `trace_reads`: the words that are held stand right below the address and read, so that each group that is sent reads.
-- Assumes nothing.
use mathlib.Core.Path.{◌≡◌, sym, subst}
use mathlib.Core.List.{List, [], ◌∷◌, ◌++◌, append-nil}
use Prim.Native.Nat.{ℕ, ◌+◌, ◌-◌, ◌≤◌, ◌<◌}
use native.Mathlib.Numerals.{add-one}
use native.Mathlib.Omega.{arith}
use lib.ListN.{length, get_or, drop, length-drop}
use lib.Seq.{take-suc, get_or-drop}
use Rattle.dispatch.specs.Trace.{part}
use Rattle.jumps.specs.State.{Fixed, Did}
use Rattle.jumps.specs.Jumps.{hold_of}
use Rattle.jumps.specs.declared.Core.{Core}
use Rattle.jumps.specs.declared.State.{State}
use Rattle.machine.specs.Step.{group_of, step_of}
use Rattle.machine.specs.Kept.{Good}
use Rattle.demands.specs.Run.{Reads, Every, TraceReads}
use Rattle.demands.proofs.Steps.{Outcome, stops, flows, holds, sends, outcome}
use Rattle.demands.proofs.Along.{all_along}

every_append : (P : ℕ → Type 0) (xs ys : List ℕ) → Every P xs → Every P ys → Every P (xs ++ ys)
every_append P [] ys p q = q
every_append P (x ∷ xs) ys p q = (p.0, every_append P xs ys p.1 q)

-- the words that are held, right below the address
abbrev pub held_words : Fixed → Core → List ℕ
held_words e c = part (c.address.0 - c.held) c.held e.words

-- a group is the words that are held, and the word at the address
group_is : (words : List ℕ) (a h : ℕ) → h ≤ a → a < length words → part (a - h) (h + 1) words ≡ part (a - h) h words ++ (get_or words a 0 ∷ [])
group_is words a h l k =
    let m : h < length (drop (a - h) words) = rw length-drop (omega arith) in
    let n : a - h + h ≡ a = omega arith in
    rw (add-one, take-suc (drop (a - h) words) h 0, get_or-drop (a - h) words h 0, n)

-- what holds of the words that are held and of the word at the address holds of the group, and of what is held when that word is
module _ (P : ℕ → Type 0) (e : Fixed) (s : State) (b : Good e s) (inside : s.core.address.0 < length e.words)
    (p : Every P (held_words e s.core)) (q : P (get_or e.words s.core.address.0 0)) where
  group_every : Every P (group_of e s.core)
  group_every =
      subst (Every P) (sym (group_is e.words s.core.address.0 s.core.held b.behind inside))
      (every_append P (held_words e s.core) (get_or e.words s.core.address.0 0 ∷ []) p (q, tt))

  pub held_every : Every P (held_words e (hold_of s.core))
  held_every = subst (λ (a : ℕ). Every P (part a (s.core.held + 1) e.words)) below group_every
    where
      below : s.core.address.0 - s.core.held ≡ s.core.address.0 + 1 - (s.core.held + 1)
      below = omega arith

-- what is dispatched so far reads, and so does what is held
record Read (e : Fixed) (out : List ℕ) (c : Core) : Type 0 where
  sent : Every (Reads e.setting.rules) out
  held : Every (Reads e.setting.rules) (held_words e c)

module _ (e : Fixed) (out : List ℕ) (s : State) (b : Good e s) (p : Read e out s.core) where
  quiet : Every (Reads e.setting.rules) (out ++ [])
  quiet = subst (Every (Reads e.setting.rules)) (sym (append-nil out)) p.sent

  read_step : (d : Did) → Outcome e s d → Read e (out ++ d.out) d.state.core
  read_step d (stops r h _) = record { sent = quiet; held = p.held }
  read_step d (flows c rs cs f) = record { sent = quiet; held = subst (λ (h : ℕ). Every (Reads e.setting.rules) (part (c.address.0 - h) h e.words)) (sym f.held) tt }
  read_step d (holds g _) = record { sent = quiet; held = held_every (Reads e.setting.rules) e s b g.inside p.held g.reads }
  read_step d (sends g) = record { sent = every_append (Reads e.setting.rules) out (group_of e s.core) p.sent (group_every (Reads e.setting.rules) e s b g.inside p.held g.reads); held = tt }

pub trace_reads : TraceReads
trace_reads e budget =
    (all_along e (λ out s. Read e out s.core) (λ out s b p. read_step e out s b p (step_of e s) (outcome e s)) (record { sent = tt; held = tt }) budget).sent
