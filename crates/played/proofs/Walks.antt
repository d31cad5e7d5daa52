-- The walk of a sequence that lies in the words: each of its places leads to such places again, and none is a fault.
-- Assumes nothing.
use Prim.Native.Nat.{ℕ, zero, suc, ◌+◌, ◌<◌}
use mathlib.Core.Path.{◌≡◌, refl, sym, subst}
use mathlib.Core.Bool.{Bool, false, true≢false}
use mathlib.Core.List.{List}
use native.Mathlib.Numerals.{add-one}
use native.Mathlib.Omega.{arith}
use lib.ListN.{length}
use Rattle.instruction.specs.declared.Rules.{Rules}
use Rattle.instruction.specs.declared.Instruction.{Instruction}
use Rattle.instruction.specs.declared.Body.TheVariants.{Repeat, Goto, Call, Return}
use Rattle.sequence.specs.Bounds.{stack_depth}
use Rattle.flow.specs.Move.{move_of, move_at}
use Rattle.flow.specs.Walk.{Reached, start, compare, jump, enter, leave, passed, loop, looped, other, Fault, past, full, empty}
use Rattle.flow.specs.declared.Move.{Move}
use Rattle.flow.specs.declared.Move.TheVariants.{Other, Compare, Jump, Enter, Leave, Loop}
use Rattle.nest.specs.Block.{Block, low}
use Rattle.played.proofs.Sound.{Takes, move_at_lem}
use Rattle.played.proofs.Lines.{Lies, ends, plays, repeats, Laid}

-- what stands behind a line: a RETURN, and at depth 0 the park
abbrev Closes : Rules → ℕ → List ℕ → ℕ → ℕ → Type 0
Closes rules wave words zero q = Takes rules wave words q (low (Goto (record { 0 = q })))
Closes rules wave words (suc d) q = Takes rules wave words q (low (Return (record { 0 = 0 })))

-- a repeat whose CALL stands at p, and the line that it stands in
record Round (rules : Rules) (wave : ℕ) (words : List ℕ) (p d : ℕ) : Type 0 where
  inner : Block
  rest : Block
  from : ℕ
  to : ℕ
  end : ℕ
  deep : d < stack_depth
  call : Takes rules wave words p (low (Call (record { 0 = from })))
  again : Takes rules wave words (suc p) (low (Repeat (record { 0 = p })))
  inside : Lies rules wave words inner (suc d) from to
  return : Takes rules wave words to (low (Return (record { 0 = 0 })))
  behind : Lies rules wave words rest d (suc (suc p)) end
  closes : Closes rules wave words d end

-- an address and a depth: SYNC, from where on a line is left, or the CALL or the REPEAT of a repeat
data Place (rules : Rules) (wave : ℕ) (words : List ℕ) : ℕ → ℕ → Type 0 where
  first : Place rules wave words 0 0
  line : {b : Block} {d p q : ℕ} → Lies rules wave words b d p q → Closes rules wave words d q → Place rules wave words p d
  calls : {p d : ℕ} → Round rules wave words p d → Place rules wave words p d
  loops : {p d : ℕ} → Round rules wave words p d → Place rules wave words (suc p) d

module _ (rules : Rules) (wave : ℕ) (words : List ℕ) (b : Block) (laid : Laid rules wave words b) where
  abbrev At : ℕ → ℕ → Type 0
  At a d = Place rules wave words a d

  -- where a move leads, and that it is no fault
  abbrev Leads : Move → ℕ → ℕ → Type 0
  Leads Other a d = At (a + 1) d
  Leads Compare a d = ⊥
  Leads (Jump t) a d = At t.0 d
  Leads (Enter t) a d = (d < stack_depth) × At t.0 (d + 1) × At (a + 1) d
  Leads Leave a d = 0 < d
  Leads (Loop t) a d = At t.0 d × At (a + 1) d

  abbrev Closed : ℕ → ℕ → Type 0
  Closed a d = (a < length words) × Leads (move_at words a) a d

  leads : (p d : ℕ) {i : Instruction} → Takes rules wave words p i → Leads (move_of i.body) p d → Closed p d
  leads p d t h = (t.at.0, subst (λ (m : Move). Leads m p d) (sym (move_at_lem rules wave words t)) h)

  next : (a d : ℕ) → At (suc a) d → At (a + 1) d
  next a d = subst (λ (x : ℕ). At x d) (sym (add-one a))

  ended : (d p : ℕ) → Closes rules wave words d p → Closed p d
  ended zero p t = leads p 0 t (line ends t)
  ended (suc d) p t = leads p (suc d) t (omega arith)

  closed : {a d : ℕ} → At a d → Closed a d
  closed first = leads 0 0 laid.sync (line laid.line laid.park)
  closed (line {d = d} {p = p} ends c) = ended d p c
  closed (line {d = d} {p = p} (plays o t l) c) = leads p d t (next p d (line l c))
  closed (line {d = d} {p = p} (repeats {c = inner} {b = rest} {q = q} {s = s} {r = r} _ deep load call again inside return behind) c) =
      leads p d load
      (next p d
      (calls
      (record {
        inner = inner;
        rest = rest;
        from = s;
        to = r;
        end = q;
        deep = deep;
        call = call;
        again = again;
        inside = inside;
        return = return;
        behind = behind;
        closes = c;
      })))
  closed (calls {p = p} {d = d} r) =
      leads p d r.call (
        r.deep,
        subst (λ (x : ℕ). At r.from x) (sym (add-one d)) (line r.inside r.return),
        next p d (loops r),
      )
  closed (loops {p = p} {d = d} r) = leads (suc p) d r.again (calls r, next (suc p) d (line r.behind r.closes))

  led : {a d : ℕ} {m : Move} → At a d → move_at words a ≡ m → Leads m a d
  led {a} {d} h e = subst (λ (m : Move). Leads m a d) e (closed h).1

  places : {a d : ℕ} {c : Bool} → Reached stack_depth words a d c → (c ≡ false) × At a d
  places start = (refl, first)
  places (compare r _ e) = absurd (led (places r).1 e)
  places (jump r _ e) = (refl, led (places r).1 e)
  places (enter r _ e _) = (refl, (led (places r).1 e).1)
  places (leave _ _ _ r _ e) = (refl, (led (places r).1 e).2)
  places (passed r _ _) = absurd (true≢false (places r).0)
  places (loop r _ e) = ((places r).0, (led (places r).1 e).0)
  places (looped r _ e) = ((places r).0, (led (places r).1 e).1)
  places (other r _ e) = ((places r).0, led (places r).1 e)

  pub no_fault : (k a : ℕ) → Fault stack_depth words k a → ⊥
  no_fault k a (past r) = omega (arith, (closed (places r).1).0)
  no_fault k a (full r _ e) = omega (arith, (led (places r).1 e).0)
  no_fault k a (empty r _ e) = omega (arith, led (places r).1 e)
