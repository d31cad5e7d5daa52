-- The rules of the walk in the shape in which marks follow them: on to the next address, over to a target, and back after a CALL.
-- `walked` and `reached` show that this is the walk of specs/Walk.antt. Assumes nothing.
use Prim.Native.Nat.{ℕ, ◌+◌, ◌<◌}
use mathlib.Core.Path.{◌≡◌, refl, sym, subst}
use mathlib.Core.Bool.{Bool, true, false}
use mathlib.Core.List.{List}
use lib.ListN.{length}
use Rattle.instruction.specs.declared.WordAddress.{WordAddress}
use Rattle.flow.specs.Move.{move_at}
use Rattle.flow.specs.Walk.{UsesCondition, goto, call, ret, Reached, start, compare, jump, enter, leave, passed, loop, looped, other}
use Rattle.flow.specs.declared.Move.{Move}
use Rattle.flow.specs.declared.Move.TheVariants.{Other, Compare, Jump, Enter, Leave, Loop}

-- from depth d and condition c a word goes on to the next address at d' and c'
pub data Onward : Move → ℕ → Bool → ℕ → Bool → Type 0 where
  plain_on : {d : ℕ} {c : Bool} → Onward Other d c d c
  cmp_on : {d : ℕ} {c : Bool} → Onward Compare d c d true
  goto_on : {t : WordAddress} {d : ℕ} → Onward (Jump t) d true d false
  call_on : {t : WordAddress} {d : ℕ} → Onward (Enter t) d true d false
  return_on : {d : ℕ} → Onward Leave d true d false
  repeat_on : {t : WordAddress} {d : ℕ} {c : Bool} → Onward (Loop t) d c d c

-- and it jumps to t, at d' and c'
pub data Leaps (lim : ℕ) : Move → ℕ → Bool → ℕ → ℕ → Bool → Type 0 where
  goto_to : {t : WordAddress} {d : ℕ} {c : Bool} → Leaps lim (Jump t) d c t.0 d false
  call_to : {t : WordAddress} {d : ℕ} {c : Bool} → d < lim → Leaps lim (Enter t) d c t.0 (d + 1) false
  repeat_to : {t : WordAddress} {d : ℕ} {c : Bool} → Leaps lim (Loop t) d c t.0 d c

pub data Walked (lim : ℕ) (ws : List ℕ) : ℕ → ℕ → Bool → Type 0 where
  begin : Walked lim ws 0 0 false
  on : {a d : ℕ} {c : Bool} {e : ℕ} {h : Bool} → Walked lim ws a d c → a < length ws → Onward (move_at ws a) d c e h → Walked lim ws (a + 1) e h
  over : {a d : ℕ} {c : Bool} {t e : ℕ} {h : Bool} → Walked lim ws a d c → a < length ws → Leaps lim (move_at ws a) d c t e h → Walked lim ws t e h
  back : {a d : ℕ} {c : Bool} {b : ℕ} {h : Bool} {t : WordAddress} → Walked lim ws a (d + 1) c → a < length ws → move_at ws a ≡ Leave
      → Walked lim ws b d h → b < length ws → move_at ws b ≡ Enter t → Walked lim ws (b + 1) d false

-- ---- the two are one

uses_on : {o : Move} (d : ℕ) → UsesCondition o → Onward o d true d false
uses_on d goto = goto_on
uses_on d call = call_on
uses_on d ret = return_on

pub walked : {lim : ℕ} {ws : List ℕ} {a d : ℕ} {c : Bool} → Reached lim ws a d c → Walked lim ws a d c
walked start = begin
walked (compare {d = d} {c = c} q l o) = on (walked q) l (subst (λ (m : Move). Onward m d c d true) (sym o) cmp_on)
walked {lim} (jump {d = d} {c = c} {t = t} q l o) = over (walked q) l (subst (λ (m : Move). Leaps lim m d c t.0 d false) (sym o) goto_to)
walked {lim} (enter {d = d} {c = c} {t = t} q l o k) = over (walked q) l (subst (λ (m : Move). Leaps lim m d c t.0 (d + 1) false) (sym o) (call_to k))
walked (leave p k o q l u) = back (walked p) k o (walked q) l u
walked (passed {d = d} q l u) = on (walked q) l (uses_on d u)
walked {lim} (loop {d = d} {c = c} {t = t} q l o) = over (walked q) l (subst (λ (m : Move). Leaps lim m d c t.0 d c) (sym o) repeat_to)
walked (looped {d = d} {c = c} q l o) = on (walked q) l (subst (λ (m : Move). Onward m d c d c) (sym o) repeat_on)
walked (other {d = d} {c = c} q l o) = on (walked q) l (subst (λ (m : Move). Onward m d c d c) (sym o) plain_on)

onward : {lim : ℕ} {ws : List ℕ} {a : ℕ} (o : Move) {d : ℕ} {c : Bool} {e : ℕ} {h : Bool} → move_at ws a ≡ o → Reached lim ws a d c → a < length ws → Onward o d c e h → Reached lim ws (a + 1) e h
onward o p q l plain_on = other q l p
onward o p q l cmp_on = compare q l p
onward o p q l goto_on = passed q l (subst UsesCondition (sym p) goto)
onward o p q l call_on = passed q l (subst UsesCondition (sym p) call)
onward o p q l return_on = passed q l (subst UsesCondition (sym p) ret)
onward o p q l repeat_on = looped q l p

leaps : {lim : ℕ} {ws : List ℕ} {a : ℕ} (o : Move) {d : ℕ} {c : Bool} {t e : ℕ} {h : Bool} → move_at ws a ≡ o → Reached lim ws a d c → a < length ws → Leaps lim o d c t e h → Reached lim ws t e h
leaps o p q l goto_to = jump q l p
leaps o p q l (call_to k) = enter q l p k
leaps o p q l repeat_to = loop q l p

pub reached : {lim : ℕ} {ws : List ℕ} {a d : ℕ} {c : Bool} → Walked lim ws a d c → Reached lim ws a d c
reached begin = start
reached {ws = ws} (on {a = a} q l n) = onward (move_at ws a) refl (reached q) l n
reached {ws = ws} (over {a = a} q l j) = leaps (move_at ws a) refl (reached q) l j
reached (back p k o q l u) = leave (reached p) k o (reached q) l u
