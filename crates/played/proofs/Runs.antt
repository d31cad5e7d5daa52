-- The run of a block that lies in the words: through its line with its plays dispatched and its stack as it was, and at the end to the park.
-- Assumes nothing.
use Prim.Native.Nat.{ℕ, zero, suc, ◌+◌, ◌*◌, ◌≤◌, ◌<◌}
use mathlib.Core.Path.{◌≡◌, refl, sym, ap, subst, ◌∙◌}
use mathlib.Core.List.{List, [], ◌∷◌, ◌++◌, append_assoc, append-nil}
use native.Mathlib.Nat.{suc-mul, zero-mul, add-zero, zero-add}
use native.Mathlib.Omega.{arith}
use lib.ListN.{length, get_or, set, replicate, length-append}
use Rattle.instruction.specs.Table.{code_of}
use Rattle.instruction.specs.Word.{spelled_by, word_of}
use Rattle.instruction.specs.declared.Instruction.{Instruction}
use Rattle.instruction.specs.declared.Body.TheVariants.{Waveform, Repeat, Goto, Call, Return, Sync}
use Rattle.sequence.specs.Bounds.{stack_depth}
use Rattle.jumps.specs.State.{Fixed, Did, fresh, stop}
use Rattle.jumps.specs.declared.State.{State}
use Rattle.rehearsal.specs.Run.{onto, then_did, run_of}
use Rattle.nest.specs.Block.{Block, done, pulse, repeat, high, low}
use Rattle.nest.specs.Layout.{park_of}
use Rattle.demands.specs.Run.{Stack}
use Rattle.fields.proofs.Gathered.{zero_at}
use Rattle.played.specs.Played.{times, unrolled, dispatched_by, steps_in, steps_to}
use Rattle.played.proofs.Sound.{body_at}
use Rattle.played.proofs.Lines.{Lies, ends, plays, repeats, Laid}
use Rattle.played.proofs.Goes.{Goes, goes_none, goes_one, goes_then, goes_as}
use Rattle.played.proofs.Steps.{st, same, pushed, On, load_step, goto_step, call_step, return_step, last_step, again_step, sync_step, pulse_step}

-- the counter that a block leaves
abbrev leaves : Block → ℕ → ℕ
leaves done k = k
leaves (pulse f b) k = leaves b k
leaves (repeat n c b) k = leaves b 0

pub leaves_none : (b : Block) → leaves b 0 ≡ 0
leaves_none done = refl
leaves_none (pulse f b) = leaves_none b
leaves_none (repeat n c b) = leaves_none b

abbrev pub empty : List ℕ
empty = replicate stack_depth 0

empty_stack : Stack 0 empty
empty_stack = record { size = refl; unused = λ i h. zero_at stack_depth i }

module _ (e : Fixed) (a : ℕ) (park : On e a (low (Goto (record { 0 = a })))) where
  -- a state that does not stand at the park
  abbrev pub Away : State → Type 0
  Away s = s.core.address.0 ≡ a → ⊥

  away : {p : ℕ} {i : Instruction} → On e p i → (code_of i.body ≡ 6 → ⊥) → p ≡ a → ⊥
  away {p} {i} h n z =
      n
      (sym (ap code_of (body_at e.setting.rules e.setting.wave.0 e.words h))
      ∙ ap (λ (x : ℕ). code_of (spelled_by (get_or e.words x 0)).body) z
      ∙ ap code_of (body_at e.setting.rules e.setting.wave.0 e.words park))

  -- ---- a repeat

  module _ (c : Block) {d p s r : ℕ} (deep : d < stack_depth) (at_call : On e p (low (Call (record { 0 = s })))) (at_again : On e (suc p) (low (Repeat (record { 0 = p }))))
      (at_return_lem : On e r (low (Return (record { 0 = 0 }))))
      (body : (t k : ℕ) (rs cs out : List ℕ) → Stack (suc d) rs → Stack (suc d) cs → length out + length (unrolled c) ≤ e.room
      → Goes e Away (steps_in c) (unrolled c) (st s t k (suc d) rs cs out) (st r (t + steps_in c) (leaves c k) (suc d) rs cs (out ++ unrolled c)))
      (rs cs : List ℕ) (sr : Stack d rs) (sc : Stack d cs) where
    -- CALL, the body, RETURN
    pass : (t k : ℕ) (out : List ℕ) → length out + length (unrolled c) ≤ e.room
        → Goes e Away (2 + steps_in c) (unrolled c) (st p t k d rs cs out) (st (suc p) (t + (2 + steps_in c)) k d rs cs (out ++ unrolled c))
    pass t k out h =
        goes_as
        (goes_then
        (goes_one (away at_call (λ z. omega arith)) (call_step e p t k d rs cs out s deep at_call) refl)
        (goes_then
        (body (t + 1) k (set rs d (suc p)) (set cs d k) out (pushed sr (suc p)) (pushed sc k) h)
        (goes_one (away at_return_lem (λ z. omega arith))
        (return_step e r (t + 1 + steps_in c) (leaves c k) d rs cs (out ++ unrolled c) deep sr sc (suc p) k at_return_lem) refl)))
        (cost (steps_in c)) (append-nil (unrolled c)) (same {out = out ++ unrolled c} refl (steps t (steps_in c)) refl refl)
      where
        cost : (x : ℕ) → 1 + (x + 1) ≡ 2 + x
        cost x = omega arith

        steps : (t x : ℕ) → t + 1 + x + 1 ≡ t + (2 + x)
        steps t x = omega arith

    passes : (k t : ℕ) (out : List ℕ) → length out + length (times (suc k) (unrolled c)) ≤ e.room
        → Goes e Away (suc k * (3 + steps_in c)) (times (suc k) (unrolled c)) (st p t k d rs cs out)
        (st (suc (suc p)) (t + suc k * (3 + steps_in c)) 0 d rs cs (out ++ times (suc k) (unrolled c)))
    passes zero t out h =
        let l : length (unrolled c ++ []) ≡ length (unrolled c) = ap length (append-nil (unrolled c)) in
        let m : suc zero * (3 + steps_in c) ≡ 3 + steps_in c = suc-mul zero (3 + steps_in c) ∙ ap (λ (x : ℕ). x + (3 + steps_in c)) (zero-mul (3 + steps_in c)) ∙ zero-add (3 + steps_in c) in
        goes_as
        (goes_then (pass t zero out (omega (arith, h, l)))
        (goes_one (away at_again (λ z. omega arith)) (last_step e (suc p) (t + (2 + steps_in c)) d rs cs (out ++ unrolled c) p at_again) refl))
        (omega (arith, m)) refl (same refl (omega (arith, m)) refl (ap (λ (x : List ℕ). out ++ x) (sym (append-nil (unrolled c)))))
    passes (suc k) t out h =
        let x = 3 + steps_in c in
        let l = length-append (unrolled c) (times (suc k) (unrolled c)) in
        let l₂ = length-append out (unrolled c) in
        let m : suc (suc k) * x ≡ suc k * x + x = suc-mul (suc k) x in
        goes_as
        (goes_then (pass t (suc k) out (omega (arith, h, l)))
        (goes_then
        (goes_one (away at_again (λ z. omega arith)) (again_step e (suc p) (t + (2 + steps_in c)) d rs cs (out ++ unrolled c) p at_again k) refl)
        (passes k (t + (2 + steps_in c) + 1) (out ++ unrolled c) (omega (arith, h, l, l₂)))))
        (omega (arith, m)) refl (same refl (omega (arith, m)) refl (append_assoc out (unrolled c) (times (suc k) (unrolled c))))

    passes_of : (n k : ℕ) → n ≡ suc k → (t : ℕ) (out : List ℕ) → length out + length (times n (unrolled c)) ≤ e.room
        → Goes e Away (n * (3 + steps_in c)) (times n (unrolled c)) (st p t k d rs cs out)
        (st (suc (suc p)) (t + n * (3 + steps_in c)) 0 d rs cs (out ++ times n (unrolled c)))
    passes_of n k q t out =
        subst
        (λ (x : ℕ). length out + length (times x (unrolled c)) ≤ e.room
        → Goes e Away (x * (3 + steps_in c)) (times x (unrolled c)) (st p t k d rs cs out)
        (st (suc (suc p)) (t + x * (3 + steps_in c)) 0 d rs cs (out ++ times x (unrolled c))))
        (sym q) (passes k t out)

  -- ---- a block

  block_goes : (b : Block) {d p q : ℕ} → Lies e.setting.rules e.setting.wave.0 e.words b d p q
      → (t k : ℕ) (rs cs out : List ℕ) → Stack d rs → Stack d cs → length out + length (unrolled b) ≤ e.room
      → Goes e Away (steps_in b) (unrolled b) (st p t k d rs cs out) (st q (t + steps_in b) (leaves b k) d rs cs (out ++ unrolled b))
  block_goes _ {d} {p} ends t k rs cs out sr sc h =
      goes_as (goes_none (st p t k d rs cs out)) refl refl (same refl (sym (add-zero t)) refl (sym (append-nil out)))
  block_goes _ {d} {p} (plays {f = f} {b = b} o at l) t k rs cs out sr sc h =
      let w = word_of (high (Waveform f)) in
      goes_as
      (goes_then
      (goes_one (away at (λ z. omega arith)) (pulse_step e p t k d rs cs out (omega arith) f o at) refl)
      (block_goes b l (t + 1) k rs cs (out ++ (w ∷ [])) sr sc (omega (arith, h, length-append out (w ∷ [])))))
      refl refl (same refl (steps t (steps_in b)) refl (append_assoc out (w ∷ []) (unrolled b)))
    where
      steps : (t x : ℕ) → t + 1 + x ≡ t + (1 + x)
      steps t x = omega arith
  block_goes _ {d} {p} (repeats {n = n} {k = m} {c = c} {b = b} q deep at_load at_call at_again lc at_return_lem lb) t k rs cs out sr sc h =
      let xs = times n (unrolled c) in
      let l = length-append xs (unrolled b) in
      let w = n * (3 + steps_in c) in
      goes_as
      (goes_then
      (goes_one (away at_load (λ z. omega arith)) (load_step e p t k d rs cs out m at_load) refl)
      (goes_then
      (passes_of c deep at_call at_again at_return_lem (block_goes c lc) rs cs sr sc n m q (t + 1) out (omega (arith, h, l)))
      (block_goes b lb (t + 1 + w) 0 rs cs (out ++ xs) sr sc (omega (arith, h, l, length-append out xs)))))
      (cost w (steps_in b)) refl (same refl (steps t w (steps_in b)) refl (append_assoc out xs (unrolled b)))
    where
      cost : (w x : ℕ) → 1 + (w + x) ≡ 1 + w + x
      cost w x = omega arith

      steps : (t w x : ℕ) → t + 1 + w + x ≡ t + (1 + w + x)
      steps t w x = omega arith

  -- ---- the park

  -- "it stays": a step goes back to where it stands, and nothing is dispatched
  pub stays : (m t k d : ℕ) (rs cs out : List ℕ) → run_of m e (st a t k d rs cs out) ≡ stop 40 (st a (t + m) k d rs cs out)
  unfolding run_of
  stays zero t k d rs cs out = ap (λ (x : ℕ). stop 40 (st a x k d rs cs out)) (sym (add-zero t))
  stays (suc m) t k d rs cs out =
      ap (λ (x : Did). then_did x (run_of m e x.state)) (goto_step e a t k d rs cs out a park)
      ∙ ap (onto []) (stays m (t + 1) k d rs cs out)
      ∙ ap (λ (x : ℕ). stop 40 (st a x k d rs cs out)) (steps t m)
    where
      steps : (t m : ℕ) → t + 1 + m ≡ t + suc m
      steps t m = omega arith

-- ---- the whole sequence

-- the state at the park
abbrev pub parked : Block → ℕ → State
parked b t = st (park_of b) t (leaves b 0) 0 empty empty (dispatched_by b)

module _ (e : Fixed) (b : Block) (l : Laid e.setting.rules e.setting.wave.0 e.words b) where
  pub runs : length (dispatched_by b) ≤ e.room → Goes e (Away e (park_of b) l.park) (steps_to b) (dispatched_by b) fresh (parked b (steps_to b))
  runs h =
      goes_then
      (goes_one (away e (park_of b) l.park l.sync (λ z. omega arith)) (sync_step e 0 0 0 0 empty empty [] (omega arith) l.sync) refl)
      (block_goes e (park_of b) l.park b l.line 1 0 empty empty (word_of (high Sync) ∷ []) empty_stack empty_stack (omega (arith, h)))

  -- from fresh on, with steps enough to get there: it stands at the park
  pub arrives : length (dispatched_by b) ≤ e.room → (m n : ℕ) → n ≡ steps_to b + m → run_of n e fresh ≡ onto (dispatched_by b) (stop 40 (parked b n))
  arrives h m n q =
      (runs h).goes m n q
      ∙ ap (onto (dispatched_by b)) (stays e (park_of b) l.park m (steps_to b) (leaves b 0) 0 empty empty (dispatched_by b))
      ∙ ap (λ (x : ℕ). onto (dispatched_by b) (stop 40 (parked b x))) (sym q)
