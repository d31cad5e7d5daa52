-- Laws of a call on a state in numbers: what it is refused for, and that numbers which are no state, or are refused, stay as they were.
-- Assumes nothing.
use Prim.Native.Nat.{ℕ, ◌≤◌, ◌<◌}
use mathlib.Core.Path.{◌≡◌, refl, sym, ap, ◌∙◌, subst}
use mathlib.Core.Bool.{Bool, true, false}
use mathlib.Core.List.{List, [], ◌∷◌}
use borrow.Author.Tests.{ne_eqb, lt-ltb, le-ltb, ltb-true, ltb-false}
use lib.Dec.{ltb}
use lib.ListN.{length, get_or}
use Rattle.instruction.specs.Bits.{pick}
use Rattle.instruction.specs.Form.{numbered}
use Rattle.instruction.specs.declared.Refusal.{Refusal}
use Rattle.buffer.specs.Put.{put}
use Rattle.buffer.proofs.Laws.{put_none}
use Rattle.jumps.specs.State.{Fixed, fixed_by}
use Rattle.rehearsal.specs.Run.{input_refused}
use Rattle.paused.specs.Pause.{call_refused, called, Called, setting_of}
use Rattle.paused.specs.declared.Asked.{Asked}
use Rattle.paused.specs.declared.Pace.{Pace}
use Rattle.paused.specs.declared.Paused.{Paused}
use Rattle.paused.proofs.Pauses.{called_refused_lem}
use Rattle.state_c.specs.Numbers.{held_numbers, held_in}
use Rattle.state_c.proofs.Back.{numbers_back}
use Rattle.aps2_c.specs.Calls.{condition_refused, Told, told_of, called_on, called_refused, CallMade}

-- ---- a condition that is none

module _ (budget : ℕ) (e : Fixed) (number : ℕ) (h : number ≡ input_refused (length e.words) e.setting.wave.0 budget) where
  pub condition_input : (number ≡ 0 → ⊥) → number ≡ condition_refused budget e
  unfolding condition_refused
  condition_input z = rw (← h, ne_eqb _ _ z)

  pub condition_70 : number ≡ 0 → 70 ≡ condition_refused budget e
  unfolding condition_refused
  condition_70 z = rw (← h, z)

-- ---- by the condition

module _ (pace : Pace) (budget : ℕ) (e : Fixed) (l : List ℕ) where
  called_none : 3 ≤ get_or l 18 0 → called_on pace budget e l ≡ record { end = numbered (condition_refused budget e); numbers = l; out = [] }
  unfolding called_on
  called_none h = rw (le-ltb (get_or l 18 0) 3 h)

  called_state : get_or l 18 0 < 3 → called_on pace budget e l ≡ told_of (called pace budget e (held_in l))
  unfolding called_on
  called_state h = rw (lt-ltb (get_or l 18 0) 3 h)

  pub none_made : 3 ≤ get_or l 18 0 → (number : ℕ) → number ≡ condition_refused budget e → (t : List ℕ) → CallMade (called_on pace budget e l) l t t l (0 ∷ []) number
  none_made h number k t = rw (called_none h) (record { number = k; told = refl; numbers = refl; trace = sym (put_none t (get_or l 3 0)) })

  call_made : get_or l 18 0 < 3 → (before after l' : List ℕ) (end : Refusal) (p' : Paused)
      → Called (called pace budget e (held_in l)) (held_in l) before end p' after → l' ≡ held_numbers p'
      → CallMade (called_on pace budget e l) l before after l' (end.bit ∷ []) end.number
  call_made h before after l' end p' c k =
      rw (called_state h)
      (record {
        number = ap (λ (r : Refusal). r.number) c.answer;
        told = ap (λ (r : Refusal). r.bit ∷ []) c.answer;
        numbers = k ∙ ap held_numbers c.held;
        trace = c.trace;
      })

  -- ---- "nothing is changed by them": the numbers and the trace are as they were

  pub refused_keeps_numbers : length l ≡ 55 → (called_refused budget e l ≡ 0 → ⊥) → {before after l' bit : List ℕ} {r : ℕ} → CallMade (called_on pace budget e l) l before after l' bit r
      → (r ≡ called_refused budget e l) × (bit ≡ 0 ∷ []) × (l' ≡ l) × (after ≡ before)
  unfolding called_refused
  refused_keeps_numbers n z {before} {after} {l'} {bit} {r} m = by (ltb (get_or l 18 0) 3) refl z
    where
      by : (b : Bool) → ltb (get_or l 18 0) 3 ≡ b → (pick b (call_refused budget e (held_in l)) (condition_refused budget e) ≡ 0 → ⊥)
          → (r ≡ pick b (call_refused budget e (held_in l)) (condition_refused budget e)) × (bit ≡ 0 ∷ []) × (l' ≡ l) × (after ≡ before)
      by false t k =
          let q = called_none (ltb-false (get_or l 18 0) 3 t) in (
            m.number ∙ ap (λ (y : Told). y.end.number) q,
            m.told ∙ ap (λ (y : Told). y.end.bit ∷ []) q,
            m.numbers ∙ ap (λ (y : Told). y.numbers) q,
            m.trace ∙ ap (λ (y : Told). put before (get_or l 3 0) y.out) q ∙ put_none before (get_or l 3 0),
          )
      by true t k =
          let q = called_state (ltb-true (get_or l 18 0) 3 t) ∙ ap told_of (called_refused_lem pace budget e (held_in l) k) in (
            m.number ∙ ap (λ (y : Told). y.end.number) q,
            m.told ∙ ap (λ (y : Told). y.end.bit ∷ []) q,
            m.numbers ∙ ap (λ (y : Told). y.numbers) q ∙ numbers_back l n (ltb-true (get_or l 18 0) 3 t),
            m.trace ∙ ap (λ (y : Told). put before (get_or l 3 0) y.out) q ∙ put_none before (get_or l 3 0),
          )

-- a call by value, with what was asked and the state that the numbers are
pub call_answered : (pace : Pace) (words messages before after l l' : List ℕ) (asked k : Asked) (p p' : Paused) (end : Refusal) → get_or l 18 0 < 3 → asked ≡ k → p ≡ held_in l
    → Called (called pace asked.budget (fixed_by words messages (length before) (setting_of asked)) p) p before end p' after → l' ≡ held_numbers p'
    → CallMade (called_on pace k.budget (fixed_by words messages (length before) (setting_of k)) l) l before after l' (end.bit ∷ []) end.number
call_answered pace words messages before after l l' asked k p p' end h a q c n =
    let d = subst (λ (y : Asked). Called (called pace y.budget (fixed_by words messages (length before) (setting_of y)) p) p before end p' after) a c in
    call_made pace k.budget (fixed_by words messages (length before) (setting_of k)) l h before after l' end p'
    (subst (λ (y : Paused). Called (called pace k.budget (fixed_by words messages (length before) (setting_of k)) y) y before end p' after) q d) n
