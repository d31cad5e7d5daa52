-- The numbers of a state laid down part by part: what stands there after each part, and how many there are.
-- Assumes nothing.
use mathlib.Core.Path.{◌≡◌, sym, ap, subst, ◌∙◌}
use mathlib.Core.List.{List, [], ◌∷◌, ◌++◌, append_assoc, append-nil}
use Prim.Native.Nat.{ℕ, ◌≤◌}
use native.Mathlib.Omega.{arith}
use lib.ListN.{length, length-append, drop_of_length-le}
use Rattle.buffer.specs.Put.{Fits, Put}
use Rattle.buffer.proofs.Laws.{put_front, fits_first}
use Rattle.jumps.specs.declared.State.{State}
use Rattle.state_c.specs.Numbers.{condition_of, numbers_of}

regrouped : (f w t m r k : List ℕ) → ((((f ++ w) ++ t) ++ m) ++ r) ++ k ≡ f ++ (w ++ (t ++ (m ++ (r ++ k))))
regrouped f w t m r k = simp append_assoc

-- what fills a buffer from the front is all that it holds
pub filled : (t xs : List ℕ) {u : List ℕ} {r : ℕ} → length xs ≡ length t → Put xs t 0 u r → u ≡ xs
filled t xs e p =
    let h : length t ≤ length xs = omega (arith, e) in
    p.wrote ∙ put_front t xs ∙ ap (λ (l : List ℕ). xs ++ l) (drop_of_length-le t h) ∙ append-nil xs

-- the arrays of a state are as long as they are declared
pub record Long (s : State) : Type 0 where
  pub returns : length s.returns ≡ 16
  pub counters : length s.counters ≡ 16
  pub waits : length s.waits ≡ 6
  pub totals : length s.totals ≡ 6

-- ---- the six parts

module _ (s : State) where
  abbrev pub first : List ℕ
  first = s.core.address.0 ∷ s.core.steps ∷ s.core.used ∷ s.core.sent ∷ []

  abbrev pub middle : List ℕ
  middle = s.core.counter ∷ s.core.register ∷ condition_of s.core.condition ∷ s.core.held ∷ s.core.depth ∷ []

  abbrev pub with_waits : List ℕ
  with_waits = first ++ s.waits

  abbrev pub with_totals : List ℕ
  with_totals = with_waits ++ s.totals

  abbrev pub with_middle : List ℕ
  with_middle = with_totals ++ middle

  abbrev pub with_returns : List ℕ
  with_returns = with_middle ++ s.returns

  abbrev pub whole : List ℕ
  whole = with_returns ++ s.counters

  pub whole_is : whole ≡ numbers_of s
  whole_is = regrouped first s.waits s.totals middle s.returns s.counters

  pub numbers_length : Long s → length (numbers_of s) ≡ 53
  numbers_length l =
      omega (
        arith,
        ap length whole_is,
        length-append first s.waits,
        length-append with_waits s.totals,
        length-append with_totals middle,
        length-append with_middle s.returns,
        length-append with_returns s.counters,
        l.returns,
        l.counters,
        l.waits,
        l.totals,
      )

  -- where all fit, so do the first of them
  module _ (t : List ℕ) (k : ℕ) (h : Fits (numbers_of s) t k) where
    pub whole_fit : Fits whole t k
    whole_fit = subst (λ (l : List ℕ). Fits l t k) (sym whole_is) h

    pub returns_fit : Fits with_returns t k
    returns_fit = fits_first with_returns s.counters t k whole_fit

    pub middle_fit : Fits with_middle t k
    middle_fit = fits_first with_middle s.returns t k returns_fit

    pub totals_fit : Fits with_totals t k
    totals_fit = fits_first with_totals middle t k middle_fit

    pub waits_fit : Fits with_waits t k
    waits_fit = fits_first with_waits s.totals t k totals_fit

    pub first_fit : Fits first t k
    first_fit = fits_first first s.waits t k waits_fit
