-- What each bit of the masks means: the masks are the rules of the walk, bit by bit, both ways.
-- Assumes nothing.
use Prim.Native.Nat.{ℕ, zero, suc, ◌+◌, ◌-◌, ◌*◌, ◌/◌, ◌%◌, ◌^◌, ◌≤◌, ◌<◌}
use mathlib.Core.Path.{◌≡◌, refl, sym, ap, ap₂, subst, ◌∙◌}
use mathlib.Core.Logic.{◌⊎◌, inl, inr, ⊎_elim}
use mathlib.Core.Bool.{Bool, true, false, not}
use native.Mathlib.Nat.{mod-lt, div-eq_of_lt, zero-div, lt_of_lt_of_le}
use native.Mathlib.Decide.{dec_lt}
use native.Mathlib.Omega.{arith}
use borrow.Author.Tests.{eqb-true, not-false}
use lib.Dec.{eqb, lit<}
use lib.Bits.{bit_and, bit_or, or_shr, or_mod, and_shr, and_mod, and_le_r}
use lib.Pow.{shr-shr, shl-shr, field, mod-mod-pow, pow_pos, pow_mono}
use Rattle.reader.proofs.Below.{none_below}
use Rattle.instruction.specs.declared.WordAddress.{WordAddress}
use Rattle.flow.specs.declared.Move.{Move}
use Rattle.flow.specs.declared.Move.TheVariants.{Other, Compare, Jump, Enter, Leave, Loop}
use Rattle.flow.specs.Masks.{bare_of, held_of, deeper_of, next_of, jump_of, to_of}
use Rattle.flow.specs.Walk.{deepest, On, place}
use Rattle.flow.proofs.Rules.{Onward, plain_on, cmp_on, goto_on, call_on, return_on, repeat_on, Leaps, goto_to, call_to, repeat_to}

-- ---- one digit

digit : (x : ℕ) → x < 2 → (x ≡ 0) ⊎ (x ≡ 1)
digit zero h = inl refl
digit (suc zero) h = inr refl
digit (suc (suc n)) h = absurd (omega arith)

pub two : (x : ℕ) → (x % 2 ≡ 0) ⊎ (x % 2 ≡ 1)
two x = digit (x % 2) (mod-lt x (lit< tt))

never : {A : Type 0} (x : ℕ) → x ≡ 0 → x ≡ 1 → A
never x p q = absurd (omega arith)

or_bit : (k a b : ℕ) → bit_or a b / 2 ^ k % 2 ≡ bit_or (a / 2 ^ k % 2) (b / 2 ^ k % 2)
or_bit k a b = ap (λ (x : ℕ). x % 2) (or_shr a b k) ∙ or_mod (a / 2 ^ k) (b / 2 ^ k) 1

and_bit : (k a b : ℕ) → bit_and a b / 2 ^ k % 2 ≡ bit_and (a / 2 ^ k % 2) (b / 2 ^ k % 2)
and_bit k a b = ap (λ (x : ℕ). x % 2) (and_shr a b k) ∙ and_mod (a / 2 ^ k) (b / 2 ^ k) 1

pub or_left : (k a b : ℕ) → On k a → On k (bit_or a b)
or_left k a b p = or_bit k a b ∙ ⊎_elim (λ q. ap₂ bit_or p q) (λ q. ap₂ bit_or p q) (two (b / 2 ^ k))

pub or_right : (k a b : ℕ) → On k b → On k (bit_or a b)
or_right k a b q = or_bit k a b ∙ ⊎_elim (λ p. ap₂ bit_or p q) (λ p. ap₂ bit_or p q) (two (a / 2 ^ k))

pub or_on : (k a b : ℕ) → On k (bit_or a b) → On k a ⊎ On k b
or_on k a b h =
    ⊎_elim
    (λ p. ⊎_elim (λ q. never (bit_or a b / 2 ^ k % 2) (or_bit k a b ∙ ap₂ bit_or p q) h) inr (two (b / 2 ^ k)))
    inl
    (two (a / 2 ^ k))

pub and_on : (k a b : ℕ) → On k (bit_and a b) → On k a × On k b
and_on k a b h =
    ⊎_elim
    (λ p. never (bit_and a b / 2 ^ k % 2) (and_bit k a b ∙ ap (λ (x : ℕ). bit_and x (b / 2 ^ k % 2)) p) h)
    (λ p. ⊎_elim (λ q. never (bit_and a b / 2 ^ k % 2) (and_bit k a b ∙ ap₂ bit_and p q) h) (λ q. (p, q)) (two (b / 2 ^ k)))
    (two (a / 2 ^ k))

pub on_and : (k a b : ℕ) → On k a → On k b → On k (bit_and a b)
on_and k a b p q = and_bit k a b ∙ ap₂ bit_and p q

-- ---- shifts

shr_bit : (j k m : ℕ) → m / 2 ^ j / 2 ^ k % 2 ≡ m / 2 ^ (j + k) % 2
shr_bit j k m = ap (λ (x : ℕ). x % 2) (shr-shr m j k)

shl_bit : (j k m : ℕ) → m * 2 ^ j / 2 ^ (j + k) % 2 ≡ m / 2 ^ k % 2
shl_bit j k m = ap (λ (x : ℕ). x % 2) (sym (shr-shr (m * 2 ^ j) j k) ∙ ap (λ (x : ℕ). x / 2 ^ k) (shl-shr m j))

-- a bit at an index that is the same number
moved : {j k : ℕ} (m : ℕ) → j ≡ k → On j m → On k m
moved m e p = subst (λ (i : ℕ). On i m) e p

mod_bit : (x j k : ℕ) → k < j → x % 2 ^ j / 2 ^ k % 2 ≡ x / 2 ^ k % 2
mod_bit x j k h =
    let e : j ≡ ((j - suc k) + 1) + k = omega arith in
    ap (λ (i : ℕ). x % 2 ^ i / 2 ^ k % 2) e
    ∙ ap (λ (y : ℕ). y % 2) (field x ((j - suc k) + 1) k)
    ∙ mod-mod-pow (x / 2 ^ k) (j - suc k) 1

-- past a number's digits no bit is set
pub high_off : {A : Type 0} (j k m : ℕ) → m < 2 ^ j → j ≤ k → On k m → A
high_off j k m h l p = never (m / 2 ^ k % 2) (ap (λ (x : ℕ). x % 2) (div-eq_of_lt (lt_of_lt_of_le h (pow_mono l)))) p

-- nothing is set in 0
pub zero_off : {A : Type 0} (k : ℕ) → On k 0 → A
zero_off k p = never (0 / 2 ^ k % 2) (ap (λ (x : ℕ). x % 2) (zero-div (2 ^ k))) p

-- ---- the mask of even bits

abbrev evens : ℕ
evens = 0x5555_5555_5555_5555

even_on : (d : ℕ) → d ≤ deepest → On (2 * d) evens
even_on d h = eqb-true _ 1 (not-false _ (none_below (deepest + 1) (λ k. not (eqb (evens / 2 ^ (2 * k) % 2) 1)) refl d (omega (arith, h))))

odd_low : (d : ℕ) → d ≤ deepest → evens / 2 ^ (2 * d + 1) % 2 ≡ 0
odd_low d h = eqb-true _ 0 (not-false _ (none_below (deepest + 1) (λ k. not (eqb (evens / 2 ^ (2 * k + 1) % 2) 0)) refl d (omega (arith, h))))

odd_off : {A : Type 0} (d : ℕ) → On (2 * d + 1) evens → A
odd_off {A = A} d p = go (dec_lt d (deepest + 1))
  where
    go : Dec (d < deepest + 1) → A
    go (yes h) = never (evens / 2 ^ (2 * d + 1) % 2) (odd_low d (omega (arith, h))) p
    go (no h) = high_off 64 (2 * d + 1) evens (lit< tt) (omega arith) p

-- ---- bare, held, deeper

half_on : (k m : ℕ) → On k (m / 2) → On (k + 1) m
half_on k m p = moved m (omega arith) (sym (shr_bit 1 k m) ∙ p)

on_half : (k m : ℕ) → On (k + 1) m → On k (m / 2)
on_half k m p = shr_bit 1 k m ∙ moved {j = k + 1} {k = 1 + k} m (omega arith) p

pub on_bare : (d m : ℕ) (c : Bool) → d ≤ deepest → On (place d c) m → On (2 * d) (bare_of m)
unfolding bare_of
on_bare d m false h p = on_and (2 * d) (bit_or m (m / 2)) evens (or_left (2 * d) m (m / 2) p) (even_on d h)
on_bare d m true h p = on_and (2 * d) (bit_or m (m / 2)) evens (or_right (2 * d) m (m / 2) (on_half (2 * d) m p)) (even_on d h)

pub bare_on : (d m : ℕ) → On (2 * d) (bare_of m) → (c : Bool) × On (place d c) m
unfolding bare_of
bare_on d m p =
    ⊎_elim
    (λ q. (false, q))
    (λ q. (true, half_on (2 * d) m q))
    (or_on (2 * d) m (m / 2) (and_on (2 * d) (bit_or m (m / 2)) evens p).0)

pub bare_odd : {A : Type 0} (d m : ℕ) → On (2 * d + 1) (bare_of m) → A
unfolding bare_of
bare_odd d m p = odd_off d (and_on (2 * d + 1) (bit_or m (m / 2)) evens p).1

pub bare_le : (m : ℕ) → bare_of m ≤ evens
unfolding bare_of
bare_le m = and_le_r (bit_or m (m / 2)) evens

on_held : (d m : ℕ) → d ≤ deepest → On (2 * d + 1) m → On (2 * d) (held_of m)
unfolding held_of
on_held d m h p = on_and (2 * d) (m / 2) evens (on_half (2 * d) m p) (even_on d h)

held_on : (d m : ℕ) → On (2 * d) (held_of m) → On (2 * d + 1) m
unfolding held_of
held_on d m p = half_on (2 * d) m (and_on (2 * d) (m / 2) evens p).0

held_odd : {A : Type 0} (d m : ℕ) → On (2 * d + 1) (held_of m) → A
unfolding held_of
held_odd d m p = odd_off d (and_on (2 * d + 1) (m / 2) evens p).1

-- bare doubled: at the odd bits
dbl_on : (k x : ℕ) → On (k + 1) (x * 2) → On k x
dbl_on k x p = sym (shl_bit 1 k x) ∙ moved {j = k + 1} {k = 1 + k} (x * 2) (omega arith) p

on_dbl : (k x : ℕ) → On k x → On (k + 1) (x * 2)
on_dbl k x p = moved {j = 1 + k} {k = k + 1} (x * 2) (omega arith) (shl_bit 1 k x ∙ p)

dbl_even : {A : Type 0} (d m : ℕ) → On (2 * d) (bare_of m * 2) → A
dbl_even zero m p = never (bare_of m * 2 / 1 % 2) (omega arith) p
dbl_even (suc d) m p = bare_odd d m (dbl_on (2 * d + 1) (bare_of m) (moved (bare_of m * 2) (omega arith) p))

-- deeper
quad_on : (k x : ℕ) → On (k + 2) (x * 4) → On k x
quad_on k x p = sym (shl_bit 2 k x) ∙ moved {j = k + 2} {k = 2 + k} (x * 4) (omega arith) p

on_deeper : (lim d m : ℕ) → d < lim → On (2 * d) (bare_of m) → On (2 * (d + 1)) (deeper_of lim m)
unfolding deeper_of
on_deeper lim d m h p =
    moved {j = 2 + 2 * d} (bare_of m % 2 ^ (2 * lim) * 4) (omega arith)
    (shl_bit 2 (2 * d) (bare_of m % 2 ^ (2 * lim)) ∙ mod_bit (bare_of m) (2 * lim) (2 * d) (omega arith) ∙ p)

-- a bit of the remainder is a bit of the number, and below the modulus
rem_on : (j k x : ℕ) → On k (x % 2 ^ j) → (k < j) × On k x
rem_on j k x p = go (dec_lt k j)
  where
    go : Dec (k < j) → (k < j) × On k x
    go (yes h) = (h, sym (mod_bit x j k h) ∙ p)
    go (no h) = high_off j k (x % 2 ^ j) (mod-lt x (pow_pos j)) (omega arith) p

-- the lowest two bits of four times a number are off
quad_low : {A : Type 0} (x : ℕ) → On 0 (x * 4) → A
quad_low x p = never (x * 4 / 1 % 2) (omega arith) p

quad_low' : {A : Type 0} (x : ℕ) → On 1 (x * 4) → A
quad_low' x p = never (x * 4 / 2 % 2) (omega arith) p

deeper_on : (lim d m : ℕ) → On (2 * d) (deeper_of lim m) → (e : ℕ) × (d ≡ e + 1) × (e < lim) × On (2 * e) (bare_of m)
unfolding deeper_of
deeper_on lim zero m p = quad_low (bare_of m % 2 ^ (2 * lim)) p
deeper_on lim (suc d) m p =
    let q : On (2 * d) (bare_of m % 2 ^ (2 * lim)) = quad_on (2 * d) (bare_of m % 2 ^ (2 * lim)) (moved (bare_of m % 2 ^ (2 * lim) * 4) (omega arith) p) in
    let r : (2 * d < 2 * lim) × On (2 * d) (bare_of m) = rem_on (2 * lim) (2 * d) (bare_of m) q in
    let r0 : 2 * d < 2 * lim = r.0 in
    (d, omega arith, omega arith, r.1)

deeper_odd : {A : Type 0} (lim d m : ℕ) → On (2 * d + 1) (deeper_of lim m) → A
unfolding deeper_of
deeper_odd lim zero m p = quad_low' (bare_of m % 2 ^ (2 * lim)) p
deeper_odd lim (suc d) m p =
    let q : On (2 * d + 1) (bare_of m % 2 ^ (2 * lim)) = quad_on (2 * d + 1) (bare_of m % 2 ^ (2 * lim)) (moved (bare_of m % 2 ^ (2 * lim) * 4) (omega arith) p) in
    bare_odd d m (rem_on (2 * lim) (2 * d + 1) (bare_of m) q).1

on_quarter : (d r : ℕ) → On (2 * (d + 1)) r → On (2 * d) (r / 4)
on_quarter d r p = shr_bit 2 (2 * d) r ∙ moved {j = 2 * (d + 1)} {k = 2 + 2 * d} r (omega arith) p

quarter_on : (d r : ℕ) → On (2 * d) (r / 4) → On (2 * (d + 1)) r
quarter_on d r p = moved {j = 2 + 2 * d} {k = 2 * (d + 1)} r (omega arith) (sym (shr_bit 2 (2 * d) r) ∙ p)

-- ---- the masks against the rules of the walk

pub next_on : {o : Move} {d : ℕ} {c : Bool} {e : ℕ} {h : Bool} → Onward o d c e h → d ≤ deepest → (m r : ℕ) → On (place d c) m → On (place e h) (next_of o m r)
next_on plain_on l m r p = p
next_on (cmp_on {d = d} {c = c}) l m r p = on_dbl (2 * d) (bare_of m) (on_bare d m c l p)
next_on (goto_on {d = d}) l m r p = on_held d m l p
next_on (call_on {d = d}) l m r p = or_left (2 * d) (held_of m) (bit_and (bare_of m) (r / 4)) (on_held d m l p)
next_on (return_on {d = d}) l m r p = on_held d m l p
next_on repeat_on l m r p = p

pub back_on : (t : WordAddress) (d : ℕ) (c : Bool) (m r : ℕ) → d ≤ deepest → On (place d c) m → On (2 * (d + 1)) r → On (2 * d) (next_of (Enter t) m r)
back_on t d c m r l p q =
    or_right (2 * d) (held_of m) (bit_and (bare_of m) (r / 4))
    (on_and (2 * d) (bare_of m) (r / 4) (on_bare d m c l p) (on_quarter d r q))

pub jump_on : {lim : ℕ} {o : Move} {d : ℕ} {c : Bool} {t e : ℕ} {h : Bool} → Leaps lim o d c t e h → d ≤ deepest → (m : ℕ) → On (place d c) m → (to_of o ≡ t) × On (place e h) (jump_of lim o m)
jump_on (goto_to {d = d} {c = c}) l m p = (refl, on_bare d m c l p)
jump_on {lim = lim} (call_to {d = d} {c = c} s) l m p = (refl, on_deeper lim d m s (on_bare d m c l p))
jump_on repeat_to l m p = (refl, p)

-- what a bit of the mask for the next address comes from
pub data Came (o : Move) (m r e : ℕ) (h : Bool) : Type 0 where
  stepped : {d : ℕ} {c : Bool} → On (place d c) m → Onward o d c e h → Came o m r e h
  returned : {t : WordAddress} (c : Bool) → o ≡ Enter t → On (place e c) m → On (2 * (e + 1)) r → h ≡ false → Came o m r e h

pub on_next_lem : (o : Move) (m r e : ℕ) (h : Bool) → On (place e h) (next_of o m r) → Came o m r e h
on_next_lem Other m r e h p = stepped p plain_on
on_next_lem Compare m r e false p = dbl_even e m p
on_next_lem Compare m r e true p = let b = bare_on e m (dbl_on (2 * e) (bare_of m) p) in stepped {c = b.0} b.1 cmp_on
on_next_lem (Jump t) m r e false p = stepped (held_on e m p) goto_on
on_next_lem (Jump t) m r e true p = held_odd e m p
on_next_lem (Enter t) m r e false p =
    ⊎_elim
    (λ q. stepped {d = e} {c = true} (held_on e m q) call_on)
    (λ q. let b = and_on (2 * e) (bare_of m) (r / 4) q in returned (bare_on e m b.0).0 refl (bare_on e m b.0).1 (quarter_on e r b.1) refl)
    (or_on (2 * e) (held_of m) (bit_and (bare_of m) (r / 4)) p)
on_next_lem (Enter t) m r e true p =
    ⊎_elim
    (λ q. held_odd e m q)
    (λ q. bare_odd e m (and_on (2 * e + 1) (bare_of m) (r / 4) q).0)
    (or_on (2 * e + 1) (held_of m) (bit_and (bare_of m) (r / 4)) p)
on_next_lem Leave m r e false p = stepped (held_on e m p) return_on
on_next_lem Leave m r e true p = held_odd e m p
on_next_lem (Loop t) m r e h p = stepped p repeat_on

pub data Leapt (lim : ℕ) (o : Move) (m e : ℕ) (h : Bool) : Type 0 where
  leapt : {d : ℕ} {c : Bool} → On (place d c) m → Leaps lim o d c (to_of o) e h → Leapt lim o m e h

leapt_call : (lim : ℕ) (t : WordAddress) (m e : ℕ) → ((f : ℕ) × (e ≡ f + 1) × (f < lim) × On (2 * f) (bare_of m)) → Leapt lim (Enter t) m e false
leapt_call lim t m e w =
    let b = bare_on w.0 m w.3 in
    subst (λ (k : ℕ). Leapt lim (Enter t) m k false) (sym w.1) (leapt {d = w.0} {c = b.0} b.1 (call_to w.2))

pub on_jump_lem : (lim : ℕ) (o : Move) (m e : ℕ) (h : Bool) → On (place e h) (jump_of lim o m) → Leapt lim o m e h
on_jump_lem lim Other m e h p = zero_off (place e h) p
on_jump_lem lim Compare m e h p = zero_off (place e h) p
on_jump_lem lim (Jump t) m e false p = let b = bare_on e m p in leapt {c = b.0} b.1 goto_to
on_jump_lem lim (Jump t) m e true p = bare_odd e m p
on_jump_lem lim (Enter t) m e false p = leapt_call lim t m e (deeper_on lim e m p)
on_jump_lem lim (Enter t) m e true p = deeper_odd lim e m p
on_jump_lem lim Leave m e h p = zero_off (place e h) p
on_jump_lem lim (Loop t) m e h p = leapt p repeat_to
