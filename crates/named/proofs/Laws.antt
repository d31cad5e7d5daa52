-- Laws of the masks: ones shifted into their place lose none, and the payload's mask stays below the header.
-- Assumes nothing.
use mathlib.Core.Path.{◌≡◌, refl, ap, ◌∙◌}
use mathlib.Core.Bool.{Bool, true, false, ◌&&◌}
use mathlib.Core.List.{List, [], ◌∷◌}
use Prim.Native.Nat.{ℕ, zero, suc, ◌+◌, ◌-◌, ◌*◌, ◌%◌, ◌^◌, ◌<◌}
use native.Mathlib.Nat.{mod-eq_of_lt, one-mul}
use native.Mathlib.Omega.{arith}
use borrow.Author.Tests.{ltb-true}
use lib.Dec.{ltb}
use lib.ListN.{get_or, get_or-eq_default}
use lib.Pow.{pow-lt, ones_lt, shl_exact}
use Rattle.instruction.specs.Bits.{span}
use Rattle.instruction.specs.Table.{InWord, op_code, engine_select, write_flag, whole_payload, payloads, payload_of}
use Rattle.instruction.specs.declared.Field.{Field}
use Rattle.instruction.proofs.Laws.{NoneBelow, past}
use Rattle.named.specs.Named.{ones, mask_of, payload_bits, named_bits}

both : (a b : Bool) → (a && b) ≡ true → (a ≡ true) × (b ≡ true)
both true b e = (refl, e)
both false b e = (e, cc)

-- ---- the ones of a field

-- one, moved up by less than a word's width, is a power of two
pub one_up : (k : ℕ) → k < 64 → (1 * 2 ^ k) % 2 ^ 64 ≡ 2 ^ k
one_up k h = ap (λ (x : ℕ). x % 2 ^ 64) (one-mul (2 ^ k)) ∙ mod-eq_of_lt (pow-lt h)

-- the ones of a field within a word, moved up to its place, are all there
pub ones_up : (f : Field) → InWord f → ((1 * 2 ^ f.width) % 2 ^ 64 - 1) * 2 ^ f.low % 2 ^ 64 ≡ ones f
ones_up f h =
    ap (λ (x : ℕ). (x - 1) * 2 ^ f.low % 2 ^ 64) (one_up f.width h.1)
    ∙ shl_exact f.width f.low 64 (ones_lt f.width) (omega (arith, h.2))

-- ---- the masks of the op codes

-- by the op code
pub payload_at : {n : ℕ} (code : ℕ) → n ≡ code → payload_bits n ≡ mask_of (payload_of code)
unfolding payload_bits
payload_at code e = ap (λ (k : ℕ). mask_of (payload_of k)) e

-- a code that is none of the thirteen has no payload fields
pub payload_past : {n : ℕ} → NoneBelow 13 n → payload_bits n ≡ 0
unfolding payload_bits
payload_past h = ap mask_of (get_or-eq_default payloads [] (past 13 h))

-- where a test holds of every row of the table, it holds of the payload fields of every code
abbrev every : (List Field → Bool) → List (List Field) → Bool
every test [] = test []
every test (fs ∷ rows) = test fs && every test rows

at_row : (test : List Field → Bool) (rows : List (List Field)) (n : ℕ) → every test rows ≡ true → test (get_or rows n []) ≡ true
at_row test [] n e = e
at_row test (fs ∷ rows) zero e = (both (test fs) (every test rows) e).0
at_row test (fs ∷ rows) (suc n) e = at_row test rows n (both (test fs) (every test rows) e).1

-- one computed test over the table: no payload field reaches into the header
pub payload_small : (code : ℕ) → payload_bits code < span whole_payload
unfolding payload_bits
payload_small code = ltb-true _ _ (at_row (λ fs. ltb (mask_of fs) (span whole_payload)) payloads code refl)

-- header and payload
pub named_is : (code : ℕ) → named_bits code ≡ ones op_code + (ones engine_select + (ones write_flag + payload_bits code))
unfolding named_bits payload_bits
named_is code = refl
