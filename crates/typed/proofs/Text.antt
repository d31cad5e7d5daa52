-- What is written as text reads back: digit by digit a word grows to what it was, and the line feed makes ready for the next.
-- Assumes nothing.
use Prim.Native.Nat.{ℕ, zero, suc, ◌+◌, ◌*◌, ◌/◌, ◌%◌, ◌^◌, ◌≤◌, ◌<◌}
use mathlib.Core.Path.{◌≡◌, refl, sym, ap, ap₂, ◌∙◌}
use mathlib.Core.Bool.{Bool, true, false, not, ◌||◌}
use mathlib.Core.List.{List, [], ◌∷◌, ◌++◌}
use native.Mathlib.Omega.{arith}
use native.Mathlib.Nat.{mod-lt, mod-eq_of_lt, pow-suc, div-div-eq-div-mul, div-le_self, div-one, div-eq_of_lt, lt_of_le_of_lt}
use borrow.Author.Tests.{lt-ltb, le-ltb, lt-leb, eq-eqb, ne_eqb, eqb-true, not-true}
use lib.Dec.{eqb}
use lib.ListN.{length}
use Rattle.instruction.specs.Bits.{pick}
use Rattle.text.specs.Cut.{line_feed}
use Rattle.text.proofs.Below.{all_below_lem}
use Rattle.typed.specs.Words.{is_white, hash, hex_digit, past, start, skipped, hex_grown, onward, digit_on, text_on, byte_on, new_word, taken_of, words_of, hex_letter, last_digits, hex_text, AreWords, HexReadsBack}
use Rattle.typed.specs.declared.Spelling.TheVariants.{Hex}
use Rattle.std.specs.Prelude.{Option, Some, None, is_some}
use Rattle.text.proofs.Bools.{never}
use Rattle.typed.specs.declared.Taken.{Taken}
use Rattle.typed.specs.declared.Trouble.{Trouble}
use Rattle.typed.proofs.Words.{text_parted, text_digit, no_word, one_word, taken_pieces, words_pieces}

-- ---- sixteen letters, by computation

abbrev tells : Option ℕ → ℕ → Bool
tells (Some x) d = eqb x d
tells None d = false

letter_digit : (d : ℕ) → d < 16 → hex_digit (hex_letter d) ≡ Some d
letter_digit d h = is (hex_digit (hex_letter d)) (all_below_lem 16 (λ k. tells (hex_digit (hex_letter k)) k) refl d h)
  where
    is : (x : Option ℕ) → tells x d ≡ true → x ≡ Some d
    is (Some x) e = ap (λ (k : ℕ). Some k) (eqb-true x d e)
    is None e = never (sym e)

letter_plain : (d : ℕ) → d < 16 → (is_white (hex_letter d) || eqb (hex_letter d) hash) ≡ false
letter_plain d h = not-true _ (all_below_lem 16 (λ k. not (is_white (hex_letter k) || eqb (hex_letter k) hash)) refl d h)

-- ---- one byte, of a state with nothing wrong

-- no comment, and nothing wrong
pub record Open (s : Taken) : Type 0 where
  pub plain : s.comment ≡ false
  pub well : s.trouble ≡ None

module _ (room : ℕ) (s : Taken) (o : Open s) where
  byte_text : (b : ℕ) → byte_on Hex room b s ≡ text_on room b s
  byte_text b = ap (λ (x : Option Trouble). pick (is_some x) s (text_on room b s)) o.well

  module _ (d : ℕ) (h : d < 16) where
    byte_digit : byte_on Hex room (hex_letter d) s ≡ digit_on room (hex_letter d) d s
    byte_digit = byte_text (hex_letter d) ∙ sym (text_digit room (hex_letter d) s o.plain (letter_plain d h) (sym (letter_digit d h)))

    goes_on_lem : s.digits + 1 < 16 → byte_on Hex room (hex_letter d) s ≡ onward s.count (hex_grown d s) (s.digits + 1) (past (hex_letter d) s.place)
    goes_on_lem l =
        byte_digit
        ∙ rw (lt-leb 16 s.digits (omega arith), lt-ltb (s.digits + 1) 16 l)

    is_whole : s.digits + 1 ≡ 16 → s.count < room → byte_on Hex room (hex_letter d) s ≡ onward (s.count + 1) (hex_grown d s) 16 (past (hex_letter d) s.place)
    is_whole e l =
        byte_digit
        ∙ rw (lt-leb 16 s.digits (omega arith), le-ltb (s.digits + 1) 16 (omega arith), lt-leb room s.count l)

  line_ends : s.digits ≡ 16 → byte_on Hex room line_feed s ≡ skipped (past line_feed s.place) false 0 s
  line_ends e = byte_text line_feed ∙ text_parted room line_feed s o.plain refl ∙ rw (le-ltb s.digits 16 (omega arith), ne_eqb s.digits 0 (more s.digits e))
    where
      more : (n : ℕ) → n ≡ 16 → n ≡ 0 → ⊥
      more n p q = omega arith

-- ---- a word, digit by digit

-- so many digits of a word are still to come
pub record Mid (count w left : ℕ) (s : Taken) : Type 0 where
  pub fine : Open s
  pub words : s.count ≡ count
  pub digits : s.digits + left ≡ 16
  pub value : pick (eqb s.digits 0) 0 s.value ≡ w / 16 ^ left

-- a whole word has been read, and nothing behind it
pub record Whole (count w : ℕ) (s : Taken) : Type 0 where
  pub fine : Open s
  pub words : s.count ≡ count + 1
  pub digits : s.digits ≡ 16
  pub value : s.value ≡ w

next_value : (w k : ℕ) → w < 2 ^ 64 → w / 16 ^ suc k % 2 ^ 60 * 16 + w / 16 ^ k % 16 ≡ w / 16 ^ k
next_value w k h =
    ap (λ (x : ℕ). x % 2 ^ 60 * 16 + w / 16 ^ k % 16) (ap (λ (n : ℕ). w / n) (pow-suc 16 k) ∙ sym (div-div-eq-div-mul w (16 ^ k) 16))
    ∙ whole (w / 16 ^ k) (lt_of_le_of_lt (div-le_self w (16 ^ k)) h)
  where
    whole : (x : ℕ) → x < 2 ^ 64 → x / 16 % 2 ^ 60 * 16 + x % 16 ≡ x
    whole x l = ap (λ (y : ℕ). y * 16 + x % 16) (mod-eq_of_lt {n = x / 16} {m = 2 ^ 60} (omega arith)) ∙ omega arith

module _ (room count w : ℕ) (h : w < 2 ^ 64) (l : count < room) where
  abbrev letter : ℕ → ℕ
  letter k = hex_letter (w / 16 ^ k % 16)

  small : (k : ℕ) → w / 16 ^ k % 16 < 16
  small k = mod-lt (w / 16 ^ k) (omega arith)

  -- a digit that is not the last
  module _ (k : ℕ) (s : Taken) (m : Mid count w (suc (suc k)) s) where
    abbrev t : Taken
    t = byte_on Hex room (letter (suc k)) s

    at : t ≡ onward s.count (hex_grown (w / 16 ^ suc k % 16) s) (s.digits + 1) (past (letter (suc k)) s.place)
    at = goes_on_lem room s m.fine (w / 16 ^ suc k % 16) (small (suc k)) (omega (arith, m.digits))

    mid_next : Mid count w (suc k) t
    mid_next =
        record {
          fine = record { plain = ap (λ (x : Taken). x.comment) at; well = ap (λ (x : Taken). x.trouble) at };
          words = ap (λ (x : Taken). x.count) at ∙ m.words;
          digits = ap (λ (x : Taken). x.digits + suc k) at ∙ omega (arith, m.digits);
          value =
              ap (λ (x : Taken). pick (eqb x.digits 0) 0 x.value) at
              ∙ ap (λ (b : Bool). pick b 0 (hex_grown (w / 16 ^ suc k % 16) s)) (ne_eqb (s.digits + 1) 0 (λ e. none s.digits e))
              ∙ ap (λ (x : ℕ). x % 2 ^ 60 * 16 + w / 16 ^ suc k % 16) m.value
              ∙ next_value w (suc k) h;
        }
      where
        none : (n : ℕ) → n + 1 ≡ 0 → ⊥
        none n e = omega arith

    mid_none : new_word s t ≡ []
    mid_none = no_word s t (omega (arith, ap (λ (x : Taken). x.count) at))

  -- the last digit
  module _ (s : Taken) (m : Mid count w 1 s) where
    abbrev u : Taken
    u = byte_on Hex room (letter 0) s

    at_last : u ≡ onward (s.count + 1) (hex_grown (w / 16 ^ 0 % 16) s) 16 (past (letter 0) s.place)
    at_last = is_whole room s m.fine (w / 16 ^ 0 % 16) (small 0) m.digits (omega (arith, m.words, l))

    is_word : hex_grown (w / 16 ^ 0 % 16) s ≡ w
    is_word = ap (λ (x : ℕ). x % 2 ^ 60 * 16 + w / 16 ^ 0 % 16) m.value ∙ next_value w 0 h ∙ div-one w

    whole_then : Whole count w u
    whole_then =
        record {
          fine = record { plain = ap (λ (x : Taken). x.comment) at_last; well = ap (λ (x : Taken). x.trouble) at_last };
          words = ap (λ (x : Taken). x.count) at_last ∙ ap (λ (n : ℕ). n + 1) m.words;
          digits = ap (λ (x : Taken). x.digits) at_last;
          value = ap (λ (x : Taken). x.value) at_last ∙ is_word;
        }

    word_then : new_word s u ≡ w ∷ []
    word_then =
        one_word s u (omega (arith, ap (λ (x : Taken). x.count) at_last))
        ∙ ap (λ (x : ℕ). x ∷ []) (ap (λ (x : Taken). x.value) at_last ∙ is_word)

  digits_read : (k : ℕ) (s : Taken) → Mid count w (suc k) s
      → Whole count w (taken_of Hex room s (last_digits (suc k) w)) × (words_of Hex room s (last_digits (suc k) w) ≡ w ∷ [])
  digits_read zero s m = (whole_then s m, ap (λ (l : List ℕ). l ++ []) (word_then s m))
  digits_read (suc k) s m =
      let r = digits_read k (t k s m) (mid_next k s m) in
      (r.0, ap₂ (λ (x y : List ℕ). x ++ y) (mid_none k s m) r.1)

-- ---- words

-- between words
pub record Between (count : ℕ) (s : Taken) : Type 0 where
  pub fine : Open s
  pub words : s.count ≡ count
  pub digits : s.digits ≡ 0

begins : (count w : ℕ) (s : Taken) → w < 2 ^ 64 → Between count s → Mid count w 16 s
begins count w s h b =
    record {
      fine = b.fine;
      words = b.words;
      digits = omega (arith, b.digits);
      value = ap (λ (t : Bool). pick t 0 s.value) (eq-eqb s.digits 0 b.digits) ∙ sym (div-eq_of_lt h);
    }

module _ (room count w : ℕ) (s : Taken) (m : Whole count w s) where
  ends_at : byte_on Hex room line_feed s ≡ skipped (past line_feed s.place) false 0 s
  ends_at = line_ends room s m.fine m.digits

  ends : Between (count + 1) (byte_on Hex room line_feed s)
  ends =
      record {
        fine = record { plain = ap (λ (x : Taken). x.comment) ends_at; well = ap (λ (x : Taken). x.trouble) ends_at };
        words = ap (λ (x : Taken). x.count) ends_at ∙ m.words;
        digits = ap (λ (x : Taken). x.digits) ends_at;
      }

  ends_none : new_word s (byte_on Hex room line_feed s) ≡ []
  ends_none = no_word s (byte_on Hex room line_feed s) (omega (arith, ap (λ (x : Taken). x.count) ends_at))

text_read : (room count : ℕ) (ws : List ℕ) (s : Taken) → AreWords ws → count + length ws ≤ room → Between count s
    → Between (count + length ws) (taken_of Hex room s (hex_text ws)) × (words_of Hex room s (hex_text ws) ≡ ws)
text_read room count [] s a h b = (record { fine = b.fine; words = b.words ∙ omega arith; digits = b.digits }, refl)
text_read room count (w ∷ ws) s a h b =
    let r = digits_read room count w a.0 (omega arith) 15 s (begins count w s a.0 b) in
    let t = taken_of Hex room s (last_digits 16 w) in
    let q = text_read room (count + 1) ws (byte_on Hex room line_feed t) a.1 (omega arith) (ends room count w t r.0) in (
      rw (taken_pieces Hex room s (last_digits 16 w) (line_feed ∷ hex_text ws), counted) q.0,
      words_pieces Hex room s (last_digits 16 w) (line_feed ∷ hex_text ws)
          ∙ ap₂ (λ (x y : List ℕ). x ++ y) r.1 (ap₂ (λ (x y : List ℕ). x ++ y) (ends_none room count w t r.0) q.1),
    )
  where
    counted : count + length (w ∷ ws) ≡ count + 1 + length ws
    counted = omega arith

pub hex_reads_back : HexReadsBack
hex_reads_back room ws a h =
    let r = text_read room 0 ws start a (omega arith) (record { fine = record { plain = refl; well = refl }; words = refl; digits = refl }) in
    record {
      words = r.1;
      well = rw (r.0.fine.well, eq-eqb _ 0 r.0.digits) refl;
    }
