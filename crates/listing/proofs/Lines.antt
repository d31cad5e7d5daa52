-- Laws of lines: what an instruction's line is made of, the bytes of a word, and line after line to the whole listing.
-- Assumes nothing.
use mathlib.Core.Path.{◌≡◌, sym, ap, subst, ◌∙◌}
use mathlib.Core.Bool.{Bool}
use mathlib.Core.List.{List, [], ◌∷◌, ◌++◌, map, append_assoc, append-nil}
use Prim.Native.Nat.{ℕ, suc, ◌+◌, ◌-◌, ◌*◌, ◌/◌, ◌%◌, ◌^◌, ◌≤◌, ◌<◌}
use native.Mathlib.Nat.{lt_of_lt_of_le, add-zero}
use native.Mathlib.Decide.{ℕ_discrete, dec_lt}
use native.Mathlib.Omega.{arith}
use lib.Pow.{pow-add, pow_mono}
use borrow.Author.Tests.{eq-eqb, ne_eqb, lt-ltb, le-ltb, lt-leb, le-leb}
use lib.ListN.{length, take, drop, length-append}
use Rattle.instruction.specs.Bits.{pick}
use Rattle.instruction.specs.Table.{code_of}
use Rattle.instruction.specs.declared.Instruction.{Instruction}
use Rattle.instruction.specs.declared.Rules.{Rules}
use Rattle.instruction.specs.declared.Body.TheVariants.{Noop}
use Rattle.reader.specs.Reading.{reading_of}
use Rattle.buffer.specs.Put.{put, Fits, Put}
use Rattle.buffer.proofs.Laws.{put_none, length_put, fits_first, fits_next, puts_both, front_put}
use Rattle.text.specs.Cut.{tab}
use Rattle.text.specs.Line.{number, letters, decimal, rest_text, line_text, text_of}
use Rattle.instruction.specs.Word.{word_bytes}
use Rattle.names.specs.Names.{name_of}
use Rattle.listing.specs.Listing.{word_at, shown_of, entries_of, entries_in, lines_from, listed_words, listing_of, Listed, heard_size, heard_of, HeardSame}

module _ (i : Instruction) where
  pub noop_line : code_of i.body ≡ code_of Noop → rest_text (entries_of i) ≡ (tab ∷ letters (name_of i.body)) ++ rest_text []
  noop_line e = ap (λ (b : Bool). (tab ∷ letters (name_of i.body)) ++ rest_text (pick b [] (number i.engine ∷ number i.write ∷ map number (shown_of i.body)))) (eq-eqb (code_of i.body) (code_of Noop) e)

  pub other_line : (code_of i.body ≡ code_of Noop → ⊥)
      → rest_text (entries_of i) ≡ (tab ∷ letters (name_of i.body)) ++ ((tab ∷ decimal i.engine) ++ ((tab ∷ decimal i.write) ++ rest_text (map number (shown_of i.body))))
  other_line h = ap (λ (b : Bool). (tab ∷ letters (name_of i.body)) ++ rest_text (pick b [] (number i.engine ∷ number i.write ∷ map number (shown_of i.body)))) (ne_eqb (code_of i.body) (code_of Noop) h)

-- ---- bytes of a word

-- one byte more
pub byte_grows : (k w b : ℕ) → w < 2 ^ (8 * k) → b < 256 → w * 256 + b < 2 ^ (8 * (k + 1))
byte_grows k w b h l =
    let e : 2 ^ (8 * (k + 1)) ≡ 2 ^ (8 * k) * 2 ^ 8 = ap (λ (n : ℕ). 2 ^ n) (more k) ∙ pow-add 2 (8 * k) 8 in
    omega arith
  where
    more : (k : ℕ) → 8 * (k + 1) ≡ 8 * k + 8
    more k = omega arith

pub byte_room : (k w b : ℕ) → k < 8 → w < 2 ^ (8 * k) → b < 256 → w * 256 + b < 2 ^ 64
byte_room k w b m h l = lt_of_lt_of_le (byte_grows k w b h l) (pow_mono {j = 64} (omega arith))

-- ---- line after line

-- the lines of the first a words are on the page
pub record Laid (rules : Rules) (bytes : List ℕ) (n : ℕ) (before : List ℕ) (at : ℕ) (page : List ℕ) (end a : ℕ) : Type 0 where
  pub upto : a ≤ n
  pub done : List ℕ
  pub text : text_of (lines_from rules bytes 0 n) ≡ done ++ text_of (lines_from rules bytes a (n - a))
  pub puts : Put done before at page end

abbrev line_of : Rules → List ℕ → ℕ → List ℕ
line_of rules bytes a = line_text (number a) (entries_in (reading_of rules (word_at bytes a)))

module _ (rules : Rules) (bytes : List ℕ) (n : ℕ) (before : List ℕ) (at : ℕ) (h : Fits (text_of (lines_from rules bytes 0 n)) before at) where
  pub laid_start : Laid rules bytes n before at before at 0
  laid_start = record { upto = omega arith; done = []; text = ap (λ (k : ℕ). text_of (lines_from rules bytes 0 k)) (all n); puts = record { wrote = sym (put_none before at); end = sym (add-zero at) } }
    where
      all : (n : ℕ) → n ≡ n - 0
      all n = omega arith

  module _ {page : List ℕ} {end a : ℕ} (l : Laid rules bytes n before at page end a) where
    fits : Fits (l.done ++ text_of (lines_from rules bytes a (n - a))) before at
    fits = subst (λ (t : List ℕ). Fits t before at) l.text h

    pub laid_length : length page ≡ length before
    laid_length = ap length l.puts.wrote ∙ length_put before l.done at (fits_first l.done (text_of (lines_from rules bytes a (n - a))) before at fits)

    module _ (m : a < n) where
      one_more : text_of (lines_from rules bytes a (n - a)) ≡ line_of rules bytes a ++ text_of (lines_from rules bytes (a + 1) (n - (a + 1)))
      one_more = ap (λ (k : ℕ). text_of (lines_from rules bytes a k)) (less a n m)
        where
          less : (a n : ℕ) → a < n → n - a ≡ suc (n - (a + 1))
          less a n m = omega arith

      rest_fits : Fits (line_of rules bytes a ++ text_of (lines_from rules bytes (a + 1) (n - (a + 1)))) page end
      rest_fits = subst (λ (t : List ℕ). Fits t page end) one_more (fits_next l.done (text_of (lines_from rules bytes a (n - a))) before at fits l.puts)

      pub laid_fits : Fits (line_of rules bytes a) page end
      laid_fits = fits_first (line_of rules bytes a) (text_of (lines_from rules bytes (a + 1) (n - (a + 1)))) page end rest_fits

      pub laid_next : {page' : List ℕ} {end' : ℕ} → Put (line_of rules bytes a) page end page' end' → Laid rules bytes n before at page' end' (a + 1)
      laid_next {page' = page'} {end' = end'} p =
          record {
            upto = omega arith;
            done = l.done ++ line_of rules bytes a;
            text = l.text ∙ ap (λ (t : List ℕ). l.done ++ t) one_more ∙ sym (append_assoc l.done (line_of rules bytes a) (text_of (lines_from rules bytes (a + 1) (n - (a + 1)))));
            puts = puts_both l.done (line_of rules bytes a) before at within l.puts p;
          }
        where
          within : Fits (l.done ++ line_of rules bytes a) before at
          within =
              omega (
                arith,
                fits,
                ap length one_more,
                length-append l.done (text_of (lines_from rules bytes a (n - a))),
                length-append l.done (line_of rules bytes a),
                length-append (line_of rules bytes a) (text_of (lines_from rules bytes (a + 1) (n - (a + 1)))),
              )

    pub laid_end : n ≤ a → Put (text_of (lines_from rules bytes 0 n)) before at page end
    laid_end m =
        subst (λ (t : List ℕ). Put t before at page end)
        (sym (l.text ∙ ap (λ (k : ℕ). l.done ++ text_of (lines_from rules bytes a k)) (none a n m) ∙ append-nil l.done)) l.puts
      where
        none : (a n : ℕ) → n ≤ a → n - a ≡ 0
        none a n m = omega arith

-- ---- the whole listing

module _ (rules : Rules) (bytes : List ℕ) where
  pub listing_8 : (length bytes % word_bytes ≡ 0 → ⊥) → listing_of rules bytes ≡ letters "refused" ++ rest_text (number 8 ∷ [])
  unfolding listing_of
  listing_8 h = rw (ne_eqb (length bytes % word_bytes) 0 h) (append-nil (letters "refused" ++ rest_text (number 8 ∷ [])))

  pub listing_9 : length bytes % word_bytes ≡ 0 → listed_words < length bytes / word_bytes → listing_of rules bytes ≡ letters "refused" ++ rest_text (number 9 ∷ [])
  unfolding listing_of
  listing_9 e l = rw (eq-eqb (length bytes % word_bytes) 0 e, lt-ltb listed_words (length bytes / word_bytes) l) (append-nil (letters "refused" ++ rest_text (number 9 ∷ [])))

  pub listing_lines : length bytes % word_bytes ≡ 0 → length bytes / word_bytes ≤ listed_words
      → listing_of rules bytes ≡ (letters "aps2-listing" ++ rest_text (number 1 ∷ [])) ++ text_of (lines_from rules bytes 0 (length bytes / word_bytes))
  unfolding listing_of
  listing_lines e l = rw (eq-eqb (length bytes % word_bytes) 0 e, le-ltb listed_words (length bytes / word_bytes) l)

-- ---- handed over

pub listed_not : (text before : List ℕ) {r : ℕ} → r ≡ length text → length before < r → Listed text before before r
listed_not text before e l =
    record { size = e; out = sym (ap (λ (t : Bool). pick t (text ++ drop (length text) before) before) (lt-leb (length text) (length before) (omega (arith, e, l)))) }

pub listed_whole : (text before t : List ℕ) {after page : List ℕ} {r : ℕ} → r ≡ length text → r ≤ length before → page ≡ put t 0 text
    → after ≡ take r page ++ drop r before → Listed text before after r
listed_whole text before t {page = page} e l p h =
    record {
      size = e;
      out = h ∙ ap (λ (k : ℕ). take k page ++ drop k before) e
          ∙ ap (λ (x : List ℕ). x ++ drop (length text) before) (ap (λ (x : List ℕ). take (length text) x) p ∙ front_put t text)
          ∙ sym (ap (λ (b : Bool). pick b (text ++ drop (length text) before) before) (le-leb (length text) (length before) (omega (arith, e, l))));
    }

-- ---- an input that is too long to be kept

pub heard_short : (n : ℕ) → n < heard_size → heard_of n ≡ n
heard_short n l = ap (λ (b : Bool). pick b n (heard_size - word_bytes + n % word_bytes)) (lt-ltb n heard_size l)

pub heard_long : (n : ℕ) → heard_size ≤ n → heard_of n ≡ heard_size - word_bytes + n % word_bytes
heard_long n l = ap (λ (b : Bool). pick b n (heard_size - word_bytes + n % word_bytes)) (le-ltb n heard_size l)

pub heard_same : HeardSame
heard_same rules input bytes e same = by (dec_lt (length input) heard_size) (ℕ_discrete (length input % word_bytes) 0)
  where
    long : (n m : ℕ) → heard_size ≤ n → m ≡ heard_size - word_bytes + n % word_bytes → (m % word_bytes ≡ n % word_bytes) × (listed_words < m / word_bytes) × (listed_words < n / word_bytes)
    long n m l e = (omega arith, omega arith, omega arith)

    by : Dec (length input < heard_size) → Dec (length input % word_bytes ≡ 0) → listing_of rules bytes ≡ listing_of rules input
    by (yes l) d = ap (listing_of rules) (same l)
    by (no h) (yes z) =
        let x = long (length input) (length bytes) (omega arith) (e ∙ heard_long (length input) (omega arith)) in
        listing_9 rules bytes (x.0 ∙ z) x.1 ∙ sym (listing_9 rules input z x.2)
    by (no h) (no z) =
        let x = long (length input) (length bytes) (omega arith) (e ∙ heard_long (length input) (omega arith)) in
        listing_8 rules bytes (λ q. z (sym x.0 ∙ q)) ∙ sym (listing_8 rules input z)
