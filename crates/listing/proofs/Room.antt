-- How long a listing can be: no number of a word has more than ten digits, so no line is longer than a line's share of the page.
-- Assumes nothing.
use Prim.Native.Nat.{ℕ, zero, suc, ◌+◌, ◌*◌, ◌/◌, ◌%◌, ◌^◌, ◌≤◌, ◌<◌}
use mathlib.Core.Path.{◌≡◌, refl, sym, ap, subst}
use mathlib.Core.Bool.{Bool, true, false, not, ◌&&◌}
use mathlib.Core.List.{List, [], ◌∷◌, ◌++◌, map}
use native.Mathlib.Nat.{mod-lt, lt_of_lt_of_le}
use native.Mathlib.Decide.{ℕ_discrete, dec_lt}
use native.Mathlib.Omega.{arith}
use borrow.Author.Tests.{leb-true}
use lib.Dec.{leb, lit<, lit≤}
use lib.Pow.{pow_pos, pow_mono}
use lib.ListN.{length, get_or, length-append}
use Rattle.instruction.specs.Bits.{pick, held}
use Rattle.instruction.specs.Table.{engine_select, write_flag, payload_of, code_of, is_ignored, noop_word, values_of, bodies, body_of}
use Rattle.instruction.specs.Form.{tells_bit}
use Rattle.instruction.specs.Word.{code_in, values_in, spelled_by}
use Rattle.instruction.specs.declared.Field.{Field}
use Rattle.instruction.specs.declared.Refusal.{Refusal}
use Rattle.instruction.specs.declared.Rules.{Rules}
use Rattle.instruction.specs.declared.Instruction.{Instruction}
use Rattle.instruction.specs.declared.Body.{Body}
use Rattle.instruction.specs.declared.Body.TheVariants.{Waveform, Marker, Wait, LoadRepeat, Repeat, Cmp, Goto, Call, Return, Sync, Modulator, LoadCmp, Prefetch, Noop}
use Rattle.reader.specs.Reading.{Reading, form_in, highest_stray, refused_with, reading_of}
use Rattle.reader.proofs.Laws.{reads_noop, reads, refuses}
use Rattle.reader.proofs.Below.{both, none_below}
use Rattle.reader.proofs.Masks.{code_small}
use Rattle.reader.proofs.Strays.{stray_inside}
use Rattle.reader.proofs.Coarse.{form_small}
use Rattle.text.specs.Line.{number, letters, decimal, rest_text, line_text, text_of}
use Rattle.instruction.specs.Word.{word_bytes}
use Rattle.names.specs.Names.{name_of}
use Rattle.listing.specs.Listing.{shows_none, shown_of, entries_of, bad_numbers, entries_in, word_at, lines_from, listed_words, listing_of, line_size, page_size}
use Rattle.page.proofs.Decimal.{decimal_short}
use Rattle.listing.proofs.Lines.{noop_line, other_line, listing_8, listing_9, listing_lines}

-- ---- the numbers of a word

abbrev widest : ℕ
widest = 32

abbrev Small : List ℕ → Type 0
Small [] = Unit {0}
Small (v ∷ vs) = (v < 2 ^ widest) × Small vs

abbrev narrow : List Field → Bool
narrow [] = true
narrow (f ∷ fs) = leb f.width widest && narrow fs

held_small : (w : ℕ) (f : Field) → leb f.width widest ≡ true → held w f < 2 ^ widest
held_small w f e = lt_of_lt_of_le (mod-lt (w / 2 ^ f.low) (pow_pos f.width)) (pow_mono {j = 32} (leb-true f.width widest e))

fields_small : (w : ℕ) (fs : List Field) → narrow fs ≡ true → (k : ℕ) → get_or (map (held w) fs) k 0 < 2 ^ widest
fields_small w [] e k = lit< tt
fields_small w (f ∷ fs) e zero = held_small w f (both (leb f.width widest) (narrow fs) e).0
fields_small w (f ∷ fs) e (suc k) = fields_small w fs (both (leb f.width widest) (narrow fs) e).1 k

-- every payload field that is read is narrow
all_narrow : (code : ℕ) → code < 16 → is_ignored code ≡ false → narrow (payload_of code) ≡ true
all_narrow code l i = read (is_ignored code) (narrow (payload_of code)) i (none_below 16 (λ k. not (is_ignored k) && not (narrow (payload_of k))) refl code l)
  where
    read : (a b : Bool) → a ≡ false → (not a && not b) ≡ false → b ≡ true
    read a true p q = refl
    read true false p q = sym p
    read false false p q = sym q

values_small : (w k : ℕ) → get_or (values_in (code_in w) w) k 0 < 2 ^ widest
values_small w k = by (is_ignored (code_in w)) refl
  where
    by : (b : Bool) → is_ignored (code_in w) ≡ b → get_or (pick b [] (map (held w) (payload_of (code_in w)))) k 0 < 2 ^ widest
    by true e = lit< tt
    by false e = fields_small w (payload_of (code_in w)) (all_narrow (code_in w) (code_small w) e) k

-- what holds of every body of a list, and of another, holds of the one that is got
abbrev AllBodies : (Body → Type 0) → List Body → Type 0
AllBodies P [] = Unit {0}
AllBodies P (b ∷ bs) = P b × AllBodies P bs

body_got : (P : Body → Type 0) (bs : List Body) (k : ℕ) → AllBodies P bs → P Noop → P (get_or bs k Noop)
body_got P [] k a d = d
body_got P (b ∷ bs) zero a d = a.0
body_got P (b ∷ bs) (suc k) a d = body_got P bs k a.1 d

body_small : (code : ℕ) (vs : List ℕ) → ((k : ℕ) → get_or vs k 0 < 2 ^ widest) → Small (values_of (body_of code vs))
body_small code vs h =
    body_got (λ b. Small (values_of b)) (bodies vs) code (
      (h 0, (h 1, (h 2, (h 3, tt)))),
      (
        (h 0, (h 1, (h 2, (h 3, tt)))),
        (
          (lit< tt, tt),
          (
            (h 0, tt),
            (
              (h 0, tt),
              (
                (h 0, (h 1, tt)),
                (
                  (h 0, tt),
                  (
                    (h 0, tt),
                    (
                      (h 0, tt),
                      (
                        (lit< tt, tt),
                        (
                          (h 0, (h 1, (h 2, tt))),
                          (
                            (h 0, tt),
                            ((h 0, tt), tt),
                          ),
                        ),
                      ),
                    ),
                  ),
                ),
              ),
            ),
          ),
        ),
      ),
    )
    tt

-- ---- lines

numbers_short : (vs : List ℕ) → Small vs → length (rest_text (map number vs)) ≤ 11 * length vs + 1
numbers_short [] h = omega arith
numbers_short (v ∷ vs) h =
    omega (arith, decimal_short 9 v (lt_of_lt_of_le h.0 (lit≤ tt)), numbers_short vs h.1, length-append (decimal v) (rest_text (map number vs)))

shown_few : (b : Body) → length (shown_of b) ≤ 4
shown_few (Waveform f) = omega arith
shown_few (Marker f) = omega arith
shown_few Wait = omega arith
shown_few (LoadRepeat n) = omega arith
shown_few (Repeat a) = omega arith
shown_few (Cmp x) = omega arith
shown_few (Goto a) = omega arith
shown_few (Call a) = omega arith
shown_few (Return p) = omega arith
shown_few Sync = omega arith
shown_few (Modulator f) = omega arith
shown_few (LoadCmp p) = omega arith
shown_few (Prefetch a) = omega arith
shown_few Noop = omega arith

name_short : (b : Body) → length (letters (name_of b)) ≤ 11
name_short (Waveform f) = omega arith
name_short (Marker f) = omega arith
name_short Wait = omega arith
name_short (LoadRepeat n) = omega arith
name_short (Repeat a) = omega arith
name_short (Cmp x) = omega arith
name_short (Goto a) = omega arith
name_short (Call a) = omega arith
name_short (Return p) = omega arith
name_short Sync = omega arith
name_short (Modulator f) = omega arith
name_short (LoadCmp p) = omega arith
name_short (Prefetch a) = omega arith
name_short Noop = omega arith

shown_small : (b : Body) → Small (values_of b) → Small (shown_of b)
shown_small b h = by (shows_none b)
  where
    by : (t : Bool) → Small (pick t [] (values_of b))
    by true = tt
    by false = h

abbrev rest_size : ℕ
rest_size = 64

instruction_short : (i : Instruction) → i.engine < 10 → i.write < 10 → Small (values_of i.body) → length (rest_text (entries_of i)) ≤ rest_size
instruction_short i e f h = by (ℕ_discrete (code_of i.body) (code_of Noop))
  where
    x : List ℕ
    x = 9 ∷ letters (name_of i.body)

    r : List ℕ
    r = rest_text (map number (shown_of i.body))

    by : Dec (code_of i.body ≡ code_of Noop) → length (rest_text (entries_of i)) ≤ rest_size
    by (yes p) = omega (arith, ap length (noop_line i p), length-append x (rest_text []), name_short i.body)
    by (no p) =
        omega (
          arith,
          ap length (other_line i p),
          length-append x ((9 ∷ decimal i.engine) ++ ((9 ∷ decimal i.write) ++ r)),
          length-append (9 ∷ decimal i.engine) ((9 ∷ decimal i.write) ++ r),
          length-append (9 ∷ decimal i.write) r,
          name_short i.body,
          decimal_short 0 i.engine e,
          decimal_short 0 i.write f,
          numbers_short (shown_of i.body) (shown_small i.body h),
          shown_few i.body,
        )

-- a refusal shows three numbers at the most
bad_short : (r : Refusal) → r.number < 2 ^ widest → r.bit < 2 ^ widest → length (rest_text (map number (bad_numbers r))) ≤ 34
bad_short r n b = by (tells_bit r.number)
  where
    by : (t : Bool) → length (rest_text (map number (pick t (11 ∷ r.number ∷ r.bit ∷ []) (r.number ∷ [])))) ≤ 34
    by true = numbers_short (11 ∷ r.number ∷ r.bit ∷ []) (lit< tt, (n, (b, tt)))
    by false = let x = numbers_short (r.number ∷ []) (n, tt) in omega (arith, x)

bit_small : (rules : Rules) (w : ℕ) → (refused_with w (form_in rules w)).bit < 2 ^ widest
bit_small rules w = by (tells_bit (form_in rules w))
  where
    by : (t : Bool) → pick t (highest_stray w) 0 < 2 ^ widest
    by true = omega (arith, stray_inside w)
    by false = lit< tt

spelled_short : (w : ℕ) → length (rest_text (entries_of (spelled_by w))) ≤ rest_size
unfolding spelled_by
spelled_short w =
    instruction_short (spelled_by w) (lt_of_lt_of_le (mod-lt (w / 2 ^ engine_select.low) (lit< tt)) (lit≤ tt)) (lt_of_lt_of_le (mod-lt (w / 2 ^ write_flag.low) (lit< tt)) (lit≤ tt))
    (body_small (code_in w) (values_in (code_in w) w) (values_small w))

rest_short : (rules : Rules) (w : ℕ) → length (rest_text (entries_in (reading_of rules w))) ≤ rest_size
rest_short rules w = by (ℕ_discrete w noop_word) (ℕ_discrete (form_in rules w) 0)
  where
    told : {q : Reading} → reading_of rules w ≡ q → length (rest_text (entries_in q)) ≤ rest_size → length (rest_text (entries_in (reading_of rules w))) ≤ rest_size
    told e h = subst (λ (q : Reading). length (rest_text (entries_in q)) ≤ rest_size) (sym e) h

    by : Dec (w ≡ noop_word) → Dec (form_in rules w ≡ 0) → length (rest_text (entries_in (reading_of rules w))) ≤ rest_size
    by (yes p) d = told (reads_noop rules w p) (lit≤ tt)
    by (no p) (yes z) = told (reads rules w p z) (spelled_short w)
    by (no p) (no z) = told (refuses rules w p z) (omega (arith, bad_short (refused_with w (form_in rules w)) (lt_of_lt_of_le (form_small rules w) (lit≤ tt)) (bit_small rules w)))

pub line_short : (rules : Rules) (a w : ℕ) → a < 10 ^ 20 → length (line_text (number a) (entries_in (reading_of rules w))) ≤ line_size
line_short rules a w l = omega (arith, length-append (decimal a) (rest_text (entries_in (reading_of rules w))), decimal_short 19 a l, rest_short rules w)

pub lines_short : (rules : Rules) (bytes : List ℕ) (a n : ℕ) → a + n ≤ 10 ^ 20 → length (text_of (lines_from rules bytes a n)) ≤ n * line_size
lines_short rules bytes a zero l = omega arith
lines_short rules bytes a (suc n) l =
    omega (
      arith,
      length-append (line_text (number a) (entries_in (reading_of rules (word_at bytes a)))) (text_of (lines_from rules bytes (a + 1) n)),
      line_short rules a (word_at bytes a) (omega arith),
      lines_short rules bytes (a + 1) n (omega arith),
    )

-- ---- the whole

pub pair_short : (text : List ℕ) (n : ℕ) → length text ≤ 12 → n < 10 → length (text ++ rest_text (number n ∷ [])) ≤ line_size
pair_short text n l h =
    omega (arith, length-append text (rest_text (number n ∷ [])), length-append (decimal n) (rest_text []), decimal_short 0 n h)

pub listing_short : (rules : Rules) (bytes : List ℕ) → length (listing_of rules bytes) ≤ page_size
listing_short rules bytes = by (ℕ_discrete (length bytes % word_bytes) 0) (dec_lt listed_words (length bytes / word_bytes))
  where
    lines : List ℕ
    lines = text_of (lines_from rules bytes 0 (length bytes / word_bytes))

    by : Dec (length bytes % word_bytes ≡ 0) → Dec (listed_words < length bytes / word_bytes) → length (listing_of rules bytes) ≤ page_size
    by (no h) d = omega (arith, ap length (listing_8 rules bytes h), pair_short (letters "refused") 8 (lit≤ tt) (lit< tt))
    by (yes e) (yes l) = omega (arith, ap length (listing_9 rules bytes e l), pair_short (letters "refused") 9 (lit≤ tt) (lit< tt))
    by (yes e) (no l) =
        omega (
          arith,
          ap length (listing_lines rules bytes e (omega arith)),
          length-append (letters "aps2-listing" ++ rest_text (number 1 ∷ [])) lines,
          pair_short (letters "aps2-listing") 1 (lit≤ tt) (lit< tt),
          lines_short rules bytes 0 (length bytes / word_bytes) (omega arith),
        )
