-- Laws of words as they come in: a byte makes at most one word whole, it has room, and pieces are taken one after the other.
-- Assumes nothing.
use Prim.Native.Nat.{ℕ, ◌+◌, ◌-◌, ◌*◌, ◌%◌, ◌^◌, ◌≤◌, ◌<◌}
use mathlib.Core.Path.{◌≡◌, refl, sym, ap, ap₂, ◌∙◌}
use mathlib.Core.Bool.{Bool, true, false, not, ◌||◌}
use mathlib.Core.List.{List, [], ◌∷◌, ◌++◌, append_assoc}
use mathlib.Core.Logic.{◌⊎◌, inl, inr}
use native.Mathlib.Omega.{arith}
use native.Mathlib.Nat.{suc-mul, mod-lt, mod-eq_of_lt, le_trans, le_of_eq, mul-le-mul_right}
use native.Mathlib.Numerals.{add-one}
use borrow.Author.Tests.{lt-ltb, le-ltb, leb-false, eq-eqb}
use lib.Dec.{leb, ltb, eqb}
use lib.ListN.{length, drop, get_or}
use lib.Seq.{drop-cons}
use Rattle.instruction.specs.Bits.{pick}
use Rattle.instruction.specs.Word.{byte_span}
use Rattle.buffer.specs.Put.{put}
use Rattle.buffer.proofs.Laws.{put_none, put_put, length_put}
use Rattle.text.specs.Number.{between, is_digit}
use Rattle.text.specs.Cut.{line_feed}
use Rattle.typed.specs.Words.{is_white, hash, troubled, skipped, grown, CanGrow, hex_digit, past, is_part, word_digits, parted_by, digit_on, worth_on, text_on, raw_on, comma, decimal_grown, decimal_on, spelled_on, byte_on, new_word, taken_of, words_of, Takes, TakesOne}
use Rattle.typed.specs.declared.Spelling.{Spelling}
use Rattle.typed.specs.declared.Spelling.TheVariants.{Hex, Raw, Decimal}
use Rattle.std.specs.Prelude.{Option, Some, None, is_some}
use Rattle.typed.specs.declared.Taken.{Taken}
use Rattle.typed.specs.declared.Trouble.TheVariants.{NoDigit}
use Rattle.typed.proofs.Numbers.{in_between}
use Rattle.text.proofs.Alike.{ended}

either : {A : Type 0} (P : A → Type 0) (t : Bool) {a b : A} → P a → P b → P (pick t a b)
either P true p q = p
either P false p q = q

under : {A : Type 0} (P : A → Type 0) (t : Bool) {a b : A} → (t ≡ true → P a) → P b → P (pick t a b)
under P true p q = p refl
under P false p q = q

unless : {A : Type 0} (P : A → Type 0) (t : Bool) {a b : A} → P a → (t ≡ false → P b) → P (pick t a b)
unless P true p q = p
unless P false p q = q refl

-- ---- digits

-- a digit is below sixteen
pub digit_small : (b d : ℕ) → Some d ≡ hex_digit b → d < 16
digit_small b d e = by (is_digit b) refl (between 97 102 b) refl (between 65 70 b) refl e
  where
    by : (r : Bool) → is_digit b ≡ r → (s : Bool) → between 97 102 b ≡ s → (t : Bool) → between 65 70 b ≡ t
        → Some d ≡ pick r (Some (b - 48)) (pick s (Some (b - 87)) (pick t (Some (b - 55)) None)) → d < 16
    by true f s g t h e = let k : d ≡ b - 48 = cc in omega (arith, k, (in_between 48 57 b f).1)
    by false f true g t h e = let k : d ≡ b - 87 = cc in omega (arith, k, (in_between 97 102 b g).1)
    by false f false g true h e = let k : d ≡ b - 55 = cc in omega (arith, k, (in_between 65 70 b h).1)
    by false f false g false h e = cc

-- room for a digit more
pub digit_room : (span base d v : ℕ) → CanGrow span base d → (v % span * base < 2 ^ 64) × (v % span * base + d < 2 ^ 64)
digit_room span base d v g = (omega (arith, g.digit, g.room, below), omega (arith, g.digit, g.room, below))
  where
    below : v % span * base + base ≤ span * base
    below = le_trans (le_of_eq (sym (suc-mul (v % span) base))) (mul-le-mul_right base (mod-lt v g.some))

pub digit_first : (span base d : ℕ) (s : Taken) → s.digits ≡ 0 → 0 < span → d ≡ grown span base d s
digit_first span base d s e h = rw (eq-eqb s.digits 0 e, mod-eq_of_lt h) (omega arith)

-- ---- one byte

picked : {A : Type 0} (t : Bool) (a b : A) → t ≡ true → pick t a b ≡ a
picked true a b e = refl
picked false a b e = cc

passed : {A : Type 0} (t : Bool) (a b : A) → t ≡ false → pick t a b ≡ b
passed false a b e = refl
passed true a b e = cc

module _ (room b : ℕ) (s : Taken) where
  abbrev if_digit : Taken
  if_digit = worth_on room b (hex_digit b) s

  abbrev if_no_comment : Taken
  if_no_comment = pick (is_white b || eqb b hash) (parted_by b s) if_digit

  abbrev if_comment : Taken
  if_comment = skipped (past b s.place) (not (eqb b line_feed)) s.digits s

  pub text_comment : s.comment ≡ true → text_on room b s ≡ skipped (past b s.place) (not (eqb b line_feed)) s.digits s
  text_comment e = picked s.comment if_comment if_no_comment e

  module _ (e : s.comment ≡ false) where
    pub text_parted : (is_white b || eqb b hash) ≡ true → text_on room b s ≡ parted_by b s
    text_parted f = passed s.comment if_comment if_no_comment e ∙ picked (is_white b || eqb b hash) (parted_by b s) if_digit f

    module _ (f : (is_white b || eqb b hash) ≡ false) where
      to_digit : text_on room b s ≡ if_digit
      to_digit = passed s.comment if_comment if_no_comment e ∙ passed (is_white b || eqb b hash) (parted_by b s) if_digit f

      pub text_none : None ≡ hex_digit b → troubled NoDigit s ≡ text_on room b s
      text_none g = ap (λ (x : Option ℕ). worth_on room b x s) g ∙ sym to_digit

      pub text_digit : {d : ℕ} → Some d ≡ hex_digit b → digit_on room b d s ≡ text_on room b s
      text_digit g = ap (λ (x : Option ℕ). worth_on room b x s) g ∙ sym to_digit

-- ---- how many words there are

-- as many as before, or one more, for which there was room
abbrev pub Counts : ℕ → Taken → Taken → Type 0
Counts room s t = (t.count ≡ s.count) ⊎ ((t.count ≡ s.count + 1) × (s.count < room))

module _ (room b : ℕ) (s : Taken) where
  digit_counts : (d : ℕ) → Counts room s (digit_on room b d s)
  digit_counts d =
      either (Counts room s) (leb word_digits s.digits) (inl refl)
      (either (Counts room s) (ltb (s.digits + 1) word_digits) (inl refl)
      (unless (Counts room s) (leb room s.count) (inl refl) (λ e. inr (refl, leb-false room s.count e))))

  worth_counts : (x : Option ℕ) → Counts room s (worth_on room b x s)
  worth_counts None = inl refl
  worth_counts (Some d) = digit_counts d

  text_counts : Counts room s (text_on room b s)
  text_counts =
      either (Counts room s) s.comment (inl refl)
      (either (Counts room s) (is_white b || eqb b hash) (either (Counts room s) (is_part s) (inl refl) (inl refl))
      (worth_counts (hex_digit b)))

  raw_counts : Counts room s (raw_on room b s)
  raw_counts =
      either (Counts room s) (ltb s.digits 7) (inl refl)
      (unless (Counts room s) (leb room s.count) (inl refl) (λ e. inr (refl, leb-false room s.count e)))

  decimal_counts : Counts room s (decimal_on room b s)
  decimal_counts =
      either (Counts room s) (eqb b comma)
      (either (Counts room s) (eqb s.digits 0) (inl refl)
      (unless (Counts room s) (leb room s.count) (inl refl) (λ e. inr (refl, leb-false room s.count e))))
      (either (Counts room s) (is_digit b)
      (either (Counts room s) (leb byte_span (decimal_grown b s)) (inl refl) (inl refl))
      (inl refl))

  spelled_counts : (spelling : Spelling) → Counts room s (spelled_on spelling room b s)
  spelled_counts Hex = text_counts
  spelled_counts Raw = raw_counts
  spelled_counts Decimal = decimal_counts

  pub byte_counts : (spelling : Spelling) → Counts room s (byte_on spelling room b s)
  byte_counts spelling = either (Counts room s) (is_some s.trouble) (inl refl) (spelled_counts spelling)

-- ---- the word that a byte made whole

pub no_word : (s t : Taken) → t.count ≤ s.count → new_word s t ≡ []
no_word s t h = rw (le-ltb s.count t.count h)

pub one_word : (s t : Taken) → s.count < t.count → new_word s t ≡ t.value ∷ []
one_word s t h = rw (lt-ltb s.count t.count h)

pub word_room : (room : ℕ) (s t : Taken) → Counts room s t → s.count < t.count → s.count < room
word_room room s t (inl e) h = absurd (omega arith)
word_room room s t (inr e) h = e.1

-- written behind the others, and then those that come after it
put_next : (room : ℕ) (before rest : List ℕ) (s t : Taken) → length before ≡ room → Counts room s t
    → put (put before s.count (new_word s t)) t.count rest ≡ put before s.count (new_word s t ++ rest)
put_next room before rest s t l (inl e) =
    ap (λ (w : List ℕ). put (put before s.count w) t.count rest) (no_word s t (omega arith))
    ∙ ap₂ (λ (u : List ℕ) (k : ℕ). put u k rest) (put_none before s.count) e
    ∙ ap (λ (w : List ℕ). put before s.count (w ++ rest)) (sym (no_word s t (omega arith)))
put_next room before rest s t l (inr e) =
    ap (λ (w : List ℕ). put (put before s.count w) t.count rest) (one_word s t (omega (arith, e.0)))
    ∙ ap (λ (k : ℕ). put (put before s.count (t.value ∷ [])) k rest) e.0
    ∙ put_put before (t.value ∷ []) rest s.count (omega (arith, e.1))
    ∙ ap (λ (w : List ℕ). put before s.count (w ++ rest)) (sym (one_word s t (omega (arith, e.0))))

put_length : (room : ℕ) (before : List ℕ) (s t : Taken) → length before ≡ room → Counts room s t
    → length (put before s.count (new_word s t)) ≡ length before
put_length room before s t l (inl e) = ap length (ap (put before s.count) (no_word s t (omega arith)) ∙ put_none before s.count)
put_length room before s t l (inr e) =
    ap (λ (w : List ℕ). length (put before s.count w)) (one_word s t (omega (arith, e.0)))
    ∙ length_put before (t.value ∷ []) s.count (omega (arith, e.1))

-- ---- byte by byte

-- what is known after i bytes of a text
pub record Along (spelling : Spelling) (s : Taken) (text before after : List ℕ) (t : Taken) (i : ℕ) : Type 0 where
  pub inside : i ≤ length text
  pub size : length after ≡ length before
  pub state : taken_of spelling (length before) t (drop i text) ≡ taken_of spelling (length before) s text
  pub words : put after t.count (words_of spelling (length before) t (drop i text)) ≡ put before s.count (words_of spelling (length before) s text)

pub along_start : (spelling : Spelling) (s : Taken) (text before : List ℕ) → Along spelling s text before before s 0
along_start spelling s text before = record { inside = omega arith; size = refl; state = refl; words = refl }

module _ (spelling : Spelling) (s : Taken) (text before after : List ℕ) (t : Taken) (i : ℕ) (a : Along spelling s text before after t i) where
  module _ (h : i < length text) where
    abbrev b : ℕ
    b = get_or text i 0

    rest : drop i text ≡ b ∷ drop (i + 1) text
    rest = drop-cons text i 0 h ∙ ap (λ (k : ℕ). b ∷ drop k text) (sym (add-one i))

    pub along_next : (later : List ℕ) (u : Taken) → TakesOne spelling t b after later u → Along spelling s text before later u (i + 1)
    along_next later u w =
        record {
          inside = omega arith;
          size = ap length w.words ∙ put_length room after t u a.size counts ∙ a.size;
          state = ap (λ (x : Taken). taken_of spelling room x (drop (i + 1) text)) (w.state ∙ at) ∙ ap (taken_of spelling room t) (sym rest) ∙ a.state;
          words =
              ap (λ (l : List ℕ). put l u.count others) w.words
              ∙ put_next room after others t u a.size counts
              ∙ ap (λ (x : Taken). put after t.count (new_word t x ++ words_of spelling room x (drop (i + 1) text))) (w.state ∙ at)
              ∙ ap (λ (l : List ℕ). put after t.count (words_of spelling room t l)) (sym rest)
              ∙ a.words;
        }
      where
        room : ℕ
        room = length before

        at : byte_on spelling (length after) b t ≡ byte_on spelling room b t
        at = ap (λ (n : ℕ). byte_on spelling n b t) a.size

        others : List ℕ
        others = words_of spelling room u (drop (i + 1) text)

        counts : Counts room t u
        counts = rw (w.state ∙ at) (byte_counts room b t spelling)

  pub along_end : length text ≤ i → Takes spelling s text before after t
  along_end h =
      record {
        state = ap (taken_of spelling (length before) t) (sym (ended text i h)) ∙ a.state;
        words =
            sym (put_none after t.count)
            ∙ ap (λ (l : List ℕ). put after t.count (words_of spelling (length before) t l)) (sym (ended text i h))
            ∙ a.words;
      }

-- ---- pieces

-- an input in pieces is taken as a whole one is
pub taken_pieces : (spelling : Spelling) (room : ℕ) (s : Taken) (xs ys : List ℕ)
    → taken_of spelling room s (xs ++ ys) ≡ taken_of spelling room (taken_of spelling room s xs) ys
taken_pieces spelling room s [] ys = refl
taken_pieces spelling room s (b ∷ xs) ys = taken_pieces spelling room (byte_on spelling room b s) xs ys

pub words_pieces : (spelling : Spelling) (room : ℕ) (s : Taken) (xs ys : List ℕ)
    → words_of spelling room s (xs ++ ys) ≡ words_of spelling room s xs ++ words_of spelling room (taken_of spelling room s xs) ys
words_pieces spelling room s [] ys = refl
words_pieces spelling room s (b ∷ xs) ys =
    ap (λ (l : List ℕ). new_word s (byte_on spelling room b s) ++ l) (words_pieces spelling room (byte_on spelling room b s) xs ys)
    ∙ sym (append_assoc (new_word s (byte_on spelling room b s)) (words_of spelling room (byte_on spelling room b s) xs) (words_of spelling room (taken_of spelling room (byte_on spelling room b s) xs) ys))
