-- What the listing shows of an instruction, and the instruction from it: the two ways undo each other.
-- Assumes nothing.
use Prim.Native.Nat.{ℕ, zero, suc, ◌<◌}
use mathlib.Core.Path.{◌≡◌, refl, sym, ap, ◌∙◌}
use mathlib.Core.Bool.{Bool, true, false, ◌&&◌}
use mathlib.Core.List.{List, [], ◌∷◌, map}
use native.Mathlib.Omega.{arith}
use borrow.Author.Tests.{eqb-true, leb-true}
use lib.Dec.{eqb, leb, lit<}
use lib.ListN.{length, get_or, drop}
use Rattle.instruction.specs.Bits.{pick, span, all_fit}
use Rattle.instruction.specs.Table.{engine_select, write_flag, payload_of, code_of, is_noop, values_of}
use Rattle.instruction.specs.Word.{body_fits, fits_of}
use Rattle.instruction.specs.declared.Field.{Field}
use Rattle.instruction.specs.declared.Instruction.{Instruction}
use Rattle.instruction.specs.declared.Body.{Body}
use Rattle.instruction.specs.declared.Body.TheVariants.{Waveform, Marker, Wait, LoadRepeat, Repeat, Cmp, Goto, Call, Return, Sync, Modulator, LoadCmp, Prefetch, Noop}
use Rattle.text.specs.Line.{name, number, letters, decimal, entry_text}
use Rattle.text.specs.Number.{numbers}
use Rattle.names.specs.Names.{name_of, name_count, name_at}
use Rattle.listing.specs.Listing.{shown_of, entries_of}
use Rattle.listing_reader.specs.ReadBack.{instruction_of, field_count}
use Rattle.demands.proofs.Fields.{Fit, none, some, fit_of}
use Rattle.text.proofs.Bools.{both}

abbrev ins : ℕ → ℕ → Body → Instruction
ins e w b = record { engine = e; write = w; body = b }

-- the numbers behind the name
abbrev pub shown_values : Instruction → List ℕ
shown_values i = pick (is_noop i.body) [] (i.engine ∷ i.write ∷ shown_of i.body)

entries_map : (vs : List ℕ) → map entry_text (map number vs) ≡ map decimal vs
entries_map [] = refl
entries_map (v ∷ vs) = ap (λ (l : List (List ℕ)). decimal v ∷ l) (entries_map vs)

-- the name, and these numbers
pub entries_shown : (i : Instruction) → entries_of i ≡ name (name_of i.body) ∷ map number (shown_values i)
entries_shown i = by (is_noop i.body)
  where
    by : (t : Bool) → name (name_of i.body) ∷ pick t [] (number i.engine ∷ number i.write ∷ map number (shown_of i.body))
        ≡ name (name_of i.body) ∷ map number (pick t [] (i.engine ∷ i.write ∷ shown_of i.body))
    by true = refl
    by false = refl

pub texts_shown : (i : Instruction) → map entry_text (entries_of i) ≡ letters (name_of i.body) ∷ map decimal (shown_values i)
texts_shown i = ap (map entry_text) (entries_shown i) ∙ ap (λ (l : List (List ℕ)). letters (name_of i.body) ∷ l) (entries_map (shown_values i))

-- ---- from numbers, and back

items : ℕ → ℕ → List ℕ → List ℕ
items j zero ws = []
items j (suc m) ws = get_or ws j 0 ∷ items (suc j) m ws

items_behind : (j m w : ℕ) (ws : List ℕ) → items (suc j) m (w ∷ ws) ≡ items j m ws
unfolding items
items_behind j zero w ws = refl
items_behind j (suc m) w ws = ap (λ (l : List ℕ). get_or ws j 0 ∷ l) (items_behind (suc j) m w ws)

all_items : (m : ℕ) (ws : List ℕ) → length ws ≡ m → items 0 m ws ≡ ws
unfolding items
all_items zero [] e = refl
all_items zero (w ∷ ws) e = absurd (omega arith)
all_items (suc m) [] e = absurd (omega arith)
all_items (suc m) (w ∷ ws) e = ap (λ (l : List ℕ). w ∷ l) (items_behind 0 m w ws ∙ all_items m ws (omega arith))

two_items : (m : ℕ) (vs : List ℕ) → length vs ≡ suc (suc m) → get_or vs 0 0 ∷ get_or vs 1 0 ∷ items 0 m (drop 2 vs) ≡ vs
two_items m [] e = absurd (omega arith)
two_items m (v ∷ []) e = absurd (omega arith)
two_items m (v ∷ w ∷ vs) e = ap (λ (l : List ℕ). v ∷ w ∷ l) (all_items m vs (omega arith))

no_items : (vs : List ℕ) → length vs ≡ 0 → [] ≡ vs
no_items [] e = refl
no_items (v ∷ vs) e = absurd (omega arith)

-- as many numbers as its row shows are shown again
pub values_shown : (row : ℕ) (vs : List ℕ) → row < name_count → length vs ≡ field_count row → shown_values (instruction_of row vs) ≡ vs
unfolding items
values_shown zero vs h e = two_items 4 vs e
values_shown (suc zero) vs h e = two_items 4 vs e
values_shown (suc (suc zero)) vs h e = two_items 0 vs e
values_shown (suc (suc (suc zero))) vs h e = two_items 1 vs e
values_shown (suc (suc (suc (suc zero)))) vs h e = two_items 1 vs e
values_shown (suc (suc (suc (suc (suc zero))))) vs h e = two_items 2 vs e
values_shown (suc (suc (suc (suc (suc (suc zero)))))) vs h e = two_items 1 vs e
values_shown (suc (suc (suc (suc (suc (suc (suc zero))))))) vs h e = two_items 1 vs e
values_shown (suc (suc (suc (suc (suc (suc (suc (suc zero)))))))) vs h e = two_items 0 vs e
values_shown (suc (suc (suc (suc (suc (suc (suc (suc (suc zero))))))))) vs h e = two_items 0 vs e
values_shown (suc (suc (suc (suc (suc (suc (suc (suc (suc (suc zero)))))))))) vs h e = two_items 3 vs e
values_shown (suc (suc (suc (suc (suc (suc (suc (suc (suc (suc (suc zero))))))))))) vs h e = two_items 0 vs e
values_shown (suc (suc (suc (suc (suc (suc (suc (suc (suc (suc (suc (suc zero)))))))))))) vs h e = two_items 1 vs e
values_shown (suc (suc (suc (suc (suc (suc (suc (suc (suc (suc (suc (suc (suc zero))))))))))))) vs h e = no_items vs e
values_shown (suc (suc (suc (suc (suc (suc (suc (suc (suc (suc (suc (suc (suc (suc n)))))))))))))) vs h e = absurd (omega arith)

-- ---- from an instruction, and back

-- the row of the table that has its name
abbrev pub row_of : Body → ℕ
row_of b = pick (is_noop b) 13 (code_of b)

-- what is shown of an instruction that fits: a row, its name, numbers below 2^64, and the instruction again
pub record Shows (i : Instruction) : Type 0 where
  pub row : row_of i.body < name_count
  pub called : name_at (row_of i.body) ≡ letters (name_of i.body)
  pub again : instruction_of (row_of i.body) (shown_values i) ≡ i

named_so : (b : Body) → (row_of b < name_count) × (name_at (row_of b) ≡ letters (name_of b))
named_so (Waveform f) = (lit< tt, refl)
named_so (Marker f) = (lit< tt, refl)
named_so Wait = (lit< tt, refl)
named_so (LoadRepeat n) = (lit< tt, refl)
named_so (Repeat a) = (lit< tt, refl)
named_so (Cmp x) = (lit< tt, refl)
named_so (Goto a) = (lit< tt, refl)
named_so (Call a) = (lit< tt, refl)
named_so (Return p) = (lit< tt, refl)
named_so Sync = (lit< tt, refl)
named_so (Modulator f) = (lit< tt, refl)
named_so (LoadCmp p) = (lit< tt, refl)
named_so (Prefetch a) = (lit< tt, refl)
named_so Noop = (lit< tt, refl)

body_again : (e w : ℕ) (b : Body) → fits_of (ins e w b) ≡ true → instruction_of (row_of b) (shown_values (ins e w b)) ≡ ins e w b
unfolding fits_of
body_again e w (Waveform f) t = refl
body_again e w (Marker f) t = refl
body_again e w Wait t = refl
body_again e w (LoadRepeat n) t = refl
body_again e w (Repeat a) t = refl
body_again e w (Cmp x) t = refl
body_again e w (Goto a) t = refl
body_again e w (Call a) t = refl
body_again e w (Return p) t =
    let z = eqb-true p.0 0 (both (all_fit (engine_select ∷ write_flag ∷ []) (e ∷ w ∷ [])) _ t).1 in
    λ j. ins e w (Return (record { 0 = sym z j }))
body_again e w Sync t = refl
body_again e w (Modulator f) t = refl
body_again e w (LoadCmp p) t =
    let z = eqb-true p.0 0 (both (all_fit (engine_select ∷ write_flag ∷ []) (e ∷ w ∷ [])) _ t).1 in
    λ j. ins e w (LoadCmp (record { 0 = sym z j }))
body_again e w (Prefetch a) t = refl
body_again e w Noop t =
    let z = both (eqb e 0) (eqb w 0) t in
    λ j. ins (sym (eqb-true e 0 z.0) j) (sym (eqb-true w 0 z.1) j) Noop

pub shows : (i : Instruction) → fits_of i ≡ true → Shows i
shows i t =
    let n = named_so i.body in
    record { row = n.0; called = n.1; again = body_again i.engine i.write i.body t }

-- ---- numbers below 2^64

pub data Small : List ℕ → Type 0 where
  no_more : Small []
  one_more : {v : ℕ} {vs : List ℕ} → v < numbers → Small vs → Small (v ∷ vs)

-- fields that are no wider than a word
narrow : List Field → Bool
narrow [] = true
narrow (f ∷ fs) = leb (span f) numbers && narrow fs

fit_small : {fs : List Field} {vs : List ℕ} → narrow fs ≡ true → Fit fs vs → Small vs
unfolding narrow
fit_small e none = no_more
fit_small {fs = f ∷ fs} e (some {v = v} h r) =
    let g = both (leb (span f) numbers) (narrow fs) e in
    one_more {v = v} (omega (arith, h, leb-true (span f) numbers g.0)) (fit_small g.1 r)

shown_small : (b : Body) → body_fits b ≡ true → Small (shown_of b)
unfolding narrow
shown_small (Waveform f) t = fit_small refl (fit_of true (payload_of 0) (values_of (Waveform f)) refl t).1
shown_small (Marker f) t = fit_small refl (fit_of true (payload_of 1) (values_of (Marker f)) refl t).1
shown_small Wait t = no_more
shown_small (LoadRepeat n) t = fit_small refl (fit_of true (payload_of 3) (values_of (LoadRepeat n)) refl t).1
shown_small (Repeat a) t = fit_small refl (fit_of true (payload_of 4) (values_of (Repeat a)) refl t).1
shown_small (Cmp x) t = fit_small refl (fit_of true (payload_of 5) (values_of (Cmp x)) refl t).1
shown_small (Goto a) t = fit_small refl (fit_of true (payload_of 6) (values_of (Goto a)) refl t).1
shown_small (Call a) t = fit_small refl (fit_of true (payload_of 7) (values_of (Call a)) refl t).1
shown_small (Return p) t = no_more
shown_small Sync t = no_more
shown_small (Modulator f) t = fit_small refl (fit_of true (payload_of 10) (values_of (Modulator f)) refl t).1
shown_small (LoadCmp p) t = no_more
shown_small (Prefetch a) t = fit_small refl (fit_of true (payload_of 12) (values_of (Prefetch a)) refl t).1
shown_small Noop t = no_more

header_small : (e w : ℕ) (vs : List ℕ) → all_fit (engine_select ∷ write_flag ∷ []) (e ∷ w ∷ []) ≡ true → Small vs → Small (e ∷ w ∷ vs)
unfolding narrow
header_small e w vs t r = by (fit_small refl (fit_of true (engine_select ∷ write_flag ∷ []) (e ∷ w ∷ []) refl t).1)
  where
    by : Small (e ∷ w ∷ []) → Small (e ∷ w ∷ vs)
    by (one_more p (one_more q s)) = one_more p (one_more q r)

pub all_small : (i : Instruction) → fits_of i ≡ true → Small (shown_values i)
unfolding fits_of
all_small i t = by (is_noop i.body) t
  where
    by : (n : Bool) → pick n (eqb i.engine 0 && eqb i.write 0) (all_fit (engine_select ∷ write_flag ∷ []) (i.engine ∷ i.write ∷ []) && body_fits i.body) ≡ true
        → Small (pick n [] (i.engine ∷ i.write ∷ shown_of i.body))
    by true e = no_more
    by false e =
        let g = both (all_fit (engine_select ∷ write_flag ∷ []) (i.engine ∷ i.write ∷ [])) (body_fits i.body) e in
        header_small i.engine i.write (shown_of i.body) g.0 (shown_small i.body g.1)
