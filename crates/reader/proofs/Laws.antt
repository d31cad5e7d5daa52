-- Laws of reading: what a word reads as, by its tests.
-- Assumes nothing.
use mathlib.Core.Path.{◌≡◌, refl, sym, ap, ap₂, ◌∙◌}
use mathlib.Core.Bool.{Bool, true, false, not, ◌&&◌, true≢false}
use mathlib.Core.List.{List}
use native.Mathlib.Decide.{ℕ_discrete}
use Prim.Native.Nat.{ℕ, zero, suc, ◌<◌, ◌≤◌}
use native.Mathlib.Omega.{arith}
use lib.Dec.{eqb, leb}
use borrow.Author.Tests.{eq-eqb, ne_eqb, eqb-true, not-true, le-leb, lt-leb, leb-true, le-ltb}
use Rattle.instruction.specs.Bits.{pick, held, held_in}
use Rattle.instruction.specs.Form.{numbered, tells_bit, body_form, form_of}
use Rattle.instruction.specs.declared.Refusal.{Refusal}
use Rattle.instruction.specs.declared.Rules.{Rules}
use Rattle.instruction.specs.Table.{engine_select, write_flag, payload_of, waveform_of, body_of, noop_word}
use Rattle.instruction.specs.Word.{code_in, values_in, spelled_by, noop}
use Rattle.instruction.specs.declared.WaveformFields.{WaveformFields}
use Rattle.instruction.specs.declared.Body.{Body}
use Rattle.instruction.specs.declared.Body.TheVariants.{Waveform}
use Rattle.instruction.proofs.Laws.{form_at}
use Rattle.reader.specs.Masks.{has_unnamed}
use Rattle.reader.specs.Reading.{not_its_op, kind_of, form_in, highest_stray, refused_with, instruction_in, judged, reading_of, refusal_of, number_of}
use Rattle.std.specs.declared.result.Result.TheVariants.{Ok, Err}
use Rattle.reader.proofs.Below.{both}
use Rattle.reader.proofs.Strays.{kind_told, none_told, kind_tells, stray_none}

pub reads_noop : (rules : Rules) (w : ℕ) → w ≡ noop_word → reading_of rules w ≡ Ok noop
unfolding reading_of
reads_noop rules w e = simp (eq-eqb _ _ e)

pub reads : (rules : Rules) (w : ℕ) → (w ≡ noop_word → ⊥) → form_in rules w ≡ 0 → reading_of rules w ≡ Ok (spelled_by w)
unfolding reading_of
reads rules w h e = simp (ne_eqb _ _ h, eq-eqb _ _ e)

pub refuses : (rules : Rules) (w : ℕ) → (w ≡ noop_word → ⊥) → (form_in rules w ≡ 0 → ⊥) → reading_of rules w ≡ Err (refused_with w (form_in rules w))
unfolding reading_of
refuses rules w h e = simp (ne_eqb _ _ h, ne_eqb _ _ e)

pub form_10 : (rules : Rules) (w : ℕ) → 13 ≤ code_in w → form_in rules w ≡ 10
unfolding form_in
form_10 rules w h = rw (le-leb 13 (code_in w) h)

pub form_unnamed : (rules : Rules) (w : ℕ) → code_in w < 13 → has_unnamed w ≡ true → form_in rules w ≡ kind_of (code_in w) (highest_stray w)
unfolding form_in
form_unnamed rules w h u = rw (lt-leb 13 (code_in w) h) (kind_told w _ u)

pub form_12 : (rules : Rules) (w : ℕ) → code_in w < 13 → has_unnamed w ≡ false → not_its_op w ≡ true → form_in rules w ≡ 12
unfolding form_in
form_12 rules w h u o = rw (lt-leb 13 (code_in w) h) (none_told w _ u ∙ rw o)

pub form_rest : (rules : Rules) (w : ℕ) → code_in w < 13 → has_unnamed w ≡ false → not_its_op w ≡ false → form_in rules w ≡ form_of rules (spelled_by w)
unfolding form_in
form_rest rules w h u o = rw (lt-leb 13 (code_in w) h) (none_told w _ u ∙ rw o)

-- ---- the bit beside a number

pub with_unnamed : (rules : Rules) (w : ℕ) → code_in w < 13 → has_unnamed w ≡ true → refused_with w (form_in rules w) ≡ record { number = kind_of (code_in w) (highest_stray w); bit = highest_stray w }
with_unnamed rules w h u =
    ap (refused_with w) (form_unnamed rules w h u)
    ∙ ap (λ (t : Bool). record { number = kind_of (code_in w) (highest_stray w); bit = pick t (highest_stray w) 0 }) (kind_tells (code_in w) (highest_stray w))

-- none of a word whose bits are all named
pub with_named : (w n : ℕ) → has_unnamed w ≡ false → refused_with w n ≡ numbered n
with_named w n u =
    ap (λ (bit : ℕ). record { number = n; bit = pick (tells_bit n) bit 0 }) (stray_none w u)
    ∙ ap (λ (bit : ℕ). record { number = n; bit = bit }) (either_way (tells_bit n))
  where
    either_way : (t : Bool) → pick {A = ℕ} t 0 0 ≡ 0
    either_way true = refl
    either_way false = refl

-- ---- the words that are met most

pub not_a_wait : (w : ℕ) → (code_in w ≡ 2 → ⊥) → (code_in w ≡ 9 → ⊥) → not_its_op w ≡ false
unfolding not_its_op
not_a_wait w h k = rw (ne_eqb _ _ h, ne_eqb _ _ k)

long_play : (rules : Rules) (write : ℕ) (f : WaveformFields) → f.op ≡ 0 → 2 ≤ f.count.0 → body_form rules write (Waveform f) ≡ 0
long_play rules write f e l = rw (e, le-ltb _ _ l)

-- a play that has its bits, and is long enough
pub play_passes : (rules : Rules) (w : ℕ) (u : Bool) (f : WaveformFields) → code_in w ≡ 0 → u ≡ has_unnamed w → f ≡ waveform_of (held_in w (payload_of 0))
    → ((not u && eqb f.op 0) && leb 2 f.count.0) ≡ true → form_in rules w ≡ 0
play_passes rules w u f z n e t =
    let x = both (not u && eqb f.op 0) (leb 2 f.count.0) t in
    let y = both (not u) (eqb f.op 0) x.0 in
    form_rest rules w (omega arith) (sym n ∙ not-true u y.0) (not_a_wait w (λ h. omega arith) (λ h. omega arith))
    ∙ sym (form_at rules w refl z)
    ∙ ap (λ (g : WaveformFields). body_form rules (held w write_flag) (Waveform g)) (sym e)
    ∙ long_play rules (held w write_flag) f (eqb-true _ _ y.1) (leb-true _ _ x.1)

pub flow_codes : (n : ℕ) → (leb 3 n && leb n 8) ≡ true → (3 ≤ n) × (n ≤ 8)
flow_codes n t = let x = both (leb 3 n) (leb n 8) t in (leb-true _ _ x.0, leb-true _ _ x.1)

-- LOAD_REPEAT to RETURN have no form of their own
flow_body : (rules : Rules) (n : ℕ) (vs : List ℕ) (write : ℕ) → 3 ≤ n → n ≤ 8 → body_form rules write (body_of n vs) ≡ 0
flow_body rules zero vs write l h = absurd (omega arith)
flow_body rules (suc zero) vs write l h = absurd (omega arith)
flow_body rules (suc (suc zero)) vs write l h = absurd (omega arith)
flow_body rules (suc (suc (suc zero))) vs write l h = refl
flow_body rules (suc (suc (suc (suc zero)))) vs write l h = refl
flow_body rules (suc (suc (suc (suc (suc zero))))) vs write l h = refl
flow_body rules (suc (suc (suc (suc (suc (suc zero)))))) vs write l h = refl
flow_body rules (suc (suc (suc (suc (suc (suc (suc zero))))))) vs write l h = refl
flow_body rules (suc (suc (suc (suc (suc (suc (suc (suc zero)))))))) vs write l h = refl
flow_body rules (suc (suc (suc (suc (suc (suc (suc (suc (suc n))))))))) vs write l h = absurd (omega arith)

pub flow_passes : (rules : Rules) (w : ℕ) → 3 ≤ code_in w → code_in w ≤ 8 → has_unnamed w ≡ false → form_in rules w ≡ 0
flow_passes rules w l h u =
    form_rest rules w (omega arith) u (not_a_wait w (λ e. omega arith) (λ e. omega arith))
    ∙ sym (form_at rules w refl refl)
    ∙ flow_body rules (code_in w) (values_in (code_in w) w) (held w write_flag) l h

-- ---- by the refusal

pub refusal_noop : (rules : Rules) (w : ℕ) → w ≡ noop_word → numbered 0 ≡ refusal_of (reading_of rules w)
refusal_noop rules w e = ap refusal_of (sym (reads_noop rules w e))

pub refusal_form : (rules : Rules) (w : ℕ) → (w ≡ noop_word → ⊥) → refused_with w (form_in rules w) ≡ refusal_of (reading_of rules w)
refusal_form rules w h = by (ℕ_discrete (form_in rules w) 0)
  where
    by : Dec (form_in rules w ≡ 0) → refused_with w (form_in rules w) ≡ refusal_of (reading_of rules w)
    by (yes z) = ap (refused_with w) z ∙ ap refusal_of (sym (reads rules w h z))
    by (no z) = ap refusal_of (sym (refuses rules w h z))

pub number_form : (rules : Rules) (w : ℕ) → (w ≡ noop_word → ⊥) → form_in rules w ≡ number_of (reading_of rules w)
number_form rules w h = ap (λ (r : Refusal). r.number) (refusal_form rules w h)

-- a word whose number is 0 reads as what it spells, and any other as its refusal
module _ (rules : Rules) (w : ℕ) where
  pub reads_instruction : number_of (reading_of rules w) ≡ 0 → Ok (instruction_in w) ≡ reading_of rules w
  reads_instruction z = by (ℕ_discrete w noop_word)
    where
      by : Dec (w ≡ noop_word) → Ok (instruction_in w) ≡ reading_of rules w
      by (yes e) = ap (λ (b : Bool). Ok (pick b noop (spelled_by w))) (eq-eqb w noop_word e) ∙ sym (reads_noop rules w e)
      by (no h) = ap (λ (b : Bool). Ok (pick b noop (spelled_by w))) (ne_eqb w noop_word h) ∙ sym (reads rules w h (number_form rules w h ∙ z))

-- ---- by the op code

pub reads_form : (rules : Rules) (w : ℕ) → (w ≡ noop_word → ⊥) → reading_of rules w ≡ judged (refused_with w (form_in rules w)) (spelled_by w)
unfolding reading_of
reads_form rules w h = rw (ne_eqb _ _ h)

-- a bit that is not named is reason enough
pub refuses_unnamed : (rules : Rules) (w : ℕ) → (w ≡ noop_word → ⊥) → code_in w < 13 → has_unnamed w ≡ true → reading_of rules w ≡ Err (refused_with w (form_in rules w))
refuses_unnamed rules w h l u = refuses rules w h (λ z. true≢false (sym (kind_tells (code_in w) (highest_stray w)) ∙ ap tells_bit (sym (form_unnamed rules w l u) ∙ z)))

-- what is laid out by a known op code, with the number that is given for it
module _ (rules : Rules) (w : ℕ) {c : ℕ} (k : ℕ) (e : c ≡ code_in w) (q : c ≡ k) where
  spells : {b : Body} → b ≡ body_of k (values_in k w) → record { engine = held w engine_select; write = held w write_flag; body = b } ≡ spelled_by w
  unfolding spelled_by
  spells p = ap (λ (b : Body). record { engine = held w engine_select; write = held w write_flag; body = b }) (p ∙ ap (λ (n : ℕ). body_of n (values_in n w)) (sym q ∙ e))

  -- where no bit is set that is not named, the number is the whole refusal
  pub read_by : {n : ℕ} {b : Body} → has_unnamed w ≡ false → n ≡ form_in rules w → b ≡ body_of k (values_in k w) → judged (numbered n) (record { engine = held w engine_select; write = held w write_flag; body = b }) ≡ judged (refused_with w (form_in rules w)) (spelled_by w)
  read_by u f p = ap₂ judged (ap numbered f ∙ sym (with_named w (form_in rules w) u)) (spells p)

  -- the op codes but WAIT's and SYNC's
  pub read_as : {n : ℕ} {b : Body} → code_in w < 13 → has_unnamed w ≡ false → (k ≡ 2 → ⊥) → (k ≡ 9 → ⊥) → n ≡ body_form rules (held w write_flag) (body_of k (values_in k w)) → b ≡ body_of k (values_in k w)
      → judged (numbered n) (record { engine = held w engine_select; write = held w write_flag; body = b }) ≡ judged (refused_with w (form_in rules w)) (spelled_by w)
  read_as l u wait sync f p = read_by u (f ∙ form_at rules w e q ∙ sym (form_rest rules w l u (not_a_wait w (λ z. wait (sym q ∙ e ∙ z)) (λ z. sync (sym q ∙ e ∙ z))))) p
