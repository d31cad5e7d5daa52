-- The number that every word is judged by, with 111 for every bit that is not named: it stands for the word's whole refusal, and is 0 just where a word is accepted.
-- Assumes nothing.
use mathlib.Core.Path.{◌≡◌, refl, sym, ap, ◌∙◌}
use mathlib.Core.Bool.{Bool, true, false}
use Prim.Native.Nat.{ℕ, ◌<◌, ◌≤◌}
use native.Mathlib.Decide.{ℕ_discrete, dec_lt}
use native.Mathlib.Omega.{arith}
use lib.Dec.{lit<}
use borrow.Author.Tests.{eq-eqb, ne_eqb, le-leb, lt-leb}
use Rattle.instruction.specs.Bits.{pick, ◌gives◌else◌, held}
use Rattle.instruction.specs.Table.{write_flag, body_of, noop_word}
use Rattle.instruction.specs.Form.{numbered, unflagged, no_such_op, useless, too_short, askew, wrong_nco, wide_phase, wide_count, body_form, form_of}
use Rattle.instruction.specs.Word.{code_in, values_in, spelled_by, noop}
use Rattle.instruction.specs.declared.Instruction.{Instruction}
use Rattle.instruction.specs.declared.Refusal.{Refusal}
use Rattle.instruction.specs.declared.Rules.{Rules}
use Rattle.instruction.proofs.Laws.{form_at}
use Rattle.reader.specs.Masks.{has_unnamed, coarse_in, coarse_of, finer, judged_by}
use Rattle.reader.specs.Reading.{Reading, no_such_code, has_kind, not_its_op, form_in, highest_stray, refused_with, instruction_in, reading_of}
use Rattle.std.specs.declared.result.Result.TheVariants.{Ok, Err}
use Rattle.reader.proofs.Laws.{not_a_wait, form_10, form_12, form_rest, with_named, with_unnamed, reads_noop, reads, refuses}
use Rattle.reader.proofs.Strays.{kind_range}

-- ---- a form number has three digits at the most, and those of an instruction two

gives_small : (t : Bool) {most n m : ℕ} → n < most → m < most → (t gives n else m) < most
gives_small true p q = p
gives_small false p q = q

body_form_small : (rules : Rules) (i : Instruction) → form_of rules i < 100
unfolding form_of
body_form_small rules i =
    gives_small (unflagged i.write i.body) (lit< tt)
    (gives_small (no_such_op i.body) (lit< tt)
    (gives_small (useless i.body) (lit< tt)
    (gives_small (too_short i.body) (lit< tt)
    (gives_small (askew i.body) (lit< tt)
    (gives_small (wrong_nco i.body) (lit< tt)
    (gives_small (wide_phase i.body) (lit< tt)
    (gives_small (wide_count rules i.body) (lit< tt) (lit< tt))))))))

pub form_small : (rules : Rules) (w : ℕ) → form_in rules w < 1000
unfolding form_in
form_small rules w =
    gives_small (no_such_code w) (lit< tt)
    (gives_small (has_kind 111 w) (lit< tt)
    (gives_small (has_kind 112 w) (lit< tt)
    (gives_small (has_kind 113 w) (lit< tt)
    (gives_small (not_its_op w) (lit< tt) (omega (arith, body_form_small rules (spelled_by w)))))))

-- ---- by the tests

module _ (rules : Rules) (w : ℕ) where
  pub coarse_10 : 13 ≤ code_in w → coarse_in rules w ≡ 10
  unfolding coarse_in
  coarse_10 h = rw (le-leb 13 (code_in w) h)

  pub coarse_111 : code_in w < 13 → has_unnamed w ≡ true → coarse_in rules w ≡ 111
  unfolding coarse_in
  coarse_111 h u = rw (lt-leb 13 (code_in w) h, u)

  pub coarse_12 : code_in w < 13 → has_unnamed w ≡ false → not_its_op w ≡ true → coarse_in rules w ≡ 12
  unfolding coarse_in
  coarse_12 h u o = rw (lt-leb 13 (code_in w) h, u, o)

  pub coarse_rest : code_in w < 13 → has_unnamed w ≡ false → not_its_op w ≡ false → coarse_in rules w ≡ form_of rules (spelled_by w)
  unfolding coarse_in
  coarse_rest h u o = rw (lt-leb 13 (code_in w) h, u, o)

  -- where a known op code has no op of its own, it is the form of what its fields hold
  pub coarse_fields : (k : ℕ) → code_in w ≡ k → k < 13 → (k ≡ 2 → ⊥) → (k ≡ 9 → ⊥) → has_unnamed w ≡ false → coarse_in rules w ≡ body_form rules (held w write_flag) (body_of k (values_in k w))
  coarse_fields k e l wait sync u =
      coarse_rest (omega (arith, e, l)) u (not_a_wait w (λ z. wait (sym e ∙ z)) (λ z. sync (sym e ∙ z)))
      ∙ sym (form_at rules w refl e)

  -- where all bits are named it is the form number
  pub coarse_named : code_in w < 13 → has_unnamed w ≡ false → coarse_in rules w ≡ form_in rules w
  coarse_named h u = by (not_its_op w) refl
    where
      by : (o : Bool) → not_its_op w ≡ o → coarse_in rules w ≡ form_in rules w
      by true o = coarse_12 h u o ∙ sym (form_12 rules w h u o)
      by false o = coarse_rest h u o ∙ sym (form_rest rules w h u o)

  -- ---- it stands for the whole refusal

  finer_other : (n : ℕ) → (n ≡ 111 → ⊥) → finer w n ≡ numbered n
  finer_other n h = rw (ne_eqb n 111 h)

  not_111 : code_in w < 13 → has_unnamed w ≡ false → coarse_in rules w ≡ 111 → ⊥
  not_111 h u e = by (not_its_op w) refl
    where
      by : (o : Bool) → not_its_op w ≡ o → ⊥
      by true o = let x = coarse_12 h u o in omega (arith, x, e)
      by false o = let x = coarse_rest h u o in let y = body_form_small rules (spelled_by w) in omega (arith, x, y, e)

  finer_form : finer w (coarse_in rules w) ≡ refused_with w (form_in rules w)
  finer_form = by (dec_lt (code_in w) 13) (has_unnamed w) refl
    where
      by : Dec (code_in w < 13) → (u : Bool) → has_unnamed w ≡ u → finer w (coarse_in rules w) ≡ refused_with w (form_in rules w)
      by (no h) u p = ap (finer w) (coarse_10 (omega arith)) ∙ sym (ap (refused_with w) (form_10 rules w (omega arith)))
      by (yes h) true p = ap (finer w) (coarse_111 h p) ∙ sym (with_unnamed rules w h p)
      by (yes h) false p = finer_other (coarse_in rules w) (not_111 h p) ∙ ap numbered (coarse_named h p) ∙ sym (with_named w (form_in rules w) p)

  finer_number : (n : ℕ) → (finer w n).number ≡ 0 → n ≡ 0
  finer_number n = by (ℕ_discrete n 111)
    where
      by : Dec (n ≡ 111) → (finer w n).number ≡ 0 → n ≡ 0
      by (yes e) z =
          let k = (kind_range (code_in w) (highest_stray w)).0 in
          let x = sym (ap (λ (m : ℕ). (finer w m).number) e) ∙ z in absurd (omega (arith, k, x))
      by (no h) z = sym (ap (λ (r : Refusal). r.number) (finer_other n h)) ∙ z

  -- it is 0 just where the form number is
  pub coarse_none : form_in rules w ≡ 0 → coarse_in rules w ≡ 0
  coarse_none z = finer_number (coarse_in rules w) (ap (λ (r : Refusal). r.number) finer_form ∙ z)

  none_coarse : coarse_in rules w ≡ 0 → form_in rules w ≡ 0
  none_coarse z = sym (ap (λ (r : Refusal). r.number) finer_form) ∙ ap (λ (n : ℕ). (finer w n).number) z

-- ---- of a word

module _ (rules : Rules) (w : ℕ) {n : ℕ} (e : n ≡ coarse_of rules w) where
  pub coarse_accepts : n ≡ 0 → Ok (instruction_in w) ≡ reading_of rules w
  coarse_accepts z = by (ℕ_discrete w noop_word)
    where
      by : Dec (w ≡ noop_word) → Ok (instruction_in w) ≡ reading_of rules w
      by (yes p) = ap (λ (b : Bool). Ok (pick b noop (spelled_by w))) (eq-eqb w noop_word p) ∙ sym (reads_noop rules w p)
      by (no h) =
          let c : coarse_in rules w ≡ 0 = sym (ap (λ (b : Bool). pick b 0 (coarse_in rules w)) (ne_eqb w noop_word h)) ∙ sym e ∙ z in
          ap (λ (b : Bool). Ok (pick b noop (spelled_by w))) (ne_eqb w noop_word h) ∙ sym (reads rules w h (none_coarse rules w c))

  pub coarse_refuses : (n ≡ 0 → ⊥) → Err (finer w n) ≡ reading_of rules w
  coarse_refuses m = by (ℕ_discrete w noop_word)
    where
      by : Dec (w ≡ noop_word) → Err (finer w n) ≡ reading_of rules w
      by (yes p) = absurd (m (e ∙ ap (λ (b : Bool). pick b 0 (coarse_in rules w)) (eq-eqb w noop_word p)))
      by (no h) =
          let c : n ≡ coarse_in rules w = e ∙ ap (λ (b : Bool). pick b 0 (coarse_in rules w)) (ne_eqb w noop_word h) in
          ap (λ (k : ℕ). Err (finer w k)) c ∙ ap Err (finer_form rules w) ∙ sym (refuses rules w h (λ z. m (c ∙ coarse_none rules w z)))

-- a reading is put together out of its coarse number and its instruction
pub put_together : (rules : Rules) (w : ℕ) {r : Reading} {n : ℕ} {i : Instruction} → r ≡ judged_by w n i → n ≡ coarse_of rules w → i ≡ instruction_in w → r ≡ reading_of rules w
put_together rules w {n = n} {i = i} f e g = f ∙ by (ℕ_discrete n 0)
  where
    by : Dec (n ≡ 0) → judged_by w n i ≡ reading_of rules w
    by (yes z) = ap (λ (b : Bool). pick b (Ok i) (Err (finer w n))) (eq-eqb n 0 z) ∙ ap Ok g ∙ coarse_accepts rules w e z
    by (no m) = ap (λ (b : Bool). pick b (Ok i) (Err (finer w n))) (ne_eqb n 0 m) ∙ coarse_refuses rules w e m
