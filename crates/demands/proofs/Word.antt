-- Demand 2, the word, proved: `read_write` and `write_read`. A word of named bits alone is the sum of its fields, and both trips follow field by field.
-- Assumes nothing.
use mathlib.Core.Path.{◌≡◌, refl, sym, ap, ◌∙◌}
use mathlib.Core.Bool.{Bool, true, false, not, ◌&&◌, ◌||◌, true≢false}
use mathlib.Core.List.{List, [], ◌∷◌}
use Prim.Native.Nat.{ℕ, zero, suc, ◌*◌, ◌/◌, ◌^◌, ◌<◌}
use native.Mathlib.Decide.{ℕ_discrete, dec_lt}
use native.Mathlib.Omega.{arith}
use borrow.Author.Tests.{eqb-true, not-false}
use lib.Bits.{bit_and}
use lib.Dec.{eqb, lit<}
use lib.ListN.{get_or, length, drop}
use Rattle.instruction.specs.Bits.{pick, span, held, laid, held_in, all_fit}
use Rattle.instruction.specs.Table.{op_code, engine_select, write_flag, whole_payload, engine_op, payload_of, code_of, noop_word, is_ignored, values_of, body_of}
use Rattle.instruction.specs.Form.{tells_bit, form_of}
use Rattle.instruction.specs.Word.{code_in, values_in, spelled_by, noop, word_of, body_fits, fits_of}
use Rattle.instruction.specs.declared.Field.{Field}
use Rattle.instruction.specs.declared.Instruction.{Instruction}
use Rattle.instruction.specs.declared.Refusal.{Refusal}
use Rattle.instruction.specs.declared.Rules.{Rules}
use Rattle.instruction.specs.declared.Body.{Body}
use Rattle.instruction.specs.declared.Body.TheVariants.{Waveform, Marker, Wait, LoadRepeat, Repeat, Cmp, Goto, Call, Return, Sync, Modulator, LoadCmp, Prefetch, Noop}
use Rattle.instruction.proofs.Laws.{fits_noop, fits_other, word_noop, word_other}
use Rattle.named.specs.Named.{fields_of, named_bits}
use Rattle.reader.specs.Reading.{Reading, some_below, not_its_op, form_in, highest_stray, reading_of}
use Rattle.std.specs.declared.result.Result.TheVariants.{Ok, Err}
use Rattle.reader.specs.Masks.{has_unnamed}
use Rattle.reader.proofs.Below.{none_below}
use Rattle.reader.proofs.Masks.{no_stray, all_left}
use Rattle.reader.proofs.Strays.{kind_tells}
use Rattle.reader.proofs.Laws.{reads_noop, reads, refuses, form_10, form_unnamed, form_12, form_rest}
use Rattle.writer.specs.declared.Written.{Written}
use Rattle.writer.specs.Writing.{asked_of, written_of}
use Rattle.writer.proofs.Laws.{asked_wide, asked_fitting, written_good}
use Rattle.demands.specs.Word.{zeroed, ReadWrite, WriteRead}
use Rattle.demands.proofs.Fields.{Down, Fit, none, some, sum_of, both, go_down, onto_sum, held_again, join, held_fit, fit_of, fit_test, and_sum, down_of}

-- ---- the fields of a word

-- one computed test: the fields of every op code go down from the top
table_goes_down : some_below 16 (λ code. not (go_down 64 (fields_of code))) ≡ false
table_goes_down = refl

goes_down : (code : ℕ) → code < 16 → Down 64 (fields_of code)
goes_down code h = down_of 64 (fields_of code) (not-false _ (none_below 16 (λ c. not (go_down 64 (fields_of c))) table_goes_down code h))

code_small : (w : ℕ) → code_in w < 16
code_small w = omega arith

-- what the mask of its op code leaves of a word is the sum of its fields
left_sum : (w : ℕ) → bit_and w (named_bits (code_in w)) ≡ sum_of (fields_of (code_in w)) (held_in w (fields_of (code_in w)))
unfolding named_bits
left_sum w = and_sum w (goes_down (code_in w) (code_small w))

-- a word of named bits alone is the sum of its fields, and the other way
word_sum : (w : ℕ) → w < 2 ^ 64 → has_unnamed w ≡ false → sum_of (fields_of (code_in w)) (held_in w (fields_of (code_in w))) ≡ w
word_sum w h u = sym (left_sum w) ∙ all_left w h u

sum_named : (w : ℕ) → sum_of (fields_of (code_in w)) (held_in w (fields_of (code_in w))) ≡ w → has_unnamed w ≡ false
sum_named w e = no_stray w (left_sum w ∙ e)

-- ---- names and fields

same_length : (b : Body) → length (payload_of (code_of b)) ≡ length (values_of b)
same_length (Waveform f) = refl
same_length (Marker f) = refl
same_length Wait = refl
same_length (LoadRepeat n) = refl
same_length (Repeat a) = refl
same_length (Cmp x) = refl
same_length (Goto a) = refl
same_length (Call a) = refl
same_length (Return p) = refl
same_length Sync = refl
same_length (Modulator f) = refl
same_length (LoadCmp p) = refl
same_length (Prefetch a) = refl
same_length Noop = refl

-- ---- what is written reads back

abbrev ins : ℕ → ℕ → Body → Instruction
ins e f b = record { engine = e; write = f; body = b }

-- what an instruction's body must be like for that: a code, fields that fit, and itself again from them
record Back (b : Body) : Type 0 where
  code : code_of b < 13
  fit : Fit (payload_of (code_of b)) (values_of b)
  body : body_of (code_of b) (pick (is_ignored (code_of b)) [] (values_of b)) ≡ b
  own : (w : ℕ) → code_in w ≡ code_of b → held_in w (payload_of (code_of b)) ≡ values_of b → not_its_op w ≡ false

other_op : (w n : ℕ) → code_in w ≡ n → eqb n 2 ≡ false → eqb n 9 ≡ false → not_its_op w ≡ false
unfolding not_its_op
other_op w n c p q = rw (c, p, q)

-- a name with fields and no op of its own
plain : (b : Body) → code_of b < 13 → is_ignored (code_of b) ≡ false → eqb (code_of b) 2 ≡ false → eqb (code_of b) 9 ≡ false
    → body_of (code_of b) (values_of b) ≡ b → body_fits b ≡ true → Back b
plain b c g p q e t = record {
  code = c;
  fit = (fit_of true (payload_of (code_of b)) (values_of b) (same_length b) (rw g at t)).1;
  body = rw g e;
  own = λ w k h. other_op w (code_of b) k p q;
}

-- RETURN and LOAD_CMP, with no payload asked
bare : (b : Body) → code_of b < 13 → is_ignored (code_of b) ≡ true → eqb (code_of b) 2 ≡ false → eqb (code_of b) 9 ≡ false
    → Fit (payload_of (code_of b)) (values_of b) → body_of (code_of b) [] ≡ b → Back b
bare b c g p q f e = record { code = c; fit = f; body = rw g e; own = λ w k h. other_op w (code_of b) k p q }

back : (b : Body) → (code_of b ≡ 15 → ⊥) → body_fits b ≡ true → Back b
unfolding not_its_op
back (Waveform f) n t = plain (Waveform f) (lit< tt) refl refl refl refl t
back (Marker f) n t = plain (Marker f) (lit< tt) refl refl refl refl t
back Wait n t = record {
  code = lit< tt;
  fit = some (lit< tt) none;
  body = refl;
  own = λ w k h. rw (k, ap (λ (l : List ℕ). get_or l 0 0) h);
}
back (LoadRepeat r) n t = plain (LoadRepeat r) (lit< tt) refl refl refl refl t
back (Repeat a) n t = plain (Repeat a) (lit< tt) refl refl refl refl t
back (Cmp x) n t = plain (Cmp x) (lit< tt) refl refl refl refl t
back (Goto a) n t = plain (Goto a) (lit< tt) refl refl refl refl t
back (Call a) n t = plain (Call a) (lit< tt) refl refl refl refl t
back (Return p) n t =
    let z = eqb-true p.0 0 t in
    bare (Return p) (lit< tt) refl refl refl (some (rw z (lit< tt)) none) (sym (λ j. Return (record { 0 = z j })))
back Sync n t = record {
  code = lit< tt;
  fit = some (lit< tt) none;
  body = refl;
  own = λ w k h. rw (k, ap (λ (l : List ℕ). get_or l 0 0) h);
}
back (Modulator f) n t = plain (Modulator f) (lit< tt) refl refl refl refl t
back (LoadCmp p) n t =
    let z = eqb-true p.0 0 t in
    bare (LoadCmp p) (lit< tt) refl refl refl (some (rw z (lit< tt)) none) (sym (λ j. LoadCmp (record { 0 = z j })))
back (Prefetch a) n t = plain (Prefetch a) (lit< tt) refl refl refl refl t
back Noop n t = absurd (n refl)

-- a word is the sum of its code, its header and its payload
word_is : (i : Instruction) → (code_of i.body ≡ 15 → ⊥) → word_of i ≡ sum_of (fields_of (code_of i.body)) (code_of i.body ∷ i.engine ∷ i.write ∷ values_of i.body)
word_is i n =
    word_other i n
    ∙ onto_sum (laid op_code (code_of i.body)) (engine_select ∷ write_flag ∷ payload_of (code_of i.body)) (i.engine ∷ i.write ∷ values_of i.body)

other_back : (rules : Rules) (i : Instruction) → (code_of i.body ≡ 15 → ⊥) → fits_of i ≡ true → form_of rules i ≡ 0 → reading_of rules (word_of i) ≡ Ok i
unfolding spelled_by
other_back rules i n t z =
    let b : Body = i.body in
    let c : ℕ = code_of b in
    let w : ℕ = word_of i in
    let vs : List ℕ = c ∷ i.engine ∷ i.write ∷ values_of b in
    let u = both (sym (fits_other i n) ∙ t) in
    let h = (fit_of true (engine_select ∷ write_flag ∷ []) (i.engine ∷ i.write ∷ []) refl u.0).1 in
    let x = back b n u.1 in
    let c16 : c < 16 = omega (arith, x.code) in
    let hs : held_in w (fields_of c) ≡ vs = ap (λ (v : ℕ). held_in v (fields_of c)) (word_is i n) ∙ held_again (goes_down c c16) (some c16 (join h x.fit)) in
    let code : code_in w ≡ c = ap (λ (l : List ℕ). get_or l 0 0) hs in
    let payload : held_in w (payload_of c) ≡ values_of b = ap (λ (l : List ℕ). drop 3 l) hs in
    let spelled : spelled_by w ≡ i = (λ j. record {
      engine = ap (λ (l : List ℕ). get_or l 1 0) hs j;
      write = ap (λ (l : List ℕ). get_or l 2 0) hs j;
      body = (ap (λ (k : ℕ). body_of k (values_in k w)) code ∙ ap (λ (l : List ℕ). body_of c (pick (is_ignored c) [] l)) payload ∙ x.body) j;
    }) in
    let named : has_unnamed w ≡ false = sum_named w (ap (λ (k : ℕ). sum_of (fields_of k) (held_in w (fields_of k))) code ∙ ap (sum_of (fields_of c)) hs ∙ sym (word_is i n)) in
    let form : form_in rules w ≡ 0 = form_rest rules w (omega (arith, code, x.code)) named (x.own w code payload) ∙ ap (form_of rules) spelled ∙ z in
    reads rules w (λ e. omega (arith, code, x.code, e)) form ∙ ap Ok spelled

noop_back : (rules : Rules) (i : Instruction) → code_of i.body ≡ 15 → fits_of i ≡ true → reading_of rules (word_of i) ≡ Ok i
noop_back rules i n t =
    let u = both (sym (fits_noop i n) ∙ t) in
    reads_noop rules (word_of i) (word_noop i n)
    ∙ (λ j. Ok (record { engine = sym (eqb-true i.engine 0 u.0) j; write = sym (eqb-true i.write 0 u.1) j; body = sym (only_noop i.body n) j }))
  where
    only_noop : (b : Body) → code_of b ≡ 15 → b ≡ Noop
    only_noop (Waveform f) e = absurd (omega arith)
    only_noop (Marker f) e = absurd (omega arith)
    only_noop Wait e = absurd (omega arith)
    only_noop (LoadRepeat r) e = absurd (omega arith)
    only_noop (Repeat a) e = absurd (omega arith)
    only_noop (Cmp x) e = absurd (omega arith)
    only_noop (Goto a) e = absurd (omega arith)
    only_noop (Call a) e = absurd (omega arith)
    only_noop (Return p) e = absurd (omega arith)
    only_noop Sync e = absurd (omega arith)
    only_noop (Modulator f) e = absurd (omega arith)
    only_noop (LoadCmp p) e = absurd (omega arith)
    only_noop (Prefetch a) e = absurd (omega arith)
    only_noop Noop e = refl

-- the number tells whether an instruction fits
fits_or : (rules : Rules) (i : Instruction) → asked_of rules i ≡ 0 → (b : Bool) → fits_of i ≡ b → (fits_of i ≡ true) × (form_of rules i ≡ 0)
fits_or rules i a true t = (t, sym (asked_fitting rules i t) ∙ a)
fits_or rules i a false t = absurd (omega (arith, a, asked_wide rules i t))

by_name : (rules : Rules) (i : Instruction) → fits_of i ≡ true → form_of rules i ≡ 0 → Dec (code_of i.body ≡ 15) → reading_of rules (word_of i) ≡ Ok i
by_name rules i t z (yes n) = noop_back rules i n t
by_name rules i t z (no n) = other_back rules i n t z

pub write_read : WriteRead
unfolding written_of
write_read rules i a =
    let t = fits_or rules i a (fits_of i) refl in
    ap (λ (x : Written). reading_of rules x.word) (written_good rules i a) ∙ by_name rules i t.0 t.1 (ℕ_discrete (code_of i.body) 15)

-- ---- an accepted word, read and written, gives the word back

either : (a b : Bool) → (a || b) ≡ false → (a ≡ false) × (b ≡ false)
either true b e = (e, cc)
either false b e = (refl, e)

wait_op_lem : (w : ℕ) → code_in w ≡ 2 → not_its_op w ≡ false → held w engine_op ≡ 1
unfolding not_its_op
wait_op_lem w c s = eqb-true _ _ (not-false (eqb (held w engine_op) 1) (either (not (eqb (held w engine_op) 1)) (eqb 2 9 && not (eqb (held w engine_op) 2)) (rw c at s)).0)

sync_op_lem : (w : ℕ) → code_in w ≡ 9 → not_its_op w ≡ false → held w engine_op ≡ 2
unfolding not_its_op
sync_op_lem w c s = eqb-true _ _ (not-false (eqb (held w engine_op) 2) (rw c at s))

impossible : {A : Type 0} → true ≡ false → A
impossible e = let z : ◌≡◌ {A = ℕ} 0 1 = cc in absurd (omega arith)

-- the body of a code has that code, and holds again what the word holds, or 0 for the whole payload that is ignored
data Again (w n : ℕ) : Type 0 where
  kept : is_ignored n ≡ false → code_of (body_of n (values_in n w)) ≡ n
      → values_of (body_of n (values_in n w)) ≡ held_in w (payload_of n) → Again w n
  zeroes : is_ignored n ≡ true → code_of (body_of n (values_in n w)) ≡ n
      → values_of (body_of n (values_in n w)) ≡ 0 ∷ [] → payload_of n ≡ whole_payload ∷ [] → Again w n

again : (w n : ℕ) → n < 13 → code_in w ≡ n → not_its_op w ≡ false → Again w n
again w zero h c s = kept refl refl refl
again w (suc zero) h c s = kept refl refl refl
again w (suc (suc zero)) h c s = kept refl refl (ap (λ (x : ℕ). x ∷ []) (sym (wait_op_lem w c s)))
again w (suc (suc (suc zero))) h c s = kept refl refl refl
again w (suc (suc (suc (suc zero)))) h c s = kept refl refl refl
again w (suc (suc (suc (suc (suc zero))))) h c s = kept refl refl refl
again w (suc (suc (suc (suc (suc (suc zero)))))) h c s = kept refl refl refl
again w (suc (suc (suc (suc (suc (suc (suc zero))))))) h c s = kept refl refl refl
again w (suc (suc (suc (suc (suc (suc (suc (suc zero)))))))) h c s = zeroes refl refl refl refl
again w (suc (suc (suc (suc (suc (suc (suc (suc (suc zero))))))))) h c s = kept refl refl (ap (λ (x : ℕ). x ∷ []) (sym (sync_op_lem w c s)))
again w (suc (suc (suc (suc (suc (suc (suc (suc (suc (suc zero)))))))))) h c s = kept refl refl refl
again w (suc (suc (suc (suc (suc (suc (suc (suc (suc (suc (suc zero))))))))))) h c s = zeroes refl refl refl refl
again w (suc (suc (suc (suc (suc (suc (suc (suc (suc (suc (suc (suc zero)))))))))))) h c s = kept refl refl refl
again w (suc (suc (suc (suc (suc (suc (suc (suc (suc (suc (suc (suc (suc n))))))))))))) h c s = absurd (omega arith)

-- what a form number of 0 says of a word
record Passed (rules : Rules) (w : ℕ) : Type 0 where
  low : code_in w < 13
  named : has_unnamed w ≡ false
  own : not_its_op w ≡ false
  form : form_of rules (spelled_by w) ≡ 0

passed : (rules : Rules) (w : ℕ) → form_in rules w ≡ 0 → Passed rules w
passed rules w z = by (dec_lt (code_in w) 13) (has_unnamed w) refl (not_its_op w) refl
  where
    by : Dec (code_in w < 13) → (u : Bool) → has_unnamed w ≡ u → (o : Bool) → not_its_op w ≡ o → Passed rules w
    by (no h) u p o q = absurd (omega (arith, z, form_10 rules w (omega arith)))
    by (yes h) true p o q = absurd (true≢false (sym (kind_tells (code_in w) (highest_stray w)) ∙ ap tells_bit (sym (form_unnamed rules w h p) ∙ z)))
    by (yes h) false p true q = absurd (omega (arith, z, form_12 rules w h p q))
    by (yes h) false p false q = record { low = h; named = p; own = q; form = sym (form_rest rules w h p q) ∙ z }

-- RETURN and LOAD_CMP: the header above a payload of 0
top : (w : ℕ) → sum_of (op_code ∷ engine_select ∷ write_flag ∷ whole_payload ∷ []) (held_in w (op_code ∷ engine_select ∷ write_flag ∷ whole_payload ∷ [])) ≡ w
    → sum_of (op_code ∷ engine_select ∷ write_flag ∷ whole_payload ∷ []) (held w op_code ∷ held w engine_select ∷ held w write_flag ∷ 0 ∷ []) ≡ w / span whole_payload * span whole_payload
top w e = omega arith

-- a body that holds what the fields of its code can hold fits, and so does one whose ignored payload is 0
held_fits : (b : Body) (n w : ℕ) → code_of b ≡ n → is_ignored n ≡ false → values_of b ≡ held_in w (payload_of n) → body_fits b ≡ true
held_fits b n w c g v = rw (c, v, g) (fit_test (held_fit w (payload_of n)))

zero_fits : (b : Body) (n : ℕ) → code_of b ≡ n → is_ignored n ≡ true → values_of b ≡ 0 ∷ [] → body_fits b ≡ true
zero_fits b n c g v = rw (c, v, g)

-- what is spelled by a word that passes, and fits, is written as its sum
written : (rules : Rules) (w : ℕ) → Passed rules w → code_of (spelled_by w).body ≡ code_in w → body_fits (spelled_by w).body ≡ true
    → written_of rules (spelled_by w) ≡ record { number = 0; word = sum_of (fields_of (code_in w)) (code_in w ∷ held w engine_select ∷ held w write_flag ∷ values_of (spelled_by w).body) }
unfolding spelled_by
written rules w x c t =
    let i : Instruction = spelled_by w in
    let n : code_of i.body ≡ 15 → ⊥ = (λ e. omega (arith, c, e, x.low)) in
    let header : all_fit (engine_select ∷ write_flag ∷ []) (i.engine ∷ i.write ∷ []) ≡ true = fit_test (held_fit w (engine_select ∷ write_flag ∷ [])) in
    let asked : asked_of rules i ≡ 0 = asked_fitting rules i (fits_other i n ∙ rw header t) ∙ x.form in
    let word : word_of i ≡ sum_of (fields_of (code_in w)) (code_in w ∷ i.engine ∷ i.write ∷ values_of i.body) =
    word_is i n ∙ ap (λ (k : ℕ). sum_of (fields_of k) (k ∷ i.engine ∷ i.write ∷ values_of i.body)) c in
    written_good rules i asked ∙ (λ j. record { number = asked j; word = word j })

accepted : (rules : Rules) (w : ℕ) → w < 2 ^ 64 → Passed rules w → Again w (code_in w) → written_of rules (spelled_by w) ≡ record { number = 0; word = zeroed w }
unfolding spelled_by
accepted rules w h x (kept g c v) =
    written rules w x c (held_fits (spelled_by w).body (code_in w) w c g v)
    ∙ ap (λ (vs : List ℕ). record { number = 0; word = sum_of (fields_of (code_in w)) (code_in w ∷ held w engine_select ∷ held w write_flag ∷ vs) }) v
    ∙ ap (λ (u : ℕ). record { number = 0; word = u }) (word_sum w h x.named ∙ rw g)
accepted rules w h x (zeroes g c v r) =
    let fs : List Field → List Field = (λ p. op_code ∷ engine_select ∷ write_flag ∷ p) in
    written rules w x c (zero_fits (spelled_by w).body (code_in w) c g v)
    ∙ ap (λ (vs : List ℕ). record { number = 0; word = sum_of (fields_of (code_in w)) (code_in w ∷ held w engine_select ∷ held w write_flag ∷ vs) }) v
    ∙ ap (λ (p : List Field). record { number = 0; word = sum_of (fs p) (code_in w ∷ held w engine_select ∷ held w write_flag ∷ 0 ∷ []) }) r
    ∙ ap (λ (u : ℕ). record { number = 0; word = u })
    (top w (ap (λ (p : List Field). sum_of (fs p) (held_in w (fs p))) (sym r) ∙ word_sum w h x.named) ∙ rw g)

-- NOOP is written as itself
noop_again : (rules : Rules) (w : ℕ) → w ≡ noop_word → written_of rules noop ≡ record { number = 0; word = zeroed w }
unfolding written_of asked_of fits_of form_of word_of
noop_again rules w e = rw e

same : {i k : Instruction} → ◌≡◌ {A = Reading} (Ok i) (Ok k) → i ≡ k
same e = cc

refused : {i : Instruction} {r : Refusal} → ◌≡◌ {A = Reading} (Err r) (Ok i) → ⊥
refused e = let z : ◌≡◌ {A = ℕ} 0 1 = cc in omega arith

by_form : (rules : Rules) (w : ℕ) → w < 2 ^ 64 → (i : Instruction) → (w ≡ noop_word → ⊥) → reading_of rules w ≡ Ok i → Dec (form_in rules w ≡ 0)
    → written_of rules i ≡ record { number = 0; word = zeroed w }
by_form rules w h i n r (yes z) =
    let x = passed rules w z in
    ap (written_of rules) (same (sym r ∙ reads rules w n z)) ∙ accepted rules w h x (again w (code_in w) x.low refl x.own)
by_form rules w h i n r (no z) = absurd (refused (sym (refuses rules w n z) ∙ r))

by_noop : (rules : Rules) (w : ℕ) → w < 2 ^ 64 → (i : Instruction) → reading_of rules w ≡ Ok i → Dec (w ≡ noop_word)
    → written_of rules i ≡ record { number = 0; word = zeroed w }
by_noop rules w h i r (yes e) = ap (written_of rules) (same (sym r ∙ reads_noop rules w e)) ∙ noop_again rules w e
by_noop rules w h i r (no n) = by_form rules w h i n r (ℕ_discrete (form_in rules w) 0)

pub read_write : ReadWrite
read_write rules w h i r = by_noop rules w h i r (ℕ_discrete w noop_word)
