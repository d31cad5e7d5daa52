-- Laws of what the engines count: a word adds at most one wait and 2^32 quad-samples, to one of six engines.
-- Assumes nothing.
use Prim.Native.Nat.{ℕ, zero, suc, ◌+◌, ◌*◌, ◌^◌, ◌≤◌, ◌<◌}
use mathlib.Core.Path.{◌≡◌, refl, sym, ap, ◌∙◌, subst}
use mathlib.Core.Bool.{Bool, true, false}
use mathlib.Core.List.{List, [], ◌∷◌, ◌++◌}
use native.Mathlib.Numerals.{add-one}
use native.Mathlib.Omega.{arith}
use lib.Dec.{eqb}
use lib.ListN.{length, get_or, take, length-set, length-map}
use lib.Seq.{take-suc, take_all}
use Rattle.instruction.specs.Bits.{pick, span}
use Rattle.instruction.specs.Table.{engine_select, code_of, body_of}
use Rattle.instruction.specs.Form.{plays, modulates}
use Rattle.instruction.specs.Word.{code_in, values_in, spelled_by}
use Rattle.instruction.specs.declared.Instruction.{Instruction}
use Rattle.instruction.specs.declared.Body.{Body}
use Rattle.instruction.specs.declared.Body.TheVariants.{Wait}
use Rattle.sequence.proofs.Laws.{on_engine_lem}
use Rattle.dispatch.specs.Engines.{engine_of, waits_for, plays_for, waits_after, totals_after, waits_over, totals_over, Six, Counted}
use Rattle.dispatch.specs.Counting.{count_in, share_in, Small, CountedOne}
use Rattle.dispatch.specs.Trace.{CountedAll}
use Rattle.dispatch.specs.declared.Share.{Share}
use Rattle.dispatch.proofs.Lists.{all_get, all_set, all_more, all_plus}

-- what holds of both, each under its test, holds of the one that is picked
pub picks : {A : Type 0} (P : A → Type 0) (t : Bool) {a b : A} → (t ≡ true → P a) → (t ≡ false → P b) → P (pick t a b)
picks P true p q = p refl
picks P false p q = q refl

pub spelled_engine : (w : ℕ) → (spelled_by w).engine < span engine_select
unfolding spelled_by
spelled_engine w = omega arith

pub engine_small : (i : Instruction) → i.engine < span engine_select → engine_of i < 6
engine_small i h = on_engine_lem (λ (k : ℕ). k < 6) (λ f. omega arith) (λ f. omega arith) (λ f. omega arith) (omega arith) i.body

pub waits_small : (b : Body) → waits_for b ≤ 1
waits_small =
    on_engine_lem (λ (k : ℕ). k ≤ 1)
    (λ f. picks (λ (k : ℕ). k ≤ 1) (eqb f.op 1) (λ t. omega arith) (λ t. omega arith))
    (λ f. picks (λ (k : ℕ). k ≤ 1) (eqb f.op 1) (λ t. omega arith) (λ t. omega arith))
    (λ f. picks (λ (k : ℕ). k ≤ 1) (eqb f.op 2) (λ t. omega arith) (λ t. omega arith))
    (omega arith)

-- by op code: the widest counts have 32 bits, so that a marker's transition word still has room
abbrev Low : ℕ → Type 0
Low k = k ≤ 2 ^ 32

abbrev LowIn : Body → Type 0
LowIn b = (count_in b < 2 ^ 32) × Low (plays_for b)

nothing : (0 < 2 ^ 32) × Low 0
nothing = (omega arith, omega arith)

low_of : (w n : ℕ) → LowIn (body_of n (values_in n w))
low_of w zero = (omega arith, picks Low (plays (get_or (values_in 0 w) 0 0)) (λ t. omega arith) (λ t. omega arith))
low_of w (suc zero) = (omega arith, picks Low (plays (get_or (values_in 1 w) 0 0)) (λ t. omega arith) (λ t. omega arith))
low_of w (suc (suc zero)) = nothing
low_of w (suc (suc (suc zero))) = nothing
low_of w (suc (suc (suc (suc zero)))) = nothing
low_of w (suc (suc (suc (suc (suc zero))))) = nothing
low_of w (suc (suc (suc (suc (suc (suc zero)))))) = nothing
low_of w (suc (suc (suc (suc (suc (suc (suc zero))))))) = nothing
low_of w (suc (suc (suc (suc (suc (suc (suc (suc zero)))))))) = nothing
low_of w (suc (suc (suc (suc (suc (suc (suc (suc (suc zero))))))))) = nothing
low_of w (suc (suc (suc (suc (suc (suc (suc (suc (suc (suc zero)))))))))) = (omega arith, picks Low (modulates (get_or (values_in 10 w) 0 0)) (λ t. omega arith) (λ t. omega arith))
low_of w (suc (suc (suc (suc (suc (suc (suc (suc (suc (suc (suc zero))))))))))) = nothing
low_of w (suc (suc (suc (suc (suc (suc (suc (suc (suc (suc (suc (suc zero)))))))))))) = nothing
low_of w (suc (suc (suc (suc (suc (suc (suc (suc (suc (suc (suc (suc (suc n))))))))))))) = nothing

spelled_low : (w : ℕ) → LowIn (spelled_by w).body
unfolding spelled_by
spelled_low w = low_of w (code_in w)

pub spelled_count : (w : ℕ) → count_in (spelled_by w).body < 2 ^ 32
spelled_count w = (spelled_low w).0

pub plays_small : (w : ℕ) → plays_for (spelled_by w).body ≤ 2 ^ 32
plays_small w = (spelled_low w).1

pub share_small : (w : ℕ) → Small (share_in (spelled_by w))
share_small w = record { engine = engine_small (spelled_by w) (spelled_engine w); waits = waits_small (spelled_by w).body; plays = plays_small w }

pub counted_by : {r q : Share} {ws ts ws' ts' : List ℕ} → r ≡ q → CountedOne r ws ts ws' ts' → CountedOne q ws ts ws' ts'
counted_by {ws = ws} {ts = ts} {ws' = ws'} {ts' = ts'} e d = subst (λ (x : Share). CountedOne x ws ts ws' ts') e d

-- one word more
pub waits_after_lem : (k w : ℕ) (ws : List ℕ) → Six k ws → Six (k + 1) (waits_after ws (spelled_by w))
waits_after_lem k w ws h =
    let i : Instruction = spelled_by w in
    picks (Six (k + 1)) (eqb (code_of i.body) (code_of Wait))
    (λ t. record { size = length-map ws (λ (x : ℕ). x + 1) ∙ h.size; small = all_plus k ws h.small })
    (λ t. record {
      size = length-set ws (engine_of i) (get_or ws (engine_of i) 0 + waits_for i.body) ∙ h.size;
      small = all_set (k + 1) ws (engine_of i) (get_or ws (engine_of i) 0 + waits_for i.body) (omega (arith, all_get k ws (engine_of i) h.small, waits_small i.body))
          (all_more k (k + 1) ws (omega arith) h.small);
    })

pub totals_after_lem : (k w : ℕ) (ts : List ℕ) → Six (k * 2 ^ 32) ts → Six ((k + 1) * 2 ^ 32) (totals_after ts (spelled_by w))
totals_after_lem k w ts h =
    let i : Instruction = spelled_by w in
    record {
      size = length-set ts (engine_of i) (get_or ts (engine_of i) 0 + plays_for i.body) ∙ h.size;
      small = all_set ((k + 1) * 2 ^ 32) ts (engine_of i) (get_or ts (engine_of i) 0 + plays_for i.body)
          (omega (arith, all_get (k * 2 ^ 32) ts (engine_of i) h.small, plays_small w))
          (all_more (k * 2 ^ 32) ((k + 1) * 2 ^ 32) ts (omega arith) h.small);
    }

pub counted_after : (k w : ℕ) (ws ts : List ℕ) → Counted k ws ts → Counted (k + 1) (waits_after ws (spelled_by w)) (totals_after ts (spelled_by w))
counted_after k w ws ts c = record { waits = waits_after_lem k w ws c.waits; totals = totals_after_lem k w ts c.totals }

-- a looser bound
pub counted_more : (k m : ℕ) (ws ts : List ℕ) → k ≤ m → Counted k ws ts → Counted m ws ts
counted_more k m ws ts h c = record {
  waits = record { size = c.waits.size; small = all_more k m ws h c.waits.small };
  totals = record { size = c.totals.size; small = all_more (k * 2 ^ 32) (m * 2 ^ 32) ts (omega arith) c.totals.small };
}

-- one word more at the end
waits_snoc : (l ws : List ℕ) (w : ℕ) → waits_over l (ws ++ (w ∷ [])) ≡ waits_after (waits_over l ws) (spelled_by w)
waits_snoc l [] w = refl
waits_snoc l (x ∷ ws) w = waits_snoc (waits_after l (spelled_by x)) ws w

totals_snoc : (l ws : List ℕ) (w : ℕ) → totals_over l (ws ++ (w ∷ [])) ≡ totals_after (totals_over l ws) (spelled_by w)
totals_snoc l [] w = refl
totals_snoc l (x ∷ ws) w = totals_snoc (totals_after l (spelled_by x)) ws w

pub waits_next : (l ws : List ℕ) (i : ℕ) → i < length ws → waits_after (waits_over l (take i ws)) (spelled_by (get_or ws i 0)) ≡ waits_over l (take (i + 1) ws)
waits_next l ws i h = rw (add-one, take-suc ws i 0) (sym (waits_snoc l (take i ws) (get_or ws i 0)))

pub totals_next : (l ws : List ℕ) (i : ℕ) → i < length ws → totals_after (totals_over l (take i ws)) (spelled_by (get_or ws i 0)) ≡ totals_over l (take (i + 1) ws)
totals_next l ws i h = rw (add-one, take-suc ws i 0) (sym (totals_snoc l (take i ws) (get_or ws i 0)))

-- a list of words counted
pub counted_over : (k : ℕ) (ws ts out : List ℕ) → Counted k ws ts → Counted (k + length out) (waits_over ws out) (totals_over ts out)
counted_over k ws ts [] c = counted_more k (k + 0) ws ts (omega arith) c
counted_over k ws ts (w ∷ out) c =
    counted_more (k + 1 + length out) (k + length (w ∷ out)) (waits_over ws (w ∷ out)) (totals_over ts (w ∷ out)) (omega arith)
    (counted_over (k + 1) (waits_after ws (spelled_by w)) (totals_after ts (spelled_by w)) out (counted_after k w ws ts c))

-- ---- the loop over a group

-- the first i words are counted
pub record Along (group : List ℕ) (i : ℕ) (ws ts ws' ts' : List ℕ) : Type 0 where
  pub waits : ws' ≡ waits_over ws (take i group)
  pub totals : ts' ≡ totals_over ts (take i group)
  pub counts : Counted (2 ^ 30 + i) ws' ts'

pub along_start : (group ws ts : List ℕ) → Counted (2 ^ 30) ws ts → Along group 0 ws ts ws ts
along_start group ws ts c = record { waits = refl; totals = refl; counts = counted_more (2 ^ 30) (2 ^ 30 + 0) ws ts (omega arith) c }

pub along_next : (group : List ℕ) (i : ℕ) (ws ts ws' ts' wn tn : List ℕ) → i < length group
    → Along group i ws ts ws' ts' → CountedOne (share_in (spelled_by (get_or group i 0))) ws' ts' wn tn
    → Along group (i + 1) ws ts wn tn
along_next group i ws ts ws' ts' wn tn l a d =
    let w : ℕ = get_or group i 0 in
    let p : wn ≡ waits_over ws (take (i + 1) group) =
    d.waits ∙ ap (λ (x : List ℕ). waits_after x (spelled_by w)) a.waits ∙ waits_next ws group i l in
    let q : tn ≡ totals_over ts (take (i + 1) group) =
    d.totals ∙ ap (λ (x : List ℕ). totals_after x (spelled_by w)) a.totals ∙ totals_next ts group i l in
    let c : Counted (2 ^ 30 + i + 1) wn tn = rw (d.waits, d.totals) (counted_after (2 ^ 30 + i) w ws' ts' a.counts) in
    record { waits = p; totals = q; counts = counted_more (2 ^ 30 + i + 1) (2 ^ 30 + (i + 1)) wn tn (omega arith) c }

-- all of them
pub along_end : (group ws ts ws' ts' : List ℕ) → Along group (length group) ws ts ws' ts' → CountedAll group ws ts ws' ts'
along_end group ws ts ws' ts' a =
    let e : take (length group) group ≡ group = take_all (length group) group (omega arith) in
    record { waits = a.waits ∙ ap (waits_over ws) e; totals = a.totals ∙ ap (totals_over ts) e }

-- ---- a group of one word

pub one_word : (group : List ℕ) → length group ≡ 1 → group ≡ get_or group 0 0 ∷ []
one_word [] h = absurd (omega arith)
one_word (w ∷ []) h = refl
one_word (w ∷ v ∷ group) h = absurd (omega arith)
