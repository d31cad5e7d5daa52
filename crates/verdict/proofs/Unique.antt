-- The check has one answer: one verdict, and one content of the marks.
-- Assumes nothing.
use Prim.Native.Nat.{ℕ, ◌+◌, ◌-◌, ◌*◌, ◌/◌, ◌%◌, ◌^◌, ◌≤◌, ◌<◌}
use mathlib.Core.Path.{◌≡◌, refl, sym, ap, ap₂, subst, ◌∙◌}
use mathlib.Core.Logic.{◌⊎◌, inl, inr, ⊎_elim}
use mathlib.Core.Bool.{Bool, true, false}
use mathlib.Core.List.{List}
use native.Mathlib.Nat.{le_antisymm, div-add-mod'}
use native.Mathlib.Decide.{dec_lt}
use native.Mathlib.Omega.{arith}
use lib.Arith.{bin_ind}
use lib.Pow.{shr-shr}
use lib.ListN.{length, get_or}
use lib.Seq.{ext_get_or}
use Rattle.flow.specs.declared.Move.{Move}
use Rattle.flow.specs.declared.Move.TheVariants.{Other, Compare, Jump, Enter, Leave, Loop}
use Rattle.flow.specs.Move.{move_at}
use Rattle.flow.specs.Walk.{deepest, On, place, Fault, past, full, empty}
use Rattle.flow.proofs.Bits.{two, zero_off}
use Rattle.walk.specs.Marks.{Exact}
use Rattle.walk.specs.Loops.{ReturnsIn, Depths, FirstFault}
use Rattle.walk.proofs.Laws.{depth}
use Rattle.flow.proofs.Rules.{walked}
use Rattle.sequence.specs.Bounds.{stack_depth}
use Rattle.verdict.specs.Words.{word_refusal}
use Rattle.instruction.specs.Form.{numbered}
use Rattle.instruction.specs.declared.Rules.{Rules}
use Rattle.verdict.specs.Check.{WordsAre, passed, first, CheckIs, input, word, flow}
use Rattle.verdict.specs.declared.Verdict.{Verdict}
use Rattle.verdict.specs.Flow.{verdict, FlowIs, sound, faulty}
use Rattle.verdict.proofs.Laws.{some_on, place_of}

-- numbers with the same bits are equal
shift : (k m : ℕ) → m / 2 / 2 ^ k % 2 ≡ m / 2 ^ (1 + k) % 2
shift k m = ap (λ (y : ℕ). y % 2) (shr-shr m 1 k)

low : (m : ℕ) → m / 1 % 2 ≡ m % 2
low m = omega arith

same_low : (x y : ℕ) → (On 0 x → On 0 y) → (On 0 y → On 0 x) → x % 2 ≡ y % 2
same_low x y f g = go (two x) (two y)
  where
    go : (x % 2 ≡ 0) ⊎ (x % 2 ≡ 1) → (y % 2 ≡ 0) ⊎ (y % 2 ≡ 1) → x % 2 ≡ y % 2
    go (inl p) (inl q) = p ∙ sym q
    go (inl p) (inr q) = let z = g (low y ∙ q) in omega arith
    go (inr p) (inl q) = let z = f (low x ∙ p) in omega arith
    go (inr p) (inr q) = p ∙ sym q

pub same_bits : (x y : ℕ) → ((k : ℕ) → On k x → On k y) → ((k : ℕ) → On k y → On k x) → x ≡ y
same_bits = bin_ind (λ (x : ℕ). (y : ℕ) → ((k : ℕ) → On k x → On k y) → ((k : ℕ) → On k y → On k x) → x ≡ y) base step
  where
    none : (y : ℕ) → ((k : ℕ) → On k y → On k 0) → Dec (y ≡ 0) → 0 ≡ y
    none y g (yes e) = sym e
    none y g (no n) = let w = some_on y n in zero_off w.0 (g w.0 w.1)

    base : (y : ℕ) → ((k : ℕ) → On k 0 → On k y) → ((k : ℕ) → On k y → On k 0) → 0 ≡ y
    base y f g = none y g (native.Mathlib.Decide.ℕ_discrete y 0)

    step : (x : ℕ) → ((y : ℕ) → ((k : ℕ) → On k (x / 2) → On k y) → ((k : ℕ) → On k y → On k (x / 2)) → x / 2 ≡ y)
        → (y : ℕ) → ((k : ℕ) → On k x → On k y) → ((k : ℕ) → On k y → On k x) → x ≡ y
    step x ih y f g =
        sym (div-add-mod' x 2)
        ∙ ap₂ (λ (a b : ℕ). a * 2 + b)
        (ih (y / 2) (λ k p. shift k y ∙ f (1 + k) (sym (shift k x) ∙ p)) (λ k p. shift k x ∙ g (1 + k) (sym (shift k y) ∙ p)))
        (same_low x y (f 0) (g 0))
        ∙ div-add-mod' y 2

carry : (lim : ℕ) (ws ms ns : List ℕ) → Exact lim ws ms → Exact lim ws ns → (a : ℕ) → a < length ws → (k : ℕ) → On k (get_or ms a 0) → On k (get_or ns a 0)
carry lim ws ms ns f g a l k p =
    let w = place_of k in
    subst (λ (i : ℕ). On i (get_or ns a 0)) (sym w.2)
    (g.whole a w.0 w.1 l (f.sound a w.0 w.1 l (subst (λ (i : ℕ). On i (get_or ms a 0)) w.2 p)))

-- the marks: with the tail as it was
pub one_marks : (lim : ℕ) (ws old ms ns : List ℕ) → length ms ≡ length ns → Exact lim ws ms → Exact lim ws ns
    → ((a : ℕ) → length ws ≤ a → get_or ms a 0 ≡ get_or old a 0) → ((a : ℕ) → length ws ≤ a → get_or ns a 0 ≡ get_or old a 0) → ms ≡ ns
one_marks lim ws old ms ns e f g s t = ext_get_or 0 ms ns e (λ i _. at i (dec_lt i (length ws)))
  where
    at : (i : ℕ) → Dec (i < length ws) → get_or ms i 0 ≡ get_or ns i 0
    at i (yes l) = same_bits (get_or ms i 0) (get_or ns i 0) (carry lim ws ms ns f g i l) (carry lim ws ns ms g f i l)
    at i (no n) = s i (omega arith) ∙ sym (t i (omega arith))

-- the verdict
is_call : Move → ℕ
is_call Other = 0
is_call Compare = 0
is_call (Jump t) = 0
is_call (Enter t) = 1
is_call Leave = 0
is_call (Loop t) = 0

number_at : (lim : ℕ) (ws : List ℕ) (k a : ℕ) → Fault lim ws k a → ((a ≡ length ws) × (k ≡ 30)) ⊎ ((a < length ws) × (k ≡ 32 - is_call (move_at ws a)))
unfolding is_call
number_at lim ws k a (past _) = inl (refl, refl)
number_at lim ws k a (full _ l o) = inr (l, ap (λ (z : Move). 32 - is_call z) (sym o))
number_at lim ws k a (empty _ l o) = inr (l, ap (λ (z : Move). 32 - is_call z) (sym o))

one_number_lem : (lim : ℕ) (ws : List ℕ) (k j a : ℕ) → Fault lim ws k a → Fault lim ws j a → k ≡ j
one_number_lem lim ws k j a f g =
    ⊎_elim
    (λ p. ⊎_elim (λ q. p.1 ∙ sym q.1) (λ q. let x = p.0 in let y = q.0 in absurd (omega arith)) (number_at lim ws j a g))
    (λ p. ⊎_elim (λ q. let x = p.0 in let y = q.0 in absurd (omega arith)) (λ q. p.1 ∙ sym q.1) (number_at lim ws j a g))
    (number_at lim ws k a f)

pub one_flow : (lim : ℕ) (ws : List ℕ) {v w : Verdict} → FlowIs lim ws v → FlowIs lim ws w → v ≡ w
one_flow lim ws (sound _) (sound _) = refl
one_flow lim ws (sound n) (faulty {number = j} {a = b} g _) = absurd (n j b g)
one_flow lim ws (faulty {number = k} {a = a} f _) (sound n) = absurd (n k a f)
one_flow lim ws (faulty {number = k} {a = a} f l) (faulty {number = j} {a = b} g m) =
    let e : a ≡ b = le_antisymm (l j b g) (m k a f) in
    ap₂ (λ (x y : ℕ). verdict (numbered x) y) (one_number_lem lim ws k j a f (subst (λ (z : ℕ). Fault lim ws j z) (sym e) g)) e

-- the first word that is refused
pub one_words : (rules : Rules) (wave : ℕ) (words : List ℕ) {v w : Verdict} → WordsAre rules wave words v → WordsAre rules wave words w → v ≡ w
one_words rules wave words (passed _) (passed _) = refl
one_words rules wave words (passed all) (first {a = b} k _ h) = absurd (h (all b k))
one_words rules wave words (first {a = a} l _ h) (passed all) = absurd (h (all a l))
one_words rules wave words (first {a = a} l below h) (first {a = b} k under g) = by (dec_lt a b) (dec_lt b a)
  where
    by : Dec (a < b) → Dec (b < a) → verdict (word_refusal rules wave words a) a ≡ verdict (word_refusal rules wave words b) b
    by (yes p) q = absurd (h (under a p))
    by (no p) (yes q) = absurd (g (below b q))
    by (no p) (no q) = ap (λ (x : ℕ). verdict (word_refusal rules wave words x) x) (same a b p q)
      where
        same : (a b : ℕ) → (a < b → ⊥) → (b < a → ⊥) → a ≡ b
        same a b p q = omega arith

-- The check gives one verdict and one content of marks.
pub one_answer_check : (rules : Rules) (wave : ℕ) (words marks : List ℕ) {v w : Verdict} {ns os : List ℕ}
    → CheckIs rules wave words marks v ns → CheckIs rules wave words marks w os → (v ≡ w) × (ns ≡ os)
one_answer_check rules wave words marks (input _) (input _) = (refl, refl)
one_answer_check rules wave words marks (input h) (word z _ _) = absurd (h z)
one_answer_check rules wave words marks (input h) (flow z _ _ _) = absurd (h z)
one_answer_check rules wave words marks (word z _ _) (input h) = absurd (h z)
one_answer_check rules wave words marks (word _ p _) (word _ q _) = (one_words rules wave words p q, refl)
one_answer_check rules wave words marks (word _ p h) (flow _ all _ _) = absurd (h (ap (λ (x : Verdict). x.refusal.number) (one_words rules wave words p (passed all))))
one_answer_check rules wave words marks (flow z _ _ _) (input h) = absurd (h z)
one_answer_check rules wave words marks (flow _ all _ _) (word _ p h) = absurd (h (ap (λ (x : Verdict). x.refusal.number) (one_words rules wave words p (passed all))))
one_answer_check rules wave words marks {ns = ns} {os = os} (flow _ _ m f) (flow _ _ k g) =
    (one_flow stack_depth words f g, one_marks stack_depth words marks ns os (m.long ∙ sym k.long) m.exact k.exact m.tail k.tail)

-- ---- what the walk has seen

module _ (lim : ℕ) (ws ms : List ℕ) where
  back_bits : {r r' : ℕ} → Exact lim ws ms → lim ≤ deepest → ReturnsIn ws ms (length ws) r → Depths r → ReturnsIn ws ms (length ws) r' → (k : ℕ) → On k r → On k r'
  back_bits {r} {r'} ex s p e q k o = go w.1 w.2
    where
      w : (d : ℕ) × (c : Bool) × (k ≡ place d c)
      w = place_of k

      go : (c : Bool) → k ≡ place w.0 c → On k r'
      go true z = absurd (e w.0 (subst (λ (i : ℕ). On i r) z o))
      go false z =
          let x = p.from w.0 (subst (λ (i : ℕ). On i r) z o) in
          let l : w.0 ≤ lim = depth (walked (ex.sound x.0 w.0 x.1 x.2 x.4)) in
          subst (λ (i : ℕ). On i r') (sym z) (q.whole x.0 w.0 x.1 (omega arith) x.2 x.3 x.4)

  pub one_back : {r r' : ℕ} → Exact lim ws ms → lim ≤ deepest → ReturnsIn ws ms (length ws) r → Depths r → ReturnsIn ws ms (length ws) r' → Depths r' → r ≡ r'
  one_back {r} {r'} ex s p e q f = same_bits r r' (back_bits ex s p e q) (back_bits ex s q f p)

  not_below : {f f' : ℕ} → FirstFault lim ws ms (length ws) f → FirstFault lim ws ms (length ws) f' → f' ≤ f
  not_below {f} {f'} p q = go (dec_lt f f')
    where
      go : Dec (f < f') → f' ≤ f
      go (yes l) = let h = q.low in let k : f < length ws = omega arith in absurd ((p.here k).1 (q.none f k l))
      go (no l) = omega arith

  pub one_fault : {f f' : ℕ} → FirstFault lim ws ms (length ws) f → FirstFault lim ws ms (length ws) f' → f ≡ f'
  one_fault p q = le_antisymm (not_below q p) (not_below p q)
