-- The laws of marks that grow, and that closed marks are the least set.
-- Assumes nothing.
use Prim.Native.Nat.{ℕ, zero, suc, ◌+◌, ◌-◌, ◌*◌, ◌^◌, ◌≤◌, ◌<◌}
use mathlib.Core.Path.{◌≡◌, refl, sym, ap, subst, ◌∙◌}
use mathlib.Core.Logic.{⊎_elim}
use mathlib.Core.Bool.{Bool, true, false}
use mathlib.Core.List.{List, [], ◌∷◌, ◌++◌}
use native.Mathlib.Nat.{le_refl, le_trans, lt_of_le_of_lt, eq-or-lt_of_le, le_of_suc-le-suc}
use native.Mathlib.Numerals.{add-one}
use native.Mathlib.Decide.{ℕ_discrete}
use native.Mathlib.Omega.{arith}
use lib.Dec.{lit<}
use lib.ListN.{length, get_or, set, drop, replicate, length-set, get_or-append}
use Rattle.std.proofs.lemmas.List.{length-replicate, get_or-replicate, get_or-append_right, get_or-drop}
use lib.Seq.{get_or-set_same, get_or-set_other}
use lib.Bits.{bit_or, or_add_and, and_le_r}
use Rattle.instruction.specs.declared.WordAddress.{WordAddress}
use Rattle.flow.specs.declared.Move.{Move}
use Rattle.flow.specs.declared.Move.TheVariants.{Other, Compare, Jump, Enter, Leave, Loop}
use Rattle.flow.specs.Masks.{next_of, jump_of, to_of}
use Rattle.flow.specs.Move.{move_at}
use Rattle.flow.specs.Walk.{deepest, On, place, Reached, start}
use Rattle.flow.proofs.Rules.{Onward, plain_on, cmp_on, goto_on, call_on, return_on, repeat_on, Leaps, goto_to, call_to, repeat_to, Walked, begin, on, over, back, walked, reached}
use Rattle.flow.proofs.Bits.{or_left, or_right, or_on, zero_off, high_off, on_bare, bare_on, bare_odd, next_on, back_on, jump_on, Came, stepped, returned, on_next_lem, Leapt, leapt, on_jump_lem}
use Rattle.look.specs.Closed.{HoldsAt, ClosedAt, back_in}
use Rattle.look.proofs.Laws.{held_zero, or_zero}
use Rattle.walk.specs.Marks.{Exact}
use Rattle.walk.specs.Loops.{Depths, UncleanIs, FirstFault, Settled, Sound, Backs, left, rest, Placed, same, more, Grew, Turned, moved, still, ReturnsIn, Cleared, Part, Ahead, Visits, VisitDone, TurnIs, onward, hint, ended, Room, NoteDone, FollowDone, Since, fresh, since, AtHand, OpenIs, closed, first, load}
use Rattle.walk.specs.declared.Trail.{Trail}
use Rattle.sequence.specs.Bounds.{word_limit}

-- ---- what is left to set

left_set : (ms : List ℕ) (i v : ℕ) → get_or ms i 0 ≤ v → left (set ms i v) ≤ left ms
unfolding left
left_set [] i v h = le_refl 0
left_set (x ∷ xs) zero v h = omega arith
left_set (x ∷ xs) (suc i) v h = let ih : left (set xs i v) ≤ left xs = left_set xs i v h in omega arith

pub left_set_lt : (ms : List ℕ) (i v : ℕ) → i < length ms → get_or ms i 0 < v → get_or ms i 0 < 2 ^ 64 → left (set ms i v) < left ms
unfolding left
left_set_lt [] i v l h k = absurd (omega arith)
left_set_lt (x ∷ xs) zero v l h k = omega arith
left_set_lt (x ∷ xs) (suc i) v l h k = let ih : left (set xs i v) < left xs = left_set_lt xs i v (le_of_suc-le-suc l) h k in omega arith

-- ---- one store

kept_set : (ms : List ℕ) (i x a k : ℕ) → i < length ms → On k (get_or ms a 0) → On k (get_or (set ms i (bit_or (get_or ms i 0) x)) a 0)
kept_set ms i x a k l p = go (ℕ_discrete a i)
  where
    go : Dec (a ≡ i) → On k (get_or (set ms i (bit_or (get_or ms i 0) x)) a 0)
    go (yes e) =
        subst (λ (z : ℕ). On k (get_or (set ms i (bit_or (get_or ms i 0) x)) z 0)) (sym e)
        (subst (λ (y : ℕ). On k y) (sym (get_or-set_same ms i (bit_or (get_or ms i 0) x) 0 l))
        (or_left k (get_or ms i 0) x (subst (λ (z : ℕ). On k (get_or ms z 0)) e p)))
    go (no n) = subst (λ (y : ℕ). On k y) (sym (get_or-set_other ms i a (bit_or (get_or ms i 0) x) 0 n)) p

sound_set : (lim : ℕ) (ws ms : List ℕ) (i x : ℕ) → i < length ms → Sound lim ws ms → ((d : ℕ) (c : Bool) → On (place d c) x → Reached lim ws i d c)
    → Sound lim ws (set ms i (bit_or (get_or ms i 0) x))
sound_set lim ws ms i x l s new a d c h p = go (ℕ_discrete a i)
  where
    go : Dec (a ≡ i) → Reached lim ws a d c
    go (yes e) =
        ⊎_elim
        (λ q. s a d c h (subst (λ (z : ℕ). On (place d c) (get_or ms z 0)) (sym e) q))
        (λ q. subst (λ (z : ℕ). Reached lim ws z d c) (sym e) (new d c q))
        (or_on (place d c) (get_or ms i 0) x
        (subst (λ (y : ℕ). On (place d c) y) (get_or-set_same ms i (bit_or (get_or ms i 0) x) 0 l)
        (subst (λ (z : ℕ). On (place d c) (get_or (set ms i (bit_or (get_or ms i 0) x)) z 0)) e p)))
    go (no n) = s a d c h (subst (λ (y : ℕ). On (place d c) y) (get_or-set_other ms i a (bit_or (get_or ms i 0) x) 0 n) p)

-- ---- growth

pub grew_refl : (lim : ℕ) (ws : List ℕ) (r : ℕ) (ms : List ℕ) → Grew lim ws r ms r ms
grew_refl lim ws r ms = record { long = refl; less = le_refl (rest ms r); kept = λ a k p. p; tail = λ a h. refl; sound = λ b s. s; backs = λ b s. b; depths = λ e. e }

pub grew_trans : {lim : ℕ} {ws : List ℕ} {r : ℕ} {ms : List ℕ} {q : ℕ} {ns : List ℕ} {p : ℕ} {os : List ℕ} → Grew lim ws r ms q ns → Grew lim ws q ns p os → Grew lim ws r ms p os
grew_trans g h =
    record {
      long = h.long ∙ g.long;
      less = le_trans h.less g.less;
      kept = λ a k p. h.kept a k (g.kept a k p);
      tail = λ a l. h.tail a l ∙ g.tail a l;
      sound = λ b s. h.sound (g.backs b s) (g.sound b s);
      backs = λ b s. h.backs (g.backs b s) (g.sound b s);
      depths = λ e. h.depths (g.depths e);
    }

grew_put : (lim : ℕ) (ws : List ℕ) (r : ℕ) (ms : List ℕ) (i x : ℕ) {ns : List ℕ} {v : ℕ} → Placed (length ws) ms i x ns v → length ws ≤ length ms
    → (Backs lim ws r → Sound lim ws ms → (d : ℕ) (c : Bool) → On (place d c) x → Reached lim ws i d c)
    → Grew lim ws r ms r ns
grew_put lim ws r ms i x (same _) l new = grew_refl lim ws r ms
grew_put lim ws r ms i x (more h u f) l new =
    let e : left (set ms i (bit_or (get_or ms i 0) x)) ≤ left ms = left_set ms i (bit_or (get_or ms i 0) x) (omega arith) in
    record {
      long = length-set ms i (bit_or (get_or ms i 0) x);
      less = omega arith;
      kept = λ a k p. kept_set ms i x a k (omega arith) p;
      tail = λ a q. get_or-set_other ms i a (bit_or (get_or ms i 0) x) 0 (λ e. omega arith);
      sound = λ b s. sound_set lim ws ms i x (omega arith) s (new b s);
      backs = λ b s. b;
      depths = λ e. e;
    }

-- a bit that was set lowers what is left
pub put_left : (n : ℕ) (ms : List ℕ) (i x : ℕ) {ns : List ℕ} {v : ℕ} → n ≤ length ms → Placed n ms i x ns v → (v ≡ 0 → ⊥) → left ns < left ms
put_left n ms i x l (same h) z = absurd (z refl)
put_left n ms i x l (more h u f) z = left_set_lt ms i (bit_or (get_or ms i 0) x) (omega arith) u f

-- the address is then below n, and has the mark that was given back
put_at : (n : ℕ) (ms : List ℕ) (i x : ℕ) {ns : List ℕ} {v : ℕ} → n ≤ length ms → Placed n ms i x ns v → (v ≡ 0 → ⊥) → (i < n) × (get_or ns i 0 ≡ v)
put_at n ms i x l (same h) z = absurd (z refl)
put_at n ms i x l (more h u f) z = (h, get_or-set_same ms i (bit_or (get_or ms i 0) x) 0 (omega arith))

pub put_less : (n : ℕ) (ms : List ℕ) (i x : ℕ) {ns : List ℕ} {v : ℕ} → Placed n ms i x ns v → left ns ≤ left ms
put_less n ms i x (same h) = le_refl (left ms)
put_less n ms i x (more h u f) = left_set ms i (bit_or (get_or ms i 0) x) (omega arith)

-- where none was set, nothing was put, and the bits are held
put_none : (n : ℕ) (ms : List ℕ) (i x : ℕ) {ns : List ℕ} {v : ℕ} → Placed n ms i x ns v → v ≡ 0 → (ns ≡ ms) × HoldsAt n ms i x
put_none n ms i x (same h) z = (refl, h)
put_none n ms i x (more h u f) z = absurd (omega arith)

-- ---- the depths of RETURN

back_in_lem : (o : Move) (m d : ℕ) → On (2 * d) (back_in o m) → (o ≡ Leave) × ((c : Bool) × On (place d c) m)
back_in_lem Other m d p = zero_off (2 * d) p
back_in_lem Compare m d p = zero_off (2 * d) p
back_in_lem (Jump t) m d p = zero_off (2 * d) p
back_in_lem (Enter t) m d p = zero_off (2 * d) p
back_in_lem Leave m d p = (refl, bare_on d m p)
back_in_lem (Loop t) m d p = zero_off (2 * d) p

pub backs_of : (lim : ℕ) (ws ms : List ℕ) (r : ℕ) → Sound lim ws ms → ReturnsIn ws ms (length ws) r → Backs lim ws r
backs_of lim ws ms r s g d p = let w = g.from d p in (w.0, w.1, w.2, w.3, s w.0 d w.1 w.2 w.4)

-- ---- a visit

pub came_reached : (lim : ℕ) (ws : List ℕ) (r : ℕ) (ms : List ℕ) (a m : ℕ) → a < length ws → ((k : ℕ) → On k m → On k (get_or ms a 0)) → Backs lim ws r → Sound lim ws ms
    → (e : ℕ) (h : Bool) → Came (move_at ws a) m r e h → Reached lim ws (a + 1) e h
came_reached lim ws r ms a m l sub b s e h (stepped {d = d} {c = c} p nx) = reached (on (walked (s a d c l (sub (place d c) p))) l nx)
came_reached lim ws r ms a m l sub b s e h (returned c o p q f) =
    let w = b (e + 1) q in
    subst (λ (z : Bool). Reached lim ws (a + 1) e z) (sym f) (reached (back (walked w.4) w.2 w.3 (walked (s a e c l (sub (place e c) p))) l o))

leapt_reached : (lim : ℕ) (ws : List ℕ) (ms : List ℕ) (a m : ℕ) → a < length ws → ((k : ℕ) → On k m → On k (get_or ms a 0)) → Sound lim ws ms
    → (e : ℕ) (h : Bool) → Leapt lim (move_at ws a) m e h → Reached lim ws (to_of (move_at ws a)) e h
leapt_reached lim ws ms a m l sub s e h (leapt {d = d} {c = c} p j) = reached (over (walked (s a d c l (sub (place d c) p))) l j)

-- the depths of a RETURN that is reached
backs_more : (lim : ℕ) (ws : List ℕ) (r : ℕ) (ms : List ℕ) (a m : ℕ) → a < length ws → Part ms a m → Backs lim ws r → Sound lim ws ms → Backs lim ws (bit_or r (back_in (move_at ws a) m))
backs_more lim ws r ms a m l sub b s d p =
    ⊎_elim
    (λ q. b d q)
    (λ q. let w = back_in_lem (move_at ws a) m d q in (a, w.1.0, l, w.0, s a d w.1.0 l (sub (place d w.1.0) w.1.1)))
    (or_on (2 * d) r (back_in (move_at ws a) m) p)

back_odd : (o : Move) (m d : ℕ) → On (2 * d + 1) (back_in o m) → ⊥
back_odd Other m d p = zero_off (2 * d + 1) p
back_odd Compare m d p = zero_off (2 * d + 1) p
back_odd (Jump t) m d p = zero_off (2 * d + 1) p
back_odd (Enter t) m d p = zero_off (2 * d + 1) p
back_odd Leave m d p = bare_odd d m p
back_odd (Loop t) m d p = zero_off (2 * d + 1) p

depths_more : (o : Move) (m r : ℕ) → Depths r → Depths (bit_or r (back_in o m))
depths_more o m r e d p = ⊎_elim (λ q. e d q) (λ q. back_odd o m d q) (or_on (2 * d + 1) r (back_in o m) p)

pub or_up : (r x : ℕ) → r ≤ bit_or r x
or_up r x = omega (arith, or_add_and r x, and_le_r r x)

-- a word that is no RETURN adds no depth
pub noted_none : (o : Move) (s : Trail) → Room s → back_in o s.mark ≡ 0 → NoteDone o s s
noted_none o s room e = record { room = room; back = sym (ap (bit_or s.back) e ∙ or_zero s.back); rose = λ z. absurd (z refl); fell = le_refl _ }

pub noted_call : (t : WordAddress) (s : Trail) (listed : ℕ) → Room s → listed ≤ word_limit → NoteDone (Enter t) s (record { hints = s.hints; calls = listed; back = s.back; at = s.at; mark = s.mark })
noted_call t s listed room l = record { room = record { hints = room.hints; calls = l }; back = sym (or_zero s.back); rose = λ z. absurd (z refl); fell = le_refl _ }

module _ (lim : ℕ) (ws : List ℕ) (r : ℕ) (ms : List ℕ) (a m : ℕ) (fit : length ws ≤ length ms) (l : a < length ws) (sub : Part ms a m) where
  abbrev met : ℕ
  met = bit_or r (back_in (move_at ws a) m)

  noted : Grew lim ws r ms met ms
  noted =
      let e : r ≤ met = or_up r (back_in (move_at ws a) m) in
      record { long = refl; less = omega arith; kept = λ b k p. p; tail = λ b h. refl; sound = λ b s. s; backs = λ b s. backs_more lim ws r ms a m l sub b s; depths = λ e. depths_more (move_at ws a) m r e }

  onto_next : {ns : List ℕ} {v : ℕ} → Placed (length ws) ms (a + 1) (next_of (move_at ws a) m met) ns v → Grew lim ws met ms met ns
  onto_next p =
      grew_put lim ws met ms (a + 1) (next_of (move_at ws a) m met) p fit
      (λ b s e h q. came_reached lim ws met ms a m l sub b s e h (on_next_lem (move_at ws a) m met e h q))

  onto_target : {ns os : List ℕ} {v : ℕ} → Grew lim ws met ms met ns → Placed (length ws) ns (to_of (move_at ws a)) (jump_of lim (move_at ws a) m) os v → Grew lim ws met ns met os
  onto_target {ns} {os} g p =
      let e : length ns ≡ length ms = g.long in
      grew_put lim ws met ns (to_of (move_at ws a)) (jump_of lim (move_at ws a) m) p (omega arith)
      (λ b s e h q. leapt_reached lim ws ns a m l (λ k z. g.kept a k (sub k z)) s e h (on_jump_lem lim (move_at ws a) m e h q))

-- a visit of a mark that is whole set a bit, or found its address closed
visit_turned : (lim : ℕ) (ws : List ℕ) (r : ℕ) (ms : List ℕ) (a q : ℕ) {ns os : List ℕ} {v w : ℕ} → length ws ≤ length ms → length ns ≡ length ms → ((q ≡ r → ⊥) → 2 ^ 64 - q < 2 ^ 64 - r)
    → q ≡ bit_or r (back_in (move_at ws a) (get_or ms a 0))
    → Placed (length ws) ms (a + 1) (next_of (move_at ws a) (get_or ms a 0) q) ns v → Placed (length ws) ns (to_of (move_at ws a)) (jump_of lim (move_at ws a) (get_or ms a 0)) os w
    → Grew lim ws q ms q ns → Grew lim ws q ns q os → Turned lim ws r ms q os a
visit_turned lim ws r ms a q {ns} {os} {v} {w} fit long rose eq p j g h = on_back (ℕ_discrete q r)
  where
    o : Move
    o = move_at ws a

    m : ℕ
    m = get_or ms a 0

    on_jump : q ≡ r → v ≡ 0 → Dec (w ≡ 0) → Turned lim ws r ms q os a
    on_jump e z (yes y) =
        let n = put_none (length ws) ms (a + 1) (next_of o m q) p z in
        let k = put_none (length ws) ns (to_of o) (jump_of lim o m) j y in
        still
        (record {
          met = sym eq ∙ e;
          next = subst (λ (b : ℕ). HoldsAt (length ws) ms (a + 1) (next_of o m b)) e n.1;
          jump = subst (λ (x : List ℕ). HoldsAt (length ws) x (to_of o) (jump_of lim o m)) n.0 k.1;
        })
    on_jump e z (no y) =
        let f : left os < left ns = put_left (length ws) ns (to_of o) (jump_of lim o m) (omega arith) j y in
        let l : rest ns q ≤ rest ms q = g.less in
        moved (omega arith)

    on_next : q ≡ r → Dec (v ≡ 0) → Turned lim ws r ms q os a
    on_next e (yes z) = on_jump e z (ℕ_discrete w 0)
    on_next e (no z) =
        let f : left ns < left ms = put_left (length ws) ms (a + 1) (next_of o m q) fit p z in
        let l : rest os q ≤ rest ns q = h.less in
        moved (omega arith)

    on_back : Dec (q ≡ r) → Turned lim ws r ms q os a
    on_back (yes e) = on_next e (ℕ_discrete v 0)
    on_back (no e) =
        let b : 2 ^ 64 - q < 2 ^ 64 - r = rose e in
        let l : rest os q ≤ rest ns q = h.less in
        let k : rest ns q ≤ rest ms q = g.less in
        moved (omega arith)

pub visit_law : (lim : ℕ) (ws : List ℕ) (r : ℕ) (ms : List ℕ) (a m q x y t : ℕ) {ns os : List ℕ} {v w : ℕ} → length ws ≤ length ms → a < length ws → Part ms a m → ((q ≡ r → ⊥) → 2 ^ 64 - q < 2 ^ 64 - r)
    → q ≡ bit_or r (back_in (move_at ws a) m) → x ≡ next_of (move_at ws a) m q → y ≡ jump_of lim (move_at ws a) m → t ≡ to_of (move_at ws a)
    → Placed (length ws) ms (a + 1) x ns v → Placed (length ws) ns t y os w
    → Visits lim ws r ms a m q os v t w
visit_law lim ws r ms a m q x y t {ns} {os} {v} {w} fit l sub rose eq ex ey et p j =
    record { grew = grew_trans (grew_trans g₀ g) h; turned = whole; next = next; jump = jump }
  where
    o : Move
    o = move_at ws a

    p' : Placed (length ws) ms (a + 1) (next_of o m q) ns v
    p' = subst (λ (z : ℕ). Placed (length ws) ms (a + 1) z ns v) ex p

    j' : Placed (length ws) ns (to_of o) (jump_of lim o m) os w
    j' = subst (λ (z : ℕ). Placed (length ws) ns z (jump_of lim o m) os w) et (subst (λ (z : ℕ). Placed (length ws) ns t z os w) ey j)

    g₀ : Grew lim ws r ms q ms
    g₀ = subst (λ (z : ℕ). Grew lim ws r ms z ms) (sym eq) (noted lim ws r ms a m fit l sub)

    g : Grew lim ws q ms q ns
    g = subst (λ (z : ℕ). Placed (length ws) ms (a + 1) (next_of o m z) ns v → Grew lim ws z ms z ns) (sym eq) (onto_next lim ws r ms a m fit l sub) p'

    h : Grew lim ws q ns q os
    h = subst (λ (z : ℕ). Grew lim ws z ms z ns → Placed (length ws) ns (to_of o) (jump_of lim o m) os w → Grew lim ws z ns z os) (sym eq) (onto_target lim ws r ms a m fit l sub) g j'

    whole : m ≡ get_or ms a 0 → Turned lim ws r ms q os a
    whole e =
        visit_turned lim ws r ms a q fit g.long rose
        (subst (λ (z : ℕ). q ≡ bit_or r (back_in o z)) e eq)
        (subst (λ (z : ℕ). Placed (length ws) ms (a + 1) (next_of o z q) ns v) e p')
        (subst (λ (z : ℕ). Placed (length ws) ns (to_of o) (jump_of lim o z) os w) e j')
        g
        h

    next : (v ≡ 0 → ⊥) → Ahead ws r ms q os (a + 1) v
    next z =
        let f : left ns < left ms = put_left (length ws) ms (a + 1) x fit p z in
        let u : rest os q ≤ rest ns q = h.less in
        let k : rest ms q ≤ rest ms r = g₀.less in
        let i = put_at (length ws) ms (a + 1) x fit p z in
        (omega arith, i.0, λ b c. h.kept (a + 1) b (subst (λ (y : ℕ). On b y) (sym i.1) c))

    jump : (w ≡ 0 → ⊥) → Ahead ws r ms q os t w
    jump z =
        let long : length ns ≡ length ms = g.long in
        let fit' : length ws ≤ length ns = omega arith in
        let f : left os < left ns = put_left (length ws) ns t y fit' j z in
        let u : rest ns q ≤ rest ms q = g.less in
        let k : rest ms q ≤ rest ms r = g₀.less in
        let i = put_at (length ws) ns t y fit' j z in
        (omega arith, i.0, λ b c. subst (λ (y : ℕ). On b y) (sym i.1) c)

-- a word that goes on to the next address puts its mark there
pub visit_plain : (lim : ℕ) (ws : List ℕ) (r : ℕ) (ms : List ℕ) (a m : ℕ) {ns : List ℕ} {v : ℕ} → length ws ≤ length ms → a < length ws → Part ms a m → move_at ws a ≡ Other
    → Placed (length ws) ms (a + 1) m ns v → Visits lim ws r ms a m r ns v 0 0
visit_plain lim ws r ms a m {ns} fit l sub e p =
    visit_law lim ws r ms a m r m 0 0 fit l sub (λ z. absurd (z refl))
    (sym (or_zero r) ∙ ap (λ (z : Move). bit_or r (back_in z m)) (sym e))
    (ap (λ (z : Move). next_of z m r) (sym e))
    (ap (λ (z : Move). jump_of lim z m) (sym e))
    (ap to_of (sym e))
    p
    (same (held_zero (length ws) ns 0 0 refl))

-- ---- no place is deeper than the limit

next_depth : (lim : ℕ) {o : Move} {d : ℕ} {c : Bool} {e : ℕ} {h : Bool} → Onward o d c e h → d ≤ lim → e ≤ lim
next_depth lim plain_on l = l
next_depth lim cmp_on l = l
next_depth lim goto_on l = l
next_depth lim call_on l = l
next_depth lim return_on l = l
next_depth lim repeat_on l = l

jump_depth : {lim : ℕ} {o : Move} {d : ℕ} {c : Bool} {t e : ℕ} {h : Bool} → Leaps lim o d c t e h → d ≤ lim → e ≤ lim
jump_depth goto_to l = l
jump_depth (call_to k) l = omega arith
jump_depth repeat_to l = l

pub depth : {lim : ℕ} {ws : List ℕ} {a d : ℕ} {c : Bool} → Walked lim ws a d c → d ≤ lim
depth begin = omega arith
depth {lim = lim} (on q l nx) = next_depth lim nx (depth q)
depth (over q l j) = jump_depth j (depth q)
depth (back p _ _ q _ _) = depth q

-- ---- closed marks hold all that is reached

module _ (lim : ℕ) (ws : List ℕ) (r : ℕ) (ms : List ℕ) (small : lim ≤ deepest) (begins : On 0 (get_or ms 0 0))
    (all : (k : ℕ) → k < length ws → ClosedAt lim ws r ms k) where
  land : (k i x : ℕ) → On k x → bit_or (get_or ms i 0) x ≡ get_or ms i 0 → On k (get_or ms i 0)
  land k i x p e = subst (λ (z : ℕ). On k z) e (or_right k (get_or ms i 0) x p)

  narrow : {d : ℕ} → d ≤ lim → d ≤ deepest
  narrow l = omega arith

  -- a RETURN that is marked has its depths among those known
  known : (a d : ℕ) (c : Bool) → d ≤ deepest → a < length ws → move_at ws a ≡ Leave → On (place d c) (get_or ms a 0) → On (2 * d) r
  known a d c h l o p =
      subst (λ (z : ℕ). On (2 * d) z) (all a l).met
      (or_right (2 * d) r (back_in (move_at ws a) (get_or ms a 0))
      (subst (λ (z : Move). On (2 * d) (back_in z (get_or ms a 0))) (sym o) (on_bare d (get_or ms a 0) c h p)))

  marked : {a d : ℕ} {c : Bool} → Walked lim ws a d c → a < length ws → On (place d c) (get_or ms a 0)
  marked begin l = begins
  marked (on {a = a} {d = d} {c = c} {e = e} {h = h} q k nx) l =
      land (place e h) (a + 1) (next_of (move_at ws a) (get_or ms a 0) r)
      (next_on nx (narrow (depth q)) (get_or ms a 0) r (marked q k))
      ((all a k).next l)
  marked (over {a = a} {d = d} {c = c} {t = t} {e = e} {h = h} q k j) l =
      let w = jump_on j (narrow (depth q)) (get_or ms a 0) (marked q k) in
      subst (λ (z : ℕ). On (place e h) (get_or ms z 0)) w.0
      (land (place e h) (to_of (move_at ws a)) (jump_of lim (move_at ws a) (get_or ms a 0)) w.1 ((all a k).jump (subst (λ (z : ℕ). z < length ws) (sym w.0) l)))
  marked (back {a = a} {d = d} {c = c} {b = b} {h = h} {t = t} p k o q m u) l =
      land (2 * d) (b + 1) (next_of (move_at ws b) (get_or ms b 0) r)
      (subst (λ (z : Move). On (2 * d) (next_of z (get_or ms b 0) r)) (sym u)
      (back_on t d h (get_or ms b 0) r (narrow (depth q)) (marked q m) (known a (d + 1) c (narrow (depth p)) k o (marked p k))))
      ((all b m).next l)

  pub exact : Sound lim ws ms → Exact lim ws ms
  exact s = record { sound = s; whole = λ a d c l q. marked (walked q) l }

-- ---- clearing

pub clear_low : (ns : List ℕ) (a : ℕ) → a < length ns → ((k : ℕ) → k < a → get_or ns k 0 ≡ 0) → (k : ℕ) → k < a + 1 → get_or (set ns a 0) k 0 ≡ 0
clear_low ns a l all k h = go (ℕ_discrete k a)
  where
    go : Dec (k ≡ a) → get_or (set ns a 0) k 0 ≡ 0
    go (yes e) = subst (λ (z : ℕ). get_or (set ns a 0) z 0 ≡ 0) (sym e) (get_or-set_same ns a 0 0 l)
    go (no n) = get_or-set_other ns a k 0 0 n ∙ all k (omega arith)

-- ---- the look

-- what holds below an address and at it holds below the next
pub below_more : (P : ℕ → Type 0) (a : ℕ) → ((k : ℕ) → k < a → P k) → P a → (k : ℕ) → k < a + 1 → P k
below_more P a all here k l =
    ⊎_elim (λ e. subst P (sym e) here) (λ h. all k h) (eq-or-lt_of_le (le_of_suc-le-suc (subst (λ (z : ℕ). k < z) (add-one a) l)))

-- ---- following

turn_back : {n : ℕ} {ms : List ℕ} {v t : Trail} → TurnIs n ms v t → t.back ≡ v.back
turn_back (onward z) = refl
turn_back (hint r b h m) = b
turn_back (ended r b e) = b

pub turn_room : {n : ℕ} {ms : List ℕ} {v t : Trail} → Room v → TurnIs n ms v t → Room t
turn_room r (onward z) = r
turn_room r (hint q b h m) = q
turn_room r (ended q b e) = q

turned_on : {lim : ℕ} {ws : List ℕ} {r : ℕ} {ms : List ℕ} {q : ℕ} {ns : List ℕ} {p : ℕ} {os : List ℕ} {a : ℕ} → Turned lim ws r ms q ns a → rest os p ≤ rest ns q → Turned lim ws r ms p os a
turned_on (moved l) h = moved (lt_of_le_of_lt h l)
turned_on (still k) h = still k

module _ {lim : ℕ} {ws ms : List ℕ} {s : Trail} {ns : List ℕ} {v t : Trail} (d : VisitDone lim ws ms s ns v) (u : TurnIs (length ws) ns v t) where
  turn_grew : Grew lim ws s.back ms t.back ns
  turn_grew = subst (λ (z : ℕ). Grew lim ws s.back ms z ns) (sym (turn_back u)) d.grew

  pub since_more : {ms₀ : List ℕ} {s₀ : Trail} → Since lim ws ms₀ s₀ ms s → FollowDone lim ws ms₀ s₀ ns t
  since_more fresh =
      record {
        room = turn_room d.room u;
        grew = turn_grew;
        turned = λ e. subst (λ (z : ℕ). Turned lim ws s.back ms z ns s.at) (sym (turn_back u)) (d.turned e);
      }
  since_more (since f) = record { room = turn_room d.room u; grew = grew_trans f.grew turn_grew; turned = λ e. turned_on (f.turned e) turn_grew.less }

pub turn_hand : {lim : ℕ} {ws ms : List ℕ} {s : Trail} {ns : List ℕ} {v t : Trail} → VisitDone lim ws ms s ns v → TurnIs (length ws) ns v t → t.at < length ws → AtHand ws ns t
turn_hand d (onward z) l = record { below = l; part = (d.ahead z).2 }
turn_hand {ns = ns} d (hint {t = t} r b h m) l = record { below = l; part = λ k p. subst (λ (z : ℕ). On k z) m p }
turn_hand d (ended r b e) l = absurd (omega arith)

pub turn_fell : {lim : ℕ} {ws ms : List ℕ} {s : Trail} {ns : List ℕ} {v t : Trail} → VisitDone lim ws ms s ns v → TurnIs (length ws) ns v t → t.at < length ws
    → load ns t.back t.hints < load ms s.back s.hints
turn_fell {s = s} {v = v} d (onward z) l =
    let w : rest _ v.back < rest _ s.back = (d.ahead z).0 in
    let r : v.hints ≤ word_limit = d.room.hints in
    omega arith
turn_fell {ms = ms} {s = s} {ns = ns} {v = v} d (hint {t = t} r b h m) l =
    subst (λ (z : ℕ). load ns z t.hints < load ms s.back s.hints) (sym b)
    (let f : load ns v.back v.hints ≤ load ms s.back s.hints = d.fell in omega arith)
turn_fell d (ended r b e) l = absurd (omega arith)

-- following from an address that is open sets a bit
pub open_moves : {lim : ℕ} {ws : List ℕ} {r : ℕ} {ms : List ℕ} {q : ℕ} {ns : List ℕ} {a f : ℕ} → OpenIs lim ws r ms a f → a < length ws → Turned lim ws r ms q ns a → rest ns q < rest ms r
open_moves (closed k h) l t = absurd (omega arith)
open_moves (first l o) h (moved m) = m
open_moves (first l o) h (still k) = absurd (o k)

-- the depths of RETURN that are known are those that are marked
known_returns : (lim : ℕ) (ws : List ℕ) (r : ℕ) (ms : List ℕ) → Exact lim ws ms → Backs lim ws r → ((k : ℕ) → k < length ws → ClosedAt lim ws r ms k) → ReturnsIn ws ms (length ws) r
known_returns lim ws r ms ex bs cl = record { from = from; whole = whole }
  where
    from : (d : ℕ) → On (2 * d) r → (a : ℕ) × (c : Bool) × (a < length ws) × (move_at ws a ≡ Leave) × On (place d c) (get_or ms a 0)
    from d p = let w = bs d p in (w.0, w.1, w.2, w.3, ex.whole w.0 d w.1 w.2 w.4)

    whole : (a d : ℕ) (c : Bool) → d ≤ deepest → a < length ws → move_at ws a ≡ Leave → On (place d c) (get_or ms a 0) → On (2 * d) r
    whole a d c h l o p =
        subst (λ (y : ℕ). On (2 * d) y) (cl a l).met
        (or_right (2 * d) r (back_in (move_at ws a) (get_or ms a 0))
        (subst (λ (z : Move). On (2 * d) (back_in z (get_or ms a 0))) (sym o) (on_bare d (get_or ms a 0) c h p)))

-- marks with no open address are the least set
pub settled : (lim : ℕ) (ws : List ℕ) (r : ℕ) (ms₀ ms : List ℕ) {a f : ℕ} → lim ≤ deepest → Sound lim ws ms → On 0 (get_or ms 0 0) → Backs lim ws r → Depths r → length ms ≡ length ms₀ → ((k : ℕ) → length ws ≤ k → get_or ms k 0 ≡ get_or ms₀ k 0)
    → OpenIs lim ws r ms a f → length ws ≤ a → Settled lim ws ms₀ ms r f
settled lim ws r ms₀ ms t s b bs ds long tail (closed k h) l =
    let ex = exact lim ws r ms t b k s in
    record { marked = record { long = long; exact = ex; tail = tail }; returns = known_returns lim ws r ms ex bs k; depths = ds; fault = h }
settled lim ws r ms₀ ms t s b bs ds long tail (first h o) l = absurd (omega arith)

-- ---- faults

-- where all is closed, an address that is not clean faults
pub unclean_fault : (lim : ℕ) (ws : List ℕ) (r : ℕ) (ms : List ℕ) (f : ℕ) → UncleanIs lim ws r ms f → ((k : ℕ) → k < length ws → ClosedAt lim ws r ms k) → FirstFault lim ws ms (length ws) f
unclean_fault lim ws r ms f u all = record { low = u.low; none = λ b l h. (u.clean b h).good; here = λ l. (l, λ z. u.here l (record { closed = all f l; good = z })) }

-- ---- the start

-- zeros laid over the front
pub cleared : (n : ℕ) (ms : List ℕ) {k : ℕ} → k ≡ n → Cleared n ms (replicate k 0 ++ drop n ms)
cleared n ms {k = k} e =
    let long : length (replicate {A = ℕ} k 0) ≡ n = length-replicate {A = ℕ} k 0 ∙ e in
    record {
      clear = λ a l. get_or-append (replicate k 0) (drop n ms) 0 a (omega (arith, l, long)) ∙ get_or-replicate k a 0 0 (omega (arith, l, e));
      tail = λ a l. get_or-append_right (replicate k 0) (drop n ms) n a 0 long l ∙ get_or-drop n ms (a - n) 0 ∙ ap (λ (j : ℕ). get_or ms j 0) (omega (arith, l));
    }

begun_at : (lim : ℕ) (ws : List ℕ) (d : ℕ) (c : Bool) → On (place d c) 1 → Reached lim ws 0 d c
begun_at lim ws zero false p = start
begun_at lim ws (suc d) false p = high_off 1 (2 * suc d) 1 (lit< tt) (omega arith) p
begun_at lim ws d true p = high_off 1 (2 * d + 1) 1 (lit< tt) (omega arith) p

pub begun : (lim : ℕ) (ws ms ns : List ℕ) → length ws ≤ length ns → 0 < length ws → Cleared (length ws) ms ns → Sound lim ws (set ns 0 1)
begun lim ws ms ns fit l g a d c h p = go (ℕ_discrete a 0)
  where
    go : Dec (a ≡ 0) → Reached lim ws a d c
    go (yes e) =
        subst (λ (z : ℕ). Reached lim ws z d c) (sym e)
        (begun_at lim ws d c (subst (λ (y : ℕ). On (place d c) y) (get_or-set_same ns 0 1 0 (omega arith)) (subst (λ (z : ℕ). On (place d c) (get_or (set ns 0 1) z 0)) e p)))
    go (no n) = zero_off (place d c) (subst (λ (y : ℕ). On (place d c) y) (get_or-set_other ns 0 a 1 0 n ∙ g.clear a h) p)
