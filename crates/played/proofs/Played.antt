-- What is promised of blocks.
-- Assumes nothing.
use Prim.Native.Nat.{ℕ, ◌+◌, ◌-◌, ◌≤◌, ◌<◌}
use mathlib.Core.Path.{◌≡◌, refl, sym, ap, subst, ◌∙◌}
use mathlib.Core.Bool.{Bool}
use mathlib.Core.List.{List, [], ◌∷◌, ◌++◌, append-nil}
use native.Mathlib.Nat.{add-zero}
use native.Mathlib.Decide.{ℕ_discrete, dec_lt}
use native.Mathlib.Omega.{arith}
use borrow.Author.Tests.{eq-eqb, ne_eqb, le-ltb}
use lib.ListN.{length, take, drop}
use Rattle.instruction.specs.Bits.{pick}
use Rattle.instruction.specs.declared.Rules.{Rules}
use Rattle.sequence.specs.Bounds.{word_limit, wave_limit, budget_limit, lengths_refused}
use Rattle.jumps.specs.State.{Fixed, fixed_by, Did, fresh, stop}
use Rattle.rehearsal.specs.Run.{onto, run_of, input_refused, rehearse}
use Rattle.rehearsal.proofs.Runs.{refused_none, rehearse_refused, rehearse_runs}
use Rattle.verdict.proofs.Words.{input_none}
use Rattle.nest.specs.Block.{Block}
use Rattle.nest.specs.Fair.{Fair}
use Rattle.nest.specs.Layout.{size_of, park_of, words_of}
use Rattle.nest.proofs.Stands.{Whole}
use Rattle.nest.proofs.Wholes.{words_length, whole}
use Rattle.block.specs.Text.{block_of}
use Rattle.text.specs.Told.{number_in, count_in}
use Rattle.block.proofs.Whole.{accepted_is}
use Rattle.demands.specs.Run.{Extends}
use Rattle.demands.proofs.Exact.{refused_exactly}
use Rattle.played.specs.Played.{dispatched_by, steps_to, Wrote, RunOf, BlocksPass, BlocksPlay, Parked, BlocksArrive, BlocksOpen, BlockSize}
use Rattle.played.proofs.Sound.{passes_at}
use Rattle.played.proofs.Lines.{Laid, laid}
use Rattle.played.proofs.Goes.{goes_end, along}
use Rattle.played.proofs.Runs.{leaves_none, runs, arrives}
use Rattle.played.proofs.Walks.{no_fault}

-- ---- what was written

-- a block that is written: nothing in it is refused, nor its waveform length, nor its number of words
record Written (w : ℕ) (b : Block) (ws : List ℕ) : Type 0 where
  wave : w ≤ wave_limit
  fair : Fair w 0 b
  few : size_of b ≤ word_limit
  words : ws ≡ words_of b

front : (xs ys : List ℕ) → take (length xs) (xs ++ ys) ≡ xs
front [] ys = refl
front (x ∷ xs) ys = ap (λ (l : List ℕ). x ∷ l) (front xs ys)

written : (wave : ℕ) (text words : List ℕ) → Wrote wave text words → Written wave (block_of text) words
written wave text words w =
    let b = block_of text in
    let told = w.meets.answer in
    let a = accepted_is wave (length w.before) text (sym (ap number_in told) ∙ w.accepted) in
    let count : count_in w.told ≡ length (words_of b) = ap count_in (told ∙ a.told) ∙ sym (words_length wave b a.fair) in
    record {
      wave = a.wave;
      fair = a.fair;
      few = a.words;
      words =
          w.words
          ∙ ap (take (count_in w.told)) (w.meets.words ∙ ap (λ (t : Bool). pick t (words_of b ++ drop (size_of b) w.before) w.before) (eq-eqb (number_in w.told) 0 w.accepted))
          ∙ ap (λ (k : ℕ). take k (words_of b ++ drop (size_of b) w.before)) count
          ∙ front (words_of b) (drop (size_of b) w.before);
    }

lengths_good : (n wave : ℕ) → 0 < n → n ≤ word_limit → wave ≤ wave_limit → lengths_refused n wave ≡ 0
unfolding lengths_refused
lengths_good n wave h l k = rw (ne_eqb n 0 (λ z. omega arith), le-ltb word_limit n l, le-ltb wave_limit wave k)

module _ (wave : ℕ) (b : Block) {words : List ℕ} (w : Written wave b words) where
  stands : Whole words b
  stands = subst (λ (ws : List ℕ). Whole ws b) (sym w.words) (whole wave b w.fair)

  lies_in : (rules : Rules) → Laid rules wave words b
  lies_in rules = laid rules wave words b stands w.fair w.few

  lengths : lengths_refused (length words) wave ≡ 0
  lengths = lengths_good (length words) wave (omega (arith, stands.size)) (omega (arith, stands.size, w.few)) w.wave

  module _ (e : Fixed) (r : RunOf wave words e) where
    lies : Laid e.setting.rules e.setting.wave.0 e.words b
    lies =
        subst (λ (ws : List ℕ). Laid e.setting.rules e.setting.wave.0 ws b) (sym r.words)
        (subst (λ (x : ℕ). Laid e.setting.rules x words b) (sym r.wave) (lies_in e.setting.rules))

    lengths_in : lengths_refused (length e.words) e.setting.wave.0 ≡ 0
    lengths_in =
        ap (λ (ws : List ℕ). lengths_refused (length ws) e.setting.wave.0) r.words
        ∙ ap (λ (x : ℕ). lengths_refused (length words) x) r.wave ∙ lengths

    -- ---- with room enough

    parks : length (dispatched_by b) ≤ e.room → (m n : ℕ) → n ≡ steps_to b + m → n ≤ budget_limit → Parked b n (rehearse n e)
    parks h m n q l =
        subst (λ (d : Did). Parked b n d) (sym (rehearse_runs n e (refused_none (length e.words) e.setting.wave.0 n lengths_in l) ∙ arrives e b lies h m n q))
        (record {
          end = refl;
          address = refl;
          steps = refl;
          counter = leaves_none b;
          depth = refl;
          returns = refl;
          counters = refl;
          out = append-nil (dispatched_by b);
        })

    -- ---- with whatever room

    -- the same run, with room for all
    abbrev roomy : Fixed
    roomy = fixed_by e.words e.messages (e.room + length (dispatched_by b)) e.setting

    extends : Extends e roomy
    extends =
        record {
          words = refl;
          wave = refl;
          rules = refl;
          added = [];
          messages = sym (append-nil e.messages);
          triggers = omega arith;
          room = omega arith;
        }

    enough : length (dispatched_by b) ≤ roomy.room
    enough = omega arith

    -- as many of its steps as were taken, then as many as lead to the park: all is dispatched
    opens : (budget : ℕ) → (more : List ℕ) × (dispatched_by b ≡ (run_of budget e fresh).out ++ more)
    opens budget =
        let g = along e roomy extends budget fresh in (
          (run_of (steps_to b) roomy (run_of budget e fresh).state).out,
          sym (append-nil (dispatched_by b))
              ∙ ap (λ (d : Did). d.out) (sym (arrives roomy b lies enough g.0 (g.0 + steps_to b) (omega arith)) ∙ g.1.goes (steps_to b) (g.0 + steps_to b) refl),
        )

    -- a run that stands at the park took the steps to it
    played : (budget : ℕ) → (run_of budget e fresh).state.core.address.0 ≡ park_of b → (run_of budget e fresh).out ≡ dispatched_by b
    played budget z =
        let g = along e roomy extends budget fresh in by g.0 (goes_end g.1) (dec_lt g.0 (steps_to b))
      where
        by : (j : ℕ) → run_of j roomy fresh ≡ onto (run_of budget e fresh).out (stop 40 (run_of budget e fresh).state) → Dec (j < steps_to b) → (run_of budget e fresh).out ≡ dispatched_by b
        by j g (yes l) = absurd ((runs roomy b lies enough).way j l (ap (λ (d : Did). d.state.core.address.0) g ∙ z))
        by j g (no l) =
            sym (append-nil (run_of budget e fresh).out)
            ∙ ap (λ (d : Did). d.out) (sym g ∙ arrives roomy b lies enough (j - steps_to b) j (omega arith))
            ∙ append-nil (dispatched_by b)

    -- ---- refused for its budget, or run

    begins : (budget : ℕ) → Dec (input_refused (length e.words) e.setting.wave.0 budget ≡ 0) → (more : List ℕ) × (dispatched_by b ≡ (rehearse budget e).out ++ more)
    begins budget (yes z) =
        let o = opens budget in (o.0, o.1 ∙ ap (λ (d : Did). d.out ++ o.0) (sym (rehearse_runs budget e z)))
    begins budget (no h) = (dispatched_by b, ap (λ (d : Did). d.out ++ dispatched_by b) (sym (rehearse_refused budget e _ refl h)))

    plays : (budget : ℕ) → Dec (input_refused (length e.words) e.setting.wave.0 budget ≡ 0)
        → (rehearse budget e).state.core.address.0 ≡ park_of b → (rehearse budget e).out ≡ dispatched_by b
    plays budget (yes z) q =
        let s = rehearse_runs budget e z in
        ap (λ (d : Did). d.out) s ∙ played budget (ap (λ (d : Did). d.state.core.address.0) (sym s) ∙ q)
    plays budget (no h) q =
        absurd (omega (arith, q, ap (λ (d : Did). d.state.core.address.0) (rehearse_refused budget e _ refl h)))

-- ---- the five

pub block_size : BlockSize
block_size wave text words w = (stands wave (block_of text) (written wave text words w)).size

pub blocks_pass : BlocksPass
blocks_pass wave text words w rules marks marks' v h c =
    let x = written wave text words w in
    let l = lies_in wave (block_of text) x rules in
    (refused_exactly rules wave words marks marks' v
    (record {
      input = input_none (length words) wave (length marks) (lengths wave (block_of text) x) h;
      pass = λ a i. passes_at rules wave words (l.all a i).1;
    })
    c).accepted (no_fault rules wave words (block_of text) l)

pub blocks_play : BlocksPlay
blocks_play wave text words w e r budget =
    plays wave (block_of text) (written wave text words w) e r budget (ℕ_discrete (input_refused (length e.words) e.setting.wave.0 budget) 0)

pub blocks_arrive : BlocksArrive
blocks_arrive wave text words w e r h budget l k =
    let b = block_of text in
    let there = parks wave b (written wave text words w) e r h in
    (there 0 (steps_to b) (sym (add-zero (steps_to b))) (omega arith), there (budget - steps_to b) budget (omega arith) k)

pub blocks_open : BlocksOpen
blocks_open wave text words w e r budget =
    begins wave (block_of text) (written wave text words w) e r budget (ℕ_discrete (input_refused (length e.words) e.setting.wave.0 budget) 0)
