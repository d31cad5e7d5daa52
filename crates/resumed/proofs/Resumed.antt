-- `calls_are_one_run`, `left_by_runs`, `series_totals`, `series_waits` and `gives_again`, by what is known of every series of calls (`Along`).
-- Assumes nothing.
use mathlib.Core.Path.{◌≡◌, refl, sym, ap, ap₂, ◌∙◌, subst}
use mathlib.Core.Bool.{true}
use mathlib.Core.List.{List, [], ◌++◌, append_assoc, append-nil}
use Prim.Native.Nat.{ℕ, ◌+◌, ◌-◌, ◌≤◌, ◌<◌}
use native.Mathlib.Omega.{arith}
use lib.ListN.{length, get_or, take, length-append}
use Rattle.instruction.specs.Form.{numbered}
use Rattle.instruction.specs.declared.Refusal.{Refusal}
use Rattle.buffer.specs.Put.{put}
use Rattle.buffer.proofs.Laws.{put_none, put_put, put_front, length_put, front_put}
use Rattle.dispatch.specs.Engines.{engine_count}
use Rattle.jumps.specs.State.{Fixed, fixed_by, Did, fresh}
use Rattle.jumps.specs.declared.Setting.{Setting}
use Rattle.jumps.specs.declared.State.{State}
use Rattle.rehearsal.specs.Run.{onto, run_of, rehearse, Rehearsed}
use Rattle.rehearsal.specs.declared.Answer.{Answer}
use Rattle.rehearsal.proofs.Runs.{rehearse_runs}
use Rattle.demands.specs.Run.{Extends, played_on, awaited_on, sum_over}
use Rattle.demands.proofs.Answers.{one_answer_run}
use Rattle.demands.proofs.Runs.{over_run, fresh_totals, fresh_waits}
use Rattle.left.specs.Left.{could_be_left}
use Rattle.paused.specs.Pause.{call_refused, done_by, Went, went_by, called, Called}
use Rattle.resumed.specs.Resumed.{Lesson, Given, fixed_for, refused_for, Calls, Series, CallsAreOneRun, LeftByRuns, SeriesTotals, SeriesWaits, GivesAgain}
use Rattle.paused.specs.declared.Paused.{Paused}
use Rattle.paused.specs.declared.Pace.TheVariants.{On}
use Rattle.resumed.proofs.Several.{GoesOn, goes_none, goes_then, on_runs, call_goes}
use Rattle.resumed.proofs.Fits.{Left, left_by, could_be_left_lem}
use Rattle.paused.proofs.Pauses.{call_taken, call_none, called_taken}
use Rattle.resumed.proofs.Calls.{not_70, refused_changes_nothing}

-- ---- what is known of a series

-- with these messages and triggers
abbrev setting_for : Lesson → ℕ → Setting
setting_for l triggers = record { wave = l.wave; rules = l.rules; triggers = triggers }

abbrev last_fixed : Lesson → List ℕ → ℕ → Fixed
last_fixed l messages triggers = fixed_by l.words messages (length l.before) (setting_for l triggers)

-- what was dispatched stands in the trace, and every run with as much goes on from the state that is held
record Along (l : Lesson) (messages : List ℕ) (p : Paused) (t : List ℕ) : Type 0 where
  out : List ℕ
  trace : t ≡ put l.before 0 out
  reached : (e : Fixed) → Extends (last_fixed l messages p.triggers) e → GoesOn p.budget e fresh out p.state

extends_none : (e : Fixed) → Extends e e
extends_none e = record { words = refl; wave = refl; rules = refl; added = []; messages = sym (append-nil e.messages); triggers = omega arith; room = omega arith }

extends_then : {a b c : Fixed} → Extends a b → Extends b c → Extends a c
extends_then {a = a} p q = record {
  words = q.words ∙ p.words;
  wave = q.wave ∙ p.wave;
  rules = q.rules ∙ p.rules;
  added = p.added ++ q.added;
  messages = q.messages ∙ ap (λ (m : List ℕ). m ++ q.added) p.messages ∙ append_assoc a.messages p.added q.added;
  triggers = omega (arith, p.triggers, q.triggers);
  room = omega (arith, p.room, q.room);
}

module _ (l : Lesson) (messages : List ℕ) (p : Paused) (t : List ℕ) (a : Along l messages p t) where
  abbrev e : Fixed
  e = last_fixed l messages p.triggers

  here : GoesOn p.budget e fresh a.out p.state
  here = a.reached e (extends_none e)

  -- the state is that of a run with as much budget as it took
  left_there : run_of here.done e fresh ≡ record { end = numbered 40; state = p.state; out = a.out }
  unfolding run_of
  left_there = here.rest 0 here.done (omega arith) ∙ ap (λ (y : List ℕ). record { end = numbered 40; state = p.state; out = y }) (append-nil a.out)

  left : Left e a.out p.state
  left = subst (λ (d : Did). Left e d.out d.state) left_there (left_by e here.done)

  sent_fits : length a.out ≤ length l.before
  sent_fits = omega (arith, left.sent, left.good.sent)

  same_length : length t ≡ length l.before
  same_length = ap length a.trace ∙ length_put l.before a.out 0 (omega (arith, sent_fits))

  front : take p.state.core.sent t ≡ a.out
  front = ap₂ (λ (n : ℕ) (y : List ℕ). take n y) left.sent a.trace ∙ front_put l.before a.out

  totals : (k : ℕ) → k < engine_count → get_or p.state.totals k 0 ≡ sum_over (played_on k) (take p.state.core.sent t)
  totals k h =
      subst (λ (d : Did). get_or d.state.totals k 0 ≡ sum_over (played_on k) d.out) left_there (fresh_totals (run_of here.done e fresh) (over_run here.done e fresh) k h)
      ∙ ap (sum_over (played_on k)) (sym front)

  waits : (k : ℕ) → k < engine_count → get_or p.state.waits k 0 ≡ sum_over (awaited_on k) (take p.state.core.sent t)
  waits k h =
      subst (λ (d : Did). get_or d.state.waits k 0 ≡ sum_over (awaited_on k) d.out) left_there (fresh_waits (run_of here.done e fresh) (over_run here.done e fresh) k h)
      ∙ ap (sum_over (awaited_on k)) (sym front)

  -- ---- one more call

  module _ (g : Given) (added : List ℕ) (m : g.messages ≡ messages ++ added) where
    judged_left : could_be_left (fixed_for l t g) p.budget p.state ≡ true
    judged_left =
        could_be_left_lem l.words messages g.messages (length l.before) (length t) g.triggers (setting_for l p.triggers) p.state a.out
        (omega (arith, ap length m, length-append messages added)) (omega (arith, same_length)) left p.budget here.within

    module _ (ok : refused_for l g p t ≡ 0) where
      abbrev next : Fixed
      next = fixed_for l l.before g

      same_room : fixed_for l t g ≡ next
      same_room = ap (λ (n : ℕ). fixed_by l.words g.messages n (setting_for l g.triggers)) same_length

      more : Extends e next
      more = record { words = refl; wave = refl; rules = refl; added = added; messages = m; triggers = (call_taken g.budget (fixed_for l t g) p ok).triggers; room = omega arith }

      counted : p.state.core.steps ≤ g.budget
      counted = omega (arith, here.within, (call_taken g.budget (fixed_for l t g) p ok).last)

      abbrev did : Did
      did = done_by g.pace g.budget next p.state

      wrote : put t p.state.core.sent did.out ≡ put l.before 0 (a.out ++ did.out)
      wrote =
          ap₂ (λ (y : List ℕ) (n : ℕ). put y n did.out) a.trace (left.sent ∙ none (length a.out))
          ∙ put_put l.before a.out did.out 0 (omega (arith, sent_fits))
        where
          none : (n : ℕ) → n ≡ 0 + n
          none n = omega arith

      module _ (end : Refusal) (p' : Paused) (t' : List ℕ) (c : Calls l g p t end p' t') where
        went : Called (went_by g.budget next did) p t end p' t'
        went =
            subst (λ (w : Went). Called w p t end p' t')
            (ap (λ (y : Fixed). called g.pace g.budget y p) same_room
            ∙ called_taken g.pace g.budget next p (subst (λ (y : Fixed). call_refused g.budget y p ≡ 0) same_room ok)) c

        -- what the host holds then, but for the state, is what it gave
        holds_given : p' ≡ record { state = p'.state; budget = g.budget; triggers = g.triggers }
        holds_given = went.held ∙ ap (λ (y : State). record { state = y; budget = g.budget; triggers = g.triggers }) (sym (ap (λ (q : Paused). q.state) went.held))

        along_taken : Along l g.messages p' t'
        along_taken = record {
          out = a.out ++ did.out;
          trace = went.trace ∙ wrote;
          reached = subst (λ (q : Paused). (f : Fixed) → Extends (last_fixed l g.messages q.triggers) f → GoesOn q.budget f fresh (a.out ++ did.out) q.state) (sym went.held)
              (λ f x. goes_then (a.reached f (extends_then more x)) (call_goes next f x g.pace g.budget p.state counted));
        }

        along_one_run : g.pace ≡ On → Rehearsed (rehearse g.budget next) l.before t' (record { end = end; state = p'.state })
        along_one_run on =
            subst (λ (d : Did). Rehearsed d l.before t' (record { end = end; state = p'.state })) (sym whole)
            (record { answer = λ i. record { end = went.answer i; state = (went.held i).state }; trace = went.trace ∙ wrote ∙ put_front l.before (a.out ++ did.out) })
          where
            goes : GoesOn p.budget next fresh a.out p.state
            goes = a.reached next more

            whole : rehearse g.budget next ≡ onto a.out did
            whole =
                rehearse_runs g.budget next (call_taken g.budget (fixed_for l t g) p ok).input
                ∙ goes.rest (g.budget - p.state.core.steps) g.budget (omega (arith, goes.steps, counted))
                ∙ ap (onto a.out) (sym (on_runs g.pace g.budget next p.state on))

-- ---- every series

along_fresh : (l : Lesson) → Along l [] (record { state = fresh; budget = 0; triggers = 0 }) l.before
along_fresh l = record { out = []; trace = sym (put_none l.before 0); reached = λ e x. goes_none 0 e fresh (omega arith) }

along : (l : Lesson) {messages : List ℕ} {p : Paused} {t : List ℕ} → Series l messages p t → Along l messages p t
along l Series.fresh = along_fresh l
along l (Series.refused {messages} {p} {t} s g h end p' t' c) =
    let same = refused_changes_nothing g.pace g.budget (fixed_for l t g) p t h end p' t' c in
    subst (λ (q : Paused). Along l messages q t') (sym same.1) (subst (Along l messages p) (sym same.2) (along l s))
along l (Series.taken {messages} {p} {t} s g added m ok end p' t' c) = along_taken l messages p t (along l s) g added m ok end p' t' c

pub calls_are_one_run : CallsAreOneRun
calls_are_one_run l messages p t s g added on m ok end p' t' c = along_one_run l messages p t (along l s) g added m ok end p' t' c on

pub left_by_runs : LeftByRuns
left_by_runs l messages p t s g added m = not_70 g.budget (fixed_for l t g) p (judged_left l messages p t (along l s) g added m)

pub series_totals : SeriesTotals
series_totals l messages p t s = totals l messages p t (along l s)

pub series_waits : SeriesWaits
series_waits l messages p t s = waits l messages p t (along l s)

pub gives_again : GivesAgain
gives_again l messages p t s g added on m ok end p' t' c end'' p'' t'' d = (
  ap (λ (y : Answer × List ℕ). y.0.end) same,
  given'' ∙ ap (λ (y : Answer × List ℕ). record { state = y.0.state; budget = g.budget; triggers = g.triggers }) same ∙ sym given',
  ap (λ (y : Answer × List ℕ). y.1) same,
)
  where
    a' : Along l g.messages p' t'
    a' = along_taken l messages p t (along l s) g added m ok end p' t' c

    m' : g.messages ≡ g.messages ++ []
    m' = sym (append-nil g.messages)

    given' : p' ≡ record { state = p'.state; budget = g.budget; triggers = g.triggers }
    given' = holds_given l messages p t (along l s) g added m ok end p' t' c

    ok' : refused_for l g p' t' ≡ 0
    ok' =
        call_none g.budget (fixed_for l t' g) p' (call_taken g.budget (fixed_for l t g) p ok).input (judged_left l g.messages p' t' a' g [] m')
        (omega (arith, ap (λ (q : Paused). q.triggers) given')) (omega (arith, ap (λ (q : Paused). q.budget) given'))

    given'' : p'' ≡ record { state = p''.state; budget = g.budget; triggers = g.triggers }
    given'' = holds_given l g.messages p' t' a' g [] m' ok' end'' p'' t'' d

    same : ◌≡◌ {A = Answer × List ℕ} (record { end = end''; state = p''.state }, t'') (record { end = end; state = p'.state }, t')
    same =
        one_answer_run g.budget (fixed_for l l.before g) l.before _ _
        (along_one_run l g.messages p' t' a' g [] m' ok' end'' p'' t'' d on)
        (along_one_run l messages p t (along l s) g added m ok end p' t' c on)
