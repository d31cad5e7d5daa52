-- Laws of the definitions of flow and messages: what each comes to under its tests, and how an answer meets its promise.
-- Assumes nothing.
use mathlib.Core.Path.{◌≡◌, refl, ap}
use mathlib.Core.Bool.{true, false}
use mathlib.Core.List.{List, []}
use Prim.Native.Nat.{ℕ, ◌+◌, ◌-◌, ◌≤◌, ◌<◌}
use borrow.Author.Tests.{lt-ltb, le-ltb}
use lib.Dec.{ltb}
use lib.ListN.{length, get_or}
use Rattle.dispatch.proofs.Counts.{picks}
use Rattle.jumps.specs.State.{Did, state_of, with_message, with_core, stop, moves, stopped}
use Rattle.jumps.specs.Lent.{Done}
use Rattle.jumps.specs.Jumps.{nexts, acts, cleared, pushed, call_of, popped, return_of, message_of}
use Rattle.jumps.specs.declared.Core.{Core}
use Rattle.jumps.specs.declared.State.{State}
use Rattle.jumps.specs.declared.Stepped.{Stepped}

-- ---- answers

pub moved_done : {r : Stepped} {core : Core} {rs cs ws ts : List ℕ} → r ≡ stopped 0 core → Done (moves (state_of core rs cs ws ts)) r rs cs ws ts
moved_done {rs = rs} {cs = cs} {ws = ws} {ts = ts} e =
    record { end = ap (λ (x : Stepped). x.end) e; state = ap (λ (x : Stepped). state_of x.core rs cs ws ts) e }

pub stopped_done : {r : Stepped} {n : ℕ} {core : Core} {rs cs ws ts : List ℕ} → r ≡ stopped n core → Done (stop n (state_of core rs cs ws ts)) r rs cs ws ts
stopped_done {rs = rs} {cs = cs} {ws = ws} {ts = ts} e =
    record { end = ap (λ (x : Stepped). x.end) e; state = ap (λ (x : Stepped). state_of x.core rs cs ws ts) e }

-- ---- flow

pub call_not : (s : State) (a : ℕ) → acts s.core.condition ≡ false → call_of s a ≡ moves (with_core (nexts (cleared s.core)) s)
unfolding call_of
call_not s a p = rw p

pub call_full : (s : State) (a : ℕ) → acts s.core.condition ≡ true → 16 ≤ s.core.depth → call_of s a ≡ stop 31 s
unfolding call_of
call_full s a p h = rw (p, le-ltb s.core.depth 16 h)

pub call_taken : (s : State) (a : ℕ) → acts s.core.condition ≡ true → s.core.depth < 16 → call_of s a ≡ moves (pushed s a)
unfolding call_of
call_taken s a p h = rw (p, lt-ltb s.core.depth 16 h)

pub return_not : (s : State) → acts s.core.condition ≡ false → return_of s ≡ moves (with_core (nexts (cleared s.core)) s)
unfolding return_of
return_not s p = rw p

pub return_none : (s : State) → acts s.core.condition ≡ true → s.core.depth ≡ 0 → return_of s ≡ stop 32 s
unfolding return_of
return_none s p h = rw (p, h)

pub return_taken : (s : State) → acts s.core.condition ≡ true → 0 < s.core.depth → return_of s ≡ moves (popped s (s.core.depth - 1))
unfolding return_of
return_taken s p h = rw (p, lt-ltb 0 s.core.depth h)

pub message_none : (m : List ℕ) (s : State) → length m ≤ s.core.used → message_of m s ≡ stop 42 s
unfolding message_of
message_none m s h = rw (le-ltb s.core.used (length m) h)

pub message_taken : (m : List ℕ) (s : State) → s.core.used < length m
    → message_of m s ≡ moves (with_core (nexts (with_message (s.core.used + 1) (get_or m s.core.used 0) s.core)) s)
unfolding message_of
message_taken m s h = rw (lt-ltb s.core.used (length m) h)

-- ---- flow dispatches nothing

pub call_quiet : (s : State) (a : ℕ) → (call_of s a).out ≡ []
unfolding call_of
call_quiet s a = picks (λ (d : Did). d.out ≡ []) (acts s.core.condition) (λ _. picks (λ (d : Did). d.out ≡ []) (ltb s.core.depth 16) (λ _. refl) (λ _. refl)) (λ _. refl)

pub return_quiet : (s : State) → (return_of s).out ≡ []
unfolding return_of
return_quiet s = picks (λ (d : Did). d.out ≡ []) (acts s.core.condition) (λ _. picks (λ (d : Did). d.out ≡ []) (ltb 0 s.core.depth) (λ _. refl) (λ _. refl)) (λ _. refl)

pub message_quiet : (m : List ℕ) (s : State) → (message_of m s).out ≡ []
unfolding message_of
message_quiet m s = picks (λ (d : Did). d.out ≡ []) (ltb s.core.used (length m)) (λ _. refl) (λ _. refl)
