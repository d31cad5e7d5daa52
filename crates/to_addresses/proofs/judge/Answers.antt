-- Line after line: those so far are good.
use borrow.Author.Rules.{rules}
use Prim.Native.Nat.{◌+◌}
use mathlib.Core.Path.{refl, sym, subst}
use Rattle.to_addresses.specs.declared.Passed.{Passed}
use Rattle.to_addresses.proofs.Verdicts.{Judging, judging_start, judging_bad, judging_next, judging_end}
use Rattle.to_addresses.proofs.judge.Goals as goal

pub loop-at-init : goal.loop-at-init
loop-at-init c = (judging_start c.args.text.now c.args.keys.now c.args.table.now c.args.known c.args.room c.requires.0 c.args.notes.now, refl)

pub returns-then-told-ne0 : goal.returns-then-told-ne0
returns-then-told-ne0 c = judging_bad c.args.text.now c.args.keys.now c.args.table.now c.args.known c.args.room c.requires.0 c.loop-at.invariant.0 c.loop-at-test.true c.find-end.ensures c.weigh-told.ensures c.if-told-ne0.true

pub loop-at-preserved : goal.loop-at-preserved
loop-at-preserved c = (subst (λ (p : Passed). Judging c.args.text.now c.args.known c.args.room (c.find-end.result + 1) p c.weigh-told.result.room c.keep_note.new.notes) (sym c.pass-past.ensures) (judging_next c.args.text.now c.args.keys.now c.args.table.now c.args.known c.args.room c.requires.0 c.loop-at.invariant.0 c.loop-at-test.true c.find-end.ensures c.weigh-told.ensures c.if-told-ne0.false c.keep_note.ensures), search rules)

pub returns : goal.returns
returns c = judging_end c.args.text.now c.args.keys.now c.args.table.now c.args.known c.args.room c.requires.0 c.loop-at.invariant.0 c.loop-at-test.false
