-- Part by part.
use mathlib.Core.Path.{refl, sym, ◌∙◌}
use Rattle.jumps.specs.State.{fixed_by}
use Rattle.left.proofs.Laws.{core_known, group_known, core_bad, stack_bad, group_bad, counts_decide}
use Rattle.left.proofs.could_be_left.Goals as goal

pub returns-then-not-core_fits : goal.returns-then-not-core_fits
returns-then-not-core_fits c = let a = c.args in
    sym (core_bad (fixed_by c.args.words.now c.args.messages.now c.args.room c.args.setting) a.budget a.s (sym (c.core_fits.ensures (fixed_by c.args.words.now c.args.messages.now c.args.room c.args.setting) refl refl refl) ∙ c.if-not-core_fits.true))

pub stack_fits-requires : goal.stack_fits-requires
stack_fits-requires c = let a = c.args in
    (core_known (fixed_by c.args.words.now c.args.messages.now c.args.room c.args.setting) a.s.core a.budget (sym (c.core_fits.ensures (fixed_by c.args.words.now c.args.messages.now c.args.room c.args.setting) refl refl refl) ∙ c.if-not-core_fits.false)).1

pub returns-then-not-stack_fits : goal.returns-then-not-stack_fits
returns-then-not-stack_fits c = let a = c.args in
    sym (stack_bad (fixed_by c.args.words.now c.args.messages.now c.args.room c.args.setting) a.budget a.s (sym (c.core_fits.ensures (fixed_by c.args.words.now c.args.messages.now c.args.room c.args.setting) refl refl refl) ∙ c.if-not-core_fits.false) (sym c.stack_fits.ensures ∙ c.if-not-stack_fits.true))

pub group_fits-requires : goal.group_fits-requires
group_fits-requires c = let a = c.args in
    (core_known (fixed_by c.args.words.now c.args.messages.now c.args.room c.args.setting) a.s.core a.budget (sym (c.core_fits.ensures (fixed_by c.args.words.now c.args.messages.now c.args.room c.args.setting) refl refl refl) ∙ c.if-not-core_fits.false)).0

pub returns-then-not-group_fits : goal.returns-then-not-group_fits
returns-then-not-group_fits c = let a = c.args in
    sym (group_bad (fixed_by c.args.words.now c.args.messages.now c.args.room c.args.setting) a.budget a.s (sym (c.core_fits.ensures (fixed_by c.args.words.now c.args.messages.now c.args.room c.args.setting) refl refl refl) ∙ c.if-not-core_fits.false) (sym c.stack_fits.ensures ∙ c.if-not-stack_fits.false) (sym (c.group_fits.ensures c.args.messages.now c.args.room) ∙ c.if-not-group_fits.true))

pub overflow_sub-c : goal.overflow_sub-c
overflow_sub-c c = let a = c.args in
    (group_known (fixed_by c.args.words.now c.args.messages.now c.args.room c.args.setting) a.s.core (sym (c.group_fits.ensures c.args.messages.now c.args.room) ∙ c.if-not-group_fits.false)).1

pub returns : goal.returns
returns c = let a = c.args in
    c.counts_fit.ensures
    ∙ sym (counts_decide (fixed_by c.args.words.now c.args.messages.now c.args.room c.args.setting) a.budget a.s (sym (c.core_fits.ensures (fixed_by c.args.words.now c.args.messages.now c.args.room c.args.setting) refl refl refl) ∙ c.if-not-core_fits.false) (sym c.stack_fits.ensures ∙ c.if-not-stack_fits.false) (sym (c.group_fits.ensures c.args.messages.now c.args.room) ∙ c.if-not-group_fits.false))
