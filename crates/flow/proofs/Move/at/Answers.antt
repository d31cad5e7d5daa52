-- Each arm is the move of what its code spells.
use mathlib.Core.Path.{ap, ◌∙◌}
use Rattle.flow.specs.declared.Move.TheVariants.{Loop, Jump, Enter}
use Rattle.flow.proofs.Codes.{move_at_lem, move_other}
use Rattle.flow.proofs.Move.at.Goals as goal

pub returns-in-4 : goal.returns-in-4
returns-in-4 c = ap Loop c.spelled_by-to.ensures ∙ move_at_lem c.args.word c.code_in.ensures c.in-4.is

pub returns-in-5 : goal.returns-in-5
returns-in-5 c = move_at_lem c.args.word c.code_in.ensures c.in-5.is

pub returns-in-6 : goal.returns-in-6
returns-in-6 c = ap Jump c.spelled_by-to.ensures ∙ move_at_lem c.args.word c.code_in.ensures c.in-6.is

pub returns-in-7 : goal.returns-in-7
returns-in-7 c = ap Enter c.spelled_by-to.ensures ∙ move_at_lem c.args.word c.code_in.ensures c.in-7.is

pub returns-in-8 : goal.returns-in-8
returns-in-8 c = move_at_lem c.args.word c.code_in.ensures c.in-8.is

pub returns-in_default : goal.returns-in_default
returns-in_default c = let r = c.in_default.in_default-own.rest in move_other c.args.word c.code_in.ensures r.0.0.0.0.1 r.0.0.0.1 r.0.0.1 r.0.1 r.1
