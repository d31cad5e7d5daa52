-- The address, then the count.
use mathlib.Core.Path.{refl}
use Rattle.block_line.proofs.Taking.{pulse_inside, address_none, count_none, pulse_taken}
use Rattle.block_line.proofs.take_pulse.Goals as goal

pub number_then-requires : goal.number_then-requires
number_then-requires c = (pulse_inside c.args.text.now c.args.at c.args.ta c.requires, refl)

pub returns-in_default : goal.returns-in_default
returns-in_default c = address_none c.args.text.now c.args.at c.args.ta c.requires c.in_default.ensures c.unshaped.ensures

pub returns-in_default-number_then : goal.returns-in_default-number_then
returns-in_default-number_then c = count_none c.args.text.now c.args.at c.args.ta c.requires c.in-Some.ensures c.in_default-number_then.ensures c.unshaped-in_default-number_then.ensures

pub returns : goal.returns
returns c = pulse_taken c.args.text.now c.args.at c.args.ta c.requires c.in-Some.ensures c.in-Some-number_then.ensures c.pulse-line.ensures
