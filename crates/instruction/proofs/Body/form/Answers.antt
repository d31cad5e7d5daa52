-- Each arm is the form of its name.
use Rattle.instruction.proofs.Body.form.Goals as goal

pub returns-in-Waveform : goal.returns-in-Waveform
returns-in-Waveform c = rw c.in-Waveform.is (c.form.ensures c.args.rules)

pub returns-in-Wait : goal.returns-in-Wait
returns-in-Wait c = rw c.in-Wait.is (c.wait_form.ensures c.args.rules)

pub returns-in-Sync : goal.returns-in-Sync
returns-in-Sync c = rw c.in-Sync.is (c.wait_form-in-Sync.ensures c.args.rules)

pub returns-in-Modulator : goal.returns-in-Modulator
returns-in-Modulator c = rw c.in-Modulator.is (c.form-in-Modulator.ensures c.args.rules)

pub returns-in-Prefetch : goal.returns-in-Prefetch
returns-in-Prefetch c = rw c.in-Prefetch.is (c.prefetch_form.ensures c.args.rules)
