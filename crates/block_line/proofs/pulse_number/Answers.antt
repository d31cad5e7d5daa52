-- The widths first, then the form, then the placing.
use mathlib.Core.Path.{sym, ◌∙◌}
use Rattle.instruction.specs.Rules.{current}
use Rattle.block_line.proofs.Numbers.{pulse_wide, pulse_formed, pulse_placed}
use Rattle.block_line.proofs.pulse_number.Goals as goal

pub returns-then-not-waveform_fits : goal.returns-then-not-waveform_fits
returns-then-not-waveform_fits c = pulse_wide c.args.wave.0 c.args.f
    (sym c.waveform_fits.ensures ∙ c.if-not-waveform_fits.true)

pub returns-then-form-ne0 : goal.returns-then-form-ne0
returns-then-form-ne0 c = pulse_formed c.args.wave.0 c.args.f
    (sym c.waveform_fits.ensures ∙ c.if-not-waveform_fits.false)
    (c.told-form.ensures ∙ c.form.ensures current) c.if-form-ne0.true

pub returns : goal.returns
returns c = c.told.ensures ∙ c.placing.ensures
    ∙ pulse_placed c.args.wave.0 c.args.f
    (sym c.waveform_fits.ensures ∙ c.if-not-waveform_fits.false)
    (c.told-form.ensures ∙ c.form.ensures current) c.if-form-ne0.false
