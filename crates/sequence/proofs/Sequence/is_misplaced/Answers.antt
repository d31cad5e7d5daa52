-- Each arm is whether its name is refused.
use mathlib.Core.Path.{◌∙◌}
use Rattle.sequence.specs.Placing.{placing_of}
use Rattle.sequence.proofs.Laws.{wave_misplaced, word_misplaced}
use Rattle.sequence.proofs.Sequence.is_misplaced.Goals as goal

pub returns-in-Waveform : goal.returns-in-Waveform
returns-in-Waveform c = c.out_of_wave.ensures ∙ rw c.in-Waveform.is (wave_misplaced c.args.wave.0 c.args.n c.in-Waveform.f)

pub returns-in-Marker : goal.returns-in-Marker
unfolding placing_of
returns-in-Marker c = rw c.in-Marker.is

pub returns-in-Wait : goal.returns-in-Wait
unfolding placing_of
returns-in-Wait c = rw c.in-Wait.is

pub returns-in-LoadRepeat : goal.returns-in-LoadRepeat
unfolding placing_of
returns-in-LoadRepeat c = rw c.in-LoadRepeat.is

pub returns-in-Repeat : goal.returns-in-Repeat
unfolding placing_of
returns-in-Repeat c = c.out_of_words.ensures ∙ rw c.in-Repeat.is (word_misplaced c.args.n c.in-Repeat.a)

pub returns-in-Cmp : goal.returns-in-Cmp
unfolding placing_of
returns-in-Cmp c = rw c.in-Cmp.is

pub returns-in-Goto : goal.returns-in-Goto
unfolding placing_of
returns-in-Goto c = c.out_of_words-in-Goto.ensures ∙ rw c.in-Goto.is (word_misplaced c.args.n c.in-Goto.a)

pub returns-in-Call : goal.returns-in-Call
unfolding placing_of
returns-in-Call c = c.out_of_words-in-Call.ensures ∙ rw c.in-Call.is (word_misplaced c.args.n c.in-Call.a)

pub returns-in-Return : goal.returns-in-Return
unfolding placing_of
returns-in-Return c = rw c.in-Return.is

pub returns-in-Sync : goal.returns-in-Sync
unfolding placing_of
returns-in-Sync c = rw c.in-Sync.is

pub returns-in-Modulator : goal.returns-in-Modulator
unfolding placing_of
returns-in-Modulator c = rw c.in-Modulator.is

pub returns-in-LoadCmp : goal.returns-in-LoadCmp
unfolding placing_of
returns-in-LoadCmp c = rw c.in-LoadCmp.is

pub returns-in-Prefetch : goal.returns-in-Prefetch
unfolding placing_of
returns-in-Prefetch c = c.out_of_words-in-Prefetch.ensures ∙ rw c.in-Prefetch.is (word_misplaced c.args.n c.in-Prefetch.a)

pub returns-in-Noop : goal.returns-in-Noop
unfolding placing_of
returns-in-Noop c = rw c.in-Noop.is
