-- The worked block, by computing.
-- Assumes nothing.
use mathlib.Core.Path.{refl}
use Rattle.instruction.specs.Form.{form_of}
use Rattle.instruction.specs.Word.{word_of, fits_of}
use Rattle.sequence.specs.Placing.{placing_of}
use Rattle.text.specs.Line.{decimal}
use Rattle.writer.specs.Writing.{asked_of}
use Rattle.nest.specs.Block.{pulse_number}
use Rattle.nest.specs.Layout.{words_of}
use Rattle.block_line.specs.Line.{line_of, line_number, level_after}
use Rattle.block.specs.Text.{judged, room_refused, fitted, translation}
use Rattle.played.specs.Worked.{WorkedBlock}

pub worked_block : WorkedBlock
unfolding form_of word_of fits_of placing_of decimal asked_of pulse_number words_of line_of line_number level_after judged room_refused fitted translation
worked_block = (refl, refl, refl, refl, refl)
