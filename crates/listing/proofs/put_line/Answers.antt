-- The address, and what the reading tells.
use mathlib.Core.Path.{subst, sym}
use Rattle.reader.specs.Reading.{Reading, reading_of}
use Rattle.reader.proofs.Coarse.{put_together}
use Rattle.buffer.specs.Put.{Fits, Put}
use Rattle.text.specs.Line.{decimal, rest_text}
use Rattle.listing.specs.Listing.{entries_in}
use Rattle.buffer.proofs.Laws.{fits_next, puts_both}
use Rattle.listing.proofs.put_line.Goals as goal

pub put_reading-requires : goal.put_reading-requires
put_reading-requires c = subst (λ (q : Reading). Fits (rest_text (entries_in q)) c.put_number-told.new.page c.put_number-told.result) (sym (put_together c.args.rules c.args.word c.judged_by-reading.ensures c.coarse_of.ensures c.instruction_in.ensures)) (fits_next (decimal c.args.address) (rest_text (entries_in (reading_of c.args.rules c.args.word))) c.args.page.now c.args.at c.requires c.put_number-told.ensures)

pub returns : goal.returns
returns c = puts_both (decimal c.args.address) (rest_text (entries_in (reading_of c.args.rules c.args.word))) c.args.page.now c.args.at c.requires c.put_number-told.ensures (subst (λ (q : Reading). Put (rest_text (entries_in q)) c.put_number-told.new.page c.put_number-told.result c.put_reading.new.page c.put_reading.result) (put_together c.args.rules c.args.word c.judged_by-reading.ensures c.coarse_of.ensures c.instruction_in.ensures) c.put_reading.ensures)
