-- Line after line.
use Prim.Native.Nat.{ℕ}
use mathlib.Core.Path.{sym, subst}
use Rattle.reader.specs.Reading.{reading_of}
use Rattle.buffer.specs.Put.{Fits, Put}
use Rattle.text.specs.Line.{number, line_text}
use Rattle.listing.specs.Listing.{entries_in}
use Rattle.listing.proofs.Lines.{laid_fits, laid_next}
use Rattle.listing.proofs.put_lines.Goals as goal

pub put_line-end-requires : goal.put_line-end-requires
put_line-end-requires c = subst (λ (x : ℕ). Fits (line_text (number c.loop-a.a) (entries_in (reading_of c.args.rules x))) c.loop-a.page c.loop-a.end) (sym c.word_at.ensures) (laid_fits c.args.rules c.args.bytes.now c.args.n c.args.page.now c.args.at c.requires.0 c.loop-a.invariant c.loop-a-test.true)

pub loop-a-preserved : goal.loop-a-preserved
loop-a-preserved c = laid_next c.args.rules c.args.bytes.now c.args.n c.args.page.now c.args.at c.requires.0 c.loop-a.invariant c.loop-a-test.true (subst (λ (x : ℕ). Put (line_text (number c.loop-a.a) (entries_in (reading_of c.args.rules x))) c.loop-a.page c.loop-a.end c.put_line-end.new.page c.put_line-end.result) c.word_at.ensures c.put_line-end.ensures)
