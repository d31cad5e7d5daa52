-- One line that refuses, or the header and the lines.
use mathlib.Core.Path.{sym, subst}
use mathlib.Core.List.{List}
use Prim.Native.Nat.{ℕ, ◌/◌}
use native.Mathlib.Omega.{arith}
use lib.ListN.{length}
use Rattle.buffer.specs.Put.{Fits, Put}
use Rattle.buffer.proofs.Laws.{fits_first, fits_next, puts_both}
use Rattle.text.specs.Line.{text_of}
use Rattle.instruction.specs.Word.{word_bytes}
use Rattle.listing.specs.Listing.{lines_from, header_text}
use Rattle.listing.proofs.Lines.{listing_8, listing_9, listing_lines}
use Rattle.listing.proofs.Room.{listing_short}
use Rattle.listing.proofs.lay_out.Goals as goal

pub put_pair-requires : goal.put_pair-requires
put_pair-requires c = (subst (λ (t : List ℕ). Fits t c.args.page.now 0) (listing_8 c.args.rules c.args.bytes.now c.if-bytes-ne0.true) (omega (arith, listing_short c.args.rules c.args.bytes.now, c.requires)))

pub returns-then-bytes-ne0 : goal.returns-then-bytes-ne0
returns-then-bytes-ne0 c = subst (λ (t : List ℕ). Put t c.args.page.now 0 c.put_pair.new.page c.put_pair.result) (sym (listing_8 c.args.rules c.args.bytes.now c.if-bytes-ne0.true)) c.put_pair.ensures

pub put_pair-requires-then-n-gt-WORDS : goal.put_pair-requires-then-n-gt-WORDS
put_pair-requires-then-n-gt-WORDS c = (subst (λ (t : List ℕ). Fits t c.args.page.now 0) (listing_9 c.args.rules c.args.bytes.now c.if-bytes-ne0.false c.if-n-gt-WORDS.true) (omega (arith, listing_short c.args.rules c.args.bytes.now, c.requires)))

pub returns-then-n-gt-WORDS : goal.returns-then-n-gt-WORDS
returns-then-n-gt-WORDS c = subst (λ (t : List ℕ). Put t c.args.page.now 0 c.put_pair-then-n-gt-WORDS.new.page c.put_pair-then-n-gt-WORDS.result) (sym (listing_9 c.args.rules c.args.bytes.now c.if-bytes-ne0.false c.if-n-gt-WORDS.true)) c.put_pair-then-n-gt-WORDS.ensures

pub put_header-from-requires : goal.put_header-from-requires
put_header-from-requires c = fits_first header_text (text_of (lines_from c.args.rules c.args.bytes.now 0 (length c.args.bytes.now / word_bytes))) c.args.page.now 0 (subst (λ (t : List ℕ). Fits t c.args.page.now 0) (listing_lines c.args.rules c.args.bytes.now c.if-bytes-ne0.false c.if-n-gt-WORDS.false) (omega (arith, listing_short c.args.rules c.args.bytes.now, c.requires)))

pub put_lines-requires : goal.put_lines-requires
put_lines-requires c = (fits_next header_text (text_of (lines_from c.args.rules c.args.bytes.now 0 (length c.args.bytes.now / word_bytes))) c.args.page.now 0 (subst (λ (t : List ℕ). Fits t c.args.page.now 0) (listing_lines c.args.rules c.args.bytes.now c.if-bytes-ne0.false c.if-n-gt-WORDS.false) (omega (arith, listing_short c.args.rules c.args.bytes.now, c.requires))) c.put_header-from.ensures, omega (arith, c.if-bytes-ne0.false))

pub returns : goal.returns
returns c = subst (λ (t : List ℕ). Put t c.args.page.now 0 c.put_lines.new.page c.put_lines.result) (sym (listing_lines c.args.rules c.args.bytes.now c.if-bytes-ne0.false c.if-n-gt-WORDS.false)) (puts_both header_text (text_of (lines_from c.args.rules c.args.bytes.now 0 (length c.args.bytes.now / word_bytes))) c.args.page.now 0 (subst (λ (t : List ℕ). Fits t c.args.page.now 0) (listing_lines c.args.rules c.args.bytes.now c.if-bytes-ne0.false c.if-n-gt-WORDS.false) (omega (arith, listing_short c.args.rules c.args.bytes.now, c.requires))) c.put_header-from.ensures c.put_lines.ensures)
