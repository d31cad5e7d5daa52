-- The header is written, and compared.
use mathlib.Core.Path.{sym, ◌∙◌}
use native.Mathlib.Omega.{arith}
use Rattle.listing_reader.proofs.Lines.{header_size, header_short, header_here, header_not}
use Rattle.listing_reader.proofs.header_end.Goals as goal

pub put_header-n-requires : goal.put_header-n-requires
put_header-n-requires c = omega (arith, header_size c.args.edition c.requires)

pub returns-then-text-n : goal.returns-then-text-n
returns-then-text-n c = header_short c.args.edition c.args.text.now _ c.put_header-n.ensures c.if-text-n.true

pub returns-then-same : goal.returns-then-same
returns-then-same c = header_here c.args.edition c.args.text.now _ c.put_header-n.ensures (sym c.same.ensures ∙ c.if-same.true)

pub returns : goal.returns
returns c = header_not c.args.edition c.args.text.now _ c.put_header-n.ensures (sym c.same.ensures ∙ c.if-same.false)
