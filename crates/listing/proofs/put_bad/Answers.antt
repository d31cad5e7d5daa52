-- The name BAD, and the numbers.
use mathlib.Core.List.{◌∷◌, map}
use Rattle.text.specs.Cut.{tab}
use Rattle.text.specs.Line.{number, letters, rest_text}
use Rattle.buffer.proofs.Laws.{puts_both}
use Rattle.listing.specs.Listing.{bad_numbers}
use Rattle.listing.proofs.put_bad.Goals as goal

pub returns : goal.returns
returns c = puts_both (tab ∷ letters "BAD") (rest_text (map number (bad_numbers c.args.refusal))) c.args.page.now c.args.at c.requires c.put_word-named.ensures c.put_refusal.ensures
