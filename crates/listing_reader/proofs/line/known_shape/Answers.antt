-- The numbers are gathered in the front of what is lent.
use native.Mathlib.Omega.{arith}
use Rattle.fields.proofs.Gathered.{lent_front}
use Rattle.listing_reader.proofs.Fields.{count_small, gathered_good}
use Rattle.listing_reader.proofs.line.known_shape.Goals as goal

pub returns : goal.returns
returns c =
    let few = count_small c.args.row c.requires.1 in
    gathered_good c.args.row c.args.address c.args.a c.requires.1 _ c.field_count.ensures
    (lent_front (omega (arith, few, c.field_count.ensures, c.requires.2)) c.read_numbers.ensures) c.if-not-read_numbers.false c.if-address-a.false
