-- By the first double, or by a search.
use Rattle.to_addresses.proofs.Judging.{double_is}
use Rattle.to_addresses.proofs.is_doubled.Goals as goal

pub returns-in-Some : goal.returns-in-Some
returns-in-Some c = double_is c.args.text.now c.args.known c.args.j c.args.name.now c.requires c.in-Some.is
