-- By the table, which passed the look, or line by line.
use Rattle.to_addresses.proofs.Seeking.{sought_none, sought_here}
use Rattle.to_addresses.proofs.find_label.Goals as goal

pub returns-then-keys-first : goal.returns-then-keys-first
returns-then-keys-first c = sought_none c.args.text.now c.args.keys.now c.args.table.now c.requires.0 c.in-Some.is c.args.name.now c.requires.1 c.pack-k.ensures c.seek-first.ensures c.if-keys-first.true

pub returns : goal.returns
returns c = sought_here c.args.text.now c.args.keys.now c.args.table.now c.requires.0 c.in-Some.is c.args.name.now c.requires.1 c.pack-k.ensures c.seek-first.ensures c.if-keys-first.false c.means_at-means.ensures
