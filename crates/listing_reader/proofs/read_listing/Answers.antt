-- Judged, and then filled.
use Rattle.listing_reader.proofs.Lines.{not_headed, reads_whole, reads_refused}
use Rattle.listing_reader.proofs.read_listing.Goals as goal

pub returns-in_default : goal.returns-in_default
returns-in_default c = not_headed c.args.rules c.args.text.now c.args.words.now c.in_default.ensures

pub returns-then-told-eq0 : goal.returns-then-told-eq0
returns-then-told-eq0 c = reads_whole c.args.rules c.args.text.now c.args.words.now c.in-Some.ensures c.judge-told.ensures c.if-told-eq0.true c.fill.ensures

pub returns-else-told-eq0 : goal.returns-else-told-eq0
returns-else-told-eq0 c = reads_refused c.args.rules c.args.text.now c.args.words.now c.in-Some.ensures c.judge-told.ensures c.if-told-eq0.false
