-- All that the form of a play asks.
use Rattle.reader.proofs.Laws.{play_passes}
use borrow.Author.Rules.{rules}
use Rattle.reader.proofs.plays_well.Goals as goal

pub returns : goal.returns
returns c rules = play_passes rules c.args.word _ c.spelled_by-f.result c.requires c.has_unnamed.ensures c.spelled_by-f.ensures
