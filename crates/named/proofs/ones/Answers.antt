-- As many ones as the field has bits, moved up to its place.
use Rattle.named.proofs.Laws.{ones_up}
use Rattle.named.proofs.ones.Goals as goal

pub returns : goal.returns
returns c = ones_up c.args.f c.requires
