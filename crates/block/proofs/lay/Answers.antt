-- SYNC, the block, the park.
use Rattle.block.proofs.Whole.{sync_room, lay_asks, park_room}
use Rattle.block.proofs.lay.Goals as goal

pub put_sync-requires : goal.put_sync-requires
put_sync-requires c = sync_room c.args.text.now c.args.heads.now c.args.words.now c.requires

pub lay_block-requires : goal.lay_block-requires
lay_block-requires c = lay_asks c.args.text.now c.args.heads.now c.args.words.now c.requires c.put_sync.ensures

pub put_park-requires : goal.put_park-requires
put_park-requires c = park_room c.args.text.now c.args.heads.now c.args.words.now c.requires c.put_sync.ensures c.lay_block.ensures
