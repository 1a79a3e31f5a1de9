use Rattle.h3_qpack.proofs.RoomNeeded.{increment_fits}
use Rattle.h3_qpack.proofs.reserved.put_increment.Goals as goal

pub put-requires-clause-room : goal.put-requires-clause-room
put-requires-clause-room c = increment_fits _ _ _ c.requires.few c.requires.room
