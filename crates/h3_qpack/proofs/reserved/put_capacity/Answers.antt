use Rattle.h3_qpack.proofs.RoomNeeded.{capacity_fits}
use Rattle.h3_qpack.proofs.reserved.put_capacity.Goals as goal

pub put-requires-clause-room : goal.put-requires-clause-room
put-requires-clause-room c = capacity_fits _ _ _ c.requires.small c.requires.room
