-- `Vec<u8>` as the logic holds it, for the clause on what is lent.
use Rattle.std.specs.Borrow.{RattleType}
use Rattle.std.specs.contracts.alloc.Global as global
use Rattle.std.specs.contracts.vec.Vec as vec
use Rattle.std.specs.contracts.impls.GlobalAllocator.TheImpl.{ghosts}
use Rattle.std.specs.Borrow.{u8}

abbrev pub bytes_row : RattleType
bytes_row = vec.the_row u8 global.the_row ghosts
