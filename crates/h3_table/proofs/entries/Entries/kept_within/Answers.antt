use Rattle.std.proofs.Common.{arith}
use Rattle.h3_table.specs.TableLaws.{section_size-table}
use Rattle.h3_table.proofs.Evictions.{table-whole}
use Rattle.h3_table.proofs.entries.Entries.kept_within.Goals as goal

pub returns-then-self-room-clause-most : goal.returns-then-self-room-clause-most
returns-then-self-room-clause-most c = omega (arith, section_size-table c.args.room c.args.self.now.entries)

pub returns-else-self-room-clause-most : goal.returns-else-self-room-clause-most
returns-else-self-room-clause-most c =
    let whole = table-whole c.args.room c.self.inside.fields.fields (omega (arith, c.self.invariant.sum, c.if-self-room.false)) in
    rw (← c.self.view_is) (rw whole (omega (arith, c.byte_count.ensures)))
