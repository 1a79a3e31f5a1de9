-- A read of bytes that came.
use Rattle.std.proofs.Common.{refl}
use Rattle.h3_c.specs.ReadsBeside.{ReadsNextBeside}
use Rattle.h3_c.proofs.Reading.{goes_on}
use Rattle.h3_c.proofs.connection.Connection.read.Goals as goal

pub returns-clause-reads : goal.returns-clause-reads
returns-clause-reads c =
    goes_on (λ v i. ReadsNextBeside v c.read_on.new.self i c.args.bytes.now c.args.fin c.read_on.result c.args.item.now c.read_on.new.item c.read_on.new.used)
    c.args.id c.in-Ok.stream c.read_on.result c.args.self.now c.args.self.now c.read_on.new.self refl c.in-Ok.ensures.ok.0 c.in-Ok.ensures.ok.1 c.in-Ok.ensures.ok.2 c.read_on.ensures
