use Rattle.std.proofs.Common.{refl}
use Rattle.h3_streams.proofs.Rows.{written_here, written_others}
use Rattle.h3_streams.specs.Plain.{code_at}
use Rattle.h3_streams.specs.declared.plain.Place.TheVariants.{Open}
use Rattle.h3_streams.proofs.plain.PlainStreams.put.Goals as goal

pub returns-clause-put : goal.returns-clause-put
returns-clause-put c =
    let code = code_at c.args.self.now.codes.items in
    let has = c.in-Some.ensures.some in
    λ done. rw has.0 (record {
      here = written_here code c.args.self.now.first c.args.id c.args.self.now.row.items (Open c.args.role) has.1.0 has.1.1;
      others = written_others code code c.args.self.now.first c.args.id c.args.self.now.row.items (Open c.args.role) has.1.0 (λ q ne. refl);
    })
