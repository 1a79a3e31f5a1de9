use Rattle.h3_session.proofs.SectionsSent.{section_malformed}
use Rattle.h3_session.proofs.endpoint.Endpoint.send_trailer_section.Goals as goal
use Rattle.h3_connection.specs.declared.place.SendPlace.TheVariants.{TrailerSent}

pub returns-in-Err : goal.returns-in-Err
returns-in-Err c = section_malformed c.args.self.now c.args.room c.args.fields.now TrailerSent c.in-Err.why (c.in-Err.ensures.broken TrailerSent c.args.fields.now c.requires)

pub send_section-requires : goal.send_section-requires
send_section-requires c = c.in-Ok.ensures.kept TrailerSent c.args.fields.now c.requires
