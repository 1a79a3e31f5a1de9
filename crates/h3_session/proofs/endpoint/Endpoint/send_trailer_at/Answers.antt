use Rattle.std.proofs.Common.{None, refl, sym}
use Rattle.h3_connection.specs.declared.place.SendPlace.TheVariants.{TrailerSent}
use Rattle.h3_session.proofs.InvalidFields.{section_names, trailer_judged_names}
use Rattle.h3_session.proofs.SendingHeads.{trailer_judged, trailer_sent_judged}
use Rattle.h3_session.proofs.SentAnswers.{read_alike}
use Rattle.h3_session.proofs.endpoint.Endpoint.send_trailer_at.Goals as goal

pub returns-in-Err-clause-sends : goal.returns-in-Err-clause-sends
returns-in-Err-clause-sends c = λ trailer sent.
    trailer_judged c.args.self.now c.reserve_trailer.new.self c.args.id trailer c.args.fields.now c.in-Err.refusal c.judged_or.result c.requires.open sent
    c.reserve_trailer.ensures.rest c.reserve_trailer.ensures.same c.in-Err.ensures.why c.judged_or.ensures

pub returns-in-Err-clause-names : goal.returns-in-Err-clause-names
returns-in-Err-clause-names c = λ trailer reads.
    trailer_judged_names c.args.self.now c.reserve_trailer.new.self c.args.fields.now TrailerSent c.reserve_trailer.ensures.rest trailer reads c.args.id c.in-Err.refusal c.judged_or.result c.in-Err.ensures.why c.judged_or.ensures

pub returns-clause-sends : goal.returns-clause-sends
returns-clause-sends c = λ trailer sent.
    trailer_sent_judged c.args.self.now c.reserve_trailer.new.self c.send_trailer_section.new.self c.args.id trailer None c.args.fields.now c.args.fields.now c.send_trailer_section.result c.requires.open (sym sent)
    c.reserve_trailer.ensures.rest c.reserve_trailer.ensures.same c.in-Ok.ensures.taken refl (rw c.in-Ok.ensures.room at c.send_trailer_section.ensures)

pub returns-clause-names : goal.returns-clause-names
returns-clause-names c = λ trailer reads.
    section_names c.args.self.now c.reserve_trailer.new.self c.args.fields.now TrailerSent c.reserve_trailer.ensures.rest trailer reads (λ e. e) c.send_trailer_section.new.self c.in-Ok.room _
    c.send_trailer_section.ensures

pub judged_or-requires : goal.judged_or-requires
judged_or-requires c = read_alike TrailerSent c.args.self.now c.reserve_trailer.new.self c.args.fields.now c.args.read.now c.reserve_trailer.ensures.rest c.requires.read

pub send_trailer_section-requires : goal.send_trailer_section-requires
send_trailer_section-requires c = read_alike TrailerSent c.args.self.now c.reserve_trailer.new.self c.args.fields.now c.args.read.now c.reserve_trailer.ensures.rest c.requires.read
