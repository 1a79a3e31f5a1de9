use Rattle.std.proofs.Common.{sym, ◌∙◌}
use Rattle.h3_connection.specs.Answers.{call_refused}
use Rattle.h3_header.specs.HeadRead.{head_by}
use Rattle.h3_session.proofs.InvalidFields.{still_names, trailer_at_names, trailer_names}
use Rattle.h3_session.proofs.JudgedPlaces.{trailer_at, trailer_refusal_is}
use Rattle.h3_session.proofs.Lists.{trailer_list_refused, trailer_list_sent}
use Rattle.h3_session.proofs.SentAnswers.{trailer_read}
use Rattle.h3_session.proofs.endpoint.Endpoint.send_trailer_list.Goals as goal

pub returns-in-Err-clause-sends : goal.returns-in-Err-clause-sends
returns-in-Err-clause-sends c =
    let read = head_by c.args.self.now.announced.choices.extensions.any_protocol c.args.fields.now in
    trailer_list_refused c.args.self.now c.args.id c.args.fields.now c.in-Err.later c.refusal_of_trailer.result c.requires
    (λ differs. sym (trailer_refusal_is read) ∙ c.in-Err.ensures.err differs) c.in-Err.ensures.memory c.refusal_of_trailer.ensures

pub returns-in-Err-clause-names : goal.returns-in-Err-clause-names
returns-in-Err-clause-names c =
    let read = head_by c.args.self.now.announced.choices.extensions.any_protocol c.args.fields.now in
    trailer_names c.args.self.now.announced.choices c.args.fields.now _ c.in-Err.later c.refusal_of_trailer.result
    (λ differs. sym (trailer_refusal_is read) ∙ c.in-Err.ensures.err differs) c.refusal_of_trailer.ensures

pub returns-clause-sends : goal.returns-clause-sends
returns-clause-sends c =
    let read = head_by c.args.self.now.announced.choices.extensions.any_protocol c.args.fields.now in
    trailer_list_sent c.args.self.now c.args.id c.args.fields.now c.send_trailer_at.new.self c.send_trailer_at.result
    (trailer_at read c.in-Ok.read.outline c.in-Ok.ensures.outline c.in-Ok.ensures.place) c.send_trailer_at.ensures.sends

pub returns-clause-names : goal.returns-clause-names
returns-clause-names c =
    let read = head_by c.args.self.now.announced.choices.extensions.any_protocol c.args.fields.now in
    let is_trailer = trailer_at read c.in-Ok.read.outline c.in-Ok.ensures.outline c.in-Ok.ensures.place in
    let sends = trailer_list_sent c.args.self.now c.args.id c.args.fields.now c.send_trailer_at.new.self c.send_trailer_at.result is_trailer c.send_trailer_at.ensures.sends in
    still_names c.args.self.now c.send_trailer_at.new.self c.args.fields.now (call_refused c.send_trailer_at.result) sends.same
    (trailer_at_names c.args.self.now c.args.fields.now (call_refused c.send_trailer_at.result) is_trailer c.send_trailer_at.ensures.names)

pub send_trailer_at-requires-clause-read : goal.send_trailer_at-requires-clause-read
send_trailer_at-requires-clause-read c = trailer_read c.args.self.now c.args.fields.now c.in-Ok.read c.in-Ok.ensures.read
