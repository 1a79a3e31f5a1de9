use Rattle.std.proofs.Common.{sym, ap, ◌∙◌, subst, None}
use Rattle.h3_header.specs.Head.{head_fields}
use Rattle.h3_connection.specs.Answers.{call_refused}
use Rattle.h3_connection.specs.State.{EndpointState}
use Rattle.h3_session.specs.Refused.{own_trailer_refused}
use Rattle.h3_session.specs.SendingLists.{SendsList, send_trailer_fields}
use Rattle.h3_session.proofs.SendingHeads.{trailer_closed, trailer_unreserved}
use Rattle.h3_session.proofs.SentAsLists.{own_trailer_is, trailer_by_list, trailer_refused_first}
use Rattle.h3_session.proofs.endpoint.Endpoint.send_trailer.Goals as goal

pub returns-in-Some : goal.returns-in-Some
returns-in-Some c = trailer_closed c.args.self.now c.args.id c.args.trailer.now (head_fields c.args.trailer.now) c.in-Some.code (ap (λ (s : EndpointState). s.closed) (sym c.self.view_is) ∙ c.in-Some.is)

pub returns-in-Some-header_refusal : goal.returns-in-Some-header_refusal
returns-in-Some-header_refusal c =
    trailer_refused_first c.args.self.now c.args.id c.args.trailer.now c.in-Some-header_refusal.later c.refusal_of_trailer.result (ap (λ (s : EndpointState). s.closed) (sym c.self.view_is) ∙ c.in_default.is)
    (sym c.in-Some-header_refusal.is ∙ own_trailer_is c.self.inside.announced c.args.trailer.now c.header_refusal.result c.header_refusal.ensures
    ∙ ap (λ (s : EndpointState). own_trailer_refused s.announced c.args.trailer.now) c.self.view_is) c.refusal_of_trailer.ensures

pub returns-in_default-fields : goal.returns-in_default-fields
returns-in_default-fields c =
    trailer_unreserved c.args.self.now c.unlisted_refusal.new.self c.args.id c.args.trailer.now (head_fields c.args.trailer.now) None c.unlisted_refusal.result (ap (λ (s : EndpointState). s.closed) (sym c.self.view_is) ∙ c.in_default.is)
    (sym c.in_default-header_refusal.is ∙ own_trailer_is c.self.inside.announced c.args.trailer.now c.header_refusal.result c.header_refusal.ensures
    ∙ ap (λ (s : EndpointState). own_trailer_refused s.announced c.args.trailer.now) c.self.view_is) c.unlisted_refusal.ensures.rest c.unlisted_refusal.ensures.same c.unlisted_refusal.ensures.why

pub returns : goal.returns
returns c =
    let own = own_trailer_is c.self.inside.announced c.args.trailer.now c.header_refusal.result c.header_refusal.ensures
    ∙ ap (λ (s : EndpointState). own_trailer_refused s.announced c.args.trailer.now) c.self.view_is in
    let sent = sym (sym c.in_default-header_refusal.is ∙ own) in
    let told = call_refused c.send_trailer_list.result in
    trailer_by_list c.args.self.now c.args.id c.args.trailer.now c.send_trailer_list.new.self told (ap (λ (s : EndpointState). s.closed) (sym c.self.view_is) ∙ c.in_default.is) sent c.heads_are_sent_as_their_lists.ensures.trailer
    (subst (λ fs. SendsList (λ e. send_trailer_fields e c.args.id fs) c.args.self.now c.send_trailer_list.new.self c.args.id fs told) (c.of.ensures ∙ c.as_slice.ensures.value ∙ c.in-Ok.ensures.value) c.send_trailer_list.ensures.sends)
