use Rattle.std.proofs.Common.{sym, ap, ◌∙◌, subst, Some, None}
use Rattle.h3_header.specs.Head.{head_fields}
use Rattle.h3_connection.specs.Answers.{call_refused}
use Rattle.h3_connection.specs.State.{EndpointState}
use Rattle.h3_session.specs.Refused.{own_head_refused}
use Rattle.h3_session.specs.SendingLists.{SendsList, send_fields}
use Rattle.h3_session.proofs.SendingHeads.{head_closed, head_refused_first}
use Rattle.h3_session.proofs.SentAsLists.{head_by_list, own_head_is}
use Rattle.h3_session.proofs.endpoint.Endpoint.send_head.Goals as goal

pub returns-in-Some : goal.returns-in-Some
returns-in-Some c = head_closed c.args.self.now c.args.id c.args.head.now (head_fields c.args.head.now) c.in-Some.code (ap (λ (s : EndpointState). s.closed) (sym c.self.view_is) ∙ c.in-Some.is)

pub returns-in-Some-header_refusal : goal.returns-in-Some-header_refusal
returns-in-Some-header_refusal c =
    head_refused_first c.args.self.now c.args.id c.args.head.now (head_fields c.args.head.now) (Some c.in-Some-header_refusal.later) c.refusal_of_head.result (ap (λ (s : EndpointState). s.closed) (sym c.self.view_is) ∙ c.in_default.is)
    (sym c.in-Some-header_refusal.is ∙ own_head_is c.self.inside.announced c.self.inside.side c.args.head.now c.head_section-section.result c.header_refusal.result c.header_refusal.ensures c.head_section-section.ensures
    ∙ ap (λ (s : EndpointState). own_head_refused s.announced s.side c.args.head.now) c.self.view_is) c.refusal_of_head.ensures

pub returns-in_default-fields : goal.returns-in_default-fields
returns-in_default-fields c =
    head_refused_first c.args.self.now c.args.id c.args.head.now (head_fields c.args.head.now) None _ (ap (λ (s : EndpointState). s.closed) (sym c.self.view_is) ∙ c.in_default.is)
    (sym c.in_default-header_refusal.is ∙ own_head_is c.self.inside.announced c.self.inside.side c.args.head.now c.head_section-section.result c.header_refusal.result c.header_refusal.ensures c.head_section-section.ensures
    ∙ ap (λ (s : EndpointState). own_head_refused s.announced s.side c.args.head.now) c.self.view_is) c.refusal_of_head-in_default-fields.ensures

pub returns : goal.returns
returns c =
    let own = own_head_is c.self.inside.announced c.self.inside.side c.args.head.now c.head_section-section.result c.header_refusal.result c.header_refusal.ensures c.head_section-section.ensures
    ∙ ap (λ (s : EndpointState). own_head_refused s.announced s.side c.args.head.now) c.self.view_is in
    let sent = sym (sym c.in_default-header_refusal.is ∙ own) in
    let told = call_refused c.send_head_list.result in
    head_by_list c.args.self.now c.args.id c.args.head.now c.send_head_list.new.self told (ap (λ (s : EndpointState). s.closed) (sym c.self.view_is) ∙ c.in_default.is) sent c.heads_are_sent_as_their_lists.ensures.head
    (subst (λ fs. SendsList (λ e. send_fields e c.args.id fs) c.args.self.now c.send_head_list.new.self c.args.id fs told) (c.of.ensures ∙ c.as_slice.ensures.value ∙ c.in-Ok.ensures.value) c.send_head_list.ensures.sends)
