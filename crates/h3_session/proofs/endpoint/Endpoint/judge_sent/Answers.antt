use Rattle.std.proofs.Common.{◌≡◌, false, Some, ap, sym, subst, ◌∙◌}
use Rattle.h3_connection.specs.State.{EndpointState}
use Rattle.h3_header.specs.HeadRead.{head_by}
use Rattle.h3_messages.specs.Judging.{IsUnread}
use Rattle.h3_messages.specs.Outline.{IsOutlined, is_outline_of, refusal_by}
use Rattle.h3_session.proofs.JudgedPlaces.{other_section, told_malformed}
use Rattle.h3_session.specs.JudgedLists.{list_refusal}
use Rattle.h3_session.proofs.endpoint.Endpoint.judge_sent.Goals as goal

pub returns-then-not-is_of-clause-err : goal.returns-then-not-is_of-clause-err
returns-then-not-is_of-clause-err c = λ differs.
    let fields = c.args.fields.now in
    let outline = c.in-Ok.read.outline in
    let read = head_by c.args.self.now.announced.choices.extensions.any_protocol fields in
    let outlined =
    subst (λ (s : EndpointState). IsOutlined (head_by s.announced.choices.extensions.any_protocol fields) outline) c.self.view_is
    c.in-Ok.ensures.outline in
    let none : is_outline_of c.args.section outline ≡ false = cc in
    other_section c.args.section read outline outlined none ∙ ap Some (sym c.misplaced.ensures)

pub returns-in-Err-clause-err : goal.returns-in-Err-clause-err
returns-in-Err-clause-err c = λ differs.
    let fields = c.args.fields.now in
    let unread =
    subst (λ (s : EndpointState). IsUnread s.announced.choices.extensions.any_protocol fields c.in-Err.e) c.self.view_is
    c.in-Err.ensures.unread in
    told_malformed (refusal_by c.in-Err.e) c.refusal_of.result c.refusal_of.ensures.why c.refusal_of.ensures.none differs
    (λ why some is. ap (list_refusal c.args.section) (unread.0 why some) ∙ ap Some (sym is))
