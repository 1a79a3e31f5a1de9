use Rattle.std.proofs.Common.{◌≡◌, true, if◌then◌else◌, ap, sym, subst, ◌∙◌}
use Rattle.h3_connection.specs.Pulling.{is_interim}
use Rattle.h3_connection.specs.State.{EndpointState}
use Rattle.h3_connection.specs.declared.place.SendPlace.TheVariants.{HeadSent, NothingSent}
use Rattle.h3_header.specs.HeadRead.{head_by}
use Rattle.h3_messages.specs.Outline.{is_outline_of}
use Rattle.h3_session.proofs.JudgedPlaces.{head_at, head_refusal_is}
use Rattle.h3_session.proofs.Remembering.{before_trailer}
use Rattle.h3_session.proofs.SentAnswers.{head_read}
use Rattle.h3_session.specs.JudgedLists.{head_section, list_refusal}
use Rattle.h3_session.specs.SentHeads.{IsJudgedAs}
use Rattle.h3_session.proofs.endpoint.Endpoint.judge_head.Goals as goal

pub returns-in-Ok-clause-ok : goal.returns-in-Ok-clause-ok
returns-in-Ok-clause-ok c =
    let read = head_by c.args.self.now.announced.choices.extensions.any_protocol c.args.fields.now in
    let section = c.head_section.ensures ∙ ap (λ (s : EndpointState). head_section s.side) c.self.view_is in
    head_at c.args.self.now.side read c.in-Ok.read.outline c.place_of.result c.in-Ok.ensures.outline
    (subst (λ of. is_outline_of of c.in-Ok.read.outline ≡ true) section c.in-Ok.ensures.place)
    (c.place_of.ensures ∙ ap (λ status. if is_interim status then NothingSent else HeadSent) c.status.ensures)

pub returns-in-Ok-clause-read : goal.returns-in-Ok-clause-read
returns-in-Ok-clause-read c =
    let section = c.head_section.ensures ∙ ap (λ (s : EndpointState). head_section s.side) c.self.view_is in
    head_read c.place_of.result c.args.self.now c.args.fields.now c.in-Ok.read (before_trailer (is_interim c.status.result) c.place_of.result c.place_of.ensures)
    (subst (λ of. IsJudgedAs of c.args.self.now c.args.fields.now c.in-Ok.read) section c.in-Ok.ensures.read)

pub returns-in-Err-clause-err : goal.returns-in-Err-clause-err
returns-in-Err-clause-err c = λ differs.
    let read = head_by c.args.self.now.announced.choices.extensions.any_protocol c.args.fields.now in
    let section = c.head_section.ensures ∙ ap (λ (s : EndpointState). head_section s.side) c.self.view_is in
    sym (head_refusal_is c.args.self.now.side read) ∙ sym (ap (λ of. list_refusal of read) section) ∙ c.in-Err.ensures.err differs
