use Rattle.std.proofs.Common.{refl, subst}
use Rattle.h3_session.specs.SentHeads.{IsSaid}
use Rattle.h3_session.proofs.Remembering.{answered, told, silent}
use Rattle.h3_session.proofs.endpoint.Endpoint.await_response.Goals as goal

pub returns-in-Nothing : goal.returns-in-Nothing
returns-in-Nothing c = λ fields is.
    silent c.args.self.now c.args.self.now c.args.id fields refl (subst (IsSaid c.args.self.now.side c.args.self.now.announced fields) c.in-Nothing.is is)

pub returns-in-Request : goal.returns-in-Request
returns-in-Request c = λ fields is.
    told _ c.args.self.now c.await_content.new.self c.args.id fields c.in-Request.awaited c.in-Request.content c.self.view_is (subst (IsSaid c.args.self.now.side c.args.self.now.announced fields) c.in-Request.is is)
    c.await_content.ensures.there c.await_content.ensures.absent

pub returns-in-Response : goal.returns-in-Response
returns-in-Response c = λ fields is.
    let says = subst (IsSaid c.args.self.now.side c.args.self.now.announced fields) c.in-Response.is is in
    answered _ c.args.self.now c.expect_said.new.self c.args.id fields c.in-Response.said c.self.view_is says (c.expect_said.ensures.there fields says.1.1) c.expect_said.ensures.absent
