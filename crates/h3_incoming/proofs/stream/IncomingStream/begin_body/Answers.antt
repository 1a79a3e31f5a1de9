use Rattle.std.proofs.Common.{◌≡◌, ◌∙◌, true, sym, ap, arith}
use Rattle.h3_connection.specs.Incoming.{Incoming}
use Rattle.h3_incoming.specs.BodyPlaces.{keeps_nothing}
use Rattle.h3_incoming.proofs.BodyPieces.{head_begins}
use Rattle.h3_incoming.proofs.stream.IncomingStream.begin_body.Goals as goal

pub returns-in-Some-clause-begins : goal.returns-in-Some-clause-begins
returns-in-Some-clause-begins c =
    let clear : keeps_nothing c.args.self.now ≡ true = sym c.keeps_nothing.ensures.is ∙ c.if-not-keeps_nothing.false in
    let left : c.self.inside.body_left ≡ 0 = omega (arith, c.if-self-gt0.false) in
    let closed : c.args.self.now.body_left ≡ 0 = sym (ap (λ (i : Incoming). i.body_left) c.self.view_is) ∙ left in
    λ t. head_begins c.args.self.now c.args.bytes.now clear (c.keeps_nothing.ensures.none c.if-not-keeps_nothing.false) c.begin_alone.new.self c.in-Some.field-0 closed c.in-Some.ensures.some
