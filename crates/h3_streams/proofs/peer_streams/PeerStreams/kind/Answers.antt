use Rattle.std.proofs.Common.{◌≡◌, ◌∙◌, sym, ap, subst}
use Rattle.h3_connection.specs.Unidirectional.{Unidirectional}
use Rattle.h3_streams.specs.Placed.{peer_stream}
use Rattle.h3_streams.specs.Plain.{plain_streams}
use Rattle.h3_streams.proofs.Joined.{plain_kind, stream_second}
use Rattle.h3_unidirectional.specs.Told.{kind_in}
use Rattle.h3_streams.proofs.peer_streams.PeerStreams.kind.Goals as goal

pub returns-in-Some : goal.returns-in-Some
returns-in-Some c =
    let there = rw c.into_inner.ensures.value at c.in-Some.ensures.some in
    subst (λ l. c.kind.result ≡ kind_in (peer_stream l c.args.id).role) c.self.view_is
    (c.kind.ensures ∙ sym (plain_kind (plain_streams c.self.inside.plain) c.self.inside.kept.entries c.args.id c.in-Some.role there))

pub returns-in-None : goal.returns-in-None
returns-in-None c =
    let none = rw c.into_inner.ensures.value at c.in-None.ensures.none in
    subst (λ l. c.kind-in-None.result ≡ kind_in (peer_stream l c.args.id).role) c.self.view_is
    (c.kind-in-None.ensures ∙ sym (ap (λ (o : Unidirectional). kind_in o.role) (stream_second (plain_streams c.self.inside.plain) c.self.inside.kept.entries c.args.id none)))
