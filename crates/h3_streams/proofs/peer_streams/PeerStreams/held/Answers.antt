use Rattle.std.proofs.Common.{◌≡◌, ◌∙◌, sym, ap, subst}
use Rattle.h3_connection.specs.Unidirectional.{Unidirectional}
use Rattle.h3_connection.specs.Unread.{held_of_role}
use Rattle.h3_streams.specs.Placed.{peer_stream}
use Rattle.h3_streams.specs.Plain.{plain_streams}
use Rattle.h3_streams.proofs.Joined.{nothing_held, stream_second}
use Rattle.h3_streams.proofs.peer_streams.PeerStreams.held.Goals as goal

pub returns-in-Some : goal.returns-in-Some
returns-in-Some c =
    let there = rw c.into_inner.ensures.value at c.in-Some.ensures.some in
    subst (λ l. 0 ≡ held_of_role (peer_stream l c.args.id) (peer_stream l c.args.id).role) c.self.view_is
    (nothing_held (plain_streams c.self.inside.plain) c.self.inside.kept.entries c.args.id c.in-Some._role there)

pub returns-in-None : goal.returns-in-None
returns-in-None c =
    let none = rw c.into_inner.ensures.value at c.in-None.ensures.none in
    subst (λ l. c.held.result ≡ held_of_role (peer_stream l c.args.id) (peer_stream l c.args.id).role) c.self.view_is
    (c.held.ensures ∙ sym (ap (λ (o : Unidirectional). held_of_role o o.role) (stream_second (plain_streams c.self.inside.plain) c.self.inside.kept.entries c.args.id none)))
