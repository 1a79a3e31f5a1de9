-- What a pull leaves alone of an endpoint: all but what comes on that stream, what its decoder replies, and a fault of the connection.
use Rattle.std.proofs.Common.{◌≡◌, ℕ, [], refl, sym, subst, Option, Some, None}
use Rattle.h3_connection.specs.declared.event.Fault.TheVariants as fault
use Rattle.h3_connection.specs.declared.event.Pull.{Pull}
use Rattle.h3_connection.specs.declared.event.Pull.TheVariants as answer
use Rattle.h3_connection.specs.Delivering.{with_incoming}
use Rattle.h3_connection.specs.Endpoint.{EndpointHistory, Kind, kind_of, replied}
use Rattle.h3_connection.specs.Endpoint.Kind.{Request, ServerOpened, OwnUnidirectional, PeerUnidirectional}
use Rattle.h3_connection.specs.Incoming.{Incoming}
use Rattle.h3_connection.specs.Keeping.{pulls, pulls_behind}
use Rattle.h3_connection.specs.Pulling.{Pulled, pull_stream}
use Rattle.h3_connection.specs.Sending.{after_answer, pull_at, pull_peer, pull_request, pull_unless, within_limit}
use Rattle.h3_connection.specs.StreamSets.{stream_at}
use Rattle.h3_connection.specs.Unidirectional.{Unidirectional}

pub record Spares (e new : EndpointHistory) : Type 0 where
  pub announced : new.announced ≡ e.announced
  pub peer : new.peer ≡ e.peer
  pub outgoing : new.outgoing ≡ e.outgoing

spares_all : (e : EndpointHistory) → Spares e e
spares_all e = record { announced = refl; peer = refl; outgoing = refl }

answer_spares : (a : Pull) (e new : EndpointHistory) → Spares e new → Spares e (after_answer a new).1
answer_spares (answer.Item i) e new h = h
answer_spares answer.Pending e new h = h
answer_spares (answer.Waiting count) e new h = h
answer_spares (answer.Fault (fault.Connection code)) e new h = record { announced = h.announced; peer = h.peer; outgoing = h.outgoing }
answer_spares (answer.Fault (fault.Stream why)) e new h = h
answer_spares (answer.Fault fault.Memory) e new h = h
answer_spares answer.NoMessages e new h = h

request_spares : (e : EndpointHistory) (id : ℕ) (o : Option Incoming) → Spares e (pull_request e id o).1
request_spares e id None = spares_all e
request_spares e id (Some i) =
    let p : Pulled = within_limit e id (pull_stream e.side e.announced id e.decoding.decoder i) in
    answer_spares p.answer e (replied (with_incoming e id p.incoming) p.replies) (record { announced = refl; peer = refl; outgoing = refl })

peer_spares : (e : EndpointHistory) (id : ℕ) (o : Option Unidirectional) → Spares e (pull_peer e id o).1
peer_spares e id None = spares_all e
peer_spares e id (Some o) = record { announced = refl; peer = refl; outgoing = refl }

at_spares : (e : EndpointHistory) (id : ℕ) (kind : Kind) → Spares e (pull_at e id kind).1
at_spares e id Request = request_spares e id (stream_at e.incoming id)
at_spares e id ServerOpened = spares_all e
at_spares e id OwnUnidirectional = spares_all e
at_spares e id PeerUnidirectional = peer_spares e id (stream_at e.unidirectional id)

-- **Where nothing is kept.**
pub pulls_spare : (e : EndpointHistory) (id : ℕ) → e.kept ≡ [] → Spares e (pulls e id).1
pulls_spare e id none = subst (λ l. Spares e (pulls_behind l e id).1) (sym none) (by_closed e.closed)
  where
    by_closed : (c : Option ℕ) → Spares e (pull_unless c e (pull_at e id (kind_of e.side id))).1
    by_closed (Some code) = spares_all e
    by_closed None = at_spares e id (kind_of e.side id)
