-- An end keeps to what it announced, and where that asks for no strict messages it counts nothing, whatever comes and is asked.
use Rattle.std.proofs.Common.{◌≡◌, ℕ, List, [], ◌∷◌, refl, ap, sym, ◌∙◌, Option, Some, None}
use Rattle.h3_proto.specs.declared.stream.Side.{Side}
use Rattle.h3_connection.specs.Arrivals.{stream_of}
use Rattle.h3_connection.specs.Control.{Found}
use Rattle.h3_connection.specs.Delivering.{opened, opened_at, with_incoming}
use Rattle.h3_connection.specs.Endpoint.{EndpointHistory, Kind, kind_of, new_endpoint}
use Rattle.h3_connection.specs.Endpoint.Kind.{OwnUnidirectional, PeerUnidirectional, Request, ServerOpened}
use Rattle.h3_connection.specs.Incoming.{Incoming}
use Rattle.h3_connection.specs.Keeping.{keeping, opened_as, opened_by}
use Rattle.h3_connection.specs.PartReading.{CountsOn, ReadsOn, ReadsPart, held_as}
use Rattle.h3_connection.specs.PartReading.ReadsOn.{Hears, Holds, Listens, ReadsFrames, ReadsFront, ReadsWhole}
use Rattle.h3_connection.specs.PartReading.ReadsPart.{Goes, Stops}
use Rattle.h3_connection.specs.Sending.{advance}
use Rattle.h3_connection.specs.StreamSets.{stream_at}
use Rattle.h3_connection.specs.StrictConnection.{known_streams}
use Rattle.h3_connection.specs.Delivering.{unidirectional_at}
use Rattle.h3_connection.specs.Unidirectional.{Role, role_after}
use Rattle.h3_connection.specs.Unidirectional.Role.{Control, Decoder, Encoder, Ignored, Other, Push, Session, Untold}
use Rattle.h3_connection.specs.declared.arrival.Arrival.{Arrival}
use Rattle.h3_connection.specs.declared.arrival.Arrival.TheVariants.{BytesCame}
use Rattle.h3_connection.specs.declared.setup.Announced.{Announced}
use Rattle.h3_world.specs.Ends.{Ends, answered, end_at}
use Rattle.h3_world.specs.declared.event.Event.{Event}
use Rattle.h3_strict.specs.CountsNothing.{KeepsTo}
use Rattle.h3_strict.proofs.AnnouncedEnds.{advance_announced, stays}
use Rattle.h3_strict.proofs.KeepsCounts.{arrival_announced, if_learned_same}
use Rattle.h3_strict.proofs.NothingCounted.{advances_count, asked_counts, event_counts, new_counts, part_counts}

-- What is read in part leaves what was announced.
held_announced : (e : EndpointHistory) (id : ℕ) (x : Role × List ℕ) → (held_as e id x).announced ≡ e.announced
held_announced e id (Control, bytes) = refl
held_announced e id (Encoder, bytes) = refl
held_announced e id (Decoder, bytes) = refl
held_announced e id (Untold front, bytes) = refl
held_announced e id (Session n, bytes) = refl
held_announced e id (Push n, bytes) = refl
held_announced e id (Ignored, bytes) = refl
held_announced e id (Other kind, bytes) = refl

step_announced : {e new : EndpointHistory} {arrivals more : List Arrival} → ReadsOn e arrivals new more → new.announced ≡ e.announced
step_announced {e = e} (ReadsWhole {a = a} is) = sym (ap (λ (x : Found). x.0.announced) is) ∙ arrival_announced e a
step_announced {e = e} (ReadsFront front rest {id = id} is) = sym (ap (λ (x : Found). x.0.announced) is) ∙ arrival_announced e (BytesCame id front)
step_announced {e = e} (Holds {id = id} {bytes = bytes} kind reader) = held_announced _ id (role_after (known_streams e.announced) (unidirectional_at e id).role bytes)
step_announced {e = e} (ReadsFrames {p = p} on may part) = (if_learned_same e.peer.settings p.settings (record e { peer = p })).announced
step_announced (Hears on part) = refl
step_announced (Listens on known part) = refl

opened_announced : (e : EndpointHistory) (id : ℕ) → (opened e id).announced ≡ e.announced
opened_announced e id = by_stream (stream_at e.incoming id)
  where
    by_stream : (o : Option Incoming) → (opened_at e id o).announced ≡ e.announced
    by_stream (Some i) = refl
    by_stream None = refl

kept_announced : (e : EndpointHistory) (rest : List Arrival) → (keeping e rest).announced ≡ e.announced
kept_announced e [] = refl
kept_announced e (a ∷ rest) = kept_announced (opened_by e a) rest ∙ one (kind_of e.side (stream_of a))
  where
    one : (k : Kind) → (opened_as k e (stream_of a)).announced ≡ e.announced
    one Request = opened_announced e (stream_of a)
    one ServerOpened = refl
    one OwnUnidirectional = refl
    one PeerUnidirectional = refl

part_announced : {e new : EndpointHistory} {arrivals : List Arrival} → ReadsPart e arrivals new → new.announced ≡ e.announced
part_announced (Stops {e = e} {rest = rest}) = kept_announced e rest
part_announced (Goes step rest) = part_announced rest ∙ step_announced step

-- **So each keeps to it.**
pub new_keeps : (side : Side) (own : Announced) → KeepsTo own (new_endpoint side own)
new_keeps side own = (refl, λ loose. new_counts own side loose)

pub event_keeps : (own : Announced) (ends : Ends) (side : Side) → KeepsTo own (end_at ends side) → (e : Event) → KeepsTo own (end_at (answered ends e).1 side)
event_keeps own ends side h e = (stays ends e side ∙ h.0, λ loose. event_counts own ends side (h.1 loose) e)

pub part_keeps : (own : Announced) (e new : EndpointHistory) (arrivals : List Arrival) → ReadsPart e arrivals new → KeepsTo own e → KeepsTo own new
part_keeps own e new arrivals part h = (part_announced part ∙ h.0, λ loose. part_counts own part (h.1 loose))

pub asked_keeps : (own : Announced) (e : EndpointHistory) (id : ℕ) (old new : Incoming) → KeepsTo own e → stream_at e.incoming id ≡ Some old → CountsOn old.content new.content → KeepsTo own (with_incoming e id new)
asked_keeps own e id old new h here on = (h.0, λ loose. asked_counts own e id old new (h.1 loose) here on)

pub advances_keep : (own : Announced) (e : EndpointHistory) (id count : ℕ) → KeepsTo own e → KeepsTo own (advance e id count)
advances_keep own e id count h = (advance_announced e id count ∙ h.0, λ loose. advances_count own e id count (h.1 loose))
