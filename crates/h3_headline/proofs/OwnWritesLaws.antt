-- After a delivery on an own stream, what both sides wrote is still what writers take, and the sections that were sent are as before.
use Rattle.h3_world.specs.Ends.{Ends}
use Rattle.h3_world.specs.World.{World}
use Rattle.std.proofs.Common.{ℕ, ◌≡◌, nat_lt, Bool, true, false, refl, sym, subst, not, ◌&&◌, if◌then◌else◌, ap, ◌∙◌, ◌||◌}
use Rattle.h3_proto.specs.declared.stream.Side.{Side}
use Rattle.h3_proto.specs.declared.stream.Side.TheVariants.{Client, Server}
use Rattle.h3_world.specs.Delivering.{delivered_own, delivered_end, is_closed, delivered_reset}
use Rattle.h3_world.specs.Setup.{IsMadeSetup, Setup}
use Rattle.h3_connection.specs.OwnIds.{is_own}
use Rattle.h3_world.specs.declared.event.Event.TheVariants as event
use Rattle.h3_world.specs.Machine.{served}
use Rattle.h3_world.specs.Streams.{waiting, flow}
use Rattle.std.specs.Prelude.{◌==◌}
use Rattle.h3_connection.specs.declared.event.Refusal.TheVariants as refusal
use Rattle.h3_world.specs.declared.event.Answer.TheVariants as answer
use Rattle.h3_world.specs.Order.{is_finished}
use Rattle.h3_headline.proofs.OwnEventLaws.{own_first, served_as, served_own}
use Rattle.h3_headline.specs.Cited.{StreamLaws}
use Rattle.h3_headline.specs.OwnStreams.{KeepsWriting}
use Rattle.h3_headline.specs.OwnWorldLaws.{streams_after}
use Rattle.h3_headline.specs.OwnWritesLaws.{readable_same, reader_writable, writer_writable}
use Rattle.h3_headline.specs.Standing.{Stands}

pub still_writing : (setup : Setup) (w : World) (ends : Ends) → Stands setup w ends → KeepsWriting setup w
still_writing setup w ends h = record { client_writes = h.client_writes; server_writes = h.server_writes; requests = h.requests; responses = h.responses }

writing_after : (laws : StreamLaws) (setup : Setup) (w : World) (ends : Ends) (writer : Side) (id count : ℕ) → IsMadeSetup setup → Stands setup w ends → KeepsWriting setup (delivered_own setup w writer id count)
writing_after laws setup w ends Client id count made h =
    let v = delivered_own setup w Client id count in
    let same = streams_after setup w Client id count in
    record {
      client_writes = writer_writable setup w Server id count h.client_writes;
      server_writes = reader_writable laws setup w Server id count made h.sound h.server_writes;
      requests = readable_same setup w v Client same h.requests;
      responses = readable_same setup w v Server same h.responses;
    }
writing_after laws setup w ends Server id count made h =
    let v = delivered_own setup w Server id count in
    let same = streams_after setup w Server id count in
    record {
      client_writes = reader_writable laws setup w Client id count made h.sound h.client_writes;
      server_writes = writer_writable setup w Client id count h.server_writes;
      requests = readable_same setup w v Client same h.requests;
      responses = readable_same setup w v Server same h.responses;
    }

-- **A delivery on an own stream.**
pub own_keeps : (laws : StreamLaws) (setup : Setup) (w : World) (ends : Ends) (writer : Side) (id count : ℕ) → IsMadeSetup setup → Stands setup w ends → is_own writer id ≡ true
    → KeepsWriting setup (served setup w (event.Deliver writer id count)).1
own_keeps laws setup w ends writer id count made h own = by_short (nat_lt (waiting setup w writer id) count) refl
  where
    by_short : (short : Bool) → nat_lt (waiting setup w writer id) count ≡ short → KeepsWriting setup (served setup w (event.Deliver writer id count)).1
    by_short true t = subst (λ x. KeepsWriting setup x.1) (sym (served_own setup w writer id count own true t)) (still_writing setup w ends h)
    by_short false t = subst (λ x. KeepsWriting setup x.1) (sym (served_own setup w writer id count own false t)) (writing_after laws setup w ends writer id count made h)

-- **An end and a reset of one change nothing.**
pub own_end_served : (setup : Setup) (w : World) (writer : Side) (id : ℕ) → is_own writer id ≡ true → served setup w (event.DeliverEnd writer id) ≡ served_as answer.Early w
own_end_served setup w writer id own =
    let later = if is_closed w writer id then served_as (answer.Refused refusal.AfterEnd) w else served_as answer.Done (delivered_end w writer id) in
    ap (λ b. if not b then served_as answer.NoStream w else (if not (not (is_own writer id) && is_finished (flow w writer id) && (waiting setup w writer id == 0)) then served_as answer.Early w else later)) (own_first writer writer id _ refl own)
    ∙ ap (λ b. if not (not b && is_finished (flow w writer id) && (waiting setup w writer id == 0)) then served_as answer.Early w else later) own

pub own_reset_served : (setup : Setup) (w : World) (writer : Side) (id : ℕ) → is_own writer id ≡ true → served setup w (event.DeliverReset writer id) ≡ served_as answer.Early w
own_reset_served setup w writer id own =
    let later = if is_closed w writer id then served_as (answer.Refused refusal.AfterEnd) w else served_as answer.Done (delivered_reset w writer id) in
    ap (λ b. if not b then served_as answer.NoStream w else (if is_own writer id || not (flow w writer id).is_reset then served_as answer.Early w else later)) (own_first writer writer id _ refl own)
    ∙ ap (λ b. if b || not (flow w writer id).is_reset then served_as answer.Early w else later) own
