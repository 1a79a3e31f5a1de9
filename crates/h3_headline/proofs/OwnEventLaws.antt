-- What comes on a control, encoder or decoder stream: two endpoints that stand in a world answer as the world says, and stand in it
-- after that.
use Rattle.h3_world.specs.declared.event.Answer.{Answer}
use Rattle.h3_world.specs.Ends.{Ends, answered, end_at, was_offered, with_end, done}
use Rattle.h3_world.specs.World.{World, party}
use Rattle.std.proofs.Common.{◌≡◌, ◌*◌, [], length, refl, sym, subst, ℕ, Bool, true, ◌||◌, ap, ◌∙◌, nat_lt, not, if◌then◌else◌, take, ◌&&◌, false}
use Rattle.h3_proto.specs.declared.stream.Side.TheVariants.{Client, Server}
use Rattle.h3_world.specs.declared.event.Answer.TheVariants as answer
use Rattle.h3_proto.specs.declared.stream.Side.{Side}
use Rattle.h3_connection.specs.OwnIds.{is_own, other}
use Rattle.h3_connection.specs.declared.arrival.Arrival.TheVariants.{BytesCame, EndCame, ResetCame}
use Rattle.h3_connection.specs.Endpoint.{EndpointHistory, bytes_waiting}
use Rattle.h3_connection.specs.Keeping.{arrives}
use Rattle.h3_connection.specs.Sending.{advance}
use Rattle.h3_connection.specs.Shown as shown
use Rattle.h3_world.specs.declared.event.Event.TheVariants as event
use Rattle.h3_world.specs.Streams.{waiting, flow}
use Rattle.h3_connection.specs.declared.event.Refusal.TheVariants as refusal
use Rattle.h3_world.specs.Delivering.{delivered, delivered_message, delivered_own, is_closed, delivered_end, delivered_reset, reset_code}
use Rattle.h3_world.specs.Machine.{served}
use Rattle.h3_world.specs.Setup.{IsMadeSetup, Setup}
use Rattle.std.specs.Prelude.{◌==◌, unwrap_or, option_map}
use Rattle.h3_world.specs.Order.{is_finished}
use Rattle.h3_headline.specs.Cited.{StreamLaws}
use Rattle.h3_headline.specs.OwnEventLaws.{own_come, own_outgoing, own_waits}
use Rattle.h3_headline.specs.OwnStreams.{AnswersAlike, OwnCome, accepted}
use Rattle.h3_headline.specs.Standing.{Stands, StandsAt, WritesNoMore}

abbrev pub given_as : Answer → Ends → Answer × Ends
given_as a ends = (a, ends)

abbrev pub served_as : Answer → World → Answer × World
served_as a w = (a, w)

alike : (setup : Setup) (given : Answer × Ends) (expected : Answer × World) (a : Answer) (ends : Ends) (w : World) → given ≡ given_as a ends → expected ≡ served_as a w
    → StandsAt setup w Client ends.client → StandsAt setup w Server ends.server → ends.client.next_id ≡ 4 * length w.exchanges → AnswersAlike setup given expected
alike setup given expected a ends w g e client server next =
    subst (λ x. AnswersAlike setup x expected) (sym g) (subst (λ y. AnswersAlike setup (given_as a ends) y) (sym e) (record { answer = refl; at_client = client; at_server = server; next_id = next }))

pub own_first : (side acting : Side) (id : ℕ) (b : Bool) → side ≡ acting → is_own acting id ≡ true → (is_own side id || b) ≡ true
own_first side acting id b same own = ap (λ s. is_own s id || b) same ∙ ap (λ t. t || b) own

-- the answer of the ends to a delivery of bytes that are there, or not
given_own : (setup : Setup) (w : World) (ends : Ends) (writer : Side) (id count : ℕ) (after : EndpointHistory) → StandsAt setup w writer (end_at ends writer) → WritesNoMore (party w writer).own → is_own writer id ≡ true
    → arrives (end_at ends (other writer)) (BytesCame id (take count (bytes_waiting (end_at ends writer) id))) ≡ accepted after
    → (short : Bool) → nat_lt (waiting setup w writer id) count ≡ short
    → answered ends (event.Deliver writer id count)
    ≡ (if short then given_as (answer.Short (waiting setup w writer id)) ends else given_as (answer.Delivered count) (with_end (with_end ends writer (advance (end_at ends writer) id count)) (other writer) after))
given_own setup w ends writer id count after h none own arrived short test =
    let e = end_at ends writer in
    let offered = was_offered ends writer id count (arrives (end_at ends (other writer)) (BytesCame id (take count (bytes_waiting e id)))) in
    ap (λ b. if not b then given_as answer.NoStream ends else (if nat_lt (shown.waiting e id) count then given_as (answer.Short (shown.waiting e id)) ends else offered)) (own_first e.side writer id _ h.side_is own)
    ∙ ap (λ n. if nat_lt n count then given_as (answer.Short n) ends else offered) (own_waits setup w writer id e h none own)
    ∙ ap (λ b. if b then given_as (answer.Short (waiting setup w writer id)) ends else offered) test
    ∙ ap (λ x. if short then given_as (answer.Short (waiting setup w writer id)) ends else was_offered ends writer id count x) arrived

-- and of the world
pub served_own : (setup : Setup) (w : World) (writer : Side) (id count : ℕ) → is_own writer id ≡ true → (short : Bool) → nat_lt (waiting setup w writer id) count ≡ short
    → served setup w (event.Deliver writer id count) ≡ (if short then served_as (answer.Short (waiting setup w writer id)) w else served_as (answer.Delivered count) (delivered_own setup w writer id count))
served_own setup w writer id count own short test =
    let n = waiting setup w writer id in
    let closed_by = λ (b : Bool). not b && ((flow w writer id).ended || (flow w writer id).reset_came) in
    ap (λ b. if not b then served_as answer.NoStream w else (if nat_lt n count then served_as (answer.Short n) w else (if is_closed w writer id then served_as (answer.Refused refusal.AfterEnd) w else served_as (answer.Delivered count) (delivered setup w writer id count)))) (own_first writer writer id _ refl own)
    ∙ ap (λ b. if b then served_as (answer.Short n) w else (if is_closed w writer id then served_as (answer.Refused refusal.AfterEnd) w else served_as (answer.Delivered count) (delivered setup w writer id count))) test
    ∙ ap (λ b. if short then served_as (answer.Short n) w else (if closed_by b then served_as (answer.Refused refusal.AfterEnd) w else served_as (answer.Delivered count) (delivered setup w writer id count))) own
    ∙ ap (λ b. if short then served_as (answer.Short n) w else served_as (answer.Delivered count) (if b then delivered_own setup w writer id count else delivered_message w writer id count)) own

delivers_client : (setup : Setup) (w : World) (ends : Ends) (id count : ℕ) → Stands setup w ends → is_own Client id ≡ true → OwnCome setup w Server ends.server ends.client count id
    → (short : Bool) → nat_lt (waiting setup w Client id) count ≡ short → AnswersAlike setup (answered ends (event.Deliver Client id count)) (served setup w (event.Deliver Client id count))
delivers_client setup w ends id count h own o true test =
    alike setup _ _ (answer.Short (waiting setup w Client id)) ends w (given_own setup w ends Client id count o.after h.at_client h.client_writes.updates own o.arrived true test) (served_own setup w Client id count own true test) h.at_client h.at_server h.next_id
delivers_client setup w ends id count h own o false test =
    alike setup _ _ (answer.Delivered count) (record { client = advance ends.client id count; server = o.after }) (delivered_own setup w Client id count)
    (given_own setup w ends Client id count o.after h.at_client h.client_writes.updates own o.arrived false test) (served_own setup w Client id count own false test) o.writer o.reader (o.writer_next ∙ h.next_id)

delivers_server : (setup : Setup) (w : World) (ends : Ends) (id count : ℕ) → Stands setup w ends → is_own Server id ≡ true → OwnCome setup w Client ends.client ends.server count id
    → (short : Bool) → nat_lt (waiting setup w Server id) count ≡ short → AnswersAlike setup (answered ends (event.Deliver Server id count)) (served setup w (event.Deliver Server id count))
delivers_server setup w ends id count h own o true test =
    alike setup _ _ (answer.Short (waiting setup w Server id)) ends w (given_own setup w ends Server id count o.after h.at_server h.server_writes.updates own o.arrived true test) (served_own setup w Server id count own true test) h.at_client h.at_server h.next_id
delivers_server setup w ends id count h own o false test =
    alike setup _ _ (answer.Delivered count) (record { client = o.after; server = advance ends.server id count }) (delivered_own setup w Server id count)
    (given_own setup w ends Server id count o.after h.at_server h.server_writes.updates own o.arrived false test) (served_own setup w Server id count own false test) o.reader o.writer (o.reader_next ∙ h.next_id)

-- **A delivery on an own stream.**
pub own_delivered : (laws : StreamLaws) (setup : Setup) (w : World) (ends : Ends) (writer : Side) (id count : ℕ) → IsMadeSetup setup → Stands setup w ends → is_own writer id ≡ true
    → AnswersAlike setup (answered ends (event.Deliver writer id count)) (served setup w (event.Deliver writer id count))
own_delivered laws setup w ends Client id count made h own =
    delivers_client setup w ends id count h own (own_come laws setup w Server ends.server ends.client count id made h.sound h.client_writes h.at_server h.at_client own) (nat_lt (waiting setup w Client id) count) refl
own_delivered laws setup w ends Server id count made h own =
    delivers_server setup w ends id count h own (own_come laws setup w Client ends.client ends.server count id made h.sound h.server_writes h.at_client h.at_server own) (nat_lt (waiting setup w Server id) count) refl

end_stands : (setup : Setup) (w : World) (ends : Ends) (side : Side) → Stands setup w ends → StandsAt setup w side (end_at ends side)
end_stands setup w ends Client h = h.at_client
end_stands setup w ends Server h = h.at_server

-- **An own stream has no end.**
pub own_end_is_early : (setup : Setup) (w : World) (ends : Ends) (writer : Side) (id : ℕ) → Stands setup w ends → is_own writer id ≡ true
    → AnswersAlike setup (answered ends (event.DeliverEnd writer id)) (served setup w (event.DeliverEnd writer id))
own_end_is_early setup w ends writer id h own =
    let e = end_at ends writer in
    let s = end_stands setup w ends writer h in
    let given = done ends (other writer) answer.Done (arrives (end_at ends (other writer)) (EndCame id)) in
    let unfinished : shown.is_finished e id ≡ false = ap (λ o. unwrap_or (option_map (λ x. x.is_finished) o) false) (own_outgoing setup w writer id e s own) in
    let later = if is_closed w writer id then served_as (answer.Refused refusal.AfterEnd) w else served_as answer.Done (delivered_end w writer id) in
    alike setup _ _ answer.Early ends w
    (ap (λ b. if not b then given_as answer.NoStream ends else (if not (shown.is_finished e id && (shown.waiting e id == 0)) then given_as answer.Early ends else given)) (own_first e.side writer id _ s.side_is own)
    ∙ ap (λ b. if not (b && (shown.waiting e id == 0)) then given_as answer.Early ends else given) unfinished)
    (ap (λ b. if not b then served_as answer.NoStream w else (if not (not (is_own writer id) && is_finished (flow w writer id) && (waiting setup w writer id == 0)) then served_as answer.Early w else later)) (own_first writer writer id _ refl own)
    ∙ ap (λ b. if not (not b && is_finished (flow w writer id) && (waiting setup w writer id == 0)) then served_as answer.Early w else later) own)
    h.at_client h.at_server h.next_id

-- **Nor a reset.**
pub own_reset_is_early : (setup : Setup) (w : World) (ends : Ends) (writer : Side) (id : ℕ) → Stands setup w ends → is_own writer id ≡ true
    → AnswersAlike setup (answered ends (event.DeliverReset writer id)) (served setup w (event.DeliverReset writer id))
own_reset_is_early setup w ends writer id h own =
    let e = end_at ends writer in
    let s = end_stands setup w ends writer h in
    let given = done ends (other writer) answer.Done (arrives (end_at ends (other writer)) (ResetCame id reset_code)) in
    let unbroken : shown.is_reset e id ≡ false = ap (λ o. unwrap_or (option_map (λ x. x.is_reset) o) false) (own_outgoing setup w writer id e s own) in
    let later = if is_closed w writer id then served_as (answer.Refused refusal.AfterEnd) w else served_as answer.Done (delivered_reset w writer id) in
    alike setup _ _ answer.Early ends w
    (ap (λ b. if not b then given_as answer.NoStream ends else (if not (shown.is_reset e id) then given_as answer.Early ends else given)) (own_first e.side writer id _ s.side_is own)
    ∙ ap (λ b. if not b then given_as answer.Early ends else given) unbroken)
    (ap (λ b. if not b then served_as answer.NoStream w else (if is_own writer id || not (flow w writer id).is_reset then served_as answer.Early w else later)) (own_first writer writer id _ refl own)
    ∙ ap (λ b. if b || not (flow w writer id).is_reset then served_as answer.Early w else later) own)
    h.at_client h.at_server h.next_id
