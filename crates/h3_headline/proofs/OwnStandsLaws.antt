-- What comes on a control, encoder or decoder stream: it happens in the world, and both ends stand in it after that. Such a stream has
-- no end and no reset.
use Rattle.std.proofs.Common.{◌≡◌, ℕ, true, sym, subst}
use Rattle.h3_proto.specs.declared.stream.Side.{Side}
use Rattle.h3_connection.specs.OwnIds.{is_own}
use Rattle.h3_world.specs.declared.event.Event.TheVariants as event
use Rattle.h3_world.specs.Ends.{Ends}
use Rattle.h3_world.specs.Setup.{IsMadeSetup, Setup}
use Rattle.h3_world.specs.World.{World}
use Rattle.h3_headline.proofs.OwnEventLaws.{own_delivered, own_end_is_early, own_reset_is_early}
use Rattle.h3_headline.proofs.OwnWritesLaws.{own_end_served, own_keeps, own_reset_served, still_writing}
use Rattle.h3_headline.specs.AlikeLaws.{alike_stands}
use Rattle.h3_headline.specs.Cited.{Laws}
use Rattle.h3_headline.specs.OwnStreams.{KeepsWriting}
use Rattle.h3_headline.specs.Standing.{Stands}
use Rattle.h3_headline.specs.Steps.{StandsOn}

pub own_deliver_on : (laws : Laws) (setup : Setup) (w : World) (ends : Ends) (writer : Side) (id count : ℕ) → IsMadeSetup setup → Stands setup w ends → is_own writer id ≡ true
    → StandsOn setup w ends (event.Deliver writer id count)
own_deliver_on laws setup w ends writer id count made h own =
    alike_stands laws.worlds setup w ends (event.Deliver writer id count) tt h (own_delivered laws.streams setup w ends writer id count made h own) (own_keeps laws.streams setup w ends writer id count made h own)

pub own_end_on : (laws : Laws) (setup : Setup) (w : World) (ends : Ends) (writer : Side) (id : ℕ) → Stands setup w ends → is_own writer id ≡ true → StandsOn setup w ends (event.DeliverEnd writer id)
own_end_on laws setup w ends writer id h own =
    alike_stands laws.worlds setup w ends (event.DeliverEnd writer id) tt h (own_end_is_early setup w ends writer id h own)
    (subst (λ x. KeepsWriting setup x.1) (sym (own_end_served setup w writer id own)) (still_writing setup w ends h))

pub own_reset_on : (laws : Laws) (setup : Setup) (w : World) (ends : Ends) (writer : Side) (id : ℕ) → Stands setup w ends → is_own writer id ≡ true → StandsOn setup w ends (event.DeliverReset writer id)
own_reset_on laws setup w ends writer id h own =
    alike_stands laws.worlds setup w ends (event.DeliverReset writer id) tt h (own_reset_is_early setup w ends writer id h own)
    (subst (λ x. KeepsWriting setup x.1) (sym (own_reset_served setup w writer id own)) (still_writing setup w ends h))
