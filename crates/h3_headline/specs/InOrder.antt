-- A part of a message that may be sent: in its place, on a stream that is open, and not above the limit that is known.
use Rattle.std.specs.Prelude.{◌≡◌, true, false, None}
use Rattle.h3_header.specs.Head.{head_fields, has_pseudo}
use Rattle.h3_header.specs.Reads.{head_of_fields}
use Rattle.h3_connection.specs.Outgoing.{takes_head, takes_body, takes_end}
use Rattle.h3_connection.specs.OwnIds.{other}
use Rattle.h3_connection.specs.Pulling.{is_for}
use Rattle.h3_connection.specs.Refusals.{is_too_large}
use Rattle.h3_world.specs.declared.event.Event.{Event}
use Rattle.h3_world.specs.declared.event.Event.TheVariants as event
use Rattle.h3_world.specs.Came.{settings_known}
use Rattle.h3_world.specs.Lists.{unreadable}
use Rattle.h3_world.specs.Order.{outgoing_of}
use Rattle.h3_world.specs.Refusals.{none_after}
use Rattle.h3_world.specs.Setup.{Setup, announced_at, takes_any}
use Rattle.h3_world.specs.Streams.{flow, is_open}
use Rattle.h3_world.specs.World.{World}

-- The event sends the next part of a message (RFC 9114, section 4.1) on a stream that is open at its side. A head is a request's or a
-- response's, as the other side takes it, and begins no request after a GOAWAY if the side asks for a strict connection; a trailer has no
-- pseudo-header field; a list reads as a header; and a field section is not above the limit that the side knows of the other side
-- (RFC 9114, section 4.2.2).
abbrev pub IsInOrder : Setup → World → Event → Type 0
IsInOrder setup w (event.Head side id head) =
    (is_open w side id ≡ true) × (takes_head (outgoing_of (flow w side id)) ≡ true) × (none_after setup w side ≡ None)
    × (is_for (other side) head ≡ true) × (is_too_large (settings_known setup w side) (head_fields head) ≡ false)
IsInOrder setup w (event.Fields side id fields) =
    (is_open w side id ≡ true) × (takes_head (outgoing_of (flow w side id)) ≡ true) × (none_after setup w side ≡ None)
    × (unreadable (takes_any (announced_at setup side)) fields ≡ None) × (is_for (other side) (head_of_fields fields) ≡ true) × (is_too_large (settings_known setup w side) fields ≡ false)
IsInOrder setup w (event.Body side id bytes) = (is_open w side id ≡ true) × (takes_body (outgoing_of (flow w side id)) ≡ true)
IsInOrder setup w (event.Trailer side id trailer) =
    (is_open w side id ≡ true) × (takes_body (outgoing_of (flow w side id)) ≡ true)
    × (has_pseudo trailer ≡ false) × (is_too_large (settings_known setup w side) (head_fields trailer) ≡ false)
IsInOrder setup w (event.TrailerFields side id fields) =
    (is_open w side id ≡ true) × (takes_body (outgoing_of (flow w side id)) ≡ true) × (unreadable (takes_any (announced_at setup side)) fields ≡ None)
    × (has_pseudo (head_of_fields fields) ≡ false) × (is_too_large (settings_known setup w side) fields ≡ false)
IsInOrder setup w (event.Finish side id) = (is_open w side id ≡ true) × (takes_end (outgoing_of (flow w side id)) ≡ true)
IsInOrder setup w _ = ⊥
