-- Where a frame is next.
use Rattle.std.proofs.Common.{◌≡◌, ◌==◌, Bool, true, false, not, refl, is_some}
use Rattle.std.proofs.lemmas.Bool.{and_parts, eqb-true}
use Rattle.h3_connection.specs.Incoming.{Incoming}
use Rattle.h3_connection.specs.Unread.{begins_frame, is_message}
use Rattle.h3_connection.specs.declared.place.Place.{Place}
use Rattle.h3_connection.specs.declared.place.Place.TheVariants.{BeforeHead, InBody, AfterTrailer, InSession}
use Rattle.h3_incoming.specs.Placing.{is_session}

not_so : (b : Bool) → not b ≡ true → b ≡ false
not_so true e = absurd (cc)
not_so false e = refl

no_session : (place : Place) → is_message place ≡ true → is_session place ≡ false
no_session BeforeHead e = refl
no_session InBody e = refl
no_session AfterTrailer e = refl
no_session InSession e = absurd (cc)

-- no payload is under way, no field section waits, and no session is there
pub frame_next : (i : Incoming) → begins_frame i ≡ true → (i.body_left ≡ 0) × (is_some i.section ≡ false) × (is_session i.place ≡ false)
frame_next i e =
    let both = and_parts _ (is_message i.place) e in
    let parts = and_parts (i.body_left == 0) (not (is_some i.section)) both.0 in
    (eqb-true i.body_left 0 parts.0, not_so (is_some i.section) parts.1, no_session i.place both.1)

pub not_both : {A : Type 0} (b : Bool) → b ≡ true → b ≡ false → A
not_both true e f = absurd (cc)
not_both false e f = absurd (cc)
