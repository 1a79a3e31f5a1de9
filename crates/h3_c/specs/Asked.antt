-- Which event of a schedule each call of h3.h is, and which answer C learns of it (`h3_world`, Event and Answer).
use Rattle.std.specs.Prelude.{◌≡◌, Bool, true, false, ◌&&◌, ◌==◌, List, Option, Some, None, is_none, option_map, Err}
use Rattle.h3_field.specs.Field.{Field}
use Rattle.h3_field.specs.ReadBack.{AreBytes}
use Rattle.h3_proto.specs.declared.config.Choices.{Choices}
use Rattle.h3_proto.specs.declared.stream.Side.{Side}
use Rattle.h3_world.specs.declared.event.Answer.{Answer}
use Rattle.h3_world.specs.declared.event.Answer.TheVariants as answer
use Rattle.h3_world.specs.declared.event.Event.{Event}
use Rattle.h3_world.specs.declared.event.Event.TheVariants as event
use Rattle.h3_c.specs.Does.{CallOfC}
use Rattle.h3_c.specs.Does.CallOfC.{OpenRequest, SendHead, SendTrailer, SendBody, SendBodyOf, Finish, Reset, Cancel, Goaway, SendPriority, Advance, Read, Deliver, DeliverEnd, DeliverReset, Pull, ReadDatagram}
use Rattle.h3_c.specs.Given.{fields_given}
use Rattle.h3_c.specs.Items.{shown}
use Rattle.h3_c.specs.Numbers.{TellsList, ok, refusal_told}
use Rattle.h3_c.specs.Seen.{Seen}
use Rattle.h3_c.specs.declared.numbers.Told.{Told}

-- The event that a call of a side is, and the number that it returns. One that only looks, or says what goes first, is none, and so is a list whose
-- sizes are not those of its bytes.
abbrev pub asked : Side → CallOfC → Option (Event × Told)
asked side (OpenRequest before id n) = Some (event.OpenRequest side, n)
asked side (SendHead id sizes flags bytes n) = option_map (λ fields. (event.Fields side id fields, n)) (fields_given sizes flags bytes)
asked side (SendTrailer id sizes flags bytes n) = option_map (λ fields. (event.TrailerFields side id fields, n)) (fields_given sizes flags bytes)
asked side (SendBody id bytes n) = Some (event.Body side id bytes, n)
asked side (Finish id n) = Some (event.Finish side id, n)
asked side (Reset id n) = Some (event.Reset side id, n)
asked side (Cancel id n) = Some (event.Cancel side id, n)
asked side (Goaway id n) = Some (event.Goaway side id, n)
asked side (Pull id before item n) = Some (event.PullFields side id, n)
asked side _ = None

-- The calls that are left out here, since no event says what they do: v is what the handle owned before. A datagram that is read is left out
-- where it closes the connection. The calls that deliver or take bytes, or announce a body by its length, stand in `Programs`.
abbrev pub is_left_out : CallOfC → Seen → Bool
is_left_out (SendBodyOf id len n) v = true
is_left_out (SendPriority id urgency incremental n) v = true
is_left_out (Advance id count n) v = true
is_left_out (Read id bytes fin used before item n) v = true
is_left_out (Deliver id bytes n) v = true
is_left_out (DeliverEnd id n) v = true
is_left_out (DeliverReset id code n) v = true
is_left_out (ReadDatagram bytes id_before id from_before from n) v = is_none v.endpoint.closed && (n.number == 2)
is_left_out _ v = false

-- What C gives are bytes.
abbrev pub GivesBytes : CallOfC → Type 0
GivesBytes (SendHead id sizes flags bytes n) = AreBytes bytes
GivesBytes (SendTrailer id sizes flags bytes n) = AreBytes bytes
GivesBytes (SendBody id bytes n) = AreBytes bytes
GivesBytes _ = Unit {0}

-- The number tells this answer: H3_OK that of success, and any other one why the call was refused.
abbrev pub Tells : Answer → Told → Answer → Type 0
Tells success n (answer.Refused r) = n ≡ refusal_told r
Tells success n a = (n ≡ ok) × (a ≡ success)

-- The same of a list, by the choices of the endpoint: of a field that is malformed it has the index.
abbrev pub TellsSent : Choices → Option (List Field) → Told → Answer → Type 0
TellsSent choices None n a = ⊥
TellsSent choices (Some fields) n (answer.Refused r) = TellsList (Err r) choices fields n
TellsSent choices (Some fields) n a = (n ≡ ok) × (a ≡ answer.Done)

-- The answer that C learns by the call, after which its handle owns w. Of a pull it is the item, whose fields and bytes the calls give that
-- read what was pulled last (`ItemFields` and `ItemBytes` of `Does`).
abbrev pub Learns : CallOfC → Seen → Answer → Type 0
Learns (OpenRequest before id n) w a = Tells (answer.Opened id) n a
Learns (SendHead id sizes flags bytes n) w a = TellsSent w.endpoint.announced.choices (fields_given sizes flags bytes) n a
Learns (SendTrailer id sizes flags bytes n) w a = TellsSent w.endpoint.announced.choices (fields_given sizes flags bytes) n a
Learns (SendBody id bytes n) w a = Tells answer.Done n a
Learns (Finish id n) w a = Tells answer.Done n a
Learns (Reset id n) w a = Tells answer.Done n a
Learns (Cancel id n) w a = Tells answer.Done n a
Learns (Goaway id n) w a = Tells answer.Done n a
Learns (Pull id before item n) w a = (n ≡ ok) × (item ≡ shown w.last) × (a ≡ answer.Listed w.last)
Learns _ w a = ⊥
