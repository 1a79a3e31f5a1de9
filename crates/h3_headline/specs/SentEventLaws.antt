-- A call of a sender, and what an end shows: it happens in the world, and both ends stand in it after that.
use Rattle.std.proofs.Common.{◌≡◌, ◌<◌, ◌^◌, Bool, true, false, length, subst, ℕ, List, [], Option, None, refl, ap, ◌∙◌}
use Rattle.std.specs.Prelude.{◌&&◌}
use Rattle.h3_proto.specs.declared.stream.Side.{Side}
use Rattle.h3_proto.specs.declared.stream.Side.TheVariants.{Client, Server}
use Rattle.h3_connection.specs.OwnIds.{other}
use Rattle.h3_qpack.specs.EncoderHistory.{EncoderHistory}
use Rattle.h3_world.specs.Sound.{IsSoundWorld}
use Rattle.h3_world.specs.World.{World, party}
use Rattle.h3_field.specs.Field.{Field}
use Rattle.h3_header.specs.Head.{Head as Fields, has_pseudo, head_fields, trailer_head}
use Rattle.h3_header.specs.HeadRead.{HeadRead, IsHead, IsNone, head_by}
use Rattle.h3_header.specs.Reads.{AcceptsAll, head_of_fields}
use Rattle.h3_connection.specs.Pulling.{is_for, is_interim}
use Rattle.h3_world.specs.Lists.{unread_by, unreadable}
use Rattle.h3_header.specs.HeadTests.{takes_protocol}
use Rattle.h3_header.specs.TakenLaws.{takes_named}
use Rattle.h3_world.specs.Sendable.{IsSendableHead, IsSendableList, IsSendable}
use Rattle.h3_world.specs.declared.event.Event.TheVariants as event
use Rattle.h3_world.specs.Ends.{Ends}
use Rattle.h3_world.specs.Setup.{IsMadeSetup, IsPlain, Setup, announced_at, both_take_any, takes_any}
use Rattle.h3_headline.specs.Calls.{IsWritableAs, IsWritableHead}
use Rattle.h3_headline.specs.CancelLaws.{cancel_served}
use Rattle.h3_headline.specs.Cited.{Laws, ReadingLaws, StreamLaws}
use Rattle.h3_headline.specs.HeadLaws.{fields_served, for_read, head_served, pseudo_read, trailer_fields_served, trailer_served}
use Rattle.h3_headline.specs.OpeningLaws.{open_served}
use Rattle.h3_headline.specs.SenderEventLaws.{served_stands}
use Rattle.h3_headline.specs.SentLaws.{body_served, finish_served, reset_served}
use Rattle.h3_headline.specs.ShowingLaws.{show_served}
use Rattle.h3_headline.specs.Standing.{Stands}
use Rattle.h3_headline.specs.Steps.{StandsOn}
use Rattle.h3_headline.specs.WritingLaws.{goaway_served, sound_party}

-- numbers of entries stay below 2^62
few_inserted : (laws : StreamLaws) (setup : Setup) (w : World) (side : Side) → IsSoundWorld setup w → length (party w side).encoder.inserted < 2 ^ 62
few_inserted laws setup w side sound =
    let h = (sound_party setup w side sound).session in
    subst (λ (s : EncoderHistory). length s.inserted < 2 ^ 62) h.follows.encoder (laws.sound h.counts h.most 0 0 h.events h.session h.run).small

-- what is taken where both choices are on is taken where one of them is
first_takes : (a b : Bool) (protocol : Option (List ℕ)) → takes_protocol (a && b) protocol ≡ true → takes_protocol a protocol ≡ true
first_takes true true protocol taken = taken
first_takes true false protocol taken = takes_named true protocol taken
first_takes false b protocol taken = taken

second_takes : (a b : Bool) (protocol : Option (List ℕ)) → takes_protocol (a && b) protocol ≡ true → takes_protocol b protocol ≡ true
second_takes true b protocol taken = taken
second_takes false b protocol taken = takes_named b protocol taken

-- each side takes what both take
pub each_takes : (setup : Setup) (side : Side) (protocol : Option (List ℕ)) → takes_protocol (both_take_any setup) protocol ≡ true → takes_protocol (takes_any (announced_at setup side)) protocol ≡ true
each_takes setup Client protocol taken = first_takes (takes_any setup.client) (takes_any setup.server) protocol taken
each_takes setup Server protocol taken = second_takes (takes_any setup.client) (takes_any setup.server) protocol taken

writable_head : (laws : Laws) (setup : Setup) (w : World) (side : Side) (id : ℕ) (head : Fields) → IsSoundWorld setup w → IsSendableHead (both_take_any setup) head → IsWritableHead setup w side id head
writable_head laws setup w side id head sound sendable =
    record {
      taken = each_takes setup side head.protocol sendable.taken;
      writable = record {
        reads = (sendable.reads_back (takes_any (announced_at setup (other side))) (each_takes setup (other side) head.protocol sendable.taken)).0;
        is_for = λ reader. ap (is_for reader) sendable.read_as ∙ for_read reader head;
        is_interim = ap (λ (x : Fields). is_interim x.status) sendable.read_as;
        has_pseudo = ap has_pseudo sendable.read_as ∙ pseudo_read head;
        instructions = laws.written (party w side).encoder id (head_fields head) (few_inserted laws.streams setup w side sound) sendable.section.of_bytes sendable.section.small;
      };
    }

-- what one side reads as a header reads so where any protocol is taken
reads_any : (laws : ReadingLaws) (any : Bool) (fields : List Field) (h : Fields) → head_by any fields ≡ IsHead h → head_by true fields ≡ IsHead h
reads_any laws true fields h is = is
reads_any laws false fields h is = laws.named true fields h (laws.is_head false fields h is)

-- and what reads so where both sides take it is accepted by each
first_reads : (laws : ReadingLaws) (a b : Bool) (fields : List Field) (h : Fields) → head_by (a && b) fields ≡ IsHead h → AcceptsAll a (trailer_head []) fields
first_reads laws true true fields h is = (laws.is_head true fields h is).0
first_reads laws true false fields h is = (laws.is_head true fields h (reads_any laws false fields h is)).0
first_reads laws false b fields h is = (laws.is_head false fields h is).0

second_reads : (laws : ReadingLaws) (a b : Bool) (fields : List Field) (h : Fields) → head_by (a && b) fields ≡ IsHead h → AcceptsAll b (trailer_head []) fields
second_reads laws true b fields h is = (laws.is_head b fields h is).0
second_reads laws false true fields h is = (laws.is_head true fields h (reads_any laws false fields h is)).0
second_reads laws false false fields h is = (laws.is_head false fields h is).0

each_reads : (laws : ReadingLaws) (setup : Setup) (side : Side) (fields : List Field) (h : Fields) → head_by (both_take_any setup) fields ≡ IsHead h → AcceptsAll (takes_any (announced_at setup side)) (trailer_head []) fields
each_reads laws setup Client fields h is = first_reads laws (takes_any setup.client) (takes_any setup.server) fields h is
each_reads laws setup Server fields h is = second_reads laws (takes_any setup.client) (takes_any setup.server) fields h is

-- a list that is read
is_read : (read : HeadRead) → unread_by read ≡ None → (h : Fields) × (read ≡ IsHead h)
is_read (IsHead h) e = (h, refl)
is_read (IsNone why) e = cc

-- So a list that may be sent and that one side reads is accepted by each.
pub list_accepted : (laws : ReadingLaws) (setup : Setup) (any : Bool) (reader : Side) (fields : List Field) → IsSendableList (both_take_any setup) fields → unreadable any fields ≡ None → AcceptsAll (takes_any (announced_at setup reader)) (trailer_head []) fields
list_accepted laws setup any reader fields sendable none =
    let read = is_read (head_by any fields) none in
    each_reads laws setup reader fields read.0 (sendable.taken read.0 (reads_any laws any fields read.0 read.1))

writable_list : (laws : Laws) (setup : Setup) (w : World) (side : Side) (id : ℕ) (fields : List Field) → IsSoundWorld setup w → IsSendableList (both_take_any setup) fields
    → unreadable (takes_any (announced_at setup side)) fields ≡ None → IsWritableAs setup w side id (head_of_fields fields) fields
writable_list laws setup w side id fields sound sendable none =
    record {
      reads = list_accepted laws.reading setup (takes_any (announced_at setup side)) (other side) fields sendable none;
      is_for = λ reader. refl;
      is_interim = refl;
      has_pseudo = refl;
      instructions = laws.written (party w side).encoder id fields (few_inserted laws.streams setup w side sound) sendable.section.of_bytes sendable.section.small;
    }

pub opened_on : (laws : Laws) (setup : Setup) (w : World) (ends : Ends) (side : Side) → IsSendable setup (event.OpenRequest side) → Stands setup w ends → StandsOn setup w ends (event.OpenRequest side)
opened_on laws setup w ends side sendable h = served_stands laws.worlds setup w ends (event.OpenRequest side) sendable h (open_served setup w ends side h)

pub head_on : (laws : Laws) (setup : Setup) (w : World) (ends : Ends) (side : Side) (id : ℕ) (head : Fields) → IsPlain (announced_at setup side) → IsSendable setup (event.Head side id head) → Stands setup w ends
    → StandsOn setup w ends (event.Head side id head)
head_on laws setup w ends side id head plain sendable h =
    served_stands laws.worlds setup w ends (event.Head side id head) sendable h (head_served setup w ends side id head plain h (writable_head laws setup w side id head h.sound sendable))

pub trailer_on : (laws : Laws) (setup : Setup) (w : World) (ends : Ends) (side : Side) (id : ℕ) (trailer : Fields) → IsPlain (announced_at setup side) → IsSendable setup (event.Trailer side id trailer) → Stands setup w ends
    → StandsOn setup w ends (event.Trailer side id trailer)
trailer_on laws setup w ends side id trailer plain sendable h =
    served_stands laws.worlds setup w ends (event.Trailer side id trailer) sendable h (trailer_served setup w ends side id trailer plain h (writable_head laws setup w side id trailer h.sound sendable))

pub fields_on : (laws : Laws) (setup : Setup) (w : World) (ends : Ends) (side : Side) (id : ℕ) (fields : List Field) → IsPlain (announced_at setup side) → IsSendable setup (event.Fields side id fields) → Stands setup w ends
    → StandsOn setup w ends (event.Fields side id fields)
fields_on laws setup w ends side id fields plain sendable h =
    served_stands laws.worlds setup w ends (event.Fields side id fields) sendable h (fields_served setup w ends side id fields plain h (writable_list laws setup w side id fields h.sound sendable))

pub trailer_fields_on : (laws : Laws) (setup : Setup) (w : World) (ends : Ends) (side : Side) (id : ℕ) (fields : List Field) → IsPlain (announced_at setup side) → IsSendable setup (event.TrailerFields side id fields) → Stands setup w ends
    → StandsOn setup w ends (event.TrailerFields side id fields)
trailer_fields_on laws setup w ends side id fields plain sendable h =
    served_stands laws.worlds setup w ends (event.TrailerFields side id fields) sendable h (trailer_fields_served setup w ends side id fields plain h (writable_list laws setup w side id fields h.sound sendable))

pub body_on : (laws : Laws) (setup : Setup) (w : World) (ends : Ends) (side : Side) (id : ℕ) (bytes : List ℕ) → IsSendable setup (event.Body side id bytes) → Stands setup w ends
    → StandsOn setup w ends (event.Body side id bytes)
body_on laws setup w ends side id bytes sendable h = served_stands laws.worlds setup w ends (event.Body side id bytes) sendable h (body_served setup w ends side id bytes h)

pub finish_on : (laws : Laws) (setup : Setup) (w : World) (ends : Ends) (side : Side) (id : ℕ) → IsSendable setup (event.Finish side id) → Stands setup w ends → StandsOn setup w ends (event.Finish side id)
finish_on laws setup w ends side id sendable h = served_stands laws.worlds setup w ends (event.Finish side id) sendable h (finish_served setup w ends side id h)

pub reset_on : (laws : Laws) (setup : Setup) (w : World) (ends : Ends) (side : Side) (id : ℕ) → IsSendable setup (event.Reset side id) → Stands setup w ends → StandsOn setup w ends (event.Reset side id)
reset_on laws setup w ends side id sendable h = served_stands laws.worlds setup w ends (event.Reset side id) sendable h (reset_served setup w ends side id h)

pub cancel_on : (laws : Laws) (setup : Setup) (w : World) (ends : Ends) (side : Side) (id : ℕ) → IsSendable setup (event.Cancel side id) → Stands setup w ends → StandsOn setup w ends (event.Cancel side id)
cancel_on laws setup w ends side id sendable h = served_stands laws.worlds setup w ends (event.Cancel side id) sendable h (cancel_served setup w ends side id h)

pub goaway_on : (laws : Laws) (setup : Setup) (w : World) (ends : Ends) (side : Side) (id : ℕ) → IsSendable setup (event.Goaway side id) → Stands setup w ends → StandsOn setup w ends (event.Goaway side id)
goaway_on laws setup w ends side id sendable h = served_stands laws.worlds setup w ends (event.Goaway side id) sendable h (goaway_served setup w ends side id h sendable)

pub show_on : (laws : Laws) (setup : Setup) (w : World) (ends : Ends) (side : Side) → IsMadeSetup setup → IsSendable setup (event.Show side) → Stands setup w ends → StandsOn setup w ends (event.Show side)
show_on laws setup w ends side made sendable h = served_stands laws.worlds setup w ends (event.Show side) sendable h (show_served laws.streams setup w ends side made h)
