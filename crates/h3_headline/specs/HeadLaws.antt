-- A head and a trailer: what the ends answer, and where they stand.
use Rattle.std.proofs.Common.{List, [], ◌∷◌, ◌++◌, ◌≡◌, ℕ, true, false, refl, sym, ap, ◌∙◌, subst, Bool, if◌then◌else◌, Some, None, Option}
use Rattle.std.specs.List.{AllByRecursion}
use Rattle.h3_field.specs.Field.{Field, section_size}
use Rattle.h3_proto.specs.declared.stream.Side.{Side}
use Rattle.h3_qpack.specs.Encodings.{IsWrittenInstruction}
use Rattle.h3_connection.specs.Endpoint.{Own, EndpointHistory}
use Rattle.h3_connection.specs.Outgoing.{OwnPart, takes_head, is_unsent, takes_body, last_is_trailer}
use Rattle.h3_connection.specs.OwnIds.{other, encoder_id}
use Rattle.h3_connection.specs.Sections.{written_section, own_instructions}
use Rattle.h3_connection.specs.Lasts.{last_id}
use Rattle.h3_connection.specs.StrictConnection.{begins_none_after}
use Rattle.h3_connection.specs.Refusals.{is_too_large, first_of, refusal_of_head, refusal_of_trailer, unless_going}
use Rattle.h3_connection.specs.Sending.{appended as part_appended, broken_head_at, counted, encoded, fields_cost, asked, head_part, does, content_of_own, known_of, saying_at, telling_at}
use Rattle.h3_connection.specs.StreamSets.{stream_at}
use Rattle.h3_world.specs.declared.event.Answer.TheVariants as answer
use Rattle.h3_world.specs.Ends.{Ends, end_at, answered}
use Rattle.h3_world.specs.Flow.{Flow, Section, Part}
use Rattle.h3_world.specs.Order.{outgoing_of}
use Rattle.h3_world.specs.Sending.{appended, having_encoded, section_sent, with_section}
use Rattle.h3_world.specs.Streams.{flow, is_open}
use Rattle.h3_world.specs.World.{World, party, with_party}
use Rattle.h3_connection.specs.Remembering as remembering
use Rattle.h3_world.specs.Came.{settings_known}
use Rattle.h3_world.specs.Setup.{Setup, announced_at, IsPlain, takes_any}
use Rattle.std.specs.Prelude.{option_map, not, ◌&&◌, is_some, ◌||◌}
use Rattle.h3_connection.specs.StrictMessages.{malformation_by}
use Rattle.h3_connection.specs.StrictSending.{broken_protocol, violation_of_own_head, broken_trailer, unless_malformed, early_trailer}
use Rattle.h3_connection.specs.Sending as sender
use Rattle.h3_connection.specs.declared.event.Malformation.{Malformation}
use Rattle.h3_connection.specs.declared.event.Malformation.TheVariants as malformation
use Rattle.h3_connection.specs.declared.setup.Announced.{Announced}
use Rattle.h3_messages.specs.OwnMessages.{violation_of_own_trailer}
use Rattle.h3_header.specs.Head.{Head as Fields, head_fields, has_pseudo}
use Rattle.h3_proto.specs.declared.stream.Side.TheVariants.{Client, Server}
use Rattle.h3_connection.specs.Pulling.{is_client, is_for, is_interim}
use Rattle.h3_header.specs.HeadTests.{takes_protocol}
use Rattle.h3_header.specs.ReadsBack.{as_read}
use Rattle.h3_header.specs.Reads.{head_of_fields}
use Rattle.h3_connection.specs.Outgoing.OwnPart.{OwnInterim, OwnHead, OwnTrailer}
use Rattle.h3_connection.specs.declared.event.Refusal.{Refusal}
use Rattle.h3_connection.specs.declared.event.Refusal.TheVariants as refusal
use Rattle.h3_world.specs.declared.event.Event.TheVariants as event
use Rattle.h3_world.specs.Ends as ends_of
use Rattle.h3_world.specs.Flow.Part.{Interim, Head, Trailer}
use Rattle.h3_world.specs.Machine.{served}
use Rattle.h3_world.specs.Refusals.{none_after, sender_at}
use Rattle.h3_world.specs.Lists.{unreadable}
use Rattle.h3_world.specs.Machine as machine
use Rattle.http_uri.specs.Grammar.{or_slash}
use Rattle.h3_headline.specs.Calls.{Both, Does, Extends, Hears, IsOfSection, IsWritableAs, IsWritableHead, Serves, writing_to, written}
use Rattle.h3_headline.specs.ComingLaws.{sound_flow}
use Rattle.h3_headline.specs.DeliverLaws.{sends_at}
use Rattle.h3_headline.specs.FlowLaws.{flow-with_party, is_open-with_party, open_there}
use Rattle.h3_headline.specs.SendingLaws.{both_of, call_agrees, does_on, flow_count, flow_extended, not_refused, not_refused_open, refusal_agrees}
use Rattle.h3_headline.specs.SentLaws.{open_parts, with_body}
use Rattle.h3_headline.specs.SentPartLaws.{part_extends, sends_part}
use Rattle.h3_headline.specs.SettingsLaws.{too_large_with_meaning}
use Rattle.h3_headline.specs.Standing.{IsReadable, IsWritable, Stands, StandsAt, are_settings_there, with_meaning}
use Rattle.h3_headline.specs.WritesMoreLaws.{encoder_stream_more}
use Rattle.h3_headline.specs.WritingLaws.{hears, party_count, party_writes, sound_party}
use Rattle.h3_connection.specs.StrictSendingLaws.{not_going}

all_joined : {X : Type 0} (P : X → Type 0) (xs ys : List X) → AllByRecursion P xs → AllByRecursion P ys → AllByRecursion P (xs ++ ys)
all_joined P [] ys h k = k
all_joined P (x ∷ xs) ys h k = (h.0, all_joined P xs ys h.1 k)

-- **A section goes out.**
section_does : (setup : Setup) (w : World) (ends : Ends) (side : Side) (id : ℕ) (fields : List Field) (kind : Section → Part) (own : List ℕ → OwnPart) → Stands setup w ends → IsOfSection kind own
    → is_open w side id ≡ true → (outgoing_of (flow w side id)).is_finished ≡ false → IsReadable setup (other side) (kind (section_sent (party w side) id fields (flow w side id)))
    → AllByRecursion IsWrittenInstruction (own_instructions (party w side).encoder id fields)
    → Does setup (with_section kind w side id fields) ends side answer.Done answer.Done
    (counted (part_appended (encoded (end_at ends side) id fields) id (own (written_section (end_at ends side).encoder id fields))) (fields_cost fields))
section_does setup w ends side id fields kind own h of_section opened unfinished readable instructions =
    let e = end_at ends side in
    let f = end_at ends (other side) in
    let b = both_of setup w side ends h in
    let old = party w side in
    let p = having_encoded old id fields in
    let u = with_party w side p in
    let to = flow w side id in
    let part = kind (section_sent old id fields to) in
    let g = appended to part in
    let v = with_section kind w side id fields in
    let new = counted (part_appended (encoded e id fields) id (own (written_section e.encoder id fields))) (fields_cost fields) in
    let mid = record e { own = p.own; encoder = p.encoder } in
    let k = hears setup w side f b.there in
    let heard : Hears setup side p.own f =
    record {
      control = k.control;
      encoder_stream = encoder_stream_more setup (other side) old.own.encoder_taken old.own.instructions (own_instructions old.encoder id fields) (stream_at f.unidirectional (encoder_id (other (other side)))) f.encoder_on f.decoding
          (sound_party setup w side h.sound).writer.encoder k.encoder_stream;
      decoder_stream = k.decoder_stream;
    } in
    let writes : IsWritable side p.own =
    record {
      goaways = b.writes_here.goaways;
      instructions = all_joined IsWrittenInstruction old.own.instructions (own_instructions old.encoder id fields) b.writes_here.instructions instructions;
      replies = b.writes_here.replies;
      updates = b.writes_here.updates;
    } in
    let midway : Both setup u side mid f = party_writes setup w side p e f b heard writes in
    let extends : Extends setup side (flow u side id) g =
    subst (λ (o : Flow). Extends setup side o g) (sym (flow-with_party w side side p id)) (part_extends setup old side to part (sound_flow setup w side id h.sound (open_there w side id opened)) readable) in
    let stream = (sends_at setup w side id e b.here opened).stream in
    let is : new ≡ writing_to e id p new.sent (outgoing_of g) =
    ap (λ (o : Own). written e own id fields new.sent o e.encoder (stream_at e.outgoing id)) b.here.own
    ∙ ap (λ s. written e own id fields new.sent old.own s (stream_at e.outgoing id)) b.here.encoder
    ∙ ap (written e own id fields new.sent old.own old.encoder) stream
    ∙ ap (writing_to e id p new.sent) (sends_part to part (own (written_section old.encoder id fields)) (of_section.wrote (section_sent old id fields to)) (of_section.more (section_sent old id fields to)) unfinished) in
    does_on setup w v ends side answer.Done new h refl (flow_count u side id g ∙ party_count w side p)
    (subst (λ x. Both setup v side x f) (sym is)
    (flow_extended setup u side id new.sent g mid f midway (is_open-with_party w side side p id ∙ opened) extends))

-- the peer's section size, as far as it is known
too_large_agrees : (setup : Setup) (w : World) (side : Side) (e : EndpointHistory) (fields : List Field) → StandsAt setup w side e
    → is_too_large (remembering.settings_known e.announced e.peer.settings) fields ≡ is_too_large (settings_known setup w side) fields
too_large_agrees setup w side e fields h =
    ap (λ (a : Announced). is_too_large (remembering.settings_known a e.peer.settings) fields) h.announced
    ∙ ap (λ r. is_too_large (remembering.settings_or r e.peer.settings) fields) h.remembered
    ∙ ap (λ o. is_too_large o fields) h.control.settings ∙ by_there (are_settings_there setup (other side) (party w (other side)).own.control_taken)
  where
    by_there : (t : Bool) → is_too_large (if t then Some (with_meaning (announced_at setup (other side)).settings) else None) fields ≡ is_too_large (if t then Some (announced_at setup (other side)).settings else None) fields
    by_there true = too_large_with_meaning (announced_at setup (other side)).settings fields
    by_there false = refl

-- an endpoint that asks for no strict messages refuses no list by their rules
no_broken_head : (setup : Setup) (w : World) (side : Side) (e : EndpointHistory) (id : ℕ) (fields : List Field) → IsPlain (announced_at setup side) → StandsAt setup w side e → broken_head_at e id fields ≡ None
no_broken_head setup w side e id fields plain h =
    ap (λ b. let rule : Option Malformation = if b then option_map malformation_by (violation_of_own_head e.side (remembering.settings_known e.announced e.peer.settings) (known_of (stream_at e.incoming id)) fields) else None in rule) (ap (λ (a : Announced). a.choices.strict_messages) h.announced ∙ plain.0)

no_broken_trailer : (setup : Setup) (w : World) (side : Side) (e : EndpointHistory) (fields : List Field) → IsPlain (announced_at setup side) → StandsAt setup w side e → broken_trailer e.announced fields ≡ None
no_broken_trailer setup w side e fields plain h =
    ap (λ b. let rule : Option Malformation = if b then option_map malformation_by (violation_of_own_trailer fields) else None in rule) (ap (λ (a : Announced). a.choices.strict_messages) h.announced ∙ plain.0)

-- a protocol that the side takes is not refused
protocol_taken : (setup : Setup) (w : World) (side : Side) (e : EndpointHistory) (head : Fields) → takes_protocol (takes_any (announced_at setup side)) head.protocol ≡ true → StandsAt setup w side e → broken_protocol e.announced head ≡ None
protocol_taken setup w side e head taken h =
    ap (λ b. let rule : Option Malformation = if b then None else Some malformation.Value in rule) (ap (λ (a : Announced). takes_protocol (takes_any a) head.protocol) h.announced ∙ taken)

-- a head with a status from 100 to 199 is no request
only_client : (reader : Side) (head : Fields) → is_for reader head ≡ true → is_interim head.status ≡ true → is_client reader ≡ true
only_client Client head fits interim = refl
only_client Server head fits interim = absurd (by_status head.status fits interim)
  where
    by_status : (o : Option ℕ) → (is_some head.method && not (is_some o)) ≡ true → is_interim o ≡ true → ⊥
    by_status None a b = cc
    by_status (Some n) a b = no_second (is_some head.method) a
      where
        no_second : (t : Bool) → (t && false) ≡ true → ⊥
        no_second true x = cc
        no_second false x = cc

pub for_read : (reader : Side) (head : Fields) → is_for reader (as_read head) ≡ is_for reader head
for_read Client head = refl
for_read Server head = refl

turned : (b : Bool) → not b ≡ false → b ≡ true
turned true e = refl
turned false e = cc

-- an end that judges plainly remembers nothing of a head
unasked : (setup : Setup) (w : World) (side : Side) (e f : EndpointHistory) (id : ℕ) (fields : List Field) → IsPlain (announced_at setup side) → StandsAt setup w side e → f.announced ≡ e.announced → asked f id fields ≡ f
unasked setup w side e f id fields plain h same =
    let is : f.announced.choices.strict_messages ≡ false = ap (λ (a : Announced). a.choices.strict_messages) (same ∙ h.announced) ∙ plain.0 in
    ap (λ b. let g : EndpointHistory = record f {
      incoming = if b then telling_at f.side f.incoming id fields (stream_at f.incoming id) else f.incoming;
      outgoing = if b then saying_at f.outgoing id (content_of_own f.side (known_of (stream_at f.incoming id)) fields) (stream_at f.outgoing id) else f.outgoing;
    } in g) is

-- a GOAWAY of the peer counts as the world has it
going_agrees : (setup : Setup) (w : World) (side : Side) (e : EndpointHistory) → StandsAt setup w side e → begins_none_after e.announced e.side (last_id e.peer.goaways) ≡ none_after setup w side
going_agrees setup w side e h =
    ap (λ a. begins_none_after a e.side (last_id e.peer.goaways)) h.announced ∙ ap (λ s. begins_none_after (announced_at setup side) s (last_id e.peer.goaways)) h.side_is
    ∙ ap (λ ids. begins_none_after (announced_at setup side) side (last_id ids)) h.control.goaways_are

-- no pseudo-header field is read of one that has none
pub pseudo_read : (head : Fields) → has_pseudo (as_read head) ≡ has_pseudo head
pseudo_read head = ap (λ b. is_some head.method || is_some head.scheme || is_some head.authority || b || is_some head.status || is_some head.protocol) (some_path head.path)
  where
    some_path : (o : Option (List ℕ)) → is_some (option_map or_slash o) ≡ is_some o
    some_path None = refl
    some_path (Some x) = refl

-- what is not malformed
not_malformed : (o : Option Malformation) (rules : List (Bool × Refusal)) → first_of (unless_malformed o rules) ≡ None → (o ≡ None) × (first_of rules ≡ None)
not_malformed None rules e = (refl, e)
not_malformed (Some why) rules e = cc

-- A head goes out as these fields. What is malformed of it is told at the end as in the world; where nothing is, the fields can be sent as this head.
heads_served : (setup : Setup) (w : World) (ends : Ends) (side : Side) (id : ℕ) (head : Fields) (fields : List Field) (told broken : Option Malformation) → IsPlain (announced_at setup side) → Stands setup w ends → told ≡ broken
    → (broken ≡ None → IsWritableAs setup w side id head fields)
    → Serves setup
    (ends_of.done ends side answer.Done
    (does (sender.unless_closed (end_at ends side) (refusal_of_head (sender.sender_at (end_at ends side) id) told (broken_head_at (end_at ends side) id fields) head fields)) (end_at ends side)
    (asked (counted (part_appended (encoded (end_at ends side) id fields) id (head_part head (written_section (end_at ends side).encoder id fields))) (fields_cost fields)) id fields)))
    (machine.done (refusal_of_head (sender_at setup w side id) broken None head fields) w answer.Done (with_section (if is_interim head.status then Interim else Head) w side id fields))
heads_served setup w ends side id head fields told broken plain h same writable =
    let e = end_at ends side in
    let b = both_of setup w side ends h in
    let size = refusal.TooLarge (section_size fields) in
    let to = outgoing_of (flow w side id) in
    let new = counted (part_appended (encoded e id fields) id (head_part head (written_section e.encoder id fields))) (fields_cost fields) in
    let going = begins_none_after e.announced e.side (last_id e.peer.goaways) in
    let none = none_after setup w side in
    let after = with_section (if is_interim head.status then Interim else Head) w side id fields in
    let here = refusal_of_head (sender.sender_at e id) told (broken_head_at e id fields) head fields in
    let there = refusal_of_head (sender_at setup w side id) broken None head fields in
    subst (λ n. Serves setup (ends_of.done ends side answer.Done (does (sender.unless_closed e here) e n)) (machine.done there w answer.Done after)) (sym (unasked setup w side e new id fields plain b.here refl))
    (call_agrees setup w after ends side answer.Done answer.Done (sender.unless_closed e here) there new h
    (refusal_agrees setup w side id e (λ o. (not (takes_head o), refusal.OutOfOrder) ∷ unless_going going (unless_malformed told ((not (is_for (other e.side) head), refusal.WrongSide) ∷ unless_malformed (broken_head_at e id fields) ((is_too_large (remembering.settings_known e.announced e.peer.settings) fields, size) ∷ [])))) b.here
    ∙ ap (λ g. first_of ((not (is_open w side id), refusal.NotOpen) ∷ (not (takes_head to), refusal.OutOfOrder) ∷ unless_going g (unless_malformed told ((not (is_for (other e.side) head), refusal.WrongSide) ∷ unless_malformed (broken_head_at e id fields) ((is_too_large (remembering.settings_known e.announced e.peer.settings) fields, size) ∷ [])))))
    (going_agrees setup w side e b.here)
    ∙ ap (λ p. first_of ((not (is_open w side id), refusal.NotOpen) ∷ (not (takes_head to), refusal.OutOfOrder) ∷ unless_going none (unless_malformed p ((not (is_for (other e.side) head), refusal.WrongSide) ∷ unless_malformed (broken_head_at e id fields) ((is_too_large (remembering.settings_known e.announced e.peer.settings) fields, size) ∷ []))))) same
    ∙ ap (λ m. first_of ((not (is_open w side id), refusal.NotOpen) ∷ (not (takes_head to), refusal.OutOfOrder) ∷ unless_going none (unless_malformed broken ((not (is_for (other e.side) head), refusal.WrongSide) ∷ unless_malformed m ((is_too_large (remembering.settings_known e.announced e.peer.settings) fields, size) ∷ [])))))
    (no_broken_head setup w side e id fields plain b.here)
    ∙ ap (λ s. first_of ((not (is_open w side id), refusal.NotOpen) ∷ (not (takes_head to), refusal.OutOfOrder) ∷ unless_going none (unless_malformed broken ((not (is_for (other s) head), refusal.WrongSide) ∷ (is_too_large (remembering.settings_known e.announced e.peer.settings) fields, size) ∷ [])))) b.here.side_is
    ∙ ap (λ t. first_of ((not (is_open w side id), refusal.NotOpen) ∷ (not (takes_head to), refusal.OutOfOrder) ∷ unless_going none (unless_malformed broken ((not (is_for (other side) head), refusal.WrongSide) ∷ (t, size) ∷ [])))) (too_large_agrees setup w side e fields b.here))
    (λ goes.
    let last = (is_too_large (settings_known setup w side) fields, size) ∷ [] in
    let behind = (not (is_for (other side) head), refusal.WrongSide) ∷ last in
    let o = not_refused_open (is_open w side id) ((not (takes_head to), refusal.OutOfOrder) ∷ unless_going none (unless_malformed broken behind)) goes in
    let t = not_refused (not (takes_head to)) refusal.OutOfOrder (unless_going none (unless_malformed broken behind)) o.1 in
    let m = not_malformed broken behind (not_going none (unless_malformed broken behind) t.1) in
    let s = not_refused (not (is_for (other side) head)) refusal.WrongSide last m.1 in
    by_interim (writable m.0) (is_interim head.status) refl o.0 (open_parts to.is_finished to.is_reset (is_unsent to.parts) t.0).0 (turned (is_for (other side) head) s.0)))
  where
    by_interim : IsWritableAs setup w side id head fields → (i : Bool) → is_interim head.status ≡ i → is_open w side id ≡ true → (outgoing_of (flow w side id)).is_finished ≡ false → is_for (other side) head ≡ true
        → Does setup (with_section (if i then Interim else Head) w side id fields) ends side answer.Done answer.Done
        (counted (part_appended (encoded (end_at ends side) id fields) id
        (if i then OwnInterim (written_section (end_at ends side).encoder id fields) else OwnHead (written_section (end_at ends side).encoder id fields))) (fields_cost fields))
    by_interim writable true i opened unfinished fits =
        section_does setup w ends side id fields Interim OwnInterim h (record { wrote = λ s. refl; more = λ s. refl }) opened unfinished
        (only_client (other side) head fits i, writable.is_for (other side) ∙ fits, writable.is_interim ∙ i, writable.reads) writable.instructions
    by_interim writable false i opened unfinished fits =
        section_does setup w ends side id fields Head OwnHead h (record { wrote = λ s. refl; more = λ s. refl }) opened unfinished
        (writable.is_for (other side) ∙ fits, never (is_client (other side)), writable.reads) writable.instructions
      where
        never : (c : Bool) → (c && is_interim (head_of_fields fields).status) ≡ false
        never true = writable.is_interim ∙ i
        never false = refl

-- **A head.**
pub head_served : (setup : Setup) (w : World) (ends : Ends) (side : Side) (id : ℕ) (head : Fields) → IsPlain (announced_at setup side) → Stands setup w ends → IsWritableHead setup w side id head
    → Serves setup (answered ends (event.Head side id head)) (served setup w (event.Head side id head))
head_served setup w ends side id head plain h writable =
    let e = end_at ends side in
    heads_served setup w ends side id head (head_fields head) (broken_protocol e.announced head) None plain h (protocol_taken setup w side e head writable.taken (both_of setup w side ends h).here) (λ none. writable.writable)

-- what an end reads of a list is what its side announced
unreadable_agrees : (setup : Setup) (w : World) (side : Side) (e : EndpointHistory) (fields : List Field) → StandsAt setup w side e → unreadable (takes_any e.announced) fields ≡ unreadable (takes_any (announced_at setup side)) fields
unreadable_agrees setup w side e fields h = ap (λ (a : Announced). unreadable (takes_any a) fields) h.announced

-- **A list as a head.**
pub fields_served : (setup : Setup) (w : World) (ends : Ends) (side : Side) (id : ℕ) (fields : List Field) → IsPlain (announced_at setup side) → Stands setup w ends
    → (unreadable (takes_any (announced_at setup side)) fields ≡ None → IsWritableAs setup w side id (head_of_fields fields) fields)
    → Serves setup (answered ends (event.Fields side id fields)) (served setup w (event.Fields side id fields))
fields_served setup w ends side id fields plain h writable =
    let e = end_at ends side in
    heads_served setup w ends side id (head_of_fields fields) fields (unreadable (takes_any e.announced) fields) (unreadable (takes_any (announced_at setup side)) fields) plain h
    (unreadable_agrees setup w side e fields (both_of setup w side ends h).here) writable

-- A trailer goes out as these fields.
trailers_served : (setup : Setup) (w : World) (ends : Ends) (side : Side) (id : ℕ) (head : Fields) (fields : List Field) (told broken : Option Malformation) → IsPlain (announced_at setup side) → Stands setup w ends → told ≡ broken
    → (broken ≡ None → IsWritableAs setup w side id head fields)
    → Serves setup
    (ends_of.done ends side answer.Done
    (does (sender.unless_closed (end_at ends side) (refusal_of_trailer (sender.sender_at (end_at ends side) id) told (early_trailer (sender.outgoing_at (end_at ends side) id).content) (broken_trailer (end_at ends side).announced fields) head fields)) (end_at ends side)
    (counted (part_appended (encoded (end_at ends side) id fields) id (OwnTrailer (written_section (end_at ends side).encoder id fields))) (fields_cost fields))))
    (machine.done (refusal_of_trailer (sender_at setup w side id) broken None None head fields) w answer.Done (with_section Trailer w side id fields))
trailers_served setup w ends side id head fields told broken plain h same writable =
    let e = end_at ends side in
    let b = both_of setup w side ends h in
    let size = refusal.TooLarge (section_size fields) in
    let to = outgoing_of (flow w side id) in
    call_agrees setup w (with_section Trailer w side id fields) ends side answer.Done answer.Done
    (sender.unless_closed e (refusal_of_trailer (sender.sender_at e id) told (early_trailer (sender.outgoing_at e id).content) (broken_trailer e.announced fields) head fields))
    (refusal_of_trailer (sender_at setup w side id) broken None None head fields)
    (counted (part_appended (encoded e id fields) id (OwnTrailer (written_section e.encoder id fields))) (fields_cost fields)) h
    (refusal_agrees setup w side id e (λ o. (not (takes_body o), refusal.OutOfOrder) ∷ unless_malformed told ((has_pseudo head, refusal.PseudoInTrailer) ∷ unless_malformed (early_trailer o.content) (unless_malformed (broken_trailer e.announced fields) ((is_too_large (remembering.settings_known e.announced e.peer.settings) fields, size) ∷ [])))) b.here
    ∙ ap (λ p. first_of ((not (is_open w side id), refusal.NotOpen) ∷ (not (takes_body to), refusal.OutOfOrder) ∷ unless_malformed p ((has_pseudo head, refusal.PseudoInTrailer) ∷ unless_malformed (early_trailer to.content) (unless_malformed (broken_trailer e.announced fields) ((is_too_large (remembering.settings_known e.announced e.peer.settings) fields, size) ∷ []))))) same
    ∙ ap (λ m. first_of ((not (is_open w side id), refusal.NotOpen) ∷ (not (takes_body to), refusal.OutOfOrder) ∷ unless_malformed broken ((has_pseudo head, refusal.PseudoInTrailer) ∷ unless_malformed m ((is_too_large (remembering.settings_known e.announced e.peer.settings) fields, size) ∷ []))))
    (no_broken_trailer setup w side e fields plain b.here)
    ∙ ap (λ t. first_of ((not (is_open w side id), refusal.NotOpen) ∷ (not (takes_body to), refusal.OutOfOrder) ∷ unless_malformed broken ((has_pseudo head, refusal.PseudoInTrailer) ∷ (t, size) ∷ []))) (too_large_agrees setup w side e fields b.here))
    (λ goes.
    let last = (is_too_large (settings_known setup w side) fields, size) ∷ [] in
    let behind = (has_pseudo head, refusal.PseudoInTrailer) ∷ last in
    let o = not_refused_open (is_open w side id) ((not (takes_body to), refusal.OutOfOrder) ∷ unless_malformed broken behind) goes in
    let t = not_refused (not (takes_body to)) refusal.OutOfOrder (unless_malformed broken behind) o.1 in
    let m = not_malformed broken behind t.1 in
    let s = not_refused (has_pseudo head) refusal.PseudoInTrailer last m.1 in
    let k = writable m.0 in
    section_does setup w ends side id fields Trailer OwnTrailer h (record { wrote = λ s. refl; more = λ s. refl }) o.0 (with_body to.is_finished to.is_reset (not (is_unsent to.parts)) (not (last_is_trailer to.parts)) t.0).0
    (k.has_pseudo ∙ s.0, k.reads) k.instructions)

-- **A trailer.**
pub trailer_served : (setup : Setup) (w : World) (ends : Ends) (side : Side) (id : ℕ) (head : Fields) → IsPlain (announced_at setup side) → Stands setup w ends → IsWritableHead setup w side id head
    → Serves setup (answered ends (event.Trailer side id head)) (served setup w (event.Trailer side id head))
trailer_served setup w ends side id head plain h writable =
    let e = end_at ends side in
    trailers_served setup w ends side id head (head_fields head) (broken_protocol e.announced head) None plain h (protocol_taken setup w side e head writable.taken (both_of setup w side ends h).here) (λ none. writable.writable)

-- **A list as a trailer.**
pub trailer_fields_served : (setup : Setup) (w : World) (ends : Ends) (side : Side) (id : ℕ) (fields : List Field) → IsPlain (announced_at setup side) → Stands setup w ends
    → (unreadable (takes_any (announced_at setup side)) fields ≡ None → IsWritableAs setup w side id (head_of_fields fields) fields)
    → Serves setup (answered ends (event.TrailerFields side id fields)) (served setup w (event.TrailerFields side id fields))
trailer_fields_served setup w ends side id fields plain h writable =
    let e = end_at ends side in
    trailers_served setup w ends side id (head_of_fields fields) fields (unreadable (takes_any e.announced) fields) (unreadable (takes_any (announced_at setup side)) fields) plain h
    (unreadable_agrees setup w side e fields (both_of setup w side ends h).here) writable
