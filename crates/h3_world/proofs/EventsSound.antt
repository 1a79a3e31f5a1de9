-- A world stays sound under every event that is not a section, nor more of an own stream.
use Rattle.std.proofs.Common.{◌≡◌, ◌⊎◌, ℕ, zero, suc, ◌+◌, ◌^◌, ◌<◌, ◌≤◌, Bool, true, false, ◌&&◌, List, [], ◌∷◌, ◌++◌, length, refl, sym, ap, ◌∙◌, subst, arith, append-nil, nat_lt, if◌then◌else◌, Option, Some, None}
use Rattle.std.specs.List.{AllByRecursion, count_by}
use Rattle.std.specs.Prelude.{is_some, slice_set, ◌==◌}
use Rattle.std.proofs.lemmas.Grind.{common_steps}
use Rattle.h3_frames.specs.Encoded.{frame_encoding}
use Rattle.h3_field.specs.Instruction.DecoderInstruction.{CancelStream}
use Rattle.h3_proto.specs.StreamIds.{is_request_stream, index_of}
use Rattle.h3_proto.specs.declared.stream.Side.{Side}
use Rattle.h3_proto.specs.declared.stream.Side.TheVariants.{Client, Server}
use Rattle.h3_connection.specs.OwnIds.{other}
use Rattle.h3_connection.specs.declared.event.Item.{Item}
use Rattle.h3_connection.specs.declared.event.Item.TheVariants as item
use Rattle.h3_connection.specs.declared.event.StreamFault.{StreamFault}
use Rattle.h3_connection.specs.declared.event.StreamFault.TheVariants as stream_fault
use Rattle.h3_world.specs.Setup.{Setup}
use Rattle.h3_world.specs.Flow.{Flow, Part, part_bytes, flow_bytes}
use Rattle.h3_world.specs.Flow.Part.{Interim, Head, Body, Trailer, End}
use Rattle.h3_world.specs.World.{World, party}
use Rattle.h3_world.specs.Came.{insertions_came}
use Rattle.h3_world.specs.Streams.{exchange, flow, with_flow, is_open}
use Rattle.h3_world.specs.Order.{last_part, next_part, is_finished, is_sent_off}
use Rattle.h3_world.specs.Sending.{appended, sent_body, finished, cut_off, given_up}
use Rattle.h3_world.specs.Delivering.{delivered_message, delivered_end, delivered_reset, reset_code}
use Rattle.h3_world.specs.Items.{HasCome, acknowledgment_of, after_item, after_piece, handed_out}
use Rattle.h3_world.specs.Pauses.{paused}
use Rattle.h3_world.specs.Following.{sections_left, section_in}
use Rattle.h3_world.specs.Sound.{IsSentPart, MayFollow, IsSoundFlow, IsSoundExchange, IsSoundWorld, WaitsForNext, counts_in, is_in_body}
use Rattle.h3_world.proofs.Enough.{EnoughCame}
use Rattle.h3_world.proofs.FlowChanges.{cut, cut_kept, end_kept, reset_kept, fault_kept, item_kept}
use Rattle.h3_world.proofs.FlowKept.{appended_kept}
use Rattle.h3_world.proofs.Flows.{IsThere, flow-with_flow, flow-with_other, other-other}
use Rattle.h3_world.proofs.HandedOut.{stream_given_up_kept}
use Rattle.h3_world.proofs.ItemsOut.{handed_out_kept}
use Rattle.h3_world.proofs.Opened.{open_is_there}
use Rattle.h3_world.proofs.Pieces.{come, delivered_kept, waiting_for, paused_kept}
use Rattle.h3_world.proofs.Sent.{sections_left-appended}
use Rattle.h3_world.proofs.SectionsSound.{above_appended}
use Rattle.h3_world.proofs.SoundFlows.{exchange_sound, flow_sound}
use Rattle.h3_world.proofs.Exchanges.{nothing_more, KeepsExchange}
use Rattle.h3_world.proofs.WorldUpdates.{party_of, flow_changed_kept, receiving_kept}

differ : true ≡ false → ⊥
differ e = grind (arith, common_steps, e)

both : (a b : Bool) → (a && b) ≡ true → (a ≡ true) × (b ≡ true)
both true b h = (refl, h)
both false b h = cc

-- a server has got something on what is open at it
pub open_seen : (w : World) (id : ℕ) → is_open w Server id ≡ true → (exchange w id).request.seen ≡ true
open_seen w id h = (both (is_request_stream id && nat_lt (index_of id) (length w.exchanges)) (exchange w id).request.seen h).1

-- what a side that sends leaves of an exchange
pub keeps_sending : (w : World) (side : Side) (id : ℕ) (f : Flow) → AllByRecursion (IsSoundExchange w) w.exchanges → is_open w side id ≡ true → f.seen ≡ (flow w side id).seen → f.fault ≡ (flow w side id).fault
    → KeepsExchange w side id f
keeps_sending w Client id f all opened seen fault = λ unseen. (sym seen ∙ unseen, fault ∙ (exchange_sound w id all).unread (sym seen ∙ unseen))
keeps_sending w Server id f all opened seen fault = λ unseen. absurd (differ (sym (open_seen w id opened) ∙ unseen))

-- what a delivery leaves of it
keeps_seen : (w : World) (side : Side) (id : ℕ) (f : Flow) → is_open w side id ≡ true → f.seen ≡ true → KeepsExchange w side id f
keeps_seen w Client id f opened seen = λ unseen. absurd (differ (sym seen ∙ unseen))
keeps_seen w Server id f opened seen = λ unseen. absurd (differ (sym (open_seen w id opened) ∙ unseen))

-- and what a receiver leaves of it
keeps_receiving : (w : World) (receiver : Side) (id : ℕ) (f : Flow) → AllByRecursion (IsSoundExchange w) w.exchanges → is_open w receiver id ≡ true → f.sent ≡ (flow w (other receiver) id).sent
    → f.seen ≡ (flow w (other receiver) id).seen → f.is_reset ≡ (flow w (other receiver) id).is_reset → KeepsExchange w (other receiver) id f
keeps_receiving w Client id f all opened sent seen reset = λ unseen.
    let u = (exchange_sound w id all).unsent unseen in
    (sent ∙ u.0, seen ∙ u.1, reset ∙ u.2)
keeps_receiving w Server id f all opened sent seen reset = λ unseen. absurd (differ (sym (open_seen w id opened) ∙ sym seen ∙ unseen))

-- a part that is no section
part_sound : (setup : Setup) (w : World) (side : Side) (id : ℕ) (part : Part) → IsSoundWorld setup w → is_open w side id ≡ true → MayFollow (last_part (flow w side id).sent) part
    → IsSentPart (party w side) (length (flow_bytes (flow w side id)) + length (part_bytes part)) part → section_in part ≡ [] → counts_in (part ∷ []) ≡ []
    → IsSoundWorld setup (with_flow w side id (appended (flow w side id) part))
part_sound setup w side id part h opened follows is none no_counts =
    let f = flow w side id in
    let p = party w side in
    let sound = flow_sound w side id h.exchanges in
    flow_changed_kept setup w side id (appended f part) h (record {
      there = open_is_there w side id opened;
      sound = appended_kept p p f part (nothing_more p) sound follows is;
      keeps = keeps_sending w side id (appended f part) h.exchanges opened refl refl;
      above = λ most. omega (arith, above_appended most f part, ap (count_by (λ count. nat_lt most count)) no_counts);
      fault = refl;
      sections = sections_left-appended f part sound.out ∙ ap (λ ss. sections_left f ++ ss) none ∙ append-nil (sections_left f);
    })

pub body_sound : (setup : Setup) (w : World) (side : Side) (id : ℕ) (bytes : List ℕ) → IsSoundWorld setup w → is_open w side id ≡ true → is_in_body (last_part (flow w side id).sent) ≡ true
    → length bytes < 2 ^ 62 → IsSoundWorld setup (sent_body w side id bytes)
body_sound setup w side id [] h opened follows short = h
body_sound setup w side id (byte ∷ bytes) h opened follows short =
    part_sound setup w side id (Body (byte ∷ bytes) (length (flow_bytes (flow w side id)) + length (frame_encoding 0 (byte ∷ bytes)))) h opened follows (omega arith, short, refl) refl refl

pub finished_sound : (setup : Setup) (w : World) (side : Side) (id : ℕ) → IsSoundWorld setup w → is_open w side id ≡ true → MayFollow (last_part (flow w side id).sent) End → IsSoundWorld setup (finished w side id)
finished_sound setup w side id h opened follows = part_sound setup w side id End h opened follows tt refl refl

-- A flow changes in marks alone.
marks_sound : (setup : Setup) (w : World) (side : Side) (id : ℕ) (g : Flow) → IsSoundWorld setup w → IsThere w id → IsSoundFlow (party w side) g → KeepsExchange w side id g → g.sent ≡ (flow w side id).sent
    → g.parts_out ≡ (flow w side id).parts_out → g.fault ≡ (flow w side id).fault → IsSoundWorld setup (with_flow w side id g)
marks_sound setup w side id g h there sound keeps sent out fault =
    flow_changed_kept setup w side id g h (record {
      there = there;
      sound = sound;
      keeps = keeps;
      above = λ most. ap (λ ps. count_by (λ count. nat_lt most count) (counts_in ps)) sent;
      fault = fault;
      sections = left_same g (flow w side id) sent out;
    })
  where
    left_same : (g f : Flow) → g.sent ≡ f.sent → g.parts_out ≡ f.parts_out → sections_left g ≡ sections_left f
    left_same g f sent out = ap (λ n. sections_left (record g { parts_out = n })) out ∙ ap (λ ps. sections_left (record f { sent = ps })) sent

pub cut_sound : (setup : Setup) (w : World) (side : Side) (id : ℕ) → IsSoundWorld setup w → is_open w side id ≡ true → is_sent_off (flow w side id) ≡ false → IsSoundWorld setup (cut_off w side id)
cut_sound setup w side id h opened not_off =
    let f = flow w side id in
    marks_sound setup w side id (cut f) h (open_is_there w side id opened) (cut_kept (party w side) f (flow_sound w side id h.exchanges) not_off) (keeps_sending w side id (cut f) h.exchanges opened refl refl) refl refl refl

pub message_sound : (setup : Setup) (w : World) (writer : Side) (id count : ℕ) → IsSoundWorld setup w → is_open w writer id ≡ true → (flow w writer id).delivered + count ≤ length (flow_bytes (flow w writer id))
    → (flow w writer id).ended ≡ false → IsSoundWorld setup (delivered_message w writer id count)
message_sound setup w writer id count h opened fits goes_on =
    let f = flow w writer id in
    marks_sound setup w writer id (come f count) h (open_is_there w writer id opened) (delivered_kept (party w writer) f count (flow_sound w writer id h.exchanges) fits goes_on)
    (keeps_seen w writer id (come f count) opened refl) refl refl refl

pub end_sound : (setup : Setup) (w : World) (writer : Side) (id : ℕ) → IsSoundWorld setup w → is_open w writer id ≡ true → is_finished (flow w writer id) ≡ true
    → (flow w writer id).delivered ≡ length (flow_bytes (flow w writer id)) → IsSoundWorld setup (delivered_end w writer id)
end_sound setup w writer id h opened finished whole =
    let f = flow w writer id in
    marks_sound setup w writer id (record f { seen = true; ended = true }) h (open_is_there w writer id opened) (end_kept (party w writer) f (flow_sound w writer id h.exchanges) finished whole)
    (keeps_seen w writer id (record f { seen = true; ended = true }) opened refl) refl refl refl

-- A receiver gives up a stream that it has not given up.
abbrev pub faulty : Flow → StreamFault → Flow
faulty f fault = record f { fault = Some fault; waits_for = 0 }

give_up_sound : (setup : Setup) (w : World) (receiver : Side) (id : ℕ) (fault : StreamFault) → IsSoundWorld setup w → IsThere w id → KeepsExchange w (other receiver) id (faulty (flow w (other receiver) id) fault)
    → (flow w (other receiver) id).fault ≡ None → IsSoundWorld setup (given_up w receiver id fault)
give_up_sound setup w receiver id fault h there keeps alive =
    let f = flow w (other receiver) id in
    receiving_kept setup w receiver id (CancelStream id ∷ []) (faulty f fault) h (record {
      there = there;
      sound = fault_kept (party w (other receiver)) f fault (flow_sound w (other receiver) id h.exchanges);
      keeps = keeps;
      above = λ most. refl;
      session = stream_given_up_kept setup w receiver id fault there alive (party_of setup w receiver h).writer.decoder (party_of setup w (other receiver) h).session;
    })

pub canceled_sound : (setup : Setup) (w : World) (receiver : Side) (id : ℕ) (fault : StreamFault) → IsSoundWorld setup w → is_open w receiver id ≡ true → (flow w (other receiver) id).fault ≡ None
    → IsSoundWorld setup (given_up w receiver id fault)
canceled_sound setup w receiver id fault h opened alive =
    give_up_sound setup w receiver id fault h (open_is_there w receiver id opened) (keeps_receiving w receiver id (faulty (flow w (other receiver) id) fault) h.exchanges opened refl refl refl) alive

pub paused_sound : (setup : Setup) (w : World) (side : Side) (id count : ℕ) → IsSoundWorld setup w → is_open w side id ≡ true
    → (count ≡ 0) ⊎ WaitsForNext (waiting_for (flow w (other side) id) count) (next_part (flow w (other side) id)) → IsSoundWorld setup (paused w side id count)
paused_sound setup w side id count h opened waits =
    let f = flow w (other side) id in
    marks_sound setup w (other side) id (waiting_for f count) h (open_is_there w side id opened) (paused_kept (party w (other side)) f count (flow_sound w (other side) id h.exchanges) waits)
    (keeps_receiving w side id (waiting_for f count) h.exchanges opened refl refl refl) refl refl refl

-- what an item leaves of the marks of a flow
pub record SameMarks (f g : Flow) : Type 0 where
  pub sent : g.sent ≡ f.sent
  pub seen : g.seen ≡ f.seen
  pub reset : g.is_reset ≡ f.is_reset

piece_marks : (f : Flow) (bytes : List ℕ) (count : ℕ) → SameMarks f (after_piece f bytes count)
piece_marks f bytes count = by_test (f.body_out + count == length bytes)
  where
    by_test : (b : Bool) → SameMarks f (if b then record f { parts_out = f.parts_out + 1; body_out = 0; waits_for = 0 } else record f { body_out = f.body_out + count; waits_for = 0 })
    by_test true = record { sent = refl; seen = refl; reset = refl }
    by_test false = record { sent = refl; seen = refl; reset = refl }

item_marks : (f : Flow) (part : Option Part) (i : Item) → SameMarks f (after_item f part i)
item_marks f (Some (Body bytes own)) (item.Body piece) = piece_marks f bytes (length piece)
item_marks f (Some (Body bytes own)) (item.Interim h) = record { sent = refl; seen = refl; reset = refl }
item_marks f (Some (Body bytes own)) (item.Head h) = record { sent = refl; seen = refl; reset = refl }
item_marks f (Some (Body bytes own)) (item.Trailer h) = record { sent = refl; seen = refl; reset = refl }
item_marks f (Some (Body bytes own)) (item.TooLarge n) = record { sent = refl; seen = refl; reset = refl }
item_marks f (Some (Body bytes own)) (item.Session n) = record { sent = refl; seen = refl; reset = refl }
item_marks f (Some (Body bytes own)) (item.Raw b) = record { sent = refl; seen = refl; reset = refl }
item_marks f (Some (Body bytes own)) item.End = record { sent = refl; seen = refl; reset = refl }
item_marks f (Some (Interim s)) i = record { sent = refl; seen = refl; reset = refl }
item_marks f (Some (Head s)) i = record { sent = refl; seen = refl; reset = refl }
item_marks f (Some (Trailer s)) i = record { sent = refl; seen = refl; reset = refl }
item_marks f (Some End) i = record { sent = refl; seen = refl; reset = refl }
item_marks f None i = record { sent = refl; seen = refl; reset = refl }

pub item_sound : (setup : Setup) (w : World) (side : Side) (id most : ℕ) (i : Item) → IsSoundWorld setup w → is_open w side id ≡ true → (flow w (other side) id).fault ≡ None
    → HasCome most (flow w (other side) id) (next_part (flow w (other side) id)) i → EnoughCame (insertions_came (party w (other side))) (next_part (flow w (other side) id)) → IsSoundWorld setup (handed_out w side id i)
item_sound setup w side id most i h opened alive has enough =
    let f = flow w (other side) id in
    let g = after_item f (next_part f) i in
    let marks = item_marks f (next_part f) i in
    receiving_kept setup w side id (acknowledgment_of id (next_part f)) g h (record {
      there = open_is_there w side id opened;
      sound = item_kept (party w (other side)) most f (next_part f) i (flow_sound w (other side) id h.exchanges) refl has;
      keeps = keeps_receiving w side id g h.exchanges opened marks.sent marks.seen marks.reset;
      above = λ n. ap (λ ps. count_by (λ count. nat_lt n count) (counts_in ps)) marks.sent;
      session = handed_out_kept setup w side id most i (open_is_there w side id opened) alive (party_of setup w side h).writer.decoder has enough (party_of setup w (other side) h).session;
    })

-- The reset of a stream comes, and its receiver gives it up unless it has.
abbrev pub with_reset : Flow → Flow
with_reset f = record f { seen = true; reset_came = true }

set_length : {X : Type 0} (xs : List X) (n : ℕ) (x : X) → length (slice_set xs n x) ≡ length xs
set_length [] n x = refl
set_length (y ∷ ys) zero x = refl
set_length (y ∷ ys) (suc n) x = ap (λ k. suc k) (set_length ys n x)

there_after : (w : World) (side : Side) (id : ℕ) (f : Flow) → IsThere w id → IsThere (with_flow w side id f) id
there_after w Client id f there = record { request = there.request; place = omega (arith, there.place, set_length w.exchanges (index_of id) (record (exchange w id) { request = f })) }
there_after w Server id f there = record { request = there.request; place = omega (arith, there.place, set_length w.exchanges (index_of id) (record (exchange w id) { response = f })) }

-- what the reset leaves of the exchange, once it came
keeps_reset : (w : World) (writer : Side) (id : ℕ) (g f : Flow) → IsThere w id → is_open w writer id ≡ true → f.seen ≡ true → KeepsExchange (with_flow w writer id g) writer id f
keeps_reset w Client id g f there opened seen = λ unseen. absurd (differ (sym seen ∙ unseen))
keeps_reset w Server id g f there opened seen = λ unseen. absurd (differ (sym (flow_first ∙ open_seen w id opened) ∙ unseen))
  where
    flow_first : (exchange (with_flow w Server id g) id).request.seen ≡ (exchange w id).request.seen
    flow_first = ap (λ x. x.seen) (flow-with_other w Server id id g there)

itself : (n : ℕ) → (n == n) ≡ true
itself n = grind (arith, common_steps)

pub reset_sound : (setup : Setup) (w : World) (writer : Side) (id : ℕ) → IsSoundWorld setup w → is_open w writer id ≡ true → (flow w writer id).is_reset ≡ true → IsSoundWorld setup (delivered_reset w writer id)
reset_sound setup w writer id h opened reset = by_fault (flow w writer id).fault refl
  where
    f : Flow
    f = flow w writer id

    g : Flow
    g = with_reset f

    new : World
    new = with_flow w writer id g

    there : IsThere w id
    there = open_is_there w writer id opened

    sound : IsSoundWorld setup new
    sound =
        marks_sound setup w writer id g h there (reset_kept (party w writer) f (flow_sound w writer id h.exchanges) reset) (keeps_seen w writer id g opened refl) refl refl refl

    at_new : flow new writer id ≡ g
    at_new = flow-with_flow w writer id id g there ∙ ap (λ b. if b then g else f) (itself id)

    gives_up : (fault : StreamFault) → f.fault ≡ None → IsSoundWorld setup (given_up new (other writer) id fault)
    gives_up fault alive =
        give_up_sound setup new (other writer) id fault sound (there_after w writer id g there)
        (subst (λ s. KeepsExchange new s id (faulty (flow new s id) fault)) (sym (other-other writer))
        (keeps_reset w writer id g (faulty (flow new writer id) fault) there opened (ap (λ x. x.seen) at_new)))
        (ap (λ s. (flow new s id).fault) (other-other writer) ∙ ap (λ x. x.fault) at_new ∙ alive)

    by_fault : (o : Option StreamFault) → f.fault ≡ o → IsSoundWorld setup (if is_some f.fault then new else given_up new (other writer) id (stream_fault.Reset reset_code))
    by_fault (Some fault) e = subst (λ o. IsSoundWorld setup (if is_some o then new else given_up new (other writer) id (stream_fault.Reset reset_code))) (sym e) sound
    by_fault None e =
        subst (λ o. IsSoundWorld setup (if is_some o then new else given_up new (other writer) id (stream_fault.Reset reset_code))) (sym e) (gives_up (stream_fault.Reset reset_code) e)
