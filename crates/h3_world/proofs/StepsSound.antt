-- Every step that is exact keeps a world sound.
use Rattle.std.proofs.Common.{◌≡◌, inl, inr, ℕ, ◌+◌, ◌-◌, ◌^◌, ◌<◌, ◌≤◌, Bool, true, false, not, ◌&&◌, List, ◌∷◌, length, refl, sym, ap, ◌∙◌, subst, arith, nat_lt, if◌then◌else◌, Option, Some, None}
use Rattle.std.specs.Prelude.{MatchOption, is_some, ◌==◌, ◌||◌, ◌%◌}
use Rattle.std.proofs.lemmas.Grind.{common_steps}
use Rattle.h3_field.specs.Field.{Field}
use Rattle.h3_header.specs.Head.{head_fields}
use Rattle.h3_header.specs.Reads.{head_of_fields}
use Rattle.h3_proto.specs.StreamIds.{is_request_stream}
use Rattle.h3_proto.specs.declared.stream.Side.{Side}
use Rattle.h3_connection.specs.Announcing.{section_of}
use Rattle.h3_connection.specs.Outgoing.{takes_head, takes_body, takes_end}
use Rattle.h3_connection.specs.OwnIds.{other, control_id, encoder_id, decoder_id, is_own}
use Rattle.h3_connection.specs.Pulling.{is_interim}
use Rattle.h3_connection.specs.Refusals.{first_of, not_next, of_list, unless_going, with_pseudo, wrong_side}
use Rattle.h3_connection.specs.StrictSending.{unless_malformed}
use Rattle.h3_connection.specs.declared.event.Pull.{Pull}
use Rattle.h3_connection.specs.declared.event.Pull.TheVariants as pull
use Rattle.h3_connection.specs.declared.event.Refusal.{Refusal}
use Rattle.h3_connection.specs.declared.event.Refusal.TheVariants as refusal
use Rattle.h3_connection.specs.declared.event.StreamFault.{StreamFault}
use Rattle.h3_connection.specs.declared.event.StreamFault.TheVariants.{Canceled}
use Rattle.h3_connection.specs.Lists.{pull_of}
use Rattle.h3_world.specs.declared.event.Event.{Event}
use Rattle.h3_world.specs.declared.event.Event.TheVariants as event
use Rattle.h3_world.specs.declared.event.Answer.{Answer}
use Rattle.h3_world.specs.declared.event.Answer.TheVariants as answer
use Rattle.h3_world.specs.Setup.{Setup, announced_at, takes_any}
use Rattle.h3_world.specs.Flow.{Flow, Part, Section, flow_bytes, bytes_waiting}
use Rattle.h3_world.specs.Flow.Part.{Interim, Head, Trailer}
use Rattle.h3_world.specs.World.{World, party}
use Rattle.h3_world.specs.Came.{insertions_came, settings_known}
use Rattle.h3_world.specs.Lists.{unreadable}
use Rattle.h3_world.specs.Streams.{flow, is_open, has_outgoing, waiting}
use Rattle.h3_world.specs.Order.{last_part, next_part, is_over, is_finished, is_sent_off, outgoing_of}
use Rattle.h3_world.specs.Refusals.{is_critical, none_after, body_refusal, finish_refusal, reset_refusal, cancel_refusal, seen_at}
use Rattle.h3_world.specs.Sending.{appended, with_section, sent_body, finished, cut_off, given_up}
use Rattle.h3_world.specs.Delivering.{delivered, delivered_own, delivered_message, delivered_end, delivered_reset, is_closed, may_end, delivery, end_delivery, reset_delivery}
use Rattle.h3_world.specs.Pauses.{pause_before, pause_of}
use Rattle.h3_world.specs.Pulling.{settled, fault_or, PullsNext, Pulls}
use Rattle.h3_world.specs.Step.{Does, Step, IsExact}
use Rattle.h3_world.specs.Sendable.{IsSendable, IsSendableSection}
use Rattle.h3_world.specs.Sound.{MayFollow, is_before_head, IsSoundWorld}
use Rattle.h3_world.proofs.Enough.{enough_came}
use Rattle.h3_world.proofs.EventsSound.{body_sound, canceled_sound, cut_sound, end_sound, finished_sound, item_sound, keeps_sending, message_sound, paused_sound, reset_sound}
use Rattle.h3_world.proofs.Opened.{open_is_there}
use Rattle.h3_world.proofs.Orders.{head_follows, body_follows, end_follows}
use Rattle.h3_world.proofs.OwnStreamsKept.{goaway_sound, opened_sound, own_sound}
use Rattle.h3_world.proofs.Pieces.{exact_waits}
use Rattle.h3_world.proofs.QpackLaws.{QpackLaws}
use Rattle.h3_world.proofs.SectionsSound.{IsSectionKind, interim_kind, head_kind, trailer_kind, section_sound}
use Rattle.h3_world.proofs.Short.{sections_are_short}
use Rattle.h3_world.proofs.SoundFlows.{flow_sound}
use Rattle.h3_world.proofs.Writers.{own_waits}

does_sound : (setup : Setup) (r : Option Refusal) (old : World) (success : Answer) (after : World) (given : Answer) (new : World) → Does r old success after given new → IsSoundWorld setup old
    → (r ≡ None → IsSoundWorld setup after) → IsSoundWorld setup new
does_sound setup None old success after given new does h done = subst (IsSoundWorld setup) (sym does.1) (done refl)
does_sound setup (Some r) old success after given new does h done = subst (IsSoundWorld setup) (sym does.1) h

-- none of the rules holds
first_none : (b : Bool) (r : Refusal) (later : Option Refusal) → ◌≡◌ {A = Option Refusal} (if b then Some r else later) None → (b ≡ false) × (later ≡ None)
first_none true r later e = cc
first_none false r later e = (refl, e)

opposite : (b : Bool) → not b ≡ false → b ≡ true
opposite true e = refl
opposite false e = cc

differ : true ≡ false → ⊥
differ e = cc

either : (a b : Bool) → (a || b) ≡ false → (a ≡ false) × (b ≡ false)
either true b e = cc
either false b e = (refl, e)

both : (a b : Bool) → (a && b) ≡ true → (a ≡ true) × (b ≡ true)
both true b e = (refl, e)
both false b e = cc

-- a section goes out where it may
sends_sound : QpackLaws → (setup : Setup) (w : World) (side : Side) (id : ℕ) (fields : List Field) (kind : Section → Part) → IsSectionKind kind → IsSoundWorld setup w
    → is_open w side id ≡ true → ((s : Section) → MayFollow (last_part (flow w side id).sent) (kind s)) → IsSendableSection fields → IsSoundWorld setup (with_section kind w side id fields)
sends_sound laws setup w side id fields kind is_kind h opened follows sendable =
    section_sound laws setup w side id fields kind h (record {
      is_kind = is_kind;
      there = open_is_there w side id opened;
      sendable = sendable;
      short = sections_are_short (party w side).encoder id fields sendable.small;
      follows = follows;
      keeps = λ part. keeps_sending w side id (appended (flow w side id) part) h.exchanges opened refl refl;
    })

-- a head that no rule refuses, whichever rules come behind that of the stream
head_sound : QpackLaws → (setup : Setup) (w : World) (side : Side) (id : ℕ) (interim : Bool) (fields : List Field) (rules : List (Bool × Refusal)) → IsSoundWorld setup w → IsSendableSection fields
    → first_of (not_next (seen_at w side id) (seen_at w side id).takes_head rules) ≡ None → IsSoundWorld setup (with_section (if interim then Interim else Head) w side id fields)
head_sound laws setup w side id interim fields rules h sendable e =
    let first = first_none (not (is_open w side id)) refusal.NotOpen _ e in
    let second = first_none (not (takes_head (outgoing_of (flow w side id)))) refusal.OutOfOrder _ first.1 in
    let opened = opposite (is_open w side id) first.0 in
    let follows = head_follows (flow w side id) (opposite (takes_head (outgoing_of (flow w side id))) second.0) in
    by_kind interim opened follows
  where
    by_kind : (b : Bool) → is_open w side id ≡ true → is_before_head (last_part (flow w side id).sent) ≡ true → IsSoundWorld setup (with_section (if b then Interim else Head) w side id fields)
    by_kind true opened follows = sends_sound laws setup w side id fields Interim interim_kind h opened (λ s. follows) sendable
    by_kind false opened follows = sends_sound laws setup w side id fields Head head_kind h opened (λ s. follows) sendable

trailer_sound : QpackLaws → (setup : Setup) (w : World) (side : Side) (id : ℕ) (fields : List Field) (rules : List (Bool × Refusal)) → IsSoundWorld setup w → IsSendableSection fields
    → first_of (not_next (seen_at w side id) (seen_at w side id).takes_body rules) ≡ None → IsSoundWorld setup (with_section Trailer w side id fields)
trailer_sound laws setup w side id fields rules h sendable e =
    let first = first_none (not (is_open w side id)) refusal.NotOpen _ e in
    let second = first_none (not (takes_body (outgoing_of (flow w side id)))) refusal.OutOfOrder _ first.1 in
    let follows = body_follows (party w side) (flow w side id) (flow_sound w side id h.exchanges).sent (opposite (takes_body (outgoing_of (flow w side id))) second.0) in
    sends_sound laws setup w side id fields Trailer trailer_kind h (opposite (is_open w side id) first.0) (λ s. follows) sendable

body_is_sound : (setup : Setup) (w : World) (side : Side) (id : ℕ) (bytes : List ℕ) → IsSoundWorld setup w → length bytes < 2 ^ 56 → body_refusal w side id ≡ None → IsSoundWorld setup (sent_body w side id bytes)
body_is_sound setup w side id bytes h small e =
    let first = first_none (not (is_open w side id)) refusal.NotOpen _ e in
    let second = first_none (not (takes_body (outgoing_of (flow w side id)))) refusal.OutOfOrder _ first.1 in
    body_sound setup w side id bytes h (opposite (is_open w side id) first.0)
    (body_follows (party w side) (flow w side id) (flow_sound w side id h.exchanges).sent (opposite (takes_body (outgoing_of (flow w side id))) second.0)) (shorter (length bytes) small)
  where
    shorter : (n : ℕ) → n < 2 ^ 56 → n < 2 ^ 62
    shorter n h = omega (arith, h)

finish_is_sound : (setup : Setup) (w : World) (side : Side) (id : ℕ) → IsSoundWorld setup w → finish_refusal w side id ≡ None → IsSoundWorld setup (finished w side id)
finish_is_sound setup w side id h e =
    let first = first_none (not (is_open w side id)) refusal.NotOpen _ e in
    let second = first_none (not (takes_end (outgoing_of (flow w side id)))) refusal.OutOfOrder _ first.1 in
    finished_sound setup w side id h (opposite (is_open w side id) first.0)
    (end_follows (party w side) (flow w side id) (flow_sound w side id h.exchanges).sent (opposite (takes_end (outgoing_of (flow w side id))) second.0))

reset_is_sound : (setup : Setup) (w : World) (side : Side) (id : ℕ) → IsSoundWorld setup w → reset_refusal w side id ≡ None → IsSoundWorld setup (cut_off w side id)
reset_is_sound setup w side id h e =
    let first = first_none (is_critical id) refusal.Critical _ e in
    let second = first_none (not (is_open w side id)) refusal.NotOpen _ first.1 in
    let third = first_none (is_sent_off (flow w side id)) refusal.Ended _ second.1 in
    cut_sound setup w side id h (opposite (is_open w side id) second.0) third.0

no_fault : (o : Option StreamFault) → is_some o ≡ false → o ≡ None
no_fault None e = refl
no_fault (Some fault) e = absurd (differ e)

cancel_is_sound : (setup : Setup) (w : World) (side : Side) (id : ℕ) → IsSoundWorld setup w → cancel_refusal w side id ≡ None → IsSoundWorld setup (given_up w side id Canceled)
cancel_is_sound setup w side id h e =
    let f = flow w (other side) id in
    let first = first_none (is_critical id) refusal.Critical _ e in
    let second = first_none (not (is_open w side id)) refusal.NotOpen _ first.1 in
    let third = first_none (is_over f || is_some f.fault) refusal.Ended _ second.1 in
    canceled_sound setup w side id Canceled h (opposite (is_open w side id) second.0) (no_fault f.fault (either (is_over f) (is_some f.fault) third.0).1)

-- how much waits on an own stream, and on a request stream
waits_own : (setup : Setup) (w : World) (side : Side) (id : ℕ) → is_own side id ≡ true → waiting setup w side id ≡ own_waits setup side (party w side) id
waits_own setup w side id own = by_tests (id == control_id side) (id == encoder_id side) (id == decoder_id side) own _ _ _ _
  where
    by_tests : (a b c : Bool) → (a || b || c) ≡ true → (x y z u : ℕ) → (if a then x else (if b then y else (if c then z else u))) ≡ (if a then x else (if b then y else (if c then z else 0)))
    by_tests true b c own x y z u = refl
    by_tests false true c own x y z u = refl
    by_tests false false true own x y z u = refl
    by_tests false false false own x y z u = absurd (differ (sym own))

pub waits_message : (setup : Setup) (w : World) (side : Side) (id : ℕ) → is_own side id ≡ false → waiting setup w side id ≡ bytes_waiting (flow w side id)
waits_message setup w side id own = by_tests (id == control_id side) (id == encoder_id side) (id == decoder_id side) own _ _ _ _
  where
    by_tests : (a b c : Bool) → (a || b || c) ≡ false → (x y z u : ℕ) → (if a then x else (if b then y else (if c then z else u))) ≡ u
    by_tests true b c own x y z u = absurd (differ own)
    by_tests false true c own x y z u = absurd (differ own)
    by_tests false false true own x y z u = absurd (differ own)
    by_tests false false false own x y z u = refl

open_message : (w : World) (side : Side) (id : ℕ) → is_own side id ≡ false → not (has_outgoing w side id) ≡ false → is_open w side id ≡ true
open_message w side id own h = by_test (is_own side id) (is_open w side id) own (opposite (has_outgoing w side id) h)
  where
    by_test : (a b : Bool) → a ≡ false → (a || b) ≡ true → b ≡ true
    by_test true b e h = absurd (differ e)
    by_test false b e h = h

-- no more than what waits of a message, which is not reset where any waits, or nothing
message_fits : (f : Flow) (count : ℕ) → f.delivered ≤ length (flow_bytes f) → count ≤ bytes_waiting f → f.delivered + count ≤ length (flow_bytes f)
message_fits f count within fits = by_reset f.is_reset fits
  where
    by_reset : (b : Bool) → count ≤ (if b then 0 else length (flow_bytes f) - f.delivered) → f.delivered + count ≤ length (flow_bytes f)
    by_reset true k = omega (arith, within, k)
    by_reset false k = omega (arith, within, k)

at_most : (a b : ℕ) → nat_lt a b ≡ false → b ≤ a
at_most a b h = grind (arith, common_steps, h)

delivered_sound : QpackLaws → (setup : Setup) (w : World) (writer : Side) (id count : ℕ) → IsSoundWorld setup w → not (has_outgoing w writer id) ≡ false → nat_lt (waiting setup w writer id) count ≡ false
    → is_closed w writer id ≡ false → IsSoundWorld setup (delivered setup w writer id count)
delivered_sound laws setup w writer id count h opened fits closed = by_own (is_own writer id) refl
  where
    f : Flow
    f = flow w writer id

    least : count ≤ waiting setup w writer id
    least = at_most (waiting setup w writer id) count fits

    not_ended : is_own writer id ≡ false → f.ended ≡ false
    not_ended own = (either f.ended f.reset_came (ap (λ b. not b && (f.ended || f.reset_came)) (sym own) ∙ closed)).0

    by_own : (b : Bool) → is_own writer id ≡ b → IsSoundWorld setup (if b then delivered_own setup w writer id count else delivered_message w writer id count)
    by_own true own = own_sound laws setup w writer id count (subst (λ n. count ≤ n) (waits_own setup w writer id own) least) h
    by_own false own =
        message_sound setup w writer id count h (open_message w writer id own opened)
        (message_fits f count (flow_sound w writer id h.exchanges).delivered (subst (λ n. count ≤ n) (waits_message setup w writer id own) least)) (not_ended own)

-- the world of an answer with it
abbrev pub world_of : Answer × World → World
world_of r = r.1

delivery_sound : QpackLaws → (setup : Setup) (w : World) (writer : Side) (id count : ℕ) → IsSoundWorld setup w → IsSoundWorld setup (delivery setup w writer id count).1
delivery_sound laws setup w writer id count h = by_open (not (has_outgoing w writer id)) refl
  where
    by_closed : (b : Bool) → is_closed w writer id ≡ b → not (has_outgoing w writer id) ≡ false → nat_lt (waiting setup w writer id) count ≡ false
        → IsSoundWorld setup (world_of (if b then (answer.Refused refusal.AfterEnd, w) else (answer.Delivered count, delivered setup w writer id count)))
    by_closed true e opened fits = h
    by_closed false e opened fits = delivered_sound laws setup w writer id count h opened fits e

    by_fits : (b : Bool) → nat_lt (waiting setup w writer id) count ≡ b → not (has_outgoing w writer id) ≡ false
        → IsSoundWorld setup (world_of (if b then (answer.Short (waiting setup w writer id), w) else (
        if is_closed w writer id then (answer.Refused refusal.AfterEnd, w) else (answer.Delivered count, delivered setup w writer id count))))
    by_fits true e opened = h
    by_fits false e opened = by_closed (is_closed w writer id) refl opened e

    by_open : (b : Bool) → not (has_outgoing w writer id) ≡ b
        → IsSoundWorld setup (world_of (if b then (answer.NoStream, w) else (
        if nat_lt (waiting setup w writer id) count then (answer.Short (waiting setup w writer id), w) else (
        if is_closed w writer id then (answer.Refused refusal.AfterEnd, w) else (answer.Delivered count, delivered setup w writer id count)))))
    by_open true e = h
    by_open false e = by_fits (nat_lt (waiting setup w writer id) count) refl e

-- nothing waits of a message that is finished: all was delivered
all_delivered : (f : Flow) → f.delivered ≤ length (flow_bytes f) → is_finished f ≡ true → bytes_waiting f ≡ 0 → f.delivered ≡ length (flow_bytes f)
all_delivered f within finished none = by_reset f.is_reset refl
  where
    by_reset : (b : Bool) → f.is_reset ≡ b → f.delivered ≡ length (flow_bytes f)
    by_reset true e = absurd (differ (sym (both (not f.is_reset) _ finished).0 ∙ ap not e))
    by_reset false e = omega (arith, within, none, ap (λ b. if b then 0 else length (flow_bytes f) - f.delivered) e)

zero_is : (n : ℕ) → (n == 0) ≡ true → n ≡ 0
zero_is n h = grind (arith, common_steps, h)

end_delivery_sound : (setup : Setup) (w : World) (writer : Side) (id : ℕ) → IsSoundWorld setup w → IsSoundWorld setup (end_delivery setup w writer id).1
end_delivery_sound setup w writer id h = by_open (not (has_outgoing w writer id)) refl
  where
    ended : not (has_outgoing w writer id) ≡ false → not (may_end setup w writer id) ≡ false → IsSoundWorld setup (delivered_end w writer id)
    ended opened may =
        let m = both (not (is_own writer id) && is_finished (flow w writer id)) (waiting setup w writer id == 0) (opposite (may_end setup w writer id) may) in
        let n = both (not (is_own writer id)) (is_finished (flow w writer id)) m.0 in
        let own : is_own writer id ≡ false = not_true (is_own writer id) n.0 in
        end_sound setup w writer id h (open_message w writer id own opened) n.1
        (all_delivered (flow w writer id) (flow_sound w writer id h.exchanges).delivered n.1 (sym (waits_message setup w writer id own) ∙ zero_is (waiting setup w writer id) m.1))
      where
        not_true : (b : Bool) → not b ≡ true → b ≡ false
        not_true true e = absurd (differ (sym e))
        not_true false e = refl

    by_closed : (b : Bool) → not (has_outgoing w writer id) ≡ false → not (may_end setup w writer id) ≡ false
        → IsSoundWorld setup (world_of (if b then (answer.Refused refusal.AfterEnd, w) else (answer.Done, delivered_end w writer id)))
    by_closed true opened may = h
    by_closed false opened may = ended opened may

    by_early : (b : Bool) → not (may_end setup w writer id) ≡ b → not (has_outgoing w writer id) ≡ false
        → IsSoundWorld setup (world_of (if b then (answer.Early, w) else (if is_closed w writer id then (answer.Refused refusal.AfterEnd, w) else (answer.Done, delivered_end w writer id))))
    by_early true e opened = h
    by_early false e opened = by_closed (is_closed w writer id) opened e

    by_open : (b : Bool) → not (has_outgoing w writer id) ≡ b
        → IsSoundWorld setup (world_of (if b then (answer.NoStream, w) else (if not (may_end setup w writer id) then (answer.Early, w) else (
        if is_closed w writer id then (answer.Refused refusal.AfterEnd, w) else (answer.Done, delivered_end w writer id)))))
    by_open true e = h
    by_open false e = by_early (not (may_end setup w writer id)) refl e

reset_delivery_sound : (setup : Setup) (w : World) (writer : Side) (id : ℕ) → IsSoundWorld setup w → IsSoundWorld setup (reset_delivery w writer id).1
reset_delivery_sound setup w writer id h = by_open (not (has_outgoing w writer id)) refl
  where
    by_closed : (b : Bool) → not (has_outgoing w writer id) ≡ false → (is_own writer id || not (flow w writer id).is_reset) ≡ false
        → IsSoundWorld setup (world_of (if b then (answer.Refused refusal.AfterEnd, w) else (answer.Done, delivered_reset w writer id)))
    by_closed true opened early = h
    by_closed false opened early =
        let m = either (is_own writer id) (not (flow w writer id).is_reset) early in
        reset_sound setup w writer id h (open_message w writer id m.0 opened) (opposite (flow w writer id).is_reset m.1)

    by_early : (b : Bool) → (is_own writer id || not (flow w writer id).is_reset) ≡ b → not (has_outgoing w writer id) ≡ false
        → IsSoundWorld setup (world_of (if b then (answer.Early, w) else (if is_closed w writer id then (answer.Refused refusal.AfterEnd, w) else (answer.Done, delivered_reset w writer id))))
    by_early true e opened = h
    by_early false e opened = by_closed (is_closed w writer id) opened e

    by_open : (b : Bool) → not (has_outgoing w writer id) ≡ b
        → IsSoundWorld setup (world_of (if b then (answer.NoStream, w) else (if is_own writer id || not (flow w writer id).is_reset then (answer.Early, w) else (
        if is_closed w writer id then (answer.Refused refusal.AfterEnd, w) else (answer.Done, delivered_reset w writer id)))))
    by_open true e = h
    by_open false e = by_early (is_own writer id || not (flow w writer id).is_reset) refl e

-- a pull that is not settled is of a stream that is open and not given up
pub unsettled : (w : World) (side : Side) (id : ℕ) → settled w side id ≡ None → (is_open w side id ≡ true) × ((flow w (other side) id).fault ≡ None)
unsettled w side id e = by_tests (id % 4 == control_id (other side)) (not (is_request_stream id)) (is_open w side id) (flow w (other side) id).fault _ _ _ e
  where
    by_tests : (a b c : Bool) (o : Option StreamFault) (x y : Pull) (z : Option Pull)
        → ◌≡◌ {A = Option Pull} (if a then Some x else (if b then Some pull.NoMessages else (if not c then Some y else fault_or o z))) None → (c ≡ true) × (o ≡ None)
    by_tests true b c o x y z e = cc
    by_tests false true c o x y z e = cc
    by_tests false false false o x y z e = cc
    by_tests false false true None x y z e = (refl, refl)
    by_tests false false true (Some fault) x y z e = cc

pull_sound : (setup : Setup) (w : World) (side : Side) (id : ℕ) (p : Pull) (new : World) → IsSoundWorld setup w → Pulls setup w side id p new
    → MatchOption (settled w side id) (pause_of p ≡ pause_before (flow w (other side) id) (insertions_came (party w (other side))) (next_part (flow w (other side) id))) (λ answer. Unit {0})
    → IsSoundWorld setup new
pull_sound setup w side id p new h pulls exact = by_settled (settled w side id) refl pulls exact
  where
    next : (p : Pull) → settled w side id ≡ None → PullsNext setup w side id p new
        → pause_of p ≡ pause_before (flow w (other side) id) (insertions_came (party w (other side))) (next_part (flow w (other side) id)) → IsSoundWorld setup new
    next (pull.Item i) e n x =
        let u = unsettled w side id e in
        subst (IsSoundWorld setup) (sym n.1) (item_sound setup w side id (section_of (announced_at setup side)) i h u.0 u.1 n.0
        (enough_came (flow w (other side) id) (insertions_came (party w (other side))) (next_part (flow w (other side) id)) (sym x)))
    next pull.Pending e n x = subst (IsSoundWorld setup) (sym n) (paused_sound setup w side id 0 h (unsettled w side id e).0 (inl refl))
    next (pull.Waiting count) e n x =
        subst (IsSoundWorld setup) (sym n) (paused_sound setup w side id count h (unsettled w side id e).0
        (inr (exact_waits (flow w (other side) id) (insertions_came (party w (other side))) count (next_part (flow w (other side) id)) (sym x))))
    next (pull.Fault fault) e n x = absurd n
    next pull.NoMessages e n x = absurd n

    by_settled : (o : Option Pull) → settled w side id ≡ o → MatchOption o (PullsNext setup w side id p new) (λ answer. (p ≡ answer) × (new ≡ w))
        → MatchOption o (pause_of p ≡ pause_before (flow w (other side) id) (insertions_came (party w (other side))) (next_part (flow w (other side) id))) (λ answer. Unit {0}) → IsSoundWorld setup new
    by_settled None e n x = next p e n x
    by_settled (Some q) e n x = subst (IsSoundWorld setup) (sym n.1) h

-- Every step that is exact, of an event that may be sent, keeps the world sound.
pub step_sound : QpackLaws → (setup : Setup) (w new : World) (e : Event) (a : Answer) → IsSendable setup e → Step setup w e a new → IsExact w e a → IsSoundWorld setup w → IsSoundWorld setup new
step_sound laws setup w new (event.OpenRequest side) a send step exact h = does_sound setup _ w _ _ a new step h (λ e. opened_sound setup w h)
step_sound laws setup w new (event.Head side id head) a send step exact h =
    does_sound setup _ w _ _ a new step h (head_sound laws setup w side id (is_interim head.status) (head_fields head) (unless_going (none_after setup w side) (wrong_side side head ∷ of_list None (settings_known setup w side) (head_fields head))) h send.section)
step_sound laws setup w new (event.Fields side id fields) a send step exact h =
    let head = head_of_fields fields in
    does_sound setup _ w _ _ a new step h
    (head_sound laws setup w side id (is_interim head.status) fields
    (unless_going (none_after setup w side) (unless_malformed (unreadable (takes_any (announced_at setup side)) fields) (wrong_side side head ∷ of_list None (settings_known setup w side) fields))) h send.section)
step_sound laws setup w new (event.Body side id bytes) a send step exact h = does_sound setup _ w _ _ a new step h (body_is_sound setup w side id bytes h send)
step_sound laws setup w new (event.Trailer side id trailer) a send step exact h =
    does_sound setup _ w _ _ a new step h (trailer_sound laws setup w side id (head_fields trailer) (with_pseudo trailer ∷ of_list None (settings_known setup w side) (head_fields trailer)) h send.section)
step_sound laws setup w new (event.TrailerFields side id fields) a send step exact h =
    does_sound setup _ w _ _ a new step h
    (trailer_sound laws setup w side id fields (unless_malformed (unreadable (takes_any (announced_at setup side)) fields) (with_pseudo (head_of_fields fields) ∷ of_list None (settings_known setup w side) fields)) h send.section)
step_sound laws setup w new (event.Finish side id) a send step exact h = does_sound setup _ w _ _ a new step h (finish_is_sound setup w side id h)
step_sound laws setup w new (event.Reset side id) a send step exact h = does_sound setup _ w _ _ a new step h (reset_is_sound setup w side id h)
step_sound laws setup w new (event.Cancel side id) a send step exact h = does_sound setup _ w _ _ a new step h (cancel_is_sound setup w side id h)
step_sound laws setup w new (event.Goaway side id) a send step exact h = does_sound setup _ w _ _ a new step h (λ e. goaway_sound setup w side id h)
step_sound laws setup w new (event.Deliver side id count) a send step exact h = subst (IsSoundWorld setup) (sym (ap (λ r. r.1) step)) (delivery_sound laws setup w side id count h)
step_sound laws setup w new (event.DeliverEnd side id) a send step exact h = subst (IsSoundWorld setup) (sym (ap (λ r. r.1) step)) (end_delivery_sound setup w side id h)
step_sound laws setup w new (event.DeliverReset side id) a send step exact h = subst (IsSoundWorld setup) (sym (ap (λ r. r.1) step)) (reset_delivery_sound setup w side id h)
step_sound laws setup w new (event.Pull side id) (answer.Pulled p) send step exact h = pull_sound setup w side id p new h step exact
step_sound laws setup w new (event.Pull side id) (answer.Opened n) send step exact h = absurd step
step_sound laws setup w new (event.Pull side id) answer.Done send step exact h = absurd step
step_sound laws setup w new (event.Pull side id) (answer.Delivered n) send step exact h = absurd step
step_sound laws setup w new (event.Pull side id) (answer.Short n) send step exact h = absurd step
step_sound laws setup w new (event.Pull side id) answer.NoStream send step exact h = absurd step
step_sound laws setup w new (event.Pull side id) answer.Early send step exact h = absurd step
step_sound laws setup w new (event.Pull side id) (answer.Shown l t n) send step exact h = absurd step
step_sound laws setup w new (event.Pull side id) (answer.Refused r) send step exact h = absurd step
step_sound laws setup w new (event.Pull side id) (answer.Listed l) send step exact h = absurd step
step_sound laws setup w new (event.PullFields side id) (answer.Listed l) send step exact h = pull_sound setup w side id (pull_of l) new h step.0 exact
step_sound laws setup w new (event.PullFields side id) (answer.Pulled p) send step exact h = absurd step
step_sound laws setup w new (event.PullFields side id) (answer.Opened n) send step exact h = absurd step
step_sound laws setup w new (event.PullFields side id) answer.Done send step exact h = absurd step
step_sound laws setup w new (event.PullFields side id) (answer.Delivered n) send step exact h = absurd step
step_sound laws setup w new (event.PullFields side id) (answer.Short n) send step exact h = absurd step
step_sound laws setup w new (event.PullFields side id) answer.NoStream send step exact h = absurd step
step_sound laws setup w new (event.PullFields side id) answer.Early send step exact h = absurd step
step_sound laws setup w new (event.PullFields side id) (answer.Shown l t n) send step exact h = absurd step
step_sound laws setup w new (event.PullFields side id) (answer.Refused r) send step exact h = absurd step
step_sound laws setup w new (event.Show side) a send step exact h = subst (IsSoundWorld setup) (sym step.1) h
