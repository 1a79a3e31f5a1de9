-- With nothing left to deliver all that was sent has come out.
use Rattle.std.proofs.Common.{◌≡◌, ◌⊎◌, inl, inr, arith, ℕ, ◌<◌, ◌+◌, ◌-◌, Bool, true, false, if◌then◌else◌, List, [], ◌∷◌, ◌++◌, append-nil, append_assoc, length, length-append, zero, suc, refl, ap, sym, ◌∙◌, subst, Option, Some, None}
use Rattle.std.proofs.lemmas.Grind.{common_steps}
use Rattle.std.specs.Prelude.{MatchOption, map, take, not, ◌&&◌, ◌||◌, ◌==◌, ◌%◌, is_none, is_some, nat_lt, slice_get, unwrap_or}
use Rattle.std.specs.List.{AllByRecursion, flat_map}
use Rattle.h3_coding.specs.Encodings.{encoding}
use Rattle.h3_frames.specs.Encoded.{frame_encoding, head_encoding}
use Rattle.h3_proto.specs.StreamIds.{index_of, is_request_stream}
use Rattle.h3_proto.specs.declared.stream.Side.{Side}
use Rattle.h3_proto.specs.declared.stream.Side.TheVariants.{Client, Server}
use Rattle.h3_connection.specs.OwnIds.{control_id, encoder_id, other}
use Rattle.h3_connection.specs.declared.event.Fault.TheVariants.{Stream}
use Rattle.h3_connection.specs.declared.event.Item.TheVariants as item
use Rattle.h3_connection.specs.declared.event.Pull.{Pull}
use Rattle.h3_connection.specs.declared.event.Pull.TheVariants as pull
use Rattle.h3_connection.specs.declared.event.Refusal.TheVariants as refusal
use Rattle.h3_connection.specs.declared.event.StreamFault.{StreamFault}
use Rattle.h3_connection.specs.Lists.{pull_of}
use Rattle.h3_connection.specs.declared.lists.ListPull.{ListPull}
use Rattle.h3_connection.specs.declared.lists.ListPull.TheVariants as list
use Rattle.h3_world.specs.Delivering.{delivered, delivery, is_closed}
use Rattle.h3_world.specs.Flow.{Flow, Part, bytes_waiting, flow_bytes, part_bytes, unused}
use Rattle.h3_world.specs.Flow.Part.{Interim, Head, Body, Trailer, End}
use Rattle.h3_world.specs.Headline.{is_out_of_memory}
use Rattle.h3_world.specs.Order.{is_end, is_over, next_part}
use Rattle.h3_world.specs.OwnStreams.{control_stream, decoder_stream, encoder_stream}
use Rattle.h3_world.specs.Pauses.{pause_of}
use Rattle.h3_world.specs.Pulling.{PausesExactly, Pulls, PullsNext, fault_or, pull_unidirectional, pull_unopened, settled}
use Rattle.h3_world.specs.Sendable.{IsSendableBy}
use Rattle.h3_world.specs.Sound.{AreSent, IsSoundExchange, IsSoundWorld}
use Rattle.h3_world.specs.Streams.{exchange, flow, has_outgoing, is_open, waiting}
use Rattle.h3_world.specs.World.{Exchange, Party, World, no_exchange, party}
use Rattle.h3_world.specs.declared.event.Answer.{Answer}
use Rattle.h3_world.specs.declared.event.Answer.TheVariants as answer
use Rattle.h3_world.specs.declared.event.Event.{Event}
use Rattle.h3_world.specs.declared.event.Event.TheVariants as event
use Rattle.h3_world.specs.Setup.{Setup}
use Rattle.h3_headline.specs.ComingLaws.{sound_exchange, sound_flow}
use Rattle.h3_headline.specs.Contents.{HasSameParts, contents, out, out_of, part_contents, piece_of}
use Rattle.h3_headline.specs.Exactly.{IsAllOf, IsExactly, Reader, as_listed, reader_at}
use Rattle.h3_headline.specs.FlowLaws.{open_there}
use Rattle.h3_headline.specs.Messages.{IsFrontOf, MessageContent, is_on, pulled, sent}
use Rattle.h3_headline.specs.PartLaws.{end_last}
use Rattle.h3_headline.specs.PulledAndSentLaws.{all_as_sent, no_flow}
use Rattle.h3_headline.specs.ReceivingLaws.{encoding_some}
use Rattle.h3_headline.specs.SettledLaws.{settled_alive, settled_none}
use Rattle.h3_headline.specs.Steps.{IsThere}
use Rattle.h3_memory.specs.Kept.{KeepingWorld, caught_up, is_settled}
use Rattle.h3_memory.specs.MemoryStep as memory
use Rattle.h3_memory.specs.MemoryStep.{StepOf, UnlessMemory, read_behind}
use Rattle.h3_memory.specs.SoundKeeping.{IsSoundKeeping}
use Rattle.h3_strict.specs.GivingUpLaws.{alive_before}
use Rattle.h3_strict.specs.PlainEnds.{plain_setup}
use Rattle.h3_faithful.specs.Faithful.{pauses_on}
use Rattle.h3_faithful.specs.Steps.{AsPlainly, GivesMessageUp, HappensAnywhere, LacksMemory, RefusesMalformed, RefusesOwn}
use Rattle.h3_faithful.proofs.Accounts.{AccountsAt, MemoryMoves, RunsSo, accounts, out_is_front, sound_keeping_after}
use Rattle.h3_faithful.proofs.Ordered.{on_same}
use Rattle.h3_faithful.proofs.Telling.{request_apart}

-- `with_all_delivered_pauses_are_at_the_end` of `h3_world`
abbrev pub PausesAtEnd : Type 0
PausesAtEnd = (setup : Setup) (w : World) (side : Side) (id : ℕ) (p : Pull) → IsSoundWorld setup w → PausesExactly w side id p → (flow w (other side) id).is_reset ≡ false
    → waiting setup w (other side) id ≡ 0 → waiting setup w (other side) (encoder_id (other side)) ≡ 0 → settled w side id ≡ None → is_none (pause_of p) ≡ false
    → (next_part (flow w (other side) id) ≡ None) ⊎ (next_part (flow w (other side) id) ≡ Some End)

-- a byte that was asked for and is not there leaves the world, and nothing waits on the stream once all that is kept is read
short_waits : (setup : Setup) (k new : KeepingWorld) (writer : Side) (id : ℕ) → (answer.Short zero, new) ≡ read_behind k (other writer) (delivery setup (caught_up setup k (other writer)) writer id (suc zero))
    → (waiting setup (caught_up setup k (other writer)) writer id ≡ zero) × (new ≡ k)
short_waits setup k new writer id step = by_tests (has_outgoing u writer id) (nat_lt (waiting setup u writer id) (suc zero)) (is_closed u writer id) step
  where
    u : World
    u = caught_up setup k (other writer)

    so_many : (n m : ℕ) → answer.Short n ≡ answer.Short m → n ≡ m
    so_many n m is = ap (λ x. elim x [ answer.Short i ↦ i | _ ↦ n ]) is

    by_tests : (there short closed : Bool)
        → (answer.Short zero, new) ≡ read_behind k (other writer) (if not there then (answer.NoStream, u) else (if short then (answer.Short (waiting setup u writer id), u) else (if closed then (answer.Refused refusal.AfterEnd, u) else (answer.Delivered (suc zero), delivered setup u writer id (suc zero)))))
        → (waiting setup u writer id ≡ zero) × (new ≡ k)
    by_tests false short closed h = absurd (let never : answer.Short zero ≡ answer.NoStream = ap (λ x. x.0) h in cc)
    by_tests true true closed h = (sym (so_many zero (waiting setup u writer id) (ap (λ x. x.0) h)), ap (λ x. x.1) h)
    by_tests true false true h = absurd (let never : answer.Short zero ≡ answer.Refused refusal.AfterEnd = ap (λ x. x.0) h in cc)
    by_tests true false false h = absurd (let never : answer.Short zero ≡ answer.Delivered (suc zero) = ap (λ x. x.0) h in cc)

pub nothing_waits : (setup : Setup) (k new : KeepingWorld) (writer : Side) (id : ℕ) → HappensAnywhere setup k (event.Deliver writer id (suc zero)) (answer.Short zero) new
    → (waiting (plain_setup setup) (caught_up (plain_setup setup) k (other writer)) writer id ≡ zero) × (new ≡ k)
nothing_waits setup k new writer id (AsPlainly told h) = short_waits (plain_setup setup) k new writer id h.step
nothing_waits setup k new writer id (LacksMemory told h) = absurd (let never : false ≡ true = told in cc)
nothing_waits setup k new writer id (RefusesMalformed strict told is) = absurd (let never : false ≡ true = told in cc)
nothing_waits setup k new writer id (RefusesOwn unread is) = absurd unread
nothing_waits setup k new writer id (GivesMessageUp pulls) = absurd pulls

-- a part is more than no bytes, but for the end
no_bytes : (p : Party) (before : Option Part) (start : ℕ) (parts : List Part) → AreSent p before start parts → length (flat_map part_bytes parts) ≡ 0 → contents parts ≡ []
no_bytes p before start [] h none = refl
no_bytes p before start (q ∷ qs) h none = ap (λ l. l ++ contents qs) (of q (omega (arith, none, length-append (part_bytes q) (flat_map part_bytes qs)))) ∙ no_bytes p (Some q) (start + length (part_bytes q)) qs h.2 (omega (arith, none, length-append (part_bytes q) (flat_map part_bytes qs)))
  where
    framed : (kind : ℕ) (payload : List ℕ) → 0 < length (encoding kind) → length (frame_encoding kind payload) ≡ 0 → ⊥
    framed kind payload some e = omega (arith, some, e, length-append (head_encoding kind (length payload)) payload, length-append (encoding kind) (encoding (length payload)))

    of : (q : Part) → length (part_bytes q) ≡ 0 → part_contents q ≡ []
    of End e = refl
    of (Interim s) e = absurd (framed 1 s.encoded (encoding_some 1 (omega arith)) e)
    of (Head s) e = absurd (framed 1 s.encoded (encoding_some 1 (omega arith)) e)
    of (Trailer s) e = absurd (framed 1 s.encoded (encoding_some 1 (omega arith)) e)
    of (Body bytes own) e = absurd (framed 0 bytes (encoding_some 0 (omega arith)) e)

-- with the end alone left, all is out
but_end : (p : Party) (before : Option Part) (start : ℕ) (parts : List Part) (n b : ℕ) → AreSent p before start parts → slice_get parts n ≡ Some End → out_of parts n b ≡ contents parts
but_end p before start [] n b h e = cc
but_end p before start (q ∷ qs) zero b h e =
    let is : q ≡ End = same q End e in
    ap (λ x. piece_of b (Some x)) is ∙ sym (ap (λ l. part_contents q ++ contents l) (end_last p (start + length (part_bytes q)) qs q h.2 is) ∙ append-nil (part_contents q) ∙ ap part_contents is)
  where
    same : (x y : Part) → ◌≡◌ {A = Option Part} (Some x) (Some y) → x ≡ y
    same x y is = ap (λ o. elim o [ None ↦ x | Some z ↦ z ]) is
but_end p before start (q ∷ qs) (suc n) b h e =
    append_assoc (part_contents q) (contents (take n qs)) (piece_of b (slice_get qs n)) ∙ ap (λ l. part_contents q ++ l) (but_end p (Some q) (start + length (part_bytes q)) qs n b h.2 e)

all_of_parts : (parts : List Part) (n b : ℕ) → slice_get parts n ≡ None → out_of parts n b ≡ contents parts
all_of_parts [] zero b e = refl
all_of_parts [] (suc n) b e = refl
all_of_parts (p ∷ ps) zero b e = cc
all_of_parts (p ∷ ps) (suc n) b e =
    append_assoc (part_contents p) (contents (take n ps)) (piece_of b (slice_get ps n)) ∙ ap (λ l. part_contents p ++ l) (all_of_parts ps n b e)

-- A pause that is settled is on a stream that is no request's, or on one of which its server has seen nothing.
data IsUntouched (w : World) (side : Side) (id : ℕ) : Type 0 where
  IsUnused : flow w (other side) id ≡ unused → IsUntouched w side id
  IsUnseen : side ≡ Server → is_request_stream id ≡ true → IsThere w id → (exchange w id).request.seen ≡ false → IsUntouched w side id

no_request : (w : World) (writer : Side) (id : ℕ) → is_request_stream id ≡ false → flow w writer id ≡ unused
no_request w Client id e = ap (λ b. (if b then unwrap_or (slice_get w.exchanges (index_of id)) no_exchange else no_exchange).request) e
no_request w Server id e = ap (λ b. (if b then unwrap_or (slice_get w.exchanges (index_of id)) no_exchange else no_exchange).response) e

not_there : (w : World) (writer : Side) (id : ℕ) → nat_lt (index_of id) (length w.exchanges) ≡ false → flow w writer id ≡ unused
not_there w writer id e = of writer (no_flow w id e)
  where
    of : (s : Side) → exchange w id ≡ no_exchange → flow w s id ≡ unused
    of Client is = ap (λ (x : Exchange). x.request) is
    of Server is = ap (λ (x : Exchange). x.response) is

unidirectional : (side : Side) (id : ℕ) → (id % 4 == control_id side) ≡ true → is_request_stream id ≡ false
unidirectional Client id e = grind (arith, common_steps, e)
unidirectional Server id e = grind (arith, common_steps, e)

abbrev is_pause : Pull → Bool
is_pause p = is_some (pause_of p)

untouched : (w : World) (side : Side) (id : ℕ) (q : Pull) → settled w side id ≡ Some q → is_pause q ≡ true → IsUntouched w side id
untouched w side id q e pauses = by_tests (id % 4 == control_id (other side)) refl (is_request_stream id) refl (is_open w side id) refl (flow w (other side) id).fault (is_over (flow w (other side) id)) e
  where
    value : (x y : Pull) → ◌≡◌ {A = Option Pull} (Some x) (Some y) → x ≡ y
    value x y is = ap (λ o. elim o [ None ↦ x | Some z ↦ z ]) is

    no_pause : (x : Pull) → is_pause x ≡ false → x ≡ q → ⊥
    no_pause x none is = let never : false ≡ true = sym none ∙ ap is_pause is ∙ pauses in cc

    below : (a b : ℕ) → nat_lt a b ≡ true → a < b
    below a b h = grind (arith, common_steps, h)

    unseen : (s : Side) → is_request_stream id ≡ true → is_open w s id ≡ false → ◌≡◌ {A = Option Pull} (Some (pull_unopened s)) (Some q) → IsUntouched w s id
    unseen Client r o is = absurd (no_pause pull.NoMessages refl (value pull.NoMessages q is))
    unseen Server r o is = by_place (nat_lt (index_of id) (length w.exchanges)) refl
      where
        last : (a b c : Bool) → a ≡ true → b ≡ true → (a && b && c) ≡ false → c ≡ false
        last true true c h k all = all
        last true false c h k all = cc
        last false b c h k all = cc

        by_place : (b : Bool) → nat_lt (index_of id) (length w.exchanges) ≡ b → IsUntouched w Server id
        by_place false there = IsUnused (not_there w Client id there)
        by_place true there = IsUnseen refl r (record { request = r; place = below (index_of id) (length w.exchanges) there }) (last (is_request_stream id) (nat_lt (index_of id) (length w.exchanges)) (exchange w id).request.seen r there o)

    by_tests : (a : Bool) → (id % 4 == control_id (other side)) ≡ a → (r : Bool) → is_request_stream id ≡ r → (o : Bool) → is_open w side id ≡ o → (fault : Option StreamFault) (over : Bool)
        → (if a then Some (pull_unidirectional w (other side) id) else (if not r then Some pull.NoMessages else (if not o then Some (pull_unopened side) else fault_or fault (if over then Some (pull.Item item.End) else None)))) ≡ Some q
        → IsUntouched w side id
    by_tests true ea r er o eo fault over h = IsUnused (no_request w (other side) id (unidirectional (other side) id ea))
    by_tests false ea false er o eo fault over h = absurd (no_pause pull.NoMessages refl (value pull.NoMessages q h))
    by_tests false ea true er false eo fault over h = unseen side er eo h
    by_tests false ea true er true eo (Some f) over h = absurd (no_pause (pull.Fault (Stream f)) refl (value (pull.Fault (Stream f)) q h))
    by_tests false ea true er true eo None true h = absurd (no_pause (pull.Item item.End) refl (value (pull.Item item.End) q h))
    by_tests false ea true er true eo None false h = cc

-- It was not given up, and no end came out of it.
unsettled_there : (setup : Setup) (w : World) (side : Side) (id : ℕ) → IsSoundWorld setup w → IsUntouched w side id → is_settled w side id ≡ false
unsettled_there setup w side id sound (IsUnused is) = ap (λ (f : Flow). is_some f.fault || is_over f) is
unsettled_there setup w side id sound (IsUnseen is r there unseen) = subst (λ s. is_settled w s id ≡ false) (sym is) (of (sound_exchange w id sound.exchanges there))
  where
    of : IsSoundExchange w (exchange w id) → is_settled w Server id ≡ false
    of s =
        let parts = (s.request.unseen unseen).1 in
        ap (λ o. is_some o || is_over (exchange w id).request) (s.unread unseen) ∙ ap (λ n. nat_lt 0 n && is_end (slice_get (exchange w id).request.sent (n - 1))) parts

-- And with nothing left to deliver nothing was sent on it.
untouched_none : (setup : Setup) (w : World) (side : Side) (id : ℕ) → IsSoundWorld setup w → IsUntouched w side id → (flow w (other side) id).is_reset ≡ false → waiting setup w (other side) id ≡ 0
    → contents (flow w (other side) id).sent ≡ []
untouched_none setup w side id sound (IsUnused is) live waits = ap (λ (f : Flow). contents f.sent) is
untouched_none setup w side id sound (IsUnseen is r there unseen) live waits =
    subst (λ s. contents (flow w (other s) id).sent ≡ []) (sym is) (of (subst (λ s. (flow w (other s) id).is_reset ≡ false) is live) (subst (λ s. waiting setup w (other s) id ≡ 0) is waits))
  where
    f : Flow
    f = flow w Client id

    none : f.delivered ≡ 0
    none = ((sound_exchange w id sound.exchanges there).request.unseen unseen).0

    left : (n m : ℕ) → m ≡ 0 → n - m ≡ 0 → n ≡ 0
    left n m h k = omega (arith, h, k)

    message : waiting setup w Client id ≡ bytes_waiting f
    message = by_own (id == 2) (id == 6) (id == 10) (request_apart Client id r)
      where
        by_own : (a b c : Bool) → (a || b || c) ≡ false
            → (if a then length (control_stream setup.client w.client) - w.client.own.control_taken else (if b then length (encoder_stream w.client) - w.client.own.encoder_taken else (
            if c then length (decoder_stream w.client) - w.client.own.decoder_taken else bytes_waiting f))) ≡ bytes_waiting f
        by_own true b c h = cc
        by_own false true c h = cc
        by_own false false true h = cc
        by_own false false false h = refl

    of : f.is_reset ≡ false → waiting setup w Client id ≡ 0 → contents f.sent ≡ []
    of live waits =
        no_bytes (party w Client) None 0 f.sent (sound_flow setup w Client id sound there).sent
        (left (length (flow_bytes f)) f.delivered none (sym (ap (λ b. if b then 0 else length (flow_bytes f) - f.delivered) live) ∙ sym message ∙ waits))

-- with nothing sent nothing came out
all_none : (r : Reader) (given sending : List MessageContent) → IsFrontOf (IsExactly r) given (map as_listed sending) → map as_listed sending ≡ [] → IsAllOf (IsExactly r) given sending
all_none r [] [] h none = tt
all_none r (c ∷ given) [] h none = absurd h
all_none r given (d ∷ sending) h none = absurd (cc)

no_memory_pause : (p : Pull) → is_pause p ≡ true → is_out_of_memory (answer.Pulled p) ≡ true → ⊥
no_memory_pause (pull.Fault f) h k = cc
no_memory_pause (pull.Item i) h k = cc
no_memory_pause pull.Pending h k = cc
no_memory_pause (pull.Waiting count) h k = cc
no_memory_pause pull.NoMessages h k = cc

pausing : (p : Pull) → is_pause p ≡ true → is_none (pause_of p) ≡ false
pausing pull.Pending h = refl
pausing (pull.Waiting count) h = refl
pausing (pull.Fault f) h = cc
pausing (pull.Item i) h = cc
pausing pull.NoMessages h = cc

module _ (laws : MemoryMoves) (at_end : PausesAtEnd) (setup : Setup) (before : List Event) (given : List Answer) (k new : KeepingWorld) (side : Side) (id : ℕ) (sendable : AllByRecursion (IsSendableBy true) before) (run : RunsSo setup before given k)
    (live : (flow k.world (other side) id).is_reset ≡ false) (encoder : waiting (plain_setup setup) (caught_up (plain_setup setup) k side) (other side) (encoder_id (other side)) ≡ zero)
    (message : waiting (plain_setup setup) (caught_up (plain_setup setup) k side) (other side) id ≡ zero) where
  abbrev ps : Setup
  ps = plain_setup setup

  abbrev u : World
  u = caught_up ps k side

  abbrev r : Reader
  r = reader_at setup side

  abbrev AllCame : Type 0
  AllCame = IsAllOf (IsExactly r) (pulled side id before given) (sent (other side) id before given)

  sk : IsSoundKeeping ps k
  sk = sound_keeping_after laws setup before given k sendable run

  a : AccountsAt setup k before given side id
  a = accounts laws setup before given k sendable run side id

  same : HasSameParts (flow k.world (other side) id) (flow u (other side) id)
  same = (laws.caught ps k side sk).0 (other side) id

  live_there : (flow u (other side) id).is_reset ≡ false
  live_there = (laws.caught_as ps k side (other side) id false false sk).unreset refl live

  sound : IsSoundWorld ps u
  sound = (laws.caught ps k side sk).2

  -- nothing was sent
  none_came : contents (flow u (other side) id).sent ≡ [] → AllCame
  none_came none =
      let sent_none : map as_listed (sent (other side) id before given) ≡ [] = sym a.sent_is ∙ ap contents (sym same.sent) ∙ none in
      all_none r (pulled side id before given) (sent (other side) id before given)
      (subst (IsFrontOf (IsExactly r) (pulled side id before given)) a.sent_is (out_is_front r (flow k.world (other side) id) (pulled side id before given) a.front)) sent_none

  -- or all of it came out
  all_came : is_some (flow u (other side) id).fault ≡ false → out (flow u (other side) id) ≡ contents (flow u (other side) id).sent → AllCame
  all_came alive whole =
      let f = flow k.world (other side) id in
      let g = flow u (other side) id in
      let goes = alive_before (is_some f.fault) (is_some g.fault) ((laws.caught ps k side sk).1 (other side) id) alive in
      let out_is : out g ≡ out f = ap (λ l. out_of l g.parts_out g.body_out) same.sent ∙ ap (λ n. out_of f.sent n g.body_out) same.parts_out ∙ ap (out_of f.sent f.parts_out) same.body_out in
      all_as_sent r (pulled side id before given) (sent (other side) id before given)
      (subst (IsAllOf (IsExactly r) (pulled side id before given)) (sym out_is ∙ whole ∙ ap contents same.sent ∙ a.sent_is) (a.alive goes))

  -- where the pause is before a part, or behind all
  next_came : (p : Pull) → is_pause p ≡ true → PausesExactly u side id p → settled u side id ≡ None → AllCame
  next_came p pauses exact e =
      let g = flow u (other side) id in
      let there = open_there u side id (settled_none u side id e).is_there in
      let s = sound_flow ps u (other side) id sound there in
      all_came (settled_alive u side id e) (elim (at_end ps u side id p sound exact live_there message encoder e (pausing p pauses)) [
        | inl none ↦ all_of_parts g.sent g.parts_out g.body_out none
        | inr end ↦ but_end (party u (other side)) None 0 g.sent g.parts_out g.body_out s.sent end
      ])

  pull_came : (p : Pull) → is_pause p ≡ true → PausesExactly u side id p → Pulls ps u side id p new.world → AllCame
  pull_came p pauses exact step = by_settled (settled u side id) refl step
    where
      by_settled : (o : Option Pull) → settled u side id ≡ o → MatchOption o (PullsNext ps u side id p new.world) (λ q. (p ≡ q) × (new.world ≡ u)) → AllCame
      by_settled None e h = next_came p pauses exact e
      by_settled (Some q) e h = none_came (untouched_none ps u side id sound (untouched u side id q e (sym (ap is_pause h.0) ∙ pauses)) live_there message)

  -- a pull that is settled in front of what is kept does not pause
  settled_came : (p : Pull) → is_pause p ≡ true → is_settled k.world side id ≡ true → Pulls ps k.world side id p new.world → AllCame
  settled_came p pauses is step = by_settled (settled k.world side id) refl step
    where
      clash : is_settled k.world side id ≡ false → AllCame
      clash e = absurd (let never : false ≡ true = sym e ∙ is in cc)

      neither : (x y : Bool) → x ≡ false → y ≡ false → (x || y) ≡ false
      neither true y h k = cc
      neither false y h k = k

      by_settled : (o : Option Pull) → settled k.world side id ≡ o → MatchOption o (PullsNext ps k.world side id p new.world) (λ q. (p ≡ q) × (new.world ≡ k.world)) → AllCame
      by_settled None e h = clash (neither (is_some (flow k.world (other side) id).fault) (is_over (flow k.world (other side) id)) (settled_alive k.world side id e) (settled_none k.world side id e).not_over)
      by_settled (Some q) e h = clash (unsettled_there ps k.world side id sk.sound (untouched k.world side id q e (sym (ap is_pause h.0) ∙ pauses)))

  came_from : (p : Pull) → is_pause p ≡ true → PausesExactly u side id p → (b : Bool) → is_settled k.world side id ≡ b → (b ≡ true → Pulls ps k.world side id p new.world) → (b ≡ false → Pulls ps u side id p new.world) → AllCame
  came_from p pauses exact true is first second = settled_came p pauses is (first refl)
  came_from p pauses exact false is first second = pull_came p pauses exact (second refl)

  pull_at : (p : Pull) → is_pause p ≡ true → HappensAnywhere setup k (event.Pull side id) (answer.Pulled p) new → AllCame
  pull_at p pauses (AsPlainly told h) =
      let exact = subst (λ b. UnlessMemory b (PausesExactly u side id p)) told h.exact in
      let step = subst (λ b. StepOf b ps k (event.Pull side id) (answer.Pulled p) new) told h.step in
      came_from p pauses exact (is_settled k.world side id) refl
      (λ is. (subst (λ b. memory.Pulls ps k side (event.Pull side id) b (answer.Pulled p) new) is step).0) (λ is. (subst (λ b. memory.Pulls ps k side (event.Pull side id) b (answer.Pulled p) new) is step).0)
  pull_at p pauses (LacksMemory told h) = absurd (no_memory_pause p pauses told)
  pull_at p pauses (RefusesMalformed strict told is) = absurd (let never : false ≡ true = told in cc)
  pull_at p pauses (RefusesOwn unread is) = absurd unread
  pull_at p pauses (GivesMessageUp m) = absurd (let never : false ≡ true = sym (ap is_pause m.told) ∙ pauses in cc)

  list_at : (l : ListPull) → is_pause (pull_of l) ≡ true → HappensAnywhere setup k (event.PullFields side id) (answer.Listed l) new → AllCame
  list_at l pauses (AsPlainly told h) =
      let exact = subst (λ b. UnlessMemory b (PausesExactly u side id (pull_of l))) told h.exact in
      let step = subst (λ b. StepOf b ps k (event.PullFields side id) (answer.Listed l) new) told h.step in
      came_from (pull_of l) pauses exact (is_settled k.world side id) refl
      (λ is. (subst (λ b. memory.Pulls ps k side (event.PullFields side id) b (answer.Listed l) new) is step).0.0) (λ is. (subst (λ b. memory.Pulls ps k side (event.PullFields side id) b (answer.Listed l) new) is step).0.0)
  list_at l pauses (LacksMemory told h) = absurd (no_memory_pause (pull_of l) pauses told)
  list_at l pauses (RefusesMalformed strict told is) = absurd (let never : false ≡ true = told in cc)
  list_at l pauses (RefusesOwn unread is) = absurd unread
  list_at l pauses (GivesMessageUp m) = absurd (let never : false ≡ true = sym (ap is_pause m.told) ∙ pauses in cc)

  pull_on : (acting : Side) (i : ℕ) (p : Pull) → is_pause p ≡ true → HappensAnywhere setup k (event.Pull acting i) (answer.Pulled p) new → is_on side id acting i ≡ true → AllCame
  pull_on acting i p pauses happens on =
      let at = on_same side acting id i on in
      pull_at p pauses (subst (λ s. HappensAnywhere setup k (event.Pull s id) (answer.Pulled p) new) at.0 (subst (λ n. HappensAnywhere setup k (event.Pull acting n) (answer.Pulled p) new) at.1 happens))

  list_on : (acting : Side) (i : ℕ) (l : ListPull) → is_pause (pull_of l) ≡ true → HappensAnywhere setup k (event.PullFields acting i) (answer.Listed l) new → is_on side id acting i ≡ true → AllCame
  list_on acting i l pauses happens on =
      let at = on_same side acting id i on in
      list_at l pauses (subst (λ s. HappensAnywhere setup k (event.PullFields s id) (answer.Listed l) new) at.0 (subst (λ n. HappensAnywhere setup k (event.PullFields acting n) (answer.Listed l) new) at.1 happens))

  pub all_came_out : (e : Event) (x : Answer) → HappensAnywhere setup k e x new → pauses_on side id e x ≡ true → AllCame
  all_came_out (event.Pull acting i) (answer.Pulled pull.Pending) happens on = pull_on acting i pull.Pending refl happens on
  all_came_out (event.Pull acting i) (answer.Pulled (pull.Waiting count)) happens on = pull_on acting i (pull.Waiting count) refl happens on
  all_came_out (event.PullFields acting i) (answer.Listed list.Pending) happens on = list_on acting i list.Pending refl happens on
  all_came_out (event.PullFields acting i) (answer.Listed (list.Waiting count)) happens on = list_on acting i (list.Waiting count) refl happens on
  all_came_out e x happens on = absurd (cc)
