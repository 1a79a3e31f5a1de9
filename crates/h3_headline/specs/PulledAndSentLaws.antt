-- Over a whole run, what is handed out of a flow is a front of what is sent on it.
use Rattle.std.proofs.Common.{◌≡◌, true, false, arith, ℕ, ◌+◌, ◌-◌, Bool, List, ◌++◌, sym, ap, ◌∙◌, zero, suc, [], ◌∷◌, refl, None, append_assoc, Some, length, Option, ◌≤◌, ◌<◌, subst}
use Rattle.std.proofs.lemmas.Grind.{common_steps}
use Rattle.std.specs.Prelude.{map, take, slice_get, ◌||◌, nat_lt, unwrap_or, if◌then◌else◌}
use Rattle.h3_world.specs.Flow.{Flow, Part, part_bytes}
use Rattle.h3_world.specs.Order.{next_part, is_end, is_over}
use Rattle.h3_world.specs.Flow.Part.{Interim, Head, Body, Trailer, End}
use Rattle.h3_world.specs.Sound.{AreSent}
use Rattle.h3_world.specs.World.{Party, World, no_exchange, party}
use Rattle.std.proofs.lemmas.Option.{slice_get_past}
use Rattle.h3_proto.specs.StreamIds.{is_request_stream, index_of}
use Rattle.h3_world.specs.Streams.{exchange, flow}
use Rattle.h3_proto.specs.declared.stream.Side.{Side}
use Rattle.h3_proto.specs.declared.stream.Side.TheVariants.{Client, Server}
use Rattle.h3_connection.specs.OwnIds.{other}
use Rattle.h3_world.specs.Setup.{Setup}
use Rattle.h3_world.specs.declared.event.Event.{Event}
use Rattle.h3_world.specs.declared.event.Answer.{Answer}
use Rattle.h3_headline.specs.ComingLaws.{sound_flow}
use Rattle.h3_headline.specs.ContentLaws.{front_of_all, out_front}
use Rattle.h3_headline.specs.Contents.{Carried, Carries, IsAll, IsLastEnd, contents, has_end, out, out_of, part_contents, piece_of, reader_of}
use Rattle.h3_headline.specs.FlowLaws.{and_first, and_second, same_both}
use Rattle.h3_headline.specs.Exactly.{as_listed, IsAllOf, IsExactly, Reader}
use Rattle.h3_headline.specs.Messages.{IsFrontOf, MessageContent, has_finished, has_pulled_end, pulled, sent}
use Rattle.h3_headline.specs.Messages.MessageContent.{Byte, FieldSection, Foreign, TooLarge}
use Rattle.h3_headline.specs.PartLaws.{end_last}
use Rattle.h3_headline.specs.Steps.{IsThere}

pub differ : false ≡ true → ⊥
differ h = grind (arith, common_steps, h)

-- However it was sent, it is handed out as what went out.
as_sent : (r : Reader) (c d : MessageContent) → IsExactly r c (as_listed d) → IsExactly r c d
as_sent r (FieldSection kind true given) (FieldSection k l fields) h = h
as_sent r (FieldSection kind false given) (FieldSection k l fields) h = h
as_sent r (TooLarge size) (FieldSection k l fields) h = h
as_sent r (Byte b) (FieldSection k l fields) h = h
as_sent r Foreign (FieldSection k l fields) h = h
as_sent r c (Byte b) h = h
as_sent r c (TooLarge size) h = h
as_sent r c Foreign h = h

pub front_as_sent : (r : Reader) (given sending : List MessageContent) → IsFrontOf (IsExactly r) given (map as_listed sending) → IsFrontOf (IsExactly r) given sending
front_as_sent r [] sending h = tt
front_as_sent r (c ∷ given) (d ∷ sending) h = (as_sent r c d h.0, front_as_sent r given sending h.1)
front_as_sent r (c ∷ given) [] h = absurd h

pub all_as_sent : (r : Reader) (given sending : List MessageContent) → IsAllOf (IsExactly r) given (map as_listed sending) → IsAllOf (IsExactly r) given sending
all_as_sent r [] [] h = tt
all_as_sent r (c ∷ given) (d ∷ sending) h = (as_sent r c d h.0, all_as_sent r given sending h.1)
all_as_sent r [] (d ∷ sending) h = absurd h
all_as_sent r (c ∷ given) [] h = absurd h

-- **A front.**
pub is_front : (r : Reader) (g : Flow) (sending : List MessageContent) (finishing : Bool) (handing : List MessageContent) (ending : Bool) → Carries r g sending finishing handing ending → IsFrontOf (IsExactly r) handing sending
is_front r g sending finishing handing ending c =
    let front = out_front g.parts_out g.body_out g.sent in
    front_as_sent r handing sending (subst (IsFrontOf (IsExactly r) handing) (sym front.is ∙ c.sent_is) (front_of_all r handing (out g) front.rest c.handed_is))

-- with no part left, all is handed out
all_of_parts : (parts : List Part) (n b : ℕ) → slice_get parts n ≡ None → out_of parts n b ≡ contents parts
all_of_parts [] zero b e = refl
all_of_parts [] (suc n) b e = refl
all_of_parts (p ∷ ps) zero b e = cc
all_of_parts (p ∷ ps) (suc n) b e =
    append_assoc (part_contents p) (contents (take n ps)) (piece_of b (slice_get ps n)) ∙ ap (λ l. part_contents p ++ l) (all_of_parts ps n b e)

pub is_all : (r : Reader) (g : Flow) (sending : List MessageContent) (finishing : Bool) (handing : List MessageContent) (ending : Bool) → Carries r g sending finishing handing ending → next_part g ≡ None → IsAllOf (IsExactly r) handing sending
is_all r g sending finishing handing ending c none =
    all_as_sent r handing sending (subst (IsAllOf (IsExactly r) handing) (all_of_parts g.sent g.parts_out g.body_out none ∙ c.sent_is) c.handed_is)

-- the end is the last part
end_of : (q : Part) → is_end (Some q) ≡ true → q ≡ End
end_of (Interim s) e = absurd (differ e)
end_of (Head s) e = absurd (differ e)
end_of (Body bytes own) e = absurd (differ e)
end_of (Trailer s) e = absurd (differ e)
end_of End e = refl

or_true : (a b : Bool) → b ≡ true → (a || b) ≡ true
or_true true b e = refl
or_true false b e = e

last_end : (p : Party) (before : Option Part) (start : ℕ) (parts : List Part) (n : ℕ) → AreSent p before start parts → is_end (slice_get parts n) ≡ true → IsLastEnd parts n
last_end p before start [] n h e = absurd (differ e)
last_end p before start (q ∷ qs) zero h e =
    record { count = ap (λ l. length (q ∷ l)) (end_last p (start + length (part_bytes q)) qs q h.2 (end_of q e)); ends = ap (λ b. b || has_end qs) e }
last_end p before start (q ∷ qs) (suc n) h e =
    let r = last_end p (Some q) (start + length (part_bytes q)) qs n h.2 e in
    record { count = omega (arith, r.count); ends = or_true (is_end (Some q)) (has_end qs) r.ends }

-- a flow whose end is out is there
pub no_flow : (w : World) (id : ℕ) → nat_lt (index_of id) (length w.exchanges) ≡ false → exchange w id ≡ no_exchange
no_flow w id e =
    ap (λ o. if is_request_stream id then unwrap_or o no_exchange else no_exchange) (slice_get_past w.exchanges (index_of id) (beyond (index_of id) (length w.exchanges) e)) ∙ same_both (is_request_stream id) no_exchange no_exchange (λ e. refl)
  where
    beyond : (a b : ℕ) → nat_lt a b ≡ false → b ≤ a
    beyond a b h = grind (arith, common_steps, h)

not_over : (w : World) (writer : Side) (id : ℕ) → exchange w id ≡ no_exchange → is_over (flow w writer id) ≡ true → ⊥
not_over w Client id none e = differ (ap (λ x. is_over x.request) (sym none) ∙ e)
not_over w Server id none e = differ (ap (λ x. is_over x.response) (sym none) ∙ e)

over_there : (w : World) (writer : Side) (id : ℕ) → is_over (flow w writer id) ≡ true → IsThere w id
over_there w writer id e = record { request = by_request (is_request_stream id) refl; place = by_place (nat_lt (index_of id) (length w.exchanges)) refl }
  where
    by_request : (b : Bool) → is_request_stream id ≡ b → is_request_stream id ≡ true
    by_request true is = is
    by_request false is = absurd (not_over w writer id (ap (λ b. if b then unwrap_or (slice_get w.exchanges (index_of id)) no_exchange else no_exchange) is) e)

    below : (a b : ℕ) → nat_lt a b ≡ true → a < b
    below a b h = grind (arith, common_steps, h)

    by_place : (b : Bool) → nat_lt (index_of id) (length w.exchanges) ≡ b → index_of id < length w.exchanges
    by_place true is = below (index_of id) (length w.exchanges) is
    by_place false is = absurd (not_over w writer id (no_flow w id is) e)

pub is_complete : (setup : Setup) (w : World) (events : List Event) (answers : List Answer) (writer : Side) (id : ℕ) → Carried setup w events answers writer id → has_pulled_end (other writer) id events answers ≡ true
    → IsAll (reader_of setup writer) (sent writer id events answers) (has_finished writer id events answers) (pulled (other writer) id events answers)
is_complete setup w events answers writer id c ended =
    let g = flow w writer id in
    let over = c.carried.over_is ended in
    let sound = sound_flow setup w writer id c.sound (over_there w writer id over) in
    let last = last_end (party w writer) None 0 g.sent (g.parts_out - 1) sound.sent (and_second (nat_lt 0 g.parts_out) (is_end (slice_get g.sent (g.parts_out - 1))) over) in
    let some = below 0 g.parts_out (and_first (nat_lt 0 g.parts_out) (is_end (slice_get g.sent (g.parts_out - 1))) over) in
    let none = slice_get_past g.sent g.parts_out (omega (arith, last.count, some)) in
    record {
      all = is_all (reader_of setup writer) g (sent writer id events answers) (has_finished writer id events answers) (pulled (other writer) id events answers) (has_pulled_end (other writer) id events answers) c.carried none;
      has_finished = sym c.carried.end_is ∙ last.ends;
    }
  where
    below : (a b : ℕ) → nat_lt a b ≡ true → a < b
    below a b h = grind (arith, common_steps, h)
