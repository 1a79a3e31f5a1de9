-- Bytes of the peer's encoder stream.
use Rattle.std.proofs.Common.{◌≡◌, ℕ, ◌-◌, ◌==◌, Bool, true, false, if◌then◌else◌, List, [], ◌∷◌, ◌++◌, append-nil, flat_map, Option, Some, refl, ap, sym, subst, ◌∙◌}
use Rattle.h3_field.specs.Instruction.{decoder_bytes}
use Rattle.h3_field.specs.Instruction.DecoderInstruction.{Increment}
use Rattle.h3_connection.specs.declared.setup.Announced.{Announced}
use Rattle.h3_proto.specs.declared.stream.Side.{Side}
use Rattle.h3_qpack.specs.Increments.{increment_for}
use Rattle.h3_connection.specs.declared.arrival.Arrival.{Arrival}
use Rattle.h3_connection.specs.declared.arrival.Arrival.TheVariants.{BytesCame}
use Rattle.h3_connection.specs.Control.{Found, read_encoder, increment}
use Rattle.h3_connection.specs.Delivering.{heard_as, unless_second}
use Rattle.h3_connection.specs.Endpoint.{EndpointHistory, limit_of, is_second, replied}
use Rattle.h3_connection.specs.Listeners.{Decoding, Hears, heard_more, after_hearing, insertions_heard}
use Rattle.h3_connection.specs.PartReading.{ReadsOn, HearsPart, held_as}
use Rattle.h3_connection.specs.State.{EndpointState, StandsFor, IsToldPeer}
use Rattle.h3_connection.specs.Unidirectional.Role.{Encoder}
use Rattle.h3_streams.proofs.PlacedLaws.{stands_encoder}
use Rattle.h3_streams.specs.Placed.{StreamsState, placed, Reads}
use Rattle.h3_streams.specs.ReadingOn.{ReadsSome, StopsAt, IsRead, Stops, left_arrivals}
use Rattle.h3_streams.specs.Stopping.{HeardPart, left_by}
use Rattle.h3_streams.specs.declared.left.Left.{Left}
use Rattle.h3_streams.specs.declared.readers.Stop.{Stop}
use Rattle.h3_streams.specs.declared.readers.Stop.TheVariants.{Unheld, Held}
use Rattle.h3_streams.proofs.Peers.{one_peer, told_peer}
use Rattle.h3_connection.specs.StrictConnection.{is_strict, stream_fault}
use Rattle.h3_connection.specs.Codes.{encoder_stream_error}

increment_by : (b : Bool) (n : ℕ) → flat_map decoder_bytes (if b then [] else Increment n ∷ []) ≡ (if b then [] else decoder_bytes (Increment n))
increment_by true n = refl
increment_by false n = append-nil (decoder_bytes (Increment n))

increment_bytes : (n : ℕ) → flat_map decoder_bytes (increment n) ≡ increment_for n
increment_bytes n = increment_by (n == 0) n

-- what waits on the own decoder stream
with_increment : (s : EndpointState) (x : StreamsState) (e : EndpointHistory) (id n : ℕ) (d : Decoding) (after : List ℕ) → StandsFor (placed s x) e → IsToldPeer e.side e.unidirectional id → after ≡ x.own.decoder ++ increment_for n
    → StandsFor (placed s (record x { encoder_on = Some id; decoding = d; own = record x.own { decoder = after } })) (replied (record e { encoder_on = Some id; decoding = d }) (increment n))
with_increment s x e id n d after h told is =
    subst (λ l. StandsFor (placed s (record x { encoder_on = Some id; decoding = d; own = record x.own { decoder = l } })) (replied (record e { encoder_on = Some id; decoding = d }) (increment n)))
    (ap (λ l. x.own.decoder ++ l) (increment_bytes n) ∙ sym is) (stands_encoder s x e id d (increment n) h told)

pub first_found : (role_found : Found) (on : Option ℕ) (e : EndpointHistory) (id : ℕ) → is_second on id ≡ false → unless_second (is_second on id) e role_found ≡ role_found
first_found found on e id first = ap (λ b. unless_second b e found) first

pub encoder_read : (x : StreamsState) (id : ℕ) (bytes : List ℕ) (d : Decoding) (fault told : Option ℕ) (after : List ℕ) (own : Announced) → false ≡ is_second x.encoder_on id → Hears own.choices.unfinished_limit x.decoding d bytes fault x.own.decoder after
    → told ≡ stream_fault (is_strict own) encoder_stream_error fault
    → (s : EndpointState) (e : EndpointHistory) (side : Side) → IsRead s x e side own id Encoder → Reads s told (record x { encoder_on = Some id; decoding = d; own = record x.own { decoder = after } }) (heard_as e id Encoder bytes)
encoder_read x id bytes d fault told after own first hears is s e side r =
    let h = r.stands in
    let y = record x { encoder_on = Some id; decoding = d; own = record x.own { decoder = after } } in
    let f = record e { encoder_on = Some id } in
    let here : is_second e.encoder_on id ≡ false = ap (λ o. is_second o id) (sym h.encoder_on) ∙ sym first in
    let k = subst (λ n. Hears n e.decoding d bytes fault x.own.decoder after) (sym (ap (λ (a : Announced). a.choices.unfinished_limit) r.own_is)) (subst (λ o. Hears own.choices.unfinished_limit o d bytes fault x.own.decoder after) h.decoding hears) in
    let all = heard_more (limit_of e) e.decoding bytes in
    let stands = subst (λ q. StandsFor (placed s (record x { encoder_on = Some id; decoding = q; own = record x.own { decoder = after } })) (read_encoder f bytes).0) (sym k.table)
    (with_increment s x e id (insertions_heard e.decoding all) (after_hearing all) after h (told_peer s x e side own id Encoder refl r) k.increment) in
    subst (Reads s told y) (sym (first_found (read_encoder f bytes) e.encoder_on e id here))
    (is ∙ ap (λ (a : Announced). stream_fault (is_strict a) encoder_stream_error fault) (sym r.own_is) ∙ ap (stream_fault (is_strict e.announced) encoder_stream_error) k.fault, stands)

-- a front of them was read
encoder_held : (x : StreamsState) (id : ℕ) (bytes : List ℕ) (d : Decoding) (after : List ℕ) (left : List Arrival) (own : Announced) → false ≡ is_second x.encoder_on id
    → HearsPart own.choices.unfinished_limit (record x.decoding { unread = x.decoding.unread ++ bytes }) d → after ≡ x.own.decoder ++ increment_for (d.decoder.table.inserted - x.decoding.decoder.table.inserted) → left ≡ BytesCame id [] ∷ []
    → (s : EndpointState) (e : EndpointHistory) (side : Side) → IsRead s x e side own id Encoder
    → Stops Encoder s x (record x { encoder_on = Some id; decoding = d; own = record x.own { decoder = after } }) e id bytes left
encoder_held x id bytes d after left own first part wrote is s e side r =
    let h = r.stands in
    let y = record x { encoder_on = Some id; decoding = d; own = record x.own { decoder = after } } in
    let here : is_second e.encoder_on id ≡ false = ap (λ o. is_second o id) (sym h.encoder_on) ∙ sym first in
    let part' = subst (λ n. HearsPart n (record e.decoding { unread = e.decoding.unread ++ bytes }) d) (sym (ap (λ (a : Announced). a.choices.unfinished_limit) r.own_is)) (subst (λ (o : Decoding). HearsPart own.choices.unfinished_limit (record o { unread = o.unread ++ bytes }) d) h.decoding part) in
    let wrote' = subst (λ (o : Decoding). after ≡ x.own.decoder ++ increment_for (d.decoder.table.inserted - o.decoder.table.inserted)) h.decoding wrote in
    let n = d.decoder.table.inserted - e.decoding.decoder.table.inserted in
    let new = replied (record e { encoder_on = Some id; decoding = d }) (increment n) in
    let stops : StopsAt s y (held_as e id (Encoder, bytes)) (BytesCame id [] ∷ []) (BytesCame id [] ∷ []) = record {
      after = new;
      reads = λ more. ReadsSome.Steps (ReadsOn.Hears refl part') ReadsSome.Stays;
      stands = with_increment s x e id n d after h (told_peer s x e side own id Encoder refl r) wrote';
      kinds = one_peer e.side id [] r.kind;
    } in
    Stops.Held here (subst (StopsAt s y (held_as e id (Encoder, bytes)) (BytesCame id [] ∷ [])) (sym is) stops)

-- the reading was refused memory
pub encoder_stopped : (x : StreamsState) (id : ℕ) (bytes : List ℕ) (d : Decoding) (after : List ℕ) (left : Left) (stop : Stop) (own : Announced) → false ≡ is_second x.encoder_on id
    → HeardPart own.choices.unfinished_limit stop bytes x.decoding d x.own.decoder after → left ≡ left_by stop id
    → (s : EndpointState) (e : EndpointHistory) (side : Side) → IsRead s x e side own id Encoder
    → Stops Encoder s x (record x { encoder_on = Some id; decoding = d; own = record x.own { decoder = after } }) e id bytes (left_arrivals left)
encoder_stopped x id bytes d after left Held own first (part, wrote) is s e side r = encoder_held x id bytes d after (left_arrivals left) own first part wrote (ap left_arrivals is) s e side r
encoder_stopped x id bytes d after left (Unheld back) own first (same, kept, nothing) is s e side r =
    let new = record x { encoder_on = Some id; decoding = d; own = record x.own { decoder = after } } in
    let with_id : new ≡ record x { encoder_on = Some id } = ap (λ q. record x { encoder_on = Some id; decoding = q; own = record x.own { decoder = after } }) kept
    ∙ ap (λ l. record x { encoder_on = Some id; own = record x.own { decoder = l } }) nothing in
    Stops.Unheld (ap (λ o. is_second o id) (sym r.stands.encoder_on) ∙ sym first) (ap left_arrivals is ∙ ap (λ l. BytesCame id l ∷ []) same) with_id
