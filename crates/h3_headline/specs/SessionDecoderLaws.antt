-- The decoder of an endpoint that stands in a world is that of the session, and each section that a stream decodes next is what a writer
-- took.
use Rattle.std.proofs.Common.{◌≡◌, Some, ℕ, zero, suc, List, [], take, refl, ◌-◌, ◌≤◌, Bool, true, false, length, min, sym, ap, ◌∙◌, subst, ◌∷◌, arith, ◌⊎◌, inl, inr, ◌+◌, ◌++◌, drop, Option, None, if◌then◌else◌}
use Rattle.h3_qpack.specs.DecoderState.{DecoderState, decoder_after_all}
use Rattle.h3_field.specs.Field.{Field}
use Rattle.h3_field.specs.Instruction.{encoder_bytes}
use Rattle.h3_proto.specs.declared.stream.Side.{Side}
use Rattle.h3_qpack.specs.Encodings.{HasInsertions, IsDecoderAt, IsWritten}
use Rattle.h3_qpack.specs.Exchange as exchange
use Rattle.h3_qpack.specs.WholeInstructions.{whole_in}
use Rattle.h3_connection.specs.OwnIds.{other}
use Rattle.h3_world.specs.Came.{settings_came, instructions_came, insertions_came}
use Rattle.h3_world.specs.Following.{HasCapacity, as_encoded, EncodedSection, section_in, sections_in, sections_left, sections_on, undecoded, HasSession}
use Rattle.h3_world.specs.Setup.{IsMadeSetup, Setup, announced_at, flags_secrets}
use Rattle.h3_world.specs.Sound.{IsSoundParty, IsSentSection, IsSentPart, AreSent, IsSoundExchange, IsSoundWorld}
use Rattle.h3_world.specs.World.{World, party, Party, Exchange, no_exchange}
use Rattle.h3_qpack.specs.EncoderHistory.{EncoderHistory}
use Rattle.h3_world.specs.Flow.{Section, Part, part_bytes}
use Rattle.std.specs.List.{AllByRecursion}
use Rattle.h3_world.specs.Flow.Part.{Interim, Head, Body, Trailer, End}
use Rattle.std.specs.Prelude.{slice_get, unwrap_or, ◌==◌, map, filter, is_some}
use Rattle.h3_proto.specs.StreamIds.{is_request_stream, index_of}
use Rattle.h3_world.specs.Streams as streams
use Rattle.h3_proto.specs.declared.stream.Side.TheVariants.{Client, Server}
use Rattle.h3_world.specs.Streams.{flow, is_open}
use Rattle.h3_qpack.specs.Session.{UndecodedSection, oldest, is_canceled}
use Rattle.h3_connection.specs.Endpoint.{EndpointHistory, first_decoder}
use Rattle.h3_connection.specs.StrictConnection.{is_strict}
use Rattle.h3_connection.specs.declared.setup.Announced.{Announced}
use Rattle.h3_world.specs.Order.{next_part}
use Rattle.h3_headline.specs.AcceptedLaws.{counts_all}
use Rattle.h3_headline.specs.Cited.{ListsAreTheirValue, StreamLaws}
use Rattle.h3_headline.specs.ComingLaws.{sound_flow}
use Rattle.h3_headline.specs.DecodesLaws.{decodes_some, next_decodes}
use Rattle.h3_headline.specs.Decoding.{AreTaken, HasRead, IsAfter, IsTaken, held}
use Rattle.h3_headline.specs.EncoderStreamLaws.{least_right, opened_instructions, read_as}
use Rattle.h3_headline.specs.FlowLaws.{open_there, other-other}
use Rattle.h3_headline.specs.OwnOverLaws.{party_sound}
use Rattle.h3_headline.specs.Pulling.{DecodesNext, DecodesNextAs}
use Rattle.h3_headline.specs.Standing.{StandsAt}
use Rattle.h3_headline.specs.UnitLaws.{whole_within}

same_decoder : (r q : DecoderState) → Some r ≡ Some q → r ≡ q
same_decoder r q e = cc

none_taken : (n : ℕ) → ◌≡◌ {A = List Field} (take n []) []
none_taken zero = refl
none_taken (suc n) = refl

nothing_read : (first : DecoderState) (k : ℕ) (r : DecoderState) → decoder_after_all (Some first) (take k []) ≡ Some r → first ≡ r
nothing_read first zero r e = same_decoder first r e
nothing_read first (suc k) r e = same_decoder first r e

has_read : (laws : StreamLaws) (setup : Setup) (w : World) (writer : Side) (r : DecoderState) → IsMadeSetup setup → (sound : IsSoundParty setup w writer) → IsAfter setup w writer r
    → HasRead (announced_at setup (other writer)).limits.table (min sound.session.session.encoder.most_capacity (announced_at setup (other writer)).limits.table) sound.session.session.encoder.inserted r
has_read laws setup w writer r made sound reads = by_known (settings_came setup w (other writer)) refl
  where
    own : Announced
    own = announced_at setup (other writer)

    announced : ℕ
    announced = own.limits.table

    capacity : ℕ
    capacity = min sound.session.session.encoder.most_capacity announced

    k : ℕ
    k = whole_in encoder_bytes ((party w writer).own.encoder_taken - 1) (party w writer).own.instructions

    by_known : (b : Bool) → settings_came setup w (other writer) ≡ b → HasRead announced capacity sound.session.session.encoder.inserted r
    by_known true e =
        let h = sound.session in
        let s = h.session in
        let all = opened_instructions setup w writer made h e in
        let is_read = read_as announced s (subst (HasCapacity announced) (sym h.follows.encoder) sound.writer.capacity) (laws.sound h.counts h.most 0 0 h.events s h.run).read in
        let within = whole_within encoder_bytes ((party w writer).own.encoder_taken - 1) (party w writer).own.instructions in
        let front = laws.tables_read (is_strict own) announced capacity s.instructions s.encoder.inserted k (least_right s.encoder.most_capacity announced) is_read (subst (λ is. k ≤ length is) all within) in
        let same = same_decoder front.0 r (sym front.1 ∙ ap (λ is. decoder_after_all (Some (first_decoder own)) (take k is)) (sym all) ∙ reads) in
        record { count = k - length (exchange.opening capacity); has = subst (HasInsertions announced capacity (take (k - length (exchange.opening capacity)) s.encoder.inserted)) same front.2 }
    by_known false e =
        let none = (sound.writer.unknown e).2 in
        let same = nothing_read (first_decoder own) k r (ap (λ is. decoder_after_all (Some (first_decoder own)) (take k is)) (sym none) ∙ reads) in
        record { count = 0; has = subst (HasInsertions announced capacity []) same (record { announced_is = refl; entries = refl; count = refl }) }

-- a front is told by its length
same_front : (n m : ℕ) (xs : List Field) → length (take n xs) ≡ m → take n xs ≡ take m xs
same_front zero m xs e = ap (λ k. take k xs) e
same_front (suc n) m [] e = sym (none_taken m)
same_front (suc n) zero (x ∷ xs) e = absurd (omega (arith, e))
same_front (suc n) (suc m) (x ∷ xs) e = ap (λ l. x ∷ l) (same_front n m xs (omega (arith, e)))

-- of no insertions none is held, whatever the capacity
held_same : (capacity announced m : ℕ) (inserted : List Field) → (capacity ≡ announced) ⊎ (inserted ≡ []) → held announced (take m inserted) ≡ held capacity (take m inserted)
held_same capacity announced m inserted (inl same) = ap (λ c. held c (take m inserted)) (sym same)
held_same capacity announced m inserted (inr none) =
    let empty : take m inserted ≡ [] = ap (λ fs. take m fs) none ∙ none_taken m in
    ap (held announced) empty ∙ sym (ap (held capacity) empty)

learned_by : (announced : ℕ) (s : EncoderHistory) → HasCapacity announced s → (s.announced ≡ announced) ⊎ (s.inserted ≡ [])
learned_by announced s (inl is) = inl is.0
learned_by announced s (inr none) = inr none.1

used_by : (announced : ℕ) (s : EncoderHistory) → HasCapacity announced s → (s.capacity ≡ min s.most_capacity announced) ⊎ (s.inserted ≡ [])
used_by announced s (inl is) = inl is.1
used_by announced s (inr none) = inr none.1

-- **The decoder is that of the session.**
pub decoder_is_at : (laws : StreamLaws) (setup : Setup) (w : World) (writer : Side) (r : DecoderState) → IsMadeSetup setup → (sound : IsSoundParty setup w writer) → IsAfter setup w writer r
    → IsDecoderAt (announced_at setup (other writer)).limits.table sound.session.session r
decoder_is_at laws setup w writer r made sound reads =
    let announced = (announced_at setup (other writer)).limits.table in
    let h = sound.session in
    let s = h.session in
    let q = has_read laws setup w writer r made sound reads in
    let counts = counts_all (first_decoder (announced_at setup (other writer))) r (instructions_came (party w writer)) reads in
    let received : r.table.inserted ≡ s.received = omega (arith, counts.sum, h.follows.received) in
    let has : HasCapacity announced s.encoder = subst (HasCapacity announced) (sym h.follows.encoder) sound.writer.capacity in
    let used = min s.encoder.most_capacity announced in
    record {
      capacity = q.has.announced_is;
      entries = q.has.entries ∙ ap (held used) (same_front q.count s.received s.encoder.inserted (sym q.has.count ∙ received)) ∙ held_same s.encoder.capacity used s.received s.encoder.inserted (used_by announced s.encoder has);
      inserted = received;
      learned = learned_by announced s.encoder has;
    }

section_taken : (p : Party) (s : Section) → IsSentSection p s → IsTaken (as_encoded s)
section_taken p s h = (h.of_bytes, omega (arith, h.small), omega (arith, h.has_length))

part_taken : (p : Party) (end : ℕ) (part : Part) (more : List EncodedSection) → IsSentPart p end part → AllByRecursion IsTaken more → AllByRecursion IsTaken (section_in part ++ more)
part_taken p end (Interim s) more h later = (section_taken p s h.0, later)
part_taken p end (Head s) more h later = (section_taken p s h.0, later)
part_taken p end (Trailer s) more h later = (section_taken p s h.0, later)
part_taken p end (Body bytes own) more h later = later
part_taken p end End more h later = later

sent_taken : (p : Party) (before : Option Part) (start : ℕ) (parts : List Part) (n : ℕ) → AreSent p before start parts → AllByRecursion IsTaken (sections_in (drop n parts))
sent_taken p before start [] zero h = tt
sent_taken p before start [] (suc n) h = tt
sent_taken p before start (q ∷ qs) zero h =
    part_taken p (start + length (part_bytes q)) q (sections_in qs) h.1 (sent_taken p (Some q) (start + length (part_bytes q)) qs zero h.2)
sent_taken p before start (q ∷ qs) (suc n) h = sent_taken p (Some q) (start + length (part_bytes q)) qs n h.2

exchange_taken : (w : World) (es : List Exchange) (n : ℕ) → AllByRecursion (IsSoundExchange w) es → AreTaken (unwrap_or (slice_get es n) no_exchange)
exchange_taken w [] zero h = (tt, tt)
exchange_taken w [] (suc n) h = (tt, tt)
exchange_taken w (e ∷ es) zero h = (sent_taken w.client None 0 e.request.sent e.request.parts_out h.0.request.sent, sent_taken w.server None 0 e.response.sent e.response.parts_out h.0.response.sent)
exchange_taken w (e ∷ es) (suc n) h = exchange_taken w es n h.1

id_taken : (w : World) (id : ℕ) → AllByRecursion (IsSoundExchange w) w.exchanges → AreTaken (streams.exchange w id)
id_taken w id h = by_test (is_request_stream id)
  where
    by_test : (b : Bool) → AreTaken (if b then unwrap_or (slice_get w.exchanges (index_of id)) no_exchange else no_exchange)
    by_test true = exchange_taken w w.exchanges (index_of id) h
    by_test false = (tt, tt)

flow_taken : (setup : Setup) (w : World) (writer : Side) (id : ℕ) → IsSoundWorld setup w → AllByRecursion IsTaken (sections_left (flow w writer id))
flow_taken setup w Client id h = (id_taken w id h.exchanges).0
flow_taken setup w Server id h = (id_taken w id h.exchanges).1

-- the oldest section of a stream is one of its sections
oldest_first : (P : EncodedSection → Type 0) (id : ℕ) (b : UndecodedSection) (bs : List UndecodedSection) → oldest id bs ≡ Some b → AllByRecursion P (sections_on id bs) → P (undecoded b)
oldest_first P id b [] e all = cc
oldest_first P id b (x ∷ xs) e all = by_test (x.stream == id) e all (oldest_first P id b xs)
  where
    by_test : (t : Bool) → (if t then Some x else oldest id xs) ≡ Some b → AllByRecursion P (map undecoded (if t then x ∷ filter (λ b. b.stream == id) xs else filter (λ b. b.stream == id) xs))
        → (oldest id xs ≡ Some b → AllByRecursion P (sections_on id xs) → P (undecoded b)) → P (undecoded b)
    by_test true e all later = subst (λ y. P (undecoded y)) (ap (λ o. unwrap_or o x) e) all.0
    by_test false e all later = later e all

none_of : {X : Type 0} (o : Option X) → is_some o ≡ false → o ≡ None
none_of None e = refl
none_of (Some x) e = cc

-- **Each section that a stream decodes next is what a writer took.**
pub sections_written : (laws : StreamLaws) (setup : Setup) (w : World) (writer : Side) → IsSoundWorld setup w → (h : HasSession setup w writer) → (b : UndecodedSection) → oldest b.stream h.session.sections ≡ Some b
    → is_canceled h.session b.stream ≡ false → IsWritten h.session b
sections_written laws setup w writer sound h b is kept =
    let alive = none_of (flow w writer b.stream).fault (sym (h.follows.canceled b.stream) ∙ kept) in
    let all = subst (AllByRecursion IsTaken) (sym (h.follows.sections b.stream alive)) (flow_taken setup w writer b.stream sound) in
    let taken = oldest_first IsTaken b.stream b h.session.sections is all in
    laws.written h.counts h.most 0 0 h.events h.session b h.run is taken.0 taken.1 taken.2

-- **An endpoint that stands in a world has read the insertions that came.**
pub insertions_read : (setup : Setup) (w : World) (side : Side) (e : EndpointHistory) → StandsAt setup w side e → e.decoding.decoder.table.inserted ≡ insertions_came (party w (other side))
insertions_read setup w side e h =
    let counts = counts_all (first_decoder (announced_at setup side)) e.decoding.decoder (instructions_came (party w (other side))) h.encoder_stream.decoder in
    omega (arith, counts.sum)

-- **What its decoder makes of the next section of a stream that was not given up.**
pub endpoint_decodes_as : (laws : StreamLaws) (lists : ListsAreTheirValue) (setup : Setup) (w : World) (side : Side) (id : ℕ) (e : EndpointHistory) → IsMadeSetup setup → StandsAt setup w side e → IsSoundWorld setup w
    → is_open w side id ≡ true → (flow w (other side) id).fault ≡ None
    → DecodesNextAs lists side (announced_at setup side) id e.decoding.decoder (insertions_came (party w (other side))) (flags_secrets (announced_at setup (other side))) (next_part (flow w (other side) id))
endpoint_decodes_as laws lists setup w side id e made h sound there alive =
    let writer = party_sound setup w (other side) sound in
    let reads : IsAfter setup w (other side) e.decoding.decoder =
    subst (λ s. decoder_after_all (Some (first_decoder (announced_at setup s))) (instructions_came (party w (other side))) ≡ Some e.decoding.decoder) (sym (other-other side)) h.encoder_stream.decoder in
    next_decodes lists laws.values setup w (other side) side (announced_at setup side) id (announced_at setup (other (other side))).limits.table e.decoding.decoder (party w (other side)) writer.session
    (sound_flow setup w (other side) id sound (open_there w side id there)) alive
    (decoder_is_at laws setup w (other side) e.decoding.decoder made writer reads)
    (sections_written laws setup w (other side) sound writer.session)

-- the same, whether its secrets were guarded or not
pub endpoint_decodes : (laws : StreamLaws) (lists : ListsAreTheirValue) (setup : Setup) (w : World) (side : Side) (id : ℕ) (e : EndpointHistory) → IsMadeSetup setup → StandsAt setup w side e → IsSoundWorld setup w
    → is_open w side id ≡ true → (flow w (other side) id).fault ≡ None
    → DecodesNext lists side (announced_at setup side) id e.decoding.decoder (insertions_came (party w (other side))) (next_part (flow w (other side) id))
endpoint_decodes laws lists setup w side id e made h sound there alive =
    decodes_some lists side (announced_at setup side) id (insertions_came (party w (other side))) e.decoding.decoder (flags_secrets (announced_at setup (other side))) (next_part (flow w (other side) id))
    (endpoint_decodes_as laws lists setup w side id e made h sound there alive)
