-- What a field section that is sent does to what is stored.
use Rattle.std.proofs.Common.{arith, ◌≡◌, ℕ, true, false, List, [], ◌∷◌, ◌++◌, length, take, drop, flat_map, Option, Some, None, refl, ap, sym, subst, ◌∙◌, append-nil}
use Rattle.std.specs.Prelude.{IfSome, IsSome}
use Rattle.std.proofs.Math.Seq.{drop-append_seam}
use Rattle.h3_field.specs.Field.{Field}
use Rattle.h3_field.specs.Instruction.{EncoderInstruction, encoder_bytes}
use Rattle.h3_qpack.specs.EncoderHistory.{EncoderHistory, withdrawn, writing_on}
use Rattle.h3_qpack.specs.EncoderState.{encoder_state}
use Rattle.h3_qpack.specs.SectionEncoding.{draft_of, required_insert_count, sent_section}
use Rattle.h3_outgoing.specs.HistoryLaws.{appended}
use Rattle.h3_outgoing.specs.Sent as sent
use Rattle.h3_streams.specs.Placed.{StreamsState, placed}
use Rattle.h3_connection.specs.Calls.{Sets, AllSame}
use Rattle.h3_connection.specs.Endpoint.{EndpointHistory}
use Rattle.h3_connection.specs.Listeners.{Encoding}
use Rattle.h3_connection.specs.Outgoing.{OwnPart}
use Rattle.h3_connection.specs.Sections.{own_instructions, having_inserted, with_insertions}
use Rattle.h3_connection.specs.Sending as sending
use Rattle.h3_connection.specs.Sending.{encoded, outgoing_at}
use Rattle.h3_connection.specs.SendingContracts.{CutsOff}
use Rattle.h3_connection.specs.StandsLaws.{stands_sending}
use Rattle.h3_connection.specs.State.{EndpointState, RequestState, StandsFor, IsOfOutgoing, kept_at}
use Rattle.h3_connection.specs.StreamSets.{Streams}
use Rattle.h3_connection.specs.WaitingPieces.{piece_of, frame_piece}
use Rattle.h3_connection.specs.declared.place.SendPlace.{SendPlace}
use Rattle.h3_session.proofs.Opened.{stands_same}
use Rattle.h3_session.specs.Refused.{streams_of}
use Rattle.h3_session.specs.SendingFields.{Encodes, StopsEncoding, SameStreams, IsPart, Queues}
use Rattle.h3_session.proofs.Inserting.{none_inserted, nothing_inserted}
use Rattle.h3_session.proofs.SendingCalls.{sender_of}
use Rattle.h3_session.proofs.SendingStands.{encoding_stands}

-- A withdrawn section is one that was cut off behind all its fields.
take_all : (fields : List Field) → take (length fields) fields ≡ fields
take_all [] = refl
take_all (f ∷ fields) = ap (λ l. f ∷ l) (take_all fields)

pub withdrawn_stops : (s : EncoderHistory) (id : ℕ) (fields : List Field) (section : List ℕ) (count : ℕ) (before inside now : StreamsState) (encoding : Encoding) → inside ≡ now
    → withdrawn (sent_section s id fields) id (required_insert_count (draft_of (writing_on s id) fields)) ≡ having_inserted s id fields
    → ((h : EncoderHistory) → inside.encoding.encoder ≡ encoder_state h → encoding.encoder ≡ encoder_state (withdrawn h id count)) → encoding.unread ≡ inside.encoding.unread
    → Encodes s id fields section count before now → StopsEncoding s id fields before (record inside { encoding = encoding })
withdrawn_stops s id fields section count before inside now encoding view law stores unread h =
    let all = take_all fields in
    record {
      same = ap (λ (x : StreamsState). record x { encoding = encoding }) view ∙ ap (λ (x : StreamsState). record x { encoding = encoding }) h.same
          ∙ ap (λ (x : StreamsState). record before { encoding = encoding; own = record before.own { encoder = x.own.encoder } }) (sym view);
      unread = unread ∙ ap (λ (x : StreamsState). x.encoding.unread) view ∙ h.unread;
      front = length fields;
      within = omega arith;
      stores = stores (sent_section s id fields) (ap (λ (x : StreamsState). x.encoding.encoder) view ∙ h.stores)
          ∙ ap (λ n. encoder_state (withdrawn (sent_section s id fields) id n)) h.count_is ∙ ap encoder_state law ∙ ap (λ fs. encoder_state (having_inserted s id fs)) (sym all);
      written = ap (λ (x : StreamsState). x.own.encoder) view ∙ h.written ∙ ap (λ fs. before.own.encoder ++ flat_map encoder_bytes (own_instructions s id fs)) (sym all);
    }

-- What is stored, with the encoder and its instructions.
written_stands : (s : EndpointState) (e : EndpointHistory) (x : StreamsState) (encoder : EncoderHistory) (is : List EncoderInstruction) → StandsFor s e
    → SameStreams (streams_of s) x → x.encoding.encoder ≡ encoder_state encoder → x.encoding.unread ≡ s.encoding.unread
    → x.own.encoder ≡ s.own.encoder ++ flat_map encoder_bytes is
    → (e.peer.settings ≡ None → (encoder.capacity ≡ 0) × (encoder.inserted ≡ []))
    → StandsFor (placed s x) (record e { encoder = encoder; own = record e.own { instructions = e.own.instructions ++ is } })
written_stands s e x encoder is h same stores unread written unlearned =
    let f = record e { encoder = encoder; own = record e.own { instructions = e.own.instructions ++ is } } in
    let here : StandsFor (record s { encoding = x.encoding; own = record s.own { encoder = s.own.encoder ++ flat_map encoder_bytes is } }) f
    = encoding_stands s e x.encoding encoder is h stores unread unlearned in
    let there : StandsFor (record s { encoding = x.encoding; own = record s.own { encoder = x.own.encoder } }) f
    = subst (λ bytes. StandsFor (record s { encoding = x.encoding; own = record s.own { encoder = bytes } }) f) (sym written) here in
    subst (λ y. StandsFor (placed s y) f) (sym same) there

-- Before the peer's settings came nothing was inserted.
unlearned_after : (e : EndpointHistory) (id : ℕ) (fields : List Field) → (e.peer.settings ≡ None → (e.encoder.capacity ≡ 0) × (e.encoder.inserted ≡ []))
    → e.peer.settings ≡ None → (e.encoder.capacity ≡ 0) × ((draft_of (writing_on e.encoder id) fields).inserted ≡ [])
unlearned_after e id fields h none = ((h none).0, nothing_inserted e.encoder id fields (h none).0 (h none).1)

-- A section stands behind the room for its frame's head.
pub behind_room : (block before section : List ℕ) → block ≡ before ++ section → length before ≡ 9 → drop 9 block ≡ section
behind_room block before section is room =
    ap (drop 9) is ∙ ap (λ n. drop n (before ++ section)) (sym room) ∙ drop-append_seam before section

-- Nothing was inserted.
pub not_begun : (s : EndpointState) (e : EndpointHistory) (id : ℕ) (fields : List Field) → StandsFor s e → CutsOff e id fields s
not_begun s e id fields h =
    let inserted : having_inserted e.encoder id [] ≡ e.encoder = none_inserted e.encoder id in
    let none : with_insertions e id [] ≡ e
    = ap (λ encoder. record e { encoder = encoder; own = record e.own { instructions = e.own.instructions ++ [] } }) inserted ∙ ap (λ l. record e { own = record e.own { instructions = l } }) (append-nil e.own.instructions) in
    record { front = 0; within = omega arith; stands = subst (StandsFor s) (sym none) h }

-- It was cut off.
pub stops : (s now : EndpointState) (x : StreamsState) (id : ℕ) (fields : List Field) → s ≡ now
    → ((encoder : EncoderHistory) → s.encoding.encoder ≡ encoder_state encoder → StopsEncoding encoder id fields (streams_of s) x)
    → (e : EndpointHistory) → StandsFor now e → CutsOff e id fields (placed s x)
stops s now x id fields view cuts e stands_now =
    let stands : StandsFor s e = subst (λ v. StandsFor v e) (sym view) stands_now in
    let h = cuts e.encoder stands.encoder in
    record {
      front = h.front;
      within = h.within;
      stands = written_stands s e x (having_inserted e.encoder id (take h.front fields)) (own_instructions e.encoder id (take h.front fields)) stands h.same h.stores h.unread h.written
          (unlearned_after e id (take h.front fields) stands.reached.unlearned);
    }

-- or taken back
pub stops_late : (s now : EndpointState) (mid_streams x : StreamsState) (new : Streams RequestState) (id : ℕ) (fields : List Field) (section : List ℕ) (count : ℕ) → s ≡ now → AllSame s.requests new
    → ((encoder : EncoderHistory) → s.encoding.encoder ≡ encoder_state encoder → Encodes encoder id fields section count (streams_of s) mid_streams)
    → ((encoder : EncoderHistory) (fs : List Field) (bytes : List ℕ) (before : StreamsState) → Encodes encoder id fs bytes count before mid_streams → StopsEncoding encoder id fs before x)
    → (e : EndpointHistory) → StandsFor now e → CutsOff e id fields (placed (record s { requests = new }) x)
stops_late s now mid_streams x new id fields section count view same encodes withdraws e h =
    let cut : CutsOff e id fields (placed s x) = stops s now x id fields view (λ encoder is. withdraws encoder fields section (streams_of s) (encodes encoder is)) e h in
    record { front = cut.front; within = cut.within; stands = stands_same (placed s x) (with_insertions e id (take cut.front fields)) new cut.stands same }

-- A section waits on its stream.
queued : (s : EndpointState) (e : EndpointHistory) (x : StreamsState) (new : Streams RequestState) (id : ℕ) (fields : List Field) (section : List ℕ) (count : ℕ) (place : SendPlace) (part : OwnPart) (there : Option RequestState)
    → StandsFor s e → Encodes e.encoder id fields section count (streams_of s) x → IsPart e id fields place part → kept_at s.requests id ≡ there → IsSome there
    → IfSome there (λ r. Sets s.requests new id (record r { outgoing = sent.has_section r.outgoing section place }))
    → StandsFor (placed (record s { requests = new }) x) (sending.appended (encoded e id fields) id part)
queued s e x new id fields section count place part None h encodes is was some sets = absurd (let never : false ≡ true = some in cc)
queued s e x new id fields section count place part (Some r) h encodes is was some sets =
    let o = outgoing_at e id in
    let w = sender_of s e id r h was in
    let stands : StandsFor (placed s x) (encoded e id fields)
    = written_stands s e x (sent_section e.encoder id fields) (own_instructions e.encoder id fields) h encodes.same encodes.stores encodes.unread encodes.written (unlearned_after e id fields h.reached.unlearned) in
    let piece : piece_of part ≡ frame_piece 1 section = is.piece ∙ ap (frame_piece 1) (sym encodes.section_is) in
    let pushed = appended o r.outgoing part place w is.sends_on is.place_is in
    stands_sending (placed s x) (encoded e id fields) new id r (record r { outgoing = sent.has_section r.outgoing section place }) (record o { parts = o.parts ++ part ∷ [] }) stands was refl
    (subst (λ p. IsOfOutgoing (record o { parts = o.parts ++ part ∷ [] }) (record r.outgoing { pieces = r.outgoing.pieces ++ p ∷ []; place = place })) piece pushed) sets

pub queues : (s now : EndpointState) (x : StreamsState) (new : Streams RequestState) (id : ℕ) (fields : List Field) (section : List ℕ) (count : ℕ) (place : SendPlace) → s ≡ now
    → ((encoder : EncoderHistory) → s.encoding.encoder ≡ encoder_state encoder → Encodes encoder id fields section count (streams_of s) x)
    → IsSome (kept_at s.requests id) → IfSome (kept_at s.requests id) (λ r. Sets s.requests new id (record r { outgoing = sent.has_section r.outgoing section place }))
    → Queues now (placed (record s { requests = new }) x) id fields place
queues s now x new id fields section count place view encodes some sets =
    record {
      stands = λ e part h is.
          let here : StandsFor s e = subst (λ v. StandsFor v e) (sym view) h in
          queued s e x new id fields section count place part (kept_at s.requests id) here (encodes e.encoder here.encoder) is refl some sets;
      sent = ap (λ v. v.sent) view;
    }
