-- What is read of what came is answered behind all that was written, and opens streams.
use Rattle.std.proofs.Common.{◌≡◌, ◌⊎◌, inl, inr, ℕ, Bool, true, false, if◌then◌else◌, List, [], ◌∷◌, ◌++◌, refl, sym, ap, subst, ◌∙◌, Option, Some, None}
use Rattle.std.specs.Prelude.{◌-◌, All, IfSome, fold, is_some, min, option_map, unwrap_or}
use Rattle.std.proofs.lemmas.List.Elements.{All-head, All-tail}
use Rattle.h3_field.specs.Instruction.{DecoderInstruction}
use Rattle.h3_field.specs.Instruction.EncoderInstruction.{SetCapacity}
use Rattle.h3_proto.specs.Settings.{value_of}
use Rattle.h3_proto.specs.declared.stream.Side.{Side}
use Rattle.h3_proto.specs.declared.stream.Side.TheVariants.{Client, Server}
use Rattle.h3_connection.specs.Arrivals.{is_closed_in, stream_of}
use Rattle.h3_connection.specs.declared.arrival.Arrival.{Arrival}
use Rattle.h3_connection.specs.declared.arrival.Arrival.TheVariants.{BytesCame, EndCame, ResetCame}
use Rattle.h3_connection.specs.Codes.{missing_settings, settings_error}
use Rattle.h3_connection.specs.Control.{Found, after_peer, are_refused, holding, if_learned, increment, is_table_usable, kept_unread, lacks_settings, learned, listened_to, read_control, read_decoder, read_encoder, read_held, settings_alone, taken_peer, then_decoder, with_table}
use Rattle.h3_connection.specs.Delivering.{bytes_at, cancellation, closed_by, delivery_refusal, end_at, give_up, given_up_once, heard_as, incoming_at, kept, opened, opened_at, read_unidirectional, refusal_at, request_refusal, reset_at, taken, unidirectional_at, unless_second, with_end, with_incoming, with_unidirectional}
use Rattle.h3_connection.specs.Endpoint.{EndpointHistory, Kind, is_second, kind_of, limit_of, replied}
use Rattle.h3_connection.specs.Endpoint.Kind.{Request, ServerOpened, OwnUnidirectional, PeerUnidirectional}
use Rattle.h3_connection.specs.ExcessiveInstructions.{listen_up_to}
use Rattle.h3_connection.specs.Incoming.{Incoming, nothing_came}
use Rattle.h3_connection.specs.Keeping.{arrival_refusal, arrives, arrives_behind, keeping, opened_as, opened_by, pulled_after, pulls, pulls_behind, read_all, read_arrival, refused_behind, settles, unkept, unless_faulty}
use Rattle.h3_connection.specs.Listeners.{after_hearing, heard_more, insertions_heard}
use Rattle.h3_connection.specs.Outgoing.{Outgoing as Out, nothing_sent}
use Rattle.h3_connection.specs.OwnIds.{is_own}
use Rattle.h3_connection.specs.PartReading.{ReadsOn, ReadsPart, early_if, held_as}
use Rattle.h3_connection.specs.PartReading.{ReadsWhole, ReadsFront, Holds, ReadsFrames, Hears, Listens}
use Rattle.h3_connection.specs.PartReading.{Stops, Goes}
use Rattle.h3_connection.specs.PeerReading.{PeerFound, read_peer}
use Rattle.h3_connection.specs.Pulling.{Pulled, pull_stream}
use Rattle.h3_connection.specs.Sending.{after_answer, after_fault, pull_at, pull_peer, pull_request, pull_unless, pulled, pulled_unidirectional, within_limit}
use Rattle.h3_connection.specs.State.{EndpointState, IsOfOutgoing, IsReached, IsToldPeer, KeepsOpen, RequestState, SameAt, StandsFor, kept_at}
use Rattle.h3_connection.specs.StreamSets.{set_stream, stream_at}
use Rattle.h3_connection.specs.StreamSetLaws.{set-here, set-other}
use Rattle.h3_connection.specs.StrictConnection.{kinds_of, known_streams}
use Rattle.h3_connection.specs.Unidirectional.{Role, Unidirectional, pull_unidirectional, role_after, with_bytes}
use Rattle.h3_connection.specs.Unidirectional.Role.{Untold, Control, Encoder, Decoder, Push, Session, Ignored, Other}
use Rattle.h3_connection.specs.declared.event.Fault.{Fault}
use Rattle.h3_connection.specs.declared.event.Fault.TheVariants as fault
use Rattle.h3_connection.specs.declared.event.Pull.{Pull}
use Rattle.h3_connection.specs.declared.event.Pull.TheVariants as pull
use Rattle.h3_connection.specs.declared.event.Refusal.{Refusal}
use Rattle.h3_connection.specs.declared.event.Refusal.TheVariants as refusal
use Rattle.h3_connection.specs.declared.event.StreamFault.{StreamFault}
use Rattle.h3_connection.specs.declared.event.StreamFault.TheVariants as stream_fault
use Rattle.h3_c.proofs.Grows.{Grows, OwnGrows, StreamGrows, instructions_grow, own_is, own_same, own_then, replies_grow, request_is_none, stream_same}
use Rattle.h3_c.proofs.Views.{by_id}

-- A stream as it was; or one of which nothing had come, opened by what came: at a server.
pub data StreamReads (side : Side) (id : ℕ) (i : Option Incoming) (o : Option Out) (j : Option Incoming) (p : Option Out) : Type 0 where
  Stays : p ≡ o → is_some j ≡ is_some i → StreamReads side id i o j p
  IsOpened : side ≡ Server → i ≡ None → is_some j ≡ true → p ≡ Some nothing_sent → is_own side id ≡ false → StreamReads side id i o j p

pub record Reads (e f : EndpointHistory) : Type 0 where
  pub side : f.side ≡ e.side
  pub announced : f.announced ≡ e.announced
  pub next : f.next_id ≡ e.next_id
  pub own : OwnGrows e.own f.own
  pub streams : (id : ℕ) → StreamReads e.side id (stream_at e.incoming id) (stream_at e.outgoing id) (stream_at f.incoming id) (stream_at f.outgoing id)
  pub decoder : (id : ℕ) → f.decoder_on ≡ Some id → (e.decoder_on ≡ Some id) ⊎ (kind_of e.side id ≡ PeerUnidirectional)

-- A request of which something came is open, or a server opens it.
abbrev pub IsThere : EndpointHistory → ℕ → Type 0
IsThere e id = kind_of e.side id ≡ Request → (e.side ≡ Server) ⊎ (is_some (stream_at e.incoming id) ≡ true)

abbrev pub AreThere : EndpointHistory → List Arrival → Type 0
AreThere e [] = Unit {0}
AreThere e (a ∷ arrivals) = IsThere e (stream_of a) × AreThere e arrivals

-- what is read as the decoder stream is no request
abbrev pub IsToldDecoder : EndpointHistory → Type 0
IsToldDecoder e = (id : ℕ) → e.decoder_on ≡ Some id → kind_of e.side id ≡ PeerUnidirectional

-- one after another
not_some : {X : Type 0} (o : Option X) → is_some o ≡ true → o ≡ None → ⊥
not_some o some none = absurd (let never : true ≡ false = sym some ∙ ap is_some none in cc)

none_before : (i j : Option Incoming) → is_some j ≡ is_some i → j ≡ None → i ≡ None
none_before None j still none = refl
none_before (Some x) j still none = absurd (not_some j still none)

stream_then : (side : Side) (id : ℕ) (i : Option Incoming) (o : Option Out) (j : Option Incoming) (p : Option Out) (k : Option Incoming) (q : Option Out) → StreamReads side id i o j p → StreamReads side id j p k q → StreamReads side id i o k q
stream_then side id i o j p k q (Stays a b) (Stays c d) = Stays (c ∙ a) (d ∙ b)
stream_then side id i o j p k q (Stays a b) (IsOpened server none some is other) = IsOpened server (none_before i j b none) some is other
stream_then side id i o j p k q (IsOpened server none some is other) (Stays c d) = IsOpened server none (d ∙ some) (c ∙ is) other
stream_then side id i o j p k q (IsOpened server none some is other) (IsOpened _ none_now _ _ _) = absurd (not_some j some none_now)

pub reads_then : (e f g : EndpointHistory) → Reads e f → Reads f g → Reads e g
reads_then e f g a b = record {
  side = b.side ∙ a.side;
  announced = b.announced ∙ a.announced;
  next = b.next ∙ a.next;
  own = own_then e.own f.own g.own a.own b.own;
  streams = λ id. stream_then e.side id (stream_at e.incoming id) (stream_at e.outgoing id) (stream_at f.incoming id) (stream_at f.outgoing id) (stream_at g.incoming id) (stream_at g.outgoing id) (a.streams id) (subst (λ s. StreamReads s id (stream_at f.incoming id) (stream_at f.outgoing id) (stream_at g.incoming id) (stream_at g.outgoing id)) a.side (b.streams id));
  decoder = λ id is. elim (b.decoder id is) [ inl was ↦ a.decoder id was | inr kind ↦ inr (subst (λ s. kind_of s id ≡ PeerUnidirectional) a.side kind) ];
}

-- other parts of it
pub quiet : (e f : EndpointHistory) → f.side ≡ e.side → f.announced ≡ e.announced → f.next_id ≡ e.next_id → f.own ≡ e.own → f.incoming ≡ e.incoming → f.outgoing ≡ e.outgoing → f.decoder_on ≡ e.decoder_on → Reads e f
quiet e f side announced next own incoming outgoing decoder = record {
  side = side;
  announced = announced;
  next = next;
  own = own_is e.own f.own own;
  streams = λ id. Stays (ap (λ l. stream_at l id) outgoing) (ap (λ l. is_some (stream_at l id)) incoming);
  decoder = λ id is. inl (sym decoder ∙ is);
}

pub reads_none : (e : EndpointHistory) → Reads e e
reads_none e = quiet e e refl refl refl refl refl refl refl

replies : (e : EndpointHistory) (more : List DecoderInstruction) → Reads e (replied e more)
replies e more = record { side = refl; announced = refl; next = refl; own = replies_grow e.own more; streams = λ id. Stays refl refl; decoder = λ id is. inl is }

-- a stream of which something came
sets_some : (e : EndpointHistory) (id : ℕ) (i : Incoming) → is_some (stream_at e.incoming id) ≡ true → (q : ℕ) → is_some (stream_at (set_stream e.incoming id i) q) ≡ is_some (stream_at e.incoming q)
sets_some e id i some q =
    by_id id q (λ b. is_some (stream_at (set_stream e.incoming id i) q) ≡ is_some (stream_at e.incoming q))
    (λ same. subst (λ r. is_some (stream_at (set_stream e.incoming id i) r) ≡ is_some (stream_at e.incoming r)) same (ap is_some (set-here e.incoming id i) ∙ sym some))
    (λ differs. ap is_some (set-other e.incoming id q i differs))

pub sets : (e : EndpointHistory) (id : ℕ) (i : Incoming) → is_some (stream_at e.incoming id) ≡ true → Reads e (with_incoming e id i)
sets e id i some = record { side = refl; announced = refl; next = refl; own = own_same e.own; streams = λ q. Stays refl (sets_some e id i some q); decoder = λ r is. inl is }

opens_at : (e : EndpointHistory) (id : ℕ) → kind_of e.side id ≡ Request → IsThere e id → (i : Option Incoming) → stream_at e.incoming id ≡ i → Reads e (opened_at e id i)
opens_at e id is there (Some i) at = reads_none e
opens_at e id is there None at = record {
  side = refl;
  announced = refl;
  next = refl;
  own = own_same e.own;
  streams = λ q. by_id id q (λ b. StreamReads e.side q (stream_at e.incoming q) (stream_at e.outgoing q) (stream_at (opened_at e id None).incoming q) (stream_at (opened_at e id None).outgoing q))
      (λ same. subst (λ r. StreamReads e.side r (stream_at e.incoming r) (stream_at e.outgoing r) (stream_at (opened_at e id None).incoming r) (stream_at (opened_at e id None).outgoing r)) same
      (IsOpened (server (there is)) at (ap is_some (set-here e.incoming id nothing_came)) (set-here e.outgoing id nothing_sent) (request_is_none e.side id is)))
      (λ differs. Stays (set-other e.outgoing id q nothing_sent differs) (ap is_some (set-other e.incoming id q nothing_came differs)));
  decoder = λ r is. inl is;
}
  where
    server : (e.side ≡ Server) ⊎ (is_some (stream_at e.incoming id) ≡ true) → e.side ≡ Server
    server (inl at_server) = at_server
    server (inr some) = absurd (not_some (stream_at e.incoming id) some at)

opens : (e : EndpointHistory) (id : ℕ) → kind_of e.side id ≡ Request → IsThere e id → Reads e (opened e id)
opens e id is there = opens_at e id is there (stream_at e.incoming id) refl

opened_some : (e : EndpointHistory) (id : ℕ) (i : Option Incoming) → stream_at e.incoming id ≡ i → is_some (stream_at (opened_at e id i).incoming id) ≡ true
opened_some e id (Some i) at = ap is_some at
opened_some e id None at = ap is_some (set-here e.incoming id nothing_came)

is_opened : (e : EndpointHistory) (id : ℕ) → is_some (stream_at (opened e id).incoming id) ≡ true
is_opened e id = opened_some e id (stream_at e.incoming id) refl

-- What is there stays there.
some_still : (side : Side) (id : ℕ) (i : Option Incoming) (o : Option Out) (j : Option Incoming) (p : Option Out) → StreamReads side id i o j p → is_some i ≡ true → is_some j ≡ true
some_still side id i o j p (Stays a b) some = b ∙ some
some_still side id i o j p (IsOpened server none is_there a b) some = is_there

there_still : (e f : EndpointHistory) → Reads e f → (id : ℕ) → IsThere e id → IsThere f id
there_still e f reads id there kind = elim (there (subst (λ s. kind_of s id ≡ Request) reads.side kind)) [
  | inl server ↦ inl (reads.side ∙ server)
  | inr some ↦ inr (some_still e.side id (stream_at e.incoming id) (stream_at e.outgoing id) (stream_at f.incoming id) (stream_at f.outgoing id) (reads.streams id) some)
]

all_still : (e f : EndpointHistory) → Reads e f → (arrivals : List Arrival) → AreThere e arrivals → AreThere f arrivals
all_still e f reads [] there = tt
all_still e f reads (a ∷ arrivals) there = (there_still e f reads (stream_of a) there.0, all_still e f reads arrivals there.1)

told_still : (e f : EndpointHistory) → Reads e f → IsToldDecoder e → IsToldDecoder f
told_still e f reads told id is = subst (λ s. kind_of s id ≡ PeerUnidirectional) (sym reads.side) (elim (reads.decoder id is) [ inl was ↦ told id was | inr kind ↦ kind ])

-- the peer's control, encoder and decoder streams
reads_if : (e : EndpointHistory) (b : Bool) (x y : EndpointHistory) → Reads e x → Reads e y → Reads e (if b then x else y)
reads_if e true x y a b = a
reads_if e false x y a b = b

found_if : (e : EndpointHistory) (b : Bool) (x y : Found) → Reads e x.0 → Reads e y.0 → Reads e (if b then x else y).0
found_if e true x y a b = a
found_if e false x y a b = b

learns : (e : EndpointHistory) (pairs : List (ℕ × ℕ)) → Reads e (learned e pairs)
learns e pairs =
    let capacity = unwrap_or (value_of 1 pairs) 0 in
    let blocked = unwrap_or (value_of 7 pairs) 0 in
    reads_if e (is_table_usable e.encoder.most_capacity capacity blocked) (with_table e capacity blocked) e
    (record { side = refl; announced = refl; next = refl; own = instructions_grow e.own (SetCapacity (min e.encoder.most_capacity capacity) ∷ []); streams = λ id. Stays refl refl; decoder = λ id is. inl is }) (reads_none e)

learns_if : (before after : Option (List (ℕ × ℕ))) (e : EndpointHistory) → Reads e (if_learned before after e)
learns_if None (Some pairs) e = learns e pairs
learns_if None None e = reads_none e
learns_if (Some known) None e = reads_none e
learns_if (Some known) (Some pairs) e = reads_none e

decoder_reads : (e : EndpointHistory) (bytes : List ℕ) → Reads e (read_decoder e bytes).0
decoder_reads e bytes =
    let l = listen_up_to (limit_of e) e.encoder (e.decoder_unread ++ bytes) in
    found_if e (is_some e.peer.settings) (listened_to e l) (kept_unread e (e.decoder_unread ++ bytes)) (quiet e (listened_to e l).0 refl refl refl refl refl refl refl) (quiet e (kept_unread e (e.decoder_unread ++ bytes)).0 refl refl refl refl refl refl refl)

then_reads : (before after : Option (List (ℕ × ℕ))) (e : EndpointHistory) (fault : Option ℕ) → Reads e (then_decoder before after e fault).0
then_reads before after e (Some code) = reads_none e
then_reads None (Some pairs) e None = decoder_reads e []
then_reads None None e None = reads_none e
then_reads (Some known) None e None = reads_none e
then_reads (Some known) (Some pairs) e None = reads_none e

peer_reads : (e : EndpointHistory) (found : PeerFound) → Reads e (after_peer e found).0
peer_reads e (p, fault) =
    let read = record e { peer = p } in
    let on = if_learned e.peer.settings p.settings read in
    let alone = record e { peer = settings_alone e.peer p.settings } in
    found_if e (are_refused e e.peer.settings p.settings) (alone, Some settings_error) (taken_peer e (p, fault)) (quiet e alone refl refl refl refl refl refl refl)
    (reads_then e on (then_decoder e.peer.settings p.settings on fault).0 (reads_then e read on (quiet e read refl refl refl refl refl refl refl) (learns_if e.peer.settings p.settings read)) (then_reads e.peer.settings p.settings on fault))

held_reads : (e : EndpointHistory) → Reads e (read_held e).0
held_reads e = found_if e (lacks_settings e) (e, Some missing_settings) (after_peer e (read_peer (kinds_of e.announced) (limit_of e) e.side e.peer)) (reads_none e) (peer_reads e (read_peer (kinds_of e.announced) (limit_of e) e.side e.peer))

second_reads : (b : Bool) (e : EndpointHistory) (found : Found) → Reads e found.0 → Reads e (unless_second b e found).0
second_reads true e found reads = reads_none e
second_reads false e found reads = reads

encoder_reads : (e : EndpointHistory) (bytes : List ℕ) → Reads e (read_encoder e bytes).0
encoder_reads e bytes =
    let h = heard_more (limit_of e) e.decoding bytes in
    let on = record e { decoding = after_hearing h } in
    let more = increment (insertions_heard e.decoding h) in
    reads_then e on (replied on more) (quiet e on refl refl refl refl refl refl refl) (replies on more)

told_now : (e : EndpointHistory) (id : ℕ) → kind_of e.side id ≡ PeerUnidirectional → Reads e (record e { decoder_on = Some id })
told_now e id kind = record { side = refl; announced = refl; next = refl; own = own_same e.own; streams = λ q. Stays refl refl; decoder = λ q is. inr (subst (λ r. kind_of e.side r ≡ PeerUnidirectional) (same_number id q is) kind) }
  where
    same_number : (a b : ℕ) → Some a ≡ Some b → a ≡ b
    same_number a b is = cc

heard_reads : (e : EndpointHistory) (id : ℕ) → kind_of e.side id ≡ PeerUnidirectional → (role : Role) (bytes : List ℕ) → Reads e (heard_as e id role bytes).0
heard_reads e id kind (Untold front) bytes = reads_none e
heard_reads e id kind Control bytes =
    let on = record e { control_on = Some id } in
    second_reads (is_second e.control_on id) e (read_control on bytes) (reads_then e (holding on bytes) (read_control on bytes).0 (quiet e (holding on bytes) refl refl refl refl refl refl refl) (held_reads (holding on bytes)))
heard_reads e id kind Encoder bytes =
    let on = record e { encoder_on = Some id } in
    second_reads (is_second e.encoder_on id) e (read_encoder on bytes) (reads_then e on (read_encoder on bytes).0 (quiet e on refl refl refl refl refl refl refl) (encoder_reads on bytes))
heard_reads e id kind Decoder bytes =
    let on = record e { decoder_on = Some id } in
    second_reads (is_second e.decoder_on id) e (read_decoder on bytes) (reads_then e on (read_decoder on bytes).0 (told_now e id kind) (decoder_reads on bytes))
heard_reads e id kind (Push push) bytes = reads_none e
heard_reads e id kind (Session session) bytes = reads_none e
heard_reads e id kind Ignored bytes = reads_none e
heard_reads e id kind (Other other) bytes = reads_none e

unidirectional_reads : (e : EndpointHistory) (id : ℕ) → kind_of e.side id ≡ PeerUnidirectional → (o : Unidirectional) (read : Role × List ℕ) → Reads e (read_unidirectional e id o read).0
unidirectional_reads e id kind o (role, bytes) =
    let on = with_unidirectional e id (with_bytes o (role, bytes)) in
    reads_then e on (heard_as on id role bytes).0 (quiet e on refl refl refl refl refl refl refl) (heard_reads on id kind role bytes)

-- an arrival
bytes_read : (e : EndpointHistory) (id : ℕ) (bytes : List ℕ) → IsThere e id → (k : Kind) → kind_of e.side id ≡ k → Reads e (bytes_at e id bytes k).0
bytes_read e id bytes there Request is =
    let i = kept (incoming_at e id) bytes in reads_then e (opened e id) (with_incoming (opened e id) id i) (opens e id is there) (sets (opened e id) id i (is_opened e id))
bytes_read e id bytes there ServerOpened is = reads_none e
bytes_read e id bytes there OwnUnidirectional is = reads_none e
bytes_read e id bytes there PeerUnidirectional is = unidirectional_reads e id is (unidirectional_at e id) (role_after (known_streams e.announced) (unidirectional_at e id).role bytes)

end_reads : (e : EndpointHistory) (id : ℕ) → IsThere e id → (k : Kind) → kind_of e.side id ≡ k → Reads e (end_at e id k).0
end_reads e id there Request is =
    let i = with_end (incoming_at e id) in reads_then e (opened e id) (with_incoming (opened e id) id i) (opens e id is there) (sets (opened e id) id i (is_opened e id))
end_reads e id there ServerOpened is = reads_none e
end_reads e id there OwnUnidirectional is = reads_none e
end_reads e id there PeerUnidirectional is = quiet e (end_at e id PeerUnidirectional).0 refl refl refl refl refl refl refl

pub gives_up : (e : EndpointHistory) (id : ℕ) (i : Incoming) (f : StreamFault) → is_some (stream_at e.incoming id) ≡ true → Reads e (give_up e id i f)
gives_up e id i f some =
    let on = with_incoming e id (given_up_once i f) in reads_then e on (give_up e id i f) (sets e id (given_up_once i f) some) (replies on (cancellation id i.fault))

reset_reads : (e : EndpointHistory) (id code : ℕ) → IsThere e id → (k : Kind) → kind_of e.side id ≡ k → Reads e (reset_at e id code k).0
reset_reads e id code there Request is =
    let i = record (incoming_at e id) { was_reset = true } in
    reads_then e (opened e id) (give_up (opened e id) id i (stream_fault.Reset code)) (opens e id is there) (gives_up (opened e id) id i (stream_fault.Reset code) (is_opened e id))
reset_reads e id code there ServerOpened is = reads_none e
reset_reads e id code there OwnUnidirectional is = reads_none e
reset_reads e id code there PeerUnidirectional is = quiet e (reset_at e id code PeerUnidirectional).0 refl refl refl refl refl refl refl

arrival_reads : (e : EndpointHistory) (a : Arrival) → IsThere e (stream_of a) → Reads e (read_arrival e a).0
arrival_reads e (BytesCame id bytes) there = bytes_read e id bytes there (kind_of e.side id) refl
arrival_reads e (EndCame id) there = end_reads e id there (kind_of e.side id) refl
arrival_reads e (ResetCame id code) there = reset_reads e id code there (kind_of e.side id) refl

reads_more : (arrivals : List Arrival) → ((x : EndpointHistory) → AreThere x arrivals → Reads x (read_all arrivals x).0) → (e : EndpointHistory) → AreThere e arrivals → (found : Found) → Reads e found.0 → Reads e (unless_faulty (read_all arrivals) found).0
reads_more arrivals later e there (x, Some code) reads = reads
reads_more arrivals later e there (x, None) reads = reads_then e x (read_all arrivals x).0 reads (later x (all_still e x reads arrivals there))

all_read : (arrivals : List Arrival) (e : EndpointHistory) → AreThere e arrivals → Reads e (read_all arrivals e).0
all_read [] e there = reads_none e
all_read (a ∷ arrivals) e there = reads_more arrivals (λ x t. all_read arrivals x t) e there.1 (read_arrival e a) (arrival_reads e a there.0)

closed_reads : (e : EndpointHistory) (found : Found) → Reads e found.0 → Reads e (closed_by found).1
closed_reads e (x, None) reads = reads
closed_reads e (x, Some code) reads = reads_then e x (record x { closed = Some code }) reads (quiet x (record x { closed = Some code }) refl refl refl refl refl refl refl)

taken_reads : (closed : Option ℕ) (refused : Option Refusal) (e : EndpointHistory) (found : Found) → (refused ≡ None → Reads e found.0) → Reads e (taken closed refused e found).1
taken_reads (Some code) refused e found reads = reads_none e
taken_reads None (Some r) e found reads = reads_none e
taken_reads None None e found reads = closed_reads e found (reads refl)

unkept_reads : (e : EndpointHistory) (arrivals : List Arrival) → AreThere e arrivals → Reads e (read_all arrivals (unkept e)).0
unkept_reads e arrivals there =
    let begun = quiet e (unkept e) refl refl refl refl refl refl refl in reads_then e (unkept e) (read_all arrivals (unkept e)).0 begun (all_read arrivals (unkept e) (all_still e (unkept e) begun arrivals there))

-- What is not refused is there.
request_there : (side : Side) (i : Option Incoming) → request_refusal side i ≡ None → (side ≡ Server) ⊎ (is_some i ≡ true)
request_there Client None is = absurd (let never : Some refusal.NotOpen ≡ None = is in cc)
request_there Server None is = inl refl
request_there Client (Some i) is = inr refl
request_there Server (Some i) is = inr refl

pub not_refused : (e : EndpointHistory) (id : ℕ) → delivery_refusal e id ≡ None → IsThere e id
not_refused e id is kind = request_there e.side (stream_at e.incoming id) (sym (ap (λ k. refusal_at e id k) kind) ∙ is)

behind_none : (b : Bool) (o : Option Refusal) → refused_behind b o ≡ None → o ≡ None
behind_none b (Some r) is = absurd (let never : Some r ≡ None = is in cc)
behind_none b None is = refl

-- So is what is kept.
kept_there : (e : EndpointHistory) (arrivals : List Arrival) → All (KeepsOpen e.side e.incoming) arrivals → AreThere e arrivals
kept_there e [] all = tt
kept_there e (a ∷ arrivals) all =
    (λ kind. inr (All-head (KeepsOpen e.side e.incoming) a arrivals all kind), kept_there e arrivals (All-tail (KeepsOpen e.side e.incoming) a arrivals all))

there_last : (e : EndpointHistory) (arrivals : List Arrival) (a : Arrival) → AreThere e arrivals → IsThere e (stream_of a) → AreThere e (arrivals ++ a ∷ [])
there_last e [] a all there = (there, tt)
there_last e (x ∷ arrivals) a all there = (all.0, there_last e arrivals a all.1 there)

behind_reads : (arrivals : List Arrival) (e : EndpointHistory) (a : Arrival) → AreThere e arrivals → Reads e (arrives_behind arrivals e a).1
behind_reads [] e a there = taken_reads e.closed (delivery_refusal e (stream_of a)) e (read_arrival e a) (λ none. arrival_reads e a (not_refused e (stream_of a) none))
behind_reads (k ∷ arrivals) e a there = taken_reads e.closed (arrival_refusal e (stream_of a)) e (read_all (k ∷ arrivals ++ a ∷ []) (unkept e))
    (λ none. unkept_reads e (k ∷ arrivals ++ a ∷ []) (there_last e (k ∷ arrivals) a there (not_refused e (stream_of a) (behind_none (is_closed_in e.kept (stream_of a)) (delivery_refusal e (stream_of a)) none))))

pub arrives_reads : (e : EndpointHistory) (a : Arrival) → IsReached e → Reads e (arrives e a).1
arrives_reads e a reached = behind_reads e.kept e a (kept_there e e.kept reached.kept)

-- a pull
fault_reads : (f : Fault) (e : EndpointHistory) → Reads e (after_fault f e).1
fault_reads (fault.Connection code) e = quiet e (record e { closed = Some code }) refl refl refl refl refl refl refl
fault_reads (fault.Stream f) e = reads_none e
fault_reads fault.Memory e = reads_none e

answer_reads : (p : Pull) (e : EndpointHistory) → Reads e (after_answer p e).1
answer_reads (pull.Item item) e = reads_none e
answer_reads pull.Pending e = reads_none e
answer_reads (pull.Waiting count) e = reads_none e
answer_reads (pull.Fault f) e = fault_reads f e
answer_reads pull.NoMessages e = reads_none e

pulled_reads : (e : EndpointHistory) (id : ℕ) (p : Pulled) → is_some (stream_at e.incoming id) ≡ true → Reads e (pulled e id p).1
pulled_reads e id p some =
    let on = with_incoming e id p.incoming in
    let more = replied on p.replies in
    reads_then e more (pulled e id p).1 (reads_then e on more (sets e id p.incoming some) (replies on p.replies)) (answer_reads p.answer more)

request_reads : (e : EndpointHistory) (id : ℕ) (i : Option Incoming) → stream_at e.incoming id ≡ i → Reads e (pull_request e id i).1
request_reads e id None at = reads_none e
request_reads e id (Some i) at = pulled_reads e id (within_limit e id (pull_stream e.side e.announced id e.decoding.decoder i)) (ap is_some at)

peer_pull_reads : (e : EndpointHistory) (id : ℕ) (o : Option Unidirectional) → Reads e (pull_peer e id o).1
peer_pull_reads e id None = reads_none e
peer_pull_reads e id (Some o) = on (pull_unidirectional o o.role)
  where
    on : (x : Pull × Unidirectional) → Reads e (pulled_unidirectional e id x).1
    on (p, new) = quiet e (with_unidirectional e id new) refl refl refl refl refl refl refl

pull_reads : (e : EndpointHistory) (id : ℕ) (k : Kind) → Reads e (pull_at e id k).1
pull_reads e id Request = request_reads e id (stream_at e.incoming id) refl
pull_reads e id ServerOpened = reads_none e
pull_reads e id OwnUnidirectional = reads_none e
pull_reads e id PeerUnidirectional = peer_pull_reads e id (stream_at e.unidirectional id)

unless_reads : (closed : Option ℕ) (e : EndpointHistory) (x : Pull × EndpointHistory) → Reads e x.1 → Reads e (pull_unless closed e x).1
unless_reads None e x reads = reads
unless_reads (Some code) e x reads = reads_none e

after_reads : (e : EndpointHistory) (found : Found) (id : ℕ) → Reads e found.0 → Reads e (pulled_after found id).1
after_reads e (x, Some code) id reads = reads_then e x (record x { closed = Some code }) reads (quiet x (record x { closed = Some code }) refl refl refl refl refl refl refl)
after_reads e (x, None) id reads = reads_then e x (pull_at x id (kind_of x.side id)).1 reads (pull_reads x id (kind_of x.side id))

pulled_if : (e : EndpointHistory) (b : Bool) (x y : Pull × EndpointHistory) → Reads e x.1 → Reads e y.1 → Reads e (if b then x else y).1
pulled_if e true x y a b = a
pulled_if e false x y a b = b

pulls_reads_behind : (arrivals : List Arrival) (e : EndpointHistory) (id : ℕ) → AreThere e arrivals → Reads e (pulls_behind arrivals e id).1
pulls_reads_behind [] e id there = unless_reads e.closed e (pull_at e id (kind_of e.side id)) (pull_reads e id (kind_of e.side id))
pulls_reads_behind (k ∷ arrivals) e id there =
    let found = read_all (k ∷ arrivals) (unkept e) in
    unless_reads e.closed e (if settles e id then pull_at e id (kind_of e.side id) else pulled_after found id)
    (pulled_if e (settles e id) (pull_at e id (kind_of e.side id)) (pulled_after found id) (pull_reads e id (kind_of e.side id)) (after_reads e found id (unkept_reads e (k ∷ arrivals) there)))

pub pulls_reads : (e : EndpointHistory) (id : ℕ) → IsReached e → Reads e (pulls e id).1
pulls_reads e id reached = pulls_reads_behind e.kept e id (kept_there e e.kept reached.kept)

pub pulls_reads_of_none : (e : EndpointHistory) (id : ℕ) → e.kept ≡ [] → Reads e (pulls e id).1
pulls_reads_of_none e id none = pulls_reads_behind e.kept e id (subst (λ l. AreThere e l) (sym none) tt)

-- What is read up to some point, where memory was refused.
opens_as : (k : Kind) (e : EndpointHistory) (id : ℕ) → kind_of e.side id ≡ k → IsThere e id → Reads e (opened_as k e id)
opens_as Request e id is there = opens e id is there
opens_as ServerOpened e id is there = reads_none e
opens_as OwnUnidirectional e id is there = reads_none e
opens_as PeerUnidirectional e id is there = reads_none e

opens_all : (arrivals : List Arrival) (e : EndpointHistory) → AreThere e arrivals → Reads e (fold opened_by e arrivals)
opens_all [] e there = reads_none e
opens_all (a ∷ arrivals) e there =
    let first = opens_as (kind_of e.side (stream_of a)) e (stream_of a) refl there.0 in reads_then e (opened_by e a) (fold opened_by (opened_by e a) arrivals) first (opens_all arrivals (opened_by e a) (all_still e (opened_by e a) first arrivals there.1))

keeps : (e : EndpointHistory) (arrivals : List Arrival) → AreThere e arrivals → Reads e (keeping e arrivals)
keeps e arrivals there =
    let on = fold opened_by e arrivals in reads_then e on (keeping e arrivals) (opens_all arrivals e there) (quiet on (keeping e arrivals) refl refl refl refl refl refl refl)

holds_as : (e : EndpointHistory) (id : ℕ) → kind_of e.side id ≡ PeerUnidirectional → (read : Role × List ℕ) → Reads e (held_as e id read)
holds_as e id kind (Untold front, bytes) = reads_none e
holds_as e id kind (Control, bytes) = quiet e (held_as e id (Control, bytes)) refl refl refl refl refl refl refl
holds_as e id kind (Encoder, bytes) = quiet e (held_as e id (Encoder, bytes)) refl refl refl refl refl refl refl
holds_as e id kind (Decoder, bytes) =
    let on = record e { decoder_on = Some id } in reads_then e on (held_as e id (Decoder, bytes)) (told_now e id kind) (quiet on (held_as e id (Decoder, bytes)) refl refl refl refl refl refl refl)
holds_as e id kind (Push push, bytes) = reads_none e
holds_as e id kind (Session session, bytes) = reads_none e
holds_as e id kind (Ignored, bytes) = reads_none e
holds_as e id kind (Other other, bytes) = reads_none e

whole : (e new : EndpointHistory) (a : Arrival) → IsThere e (stream_of a) → read_arrival e a ≡ (new, None) → Reads e new
whole e new a there is = subst (λ (x : Found). Reads e x.0) is (arrival_reads e a there)

reads_on : {e new : EndpointHistory} {arrivals more : List Arrival} → ReadsOn e arrivals new more → AreThere e arrivals → Reads e new
reads_on {e = e} {new = new} (ReadsWhole {a = a} is) there = whole e new a there.0 is
reads_on {e = e} {new = new} (ReadsFront front rest {id = id} is) there = whole e new (BytesCame id front) there.0 is
reads_on {e = e} (Holds {id = id} {bytes = bytes} kind reader) there =
    let o = unidirectional_at e id in
    let read = role_after (known_streams e.announced) o.role bytes in
    let on = with_unidirectional e id (with_bytes o read) in
    reads_then e on (held_as on id read) (quiet e on refl refl refl refl refl refl refl) (holds_as on id kind read)
reads_on {e = e} (ReadsFrames {id = id} {p = p} on may part) there =
    let read = record e { peer = p } in reads_then e read (if_learned e.peer.settings p.settings read) (quiet e read refl refl refl refl refl refl refl) (learns_if e.peer.settings p.settings read)
reads_on {e = e} (Hears {d = d} on part) there =
    let heard = record e { decoding = d } in
    let more = increment (d.decoder.table.inserted - e.decoding.decoder.table.inserted) in
    reads_then e heard (replied heard more) (quiet e heard refl refl refl refl refl refl refl) (replies heard more)
reads_on {e = e} {new = new} (Listens on settings part) there = quiet e new refl refl refl refl refl refl refl

-- what is left to be read is there
no_request : (k : Kind) → k ≡ PeerUnidirectional → k ≡ Request → ⊥
no_request k one other = absurd (let never : PeerUnidirectional ≡ Request = sym one ∙ other in cc)

early_there : (e : EndpointHistory) (more : List Arrival) → AreThere e more → IsToldDecoder e → (before after : Option (List (ℕ × ℕ))) → (o : Option ℕ) → e.decoder_on ≡ o → AreThere e (early_if before after o ++ more)
early_there e more there told None (Some pairs) None is = there
early_there e more there told None (Some pairs) (Some id) is = (λ kind. absurd (no_request (kind_of e.side id) (told id is) kind), there)
early_there e more there told None None o is = there
early_there e more there told (Some known) None o is = there
early_there e more there told (Some known) (Some pairs) o is = there

left_there : {e new : EndpointHistory} {arrivals more : List Arrival} → ReadsOn e arrivals new more → AreThere e arrivals → IsToldDecoder e → AreThere e more
left_there (ReadsWhole is) there told = there.1
left_there (ReadsFront front rest is) there told = there
left_there (Holds kind reader) there told = there
left_there {e = e} (ReadsFrames {p = p} {more = more} on may part) there told = (there.0, early_there e more there.1 told e.peer.settings p.settings e.decoder_on refl)
left_there (Hears on part) there told = there
left_there (Listens on settings part) there told = there

pub part_reads : {e new : EndpointHistory} {arrivals : List Arrival} → ReadsPart e arrivals new → AreThere e arrivals → IsToldDecoder e → Reads e new
part_reads {e = e} (Stops {rest = rest}) there told = keeps e rest there
part_reads {e = e} {new = new} (Goes {next = next} {more = more} on part) there told =
    let first = reads_on on there in
    reads_then e next new first (part_reads part (all_still e next first more (left_there on there told)) (told_still e next first told))

decoder_told : (e : EndpointHistory) → IsReached e → IsToldDecoder e
decoder_told e reached id is = by e.decoder_on reached.told_decoder is
  where
    same_number : (a b : ℕ) → Some a ≡ Some b → a ≡ b
    same_number a b is = cc

    by : (o : Option ℕ) → IfSome o (IsToldPeer e.side e.unidirectional) → o ≡ Some id → kind_of e.side id ≡ PeerUnidirectional
    by None told is = absurd (let never : None ≡ Some id = is in cc)
    by (Some q) told is = subst (λ i. kind_of e.side i ≡ PeerUnidirectional) (same_number q id is) told.0

-- of an endpoint that calls made
pub kept_reads : (e new : EndpointHistory) → IsReached e → ReadsPart (unkept e) e.kept new → Reads e new
kept_reads e new reached part =
    let begun = quiet e (unkept e) refl refl refl refl refl refl refl in
    reads_then e (unkept e) new begun (part_reads part (all_still e (unkept e) begun e.kept (kept_there e e.kept reached.kept)) (told_still e (unkept e) begun (decoder_told e reached)))

pub stored_reads : (e new : EndpointHistory) (a : Arrival) → IsReached e → delivery_refusal e (stream_of a) ≡ None → ReadsPart (unkept e) (e.kept ++ a ∷ []) new → Reads e new
stored_reads e new a reached none part =
    let begun = quiet e (unkept e) refl refl refl refl refl refl refl in
    reads_then e (unkept e) new begun (part_reads part
    (all_still e (unkept e) begun (e.kept ++ a ∷ []) (there_last e e.kept a (kept_there e e.kept reached.kept) (not_refused e (stream_of a) none))) (told_still e (unkept e) begun (decoder_told e reached)))

pub accepted : (e : EndpointHistory) (id : ℕ) → arrival_refusal e id ≡ None → delivery_refusal e id ≡ None
accepted e id is = behind_none (is_closed_in e.kept id) (delivery_refusal e id) is

-- Of a stream of which nothing came nothing was sent.
sent_none : (s : Option RequestState) (i : Option Incoming) (o : Option Out) → option_map (λ (r : RequestState). r.incoming) s ≡ i → SameAt IsOfOutgoing o (option_map (λ (r : RequestState). r.outgoing) s) → i ≡ None → o ≡ None
sent_none None i None incoming outgoing none = refl
sent_none None i (Some o) incoming outgoing none = absurd outgoing
sent_none (Some r) i o incoming outgoing none = absurd (let never : Some r.incoming ≡ None = incoming ∙ none in cc)

grows_by : (side : Side) (id : ℕ) (i : Option Incoming) (o : Option Out) (j : Option Incoming) (p : Option Out) (next : ℕ) → (i ≡ None → o ≡ None) → StreamReads side id i o j p → StreamGrows side next id o p
grows_by side id i o j p next both (Stays is some) = subst (λ x. StreamGrows side next id o x) (sym is) (stream_same side next id o)
grows_by side id i o j p next both (IsOpened server none some is other) = subst (λ x. StreamGrows side next id x p) (sym (both none)) (subst (λ x. StreamGrows side next id None x) (sym is) (refl, other, inl server, tt))

pub reads_grow : (s : EndpointState) (e f : EndpointHistory) → StandsFor s e → Reads e f → Grows e f
reads_grow s e f stands reads = record {
  side = reads.side;
  announced = reads.announced;
  next = inl reads.next;
  own = reads.own;
  streams = λ id. grows_by e.side id (stream_at e.incoming id) (stream_at e.outgoing id) (stream_at f.incoming id) (stream_at f.outgoing id) f.next_id
      (sent_none (kept_at s.requests id) (stream_at e.incoming id) (stream_at e.outgoing id) (stands.incoming id) (stands.outgoing id)) (reads.streams id);
}
