-- What is kept of the unidirectional streams stands for an endpoint's history.
use Rattle.std.proofs.Common.{◌≡◌, ℕ, Option, Some, None, ap, sym, subst, ◌∙◌, [], refl, List, ◌++◌, flat_map}
use Rattle.std.specs.Prelude.{true, unwrap_or, IfSome}
use Rattle.h3_connection.specs.Unidirectional.{Unidirectional, Role, is_critical, pull_unidirectional, untold}
use Rattle.h3_connection.specs.Unidirectional.Role.{Untold, Control, Encoder, Decoder, Session, Push, Ignored, Other}
use Rattle.h3_connection.specs.Delivering.{unidirectional_at}
use Rattle.h3_connection.specs.Endpoint.{EndpointHistory, replied}
use Rattle.h3_connection.specs.KeptGoaways.{keeps_last, kept_peer}
use Rattle.h3_connection.specs.Sending.{pull_peer}
use Rattle.h3_connection.specs.StandsLaws.{stands_unidirectional}
use Rattle.h3_connection.specs.State.{EndpointState, StandsFor, kept_at, OwnStands, IsToldPeer, OwnState}
use Rattle.h3_connection.specs.StreamSets.{Streams, stream_at}
use Rattle.h3_connection.specs.declared.event.Pull.{Pull}
use Rattle.h3_qpack.specs.EncoderState.{encoder_state}
use Rattle.h3_connection.specs.PeerReading.{Peer}
use Rattle.h3_field.specs.Instruction.{DecoderInstruction, decoder_bytes, EncoderInstruction, encoder_bytes}
use Rattle.h3_connection.specs.Listeners.{Decoding, Encoding}
use Rattle.h3_unidirectional.specs.OwnLaws.{replies_stand, instructions_stand}
use Rattle.h3_qpack.specs.EncoderHistory.{EncoderHistory}
use Rattle.h3_streams.specs.Placed.{Answers, Pulls, StreamsState, placed}

-- a pull leaves a stream as it is that told to be the connection's
pull_told : (o : Unidirectional) (r : Role) → is_critical r ≡ true → is_critical o.role ≡ true → is_critical (pull_unidirectional o r).1.role ≡ true
pull_told o Control h k = k
pull_told o Encoder h k = k
pull_told o Decoder h k = k
pull_told o (Untold front) h k = absurd (cc)
pull_told o (Session id) h k = absurd (cc)
pull_told o (Push id) h k = absurd (cc)
pull_told o Ignored h k = absurd (cc)
pull_told o (Other kind) h k = absurd (cc)

-- what a pull answers
pulled_by : (s : EndpointState) (x : StreamsState) (e : EndpointHistory) (id : ℕ) (there : Option Unidirectional) (given : Pull) (new : Streams Unidirectional) → StandsFor (placed s x) e
    → stream_at e.unidirectional id ≡ there → Pulls there given x.unidirectional new id → Answers s given (record x { unidirectional = new }) (pull_peer e id there)
pulled_by s x e id None given new h is pulls = (pulls.0, subst (λ m. StandsFor (placed s (record x { unidirectional = m })) e) (sym pulls.1) h)
pulled_by s x e id (Some o) given new h is pulls =
    let same : (unidirectional_at e id).role ≡ o.role = ap (λ p. (unwrap_or p untold).role) is in
    (pulls.0, stands_unidirectional (placed s x) e new id (pull_unidirectional o o.role).1 h (λ told. pull_told o o.role (ap is_critical (sym same) ∙ told) (ap is_critical (sym same) ∙ told)) pulls.1)

pub pulled_stands : (x : StreamsState) (id : ℕ) (given : Pull) (new : Streams Unidirectional) → Pulls (kept_at x.unidirectional id) given x.unidirectional new id
    → (s : EndpointState) (e : EndpointHistory) → StandsFor (placed s x) e → Answers s given (record x { unidirectional = new }) (pull_peer e id (stream_at e.unidirectional id))
pulled_stands x id given new pulls s e h =
    rw (sym (h.unidirectional id)) (pulled_by s x e id (kept_at x.unidirectional id) given new h (sym (h.unidirectional id)) pulls)

-- What is kept of the unidirectional streams, of the QPACK ends and of the own streams stands for this history.
pub record StreamsStand (x : StreamsState) (e : EndpointHistory) : Type 0 where
  pub unidirectional : (id : ℕ) → kept_at x.unidirectional id ≡ stream_at e.unidirectional id
  pub control_on : x.control_on ≡ e.control_on
  pub encoder_on : x.encoder_on ≡ e.encoder_on
  pub decoder_on : x.decoder_on ≡ e.decoder_on
  pub peer : x.peer ≡ kept_peer (keeps_last e.announced.choices) e.peer
  pub decoding : x.decoding ≡ e.decoding
  pub encoder : x.encoding.encoder ≡ encoder_state e.encoder
  pub decoder_unread : x.encoding.unread ≡ e.decoder_unread
  pub own : OwnStands x.own e
  pub unlearned : e.peer.settings ≡ None → (e.encoder.capacity ≡ 0) × (e.encoder.inserted ≡ [])
  pub no_control : e.control_on ≡ None → e.peer.unread ≡ []
  pub no_encoder : e.encoder_on ≡ None → e.decoding.unread ≡ []
  pub no_decoder : e.decoder_on ≡ None → e.decoder_unread ≡ []
  pub told_control : IfSome e.control_on (IsToldPeer e.side e.unidirectional)
  pub told_encoder : IfSome e.encoder_on (IsToldPeer e.side e.unidirectional)
  pub told_decoder : IfSome e.decoder_on (IsToldPeer e.side e.unidirectional)

-- the endpoint with those of another one
abbrev pub with_streams : EndpointHistory → EndpointHistory → EndpointHistory
with_streams e f =
    record e {
      unidirectional = f.unidirectional;
      control_on = f.control_on;
      encoder_on = f.encoder_on;
      decoder_on = f.decoder_on;
      peer = f.peer;
      decoding = f.decoding;
      encoder = f.encoder;
      decoder_unread = f.decoder_unread;
      own = record f.own { goaways = e.own.goaways; updates = e.own.updates };
    }

stands_with : (s : EndpointState) (x y : StreamsState) (e f : EndpointHistory) → StandsFor (placed s x) e → StreamsStand y (with_streams e f) → StandsFor (placed s y) (with_streams e f)
stands_with s x y e f h k =
    record {
      side = h.side;
      announced = h.announced;
      closed = h.closed;
      next_id = h.next_id;
      incoming = h.incoming;
      outgoing = h.outgoing;
      unidirectional = k.unidirectional;
      distinct = h.distinct;
      control_on = k.control_on;
      encoder_on = k.encoder_on;
      decoder_on = k.decoder_on;
      peer = k.peer;
      decoding = k.decoding;
      encoder = k.encoder;
      decoder_unread = k.decoder_unread;
      own = k.own;
      last_goaway = h.last_goaway;
      kept = h.kept;
      sent = h.sent;
      order = h.order;
      reached = record { unlearned = k.unlearned; control = k.no_control; encoder = k.no_encoder; decoder = k.no_decoder; told_control = k.told_control; told_encoder = k.told_encoder; told_decoder = k.told_decoder; kept = h.reached.kept; own_updates = h.reached.own_updates };
    }

-- All of them change, and nothing else.
pub stands_placed : (s : EndpointState) (x y : StreamsState) (e f : EndpointHistory) → StandsFor (placed s x) e → f ≡ with_streams e f → StreamsStand y f → StandsFor (placed s y) f
stands_placed s x y e f h is k = subst (StandsFor (placed s y)) (sym is) (stands_with s x y e f h (subst (StreamsStand y) is k))

-- the own streams of an endpoint that differs elsewhere
abbrev pub elsewhere : EndpointHistory → EndpointHistory → EndpointHistory
elsewhere e f =
    record e {
      unidirectional = f.unidirectional;
      control_on = f.control_on;
      encoder_on = f.encoder_on;
      decoder_on = f.decoder_on;
      peer = f.peer;
      decoding = f.decoding;
      encoder = f.encoder;
      decoder_unread = f.decoder_unread;
    }

pub own_elsewhere : (own : OwnState) (e f : EndpointHistory) → f ≡ elsewhere e f → OwnStands own e → OwnStands own f
own_elsewhere own e f is h = subst (OwnStands own) (sym is) (record { control = h.control; encoder = h.encoder; decoder = h.decoder; taken = record { control = h.taken.control; encoder = h.taken.encoder; decoder = h.taken.decoder } })

some_on : {P : Type 0} (id : ℕ) → Some id ≡ None → P
some_on id h = absurd (cc)

-- The peer's control stream is read as such from now on, or is read on.
pub stands_control : (s : EndpointState) (x : StreamsState) (e : EndpointHistory) (id : ℕ) (p : Peer) → StandsFor (placed s x) e → IsToldPeer e.side e.unidirectional id → (p.settings ≡ None → e.peer.settings ≡ None)
    → StandsFor (placed s (record x { control_on = Some id; peer = kept_peer (keeps_last e.announced.choices) p })) (record e { control_on = Some id; peer = p })
stands_control s x e id p h told known =
    let f = record e { control_on = Some id; peer = p } in
    stands_placed s x (record x { control_on = Some id; peer = kept_peer (keeps_last e.announced.choices) p }) e f h refl (record {
      unidirectional = h.unidirectional;
      control_on = refl;
      encoder_on = h.encoder_on;
      decoder_on = h.decoder_on;
      peer = refl;
      decoding = h.decoding;
      encoder = h.encoder;
      decoder_unread = h.decoder_unread;
      own = own_elsewhere x.own e f refl h.own;
      unlearned = λ unknown. h.reached.unlearned (known unknown);
      no_control = some_on id;
      no_encoder = h.reached.encoder;
      no_decoder = h.reached.decoder;
      told_control = told;
      told_encoder = h.reached.told_encoder;
      told_decoder = h.reached.told_decoder;
    })

-- The peer's encoder stream is, and the replies gain these.
pub stands_encoder : (s : EndpointState) (x : StreamsState) (e : EndpointHistory) (id : ℕ) (d : Decoding) (is : List DecoderInstruction) → StandsFor (placed s x) e → IsToldPeer e.side e.unidirectional id
    → StandsFor (placed s (record x { encoder_on = Some id; decoding = d; own = record x.own { decoder = x.own.decoder ++ flat_map decoder_bytes is } })) (replied (record e { encoder_on = Some id; decoding = d }) is)
stands_encoder s x e id d is h told =
    let f = record e { encoder_on = Some id; decoding = d } in
    let y = record x { encoder_on = Some id; decoding = d; own = record x.own { decoder = x.own.decoder ++ flat_map decoder_bytes is } } in
    stands_placed s x y e (replied f is) h refl (record {
      unidirectional = h.unidirectional;
      control_on = h.control_on;
      encoder_on = refl;
      decoder_on = h.decoder_on;
      peer = h.peer;
      decoding = refl;
      encoder = h.encoder;
      decoder_unread = h.decoder_unread;
      own = replies_stand x.own f is (own_elsewhere x.own e f refl h.own);
      unlearned = h.reached.unlearned;
      no_control = h.reached.control;
      no_encoder = some_on id;
      no_decoder = h.reached.decoder;
      told_control = h.reached.told_control;
      told_encoder = told;
      told_decoder = h.reached.told_decoder;
    })

-- The peer's decoder stream is, by this encoder.
pub stands_decoder : (s : EndpointState) (x : StreamsState) (e : EndpointHistory) (id : ℕ) (n : Encoding) (t : EncoderHistory) → StandsFor (placed s x) e → IsToldPeer e.side e.unidirectional id → n.encoder ≡ encoder_state t
    → (e.peer.settings ≡ None → (t.capacity ≡ 0) × (t.inserted ≡ []))
    → StandsFor (placed s (record x { decoder_on = Some id; encoding = n })) (record e { decoder_on = Some id; encoder = t; decoder_unread = n.unread })
stands_decoder s x e id n t h told is unlearned =
    let f = record e { decoder_on = Some id; encoder = t; decoder_unread = n.unread } in
    stands_placed s x (record x { decoder_on = Some id; encoding = n }) e f h refl (record {
      unidirectional = h.unidirectional;
      control_on = h.control_on;
      encoder_on = h.encoder_on;
      decoder_on = refl;
      peer = h.peer;
      decoding = h.decoding;
      encoder = is;
      decoder_unread = refl;
      own = own_elsewhere x.own e f refl h.own;
      unlearned = unlearned;
      no_control = h.reached.control;
      no_encoder = h.reached.encoder;
      no_decoder = some_on id;
      told_control = h.reached.told_control;
      told_encoder = h.reached.told_encoder;
      told_decoder = told;
    })

-- The encoder uses a table, or changes otherwise, and its stream gains these instructions.
pub stands_table : (s : EndpointState) (x : StreamsState) (e : EndpointHistory) (n : Encoding) (t : EncoderHistory) (is : List EncoderInstruction) → StandsFor (placed s x) e → n.encoder ≡ encoder_state t
    → n.unread ≡ x.encoding.unread → (e.peer.settings ≡ None → (t.capacity ≡ 0) × (t.inserted ≡ []))
    → StandsFor (placed s (record x { encoding = n; own = record x.own { encoder = x.own.encoder ++ flat_map encoder_bytes is } })) (record e { encoder = t; own = record e.own { instructions = e.own.instructions ++ is } })
stands_table s x e n t is h state unread unlearned =
    let f = record e { encoder = t } in
    let y = record x { encoding = n; own = record x.own { encoder = x.own.encoder ++ flat_map encoder_bytes is } } in
    stands_placed s x y e (record e { encoder = t; own = record e.own { instructions = e.own.instructions ++ is } }) h refl (record {
      unidirectional = h.unidirectional;
      control_on = h.control_on;
      encoder_on = h.encoder_on;
      decoder_on = h.decoder_on;
      peer = h.peer;
      decoding = h.decoding;
      encoder = state;
      decoder_unread = unread ∙ h.decoder_unread;
      own = instructions_stand x.own f is (own_elsewhere x.own e f refl h.own);
      unlearned = unlearned;
      no_control = h.reached.control;
      no_encoder = h.reached.encoder;
      no_decoder = h.reached.decoder;
      told_control = h.reached.told_control;
      told_encoder = h.reached.told_encoder;
      told_decoder = h.reached.told_decoder;
    })

-- The map of streams is another one.
pub stands_map : (s : EndpointState) (x : StreamsState) (e : EndpointHistory) (new : Streams Unidirectional) → StandsFor (placed s x) e → ((q : ℕ) → kept_at new q ≡ stream_at e.unidirectional q)
    → StandsFor (placed s (record x { unidirectional = new })) e
stands_map s x e new h each =
    stands_placed s x (record x { unidirectional = new }) e e h refl (record {
      unidirectional = each;
      control_on = h.control_on;
      encoder_on = h.encoder_on;
      decoder_on = h.decoder_on;
      peer = h.peer;
      decoding = h.decoding;
      encoder = h.encoder;
      decoder_unread = h.decoder_unread;
      own = h.own;
      unlearned = h.reached.unlearned;
      no_control = h.reached.control;
      no_encoder = h.reached.encoder;
      no_decoder = h.reached.decoder;
      told_control = h.reached.told_control;
      told_encoder = h.reached.told_encoder;
      told_decoder = h.reached.told_decoder;
    })
