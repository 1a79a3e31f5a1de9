-- What is stored stands for the endpoint's history, when one part of both changes.
use Rattle.std.proofs.Common.{◌≡◌, ℕ, length, Option, Some, None, refl, ap, sym, subst, ◌∙◌, inl, inr}
use Rattle.std.specs.Prelude.{◌≢◌, ◌⊎◌, true, All, option_map, unwrap_or, IsSome, IfSome}
use Rattle.std.proofs.lemmas.Bool.{cases_eq}
use Rattle.std.proofs.lemmas.List.Elements.{All-weaker}
use Rattle.h3_proto.specs.declared.stream.Side.{Side}
use Rattle.h3_connection.specs.Arrivals.{stream_of}
use Rattle.h3_connection.specs.Calls.{Sets}
use Rattle.h3_connection.specs.Delivering.{with_incoming, with_unidirectional, unidirectional_at}
use Rattle.h3_connection.specs.Endpoint.{EndpointHistory}
use Rattle.h3_connection.specs.Incoming.{Incoming}
use Rattle.h3_connection.specs.Outgoing.{Outgoing}
use Rattle.h3_connection.specs.Sending.{with_outgoing}
use Rattle.h3_connection.specs.State.{EndpointState, RequestState, OwnState, StandsFor, OwnStands, IsOfOutgoing, IsBehind, IsReached, IsToldPeer, KeepsOpen, SameAt, kept_at}
use Rattle.h3_connection.specs.StreamSets.{Streams, stream_at, set_stream}
use Rattle.h3_connection.specs.StreamSetLaws.{other_id, set-here, set-other, set-distinct}
use Rattle.h3_connection.specs.Unidirectional.{Unidirectional, untold, is_critical}

-- the own streams of an endpoint that differs elsewhere
pub own_same : (own : OwnState) (e f : EndpointHistory) → f ≡ record e { incoming = f.incoming; outgoing = f.outgoing; unidirectional = f.unidirectional; sent = f.sent; next_id = f.next_id; closed = f.closed } → OwnStands own e → OwnStands own f
own_same own e f is h = subst (OwnStands own) (sym is) (record {
  control = h.control;
  encoder = h.encoder;
  decoder = h.decoder;
  taken = record { control = h.taken.control; encoder = h.taken.encoder; decoder = h.taken.decoder };
})

-- what every history has in common, of one that differs elsewhere
pub reached_same : (e f : EndpointHistory) → f ≡ record e { outgoing = f.outgoing; sent = f.sent; next_id = f.next_id; closed = f.closed; own = f.own } → All (IsBehind (length f.own.goaways)) f.own.updates
    → IsReached e → IsReached f
reached_same e f is own_updates h =
    subst IsReached (sym is) (record {
      unlearned = h.unlearned;
      control = h.control;
      encoder = h.encoder;
      decoder = h.decoder;
      told_control = h.told_control;
      told_encoder = h.told_encoder;
      told_decoder = h.told_decoder;
      kept = h.kept;
      own_updates = own_updates;
    })

-- a stream that is there stays there
there_by : (streams : Streams Incoming) (id q : ℕ) (i : Incoming) → q ≡ id ⊎ q ≢ id → IsSome (stream_at streams q) → IsSome (stream_at (set_stream streams id i) q)
there_by streams id q i (inl same) h = rw same (rw (set-here streams id i) refl)
there_by streams id q i (inr differs) h = rw (set-other streams id q i (other_id q id differs)) h

pub still_there : (streams : Streams Incoming) (id q : ℕ) (i : Incoming) → IsSome (stream_at streams q) → IsSome (stream_at (set_stream streams id i) q)
still_there streams id q i h = there_by streams id q i (cases_eq q id) h

-- and of one whose receiver changes
pub reached_receiving : (e : EndpointHistory) (id : ℕ) (i : Incoming) → IsReached e → IsReached (with_incoming e id i)
reached_receiving e id i h =
    record {
      unlearned = h.unlearned;
      control = h.control;
      encoder = h.encoder;
      decoder = h.decoder;
      told_control = h.told_control;
      told_encoder = h.told_encoder;
      told_decoder = h.told_decoder;
      kept = All-weaker (KeepsOpen e.side e.incoming) (KeepsOpen e.side (set_stream e.incoming id i)) (λ a keeps is. still_there e.incoming id (stream_of a) i (keeps is)) e.kept h.kept;
      own_updates = h.own_updates;
    }

-- a map whose stream at this id is now another one, seen through one part of its streams
pub part_set : {X Y : Type 0} (part : X → Y) (old new : Streams X) (streams : Streams Y) (id : ℕ) (x : X) → ((q : ℕ) → option_map part (kept_at old q) ≡ stream_at streams q)
    → Sets old new id x → (q : ℕ) → option_map part (kept_at new q) ≡ stream_at (set_stream streams id (part x)) q
part_set part old new streams id x h sets q = elim (cases_eq q id) [
  | inl same ↦ rw same (ap (option_map part) sets.here ∙ sym (set-here streams id (part x)))
  | inr differs ↦ ap (option_map part) (sets.others q differs) ∙ h q ∙ sym (set-other streams id q (part x) (other_id q id differs))
]

-- and where that part of it is as it was
pub part_same : {X Y : Type 0} (part : X → Y) (old new : Streams X) (streams : Streams Y) (id : ℕ) (before x : X) → ((q : ℕ) → option_map part (kept_at old q) ≡ stream_at streams q)
    → kept_at old id ≡ Some before → part x ≡ part before → Sets old new id x → (q : ℕ) → option_map part (kept_at new q) ≡ stream_at streams q
part_same part old new streams id before x h was is sets q = elim (cases_eq q id) [
  | inl same ↦ rw same (ap (option_map part) sets.here ∙ ap Some is ∙ sym (ap (option_map part) was) ∙ h id)
  | inr differs ↦ ap (option_map part) (sets.others q differs) ∙ h q
]

-- the same of what is sent, which stands for its parts
pub sent_set : (old new : Streams RequestState) (streams : Streams Outgoing) (id : ℕ) (x : RequestState) (o : Outgoing) → ((q : ℕ) → SameAt IsOfOutgoing (stream_at streams q) (option_map (λ r. r.outgoing) (kept_at old q)))
    → IsOfOutgoing o x.outgoing → Sets old new id x → (q : ℕ) → SameAt IsOfOutgoing (stream_at (set_stream streams id o) q) (option_map (λ r. r.outgoing) (kept_at new q))
sent_set old new streams id x o h is sets q = elim (cases_eq q id) [
  | inl same ↦ rw same (rw (set-here streams id o, sets.here) is)
  | inr differs ↦ rw (set-other streams id q o (other_id q id differs), sets.others q differs) (h q)
]

pub sent_same : (old new : Streams RequestState) (streams : Streams Outgoing) (id : ℕ) (before x : RequestState) → ((q : ℕ) → SameAt IsOfOutgoing (stream_at streams q) (option_map (λ r. r.outgoing) (kept_at old q)))
    → kept_at old id ≡ Some before → x.outgoing ≡ before.outgoing → Sets old new id x → (q : ℕ) → SameAt IsOfOutgoing (stream_at streams q) (option_map (λ r. r.outgoing) (kept_at new q))
sent_same old new streams id before x h was is sets q = elim (cases_eq q id) [
  | inl same ↦
      let here : SameAt IsOfOutgoing (stream_at streams id) (Some before.outgoing) = subst (λ o. SameAt IsOfOutgoing (stream_at streams id) (option_map (λ r. r.outgoing) o)) was (h id) in
      let now : SameAt IsOfOutgoing (stream_at streams id) (Some x.outgoing) = subst (λ w. SameAt IsOfOutgoing (stream_at streams id) (Some w)) (sym is) here in
      rw same (rw sets.here now)
  | inr differs ↦ rw (sets.others q differs) (h q)
]

-- The sender's part of a request stream changes.
pub stands_sending : (s : EndpointState) (e : EndpointHistory) (new : Streams RequestState) (id : ℕ) (before x : RequestState) (o : Outgoing) → StandsFor s e
    → kept_at s.requests id ≡ Some before → x.incoming ≡ before.incoming → IsOfOutgoing o x.outgoing → Sets s.requests new id x → StandsFor (record s { requests = new }) (with_outgoing e id o)
stands_sending s e new id before x o h was same is sets =
    record {
      side = h.side;
      announced = h.announced;
      closed = h.closed;
      next_id = h.next_id;
      incoming = part_same (λ r. r.incoming) s.requests new e.incoming id before x h.incoming was same sets;
      outgoing = sent_set s.requests new e.outgoing id x o h.outgoing is sets;
      unidirectional = h.unidirectional;
      distinct = h.distinct;
      control_on = h.control_on;
      encoder_on = h.encoder_on;
      decoder_on = h.decoder_on;
      peer = h.peer;
      decoding = h.decoding;
      encoder = h.encoder;
      decoder_unread = h.decoder_unread;
      own = own_same s.own e (with_outgoing e id o) refl h.own;
      last_goaway = h.last_goaway;
      kept = h.kept;
      sent = h.sent;
      order = h.order;
      reached = reached_same e (with_outgoing e id o) refl h.reached.own_updates h.reached;
    }

-- The receiver's part of a request stream changes.
pub stands_receiving : (s : EndpointState) (e : EndpointHistory) (new : Streams RequestState) (id : ℕ) (before x : RequestState) → StandsFor s e
    → kept_at s.requests id ≡ Some before → x.outgoing ≡ before.outgoing → Sets s.requests new id x → StandsFor (record s { requests = new }) (with_incoming e id x.incoming)
stands_receiving s e new id before x h was same sets =
    record {
      side = h.side;
      announced = h.announced;
      closed = h.closed;
      next_id = h.next_id;
      incoming = part_set (λ r. r.incoming) s.requests new e.incoming id x h.incoming sets;
      outgoing = sent_same s.requests new e.outgoing id before x h.outgoing was same sets;
      unidirectional = h.unidirectional;
      distinct = set-distinct e.incoming id x.incoming h.distinct;
      control_on = h.control_on;
      encoder_on = h.encoder_on;
      decoder_on = h.decoder_on;
      peer = h.peer;
      decoding = h.decoding;
      encoder = h.encoder;
      decoder_unread = h.decoder_unread;
      own = own_same s.own e (with_incoming e id x.incoming) refl h.own;
      last_goaway = h.last_goaway;
      kept = h.kept;
      sent = h.sent;
      order = h.order;
      reached = reached_receiving e id x.incoming h.reached;
    }

-- Both parts of it change.
pub stands_both : (s : EndpointState) (e : EndpointHistory) (new : Streams RequestState) (id : ℕ) (x : RequestState) (o : Outgoing) → StandsFor s e
    → IsOfOutgoing o x.outgoing → Sets s.requests new id x
    → StandsFor (record s { requests = new }) (record e { incoming = set_stream e.incoming id x.incoming; outgoing = set_stream e.outgoing id o })
stands_both s e new id x o h is sets =
    let after : EndpointHistory = record e { incoming = set_stream e.incoming id x.incoming; outgoing = set_stream e.outgoing id o } in
    record {
      side = h.side;
      announced = h.announced;
      closed = h.closed;
      next_id = h.next_id;
      incoming = part_set (λ r. r.incoming) s.requests new e.incoming id x h.incoming sets;
      outgoing = sent_set s.requests new e.outgoing id x o h.outgoing is sets;
      unidirectional = h.unidirectional;
      distinct = set-distinct e.incoming id x.incoming h.distinct;
      control_on = h.control_on;
      encoder_on = h.encoder_on;
      decoder_on = h.decoder_on;
      peer = h.peer;
      decoding = h.decoding;
      encoder = h.encoder;
      decoder_unread = h.decoder_unread;
      own = own_same s.own e after refl h.own;
      last_goaway = h.last_goaway;
      kept = h.kept;
      sent = h.sent;
      order = h.order;
      reached = reached_same (with_incoming e id x.incoming) after refl h.reached.own_updates (reached_receiving e id x.incoming h.reached);
    }

-- A stream that is read as one of the connection's is one still where a stream changes that stays told.
told_at : (streams : Streams Unidirectional) (id q : ℕ) (o : Unidirectional) → q ≡ id ⊎ q ≢ id → (is_critical (unwrap_or (stream_at streams id) untold).role ≡ true → is_critical o.role ≡ true)
    → is_critical (unwrap_or (stream_at streams q) untold).role ≡ true → is_critical (unwrap_or (stream_at (set_stream streams id o) q) untold).role ≡ true
told_at streams id q o (inl same) keeps h =
    subst (λ n. is_critical (unwrap_or (stream_at (set_stream streams id o) n) untold).role ≡ true) (sym same)
    (subst (λ (x : Option Unidirectional). is_critical (unwrap_or x untold).role ≡ true) (sym (set-here streams id o))
    (keeps (subst (λ n. is_critical (unwrap_or (stream_at streams n) untold).role ≡ true) same h)))
told_at streams id q o (inr differs) keeps h =
    subst (λ (x : Option Unidirectional). is_critical (unwrap_or x untold).role ≡ true) (sym (set-other streams id q o (other_id q id differs))) h

told_set : (side : Side) (streams : Streams Unidirectional) (id : ℕ) (o : Unidirectional) (on : Option ℕ) → (is_critical (unwrap_or (stream_at streams id) untold).role ≡ true → is_critical o.role ≡ true)
    → IfSome on (IsToldPeer side streams) → IfSome on (IsToldPeer side (set_stream streams id o))
told_set side streams id o None keeps h = tt
told_set side streams id o (Some q) keeps h = (h.0, told_at streams id q o (cases_eq q id) keeps h.1)

reached_unidirectional : (e : EndpointHistory) (id : ℕ) (o : Unidirectional) → (is_critical (unidirectional_at e id).role ≡ true → is_critical o.role ≡ true) → IsReached e → IsReached (with_unidirectional e id o)
reached_unidirectional e id o keeps h =
    record {
      unlearned = h.unlearned;
      control = h.control;
      encoder = h.encoder;
      decoder = h.decoder;
      told_control = told_set e.side e.unidirectional id o e.control_on keeps h.told_control;
      told_encoder = told_set e.side e.unidirectional id o e.encoder_on keeps h.told_encoder;
      told_decoder = told_set e.side e.unidirectional id o e.decoder_on keeps h.told_decoder;
      kept = h.kept;
      own_updates = h.own_updates;
    }

-- A unidirectional stream of the peer changes, or is the first that comes of it. One that told to be the connection's stays so.
pub stands_unidirectional : (s : EndpointState) (e : EndpointHistory) (new : Streams Unidirectional) (id : ℕ) (o : Unidirectional) → StandsFor s e
    → (is_critical (unidirectional_at e id).role ≡ true → is_critical o.role ≡ true) → Sets s.unidirectional new id o → StandsFor (record s { unidirectional = new }) (with_unidirectional e id o)
stands_unidirectional s e new id o h keeps sets =
    record {
      side = h.side;
      announced = h.announced;
      closed = h.closed;
      next_id = h.next_id;
      incoming = h.incoming;
      outgoing = h.outgoing;
      unidirectional = λ q. elim (cases_eq q id) [
        | inl same ↦ rw same (sets.here ∙ sym (set-here e.unidirectional id o))
        | inr differs ↦ sets.others q differs ∙ h.unidirectional q ∙ sym (set-other e.unidirectional id q o (other_id q id differs))
      ];
      distinct = h.distinct;
      control_on = h.control_on;
      encoder_on = h.encoder_on;
      decoder_on = h.decoder_on;
      peer = h.peer;
      decoding = h.decoding;
      encoder = h.encoder;
      decoder_unread = h.decoder_unread;
      own = own_same s.own e (with_unidirectional e id o) refl h.own;
      last_goaway = h.last_goaway;
      kept = h.kept;
      sent = h.sent;
      order = h.order;
      reached = reached_unidirectional e id o keeps h.reached;
    }
