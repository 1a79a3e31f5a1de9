-- Bytes of a stream of the peer that is read as one of the connection's.
use Rattle.std.proofs.Common.{◌≡◌, ℕ, true, false, not, List, [], ◌∷◌, ◌++◌, Option, Some, None, refl, ap, sym, subst, ◌∙◌, inl, inr, Bool}
use Rattle.std.specs.Prelude.{unwrap_or, IfSome, All}
use Rattle.std.proofs.lemmas.Bool.{cases_eq}
use Rattle.h3_connection.specs.declared.setup.Announced.{Announced}
use Rattle.h3_proto.specs.declared.stream.Side.{Side}
use Rattle.h3_connection.specs.declared.arrival.Arrival.{Arrival}
use Rattle.h3_connection.specs.declared.arrival.Arrival.TheVariants.{BytesCame}
use Rattle.h3_connection.specs.Calls.{Sets}
use Rattle.h3_connection.specs.Control.{Found, read_control, read_encoder, read_decoder}
use Rattle.h3_connection.specs.Delivering.{bytes_at, heard_as, only_one, read_unidirectional, unidirectional_at, with_unidirectional}
use Rattle.h3_connection.specs.Endpoint.{EndpointHistory, is_second, kind_of}
use Rattle.h3_connection.specs.Endpoint.Kind.{PeerUnidirectional}
use Rattle.h3_connection.specs.Keeping.{read_arrival}
use Rattle.h3_connection.specs.PartReading.{ReadsOn, held, held_as, is_reader}
use Rattle.h3_connection.specs.StandsLaws.{stands_unidirectional}
use Rattle.h3_connection.specs.State.{EndpointState, StandsFor, IsReached, IsToldPeer, kept_at}
use Rattle.h3_connection.specs.StreamSets.{Streams, stream_at}
use Rattle.h3_connection.specs.StreamSetLaws.{set-here}
use Rattle.h3_connection.specs.Unidirectional.{StreamKinds, Unidirectional, Role, untold, is_critical, role_after, with_bytes}
use Rattle.h3_connection.specs.Unidirectional.Role.{Untold, Control, Encoder, Decoder, Session, Push, Ignored, Other}
use Rattle.h3_unidirectional.specs.Kinds.{TellsFirst}
use Rattle.h3_streams.proofs.PlacedLaws.{stands_map}
use Rattle.h3_streams.specs.Placed.{StreamsState, placed, Reads}
use Rattle.h3_streams.specs.ReadingOn.{ReadsSome, StopsAt, IsRead, IsPeers, Stops, Unheld, Held, reader_on, with_reader}
use Rattle.h3_streams.proofs.Again.{is_there}
use Rattle.h3_streams.proofs.Beginnings.{Begins, control_begins, encoder_begins, decoder_begins}
use Rattle.h3_streams.proofs.EncoderReads.{first_found}
use Rattle.h3_streams.proofs.Peers.{one_peer, peer_on, told_by, same_reader}
use Rattle.h3_connection.specs.StrictConnection.{known_streams}

-- the stream, told to be of this role
abbrev pub told_as : EndpointHistory → ℕ → Role → EndpointHistory
told_as e id r = with_unidirectional e id (record (unidirectional_at e id) { role = r })

told_bytes : (r : Role) (o : Unidirectional) (l : List ℕ) → is_critical r ≡ true → with_bytes o (r, l) ≡ record o { role = r }
told_bytes (Untold front) o l c = absurd (cc)
told_bytes Control o l c = refl
told_bytes Encoder o l c = refl
told_bytes Decoder o l c = refl
told_bytes (Session id) o l c = absurd (cc)
told_bytes (Push id) o l c = absurd (cc)
told_bytes Ignored o l c = absurd (cc)
told_bytes (Other kind) o l c = absurd (cc)

told_after : (sessions : StreamKinds) (r : Role) (l : List ℕ) → is_critical r ≡ true → role_after sessions r l ≡ (r, l)
told_after sessions (Untold front) l c = absurd (cc)
told_after sessions Control l c = refl
told_after sessions Encoder l c = refl
told_after sessions Decoder l c = refl
told_after sessions (Session id) l c = absurd (cc)
told_after sessions (Push id) l c = absurd (cc)
told_after sessions Ignored l c = absurd (cc)
told_after sessions (Other kind) l c = absurd (cc)

-- a stream that told to be the connection's stays so
pub told_kept : (sessions : StreamKinds) (o : Unidirectional) (bytes : List ℕ) → is_critical o.role ≡ true → is_critical (with_bytes o (role_after sessions o.role bytes)).role ≡ true
told_kept sessions o bytes c = subst (λ (p : Unidirectional). is_critical p.role ≡ true) (sym (ap (λ p. with_bytes o p) (told_after sessions o.role bytes c) ∙ told_bytes o.role o bytes c)) c

not_untold : (r : Role) → is_critical r ≡ true → Untold [] ≡ r → ⊥
not_untold (Untold front) c e = cc
not_untold Control c e = cc
not_untold Encoder c e = cc
not_untold Decoder c e = cc
not_untold (Session id) c e = cc
not_untold (Push id) c e = cc
not_untold Ignored c e = cc
not_untold (Other kind) c e = cc

reader_is : (e : EndpointHistory) (id : ℕ) (r : Role) → is_critical r ≡ true → is_reader e id r ≡ not (is_second (reader_on r e) id)
reader_is e id (Untold front) c = absurd (cc)
reader_is e id Control c = refl
reader_is e id Encoder c = refl
reader_is e id Decoder c = refl
reader_is e id (Session n) c = absurd (cc)
reader_is e id (Push n) c = absurd (cc)
reader_is e id Ignored c = absurd (cc)
reader_is e id (Other kind) c = absurd (cc)

-- its reader begins with no bytes
begins_first : (s : EndpointState) (x : StreamsState) (e : EndpointHistory) (id : ℕ) (on : Option ℕ) (found : Found) → on ≡ None → Begins s x found → Begins s x (only_one on id e found)
begins_first s x e id on found none b = record { new = b.new; is = first_found found on e id (ap (λ o. is_second o id) none) ∙ b.is; stands = b.stands }

begins_as : (r : Role) (s : EndpointState) (x : StreamsState) (e : EndpointHistory) (id : ℕ) → is_critical r ≡ true → StandsFor (placed s x) e → IsToldPeer e.side e.unidirectional id → reader_on r e ≡ None → Begins s (with_reader r x id) (heard_as e id r [])
begins_as (Untold front) s x e id c h told none = absurd (cc)
begins_as Control s x e id c h told none = begins_first s (record x { control_on = Some id }) e id e.control_on (read_control (record e { control_on = Some id }) []) none (control_begins s x e id h told none)
begins_as Encoder s x e id c h told none = begins_first s (record x { encoder_on = Some id }) e id e.encoder_on (read_encoder (record e { encoder_on = Some id }) []) none (encoder_begins s x e id h told none)
begins_as Decoder s x e id c h told none = begins_first s (record x { decoder_on = Some id }) e id e.decoder_on (read_decoder (record e { decoder_on = Some id }) []) none (decoder_begins s x e id h told none)
begins_as (Session n) s x e id c h told none = absurd (cc)
begins_as (Push n) s x e id c h told none = absurd (cc)
begins_as Ignored s x e id c h told none = absurd (cc)
begins_as (Other kind) s x e id c h told none = absurd (cc)

-- What is known of the bytes of such a stream: its role, the bytes for it, and the map of streams after them.
pub record IsTold (x : StreamsState) (new : Streams Unidirectional) (e : EndpointHistory) (id : ℕ) (bytes : List ℕ) (r : Role) (rest : List ℕ) : Type 0 where
  pub critical : is_critical r ≡ true
  pub after : role_after (known_streams e.announced) (unidirectional_at e id).role bytes ≡ (r, rest)
  pub sets : Sets x.unidirectional new id (with_bytes (unidirectional_at e id) (role_after (known_streams e.announced) (unidirectional_at e id).role bytes))
  pub front : TellsFirst (known_streams e.announced) (unidirectional_at e id).role bytes r rest

-- the map of streams stands for the stream with its role
told_stands : (s : EndpointState) (x : StreamsState) (new : Streams Unidirectional) (e : EndpointHistory) (id : ℕ) (bytes : List ℕ) (r : Role) (rest : List ℕ) → StandsFor (placed s x) e → IsTold x new e id bytes r rest
    → StandsFor (placed s (record x { unidirectional = new })) (told_as e id r)
told_stands s x new e id bytes r rest h t =
    let o = unidirectional_at e id in
    stands_unidirectional (placed s x) e new id (record o { role = r }) h (λ told. t.critical) (subst (λ p. Sets x.unidirectional new id p) (ap (λ p. with_bytes o p) t.after ∙ told_bytes r o rest t.critical) t.sets)

pub told_read : (s : EndpointState) (x : StreamsState) (new : Streams Unidirectional) (e : EndpointHistory) (side : Side) (own : Announced) (id : ℕ) (bytes : List ℕ) (r : Role) (rest : List ℕ) → StandsFor (placed s x) e → e.side ≡ side → e.announced ≡ own
    → kind_of e.side id ≡ PeerUnidirectional → IsTold x new e id bytes r rest
    → IsRead s (record x { unidirectional = new }) (told_as e id r) side own id r
told_read s x new e side own id bytes r rest h same are kind t =
    let o = unidirectional_at e id in
    record {
      stands = told_stands s x new e id bytes r rest h t;
      side_is = same;
      own_is = are;
      kind = kind;
      role_is = ap (λ p. (unwrap_or p untold).role) (set-here e.unidirectional id (record o { role = r }));
      early = subst (λ u. IfSome x.decoder_on (λ d. kind_of u d ≡ PeerUnidirectional)) same
          (subst (λ on. IfSome on (λ d. kind_of e.side d ≡ PeerUnidirectional)) (sym h.decoder_on) (peer_on e.side e.unidirectional e.decoder_on h.reached.told_decoder));
    }

-- what the bytes for a role find, all the bytes find
read_told : (s : EndpointState) (x : StreamsState) (new : Streams Unidirectional) (e : EndpointHistory) (id : ℕ) (bytes : List ℕ) (r : Role) (rest : List ℕ) → IsTold x new e id bytes r rest
    → bytes_at e id bytes PeerUnidirectional ≡ heard_as (told_as e id r) id r rest
read_told s x new e id bytes r rest t =
    let o = unidirectional_at e id in
    ap (λ p. read_unidirectional e id o p) t.after ∙ ap (λ p. heard_as (with_unidirectional e id p) id r rest) (told_bytes r o rest t.critical)

pub told_found : (s : EndpointState) (x y : StreamsState) (new : Streams Unidirectional) (e : EndpointHistory) (side : Side) (id : ℕ) (bytes : List ℕ) (r : Role) (rest : List ℕ) (fault : Option ℕ) → IsTold x new e id bytes r rest
    → Reads s fault y (heard_as (told_as e id r) id r rest) → Reads s fault y (bytes_at e id bytes PeerUnidirectional)
told_found s x y new e side id bytes r rest fault t reads = subst (Reads s fault y) (sym (read_told s x new e id bytes r rest t)) reads

-- its reader held them
stopped_held : (s : EndpointState) (x y : StreamsState) (new : Streams Unidirectional) (e : EndpointHistory) (id : ℕ) (bytes : List ℕ) (r : Role) (rest : List ℕ) (left : List Arrival)
    → kind_of e.side id ≡ PeerUnidirectional → IsTold x new e id bytes r rest → is_second (reader_on r e) id ≡ false → StopsAt s y (held_as (told_as e id r) id (r, rest)) (BytesCame id [] ∷ []) left
    → held e id bytes ≡ held_as (told_as e id r) id (r, rest) → (held_as (told_as e id r) id (r, rest)).side ≡ e.side → StopsAt s y e (BytesCame id bytes ∷ []) left
stopped_held s x y new e id bytes r rest left kind t first stops is side =
    let reader : is_reader e id (role_after (known_streams e.announced) (unidirectional_at e id).role bytes).0 ≡ true = ap (λ (p : Role × List ℕ). is_reader e id p.0) t.after ∙ reader_is e id r t.critical ∙ ap not first in
    record {
      after = stops.after;
      reads = λ more. ReadsSome.Steps (subst (λ g. ReadsOn e (BytesCame id bytes ∷ more) g (BytesCame id [] ∷ more)) is (ReadsOn.Holds kind reader)) (stops.reads more);
      stands = stops.stands;
      kinds = subst (λ u. All (IsPeers u) left) side stops.kinds;
    }

held_is : (x : StreamsState) (new : Streams Unidirectional) (e : EndpointHistory) (id : ℕ) (bytes : List ℕ) (r : Role) (rest : List ℕ) → IsTold x new e id bytes r rest → held e id bytes ≡ held_as (told_as e id r) id (r, rest)
held_is x new e id bytes r rest t =
    let o = unidirectional_at e id in
    ap (λ p. held_as (with_unidirectional e id (with_bytes o p)) id p) t.after ∙ ap (λ p. held_as (with_unidirectional e id p) id (r, rest)) (told_bytes r o rest t.critical)

held_side : (e : EndpointHistory) (id : ℕ) (r : Role) (rest : List ℕ) → (held_as e id (r, rest)).side ≡ e.side
held_side e id (Untold front) rest = refl
held_side e id Control rest = refl
held_side e id Encoder rest = refl
held_side e id Decoder rest = refl
held_side e id (Session n) rest = refl
held_side e id (Push n) rest = refl
held_side e id Ignored rest = refl
held_side e id (Other kind) rest = refl

told_reader : (r : Role) (e : EndpointHistory) (id : ℕ) (r2 : Role) → reader_on r (told_as e id r2) ≡ reader_on r e
told_reader (Untold front) e id r2 = refl
told_reader Control e id r2 = refl
told_reader Encoder e id r2 = refl
told_reader Decoder e id r2 = refl
told_reader (Session n) e id r2 = refl
told_reader (Push n) e id r2 = refl
told_reader Ignored e id r2 = refl
told_reader (Other kind) e id r2 = refl

-- nothing of them was taken: the stream's role was told before
stopped_before : (s : EndpointState) (x : StreamsState) (new : Streams Unidirectional) (e : EndpointHistory) (id : ℕ) (bytes : List ℕ) (r : Role) (rest : List ℕ) (left : List Arrival) → StandsFor (placed s x) e
    → kind_of e.side id ≡ PeerUnidirectional → IsTold x new e id bytes r rest → is_critical (unidirectional_at e id).role ≡ true → left ≡ BytesCame id rest ∷ []
    → StopsAt s (record x { unidirectional = new }) e (BytesCame id bytes ∷ []) left
stopped_before s x new e id bytes r rest left h kind t before is =
    let o = unidirectional_at e id in
    let same : (o.role, bytes) ≡ (r, rest) = sym (told_after (known_streams e.announced) o.role bytes before) ∙ t.after in
    let whole : rest ≡ bytes = sym (ap (λ (p : Role × List ℕ). p.1) same) in
    let there : stream_at e.unidirectional id ≡ Some o = is_there (stream_at e.unidirectional id) o.role refl (not_untold o.role before) in
    let kept : with_bytes o (role_after (known_streams e.announced) o.role bytes) ≡ o = ap (λ p. with_bytes o p) (told_after (known_streams e.announced) o.role bytes before) ∙ told_bytes o.role o bytes before in
    let here : kept_at new id ≡ stream_at e.unidirectional id = t.sets.here ∙ ap Some kept ∙ sym there in
    let stands = stands_map s x e new h (λ q. elim (cases_eq q id) [
      | inl is_id ↦ subst (λ n. kept_at new n ≡ stream_at e.unidirectional n) (sym is_id) here
      | inr differs ↦ t.sets.others q differs ∙ h.unidirectional q
    ]) in
    record {
      after = e;
      reads = λ more. subst (λ a. ReadsSome e (BytesCame id bytes ∷ more) e (a ++ more)) (ap (λ l. BytesCame id l ∷ []) (sym whole) ∙ sym is) ReadsSome.Stays;
      stands = stands;
      kinds = subst (λ a. All (IsPeers e.side) a) (sym is) (one_peer e.side id rest kind);
    }

-- nothing of them was taken: the role is told now
stopped_now : (s : EndpointState) (x : StreamsState) (new : Streams Unidirectional) (e : EndpointHistory) (id : ℕ) (bytes : List ℕ) (r : Role) (rest : List ℕ) (left : List Arrival) → StandsFor (placed s x) e
    → kind_of e.side id ≡ PeerUnidirectional → IsTold x new e id bytes r rest → reader_on r e ≡ None → left ≡ BytesCame id rest ∷ []
    → StopsAt s (with_reader r (record x { unidirectional = new }) id) e (BytesCame id bytes ∷ []) left
stopped_now s x new e id bytes r rest left h kind t none is =
    let o = unidirectional_at e id in
    let f = told_as e id r in
    let role : (unidirectional_at f id).role ≡ r = ap (λ p. (unwrap_or p untold).role) (set-here e.unidirectional id (record o { role = r })) in
    let b = begins_as r s (record x { unidirectional = new }) f id t.critical (told_stands s x new e id bytes r rest h t) (kind, ap is_critical role ∙ t.critical) (told_reader r e id r ∙ none) in
    let tells : bytes_at e id t.front.front PeerUnidirectional ≡ heard_as f id r [] =
    ap (λ p. read_unidirectional e id o p) t.front.tells ∙ ap (λ p. heard_as (with_unidirectional e id p) id r []) (told_bytes r o [] t.critical) in
    let read : read_arrival e (BytesCame id t.front.front) ≡ (b.new, None) = ap (λ k. bytes_at e id t.front.front k) kind ∙ tells ∙ b.is in
    record {
      after = b.new;
      reads = λ more. subst (λ l. ReadsSome e (BytesCame id l ∷ more) b.new (left ++ more)) (sym t.front.cut)
          (subst (λ a. ReadsSome e (BytesCame id (t.front.front ++ rest) ∷ more) b.new (a ++ more)) (sym is) (ReadsSome.Steps (ReadsOn.ReadsFront t.front.front rest read) ReadsSome.Stays));
      stands = b.stands;
      kinds = subst (λ a. All (IsPeers e.side) a) (sym is) (one_peer e.side id rest kind);
    }

-- the stream that is read as such told to be so
reader_told : (r : Role) (e : EndpointHistory) (id : ℕ) → is_critical r ≡ true → IsReached e → reader_on r e ≡ Some id → IsToldPeer e.side e.unidirectional id
reader_told (Untold front) e id c h is = absurd (cc)
reader_told Control e id c h is = told_by e.side e.unidirectional e.control_on id is h.told_control
reader_told Encoder e id c h is = told_by e.side e.unidirectional e.encoder_on id is h.told_encoder
reader_told Decoder e id c h is = told_by e.side e.unidirectional e.decoder_on id is h.told_decoder
reader_told (Session n) e id c h is = absurd (cc)
reader_told (Push n) e id c h is = absurd (cc)
reader_told Ignored e id c h is = absurd (cc)
reader_told (Other kind) e id c h is = absurd (cc)

same_reading : (r : Role) (s : EndpointState) (x : StreamsState) (e : EndpointHistory) (id : ℕ) → is_critical r ≡ true → StandsFor (placed s x) e → reader_on r e ≡ Some id → x ≡ with_reader r x id
same_reading (Untold front) s x e id c h is = absurd (cc)
same_reading Control s x e id c h is = ap (λ o. record x { control_on = o }) (h.control_on ∙ is)
same_reading Encoder s x e id c h is = ap (λ o. record x { encoder_on = o }) (h.encoder_on ∙ is)
same_reading Decoder s x e id c h is = ap (λ o. record x { decoder_on = o }) (h.decoder_on ∙ is)
same_reading (Session n) s x e id c h is = absurd (cc)
same_reading (Push n) s x e id c h is = absurd (cc)
same_reading Ignored s x e id c h is = absurd (cc)
same_reading (Other kind) s x e id c h is = absurd (cc)

-- nothing of them was taken, by whether the stream was read as such before
stopped_unheld : (s : EndpointState) (x : StreamsState) (new : Streams Unidirectional) (e : EndpointHistory) (id : ℕ) (bytes : List ℕ) (r : Role) (rest : List ℕ) (left : List Arrival) (on : Option ℕ) → StandsFor (placed s x) e
    → kind_of e.side id ≡ PeerUnidirectional → IsTold x new e id bytes r rest → reader_on r e ≡ on → is_second on id ≡ false → left ≡ BytesCame id rest ∷ []
    → StopsAt s (with_reader r (record x { unidirectional = new }) id) e (BytesCame id bytes ∷ []) left
stopped_unheld s x new e id bytes r rest left None h kind t on first is = stopped_now s x new e id bytes r rest left h kind t on is
stopped_unheld s x new e id bytes r rest left (Some other) h kind t on first is =
    let here : reader_on r e ≡ Some id = on ∙ ap Some (same_reader other id first) in
    let before = stopped_before s x new e id bytes r rest left h kind t (reader_told r e id t.critical h.reached here).1 is in
    let read : StandsFor (placed s (record x { unidirectional = new })) (told_as e id r) = told_stands s x new e id bytes r rest h t in
    subst (λ y. StopsAt s y e (BytesCame id bytes ∷ []) left) (same_reading r s (record x { unidirectional = new }) (told_as e id r) id t.critical read (told_reader r e id r ∙ here)) before

pub told_stopped : (s : EndpointState) (x y : StreamsState) (new : Streams Unidirectional) (e : EndpointHistory) (id : ℕ) (bytes : List ℕ) (r : Role) (rest : List ℕ) (left : List Arrival) → StandsFor (placed s x) e
    → kind_of e.side id ≡ PeerUnidirectional → IsTold x new e id bytes r rest
    → Stops r s (record x { unidirectional = new }) y (told_as e id r) id rest left → StopsAt s y e (BytesCame id bytes ∷ []) left
told_stopped s x y new e id bytes r rest left h kind t (Unheld first is now) =
    let second : is_second (reader_on r e) id ≡ false = ap (λ o. is_second o id) (sym (told_reader r e id r)) ∙ first in
    subst (λ z. StopsAt s z e (BytesCame id bytes ∷ []) left) (sym now) (stopped_unheld s x new e id bytes r rest left (reader_on r e) h kind t refl second is)
told_stopped s x y new e id bytes r rest left h kind t (Held first stops) =
    let second : is_second (reader_on r e) id ≡ false = ap (λ o. is_second o id) (sym (told_reader r e id r)) ∙ first in
    stopped_held s x y new e id bytes r rest left kind t second stops (held_is x new e id bytes r rest t) (held_side (told_as e id r) id r rest)
