-- Bytes come on a unidirectional stream of the peer.
use Rattle.std.proofs.Common.{◌≡◌, ℕ, true, false, List, [], ◌∷◌, ◌++◌, Option, Some, None, refl, ap, sym, subst, ◌∙◌}
use Rattle.std.specs.Prelude.{All}
use Rattle.h3_connection.specs.declared.setup.Announced.{Announced}
use Rattle.h3_proto.specs.declared.stream.Side.{Side}
use Rattle.h3_connection.specs.declared.arrival.Arrival.{Arrival}
use Rattle.h3_connection.specs.declared.arrival.Arrival.TheVariants.{BytesCame}
use Rattle.h3_connection.specs.Calls.{Sets, AllSame}
use Rattle.h3_connection.specs.Delivering.{bytes_at, heard_as, read_unidirectional, unidirectional_at, with_unidirectional, push_code}
use Rattle.h3_connection.specs.Endpoint.{EndpointHistory}
use Rattle.h3_connection.specs.Endpoint.Kind.{PeerUnidirectional}
use Rattle.h3_connection.specs.StandsLaws.{stands_unidirectional}
use Rattle.h3_connection.specs.State.{EndpointState, StandsFor}
use Rattle.h3_connection.specs.StreamSets.{Streams}
use Rattle.h3_connection.specs.Unidirectional.{Unidirectional, Role, is_critical, role_after, with_bytes}
use Rattle.h3_connection.specs.Unidirectional.Role.{Untold, Control, Encoder, Decoder, Session, Push, Ignored, Other}
use Rattle.h3_unidirectional.specs.Kinds.{is_untold, received_by, TellsFirst}
use Rattle.h3_unidirectional.specs.declared.stream.Received.{Received}
use Rattle.h3_unidirectional.specs.declared.stream.Received.TheVariants as received
use Rattle.h3_streams.proofs.PlacedLaws.{stands_map}
use Rattle.h3_streams.specs.Placed.{StreamsState, placed, Receives, Reads}
use Rattle.h3_streams.specs.ReadingOn.{ReadsSome, StopsAt, IsRead, IsPeers, IsDue, Stops, left_arrivals}
use Rattle.h3_streams.specs.declared.left.Left.{Left}
use Rattle.h3_streams.proofs.Closing.{there}
use Rattle.h3_streams.proofs.Peers.{one_peer}
use Rattle.h3_streams.proofs.Told.{IsTold, told_kept, told_read, told_found, told_stopped}
use Rattle.h3_connection.specs.StrictConnection.{known_streams, session_fault}

-- nothing of them was taken
pub untaken : (x : StreamsState) (new : Streams Unidirectional) (side : Side) (own : Announced) (id : ℕ) (bytes back : List ℕ) (left : Left) → AllSame x.unidirectional new → back ≡ bytes → left ≡ record { id = id; bytes = back; early = None }
    → (s : EndpointState) (e : EndpointHistory) → IsDue s x e side own id → StopsAt s (record x { unidirectional = new }) e (BytesCame id bytes ∷ []) (left_arrivals left)
untaken x new side own id bytes back left same kept is s e due =
    let arrivals : BytesCame id bytes ∷ [] ≡ left_arrivals left = sym (ap left_arrivals is ∙ ap (λ l. BytesCame id l ∷ []) kept) in
    record {
      after = e;
      reads = λ more. subst (λ a. ReadsSome e (BytesCame id bytes ∷ more) e (a ++ more)) arrivals ReadsSome.Stays;
      stands = stands_map s x e new due.stands (λ q. same.each q ∙ due.stands.unidirectional q);
      kinds = subst (λ a. All (IsPeers e.side) a) arrivals (one_peer e.side id bytes due.kind);
    }

-- whether sessions are known is what was announced
of_own : (old new : Streams Unidirectional) (e : EndpointHistory) (own : Announced) (id : ℕ) (bytes : List ℕ) (r : Received) → e.announced ≡ own → Receives (known_streams own) old new id bytes r
    → Receives (known_streams e.announced) old new id bytes r
of_own old new e own id bytes r is receives = subst (λ (a : Announced). Receives (known_streams a) old new id bytes r) (sym is) receives

-- what the map holds then, by the stream of the history
sets_there : (s : EndpointState) (x : StreamsState) (new : Streams Unidirectional) (e : EndpointHistory) (id : ℕ) (bytes : List ℕ) (r : Received) → StandsFor (placed s x) e → Receives (known_streams e.announced) x.unidirectional new id bytes r
    → Sets x.unidirectional new id (with_bytes (unidirectional_at e id) (role_after (known_streams e.announced) (unidirectional_at e id).role bytes))
sets_there s x new e id bytes r h receives = subst (λ (o : Unidirectional). Sets x.unidirectional new id (with_bytes o (role_after (known_streams e.announced) o.role bytes))) (there s x e id h) receives.sets

given_there : (s : EndpointState) (x : StreamsState) (new : Streams Unidirectional) (e : EndpointHistory) (id : ℕ) (bytes : List ℕ) (r : Received) → StandsFor (placed s x) e → Receives (known_streams e.announced) x.unidirectional new id bytes r
    → r ≡ received_by (role_after (known_streams e.announced) (unidirectional_at e id).role bytes)
given_there s x new e id bytes r h receives = receives.given ∙ ap (λ (o : Unidirectional). received_by (role_after (known_streams e.announced) o.role bytes)) (there s x e id h)

-- they are for no reader
quiet : (read_as : Role × List ℕ) (e : EndpointHistory) (id : ℕ) (o : Unidirectional) → received.Nothing ≡ received_by read_as → read_unidirectional e id o read_as ≡ (with_unidirectional e id (with_bytes o read_as), None)
quiet (Untold front, bytes) e id o h = refl
quiet (Control, bytes) e id o h = absurd (cc)
quiet (Encoder, bytes) e id o h = absurd (cc)
quiet (Decoder, bytes) e id o h = absurd (cc)
quiet (Session n, bytes) e id o h = absurd (cc)
quiet (Push n, bytes) e id o h = absurd (cc)
quiet (Ignored, bytes) e id o h = refl
quiet (Other kind, bytes) e id o h = refl

pub nothing_read : (x : StreamsState) (new : Streams Unidirectional) (side : Side) (own : Announced) (id : ℕ) (bytes : List ℕ) → Receives (known_streams own) x.unidirectional new id bytes received.Nothing
    → (s : EndpointState) (e : EndpointHistory) → IsDue s x e side own id → Reads s None (record x { unidirectional = new }) (bytes_at e id bytes PeerUnidirectional)
nothing_read x new side own id bytes receives s e due =
    let o = unidirectional_at e id in
    let given = given_there s x new e id bytes received.Nothing due.stands (of_own x.unidirectional new e own id bytes _ due.own_is receives) in
    subst (Reads s None (record x { unidirectional = new })) (sym (quiet (role_after (known_streams e.announced) o.role bytes) e id o given))
    (refl, stands_unidirectional (placed s x) e new id (with_bytes o (role_after (known_streams e.announced) o.role bytes)) due.stands (told_kept (known_streams e.announced) o bytes) (sets_there s x new e id bytes received.Nothing due.stands (of_own x.unidirectional new e own id bytes _ due.own_is receives)))

-- a push stream
pushed : (read_as : Role × List ℕ) (e : EndpointHistory) (id : ℕ) (o : Unidirectional) → received.Push ≡ received_by read_as → read_unidirectional e id o read_as ≡ (with_unidirectional e id (with_bytes o read_as), Some (push_code e.side))
pushed (Untold front, bytes) e id o h = absurd (cc)
pushed (Control, bytes) e id o h = absurd (cc)
pushed (Encoder, bytes) e id o h = absurd (cc)
pushed (Decoder, bytes) e id o h = absurd (cc)
pushed (Session n, bytes) e id o h = absurd (cc)
pushed (Push n, bytes) e id o h = refl
pushed (Ignored, bytes) e id o h = absurd (cc)
pushed (Other kind, bytes) e id o h = absurd (cc)

pub push_read : (x : StreamsState) (new : Streams Unidirectional) (side : Side) (own : Announced) (id : ℕ) (bytes : List ℕ) (code : ℕ) → code ≡ push_code side → Receives (known_streams own) x.unidirectional new id bytes received.Push
    → (s : EndpointState) (e : EndpointHistory) → IsDue s x e side own id → Reads s (Some code) (record x { unidirectional = new }) (bytes_at e id bytes PeerUnidirectional)
push_read x new side own id bytes code is receives s e due =
    let o = unidirectional_at e id in
    let given = given_there s x new e id bytes received.Push due.stands (of_own x.unidirectional new e own id bytes _ due.own_is receives) in
    subst (Reads s (Some code) (record x { unidirectional = new })) (sym (pushed (role_after (known_streams e.announced) o.role bytes) e id o given))
    (ap Some (is ∙ ap push_code (sym due.side_is)), stands_unidirectional (placed s x) e new id (with_bytes o (role_after (known_streams e.announced) o.role bytes)) due.stands (told_kept (known_streams e.announced) o bytes) (sets_there s x new e id bytes received.Push due.stands (of_own x.unidirectional new e own id bytes _ due.own_is receives)))

-- a stream of a session
sessioned : (read_as : Role × List ℕ) (e : EndpointHistory) (id : ℕ) (o : Unidirectional) (session : ℕ) → received.Session session ≡ received_by read_as
    → read_unidirectional e id o read_as ≡ (with_unidirectional e id (with_bytes o read_as), session_fault e.announced session)
sessioned (Untold front, bytes) e id o session h = absurd (cc)
sessioned (Control, bytes) e id o session h = absurd (cc)
sessioned (Encoder, bytes) e id o session h = absurd (cc)
sessioned (Decoder, bytes) e id o session h = absurd (cc)
sessioned (Session n, bytes) e id o session h =
    let same : n ≡ session = cc in
    ap (λ k. (with_unidirectional e id (with_bytes o (Session n, bytes)), session_fault e.announced k)) same
sessioned (Push n, bytes) e id o session h = absurd (cc)
sessioned (Ignored, bytes) e id o session h = absurd (cc)
sessioned (Other kind, bytes) e id o session h = absurd (cc)

pub session_read : (x : StreamsState) (new : Streams Unidirectional) (side : Side) (own : Announced) (id : ℕ) (bytes : List ℕ) (session : ℕ) (fault : Option ℕ) → fault ≡ session_fault own session
    → Receives (known_streams own) x.unidirectional new id bytes (received.Session session)
    → (s : EndpointState) (e : EndpointHistory) → IsDue s x e side own id → Reads s fault (record x { unidirectional = new }) (bytes_at e id bytes PeerUnidirectional)
session_read x new side own id bytes session fault is receives s e due =
    let o = unidirectional_at e id in
    let given = given_there s x new e id bytes (received.Session session) due.stands (of_own x.unidirectional new e own id bytes _ due.own_is receives) in
    subst (Reads s fault (record x { unidirectional = new })) (sym (sessioned (role_after (known_streams e.announced) o.role bytes) e id o session given)) (
      is ∙ ap (λ (a : Announced). session_fault a session) (sym due.own_is),
      stands_unidirectional (placed s x) e new id (with_bytes o (role_after (known_streams e.announced) o.role bytes)) due.stands (told_kept (known_streams e.announced) o bytes) (sets_there s x new e id bytes (received.Session session) due.stands (of_own x.unidirectional new e own id bytes _ due.own_is receives)),
    )

-- For which reader they are.
abbrev pub for_reader : Role → List ℕ → Received
for_reader Control rest = received.Control rest
for_reader Encoder rest = received.Encoder rest
for_reader Decoder rest = received.Decoder rest
for_reader _ rest = received.Nothing

told_by : (r : Role) (rest : List ℕ) (read_as : Role × List ℕ) → is_critical r ≡ true → for_reader r rest ≡ received_by read_as → read_as ≡ (r, rest)
told_by Control rest (Control, bytes) c h = cc
told_by Encoder rest (Encoder, bytes) c h = cc
told_by Decoder rest (Decoder, bytes) c h = cc
told_by Control rest (Untold front, bytes) c h = absurd (cc)
told_by Control rest (Encoder, bytes) c h = absurd (cc)
told_by Control rest (Decoder, bytes) c h = absurd (cc)
told_by Control rest (Session n, bytes) c h = absurd (cc)
told_by Control rest (Push n, bytes) c h = absurd (cc)
told_by Control rest (Ignored, bytes) c h = absurd (cc)
told_by Control rest (Other kind, bytes) c h = absurd (cc)
told_by Encoder rest (Untold front, bytes) c h = absurd (cc)
told_by Encoder rest (Control, bytes) c h = absurd (cc)
told_by Encoder rest (Decoder, bytes) c h = absurd (cc)
told_by Encoder rest (Session n, bytes) c h = absurd (cc)
told_by Encoder rest (Push n, bytes) c h = absurd (cc)
told_by Encoder rest (Ignored, bytes) c h = absurd (cc)
told_by Encoder rest (Other kind, bytes) c h = absurd (cc)
told_by Decoder rest (Untold front, bytes) c h = absurd (cc)
told_by Decoder rest (Control, bytes) c h = absurd (cc)
told_by Decoder rest (Encoder, bytes) c h = absurd (cc)
told_by Decoder rest (Session n, bytes) c h = absurd (cc)
told_by Decoder rest (Push n, bytes) c h = absurd (cc)
told_by Decoder rest (Ignored, bytes) c h = absurd (cc)
told_by Decoder rest (Other kind, bytes) c h = absurd (cc)
told_by (Untold front) rest read_as c h = absurd (cc)
told_by (Session n) rest read_as c h = absurd (cc)
told_by (Push n) rest read_as c h = absurd (cc)
told_by Ignored rest read_as c h = absurd (cc)
told_by (Other kind) rest read_as c h = absurd (cc)

critical_told : (r : Role) → is_critical r ≡ true → is_untold r ≡ false
critical_told (Untold front) c = absurd (cc)
critical_told Control c = refl
critical_told Encoder c = refl
critical_told Decoder c = refl
critical_told (Session n) c = refl
critical_told (Push n) c = refl
critical_told Ignored c = refl
critical_told (Other kind) c = refl

is_told : (r : Role) (s : EndpointState) (x : StreamsState) (new : Streams Unidirectional) (e : EndpointHistory) (id : ℕ) (bytes rest : List ℕ) → is_critical r ≡ true → StandsFor (placed s x) e
    → Receives (known_streams e.announced) x.unidirectional new id bytes (for_reader r rest) → IsTold x new e id bytes r rest
is_told r s x new e id bytes rest critical h receives =
    let after : role_after (known_streams e.announced) (unidirectional_at e id).role bytes ≡ (r, rest) = told_by r rest (role_after (known_streams e.announced) (unidirectional_at e id).role bytes) critical (given_there s x new e id bytes (for_reader r rest) h receives) in
    let front = subst (λ (o : Unidirectional). (t : Role) (l : List ℕ) → is_untold t ≡ false → role_after (known_streams e.announced) o.role bytes ≡ (t, l) → TellsFirst (known_streams e.announced) o.role bytes t l) (there s x e id h) receives.front in
    record { critical = critical; after = after; sets = sets_there s x new e id bytes (for_reader r rest) h receives; front = front r rest (critical_told r critical) after }

pub role_read : (r : Role) (x y : StreamsState) (new : Streams Unidirectional) (side : Side) (own : Announced) (id : ℕ) (bytes rest : List ℕ) (fault : Option ℕ) → is_critical r ≡ true
    → Receives (known_streams own) x.unidirectional new id bytes (for_reader r rest)
    → ((s : EndpointState) (e : EndpointHistory) → IsRead s (record x { unidirectional = new }) e side own id r → Reads s fault y (heard_as e id r rest))
    → (s : EndpointState) (e : EndpointHistory) → IsDue s x e side own id → Reads s fault y (bytes_at e id bytes PeerUnidirectional)
role_read r x y new side own id bytes rest fault critical receives reads s e due =
    let t = is_told r s x new e id bytes rest critical due.stands (of_own x.unidirectional new e own id bytes (for_reader r rest) due.own_is receives) in
    told_found s x y new e side id bytes r rest fault t (reads s _ (told_read s x new e side own id bytes r rest due.stands due.side_is due.own_is due.kind t))

pub role_stopped : (r : Role) (x y : StreamsState) (new : Streams Unidirectional) (side : Side) (own : Announced) (id : ℕ) (bytes rest : List ℕ) (left : List Arrival) → is_critical r ≡ true
    → Receives (known_streams own) x.unidirectional new id bytes (for_reader r rest)
    → ((s : EndpointState) (e : EndpointHistory) → IsRead s (record x { unidirectional = new }) e side own id r → Stops r s (record x { unidirectional = new }) y e id rest left)
    → (s : EndpointState) (e : EndpointHistory) → IsDue s x e side own id → StopsAt s y e (BytesCame id bytes ∷ []) left
role_stopped r x y new side own id bytes rest left critical receives stops s e due =
    let t = is_told r s x new e id bytes rest critical due.stands (of_own x.unidirectional new e own id bytes (for_reader r rest) due.own_is receives) in
    told_stopped s x y new e id bytes r rest left due.stands due.kind t (stops s _ (told_read s x new e side own id bytes r rest due.stands due.side_is due.own_is due.kind t))
