-- Frames of the peer's control stream, once its settings came.
use Rattle.std.proofs.Common.{◌≡◌, ℕ, true, false, List, [], ◌∷◌, ◌++◌, Option, Some, None, refl, ap, sym, subst, ◌∙◌}
use Rattle.std.specs.Prelude.{is_some}
use Rattle.h3_connection.specs.declared.setup.Announced.{Announced}
use Rattle.h3_proto.specs.declared.stream.Side.{Side}
use Rattle.h3_connection.specs.declared.arrival.Arrival.{Arrival}
use Rattle.h3_connection.specs.declared.arrival.Arrival.TheVariants.{BytesCame}
use Rattle.h3_connection.specs.Control.{read_control, read_held, taken_peer, if_learned, then_decoder}
use Rattle.h3_connection.specs.Delivering.{heard_as}
use Rattle.h3_connection.specs.Endpoint.{EndpointHistory, limit_of, is_second}
use Rattle.h3_connection.specs.KeptGoaways.{keeps_last, kept_found, kept_peer}
use Rattle.h3_connection.specs.KeptGoawayLaws.{reads_alike}
use Rattle.h3_connection.specs.PartReading.{ReadsOn, PeerReadsPart, held_as, after_frames, early_if}
use Rattle.h3_connection.specs.PeerReading.{Peer, PeerFound, with_unread, read_peer}
use Rattle.h3_connection.specs.State.{EndpointState, StandsFor}
use Rattle.h3_connection.specs.Unidirectional.Role.{Control}
use Rattle.h3_unidirectional.specs.Fronts.{IsPart, KeepsPart}
use Rattle.h3_streams.proofs.PlacedLaws.{stands_control}
use Rattle.h3_streams.specs.Placed.{StreamsState, placed, Reads}
use Rattle.h3_streams.specs.ReadingOn.{ReadsSome, StopsAt, IsRead, Stops, ReadsHeld, StopsHeld, left_arrivals}
use Rattle.h3_streams.specs.declared.left.Left.{Left}
use Rattle.h3_streams.proofs.EncoderReads.{first_found}
use Rattle.h3_streams.proofs.PeerAgain.{settings_stay}
use Rattle.h3_streams.proofs.Peers.{one_peer, told_by, told_peer}
use Rattle.h3_connection.specs.StrictConnectionLaws.{held_taken, known_missed, known_refused}
use Rattle.h3_connection.specs.StrictConnection.{kinds_of}
use Rattle.h3_frames.specs.declared.frame.kinds.FrameKinds.{FrameKinds}

-- the peer's bytes are held
held_read : (s : EndpointState) (x : StreamsState) (e : EndpointHistory) (side : Side) (own : Announced) (id : ℕ) (bytes : List ℕ) (p : Peer) → IsRead s x e side own id Control → p ≡ with_unread x.peer (x.peer.unread ++ bytes)
    → IsRead s (record x { control_on = Some id; peer = p }) (held_as e id (Control, bytes)) side own id Control
held_read s x e side own id bytes p r is =
    let h = r.stands in
    let q = with_unread e.peer (e.peer.unread ++ bytes) in
    let same : p ≡ kept_peer (keeps_last e.announced.choices) q = is ∙ ap (λ (o : Peer). with_unread o (o.unread ++ bytes)) h.peer in
    record {
      stands = subst (λ o. StandsFor (placed s (record x { control_on = Some id; peer = o })) (held_as e id (Control, bytes))) (sym same) (stands_control s x e id q h (told_peer s x e side own id Control refl r) (λ unknown. unknown));
      side_is = r.side_is;
      own_is = r.own_is;
      kind = r.kind;
      role_is = r.role_is;
      early = r.early;
    }

pub control_read : (x new : StreamsState) (side : Side) (own : Announced) (id : ℕ) (bytes : List ℕ) (p : Peer) (fault : Option ℕ) → false ≡ is_second x.control_on id → p ≡ with_unread x.peer (x.peer.unread ++ bytes)
    → ReadsHeld (record x { control_on = Some id; peer = p }) new side own id fault
    → (s : EndpointState) (e : EndpointHistory) → IsRead s x e side own id Control → Reads s fault new (heard_as e id Control bytes)
control_read x new side own id bytes p fault first is reads s e r =
    let here : is_second e.control_on id ≡ false = ap (λ o. is_second o id) (sym r.stands.control_on) ∙ sym first in
    let f = record e { control_on = Some id } in
    subst (Reads s fault new) (sym (first_found (read_control f bytes) e.control_on e id here)) (reads s (held_as e id (Control, bytes)) (held_read s x e side own id bytes p r is) refl)

pub control_held : (x new : StreamsState) (side : Side) (own : Announced) (id : ℕ) (bytes : List ℕ) (p : Peer) (left : List Arrival) → false ≡ is_second x.control_on id → p ≡ with_unread x.peer (x.peer.unread ++ bytes)
    → StopsHeld (record x { control_on = Some id; peer = p }) new side own id left
    → (s : EndpointState) (e : EndpointHistory) → IsRead s x e side own id Control → Stops Control s x new e id bytes left
control_held x new side own id bytes p left first is stops s e r =
    Stops.Held (ap (λ o. is_second o id) (sym r.stands.control_on) ∙ sym first) (stops s (held_as e id (Control, bytes)) (held_read s x e side own id bytes p r is) refl)

-- Further settings do nothing.
known_after : (o q : Option (List (ℕ × ℕ))) (e : EndpointHistory) (fault : Option ℕ) → is_some o ≡ true → then_decoder o q (if_learned o q e) fault ≡ (e, fault)
known_after None q e fault h = absurd (cc)
known_after (Some pairs) None e None h = refl
known_after (Some pairs) None e (Some code) h = refl
known_after (Some pairs) (Some others) e None h = refl
known_after (Some pairs) (Some others) e (Some code) h = refl

known_frames : (o q : Option (List (ℕ × ℕ))) (e : EndpointHistory) → is_some o ≡ true → if_learned o q e ≡ e
known_frames None q e h = absurd (cc)
known_frames (Some pairs) None e h = refl
known_frames (Some pairs) (Some others) e h = refl

known_early : (o q : Option (List (ℕ × ℕ))) (on : Option ℕ) → is_some o ≡ true → early_if o q on ≡ []
known_early None q on h = absurd (cc)
known_early (Some pairs) None on h = refl
known_early (Some pairs) (Some others) on h = refl

-- the control stream is read on
pub stands_peer : (s : EndpointState) (x : StreamsState) (e : EndpointHistory) (id : ℕ) (p q : Peer) → StandsFor (placed s x) e → e.control_on ≡ Some id → p ≡ kept_peer (keeps_last e.announced.choices) q → (q.settings ≡ None → e.peer.settings ≡ None)
    → StandsFor (placed s (record x { peer = p })) (record e { peer = q })
stands_peer s x e id p q h on kept known =
    let same = kept_peer (keeps_last e.announced.choices) q in
    subst (λ o. StandsFor (placed s (record x { peer = o })) (record e { peer = q })) (sym kept)
    (subst (λ o. StandsFor (placed s (record x { control_on = o; peer = same })) (record e { peer = q })) (sym (h.control_on ∙ on))
    (subst (λ o. StandsFor (placed s (record x { control_on = Some id; peer = same })) (record e { control_on = o; peer = q })) (sym on) (stands_control s x e id q h (told_by e.side e.unidirectional e.control_on id on h.reached.told_control) known)))

-- What the reading of the stored peer finds is kept of what that of the endpoint's finds.
pub record IsFound (e : EndpointHistory) (p : Peer) (fault : Option ℕ) : Type 0 where
  pub after : Peer
  pub found : read_peer (kinds_of e.announced) (limit_of e) e.side e.peer ≡ (after, fault)
  pub kept : p ≡ kept_peer (keeps_last e.announced.choices) after

pub peer_found : (s : EndpointState) (x : StreamsState) (e : EndpointHistory) (side : Side) (own : Announced) (p : Peer) (fault : Option ℕ) → StandsFor (placed s x) e → e.side ≡ side → e.announced ≡ own
    → kept_found (keeps_last own.choices) (read_peer (kinds_of own) own.choices.unfinished_limit side x.peer) ≡ (p, fault) → IsFound e p fault
peer_found s x e side own p fault h same are is =
    let last = keeps_last e.announced.choices in
    let found : PeerFound = read_peer (kinds_of e.announced) (limit_of e) e.side e.peer in
    let here : kept_found last found ≡ (p, fault) =
    sym (reads_alike (kinds_of e.announced) last (limit_of e) e.side e.peer) ∙ ap (λ (o : Peer). kept_found last (read_peer (kinds_of e.announced) (limit_of e) e.side o)) (sym h.peer) ∙ ap (λ t. kept_found last (read_peer (kinds_of e.announced) (limit_of e) t x.peer)) same
    ∙ ap (λ (a : Announced). kept_found (keeps_last a.choices) (read_peer (kinds_of a) a.choices.unfinished_limit side x.peer)) are ∙ is in
    record { after = found.0; found = ap (λ f. (let y : PeerFound = (found.0, f) in y)) (ap (λ (y : PeerFound). y.1) here); kept = sym (ap (λ (y : PeerFound). y.0) here) }

pub peer_part : (s : EndpointState) (x : StreamsState) (e : EndpointHistory) (side : Side) (own : Announced) (p : Peer) → StandsFor (placed s x) e → e.side ≡ side → e.announced ≡ own
    → KeepsPart (kinds_of own) (keeps_last own.choices) own.choices.unfinished_limit side x.peer p → IsPart (kinds_of e.announced) (keeps_last e.announced.choices) (limit_of e) e.side e.peer p
peer_part s x e side own p h same are part =
    let here = subst (λ t. KeepsPart (kinds_of e.announced) (keeps_last e.announced.choices) (limit_of e) t x.peer p) (sym same) (subst (λ (a : Announced). KeepsPart (kinds_of a) (keeps_last a.choices) a.choices.unfinished_limit side x.peer p) (sym are) part) in
    here.each e.peer h.peer

pub settings_part : (kinds : FrameKinds) (limit : ℕ) (side : Side) (old new : Peer) → PeerReadsPart kinds limit side old new → new.settings ≡ None → old.settings ≡ None
settings_part kinds limit side old new part none =
    settings_stay kinds limit side (with_unread old part.front) (ap (λ (found : PeerFound). found.0.settings) part.reads ∙ sym (ap (λ (p : Peer). p.settings) part.left) ∙ none)

some_settings : (o : Option (List (ℕ × ℕ))) → is_some o ≡ true → (pairs : List (ℕ × ℕ)) × (o ≡ Some pairs)
some_settings None h = absurd (cc)
some_settings (Some pairs) h = (pairs, refl)

known_peer : (s : EndpointState) (x : StreamsState) (e : EndpointHistory) → StandsFor (placed s x) e → true ≡ is_some x.peer.settings → is_some e.peer.settings ≡ true
known_peer s x e h known = ap (λ (p : Peer). is_some p.settings) (sym h.peer) ∙ sym known

pub frames_read : (x : StreamsState) (side : Side) (own : Announced) (id : ℕ) (p : Peer) (fault : Option ℕ) → true ≡ is_some x.peer.settings
    → kept_found (keeps_last own.choices) (read_peer (kinds_of own) own.choices.unfinished_limit side x.peer) ≡ (p, fault) → ReadsHeld x (record x { peer = p }) side own id fault
frames_read x side own id p fault known read s e r on =
    let h = r.stands in
    let f = peer_found s x e side own p fault h r.side_is r.own_is read in
    let q = f.after in
    let stays : q.settings ≡ None → e.peer.settings ≡ None = λ none. settings_stay (kinds_of e.announced) (limit_of e) e.side e.peer (ap (λ (y : PeerFound). y.0.settings) f.found ∙ none) in
    let pairs = some_settings e.peer.settings (known_peer s x e h known) in
    let held : read_held e ≡ taken_peer e (read_peer (kinds_of e.announced) (limit_of e) e.side e.peer) = held_taken e (known_missed e pairs.0 pairs.1) (known_refused e e.peer.settings _ pairs.0 pairs.1) in
    subst (Reads s fault (record x { peer = p })) (sym (held ∙ ap (taken_peer e) f.found ∙ known_after e.peer.settings q.settings (record e { peer = q }) fault (known_peer s x e h known)))
    (refl, stands_peer s x e id p q h on f.kept stays)

pub frames_stopped : (x : StreamsState) (side : Side) (own : Announced) (id : ℕ) (p : Peer) (left : Left) → true ≡ is_some x.peer.settings → KeepsPart (kinds_of own) (keeps_last own.choices) own.choices.unfinished_limit side x.peer p
    → left ≡ record { id = id; bytes = []; early = None } → StopsHeld x (record x { peer = p }) side own id (left_arrivals left)
frames_stopped x side own id p left known part is s e r on =
    let h = r.stands in
    let here = peer_part s x e side own p h r.side_is r.own_is part in
    let q = here.after in
    let knows = known_peer s x e h known in
    let pairs = some_settings e.peer.settings knows in
    let stops : StopsAt s (record x { peer = p }) e (BytesCame id [] ∷ []) (BytesCame id [] ∷ []) = record {
      after = record e { peer = q };
      reads = λ more. subst (λ g. ReadsSome e (BytesCame id [] ∷ more) g (BytesCame id [] ∷ more)) (known_frames e.peer.settings q.settings (record e { peer = q }) knows)
          (subst (λ l. ReadsSome e (BytesCame id [] ∷ more) (after_frames e q) (BytesCame id [] ∷ l ++ more)) (known_early e.peer.settings q.settings e.decoder_on knows)
          (ReadsSome.Steps (ReadsOn.ReadsFrames on (record { first = known_missed e pairs.0 pairs.1; taken = known_refused e e.peer.settings _ pairs.0 pairs.1 }) here.part) ReadsSome.Stays));
      stands = stands_peer s x e id p q h on here.kept (settings_part (kinds_of e.announced) (limit_of e) e.side e.peer q here.part);
      kinds = one_peer e.side id [] r.kind;
    } in
    subst (StopsAt s (record x { peer = p }) e (BytesCame id [] ∷ [])) (sym (ap left_arrivals is)) stops
