-- Frames of the peer's control stream before its settings came: the table that they allow is used at once, and what the peer's
-- decoder said before is read then.
use Rattle.std.proofs.Common.{◌≡◌, ℕ, Bool, true, false, ◌&&◌, if◌then◌else◌, min, List, [], ◌∷◌, ◌++◌, append-nil, Option, Some, None, refl, ap, sym, subst, ◌∙◌}
use Rattle.std.specs.Prelude.{IfSome, All, is_none}
use Rattle.h3_field.specs.Instruction.{encoder_bytes}
use Rattle.h3_field.specs.Instruction.EncoderInstruction.{SetCapacity}
use Rattle.h3_connection.specs.declared.setup.Announced.{Announced}
use Rattle.h3_proto.specs.declared.stream.Side.{Side}
use Rattle.h3_qpack.specs.EncoderHistory.{using_table}
use Rattle.h3_qpack.specs.EncoderState.{EncoderState, encoder_state}
use Rattle.h3_connection.specs.declared.arrival.Arrival.{Arrival}
use Rattle.h3_connection.specs.declared.arrival.Arrival.TheVariants.{BytesCame}
use Rattle.h3_connection.specs.Codes.{settings_error}
use Rattle.h3_connection.specs.Control.{are_refused, if_learned, is_table_usable, lacks_settings, read_held, settings_alone, taken_peer, then_decoder, with_table}
use Rattle.h3_connection.specs.KeptGoawayLaws.{peer_twice, reads_alike}
use Rattle.h3_connection.specs.StrictConnection.{is_strict, kinds_of, settings_refused}
use Rattle.h3_connection.specs.StrictConnectionLaws.{held_refused, held_taken, still_first}
use Rattle.h3_frames.specs.FirstFrames.{begins_other}
use Rattle.h3_connection.specs.Delivering.{unidirectional_at}
use Rattle.h3_connection.specs.Endpoint.{EndpointHistory, limit_of, kind_of}
use Rattle.h3_connection.specs.Endpoint.Kind.{PeerUnidirectional}
use Rattle.h3_connection.specs.KeptGoaways.{keeps_last, kept_found, kept_peer}
use Rattle.h3_connection.specs.Listeners.{Encoding}
use Rattle.h3_connection.specs.PartReading.{MayRead, ReadsOn, PeerReadsPart, early_if, early_arrival}
use Rattle.h3_connection.specs.PeerReading.{Peer, PeerFound, with_unread, read_peer}
use Rattle.h3_connection.specs.State.{EndpointState, StandsFor}
use Rattle.h3_connection.specs.Unidirectional.Role.{Control}
use Rattle.h3_unidirectional.specs.Fronts.{KeepsPart, found_first}
use Rattle.h3_unidirectional.specs.Learned.{capacity_of, blocked_of, capacity_bytes}
use Rattle.h3_streams.proofs.PlacedLaws.{stands_table}
use Rattle.h3_streams.specs.Placed.{StreamsState, placed, Reads}
use Rattle.h3_streams.specs.ReadingOn.{ReadsSome, IsRead, ReadsHeld, StopsHeld, IsPeers, left_arrivals}
use Rattle.h3_streams.specs.Stopping.{learned_by, allowed_by, settings_taken, Learns, early_of, ReadsEarly, StopsEarly}
use Rattle.h3_streams.specs.declared.left.Left.{Left}
use Rattle.h3_streams.proofs.Again.{touched, nothing_more, touched_stands}
use Rattle.h3_streams.proofs.Frames.{stands_peer, peer_found, peer_part}
use Rattle.h3_streams.proofs.PeerAgain.{read_again}
use Rattle.h3_streams.proofs.Peers.{with_early}
use Rattle.h3_frames.specs.declared.frame.kinds.FrameKinds.{FrameKinds}

-- what settings change
used_is : (b : Bool) (e : EndpointHistory) (capacity blocked : ℕ) → (if b then with_table e capacity blocked else e) ≡ record e { encoder = (if b then with_table e capacity blocked else e).encoder; own = (if b then with_table e capacity blocked else e).own }
used_is true e capacity blocked = refl
used_is false e capacity blocked = refl

learned_is : (q : Option (List (ℕ × ℕ))) (e : EndpointHistory) → if_learned None q e ≡ record e { encoder = (if_learned None q e).encoder; own = (if_learned None q e).own }
learned_is None e = refl
learned_is (Some pairs) e = used_is (is_table_usable e.encoder.most_capacity (capacity_of pairs) (blocked_of pairs)) e (capacity_of pairs) (blocked_of pairs)

some_not_none : (o : Option (List (ℕ × ℕ))) (pairs : List (ℕ × ℕ)) → o ≡ Some pairs → o ≡ None → ⊥
some_not_none None pairs e h = cc
some_not_none (Some others) pairs e h = cc

-- nothing is used
unused : (s : EndpointState) (x : StreamsState) (e : EndpointHistory) (n : Encoding) (out : List ℕ) → StandsFor (placed s x) e → n.encoder ≡ encoder_state e.encoder → n.unread ≡ x.encoding.unread → out ≡ x.own.encoder ++ []
    → StandsFor (placed s (record x { encoding = n; own = record x.own { encoder = out } })) e
unused s x e n out h state unread wrote =
    let encoding : x.encoding ≡ n = ap (λ t. record x.encoding { encoder = t }) (h.encoder ∙ sym state) ∙ ap (λ l. record n { unread = l }) (sym unread) in
    let own : x.own.encoder ≡ out = sym (wrote ∙ append-nil x.own.encoder) in
    subst (λ l. StandsFor (placed s (record x { encoding = n; own = record x.own { encoder = l } })) e) own (subst (λ q. StandsFor (placed s (record x { encoding = q })) e) encoding h)

used_by : (b : Bool) (s : EndpointState) (x : StreamsState) (e : EndpointHistory) (n : Encoding) (out : List ℕ) (capacity blocked : ℕ) → StandsFor (placed s x) e → (e.peer.settings ≡ None → ⊥)
    → n.encoder ≡ encoder_state (if b then using_table e.encoder capacity blocked else e.encoder) → n.unread ≡ x.encoding.unread
    → out ≡ x.own.encoder ++ capacity_bytes (if b then Some (min e.encoder.most_capacity capacity) else None)
    → StandsFor (placed s (record x { encoding = n; own = record x.own { encoder = out } })) (if b then with_table e capacity blocked else e)
used_by true s x e n out capacity blocked h came state unread wrote =
    let t = using_table e.encoder capacity blocked in
    let used = min e.encoder.most_capacity capacity in
    subst (λ l. StandsFor (placed s (record x { encoding = n; own = record x.own { encoder = l } })) (with_table e capacity blocked))
    (ap (λ l. x.own.encoder ++ l) (append-nil (encoder_bytes (SetCapacity used))) ∙ sym wrote)
    (stands_table s x e n t (SetCapacity used ∷ []) h state unread (λ unknown. absurd (came unknown)))
used_by false s x e n out capacity blocked h came state unread wrote = unused s x e n out h state unread wrote

learned_stands : (q : Option (List (ℕ × ℕ))) (s : EndpointState) (x : StreamsState) (e : EndpointHistory) (n : Encoding) (out : List ℕ) → StandsFor (placed s x) e → e.peer.settings ≡ q
    → n.encoder ≡ encoder_state (learned_by e.encoder q) → n.unread ≡ x.encoding.unread → out ≡ x.own.encoder ++ capacity_bytes (allowed_by e.encoder.most_capacity q)
    → StandsFor (placed s (record x { encoding = n; own = record x.own { encoder = out } })) (if_learned None q e)
learned_stands None s x e n out h is state unread wrote = unused s x e n out h state unread wrote
learned_stands (Some pairs) s x e n out h is state unread wrote =
    used_by (is_table_usable e.encoder.most_capacity (capacity_of pairs) (blocked_of pairs)) s x e n out (capacity_of pairs) (blocked_of pairs) h (λ unknown. some_not_none e.peer.settings pairs is unknown) state unread wrote

-- the endpoint after the frames
first_stands : (s : EndpointState) (x : StreamsState) (e : EndpointHistory) (id : ℕ) (p q : Peer) (n : Encoding) (out : List ℕ) → StandsFor (placed s x) e → e.control_on ≡ Some id → x.peer.settings ≡ None
    → p ≡ kept_peer (keeps_last e.announced.choices) q → Learns x.encoding n x.own.encoder out p.settings
    → StandsFor (placed s (record x { peer = p; encoding = n; own = record x.own { encoder = out } })) (if_learned None q.settings (record e { peer = q }))
first_stands s x e id p q n out h on unknown kept learns =
    let before : e.peer.settings ≡ None = ap (λ (o : Peer). o.settings) (sym h.peer) ∙ unknown in
    let l : Learns x.encoding n x.own.encoder out q.settings = subst (λ (o : Peer). Learns x.encoding n x.own.encoder out o.settings) kept learns in
    learned_stands q.settings s (record x { peer = p }) (record e { peer = q }) n out (stands_peer s x e id p q h on kept (λ none. before)) refl (l.encoder e.encoder h.encoder) l.unread
    (subst (λ most. out ≡ x.own.encoder ++ capacity_bytes (allowed_by most q.settings)) (ap (λ (t : EncoderState). t.most_capacity) h.encoder) l.written)

unknown_before : (s : EndpointState) (x : StreamsState) (e : EndpointHistory) → StandsFor (placed s x) e → x.peer.settings ≡ None → e.peer.settings ≡ None
unknown_before s x e h unknown = ap (λ (q : Peer). q.settings) (sym h.peer) ∙ unknown

then_fault : (o q : Option (List (ℕ × ℕ))) (e : EndpointHistory) (code : ℕ) → then_decoder o q e (Some code) ≡ (e, Some code)
then_fault None None e code = refl
then_fault None (Some pairs) e code = refl
then_fault (Some pairs) None e code = refl
then_fault (Some pairs) (Some others) e code = refl

and_true : (b : Bool) → (b && true) ≡ b
and_true true = refl
and_true false = refl

-- what is kept of a peer is kept of it with other settings
kept_alone : (last : Bool) (p : Peer) (o : Option (List (ℕ × ℕ))) → settings_alone (kept_peer last p) o ≡ kept_peer last (settings_alone p o)
kept_alone true p o = refl
kept_alone false p o = refl

-- which settings came, by what is stored
same_settings : (s : EndpointState) (x : StreamsState) (e : EndpointHistory) (side : Side) (own : Announced) → StandsFor (placed s x) e → e.side ≡ side → e.announced ≡ own
    → (read_peer (kinds_of e.announced) (limit_of e) e.side e.peer).0.settings ≡ (read_peer (kinds_of own) own.choices.unfinished_limit side x.peer).0.settings
same_settings s x e side own h same are =
    ap (λ (y : PeerFound). y.0.settings)
    (sym (reads_alike (kinds_of e.announced) (keeps_last e.announced.choices) (limit_of e) e.side e.peer)
    ∙ ap (λ (o : Peer). kept_found (keeps_last e.announced.choices) (read_peer (kinds_of e.announced) (limit_of e) e.side o)) (sym h.peer)
    ∙ ap (λ t. kept_found (keeps_last e.announced.choices) (read_peer (kinds_of e.announced) (limit_of e) t x.peer)) same
    ∙ ap (λ (a : Announced). kept_found (keeps_last e.announced.choices) (read_peer (kinds_of a) a.choices.unfinished_limit side x.peer)) are)

-- whether they are refused
refused_as : (e : EndpointHistory) (side : Side) (own : Announced) (o q : Option (List (ℕ × ℕ))) → e.side ≡ side → e.announced ≡ own → o ≡ None → are_refused e o q ≡ settings_refused side own q
refused_as e side own o q same are none =
    ap (λ o. are_refused e o q) none ∙ ap (λ t. settings_refused t e.announced q) same ∙ ap (λ a. settings_refused side a q) are

-- another frame than the settings comes first
missing_as : (s : EndpointState) (x : StreamsState) (e : EndpointHistory) (own : Announced) (b : Bool) → StandsFor (placed s x) e → e.announced ≡ own → x.peer.settings ≡ None → b ≡ (is_strict own && begins_other x.peer.unread) → lacks_settings e ≡ b
missing_as s x e own b h are unknown is =
    let unread : x.peer.unread ≡ e.peer.unread = ap (λ (p : Peer). p.unread) h.peer in
    ap (λ o. (is_strict e.announced && is_none o) && begins_other e.peer.unread) (unknown_before s x e h unknown)
    ∙ ap (λ b. b && begins_other e.peer.unread) (and_true (is_strict e.announced))
    ∙ ap (λ a. is_strict a && begins_other e.peer.unread) are
    ∙ ap (λ l. is_strict own && begins_other l) (sym unread)
    ∙ sym is

-- what is found where none does, and the settings are taken
taken_found : (s : EndpointState) (x : StreamsState) (e : EndpointHistory) (side : Side) (own : Announced) (id : ℕ) → IsRead s x e side own id Control → x.peer.settings ≡ None
    → false ≡ (is_strict own && begins_other x.peer.unread) → settings_refused side own (read_peer (kinds_of own) own.choices.unfinished_limit side x.peer).0.settings ≡ false
    → read_held e ≡ taken_peer e (read_peer (kinds_of e.announced) (limit_of e) e.side e.peer)
taken_found s x e side own id r unknown first good =
    held_taken e (missing_as s x e own false r.stands r.own_is unknown first)
    (refused_as e side own e.peer.settings _ r.side_is r.own_is (unknown_before s x e r.stands unknown)
    ∙ ap (settings_refused side own) (same_settings s x e side own r.stands r.side_is r.own_is) ∙ good)

-- a fault
taken_fault : (x : StreamsState) (side : Side) (own : Announced) (id : ℕ) (p : Peer) (n : Encoding) (out : List ℕ) (code : ℕ) → x.peer.settings ≡ None → false ≡ (is_strict own && begins_other x.peer.unread)
    → settings_refused side own (read_peer (kinds_of own) own.choices.unfinished_limit side x.peer).0.settings ≡ false
    → kept_found (keeps_last own.choices) (read_peer (kinds_of own) own.choices.unfinished_limit side x.peer) ≡ (p, Some code) → Learns x.encoding n x.own.encoder out p.settings
    → ReadsHeld x (record x { peer = p; encoding = n; own = record x.own { encoder = out } }) side own id (Some code)
taken_fault x side own id p n out code unknown first good read l s e r on =
    let h = r.stands in
    let is = peer_found s x e side own p (Some code) h r.side_is r.own_is read in
    let q = is.after in
    let y = record x { peer = p; encoding = n; own = record x.own { encoder = out } } in
    let f = record e { peer = q } in
    subst (Reads s (Some code) y)
    (sym (taken_found s x e side own id r unknown first good ∙ ap (taken_peer e) is.found ∙ then_fault e.peer.settings q.settings (if_learned e.peer.settings q.settings f) code ∙ ap (λ o. (if_learned o q.settings f, Some code)) (unknown_before s x e h unknown)))
    (refl, first_stands s x e id p q n out h on unknown is.kept l)

-- settings that are refused
refused_fault : (x : StreamsState) (side : Side) (own : Announced) (id : ℕ) (p : Peer) (n : Encoding) (out : List ℕ) (code : ℕ) → x.peer.settings ≡ None → false ≡ (is_strict own && begins_other x.peer.unread)
    → settings_refused side own (read_peer (kinds_of own) own.choices.unfinished_limit side x.peer).0.settings ≡ true
    → kept_found (keeps_last own.choices) (settings_alone x.peer (read_peer (kinds_of own) own.choices.unfinished_limit side x.peer).0.settings, Some settings_error) ≡ (p, Some code) → Learns x.encoding n x.own.encoder out None
    → ReadsHeld x (record x { peer = p; encoding = n; own = record x.own { encoder = out } }) side own id (Some code)
refused_fault x side own id p n out code unknown first bad read l s e r on =
    let h = r.stands in
    let before = unknown_before s x e h unknown in
    let last = keeps_last e.announced.choices in
    let o = (read_peer (kinds_of own) own.choices.unfinished_limit side x.peer).0.settings in
    let there = (read_peer (kinds_of e.announced) (limit_of e) e.side e.peer).0.settings in
    let came : there ≡ o = same_settings s x e side own h r.side_is r.own_is in
    let refused : are_refused e e.peer.settings there ≡ true = refused_as e side own e.peer.settings there r.side_is r.own_is before ∙ ap (settings_refused side own) came ∙ bad in
    let q = settings_alone e.peer there in
    let kept : p ≡ kept_peer last q =
    sym (ap (λ (y : PeerFound). y.0) read) ∙ ap (λ (a : Announced). kept_peer (keeps_last a.choices) (settings_alone x.peer o)) (sym r.own_is)
    ∙ ap (λ (y : Peer). kept_peer last (settings_alone y o)) h.peer ∙ ap (λ y. kept_peer last y) (kept_alone last e.peer o) ∙ peer_twice last (settings_alone e.peer o) ∙ ap (λ y. kept_peer last (settings_alone e.peer y)) (sym came) in
    let g = record e { peer = q } in
    subst (Reads s (Some code) (record x { peer = p; encoding = n; own = record x.own { encoder = out } }))
    (sym (held_refused e (missing_as s x e own false h r.own_is unknown first) refused)) (
      sym (ap (λ (y : PeerFound). y.1) read),
      unused s (record x { peer = p }) g n out (stands_peer s x e id p q h on kept (λ none. before)) (l.encoder e.encoder h.encoder) l.unread l.written,
    )

pub first_fault : (x : StreamsState) (side : Side) (own : Announced) (id : ℕ) (p : Peer) (n : Encoding) (out : List ℕ) (code : ℕ) → x.peer.settings ≡ None → false ≡ (is_strict own && begins_other x.peer.unread)
    → kept_found (keeps_last own.choices) (found_first side own x.peer (read_peer (kinds_of own) own.choices.unfinished_limit side x.peer)) ≡ (p, Some code) → Learns x.encoding n x.own.encoder out (settings_taken side own p.settings)
    → ReadsHeld x (record x { peer = p; encoding = n; own = record x.own { encoder = out } }) side own id (Some code)
first_fault x side own id p n out code unknown first read l = by_refusal (settings_refused side own o) refl
  where
    found : PeerFound
    found = read_peer (kinds_of own) own.choices.unfinished_limit side x.peer

    o : Option (List (ℕ × ℕ))
    o = found.0.settings

    found_by : Bool → PeerFound
    found_by b = if b then (settings_alone x.peer o, Some settings_error) else found

    taken_by : Bool → Option (List (ℕ × ℕ))
    taken_by b = if b then None else p.settings

    by_refusal : (b : Bool) → settings_refused side own o ≡ b → ReadsHeld x (record x { peer = p; encoding = n; own = record x.own { encoder = out } }) side own id (Some code)
    by_refusal true bad =
        let here = ap (λ b. kept_found (keeps_last own.choices) (found_by b)) (sym bad) ∙ read in
        let same : p.settings ≡ o = sym (ap (λ (y : PeerFound). y.0.settings) here) in
        refused_fault x side own id p n out code unknown first bad here (subst (Learns x.encoding n x.own.encoder out) (ap taken_by (ap (settings_refused side own) same ∙ bad)) l)
    by_refusal false good =
        let here = ap (λ b. kept_found (keeps_last own.choices) (found_by b)) (sym good) ∙ read in
        let same : p.settings ≡ o = sym (ap (λ (y : PeerFound). y.0.settings) here) in
        taken_fault x side own id p n out code unknown first good here (subst (Learns x.encoding n x.own.encoder out) (ap taken_by (ap (settings_refused side own) same ∙ good)) l)

-- no fault: no settings were refused
none_refused : (side : Side) (own : Announced) (old p : Peer) (found : PeerFound) → kept_found (keeps_last own.choices) (found_first side own old found) ≡ (p, None)
    → (settings_refused side own found.0.settings ≡ false) × (kept_found (keeps_last own.choices) found ≡ (p, None))
none_refused side own old p found read = by_refusal (settings_refused side own found.0.settings) refl
  where
    found_by : Bool → PeerFound
    found_by b = if b then (settings_alone old found.0.settings, Some settings_error) else found

    by_refusal : (b : Bool) → settings_refused side own found.0.settings ≡ b → (settings_refused side own found.0.settings ≡ false) × (kept_found (keeps_last own.choices) found ≡ (p, None))
    by_refusal true bad = let wrong : Some settings_error ≡ None = ap (λ (y : PeerFound). y.1) (ap (λ b. kept_found (keeps_last own.choices) (found_by b)) (sym bad) ∙ read) in absurd (cc)
    by_refusal false good = (good, ap (λ b. kept_found (keeps_last own.choices) (found_by b)) (sym good) ∙ read)

-- so those that came are used
learns_all : (side : Side) (own : Announced) (x : StreamsState) (n : Encoding) (out : List ℕ) (p : Peer) → settings_refused side own p.settings ≡ false → Learns x.encoding n x.own.encoder out (settings_taken side own p.settings)
    → Learns x.encoding n x.own.encoder out p.settings
learns_all side own x n out p good l = subst (Learns x.encoding n x.own.encoder out) (ap (λ b. if b then None else p.settings) good) l

taken_kept : (side : Side) (own : Announced) (p : Peer) (found : PeerFound) → settings_refused side own found.0.settings ≡ false → kept_found (keeps_last own.choices) found ≡ (p, None) → settings_refused side own p.settings ≡ false
taken_kept side own p found good read = ap (settings_refused side own) (sym (ap (λ (y : PeerFound). y.0.settings) read)) ∙ good

-- then what the decoder said is read
pub first_read : (x new : StreamsState) (side : Side) (own : Announced) (id : ℕ) (p : Peer) (n : Encoding) (out : List ℕ) (fault : Option ℕ) → x.peer.settings ≡ None → false ≡ (is_strict own && begins_other x.peer.unread)
    → kept_found (keeps_last own.choices) (found_first side own x.peer (read_peer (kinds_of own) own.choices.unfinished_limit side x.peer)) ≡ (p, None) → Learns x.encoding n x.own.encoder out (settings_taken side own p.settings)
    → ReadsEarly own (record x { peer = p; encoding = n; own = record x.own { encoder = out } }) new fault → ReadsHeld x new side own id fault
first_read x new side own id p n out fault unknown first found learns early s e r on =
    let h = r.stands in
    let good = none_refused side own x.peer p (read_peer (kinds_of own) own.choices.unfinished_limit side x.peer) found in
    let l = learns_all side own x n out p (taken_kept side own p (read_peer (kinds_of own) own.choices.unfinished_limit side x.peer) good.0 good.1) learns in
    let is = peer_found s x e side own p None h r.side_is r.own_is good.1 in
    let q = is.after in
    let f = record e { peer = q } in
    let g = if_learned None q.settings f in
    let peer : g.peer ≡ q = ap (λ (o : EndpointHistory). o.peer) (learned_is q.settings f) in
    let there = early s g (first_stands s x e id p q n out h on unknown is.kept l) (ap (λ (o : EndpointHistory). o.announced) (learned_is q.settings f) ∙ r.own_is) in
    subst (Reads s fault new)
    (sym (taken_found s x e side own id r unknown first good.0 ∙ ap (taken_peer e) is.found ∙ ap (λ o. then_decoder o q.settings (if_learned o q.settings f) None) (unknown_before s x e h unknown)))
    (subst (λ (o : Peer). Reads s fault new (then_decoder None o.settings g None)) peer there)

early_left : (q : Option (List (ℕ × ℕ))) (on : Option ℕ) → early_arrival (early_of q on) ≡ early_if None q on
early_left None on = refl
early_left (Some pairs) None = refl
early_left (Some pairs) (Some d) = refl

early_peer : (side : Side) (q : Option (List (ℕ × ℕ))) (on : Option ℕ) → IfSome on (λ d. kind_of side d ≡ PeerUnidirectional) → IfSome (early_of q on) (λ d. kind_of side d ≡ PeerUnidirectional)
early_peer side None on h = tt
early_peer side (Some pairs) on h = h

frames_on : (e : EndpointHistory) (id : ℕ) (p : Peer) → e.peer.settings ≡ None → e.control_on ≡ Some id → MayRead e p → PeerReadsPart (kinds_of e.announced) (limit_of e) e.side e.peer p
    → (more : List Arrival) → ReadsOn e (BytesCame id [] ∷ more) (if_learned None p.settings (record e { peer = p })) (BytesCame id [] ∷ early_if None p.settings e.decoder_on ++ more)
frames_on e id p unknown on may part more =
    subst (λ o. ReadsOn e (BytesCame id [] ∷ more) (if_learned o p.settings (record e { peer = p })) (BytesCame id [] ∷ early_if o p.settings e.decoder_on ++ more)) unknown (ReadsOn.ReadsFrames on may part)

-- the reading of the frames was refused memory
pub first_stopped : (x : StreamsState) (side : Side) (own : Announced) (id : ℕ) (p : Peer) (n : Encoding) (out : List ℕ) (left : Left) → x.peer.settings ≡ None → false ≡ (is_strict own && begins_other x.peer.unread)
    → KeepsPart (kinds_of own) (keeps_last own.choices) own.choices.unfinished_limit side x.peer p → settings_refused side own p.settings ≡ false → Learns x.encoding n x.own.encoder out (settings_taken side own p.settings) → left ≡ record { id = id; bytes = []; early = early_of p.settings x.decoder_on }
    → StopsHeld x (record x { peer = p; encoding = n; own = record x.own { encoder = out } }) side own id (left_arrivals left)
first_stopped x side own id p n out left unknown first part good learns is s e r on =
    let h = r.stands in
    let l = learns_all side own x n out p good learns in
    let here = peer_part s x e side own p h r.side_is r.own_is part in
    let q = here.after in
    let before = unknown_before s x e h unknown in
    let may : MayRead e q = record {
      first = missing_as s x e own false h r.own_is unknown first;
      taken = refused_as e side own e.peer.settings q.settings r.side_is r.own_is before ∙ ap (λ (y : Peer). settings_refused side own y.settings) (sym here.kept) ∙ good;
    } in
    let left_is : left ≡ record { id = id; bytes = []; early = early_of q.settings x.decoder_on } =
    is ∙ ap (λ (o : Peer). (let y : Left = record { id = id; bytes = []; early = early_of o.settings x.decoder_on } in y)) here.kept in
    let arrivals : BytesCame id [] ∷ early_if None q.settings e.decoder_on ≡ left_arrivals left =
    ap (λ o. BytesCame id [] ∷ early_if None q.settings o) (sym h.decoder_on) ∙ ap (λ a. BytesCame id [] ∷ a) (sym (early_left q.settings x.decoder_on)) ∙ sym (ap left_arrivals left_is) in
    let peers = subst (λ t. IfSome x.decoder_on (λ d. kind_of t d ≡ PeerUnidirectional)) (sym r.side_is) r.early in
    record {
      after = if_learned None q.settings (record e { peer = q });
      reads = λ more. subst (λ a. ReadsSome e (BytesCame id [] ∷ more) (if_learned None q.settings (record e { peer = q })) (a ++ more)) arrivals
          (ReadsSome.Steps (frames_on e id q before on may here.part more) ReadsSome.Stays);
      stands = first_stands s x e id p q n out h on unknown here.kept l;
      kinds = subst (λ a. All (IsPeers e.side) a) (sym (ap left_arrivals left_is)) (with_early e.side id [] (early_of q.settings x.decoder_on) r.kind (early_peer e.side q.settings x.decoder_on peers));
    }

-- all frames were read
whole_part : (kinds : FrameKinds) (limit : ℕ) (side : Side) (old new : Peer) → read_peer kinds limit side old ≡ (new, None) → PeerReadsPart kinds limit side old new
whole_part kinds limit side old new read =
    record { front = old.unread; rest = []; cut = sym (append-nil old.unread); read = new; reads = read; left = sym (ap (λ l. with_unread new l) (append-nil new.unread)) }

-- the reading of what the decoder said before was refused memory
pub early_stopped : (x new : StreamsState) (side : Side) (own : Announced) (id : ℕ) (p : Peer) (n : Encoding) (out : List ℕ) (left : List Arrival) → x.peer.settings ≡ None → false ≡ (is_strict own && begins_other x.peer.unread)
    → kept_found (keeps_last own.choices) (found_first side own x.peer (read_peer (kinds_of own) own.choices.unfinished_limit side x.peer)) ≡ (p, None) → Learns x.encoding n x.own.encoder out (settings_taken side own p.settings)
    → StopsEarly own (record x { peer = p; encoding = n; own = record x.own { encoder = out } }) new side left → StopsHeld x new side own id left
early_stopped x new side own id p n out left unknown first finds learns early s e r on =
    let h = r.stands in
    let before = unknown_before s x e h unknown in
    let good = none_refused side own x.peer p (read_peer (kinds_of own) own.choices.unfinished_limit side x.peer) finds in
    let l = learns_all side own x n out p (taken_kept side own p (read_peer (kinds_of own) own.choices.unfinished_limit side x.peer) good.0 good.1) learns in
    let found = peer_found s x e side own p None h r.side_is r.own_is good.1 in
    let due = missing_as s x e own false h r.own_is unknown first in
    let q = found.after in
    let f = record e { peer = q } in
    let g = if_learned None q.settings f in
    let is = learned_is q.settings f in
    let peer : g.peer ≡ q = ap (λ (o : EndpointHistory). o.peer) is in
    let side_is : g.side ≡ e.side = ap (λ (o : EndpointHistory). o.side) is in
    let limit_is : limit_of g ≡ limit_of e = ap limit_of is in
    let own_is : g.announced ≡ e.announced = ap (λ (o : EndpointHistory). o.announced) is in
    let still : lacks_settings g ≡ false = ap lacks_settings is ∙ still_first e q due before found.found in
    let may : MayRead e q = record {
      first = due;
      taken = refused_as e side own e.peer.settings q.settings r.side_is r.own_is before ∙ ap (settings_refused side own) (ap (λ (y : PeerFound). y.0.settings) (sym found.found) ∙ same_settings s x e side own h r.side_is r.own_is) ∙ good.0;
    } in
    let control : g.control_on ≡ Some id = ap (λ (o : EndpointHistory). o.control_on) is ∙ on in
    let decoder : g.decoder_on ≡ e.decoder_on = ap (λ (o : EndpointHistory). o.decoder_on) is in
    let role : (unidirectional_at g id).role ≡ Control = ap (λ (o : EndpointHistory). (unidirectional_at o id).role) is ∙ r.role_is in
    let kind : kind_of g.side id ≡ PeerUnidirectional = ap (λ t. kind_of t id) side_is ∙ r.kind in
    let again : read_peer (kinds_of e.announced) (limit_of e) e.side q ≡ (q, None) =
    ap (λ (o : PeerFound). read_peer (kinds_of e.announced) (limit_of e) e.side o.0) (sym found.found) ∙ read_again (kinds_of e.announced) (limit_of e) e.side e.peer (ap (λ (o : PeerFound). o.1) found.found) ∙ ap (λ (o : PeerFound). (o.0, None)) found.found in
    let done : read_peer (kinds_of g.announced) (limit_of g) g.side g.peer ≡ (g.peer, None) =
    ap (λ (a : Announced). read_peer (kinds_of a) (limit_of g) g.side g.peer) own_is ∙ ap (λ n. read_peer (kinds_of e.announced) n g.side g.peer) limit_is ∙ ap (λ t. read_peer (kinds_of e.announced) (limit_of e) t g.peer) side_is ∙ subst (λ o. read_peer (kinds_of e.announced) (limit_of e) e.side o ≡ (o, None)) (sym peer) again in
    let there = first_stands s x e id p q n out h on unknown found.kept l in
    let stops = early s (touched g id) (touched_stands s _ g id there role control) (own_is ∙ r.own_is) (side_is ∙ r.side_is) r.early in
    let arrivals : early_if None g.peer.settings g.decoder_on ≡ early_if None q.settings e.decoder_on = ap (λ (o : Peer). early_if None o.settings g.decoder_on) peer ∙ ap (λ o. early_if None q.settings o) decoder in
    record {
      after = stops.after;
      reads = λ more. ReadsSome.Steps (frames_on e id q before on may (whole_part (kinds_of e.announced) (limit_of e) e.side e.peer q found.found) more)
          (ReadsSome.Steps (ReadsOn.ReadsWhole (nothing_more g id kind role control still done)) (subst (λ a. ReadsSome (touched g id) (a ++ more) stops.after (left ++ more)) arrivals (stops.reads more)));
      stands = stops.stands;
      kinds = subst (λ t. All (IsPeers t) left) side_is stops.kinds;
    }
