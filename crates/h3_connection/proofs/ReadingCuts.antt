-- However the bytes of the control, encoder and decoder streams are cut, they are read alike.
use Rattle.std.proofs.Common.{◌≡◌, ℕ, ◌+◌, ◌-◌, Bool, true, false, if◌then◌else◌, List, [], ◌++◌, refl, ap, sym, ◌∙◌, subst, arith, append_assoc, Option, Some, None}
use Rattle.std.specs.Prelude.{is_some}
use Rattle.h3_field.specs.Waiting.{encoder_wait, decoder_wait}
use Rattle.h3_qpack.specs.EncoderHistory.{EncoderHistory}
use Rattle.h3_qpack.specs.Hearing.{Heard, Listened}
use Rattle.h3_connection.specs.Codes.{encoder_stream_error, decoder_stream_error, excessive_load}
use Rattle.h3_connection.specs.declared.setup.Announced.{Announced}
use Rattle.h3_connection.specs.Endpoint.{EndpointHistory, limit_of, replied}
use Rattle.h3_connection.specs.PeerReading.{Peer, PeerFound, with_unread, read_peer}
use Rattle.h3_connection.specs.PeerReadingLaws.{settings_stay}
use Rattle.h3_connection.proofs.PeerReadings.{then_peer, peer_more}
use Rattle.h3_connection.specs.Listeners.{fault_if, heard_more, hearing_fault, listening_fault, after_hearing, insertions_heard}
use Rattle.h3_connection.specs.ExcessiveInstructions.{exceeds, hear_up_to, listen_up_to, heard_up_to_with, listened_up_to_with}
use Rattle.h3_connection.specs.LimitedHearingLaws.{hear_cut, hears_no_longer}
use Rattle.h3_connection.specs.LimitedListeningLaws.{listen_cut, listens_no_longer, listens_nothing}
use Rattle.h3_connection.specs.Control.{Found, increment, read_encoder, listened_to, kept_unread, read_decoder, with_table, learned, if_learned, then_decoder, taken_peer}
use Rattle.h3_connection.specs.StrictConnection.{kinds_of, is_strict, stream_fault}
use Rattle.h3_connection.specs.DeliveryCuts.{IsSame, with_replies, DiffersInIncrements}
use Rattle.h3_connection.proofs.Quiet.{quiet_taken}
use Rattle.h3_connection.proofs.Bounded.{hears_more}
use Rattle.h3_connection.proofs.LongerStays.{encoder_exceeds_more, decoder_exceeds_more}

-- the same fault or none, and where there is none this holds of what is left
pub record Alike (Left : EndpointHistory → EndpointHistory → Type 0) (one two : Found) : Type 0 where
  pub answer : one.1 ≡ two.1
  pub left : one.1 ≡ None → Left one.0 two.0

pub alike_same : (one two : Found) → one ≡ two → Alike IsSame one two
alike_same one two e = record { answer = ap (λ x. x.1) e; left = λ none. ap (λ x. x.0) e }

pub alike_as : (Left : EndpointHistory → EndpointHistory → Type 0) (one two other both : Found) → one ≡ other → two ≡ both → Alike Left other both → Alike Left one two
alike_as Left one two other both e f h = subst (λ x. Alike Left x two) (sym e) (subst (λ x. Alike Left other x) (sym f) h)

-- no fault is no bad instruction
no_bad : (b : Bool) (code : ℕ) (other : Option ℕ) → (if b then Some code else other) ≡ None → b ≡ false
no_bad true code other e = absurd (cc)
no_bad false code other e = refl

-- no fault is told of none, and one of each
none_told : (strict : Bool) (code : ℕ) (fault : Option ℕ) → stream_fault strict code fault ≡ None → fault ≡ None
none_told true code None e = refl
none_told true code (Some found) e = absurd (cc)
none_told false code fault e = e

nothing_told : (strict : Bool) (code : ℕ) → stream_fault strict code None ≡ None
nothing_told true code = refl
nothing_told false code = refl

told_too : (strict : Bool) (code found : ℕ) (fault other : Option ℕ) → stream_fault strict code fault ≡ Some found → ((was : ℕ) → fault ≡ Some was → other ≡ Some was) → stream_fault strict code other ≡ Some found
told_too true code found None other e h = absurd (cc)
told_too true code found (Some was) other e h = ap (stream_fault true code) (h was refl) ∙ e
told_too false code found fault other e h = h found e

-- the encoder stream
heard_front : (g : EndpointHistory) (a b : List ℕ) → (heard_more (limit_of g) g.decoding a).is_bad ≡ false
    → heard_more (limit_of g) g.decoding (a ++ b) ≡ hear_up_to (limit_of g) (heard_more (limit_of g) g.decoding a).decoder ((heard_more (limit_of g) g.decoding a).left ++ b)
heard_front g a b good =
    ap (hear_up_to (limit_of g) g.decoding.decoder) (sym (append_assoc g.decoding.unread a b)) ∙ hear_cut (limit_of g) g.decoding.decoder (g.decoding.unread ++ a) b
    ∙ ap (heard_up_to_with (limit_of g) (heard_more (limit_of g) g.decoding a) b) good

pub encoder_cut : (g : EndpointHistory) (a b : List ℕ) → (read_encoder g a).1 ≡ None → Alike (DiffersInIncrements g.own.replies) (read_encoder g (a ++ b)) (read_encoder (read_encoder g a).0 b)
encoder_cut g a b none =
    let most = limit_of g in
    let h = heard_more most g.decoding a in
    let k = hear_up_to most h.decoder (h.left ++ b) in
    let is : heard_more most g.decoding (a ++ b) ≡ k = heard_front g a b (no_bad h.is_bad encoder_stream_error _ (none_told (is_strict g.announced) encoder_stream_error (hearing_fault most h) none)) in
    let before = g.decoding.decoder.table.inserted in
    let sum : k.decoder.table.inserted - before ≡ (h.decoder.table.inserted - before) + (k.decoder.table.inserted - h.decoder.table.inserted) =
    omega (arith, hears_more most g.decoding.decoder (g.decoding.unread ++ a), hears_more most h.decoder (h.left ++ b)) in
    let told : Heard → Option ℕ = λ x. stream_fault (is_strict g.announced) encoder_stream_error (hearing_fault most x) in
    let at_once : read_encoder g (a ++ b) ≡ (replied (record g { decoding = after_hearing k }) (increment (k.decoder.table.inserted - before)), told k) =
    ap (λ x. (replied (record g { decoding = after_hearing x }) (increment (insertions_heard g.decoding x)), told x)) is in
    record {
      answer = ap (λ x. x.1) at_once;
      left = λ good. record {
        first = h.decoder.table.inserted - before;
        second = k.decoder.table.inserted - h.decoder.table.inserted;
        same =
            ap (λ x. x.0) at_once
            ∙ sym (ap (λ x. with_replies (read_encoder (read_encoder g a).0 b).0 x.0.own.replies) at_once);
        at_once = ap (λ x. x.0.own.replies) at_once ∙ ap (λ n. g.own.replies ++ increment n) sum;
        apart = refl;
      };
    }

-- the decoder stream
listened_front : (most : ℕ) (s : EncoderHistory) (unread a b : List ℕ) → (listen_up_to most s (unread ++ a)).is_bad ≡ false
    → listen_up_to most s (unread ++ (a ++ b)) ≡ listen_up_to most (listen_up_to most s (unread ++ a)).encoder ((listen_up_to most s (unread ++ a)).left ++ b)
listened_front most s unread a b good =
    ap (listen_up_to most s) (sym (append_assoc unread a b)) ∙ listen_cut most s (unread ++ a) b ∙ ap (listened_up_to_with most (listen_up_to most s (unread ++ a)) b) good

-- what is read of the decoder stream, where it is told whether the settings came
abbrev pub read_if : Bool → EndpointHistory → List ℕ → Found
read_if came e bytes =
    if came then listened_to e (listen_up_to (limit_of e) e.encoder (e.decoder_unread ++ bytes)) else kept_unread e (e.decoder_unread ++ bytes)

read_twice : (came : Bool) (g : EndpointHistory) (a b : List ℕ) → (read_if came g a).1 ≡ None → read_if came g (a ++ b) ≡ read_if came (read_if came g a).0 b
read_twice true g a b none =
    ap (listened_to g) (listened_front (limit_of g) g.encoder g.decoder_unread a b (no_bad (listen_up_to (limit_of g) g.encoder (g.decoder_unread ++ a)).is_bad decoder_stream_error _
    (none_told (is_strict g.announced) decoder_stream_error (listening_fault (limit_of g) (listen_up_to (limit_of g) g.encoder (g.decoder_unread ++ a))) none)))
read_twice false g a b none = ap (kept_unread g) (sym (append_assoc g.decoder_unread a b))

found_if : (b : Bool) (P : Found → Type 0) (x y : Found) → P x → P y → P (if b then x else y)
found_if true P x y p q = p
found_if false P x y p q = q

pub decoder_peer : (e : EndpointHistory) (bytes : List ℕ) → (read_decoder e bytes).0.peer ≡ e.peer
decoder_peer e bytes = found_if (is_some e.peer.settings) (λ x. x.0.peer ≡ e.peer) _ _ refl refl

pub decoder_cut : (g : EndpointHistory) (a b : List ℕ) → (read_decoder g a).1 ≡ None → read_decoder g (a ++ b) ≡ read_decoder (read_decoder g a).0 b
decoder_cut g a b none =
    read_twice (is_some g.peer.settings) g a b none ∙ sym (ap (λ p. read_if (is_some p.settings) (read_decoder g a).0 b) (decoder_peer g a))

-- the frames of the control stream, whichever they are
abbrev pub read_frames : EndpointHistory → List ℕ → Found
read_frames e bytes = taken_peer e (read_peer (kinds_of e.announced) (limit_of e) e.side (with_unread e.peer (e.peer.unread ++ bytes)))

-- what was found is done alike by endpoints that differ in what their peer's reader has
abbrev after_by : Option (List (ℕ × ℕ)) → EndpointHistory → PeerFound → Found
after_by known e x = then_decoder known x.0.settings (if_learned known x.0.settings (record e { peer = x.0 })) x.1

pub nothing_learned : (o : Option (List (ℕ × ℕ))) (e : EndpointHistory) (fault : Option ℕ) → then_decoder o o (if_learned o o e) fault ≡ (e, fault)
nothing_learned None e None = refl
nothing_learned None e (Some code) = refl
nothing_learned (Some pairs) e None = refl
nothing_learned (Some pairs) e (Some code) = refl

-- where no settings come now
after_same : (e : EndpointHistory) (x : PeerFound) → x.0.settings ≡ e.peer.settings → taken_peer e x ≡ (record e { peer = x.0 }, x.1)
after_same e x is = ap (λ o. then_decoder e.peer.settings o (if_learned e.peer.settings o (record e { peer = x.0 })) x.1) is ∙ nothing_learned e.peer.settings (record e { peer = x.0 }) x.1

learned_if : (b : Bool) (e : EndpointHistory) (p : Peer) (capacity blocked : ℕ)
    → (if b then with_table (record e { peer = p }) capacity blocked else record e { peer = p }) ≡ record (if b then with_table e capacity blocked else e) { peer = p }
learned_if true e p capacity blocked = refl
learned_if false e p capacity blocked = refl

learned_with : (e : EndpointHistory) (p : Peer) (pairs : List (ℕ × ℕ)) → learned (record e { peer = p }) pairs ≡ record (learned e pairs) { peer = p }
learned_with e p pairs = learned_if _ e p _ _

read_with : (came : Bool) (e : EndpointHistory) (p : Peer) (bytes : List ℕ) → read_if came (record e { peer = p }) bytes ≡ (record (read_if came e bytes).0 { peer = p }, (read_if came e bytes).1)
read_with true e p bytes = refl
read_with false e p bytes = refl

decoder_with : (e : EndpointHistory) (p : Peer) (bytes : List ℕ) → p.settings ≡ e.peer.settings → read_decoder (record e { peer = p }) bytes ≡ (record (read_decoder e bytes).0 { peer = p }, (read_decoder e bytes).1)
decoder_with e p bytes is = ap (λ o. read_if (is_some o) (record e { peer = p }) bytes) is ∙ read_with (is_some e.peer.settings) e p bytes

endpoint_if : (b : Bool) (P : EndpointHistory → Type 0) (x y : EndpointHistory) → P x → P y → P (if b then x else y)
endpoint_if true P x y p q = p
endpoint_if false P x y p q = q

learned_peer : (e : EndpointHistory) (pairs : List (ℕ × ℕ)) → (learned e pairs).peer ≡ e.peer
learned_peer e pairs = endpoint_if _ (λ x. x.peer ≡ e.peer) _ _ refl refl

came_fault : (g f : EndpointHistory) (q p : Peer) (pairs : List (ℕ × ℕ)) (fault : Option ℕ) → p.settings ≡ q.settings → read_decoder (learned (record g { peer = q }) pairs) [] ≡ (f, None)
    → Alike IsSame (then_decoder None (Some pairs) (learned (record g { peer = p }) pairs) fault) (record f { peer = p }, fault)
came_fault g f q p pairs (Some code) same is = record { answer = refl; left = λ none. absurd (cc) }
came_fault g f q p pairs None same is =
    let h : EndpointHistory = record g { peer = q } in
    let settings : p.settings ≡ (learned h pairs).peer.settings = same ∙ sym (ap (λ x. x.settings) (learned_peer h pairs)) in
    alike_same _ _ (ap (λ e. read_decoder e []) (learned_with h p pairs) ∙ decoder_with (learned h pairs) p [] settings ∙ ap (λ x. (record x.0 { peer = p }, x.1)) is)

-- the settings came in the first bytes
came_first : (g f : EndpointHistory) (q : Peer) (pairs : List (ℕ × ℕ)) (b : List ℕ) → g.peer.settings ≡ None → q.settings ≡ Some pairs → f.side ≡ g.side → f.announced ≡ g.announced → taken_peer g (q, None) ≡ (f, None)
    → Alike IsSame (taken_peer g (read_peer (kinds_of g.announced) (limit_of g) g.side (with_unread q (q.unread ++ b)))) (read_frames f b)
came_first g f q pairs b none came side own is =
    let h : EndpointHistory = record g { peer = q } in
    let y = read_peer (kinds_of g.announced) (limit_of g) g.side (with_unread q (q.unread ++ b)) in
    let read : read_decoder (learned h pairs) [] ≡ (f, None) =
    sym (ap (λ o. after_by o g (q, None)) none ∙ ap (λ o. then_decoder None o (if_learned None o h) None) came) ∙ is in
    let peer : f.peer ≡ q = ap (λ x. x.0.peer) (sym read) ∙ decoder_peer (learned h pairs) [] ∙ learned_peer h pairs in
    let still : y.0.settings ≡ Some pairs = settings_stay _ (limit_of g) g.side (with_unread q (q.unread ++ b)) pairs came in
    let one : taken_peer g y ≡ then_decoder None (Some pairs) (learned (record g { peer = y.0 }) pairs) y.1 =
    ap (λ o. after_by o g y) none ∙ ap (λ o. then_decoder None o (if_learned None o (record g { peer = y.0 })) y.1) still in
    let there : read_frames f b ≡ taken_peer f y =
    ap (λ s. taken_peer f (read_peer (kinds_of f.announced) (limit_of f) s (with_unread f.peer (f.peer.unread ++ b)))) side
    ∙ ap (λ (own : Announced). taken_peer f (read_peer (kinds_of own) own.choices.unfinished_limit g.side (with_unread f.peer (f.peer.unread ++ b)))) own
    ∙ ap (λ (p : Peer). taken_peer f (read_peer (kinds_of g.announced) (limit_of g) g.side (with_unread p (p.unread ++ b)))) peer in
    let two : read_frames f b ≡ (record f { peer = y.0 }, y.1) = there ∙ after_same f y (still ∙ sym (ap (λ (p : Peer). p.settings) peer ∙ came)) in
    alike_as IsSame _ _ _ _ one two (came_fault g f q y.0 pairs y.1 (still ∙ sym came) read)

-- they came before, or did not come
came_else : (g f : EndpointHistory) (q : Peer) (b : List ℕ) → q.settings ≡ g.peer.settings → taken_peer g (q, None) ≡ (f, None)
    → Alike IsSame (taken_peer g (read_peer (kinds_of g.announced) (limit_of g) g.side (with_unread q (q.unread ++ b)))) (read_frames f b)
came_else g f q b same is =
    let y = read_peer (kinds_of g.announced) (limit_of g) g.side (with_unread q (q.unread ++ b)) in
    let h : EndpointHistory = record g { peer = q } in
    let at : f ≡ h = ap (λ x. x.0) (sym is ∙ after_same g (q, None) same) in
    alike_same _ _ (ap (λ o. after_by o g y) (sym same) ∙ ap (λ e. read_frames e b) (sym at))

control_found : (g f : EndpointHistory) (b left : List ℕ) (x : PeerFound) → f.side ≡ g.side → f.announced ≡ g.announced
    → ((pairs : List (ℕ × ℕ)) → g.peer.settings ≡ Some pairs → x.0.settings ≡ Some pairs) → taken_peer g x ≡ (f, None)
    → Alike IsSame (taken_peer g (then_peer (kinds_of g.announced) (limit_of g) g.side b left x)) (read_frames f b)
control_found g f b left (q, Some code) side own keep is = let wrong : Some code ≡ None = ap (λ x. x.1) is in absurd (cc)
control_found g f b left (q, None) side own keep is = by_settings g.peer.settings q.settings refl refl
  where
    by_settings : (o p : Option (List (ℕ × ℕ))) → g.peer.settings ≡ o → q.settings ≡ p → Alike IsSame (taken_peer g (read_peer (kinds_of g.announced) (limit_of g) g.side (with_unread q (q.unread ++ b)))) (read_frames f b)
    by_settings (Some pairs) p before after = came_else g f q b (keep pairs before ∙ sym before) is
    by_settings None None before after = came_else g f q b (after ∙ sym before) is
    by_settings None (Some pairs) before after = came_first g f q pairs b before after side own is

-- what is left at a fault
pub left_behind : (g : EndpointHistory) (a b : List ℕ) → List ℕ
left_behind g a b = (peer_more (kinds_of g.announced) (limit_of g) g.side g.peer (g.peer.unread ++ a) b).0

pub read_behind : (g : EndpointHistory) (a b : List ℕ)
    → read_peer (kinds_of g.announced) (limit_of g) g.side (with_unread g.peer (g.peer.unread ++ (a ++ b)))
    ≡ then_peer (kinds_of g.announced) (limit_of g) g.side b (left_behind g a b) (read_peer (kinds_of g.announced) (limit_of g) g.side (with_unread g.peer (g.peer.unread ++ a)))
unfolding left_behind
read_behind g a b =
    ap (λ l. read_peer (kinds_of g.announced) (limit_of g) g.side (with_unread g.peer l)) (sym (append_assoc g.peer.unread a b)) ∙ (peer_more (kinds_of g.announced) (limit_of g) g.side g.peer (g.peer.unread ++ a) b).1

pub frames_cut : (g : EndpointHistory) (a b : List ℕ) → (read_frames g a).1 ≡ None → Alike IsSame (read_frames g (a ++ b)) (read_frames (read_frames g a).0 b)
frames_cut g a b none =
    let x = read_peer (kinds_of g.announced) (limit_of g) g.side (with_unread g.peer (g.peer.unread ++ a)) in
    let found : read_frames g a ≡ ((read_frames g a).0, None) = ap (λ c. ((read_frames g a).0, c)) none in
    subst (λ z. Alike IsSame (taken_peer g z) (read_frames (read_frames g a).0 b)) (sym (read_behind g a b))
    (control_found g (read_frames g a).0 b (left_behind g a b) x (quiet_taken g x).side (quiet_taken g x).announced (λ pairs e. settings_stay _ (limit_of g) g.side (with_unread g.peer (g.peer.unread ++ a)) pairs e) found)

-- what was read of the stream is the peer that is left
pub taken_leaves : (e : EndpointHistory) (x : PeerFound) → (taken_peer e x).0.peer ≡ x.0
taken_leaves e (p, fault) = by_settings e.peer.settings p.settings fault
  where
    f : EndpointHistory
    f = record e { peer = p }

    by_settings : (o q : Option (List (ℕ × ℕ))) (fault : Option ℕ) → (then_decoder o q (if_learned o q f) fault).0.peer ≡ p
    by_settings None None None = refl
    by_settings None None (Some code) = refl
    by_settings None (Some pairs) None = decoder_peer (learned f pairs) [] ∙ learned_peer f pairs
    by_settings None (Some pairs) (Some code) = learned_peer f pairs
    by_settings (Some known) q None = refl
    by_settings (Some known) q (Some code) = refl

-- the stream that is read as the control stream stays
then_on : (before after : Option (List (ℕ × ℕ))) (e : EndpointHistory) (fault : Option ℕ) → (then_decoder before after e fault).0.control_on ≡ e.control_on
then_on before after e (Some code) = refl
then_on None (Some pairs) e None = found_if (is_some e.peer.settings) (λ x. x.0.control_on ≡ e.control_on) _ _ refl refl
then_on None None e None = refl
then_on (Some pairs) after e None = refl

learned_on : (before after : Option (List (ℕ × ℕ))) (e : EndpointHistory) → (if_learned before after e).control_on ≡ e.control_on
learned_on None (Some pairs) e = endpoint_if _ (λ x. x.control_on ≡ e.control_on) _ _ refl refl
learned_on None None e = refl
learned_on (Some pairs) after e = refl

pub frames_on_stay : (e : EndpointHistory) (bytes : List ℕ) → (read_frames e bytes).0.control_on ≡ e.control_on
frames_on_stay e bytes =
    let x = read_peer (kinds_of e.announced) (limit_of e) e.side (with_unread e.peer (e.peer.unread ++ bytes)) in
    then_on e.peer.settings x.0.settings (if_learned e.peer.settings x.0.settings (record e { peer = x.0 })) x.1 ∙ learned_on e.peer.settings x.0.settings (record e { peer = x.0 })

pub decoder_on_stays : (e : EndpointHistory) (bytes : List ℕ) → (read_decoder e bytes).0.decoder_on ≡ e.decoder_on
decoder_on_stays e bytes = found_if (is_some e.peer.settings) (λ x. x.0.decoder_on ≡ e.decoder_on) _ _ refl refl

-- a fault that was found in the first bytes is found in all: a bad instruction,
longer_or : (b : Bool) (code other : ℕ) → fault_if b code ≡ Some other → (b ≡ true) × (Some code ≡ Some other)
longer_or true code other e = (refl, e)
longer_or false code other e = absurd (cc)

bad_heard : (most : ℕ) (h : Heard) (b : List ℕ) (bad : Bool) (code : ℕ) → h.is_bad ≡ bad → hearing_fault most h ≡ Some code → hearing_fault most (heard_up_to_with most h b bad) ≡ Some code
bad_heard most h b true code is e = sym (ap (λ x. if x then Some encoder_stream_error else fault_if (exceeds most encoder_wait h.left) excessive_load) is) ∙ e
bad_heard most h b false code is e =
    -- or one that is longer than the limit
    let longer = longer_or (exceeds most encoder_wait h.left) excessive_load code (sym (ap (λ x. if x then Some encoder_stream_error else fault_if (exceeds most encoder_wait h.left) excessive_load) is) ∙ e) in
    let still = encoder_exceeds_more most h.left b longer.0 in
    ap (hearing_fault most) (hears_no_longer most h.decoder (h.left ++ b) still) ∙ ap (λ x. fault_if x excessive_load) still ∙ longer.1

pub encoder_fault : (g : EndpointHistory) (a b : List ℕ) (code : ℕ) → (read_encoder g a).1 ≡ Some code → (read_encoder g (a ++ b)).1 ≡ Some code
encoder_fault g a b code e =
    let most = limit_of g in
    let h = heard_more most g.decoding a in
    told_too (is_strict g.announced) encoder_stream_error code (hearing_fault most h) (hearing_fault most (heard_more most g.decoding (a ++ b))) e
    (λ was found.
    ap (hearing_fault most) (ap (hear_up_to most g.decoding.decoder) (sym (append_assoc g.decoding.unread a b)) ∙ hear_cut most g.decoding.decoder (g.decoding.unread ++ a) b)
    ∙ bad_heard most h b h.is_bad was refl found)

bad_listened : (most : ℕ) (l : Listened) (b : List ℕ) (bad : Bool) (code : ℕ) → l.is_bad ≡ bad → listening_fault most l ≡ Some code → listening_fault most (listened_up_to_with most l b bad) ≡ Some code
bad_listened most l b true code is e = sym (ap (λ x. if x then Some decoder_stream_error else fault_if (exceeds most decoder_wait l.left) excessive_load) is) ∙ e
bad_listened most l b false code is e =
    let longer = longer_or (exceeds most decoder_wait l.left) excessive_load code (sym (ap (λ x. if x then Some decoder_stream_error else fault_if (exceeds most decoder_wait l.left) excessive_load) is) ∙ e) in
    let still = decoder_exceeds_more most l.left b longer.0 in
    ap (listening_fault most) (listens_no_longer most l.encoder (l.left ++ b) still) ∙ ap (λ x. fault_if x excessive_load) still ∙ longer.1

-- and bytes that are kept are none
bad_read : (came : Bool) (g : EndpointHistory) (a b : List ℕ) (code : ℕ) → (read_if came g a).1 ≡ Some code → (read_if came g (a ++ b)).1 ≡ Some code
bad_read true g a b code e =
    let most = limit_of g in
    let l = listen_up_to most g.encoder (g.decoder_unread ++ a) in
    told_too (is_strict g.announced) decoder_stream_error code (listening_fault most l) (listening_fault most (listen_up_to most g.encoder (g.decoder_unread ++ (a ++ b)))) e
    (λ was found.
    ap (listening_fault most) (ap (listen_up_to most g.encoder) (sym (append_assoc g.decoder_unread a b)) ∙ listen_cut most g.encoder (g.decoder_unread ++ a) b) ∙ bad_listened most l b l.is_bad was refl found)
bad_read false g a b code e = let wrong : None ≡ Some code = e in absurd (cc)

pub decoder_fault : (g : EndpointHistory) (a b : List ℕ) (code : ℕ) → (read_decoder g a).1 ≡ Some code → (read_decoder g (a ++ b)).1 ≡ Some code
decoder_fault g a b code e = bad_read (is_some g.peer.settings) g a b code e

-- with no bytes of the decoder stream none are bad
reads_none : (came : Bool) (e : EndpointHistory) → e.decoder_unread ≡ [] → (read_if came e []).1 ≡ None
reads_none true e empty =
    ap (stream_fault (is_strict e.announced) decoder_stream_error)
    (ap (λ l. listening_fault (limit_of e) (listen_up_to (limit_of e) e.encoder (l ++ []))) empty ∙ ap (listening_fault (limit_of e)) (listens_nothing (limit_of e) e.encoder))
    ∙ nothing_told (is_strict e.announced) decoder_stream_error
reads_none false e empty = refl

fault_found : (g : EndpointHistory) (b left : List ℕ) (x : PeerFound) (code : ℕ) → (g.peer.settings ≡ None → g.decoder_unread ≡ []) → ((pairs : List (ℕ × ℕ)) → g.peer.settings ≡ Some pairs → x.0.settings ≡ Some pairs)
    → (taken_peer g x).1 ≡ Some code → (taken_peer g (then_peer (kinds_of g.announced) (limit_of g) g.side b left x)).1 ≡ Some code
fault_found g b left (q, Some found) code early keep is = is
fault_found g b left (q, None) code early keep is = absurd (by_settings g.peer.settings q.settings refl refl)
  where
    differ : {A : Type 0} (x : Option A) (y : A) → x ≡ None → x ≡ Some y → ⊥
    differ x y none some = let wrong : None ≡ Some y = sym none ∙ some in cc

    by_settings : (o p : Option (List (ℕ × ℕ))) → g.peer.settings ≡ o → q.settings ≡ p → ⊥
    by_settings (Some pairs) p before after = differ (taken_peer g (q, None)).1 code (ap (λ x. x.1) (after_same g (q, None) (keep pairs before ∙ sym before))) is
    by_settings None None before after = differ (taken_peer g (q, None)).1 code (ap (λ x. x.1) (after_same g (q, None) (after ∙ sym before))) is
    by_settings None (Some pairs) before after =
        let h : EndpointHistory = record g { peer = q } in
        let read : taken_peer g (q, None) ≡ read_decoder (learned h pairs) [] = ap (λ o. after_by o g (q, None)) before ∙ ap (λ o. then_decoder None o (if_learned None o h) None) after in
        let empty : (learned h pairs).decoder_unread ≡ [] = endpoint_if _ (λ x. x.decoder_unread ≡ g.decoder_unread) _ _ refl refl ∙ early before in
        differ (taken_peer g (q, None)).1 code (ap (λ x. x.1) read ∙ reads_none (is_some (learned h pairs).peer.settings) (learned h pairs) empty) is

pub frames_fault : (g : EndpointHistory) (a b : List ℕ) (code : ℕ) → (g.peer.settings ≡ None → g.decoder_unread ≡ []) → (read_frames g a).1 ≡ Some code → (read_frames g (a ++ b)).1 ≡ Some code
frames_fault g a b code early is =
    let x = read_peer (kinds_of g.announced) (limit_of g) g.side (with_unread g.peer (g.peer.unread ++ a)) in
    ap (λ z. (taken_peer g z).1) (read_behind g a b)
    ∙ fault_found g b (left_behind g a b) x code early (λ pairs e. settings_stay _ (limit_of g) g.side (with_unread g.peer (g.peer.unread ++ a)) pairs e) is

-- where bytes of the decoder stream wait for the settings too, it is a fault
any_fault : (g : EndpointHistory) (b left : List ℕ) (x : PeerFound) (code : ℕ) → ((pairs : List (ℕ × ℕ)) → g.peer.settings ≡ Some pairs → x.0.settings ≡ Some pairs)
    → (taken_peer g x).1 ≡ Some code → (other : ℕ) × ((taken_peer g (then_peer (kinds_of g.announced) (limit_of g) g.side b left x)).1 ≡ Some other)
any_fault g b left (q, Some found) code keep is = (code, is)
any_fault g b left (q, None) code keep is = by_settings g.peer.settings q.settings refl refl
  where
    y : PeerFound
    y = read_peer (kinds_of g.announced) (limit_of g) g.side (with_unread q (q.unread ++ b))

    none_found : q.settings ≡ g.peer.settings → (other : ℕ) × ((taken_peer g y).1 ≡ Some other)
    none_found same = let wrong : None ≡ Some code = sym (ap (λ x. x.1) (after_same g (q, None) same)) ∙ is in absurd (cc)

    by_settings : (o p : Option (List (ℕ × ℕ))) → g.peer.settings ≡ o → q.settings ≡ p → (other : ℕ) × ((taken_peer g y).1 ≡ Some other)
    by_settings (Some pairs) p before after = none_found (keep pairs before ∙ sym before)
    by_settings None None before after = none_found (after ∙ sym before)
    by_settings None (Some pairs) before after = by_fault y.1 refl
      where
        h : EndpointHistory
        h = record g { peer = q }

        still : y.0.settings ≡ Some pairs
        still = settings_stay _ (limit_of g) g.side (with_unread q (q.unread ++ b)) pairs after

        found : taken_peer g y ≡ then_decoder None (Some pairs) (learned (record g { peer = y.0 }) pairs) y.1
        found = ap (λ o. after_by o g y) before ∙ ap (λ o. then_decoder None o (if_learned None o (record g { peer = y.0 })) y.1) still

        first : (read_decoder (learned h pairs) []).1 ≡ Some code
        first = sym (ap (λ x. x.1) (ap (λ o. after_by o g (q, None)) before ∙ ap (λ o. then_decoder None o (if_learned None o h) None) after)) ∙ is

        known : y.0.settings ≡ (learned h pairs).peer.settings
        known = still ∙ sym (ap (λ x. x.settings) (learned_peer h pairs) ∙ after)

        by_fault : (o : Option ℕ) → y.1 ≡ o → (other : ℕ) × ((taken_peer g y).1 ≡ Some other)
        by_fault (Some other) e = (other, ap (λ x. x.1) (found ∙ ap (then_decoder None (Some pairs) (learned (record g { peer = y.0 }) pairs)) e))
        by_fault None e = (
          code,
          ap (λ x. x.1) (found ∙ ap (then_decoder None (Some pairs) (learned (record g { peer = y.0 }) pairs)) e
              ∙ ap (λ f. read_decoder f []) (learned_with h y.0 pairs) ∙ decoder_with (learned h pairs) y.0 [] known) ∙ first,
        )

pub frames_faults : (g : EndpointHistory) (a b : List ℕ) (code : ℕ) → (read_frames g a).1 ≡ Some code → (other : ℕ) × ((read_frames g (a ++ b)).1 ≡ Some other)
frames_faults g a b code is =
    let found = any_fault g b (left_behind g a b) (read_peer (kinds_of g.announced) (limit_of g) g.side (with_unread g.peer (g.peer.unread ++ a))) code (λ pairs e. settings_stay _ (limit_of g) g.side (with_unread g.peer (g.peer.unread ++ a)) pairs e) is in
    (found.0, ap (λ z. (taken_peer g z).1) (read_behind g a b) ∙ found.1)

-- until the settings come, bytes of the control stream change nothing of the decoder stream
pub frames_quiet : (g : EndpointHistory) (bytes : List ℕ) → (read_frames g bytes).0.peer.settings ≡ None → (g.peer.settings ≡ None) × ((read_frames g bytes).0.decoder_unread ≡ g.decoder_unread)
frames_quiet g bytes none = by_settings g.peer.settings x.0.settings refl refl
  where
    x : PeerFound
    x = read_peer (kinds_of g.announced) (limit_of g) g.side (with_unread g.peer (g.peer.unread ++ bytes))

    differ : {A : Type 0} (o : Option A) (y : A) → o ≡ None → o ≡ Some y → ⊥
    differ o y none some = let wrong : None ≡ Some y = sym none ∙ some in cc

    then_peer_is : (pairs : List (ℕ × ℕ)) (fault : Option ℕ) (e : EndpointHistory) → (then_decoder None (Some pairs) e fault).0.peer ≡ e.peer
    then_peer_is pairs None e = decoder_peer e []
    then_peer_is pairs (Some code) e = refl

    by_settings : (o p : Option (List (ℕ × ℕ))) → g.peer.settings ≡ o → x.0.settings ≡ p → (g.peer.settings ≡ None) × ((read_frames g bytes).0.decoder_unread ≡ g.decoder_unread)
    by_settings None None before after = (before, ap (λ z. z.0.decoder_unread) (after_same g x (after ∙ sym before)))
    by_settings (Some pairs) p before after =
        let still : x.0.settings ≡ Some pairs = settings_stay _ (limit_of g) g.side (with_unread g.peer (g.peer.unread ++ bytes)) pairs before in
        absurd (differ (read_frames g bytes).0.peer.settings pairs none (ap (λ z. z.0.peer.settings) (after_same g x (still ∙ sym before)) ∙ still))
    by_settings None (Some pairs) before after =
        let h : EndpointHistory = record g { peer = x.0 } in
        let found : read_frames g bytes ≡ then_decoder None (Some pairs) (learned h pairs) x.1 = ap (λ o. after_by o g x) before ∙ ap (λ o. then_decoder None o (if_learned None o h) x.1) after in
        absurd (differ (read_frames g bytes).0.peer.settings pairs none
        (ap (λ z. z.0.peer.settings) found ∙ ap (λ (q : Peer). q.settings) (then_peer_is pairs x.1 (learned h pairs) ∙ learned_peer h pairs) ∙ after))
