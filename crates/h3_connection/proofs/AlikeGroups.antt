-- Deliveries of the pieces of some bytes are answered as one delivery of the bytes, and leave the same but for cuts.
use Rattle.std.proofs.Common.{◌≡◌, ℕ, Bool, true, false, List, [], ◌∷◌, ◌++◌, refl, ap, sym, ◌∙◌, subst, append-nil, Option, Some, None}
use Rattle.std.specs.Prelude.{◌≢◌}
use Rattle.std.specs.List.{concat}
use Rattle.h3_field.specs.Instruction.{DecoderInstruction}
use Rattle.h3_connection.specs.declared.event.Refusal.{Refusal}
use Rattle.h3_connection.specs.declared.event.Refusal.TheVariants as refusal
use Rattle.h3_connection.specs.CallCuts.{with_streams, DifferInCutsAlone, deliveries, first_refusal, RefusedAlike, Alike, TwoFaults}
use Rattle.h3_connection.specs.CallLists.{Result, called, done, answers, endpoint_after}
use Rattle.h3_connection.specs.CallLists.Call.{Deliver}
use Rattle.h3_connection.specs.CallLists.Result.{Done}
use Rattle.h3_connection.specs.Control.{Found, read_control}
use Rattle.h3_connection.specs.Delivering.{delivery_refusal, unidirectional_at, with_unidirectional, taken, closed_by, unless_second, heard_as, read_unidirectional, bytes_at, deliver}
use Rattle.h3_connection.specs.DeliveryCuts.{SameAnswers, role_with, deliver_cut}
use Rattle.h3_connection.specs.Endpoint.{EndpointHistory, Kind, kind_of, is_second}
use Rattle.h3_connection.specs.Endpoint.Kind.{Request, ServerOpened, OwnUnidirectional, PeerUnidirectional}
use Rattle.h3_connection.specs.Incoming.{Incoming}
use Rattle.h3_connection.specs.StreamSets.{Streams}
use Rattle.h3_connection.specs.Unidirectional.{Unidirectional, Role, role_after}
use Rattle.h3_connection.specs.Unidirectional.Role.{Untold, Control, Encoder, Decoder, Session, Push, Ignored, Other}
use Rattle.h3_connection.proofs.AlikeCalls.{AlikeAfter, delivers_alike}
use Rattle.h3_connection.proofs.AlikeDeliveries.{delivered_itself, goes_open, cut_any}
use Rattle.h3_connection.proofs.AlikeEnds.{ends_sym, ends_trans, ends_first}
use Rattle.h3_connection.proofs.AlikeReading.{Beside, beside_alike, sessions_here}
use Rattle.h3_connection.proofs.Closed.{taken_closed}
use Rattle.h3_connection.proofs.DeliveryCuts.{only_first, role_fault, RoleCut, role_cut_of}
use Rattle.h3_connection.proofs.ControlCuts.{control_faults, quiet_until}
use Rattle.h3_connection.proofs.RoleCuts.{then_role, role_cut}
use Rattle.h3_connection.proofs.SameSetups.{same_setup}
use Rattle.h3_connection.specs.declared.setup.Announced.{Announced}
use Rattle.h3_connection.specs.StrictConnection.{known_streams}

-- both endpoints are open and differ in cuts alone, or both are closed
pub data SameEnd (one two : EndpointHistory) : Type 0 where
  BothOpen : one.closed ≡ None → two.closed ≡ None → DifferInCutsAlone one two → SameEnd one two
  BothClosed : (code other : ℕ) → one.closed ≡ Some code → two.closed ≡ Some other → SameEnd one two

-- What becomes of a delivery: its bytes are taken, or it is refused as any other on this stream is, or a fault is found.
data Fate (e : EndpointHistory) (id : ℕ) (bytes : List ℕ) : Type 0 where
  Goes : (deliver e id bytes).0 ≡ None → Fate e id bytes
  Stays : (why : Refusal) → ((any : List ℕ) → deliver e id any ≡ (Some why, e)) → Fate e id bytes
  Fails : (code : ℕ) → delivery_refusal e id ≡ None → (bytes_at e id bytes (kind_of e.side id)).1 ≡ Some code → Fate e id bytes

delivers_as : (e : EndpointHistory) (id : ℕ) (r : Option Refusal) (bytes : List ℕ) → e.closed ≡ None → delivery_refusal e id ≡ r → deliver e id bytes ≡ taken None r e (bytes_at e id bytes (kind_of e.side id))
delivers_as e id r bytes open_still is =
    ap (λ o. taken o (delivery_refusal e id) e (bytes_at e id bytes (kind_of e.side id))) open_still ∙ ap (λ o. taken None o e (bytes_at e id bytes (kind_of e.side id))) is

fate : (e : EndpointHistory) (id : ℕ) (bytes : List ℕ) → e.closed ≡ None → Fate e id bytes
fate e id bytes open_still = by_refusal (delivery_refusal e id) (bytes_at e id bytes (kind_of e.side id)).1 refl refl
  where
    goes : (x : Found) → x.1 ≡ None → (closed_by x).0 ≡ None
    goes (f, None) none = refl
    goes (f, Some code) none = absurd (cc)

    by_refusal : (r : Option Refusal) (fault : Option ℕ) → delivery_refusal e id ≡ r → (bytes_at e id bytes (kind_of e.side id)).1 ≡ fault → Fate e id bytes
    by_refusal (Some why) fault is found = Stays why (λ any. delivers_as e id (Some why) any open_still is)
    by_refusal None (Some code) is found = Fails code is found
    by_refusal None None is found = Goes (ap (λ p. p.0) (delivers_as e id None bytes open_still is) ∙ goes (bytes_at e id bytes (kind_of e.side id)) found)

-- a fault that is found
record Failed (code : ℕ) (x : Option Refusal × EndpointHistory) : Type 0 where
  answer : x.0 ≡ Some (refusal.Connection code)
  closed : x.1.closed ≡ Some code

fails_by : (code : ℕ) (x : Found) → x.1 ≡ Some code → Failed code (closed_by x)
fails_by code (f, None) is = absurd (cc)
fails_by code (f, Some other) is = let same : other ≡ code = cc in record { answer = ap (λ c. Some (refusal.Connection c)) same; closed = is }

failed : (e : EndpointHistory) (id : ℕ) (bytes : List ℕ) (code : ℕ) → e.closed ≡ None → delivery_refusal e id ≡ None → (bytes_at e id bytes (kind_of e.side id)).1 ≡ Some code → Failed code (deliver e id bytes)
failed e id bytes code open_still accepted is = subst (Failed code) (sym (delivers_as e id None bytes open_still accepted)) (fails_by code (bytes_at e id bytes (kind_of e.side id)) is)

-- The fault of some bytes is that of more, unless bytes of the decoder stream wait for the settings that these bring.
data FailsToo (e : EndpointHistory) (id : ℕ) (bytes : List ℕ) (code : ℕ) (found : Option ℕ) : Type 0 where
  SameFault : found ≡ Some code → FailsToo e id bytes code found
  OtherFault : (other : ℕ) → kind_of e.side id ≡ PeerUnidirectional → role_with e id bytes ≡ Control → e.peer.settings ≡ None → e.decoder_unread ≢ [] → found ≡ Some other → FailsToo e id bytes code found

-- a second control stream, or a fault on the first
control_too : (e : EndpointHistory) (id : ℕ) (rest b : List ℕ) (code : ℕ) → (heard_as e id Control rest).1 ≡ Some code → (other : ℕ) × ((heard_as e id Control (rest ++ b)).1 ≡ Some other)
control_too e id rest b code = by_second (is_second e.control_on id)
  where
    g : EndpointHistory
    g = record e { control_on = Some id }

    by_second : (s : Bool) → (unless_second s e (read_control g rest)).1 ≡ Some code → (other : ℕ) × ((unless_second s e (read_control g (rest ++ b))).1 ≡ Some other)
    by_second true is = (code, is)
    by_second false is = control_faults g rest b code is

peer_fails : (e : EndpointHistory) (id : ℕ) (a b : List ℕ) (code : ℕ) → kind_of e.side id ≡ PeerUnidirectional
    → (read_unidirectional e id (unidirectional_at e id) (role_after (known_streams e.announced) (unidirectional_at e id).role a)).1 ≡ Some code
    → FailsToo e id (a ++ b) code (read_unidirectional e id (unidirectional_at e id) (role_after (known_streams e.announced) (unidirectional_at e id).role (a ++ b))).1
peer_fails e id a b code kind is =
    subst (λ y. FailsToo e id (a ++ b) code (read_unidirectional e id o y).1) (sym cut) (by_settings e.peer.settings e.decoder_unread refl refl)
  where
    o : Unidirectional
    o = unidirectional_at e id

    x : Role × List ℕ
    x = role_after (known_streams e.announced) o.role a

    cut : role_after (known_streams e.announced) o.role (a ++ b) ≡ then_role (known_streams e.announced) b x
    cut = role_cut (known_streams e.announced) o.role a b

    Too : Role × List ℕ → Type 0
    Too y = FailsToo e id (a ++ b) code (read_unidirectional e id o (then_role (known_streams e.announced) b y)).1

    early : (x.0 ≡ Control → e.peer.settings ≡ None → e.decoder_unread ≡ []) → FailsToo e id (a ++ b) code (read_unidirectional e id o (then_role (known_streams e.announced) b x)).1
    early h = SameFault (role_fault e id o x.0 x.1 b code h is)

    by_role : (role : Role) (rest : List ℕ) → x ≡ (role, rest) → e.peer.settings ≡ None → e.decoder_unread ≢ [] → FailsToo e id (a ++ b) code (read_unidirectional e id o (then_role (known_streams e.announced) b x)).1
    by_role Control rest at none some =
        let found = control_too (with_unidirectional e id (record o { role = Control })) id rest b code (ap (λ y. (read_unidirectional e id o y).1) (sym at) ∙ is) in
        OtherFault found.0 kind (ap (λ y. y.0) (cut ∙ ap (then_role (known_streams e.announced) b) at)) none some (ap (λ y. (read_unidirectional e id o (then_role (known_streams e.announced) b y)).1) at ∙ found.1)
    by_role (Untold front) rest at none some = early (λ control. let wrong : Untold front ≡ Control = sym (ap (λ y. y.0) at) ∙ control in absurd (cc))
    by_role Encoder rest at none some = early (λ control. let wrong : Encoder ≡ Control = sym (ap (λ y. y.0) at) ∙ control in absurd (cc))
    by_role Decoder rest at none some = early (λ control. let wrong : Decoder ≡ Control = sym (ap (λ y. y.0) at) ∙ control in absurd (cc))
    by_role (Session n) rest at none some = early (λ control. let wrong : Session n ≡ Control = sym (ap (λ y. y.0) at) ∙ control in absurd (cc))
    by_role (Push n) rest at none some = early (λ control. let wrong : Push n ≡ Control = sym (ap (λ y. y.0) at) ∙ control in absurd (cc))
    by_role Ignored rest at none some = early (λ control. let wrong : Ignored ≡ Control = sym (ap (λ y. y.0) at) ∙ control in absurd (cc))
    by_role (Other kind) rest at none some = early (λ control. let wrong : Other kind ≡ Control = sym (ap (λ y. y.0) at) ∙ control in absurd (cc))

    by_settings : (settings : Option (List (ℕ × ℕ))) (unread : List ℕ) → e.peer.settings ≡ settings → e.decoder_unread ≡ unread → FailsToo e id (a ++ b) code (read_unidirectional e id o (then_role (known_streams e.announced) b x)).1
    by_settings (Some pairs) unread came waits = early (λ control none. let wrong : Some pairs ≡ None = sym came ∙ none in absurd (cc))
    by_settings None [] came waits = early (λ control none. waits)
    by_settings None (byte ∷ unread) came waits = by_role x.0 x.1 refl came (λ empty. let wrong : (byte ∷ unread) ≡ [] = sym waits ∙ empty in cc)

fails_too : (e : EndpointHistory) (id : ℕ) (a b : List ℕ) (code : ℕ) → (bytes_at e id a (kind_of e.side id)).1 ≡ Some code → FailsToo e id (a ++ b) code (bytes_at e id (a ++ b) (kind_of e.side id)).1
fails_too e id a b code = by_kind (kind_of e.side id) refl
  where
    by_kind : (k : Kind) → kind_of e.side id ≡ k → (bytes_at e id a k).1 ≡ Some code → FailsToo e id (a ++ b) code (bytes_at e id (a ++ b) k).1
    by_kind Request kind is = absurd (cc)
    by_kind ServerOpened kind is = SameFault is
    by_kind OwnUnidirectional kind is = absurd (cc)
    by_kind PeerUnidirectional kind is = peer_fails e id a b code kind is

-- Deliveries one behind the other: the first refusal, and what is left.
abbrev pub first_some : Option Refusal → Option Refusal → Option Refusal
first_some (Some why) later = Some why
first_some None later = later

abbrev pub all_delivered : EndpointHistory → ℕ → List (List ℕ) → Option Refusal × EndpointHistory
all_delivered e id [] = (None, e)
all_delivered e id (p ∷ pieces) = (first_some (deliver e id p).0 (all_delivered (deliver e id p).1 id pieces).0, (all_delivered (deliver e id p).1 id pieces).1)

first_refused : (x : Option Refusal × EndpointHistory) (results : List Result) → first_refusal ((done Done x).0 ∷ results) ≡ first_some x.0 (first_refusal results)
first_refused (None, e) results = refl
first_refused (Some why, e) results = refl

done_end : (x : Option Refusal × EndpointHistory) → (done Done x).1 ≡ x.1
done_end (None, e) = refl
done_end (Some why, e) = refl

pub refusal_of : (e : EndpointHistory) (id : ℕ) (pieces : List (List ℕ)) → first_refusal (answers e (deliveries id pieces)) ≡ (all_delivered e id pieces).0
refusal_of e id [] = refl
refusal_of e id (p ∷ pieces) =
    first_refused (deliver e id p) (answers (called e (Deliver id p)).1 (deliveries id pieces))
    ∙ ap (λ f. first_some (deliver e id p).0 (first_refusal (answers f (deliveries id pieces)))) (done_end (deliver e id p)) ∙ ap (first_some (deliver e id p).0) (refusal_of (deliver e id p).1 id pieces)

pub end_of : (e : EndpointHistory) (id : ℕ) (pieces : List (List ℕ)) → endpoint_after e (deliveries id pieces) ≡ (all_delivered e id pieces).1
end_of e id [] = refl
end_of e id (p ∷ pieces) = ap (λ f. endpoint_after f (deliveries id pieces)) (done_end (deliver e id p)) ∙ end_of (deliver e id p).1 id pieces

-- a stream that refuses goes on so, and a closed endpoint
stays_all : (e : EndpointHistory) (id : ℕ) (why : Refusal) (pieces : List (List ℕ)) → ((any : List ℕ) → deliver e id any ≡ (Some why, e)) → (all_delivered e id pieces).1 ≡ e
stays_all e id why [] h = refl
stays_all e id why (p ∷ pieces) h = ap (λ x. (all_delivered x.1 id pieces).1) (h p) ∙ stays_all e id why pieces h

closed_all : (e : EndpointHistory) (id code : ℕ) (pieces : List (List ℕ)) → e.closed ≡ Some code → (all_delivered e id pieces).1.closed ≡ Some code
closed_all e id code [] is = is
closed_all e id code (p ∷ pieces) is =
    ap (λ x. (all_delivered x.1 id pieces).1.closed) (taken_closed e.closed code (delivery_refusal e id) e (bytes_at e id p (kind_of e.side id)) is) ∙ closed_all e id code pieces is

-- one delivery beside several
pub record GroupAlike (e : EndpointHistory) (id : ℕ) (bytes : List ℕ) (one several : Option Refusal × EndpointHistory) : Type 0 where
  pub refused : RefusedAlike e id bytes one.0 several.0
  pub ends : SameEnd one.1 several.1

same_side : (e : EndpointHistory) (id : ℕ) (bytes : List ℕ) → (deliver e id bytes).1.side ≡ e.side
same_side e id bytes = ap (λ f. f.side) (sym (done_end (deliver e id bytes))) ∙ (same_setup e (Deliver id bytes)).side

some_end : (e : EndpointHistory) (id : ℕ) (bytes : List ℕ) → DifferInCutsAlone e e → SameEnd (deliver e id bytes).1 (deliver e id bytes).1
some_end e id bytes d = by_closed (deliver e id bytes).1.closed refl
  where
    by_closed : (o : Option ℕ) → (deliver e id bytes).1.closed ≡ o → SameEnd (deliver e id bytes).1 (deliver e id bytes).1
    by_closed None is = BothOpen is is (delivered_itself e id bytes d is)
    by_closed (Some code) is = BothClosed code code is is

-- what is left as alike
ends_through : (one middle last : EndpointHistory) → one.closed ≡ middle.closed → (one.closed ≡ None → DifferInCutsAlone one middle) → SameEnd middle last → SameEnd one last
ends_through one middle last same left (BothOpen a b d) = BothOpen (same ∙ a) b (ends_trans one middle last (left (same ∙ a)) d)
ends_through one middle last same left (BothClosed code other a b) = BothClosed code other (same ∙ a) b

-- what the first bytes leave, where the settings did not come
record StillWaits (e f : EndpointHistory) (id : ℕ) (first rest : List ℕ) : Type 0 where
  role : role_with e id (first ++ rest) ≡ role_with f id rest
  settings : f.peer.settings ≡ None → role_with f id rest ≡ Control → e.peer.settings ≡ None
  unread : f.peer.settings ≡ None → role_with f id rest ≡ Control → f.decoder_unread ≡ e.decoder_unread

still_waits : (e : EndpointHistory) (id : ℕ) (first rest : List ℕ) → kind_of e.side id ≡ PeerUnidirectional → (deliver e id first).0 ≡ None → StillWaits e (deliver e id first).1 id first rest
still_waits e id first rest kind none = record {
  role = c.same_role ∙ sym there;
  settings = λ waits control. (by_heard c.heard.0 c.heard.1 refl (sym there ∙ control) (ap (λ g. g.peer.settings) (sym c.left) ∙ waits)).0;
  unread = λ waits control. ap (λ g. g.decoder_unread) c.left ∙ (by_heard c.heard.0 c.heard.1 refl (sym there ∙ control) (ap (λ g. g.peer.settings) (sym c.left) ∙ waits)).1;
}
  where
    c : RoleCut e id first rest
    c = role_cut_of e id first rest kind none

    o : Unidirectional
    o = unidirectional_at e id

    f : EndpointHistory
    f = (deliver e id first).1

    there : role_with (deliver e id first).1 id rest ≡ (role_after (known_streams e.announced) c.heard.0 rest).0
    there =
        ap (λ (own : Announced). (role_after (known_streams own) (unidirectional_at f id).role rest).0) c.announced
        ∙ ap (λ role. (role_after (known_streams e.announced) role rest).0) c.role_left

    Waits : EndpointHistory → Type 0
    Waits g = (e.peer.settings ≡ None) × (g.decoder_unread ≡ e.decoder_unread)

    control_waits : (heard : List ℕ) → c.heard ≡ (Control, heard) → (read_unidirectional e id o c.heard).0.peer.settings ≡ None → (e.peer.settings ≡ None) × ((read_unidirectional e id o c.heard).0.decoder_unread ≡ e.decoder_unread)
    control_waits heard at waits =
        let w = with_unidirectional e id (record o { role = Control }) in
        let g : EndpointHistory = record w { control_on = Some id } in
        let good : (heard_as w id Control heard).1 ≡ None = ap (λ x. (read_unidirectional e id o x).1) (sym at) ∙ c.good in
        let is : read_unidirectional e id o c.heard ≡ read_control g heard = ap (read_unidirectional e id o) at ∙ only_first w.control_on id w (read_control g heard) (read_control g heard) good in
        let quiet = quiet_until g heard (ap (λ x. x.0.peer.settings) (sym is) ∙ waits) in
        (quiet.0, ap (λ x. x.0.decoder_unread) is ∙ quiet.1)

    by_heard : (role : Role) (heard : List ℕ) → c.heard ≡ (role, heard) → (role_after (known_streams e.announced) role rest).0 ≡ Control → (read_unidirectional e id o c.heard).0.peer.settings ≡ None
        → (e.peer.settings ≡ None) × ((read_unidirectional e id o c.heard).0.decoder_unread ≡ e.decoder_unread)
    by_heard (Untold front) heard at control waits =
        let same : (read_unidirectional e id o c.heard).0 ≡ with_unidirectional e id (record o { role = Untold front }) = ap (λ x. (read_unidirectional e id o x).0) at in
        (ap (λ g. g.peer.settings) (sym same) ∙ waits, ap (λ g. g.decoder_unread) same)
    by_heard Control heard at control waits = control_waits heard at waits
    by_heard Encoder heard at control waits = absurd (cc)
    by_heard Decoder heard at control waits = absurd (cc)
    by_heard (Session n) heard at control waits = absurd (cc)
    by_heard (Push n) heard at control waits = absurd (cc)
    by_heard Ignored heard at control waits = absurd (cc)
    by_heard (Other kind) heard at control waits = absurd (cc)

-- the answers to several deliveries, and then those of a middle endpoint to all but the first
refused_through : (e : EndpointHistory) (id : ℕ) (first rest : List ℕ) (one middle last : Option Refusal) → (deliver e id first).0 ≡ None → kind_of e.side id ≡ kind_of (deliver e id first).1.side id → one ≡ middle
    → RefusedAlike (deliver e id first).1 id rest middle last → RefusedAlike e id (first ++ rest) one last
refused_through e id first rest one middle last none kinds same (Alike is) = Alike (same ∙ is)
refused_through e id first rest one middle last none kinds same (TwoFaults code other kind control waits unread a b) =
    let w = still_waits e id first rest (kinds ∙ kind) none in
    TwoFaults code other (kinds ∙ kind) (w.role ∙ control) (w.settings waits control) (λ empty. unread (w.unread waits control ∙ empty)) (same ∙ a) b

fails_group : (e : EndpointHistory) (id : ℕ) (bytes : List ℕ) (code : ℕ) (one several : Option Refusal × EndpointHistory) → FailsToo e id bytes code (bytes_at e id bytes (kind_of e.side id)).1
    → ((other : ℕ) → (bytes_at e id bytes (kind_of e.side id)).1 ≡ Some other → Failed other one) → several.0 ≡ Some (refusal.Connection code) → several.1.closed ≡ Some code → GroupAlike e id bytes one several
fails_group e id bytes code one several (SameFault found) fails answer closed =
    let f = fails code found in record { refused = Alike (f.answer ∙ sym answer); ends = BothClosed code code f.closed closed }
fails_group e id bytes code one several (OtherFault other kind control waits unread found) fails answer closed =
    let f = fails other found in record { refused = TwoFaults other code kind control waits unread f.answer answer; ends = BothClosed other code f.closed closed }

pub group : (pieces : List (List ℕ)) (p : List ℕ) (e : EndpointHistory) (id : ℕ) → DifferInCutsAlone e e → e.closed ≡ None
    → GroupAlike e id (p ++ concat pieces) (deliver e id (p ++ concat pieces)) (all_delivered e id (p ∷ pieces))
group [] p e id d open_still =
    subst (λ l. GroupAlike e id l (deliver e id l) (all_delivered e id (p ∷ []))) (sym (append-nil p)) (record { refused = Alike (alone (deliver e id p).0); ends = some_end e id p d })
  where
    alone : (o : Option Refusal) → o ≡ first_some o None
    alone None = refl
    alone (Some why) = refl
group (q ∷ pieces) p e id d open_still = by_fate (λ g still. group pieces q (deliver e id p).1 id g still) (fate e id p open_still)
  where
    rest : List ℕ
    rest = q ++ concat pieces

    Later : Type 0
    Later =
        let f = (deliver e id p).1 in
        DifferInCutsAlone f f → f.closed ≡ None → GroupAlike f id (q ++ concat pieces) (deliver f id (q ++ concat pieces)) (all_delivered f id (q ∷ pieces))

    by_fate : Later → Fate e id p → GroupAlike e id (p ++ (q ++ concat pieces)) (deliver e id (p ++ (q ++ concat pieces))) (all_delivered e id (p ∷ q ∷ pieces))
    by_fate go (Goes none) =
        let goes = goes_open e id p none in
        let f = (deliver e id p).1 in
        let cut = cut_any e id p rest d none in
        let later = go (delivered_itself e id p d goes.1) goes.1 in
        let side : e.side ≡ f.side = sym (same_side e id p) in
        record {
          refused =
              subst (λ o. RefusedAlike e id (p ++ rest) (deliver e id (p ++ rest)).0 (first_some o (all_delivered f id (q ∷ pieces)).0)) (sym none)
              (refused_through e id p rest (deliver e id (p ++ rest)).0 (deliver f id rest).0 (all_delivered f id (q ∷ pieces)).0 none (ap (λ s. kind_of s id) side) cut.answer later.refused);
          ends = ends_through (deliver e id (p ++ rest)).1 (deliver f id rest).1 (all_delivered f id (q ∷ pieces)).1 cut.closed cut.left later.ends;
        }
    by_fate go (Stays why same) = record {
      refused = Alike (ap (λ x. x.0) (same (p ++ rest)) ∙ sym (ap (λ x. first_some x.0 (all_delivered x.1 id (q ∷ pieces)).0) (same p)));
      ends =
          let last = stays_all e id why (p ∷ q ∷ pieces) same in
          BothOpen (ap (λ x. x.1.closed) (same (p ++ rest)) ∙ open_still) (ap (λ f. f.closed) last ∙ open_still)
          (subst (λ f. DifferInCutsAlone f (all_delivered e id (p ∷ q ∷ pieces)).1) (sym (ap (λ x. x.1) (same (p ++ rest)))) (subst (DifferInCutsAlone e) (sym last) d));
    }
    by_fate go (Fails code accepted found) =
        let f = failed e id p code open_still accepted found in
        fails_group e id (p ++ rest) code (deliver e id (p ++ rest)) (all_delivered e id (p ∷ q ∷ pieces)) (fails_too e id p rest code found) (λ other is. failed e id (p ++ rest) other open_still accepted is)
        (ap (λ o. first_some o (all_delivered (deliver e id p).1 id (q ∷ pieces)).0) f.answer)
        (closed_all (deliver e id p).1 id code (q ∷ pieces) f.closed)

-- the two ends of a part
turn_end : (one two : EndpointHistory) → SameEnd one two → SameEnd two one
turn_end one two (BothOpen a b d) = BothOpen b a (ends_sym one two d)
turn_end one two (BothClosed code other a b) = BothClosed other code b a

join_ends : (one two three : EndpointHistory) → SameEnd one two → SameEnd two three → SameEnd one three
join_ends one two three (BothOpen a b d) h = ends_through one two three (a ∙ sym b) (λ open_still. d) h
join_ends one two three (BothClosed code other a b) (BothClosed more last c d) = BothClosed code last a d
join_ends one two three (BothClosed code other a b) (BothOpen c d g) = let wrong : Some other ≡ None = sym b ∙ c in absurd (cc)

after_end : (x y : Option Refusal × EndpointHistory) → AlikeAfter x y → SameEnd x.1 y.1
after_end x y h = by_closed x.1.closed refl
  where
    by_closed : (o : Option ℕ) → x.1.closed ≡ o → SameEnd x.1 y.1
    by_closed None is = BothOpen is (sym h.closed ∙ is) (h.left is)
    by_closed (Some code) is = BothClosed code code is (sym h.closed ∙ is)

-- What waits and the role are those of an endpoint that differs in cuts alone.
moved : (e f : EndpointHistory) (id : ℕ) (bytes : List ℕ) (one two : Option Refusal) → f.side ≡ e.side → role_with f id bytes ≡ role_with e id bytes → f.peer ≡ e.peer → f.decoder_unread ≡ e.decoder_unread
    → RefusedAlike f id bytes one two → RefusedAlike e id bytes one two
moved e f id bytes one two side role peer unread (Alike is) = Alike is
moved e f id bytes one two side role peer unread (TwoFaults code other kind control waits some a b) =
    TwoFaults code other (ap (λ s. kind_of s id) (sym side) ∙ kind) (sym role ∙ control) (ap (λ p. p.settings) (sym peer) ∙ waits) (λ empty. some (unread ∙ empty)) a b

-- alike to one delivery, on both sides of it
between : (e : EndpointHistory) (id : ℕ) (bytes : List ℕ) (one first two second : Option Refusal) → one ≡ two → RefusedAlike e id bytes one first → RefusedAlike e id bytes two second → RefusedAlike e id bytes first second
between e id bytes one first two second same (Alike is) (Alike also) = Alike (sym is ∙ same ∙ also)
between e id bytes one first two second same (Alike is) (TwoFaults code other kind control waits some a b) = TwoFaults code other kind control waits some (sym is ∙ same ∙ a) b
between e id bytes one first two second same (TwoFaults code other kind control waits some a b) (Alike also) = TwoFaults other code kind control waits some b (sym also ∙ sym same ∙ a)
between e id bytes one first two second same (TwoFaults code other kind control waits some a b) (TwoFaults c o k l w s x y) = TwoFaults other o kind control waits some b y

pub cut_part : (e : EndpointHistory) (s : Streams Incoming) (t : Streams Unidirectional) (r : List DecoderInstruction) → Beside e s t r → e.closed ≡ None → (id : ℕ) (one two : List (List ℕ))
    → one ≢ [] → two ≢ [] → concat one ≡ concat two → GroupAlike e id (concat one) (all_delivered e id one) (all_delivered (with_streams e s t r) id two)
cut_part e s t r b open_still id [] two some others same = absurd (some refl)
cut_part e s t r b open_still id (p ∷ one) [] some others same = absurd (others refl)
cut_part e s t r b open_still id (p ∷ one) (q ∷ two) some others same =
    let f = with_streams e s t r in
    let d = beside_alike e s t r b in
    let all = p ++ concat one in
    let first = group one p e id (ends_first e f d) open_still in
    let second : GroupAlike f id all (deliver f id all) (all_delivered f id (q ∷ two)) =
    subst (λ l. GroupAlike f id l (deliver f id l) (all_delivered f id (q ∷ two))) (sym same) (group two q f id (ends_first f e (ends_sym e f d)) open_still) in
    let both = delivers_alike e s t r b id all in
    let role : role_with f id all ≡ role_with e id all = ap (λ (o : Unidirectional). (role_after (known_streams e.announced) o.role all).0) (sessions_here e s t r id b).same in
    record {
      refused = between e id all (deliver e id all).0 (all_delivered e id (p ∷ one)).0 (deliver f id all).0 (all_delivered f id (q ∷ two)).0 both.answer first.refused (moved e f id all _ _ refl role refl refl second.refused);
      ends = join_ends (all_delivered e id (p ∷ one)).1 (deliver e id all).1 (all_delivered f id (q ∷ two)).1 (turn_end _ _ first.ends)
          (join_ends (deliver e id all).1 (deliver f id all).1 (all_delivered f id (q ∷ two)).1 (after_end _ _ both) second.ends);
    }

-- the bytes of any stream in one delivery or in two
pub cut_alike : (e : EndpointHistory) (id : ℕ) (a b : List ℕ) → DifferInCutsAlone e e → (deliver e id a).0 ≡ None → SameAnswers DifferInCutsAlone (deliver e id (a ++ b)) (deliver_cut e id a b)
cut_alike e id a b d none = let h = cut_any e id a b d none in record { answer = h.answer; left = λ first. h.left (goes_open e id (a ++ b) first).1 }
