-- Bytes of a unidirectional stream of the peer that come in one delivery, or cut in two.
use Rattle.std.proofs.Common.{◌≡◌, ℕ, ◌+◌, Bool, true, false, List, [], ◌++◌, refl, ap, sym, ◌∙◌, subst, arith, append-nil, Option, Some, None}
use Rattle.std.specs.Prelude.{not, unwrap_or}
use Rattle.h3_connection.specs.declared.event.Refusal.{Refusal}
use Rattle.h3_connection.specs.declared.event.Refusal.TheVariants as refusal
use Rattle.h3_connection.specs.StreamSets.{stream_at}
use Rattle.h3_connection.specs.StreamSetLaws.{set-set, set-same}
use Rattle.h3_connection.specs.Endpoint.{EndpointHistory, limit_of, Kind, kind_of, is_second}
use Rattle.h3_connection.specs.Endpoint.Kind.{Request, ServerOpened, OwnUnidirectional, PeerUnidirectional}
use Rattle.h3_connection.specs.Listeners.{heard_more, insertions_heard}
use Rattle.h3_connection.specs.Control.{Found, increment, read_encoder, read_decoder, read_control}
use Rattle.h3_connection.specs.declared.setup.Announced.{Announced}
use Rattle.h3_connection.specs.StrictConnection.{known_streams}
use Rattle.h3_connection.specs.Unidirectional.{StreamKinds, Unidirectional, Role, untold, is_closed, role_after, with_bytes}
use Rattle.h3_connection.specs.Unidirectional.Role.{Untold, Control, Encoder, Decoder, Session, Push, Ignored, Other}
use Rattle.h3_connection.specs.Delivering.{closed_refusal, refusal_at, delivery_refusal, unidirectional_at, with_unidirectional, taken, closed_by, only_one, unless_second, heard_as, read_unidirectional, bytes_at, deliver}
use Rattle.h3_connection.specs.DeliveryCuts.{SameAnswers, IsSame, DiffersInIncrements, LeftAs, role_with, IsNoSession, deliver_cut}
use Rattle.h3_connection.proofs.Quiet.{quiet_control, quiet_decoder}
use Rattle.h3_connection.proofs.Seen.{at_same, eq_refl, HeardAs, heard_as_role, role_of_bytes}
use Rattle.h3_connection.proofs.RoleCuts.{then_role, role_cut, untold_leaves_none}
use Rattle.h3_connection.proofs.ControlCuts.{control_cut, control_on_stays, control_fault}
use Rattle.h3_connection.proofs.ReadingCuts.{Alike, alike_same, alike_as, encoder_cut, decoder_cut, decoder_on_stays, encoder_fault, decoder_fault}

-- the first stream of its role, where no fault was found
first_if : (b : Bool) (e : EndpointHistory) (found : Found) → (unless_second b e found).1 ≡ None → b ≡ false
first_if true e found none = cc
first_if false e found none = refl

pub only_first : (first : Option ℕ) (id : ℕ) (e : EndpointHistory) (found other : Found) → (only_one first id e found).1 ≡ None → only_one first id e other ≡ other
only_first first id e found other none = ap (λ b. unless_second b e other) (first_if (is_second first id) e found none)

only_same : (first : Option ℕ) (id : ℕ) (e : EndpointHistory) (found : Found) → first ≡ Some id → only_one first id e found ≡ found
only_same first id e found is = ap (λ o. only_one o id e found) is ∙ ap (λ same. unless_second (not same) e found) (eq_refl id)

-- the stream is read as before, behind its first bytes
control_again : (f : EndpointHistory) (id : ℕ) (u : Unidirectional) (b : List ℕ) → stream_at f.unidirectional id ≡ Some u → f.control_on ≡ Some id → heard_as (with_unidirectional f id u) id Control b ≡ read_control f b
control_again f id u b here on =
    let w = with_unidirectional f id u in
    let back : record w { control_on = Some id } ≡ f = ap (λ s. record f { unidirectional = s; control_on = Some id }) (set-same f.unidirectional id u here) ∙ ap (λ o. record f { control_on = o }) (sym on) in
    only_same f.control_on id w (read_control (record w { control_on = Some id }) b) on ∙ ap (λ e. read_control e b) back

encoder_again : (f : EndpointHistory) (id : ℕ) (u : Unidirectional) (b : List ℕ) → stream_at f.unidirectional id ≡ Some u → f.encoder_on ≡ Some id → heard_as (with_unidirectional f id u) id Encoder b ≡ read_encoder f b
encoder_again f id u b here on =
    let w = with_unidirectional f id u in
    let back : record w { encoder_on = Some id } ≡ f = ap (λ s. record f { unidirectional = s; encoder_on = Some id }) (set-same f.unidirectional id u here) ∙ ap (λ o. record f { encoder_on = o }) (sym on) in
    only_same f.encoder_on id w (read_encoder (record w { encoder_on = Some id }) b) on ∙ ap (λ e. read_encoder e b) back

decoder_again : (f : EndpointHistory) (id : ℕ) (u : Unidirectional) (b : List ℕ) → stream_at f.unidirectional id ≡ Some u → f.decoder_on ≡ Some id → heard_as (with_unidirectional f id u) id Decoder b ≡ read_decoder f b
decoder_again f id u b here on =
    let w = with_unidirectional f id u in
    let back : record w { decoder_on = Some id } ≡ f = ap (λ s. record f { unidirectional = s; decoder_on = Some id }) (set-same f.unidirectional id u here) ∙ ap (λ o. record f { decoder_on = o }) (sym on) in
    only_same f.decoder_on id w (read_decoder (record w { decoder_on = Some id }) b) on ∙ ap (λ e. read_decoder e b) back

control_heard : (e : EndpointHistory) (id : ℕ) (u : Unidirectional) (a b : List ℕ) → stream_at e.unidirectional id ≡ Some u → (heard_as e id Control a).1 ≡ None
    → Alike IsSame (heard_as e id Control (a ++ b)) (heard_as (with_unidirectional (heard_as e id Control a).0 id u) id Control b)
control_heard e id u a b here none =
    let g = record e { control_on = Some id } in
    let f = (read_control g a).0 in
    let at : (x : Found) → only_one e.control_on id e x ≡ x = λ x. only_first e.control_on id e (read_control g a) x none in
    let still : stream_at f.unidirectional id ≡ Some u = ap (λ s. stream_at s id) (quiet_control g a).unidirectional ∙ here in
    alike_as IsSame _ _ _ _ (at (read_control g (a ++ b)))
    (ap (λ x. heard_as (with_unidirectional x.0 id u) id Control b) (at (read_control g a)) ∙ control_again f id u b still (control_on_stays g a))
    (control_cut g a b (ap (λ x. x.1) (sym (at (read_control g a))) ∙ none))

decoder_heard : (e : EndpointHistory) (id : ℕ) (u : Unidirectional) (a b : List ℕ) → stream_at e.unidirectional id ≡ Some u → (heard_as e id Decoder a).1 ≡ None
    → Alike IsSame (heard_as e id Decoder (a ++ b)) (heard_as (with_unidirectional (heard_as e id Decoder a).0 id u) id Decoder b)
decoder_heard e id u a b here none =
    let g = record e { decoder_on = Some id } in
    let f = (read_decoder g a).0 in
    let at : (x : Found) → only_one e.decoder_on id e x ≡ x = λ x. only_first e.decoder_on id e (read_decoder g a) x none in
    let still : stream_at f.unidirectional id ≡ Some u = ap (λ s. stream_at s id) (quiet_decoder g a).unidirectional ∙ here in
    alike_as IsSame _ _ _ _ (at (read_decoder g (a ++ b)))
    (ap (λ x. heard_as (with_unidirectional x.0 id u) id Decoder b) (at (read_decoder g a)) ∙ decoder_again f id u b still (decoder_on_stays g a))
    (alike_same _ _ (decoder_cut g a b (ap (λ x. x.1) (sym (at (read_decoder g a))) ∙ none)))

encoder_heard : (e : EndpointHistory) (id : ℕ) (u : Unidirectional) (a b : List ℕ) → stream_at e.unidirectional id ≡ Some u → (heard_as e id Encoder a).1 ≡ None
    → Alike (DiffersInIncrements e.own.replies) (heard_as e id Encoder (a ++ b)) (heard_as (with_unidirectional (heard_as e id Encoder a).0 id u) id Encoder b)
encoder_heard e id u a b here none =
    let g = record e { encoder_on = Some id } in
    let f = (read_encoder g a).0 in
    let at : (x : Found) → only_one e.encoder_on id e x ≡ x = λ x. only_first e.encoder_on id e (read_encoder g a) x none in
    alike_as (DiffersInIncrements e.own.replies) _ _ _ _ (at (read_encoder g (a ++ b)))
    (ap (λ x. heard_as (with_unidirectional x.0 id u) id Encoder b) (at (read_encoder g a)) ∙ encoder_again f id u b here refl)
    (encoder_cut g a b (ap (λ x. x.1) (sym (at (read_encoder g a))) ∙ none))

-- bytes of which none came before the role was told
told_now : (w : EndpointHistory) (id : ℕ) (role : Role) (bytes : List ℕ) → Alike (LeftAs role w.own.replies) (heard_as w id role bytes) (heard_as w id role bytes)
told_now w id (Untold front) bytes = alike_same _ _ refl
told_now w id Control bytes = alike_same _ _ refl
told_now w id Decoder bytes = alike_same _ _ refl
told_now w id (Session n) bytes = alike_same _ _ refl
told_now w id (Push n) bytes = alike_same _ _ refl
told_now w id Ignored bytes = alike_same _ _ refl
told_now w id (Other kind) bytes = alike_same _ _ refl
told_now w id Encoder bytes = record {
  answer = refl;
  left = λ none.
      let g = record w { encoder_on = Some id } in
      let n = insertions_heard g.decoding (heard_more (limit_of g) g.decoding bytes) in
      let sum : n ≡ 0 + n = omega arith in
      let read : heard_as w id Encoder bytes ≡ read_encoder g bytes = only_first w.encoder_on id w (read_encoder g bytes) (read_encoder g bytes) none in
      record {
        first = 0;
        second = n;
        same = refl;
        at_once = ap (λ x. x.0.own.replies) read ∙ ap (λ k. w.own.replies ++ increment k) sum;
        apart = ap (λ x. x.0.own.replies) read ∙ ap (λ l. l ++ increment n) (sym (append-nil w.own.replies));
      };
}

with_bytes_on : (o : Unidirectional) (role : Role) (x : Role × List ℕ) → with_bytes (record o { role = role }) x ≡ with_bytes o x
with_bytes_on o role (Untold front, bytes) = refl
with_bytes_on o role (Control, bytes) = refl
with_bytes_on o role (Encoder, bytes) = refl
with_bytes_on o role (Decoder, bytes) = refl
with_bytes_on o role (Session id, bytes) = refl
with_bytes_on o role (Push id, bytes) = refl
with_bytes_on o role (Ignored, bytes) = refl
with_bytes_on o role (Other kind, bytes) = refl

set_again : (e : EndpointHistory) (id : ℕ) (u v : Unidirectional) → with_unidirectional (with_unidirectional e id u) id v ≡ with_unidirectional e id v
set_again e id u v = ap (λ s. record e { unidirectional = s }) (set-set e.unidirectional id u v)

pub untold_cut : (sessions : StreamKinds) (e : EndpointHistory) (id : ℕ) (o : Unidirectional) (front rest b : List ℕ) → rest ≡ []
    → Alike (LeftAs (role_after sessions (Untold front) b).0 e.own.replies) (read_unidirectional e id o (then_role sessions b (Untold front, rest)))
    (read_unidirectional (with_unidirectional e id (record o { role = Untold front })) id (record o { role = Untold front }) (role_after sessions (Untold front) b))
untold_cut sessions e id o front rest b none =
    let y = role_after sessions (Untold front) b in
    let u : Unidirectional = record o { role = Untold front } in
    let one : read_unidirectional e id o (y.0, rest ++ y.1) ≡ heard_as (with_unidirectional e id (with_bytes o y)) id y.0 y.1 = ap (λ l. read_unidirectional e id o (y.0, l ++ y.1)) none in
    let two : read_unidirectional (with_unidirectional e id u) id u y ≡ heard_as (with_unidirectional e id (with_bytes o y)) id y.0 y.1 =
    ap (λ w. heard_as w id y.0 y.1) (set_again e id u (with_bytes u y) ∙ ap (with_unidirectional e id) (with_bytes_on o (Untold front) y)) in
    alike_as (LeftAs y.0 e.own.replies) _ _ _ _ one two (told_now (with_unidirectional e id (with_bytes o y)) id y.0 y.1)

by_role : (sessions : StreamKinds) (e : EndpointHistory) (id : ℕ) (o : Unidirectional) (role : Role) (rest b : List ℕ) → (read_unidirectional e id o (role, rest)).1 ≡ None
    → ((front : List ℕ) → role ≡ Untold front → rest ≡ []) → IsNoSession (role_after sessions role b).0
    → Alike (LeftAs (role_after sessions role b).0 e.own.replies) (read_unidirectional e id o (then_role sessions b (role, rest)))
    (read_unidirectional (read_unidirectional e id o (role, rest)).0 id (with_bytes o (role, rest)) (role_after sessions role b))
by_role sessions e id o (Untold front) rest b good none plain = untold_cut sessions e id o front rest b (none front refl)
by_role sessions e id o Control rest b good none plain =
    let u : Unidirectional = record o { role = Control } in control_heard (with_unidirectional e id u) id u rest b (at_same e.unidirectional id u) good
by_role sessions e id o Encoder rest b good none plain =
    let u : Unidirectional = record o { role = Encoder } in encoder_heard (with_unidirectional e id u) id u rest b (at_same e.unidirectional id u) good
by_role sessions e id o Decoder rest b good none plain =
    let u : Unidirectional = record o { role = Decoder } in decoder_heard (with_unidirectional e id u) id u rest b (at_same e.unidirectional id u) good
by_role sessions e id o (Session n) rest b good none plain = absurd plain
by_role sessions e id o (Push n) rest b good none plain = absurd (cc)
by_role sessions e id o (Other kind) rest b good none plain = absurd plain
by_role sessions e id o Ignored rest b good none plain =
    let u : Unidirectional = record o { role = Ignored } in alike_same _ _ (ap (λ w. (w, None)) (sym (set_again e id u u)))

-- a delivery that is taken
pub taken_good : (closed : Option ℕ) (r : Option Refusal) (e : EndpointHistory) (found : Found) → (taken closed r e found).0 ≡ None → (closed ≡ None) × (r ≡ None) × (found.1 ≡ None) × ((taken closed r e found).1 ≡ found.0)
taken_good (Some code) r e found none = absurd (cc)
taken_good None (Some r) e found none = absurd (cc)
taken_good None None e (f, Some code) none = absurd (cc)
taken_good None None e (f, None) none = (refl, refl, refl, refl)

delivered_as : (e : EndpointHistory) (id : ℕ) (o : Unidirectional) (bytes : List ℕ) → e.closed ≡ None → kind_of e.side id ≡ PeerUnidirectional → delivery_refusal e id ≡ None → unidirectional_at e id ≡ o
    → deliver e id bytes ≡ closed_by (read_unidirectional e id o (role_after (known_streams e.announced) o.role bytes))
delivered_as e id o bytes open_still kind accepted is =
    ap (λ closed. taken closed (delivery_refusal e id) e (bytes_at e id bytes (kind_of e.side id))) open_still
    ∙ ap (λ refused. taken None refused e (bytes_at e id bytes (kind_of e.side id))) accepted
    ∙ ap (λ k. closed_by (bytes_at e id bytes k)) kind
    ∙ ap (λ (x : Unidirectional). closed_by (read_unidirectional e id x (role_after (known_streams e.announced) x.role bytes))) is

abbrev pub closed_answer : Option ℕ → Option Refusal
closed_answer None = None
closed_answer (Some code) = Some (refusal.Connection code)

pub answered : (found : Found) → (closed_by found).0 ≡ closed_answer found.1
answered (e, None) = refl
answered (e, Some code) = refl

closed_same : (Left : EndpointHistory → EndpointHistory → Type 0) (one two : Found) → Alike Left one two → SameAnswers Left (closed_by one) (closed_by two)
closed_same Left (x, None) (y, None) h = record { answer = refl; left = λ none. h.left refl }
closed_same Left (x, Some code) two h = record { answer = ap closed_answer h.answer ∙ sym (answered two); left = λ none. absurd (cc) }
closed_same Left (x, None) (y, Some code) h = let wrong : None ≡ Some code = h.answer in absurd (cc)

-- what two ways of a delivery find
pub record CutAs (Left : EndpointHistory → EndpointHistory → Type 0) (one two : Option Refusal × EndpointHistory) : Type 0 where
  pub first : Found
  pub second : Found
  pub first_is : one ≡ closed_by first
  pub second_is : two ≡ closed_by second
  pub alike : Alike Left first second

-- the role that all bytes give, and what is read of them at once and in two
pub record RoleCut (e : EndpointHistory) (id : ℕ) (a b : List ℕ) : Type 0 where
  pub heard : Role × List ℕ
  pub same_role : role_with e id (a ++ b) ≡ (role_after (known_streams e.announced) heard.0 b).0
  pub good : (read_unidirectional e id (unidirectional_at e id) heard).1 ≡ None
  pub untold : (front : List ℕ) → heard.0 ≡ Untold front → heard.1 ≡ []
  pub left : (deliver e id a).1 ≡ (read_unidirectional e id (unidirectional_at e id) heard).0
  pub announced : (deliver e id a).1.announced ≡ e.announced
  pub role_left : (unidirectional_at (deliver e id a).1 id).role ≡ heard.0
  pub at_once : deliver e id (a ++ b) ≡ closed_by (read_unidirectional e id (unidirectional_at e id) (then_role (known_streams e.announced) b heard))
  pub apart : deliver_cut e id a b ≡ closed_by (read_unidirectional (read_unidirectional e id (unidirectional_at e id) heard).0 id (with_bytes (unidirectional_at e id) heard) (role_after (known_streams e.announced) heard.0 b))

pub role_cut_of : (e : EndpointHistory) (id : ℕ) (a b : List ℕ) → kind_of e.side id ≡ PeerUnidirectional → (deliver e id a).0 ≡ None → RoleCut e id a b
role_cut_of e id a b kind none = record {
  heard = x;
  same_role = role;
  good = good;
  untold = untold_leaves_none _ o.role a;
  left = left;
  announced = ap (λ f. f.announced) left ∙ h.announced;
  role_left = ap (λ f. (unidirectional_at f id).role) left ∙ ap (λ (y : Unidirectional). y.role) there ∙ ap (λ y. y.role) (role_of_bytes o x);
  at_once = one;
  apart = two;
}
  where
    o : Unidirectional
    o = unidirectional_at e id

    x : Role × List ℕ
    x = role_after (known_streams e.announced) o.role a

    f : EndpointHistory
    f = (read_unidirectional e id o x).0

    u : Unidirectional
    u = with_bytes o x

    taken_all : (e.closed ≡ None) × (delivery_refusal e id ≡ None) × ((bytes_at e id a (kind_of e.side id)).1 ≡ None) × ((deliver e id a).1 ≡ (bytes_at e id a (kind_of e.side id)).0)
    taken_all = taken_good e.closed (delivery_refusal e id) e (bytes_at e id a (kind_of e.side id)) none

    good : (read_unidirectional e id o x).1 ≡ None
    good = ap (λ k. (bytes_at e id a k).1) (sym kind) ∙ taken_all.2

    left : (deliver e id a).1 ≡ f
    left = taken_all.3 ∙ ap (λ k. (bytes_at e id a k).0) kind

    role : role_with e id (a ++ b) ≡ (role_after (known_streams e.announced) x.0 b).0
    role = ap (λ y. y.0) (role_cut (known_streams e.announced) o.role a b)

    one : deliver e id (a ++ b) ≡ closed_by (read_unidirectional e id o (then_role (known_streams e.announced) b x))
    one = delivered_as e id o (a ++ b) taken_all.0 kind taken_all.1 refl ∙ ap (λ y. closed_by (read_unidirectional e id o y)) (role_cut (known_streams e.announced) o.role a b)

    h : HeardAs (with_unidirectional e id u) f id x
    h = heard_as_role (with_unidirectional e id u) id x.0 x.1 good

    there : unidirectional_at f id ≡ u
    there = ap (λ s. unwrap_or (stream_at s id) untold) h.unidirectional ∙ ap (λ y. unwrap_or y untold) (at_same e.unidirectional id u)

    still : kind_of f.side id ≡ PeerUnidirectional
    still = ap (λ s. kind_of s id) h.side ∙ kind

    open_now : delivery_refusal f id ≡ None
    open_now =
        ap (refusal_at f id) still ∙ ap (λ y. closed_refusal (is_closed y)) there ∙ ap (λ y. closed_refusal y.closed) (role_of_bytes o x)
        ∙ ap (refusal_at e id) (sym kind) ∙ taken_all.1

    two : deliver_cut e id a b ≡ closed_by (read_unidirectional f id u (role_after (known_streams e.announced) x.0 b))
    two =
        ap (λ g. deliver g id b) left ∙ delivered_as f id u b (h.closed ∙ taken_all.0) still open_now there
        ∙ ap (λ (own : Announced). closed_by (read_unidirectional f id u (role_after (known_streams own) u.role b))) h.announced
        ∙ ap (λ r. closed_by (read_unidirectional f id u (role_after (known_streams e.announced) r b))) (ap (λ y. y.role) (role_of_bytes o x))

pub cut_as : (Left : EndpointHistory → EndpointHistory → Type 0) (one two : Option Refusal × EndpointHistory) → CutAs Left one two → SameAnswers Left one two
cut_as Left one two c = subst (λ p. SameAnswers Left p two) (sym c.first_is) (subst (λ p. SameAnswers Left (closed_by c.first) p) (sym c.second_is) (closed_same Left c.first c.second c.alike))

pub found_cut : (e : EndpointHistory) (id : ℕ) (a b : List ℕ) → kind_of e.side id ≡ PeerUnidirectional → (deliver e id a).0 ≡ None → IsNoSession (role_with e id (a ++ b))
    → CutAs (LeftAs (role_with e id (a ++ b)) e.own.replies) (deliver e id (a ++ b)) (deliver_cut e id a b)
found_cut e id a b kind none plain =
    let c = role_cut_of e id a b kind none in
    let o = unidirectional_at e id in
    record {
      first = read_unidirectional e id o (then_role (known_streams e.announced) b c.heard);
      second = read_unidirectional (read_unidirectional e id o c.heard).0 id (with_bytes o c.heard) (role_after (known_streams e.announced) c.heard.0 b);
      first_is = c.at_once;
      second_is = c.apart;
      alike = subst (λ role. Alike (LeftAs role e.own.replies) (read_unidirectional e id o (then_role (known_streams e.announced) b c.heard)) (read_unidirectional (read_unidirectional e id o c.heard).0 id (with_bytes o c.heard) (role_after (known_streams e.announced) c.heard.0 b))) (sym c.same_role)
          (by_role (known_streams e.announced) e id o c.heard.0 c.heard.1 b c.good c.untold (subst IsNoSession c.same_role plain));
    }

pub cut_delivery : (e : EndpointHistory) (id : ℕ) (a b : List ℕ) → kind_of e.side id ≡ PeerUnidirectional → (deliver e id a).0 ≡ None → IsNoSession (role_with e id (a ++ b))
    → SameAnswers (LeftAs (role_with e id (a ++ b)) e.own.replies) (deliver e id (a ++ b)) (deliver_cut e id a b)
cut_delivery e id a b kind none plain = cut_as (LeftAs (role_with e id (a ++ b)) e.own.replies) _ _ (found_cut e id a b kind none plain)

-- a refused delivery
pub second_fault : (first : Option ℕ) (id : ℕ) (e : EndpointHistory) (found other : Found) (code : ℕ) → (only_one first id e found).1 ≡ Some code → (found.1 ≡ Some code → other.1 ≡ Some code) → (only_one first id e other).1 ≡ Some code
second_fault first id e found other code = by_second (is_second first id)
  where
    by_second : (b : Bool) → (unless_second b e found).1 ≡ Some code → (found.1 ≡ Some code → other.1 ≡ Some code) → (unless_second b e other).1 ≡ Some code
    by_second true is h = is
    by_second false is h = h is

pub role_fault : (e : EndpointHistory) (id : ℕ) (o : Unidirectional) (role : Role) (rest b : List ℕ) (code : ℕ) → (role ≡ Control → e.peer.settings ≡ None → e.decoder_unread ≡ [])
    → (read_unidirectional e id o (role, rest)).1 ≡ Some code → (read_unidirectional e id o (then_role (known_streams e.announced) b (role, rest))).1 ≡ Some code
role_fault e id o (Untold front) rest b code early is = absurd (cc)
role_fault e id o Control rest b code early is =
    let w = with_unidirectional e id (record o { role = Control }) in
    let g = record w { control_on = Some id } in
    second_fault e.control_on id w (read_control g rest) (read_control g (rest ++ b)) code is (control_fault g rest b code (early refl))
role_fault e id o Encoder rest b code early is =
    let w = with_unidirectional e id (record o { role = Encoder }) in
    let g = record w { encoder_on = Some id } in
    second_fault e.encoder_on id w (read_encoder g rest) (read_encoder g (rest ++ b)) code is (encoder_fault g rest b code)
role_fault e id o Decoder rest b code early is =
    let w = with_unidirectional e id (record o { role = Decoder }) in
    let g = record w { decoder_on = Some id } in
    second_fault e.decoder_on id w (read_decoder g rest) (read_decoder g (rest ++ b)) code is (decoder_fault g rest b code)
role_fault e id o (Session n) rest b code early is = is
role_fault e id o (Push n) rest b code early is = is
role_fault e id o Ignored rest b code early is = absurd (cc)
role_fault e id o (Other kind) rest b code early is = absurd (cc)

bytes_fault : (e : EndpointHistory) (id : ℕ) (a b : List ℕ) (k : Kind) (code : ℕ) → (e.peer.settings ≡ None → e.decoder_unread ≡ []) → (bytes_at e id a k).1 ≡ Some code → (bytes_at e id (a ++ b) k).1 ≡ Some code
bytes_fault e id a b Request code early is = absurd (cc)
bytes_fault e id a b ServerOpened code early is = is
bytes_fault e id a b OwnUnidirectional code early is = absurd (cc)
bytes_fault e id a b PeerUnidirectional code early is =
    let o = unidirectional_at e id in
    let x = role_after _ o.role a in
    ap (λ y. (read_unidirectional e id o y).1) (role_cut _ o.role a b) ∙ role_fault e id o x.0 x.1 b code (λ control. early) is

refused_alike : (closed : Option ℕ) (r : Option Refusal) (e : EndpointHistory) (found other : Found) (why : Refusal) → (taken closed r e found).0 ≡ Some why → ((code : ℕ) → found.1 ≡ Some code → other.1 ≡ Some code)
    → (taken closed r e other).0 ≡ Some why
refused_alike (Some code) r e found other why is h = is
refused_alike None (Some r) e found other why is h = is
refused_alike None None e (f, None) other why is h = absurd (cc)
refused_alike None None e (f, Some code) other why is h = answered other ∙ ap closed_answer (h code refl) ∙ is

refused_again : (e : EndpointHistory) (id : ℕ) (b : List ℕ) (closed : Option ℕ) (r : Option Refusal) (found : Found) (why : Refusal) → e.closed ≡ closed → delivery_refusal e id ≡ r → (taken closed r e found).0 ≡ Some why
    → (deliver (taken closed r e found).1 id b).0 ≡ Some why
refused_again e id b (Some code) r found why c d is = ap (λ o. (taken o (delivery_refusal e id) e (bytes_at e id b (kind_of e.side id))).0) c ∙ is
refused_again e id b None (Some r) found why c d is =
    ap (λ o. (taken o (delivery_refusal e id) e (bytes_at e id b (kind_of e.side id))).0) c ∙ ap (λ o. (taken None o e (bytes_at e id b (kind_of e.side id))).0) d ∙ is
refused_again e id b None None (f, None) why c d is = absurd (cc)
refused_again e id b None None (f, Some code) why c d is = is

pub refused_delivery : (e : EndpointHistory) (id : ℕ) (a b : List ℕ) (why : Refusal) → (e.peer.settings ≡ None → e.decoder_unread ≡ []) → (deliver e id a).0 ≡ Some why
    → ((deliver e id (a ++ b)).0 ≡ Some why) × ((deliver_cut e id a b).0 ≡ Some why)
refused_delivery e id a b why early is =
    let k = kind_of e.side id in (
      refused_alike e.closed (delivery_refusal e id) e (bytes_at e id a k) (bytes_at e id (a ++ b) k) why is (λ code. bytes_fault e id a b k code early),
      refused_again e id b e.closed (delivery_refusal e id) (bytes_at e id a k) why refl refl is,
    )
