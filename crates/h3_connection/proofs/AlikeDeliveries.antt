-- However the bytes of a stream are cut into deliveries, endpoints that differ in cuts alone answer alike and are left so.
use Rattle.std.proofs.Common.{Bool, ◌≡◌, ℕ, List, [], ◌++◌, refl, ap, sym, ◌∙◌, subst, append_assoc, Option, Some, None}
use Rattle.std.specs.List.{concat}
use Rattle.h3_frames.specs.Pieces.{with_piece}
use Rattle.h3_field.specs.Instruction.{DecoderInstruction}
use Rattle.h3_connection.specs.declared.event.Refusal.{Refusal}
use Rattle.h3_connection.specs.CallCuts.{joined_increments, SessionsDifferInCuts, EachStream, with_streams, DifferInCutsAlone}
use Rattle.h3_connection.specs.Control.{Found}
use Rattle.h3_connection.specs.Delivering.{delivery_refusal, refusal_at, unidirectional_at, with_unidirectional, taken, closed_by, read_unidirectional, bytes_at, deliver}
use Rattle.h3_connection.specs.DeliveryCuts.{LeftAs, IsNoSession, role_with, deliver_cut}
use Rattle.h3_connection.specs.Endpoint.{EndpointHistory, Kind, kind_of}
use Rattle.h3_connection.specs.Endpoint.Kind.{Request, ServerOpened, OwnUnidirectional, PeerUnidirectional}
use Rattle.h3_connection.specs.PullCuts.{HaveBytes, DifferInCuts, DifferInOneStream}
use Rattle.h3_connection.specs.StreamSets.{stream_at, set_stream}
use Rattle.h3_connection.specs.StreamSetLaws.{set-set, set-same}
use Rattle.h3_connection.specs.StrictConnection.{known_streams}
use Rattle.h3_connection.specs.Unidirectional.{Unidirectional, Role, role_after, with_bytes}
use Rattle.h3_connection.specs.Unidirectional.Role.{Untold, Control, Encoder, Decoder, Session, Push, Ignored, Other}
use Rattle.h3_connection.proofs.AlikeCalls.{AlikeAfter, closed_alike, delivers_alike}
use Rattle.h3_connection.proofs.AlikeEnds.{at_both, set_both, cuts_sym, or_nothing, or_untold, increments_alike, ends_sym}
use Rattle.h3_connection.proofs.AlikeReading.{Beside}
use Rattle.h3_connection.proofs.DeliveryCuts.{taken_good, RoleCut, role_cut_of, CutAs, found_cut, untold_cut}
use Rattle.h3_connection.proofs.PullCuts.{piece_bytes, have_piece}
use Rattle.h3_connection.proofs.ReadingCuts.{Alike}
use Rattle.h3_connection.proofs.ReadingStays.{bytes_stay}
use Rattle.h3_connection.proofs.RequestCuts.{request_cut}
use Rattle.h3_connection.proofs.RoleCuts.{then_role}

-- an endpoint beside itself
pub beside_itself : (e : EndpointHistory) → DifferInCutsAlone e e → Beside e e.incoming e.unidirectional e.own.replies
beside_itself e d = record { incoming = d.incoming; unidirectional = d.unidirectional; replies = refl }

pub delivered_itself : (e : EndpointHistory) (id : ℕ) (bytes : List ℕ) → DifferInCutsAlone e e → (deliver e id bytes).1.closed ≡ None → DifferInCutsAlone (deliver e id bytes).1 (deliver e id bytes).1
delivered_itself e id bytes d open_still = (delivers_alike e e.incoming e.unidirectional e.own.replies (beside_itself e d) id bytes).left open_still

-- what is left of bytes that came in two, by the stream's role
left_alike : (role : Role) (before : List DecoderInstruction) (one two : EndpointHistory) → DifferInCutsAlone one one → LeftAs role before one two → DifferInCutsAlone one two
left_alike (Untold front) before one two d h = subst (DifferInCutsAlone one) h d
left_alike Control before one two d h = subst (DifferInCutsAlone one) h d
left_alike Decoder before one two d h = subst (DifferInCutsAlone one) h d
left_alike (Session id) before one two d h = subst (DifferInCutsAlone one) h d
left_alike (Push id) before one two d h = subst (DifferInCutsAlone one) h d
left_alike Ignored before one two d h = subst (DifferInCutsAlone one) h d
left_alike (Other kind) before one two d h = subst (DifferInCutsAlone one) h d
left_alike Encoder before one two d h = record {
  incoming = subst (λ l. EachStream DifferInCuts one.incoming l) (ap (λ x. x.incoming) h.same) d.incoming;
  unidirectional = subst (λ l. EachStream SessionsDifferInCuts one.unidirectional l) (ap (λ x. x.unidirectional) h.same) d.unidirectional;
  replies = ap joined_increments h.apart ∙ increments_alike before h.first h.second ∙ sym (ap joined_increments h.at_once);
  same = sym (ap (λ x. with_streams x two.incoming two.unidirectional two.own.replies) h.same);
}

one_alike : (id : ℕ) (one two : EndpointHistory) → DifferInCutsAlone two two → DifferInOneStream id one two → DifferInCutsAlone one two
one_alike id one two d h =
    let here : set_stream two.incoming id h.second ≡ two.incoming = set-same two.incoming id h.second h.at_second in
    ends_sym two one (subst (DifferInCutsAlone two) (sym h.others) (record {
      incoming = subst (λ l. EachStream DifferInCuts l (set_stream two.incoming id h.first)) here (set_both DifferInCuts two.incoming two.incoming id h.second h.first d.incoming (cuts_sym h.first h.second h.differ));
      unidirectional = d.unidirectional;
      replies = refl;
      same = refl;
    }))

-- bytes that wait to be pulled, in one piece or in two
pieces_cut : (e : EndpointHistory) (id : ℕ) (o : Unidirectional) (role : Role) (rest b : List ℕ) → DifferInCutsAlone e e → HaveBytes o.unread
    → DifferInCutsAlone (with_unidirectional e id (record o { role = role; unread = with_piece o.unread (rest ++ b) }))
    (with_unidirectional (with_unidirectional e id (record o { role = role; unread = with_piece o.unread rest })) id (record o { role = role; unread = with_piece (with_piece o.unread rest) b }))
pieces_cut e id o role rest b d have =
    let u : Unidirectional = record o { role = role; unread = with_piece o.unread rest } in
    let at_once : Unidirectional = record o { role = role; unread = with_piece o.unread (rest ++ b) } in
    let apart : Unidirectional = record u { unread = with_piece u.unread b } in
    record {
      incoming = d.incoming;
      unidirectional =
          subst (λ l. EachStream SessionsDifferInCuts (set_stream e.unidirectional id at_once) l) (sym (set-set e.unidirectional id u apart))
          (set_both SessionsDifferInCuts e.unidirectional e.unidirectional id at_once apart d.unidirectional (record {
            bytes =
                piece_bytes u.unread b ∙ ap (λ l. l ++ b) (piece_bytes o.unread rest) ∙ append_assoc (concat o.unread) rest b ∙ sym (piece_bytes o.unread (rest ++ b));
            same = refl;
            first = have_piece o.unread (rest ++ b) have;
            second = have_piece u.unread b (have_piece o.unread rest have);
          }));
      replies = refl;
      same = refl;
    }

-- whether the bytes of a role wait so: those of a session do, and those of a stream of another type
abbrev IsHanded : Role → Type 0
IsHanded (Session n) = Unit {0}
IsHanded (Other kind) = Unit {0}
IsHanded _ = ⊥

data IsRole (role : Role) : Type 0 where
  OfHanded : IsHanded role → IsRole role
  OfOther : IsNoSession role → IsRole role

-- nothing differs on such a stream but the cuts
all_same : (role : Role) (before : List DecoderInstruction) (one two : Found) → IsHanded role → Alike (LeftAs role before) one two → Alike (λ x y. x ≡ y) one two
all_same (Session n) before one two h is = is
all_same (Other kind) before one two h is = is
all_same (Untold front) before one two h is = absurd h
all_same Control before one two h is = absurd h
all_same Encoder before one two h is = absurd h
all_same Decoder before one two h is = absurd h
all_same (Push n) before one two h is = absurd h
all_same Ignored before one two h is = absurd h

which_role : (role : Role) → IsRole role
which_role (Session n) = OfHanded tt
which_role (Untold front) = OfOther tt
which_role Control = OfOther tt
which_role Encoder = OfOther tt
which_role Decoder = OfOther tt
which_role (Push id) = OfOther tt
which_role Ignored = OfOther tt
which_role (Other kind) = OfHanded tt

from_alike : (Left : EndpointHistory → EndpointHistory → Type 0) (one two : Option Refusal × EndpointHistory) → ((x y : EndpointHistory) → one ≡ (None, x) → Left x y → DifferInCutsAlone x y) → CutAs Left one two → AlikeAfter one two
from_alike Left one two to c =
    subst (λ p. AlikeAfter p two) (sym c.first_is) (subst (λ p. AlikeAfter (closed_by c.first) p) (sym c.second_is)
    (closed_alike c.first c.second (record { answer = c.alike.answer; left = λ none. to c.first.0 c.second.0 (c.first_is ∙ goes c.first none) (c.alike.left none) })))
  where
    goes : (x : Found) → x.1 ≡ None → closed_by x ≡ (None, x.0)
    goes (x, None) none = refl
    goes (x, Some code) none = absurd (cc)

-- where the first bytes are taken
pub goes_open : (e : EndpointHistory) (id : ℕ) (bytes : List ℕ) → (deliver e id bytes).0 ≡ None → (e.closed ≡ None) × ((deliver e id bytes).1.closed ≡ None)
goes_open e id bytes none =
    let good = taken_good e.closed (delivery_refusal e id) e (bytes_at e id bytes (kind_of e.side id)) none in
    (good.0, ap (λ f. f.closed) good.3 ∙ (bytes_stay e id bytes (kind_of e.side id)).closed ∙ good.0)

peer_cut : (e : EndpointHistory) (id : ℕ) (a b : List ℕ) → DifferInCutsAlone e e → kind_of e.side id ≡ PeerUnidirectional → (deliver e id a).0 ≡ None → AlikeAfter (deliver e id (a ++ b)) (deliver_cut e id a b)
peer_cut e id a b d kind none = by_which (which_role (role_with e id (a ++ b)))
  where
    o : Unidirectional
    o = unidirectional_at e id

    have : HaveBytes o.unread
    have = (or_untold (stream_at e.unidirectional id) (stream_at e.unidirectional id) (at_both SessionsDifferInCuts e.unidirectional e.unidirectional id d.unidirectional)).first

    itself : (x : EndpointHistory) → deliver e id (a ++ b) ≡ (None, x) → DifferInCutsAlone x x
    itself x is =
        let goes = goes_open e id (a ++ b) (ap (λ p. p.0) is) in
        subst (λ f. DifferInCutsAlone f f) (ap (λ p. p.1) is) (delivered_itself e id (a ++ b) d goes.1)

    c : RoleCut e id a b
    c = role_cut_of e id a b kind none

    AtOnce : Role × List ℕ → Found
    AtOnce x = read_unidirectional e id o (then_role (known_streams e.announced) b x)

    Apart : Role × List ℕ → Found
    Apart x = read_unidirectional (read_unidirectional e id o x).0 id (with_bytes o x) (role_after (known_streams e.announced) x.0 b)

    cut_by : (Left : EndpointHistory → EndpointHistory → Type 0) → Alike Left (AtOnce c.heard) (Apart c.heard) → CutAs Left (deliver e id (a ++ b)) (deliver_cut e id a b)
    cut_by Left h = record { first = AtOnce c.heard; second = Apart c.heard; first_is = c.at_once; second_is = c.apart; alike = h }

    -- the role was told in the first bytes, or in the second
    handed : (role : Role) (rest : List ℕ) → c.heard ≡ (role, rest) → Alike DifferInCutsAlone (AtOnce (role, rest)) (Apart (role, rest)) → AlikeAfter (deliver e id (a ++ b)) (deliver_cut e id a b)
    handed role rest at cut = from_alike DifferInCutsAlone _ _ (λ x y same h. h) (cut_by DifferInCutsAlone (subst (λ x. Alike DifferInCutsAlone (AtOnce x) (Apart x)) (sym at) cut))

    by_heard : (role : Role) (rest : List ℕ) → c.heard ≡ (role, rest) → IsHanded (role_after (known_streams e.announced) role b).0 → AlikeAfter (deliver e id (a ++ b)) (deliver_cut e id a b)
    by_heard (Session n) rest at is = handed (Session n) rest at (record { answer = refl; left = λ none. pieces_cut e id o (Session n) rest b d have })
    by_heard (Other kind) rest at is = handed (Other kind) rest at (record { answer = refl; left = λ none. pieces_cut e id o (Other kind) rest b d have })
    by_heard (Untold front) rest at is =
        let none_left : rest ≡ [] = sym (ap (λ x. x.1) at) ∙ c.untold front (ap (λ x. x.0) at) in
        let same : Alike (λ x y. x ≡ y) (AtOnce (Untold front, rest)) (Apart (Untold front, rest)) =
        all_same (role_after (known_streams e.announced) (Untold front) b).0 e.own.replies _ _ is (untold_cut (known_streams e.announced) e id o front rest b none_left) in
        from_alike (λ x y. x ≡ y) _ _ (λ x y at_once h. subst (DifferInCutsAlone x) h (itself x at_once)) (cut_by (λ x y. x ≡ y) (subst (λ z. Alike (λ x y. x ≡ y) (AtOnce z) (Apart z)) (sym at) same))
    by_heard Control rest at is = absurd is
    by_heard Encoder rest at is = absurd is
    by_heard Decoder rest at is = absurd is
    by_heard (Push n) rest at is = absurd is
    by_heard Ignored rest at is = absurd is

    by_which : IsRole (role_with e id (a ++ b)) → AlikeAfter (deliver e id (a ++ b)) (deliver_cut e id a b)
    by_which (OfOther plain) = from_alike (LeftAs (role_with e id (a ++ b)) e.own.replies) _ _ (λ x y is h. left_alike (role_with e id (a ++ b)) e.own.replies x y (itself x is) h) (found_cut e id a b kind none plain)
    by_which (OfHanded is) = by_heard c.heard.0 c.heard.1 refl (subst IsHanded c.same_role is)

pub cut_any : (e : EndpointHistory) (id : ℕ) (a b : List ℕ) → DifferInCutsAlone e e → (deliver e id a).0 ≡ None → AlikeAfter (deliver e id (a ++ b)) (deliver_cut e id a b)
cut_any e id a b d none = by_kind (kind_of e.side id) refl
  where
    good : (e.closed ≡ None) × (delivery_refusal e id ≡ None) × ((bytes_at e id a (kind_of e.side id)).1 ≡ None) × ((deliver e id a).1 ≡ (bytes_at e id a (kind_of e.side id)).0)
    good = taken_good e.closed (delivery_refusal e id) e (bytes_at e id a (kind_of e.side id)) none

    by_kind : (k : Kind) → kind_of e.side id ≡ k → AlikeAfter (deliver e id (a ++ b)) (deliver_cut e id a b)
    by_kind PeerUnidirectional is = peer_cut e id a b d is none
    by_kind ServerOpened is = let wrong : Some _ ≡ None = ap (λ k. (bytes_at e id a k).1) (sym is) ∙ good.2 in absurd (cc)
    by_kind OwnUnidirectional is = let wrong : Some _ ≡ None = ap (refusal_at e id) (sym is) ∙ good.1 in absurd (cc)
    by_kind Request is =
        let have = (or_nothing (stream_at e.incoming id) (stream_at e.incoming id) (at_both DifferInCuts e.incoming e.incoming id d.incoming)).first in
        let h = request_cut e id a b is have in
        let first : (deliver e id (a ++ b)).0 ≡ None =
        ap (λ o. (taken o (delivery_refusal e id) e (bytes_at e id (a ++ b) (kind_of e.side id))).0) good.0 ∙ ap (λ o. (taken None o e (bytes_at e id (a ++ b) (kind_of e.side id))).0) good.1
        ∙ ap (λ k. (closed_by (bytes_at e id (a ++ b) k)).0) is in
        let one = goes_open e id (a ++ b) first in
        let middle = goes_open e id a none in
        let there = goes_open (deliver e id a).1 id b (sym h.answer ∙ first) in
        let two = delivered_itself (deliver e id a).1 id b (delivered_itself e id a d middle.1) there.1 in
        record { answer = h.answer; closed = one.1 ∙ sym there.1; left = λ open_still. one_alike id _ _ two (h.left first) }
