-- What was read up to some point is read so by the same end that judges plainly; and all that it does beside.
use Rattle.std.proofs.Common.{◌≡◌, ℕ, true, false, List, [], ◌∷◌, ◌++◌, refl, ap, sym, ◌∙◌, subst, Option, Some, None}
use Rattle.std.specs.Prelude.{fold, option_map}
use Rattle.h3_qpack.specs.EncoderHistory.{EncoderHistory}
use Rattle.h3_connection.specs.Arrivals.{is_closed_in, stream_of}
use Rattle.h3_connection.specs.Codes.{excessive_load}
use Rattle.h3_connection.specs.Control.{Found}
use Rattle.h3_connection.specs.Endpoint.{EndpointHistory, Kind, kind_of, limit_of}
use Rattle.h3_connection.specs.Endpoint.Kind.{OwnUnidirectional, PeerUnidirectional, Request, ServerOpened}
use Rattle.h3_connection.specs.Incoming.{Incoming}
use Rattle.h3_connection.specs.Keeping.{is_settled_request, keeping, opened_as, opened_by, read_arrival, refused_behind, settles_at}
use Rattle.h3_connection.specs.Listeners.{Decoding, hearing_fault, listening_fault}
use Rattle.h3_connection.specs.PartReading.{HearsPart, ListensPart, ReadsOn, ReadsPart, early, held_as}
use Rattle.h3_connection.specs.PartReading.ReadsOn.{Hears, Holds, Listens, ReadsFrames, ReadsFront, ReadsWhole}
use Rattle.h3_connection.specs.PartReading.ReadsPart.{Goes, Stops}
use Rattle.h3_connection.specs.PeerReading.{Peer, PeerFound, with_unread}
use Rattle.h3_connection.specs.Sending.{does}
use Rattle.h3_connection.specs.StreamSets.{stream_at}
use Rattle.h3_connection.specs.StrictConnection.{is_strict, kinds_of, known_streams}
use Rattle.h3_connection.specs.Delivering.{unidirectional_at, with_unidirectional}
use Rattle.h3_connection.specs.Unidirectional.{Role, role_after, with_bytes}
use Rattle.h3_connection.specs.Unidirectional.Role.{Control, Decoder, Encoder, Ignored, Push, Session, Untold, Other}
use Rattle.h3_connection.specs.declared.arrival.Arrival.{Arrival}
use Rattle.h3_connection.specs.declared.arrival.Arrival.TheVariants.{BytesCame}
use Rattle.h3_connection.specs.declared.event.Malformation.{Malformation}
use Rattle.h3_connection.specs.declared.event.Refusal.{Refusal}
use Rattle.h3_connection.specs.declared.setup.Announced.{Announced}
use Rattle.h3_headline.specs.PeerStreams.{no_limit}
use Rattle.h3_strict.specs.PlainAlike.{DoesPlainly, RulesPlainly}
use Rattle.h3_strict.specs.Plainly.{is_excess, plain_incoming, plainly}
use Rattle.h3_strict.proofs.InstructionReading.{HearsAlike, HearsLong, HearsSame, ListensAlike, ListensLong, ListensSame, hears_alike, listens_alike}
use Rattle.h3_strict.proofs.PlainPulled.{lists_plain}
use Rattle.h3_strict.proofs.PlainReading.{IsLong, IsTooLong, PeerPlainly, ReadsAlike, ReadsPlainly, ReadsSame, arrival_plain, bad_plain, learned_plain, opened_plain, peer_plain, plain_found, refused_plain, with_in}
use Rattle.h3_strict.proofs.PlainSends.{advances_plainly, cancels_alike, fields_alike, goaways_alike, heads_alike, opens_alike, told, trailer_fields_alike, trailers_alike}
use Rattle.h3_strict.proofs.PlainSteps.{finished, has_one, waits, was_reset}
use Rattle.h3_strict.proofs.PlainStreams.{at_each}

-- without a fault nothing was too long
pub found_plain : (own : Announced) (x y : Found) (new : EndpointHistory) → ReadsPlainly own x y → x ≡ (new, None) → y ≡ (plainly new, None)
found_plain own x y new (IsTooLong limit is) none = absurd (let never : false ≡ true = sym (ap (λ (f : Found). is_excess (is_strict own) f.1) none) ∙ is in cc)
found_plain own x y new (ReadsAlike same) none = same ∙ ap plain_found none

peer_found : (limit : ℕ) (x y : PeerFound) (read : Peer) → PeerPlainly limit x y → x ≡ (read, None) → y ≡ (read, None)
peer_found limit x y read (IsLong limited is keeps) none = absurd (let never : None ≡ Some excessive_load = sym (ap (λ (f : PeerFound). f.1) none) ∙ is in cc)
peer_found limit x y read (ReadsSame same) none = same ∙ none

held_plain : (e : EndpointHistory) (id : ℕ) (x : Role × List ℕ) → held_as (plainly e) id x ≡ plainly (held_as e id x)
held_plain e id (Control, bytes) = refl
held_plain e id (Encoder, bytes) = refl
held_plain e id (Decoder, bytes) = refl
held_plain e id (Untold front, bytes) = refl
held_plain e id (Session n, bytes) = refl
held_plain e id (Push n, bytes) = refl
held_plain e id (Ignored, bytes) = refl
held_plain e id (Other kind, bytes) = refl

hears_part : (most : ℕ) (old new : Decoding) → HearsPart most old new → HearsPart no_limit old new
hears_part most old new h = by_limit (hears_alike most old.decoder h.front)
  where
    by_limit : HearsAlike most old.decoder h.front → HearsPart no_limit old new
    by_limit (HearsLong limit is) = absurd (let never : None ≡ Some excessive_load = sym h.good ∙ is in cc)
    by_limit (HearsSame same fault) =
        record {
          front = h.front;
          rest = h.rest;
          cut = h.cut;
          good = ap (hearing_fault no_limit) same ∙ fault ∙ h.good;
          left = h.left ∙ ap (λ x. let d : Decoding = record { decoder = x.decoder; unread = x.left ++ h.rest } in d) (sym same);
        }

listens_part : (most : ℕ) (old new : EncoderHistory) (unread left : List ℕ) → ListensPart most old new unread left → ListensPart no_limit old new unread left
listens_part most old new unread left h = by_limit (listens_alike most old h.front)
  where
    by_limit : ListensAlike most old h.front → ListensPart no_limit old new unread left
    by_limit (ListensLong limit is) = absurd (let never : None ≡ Some excessive_load = sym h.good ∙ is in cc)
    by_limit (ListensSame same fault) =
        record {
          front = h.front;
          rest = h.rest;
          cut = h.cut;
          good = ap (listening_fault no_limit) same ∙ fault ∙ h.good;
          encoder = h.encoder ∙ ap (λ x. x.encoder) (sym same);
          left_is = h.left_is ∙ ap (λ x. x.left ++ h.rest) (sym same);
        }

step_plain : {e new : EndpointHistory} {arrivals more : List Arrival} → ReadsOn e arrivals new more → ReadsOn (plainly e) arrivals (plainly new) more
step_plain {e = e} {new = new} (ReadsWhole {a = a} is) = ReadsWhole (found_plain e.announced (read_arrival e a) (read_arrival (plainly e) a) new (arrival_plain e a) is)
step_plain {e = e} {new = new} (ReadsFront front rest {id = id} is) =
    ReadsFront front rest (found_plain e.announced (read_arrival e (BytesCame id front)) (read_arrival (plainly e) (BytesCame id front)) new (arrival_plain e (BytesCame id front)) is)
step_plain {e = e} (Holds {id = id} {bytes = bytes} {more = more} kind reader) =
    let o = unidirectional_at e id in
    let read_as = role_after (known_streams e.announced) o.role bytes in
    subst (λ x. ReadsOn (plainly e) (BytesCame id bytes ∷ more) x (BytesCame id [] ∷ more)) (held_plain (with_unidirectional e id (with_bytes o read_as)) id read_as) (Holds {e = plainly e} kind reader)
step_plain {e = e} (ReadsFrames {id = id} {p = p} {more = more} on may part) =
    subst (λ x. ReadsOn (plainly e) (BytesCame id [] ∷ more) x (BytesCame id [] ∷ early e p ++ more)) (learned_plain e.peer.settings p.settings (record e { peer = p }))
    (ReadsFrames on (record { first = may.first; taken = bad_plain e e.peer.settings p.settings ∙ may.taken })
    (record {
      front = part.front;
      rest = part.rest;
      cut = part.cut;
      read = part.read;
      reads = peer_found (limit_of e) _ _ part.read (peer_plain (kinds_of e.announced) (limit_of e) e.side (with_unread e.peer part.front)) part.reads;
      left = part.left;
    }))
step_plain {e = e} (Hears {d = d} on part) = Hears on (hears_part (limit_of e) e.decoding d part)
step_plain {e = e} (Listens {s = s} {left = left} on known part) = Listens on known (listens_part (limit_of e) e.encoder s e.decoder_unread left part)

-- a request stream of which something is kept is open
opens_kept : (e : EndpointHistory) (rest : List Arrival) → fold opened_by (plainly e) rest ≡ plainly (fold opened_by e rest)
opens_kept e [] = refl
opens_kept e (a ∷ rest) = ap (λ x. fold opened_by x rest) (one (kind_of e.side (stream_of a))) ∙ opens_kept (opened_by e a) rest
  where
    one : (k : Kind) → opened_as k (plainly e) (stream_of a) ≡ plainly (opened_as k e (stream_of a))
    one Request = opened_plain e (stream_of a)
    one ServerOpened = refl
    one OwnUnidirectional = refl
    one PeerUnidirectional = refl

stopped : (e : EndpointHistory) (rest : List Arrival) → keeping (plainly e) rest ≡ plainly (keeping e rest)
stopped e rest = ap (λ (x : EndpointHistory). record x { kept = rest }) (opens_kept e rest)

-- **What was read in part.**
pub part_plain : {e new : EndpointHistory} {arrivals : List Arrival} → ReadsPart e arrivals new → ReadsPart (plainly e) arrivals (plainly new)
part_plain (Stops {e = e} {rest = rest}) = subst (ReadsPart (plainly e) rest) (stopped e rest) (Stops {e = plainly e} {rest = rest})
part_plain (Goes step rest) = Goes (step_plain step) (part_plain rest)

settles_plain : (e : EndpointHistory) (id : ℕ) (k : Kind) → settles_at (plainly e) id k ≡ settles_at e id k
settles_plain e id Request = ap is_settled_request (at_each plain_incoming e.incoming id) ∙ of (stream_at e.incoming id)
  where
    of : (o : Option Incoming) → is_settled_request (option_map plain_incoming o) ≡ is_settled_request o
    of None = refl
    of (Some i) = refl
settles_plain e id PeerUnidirectional = refl
settles_plain e id ServerOpened = refl
settles_plain e id OwnUnidirectional = refl

called : {unread : Option Malformation} (p q : Option Refusal) (e f g h : EndpointHistory) → RulesPlainly unread p q → RulesPlainly unread (does p e f).0 (does q g h).0
called {unread = unread} p q e f g h rules = subst (λ x. RulesPlainly unread x (does q g h).0) (sym (told p e f)) (subst (RulesPlainly unread p) (sym (told q g h)) rules)

-- **All that an end does so.**
pub does_so : (e : EndpointHistory) → DoesPlainly e
does_so e =
    record {
      opens = called _ _ e _ (plainly e) _ (opens_alike e);
      head = λ id head. called _ _ e _ (plainly e) _ (heads_alike e id head);
      fields = λ id fields. called _ _ e _ (plainly e) _ (fields_alike e id fields);
      trailer = λ id trailer. called _ _ e _ (plainly e) _ (trailers_alike e id trailer);
      trailer_fields = λ id fields. called _ _ e _ (plainly e) _ (trailer_fields_alike e id fields);
      cancels = λ id. called _ _ e _ (plainly e) _ (cancels_alike e id);
      goes_away = λ id. called _ _ e _ (plainly e) _ (goaways_alike e id);
      advances = λ id count. advances_plainly e id count;
      waits = waits e;
      has_one = has_one e;
      finished = finished e;
      was_reset = was_reset e;
      accepts = λ id. ap (refused_behind (is_closed_in e.kept id)) (refused_plain e id);
      settles = λ id. settles_plain e id (kind_of e.side id);
      stream = λ id. at_each plain_incoming e.incoming id;
      sets = λ id i. with_in e id e i;
      lists = λ id. lists_plain e.kept e id;
      reads = λ arrivals new part. part_plain part;
    }
