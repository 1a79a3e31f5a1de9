-- Pulls that hand out as many bytes in pieces, asked of endpoints that differ in cuts alone, hand out the same.
use Rattle.std.proofs.Common.{arith, ◌≡◌, ℕ, zero, suc, Bool, true, false, if◌then◌else◌, List, [], ◌∷◌, ◌++◌, length, refl, ap, sym, ◌∙◌, subst, append_assoc, append-nil, Option, Some, None}
use Rattle.std.specs.Prelude.{nat_lt}
use Rattle.std.specs.List.{concat}
use Rattle.h3_field.specs.Instruction.{DecoderInstruction}
use Rattle.h3_qpack.specs.DecoderState.{DecoderState}
use Rattle.h3_proto.specs.declared.stream.Side.{Side}
use Rattle.h3_connection.specs.declared.setup.Announced.{Announced}
use Rattle.h3_connection.specs.declared.event.Pull.{Pull}
use Rattle.h3_connection.specs.declared.event.Pull.TheVariants as answer
use Rattle.h3_connection.specs.declared.event.Item.TheVariants as item
use Rattle.h3_connection.specs.declared.event.Fault.TheVariants as fault
use Rattle.h3_connection.specs.CallCuts.{SessionsDifferInCuts, with_streams, DifferInCutsAlone, bytes_of, ArePieces, handed_out, pulls_of}
use Rattle.h3_connection.specs.CallLists.{called, was_pulled, answers, endpoint_after}
use Rattle.h3_connection.specs.CallLists.Call.{PullStream}
use Rattle.h3_connection.specs.Delivering.{with_incoming, with_unidirectional}
use Rattle.h3_connection.specs.Endpoint.{EndpointHistory, Kind, kind_of, replied, heads_waiting}
use Rattle.h3_connection.specs.Endpoint.Kind.{Request, ServerOpened, OwnUnidirectional, PeerUnidirectional}
use Rattle.h3_connection.specs.Incoming.{Incoming}
use Rattle.h3_connection.specs.PullCuts.{piece_in, HaveBytes, DifferInCuts, PullsAlike, Same, Bodies, Raws}
use Rattle.h3_connection.specs.Pulling.{Pulled, body_of, raw_of, pull_stream}
use Rattle.h3_frames.specs.Pieces.{chunk_of, first_of}
use Rattle.h3_connection.specs.Sending.{after_answer, if_too_many, within_limit, pulled, pull_request, pulled_unidirectional, pull_peer, pull_at, pull_unless, pull}
use Rattle.h3_connection.specs.StreamSets.{Streams, stream_at, set_stream}
use Rattle.h3_connection.specs.StreamSetLaws.{set-here, set-set, set-same}
use Rattle.h3_connection.specs.Unidirectional.{Unidirectional, Role, raw, raw_or_reset, pull_other, pull_session, if_over, pull_unidirectional}
use Rattle.h3_connection.specs.Unidirectional.Role.{Untold, Control, Encoder, Decoder, Session, Push, Ignored, Other}
use Rattle.h3_connection.proofs.AlikeEnds.{OfBoth, at_both, set_both}
use Rattle.h3_connection.proofs.AlikePulls.{was_piece, not_none}
use Rattle.h3_connection.proofs.AlikeReading.{Beside, beside_alike}
use Rattle.h3_connection.proofs.JoinedPulls.{no_difference}
use Rattle.h3_connection.proofs.PieceRuns.{Runs, runs_meet}
use Rattle.h3_connection.proofs.PullCuts.{Pulls, Other, OfPayload, OfSession, in_chunk, cut_pulls, cut_pulled}

-- what a pull of a stream that is not closed does
pub open_pull : (e : EndpointHistory) (id : ℕ) (k : Kind) → e.closed ≡ None → kind_of e.side id ≡ k → pull e id ≡ pull_at e id k
open_pull e id k open_still is = ap (λ o. pull_unless o e (pull_at e id (kind_of e.side id))) open_still ∙ ap (pull_at e id) is

pub was_end : (x : Pull × EndpointHistory) → (was_pulled x).1 ≡ x.1
was_end (a, e) = refl

-- a piece is the answer as it was found
given_piece : (a : Pull) (g : EndpointHistory) (bytes : List ℕ) → piece_in (after_answer a g).0 ≡ Some bytes → (piece_in a ≡ Some bytes) × ((after_answer a g).1 ≡ g)
given_piece (answer.Fault (fault.Connection code)) g bytes is = absurd (cc)
given_piece (answer.Fault (fault.Stream f)) g bytes is = (is, refl)
given_piece (answer.Fault fault.Memory) g bytes is = (is, refl)
given_piece (answer.Item i) g bytes is = (is, refl)
given_piece answer.Pending g bytes is = (is, refl)
given_piece (answer.Waiting n) g bytes is = (is, refl)
given_piece answer.NoMessages g bytes is = (is, refl)

-- nothing is said to the peer's encoder beside a piece
body_replies : (i : Incoming) (x : Option (List ℕ) × List (List ℕ)) → (body_of i x).replies ≡ []
body_replies i (None, pieces) = refl
body_replies i (Some bytes, pieces) = refl

raw_replies : (i : Incoming) (x : Option (List ℕ) × List (List ℕ)) → (raw_of i x).replies ≡ []
raw_replies i (None, pieces) = by_end i.ended
  where
    by_end : (b : Bool) → (if b then record { answer = answer.Item item.End; incoming = record i { is_over = true }; replies = [] } else (let p : Pulled = record { answer = answer.Pending; incoming = i; replies = [] } in p)).replies ≡ []
    by_end true = refl
    by_end false = refl
raw_replies i (Some bytes, pieces) = refl

-- one pull of a request stream that hands out a piece
record PiecePulled (e : EndpointHistory) (id : ℕ) (bytes : List ℕ) (i : Incoming) : Type 0 where
  answer : piece_in (pull_stream e.side e.announced id e.decoding.decoder i).answer ≡ Some bytes
  after : (pull e id).1 ≡ with_incoming e id (pull_stream e.side e.announced id e.decoding.decoder i).incoming
  have : HaveBytes (pull_stream e.side e.announced id e.decoding.decoder i).incoming.unread

module _ (side : Side) (own : Announced) (id : ℕ) (r : DecoderState) (i : Incoming) (have : HaveBytes i.unread) where
  p : Pulled
  p = pull_stream side own id r i

  no_replies : (bytes : List ℕ) → piece_in (pull_stream side own id r i).answer ≡ Some bytes → (pull_stream side own id r i).replies ≡ []
  no_replies bytes is = by_pull (cut_pulls side own id r i i (no_difference i have))
    where
      by_pull : {size : ℕ} → Pulls size (pull_stream side own id r i) (pull_stream side own id r i) → (pull_stream side own id r i).replies ≡ []
      by_pull (Other none same replies d) = absurd (not_none (piece_in (pull_stream side own id r i).answer) bytes none is)
      by_pull (OfPayload j k h d some few e f) = ap (λ (x : Pulled). x.replies) (e ∙ in_chunk j h) ∙ body_replies j (chunk_of j.body_left j.unread)
      by_pull (OfSession j k h d few e f) = ap (λ (x : Pulled). x.replies) e ∙ raw_replies j (first_of j.unread)

  left_bytes : HaveBytes (pull_stream side own id r i).incoming.unread
  left_bytes = by_pull (cut_pulled side own id r i i (no_difference i have))
    where
      by_pull : PullsAlike (pull_stream side own id r i) (pull_stream side own id r i) → HaveBytes (pull_stream side own id r i).incoming.unread
      by_pull (Same a b d) = d.first
      by_pull (Bodies x y a b left h) = h.first
      by_pull (Raws x y a b left h) = h.first

piece_pulled : (e : EndpointHistory) (id : ℕ) (i : Incoming) (bytes : List ℕ) → e.closed ≡ None → kind_of e.side id ≡ Request → stream_at e.incoming id ≡ Some i → HaveBytes i.unread
    → piece_in (pull e id).0 ≡ Some bytes → PiecePulled e id bytes i
piece_pulled e id i bytes open_still request here have is = by_limit (nat_lt e.announced.limits.blocked (heads_waiting e.decoding.decoder (set_stream e.incoming id p.incoming))) refl
  where
    p : Pulled
    p = pull_stream e.side e.announced id e.decoding.decoder i

    at : pull e id ≡ pulled e id (within_limit e id p)
    at = open_pull e id Request open_still request ∙ ap (pull_request e id) here

    by_limit : (b : Bool) → nat_lt e.announced.limits.blocked (heads_waiting e.decoding.decoder (set_stream e.incoming id p.incoming)) ≡ b → PiecePulled e id bytes i
    by_limit true limit = absurd (not_none (piece_in (pull e id).0) bytes (ap (λ (x : Pull × EndpointHistory). piece_in x.0) (at ∙ ap (λ b. pulled e id (if_too_many b p)) limit)) is)
    by_limit false limit =
        let to : pull e id ≡ pulled e id p = at ∙ ap (λ b. pulled e id (if_too_many b p)) limit in
        let given = given_piece p.answer (replied (with_incoming e id p.incoming) p.replies) bytes (ap (λ (x : Pull × EndpointHistory). piece_in x.0) (sym to) ∙ is) in
        let silent : p.replies ≡ [] = no_replies e.side e.announced id e.decoding.decoder i have bytes given.0 in
        record {
          answer = given.0;
          after =
              ap (λ (x : Pull × EndpointHistory). x.1) to ∙ given.1 ∙ ap (λ l. replied (with_incoming e id p.incoming) l) silent
              ∙ ap (λ l. record (with_incoming e id p.incoming) { own = record e.own { replies = l } }) (append-nil e.own.replies);
          have = left_bytes e.side e.announced id e.decoding.decoder i have;
        }

-- so many of them
record RunsAt (n : ℕ) (e : EndpointHistory) (id : ℕ) (i : Incoming) : Type 0 where
  last : Incoming
  runs : Runs e.side e.announced id e.decoding.decoder n i (handed_out (answers e (pulls_of id n))) last
  after : endpoint_after e (pulls_of id n) ≡ with_incoming e id last

request_runs : (n : ℕ) (e : EndpointHistory) (id : ℕ) (i : Incoming) → e.closed ≡ None → kind_of e.side id ≡ Request → stream_at e.incoming id ≡ Some i → HaveBytes i.unread
    → ArePieces (answers e (pulls_of id n)) → RunsAt n e id i
request_runs zero e id i open_still request here have pieces =
    record { last = i; runs = (refl, refl); after = sym (ap (λ l. record e { incoming = l }) (set-same e.incoming id i here)) }
request_runs (suc n) e id i open_still request here have pieces =
    let bytes = pieces.0.0 in
    let one = piece_pulled e id i bytes open_still request here have (sym (was_piece (pull e id)) ∙ pieces.0.1) in
    let next = (pull_stream e.side e.announced id e.decoding.decoder i).incoming in
    let f = with_incoming e id next in
    let to : (called e (PullStream id)).1 ≡ f = was_end (pull e id) ∙ one.after in
    let later = request_runs n f id next open_still request (set-here e.incoming id next) one.have (subst (λ x. ArePieces (answers x (pulls_of id n))) to pieces.1) in
    record {
      last = later.last;
      runs = (
        bytes,
        handed_out (answers f (pulls_of id n)),
        one.answer,
        ap (λ o. bytes_of o ++ handed_out (answers (called e (PullStream id)).1 (pulls_of id n))) pieces.0.1 ∙ ap (λ x. bytes ++ handed_out (answers x (pulls_of id n))) to,
        later.runs,
      );
      after = ap (λ x. endpoint_after x (pulls_of id n)) to ∙ later.after ∙ ap (λ l. record e { incoming = l }) (set-set e.incoming id next later.last);
    }

-- a session that hands out a piece
record PieceOfSession (o : Unidirectional) (x : Pull × Unidirectional) (bytes : List ℕ) : Type 0 where
  others : List (List ℕ)
  is : o.unread ≡ bytes ∷ others
  left : x.1 ≡ record o { unread = others }

session_piece : (o : Unidirectional) (bytes : List ℕ) → piece_in (pull_unidirectional o o.role).0 ≡ Some bytes → PieceOfSession o (pull_unidirectional o o.role) bytes
session_piece o bytes = by_role o.role
  where
    ends_raw : Bool → Pull × Unidirectional
    ends_raw b = if b then (answer.Item item.End, record o { is_over = true }) else (answer.Pending, o)

    told_raw : ℕ → Bool → Pull × Unidirectional
    told_raw id told = if told then raw o o.unread else (answer.Item (item.Session id), record o { is_told = true })

    by_raw : (pieces : List (List ℕ)) → o.unread ≡ pieces → piece_in (raw o pieces).0 ≡ Some bytes → PieceOfSession o (raw o pieces) bytes
    by_raw (q ∷ pieces) is h = let same : q ≡ bytes = cc in record { others = pieces; is = is ∙ ap (λ l. l ∷ pieces) same; left = refl }
    by_raw [] is h = absurd (by_end o.ended h)
      where
        by_end : (b : Bool) → piece_in (ends_raw b).0 ≡ Some bytes → ⊥
        by_end true e = cc
        by_end false e = cc

    by_told : (id : ℕ) (told : Bool) → piece_in (told_raw id told).0 ≡ Some bytes → PieceOfSession o (told_raw id told) bytes
    by_told id true h = by_raw o.unread refl h
    by_told id false h = absurd (cc)

    by_reset : (id : ℕ) (code : Option ℕ) → piece_in (pull_session id o code).0 ≡ Some bytes → PieceOfSession o (pull_session id o code) bytes
    by_reset id (Some code) h = absurd (cc)
    by_reset id None h = by_told id o.is_told h

    by_over : (id : ℕ) (over : Bool) → piece_in (if_over over o id).0 ≡ Some bytes → PieceOfSession o (if_over over o id) bytes
    by_over id true h = absurd (cc)
    by_over id false h = by_reset id o.reset_code h

    by_code : (code : Option ℕ) → piece_in (raw_or_reset o code).0 ≡ Some bytes → PieceOfSession o (raw_or_reset o code) bytes
    by_code (Some code) h = absurd (cc)
    by_code None h = by_raw o.unread refl h

    by_left : (over : Bool) → piece_in (pull_other over o).0 ≡ Some bytes → PieceOfSession o (pull_other over o) bytes
    by_left true h = absurd (cc)
    by_left false h = by_code o.reset_code h

    untold_gives : (b c : Bool) → piece_in (if b then answer.NoMessages else (if c then answer.Pending else answer.NoMessages)) ≡ Some bytes → ⊥
    untold_gives true c h = cc
    untold_gives false true h = cc
    untold_gives false false h = cc

    by_role : (role : Role) → piece_in (pull_unidirectional o role).0 ≡ Some bytes → PieceOfSession o (pull_unidirectional o role) bytes
    by_role (Untold front) h = absurd (untold_gives _ _ h)
    by_role Control h = absurd (cc)
    by_role Encoder h = absurd (cc)
    by_role Decoder h = absurd (cc)
    by_role (Session id) h = by_over id o.is_over h
    by_role (Push id) h = absurd (cc)
    by_role Ignored h = absurd (cc)
    by_role (Other kind) h = by_left o.is_over h

pub told_is : (e : EndpointHistory) (id : ℕ) (x : Pull × Unidirectional) → pulled_unidirectional e id x ≡ (x.0, with_unidirectional e id x.1)
told_is e id (a, o) = refl

record RawsAt (n : ℕ) (e : EndpointHistory) (id : ℕ) (o : Unidirectional) : Type 0 where
  others : List (List ℕ)
  bytes : handed_out (answers e (pulls_of id n)) ++ concat others ≡ concat o.unread
  have : HaveBytes others
  after : endpoint_after e (pulls_of id n) ≡ with_unidirectional e id (record o { unread = others })

session_runs : (n : ℕ) (e : EndpointHistory) (id : ℕ) (o : Unidirectional) → e.closed ≡ None → kind_of e.side id ≡ PeerUnidirectional → stream_at e.unidirectional id ≡ Some o → HaveBytes o.unread
    → ArePieces (answers e (pulls_of id n)) → RawsAt n e id o
session_runs zero e id o open_still peer here have pieces =
    record { others = o.unread; bytes = refl; have = have; after = sym (ap (λ l. record e { unidirectional = l }) (set-same e.unidirectional id o here)) }
session_runs (suc n) e id o open_still peer here have pieces =
    let bytes = pieces.0.0 in
    let x = pull_unidirectional o o.role in
    let at : pull e id ≡ (x.0, with_unidirectional e id x.1) = open_pull e id PeerUnidirectional open_still peer ∙ ap (pull_peer e id) here ∙ told_is e id x in
    let one = session_piece o bytes (ap (λ (y : Pull × EndpointHistory). piece_in y.0) (sym at) ∙ sym (was_piece (pull e id)) ∙ pieces.0.1) in
    let next : Unidirectional = record o { unread = one.others } in
    let f = with_unidirectional e id next in
    let to : (called e (PullStream id)).1 ≡ f = was_end (pull e id) ∙ ap (λ (y : Pull × EndpointHistory). y.1) at ∙ ap (with_unidirectional e id) one.left in
    let full : HaveBytes (bytes ∷ one.others) = subst HaveBytes one.is have in
    let later = session_runs n f id next open_still peer (set-here e.unidirectional id next) full.1 (subst (λ z. ArePieces (answers z (pulls_of id n))) to pieces.1) in
    record {
      others = later.others;
      bytes =
          ap (λ l. (bytes_of l ++ handed_out (answers (called e (PullStream id)).1 (pulls_of id n))) ++ concat later.others) pieces.0.1
          ∙ ap (λ z. (bytes ++ handed_out (answers z (pulls_of id n))) ++ concat later.others) to
          ∙ append_assoc bytes (handed_out (answers f (pulls_of id n))) (concat later.others) ∙ ap (λ l. bytes ++ l) later.bytes ∙ sym (ap concat one.is);
      have = later.have;
      after = ap (λ z. endpoint_after z (pulls_of id n)) to ∙ later.after ∙ ap (λ l. record e { unidirectional = l }) (set-set e.unidirectional id next (record o { unread = later.others }));
    }

-- fronts of equal length are equal
same_front : (x y r s : List ℕ) → x ++ r ≡ y ++ s → length x ≡ length y → (x ≡ y) × (r ≡ s)
same_front [] [] r s e h = (refl, e)
same_front [] (b ∷ y) r s e h = absurd (omega (arith, h))
same_front (a ∷ x) [] r s e h = absurd (omega (arith, h))
same_front (a ∷ x) (b ∷ y) r s e h =
    let head : a ≡ b = cc in
    let tail : x ++ r ≡ y ++ s = cc in
    let later = same_front x y r s tail (omega (arith, h)) in
    (ap (λ c. c ∷ x) head ∙ ap (λ l. b ∷ l) later.0, later.1)

-- a stream that hands out no piece is not pulled for one
none_pulled : (n : ℕ) (e : EndpointHistory) (id : ℕ) → piece_in (pull e id).0 ≡ None → ArePieces (answers e (pulls_of id n)) → (handed_out (answers e (pulls_of id n)) ≡ []) × (endpoint_after e (pulls_of id n) ≡ e)
none_pulled zero e id none pieces = (refl, refl)
none_pulled (suc n) e id none pieces = absurd (not_none (piece_in (pull e id).0) pieces.0.0 none (sym (was_piece (pull e id)) ∙ pieces.0.1))

module _ (e : EndpointHistory) (s : Streams Incoming) (t : Streams Unidirectional) (r : List DecoderInstruction) (id m n : ℕ) (b : Beside e s t r) (open_still : e.closed ≡ None) where
  abbrev two : EndpointHistory
  two = with_streams e s t r

  -- the same bytes, and no fault
  pub record PiecesAlike (one other : EndpointHistory) : Type 0 where
    pub bytes : handed_out (answers e (pulls_of id m)) ≡ handed_out (answers two (pulls_of id n))
    pub left : DifferInCutsAlone one other
    pub first : one.closed ≡ None
    pub second : other.closed ≡ None

  first_end : EndpointHistory
  first_end = endpoint_after e (pulls_of id m)

  second_end : EndpointHistory
  second_end = endpoint_after two (pulls_of id n)

  module _ (pieces : ArePieces (answers e (pulls_of id m))) (others : ArePieces (answers two (pulls_of id n))) (size : length (handed_out (answers e (pulls_of id m))) ≡ length (handed_out (answers two (pulls_of id n)))) where
    as_before : piece_in (pull e id).0 ≡ None → piece_in (pull two id).0 ≡ None → PiecesAlike (endpoint_after e (pulls_of id m)) (endpoint_after two (pulls_of id n))
    as_before x y =
        let one = none_pulled m e id x pieces in
        let other = none_pulled n two id y others in
        record {
          bytes = one.0 ∙ sym other.0;
          left = subst (λ f. DifferInCutsAlone f (endpoint_after two (pulls_of id n))) (sym one.1) (subst (DifferInCutsAlone e) (sym other.1) (beside_alike e s t r b));
          first = ap (λ f. f.closed) one.1 ∙ open_still;
          second = ap (λ f. f.closed) other.1 ∙ open_still;
        }

    by_request : kind_of e.side id ≡ Request → (x y : Option Incoming) → stream_at e.incoming id ≡ x → stream_at s id ≡ y → OfBoth DifferInCuts x y → PiecesAlike (endpoint_after e (pulls_of id m)) (endpoint_after two (pulls_of id n))
    by_request request None None x y h =
        as_before (ap (λ (z : Pull × EndpointHistory). piece_in z.0) (open_pull e id Request open_still request ∙ ap (pull_request e id) x) ∙ nobody _)
        (ap (λ (z : Pull × EndpointHistory). piece_in z.0) (open_pull two id Request open_still request ∙ ap (pull_request two id) y) ∙ nobody _)
      where
        nobody : (c : Bool) → piece_in (if c then answer.NoMessages else answer.Pending) ≡ None
        nobody true = refl
        nobody false = refl
    by_request request None (Some j) x y h = absurd h
    by_request request (Some i) None x y h = absurd h
    by_request request (Some i) (Some j) x y h =
        let one = request_runs m e id i open_still request x h.first pieces in
        let other = request_runs n two id j open_still request y h.second others in
        let met = runs_meet e.side e.announced id e.decoding.decoder m n i j h _ _ one.last other.last one.runs other.runs size in
        record {
          bytes = met.0;
          left =
              subst (λ f. DifferInCutsAlone f (endpoint_after two (pulls_of id n))) (sym one.after) (subst (DifferInCutsAlone (with_incoming e id one.last)) (sym other.after)
              (record { incoming = set_both DifferInCuts e.incoming s id one.last other.last b.incoming met.1; unidirectional = b.unidirectional; replies = b.replies; same = refl }));
          first = ap (λ f. f.closed) one.after ∙ open_still;
          second = ap (λ f. f.closed) other.after ∙ open_still;
        }

    by_peer : kind_of e.side id ≡ PeerUnidirectional → (x y : Option Unidirectional) → stream_at e.unidirectional id ≡ x → stream_at t id ≡ y → OfBoth SessionsDifferInCuts x y
        → PiecesAlike (endpoint_after e (pulls_of id m)) (endpoint_after two (pulls_of id n))
    by_peer peer None None x y h =
        as_before (ap (λ (z : Pull × EndpointHistory). piece_in z.0) (open_pull e id PeerUnidirectional open_still peer ∙ ap (pull_peer e id) x))
        (ap (λ (z : Pull × EndpointHistory). piece_in z.0) (open_pull two id PeerUnidirectional open_still peer ∙ ap (pull_peer two id) y))
    by_peer peer None (Some p) x y h = absurd h
    by_peer peer (Some o) None x y h = absurd h
    by_peer peer (Some o) (Some p) x y h =
        let one = session_runs m e id o open_still peer x h.first pieces in
        let other = session_runs n two id p open_still peer y h.second others in
        let met = same_front _ _ (concat one.others) (concat other.others) (one.bytes ∙ sym h.bytes ∙ sym other.bytes) size in
        record {
          bytes = met.0;
          left =
              subst (λ f. DifferInCutsAlone f (endpoint_after two (pulls_of id n))) (sym one.after) (subst (DifferInCutsAlone (with_unidirectional e id (record o { unread = one.others }))) (sym other.after)
              (record {
                incoming = b.incoming;
                unidirectional = set_both SessionsDifferInCuts e.unidirectional t id _ _ b.unidirectional (record {
                  bytes = sym met.1;
                  same = ap (λ (z : Unidirectional). let w : Unidirectional = record z { unread = other.others } in w) h.same;
                  first = one.have;
                  second = other.have;
                });
                replies = b.replies;
                same = refl;
              }));
          first = ap (λ f. f.closed) one.after ∙ open_still;
          second = ap (λ f. f.closed) other.after ∙ open_still;
        }

    by_kind : (k : Kind) → kind_of e.side id ≡ k → PiecesAlike (endpoint_after e (pulls_of id m)) (endpoint_after two (pulls_of id n))
    by_kind Request is = by_request is (stream_at e.incoming id) (stream_at s id) refl refl (at_both DifferInCuts e.incoming s id b.incoming)
    by_kind PeerUnidirectional is = by_peer is (stream_at e.unidirectional id) (stream_at t id) refl refl (at_both SessionsDifferInCuts e.unidirectional t id b.unidirectional)
    by_kind ServerOpened is =
        as_before (ap (λ (z : Pull × EndpointHistory). piece_in z.0) (open_pull e id ServerOpened open_still is)) (ap (λ (z : Pull × EndpointHistory). piece_in z.0) (open_pull two id ServerOpened open_still is))
    by_kind OwnUnidirectional is =
        as_before (ap (λ (z : Pull × EndpointHistory). piece_in z.0) (open_pull e id OwnUnidirectional open_still is)) (ap (λ (z : Pull × EndpointHistory). piece_in z.0) (open_pull two id OwnUnidirectional open_still is))

    pub pieces_alike : PiecesAlike (endpoint_after e (pulls_of id m)) (endpoint_after two (pulls_of id n))
    pieces_alike = by_kind (kind_of e.side id) refl
