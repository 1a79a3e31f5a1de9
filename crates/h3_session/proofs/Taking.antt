-- What waits to be sent, and what is stored once some of it was taken.
use Rattle.std.proofs.Common.{arith, ◌≡◌, ℕ, zero, suc, ◌+◌, ◌-◌, ◌<◌, ◌≤◌, if◌then◌else◌, Bool, true, false, List, [], ◌∷◌, ◌++◌, length, Option, Some, None, refl, ap, sym, subst, ◌∙◌, inl, inr, append-nil, append_assoc, length-append}
use Rattle.std.specs.Prelude.{◌^◌, count_by, nat_lt, min, map, IfSome, is_some, option_map}
use Rattle.std.proofs.lemmas.List.{length-drop}
use Rattle.std.proofs.lemmas.Bool.{cases_Bool, cases_lt}
use Rattle.std.specs.List.{AllByRecursion}
use Rattle.h3_coding.specs.Encodings.{IsByte, encoding}
use Rattle.h3_coding.specs.EncodingLaws.{opened, encoding_is_valid}
use Rattle.h3_coding.specs.Opened.{Opened}
use Rattle.h3_frames.specs.Outgoing.{Outgoing as Piece, all_of, first_of_both}
use Rattle.h3_outgoing.specs.HistoryLaws.{waits, advanced}
use Rattle.h3_outgoing.specs.Held.{AreApart, front_of, past_of}
use Rattle.h3_outgoing.specs.HeldLaws.{begins, cut, front_bytes, front_in, front_out}
use Rattle.h3_outgoing.specs.Sent as sent
use Rattle.h3_unidirectional.specs.Owned.{waiting_on, having_taken}
use Rattle.h3_unidirectional.specs.OwnLaws.{waiting_is}
use Rattle.h3_streams.specs.Placed.{StreamsState, placed}
use Rattle.h3_connection.specs.Calls.{Sets}
use Rattle.h3_connection.specs.Endpoint.{EndpointHistory, own_waiting, bytes_waiting}
use Rattle.h3_requests.specs.Limited.{AreReceivers}
use Rattle.h3_connection.specs.Incoming.{Incoming}
use Rattle.h3_connection.specs.Outgoing.{Outgoing, OwnPart, OwnInterim, OwnHead, OwnBody, OwnTrailer, part_bytes_waiting}
use Rattle.h3_connection.specs.ReadingContracts.{IsSomeFront, LendsOutgoing, ShowsWaiting, ShowsHeads}
use Rattle.h3_connection.specs.Sending.{take_at}
use Rattle.h3_session.specs.Turns.{TakesBytes}
use Rattle.h3_connection.specs.StandsLaws.{stands_sending}
use Rattle.h3_connection.specs.State.{EndpointState, RequestState, OutgoingState, StandsFor, IsOfOutgoing, SameAt, kept_at}
use Rattle.h3_connection.specs.StreamSets.{Streams, stream_at}
use Rattle.h3_connection.specs.WaitingPieces.{piece_of, frame_piece, bytes_of, lent, without_front, pieces_waiting}
use Rattle.h3_connection.specs.WaitingPieceLaws.{without-within, without-past, first-bytes}
use Rattle.h3_session.specs.Held.{HoldsNone, LendsFront}
use Rattle.h3_session.specs.Refused.{streams_of, sender_in}
use Rattle.h3_session.proofs.SendingStands.{own_taken_stands}

-- What a history has of a request stream of which this is stored.
pub record Found (e : EndpointHistory) (id : ℕ) (w : OutgoingState) : Type 0 where
  pub o : Outgoing
  pub there : stream_at e.outgoing id ≡ Some o
  pub is : IsOfOutgoing o w

found_by : (e : EndpointHistory) (id : ℕ) (w : OutgoingState) (there : Option Outgoing) → stream_at e.outgoing id ≡ there → SameAt IsOfOutgoing there (Some w) → Found e id w
found_by e id w None was h = absurd h
found_by e id w (Some o) was h = record { o = o; there = was; is = h }

pub found : (s : EndpointState) (e : EndpointHistory) (id : ℕ) (w : OutgoingState) → StandsFor s e → sender_in s id ≡ Some w → Found e id w
found s e id w h was = found_by e id w (stream_at e.outgoing id) refl (subst (λ o. SameAt IsOfOutgoing (stream_at e.outgoing id) o) was (h.outgoing id))

none_by : (there : Option Outgoing) → SameAt IsOfOutgoing there None → there ≡ None
none_by None h = refl
none_by (Some o) h = absurd h

pub not_found : (s : EndpointState) (e : EndpointHistory) (id : ℕ) → StandsFor s e → sender_in s id ≡ None → stream_at e.outgoing id ≡ None
not_found s e id h was = none_by (stream_at e.outgoing id) (subst (λ o. SameAt IsOfOutgoing (stream_at e.outgoing id) o) was (h.outgoing id))

-- the bytes that wait on the stream of an id
pub request_waits : (s : EndpointState) (e : EndpointHistory) (id : ℕ) (w : OutgoingState) → StandsFor s e → sender_in s id ≡ Some w → bytes_of w.pieces ≡ bytes_waiting e id
request_waits s e id w h was =
    let f = found s e id w h was in
    waits f.o w f.is ∙ sym (ap (λ there. elim there [ None ↦ own_waiting e id | Some o ↦ part_bytes_waiting o ]) f.there)

pub own_waits : (s : EndpointState) (e : EndpointHistory) (id : ℕ) → StandsFor s e → sender_in s id ≡ None → waiting_on s.own s.side id ≡ bytes_waiting e id
own_waits s e id h was =
    ap (λ side. waiting_on s.own side id) h.side ∙ waiting_is s.own e id h.own
    ∙ sym (ap (λ there. elim there [ None ↦ own_waiting e id | Some o ↦ part_bytes_waiting o ]) (not_found s e id h was))

-- `advance`
few : (count most : ℕ) → min count most ≤ most
few count most = omega arith

advances_request_here : (s : EndpointState) (new : Streams RequestState) (id count : ℕ) (r : RequestState) → kept_at s.requests id ≡ Some r
    → Sets s.requests new id (record r { outgoing = sent.taken_from r.outgoing (min count (length (bytes_of r.outgoing.pieces))) }) → TakesBytes s (record s { requests = new }) id count
advances_request_here s new id count r was sets e h =
    let kept : sender_in s id ≡ Some r.outgoing = ap (option_map (λ r. r.outgoing)) was in
    let f = found s e id r.outgoing h kept in
    let taken = min count (length (bytes_of r.outgoing.pieces)) in
    let same : taken ≡ min count (length (bytes_waiting e id)) = ap (λ bytes. min count (length bytes)) (request_waits s e id r.outgoing h kept) in
    let fits : taken ≤ length (part_bytes_waiting f.o) = subst (λ bytes. taken ≤ length bytes) (waits f.o r.outgoing f.is) (few count (length (bytes_of r.outgoing.pieces))) in
    let here : StandsFor (record s { requests = new }) (take_at e id taken (Some f.o))
    = stands_sending s e new id r (record r { outgoing = sent.taken_from r.outgoing taken }) (record f.o { taken = f.o.taken + taken }) h was refl (advanced f.o r.outgoing taken f.is fits) sets in
    let there : StandsFor (record s { requests = new }) (take_at e id taken (stream_at e.outgoing id)) = subst (λ o. StandsFor (record s { requests = new }) (take_at e id taken o)) (sym f.there) here in
    subst (λ n. StandsFor (record s { requests = new }) (take_at e id n (stream_at e.outgoing id))) same there

advances_there : (s : EndpointState) (new : Streams RequestState) (id count : ℕ) (there : Option RequestState) → kept_at s.requests id ≡ there → is_some there ≡ true
    → IfSome there (λ r. Sets s.requests new id (record r { outgoing = sent.taken_from r.outgoing (min count (length (bytes_of r.outgoing.pieces))) }))
    → TakesBytes s (record s { requests = new }) id count
advances_there s new id count None was some sets = absurd (cc)
advances_there s new id count (Some r) was some sets = advances_request_here s new id count r was sets

pub advances_request : (s now : EndpointState) (new : Streams RequestState) (id count : ℕ) → s ≡ now → is_some (kept_at s.requests id) ≡ true
    → IfSome (kept_at s.requests id) (λ r. Sets s.requests new id (record r { outgoing = sent.taken_from r.outgoing (min count (length (bytes_of r.outgoing.pieces))) }))
    → TakesBytes now (record s { requests = new }) id count
advances_request s now new id count view some sets =
    subst (λ v. TakesBytes v (record s { requests = new }) id count) view (advances_there s new id count (kept_at s.requests id) refl some sets)

advances_own_here : (s : EndpointState) (id count taken : ℕ) → taken ≡ min count (length (waiting_on s.own s.side id)) → sender_in s id ≡ None
    → TakesBytes s (record s { own = having_taken s.own s.side id taken }) id count
advances_own_here s id count taken is was e h =
    let same : taken ≡ min count (length (bytes_waiting e id)) = is ∙ ap (λ bytes. min count (length bytes)) (own_waits s e id h was) in
    let fits : taken ≤ length (waiting_on s.own s.side id) = subst (λ n. n ≤ length (waiting_on s.own s.side id)) (sym is) (few count (length (waiting_on s.own s.side id))) in
    let new = record s { own = having_taken s.own s.side id taken } in
    let here : StandsFor new (take_at e id taken None) = own_taken_stands s e id taken h fits in
    let there : StandsFor new (take_at e id taken (stream_at e.outgoing id)) = subst (λ o. StandsFor new (take_at e id taken o)) (sym (not_found s e id h was)) here in
    subst (λ n. StandsFor new (take_at e id n (stream_at e.outgoing id))) same there

pub advances_own : (s now : EndpointState) (x : StreamsState) (id count taken : ℕ) → s ≡ now → taken ≡ min count (length (waiting_on now.own now.side id)) → sender_in now id ≡ None
    → x ≡ record (streams_of s) { own = having_taken s.own s.side id taken } → TakesBytes now (placed s x) id count
advances_own s now x id count taken view is was same =
    let new = record s { own = having_taken s.own s.side id taken } in
    subst (λ y. TakesBytes now (placed s y) id count) (sym same)
    (subst (λ v. taken ≡ min count (length (waiting_on v.own v.side id)) → sender_in v id ≡ None → TakesBytes v new id count) view (advances_own_here s id count taken) is was)

-- `outgoing`: each piece that waits has bytes
abbrev HasBytes : Piece → Type 0
HasBytes p = 0 < length (all_of p)

framed : (kind : ℕ) (payload : List ℕ) → kind < 2 ^ 62 → HasBytes (frame_piece kind payload)
framed kind payload small =
    let o : Opened kind (encoding kind) = opened kind (encoding kind) (encoding_is_valid kind small) in
    omega (arith, ap length o.is, length-append (encoding kind) (encoding (length payload)), length-append (encoding kind ++ encoding (length payload)) payload)

piece_has : (p : OwnPart) → HasBytes (piece_of p)
piece_has (OwnInterim section) = framed 1 section (omega arith)
piece_has (OwnHead section) = framed 1 section (omega arith)
piece_has (OwnBody bytes) = framed 0 bytes (omega arith)
piece_has (OwnTrailer section) = framed 1 section (omega arith)

-- the first of the pieces
abbrev FirstHas : List Piece → Type 0
FirstHas [] = Unit {0}
FirstHas (p ∷ pieces) = HasBytes p

first_has : (n : ℕ) (parts : List OwnPart) → FirstHas (without_front n (map piece_of parts))
first_has n [] = tt
first_has zero (p ∷ parts) = piece_has p
first_has (suc n) (p ∷ parts) = elim (cases_lt (suc n) (length (all_of (piece_of p)))) [
  | inl h ↦
      subst FirstHas (sym (without-within (suc n) (piece_of p) (map piece_of parts) (omega arith) h))
      (omega (arith, h, ap length (first-bytes (suc n) (piece_of p)), length-drop (suc n) (all_of (piece_of p))))
  | inr h ↦
      subst FirstHas (sym (without-past (suc n) (piece_of p) (map piece_of parts) (omega arith) h)) (first_has (suc n - length (all_of (piece_of p))) parts)
]

waiting_has : (o : Outgoing) → FirstHas (pieces_waiting o)
waiting_has o = by o.is_reset
  where
    by : (reset : Bool) → FirstHas (if reset then [] else without_front o.taken (map piece_of o.parts))
    by true = tt
    by false = first_has o.taken o.parts

front_by : (head payload rest : List ℕ) → 0 < length (head ++ payload) → IsSomeFront (first_of_both head payload) ((head ++ payload) ++ rest)
front_by [] payload rest h = record { rest = rest; all_is = refl; some = λ none. absurd (omega (arith, h, ap length none)) }
front_by (byte ∷ head) payload rest h = record { rest = payload ++ rest; all_is = append_assoc (byte ∷ head) payload rest; some = λ none. absurd (cc) }

first_piece : (pieces : List Piece) → FirstHas pieces → IsSomeFront (lent pieces) (bytes_of pieces)
first_piece [] h = record { rest = []; all_is = refl; some = λ none. refl }
first_piece (p ∷ pieces) h = front_by p.head p.payload (bytes_of pieces) h

-- what is in front of the first place of the caller's
placed_first : (b : ℕ) (front all : List ℕ) → IsSomeFront (b ∷ front) all → front_of (b ∷ front) ≡ [] → front_of all ≡ []
placed_first b front all h none = elim (cases_Bool (nat_lt b 256)) [
  | inl e ↦ absurd (omega (arith, ap length (sym (front_in b front e) ∙ none)))
  | inr e ↦ ap front_of h.all_is ∙ front_out b (front ++ h.rest) e
]

front_before : (front all : List ℕ) → IsSomeFront front all → IsSomeFront (front_of front) (front_of all)
front_before [] all h = record { rest = []; all_is = ap front_of (h.some refl); some = λ none. ap front_of (h.some refl) }
front_before (b ∷ front) all h = elim (cut (b ∷ front) h.rest) [
  | inl same ↦ record { rest = []; all_is = ap front_of h.all_is ∙ same ∙ sym (append-nil (front_of (b ∷ front))); some = placed_first b front all h }
  | inr more ↦ record { rest = front_of h.rest; all_is = ap front_of h.all_is ∙ more; some = placed_first b front all h }
]

pub lends_request : (s : EndpointState) (id : ℕ) (w : OutgoingState) (bytes : List ℕ) → sender_in s id ≡ Some w → bytes ≡ front_of (lent w.pieces) → LendsFront s id bytes
lends_request s id w bytes was is e h =
    let f = found s e id w h was in
    let has : FirstHas w.pieces = subst FirstHas (sym f.is.pieces) (waiting_has f.o) in
    subst (λ all. IsSomeFront bytes (front_of all)) (request_waits s e id w h was)
    (subst (λ front. IsSomeFront front (front_of (bytes_of w.pieces))) (sym is) (front_before (lent w.pieces) (bytes_of w.pieces) (first_piece w.pieces has)))

pub lends_own : (s : EndpointState) (id : ℕ) (bytes : List ℕ) → sender_in s id ≡ None → bytes ≡ waiting_on s.own s.side id → AllByRecursion IsByte bytes → LendsFront s id bytes
lends_own s id bytes was is each e h =
    let all = bytes_waiting e id in
    let same : bytes ≡ front_of all = sym (front_bytes bytes each) ∙ ap front_of (is ∙ own_waits s e id h was) in
    record { rest = []; all_is = sym (append-nil (front_of all)) ∙ ap (λ l. l ++ []) (sym same); some = λ none. sym same ∙ none }

-- where no place is among what waits
pub lends_all : (s : EndpointState) (id : ℕ) (bytes : List ℕ) → LendsFront s id bytes → HoldsNone s id → LendsOutgoing s id bytes
lends_all s id bytes lends none e h = subst (λ all. IsSomeFront bytes all) (none e h) (lends e h)

-- nothing was taken of any piece but the first
starts : (parts : List OwnPart) → past_of (bytes_of (map piece_of parts)) ≡ 0
starts [] = refl
starts (OwnInterim section ∷ parts) = begins 1 section (bytes_of (map piece_of parts)) (omega arith)
starts (OwnHead section ∷ parts) = begins 1 section (bytes_of (map piece_of parts)) (omega arith)
starts (OwnBody bytes ∷ parts) = begins 0 bytes (bytes_of (map piece_of parts)) (omega arith)
starts (OwnTrailer section ∷ parts) = begins 1 section (bytes_of (map piece_of parts)) (omega arith)

apart : (parts : List OwnPart) → AreApart (map piece_of parts)
apart [] = tt
apart (p ∷ parts) = (starts parts, apart parts)

left_apart : (n : ℕ) (parts : List OwnPart) → AreApart (without_front n (map piece_of parts))
left_apart n [] = tt
left_apart zero (p ∷ parts) = (starts parts, apart parts)
left_apart (suc n) (p ∷ parts) = elim (cases_lt (suc n) (length (all_of (piece_of p)))) [
  | inl h ↦ subst AreApart (sym (without-within (suc n) (piece_of p) (map piece_of parts) (omega arith) h)) (starts parts, apart parts)
  | inr h ↦ subst AreApart (sym (without-past (suc n) (piece_of p) (map piece_of parts) (omega arith) h)) (left_apart (suc n - length (all_of (piece_of p))) parts)
]

pub waiting_apart : (o : Outgoing) → AreApart (pieces_waiting o)
waiting_apart o = by o.is_reset
  where
    by : (reset : Bool) → AreApart (if reset then [] else without_front o.taken (map piece_of o.parts))
    by true = tt
    by false = left_apart o.taken o.parts

-- `waiting`
pub shows_request : (s : EndpointState) (id : ℕ) (w : OutgoingState) (count : ℕ) → sender_in s id ≡ Some w → count ≡ length (bytes_of w.pieces) → ShowsWaiting s id count
shows_request s id w count was is e h = is ∙ ap length (request_waits s e id w h was)

pub shows_own : (s : EndpointState) (id count : ℕ) → sender_in s id ≡ None → count ≡ length (waiting_on s.own s.side id) → ShowsWaiting s id count
shows_own s id count was is e h = is ∙ ap length (own_waits s e id h was)

-- `waiting_heads`
pub shows_heads : (s : EndpointState) (count inserted : ℕ) → inserted ≡ s.decoding.decoder.table.inserted
    → ((receivers : Streams Incoming) → AreReceivers receivers s.requests → count ≡ count_by (λ r. nat_lt inserted r.1.waits_for) receivers) → ShowsHeads s count
shows_heads s count inserted is counts e h =
    counts e.incoming (record { same = h.incoming; distinct = h.distinct }) ∙ ap (λ n. count_by (λ r. nat_lt n r.1.waits_for) e.incoming) (is ∙ ap (λ d. d.decoder.table.inserted) h.decoding)
