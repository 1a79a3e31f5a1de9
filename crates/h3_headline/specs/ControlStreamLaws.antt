-- What came of a control stream is read as its settings and its GOAWAY frames.
use Rattle.std.proofs.Common.{◌≡◌, ℕ, ◌-◌, List, sym, subst, zero, suc, refl, ap, ◌∙◌, ◌++◌, Some, None, ◌<◌, lit<, length, take, ◌^◌, false, ◌||◌, if◌then◌else◌, [], ◌∷◌, length-append, arith, ◌≤◌, flat_map, append-nil, append_assoc, nat_le, Bool, true, Option, drop}
use Rattle.h3_proto.specs.Config.{is_limit}
use Rattle.h3_frames.specs.ExcessiveLaws.{none_excessive_by}
use Rattle.h3_frames.specs.Known.{known_by}
use Rattle.h3_frames.specs.KnownLaws.{known-other}
use Rattle.h3_frames.specs.Fronts.{IsKnown, IsUnfinishedFront}
use Rattle.h3_frames.specs.UnfinishedLaws.{front_of_frame}
use Rattle.h3_frames.specs.declared.proto.frame.Frame.TheVariants as frame
use Rattle.h3_proto.specs.declared.stream.Side.{Side}
use Rattle.h3_frames.specs.Frames.{Front, frame_by, Whole, Unknown, Refused, Unfinished, settings_frame}
use Rattle.h3_connection.specs.OtherSettings.{with_others, with_told}
use Rattle.h3_connection.specs.OtherSettingsLaws.{others_more}
use Rattle.h3_connection.specs.PeerReading.{Peer, having_frame, with_unread, at_front, read_within, read_peer, read_frame, unless_fault, PeerFound, is_above, is_no_goaway}
use Rattle.h3_frames.specs.declared.proto.frame.Frame.{Frame}
use Rattle.h3_frames.specs.declared.proto.frame.PayloadLen.{PayloadLen}
use Rattle.h3_proto.specs.Pairs.{payload_of}
use Rattle.h3_frames.specs.Encoded.{frame_encoding}
use Rattle.h3_frames.specs.EncodedLaws.{written_settings, written_goaway, length-encoding}
use Rattle.h3_connection.specs.declared.setup.Announced.{Announced}
use Rattle.h3_connection.specs.Codes.{excessive_load, id_error}
use Rattle.h3_connection.specs.Endpoint.{goaway_encoding}
use Rattle.h3_connection.specs.Lasts.{last_id}
use Rattle.h3_connection.specs.OwnIds.{other}
use Rattle.std.specs.Prelude.{slice_get}
use Rattle.h3_coding.specs.Encodings.{encoding}
use Rattle.std.proofs.lemmas.Grind.{common_steps}
use Rattle.h3_qpack.specs.WholeInstructions.{rest_in}
use Rattle.h3_frames.specs.FrameLaws.{frame_by-nil}
use Rattle.h3_headline.specs.PeerStreams.{Announces, having_read, last_of, no_fault, no_limit}
use Rattle.h3_headline.specs.Standing.{AreGoaways, with_meaning}
use Rattle.h3_frames.specs.declared.frame.kinds.FrameKinds.{FrameKinds}

-- Without a limit all read alike.
front_alike : (go both : Peer → PeerFound) (side : Side) (p : Peer) (bytes : List ℕ) (x : Front) → ((q : Peer) → go q ≡ both q) → at_front go side p bytes x ≡ at_front both side p bytes x
front_alike go both side p bytes (Whole f rest) h = fault_alike (read_frame side (having_frame p f bytes rest) p.settings f)
  where
    fault_alike : (x : PeerFound) → unless_fault x go ≡ unless_fault x both
    fault_alike (q, Some code) = refl
    fault_alike (q, None) = h q
front_alike go both side p bytes (Unknown kind rest) h = refl
front_alike go both side p bytes (Refused e) h = refl
front_alike go both side p bytes (Unfinished least) h = refl

-- With the greatest limit nothing is too long.
pub unlimited : (kinds : FrameKinds) (most : ℕ) (side : Side) (p : Peer)
    → read_within kinds (suc most) no_limit side p ≡ at_front (read_within kinds most no_limit side) side p (known_by kinds p.unread) (frame_by kinds (known_by kinds p.unread))
unlimited kinds most side p =
    ap (λ b. if b then (with_unread p [], Some excessive_load) else at_front (read_within kinds most no_limit side) side p (known_by kinds p.unread) (frame_by kinds (known_by kinds p.unread))) (none_excessive_by kinds no_limit (known_by kinds p.unread) refl)

within_alike : (kinds : FrameKinds) (most limit : ℕ) (side : Side) (p : Peer) → is_limit limit ≡ false → read_within kinds most limit side p ≡ read_within kinds most no_limit side p
within_alike kinds zero limit side p any = refl
within_alike kinds (suc most) limit side p any =
    ap (λ b. if b then (with_unread p [], Some excessive_load) else at_front (read_within kinds most limit side) side p (known_by kinds p.unread) (frame_by kinds (known_by kinds p.unread))) (none_excessive_by kinds limit (known_by kinds p.unread) any)
    ∙ front_alike (read_within kinds most limit side) (read_within kinds most no_limit side) side p (known_by kinds p.unread) (frame_by kinds (known_by kinds p.unread)) (λ q. within_alike kinds most limit side q any)
    ∙ sym (unlimited kinds most side p)

pub without_limit : (kinds : FrameKinds) (limit : ℕ) (side : Side) (p : Peer) → is_limit limit ≡ false → read_peer kinds limit side p ≡ read_peer kinds no_limit side p
unfolding read_peer
without_limit kinds limit side p any = within_alike kinds (length p.unread) limit side p any

-- bytes that are no whole frame wait
unfinished_known : (kinds : FrameKinds) (bytes : List ℕ) → IsUnfinishedFront kinds bytes → known_by kinds bytes ≡ bytes
unfinished_known kinds bytes u = known-other kinds bytes (subst IsKnown (sym u.1) tt)

pub waits : (kinds : FrameKinds) (most : ℕ) (side : Side) (p : Peer) (bytes : List ℕ) → IsUnfinishedFront kinds bytes → read_within kinds most no_limit side (with_unread p bytes) ≡ no_fault (with_unread p bytes)
waits kinds zero side p bytes u = refl
waits kinds (suc most) side p bytes u =
    unlimited kinds most side (with_unread p bytes)
    ∙ ap (λ l. at_front (read_within kinds most no_limit side) side (with_unread p bytes) l (frame_by kinds l)) (unfinished_known kinds bytes u)
    ∙ ap (λ x. at_front (read_within kinds most no_limit side) side (with_unread p bytes) bytes x) u.1

-- a whole frame at the front
frame_read : (kinds : FrameKinds) (most : ℕ) (side : Side) (p : Peer) (bytes rest : List ℕ) (f : Frame PayloadLen) → frame_by kinds bytes ≡ Whole f rest
    → read_within kinds (suc most) no_limit side (with_unread p bytes) ≡ unless_fault (read_frame side (having_frame p f bytes rest) p.settings f) (read_within kinds most no_limit side)
frame_read kinds most side p bytes rest f e =
    unlimited kinds most side (with_unread p bytes)
    ∙ ap (λ l. at_front (read_within kinds most no_limit side) side (with_unread p bytes) l (frame_by kinds l)) (known-other kinds bytes (subst IsKnown (sym e) tt))
    ∙ ap (λ x. at_front (read_within kinds most no_limit side) side (with_unread p bytes) bytes x) e

-- The settings.
pub settings_read : (kinds : FrameKinds) (most : ℕ) (side : Side) (p : Peer) (a : Announced) (more : List ℕ) → Announces a → p.settings ≡ None
    → read_within kinds (suc most) no_limit side (with_unread p (frame_encoding 4 (payload_of a.settings) ++ more)) ≡ read_within kinds most no_limit side (with_unread (record p { settings = Some (with_meaning a.settings); others = with_told p.others (frame_encoding 4 (payload_of a.settings)) }) more)
settings_read kinds most side p a more h none =
    let kept = with_meaning a.settings in
    let front = frame_encoding 4 (payload_of a.settings) in
    let alone : frame_by kinds front ≡ Whole (frame.Settings kept) [] =
    ap (frame_by kinds) (sym (append-nil front)) ∙ written_settings kinds a.settings [] h.small ∙ ap (λ r. settings_frame r []) h.received in
    let whole : frame_by kinds (frame_encoding 4 (payload_of a.settings) ++ more) ≡ Whole (frame.Settings kept) more =
    written_settings kinds a.settings more h.small ∙ ap (λ r. settings_frame r more) h.received in
    frame_read kinds most side p (frame_encoding 4 (payload_of a.settings) ++ more) more (frame.Settings kept) whole
    ∙ ap (λ o. unless_fault (read_frame side (record p { unread = more; others = with_others o (frame.Settings kept) p.others (front ++ more) }) o (frame.Settings kept)) (read_within kinds most no_limit side)) none
    ∙ ap (λ x. read_within kinds most no_limit side (record p { unread = more; settings = Some kept; others = x })) (others_more kinds None (frame.Settings kept) p.others front more [] alone)

-- less than that is none
pub settings_wait : (kinds : FrameKinds) (a : Announced) (n : ℕ) → Announces a → n < length (frame_encoding 4 (payload_of a.settings)) → IsUnfinishedFront kinds (take n (frame_encoding 4 (payload_of a.settings)))
settings_wait kinds a n h less = front_of_frame kinds 4 (payload_of a.settings) n (lit< tt) h.small refl refl less

-- One GOAWAY frame.
goaway_read : (kinds : FrameKinds) (most : ℕ) (writer : Side) (p : Peer) (pairs : List (ℕ × ℕ)) (id : ℕ) (more : List ℕ) → p.settings ≡ Some pairs → id < 2 ^ 62
    → is_no_goaway (other writer) id ≡ false → is_above id (last_id p.goaways) ≡ false
    → read_within kinds (suc most) no_limit (other writer) (with_unread p (goaway_encoding id ++ more)) ≡ read_within kinds most no_limit (other writer) (with_unread (record p { goaways = p.goaways ++ id ∷ [] }) more)
goaway_read kinds most writer p pairs id more known small allowed below =
    let side = other writer in
    let go = read_within kinds most no_limit side in
    let q = with_unread p more in
    let next : PeerFound = no_fault (record q { goaways = p.goaways ++ id ∷ [] }) in
    frame_read kinds most side p (goaway_encoding id ++ more) more (frame.Goaway id) (written_goaway kinds id more small)
    ∙ ap (λ o. unless_fault (read_frame side (record p { unread = more; others = with_others o (frame.Goaway id) p.others (goaway_encoding id ++ more) }) o (frame.Goaway id)) go) known
    ∙ ap (λ b. unless_fault (if b || is_above id (last_id p.goaways) then (q, Some id_error) else next) go) allowed
    ∙ ap (λ b. unless_fault (if b then (q, Some id_error) else next) go) below

last_more : (xs : List ℕ) (x : ℕ) → slice_get (xs ++ x ∷ []) (length xs) ≡ Some x
last_more [] x = refl
last_more (y ∷ xs) x = last_more xs x

last_is : (xs : List ℕ) (x : ℕ) → last_id (xs ++ x ∷ []) ≡ Some x
last_is xs x =
    let e : length (xs ++ x ∷ []) - 1 ≡ length xs = omega (arith, length-append xs (x ∷ [])) in
    ap (λ n. slice_get (xs ++ x ∷ []) n) e ∙ last_more xs x

-- **GOAWAY frames one behind the other, and what is no whole one.**
pub goaways_read : (kinds : FrameKinds) (ids : List ℕ) (most : ℕ) (writer : Side) (p : Peer) (pairs : List (ℕ × ℕ)) (rest : List ℕ) → p.settings ≡ Some pairs → length ids ≤ most
    → AreGoaways writer (last_id p.goaways) ids → IsUnfinishedFront kinds rest
    → read_within kinds most no_limit (other writer) (with_unread p (flat_map goaway_encoding ids ++ rest)) ≡ no_fault (having_read p ids rest)
goaways_read kinds [] most writer p pairs rest known few g u =
    waits kinds most (other writer) p rest u ∙ ap (λ l. no_fault (record p { goaways = l; unread = rest })) (sym (append-nil p.goaways))
goaways_read kinds (id ∷ ids) zero writer p pairs rest known few g u = absurd (omega (arith, few))
goaways_read kinds (id ∷ ids) (suc most) writer p pairs rest known few g u =
    let q = record p { goaways = p.goaways ++ id ∷ [] } in
    let more = flat_map goaway_encoding ids ++ rest in
    ap (λ l. read_within kinds (suc most) no_limit (other writer) (with_unread p l)) (append_assoc (goaway_encoding id) (flat_map goaway_encoding ids) rest)
    ∙ goaway_read kinds most writer p pairs id more known g.0 g.1 g.2
    ∙ goaways_read kinds ids most writer q pairs rest known (omega (arith, few)) (subst (λ o. AreGoaways writer o ids) (sym (last_is p.goaways id)) g.3) u
    ∙ ap (λ l. no_fault (record p { goaways = l; unread = rest })) (append_assoc p.goaways (id ∷ []) ids)

-- what came of a frame that is not whole is no whole one
cut_unfinished : (kinds : FrameKinds) (id n : ℕ) → id < 2 ^ 62 → n < length (goaway_encoding id) → IsUnfinishedFront kinds (take n (goaway_encoding id))
cut_unfinished kinds id n small less = front_of_frame kinds 7 (encoding id) n (lit< tt) (omega (arith, length-encoding id small)) refl refl less

pub less_of : (a n : ℕ) → nat_le a n ≡ false → n < a
less_of a n e = grind (arith, common_steps, e)

pub rest_unfinished : (kinds : FrameKinds) (ids : List ℕ) (n : ℕ) (writer : Side) (before : Option ℕ) → AreGoaways writer before ids → IsUnfinishedFront kinds (rest_in goaway_encoding n ids)
rest_unfinished kinds [] n writer before g = (1, frame_by-nil kinds)
rest_unfinished kinds (id ∷ ids) n writer before g = by_test (nat_le (length (goaway_encoding id)) n) refl (rest_unfinished kinds ids (n - length (goaway_encoding id)) writer (Some id) g.3)
  where
    by_test : (b : Bool) → nat_le (length (goaway_encoding id)) n ≡ b → IsUnfinishedFront kinds (rest_in goaway_encoding (n - length (goaway_encoding id)) ids)
        → IsUnfinishedFront kinds (if b then rest_in goaway_encoding (n - length (goaway_encoding id)) ids else take n (goaway_encoding id))
    by_test true e later = later
    by_test false e later = cut_unfinished kinds id n g.0 (less_of (length (goaway_encoding id)) n e)

last_of_some : (id : ℕ) (ids : List ℕ) → last_of (Some id) ids ≡ slice_get (id ∷ ids) (length ids)
last_of_some id [] = refl
last_of_some id (next ∷ ids) = last_of_some next ids

pub last_of_none : (ids : List ℕ) → last_of None ids ≡ last_id ids
last_of_none [] = refl
last_of_none (id ∷ ids) = let e : length ids ≡ suc (length ids) - 1 = omega arith in last_of_some id ids ∙ ap (λ n. slice_get (id ∷ ids) n) e

-- parts of a list of GOAWAY frames are one
pub goaways_front : (writer : Side) (before : Option ℕ) (n : ℕ) (ids : List ℕ) → AreGoaways writer before ids → AreGoaways writer before (take n ids)
goaways_front writer before zero ids g = tt
goaways_front writer before (suc n) [] g = tt
goaways_front writer before (suc n) (id ∷ ids) g = (g.0, g.1, g.2, goaways_front writer (Some id) n ids g.3)

pub goaways_behind : (writer : Side) (before : Option ℕ) (n : ℕ) (ids : List ℕ) → AreGoaways writer before ids → AreGoaways writer (last_of before (take n ids)) (drop n ids)
goaways_behind writer before zero ids g = g
goaways_behind writer before (suc n) [] g = tt
goaways_behind writer before (suc n) (id ∷ ids) g = goaways_behind writer (Some id) n ids g.3

-- one more behind them
pub goaways_then : (writer : Side) (before : Option ℕ) (ids : List ℕ) (id : ℕ) → AreGoaways writer before ids → id < 2 ^ 62 → is_no_goaway (other writer) id ≡ false → is_above id (last_of before ids) ≡ false
    → AreGoaways writer before (ids ++ id ∷ [])
goaways_then writer before [] id g small allowed below = (small, allowed, below, tt)
goaways_then writer before (first ∷ ids) id g small allowed below = (g.0, g.1, g.2, goaways_then writer (Some first) ids id g.3 small allowed below)
