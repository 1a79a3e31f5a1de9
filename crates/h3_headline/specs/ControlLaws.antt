-- What an endpoint knows of the other side once so many bytes of its control stream came.
use Rattle.std.proofs.Common.{◌≡◌, [], ◌∷◌, refl, ◌+◌, ◌-◌, ◌<◌, ◌++◌, length, length-append, ap, arith, ℕ, ◌≤◌, List, flat_map, nat_le, true, take, drop, None, sym, ◌∙◌, subst, zero, suc, false, Some, Bool, lit<}
use Rattle.h3_coding.specs.Encodings.{encoding}
use Rattle.h3_coding.specs.Varint.{varint_at}
use Rattle.h3_coding.specs.VarintLaws.{none_at_end, reads_shortest}
use Rattle.h3_frames.specs.FirstFrames.{begins_other, is_other}
use Rattle.h3_proto.specs.Pairs.{payload_of}
use Rattle.h3_connection.specs.declared.setup.Announced.{Announced}
use Rattle.h3_world.specs.OwnStreams.{settings_bytes}
use Rattle.h3_connection.specs.Endpoint.{goaway_encoding}
use Rattle.h3_proto.specs.declared.stream.Side.{Side}
use Rattle.h3_connection.specs.OtherSettings.{with_told}
use Rattle.h3_connection.specs.PeerReading.{Peer, with_unread, read_within, read_peer}
use Rattle.std.proofs.lemmas.Grind.{common_steps}
use Rattle.h3_qpack.specs.WholeInstructions.{whole_in, rest_in}
use Rattle.h3_connection.specs.Lasts.{last_id}
use Rattle.h3_connection.specs.OwnIds.{other}
use Rattle.std.proofs.lemmas.List.{take-append-le}
use Rattle.h3_headline.specs.ControlStreamLaws.{goaways_behind, goaways_front, goaways_read, last_of_none, less_of, rest_unfinished, settings_read, settings_wait, waits}
use Rattle.h3_headline.specs.PeerStreams.{Announces, Reads, behind_type, new_bytes, no_fault, no_limit, peer_by, settings_frame_of}
use Rattle.h3_headline.specs.Standing.{AreGoaways, with_meaning}
use Rattle.h3_headline.specs.UnitLaws.{drop_past, front_is, goes_on, none_whole, take_both, take_past}
use Rattle.h3_headline.specs.WritesMoreLaws.{goaways_some, type_of_control}
use Rattle.h3_frames.specs.declared.frame.kinds.FrameKinds.{FrameKinds}

type_of_settings : encoding 4 ≡ 4 ∷ []
unfolding encoding
type_of_settings = refl

some_settings : (a : Announced) → 0 < length (settings_frame_of a)
some_settings a =
    let size = encoding (length (payload_of a.settings)) in
    omega (arith, ap length type_of_settings, length-append (encoding 4) size, length-append (encoding 4 ++ size) (payload_of a.settings))

-- the settings are behind the type of the stream
pub length_settings : (a : Announced) → length (settings_bytes a) ≡ 1 + length (settings_frame_of a)
length_settings a = omega (arith, ap length type_of_control, length-append (encoding 0) (settings_frame_of a))

few_goaways : (ids : List ℕ) → length ids ≤ length (flat_map goaway_encoding ids)
few_goaways [] = omega arith
few_goaways (id ∷ ids) = omega (arith, few_goaways ids, goaways_some.some id, length-append (goaway_encoding id) (flat_map goaway_encoding ids))

peer_within : (kinds : FrameKinds) (side : Side) (p : Peer) (bytes : List ℕ) → read_peer kinds no_limit side (with_unread p bytes) ≡ read_within kinds (length bytes) no_limit side (with_unread p bytes)
unfolding read_peer
peer_within kinds side p bytes = refl

fits_of : (a n : ℕ) → nat_le a n ≡ true → a ≤ n
fits_of a n e = grind (arith, common_steps, e)

-- the settings were there before
known_before : (writer : Side) (a : Announced) (came count : ℕ) (gs : List ℕ) → AreGoaways writer None gs → length (settings_bytes a) ≤ came → Reads writer a came count gs true true
known_before writer a came count gs all fits kinds top =
    let L = length (settings_bytes a) in
    let S = settings_frame_of a in
    let G = flat_map goaway_encoding gs in
    let size = length_settings a in
    let few = came - L in
    let many = came + count - L in
    let p = peer_by top a true came gs in
    let g = goes_on goaway_encoding few many gs (omega arith) in
    let behind = drop (whole_in goaway_encoding few gs) gs in
    let ids = take (whole_in goaway_encoding g.count behind) behind in
    let rest = rest_in goaway_encoding g.count behind in
    let bytes = new_bytes writer a came count gs in
    let place : came - 1 - length S ≡ few = omega (arith, size) in
    let sizes : came + count - 1 - (came - 1) ≡ many - few = omega (arith, size, fits) in
    let within : length S ≤ came - 1 = omega (arith, size, fits) in
    let new_is : bytes ≡ take (many - few) (drop few G) =
    ap (λ l. take (came + count - 1 - (came - 1)) l) (drop_past (came - 1) S G within) ∙ ap (λ n. take (came + count - 1 - (came - 1)) (drop n G)) place ∙ ap (λ n. take n (drop few G)) sizes in
    let cut : rest_in goaway_encoding few gs ++ bytes ≡ flat_map goaway_encoding ids ++ rest =
    ap (λ l. rest_in goaway_encoding few gs ++ l) new_is ∙ g.bytes ∙ front_is goaway_encoding g.count behind in
    let later = goaways_behind writer None (whole_in goaway_encoding few gs) gs all in
    let last : AreGoaways writer (last_id p.goaways) behind = subst (λ o. AreGoaways writer o behind) (last_of_none p.goaways) later in
    let enough : length ids ≤ length (flat_map goaway_encoding ids ++ rest) = omega (arith, few_goaways ids, length-append (flat_map goaway_encoding ids) rest) in
    peer_within kinds (other writer) p (rest_in goaway_encoding few gs ++ bytes)
    ∙ ap (λ l. read_within kinds (length l) no_limit (other writer) (with_unread p l)) cut
    ∙ goaways_read kinds ids (length (flat_map goaway_encoding ids ++ rest)) writer p (with_meaning a.settings) rest refl enough
    (goaways_front writer (last_id p.goaways) (whole_in goaway_encoding g.count behind) behind last) (rest_unfinished kinds behind g.count writer (last_id p.goaways) last)
    ∙ ap (λ l. no_fault (record p { goaways = l; unread = rest })) (sym g.whole)
    ∙ ap (λ l. no_fault (record p { goaways = take (whole_in goaway_encoding many gs) gs; unread = l })) (sym g.rest)

front_of_type : (n : ℕ) (xs : List ℕ) → drop 1 (take n (0 ∷ xs)) ≡ take (n - 1) xs
front_of_type zero xs = refl
front_of_type (suc n) xs = let e : n ≡ suc n - 1 = omega arith in ap (λ m. take m xs) e

-- what came of the settings
settings_front : (a : Announced) (n : ℕ) → drop 1 (take n (settings_bytes a)) ≡ take (n - 1) (settings_frame_of a)
settings_front a n = ap (λ l. drop 1 (take n (l ++ settings_frame_of a))) type_of_control ∙ front_of_type n (settings_frame_of a)

-- with what comes, it is a front of all behind the type
joined : (a : Announced) (came count : ℕ) (more : List ℕ) → came < length (settings_bytes a) → drop 1 (take came (settings_bytes a)) ++ behind_type came count (settings_frame_of a ++ more) ≡ take (came + count - 1) (settings_frame_of a ++ more)
joined a came count more short =
    let S = settings_frame_of a in
    let size = length_settings a in
    let bytes = behind_type came count (S ++ more) in
    ap (λ l. l ++ bytes) (settings_front a came ∙ sym (take-append-le (came - 1) S more (omega (arith, size, short)))) ∙ take_both (came - 1) (came + count - 1) (S ++ more) (omega arith)

-- it begins with SETTINGS, as far as it came
first_is_four : (n : ℕ) (xs : List ℕ) → begins_other (take n (4 ∷ xs)) ≡ false
first_is_four zero xs = ap is_other none_at_end
first_is_four (suc n) xs = ap is_other (subst (λ l. varint_at (l ++ take n xs) ≡ Some (4, take n xs)) type_of_settings (reads_shortest 4 (take n xs) (lit< tt)))

first_is_settings : (a : Announced) (n : ℕ) (more : List ℕ) → begins_other (take n (settings_frame_of a ++ more)) ≡ false
first_is_settings a n more =
    let rest = encoding (length (payload_of a.settings)) in
    ap (λ l. begins_other (take n (((l ++ rest) ++ payload_of a.settings) ++ more))) type_of_settings ∙ first_is_four n ((rest ++ payload_of a.settings) ++ more)

pub nothing_else_first : (a : Announced) (came count : ℕ) (more : List ℕ) → came < length (settings_bytes a) → begins_other (drop 1 (take came (settings_bytes a)) ++ behind_type came count (settings_frame_of a ++ more)) ≡ false
nothing_else_first a came count more short = ap begins_other (joined a came count more short) ∙ first_is_settings a (came + count - 1) more

no_goaways : (a : Announced) (n : ℕ) (gs : List ℕ) → n < length (settings_bytes a) → take (whole_in goaway_encoding (n - length (settings_bytes a)) gs) gs ≡ []
no_goaways a n gs short =
    let none : n - length (settings_bytes a) ≡ 0 = omega (arith, short) in
    ap (λ m. take (whole_in goaway_encoding m gs) gs) none ∙ ap (λ k. take k gs) (none_whole goaway_encoding goaways_some gs)

still_unknown : (writer : Side) (a : Announced) (came count : ℕ) (gs : List ℕ) → Announces a → came + count < length (settings_bytes a) → Reads writer a came count gs false false
still_unknown writer a came count gs h short kinds top =
    let S = settings_frame_of a in
    let G = flat_map goaway_encoding gs in
    let size = length_settings a in
    let some = some_settings a in
    let p = peer_by top a false came gs in
    let many = came + count - 1 in
    let less : many < length S = omega (arith, size, short, some) in
    let all : p.unread ++ new_bytes writer a came count gs ≡ take many S =
    joined a came count G (omega (arith, short)) ∙ take-append-le many S G (omega (arith, less)) in
    let same : came - length (settings_bytes a) ≡ came + count - length (settings_bytes a) = omega (arith, short) in
    peer_within kinds (other writer) p (p.unread ++ new_bytes writer a came count gs)
    ∙ ap (λ l. read_within kinds (length l) no_limit (other writer) (with_unread p l)) all
    ∙ waits kinds (length (take many S)) (other writer) p (take many S) (settings_wait kinds a many h less)
    ∙ ap (λ l. no_fault (with_unread p l)) (sym (settings_front a (came + count)))
    ∙ ap (λ n. no_fault (record p { unread = drop 1 (take (came + count) (settings_bytes a)); goaways = take (whole_in goaway_encoding n gs) gs })) same

now_known : (writer : Side) (a : Announced) (came count : ℕ) (gs : List ℕ) → Announces a → AreGoaways writer None gs → came < length (settings_bytes a) → length (settings_bytes a) ≤ came + count → Reads writer a came count gs false true
now_known writer a came count gs h all short fits kinds top =
    let L = length (settings_bytes a) in
    let S = settings_frame_of a in
    let G = flat_map goaway_encoding gs in
    let size = length_settings a in
    let some = some_settings a in
    let p = peer_by top a false came gs in
    let n = came + count - L in
    let ids = take (whole_in goaway_encoding n gs) gs in
    let rest = rest_in goaway_encoding n gs in
    let more = flat_map goaway_encoding ids ++ rest in
    let within : length S ≤ came + count - 1 = omega (arith, size, fits) in
    let place : came + count - 1 - length S ≡ n = omega (arith, size, fits) in
    let cut : p.unread ++ new_bytes writer a came count gs ≡ S ++ more =
    joined a came count G short ∙ take_past (came + count - 1) S G within ∙ ap (λ m. S ++ take m G) place ∙ ap (λ l. S ++ l) (front_is goaway_encoding n gs) in
    let most = length (S ++ more) - 1 in
    let fuel : length (S ++ more) ≡ suc most = omega (arith, some, length-append S more) in
    let enough : length ids ≤ most = omega (arith, some, length-append S more, length-append (flat_map goaway_encoding ids) rest, few_goaways ids) in
    let q = record p { settings = Some (with_meaning a.settings); others = with_told p.others S } in
    let none = no_goaways a came gs short in
    let first : AreGoaways writer (last_id q.goaways) ids = subst (λ l. AreGoaways writer (last_id l) ids) (sym none) (goaways_front writer None (whole_in goaway_encoding n gs) gs all) in
    peer_within kinds (other writer) p (p.unread ++ new_bytes writer a came count gs)
    ∙ ap (λ l. read_within kinds (length l) no_limit (other writer) (with_unread p l)) cut
    ∙ ap (λ m. read_within kinds m no_limit (other writer) (with_unread p (S ++ more))) fuel
    ∙ settings_read kinds most (other writer) p a more h refl
    ∙ goaways_read kinds ids most writer q (with_meaning a.settings) rest refl enough first (rest_unfinished kinds gs n writer None all)
    ∙ ap (λ l. no_fault (record q { goaways = l ++ ids; unread = rest })) none

-- **Further bytes of the control stream.**
pub peer_came : (writer : Side) (a : Announced) (came count : ℕ) (gs : List ℕ) → Announces a → AreGoaways writer None gs
    → (b c : Bool) → nat_le (length (settings_bytes a)) came ≡ b → nat_le (length (settings_bytes a)) (came + count) ≡ c → Reads writer a came count gs b c
peer_came writer a came count gs h all true true e f = known_before writer a came count gs all (fits_of (length (settings_bytes a)) came e)
peer_came writer a came count gs h all true false e f =
    let fits = fits_of (length (settings_bytes a)) came e in
    let short = less_of (length (settings_bytes a)) (came + count) f in
    absurd (omega (arith, fits, short))
peer_came writer a came count gs h all false true e f = now_known writer a came count gs h all (less_of (length (settings_bytes a)) came e) (fits_of (length (settings_bytes a)) (came + count) f)
peer_came writer a came count gs h all false false e f = still_unknown writer a came count gs h (less_of (length (settings_bytes a)) (came + count) f)
