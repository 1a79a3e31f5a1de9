-- What a receiver finds at the front of what it has not read.
use Rattle.std.proofs.Common.{◌≡◌, ℕ, ◌+◌, ◌-◌, ◌≤◌, List, ◌++◌, length, take, refl, sym, ap, ◌∙◌, drop, take-append-drop, arith, length-append, Bool, subst, true, false, [], ◌∷◌, if◌then◌else◌, zero, suc, ◌<◌, nat_lt, ◌^◌, lit<}
use Rattle.std.proofs.lemmas.List.{take_at, take-append-le, drop_at, drop-append-le, length-drop}
use Rattle.h3_frames.specs.Frames.{Front, frame_by, Whole, Unfinished}
use Rattle.h3_frames.specs.Known.{known_by}
use Rattle.h3_frames.specs.KnownLaws.{known-other}
use Rattle.h3_frames.specs.Fronts.{IsKnown, IsUnfinishedFront}
use Rattle.h3_frames.specs.declared.proto.frame.Frame.TheVariants as frame
use Rattle.h3_connection.specs.Skipping.{skip_front, skipped, is_empty_data, skipped_within}
use Rattle.std.specs.Prelude.{◌&&◌}
use Rattle.h3_frames.specs.declared.proto.frame.PayloadLen.{PayloadLen}
use Rattle.h3_frames.specs.declared.proto.frame.Frame.{Frame}
use Rattle.std.specs.List.{concat, AllByRecursion}
use Rattle.h3_frames.specs.Pieces.{without}
use Rattle.h3_frames.specs.PieceLaws.{without-none, concat-without}
use Rattle.h3_connection.specs.Incoming.{Incoming}
use Rattle.h3_connection.specs.Pulling.{left_with}
use Rattle.std.proofs.lemmas.Grind.{common_steps}
use Rattle.h3_frames.specs.Encoded.{frame_encoding, head_encoding}
use Rattle.h3_frames.specs.UnfinishedLaws.{front_of_frame, front_of_head}
use Rattle.h3_frames.specs.EncodedLaws.{written_head}
use Rattle.h3_headline.specs.Pulling.{IsLonger, with_unread}
use Rattle.h3_headline.specs.Standing.{HasBytes}
use Rattle.h3_frames.specs.declared.frame.kinds.FrameKinds.{FrameKinds}

-- Of two lists that are equal with what follows them the shorter is the front of the longer.
pub short_front : (some more front rest : List ℕ) → some ++ more ≡ front ++ rest → length some ≤ length front → some ≡ take (length some) front
short_front some more front rest e h = sym (take_at some more (length some) refl) ∙ ap (take (length some)) e ∙ take-append-le (length some) front rest h

pub long_front : (some more front rest : List ℕ) → some ++ more ≡ front ++ rest → length front ≤ length some → IsLonger some more front rest
long_front some more front rest e h =
    let begins : take (length front) some ≡ front = sym (take-append-le (length front) some more h) ∙ ap (take (length front)) e ∙ take_at front rest (length front) refl in
    record {
      front_is = sym (take-append-drop (length front) some) ∙ ap (λ l. l ++ drop (length front) some) begins;
      rest_is = sym (drop-append-le (length front) some more h) ∙ ap (drop (length front)) e ∙ drop_at front rest (length front) refl;
    }

-- How much came, where these bytes stand before and from the next part on.
pub came_so_far : (unread left whole before behind : List ℕ) (delivered : ℕ) → whole ≡ before ++ behind → delivered ≤ length whole → left ≡ drop delivered whole → unread ++ left ≡ behind
    → length before + length unread ≡ delivered
came_so_far unread left whole before behind delivered parts within rest e =
    let all : length whole ≡ length before + length behind = ap length parts ∙ length-append before behind in
    let back : length left ≡ length whole - delivered = ap length rest ∙ length-drop delivered whole in
    let sum : length unread + length left ≡ length behind = sym (length-append unread left) ∙ ap length e in
    omega (arith, all, back, sum, within)

-- nothing is skipped of a front that is no empty DATA frame
skip_known : (kinds : FrameKinds) (go : List ℕ → List ℕ) (in_body : Bool) (bytes : List ℕ) (x : Front) → IsKnown x → frame_by kinds bytes ≡ x → skip_front go in_body bytes x ≡ bytes
    → skip_front go in_body (known_by kinds bytes) (frame_by kinds (known_by kinds bytes)) ≡ bytes
skip_known kinds go in_body bytes x k at same =
    ap (λ l. skip_front go in_body l (frame_by kinds l)) (known-other kinds bytes (subst IsKnown (sym at) k)) ∙ ap (skip_front go in_body bytes) at ∙ same

not_both : (a b : Bool) → b ≡ false → (a && b) ≡ false
not_both true b e = e
not_both false b e = refl

pub skipped_whole : (kinds : FrameKinds) (in_body : Bool) (bytes : List ℕ) (f : Frame PayloadLen) (rest : List ℕ) → frame_by kinds bytes ≡ Whole f rest → is_empty_data f ≡ false → skipped kinds in_body bytes ≡ bytes
unfolding skipped
skipped_whole kinds in_body [] f rest at full = refl
skipped_whole kinds in_body (byte ∷ bytes) f rest at full =
    skip_known kinds (skipped_within kinds in_body (length bytes)) in_body (byte ∷ bytes) (Whole f rest) tt at
    (ap (λ b. if b then skipped_within kinds in_body (length bytes) rest else byte ∷ bytes) (not_both in_body (is_empty_data f) full))

pub skipped_unfinished : (kinds : FrameKinds) (in_body : Bool) (bytes : List ℕ) (least : ℕ) → frame_by kinds bytes ≡ Unfinished least → skipped kinds in_body bytes ≡ bytes
unfolding skipped
skipped_unfinished kinds in_body [] least at = refl
skipped_unfinished kinds in_body (byte ∷ bytes) least at = skip_known kinds (skipped_within kinds in_body (length bytes)) in_body (byte ∷ bytes) (Unfinished least) tt at refl

pub skipped_none : (kinds : FrameKinds) (in_body : Bool) → skipped kinds in_body [] ≡ []
unfolding skipped
skipped_none kinds in_body = refl

-- all bytes are left
pub left_all : (i : Incoming) → left_with i (concat i.unread) ≡ i
left_all i =
    let none : length (concat i.unread) - length (concat i.unread) ≡ 0 = omega arith in
    ap (with_unread i) (ap (λ n. without n i.unread) none ∙ without-none i.unread)

-- the bytes that are left behind some at the front
pub left_behind : (i : Incoming) (front : List ℕ) → length front ≤ length (concat i.unread)
    → concat (left_with i (drop (length front) (concat i.unread))).unread ≡ drop (length front) (concat i.unread)
left_behind i front within =
    let size = length (concat i.unread) in
    let some : size - length (drop (length front) (concat i.unread)) ≡ length front = omega (arith, length-drop (length front) (concat i.unread), within) in
    concat-without (size - length (drop (length front) (concat i.unread))) i.unread ∙ ap (λ n. drop n (concat i.unread)) some

-- no piece that is left is empty
pub without_pieces : (n : ℕ) (pieces : List (List ℕ)) → AllByRecursion HasBytes pieces → AllByRecursion HasBytes (without n pieces)
without_pieces n [] h = tt
without_pieces zero (p ∷ pieces) h = h
without_pieces (suc n) (p ∷ pieces) h = by_test (without_pieces (suc n - length p) pieces h.1) (nat_lt (suc n) (length p)) refl
  where
    below : (a b : ℕ) → nat_lt a b ≡ true → a < b
    below a b e = grind (arith, common_steps, e)

    by_test : AllByRecursion HasBytes (without (suc n - length p) pieces) → (b : Bool) → nat_lt (suc n) (length p) ≡ b
        → AllByRecursion HasBytes (if b then drop (suc n) p ∷ pieces else without (suc n - length p) pieces)
    by_test later true e = (omega (arith, below (suc n) (length p) e, length-drop (suc n) p), h.1)
    by_test later false e = later

-- What bytes are the front of a frame that is not whole: none, or an unfinished one.
pub unfinished_section : (kinds : FrameKinds) (section unread : List ℕ) → length section < 2 ^ 62 → length unread < length (frame_encoding 1 section) → unread ≡ take (length unread) (frame_encoding 1 section)
    → IsUnfinishedFront kinds unread
unfinished_section kinds section unread small few is =
    let u = front_of_frame kinds 1 section (length unread) (lit< tt) small refl refl few in
    (u.0, ap (frame_by kinds) is ∙ u.1)

pub unfinished_data : (kinds : FrameKinds) (size : ℕ) (unread : List ℕ) → size < 2 ^ 62 → length unread < length (head_encoding 0 size) → unread ≡ take (length unread) (head_encoding 0 size) → IsUnfinishedFront kinds unread
unfinished_data kinds size unread small few is =
    (length unread + 1, ap (frame_by kinds) is ∙ front_of_head kinds 0 size (length unread) (lit< tt) small few)

-- the head of a DATA frame is read
pub data_front : (kinds : FrameKinds) (size : ℕ) (behind : List ℕ) → size < 2 ^ 62 → frame_by kinds (head_encoding 0 size ++ behind) ≡ Whole (frame.Data (record { 0 = size })) behind
data_front kinds size behind small = written_head kinds 0 size behind (lit< tt) small
