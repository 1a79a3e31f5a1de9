-- When a front that waits has enough bytes, and fronts that compute.
use Rattle.std.proofs.Common.{◌≡◌, ℕ, ◌+◌, ◌-◌, ◌<◌, ◌≤◌, ◌==◌, Bool, true, false, List, [], ◌∷◌, ◌++◌, length, take, drop, nat_lt, if◌then◌else◌, arith, sym, ◌∙◌, ap, subst, refl, inl, inr, ◌⊎◌, append-nil, length-append, Some}
use Rattle.std.proofs.lemmas.List.{nil_from_length}
use Rattle.std.proofs.lemmas.Bool.{lt-ltb, le-ltb}
use Rattle.std.specs.Option.{is_some}
use Rattle.h3_coding.specs.Varint.{varint_at}
use Rattle.h3_coding.specs.VarintLaws.{cases_number, reads_more, shorter}
use Rattle.h3_frames.specs.declared.proto.frame.Frame.TheVariants as frame
use Rattle.h3_frames.specs.declared.proto.frame.FrameError.TheVariants as error
use Rattle.h3_frames.specs.Frames.{Whole, Unknown, Refused, Unfinished, frame_of, frame_by, is_followed, has_head, is_session}
use Rattle.h3_frames.specs.Fronts.{IsFinished, tested}
use Rattle.h3_frames.specs.FrameLaws.{at_no_kind, at_no_number, at_head, frame_known-finished, no_update, short_or_whole}
use Rattle.h3_frames.specs.declared.frame.kinds.FrameKinds.{FrameKinds}

-- a HEADERS frame whose field section is there
pub at_headers : (kinds : FrameKinds) (number : ℕ) (bytes mid behind : List ℕ) → varint_at bytes ≡ Some (1, mid) → varint_at mid ≡ Some (number, behind) → number ≤ length behind
    → frame_by kinds bytes ≡ Whole (frame.Headers (take number behind)) (drop number behind)
unfolding frame_of
at_headers kinds number bytes mid behind e k there = at_head kinds 1 number bytes mid behind e k ∙ rw (le-ltb (length behind) number there, no_update kinds 1 refl) refl

-- a test has one value
pub truth_apart : true ≡ false → ⊥
truth_apart e = absurd (cc)

pub least_of : {a b : ℕ} → Unfinished a ≡ Unfinished b → a ≡ b
least_of e = cc

nothing_more : (kinds : FrameKinds) (front more : List ℕ) (least : ℕ) → frame_by kinds front ≡ Unfinished least → frame_by kinds front ≡ Unfinished (length front + 1) → length (front ++ more) < least → (k : ℕ) × (frame_by kinds (front ++ more) ≡ Unfinished k)
nothing_more kinds front more least e here few =
    let asked : least ≡ length front + 1 = least_of (sym e ∙ here) in
    let none : more ≡ [] = nil_from_length more (omega (arith, length-append front more, asked, few)) in
    (least, ap (λ l. frame_by kinds (front ++ l)) none ∙ ap (frame_by kinds) (append-nil front) ∙ e)

waits_payload : (kinds : FrameKinds) (size size' kind number least : ℕ) (behind more : List ℕ) → (nat_lt (length behind) number ≡ true) × (length behind < number) ⊎ (nat_lt (length behind) number ≡ false) × (number ≤ length behind)
    → tested kinds false false size kind number behind ≡ Unfinished least → length behind ≤ size → size' ≡ size + length more → size' < least → (k : ℕ) × (tested kinds false false size' kind number (behind ++ more) ≡ Unfinished k)
waits_payload kinds size size' kind number least behind more (inl t) e inside sum few =
    let asked : size - length behind + number ≡ least = least_of (rw t.0 at e) in
    let short : length (behind ++ more) < number = omega (arith, length-append behind more, asked, few, inside, sum) in
    (size' - length (behind ++ more) + number, rw (lt-ltb (length (behind ++ more)) number short) refl)
waits_payload kinds size size' kind number least behind more (inr t) e inside sum few =
    let f = rw t.0 at e in
    absurd (subst IsFinished f (frame_known-finished kinds kind (take number behind) (drop number behind)).0)

waits_on : (kinds : FrameKinds) (a b : Bool) (size size' kind number least : ℕ) (behind more : List ℕ) → tested kinds a b size kind number behind ≡ Unfinished least → length behind ≤ size → size' ≡ size + length more → size' < least
    → (k : ℕ) × (tested kinds a b size' kind number (behind ++ more) ≡ Unfinished k)
waits_on kinds true b size size' kind number least behind more e inside sum few = absurd (cc)
waits_on kinds false true size size' kind number least behind more e inside sum few = absurd (cc)
waits_on kinds false false size size' kind number least behind more e inside sum few = waits_payload kinds size size' kind number least behind more (short_or_whole number behind) e inside sum few

-- fewer bytes than a waiting front asked for still wait
pub frame_by-fewer : (kinds : FrameKinds) (front more : List ℕ) (least : ℕ) → frame_by kinds front ≡ Unfinished least → length (front ++ more) < least → (k : ℕ) × (frame_by kinds (front ++ more) ≡ Unfinished k)
frame_by-fewer kinds front more least e few = elim (cases_number front) [
  | inl none ↦ nothing_more kinds front more least e (at_no_kind kinds front none) few
  | inr k ↦ elim (cases_number k.1) [
    | inl none ↦ nothing_more kinds front more least e (at_no_number kinds k.0 front k.1 k.2 none) few
    | inr n ↦
        let here = sym (at_head kinds k.0 n.0 front k.1 n.1 k.2 n.2) ∙ e in
        let there = at_head kinds k.0 n.0 (front ++ more) (k.1 ++ more) (n.1 ++ more) (reads_more k.0 front k.1 more k.2) (reads_more n.0 k.1 n.1 more n.2) in
        let inside : length n.1 ≤ length front = omega (arith, shorter k.0 front k.1 k.2, shorter n.0 k.1 n.1 n.2) in
        let still = waits_on kinds (is_session kinds k.0) (k.0 == 0) (length front) (length (front ++ more)) k.0 n.0 least n.1 more here inside (length-append front more) few in
        (still.0, there ∙ still.1)
  ]
]

payload_there : (kinds : FrameKinds) (size size' kind number least : ℕ) (behind more : List ℕ) → (nat_lt (length behind) number ≡ true) × (length behind < number) ⊎ (nat_lt (length behind) number ≡ false) × (number ≤ length behind)
    → tested kinds false false size kind number behind ≡ Unfinished least → length behind ≤ size → size' ≡ size + length more → least ≤ size' → IsFinished (tested kinds false false size' kind number (behind ++ more))
payload_there kinds size size' kind number least behind more (inl t) e inside sum enough =
    let asked : size - length behind + number ≡ least = least_of (rw t.0 at e) in
    let there : number ≤ length (behind ++ more) = omega (arith, length-append behind more, asked, enough, inside, sum) in
    rw (le-ltb (length (behind ++ more)) number there) (frame_known-finished kinds kind (take number (behind ++ more)) (drop number (behind ++ more))).0
payload_there kinds size size' kind number least behind more (inr t) e inside sum enough =
    let f = rw t.0 at e in
    absurd (subst IsFinished f (frame_known-finished kinds kind (take number behind) (drop number behind)).0)

head_and_payload : (kinds : FrameKinds) (a b : Bool) (size size' kind number least : ℕ) (behind more : List ℕ) → tested kinds a b size kind number behind ≡ Unfinished least → length behind ≤ size → size' ≡ size + length more → least ≤ size'
    → IsFinished (tested kinds a b size' kind number (behind ++ more))
head_and_payload kinds true b size size' kind number least behind more e inside sum enough = absurd (cc)
head_and_payload kinds false true size size' kind number least behind more e inside sum enough = absurd (cc)
head_and_payload kinds false false size size' kind number least behind more e inside sum enough = payload_there kinds size size' kind number least behind more (short_or_whole number behind) e inside sum enough

-- as many bytes as a front with a whole head asked for wait no longer
pub frame_by-enough : (kinds : FrameKinds) (front more : List ℕ) (least : ℕ) → has_head front ≡ true → frame_by kinds front ≡ Unfinished least → least ≤ length (front ++ more) → IsFinished (frame_by kinds (front ++ more))
frame_by-enough kinds front more least whole e enough = elim (cases_number front) [
  | inl none ↦ absurd (truth_apart (sym whole ∙ ap is_followed none))
  | inr k ↦ elim (cases_number k.1) [
    | inl none ↦ absurd (truth_apart (sym whole ∙ ap is_followed k.2 ∙ ap is_some none))
    | inr n ↦
        let here = sym (at_head kinds k.0 n.0 front k.1 n.1 k.2 n.2) ∙ e in
        let there = at_head kinds k.0 n.0 (front ++ more) (k.1 ++ more) (n.1 ++ more) (reads_more k.0 front k.1 more k.2) (reads_more n.0 k.1 n.1 more n.2) in
        let inside : length n.1 ≤ length front = omega (arith, shorter k.0 front k.1 k.2, shorter n.0 k.1 n.1 n.2) in
        subst IsFinished (sym there) (head_and_payload kinds (is_session kinds k.0) (k.0 == 0) (length front) (length (front ++ more)) k.0 n.0 least n.1 more here inside (length-append front more) enough)
  ]
]

-- worked by hand
abbrev by : Bool → Bool → FrameKinds
by updates sessions = record { sessions = sessions; updates = updates }

pub row_unknown : (updates sessions : Bool) → frame_by (by updates sessions) (22 ∷ 4 ∷ 0 ∷ 255 ∷ 128 ∷ 0 ∷ 3 ∷ 1 ∷ 2 ∷ []) ≡ Unknown 22 (3 ∷ 1 ∷ 2 ∷ [])
unfolding frame_by frame_of varint_at
row_unknown true sessions = refl
row_unknown false sessions = refl

pub row_cancel : (updates sessions : Bool) → frame_by (by updates sessions) (3 ∷ 1 ∷ 2 ∷ []) ≡ Whole (frame.CancelPush 2) []
unfolding frame_by frame_of varint_at
row_cancel true sessions = refl
row_cancel false sessions = refl

pub row_settings : (kinds : FrameKinds) → frame_by kinds (4 ∷ 4 ∷ 0 ∷ 255 ∷ 128 ∷ []) ≡ Unfinished 6
unfolding frame_by frame_of varint_at
row_settings kinds = refl

pub row_data : (kinds : FrameKinds) → frame_by kinds (0 ∷ 255 ∷ []) ≡ Unfinished 3
unfolding frame_by frame_of varint_at
row_data kinds = refl

pub row_goaway : (updates sessions : Bool) → frame_by (by updates sessions) (7 ∷ 2 ∷ 0 ∷ 9 ∷ []) ≡ Refused error.Malformed
unfolding frame_by frame_of varint_at
row_goaway true sessions = refl
row_goaway false sessions = refl

pub row_session : (kinds : FrameKinds) → frame_by kinds (64 ∷ 65 ∷ []) ≡ Unfinished 3
unfolding frame_by frame_of varint_at
row_session kinds = refl

-- an update with the id 0 and the text u=1, by those who know it and by the others
pub row_update : (updates sessions : Bool) → frame_by (by updates sessions) (128 ∷ 15 ∷ 7 ∷ 0 ∷ 4 ∷ 0 ∷ 117 ∷ 61 ∷ 49 ∷ []) ≡
    (if updates then Whole (frame.PriorityUpdate (record { is_push = false; id = 0; value = 117 ∷ 61 ∷ 49 ∷ [] })) [] else Unknown 984832 [])
unfolding frame_by frame_of varint_at
row_update true sessions = refl
row_update false sessions = refl
