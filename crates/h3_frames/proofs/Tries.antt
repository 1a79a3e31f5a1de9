-- What another try waits for.
use Rattle.std.proofs.Common.{◌≡◌, ℕ, ◌+◌, ◌<◌, ◌≤◌, Bool, true, false, List, [], ◌++◌, length, arith, sym, ◌∙◌, ap, subst, refl, inl, inr, ◌⊎◌, append-nil, Option, Some, None}
use Rattle.std.proofs.lemmas.List.{nil_from_length}
use Rattle.std.specs.Option.{unwrap_or, is_some}
use Rattle.h3_coding.specs.Varint.{varint_at}
use Rattle.h3_coding.specs.VarintLaws.{cases_number}
use Rattle.h3_frames.specs.Frames.{Unfinished, frame_by, is_followed, has_head}
use Rattle.h3_frames.specs.FrameLaws.{at_no_kind, at_no_number, frame_by-nil}
use Rattle.h3_frames.specs.Fronts.{IsFinished, IsKnown}
use Rattle.h3_frames.specs.Known.{known_by, IsWaiting}
use Rattle.h3_frames.specs.KnownLaws.{known-other}
use Rattle.h3_frames.specs.Tries.{Decoding, needed, one_more, counted, FewTries, Awaits, Expects}
use Rattle.h3_frames.proofs.FrameRows.{truth_apart, least_of, frame_by-fewer, frame_by-enough}
use Rattle.h3_frames.specs.declared.frame.kinds.FrameKinds.{FrameKinds}

-- a type and the number behind it are a head
pub head_is_whole : (kind number : ℕ) (bytes mid behind : List ℕ) → varint_at bytes ≡ Some (kind, mid) → varint_at mid ≡ Some (number, behind) → has_head bytes ≡ true
head_is_whole kind number bytes mid behind e k = ap is_followed e ∙ ap is_some k

-- too few bytes are still waiting
still_waiting : (kinds : FrameKinds) (least tries : ℕ) (bytes : List ℕ) → Awaits kinds (Some least) tries bytes → length bytes < least → (known_by kinds bytes ≡ bytes) × IsWaiting (frame_by kinds bytes)
still_waiting kinds least tries bytes h few =
    let size : length (h.0 ++ h.1) < least = subst (λ l. length l < least) h.2 few in
    let w = frame_by-fewer kinds h.0 h.1 least h.3 size in
    let here : frame_by kinds bytes ≡ Unfinished w.0 = ap (frame_by kinds) h.2 ∙ w.1 in
    (known-other kinds bytes (subst IsKnown (sym here) tt), subst IsWaiting (sym here) tt)

-- and so are none
pub too_few : (kinds : FrameKinds) (expected : Option ℕ) (tries : ℕ) (bytes : List ℕ) → Awaits kinds expected tries bytes → length bytes < unwrap_or expected 1 → (known_by kinds bytes ≡ bytes) × IsWaiting (frame_by kinds bytes)
too_few kinds None tries bytes h few =
    let here : frame_by kinds bytes ≡ Unfinished 1 = ap (frame_by kinds) (nil_from_length bytes (omega arith)) ∙ frame_by-nil kinds in
    (known-other kinds bytes (subst IsKnown (sym here) tt), subst IsWaiting (sym here) tt)
too_few kinds (Some least) tries bytes h few = still_waiting kinds least tries bytes h few

cases_head : (b : Bool) → (b ≡ true) ⊎ (b ≡ false)
cases_head true = inl refl
cases_head false = inr refl

-- less than a head asks for one byte more
headless : (kinds : FrameKinds) (front : List ℕ) (least : ℕ) → has_head front ≡ false → frame_by kinds front ≡ Unfinished least → least ≡ length front + 1
headless kinds front least none e = elim (cases_number front) [
  | inl n ↦ least_of (sym e ∙ at_no_kind kinds front n)
  | inr k ↦ elim (cases_number k.1) [
    | inl n ↦ least_of (sym e ∙ at_no_number kinds k.0 front k.1 k.2 n)
    | inr n ↦ absurd (truth_apart (sym (head_is_whole k.0 n.0 front k.1 n.1 k.2 n.2) ∙ none))
  ]
]

first_try : (b : Bool) (size : ℕ) → 1 ≤ size → FewTries b size 1
first_try false size h = (h, omega arith)
first_try true size h = omega arith

behind_less : (b : Bool) (before size tries : ℕ) → (tries ≤ before) × (tries ≤ 15) → before + 1 ≤ size → (b ≡ false → size < 16) → FewTries b size (tries + 1)
behind_less false before size tries h more few = (omega (arith, h.0), omega (arith, h.0, few refl))
behind_less true before size tries h more few = omega (arith, h.1)

-- a try that finds less than a frame again finds more than the one before
pub tried_again : (kinds : FrameKinds) (expected : Option ℕ) (tries least : ℕ) (bytes : List ℕ) → Awaits kinds expected tries bytes → unwrap_or expected 1 ≤ length bytes → frame_by kinds bytes ≡ Unfinished least
    → (has_head bytes ≡ false → length bytes < 16) → FewTries (has_head bytes) (length bytes) (one_more expected tries)
tried_again kinds None tries least bytes h enough e few = first_try (has_head bytes) (length bytes) enough
tried_again kinds (Some asked) tries least bytes h enough e few = elim (cases_head (has_head h.0)) [
  | inl whole ↦
      let size : asked ≤ length (h.0 ++ h.1) = subst (λ l. asked ≤ length l) h.2 enough in
      absurd (subst IsFinished (ap (frame_by kinds) (sym h.2) ∙ e) (frame_by-enough kinds h.0 h.1 asked whole h.3 size))
  | inr none ↦
      behind_less (has_head bytes) (length h.0) (length bytes) tries (subst (λ b. FewTries b (length h.0) tries) none h.4) (omega (arith, headless kinds h.0 asked none h.3, enough)) few
]

-- what it expects after it found less than a frame
pub expects_next : (kinds : FrameKinds) (d next : Decoding) (least : ℕ) (bytes left : List ℕ) → Expects kinds d bytes → needed d ≤ length bytes → frame_by kinds bytes ≡ Unfinished least
    → (has_head bytes ≡ false → length bytes < 16) → left ≡ bytes → next ≡ counted d (Some least) → Expects kinds next left
expects_next kinds d next least bytes left h enough e few same is =
    let few_here = tried_again kinds d.expected d.tries least bytes h enough e few in
    let here : Expects kinds (counted d (Some least)) bytes = (bytes, [], sym (append-nil bytes), e, few_here) in
    subst (λ l. Expects kinds next l) (sym same) (subst (λ (x : Decoding). Expects kinds x bytes) (sym is) here)
