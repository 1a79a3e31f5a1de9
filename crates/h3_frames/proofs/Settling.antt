-- What is known where a decoder stops.
use Rattle.std.proofs.Common.{◌≡◌, ℕ, ◌≤◌, List, Option, Some, None, Result, Ok, length, sym, ◌∙◌, ap, subst}
use Rattle.std.specs.Prelude.{IfSome}
use Rattle.std.specs.List.{concat}
use Rattle.h3_frames.specs.Frames.{Front, Whole, Unknown, Refused, Unfinished, frame_by, TakesMemory, plain_frames}
use Rattle.h3_frames.specs.declared.proto.frame.PayloadLen.{PayloadLen}
use Rattle.h3_frames.specs.declared.proto.frame.Frame.{Frame}
use Rattle.h3_frames.specs.Known.{Gives, known_by, IsWaiting}
use Rattle.h3_frames.specs.KnownLaws.{known-other, known-unknown}
use Rattle.h3_frames.specs.declared.frame.decoder.MessageFrame.{MessageFrame}
use Rattle.h3_frames.specs.declared.frame.errors.FrameStreamError.{FrameStreamError}
use Rattle.h3_frames.specs.Fronts.{IsKnown}
use Rattle.h3_frames.specs.MessageFrames.{any_frame}
use Rattle.h3_frames.specs.Pieces.{IsRest}
use Rattle.h3_frames.specs.Tries.{Decoding, Counts, Expects, needed}
use Rattle.h3_frames.specs.declared.frame.kinds.FrameKinds.{FrameKinds}

-- the bytes begin with a known front
pub settled : (kinds : FrameKinds) (start mid new : List ℕ) (x : Front) → frame_by kinds mid ≡ x → IsKnown x → known_by kinds mid ≡ known_by kinds start → new ≡ mid → (new ≡ known_by kinds start) × (frame_by kinds new ≡ x)
settled kinds start mid new x e h same left =
    (left ∙ sym (known-other kinds mid (subst IsKnown (sym e) h)) ∙ same, ap (frame_by kinds) left ∙ e)

pub found : (kinds : FrameKinds) (start mid rest : List ℕ) (f : Frame PayloadLen) → frame_by kinds mid ≡ Whole f rest → known_by kinds mid ≡ known_by kinds start → frame_by kinds (known_by kinds start) ≡ Whole f rest
found kinds start mid rest f e same = ap (frame_by kinds) (sym same ∙ known-other kinds mid (subst IsKnown (sym e) tt)) ∙ e

pub waits : (kinds : FrameKinds) (start mid new : List ℕ) (k : ℕ) → frame_by kinds mid ≡ Unfinished k → known_by kinds mid ≡ known_by kinds start → new ≡ mid → (new ≡ known_by kinds start) × IsWaiting (frame_by kinds new)
waits kinds start mid new k e same left =
    let s = settled kinds start mid new (Unfinished k) e tt same left in
    (s.0, subst IsWaiting (sym s.1) tt)

memory_known : (x : Front) → TakesMemory x → IsKnown x
memory_known (Whole f rest) h = tt
memory_known (Unknown kind rest) h = absurd h
memory_known (Refused e) h = tt
memory_known (Unfinished k) h = tt

pub wants : (kinds : FrameKinds) (start mid new : List ℕ) → TakesMemory (frame_by kinds mid) → known_by kinds mid ≡ known_by kinds start → new ≡ mid → (new ≡ known_by kinds start) × TakesMemory (frame_by kinds new)
wants kinds start mid new h same left =
    (left ∙ sym (known-other kinds mid (memory_known (frame_by kinds mid) h)) ∙ same, subst (λ l. TakesMemory (frame_by kinds l)) (sym left) h)

pub passed : (kinds : FrameKinds) (start mid new : List ℕ) (kind : ℕ) → frame_by kinds mid ≡ Unknown kind new → known_by kinds mid ≡ known_by kinds start → known_by kinds new ≡ known_by kinds start
passed kinds start mid new kind e same = sym (known-unknown kinds kind mid new e) ∙ same

-- what is given of the bytes from a later frame on, if unknown ones alone stand between
pub given_on : (kinds : FrameKinds) (o : Option (Frame PayloadLen)) (start mid new : List ℕ) → Gives kinds (Ok o) mid new → known_by kinds mid ≡ known_by kinds start → Gives kinds (Ok o) start new
given_on kinds (Some f) start mid new g same = ap (frame_by kinds) (sym same) ∙ g
given_on kinds None start mid new g same = (g.0 ∙ same, g.1)

-- Only unknown frames were taken from the front, and what the rest does to the count, the whole does.
pub record GoesOn (kinds : FrameKinds) (start here : List (List ℕ)) (old now : Decoding) : Type 0 where
  pub same : known_by kinds (concat here) ≡ known_by kinds (concat start)
  pub expects : Expects plain_frames now (concat here)
  pub rest : IsRest start here
  pub counts : (answer : Result (Option (Frame PayloadLen)) FrameStreamError) (new : Decoding) → Counts kinds now (concat here) answer new → Counts kinds old (concat start) answer new

-- Enough is there for a try.
pub record TriesOn (kinds : FrameKinds) (start here : List (List ℕ)) (old now : Decoding) : Type 0 where
  pub on : GoesOn kinds start here old now
  pub enough : needed now ≤ length (concat here)

-- A look that changes nothing leaves it so.
pub still_on : (kinds : FrameKinds) (start before here : List (List ℕ)) (old mid now : Decoding) → (now ≡ mid) × (here ≡ before) → needed mid ≤ length (concat before) → GoesOn kinds start before old mid → TriesOn kinds start here old now
still_on kinds start before here old mid now e enough on =
    subst (λ (d : Decoding). TriesOn kinds start here old d) (sym e.0) (subst (λ (p : List (List ℕ)). TriesOn kinds start p old mid) (sym e.1) (record { on = on; enough = enough }))

-- what holds of a message's frame holds of it as one of all
pub if_any : (o : Option MessageFrame) {fact more : Type 0} → (fact → more) → IfSome o (λ f. fact) → IfSome (any_frame o) (λ f. more)
if_any None step h = h
if_any (Some f) step h = step h
