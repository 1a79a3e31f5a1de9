-- What holds of the frame that a decoder gives, and of the bytes that it leaves.
use Rattle.std.proofs.Common.{◌≡◌, ℕ, ◌<◌, ◌≤◌, List, ◌++◌, length, arith, sym, ◌∙◌, ap, subst, Result, Ok, Err, Option, Some, None}
use Rattle.h3_frames.specs.declared.proto.frame.PayloadLen.{PayloadLen}
use Rattle.h3_frames.specs.declared.proto.frame.Frame.{Frame}
use Rattle.h3_frames.specs.declared.proto.frame.FrameError.{FrameError}
use Rattle.h3_frames.specs.declared.frame.errors.FrameProtocolError.{FrameProtocolError}
use Rattle.h3_frames.specs.declared.frame.errors.FrameStreamError.{FrameStreamError}
use Rattle.h3_frames.specs.declared.frame.errors.FrameStreamError.TheVariants as stream
use Rattle.h3_frames.specs.Frames.{Front, Whole, Unknown, Refused, Unfinished, frame_by}
use Rattle.h3_frames.specs.FrameLaws.{frame_by-more, frame_by-shorter}
use Rattle.h3_frames.specs.Fronts.{IsFinished, with_more, IsShorter, IsKnown}
use Rattle.h3_frames.specs.Known.{known_by, Gives, refusal}
use Rattle.h3_frames.specs.KnownLaws.{known-more, known-other, known_is, known_known, known-length}
use Rattle.h3_frames.specs.declared.frame.kinds.FrameKinds.{FrameKinds}

more_known : (x : Front) (more : List ℕ) → IsKnown x → IsKnown (with_more x more)
more_known (Whole f rest) more h = tt
more_known (Unknown kind rest) more h = absurd h
more_known (Refused e) more h = tt
more_known (Unfinished k) more h = tt

-- bytes behind a front that is read leave it where it is
pub known-behind : (kinds : FrameKinds) (b more : List ℕ) → IsFinished (frame_by kinds (known_by kinds b)) → (known_by kinds (b ++ more) ≡ known_by kinds b ++ more) × (frame_by kinds (known_by kinds b ++ more) ≡ with_more (frame_by kinds (known_by kinds b)) more)
known-behind kinds b more h =
    let there = frame_by-more kinds (known_by kinds b) more h in
    let here = subst IsKnown (sym there) (more_known (frame_by kinds (known_by kinds b)) more (known_is kinds b)) in
    (known-more kinds b more ∙ known-other kinds (known_by kinds b ++ more) here, there)

pub whole_behind : (kinds : FrameKinds) (f : Frame PayloadLen) (b new more : List ℕ) → frame_by kinds (known_by kinds b) ≡ Whole f new → frame_by kinds (known_by kinds (b ++ more)) ≡ Whole f (new ++ more)
whole_behind kinds f b new more e =
    let k = known-behind kinds b more (subst IsFinished (sym e) tt) in
    ap (frame_by kinds) k.0 ∙ k.1 ∙ ap (λ x. with_more x more) e

pub refused_behind : (kinds : FrameKinds) (e : FrameError) (b new more : List ℕ) → new ≡ known_by kinds b → frame_by kinds new ≡ Refused e → (new ++ more ≡ known_by kinds (b ++ more)) × (frame_by kinds (new ++ more) ≡ Refused e)
refused_behind kinds e b new more same h =
    let here : frame_by kinds (known_by kinds b) ≡ Refused e = ap (frame_by kinds) (sym same) ∙ h in
    let k = known-behind kinds b more (subst IsFinished (sym here) tt) in
    (ap (λ l. l ++ more) same ∙ sym k.0, ap (λ l. frame_by kinds (l ++ more)) same ∙ k.1 ∙ ap (λ x. with_more x more) here)

pub same_behind : (kinds : FrameKinds) (b new more : List ℕ) → new ≡ known_by kinds b → known_by kinds (new ++ more) ≡ known_by kinds (b ++ more)
same_behind kinds b new more same = ap (λ l. known_by kinds (l ++ more)) same ∙ sym (known-more kinds b more)

-- a frame that is given makes the bytes fewer
pub gives_shorter : (kinds : FrameKinds) (f : Frame PayloadLen) (old new : List ℕ) → Gives kinds (Ok (Some f)) old new → length new < length old
gives_shorter kinds f old new h =
    let less : length new < length (known_by kinds old) = subst (IsShorter (length (known_by kinds old))) h (frame_by-shorter kinds (known_by kinds old)) in
    omega (arith, less, known-length kinds old)

-- no frame makes the bytes more
pub gives_fewer : (kinds : FrameKinds) (r : Result (Option (Frame PayloadLen)) FrameStreamError) (old new : List ℕ) → Gives kinds r old new → length new ≤ length old
gives_fewer kinds (Ok (Some f)) old new h = omega (arith, gives_shorter kinds f old new h)
gives_fewer kinds (Ok None) old new h = omega (arith, ap length h.0, known-length kinds old)
gives_fewer kinds (Err (stream.Proto e)) old new h = omega (arith, ap length h.0, known-length kinds old)
gives_fewer kinds (Err stream.OutOfMemory) old new h = omega (arith, ap length h.0, known-length kinds old)
gives_fewer kinds (Err (stream.Quic e)) old new h = absurd h
gives_fewer kinds (Err stream.UnexpectedEnd) old new h = absurd h

-- a refused frame is refused again, whatever follows it
pub refused_again : (kinds : FrameKinds) (e : FrameProtocolError) (old new more : List ℕ) → Gives kinds (Err (stream.Proto e)) old new → Gives kinds (Err (stream.Proto e)) (new ++ more) (new ++ more)
refused_again kinds e old new more g =
    let same : new ≡ known_by kinds new = g.0 ∙ sym (known_known kinds old) ∙ ap (known_by kinds) (sym g.0) in
    refused_behind kinds (refusal e) new new more same g.1
