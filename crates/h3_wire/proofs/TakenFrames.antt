-- What taking a frame off the buffer says of all the bytes that are left.
use Rattle.std.proofs.Common.{◌≡◌, ℕ, ◌≤◌, List, [], ◌++◌, length, arith, sym, ◌∙◌, ap, ap₂, subst, append-nil, length-append, Result, Ok, Err, Option, Some, None}
use Rattle.std.specs.List.{concat}
use Rattle.h3_wire.specs.declared.quic.Poll.TheVariants.{Ready}
use Rattle.h3_frames.specs.declared.proto.frame.PayloadLen.{PayloadLen}
use Rattle.h3_frames.specs.declared.proto.frame.Frame.{Frame}
use Rattle.h3_frames.specs.declared.frame.errors.FrameStreamError.{FrameStreamError}
use Rattle.h3_frames.specs.declared.frame.errors.FrameStreamError.TheVariants as stream
use Rattle.h3_wire.specs.Source.{Answer, coming}
use Rattle.h3_frames.specs.Frames.{Whole, frame_at, plain_frames}
use Rattle.h3_frames.specs.GivesLaws.{whole_behind, refused_behind, same_behind, gives_fewer}
use Rattle.h3_frames.specs.Known.{known, Gives, IsWaiting, refusal}
use Rattle.h3_wire.specs.Streams.{Buffered, Framing, left, PollsFrame}

-- What was read, and what comes behind it, before and after a frame was taken.
pub record Taken {S : Type 0} (rest : S → List ℕ) (old new : Framing S) (read behind : List ℕ) : Type 0 where
  pub before : left rest old ≡ read ++ behind
  pub after : left rest new ≡ concat new.pieces ++ behind

pub taken_fewer : {S : Type 0} (rest : S → List ℕ) (old new : Framing S) (read behind : List ℕ) (r : Result (Option (Frame PayloadLen)) FrameStreamError) → Taken rest old new read behind → Gives plain_frames r read (concat new.pieces) → length (left rest new) ≤ length (left rest old)
taken_fewer rest old new read behind r t g =
    omega (arith, ap length t.before, ap length t.after, length-append read behind, length-append (concat new.pieces) behind, gives_fewer plain_frames r read (concat new.pieces) g)

pub polls_error : {S : Type 0} (rest : S → List ℕ) (answers : S → Answer → S → Type 0) (old new : Framing S) (read behind : List ℕ) (e : FrameStreamError) → Taken rest old new read behind → Gives plain_frames (Err e) read (concat new.pieces) → new.payload ≡ old.payload
    → PollsFrame rest answers (Ready (Err e)) old new
polls_error rest answers old new read behind (stream.Proto e) t g p =
    let r = refused_behind plain_frames (refusal e) read (concat new.pieces) behind g.0 g.1 in
    (t.after ∙ r.0 ∙ ap known (sym t.before), ap frame_at t.after ∙ r.1, p)
polls_error rest answers old new read behind stream.OutOfMemory t g p = (ap known t.after ∙ same_behind plain_frames read (concat new.pieces) behind g.0 ∙ ap known (sym t.before), p)
polls_error rest answers old new read behind (stream.Quic e) t g p = absurd g
polls_error rest answers old new read behind stream.UnexpectedEnd t g p = absurd g

pub polls_frame : {S : Type 0} (rest : S → List ℕ) (old new : Framing S) (read behind : List ℕ) (f : Frame PayloadLen) → Taken rest old new read behind → Gives plain_frames (Ok (Some f)) read (concat new.pieces)
    → frame_at (known (left rest old)) ≡ Whole f (left rest new)
polls_frame rest old new read behind f t g =
    ap (λ l. frame_at (known l)) t.before ∙ whole_behind plain_frames f read (concat new.pieces) behind g ∙ ap (Whole f) (sym t.after)

pub polls_same : {S : Type 0} (rest : S → List ℕ) (old new : Framing S) (read behind : List ℕ) → Taken rest old new read behind → Gives plain_frames (Ok None) read (concat new.pieces) → known (left rest new) ≡ known (left rest old)
polls_same rest old new read behind t g = ap known t.after ∙ same_behind plain_frames read (concat new.pieces) behind g.0 ∙ ap known (sym t.before)

-- at the end nothing comes behind
pub polls_end : {S : Type 0} (rest : S → List ℕ) (old new : Framing S) (read behind : List ℕ) → Taken rest old new read behind → Gives plain_frames (Ok None) read (concat new.pieces) → behind ≡ []
    → (left rest new ≡ known (left rest old)) × IsWaiting (frame_at (left rest new)) × (left rest new ≡ concat new.pieces)
polls_end rest old new read behind t g none =
    let after : left rest new ≡ concat new.pieces = t.after ∙ ap (λ l. concat new.pieces ++ l) none ∙ append-nil (concat new.pieces) in
    let before : left rest old ≡ read = t.before ∙ ap (λ l. read ++ l) none ∙ append-nil read in
    (after ∙ g.0 ∙ ap known (sym before), subst (λ l. IsWaiting (frame_at l)) (sym after) g.1, after)

pub taken : {S : Type 0} (rest : S → List ℕ) (now inside new : Framing S) (mid took : Buffered S) → inside ≡ now → concat mid.pieces ++ coming mid.is_eos (rest mid.source) ≡ left rest inside
    → took.source ≡ mid.source → took.is_eos ≡ mid.is_eos → concat new.pieces ≡ concat took.pieces → new.source ≡ took.source → new.is_eos ≡ took.is_eos
    → Taken rest now new (concat mid.pieces) (coming mid.is_eos (rest mid.source))
taken rest now inside new mid took view all source is_eos b s e = record {
  before = ap (left rest) (sym view) ∙ sym all;
  after = ap₂ (λ t x. concat new.pieces ++ coming t (rest x)) (e ∙ is_eos) (s ∙ source);
}
