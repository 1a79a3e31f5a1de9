-- The bytes of a stream of frames that were not read.
use Rattle.std.specs.Prelude.{◌≡◌, ℕ, ◌≤◌, ◌<◌, Bool, true, false, List, [], length, Result, Ok, Option, None}
use Rattle.std.specs.List.{concat}
use Rattle.h3_frames.specs.Frames.{Unknown, frame_by}
use Rattle.h3_frames.specs.declared.frame.kinds.FrameKinds.{FrameKinds}
use Rattle.h3_frames.specs.Known.{Gives}
use Rattle.h3_frames.specs.Pieces.{IsRest}
use Rattle.h3_frames.specs.Tries.{Decoding, Counts, needed, counted}
use Rattle.h3_frames.specs.UnknownSize.{is_under_way, no_kinds}

-- What is seen of them: their pieces, how many bytes the unknown frame at their front has, where some of it were let go, else 0, by which choices
-- its type would be known, and how far the frame at their front was read. Where some of it were let go, and it is under way, none of it are in memory.
pub record UnreadFrames : Type 0 where
  pub pieces : List (List ℕ)
  pub passing : ℕ
  pub known_to : FrameKinds
  pub decoder : Decoding

-- nothing came
abbrev pub none_unread : UnreadFrames
none_unread = record { pieces = []; passing = 0; known_to = no_kinds; decoder = record { expected = None; tries = 0 } }

-- no frame is under way
abbrev pub AreBetween : UnreadFrames → Type 0
AreBetween u = (u.decoder.expected ≡ None) × (u.passing ≡ 0)

-- of an unknown frame that is under way at the front nothing is in memory
abbrev pub AreSpared : FrameKinds → UnreadFrames → Type 0
AreSpared kinds u = is_under_way kinds (concat u.pieces) ≡ true → 0 < u.passing

-- an answer without a frame, and without an error
abbrev pub gives_none : {X E : Type 0} → Result (Option X) E → Bool
gives_none (Ok None) = true
gives_none _ = false

-- no frame is given, and nothing is taken
pub record IsStillUnderWay (kinds : FrameKinds) (old new : UnreadFrames) : Type 0 where
  pub pieces : new.pieces ≡ old.pieces
  pub passing : 0 < new.passing
  pub gives : Gives kinds (Ok None) (concat old.pieces) (concat old.pieces)
  pub counts : Counts kinds old.decoder (concat old.pieces) (Ok None) new.decoder

-- an unknown frame is passed
pub record IsPassed (kinds : FrameKinds) (old new : UnreadFrames) : Type 0 where
  pub kind : ℕ
  pub enough : needed old.decoder ≤ length (concat old.pieces)
  pub unknown : frame_by kinds (concat old.pieces) ≡ Unknown kind (concat new.pieces)
  pub rest : IsRest old.pieces new.pieces
  pub none : new.passing ≡ 0
  pub plain : new.known_to ≡ no_kinds
  pub decoder : new.decoder ≡ counted old.decoder None
