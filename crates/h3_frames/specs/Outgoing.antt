-- What is seen of bytes that are to be sent.
use Rattle.std.specs.Prelude.{◌≡◌, ℕ, List, [], ◌∷◌, ◌++◌}
use Rattle.h3_frames.specs.Encoded.{encoding_of, lent_of, front_of}
use Rattle.h3_frames.specs.declared.proto.frame.Frame.{Frame}

-- the bytes that are written, and behind them those that the frame lends
pub record Outgoing : Type 0 where
  pub head : List ℕ
  pub payload : List ℕ

-- all of them
abbrev pub all_of : Outgoing → List ℕ
all_of w = w.head ++ w.payload

abbrev pub first_of_both : List ℕ → List ℕ → List ℕ
first_of_both [] payload = payload
first_of_both (byte ∷ bytes) payload = byte ∷ bytes

-- what is sent first: what is left of the first part, and behind it the other
abbrev pub first_part : Outgoing → List ℕ
first_part w = first_of_both w.head w.payload

-- Nothing but these bytes, which are no payload.
pub record IsHead (bytes : List ℕ) (w : Outgoing) : Type 0 where
  pub head : w.head ≡ bytes
  pub payload : w.payload ≡ []

-- The encoding of a frame behind some bytes, the payload of DATA and HEADERS and the field section of a promise apart.
pub record IsFrameBehind {B : Type 0} (unread : B → List ℕ) (bytes : List ℕ) (f : Frame B) (w : Outgoing) : Type 0 where
  pub whole : all_of w ≡ bytes ++ encoding_of unread f
  pub head : w.head ≡ bytes ++ front_of unread f
  pub payload : w.payload ≡ lent_of unread f
