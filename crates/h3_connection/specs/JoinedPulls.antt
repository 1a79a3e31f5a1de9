-- Pulls of a request stream up to the first that hands out no piece of a body or of a session.
use Rattle.std.specs.Prelude.{◌≡◌, ℕ, zero, suc, List, [], ◌++◌, length, Option, Some, None}
use Rattle.std.specs.List.{concat}
use Rattle.h3_proto.specs.declared.stream.Side.{Side}
use Rattle.h3_qpack.specs.DecoderState.{DecoderState}
use Rattle.h3_connection.specs.declared.setup.Announced.{Announced}
use Rattle.h3_connection.specs.Incoming.{Incoming}
use Rattle.h3_connection.specs.PullCuts.{piece_in, DifferInCuts}
use Rattle.h3_connection.specs.Pulling.{Pulled, pull_stream}

pub record Joined : Type 0 where
  -- the bytes of the pieces
  pub bytes : List ℕ
  -- what the pull behind them does
  pub last : Pulled

abbrev pub behind : List ℕ → Joined → Joined
behind bytes later = record later { bytes = bytes ++ later.bytes }

module _ (side : Side) (own : Announced) (id : ℕ) (r : DecoderState) where
  abbrev pub join_piece : (Incoming → Joined) → Pulled → Option (List ℕ) → Joined
  join_piece go p None = record { bytes = []; last = p }
  join_piece go p (Some bytes) = behind bytes (go p.incoming)

  -- at most so many pieces
  abbrev pub joined_within : ℕ → Incoming → Joined
  joined_within zero i = record { bytes = []; last = pull_stream side own id r i }
  joined_within (suc most) i = join_piece (joined_within most) (pull_stream side own id r i) (piece_in (pull_stream side own id r i).answer)

  -- A piece takes a byte or more of what is unread.
  unfoldable pub joined_pulls : Incoming → Joined
  joined_pulls i = joined_within (length (concat i.unread)) i

-- The same bytes, the same answer behind them, which is no piece, and receivers that differ only in cuts.
pub record JoinedAlike (x y : Joined) : Type 0 where
  pub bytes : x.bytes ≡ y.bytes
  pub ends : piece_in x.last.answer ≡ None
  pub answer : x.last.answer ≡ y.last.answer
  pub replies : x.last.replies ≡ y.last.replies
  pub left : DifferInCuts x.last.incoming y.last.incoming
