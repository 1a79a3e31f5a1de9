use Rattle.std.proofs.Common.{◌≡◌, ◌≤◌, ◌<◌, length}
use Rattle.std.specs.Prelude.{All}
use Rattle.h3_frames.specs.Outgoing.{all_of}
use Rattle.h3_connection.specs.WaitingPieces.{bytes_of, without_front}
use Rattle.h3_outgoing.proofs.frames.take_later.Given as goal

abbrev pub invariant-loop-left : goal.invariant-loop-left
invariant-loop-left l = record {
  within : l.left ≤ length (bytes_of l.later.items);
  frames : without_front l.left l.later.items ≡ without_front l.fn.count l.fn.later.items;
  some : All (λ f. 0 < length (all_of f)) l.later.items;
}

abbrev pub decreases-loop-left : goal.decreases-loop-left
decreases-loop-left l = l.left
