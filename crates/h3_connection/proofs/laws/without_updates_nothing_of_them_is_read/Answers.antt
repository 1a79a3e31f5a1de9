-- Nothing is known of updates, and nothing waits: each side computes to the other.
use Rattle.std.proofs.Common.{◌≡◌, ℕ, zero, suc, ◌&&◌, ◌||◌, if◌then◌else◌, [], ◌++◌, drop, take, refl, ap, ◌∙◌}
use Rattle.std.specs.Prelude.{filter, nat_lt}
use Rattle.h3_coding.specs.Varint.{varint_at}
use Rattle.h3_proto.specs.Config.{is_limit}
use Rattle.h3_frames.specs.ExcessiveFrames.{is_excessive, says_long_update}
use Rattle.h3_frames.specs.Frames.{Front, frame_of, update_frame}
use Rattle.h3_frames.specs.Update.{is_update_type}
use Rattle.h3_connection.specs.Endpoint.{EndpointHistory}
use Rattle.h3_connection.specs.Prioritizing.{is_unopened, used, with_waiting}
use Rattle.h3_connection.proofs.laws.without_updates_nothing_of_them_is_read.Goals as goal

none_used : (e : EndpointHistory) (count : ℕ) → with_waiting (used e (take count [])) (filter (is_unopened e) (take count []) ++ drop count []) ≡ with_waiting e []
none_used e zero = refl
none_used e (suc count) = refl

pub returns-clause-kinds : goal.returns-clause-kinds
returns-clause-kinds c own none = ap (nat_lt 0) none

pub returns-clause-front : goal.returns-clause-front
returns-clause-front c kinds kind payload rest off =
    ap (λ b. (let front : Front = if b && is_update_type kind then update_frame kind (varint_at payload) rest else frame_of kind payload rest in front)) off

pub returns-clause-long : goal.returns-clause-long
returns-clause-long c kinds most bytes off = ap (λ b. (b && (is_limit most && says_long_update kinds most (varint_at bytes))) || is_excessive most bytes) off

pub returns-clause-used : goal.returns-clause-used
returns-clause-used c e count none = ap (λ w. with_waiting (used e (take count w)) (filter (is_unopened e) (take count w) ++ drop count w)) none ∙ none_used e count

pub returns-clause-text : goal.returns-clause-text
returns-clause-text c ids = refl
