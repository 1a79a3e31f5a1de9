-- The first stream on which bytes wait, among the request streams and the own ones.
use Rattle.std.specs.Prelude.{ℕ, Bool, not, ◌&&◌, length, nat_lt, is_some}
use Rattle.h3_connection.specs.State.{EndpointState}
use Rattle.h3_session.specs.Refused.{sender_in}
use Rattle.h3_unidirectional.specs.Owned.{waiting_on}

-- whether bytes wait on an own stream, and the id is that of no request stream
abbrev pub has_own_bytes : EndpointState → ℕ → Bool
has_own_bytes s id = not (is_some (sender_in s id)) && nat_lt 0 (length (waiting_on s.own s.side id))
