-- Where sessions are off each call is the endpoint's.
use Rattle.std.proofs.Common.{◌≡◌, ℕ, false, ap}
use Rattle.std.specs.Prelude.{◌&&◌, ◌||◌, not, is_some}
use Rattle.h3_proto.specs.StreamIds.{is_request_stream}
use Rattle.h3_webtransport_streams.specs.SessionStream.{receiver_of}
use Rattle.h3_webtransport.specs.Joint.{Joint, has_stream, is_begun_by_peer, is_one_way, is_read, is_server_opened, may_begin, stored_at}

pub none_is_stored : (s : Joint) (id : ℕ) → s.is_on ≡ false → has_stream s id ≡ false
none_is_stored s id off = ap (λ on. on && is_some (stored_at s id)) off

pub none_is_read : (s : Joint) (id : ℕ) → s.is_on ≡ false → is_read s id ≡ false
none_is_read s id off = ap (λ on. on && (is_some (receiver_of (stored_at s id)) || (is_server_opened s.side id && not (is_some (stored_at s id))))) off

pub none_one_way : (s : Joint) (id : ℕ) → s.is_on ≡ false → is_one_way s id ≡ false
none_one_way s id off = ap (λ has. has && not (is_some (receiver_of (stored_at s id))) && not (is_request_stream id)) (none_is_stored s id off)

pub none_begins : (s : Joint) (id : ℕ) → s.is_on ≡ false → may_begin s id ≡ false
none_begins s id off = ap (λ on. on && not (is_some (stored_at s id)) && is_begun_by_peer s.side id) off
