-- What a call leaves as it was.
use Rattle.std.specs.Prelude.{◌≡◌}
use Rattle.h3_connection.specs.State.{EndpointState}

-- Only request streams and the replies that wait have changed.
abbrev pub ChangesRequests : EndpointState → EndpointState → Type 0
ChangesRequests old new = new ≡ record old { requests = new.requests; own = record old.own { decoder = new.own.decoder } }
