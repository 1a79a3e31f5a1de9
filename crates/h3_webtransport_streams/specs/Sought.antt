-- Which streams are looked for.
use Rattle.std.specs.Prelude.{Bool}
use Rattle.h3_webtransport_streams.specs.SessionStream.{SessionStream, has_something, is_of}
use Rattle.h3_webtransport_streams.specs.declared.stream.Sought.{Sought}
use Rattle.h3_webtransport_streams.specs.declared.stream.Sought.TheVariants as sought

abbrev pub is_sought : Sought → SessionStream → Bool
is_sought sought.ToSend s = has_something s
is_sought (sought.Session session) s = is_of session s
