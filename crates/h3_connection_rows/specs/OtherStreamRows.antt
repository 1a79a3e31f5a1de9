-- Worked rows of unidirectional streams of types that have no meaning here (RFC 9114, section 6.2).
use Rattle.std.specs.Prelude.{ℕ, Bool, List}
use Rattle.h3_proto.specs.Config.{no_choices, no_extensions}
use Rattle.h3_proto.specs.declared.stream.Side.TheVariants.{Server}
use Rattle.h3_connection.specs.Delivering.{deliver, deliver_end, deliver_reset, unidirectional_at}
use Rattle.h3_connection.specs.Endpoint.{EndpointHistory, new_endpoint}
use Rattle.h3_connection.specs.Keeping.{pulls}
use Rattle.h3_connection.specs.Unidirectional.{Role}
use Rattle.h3_connection.specs.Unread.{unread}
use Rattle.h3_connection.specs.declared.event.Pull.{Pull}
use Rattle.h3_connection.specs.declared.setup.Announced.{Announced}
use Rattle.h3_connection_rows.specs.Worked.{hex, plain}

-- they are handed out, or not
abbrev pub handing_out : Bool → Announced
handing_out others = record (plain 1000 0 0) { choices = record no_choices { extensions = record no_extensions { other_streams = others } } }

-- a server, to which these bytes came on a further unidirectional stream of its client
abbrev pub came : Bool → List ℕ → EndpointHistory
came others text = (deliver (new_endpoint Server (handing_out others)) 14 (hex text)).1

abbrev pub more : EndpointHistory → List ℕ → EndpointHistory
more e text = (deliver e 14 (hex text)).1

abbrev pub ended : EndpointHistory → EndpointHistory
ended e = (deliver_end e 14).1

abbrev pub cut_off : EndpointHistory → EndpointHistory
cut_off e = (deliver_reset e 14 7).1

-- what it is read as
abbrev pub role : EndpointHistory → Role
role e = (unidirectional_at e 14).role

-- what is pulled of it, and what then, and how many bytes wait
abbrev pub pulled : EndpointHistory → Pull
pulled e = (pulls e 14).0

abbrev pub behind : EndpointHistory → EndpointHistory
behind e = (pulls e 14).1

abbrev pub waiting : EndpointHistory → ℕ
waiting e = unread e 14
