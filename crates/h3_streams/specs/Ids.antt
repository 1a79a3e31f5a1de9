-- What an id is to an endpoint.
use Rattle.h3_connection.specs.Endpoint.{Kind}
use Rattle.h3_connection.specs.Endpoint.Kind.{Request, ServerOpened, OwnUnidirectional, PeerUnidirectional}
use Rattle.h3_streams.specs.declared.ids.StreamKind.{StreamKind}
use Rattle.h3_streams.specs.declared.ids.StreamKind.TheVariants as stream

abbrev pub kind : StreamKind → Kind
kind stream.Request = Request
kind stream.ServerOpened = ServerOpened
kind stream.OwnUnidirectional = OwnUnidirectional
kind stream.PeerUnidirectional = PeerUnidirectional
