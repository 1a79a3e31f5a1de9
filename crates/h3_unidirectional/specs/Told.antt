-- The kind of a stream by its role (RFC 9114, section 6.2).
use Rattle.h3_connection.specs.Unidirectional.{Role}
use Rattle.h3_connection.specs.Unidirectional.Role.{Untold, Control, Encoder, Decoder, Session, Push, Ignored, Other}
use Rattle.h3_unidirectional.specs.declared.stream.Kind.{Kind}
use Rattle.h3_unidirectional.specs.declared.stream.Kind.TheVariants as kind

-- without the bytes of a type that is not whole
abbrev pub kind_in : Role → Kind
kind_in (Untold front) = kind.Untold
kind_in Control = kind.Control
kind_in Encoder = kind.Encoder
kind_in Decoder = kind.Decoder
kind_in (Session id) = kind.Session id
kind_in (Push id) = kind.Push id
kind_in Ignored = kind.Ignored
kind_in (Other number) = kind.Other number
