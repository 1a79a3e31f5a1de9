-- Which list of fields came next on a request stream, if it is there.
use Rattle.std.specs.Prelude.{List, Option, Some, None}
use Rattle.h3_field.specs.Field.{Field}
use Rattle.h3_qpack.specs.DecoderState.{DecoderState}
use Rattle.h3_connection.specs.State.{RequestState}
use Rattle.h3_connection.specs.Coming.{fields_next}
use Rattle.h3_connection.specs.declared.setup.Announced.{Announced}

abbrev pub fields_at : Announced → DecoderState → Option RequestState → Option (List Field)
fields_at own r None = None
fields_at own r (Some s) = fields_next own r s.incoming
