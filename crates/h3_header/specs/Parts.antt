-- The parts that a `Header` is kept as, and the head that they make.
use Rattle.std.specs.Prelude.{List, None}
use Rattle.http_header.specs.FieldValue.{FieldValue}
use Rattle.http_header.specs.HeaderMap.{Entries}
use Rattle.h3_field.specs.Field.{Field}
use Rattle.h3_header.specs.Head.{Head, pseudo_fields}
use Rattle.h3_header.specs.declared.headers.pseudo.Pseudo.{Pseudo}

-- no pseudo-header field
abbrev pub no_pseudo : Pseudo
no_pseudo = record { method = None; scheme = None; authority = None; path = None; status = None; protocol = None }

-- the head of pseudo-header fields and a map
abbrev pub head_of_parts : Pseudo → Entries FieldValue → Head
head_of_parts p m =
    record {
      method = p.method;
      scheme = p.scheme;
      authority = p.authority;
      path = p.path;
      status = p.status;
      protocol = p.protocol;
      regular = m;
    }

-- the fields of the pseudo-header fields
abbrev pub fields_of_pseudo : Pseudo → List Field
fields_of_pseudo p = pseudo_fields p.method p.scheme p.authority p.path p.status p.protocol
