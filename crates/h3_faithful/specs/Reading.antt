-- What a side reads of what the other one sent: each section as a list of fields or as a header.
use Rattle.std.specs.Prelude.{◌≡◌, ◌<◌, ◌≤◌, Bool, not, ◌&&◌, ◌||◌, List, [], ◌∷◌, map, fold, if◌then◌else◌, bytes_eq, codes, is_some, option_map}
use Rattle.std.specs.List.{list_any}
use Rattle.http_header.specs.FieldValue.{plain_value}
use Rattle.http_header.specs.HeaderMap.{append}
use Rattle.http_uri.specs.Grammar.{without_fragment}
use Rattle.h3_field.specs.Field.{Field, section_size}
use Rattle.h3_field.specs.Secret.{is_secret}
use Rattle.h3_qpack.specs.Sizes.{last_value}
use Rattle.h3_header.specs.Head.{Head, head_fields}
use Rattle.h3_proto.specs.declared.stream.Side.{Side}
use Rattle.h3_proto.specs.declared.stream.Side.TheVariants.{Client, Server}
use Rattle.h3_connection.specs.Announcing.{section_of}
use Rattle.h3_connection.specs.OwnIds.{other}
use Rattle.h3_world.specs.Setup.{Setup, announced_at}
use Rattle.h3_headline.specs.Messages.{MessageContent, status_in}
use Rattle.h3_headline.specs.Messages.MessageContent.{Byte, FieldSection, TooLarge}

-- a pseudo-header field: one of these names (RFC 9114, section 4.3; RFC 8441, section 4)
abbrev pub is_pseudo : Field → Bool
is_pseudo f = list_any (bytes_eq f.name) (codes ":method" ∷ codes ":scheme" ∷ codes ":authority" ∷ codes ":path" ∷ codes ":status" ∷ codes ":protocol" ∷ [])

-- The header that a list of fields is: of each pseudo-header field the last value, and the map of the others.
abbrev pub header_in : List Field → Head
header_in fields = record {
  method = last_value (codes ":method") fields;
  scheme = last_value (codes ":scheme") fields;
  authority = last_value (codes ":authority") fields;
  path = option_map without_fragment (last_value (codes ":path") fields);
  status = status_in fields;
  protocol = last_value (codes ":protocol") fields;
  regular = fold (λ m f. if is_pseudo f then m else append m f.name (plain_value f.value)) [] fields;
}

-- a client sends requests, which have a method and no status, and a server responses, which have a status and no method
abbrev pub is_sent_by : Side → Head → Bool
is_sent_by Client h = is_some h.method && not (is_some h.status)
is_sent_by Server h = is_some h.status && not (is_some h.method)

-- the list as its reader gets it: with each secret flagged, if the encoder guards secrets (RFC 9204, section 7.1.3)
abbrev pub with_secrets_flagged : Bool → List Field → List Field
with_secrets_flagged guards fields = map (λ (f : Field). record f { never_indexed = f.never_indexed || guards && is_secret f }) fields

-- A side reads a section as its list, or as the fields of its header. Of one above its limit it reads the size alone (RFC 9114, section 4.2.2).
abbrev pub IsReadAs : Setup → Side → MessageContent → MessageContent → Type 0
IsReadAs setup side (FieldSection kind as_list given) (FieldSection k l fields) =
    (kind ≡ k) × (section_size fields ≤ section_of (announced_at setup side)) × (given ≡ (if as_list
    then with_secrets_flagged (announced_at setup (other side)).choices.extensions.secrets_guarded fields else head_fields (header_in fields)))
IsReadAs setup side (TooLarge size) (FieldSection k l fields) = (size ≡ section_size fields) × (section_of (announced_at setup side) < section_size fields)
IsReadAs setup side (Byte b) (Byte c) = b ≡ c
IsReadAs setup side _ _ = ⊥
