-- What is handed out, exactly: with the flags of its list, and as the header that this reads as.
use Rattle.std.specs.Prelude.{ℕ, List, [], ◌∷◌, Bool, true, false, ◌≡◌, ◌<◌, ◌≤◌}
use Rattle.h3_field.specs.Field.{section_size}
use Rattle.h3_header.specs.Head.{head_fields}
use Rattle.h3_header.specs.Reads.{head_of_fields}
use Rattle.h3_proto.specs.declared.stream.Side.{Side}
use Rattle.h3_connection.specs.Announcing.{section_of}
use Rattle.h3_connection.specs.OwnIds.{other}
use Rattle.h3_world.specs.Lists.{as_flagged}
use Rattle.h3_world.specs.Setup.{Setup, announced_at, flags_secrets}
use Rattle.h3_headline.specs.Messages.{MessageContent}
use Rattle.h3_headline.specs.Messages.MessageContent.{Byte, FieldSection, TooLarge}

-- What is known of a reader: the greatest section that it takes, and whether the encoder of what it reads guards secrets.
pub record Reader : Type 0 where
  pub most : ℕ
  pub guards : Bool

-- the side as a reader
abbrev pub reader_at : Setup → Side → Reader
reader_at setup side = record { most = section_of (announced_at setup side); guards = flags_secrets (announced_at setup (other side)) }

-- A list has the secrets flagged that its encoder guards (RFC 9204, section 7.1.3), and a header the fields of the header that the list reads as. Of a
-- list above the reader's limit comes its size alone (RFC 9114, section 4.2.2).
abbrev pub IsExactly : Reader → MessageContent → MessageContent → Type 0
IsExactly r (FieldSection kind true given) (FieldSection k l fields) = (kind ≡ k) × (given ≡ as_flagged r.guards fields) × (section_size fields ≤ r.most)
IsExactly r (FieldSection kind false given) (FieldSection k l fields) = (kind ≡ k) × (given ≡ head_fields (head_of_fields fields)) × (section_size fields ≤ r.most)
IsExactly r (TooLarge size) (FieldSection k l fields) = (size ≡ section_size fields) × (r.most < section_size fields)
IsExactly r (Byte b) (Byte c) = b ≡ c
IsExactly r _ _ = ⊥

-- some contents are the others, and are no more
abbrev pub IsAllOf : (MessageContent → MessageContent → Type 0) → List MessageContent → List MessageContent → Type 0
IsAllOf R [] [] = Unit {0}
IsAllOf R (c ∷ handed) (d ∷ sent) = R c d × IsAllOf R handed sent
IsAllOf R _ _ = ⊥

-- a section within this limit
abbrev pub IsTakenWhole : ℕ → MessageContent → Type 0
IsTakenWhole most (FieldSection kind as_list fields) = section_size fields ≤ most
IsTakenWhole most _ = Unit {0}

-- a header that was sent is read back as its fields
abbrev pub IsReadBack : MessageContent → Type 0
IsReadBack (FieldSection kind false fields) = head_fields (head_of_fields fields) ≡ fields
IsReadBack _ = Unit {0}

-- a section as the list that goes out
abbrev pub as_listed : MessageContent → MessageContent
as_listed (FieldSection kind as_list fields) = FieldSection kind true fields
as_listed content = content

-- a list as the header that it reads as, however it was handed out
abbrev pub header_of : MessageContent → MessageContent
header_of (FieldSection kind true fields) = FieldSection kind false (head_fields (head_of_fields fields))
header_of content = content
