-- What a strict reader takes: parts of a message that break no rule of well-formed messages (RFC 9114, sections 4.1.2 and 4.2 to 4.5), with the
-- content that they say.
use Rattle.std.specs.Prelude.{◌≡◌, ◌⊎◌, ℕ, zero, suc, ◌+◌, ◌≤◌, true, false, List, [], ◌∷◌, take, length, fold, None}
use Rattle.h3_header.specs.Head.{trailer_head}
use Rattle.h3_header.specs.Reads.{AcceptsAll}
use Rattle.h3_messages.specs.Content.{is_exceeded, left_behind, may_end, takes_trailer}
use Rattle.h3_messages.specs.declared.content.Content.{Content}
use Rattle.h3_messages.specs.declared.content.Content.TheVariants.{Unsaid, Tunnel, Unanswered}
use Rattle.h3_proto.specs.declared.stream.Side.{Side}
use Rattle.h3_proto.specs.declared.stream.Side.TheVariants.{Client, Server}
use Rattle.h3_connection.specs.StrictMessages.{broken_rule, content_of_head}
use Rattle.h3_connection.specs.declared.place.Place.TheVariants.{BeforeHead, InBody}
use Rattle.h3_connection.specs.declared.setup.Announced.{Announced}
use Rattle.h3_world.specs.Flow.{Part}
use Rattle.h3_world.specs.Flow.Part.{Interim, Head, Body, Trailer, End}
use Rattle.h3_world.specs.Setup.{takes_any}
use Rattle.h3_headline.specs.Standing.{place_after}

-- how much content is left behind a part, for who reads it: the head says it, and each piece of the body is taken from it
abbrev pub content_behind_part : Side → Content → Part → Content
content_behind_part reader content (Interim s) = content
content_behind_part reader content (Head s) = content_of_head reader content s.fields
content_behind_part reader content (Body bytes own) = left_behind content (length bytes)
content_behind_part reader content (Trailer s) = content
content_behind_part reader content End = content

-- behind some parts, where this was awaited in front of them
abbrev pub content_along : Side → Content → List Part → Content
content_along reader awaited parts = fold (content_behind_part reader) awaited parts

-- In front of a head no content is left to come: a client awaits what its request asked for, and a server nothing.
abbrev pub IsAwaited : Side → Content → Type 0
IsAwaited Client content = may_end content ≡ true
IsAwaited Server content = content ≡ Unsaid

-- The part breaks no rule for a reader that announced so much, where this content is left, and a list reads as a header by the protocols that
-- the reader takes.
abbrev pub IsUnbroken : Side → Announced → Content → Part → Type 0
IsUnbroken reader own content (Interim s) = (broken_rule reader own BeforeHead s.fields ≡ None) × IsAwaited reader content × AcceptsAll (takes_any own) (trailer_head []) s.fields
IsUnbroken reader own content (Head s) = (broken_rule reader own BeforeHead s.fields ≡ None) × IsAwaited reader content × AcceptsAll (takes_any own) (trailer_head []) s.fields
IsUnbroken reader own content (Body bytes end) = is_exceeded (left_behind content (length bytes)) ≡ false
IsUnbroken reader own content (Trailer s) = (broken_rule reader own InBody s.fields ≡ None) × (takes_trailer content ≡ true) × (may_end content ≡ true) × AcceptsAll (takes_any own) (trailer_head []) s.fields
IsUnbroken reader own content End = may_end content ≡ true

-- None of the parts does, each behind those before it.
abbrev pub AreUnbroken : Side → Announced → Content → List Part → Type 0
AreUnbroken reader own left [] = Unit {0}
AreUnbroken reader own left (part ∷ parts) = IsUnbroken reader own left part × AreUnbroken reader own (content_behind_part reader left part) parts

-- The receiver holds a message against no more than its parts say. Behind a head that was too large it may know nothing of what that said, and a server
-- that has not answered a CONNECT takes more than a tunnel.
abbrev pub SaysNoMore : Content → Content → Type 0
SaysNoMore kept said = (kept ≡ said) ⊎ ((kept ≡ Unsaid) ⊎ ((kept ≡ Unanswered) × (said ≡ Tunnel)))

-- how many parts a receiver has begun to read: one more than are handed out, inside a payload
abbrev pub begun : ℕ → ℕ → ℕ
begun out zero = out
begun out (suc left) = out + 1

-- The content that a receiver keeps is what the parts say that it has begun to read: so many are handed out, and so much is left of a begun
-- payload.
pub record CountsAlong (reader : Side) (awaited : Content) (parts : List Part) (out left : ℕ) (content : Content) : Type 0 where
  pub before : place_after (take out parts) ≡ BeforeHead → content ≡ content_along reader awaited (take out parts)
  pub counts : SaysNoMore content (content_along reader awaited (take (begun out left) parts))
  pub within : begun out left ≤ length parts
