-- What is known behind a section that came, by what it says of content.
use Rattle.std.specs.Prelude.{◌≡◌, ℕ, Bool, false, List, Option, Some}
use Rattle.h3_connection.specs.declared.place.Place.{Place}
use Rattle.h3_connection.specs.declared.place.Place.TheVariants.{BeforeHead}
use Rattle.h3_messages.specs.Content.{content_behind_status, until_answered}
use Rattle.h3_messages.specs.ResponseSaid.{said_by_status}
use Rattle.h3_messages.specs.declared.content.Content.{Content}
use Rattle.h3_messages.specs.declared.said.Said.{Said}
use Rattle.h3_messages.specs.declared.said.Said.TheVariants.{Nothing, Request, Response}
use Rattle.h3_messages.specs.declared.section.Section.{Section}
use Rattle.h3_messages.specs.declared.section.Section.TheVariants as section
use Rattle.h3_proto.specs.declared.stream.Side.{Side}
use Rattle.h3_proto.specs.declared.stream.Side.TheVariants.{Client, Server}

-- a client reads responses, and a server requests
abbrev pub section_of_head : Side → Section
section_of_head Client = section.Response
section_of_head Server = section.Request

abbrev pub section_at : Side → Place → Section
section_at side BeforeHead = section_of_head side
section_at side _ = section.Trailer

-- the content behind a section that says so, in front of which this was left
abbrev pub IsContentBy : Content → Said → Content → Type 0
IsContentBy before Nothing new = new ≡ before
IsContentBy before (Request awaited own) new = new ≡ until_answered own
IsContentBy before (Response said) new =
    (status size : List ℕ) (has_length : Bool) → said ≡ said_by_status status size has_length false → new ≡ content_behind_status before status size

-- what is known of a response
abbrev pub response_by : Option Content → Said → Option Content
response_by known Nothing = known
response_by known (Request awaited own) = Some awaited
response_by known (Response said) = known
