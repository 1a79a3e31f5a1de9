-- The streams of which nothing is kept but their roles, and whether they ended: what their places stand for.
use Rattle.std.specs.Prelude.{◌≡◌, ℕ, ◌+◌, ◌/◌, ◌%◌, ◌==◌, Bool, true, false, List, [], ◌∷◌, ◌++◌, if◌then◌else◌, Option, Some, None, unwrap_or, slice_index_or, ◌<◌, length}
use Rattle.std.specs.Option.{option_or}
use Rattle.h3_connection.specs.StreamSets.{Streams}
use Rattle.h3_connection.specs.Unidirectional.{Unidirectional}
use Rattle.h3_unidirectional.specs.Kinds.{plain}
use Rattle.h3_unidirectional.specs.declared.plain.PlainRole.{PlainRole}
use Rattle.h3_streams.specs.declared.plain.Place.{Place}
use Rattle.h3_streams.specs.declared.plain.Place.TheVariants.{Free, Open, Ended, Reset, EndedAndReset}
use Rattle.h3_streams.specs.declared.plain.ResetCode.{ResetCode}
use Rattle.h3_streams.specs.declared.plain.PlainStreams.{PlainStreams}

-- a stream of a role that its type alone tells
abbrev pub plain_stream : PlainRole → Bool → Option ℕ → Unidirectional
plain_stream role ended reset_code = record { role = plain role; unread = []; ended = ended; reset_code = reset_code; is_told = false; is_over = false }

-- the stream of a place, where this is the code of its reset
abbrev pub stream_in : Place → ℕ → Option Unidirectional
stream_in Free code = None
stream_in (Open role) code = Some (plain_stream role false None)
stream_in (Ended role) code = Some (plain_stream role true None)
stream_in (Reset role) code = Some (plain_stream role false (Some code))
stream_in (EndedAndReset role) code = Some (plain_stream role true (Some code))

-- the code that the stream of this id was reset with last
abbrev pub last_code : List ResetCode → ℕ → Option ℕ
last_code [] id = None
last_code (c ∷ codes) id = option_or (last_code codes id) (if c.id == id then Some c.code else None)

abbrev pub code_at : List ResetCode → ℕ → ℕ
code_at codes id = unwrap_or (last_code codes id) 0

abbrev pub entry : ℕ → Option Unidirectional → Streams Unidirectional
entry id None = []
entry id (Some o) = (id, o) ∷ []

-- the streams of a row, which begins with this id: they are four apart
abbrev pub streams_in : (ℕ → ℕ) → ℕ → List Place → Streams Unidirectional
streams_in code id [] = []
streams_in code id (place ∷ places) = entry id (stream_in place (code id)) ++ streams_in code (id + 4) places

abbrev pub plain_streams : PlainStreams → Streams Unidirectional
plain_streams t = streams_in (code_at t.codes.items) (t.first % 4) t.row.items

-- the places are the same, and further ones are free
abbrev pub SamePlaces : List Place → List Place → Type 0
SamePlaces old new = (n : ℕ) → slice_index_or new n Free ≡ slice_index_or old n Free

-- the number of a stream has a place
abbrev pub HasPlace : PlainStreams → ℕ → Type 0
HasPlace t id = (id % 4 ≡ t.first % 4) × (id / 4 < length t.row.items)

-- There is a stream of this role, of which nothing is unread.
abbrev pub IsPlain : PlainRole → Option Unidirectional → Type 0
IsPlain role None = ⊥
IsPlain role (Some o) = (o.role ≡ plain role) × (o.unread ≡ [])
