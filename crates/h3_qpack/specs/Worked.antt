-- The worked values that the definitions are tried at.
use Rattle.std.specs.Prelude.{ℕ, Bool, true, List, [], ◌∷◌, replicate, codes}
use Rattle.h3_field.specs.Field.{Field, plain_field, flagged}
use Rattle.h3_field.specs.StringLiteral.{huffman_text}
use Rattle.h3_field.specs.Instruction.DecoderInstruction.{Acknowledge, CancelStream, Increment}
use Rattle.h3_table.specs.Cancellations.{none_canceled}
use Rattle.h3_qpack.specs.EncoderHistory.{EncoderHistory, no_choices, no_table, using_table, encoder_after}
use Rattle.h3_field.specs.Instruction.EncoderInstruction.{SetCapacity, InsertLiteral, InsertWithEntryName, Duplicate}
use Rattle.std.specs.Prelude.{Option, Some, option_map}
use Rattle.h3_qpack.specs.DecodedSection.{DecodedSection, decode_section}
use Rattle.h3_qpack.specs.DecoderState.{DecoderState, announcing, checking, decoder_after_all}
use Rattle.h3_qpack.specs.SectionEncoding.{sent_section}

-- an encoder that has written nothing
abbrev pub fresh : ℕ → ℕ → EncoderHistory
fresh capacity limit = record no_table { announced = capacity; capacity = capacity; limit = limit }

abbrev pub sample : List Field
sample =
    plain_field (codes ":method") (codes "GET") ∷
    plain_field (codes ":scheme") (codes "https") ∷
    plain_field (codes ":authority") (codes "www.example.com") ∷
    plain_field (codes ":path") (codes "/sample/path") ∷ []

abbrev pub host_text : List ℕ
host_text = 140 ∷ 241 ∷ 227 ∷ 194 ∷ 229 ∷ 242 ∷ 58 ∷ 107 ∷ 160 ∷ 171 ∷ 144 ∷ 244 ∷ 255 ∷ []

abbrev pub path_text : List ℕ
path_text = 137 ∷ 97 ∷ 3 ∷ 166 ∷ 186 ∷ 10 ∷ 197 ∷ 99 ∷ 76 ∷ 255 ∷ []

abbrev pub x_a : Field
x_a = plain_field (codes "x-a") (codes "1")

abbrev pub x_b : Field
x_b = plain_field (codes "x-b") (codes "2")

-- a response 200 with one more field
abbrev pub with_header : Field → List Field
with_header f = plain_field (codes ":status") (codes "200") ∷ f ∷ []

abbrev pub x_a_of : List ℕ → Field
x_a_of value = plain_field (codes "x-a") value

-- the same field, never indexed
abbrev pub secret_a : Field
secret_a = flagged x_a true

-- It was sent in a section of its own, where a field that may be indexed is inserted.
abbrev pub secret_sent : EncoderHistory
secret_sent = sent_section (fresh 4096 100) 0 (secret_a ∷ [])

-- Two entries of one name, of which the older one alone is known, and no further section may be blocked.
abbrev pub older_known : EncoderHistory
older_known = sent_section (encoder_after (sent_section (fresh 200 1) 0 (x_a_of (codes "1") ∷ [])) (Increment 1)) 4 (x_a_of (codes "2") ∷ [])

-- a table of two entries that three were inserted into
abbrev pub three : Option DecoderState
three = decoder_after_all (Some (announcing 100)) (SetCapacity 100 ∷ InsertLiteral (huffman_text (codes "x-a")) (huffman_text (codes "1")) ∷ Duplicate 0 ∷ InsertWithEntryName 0 (huffman_text (codes "2")) ∷ [])

-- a decoder that checks counts or does not, behind the capacity 4096 and the insertions of a: b and c: d
abbrev pub two_inserted : Bool → Option DecoderState
two_inserted checks =
    decoder_after_all (Some (checking checks (announcing 4096))) (SetCapacity 4096 ∷ InsertLiteral (huffman_text (codes "a")) (huffman_text (codes "b")) ∷ InsertLiteral (huffman_text (codes "c")) (huffman_text (codes "d")) ∷ [])

-- what it makes of a section
abbrev pub decoded_by : Bool → List ℕ → Option DecodedSection
decoded_by checks bytes = option_map (λ r. decode_section r bytes) (two_inserted checks)

-- and what one makes of it that announced no table
abbrev pub decoded_without_table : Bool → List ℕ → DecodedSection
decoded_without_table checks bytes = decode_section (checking checks (announcing 0)) bytes

-- Three responses on stream 0, two of them interim, each with one more field; then the insertion is
-- known to be received, and the stream is canceled.
abbrev pub three_canceled : EncoderHistory
three_canceled =
    let interim = plain_field (codes ":status") (codes "103") ∷ x_a ∷ [] in
    let sent = sent_section (sent_section (sent_section (fresh 64 10) 0 interim) 0 interim) 0 (with_header x_a) in
    encoder_after (encoder_after sent (Increment 1)) (CancelStream 0)

-- Stream 0 is canceled before anything.
abbrev pub canceled_first : EncoderHistory
canceled_first = encoder_after (fresh 64 10) (CancelStream 0)

-- At most one canceled stream is kept: the stream 0 has a section, and then the streams 8 and 4 are canceled.
abbrev pub one_kept : EncoderHistory
one_kept =
    let sent = sent_section (record (fresh 64 10) { canceled = none_canceled (Some 1) }) 0 (with_header x_a) in
    encoder_after (encoder_after sent (CancelStream 8)) (CancelStream 4)

-- One more section may be blocked, and acknowledgments count or do not: stream 0 has a response that waits for an insertion.
abbrev pub one_waits : Bool → EncoderHistory
one_waits counts = sent_section (record (fresh 64 1) { counts_acknowledgments = counts }) 0 (with_header x_a)

-- its decoder acknowledges it, and leaves the increment out
abbrev pub one_acknowledged : Bool → EncoderHistory
one_acknowledged counts = encoder_after (one_waits counts) (Acknowledge 0)

-- Two sections of one stream, each with an insertion of its own, where acknowledgments count or do not.
abbrev pub two_on_a_stream : Bool → EncoderHistory
two_on_a_stream counts = sent_section (sent_section (record (fresh 100 10) { counts_acknowledgments = counts }) 0 (with_header x_a)) 0 (with_header x_b)

-- No section may be blocked, and the encoder is economical with a table of this capacity; a response has one more field.
abbrev pub no_waiting : ℕ → EncoderHistory
no_waiting capacity = record (fresh capacity 0) { choices = record no_choices { economical = true } }

abbrev pub inserted_ahead : ℕ → EncoderHistory
inserted_ahead capacity = sent_section (no_waiting capacity) 0 (with_header x_a)

-- A section of one field, which is acknowledged, and of which one insertion is known.
abbrev pub kept_field : EncoderHistory → ℕ → Field → EncoderHistory
kept_field s stream f = encoder_after (encoder_after (sent_section s stream (f ∷ [])) (Increment 1)) (Acknowledge stream)

abbrev pub empty_a : Field
empty_a = plain_field (codes "a") []

abbrev pub empty_b : Field
empty_b = plain_field (codes "b") []

-- of size 250
abbrev pub x_long : Field
x_long = plain_field (codes "x") (replicate 217 97)

-- An economical encoder has 316 bytes in a table of 320, of which seven eighths are 280: the two oldest of its three entries drain.
abbrev pub two_drain : EncoderHistory
two_drain = kept_field (kept_field (kept_field (record (fresh 320 10) { choices = record no_choices { economical = true } }) 0 empty_a) 4 empty_b) 8 x_long

-- another value of the oldest entry's name
abbrev pub a_of_two : Field
a_of_two = plain_field (codes "a") (codes "2")

-- Its table has at most so much, and its decoder announced a capacity.
abbrev pub capped : ℕ → ℕ → EncoderHistory
capped most announced = using_table (record no_table { most_capacity = most }) announced 10

-- Two responses with an insertion each, of which each is known and acknowledged before what follows.
abbrev pub twice_inserted : EncoderHistory → EncoderHistory
twice_inserted s =
    let first = encoder_after (encoder_after (sent_section s 0 (with_header x_a)) (Increment 1)) (Acknowledge 0) in
    encoder_after (encoder_after (sent_section first 4 (with_header x_b)) (Increment 1)) (Acknowledge 4)

-- Its encoder guards secrets.
abbrev pub guarding : EncoderHistory
guarding = record (fresh 4096 100) { choices = record no_choices { guards_secrets = true } }

abbrev pub short_cookie : Field
short_cookie = plain_field (codes "cookie") (codes "id=1")

abbrev pub long_cookie : Field
long_cookie = plain_field (codes "cookie") (replicate 20 97)

-- Its encoder writes the shortest strings.
abbrev pub with_shortest : ℕ → ℕ → EncoderHistory
with_shortest capacity limit = record (fresh capacity limit) { choices = record no_choices { shortest_strings = true } }
