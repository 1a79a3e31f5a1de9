-- Worked rows of instructions that are longer than a limit of eight bytes, on the peer's encoder and decoder streams; and of frames on request
-- streams that are longer than a limit of 100 bytes.
use Rattle.std.specs.Prelude.{List, [], ◌∷◌, codes}
use Rattle.h3_proto.specs.declared.stream.Side.TheVariants.{Server}
use Rattle.h3_connection.specs.declared.event.Fault.TheVariants as fault
use Rattle.h3_connection.specs.declared.event.Item.TheVariants as item
use Rattle.h3_connection.specs.declared.event.Malformation.TheVariants as malformation
use Rattle.h3_connection.specs.declared.event.Pull.TheVariants as pulls
use Rattle.h3_connection.specs.declared.event.Refusal.TheVariants as refusal
use Rattle.h3_connection.specs.declared.event.StreamFault.TheVariants as stream_fault
use Rattle.h3_connection.specs.Endpoint.{EndpointHistory, new_endpoint}
use Rattle.h3_connection.specs.CallLists.{Call, Result}
use Rattle.h3_connection.specs.CallLists.Call.{Outgoing, Deliver, PullStream, SendHead}
use Rattle.h3_connection.specs.CallLists.Result.{Done, Pulled, Refused, Waits}
use Rattle.h3_connection_rows.specs.Worked.{field, head, hex, limited, limited_shortly}

-- Insert With Name Reference, static index 0, a value of 15 bytes: 17 bytes in all are known once its length came
abbrev pub string_above_the_limit_endpoint : EndpointHistory
string_above_the_limit_endpoint = new_endpoint Server limited_shortly

abbrev pub string_above_the_limit : List Call
string_above_the_limit =
    Deliver 6 (hex (codes "023fbd01c0")) ∷
    Deliver 6 (hex (codes "0f")) ∷
    Deliver 6 (hex (codes "77")) ∷
    Outgoing 11 ∷
    []

abbrev pub string_above_the_limit_answers : List Result
string_above_the_limit_answers =
    Done ∷
    Refused (refusal.Connection 263) ∷
    Refused (refusal.Connection 263) ∷
    Waits (hex (codes "03")) ∷
    []

-- what stands in front of it is read, with a value of one byte
abbrev pub string_behind_an_insertion_endpoint : EndpointHistory
string_behind_an_insertion_endpoint = new_endpoint Server limited_shortly

abbrev pub string_behind_an_insertion : List Call
string_behind_an_insertion =
    Deliver 6 (hex (codes "023fbd01c00161c00f7777772e6578616d706c652e636f6d")) ∷
    Outgoing 11 ∷
    []

abbrev pub string_behind_an_insertion_answers : List Result
string_behind_an_insertion_answers =
    Refused (refusal.Connection 263) ∷
    Waits (hex (codes "0301")) ∷
    []

-- a value of six bytes makes eight, in one delivery and in two
abbrev pub instruction_at_the_limit_endpoint : EndpointHistory
instruction_at_the_limit_endpoint = new_endpoint Server limited_shortly

abbrev pub instruction_at_the_limit : List Call
instruction_at_the_limit =
    Deliver 6 (hex (codes "023fbd01c006616263646566")) ∷
    Deliver 6 (hex (codes "c0066162636465")) ∷
    Deliver 6 (hex (codes "66")) ∷
    Outgoing 11 ∷
    []

abbrev pub instruction_at_the_limit_answers : List Result
instruction_at_the_limit_answers =
    Done ∷
    Done ∷
    Done ∷
    Waits (hex (codes "030101")) ∷
    []

-- and one of seven makes nine
abbrev pub instruction_one_above_the_limit_endpoint : EndpointHistory
instruction_one_above_the_limit_endpoint = new_endpoint Server limited_shortly

abbrev pub instruction_one_above_the_limit : List Call
instruction_one_above_the_limit =
    Deliver 6 (hex (codes "023fbd01c0")) ∷
    Deliver 6 (hex (codes "07")) ∷
    Outgoing 11 ∷
    []

abbrev pub instruction_one_above_the_limit_answers : List Result
instruction_one_above_the_limit_answers =
    Done ∷
    Refused (refusal.Connection 263) ∷
    Waits (hex (codes "03")) ∷
    []

-- Insert With Literal Name, a name of eight bytes
abbrev pub name_above_the_limit_endpoint : EndpointHistory
name_above_the_limit_endpoint = new_endpoint Server limited_shortly

abbrev pub name_above_the_limit : List Call
name_above_the_limit =
    Deliver 6 (hex (codes "023fbd01")) ∷
    Deliver 6 (hex (codes "48")) ∷
    []

abbrev pub name_above_the_limit_answers : List Result
name_above_the_limit_answers =
    Done ∷
    Refused (refusal.Connection 263) ∷
    []

-- a name of seven bytes makes eight, and no byte is left for the length of its value
abbrev pub name_that_leaves_no_room_endpoint : EndpointHistory
name_that_leaves_no_room_endpoint = new_endpoint Server limited_shortly

abbrev pub name_that_leaves_no_room : List Call
name_that_leaves_no_room =
    Deliver 6 (hex (codes "023fbd0147")) ∷
    Deliver 6 (hex (codes "616161616161")) ∷
    Deliver 6 (hex (codes "61")) ∷
    []

abbrev pub name_that_leaves_no_room_answers : List Result
name_that_leaves_no_room_answers =
    Done ∷
    Done ∷
    Refused (refusal.Connection 263) ∷
    []

-- Set Dynamic Table Capacity: groups that are worth nothing, up to eight bytes with none that ends it
abbrev pub integer_past_the_limit_endpoint : EndpointHistory
integer_past_the_limit_endpoint = new_endpoint Server limited_shortly

abbrev pub integer_past_the_limit : List Call
integer_past_the_limit =
    Deliver 6 (hex (codes "023f808080808080")) ∷
    Deliver 6 (hex (codes "80")) ∷
    []

abbrev pub integer_past_the_limit_answers : List Result
integer_past_the_limit_answers =
    Done ∷
    Refused (refusal.Connection 263) ∷
    []

-- the eighth byte ends it: a capacity of 31
abbrev pub integer_at_the_limit_endpoint : EndpointHistory
integer_at_the_limit_endpoint = new_endpoint Server limited_shortly

abbrev pub integer_at_the_limit : List Call
integer_at_the_limit =
    Deliver 6 (hex (codes "023f808080808080")) ∷
    Deliver 6 (hex (codes "00")) ∷
    Deliver 6 (hex (codes "20")) ∷
    []

abbrev pub integer_at_the_limit_answers : List Result
integer_at_the_limit_answers =
    Done ∷
    Done ∷
    Done ∷
    []

-- a capacity of 221, above the announced one, is the stream's own fault
abbrev pub bad_instruction_within_the_limit_endpoint : EndpointHistory
bad_instruction_within_the_limit_endpoint = new_endpoint Server limited_shortly

abbrev pub bad_instruction_within_the_limit : List Call
bad_instruction_within_the_limit =
    Deliver 6 (hex (codes "023fbe01")) ∷
    []

abbrev pub bad_instruction_within_the_limit_answers : List Result
bad_instruction_within_the_limit_answers =
    Refused (refusal.Connection 513) ∷
    []

-- Stream Cancellation whose stream's number does not end
abbrev pub cancellation_past_the_limit_endpoint : EndpointHistory
cancellation_past_the_limit_endpoint = new_endpoint Server limited_shortly

abbrev pub cancellation_past_the_limit : List Call
cancellation_past_the_limit =
    Deliver 2 (hex (codes "000405014040070a")) ∷
    Deliver 10 (hex (codes "037f808080808080")) ∷
    Deliver 10 (hex (codes "80")) ∷
    []

abbrev pub cancellation_past_the_limit_answers : List Result
cancellation_past_the_limit_answers =
    Done ∷
    Done ∷
    Refused (refusal.Connection 263) ∷
    []

-- Sixty bytes wait for the settings, whatever the limit is
abbrev pub decoder_stream_before_the_settings_endpoint : EndpointHistory
decoder_stream_before_the_settings_endpoint = new_endpoint Server limited_shortly

abbrev pub decoder_stream_before_the_settings : List Call
decoder_stream_before_the_settings =
    Deliver 10 (hex (codes "034040404040404040404040404040404040404040404040404040404040")) ∷
    Deliver 10 (hex (codes "40404040404040404040404040404040404040404040404040404040404040")) ∷
    Deliver 2 (hex (codes "000405014040070a")) ∷
    []

abbrev pub decoder_stream_before_the_settings_answers : List Result
decoder_stream_before_the_settings_answers =
    Done ∷
    Done ∷
    Done ∷
    []

-- one that is too long among them is found once the settings came
abbrev pub cancellation_before_the_settings_endpoint : EndpointHistory
cancellation_before_the_settings_endpoint = new_endpoint Server limited_shortly

abbrev pub cancellation_before_the_settings : List Call
cancellation_before_the_settings =
    Deliver 10 (hex (codes "0340407f80808080808080")) ∷
    Deliver 2 (hex (codes "0004050140400709")) ∷
    []

abbrev pub cancellation_before_the_settings_answers : List Result
cancellation_before_the_settings_answers =
    Done ∷
    Refused (refusal.Connection 263) ∷
    []

-- eight wait for the settings, and behind these any number of cancellations is read
abbrev pub decoder_stream_that_waits_endpoint : EndpointHistory
decoder_stream_that_waits_endpoint = new_endpoint Server limited_shortly

abbrev pub decoder_stream_that_waits : List Call
decoder_stream_that_waits =
    Deliver 10 (hex (codes "0340404040404040")) ∷
    Deliver 10 (hex (codes "40")) ∷
    Deliver 2 (hex (codes "000405014040070a")) ∷
    Deliver 10 (hex (codes "40404040404040404040")) ∷
    []

abbrev pub decoder_stream_that_waits_answers : List Result
decoder_stream_that_waits_answers =
    Done ∷
    Done ∷
    Done ∷
    Done ∷
    []

-- HEADERS of 200 bytes behind an unknown frame, of which the head came: its stream is given up, with one cancellation (RFC 9204, section 4.4.2), and
-- what comes behind is thrown away. It may be answered, and a request on another stream is read.
abbrev pub section_above_the_limit_endpoint : EndpointHistory
section_above_the_limit_endpoint = new_endpoint Server limited

abbrev pub section_above_the_limit : List Call
section_above_the_limit =
    Deliver 4 (hex (codes "2101000140c8")) ∷
    PullStream 4 ∷
    Deliver 4 (hex (codes "0000d1d7500161c1")) ∷
    PullStream 4 ∷
    Outgoing 11 ∷
    SendHead 4 (head (field (codes ":status") (codes "431") ∷ [])) ∷
    Deliver 0 (hex (codes "01080000d1d7500161c1")) ∷
    PullStream 0 ∷
    []

abbrev pub section_above_the_limit_answers : List Result
section_above_the_limit_answers =
    Done ∷
    Pulled (pulls.Fault (fault.Stream (stream_fault.Malformed malformation.TooLong))) ∷
    Done ∷
    Pulled (pulls.Fault (fault.Stream (stream_fault.Malformed malformation.TooLong))) ∷
    Waits (hex (codes "0344")) ∷
    Done ∷
    Done ∷
    Pulled (pulls.Item (item.Head (head (
    field (codes ":method") (codes "GET") ∷ field (codes ":scheme") (codes "https") ∷ field (codes ":authority") (codes "a") ∷ field (codes ":path") (codes "/") ∷ [])))) ∷
    []

-- one of 100 bytes is not too long
abbrev pub section_at_the_limit_endpoint : EndpointHistory
section_at_the_limit_endpoint = new_endpoint Server limited

abbrev pub section_at_the_limit : List Call
section_at_the_limit =
    Deliver 0 (hex (codes "014064")) ∷
    PullStream 0 ∷
    Deliver 4 (hex (codes "014065")) ∷
    PullStream 4 ∷
    Outgoing 11 ∷
    []

abbrev pub section_at_the_limit_answers : List Result
section_at_the_limit_answers =
    Done ∷
    Pulled pulls.Pending ∷
    Done ∷
    Pulled (pulls.Fault (fault.Stream (stream_fault.Malformed malformation.TooLong))) ∷
    Waits (hex (codes "0344")) ∷
    []

-- SETTINGS of 200 bytes on a request stream, too long before they are at a wrong place
abbrev pub settings_on_a_request_endpoint : EndpointHistory
settings_on_a_request_endpoint = new_endpoint Server limited

abbrev pub settings_on_a_request : List Call
settings_on_a_request =
    Deliver 0 (hex (codes "0440c8")) ∷
    PullStream 0 ∷
    Deliver 4 (hex (codes "01080000d1d7500161c1")) ∷
    []

abbrev pub settings_on_a_request_answers : List Result
settings_on_a_request_answers =
    Done ∷
    Pulled (pulls.Fault (fault.Connection 263)) ∷
    Refused (refusal.Connection 263) ∷
    []
