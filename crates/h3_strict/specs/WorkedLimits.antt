-- Worked schedules of limits: one that takes what is sent, before the settings too, and one that is too low for an insertion.
use Rattle.std.specs.Prelude.{ℕ, List, [], ◌∷◌, ◌++◌, codes, flat_map}
use Rattle.h3_header.specs.Head.{Head as Fields}
use Rattle.h3_proto.specs.Config.{no_choices}
use Rattle.h3_proto.specs.declared.stream.Side.TheVariants.{Client, Server}
use Rattle.h3_connection.specs.Codes.{excessive_load}
use Rattle.h3_connection.specs.declared.event.Refusal.TheVariants as refusal
use Rattle.h3_world.specs.WorkedHeads.{between, plain, with_one}
use Rattle.h3_world.specs.declared.event.Answer.{Answer}
use Rattle.h3_world.specs.declared.event.Answer.TheVariants as answer
use Rattle.h3_world.specs.declared.event.Event.{Event}
use Rattle.h3_world.specs.declared.event.Event.TheVariants as event
use Rattle.h3_world.specs.Setup.{Setup}

-- The server's limit is as long as the payload of the client's SETTINGS, 21 bytes: seven ids, of which two take four bytes, and seven values, of which
-- one takes two. It announces no table and lists of two bytes
abbrev pub small_server : Setup
small_server = between (plain 1000 0 0) (record (plain 2 0 0) { choices = record no_choices { unfinished_limit = 21 } })

-- the ids of nineteen requests, which the client cancels
abbrev pub canceled_ids : List ℕ
canceled_ids = 0 ∷ 4 ∷ 8 ∷ 12 ∷ 16 ∷ 20 ∷ 24 ∷ 28 ∷ 32 ∷ 36 ∷ 40 ∷ 44 ∷ 48 ∷ 52 ∷ 56 ∷ 60 ∷ 64 ∷ 68 ∷ 72 ∷ []

abbrev pub canceling_run : List Event
canceling_run = flat_map (λ id. event.OpenRequest Client ∷ event.Cancel Client id ∷ []) canceled_ids

abbrev pub canceling_answers : List Answer
canceling_answers = flat_map (λ id. answer.Opened id ∷ answer.Done ∷ []) canceled_ids

-- Each of the first sixteen ids takes a byte of the decoder stream (RFC 9204, section 4.4.2), and each of the others two, behind the byte of the
-- stream's type. Before the client's settings come all of these 22 bytes wait, above the limit
abbrev pub waiting_run : List Event
waiting_run = canceling_run ++ event.Deliver Client 10 21 ∷ event.Deliver Client 10 2 ∷ []

abbrev pub waiting_answers : List Answer
waiting_answers = canceling_answers ++ answer.Delivered 21 ∷ answer.Delivered 2 ∷ []

-- behind the settings, a frame of 23 bytes behind the type of the control stream, all of them come
abbrev pub settled_run : List Event
settled_run = canceling_run ++ event.Deliver Client 2 24 ∷ event.Deliver Client 10 23 ∷ []

abbrev pub settled_answers : List Answer
settled_answers = canceling_answers ++ answer.Delivered 24 ∷ answer.Delivered 23 ∷ []

-- A client announces lists of 117 bytes and a table of 75, and its limit is as long as such a list
abbrev pub close_client : Setup
close_client = between (record (plain 117 75 1) { choices = record no_choices { unfinished_limit = 117 } }) (plain 1000 0 0)

-- ten bytes that each have 28 bits in the Huffman code (RFC 7541, appendix B)
abbrev pub ten : List ℕ
ten = 249 ∷ 249 ∷ 249 ∷ 249 ∷ 249 ∷ 249 ∷ 249 ∷ 249 ∷ 249 ∷ 249 ∷ []

-- 42 bytes of the status, and 75 of the other field: 3, 40 and 32
abbrev pub rare : Fields
rare = with_one 200 (codes "x-a") (ten ++ ten ++ ten ++ ten)

-- The insertion is 146 bytes long: the length of the name and three bytes, two bytes of the length of the value, which is 140, and these. Behind the
-- type of the stream and two bytes of the capacity, six bytes of it tell so
abbrev pub inserting_run : List Event
inserting_run =
    event.OpenRequest Client ∷ event.Deliver Client 0 0 ∷ event.Deliver Client 2 25 ∷ event.Head Server 0 rare ∷ event.Deliver Server 7 8 ∷ event.Deliver Server 7 1 ∷ []

abbrev pub inserting_answers : List Answer
inserting_answers =
    answer.Opened 0 ∷ answer.Delivered 0 ∷ answer.Delivered 25 ∷ answer.Done ∷ answer.Delivered 8 ∷ answer.Refused (refusal.Connection excessive_load) ∷ []

-- A server takes no frame of a byte or more. The client's settings are 23 bytes behind the type of its control stream
abbrev pub no_room : Setup
no_room = between (plain 1000 0 0) (record (plain 1000 0 0) { choices = record no_choices { unfinished_limit = 0 } })

abbrev pub settings_run : List Event
settings_run = event.Deliver Client 2 24 ∷ []

abbrev pub settings_answers : List Answer
settings_answers = answer.Refused (refusal.Connection excessive_load) ∷ []
