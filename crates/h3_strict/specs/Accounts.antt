-- What a flow tells of what was sent and handed out, where it may have been given up.
use Rattle.std.specs.Prelude.{◌≡◌, ℕ, Bool, true, false, ◌||◌, ◌++◌, List, [], is_some, map}
use Rattle.h3_proto.specs.declared.stream.Side.{Side}
use Rattle.h3_connection.specs.OwnIds.{other}
use Rattle.h3_world.specs.Flow.{Flow}
use Rattle.h3_world.specs.Order.{is_over}
use Rattle.h3_world.specs.Streams.{flow}
use Rattle.h3_world.specs.World.{World}
use Rattle.h3_world.specs.declared.event.Answer.{Answer}
use Rattle.h3_world.specs.declared.event.Event.{Event}
use Rattle.h3_world.specs.Setup.{Setup}
use Rattle.h3_headline.specs.Contents.{contents, has_end, out, reader_of}
use Rattle.h3_headline.specs.Exactly.{IsAllOf, IsExactly, Reader, as_listed}
use Rattle.h3_headline.specs.Messages.{IsFrontOf, MessageContent, contents_of, ended_in, finished_in, is_end_of, pulled_in, sent_in}

-- Of a flow: all that was sent stands in it; what was handed out begins what is out, and is all of it unless the reader gave it up; and with the end it
-- is over.
pub record Accounts (r : Reader) (f : Flow) (sending : List MessageContent) (finishing : Bool) (handing : List MessageContent) (ending : Bool) : Type 0 where
  pub sent_is : contents f.sent ≡ map as_listed sending
  pub end_is : has_end f.sent ≡ finishing
  pub front : IsFrontOf (IsExactly r) handing (out f)
  pub alive : is_some f.fault ≡ false → IsAllOf (IsExactly r) handing (out f)
  pub over_is : ending ≡ true → (is_over f ≡ true) × IsAllOf (IsExactly r) handing (out f)

-- A step, or a run, from one flow to another, in which this is sent and this is handed out.
abbrev pub Advances : Reader → Flow → Flow → List MessageContent → Bool → List MessageContent → Bool → Type 0
Advances r f g sending finishing handing ending =
    (before : List MessageContent) (had_end : Bool) (handed : List MessageContent) (ended : Bool) → Accounts r f before had_end handed ended
    → Accounts r g (before ++ sending) (had_end || finishing) (handed ++ handing) (ended || ending)

-- nothing is handed out of a flow that was given up
pub record Quiet (f : Flow) (handing : List MessageContent) (ending : Bool) : Type 0 where
  pub none : is_some f.fault ≡ true → handing ≡ []
  pub no_end : is_some f.fault ≡ true → ending ≡ false

-- it hands out nothing, and no end
abbrev pub AnswersNothing : Answer → Type 0
AnswersNothing a = (contents_of a ≡ []) × (is_end_of a ≡ false)

-- what an event changes so
abbrev pub AdvancesBy : Setup → World → Event → Side → ℕ → Answer → World → Type 0
AdvancesBy setup w e writer id a new =
    Advances (reader_of setup writer) (flow w writer id) (flow new writer id) (sent_in writer id e a) (finished_in writer id e a) (pulled_in (other writer) id e a) (ended_in (other writer) id e a)

-- nothing is sent, and nothing handed out
abbrev pub KeepsOn : Setup → World → Side → ℕ → World → Type 0
KeepsOn setup w writer id new = Advances (reader_of setup writer) (flow w writer id) (flow new writer id) [] false [] false
