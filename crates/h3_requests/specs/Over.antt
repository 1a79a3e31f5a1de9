-- Streams that are over: no call changes them any more, but for one that says that the FIN was taken.
use Rattle.std.specs.Prelude.{◌≡◌, ℕ, ◌+◌, ◌-◌, ◌*◌, ◌%◌, ◌<◌, ◌≤◌, [], Bool, true, ◌&&◌, ◌||◌, ◌==◌, if◌then◌else◌, List, length, slice_get, Option, Some, None, is_some, option_map, IfSome}
use Rattle.std.specs.BTreeMap.{is_at}
use Rattle.std.specs.Global.{Vec}
use Rattle.std.specs.Map.{lookup}
use Rattle.std.specs.Ordering.{nat_cmp}
use Rattle.h3_connection.specs.Incoming.{Incoming}
use Rattle.h3_connection.specs.Order.{rank}
use Rattle.h3_connection.specs.State.{OutgoingState, RequestState}
use Rattle.h3_connection.specs.declared.event.StreamFault.{StreamFault}
use Rattle.h3_connection.specs.declared.event.StreamFault.TheVariants.{Reset}
use Rattle.h3_connection.specs.declared.order.Precedence.{Precedence}
use Rattle.h3_incoming.specs.Left.{is_drained}
use Rattle.h3_outgoing.specs.Sent.{end_waits, has_end_taken, is_sent_off}
use Rattle.h3_requests.specs.declared.over.Way.{Way}
use Rattle.h3_requests.specs.declared.over.ways.Ways.{Ways}

-- Nothing more comes on it, nothing more is handed out of it, nothing is left of it to be read, and nothing of it is left to be sent.
abbrev pub is_over : RequestState → Bool
is_over r = (r.incoming.ended || r.incoming.was_reset) && (r.incoming.is_over || is_some r.incoming.fault) && is_drained r.incoming && is_sent_off r.outgoing && (length r.outgoing.pieces == 0)

abbrev pub IsOver : RequestState → Type 0
IsOver r = is_over r ≡ true

-- a stream that was reset with this code
abbrev pub reset_with : RequestState → ℕ → RequestState
reset_with r code = record r { incoming = record r.incoming { fault = Some (Reset code) } }

-- what is over in a way: the stream that stands for it, or this stream reset with a code of its own
abbrev pub over_so : Way → ℕ → RequestState
over_so w code = if w.has_code then reset_with w.stream code else w.stream

-- one of the ways in which streams are over, counted from 1
abbrev pub way_at : List Way → ℕ → Option Way
way_at ways way = if way == 0 then None else slice_get ways (way - 1)

-- the ways of a group, and none where it is not there
abbrev pub ways_of : Option (Vec Way) → List Way
ways_of None = []
ways_of (Some ways) = ways.items

-- Each precedence has a group of its own, 0 where no priority was said of a stream and it is not held.
abbrev pub group_of : Precedence → ℕ
group_of p = (p.priority.urgency + 5) % 8 * 16 + (if p.priority.incremental then 1 else 0) * 8 + (if p.is_held then 1 else 0) * 4 + rank p.source

abbrev pub ways_in : Ways → ℕ → List Way
ways_in w group = if group == 0 then w.plain.items else ways_of (lookup (is_at (nat_cmp group)) w.others.entries)

-- What is marked with a group and the number of one of its ways is over in that way, with its code.
abbrev pub over_in : (ℕ → List Way) → (ℕ → ℕ) → (ℕ → ℕ) → (ℕ → ℕ) → ℕ → Option RequestState
over_in ways groups marks codes id = option_map (λ w. over_so w (codes id)) (way_at (ways (groups id)) (marks id))

-- A stream in this way is over; where each has a code of its own, the one that stands for them has the code 0.
pub record IsWay (w : Way) : Type 0 where
  pub over : IsOver w.stream
  pub code : w.has_code ≡ true → w.stream.incoming.fault ≡ Some (Reset 0)

-- the stream once its FIN was taken
abbrev pub with_end_taken : RequestState → RequestState
with_end_taken r = record r { outgoing = has_end_taken r.outgoing }

-- and the way in which it is over then
abbrev pub ended_way : Way → Way
ended_way w = record w { stream = with_end_taken w.stream }

-- behind a way with an end that waits stands the same way with the end taken
abbrev pub IsPaired : List Way → ℕ → Way → Type 0
IsPaired ways way w = end_waits w.stream.outgoing ≡ true → way_at ways (way + 1) ≡ Some (ended_way w)

-- Streams in these ways are over, and each mark is the number of one of its group, or 0.
pub record AreMarked (ways : ℕ → List Way) (groups marks : ℕ → ℕ) : Type 0 where
  pub over : (group way : ℕ) → IfSome (way_at (ways group) way) IsWay
  pub known : (id : ℕ) → marks id ≤ length (ways (groups id))
  pub paired : (group way : ℕ) → IfSome (way_at (ways group) way) (IsPaired (ways group) way)
  pub few : (group : ℕ) → length (ways group) ≤ 255

-- the ways are there still, under their numbers
pub record HasWays (old new : List Way) : Type 0 where
  pub longer : length old ≤ length new
  pub same : (way : ℕ) → way ≤ length old → way_at new way ≡ way_at old way

-- the ways behind those that were there are over, and paired, and all of them are still few
pub record AddsWays (ways others : List Way) : Type 0 where
  pub over : (way : ℕ) → length ways < way → IfSome (way_at others way) IsWay
  pub paired : (way : ℕ) → length ways < way → IfSome (way_at others way) (IsPaired others way)
  pub few : length ways ≤ 255 → length others ≤ 255

-- What stands of two streams that are over is the same at the receiver,
pub record ReceivesAlike (a b : Incoming) : Type 0 where
  pub place : a.place ≡ b.place
  pub content : a.content ≡ b.content
  pub response : a.response ≡ b.response
  pub tries : a.tries ≡ b.tries
  pub ended : a.ended ≡ b.ended
  pub was_reset : a.was_reset ≡ b.was_reset
  pub is_over : a.is_over ≡ b.is_over
  pub fault : a.fault ≡ b.fault

-- and at the sender
pub record SendsAlike (a b : OutgoingState) : Type 0 where
  pub place : a.place ≡ b.place
  pub content : a.content ≡ b.content
  pub is_finished : a.is_finished ≡ b.is_finished
  pub is_reset : a.is_reset ≡ b.is_reset
  pub end_taken : a.end_taken ≡ b.end_taken
  pub precedence : a.precedence ≡ b.precedence

-- what a stream has but for the code of its reset
abbrev pub without_code : Option StreamFault → Option StreamFault
without_code (Some (Reset code)) = Some (Reset 0)
without_code fault = fault

abbrev pub codeless : RequestState → RequestState
codeless r = record r { incoming = record r.incoming { fault = without_code r.incoming.fault } }

-- They are the same but for the code of a reset.
abbrev pub AreAlike : Option RequestState → Option RequestState → Type 0
AreAlike a b = option_map codeless a ≡ option_map codeless b
