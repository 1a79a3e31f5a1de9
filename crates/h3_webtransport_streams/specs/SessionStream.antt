-- One stream of a session of WebTransport, both ways.
use Rattle.std.specs.Prelude.{◌≡◌, ℕ, Bool, false, ◌==◌, List, [], length, min, Option, Some, None, if◌then◌else◌}
use Rattle.h3_connection.specs.Calls.{AllSame, Sets}
use Rattle.h3_connection.specs.State.{kept_at}
use Rattle.h3_connection.specs.StreamSets.{Streams}
use Rattle.h3_webtransport_streams.specs.Sender.{Sender, beginning, front_both_ways, front_one_way, sends, has_to_send, taken}
use Rattle.h3_webtransport_streams.specs.Receiver.{Receiver, Arrived, answering, given_up, untold}
use Rattle.h3_webtransport_streams.specs.Receiver.Arrived.{Taken, NoFront, NoSession}

pub record SessionStream : Type 0 where
  -- the session's id, which is that of its CONNECT request. None: what came does not tell it yet
  pub session : Option ℕ
  -- what is sent on it, unless the peer alone sends there
  pub sender : Option Sender
  -- what comes on it, unless the own side alone sends there, or another part reads it
  pub receiver : Option Receiver

-- an own stream both ways, and an own one that goes one way
abbrev pub both_ways : ℕ → SessionStream
both_ways session = record { session = Some session; sender = Some (beginning (front_both_ways session)); receiver = Some answering }

abbrev pub one_way : ℕ → SessionStream
one_way session = record { session = Some session; sender = Some (beginning (front_one_way session)); receiver = None }

-- one of the peer whose front another part read, and which that reads on: it is answered where it goes both ways
abbrev pub entered : ℕ → Bool → SessionStream
entered session answers = record { session = Some session; sender = if answers then Some (beginning []) else None; receiver = None }

-- one of the peer of which nothing came
abbrev pub unseen : SessionStream
unseen = record { session = None; sender = None; receiver = Some untold }

-- A call on the half that is sent, or on the one that comes: where there is none it changes nothing.
abbrev pub on_sender : {A : Type 0} → A → (Sender → A × Sender) → SessionStream → Option Sender → A × SessionStream
on_sender absent act s None = (absent, s)
on_sender absent act s (Some sender) = ((act sender).0, record s { sender = Some (act sender).1 })

abbrev pub on_receiver : {A : Type 0} → A → (Receiver → A × Receiver) → SessionStream → Option Receiver → A × SessionStream
on_receiver absent act s None = (absent, s)
on_receiver absent act s (Some receiver) = ((act receiver).0, record s { receiver = Some (act receiver).1 })

abbrev pub sending : {A : Type 0} → A → (Sender → A × Sender) → SessionStream → A × SessionStream
sending absent act s = on_sender absent act s s.sender

abbrev pub receiving : {A : Type 0} → A → (Receiver → A × Receiver) → SessionStream → A × SessionStream
receiving absent act s = on_receiver absent act s s.receiver

-- The call at the stream of an id, of which there may be none.
abbrev pub ActsOn : {A : Type 0} → A → (SessionStream → A × SessionStream) → Streams SessionStream → Streams SessionStream → ℕ → A → Option SessionStream → Type 0
ActsOn absent act old new id answer None = (answer ≡ absent) × AllSame old new
ActsOn absent act old new id answer (Some s) = (answer ≡ (act s).0) × Sets old new id (act s).1

abbrev pub Acts : {A : Type 0} → A → (SessionStream → A × SessionStream) → Streams SessionStream → Streams SessionStream → ℕ → A → Type 0
Acts absent act old new id answer = ActsOn absent act old new id answer (kept_at old id)

-- The same of a change that answers nothing.
abbrev pub ChangesOn : (SessionStream → SessionStream) → Streams SessionStream → Streams SessionStream → ℕ → Option SessionStream → Type 0
ChangesOn change old new id None = AllSame old new
ChangesOn change old new id (Some s) = Sets old new id (change s)

abbrev pub Changes : (SessionStream → SessionStream) → Streams SessionStream → Streams SessionStream → ℕ → Type 0
Changes change old new id = ChangesOn change old new id (kept_at old id)

abbrev pub answer_at : {A : Type 0} → A → (SessionStream → A × SessionStream) → Option SessionStream → A
answer_at absent act None = absent
answer_at absent act (Some s) = (act s).0

-- a half of the stream of an id, where it is there
abbrev pub sender_of : Option SessionStream → Option Sender
sender_of None = None
sender_of (Some s) = s.sender

abbrev pub receiver_of : Option SessionStream → Option Receiver
receiver_of None = None
receiver_of (Some s) = s.receiver

abbrev pub session_of : Option SessionStream → Option ℕ
session_of None = None
session_of (Some s) = s.session

abbrev pub waiting_of : Option Sender → List ℕ
waiting_of None = []
waiting_of (Some sender) = sender.waiting

abbrev pub unread_of : Option Receiver → List (List ℕ)
unread_of None = []
unread_of (Some receiver) = receiver.unread

-- the first bytes that wait are taken, at most all
abbrev pub takes_of : SessionStream → Option Sender → ℕ → SessionStream
takes_of s None count = s
takes_of s (Some sender) count = record s { sender = Some (taken sender (min count (length sender.waiting))) }

abbrev pub takes : SessionStream → ℕ → SessionStream
takes s count = takes_of s s.sender count

-- it is there, and passes a test
abbrev pub passes : {X : Type 0} → (X → Bool) → Option X → Bool
passes test None = false
passes test (Some x) = test x

-- it is of this session
abbrev pub is_session : ℕ → Option ℕ → Bool
is_session session None = false
is_session session (Some id) = id == session

-- it has something to send, its turn may come, or it is of a session
abbrev pub has_something : SessionStream → Bool
has_something s = passes has_to_send s.sender

abbrev pub takes_turns : SessionStream → Bool
takes_turns s = passes sends s.sender

abbrev pub is_of : ℕ → SessionStream → Bool
is_of session s = is_session session s.session

-- its session is told by what came: it is answered from then on
abbrev pub told_by : SessionStream → Arrived → SessionStream
told_by s (Taken None receiver) = record s { receiver = Some receiver }
told_by s (Taken (Some session) receiver) = record { session = Some session; sender = Some (beginning []); receiver = Some receiver }
told_by s NoFront = s
told_by s NoSession = s

-- nothing more is needed of one that another part read: what comes is read here from then on, and thrown away
abbrev pub gives_up : SessionStream → Bool → SessionStream
gives_up s ended = record s { receiver = Some (given_up ended) }
