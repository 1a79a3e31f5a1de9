-- **What a client and a server get of each other, whatever they are asked: by the events and their answers alone.**
use Rattle.std.specs.Prelude.{◌≡◌, ℕ, Bool, true, false, ◌&&◌, ◌||◌, List, ◌∷◌, length, take, drop, zero, suc}
use Rattle.std.specs.List.{list_any}
use Rattle.h3_proto.specs.declared.stream.Side.{Side}
use Rattle.h3_connection.specs.OwnIds.{other, encoder_id}
use Rattle.h3_connection.specs.declared.event.Pull.TheVariants as pull
use Rattle.h3_connection.specs.declared.event.Refusal.TheVariants as refusal
use Rattle.h3_connection.specs.declared.lists.ListPull.TheVariants as list
use Rattle.h3_world.specs.Headline.{is_connection_fault}
use Rattle.h3_world.specs.Setup.{Setup, announced_at}
use Rattle.h3_world.specs.declared.event.Answer.{Answer}
use Rattle.h3_world.specs.declared.event.Answer.TheVariants as answer
use Rattle.h3_world.specs.declared.event.Event.{Event}
use Rattle.h3_world.specs.declared.event.Event.TheVariants as event
use Rattle.h3_headline.specs.Changes.{resets_on}
use Rattle.h3_headline.specs.Messages.{IsFrontOf, any_of, finished_in, is_end_of, is_on, pulled, pulls_on, sent}
use Rattle.h3_faithful.specs.Reading.{IsReadAs}
use Rattle.h3_faithful.specs.Sends.{begins_late, goes_on, is_next, may_be_unread}

-- Such a send is accepted, or an allocation failed; or it is malformed, or begins a request too late, if that may be.
abbrev pub IsAccepted : Bool → Bool → Answer → Type 0
IsAccepted may_be_malformed may_be_late answer.Done = Unit {0}
IsAccepted may_be_malformed may_be_late (answer.Refused refusal.OutOfMemory) = Unit {0}
IsAccepted may_be_malformed may_be_late (answer.Refused (refusal.Malformed why)) = may_be_malformed ≡ true
IsAccepted may_be_malformed may_be_late (answer.Refused (refusal.GoingAway id)) = may_be_late ≡ true
IsAccepted may_be_malformed may_be_late _ = ⊥

-- The event that comes next, with its answer: a send that is next on its stream is accepted.
abbrev pub AcceptsNext : Setup → List Event → List Answer → List Event → List Answer → Type 0
AcceptsNext setup before given (e ∷ later) (a ∷ others) =
    (side : Side) (id : ℕ) → goes_on side id before given ≡ true → is_next setup side id (sent side id before given) e ≡ true
    → IsAccepted (may_be_unread setup e || (announced_at setup side).choices.strict_messages) (begins_late setup before given e) a
AcceptsNext setup before given later others = Unit {0}

abbrev pub pauses_on : Side → ℕ → Event → Answer → Bool
pauses_on side id (event.Pull acting i) (answer.Pulled pull.Pending) = is_on side id acting i
pauses_on side id (event.Pull acting i) (answer.Pulled (pull.Waiting count)) = is_on side id acting i
pauses_on side id (event.PullFields acting i) (answer.Listed list.Pending) = is_on side id acting i
pauses_on side id (event.PullFields acting i) (answer.Listed (list.Waiting count)) = is_on side id acting i
pauses_on side id _ _ = false

-- No byte of the other side's encoder stream waits, then none of what it sends on this stream, and then a pull pauses.
abbrev pub PausesDelivered : Side → ℕ → List Event → List Answer → Type 0
PausesDelivered side id (event.Deliver first i (suc zero) ∷ event.Deliver second j (suc zero) ∷ e ∷ events) (answer.Short zero ∷ answer.Short zero ∷ a ∷ answers) =
    (is_on (other side) (encoder_id (other side)) first i && is_on (other side) id second j && pauses_on side id e a) ≡ true
PausesDelivered side id events answers = ⊥

-- What holds after some events, `before`, and their answers, `given`. Those that follow are `later` and `others`.
pub record HoldsAt (setup : Setup) (before : List Event) (given : List Answer) (later : List Event) (others : List Answer) : Type 0 where
  -- what a side pulled from a stream is the beginning of what the other side sent on it, in order
  pub begins : (side : Side) (id : ℕ) → IsFrontOf (IsReadAs setup side) (pulled side id before given) (sent (other side) id before given)
  -- with the end it is all of it, and there is no end before the other side has finished
  pub ends : (side : Side) (id : ℕ) → any_of (λ e a. pulls_on side id e && is_end_of a) before given ≡ true →
      (length (pulled side id before given) ≡ length (sent (other side) id before given)) × (any_of (finished_in (other side) id) before given ≡ true)
  pub accepts : AcceptsNext setup before given later others
  -- what is sent comes out: with nothing left to deliver a pull pauses after all that was sent
  pub comes_out : (side : Side) (id : ℕ) → any_of (resets_on (other side) id) before given ≡ false → PausesDelivered side id later others →
      length (pulled side id before given) ≡ length (sent (other side) id before given)

-- That holds at each time before a connection error. Two sides that both ask for strict messages, or both do not, report none.
pub record Faithful (setup : Setup) (events : List Event) (answers : List Answer) : Type 0 where
  pub until_fault : (n : ℕ) → list_any is_connection_fault (take n answers) ≡ false → HoldsAt setup (take n events) (take n answers) (drop n events) (drop n answers)
  pub no_connection_fault : setup.client.choices.strict_messages ≡ setup.server.choices.strict_messages → list_any is_connection_fault answers ≡ false
