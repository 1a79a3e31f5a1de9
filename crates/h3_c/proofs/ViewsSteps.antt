-- A call of one of two endpoints is answered alike whatever is seen of how much was taken of either.
use Rattle.std.proofs.Common.{◌≡◌, ℕ, List, [], ◌∷◌, refl, ap, ◌∙◌, Option, Some, None}
use Rattle.std.specs.List.{AllByRecursion}
use Rattle.std.specs.Prelude.{◌<◌, ◌^◌}
use Rattle.h3_field.specs.ReadBack.{AreBytes, IsFieldOfBytes}
use Rattle.h3_proto.specs.declared.stream.Side.{Side}
use Rattle.h3_proto.specs.declared.stream.Side.TheVariants.{Client, Server}
use Rattle.h3_connection.specs.Coming.{fields_behind}
use Rattle.h3_connection.specs.Endpoint.{EndpointHistory}
use Rattle.h3_connection.specs.Keeping.{pulls}
use Rattle.h3_connection.specs.Sending as sender
use Rattle.h3_connection.specs.declared.event.Pull.{Pull}
use Rattle.h3_connection.specs.declared.event.Refusal.{Refusal}
use Rattle.h3_connection.specs.Lists.{listed_pull}
use Rattle.h3_world.specs.EndLists.{send_fields, send_trailer_fields}
use Rattle.h3_world.specs.Ends.{Ends, answered, done, end_at, was_listed, with_end}
use Rattle.h3_world.specs.declared.event.Answer.{Answer}
use Rattle.h3_world.specs.declared.event.Answer.TheVariants as answer
use Rattle.h3_world.specs.declared.event.Event.{Event}
use Rattle.h3_world.specs.declared.event.Event.TheVariants as event
use Rattle.h3_c.proofs.Views.{Keeps, View, seen}
use Rattle.h3_c.proofs.ViewsReading as reading
use Rattle.h3_c.proofs.ViewsSending as sending

-- The events that calls of h3.h are: they send lists of bytes, and no id is too large.
abbrev pub IsOfC : Event → Type 0
IsOfC (event.Head side id head) = ⊥
IsOfC (event.Fields side id fields) = AllByRecursion IsFieldOfBytes fields
IsOfC (event.Body side id bytes) = AreBytes bytes
IsOfC (event.Trailer side id trailer) = ⊥
IsOfC (event.TrailerFields side id fields) = AllByRecursion IsFieldOfBytes fields
IsOfC (event.Goaway side id) = id < 2 ^ 62
IsOfC (event.Pull side id) = ⊥
IsOfC (event.Show side) = ⊥
IsOfC _ = Unit {0}

abbrev pub AreOfC : List Event → Type 0
AreOfC [] = Unit {0}
AreOfC (e ∷ events) = IsOfC e × AreOfC events

-- One side answers it, whatever the other one is.
abbrev pub IsCall : Event → Type 0
IsCall (event.Deliver side id count) = ⊥
IsCall (event.DeliverEnd side id) = ⊥
IsCall (event.DeliverReset side id) = ⊥
IsCall _ = Unit {0}

-- what is seen of each end
pub record Views : Type 0 where
  pub client : View
  pub server : View

abbrev pub view_at : Views → Side → View
view_at views Client = views.client
view_at views Server = views.server

pub record KeepBoth (views : Views) : Type 0 where
  pub client : Keeps views.client
  pub server : Keeps views.server

abbrev pub both_seen : Views → Ends → Ends
both_seen views ends = record { client = seen views.client ends.client; server = seen views.server ends.server }

-- a reset is answered alike
abbrev pub ResetsAlike : Event → Views → Ends → Type 0
ResetsAlike (event.Reset side id) views ends = sender.reset_refusal (seen (view_at views side) (end_at ends side)) id ≡ sender.reset_refusal (end_at ends side) id
ResetsAlike _ views ends = Unit {0}

pub end_seen : (views : Views) (ends : Ends) (side : Side) → end_at (both_seen views ends) side ≡ seen (view_at views side) (end_at ends side)
end_seen views ends Client = refl
end_seen views ends Server = refl

pub with_end_seen : (views : Views) (ends : Ends) (side : Side) (e : EndpointHistory) → with_end (both_seen views ends) side (seen (view_at views side) e) ≡ both_seen views (with_end ends side e)
with_end_seen views ends Client e = refl
with_end_seen views ends Server e = refl

abbrev pub so_answered : Views → Answer × Ends → Answer × Ends
so_answered views (a, ends) = (a, both_seen views ends)

module _ (views : Views) (K : KeepBoth views) where
  abbrev pub keeps_at : (side : Side) → Keeps (view_at views side)
  keeps_at Client = K.client
  keeps_at Server = K.server

  abbrev pub so_done : Side → Option Refusal × EndpointHistory → Option Refusal × EndpointHistory
  so_done side x = reading.so_done (view_at views side) (keeps_at side).new x

  done_mapped : (ends : Ends) (side : Side) (success : Answer) (x : Option Refusal × EndpointHistory) → done (both_seen views ends) side success (so_done side x) ≡ so_answered views (done ends side success x)
  done_mapped ends side success (None, e) = ap (λ n. (success, n)) (with_end_seen views ends side e)
  done_mapped ends side success (Some r, e) = ap (λ n. (answer.Refused r, n)) (with_end_seen views ends side e)

  -- a call of one end
  pub one : (ends : Ends) (side : Side) (success : Answer) (call : EndpointHistory → Option Refusal × EndpointHistory) → call (seen (view_at views side) (end_at ends side)) ≡ so_done side (call (end_at ends side))
      → done (both_seen views ends) side success (call (end_at (both_seen views ends) side)) ≡ so_answered views (done ends side success (call (end_at ends side)))
  one ends side success call alike =
      ap (λ e. done (both_seen views ends) side success (call e)) (end_seen views ends side) ∙ ap (λ x. done (both_seen views ends) side success x) alike ∙ done_mapped ends side success (call (end_at ends side))

  listed_mapped : (ends : Ends) (side : Side) (id : ℕ) (x : Pull × EndpointHistory)
      → was_listed (both_seen views ends) side id (reading.so_pulled (view_at views side) (keeps_at side).new x) ≡ so_answered views (was_listed ends side id x)
  listed_mapped ends side id (p, e) =
      ap (λ n. (answer.Listed (listed_pull (fields_behind (end_at (both_seen views ends) side).kept (end_at (both_seen views ends) side) id) p), n)) (with_end_seen views ends side e)
      ∙ ap (λ x. (answer.Listed (listed_pull (fields_behind x.kept x id) p), both_seen views (with_end ends side e))) (end_seen views ends side)
      ∙ ap (λ l. (answer.Listed (listed_pull l p), both_seen views (with_end ends side e))) (reading.fields_seen (view_at views side) (keeps_at side).new (end_at ends side).kept (end_at ends side) id)

  opened_so : (ends : Ends) (side : Side) → answered (both_seen views ends) (event.OpenRequest side) ≡ so_answered views (answered ends (event.OpenRequest side))
  opened_so ends Client = one ends Client (answer.Opened ends.client.next_id) sender.open_request (sending.open_request_seen views.client K.client ends.client)
  opened_so ends Server = one ends Server (answer.Opened ends.server.next_id) sender.open_request (sending.open_request_seen views.server K.server ends.server)

  lists_so : (ends : Ends) (side : Side) (id : ℕ) → was_listed (both_seen views ends) side id (pulls (end_at (both_seen views ends) side) id) ≡ so_answered views (was_listed ends side id (pulls (end_at ends side) id))
  lists_so ends side id =
      ap (λ e. was_listed (both_seen views ends) side id (pulls e id)) (end_seen views ends side)
      ∙ ap (λ x. was_listed (both_seen views ends) side id x) (reading.pulls_seen (view_at views side) (keeps_at side).new (end_at ends side) id) ∙ listed_mapped ends side id (pulls (end_at ends side) id)

  -- **Each is answered alike.**
  pub answered_seen : (ends : Ends) (e : Event) → IsOfC e → IsCall e → ResetsAlike e views ends → answered (both_seen views ends) e ≡ so_answered views (answered ends e)
  answered_seen ends (event.OpenRequest side) of call resets = opened_so ends side
  answered_seen ends (event.Head side id head) of call resets = absurd of
  answered_seen ends (event.Fields side id fields) of call resets = one ends side answer.Done (λ e. send_fields e id fields) (sending.fields_sent_seen (view_at views side) (keeps_at side) (end_at ends side) id fields)
  answered_seen ends (event.Body side id bytes) of call resets = one ends side answer.Done (λ e. sender.send_body e id bytes) (sending.body_sent_seen (view_at views side) (keeps_at side) (end_at ends side) id bytes of)
  answered_seen ends (event.Trailer side id trailer) of call resets = absurd of
  answered_seen ends (event.TrailerFields side id fields) of call resets =
      one ends side answer.Done (λ e. send_trailer_fields e id fields) (sending.trailer_sent_seen (view_at views side) (keeps_at side) (end_at ends side) id fields)
  answered_seen ends (event.Finish side id) of call resets = one ends side answer.Done (λ e. sender.finish e id) (sending.finish_seen (view_at views side) (keeps_at side) (end_at ends side) id)
  answered_seen ends (event.Reset side id) of call resets = one ends side answer.Done (λ e. sender.reset e id) (sending.reset_call_seen (view_at views side) (keeps_at side) (end_at ends side) id resets)
  answered_seen ends (event.Cancel side id) of call resets = one ends side answer.Done (λ e. sender.cancel e id) (sending.cancel_seen (view_at views side) (keeps_at side) (end_at ends side) id)
  answered_seen ends (event.Goaway side id) of call resets = one ends side answer.Done (λ e. sender.goaway e id) (sending.goaway_seen (view_at views side) (keeps_at side) (end_at ends side) id)
  answered_seen ends (event.Deliver side id count) of call resets = absurd call
  answered_seen ends (event.DeliverEnd side id) of call resets = absurd call
  answered_seen ends (event.DeliverReset side id) of call resets = absurd call
  answered_seen ends (event.Pull side id) of call resets = absurd of
  answered_seen ends (event.PullFields side id) of call resets = lists_so ends side id
  answered_seen ends (event.Show side) of call resets = absurd of
