-- What is in order is accepted.
use Rattle.std.proofs.Common.{◌≡◌, ℕ, Bool, true, false, not, [], ◌∷◌, refl, ap, Option, Some, None}
use Rattle.h3_connection.specs.Refusals.{first_of, is_too_large, unless_going}
use Rattle.h3_field.specs.Field.{section_size}
use Rattle.h3_header.specs.Head.{head_fields, has_pseudo}
use Rattle.h3_header.specs.Reads.{head_of_fields}
use Rattle.h3_connection.specs.StrictSending.{unless_malformed}
use Rattle.h3_connection.specs.declared.event.Malformation.{Malformation}
use Rattle.h3_connection.specs.Outgoing.{takes_head, takes_body, takes_end}
use Rattle.h3_connection.specs.OwnIds.{other}
use Rattle.h3_connection.specs.Pulling.{is_for}
use Rattle.h3_connection.specs.declared.event.Refusal.{Refusal}
use Rattle.h3_connection.specs.declared.event.Refusal.TheVariants as refusal
use Rattle.h3_world.specs.declared.event.Event.{Event}
use Rattle.h3_world.specs.declared.event.Event.TheVariants as event
use Rattle.h3_world.specs.declared.event.Answer.{Answer}
use Rattle.h3_world.specs.declared.event.Answer.TheVariants as answer
use Rattle.h3_world.specs.Came.{settings_known}
use Rattle.h3_world.specs.Lists.{unreadable}
use Rattle.h3_world.specs.Setup.{Setup, announced_at, takes_any}
use Rattle.h3_world.specs.Order.{outgoing_of}
use Rattle.h3_world.specs.Refusals.{none_after, head_refusal, fields_refusal, body_refusal, trailer_refusal, trailer_fields_refusal, finish_refusal}
use Rattle.h3_world.specs.Sending.{sent_head, sent_fields, sent_body, sent_trailer, sent_trailer_fields, finished}
use Rattle.h3_world.specs.Step.{Does, Step}
use Rattle.h3_world.specs.Streams.{flow, is_open}
use Rattle.h3_world.specs.World.{World}
use Rattle.h3_headline.specs.InOrder.{IsInOrder}

-- rules that do not hold
two_pass : (there order : Bool) (r q : Refusal) → there ≡ true → order ≡ true → first_of ((not there, r) ∷ (not order, q) ∷ []) ≡ None
two_pass true true r q e f = refl
two_pass true false r q e f = cc
two_pass false order r q e f = cc

four_pass : (there order third fourth : Bool) (r q s t : Refusal) → there ≡ true → order ≡ true → third ≡ false → fourth ≡ false
    → first_of ((not there, r) ∷ (not order, q) ∷ (third, s) ∷ (fourth, t) ∷ []) ≡ None
four_pass true true false false r q s t e f g h = refl
four_pass true true false true r q s t e f g h = cc
four_pass true true true fourth r q s t e f g h = cc
four_pass true false third fourth r q s t e f g h = cc
four_pass false order third fourth r q s t e f g h = cc

-- nor is anything malformed
list_passes : (o : Option Malformation) (there order third fourth : Bool) (r q s t : Refusal) → o ≡ None → there ≡ true → order ≡ true → third ≡ false → fourth ≡ false
    → first_of ((not there, r) ∷ (not order, q) ∷ unless_malformed o ((third, s) ∷ (fourth, t) ∷ [])) ≡ None
list_passes None there order third fourth r q s t none e f g h = four_pass there order third fourth r q s t e f g h
list_passes (Some why) there order third fourth r q s t none e f g h = cc

-- nor did a GOAWAY come
head_passes : (going : Option ℕ) (o : Option Malformation) (there order third fourth : Bool) (r q s t : Refusal) → going ≡ None → o ≡ None → there ≡ true → order ≡ true → third ≡ false → fourth ≡ false
    → first_of ((not there, r) ∷ (not order, q) ∷ unless_going going (unless_malformed o ((third, s) ∷ (fourth, t) ∷ []))) ≡ None
head_passes None o there order third fourth r q s t stays none e f g h = list_passes o there order third fourth r q s t none e f g h
head_passes (Some id) o there order third fourth r q s t stays none e f g h = cc

succeeds : (o : Option Refusal) (old after new : World) (success given : Answer) → o ≡ None → Does o old success after given new → given ≡ success
succeeds None old after new success given e h = h.0
succeeds (Some r) old after new success given e h = cc

pub accepted : (setup : Setup) (w new : World) (e : Event) (a : Answer) → Step setup w e a new → IsInOrder setup w e → a ≡ answer.Done
accepted setup w new (event.Head side id head) a step h =
    let fits = is_too_large (settings_known setup w side) (head_fields head) in
    succeeds (head_refusal setup w side id head) w (sent_head w side id head) new answer.Done a
    (head_passes (none_after setup w side) None (is_open w side id) (takes_head (outgoing_of (flow w side id))) (not (is_for (other side) head)) fits
    refusal.NotOpen refusal.OutOfOrder refusal.WrongSide (refusal.TooLarge (section_size (head_fields head))) h.2 refl h.0 h.1 (ap not h.3) h.4) step
accepted setup w new (event.Fields side id fields) a step h =
    let head = head_of_fields fields in
    succeeds (fields_refusal setup w side id fields) w (sent_fields w side id fields) new answer.Done a
    (head_passes (none_after setup w side) (unreadable (takes_any (announced_at setup side)) fields) (is_open w side id) (takes_head (outgoing_of (flow w side id))) (not (is_for (other side) head))
    (is_too_large (settings_known setup w side) fields) refusal.NotOpen refusal.OutOfOrder refusal.WrongSide (refusal.TooLarge (section_size fields)) h.2 h.3 h.0 h.1 (ap not h.4) h.5) step
accepted setup w new (event.Body side id bytes) a step h =
    succeeds (body_refusal w side id) w (sent_body w side id bytes) new answer.Done a
    (two_pass (is_open w side id) (takes_body (outgoing_of (flow w side id))) refusal.NotOpen refusal.OutOfOrder h.0 h.1) step
accepted setup w new (event.Trailer side id trailer) a step h =
    let fits = is_too_large (settings_known setup w side) (head_fields trailer) in
    succeeds (trailer_refusal setup w side id trailer) w (sent_trailer w side id trailer) new answer.Done a
    (four_pass (is_open w side id) (takes_body (outgoing_of (flow w side id))) (has_pseudo trailer) fits
    refusal.NotOpen refusal.OutOfOrder refusal.PseudoInTrailer (refusal.TooLarge (section_size (head_fields trailer))) h.0 h.1 h.2 h.3) step
accepted setup w new (event.TrailerFields side id fields) a step h =
    succeeds (trailer_fields_refusal setup w side id fields) w (sent_trailer_fields w side id fields) new answer.Done a
    (list_passes (unreadable (takes_any (announced_at setup side)) fields) (is_open w side id) (takes_body (outgoing_of (flow w side id))) (has_pseudo (head_of_fields fields)) (is_too_large (settings_known setup w side) fields)
    refusal.NotOpen refusal.OutOfOrder refusal.PseudoInTrailer (refusal.TooLarge (section_size fields)) h.2 h.0 h.1 h.3 h.4) step
accepted setup w new (event.Finish side id) a step h =
    succeeds (finish_refusal w side id) w (finished w side id) new answer.Done a
    (two_pass (is_open w side id) (takes_end (outgoing_of (flow w side id))) refusal.NotOpen refusal.OutOfOrder h.0 h.1) step
accepted setup w new (event.OpenRequest side) a step h = absurd h
accepted setup w new (event.Reset side id) a step h = absurd h
accepted setup w new (event.Cancel side id) a step h = absurd h
accepted setup w new (event.Goaway side id) a step h = absurd h
accepted setup w new (event.Deliver side id count) a step h = absurd h
accepted setup w new (event.DeliverEnd side id) a step h = absurd h
accepted setup w new (event.DeliverReset side id) a step h = absurd h
accepted setup w new (event.Pull side id) a step h = absurd h
accepted setup w new (event.PullFields side id) a step h = absurd h
accepted setup w new (event.Show side) a step h = absurd h
