-- All that is said of a step holds of every exact step between sound worlds.
use Rattle.std.proofs.Common.{◌≡◌, ◌⊎◌, inl, inr, ℕ, ◌-◌, ◌≤◌, Bool, true, false, not, ◌&&◌, [], ◌∷◌, length, refl, sym, ap, ◌∙◌, subst, arith, if◌then◌else◌, Option, Some, None, nat_lt, nat_le}
use Rattle.std.specs.Prelude.{MatchOption, is_none, is_some, ◌^◌, ◌==◌, ◌||◌, ◌%◌}
use Rattle.std.proofs.lemmas.Grind.{common_steps}
use Rattle.h3_proto.specs.StreamIds.{is_request_stream}
use Rattle.h3_proto.specs.declared.stream.Side.{Side}
use Rattle.h3_proto.specs.declared.stream.Side.TheVariants.{Client, Server}
use Rattle.h3_connection.specs.OwnIds.{other, control_id, encoder_id, is_own}
use Rattle.h3_connection.specs.Pulling.{is_client, is_for}
use Rattle.h3_connection.specs.Refusals.{first_of, going_away, is_too_large, raised, unless_going}
use Rattle.h3_connection.specs.StrictSending.{unless_malformed}
use Rattle.h3_connection.specs.declared.event.Malformation.{Malformation}
use Rattle.h3_connection.specs.Lasts.{last_id}
use Rattle.h3_connection.specs.Outgoing.{takes_head, takes_body, takes_end}
use Rattle.h3_field.specs.Field.{section_size}
use Rattle.h3_header.specs.Head.{head_fields, has_pseudo}
use Rattle.h3_header.specs.Reads.{head_of_fields}
use Rattle.h3_world.specs.Came.{settings_known, goaways_came}
use Rattle.h3_connection.specs.declared.event.StreamFault.{StreamFault}
use Rattle.h3_connection.specs.declared.event.Item.TheVariants as item
use Rattle.h3_connection.specs.declared.event.Pull.{Pull}
use Rattle.h3_connection.specs.declared.event.Pull.TheVariants as pull
use Rattle.h3_connection.specs.declared.event.Refusal.{Refusal}
use Rattle.h3_connection.specs.declared.event.Refusal.TheVariants as refusal
use Rattle.h3_connection.specs.Lists.{pull_of}
use Rattle.h3_world.specs.declared.event.Event.{Event}
use Rattle.h3_world.specs.declared.event.Event.TheVariants as event
use Rattle.h3_world.specs.declared.event.Answer.{Answer}
use Rattle.h3_world.specs.declared.event.Answer.TheVariants as answer
use Rattle.h3_world.specs.Setup.{Setup, announced_at, takes_any}
use Rattle.h3_world.specs.ListLaws.{fault_listed}
use Rattle.h3_world.specs.Lists.{unreadable}
use Rattle.h3_world.specs.Flow.{Flow, Part, flow_bytes, bytes_waiting}
use Rattle.h3_world.specs.Flow.Part.{End}
use Rattle.h3_world.specs.World.{World, Party, party}
use Rattle.h3_world.specs.OwnStreams.{encoder_stream}
use Rattle.h3_world.specs.Streams.{flow, waiting, is_open, has_outgoing}
use Rattle.h3_world.specs.Refusals.{next_id, none_after, is_critical, open_refusal, head_refusal, fields_refusal, body_refusal, trailer_refusal, trailer_fields_refusal, finish_refusal, reset_refusal, cancel_refusal, goaway_refusal}
use Rattle.h3_world.specs.Delivering.{delivered, delivered_end, delivered_reset, is_closed, may_end, delivery, end_delivery, reset_delivery}
use Rattle.h3_world.specs.Order.{last_part, is_end, is_finished, is_over, is_sent_off, next_part, outgoing_of}
use Rattle.h3_world.specs.Pauses.{PauseAllowed, pause_of}
use Rattle.h3_world.specs.Pulling.{own_delivered, fault_or, settled, PullsNext, Pulls, PausesExactly}
use Rattle.h3_world.specs.Step.{Does, Step, IsExact}
use Rattle.h3_world.specs.Headline.{IsDelivered, ComesOut, is_connection_fault, Happens}
use Rattle.h3_world.specs.Sound.{IsSoundFlow, IsSoundWorld}
use Rattle.h3_world.proofs.ComesOut.{all_there, end_missing}
use Rattle.h3_world.proofs.ExactPauses.{pause_allowed}
use Rattle.h3_world.proofs.Grown.{session_is_sound}
use Rattle.h3_world.proofs.QpackLaws.{QpackLaws}
use Rattle.h3_world.proofs.SoundFlows.{flow_sound}
use Rattle.h3_world.proofs.StepsSound.{unsettled, waits_message}
use Rattle.h3_world.proofs.WithinLimits.{within_limits}

-- the own streams are no request streams
request_not_own : (side : Side) (id : ℕ) → is_request_stream id ≡ true → is_own side id ≡ false
request_not_own Client id h = grind (arith, common_steps, h)
request_not_own Server id h = grind (arith, common_steps, h)

encoder_waits : (setup : Setup) (w : World) (side : Side) → waiting setup w side (encoder_id side) ≡ length (encoder_stream (party w side)) - (party w side).own.encoder_taken
encoder_waits setup w Client = refl
encoder_waits setup w Server = refl

is_request_of : (w : World) (side : Side) (id : ℕ) → is_open w side id ≡ true → is_request_stream id ≡ true
is_request_of w Client id h = first _ _ h
  where
    first : (a b : Bool) → (a && b) ≡ true → a ≡ true
    first true b e = refl
    first false b e = cc
is_request_of w Server id h = first _ _ (first _ _ h)
  where
    first : (a b : Bool) → (a && b) ≡ true → a ≡ true
    first true b e = refl
    first false b e = cc

finished_as : (f : Flow) → f.is_reset ≡ false → is_end (last_part f.sent) ≡ true → is_finished f ≡ true
finished_as f r e = ap (λ b. not b && is_end (last_part f.sent)) r ∙ e

none_left : (n m : ℕ) → n - m ≡ 0 → n ≤ m
none_left n m h = omega (arith, h)

-- with nothing left to deliver, a pause is at the end
module _ (setup : Setup) (w : World) (side : Side) (id : ℕ) (p : Pull) (h : IsSoundWorld setup w) (exact : PausesExactly w side id p) (live : (flow w (other side) id).is_reset ≡ false) (message : waiting setup w (other side) id ≡ 0)
    (encodes : waiting setup w (other side) (encoder_id (other side)) ≡ 0) (e : settled w side id ≡ None) (pauses : is_none (pause_of p) ≡ false) where
  abbrev f : Flow
  f = flow w (other side) id

  abbrev sender : Party
  sender = party w (other side)

  sound : IsSoundFlow sender f
  sound = flow_sound w (other side) id h.exchanges

  allowed : PauseAllowed f sender.own.encoder_taken (next_part f)
  allowed = pause_allowed setup w side id p h e exact pauses

  request : is_request_stream id ≡ true
  request = is_request_of w side id (unsettled w side id e).0

  waits : bytes_waiting f ≡ 0
  waits = sym (waits_message setup w (other side) id (request_not_own (other side) id request)) ∙ message

  whole : length (flow_bytes f) ≤ f.delivered
  whole = none_left (length (flow_bytes f)) f.delivered (sym (ap (λ b. if b then 0 else length (flow_bytes f) - f.delivered) live) ∙ waits)

  encoder : length (encoder_stream sender) ≤ sender.own.encoder_taken
  encoder = none_left (length (encoder_stream sender)) sender.own.encoder_taken (sym (encoder_waits setup w (other side)) ∙ encodes)

  pub pauses_at_end : (next_part f ≡ None) ⊎ (next_part f ≡ Some End)
  pauses_at_end = by_part (next_part f) refl
    where
      by_part : (o : Option Part) → next_part f ≡ o → (next_part f ≡ None) ⊎ (next_part f ≡ Some End)
      by_part None k = inl k
      by_part (Some part) k =
          inr (k ∙ ap (λ q. Some q) (end_missing sender f part sound k whole encoder (subst (PauseAllowed f sender.own.encoder_taken) k allowed)))

  -- and behind it, once that came
  comes_at_end : (is_finished f ≡ true → f.ended ≡ true) → next_part f ≡ None
  comes_at_end ended = by_part (next_part f) refl
    where
      by_part : (o : Option Part) → next_part f ≡ o → next_part f ≡ None
      by_part None k = k
      by_part (Some part) k =
          absurd (all_there sender f part sound k whole encoder (λ end. ended (finished_as f live end)) (subst (PauseAllowed f sender.own.encoder_taken) k allowed))

-- with everything delivered, a pause is at the end
pull_comes_out : (setup : Setup) (w : World) (side : Side) (id : ℕ) (p : Pull) → IsSoundWorld setup w → PausesExactly w side id p → IsDelivered setup w (other side) id → settled w side id ≡ None
    → is_none (pause_of p) ≡ false → next_part (flow w (other side) id) ≡ None
pull_comes_out setup w side id p h exact given e pauses = comes_at_end setup w side id p h exact given.whole given.message given.encoder e pauses given.ended

pub comes_out : (setup : Setup) (w : World) (e : Event) (a : Answer) → IsSoundWorld setup w → IsExact w e a → ComesOut setup w e a
comes_out setup w (event.Pull side id) (answer.Pulled p) h exact = λ given settled_is pauses. pull_comes_out setup w side id p h exact given settled_is pauses
comes_out setup w (event.Pull side id) (answer.Opened n) h exact = tt
comes_out setup w (event.Pull side id) answer.Done h exact = tt
comes_out setup w (event.Pull side id) (answer.Delivered n) h exact = tt
comes_out setup w (event.Pull side id) (answer.Short n) h exact = tt
comes_out setup w (event.Pull side id) answer.NoStream h exact = tt
comes_out setup w (event.Pull side id) answer.Early h exact = tt
comes_out setup w (event.Pull side id) (answer.Shown l t n) h exact = tt
comes_out setup w (event.Pull side id) (answer.Refused r) h exact = tt
comes_out setup w (event.Pull side id) (answer.Listed l) h exact = tt
comes_out setup w (event.PullFields side id) (answer.Listed l) h exact = λ given settled_is pauses. pull_comes_out setup w side id (pull_of l) h exact given settled_is pauses
comes_out setup w (event.PullFields side id) (answer.Pulled p) h exact = tt
comes_out setup w (event.PullFields side id) (answer.Opened n) h exact = tt
comes_out setup w (event.PullFields side id) answer.Done h exact = tt
comes_out setup w (event.PullFields side id) (answer.Delivered n) h exact = tt
comes_out setup w (event.PullFields side id) (answer.Short n) h exact = tt
comes_out setup w (event.PullFields side id) answer.NoStream h exact = tt
comes_out setup w (event.PullFields side id) answer.Early h exact = tt
comes_out setup w (event.PullFields side id) (answer.Shown l t n) h exact = tt
comes_out setup w (event.PullFields side id) (answer.Refused r) h exact = tt
comes_out setup w (event.OpenRequest side) a h exact = tt
comes_out setup w (event.Head side id head) a h exact = tt
comes_out setup w (event.Fields side id fields) a h exact = tt
comes_out setup w (event.Body side id bytes) a h exact = tt
comes_out setup w (event.Trailer side id trailer) a h exact = tt
comes_out setup w (event.TrailerFields side id fields) a h exact = tt
comes_out setup w (event.Finish side id) a h exact = tt
comes_out setup w (event.Reset side id) a h exact = tt
comes_out setup w (event.Cancel side id) a h exact = tt
comes_out setup w (event.Goaway side id) a h exact = tt
comes_out setup w (event.Deliver side id count) a h exact = tt
comes_out setup w (event.DeliverEnd side id) a h exact = tt
comes_out setup w (event.DeliverReset side id) a h exact = tt
comes_out setup w (event.Show side) a h exact = tt

abbrev pub answer_of : Answer × World → Answer
answer_of r = r.0

-- No answer of a step is a connection fault.
abbrev pub IsNoFault : Answer → Type 0
IsNoFault a = is_connection_fault a ≡ false

abbrev pub RefusesWell : Option Refusal → Type 0
RefusesWell None = Unit {0}
RefusesWell (Some r) = IsNoFault (answer.Refused r)

does_well : (r : Option Refusal) (old : World) (success : Answer) (after : World) (given : Answer) (new : World) → RefusesWell r → IsNoFault success → Does r old success after given new → IsNoFault given
does_well None old success after given new r s does = ap is_connection_fault does.0 ∙ s
does_well (Some refused) old success after given new r s does = ap is_connection_fault does.0 ∙ r

rule_well : (b : Bool) (r : Refusal) (later : Option Refusal) → IsNoFault (answer.Refused r) → RefusesWell later → RefusesWell (if b then Some r else later)
rule_well true r later h k = h
rule_well false r later h k = k

raised_well : (id : ℕ) (o : Option ℕ) → RefusesWell (raised id o)
raised_well id None = tt
raised_well id (Some earlier) = rule_well (nat_lt earlier id) (refusal.Raised earlier) None refl tt

either_well : (b : Bool) (x y : Answer × World) → IsNoFault x.0 → IsNoFault y.0 → IsNoFault (answer_of (if b then x else y))
either_well true x y h k = h
either_well false x y h k = k

-- the answer of a pull that is settled
settled_well : (w : World) (side : Side) (id : ℕ) → MatchOption (settled w side id) (Unit {0}) (λ p. IsNoFault (answer.Pulled p))
settled_well w side id = by_tests (id % 4 == control_id (other side)) (not (is_request_stream id)) (is_open w side id) (flow w (other side) id).fault (is_over (flow w (other side) id)) (own_delivered w (other side) id == 0) (is_client side)
  where
    by_tests : (a b c : Bool) (o : Option StreamFault) (d e g : Bool)
        → MatchOption (if a then Some (if e then pull.Pending else pull.NoMessages) else (if b then Some pull.NoMessages else (
        if not c then Some (if g then pull.NoMessages else pull.Pending) else fault_or o (if d then Some (pull.Item item.End) else None)))) (Unit {0}) (λ p. IsNoFault (answer.Pulled p))
    by_tests true b c o d true g = refl
    by_tests true b c o d false g = refl
    by_tests false true c o d e g = refl
    by_tests false false false o d e true = refl
    by_tests false false false o d e false = refl
    by_tests false false true (Some fault) d e g = refl
    by_tests false false true None true e g = refl
    by_tests false false true None false e g = tt

pull_well : (setup : Setup) (w : World) (side : Side) (id : ℕ) (p : Pull) (new : World) → Pulls setup w side id p new → IsNoFault (answer.Pulled p)
pull_well setup w side id p new pulls = by_settled (settled w side id) (settled_well w side id) pulls
  where
    next : (p : Pull) → PullsNext setup w side id p new → IsNoFault (answer.Pulled p)
    next (pull.Item i) n = refl
    next pull.Pending n = refl
    next (pull.Waiting count) n = refl
    next (pull.Fault fault) n = absurd n
    next pull.NoMessages n = absurd n

    by_settled : (o : Option Pull) → MatchOption o (Unit {0}) (λ q. IsNoFault (answer.Pulled q)) → MatchOption o (PullsNext setup w side id p new) (λ answer. (p ≡ answer) × (new ≡ w)) → IsNoFault (answer.Pulled p)
    by_settled None well n = next p n
    by_settled (Some q) well n = ap (λ x. is_connection_fault (answer.Pulled x)) n.0 ∙ well

delivery_well : (setup : Setup) (w : World) (writer : Side) (id count : ℕ) → IsNoFault (delivery setup w writer id count).0
delivery_well setup w writer id count =
    either_well (not (has_outgoing w writer id)) (answer.NoStream, w) _ refl
    (either_well (nat_lt (waiting setup w writer id) count) (answer.Short (waiting setup w writer id), w) _ refl
    (either_well (is_closed w writer id) (answer.Refused refusal.AfterEnd, w) (answer.Delivered count, delivered setup w writer id count) refl refl))

end_well : (setup : Setup) (w : World) (writer : Side) (id : ℕ) → IsNoFault (end_delivery setup w writer id).0
end_well setup w writer id =
    either_well (not (has_outgoing w writer id)) (answer.NoStream, w) _ refl
    (either_well (not (may_end setup w writer id)) (answer.Early, w) _ refl
    (either_well (is_closed w writer id) (answer.Refused refusal.AfterEnd, w) (answer.Done, delivered_end w writer id) refl refl))

reset_well : (w : World) (writer : Side) (id : ℕ) → IsNoFault (reset_delivery w writer id).0
reset_well w writer id =
    either_well (not (has_outgoing w writer id)) (answer.NoStream, w) _ refl
    (either_well (is_own writer id || not (flow w writer id).is_reset) (answer.Early, w) _ refl
    (either_well (is_closed w writer id) (answer.Refused refusal.AfterEnd, w) (answer.Done, delivered_reset w writer id) refl refl))

open_well : (a b : Bool) (o : Option ℕ) → RefusesWell (if a then Some refusal.NotClient else going_away o (if b then Some refusal.IdsUsedUp else None))
open_well true b o = refl
open_well false b (Some id) = refl
open_well false true None = refl
open_well false false None = tt

head_well : (a b c d : Bool) (n : ℕ) → RefusesWell (first_of ((a, refusal.NotOpen) ∷ (b, refusal.OutOfOrder) ∷ (c, refusal.WrongSide) ∷ (d, refusal.TooLarge n) ∷ []))
head_well true b c d n = refl
head_well false true c d n = refl
head_well false false true d n = refl
head_well false false false true n = refl
head_well false false false false n = tt

trailer_well : (a b c d : Bool) (n : ℕ) → RefusesWell (first_of ((a, refusal.NotOpen) ∷ (b, refusal.OutOfOrder) ∷ (c, refusal.PseudoInTrailer) ∷ (d, refusal.TooLarge n) ∷ []))
trailer_well true b c d n = refl
trailer_well false true c d n = refl
trailer_well false false true d n = refl
trailer_well false false false true n = refl
trailer_well false false false false n = tt

-- the same behind a GOAWAY, and behind what is malformed of a list
fields_well : (a b : Bool) (going : Option ℕ) (o : Option Malformation) (c d : Bool) (n : ℕ)
    → RefusesWell (first_of ((a, refusal.NotOpen) ∷ (b, refusal.OutOfOrder) ∷ unless_going going (unless_malformed o ((c, refusal.WrongSide) ∷ (d, refusal.TooLarge n) ∷ []))))
fields_well a b None None c d n = head_well a b c d n
fields_well true b None (Some why) c d n = refl
fields_well false true None (Some why) c d n = refl
fields_well false false None (Some why) c d n = refl
fields_well true b (Some last) o c d n = refl
fields_well false true (Some last) o c d n = refl
fields_well false false (Some last) o c d n = refl

trailer_fields_well : (a b : Bool) (o : Option Malformation) (c d : Bool) (n : ℕ) → RefusesWell (first_of ((a, refusal.NotOpen) ∷ (b, refusal.OutOfOrder) ∷ unless_malformed o ((c, refusal.PseudoInTrailer) ∷ (d, refusal.TooLarge n) ∷ [])))
trailer_fields_well a b None c d n = trailer_well a b c d n
trailer_fields_well true b (Some why) c d n = refl
trailer_fields_well false true (Some why) c d n = refl
trailer_fields_well false false (Some why) c d n = refl

order_well : (a b : Bool) → RefusesWell (first_of ((a, refusal.NotOpen) ∷ (b, refusal.OutOfOrder) ∷ []))
order_well true b = refl
order_well false true = refl
order_well false false = tt

ended_well : (a b c : Bool) → RefusesWell (first_of ((a, refusal.Critical) ∷ (b, refusal.NotOpen) ∷ (c, refusal.Ended) ∷ []))
ended_well true b c = refl
ended_well false true c = refl
ended_well false false true = refl
ended_well false false false = tt

goaway_well : (a : Bool) (id : ℕ) (o : Option ℕ) → RefusesWell (if a then Some refusal.NotRequestId else raised id o)
goaway_well true id o = refl
goaway_well false id o = raised_well id o

pub step_well : (setup : Setup) (w new : World) (e : Event) (a : Answer) → Step setup w e a new → IsNoFault a
step_well setup w new (event.OpenRequest side) a step =
    does_well (open_refusal setup w side) w _ _ a new (open_well (not (is_client side)) (nat_le (2 ^ 62) (next_id w)) (last_id (goaways_came setup w (other side)))) refl step
step_well setup w new (event.Head side id head) a step =
    does_well (head_refusal setup w side id head) w _ _ a new
    (fields_well (not (is_open w side id)) (not (takes_head (outgoing_of (flow w side id)))) (none_after setup w side) None (not (is_for (other side) head)) (is_too_large (settings_known setup w side) (head_fields head)) (section_size (head_fields head))) refl step
step_well setup w new (event.Fields side id fields) a step =
    does_well (fields_refusal setup w side id fields) w _ _ a new
    (fields_well (not (is_open w side id)) (not (takes_head (outgoing_of (flow w side id)))) (none_after setup w side) (unreadable (takes_any (announced_at setup side)) fields) (not (is_for (other side) (head_of_fields fields))) (is_too_large (settings_known setup w side) fields) (section_size fields)) refl step
step_well setup w new (event.Body side id bytes) a step = does_well (body_refusal w side id) w _ _ a new (order_well (not (is_open w side id)) (not (takes_body (outgoing_of (flow w side id))))) refl step
step_well setup w new (event.Trailer side id trailer) a step =
    does_well (trailer_refusal setup w side id trailer) w _ _ a new
    (trailer_well (not (is_open w side id)) (not (takes_body (outgoing_of (flow w side id)))) (has_pseudo trailer) (is_too_large (settings_known setup w side) (head_fields trailer)) (section_size (head_fields trailer))) refl step
step_well setup w new (event.TrailerFields side id fields) a step =
    does_well (trailer_fields_refusal setup w side id fields) w _ _ a new
    (trailer_fields_well (not (is_open w side id)) (not (takes_body (outgoing_of (flow w side id)))) (unreadable (takes_any (announced_at setup side)) fields) (has_pseudo (head_of_fields fields)) (is_too_large (settings_known setup w side) fields) (section_size fields)) refl step
step_well setup w new (event.Finish side id) a step = does_well (finish_refusal w side id) w _ _ a new (order_well (not (is_open w side id)) (not (takes_end (outgoing_of (flow w side id))))) refl step
step_well setup w new (event.Reset side id) a step = does_well (reset_refusal w side id) w _ _ a new (ended_well (is_critical id) (not (is_open w side id)) (is_sent_off (flow w side id))) refl step
step_well setup w new (event.Cancel side id) a step =
    does_well (cancel_refusal w side id) w _ _ a new (ended_well (is_critical id) (not (is_open w side id)) (is_over (flow w (other side) id) || is_some (flow w (other side) id).fault)) refl step
step_well setup w new (event.Goaway side id) a step = does_well (goaway_refusal w side id) w _ _ a new (goaway_well (not (is_client side) && not (is_request_stream id)) id (last_id (party w side).own.goaways)) refl step
step_well setup w new (event.Deliver side id count) a step = ap (λ r. is_connection_fault (answer_of r)) step ∙ delivery_well setup w side id count
step_well setup w new (event.DeliverEnd side id) a step = ap (λ r. is_connection_fault (answer_of r)) step ∙ end_well setup w side id
step_well setup w new (event.DeliverReset side id) a step = ap (λ r. is_connection_fault (answer_of r)) step ∙ reset_well w side id
step_well setup w new (event.Pull side id) (answer.Pulled p) step = pull_well setup w side id p new step
step_well setup w new (event.Pull side id) (answer.Opened n) step = absurd step
step_well setup w new (event.Pull side id) answer.Done step = absurd step
step_well setup w new (event.Pull side id) (answer.Delivered n) step = absurd step
step_well setup w new (event.Pull side id) (answer.Short n) step = absurd step
step_well setup w new (event.Pull side id) answer.NoStream step = absurd step
step_well setup w new (event.Pull side id) answer.Early step = absurd step
step_well setup w new (event.Pull side id) (answer.Shown l t n) step = absurd step
step_well setup w new (event.Pull side id) (answer.Refused r) step = absurd step
step_well setup w new (event.Pull side id) (answer.Listed l) step = absurd step
step_well setup w new (event.PullFields side id) (answer.Listed l) step = fault_listed l ∙ pull_well setup w side id (pull_of l) new step.0
step_well setup w new (event.PullFields side id) (answer.Pulled p) step = absurd step
step_well setup w new (event.PullFields side id) (answer.Opened n) step = absurd step
step_well setup w new (event.PullFields side id) answer.Done step = absurd step
step_well setup w new (event.PullFields side id) (answer.Delivered n) step = absurd step
step_well setup w new (event.PullFields side id) (answer.Short n) step = absurd step
step_well setup w new (event.PullFields side id) answer.NoStream step = absurd step
step_well setup w new (event.PullFields side id) answer.Early step = absurd step
step_well setup w new (event.PullFields side id) (answer.Shown l t n) step = absurd step
step_well setup w new (event.PullFields side id) (answer.Refused r) step = absurd step
step_well setup w new (event.Show side) a step = ap is_connection_fault step.0

-- All that is said of a step holds of one that is exact, between sound worlds.
pub step_happens : QpackLaws → (setup : Setup) (w new : World) (e : Event) (a : Answer) → Step setup w e a new → IsExact w e a → IsSoundWorld setup w → IsSoundWorld setup new → Happens setup w e a new
step_happens laws setup w new e a step exact h after =
    record {
      step = step;
      exact = exact;
      comes_out = comes_out setup w e a h exact;
      no_connection_fault = step_well setup w new e a step;
      within_limits = within_limits setup new after (session_is_sound laws.sound setup new Server after.server.session) (session_is_sound laws.sound setup new Client after.client.session);
    }
