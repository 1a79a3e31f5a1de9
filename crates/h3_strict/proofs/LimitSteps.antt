-- One event at two ends that limit what is unfinished, beside the same ends with other limits: a delivery that finds nothing too long.
use Rattle.std.proofs.Common.{◌≡◌, ℕ, Bool, true, false, if◌then◌else◌, List, [], ◌∷◌, length, take, refl, ap, sym, ◌∙◌, Option, Some, None}
use Rattle.std.specs.Prelude.{◌==◌, ◌&&◌, not, nat_lt}
use Rattle.h3_proto.specs.Config.{is_limit}
use Rattle.h3_proto.specs.declared.stream.Side.{Side}
use Rattle.h3_proto.specs.declared.stream.Side.TheVariants.{Client, Server}
use Rattle.h3_connection.specs.Endpoint.{EndpointHistory, Kind, bytes_waiting, kind_of, limit_of}
use Rattle.h3_connection.specs.Endpoint.Kind.{OwnUnidirectional, PeerUnidirectional, Request, ServerOpened}
use Rattle.h3_field.specs.Field.{Field}
use Rattle.h3_connection.specs.Coming.{fields_behind, fields_of_kind}
use Rattle.h3_connection.specs.Control.{Found}
use Rattle.h3_world.specs.EndLists.{fields_refusal, send_fields, send_trailer_fields, trailer_fields_refusal}
use Rattle.h3_connection.specs.Incoming.{Incoming}
use Rattle.h3_connection.specs.Keeping.{arrives, pulls}
use Rattle.h3_connection.specs.Outgoing.{Outgoing}
use Rattle.h3_connection.specs.OwnIds.{other}
use Rattle.h3_connection.specs.Sending as sender
use Rattle.h3_connection.specs.Sending.{does}
use Rattle.h3_connection.specs.Shown.{has_outgoing, is_finished, is_reset, waiting}
use Rattle.h3_connection.specs.StreamSets.{stream_at}
use Rattle.h3_connection.specs.StrictConnection.{is_strict, kinds_of}
use Rattle.h3_connection.specs.declared.arrival.Arrival.{Arrival}
use Rattle.h3_connection.specs.declared.arrival.Arrival.TheVariants.{BytesCame, EndCame, ResetCame}
use Rattle.h3_connection.specs.declared.event.Pull.{Pull}
use Rattle.h3_connection.specs.declared.event.Refusal.{Refusal}
use Rattle.h3_connection.specs.Lists.{listed_pull}
use Rattle.h3_world.specs.Delivering.{reset_code}
use Rattle.h3_world.specs.Ends.{Ends, answered, delivery, done, end_at, end_delivery, reset_delivery, was_listed, was_offered, was_pulled, with_end}
use Rattle.h3_world.specs.declared.event.Answer.{Answer}
use Rattle.h3_world.specs.declared.event.Answer.TheVariants as answer
use Rattle.h3_world.specs.declared.event.Event.{Event}
use Rattle.h3_world.specs.declared.event.Event.TheVariants as event
use Rattle.h3_strict.specs.Limits.{limited_end, limited_ends}
use Rattle.h3_strict.specs.PlainEnds.{judges, refused_by, was_too_long}
use Rattle.h3_strict.specs.Plainly.{is_excess, is_judged}
use Rattle.h3_strict.proofs.LimitPulls.{LooksAlike, judges_same, limited_result, pulls_same}
use Rattle.h3_strict.proofs.LimitReading.{ArrivesWithin, Exceeds, Otherwise, told_arrival}

-- the same answer, and the ends after it with other limits
abbrev pub limited_answer : (Side → ℕ) → Answer × Ends → Answer × Ends
limited_answer most x = (x.0, limited_ends most x.1)

-- nothing that came was too long
abbrev pub IsWithin : Bool → Answer → Type 0
IsWithin strict a = is_excess strict (refused_by a) ≡ false

-- for the end that it came to
abbrev pub asks_there : Ends → Side → Bool
asks_there ends reader = is_strict (end_at ends reader).announced

-- what comes at either end is too long, or it is answered alike with the other limit
abbrev pub ArriveWithin : (Side → ℕ) → Ends → Type 0
ArriveWithin most ends = (side : Side) (a : Arrival) → ArrivesWithin (most side) (end_at ends side).announced (arrives (end_at ends side) a) (arrives (limited_end (most side) (end_at ends side)) a) (told_arrival (end_at ends side) a)

-- a call by its refusal
does_same : (most : ℕ) (r : Option Refusal) (e f : EndpointHistory) → does r (limited_end most e) (limited_end most f) ≡ limited_result most (does r e f)
does_same most None e f = refl
does_same most (Some r) e f = refl

sent_same : (most : ℕ) (e : EndpointHistory) (id : ℕ) (bytes : List ℕ) → sender.sent_bytes (limited_end most e) id bytes ≡ limited_end most (sender.sent_bytes e id bytes)
sent_same most e id [] = refl
sent_same most e id (byte ∷ bytes) = refl

body_same : (most : ℕ) (e : EndpointHistory) (id : ℕ) (bytes : List ℕ) → sender.send_body (limited_end most e) id bytes ≡ limited_result most (sender.send_body e id bytes)
body_same most e id bytes =
    ap (λ f. does (sender.body_refusal e id (length bytes)) (limited_end most e) (sender.counted f (length bytes))) (sent_same most e id bytes)
    ∙ does_same most (sender.body_refusal e id (length bytes)) e (sender.counted (sender.sent_bytes e id bytes) (length bytes))

advance_same : (most : ℕ) (e : EndpointHistory) (id count : ℕ) → sender.advance (limited_end most e) id count ≡ limited_end most (sender.advance e id count)
advance_same most e id count = by_stream (stream_at e.outgoing id)
  where
    by_stream : (o : Option Outgoing) → sender.advance_at (limited_end most e) id count o ≡ limited_end most (sender.advance_at e id count o)
    by_stream None = refl
    by_stream (Some o) = refl

-- the list that comes next has no part in a limit
lists_same : (most : ℕ) (e : EndpointHistory) (id : ℕ) → e.kept ≡ [] → fields_behind (limited_end most e).kept (limited_end most e) id ≡ fields_behind e.kept e id
lists_same most e id none = ap (λ k. fields_behind k (limited_end most e) id) none ∙ by_kind (kind_of e.side id) ∙ sym (ap (λ k. fields_behind k e id) none)
  where
    by_kind : (k : Kind) → fields_of_kind (limited_end most e) id k ≡ fields_of_kind e id k
    by_kind Request = refl
    by_kind ServerOpened = refl
    by_kind OwnUnidirectional = refl
    by_kind PeerUnidirectional = refl

module _ (most : Side → ℕ) where
  -- either end
  pub at_end : (ends : Ends) (side : Side) → end_at (limited_ends most ends) side ≡ limited_end (most side) (end_at ends side)
  at_end ends Client = refl
  at_end ends Server = refl

  sets_end : (ends : Ends) (side : Side) (e : EndpointHistory) → with_end (limited_ends most ends) side (limited_end (most side) e) ≡ limited_ends most (with_end ends side e)
  sets_end ends Client e = refl
  sets_end ends Server e = refl

  module _ (ends : Ends) (side : Side) where
    done_same : (success : Answer) (x : Option Refusal × EndpointHistory) → done (limited_ends most ends) side success (limited_result (most side) x) ≡ limited_answer most (done ends side success x)
    done_same success (None, e) = ap (λ v. let z : Answer × Ends = (success, v) in z) (sets_end ends side e)
    done_same success (Some r, e) = ap (λ v. let z : Answer × Ends = (answer.Refused r, v) in z) (sets_end ends side e)

    -- by a call of an endpoint
    calls : (success : EndpointHistory → Answer) (call : EndpointHistory → Option Refusal × EndpointHistory) → success (limited_end (most side) (end_at ends side)) ≡ success (end_at ends side)
        → ((n : ℕ) (e : EndpointHistory) → call (limited_end n e) ≡ limited_result n (call e))
        → done (limited_ends most ends) side (success (end_at (limited_ends most ends) side)) (call (end_at (limited_ends most ends) side)) ≡ limited_answer most (done ends side (success (end_at ends side)) (call (end_at ends side)))
    calls success call same h =
        ap (λ f. done (limited_ends most ends) side (success f) (call f)) (at_end ends side)
        ∙ ap (λ a. done (limited_ends most ends) side a (call (limited_end (most side) (end_at ends side)))) same
        ∙ ap (done (limited_ends most ends) side (success (end_at ends side))) (h (most side) (end_at ends side))
        ∙ done_same (success (end_at ends side)) (call (end_at ends side))

    pull_same : (id : ℕ) → pulls (limited_end (most side) (end_at ends side)) id ≡ limited_result (most side) (pulls (end_at ends side) id) → answered (limited_ends most ends) (event.Pull side id) ≡ limited_answer most (answered ends (event.Pull side id))
    pull_same id same =
        ap (λ f. was_pulled (limited_ends most ends) side (pulls f id)) (at_end ends side) ∙ ap (was_pulled (limited_ends most ends) side) same ∙ by_pulled (pulls (end_at ends side) id)
      where
        by_pulled : (x : Pull × EndpointHistory) → was_pulled (limited_ends most ends) side (limited_result (most side) x) ≡ limited_answer most (was_pulled ends side x)
        by_pulled (a, e) = ap (λ v. let z : Answer × Ends = (answer.Pulled a, v) in z) (sets_end ends side e)

    -- with lists
    list_same : (id : ℕ) → (end_at ends side).kept ≡ [] → pulls (limited_end (most side) (end_at ends side)) id ≡ limited_result (most side) (pulls (end_at ends side) id)
        → answered (limited_ends most ends) (event.PullFields side id) ≡ limited_answer most (answered ends (event.PullFields side id))
    list_same id none same =
        ap (λ f. was_listed (limited_ends most ends) side id (pulls f id)) (at_end ends side) ∙ ap (was_listed (limited_ends most ends) side id) same ∙ by_pulled (pulls (end_at ends side) id)
      where
        of : EndpointHistory → Option (List Field)
        of f = fields_behind f.kept f id

        by_pulled : (x : Pull × EndpointHistory) → was_listed (limited_ends most ends) side id (limited_result (most side) x) ≡ limited_answer most (was_listed ends side id x)
        by_pulled (a, e) =
            ap (λ o. let z : Answer × Ends = (answer.Listed (listed_pull o a), with_end (limited_ends most ends) side (limited_end (most side) e)) in z) (ap of (at_end ends side) ∙ lists_same (most side) (end_at ends side) id none)
            ∙ ap (λ v. let z : Answer × Ends = (answer.Listed (listed_pull (of (end_at ends side)) a), v) in z) (sets_end ends side e)

  -- a test with the same branches
  if_within : (strict b : Bool) (x y v w : Answer × Ends) → (IsWithin strict x.0 → v ≡ limited_answer most x) → (IsWithin strict y.0 → w ≡ limited_answer most y) → IsWithin strict (if b then x else y).0
      → (if b then v else w) ≡ limited_answer most (if b then x else y)
  if_within strict true x y v w h k fits = h fits
  if_within strict false x y v w h k fits = k fits

  -- deliveries, from one end to the other
  module _ (ends : Ends) (id : ℕ) where
    offered_same : (writer : Side) (count : ℕ) (x : Option Refusal × EndpointHistory) → was_offered (limited_ends most ends) writer id count (limited_result (most (other writer)) x) ≡ limited_answer most (was_offered ends writer id count x)
    offered_same writer count (Some r, e) = ap (λ v. let z : Answer × Ends = (answer.Refused r, v) in z) (sets_end ends (other writer) e)
    offered_same writer count (None, e) =
        let new : EndpointHistory = sender.advance (end_at ends writer) id count in
        ap (λ v. let z : Answer × Ends = (answer.Delivered count, v) in z) (
        ap (λ f. with_end (with_end (limited_ends most ends) writer (sender.advance f id count)) (other writer) (limited_end (most (other writer)) e)) (at_end ends writer)
        ∙ ap (λ f. with_end (with_end (limited_ends most ends) writer f) (other writer) (limited_end (most (other writer)) e)) (advance_same (most writer) (end_at ends writer) id count)
        ∙ ap (λ v. with_end v (other writer) (limited_end (most (other writer)) e)) (sets_end ends writer new)
        ∙ sets_end (with_end ends writer new) (other writer) e)

    offers_same : (writer : Side) (count : ℕ) (x y : Option Refusal × EndpointHistory) (told : Found) → ArrivesWithin (most (other writer)) (end_at ends (other writer)).announced x y told → IsWithin (asks_there ends (other writer)) (was_offered ends writer id count x).0
        → was_offered (limited_ends most ends) writer id count y ≡ limited_answer most (was_offered ends writer id count x)
    offers_same writer count (r, e) y told (Exceeds code is refused long) fits =
        absurd (let never : true ≡ false = sym (ap (λ o. is_excess (asks_there ends (other writer)) (refused_by (was_offered ends writer id count (let x : Option Refusal × EndpointHistory = (o, e) in x)).0)) refused ∙ is) ∙ fits in cc)
    offers_same writer count x y told (Otherwise is) fits = ap (was_offered (limited_ends most ends) writer id count) is ∙ offered_same writer count x

    closes_same : (reader : Side) (x y : Option Refusal × EndpointHistory) (told : Found) → ArrivesWithin (most reader) (end_at ends reader).announced x y told → IsWithin (asks_there ends reader) (done ends reader answer.Done x).0
        → done (limited_ends most ends) reader answer.Done y ≡ limited_answer most (done ends reader answer.Done x)
    closes_same reader (r, e) y told (Exceeds code is refused long) fits =
        absurd (let never : true ≡ false = sym (ap (λ o. is_excess (asks_there ends reader) (refused_by (done ends reader answer.Done (let x : Option Refusal × EndpointHistory = (o, e) in x)).0)) refused ∙ is) ∙ fits in cc)
    closes_same reader x y told (Otherwise is) fits = ap (done (limited_ends most ends) reader answer.Done) is ∙ done_same ends reader answer.Done x

    module _ (arrive : ArriveWithin most ends) where
      delivery_same : (writer : Side) (count : ℕ) → IsWithin (asks_there ends (other writer)) (delivery ends writer id count).0 → delivery (limited_ends most ends) writer id count ≡ limited_answer most (delivery ends writer id count)
      delivery_same Client count =
          if_within (is_strict ends.server.announced) (not (has_outgoing ends.client id)) _ _ _ _ (λ fits. refl) (if_within (is_strict ends.server.announced) (nat_lt (waiting ends.client id) count) _ _ _ _ (λ fits. refl)
          (offers_same Client count _ _ _ (arrive Server (BytesCame id (take count (bytes_waiting ends.client id))))))
      delivery_same Server count =
          if_within (is_strict ends.client.announced) (not (has_outgoing ends.server id)) _ _ _ _ (λ fits. refl) (if_within (is_strict ends.client.announced) (nat_lt (waiting ends.server id) count) _ _ _ _ (λ fits. refl)
          (offers_same Server count _ _ _ (arrive Client (BytesCame id (take count (bytes_waiting ends.server id))))))

      end_same : (writer : Side) → IsWithin (asks_there ends (other writer)) (end_delivery ends writer id).0 → end_delivery (limited_ends most ends) writer id ≡ limited_answer most (end_delivery ends writer id)
      end_same Client =
          if_within (is_strict ends.server.announced) (not (has_outgoing ends.client id)) _ _ _ _ (λ fits. refl) (if_within (is_strict ends.server.announced) (not (is_finished ends.client id && (waiting ends.client id == 0))) _ _ _ _ (λ fits. refl)
          (closes_same Server _ _ _ (arrive Server (EndCame id))))
      end_same Server =
          if_within (is_strict ends.client.announced) (not (has_outgoing ends.server id)) _ _ _ _ (λ fits. refl) (if_within (is_strict ends.client.announced) (not (is_finished ends.server id && (waiting ends.server id == 0))) _ _ _ _ (λ fits. refl)
          (closes_same Client _ _ _ (arrive Client (EndCame id))))

      reset_same : (writer : Side) → IsWithin (asks_there ends (other writer)) (reset_delivery ends writer id).0 → reset_delivery (limited_ends most ends) writer id ≡ limited_answer most (reset_delivery ends writer id)
      reset_same Client =
          if_within (is_strict ends.server.announced) (not (has_outgoing ends.client id)) _ _ _ _ (λ fits. refl) (if_within (is_strict ends.server.announced) (not (is_reset ends.client id)) _ _ _ _ (λ fits. refl)
          (closes_same Server _ _ _ (arrive Server (ResetCame id reset_code))))
      reset_same Server =
          if_within (is_strict ends.client.announced) (not (has_outgoing ends.server id)) _ _ _ _ (λ fits. refl) (if_within (is_strict ends.client.announced) (not (is_reset ends.server id)) _ _ _ _ (λ fits. refl)
          (closes_same Client _ _ _ (arrive Client (ResetCame id reset_code))))

  shows_same : (ends : Ends) (side : Side) → answered (limited_ends most ends) (event.Show side) ≡ limited_answer most (answered ends (event.Show side))
  shows_same ends Client = refl
  shows_same ends Server = refl

-- The end that is pulled keeps nothing, and its receiver finds a frame too long with either limit or with none.
pub record PullsAlike (most : ℕ) (e : EndpointHistory) (id : ℕ) : Type 0 where
  pub nothing_kept : e.kept ≡ []
  pub looks : (i : Incoming) → stream_at e.incoming id ≡ Some i → LooksAlike (kinds_of e.announced) most e.announced.choices.unfinished_limit i

abbrev pub StepsAlike : (Side → ℕ) → Ends → Event → Type 0
StepsAlike most ends (event.Pull side id) = PullsAlike (most side) (end_at ends side) id
StepsAlike most ends (event.PullFields side id) = PullsAlike (most side) (end_at ends side) id
StepsAlike most ends (event.Deliver side id count) = IsWithin (asks_there ends (other side)) (delivery ends side id count).0
StepsAlike most ends (event.DeliverEnd side id) = IsWithin (asks_there ends (other side)) (end_delivery ends side id).0
StepsAlike most ends (event.DeliverReset side id) = IsWithin (asks_there ends (other side)) (reset_delivery ends side id).0
StepsAlike most ends _ = Unit {0}

-- **Any event.**
pub step_same : (most : Side → ℕ) (ends : Ends) (e : Event) → ArriveWithin most ends → StepsAlike most ends e → answered (limited_ends most ends) e ≡ limited_answer most (answered ends e)
step_same most ends (event.OpenRequest side) arrive alike = calls most ends side (λ e. answer.Opened e.next_id) sender.open_request refl (λ n e. does_same n (sender.open_refusal e) e _)
step_same most ends (event.Head side id head) arrive alike = calls most ends side (λ e. answer.Done) (λ e. sender.send_head e id head) refl (λ n e. does_same n (sender.head_refusal e id head) e _)
step_same most ends (event.Fields side id fields) arrive alike = calls most ends side (λ e. answer.Done) (λ e. send_fields e id fields) refl (λ n e. does_same n (fields_refusal e id fields) e _)
step_same most ends (event.Body side id bytes) arrive alike = calls most ends side (λ e. answer.Done) (λ e. sender.send_body e id bytes) refl (λ n e. body_same n e id bytes)
step_same most ends (event.Trailer side id trailer) arrive alike = calls most ends side (λ e. answer.Done) (λ e. sender.send_trailer e id trailer) refl (λ n e. does_same n (sender.trailer_refusal e id trailer) e _)
step_same most ends (event.TrailerFields side id fields) arrive alike = calls most ends side (λ e. answer.Done) (λ e. send_trailer_fields e id fields) refl (λ n e. does_same n (trailer_fields_refusal e id fields) e _)
step_same most ends (event.Finish side id) arrive alike = calls most ends side (λ e. answer.Done) (λ e. sender.finish e id) refl (λ n e. does_same n (sender.finish_refusal e id) e _)
step_same most ends (event.Reset side id) arrive alike = calls most ends side (λ e. answer.Done) (λ e. sender.reset e id) refl (λ n e. does_same n (sender.reset_refusal e id) e _)
step_same most ends (event.Cancel side id) arrive alike = calls most ends side (λ e. answer.Done) (λ e. sender.cancel e id) refl (λ n e. does_same n (sender.cancel_refusal e id) e _)
step_same most ends (event.Goaway side id) arrive alike = calls most ends side (λ e. answer.Done) (λ e. sender.goaway e id) refl (λ n e. does_same n (sender.goaway_refusal e id) e _)
step_same most ends (event.Deliver side id count) arrive alike = delivery_same most ends id arrive side count alike
step_same most ends (event.DeliverEnd side id) arrive alike = end_same most ends id arrive side alike
step_same most ends (event.DeliverReset side id) arrive alike = reset_same most ends id arrive side alike
step_same most ends (event.Pull side id) arrive alike = pull_same most ends side id (pulls_same (most side) (end_at ends side) id alike.nothing_kept alike.looks)
step_same most ends (event.PullFields side id) arrive alike = list_same most ends side id alike.nothing_kept (pulls_same (most side) (end_at ends side) id alike.nothing_kept alike.looks)
step_same most ends (event.Show side) arrive alike = shows_same most ends side

-- what is not too long with one limit is not with the other
within_judged : (most : Side → ℕ) (ends : Ends) (e : Event) (reader : Side) → answered (limited_ends most ends) e ≡ limited_answer most (answered ends e) → IsWithin (asks_there ends reader) (answered ends e).0
    → was_too_long (limited_ends most ends) reader (answered (limited_ends most ends) e).0 ≡ was_too_long ends reader (answered ends e).0
within_judged most ends e reader same fits =
    let longer : Ends = limited_ends most ends in
    let fault = refused_by (answered ends e).0 in
    ap (λ (x : Answer × Ends). was_too_long longer reader x.0) same
    ∙ ap (λ b. b && is_limit (limit_of (end_at longer reader))) (ap (λ (e : EndpointHistory). is_excess (is_strict e.announced) fault) (at_end most ends reader) ∙ fits)
    ∙ sym (ap (λ b. b && is_limit (limit_of (end_at ends reader))) fits)

-- and it judges a message or not.
pub judged_alike : (most : Side → ℕ) (ends : Ends) (e : Event) → ArriveWithin most ends → StepsAlike most ends e → judges (limited_ends most ends) e ≡ judges ends e
judged_alike most ends (event.Pull side id) arrive alike = ap (λ f. is_judged f id) (at_end most ends side) ∙ judges_same (most side) (end_at ends side) id alike.nothing_kept alike.looks
judged_alike most ends (event.PullFields side id) arrive alike = ap (λ f. is_judged f id) (at_end most ends side) ∙ judges_same (most side) (end_at ends side) id alike.nothing_kept alike.looks
judged_alike most ends (event.Fields side id fields) arrive alike = refl
judged_alike most ends (event.TrailerFields side id fields) arrive alike = refl
judged_alike most ends (event.OpenRequest side) arrive alike = refl
judged_alike most ends (event.Head side id head) arrive alike = refl
judged_alike most ends (event.Body side id bytes) arrive alike = refl
judged_alike most ends (event.Trailer side id trailer) arrive alike = refl
judged_alike most ends (event.Finish side id) arrive alike = refl
judged_alike most ends (event.Reset side id) arrive alike = refl
judged_alike most ends (event.Cancel side id) arrive alike = refl
judged_alike most ends (event.Goaway side id) arrive alike = refl
judged_alike most ends (event.Deliver side id count) arrive alike = within_judged most ends (event.Deliver side id count) (other side) (step_same most ends (event.Deliver side id count) arrive alike) alike
judged_alike most ends (event.DeliverEnd side id) arrive alike = within_judged most ends (event.DeliverEnd side id) (other side) (step_same most ends (event.DeliverEnd side id) arrive alike) alike
judged_alike most ends (event.DeliverReset side id) arrive alike = within_judged most ends (event.DeliverReset side id) (other side) (step_same most ends (event.DeliverReset side id) arrive alike) alike
judged_alike most ends (event.Show side) arrive alike = refl
