-- Each event at two strict ends, but for pulls, leaves that tunnels stand.
use Rattle.std.proofs.Common.{◌≡◌, ℕ, ◌+◌, Bool, true, false, List, [], ◌∷◌, ◌++◌, length, refl, sym, ap, ◌∙◌, subst, Option, Some, None, if◌then◌else◌}
use Rattle.std.specs.Prelude.{◌&&◌, not, is_some}
use Rattle.h3_field.specs.Field.{Field, section_size}
use Rattle.h3_header.specs.Head.{Head, head_fields, has_pseudo}
use Rattle.h3_header.specs.Reads.{head_of_fields}
use Rattle.h3_proto.specs.declared.stream.Side.{Side}
use Rattle.h3_proto.specs.declared.stream.Side.TheVariants.{Client, Server}
use Rattle.h3_frames.specs.Encoded.{frame_encoding}
use Rattle.h3_connection.specs.Endpoint.{EndpointHistory}
use Rattle.h3_connection.specs.Outgoing.{takes_body, takes_end, takes_head, with_body, with_finish}
use Rattle.h3_connection.specs.Outgoing.OwnPart.{OwnTrailer}
use Rattle.h3_connection.specs.OwnIds.{other}
use Rattle.h3_connection.specs.Pulling.{is_for, is_interim}
use Rattle.h3_connection.specs.Sections.{written_section}
use Rattle.h3_connection.specs.Sending as sender
use Rattle.h3_connection.specs.Refusals.{is_too_large, of_list, unless_going, with_pseudo, wrong_side}
use Rattle.h3_connection.specs.Sending.{appended as part_appended, counted, does, encoded, fields_cost, outgoing_at, sent_bytes, with_outgoing}
use Rattle.h3_connection.specs.StrictSending.{broken_protocol, unless_malformed}
use Rattle.h3_connection.specs.declared.event.Malformation.{Malformation}
use Rattle.h3_connection.specs.declared.event.Refusal.{Refusal}
use Rattle.h3_connection.specs.declared.event.Refusal.TheVariants as refusal
use Rattle.h3_connection.specs.declared.setup.Announced.{Announced}
use Rattle.h3_world.specs.Came.{settings_known}
use Rattle.h3_world.specs.EndLists.{send_fields, send_trailer_fields}
use Rattle.h3_world.specs.Lists.{unreadable}
use Rattle.h3_world.specs.Ends.{Ends, done, end_at, with_end}
use Rattle.h3_world.specs.Flow.{Flow, flow_bytes}
use Rattle.h3_world.specs.Flow.Part.{Body, End, Head as HeadPart, Interim, Trailer}
use Rattle.h3_world.specs.Order.{outgoing_of}
use Rattle.h3_world.specs.Refusals.{body_refusal, fields_refusal, finish_refusal, head_refusal, none_after, trailer_fields_refusal, trailer_refusal}
use Rattle.h3_world.specs.Sending.{appended, finished, having_encoded, section_sent, sent_body, sent_fields, sent_head, sent_trailer, sent_trailer_fields, with_section}
use Rattle.h3_world.specs.Setup.{Setup, announced_at, takes_any}
use Rattle.h3_world.specs.Step.{Does}
use Rattle.h3_world.specs.Streams.{flow, is_open}
use Rattle.h3_world.specs.World.{World, party}
use Rattle.h3_world.specs.declared.event.Answer.{Answer}
use Rattle.h3_world.specs.declared.event.Answer.TheVariants as answer
use Rattle.h3_headline.specs.FlowLaws.{open_there}
use Rattle.h3_headline.specs.Standing.{IsReadable}
use Rattle.std.specs.List.{AllByRecursion}
use Rattle.h3_strict.proofs.CallEvents.{call_cases, not_refused}
use Rattle.h3_strict.proofs.SendEvents.{flows_with, flows_with_party}
use Rattle.h3_strict.proofs.SentLaws.{TakesBody, TakesHead, TakesTrailer, body_is_behind, body_rules, head_judged, head_rules, trailer_judged, trailer_rules}
use Rattle.h3_strict.proofs.SentTallies.{after_head}
use Rattle.h3_strict.proofs.TunnelCalls.{all_last, behind_tunnels, body_trails, end_trails, interim_tunnels, no_trailer_trails, request_tunnels, response_tunnels}
use Rattle.h3_strict.proofs.TunnelSees.{Sees}
use Rattle.h3_strict.proofs.TunnelSends.{itself}
use Rattle.h3_strict.specs.PlainEnds.{plain_setup}
use Rattle.h3_strict.specs.Tunnels.{TunnelsStand}

-- what an endpoint is after a trailer
abbrev after_trailer : EndpointHistory → ℕ → List Field → EndpointHistory
after_trailer e i fields = counted (part_appended (encoded e i fields) i (OwnTrailer (written_section e.encoder i fields))) (fields_cost fields)

not_done : (r : Refusal) → answer.Refused r ≡ answer.Done → ⊥
not_done r e = cc

-- a head with no status is no interim one
only_server : (s : Side) (head : Head) → is_for (other s) head ≡ true → is_interim head.status ≡ true → s ≡ Server
only_server Server head fits interim = refl
only_server Client head fits interim = absurd (by_status head.status fits interim)
  where
    second : (a b : Bool) → (a && b) ≡ true → b ≡ true
    second true b e = e
    second false b e = absurd (cc)

    by_status : (o : Option ℕ) → (is_some head.method && not (is_some o)) ≡ true → is_interim o ≡ true → ⊥
    by_status None a b = absurd (cc)
    by_status (Some n) a b = let k : false ≡ true = second (is_some head.method) false a in absurd (cc)

-- a head that is the last part of a flow can be read
last_readable : (setup : Setup) (w : World) (i : ℕ) (fields : List Field) → (ends : Ends) → Sees setup (with_section HeadPart w Server i fields) ends → is_open w Server i ≡ true
    → IsReadable (plain_setup setup) Client (HeadPart (section_sent (party w Server) i fields (flow w Server i)))
last_readable setup w i fields ends g opened =
    let part = HeadPart (section_sent (party w Server) i fields (flow w Server i)) in
    let flows = flows_with_party w Server (having_encoded (party w Server) i fields) i part (open_there w Server i opened) Server i in
    let is : flow (with_section HeadPart w Server i fields) Server i ≡ appended (flow w Server i) part = flows ∙ ap (λ b. if b then appended (flow w Server i) part else flow w Server i) (itself i) in
    all_last (IsReadable (plain_setup setup) Client) (flow w Server i).sent part (subst (λ (x : Flow). AllByRecursion (IsReadable (plain_setup setup) Client) x.sent) is (g.readable Client i))

module _ (setup : Setup) (w : World) (ends : Ends) (sees : Sees setup w ends) (t : TunnelsStand setup w ends)
    (strict : (side : Side) → (announced_at setup side).choices.strict_messages ≡ true) where
  strict_at : (s : Side) → (end_at ends s).announced.choices.strict_messages ≡ true
  strict_at s = ap (λ (a : Announced). a.choices.strict_messages) (t.announced s) ∙ strict s

  -- where both stand in the world after it
  abbrev StandsAfter : World → Ends → Type 0
  StandsAfter u n = Sees setup u n → TunnelsStand setup u n

  -- **A head, or a list.**
  head_goes : (s : Side) (i : ℕ) (told : Option Malformation) (head : Head) (fields : List Field) (wrule : Option Refusal) (v : World) (a : Answer) (next : Ends)
      → (a, next) ≡ done ends s answer.Done (does (head_judged (end_at ends s) i told head fields) (end_at ends s) (after_head (end_at ends s) i head fields (strict_at s))) → (wrule ≡ None → is_open w s i ≡ true)
      → Does wrule w answer.Done (with_section (if is_interim head.status then Interim else HeadPart) w s i fields) a v → Sees setup v next → TunnelsStand setup v next
  head_goes s i told head fields wrule v a next is opens step =
      subst (λ (x : Answer × Ends). StandsAfter v x.1) (sym is)
      (call_cases (λ b u n. StandsAfter u n) ends s answer.Done (head_judged (end_at ends s) i told head fields) wrule
      (after_head (end_at ends s) i head fields (strict_at s)) w (with_section (if is_interim head.status then Interim else HeadPart) w s i fields) v not_done
      (subst (λ (x : Answer × Ends). Does wrule w answer.Done (with_section (if is_interim head.status then Interim else HeadPart) w s i fields) x.0 v) is step)
      (λ r g. t)
      (λ none goes_on. goes s (head_rules (end_at ends s) i told head fields none) (opens goes_on)))
    where
      by_interim : (s : Side) (b : Bool) → is_interim head.status ≡ b → TakesHead (end_at ends s) i head fields → is_open w s i ≡ true
          → StandsAfter (with_section (if b then Interim else HeadPart) w s i fields) (with_end ends s (after_head (end_at ends s) i head fields (strict_at s)))
      by_interim Server true e takes opened = λ g. interim_tunnels setup w ends i head fields sees t strict opened takes
      by_interim Client true e takes opened = λ g. absurd (let never : Client ≡ Server = only_server Client head (subst (λ d. is_for (other d) head ≡ true) (sees.side_is Client) takes.fits) e in cc)
      by_interim Server false e takes opened = λ g. response_tunnels setup w ends i head fields sees t strict opened takes
          (last_readable setup w i fields (with_end ends Server (after_head ends.server i head fields (strict_at Server))) g opened)
      by_interim Client false e takes opened = λ g. request_tunnels setup w ends i head fields sees t strict opened takes

      goes : (s : Side) → TakesHead (end_at ends s) i head fields → is_open w s i ≡ true
          → StandsAfter (with_section (if is_interim head.status then Interim else HeadPart) w s i fields) (with_end ends s (after_head (end_at ends s) i head fields (strict_at s)))
      goes s takes opened = by_interim s (is_interim head.status) refl takes opened

  pub head_event : (s : Side) (i : ℕ) (head : Head) (v : World) (a : Answer) (next : Ends) → (a, next) ≡ done ends s answer.Done (sender.send_head (end_at ends s) i head)
      → Does (head_refusal (plain_setup setup) w s i head) w answer.Done (sent_head w s i head) a v → Sees setup v next → TunnelsStand setup v next
  head_event s i head v a next is step =
      head_goes s i (broken_protocol (end_at ends s).announced head) head (head_fields head) (head_refusal (plain_setup setup) w s i head) v a next is
      (not_refused (is_open w s i) (
      (not (takes_head (outgoing_of (flow w s i))), refusal.OutOfOrder) ∷
      unless_going (none_after (plain_setup setup) w s) (
      (not (is_for (other s) head), refusal.WrongSide) ∷
      (is_too_large (settings_known (plain_setup setup) w s) (head_fields head), refusal.TooLarge (section_size (head_fields head))) ∷ []))) step

  pub fields_event : (s : Side) (i : ℕ) (fields : List Field) (v : World) (a : Answer) (next : Ends) → (a, next) ≡ done ends s answer.Done (send_fields (end_at ends s) i fields)
      → Does (fields_refusal (plain_setup setup) w s i fields) w answer.Done (sent_fields w s i fields) a v → Sees setup v next → TunnelsStand setup v next
  fields_event s i fields v a next is step =
      head_goes s i (unreadable (takes_any (end_at ends s).announced) fields) (head_of_fields fields) fields (fields_refusal (plain_setup setup) w s i fields) v a next is
      (not_refused (is_open w s i) (
      (not (takes_head (outgoing_of (flow w s i))), refusal.OutOfOrder) ∷
      unless_going (none_after (plain_setup setup) w s) (
      unless_malformed (unreadable (takes_any (announced_at (plain_setup setup) s)) fields) (wrong_side s (head_of_fields fields) ∷ of_list None (settings_known (plain_setup setup) w s) fields)))) step

  -- **A body.**
  pub body_event : (s : Side) (i : ℕ) (bytes : List ℕ) (v : World) (a : Answer) (next : Ends) → (a, next) ≡ done ends s answer.Done (sender.send_body (end_at ends s) i bytes)
      → Does (body_refusal w s i) w answer.Done (sent_body w s i bytes) a v → TunnelsStand setup v next
  body_event s i bytes v a next is step =
      subst (λ (x : Answer × Ends). TunnelsStand setup v x.1) (sym is)
      (call_cases (λ b u n. TunnelsStand setup u n) ends s answer.Done (sender.body_refusal (end_at ends s) i (length bytes)) (body_refusal w s i)
      (counted (sent_bytes (end_at ends s) i bytes) (length bytes)) w (sent_body w s i bytes) v not_done
      (subst (λ (x : Answer × Ends). Does (body_refusal w s i) w answer.Done (sent_body w s i bytes) x.0 v) is step)
      (λ r. t)
      (λ none goes_on. goes bytes (body_rules (end_at ends s) i (length bytes) none) (not_refused (is_open w s i) ((not (takes_body (outgoing_of (flow w s i))), refusal.OutOfOrder) ∷ []) goes_on)))
    where
      nothing : (s : Side) → TunnelsStand setup w (with_end ends s (counted (end_at ends s) 0))
      nothing Client = record { tunnels = λ id. t.tunnels id; announced = announced }
        where
          announced : (side : Side) → (end_at (with_end ends Client (counted ends.client 0)) side).announced ≡ announced_at setup side
          announced Client = t.announced Client
          announced Server = t.announced Server
      nothing Server = record { tunnels = λ id. t.tunnels id; announced = announced }
        where
          announced : (side : Side) → (end_at (with_end ends Server (counted ends.server 0)) side).announced ≡ announced_at setup side
          announced Client = t.announced Client
          announced Server = t.announced Server

      goes : (bytes : List ℕ) → TakesBody (end_at ends s) i (length bytes) → is_open w s i ≡ true → TunnelsStand setup (sent_body w s i bytes) (with_end ends s (counted (sent_bytes (end_at ends s) i bytes) (length bytes)))
      goes [] takes opened = nothing s
      goes (b ∷ bs) takes opened =
          let e = end_at ends s in
          let there = open_there w s i opened in
          let o = outgoing_at e i in
          let end = length (flow_bytes (flow w s i)) + length (frame_encoding 0 (b ∷ bs)) in
          behind_tunnels setup w ends s i (Body (b ∷ bs) end) (with_body o (b ∷ bs)) (counted (sent_bytes e i (b ∷ bs)) (length (b ∷ bs))) (sent_body w s i (b ∷ bs)) sees t there
          (flows_with w s i (Body (b ∷ bs) end) there) refl refl refl (refl, refl) (body_trails (flow w s i).sent o (b ∷ bs) end (body_is_behind o takes.takes))

  -- **A trailer.**
  trailer_goes : (s : Side) (i : ℕ) (told : Option Malformation) (trailer : Head) (fields : List Field) (wrule : Option Refusal) (v : World) (a : Answer) (next : Ends)
      → (a, next) ≡ done ends s answer.Done (does (trailer_judged (end_at ends s) i told trailer fields) (end_at ends s) (after_trailer (end_at ends s) i fields)) → (wrule ≡ None → is_open w s i ≡ true)
      → Does wrule w answer.Done (with_section Trailer w s i fields) a v → TunnelsStand setup v next
  trailer_goes s i told trailer fields wrule v a next is opens step =
      subst (λ (x : Answer × Ends). TunnelsStand setup v x.1) (sym is)
      (call_cases (λ b u n. TunnelsStand setup u n) ends s answer.Done (trailer_judged (end_at ends s) i told trailer fields) wrule (after_trailer (end_at ends s) i fields) w (with_section Trailer w s i fields) v not_done
      (subst (λ (x : Answer × Ends). Does wrule w answer.Done (with_section Trailer w s i fields) x.0 v) is step)
      (λ r. t)
      (λ none goes_on. goes (trailer_rules (end_at ends s) i told trailer fields none) (opens goes_on)))
    where
      goes : TakesTrailer (end_at ends s) i fields → is_open w s i ≡ true → TunnelsStand setup (with_section Trailer w s i fields) (with_end ends s (after_trailer (end_at ends s) i fields))
      goes takes opened =
          let there = open_there w s i opened in
          let o = outgoing_at (end_at ends s) i in
          let q = having_encoded (party w s) i fields in
          let part = Trailer (section_sent (party w s) i fields (flow w s i)) in
          behind_tunnels setup w ends s i part (record o { parts = o.parts ++ OwnTrailer (written_section (end_at ends s).encoder i fields) ∷ [] }) (after_trailer (end_at ends s) i fields) (with_section Trailer w s i fields) sees t there
          (flows_with_party w s q i part there) refl refl refl (refl, refl) (no_trailer_trails (flow w s i).sent o (body_is_behind o takes.takes) takes.early)

  pub trailer_event : (s : Side) (i : ℕ) (trailer : Head) (v : World) (a : Answer) (next : Ends) → (a, next) ≡ done ends s answer.Done (sender.send_trailer (end_at ends s) i trailer)
      → Does (trailer_refusal (plain_setup setup) w s i trailer) w answer.Done (sent_trailer w s i trailer) a v → TunnelsStand setup v next
  trailer_event s i trailer v a next is step =
      trailer_goes s i (broken_protocol (end_at ends s).announced trailer) trailer (head_fields trailer) (trailer_refusal (plain_setup setup) w s i trailer) v a next is
      (not_refused (is_open w s i) (
      (not (takes_body (outgoing_of (flow w s i))), refusal.OutOfOrder) ∷
      (has_pseudo trailer, refusal.PseudoInTrailer) ∷
      (is_too_large (settings_known (plain_setup setup) w s) (head_fields trailer), refusal.TooLarge (section_size (head_fields trailer))) ∷ [])) step

  pub trailer_fields_event : (s : Side) (i : ℕ) (fields : List Field) (v : World) (a : Answer) (next : Ends) → (a, next) ≡ done ends s answer.Done (send_trailer_fields (end_at ends s) i fields)
      → Does (trailer_fields_refusal (plain_setup setup) w s i fields) w answer.Done (sent_trailer_fields w s i fields) a v → TunnelsStand setup v next
  trailer_fields_event s i fields v a next is step =
      trailer_goes s i (unreadable (takes_any (end_at ends s).announced) fields) (head_of_fields fields) fields (trailer_fields_refusal (plain_setup setup) w s i fields) v a next is
      (not_refused (is_open w s i) (
      (not (takes_body (outgoing_of (flow w s i))), refusal.OutOfOrder) ∷
      unless_malformed (unreadable (takes_any (announced_at (plain_setup setup) s)) fields) (with_pseudo (head_of_fields fields) ∷ of_list None (settings_known (plain_setup setup) w s) fields))) step

  -- **The end.**
  pub finish_event : (s : Side) (i : ℕ) (v : World) (a : Answer) (next : Ends) → (a, next) ≡ done ends s answer.Done (sender.finish (end_at ends s) i)
      → Does (finish_refusal w s i) w answer.Done (finished w s i) a v → TunnelsStand setup v next
  finish_event s i v a next is step =
      subst (λ (x : Answer × Ends). TunnelsStand setup v x.1) (sym is)
      (call_cases (λ b u n. TunnelsStand setup u n) ends s answer.Done (sender.finish_refusal (end_at ends s) i) (finish_refusal w s i)
      (with_outgoing (end_at ends s) i (with_finish (outgoing_at (end_at ends s) i))) w (finished w s i) v not_done
      (subst (λ (x : Answer × Ends). Does (finish_refusal w s i) w answer.Done (finished w s i) x.0 v) is step)
      (λ r. t)
      (λ none goes_on. goes (not_refused (is_open w s i) ((not (takes_end (outgoing_of (flow w s i))), refusal.OutOfOrder) ∷ []) goes_on)))
    where
      goes : is_open w s i ≡ true → TunnelsStand setup (finished w s i) (with_end ends s (with_outgoing (end_at ends s) i (with_finish (outgoing_at (end_at ends s) i))))
      goes opened =
          let there = open_there w s i opened in
          let o = outgoing_at (end_at ends s) i in
          behind_tunnels setup w ends s i End (with_finish o) (with_outgoing (end_at ends s) i (with_finish o)) (finished w s i) sees t there (flows_with w s i End there) refl refl refl (refl, refl) (end_trails (flow w s i).sent o)
