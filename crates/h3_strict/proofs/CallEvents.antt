-- Each event at two strict ends, but for pulls, leaves that both count alike.
use Rattle.std.proofs.Common.{◌≡◌, ℕ, ◌+◌, Bool, true, false, List, [], ◌∷◌, ◌++◌, length, refl, sym, ap, ◌∙◌, subst, Option, Some, None, if◌then◌else◌}
use Rattle.std.specs.Prelude.{◌&&◌, not, unwrap_or, is_some}
use Rattle.h3_field.specs.Field.{Field, section_size}
use Rattle.h3_header.specs.Head.{Head, head_fields, has_pseudo, trailer_head}
use Rattle.h3_header.specs.Reads.{AcceptsAll, head_of_fields}
use Rattle.h3_messages.specs.OwnMessages.{IsSentOf}
use Rattle.h3_messages.specs.OwnMessageLaws.{sent_ends, sent_fits, sent_trails}
use Rattle.h3_proto.specs.declared.stream.Side.{Side}
use Rattle.h3_proto.specs.declared.stream.Side.TheVariants.{Client, Server}
use Rattle.h3_frames.specs.Encoded.{frame_encoding}
use Rattle.h3_connection.specs.Delivering.{incoming_at}
use Rattle.h3_connection.specs.Endpoint.{EndpointHistory}
use Rattle.h3_connection.specs.Incoming.{Incoming, nothing_came}
use Rattle.h3_connection.specs.Outgoing.{Outgoing, nothing_sent, takes_body, takes_end, takes_head, with_body, with_finish}
use Rattle.h3_connection.specs.Outgoing.OwnPart.{OwnTrailer}
use Rattle.h3_connection.specs.OwnIds.{other}
use Rattle.h3_connection.specs.Pulling.{is_for, is_interim}
use Rattle.h3_connection.specs.Sections.{written_section}
use Rattle.h3_connection.specs.Sending as sender
use Rattle.h3_connection.specs.Refusals.{first_of, is_too_large, of_list, unless_going, with_pseudo, wrong_side}
use Rattle.h3_connection.specs.Sending.{appended as part_appended, counted, does, encoded, fields_cost, outgoing_at, sent_bytes, with_outgoing}
use Rattle.h3_connection.specs.StreamSets.{Streams, set_stream, stream_at}
use Rattle.h3_connection.specs.StrictSending.{broken_protocol, unless_malformed}
use Rattle.h3_connection.specs.StrictSendingLaws.{trailer_taken}
use Rattle.h3_connection.specs.declared.event.Malformation.{Malformation}
use Rattle.h3_connection.specs.declared.event.Refusal.{Refusal}
use Rattle.h3_connection.specs.declared.event.Refusal.TheVariants as refusal
use Rattle.h3_connection.specs.declared.setup.Announced.{Announced}
use Rattle.h3_world.specs.Came.{settings_known}
use Rattle.h3_world.specs.EndLists.{send_fields, send_trailer_fields}
use Rattle.h3_world.specs.Lists.{unreadable}
use Rattle.h3_world.specs.Ends.{Ends, done, end_at, with_end}
use Rattle.h3_world.specs.Flow.{Part, flow_bytes}
use Rattle.h3_world.specs.Flow.Part.{Body, End, Head as HeadPart, Interim, Trailer}
use Rattle.h3_world.specs.Order.{outgoing_of}
use Rattle.h3_world.specs.Refusals.{body_refusal, fields_refusal, finish_refusal, head_refusal, none_after, trailer_fields_refusal, trailer_refusal}
use Rattle.h3_world.specs.Sending.{appended, finished, having_encoded, section_sent, sent_body, sent_fields, sent_head, with_section, sent_trailer, sent_trailer_fields}
use Rattle.h3_world.specs.Setup.{Setup, announced_at, takes_any}
use Rattle.h3_world.specs.Step.{Does}
use Rattle.h3_world.specs.Streams.{flow, is_open}
use Rattle.h3_world.specs.World.{World, party}
use Rattle.h3_world.specs.declared.event.Answer.{Answer}
use Rattle.h3_world.specs.declared.event.Answer.TheVariants as answer
use Rattle.h3_headline.specs.ComingLaws.{sound_flow}
use Rattle.h3_headline.specs.FlowLaws.{open_there}
use Rattle.h3_headline.specs.Messages.{is_on}
use Rattle.h3_headline.specs.Standing.{Stands}
use Rattle.h3_headline.specs.Steps.{IsThere}
use Rattle.h3_strict.proofs.KeepsCounts.{SameCounts, head_keeps, out_set, same_counts}
use Rattle.h3_strict.proofs.SendEvents.{flows_with, flows_with_party, interim_tally, part_tally, request_tally, response_tally, sends_part}
use Rattle.h3_strict.proofs.SentLaws.{TakesBody, TakesEnd, TakesHead, TakesTrailer, body_is_behind, body_rules, finish_rules, head_rules, head_told, is_head_part, trailer_is_late, trailer_rules, trailer_told, head_judged, trailer_judged}
use Rattle.h3_strict.proofs.SentTallies.{after_head, side_of}
use Rattle.h3_strict.specs.PlainEnds.{plain_ends, plain_setup}
use Rattle.h3_strict.specs.Tallies.{Tallies, TalliesFlow, awaited_of}
use Rattle.h3_strict.specs.Unbroken.{IsUnbroken, content_along, content_behind_part}

-- what an endpoint is after a trailer
abbrev after_trailer : EndpointHistory → ℕ → List Field → EndpointHistory
after_trailer e i fields = counted (part_appended (encoded e i fields) i (OwnTrailer (written_section e.encoder i fields))) (fields_cost fields)

-- A call of one end, by its own refusal and the world's: refused, with nothing changed; or done in both.
same_end : (ends : Ends) (s : Side) → with_end ends s (end_at ends s) ≡ ends
same_end ends Client = refl
same_end ends Server = refl

pub call_cases : (P : Answer → World → Ends → Type 0) (ends : Ends) (s : Side) (success : Answer) (rule wrule : Option Refusal) (new : EndpointHistory) (w goal v : World) → ((r : Refusal) → answer.Refused r ≡ success → ⊥)
    → Does wrule w success goal (done ends s success (does rule (end_at ends s) new)).0 v → ((r : Refusal) → P (answer.Refused r) w ends) → (rule ≡ None → wrule ≡ None → P success goal (with_end ends s new))
    → P (done ends s success (does rule (end_at ends s) new)).0 v (done ends s success (does rule (end_at ends s) new)).1
call_cases P ends s success (Some r) (Some q) new w goal v apart step refused goes = subst (λ x. P (answer.Refused r) x (with_end ends s (end_at ends s))) (sym step.1) (subst (P (answer.Refused r) w) (sym (same_end ends s)) (refused r))
call_cases P ends s success (Some r) None new w goal v apart step refused goes = absurd (apart r step.0)
call_cases P ends s success None (Some q) new w goal v apart step refused goes = absurd (apart q (sym step.0))
call_cases P ends s success None None new w goal v apart step refused goes = subst (λ x. P success x (with_end ends s new)) (sym step.1) (goes refl refl)

pub not_refused : (there : Bool) (rules : List (Bool × Refusal)) → first_of ((not there, refusal.NotOpen) ∷ rules) ≡ None → there ≡ true
not_refused true rules e = refl
not_refused false rules e = absurd (cc)

not_done : (r : Refusal) → answer.Refused r ≡ answer.Done → ⊥
not_done r e = cc

-- a head with no status is no interim one
only_server : (s : Side) (head : Head) → is_for (other s) head ≡ true → is_interim head.status ≡ true → s ≡ Server
only_server Server head fits interim = refl
only_server Client head fits interim = absurd (by_status head.status fits interim)
  where
    second : (a b : Bool) → (a && b) ≡ true → b ≡ true
    second true b e = e
    second false b e = absurd (cc)

    by_status : (o : Option ℕ) → (is_some head.method && not (is_some o)) ≡ true → is_interim o ≡ true → ⊥
    by_status None a b = absurd (cc)
    by_status (Some n) a b = let k : false ≡ true = second (is_some head.method) false a in absurd (cc)

module _ (setup : Setup) (w : World) (ends : Ends) (known : ℕ → Bool) (h : Stands (plain_setup setup) w (plain_ends ends)) (t : Tallies setup w ends known)
    (strict : (side : Side) → (announced_at setup side).choices.strict_messages ≡ true) where
  strict_at : (s : Side) → (end_at ends s).announced.choices.strict_messages ≡ true
  strict_at s = ap (λ (a : Announced). a.choices.strict_messages) (t.announced s) ∙ strict s

  -- **A head, or a list.**
  head_goes : (s : Side) (i : ℕ) (told : Option Malformation) (head : Head) (fields : List Field) (wrule : Option Refusal) (v : World) (a : Answer) (next : Ends)
      → (a, next) ≡ done ends s answer.Done (does (head_judged (end_at ends s) i told head fields) (end_at ends s) (after_head (end_at ends s) i head fields (strict_at s))) → (wrule ≡ None → is_open w s i ≡ true)
      → (told ≡ None → AcceptsAll (takes_any (announced_at setup (other s))) (trailer_head []) fields)
      → Does wrule w answer.Done (with_section (if is_interim head.status then Interim else HeadPart) w s i fields) a v → (s ≡ Server → a ≡ answer.Done → is_interim head.status ≡ false → known i ≡ true) → Tallies setup v next known
  head_goes s i told head fields wrule v a next is opens reads step knows =
      subst (λ (x : Answer × Ends). Tallies setup v x.1 known) (sym is)
      (call_cases (λ b u n. (s ≡ Server → b ≡ answer.Done → is_interim head.status ≡ false → known i ≡ true) → Tallies setup u n known) ends s answer.Done (head_judged (end_at ends s) i told head fields) wrule
      (after_head (end_at ends s) i head fields (strict_at s)) w (with_section (if is_interim head.status then Interim else HeadPart) w s i fields) v not_done
      (subst (λ (x : Answer × Ends). Does wrule w answer.Done (with_section (if is_interim head.status then Interim else HeadPart) w s i fields) x.0 v) is step)
      (λ r k. t)
      (λ none goes_on k. goes s (head_rules (end_at ends s) i told head fields none) (reads (head_told (end_at ends s) i told head fields none)) (opens goes_on) (λ e. k e refl))
      (λ e f final. knows e (ap (λ (x : Answer × Ends). x.0) is ∙ f) final))
    where
      by_interim : (s : Side) (b : Bool) → is_interim head.status ≡ b → TakesHead (end_at ends s) i head fields → AcceptsAll (takes_any (announced_at setup (other s))) (trailer_head []) fields → is_open w s i ≡ true → (s ≡ Server → is_interim head.status ≡ false → known i ≡ true)
          → Tallies setup (with_section (if b then Interim else HeadPart) w s i fields) (with_end ends s (after_head (end_at ends s) i head fields (strict_at s))) known
      by_interim s true e takes reads opened knows = interim_tally setup w ends known i head fields h t strict s (only_server s head (subst (λ d. is_for (other d) head ≡ true) (side_of setup w ends s h) takes.fits) e) opened takes reads e
      by_interim Server false e takes reads opened knows = response_tally setup w ends known i head fields h t strict opened takes reads e (knows refl e)
      by_interim Client false e takes reads opened knows = request_tally setup w ends known i head fields h t strict opened takes reads

      goes : (s : Side) → TakesHead (end_at ends s) i head fields → AcceptsAll (takes_any (announced_at setup (other s))) (trailer_head []) fields → is_open w s i ≡ true → (s ≡ Server → is_interim head.status ≡ false → known i ≡ true)
          → Tallies setup (with_section (if is_interim head.status then Interim else HeadPart) w s i fields) (with_end ends s (after_head (end_at ends s) i head fields (strict_at s))) known
      goes s takes reads opened knows = by_interim s (is_interim head.status) refl takes reads opened knows

  pub head_event : (s : Side) (i : ℕ) (head : Head) → AcceptsAll (takes_any (announced_at setup (other s))) (trailer_head []) (head_fields head) → (v : World) (a : Answer) (next : Ends) → (a, next) ≡ done ends s answer.Done (sender.send_head (end_at ends s) i head)
      → Does (head_refusal (plain_setup setup) w s i head) w answer.Done (sent_head w s i head) a v → (s ≡ Server → a ≡ answer.Done → is_interim head.status ≡ false → known i ≡ true) → Tallies setup v next known
  head_event s i head reads v a next is step knows =
      head_goes s i (broken_protocol (end_at ends s).announced head) head (head_fields head) (head_refusal (plain_setup setup) w s i head) v a next is
      (not_refused (is_open w s i) (
      (not (takes_head (outgoing_of (flow w s i))), refusal.OutOfOrder) ∷
      unless_going (none_after (plain_setup setup) w s) (
      (not (is_for (other s) head), refusal.WrongSide) ∷
      (is_too_large (settings_known (plain_setup setup) w s) (head_fields head), refusal.TooLarge (section_size (head_fields head))) ∷ []))) (λ none. reads) step knows

  pub fields_event : (s : Side) (i : ℕ) (fields : List Field) → (unreadable (takes_any (end_at ends s).announced) fields ≡ None → AcceptsAll (takes_any (announced_at setup (other s))) (trailer_head []) fields) → (v : World) (a : Answer) (next : Ends) → (a, next) ≡ done ends s answer.Done (send_fields (end_at ends s) i fields)
      → Does (fields_refusal (plain_setup setup) w s i fields) w answer.Done (sent_fields w s i fields) a v → (s ≡ Server → a ≡ answer.Done → is_interim (head_of_fields fields).status ≡ false → known i ≡ true) → Tallies setup v next known
  fields_event s i fields reads v a next is step knows =
      head_goes s i (unreadable (takes_any (end_at ends s).announced) fields) (head_of_fields fields) fields (fields_refusal (plain_setup setup) w s i fields) v a next is
      (not_refused (is_open w s i) (
      (not (takes_head (outgoing_of (flow w s i))), refusal.OutOfOrder) ∷
      unless_going (none_after (plain_setup setup) w s) (
      unless_malformed (unreadable (takes_any (announced_at (plain_setup setup) s)) fields) (wrong_side s (head_of_fields fields) ∷ of_list None (settings_known (plain_setup setup) w s) fields)))) reads step knows

  -- A part behind the head.
  behind_head : (s : Side) (i : ℕ) (part : Part) (p : Outgoing) (e : EndpointHistory) (v : World) → IsThere w i → ((writer : Side) (id : ℕ) → flow v writer id ≡ (if is_on writer id s i then appended (flow w s i) part else flow w writer id))
      → e.outgoing ≡ set_stream (end_at ends s).outgoing i p → e.incoming ≡ (end_at ends s).incoming → e.announced ≡ (end_at ends s).announced → is_head_part part ≡ false
      → (let said = content_along (other s) (awaited_of s (flow w Client i).sent) (flow w s i).sent in
      IsUnbroken (other s) (announced_at setup (other s)) said part × (takes_end p ≡ true → IsSentOf p.content (content_behind_part (other s) said part)))
      → Tallies setup v (with_end ends s e) known
  behind_head s i part p e v there flows out in_same announced none fine =
      part_tally setup w v ends known s i part p e
      (sends_part w v ends s i part p e flows (λ id. ap (λ (l : Streams Outgoing). unwrap_or (stream_at l id) nothing_sent) out ∙ out_set (end_at ends s).outgoing i p id)
      (λ id. head_keeps s (incoming_at (end_at ends s) id) (incoming_at e id)
      (subst (λ (l : Streams Incoming). SameCounts (incoming_at (end_at ends s) id) (unwrap_or (stream_at l id) nothing_came)) (sym in_same) (same_counts (incoming_at (end_at ends s) id)))) announced)
      (sound_flow (plain_setup setup) w s i h.sound there).out none fine.0 fine.1 t

  -- **A body.**
  pub body_event : (s : Side) (i : ℕ) (bytes : List ℕ) (v : World) (a : Answer) (next : Ends) → (a, next) ≡ done ends s answer.Done (sender.send_body (end_at ends s) i bytes)
      → Does (body_refusal w s i) w answer.Done (sent_body w s i bytes) a v → Tallies setup v next known
  body_event s i bytes v a next is step =
      subst (λ (x : Answer × Ends). Tallies setup v x.1 known) (sym is)
      (call_cases (λ b u n. Tallies setup u n known) ends s answer.Done (sender.body_refusal (end_at ends s) i (length bytes)) (body_refusal w s i)
      (counted (sent_bytes (end_at ends s) i bytes) (length bytes)) w (sent_body w s i bytes) v not_done
      (subst (λ (x : Answer × Ends). Does (body_refusal w s i) w answer.Done (sent_body w s i bytes) x.0 v) is step)
      (λ r. t)
      (λ none goes_on. goes bytes (body_rules (end_at ends s) i (length bytes) none) (not_refused (is_open w s i) ((not (takes_body (outgoing_of (flow w s i))), refusal.OutOfOrder) ∷ []) goes_on)))
    where
      goes : (bytes : List ℕ) → TakesBody (end_at ends s) i (length bytes) → is_open w s i ≡ true → Tallies setup (sent_body w s i bytes) (with_end ends s (counted (sent_bytes (end_at ends s) i bytes) (length bytes))) known
      goes [] takes opened = nothing s
        where
          nothing : (s : Side) → Tallies setup w (with_end ends s (counted (end_at ends s) 0)) known
          nothing Client = record { flows = λ writer id. at writer id; announced = announced; asked = t.asked; knows = t.knows }
            where
              announced : (side : Side) → (end_at (with_end ends Client (counted ends.client 0)) side).announced ≡ announced_at setup side
              announced Client = t.announced Client
              announced Server = t.announced Server

              at : (writer : Side) (id : ℕ) → TalliesFlow (other writer) (announced_at setup (other writer)) (awaited_of writer (flow w Client id).sent) (flow w writer id)
                  (outgoing_at (end_at (with_end ends Client (counted ends.client 0)) writer) id) (incoming_at (end_at (with_end ends Client (counted ends.client 0)) (other writer)) id)
              at Client id = t.flows Client id
              at Server id = t.flows Server id
          nothing Server = record { flows = λ writer id. at writer id; announced = announced; asked = t.asked; knows = t.knows }
            where
              announced : (side : Side) → (end_at (with_end ends Server (counted ends.server 0)) side).announced ≡ announced_at setup side
              announced Client = t.announced Client
              announced Server = t.announced Server

              at : (writer : Side) (id : ℕ) → TalliesFlow (other writer) (announced_at setup (other writer)) (awaited_of writer (flow w Client id).sent) (flow w writer id)
                  (outgoing_at (end_at (with_end ends Server (counted ends.server 0)) writer) id) (incoming_at (end_at (with_end ends Server (counted ends.server 0)) (other writer)) id)
              at Client id = t.flows Client id
              at Server id = t.flows Server id
      goes (b ∷ bs) takes opened =
          let e = end_at ends s in
          let there = open_there w s i opened in
          let o = outgoing_at e i in
          let fits = sent_fits o.content (content_along (other s) (awaited_of s (flow w Client i).sent) (flow w s i).sent) (length (b ∷ bs)) ((t.flows s i).sends (body_is_behind o takes.takes)) takes.fits in
          behind_head s i (Body (b ∷ bs) (length (flow_bytes (flow w s i)) + length (frame_encoding 0 (b ∷ bs)))) (with_body o (b ∷ bs)) (counted (sent_bytes e i (b ∷ bs)) (length (b ∷ bs))) (sent_body w s i (b ∷ bs)) there
          (flows_with w s i (Body (b ∷ bs) (length (flow_bytes (flow w s i)) + length (frame_encoding 0 (b ∷ bs)))) there) refl refl refl refl
          (fits.0, λ ends_now. fits.1)

  -- **A trailer.**
  trailer_goes : (s : Side) (i : ℕ) (told : Option Malformation) (trailer : Head) (fields : List Field) (wrule : Option Refusal) (v : World) (a : Answer) (next : Ends)
      → (a, next) ≡ done ends s answer.Done (does (trailer_judged (end_at ends s) i told trailer fields) (end_at ends s) (after_trailer (end_at ends s) i fields)) → (wrule ≡ None → is_open w s i ≡ true)
      → (told ≡ None → AcceptsAll (takes_any (announced_at setup (other s))) (trailer_head []) fields) → Does wrule w answer.Done (with_section Trailer w s i fields) a v → Tallies setup v next known
  trailer_goes s i told trailer fields wrule v a next is opens reads step =
      subst (λ (x : Answer × Ends). Tallies setup v x.1 known) (sym is)
      (call_cases (λ b u n. Tallies setup u n known) ends s answer.Done (trailer_judged (end_at ends s) i told trailer fields) wrule (after_trailer (end_at ends s) i fields) w (with_section Trailer w s i fields) v not_done
      (subst (λ (x : Answer × Ends). Does wrule w answer.Done (with_section Trailer w s i fields) x.0 v) is step)
      (λ r. t)
      (λ none goes_on. goes (trailer_rules (end_at ends s) i told trailer fields none) (reads (trailer_told (end_at ends s) i told trailer fields none)) (opens goes_on)))
    where
      goes : TakesTrailer (end_at ends s) i fields → AcceptsAll (takes_any (announced_at setup (other s))) (trailer_head []) fields → is_open w s i ≡ true → Tallies setup (with_section Trailer w s i fields) (with_end ends s (after_trailer (end_at ends s) i fields)) known
      goes takes accepts opened =
          let there = open_there w s i opened in
          let o = outgoing_at (end_at ends s) i in
          let said = content_along (other s) (awaited_of s (flow w Client i).sent) (flow w s i).sent in
          let sends = (t.flows s i).sends (body_is_behind o takes.takes) in
          let late = trailer_is_late o.content takes.early in
          let q = having_encoded (party w s) i fields in
          let part = Trailer (section_sent (party w s) i fields (flow w s i)) in
          behind_head s i part (record o { parts = o.parts ++ OwnTrailer (written_section (end_at ends s).encoder i fields) ∷ [] }) (after_trailer (end_at ends s) i fields) (with_section Trailer w s i fields) there (flows_with_party w s q i part there) refl refl refl refl (
            (
              trailer_taken (other s) (end_at ends s).announced (announced_at setup (other s)) fields (strict_at s) takes.rule,
              sym (sent_trails o.content said sends) ∙ late.0,
              sym (sent_ends o.content said sends) ∙ late.1,
              accepts,
            ),
            λ ends_now. sends,
          )

  pub trailer_event : (s : Side) (i : ℕ) (trailer : Head) → AcceptsAll (takes_any (announced_at setup (other s))) (trailer_head []) (head_fields trailer) → (v : World) (a : Answer) (next : Ends) → (a, next) ≡ done ends s answer.Done (sender.send_trailer (end_at ends s) i trailer)
      → Does (trailer_refusal (plain_setup setup) w s i trailer) w answer.Done (sent_trailer w s i trailer) a v → Tallies setup v next known
  trailer_event s i trailer reads v a next is step =
      trailer_goes s i (broken_protocol (end_at ends s).announced trailer) trailer (head_fields trailer) (trailer_refusal (plain_setup setup) w s i trailer) v a next is
      (not_refused (is_open w s i) (
      (not (takes_body (outgoing_of (flow w s i))), refusal.OutOfOrder) ∷
      (has_pseudo trailer, refusal.PseudoInTrailer) ∷
      (is_too_large (settings_known (plain_setup setup) w s) (head_fields trailer), refusal.TooLarge (section_size (head_fields trailer))) ∷ [])) (λ none. reads) step

  pub trailer_fields_event : (s : Side) (i : ℕ) (fields : List Field) → (unreadable (takes_any (end_at ends s).announced) fields ≡ None → AcceptsAll (takes_any (announced_at setup (other s))) (trailer_head []) fields) → (v : World) (a : Answer) (next : Ends) → (a, next) ≡ done ends s answer.Done (send_trailer_fields (end_at ends s) i fields)
      → Does (trailer_fields_refusal (plain_setup setup) w s i fields) w answer.Done (sent_trailer_fields w s i fields) a v → Tallies setup v next known
  trailer_fields_event s i fields reads v a next is step =
      trailer_goes s i (unreadable (takes_any (end_at ends s).announced) fields) (head_of_fields fields) fields (trailer_fields_refusal (plain_setup setup) w s i fields) v a next is
      (not_refused (is_open w s i) (
      (not (takes_body (outgoing_of (flow w s i))), refusal.OutOfOrder) ∷
      unless_malformed (unreadable (takes_any (announced_at (plain_setup setup) s)) fields) (with_pseudo (head_of_fields fields) ∷ of_list None (settings_known (plain_setup setup) w s) fields))) reads step

  -- **The end.**
  pub finish_event : (s : Side) (i : ℕ) (v : World) (a : Answer) (next : Ends) → (a, next) ≡ done ends s answer.Done (sender.finish (end_at ends s) i)
      → Does (finish_refusal w s i) w answer.Done (finished w s i) a v → Tallies setup v next known
  finish_event s i v a next is step =
      subst (λ (x : Answer × Ends). Tallies setup v x.1 known) (sym is)
      (call_cases (λ b u n. Tallies setup u n known) ends s answer.Done (sender.finish_refusal (end_at ends s) i) (finish_refusal w s i)
      (with_outgoing (end_at ends s) i (with_finish (outgoing_at (end_at ends s) i))) w (finished w s i) v not_done
      (subst (λ (x : Answer × Ends). Does (finish_refusal w s i) w answer.Done (finished w s i) x.0 v) is step)
      (λ r. t)
      (λ none goes_on. goes (finish_rules (end_at ends s) i none) (not_refused (is_open w s i) ((not (takes_end (outgoing_of (flow w s i))), refusal.OutOfOrder) ∷ []) goes_on)))
    where
      goes : TakesEnd (end_at ends s) i → is_open w s i ≡ true → Tallies setup (finished w s i) (with_end ends s (with_outgoing (end_at ends s) i (with_finish (outgoing_at (end_at ends s) i)))) known
      goes takes opened =
          let there = open_there w s i opened in
          let o = outgoing_at (end_at ends s) i in
          let sends = (t.flows s i).sends takes.takes in
          behind_head s i End (with_finish o) (with_outgoing (end_at ends s) i (with_finish o)) (finished w s i) there (flows_with w s i End there) refl refl refl refl
          (sym (sent_ends o.content (content_along (other s) (awaited_of s (flow w Client i).sent) (flow w s i).sent) sends) ∙ takes.ends, λ ends_now. absurd (cc))
