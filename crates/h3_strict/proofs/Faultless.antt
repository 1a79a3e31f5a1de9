-- New ends in a schedule in which no event judges: no answer tells of a fault.
use Rattle.std.proofs.Common.{◌≡◌, ℕ, Bool, true, false, if◌then◌else◌, List, [], ◌∷◌, ◌++◌, refl, ap, sym, ◌∙◌, subst, Option, Some, None}
use Rattle.std.specs.Prelude.{◌||◌, ◌&&◌, ◌==◌, nat_lt, not, take}
use Rattle.std.specs.List.{AllByRecursion, list_any}
use Rattle.h3_proto.specs.declared.stream.Side.{Side}
use Rattle.h3_proto.specs.declared.stream.Side.TheVariants.{Client, Server}
use Rattle.h3_connection.specs.Delivering.{with_incoming}
use Rattle.h3_connection.specs.Endpoint.{EndpointHistory, Kind, bytes_waiting, kind_of, replied}
use Rattle.h3_connection.specs.Endpoint.Kind.{Request, ServerOpened, OwnUnidirectional, PeerUnidirectional}
use Rattle.h3_connection.specs.Incoming.{Incoming}
use Rattle.h3_connection.specs.Keeping.{arrives, pulls, pulls_behind, read_all, unkept}
use Rattle.h3_connection.specs.Pulling.{Pulled, is_client, pull_stream}
use Rattle.h3_connection.specs.OwnIds.{other}
use Rattle.h3_connection.specs.Sending as sender
use Rattle.h3_connection.specs.Sending.{after_answer, if_too_many, pulled, pull_request, pulled_unidirectional, pull_peer, pull_at, pull_unless}
use Rattle.h3_connection.specs.Shown.{has_outgoing, is_finished, is_reset, waiting}
use Rattle.h3_connection.specs.StreamSets.{stream_at}
use Rattle.h3_connection.specs.Unidirectional.{Unidirectional, Role, if_over, is_closed, may_be_session, pull_session, pull_unidirectional, raw, raw_or_reset, pull_other}
use Rattle.h3_connection.specs.Unidirectional.Role.{Untold, Control, Encoder, Decoder, Session, Push, Ignored, Other}
use Rattle.h3_coding.specs.Varint.{varint_at}
use Rattle.h3_connection.specs.declared.arrival.Arrival.TheVariants.{BytesCame, EndCame, ResetCame}
use Rattle.h3_connection.specs.declared.event.Fault.TheVariants as fault
use Rattle.h3_connection.specs.declared.event.Pull.{Pull}
use Rattle.h3_connection.specs.declared.event.Pull.TheVariants as pull
use Rattle.h3_connection.specs.declared.event.Refusal.{Refusal}
use Rattle.h3_connection.specs.declared.event.Refusal.TheVariants as refusal
use Rattle.h3_world.specs.Delivering.{reset_code}
use Rattle.h3_connection.specs.Coming.{fields_behind}
use Rattle.h3_world.specs.EndLists.{send_fields, send_trailer_fields}
use Rattle.h3_world.specs.Ends.{Ends, answered, answers_of_ends, done, end_at, ends_after, new_ends, was_listed, was_offered, was_pulled}
use Rattle.h3_world.specs.Headline.{is_connection_fault}
use Rattle.h3_world.specs.Sendable.{IsSendable}
use Rattle.h3_world.specs.Setup.{IsMadeSetup, Setup}
use Rattle.h3_world.specs.declared.event.Answer.{Answer}
use Rattle.h3_world.specs.declared.event.Answer.TheVariants as answer
use Rattle.h3_world.specs.declared.event.Event.{Event}
use Rattle.h3_world.specs.declared.event.Event.TheVariants as event
use Rattle.h3_strict.specs.PlainEnds.{NoneJudges, finds_fault, judges}
use Rattle.h3_strict.specs.Plainly.{exceeds, is_judged, judged_as, judged_at, judged_open, tells_malformed}
use Rattle.h3_strict.proofs.PlainHeadlines.{RunInWorlds, runs_in_a_world}
use Rattle.h3_strict.proofs.PlainLists.{faults_same, tells_same}
use Rattle.h3_strict.proofs.PlainRuns.{neither, none_more, runs_plainly}

-- whichever codes count
module _ (strict : Bool) where
  -- what does not pull finds none
  abbrev NoFault : Answer → Type 0
  NoFault a = is_connection_fault a ≡ false → finds_fault strict a ≡ false

  refused_finds : (r : Refusal) → NoFault (answer.Refused r)
  refused_finds (refusal.Connection code) h = absurd (cc)
  refused_finds r h = refl

  done_finds : (ends : Ends) (side : Side) (success : Answer) (x : Option Refusal × EndpointHistory) → finds_fault strict success ≡ false → NoFault (done ends side success x).0
  done_finds ends side success (None, e) h = λ whole. h
  done_finds ends side success (Some r, e) h = refused_finds r

  offered_finds : (ends : Ends) (writer : Side) (id count : ℕ) (x : Option Refusal × EndpointHistory) → NoFault (was_offered ends writer id count x).0
  offered_finds ends writer id count (None, e) = λ whole. refl
  offered_finds ends writer id count (Some r, e) = refused_finds r

  tested_finds : (ends : Ends) (b c : Bool) (instead : Answer) (x : Answer × Ends) → finds_fault strict instead ≡ false → NoFault x.0 → NoFault (if b then (answer.NoStream, ends) else (if c then (instead, ends) else x)).0
  tested_finds ends true c instead x h k = λ whole. refl
  tested_finds ends false true instead x h k = λ whole. h
  tested_finds ends false false instead x h k = k

  -- streams of the other kinds
  if_finds : (b : Bool) (x y : Pull × Unidirectional) → tells_malformed strict x.0 ≡ false → tells_malformed strict y.0 ≡ false → tells_malformed strict (if b then x else y).0 ≡ false
  if_finds true x y h k = h
  if_finds false x y h k = k

  either_finds : (b : Bool) (x y : Pull) → tells_malformed strict x ≡ false → tells_malformed strict y ≡ false → tells_malformed strict (if b then x else y) ≡ false
  either_finds true x y h k = h
  either_finds false x y h k = k

  raw_finds : (o : Unidirectional) (pieces : List (List ℕ)) → tells_malformed strict (raw o pieces).0 ≡ false
  raw_finds o [] = if_finds o.ended _ _ refl refl
  raw_finds o (piece ∷ pieces) = refl

  session_finds : (id : ℕ) (o : Unidirectional) (code : Option ℕ) → tells_malformed strict (pull_session id o code).0 ≡ false
  session_finds id o (Some code) = refl
  session_finds id o None = if_finds o.is_told _ _ (raw_finds o o.unread) refl

  over_finds : (b : Bool) (o : Unidirectional) (id : ℕ) → tells_malformed strict (if_over b o id).0 ≡ false
  over_finds true o id = refl
  over_finds false o id = session_finds id o o.reset_code

  left_finds : (o : Unidirectional) (code : Option ℕ) → tells_malformed strict (raw_or_reset o code).0 ≡ false
  left_finds o (Some code) = refl
  left_finds o None = raw_finds o o.unread

  other_finds : (b : Bool) (o : Unidirectional) → tells_malformed strict (pull_other b o).0 ≡ false
  other_finds true o = refl
  other_finds false o = left_finds o o.reset_code

  role_finds : (o : Unidirectional) (role : Role) → tells_malformed strict (pull_unidirectional o role).0 ≡ false
  role_finds o (Untold front) = either_finds (is_closed o) _ _ refl (either_finds (may_be_session (varint_at front)) _ _ refl refl)
  role_finds o (Session id) = over_finds o.is_over o id
  role_finds o Control = refl
  role_finds o Encoder = refl
  role_finds o Decoder = refl
  role_finds o (Push id) = refl
  role_finds o Ignored = refl
  role_finds o (Other kind) = other_finds o.is_over o

  told_finds : (e : EndpointHistory) (id : ℕ) (x : Pull × Unidirectional) → tells_malformed strict x.0 ≡ false → tells_malformed strict (pulled_unidirectional e id x).0 ≡ false
  told_finds e id (a, o) h = h

  peer_finds : (e : EndpointHistory) (id : ℕ) (o : Option Unidirectional) → tells_malformed strict (pull_peer e id o).0 ≡ false
  peer_finds e id None = refl
  peer_finds e id (Some o) = told_finds e id (pull_unidirectional o o.role) (role_finds o o.role)

  -- a request stream
  abbrev FindsNone : Pull × EndpointHistory → Type 0
  FindsNone x = is_connection_fault (answer.Pulled x.0) ≡ false → tells_malformed strict x.0 ≡ false

  answer_finds : (a : Pull) (e : EndpointHistory) → tells_malformed false a ≡ false → FindsNone (after_answer a e)
  answer_finds (pull.Fault (fault.Connection code)) e none h = absurd (cc)
  answer_finds (pull.Fault (fault.Stream f)) e none h = none
  answer_finds (pull.Fault fault.Memory) e none h = refl
  answer_finds (pull.Item i) e none h = refl
  answer_finds pull.Pending e none h = refl
  answer_finds (pull.Waiting n) e none h = refl
  answer_finds pull.NoMessages e none h = refl

  module _ (e : EndpointHistory) (id : ℕ) where
    given_finds : (b : Bool) (p : Pulled) → tells_malformed false p.answer ≡ false → FindsNone (pulled e id (if_too_many b p))
    given_finds true p none h = absurd (cc)
    given_finds false p none h = answer_finds p.answer (replied (with_incoming e id p.incoming) p.replies) none h

    request_finds : (o : Option Incoming) → judged_at e id o ≡ false → FindsNone (pull_request e id o)
    request_finds None none h = either_finds (is_client e.side) pull.NoMessages pull.Pending refl refl
    request_finds (Some i) none h = given_finds _ (pull_stream e.side e.announced id e.decoding.decoder i) none h

    kind_finds : (k : Kind) → judged_as e id k ≡ false → FindsNone (pull_at e id k)
    kind_finds Request none h = request_finds (stream_at e.incoming id) none h
    kind_finds ServerOpened none h = refl
    kind_finds OwnUnidirectional none h = refl
    kind_finds PeerUnidirectional none h = peer_finds e id (stream_at e.unidirectional id)

    same_judged : (k : Kind) → judged_as (unkept e) id k ≡ judged_as e id k
    same_judged Request = refl
    same_judged ServerOpened = refl
    same_judged OwnUnidirectional = refl
    same_judged PeerUnidirectional = refl

    open_finds : (closed : Option ℕ) → judged_open closed (unkept e) id ≡ false → FindsNone (pull_unless closed e (pull_at e id (kind_of e.side id)))
    open_finds (Some code) none h = absurd (cc)
    open_finds None none h = kind_finds (kind_of e.side id) (sym (same_judged (kind_of e.side id)) ∙ none) h

    -- where nothing is kept
    pulls_finds : e.kept ≡ [] → is_judged e id ≡ false → FindsNone (pulls e id)
    pulls_finds kept none =
        subst (λ k. FindsNone (pulls_behind k e id)) (sym kept) (open_finds e.closed (sym (ap (λ k. exceeds e (read_all k (unkept e)).1 || judged_open e.closed (read_all k (unkept e)).0 id) kept) ∙ none))

  was_pulled_finds : (ends : Ends) (side : Side) (x : Pull × EndpointHistory) → FindsNone x → is_connection_fault (was_pulled ends side x).0 ≡ false → finds_fault strict (was_pulled ends side x).0 ≡ false
  was_pulled_finds ends side (p, e) h fault = h fault

  was_listed_finds : (ends : Ends) (side : Side) (id : ℕ) (x : Pull × EndpointHistory) → FindsNone x → is_connection_fault (was_listed ends side id x).0 ≡ false → finds_fault strict (was_listed ends side id x).0 ≡ false
  was_listed_finds ends side id (p, e) h fault =
      let o = fields_behind (end_at ends side).kept (end_at ends side) id in
      tells_same strict o p ∙ h (sym (faults_same o p) ∙ fault)

  -- any event at ends that keep nothing
  module _ (ends : Ends) (kept : (side : Side) → (end_at ends side).kept ≡ []) where
    told_event : (b c : Bool) (reader : Side) (x : Option Refusal × EndpointHistory) → NoFault (if b then (answer.NoStream, ends) else (if c then (answer.Early, ends) else done ends reader answer.Done x)).0
    told_event b c reader x = tested_finds ends b c answer.Early (done ends reader answer.Done x) refl (done_finds ends reader answer.Done x refl)

    step_finds : (e : Event) → judges ends e ≡ false → is_connection_fault (answered ends e).0 ≡ false → finds_fault strict (answered ends e).0 ≡ false
    step_finds (event.OpenRequest side) none h = done_finds ends side (answer.Opened (end_at ends side).next_id) (sender.open_request (end_at ends side)) refl h
    step_finds (event.Head side id head) none h = done_finds ends side answer.Done (sender.send_head (end_at ends side) id head) refl h
    step_finds (event.Fields side id fields) none h = done_finds ends side answer.Done (send_fields (end_at ends side) id fields) refl h
    step_finds (event.Body side id bytes) none h = done_finds ends side answer.Done (sender.send_body (end_at ends side) id bytes) refl h
    step_finds (event.Trailer side id trailer) none h = done_finds ends side answer.Done (sender.send_trailer (end_at ends side) id trailer) refl h
    step_finds (event.TrailerFields side id fields) none h = done_finds ends side answer.Done (send_trailer_fields (end_at ends side) id fields) refl h
    step_finds (event.Finish side id) none h = done_finds ends side answer.Done (sender.finish (end_at ends side) id) refl h
    step_finds (event.Reset side id) none h = done_finds ends side answer.Done (sender.reset (end_at ends side) id) refl h
    step_finds (event.Cancel side id) none h = done_finds ends side answer.Done (sender.cancel (end_at ends side) id) refl h
    step_finds (event.Goaway side id) none h = done_finds ends side answer.Done (sender.goaway (end_at ends side) id) refl h
    step_finds (event.Deliver side id count) none h =
        let e = end_at ends side in
        let came = arrives (end_at ends (other side)) (BytesCame id (take count (bytes_waiting e id))) in
        tested_finds ends (not (has_outgoing e id)) (nat_lt (waiting e id) count) (answer.Short (waiting e id)) (was_offered ends side id count came) refl (offered_finds ends side id count came) h
    step_finds (event.DeliverEnd side id) none h =
        let e = end_at ends side in
        told_event (not (has_outgoing e id)) (not (is_finished e id && (waiting e id == 0))) (other side) (arrives (end_at ends (other side)) (EndCame id)) h
    step_finds (event.DeliverReset side id) none h =
        let e = end_at ends side in
        told_event (not (has_outgoing e id)) (not (is_reset e id)) (other side) (arrives (end_at ends (other side)) (ResetCame id reset_code)) h
    step_finds (event.Pull side id) none h = was_pulled_finds ends side (pulls (end_at ends side) id) (pulls_finds (end_at ends side) id (kept side) none) h
    step_finds (event.PullFields side id) none h = was_listed_finds ends side id (pulls (end_at ends side) id) (pulls_finds (end_at ends side) id (kept side) none) h
    step_finds (event.Show side) none h = refl

  -- over a schedule: ends that stand in a world keep nothing
  ends_more : (ends : Ends) (before : List Event) (e : Event) → ends_after ends (before ++ e ∷ []) ≡ (answered (ends_after ends before) e).1
  ends_more ends [] e = refl
  ends_more ends (first ∷ before) e = ends_more (answered ends first).1 before e

  all_more : (setup : Setup) (before : List Event) (e : Event) → AllByRecursion (IsSendable setup) before → IsSendable setup e → AllByRecursion (IsSendable setup) (before ++ e ∷ [])
  all_more setup [] e h last = (last, tt)
  all_more setup (first ∷ before) e h last = (h.0, all_more setup before e h.1 last)

  module _ (setup : Setup) (made : IsMadeSetup setup) (headline : RunInWorlds) where
    abbrev at : List Event → Ends
    at before = ends_after (new_ends setup) before

    kept_at : (before : List Event) → AllByRecursion (IsSendable setup) before → NoneJudges (new_ends setup) before → (side : Side) → (end_at (at before) side).kept ≡ []
    kept_at before sendable none Client = (runs_in_a_world setup before made sendable (runs_plainly (new_ends setup) before none) headline).2.at_client.nothing_kept
    kept_at before sendable none Server = (runs_in_a_world setup before made sendable (runs_plainly (new_ends setup) before none) headline).2.at_server.nothing_kept

    finds_from : (before events : List Event) → AllByRecursion (IsSendable setup) before → AllByRecursion (IsSendable setup) events → NoneJudges (new_ends setup) before → NoneJudges (at before) events
        → list_any is_connection_fault (answers_of_ends (at before) events) ≡ false → list_any (finds_fault strict) (answers_of_ends (at before) events) ≡ false
    finds_from before [] sent sends none nones whole = refl
    finds_from before (e ∷ events) sent sends none nones whole =
        let a : Answer = (answered (at before) e).0 in
        let after : Ends = (answered (at before) e).1 in
        let parts = neither (is_connection_fault a) (list_any is_connection_fault (answers_of_ends after events)) whole in
        let here = step_finds (at before) (kept_at before sent none) e nones.0 parts.0 in
        let leads : at (before ++ e ∷ []) ≡ after = ends_more (new_ends setup) before e in
        let rest = finds_from (before ++ e ∷ []) events (all_more setup before e sent sends.0) sends.1 (none_more (new_ends setup) before e none nones.0) (subst (λ x. NoneJudges x events) (sym leads) nones.1)
        (subst (λ x. list_any is_connection_fault (answers_of_ends x events) ≡ false) (sym leads) parts.1) in
        ap (λ b. b || list_any (finds_fault strict) (answers_of_ends after events)) here ∙ subst (λ x. list_any (finds_fault strict) (answers_of_ends x events) ≡ false) leads rest

    pub finds_none : (events : List Event) → AllByRecursion (IsSendable setup) events → NoneJudges (new_ends setup) events → list_any is_connection_fault (answers_of_ends (new_ends setup) events) ≡ false
        → list_any (finds_fault strict) (answers_of_ends (new_ends setup) events) ≡ false
    finds_none events sendable none whole = finds_from [] events tt sendable tt none whole
