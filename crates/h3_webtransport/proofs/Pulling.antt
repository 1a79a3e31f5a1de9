-- The first pull of a stream that may turn out to be of a session, and what is read beside the endpoint.
use Rattle.std.proofs.Common.{arith, ◌≡◌, ◌≢◌, ◌⊎◌, inl, inr, ◌%◌, ℕ, Bool, true, false, ◌&&◌, ◌||◌, not, List, [], ◌∷◌, Option, Some, None, refl, sym, ap, subst, ◌∙◌, is_some, unwrap_or, if◌then◌else◌}
use Rattle.std.specs.Prelude.{Result, is_ok}
use Rattle.std.proofs.lemmas.Bool.{cases_eq, eqb-true}
use Rattle.h3_field.specs.Field.{Field}
use Rattle.h3_proto.specs.StreamIds.{is_request_stream}
use Rattle.h3_proto.specs.declared.stream.Side.{Side}
use Rattle.h3_proto.specs.declared.stream.Side.TheVariants.{Client, Server}
use Rattle.h3_connection.specs.Answers.{call_refused}
use Rattle.h3_connection.specs.Calls.{AllSame, Sets}
use Rattle.h3_connection.specs.Codes.{id_error}
use Rattle.h3_connection.specs.Coming.{fields_behind}
use Rattle.h3_connection.specs.EndsWaiting.{TakesEnd}
use Rattle.h3_connection.specs.ReceivingContracts.{PullsNext}
use Rattle.h3_connection.specs.SendingContracts.{Resets}
use Rattle.h3_connection.specs.State.{EndpointState, kept_at}
use Rattle.h3_connection.specs.StreamSets.{Streams}
use Rattle.h3_connection.specs.declared.event.Fault.TheVariants.{Connection as Closing}
use Rattle.h3_connection.specs.declared.event.Pull.{Pull}
use Rattle.h3_connection.specs.declared.event.Pull.TheVariants as pull
use Rattle.h3_connection.specs.declared.event.Refusal.{Refusal}
use Rattle.h3_connection.specs.declared.event.Refusal.TheVariants.{NotOpen}
use Rattle.h3_incoming.specs.Answering.{Lists, has_header}
use Rattle.h3_session.specs.Listing.{ListsNext}
use Rattle.h3_webtransport_streams.specs.Receiver.{Receiver, pulled, raw, told_or_raw, unless_reset}
use Rattle.h3_webtransport_streams.specs.Sender.{cut_off, finished}
use Rattle.h3_webtransport_streams.specs.SessionStream.{SessionStream, Acts, ActsOn, Changes, ChangesOn, entered, on_receiver, receiver_of, sending}
use Rattle.h3_webtransport_streams.specs.Sessions.{SessionsState}
use Rattle.h3_webtransport.specs.Closing.{Forgets}
use Rattle.h3_webtransport.specs.Joint.{Joint, is_begun_by_peer, is_read, is_server_opened, may_begin, stored_at}
use Rattle.h3_webtransport.specs.Parts.{ActsHere, StreamsAlone}
use Rattle.h3_webtransport.specs.Receiving.{Begins, BeginsAt, BeginsIf, Enters, ListsAgain, PullsFirst, PullsOn, PullsRaw, PullsThere, TakesWaiting, joined, pulls_raw, session_of}
use Rattle.h3_webtransport.specs.Receiving.PullsFirst.{pulls}

-- no stream of a session has such an id yet
is_none_of : (o : Option SessionStream) (on begun : Bool) → (on && not (is_some o) && begun) ≡ true → o ≡ None
is_none_of None on begun h = refl
is_none_of (Some x) true begun h = absurd (cc)
is_none_of (Some x) false begun h = absurd (cc)

is_free : (s : Joint) (id : ℕ) → may_begin s id ≡ true → stored_at s id ≡ None
is_free s id h = is_none_of (stored_at s id) s.is_on (is_begun_by_peer s.side id) h

-- and it is not read here
kinds_differ : (side : Side) (id : ℕ) → is_begun_by_peer side id ≡ true → is_server_opened side id ≡ true → false ≡ true
kinds_differ Client id begun opened = absurd (omega (arith, eqb-true (id % 4) 3 begun, eqb-true (id % 4) 1 opened))
kinds_differ Server id begun opened = opened

not_both : (o : Option SessionStream) (side : Side) (id : ℕ) (on : Bool) → (on && not (is_some o) && is_begun_by_peer side id) ≡ true
    → (on && (is_some (receiver_of o) || (is_server_opened side id && not (is_some o)))) ≡ true → false ≡ true
not_both o side id false begins read = read
not_both (Some x) side id true begins read = begins
not_both None side id true begins read = kinds_differ side id begins (let it : (is_server_opened side id && true) ≡ true = read in both_true (is_server_opened side id) it)
  where
    both_true : (b : Bool) → (b && true) ≡ true → b ≡ true
    both_true true h = refl
    both_true false h = h

not_read : (s : Joint) (id : ℕ) → may_begin s id ≡ true → is_read s id ≡ true → false ≡ true
not_read s id begins read = not_both (stored_at s id) s.side id s.is_on begins read

-- what is set is set again, or taken away
module _ (a b c : Streams SessionStream) (id : ℕ) (x : SessionStream) where
  sets_again : (y : SessionStream) → Sets a b id x → Sets b c id y → Sets a c id y
  sets_again y first next = record { here = next.here; others = λ q differs. next.others q differs ∙ first.others q differs }

  gone_at : (q : ℕ) → kept_at a id ≡ None → Sets a b id x → kept_at c id ≡ None → ((q : ℕ) → q ≢ id → kept_at c q ≡ kept_at b q) → q ≡ id ⊎ q ≢ id → kept_at c q ≡ kept_at a q
  gone_at q free first gone others (inl same) = subst (λ n. kept_at c n ≡ kept_at a n) (sym same) (gone ∙ sym free)
  gone_at q free first gone others (inr differs) = others q differs ∙ first.others q differs

  gone_again : kept_at a id ≡ None → Sets a b id x → kept_at c id ≡ None → ((q : ℕ) → q ≢ id → kept_at c q ≡ kept_at b q) → AllSame a c
  gone_again free first gone others = record { each = λ q. gone_at q free first gone others (cases_eq q id) }

alone_again : (s m t : Joint) → StreamsAlone s m → StreamsAlone m t → StreamsAlone s t
alone_again s m t first next = next ∙ ap (λ (x : Joint). record x { sessions = record x.sessions { streams = t.sessions.streams } }) first

pub twice_alone : (s : Joint) (v w : SessionsState) → v ≡ record s.sessions { streams = v.streams } → w ≡ record v { streams = w.streams }
    → record s { sessions = w } ≡ record s { sessions = record s.sessions { streams = w.streams } }
twice_alone s v w first next = ap (λ (x : SessionsState). record s { sessions = x }) (next ∙ ap (λ (x : SessionsState). record x { streams = w.streams }) first)

pub then_alone : (s t : Joint) (v : SessionsState) → v ≡ record s.sessions { streams = v.streams } → StreamsAlone (record s { sessions = v }) t → StreamsAlone s t
then_alone s t v first next = alone_again s (record s { sessions = v }) t (ap (λ (x : SessionsState). record s { sessions = x }) first) next

-- what is sent on a stream that was entered: nothing,
pub sends_none : (e : EndpointState) (s : Joint) (id : ℕ) → is_request_stream id ≡ false → (session : ℕ) → stored_at s id ≡ Some (entered session (is_request_stream id))
    → Enters e e s.sessions.streams s.sessions.streams id session (is_request_stream id)
sends_none e s id is session at =
    subst (Enters e e s.sessions.streams s.sessions.streams id session) (sym is)
    (refl, record { here = subst (λ b. stored_at s id ≡ Some (entered session b)) is at; others = λ q differs. refl })

-- or no message,
module _ (e mid f : EndpointState) (s : Joint) (id : ℕ) (result : Result Unit Refusal) where
  entered_there : is_request_stream id ≡ true → (session : ℕ) → stored_at s id ≡ Some (entered session (is_request_stream id)) → stored_at s id ≡ Some (entered session true)
  entered_there is session at = subst (λ b. stored_at s id ≡ Some (entered session b)) is at

  pub sends_on : is_request_stream id ≡ true → is_ok result ≡ true → Resets e mid id result → (session : ℕ)
      → stored_at s id ≡ Some (entered session (is_request_stream id)) → Enters e mid s.sessions.streams s.sessions.streams id session (is_request_stream id)
  sends_on is ok resets session at =
      subst (Enters e mid s.sessions.streams s.sessions.streams id session) (sym is)
      (record {
        result = result;
        mid = mid;
        waited = false;
        resets = resets;
        takes = subst (λ b. TakesWaiting b mid mid id false) (sym ok) (refl, refl);
        sets = record { here = entered_there is session at ∙ ap (λ b. Some (joined session b false)) (sym ok); others = λ q differs. refl };
      })

  enters_with : (v : SessionsState) (waited : Bool) → is_request_stream id ≡ true → is_ok result ≡ false → Resets e mid id result → TakesEnd mid f id waited → (session : ℕ)
      → Sets s.sessions.streams v.streams id (joined session false waited) → Enters e f s.sessions.streams v.streams id session (is_request_stream id)
  enters_with v waited is ok resets takes session sets =
      subst (Enters e f s.sessions.streams v.streams id session) (sym is)
      (record {
        result = result;
        mid = mid;
        waited = waited;
        resets = resets;
        takes = subst (λ b. TakesWaiting b mid f id waited) (sym ok) takes;
        sets = subst (λ b. Sets s.sessions.streams v.streams id (joined session b waited)) (sym ok) sets;
      })

  -- or the end alone,
  pub sends_the_end : (v : SessionsState) (waited : Bool) (again : Result Unit Refusal) → is_request_stream id ≡ true → is_ok result ≡ false → Resets e mid id result → TakesEnd mid f id waited → waited ≡ true
      → Acts (Some NotOpen) (sending (Some NotOpen) finished) s.sessions.streams v.streams id (call_refused again) → (session : ℕ)
      → stored_at s id ≡ Some (entered session (is_request_stream id)) → Enters e f s.sessions.streams v.streams id session (is_request_stream id)
  sends_the_end v waited again is ok resets takes ends acts session at =
      let sets = (subst (ActsOn (Some NotOpen) (sending (Some NotOpen) finished) s.sessions.streams v.streams id (call_refused again)) (entered_there is session at) acts).1 in
      enters_with v waited is ok resets takes session (subst (λ b. Sets s.sessions.streams v.streams id (joined session false b)) (sym ends) sets)

  -- or nothing more
  pub sends_no_more : (v : SessionsState) (waited : Bool) (again : Result Unit Refusal) → is_request_stream id ≡ true → is_ok result ≡ false → Resets e mid id result → TakesEnd mid f id waited → waited ≡ false
      → Acts (Some NotOpen) (sending (Some NotOpen) cut_off) s.sessions.streams v.streams id (call_refused again) → (session : ℕ)
      → stored_at s id ≡ Some (entered session (is_request_stream id)) → Enters e f s.sessions.streams v.streams id session (is_request_stream id)
  sends_no_more v waited again is ok resets takes ends acts session at =
      let sets = (subst (ActsOn (Some NotOpen) (sending (Some NotOpen) cut_off) s.sessions.streams v.streams id (call_refused again)) (entered_there is session at) acts).1 in
      enters_with v waited is ok resets takes session (subst (λ b. Sets s.sessions.streams v.streams id (joined session false b)) (sym ends) sets)

enters_again : (e f : EndpointState) (a b c : Streams SessionStream) (id session : ℕ) (x : SessionStream) (both : Bool) → Sets a b id x → Enters e f b c id session both → Enters e f a c id session both
enters_again e f a b c id session x true first enters =
    record {
      result = enters.result;
      mid = enters.mid;
      waited = enters.waited;
      resets = enters.resets;
      takes = enters.takes;
      sets = sets_again a b c id x (joined session (is_ok enters.result) enters.waited) first enters.sets;
    }
enters_again e f a b c id session x false first (same, sets) = (same, sets_again a b c id x (entered session false) first sets)

-- a stream that was entered is one of a session
module _ (e f : EndpointState) (m t : Joint) (id session : ℕ) (inner answer : Pull) where
  pub begins_taken : (k : SessionsState) → is_request_stream session ≡ true → answer ≡ inner → stored_at m id ≡ Some (entered id (is_request_stream id))
      → Changes (λ x. record x { session = Some session }) m.sessions.streams k.streams id
      → ((n : ℕ) → kept_at k.streams id ≡ Some (entered n (is_request_stream id)) → Enters e f k.streams t.sessions.streams id n (is_request_stream id))
      → BeginsAt (is_request_stream session) e f m t id session inner answer
  begins_taken k is same at changes enters =
      let sets : Sets m.sessions.streams k.streams id (entered session (is_request_stream id))
      = subst (ChangesOn (λ x. record x { session = Some session }) m.sessions.streams k.streams id) at changes in
      rw is (same, enters_again e f m.sessions.streams k.streams t.sessions.streams id session _ (is_request_stream id) sets (enters session sets.here))

  -- or its id is that of no session
  pub begins_wrong : is_request_stream session ≡ false → answer ≡ pull.Fault (Closing (unwrap_or e.closed id_error)) → Forgets m t id → f ≡ record e { closed = Some (unwrap_or e.closed id_error) }
      → BeginsAt (is_request_stream session) e f m t id session inner answer
  begins_wrong is fault forgets closes = rw is (fault, forgets, closes)

begins_from : (b : Bool) (e f : EndpointState) (s m t : Joint) (id session : ℕ) (inner answer : Pull) (x : SessionStream) → stored_at s id ≡ None → Sets s.sessions.streams m.sessions.streams id x
    → BeginsAt b e f m t id session inner answer → Begins b e f s t id session inner answer
begins_from true e f s m t id session inner answer x free first begins =
    (begins.0, enters_again e f s.sessions.streams m.sessions.streams t.sessions.streams id session x (is_request_stream id) first begins.1)
begins_from false e f s m t id session inner answer x free first begins =
    (begins.0, gone_again s.sessions.streams m.sessions.streams t.sessions.streams id x free first begins.1.0 begins.1.1, begins.2)

-- the first pull tells no session,
pub pulls_other : (e f : EndpointState) (s : Joint) (mid : SessionsState) (t : Joint) (id : ℕ) (inner : Pull) (x : SessionStream) (session : Option ℕ) → may_begin s id ≡ true
    → Sets s.sessions.streams mid.streams id x → PullsNext e f id inner → session ≡ session_of inner → session ≡ None → stored_at t id ≡ None
    → ((q : ℕ) → q ≢ id → stored_at t q ≡ kept_at mid.streams q) → PullsFirst e f s t id inner
pulls_other e f s mid t id inner x session begins first h told none gone others =
    pulls inner f h
    (subst (λ o. BeginsIf o f f s t id inner inner) (sym none ∙ told) (refl, refl, gone_again s.sessions.streams mid.streams t.sessions.streams id x (is_free s id begins) first gone others))

-- or one
pub pulls_session : (e next f : EndpointState) (s : Joint) (mid : SessionsState) (t : Joint) (id session : ℕ) (inner answer : Pull) (x : SessionStream) (tells : Option ℕ) → may_begin s id ≡ true
    → Sets s.sessions.streams mid.streams id x → PullsNext e next id inner → tells ≡ session_of inner → tells ≡ Some session
    → BeginsAt (is_request_stream session) next f (record s { sessions = mid }) t id session inner answer → PullsFirst e f s t id answer
pulls_session e next f s mid t id session inner answer x tells begins first h told is at =
    pulls inner next h
    (subst (λ o. BeginsIf o next f s t id inner answer) (sym is ∙ told)
    (begins_from (is_request_stream session) next f s (record s { sessions = mid }) t id session inner answer x (is_free s id begins) first at))

-- which list it has
lists_no : (listed came : Option (List Field)) → listed ≡ None → Lists listed came
lists_no None came e = tt
lists_no (Some l) came e = absurd (cc)

module _ (e : EndpointState) (id : ℕ) where
  pub lists_none : (listed : Option (List Field)) → listed ≡ None → ListsNext e id listed
  lists_none listed none = λ h stands. lists_no listed (fields_behind h.kept h id) none

  pub lists_same : (b : Bool) (before after : Option (List Field)) → ListsNext e id before → ListsAgain b before after → ListsNext e id after
  lists_same true before after lists same = subst (ListsNext e id) (sym same) lists
  lists_same false before after lists none = lists_none after none

-- what is read beside the endpoint has no header
plain_if : (b : Bool) (x y : Pull × Receiver) → has_header x.0 ≡ false → has_header y.0 ≡ false → has_header (if b then x else y).0 ≡ false
plain_if true x y p q = p
plain_if false x y p q = q

plain_pull_if : (b : Bool) (x y : Pull) → has_header x ≡ false → has_header y ≡ false → has_header (if b then x else y) ≡ false
plain_pull_if true x y p q = p
plain_pull_if false x y p q = q

raw_is_plain : (r : Receiver) (unread : List (List ℕ)) → has_header (raw r unread).0 ≡ false
raw_is_plain r [] = plain_if r.ended _ _ refl refl
raw_is_plain r (piece ∷ pieces) = refl

told_is_plain : (r : Receiver) (session : Option ℕ) → has_header (told_or_raw r session).0 ≡ false
told_is_plain r None = plain_pull_if r.ended _ _ refl refl
told_is_plain r (Some session) = plain_if r.is_told _ _ (raw_is_plain r r.unread) refl

reset_is_plain : (r : Receiver) (session code : Option ℕ) → has_header (unless_reset r session code).0 ≡ false
reset_is_plain r session (Some code) = refl
reset_is_plain r session None = told_is_plain r session

pulled_is_plain : (r : Receiver) (session : Option ℕ) → has_header (pulled r session).0 ≡ false
pulled_is_plain r session = plain_if r.is_canceled _ _ refl (plain_if r.is_over _ _ refl (reset_is_plain r session r.reset_code))

half_is_plain : (s : SessionStream) (o : Option Receiver) → has_header (on_receiver pull.NoMessages (λ r. pulled r s.session) s o).0 ≡ false
half_is_plain s None = refl
half_is_plain s (Some r) = pulled_is_plain r s.session

is_plain : (old new : Streams SessionStream) (id : ℕ) (answer : Pull) (there : Option SessionStream) → ActsOn pull.NoMessages pulls_raw old new id answer there → has_header answer ≡ false
is_plain old new id answer None acts = ap has_header acts.0
is_plain old new id answer (Some s) acts = ap has_header acts.0 ∙ half_is_plain s s.receiver

-- a stream that is there, or not yet
there_at : (s t : Joint) (id : ℕ) (told : Pull) (o : Option SessionStream) → is_some o ≡ true → ActsHere pull.NoMessages pulls_raw s t id told → PullsThere s t id told o
there_at s t id told None none h = absurd (cc)
there_at s t id told (Some x) some h = h

pub pulls_there : (s : Joint) (v : SessionsState) (id : ℕ) (answer told : Pull) → is_some (stored_at s id) ≡ true → Acts pull.NoMessages pulls_raw s.sessions.streams v.streams id answer
    → (has_header answer ≡ false → told ≡ answer) → v ≡ record s.sessions { streams = v.streams } → PullsThere s (record s { sessions = v }) id told (stored_at s id)
pulls_there s v id answer told is acts same rest =
    let told_is : told ≡ answer = same (is_plain s.sessions.streams v.streams id answer (stored_at s id) acts) in
    there_at s (record s { sessions = v }) id told (stored_at s id) is
    (subst (Acts pull.NoMessages pulls_raw s.sessions.streams v.streams id) (sym told_is) acts, ap (λ (x : SessionsState). record s { sessions = x }) rest)

absent_at : (s : Joint) (id : ℕ) (told : Pull) (o : Option SessionStream) → is_some o ≡ false → told ≡ pull.Pending → PullsThere s s id told o
absent_at s id told None none paused = (paused, refl)
absent_at s id told (Some x) some paused = absurd (cc)

pub pulls_absent : (s : Joint) (id : ℕ) (told : Pull) → is_some (stored_at s id) ≡ false → told ≡ pull.Pending → PullsThere s s id told (stored_at s id)
pulls_absent s id told is paused = absent_at s id told (stored_at s id) is paused

-- all of a pull
pub pulls_faulty : (e : EndpointState) (s : Joint) (id code : ℕ) (answer : Pull) → may_begin s id ≡ false → is_read s id ≡ true → e.closed ≡ Some code → answer ≡ pull.Fault (Closing code)
    → PullsOn e e s s id answer
pulls_faulty e s id code answer begins read closed fault =
    record {
      first = λ is. absurd (let never : false ≡ true = sym begins ∙ is in cc);
      own = λ is. (refl, subst (λ c. PullsRaw c s s id answer) (sym closed) (fault, refl));
      other = λ not_begun is. absurd (let never : true ≡ false = sym read ∙ is in cc);
    }

pub pulls_own : (e : EndpointState) (s t : Joint) (id : ℕ) (answer : Pull) → may_begin s id ≡ false → is_read s id ≡ true → e.closed ≡ None → PullsThere s t id answer (stored_at s id) → PullsOn e e s t id answer
pulls_own e s t id answer begins read closed there =
    record {
      first = λ is. absurd (let never : false ≡ true = sym begins ∙ is in cc);
      own = λ is. (refl, subst (λ c. PullsRaw c s t id answer) (sym closed) there);
      other = λ not_begun is. absurd (let never : true ≡ false = sym read ∙ is in cc);
    }

pub pulls_elsewhere : (e f : EndpointState) (s : Joint) (id : ℕ) (answer : Pull) → may_begin s id ≡ false → is_read s id ≡ false → PullsNext e f id answer → PullsOn e f s s id answer
pulls_elsewhere e f s id answer begins read h =
    record {
      first = λ is. absurd (let never : false ≡ true = sym begins ∙ is in cc);
      own = λ is. absurd (let never : false ≡ true = sym read ∙ is in cc);
      other = λ not_begun is. (refl, h);
    }

pub pulls_begun : (e f : EndpointState) (s t : Joint) (id : ℕ) (answer : Pull) → may_begin s id ≡ true → PullsFirst e f s t id answer → StreamsAlone s t → PullsOn e f s t id answer
pulls_begun e f s t id answer begins h alone =
    record {
      first = λ is. (h, alone);
      own = λ is. absurd (let never : false ≡ true = not_read s id begins is in cc);
      other = λ not_begun is. absurd (let never : true ≡ false = sym begins ∙ not_begun in cc);
    }
