-- One event at two ends, beside the same ends without strict messages.
use Rattle.std.proofs.Common.{◌≡◌, ℕ, Bool, true, false, if◌then◌else◌, List, length, take, refl, ap, sym, ◌∙◌, subst, Option, Some, None}
use Rattle.std.specs.Prelude.{◌==◌, ◌&&◌, ◌||◌, not, nat_lt, is_some, option_map, unwrap_or}
use Rattle.h3_proto.specs.declared.stream.Side.{Side}
use Rattle.h3_proto.specs.declared.stream.Side.TheVariants.{Client, Server}
use Rattle.std.proofs.lemmas.Bool.{and_parts}
use Rattle.h3_proto.specs.Config.{is_limit}
use Rattle.h3_connection.specs.Endpoint.{EndpointHistory, limit_of, bytes_waiting, own_waiting}
use Rattle.h3_connection.specs.Keeping.{arrives, pulls}
use Rattle.h3_connection.specs.Outgoing.{Outgoing, part_bytes_waiting}
use Rattle.h3_connection.specs.OwnIds.{is_own, other}
use Rattle.h3_connection.specs.Sending as sender
use Rattle.h3_connection.specs.Shown.{has_outgoing, is_finished, is_reset, peer_limits, table_sizes, waiting, waiting_heads}
use Rattle.h3_connection.specs.StreamSets.{stream_at}
use Rattle.h3_connection.specs.declared.arrival.Arrival.{Arrival}
use Rattle.h3_connection.specs.declared.arrival.Arrival.TheVariants.{BytesCame, EndCame, ResetCame}
use Rattle.h3_connection.specs.declared.event.Pull.{Pull}
use Rattle.h3_connection.specs.declared.event.Refusal.{Refusal}
use Rattle.h3_connection.specs.declared.event.Refusal.TheVariants as refusal
use Rattle.h3_connection.specs.Coming.{fields_behind}
use Rattle.h3_world.specs.EndLists.{send_fields, send_trailer_fields}
use Rattle.h3_world.specs.Delivering.{reset_code}
use Rattle.h3_world.specs.Ends.{Ends, answered, delivery, done, end_at, end_delivery, reset_delivery, was_listed, was_offered, was_pulled, with_end}
use Rattle.h3_world.specs.declared.event.Answer.{Answer}
use Rattle.h3_world.specs.declared.event.Answer.TheVariants as answer
use Rattle.h3_world.specs.declared.event.Event.{Event}
use Rattle.h3_world.specs.declared.event.Event.TheVariants as event
use Rattle.h3_strict.specs.PlainEnds.{FewWaitBehind, StepsPlainly, Alike, Judges, RefusesMalformed, asks_strictly, finds_fault, is_malformed_refusal, judges, plain_ends, refused_by, was_too_long}
use Rattle.h3_connection.specs.StrictConnection.{is_strict}
use Rattle.h3_connection.specs.Lists.{listed_pull}
use Rattle.h3_strict.specs.Plainly.{exceeds, is_excess, is_judged, plain_outgoing, plainly}
use Rattle.h3_strict.proofs.PlainCalls.{CallsPlainly, Malforms, Does, plain_result, tells}
use Rattle.h3_strict.proofs.PlainLists.{tells_same}
use Rattle.h3_strict.proofs.StrictCodes.{asks_at, more_excess, more_told}
use Rattle.h3_strict.proofs.PlainPulled.{IsAlike, IsJudged, PulledPlainly, lists_plain, pulls_plainly}
use Rattle.h3_strict.proofs.PlainReading.{ArrivesPlainly, Exceeds, Otherwise, arrives_plainly}
use Rattle.h3_strict.proofs.PlainSends.{advances_plainly, bodies_plainly, cancels_plainly, ends_plainly, goaways_plainly, heads_plainly, opens_plainly, resets_plainly, trailers_plainly, fields_plainly, trailer_fields_plainly}
use Rattle.h3_strict.proofs.PlainStreams.{at_each, count_each}

-- an answer and the ends after it, beside these without strict messages
data Beside (ends : Ends) (x y : Answer × Ends) : Type 0 where
  Refuses : is_malformed_refusal x.0 ≡ true → x.1 ≡ ends → Beside ends x y
  Goes : is_malformed_refusal x.0 ≡ false → y ≡ (x.0, plain_ends x.1) → Beside ends x y

steps : (ends : Ends) (e : Event) → Beside ends (answered ends e) (answered (plain_ends ends) e) → StepsPlainly ends e
steps ends e (Refuses told same) = RefusesMalformed told same
steps ends e (Goes told same) = Alike told same

-- either end
at_end : (ends : Ends) (side : Side) → end_at (plain_ends ends) side ≡ plainly (end_at ends side)
at_end ends Client = refl
at_end ends Server = refl

sets_end : (ends : Ends) (side : Side) (e : EndpointHistory) → with_end (plain_ends ends) side (plainly e) ≡ plain_ends (with_end ends side e)
sets_end ends Client e = refl
sets_end ends Server e = refl

same_end : (ends : Ends) (side : Side) → with_end ends side (end_at ends side) ≡ ends
same_end ends Client = refl
same_end ends Server = refl

-- a call of one end
module _ (ends : Ends) (side : Side) where
  goes_done : (success : Answer) (x : Option Refusal × EndpointHistory) → is_malformed_refusal success ≡ false → tells x.0 ≡ false
      → Beside ends (done ends side success x) (done (plain_ends ends) side success (x.0, plainly x.1))
  goes_done success (None, e) plain told = Goes plain (ap (λ v. let z : Answer × Ends = (success, v) in z) (sets_end ends side e))
  goes_done success (Some r, e) plain told = Goes told (ap (λ v. let z : Answer × Ends = (answer.Refused r, v) in z) (sets_end ends side e))

  refuses_done : (success : Answer) (x : Option Refusal × EndpointHistory) (y : Answer × Ends) → tells x.0 ≡ true → x.1 ≡ end_at ends side → Beside ends (done ends side success x) y
  refuses_done success (None, e) y told same = absurd (cc)
  refuses_done success (Some r, e) y told same = Refuses told (ap (with_end ends side) same ∙ same_end ends side)

  done_beside : (success : Answer) (x y : Option Refusal × EndpointHistory) → is_malformed_refusal success ≡ false → CallsPlainly (end_at ends side) x y
      → Beside ends (done ends side success x) (done (plain_ends ends) side success y)
  done_beside success x y plain (Malforms told same) = refuses_done success x _ told same
  done_beside success x y plain (Does told same) = subst (λ z. Beside ends (done ends side success x) (done (plain_ends ends) side success z)) (sym same) (goes_done success x plain told)

  -- by a call of an endpoint
  calls : (success : EndpointHistory → Answer) (call : EndpointHistory → Option Refusal × EndpointHistory) → is_malformed_refusal (success (end_at ends side)) ≡ false
      → success (plainly (end_at ends side)) ≡ success (end_at ends side) → ((e : EndpointHistory) → CallsPlainly e (call e) (call (plainly e)))
      → Beside ends (done ends side (success (end_at ends side)) (call (end_at ends side))) (done (plain_ends ends) side (success (end_at (plain_ends ends) side)) (call (end_at (plain_ends ends) side)))
  calls success call plain same h =
      subst (λ f. Beside ends (done ends side (success (end_at ends side)) (call (end_at ends side))) (done (plain_ends ends) side (success f) (call f))) (sym (at_end ends side))
      (subst (λ a. Beside ends (done ends side (success (end_at ends side)) (call (end_at ends side))) (done (plain_ends ends) side a (call (plainly (end_at ends side))))) (sym same)
      (done_beside (success (end_at ends side)) _ _ plain (h (end_at ends side))))

  -- a pull that is answered alike leads to the same ends
  pub pulled_alike : (id : ℕ) (x y : Pull × EndpointHistory) → answered ends (event.Pull side id) ≡ was_pulled ends side x → answered (plain_ends ends) (event.Pull side id) ≡ was_pulled (plain_ends ends) side y
      → y ≡ plain_result x → answered (plain_ends ends) (event.Pull side id) ≡ ((answered ends (event.Pull side id)).0, plain_ends (answered ends (event.Pull side id)).1)
  pulled_alike id (a, e) y is plain_is same =
      plain_is ∙ ap (was_pulled (plain_ends ends) side) same ∙ ap (λ v. let z : Answer × Ends = (answer.Pulled a, v) in z) (sets_end ends side e) ∙ sym (ap (λ z. let w : Answer × Ends = (z.0, plain_ends z.1) in w) is)

  pub listed_alike : (id : ℕ) (x y : Pull × EndpointHistory) → answered ends (event.PullFields side id) ≡ was_listed ends side id x → answered (plain_ends ends) (event.PullFields side id) ≡ was_listed (plain_ends ends) side id y
      → listed_pull (fields_behind (end_at ends side).kept (plainly (end_at ends side)) id) x.0 ≡ listed_pull (fields_behind (end_at ends side).kept (end_at ends side) id) x.0
      → y ≡ plain_result x → answered (plain_ends ends) (event.PullFields side id) ≡ ((answered ends (event.PullFields side id)).0, plain_ends (answered ends (event.PullFields side id)).1)
  listed_alike id (a, e) y is plain_is same_list same =
      plain_is ∙ ap (was_listed (plain_ends ends) side id) same
      ∙ ap (λ (f : EndpointHistory). let z : Answer × Ends = (answer.Listed (listed_pull (fields_behind f.kept f id) a), with_end (plain_ends ends) side (plainly e)) in z) (at_end ends side)
      ∙ ap (λ l. let z : Answer × Ends = (answer.Listed l, with_end (plain_ends ends) side (plainly e)) in z) same_list
      ∙ ap (λ v. let z : Answer × Ends = (answer.Listed (listed_pull (fields_behind (end_at ends side).kept (end_at ends side) id) a), v) in z) (sets_end ends side e)
      ∙ sym (ap (λ z. let w : Answer × Ends = (z.0, plain_ends z.1) in w) is)

  pulled_steps : (id : ℕ) (x y : Pull × EndpointHistory) → answered ends (event.Pull side id) ≡ was_pulled ends side x → answered (plain_ends ends) (event.Pull side id) ≡ was_pulled (plain_ends ends) side y
      → PulledPlainly (is_strict (end_at ends side).announced) (FewWaitBehind (end_at ends side)) (is_judged (end_at ends side) id) x y → StepsPlainly ends (event.Pull side id)
  pulled_steps id x y is plain_is (IsJudged judged told) = Judges judged (λ few. ap (λ z. finds_fault (asks_strictly ends) z.0) is ∙ more_told (is_strict (end_at ends side).announced) (asks_strictly ends) x.0 (asks_at ends side) (told (few side)))
  pulled_steps id (a, e) y is plain_is (IsAlike same) =
      Alike (ap (λ z. is_malformed_refusal z.0) is) (pulled_alike id (a, e) y is plain_is same)

  pull_steps : (id : ℕ) → StepsPlainly ends (event.Pull side id)
  pull_steps id =
      pulled_steps id (pulls (end_at ends side) id) (pulls (plainly (end_at ends side)) id) refl (ap (λ f. was_pulled (plain_ends ends) side (pulls f id)) (at_end ends side))
      (pulls_plainly (end_at ends side) id)

  -- with lists
  listed_steps : (id : ℕ) (x y : Pull × EndpointHistory) → answered ends (event.PullFields side id) ≡ was_listed ends side id x → answered (plain_ends ends) (event.PullFields side id) ≡ was_listed (plain_ends ends) side id y
      → listed_pull (fields_behind (end_at ends side).kept (plainly (end_at ends side)) id) x.0 ≡ listed_pull (fields_behind (end_at ends side).kept (end_at ends side) id) x.0
      → PulledPlainly (is_strict (end_at ends side).announced) (FewWaitBehind (end_at ends side)) (is_judged (end_at ends side) id) x y → StepsPlainly ends (event.PullFields side id)
  listed_steps id (a, e) y is plain_is same_list (IsJudged judged told) =
      Judges judged (λ few. ap (λ z. finds_fault (asks_strictly ends) z.0) is ∙ tells_same (asks_strictly ends) (fields_behind (end_at ends side).kept (end_at ends side) id) a
      ∙ more_told (is_strict (end_at ends side).announced) (asks_strictly ends) a (asks_at ends side) (told (few side)))
  listed_steps id (a, e) y is plain_is same_list (IsAlike same) =
      Alike (ap (λ z. is_malformed_refusal z.0) is) (listed_alike id (a, e) y is plain_is same_list same)

  list_steps : (id : ℕ) → StepsPlainly ends (event.PullFields side id)
  list_steps id =
      listed_steps id (pulls (end_at ends side) id) (pulls (plainly (end_at ends side)) id) refl (ap (λ f. was_listed (plain_ends ends) side id (pulls f id)) (at_end ends side))
      (lists_plain (end_at ends side).kept (end_at ends side) id) (pulls_plainly (end_at ends side) id)

-- what is shown of an end
module _ (e : EndpointHistory) (id : ℕ) where
  pub waits : bytes_waiting (plainly e) id ≡ bytes_waiting e id
  waits = ap by (at_each plain_outgoing e.outgoing id) ∙ same (stream_at e.outgoing id)
    where
      by : Option Outgoing → List ℕ
      by o = elim o [ None ↦ own_waiting e id | Some x ↦ part_bytes_waiting x ]

      same : (o : Option Outgoing) → by (option_map plain_outgoing o) ≡ by o
      same None = refl
      same (Some o) = refl

  pub has_one : has_outgoing (plainly e) id ≡ has_outgoing e id
  has_one = ap (λ o. is_own e.side id || is_some o) (at_each plain_outgoing e.outgoing id) ∙ same (stream_at e.outgoing id)
    where
      same : (o : Option Outgoing) → (is_own e.side id || is_some (option_map plain_outgoing o)) ≡ (is_own e.side id || is_some o)
      same None = refl
      same (Some o) = refl

  pub finished : is_finished (plainly e) id ≡ is_finished e id
  finished = ap (λ o. unwrap_or (option_map (λ (x : Outgoing). x.is_finished) o) false) (at_each plain_outgoing e.outgoing id) ∙ same (stream_at e.outgoing id)
    where
      same : (o : Option Outgoing) → unwrap_or (option_map (λ (x : Outgoing). x.is_finished) (option_map plain_outgoing o)) false ≡ unwrap_or (option_map (λ (x : Outgoing). x.is_finished) o) false
      same None = refl
      same (Some o) = refl

  pub was_reset : is_reset (plainly e) id ≡ is_reset e id
  was_reset = ap (λ o. unwrap_or (option_map (λ (x : Outgoing). x.is_reset) o) false) (at_each plain_outgoing e.outgoing id) ∙ same (stream_at e.outgoing id)
    where
      same : (o : Option Outgoing) → unwrap_or (option_map (λ (x : Outgoing). x.is_reset) (option_map plain_outgoing o)) false ≡ unwrap_or (option_map (λ (x : Outgoing). x.is_reset) o) false
      same None = refl
      same (Some o) = refl

-- What came is too long for its reader, or it is so.
data Delivers (ends : Ends) (reader : Side) (x y : Answer × Ends) : Type 0 where
  IsExcess : was_too_long ends reader x.0 ≡ true → Delivers ends reader x y
  IsBeside : Beside ends x y → Delivers ends reader x y

excess_told : (strict : Bool) (a : Answer) → is_excess strict (refused_by a) ≡ true → finds_fault strict a ≡ true
excess_told strict (answer.Pulled p) is = absurd (cc)
excess_told strict (answer.Listed l) is = absurd (cc)
excess_told strict a is = is

delivers_steps : (ends : Ends) (reader : Side) (e : Event) → judges ends e ≡ was_too_long ends reader (answered ends e).0 → Delivers ends reader (answered ends e) (answered (plain_ends ends) e) → StepsPlainly ends e
delivers_steps ends reader e judged (IsExcess long) =
    let fault = refused_by (answered ends e).0 in
    let strict = is_strict (end_at ends reader).announced in
    Judges (judged ∙ long) (λ few. excess_told (asks_strictly ends) (answered ends e).0 (more_excess strict (asks_strictly ends) fault (asks_at ends reader) (and_parts (is_excess strict fault) (is_limit (limit_of (end_at ends reader))) long).0))
delivers_steps ends reader e judged (IsBeside h) = steps ends e h

-- the fault of an end that limits it
too_long : (ends : Ends) (reader : Side) (a : Answer) (code : ℕ) → is_excess (is_strict (end_at ends reader).announced) (Some code) ≡ true → refused_by a ≡ Some code → is_limit (limit_of (end_at ends reader)) ≡ true → was_too_long ends reader a ≡ true
too_long ends reader a code long is limit = ap (exceeds (end_at ends reader)) is ∙ ap (λ b. b && is_limit (limit_of (end_at ends reader))) long ∙ limit

-- a test that comes out alike
by_test : (ends : Ends) (reader : Side) (b c : Bool) (x v y w : Answer × Ends) → c ≡ b → Delivers ends reader x v → Delivers ends reader y w → Delivers ends reader (if b then x else y) (if c then v else w)
by_test ends reader b c x v y w same h k = subst (λ d. Delivers ends reader (if b then x else y) (if d then v else w)) (sym same) (of b)
  where
    of : (d : Bool) → Delivers ends reader (if d then x else y) (if d then v else w)
    of true = h
    of false = k

-- deliveries, from one end to the other
module _ (ends : Ends) (id : ℕ) where
  offered : (writer : Side) (count : ℕ) (x y : Option Refusal × EndpointHistory) → CallsPlainly (end_at ends (other writer)) x y
      → Beside ends (was_offered ends writer id count x) (was_offered (plain_ends ends) writer id count y)
  offered writer count x y (Malforms told same) = refuses x told same
    where
      refuses : (x : Option Refusal × EndpointHistory) → tells x.0 ≡ true → x.1 ≡ end_at ends (other writer) → Beside ends (was_offered ends writer id count x) (was_offered (plain_ends ends) writer id count y)
      refuses (None, e) told same = absurd (cc)
      refuses (Some r, e) told same = Refuses told (ap (with_end ends (other writer)) same ∙ same_end ends (other writer))
  offered writer count x y (Does told same) = subst (λ z. Beside ends (was_offered ends writer id count x) (was_offered (plain_ends ends) writer id count z)) (sym same) (goes x told)
    where
      goes : (x : Option Refusal × EndpointHistory) → tells x.0 ≡ false → Beside ends (was_offered ends writer id count x) (was_offered (plain_ends ends) writer id count (x.0, plainly x.1))
      goes (Some r, e) told = Goes told (ap (λ v. let z : Answer × Ends = (answer.Refused r, v) in z) (sets_end ends (other writer) e))
      goes (None, e) told =
          let new : EndpointHistory = sender.advance (end_at ends writer) id count in
          Goes refl (ap (λ v. let z : Answer × Ends = (answer.Delivered count, v) in z) (
          ap (λ f. with_end (with_end (plain_ends ends) writer (sender.advance f id count)) (other writer) (plainly e)) (at_end ends writer)
          ∙ ap (λ f. with_end (with_end (plain_ends ends) writer f) (other writer) (plainly e)) (advances_plainly (end_at ends writer) id count)
          ∙ ap (λ v. with_end v (other writer) (plainly e)) (sets_end ends writer new)
          ∙ sets_end (with_end ends writer new) (other writer) e))

  offered_long : (writer : Side) (count : ℕ) (x : Option Refusal × EndpointHistory) (code : ℕ) → x.0 ≡ Some (refusal.Connection code) → refused_by (was_offered ends writer id count x).0 ≡ Some code
  offered_long writer count (r, e) code is = ap (λ o. refused_by (was_offered ends writer id count (let x : Option Refusal × EndpointHistory = (o, e) in x)).0) is

  offers : (writer : Side) (count : ℕ) (x y : Option Refusal × EndpointHistory) → ArrivesPlainly (end_at ends (other writer)) x y
      → Delivers ends (other writer) (was_offered ends writer id count x) (was_offered (plain_ends ends) writer id count y)
  offers writer count x y (Exceeds limit code long is) = IsExcess (too_long ends (other writer) (was_offered ends writer id count x).0 code long (offered_long writer count x code is) limit)
  offers writer count x y (Otherwise h) = IsBeside (offered writer count x y h)

  done_long : (reader : Side) (x : Option Refusal × EndpointHistory) (code : ℕ) → x.0 ≡ Some (refusal.Connection code) → refused_by (done ends reader answer.Done x).0 ≡ Some code
  done_long reader (r, e) code is = ap (λ o. refused_by (done ends reader answer.Done (let x : Option Refusal × EndpointHistory = (o, e) in x)).0) is

  -- an end or a reset
  closes : (reader : Side) (a : Arrival) → Delivers ends reader (done ends reader answer.Done (arrives (end_at ends reader) a)) (done (plain_ends ends) reader answer.Done (arrives (end_at (plain_ends ends) reader) a))
  closes reader a =
      subst (λ f. Delivers ends reader (done ends reader answer.Done (arrives (end_at ends reader) a)) (done (plain_ends ends) reader answer.Done (arrives f a))) (sym (at_end ends reader))
      (by_arrival (arrives_plainly (end_at ends reader) a))
    where
      by_arrival : {y : Option Refusal × EndpointHistory} → ArrivesPlainly (end_at ends reader) (arrives (end_at ends reader) a) y
          → Delivers ends reader (done ends reader answer.Done (arrives (end_at ends reader) a)) (done (plain_ends ends) reader answer.Done y)
      by_arrival (Exceeds limit code long is) = IsExcess (too_long ends reader (done ends reader answer.Done (arrives (end_at ends reader) a)).0 code long (done_long reader (arrives (end_at ends reader) a) code is) limit)
      by_arrival (Otherwise h) = IsBeside (done_beside ends reader answer.Done _ _ refl h)

  as_is : (reader : Side) (a : Answer) → is_malformed_refusal a ≡ false → Delivers ends reader (a, ends) (a, plain_ends ends)
  as_is reader a told = IsBeside (Goes told refl)

  -- the tests of the writer
  tests : (writer : Side) (b c : EndpointHistory → Bool) (short : EndpointHistory → Answer) (x y : Answer × Ends)
      → ((e : EndpointHistory) → b (plainly e) ≡ b e) → ((e : EndpointHistory) → c (plainly e) ≡ c e) → ((e : EndpointHistory) → short (plainly e) ≡ short e) → is_malformed_refusal (short (end_at ends writer)) ≡ false
      → Delivers ends (other writer) x y
      → Delivers ends (other writer) (if b (end_at ends writer) then (answer.NoStream, ends) else (if c (end_at ends writer) then (short (end_at ends writer), ends) else x))
      (if b (end_at (plain_ends ends) writer) then (answer.NoStream, plain_ends ends) else (if c (end_at (plain_ends ends) writer) then (short (end_at (plain_ends ends) writer), plain_ends ends) else y))
  tests writer b c short x y same_b same_c same_short told h =
      let e = end_at ends writer in
      let at = at_end ends writer in
      by_test ends (other writer) (b e) _ _ _ _ _ (ap b at ∙ same_b e) (as_is (other writer) answer.NoStream refl)
      (by_test ends (other writer) (c e) _ _ _ _ _ (ap c at ∙ same_c e)
      (subst (λ a. Delivers ends (other writer) (short e, ends) (a, plain_ends ends)) (sym (ap short at ∙ same_short e)) (as_is (other writer) (short e) told)) h)

  delivers : (writer : Side) (count : ℕ) → Delivers ends (other writer) (delivery ends writer id count) (delivery (plain_ends ends) writer id count)
  delivers writer count =
      tests writer (λ e. not (has_outgoing e id)) (λ e. nat_lt (waiting e id) count) (λ e. answer.Short (waiting e id)) _ _
      (λ e. ap not (has_one e id)) (λ e. ap (λ l. nat_lt (length l) count) (waits e id)) (λ e. ap (λ l. answer.Short (length l)) (waits e id)) refl
      (offers writer count _ _ (subst (λ z. ArrivesPlainly reader (arrives reader (BytesCame id (take count (bytes_waiting e id)))) z) (sym arrives_is) (arrives_plainly reader (BytesCame id (take count (bytes_waiting e id))))))
    where
      e : EndpointHistory
      e = end_at ends writer

      reader : EndpointHistory
      reader = end_at ends (other writer)

      arrives_is : arrives (end_at (plain_ends ends) (other writer)) (BytesCame id (take count (bytes_waiting (end_at (plain_ends ends) writer) id))) ≡ arrives (plainly reader) (BytesCame id (take count (bytes_waiting e id)))
      arrives_is =
          ap (λ f. arrives f (BytesCame id (take count (bytes_waiting (end_at (plain_ends ends) writer) id)))) (at_end ends (other writer))
          ∙ ap (λ l. arrives (plainly reader) (BytesCame id (take count l))) (ap (λ f. bytes_waiting f id) (at_end ends writer) ∙ waits e id)

  delivers_end : (writer : Side) → Delivers ends (other writer) (end_delivery ends writer id) (end_delivery (plain_ends ends) writer id)
  delivers_end writer =
      tests writer (λ e. not (has_outgoing e id)) (λ e. not (is_finished e id && (waiting e id == 0))) (λ e. answer.Early) _ _
      (λ e. ap not (has_one e id)) (λ e. ap (λ b. not (b && (waiting (plainly e) id == 0))) (finished e id) ∙ ap (λ l. not (is_finished e id && (length l == 0))) (waits e id)) (λ e. refl) refl
      (closes (other writer) (EndCame id))

  delivers_reset : (writer : Side) → Delivers ends (other writer) (reset_delivery ends writer id) (reset_delivery (plain_ends ends) writer id)
  delivers_reset writer =
      tests writer (λ e. not (has_outgoing e id)) (λ e. not (is_reset e id)) (λ e. answer.Early) _ _
      (λ e. ap not (has_one e id)) (λ e. ap not (was_reset e id)) (λ e. refl) refl
      (closes (other writer) (ResetCame id reset_code))

shows : (ends : Ends) (side : Side) → Beside ends (answered ends (event.Show side)) (answered (plain_ends ends) (event.Show side))
shows ends side = Goes refl (ap (λ a. let z : Answer × Ends = (a, plain_ends ends) in z) (ap shown (at_end ends side) ∙ ap (λ n. answer.Shown (peer_limits e) (table_sizes e) n) (count_each e.decoding.decoder.table.inserted e.incoming)))
  where
    e : EndpointHistory
    e = end_at ends side

    shown : EndpointHistory → Answer
    shown e = answer.Shown (peer_limits e) (table_sizes e) (waiting_heads e)

-- any event
pub every_step : (ends : Ends) (e : Event) → StepsPlainly ends e
every_step ends (event.OpenRequest side) = steps ends _ (calls ends side (λ e. answer.Opened e.next_id) sender.open_request refl refl opens_plainly)
every_step ends (event.Head side id head) = steps ends _ (calls ends side (λ e. answer.Done) (λ e. sender.send_head e id head) refl refl (λ e. heads_plainly e id head))
every_step ends (event.Fields side id fields) = steps ends _ (calls ends side (λ e. answer.Done) (λ e. send_fields e id fields) refl refl (λ e. fields_plainly e id fields))
every_step ends (event.Body side id bytes) = steps ends _ (calls ends side (λ e. answer.Done) (λ e. sender.send_body e id bytes) refl refl (λ e. bodies_plainly e id bytes))
every_step ends (event.Trailer side id trailer) = steps ends _ (calls ends side (λ e. answer.Done) (λ e. sender.send_trailer e id trailer) refl refl (λ e. trailers_plainly e id trailer))
every_step ends (event.TrailerFields side id fields) = steps ends _ (calls ends side (λ e. answer.Done) (λ e. send_trailer_fields e id fields) refl refl (λ e. trailer_fields_plainly e id fields))
every_step ends (event.Finish side id) = steps ends _ (calls ends side (λ e. answer.Done) (λ e. sender.finish e id) refl refl (λ e. ends_plainly e id))
every_step ends (event.Reset side id) = steps ends _ (calls ends side (λ e. answer.Done) (λ e. sender.reset e id) refl refl (λ e. resets_plainly e id))
every_step ends (event.Cancel side id) = steps ends _ (calls ends side (λ e. answer.Done) (λ e. sender.cancel e id) refl refl (λ e. cancels_plainly e id))
every_step ends (event.Goaway side id) = steps ends _ (calls ends side (λ e. answer.Done) (λ e. sender.goaway e id) refl refl (λ e. goaways_plainly e id))
every_step ends (event.Deliver side id count) = delivers_steps ends (other side) (event.Deliver side id count) refl (delivers ends id side count)
every_step ends (event.DeliverEnd side id) = delivers_steps ends (other side) (event.DeliverEnd side id) refl (delivers_end ends id side)
every_step ends (event.DeliverReset side id) = delivers_steps ends (other side) (event.DeliverReset side id) refl (delivers_reset ends id side)
every_step ends (event.Pull side id) = pull_steps ends side id
every_step ends (event.PullFields side id) = list_steps ends side id
every_step ends (event.Show side) = steps ends _ (shows ends side)
