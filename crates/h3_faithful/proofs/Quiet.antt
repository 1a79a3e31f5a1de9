-- A side keeps to what it announced, and one that asks for no strict messages counts nothing of what it sends, over a whole run, memory refused or
-- not. So it refuses no send as malformed that it would not refuse so where it judges plainly, but what it does not read itself.
use Rattle.std.proofs.Common.{◌≡◌, ◌⊎◌, inl, inr, ℕ, ◌<◌, Bool, true, false, if◌then◌else◌, List, [], ◌∷◌, length, refl, ap, sym, ◌∙◌, subst, Option, Some, None}
use Rattle.std.specs.Prelude.{not, ◌&&◌, ◌==◌, nat_lt, take, unwrap_or}
use Rattle.h3_field.specs.Field.{Field}
use Rattle.h3_proto.specs.declared.stream.Side.{Side}
use Rattle.h3_proto.specs.declared.stream.Side.TheVariants.{Client, Server}
use Rattle.h3_connection.specs.Control.{Found}
use Rattle.h3_connection.specs.Delivering.{delivery_refusal, refusal_at, request_refusal, server_opened_refusal, taken, with_incoming}
use Rattle.h3_connection.specs.Endpoint.{EndpointHistory, Kind, bytes_waiting, new_endpoint}
use Rattle.h3_connection.specs.Endpoint.Kind.{OwnUnidirectional, PeerUnidirectional, Request, ServerOpened}
use Rattle.h3_connection.specs.Arrivals.{is_closed_in, stream_of}
use Rattle.h3_connection.specs.Incoming.{Incoming}
use Rattle.h3_connection.specs.Keeping.{arrival_refusal, arrives, arrives_behind, pulls, read_arrival, refused_behind, unkept}
use Rattle.h3_connection.specs.Lasts.{last_id}
use Rattle.h3_connection.specs.OwnIds.{other}
use Rattle.h3_connection.specs.PartReading.{CountsOn, ReadsPart}
use Rattle.h3_connection.specs.Refusals.{going_away, raised, refusal_of_goaway, refusal_to_open, refusal_to_stop}
use Rattle.h3_connection.specs.Sending as sender
use Rattle.h3_connection.specs.Sending.{closed_or, does}
use Rattle.h3_connection.specs.Shown.{has_outgoing, is_finished, is_reset, waiting}
use Rattle.h3_connection.specs.StrictSending.{broken_protocol}
use Rattle.h3_connection.specs.StreamSets.{stream_at}
use Rattle.h3_connection.specs.declared.arrival.Arrival.{Arrival}
use Rattle.h3_connection.specs.declared.arrival.Arrival.TheVariants.{BytesCame, EndCame, ResetCame}
use Rattle.h3_connection.specs.declared.event.Fault.TheVariants as fault
use Rattle.h3_connection.specs.declared.event.Malformation.{Malformation}
use Rattle.h3_connection.specs.declared.event.Pull.{Pull}
use Rattle.h3_connection.specs.declared.event.Pull.TheVariants as pull
use Rattle.h3_connection.specs.declared.event.Refusal.{Refusal}
use Rattle.h3_connection.specs.declared.event.Refusal.TheVariants as refusal
use Rattle.h3_connection.specs.declared.setup.Announced.{Announced}
use Rattle.h3_connection.specs.declared.lists.ListPull.TheVariants as list
use Rattle.h3_world.specs.Delivering.{reset_code}
use Rattle.h3_world.specs.EndLists.{fields_refusal, send_fields, send_trailer_fields, trailer_fields_refusal}
use Rattle.h3_world.specs.Ends.{Ends, answered, done, end_at, new_ends, was_listed, was_offered, was_pulled, with_end}
use Rattle.h3_world.specs.Headline.{is_out_of_memory}
use Rattle.h3_world.specs.declared.event.Answer.{Answer}
use Rattle.h3_world.specs.declared.event.Answer.TheVariants as answer
use Rattle.h3_world.specs.declared.event.Event.{Event}
use Rattle.h3_world.specs.declared.event.Event.TheVariants as event
use Rattle.h3_world.specs.Lists.{unreadable}
use Rattle.h3_world.specs.Setup.{Setup, announced_at, takes_any}
use Rattle.h3_memory.specs.Refused.{AnswerOf, CutsList, CutsOff, CutsSection, EndsStep, IsAsked, LacksMemory, LosesNothing, Stores, handed_over}
use Rattle.h3_strict.specs.CountsNothing.{CountsNothing, KeepsTo, RefusesAlike}
use Rattle.h3_strict.specs.PlainAlike.{SameUnless}
use Rattle.h3_strict.specs.PlainEnds.{is_malformed_refusal, plain_ends}
use Rattle.h3_strict.specs.Plainly.{is_malformed, plainly}
use Rattle.h3_faithful.specs.Steps.{IsRefusedUnread, asks_for_strict}
use Rattle.h3_faithful.proofs.AnyStep.{RefusesPlainly}
use Rattle.h3_faithful.proofs.PlainMemory.{QuietSides, at_end}

-- The laws of `h3_strict` that are cited.
pub record QuietLaws : Type 0 where
  pub first : (side : Side) (own : Announced) → KeepsTo own (new_endpoint side own)
  pub event : (own : Announced) (ends : Ends) (side : Side) → KeepsTo own (end_at ends side) → (e : Event) → KeepsTo own (end_at (answered ends e).1 side)
  pub reads : (own : Announced) (e new : EndpointHistory) (arrivals : List Arrival) → ReadsPart e arrivals new → KeepsTo own e → KeepsTo own new
  pub asked : (own : Announced) (e : EndpointHistory) (id : ℕ) (old new : Incoming) → KeepsTo own e → stream_at e.incoming id ≡ Some old → CountsOn old.content new.content → KeepsTo own (with_incoming e id new)
  pub advances : (own : Announced) (e : EndpointHistory) (id count : ℕ) → KeepsTo own e → KeepsTo own (sender.advance e id count)
  pub sends : (own : Announced) (e : EndpointHistory) → CountsNothing own e → RefusesAlike e

pub new_quiet : QuietLaws → (setup : Setup) → QuietSides setup (new_ends setup)
new_quiet laws setup Client = laws.first Client setup.client
new_quiet laws setup Server = laws.first Server setup.server

-- One end changes.
sets : (own : Announced) (ends : Ends) (s side : Side) (e : EndpointHistory) → (KeepsTo own (end_at ends side) → KeepsTo own e) → KeepsTo own (end_at ends s) → KeepsTo own (end_at (with_end ends side e) s)
sets own ends Client Client e goes h = goes h
sets own ends Server Server e goes h = goes h
sets own ends Client Server e goes h = h
sets own ends Server Client e goes h = h

sets_behind : (own : Announced) (ends : Ends) (s writer : Side) (sent e : EndpointHistory) → (KeepsTo own (end_at ends writer) → KeepsTo own sent) → (KeepsTo own (end_at ends (other writer)) → KeepsTo own e) → KeepsTo own (end_at ends s)
    → KeepsTo own (end_at (with_end (with_end ends writer sent) (other writer) e) s)
sets_behind own ends Client Client sent e first goes h = first h
sets_behind own ends Server Server sent e first goes h = first h
sets_behind own ends Client Server sent e first goes h = goes h
sets_behind own ends Server Client sent e first goes h = goes h

module _ (laws : QuietLaws) (own : Announced) (ends new : Ends) (s : Side) (h : KeepsTo own (end_at ends s)) where
  abbrev Stays : Type 0
  Stays = KeepsTo own (end_at new s)

  same : new ≡ ends → Stays
  same is = subst (λ x. KeepsTo own (end_at x s)) (sym is) h

  cut_stays : (side : Side) (id : ℕ) (fields : List Field) → CutsOff ends side id fields new → Stays
  cut_stays side id fields cut = subst (λ x. KeepsTo own (end_at x s)) (sym cut.is) (sets own ends s side _ (λ k. k) h)

  section_stays : (p : Option Refusal) (side : Side) (id : ℕ) (fields : List Field) → CutsSection p ends side id fields new → Stays
  section_stays None side id fields cut = cut_stays side id fields cut
  section_stays (Some (refusal.Malformed why)) side id fields is = same is
  section_stays (Some (refusal.TooLarge size)) side id fields is = same is
  section_stays (Some r) side id fields is = absurd is

  list_stays : (p : Option Refusal) (side : Side) (id : ℕ) (fields : List Field) → CutsList p ends side id fields new → Stays
  list_stays None side id fields cut = cut_stays side id fields cut
  list_stays (Some (refusal.TooLarge size)) side id fields is = same is
  list_stays (Some (refusal.Malformed why)) side id fields is = same is.1
  list_stays (Some refusal.WrongSide) side id fields is = same is.1
  list_stays (Some refusal.PseudoInTrailer) side id fields is = same is.1
  list_stays (Some r) side id fields is = absurd is

  stored_stays : (reader : Side) (a : Arrival) → Stores ends reader a ends new → Stays
  stored_stays reader a t = subst (λ x. KeepsTo own (end_at x s)) (sym t.is) (sets own ends s reader t.after (λ k. laws.reads own (unkept (end_at ends reader)) t.after _ t.read k) h)

  offered_stays : (writer : Side) (id count : ℕ) (a : Arrival) → Stores ends (other writer) a (handed_over ends writer id count) new → Stays
  offered_stays writer id count a t =
      let e = end_at ends (other writer) in
      subst (λ x. KeepsTo own (end_at x s)) (sym t.is)
      (sets_behind own ends s writer (sender.advance (end_at ends writer) id count) t.after (laws.advances own (end_at ends writer) id count) (λ k. laws.reads own (unkept e) t.after _ t.read k) h)

  lost_stays : (side : Side) (id : ℕ) → LosesNothing ends side id new → Stays
  lost_stays side id l = by_case l.is
    where
      read : KeepsTo own (end_at ends side) → KeepsTo own l.after
      read k = laws.reads own (unkept (end_at ends side)) l.after _ l.read k

      by_case : (new ≡ with_end ends side l.after) ⊎ ((l.after.kept ≡ []) × IsAsked l.after id (end_at new side) × (new ≡ with_end ends side (end_at new side))) → Stays
      by_case (inl is) = subst (λ x. KeepsTo own (end_at x s)) (sym is) (sets own ends s side l.after read h)
      by_case (inr (none, asked, is)) = subst (λ x. KeepsTo own (end_at x s)) (sym is) (sets own ends s side (end_at new side) (λ k. subst (KeepsTo own) (sym asked.is) (laws.asked own l.after id asked.old asked.asked (read k) asked.here asked.counts)) h)

  lacks_stays : (e : Event) (a : Answer) → LacksMemory ends e a new → Stays
  lacks_stays (event.OpenRequest side) (answer.Refused refusal.OutOfMemory) l = same l.1
  lacks_stays (event.Head side id head) (answer.Refused refusal.OutOfMemory) l = section_stays _ side id _ l
  lacks_stays (event.Fields side id fields) (answer.Refused refusal.OutOfMemory) l = list_stays _ side id fields l
  lacks_stays (event.Body side id bytes) (answer.Refused refusal.OutOfMemory) l = same l
  lacks_stays (event.Trailer side id trailer) (answer.Refused refusal.OutOfMemory) l = section_stays _ side id _ l
  lacks_stays (event.TrailerFields side id fields) (answer.Refused refusal.OutOfMemory) l = list_stays _ side id fields l
  lacks_stays (event.Cancel side id) (answer.Refused refusal.OutOfMemory) l = same l.1
  lacks_stays (event.Goaway side id) (answer.Refused refusal.OutOfMemory) l = same l.1
  lacks_stays (event.Deliver writer id count) (answer.Refused refusal.OutOfMemory) l = same l
  lacks_stays (event.DeliverEnd writer id) (answer.Refused refusal.OutOfMemory) l = same l.3
  lacks_stays (event.DeliverReset writer id) (answer.Refused refusal.OutOfMemory) l = same l.2
  lacks_stays (event.Deliver writer id count) (answer.Refused refusal.Kept) l = offered_stays writer id count _ l.2
  lacks_stays (event.DeliverEnd writer id) (answer.Refused refusal.Kept) l = stored_stays (other writer) (EndCame id) l.2
  lacks_stays (event.DeliverReset writer id) (answer.Refused refusal.Kept) l = stored_stays (other writer) (ResetCame id reset_code) l.1
  lacks_stays (event.Pull side id) (answer.Pulled (pull.Fault fault.Memory)) l = lost_stays side id l
  lacks_stays (event.PullFields side id) (answer.Listed (list.Fault fault.Memory)) l = lost_stays side id l
  lacks_stays e a l = absurd l

-- **One event, memory refused or not.**
pub quiet_step : QuietLaws → (setup : Setup) (ends new : Ends) (e : Event) (a : Answer) → QuietSides setup ends → EndsStep ends e a new → QuietSides setup new
quiet_step laws setup ends new e a quiet step = λ s. by_memory s (quiet s) (is_out_of_memory a) step
  where
    by_memory : (s : Side) → KeepsTo (announced_at setup s) (end_at ends s) → (b : Bool) → AnswerOf b ends e a new → KeepsTo (announced_at setup s) (end_at new s)
    by_memory s h true lacks = lacks_stays laws (announced_at setup s) ends new s h e a lacks
    by_memory s h false is = subst (λ x. KeepsTo (announced_at setup s) (end_at x s)) (sym is.1) (laws.event (announced_at setup s) ends s h e)

-- What is refused as malformed: sends alone.
abbrev malforms : Option Refusal → Bool
malforms None = false
malforms (Some r) = is_malformed r

if_malforms : (b : Bool) (r : Refusal) (later : Option Refusal) → is_malformed r ≡ false → malforms later ≡ false → malforms (if b then Some r else later) ≡ false
if_malforms true r later h k = h
if_malforms false r later h k = k

closed_malforms : (closed : Option ℕ) (r : Option Refusal) → malforms r ≡ false → malforms (closed_or closed r) ≡ false
closed_malforms (Some code) r h = refl
closed_malforms None r h = h

goes_so : (last : Option ℕ) (later : Option Refusal) → malforms later ≡ false → malforms (going_away last later) ≡ false
goes_so None later h = h
goes_so (Some id) later h = refl

opens_so : (side : Side) (last : Option ℕ) (next : ℕ) → malforms (refusal_to_open side last next) ≡ false
opens_so side last next = if_malforms _ refusal.NotClient _ refl (goes_so last _ (if_malforms _ refusal.IdsUsedUp None refl refl))

stops_so : (critical there over : Bool) → malforms (refusal_to_stop critical there over) ≡ false
stops_so critical there over = if_malforms critical refusal.Critical _ refl (if_malforms (not there) refusal.NotOpen _ refl (if_malforms over refusal.Ended None refl refl))

goaway_so : (side : Side) (id : ℕ) (last : Option ℕ) → malforms (refusal_of_goaway side id last) ≡ false
goaway_so side id last = if_malforms _ refusal.NotRequestId _ refl (by_last last)
  where
    by_last : (last : Option ℕ) → malforms (raised id last) ≡ false
    by_last None = refl
    by_last (Some earlier) = if_malforms _ (refusal.Raised earlier) None refl refl

request_so : (side : Side) (o : Option Incoming) → malforms (request_refusal side o) ≡ false
request_so Client None = refl
request_so Server None = refl
request_so Client (Some i) = if_malforms _ refusal.AfterEnd None refl refl
request_so Server (Some i) = if_malforms _ refusal.AfterEnd None refl refl

delivery_so : (e : EndpointHistory) (id : ℕ) (k : Kind) → malforms (refusal_at e id k) ≡ false
delivery_so e id Request = request_so e.side _
delivery_so e id ServerOpened = by_side e.side
  where
    by_side : (side : Side) → malforms (server_opened_refusal side) ≡ false
    by_side Client = refl
    by_side Server = refl
delivery_so e id OwnUnidirectional = refl
delivery_so e id PeerUnidirectional = if_malforms _ refusal.AfterEnd None refl refl

behind_so : (closed : Bool) (r : Option Refusal) → malforms r ≡ false → malforms (refused_behind closed r) ≡ false
behind_so closed (Some r) h = h
behind_so true None h = refl
behind_so false None h = refl

taken_so : (closed : Option ℕ) (r : Option Refusal) (e : EndpointHistory) (x : Found) → malforms r ≡ false → malforms (taken closed r e x).0 ≡ false
taken_so (Some code) r e x h = refl
taken_so None (Some r) e x h = h
taken_so None None e (f, None) h = refl
taken_so None None e (f, Some code) h = refl

arrives_so : (kept : List Arrival) (e : EndpointHistory) (a : Arrival) → malforms (arrives_behind kept e a).0 ≡ false
arrives_so [] e a = taken_so e.closed (delivery_refusal e (stream_of a)) e (read_arrival e a) (delivery_so e (stream_of a) _)
arrives_so (k ∷ kept) e a = taken_so e.closed (arrival_refusal e (stream_of a)) e _ (behind_so (is_closed_in e.kept (stream_of a)) (delivery_refusal e (stream_of a)) (delivery_so e (stream_of a) _))

told : (r : Option Refusal) (e f : EndpointHistory) → (does r e f).0 ≡ r
told None e f = refl
told (Some r) e f = refl

done_so : (ends : Ends) (side : Side) (success : Answer) (x : Option Refusal × EndpointHistory) → is_malformed_refusal success ≡ false → malforms x.0 ≡ false → is_malformed_refusal (done ends side success x).0 ≡ false
done_so ends side success (None, e) h k = h
done_so ends side success (Some r, e) h k = k

does_so : (ends : Ends) (side : Side) (success : Answer) (r : Option Refusal) (e f : EndpointHistory) → is_malformed_refusal success ≡ false → malforms r ≡ false → is_malformed_refusal (done ends side success (does r e f)).0 ≡ false
does_so ends side success None e f h k = h
does_so ends side success (Some r) e f h k = k

offered_so : (ends : Ends) (writer : Side) (id count : ℕ) (x : Option Refusal × EndpointHistory) → malforms x.0 ≡ false → is_malformed_refusal (was_offered ends writer id count x).0 ≡ false
offered_so ends writer id count (None, e) k = refl
offered_so ends writer id count (Some r, e) k = k

tested : (b c : Bool) (x y z : Answer × Ends) → is_malformed_refusal x.0 ≡ false → is_malformed_refusal y.0 ≡ false → is_malformed_refusal z.0 ≡ false → is_malformed_refusal (if b then x else (if c then y else z)).0 ≡ false
tested true c x y z h k l = h
tested false true x y z h k l = k
tested false false x y z h k l = l

pulled_so : (ends : Ends) (side : Side) (x : Pull × EndpointHistory) → is_malformed_refusal (was_pulled ends side x).0 ≡ false
pulled_so ends side (p, e) = refl

listed_so : (ends : Ends) (side : Side) (id : ℕ) (x : Pull × EndpointHistory) → is_malformed_refusal (was_listed ends side id x).0 ≡ false
listed_so ends side id (p, e) = refl

-- A send that is refused so is so where the end judges plainly, or by what the side does not read itself.
module _ (ends : Ends) where
  abbrev IsAlike : Answer × Ends → Answer × Ends → Type 0
  IsAlike x y = y ≡ (x.0, plain_ends x.1)

  abbrev IsOwn : Option Malformation → Answer → Type 0
  IsOwn own a = (why : Malformation) × (own ≡ Some why) × (a ≡ answer.Refused (refusal.Malformed why))

  refused_alike : (side : Side) (r q : Option Refusal) (f g : EndpointHistory) → (does q (plainly (end_at ends side)) g).0 ≡ (does r (end_at ends side) f).0
      → is_malformed_refusal (done ends side answer.Done (does r (end_at ends side) f)).0 ≡ true
      → IsAlike (done ends side answer.Done (does r (end_at ends side) f)) (done (plain_ends ends) side answer.Done (does q (plainly (end_at ends side)) g))
  refused_alike side None q f g same h = absurd (cc)
  refused_alike Client (Some r) q f g same h =
      subst (λ x. IsAlike (answer.Refused r, ends) (done (plain_ends ends) Client answer.Done (does x (plainly ends.client) g))) (sym (sym (told q (plainly ends.client) g) ∙ same)) refl
  refused_alike Server (Some r) q f g same h =
      subst (λ x. IsAlike (answer.Refused r, ends) (done (plain_ends ends) Server answer.Done (does x (plainly ends.server) g))) (sym (sym (told q (plainly ends.server) g) ∙ same)) refl

  own_refused : (side : Side) (r : Option Refusal) (f : EndpointHistory) (own : Option Malformation) → (why : Malformation) × (own ≡ Some why) × ((does r (end_at ends side) f).0 ≡ Some (refusal.Malformed why))
      → IsOwn own (done ends side answer.Done (does r (end_at ends side) f)).0
  own_refused side None f own is = absurd (let never : None ≡ Some (refusal.Malformed is.0) = is.2 in cc)
  own_refused side (Some r) f own is = (is.0, is.1, ap (λ o. answer.Refused (unwrap_or o r)) is.2)

  sent_alike : (side : Side) (call : EndpointHistory → Option Refusal × EndpointHistory) → IsAlike (done ends side answer.Done (call (end_at ends side))) (done (plain_ends ends) side answer.Done (call (plainly (end_at ends side))))
      → IsAlike (done ends side answer.Done (call (end_at ends side))) (done (plain_ends ends) side answer.Done (call (end_at (plain_ends ends) side)))
  sent_alike side call h = subst (λ x. IsAlike (done ends side answer.Done (call (end_at ends side))) (done (plain_ends ends) side answer.Done (call x))) (sym (at_end ends side)) h

  -- a call by its rules
  sent_so : (side : Side) (call : EndpointHistory → Option Refusal × EndpointHistory) (r q : Option Refusal) (f g : EndpointHistory) (own : Option Malformation) → call (end_at ends side) ≡ does r (end_at ends side) f
      → call (plainly (end_at ends side)) ≡ does q (plainly (end_at ends side)) g → SameUnless own (does r (end_at ends side) f).0 (does q (plainly (end_at ends side)) g).0
      → is_malformed_refusal (done ends side answer.Done (does r (end_at ends side) f)).0 ≡ true
      → IsAlike (done ends side answer.Done (call (end_at ends side))) (done (plain_ends ends) side answer.Done (call (end_at (plain_ends ends) side))) ⊎ IsOwn own (done ends side answer.Done (call (end_at ends side))).0
  sent_so side call r q f g own is plain_is (inl same) malformed =
      inl (sent_alike side call (subst (λ x. IsAlike (done ends side answer.Done x) (done (plain_ends ends) side answer.Done (call (plainly (end_at ends side))))) (sym is)
      (subst (λ x. IsAlike (done ends side answer.Done (does r (end_at ends side) f)) (done (plain_ends ends) side answer.Done x)) (sym plain_is) (refused_alike side r q f g same malformed))))
  sent_so side call r q f g own is plain_is (inr unread) malformed = inr (subst (λ x. IsOwn own (done ends side answer.Done x).0) (sym is) (own_refused side r f own unread))

-- it is what the side does not read, as it announced
refuses_own : (lacks : Type 0) (own : Option Malformation) (a : Answer) → (why : Malformation) × (own ≡ Some why) × (a ≡ answer.Refused (refusal.Malformed why)) → IsRefusedUnread lacks own a
refuses_own lacks own a is = subst (λ o. IsRefusedUnread lacks o a) (sym is.1) (subst (IsRefusedUnread lacks (Some is.0)) (sym is.2) refl)

-- **Any event.**
pub refuses_plainly : QuietLaws → (setup : Setup) (ends : Ends) (e : Event) → QuietSides setup ends → RefusesPlainly setup ends e
refuses_plainly laws setup ends e quiet = by_event e
  where
    alike : (side : Side) → asks_for_strict setup side ≡ false → RefusesAlike (end_at ends side)
    alike side plain = laws.sends (announced_at setup side) (end_at ends side) ((quiet side).1 plain)

    -- no such event is refused so
    by_none : (e : Event) → is_malformed_refusal (answered ends e).0 ≡ false → RefusesPlainly setup ends e
    by_none e unmalformed = λ plain malformed. absurd (let never : false ≡ true = sym unmalformed ∙ malformed in cc)

    -- by what the side does not read, as it announced
    by_own : {A : Type 0} (side : Side) (lacks : Type 0) (unread : Announced → Option Malformation) (a : Answer) → A ⊎ IsOwn ends (unread (end_at ends side).announced) a → A ⊎ IsRefusedUnread lacks (unread (announced_at setup side)) a
    by_own side lacks unread a (inl same) = inl same
    by_own side lacks unread a (inr own) = inr (subst (λ x. IsRefusedUnread lacks (unread x) a) (quiet side).0 (refuses_own lacks (unread (end_at ends side).announced) a own))

    by_event : (e : Event) → RefusesPlainly setup ends e
    by_event (event.Head side id head) = λ plain malformed.
        let x = end_at ends side in
        by_own side (Unit {0}) (λ own. broken_protocol own head) (answered ends (event.Head side id head)).0
        (sent_so ends side (λ v. sender.send_head v id head) (sender.head_refusal x id head) (sender.head_refusal (plainly x) id head) _ _ (broken_protocol x.announced head) refl refl ((alike side plain).head id head) malformed)
    by_event (event.Fields side id fields) = λ plain malformed.
        let x = end_at ends side in
        by_own side (24576 < length fields) (λ own. unreadable (takes_any own) fields) (answered ends (event.Fields side id fields)).0
        (sent_so ends side (λ v. send_fields v id fields) (fields_refusal x id fields) (fields_refusal (plainly x) id fields) _ _ (unreadable (takes_any x.announced) fields) refl refl ((alike side plain).fields id fields) malformed)
    by_event (event.Body side id bytes) = λ plain malformed.
        let x = end_at ends side in
        inl (sent_alike ends side (λ v. sender.send_body v id bytes)
        (refused_alike ends side (sender.body_refusal x id (length bytes)) (sender.body_refusal (plainly x) id (length bytes)) _ _ ((alike side plain).body id bytes) malformed))
    by_event (event.Trailer side id trailer) = λ plain malformed.
        let x = end_at ends side in
        by_own side (Unit {0}) (λ own. broken_protocol own trailer) (answered ends (event.Trailer side id trailer)).0
        (sent_so ends side (λ v. sender.send_trailer v id trailer) (sender.trailer_refusal x id trailer) (sender.trailer_refusal (plainly x) id trailer) _ _ (broken_protocol x.announced trailer) refl refl ((alike side plain).trailer id trailer) malformed)
    by_event (event.TrailerFields side id fields) = λ plain malformed.
        let x = end_at ends side in
        by_own side (24576 < length fields) (λ own. unreadable (takes_any own) fields) (answered ends (event.TrailerFields side id fields)).0
        (sent_so ends side (λ v. send_trailer_fields v id fields) (trailer_fields_refusal x id fields) (trailer_fields_refusal (plainly x) id fields) _ _ (unreadable (takes_any x.announced) fields) refl refl ((alike side plain).trailer_fields id fields) malformed)
    by_event (event.Finish side id) = λ plain malformed.
        let x = end_at ends side in
        inl (sent_alike ends side (λ v. sender.finish v id)
        (refused_alike ends side (sender.finish_refusal x id) (sender.finish_refusal (plainly x) id) _ _ ((alike side plain).end id) malformed))
    by_event (event.OpenRequest side) = by_none (event.OpenRequest side) (does_so ends side (answer.Opened (end_at ends side).next_id) (sender.open_refusal (end_at ends side)) (end_at ends side) _ refl
        (closed_malforms (end_at ends side).closed _ (opens_so (end_at ends side).side (last_id (end_at ends side).peer.goaways) (end_at ends side).next_id)))
    by_event (event.Reset side id) = by_none (event.Reset side id) (does_so ends side answer.Done (sender.reset_refusal (end_at ends side) id) (end_at ends side) _ refl (closed_malforms (end_at ends side).closed _ (stops_so _ _ _)))
    by_event (event.Cancel side id) = by_none (event.Cancel side id) (does_so ends side answer.Done (sender.cancel_refusal (end_at ends side) id) (end_at ends side) _ refl (closed_malforms (end_at ends side).closed _ (stops_so _ _ _)))
    by_event (event.Goaway side id) = by_none (event.Goaway side id) (does_so ends side answer.Done (sender.goaway_refusal (end_at ends side) id) (end_at ends side) _ refl
        (closed_malforms (end_at ends side).closed _ (goaway_so (end_at ends side).side id (last_id (end_at ends side).own.goaways))))
    by_event (event.Deliver side id count) =
        let came = BytesCame id (take count (bytes_waiting (end_at ends side) id)) in
        let reader = end_at ends (other side) in
        by_none (event.Deliver side id count) (tested (not (has_outgoing (end_at ends side) id)) (nat_lt (waiting (end_at ends side) id) count) _ _ _ refl refl
        (offered_so ends side id count (arrives reader came) (arrives_so reader.kept reader came)))
    by_event (event.DeliverEnd side id) =
        let reader = end_at ends (other side) in
        by_none (event.DeliverEnd side id) (tested (not (has_outgoing (end_at ends side) id)) (not (is_finished (end_at ends side) id && (waiting (end_at ends side) id == 0))) _ _ _ refl refl
        (done_so ends (other side) answer.Done (arrives reader (EndCame id)) refl (arrives_so reader.kept reader (EndCame id))))
    by_event (event.DeliverReset side id) =
        let reader = end_at ends (other side) in
        by_none (event.DeliverReset side id) (tested (not (has_outgoing (end_at ends side) id)) (not (is_reset (end_at ends side) id)) _ _ _ refl refl
        (done_so ends (other side) answer.Done (arrives reader (ResetCame id reset_code)) refl (arrives_so reader.kept reader (ResetCame id reset_code))))
    by_event (event.Pull side id) = by_none (event.Pull side id) (pulled_so ends side (pulls (end_at ends side) id))
    by_event (event.PullFields side id) = by_none (event.PullFields side id) (listed_so ends side id (pulls (end_at ends side) id))
    by_event (event.Show side) = by_none (event.Show side) refl
