-- A run of two endpoints of which nothing is known of what sends first is one of the endpoints themselves, whatever sends first there.
use Rattle.std.proofs.Common.{◌≡◌, ◌≢◌, ◌≤◌, ◌⊎◌, inl, inr, ℕ, Bool, true, false, List, [], ◌∷◌, ◌++◌, length, take, refl, sym, ap, subst, ◌∙◌, Option, Some, None}
use Rattle.h3_field.specs.Field.{Field}
use Rattle.h3_proto.specs.declared.stream.Side.{Side}
use Rattle.h3_proto.specs.declared.stream.Side.TheVariants.{Client, Server}
use Rattle.h3_frames.specs.declared.frame.kinds.FrameKinds.{FrameKinds}
use Rattle.h3_connection.specs.Arrivals.{stream_of}
use Rattle.h3_connection.specs.Control.{Found, are_refused}
use Rattle.h3_connection.specs.Delivering.{unidirectional_at, with_incoming, with_unidirectional}
use Rattle.h3_connection.specs.Endpoint.{EndpointHistory, bytes_waiting, kind_of, limit_of}
use Rattle.h3_connection.specs.Endpoint.Kind.{Request}
use Rattle.h3_connection.specs.Keeping.{keeping, read_arrival, settles, unkept}
use Rattle.h3_connection.specs.OwnIds.{other}
use Rattle.h3_connection.specs.PartReading.{PeerReadsPart, ReadsOn, ReadsPart, after_frames, early, held}
use Rattle.h3_connection.specs.PartReading.{ReadsWhole, ReadsFront, Holds, ReadsFrames, Hears, Listens}
use Rattle.h3_connection.specs.PartReading.{Stops, Goes}
use Rattle.h3_connection.specs.PeerReading.{Peer, PeerFound, read_peer, with_unread}
use Rattle.h3_connection.specs.ReceivingContracts.{IsTaken}
use Rattle.h3_connection.specs.Sections.{with_insertions}
use Rattle.h3_connection.specs.Sending as sender
use Rattle.h3_connection.specs.Shown.{has_outgoing, is_finished, is_reset, waiting}
use Rattle.h3_connection.specs.StrictConnection.{kinds_of, known_streams}
use Rattle.h3_connection.specs.Unidirectional.{role_after, with_bytes}
use Rattle.h3_connection.specs.declared.arrival.Arrival.{Arrival}
use Rattle.h3_connection.specs.declared.arrival.Arrival.TheVariants.{BytesCame, EndCame, ResetCame}
use Rattle.h3_connection.specs.declared.event.Refusal.{Refusal}
use Rattle.h3_connection.specs.declared.event.Refusal.TheVariants as refusal
use Rattle.h3_world.specs.Delivering.{reset_code}
use Rattle.h3_world.specs.EndLists.{send_fields, send_trailer_fields}
use Rattle.h3_world.specs.Ends.{Ends, answered, end_at, with_end}
use Rattle.h3_world.specs.Headline.{is_out_of_memory}
use Rattle.h3_world.specs.declared.event.Answer.{Answer}
use Rattle.h3_world.specs.declared.event.Event.{Event}
use Rattle.h3_memory.specs.Refused.{AnswerOf, CutsList, EndsRun, EndsStep, IsAsked, LacksMemory, LosesNothing, Stores, handed_over}
use Rattle.h3_c.proofs.UnheardUpdates.{peer_unheard, so_heard, unheard}
use Rattle.h3_c.proofs.Unordered.{advance_unordered, bytes_unordered, finished_unordered, has_unordered, keeps_plain, reset_unordered, unordered}
use Rattle.h3_c.proofs.UnorderedSteps.{answered_unordered, both_unordered, end_unordered, with_end_unordered}
use Rattle.h3_c.proofs.Views.{plain}
use Rattle.h3_c.proofs.ViewsMemory.{Cancels, GoesAway, KeepsBytes, KeepsEnd, KeepsReset, LacksOf, Opens, Pulls, SendsBody, SendsFields, SendsTrailer, TakesNoEnd, TakesNoReset, TakesNone, lacking, lacks_of}
use Rattle.h3_c.proofs.ViewsReading as reading
use Rattle.h3_c.proofs.ViewsSending as sending
use Rattle.h3_c.proofs.ViewsSteps.{AreOfC, IsOfC}

-- what is refused is refused alike
at_end : {X : Type 0} (ends : Ends) (side : Side) (f : EndpointHistory → X) → ((e : EndpointHistory) → f (unordered e) ≡ f e) → f (end_at (both_unordered ends) side) ≡ f (end_at ends side)
at_end ends side f alike = ap f (end_unordered ends side) ∙ alike (end_at ends side)

handed_unordered : (ends : Ends) (writer : Side) (id count : ℕ) → handed_over (both_unordered ends) writer id count ≡ both_unordered (handed_over ends writer id count)
handed_unordered ends writer id count =
    ap (λ e. with_end (both_unordered ends) writer (sender.advance e id count)) (end_unordered ends writer) ∙ ap (λ e. with_end (both_unordered ends) writer e) (advance_unordered (end_at ends writer) id count)
    ∙ with_end_unordered ends writer (sender.advance (end_at ends writer) id count)

-- What is read of what came.
record FoundOf (e : EndpointHistory) (a : Arrival) (y : EndpointHistory) : Type 0 where
  new : EndpointHistory
  read : read_arrival e a ≡ (new, None)
  is : y ≡ unordered new

found_by : (e : EndpointHistory) (a : Arrival) (y : EndpointHistory) (found : Found) → read_arrival e a ≡ found → reading.so_found plain keeps_plain.new found ≡ (y, None) → FoundOf e a y
found_by e a y (new, code) at is = record { new = new; read = at ∙ ap (λ (x : Found). let z : Found = (new, x.1) in z) is; is = sym (ap (λ (x : Found). x.0) is) }

found_ordered : (e : EndpointHistory) (a : Arrival) (y : EndpointHistory) → read_arrival (unordered e) a ≡ (y, None) → FoundOf e a y
found_ordered e a y is = found_by e a y (read_arrival e a) refl (sym (reading.arrival_seen plain keeps_plain.new e a) ∙ is)

record PartOf (kinds : FrameKinds) (limit : ℕ) (side : Side) (old y : Peer) : Type 0 where
  new : Peer
  part : PeerReadsPart kinds limit side old new
  is : y ≡ unheard new

part_by : (kinds : FrameKinds) (limit : ℕ) (side : Side) (old y : Peer) (front rest : List ℕ) → old.unread ≡ front ++ rest → (read : Peer) → y ≡ with_unread read (read.unread ++ rest)
    → (found : PeerFound) → read_peer kinds limit side (with_unread old front) ≡ found → so_heard found ≡ (read, None) → PartOf kinds limit side old y
part_by kinds limit side old y front rest cut read left (p, fault) at is =
    record {
      new = with_unread p (p.unread ++ rest);
      part = record { front = front; rest = rest; cut = cut; read = p; reads = at ∙ ap (λ (x : PeerFound). let z : PeerFound = (p, x.1) in z) is; left = refl };
      is = left ∙ ap (λ (x : PeerFound). with_unread x.0 (x.0.unread ++ rest)) (sym is);
    }

part_ordered : (kinds : FrameKinds) (limit : ℕ) (side : Side) (old y : Peer) → PeerReadsPart kinds limit side (unheard old) y → PartOf kinds limit side old y
part_ordered kinds limit side old y part =
    let p = with_unread old part.front in
    part_by kinds limit side old y part.front part.rest part.cut part.read part.left (read_peer kinds limit side p) refl (sym (peer_unheard kinds limit side p) ∙ part.reads)

record OnOf (e : EndpointHistory) (arrivals : List Arrival) (y : EndpointHistory) (more : List Arrival) : Type 0 where
  new : EndpointHistory
  on : ReadsOn e arrivals new more
  is : y ≡ unordered new

on_ordered : (e : EndpointHistory) {y : EndpointHistory} {arrivals more : List Arrival} → ReadsOn (unordered e) arrivals y more → OnOf e arrivals y more
on_ordered e {y = y} (ReadsWhole {a = a} is) = let f = found_ordered e a y is in record { new = f.new; on = ReadsWhole f.read; is = f.is }
on_ordered e {y = y} (ReadsFront front rest {id = id} is) =
    let f = found_ordered e (BytesCame id front) y is in record { new = f.new; on = ReadsFront front rest f.read; is = f.is }
on_ordered e (Holds {id = id} {bytes = bytes} {more = more} kind reader) =
    let o = unidirectional_at e id in
    let read = role_after (known_streams e.announced) o.role bytes in
    record { new = held e id bytes; on = Holds kind reader; is = reading.held_as_seen plain keeps_plain.new (with_unidirectional e id (with_bytes o read)) id read }
on_ordered e (ReadsFrames {id = id} {p = p} {more = more} on may part) =
    let q = part_ordered (kinds_of e.announced) (limit_of e) e.side e.peer p part in
    let taken : are_refused e e.peer.settings q.new.settings ≡ false = subst (λ (x : Peer). are_refused e e.peer.settings x.settings ≡ false) q.is may.taken in
    let frames : OnOf e (BytesCame id [] ∷ more) (after_frames (unordered e) (unheard q.new)) (BytesCame id [] ∷ early (unordered e) (unheard q.new) ++ more) = record {
      new = after_frames e q.new;
      on = ReadsFrames on (record { first = may.first; taken = taken }) q.part;
      is = reading.if_learned_seen plain keeps_plain.new e.peer.settings q.new.settings (record e { peer = q.new });
    } in
    subst (λ x. OnOf e (BytesCame id [] ∷ more) (after_frames (unordered e) x) (BytesCame id [] ∷ early (unordered e) x ++ more)) (sym q.is) frames
on_ordered e (Hears on part) = record { new = _; on = Hears on part; is = refl }
on_ordered e (Listens on settings part) = record { new = _; on = Listens on settings part; is = refl }

record ReadOf (e : EndpointHistory) (arrivals : List Arrival) (y : EndpointHistory) : Type 0 where
  new : EndpointHistory
  read : ReadsPart e arrivals new
  is : y ≡ unordered new

read_ordered : {x y : EndpointHistory} {arrivals : List Arrival} → ReadsPart x arrivals y → (e : EndpointHistory) → x ≡ unordered e → ReadOf e arrivals y
read_ordered (Stops {rest = rest}) e is = record { new = keeping e rest; read = Stops; is = ap (λ z. keeping z rest) is ∙ reading.keeping_seen plain keeps_plain.new e rest }
read_ordered {arrivals = arrivals} (Goes {next = next} {more = more} on part) e is =
    let first = on_ordered e (subst (λ z. ReadsOn z arrivals next more) is on) in
    let rest = read_ordered part first.new first.is in
    record { new = rest.new; read = Goes first.on rest.read; is = rest.is }

-- one end of both
end_of : (ends : Ends) (side : Side) (e : EndpointHistory) → end_at (with_end ends side e) side ≡ e
end_of ends Client e = refl
end_of ends Server e = refl

end_is : (ends : Ends) (side : Side) (after e : EndpointHistory) → after ≡ unordered e → with_end (both_unordered ends) side after ≡ both_unordered (with_end ends side e)
end_is ends side after e is = ap (λ z. with_end (both_unordered ends) side z) is ∙ with_end_unordered ends side e

-- What a step leaves, where memory is refused.
record StoredOf (ends x : Ends) (reader : Side) (a : Arrival) (sent : Ends) : Type 0 where
  new : Ends
  stores : Stores ends reader a sent new
  is : x ≡ both_unordered new

record LosesOf (ends x : Ends) (side : Side) (id : ℕ) : Type 0 where
  new : Ends
  loses : LosesNothing ends side id new
  is : x ≡ both_unordered new

record CutsSo (ends x : Ends) (r : Option Refusal) (side : Side) (id : ℕ) (fields : List Field) : Type 0 where
  new : Ends
  cuts : CutsList r ends side id fields new
  is : x ≡ both_unordered new

record LacksSo (ends x : Ends) (e : Event) (a : Answer) : Type 0 where
  new : Ends
  lacks : LacksMemory ends e a new
  is : x ≡ both_unordered new

module _ (ends x : Ends) where
  takes_ordered : (side : Side) (id : ℕ) → IsTaken (end_at (both_unordered ends) side) id → IsTaken (end_at ends side) id
  takes_ordered side id t = let u = subst (λ e. IsTaken e id) (end_unordered ends side) t in record { open_still = u.open_still; accepted = u.accepted }

  stores_ordered : (reader : Side) (a : Arrival) (sent : Ends) → Stores (both_unordered ends) reader a (both_unordered sent) x → StoredOf ends x reader a sent
  stores_ordered reader a sent s =
      let e = end_at ends reader in
      let r = read_ordered (subst (λ z. ReadsPart (unkept z) (z.kept ++ a ∷ []) s.after) (end_unordered ends reader) s.read) (unkept e) refl in
      record {
        new = with_end sent reader r.new;
        stores = record {
          taken = takes_ordered reader (stream_of a) s.taken;
          behind = subst (λ z. kind_of z.side (stream_of a) ≡ Request → z.kept ≢ []) (end_unordered ends reader) s.behind;
          after = r.new;
          read = r.read;
          some = subst (λ z. z.kept ≢ []) r.is s.some;
          is = refl;
        };
        is = s.is ∙ end_is sent reader s.after r.new r.is;
      }

  loses_ordered : (side : Side) (id : ℕ) → LosesNothing (both_unordered ends) side id x → LosesOf ends x side id
  loses_ordered side id l = by l.is
    where
      unsettled : settles (end_at ends side) id ≡ false
      unsettled = subst (λ e. settles e id ≡ false) (end_unordered ends side) l.unsettled

      r : ReadOf (unkept (end_at ends side)) (end_at ends side).kept l.after
      r = read_ordered (subst (λ z. ReadsPart (unkept z) z.kept l.after) (end_unordered ends side) l.read) (unkept (end_at ends side)) refl

      by : (x ≡ with_end (both_unordered ends) side l.after) ⊎ ((l.after.kept ≡ []) × IsAsked l.after id (end_at x side) × (x ≡ with_end (both_unordered ends) side (end_at x side))) → LosesOf ends x side id
      by (inl is) = record {
        new = with_end ends side r.new;
        loses = record { unsettled = unsettled; after = r.new; read = r.read; is = inl refl };
        is = is ∙ end_is ends side l.after r.new r.is;
      }
      by (inr (none, asked, is)) =
          let k = subst (λ z. IsAsked z id (end_at x side)) r.is asked in
          let new = with_incoming r.new id k.asked in
          record {
            new = with_end ends side new;
            loses = record {
              unsettled = unsettled;
              after = r.new;
              read = r.read;
              is = inr (
                subst (λ z. z.kept ≡ []) r.is none,
                record { old = k.old; asked = k.asked; here = k.here; resumes = k.resumes; plainly = k.plainly; counts = k.counts; is = end_of ends side new },
                ap (λ z. with_end ends side z) (sym (end_of ends side new)),
              );
            };
            is = is ∙ end_is ends side (end_at x side) new k.is;
          }

  -- a list that was cut off
  cuts_ordered : (r : Option Refusal) (side : Side) (id : ℕ) (fields : List Field) → CutsList r (both_unordered ends) side id fields x → CutsSo ends x r side id fields
  cuts_ordered None side id fields c =
      let front = take c.front fields in
      record {
        new = with_end ends side (with_insertions (end_at ends side) id front);
        cuts = record { front = c.front; within = c.within; is = refl };
        is = c.is ∙ ap (λ e. with_end (both_unordered ends) side (with_insertions e id front)) (end_unordered ends side)
            ∙ with_end_unordered ends side (with_insertions (end_at ends side) id front);
      }
  cuts_ordered (Some (refusal.TooLarge size)) side id fields c = record { new = ends; cuts = refl; is = c }
  cuts_ordered (Some (refusal.Malformed why)) side id fields c = record { new = ends; cuts = (c.0, refl); is = c.1 }
  cuts_ordered (Some refusal.WrongSide) side id fields c = record { new = ends; cuts = (c.0, refl); is = c.1 }
  cuts_ordered (Some refusal.PseudoInTrailer) side id fields c = record { new = ends; cuts = (c.0, refl); is = c.1 }
  cuts_ordered (Some (refusal.Closed code)) side id fields c = absurd c
  cuts_ordered (Some (refusal.Connection code)) side id fields c = absurd c
  cuts_ordered (Some refusal.NotReceiving) side id fields c = absurd c
  cuts_ordered (Some refusal.AfterEnd) side id fields c = absurd c
  cuts_ordered (Some refusal.Kept) side id fields c = absurd c
  cuts_ordered (Some refusal.NotClient) side id fields c = absurd c
  cuts_ordered (Some (refusal.GoingAway going)) side id fields c = absurd c
  cuts_ordered (Some refusal.IdsUsedUp) side id fields c = absurd c
  cuts_ordered (Some refusal.NotOpen) side id fields c = absurd c
  cuts_ordered (Some refusal.OutOfOrder) side id fields c = absurd c
  cuts_ordered (Some refusal.Critical) side id fields c = absurd c
  cuts_ordered (Some refusal.Ended) side id fields c = absurd c
  cuts_ordered (Some refusal.NotRequestId) side id fields c = absurd c
  cuts_ordered (Some (refusal.Raised raised)) side id fields c = absurd c
  cuts_ordered (Some refusal.OutOfMemory) side id fields c = absurd c

  lists : (side : Side) (id : ℕ) (fields : List Field) (call : EndpointHistory → Option Refusal) → ((e : EndpointHistory) → call (unordered e) ≡ call e)
      → CutsList (call (end_at (both_unordered ends) side)) (both_unordered ends) side id fields x → CutsSo ends x (call (end_at ends side)) side id fields
  lists side id fields call alike c =
      cuts_ordered (call (end_at ends side)) side id fields (subst (λ r. CutsList r (both_unordered ends) side id fields x) (at_end ends side call alike) c)

  same : {X : Type 0} (side : Side) (f : EndpointHistory → X) (y : X) → ((e : EndpointHistory) → f (unordered e) ≡ f e) → f (end_at (both_unordered ends) side) ≡ y → f (end_at ends side) ≡ y
  same side f y alike h = sym (at_end ends side f alike) ∙ h

  finished : (writer : Side) (id : ℕ) → is_finished (end_at (both_unordered ends) writer) id ≡ true → is_finished (end_at ends writer) id ≡ true
  finished writer id h = same writer (λ e. is_finished e id) true (λ e. finished_unordered e id) h

  none_waits : (writer : Side) (id : ℕ) → waiting (end_at (both_unordered ends) writer) id ≡ 0 → waiting (end_at ends writer) id ≡ 0
  none_waits writer id h = same writer (λ e. waiting e id) 0 (λ e. ap (λ l. length l) (bytes_unordered e id)) h

  was_reset : (writer : Side) (id : ℕ) → is_reset (end_at (both_unordered ends) writer) id ≡ true → is_reset (end_at ends writer) id ≡ true
  was_reset writer id h = same writer (λ e. is_reset e id) true (λ e. reset_unordered e id) h

  lacks_ordered : (e : Event) (a : Answer) → LacksOf e a → LacksMemory (both_unordered ends) e a x → LacksSo ends x e a
  lacks_ordered _ _ (Opens {side = side}) h = record { new = ends; lacks = (same side (λ e. (sender.open_request e).0) None (λ e. ap (λ x. x.0) (sending.open_request_seen plain keeps_plain e)) h.0, refl); is = h.1 }
  lacks_ordered _ _ (SendsFields {side = side} {id = id} {fields = fields}) h =
      let c = lists side id fields (λ e. (send_fields e id fields).0) (λ e. ap (λ x. x.0) (sending.fields_sent_seen plain keeps_plain e id fields)) h in record { new = c.new; lacks = c.cuts; is = c.is }
  lacks_ordered _ _ (SendsBody {side = side} {id = id} {bytes = bytes}) h = record { new = ends; lacks = refl; is = h }
  lacks_ordered _ _ (SendsTrailer {side = side} {id = id} {fields = fields}) h =
      let c = lists side id fields (λ e. (send_trailer_fields e id fields).0) (λ e. ap (λ x. x.0) (sending.trailer_sent_seen plain keeps_plain e id fields)) h in record { new = c.new; lacks = c.cuts; is = c.is }
  lacks_ordered _ _ (Cancels {side = side} {id = id}) h = record { new = ends; lacks = (same side (λ e. (sender.cancel e id).0) None (λ e. ap (λ x. x.0) (sending.cancel_seen plain keeps_plain e id)) h.0, refl); is = h.1 }
  lacks_ordered _ _ (GoesAway {side = side} {id = id}) h = record { new = ends; lacks = (same side (λ e. (sender.goaway e id).0) None (λ e. ap (λ x. x.0) (sending.goaway_seen plain keeps_plain e id)) h.0, refl); is = h.1 }
  lacks_ordered _ _ (TakesNone {writer = writer} {id = id} {count = count}) h = record { new = ends; lacks = refl; is = h }
  lacks_ordered _ _ (TakesNoEnd {writer = writer} {id = id}) h =
      record { new = ends; lacks = (finished writer id h.0, none_waits writer id h.1, takes_ordered (other writer) id h.2, refl); is = h.3 }
  lacks_ordered _ _ (TakesNoReset {writer = writer} {id = id}) h = record { new = ends; lacks = (was_reset writer id h.0, takes_ordered (other writer) id h.1, refl); is = h.2 }
  lacks_ordered _ _ (KeepsBytes {writer = writer} {id = id} {count = count}) (there, fits, kept) =
      let waits = at_end ends writer (λ e. bytes_waiting e id) (λ e. bytes_unordered e id) in
      let front = BytesCame id (take count (bytes_waiting (end_at ends writer) id)) in
      let s = stores_ordered (other writer) front (handed_over ends writer id count)
      (subst (λ z. Stores (both_unordered ends) (other writer) front z x) (handed_unordered ends writer id count)
      (subst (λ l. Stores (both_unordered ends) (other writer) (BytesCame id (take count l)) (handed_over (both_unordered ends) writer id count) x) waits kept)) in
      record {
        new = s.new;
        lacks = (same writer (λ e. has_outgoing e id) true (λ e. has_unordered e id) there, subst (λ (l : List ℕ). count ≤ length l) waits fits, s.stores);
        is = s.is;
      }
  lacks_ordered _ _ (KeepsEnd {writer = writer} {id = id}) h =
      let s = stores_ordered (other writer) (EndCame id) ends h.2 in record { new = s.new; lacks = (finished writer id h.0, none_waits writer id h.1, s.stores); is = s.is }
  lacks_ordered _ _ (KeepsReset {writer = writer} {id = id}) h =
      let s = stores_ordered (other writer) (ResetCame id reset_code) ends h.1 in record { new = s.new; lacks = (was_reset writer id h.0, s.stores); is = s.is }
  lacks_ordered _ _ (Pulls {side = side} {id = id}) h = let l = loses_ordered side id h in record { new = l.new; lacks = l.loses; is = l.is }

-- a step
record StepOf (ends : Ends) (e : Event) (a : Answer) (x : Ends) : Type 0 where
  new : Ends
  step : EndsStep ends e a new
  is : x ≡ both_unordered new

step_ordered : (ends x : Ends) (e : Event) (a : Answer) → IsOfC e → EndsStep (both_unordered ends) e a x → StepOf ends e a x
step_ordered ends x e a of step = by (is_out_of_memory a) refl
  where
    by : (b : Bool) → is_out_of_memory a ≡ b → StepOf ends e a x
    by true is =
        let lacks = subst (λ c. AnswerOf c (both_unordered ends) e a x) is step in
        let l = lacks_ordered ends x e a (lacks_of (both_unordered ends) x e a of (lacking a is) lacks) lacks in
        record { new = l.new; step = subst (λ c. AnswerOf c ends e a l.new) (sym is) l.lacks; is = l.is }
    by false is =
        let answers = subst (λ c. AnswerOf c (both_unordered ends) e a x) is step in
        let alike = answered_unordered ends e of in
        let new = (answered ends e).1 in
        record {
          new = new;
          step = subst (λ c. AnswerOf c ends e a new) (sym is) (answers.0 ∙ ap (λ y. y.0) alike, refl);
          is = answers.1 ∙ ap (λ y. y.1) alike;
        }

pub record RunOf (ends : Ends) (events : List Event) (answers : List Answer) : Type 0 where
  pub new : Ends
  pub run : EndsRun ends events answers new

-- **So each run is one of these.**
pub run_ordered : (events : List Event) (answers : List Answer) (ends x : Ends) → AreOfC events → EndsRun (both_unordered ends) events answers x → RunOf ends events answers
run_ordered [] [] ends x of run = record { new = ends; run = refl }
run_ordered (e ∷ events) (a ∷ answers) ends x of (mid, step, rest) =
    let first = step_ordered ends mid e a of.0 step in
    let later = run_ordered events answers first.new x of.1 (subst (λ z. EndsRun z events answers x) first.is rest) in
    record { new = later.new; run = (first.new, first.step, later.run) }
run_ordered [] (a ∷ answers) ends x of run = absurd run
run_ordered (e ∷ events) [] ends x of run = absurd run
