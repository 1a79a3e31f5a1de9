-- A pull that is refused memory hands nothing out, and reads a part of what its side keeps; or it reads all, and the stream goes on as if it had not
-- been asked.
use Rattle.std.proofs.Common.{◌≡◌, ◌⊎◌, inl, inr, ℕ, Bool, false, List, [], ◌∷◌, ◌++◌, refl, sym, ap, ◌∙◌, subst, Option, Some, None}
use Rattle.std.specs.List.{concat}
use Rattle.h3_proto.specs.declared.stream.Side.{Side}
use Rattle.h3_proto.specs.declared.stream.Side.TheVariants.{Client, Server}
use Rattle.h3_connection.specs.declared.arrival.Arrival.{Arrival}
use Rattle.h3_connection.specs.declared.setup.Announced.{Announced}
use Rattle.h3_connection.specs.Delivering.{with_incoming}
use Rattle.h3_connection.specs.Endpoint.{EndpointHistory}
use Rattle.h3_connection.specs.Incoming.{Incoming, is_body}
use Rattle.h3_connection.specs.Keeping.{keeping, settles}
use Rattle.h3_connection.specs.OwnIds.{other}
use Rattle.h3_connection.specs.PartReading.{with_more}
use Rattle.h3_connection.specs.Pulling.{Pulled, pull_stream}
use Rattle.h3_qpack.specs.DecoderState.{DecoderState}
use Rattle.h3_connection.specs.Coming.{fields_next}
use Rattle.h3_connection.specs.PartReading.{HasNoSection, IsBetweenFrames, Resumes, StandsNext}
use Rattle.h3_connection.specs.Skipping.{skipped}
use Rattle.h3_connection.specs.StreamSets.{Streams, stream_at, set_stream}
use Rattle.h3_connection.specs.StrictConnection.{kinds_of}
use Rattle.h3_world.specs.Setup.{Setup}
use Rattle.h3_world.specs.Ends.{Ends, end_at, with_end}
use Rattle.h3_world.specs.World.{World}
use Rattle.h3_headline.specs.SendingLaws.{both_of}
use Rattle.h3_headline.specs.SettledPullLaws.{set_same}
use Rattle.h3_headline.specs.Standing.{StandsAt}
use Rattle.h3_memory.specs.Kept.{Delivery, Bytes, End, Reset, KeepingWorld, kept_at, with_kept, noticed_all, is_settled, ReadsPart}
use Rattle.h3_memory.specs.Keeping.{AreKept, StandsKeeping, EachResumes, ahead}
use Rattle.h3_memory.specs.MemoryStep.{HandsNothingOut}
use Rattle.h3_memory.specs.Refused.{IsAsked, LosesNothing}
use Rattle.h3_memory.proofs.AheadPulls.{ResumesAt, at_resumed, set_resumed, settles_ahead}
use Rattle.h3_memory.proofs.CatchesUp.{keeping_so, standing_of}
use Rattle.h3_memory.proofs.KeptArrivals.{Notices}
use Rattle.h3_memory.proofs.PartRuns.{PartRead}
use Rattle.h3_memory.proofs.ReadingEnds.{ends_of}
use Rattle.h3_memory.proofs.ReadingState.{Reading}
use Rattle.h3_memory.proofs.SendingEvents.{keeps_at}
use Rattle.h3_memory.proofs.Settling.{settles_there}
use Rattle.h3_memory.proofs.UnsettledPull.{ends_are}

-- What comes of it.
pub record HandsNothing (setup : Setup) (k : KeepingWorld) (side : Side) (id : ℕ) (new : Ends) : Type 0 where
  pub next : KeepingWorld
  pub hands : HandsNothingOut setup k side id next
  pub stands : StandsKeeping setup next new

keeping_left : (k : KeepingWorld) (side : Side) (v : World) (left : List Delivery) → keeping_so side v (kept_at k (other side)) left ≡ with_kept k side v left
keeping_left k Client v left = refl
keeping_left k Server v left = refl

left_is : (k : KeepingWorld) (side : Side) (v : World) (left : List Delivery) → kept_at (with_kept k side v left) side ≡ left
left_is k Client v left = refl
left_is k Server v left = refl

hands_nothing : (setup : Setup) (k : KeepingWorld) (side : Side) (id : ℕ) (mid v : World) (left : List Delivery) → is_settled k.world side id ≡ false
    → ReadsPart setup (other side) k.world (kept_at k side) mid left → v ≡ noticed_all mid (other side) left → HandsNothingOut setup k side id (with_kept k side v left)
hands_nothing setup k side id mid v left unsettled read is =
    let same = left_is k side v left in
    record {
      unsettled = unsettled;
      mid = mid;
      read = subst (ReadsPart setup (other side) k.world (kept_at k side) mid) (sym same) read;
      same = ap (λ x. with_kept k side x left) is ∙ sym (ap (λ l. with_kept k side (noticed_all mid (other side) l) l) same);
    }

-- where nothing came nothing is kept
pub none_left : (text : ℕ → List ℕ) (came : ℕ → ℕ) (held : ℕ → List ℕ) (ds : List Delivery) (arrivals : List Arrival) → arrivals ≡ [] → AreKept text came held ds arrivals → ds ≡ []
none_left text came held [] arrivals none h = refl
none_left text came held (Bytes id count ∷ ds) [] none h = absurd h
none_left text came held (End id ∷ ds) [] none h = absurd h
none_left text came held (Reset id ∷ ds) [] none h = absurd h
none_left text came held (Bytes id count ∷ ds) (a ∷ arrivals) none h = cc
none_left text came held (End id ∷ ds) (a ∷ arrivals) none h = cc
none_left text came held (Reset id ∷ ds) (a ∷ arrivals) none h = cc

-- a stream that goes on as one that goes on as another
resumes_then : (side : Side) (own : Announced) (id : ℕ) (first second third : Incoming) → Resumes side own id first second → Resumes side own id second third → Resumes side own id first third
resumes_then side own id first second third h k =
    record {
      same = k.same ∙ ap (λ (i : Incoming). record i { unread = third.unread; section = third.section; body_left = third.body_left; content = third.content }) h.same;
      pulls = λ r pieces ended. h.pulls r pieces ended ∙ k.pulls r pieces ended;
      lists = λ r pieces ended. joined r pieces ended (h.lists r pieces ended) (k.lists r pieces ended);
      next = next_then;
    }
  where
    place_is : second.place ≡ first.place
    place_is = ap (λ (i : Incoming). i.place) h.same

    next_then : StandsNext (kinds_of own) first third
    next_then between =
        let later = subst (λ q. IsBetweenFrames second × ((more : List ℕ) → skipped (kinds_of own) (is_body q) (concat third.unread ++ more) ≡ skipped (kinds_of own) (is_body q) (concat second.unread ++ more))) place_is (k.next between) in
        let before = h.next later.0 in
        (before.0, λ more. later.1 more ∙ before.1 more)

    joined : (r : DecoderState) (pieces : List (List ℕ)) (ended : Bool) → HasNoSection (pull_stream side own id r (with_more first pieces ended)).answer ⊎ (fields_next own r (with_more second pieces ended) ≡ fields_next own r (with_more first pieces ended))
        → HasNoSection (pull_stream side own id r (with_more second pieces ended)).answer ⊎ (fields_next own r (with_more third pieces ended) ≡ fields_next own r (with_more second pieces ended))
        → HasNoSection (pull_stream side own id r (with_more first pieces ended)).answer ⊎ (fields_next own r (with_more third pieces ended) ≡ fields_next own r (with_more first pieces ended))
    joined r pieces ended (inl none) later = inl none
    joined r pieces ended (inr same) (inl none) = inl (subst (λ (p : Pulled). HasNoSection p.answer) (sym (h.pulls r pieces ended)) none)
    joined r pieces ended (inr same) (inr later) = inr (later ∙ same)

asked_resumes : (side : Side) (own : Announced) (olds news : Streams Incoming) (id : ℕ) (old asked : Incoming) → EachResumes side own olds news → stream_at news id ≡ Some old → Resumes side own id old asked
    → EachResumes side own olds (set_stream news id asked)
asked_resumes side own olds news id old asked h at r = by_stream (stream_at olds id) refl (at_resumed side own olds news id h)
  where
    by_stream : (o : Option Incoming) → stream_at olds id ≡ o → ResumesAt side own id o (stream_at news id) → EachResumes side own olds (set_stream news id asked)
    by_stream None there k = absurd (subst (ResumesAt side own id None) at k)
    by_stream (Some first) there k =
        subst (λ l. EachResumes side own l (set_stream news id asked)) (set_same olds id first there)
        (set_resumed side own olds news id first asked h (resumes_then side own id first old asked (subst (ResumesAt side own id (Some first)) at k) r))

module _ (setup : Setup) (k : KeepingWorld) (ends new : Ends) (h : StandsKeeping setup k ends) (side : Side) (id : ℕ) (notices : Notices setup) where
  here : StandsAt setup k.world side (end_at h.behind side)
  here = (both_of setup k.world side h.behind h.stands).here

  unsettled : settles (end_at ends side) id ≡ false → is_settled k.world side id ≡ false
  unsettled e =
      let c = keeps_at setup k ends side h in
      let b = end_at h.behind side in
      sym (ap (λ x. settles x id) c.is ∙ settles_ahead (kept_at k (other side)) c.held c.arrivals b c.incoming id (subst (λ s. EachResumes s b.announced b.incoming c.incoming) (sym here.side_is) c.resumes)
      ∙ settles_there setup k.world side id b here h.stands.sound) ∙ e

  -- a part was read
  part_left : (after : EndpointHistory) → is_settled k.world side id ≡ false → PartRead setup k.world side (kept_at k (other side)) (kept_at k side) (end_at ends (other side)) after → new ≡ with_end ends side after
      → HandsNothing setup k side id new
  part_left after open_still p is =
      let v = noticed_all p.world (other side) p.left in
      let stands = notices p.world side (kept_at k (other side)) p.left p.next (end_at ends (other side)) p.arrivals p.reading in
      record {
        next = with_kept k side v p.left;
        hands = hands_nothing setup k side id p.world v p.left open_still p.read refl;
        stands = subst (StandsKeeping setup (with_kept k side v p.left)) (ends_are ends side (keeping p.next p.arrivals) ∙ sym (is ∙ ap (with_end ends side) p.is))
            (subst (λ m. StandsKeeping setup m (ends_of side (keeping p.next p.arrivals) (end_at ends (other side)))) (keeping_left k side v p.left) stands);
      }

  -- all was read, and the stream was asked
  asked_left : (after : EndpointHistory) → is_settled k.world side id ≡ false → PartRead setup k.world side (kept_at k (other side)) (kept_at k side) (end_at ends (other side)) after → after.kept ≡ []
      → IsAsked after id (end_at new side) → new ≡ with_end ends side (end_at new side) → HandsNothing setup k side id new
  asked_left after open_still p none asked is =
      let none_came : p.arrivals ≡ [] = sym (ap (λ (e : EndpointHistory). e.kept) p.is) ∙ none in
      let r : Reading setup p.world side (kept_at k (other side)) p.left p.next (end_at ends (other side)) [] = subst (Reading setup p.world side (kept_at k (other side)) p.left p.next (end_at ends (other side))) none_came p.reading in
      let all : p.left ≡ [] = none_left _ _ _ p.left p.arrivals none_came p.reading.here.kept in
      let q : Reading setup p.world side (kept_at k (other side)) [] p.next (end_at ends (other side)) [] = subst (λ l. Reading setup p.world side (kept_at k (other side)) l p.next (end_at ends (other side)) []) all r in
      let f_is : after ≡ p.next = p.is ∙ ap (keeping p.next) none_came ∙ ap (λ l. record p.next { kept = l }) (sym (ap (λ (e : EndpointHistory). e.kept) q.here.is)) in
      let ahead_is : after ≡ ahead q.er (kept_at k (other side)) q.here.held q.here.incoming [] = f_is ∙ q.here.is in
      let x = with_incoming after id asked.asked in
      let there : stream_at q.here.incoming id ≡ Some asked.old = sym (ap (λ (e : EndpointHistory). stream_at e.incoming id) ahead_is) ∙ asked.here in
      let side_is = ap (λ (e : EndpointHistory). e.side) ahead_is ∙ q.two.both.here.side_is in
      let announced_is = ap (λ (e : EndpointHistory). e.announced) ahead_is in
      let asks : Resumes side q.er.announced id asked.old asked.asked = subst (λ s. Resumes s q.er.announced id asked.old asked.asked) side_is (subst (λ a. Resumes after.side a id asked.old asked.asked) announced_is asked.resumes) in
      let read : Reading setup p.world side (kept_at k (other side)) [] x (end_at ends (other side)) [] =
      record {
        er = q.er;
        ew = q.ew;
        two = q.two;
        here = record {
          held = q.here.held;
          incoming = set_stream q.here.incoming id asked.asked;
          is = ap (λ e. with_incoming e id asked.asked) ahead_is;
          resumes = asked_resumes side q.er.announced q.er.incoming q.here.incoming id asked.old asked.asked q.here.resumes there asks;
          kept = q.here.kept;
          may = q.here.may;
          early = q.here.early;
          untold = q.here.untold;
          distinct = q.here.distinct;
        };
        there = q.there;
      } in
      let kept_none : x ≡ record x { kept = [] } = ap (λ l. record x { kept = l }) (ap (λ (e : EndpointHistory). e.kept) ahead_is) in
      record {
        next = with_kept k side p.world [];
        hands = hands_nothing setup k side id p.world p.world [] open_still (subst (ReadsPart setup (other side) k.world (kept_at k side) p.world) all p.read) refl;
        stands = subst (StandsKeeping setup (with_kept k side p.world [])) (ends_are ends side x ∙ sym (is ∙ ap (with_end ends side) asked.is))
            (subst (λ m. StandsKeeping setup m (ends_of side x (end_at ends (other side)))) (keeping_left k side p.world []) (standing_of setup p.world side (kept_at k (other side)) [] x (end_at ends (other side)) x [] read kept_none));
      }

  -- **A pull that loses nothing.**
  pub loses_nothing : (l : LosesNothing ends side id new) → PartRead setup k.world side (kept_at k (other side)) (kept_at k side) (end_at ends (other side)) l.after → HandsNothing setup k side id new
  loses_nothing l p = by_case l.is
    where
      by_case : (new ≡ with_end ends side l.after) ⊎ ((l.after.kept ≡ []) × IsAsked l.after id (end_at new side) × (new ≡ with_end ends side (end_at new side))) → HandsNothing setup k side id new
      by_case (inl is) = part_left l.after (unsettled l.unsettled) p is
      by_case (inr all) = asked_left l.after (unsettled l.unsettled) p all.0 all.1 all.2
