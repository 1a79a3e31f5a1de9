-- What comes on a request stream is read by an endpoint ahead as by the one behind, and each stream goes on as there.
use Rattle.std.proofs.Common.{◌≡◌, ℕ, ◌+◌, Bool, true, false, List, [], ◌∷◌, ◌++◌, append-nil, append_assoc, refl, sym, ap, ◌∙◌, subst, arith, if◌then◌else◌, Option, Some, None, ◌⊎◌}
use Rattle.std.specs.Prelude.{is_some, map, unwrap_or}
use Rattle.std.specs.List.{concat}
use Rattle.std.proofs.lemmas.List.Folds.{concat-append}
use Rattle.h3_frames.specs.Pieces.{with_piece}
use Rattle.h3_qpack.specs.DecoderState.{DecoderState}
use Rattle.h3_proto.specs.declared.stream.Side.{Side}
use Rattle.h3_connection.specs.declared.arrival.Arrival.{Arrival}
use Rattle.h3_connection.specs.declared.arrival.Arrival.TheVariants.{BytesCame, EndCame, ResetCame}
use Rattle.h3_connection.specs.declared.setup.Announced.{Announced}
use Rattle.h3_connection.specs.declared.event.Fault.TheVariants.{Stream}
use Rattle.h3_connection.specs.declared.event.Item.TheVariants as item
use Rattle.h3_connection.specs.declared.event.Pull.TheVariants as pull
use Rattle.h3_connection.specs.declared.event.StreamFault.{StreamFault}
use Rattle.h3_connection.specs.declared.event.StreamFault.TheVariants as stream_fault
use Rattle.h3_connection.specs.Arrivals.{stream_of}
use Rattle.h3_connection.specs.Control.{Found}
use Rattle.h3_connection.specs.Delivering.{bytes_at, end_at, reset_at, opened_at, with_incoming, kept, with_end, given_up_by, given_up_once, cancellation, give_up}
use Rattle.h3_connection.specs.Endpoint.{EndpointHistory, kind_of, replied}
use Rattle.h3_connection.specs.Endpoint.Kind.{Request}
use Rattle.h3_connection.specs.Incoming.{Incoming, nothing_came, given_up, is_body}
use Rattle.h3_connection.specs.Keeping.{read_arrival}
use Rattle.h3_connection.specs.Outgoing.{nothing_sent}
use Rattle.h3_connection.specs.PartReading.{with_pieces, with_more}
use Rattle.h3_connection.specs.Coming.{fields_next}
use Rattle.h3_connection.specs.PartReading.{HasNoSection, IsBetweenFrames, Resumes}
use Rattle.h3_connection.specs.Pulling.{Pulled, just, next_item, pull_stream}
use Rattle.h3_connection.specs.Skipping.{skipped}
use Rattle.h3_connection.specs.StreamSetLaws.{set-distinct}
use Rattle.h3_connection.specs.StreamSets.{HaveDistinctIds, Streams, stream_at, set_stream}
use Rattle.h3_connection.specs.StrictConnection.{kinds_of}
use Rattle.h3_memory.specs.Kept.{Delivery}
use Rattle.h3_memory.specs.Keeping.{Held, EachResumes, ahead, bytes_in, handed_stream}
use Rattle.h3_memory.proofs.Ahead.{further_taken, set_mapped}
use Rattle.h3_memory.proofs.AheadPulls.{ResumesAt, at_resumed, set_resumed, resumes_itself}

-- the bytes of pieces, of which one comes at the end, and what follows
piece_more : (pieces : List (List ℕ)) (bytes more : List ℕ) → concat (with_piece pieces bytes) ++ more ≡ concat pieces ++ (bytes ++ more)
piece_more pieces [] more = refl
piece_more pieces (byte ∷ bytes) more =
    ap (λ l. l ++ more) (concat-append pieces ((byte ∷ bytes) ∷ []) ∙ ap (λ l. concat pieces ++ l) (append-nil (byte ∷ bytes))) ∙ append_assoc (concat pieces) (byte ∷ bytes) more

module _ (side : Side) (own : Announced) (id : ℕ) where
  -- Bytes come to both.
  bytes_resume : (old new : Incoming) (bytes : List ℕ) → Resumes side own id old new → Resumes side own id (kept old bytes) (kept new bytes)
  bytes_resume old new bytes h =
      record {
        same = ap (λ (i : Incoming). record i { unread = (kept new bytes).unread }) h.same;
        pulls = λ r pieces ended. by_end r pieces ended;
        lists = λ r pieces ended. lists_by_end r pieces ended;
        next = λ between. ((h.next between).0, λ more. same_next between more);
      }
    where
      same_next : IsBetweenFrames new → (more : List ℕ) → skipped (kinds_of own) (is_body old.place) (concat (kept new bytes).unread ++ more) ≡ skipped (kinds_of own) (is_body old.place) (concat (kept old bytes).unread ++ more)
      same_next between more =
          ap (λ o. skipped (kinds_of own) (is_body old.place) (concat (if is_some o then [] else with_piece new.unread bytes) ++ more)) (ap (λ (i : Incoming). i.fault) h.same) ∙ by_fault old.fault
        where
          by_fault : (o : Option StreamFault)
              → skipped (kinds_of own) (is_body old.place) (concat (if is_some o then [] else with_piece new.unread bytes) ++ more) ≡ skipped (kinds_of own) (is_body old.place) (concat (if is_some o then [] else with_piece old.unread bytes) ++ more)
          by_fault (Some why) = refl
          by_fault None =
              ap (skipped (kinds_of own) (is_body old.place)) (piece_more new.unread bytes more) ∙ (h.next between).1 (bytes ++ more) ∙ sym (ap (skipped (kinds_of own) (is_body old.place)) (piece_more old.unread bytes more))

      by_end : (r : DecoderState) (pieces : List (List ℕ)) (ended : Bool) → pull_stream side own id r (with_more (kept old bytes) pieces ended) ≡ pull_stream side own id r (with_more (kept new bytes) pieces ended)
      by_end r pieces true = h.pulls r (bytes ∷ pieces) true
      by_end r pieces false = h.pulls r (bytes ∷ pieces) false

      lists_by_end : (r : DecoderState) (pieces : List (List ℕ)) (ended : Bool)
          → HasNoSection (pull_stream side own id r (with_more (kept old bytes) pieces ended)).answer ⊎ (fields_next own r (with_more (kept new bytes) pieces ended) ≡ fields_next own r (with_more (kept old bytes) pieces ended))
      lists_by_end r pieces true = h.lists r (bytes ∷ pieces) true
      lists_by_end r pieces false = h.lists r (bytes ∷ pieces) false

  -- The end does.
  ended_pieces : (i : Incoming) (pieces : List (List ℕ)) → with_pieces (with_end i) pieces ≡ with_end (with_pieces i pieces)
  ended_pieces i [] = refl
  ended_pieces i (piece ∷ pieces) = ended_pieces (kept i piece) pieces

  ended_more : (i : Incoming) (pieces : List (List ℕ)) (ended : Bool) → with_more (with_end i) pieces ended ≡ with_more i pieces true
  ended_more i pieces true = ap with_end (ended_pieces i pieces)
  ended_more i pieces false = ended_pieces i pieces

  end_resumes : (old new : Incoming) → Resumes side own id old new → Resumes side own id (with_end old) (with_end new)
  end_resumes old new h =
      record {
        same = ap with_end h.same;
        pulls = λ r pieces ended. ap (pull_stream side own id r) (ended_more old pieces ended) ∙ h.pulls r pieces true ∙ sym (ap (pull_stream side own id r) (ended_more new pieces ended));
        lists = λ r pieces ended.
            subst (λ x. HasNoSection (pull_stream side own id r x).answer ⊎ (fields_next own r (with_more (with_end new) pieces ended) ≡ fields_next own r x)) (sym (ended_more old pieces ended))
            (subst (λ x. HasNoSection (pull_stream side own id r (with_more old pieces true)).answer ⊎ (fields_next own r x ≡ fields_next own r (with_more old pieces true))) (sym (ended_more new pieces ended)) (h.lists r pieces true));
        next = h.next;
      }

  -- One that was given up is told so again by each pull, and stays.
  given_up_again : (r : DecoderState) (i : Incoming) (why : StreamFault) → i.fault ≡ Some why → pull_stream side own id r i ≡ just (pull.Fault (Stream why)) i
  unfolding pull_stream
  given_up_again r i why e = ap (λ o. elim o [
    | Some fault ↦ just (pull.Fault (Stream fault)) i
    | None ↦ if i.is_over then just (pull.Item item.End) i else next_item side own id r i i.place
  ]) e

  faulty_same : (r : DecoderState) (old new : Incoming) (why : StreamFault) → old.fault ≡ Some why → Resumes side own id old new → new ≡ old
  faulty_same r old new why e h =
      ap (λ (p : Pulled). p.incoming) (sym (given_up_again r new why (ap (λ (i : Incoming). i.fault) h.same ∙ e)) ∙ sym (h.pulls r [] false) ∙ given_up_again r old why e)

  -- The reset does.
  abbrev resetting : Incoming → StreamFault → Incoming
  resetting i why = given_up_once (record i { was_reset = true }) why

  reset_resumes : (r : DecoderState) (old new : Incoming) (why : StreamFault) → Resumes side own id old new → Resumes side own id (resetting old why) (resetting new why)
  reset_resumes r old new why h = by_fault old.fault refl
    where
      fault_is : new.fault ≡ old.fault
      fault_is = ap (λ (i : Incoming). i.fault) h.same

      by_fault : (o : Option StreamFault) → old.fault ≡ o → Resumes side own id (resetting old why) (resetting new why)
      by_fault None e =
          let left : resetting old why ≡ given_up (record old { was_reset = true }) why = ap (given_up_by (record old { was_reset = true }) why) e in
          let right : resetting new why ≡ given_up (record old { was_reset = true }) why =
          ap (given_up_by (record new { was_reset = true }) why) (fault_is ∙ e) ∙ ap (λ (i : Incoming). given_up (record i { was_reset = true }) why) h.same in
          subst (λ x. Resumes side own id x (resetting new why)) (sym left) (subst (λ x. Resumes side own id (given_up (record old { was_reset = true }) why) x) (sym right)
          (resumes_itself side own id (given_up (record old { was_reset = true }) why)))
      by_fault (Some first) e =
          let same = faulty_same r old new first e h in
          subst (λ i. Resumes side own id (resetting old why) (resetting i why)) (sym same) (resumes_itself side own id (resetting old why))

-- **What is read ahead is what the one behind reads, and each stream goes on as there.**
pub record ReadsAhead (e : EndpointHistory) (mine : List Delivery) (held : Held) (kept : List Arrival) (x y : Found) : Type 0 where
  pub incoming : Streams Incoming
  pub is : y ≡ (ahead x.0 mine held incoming kept, x.1)
  pub resumes : EachResumes e.side e.announced x.0.incoming incoming

-- no bytes of a stream are ahead on which nothing was sent
unsent : (mine : List Delivery) (id : ℕ) → bytes_in id mine ≡ 0 → further_taken mine id nothing_sent ≡ nothing_sent
unsent mine id none =
    let same : 0 + bytes_in id mine ≡ 0 = omega (arith, none) in
    ap (λ n. record nothing_sent { taken = n }) same

module _ (mine : List Delivery) (held : Held) (kept_then : List Arrival) (e : EndpointHistory) (news : Streams Incoming) (id : ℕ) where
  abbrev f : EndpointHistory
  f = ahead e mine held news kept_then

  -- the stream's receiver is changed alike, and opened where it was not
  abbrev changed : EndpointHistory → ℕ → Option Incoming → Incoming → EndpointHistory
  changed x id o j = with_incoming (opened_at x id o) id j

  pub opened_alike : (o n : Option Incoming) (j : Incoming) → ResumesAt e.side e.announced id o n → (o ≡ None → bytes_in id mine ≡ 0)
      → changed f id n j ≡ ahead (changed e id o j) mine held (changed f id n j).incoming kept_then
  opened_alike None None j r none =
      let sent : set_stream (map (handed_stream mine) e.outgoing) id nothing_sent ≡ map (handed_stream mine) (set_stream e.outgoing id nothing_sent) =
      ap (set_stream (map (handed_stream mine) e.outgoing) id) (sym (unsent mine id (none refl))) ∙ set_mapped mine e.outgoing id nothing_sent in
      ap (λ l. record f { incoming = set_stream (set_stream news id nothing_came) id j; outgoing = l }) sent
  opened_alike None (Some new) j r none = absurd r
  opened_alike (Some old) None j r none = absurd r
  opened_alike (Some old) (Some new) j r none = refl

  pub opened_resumes : (o n : Option Incoming) (i j : Incoming) → EachResumes e.side e.announced e.incoming news → ResumesAt e.side e.announced id o n → Resumes e.side e.announced id i j
      → EachResumes e.side e.announced (changed e id o i).incoming (changed f id n j).incoming
  opened_resumes None None i j h r both =
      set_resumed e.side e.announced (set_stream e.incoming id nothing_came) (set_stream news id nothing_came) id i j
      (set_resumed e.side e.announced e.incoming news id nothing_came nothing_came h (resumes_itself e.side e.announced id nothing_came)) both
  opened_resumes None (Some new) i j h r both = absurd r
  opened_resumes (Some old) None i j h r both = absurd r
  opened_resumes (Some old) (Some new) i j h r both = set_resumed e.side e.announced e.incoming news id i j h both

  at_both : (o n : Option Incoming) → ResumesAt e.side e.announced id o n → Resumes e.side e.announced id (unwrap_or o nothing_came) (unwrap_or n nothing_came)
  at_both None None r = resumes_itself e.side e.announced id nothing_came
  at_both None (Some new) r = absurd r
  at_both (Some old) None r = absurd r
  at_both (Some old) (Some new) r = r

  abbrev told : EndpointHistory → Found
  told x = (x, None)

  -- what an arrival does to its stream
  abbrev by_arrival : Arrival → EndpointHistory → Option Incoming → Found
  by_arrival (BytesCame q bytes) x o = told (changed x id o (kept (unwrap_or o nothing_came) bytes))
  by_arrival (EndCame q) x o = told (changed x id o (with_end (unwrap_or o nothing_came)))
  by_arrival (ResetCame q code) x o = told (give_up (opened_at x id o) id (record (unwrap_or o nothing_came) { was_reset = true }) (stream_fault.Reset code))

  pub request_comes : (a : Arrival) → stream_of a ≡ id → kind_of e.side id ≡ Request → EachResumes e.side e.announced e.incoming news → (stream_at e.incoming id ≡ None → bytes_in id mine ≡ 0)
      → ReadsAhead e mine held kept_then (read_arrival e a) (read_arrival f a)
  request_comes a of kind h none = as_told a (reads e a of kind) (reads f a of kind) (by_kind a (stream_at e.incoming id) refl (stream_at news id) (at_resumed e.side e.announced e.incoming news id h))
    where
      reads : (x : EndpointHistory) (a : Arrival) → stream_of a ≡ id → kind_of x.side id ≡ Request → read_arrival x a ≡ by_arrival a x (stream_at x.incoming id)
      reads x (BytesCame q bytes) of kind = ap (λ i. bytes_at x i bytes (kind_of x.side i)) of ∙ ap (bytes_at x id bytes) kind
      reads x (EndCame q) of kind = ap (λ i. end_at x i (kind_of x.side i)) of ∙ ap (end_at x id) kind
      reads x (ResetCame q code) of kind = ap (λ i. reset_at x i code (kind_of x.side i)) of ∙ ap (reset_at x id code) kind

      as_told : (a : Arrival) → read_arrival e a ≡ by_arrival a e (stream_at e.incoming id) → read_arrival f a ≡ by_arrival a f (stream_at news id)
          → ReadsAhead e mine held kept_then (by_arrival a e (stream_at e.incoming id)) (by_arrival a f (stream_at news id)) → ReadsAhead e mine held kept_then (read_arrival e a) (read_arrival f a)
      as_told a left right k = subst (λ x. ReadsAhead e mine held kept_then x (read_arrival f a)) (sym left) (subst (ReadsAhead e mine held kept_then (by_arrival a e (stream_at e.incoming id))) (sym right) k)

      set_alike : (o n : Option Incoming) (i j : Incoming) → stream_at e.incoming id ≡ o → ResumesAt e.side e.announced id o n → Resumes e.side e.announced id i j
          → ReadsAhead e mine held kept_then (told (changed e id o i)) (told (changed f id n j))
      set_alike o n i j at r both =
          record {
            incoming = (changed f id n j).incoming;
            is = ap told (opened_alike o n j r (λ missing. none (at ∙ missing)) ∙ ahead_of o n i j r);
            resumes = opened_resumes o n i j h r both;
          }
        where
          ahead_of : (o n : Option Incoming) (i j : Incoming) → ResumesAt e.side e.announced id o n
              → ahead (changed e id o j) mine held (changed f id n j).incoming kept_then ≡ ahead (changed e id o i) mine held (changed f id n j).incoming kept_then
          ahead_of None n i j r = refl
          ahead_of (Some old) n i j r = refl

      by_kind : (a : Arrival) (o : Option Incoming) → stream_at e.incoming id ≡ o → (n : Option Incoming) → ResumesAt e.side e.announced id o n → ReadsAhead e mine held kept_then (by_arrival a e o) (by_arrival a f n)
      by_kind (BytesCame q bytes) o at n r =
          set_alike o n (kept (unwrap_or o nothing_came) bytes) (kept (unwrap_or n nothing_came) bytes) at r
          (bytes_resume e.side e.announced id (unwrap_or o nothing_came) (unwrap_or n nothing_came) bytes (at_both o n r))
      by_kind (EndCame q) o at n r =
          set_alike o n (with_end (unwrap_or o nothing_came)) (with_end (unwrap_or n nothing_came)) at r (end_resumes e.side e.announced id (unwrap_or o nothing_came) (unwrap_or n nothing_came) (at_both o n r))
      by_kind (ResetCame q code) o at n r = replying (set_alike o n (resetting_of o) (resetting_of n) at r (reset_resumes e.side e.announced id e.decoding.decoder (unwrap_or o nothing_came) (unwrap_or n nothing_came) why both))
        where
          why : StreamFault
          why = stream_fault.Reset code

          both : Resumes e.side e.announced id (unwrap_or o nothing_came) (unwrap_or n nothing_came)
          both = at_both o n r

          resetting_of : Option Incoming → Incoming
          resetting_of m = given_up_once (record (unwrap_or m nothing_came) { was_reset = true }) why

          fault_is : (unwrap_or n nothing_came).fault ≡ (unwrap_or o nothing_came).fault
          fault_is = ap (λ (i : Incoming). i.fault) both.same

          giving : EndpointHistory → Option Incoming → Found
          giving x m = told (replied (changed x id m (resetting_of m)) (cancellation id (unwrap_or m nothing_came).fault))

          replying : ReadsAhead e mine held kept_then (told (changed e id o (resetting_of o))) (told (changed f id n (resetting_of n))) → ReadsAhead e mine held kept_then (giving e o) (giving f n)
          replying k =
              record {
                incoming = k.incoming;
                is = ap (λ x. told (replied (changed f id n (resetting_of n)) (cancellation id x))) fault_is
                    ∙ ap (λ (x : Found). told (replied x.0 (cancellation id (unwrap_or o nothing_came).fault))) k.is;
                resumes = k.resumes;
              }

-- No stream comes to be sent on twice.
pub request_distinct : (e : EndpointHistory) (a : Arrival) (id : ℕ) → stream_of a ≡ id → kind_of e.side id ≡ Request → HaveDistinctIds e.outgoing → HaveDistinctIds (read_arrival e a).0.outgoing
request_distinct e a id of kind h = by_arrival a of
  where
    opened_distinct : (o : Option Incoming) → HaveDistinctIds (opened_at e id o).outgoing
    opened_distinct None = set-distinct e.outgoing id nothing_sent h
    opened_distinct (Some i) = h

    by_arrival : (a : Arrival) → stream_of a ≡ id → HaveDistinctIds (read_arrival e a).0.outgoing
    by_arrival (BytesCame q bytes) of = subst (λ (x : Found). HaveDistinctIds x.0.outgoing) (sym (ap (λ i. bytes_at e i bytes (kind_of e.side i)) of ∙ ap (bytes_at e id bytes) kind)) (opened_distinct (stream_at e.incoming id))
    by_arrival (EndCame q) of = subst (λ (x : Found). HaveDistinctIds x.0.outgoing) (sym (ap (λ i. end_at e i (kind_of e.side i)) of ∙ ap (end_at e id) kind)) (opened_distinct (stream_at e.incoming id))
    by_arrival (ResetCame q code) of = subst (λ (x : Found). HaveDistinctIds x.0.outgoing) (sym (ap (λ i. reset_at e i code (kind_of e.side i)) of ∙ ap (reset_at e id code) kind)) (opened_distinct (stream_at e.incoming id))
