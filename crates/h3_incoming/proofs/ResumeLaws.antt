-- A pull that memory cut short loses nothing.
use Rattle.std.proofs.Common.{◌≡◌, ℕ, zero, suc, ◌<◌, ◌≤◌, Bool, true, false, if◌then◌else◌, ◌&&◌, ◌==◌, List, [], ◌++◌, length, refl, ap, sym, ◌∙◌, subst, arith, inl, inr, ◌⊎◌}
use Rattle.std.specs.Prelude.{None, Some, Option, nat_lt}
use Rattle.std.specs.List.{concat}
use Rattle.std.proofs.lemmas.List.{length-drop}
use Rattle.std.proofs.lemmas.List.Folds.{concat-append}
use Rattle.h3_frames.specs.ExcessiveFrames.{is_excessive_by}
use Rattle.h3_frames.specs.ExcessiveLaws.{none_excessive_by}
use Rattle.h3_frames.specs.Frames.{Whole, frame_by}
use Rattle.h3_frames.specs.Pieces.{IsRest, chunk_of}
use Rattle.h3_frames.specs.PieceLaws.{rest_behind, concat-without}
use Rattle.h3_frames.specs.declared.frame.kinds.FrameKinds.{FrameKinds}
use Rattle.h3_frames.specs.declared.proto.frame.PayloadLen.{PayloadLen}
use Rattle.h3_frames.specs.declared.proto.frame.Frame.{Frame}
use Rattle.h3_frames.specs.declared.proto.frame.Frame.TheVariants as frame
use Rattle.h3_proto.specs.declared.stream.Side.{Side}
use Rattle.h3_qpack.specs.DecoderState.{DecoderState}
use Rattle.h3_connection.specs.declared.event.StreamFault.{StreamFault}
use Rattle.h3_connection.specs.declared.place.Place.{Place}
use Rattle.h3_connection.specs.declared.place.Place.TheVariants.{BeforeHead, InBody, AfterTrailer, InSession}
use Rattle.h3_connection.specs.declared.setup.Announced.{Announced}
use Rattle.h3_connection.specs.Coming.{fields_in, fields_next, next_section, section_in, section_of_frame}
use Rattle.h3_connection.specs.Incoming.{Incoming, Passes, is_body, given_up}
use Rattle.h3_connection.specs.Skipping.{skipped, is_empty_data}
use Rattle.h3_connection.specs.Codes.{frame_error, frame_unexpected}
use Rattle.h3_connection.specs.declared.event.Malformation.TheVariants as malformation
use Rattle.h3_messages.specs.Content.{is_exceeded}
use Rattle.h3_connection.specs.Pulling.{Pulled, begun_section, begun_payload, left_with, at_payload, body_of, in_payload, malformed, new_section, connection_fault, excess, at_frame, next_frame, between_frames, pull_stream}
use Rattle.h3_incoming.specs.Finding.{FindsFrame, KeepsWithin, PassesFrames}
use Rattle.h3_incoming.specs.Placing.{is_session}
use Rattle.h3_connection.specs.PartReading.{CountsOn, HasNoSection, StandsNext, unsaid}
use Rattle.h3_incoming.specs.Resuming.{Begins, PullsAlike, Resumes, delivered}
use Rattle.h3_connection.specs.SkippingLaws.{skipped-length, found_not_empty}
use Rattle.h3_incoming.proofs.PullLaws.{pull_of_section, pull_of_payload, pull_of_frame, left_is, left_left, place_passed, between_frame}
use Rattle.h3_connection.specs.StrictConnection.{kinds_of}

pub resumes_same : (own : Announced) (old new : Incoming) → new ≡ old → Resumes own old new
resumes_same own old new e = subst (λ x. Resumes own old x) (sym e) (record {
  alike = record { pulls = λ side id r pieces ends. refl; lists = λ side id r pieces ends. inr refl };
  plainly = λ other known none. record { pulls = λ side id r pieces ends. refl; lists = λ side id r pieces ends. inr refl };
  next = λ between. (between, λ more. refl);
  counts = inl refl;
  gives_up = λ fault. refl;
  place = refl;
  response = refl;
  is_over = refl;
  waits_for = refl;
  tries = refl;
  ended = refl;
  was_reset = refl;
  fault = refl;
})

-- A message between frames.
pub record IsBetween (i : Incoming) : Type 0 where
  pub no_fault : i.fault ≡ None
  pub goes_on : i.is_over ≡ false
  pub message : is_session i.place ≡ false
  pub none : i.section ≡ None
  pub closed : i.body_left ≡ 0
  pub waits : i.waits_for ≡ 0

between_pull : (side : Side) (own : Announced) (id : ℕ) (r : DecoderState) (i : Incoming) (pieces : List (List ℕ)) (ends : Bool) → IsBetween i
    → pull_stream side own id r (delivered i pieces ends) ≡ between_frames side own id r (delivered i pieces ends)
between_pull side own id r i pieces ends b = pull_of_frame side own id r (delivered i pieces ends) b.no_fault b.goes_on b.message b.none b.closed

abbrev with_unread : List (List ℕ) → Incoming → Incoming
with_unread l i = record i { unread = l }

not_true : false ≡ true → ⊥
not_true h = cc

rest_short : (all new : List (List ℕ)) → IsRest all new → length (concat new) ≤ length (concat all)
rest_short all new a = omega (arith, ap length (ap concat a.2 ∙ concat-without a.0 all), length-drop a.0 (concat all))

-- more pieces at the end
passes_behind : (old mid : Incoming) (pieces : List (List ℕ)) (ends : Bool) → Passes old mid → Passes (delivered old pieces ends) (delivered mid pieces ends)
passes_behind old mid pieces ends p = record {
  same = ap (λ (i : Incoming). with_unread (mid.unread ++ pieces) (delivered i pieces ends)) p.same;
  rest = rest_behind old.unread mid.unread pieces p.rest;
}

-- what came is let go
let_go_alike : (id : ℕ) (bytes : List ℕ) (old new : Incoming) → Passes old new → excess id new bytes ≡ excess id old bytes
let_go_alike id bytes old new p = ap {A = Incoming} (λ i. excess id i bytes) p.same

between_passed : (old new : Incoming) → Passes old new → IsBetween old → IsBetween new
between_passed old new p b = subst IsBetween (sym p.same) (record { no_fault = b.no_fault; goes_on = b.goes_on; message = b.message; none = b.none; closed = b.closed; waits = b.waits })

-- the list of a stream on which no section waits
none_next : (own : Announced) (r : DecoderState) (i : Incoming) → i.section ≡ None → fields_next own r i ≡ fields_in r (section_in (frame_by (kinds_of own) (skipped (kinds_of own) (is_body i.place) (concat i.unread))))
none_next own r i none = ap (λ s. fields_in r (next_section own i s)) none

-- where nothing is known of the content
between_unsaid : (i : Incoming) → IsBetween i → IsBetween (unsaid i)
between_unsaid i b = record { no_fault = b.no_fault; goes_on = b.goes_on; message = b.message; none = b.none; closed = b.closed; waits = b.waits }

passes_unsaid : (old new : Incoming) → Passes old new → Passes (unsaid old) (unsaid new)
passes_unsaid old new p = record { same = ap unsaid p.same; rest = p.rest }

-- Some frames were passed, and the next was not read: so it is at any end to which the same kinds of frames are known.
passed_alike : (own : Announced) (old new : Incoming) → IsBetween old → Passes old new → PassesFrames (kinds_of own) (is_body old.place) (concat old.unread) (concat new.unread) → PullsAlike own old new
passed_alike own old new b p skips = record { pulls = λ side id r pieces ends. goes_on_alike side id r pieces ends; lists = λ side id r pieces ends. inr (lists_alike r pieces ends) }
  where
    -- the next frame that gives something is the same
    next_alike : (pieces : List (List ℕ)) → skipped (kinds_of own) (is_body new.place) (concat (new.unread ++ pieces)) ≡ skipped (kinds_of own) (is_body old.place) (concat (old.unread ++ pieces))
    next_alike pieces =
        ap (λ q. skipped (kinds_of own) (is_body q) (concat (new.unread ++ pieces))) (place_passed old new p)
        ∙ ap (skipped (kinds_of own) (is_body old.place)) (concat-append new.unread pieces) ∙ skips (concat pieces)
        ∙ sym (ap (skipped (kinds_of own) (is_body old.place)) (concat-append old.unread pieces))

    lists_alike : (r : DecoderState) (pieces : List (List ℕ)) (ends : Bool) → fields_next own r (delivered new pieces ends) ≡ fields_next own r (delivered old pieces ends)
    lists_alike r pieces ends =
        none_next own r (delivered new pieces ends) (between_passed old new p b).none
        ∙ ap (λ l. fields_in r (section_in (frame_by (kinds_of own) l))) (next_alike pieces)
        ∙ sym (none_next own r (delivered old pieces ends) b.none)

    goes_on_alike : (side : Side) (id : ℕ) (r : DecoderState) (pieces : List (List ℕ)) (ends : Bool)
        → pull_stream side own id r (delivered new pieces ends) ≡ pull_stream side own id r (delivered old pieces ends)
    goes_on_alike side id r pieces ends =
        let o = delivered old pieces ends in
        let n = delivered new pieces ends in
        let bytes = skipped (kinds_of own) (is_body old.place) (concat o.unread) in
        let same : skipped (kinds_of own) (is_body n.place) (concat n.unread) ≡ bytes = next_alike pieces in
        let short : length bytes ≤ length (concat n.unread) = subst (λ l. length l ≤ length (concat n.unread)) same (skipped-length (kinds_of own) (is_body n.place) (concat n.unread)) in
        let behind = passes_behind old new pieces ends p in
        let left : left_with n bytes ≡ left_with o bytes =
        ap (λ (i : Incoming). left_with i bytes) (left_is o n behind)
        ∙ left_left o (concat n.unread) bytes short (rest_short o.unread n.unread behind.rest) in
        between_pull side own id r new pieces ends (between_passed old new p b)
        ∙ ap (λ l. if is_excessive_by (kinds_of own) own.choices.unfinished_limit l then excess id n l else next_frame side own id r (left_with n l) l) same
        ∙ ap (λ (i : Incoming). if is_excessive_by (kinds_of own) own.choices.unfinished_limit bytes then excess id n bytes else next_frame side own id r i bytes) left
        ∙ ap (λ x. if is_excessive_by (kinds_of own) own.choices.unfinished_limit bytes then x else next_frame side own id r (left_with o bytes) bytes) (let_go_alike id bytes o n behind)
        ∙ sym (between_pull side own id r old pieces ends b)

pub resumes_passed : (own : Announced) (old new : Incoming) → IsBetween old → Passes old new → PassesFrames (kinds_of own) (is_body old.place) (concat old.unread) (concat new.unread) → Resumes own old new
resumes_passed own old new b p skips = record {
  alike = passed_alike own old new b p skips;
  plainly = λ other known none.
      passed_alike other (unsaid old) (unsaid new) (between_unsaid old b) (passes_unsaid old new p)
      (subst (λ (kinds : FrameKinds). PassesFrames kinds (is_body old.place) (concat old.unread) (concat new.unread)) (sym known) skips);
  next = λ between. ((b.none, b.closed), skips);
  counts = inl (ap {A = Incoming} (λ i. i.content) p.same);
  gives_up = λ fault. ap {A = Incoming} (λ i. given_up i fault) p.same;
  place = ap {A = Incoming} (λ i. i.place) p.same;
  response = ap {A = Incoming} (λ i. i.response) p.same;
  is_over = ap {A = Incoming} (λ i. i.is_over) p.same;
  waits_for = ap {A = Incoming} (λ i. i.waits_for) p.same;
  tries = ap {A = Incoming} (λ i. i.tries) p.same;
  ended = ap {A = Incoming} (λ i. i.ended) p.same;
  was_reset = ap {A = Incoming} (λ i. i.was_reset) p.same;
  fault = ap {A = Incoming} (λ i. i.fault) p.same;
}

-- The next frame has begun what it gives.
section_alike : (side : Side) (own : Announced) (id : ℕ) (r : DecoderState) (pieces : List (List ℕ)) (ends : Bool) (mid : Incoming) (bytes : List ℕ) → IsBetween mid
    → pull_stream side own id r (delivered (begun_section mid bytes) pieces ends) ≡ new_section side own id r (delivered mid pieces ends) bytes
section_alike side own id r pieces ends mid bytes b = pull_of_section side own id r (delivered (begun_section mid bytes) pieces ends) bytes b.no_fault b.goes_on b.message refl

some_left : (n : ℕ) → (n == 0) ≡ false → 0 < n
some_left n h = elim (cases_zero n) [ inl z ↦ absurd (differ n z h) | inr s ↦ s ]
  where
    cases_zero : (n : ℕ) → (n ≡ 0) ⊎ (0 < n)
    cases_zero zero = inl refl
    cases_zero (suc n) = inr (omega arith)

    differ : (n : ℕ) → n ≡ 0 → (n == 0) ≡ false → ⊥
    differ n z h = let wrong : (0 == 0) ≡ false = subst (λ m. (m == 0) ≡ false) z h in cc

payload_alike : (side : Side) (own : Announced) (id : ℕ) (r : DecoderState) (pieces : List (List ℕ)) (ends : Bool) (mid : Incoming) (size : ℕ) → IsBetween mid → 0 < size
    → pull_stream side own id r (delivered (begun_payload mid size) pieces ends) ≡ at_payload id (begun_payload (delivered mid pieces ends) size)
payload_alike side own id r pieces ends mid size b some = pull_of_payload side own id r (delivered (begun_payload mid size) pieces ends) b.no_fault b.goes_on b.message b.none some

begun_alike : (side : Side) (own : Announced) (id : ℕ) (r : DecoderState) (pieces : List (List ℕ)) (ends : Bool) (mid new : Incoming) (f : Frame PayloadLen) (place : Place)
    → IsBetween mid → Begins place f mid new → (is_body place && is_empty_data f) ≡ false
    → pull_stream side own id r (delivered new pieces ends) ≡ at_frame side own id r side (delivered mid pieces ends) place f
begun_alike side own id r pieces ends mid new (frame.Headers bytes) BeforeHead b h some = ap (λ (i : Incoming). pull_stream side own id r (delivered i pieces ends)) h.1 ∙ section_alike side own id r pieces ends mid bytes b
begun_alike side own id r pieces ends mid new (frame.Headers bytes) InBody b h some =
    ap (λ (i : Incoming). pull_stream side own id r (delivered i pieces ends)) h.1 ∙ section_alike side own id r pieces ends mid bytes b
    ∙ sym (ap (λ takes. if takes then new_section side own id r (delivered mid pieces ends) bytes else connection_fault frame_unexpected (delivered mid pieces ends)) h.0)
begun_alike side own id r pieces ends mid new (frame.Headers bytes) AfterTrailer b h some = absurd (not_true h.0)
begun_alike side own id r pieces ends mid new (frame.Headers bytes) InSession b h some = absurd (not_true h.0)
begun_alike side own id r pieces ends mid new (frame.Data len) InBody b h some = ap (λ (i : Incoming). pull_stream side own id r (delivered i pieces ends)) h.1 ∙ payload_alike side own id r pieces ends mid len.0 b (some_left len.0 some)
begun_alike side own id r pieces ends mid new (frame.Data len) BeforeHead b h some = absurd (not_true h.0)
begun_alike side own id r pieces ends mid new (frame.Data len) AfterTrailer b h some = absurd (not_true h.0)
begun_alike side own id r pieces ends mid new (frame.Data len) InSession b h some = absurd (not_true h.0)
begun_alike side own id r pieces ends mid new (frame.CancelPush push) place b h some = absurd h
begun_alike side own id r pieces ends mid new (frame.Settings settings) place b h some = absurd h
begun_alike side own id r pieces ends mid new (frame.PushPromise promise) place b h some = absurd h
begun_alike side own id r pieces ends mid new (frame.PriorityUpdate update) place b h some = absurd h
begun_alike side own id r pieces ends mid new (frame.Goaway number) place b h some = absurd h
begun_alike side own id r pieces ends mid new (frame.MaxPushId push) place b h some = absurd h
begun_alike side own id r pieces ends mid new (frame.WebTransportStream session) place b h some = absurd h
begun_alike side own id r pieces ends mid new (frame.Grease kind) place b h some = absurd h

-- what is the same of a receiver that has begun what a frame gives
record IsBegun (old new : Incoming) : Type 0 where
  gives_up : (fault : StreamFault) → given_up new fault ≡ given_up old fault
  place : new.place ≡ old.place
  response : new.response ≡ old.response
  is_over : new.is_over ≡ old.is_over
  waits_for : new.waits_for ≡ 0
  tries : new.tries ≡ old.tries
  ended : new.ended ≡ old.ended
  was_reset : new.was_reset ≡ old.was_reset
  fault : new.fault ≡ old.fault

section_begun : (mid : Incoming) (bytes : List ℕ) → IsBegun mid (begun_section mid bytes)
section_begun mid bytes = record { gives_up = λ fault. refl; place = refl; response = refl; is_over = refl; waits_for = refl; tries = refl; ended = refl; was_reset = refl; fault = refl }

payload_begun : (mid : Incoming) (size : ℕ) → mid.waits_for ≡ 0 → IsBegun mid (begun_payload mid size)
payload_begun mid size none = record { gives_up = λ fault. refl; place = refl; response = refl; is_over = refl; waits_for = none; tries = refl; ended = refl; was_reset = refl; fault = refl }

is_begun : (mid new : Incoming) (f : Frame PayloadLen) (place : Place) → mid.waits_for ≡ 0 → Begins place f mid new → IsBegun mid new
is_begun mid new (frame.Headers bytes) place none h = subst (λ x. IsBegun mid x) (sym h.1) (section_begun mid bytes)
is_begun mid new (frame.Data len) place none h = subst (λ x. IsBegun mid x) (sym h.1) (payload_begun mid len.0 none)
is_begun mid new (frame.CancelPush push) place none h = absurd h
is_begun mid new (frame.Settings settings) place none h = absurd h
is_begun mid new (frame.PushPromise promise) place none h = absurd h
is_begun mid new (frame.PriorityUpdate update) place none h = absurd h
is_begun mid new (frame.Goaway number) place none h = absurd h
is_begun mid new (frame.MaxPushId push) place none h = absurd h
is_begun mid new (frame.WebTransportStream session) place none h = absurd h
is_begun mid new (frame.Grease kind) place none h = absurd h

-- what a payload gives has no section
body_without : (i : Incoming) (chunk : Option (List ℕ) × List (List ℕ)) → HasNoSection (body_of i chunk).answer
body_without i (None, pieces) = tt
body_without i (Some bytes, pieces) = tt

payload_without : (id : ℕ) (i : Incoming) → HasNoSection (at_payload id i).answer
payload_without id i = by_content (is_exceeded i.content)
  where
    by_end : (b : Bool) → HasNoSection (if b then connection_fault frame_error i else body_of i (chunk_of i.body_left i.unread)).answer
    by_end true = tt
    by_end false = body_without i (chunk_of i.body_left i.unread)

    by_content : (b : Bool) → HasNoSection (if b then malformed id malformation.ContentLength i [] else in_payload i).answer
    by_content true = tt
    by_content false = by_end (i.ended && nat_lt (length (concat i.unread)) i.body_left)

-- the list that comes next, if the frame has a section; else the answer has no section
begun_lists : (side : Side) (own : Announced) (id : ℕ) (r : DecoderState) (pieces : List (List ℕ)) (ends : Bool) (mid new : Incoming) (f : Frame PayloadLen) (place : Place)
    → IsBetween mid → Begins place f mid new → (is_body place && is_empty_data f) ≡ false
    → HasNoSection (pull_stream side own id r (delivered new pieces ends)).answer ⊎ (fields_next own r (delivered new pieces ends) ≡ fields_in r (section_of_frame f))
begun_lists side own id r pieces ends mid new (frame.Headers bytes) place b h some = inr (ap (λ (i : Incoming). fields_next own r (delivered i pieces ends)) h.1)
begun_lists side own id r pieces ends mid new (frame.Data len) InBody b h some =
    inl (subst (λ (x : Pulled). HasNoSection x.answer) (sym (ap (λ (i : Incoming). pull_stream side own id r (delivered i pieces ends)) h.1 ∙ payload_alike side own id r pieces ends mid len.0 b (some_left len.0 some)))
    (payload_without id (begun_payload (delivered mid pieces ends) len.0)))
begun_lists side own id r pieces ends mid new (frame.Data len) BeforeHead b h some = absurd (not_true h.0)
begun_lists side own id r pieces ends mid new (frame.Data len) AfterTrailer b h some = absurd (not_true h.0)
begun_lists side own id r pieces ends mid new (frame.Data len) InSession b h some = absurd (not_true h.0)
begun_lists side own id r pieces ends mid new (frame.CancelPush push) place b h some = absurd h
begun_lists side own id r pieces ends mid new (frame.Settings settings) place b h some = absurd h
begun_lists side own id r pieces ends mid new (frame.PushPromise promise) place b h some = absurd h
begun_lists side own id r pieces ends mid new (frame.PriorityUpdate update) place b h some = absurd h
begun_lists side own id r pieces ends mid new (frame.Goaway number) place b h some = absurd h
begun_lists side own id r pieces ends mid new (frame.MaxPushId push) place b h some = absurd h
begun_lists side own id r pieces ends mid new (frame.WebTransportStream session) place b h some = absurd h
begun_lists side own id r pieces ends mid new (frame.Grease kind) place b h some = absurd h

-- So it is at any end that takes the frame.
begun_pulls : (own : Announced) (old mid new : Incoming) (f : Frame PayloadLen) → IsBetween old → Passes old mid → FindsFrame (kinds_of own) (is_body old.place) f (concat old.unread) (concat mid.unread)
    → KeepsWithin (kinds_of own) own.choices.unfinished_limit (is_body old.place) (concat old.unread) → Begins mid.place f mid new → PullsAlike own old new
begun_pulls own old mid new f b p finds small begins =
    let here = between_passed old mid p b in
    record { pulls = λ side id r pieces ends. goes_on_alike side id r pieces ends here; lists = λ side id r pieces ends. lists_alike side id r pieces ends here }
  where
    -- the frame is found in what comes
    found_there : (pieces : List (List ℕ)) → frame_by (kinds_of own) (skipped (kinds_of own) (is_body old.place) (concat (old.unread ++ pieces))) ≡ Whole f (concat (mid.unread ++ pieces))
    found_there pieces =
        ap (λ l. frame_by (kinds_of own) (skipped (kinds_of own) (is_body old.place) l)) (concat-append old.unread pieces) ∙ finds (concat pieces) ∙ ap (λ l. Whole f l) (sym (concat-append mid.unread pieces))

    goes_on_alike : (side : Side) (id : ℕ) (r : DecoderState) (pieces : List (List ℕ)) (ends : Bool) → IsBetween mid
        → pull_stream side own id r (delivered new pieces ends) ≡ pull_stream side own id r (delivered old pieces ends)
    goes_on_alike side id r pieces ends here =
        let o = delivered old pieces ends in
        let m = delivered mid pieces ends in
        let there : frame_by (kinds_of own) (skipped (kinds_of own) (is_body old.place) (concat o.unread)) ≡ Whole f (concat m.unread) = found_there pieces in
        let some = found_not_empty (kinds_of own) (is_body old.place) (concat o.unread) (concat m.unread) f there in
        let place = place_passed old mid p in
        begun_alike side own id r pieces ends mid new f mid.place here begins (subst (λ q. (is_body q && is_empty_data f) ≡ false) (sym place) some)
        ∙ ap (λ q. at_frame side own id r side m q f) place
        ∙ sym (between_frame side own id r o m f (passes_behind old mid pieces ends p) there
        (ap (λ l. is_excessive_by (kinds_of own) own.choices.unfinished_limit (skipped (kinds_of own) (is_body old.place) l)) (concat-append old.unread pieces) ∙ small (concat pieces)))
        ∙ sym (between_pull side own id r old pieces ends b)

    lists_alike : (side : Side) (id : ℕ) (r : DecoderState) (pieces : List (List ℕ)) (ends : Bool) → IsBetween mid
        → HasNoSection (pull_stream side own id r (delivered old pieces ends)).answer ⊎ (fields_next own r (delivered new pieces ends) ≡ fields_next own r (delivered old pieces ends))
    lists_alike side id r pieces ends here =
        let o = delivered old pieces ends in
        let m = delivered mid pieces ends in
        let place = place_passed old mid p in
        let some = found_not_empty (kinds_of own) (is_body old.place) (concat o.unread) (concat m.unread) f (found_there pieces) in
        let old_list : fields_next own r o ≡ fields_in r (section_of_frame f) = none_next own r o b.none ∙ ap (λ x. fields_in r (section_in x)) (found_there pieces) in
        either (begun_lists side own id r pieces ends mid new f mid.place here begins (subst (λ q. (is_body q && is_empty_data f) ≡ false) (sym place) some)) old_list (goes_on_alike side id r pieces ends here)
      where
        either : HasNoSection (pull_stream side own id r (delivered new pieces ends)).answer ⊎ (fields_next own r (delivered new pieces ends) ≡ fields_in r (section_of_frame f))
            → fields_next own r (delivered old pieces ends) ≡ fields_in r (section_of_frame f)
            → pull_stream side own id r (delivered new pieces ends) ≡ pull_stream side own id r (delivered old pieces ends)
            → HasNoSection (pull_stream side own id r (delivered old pieces ends)).answer ⊎ (fields_next own r (delivered new pieces ends) ≡ fields_next own r (delivered old pieces ends))
        either (inl without) is same = inl (subst (λ (x : Pulled). HasNoSection x.answer) same without)
        either (inr lists) is same = inr (lists ∙ sym is)

-- what it gives is begun where nothing is known of the content
begins_unsaid : (place : Place) (f : Frame PayloadLen) (old new : Incoming) → Begins place f old new → Begins place f (unsaid old) (unsaid new)
begins_unsaid BeforeHead (frame.Headers bytes) old new h = (refl, ap unsaid h.1)
begins_unsaid InBody (frame.Headers bytes) old new h = (refl, ap unsaid h.1)
begins_unsaid AfterTrailer (frame.Headers bytes) old new h = (h.0, ap unsaid h.1)
begins_unsaid InSession (frame.Headers bytes) old new h = (h.0, ap unsaid h.1)
begins_unsaid place (frame.Data len) old new h = (h.0, ap unsaid h.1)
begins_unsaid place (frame.CancelPush push) old new h = absurd h
begins_unsaid place (frame.Settings settings) old new h = absurd h
begins_unsaid place (frame.PushPromise promise) old new h = absurd h
begins_unsaid place (frame.PriorityUpdate update) old new h = absurd h
begins_unsaid place (frame.Goaway number) old new h = absurd h
begins_unsaid place (frame.MaxPushId push) old new h = absurd h
begins_unsaid place (frame.WebTransportStream session) old new h = absurd h
begins_unsaid place (frame.Grease kind) old new h = absurd h

-- what the next frame gives has begun, so nothing stands there
begun_next : (kinds : FrameKinds) (first mid new : Incoming) (f : Frame PayloadLen) (place : Place) → Begins place f mid new → (is_body place && is_empty_data f) ≡ false → StandsNext kinds first new
begun_next kinds first mid new (frame.Headers bytes) place h some = λ between. absurd (let never : Some bytes ≡ None = sym (ap {A = Incoming} (λ i. i.section) h.1) ∙ between.0 in cc)
begun_next kinds first mid new (frame.Data len) InBody h some =
    λ between. absurd (let left : 0 < len.0 = some_left len.0 some in let none : len.0 ≡ 0 = sym (ap {A = Incoming} (λ i. i.body_left) h.1) ∙ between.1 in omega (arith, left, none))
begun_next kinds first mid new (frame.Data len) BeforeHead h some = absurd (not_true h.0)
begun_next kinds first mid new (frame.Data len) AfterTrailer h some = absurd (not_true h.0)
begun_next kinds first mid new (frame.Data len) InSession h some = absurd (not_true h.0)
begun_next kinds first mid new (frame.CancelPush push) place h some = absurd h
begun_next kinds first mid new (frame.Settings settings) place h some = absurd h
begun_next kinds first mid new (frame.PushPromise promise) place h some = absurd h
begun_next kinds first mid new (frame.PriorityUpdate update) place h some = absurd h
begun_next kinds first mid new (frame.Goaway number) place h some = absurd h
begun_next kinds first mid new (frame.MaxPushId push) place h some = absurd h
begun_next kinds first mid new (frame.WebTransportStream session) place h some = absurd h
begun_next kinds first mid new (frame.Grease kind) place h some = absurd h

-- a payload counts as content
begun_counts : (mid new : Incoming) (f : Frame PayloadLen) (place : Place) → Begins place f mid new → CountsOn mid.content new.content
begun_counts mid new (frame.Headers bytes) place h = inl (ap {A = Incoming} (λ i. i.content) h.1)
begun_counts mid new (frame.Data len) place h = inr (len.0, ap {A = Incoming} (λ i. i.content) h.1)
begun_counts mid new (frame.CancelPush push) place h = absurd h
begun_counts mid new (frame.Settings settings) place h = absurd h
begun_counts mid new (frame.PushPromise promise) place h = absurd h
begun_counts mid new (frame.PriorityUpdate update) place h = absurd h
begun_counts mid new (frame.Goaway number) place h = absurd h
begun_counts mid new (frame.MaxPushId push) place h = absurd h
begun_counts mid new (frame.WebTransportStream session) place h = absurd h
begun_counts mid new (frame.Grease kind) place h = absurd h

pub resumes_begun : (own : Announced) (old mid new : Incoming) (f : Frame PayloadLen) → IsBetween old → Passes old mid → FindsFrame (kinds_of own) (is_body old.place) f (concat old.unread) (concat mid.unread)
    → KeepsWithin (kinds_of own) own.choices.unfinished_limit (is_body old.place) (concat old.unread) → Begins mid.place f mid new → Resumes own old new
resumes_begun own old mid new f b p finds small begins =
    let here = between_passed old mid p b in
    let begun = is_begun mid new f mid.place here.waits begins in
    let some : (is_body mid.place && is_empty_data f) ≡ false =
    subst (λ q. (is_body q && is_empty_data f) ≡ false) (sym (place_passed old mid p))
    (found_not_empty (kinds_of own) (is_body old.place) (concat old.unread ++ []) (concat mid.unread ++ []) f (finds [])) in
    record {
      alike = begun_pulls own old mid new f b p finds small begins;
      plainly = λ other known none.
          begun_pulls other (unsaid old) (unsaid mid) (unsaid new) f (between_unsaid old b) (passes_unsaid old mid p)
          (subst (λ (kinds : FrameKinds). FindsFrame kinds (is_body old.place) f (concat old.unread) (concat mid.unread)) (sym known) finds)
          (λ more. none_excessive_by (kinds_of other) other.choices.unfinished_limit (skipped (kinds_of other) (is_body old.place) (concat old.unread ++ more)) none)
          (begins_unsaid mid.place f mid new begins);
      next = begun_next (kinds_of own) old mid new f mid.place begins some;
      counts = subst (λ c. CountsOn c new.content) (ap {A = Incoming} (λ i. i.content) p.same) (begun_counts mid new f mid.place begins);
      gives_up = λ fault. begun.gives_up fault ∙ ap {A = Incoming} (λ i. given_up i fault) p.same;
      place = begun.place ∙ ap {A = Incoming} (λ i. i.place) p.same;
      response = begun.response ∙ ap {A = Incoming} (λ i. i.response) p.same;
      is_over = begun.is_over ∙ ap {A = Incoming} (λ i. i.is_over) p.same;
      waits_for = begun.waits_for ∙ sym b.waits;
      tries = begun.tries ∙ ap {A = Incoming} (λ i. i.tries) p.same;
      ended = begun.ended ∙ ap {A = Incoming} (λ i. i.ended) p.same;
      was_reset = begun.was_reset ∙ ap {A = Incoming} (λ i. i.was_reset) p.same;
      fault = begun.fault ∙ ap {A = Incoming} (λ i. i.fault) p.same;
    }
