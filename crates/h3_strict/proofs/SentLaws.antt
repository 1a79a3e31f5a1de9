-- A send that a strict endpoint takes adds a part that breaks no rule, and counts on.
use Rattle.std.proofs.Common.{◌≡◌, ℕ, Bool, true, false, List, [], ◌∷◌, ◌++◌, refl, Option, Some, None, if◌then◌else◌}
use Rattle.std.specs.Prelude.{not, ◌&&◌, flat_map, codes}
use Rattle.h3_field.specs.Field.{Field, section_size}
use Rattle.h3_header.specs.Head.{Head, has_pseudo}
use Rattle.h3_messages.specs.Content.{asked_by, awaited as awaited_as, awaited_by, is_exceeded, left_behind, may_end, takes_trailer}
use Rattle.h3_messages.specs.Messages.{value_of}
use Rattle.h3_messages.specs.declared.content.Asked.{Asked}
use Rattle.h3_messages.specs.declared.content.Asked.TheVariants as asked
use Rattle.h3_messages.specs.declared.content.Content.{Content}
use Rattle.h3_proto.specs.declared.stream.Side.{Side}
use Rattle.h3_connection.specs.Endpoint.{EndpointHistory}
use Rattle.h3_connection.specs.Remembering.{settings_known}
use Rattle.h3_connection.specs.Outgoing.{Outgoing, is_unsent, takes_body, takes_end, takes_head}
use Rattle.h3_connection.specs.Outgoing as sent
use Rattle.h3_connection.specs.OwnIds.{other}
use Rattle.h3_connection.specs.Pulling.{is_for}
use Rattle.h3_connection.specs.Refusals.{first_of, is_too_large, refusal_of_head, refusal_of_trailer, unless_going}
use Rattle.h3_connection.specs.Sending.{body_refusal, finish_refusal, is_open, outgoing_at, sender_at, unless_closed, broken_head_at}
use Rattle.h3_connection.specs.StrictSending.{broken_trailer, early_trailer, passes_content, unless_malformed}
use Rattle.h3_connection.specs.StrictSendingLaws.{not_closed, not_early, not_going, not_malformed, passed}
use Rattle.h3_connection.specs.declared.event.Malformation.{Malformation}
use Rattle.h3_connection.specs.declared.event.Malformation.TheVariants as malformation
use Rattle.h3_connection.specs.declared.event.Refusal.{Refusal}
use Rattle.h3_connection.specs.declared.event.Refusal.TheVariants as refusal
use Rattle.h3_connection.specs.declared.setup.Announced.{Announced}
use Rattle.h3_world.specs.Flow.{Part, Section, own_part}
use Rattle.h3_world.specs.Flow.Part.{Body, End, Head as HeadPart, Interim, Trailer}
use Rattle.h3_strict.specs.Tallies.{asked_in, has_head}
use Rattle.h3_strict.specs.Unbroken.{AreUnbroken, IsAwaited, content_along}

-- What the rules of a call say that was not refused.
held : (b : Bool) (r : Refusal) (rules : List (Bool × Refusal)) → first_of ((b, r) ∷ rules) ≡ None → b ≡ false
held true r rules e = absurd (cc)
held false r rules e = refl

is_true : (b : Bool) → not b ≡ false → b ≡ true
is_true true h = refl
is_true false h = absurd (cc)

-- a head that goes out as these fields
abbrev pub head_judged : EndpointHistory → ℕ → Option Malformation → Head → List Field → Option Refusal
head_judged e id told head fields = unless_closed e (refusal_of_head (sender_at e id) told (broken_head_at e id fields) head fields)

pub record TakesHead (e : EndpointHistory) (id : ℕ) (head : Head) (fields : List Field) : Type 0 where
  pub takes : takes_head (outgoing_at e id) ≡ true
  pub fits : is_for (other e.side) head ≡ true
  pub rule : broken_head_at e id fields ≡ None
  pub small : is_too_large (settings_known e.announced e.peer.settings) fields ≡ false

pub head_rules : (e : EndpointHistory) (id : ℕ) (told : Option Malformation) (head : Head) (fields : List Field) → head_judged e id told head fields ≡ None → TakesHead e id head fields
head_rules e id protocol head fields done =
    let large = (is_too_large (settings_known e.announced e.peer.settings) fields, refusal.TooLarge (section_size fields)) ∷ [] in
    let broken = broken_head_at e id fields in
    let wrong = (not (is_for (other e.side) head), refusal.WrongSide) ∷ unless_malformed broken large in
    let going = (sender_at e id).going in
    let judged = unless_going going (unless_malformed protocol wrong) in
    let there = passed (not (is_open e id)) refusal.NotOpen ((not (takes_head (outgoing_at e id)), refusal.OutOfOrder) ∷ judged) (not_closed e.closed _ done) in
    let placed = not_early protocol wrong (not_going going (unless_malformed protocol wrong) (passed (not (takes_head (outgoing_at e id))) refusal.OutOfOrder judged there)) in
    record {
      takes = is_true (takes_head (outgoing_at e id)) (held (not (takes_head (outgoing_at e id))) refusal.OutOfOrder judged there);
      fits = is_true (is_for (other e.side) head) (held (not (is_for (other e.side) head)) refusal.WrongSide (unless_malformed broken large) placed);
      rule = not_malformed broken large (passed (not (is_for (other e.side) head)) refusal.WrongSide (unless_malformed broken large) placed);
      small = held (is_too_large (settings_known e.announced e.peer.settings) fields) (refusal.TooLarge (section_size fields)) [] (not_early broken large (passed (not (is_for (other e.side) head)) refusal.WrongSide (unless_malformed broken large) placed));
    }

-- so the list was read
pub head_told : (e : EndpointHistory) (id : ℕ) (told : Option Malformation) (head : Head) (fields : List Field) → head_judged e id told head fields ≡ None → told ≡ None
head_told e id told head fields done =
    let large = (is_too_large (settings_known e.announced e.peer.settings) fields, refusal.TooLarge (section_size fields)) ∷ [] in
    let wrong = (not (is_for (other e.side) head), refusal.WrongSide) ∷ unless_malformed (broken_head_at e id fields) large in
    let going = (sender_at e id).going in
    let judged = unless_going going (unless_malformed told wrong) in
    let there = passed (not (is_open e id)) refusal.NotOpen ((not (takes_head (outgoing_at e id)), refusal.OutOfOrder) ∷ judged) (not_closed e.closed _ done) in
    not_malformed told wrong (not_going going (unless_malformed told wrong) (passed (not (takes_head (outgoing_at e id))) refusal.OutOfOrder judged there))

-- a body
pub record TakesBody (e : EndpointHistory) (id size : ℕ) : Type 0 where
  pub takes : takes_body (outgoing_at e id) ≡ true
  pub fits : is_exceeded (left_behind (outgoing_at e id).content size) ≡ false

pub body_rules : (e : EndpointHistory) (id size : ℕ) → body_refusal e id size ≡ None → TakesBody e id size
body_rules e id size done =
    let last = (passes_content (outgoing_at e id).content size, refusal.Malformed malformation.ContentLength) ∷ [] in
    let there = passed (not (is_open e id)) refusal.NotOpen ((not (takes_body (outgoing_at e id)), refusal.OutOfOrder) ∷ last) (not_closed e.closed _ done) in
    record {
      takes = is_true (takes_body (outgoing_at e id)) (held (not (takes_body (outgoing_at e id))) refusal.OutOfOrder last there);
      fits = held (passes_content (outgoing_at e id).content size) (refusal.Malformed malformation.ContentLength) [] (passed (not (takes_body (outgoing_at e id))) refusal.OutOfOrder last there);
    }

-- a trailer
abbrev pub trailer_judged : EndpointHistory → ℕ → Option Malformation → Head → List Field → Option Refusal
trailer_judged e id told trailer fields = unless_closed e (refusal_of_trailer (sender_at e id) told (early_trailer (outgoing_at e id).content) (broken_trailer e.announced fields) trailer fields)

pub record TakesTrailer (e : EndpointHistory) (id : ℕ) (fields : List Field) : Type 0 where
  pub takes : takes_body (outgoing_at e id) ≡ true
  pub early : early_trailer (outgoing_at e id).content ≡ None
  pub rule : broken_trailer e.announced fields ≡ None
  pub small : is_too_large (settings_known e.announced e.peer.settings) fields ≡ false

pub trailer_rules : (e : EndpointHistory) (id : ℕ) (told : Option Malformation) (trailer : Head) (fields : List Field) → trailer_judged e id told trailer fields ≡ None → TakesTrailer e id fields
trailer_rules e id protocol trailer fields done =
    let large = (is_too_large (settings_known e.announced e.peer.settings) fields, refusal.TooLarge (section_size fields)) ∷ [] in
    let broken = broken_trailer e.announced fields in
    let early = early_trailer (outgoing_at e id).content in
    let pseudo = (has_pseudo trailer, refusal.PseudoInTrailer) ∷ unless_malformed early (unless_malformed broken large) in
    let there = passed (not (is_open e id)) refusal.NotOpen ((not (takes_body (outgoing_at e id)), refusal.OutOfOrder) ∷ unless_malformed protocol pseudo) (not_closed e.closed _ done) in
    let placed = not_early protocol pseudo (passed (not (takes_body (outgoing_at e id))) refusal.OutOfOrder (unless_malformed protocol pseudo) there) in
    let behind = passed (has_pseudo trailer) refusal.PseudoInTrailer (unless_malformed early (unless_malformed broken large)) placed in
    record {
      takes = is_true (takes_body (outgoing_at e id)) (held (not (takes_body (outgoing_at e id))) refusal.OutOfOrder (unless_malformed protocol pseudo) there);
      early = not_malformed early (unless_malformed broken large) behind;
      rule = not_malformed broken large (not_early early (unless_malformed broken large) behind);
      small = held (is_too_large (settings_known e.announced e.peer.settings) fields) (refusal.TooLarge (section_size fields)) [] (not_early broken large (not_early early (unless_malformed broken large) behind));
    }

pub trailer_told : (e : EndpointHistory) (id : ℕ) (told : Option Malformation) (trailer : Head) (fields : List Field) → trailer_judged e id told trailer fields ≡ None → told ≡ None
trailer_told e id told trailer fields done =
    let large = (is_too_large (settings_known e.announced e.peer.settings) fields, refusal.TooLarge (section_size fields)) ∷ [] in
    let early = early_trailer (outgoing_at e id).content in
    let pseudo = (has_pseudo trailer, refusal.PseudoInTrailer) ∷ unless_malformed early (unless_malformed (broken_trailer e.announced fields) large) in
    let there = passed (not (is_open e id)) refusal.NotOpen ((not (takes_body (outgoing_at e id)), refusal.OutOfOrder) ∷ unless_malformed told pseudo) (not_closed e.closed _ done) in
    not_malformed told pseudo (passed (not (takes_body (outgoing_at e id))) refusal.OutOfOrder (unless_malformed told pseudo) there)

-- the end
pub record TakesEnd (e : EndpointHistory) (id : ℕ) : Type 0 where
  pub takes : takes_end (outgoing_at e id) ≡ true
  pub ends : may_end (outgoing_at e id).content ≡ true

pub finish_rules : (e : EndpointHistory) (id : ℕ) → finish_refusal e id ≡ None → TakesEnd e id
finish_rules e id done =
    let last = (not (may_end (outgoing_at e id).content), refusal.Malformed malformation.ContentLength) ∷ [] in
    let there = passed (not (is_open e id)) refusal.NotOpen ((not (takes_end (outgoing_at e id)), refusal.OutOfOrder) ∷ last) (not_closed e.closed _ done) in
    record {
      takes = is_true (takes_end (outgoing_at e id)) (held (not (takes_end (outgoing_at e id))) refusal.OutOfOrder last there);
      ends = is_true (may_end (outgoing_at e id).content) (held (not (may_end (outgoing_at e id).content)) (refusal.Malformed malformation.ContentLength) [] (passed (not (takes_end (outgoing_at e id))) refusal.OutOfOrder last there));
    }

-- where a body may be sent, the end may
pub body_is_behind : (o : Outgoing) → takes_body o ≡ true → takes_end o ≡ true
body_is_behind o h = by_tests (sent.is_unended o) (not (is_unsent o.parts)) (not (sent.last_is_trailer o.parts)) h
  where
    by_tests : (a b c : Bool) → (a && b && c) ≡ true → (a && b) ≡ true
    by_tests true true c e = refl
    by_tests true false c e = absurd (cc)
    by_tests false b c e = absurd (cc)

pub head_is_open : (o : Outgoing) → takes_head o ≡ true → (sent.is_unended o ≡ true) × (is_unsent o.parts ≡ true)
head_is_open o h = by_tests (sent.is_unended o) (is_unsent o.parts) h
  where
    by_tests : (a b : Bool) → (a && b) ≡ true → (a ≡ true) × (b ≡ true)
    by_tests true true e = (refl, refl)
    by_tests true false e = absurd (cc)
    by_tests false b e = absurd (cc)

-- In front of the final head nothing was said: the parts are interim heads.
pub unsent_along : (reader : Side) (awaited : Content) (parts : List Part) → is_unsent (flat_map own_part parts) ≡ true → content_along reader awaited parts ≡ awaited
unsent_along reader awaited [] h = refl
unsent_along reader awaited (Interim s ∷ parts) h = unsent_along reader awaited parts h
unsent_along reader awaited (HeadPart s ∷ parts) h = absurd (cc)
unsent_along reader awaited (Body bytes end ∷ parts) h = absurd (cc)
unsent_along reader awaited (Trailer s ∷ parts) h = absurd (cc)
unsent_along reader awaited (End ∷ parts) h = unsent_along reader awaited parts h

pub unsent_no_head : (parts : List Part) → is_unsent (flat_map own_part parts) ≡ true → has_head parts ≡ false
unsent_no_head [] h = refl
unsent_no_head (Interim s ∷ parts) h = unsent_no_head parts h
unsent_no_head (HeadPart s ∷ parts) h = absurd (cc)
unsent_no_head (Body bytes end ∷ parts) h = absurd (cc)
unsent_no_head (Trailer s ∷ parts) h = absurd (cc)
unsent_no_head (End ∷ parts) h = unsent_no_head parts h

-- What is awaited in front of parts with no head of a reader may change.
pub unbroken_other : (reader : Side) (own : Announced) (before after : Content) (parts : List Part) → has_head parts ≡ false → is_unsent (flat_map own_part parts) ≡ true → IsAwaited reader after → may_end after ≡ true
    → AreUnbroken reader own before parts → AreUnbroken reader own after parts
unbroken_other reader own before after [] none unsent awaited ends h = tt
unbroken_other reader own before after (Interim s ∷ parts) none unsent awaited ends h = ((h.0.0, awaited, h.0.2), unbroken_other reader own before after parts none unsent awaited ends h.1)
unbroken_other reader own before after (HeadPart s ∷ parts) none unsent awaited ends h = absurd (cc)
unbroken_other reader own before after (Body bytes end ∷ parts) none unsent awaited ends h = absurd (cc)
unbroken_other reader own before after (Trailer s ∷ parts) none unsent awaited ends h = absurd (cc)
unbroken_other reader own before after (End ∷ parts) none unsent awaited ends h = (ends, unbroken_other reader own before after parts none unsent awaited ends h.1)

-- what a request asks stays once its head was sent
pub asked_more : (parts : List Part) (part : Part) → has_head parts ≡ true → (asked_in (parts ++ part ∷ []) ≡ asked_in parts) × (has_head (parts ++ part ∷ []) ≡ true)
asked_more [] part h = absurd (cc)
asked_more (Interim s ∷ parts) part h = asked_more parts part h
asked_more (HeadPart s ∷ parts) part h = (refl, refl)
asked_more (Body bytes end ∷ parts) part h = asked_more parts part h
asked_more (Trailer s ∷ parts) part h = asked_more parts part h
asked_more (End ∷ parts) part h = asked_more parts part h

-- and is that of its head
pub asked_first : (parts : List Part) (s : Section) → has_head parts ≡ false → (asked_in (parts ++ HeadPart s ∷ []) ≡ awaited_by s.fields) × (has_head (parts ++ HeadPart s ∷ []) ≡ true)
asked_first [] s h = (refl, refl)
asked_first (Interim t ∷ parts) s h = asked_first parts s h
asked_first (HeadPart t ∷ parts) s h = absurd (cc)
asked_first (Body bytes end ∷ parts) s h = asked_first parts s h
asked_first (Trailer t ∷ parts) s h = asked_first parts s h
asked_first (End ∷ parts) s h = asked_first parts s h

-- a part that is no head leaves both
abbrev pub is_head_part : Part → Bool
is_head_part (HeadPart s) = true
is_head_part _ = false

pub asked_same : (parts : List Part) (part : Part) → is_head_part part ≡ false → (asked_in (parts ++ part ∷ []) ≡ asked_in parts) × (has_head (parts ++ part ∷ []) ≡ has_head parts)
asked_same [] (Interim s) h = (refl, refl)
asked_same [] (HeadPart s) h = absurd (cc)
asked_same [] (Body bytes end) h = (refl, refl)
asked_same [] (Trailer s) h = (refl, refl)
asked_same [] End h = (refl, refl)
asked_same (Interim s ∷ parts) part h = asked_same parts part h
asked_same (HeadPart s ∷ parts) part h = (refl, refl)
asked_same (Body bytes end ∷ parts) part h = asked_same parts part h
asked_same (Trailer s ∷ parts) part h = asked_same parts part h
asked_same (End ∷ parts) part h = asked_same parts part h

-- what a request asks may be awaited
pub asked_awaited : (parts : List Part) → may_end (asked_in parts) ≡ true
asked_awaited [] = refl
asked_awaited (HeadPart s ∷ parts) = by_asked (asked_by (value_of (codes ":method") s.fields))
  where
    by_asked : (a : Asked) → may_end (awaited_as a) ≡ true
    by_asked asked.Head = refl
    by_asked asked.Connect = refl
    by_asked asked.Other = refl
asked_awaited (Interim s ∷ parts) = asked_awaited parts
asked_awaited (Body bytes end ∷ parts) = asked_awaited parts
asked_awaited (Trailer s ∷ parts) = asked_awaited parts
asked_awaited (End ∷ parts) = asked_awaited parts

-- a trailer that comes not too early
pub trailer_is_late : (content : Content) → early_trailer content ≡ None → (takes_trailer content ≡ true) × (may_end content ≡ true)
trailer_is_late left h = by_tests (takes_trailer left) (may_end left) h
  where
    by_tests : (a b : Bool) → ◌≡◌ {A = Option Malformation} (if a then (if b then None else Some malformation.ContentLength) else Some malformation.Connect) None → (a ≡ true) × (b ≡ true)
    by_tests true true e = (refl, refl)
    by_tests true false e = absurd (cc)
    by_tests false b e = absurd (cc)
