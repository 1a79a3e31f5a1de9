-- A send that is in order by the events before it is accepted.
use Rattle.std.proofs.Common.{◌≡◌, ◌⊎◌, inl, inr, ℕ, Bool, true, false, List, [], ◌∷◌, refl, ap, sym, ◌∙◌, subst, Option, Some, None, if◌then◌else◌}
use Rattle.std.specs.Prelude.{not, ◌&&◌, ◌||◌, ◌-◌, ◌^◌, is_some, length, map, nat_lt, option_map, take, unwrap_or}
use Rattle.std.specs.List.{list_any}
use Rattle.std.proofs.lemmas.Bool.{le-ltb, leb-true}
use Rattle.h3_field.specs.Field.{Field, section_size}
use Rattle.h3_header.specs.Head.{Head as Fields, head_fields, has_pseudo}
use Rattle.h3_header.specs.HeadTests.{is_protocol_by, takes_protocol}
use Rattle.h3_proto.specs.Settings.{value_of}
use Rattle.h3_proto.specs.declared.stream.Side.{Side}
use Rattle.h3_proto.specs.declared.stream.Side.TheVariants.{Client, Server}
use Rattle.h3_connection.specs.Announcing.{section_of}
use Rattle.h3_connection.specs.Outgoing.{takes_body, takes_head}
use Rattle.h3_connection.specs.OwnIds.{other}
use Rattle.h3_connection.specs.Pulling.{is_for}
use Rattle.h3_connection.specs.Endpoint.{goaway_encoding}
use Rattle.h3_connection.specs.Lasts.{last_id}
use Rattle.h3_connection.specs.Refusals.{first_of, is_too_large, unless_going}
use Rattle.h3_connection.specs.StrictConnection.{is_strict}
use Rattle.h3_connection.specs.StrictSending.{unless_malformed}
use Rattle.h3_connection.specs.declared.event.Malformation.{Malformation}
use Rattle.h3_connection.specs.declared.event.Malformation.TheVariants as malformation
use Rattle.h3_connection.specs.declared.event.Refusal.{Refusal}
use Rattle.h3_connection.specs.declared.event.Refusal.TheVariants as refusal
use Rattle.h3_qpack.specs.WholeInstructions.{whole_in}
use Rattle.h3_world.specs.Came.{goaways_came, settings_came, settings_known}
use Rattle.h3_world.specs.Flow.{Flow}
use Rattle.h3_world.specs.Lists.{unreadable}
use Rattle.h3_world.specs.Order.{outgoing_of}
use Rattle.h3_world.specs.OwnStreams.{settings_bytes}
use Rattle.h3_world.specs.Refusals.{none_after}
use Rattle.h3_world.specs.Setup.{Setup, announced_at, takes_any}
use Rattle.h3_world.specs.Sound.{IsSoundFlow}
use Rattle.h3_world.specs.Step.{Does, Step}
use Rattle.h3_world.specs.Streams.{flow, is_open}
use Rattle.h3_world.specs.World.{World, party}
use Rattle.h3_world.specs.declared.event.Answer.{Answer}
use Rattle.h3_world.specs.declared.event.Answer.TheVariants as answer
use Rattle.h3_world.specs.declared.event.Event.{Event}
use Rattle.h3_world.specs.declared.event.Event.TheVariants as event
use Rattle.h3_headline.specs.Contents.{contents, has_end}
use Rattle.h3_headline.specs.FlowLaws.{same_number}
use Rattle.h3_headline.specs.Changes.{goes_away, resets_on}
use Rattle.h3_headline.specs.Exactly.{as_listed}
use Rattle.h3_headline.specs.InOrder.{IsInOrder}
use Rattle.h3_headline.specs.Messages.{MessageContent, any_of, has_finished, is_on, sent}
use Rattle.h3_headline.specs.Messages.MessageContent.{Byte, FieldSection, Foreign, TooLarge}
use Rattle.h3_headline.specs.Messages.SectionKind.{OfHead, OfInterim, OfTrailer}
use Rattle.h3_memory.specs.Kept.{KeepingWorld}
use Rattle.h3_memory.specs.MemoryStep.{Answers, StepOf}
use Rattle.h3_memory.specs.MemoryStep.{LacksMemory as AnswersWithoutMemory}
use Rattle.h3_strict.specs.PlainEnds.{is_malformed_refusal, plain_setup}
use Rattle.h3_faithful.specs.Faithful.{IsAccepted}
use Rattle.h3_faithful.specs.Reading.{header_in, is_pseudo, is_sent_by}
use Rattle.h3_faithful.specs.Sends.{begins_late, goes_on, is_between, is_head_section, is_next, is_trailer_section, opens, takes_size, may_be_unread}
use Rattle.h3_faithful.specs.Steps.{AsPlainly, GivesMessageUp, HappensAnywhere, IsRefusedUnread, LacksMemory, MayLack, PullsOn, RefusesMalformed, RefusesOwn, asks_for_strict, is_strict_send, unread}
use Rattle.h3_faithful.proofs.HeaderRead.{has_none, header_read, pseudo_read, read_by_other}
use Rattle.h3_faithful.proofs.Takes.{awaits_head, both_hold, both_of, opposite, takes_body_next, takes_end_next, takes_head_next, three_of}

-- What the events and their answers say of a stream of a side holds of it in the world.
pub record Tells (w : World) (side : Side) (id : ℕ) (before : List Event) (given : List Answer) : Type 0 where
  pub opened : any_of (opens side id) before given ≡ true → is_open w side id ≡ true
  pub not_reset : any_of (resets_on side id) before given ≡ false → (flow w side id).is_reset ≡ false
  pub sent_is : contents (flow w side id).sent ≡ map as_listed (sent side id before given)
  pub end_is : has_end (flow w side id).sent ≡ has_finished side id before given
  pub going : any_of goes_away before given ≡ false → w.server.own.goaways ≡ []
  pub sound : is_open w side id ≡ true → IsSoundFlow (party w side) (flow w side id)

-- the call is the side's, on the stream
pub on_same : (side acting : Side) (id i : ℕ) → is_on side id acting i ≡ true → (acting ≡ side) × (i ≡ id)
on_same Client Client id i h = (refl, same_number i id h)
on_same Server Server id i h = (refl, same_number i id h)
on_same Client Server id i h = absurd (cc)
on_same Server Client id i h = absurd (cc)

-- what is known of the other side stands in its settings
same_settings : (setup : Setup) (side : Side) → (announced_at (plain_setup setup) side).settings ≡ (announced_at setup side).settings
same_settings setup Client = refl
same_settings setup Server = refl

fits_known : (setup : Setup) (w : World) (side : Side) (fields : List Field) → takes_size setup side fields ≡ true → is_too_large (settings_known (plain_setup setup) w side) fields ≡ false
fits_known setup w side fields fits = by_came (settings_came (plain_setup setup) w (other side))
  where
    by_came : (b : Bool) → is_too_large (if b then Some (announced_at (plain_setup setup) (other side)).settings else None) fields ≡ false
    by_came false = refl
    by_came true =
        let most = section_of (announced_at setup (other side)) in
        ap (λ pairs. nat_lt (unwrap_or (value_of 6 pairs) (2 ^ 62 - 1)) (section_size fields)) (same_settings setup (other side)) ∙ le-ltb most (section_size fields) (leb-true (section_size fields) most fits)

-- A list is in its place, and reads as no header.
abbrev pub IsUnreadable : Setup → World → Event → Type 0
IsUnreadable setup w (event.Fields side id fields) =
    (is_open w side id ≡ true) × (takes_head (outgoing_of (flow w side id)) ≡ true) × (none_after setup w side ≡ None) × (why : Malformation) × (unreadable (takes_any (announced_at setup side)) fields ≡ Some why)
IsUnreadable setup w (event.TrailerFields side id fields) =
    (is_open w side id ≡ true) × (takes_body (outgoing_of (flow w side id)) ≡ true) × (why : Malformation) × (unreadable (takes_any (announced_at setup side)) fields ≡ Some why)
IsUnreadable setup w _ = ⊥

-- A head is in its place, and the other side has gone away.
abbrev pub IsLate : Setup → World → Event → Type 0
IsLate setup w (event.Head side id head) = (is_open w side id ≡ true) × (takes_head (outgoing_of (flow w side id)) ≡ true) × (last : ℕ) × (none_after setup w side ≡ Some last)
IsLate setup w (event.Fields side id fields) = (is_open w side id ≡ true) × (takes_head (outgoing_of (flow w side id)) ≡ true) × (last : ℕ) × (none_after setup w side ≡ Some last)
IsLate setup w _ = ⊥

abbrev IsPlaced : Setup → World → Event → Type 0
IsPlaced setup w e = IsInOrder setup w e ⊎ (IsUnreadable setup w e ⊎ IsLate setup w e)

-- what is next is so of the lists that go out
listed_head : (c : MessageContent) → is_head_section (as_listed c) ≡ is_head_section c
listed_head (FieldSection OfInterim as_list fields) = refl
listed_head (FieldSection OfHead as_list fields) = refl
listed_head (FieldSection OfTrailer as_list fields) = refl
listed_head (Byte b) = refl
listed_head (TooLarge size) = refl
listed_head Foreign = refl

listed_trailer : (c : MessageContent) → is_trailer_section (as_listed c) ≡ is_trailer_section c
listed_trailer (FieldSection OfInterim as_list fields) = refl
listed_trailer (FieldSection OfHead as_list fields) = refl
listed_trailer (FieldSection OfTrailer as_list fields) = refl
listed_trailer (Byte b) = refl
listed_trailer (TooLarge size) = refl
listed_trailer Foreign = refl

heads_listed : (l : List MessageContent) → list_any is_head_section (map as_listed l) ≡ list_any is_head_section l
heads_listed [] = refl
heads_listed (c ∷ l) = ap (λ b. b || list_any is_head_section (map as_listed l)) (listed_head c) ∙ ap (λ b. is_head_section c || b) (heads_listed l)

trailers_listed : (l : List MessageContent) → list_any is_trailer_section (map as_listed l) ≡ list_any is_trailer_section l
trailers_listed [] = refl
trailers_listed (c ∷ l) = ap (λ b. b || list_any is_trailer_section (map as_listed l)) (listed_trailer c) ∙ ap (λ b. is_trailer_section c || b) (trailers_listed l)

awaits_listed : (l : List MessageContent) → awaits_head (map as_listed l) ≡ awaits_head l
awaits_listed l = ap not (heads_listed l)

between_listed : (l : List MessageContent) → is_between (map as_listed l) ≡ is_between l
between_listed l = ap (λ b. b && not (list_any is_trailer_section (map as_listed l))) (heads_listed l) ∙ ap (λ b. list_any is_head_section l && not b) (trailers_listed l)

module _ (setup : Setup) (w : World) (side : Side) (id : ℕ) (before : List Event) (given : List Answer) (t : Tells w side id before given) (on : goes_on side id before given ≡ true) where
  abbrev ps : Setup
  ps = plain_setup setup

  abbrev f : Flow
  f = flow w side id

  abbrev all : List MessageContent
  all = sent side id before given

  abbrev first : Bool
  first = any_of (opens side id) before given

  abbrev second : Bool
  second = not (has_finished side id before given)

  abbrev third : Bool
  third = not (any_of (resets_on side id) before given)

  here : is_open w side id ≡ true
  here = t.opened (three_of first second third on).0

  unfinished : has_end f.sent ≡ false
  unfinished = t.end_is ∙ opposite (has_finished side id before given) (three_of first second third on).1

  live : f.is_reset ≡ false
  live = t.not_reset (opposite (any_of (resets_on side id) before given) (three_of first second third on).2)

  takes_head_here : awaits_head all ≡ true → takes_head (outgoing_of f) ≡ true
  takes_head_here h = takes_head_next (party w side) f (t.sound here) live unfinished (ap awaits_head t.sent_is ∙ awaits_listed all ∙ h)

  takes_body_here : is_between all ≡ true → takes_body (outgoing_of f) ≡ true
  takes_body_here h = takes_body_next f live unfinished (ap is_between t.sent_is ∙ between_listed all ∙ h)

  -- on the side's own stream
  head_placed : (head : Fields) → (awaits_head all && is_sent_by side head && takes_size setup side (head_fields head)) ≡ true → IsPlaced ps w (event.Head side id head)
  head_placed head h = by_going (none_after ps w side) refl
    where
      by_going : (o : Option ℕ) → none_after ps w side ≡ o → IsPlaced ps w (event.Head side id head)
      by_going None e =
          let a = three_of (awaits_head all) (is_sent_by side head) (takes_size setup side (head_fields head)) h in
          inl (here, takes_head_here a.0, e, read_by_other side head ∙ a.1, fits_known setup w side (head_fields head) a.2)
      by_going (Some last) e = inr (inr (here, takes_head_here (three_of (awaits_head all) (is_sent_by side head) (takes_size setup side (head_fields head)) h).0, last, e))

  trailer_placed : (trailer : Fields) → (is_between all && not (list_any is_pseudo (head_fields trailer)) && takes_size setup side (head_fields trailer)) ≡ true → IsInOrder ps w (event.Trailer side id trailer)
  trailer_placed trailer h =
      let a = three_of (is_between all) (not (list_any is_pseudo (head_fields trailer))) (takes_size setup side (head_fields trailer)) h in
      (here, takes_body_here a.0, has_none trailer (opposite (list_any is_pseudo (head_fields trailer)) a.1), fits_known setup w side (head_fields trailer) a.2)

  fields_placed : (fields : List Field) → (awaits_head all && is_sent_by side (header_in fields) && takes_size setup side fields) ≡ true → IsPlaced ps w (event.Fields side id fields)
  fields_placed fields h = by_going (none_after ps w side) refl (unreadable (takes_any (announced_at ps side)) fields) refl
    where
      by_going : (o : Option ℕ) → none_after ps w side ≡ o → (why : Option Malformation) → unreadable (takes_any (announced_at ps side)) fields ≡ why → IsPlaced ps w (event.Fields side id fields)
      by_going None e None read =
          let a = three_of (awaits_head all) (is_sent_by side (header_in fields)) (takes_size setup side fields) h in
          inl (here, takes_head_here a.0, e, read, ap (is_for (other side)) (header_read fields) ∙ read_by_other side (header_in fields) ∙ a.1, fits_known setup w side fields a.2)
      by_going None e (Some why) read =
          inr (inl (here, takes_head_here (three_of (awaits_head all) (is_sent_by side (header_in fields)) (takes_size setup side fields) h).0, e, why, read))
      by_going (Some last) e why read =
          inr (inr (here, takes_head_here (three_of (awaits_head all) (is_sent_by side (header_in fields)) (takes_size setup side fields) h).0, last, e))

  trailer_fields_placed : (fields : List Field) → (is_between all && not (list_any is_pseudo fields) && takes_size setup side fields) ≡ true → IsPlaced ps w (event.TrailerFields side id fields)
  trailer_fields_placed fields h = by_reading (unreadable (takes_any (announced_at ps side)) fields) refl
    where
      by_reading : (o : Option Malformation) → unreadable (takes_any (announced_at ps side)) fields ≡ o → IsPlaced ps w (event.TrailerFields side id fields)
      by_reading None e =
          let a = three_of (is_between all) (not (list_any is_pseudo fields)) (takes_size setup side fields) h in
          inl (here, takes_body_here a.0, e, pseudo_read fields ∙ opposite (list_any is_pseudo fields) a.1, fits_known setup w side fields a.2)
      by_reading (Some why) e = inr (inl (here, takes_body_here (three_of (is_between all) (not (list_any is_pseudo fields)) (takes_size setup side fields) h).0, why, e))

  -- and on any that is it
  moved : (P : Side → ℕ → Type 0) (acting : Side) (i : ℕ) → is_on side id acting i ≡ true → P side id → P acting i
  moved P acting i same h = let s = on_same side acting id i same in subst (λ x. P x i) (sym s.0) (subst (P side) (sym s.1) h)

  pub placed : (e : Event) → is_next setup side id all e ≡ true → IsPlaced ps w e
  placed (event.Head acting i head) h =
      let a = both_of (is_on side id acting i) (awaits_head all && is_sent_by side head && takes_size setup side (head_fields head)) h in
      moved (λ s n. IsPlaced ps w (event.Head s n head)) acting i a.0 (head_placed head a.1)
  placed (event.Fields acting i fields) h =
      let a = both_of (is_on side id acting i) (awaits_head all && is_sent_by side (header_in fields) && takes_size setup side fields) h in
      moved (λ s n. IsPlaced ps w (event.Fields s n fields)) acting i a.0 (fields_placed fields a.1)
  placed (event.Body acting i bytes) h =
      let a = both_of (is_on side id acting i) (is_between all) h in
      moved (λ s n. IsPlaced ps w (event.Body s n bytes)) acting i a.0 (inl (here, takes_body_here a.1))
  placed (event.Trailer acting i trailer) h =
      let a = both_of (is_on side id acting i) (is_between all && not (list_any is_pseudo (head_fields trailer)) && takes_size setup side (head_fields trailer)) h in
      moved (λ s n. IsPlaced ps w (event.Trailer s n trailer)) acting i a.0 (inl (trailer_placed trailer a.1))
  placed (event.TrailerFields acting i fields) h =
      let a = both_of (is_on side id acting i) (is_between all && not (list_any is_pseudo fields) && takes_size setup side fields) h in
      moved (λ s n. IsPlaced ps w (event.TrailerFields s n fields)) acting i a.0 (trailer_fields_placed fields a.1)
  placed (event.Finish acting i) h =
      let a = both_of (is_on side id acting i) (list_any is_head_section all) h in
      moved (λ s n. IsPlaced ps w (event.Finish s n)) acting i a.0 (inl (here, takes_end_next f live unfinished (ap (list_any is_head_section) t.sent_is ∙ heads_listed all ∙ a.1)))
  placed e h = absurd (cc)

-- **What is in order is accepted** (`ordered_sends_are_accepted` of `h3_headline`).
abbrev pub OrderedAccepted : Type 0
OrderedAccepted = (setup : Setup) (w new : World) (e : Event) (a : Answer) → Step setup w e a new → IsInOrder setup w e → a ≡ answer.Done

-- the step of a send, where no memory is refused
step_of : (setup : Setup) (k new : KeepingWorld) (e : Event) (a : Answer) → IsPlaced setup k.world e → Answers setup k e a new → Step setup k.world e a new.world
step_of setup k new (event.Head side id head) a h step = step.0
step_of setup k new (event.Fields side id fields) a h step = step.0
step_of setup k new (event.Body side id bytes) a h step = step.0
step_of setup k new (event.Trailer side id trailer) a h step = step.0
step_of setup k new (event.TrailerFields side id fields) a h step = step.0
step_of setup k new (event.Finish side id) a h step = step.0
step_of setup k new e a (inl h) step = absurd h
step_of setup k new e a (inr (inl h)) step = absurd h
step_of setup k new e a (inr (inr h)) step = absurd h

-- a list that reads as no header is refused so
refused_so : (there takes : Bool) (going : Option ℕ) (why : Malformation) (o : Option Malformation) (rest : List (Bool × Refusal)) (old after new : World) (success a : Answer) → there ≡ true → takes ≡ true → going ≡ None → o ≡ Some why
    → Does (first_of ((not there, refusal.NotOpen) ∷ (not takes, refusal.OutOfOrder) ∷ unless_going going (unless_malformed o rest))) old success after a new → a ≡ answer.Refused (refusal.Malformed why)
refused_so true true None why (Some first) rest old after new success a h k none is step = step.0 ∙ ap (λ o. answer.Refused (refusal.Malformed (unwrap_or o first))) is
refused_so true true None why None rest old after new success a h k none is step = cc
refused_so true true (Some last) why o rest old after new success a h k none is step = cc
refused_so true false going why o rest old after new success a h k none is step = cc
refused_so false takes going why o rest old after new success a h k none is step = cc

-- and a head once the other side has gone away
refused_late : (there takes : Bool) (going : Option ℕ) (last : ℕ) (rest : List (Bool × Refusal)) (old after new : World) (success a : Answer) → there ≡ true → takes ≡ true → going ≡ Some last
    → Does (first_of ((not there, refusal.NotOpen) ∷ (not takes, refusal.OutOfOrder) ∷ unless_going going rest)) old success after a new → a ≡ answer.Refused (refusal.GoingAway last)
refused_late true true (Some first) last rest old after new success a h k is step = step.0 ∙ ap (λ o. answer.Refused (refusal.GoingAway (unwrap_or o first))) is
refused_late true true None last rest old after new success a h k is step = cc
refused_late true false going last rest old after new success a h k is step = cc
refused_late false takes going last rest old after new success a h k is step = cc

unreadable_answer : (setup : Setup) (w new : World) (e : Event) (a : Answer) → IsUnreadable setup w e → Step setup w e a new → (why : Malformation) × (a ≡ answer.Refused (refusal.Malformed why))
unreadable_answer setup w new (event.Fields side id fields) a h step =
    (h.3, refused_so (is_open w side id) (takes_head (outgoing_of (flow w side id))) (none_after setup w side) h.3 (unreadable (takes_any (announced_at setup side)) fields) _ w _ new answer.Done a h.0 h.1 h.2 h.4 step)
unreadable_answer setup w new (event.TrailerFields side id fields) a h step =
    (h.2, refused_so (is_open w side id) (takes_body (outgoing_of (flow w side id))) None h.2 (unreadable (takes_any (announced_at setup side)) fields) _ w _ new answer.Done a h.0 h.1 refl h.3 step)
unreadable_answer setup w new e a h step = absurd h

unless_taken : (takes : Bool) → is_some (if takes then None else Some malformation.Value) ≡ true → not takes ≡ true
unless_taken true h = absurd (cc)
unless_taken false h = refl

-- what reads as no header is a list
unreadable_may : (setup other_setup : Setup) (w : World) (e : Event) → IsUnreadable other_setup w e → may_be_unread setup e ≡ true
unreadable_may setup other_setup w (event.Fields side id fields) h = refl
unreadable_may setup other_setup w (event.TrailerFields side id fields) h = refl
unreadable_may setup other_setup w e h = absurd h

other_protocol : (any : Bool) (o : Option (List ℕ)) → not (takes_protocol any o) ≡ true → unwrap_or (option_map (λ text. not (is_protocol_by any text)) o) false ≡ true
other_protocol any None h = h
other_protocol any (Some text) h = h

-- a trailer that is next has no protocol
no_protocol : (any : Bool) (h : Fields) → has_pseudo h ≡ false → takes_protocol any h.protocol ≡ true
no_protocol any h none = of_protocol h.protocol (last_none (is_some h.method) (is_some h.scheme) (is_some h.authority) (is_some h.path) (is_some h.status) (is_some h.protocol) none)
  where
    of_protocol : (o : Option (List ℕ)) → is_some o ≡ false → takes_protocol any o ≡ true
    of_protocol None e = refl
    of_protocol (Some text) e = absurd (cc)

    last_none : (a b c d e g : Bool) → (a || b || c || d || e || g) ≡ false → g ≡ false
    last_none false false false false false g h = h
    last_none true b c d e g h = absurd (cc)
    last_none false true c d e g h = absurd (cc)
    last_none false false true d e g h = absurd (cc)
    last_none false false false true e g h = absurd (cc)
    last_none false false false false true g h = absurd (cc)

-- what the side does not read itself may be that
unread_may : (setup : Setup) (side : Side) (id : ℕ) (all : List MessageContent) (e : Event) → is_next setup side id all e ≡ true → is_some (unread setup e) ≡ true → may_be_unread setup e ≡ true
unread_may setup side id all (event.Fields acting i fields) next h = refl
unread_may setup side id all (event.TrailerFields acting i fields) next h = refl
unread_may setup side id all (event.Head acting i head) next h =
    other_protocol (takes_any (announced_at setup acting)) head.protocol (unless_taken (takes_protocol (takes_any (announced_at setup acting)) head.protocol) h)
unread_may setup side id all (event.Trailer acting i trailer) next h =
    let a = both_of (is_on side id acting i) (is_between all && not (list_any is_pseudo (head_fields trailer)) && takes_size setup side (head_fields trailer)) next in
    let b = three_of (is_between all) (not (list_any is_pseudo (head_fields trailer))) (takes_size setup side (head_fields trailer)) a.1 in
    let none = has_none trailer (opposite (list_any is_pseudo (head_fields trailer)) b.1) in
    absurd (never_both (takes_protocol (takes_any (announced_at setup acting)) trailer.protocol) (no_protocol (takes_any (announced_at setup acting)) trailer none)
    (unless_taken (takes_protocol (takes_any (announced_at setup acting)) trailer.protocol) h))
  where
    never_both : (b : Bool) → b ≡ true → not b ≡ true → ⊥
    never_both true h k = cc
    never_both false h k = cc
unread_may setup side id all e next h = absurd (cc)

-- what has gone away is a server, and the client begins no request then
going_of : (setup : Setup) (w : World) (side : Side) (last : ℕ) → none_after setup w side ≡ Some last → (side ≡ Client) × (is_strict setup.client ≡ true) × (w.server.own.goaways ≡ [] → ⊥)
going_of setup w Client last is = by_strict (is_strict setup.client) refl is
  where
    by_strict : (b : Bool) → is_strict setup.client ≡ b → (if b then last_id (goaways_came setup w Server) else None) ≡ Some last → (Client ≡ Client) × (is_strict setup.client ≡ true) × (w.server.own.goaways ≡ [] → ⊥)
    by_strict true e k = (refl, e, λ none. absurd (let never : None ≡ Some last = sym (none_came none) ∙ k in cc))
      where
        none_came : w.server.own.goaways ≡ [] → last_id (goaways_came setup w Server) ≡ None
        none_came none = ap (λ l. last_id (take (whole_in goaway_encoding (w.server.own.control_taken - length (settings_bytes setup.server)) l) l)) none
    by_strict false e k = absurd (cc)
going_of setup w Server last is = absurd (cc)

or_known : (b : Bool) → (b ≡ false → ⊥) → b ≡ true
or_known true h = refl
or_known false h = absurd (h refl)

late_answer : (setup : Setup) (before : List Event) (given : List Answer) (w new : World) (e : Event) (a : Answer) → (any_of goes_away before given ≡ false → w.server.own.goaways ≡ []) → IsLate (plain_setup setup) w e → Step (plain_setup setup) w e a new
    → (last : ℕ) × (a ≡ answer.Refused (refusal.GoingAway last)) × (begins_late setup before given e ≡ true)
late_answer setup before given w new (event.Head side id head) a going h step =
    let g = going_of (plain_setup setup) w side h.2 h.3 in (
      h.2,
      refused_late (is_open w side id) (takes_head (outgoing_of (flow w side id))) (none_after (plain_setup setup) w side) h.2 _ w _ new answer.Done a h.0 h.1 h.3 step,
      subst (λ s. begins_late setup before given (event.Head s id head) ≡ true) (sym g.0) (both_hold (is_strict setup.client) (any_of goes_away before given) g.1 (or_known (any_of goes_away before given) (λ none. g.2 (going none)))),
    )
late_answer setup before given w new (event.Fields side id fields) a going h step =
    let g = going_of (plain_setup setup) w side h.2 h.3 in (
      h.2,
      refused_late (is_open w side id) (takes_head (outgoing_of (flow w side id))) (none_after (plain_setup setup) w side) h.2 _ w _ new answer.Done a h.0 h.1 h.3 step,
      subst (λ s. begins_late setup before given (event.Fields s id fields) ≡ true) (sym g.0) (both_hold (is_strict setup.client) (any_of goes_away before given) g.1 (or_known (any_of goes_away before given) (λ none. g.2 (going none)))),
    )
late_answer setup before given w new e a going h step = absurd h

or_first : (a b : Bool) → a ≡ true → (a || b) ≡ true
or_first true b h = refl
or_first false b h = cc

or_second : (a b : Bool) → b ≡ true → (a || b) ≡ true
or_second true b h = refl
or_second false b h = h

malformed_accepted : (may late : Bool) (a : Answer) → is_malformed_refusal a ≡ true → may ≡ true → IsAccepted may late a
malformed_accepted may late (answer.Refused (refusal.Malformed why)) h allowed = allowed
malformed_accepted may late a h allowed = absurd (cc)

-- what the side does not read itself is malformed, or memory is wanting
unread_accepted : (may late : Bool) (a : Answer) (lacks : Type 0) (own : Option Malformation) → IsRefusedUnread lacks own a → (is_some own ≡ true → may ≡ true) → IsAccepted may late a
unread_accepted may late (answer.Refused (refusal.Malformed why)) lacks (Some told) h allowed = allowed refl
unread_accepted may late (answer.Refused refusal.OutOfMemory) lacks (Some told) h allowed = tt
unread_accepted may late a lacks (Some told) h allowed = absurd h
unread_accepted may late a lacks None h allowed = absurd h

memory_accepted : (setup : Setup) (k new : KeepingWorld) (e : Event) (a : Answer) (may late : Bool) → IsPlaced setup k.world e → AnswersWithoutMemory setup k e a new → IsAccepted may late a
memory_accepted setup k new (event.Head side id head) (answer.Refused refusal.OutOfMemory) may late h step = tt
memory_accepted setup k new (event.Fields side id fields) (answer.Refused refusal.OutOfMemory) may late h step = tt
memory_accepted setup k new (event.Body side id bytes) (answer.Refused refusal.OutOfMemory) may late h step = tt
memory_accepted setup k new (event.Trailer side id trailer) (answer.Refused refusal.OutOfMemory) may late h step = tt
memory_accepted setup k new (event.TrailerFields side id fields) (answer.Refused refusal.OutOfMemory) may late h step = tt
memory_accepted setup k new (event.Head side id head) a may late h step = absurd step
memory_accepted setup k new (event.Fields side id fields) a may late h step = absurd step
memory_accepted setup k new (event.Body side id bytes) a may late h step = absurd step
memory_accepted setup k new (event.Trailer side id trailer) a may late h step = absurd step
memory_accepted setup k new (event.TrailerFields side id fields) a may late h step = absurd step
memory_accepted setup k new (event.Finish side id) a may late h step = absurd step
memory_accepted setup k new e a may late (inl h) step = absurd h
memory_accepted setup k new e a may late (inr (inl h)) step = absurd h
memory_accepted setup k new e a may late (inr (inr h)) step = absurd h

strict_allows : (setup : Setup) (side : Side) (id : ℕ) (all : List MessageContent) (e : Event) → is_next setup side id all e ≡ true → is_strict_send setup e ≡ true → asks_for_strict setup side ≡ true
strict_allows setup side id all (event.Head acting i head) h strict = subst (λ s. asks_for_strict setup s ≡ true) (on_same side acting id i (both_of (is_on side id acting i) _ h).0).0 strict
strict_allows setup side id all (event.Fields acting i fields) h strict = subst (λ s. asks_for_strict setup s ≡ true) (on_same side acting id i (both_of (is_on side id acting i) _ h).0).0 strict
strict_allows setup side id all (event.Body acting i bytes) h strict = subst (λ s. asks_for_strict setup s ≡ true) (on_same side acting id i (both_of (is_on side id acting i) _ h).0).0 strict
strict_allows setup side id all (event.Trailer acting i trailer) h strict = subst (λ s. asks_for_strict setup s ≡ true) (on_same side acting id i (both_of (is_on side id acting i) _ h).0).0 strict
strict_allows setup side id all (event.TrailerFields acting i fields) h strict = subst (λ s. asks_for_strict setup s ≡ true) (on_same side acting id i (both_of (is_on side id acting i) _ h).0).0 strict
strict_allows setup side id all (event.Finish acting i) h strict = subst (λ s. asks_for_strict setup s ≡ true) (on_same side acting id i (both_of (is_on side id acting i) _ h).0).0 strict
strict_allows setup side id all e h strict = absurd (cc)

-- a pull sends nothing
no_pull : (setup : Setup) (k new : KeepingWorld) (e : Event) (a : Answer) → IsPlaced (plain_setup setup) k.world e → PullsOn setup k e a new → ⊥
no_pull setup k new (event.Pull side id) a (inl h) pulls = h
no_pull setup k new (event.Pull side id) a (inr (inl h)) pulls = h
no_pull setup k new (event.Pull side id) a (inr (inr h)) pulls = h
no_pull setup k new (event.PullFields side id) a (inl h) pulls = h
no_pull setup k new (event.PullFields side id) a (inr (inl h)) pulls = h
no_pull setup k new (event.PullFields side id) a (inr (inr h)) pulls = h
no_pull setup k new e a h pulls = pulls

-- A send that is in order is accepted.
abbrev pub AcceptsEvent : Setup → List Event → List Answer → Event → Answer → Type 0
AcceptsEvent setup before given e a =
    (side : Side) (id : ℕ) → goes_on side id before given ≡ true → is_next setup side id (sent side id before given) e ≡ true
    → IsAccepted (may_be_unread setup e || asks_for_strict setup side) (begins_late setup before given e) a

-- **A send that is in order is accepted by each step of the world.**
pub accepts_next : OrderedAccepted → (setup : Setup) (before : List Event) (given : List Answer) (k new : KeepingWorld) (e : Event) (a : Answer) → ((side : Side) (id : ℕ) → Tells k.world side id before given)
    → HappensAnywhere setup k e a new → AcceptsEvent setup before given e a
accepts_next accepted setup before given k new e a tells happens = λ side id on next. by_step side id next (placed setup k.world side id before given (tells side id) on e next) happens
  where
    late : Bool
    late = begins_late setup before given e

    by_step : (side : Side) (id : ℕ) → is_next setup side id (sent side id before given) e ≡ true → IsPlaced (plain_setup setup) k.world e → HappensAnywhere setup k e a new → IsAccepted (may_be_unread setup e || asks_for_strict setup side) late a
    by_step side id next in_place (AsPlainly not_memory h) =
        by_place (may_be_unread setup e || asks_for_strict setup side) refl in_place (step_of (plain_setup setup) k new e a in_place (subst (λ b. StepOf b (plain_setup setup) k e a new) not_memory h.step))
      where
        by_place : (may : Bool) → (may_be_unread setup e || asks_for_strict setup side) ≡ may → IsPlaced (plain_setup setup) k.world e → Step (plain_setup setup) k.world e a new.world → IsAccepted may late a
        by_place may is (inl order) step = subst (IsAccepted may late) (sym (accepted (plain_setup setup) k.world new.world e a step order)) tt
        by_place may is (inr (inl none)) step =
            let told = unreadable_answer (plain_setup setup) k.world new.world e a none step in
            subst (IsAccepted may late) (sym told.1) (sym is ∙ or_first (may_be_unread setup e) (asks_for_strict setup side) (unreadable_may setup (plain_setup setup) k.world e none))
        by_place may is (inr (inr gone)) step =
            let told = late_answer setup before given k.world new.world e a (tells side id).going gone step in
            subst (IsAccepted may late) (sym told.1) told.2
    by_step side id next in_place (LacksMemory memory h) =
        memory_accepted (plain_setup setup) k new e a (may_be_unread setup e || asks_for_strict setup side) late in_place (subst (λ b. StepOf b (plain_setup setup) k e a new) memory h.step)
    by_step side id next in_place (RefusesMalformed strict refused same) =
        malformed_accepted (may_be_unread setup e || asks_for_strict setup side) late a refused (or_second (may_be_unread setup e) (asks_for_strict setup side) (strict_allows setup side id (sent side id before given) e next strict))
    by_step side id next in_place (RefusesOwn own same) = unread_accepted (may_be_unread setup e || asks_for_strict setup side) late a (MayLack e) (unread setup e) own (λ some. or_first (may_be_unread setup e) (asks_for_strict setup side) (unread_may setup side id (sent side id before given) e next some))
    by_step side id next in_place (GivesMessageUp pulls) = absurd (no_pull setup k new e a in_place pulls)
