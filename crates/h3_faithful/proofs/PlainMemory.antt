-- What two ends answer for want of memory, they may answer so where they judge plainly.
use Rattle.std.proofs.Common.{◌≡◌, ◌⊎◌, inl, inr, arith, ℕ, ◌≤◌, ◌<◌, Bool, true, false, if◌then◌else◌, List, [], ◌∷◌, ◌++◌, append-nil, length, refl, ap, sym, ◌∙◌, subst, Option, Some, None}
use Rattle.std.specs.Prelude.{◌≢◌, option_map, take}
use Rattle.h3_field.specs.Field.{Field}
use Rattle.h3_header.specs.Head.{head_fields}
use Rattle.h3_proto.specs.declared.stream.Side.{Side}
use Rattle.h3_proto.specs.declared.stream.Side.TheVariants.{Client, Server}
use Rattle.h3_qpack.specs.EncoderHistory.{EncoderHistory, was_canceled}
use Rattle.h3_connection.specs.Arrivals.{stream_of}
use Rattle.h3_connection.specs.Endpoint.{EndpointHistory, bytes_waiting, kind_of}
use Rattle.h3_connection.specs.Endpoint.Kind.{Request}
use Rattle.h3_connection.specs.Keeping.{settles, unkept}
use Rattle.h3_connection.specs.OwnIds.{other}
use Rattle.h3_connection.specs.PartReading.{ReadsPart}
use Rattle.h3_connection.specs.ReceivingContracts.{IsTaken}
use Rattle.h3_connection.specs.Sections.{having_inserted, with_insertions}
use Rattle.h3_connection.specs.Sending as sender
use Rattle.h3_connection.specs.Shown.{has_outgoing, is_finished, is_reset}
use Rattle.h3_connection.specs.StrictSending.{broken_protocol}
use Rattle.h3_connection.specs.declared.arrival.Arrival.{Arrival}
use Rattle.h3_connection.specs.declared.arrival.Arrival.TheVariants.{BytesCame, EndCame, ResetCame}
use Rattle.h3_connection.specs.declared.event.Fault.TheVariants as fault
use Rattle.h3_connection.specs.declared.event.Malformation.{Malformation}
use Rattle.h3_connection.specs.declared.event.Pull.TheVariants as pull
use Rattle.h3_connection.specs.declared.event.Refusal.{Refusal}
use Rattle.h3_connection.specs.declared.event.Refusal.TheVariants as refusal
use Rattle.h3_connection.specs.declared.setup.Announced.{Announced}
use Rattle.h3_connection.specs.declared.lists.ListPull.TheVariants as list
use Rattle.h3_world.specs.Delivering.{reset_code}
use Rattle.h3_world.specs.EndLists.{send_fields, send_trailer_fields}
use Rattle.h3_world.specs.Ends.{Ends, end_at, with_end}
use Rattle.h3_world.specs.Headline.{is_out_of_memory}
use Rattle.h3_world.specs.Lists.{unreadable}
use Rattle.h3_world.specs.Setup.{Setup, announced_at, takes_any}
use Rattle.h3_world.specs.declared.event.Answer.{Answer}
use Rattle.h3_world.specs.declared.event.Answer.TheVariants as answer
use Rattle.h3_world.specs.declared.event.Event.{Event}
use Rattle.h3_world.specs.declared.event.Event.TheVariants as event
use Rattle.h3_memory.specs.Refused.{AnswerOf, CutsList, CutsOff, CutsSection, EndsStep, IsAsked, LacksMemory, LosesNothing, Stores, handed_over}
use Rattle.h3_strict.specs.CountsNothing.{KeepsTo}
use Rattle.h3_strict.specs.PlainAlike.{Agrees, Breaks, DoesPlainly, RulesPlainly}
use Rattle.h3_strict.specs.PlainEnds.{plain_ends}
use Rattle.h3_strict.specs.Plainly.{plain, plain_incoming, plainly}
use Rattle.h3_faithful.specs.Steps.{IsRefusedUnread, RefusesUnread}

-- Each side keeps to what it announced.
abbrev pub QuietSides : Setup → Ends → Type 0
QuietSides setup ends = (side : Side) → KeepsTo (announced_at setup side) (end_at ends side)

-- An event that was answered for want of memory is so at the same ends that judge plainly; or the side would not read itself what it is to send.
abbrev pub LacksPlainly : Setup → Ends → Event → Answer → Ends → Type 0
LacksPlainly setup ends e a new = EndsStep (plain_ends ends) e a (plain_ends new) ⊎ (RefusesUnread setup e a × (new ≡ ends))

abbrev pub MemoryPlainly : Type 0
MemoryPlainly = (setup : Setup) (ends new : Ends) (e : Event) (a : Answer) → QuietSides setup ends → is_out_of_memory a ≡ true → EndsStep ends e a new → LacksPlainly setup ends e a new

pub at_end : (ends : Ends) (side : Side) → end_at (plain_ends ends) side ≡ plainly (end_at ends side)
at_end ends Client = refl
at_end ends Server = refl

pub sets_end : (ends : Ends) (side : Side) (e : EndpointHistory) → plain_ends (with_end ends side e) ≡ with_end (plain_ends ends) side (plainly e)
sets_end ends Client e = refl
sets_end ends Server e = refl

none_inserted : (s : EncoderHistory) (stream : ℕ) → having_inserted s stream [] ≡ s
none_inserted s stream = by_canceled (was_canceled s stream)
  where
    by_canceled : (b : Bool) → (let t : EncoderHistory = if b then record s { announced = 0; capacity = 0; limit = 0; choices = record s.choices { economical = false } } else s in record s { inserted = t.inserted; marks = t.marks }) ≡ s
    by_canceled true = refl
    by_canceled false = refl

-- nothing was inserted
no_insertions : (e : EndpointHistory) (id : ℕ) → with_insertions e id [] ≡ e
no_insertions e id =
    ap (λ encoder. record e { encoder = encoder; own = record e.own { instructions = e.own.instructions ++ [] } }) (none_inserted e.encoder id) ∙ ap (λ l. record e { own = record e.own { instructions = l } }) (append-nil e.own.instructions)

inserts_plainly : (ends : Ends) (side : Side) (id : ℕ) (fields : List Field) → plain_ends (with_end ends side (with_insertions (end_at ends side) id fields)) ≡ with_end (plain_ends ends) side (with_insertions (end_at (plain_ends ends) side) id fields)
inserts_plainly ends Client id fields = refl
inserts_plainly ends Server id fields = refl

same_end : (ends : Ends) (side : Side) → with_end ends side (end_at ends side) ≡ ends
same_end ends Client = refl
same_end ends Server = refl

-- what was not refused is not where an end judges plainly
none_plainly : (p q : Option Refusal) → RulesPlainly None p q → p ≡ None → q ≡ None
none_plainly p q (Breaks why broken accepts) none = absurd (let never : None ≡ Some (refusal.Malformed why) = sym none ∙ broken in cc)
none_plainly p q (Agrees (inl same)) none = same ∙ none
none_plainly p q (Agrees (inr own)) none = absurd (let never : None ≡ Some own.0 = own.1 in cc)

-- it says that memory is wanting for what the side does not read
lacks_unread : (lacks : Type 0) (unread : Option Malformation) (why : Malformation) → unread ≡ Some why → lacks → IsRefusedUnread lacks unread (answer.Refused refusal.OutOfMemory)
lacks_unread lacks unread why is h = subst (λ o. IsRefusedUnread lacks o (answer.Refused refusal.OutOfMemory)) (sym is) h

module _ (does : (e : EndpointHistory) → DoesPlainly e) (setup : Setup) (ends new : Ends) (quiet : QuietSides setup ends) where
  abbrev ps : Ends
  ps = plain_ends ends

  abbrev after_all : Ends
  after_all = plain_ends new

  -- a call by its refusal
  refused_none : (side : Side) (call : EndpointHistory → Option Refusal) → RulesPlainly None (call (end_at ends side)) (call (plainly (end_at ends side))) → call (end_at ends side) ≡ None → call (end_at ps side) ≡ None
  refused_none side call rules none = ap call (at_end ends side) ∙ none_plainly (call (end_at ends side)) (call (plainly (end_at ends side))) rules none

  -- by what the side does not read, as it announced
  rules_at : (side : Side) (unread : Announced → Option Malformation) (call : EndpointHistory → Option Refusal) → RulesPlainly (unread (end_at ends side).announced) (call (end_at ends side)) (call (plainly (end_at ends side)))
      → RulesPlainly (unread (announced_at setup side)) (call (end_at ends side)) (call (end_at ps side))
  rules_at side unread call rules =
      subst (λ a. RulesPlainly (unread a) (call (end_at ends side)) (call (end_at ps side))) (quiet side).0
      (subst (λ e. RulesPlainly (unread (end_at ends side).announced) (call (end_at ends side)) (call e)) (sym (at_end ends side)) rules)

  -- a section that was cut off
  cut_plainly : (side : Side) (id : ℕ) (fields : List Field) → CutsOff ends side id fields new → CutsOff ps side id fields after_all
  cut_plainly side id fields cut = record { front = cut.front; within = cut.within; is = ap plain_ends cut.is ∙ inserts_plainly ends side id (take cut.front fields) }

  uncut : (side : Side) (id : ℕ) (fields : List Field) → new ≡ ends → CutsOff ps side id fields after_all
  uncut side id fields is = record { front = 0; within = omega arith; is = ap plain_ends is ∙ sym (ap (with_end ps side) (no_insertions (end_at ps side) id) ∙ same_end ps side) }

  section_same : (side : Side) (id : ℕ) (fields : List Field) (p : Option Refusal) → CutsSection p ends side id fields new → CutsSection p ps side id fields after_all
  section_same side id fields None h = cut_plainly side id fields h
  section_same side id fields (Some (refusal.Malformed why)) h = ap plain_ends h
  section_same side id fields (Some (refusal.TooLarge size)) h = ap plain_ends h
  section_same side id fields (Some r) h = absurd h

  abbrev Unread : Option Malformation → Type 0
  Unread unread = (why : Malformation) × (unread ≡ Some why) × (new ≡ ends)

  section_plainly : (side : Side) (id : ℕ) (fields : List Field) (unread : Option Malformation) (p q : Option Refusal) → RulesPlainly unread p q → CutsSection p ends side id fields new
      → CutsSection q ps side id fields after_all ⊎ Unread unread
  section_plainly side id fields unread p q (Agrees (inl same)) h = inl (subst (λ o. CutsSection o ps side id fields after_all) (sym same) (section_same side id fields p h))
  section_plainly side id fields unread p q (Agrees (inr own)) h = inr (own.0, own.1, subst (λ o. CutsSection o ends side id fields new) own.2 h)
  section_plainly side id fields unread p q (Breaks why broken (inl none)) h =
      inl (subst (λ o. CutsSection o ps side id fields after_all) (sym none) (uncut side id fields (subst (λ o. CutsSection o ends side id fields new) broken h)))
  section_plainly side id fields unread p q (Breaks why broken (inr large)) h =
      inl (subst (λ o. CutsSection o ps side id fields after_all) (sym large.1) (ap plain_ends (subst (λ o. CutsSection o ends side id fields new) broken h)))

  list_same : (side : Side) (id : ℕ) (fields : List Field) (p : Option Refusal) → CutsList p ends side id fields new → CutsList p ps side id fields after_all
  list_same side id fields None h = cut_plainly side id fields h
  list_same side id fields (Some (refusal.TooLarge size)) h = ap plain_ends h
  list_same side id fields (Some (refusal.Malformed why)) h = (h.0, ap plain_ends h.1)
  list_same side id fields (Some refusal.WrongSide) h = (h.0, ap plain_ends h.1)
  list_same side id fields (Some refusal.PseudoInTrailer) h = (h.0, ap plain_ends h.1)
  list_same side id fields (Some r) h = absurd h

  list_plainly : (side : Side) (id : ℕ) (fields : List Field) (unread : Option Malformation) (p q : Option Refusal) → RulesPlainly unread p q → CutsList p ends side id fields new
      → CutsList q ps side id fields after_all ⊎ ((24576 < length fields) × Unread unread)
  list_plainly side id fields unread p q (Agrees (inl same)) h = inl (subst (λ o. CutsList o ps side id fields after_all) (sym same) (list_same side id fields p h))
  list_plainly side id fields unread p q (Agrees (inr own)) h = let cut = subst (λ o. CutsList o ends side id fields new) own.2 h in inr (cut.0, (own.0, own.1, cut.1))
  list_plainly side id fields unread p q (Breaks why broken (inl none)) h =
      inl (subst (λ o. CutsList o ps side id fields after_all) (sym none) (uncut side id fields (subst (λ o. CutsList o ends side id fields new) broken h).1))
  list_plainly side id fields unread p q (Breaks why broken (inr large)) h =
      inl (subst (λ o. CutsList o ps side id fields after_all) (sym large.1) (ap plain_ends (subst (λ o. CutsList o ends side id fields new) broken h).1))

  -- what comes is taken
  taken_plainly : (reader : Side) (id : ℕ) → IsTaken (end_at ends reader) id → IsTaken (end_at ps reader) id
  taken_plainly reader id t =
      let e = end_at ends reader in
      let there : IsTaken (plainly e) id = record { open_still = t.open_still; accepted = (does e).accepts id ∙ t.accepted } in
      subst (λ x. IsTaken x id) (sym (at_end ends reader)) there

  -- and stored, up to where it was read
  stored_plainly : (reader : Side) (a : Arrival) (sent : Ends) → Stores ends reader a sent new → Stores ps reader a (plain_ends sent) after_all
  stored_plainly reader a sent s =
      let e = end_at ends reader in
      let is = sym (at_end ends reader) in
      let behind : kind_of (plainly e).side (stream_of a) ≡ Request → (plainly e).kept ≢ [] = s.behind in
      let read : ReadsPart (unkept (plainly e)) ((plainly e).kept ++ a ∷ []) (plainly s.after) = (does (unkept e)).reads (e.kept ++ a ∷ []) s.after s.read in
      record {
        taken = taken_plainly reader (stream_of a) s.taken;
        behind = subst (λ x. kind_of x.side (stream_of a) ≡ Request → x.kept ≢ []) is behind;
        after = plainly s.after;
        read = subst (λ x. ReadsPart (unkept x) (x.kept ++ a ∷ []) (plainly s.after)) is read;
        some = s.some;
        is = ap plain_ends s.is ∙ sets_end sent reader s.after;
      }

  handed_plainly : (writer : Side) (id count : ℕ) → plain_ends (handed_over ends writer id count) ≡ handed_over ps writer id count
  handed_plainly writer id count =
      sets_end ends writer (sender.advance (end_at ends writer) id count) ∙ ap (with_end ps writer) (sym ((does (end_at ends writer)).advances id count) ∙ ap (λ x. sender.advance x id count) (sym (at_end ends writer)))

  waits_at : (writer : Side) (id : ℕ) → bytes_waiting (end_at ps writer) id ≡ bytes_waiting (end_at ends writer) id
  waits_at writer id = ap (λ x. bytes_waiting x id) (at_end ends writer) ∙ (does (end_at ends writer)).waits id

  -- A pull loses nothing.
  asked_plainly : (side : Side) (id : ℕ) (after : EndpointHistory) → IsAsked after id (end_at new side) → IsAsked (plainly after) id (end_at after_all side)
  asked_plainly side id after a =
      record {
        old = plain_incoming a.old;
        asked = plain_incoming a.asked;
        here = (does after).stream id ∙ ap (option_map plain_incoming) a.here;
        resumes = a.plainly (plain after.announced) refl refl;
        plainly = λ own known none. a.plainly own known none;
        counts = inl refl;
        is = at_end new side ∙ ap plainly a.is ∙ sym ((does after).sets id a.asked);
      }

  loses_plainly : (side : Side) (id : ℕ) → LosesNothing ends side id new → LosesNothing ps side id after_all
  loses_plainly side id l =
      let e = end_at ends side in
      let is = sym (at_end ends side) in
      let read : ReadsPart (unkept (plainly e)) (plainly e).kept (plainly l.after) = (does (unkept e)).reads e.kept l.after l.read in
      record {
        unsettled = ap (λ x. settles x id) (at_end ends side) ∙ (does e).settles id ∙ l.unsettled;
        after = plainly l.after;
        read = subst (λ x. ReadsPart (unkept x) x.kept (plainly l.after)) is read;
        is = by_case l.is;
      }
    where
      by_case : (new ≡ with_end ends side l.after) ⊎ ((l.after.kept ≡ []) × IsAsked l.after id (end_at new side) × (new ≡ with_end ends side (end_at new side)))
          → (after_all ≡ with_end ps side (plainly l.after)) ⊎ (((plainly l.after).kept ≡ []) × IsAsked (plainly l.after) id (end_at after_all side) × (after_all ≡ with_end ps side (end_at after_all side)))
      by_case (inl is) = inl (ap plain_ends is ∙ sets_end ends side l.after)
      by_case (inr (none, asked, is)) =
          inr (none, asked_plainly side id l.after asked, ap plain_ends is ∙ sets_end ends side (end_at new side) ∙ ap (with_end ps side) (sym (at_end new side)))

  -- **Each answer for want of memory.**
  lacks_plainly : (e : Event) (a : Answer) → LacksMemory ends e a new → LacksMemory ps e a after_all ⊎ (RefusesUnread setup e a × (new ≡ ends))
  lacks_plainly (event.OpenRequest side) (answer.Refused refusal.OutOfMemory) h = inl (refused_none side (λ e. (sender.open_request e).0) (does (end_at ends side)).opens h.0, ap plain_ends h.1)
  lacks_plainly (event.Head side id head) (answer.Refused refusal.OutOfMemory) h =
      by_case (section_plainly side id (head_fields head) (broken_protocol (announced_at setup side) head) (sender.send_head (end_at ends side) id head).0 (sender.send_head (end_at ps side) id head).0
      (rules_at side (λ own. broken_protocol own head) (λ e. (sender.send_head e id head).0) ((does (end_at ends side)).head id head)) h)
    where
      by_case : CutsSection (sender.send_head (end_at ps side) id head).0 ps side id (head_fields head) after_all ⊎ Unread (broken_protocol (announced_at setup side) head)
          → LacksMemory ps (event.Head side id head) (answer.Refused refusal.OutOfMemory) after_all ⊎ (RefusesUnread setup (event.Head side id head) (answer.Refused refusal.OutOfMemory) × (new ≡ ends))
      by_case (inl cut) = inl cut
      by_case (inr own) = inr (lacks_unread (Unit {0}) (broken_protocol (announced_at setup side) head) own.0 own.1 tt, own.2)
  lacks_plainly (event.Fields side id fields) (answer.Refused refusal.OutOfMemory) h =
      by_case (list_plainly side id fields (unreadable (takes_any (announced_at setup side)) fields) (send_fields (end_at ends side) id fields).0 (send_fields (end_at ps side) id fields).0
      (rules_at side (λ own. unreadable (takes_any own) fields) (λ e. (send_fields e id fields).0) ((does (end_at ends side)).fields id fields)) h)
    where
      by_case : CutsList (send_fields (end_at ps side) id fields).0 ps side id fields after_all ⊎ ((24576 < length fields) × Unread (unreadable (takes_any (announced_at setup side)) fields))
          → LacksMemory ps (event.Fields side id fields) (answer.Refused refusal.OutOfMemory) after_all ⊎ (RefusesUnread setup (event.Fields side id fields) (answer.Refused refusal.OutOfMemory) × (new ≡ ends))
      by_case (inl cut) = inl cut
      by_case (inr own) = inr (lacks_unread (24576 < length fields) (unreadable (takes_any (announced_at setup side)) fields) own.1.0 own.1.1 own.0, own.1.2)
  lacks_plainly (event.Body side id bytes) (answer.Refused refusal.OutOfMemory) h = inl (ap plain_ends h)
  lacks_plainly (event.Trailer side id trailer) (answer.Refused refusal.OutOfMemory) h =
      by_case (section_plainly side id (head_fields trailer) (broken_protocol (announced_at setup side) trailer) (sender.send_trailer (end_at ends side) id trailer).0 (sender.send_trailer (end_at ps side) id trailer).0
      (rules_at side (λ own. broken_protocol own trailer) (λ e. (sender.send_trailer e id trailer).0) ((does (end_at ends side)).trailer id trailer)) h)
    where
      by_case : CutsSection (sender.send_trailer (end_at ps side) id trailer).0 ps side id (head_fields trailer) after_all ⊎ Unread (broken_protocol (announced_at setup side) trailer)
          → LacksMemory ps (event.Trailer side id trailer) (answer.Refused refusal.OutOfMemory) after_all ⊎ (RefusesUnread setup (event.Trailer side id trailer) (answer.Refused refusal.OutOfMemory) × (new ≡ ends))
      by_case (inl cut) = inl cut
      by_case (inr own) = inr (lacks_unread (Unit {0}) (broken_protocol (announced_at setup side) trailer) own.0 own.1 tt, own.2)
  lacks_plainly (event.TrailerFields side id fields) (answer.Refused refusal.OutOfMemory) h =
      by_case (list_plainly side id fields (unreadable (takes_any (announced_at setup side)) fields) (send_trailer_fields (end_at ends side) id fields).0 (send_trailer_fields (end_at ps side) id fields).0
      (rules_at side (λ own. unreadable (takes_any own) fields) (λ e. (send_trailer_fields e id fields).0) ((does (end_at ends side)).trailer_fields id fields)) h)
    where
      by_case : CutsList (send_trailer_fields (end_at ps side) id fields).0 ps side id fields after_all ⊎ ((24576 < length fields) × Unread (unreadable (takes_any (announced_at setup side)) fields))
          → LacksMemory ps (event.TrailerFields side id fields) (answer.Refused refusal.OutOfMemory) after_all ⊎ (RefusesUnread setup (event.TrailerFields side id fields) (answer.Refused refusal.OutOfMemory) × (new ≡ ends))
      by_case (inl cut) = inl cut
      by_case (inr own) = inr (lacks_unread (24576 < length fields) (unreadable (takes_any (announced_at setup side)) fields) own.1.0 own.1.1 own.0, own.1.2)
  lacks_plainly (event.Cancel side id) (answer.Refused refusal.OutOfMemory) h = inl (refused_none side (λ e. (sender.cancel e id).0) ((does (end_at ends side)).cancels id) h.0, ap plain_ends h.1)
  lacks_plainly (event.Goaway side id) (answer.Refused refusal.OutOfMemory) h = inl (refused_none side (λ e. (sender.goaway e id).0) ((does (end_at ends side)).goes_away id) h.0, ap plain_ends h.1)
  lacks_plainly (event.Deliver writer id count) (answer.Refused refusal.OutOfMemory) h = inl (ap plain_ends h)
  lacks_plainly (event.DeliverEnd writer id) (answer.Refused refusal.OutOfMemory) h = inl (
    ap (λ x. is_finished x id) (at_end ends writer) ∙ (does (end_at ends writer)).finished id ∙ h.0,
    ap length (waits_at writer id) ∙ h.1,
    taken_plainly (other writer) id h.2,
    ap plain_ends h.3,
  )
  lacks_plainly (event.DeliverReset writer id) (answer.Refused refusal.OutOfMemory) h = inl (ap (λ x. is_reset x id) (at_end ends writer) ∙ (does (end_at ends writer)).was_reset id ∙ h.0, taken_plainly (other writer) id h.1, ap plain_ends h.2)
  lacks_plainly (event.Deliver writer id count) (answer.Refused refusal.Kept) h = inl (
    ap (λ x. has_outgoing x id) (at_end ends writer) ∙ (does (end_at ends writer)).has_one id ∙ h.0,
    subst (λ (bytes : List ℕ). count ≤ length bytes) (sym (waits_at writer id)) h.1,
    subst (λ x. Stores ps (other writer) (BytesCame id (take count (bytes_waiting (end_at ps writer) id))) x after_all) (handed_plainly writer id count)
        (subst (λ bytes. Stores ps (other writer) (BytesCame id (take count bytes)) (plain_ends (handed_over ends writer id count)) after_all) (sym (waits_at writer id))
        (stored_plainly (other writer) (BytesCame id (take count (bytes_waiting (end_at ends writer) id))) (handed_over ends writer id count) h.2)),
  )
  lacks_plainly (event.DeliverEnd writer id) (answer.Refused refusal.Kept) h = inl (ap (λ x. is_finished x id) (at_end ends writer) ∙ (does (end_at ends writer)).finished id ∙ h.0, ap length (waits_at writer id) ∙ h.1, stored_plainly (other writer) (EndCame id) ends h.2)
  lacks_plainly (event.DeliverReset writer id) (answer.Refused refusal.Kept) h = inl (ap (λ x. is_reset x id) (at_end ends writer) ∙ (does (end_at ends writer)).was_reset id ∙ h.0, stored_plainly (other writer) (ResetCame id reset_code) ends h.1)
  lacks_plainly (event.Pull side id) (answer.Pulled (pull.Fault fault.Memory)) h = inl (loses_plainly side id h)
  lacks_plainly (event.PullFields side id) (answer.Listed (list.Fault fault.Memory)) h = inl (loses_plainly side id h)
  lacks_plainly e a h = absurd h

pub memory_plainly : ((e : EndpointHistory) → DoesPlainly e) → MemoryPlainly
memory_plainly does setup ends new e a quiet told step = by_case (lacks_plainly does setup ends new quiet e a (subst (λ b. AnswerOf b ends e a new) told step))
  where
    by_case : LacksMemory (plain_ends ends) e a (plain_ends new) ⊎ (RefusesUnread setup e a × (new ≡ ends)) → LacksPlainly setup ends e a new
    by_case (inl lacks) = inl (subst (λ b. AnswerOf b (plain_ends ends) e a (plain_ends new)) (sym told) lacks)
    by_case (inr own) = inr own
