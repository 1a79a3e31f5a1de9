-- Where memory is refused, a call of one of two endpoints does the same whatever is seen of how much was taken.
use Rattle.std.proofs.Common.{◌≡◌, ◌⊎◌, inl, inr, ℕ, Bool, true, false, List, [], take, refl, sym, ap, subst, ◌∙◌, Option, Some, None}
use Rattle.h3_field.specs.Field.{Field}
use Rattle.h3_proto.specs.declared.stream.Side.{Side}
use Rattle.h3_connection.specs.Endpoint.{EndpointHistory}
use Rattle.h3_connection.specs.Keeping.{settles, unkept}
use Rattle.h3_connection.specs.PartReading.{ReadsPart}
use Rattle.h3_connection.specs.Sections.{with_insertions}
use Rattle.h3_connection.specs.Sending as sender
use Rattle.h3_connection.specs.declared.event.Fault.TheVariants as fault
use Rattle.h3_connection.specs.declared.event.Refusal.{Refusal}
use Rattle.h3_connection.specs.declared.event.Refusal.TheVariants as refusal
use Rattle.h3_connection.specs.declared.lists.ListPull.{ListPull}
use Rattle.h3_connection.specs.declared.lists.ListPull.TheVariants as list
use Rattle.h3_world.specs.EndLists.{send_fields, send_trailer_fields}
use Rattle.h3_world.specs.Ends.{Ends, end_at, with_end}
use Rattle.h3_world.specs.Headline.{is_out_of_memory}
use Rattle.h3_world.specs.declared.event.Answer.{Answer}
use Rattle.h3_world.specs.declared.event.Answer.TheVariants as answer
use Rattle.h3_world.specs.declared.event.Event.{Event}
use Rattle.h3_world.specs.declared.event.Event.TheVariants as event
use Rattle.h3_memory.specs.Refused.{AnswerOf, CutsList, CutsOff, EndsStep, IsAsked, LacksMemory, LosesNothing}
use Rattle.h3_c.proofs.Views.{View, seen}
use Rattle.h3_c.proofs.ViewsReading as reading
use Rattle.h3_c.proofs.ViewsSending as sending
use Rattle.h3_c.proofs.ViewsSteps.{IsCall, IsOfC, KeepBoth, ResetsAlike, Views, answered_seen, both_seen, end_seen, keeps_at, view_at, with_end_seen}

-- The answers that tell that memory was refused.
pub data Lacking : Answer → Type 0 where
  NoRoom : Lacking (answer.Refused refusal.OutOfMemory)
  IsKept : Lacking (answer.Refused refusal.Kept)
  NoPull : (p : _) → Lacking (answer.Pulled p)
  NoList : Lacking (answer.Listed (list.Fault fault.Memory))

lacking_list : (l : ListPull) → is_out_of_memory (answer.Listed l) ≡ true → Lacking (answer.Listed l)
lacking_list (list.Item item) h = absurd (cc)
lacking_list list.Pending h = absurd (cc)
lacking_list (list.Waiting count) h = absurd (cc)
lacking_list (list.Fault (fault.Connection code)) h = absurd (cc)
lacking_list (list.Fault (fault.Stream f)) h = absurd (cc)
lacking_list (list.Fault fault.Memory) h = NoList
lacking_list list.NoMessages h = absurd (cc)

lacking_refusal : (r : Refusal) → is_out_of_memory (answer.Refused r) ≡ true → Lacking (answer.Refused r)
lacking_refusal (refusal.Closed code) h = absurd (cc)
lacking_refusal (refusal.Connection code) h = absurd (cc)
lacking_refusal refusal.NotReceiving h = absurd (cc)
lacking_refusal refusal.AfterEnd h = absurd (cc)
lacking_refusal refusal.Kept h = IsKept
lacking_refusal refusal.NotClient h = absurd (cc)
lacking_refusal (refusal.GoingAway id) h = absurd (cc)
lacking_refusal refusal.IdsUsedUp h = absurd (cc)
lacking_refusal refusal.NotOpen h = absurd (cc)
lacking_refusal refusal.OutOfOrder h = absurd (cc)
lacking_refusal refusal.WrongSide h = absurd (cc)
lacking_refusal refusal.PseudoInTrailer h = absurd (cc)
lacking_refusal (refusal.Malformed why) h = absurd (cc)
lacking_refusal (refusal.TooLarge size) h = absurd (cc)
lacking_refusal refusal.Critical h = absurd (cc)
lacking_refusal refusal.Ended h = absurd (cc)
lacking_refusal refusal.NotRequestId h = absurd (cc)
lacking_refusal (refusal.Raised id) h = absurd (cc)
lacking_refusal refusal.OutOfMemory h = NoRoom

pub lacking : (a : Answer) → is_out_of_memory a ≡ true → Lacking a
lacking (answer.Opened id) h = absurd (cc)
lacking answer.Done h = absurd (cc)
lacking (answer.Delivered count) h = absurd (cc)
lacking (answer.Short count) h = absurd (cc)
lacking answer.NoStream h = absurd (cc)
lacking answer.Early h = absurd (cc)
lacking (answer.Pulled p) h = NoPull p
lacking (answer.Listed l) h = lacking_list l h
lacking (answer.Shown limits sizes count) h = absurd (cc)
lacking (answer.Refused r) h = lacking_refusal r h

-- The events that want memory, with the answers that tell that it was refused.
pub data LacksOf : Event → Answer → Type 0 where
  Opens : {side : Side} → LacksOf (event.OpenRequest side) (answer.Refused refusal.OutOfMemory)
  SendsFields : {side : Side} {id : ℕ} {fields : List Field} → LacksOf (event.Fields side id fields) (answer.Refused refusal.OutOfMemory)
  SendsBody : {side : Side} {id : ℕ} {bytes : List ℕ} → LacksOf (event.Body side id bytes) (answer.Refused refusal.OutOfMemory)
  SendsTrailer : {side : Side} {id : ℕ} {fields : List Field} → LacksOf (event.TrailerFields side id fields) (answer.Refused refusal.OutOfMemory)
  Cancels : {side : Side} {id : ℕ} → LacksOf (event.Cancel side id) (answer.Refused refusal.OutOfMemory)
  GoesAway : {side : Side} {id : ℕ} → LacksOf (event.Goaway side id) (answer.Refused refusal.OutOfMemory)
  TakesNone : {writer : Side} {id : ℕ} {count : ℕ} → LacksOf (event.Deliver writer id count) (answer.Refused refusal.OutOfMemory)
  TakesNoEnd : {writer : Side} {id : ℕ} → LacksOf (event.DeliverEnd writer id) (answer.Refused refusal.OutOfMemory)
  TakesNoReset : {writer : Side} {id : ℕ} → LacksOf (event.DeliverReset writer id) (answer.Refused refusal.OutOfMemory)
  KeepsBytes : {writer : Side} {id : ℕ} {count : ℕ} → LacksOf (event.Deliver writer id count) (answer.Refused refusal.Kept)
  KeepsEnd : {writer : Side} {id : ℕ} → LacksOf (event.DeliverEnd writer id) (answer.Refused refusal.Kept)
  KeepsReset : {writer : Side} {id : ℕ} → LacksOf (event.DeliverReset writer id) (answer.Refused refusal.Kept)
  Pulls : {side : Side} {id : ℕ} → LacksOf (event.PullFields side id) (answer.Listed (list.Fault fault.Memory))

-- Which of them it is.
pub lacks_of : (ends new : Ends) (e : Event) (a : Answer) → IsOfC e → Lacking a → LacksMemory ends e a new → LacksOf e a
lacks_of ends new (event.OpenRequest side) _ of NoRoom h = Opens
lacks_of ends new (event.Fields side id fields) _ of NoRoom h = SendsFields
lacks_of ends new (event.Body side id bytes) _ of NoRoom h = SendsBody
lacks_of ends new (event.TrailerFields side id fields) _ of NoRoom h = SendsTrailer
lacks_of ends new (event.Finish side id) _ of NoRoom h = absurd h
lacks_of ends new (event.Reset side id) _ of NoRoom h = absurd h
lacks_of ends new (event.Cancel side id) _ of NoRoom h = Cancels
lacks_of ends new (event.Goaway side id) _ of NoRoom h = GoesAway
lacks_of ends new (event.Deliver writer id count) _ of NoRoom h = TakesNone
lacks_of ends new (event.DeliverEnd writer id) _ of NoRoom h = TakesNoEnd
lacks_of ends new (event.DeliverReset writer id) _ of NoRoom h = TakesNoReset
lacks_of ends new (event.PullFields side id) _ of NoRoom h = absurd h
lacks_of ends new (event.OpenRequest side) _ of IsKept h = absurd h
lacks_of ends new (event.Fields side id fields) _ of IsKept h = absurd h
lacks_of ends new (event.Body side id bytes) _ of IsKept h = absurd h
lacks_of ends new (event.TrailerFields side id fields) _ of IsKept h = absurd h
lacks_of ends new (event.Finish side id) _ of IsKept h = absurd h
lacks_of ends new (event.Reset side id) _ of IsKept h = absurd h
lacks_of ends new (event.Cancel side id) _ of IsKept h = absurd h
lacks_of ends new (event.Goaway side id) _ of IsKept h = absurd h
lacks_of ends new (event.Deliver writer id count) _ of IsKept h = KeepsBytes
lacks_of ends new (event.DeliverEnd writer id) _ of IsKept h = KeepsEnd
lacks_of ends new (event.DeliverReset writer id) _ of IsKept h = KeepsReset
lacks_of ends new (event.PullFields side id) _ of IsKept h = absurd h
lacks_of ends new (event.PullFields side id) _ of NoList h = Pulls
lacks_of ends new (event.OpenRequest side) _ of NoList h = absurd h
lacks_of ends new (event.Fields side id fields) _ of NoList h = absurd h
lacks_of ends new (event.Body side id bytes) _ of NoList h = absurd h
lacks_of ends new (event.TrailerFields side id fields) _ of NoList h = absurd h
lacks_of ends new (event.Finish side id) _ of NoList h = absurd h
lacks_of ends new (event.Reset side id) _ of NoList h = absurd h
lacks_of ends new (event.Cancel side id) _ of NoList h = absurd h
lacks_of ends new (event.Goaway side id) _ of NoList h = absurd h
lacks_of ends new (event.Deliver writer id count) _ of NoList h = absurd h
lacks_of ends new (event.DeliverEnd writer id) _ of NoList h = absurd h
lacks_of ends new (event.DeliverReset writer id) _ of NoList h = absurd h
lacks_of ends new (event.OpenRequest side) _ of (NoPull p) h = absurd h
lacks_of ends new (event.Fields side id fields) _ of (NoPull p) h = absurd h
lacks_of ends new (event.Body side id bytes) _ of (NoPull p) h = absurd h
lacks_of ends new (event.TrailerFields side id fields) _ of (NoPull p) h = absurd h
lacks_of ends new (event.Finish side id) _ of (NoPull p) h = absurd h
lacks_of ends new (event.Reset side id) _ of (NoPull p) h = absurd h
lacks_of ends new (event.Cancel side id) _ of (NoPull p) h = absurd h
lacks_of ends new (event.Goaway side id) _ of (NoPull p) h = absurd h
lacks_of ends new (event.Deliver writer id count) _ of (NoPull p) h = absurd h
lacks_of ends new (event.DeliverEnd writer id) _ of (NoPull p) h = absurd h
lacks_of ends new (event.DeliverReset writer id) _ of (NoPull p) h = absurd h
lacks_of ends new (event.PullFields side id) _ of (NoPull p) h = absurd h
lacks_of ends new (event.Head side id head) _ of l h = absurd of
lacks_of ends new (event.Trailer side id trailer) _ of l h = absurd of
lacks_of ends new (event.Pull side id) _ of l h = absurd of
lacks_of ends new (event.Show side) _ of l h = absurd of

module _ (views : Views) (K : KeepBoth views) (ends new : Ends) where
  -- a list that was cut off
  cuts_off : (side : Side) (id : ℕ) (fields : List Field) → CutsOff ends side id fields new → CutsOff (both_seen views ends) side id fields (both_seen views new)
  cuts_off side id fields c =
      let front = take c.front fields in
      record {
        front = c.front;
        within = c.within;
        is = ap (both_seen views) c.is ∙ sym (with_end_seen views ends side (with_insertions (end_at ends side) id front))
            ∙ sym (ap (λ e. with_end (both_seen views ends) side (with_insertions e id front)) (end_seen views ends side));
      }

  cuts_list : (r : Option Refusal) (side : Side) (id : ℕ) (fields : List Field) → CutsList r ends side id fields new → CutsList r (both_seen views ends) side id fields (both_seen views new)
  cuts_list None side id fields c = cuts_off side id fields c
  cuts_list (Some (refusal.TooLarge size)) side id fields c = ap (both_seen views) c
  cuts_list (Some (refusal.Malformed why)) side id fields c = (c.0, ap (both_seen views) c.1)
  cuts_list (Some refusal.WrongSide) side id fields c = (c.0, ap (both_seen views) c.1)
  cuts_list (Some refusal.PseudoInTrailer) side id fields c = (c.0, ap (both_seen views) c.1)
  cuts_list (Some (refusal.Closed code)) side id fields c = absurd c
  cuts_list (Some (refusal.Connection code)) side id fields c = absurd c
  cuts_list (Some refusal.NotReceiving) side id fields c = absurd c
  cuts_list (Some refusal.AfterEnd) side id fields c = absurd c
  cuts_list (Some refusal.Kept) side id fields c = absurd c
  cuts_list (Some refusal.NotClient) side id fields c = absurd c
  cuts_list (Some (refusal.GoingAway going)) side id fields c = absurd c
  cuts_list (Some refusal.IdsUsedUp) side id fields c = absurd c
  cuts_list (Some refusal.NotOpen) side id fields c = absurd c
  cuts_list (Some refusal.OutOfOrder) side id fields c = absurd c
  cuts_list (Some refusal.Critical) side id fields c = absurd c
  cuts_list (Some refusal.Ended) side id fields c = absurd c
  cuts_list (Some refusal.NotRequestId) side id fields c = absurd c
  cuts_list (Some (refusal.Raised raised)) side id fields c = absurd c
  cuts_list (Some refusal.OutOfMemory) side id fields c = absurd c

  -- what is refused is refused alike
  at_end : {X : Type 0} (side : Side) (f : EndpointHistory → X) → f (seen (view_at views side) (end_at ends side)) ≡ f (end_at ends side) → f (end_at (both_seen views ends) side) ≡ f (end_at ends side)
  at_end side f alike = ap f (end_seen views ends side) ∙ alike

  -- a pull that loses nothing
  asked_on : (T : View) (e f : EndpointHistory) (id : ℕ) → IsAsked e id f → IsAsked (seen T e) id (seen T f)
  asked_on T e f id k =
      record { old = k.old; asked = k.asked; here = k.here; resumes = k.resumes; plainly = k.plainly; counts = k.counts; is = ap (seen T) k.is }

  loses : (side : Side) (id : ℕ) → LosesNothing ends side id new → LosesNothing (both_seen views ends) side id (both_seen views new)
  loses side id l =
      record {
        unsettled = subst (λ e. settles e id ≡ false) (sym (end_seen views ends side)) l.unsettled;
        after = seen (view_at views side) l.after;
        read = subst (λ e. ReadsPart (unkept e) e.kept (seen (view_at views side) l.after)) (sym (end_seen views ends side)) (reading.reads_part (view_at views side) (keeps_at views K side).new l.read);
        is = by l.is;
      }
    where
      by : (new ≡ with_end ends side l.after) ⊎ ((l.after.kept ≡ []) × IsAsked l.after id (end_at new side) × (new ≡ with_end ends side (end_at new side)))
          → (both_seen views new ≡ with_end (both_seen views ends) side (seen (view_at views side) l.after))
          ⊎ (((seen (view_at views side) l.after).kept ≡ []) × IsAsked (seen (view_at views side) l.after) id (end_at (both_seen views new) side) × (both_seen views new ≡ with_end (both_seen views ends) side (end_at (both_seen views new) side)))
      by (inl is) = inl (ap (both_seen views) is ∙ sym (with_end_seen views ends side l.after))
      by (inr (none, asked, is)) =
          inr (
            none,
            subst (λ e. IsAsked (seen (view_at views side) l.after) id e) (sym (end_seen views new side)) (asked_on (view_at views side) l.after (end_at new side) id asked),
            ap (both_seen views) is ∙ sym (with_end_seen views ends side (end_at new side)) ∙ sym (ap (λ e. with_end (both_seen views ends) side e) (end_seen views new side)),
          )

  -- nothing was done, which would have been done
  nothing : (side : Side) (call : EndpointHistory → Option Refusal) → call (seen (view_at views side) (end_at ends side)) ≡ call (end_at ends side) → (call (end_at ends side) ≡ None) × (new ≡ ends)
      → (call (end_at (both_seen views ends) side) ≡ None) × (both_seen views new ≡ both_seen views ends)
  nothing side call alike h = (at_end side call alike ∙ h.0, ap (both_seen views) h.1)

  lists : (side : Side) (id : ℕ) (fields : List Field) (call : EndpointHistory → Option Refusal) → call (seen (view_at views side) (end_at ends side)) ≡ call (end_at ends side)
      → CutsList (call (end_at ends side)) ends side id fields new → CutsList (call (end_at (both_seen views ends) side)) (both_seen views ends) side id fields (both_seen views new)
  lists side id fields call alike c =
      subst (λ r. CutsList r (both_seen views ends) side id fields (both_seen views new)) (sym (at_end side call alike)) (cuts_list (call (end_at ends side)) side id fields c)

  lacks_seen : (e : Event) (a : Answer) → IsCall e → LacksOf e a → LacksMemory ends e a new → LacksMemory (both_seen views ends) e a (both_seen views new)
  lacks_seen _ _ call (Opens {side = side}) h = nothing side (λ e. (sender.open_request e).0) (ap (λ x. x.0) (sending.open_request_seen (view_at views side) (keeps_at views K side) (end_at ends side))) h
  lacks_seen _ _ call (SendsFields {side = side} {id = id} {fields = fields}) h =
      lists side id fields (λ e. (send_fields e id fields).0) (ap (λ x. x.0) (sending.fields_sent_seen (view_at views side) (keeps_at views K side) (end_at ends side) id fields)) h
  lacks_seen _ _ call (SendsBody {side = side} {id = id} {bytes = bytes}) h = ap (both_seen views) h
  lacks_seen _ _ call (SendsTrailer {side = side} {id = id} {fields = fields}) h =
      lists side id fields (λ e. (send_trailer_fields e id fields).0) (ap (λ x. x.0) (sending.trailer_sent_seen (view_at views side) (keeps_at views K side) (end_at ends side) id fields)) h
  lacks_seen _ _ call (Cancels {side = side} {id = id}) h = nothing side (λ e. (sender.cancel e id).0) (ap (λ x. x.0) (sending.cancel_seen (view_at views side) (keeps_at views K side) (end_at ends side) id)) h
  lacks_seen _ _ call (GoesAway {side = side} {id = id}) h = nothing side (λ e. (sender.goaway e id).0) (ap (λ x. x.0) (sending.goaway_seen (view_at views side) (keeps_at views K side) (end_at ends side) id)) h
  lacks_seen _ _ call (TakesNone {writer = writer} {id = id} {count = count}) h = absurd call
  lacks_seen _ _ call (TakesNoEnd {writer = writer} {id = id}) h = absurd call
  lacks_seen _ _ call (TakesNoReset {writer = writer} {id = id}) h = absurd call
  lacks_seen _ _ call (KeepsBytes {writer = writer} {id = id} {count = count}) h = absurd call
  lacks_seen _ _ call (KeepsEnd {writer = writer} {id = id}) h = absurd call
  lacks_seen _ _ call (KeepsReset {writer = writer} {id = id}) h = absurd call
  lacks_seen _ _ call (Pulls {side = side} {id = id}) h = loses side id h

  -- **So is each step that one side makes.**
  pub step_seen : (e : Event) (a : Answer) → IsOfC e → IsCall e → ResetsAlike e views ends → EndsStep ends e a new → EndsStep (both_seen views ends) e a (both_seen views new)
  step_seen e a of call resets step = by (is_out_of_memory a) refl
    where
      by : (b : Bool) → is_out_of_memory a ≡ b → AnswerOf (is_out_of_memory a) (both_seen views ends) e a (both_seen views new)
      by true is =
          let lacks = subst (λ c. AnswerOf c ends e a new) is step in
          subst (λ c. AnswerOf c (both_seen views ends) e a (both_seen views new)) (sym is) (lacks_seen e a call (lacks_of ends new e a of (lacking a is) lacks) lacks)
      by false is =
          let answers = subst (λ c. AnswerOf c ends e a new) is step in
          let same = answered_seen views K ends e of call resets in
          subst (λ c. AnswerOf c (both_seen views ends) e a (both_seen views new)) (sym is)
          (answers.0 ∙ sym (ap (λ x. x.0) same), ap (both_seen views) answers.1 ∙ sym (ap (λ x. x.1) same))
