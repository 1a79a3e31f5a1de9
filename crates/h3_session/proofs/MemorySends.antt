-- A call of one of two endpoints that was refused memory.
use Rattle.std.proofs.Common.{◌≡◌, ◌≢◌, ◌⊎◌, inl, inr, ℕ, ◌≤◌, ◌<◌, List, take, length, Bool, true, false, nat_le, arith, Option, Some, None, refl, ap, sym, subst}
use Rattle.std.specs.Prelude.{Result, Ok, Err}
use Rattle.std.proofs.lemmas.Bool.{leb-true, leb-false}
use Rattle.h3_field.specs.Field.{Field}
use Rattle.h3_header.specs.Head.{Head, head_fields}
use Rattle.h3_proto.specs.declared.stream.Side.{Side}
use Rattle.h3_proto.specs.declared.stream.Side.TheVariants.{Client, Server}
use Rattle.h3_connection.specs.Answers.{call_refused, body_refused}
use Rattle.h3_connection.specs.Calls.{IsSame}
use Rattle.h3_connection.specs.Endpoint.{EndpointHistory}
use Rattle.h3_connection.specs.Sections.{with_insertions}
use Rattle.h3_connection.specs.Sending as sender
use Rattle.h3_connection.specs.SendingContracts as left
use Rattle.h3_connection.specs.SendingContracts.{DoesAlways, DoesOrRefuses, SendsSection, MayLackMemory, Opens, SendsHead, SendsBody, SendsTrailer, Finishes, Resets, Cancels, GoesAway}
use Rattle.h3_connection.specs.State.{EndpointState, StandsFor}
use Rattle.h3_connection.specs.declared.event.Refusal.{Refusal}
use Rattle.h3_connection.specs.declared.event.Refusal.TheVariants as refusal
use Rattle.h3_world.specs.Ends.{Ends, end_at, with_end}
use Rattle.h3_world.specs.Headline.{is_out_of_memory}
use Rattle.h3_world.specs.declared.event.Answer.{Answer}
use Rattle.h3_world.specs.declared.event.Answer.TheVariants as answer
use Rattle.h3_world.specs.declared.event.Event.{Event}
use Rattle.h3_world.specs.declared.event.Event.TheVariants as event
use Rattle.h3_memory.specs.Refused.{CutsList, CutsSection, LacksMemory}
use Rattle.h3_world.specs.EndLists as lists
use Rattle.h3_session.specs.SendingLists.{MayLackMap, MayLackSize, SendsFieldList, SendsList, SendsTrailerList, send_fields, send_trailer_fields}
use Rattle.h3_session.specs.Acting.{SendsShared, Tells}
use Rattle.h3_session.specs.Running.{answer_of, body_answer, done_answer, opened_answer}
use Rattle.h3_session.proofs.MemoryTells.{TellsNoMemory, memory_refusals, not_by_rules, open_tells, head_tells, body_tells, trailer_tells, fields_tell, trailer_fields_tell, finish_tells, reset_tells, cancel_tells, goaway_tells}
use Rattle.h3_session.proofs.ListEvents.{fields_sent, trailer_fields_sent}
use Rattle.h3_session.proofs.MemoryUnchanged.{stands_unchanged}

-- The side's call was refused memory: what the side stands for then, and that both ends may be so.
pub record OneLacks (ends : Ends) (side : Side) (e : Event) (a : Answer) (new : EndpointState) : Type 0 where
  pub after : EndpointHistory
  pub stands : StandsFor new after
  pub lacks : LacksMemory ends e a (with_end ends side after)

pub with_same : (ends : Ends) (side : Side) → with_end ends side (end_at ends side) ≡ ends
with_same ends Client = refl
with_same ends Server = refl

pub end_with : (ends : Ends) (side : Side) (e : EndpointHistory) → end_at (with_end ends side e) side ≡ e
end_with ends Client e = refl
end_with ends Server e = refl

-- nothing has changed
pub one_unchanged : (ends : Ends) (side : Side) (e : Event) (a : Answer) (new : EndpointState) → StandsFor new (end_at ends side) → LacksMemory ends e a ends → OneLacks ends side e a new
one_unchanged ends side e a new stands lacks = record { after = end_at ends side; stands = stands; lacks = subst (λ v. LacksMemory ends e a v) (sym (with_same ends side)) lacks }

-- The answer, by the result.
pub tells_lacks : {R : Type 0} (told : R → Answer) (call : EndpointState → EndpointState → R → Type 0) (ends : Ends) (side : Side) (e : Event) (old new : EndpointState) (a : Answer) → Tells told call old new a → is_out_of_memory a ≡ true
    → ((r : R) → call old new r → is_out_of_memory (told r) ≡ true → OneLacks ends side e (told r) new) → OneLacks ends side e a new
tells_lacks told call ends side e old new a h memory lacks =
    subst (λ v. OneLacks ends side e v new) (sym h.given_is) (lacks h.result h.called (subst (λ v. is_out_of_memory v ≡ true) h.given_is memory))

-- An answer of refused memory is the refusal `OutOfMemory`, since the rules have none.
by_refusal : (ends : Ends) (side : Side) (e : Event) (new : EndpointState) (success : Answer) (refused rules : Option Refusal) → is_out_of_memory success ≡ false → TellsNoMemory rules → (refused ≢ Some refusal.OutOfMemory → refused ≡ rules)
    → (refused ≡ Some refusal.OutOfMemory → OneLacks ends side e (answer.Refused refusal.OutOfMemory) new) → is_out_of_memory (answer_of success refused) ≡ true → OneLacks ends side e (answer_of success refused) new
by_refusal ends side e new success None rules plain tells by_rules lacks memory = absurd (cc)
by_refusal ends side e new success (Some r) rules plain tells by_rules lacks memory = by (memory_refusals r memory)
  where
    other_than : r ≡ refusal.Kept → Some r ≢ Some refusal.OutOfMemory
    other_than kept out = absurd (cc)

    by : (r ≡ refusal.OutOfMemory) ⊎ (r ≡ refusal.Kept) → OneLacks ends side e (answer.Refused r) new
    by (inl out) = subst (λ v. OneLacks ends side e (answer.Refused v) new) (sym out) (lacks (ap Some out))
    by (inr kept) = not_by_rules r rules tells (by_rules (other_than kept)) memory

-- What is left of a section that was refused memory, by its refusal otherwise.
record Cut (ends : Ends) (side : Side) (new : EndpointState) (id : ℕ) (fields : List Field) (refused : Option Refusal) : Type 0 where
  after : EndpointHistory
  stands : StandsFor new after
  cuts : CutsSection refused ends side id fields (with_end ends side after)

cut_off : (ends : Ends) (side : Side) (old new : EndpointState) (id : ℕ) (fields : List Field) (refused : Option Refusal) → MayLackMemory refused → left.CutsOff (end_at ends side) id fields new → (refused ≢ None → IsSame old new)
    → StandsFor old (end_at ends side) → Cut ends side new id fields refused
cut_off ends side old new id fields None may cut same stands =
    record { after = with_insertions (end_at ends side) id (take cut.front fields); stands = cut.stands; cuts = record { front = cut.front; within = cut.within; is = refl } }
cut_off ends side old new id fields (Some (refusal.Malformed why)) may cut same stands =
    record { after = end_at ends side; stands = stands_unchanged old new (end_at ends side) (same (λ none. absurd (cc))) stands; cuts = with_same ends side }
cut_off ends side old new id fields (Some (refusal.TooLarge size)) may cut same stands =
    record { after = end_at ends side; stands = stands_unchanged old new (end_at ends side) (same (λ none. absurd (cc))) stands; cuts = with_same ends side }
cut_off ends side old new id fields (Some r) may cut same stands = absurd may

-- The same of a list. One that is long takes memory to be judged.
record CutList (ends : Ends) (side : Side) (new : EndpointState) (id : ℕ) (fields : List Field) (refused : Option Refusal) : Type 0 where
  after : EndpointHistory
  stands : StandsFor new after
  cuts : CutsList refused ends side id fields (with_end ends side after)

-- only a list of so many fields may lack memory for a map
is_long : (fields : List Field) (refused : Option Refusal) → (length fields ≤ 24576 → MayLackSize refused) → (MayLackSize refused → ⊥) → 24576 < length fields
is_long fields refused short never = by (nat_le (length fields) 24576) refl
  where
    by : (b : Bool) → nat_le (length fields) 24576 ≡ b → 24576 < length fields
    by true few = absurd (never (short (leb-true (length fields) 24576 few)))
    by false many = omega (arith, leb-false (length fields) 24576 many)

list_cut_off : (ends : Ends) (side : Side) (old new : EndpointState) (id : ℕ) (fields : List Field) (refused : Option Refusal) → MayLackMap refused → (length fields ≤ 24576 → MayLackSize refused)
    → left.CutsOff (end_at ends side) id fields new → (refused ≢ None → IsSame old new) → StandsFor old (end_at ends side) → CutList ends side new id fields refused
list_cut_off ends side old new id fields None may short cut same stands =
    record { after = with_insertions (end_at ends side) id (take cut.front fields); stands = cut.stands; cuts = record { front = cut.front; within = cut.within; is = refl } }
list_cut_off ends side old new id fields (Some (refusal.TooLarge size)) may short cut same stands =
    record { after = end_at ends side; stands = stands_unchanged old new (end_at ends side) (same (λ none. absurd (cc))) stands; cuts = with_same ends side }
list_cut_off ends side old new id fields (Some (refusal.Malformed why)) may short cut same stands =
    record { after = end_at ends side; stands = stands_unchanged old new (end_at ends side) (same (λ none. absurd (cc))) stands; cuts = (is_long fields (Some (refusal.Malformed why)) short (λ x. x), with_same ends side) }
list_cut_off ends side old new id fields (Some refusal.WrongSide) may short cut same stands =
    record { after = end_at ends side; stands = stands_unchanged old new (end_at ends side) (same (λ none. absurd (cc))) stands; cuts = (is_long fields (Some refusal.WrongSide) short (λ x. x), with_same ends side) }
list_cut_off ends side old new id fields (Some refusal.PseudoInTrailer) may short cut same stands =
    record { after = end_at ends side; stands = stands_unchanged old new (end_at ends side) (same (λ none. absurd (cc))) stands; cuts = (is_long fields (Some refusal.PseudoInTrailer) short (λ x. x), with_same ends side) }
list_cut_off ends side old new id fields (Some r) may short cut same stands = absurd may

module _ (act : EndpointHistory → Option Refusal × EndpointHistory) (ends : Ends) (side : Side) (e : Event) (old new : EndpointState) (success : Answer) (refused : Option Refusal) where
  -- a list that goes out as it is
  list_lacks : (id : ℕ) (fields : List Field) → SendsList act old new id fields refused → StandsFor old (end_at ends side) → is_out_of_memory success ≡ false → TellsNoMemory (act (end_at ends side)).0
      → ((after : Ends) → CutsList (act (end_at ends side)).0 ends side id fields after → LacksMemory ends e (answer.Refused refusal.OutOfMemory) after) → is_out_of_memory (answer_of success refused) ≡ true
      → OneLacks ends side e (answer_of success refused) new
  list_lacks id fields h stands plain tells lacks =
      by_refusal ends side e new success refused (act (end_at ends side)).0 plain tells (λ other. (h.done (end_at ends side) stands other).0)
      (λ out. let may = h.memory (end_at ends side) stands out in
      let x = list_cut_off ends side old new id fields (act (end_at ends side)).0 may.0 (h.short (end_at ends side) stands out) may.1 (h.refused (end_at ends side) stands out) stands in
      record { after = x.after; stands = x.stands; lacks = lacks (with_end ends side x.after) x.cuts })

  -- a call that changes nothing where memory is refused
  does_or_lacks : DoesOrRefuses act old new refused → StandsFor old (end_at ends side) → is_out_of_memory success ≡ false → TellsNoMemory (act (end_at ends side)).0
      → ((act (end_at ends side)).0 ≡ None → LacksMemory ends e (answer.Refused refusal.OutOfMemory) ends) → is_out_of_memory (answer_of success refused) ≡ true → OneLacks ends side e (answer_of success refused) new
  does_or_lacks h stands plain tells lacks =
      by_refusal ends side e new success refused (act (end_at ends side)).0 plain tells (λ other. (h.done (end_at ends side) stands other).0)
      (λ out. one_unchanged ends side e (answer.Refused refusal.OutOfMemory) new (stands_unchanged old new (end_at ends side) (h.same (λ none. absurd (cc))) stands) (lacks (h.memory (end_at ends side) stands out)))

  -- a call that takes no memory
  does_always : DoesAlways act old new refused → StandsFor old (end_at ends side) → is_out_of_memory success ≡ false → TellsNoMemory (act (end_at ends side)).0 → is_out_of_memory (answer_of success refused) ≡ true → OneLacks ends side e (answer_of success refused) new
  does_always h stands plain tells =
      by_refusal ends side e new success refused (act (end_at ends side)).0 plain tells (λ other. (h.done (end_at ends side) stands).0) (λ out. absurd (h.memory out))

  -- a section, of which insertions may be left
  section_lacks : (id : ℕ) (fields : List Field) → SendsSection act old new id fields refused → StandsFor old (end_at ends side) → is_out_of_memory success ≡ false → TellsNoMemory (act (end_at ends side)).0
      → ((after : Ends) → CutsSection (act (end_at ends side)).0 ends side id fields after → LacksMemory ends e (answer.Refused refusal.OutOfMemory) after) → is_out_of_memory (answer_of success refused) ≡ true
      → OneLacks ends side e (answer_of success refused) new
  section_lacks id fields h stands plain tells lacks =
      by_refusal ends side e new success refused (act (end_at ends side)).0 plain tells (λ other. (h.done (end_at ends side) stands other).0)
      (λ out. let cut = h.memory (end_at ends side) stands out in
      let x = cut_off ends side old new id fields (act (end_at ends side)).0 cut.0 cut.1 (h.too_large (end_at ends side) stands out) stands in
      record { after = x.after; stands = x.stands; lacks = lacks (with_end ends side x.after) x.cuts })

module _ (ends : Ends) (side : Side) (old new : EndpointState) (a : Answer) where
  abbrev Lacks : Event → Type 0
  Lacks e = StandsFor old (end_at ends side) → is_out_of_memory a ≡ true → OneLacks ends side e a new

  pub open_lacks : Tells opened_answer Opens old new a → Lacks (event.OpenRequest side)
  open_lacks h stands memory =
      tells_lacks opened_answer Opens ends side (event.OpenRequest side) old new a h memory by_result
    where
      -- the answer is that of another call which would have had success
      by_result : (r : Result ℕ Refusal) → Opens old new r → is_out_of_memory (opened_answer r) ≡ true → OneLacks ends side (event.OpenRequest side) (opened_answer r) new
      by_result (Ok id) called tells = absurd (cc)
      by_result (Err e) called tells =
          does_or_lacks sender.open_request ends side (event.OpenRequest side) old new answer.Done (Some e) called.opens stands refl (open_tells (end_at ends side)) (λ none. (none, refl)) tells

  pub head_lacks : (id : ℕ) (head : Head) → Tells done_answer (λ s t r. SendsHead s t id head r) old new a → Lacks (event.Head side id head)
  head_lacks id head h stands memory =
      tells_lacks done_answer (λ s t r. SendsHead s t id head r) ends side (event.Head side id head) old new a h memory
      (λ r called. section_lacks (λ e. sender.send_head e id head) ends side (event.Head side id head) old new answer.Done (call_refused r) id (head_fields head) called stands refl (head_tells (end_at ends side) id head)
      (λ after cuts. cuts))

  pub trailer_lacks : (id : ℕ) (trailer : Head) → Tells done_answer (λ s t r. SendsTrailer s t id trailer r) old new a → Lacks (event.Trailer side id trailer)
  trailer_lacks id trailer h stands memory =
      tells_lacks done_answer (λ s t r. SendsTrailer s t id trailer r) ends side (event.Trailer side id trailer) old new a h memory
      (λ r called. section_lacks (λ e. sender.send_trailer e id trailer) ends side (event.Trailer side id trailer) old new answer.Done (call_refused r) id (head_fields trailer) called stands refl (trailer_tells (end_at ends side) id trailer)
      (λ after cuts. cuts))

  -- a list, by its rule as events say it
  as_event : (act other_act : EndpointHistory → Option Refusal × EndpointHistory) (id : ℕ) (fields : List Field) (told : Option Refusal) → ((e : EndpointHistory) → act e ≡ other_act e)
      → SendsList act old new id fields told → SendsList other_act old new id fields told
  as_event act other_act id fields told same h = record {
    done = λ e stands ne. subst (λ (x : Option Refusal × EndpointHistory). (told ≡ x.0) × StandsFor new x.1) (same e) (h.done e stands ne);
    same = h.same;
    memory = λ e stands out. subst (λ (x : Option Refusal × EndpointHistory). MayLackMap x.0 × left.CutsOff e id fields new) (same e) (h.memory e stands out);
    short = λ e stands out few. subst (λ (x : Option Refusal × EndpointHistory). MayLackSize x.0) (same e) (h.short e stands out few);
    readable = h.readable;
    refused = λ e stands out some. h.refused e stands out (subst (λ (x : Option Refusal × EndpointHistory). x.0 ≢ None) (sym (same e)) some);
  }

  pub fields_lack : (id : ℕ) (fields : List Field) → Tells done_answer (λ s t r. SendsFieldList s t id fields r) old new a → Lacks (event.Fields side id fields)
  fields_lack id fields h stands memory =
      tells_lacks done_answer (λ s t r. SendsFieldList s t id fields r) ends side (event.Fields side id fields) old new a h memory
      (λ r called. list_lacks (λ e. lists.send_fields e id fields) ends side (event.Fields side id fields) old new answer.Done (call_refused r) id fields
      (as_event (λ e. send_fields e id fields) (λ e. lists.send_fields e id fields) id fields (call_refused r) (λ e. fields_sent e id fields) called) stands refl (fields_tell (end_at ends side) id fields) (λ after cuts. cuts))

  pub trailer_fields_lack : (id : ℕ) (fields : List Field) → Tells done_answer (λ s t r. SendsTrailerList s t id fields r) old new a → Lacks (event.TrailerFields side id fields)
  trailer_fields_lack id fields h stands memory =
      tells_lacks done_answer (λ s t r. SendsTrailerList s t id fields r) ends side (event.TrailerFields side id fields) old new a h memory
      (λ r called. list_lacks (λ e. lists.send_trailer_fields e id fields) ends side (event.TrailerFields side id fields) old new answer.Done (call_refused r) id fields
      (as_event (λ e. send_trailer_fields e id fields) (λ e. lists.send_trailer_fields e id fields) id fields (call_refused r) (λ e. trailer_fields_sent e id fields) called) stands refl (trailer_fields_tell (end_at ends side) id fields) (λ after cuts. cuts))

  -- bytes of a body may be refused memory before the call
  pub body_lacks : (id : ℕ) (bytes : List ℕ) → SendsShared id bytes old new a → Lacks (event.Body side id bytes)
  body_lacks id bytes (inl h) stands memory =
      tells_lacks body_answer (λ s t r. SendsBody s t id bytes r) ends side (event.Body side id bytes) old new a h memory
      (λ r called. does_or_lacks (λ e. sender.send_body e id bytes) ends side (event.Body side id bytes) old new answer.Done (body_refused r) called.sends stands refl (body_tells (end_at ends side) id bytes) (λ none. refl))
  body_lacks id bytes (inr none) stands memory =
      subst (λ v. OneLacks ends side (event.Body side id bytes) v new) (sym none.0)
      (one_unchanged ends side (event.Body side id bytes) (answer.Refused refusal.OutOfMemory) new (subst (λ s. StandsFor s (end_at ends side)) (sym none.1) stands) refl)

  pub finish_lacks : (id : ℕ) → Tells done_answer (λ s t r. Finishes s t id r) old new a → Lacks (event.Finish side id)
  finish_lacks id h stands memory =
      tells_lacks done_answer (λ s t r. Finishes s t id r) ends side (event.Finish side id) old new a h memory
      (λ r called. does_always (λ e. sender.finish e id) ends side (event.Finish side id) old new answer.Done (call_refused r) called stands refl (finish_tells (end_at ends side) id))

  pub reset_lacks : (id : ℕ) → Tells done_answer (λ s t r. Resets s t id r) old new a → Lacks (event.Reset side id)
  reset_lacks id h stands memory =
      tells_lacks done_answer (λ s t r. Resets s t id r) ends side (event.Reset side id) old new a h memory
      (λ r called. does_always (λ e. sender.reset e id) ends side (event.Reset side id) old new answer.Done (call_refused r) called stands refl (reset_tells (end_at ends side) id))

  pub cancel_lacks : (id : ℕ) → Tells done_answer (λ s t r. Cancels s t id r) old new a → Lacks (event.Cancel side id)
  cancel_lacks id h stands memory =
      tells_lacks done_answer (λ s t r. Cancels s t id r) ends side (event.Cancel side id) old new a h memory
      (λ r called. does_or_lacks (λ e. sender.cancel e id) ends side (event.Cancel side id) old new answer.Done (call_refused r) called stands refl (cancel_tells (end_at ends side) id) (λ none. (none, refl)))

  pub goaway_lacks : (id : ℕ) → Tells done_answer (λ s t r. GoesAway s t id r) old new a → Lacks (event.Goaway side id)
  goaway_lacks id h stands memory =
      tells_lacks done_answer (λ s t r. GoesAway s t id r) ends side (event.Goaway side id) old new a h memory
      (λ r called. does_or_lacks (λ e. sender.goaway e id) ends side (event.Goaway side id) old new answer.Done (call_refused r) called stands refl (goaway_tells (end_at ends side) id) (λ none. (none, refl)))
