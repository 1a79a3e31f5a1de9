-- What came on a stream that is there, by a call that may be refused memory.
use Rattle.std.proofs.Common.{◌≡◌, ℕ, Bool, true, false, if◌then◌else◌, List, refl, sym, ap, subst, ◌∙◌}
use Rattle.std.specs.Prelude.{◌&&◌, not, Result, Ok, Err, Option, Some, None, IfSome, OnOk, is_some, unwrap_or}
use Rattle.h3_messages.specs.declared.content.Content.{Content}
use Rattle.h3_field.specs.Field.{Field}
use Rattle.h3_connection.specs.Calls.{Sets, fresh_request}
use Rattle.h3_connection.specs.Incoming.{Incoming, awaiting, awaits_head, is_before_head, goes_on, having_told}
use Rattle.h3_connection.specs.Sending.{content_of_response_to}
use Rattle.h3_connection.specs.State.{RequestState, kept_at}
use Rattle.h3_connection.specs.StreamSets.{Streams}
use Rattle.h3_outgoing.specs.Sent.{is_open, is_to_have}
use Rattle.h3_requests.specs.Changing.{Receives}
use Rattle.h3_requests.specs.Lending.{Writes}
use Rattle.h3_requests.specs.Over.{IsOver}
use Rattle.h3_requests.proofs.Counts.{kept_there}
use Rattle.h3_requests.proofs.Ways.{over_closed, over_settled}
use Rattle.h3_messages.specs.Content.{answered_by}
use Rattle.h3_proto.specs.declared.stream.Side.TheVariants.{Server}

abbrev receives : (Incoming → Incoming) → RequestState → RequestState
receives change r = record r { incoming = change r.incoming }

set_so : {under_way : Option RequestState} (old new : Streams RequestState) (id : ℕ) (before after : RequestState) (change : Incoming → Incoming) → Writes old new under_way id after → under_way ≡ Some before
    → after ≡ receives change before → Sets old new id (receives change before)
set_so old new id before after change writes there is = subst (Sets old new id) is (writes.0 (ap is_some there))

-- of what is found there,
pub received_there : {A E : Type 0} {under_way : Option RequestState} (result : Result A E) (model : Streams RequestState) (old new : Streams RequestState) (id : ℕ) (before after : RequestState) (change : Incoming → Incoming) → old ≡ model
    → Writes old new under_way id after → under_way ≡ Some before → OnOk result (after ≡ receives change before)
    → OnOk result (IfSome (kept_at model id) (λ r. Sets model new id (receives change r)))
received_there (Err e) model old new id before after change same writes there is = tt
received_there (Ok x) model old new id before after change same writes there is =
    subst (λ l. IfSome (kept_at l id) (λ r. Sets l new id (receives change r))) same
    (subst (λ o. IfSome o (λ r. Sets old new id (receives change r))) (sym (kept_there old new id before after writes there)) (set_so old new id before after change writes there is))

-- or of both parts of it,
pub altered_there : {under_way : Option RequestState} (model old new : Streams RequestState) (id : ℕ) (before after : RequestState) (change : RequestState → RequestState) → old ≡ model
    → Writes old new under_way id after → under_way ≡ Some before → after ≡ change before → IfSome (kept_at model id) (λ r. Sets model new id (change r))
altered_there model old new id before after change same writes there is =
    subst (λ l. IfSome (kept_at l id) (λ r. Sets l new id (change r))) same
    (subst (λ o. IfSome o (λ r. Sets old new id (change r))) (sym (kept_there old new id before after writes there)) (subst (Sets old new id) is (writes.0 (ap is_some there))))

-- and in the words of a stream that may have to be opened
pub received : {A E : Type 0} {under_way : Option RequestState} (result : Result A E) (model : Streams RequestState) (old new : Streams RequestState) (id : ℕ) (before after : RequestState) (change : Incoming → Incoming) → old ≡ model
    → Writes old new under_way id after → under_way ≡ Some before → OnOk result (after ≡ receives change before) → OnOk result (Receives model new id change)
received (Err e) model old new id before after change same writes there is = tt
received (Ok x) model old new id before after change same writes there is =
    subst (λ l. Receives l new id change) same
    (subst (λ o. Sets old new id (receives change (unwrap_or o fresh_request))) (sym (kept_there old new id before after writes there))
    (set_so old new id before after change writes there is))

-- A stream that is over awaits no head, so nothing changes.
and_none : (b : Bool) → (b && false) ≡ false
and_none true = refl
and_none false = refl

abbrev pub asks : Content → Content → RequestState → RequestState
asks expected said r = record r { incoming = awaiting r.incoming expected; outgoing = is_to_have r.outgoing said }

over_awaits : (r : RequestState) (expected said : Content) → IsOver r → asks expected said r ≡ r
over_awaits r expected said h =
    let none : awaits_head r.incoming ≡ false = ap (λ b. is_before_head r.incoming.place && not b) (over_settled r h) ∙ and_none (is_before_head r.incoming.place) in
    let closed : is_open r.outgoing ≡ false = over_closed r h in
    ap (λ b. let q : RequestState = record r { incoming = record r.incoming { content = if b then expected else r.incoming.content }; outgoing = is_to_have r.outgoing said } in q) none
    ∙ ap (λ b. let q : RequestState = record r { outgoing = record r.outgoing { content = if b then said else r.outgoing.content } } in q) closed

pub awaits_over : (old new : Streams RequestState) (id : ℕ) (expected said : Content) (there : Option RequestState) → kept_at old id ≡ there → IfSome there IsOver → new ≡ old
    → IfSome there (λ r. Sets old new id (asks expected said r))
awaits_over old new id expected said None was over same = tt
awaits_over old new id expected said (Some r) was over same =
    subst (λ s. Sets old s id (asks expected said r)) (sym same) (record { here = was ∙ ap Some (sym (over_awaits r expected said over)); others = λ q ne. refl })

-- Nothing is sent on it either, nor is it answered.
abbrev pub says : List Field → RequestState → RequestState
says fields r = record r { incoming = having_told Server r.incoming fields; outgoing = is_to_have r.outgoing (content_of_response_to r.incoming.response fields) }

over_says : (r : RequestState) (fields : List Field) → IsOver r → says fields r ≡ r
over_says r fields h =
    let none : goes_on r.incoming ≡ false = ap not (over_settled r h) in
    let closed : is_open r.outgoing ≡ false = over_closed r h in
    ap (λ b. let q : RequestState = record r { incoming = record r.incoming { content = if b then answered_by r.incoming.content fields else r.incoming.content }; outgoing = is_to_have r.outgoing (content_of_response_to r.incoming.response fields) } in q) none
    ∙ ap (λ b. let q : RequestState = record r { outgoing = record r.outgoing { content = if b then content_of_response_to r.incoming.response fields else r.outgoing.content } } in q) closed

pub says_over : (old new : Streams RequestState) (id : ℕ) (fields : List Field) (there : Option RequestState) → kept_at old id ≡ there → IfSome there IsOver → new ≡ old
    → IfSome there (λ r. Sets old new id (says fields r))
says_over old new id fields None was over same = tt
says_over old new id fields (Some r) was over same =
    subst (λ s. Sets old s id (says fields r)) (sym same) (record { here = was ∙ ap Some (sym (over_says r fields over)); others = λ q ne. refl })
