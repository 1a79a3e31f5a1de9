-- What breaks no rule of its sender breaks none of its reader, and what is counted of its content.
use Rattle.std.proofs.Common.{◌≡◌, ℕ, ◌-◌, Bool, true, false, List, Option, Some, None, refl, ap, sym, ◌∙◌, arith, nat_le, if◌then◌else◌}
use Rattle.std.specs.Prelude.{◌&&◌, ◌==◌, codes}
use Rattle.h3_field.specs.Field.{Field}
use Rattle.h3_messages.specs.Content.{asked_for, content_behind_response, content_expected, content_of_request, is_exceeded, is_interim_status, left_behind, may_end, takes_trailer}
use Rattle.h3_messages.specs.Messages.{value_of, violation_of_request, violation_of_response, violation_of_trailer}
use Rattle.h3_messages.specs.OwnMessages.{IsSentOf, content_of_own_request, content_of_own_response, awaits_tunnel, has_no_trailer_field, is_own_length_misplaced, is_reset_content, is_trace, or_broken, or_nothing, says_content, says_tunnel_length, violation_of_own_answer, violation_of_own_request, violation_of_own_response, violation_of_own_trailer}
use Rattle.h3_messages.specs.declared.content.Content.{Content}
use Rattle.h3_messages.specs.declared.content.Content.TheVariants.{Unsaid, Exactly, NoContent, Tunnel, Unanswered, Exceeded}
use Rattle.h3_messages.specs.declared.violation.Violation.{Violation}
use Rattle.h3_messages.specs.declared.violation.Violation.TheVariants.{ContentLength, TrailerField}

no_earlier : (v : Option Violation) (broken : Bool) (rule : Violation) → or_broken v broken rule ≡ None → v ≡ None
no_earlier None broken rule e = refl
no_earlier (Some v) broken rule e = absurd (cc)

pub own_request_unbroken : (extended_connect : Bool) (fields : List Field) → violation_of_own_request extended_connect fields ≡ None → violation_of_request extended_connect fields ≡ None
own_request_unbroken extended_connect fields e = no_earlier (violation_of_request extended_connect fields) (is_trace fields && says_content fields) ContentLength e

pub own_response_unbroken : (fields : List Field) → violation_of_own_response fields ≡ None → violation_of_response fields ≡ None
own_response_unbroken fields e = no_earlier (violation_of_response fields) (is_own_length_misplaced fields) ContentLength e

pub own_answer_unbroken : (known : Option Content) (fields : List Field) → violation_of_own_answer known fields ≡ None → violation_of_own_response fields ≡ None
own_answer_unbroken known fields e = no_earlier (violation_of_own_response fields) (says_tunnel_length fields && awaits_tunnel known) ContentLength e

-- where it is not known what was asked, no rule comes behind those of the list
pub unasked_answer : (v : Option Violation) (broken : Bool) (rule : Violation) → broken ≡ false → or_broken v broken rule ≡ v
unasked_answer None broken rule e = ap (λ b. let v : Option Violation = if b then Some rule else None in v) e
unasked_answer (Some v) broken rule e = refl

pub own_trailer_unbroken : (fields : List Field) → violation_of_own_trailer fields ≡ None → violation_of_trailer fields ≡ None
own_trailer_unbroken fields e = no_earlier (violation_of_trailer fields) (has_no_trailer_field fields) TrailerField e

-- A sender counts what its reader expects, or nothing.
pub as_expected : (content : Content) → IsSentOf content content
as_expected Unsaid = (false, refl)
as_expected (Exactly size) = (false, refl)
as_expected NoContent = (false, refl)
as_expected Tunnel = (false, refl)
as_expected Unanswered = (false, refl)
as_expected Exceeded = (false, refl)

pub own_request_content : (fields : List Field) → IsSentOf (content_of_own_request fields) (content_of_request fields)
own_request_content fields = (is_trace fields, refl)

pub own_response_content : (awaited : Content) (fields : List Field) → IsSentOf (content_of_own_response awaited fields) (content_behind_response awaited fields)
own_response_content awaited fields = by_status (is_interim_status (value_of (codes ":status") fields))
  where
    expected : Content
    expected = content_expected (asked_for awaited) (value_of (codes ":status") fields) (value_of (codes "content-length") fields)

    is_reset : Bool
    is_reset = is_reset_content (value_of (codes ":status") fields)

    by_status : (interim : Bool) → IsSentOf (if interim then awaited else or_nothing expected is_reset) (if interim then awaited else expected)
    by_status true = as_expected awaited
    by_status false = (is_reset, refl)

-- What a sender may send, its reader takes, and both count on.
pub sent_ends : (sent expected : Content) → IsSentOf sent expected → may_end sent ≡ may_end expected
sent_ends sent expected h = ap may_end h.1 ∙ by_content expected h.0
  where
    by_content : (c : Content) (b : Bool) → may_end (or_nothing c b) ≡ may_end c
    by_content Unsaid true = refl
    by_content Unsaid false = refl
    by_content (Exactly size) b = refl
    by_content NoContent b = refl
    by_content Tunnel b = refl
    by_content Unanswered b = refl
    by_content Exceeded b = refl

pub sent_trails : (sent expected : Content) → IsSentOf sent expected → takes_trailer sent ≡ takes_trailer expected
sent_trails sent expected h = ap takes_trailer h.1 ∙ by_content expected h.0
  where
    by_content : (c : Content) (b : Bool) → takes_trailer (or_nothing c b) ≡ takes_trailer c
    by_content Unsaid true = refl
    by_content Unsaid false = refl
    by_content (Exactly size) b = refl
    by_content NoContent b = refl
    by_content Tunnel b = refl
    by_content Unanswered b = refl
    by_content Exceeded b = refl

counts_on : (c : Content) (b : Bool) (size : ℕ) → is_exceeded (left_behind (or_nothing c b) size) ≡ false
    → (is_exceeded (left_behind c size) ≡ false) × (left_behind (or_nothing c b) size ≡ or_nothing (left_behind c size) b)
counts_on Unsaid true size fits = (refl, by_size (nat_le size 0) refl fits)
  where
    by_size : (within : Bool) → nat_le size 0 ≡ within → is_exceeded (if within then Exactly (0 - size) else Exceeded) ≡ false → (if within then Exactly (0 - size) else Exceeded) ≡ Exactly 0
    by_size true is h = ap Exactly (omega arith)
    by_size false is h = absurd (cc)
counts_on Unsaid false size fits = (refl, refl)
counts_on (Exactly left) b size fits = by_size (nat_le size left) fits
  where
    by_size : (within : Bool) → (let next : Content = if within then Exactly (left - size) else Exceeded in is_exceeded next ≡ false → (is_exceeded next ≡ false) × (next ≡ or_nothing next b))
    by_size true h = (refl, refl)
    by_size false h = absurd (cc)
counts_on NoContent b size fits = by_size (size == 0) fits
  where
    by_size : (none : Bool) → (let next : Content = if none then NoContent else Exceeded in is_exceeded next ≡ false → (is_exceeded next ≡ false) × (next ≡ or_nothing next b))
    by_size true h = (refl, refl)
    by_size false h = absurd (cc)
counts_on Tunnel b size fits = (refl, refl)
counts_on Unanswered b size fits = (refl, refl)
counts_on Exceeded b size fits = absurd (cc)

pub sent_fits : (sent expected : Content) (size : ℕ) → IsSentOf sent expected → is_exceeded (left_behind sent size) ≡ false
    → (is_exceeded (left_behind expected size) ≡ false) × IsSentOf (left_behind sent size) (left_behind expected size)
sent_fits sent expected size h fits =
    let on = counts_on expected h.0 size (ap (λ c. is_exceeded (left_behind c size)) (sym h.1) ∙ fits) in
    (on.0, (h.0, ap (λ c. left_behind c size) h.1 ∙ on.1))
