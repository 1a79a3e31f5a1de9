-- Bytes that go from a writer to a reader.
use Rattle.std.proofs.Common.{◌≡◌, ◌≤◌, ◌<◌, ℕ, List, Bool, true, false, Option, Some, None, take, length, refl, ap, sym, subst, ◌∙◌, arith}
use Rattle.std.proofs.lemmas.Grind.{common_steps}
use Rattle.std.specs.Prelude.{nat_lt, ◌==◌, min, Result, Ok, Err}
use Rattle.h3_connection.specs.Answers.{delivery_refused, lacks_memory}
use Rattle.h3_connection.specs.Endpoint.{EndpointHistory, bytes_waiting}
use Rattle.h3_connection.specs.Keeping.{arrives}
use Rattle.h3_connection.specs.ReadingContracts.{ShowsOutgoing, ShowsWaiting, ShowsFinished, ShowsReset}
use Rattle.h3_connection.specs.ReceivingContracts.{Delivers, DeliversEnd, DeliversReset}
use Rattle.h3_connection.specs.Sending as sender
use Rattle.h3_connection.specs.SendingContracts.{Advances}
use Rattle.h3_connection.specs.Shown.{has_outgoing, waiting, is_finished, is_reset}
use Rattle.h3_connection.specs.State.{EndpointState, StandsFor}
use Rattle.h3_connection.specs.declared.arrival.Arrival.TheVariants.{BytesCame, EndCame, ResetCame}
use Rattle.h3_connection.specs.declared.event.DeliverError.{DeliverError}
use Rattle.h3_connection.specs.declared.event.DeliverError.TheVariants as deliver_error
use Rattle.h3_connection.specs.declared.event.Refusal.{Refusal}
use Rattle.h3_world.specs.Headline.{is_out_of_memory}
use Rattle.h3_world.specs.declared.event.Answer.{Answer}
use Rattle.h3_world.specs.declared.event.Answer.TheVariants as answer
use Rattle.h3_session.specs.Acting.{HasBytes, HasEnd, HasReset, Offers}
use Rattle.h3_session.specs.Running.{Carried, Carries, answer_of, told_answer, told, is_stored, bytes_taken, bytes_go, end_goes, reset_goes}
use Rattle.h3_world.specs.Delivering.{reset_code}

abbrev Handed : EndpointState → EndpointState → Answer → Carried → Type 0
Handed writer reader given c = (given ≡ c.given) × StandsFor writer c.writer × StandsFor reader c.reader

-- Of the bytes that wait on the stream so many were offered, these; unless memory was refused.
abbrev HandsOver : EndpointState → EndpointState → ℕ → ℕ → List ℕ → Answer → EndpointState → EndpointState → Type 0
HandsOver writer reader id count bytes given writer_after reader_after =
    (w r : EndpointHistory) → StandsFor writer w → StandsFor reader r → count ≤ waiting w id → is_out_of_memory given ≡ false →
    Handed writer_after reader_after given (bytes_taken w r id count (arrives r (BytesCame id bytes)))

-- the bytes were taken
taken_by : (w r after : EndpointHistory) (id count : ℕ) (writer reader : EndpointState) → StandsFor writer (sender.advance w id count) → StandsFor reader after
    → (x : Option Refusal × EndpointHistory) → None ≡ x.0 → x.1 ≡ after → Handed writer reader (answer.Delivered count) (bytes_taken w r id count x)
taken_by w r after id count writer reader hw hr x none is =
    subst (λ o. Handed writer reader (answer.Delivered count) (bytes_taken w r id count (o, x.1))) none
    (refl, hw, subst (StandsFor reader) (sym is) hr)

handed : (writer writer_after reader reader_after : EndpointState) (id count : ℕ) (bytes : List ℕ) → Delivers reader reader_after id bytes (Ok tt) → Advances writer writer_after id count
    → HandsOver writer reader id count bytes (answer.Delivered count) writer_after reader_after
handed writer writer_after reader reader_after id count bytes delivers advances w r hw hr fits not_memory =
    let x = delivers.receives.done r hr refl in
    let all : min count (length (bytes_waiting w id)) ≡ count = omega (arith, fits) in
    taken_by w r (arrives r (BytesCame id bytes)).1 id count writer_after reader_after (subst (λ n. StandsFor writer_after (sender.advance w id n)) all (advances w hw)) x.1
    (arrives r (BytesCame id bytes)) x.0 refl

-- the bytes were refused
refused_by : (w r : EndpointHistory) (id count : ℕ) (writer reader : EndpointState) (why : Refusal) → StandsFor writer w
    → (x : Option Refusal × EndpointHistory) → Some why ≡ x.0 → StandsFor reader x.1 → Handed writer reader (answer.Refused why) (bytes_taken w r id count x)
refused_by w r id count writer reader why hw x some hr =
    subst (λ o. Handed writer reader (answer.Refused why) (bytes_taken w r id count (o, x.1))) some (refl, hw, hr)

-- What becomes of bytes that are offered.
hands_by : (writer writer_after reader reader_after : EndpointState) (id count : ℕ) (bytes : List ℕ) (result : Result Unit DeliverError) → Delivers reader reader_after id bytes result
    → (is_stored result ≡ true → Advances writer writer_after id count) → (is_stored result ≡ false → writer_after ≡ writer)
    → HandsOver writer reader id count bytes (answer_of (answer.Delivered count) (delivery_refused result)) writer_after reader_after
hands_by writer writer_after reader reader_after id count bytes (Ok done) delivers taken left w r hw hr fits not_memory = handed writer writer_after reader reader_after id count bytes delivers (taken refl) w r hw hr fits not_memory
hands_by writer writer_after reader reader_after id count bytes (Err (deliver_error.Refused why)) delivers taken left w r hw hr fits not_memory =
    let x = delivers.receives.done r hr refl in
    refused_by w r id count writer_after reader_after why (subst (λ s. StandsFor s w) (sym (left refl)) hw) (arrives r (BytesCame id bytes)) x.0 x.1
hands_by writer writer_after reader reader_after id count bytes (Err (deliver_error.OutOfMemory back)) delivers taken left w r hw hr fits not_memory = absurd (cc)
hands_by writer writer_after reader reader_after id count bytes (Err deliver_error.Kept) delivers taken left w r hw hr fits not_memory = absurd (cc)

hands_over : (writer writer_after reader reader_after : EndpointState) (id count : ℕ) (bytes : List ℕ) (given : Answer) → Offers id count bytes writer reader given writer_after reader_after
    → HandsOver writer reader id count bytes given writer_after reader_after
hands_over writer writer_after reader reader_after id count bytes given offers =
    subst (λ a. HandsOver writer reader id count bytes a writer_after reader_after) (sym offers.given_is)
    (hands_by writer writer_after reader reader_after id count bytes offers.result offers.delivers offers.taken offers.left)

-- An end or a reset.
told_by : (w : EndpointHistory) (writer reader : EndpointState) (result : Result Unit DeliverError) (x : Option Refusal × EndpointHistory) → StandsFor writer w → delivery_refused result ≡ x.0 → StandsFor reader x.1
    → Handed writer reader (told_answer result) (told w x)
told_by w writer reader result x hw is hr =
    subst (λ o. Handed writer reader (answer_of answer.Done (delivery_refused result)) (told w (o, x.1))) is (by (delivery_refused result))
  where
    by : (o : Option Refusal) → Handed writer reader (answer_of answer.Done o) (told w (o, x.1))
    by None = (refl, hw, hr)
    by (Some r) = (refl, hw, hr)

clear : (result : Result Unit DeliverError) → is_out_of_memory (told_answer result) ≡ false → lacks_memory result ≡ false
clear (Ok done) h = refl
clear (Err (deliver_error.Refused r)) h = refl
clear (Err (deliver_error.OutOfMemory bytes)) h = absurd (cc)
clear (Err deliver_error.Kept) h = absurd (cc)

pub end_told : (writer reader reader_after : EndpointState) (id : ℕ) (result : Result Unit DeliverError) (given : Answer) (has finished : Bool) (count : ℕ) → ShowsOutgoing writer id has → has ≡ true → ShowsFinished writer id finished → finished ≡ true
    → ShowsWaiting writer id count → count ≡ 0 → DeliversEnd reader reader_after id result → given ≡ told_answer result → Carries (λ w r. end_goes w r id) writer reader given writer reader_after
end_told writer reader reader_after id result given has finished count shows_has there shows_finished ended shows_waiting none delivers same w r hw hr not_memory =
    let has_is : has_outgoing w id ≡ true = sym (shows_has w hw) ∙ there in
    let finished_is : is_finished w id ≡ true = sym (shows_finished w hw) ∙ ended in
    let none_waits : waiting w id ≡ 0 = sym (shows_waiting w hw) ∙ none in
    let x = delivers.receives.done r hr (clear result (subst (λ a. is_out_of_memory a ≡ false) same not_memory)) in
    let handed = told_by w writer reader_after result (arrives r (EndCame id)) hw x.0 x.1 in
    rw (has_is, finished_is, none_waits) (subst (λ a. Handed writer reader_after a (told w (arrives r (EndCame id)))) (sym same) handed)

pub reset_told : (writer reader reader_after : EndpointState) (id : ℕ) (result : Result Unit DeliverError) (given : Answer) (has was : Bool) → ShowsOutgoing writer id has → has ≡ true → ShowsReset writer id was → was ≡ true
    → DeliversReset reader reader_after id reset_code result → given ≡ told_answer result → Carries (λ w r. reset_goes w r id) writer reader given writer reader_after
reset_told writer reader reader_after id result given has was shows_has there shows_reset reset delivers same w r hw hr not_memory =
    let has_is : has_outgoing w id ≡ true = sym (shows_has w hw) ∙ there in
    let was_is : is_reset w id ≡ true = sym (shows_reset w hw) ∙ reset in
    let x = delivers.receives.done r hr (clear result (subst (λ a. is_out_of_memory a ≡ false) same not_memory)) in
    let handed = told_by w writer reader_after result (arrives r (ResetCame id reset_code)) hw x.0 x.1 in
    rw (has_is, was_is) (subst (λ a. Handed writer reader_after a (told w (arrives r (ResetCame id reset_code)))) (sym same) handed)

pub end_unfinished : (writer reader : EndpointState) (id : ℕ) (has finished : Bool) → ShowsOutgoing writer id has → has ≡ true → ShowsFinished writer id finished → finished ≡ false
    → Carries (λ w r. end_goes w r id) writer reader answer.Early writer reader
end_unfinished writer reader id has finished shows_has there shows_finished not_yet w r hw hr not_memory =
    let has_is : has_outgoing w id ≡ true = sym (shows_has w hw) ∙ there in
    let finished_is : is_finished w id ≡ false = sym (shows_finished w hw) ∙ not_yet in
    rw (has_is, finished_is) (refl, hw, hr)

pub reset_unset : (writer reader : EndpointState) (id : ℕ) (has was : Bool) → ShowsOutgoing writer id has → has ≡ true → ShowsReset writer id was → was ≡ false
    → Carries (λ w r. reset_goes w r id) writer reader answer.Early writer reader
reset_unset writer reader id has was shows_has there shows_reset not_yet w r hw hr not_memory =
    let has_is : has_outgoing w id ≡ true = sym (shows_has w hw) ∙ there in
    let was_is : is_reset w id ≡ false = sym (shows_reset w hw) ∙ not_yet in
    rw (has_is, was_is) (refl, hw, hr)

some_waits : (n : ℕ) → 0 < n → (n == 0) ≡ false
some_waits n h = grind (arith, common_steps, h)

pub end_waits : (writer reader : EndpointState) (id : ℕ) (has finished : Bool) (count : ℕ) → ShowsOutgoing writer id has → has ≡ true → ShowsFinished writer id finished → finished ≡ true → ShowsWaiting writer id count → 0 < count
    → Carries (λ w r. end_goes w r id) writer reader answer.Early writer reader
end_waits writer reader id has finished count shows_has there shows_finished ended shows_waiting some w r hw hr not_memory =
    let has_is : has_outgoing w id ≡ true = sym (shows_has w hw) ∙ there in
    let finished_is : is_finished w id ≡ true = sym (shows_finished w hw) ∙ ended in
    let waits : (waiting w id == 0) ≡ false = some_waits (waiting w id) (subst (λ n. 0 < n) (shows_waiting w hw) some) in
    rw (has_is, finished_is, waits) (refl, hw, hr)

fewer : (n m : ℕ) → n < m → nat_lt n m ≡ true
fewer n m h = grind (arith, common_steps, h)

not_fewer : (n m : ℕ) → m ≤ n → nat_lt n m ≡ false
not_fewer n m h = grind (arith, common_steps, h)

-- bytes of which fewer wait
pub too_few : (writer reader : EndpointState) (id count waits : ℕ) (has : Bool) → ShowsOutgoing writer id has → has ≡ true → ShowsWaiting writer id waits → waits < count
    → Carries (λ w r. bytes_go w r id count) writer reader (answer.Short waits) writer reader
too_few writer reader id count waits has shows_has there shows_waiting few w r hw hr not_memory =
    let has_is : has_outgoing w id ≡ true = sym (shows_has w hw) ∙ there in
    let is : waits ≡ waiting w id = shows_waiting w hw in
    let short : nat_lt (waiting w id) count ≡ true = fewer (waiting w id) count (subst (λ n. n < count) is few) in
    rw (has_is, short) (ap answer.Short is, hw, hr)

pub goes_over : (writer writer_after reader reader_after : EndpointState) (id count waits : ℕ) (has : Bool) (bytes : List ℕ) (given : Answer) → ShowsOutgoing writer id has → has ≡ true → ShowsWaiting writer id waits → count ≤ waits
    → ((w : EndpointHistory) → StandsFor writer w → bytes ≡ take count (bytes_waiting w id)) → Offers id count bytes writer reader given writer_after reader_after
    → Carries (λ w r. bytes_go w r id count) writer reader given writer_after reader_after
goes_over writer writer_after reader reader_after id count waits has bytes given shows_has there shows_waiting enough front offers w r hw hr not_memory =
    let has_is : has_outgoing w id ≡ true = sym (shows_has w hw) ∙ there in
    let fits : count ≤ waiting w id = subst (λ n. count ≤ n) (shows_waiting w hw) enough in
    let all : nat_lt (waiting w id) count ≡ false = not_fewer (waiting w id) count fits in
    let x = hands_over writer writer_after reader reader_after id count bytes given offers w r hw hr fits not_memory in
    let over : Handed writer_after reader_after given (bytes_taken w r id count (arrives r (BytesCame id (take count (bytes_waiting w id))))) =
    subst (λ l. Handed writer_after reader_after given (bytes_taken w r id count (arrives r (BytesCame id l)))) (front w hw) x in
    rw (has_is, all) over

-- what goes over is there
pub bytes_are_there : (writer : EndpointState) (id count waits : ℕ) (has : Bool) → ShowsOutgoing writer id has → has ≡ true → ShowsWaiting writer id waits → count ≤ waits → (w : EndpointHistory) → StandsFor writer w → HasBytes id count w
bytes_are_there writer id count waits has shows_has there shows_waiting enough w hw = (sym (shows_has w hw) ∙ there, subst (λ n. count ≤ n) (shows_waiting w hw) enough)

pub end_is_there : (writer : EndpointState) (id count : ℕ) (finished : Bool) → ShowsFinished writer id finished → finished ≡ true → ShowsWaiting writer id count → count ≡ 0 → (w : EndpointHistory) → StandsFor writer w → HasEnd id w
end_is_there writer id count finished shows_finished ended shows_waiting none w hw = (sym (shows_finished w hw) ∙ ended, sym (shows_waiting w hw) ∙ none)

pub reset_is_there : (writer : EndpointState) (id : ℕ) (was : Bool) → ShowsReset writer id was → was ≡ true → (w : EndpointHistory) → StandsFor writer w → HasReset id w
reset_is_there writer id was shows_reset reset w hw = sym (shows_reset w hw) ∙ reset
