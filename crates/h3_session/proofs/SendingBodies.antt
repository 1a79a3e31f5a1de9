-- What a body that is sent does to what is stored.
use Rattle.std.proofs.Common.{◌≡◌, ℕ, ◌+◌, Bool, true, false, List, [], ◌∷◌, length, Option, Some, None, Result, Ok, Err, refl, ap, sym, subst, ◌∙◌}
use Rattle.std.specs.Prelude.{not, IfSome, OnOk, OnErr, IfErr, unwrap_or}
use Rattle.h3_outgoing.specs.HistoryLaws.{body_appended}
use Rattle.std.proofs.lemmas.List.{length-replicate}
use Rattle.h3_outgoing.specs.Held.{held}
use Rattle.h3_outgoing.specs.Sent as sent
use Rattle.h3_connection.specs.Calls.{Sets, AllSame}
use Rattle.h3_connection.specs.Endpoint.{EndpointHistory}
use Rattle.h3_connection.specs.Outgoing.{OwnBody, with_body}
use Rattle.h3_connection.specs.Refusals.{first_of, wrong_length}
use Rattle.h3_connection.specs.Sending.{closed_or, counted, outgoing_at, sent_bytes, body_refusal, send_body}
use Rattle.h3_connection.specs.SendingContracts.{SendsBody}
use Rattle.h3_connection.specs.StandsLaws.{stands_sending}
use Rattle.h3_connection.specs.State.{EndpointState, RequestState, StandsFor, kept_at}
use Rattle.h3_connection.specs.StreamSets.{Streams}
use Rattle.h3_connection.specs.StrictSending.{passes_content}
use Rattle.h3_connection.specs.declared.event.Refusal.{Refusal}
use Rattle.h3_connection.specs.declared.event.Refusal.TheVariants as refusal
use Rattle.h3_session.proofs.Opened.{stands_same}
use Rattle.h3_requests.specs.Refused.{data_refused_at}
use Rattle.h3_session.specs.Held.{SendsBodyOf}
use Rattle.h3_session.specs.Refused.{body_refused}
use Rattle.h3_session.proofs.Parts.{in_body, body_stays}
use Rattle.h3_session.proofs.SendingCalls.{sender_of, refuses, acts, alike, lacks, all_same}
use Rattle.h3_session.proofs.SendingRefusals.{body_refusal_is, body_takes_none}
use Rattle.h3_session.proofs.SendingStands.{counted_stands}

-- the stream is there, and takes a body
abbrev pub TakesBody : Option RequestState → Type 0
TakesBody None = ⊥
TakesBody (Some r) = sent.takes_body r.outgoing ≡ true

not_refused : (b : Bool) (r : Refusal) (rules : List (Bool × Refusal)) → first_of ((not b, r) ∷ rules) ≡ None → b ≡ true
not_refused true r rules h = refl
not_refused false r rules h = absurd (cc)

body_allowed : (closed : Option ℕ) (there : Option RequestState) (size : ℕ) → closed_or closed (data_refused_at there size) ≡ None → TakesBody there
body_allowed (Some code) there size h = absurd (cc)
body_allowed None None size h = absurd (cc)
body_allowed None (Some r) size h = not_refused (sent.takes_body r.outgoing) refusal.OutOfOrder (wrong_length (passes_content r.outgoing.content size) ∷ []) h

-- a body behind the parts of a stream
stands_with : (s : EndpointState) (new : Streams RequestState) (id : ℕ) (bytes : List ℕ) (there : Option RequestState) → kept_at s.requests id ≡ there → TakesBody there
    → IfSome there (λ r. Sets s.requests new id (record r { outgoing = sent.has_body r.outgoing bytes }))
    → (e : EndpointHistory) → StandsFor s e → StandsFor (record s { requests = new }) (sent_bytes e id bytes)
stands_with s new id bytes None was takes sets e h = absurd takes
stands_with s new id [] (Some r) was takes sets e h = stands_same s e new h (all_same s.requests new id r was sets)
stands_with s new id (byte ∷ bytes) (Some r) was takes sets e h =
    let o = outgoing_at e id in
    let is = sender_of s e id r h was in
    let here = in_body o r.outgoing is takes in
    stands_sending s e new id r (record r { outgoing = sent.has_body r.outgoing (byte ∷ bytes) }) (with_body o (byte ∷ bytes)) h was refl
    (body_appended o r.outgoing (byte ∷ bytes) is here.here (body_stays o r.outgoing (OwnBody (byte ∷ bytes)) is here refl refl)) sets

handed_back : (r : Refusal) (bytes : List ℕ) (again : Refusal) (handed : List ℕ) → ◌≡◌ {A = Result Unit (Refusal × List ℕ)} (Err (r, bytes)) (Err (again, handed)) → handed ≡ bytes
handed_back r bytes again handed same =
    let pair : ◌≡◌ {A = Refusal × List ℕ} (r, bytes) (again, handed) = cc in
    sym (ap (λ p. p.1) pair)

body_refuses : (s : EndpointState) (id : ℕ) (bytes : List ℕ) (r : Refusal) → body_refused s id (length bytes) ≡ Some r → SendsBody s s id bytes (Err (r, bytes))
body_refuses s id bytes r is =
    record {
      sends = refuses (λ e. body_refusal e id (length bytes)) (λ e. counted (sent_bytes e id bytes) (length bytes)) s r (λ e h. sym (body_refusal_is s e id (length bytes) h) ∙ is) (λ memory. body_takes_none s id (length bytes) (is ∙ ap Some memory));
      back = handed_back r bytes;
    }

body_lacks : (s : EndpointState) (id : ℕ) (bytes : List ℕ) → body_refused s id (length bytes) ≡ None → SendsBody s s id bytes (Err (refusal.OutOfMemory, bytes))
body_lacks s id bytes is =
    record {
      sends = lacks (λ e. body_refusal e id (length bytes)) (λ e. counted (sent_bytes e id bytes) (length bytes)) s (λ e h. sym (body_refusal_is s e id (length bytes) h) ∙ is);
      back = handed_back refusal.OutOfMemory bytes;
    }

-- what refuses it, and else want of memory
body_refused_by : (s : EndpointState) (id : ℕ) (bytes : List ℕ) (rule : Option Refusal) → body_refused s id (length bytes) ≡ rule → SendsBody s s id bytes (Err (unwrap_or rule refusal.OutOfMemory, bytes))
body_refused_by s id bytes (Some r) is = body_refuses s id bytes r is
body_refused_by s id bytes None is = body_lacks s id bytes is

-- what refuses it on its stream
abbrev data_refused : EndpointState → ℕ → List ℕ → Option Refusal
data_refused s id bytes = data_refused_at (kept_at s.requests id) (length bytes)

still_open : (s : EndpointState) (id : ℕ) (bytes : List ℕ) → s.closed ≡ None → body_refused s id (length bytes) ≡ data_refused s id bytes
still_open s id bytes closed = ap (λ c. closed_or c (data_refused s id bytes)) closed

pub body_closed : (s : EndpointState) (id : ℕ) (bytes : List ℕ) (code : ℕ) → s.closed ≡ Some code → SendsBody s s id bytes (Err (refusal.Closed code, bytes))
body_closed s id bytes code closed = body_refuses s id bytes (refusal.Closed code) (ap (λ c. closed_or c (data_refused s id bytes)) closed)

pub body_uncounted : (s : EndpointState) (id : ℕ) (bytes : List ℕ) (size : ℕ) (r : Refusal) → s.closed ≡ None → size ≡ length bytes
    → r ≡ unwrap_or (data_refused_at (kept_at s.requests id) size) refusal.OutOfMemory → SendsBody s s id bytes (Err (r, bytes))
body_uncounted s id bytes size r closed same is =
    let so : r ≡ unwrap_or (data_refused s id bytes) refusal.OutOfMemory = is ∙ ap (λ n. unwrap_or (data_refused_at (kept_at s.requests id) n) refusal.OutOfMemory) same in
    subst (λ r. SendsBody s s id bytes (Err (r, bytes))) (sym so) (body_refused_by s id bytes (data_refused s id bytes) (still_open s id bytes closed))

sends_here : (s : EndpointState) (new : Streams RequestState) (id : ℕ) (bytes : List ℕ) → IfSome (kept_at s.requests id) (λ r. Sets s.requests new id (record r { outgoing = sent.has_body r.outgoing bytes })) → body_refused s id (length bytes) ≡ None
    → SendsBody s (record s { requests = new; sent = s.sent + length bytes + 64 }) id bytes (Ok tt)
sends_here s new id bytes sets is =
    record {
      sends = acts (λ e. body_refusal e id (length bytes)) (λ e. counted (sent_bytes e id bytes) (length bytes)) s (record s { requests = new; sent = s.sent + length bytes + 64 })
          (λ e h. sym (body_refusal_is s e id (length bytes) h) ∙ is)
          (λ e h. counted_stands (record s { requests = new }) (sent_bytes e id bytes) (length bytes) (stands_with s new id bytes (kept_at s.requests id) refl (body_allowed s.closed (kept_at s.requests id) (length bytes) is) sets e h));
      back = λ r again never. absurd (cc);
    }

body_alike : (s : EndpointState) (new : Streams RequestState) (id : ℕ) (bytes : List ℕ) (r : Refusal) → AllSame s.requests new
    → SendsBody s s id bytes (Err (r, bytes)) → SendsBody s (record s { requests = new }) id bytes (Err (r, bytes))
body_alike s new id bytes r same h = record { sends = alike (λ e. send_body e id bytes) s new r same h.sends; back = handed_back r bytes }

sends_total : (s : EndpointState) (new : Streams RequestState) (id : ℕ) (bytes : List ℕ) (total : ℕ) → body_refused s id (length bytes) ≡ None
    → IfSome (kept_at s.requests id) (λ r. Sets s.requests new id (record r { outgoing = sent.has_body r.outgoing bytes })) → total ≡ s.sent + length bytes + 64
    → SendsBody s (record s { requests = new; sent = total }) id bytes (Ok tt)
sends_total s new id bytes total is sets sum = subst (λ n. SendsBody s (record s { requests = new; sent = n }) id bytes (Ok tt)) (sym sum) (sends_here s new id bytes sets is)

-- the body that was handed over, or the first refusal with it
pub sends_body : (s n : EndpointState) (id : ℕ) (bytes : List ℕ) (total : ℕ) (result : Result Unit (Refusal × List ℕ)) → s.closed ≡ None → total ≡ s.sent + length bytes + 64
    → OnOk result (n ≡ record s { requests = n.requests; sent = total }) → OnErr result (n ≡ record s { requests = n.requests })
    → OnOk result (IfSome (kept_at s.requests id) (λ r. Sets s.requests n.requests id (record r { outgoing = sent.has_body r.outgoing bytes })))
    → OnOk result (data_refused_at (kept_at s.requests id) (length bytes) ≡ None)
    → IfErr result (λ e. e.0 ≡ unwrap_or (data_refused_at (kept_at s.requests id) (length bytes)) refusal.OutOfMemory)
    → IfErr result (λ e. (e.1 ≡ bytes) × AllSame s.requests n.requests) → SendsBody s n id bytes result
sends_body s n id bytes total (Ok done) closed sum rest same sets taken why back =
    subst (λ v. SendsBody s v id bytes (Ok tt)) (sym rest) (sends_total s n.requests id bytes total (still_open s id bytes closed ∙ taken) sets sum)
sends_body s n id bytes total (Err (r, handed)) closed sum rest same sets taken why back =
    subst (λ v. SendsBody s v id bytes (Err (r, handed))) (sym same)
    (subst (λ l. SendsBody s (record s { requests = n.requests }) id bytes (Err (r, l))) (sym back.0)
    (body_alike s n.requests id bytes r back.1 (body_uncounted s id bytes (length bytes) r closed refl why)))

-- the same of a body that the caller holds
pub held_closed : (s : EndpointState) (id len code : ℕ) → s.closed ≡ Some code → SendsBodyOf s s id len (Err (refusal.Closed code))
held_closed s id len code closed = (body_closed s id (held len) code closed).sends

pub held_uncounted : (s : EndpointState) (id len : ℕ) (r : Refusal) → s.closed ≡ None → r ≡ unwrap_or (data_refused_at (kept_at s.requests id) len) refusal.OutOfMemory → SendsBodyOf s s id len (Err r)
held_uncounted s id len r closed is = (body_uncounted s id (held len) len r closed (sym (length-replicate len 256)) is).sends

pub sends_held : (s n : EndpointState) (id len total : ℕ) (result : Result Unit Refusal) → s.closed ≡ None → total ≡ s.sent + len + 64
    → OnOk result (n ≡ record s { requests = n.requests; sent = total }) → OnErr result (n ≡ record s { requests = n.requests })
    → OnOk result (IfSome (kept_at s.requests id) (λ r. Sets s.requests n.requests id (record r { outgoing = sent.has_body r.outgoing (held len) })))
    → OnOk result (data_refused_at (kept_at s.requests id) len ≡ None)
    → IfErr result (λ r. r ≡ unwrap_or (data_refused_at (kept_at s.requests id) len) refusal.OutOfMemory)
    → OnErr result (AllSame s.requests n.requests) → SendsBodyOf s n id len result
sends_held s n id len total (Ok done) closed sum rest same sets taken why back =
    let size : len ≡ length (held len) = sym (length-replicate len 256) in
    (sends_body s n id (held len) total (Ok done) closed (sum ∙ ap (λ k. s.sent + k + 64) size) rest same sets (subst (λ k. data_refused_at (kept_at s.requests id) k ≡ None) size taken) why back).sends
sends_held s n id len total (Err r) closed sum rest same sets taken why back =
    let size : len ≡ length (held len) = sym (length-replicate len 256) in
    (sends_body s n id (held len) total (Err (r, held len)) closed (sum ∙ ap (λ k. s.sent + k + 64) size) rest same sets taken
    (why ∙ ap (λ k. unwrap_or (data_refused_at (kept_at s.requests id) k) refusal.OutOfMemory) size) (refl, back)).sends
