-- Each call is answered by what a request stream sees, or changes nothing of that.
use Rattle.std.proofs.Common.{arith, ◌≡◌, ℕ, Bool, true, false, List, [], ◌∷◌, refl, sym, ◌∙◌, ap, subst}
use Rattle.std.specs.Prelude.{Option, Some, None, ◌==◌, unwrap_or}
use Rattle.std.proofs.lemmas.Grind.{common_steps}
use Rattle.h3_connection.specs.declared.event.Refusal.{Refusal}
use Rattle.h3_connection.specs.StreamSets.{Streams, stream_at, set_stream}
use Rattle.h3_connection.specs.Incoming.{Incoming, nothing_came}
use Rattle.h3_connection.specs.Unidirectional.{Unidirectional, Role, untold, with_bytes}
use Rattle.h3_connection.specs.Unidirectional.Role.{Untold, Control, Encoder, Decoder, Session, Push, Ignored, Other}
use Rattle.h3_connection.specs.Endpoint.{EndpointHistory, limit_of, is_second}
use Rattle.h3_connection.specs.Control.{Found, read_encoder, read_decoder, read_control}
use Rattle.h3_connection.specs.Delivering.{incoming_at, opened_at, opened, taken, only_one, unless_second, heard_as, request_refusal}
use Rattle.h3_connection.specs.Sending.{does}
use Rattle.h3_connection.specs.CallLists.{Call, Result, done}
use Rattle.h3_connection.specs.CallLists.Result.{Done}
use Rattle.h3_connection.specs.Isolation.{Sight, IsSight, StepIsSeen, sees, front_of, with_seen, seen_incoming, unless_refused, hears}
use Rattle.h3_connection.proofs.Quiet.{Quiet, still, shut, quiet_then, quiet_control, quiet_decoder}

pub eq_refl : (n : ℕ) → (n == n) ≡ true
eq_refl n = grind (arith, common_steps)

pub at_same : {X : Type 0} (s : Streams X) (id : ℕ) (x : X) → stream_at (set_stream s id x) id ≡ Some x
at_same [] id x = rw (eq_refl id) refl
at_same ((q, y) ∷ s) id x = grind (arith, common_steps, at_same s id x, eq_refl id)

pub at_other : {X : Type 0} (s : Streams X) (id q : ℕ) (x : X) → (id == q) ≡ false → stream_at (set_stream s id x) q ≡ stream_at s q
at_other [] id q x ne = rw ne refl
at_other ((p, y) ∷ s) id q x ne = grind (arith, common_steps, at_other s id q x ne)

-- a new receiver at this id, and the rest as it was
pub sight_here : (T : ℕ → Bool) (id : ℕ) (e f : EndpointHistory) (s : Sight) (x : Option Incoming)
    → IsSight T id e s → stream_at f.incoming id ≡ x → f.decoding ≡ e.decoding → f.unidirectional ≡ e.unidirectional → IsSight T id f (record s { incoming = x })
sight_here T id e f s x h a b c = record {
  incoming = a;
  decoding = b ∙ h.decoding;
  fronts = λ q t. ap (λ w. front_of (unwrap_or (stream_at w q) untold)) c ∙ h.fronts q t;
}

pub sight_same : (T : ℕ → Bool) (id : ℕ) (e f : EndpointHistory) (s : Sight)
    → IsSight T id e s → stream_at f.incoming id ≡ stream_at e.incoming id → f.decoding ≡ e.decoding → f.unidirectional ≡ e.unidirectional → IsSight T id f s
sight_same T id e f s h a b c = record {
  incoming = a ∙ h.incoming;
  decoding = b ∙ h.decoding;
  fronts = λ q t. ap (λ w. front_of (unwrap_or (stream_at w q) untold)) c ∙ h.fronts q t;
}

pub sight_quiet : (T : ℕ → Bool) (id : ℕ) (e f : EndpointHistory) (s : Sight) → IsSight T id e s → Quiet e f → IsSight T id f s
sight_quiet T id e f s h k = sight_same T id e f s h (ap (λ w. stream_at w id) k.incoming) k.decoding k.unidirectional

-- a call that is not seen
pub unseen : (T : ℕ → Bool) (id : ℕ) (e f : EndpointHistory) (s : Sight) (c : Call) (result : Result) → sees T id e c ≡ false → IsSight T id f s → StepIsSeen T id e f s c result
unseen T id e f s c result blind h = record { seen_one = λ yes. let wrong : true ≡ false = sym yes ∙ blind in cc; other = λ _. h }

pub quiet_does : (r : Option Refusal) (e f : EndpointHistory) → Quiet e f → Quiet e (done Done (does r e f)).1
quiet_does (Some r) e f h = still e
quiet_does None e f h = h

pub unseen_quiet : (T : ℕ → Bool) (id : ℕ) (e f : EndpointHistory) (s : Sight) (c : Call) (result : Result) → sees T id e c ≡ false → IsSight T id e s → Quiet e f → StepIsSeen T id e f s c result
unseen_quiet T id e f s c result blind h k = unseen T id e f s c result blind (sight_quiet T id e f s h k)

-- what opening a stream leaves alone
pub record OpensAt (e f : EndpointHistory) : Type 0 where
  pub side : f.side ≡ e.side
  pub closed : f.closed ≡ e.closed
  pub decoding : f.decoding ≡ e.decoding
  pub unidirectional : f.unidirectional ≡ e.unidirectional

pub opens_at : (e : EndpointHistory) (id : ℕ) (at : Option Incoming) → OpensAt e (opened_at e id at)
opens_at e id (Some i) = record { side = refl; closed = refl; decoding = refl; unidirectional = refl }
opens_at e id None = record { side = refl; closed = refl; decoding = refl; unidirectional = refl }

pub opened_here : (e : EndpointHistory) (id : ℕ) (at : Option Incoming) → stream_at e.incoming id ≡ at → stream_at (opened_at e id at).incoming id ≡ Some (unwrap_or at nothing_came)
opened_here e id (Some i) p = p
opened_here e id None p = at_same e.incoming id nothing_came

pub opened_other : (e : EndpointHistory) (id q : ℕ) (at : Option Incoming) → (id == q) ≡ false → stream_at (opened_at e id at).incoming q ≡ stream_at e.incoming q
opened_other e id q (Some i) ne = refl
opened_other e id q None ne = at_other e.incoming id q nothing_came ne

-- the two outcomes of a delivery to a request stream agree with what is seen
taken_here : (T : ℕ → Bool) (id : ℕ) (r : Option Refusal) (e f : EndpointHistory) (s t : Sight) → IsSight T id e s → IsSight T id f t
    → ((done Done (taken None r e (f, None))).0 ≡ (unless_refused r s t).0) × IsSight T id (done Done (taken None r e (f, None))).1 (unless_refused r s t).1
taken_here T id (Some r) e f s t h k = (refl, h)
taken_here T id None e f s t h k = (refl, k)

-- what came of an arrival on a request stream
pub record Arrived (e f : EndpointHistory) (q : ℕ) (i : Incoming) : Type 0 where
  pub incoming : f.incoming ≡ set_stream (opened e q).incoming q i
  pub decoding : f.decoding ≡ (opened e q).decoding
  pub unidirectional : f.unidirectional ≡ (opened e q).unidirectional

-- what a delivery to the stream itself comes to
pub arrives_here : (T : ℕ → Bool) (id : ℕ) (e f : EndpointHistory) (s : Sight) (change : Incoming → Incoming) → IsSight T id e s
    → Arrived e f id (change (incoming_at e id))
    → ((done Done (taken None (request_refusal e.side (stream_at e.incoming id)) e (f, None))).0 ≡ (unless_refused (request_refusal e.side s.incoming) s (with_seen s (change (seen_incoming s)))).0)
    × IsSight T id (done Done (taken None (request_refusal e.side (stream_at e.incoming id)) e (f, None))).1 (unless_refused (request_refusal e.side s.incoming) s (with_seen s (change (seen_incoming s)))).1
arrives_here T id e f s change h a =
    let at = stream_at e.incoming id in
    let o = opens_at e id at in
    let there : stream_at f.incoming id ≡ Some (change (unwrap_or at nothing_came)) = ap (λ x. stream_at x id) a.incoming ∙ at_same (opened e id).incoming id (change (incoming_at e id)) in
    let k : IsSight T id f (record s { incoming = Some (change (unwrap_or at nothing_came)) }) = sight_here T id e f s _ h there (a.decoding ∙ o.decoding) (a.unidirectional ∙ o.unidirectional) in
    let r = taken_here T id (request_refusal e.side at) e f s (record s { incoming = Some (change (unwrap_or at nothing_came)) }) h k in
    subst (λ x. ((done Done (taken None (request_refusal e.side at) e (f, None))).0 ≡ (unless_refused (request_refusal e.side x) s (with_seen s (change (unwrap_or x nothing_came)))).0)
    × IsSight T id (done Done (taken None (request_refusal e.side at) e (f, None))).1 (unless_refused (request_refusal e.side x) s (with_seen s (change (unwrap_or x nothing_came)))).1) h.incoming r

-- and a delivery to another request stream
pub arrives_other : (T : ℕ → Bool) (id q : ℕ) (r : Option Refusal) (e f : EndpointHistory) (s : Sight) (i : Incoming) → (q == id) ≡ false → IsSight T id e s → Arrived e f q i
    → IsSight T id (done Done (taken None r e (f, None))).1 s
arrives_other T id q (Some r) e f s i ne h a = h
arrives_other T id q None e f s i ne h a =
    let at = stream_at e.incoming q in
    let o = opens_at e q at in
    sight_same T id e f s h (ap (λ x. stream_at x id) a.incoming ∙ at_other (opened e q).incoming q id i ne ∙ opened_other e q id at ne) (a.decoding ∙ o.decoding) (a.unidirectional ∙ o.unidirectional)

-- what bytes for a role leave alone, and what they make of the table
pub record HeardAs (e f : EndpointHistory) (q : ℕ) (heard : Role × List ℕ) : Type 0 where
  pub side : f.side ≡ e.side
  pub announced : f.announced ≡ e.announced
  pub closed : f.closed ≡ e.closed
  pub incoming : f.incoming ≡ e.incoming
  pub unidirectional : f.unidirectional ≡ e.unidirectional
  pub decoding : f.decoding ≡ hears (limit_of e) e.decoding heard

of_quiet : (e f : EndpointHistory) (q : ℕ) (heard : Role × List ℕ) → hears (limit_of e) e.decoding heard ≡ e.decoding → Quiet e f → HeardAs e f q heard
of_quiet e f q heard d k = record { side = k.side; announced = k.announced; closed = k.closed; incoming = k.incoming; unidirectional = k.unidirectional; decoding = k.decoding ∙ sym d }

-- a first stream of its role
first_of_role : (P : EndpointHistory → Type 0) (first : Option ℕ) (id : ℕ) (e : EndpointHistory) (found : Found) → (only_one first id e found).1 ≡ None → P found.0 → P (only_one first id e found).0
first_of_role P first id e found none h = by_second (is_second first id) none
  where
    by_second : (b : Bool) → (unless_second b e found).1 ≡ None → P (unless_second b e found).0
    by_second true p = cc
    by_second false p = h

pub heard_as_role : (e : EndpointHistory) (q : ℕ) (role : Role) (bytes : List ℕ) → (heard_as e q role bytes).1 ≡ None → HeardAs e (heard_as e q role bytes).0 q (role, bytes)
heard_as_role e q (Untold front) bytes p = of_quiet e e q _ refl (still e)
heard_as_role e q Control bytes p =
    let f = record e { control_on = Some q } in
    first_of_role (λ g. HeardAs e g q (Control, bytes)) e.control_on q e (read_control f bytes) p
    (of_quiet e _ q _ refl (quiet_then e f _ (shut e f refl refl refl refl refl refl refl) (quiet_control f bytes)))
heard_as_role e q Encoder bytes p =
    first_of_role (λ g. HeardAs e g q (Encoder, bytes)) e.encoder_on q e (read_encoder (record e { encoder_on = Some q }) bytes) p
    (record { side = refl; announced = refl; closed = refl; incoming = refl; unidirectional = refl; decoding = refl })
heard_as_role e q Decoder bytes p =
    let f = record e { decoder_on = Some q } in
    first_of_role (λ g. HeardAs e g q (Decoder, bytes)) e.decoder_on q e (read_decoder f bytes) p
    (of_quiet e _ q _ refl (quiet_then e f _ (shut e f refl refl refl refl refl refl refl) (quiet_decoder f bytes)))
heard_as_role e q (Session id) bytes p = of_quiet e e q _ refl (still e)
heard_as_role e q (Push id) bytes p = of_quiet e e q _ refl (still e)
heard_as_role e q Ignored bytes p = of_quiet e e q _ refl (still e)
heard_as_role e q (Other kind) bytes p = of_quiet e e q _ refl (still e)

pub role_of_bytes : (o : Unidirectional) (heard : Role × List ℕ) → front_of (with_bytes o heard) ≡ record (front_of o) { role = heard.0 }
role_of_bytes o (Untold front, bytes) = refl
role_of_bytes o (Control, bytes) = refl
role_of_bytes o (Encoder, bytes) = refl
role_of_bytes o (Decoder, bytes) = refl
role_of_bytes o (Session id, bytes) = refl
role_of_bytes o (Push id, bytes) = refl
role_of_bytes o (Ignored, bytes) = refl
role_of_bytes o (Other kind, bytes) = refl
