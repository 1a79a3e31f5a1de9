-- Deliveries to the peer's unidirectional streams, as a request stream sees them.
use Rattle.std.proofs.Common.{arith, ◌≡◌, ℕ, Bool, true, false, List, [], ◌∷◌, refl, sym, ◌∙◌, ap, subst}
use Rattle.std.specs.Prelude.{Option, Some, None, if◌then◌else◌, ◌==◌, unwrap_or}
use Rattle.std.proofs.lemmas.Grind.{common_steps}
use Rattle.h3_connection.specs.StreamSets.{stream_at, set_stream}
use Rattle.h3_connection.specs.Unidirectional.{Unidirectional, Role, untold, is_closed, role_after, with_bytes, pull_unidirectional, raw, raw_or_reset, pull_other, pull_session, if_over}
use Rattle.h3_connection.specs.Unidirectional.Role.{Untold, Control, Encoder, Decoder, Session, Push, Ignored, Other}
use Rattle.h3_connection.specs.Endpoint.{EndpointHistory, limit_of}
use Rattle.h3_connection.specs.Control.{Found}
use Rattle.h3_connection.specs.Delivering.{unidirectional_at, with_unidirectional, taken, closed_refusal, closing, read_unidirectional}
use Rattle.h3_connection.specs.CallLists.{done}
use Rattle.h3_connection.specs.CallLists.Result.{Done}
use Rattle.h3_connection.specs.Isolation.{Front, Sight, IsSight, AreEncoders, front_of, unless_refused, hears, with_front, seen_encoder_bytes, seen_encoder_closing}
use Rattle.h3_connection.proofs.Seen.{at_same, at_other, HeardAs, heard_as_role, role_of_bytes}
use Rattle.h3_connection.specs.StrictConnection.{known_streams}

pub to_eq : (a b : ℕ) → (a == b) ≡ true → a ≡ b
to_eq a b h = grind (arith, common_steps)

pub by_eq : (a b : ℕ) (P : Bool → Type 0) → (a ≡ b → P true) → ((a == b) ≡ false → P false) → P (a == b)
by_eq a b P same differs = go (a == b) refl
  where
    go : (x : Bool) → (a == b) ≡ x → P x
    go true h = same (to_eq a b h)
    go false h = differs h

-- the front of each stream, once one of them is set
fronts_set : (T : ℕ → Bool) (id : ℕ) (e f : EndpointHistory) (s : Sight) (q : ℕ) (o : Unidirectional) (g : Front) → IsSight T id e s
    → f.unidirectional ≡ set_stream e.unidirectional q o → front_of o ≡ g
    → (p : ℕ) → T p ≡ true → front_of (unidirectional_at f p) ≡ (if p == q then g else s.fronts p)
fronts_set T id e f s q o g h w is_g p t =
    let there : front_of (unidirectional_at f p) ≡ front_of (unwrap_or (stream_at (set_stream e.unidirectional q o) p) untold) = ap (λ x. front_of (unwrap_or (stream_at x p) untold)) w in
    by_eq p q (λ b. front_of (unidirectional_at f p) ≡ (if b then g else s.fronts p))
    (λ same. there ∙ (rw (same, at_same e.unidirectional q o) is_g))
    (λ differs. let ne : (q == p) ≡ false = grind (arith, common_steps) in
    there ∙ ap (λ x. front_of (unwrap_or x untold)) (at_other e.unidirectional q p o ne) ∙ h.fronts p t)

-- no stream of the peer's encoder was set
fronts_kept : (T : ℕ → Bool) (id : ℕ) (e f : EndpointHistory) (s : Sight) (q : ℕ) (o : Unidirectional) → IsSight T id e s
    → f.unidirectional ≡ set_stream e.unidirectional q o → T q ≡ false
    → (p : ℕ) → T p ≡ true → front_of (unidirectional_at f p) ≡ s.fronts p
fronts_kept T id e f s q o h w blind p t =
    let there : front_of (unidirectional_at f p) ≡ front_of (unwrap_or (stream_at (set_stream e.unidirectional q o) p) untold) = ap (λ x. front_of (unwrap_or (stream_at x p) untold)) w in
    let ne : (q == p) ≡ false = by_eq q p (λ b. b ≡ false) (λ same. absurd (differ (sym t ∙ ap T (sym same) ∙ blind))) (λ d. refl) in
    there ∙ ap (λ x. front_of (unwrap_or x untold)) (at_other e.unidirectional q p o ne) ∙ h.fronts p t
  where
    differ : true ≡ false → ⊥
    differ x = cc

-- the end after bytes of a peer's unidirectional stream
abbrev After : EndpointHistory → ℕ → List ℕ → Found
After e q bytes = read_unidirectional e q (unidirectional_at e q) (role_after (known_streams e.announced) (unidirectional_at e q).role bytes)

pub heard_bytes : (e : EndpointHistory) (q : ℕ) (o : Unidirectional) (heard : Role × List ℕ) → (read_unidirectional e q o heard).1 ≡ None
    → HeardAs (with_unidirectional e q (with_bytes o heard)) (read_unidirectional e q o heard).0 q heard
heard_bytes e q o (role, bytes) p = heard_as_role (with_unidirectional e q (with_bytes o (role, bytes))) q role bytes p

-- a stream that is seen
pub encoder_bytes_seen : (T : ℕ → Bool) (id : ℕ) (e : EndpointHistory) (s : Sight) (q : ℕ) (bytes : List ℕ) → IsSight T id e s → T q ≡ true
    → let r = done Done (taken None (closed_refusal (is_closed (unidirectional_at e q))) e (After e q bytes)) in
    r.1.closed ≡ None → (r.0 ≡ (seen_encoder_bytes (known_streams e.announced) (limit_of e) s q bytes).0) × IsSight T id r.1 (seen_encoder_bytes (known_streams e.announced) (limit_of e) s q bytes).1
encoder_bytes_seen T id e s q bytes h t = subst (λ g. let r = done Done (taken None (closed_refusal (is_closed (unidirectional_at e q))) e (After e q bytes)) in
    r.1.closed ≡ None → let sg = unless_refused (closed_refusal g.closed) s
    (with_front (record s { decoding = hears (limit_of e) s.decoding (role_after (known_streams e.announced) g.role bytes) }) q (record g { role = (role_after (known_streams e.announced) g.role bytes).0 })) in
    (r.0 ≡ sg.0) × IsSight T id r.1 sg.1) (h.fronts q t) (go (is_closed (unidirectional_at e q)) (After e q bytes) refl)
  where
    o : Unidirectional
    o = unidirectional_at e q

    heard : Role × List ℕ
    heard = role_after (known_streams e.announced) o.role bytes

    new : Sight
    new = with_front (record s { decoding = hears (limit_of e) s.decoding heard }) q (record (front_of o) { role = heard.0 })

    go : (closed : Bool) (found : Found) → found ≡ After e q bytes
        → let r = done Done (taken None (closed_refusal closed) e found) in
        r.1.closed ≡ None → (r.0 ≡ (unless_refused (closed_refusal closed) s new).0) × IsSight T id r.1 (unless_refused (closed_refusal closed) s new).1
    go true found is p = (refl, h)
    go false (f, Some code) is p = cc
    go false (f, None) is p =
        let k = heard_bytes e q o heard (sym (ap (λ x. x.1) is)) in
        let is_f : (After e q bytes).0 ≡ f = sym (ap (λ x. x.0) is) in
        let k' : HeardAs (with_unidirectional e q (with_bytes o heard)) f q heard = subst (λ x. HeardAs (with_unidirectional e q (with_bytes o heard)) x q heard) is_f k in (
          refl,
          record {
            incoming = ap (λ w. stream_at w id) k'.incoming ∙ h.incoming;
            decoding = k'.decoding ∙ ap (λ d. hears (limit_of e) d heard) h.decoding;
            fronts = fronts_set T id e f s q (with_bytes o heard) (record (front_of o) { role = heard.0 }) h k'.unidirectional (role_of_bytes o heard);
          },
        )

hears_only_encoder : (e : EndpointHistory) (q : ℕ) (heard : Role × List ℕ) → (heard.0 ≡ Encoder → ⊥) → hears (limit_of e) e.decoding heard ≡ e.decoding
hears_only_encoder e q (Encoder, bytes) f = absurd (f refl)
hears_only_encoder e q (Untold front, bytes) f = refl
hears_only_encoder e q (Control, bytes) f = refl
hears_only_encoder e q (Decoder, bytes) f = refl
hears_only_encoder e q (Session id, bytes) f = refl
hears_only_encoder e q (Push id, bytes) f = refl
hears_only_encoder e q (Ignored, bytes) f = refl
hears_only_encoder e q (Other kind, bytes) f = refl

true_is_not_false : true ≡ false → ⊥
true_is_not_false x = cc

-- and one that is not
pub one_way_bytes_unseen : (T : ℕ → Bool) (id : ℕ) (e : EndpointHistory) (s : Sight) (q : ℕ) (bytes : List ℕ) → IsSight T id e s → T q ≡ false
    → let r = done Done (taken None (closed_refusal (is_closed (unidirectional_at e q))) e (After e q bytes)) in
    r.1.closed ≡ None → AreEncoders T r.1 → IsSight T id r.1 s
one_way_bytes_unseen T id e s q bytes h blind = go (is_closed (unidirectional_at e q)) (After e q bytes) refl
  where
    o : Unidirectional
    o = unidirectional_at e q

    heard : Role × List ℕ
    heard = role_after (known_streams e.announced) o.role bytes

    go : (closed : Bool) (found : Found) → found ≡ After e q bytes
        → let r = done Done (taken None (closed_refusal closed) e found) in r.1.closed ≡ None → AreEncoders T r.1 → IsSight T id r.1 s
    go true found is p a = h
    go false (f, Some code) is p a = cc
    go false (f, None) is p a =
        let k = heard_bytes e q o heard (sym (ap (λ x. x.1) is)) in
        let is_f : (After e q bytes).0 ≡ f = sym (ap (λ x. x.0) is) in
        let k' : HeardAs (with_unidirectional e q (with_bytes o heard)) f q heard = subst (λ x. HeardAs (with_unidirectional e q (with_bytes o heard)) x q heard) is_f k in
        let there : unidirectional_at f q ≡ with_bytes o heard = ap (λ w. unwrap_or (stream_at w q) untold) k'.unidirectional ∙ ap (λ x. unwrap_or x untold) (at_same e.unidirectional q (with_bytes o heard)) in
        let role : (unidirectional_at f q).role ≡ heard.0 = ap (λ x. x.role) there ∙ ap (λ g. g.role) (role_of_bytes o heard) in
        let d : hears (limit_of e) e.decoding heard ≡ e.decoding = hears_only_encoder e q heard (λ is_encoder. true_is_not_false (sym (a q (role ∙ is_encoder)) ∙ blind)) in
        record {
          incoming = ap (λ w. stream_at w id) k'.incoming ∙ h.incoming;
          decoding = k'.decoding ∙ d ∙ h.decoding;
          fronts = fronts_kept T id e f s q (with_bytes o heard) h k'.unidirectional blind;
        }

-- Ends and resets of unidirectional streams: the stream is closed by them.
pub closing_seen : (T : ℕ → Bool) (id : ℕ) (e : EndpointHistory) (s : Sight) (q : ℕ) (o : Unidirectional) → IsSight T id e s → T q ≡ true
    → front_of o ≡ record (front_of (unidirectional_at e q)) { closed = true }
    → let r = done Done (taken None (closed_refusal (is_closed (unidirectional_at e q))) e (closing e q o)) in
    r.1.closed ≡ None → (r.0 ≡ (seen_encoder_closing s q).0) × IsSight T id r.1 (seen_encoder_closing s q).1
closing_seen T id e s q o h t is_o = subst (λ g. let r = done Done (taken None (closed_refusal (is_closed (unidirectional_at e q))) e (closing e q o)) in
    r.1.closed ≡ None → let sg = unless_refused (closed_refusal g.closed) s (with_front s q (record g { closed = true })) in
    (r.0 ≡ sg.0) × IsSight T id r.1 sg.1) (h.fronts q t) (go (is_closed (unidirectional_at e q)) (closing e q o) refl)
  where
    new : Sight
    new = with_front s q (record (front_of (unidirectional_at e q)) { closed = true })

    go : (closed : Bool) (found : Found) → found ≡ closing e q o
        → let r = done Done (taken None (closed_refusal closed) e found) in
        r.1.closed ≡ None → (r.0 ≡ (unless_refused (closed_refusal closed) s new).0) × IsSight T id r.1 (unless_refused (closed_refusal closed) s new).1
    go true found is p = (refl, h)
    go false (f, Some code) is p = cc
    go false (f, None) is p =
        let is_f : f ≡ with_unidirectional e q o = ap (λ x. x.0) is in (
          refl,
          record {
            incoming = ap (λ x. stream_at x.incoming id) is_f ∙ h.incoming;
            decoding = ap (λ x. x.decoding) is_f ∙ h.decoding;
            fronts = fronts_set T id e f s q o (record (front_of (unidirectional_at e q)) { closed = true }) h (ap (λ x. x.unidirectional) is_f) is_o;
          },
        )

pub closing_unseen : (T : ℕ → Bool) (id : ℕ) (e : EndpointHistory) (s : Sight) (q : ℕ) (o : Unidirectional) → IsSight T id e s → T q ≡ false
    → let r = done Done (taken None (closed_refusal (is_closed (unidirectional_at e q))) e (closing e q o)) in
    r.1.closed ≡ None → IsSight T id r.1 s
closing_unseen T id e s q o h blind = go (is_closed (unidirectional_at e q)) (closing e q o) refl
  where
    go : (closed : Bool) (found : Found) → found ≡ closing e q o
        → let r = done Done (taken None (closed_refusal closed) e found) in r.1.closed ≡ None → IsSight T id r.1 s
    go true found is p = h
    go false (f, Some code) is p = cc
    go false (f, None) is p =
        let is_f : f ≡ with_unidirectional e q o = ap (λ x. x.0) is in
        record {
          incoming = ap (λ x. stream_at x.incoming id) is_f ∙ h.incoming;
          decoding = ap (λ x. x.decoding) is_f ∙ h.decoding;
          fronts = fronts_kept T id e f s q o h (ap (λ x. x.unidirectional) is_f) blind;
        }

-- A pull leaves role and closing alone.
raw_front : (o : Unidirectional) (pieces : List (List ℕ)) → front_of (raw o pieces).1 ≡ front_of o
raw_front o [] = go o.ended
  where
    go : (b : Bool) → front_of (raw (record o { ended = b }) []).1 ≡ front_of (record o { ended = b })
    go true = refl
    go false = refl
raw_front o (piece ∷ pieces) = refl

told_front : (o : Unidirectional) (id : ℕ) (told : Bool) → o.is_told ≡ told → front_of (pull_session id o None).1 ≡ front_of o
told_front o id told is = go o.is_told
  where
    go : (b : Bool) → front_of (pull_session id (record o { is_told = b }) None).1 ≡ front_of (record o { is_told = b })
    go true = raw_front (record o { is_told = true }) o.unread
    go false = refl

session_front : (o : Unidirectional) (id : ℕ) (code : Option ℕ) → front_of (pull_session id o code).1 ≡ front_of o
session_front o id (Some code) = refl
session_front o id None = told_front o id o.is_told refl

over_front : (o : Unidirectional) (id : ℕ) (over : Bool) → front_of (if_over over o id).1 ≡ front_of o
over_front o id true = refl
over_front o id false = session_front o id o.reset_code

code_front : (o : Unidirectional) (code : Option ℕ) → front_of (raw_or_reset o code).1 ≡ front_of o
code_front o (Some code) = refl
code_front o None = raw_front o o.unread

other_front : (o : Unidirectional) (over : Bool) → front_of (pull_other over o).1 ≡ front_of o
other_front o true = refl
other_front o false = code_front o o.reset_code

pub pull_front : (o : Unidirectional) (role : Role) → front_of (pull_unidirectional o role).1 ≡ front_of o
pull_front o (Untold front) = refl
pull_front o Control = refl
pull_front o Encoder = refl
pull_front o Decoder = refl
pull_front o (Session id) = over_front o id o.is_over
pull_front o (Push id) = refl
pull_front o Ignored = refl
pull_front o (Other kind) = other_front o o.is_over

-- A pull of a unidirectional stream is not seen.
pub pulled_front : (T : ℕ → Bool) (id : ℕ) (e : EndpointHistory) (s : Sight) (q : ℕ) (o new : Unidirectional) → IsSight T id e s
    → stream_at e.unidirectional q ≡ Some o → front_of new ≡ front_of o → IsSight T id (with_unidirectional e q new) s
pulled_front T id e s q o new h at is_same = record {
  incoming = h.incoming;
  decoding = h.decoding;
  fronts = λ p t. by_eq q p (λ b. front_of (unidirectional_at (with_unidirectional e q new) p) ≡ s.fronts p)
      (λ same. ap (λ x. front_of (unidirectional_at (with_unidirectional e q new) x)) (sym same)
      ∙ ap (λ x. front_of (unwrap_or x untold)) (at_same e.unidirectional q new) ∙ is_same
      ∙ sym (ap (λ x. front_of (unwrap_or x untold)) at) ∙ ap (λ x. front_of (unidirectional_at e x)) same ∙ h.fronts p t)
      (λ differs. ap (λ x. front_of (unwrap_or x untold)) (at_other e.unidirectional q p new differs) ∙ h.fronts p t);
}
