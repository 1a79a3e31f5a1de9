-- What is told of streams of sessions, where there is no memory for C's bytes.
use Rattle.std.proofs.Common.{arith, ◌≡◌, ℕ, ◌<◌, Bool, true, false, if◌then◌else◌, List, [], Option, Some, None, refl, ap, ◌∙◌}
use Rattle.std.specs.Prelude.{◌^◌, Ok, Err, unwrap_or}
use Rattle.h3_connection.specs.declared.event.Refusal.{Refusal}
use Rattle.h3_connection.specs.declared.event.Refusal.TheVariants as refusal
use Rattle.h3_webtransport.specs.Joint.{stored_at}
use Rattle.h3_webtransport.specs.Opening.{OpensOn}
use Rattle.h3_webtransport.specs.Sending.{raw_refusal}
use Rattle.h3_webtransport.specs.declared.opening.OpenError.{OpenError}
use Rattle.h3_webtransport_streams.specs.Sender.{Sender, goes_on, sent}
use Rattle.h3_webtransport_streams.specs.SessionStream.{SessionStream, on_sender}
use Rattle.h3_c.specs.Numbers.{ok, open_told, told_or_memory}
use Rattle.h3_c.specs.Seen.{Seen}
use Rattle.h3_c.specs.Sessions.{OpensStreamOf, SendsRawOn}
use Rattle.h3_c.specs.declared.numbers.Told.{Told}
use Rattle.h3_c.proofs.Uncut.{told_same}

-- it does not depend on the bytes whether they are refused
chosen : {A : Type 0} (b : Bool) (refused : Option Refusal) (p q r : A) → (let x : Option Refusal × A = if b then (None, p) else (refused, r) in x).0 ≡ (let x : Option Refusal × A = if b then (None, q) else (refused, r) in x).0
chosen true refused p q r = refl
chosen false refused p q r = refl

at_sender : (s : SessionStream) (o : Option Sender) (a b : List ℕ) → (on_sender (Some refusal.NotOpen) (λ x. sent x a) s o).0 ≡ (on_sender (Some refusal.NotOpen) (λ x. sent x b) s o).0
at_sender s None a b = refl
at_sender s (Some x) a b = chosen (goes_on x) (Some refusal.OutOfOrder) _ _ x

any_bytes : (closed : Option ℕ) (there : Option SessionStream) (a b : List ℕ) → raw_refusal closed there a ≡ raw_refusal closed there b
any_bytes (Some code) there a b = refl
any_bytes None None a b = refl
any_bytes None (Some s) a b = at_sender s s.sender a b

pub raw_lacks : (v : Seen) (id stream : ℕ) (bytes : List ℕ) (o : Option Refusal) (n : Told) → stream ≡ id → id < 2 ^ 62 → o ≡ raw_refusal v.endpoint.closed (stored_at v.sessions stream) []
    → n ≡ told_or_memory o → SendsRawOn v v id bytes n
raw_lacks v id stream bytes o n same below is told =
    let why : o ≡ raw_refusal v.endpoint.closed (stored_at v.sessions id) bytes =
    is ∙ ap (λ i. raw_refusal v.endpoint.closed (stored_at v.sessions i) []) same ∙ any_bytes v.endpoint.closed (stored_at v.sessions id) [] bytes in
    record {
      known = λ _. record {
        answer = Err (unwrap_or o refusal.OutOfMemory, bytes);
        is = told ∙ told_same o;
        done = ((ap (λ r. unwrap_or r refusal.OutOfMemory) why, refl, λ q. refl, refl), refl);
        last = refl;
        events = refl;
      };
      unknown = λ above. absurd (omega (arith, below, above));
    }

-- a stream of a session is opened, or refused
module _ (v w : Seen) (session : ℕ) (both : Bool) (n : Told) (before : ℕ) where
  pub opens_it : (opened after : ℕ) → OpensOn v.endpoint w.endpoint v.sessions w.sessions session both (Ok opened) → n ≡ ok → after ≡ opened → w.last ≡ v.last → w.events ≡ v.events
      → OpensStreamOf v w session both n before after
  opens_it opened after opens is same last events = record { answer = Ok opened; opens = opens; gives = (is, same); last = last; events = events }

  pub opens_not : (error : OpenError) → OpensOn v.endpoint w.endpoint v.sessions w.sessions session both (Err error) → n ≡ open_told error → w.last ≡ v.last → w.events ≡ v.events
      → OpensStreamOf v w session both n before before
  opens_not error opens is last events = record { answer = Err error; opens = opens; gives = (is, refl); last = last; events = events }
