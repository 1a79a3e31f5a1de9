-- Which stream sends next, of the endpoint's and those of sessions.
use Rattle.std.proofs.Common.{◌≡◌, ℕ, Bool, true, false, Option, Some, None, refl, sym, ap, ◌∙◌, ◌&&◌, is_none, if◌then◌else◌}
use Rattle.h3_connection.specs.EndsWaiting.{ShowsNextToSend}
use Rattle.h3_connection.specs.NextWaiting.{IsLeast}
use Rattle.h3_connection.specs.Prioritizing.{SendsNext}
use Rattle.h3_connection.specs.Shutdown.{ShowsDrained}
use Rattle.h3_connection.specs.State.{EndpointState}
use Rattle.h3_connection.specs.declared.event.Refusal.TheVariants.{NotOpen}
use Rattle.h3_webtransport_streams.specs.Sender.{held}
use Rattle.h3_webtransport_streams.specs.SessionStream.{has_something, passes, sending, takes_turns}
use Rattle.h3_webtransport_streams.specs.Sessions.{IsTurn}
use Rattle.h3_webtransport.specs.Joint.{Joint, stored_at}
use Rattle.h3_webtransport.specs.Ordering.{DrainsOn, HoldsRaw, SendsInTurn, SendsLowest, held_refusal, lower_of, turn_of}
use Rattle.h3_webtransport.specs.Parts.{ActsHere}

-- the lower one
module _ (e : EndpointState) (s : Joint) (start : ℕ) (shown first : Option ℕ) where
  pub lowest_off : s.is_on ≡ false → first ≡ shown → ShowsNextToSend e start shown → SendsLowest e s start first
  lowest_off off is h =
      record {
        first = shown;
        raw = None;
        first_is = h;
        raw_is = λ on. absurd (let never : false ≡ true = sym off ∙ on in cc);
        is = is ∙ sym (ap (λ b. if b then lower_of shown None else shown) off);
      }

  pub lowest_on : (raw result : Option ℕ) → s.is_on ≡ true → first ≡ shown → ShowsNextToSend e start shown → IsLeast (λ id. passes has_something (stored_at s id)) start raw → result ≡ lower_of first raw
      → SendsLowest e s start result
  lowest_on raw result on is h least same =
      record {
        first = shown;
        raw = raw;
        first_is = h;
        raw_is = λ _. least;
        is = same ∙ ap (λ o. lower_of o raw) is ∙ sym (ap (λ b. if b then lower_of shown raw else shown) on);
      }

-- the one whose turn it is
module _ (e f : EndpointState) (s : Joint) (shown first : Option ℕ) where
  pub turn_off : s.is_on ≡ false → first ≡ shown → SendsNext e f shown → SendsInTurn e f s first
  turn_off off is h =
      record {
        first = shown;
        raw = None;
        first_is = h;
        raw_is = λ on. absurd (let never : false ≡ true = sym off ∙ on in cc);
        is = is ∙ sym (ap (λ b. if b then turn_of s.is_next shown None else shown) off);
      }

  pub turn_on : (raw result : Option ℕ) → s.is_on ≡ true → first ≡ shown → SendsNext e f shown → IsTurn (λ id. passes takes_turns (stored_at s id)) s.sessions.from raw → result ≡ turn_of s.is_next first raw
      → SendsInTurn e f s result
  turn_on raw result on is h turn same =
      record {
        first = shown;
        raw = raw;
        first_is = h;
        raw_is = λ _. turn;
        is = same ∙ ap (λ o. turn_of s.is_next o raw) is ∙ sym (ap (λ b. if b then turn_of s.is_next shown raw else shown) on);
      }

-- whether nothing waits
abbrev both_if : Bool → Bool → Option ℕ → Bool
both_if on first raw = if on then first && is_none raw else first

module _ (e : EndpointState) (s : Joint) (first : Bool) where
  pub drains_off : s.is_on ≡ false → ShowsDrained e first → DrainsOn e s first
  drains_off off h =
      record {
        first = first;
        raw = None;
        first_is = h;
        raw_is = λ on. absurd (let never : false ≡ true = sym off ∙ on in cc);
        is = sym (ap (λ b. both_if b first None) off);
      }

  pub drains_on : (raw : Option ℕ) → s.is_on ≡ true → ShowsDrained e first → IsLeast (λ id. passes has_something (stored_at s id)) 0 raw → DrainsOn e s (first && is_none raw)
  drains_on raw on h least =
      record {
        first = first;
        raw = raw;
        first_is = h;
        raw_is = λ _. least;
        is = sym (ap (λ b. both_if b first raw) on);
      }

-- whether it is held
module _ (s t : Joint) (id : ℕ) (is_held there : Bool) where
  pub holds_there : there ≡ true → ActsHere false (sending false (λ x. (true, held x is_held))) s t id there → HoldsRaw s t id is_held None
  holds_there is acts = record { there = there; acts = acts; is = sym (ap held_refusal is) }

  pub holds_absent : there ≡ false → ActsHere false (sending false (λ x. (true, held x is_held))) s t id there → HoldsRaw s t id is_held (Some NotOpen)
  holds_absent is acts = record { there = there; acts = acts; is = sym (ap held_refusal is) }
