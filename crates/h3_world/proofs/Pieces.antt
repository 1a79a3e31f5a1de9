-- A flow stays sound when more of it is delivered, and when an exact pull waits.
use Rattle.std.proofs.Common.{◌≡◌, ◌⊎◌, inl, inr, ℕ, ◌+◌, ◌≤◌, Bool, true, false, length, refl, sym, ap, ◌∙◌, arith, nat_lt, if◌then◌else◌, Option, Some, None}
use Rattle.std.proofs.lemmas.Grind.{common_steps}
use Rattle.h3_connection.specs.declared.event.Pull.{Pull}
use Rattle.h3_connection.specs.declared.event.Pull.TheVariants as pull
use Rattle.h3_world.specs.Flow.{Flow, Part, Section, flow_bytes}
use Rattle.h3_world.specs.Flow.Part.{Interim, Head, Body, Trailer, End}
use Rattle.h3_world.specs.World.{Party}
use Rattle.h3_world.specs.Order.{next_part}
use Rattle.std.specs.Prelude.{◌==◌}
use Rattle.h3_world.specs.Items.{body_there}
use Rattle.h3_world.specs.Pauses.{section_pause, pause_before}
use Rattle.h3_world.specs.Sound.{WaitsBefore, WaitsForNext, OutOfNext, IsSoundFlow}

abbrev pub come : Flow → ℕ → Flow
come f count = record f { delivered = f.delivered + count; seen = true }

waits_on : (f : Flow) (count : ℕ) (o : Option Part) → WaitsForNext f o → WaitsForNext (come f count) o
waits_on f count None h = h
waits_on f count (Some (Interim s)) h = (h.0, omega (arith, h.1))
waits_on f count (Some (Head s)) h = (h.0, omega (arith, h.1))
waits_on f count (Some (Trailer s)) h = (h.0, omega (arith, h.1))
waits_on f count (Some (Body bytes own)) h = h
waits_on f count (Some End) h = h

out_on : (f : Flow) (count : ℕ) (o : Option Part) → OutOfNext f o → OutOfNext (come f count) o
out_on f count None h = h
out_on f count (Some (Interim s)) h = h
out_on f count (Some (Head s)) h = h
out_on f count (Some (Trailer s)) h = h
out_on f count (Some (Body bytes own)) h = (h.0, omega (arith, h.1))
out_on f count (Some End) h = h

differ : true ≡ false → ⊥
differ h = grind (arith, common_steps, h)

-- a delivery on a stream whose end has not come
pub delivered_kept : (p : Party) (f : Flow) (count : ℕ) → IsSoundFlow p f → f.delivered + count ≤ length (flow_bytes f) → f.ended ≡ false → IsSoundFlow p (come f count)
delivered_kept p f count sound fits goes_on =
    record {
      sent = sound.sent;
      delivered = fits;
      out = sound.out;
      out_delivered = omega (arith, sound.out_delivered);
      body_out = by_out sound.body_out;
      waits = by_waits sound.waits;
      ended = λ e. absurd (differ (sym e ∙ goes_on));
      reset_came = sound.reset_came;
      unseen = λ e. absurd (differ e);
    }
  where
    by_out : (f.body_out ≡ 0) ⊎ OutOfNext f (next_part f) → (f.body_out ≡ 0) ⊎ OutOfNext (come f count) (next_part f)
    by_out (inl e) = inl e
    by_out (inr h) = inr (out_on f count (next_part f) h)

    by_waits : (f.waits_for ≡ 0) ⊎ WaitsForNext f (next_part f) → (f.waits_for ≡ 0) ⊎ WaitsForNext (come f count) (next_part f)
    by_waits (inl e) = inl e
    by_waits (inr h) = inr (waits_on f count (next_part f) h)

abbrev pub waiting_for : Flow → ℕ → Flow
waiting_for f count = record f { waits_for = count }

-- the count is that of the section that is next, whose own bytes came
pub paused_kept : (p : Party) (f : Flow) (count : ℕ) → IsSoundFlow p f → (count ≡ 0) ⊎ WaitsForNext (waiting_for f count) (next_part f) → IsSoundFlow p (waiting_for f count)
paused_kept p f count sound waits =
    record {
      sent = sound.sent;
      delivered = sound.delivered;
      out = sound.out;
      out_delivered = sound.out_delivered;
      body_out = by_out sound.body_out;
      waits = waits;
      ended = sound.ended;
      reset_came = sound.reset_came;
      unseen = sound.unseen;
    }
  where
    same : (o : Option Part) → OutOfNext f o → OutOfNext (waiting_for f count) o
    same None h = h
    same (Some (Interim s)) h = h
    same (Some (Head s)) h = h
    same (Some (Trailer s)) h = h
    same (Some (Body bytes own)) h = h
    same (Some End) h = h

    by_out : (f.body_out ≡ 0) ⊎ OutOfNext f (next_part f) → (f.body_out ≡ 0) ⊎ OutOfNext (waiting_for f count) (next_part f)
    by_out (inl e) = inl e
    by_out (inr h) = inr (same (next_part f) h)

-- An exact pull that waits for a count waits so.
section_waits : (f : Flow) (came count : ℕ) (s : Section) → section_pause f came s ≡ Some (pull.Waiting count) → WaitsBefore (waiting_for f count) s
section_waits f came count s e = by_own (nat_lt f.delivered s.own_length) refl (nat_lt came s.count) e
  where
    by_own : (a : Bool) → nat_lt f.delivered s.own_length ≡ a → (b : Bool) → ◌≡◌ {A = Option Pull} (if a then Some pull.Pending else (if b then Some (pull.Waiting s.count) else None)) (Some (pull.Waiting count))
        → WaitsBefore (waiting_for f count) s
    by_own true t b h = cc
    by_own false t false h = cc
    by_own false t true h = (sym (ap count_of h), grind (arith, common_steps, t))
      where
        count_of : Option Pull → ℕ
        count_of (Some (pull.Waiting n)) = n
        count_of _ = 0

pub exact_waits : (f : Flow) (came count : ℕ) (o : Option Part) → pause_before f came o ≡ Some (pull.Waiting count) → WaitsForNext (waiting_for f count) o
exact_waits f came count None e = cc
exact_waits f came count (Some (Interim s)) e = section_waits f came count s e
exact_waits f came count (Some (Head s)) e = section_waits f came count s e
exact_waits f came count (Some (Trailer s)) e = section_waits f came count s e
exact_waits f came count (Some (Body bytes own)) e = by_there (body_there f bytes own == 0) e
  where
    by_there : (b : Bool) → ◌≡◌ {A = Option Pull} (if b then Some pull.Pending else None) (Some (pull.Waiting count)) → ⊥
    by_there true h = cc
    by_there false h = cc
exact_waits f came count (Some End) e = by_end f.ended e
  where
    by_end : (b : Bool) → ◌≡◌ {A = Option Pull} (if b then None else Some pull.Pending) (Some (pull.Waiting count)) → ⊥
    by_end true h = cc
    by_end false h = cc
