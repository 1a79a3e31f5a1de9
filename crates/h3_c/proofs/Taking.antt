-- Bytes that QUIC took, of a stream of a session or another.
use Rattle.std.proofs.Common.{arith, ◌≡◌, ◌≤◌, ◌<◌, ℕ, true, false, length, refl, inl, inr}
use Rattle.h3_connection.specs.ReadingContracts.{ShowsWaiting}
use Rattle.h3_webtransport.specs.Joint.{has_stream}
use Rattle.h3_webtransport.specs.Ordering.{AdvancesOn}
use Rattle.h3_webtransport.specs.Sending.{raw_waiting}
use Rattle.h3_c.specs.Beside.{TakesBeside}
use Rattle.h3_c.specs.Numbers.{argument, ok}
use Rattle.h3_c.specs.Seen.{Seen}

-- more than wait: nothing changes
pub too_many : (v : Seen) (id count waiting : ℕ) → waiting < count → (has_stream v.sessions id ≡ true → waiting ≡ length (raw_waiting v.sessions id)) → (has_stream v.sessions id ≡ false → ShowsWaiting v.endpoint id waiting)
    → TakesBeside v v id count argument
too_many v id count waiting above own other = record {
  few = λ is fits. let waits = own is in absurd (omega (arith, above, waits, fits));
  many = λ is more. refl;
  other = λ is. record {
    few = λ e h fits. let waits = other is e h in absurd (omega (arith, above, waits, fits));
    many = λ e h more. (refl, refl);
    last = refl;
    events = refl;
  };
  taken = inr (refl, refl);
  last = refl;
  events = refl;
}

-- at most all of them
pub takes : (v w : Seen) (id count waiting : ℕ) → count ≤ waiting → (has_stream v.sessions id ≡ true → waiting ≡ length (raw_waiting v.sessions id)) → (has_stream v.sessions id ≡ false → ShowsWaiting v.endpoint id waiting)
    → AdvancesOn v.endpoint w.endpoint v.sessions w.sessions id count → w.last ≡ v.last → w.events ≡ v.events → TakesBeside v w id count ok
takes v w id count waiting within own other advances last events = record {
  few = λ is fits. refl;
  many = λ is more. let waits = own is in absurd (omega (arith, within, waits, more));
  other = λ is. record {
    few = λ e h fits. (refl, (advances.other is).1);
    many = λ e h more. let waits = other is e h in absurd (omega (arith, within, waits, more));
    last = last;
    events = events;
  };
  taken = inl (refl, advances);
  last = last;
  events = events;
}
