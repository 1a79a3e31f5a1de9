-- What a pull of a request stream comes to, by the flow that it receives.
use Rattle.std.proofs.Common.{◌≡◌, true, false, ap, Option, None, ℕ, List, drop, sym, subst, ◌∙◌}
use Rattle.std.specs.Prelude.{is_some}
use Rattle.h3_connection.specs.declared.event.StreamFault.{StreamFault}
use Rattle.std.specs.List.{flat_map}
use Rattle.h3_world.specs.Flow.{Flow, Part, part_bytes}
use Rattle.h3_connection.specs.Incoming.{Incoming}
use Rattle.h3_world.specs.Order.{is_over}
use Rattle.h3_headline.specs.Pulling.{GoesOn}
use Rattle.h3_headline.specs.Standing.{ReadsFlow, ReceivesFlow, StandsBefore}

pub none_some : (o : Option StreamFault) → o ≡ None → is_some o ≡ true → ⊥
none_some o e h = let n : is_some o ≡ false = ap is_some e in absurd (cc)

-- what a receiver in front of a part keeps
pub stands_at : (f : Flow) (n : ℕ) (part : Option Part) (left : List ℕ) → n ≡ 0 → f.body_out ≡ 0 → left ≡ flat_map part_bytes (drop f.parts_out f.sent) → StandsBefore f n part left
stands_at f n part left zero_left out is = subst (λ m. StandsBefore f m part left) (sym zero_left) (out, is)

-- A receiver after a pull, for a flow of which nothing else changed.
pub receives_on : (f g : Flow) (i j : Incoming) → GoesOn f i → g.fault ≡ f.fault → g.ended ≡ f.ended → g.reset_came ≡ f.reset_came → j.fault ≡ i.fault → j.ended ≡ i.ended → j.was_reset ≡ i.was_reset
    → j.is_over ≡ is_over g → j.waits_for ≡ g.waits_for → ReadsFlow g j → ReceivesFlow g j
receives_on f g i j on fault ended reset same_fault same_ended same_reset over waits reads =
    record {
      fault = same_fault ∙ on.fault ∙ sym (fault ∙ on.alive);
      ended = same_ended ∙ on.ended ∙ sym ended;
      was_reset = same_reset ∙ on.was_reset ∙ sym reset;
      is_over = over;
      waits_for = waits;
      reads = λ alive. reads;
      given_up = λ lost. absurd (none_some g.fault (fault ∙ on.alive) lost);
    }
