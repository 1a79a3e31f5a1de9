-- A send that is refused as malformed sends nothing, and hands out nothing.
use Rattle.std.proofs.Common.{◌≡◌, ℕ, Bool, true, false, if◌then◌else◌, List, [], refl, ap}
use Rattle.std.specs.Prelude.{◌&&◌}
use Rattle.h3_proto.specs.declared.stream.Side.{Side}
use Rattle.h3_connection.specs.declared.event.Refusal.{Refusal}
use Rattle.h3_connection.specs.declared.event.Refusal.TheVariants as refusal
use Rattle.h3_connection.specs.declared.event.Malformation.{Malformation}
use Rattle.h3_headline.specs.Messages.{MessageContent, ended_in, finished_in, pulled_in, sent_in}
use Rattle.h3_world.specs.declared.event.Answer.{Answer}
use Rattle.h3_world.specs.declared.event.Answer.TheVariants as answer
use Rattle.h3_world.specs.declared.event.Event.{Event}
use Rattle.h3_world.specs.declared.event.Event.TheVariants as event
use Rattle.h3_strict.specs.PlainEnds.{is_malformed_refusal}
use Rattle.h3_strict.specs.Plainly.{is_malformed}

-- such an answer
malformed_is : (r : Refusal) → is_malformed r ≡ true → (why : Malformation) × (r ≡ refusal.Malformed why)
malformed_is (refusal.Malformed why) is = (why, refl)
malformed_is _ is = absurd (cc)

pub refused_is : (a : Answer) → is_malformed_refusal a ≡ true → (why : Malformation) × (a ≡ answer.Refused (refusal.Malformed why))
refused_is (answer.Refused r) is = let m = malformed_is r is in (m.0, ap answer.Refused m.1)
refused_is _ is = absurd (cc)

-- what is refused sends nothing and hands out nothing
module _ (r : Refusal) where
  pub sends_none : (side : Side) (id : ℕ) (e : Event) → sent_in side id e (answer.Refused r) ≡ []
  sends_none side id (event.Head acting i head) = refl
  sends_none side id (event.Body acting i bytes) = refl
  sends_none side id (event.Trailer acting i trailer) = refl
  sends_none side id (event.Fields acting i fields) = refl
  sends_none side id (event.TrailerFields acting i fields) = refl
  sends_none side id _ = refl

  pub finishes_none : (side : Side) (id : ℕ) (e : Event) → finished_in side id e (answer.Refused r) ≡ false
  finishes_none side id (event.Finish acting i) = refl
  finishes_none side id _ = refl

  none_if : (b : Bool) → (if b then [] else []) ≡ (let none : List MessageContent = [] in none)
  none_if true = refl
  none_if false = refl

  pub pulls_none : (side : Side) (id : ℕ) (e : Event) → pulled_in side id e (answer.Refused r) ≡ []
  pulls_none side id (event.Pull acting i) = none_if _
  pulls_none side id (event.PullFields acting i) = none_if _
  pulls_none side id _ = refl

  not_both : (b : Bool) → (b && false) ≡ false
  not_both true = refl
  not_both false = refl

  pub ends_none : (side : Side) (id : ℕ) (e : Event) → ended_in side id e (answer.Refused r) ≡ false
  ends_none side id (event.Pull acting i) = not_both _
  ends_none side id (event.PullFields acting i) = not_both _
  ends_none side id _ = refl
