-- A pull of one of two endpoints that was refused memory.
use Rattle.std.proofs.Common.{◌≡◌, ◌⊎◌, inl, inr, ℕ, [], true, false, refl, ap, sym, subst}
use Rattle.h3_proto.specs.declared.stream.Side.{Side}
use Rattle.h3_connection.specs.Delivering.{with_incoming}
use Rattle.h3_connection.specs.Endpoint.{EndpointHistory}
use Rattle.h3_connection.specs.PartReading.{ReadsPart, StandsAsked}
use Rattle.h3_connection.specs.Keeping.{settles, unkept}
use Rattle.h3_connection.specs.ReceivingContracts.{PullsNext}
use Rattle.h3_connection.specs.State.{EndpointState, StandsFor}
use Rattle.h3_connection.specs.declared.event.Fault.TheVariants as fault
use Rattle.h3_connection.specs.declared.event.Pull.{Pull}
use Rattle.h3_connection.specs.declared.event.Pull.TheVariants as pull
use Rattle.h3_connection.specs.Lists.{pull_of}
use Rattle.h3_connection.specs.declared.lists.ListPull.{ListPull}
use Rattle.h3_connection.specs.declared.lists.ListPull.TheVariants as list
use Rattle.h3_world.specs.Ends.{Ends, end_at, with_end}
use Rattle.h3_world.specs.Headline.{is_out_of_memory}
use Rattle.h3_world.specs.declared.event.Answer.{Answer}
use Rattle.h3_world.specs.declared.event.Answer.TheVariants as answer
use Rattle.h3_world.specs.declared.event.Event.TheVariants as event
use Rattle.h3_memory.specs.Refused.{IsAsked, LosesNothing}
use Rattle.h3_session.specs.Acting.{PullsList, Tells}
use Rattle.h3_session.proofs.MemorySends.{OneLacks, end_with, tells_lacks}

-- what stands then, whether the answer has headers or lists
record Loses (ends : Ends) (side : Side) (id : ℕ) (new : EndpointState) : Type 0 where
  after : EndpointHistory
  stands : StandsFor new after
  lacks : LosesNothing ends side id (with_end ends side after)

module _ (ends : Ends) (side : Side) (id : ℕ) (old new : EndpointState) where
  -- the one answer of a pull that tells of refused memory
  fault_lacks : StandsFor old (end_at ends side) → PullsNext old new id (pull.Fault fault.Memory) → Loses ends side id new
  fault_lacks stands h =
      let loses = h.memory (end_at ends side) stands refl in
      by loses.after loses.read loses.stands
    where
      settled : settles (end_at ends side) id ≡ false
      settled = (h.settled (end_at ends side) stands refl).1

      by : (after : EndpointHistory) → ReadsPart (unkept (end_at ends side)) (end_at ends side).kept after → StandsFor new after ⊎ ((after.kept ≡ []) × StandsAsked new after id)
          → Loses ends side id new
      by after read (inl there) =
          record { after = after; stands = there; lacks = record { unsettled = settled; after = after; read = read; is = inl refl } }
      by after read (inr (none, asked)) =
          let goes_on = with_incoming after id asked.new in
          let is : IsAsked after id goes_on = record { old = asked.old; asked = asked.new; here = asked.here; resumes = asked.resumes; plainly = asked.plainly; counts = asked.counts; is = refl } in
          record {
            after = goes_on;
            stands = asked.stands;
            lacks = record {
              unsettled = settled;
              after = after;
              read = read;
              is = inr (none, subst (IsAsked after id) (sym (end_with ends side goes_on)) is, ap (with_end ends side) (sym (end_with ends side goes_on)));
            };
          }

  pulled_lacks : StandsFor old (end_at ends side) → (p : Pull) → PullsNext old new id p → is_out_of_memory (answer.Pulled p) ≡ true → OneLacks ends side (event.Pull side id) (answer.Pulled p) new
  pulled_lacks stands (pull.Fault fault.Memory) h memory = let x = fault_lacks stands h in record { after = x.after; stands = x.stands; lacks = x.lacks }
  pulled_lacks stands p h memory = absurd (cc)

  pub pull_lacks : (a : Answer) → Tells answer.Pulled (λ s t p. PullsNext s t id p) old new a → StandsFor old (end_at ends side) → is_out_of_memory a ≡ true → OneLacks ends side (event.Pull side id) a new
  pull_lacks a h stands memory = tells_lacks answer.Pulled (λ s t p. PullsNext s t id p) ends side (event.Pull side id) old new a h memory (pulled_lacks stands)

  listed_lacks : StandsFor old (end_at ends side) → (l : ListPull) → PullsNext old new id (pull_of l) → is_out_of_memory (answer.Listed l) ≡ true → OneLacks ends side (event.PullFields side id) (answer.Listed l) new
  listed_lacks stands (list.Fault fault.Memory) h memory = let x = fault_lacks stands h in record { after = x.after; stands = x.stands; lacks = x.lacks }
  listed_lacks stands l h memory = absurd (cc)

  pub lists_lack : (a : Answer) → Tells answer.Listed (λ s t l. PullsList s t id l) old new a → StandsFor old (end_at ends side) → is_out_of_memory a ≡ true → OneLacks ends side (event.PullFields side id) a new
  lists_lack a h stands memory = tells_lacks answer.Listed (λ s t l. PullsList s t id l) ends side (event.PullFields side id) old new a h memory (λ l called. listed_lacks stands l called.pulls)
