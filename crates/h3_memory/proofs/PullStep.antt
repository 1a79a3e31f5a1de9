-- **A pull is a step of the world, with anything kept at either side and memory refused or not.**
use Rattle.std.proofs.Common.{◌≡◌, ℕ, Bool, true, false, refl, sym, subst}
use Rattle.h3_proto.specs.declared.stream.Side.{Side}
use Rattle.h3_connection.specs.OwnIds.{other}
use Rattle.h3_world.specs.declared.event.Event.TheVariants as event
use Rattle.h3_world.specs.declared.event.Answer.{Answer}
use Rattle.h3_world.specs.Ends.{Ends, end_at}
use Rattle.h3_world.specs.Headline.{is_out_of_memory}
use Rattle.h3_world.specs.Setup.{IsMadeSetup, JudgesPlainly, Setup}
use Rattle.h3_world.specs.Step.{IsExact}
use Rattle.h3_headline.specs.Cited.{Laws}
use Rattle.h3_memory.specs.Kept.{KeepingWorld, kept_at, caught_up, is_settled}
use Rattle.h3_memory.specs.Keeping.{StandsKeeping}
use Rattle.h3_memory.specs.MemoryStep.{Answers, StepOf, UnlessMemory}
use Rattle.h3_memory.specs.Refused as refused
use Rattle.h3_memory.specs.Theorem.{StandsOn, StepsOn}
use Rattle.h3_memory.proofs.CatchesUp.{reading_of}
use Rattle.h3_memory.proofs.KeptArrivals.{Notices}
use Rattle.h3_memory.proofs.KeptLaws.{KeptLaws}
use Rattle.h3_memory.proofs.ListedPull.{listed_answered}
use Rattle.h3_memory.proofs.PartRuns.{ReadsFramesOn, part_read_on}
use Rattle.h3_memory.proofs.RefusedPull.{HandsNothing, loses_nothing}
use Rattle.h3_memory.proofs.SendingEvents.{TellsMemory, Lacks, IsKept, PullLacks, ListLacks, tells_memory}
use Rattle.h3_memory.proofs.SettledPull.{PullAnswered, settled_answered}
use Rattle.h3_memory.proofs.UnsettledPull.{unsettled_answered, unsettled_lists}

pull_answered : (qpack : KeptLaws) (laws : Laws) (setup : Setup) (made : IsMadeSetup setup) (plain : JudgesPlainly setup) (k : KeepingWorld) (ends : Ends) (h : StandsKeeping setup k ends) (side : Side) (id : ℕ)
    → PullAnswered setup k ends side (event.Pull side id)
pull_answered qpack laws setup made plain k ends h side id = by_settled (is_settled k.world side id) refl
  where
    by_settled : (b : Bool) → is_settled k.world side id ≡ b → PullAnswered setup k ends side (event.Pull side id)
    by_settled true e = settled_answered laws setup made plain k ends h side id e
    by_settled false e = unsettled_answered qpack laws setup made plain k ends h side id e

nothing_handed : (qpack : KeptLaws) (laws : Laws) (setup : Setup) (made : IsMadeSetup setup) (frames : ReadsFramesOn setup) (notices : Notices setup) (k : KeepingWorld) (ends new : Ends) (h : StandsKeeping setup k ends) (side : Side) (id : ℕ)
    → refused.LosesNothing ends side id new → HandsNothing setup k side id new
nothing_handed qpack laws setup made frames notices k ends new h side id l =
    let p = part_read_on qpack laws setup made frames k.world side (kept_at k (other side)) (kept_at k side) (end_at ends (other side)) l.read (reading_of setup k ends side h) in
    loses_nothing setup k ends new h side id notices l p

pub pull_step : (qpack : KeptLaws) (laws : Laws) (setup : Setup) (made : IsMadeSetup setup) (plain : JudgesPlainly setup) (frames : ReadsFramesOn setup) (notices : Notices setup) (side : Side) (id : ℕ) → StepsOn setup (event.Pull side id)
pull_step qpack laws setup made plain frames notices side id k ends new a sendable h s = by_test (is_out_of_memory a) refl s
  where
    refused_memory : (a : Answer) → TellsMemory a → is_out_of_memory a ≡ true → refused.LacksMemory ends (event.Pull side id) a new → StandsOn setup k (event.Pull side id) a new
    refused_memory a Lacks m l = absurd l
    refused_memory a IsKept m l = absurd l
    refused_memory a ListLacks m l = absurd l
    refused_memory a PullLacks m l =
        let x = nothing_handed qpack laws setup made frames notices k ends new h side id l in
        record { new = x.next; step = x.hands; exact = tt; stands = x.stands }

    by_test : (b : Bool) → is_out_of_memory a ≡ b → refused.AnswerOf b ends (event.Pull side id) a new → StandsOn setup k (event.Pull side id) a new
    by_test false m s =
        let p = pull_answered qpack laws setup made plain k ends h side id in
        record {
          new = p.new;
          step = subst (λ b. StepOf b setup k (event.Pull side id) a p.new) (sym m) (subst (λ x. Answers setup k (event.Pull side id) x p.new) (sym s.0) p.step);
          exact = subst (λ b. UnlessMemory b (IsExact (caught_up setup k side) (event.Pull side id) a)) (sym m) (subst (IsExact (caught_up setup k side) (event.Pull side id)) (sym s.0) p.exact);
          stands = subst (StandsKeeping setup p.new) (sym s.1) p.stands;
        }
    by_test true m s = refused_memory a (tells_memory a m) m s

-- **And so is one with lists.**
pub listed_step : (qpack : KeptLaws) (laws : Laws) (setup : Setup) (made : IsMadeSetup setup) (plain : JudgesPlainly setup) (frames : ReadsFramesOn setup) (notices : Notices setup) (side : Side) (id : ℕ) → StepsOn setup (event.PullFields side id)
listed_step qpack laws setup made plain frames notices side id k ends new a sendable h s = by_test (is_out_of_memory a) refl s
  where
    refused_memory : (a : Answer) → TellsMemory a → is_out_of_memory a ≡ true → refused.LacksMemory ends (event.PullFields side id) a new → StandsOn setup k (event.PullFields side id) a new
    refused_memory a Lacks m l = absurd l
    refused_memory a IsKept m l = absurd l
    refused_memory a PullLacks m l = absurd l
    refused_memory a ListLacks m l =
        let x = nothing_handed qpack laws setup made frames notices k ends new h side id l in
        record { new = x.next; step = x.hands; exact = tt; stands = x.stands }

    by_test : (b : Bool) → is_out_of_memory a ≡ b → refused.AnswerOf b ends (event.PullFields side id) a new → StandsOn setup k (event.PullFields side id) a new
    by_test false m s =
        let p = listed_answered setup k ends side id (unsettled_lists qpack laws setup made plain k ends h side id) (pull_answered qpack laws setup made plain k ends h side id) in
        record {
          new = p.new;
          step = subst (λ b. StepOf b setup k (event.PullFields side id) a p.new) (sym m) (subst (λ x. Answers setup k (event.PullFields side id) x p.new) (sym s.0) p.step);
          exact = subst (λ b. UnlessMemory b (IsExact (caught_up setup k side) (event.PullFields side id) a)) (sym m) (subst (IsExact (caught_up setup k side) (event.PullFields side id)) (sym s.0) p.exact);
          stands = subst (StandsKeeping setup p.new) (sym s.1) p.stands;
        }
    by_test true m s = refused_memory a (tells_memory a m) m s
