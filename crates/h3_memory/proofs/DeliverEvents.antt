-- **Deliveries, with anything kept at either side and memory refused or not**: each is answered by a step of the world, and both endpoints stand in the
-- world that it leads to.
use Rattle.std.proofs.Common.{◌≡◌, ℕ, Bool, true, false, refl, sym, subst}
use Rattle.h3_proto.specs.declared.stream.Side.{Side}
use Rattle.h3_proto.specs.declared.stream.Side.TheVariants.{Client, Server}
use Rattle.h3_connection.specs.declared.event.Refusal.TheVariants as refusal
use Rattle.h3_world.specs.declared.event.Answer.TheVariants as answer
use Rattle.h3_world.specs.declared.event.Event.TheVariants as event
use Rattle.h3_world.specs.Ends.{Ends}
use Rattle.h3_world.specs.Headline.{is_out_of_memory}
use Rattle.h3_world.specs.Setup.{IsMadeSetup, Setup}
use Rattle.h3_headline.specs.Cited.{Laws}
use Rattle.h3_headline.specs.ComingLaws.{kind_is}
use Rattle.h3_memory.specs.Kept.{End, Reset, KeepingWorld, noticed_all}
use Rattle.h3_memory.specs.Keeping.{StandsKeeping, came_of, text_of}
use Rattle.h3_memory.specs.Refused.{AnswerOf, LacksMemory}
use Rattle.h3_memory.specs.Theorem.{StandsOn, StepsOn}
use Rattle.h3_memory.proofs.CatchesUp.{keeping_so, reading_of}
use Rattle.h3_memory.proofs.DeliverSteps.{bytes_agree, end_agrees, plain_bytes, plain_end, plain_reset, reset_agrees}
use Rattle.h3_memory.proofs.KeptArrivals.{EndOffered, KeptBytes, KeptSo, Notices, ResetOffered, bytes_kept, end_kept, end_offered, none_kept, reset_kept, reset_offered}
use Rattle.h3_memory.proofs.KeptLaws.{KeptLaws}
use Rattle.h3_memory.proofs.MemoryAnswers.{LacksIt, LacksRoom, KeepsIt, HandsNothing, HandsNoList, lacks_it}
use Rattle.h3_memory.proofs.PartRuns.{ReadsFramesOn}

-- Nothing has changed.
unchanged : (setup : Setup) (k : KeepingWorld) (ends new : Ends) → StandsKeeping setup k ends → new ≡ ends → StandsKeeping setup k new
unchanged setup k ends new h is = subst (StandsKeeping setup k) (sym is) h

module _ (qpack : KeptLaws) (laws : Laws) (setup : Setup) (made : IsMadeSetup setup) (frames : ReadsFramesOn setup) (notices : Notices setup) where
  -- Bytes that are kept.
  bytes_stored : (writer : Side) (id count : ℕ) (k : KeepingWorld) (ends new : Ends) → StandsKeeping setup k ends → LacksMemory ends (event.Deliver writer id count) (answer.Refused refusal.Kept) new
      → StandsOn setup k (event.Deliver writer id count) (answer.Refused refusal.Kept) new
  bytes_stored Client id count k ends new h l =
      let st = l.2 in
      let b : KeptBytes qpack laws setup k.world Server k.at_client k.at_server ends.server ends.client made (reading_of setup k ends Server h) frames notices id count st.after = bytes_kept qpack laws setup k.world Server k.at_client k.at_server ends.server ends.client made (reading_of setup k ends Server h) frames notices id count st.after l.0 l.1 st.taken st.read in
      record {
        new = keeping_so Server (noticed_all b.kept.mid Client b.kept.left) k.at_client b.kept.left;
        step = (b.offered, record { mid = b.kept.mid; read = b.kept.read; same = refl; some = b.kept.some st.some; behind = λ request none. st.behind (kind_is ends.server.side id request) (none_kept (text_of setup k.world Client) (came_of k.world Client) _ k.at_server ends.server.kept none (reading_of setup k ends Server h).here.kept) });
        exact = tt;
        stands = subst (StandsKeeping setup (keeping_so Server (noticed_all b.kept.mid Client b.kept.left) k.at_client b.kept.left)) (sym st.is) b.kept.stands;
      }
  bytes_stored Server id count k ends new h l =
      let st = l.2 in
      let b : KeptBytes qpack laws setup k.world Client k.at_server k.at_client ends.client ends.server made (reading_of setup k ends Client h) frames notices id count st.after = bytes_kept qpack laws setup k.world Client k.at_server k.at_client ends.client ends.server made (reading_of setup k ends Client h) frames notices id count st.after l.0 l.1 st.taken st.read in
      record {
        new = keeping_so Client (noticed_all b.kept.mid Server b.kept.left) k.at_server b.kept.left;
        step = (b.offered, record { mid = b.kept.mid; read = b.kept.read; same = refl; some = b.kept.some st.some; behind = λ request none. st.behind (kind_is ends.client.side id request) (none_kept (text_of setup k.world Server) (came_of k.world Server) _ k.at_client ends.client.kept none (reading_of setup k ends Client h).here.kept) });
        exact = tt;
        stands = subst (StandsKeeping setup (keeping_so Client (noticed_all b.kept.mid Server b.kept.left) k.at_server b.kept.left)) (sym st.is) b.kept.stands;
      }

  end_stored : (writer : Side) (id : ℕ) (k : KeepingWorld) (ends new : Ends) → StandsKeeping setup k ends → LacksMemory ends (event.DeliverEnd writer id) (answer.Refused refusal.Kept) new → StandsOn setup k (event.DeliverEnd writer id) (answer.Refused refusal.Kept) new
  end_stored Client id k ends new h l =
      let st = l.2 in
      let o : EndOffered qpack laws setup k.world Server k.at_client k.at_server ends.server ends.client made (reading_of setup k ends Server h) frames notices id = end_offered qpack laws setup k.world Server k.at_client k.at_server ends.server ends.client made (reading_of setup k ends Server h) frames notices id l.0 l.1 st.taken in
      let b : KeptSo setup k.world Server k.at_client k.at_server (End id) ends.client st.after = end_kept qpack laws setup k.world Server k.at_client k.at_server ends.server ends.client made (reading_of setup k ends Server h) frames notices id st.after o st.read in
      record {
        new = keeping_so Server (noticed_all b.mid Client b.left) k.at_client b.left;
        step = (o.offered, record { mid = b.mid; read = b.read; same = refl; some = b.some st.some; behind = λ request none. st.behind (kind_is ends.server.side id request) (none_kept (text_of setup k.world Client) (came_of k.world Client) _ k.at_server ends.server.kept none (reading_of setup k ends Server h).here.kept) });
        exact = tt;
        stands = subst (StandsKeeping setup (keeping_so Server (noticed_all b.mid Client b.left) k.at_client b.left)) (sym st.is) b.stands;
      }
  end_stored Server id k ends new h l =
      let st = l.2 in
      let o : EndOffered qpack laws setup k.world Client k.at_server k.at_client ends.client ends.server made (reading_of setup k ends Client h) frames notices id = end_offered qpack laws setup k.world Client k.at_server k.at_client ends.client ends.server made (reading_of setup k ends Client h) frames notices id l.0 l.1 st.taken in
      let b : KeptSo setup k.world Client k.at_server k.at_client (End id) ends.server st.after = end_kept qpack laws setup k.world Client k.at_server k.at_client ends.client ends.server made (reading_of setup k ends Client h) frames notices id st.after o st.read in
      record {
        new = keeping_so Client (noticed_all b.mid Server b.left) k.at_server b.left;
        step = (o.offered, record { mid = b.mid; read = b.read; same = refl; some = b.some st.some; behind = λ request none. st.behind (kind_is ends.client.side id request) (none_kept (text_of setup k.world Server) (came_of k.world Server) _ k.at_client ends.client.kept none (reading_of setup k ends Client h).here.kept) });
        exact = tt;
        stands = subst (StandsKeeping setup (keeping_so Client (noticed_all b.mid Server b.left) k.at_server b.left)) (sym st.is) b.stands;
      }

  end_refused : (writer : Side) (id : ℕ) (k : KeepingWorld) (ends new : Ends) → StandsKeeping setup k ends → LacksMemory ends (event.DeliverEnd writer id) (answer.Refused refusal.OutOfMemory) new → StandsOn setup k (event.DeliverEnd writer id) (answer.Refused refusal.OutOfMemory) new
  end_refused Client id k ends new h l =
      let o : EndOffered qpack laws setup k.world Server k.at_client k.at_server ends.server ends.client made (reading_of setup k ends Server h) frames notices id = end_offered qpack laws setup k.world Server k.at_client k.at_server ends.server ends.client made (reading_of setup k ends Server h) frames notices id l.0 l.1 l.2 in
      record { new = k; step = (o.offered, refl); exact = tt; stands = unchanged setup k ends new h l.3 }
  end_refused Server id k ends new h l =
      let o : EndOffered qpack laws setup k.world Client k.at_server k.at_client ends.client ends.server made (reading_of setup k ends Client h) frames notices id = end_offered qpack laws setup k.world Client k.at_server k.at_client ends.client ends.server made (reading_of setup k ends Client h) frames notices id l.0 l.1 l.2 in
      record { new = k; step = (o.offered, refl); exact = tt; stands = unchanged setup k ends new h l.3 }

  reset_stored : (writer : Side) (id : ℕ) (k : KeepingWorld) (ends new : Ends) → StandsKeeping setup k ends → LacksMemory ends (event.DeliverReset writer id) (answer.Refused refusal.Kept) new → StandsOn setup k (event.DeliverReset writer id) (answer.Refused refusal.Kept) new
  reset_stored Client id k ends new h l =
      let st = l.1 in
      let o : ResetOffered qpack laws setup k.world Server k.at_client k.at_server ends.server ends.client made (reading_of setup k ends Server h) frames notices id = reset_offered qpack laws setup k.world Server k.at_client k.at_server ends.server ends.client made (reading_of setup k ends Server h) frames notices id l.0 st.taken in
      let b : KeptSo setup k.world Server k.at_client k.at_server (Reset id) ends.client st.after = reset_kept qpack laws setup k.world Server k.at_client k.at_server ends.server ends.client made (reading_of setup k ends Server h) frames notices id st.after o st.read in
      record {
        new = keeping_so Server (noticed_all b.mid Client b.left) k.at_client b.left;
        step = (o.offered, record { mid = b.mid; read = b.read; same = refl; some = b.some st.some; behind = λ request none. st.behind (kind_is ends.server.side id request) (none_kept (text_of setup k.world Client) (came_of k.world Client) _ k.at_server ends.server.kept none (reading_of setup k ends Server h).here.kept) });
        exact = tt;
        stands = subst (StandsKeeping setup (keeping_so Server (noticed_all b.mid Client b.left) k.at_client b.left)) (sym st.is) b.stands;
      }
  reset_stored Server id k ends new h l =
      let st = l.1 in
      let o : ResetOffered qpack laws setup k.world Client k.at_server k.at_client ends.client ends.server made (reading_of setup k ends Client h) frames notices id = reset_offered qpack laws setup k.world Client k.at_server k.at_client ends.client ends.server made (reading_of setup k ends Client h) frames notices id l.0 st.taken in
      let b : KeptSo setup k.world Client k.at_server k.at_client (Reset id) ends.server st.after = reset_kept qpack laws setup k.world Client k.at_server k.at_client ends.client ends.server made (reading_of setup k ends Client h) frames notices id st.after o st.read in
      record {
        new = keeping_so Client (noticed_all b.mid Server b.left) k.at_server b.left;
        step = (o.offered, record { mid = b.mid; read = b.read; same = refl; some = b.some st.some; behind = λ request none. st.behind (kind_is ends.client.side id request) (none_kept (text_of setup k.world Server) (came_of k.world Server) _ k.at_client ends.client.kept none (reading_of setup k ends Client h).here.kept) });
        exact = tt;
        stands = subst (StandsKeeping setup (keeping_so Client (noticed_all b.mid Server b.left) k.at_server b.left)) (sym st.is) b.stands;
      }

  reset_refused : (writer : Side) (id : ℕ) (k : KeepingWorld) (ends new : Ends) → StandsKeeping setup k ends → LacksMemory ends (event.DeliverReset writer id) (answer.Refused refusal.OutOfMemory) new → StandsOn setup k (event.DeliverReset writer id) (answer.Refused refusal.OutOfMemory) new
  reset_refused Client id k ends new h l =
      let o : ResetOffered qpack laws setup k.world Server k.at_client k.at_server ends.server ends.client made (reading_of setup k ends Server h) frames notices id = reset_offered qpack laws setup k.world Server k.at_client k.at_server ends.server ends.client made (reading_of setup k ends Server h) frames notices id l.0 l.1 in
      record { new = k; step = (o.offered, refl); exact = tt; stands = unchanged setup k ends new h l.2 }
  reset_refused Server id k ends new h l =
      let o : ResetOffered qpack laws setup k.world Client k.at_server k.at_client ends.client ends.server made (reading_of setup k ends Client h) frames notices id = reset_offered qpack laws setup k.world Client k.at_server k.at_client ends.client ends.server made (reading_of setup k ends Client h) frames notices id l.0 l.1 in
      record { new = k; step = (o.offered, refl); exact = tt; stands = unchanged setup k ends new h l.2 }

  -- **Bytes.**
  pub deliver_step : (writer : Side) (id count : ℕ) → StepsOn setup (event.Deliver writer id count)
  deliver_step writer id count k ends new a sendable h step = by_memory (is_out_of_memory a) refl
    where
      lacks : LacksIt a → LacksMemory ends (event.Deliver writer id count) a new → StandsOn setup k (event.Deliver writer id count) a new
      lacks (LacksRoom is) l =
          subst (λ x. LacksMemory ends (event.Deliver writer id count) x new → StandsOn setup k (event.Deliver writer id count) x new) (sym is)
          (λ same. record { new = k; step = refl; exact = tt; stands = unchanged setup k ends new h same }) l
      lacks (KeepsIt is) l = subst (λ x. LacksMemory ends (event.Deliver writer id count) x new → StandsOn setup k (event.Deliver writer id count) x new) (sym is) (bytes_stored writer id count k ends new h) l
      lacks (HandsNothing is) l = absurd (subst (λ x. LacksMemory ends (event.Deliver writer id count) x new) is l)
      lacks (HandsNoList is) l = absurd (subst (λ x. LacksMemory ends (event.Deliver writer id count) x new) is l)

      by_memory : (b : Bool) → is_out_of_memory a ≡ b → StandsOn setup k (event.Deliver writer id count) a new
      by_memory false plain =
          plain_bytes setup k ends new writer id count a (bytes_agree qpack laws setup made k ends h writer id count) plain (subst (λ b. AnswerOf b ends (event.Deliver writer id count) a new) plain step)
      by_memory true memory = lacks (lacks_it a memory) (subst (λ b. AnswerOf b ends (event.Deliver writer id count) a new) memory step)

  -- **The end.**
  pub end_step : (writer : Side) (id : ℕ) → StepsOn setup (event.DeliverEnd writer id)
  end_step writer id k ends new a sendable h step = by_memory (is_out_of_memory a) refl
    where
      lacks : LacksIt a → LacksMemory ends (event.DeliverEnd writer id) a new → StandsOn setup k (event.DeliverEnd writer id) a new
      lacks (LacksRoom is) l = subst (λ x. LacksMemory ends (event.DeliverEnd writer id) x new → StandsOn setup k (event.DeliverEnd writer id) x new) (sym is) (end_refused writer id k ends new h) l
      lacks (KeepsIt is) l = subst (λ x. LacksMemory ends (event.DeliverEnd writer id) x new → StandsOn setup k (event.DeliverEnd writer id) x new) (sym is) (end_stored writer id k ends new h) l
      lacks (HandsNothing is) l = absurd (subst (λ x. LacksMemory ends (event.DeliverEnd writer id) x new) is l)
      lacks (HandsNoList is) l = absurd (subst (λ x. LacksMemory ends (event.DeliverEnd writer id) x new) is l)

      by_memory : (b : Bool) → is_out_of_memory a ≡ b → StandsOn setup k (event.DeliverEnd writer id) a new
      by_memory false plain = plain_end setup k ends new writer id a (end_agrees qpack laws setup made k ends h writer id) plain (subst (λ b. AnswerOf b ends (event.DeliverEnd writer id) a new) plain step)
      by_memory true memory = lacks (lacks_it a memory) (subst (λ b. AnswerOf b ends (event.DeliverEnd writer id) a new) memory step)

  -- **The reset.**
  pub gone_step : (writer : Side) (id : ℕ) → StepsOn setup (event.DeliverReset writer id)
  gone_step writer id k ends new a sendable h step = by_memory (is_out_of_memory a) refl
    where
      lacks : LacksIt a → LacksMemory ends (event.DeliverReset writer id) a new → StandsOn setup k (event.DeliverReset writer id) a new
      lacks (LacksRoom is) l = subst (λ x. LacksMemory ends (event.DeliverReset writer id) x new → StandsOn setup k (event.DeliverReset writer id) x new) (sym is) (reset_refused writer id k ends new h) l
      lacks (KeepsIt is) l = subst (λ x. LacksMemory ends (event.DeliverReset writer id) x new → StandsOn setup k (event.DeliverReset writer id) x new) (sym is) (reset_stored writer id k ends new h) l
      lacks (HandsNothing is) l = absurd (subst (λ x. LacksMemory ends (event.DeliverReset writer id) x new) is l)
      lacks (HandsNoList is) l = absurd (subst (λ x. LacksMemory ends (event.DeliverReset writer id) x new) is l)

      by_memory : (b : Bool) → is_out_of_memory a ≡ b → StandsOn setup k (event.DeliverReset writer id) a new
      by_memory false plain = plain_reset setup k ends new writer id a (reset_agrees qpack laws setup made k ends h writer id) plain (subst (λ b. AnswerOf b ends (event.DeliverReset writer id) a new) plain step)
      by_memory true memory = lacks (lacks_it a memory) (subst (λ b. AnswerOf b ends (event.DeliverReset writer id) a new) memory step)
