-- The answers that tell of refused memory: four.
use Rattle.std.proofs.Common.{◌≡◌, true, refl}
use Rattle.h3_connection.specs.declared.event.Refusal.{Refusal}
use Rattle.h3_connection.specs.declared.event.Refusal.TheVariants as refusal
use Rattle.h3_connection.specs.declared.event.Fault.TheVariants as fault
use Rattle.h3_connection.specs.declared.event.Pull.{Pull}
use Rattle.h3_connection.specs.declared.event.Pull.TheVariants as pull
use Rattle.h3_connection.specs.declared.lists.ListPull.{ListPull}
use Rattle.h3_connection.specs.declared.lists.ListPull.TheVariants as list
use Rattle.h3_world.specs.declared.event.Answer.{Answer}
use Rattle.h3_world.specs.declared.event.Answer.TheVariants as answer
use Rattle.h3_world.specs.Headline.{is_out_of_memory}

pub data LacksIt (a : Answer) : Type 0 where
  LacksRoom : a ≡ answer.Refused refusal.OutOfMemory → LacksIt a
  KeepsIt : a ≡ answer.Refused refusal.Kept → LacksIt a
  HandsNothing : a ≡ answer.Pulled (pull.Fault fault.Memory) → LacksIt a
  HandsNoList : a ≡ answer.Listed (list.Fault fault.Memory) → LacksIt a

refused_so : (r : Refusal) → is_out_of_memory (answer.Refused r) ≡ true → LacksIt (answer.Refused r)
refused_so (refusal.Closed code) e = absurd (cc)
refused_so (refusal.Connection code) e = absurd (cc)
refused_so refusal.NotReceiving e = absurd (cc)
refused_so refusal.AfterEnd e = absurd (cc)
refused_so refusal.Kept e = KeepsIt refl
refused_so refusal.NotClient e = absurd (cc)
refused_so (refusal.GoingAway id) e = absurd (cc)
refused_so refusal.IdsUsedUp e = absurd (cc)
refused_so refusal.NotOpen e = absurd (cc)
refused_so refusal.OutOfOrder e = absurd (cc)
refused_so refusal.WrongSide e = absurd (cc)
refused_so refusal.PseudoInTrailer e = absurd (cc)
refused_so (refusal.Malformed why) e = absurd (cc)
refused_so (refusal.TooLarge n) e = absurd (cc)
refused_so refusal.Critical e = absurd (cc)
refused_so refusal.Ended e = absurd (cc)
refused_so refusal.NotRequestId e = absurd (cc)
refused_so (refusal.Raised n) e = absurd (cc)
refused_so refusal.OutOfMemory e = LacksRoom refl

pulled_so : (p : Pull) → is_out_of_memory (answer.Pulled p) ≡ true → LacksIt (answer.Pulled p)
pulled_so (pull.Item i) e = absurd (cc)
pulled_so pull.Pending e = absurd (cc)
pulled_so (pull.Waiting count) e = absurd (cc)
pulled_so (pull.Fault (fault.Connection code)) e = absurd (cc)
pulled_so (pull.Fault (fault.Stream why)) e = absurd (cc)
pulled_so (pull.Fault fault.Memory) e = HandsNothing refl
pulled_so pull.NoMessages e = absurd (cc)

listed_so : (l : ListPull) → is_out_of_memory (answer.Listed l) ≡ true → LacksIt (answer.Listed l)
listed_so (list.Item i) e = absurd (cc)
listed_so list.Pending e = absurd (cc)
listed_so (list.Waiting count) e = absurd (cc)
listed_so (list.Fault (fault.Connection code)) e = absurd (cc)
listed_so (list.Fault (fault.Stream why)) e = absurd (cc)
listed_so (list.Fault fault.Memory) e = HandsNoList refl
listed_so list.NoMessages e = absurd (cc)

pub lacks_it : (a : Answer) → is_out_of_memory a ≡ true → LacksIt a
lacks_it (answer.Refused r) e = refused_so r e
lacks_it (answer.Pulled p) e = pulled_so p e
lacks_it (answer.Listed l) e = listed_so l e
lacks_it (answer.Opened id) e = absurd (cc)
lacks_it answer.Done e = absurd (cc)
lacks_it (answer.Delivered count) e = absurd (cc)
lacks_it (answer.Short count) e = absurd (cc)
lacks_it answer.NoStream e = absurd (cc)
lacks_it answer.Early e = absurd (cc)
lacks_it (answer.Shown limits sizes count) e = absurd (cc)
