-- The headers that events send are those that their fields read as.
use Rattle.std.proofs.Common.{ℕ, Bool, true, false, List, [], ◌∷◌, ◌++◌}
use Rattle.std.specs.Prelude.{◌&&◌, if◌then◌else◌, map}
use Rattle.std.specs.List.{AllByRecursion}
use Rattle.h3_proto.specs.declared.stream.Side.{Side}
use Rattle.h3_world.specs.Sendable.{IsSendable}
use Rattle.h3_world.specs.Setup.{Setup, both_take_any}
use Rattle.h3_world.specs.declared.event.Answer.{Answer}
use Rattle.h3_world.specs.declared.event.Answer.TheVariants as answer
use Rattle.h3_world.specs.declared.event.Event.{Event}
use Rattle.h3_world.specs.declared.event.Event.TheVariants as event
use Rattle.h3_headline.specs.Exactly.{IsReadBack}
use Rattle.h3_headline.specs.Messages.{MessageContent, is_done, is_on, sent, sent_in}
use Rattle.h3_headline.specs.Messages.MessageContent.{Byte}

back_joined : (l m : List MessageContent) → AllByRecursion IsReadBack l → AllByRecursion IsReadBack m → AllByRecursion IsReadBack (l ++ m)
back_joined [] m h k = k
back_joined (c ∷ l) m h k = (h.0, back_joined l m h.1 k)

bytes_back : (bytes : List ℕ) → AllByRecursion IsReadBack (map Byte bytes)
bytes_back [] = tt
bytes_back (b ∷ bytes) = (tt, bytes_back bytes)

back_if : (a : Answer) (on : Bool) (l : List MessageContent) → AllByRecursion IsReadBack l → AllByRecursion IsReadBack (if is_done a && on then l else [])
back_if answer.Done true l h = h
back_if answer.Done false l h = tt
back_if (answer.Opened id) on l h = tt
back_if (answer.Delivered n) on l h = tt
back_if (answer.Short n) on l h = tt
back_if answer.NoStream on l h = tt
back_if answer.Early on l h = tt
back_if (answer.Pulled p) on l h = tt
back_if (answer.Listed p) on l h = tt
back_if (answer.Shown limits sizes n) on l h = tt
back_if (answer.Refused r) on l h = tt

sent_back : (setup : Setup) (side : Side) (id : ℕ) (e : Event) (a : Answer) → IsSendable setup e → AllByRecursion IsReadBack (sent_in side id e a)
sent_back setup side id (event.Head s i head) a h = back_if a (is_on side id s i) _ ((h.reads_back (both_take_any setup) h.taken).1, tt)
sent_back setup side id (event.Fields s i fields) a h = back_if a (is_on side id s i) _ (tt, tt)
sent_back setup side id (event.Body s i bytes) a h = back_if a (is_on side id s i) (map Byte bytes) (bytes_back bytes)
sent_back setup side id (event.Trailer s i trailer) a h = back_if a (is_on side id s i) _ ((h.reads_back (both_take_any setup) h.taken).1, tt)
sent_back setup side id (event.TrailerFields s i fields) a h = back_if a (is_on side id s i) _ (tt, tt)
sent_back setup side id _ a h = tt

pub all_read_back : (setup : Setup) (side : Side) (id : ℕ) (events : List Event) (answers : List Answer) → AllByRecursion (IsSendable setup) events → AllByRecursion IsReadBack (sent side id events answers)
all_read_back setup side id [] answers h = tt
all_read_back setup side id (e ∷ events) [] h = tt
all_read_back setup side id (e ∷ events) (a ∷ answers) h =
    back_joined (sent_in side id e a) (sent side id events answers) (sent_back setup side id e a h.0) (all_read_back setup side id events answers h.1)
