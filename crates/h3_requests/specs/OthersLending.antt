-- What the map of streams becomes, once a stream that was lent is given back.
use Rattle.std.specs.Prelude.{◌≡◌, ℕ, Option, Some, IsSome}
use Rattle.std.specs.Borrow.{Fml, LendsSo, MutBor}
use Rattle.std.specs.BTreeMap.{is_at}
use Rattle.std.specs.Map.{set_value}
use Rattle.std.specs.Ordering.{nat_cmp}
use Rattle.h3_connection.specs.State.{RequestState, kept_at}
use Rattle.h3_requests.specs.Row.{KeepsOthers}
use Rattle.h3_requests.specs.contracts.stream.RequestStream.{the_row as stream_row}
use Rattle.h3_requests.specs.contracts.under_way.others.Others.{the_row}
use Rattle.h3_requests.specs.declared.under_way.others.Others.{Others}

-- where the stream was there it is this one now, and the others stay
abbrev pub WritesOther : (old new : Others) → ℕ → RequestState → Type 0
WritesOther old new id x = IsSome (kept_at old.streams.entries id)
    → (new.streams.entries ≡ set_value (is_at (nat_cmp id)) old.streams.entries x) × (kept_at new.streams.entries id ≡ Some x) × KeepsOthers old.streams.entries new.streams.entries id

-- the stream is the last one that was written through r, and where r is none nothing has changed
abbrev pub LendsOther : MutBor Others → ℕ → Option (MutBor RequestState) → Fml
LendsOther m id r = LendsSo the_row stream_row m r (λ n x. WritesOther m.now n id x) (λ n. n ≡ m.now)
