-- What is kept stays readable where the texts of its writer grow.
use Rattle.std.proofs.Common.{◌≡◌, ℕ, ◌+◌, ◌≤◌, Bool, true, List, [], ◌∷◌, ◌++◌, length, take, drop, sym, ap, ◌∙◌, arith, length-append, if◌then◌else◌}
use Rattle.std.specs.Prelude.{◌==◌}
use Rattle.std.proofs.lemmas.List.{take-append-le, drop-append-le, length-drop}
use Rattle.h3_proto.specs.declared.stream.Side.{Side}
use Rattle.h3_connection.specs.declared.arrival.Arrival.{Arrival}
use Rattle.h3_connection.specs.declared.arrival.Arrival.TheVariants.{BytesCame, EndCame, ResetCame}
use Rattle.h3_world.specs.Setup.{Setup}
use Rattle.h3_world.specs.Delivering.{is_closed}
use Rattle.h3_world.specs.World.{World}
use Rattle.h3_memory.specs.Kept.{Delivery, Bytes, End, Reset}
use Rattle.h3_memory.specs.Writing.{WritesMore, WritesOn}
use Rattle.h3_memory.specs.Keeping.{MayAllBeRead, AreKept, came_of, text_of, with_count, with_closed, without_held}

counted_same : (a b : ℕ → ℕ) (id count i : ℕ) → ((j : ℕ) → a j ≡ b j) → with_count a id count i ≡ with_count b id count i
counted_same a b id count i same = ap (λ n. if i == id then n + count else n) (same i)

closed_same : (a b : ℕ → Bool) (id i : ℕ) → ((j : ℕ) → a j ≡ b j) → with_closed a id i ≡ with_closed b id i
closed_same a b id i same = ap (λ c. if i == id then true else c) (same i)

at_most : (n m count : ℕ) (old more new : List ℕ) → n ≡ m → n + count ≤ length old → new ≡ old ++ more → m + count ≤ length new
at_most n m count old more new same fits is = omega (arith, same, fits, ap length is, length-append old more)

pub may_grow : (setup : Setup) (w v : World) (writer : Side) (came come : ℕ → ℕ) (shut close : ℕ → Bool) (ds : List Delivery) → WritesMore setup w v writer
    → ((i : ℕ) → come i ≡ came i) → ((i : ℕ) → close i ≡ shut i) → MayAllBeRead setup w writer came shut ds → MayAllBeRead setup v writer come close ds
may_grow setup w v writer came come shut close [] on same alike may = tt
may_grow setup w v writer came come shut close (Bytes id count ∷ ds) on same alike may = (
  on.outgoing id may.0,
  alike id ∙ may.1,
  at_most (came id) (come id) count (text_of setup w writer id) (on.more id) (text_of setup v writer id) (sym (same id)) may.2 (on.text id),
  may_grow setup w v writer (with_count came id count) (with_count come id count) shut close ds on (λ i. counted_same come came id count i same) alike may.3,
)
may_grow setup w v writer came come shut close (End id ∷ ds) on same alike may =
    let f = on.finished id may.2 in (
      on.opened id may.0,
      alike id ∙ may.1,
      f.0,
      same id ∙ may.3 ∙ ap length (sym f.1),
      may_grow setup w v writer came come (with_closed shut id) (with_closed close id) ds on same (λ i. closed_same close shut id i alike) may.4,
    )
may_grow setup w v writer came come shut close (Reset id ∷ ds) on same alike may = (
  on.opened id may.0,
  alike id ∙ may.1,
  on.reset id may.2,
  may_grow setup w v writer came come (with_closed shut id) (with_closed close id) ds on same (λ i. closed_same close shut id i alike) may.3,
)

-- so many bytes are the same where more follow
same_bytes : (old more new : List ℕ) (n m count : ℕ) → n ≡ m → n + count ≤ length old → new ≡ old ++ more → take count (drop m new) ≡ take count (drop n old)
same_bytes old more new n m count same fits is =
    ap (λ x. take count (drop x new)) (sym same)
    ∙ ap (λ l. take count (drop n l)) is
    ∙ ap (take count) (drop-append-le n old more (omega (arith, fits)))
    ∙ take-append-le count (drop n old) more (omega (arith, fits, length-drop n old))

pub kept_grow : (setup : Setup) (w v : World) (writer : Side) (more : ℕ → List ℕ) (came come : ℕ → ℕ) (shut : ℕ → Bool) (held : ℕ → List ℕ) (ds : List Delivery) (arrivals : List Arrival)
    → ((i : ℕ) → text_of setup v writer i ≡ text_of setup w writer i ++ more i) → ((i : ℕ) → come i ≡ came i) → MayAllBeRead setup w writer came shut ds → AreKept (text_of setup w writer) came held ds arrivals
    → AreKept (text_of setup v writer) come held ds arrivals
kept_grow setup w v writer more came come shut held [] [] text same may kept = kept
kept_grow setup w v writer more came come shut held (Bytes id count ∷ ds) (BytesCame i bytes ∷ arrivals) text same may kept = (
  kept.0,
  kept.1 ∙ sym (same_bytes (text_of setup w writer id) (more id) (text_of setup v writer id) (came id) (come id) count (sym (same id)) may.2 (text id)),
  kept_grow setup w v writer more (with_count came id count) (with_count come id count) shut (without_held held id) ds arrivals text (λ i. counted_same come came id count i same) may.3 kept.2,
)
kept_grow setup w v writer more came come shut held (End id ∷ ds) (EndCame i ∷ arrivals) text same may kept =
    (kept.0, kept_grow setup w v writer more came come (with_closed shut id) held ds arrivals text same may.4 kept.1)
kept_grow setup w v writer more came come shut held (Reset id ∷ ds) (ResetCame i code ∷ arrivals) text same may kept =
    (kept.0, kept.1, kept_grow setup w v writer more came come (with_closed shut id) held ds arrivals text same may.3 kept.2)
kept_grow setup w v writer more came come shut held [] (a ∷ arrivals) text same may kept = absurd kept
kept_grow setup w v writer more came come shut held (Bytes id count ∷ ds) [] text same may kept = absurd kept
kept_grow setup w v writer more came come shut held (Bytes id count ∷ ds) (EndCame i ∷ arrivals) text same may kept = absurd kept
kept_grow setup w v writer more came come shut held (Bytes id count ∷ ds) (ResetCame i code ∷ arrivals) text same may kept = absurd kept
kept_grow setup w v writer more came come shut held (End id ∷ ds) [] text same may kept = absurd kept
kept_grow setup w v writer more came come shut held (End id ∷ ds) (BytesCame i bytes ∷ arrivals) text same may kept = absurd kept
kept_grow setup w v writer more came come shut held (End id ∷ ds) (ResetCame i code ∷ arrivals) text same may kept = absurd kept
kept_grow setup w v writer more came come shut held (Reset id ∷ ds) [] text same may kept = absurd kept
kept_grow setup w v writer more came come shut held (Reset id ∷ ds) (BytesCame i bytes ∷ arrivals) text same may kept = absurd kept
kept_grow setup w v writer more came come shut held (Reset id ∷ ds) (EndCame i ∷ arrivals) text same may kept = absurd kept

-- **What a side keeps stays readable, and stands in the texts of its writer.**
pub may_on : (setup : Setup) (w v : World) (writer : Side) (ds : List Delivery) → WritesOn setup w v writer → MayAllBeRead setup w writer (came_of w writer) (is_closed w writer) ds
    → MayAllBeRead setup v writer (came_of v writer) (is_closed v writer) ds
may_on setup w v writer ds on may = may_grow setup w v writer (came_of w writer) (came_of v writer) (is_closed w writer) (is_closed v writer) ds on.writes on.came on.closed may

pub kept_on : (setup : Setup) (w v : World) (writer : Side) (held : ℕ → List ℕ) (ds : List Delivery) (arrivals : List Arrival) → WritesOn setup w v writer → MayAllBeRead setup w writer (came_of w writer) (is_closed w writer) ds
    → AreKept (text_of setup w writer) (came_of w writer) held ds arrivals → AreKept (text_of setup v writer) (came_of v writer) held ds arrivals
kept_on setup w v writer held ds arrivals on may kept =
    kept_grow setup w v writer on.writes.more (came_of w writer) (came_of v writer) (is_closed w writer) held ds arrivals on.writes.text on.came may kept
