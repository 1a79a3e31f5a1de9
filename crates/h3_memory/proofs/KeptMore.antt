-- What is handed over behind what is kept, and the world once all that is kept has been read.
use Rattle.std.proofs.Common.{◌≡◌, ℕ, ◌+◌, Bool, true, false, ◌||◌, List, [], ◌∷◌, ◌++◌, refl, ap, ◌∙◌, if◌then◌else◌}
use Rattle.std.specs.Prelude.{◌==◌, take, drop}
use Rattle.h3_proto.specs.declared.stream.Side.{Side}
use Rattle.h3_connection.specs.Arrivals.{is_closed_in}
use Rattle.h3_connection.specs.declared.arrival.Arrival.{Arrival}
use Rattle.h3_connection.specs.declared.arrival.Arrival.TheVariants.{BytesCame, EndCame, ResetCame}
use Rattle.h3_connection.specs.Delivering.{closed_refusal}
use Rattle.h3_connection.specs.Keeping.{refused_behind}
use Rattle.h3_connection.specs.OwnIds.{other}
use Rattle.h3_world.specs.Setup.{Setup}
use Rattle.h3_world.specs.Delivering.{is_closed, reset_code}
use Rattle.h3_world.specs.World.{World}
use Rattle.h3_memory.specs.Kept.{Delivery, Bytes, End, Reset, read_delivery, read_deliveries}
use Rattle.h3_memory.specs.Keeping.{AreKept, MayAllBeRead, came_of, text_of, with_count, with_closed, without_held}
use Rattle.h3_memory.proofs.OwnReads.{came_after, closed_after}
use Rattle.h3_memory.proofs.ReadAll.{came_behind, closed_behind}
use Rattle.h3_memory.proofs.ReadDeliveries.{may_after, read_on}
use Rattle.h3_memory.proofs.TextsOf.{flipped}

-- An arrival that may come behind them.
abbrev pub IsNext : (ℕ → List ℕ) → (ℕ → ℕ) → Delivery → Arrival → Type 0
IsNext text came (Bytes id count) (BytesCame i bytes) = (i ≡ id) × (bytes ≡ take count (drop (came id) (text id)))
IsNext text came (End id) (EndCame i) = i ≡ id
IsNext text came (Reset id) (ResetCame i code) = (i ≡ id) × (code ≡ reset_code)
IsNext text came d a = ⊥

-- it is kept with nothing held
kept_one : (text : ℕ → List ℕ) (came : ℕ → ℕ) (held : ℕ → List ℕ) (d : Delivery) (a : Arrival) → ((i : ℕ) → held i ≡ []) → IsNext text came d a → AreKept text came held (d ∷ []) (a ∷ [])
kept_one text came held (Bytes id count) (BytesCame i bytes) none next = (next.0, ap (λ l. l ++ bytes) (none id) ∙ next.1, λ j. by_id j (j == id))
  where
    by_id : (j : ℕ) (b : Bool) → (if b then [] else held j) ≡ []
    by_id j true = refl
    by_id j false = none j
kept_one text came held (End id) (EndCame i) none next = (next, none)
kept_one text came held (Reset id) (ResetCame i code) none next = (next.0, next.1, none)
kept_one text came held (Bytes id count) (EndCame i) none next = absurd next
kept_one text came held (Bytes id count) (ResetCame i code) none next = absurd next
kept_one text came held (End id) (BytesCame i bytes) none next = absurd next
kept_one text came held (End id) (ResetCame i code) none next = absurd next
kept_one text came held (Reset id) (BytesCame i bytes) none next = absurd next
kept_one text came held (Reset id) (EndCame i) none next = absurd next

pub kept_more : (text : ℕ → List ℕ) (came : ℕ → ℕ) (held : ℕ → List ℕ) (ds : List Delivery) (arrivals : List Arrival) (d : Delivery) (a : Arrival) → IsNext text (came_behind came ds) d a → AreKept text came held ds arrivals
    → AreKept text came held (ds ++ d ∷ []) (arrivals ++ a ∷ [])
kept_more text came held [] [] d a next kept = kept_one text came held d a kept next
kept_more text came held (Bytes id count ∷ ds) (BytesCame i bytes ∷ arrivals) d a next kept = (kept.0, kept.1, kept_more text (with_count came id count) (without_held held id) ds arrivals d a next kept.2)
kept_more text came held (End id ∷ ds) (EndCame i ∷ arrivals) d a next kept = (kept.0, kept_more text came held ds arrivals d a next kept.1)
kept_more text came held (Reset id ∷ ds) (ResetCame i code ∷ arrivals) d a next kept = (kept.0, kept.1, kept_more text came held ds arrivals d a next kept.2)
kept_more text came held [] (b ∷ arrivals) d a next kept = absurd kept
kept_more text came held (Bytes id count ∷ ds) [] d a next kept = absurd kept
kept_more text came held (Bytes id count ∷ ds) (EndCame i ∷ arrivals) d a next kept = absurd kept
kept_more text came held (Bytes id count ∷ ds) (ResetCame i code ∷ arrivals) d a next kept = absurd kept
kept_more text came held (End id ∷ ds) [] d a next kept = absurd kept
kept_more text came held (End id ∷ ds) (BytesCame i bytes ∷ arrivals) d a next kept = absurd kept
kept_more text came held (End id ∷ ds) (ResetCame i code ∷ arrivals) d a next kept = absurd kept
kept_more text came held (Reset id ∷ ds) [] d a next kept = absurd kept
kept_more text came held (Reset id ∷ ds) (BytesCame i bytes ∷ arrivals) d a next kept = absurd kept
kept_more text came held (Reset id ∷ ds) (EndCame i ∷ arrivals) d a next kept = absurd kept

pub may_more : (setup : Setup) (w : World) (writer : Side) (came : ℕ → ℕ) (closed : ℕ → Bool) (ds : List Delivery) (d : Delivery) → MayAllBeRead setup w writer (came_behind came ds) (closed_behind closed ds) (d ∷ [])
    → MayAllBeRead setup w writer came closed ds → MayAllBeRead setup w writer came closed (ds ++ d ∷ [])
may_more setup w writer came closed [] d next may = next
may_more setup w writer came closed (Bytes id count ∷ ds) d next may = (may.0, may.1, may.2, may_more setup w writer (with_count came id count) closed ds d next may.3)
may_more setup w writer came closed (End id ∷ ds) d next may = (may.0, may.1, may.2, may.3, may_more setup w writer came (with_closed closed id) ds d next may.4)
may_more setup w writer came closed (Reset id ∷ ds) d next may = (may.0, may.1, may.2, may_more setup w writer came (with_closed closed id) ds d next may.3)

-- The same stream by stream.
then_alike : (came come : ℕ → ℕ) (d : Delivery) (i : ℕ) → ((j : ℕ) → come j ≡ came j) → came_after come d i ≡ came_after came d i
then_alike came come (Bytes id count) i same = ap (λ n. if i == id then n + count else n) (same i)
then_alike came come (End id) i same = same i
then_alike came come (Reset id) i same = same i

after_alike : (came come : ℕ → ℕ) (ds : List Delivery) (i : ℕ) → ((j : ℕ) → come j ≡ came j) → came_behind come ds i ≡ came_behind came ds i
after_alike came come [] i same = same i
after_alike came come (d ∷ ds) i same = after_alike (came_after came d) (came_after come d) ds i (λ j. then_alike came come d j same)

closed_alike : (shut close : ℕ → Bool) (d : Delivery) (i : ℕ) → ((j : ℕ) → close j ≡ shut j) → closed_after close d i ≡ closed_after shut d i
closed_alike shut close (Bytes id count) i same = same i
closed_alike shut close (End id) i same = ap (λ b. if i == id then true else b) (same i)
closed_alike shut close (Reset id) i same = ap (λ b. if i == id then true else b) (same i)

shut_alike : (shut close : ℕ → Bool) (ds : List Delivery) (i : ℕ) → ((j : ℕ) → close j ≡ shut j) → closed_behind close ds i ≡ closed_behind shut ds i
shut_alike shut close [] i same = same i
shut_alike shut close (d ∷ ds) i same = shut_alike (closed_after shut d) (closed_after close d) ds i (λ j. closed_alike shut close d j same)

-- **The world once all has been read.**
pub record CaughtUp (setup : Setup) (w : World) (side : Side) (ds : List Delivery) : Type 0 where
  pub text : (i : ℕ) → text_of setup (read_deliveries setup w (other side) ds) (other side) i ≡ text_of setup w (other side) i
  pub came : (i : ℕ) → came_of (read_deliveries setup w (other side) ds) (other side) i ≡ came_behind (came_of w (other side)) ds i
  pub closed : (i : ℕ) → is_closed (read_deliveries setup w (other side) ds) (other side) i ≡ closed_behind (is_closed w (other side)) ds i

pub caught_up_is : (setup : Setup) (w : World) (side : Side) (ds : List Delivery) → MayAllBeRead setup w (other side) (came_of w (other side)) (is_closed w (other side)) ds → CaughtUp setup w side ds
caught_up_is setup w side [] may = record { text = λ i. refl; came = λ i. refl; closed = λ i. refl }
caught_up_is setup w side (d ∷ ds) may =
    let s = other side in
    let v = read_delivery setup w s d in
    let r = read_on setup w side d ds may in
    let c = caught_up_is setup v side ds (may_after setup w side d ds may) in
    record {
      text = λ i. c.text i ∙ r.text i;
      came = λ i. c.came i ∙ after_alike (came_after (came_of w s) d) (came_of v s) ds i r.came;
      closed = λ i. c.closed i ∙ shut_alike (closed_after (is_closed w s) d) (is_closed v s) ds i r.closed;
    }

-- Why what comes is refused: by the streams that are closed once all has been read.
refused_or : (a b c : Bool) → refused_behind (a || b) (closed_refusal c) ≡ refused_behind b (closed_refusal (if a then true else c))
refused_or true true true = refl
refused_or true false true = refl
refused_or true true false = refl
refused_or true false false = refl
refused_or false b c = refl

refused_none : (c : Bool) → refused_behind false (closed_refusal c) ≡ closed_refusal c
refused_none true = refl
refused_none false = refl

closing : (id i q : ℕ) (b c : Bool) → i ≡ q → refused_behind ((i == id) || b) (closed_refusal c) ≡ refused_behind b (closed_refusal (if id == q then true else c))
closing id i q b c same =
    ap (λ t. refused_behind (t || b) (closed_refusal c)) (ap (λ n. n == id) same ∙ flipped q id) ∙ refused_or (id == q) b c

pub refused_is : (text : ℕ → List ℕ) (came : ℕ → ℕ) (held : ℕ → List ℕ) (closed : ℕ → Bool) (ds : List Delivery) (arrivals : List Arrival) (id : ℕ) → AreKept text came held ds arrivals
    → refused_behind (is_closed_in arrivals id) (closed_refusal (closed id)) ≡ closed_refusal (closed_behind closed ds id)
refused_is text came held closed [] [] id kept = refused_none (closed id)
refused_is text came held closed (Bytes q count ∷ ds) (BytesCame i bytes ∷ arrivals) id kept = refused_is text (with_count came q count) (without_held held q) closed ds arrivals id kept.2
refused_is text came held closed (End q ∷ ds) (EndCame i ∷ arrivals) id kept =
    closing id i q (is_closed_in arrivals id) (closed id) kept.0 ∙ refused_is text came held (with_closed closed q) ds arrivals id kept.1
refused_is text came held closed (Reset q ∷ ds) (ResetCame i code ∷ arrivals) id kept =
    closing id i q (is_closed_in arrivals id) (closed id) kept.0 ∙ refused_is text came held (with_closed closed q) ds arrivals id kept.2
refused_is text came held closed [] (b ∷ arrivals) id kept = absurd kept
refused_is text came held closed (Bytes q count ∷ ds) [] id kept = absurd kept
refused_is text came held closed (Bytes q count ∷ ds) (EndCame i ∷ arrivals) id kept = absurd kept
refused_is text came held closed (Bytes q count ∷ ds) (ResetCame i code ∷ arrivals) id kept = absurd kept
refused_is text came held closed (End q ∷ ds) [] id kept = absurd kept
refused_is text came held closed (End q ∷ ds) (BytesCame i bytes ∷ arrivals) id kept = absurd kept
refused_is text came held closed (End q ∷ ds) (ResetCame i code ∷ arrivals) id kept = absurd kept
refused_is text came held closed (Reset q ∷ ds) [] id kept = absurd kept
refused_is text came held closed (Reset q ∷ ds) (BytesCame i bytes ∷ arrivals) id kept = absurd kept
refused_is text came held closed (Reset q ∷ ds) (EndCame i ∷ arrivals) id kept = absurd kept
