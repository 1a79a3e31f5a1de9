-- A delivery between two endpoints that was refused memory.
use Rattle.std.proofs.Common.{◌≡◌, ◌⊎◌, inl, inr, ℕ, List, length, take, true, false, refl, ap, sym, subst, ◌∙◌, arith}
use Rattle.std.specs.Prelude.{min, Result, Ok, Err}
use Rattle.h3_proto.specs.declared.stream.Side.{Side}
use Rattle.h3_proto.specs.declared.stream.Side.TheVariants.{Client, Server}
use Rattle.h3_connection.specs.Answers.{delivery_refused}
use Rattle.h3_connection.specs.Arrivals.{stream_of}
use Rattle.h3_connection.specs.Endpoint.{EndpointHistory, kind_of, bytes_waiting}
use Rattle.h3_connection.specs.Keeping.{arrives}
use Rattle.h3_connection.specs.OwnIds.{other}
use Rattle.h3_connection.specs.ReceivingContracts.{Receives, KeepsBehind, IsTaken, Delivers, DeliversEnd, DeliversReset}
use Rattle.h3_connection.specs.Sending as sender
use Rattle.h3_connection.specs.SendingContracts.{Advances}
use Rattle.h3_connection.specs.State.{EndpointState, StandsFor}
use Rattle.h3_connection.specs.declared.arrival.Arrival.{Arrival}
use Rattle.h3_connection.specs.declared.arrival.Arrival.TheVariants.{BytesCame, EndCame, ResetCame}
use Rattle.h3_connection.specs.declared.event.DeliverError.{DeliverError}
use Rattle.h3_connection.specs.declared.event.DeliverError.TheVariants as deliver_error
use Rattle.h3_connection.specs.declared.event.Refusal.TheVariants as refusal
use Rattle.h3_world.specs.Delivering.{reset_code}
use Rattle.h3_world.specs.Ends.{Ends, end_at, with_end}
use Rattle.h3_world.specs.Headline.{is_out_of_memory}
use Rattle.h3_world.specs.declared.event.Answer.{Answer}
use Rattle.h3_world.specs.declared.event.Answer.TheVariants as answer
use Rattle.h3_world.specs.declared.event.Event.{Event}
use Rattle.h3_world.specs.declared.event.Event.TheVariants as event
use Rattle.h3_memory.specs.Refused.{LacksMemory, Stores, handed_over}
use Rattle.h3_session.specs.Acting.{CarriesBytes, HasBytes, HasEnd, HasReset, OffersFront, Tells}
use Rattle.h3_session.specs.Running.{answer_of, is_stored, told_answer}
use Rattle.h3_session.proofs.MemorySends.{OneLacks, one_unchanged, tells_lacks}
use Rattle.h3_session.proofs.MemoryTells.{arrives_tells, not_by_rules}
use Rattle.h3_session.proofs.MemoryUnchanged.{stands_unchanged}

-- The delivery was refused memory: what both stand for then, and that both ends may be so.
pub record BothLack (ends : Ends) (side : Side) (e : Event) (a : Answer) (writer reader : EndpointState) : Type 0 where
  pub written : EndpointHistory
  pub read : EndpointHistory
  pub writer_stands : StandsFor writer written
  pub reader_stands : StandsFor reader read
  pub lacks : LacksMemory ends e a (with_end (with_end ends side written) (other side) read)

both_same : (ends : Ends) (side : Side) → with_end (with_end ends side (end_at ends side)) (other side) (end_at ends (other side)) ≡ ends
both_same ends Client = refl
both_same ends Server = refl

-- nothing has changed
both_unchanged : (ends : Ends) (side : Side) (e : Event) (a : Answer) (writer reader : EndpointState) → StandsFor writer (end_at ends side) → StandsFor reader (end_at ends (other side)) → LacksMemory ends e a ends
    → BothLack ends side e a writer reader
both_unchanged ends side e a writer reader writer_stands reader_stands lacks =
    record {
      written = end_at ends side;
      read = end_at ends (other side);
      writer_stands = writer_stands;
      reader_stands = reader_stands;
      lacks = subst (λ v. LacksMemory ends e a v) (sym (both_same ends side)) lacks;
    }

-- What a reader keeps.
pub record Kept (ends : Ends) (side : Side) (a : Arrival) (sent : Ends) (reader : EndpointState) : Type 0 where
  pub read : EndpointHistory
  pub stands : StandsFor reader read
  pub stores : Stores ends (other side) a sent (with_end sent (other side) read)

kept : (ends : Ends) (side : Side) (a : Arrival) (sent : Ends) (old new : EndpointState) → Receives old new a (Err deliver_error.Kept) → KeepsBehind old (stream_of a) (Err deliver_error.Kept)
    → StandsFor old (end_at ends (other side)) → Kept ends side a sent new
kept ends side a sent old new h behind stands =
    let r = end_at ends (other side) in
    let stored = h.kept r stands refl in
    record {
      read = stored.1.after;
      stands = stored.1.stands;
      stores = record {
        taken = stored.0;
        after = stored.1.after;
        read = stored.1.read;
        some = λ none. h.some_kept refl (stored.1.stands.kept ∙ none);
        behind = λ request none. behind (ap (λ s. kind_of s (stream_of a)) stands.side ∙ request) refl (stands.kept ∙ none);
        is = refl;
      };
    }

-- Bytes were offered.
module _ (ends : Ends) (side : Side) (id count : ℕ) (writer reader writer_after reader_after : EndpointState) (writer_stands : StandsFor writer (end_at ends side)) (reader_stands : StandsFor reader (end_at ends (other side))) where
  offered : (result : Result Unit DeliverError) (bytes : List ℕ) → bytes ≡ take count (bytes_waiting (end_at ends side) id) → HasBytes id count (end_at ends side) → Delivers reader reader_after id bytes result
      → (is_stored result ≡ true → Advances writer writer_after id count) → (is_stored result ≡ false → writer_after ≡ writer) → is_out_of_memory (answer_of (answer.Delivered count) (delivery_refused result)) ≡ true
      → BothLack ends side (event.Deliver side id count) (answer_of (answer.Delivered count) (delivery_refused result)) writer_after reader_after
  offered (Ok done) bytes is there delivers taken left memory = absurd (cc)
  offered (Err (deliver_error.Refused why)) bytes is there delivers taken left memory =
      let r = end_at ends (other side) in not_by_rules why (arrives r (BytesCame id bytes)).0 (arrives_tells r (BytesCame id bytes)) (delivers.receives.done r reader_stands refl).0 memory
  offered (Err (deliver_error.OutOfMemory back)) bytes is there delivers taken left memory =
      both_unchanged ends side (event.Deliver side id count) (answer.Refused refusal.OutOfMemory) writer_after reader_after (subst (λ s. StandsFor s (end_at ends side)) (sym (left refl)) writer_stands)
      (stands_unchanged reader reader_after (end_at ends (other side)) (delivers.receives.back back refl).1 reader_stands) refl
  offered (Err deliver_error.Kept) bytes is there delivers taken left memory =
      let w = end_at ends side in
      let all : min count (length (bytes_waiting w id)) ≡ count = omega (arith, there.1) in
      let stays = kept ends side (BytesCame id bytes) (handed_over ends side id count) reader reader_after delivers.receives delivers.behind reader_stands in
      record {
        written = sender.advance w id count;
        read = stays.read;
        writer_stands = subst (λ n. StandsFor writer_after (sender.advance w id n)) all (taken refl w writer_stands);
        reader_stands = stays.stands;
        lacks = (there.0, there.1, subst (λ b. Stores ends (other side) (BytesCame id b) (handed_over ends side id count) (with_end (handed_over ends side id count) (other side) stays.read)) is stays.stores);
      }

  pub bytes_lack : (a : Answer) → CarriesBytes id count writer reader a writer_after reader_after → is_out_of_memory a ≡ true → BothLack ends side (event.Deliver side id count) a writer_after reader_after
  bytes_lack a h memory = by (h.lacks memory)
    where
      by : OffersFront id count writer reader a writer_after reader_after ⊎ ((a ≡ answer.Refused refusal.OutOfMemory) × (writer_after ≡ writer) × (reader_after ≡ reader))
          → BothLack ends side (event.Deliver side id count) a writer_after reader_after
      by (inl front) =
          subst (λ v. BothLack ends side (event.Deliver side id count) v writer_after reader_after) (sym front.offers.given_is)
          (offered front.offers.result front.bytes (front.front (end_at ends side) writer_stands) (h.there memory (end_at ends side) writer_stands) front.offers.delivers front.offers.taken front.offers.left
          (subst (λ v. is_out_of_memory v ≡ true) front.offers.given_is memory))
      by (inr none) =
          subst (λ v. BothLack ends side (event.Deliver side id count) v writer_after reader_after) (sym none.0)
          (both_unchanged ends side (event.Deliver side id count) (answer.Refused refusal.OutOfMemory) writer_after reader_after (subst (λ s. StandsFor s (end_at ends side)) (sym none.1) writer_stands)
          (subst (λ s. StandsFor s (end_at ends (other side))) (sym none.2) reader_stands) refl)

-- An end or a reset was offered: the writer is as it was.
module _ (ends : Ends) (side : Side) (arrival : Arrival) (e : Event) (old new : EndpointState) (stands : StandsFor old (end_at ends (other side))) (there : Type 0) where
  told : (has : there) → (there → IsTaken (end_at ends (other side)) (stream_of arrival) → LacksMemory ends e (answer.Refused refusal.OutOfMemory) ends)
      → (there → (new : Ends) → Stores ends (other side) arrival ends new → LacksMemory ends e (answer.Refused refusal.Kept) new)
      → (result : Result Unit DeliverError) → Receives old new arrival result → KeepsBehind old (stream_of arrival) result → is_out_of_memory (told_answer result) ≡ true → OneLacks ends (other side) e (told_answer result) new
  told has unchanged keeps (Ok done) h behind memory = absurd (cc)
  told has unchanged keeps (Err (deliver_error.Refused why)) h behind memory =
      let r = end_at ends (other side) in not_by_rules why (arrives r arrival).0 (arrives_tells r arrival) (h.done r stands refl).0 memory
  told has unchanged keeps (Err (deliver_error.OutOfMemory back)) h behind memory =
      one_unchanged ends (other side) e (answer.Refused refusal.OutOfMemory) new (stands_unchanged old new (end_at ends (other side)) (h.back back refl).1 stands) (unchanged has (h.refused (end_at ends (other side)) back stands refl))
  told has unchanged keeps (Err deliver_error.Kept) h behind memory =
      let stays = kept ends side arrival ends old new h behind stands in
      record { after = stays.read; stands = stays.stands; lacks = keeps has (with_end ends (other side) stays.read) stays.stores }

module _ (ends : Ends) (side : Side) (id : ℕ) (old new : EndpointState) (a : Answer) (stands : StandsFor old (end_at ends (other side))) where
  pub end_lacks : HasEnd id (end_at ends side) → Tells told_answer (λ s t r. DeliversEnd s t id r) old new a → is_out_of_memory a ≡ true → OneLacks ends (other side) (event.DeliverEnd side id) a new
  end_lacks has h memory =
      tells_lacks told_answer (λ s t r. DeliversEnd s t id r) ends (other side) (event.DeliverEnd side id) old new a h memory
      (λ r called. told ends side (EndCame id) (event.DeliverEnd side id) old new stands (HasEnd id (end_at ends side)) has (λ there taken. (there.0, there.1, taken, refl)) (λ there new stores. (there.0, there.1, stores)) r called.receives called.behind)

  pub reset_lacks : HasReset id (end_at ends side) → Tells told_answer (λ s t r. DeliversReset s t id reset_code r) old new a → is_out_of_memory a ≡ true → OneLacks ends (other side) (event.DeliverReset side id) a new
  reset_lacks has h memory =
      tells_lacks told_answer (λ s t r. DeliversReset s t id reset_code r) ends (other side) (event.DeliverReset side id) old new a h memory
      (λ r called. told ends side (ResetCame id reset_code) (event.DeliverReset side id) old new stands (HasReset id (end_at ends side)) has (λ there taken. (there, taken, refl)) (λ there new stores. (there, stores)) r called.receives called.behind)
