-- What is handed over is answered as in the world in which its reader has caught up; if it is taken all that was kept is read.
use Rattle.std.proofs.Common.{◌≡◌, ℕ, ◌+◌, ◌≤◌, Bool, true, false, not, List, [], ◌∷◌, ◌++◌, length, take, drop, refl, sym, ap, ◌∙◌, subst, arith, nat_lt, if◌then◌else◌, Option, Some, None}
use Rattle.std.proofs.lemmas.Grind.{common_steps}
use Rattle.h3_proto.specs.declared.stream.Side.{Side}
use Rattle.h3_connection.specs.Arrivals.{stream_of}
use Rattle.h3_connection.specs.declared.arrival.Arrival.{Arrival}
use Rattle.h3_connection.specs.declared.arrival.Arrival.TheVariants.{BytesCame}
use Rattle.h3_connection.specs.declared.event.Refusal.{Refusal}
use Rattle.h3_connection.specs.declared.event.Refusal.TheVariants as refusal
use Rattle.h3_connection.specs.Delivering.{closed_by, closed_refusal, taken}
use Rattle.h3_connection.specs.Endpoint.{EndpointHistory, bytes_waiting}
use Rattle.h3_connection.specs.Keeping.{arrives, read_all, unkept}
use Rattle.h3_connection.specs.OwnIds.{other}
use Rattle.h3_connection.specs.Sending.{advance}
use Rattle.h3_connection.specs.Shown as shown
use Rattle.h3_world.specs.declared.event.Answer.{Answer}
use Rattle.h3_world.specs.declared.event.Answer.TheVariants as answer
use Rattle.h3_world.specs.Delivering.{delivered, is_closed}
use Rattle.h3_world.specs.Ends.{Ends}
use Rattle.h3_world.specs.Setup.{IsMadeSetup, Setup}
use Rattle.h3_world.specs.Streams.{has_outgoing, waiting}
use Rattle.h3_world.specs.World.{World}
use Rattle.h3_headline.specs.Cited.{Laws}
use Rattle.h3_headline.specs.DeliverLaws.{has_outgoing_is}
use Rattle.h3_memory.specs.Kept.{Delivery, Bytes, KeepingWorld, read_delivery, read_deliveries}
use Rattle.h3_memory.specs.Keeping.{MayAllBeRead, StandsKeeping, came_of, text_of}
use Rattle.h3_memory.proofs.CatchesUp.{ReadsAll, keeping_so, reads_all, standing_of}
use Rattle.h3_memory.proofs.HandsOver.{LetsGo, advanced_ahead, hands_over}
use Rattle.h3_memory.proofs.Judged.{Waits, arrives_so, outgoing_ahead, waits_at}
use Rattle.h3_memory.proofs.KeptLaws.{KeptLaws}
use Rattle.h3_memory.proofs.KeptMore.{CaughtUp, IsNext, caught_up_is}
use Rattle.h3_memory.proofs.Offered.{bytes_there}
use Rattle.h3_memory.proofs.ReadAll.{came_behind, closed_behind}
use Rattle.h3_memory.proofs.ReadingEnds.{ends_of}
use Rattle.h3_memory.proofs.ReadingState.{Reading}
use Rattle.h3_memory.proofs.TextsOf.{by_truth}

-- What the world answers and is then, by which side reads.
abbrev pub read_so : Side → World → List Delivery → List Delivery → Answer × World → Answer × KeepingWorld
read_so side w mine ds (answer.Delivered count, v) = (answer.Delivered count, keeping_so side v mine [])
read_so side w mine ds (answer.Done, v) = (answer.Done, keeping_so side v mine [])
read_so side w mine ds (given, v) = (given, keeping_so side w mine ds)

-- **Both answer alike, and the ends stand in that world.**
pub record Agrees (setup : Setup) (x : Answer × Ends) (y : Answer × KeepingWorld) : Type 0 where
  pub answer : x.0 ≡ y.0
  pub stands : StandsKeeping setup y.1 x.1

pub agrees_by : (setup : Setup) (x x_then : Answer × Ends) (y y_then : Answer × KeepingWorld) → x ≡ x_then → y ≡ y_then → Agrees setup x_then y_then → Agrees setup x y
agrees_by setup x x_then y y_then e f h = subst (λ z. Agrees setup z y) (sym e) (subst (Agrees setup x_then) (sym f) h)

pub agrees_if : (setup : Setup) (F : Answer × World → Answer × KeepingWorld) (t u : Bool) (a b : Answer × Ends) (c d : Answer × World) → t ≡ u → (u ≡ true → Agrees setup a (F c)) → (u ≡ false → Agrees setup b (F d))
    → Agrees setup (if t then a else b) (F (if u then c else d))
agrees_if setup F t u a b c d same yes_so no_so = subst (λ x. Agrees setup (if x then a else b) (F (if u then c else d))) (sym same) (by_test u refl)
  where
    by_test : (x : Bool) → u ≡ x → Agrees setup (if x then a else b) (F (if x then c else d))
    by_test true e = yes_so e
    by_test false e = no_so e

-- the ends after what was taken or refused
abbrev pub offered_to : Side → Answer → EndpointHistory → EndpointHistory → Option Refusal × EndpointHistory → Answer × Ends
offered_to side success gone g (None, e) = (success, ends_of side e gone)
offered_to side success gone g (Some r, e) = (answer.Refused r, ends_of side e g)

pub read_one_more : (setup : Setup) (w : World) (writer : Side) (ds : List Delivery) (d : Delivery) → read_deliveries setup w writer (ds ++ d ∷ []) ≡ read_delivery setup (read_deliveries setup w writer ds) writer d
read_one_more setup w writer [] d = refl
read_one_more setup w writer (first ∷ ds) d = read_one_more setup (read_delivery setup w writer first) writer ds d

-- nothing is kept
pub unkept_is : (e : EndpointHistory) → e.kept ≡ [] → e ≡ record e { kept = [] }
unkept_is e none = ap (λ l. record e { kept = l }) none

enough : (n count : ℕ) → nat_lt n count ≡ false → count ≤ n
enough n count e = grind (arith, common_steps, e)

module _ (qpack : KeptLaws) (laws : Laws) (setup : Setup) (w : World) (side : Side) (mine ds : List Delivery) (f g : EndpointHistory) (made : IsMadeSetup setup) (r : Reading setup w side mine ds (unkept f) g f.kept) where
  abbrev s : Side
  s = other side

  -- once all that is kept has been read
  abbrev W : World
  W = read_deliveries setup w s ds

  caught : ReadsAll setup w side mine ds (unkept f) g f.kept
  caught = reads_all qpack laws setup w side mine ds (unkept f) g f.kept made r

  facts : CaughtUp setup w side ds
  facts = caught_up_is setup w side ds r.here.may

  pub outgoing_before : (id : ℕ) → shown.has_outgoing g id ≡ has_outgoing w s id
  outgoing_before id = ap (λ x. shown.has_outgoing x id) r.there.is ∙ outgoing_ahead r.ew ds r.there.held r.there.incoming r.there.arrivals id ∙ has_outgoing_is setup w s id r.ew r.two.both.there

  pub outgoing_then : (id : ℕ) → shown.has_outgoing g id ≡ has_outgoing W s id
  outgoing_then id =
      let c = caught.then_reads in
      ap (λ x. shown.has_outgoing x id) c.there.is ∙ outgoing_ahead c.ew [] c.there.held c.there.incoming c.there.arrivals id ∙ has_outgoing_is setup W s id c.ew c.two.both.there

  pub waits_then : (id : ℕ) → has_outgoing W s id ≡ true → Waits setup W s g id
  waits_then id there =
      let c = caught.then_reads in
      subst (λ x. Waits setup W s x id) (sym c.there.is) (waits_at setup W s c.ew c.there.held c.there.incoming c.there.arrivals id c.two.both.there c.two.both.writes_there.updates there)

  -- as before: nothing is read of what is not taken
  pub still : StandsKeeping setup (keeping_so side w mine ds) (ends_of side f g)
  still = standing_of setup w side mine ds (unkept f) g f f.kept r refl

  -- **What is taken is read behind all that was kept.**
  pub taken_so : (d : Delivery) (a : Arrival) (gone : EndpointHistory) (success : Answer) → has_outgoing w s (stream_of a) ≡ true
      → MayAllBeRead setup w s (came_behind (came_of w s) ds) (closed_behind (is_closed w s) ds) (d ∷ []) → IsNext (text_of setup w s) (came_behind (came_of w s) ds) d a
      → LetsGo r.ew (ds ++ d ∷ []) r.there.held r.there.incoming r.there.arrivals gone
      → ((v : World) → read_so side w mine ds (success, v) ≡ (success, keeping_so side v mine []))
      → Agrees setup (offered_to side success gone g (arrives f a)) (read_so side w mine ds (if is_closed W s (stream_of a) then (answer.Refused refusal.AfterEnd, W) else (success, read_delivery setup W s d)))
  taken_so d a gone success there may next is good =
      subst (λ x. Agrees setup (offered_to side success gone g x) (read_so side w mine ds (if is_closed W s (stream_of a) then (answer.Refused refusal.AfterEnd, W) else (success, read_delivery setup W s d))))
      (sym (arrives_so setup w side mine ds f g a r there)) (by_closed (is_closed W s (stream_of a)))
    where
      z : Reading setup w side mine (ds ++ d ∷ []) (unkept f) gone (f.kept ++ a ∷ [])
      z = hands_over setup w side mine ds (unkept f) g gone f.kept d a r may next is

      all : ReadsAll setup w side mine (ds ++ d ∷ []) (unkept f) gone (f.kept ++ a ∷ [])
      all = reads_all qpack laws setup w side mine (ds ++ d ∷ []) (unkept f) gone (f.kept ++ a ∷ []) made z

      v : World
      v = read_delivery setup W s d

      after : Reading setup v side mine [] all.next gone []
      after = subst (λ x. Reading setup x side mine [] all.next gone []) (read_one_more setup w s ds d) all.then_reads

      stands : StandsKeeping setup (keeping_so side v mine []) (ends_of side all.next gone)
      stands = standing_of setup v side mine [] all.next gone all.next [] after (unkept_is all.next (ap (λ (x : EndpointHistory). x.kept) after.here.is))

      by_closed : (b : Bool) → Agrees setup (offered_to side success gone g (taken None (closed_refusal b) f (read_all (f.kept ++ a ∷ []) (unkept f))))
          (read_so side w mine ds (if b then (answer.Refused refusal.AfterEnd, W) else (success, v)))
      by_closed true = record { answer = refl; stands = still }
      by_closed false =
          agrees_by setup (offered_to side success gone g (closed_by (read_all (f.kept ++ a ∷ []) (unkept f)))) (success, ends_of side all.next gone) (read_so side w mine ds (success, v)) (success, keeping_so side v mine [])
          (ap (λ x. offered_to side success gone g (closed_by x)) all.reads) (good v) (record { answer = refl; stands = stands })

  -- **Bytes.**
  pub bytes_given : (id count : ℕ)
      → Agrees setup (if not (shown.has_outgoing g id) then (answer.NoStream, ends_of side f g) else (
      if nat_lt (shown.waiting g id) count then (answer.Short (shown.waiting g id), ends_of side f g) else
      offered_to side (answer.Delivered count) (advance g id count) g (arrives f (BytesCame id (take count (bytes_waiting g id))))))
      (read_so side w mine ds (Rattle.h3_world.specs.Delivering.delivery setup W s id count))
  bytes_given id count =
      agrees_if setup (read_so side w mine ds) (not (shown.has_outgoing g id)) (not (has_outgoing W s id)) _ _ _ _ (ap not (outgoing_then id)) (λ missing. record { answer = refl; stands = still })
      (λ has.
      let there : has_outgoing W s id ≡ true = turned (has_outgoing W s id) has in
      let k = waits_then id there in
      let before : has_outgoing w s id ≡ true = sym (outgoing_before id) ∙ outgoing_then id ∙ there in
      agrees_if setup (read_so side w mine ds) (nat_lt (shown.waiting g id) count) (nat_lt (waiting setup W s id) count) _ _ _ _ (ap (λ n. nat_lt n count) k.waits)
      (λ short. record { answer = ap answer.Short k.waits; stands = still })
      (λ fits.
      let small = enough (waiting setup W s id) count fits in
      let came_is = facts.came id in
      let text_is = facts.text id in
      by_closed id count there before k fits small))
    where
      turned : (b : Bool) → not b ≡ false → b ≡ true
      turned true e = refl
      turned false e = absurd (cc)

      by_closed : (id count : ℕ) → has_outgoing W s id ≡ true → has_outgoing w s id ≡ true → Waits setup W s g id → nat_lt (waiting setup W s id) count ≡ false → count ≤ waiting setup W s id
          → Agrees setup (offered_to side (answer.Delivered count) (advance g id count) g (arrives f (BytesCame id (take count (bytes_waiting g id)))))
          (read_so side w mine ds (if is_closed W s id then (answer.Refused refusal.AfterEnd, W) else (answer.Delivered count, delivered setup W s id count)))
      by_closed id count there before k fits small =
          by_truth (is_closed W s id)
          (λ shut. subst (λ x. Agrees setup (offered_to side (answer.Delivered count) (advance g id count) g x) (read_so side w mine ds (if is_closed W s id then (answer.Refused refusal.AfterEnd, W) else (answer.Delivered count, delivered setup W s id count))))
          (sym (arrives_so setup w side mine ds f g (BytesCame id (take count (bytes_waiting g id))) r before))
          (subst (λ b. Agrees setup (offered_to side (answer.Delivered count) (advance g id count) g (taken None (closed_refusal b) f (read_all (f.kept ++ BytesCame id (take count (bytes_waiting g id)) ∷ []) (unkept f))))
          (read_so side w mine ds (if b then (answer.Refused refusal.AfterEnd, W) else (answer.Delivered count, delivered setup W s id count)))) (sym shut) (record { answer = refl; stands = still })))
          (λ goes. taken_so (Bytes id count) (BytesCame id (take count (bytes_waiting g id))) (advance g id count) (answer.Delivered count) before
          (before, sym (facts.closed id) ∙ goes, within id (facts.came id) (facts.text id) (bytes_there setup W s id count caught.then_reads.two.sound there fits), tt)
          (refl, k.front count small ∙ ap (λ n. take count (drop n (text_of setup W s id))) (facts.came id) ∙ ap (λ l. take count (drop (came_behind (came_of w s) ds id) l)) (facts.text id))
          (advanced_ahead setup w s r.ew g ds r.there.held r.there.incoming r.there.arrivals id count r.two.both.there r.there.distinct before r.there.is)
          (λ v. refl))
        where
          within : (id : ℕ) → came_of W s id ≡ came_behind (came_of w s) ds id → text_of setup W s id ≡ text_of setup w s id → came_of W s id + count ≤ length (text_of setup W s id)
              → came_behind (came_of w s) ds id + count ≤ length (text_of setup w s id)
          within id came text fits = subst (λ l. came_behind (came_of w s) ds id + count ≤ length l) text (subst (λ n. n + count ≤ length (text_of setup W s id)) came fits)
