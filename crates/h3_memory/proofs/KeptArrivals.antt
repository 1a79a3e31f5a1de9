-- What is handed over is kept behind what is kept, and a part of all that is read.
use Rattle.std.proofs.Common.{◌≡◌, ℕ, ◌+◌, ◌≤◌, Bool, true, false, not, ◌&&◌, ◌||◌, List, [], ◌∷◌, ◌++◌, length, take, drop, refl, sym, ap, ◌∙◌, subst, arith, nat_lt, if◌then◌else◌, Option, Some, None}
use Rattle.std.specs.Prelude.{◌==◌, option_map, unwrap_or}
use Rattle.std.proofs.lemmas.Grind.{common_steps}
use Rattle.h3_proto.specs.declared.stream.Side.{Side}
use Rattle.h3_connection.specs.Arrivals.{is_closed_in}
use Rattle.h3_connection.specs.declared.arrival.Arrival.{Arrival}
use Rattle.h3_connection.specs.declared.arrival.Arrival.TheVariants.{BytesCame, EndCame, ResetCame}
use Rattle.h3_connection.specs.declared.event.Refusal.TheVariants as refusal
use Rattle.h3_connection.specs.Delivering.{closed_refusal}
use Rattle.h3_connection.specs.Endpoint.{EndpointHistory, bytes_waiting}
use Rattle.h3_connection.specs.Keeping.{keeping, refused_behind, unkept}
use Rattle.h3_connection.specs.Outgoing.{Outgoing}
use Rattle.h3_connection.specs.OwnIds.{other, is_own}
use Rattle.h3_connection.specs.PartReading as reading
use Rattle.h3_connection.specs.ReceivingContracts.{IsTaken}
use Rattle.h3_connection.specs.Sending.{advance}
use Rattle.h3_connection.specs.Shown as shown
use Rattle.h3_connection.specs.StreamSets.{stream_at}
use Rattle.h3_world.specs.declared.event.Answer.{Answer}
use Rattle.h3_world.specs.declared.event.Answer.TheVariants as answer
use Rattle.h3_world.specs.Delivering.{delivered, delivered_end, delivered_reset, delivery, end_delivery, is_closed, may_end, reset_code, reset_delivery}
use Rattle.h3_world.specs.Order.{is_finished}
use Rattle.h3_world.specs.Setup.{IsMadeSetup, Setup}
use Rattle.h3_world.specs.Streams.{flow, is_open, has_outgoing, waiting}
use Rattle.h3_world.specs.World.{World}
use Rattle.h3_headline.specs.Cited.{Laws}
use Rattle.h3_headline.specs.FlowLaws.{same_number}
use Rattle.h3_memory.specs.Kept.{Delivery, Bytes, End, Reset, noticed_all, read_deliveries, ReadsPart}
use Rattle.h3_memory.specs.Keeping.{AreKept, MayAllBeRead, StandsKeeping, ahead, came_of, text_of}
use Rattle.h3_memory.proofs.CatchesUp.{ReadsAll, keeping_so, reads_all}
use Rattle.h3_memory.proofs.Giving.{outgoing_before, outgoing_then, waits_then}
use Rattle.h3_memory.proofs.GivingEnds.{all_came, before_of, both_are, ends_then, neither_of, not_it_is, resets_then, still_finished, still_reset}
use Rattle.h3_memory.proofs.HandsOver.{LetsGo, advanced_ahead, hands_over, told_ahead}
use Rattle.h3_memory.proofs.Judged.{Waits, refused_ahead}
use Rattle.h3_memory.proofs.KeptLaws.{KeptLaws}
use Rattle.h3_memory.proofs.KeptMore.{CaughtUp, IsNext, caught_up_is, refused_is}
use Rattle.h3_memory.proofs.Offered.{bytes_there}
use Rattle.h3_memory.proofs.PartRuns.{PartRead, ReadsFramesOn, part_read_on}
use Rattle.h3_memory.proofs.ReadAll.{came_behind, closed_behind}
use Rattle.h3_memory.proofs.ReadingEnds.{ends_of}
use Rattle.h3_memory.proofs.ReadingState.{Reading}
use Rattle.h3_memory.proofs.TextsOf.{second_is}

-- Streams of which something is left are opened.
abbrev pub Notices : Setup → Type 0
Notices setup =
    (w : World) (side : Side) (mine ds : List Delivery) (f g : EndpointHistory) (arrivals : List Arrival) → Reading setup w side mine ds f g arrivals
    → StandsKeeping setup (keeping_so side (noticed_all w (other side) ds) mine ds) (ends_of side (keeping f arrivals) g)

-- What is kept now, of it and of what was kept.
pub record KeptSo (setup : Setup) (w : World) (side : Side) (mine ds : List Delivery) (d : Delivery) (gone after : EndpointHistory) : Type 0 where
  pub mid : World
  pub left : List Delivery
  pub read : ReadsPart setup (other side) w (ds ++ d ∷ []) mid left
  pub stands : StandsKeeping setup (keeping_so side (noticed_all mid (other side) left) mine left) (ends_of side after gone)
  pub some : (after.kept ≡ [] → ⊥) → left ≡ [] → ⊥

-- nothing is kept where nothing is
pub none_kept : (text : ℕ → List ℕ) (came : ℕ → ℕ) (held : ℕ → List ℕ) (ds : List Delivery) (arrivals : List Arrival) → ds ≡ [] → AreKept text came held ds arrivals → arrivals ≡ []
none_kept text came held [] [] none kept = refl
none_kept text came held [] (a ∷ arrivals) none kept = absurd kept
none_kept text came held (d ∷ ds) arrivals none kept = absurd (cc)

not_closed : (b : Bool) → closed_refusal b ≡ None → b ≡ false
not_closed true e = absurd (cc)
not_closed false e = refl

fits_in : (n count : ℕ) → count ≤ n → nat_lt n count ≡ false
fits_in n count h = grind (arith, common_steps, h)

is_nothing : (n : ℕ) → n ≡ 0 → (n == 0) ≡ true
is_nothing n e = ap (λ m. m == 0) e

-- three tests
passes : {X : Type 0} (a b c : Bool) (x y z v : X) → a ≡ false → b ≡ false → c ≡ false → (if a then x else (if b then y else (if c then z else v))) ≡ v
passes a b c x y z v e f g = ap (λ t. if t then x else (if b then y else (if c then z else v))) e ∙ ap (λ t. if t then y else (if c then z else v)) f ∙ ap (λ t. if t then z else v) g

module _ (qpack : KeptLaws) (laws : Laws) (setup : Setup) (w : World) (side : Side) (mine ds : List Delivery) (f g : EndpointHistory) (made : IsMadeSetup setup) (r : Reading setup w side mine ds (unkept f) g f.kept)
    (frames : ReadsFramesOn setup) (notices : Notices setup) where
  abbrev s : Side
  s = other side

  abbrev W : World
  W = read_deliveries setup w s ds

  caught : ReadsAll setup w side mine ds (unkept f) g f.kept
  caught = reads_all qpack laws setup w side mine ds (unkept f) g f.kept made r

  facts : CaughtUp setup w side ds
  facts = caught_up_is setup w side ds r.here.may

  -- it would have been taken
  goes_on : (id : ℕ) → has_outgoing w s id ≡ true → IsTaken f id → is_closed W s id ≡ false
  goes_on id there taken =
      not_closed (is_closed W s id)
      (ap closed_refusal (facts.closed id)
      ∙ sym (ap (refused_behind (is_closed_in f.kept id)) (refused_ahead setup w side mine ds (unkept f) g f.kept id r there)
      ∙ refused_is (text_of setup w s) (came_of w s) _ (is_closed w s) ds f.kept id r.here.kept)
      ∙ taken.accepted)

  -- **It is kept, and a part of all is read.**
  kept_so : (d : Delivery) (a : Arrival) (gone after : EndpointHistory) → MayAllBeRead setup w s (came_behind (came_of w s) ds) (closed_behind (is_closed w s) ds) (d ∷ []) → IsNext (text_of setup w s) (came_behind (came_of w s) ds) d a
      → LetsGo r.ew (ds ++ d ∷ []) r.there.held r.there.incoming r.there.arrivals gone → reading.ReadsPart (unkept f) (f.kept ++ a ∷ []) after → KeptSo setup w side mine ds d gone after
  kept_so d a gone after may next is part =
      let z = hands_over setup w side mine ds (unkept f) g gone f.kept d a r may next is in
      let p : PartRead setup w side mine (ds ++ d ∷ []) gone after = part_read_on qpack laws setup made frames w side mine (ds ++ d ∷ []) gone part z in
      record {
        mid = p.world;
        left = p.left;
        read = p.read;
        stands = subst (λ x. StandsKeeping setup (keeping_so side (noticed_all p.world s p.left) mine p.left) (ends_of side x gone)) (sym p.is) (notices p.world side mine p.left p.next gone p.arrivals p.reading);
        some = λ kept none. kept (ap (λ (x : EndpointHistory). x.kept) p.is ∙ none_kept (text_of setup p.world s) (came_of p.world s) _ p.left p.arrivals none p.reading.here.kept);
      }

  -- **Bytes.**
  pub record KeptBytes (id count : ℕ) (after : EndpointHistory) : Type 0 where
    pub offered : (delivery setup W s id count).0 ≡ answer.Delivered count
    pub kept : KeptSo setup w side mine ds (Bytes id count) (advance g id count) after

  pub bytes_kept : (id count : ℕ) (after : EndpointHistory) → shown.has_outgoing g id ≡ true → count ≤ shown.waiting g id → IsTaken f id
      → reading.ReadsPart (unkept f) (f.kept ++ BytesCame id (take count (bytes_waiting g id)) ∷ []) after → KeptBytes id count after
  bytes_kept id count after has fits taken part =
      let there : has_outgoing W s id ≡ true = sym (outgoing_then qpack laws setup w side mine ds f g made r id) ∙ has in
      let before : has_outgoing w s id ≡ true = sym (outgoing_before qpack laws setup w side mine ds f g made r id) ∙ has in
      let k : Waits setup W s g id = waits_then qpack laws setup w side mine ds f g made r id there in
      let small : count ≤ waiting setup W s id = subst (λ n. count ≤ n) k.waits fits in
      let goes = goes_on id before taken in
      let enough = fits_in (waiting setup W s id) count small in
      record {
        offered = ap (λ (x : Answer × World). x.0) (passes (not (has_outgoing W s id)) (nat_lt (waiting setup W s id) count) (is_closed W s id) (answer.NoStream, W) (answer.Short (waiting setup W s id), W) (answer.Refused refusal.AfterEnd, W)
            (answer.Delivered count, delivered setup W s id count) (ap not there) enough goes);
        kept = kept_so (Bytes id count) (BytesCame id (take count (bytes_waiting g id))) (advance g id count) after
            (before, sym (facts.closed id) ∙ goes, within (facts.came id) (facts.text id) (bytes_there setup W s id count caught.then_reads.two.sound there enough), tt)
            (refl, k.front count small ∙ ap (λ n. take count (drop n (text_of setup W s id))) (facts.came id) ∙ ap (λ l. take count (drop (came_behind (came_of w s) ds id) l)) (facts.text id))
            (advanced_ahead setup w s r.ew g ds r.there.held r.there.incoming r.there.arrivals id count r.two.both.there r.there.distinct before r.there.is) part;
      }
    where
      within : came_of W s id ≡ came_behind (came_of w s) ds id → text_of setup W s id ≡ text_of setup w s id → came_of W s id + count ≤ length (text_of setup W s id) → came_behind (came_of w s) ds id + count ≤ length (text_of setup w s id)
      within came text fits = subst (λ l. came_behind (came_of w s) ds id + count ≤ length l) text (subst (λ n. n + count ≤ length (text_of setup W s id)) came fits)

  -- a stream that is finished or reset is one that is sent
  sent_by : (id : ℕ) (o : Option Outgoing) → stream_at g.outgoing id ≡ o → (o ≡ None → ⊥) → shown.has_outgoing g id ≡ true
  sent_by id None at some = absurd (some refl)
  sent_by id (Some o) at some = ap (λ x. is_own g.side id || Rattle.std.specs.Prelude.is_some x) at ∙ or_so (is_own g.side id)
    where
      or_so : (b : Bool) → (b || true) ≡ true
      or_so true = refl
      or_so false = refl

  finished_sent : (id : ℕ) → shown.is_finished g id ≡ true → shown.has_outgoing g id ≡ true
  finished_sent id e = sent_by id (stream_at g.outgoing id) refl (λ none. no_way (sym (ap (λ o. unwrap_or (option_map (λ (x : Outgoing). x.is_finished) o) false) none) ∙ e))
    where
      no_way : false ≡ true → ⊥
      no_way e = cc

  reset_sent : (id : ℕ) → shown.is_reset g id ≡ true → shown.has_outgoing g id ≡ true
  reset_sent id e = sent_by id (stream_at g.outgoing id) refl (λ none. no_way (sym (ap (λ o. unwrap_or (option_map (λ (x : Outgoing). x.is_reset) o) false) none) ∙ e))
    where
      no_way : false ≡ true → ⊥
      no_way e = cc

  -- **The end.**
  pub record EndOffered (id : ℕ) : Type 0 where
    pub offered : (end_delivery setup W s id).0 ≡ answer.Done
    pub may : MayAllBeRead setup w s (came_behind (came_of w s) ds) (closed_behind (is_closed w s) ds) (End id ∷ [])

  pub end_offered : (id : ℕ) → shown.is_finished g id ≡ true → shown.waiting g id ≡ 0 → IsTaken f id → EndOffered id
  end_offered id finished none taken =
      let has = finished_sent id finished in
      let there : has_outgoing W s id ≡ true = sym (outgoing_then qpack laws setup w side mine ds f g made r id) ∙ has in
      let before = before_of qpack laws setup w side mine ds f g made r id there in
      let goes = goes_on id before taken in
      let over : may_end setup W s id ≡ true = sym (ends_then qpack laws setup w side mine ds f g made r id there) ∙ ap (λ b. b && (shown.waiting g id == 0)) finished ∙ is_nothing (shown.waiting g id) none in
      let parts = both_are (not (is_own s id) && is_finished (flow W s id)) (waiting setup W s id == 0) over in
      let two = both_are (not (is_own s id)) (is_finished (flow W s id)) parts.0 in
      let off = not_it_is (is_own s id) two.0 in
      record {
        offered = ap (λ (x : Answer × World). x.0) (passes (not (has_outgoing W s id)) (not (may_end setup W s id)) (is_closed W s id) (answer.NoStream, W) (answer.Early, W) (answer.Refused refusal.AfterEnd, W) (answer.Done, delivered_end W s id)
            (ap not there) (ap not over) goes);
        may = (
          second_is (is_own s id) (is_open w s id) off before,
          sym (facts.closed id) ∙ goes,
          still_finished qpack laws setup w side mine ds f g made r id before off there two.1,
          sym (facts.came id) ∙ all_came setup W s id caught.then_reads.two.sound there off two.1 (same_number (waiting setup W s id) 0 parts.1) ∙ ap length (facts.text id),
          tt,
        );
      }

  pub end_kept : (id : ℕ) (after : EndpointHistory) → EndOffered id → reading.ReadsPart (unkept f) (f.kept ++ EndCame id ∷ []) after → KeptSo setup w side mine ds (End id) g after
  end_kept id after e part = kept_so (End id) (EndCame id) g after e.may refl (told_ahead r.ew g ds (End id) r.there.held r.there.incoming r.there.arrivals (λ q. refl) r.there.is) part

  -- **The reset.**
  pub record ResetOffered (id : ℕ) : Type 0 where
    pub offered : (reset_delivery W s id).0 ≡ answer.Done
    pub may : MayAllBeRead setup w s (came_behind (came_of w s) ds) (closed_behind (is_closed w s) ds) (Reset id ∷ [])

  pub reset_offered : (id : ℕ) → shown.is_reset g id ≡ true → IsTaken f id → ResetOffered id
  reset_offered id broken taken =
      let has = reset_sent id broken in
      let there : has_outgoing W s id ≡ true = sym (outgoing_then qpack laws setup w side mine ds f g made r id) ∙ has in
      let before = before_of qpack laws setup w side mine ds f g made r id there in
      let goes = goes_on id before taken in
      let cut : not (shown.is_reset g id) ≡ false = ap not broken in
      let told : (is_own s id || not (flow W s id).is_reset) ≡ false = sym (resets_then qpack laws setup w side mine ds f g made r id there) ∙ cut in
      let off = (neither_of (is_own s id) (not (flow W s id).is_reset) told).0 in
      record {
        offered = ap (λ (x : Answer × World). x.0) (passes (not (has_outgoing W s id)) (is_own s id || not (flow W s id).is_reset) (is_closed W s id) (answer.NoStream, W) (answer.Early, W) (answer.Refused refusal.AfterEnd, W) (answer.Done, delivered_reset W s id)
            (ap not there) told goes);
        may = (second_is (is_own s id) (is_open w s id) off before, sym (facts.closed id) ∙ goes, still_reset qpack laws setup w side mine ds f g made r id before off cut, tt);
      }

  pub reset_kept : (id : ℕ) (after : EndpointHistory) → ResetOffered id → reading.ReadsPart (unkept f) (f.kept ++ ResetCame id reset_code ∷ []) after → KeptSo setup w side mine ds (Reset id) g after
  reset_kept id after e part = kept_so (Reset id) (ResetCame id reset_code) g after e.may (refl, refl) (told_ahead r.ew g ds (Reset id) r.there.held r.there.incoming r.there.arrivals (λ q. refl) r.there.is) part
