-- As in PartsHeld, where the order of what is kept is not that of a reader: what a decoder wrote before the settings may stand behind them.
use Rattle.std.proofs.Common.{◌≡◌, ◌⊎◌, ℕ, ◌+◌, true, List, [], ◌∷◌, ◌++◌, length, take, drop, sym, ap, ◌∙◌, subst, append-nil, if◌then◌else◌, None}
use Rattle.std.specs.Prelude.{◌==◌}
use Rattle.h3_proto.specs.declared.stream.Side.{Side}
use Rattle.h3_connection.specs.declared.arrival.Arrival.{Arrival}
use Rattle.h3_connection.specs.declared.arrival.Arrival.TheVariants.{BytesCame}
use Rattle.h3_connection.specs.Control.{Found}
use Rattle.h3_connection.specs.Endpoint.{EndpointHistory}
use Rattle.h3_connection.specs.Incoming.{Incoming}
use Rattle.h3_connection.specs.Keeping.{read_arrival}
use Rattle.h3_connection.specs.Outgoing.{Outgoing}
use Rattle.h3_connection.specs.OwnIds.{other, is_own, decoder_id}
use Rattle.h3_connection.specs.StreamSets.{HaveDistinctIds, Streams}
use Rattle.h3_world.specs.Delivering.{is_closed}
use Rattle.h3_world.specs.Setup.{IsMadeSetup, Setup}
use Rattle.h3_world.specs.World.{World}
use Rattle.h3_headline.specs.Cited.{Laws}
use Rattle.h3_memory.specs.Kept.{Delivery, Bytes, read_delivery, ReadsPart, Reads, Cuts}
use Rattle.h3_memory.specs.Keeping.{AreKept, ComesFirst, EachResumes, Held, MayAllBeRead, ahead, came_of, held_of, text_of, with_count, without_held}
use Rattle.h3_memory.proofs.BehindOwn.{BehindReads, found_as}
use Rattle.h3_memory.proofs.BehindReads.{behind_reads}
use Rattle.h3_memory.proofs.CutReading.{InTwo, in_two, counted_at, counted_twice, writes_two}
use Rattle.h3_memory.proofs.KeptAlike.{kept_alike}
use Rattle.h3_memory.proofs.KeptLaws.{KeptLaws}
use Rattle.h3_memory.proofs.OwnAhead.{own_kind, streams_of, unidirectional_leaves}
use Rattle.h3_memory.proofs.PartSteps.{PartStep}
use Rattle.h3_memory.proofs.PartsHeld.{holding, holding_at, holding_without, told_holding}
use Rattle.h3_memory.proofs.ReadAll.{two_readable}
use Rattle.h3_memory.proofs.ReadDeliveries.{ReadOn, may_after, read_on}
use Rattle.h3_memory.proofs.ReadingEnds.{Two, handed}
use Rattle.h3_memory.proofs.ReadingState.{WritesAt, none_before, writes_after}

-- What is kept at a reader, in any order.
pub record Loose (setup : Setup) (w : World) (side : Side) (mine ds : List Delivery) (g : EndpointHistory) (arrivals : List Arrival) : Type 0 where
  pub er : EndpointHistory
  pub ew : EndpointHistory
  pub two : Two setup w side er ew
  pub held : Held
  pub incoming : Streams Incoming
  pub resumes : EachResumes side er.announced er.incoming incoming
  pub kept : AreKept (text_of setup w (other side)) (came_of w (other side)) (held_of (other side) held) ds arrivals
  pub may : MayAllBeRead setup w (other side) (came_of w (other side)) (is_closed w (other side)) ds
  pub untold : (id : ℕ) → came_of w (other side) id ≡ 0 → held_of (other side) held id ≡ []
  pub distinct : HaveDistinctIds er.outgoing
  pub there : WritesAt setup w side mine ds ew g

module _ (qpack : KeptLaws) (laws : Laws) (setup : Setup) (w : World) (side : Side) (mine : List Delivery) (g : EndpointHistory) (made : IsMadeSetup setup) where
  abbrev s : Side
  s = other side

  -- **Some of what is held of an own stream is read.**
  pub loose_part : (new : EndpointHistory) (q count : ℕ) (ds : List Delivery) (i : ℕ) (read left : List ℕ) (more : List Arrival) → is_own s q ≡ true → (came_of w s q ≡ 0 → ⊥)
      → (r : Loose setup w side mine (Bytes q count ∷ ds) g (BytesCame i [] ∷ more)) → held_of s r.held q ≡ read ++ left
      → new ≡ ahead (read_arrival r.er (BytesCame q read)).0 mine (holding s r.held q left) r.incoming []
      → ((read_arrival r.er (BytesCame q read)).0.peer.settings ≡ None → ((holding s r.held q left).decoder ≡ []) ⊎ ComesFirst (decoder_id s) (BytesCame i [] ∷ more))
      → PartStep setup w side mine (Bytes q count ∷ ds) new g (BytesCame i [] ∷ more)
  loose_part new q count ds i read left more own told r all is early =
      record {
        world = v;
        left = Bytes q m ∷ ds;
        goes = λ x rest p. subst (λ k. ReadsPart setup s w (Bytes q k ∷ ds) x rest) (sym two.size) (Cuts q n m (Reads (Bytes q n) p));
        reading = record {
          er = b.after;
          ew = handed r.ew (Bytes q n ∷ []);
          two = b.two;
          here = record {
            held = holding s r.held q left;
            incoming = r.incoming;
            is = is ∙ ap (λ (x : Found). ahead x.0 mine (holding s r.held q left) r.incoming []) reads;
            resumes = resumes;
            kept = (
              r.kept.0,
              stands,
              kept_alike (text_of setup w s) (text_of setup v s) (with_count (came_of w s) q count) (with_count (came_of v s) q m) (without_held (held_of s r.held) q)
                  (without_held (held_of s (holding s r.held q left)) q) ds more on.text counts (λ j. holding_without s r.held q left j own) r.kept.2,
            );
            may = may_after setup w side (Bytes q n) (Bytes q m ∷ ds) may;
            early = λ unknown. early (ap (λ (x : Found). x.0.peer.settings) reads ∙ unknown);
            untold = told_holding s r.held q left (came_of w s) (came_of v s) own told (λ j none. none_before (came_of w s) (Bytes q n) j (came_of v s j) (on.came j) none) r.untold;
            distinct = subst HaveDistinctIds (sym (ap (λ (x : Streams Incoming × Streams Outgoing). x.1) same)) r.distinct;
          };
          there = writes_after setup w side mine (Bytes q n) (Bytes q m ∷ ds) r.ew g may (writes_two setup w side mine q n m ds r.ew g (subst (λ k. WritesAt setup w side mine (Bytes q k ∷ ds) r.ew g) two.size r.there));
        };
      }
    where
      n : ℕ
      n = length read

      m : ℕ
      m = length left

      two : InTwo (text_of setup w s q) (came_of w s q) count read left
      two = in_two (text_of setup w s q) (came_of w s q) count read left r.may.2 (sym all ∙ sym (append-nil (held_of s r.held q)) ∙ r.kept.1)

      may : MayAllBeRead setup w s (came_of w s) (is_closed w s) (Bytes q n ∷ Bytes q m ∷ ds)
      may = two_readable setup w s q n m ds (subst (λ k. MayAllBeRead setup w s (came_of w s) (is_closed w s) (Bytes q k ∷ ds)) two.size r.may)

      v : World
      v = read_delivery setup w s (Bytes q n)

      on : ReadOn setup w v side (Bytes q n)
      on = read_on setup w side (Bytes q n) (Bytes q m ∷ ds) may

      b : BehindReads setup w side r.er r.ew (Bytes q n)
      b = behind_reads qpack laws setup w side r.er r.ew (Bytes q n) (Bytes q m ∷ ds) made r.two may

      reads : read_arrival r.er (BytesCame q read) ≡ found_as b.after
      reads = ap (λ l. read_arrival r.er (BytesCame q l)) two.first ∙ b.reads

      same : streams_of b.after ≡ streams_of r.er
      same = sym (ap (λ (x : Found). streams_of x.0) reads) ∙ unidirectional_leaves r.er q read (own_kind setup w side r.er q r.two.both.here own)

      resumes : EachResumes side b.after.announced b.after.incoming r.incoming
      resumes =
          subst (λ l. EachResumes side b.after.announced l r.incoming) (sym (ap (λ (x : Streams Incoming × Streams Outgoing). x.0) same))
          (subst (λ p. EachResumes side p r.er.incoming r.incoming) (r.two.both.here.announced ∙ sym b.two.both.here.announced) r.resumes)

      counts : (j : ℕ) → with_count (came_of v s) q m j ≡ with_count (came_of w s) q count j
      counts j = ap (λ k. if j == q then k + m else k) (on.came j) ∙ counted_twice (came_of w s) q n m j ∙ ap (λ k. with_count (came_of w s) q k j) (sym two.size)

      stands : held_of s (holding s r.held q left) q ++ [] ≡ take m (drop (came_of v s q) (text_of setup v s q))
      stands =
          append-nil (held_of s (holding s r.held q left) q) ∙ holding_at s r.held q left own ∙ two.second
          ∙ ap (λ k. take m (drop k (text_of setup w s q))) (sym (on.came q ∙ counted_at (came_of w s) q n))
          ∙ ap (λ l. take m (drop (came_of v s q) l)) (sym (on.text q))
