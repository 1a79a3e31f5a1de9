-- The first of what is kept in two, and a part of what is held of an own stream that is read.
use Rattle.std.proofs.Common.{◌≡◌, ℕ, ◌+◌, ◌≤◌, Bool, true, false, List, [], ◌∷◌, ◌++◌, length, take, drop, refl, sym, ap, ◌∙◌, subst, arith, append_assoc, length-append, if◌then◌else◌}
use Rattle.std.specs.Prelude.{◌==◌, map}
use Rattle.std.proofs.lemmas.List.{length-drop, length-take-le}
use Rattle.h3_proto.specs.declared.stream.Side.{Side}
use Rattle.h3_connection.specs.declared.arrival.Arrival.{Arrival}
use Rattle.h3_connection.specs.declared.arrival.Arrival.TheVariants.{BytesCame}
use Rattle.h3_connection.specs.Endpoint.{EndpointHistory}
use Rattle.h3_connection.specs.Incoming.{Incoming}
use Rattle.h3_connection.specs.Outgoing.{Outgoing}
use Rattle.h3_connection.specs.OwnIds.{other, control_id, encoder_id, decoder_id}
use Rattle.h3_connection.specs.StreamSets.{Streams}
use Rattle.h3_world.specs.Setup.{Setup}
use Rattle.h3_world.specs.Delivering.{is_closed}
use Rattle.h3_world.specs.World.{World}
use Rattle.h3_headline.specs.WaitingLaws.{self}
use Rattle.h3_memory.specs.Kept.{Delivery, Bytes}
use Rattle.h3_memory.specs.Keeping.{Held, MayAllBeRead, ahead, bytes_in, came_of, handed_stream, held_of, text_of, with_count, without_held}
use Rattle.h3_memory.proofs.KeptAlike.{kept_alike}
use Rattle.h3_memory.proofs.ReadAll.{two_readable}
use Rattle.h3_memory.proofs.ReadingEnds.{taken_alike}
use Rattle.h3_memory.proofs.ReadingState.{Reading, WritesAt}

-- So many bytes of a list.
front_of_all : (n m : ℕ) (xs ys all : List ℕ) → length xs ≡ n → xs ++ ys ≡ take (n + m) all → xs ≡ take n all
front_of_all n m [] ys all size is = let none : n ≡ 0 = sym size in sym (ap (λ k. take k all) none)
front_of_all n m (x ∷ xs) ys [] size is = absurd (nothing (is ∙ none (n + m)))
  where
    none : (k : ℕ) → ◌≡◌ {A = List ℕ} (take k []) []
    none Rattle.std.specs.Prelude.zero = refl
    none (Rattle.std.specs.Prelude.suc k) = refl

    nothing : x ∷ (xs ++ ys) ≡ [] → ⊥
    nothing e = cc
front_of_all n m (x ∷ xs) ys (y ∷ all) size is =
    let first : n ≡ Rattle.std.specs.Prelude.suc (length xs) = sym size in
    let sizes : Rattle.std.specs.Prelude.suc (length xs) + m ≡ Rattle.std.specs.Prelude.suc (length xs + m) = omega arith in
    let both : x ∷ (xs ++ ys) ≡ y ∷ take (length xs + m) all = is ∙ ap (λ k. take k (y ∷ all)) (ap (λ k. k + m) first ∙ sizes) in
    let parts = split x y (xs ++ ys) (take (length xs + m) all) both in
    ap (λ z. z ∷ xs) parts.0 ∙ ap (λ l. y ∷ l) (front_of_all (length xs) m xs ys all refl parts.1) ∙ sym (ap (λ k. take k (y ∷ all)) first)
  where
    split : (a b : ℕ) (l r : List ℕ) → a ∷ l ≡ b ∷ r → (a ≡ b) × (l ≡ r)
    split a b l r e = (cc, cc)

rest_of_all : (n m : ℕ) (xs ys all : List ℕ) → length xs ≡ n → xs ++ ys ≡ take (n + m) all → ys ≡ take m (drop n all)
rest_of_all n m [] ys all size is =
    let none : n ≡ 0 = sym size in
    let sizes : 0 + m ≡ m = omega arith in
    is ∙ ap (λ k. take (k + m) all) none ∙ ap (λ k. take k all) sizes ∙ sym (ap (λ k. take m (drop k all)) none)
rest_of_all n m (x ∷ xs) ys [] size is = absurd (nothing (is ∙ none (n + m)))
  where
    none : (k : ℕ) → ◌≡◌ {A = List ℕ} (take k []) []
    none Rattle.std.specs.Prelude.zero = refl
    none (Rattle.std.specs.Prelude.suc k) = refl

    nothing : x ∷ (xs ++ ys) ≡ [] → ⊥
    nothing e = cc
rest_of_all n m (x ∷ xs) ys (y ∷ all) size is =
    let first : n ≡ Rattle.std.specs.Prelude.suc (length xs) = sym size in
    let sizes : Rattle.std.specs.Prelude.suc (length xs) + m ≡ Rattle.std.specs.Prelude.suc (length xs + m) = omega arith in
    let both : x ∷ (xs ++ ys) ≡ y ∷ take (length xs + m) all = is ∙ ap (λ k. take k (y ∷ all)) (ap (λ k. k + m) first ∙ sizes) in
    rest_of_all (length xs) m xs ys all refl (tail x y (xs ++ ys) (take (length xs + m) all) both) ∙ sym (ap (λ k. take m (drop k (y ∷ all))) first)
  where
    tail : (a b : ℕ) (l r : List ℕ) → a ∷ l ≡ b ∷ r → l ≡ r
    tail a b l r e = cc

drop_both : (a b : ℕ) (l : List ℕ) → drop b (drop a l) ≡ drop (a + b) l
drop_both Rattle.std.specs.Prelude.zero b l = let e : 0 + b ≡ b = omega arith in sym (ap (λ k. drop k l) e)
drop_both (Rattle.std.specs.Prelude.suc a) b [] = none b ∙ sym (none (Rattle.std.specs.Prelude.suc a + b))
  where
    none : (k : ℕ) → ◌≡◌ {A = List ℕ} (drop k []) []
    none Rattle.std.specs.Prelude.zero = refl
    none (Rattle.std.specs.Prelude.suc k) = refl
drop_both (Rattle.std.specs.Prelude.suc a) b (x ∷ l) =
    let e : Rattle.std.specs.Prelude.suc a + b ≡ Rattle.std.specs.Prelude.suc (a + b) = omega arith in
    drop_both a b l ∙ sym (ap (λ k. drop k (x ∷ l)) e)

-- **The bytes of a kept delivery in two parts.**
pub record InTwo (text : List ℕ) (came count : ℕ) (xs ys : List ℕ) : Type 0 where
  pub size : count ≡ length xs + length ys
  pub first : xs ≡ take (length xs) (drop came text)
  pub second : ys ≡ take (length ys) (drop (came + length xs) text)

pub in_two : (text : List ℕ) (came count : ℕ) (xs ys : List ℕ) → came + count ≤ length text → xs ++ ys ≡ take count (drop came text) → InTwo text came count xs ys
in_two text came count xs ys fits is =
    let whole : length (take count (drop came text)) ≡ count = length-take-le count (drop came text) (omega (arith, fits, length-drop came text)) in
    let size : count ≡ length xs + length ys = omega (arith, whole, ap length is, length-append xs ys) in
    let all = is ∙ ap (λ k. take k (drop came text)) size in
    record {
      size = size;
      first = front_of_all (length xs) (length ys) xs ys (drop came text) refl all;
      second = rest_of_all (length xs) (length ys) xs ys (drop came text) refl all ∙ ap (take (length ys)) (drop_both came (length xs) text);
    }

-- counts and held bytes behind both parts
pub counted_twice : (came : ℕ → ℕ) (id n m i : ℕ) → with_count (with_count came id n) id m i ≡ with_count came id (n + m) i
counted_twice came id n m i = by_id (i == id)
  where
    by_id : (b : Bool) → (if b then (if b then came i + n else came i) + m else (if b then came i + n else came i)) ≡ (if b then came i + (n + m) else came i)
    by_id true = omega arith
    by_id false = refl

pub held_twice : (held : ℕ → List ℕ) (id i : ℕ) → without_held (without_held held id) id i ≡ without_held held id i
held_twice held id i = by_id (i == id)
  where
    by_id : (b : Bool) → (if b then [] else (if b then [] else held i)) ≡ (if b then [] else held i)
    by_id true = refl
    by_id false = refl

pub counted_at : (came : ℕ → ℕ) (id n : ℕ) → with_count came id n id ≡ came id + n
counted_at came id n = ap (λ b. if b then came id + n else came id) (self id)

pub without_at : (held : ℕ → List ℕ) (id : ℕ) → without_held held id id ≡ []
without_at held id = ap (λ b. if b then [] else held id) (self id)

-- what is ahead is as much
two_in : (id q n m : ℕ) (ds : List Delivery) → bytes_in q (Bytes id n ∷ Bytes id m ∷ ds) ≡ bytes_in q (Bytes id (n + m) ∷ ds)
two_in id q n m ds = by_id (id == q)
  where
    by_id : (b : Bool) → (if b then n else 0) + ((if b then m else 0) + bytes_in q ds) ≡ (if b then n + m else 0) + bytes_in q ds
    by_id true = omega arith
    by_id false = omega arith

streams_two : (streams : Streams Outgoing) (id n m : ℕ) (ds : List Delivery) → map (handed_stream (Bytes id (n + m) ∷ ds)) streams ≡ map (handed_stream (Bytes id n ∷ Bytes id m ∷ ds)) streams
streams_two [] id n m ds = refl
streams_two ((q, o) ∷ streams) id n m ds =
    ap (λ k. (q, record o { taken = o.taken + k }) ∷ map (handed_stream (Bytes id (n + m) ∷ ds)) streams) (sym (two_in id q n m ds))
    ∙ ap (λ l. handed_stream (Bytes id n ∷ Bytes id m ∷ ds) (q, o) ∷ l) (streams_two streams id n m ds)

pub ahead_two : (e : EndpointHistory) (id n m : ℕ) (ds : List Delivery) (held : Held) (incoming : Streams Incoming) (kept : List Arrival)
    → ahead e (Bytes id (n + m) ∷ ds) held incoming kept ≡ ahead e (Bytes id n ∷ Bytes id m ∷ ds) held incoming kept
ahead_two e id n m ds held incoming kept =
    let more : (q : ℕ) → bytes_in q (Bytes id (n + m) ∷ ds) ≡ bytes_in q (Bytes id n ∷ Bytes id m ∷ ds) = λ q. sym (two_in id q n m ds) in
    ap (λ o. record (ahead e (Bytes id (n + m) ∷ ds) held incoming kept) { own = o })
    (taken_alike e.own _ _ _ _ _ _ (ap (λ k. e.own.control_taken + k) (more (control_id e.side))) (ap (λ k. e.own.encoder_taken + k) (more (encoder_id e.side))) (ap (λ k. e.own.decoder_taken + k) (more (decoder_id e.side))))
    ∙ ap (λ l. record (ahead e (Bytes id n ∷ Bytes id m ∷ ds) held incoming kept) { outgoing = l }) (streams_two e.outgoing id n m ds)

pub writes_two : (setup : Setup) (w : World) (side : Side) (mine : List Delivery) (id n m : ℕ) (ds : List Delivery) (ew g : EndpointHistory) → WritesAt setup w side mine (Bytes id (n + m) ∷ ds) ew g
    → WritesAt setup w side mine (Bytes id n ∷ Bytes id m ∷ ds) ew g
writes_two setup w side mine id n m ds ew g t =
    record {
      held = t.held;
      incoming = t.incoming;
      arrivals = t.arrivals;
      is = t.is ∙ ahead_two ew id n m ds t.held t.incoming t.arrivals;
      resumes = t.resumes;
      kept = t.kept;
      may = t.may;
      early = t.early;
      untold = t.untold;
      distinct = t.distinct;
    }

-- **An arrival in two.**
pub record CutSo (setup : Setup) (w : World) (side : Side) (mine : List Delivery) (id count : ℕ) (ds : List Delivery) (f g : EndpointHistory) (i : ℕ) (xs ys : List ℕ) (more : List Arrival) : Type 0 where
  pub first : ℕ
  pub second : ℕ
  pub size : count ≡ first + second
  pub reading : Reading setup w side mine (Bytes id first ∷ Bytes id second ∷ ds) f g (BytesCame i xs ∷ BytesCame i ys ∷ more)

pub cut_arrival : (setup : Setup) (w : World) (side : Side) (mine : List Delivery) (id count : ℕ) (ds : List Delivery) (f g : EndpointHistory) (i : ℕ) (xs ys : List ℕ) (more : List Arrival)
    → Reading setup w side mine (Bytes id count ∷ ds) f g (BytesCame i (xs ++ ys) ∷ more) → CutSo setup w side mine id count ds f g i xs ys more
cut_arrival setup w side mine id count ds f g i xs ys more r =
    record {
      first = n;
      second = m;
      size = two.size;
      reading = record {
        er = r.er;
        ew = r.ew;
        two = r.two;
        here = record {
          held = r.here.held;
          incoming = r.here.incoming;
          is = r.here.is;
          resumes = r.here.resumes;
          kept = (
            r.here.kept.0,
            two.first,
            (
              r.here.kept.0,
              ap (λ l. l ++ ys) (without_at held id) ∙ two.second ∙ sym (ap (λ k. take m (drop k (text id))) (counted_at came id n)),
              kept_alike text text (with_count came id count) (with_count (with_count came id n) id m) (without_held held id) (without_held (without_held held id) id) ds more (λ j. refl)
                  (λ j. counted_twice came id n m j ∙ ap (λ k. with_count came id k j) (sym two.size)) (held_twice held id) r.here.kept.2,
            ),
          );
          may = two_readable setup w (other side) id n m ds (subst (λ k. MayAllBeRead setup w (other side) came (is_closed w (other side)) (Bytes id k ∷ ds)) two.size r.here.may);
          early = r.here.early;
          untold = r.here.untold;
          distinct = r.here.distinct;
        };
        there = writes_two setup w side mine id n m ds r.ew g (subst (λ k. WritesAt setup w side mine (Bytes id k ∷ ds) r.ew g) two.size r.there);
      };
    }
  where
    text : ℕ → List ℕ
    text = text_of setup w (other side)

    came : ℕ → ℕ
    came = came_of w (other side)

    held : ℕ → List ℕ
    held = held_of (other side) r.here.held

    n : ℕ
    n = length (held id ++ xs)

    m : ℕ
    m = length ys

    two : InTwo (text id) (came id) count (held id ++ xs) ys
    two = in_two (text id) (came id) count (held id ++ xs) ys r.here.may.2 (append_assoc (held id) xs ys ∙ r.here.kept.1)
