-- A part of what is held of an own stream is read: what is left of it stays held.
use Rattle.std.proofs.Common.{◌≡◌, ◌⊎◌, inl, inr, ℕ, ◌+◌, ◌≤◌, Bool, true, false, List, [], ◌∷◌, ◌++◌, length, take, drop, refl, sym, ap, ◌∙◌, arith, append-nil, if◌then◌else◌}
use Rattle.std.specs.Prelude.{◌==◌}
use Rattle.h3_proto.specs.declared.stream.Side.{Side}
use Rattle.h3_proto.specs.declared.stream.Side.TheVariants.{Client, Server}
use Rattle.h3_connection.specs.declared.arrival.Arrival.{Arrival}
use Rattle.h3_connection.specs.declared.arrival.Arrival.TheVariants.{BytesCame}
use Rattle.h3_connection.specs.Endpoint.{EndpointHistory}
use Rattle.h3_connection.specs.OwnIds.{other, is_own, control_id, encoder_id, decoder_id}
use Rattle.h3_connection.specs.StreamSets.{HaveDistinctIds}
use Rattle.h3_world.specs.Setup.{Setup}
use Rattle.h3_world.specs.Delivering.{is_closed}
use Rattle.h3_world.specs.World.{World}
use Rattle.h3_headline.specs.FlowLaws.{same_number}
use Rattle.h3_headline.specs.OwnEventLaws.{each_own}
use Rattle.h3_memory.specs.Kept.{Delivery, Bytes, read_delivery}
use Rattle.h3_memory.specs.Keeping.{ComesFirst, EachResumes, Held, MayAllBeRead, ahead, came_of, held_of, text_of, with_count, without_held}
use Rattle.h3_memory.proofs.BehindOwn.{BehindReads}
use Rattle.h3_memory.proofs.CutReading.{InTwo, counted_at, counted_twice, writes_two}
use Rattle.h3_memory.proofs.KeptAlike.{kept_alike, not_both}
use Rattle.h3_memory.proofs.KeptLaws.{KeptLaws}
use Rattle.h3_memory.proofs.ReadAll.{two_readable}
use Rattle.h3_memory.proofs.ReadDeliveries.{ReadOn, may_after, read_on}
use Rattle.h3_memory.proofs.ReadingState.{Reading, came_more, none_before, still_unknown, writes_after}
use Rattle.h3_memory.proofs.ReadingEnds.{handed}

-- these bytes are held of the stream
abbrev pub holding : Side → Held → ℕ → List ℕ → Held
holding writer held id bytes =
    if id == control_id writer then record held { control = bytes } else (
    if id == encoder_id writer then record held { encoder = bytes } else (
    if id == decoder_id writer then record held { decoder = bytes } else held))

abbrev held_at : Held → Bool → Bool → Bool → List ℕ
held_at held a b c = if a then held.control else (if b then held.encoder else (if c then held.decoder else []))

holds_control : (held : Held) (xs : List ℕ) (a b c : Bool) → held_at (record held { control = xs }) a b c ≡ (if a then xs else held_at held a b c)
holds_control held xs true b c = refl
holds_control held xs false b c = refl

holds_encoder : (held : Held) (xs : List ℕ) (a b c : Bool) → (a ≡ true → b ≡ true → ⊥) → held_at (record held { encoder = xs }) a b c ≡ (if b then xs else held_at held a b c)
holds_encoder held xs true true c apart = absurd (apart refl refl)
holds_encoder held xs true false c apart = refl
holds_encoder held xs false true c apart = refl
holds_encoder held xs false false c apart = refl

holds_decoder : (held : Held) (xs : List ℕ) (a b c : Bool) → (a ≡ true → c ≡ true → ⊥) → (b ≡ true → c ≡ true → ⊥) → held_at (record held { decoder = xs }) a b c ≡ (if c then xs else held_at held a b c)
holds_decoder held xs true b true apart too = absurd (apart refl refl)
holds_decoder held xs false true true apart too = absurd (too refl refl)
holds_decoder held xs false false true apart too = refl
holds_decoder held xs true b false apart too = refl
holds_decoder held xs false true false apart too = refl
holds_decoder held xs false false false apart too = refl

pub holding_is : (writer : Side) (held : Held) (id : ℕ) (xs : List ℕ) (i : ℕ) → is_own writer id ≡ true → held_of writer (holding writer held id xs) i ≡ (if i == id then xs else held_of writer held i)
holding_is Client held id xs i own =
    each_own (λ k. held_of Client (holding Client held k xs) i ≡ (if i == k then xs else held_of Client held i)) Client id own
    (holds_control held xs (i == 2) (i == 6) (i == 10)) (holds_encoder held xs (i == 2) (i == 6) (i == 10) (not_both i 2 6 refl)) (holds_decoder held xs (i == 2) (i == 6) (i == 10) (not_both i 2 10 refl) (not_both i 6 10 refl))
holding_is Server held id xs i own =
    each_own (λ k. held_of Server (holding Server held k xs) i ≡ (if i == k then xs else held_of Server held i)) Server id own
    (holds_control held xs (i == 3) (i == 7) (i == 11)) (holds_encoder held xs (i == 3) (i == 7) (i == 11) (not_both i 3 7 refl)) (holds_decoder held xs (i == 3) (i == 7) (i == 11) (not_both i 3 11 refl) (not_both i 7 11 refl))

pub holding_at : (writer : Side) (held : Held) (id : ℕ) (xs : List ℕ) → is_own writer id ≡ true → held_of writer (holding writer held id xs) id ≡ xs
holding_at writer held id xs own = holding_is writer held id xs id own ∙ ap (λ b. if b then xs else held_of writer held id) (Rattle.h3_headline.specs.WaitingLaws.self id)

pub holding_without : (writer : Side) (held : Held) (id : ℕ) (xs : List ℕ) (i : ℕ) → is_own writer id ≡ true → without_held (held_of writer (holding writer held id xs)) id i ≡ without_held (held_of writer held) id i
holding_without writer held id xs i own = ap (λ l. if i == id then [] else l) (holding_is writer held id xs i own) ∙ by_id (i == id)
  where
    by_id : (b : Bool) → (if b then [] else (if b then xs else held_of writer held i)) ≡ (if b then [] else held_of writer held i)
    by_id true = refl
    by_id false = refl

-- of the decoder stream, unless it is that one
decoder_held : (writer : Side) (held : Held) (id : ℕ) (xs : List ℕ) → is_own writer id ≡ true → ((holding writer held id xs).decoder ≡ held.decoder) ⊎ (id ≡ decoder_id writer)
decoder_held Client held id xs own = each_own (λ k. ((holding Client held k xs).decoder ≡ held.decoder) ⊎ (k ≡ 10)) Client id own (inl refl) (inl refl) (inr refl)
decoder_held Server held id xs own = each_own (λ k. ((holding Server held k xs).decoder ≡ held.decoder) ⊎ (k ≡ 11)) Server id own (inl refl) (inl refl) (inr refl)

pub early_holding : (writer : Side) (held : Held) (id i : ℕ) (xs bs cs : List ℕ) (more : List Arrival) → is_own writer id ≡ true → i ≡ id → (held.decoder ≡ []) ⊎ ComesFirst (decoder_id writer) (BytesCame i bs ∷ more)
    → ((holding writer held id xs).decoder ≡ []) ⊎ ComesFirst (decoder_id writer) (BytesCame i cs ∷ more)
early_holding writer held id i xs bs cs more own same (inr first) = inr first
early_holding writer held id i xs bs cs more own same (inl none) = by_decoder (decoder_held writer held id xs own)
  where
    by_decoder : ((holding writer held id xs).decoder ≡ held.decoder) ⊎ (id ≡ decoder_id writer) → ((holding writer held id xs).decoder ≡ []) ⊎ (i ≡ decoder_id writer)
    by_decoder (inl is) = inl (is ∙ none)
    by_decoder (inr is) = inr (same ∙ is)

-- what is told has come
pub told_holding : (writer : Side) (held : Held) (id : ℕ) (xs : List ℕ) (came come : ℕ → ℕ) → is_own writer id ≡ true → (came id ≡ 0 → ⊥) → ((i : ℕ) → come i ≡ 0 → came i ≡ 0) → ((i : ℕ) → came i ≡ 0 → held_of writer held i ≡ [])
    → (i : ℕ) → come i ≡ 0 → held_of writer (holding writer held id xs) i ≡ []
told_holding writer held id xs came come own told less untold i none = holding_is writer held id xs i own ∙ by_id (i == id) refl
  where
    by_id : (b : Bool) → (i == id) ≡ b → (if b then xs else held_of writer held i) ≡ []
    by_id true e = absurd (told (ap came (sym (same_number i id e)) ∙ less i none))
    by_id false e = untold i (less i none)

-- **Some of it has been read.**
pub part_held : (qpack : KeptLaws) (setup : Setup) (w : World) (side : Side) (mine : List Delivery) (id n m : ℕ) (ds : List Delivery) (f g next : EndpointHistory) (i : ℕ) (bs xs ys hs cs : List ℕ) (more : List Arrival)
    → is_own (other side) id ≡ true → (came_of w (other side) id ≡ 0 → ⊥) → (r : Reading setup w side mine (Bytes id (n + m) ∷ ds) f g (BytesCame i bs ∷ more)) → held_of (other side) r.here.held id ++ bs ≡ xs ++ ys → InTwo (text_of setup w (other side) id) (came_of w (other side) id) (n + m) xs ys
    → n ≡ length xs → m ≡ length ys → hs ++ cs ≡ ys → (b : BehindReads setup w side r.er r.ew (Bytes id n)) → next ≡ ahead b.after mine (holding (other side) r.here.held id hs) r.here.incoming []
    → EachResumes side b.after.announced b.after.incoming r.here.incoming → HaveDistinctIds b.after.outgoing
    → Reading setup (read_delivery setup w (other side) (Bytes id n)) side mine (Bytes id m ∷ ds) next g (BytesCame i cs ∷ more)
part_held qpack setup w side mine id n m ds f g next i bs xs ys hs cs more own told r all two first_size second_size kept_is b is resumes distinct =
    record {
      er = b.after;
      ew = handed r.ew (Bytes id n ∷ []);
      two = b.two;
      here = record {
        held = holding s r.here.held id hs;
        incoming = r.here.incoming;
        is = is;
        resumes = resumes;
        kept = (
          r.here.kept.0,
          stands,
          kept_alike (text_of setup w s) (text_of setup v s) (with_count (came_of w s) id (n + m)) (with_count (came_of v s) id m) (without_held (held_of s r.here.held) id)
              (without_held (held_of s (holding s r.here.held id hs)) id) ds more on.text counts (λ j. holding_without s r.here.held id hs j own) r.here.kept.2,
        );
        may = may_after setup w side (Bytes id n) (Bytes id m ∷ ds) may;
        early = λ unknown. early_holding s r.here.held id i hs bs cs more own r.here.kept.0 (r.here.early (still_unknown setup w v side r.er b.after r.two.both.here b.two.both.here further unknown));
        untold = told_holding s r.here.held id hs (came_of w s) (came_of v s) own told (λ j none. none_before (came_of w s) (Bytes id n) j (came_of v s j) (on.came j) none) r.here.untold;
        distinct = distinct;
      };
      there = writes_after setup w side mine (Bytes id n) (Bytes id m ∷ ds) r.ew g may (writes_two setup w side mine id n m ds r.ew g r.there);
    }
  where
    s : Side
    s = other side

    v : World
    v = read_delivery setup w s (Bytes id n)

    may : MayAllBeRead setup w s (came_of w s) (is_closed w s) (Bytes id n ∷ Bytes id m ∷ ds)
    may = two_readable setup w s id n m ds r.here.may

    on : ReadOn setup w v side (Bytes id n)
    on = read_on setup w side (Bytes id n) (Bytes id m ∷ ds) may

    counts : (j : ℕ) → with_count (came_of v s) id m j ≡ with_count (came_of w s) id (n + m) j
    counts j = ap (λ k. if j == id then k + m else k) (on.came j) ∙ counted_twice (came_of w s) id n m j

    stands : held_of s (holding s r.here.held id hs) id ++ cs ≡ take m (drop (came_of v s id) (text_of setup v s id))
    stands =
        ap (λ l. l ++ cs) (holding_at s r.here.held id hs own) ∙ kept_is ∙ two.second
        ∙ ap (λ k. take k (drop (came_of w s id + length xs) (text_of setup w s id))) (sym second_size)
        ∙ ap (λ k. take m (drop (came_of w s id + k) (text_of setup w s id))) (sym first_size)
        ∙ ap (λ k. take m (drop k (text_of setup w s id))) (sym (on.came id ∙ counted_at (came_of w s) id n))
        ∙ ap (λ l. take m (drop (came_of v s id) l)) (sym (on.text id))

    further : came_of w s (control_id s) ≤ came_of v s (control_id s)
    further = omega (arith, on.came (control_id s), came_more (came_of w s) (Bytes id n) (control_id s))

-- Nothing has been read, and what came is held too.
pub more_held : (setup : Setup) (w : World) (side : Side) (mine : List Delivery) (id count : ℕ) (ds : List Delivery) (f g next : EndpointHistory) (i : ℕ) (bytes : List ℕ) (more : List Arrival)
    → is_own (other side) id ≡ true → (came_of w (other side) id ≡ 0 → ⊥) → (r : Reading setup w side mine (Bytes id count ∷ ds) f g (BytesCame i bytes ∷ more))
    → next ≡ ahead r.er mine (holding (other side) r.here.held id (held_of (other side) r.here.held id ++ bytes)) r.here.incoming []
    → Reading setup w side mine (Bytes id count ∷ ds) next g (BytesCame i [] ∷ more)
more_held setup w side mine id count ds f g next i bytes more own told r is =
    record {
      er = r.er;
      ew = r.ew;
      two = r.two;
      here = record {
        held = holding s r.here.held id all;
        incoming = r.here.incoming;
        is = is;
        resumes = r.here.resumes;
        kept = (
          r.here.kept.0,
          append-nil (held_of s (holding s r.here.held id all) id) ∙ holding_at s r.here.held id all own ∙ r.here.kept.1,
          kept_alike (text_of setup w s) (text_of setup w s) (with_count (came_of w s) id count) (with_count (came_of w s) id count) (without_held (held_of s r.here.held) id) (without_held (held_of s (holding s r.here.held id all)) id)
              ds more (λ j. refl) (λ j. refl) (λ j. holding_without s r.here.held id all j own) r.here.kept.2,
        );
        may = r.here.may;
        early = λ unknown. early_holding s r.here.held id i all bytes [] more own r.here.kept.0 (r.here.early unknown);
        untold = told_holding s r.here.held id all (came_of w s) (came_of w s) own told (λ j none. none) r.here.untold;
        distinct = r.here.distinct;
      };
      there = r.there;
    }
  where
    s : Side
    s = other side

    all : List ℕ
    all = held_of s r.here.held id ++ bytes
