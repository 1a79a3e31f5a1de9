-- What is kept, by texts, counts and held bytes that are the same stream by stream; and what is held, without that of one stream.
use Rattle.std.proofs.Common.{◌≡◌, ℕ, ◌+◌, Bool, true, false, ◌||◌, List, [], ◌∷◌, ◌++◌, refl, sym, ap, ◌∙◌, arith, if◌then◌else◌}
use Rattle.std.specs.Prelude.{◌==◌, take, drop}
use Rattle.h3_proto.specs.declared.stream.Side.{Side}
use Rattle.h3_proto.specs.declared.stream.Side.TheVariants.{Client, Server}
use Rattle.h3_connection.specs.declared.arrival.Arrival.{Arrival}
use Rattle.h3_connection.specs.declared.arrival.Arrival.TheVariants.{BytesCame, EndCame, ResetCame}
use Rattle.h3_connection.specs.OwnIds.{is_own, control_id, encoder_id, decoder_id}
use Rattle.h3_world.specs.Setup.{Setup}
use Rattle.h3_world.specs.Streams.{has_outgoing}
use Rattle.h3_world.specs.World.{World}
use Rattle.h3_headline.specs.FlowLaws.{same_number}
use Rattle.h3_headline.specs.OwnEventLaws.{each_own}
use Rattle.h3_memory.specs.Kept.{Delivery, Bytes, End, Reset}
use Rattle.h3_memory.specs.Keeping.{Held, AreKept, MayAllBeRead, bytes_in, held_of, with_count, with_closed, without_held}
use Rattle.h3_memory.proofs.TextsOf.{by_truth}

-- the same stream by stream
pub kept_alike : (text same_text : ℕ → List ℕ) (came come : ℕ → ℕ) (held hold : ℕ → List ℕ) (ds : List Delivery) (arrivals : List Arrival) → ((i : ℕ) → same_text i ≡ text i) → ((i : ℕ) → come i ≡ came i)
    → ((i : ℕ) → hold i ≡ held i) → AreKept text came held ds arrivals → AreKept same_text come hold ds arrivals
kept_alike text same_text came come held hold [] [] texts counts holds kept = λ i. holds i ∙ kept i
kept_alike text same_text came come held hold (Bytes id count ∷ ds) (BytesCame i bytes ∷ arrivals) texts counts holds kept = (
  kept.0,
  ap (λ l. l ++ bytes) (holds id) ∙ kept.1 ∙ sym (ap (λ n. take count (drop n (same_text id))) (counts id) ∙ ap (λ l. take count (drop (came id) l)) (texts id)),
  kept_alike text same_text (with_count came id count) (with_count come id count) (without_held held id) (without_held hold id) ds arrivals texts
      (λ j. ap (λ n. if j == id then n + count else n) (counts j)) (λ j. ap (λ l. if j == id then [] else l) (holds j)) kept.2,
)
kept_alike text same_text came come held hold (End id ∷ ds) (EndCame i ∷ arrivals) texts counts holds kept = (kept.0, kept_alike text same_text came come held hold ds arrivals texts counts holds kept.1)
kept_alike text same_text came come held hold (Reset id ∷ ds) (ResetCame i code ∷ arrivals) texts counts holds kept =
    (kept.0, kept.1, kept_alike text same_text came come held hold ds arrivals texts counts holds kept.2)
kept_alike text same_text came come held hold [] (a ∷ arrivals) texts counts holds kept = absurd kept
kept_alike text same_text came come held hold (Bytes id count ∷ ds) [] texts counts holds kept = absurd kept
kept_alike text same_text came come held hold (Bytes id count ∷ ds) (EndCame i ∷ arrivals) texts counts holds kept = absurd kept
kept_alike text same_text came come held hold (Bytes id count ∷ ds) (ResetCame i code ∷ arrivals) texts counts holds kept = absurd kept
kept_alike text same_text came come held hold (End id ∷ ds) [] texts counts holds kept = absurd kept
kept_alike text same_text came come held hold (End id ∷ ds) (BytesCame i bytes ∷ arrivals) texts counts holds kept = absurd kept
kept_alike text same_text came come held hold (End id ∷ ds) (ResetCame i code ∷ arrivals) texts counts holds kept = absurd kept
kept_alike text same_text came come held hold (Reset id ∷ ds) [] texts counts holds kept = absurd kept
kept_alike text same_text came come held hold (Reset id ∷ ds) (BytesCame i bytes ∷ arrivals) texts counts holds kept = absurd kept
kept_alike text same_text came come held hold (Reset id ∷ ds) (EndCame i ∷ arrivals) texts counts holds kept = absurd kept

-- What is held, without that of one stream.
abbrev pub held_without : Side → Held → ℕ → Held
held_without writer held id =
    if id == control_id writer then record held { control = [] } else (
    if id == encoder_id writer then record held { encoder = [] } else (
    if id == decoder_id writer then record held { decoder = [] } else held))

-- of no own stream nothing is held
pub none_held : (writer : Side) (held : Held) (id : ℕ) → is_own writer id ≡ false → held_of writer held id ≡ []
none_held writer held id off = by_tests (id == control_id writer) (id == encoder_id writer) (id == decoder_id writer) off
  where
    by_tests : (a b c : Bool) → (a || b || c) ≡ false → (if a then held.control else (if b then held.encoder else (if c then held.decoder else []))) ≡ []
    by_tests true b c e = absurd (cc)
    by_tests false true c e = absurd (cc)
    by_tests false false true e = absurd (cc)
    by_tests false false false e = refl

pub not_both : (i x y : ℕ) → (x == y) ≡ false → (i == x) ≡ true → (i == y) ≡ true → ⊥
not_both i x y differ e f = clash (sym (ap (λ n. n == y) (sym (same_number i x e) ∙ same_number i y f)) ∙ differ) (Rattle.h3_headline.specs.WaitingLaws.self y)
  where
    clash : {c : Bool} → c ≡ false → c ≡ true → ⊥
    clash e f = grind (arith, e, f)

abbrev held_at : Held → Bool → Bool → Bool → List ℕ
held_at held a b c = if a then held.control else (if b then held.encoder else (if c then held.decoder else []))

no_control : (held : Held) (a b c : Bool) → held_at (record held { control = [] }) a b c ≡ (if a then [] else held_at held a b c)
no_control held true b c = refl
no_control held false b c = refl

no_encoder : (held : Held) (a b c : Bool) → (a ≡ true → b ≡ true → ⊥) → held_at (record held { encoder = [] }) a b c ≡ (if b then [] else held_at held a b c)
no_encoder held true true c apart = absurd (apart refl refl)
no_encoder held true false c apart = refl
no_encoder held false true c apart = refl
no_encoder held false false c apart = refl

no_decoder : (held : Held) (a b c : Bool) → (a ≡ true → c ≡ true → ⊥) → (b ≡ true → c ≡ true → ⊥) → held_at (record held { decoder = [] }) a b c ≡ (if c then [] else held_at held a b c)
no_decoder held true b true apart too = absurd (apart refl refl)
no_decoder held false true true apart too = absurd (too refl refl)
no_decoder held false false true apart too = refl
no_decoder held true b false apart too = refl
no_decoder held false true false apart too = refl
no_decoder held false false false apart too = refl

own_without : (writer : Side) (held : Held) (id i : ℕ) → is_own writer id ≡ true → held_of writer (held_without writer held id) i ≡ without_held (held_of writer held) id i
own_without Client held id i own =
    each_own (λ k. held_of Client (held_without Client held k) i ≡ without_held (held_of Client held) k i) Client id own
    (no_control held (i == 2) (i == 6) (i == 10)) (no_encoder held (i == 2) (i == 6) (i == 10) (not_both i 2 6 refl)) (no_decoder held (i == 2) (i == 6) (i == 10) (not_both i 2 10 refl) (not_both i 6 10 refl))
own_without Server held id i own =
    each_own (λ k. held_of Server (held_without Server held k) i ≡ without_held (held_of Server held) k i) Server id own
    (no_control held (i == 3) (i == 7) (i == 11)) (no_encoder held (i == 3) (i == 7) (i == 11) (not_both i 3 7 refl)) (no_decoder held (i == 3) (i == 7) (i == 11) (not_both i 3 11 refl) (not_both i 7 11 refl))

pub off_without : (writer : Side) (held : Held) (id : ℕ) → is_own writer id ≡ false → held_without writer held id ≡ held
off_without writer held id off = by_tests (id == control_id writer) (id == encoder_id writer) (id == decoder_id writer) off
  where
    by_tests : (a b c : Bool) → (a || b || c) ≡ false → (if a then record held { control = [] } else (if b then record held { encoder = [] } else (if c then record held { decoder = [] } else held))) ≡ held
    by_tests true b c e = absurd (cc)
    by_tests false true c e = absurd (cc)
    by_tests false false true e = absurd (cc)
    by_tests false false false e = refl

pub held_without_is : (writer : Side) (held : Held) (id i : ℕ) → held_of writer (held_without writer held id) i ≡ without_held (held_of writer held) id i
held_without_is writer held id i = by_truth (is_own writer id) (own_without writer held id i) (λ off. ap (λ h. held_of writer h i) (off_without writer held id off) ∙ by_id off (i == id) refl)
  where
    by_id : is_own writer id ≡ false → (b : Bool) → (i == id) ≡ b → held_of writer held i ≡ (if b then [] else held_of writer held i)
    by_id off false e = refl
    by_id off true e = none_held writer held i (ap (is_own writer) (same_number i id e) ∙ off)

-- what is empty stays so
pub still_none : (writer : Side) (held : Held) (id i : ℕ) → held_of writer held i ≡ [] → held_of writer (held_without writer held id) i ≡ []
still_none writer held id i none = held_without_is writer held id i ∙ by_id (i == id)
  where
    by_id : (b : Bool) → (if b then [] else held_of writer held i) ≡ []
    by_id true = refl
    by_id false = none

pub decoder_held : (writer : Side) (held : Held) → held_of writer held (decoder_id writer) ≡ held.decoder
decoder_held Client held = refl
decoder_held Server held = refl

pub decoder_none : (writer : Side) (held : Held) (id : ℕ) → held.decoder ≡ [] → (held_without writer held id).decoder ≡ []
decoder_none writer held id none = sym (decoder_held writer (held_without writer held id)) ∙ still_none writer held id (decoder_id writer) (decoder_held writer held ∙ none)

pub decoder_gone : (writer : Side) (held : Held) → (held_without writer held (decoder_id writer)).decoder ≡ []
decoder_gone Client held = refl
decoder_gone Server held = refl

-- Of a stream that its writer has not opened no bytes are kept.
pub none_of_closed : (setup : Setup) (w : World) (writer : Side) (came : ℕ → ℕ) (closed : ℕ → Bool) (ds : List Delivery) (id : ℕ) → has_outgoing w writer id ≡ false → MayAllBeRead setup w writer came closed ds → bytes_in id ds ≡ 0
none_of_closed setup w writer came closed [] id shut may = refl
none_of_closed setup w writer came closed (Bytes stream count ∷ ds) id shut may =
    let rest = none_of_closed setup w writer (with_count came stream count) closed ds id shut may.3 in
    by_id (stream == id) refl rest
  where
    clash : {c : Bool} → c ≡ false → c ≡ true → ⊥
    clash e f = grind (arith, e, f)

    by_id : (b : Bool) → (stream == id) ≡ b → bytes_in id ds ≡ 0 → (if b then count else 0) + bytes_in id ds ≡ 0
    by_id true e rest = absurd (clash shut (ap (has_outgoing w writer) (sym (same_number stream id e)) ∙ may.0))
    by_id false e rest = omega (arith, rest)
none_of_closed setup w writer came closed (End stream ∷ ds) id shut may = none_of_closed setup w writer came (with_closed closed stream) ds id shut may.4
none_of_closed setup w writer came closed (Reset stream ∷ ds) id shut may = none_of_closed setup w writer came (with_closed closed stream) ds id shut may.3
