-- What comes of another side's streams is never answered by the fault of what is too long, where its settings and GOAWAY frames are taken.
use Rattle.std.proofs.Common.{◌≡◌, ℕ, ◌+◌, ◌-◌, ◌<◌, ◌≤◌, ◌^◌, zero, suc, Bool, true, false, List, [], ◌∷◌, ◌++◌, flat_map, Option, Some, None, refl, sym, ap, ◌∙◌, length, take, drop, arith, if◌then◌else◌, nat_le}
use Rattle.std.specs.List.{AllByRecursion}
use Rattle.std.proofs.lemmas.Bool.{leb-true}
use Rattle.std.proofs.lemmas.List.{take-append-drop, take-append-le}
use Rattle.h3_proto.specs.Pairs.{payload_of}
use Rattle.h3_proto.specs.declared.stream.Side.{Side}
use Rattle.h3_connection.specs.Endpoint.{goaway_encoding}
use Rattle.h3_connection.specs.PeerReading.{Peer, read_peer, read_within, with_unread}
use Rattle.h3_connection.specs.declared.setup.Announced.{Announced}
use Rattle.h3_qpack.specs.WholeInstructions.{rest_in, whole_in}
use Rattle.h3_world.specs.OwnStreams.{settings_bytes}
use Rattle.h3_headline.specs.ControlLaws.{length_settings}
use Rattle.h3_headline.specs.ControlStreamLaws.{less_of}
use Rattle.h3_headline.specs.PeerStreams.{Announces, behind_type, settings_frame_of}
use Rattle.h3_headline.specs.Standing.{AreGoaways}
use Rattle.h3_headline.specs.UnitLaws.{drop_past, goes_on, take_both}
use Rattle.h3_headline.specs.WritesMoreLaws.{type_of_control}
use Rattle.h3_strict.proofs.ControlTexts.{Fits, all_fits, goaways_fit}
use Rattle.h3_frames.specs.declared.frame.kinds.FrameKinds.{FrameKinds}

-- the ids are written in eight bytes at most
small_goaways : (writer : Side) (before : Option ℕ) (ids : List ℕ) → AreGoaways writer before ids → AllByRecursion (λ id. id < 2 ^ 62) ids
small_goaways writer before [] h = tt
small_goaways writer before (id ∷ ids) h = (h.0, small_goaways writer (Some id) ids h.3)

small_behind : (n : ℕ) (ids : List ℕ) → AllByRecursion (λ id. id < 2 ^ 62) ids → AllByRecursion (λ id. id < 2 ^ 62) (drop n ids)
small_behind zero ids h = h
small_behind (suc n) [] h = tt
small_behind (suc n) (id ∷ ids) h = small_behind n ids h.1

front_of_type : (n : ℕ) (xs : List ℕ) → drop 1 (take n (0 ∷ xs)) ≡ take (n - 1) xs
front_of_type zero xs = refl
front_of_type (suc n) xs = let e : n ≡ suc n - 1 = omega arith in ap (λ m. take m xs) e

-- of a control stream so many bytes came, and so many come
module _ (a : Announced) (came count : ℕ) (ids : List ℕ) where
  abbrev goaways : List ℕ
  goaways = flat_map goaway_encoding ids

  abbrev comes : List ℕ
  comes = behind_type came count (settings_frame_of a ++ goaways)

  -- with what waits before the settings came
  settings_waiting : came < length (settings_bytes a) → drop 1 (take came (settings_bytes a)) ++ comes ≡ take (came + count - 1) (settings_frame_of a ++ goaways)
  settings_waiting short =
      let S = settings_frame_of a in
      let front : drop 1 (take came (settings_bytes a)) ≡ take (came - 1) S = ap (λ l. drop 1 (take came (l ++ S))) type_of_control ∙ front_of_type came S in
      ap (λ l. l ++ comes) (front ∙ sym (take-append-le (came - 1) S goaways (omega (arith, length_settings a, short)))) ∙ take_both (came - 1) (came + count - 1) (S ++ goaways) (omega arith)

  -- and behind them
  abbrev few : ℕ
  few = came - length (settings_bytes a)

  abbrev left : List ℕ
  left = drop (whole_in goaway_encoding few ids) ids

  record IsFrontOfLeft : Type 0 where
    there : ℕ
    is : rest_in goaway_encoding few ids ++ comes ≡ take there (flat_map goaway_encoding left)

  goaways_waiting : length (settings_bytes a) ≤ came → IsFrontOfLeft
  goaways_waiting fits =
      let S = settings_frame_of a in
      let size = length_settings a in
      let many = came + count - length (settings_bytes a) in
      let g = goes_on goaway_encoding few many ids (omega arith) in
      let place : came - 1 - length S ≡ few = omega (arith, size) in
      let sizes : came + count - 1 - (came - 1) ≡ many - few = omega (arith, size, fits) in
      let new_is : comes ≡ take (many - few) (drop few goaways) =
      ap (λ l. take (came + count - 1 - (came - 1)) l) (drop_past (came - 1) S goaways (omega (arith, size, fits))) ∙ ap (λ n. take (came + count - 1 - (came - 1)) (drop n goaways)) place ∙ ap (λ n. take n (drop few goaways)) sizes in
      record { there = g.count; is = ap (λ l. rest_in goaway_encoding few ids ++ l) new_is ∙ g.bytes }

-- **What comes of a control stream.**
module _ (kinds : FrameKinds) (limit : ℕ) (side writer : Side) (p : Peer) (a : Announced) (came count : ℕ) (ids : List ℕ) (h : Announces a) (taken : length (payload_of a.settings) ≤ limit) (room : 8 ≤ limit) (all : AreGoaways writer None ids) where
  abbrev text : Peer
  text = with_unread p (p.unread ++ comes a came count ids)

  within_fits : (most : ℕ) (b : Bool) → nat_le (length (settings_bytes a)) came ≡ b
      → p.unread ≡ (if b then rest_in goaway_encoding (came - length (settings_bytes a)) ids else drop 1 (take came (settings_bytes a))) → Fits (read_within kinds most limit side text)
  within_fits most true there is =
      let front = goaways_waiting a came count ids (leb-true (length (settings_bytes a)) came there) in
      let units = flat_map goaway_encoding (left a came count ids) in
      let small = small_goaways writer None ids all in
      goaways_fit kinds limit most side text (left a came count ids) (drop front.there units) room (small_behind (whole_in goaway_encoding (came - length (settings_bytes a)) ids) ids small)
      (ap (λ l. (l ++ comes a came count ids) ++ drop front.there units) is ∙ ap (λ l. l ++ drop front.there units) front.is ∙ take-append-drop front.there units)
  within_fits most false there is =
      let short = less_of (length (settings_bytes a)) came there in
      let units = settings_frame_of a ++ flat_map goaway_encoding ids in
      all_fits kinds limit most side text a ids (drop (came + count - 1) units) h taken room (small_goaways writer None ids all)
      (ap (λ l. (l ++ comes a came count ids) ++ drop (came + count - 1) units) is ∙ ap (λ l. l ++ drop (came + count - 1) units) (settings_waiting a came count ids short) ∙ take-append-drop (came + count - 1) units)

  pub control_fits : (b : Bool) → nat_le (length (settings_bytes a)) came ≡ b → p.unread ≡ (if b then rest_in goaway_encoding (came - length (settings_bytes a)) ids else drop 1 (take came (settings_bytes a)))
      → Fits (read_peer kinds limit side text)
  unfolding read_peer
  control_fits b there is = within_fits (length text.unread) b there is
