-- What came of a control stream whose settings and GOAWAY frames its reader takes is never too long for it.
use Rattle.std.proofs.Common.{◌≡◌, ℕ, ◌<◌, ◌≤◌, ◌^◌, zero, suc, Bool, true, false, ◌&&◌, ◌||◌, List, [], ◌∷◌, ◌++◌, flat_map, Option, Some, None, refl, sym, ap, ◌∙◌, subst, inl, inr, length, drop, append_assoc, arith, lit<, if◌then◌else◌, nat_lt}
use Rattle.std.specs.List.{AllByRecursion}
use Rattle.std.proofs.lemmas.Bool.{cases_lt, le-ltb}
use Rattle.h3_coding.specs.Encodings.{encoding}
use Rattle.h3_coding.specs.VarintLaws.{none_at_end}
use Rattle.h3_proto.specs.Pairs.{payload_of}
use Rattle.h3_proto.specs.declared.stream.Side.{Side}
use Rattle.h3_frames.specs.Encoded.{frame_encoding, head_encoding}
use Rattle.h3_frames.specs.EncodedLaws.{length-encoding, written_goaway, written_settings}
use Rattle.h3_frames.specs.ExcessiveFrames.{is_excessive_by, is_kept_whole}
use Rattle.h3_frames.specs.ExcessiveLaws.{none_told}
use Rattle.h3_frames.specs.FrameLaws.{frame_by-nil}
use Rattle.h3_frames.specs.Frames.{Front, Unfinished, Whole, frame_by, is_update, settings_frame}
use Rattle.h3_frames.specs.Fronts.{IsKnown, IsUnfinishedFront}
use Rattle.h3_frames.specs.KnownLaws.{known-other}
use Rattle.h3_frames.specs.UnfinishedLaws.{front_of_frame}
use Rattle.h3_frames.specs.declared.proto.frame.Frame.TheVariants as frame
use Rattle.h3_connection.specs.Codes.{excessive_load, id_error}
use Rattle.h3_connection.specs.Endpoint.{goaway_encoding}
use Rattle.h3_connection.specs.PeerReading.{Peer, PeerFound, at_front, having_frame, is_above, is_no_goaway, read_frame, read_within, unless_excessive, unless_fault, with_unread}
use Rattle.h3_connection.specs.Lasts.{last_id}
use Rattle.h3_connection.specs.declared.setup.Announced.{Announced}
use Rattle.h3_headline.specs.FrontLaws.{long_front, short_front}
use Rattle.h3_headline.specs.PeerStreams.{Announces, settings_frame_of}
use Rattle.h3_headline.specs.Standing.{with_meaning}
use Rattle.h3_strict.proofs.TakenFronts.{head_within}
use Rattle.h3_strict.specs.Plainly.{is_excess}
use Rattle.h3_frames.specs.declared.frame.kinds.FrameKinds.{FrameKinds}

-- it is no fault of what is too long
abbrev pub Fits : PeerFound → Type 0
Fits x = is_excess false x.1 ≡ false

behind_fits : (x : PeerFound) (go : Peer → PeerFound) → Fits x → (x.1 ≡ None → Fits (go x.0)) → Fits (unless_fault x go)
behind_fits (q, Some code) go h goes = h
behind_fits (q, None) go h goes = goes refl

module _ (kinds : FrameKinds) (limit : ℕ) where
  -- a frame at the front that is not too long
  front_fits : (most : ℕ) (side : Side) (p : Peer) (x : Front) → frame_by kinds p.unread ≡ x → IsKnown x → is_excessive_by kinds limit p.unread ≡ false
      → Fits (at_front (read_within kinds most limit side) side p p.unread x) → Fits (read_within kinds (suc most) limit side p)
  front_fits most side p x at here small h =
      let go = read_within kinds most limit side in
      ap (λ l. is_excess false (unless_excessive kinds limit l p (at_front go side p l (frame_by kinds l))).1) (known-other kinds p.unread (subst IsKnown (sym at) here))
      ∙ ap (λ b. is_excess false (if b then (let y : PeerFound = (with_unread p [], Some excessive_load) in y) else at_front go side p p.unread (frame_by kinds p.unread)).1) small
      ∙ ap (λ y. is_excess false (at_front go side p p.unread y).1) at ∙ h

  waits_fit : (most : ℕ) (side : Side) (p : Peer) → IsUnfinishedFront kinds p.unread → is_excessive_by kinds limit p.unread ≡ false → Fits (read_within kinds (suc most) limit side p)
  waits_fit most side p u small = front_fits most side p (Unfinished u.0) u.1 tt small refl

  -- a kept frame within the limit
  frame_within : (kind : ℕ) (payload behind bytes more : List ℕ) → kind < 2 ^ 62 → length payload < 2 ^ 62 → length payload ≤ limit → is_kept_whole kind ≡ true → bytes ++ more ≡ frame_encoding kind payload ++ behind → is_excessive_by kinds limit bytes ≡ false
  frame_within kind payload behind bytes more low small taken kept e =
      head_within kinds limit kind (length payload) bytes more (payload ++ behind) low small (e ∙ append_assoc (head_encoding kind (length payload)) payload behind)
      (ap (λ b. (b || is_update kinds kind) && nat_lt limit (length payload)) kept ∙ le-ltb limit (length payload) taken)

  nothing_within : (bytes more : List ℕ) → bytes ++ more ≡ [] → (is_excessive_by kinds limit bytes ≡ false) × IsUnfinishedFront kinds bytes
  nothing_within [] more e = (none_told kinds limit [] none_at_end, (1, frame_by-nil kinds))
  nothing_within (byte ∷ bytes) more e = absurd (cc)

  abbrev are_small : List ℕ → Type 0
  are_small ids = AllByRecursion (λ id. id < 2 ^ 62) ids

  goaway_fits : (side : Side) (p : Peer) (o : Option (List (ℕ × ℕ))) (id : ℕ) → Fits (read_frame side p o (frame.Goaway id))
  goaway_fits side p None id = refl
  goaway_fits side p (Some pairs) id = by_rule (is_no_goaway side id || is_above id (last_id p.goaways))
    where
      by_rule : (b : Bool) → is_excess false (if b then (let y : PeerFound = (p, Some id_error) in y) else (let y : PeerFound = (record p { goaways = p.goaways ++ id ∷ [] }, None) in y)).1 ≡ false
      by_rule true = refl
      by_rule false = refl

  goaway_keeps : (side : Side) (p : Peer) (o : Option (List (ℕ × ℕ))) (id : ℕ) → (read_frame side p o (frame.Goaway id)).0.unread ≡ p.unread
  goaway_keeps side p None id = refl
  goaway_keeps side p (Some pairs) id = by_rule (is_no_goaway side id || is_above id (last_id p.goaways))
    where
      by_rule : (b : Bool) → (if b then (let y : PeerFound = (p, Some id_error) in y) else (let y : PeerFound = (record p { goaways = p.goaways ++ id ∷ [] }, None) in y)).0.unread ≡ p.unread
      by_rule true = refl
      by_rule false = refl

  -- **GOAWAY frames, of which this much came.**
  pub goaways_fit : (most : ℕ) (side : Side) (p : Peer) (ids more : List ℕ) → 8 ≤ limit → are_small ids → p.unread ++ more ≡ flat_map goaway_encoding ids → Fits (read_within kinds most limit side p)
  goaways_fit zero side p ids more room small e = refl
  goaways_fit (suc most) side p [] more room small e = let none = nothing_within p.unread more e in waits_fit most side p none.1 none.0
  goaways_fit (suc most) side p (id ∷ ids) more room small e =
      let short : length (encoding id) ≤ 8 = length-encoding id small.0 in
      let fits = frame_within 7 (encoding id) (flat_map goaway_encoding ids) p.unread more (lit< tt) (omega (arith, short)) (omega (arith, short, room)) refl e in
      elim (cases_lt (length p.unread) (length (goaway_encoding id))) [
        | inl less ↦
            let front = short_front p.unread more (goaway_encoding id) (flat_map goaway_encoding ids) e (omega (arith, less)) in
            waits_fit most side p (subst (IsUnfinishedFront kinds) (sym front) (front_of_frame kinds 7 (encoding id) (length p.unread) (lit< tt) (omega (arith, short)) refl refl less)) fits
        | inr there ↦
            let longer = long_front p.unread more (goaway_encoding id) (flat_map goaway_encoding ids) e there in
            let rest = drop (length (goaway_encoding id)) p.unread in
            let q = having_frame p (frame.Goaway id) p.unread rest in
            front_fits most side p (Whole (frame.Goaway id) rest) (ap (frame_by kinds) longer.front_is ∙ written_goaway kinds id rest small.0) tt fits
            (behind_fits (read_frame side q p.settings (frame.Goaway id)) (read_within kinds most limit side) (goaway_fits side q p.settings id)
            (λ none. goaways_fit most side (read_frame side q p.settings (frame.Goaway id)).0 ids more room small.1 (ap (λ l. l ++ more) (goaway_keeps side q p.settings id) ∙ longer.rest_is)))
      ]

  settings_fit : (side : Side) (p : Peer) (o : Option (List (ℕ × ℕ))) (pairs : List (ℕ × ℕ)) → Fits (read_frame side p o (frame.Settings pairs))
  settings_fit side p None pairs = refl
  settings_fit side p (Some known) pairs = refl

  settings_keep : (side : Side) (p : Peer) (o : Option (List (ℕ × ℕ))) (pairs : List (ℕ × ℕ)) → (read_frame side p o (frame.Settings pairs)).0.unread ≡ p.unread
  settings_keep side p None pairs = refl
  settings_keep side p (Some known) pairs = refl

  -- **The settings, and the GOAWAY frames behind them.**
  pub all_fits : (most : ℕ) (side : Side) (p : Peer) (a : Announced) (ids more : List ℕ) → Announces a → length (payload_of a.settings) ≤ limit → 8 ≤ limit → are_small ids
      → p.unread ++ more ≡ settings_frame_of a ++ flat_map goaway_encoding ids → Fits (read_within kinds most limit side p)
  all_fits zero side p a ids more h taken room small e = refl
  all_fits (suc most) side p a ids more h taken room small e =
      let fits = frame_within 4 (payload_of a.settings) (flat_map goaway_encoding ids) p.unread more (lit< tt) h.small taken refl e in
      elim (cases_lt (length p.unread) (length (settings_frame_of a))) [
        | inl less ↦
            let front = short_front p.unread more (settings_frame_of a) (flat_map goaway_encoding ids) e (omega (arith, less)) in
            waits_fit most side p (subst (IsUnfinishedFront kinds) (sym front) (front_of_frame kinds 4 (payload_of a.settings) (length p.unread) (lit< tt) h.small refl refl less)) fits
        | inr there ↦
            let longer = long_front p.unread more (settings_frame_of a) (flat_map goaway_encoding ids) e there in
            let rest = drop (length (settings_frame_of a)) p.unread in
            let kept = with_meaning a.settings in
            let q = having_frame p (frame.Settings kept) p.unread rest in
            front_fits most side p (Whole (frame.Settings kept) rest) (ap (frame_by kinds) longer.front_is ∙ written_settings kinds a.settings rest h.small ∙ ap (λ r. settings_frame r rest) h.received) tt fits
            (behind_fits (read_frame side q p.settings (frame.Settings kept)) (read_within kinds most limit side) (settings_fit side q p.settings kept)
            (λ none. goaways_fit most side (read_frame side q p.settings (frame.Settings kept)).0 ids more room small (ap (λ l. l ++ more) (settings_keep side q p.settings kept) ∙ longer.rest_is)))
      ]
