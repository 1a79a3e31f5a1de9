-- Where the sender may send a part, the part may follow the last one.
use Rattle.std.proofs.Common.{◌≡◌, ◌⊎◌, inl, inr, ℕ, ◌+◌, Bool, true, false, not, ◌&&◌, List, [], ◌∷◌, length, refl, sym, ap, ◌∙◌, subst, Option, Some, None}
use Rattle.std.specs.Prelude.{flat_map}
use Rattle.std.specs.List.{list_all}
use Rattle.h3_connection.specs.Outgoing.{OwnPart, is_interim_part, last_is_trailer, takes_head, takes_body, takes_end}
use Rattle.h3_connection.specs.Outgoing.OwnPart.{OwnInterim, OwnHead, OwnBody, OwnTrailer}
use Rattle.h3_world.specs.Flow.{Flow, Part, own_part, part_bytes}
use Rattle.h3_world.specs.Flow.Part.{Interim, Head, Body, Trailer, End}
use Rattle.h3_world.specs.World.{Party}
use Rattle.h3_world.specs.Order.{last_part, is_end, is_finished, outgoing_of}
use Rattle.h3_world.specs.Sound.{is_before_head, is_in_body, is_trailer, AreSent}
use Rattle.h3_world.proofs.Sends.{last_or, last_is}

both : (a b : Bool) → (a && b) ≡ true → (a ≡ true) × (b ≡ true)
both true b h = (refl, h)
both false b h = cc

opposite : (b : Bool) → not b ≡ true → b ≡ false
opposite true h = cc
opposite false h = refl

differ : true ≡ false → ⊥
differ h = cc

abbrev pub own_parts : List Part → List OwnPart
own_parts ps = flat_map own_part ps

abbrev pub all_interim : List Part → Bool
all_interim ps = list_all is_interim_part (own_parts ps)

-- no head follows what is behind the head
never_back : (p : Party) (before : Option Part) (start : ℕ) (ps : List Part) → AreSent p before start ps → is_before_head before ≡ false → is_before_head (last_or before ps) ≡ false
never_back p before start [] sent e = e
never_back p before start (Interim s ∷ ps) sent e = absurd (differ (sym sent.0 ∙ e))
never_back p before start (Head s ∷ ps) sent e = never_back p (Some (Head s)) (start + length (part_bytes (Head s))) ps sent.2 refl
never_back p before start (Body bytes own ∷ ps) sent e = never_back p (Some (Body bytes own)) (start + length (part_bytes (Body bytes own))) ps sent.2 refl
never_back p before start (Trailer s ∷ ps) sent e = never_back p (Some (Trailer s)) (start + length (part_bytes (Trailer s))) ps sent.2 refl
never_back p before start (End ∷ ps) sent e = never_back p (Some End) (start + length (part_bytes End)) ps sent.2 refl

-- where the last part is an interim head, or there is none, all are
all_before : (p : Party) (before : Option Part) (start : ℕ) (ps : List Part) → AreSent p before start ps → is_before_head (last_or before ps) ≡ true → all_interim ps ≡ true
all_before p before start [] sent e = refl
all_before p before start (Interim s ∷ ps) sent e = all_before p (Some (Interim s)) (start + length (part_bytes (Interim s))) ps sent.2 e
all_before p before start (Head s ∷ ps) sent e = absurd (differ (sym e ∙ never_back p (Some (Head s)) (start + length (part_bytes (Head s))) ps sent.2 refl))
all_before p before start (Body bytes own ∷ ps) sent e = absurd (differ (sym e ∙ never_back p (Some (Body bytes own)) (start + length (part_bytes (Body bytes own))) ps sent.2 refl))
all_before p before start (Trailer s ∷ ps) sent e = absurd (differ (sym e ∙ never_back p (Some (Trailer s)) (start + length (part_bytes (Trailer s))) ps sent.2 refl))
all_before p before start (End ∷ ps) sent e = absurd (differ (sym e ∙ never_back p (Some End) (start + length (part_bytes End)) ps sent.2 refl))

-- and the other way round, where the last part is not the end
interim_last : (before : Option Part) (ps : List Part) → all_interim ps ≡ true → is_end (last_or before ps) ≡ false → is_before_head before ≡ true → is_before_head (last_or before ps) ≡ true
interim_last before [] all e h = h
interim_last before (Interim s ∷ ps) all e h = interim_last (Some (Interim s)) ps all e refl
interim_last before (Head s ∷ ps) all e h = absurd (differ (sym all))
interim_last before (Body bytes own ∷ ps) all e h = absurd (differ (sym all))
interim_last before (Trailer s ∷ ps) all e h = absurd (differ (sym all))
interim_last before (End ∷ []) all e h = absurd (differ e)
interim_last before (End ∷ p ∷ ps) all e h = later before p ps (interim_last None (p ∷ ps) all e refl)
  where
    later : (before : Option Part) (p : Part) (ps : List Part) → is_before_head (last_or None (p ∷ ps)) ≡ true → is_before_head (last_or before (End ∷ p ∷ ps)) ≡ true
    later before p ps k = k

trailer_behind : (x : OwnPart) (xs : List OwnPart) → last_is_trailer xs ≡ true → last_is_trailer (x ∷ xs) ≡ true
trailer_behind x [] e = absurd (differ (sym e))
trailer_behind x (y ∷ ys) e = e

-- a trailer that is last is the last of what was written
trailer_last : (p : Part) (ps : List Part) → is_trailer (last_part (p ∷ ps)) ≡ true → last_is_trailer (own_parts (p ∷ ps)) ≡ true
trailer_last (Interim s) [] e = absurd (differ (sym e))
trailer_last (Head s) [] e = absurd (differ (sym e))
trailer_last (Body bytes own) [] e = absurd (differ (sym e))
trailer_last (Trailer s) [] e = refl
trailer_last End [] e = absurd (differ (sym e))
trailer_last (Interim s) (q ∷ qs) e = trailer_behind (OwnInterim s.encoded) (own_parts (q ∷ qs)) (trailer_last q qs e)
trailer_last (Head s) (q ∷ qs) e = trailer_behind (OwnHead s.encoded) (own_parts (q ∷ qs)) (trailer_last q qs e)
trailer_last (Body bytes own) (q ∷ qs) e = trailer_behind (OwnBody bytes) (own_parts (q ∷ qs)) (trailer_last q qs e)
trailer_last (Trailer s) (q ∷ qs) e = trailer_behind (OwnTrailer s.encoded) (own_parts (q ∷ qs)) (trailer_last q qs e)
trailer_last End (q ∷ qs) e = trailer_last q qs e

-- the last part is before the head, in the body, a trailer or the end
by_last : (o : Option Part) → is_before_head o ≡ false → is_end o ≡ false → (is_in_body o ≡ true) ⊎ (is_trailer o ≡ true)
by_last None h e = absurd (differ h)
by_last (Some (Interim s)) h e = absurd (differ h)
by_last (Some (Head s)) h e = inl refl
by_last (Some (Body bytes own)) h e = inl refl
by_last (Some (Trailer s)) h e = inr refl
by_last (Some End) h e = absurd (differ e)

-- the stream is not at its end where it is open
not_at_end : (f : Flow) → (not (is_finished f) && not f.is_reset) ≡ true → is_end (last_part f.sent) ≡ false
not_at_end f h = by_reset f.is_reset (is_end (last_part f.sent)) (both (not (is_finished f)) (not f.is_reset) h)
  where
    by_reset : (r b : Bool) → (not (not r && b) ≡ true) × (not r ≡ true) → b ≡ false
    by_reset true b h = absurd (differ (sym h.1))
    by_reset false true h = absurd (differ (sym h.0))
    by_reset false false h = refl

pub head_follows : (f : Flow) → takes_head (outgoing_of f) ≡ true → is_before_head (last_part f.sent) ≡ true
head_follows f h =
    let b = both (not (is_finished f) && not f.is_reset) (all_interim f.sent) h in
    subst (λ o. is_before_head o ≡ true) (last_is f.sent) (interim_last None f.sent b.1 (ap is_end (last_is f.sent) ∙ not_at_end f b.0) refl)

not_before : (p : Party) (f : Flow) → AreSent p None 0 f.sent → not (all_interim f.sent) ≡ true → is_before_head (last_part f.sent) ≡ false
not_before p f sent h = by_test (is_before_head (last_part f.sent)) refl
  where
    by_test : (b : Bool) → is_before_head (last_part f.sent) ≡ b → b ≡ false
    by_test false e = refl
    by_test true e = absurd (differ (sym (all_before p None 0 f.sent sent (ap is_before_head (last_is f.sent) ∙ e)) ∙ opposite (all_interim f.sent) h))

pub end_follows : (p : Party) (f : Flow) → AreSent p None 0 f.sent → takes_end (outgoing_of f) ≡ true → (is_in_body (last_part f.sent) ≡ true) ⊎ (is_trailer (last_part f.sent) ≡ true)
end_follows p f sent h =
    let b = both (not (is_finished f) && not f.is_reset) (not (all_interim f.sent)) h in
    by_last (last_part f.sent) (not_before p f sent b.1) (not_at_end f b.0)

pub body_follows : (p : Party) (f : Flow) → AreSent p None 0 f.sent → takes_body (outgoing_of f) ≡ true → is_in_body (last_part f.sent) ≡ true
body_follows p f sent h =
    let b = both (not (is_finished f) && not f.is_reset && not (all_interim f.sent)) (not (last_is_trailer (own_parts f.sent))) h in
    let c = both (not (is_finished f) && not f.is_reset) (not (all_interim f.sent)) b.0 in
    decide f.sent (by_last (last_part f.sent) (not_before p f sent c.1) (not_at_end f c.0)) (opposite (last_is_trailer (own_parts f.sent)) b.1)
  where
    decide : (ps : List Part) → (is_in_body (last_part ps) ≡ true) ⊎ (is_trailer (last_part ps) ≡ true) → last_is_trailer (own_parts ps) ≡ false → is_in_body (last_part ps) ≡ true
    decide ps (inl h) e = h
    decide [] (inr h) e = absurd (differ (sym h))
    decide (q ∷ qs) (inr h) e = absurd (differ (sym (trailer_last q qs h) ∙ e))
