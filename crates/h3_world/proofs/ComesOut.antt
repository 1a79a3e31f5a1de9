-- With everything delivered, a pull pauses only at the end of what was sent.
use Rattle.std.proofs.Common.{◌≡◌, ◌⊎◌, inl, inr, ℕ, zero, suc, ◌+◌, ◌<◌, ◌≤◌, true, false, List, [], ◌∷◌, length, refl, sym, arith, Option, Some, None, length-append, ap, subst, ◌∙◌, unwrap_or}
use Rattle.std.specs.List.{flat_map}
use Rattle.std.specs.Prelude.{slice_get}
use Rattle.std.proofs.lemmas.Grind.{common_steps}
use Rattle.h3_frames.specs.Encoded.{head_encoding}
use Rattle.h3_world.specs.Flow.{Flow, Part, Section, part_bytes, flow_bytes}
use Rattle.h3_world.specs.Flow.Part.{Interim, Head, Body, Trailer, End}
use Rattle.h3_world.specs.World.{Party}
use Rattle.h3_world.specs.OwnStreams.{encoder_stream}
use Rattle.h3_world.specs.Order.{last_part, is_end, next_part}
use Rattle.h3_world.specs.Sound.{IsSentSection, IsSentPart, MayFollow, AreSent, OutOfNext, IsSoundFlow}
use Rattle.h3_world.specs.Pauses.{PauseAllowed}

no : false ≡ true → ⊥
no h = grind (arith, common_steps, h)

-- a part that was sent, with all its bytes within so many
pub record EndsWithin (p : Party) (most : ℕ) (part : Part) : Type 0 where
  pub end : ℕ
  pub sent : IsSentPart p end part
  pub whole : length (part_bytes part) ≤ end
  pub within : end ≤ most

same : {X : Type 0} (x y : X) → Some x ≡ Some y → x ≡ y
same x y e = ap (λ o. unwrap_or o x) e

-- each part of those sent is such a one
pub each_ends : (p : Party) (before : Option Part) (start : ℕ) (parts : List Part) (n : ℕ) (part : Part) → AreSent p before start parts → slice_get parts n ≡ Some part
    → EndsWithin p (start + length (flat_map part_bytes parts)) part
each_ends p before start [] n part h e = cc
each_ends p before start (q ∷ qs) zero part h e =
    subst (λ r. EndsWithin p (start + length (flat_map part_bytes (q ∷ qs))) r) (same q part e)
    (record { end = start + length (part_bytes q); sent = h.1; whole = omega arith; within = omega (arith, length-append (part_bytes q) (flat_map part_bytes qs)) })
each_ends p before start (q ∷ qs) (suc n) part h e =
    let r = each_ends p (Some q) (start + length (part_bytes q)) qs n part h.2 e in
    record { end = r.end; sent = r.sent; whole = r.whole; within = omega (arith, r.within, length-append (part_bytes q) (flat_map part_bytes qs)) }

none_follows : (r : Part) → MayFollow (Some End) r → ⊥
none_follows (Interim s) h = no h
none_follows (Head s) h = no h
none_follows (Body bytes own) h = no h
none_follows (Trailer s) h = no h
none_follows End (inl h) = no h
none_follows End (inr h) = no h

-- the end is the last part
pub end_is_last : (p : Party) (before : Option Part) (start : ℕ) (parts : List Part) (n : ℕ) → AreSent p before start parts → slice_get parts n ≡ Some End → is_end (last_part parts) ≡ true
end_is_last p before start [] n h e = cc
end_is_last p before start (q ∷ []) zero h e = ap (λ r. is_end (Some r)) (same q End e)
end_is_last p before start (q ∷ []) (suc n) h e = cc
end_is_last p before start (q ∷ r ∷ rs) zero h e = absurd (none_follows r (subst (λ x. MayFollow (Some x) r) (same q End e) h.2.0))
end_is_last p before start (q ∷ r ∷ rs) (suc n) h e = end_is_last p (Some q) (start + length (part_bytes q)) (r ∷ rs) n h.2 e

-- Where all of a stream and of its encoder stream was delivered, there is a pause before the end alone.
pub end_missing : (p : Party) (f : Flow) (part : Part) → IsSoundFlow p f → next_part f ≡ Some part
    → length (flow_bytes f) ≤ f.delivered → length (encoder_stream p) ≤ p.own.encoder_taken → PauseAllowed f p.own.encoder_taken (Some part) → part ≡ End
end_missing p f part sound next own encoder pause = at part next (each_ends p None 0 f.sent f.parts_out part sound.sent next) pause
  where
    missing : (s : Section) → (f.delivered < s.own_length) ⊎ (p.own.encoder_taken < s.encoder_length) → IsSentSection p s → s.own_length ≤ length (flow_bytes f) → ⊥
    missing s (inl h) sent within = omega (arith, h, own, within)
    missing s (inr h) sent within = omega (arith, h, encoder, sent.encoder)

    out : (bytes : List ℕ) (end : ℕ) → next_part f ≡ Some (Body bytes end) → 0 < length bytes → (f.body_out ≡ 0) ⊎ OutOfNext f (next_part f) → f.body_out < length bytes
    out bytes end next some (inl h) = omega (arith, h, some)
    out bytes end next some (inr h) = (subst (λ o. OutOfNext f o) next h).0

    none_there : (bytes : List ℕ) (end : ℕ) → next_part f ≡ Some (Body bytes end) → EndsWithin p (0 + length (flow_bytes f)) (Body bytes end) → PauseAllowed f p.own.encoder_taken (Some (Body bytes end)) → ⊥
    none_there bytes end next e h =
        omega (arith, h, own, e.within, e.whole, e.sent.0, e.sent.2, length-append (head_encoding 0 (length bytes)) bytes, out bytes end next e.sent.0 sound.body_out)

    at : (part : Part) → next_part f ≡ Some part → EndsWithin p (0 + length (flow_bytes f)) part → PauseAllowed f p.own.encoder_taken (Some part) → part ≡ End
    at (Interim s) next e h = absurd (missing s h e.sent.0 (omega (arith, e.within, e.sent.1)))
    at (Head s) next e h = absurd (missing s h e.sent.0 (omega (arith, e.within, e.sent.1)))
    at (Trailer s) next e h = absurd (missing s h e.sent.0 (omega (arith, e.within, e.sent.1)))
    at (Body bytes end) next e h = absurd (none_there bytes end next e h)
    at End next e h = refl

-- And its end too, if it was finished: there is none.
pub all_there : (p : Party) (f : Flow) (part : Part) → IsSoundFlow p f → next_part f ≡ Some part
    → length (flow_bytes f) ≤ f.delivered → length (encoder_stream p) ≤ p.own.encoder_taken → (is_end (last_part f.sent) ≡ true → f.ended ≡ true)
    → PauseAllowed f p.own.encoder_taken (Some part) → ⊥
all_there p f part sound next own encoder ended pause =
    let end = end_missing p f part sound next own encoder pause in
    no (sym (subst (λ q. PauseAllowed f p.own.encoder_taken (Some q)) end pause) ∙ ended (end_is_last p None 0 f.sent f.parts_out sound.sent (next ∙ ap (λ q. Some q) end)))
