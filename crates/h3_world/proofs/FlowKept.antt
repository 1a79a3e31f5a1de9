-- A flow stays sound when its sender sends a further part, and when more of it is delivered.
use Rattle.std.proofs.Common.{◌≡◌, ◌⊎◌, inl, inr, ℕ, zero, suc, ◌+◌, ◌≤◌, Bool, true, false, not, ◌&&◌, List, [], ◌∷◌, ◌++◌, length, refl, sym, ap, subst, arith, length-append, Option, Some, None}
use Rattle.std.specs.Prelude.{slice_get, flat_map}
use Rattle.std.proofs.lemmas.Grind.{common_steps, flat_map-append}
use Rattle.std.proofs.lemmas.List.{take-append-le}
use Rattle.h3_world.specs.Flow.{Flow, Part, part_bytes, flow_bytes}
use Rattle.h3_world.specs.Flow.Part.{Interim, Head, Body, Trailer, End}
use Rattle.h3_world.specs.World.{Party}
use Rattle.h3_world.specs.Order.{last_part, is_end, next_part}
use Rattle.h3_world.specs.Sending.{appended}
use Rattle.h3_world.specs.Sound.{IsSentPart, MayFollow, WaitsForNext, OutOfNext, IsSoundFlow}
use Rattle.h3_world.proofs.Sends.{HasWritten, sent_stays, sent_more, last_is}

get_front : {X : Type 0} (xs ys : List X) (n : ℕ) (x : X) → slice_get xs n ≡ Some x → slice_get (xs ++ ys) n ≡ Some x
get_front [] ys n x e = cc
get_front (y ∷ xs) ys zero x e = e
get_front (y ∷ xs) ys (suc n) x e = get_front xs ys n x e

-- the next part stays the next one
out_stays : (f : Flow) (part : Part) (o : Option Part) → next_part f ≡ o → OutOfNext f o → OutOfNext (appended f part) (next_part (appended f part))
out_stays f part None e h = absurd h
out_stays f part (Some q) e h = subst (λ o. OutOfNext (appended f part) o) (sym (get_front f.sent (part ∷ []) f.parts_out q e)) (same q h)
  where
    same : (q : Part) → OutOfNext f (Some q) → OutOfNext (appended f part) (Some q)
    same (Interim s) h = h
    same (Head s) h = h
    same (Trailer s) h = h
    same (Body bytes own) h = h
    same End h = h

waits_stay : (f : Flow) (part : Part) (o : Option Part) → next_part f ≡ o → WaitsForNext f o → WaitsForNext (appended f part) (next_part (appended f part))
waits_stay f part None e h = absurd h
waits_stay f part (Some q) e h = subst (λ o. WaitsForNext (appended f part) o) (sym (get_front f.sent (part ∷ []) f.parts_out q e)) (same q h)
  where
    same : (q : Part) → WaitsForNext f (Some q) → WaitsForNext (appended f part) (Some q)
    same (Interim s) h = h
    same (Head s) h = h
    same (Trailer s) h = h
    same (Body bytes own) h = h
    same End h = h

no_more : (o : Option Part) (part : Part) → MayFollow o part → is_end o ≡ true → ⊥
no_more None part h e = grind (arith, common_steps, e)
no_more (Some (Interim s)) part h e = grind (arith, common_steps, e)
no_more (Some (Head s)) part h e = grind (arith, common_steps, e)
no_more (Some (Body bytes own)) part h e = grind (arith, common_steps, e)
no_more (Some (Trailer s)) part h e = grind (arith, common_steps, e)
no_more (Some End) (Interim s) h e = grind (arith, common_steps, h)
no_more (Some End) (Head s) h e = grind (arith, common_steps, h)
no_more (Some End) (Body bytes own) h e = grind (arith, common_steps, h)
no_more (Some End) (Trailer s) h e = grind (arith, common_steps, h)
no_more (Some End) End (inl h) e = grind (arith, common_steps, h)
no_more (Some End) End (inr h) e = grind (arith, common_steps, h)

second : (a b : Bool) → (a && b) ≡ true → b ≡ true
second true b h = h
second false b h = absurd (grind (arith, common_steps, h))

bytes_of_appended : (f : Flow) (part : Part) → length (flow_bytes (appended f part)) ≡ length (flow_bytes f) + length (part_bytes part)
bytes_of_appended f part =
    omega (arith, ap length (flat_map-append part_bytes f.sent (part ∷ [])), length-append (flow_bytes f) (flat_map part_bytes (part ∷ [])), length-append (part_bytes part) [])

pub appended_kept : (p q : Party) (f : Flow) (part : Part) → HasWritten p q → IsSoundFlow p f → MayFollow (last_part f.sent) part → IsSentPart q (length (flow_bytes f) + length (part_bytes part)) part
    → IsSoundFlow q (appended f part)
appended_kept p q f part more sound follows is =
    record {
      sent = sent_more q None 0 f.sent part (sent_stays p q None 0 f.sent more sound.sent) (subst (λ o. MayFollow o part) (sym (last_is f.sent)) follows)
          (subst (λ n. IsSentPart q n part) (from_none (length (flow_bytes f)) (length (part_bytes part))) is);
      delivered = omega (arith, sound.delivered, bytes_of_appended f part);
      out = omega (arith, sound.out, length-append f.sent (part ∷ []));
      out_delivered = subst (λ ps. length (flat_map part_bytes ps) ≤ f.delivered) (sym (take-append-le f.parts_out f.sent (part ∷ []) sound.out)) sound.out_delivered;
      body_out = by_out sound.body_out;
      waits = by_waits sound.waits;
      ended = λ e. absurd (no_more (last_part f.sent) part follows (second (not f.is_reset) (is_end (last_part f.sent)) (sound.ended e).0));
      reset_came = sound.reset_came;
      unseen = sound.unseen;
    }
  where
    from_none : (a b : ℕ) → a + b ≡ 0 + a + b
    from_none a b = omega arith

    by_out : (f.body_out ≡ 0) ⊎ OutOfNext f (next_part f) → (f.body_out ≡ 0) ⊎ OutOfNext (appended f part) (next_part (appended f part))
    by_out (inl e) = inl e
    by_out (inr h) = inr (out_stays f part (next_part f) refl h)

    by_waits : (f.waits_for ≡ 0) ⊎ WaitsForNext f (next_part f) → (f.waits_for ≡ 0) ⊎ WaitsForNext (appended f part) (next_part (appended f part))
    by_waits (inl e) = inl e
    by_waits (inr h) = inr (waits_stay f part (next_part f) refl h)
