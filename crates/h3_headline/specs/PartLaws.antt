-- A part that was sent: where its bytes end, where the message is in front of it, and what follows it.
use Rattle.std.proofs.Common.{◌≡◌, true, false, arith, inl, inr, Option, refl, Some, None, ap, unwrap_or, ℕ, List, [], ◌∷◌, subst, zero, suc, ◌+◌, ◌++◌, length, take, length-append, drop, sym, ◌∙◌, take-append-drop, ◌≤◌}
use Rattle.std.proofs.lemmas.Grind.{common_steps, flat_map-append}
use Rattle.h3_connection.specs.declared.place.Place.{Place}
use Rattle.h3_world.specs.Flow.{Part, part_bytes, Flow, flow_bytes}
use Rattle.h3_world.specs.Flow.Part.{Interim, Head, Body, Trailer, End}
use Rattle.h3_world.specs.Sound.{MayFollow, AreSent, IsSentPart, IsSoundFlow}
use Rattle.h3_connection.specs.declared.place.Place.TheVariants.{BeforeHead}
use Rattle.h3_world.specs.World.{Party}
use Rattle.std.specs.List.{flat_map, fold, AllByRecursion}
use Rattle.std.specs.Prelude.{slice_get}
use Rattle.h3_world.specs.Order.{next_part, is_end, last_part}
use Rattle.h3_headline.specs.Parts.{IsPartAt, IsPartFrom, IsPlaceBehind, IsPlaceOf}
use Rattle.h3_headline.specs.Standing.{place_after, place_behind}

differ : false ≡ true → ⊥
differ h = grind (arith, common_steps, h)

place_of : (before : Option Part) (place : Place) (part : Part) → IsPlaceBehind before place → MayFollow before part → IsPlaceOf part place
place_of before place (Interim s) h m = h.before_head m
place_of before place (Head s) h m = h.before_head m
place_of before place (Body bytes own) h m = h.in_body m
place_of before place (Trailer s) h m = h.in_body m
place_of before place End h (inl m) = inl (h.in_body m)
place_of before place End h (inr m) = inr (h.after_trailer m)

place_next : (before : Option Part) (place : Place) (part : Part) → IsPlaceBehind before place → MayFollow before part → IsPlaceBehind (Some part) (place_behind place part)
place_next before place (Interim s) h m = record { before_head = λ e. h.before_head m; in_body = λ e. absurd (differ e); after_trailer = λ e. absurd (differ e) }
place_next before place (Head s) h m = record { before_head = λ e. absurd (differ e); in_body = λ e. refl; after_trailer = λ e. absurd (differ e) }
place_next before place (Body bytes own) h m = record { before_head = λ e. absurd (differ e); in_body = λ e. h.in_body m; after_trailer = λ e. absurd (differ e) }
place_next before place (Trailer s) h m = record { before_head = λ e. absurd (differ e); in_body = λ e. absurd (differ e); after_trailer = λ e. refl }
place_next before place End h m = record { before_head = λ e. absurd (differ e); in_body = λ e. absurd (differ e); after_trailer = λ e. absurd (differ e) }

first_place : IsPlaceBehind None BeforeHead
first_place = record { before_head = λ e. refl; in_body = λ e. absurd (differ e); after_trailer = λ e. absurd (differ e) }

pub same_part : (x y : Part) → Some x ≡ Some y → x ≡ y
same_part x y e = ap (λ o. unwrap_or o x) e

none_follows : (r : Part) → MayFollow (Some End) r → ⊥
none_follows (Interim s) h = differ h
none_follows (Head s) h = differ h
none_follows (Body bytes own) h = differ h
none_follows (Trailer s) h = differ h
none_follows End (inl h) = differ h
none_follows End (inr h) = differ h

pub end_last : (p : Party) (start : ℕ) (parts : List Part) (q : Part) → AreSent p (Some q) start parts → q ≡ End → parts ≡ []
end_last p start [] q h e = refl
end_last p start (r ∷ rs) q h e = absurd (none_follows r (subst (λ x. MayFollow (Some x) r) e h.0))

pub part_from : (p : Party) (before : Option Part) (start : ℕ) (place : Place) (parts : List Part) (n : ℕ) (part : Part) → AreSent p before start parts
    → IsPlaceBehind before place → slice_get parts n ≡ Some part → IsPartFrom p start place parts n part
part_from p before start place [] n part h at e = cc
part_from p before start place (q ∷ qs) zero part h at e =
    let sum : start + length (part_bytes q) ≡ start + 0 + length (part_bytes q) = omega arith in
    subst (λ r. IsPartFrom p start place (q ∷ qs) 0 r) (same_part q part e)
    (record {
      sent = subst (λ m. IsSentPart p m q) sum h.1;
      place_is = place_of before place q at h.0;
      behind = refl;
      front = refl;
      last = λ is. end_last p (start + length (part_bytes q)) qs q h.2 is;
    })
part_from p before start place (q ∷ qs) (suc n) part h at e =
    let r = part_from p (Some q) (start + length (part_bytes q)) (place_behind place q) qs n part h.2 (place_next before place q at h.0) e in
    let sum : start + length (part_bytes q) + length (flat_map part_bytes (take n qs)) + length (part_bytes part)
    ≡ start + length (part_bytes q ++ flat_map part_bytes (take n qs)) + length (part_bytes part) =
    omega (arith, length-append (part_bytes q) (flat_map part_bytes (take n qs))) in
    record {
      sent = subst (λ m. IsSentPart p m part) sum r.sent;
      place_is = r.place_is;
      behind = r.behind;
      front = ap (λ l. q ∷ l) r.front;
      last = r.last;
    }

fold_more : (place : Place) (parts : List Part) (part : Part) → fold place_behind place (parts ++ part ∷ []) ≡ place_behind (fold place_behind place parts) part
fold_more place [] part = refl
fold_more place (q ∷ qs) part = fold_more (place_behind place q) qs part

pub part_at : (p : Party) (f : Flow) (part : Part) → IsSoundFlow p f → next_part f ≡ Some part → IsPartAt p f.sent f.parts_out part
part_at p f part sound next =
    let r = part_from p None 0 BeforeHead f.sent f.parts_out part sound.sent first_place next in
    let one : suc f.parts_out ≡ f.parts_out + 1 = omega arith in
    let behind : drop f.parts_out f.sent ≡ part ∷ drop (f.parts_out + 1) f.sent = r.behind ∙ ap (λ m. part ∷ drop m f.sent) one in
    let sum : 0 + length (flat_map part_bytes (take f.parts_out f.sent)) + length (part_bytes part) ≡ length (flat_map part_bytes (take f.parts_out f.sent)) + length (part_bytes part) = omega arith in
    record {
      sent = subst (λ m. IsSentPart p m part) sum r.sent;
      place_is = r.place_is;
      behind = behind;
      bytes_behind = ap (flat_map part_bytes) behind;
      place_next = ap place_after (ap (λ m. take m f.sent) (sym one) ∙ r.front) ∙ fold_more BeforeHead (take f.parts_out f.sent) part;
      last = λ is. ap (λ m. drop m f.sent) (sym one) ∙ r.last is;
    }

-- the bytes in front of the next part and from it on
pub flow_parts : (f : Flow) → flow_bytes f ≡ flat_map part_bytes (take f.parts_out f.sent) ++ flat_map part_bytes (drop f.parts_out f.sent)
flow_parts f = sym (ap (flat_map part_bytes) (take-append-drop f.parts_out f.sent)) ∙ flat_map-append part_bytes (take f.parts_out f.sent) (drop f.parts_out f.sent)

-- no part is next: all parts were handed out
pub none_left : (parts : List Part) (n : ℕ) → slice_get parts n ≡ None → drop n parts ≡ []
none_left [] zero e = refl
none_left [] (suc n) e = refl
none_left (q ∷ qs) zero e = cc
none_left (q ∷ qs) (suc n) e = none_left qs n e

-- the end is the last part, so behind all parts of a finished message the last one that was handed out is the end
pub ended_over : (parts : List Part) (n : ℕ) → slice_get parts n ≡ None → n ≤ length parts → is_end (last_part parts) ≡ true → (m : ℕ) × (n ≡ suc m) × (is_end (slice_get parts m) ≡ true)
ended_over [] n e within h = absurd (differ h)
ended_over (q ∷ []) zero e within h = cc
ended_over (q ∷ []) (suc zero) e within h = (0, refl, h)
ended_over (q ∷ []) (suc (suc n)) e within h = absurd (omega (arith, within))
ended_over (q ∷ r ∷ rs) zero e within h = cc
ended_over (q ∷ r ∷ rs) (suc n) e within h =
    let k = ended_over (r ∷ rs) n e (omega (arith, within)) h in
    (suc k.0, ap suc k.1, k.2)

-- what holds of each part holds of the next
pub part_is : (P : Part → Type 0) (parts : List Part) (n : ℕ) (part : Part) → AllByRecursion P parts → slice_get parts n ≡ Some part → P part
part_is P [] n part h e = cc
part_is P (q ∷ qs) zero part h e = subst P (same_part q part e) h.0
part_is P (q ∷ qs) (suc n) part h e = part_is P qs n part h.1 e
