-- A flow stays sound under all that happens to it but sending: an end, a reset, giving up, and what is handed out.
use Rattle.std.proofs.Common.{◌≡◌, ◌⊎◌, inl, inr, ℕ, zero, suc, ◌+◌, ◌-◌, ◌<◌, ◌≤◌, Bool, true, false, ◌&&◌, List, [], ◌∷◌, length, take, drop, refl, sym, ap, ◌∙◌, subst, arith, length-append, min, if◌then◌else◌, unwrap_or, Option, Some, None}
use Rattle.std.specs.Prelude.{slice_get, flat_map, ◌==◌, ◌||◌}
use Rattle.std.proofs.lemmas.Grind.{common_steps, flat_map-append}
use Rattle.std.proofs.lemmas.List.{length-take, length-drop, take-append-drop}
use Rattle.h3_coding.specs.Encodings.{encoding}
use Rattle.h3_frames.specs.Encoded.{head_encoding}
use Rattle.h3_connection.specs.declared.event.Item.{Item}
use Rattle.h3_connection.specs.declared.event.StreamFault.{StreamFault}
use Rattle.h3_world.specs.Flow.{Flow, Part, Section, part_bytes, flow_bytes, bytes_waiting}
use Rattle.h3_world.specs.Flow.Part.{Interim, Head, Body, Trailer, End}
use Rattle.h3_world.specs.World.{Party}
use Rattle.h3_world.specs.Order.{is_finished, is_sent_off, next_part}
use Rattle.h3_world.specs.Items.{body_there, HasCome, after_item, after_piece}
use Rattle.h3_world.specs.Sound.{IsSentPart, AreSent, WaitsForNext, OutOfNext, IsSoundFlow}

no_way : true ≡ false → ⊥
no_way h = grind (arith, common_steps, h)

-- the sender cuts off what is not sent off
abbrev pub cut : Flow → Flow
cut f = record f { is_reset = true }

-- what has ended is sent off
ended_is_off : (p : Party) (f : Flow) → IsSoundFlow p f → f.ended ≡ true → is_sent_off f ≡ true
ended_is_off p f sound e = by_reset f.is_reset (is_finished f) refl (sound.ended e).0
  where
    none_left : f.is_reset ≡ false → (bytes_waiting f == 0) ≡ true
    none_left r =
        let bytes : bytes_waiting f ≡ length (flow_bytes f) - f.delivered = ap (λ b. if b then 0 else length (flow_bytes f) - f.delivered) r in
        let zero_bytes : bytes_waiting f ≡ 0 = omega (arith, bytes, (sound.ended e).1) in
        ap (λ n. n == 0) zero_bytes

    by_reset : (r b : Bool) → f.is_reset ≡ r → b ≡ true → (r || (b && (bytes_waiting f == 0))) ≡ true
    by_reset true b r finished = refl
    by_reset false true r finished = none_left r
    by_reset false false r finished = absurd (no_way (sym finished))

-- The flow differs in marks alone: whether it was reset, seen, ended, given up.
pub record SameFlow (f g : Flow) : Type 0 where
  pub sent : g.sent ≡ f.sent
  pub delivered : g.delivered ≡ f.delivered
  pub parts_out : g.parts_out ≡ f.parts_out
  pub body_out : g.body_out ≡ f.body_out
  pub waits_for : (g.waits_for ≡ 0) ⊎ (g.waits_for ≡ f.waits_for)

out_as : (f g : Flow) (o : Option Part) → g.body_out ≡ f.body_out → g.delivered ≡ f.delivered → OutOfNext f o → OutOfNext g o
out_as f g (Some (Body bytes own)) b d h = (omega (arith, h.0, b), omega (arith, h.1, b, d))
out_as f g None b d h = h
out_as f g (Some (Interim s)) b d h = h
out_as f g (Some (Head s)) b d h = h
out_as f g (Some (Trailer s)) b d h = h
out_as f g (Some End) b d h = h

waits_as : (f g : Flow) (o : Option Part) → g.waits_for ≡ f.waits_for → g.delivered ≡ f.delivered → WaitsForNext f o → WaitsForNext g o
waits_as f g (Some (Interim s)) w d h = (w ∙ h.0, omega (arith, h.1, d))
waits_as f g (Some (Head s)) w d h = (w ∙ h.0, omega (arith, h.1, d))
waits_as f g (Some (Trailer s)) w d h = (w ∙ h.0, omega (arith, h.1, d))
waits_as f g None w d h = h
waits_as f g (Some (Body bytes own)) w d h = h
waits_as f g (Some End) w d h = h

pub marked_kept : (p : Party) (f g : Flow) → SameFlow f g → IsSoundFlow p f → (g.ended ≡ true → (is_finished g ≡ true) × (g.delivered ≡ length (flow_bytes g)))
    → (g.reset_came ≡ true → g.is_reset ≡ true) → (g.seen ≡ false → (f.seen ≡ false) × (g.ended ≡ f.ended) × (g.reset_came ≡ f.reset_came)) → IsSoundFlow p g
marked_kept p f g same sound ended reset seen =
    record {
      sent = subst (λ ps. AreSent p None 0 ps) (sym same.sent) sound.sent;
      delivered = omega (arith, same.delivered, sound.delivered, ap (λ ps. length (flat_map part_bytes ps)) same.sent);
      out = omega (arith, same.parts_out, sound.out, ap length same.sent);
      out_delivered =
          omega (arith, same.delivered, sound.out_delivered, ap (λ ps. length (flat_map part_bytes (take g.parts_out ps))) same.sent, ap (λ n. length (flat_map part_bytes (take n f.sent))) same.parts_out);
      body_out = by_out sound.body_out;
      waits = by_waits same.waits_for sound.waits;
      ended = ended;
      reset_came = reset;
      unseen = λ e.
          let s = seen e in
          let u = sound.unseen s.0 in
          (same.delivered ∙ u.0, same.parts_out ∙ u.1, s.1 ∙ u.2, s.2 ∙ u.3);
    }
  where
    next : next_part f ≡ next_part g
    next = ap (λ n. slice_get f.sent n) (sym same.parts_out) ∙ ap (λ ps. slice_get ps g.parts_out) (sym same.sent)

    by_out : (f.body_out ≡ 0) ⊎ OutOfNext f (next_part f) → (g.body_out ≡ 0) ⊎ OutOfNext g (next_part g)
    by_out (inl e) = inl (same.body_out ∙ e)
    by_out (inr h) = inr (subst (λ o. OutOfNext g o) next (out_as f g (next_part f) same.body_out same.delivered h))

    by_waits : (g.waits_for ≡ 0) ⊎ (g.waits_for ≡ f.waits_for) → (f.waits_for ≡ 0) ⊎ WaitsForNext f (next_part f) → (g.waits_for ≡ 0) ⊎ WaitsForNext g (next_part g)
    by_waits (inl e) h = inl e
    by_waits (inr e) (inl h) = inl (e ∙ h)
    by_waits (inr e) (inr h) = inr (subst (λ o. WaitsForNext g o) next (waits_as f g (next_part f) e same.delivered h))

pub cut_kept : (p : Party) (f : Flow) → IsSoundFlow p f → is_sent_off f ≡ false → IsSoundFlow p (cut f)
cut_kept p f sound not_off =
    marked_kept p f (cut f) (record { sent = refl; delivered = refl; parts_out = refl; body_out = refl; waits_for = inr refl }) sound
    (λ e. absurd (no_way (sym (ended_is_off p f sound e) ∙ not_off))) (λ e. refl) (λ e. (e, refl, refl))

-- its end came
pub end_kept : (p : Party) (f : Flow) → IsSoundFlow p f → is_finished f ≡ true → f.delivered ≡ length (flow_bytes f) → IsSoundFlow p (record f { seen = true; ended = true })
end_kept p f sound finished whole =
    marked_kept p f (record f { seen = true; ended = true }) (record { sent = refl; delivered = refl; parts_out = refl; body_out = refl; waits_for = inr refl }) sound
    (λ e. (finished, whole)) sound.reset_came (λ e. absurd (no_way e))

-- its reset came
pub reset_kept : (p : Party) (f : Flow) → IsSoundFlow p f → f.is_reset ≡ true → IsSoundFlow p (record f { seen = true; reset_came = true })
reset_kept p f sound reset =
    marked_kept p f (record f { seen = true; reset_came = true }) (record { sent = refl; delivered = refl; parts_out = refl; body_out = refl; waits_for = inr refl }) sound
    sound.ended (λ e. reset) (λ e. absurd (no_way e))

-- its receiver gave it up
pub fault_kept : (p : Party) (f : Flow) (fault : StreamFault) → IsSoundFlow p f → IsSoundFlow p (record f { fault = Some fault; waits_for = 0 })
fault_kept p f fault sound =
    marked_kept p f (record f { fault = Some fault; waits_for = 0 }) (record { sent = refl; delivered = refl; parts_out = refl; body_out = refl; waits_for = inl refl }) sound
    sound.ended sound.reset_came (λ e. (e, refl, refl))

-- the part at that place ends at the length of all parts up to it
ends_at : (p : Party) (before : Option Part) (start : ℕ) (parts : List Part) (n : ℕ) (part : Part) → AreSent p before start parts → slice_get parts n ≡ Some part
    → IsSentPart p (start + length (flat_map part_bytes (take (n + 1) parts))) part
ends_at p before start [] n part h e = cc
ends_at p before start (q ∷ qs) zero part h e =
    subst (λ m. IsSentPart p m part) one (subst (λ x. IsSentPart p (start + length (part_bytes x)) x) (ap (λ o. unwrap_or o q) e) h.1)
  where
    one : start + length (part_bytes part) ≡ start + length (flat_map part_bytes (take 1 (q ∷ qs)))
    one = omega (arith, ap (λ o. length (part_bytes (unwrap_or o q))) e, length-append (part_bytes q) [])
ends_at p before start (q ∷ qs) (suc n) part h e =
    subst (λ m. IsSentPart p m part) more (ends_at p (Some q) (start + length (part_bytes q)) qs n part h.2 e)
  where
    one_more : suc (n + 1) ≡ suc n + 1
    one_more = omega arith

    more : start + length (part_bytes q) + length (flat_map part_bytes (take (n + 1) qs)) ≡ start + length (flat_map part_bytes (take (suc n + 1) (q ∷ qs)))
    more = omega (arith, ap (λ k. length (flat_map part_bytes (take k (q ∷ qs)))) one_more, length-append (part_bytes q) (flat_map part_bytes (take (n + 1) qs)))

inside : (parts : List Part) (n : ℕ) (part : Part) → slice_get parts n ≡ Some part → n + 1 ≤ length parts
inside [] n part e = cc
inside (q ∷ qs) zero part e = omega arith
inside (q ∷ qs) (suc n) part e = omega (arith, inside qs n part e)

-- the bytes of all parts up to this one, and those of a front are no more than all
front_within : (parts : List Part) (n : ℕ) → length (flat_map part_bytes (take n parts)) ≤ length (flat_map part_bytes parts)
front_within parts n =
    omega (
      arith,
      ap (λ ps. length (flat_map part_bytes ps)) (take-append-drop n parts),
      ap length (flat_map-append part_bytes (take n parts) (drop n parts)),
      length-append (flat_map part_bytes (take n parts)) (flat_map part_bytes (drop n parts)),
    )

-- one further part, of which all bytes came
pub past_kept : (p : Party) (f : Flow) → IsSoundFlow p f → f.parts_out + 1 ≤ length f.sent → length (flat_map part_bytes (take (f.parts_out + 1) f.sent)) ≤ f.delivered → f.seen ≡ true
    → IsSoundFlow p (record f { parts_out = f.parts_out + 1; body_out = 0; waits_for = 0 })
past_kept p f sound out came seen =
    record {
      sent = sound.sent;
      delivered = sound.delivered;
      out = out;
      out_delivered = came;
      body_out = inl refl;
      waits = inl refl;
      ended = sound.ended;
      reset_came = sound.reset_came;
      unseen = λ e. absurd (no_way (sym seen ∙ e));
    }

-- the same where nothing of a body is out
past_as : (p : Party) (f : Flow) → IsSoundFlow p f → f.body_out ≡ 0 → f.parts_out + 1 ≤ length f.sent → length (flat_map part_bytes (take (f.parts_out + 1) f.sent)) ≤ f.delivered → f.seen ≡ true
    → IsSoundFlow p (record f { parts_out = f.parts_out + 1; waits_for = 0 })
past_as p f sound none out came seen =
    subst (λ n. IsSoundFlow p (record f { parts_out = f.parts_out + 1; body_out = n; waits_for = 0 })) (sym none) (past_kept p f sound out came seen)

-- some bytes of a body
piece_kept : (p : Party) (f : Flow) (bytes : List ℕ) (own count : ℕ) → IsSoundFlow p f → next_part f ≡ Some (Body bytes own) → f.body_out + count < length bytes
    → own - length bytes + (f.body_out + count) ≤ f.delivered → f.seen ≡ true → IsSoundFlow p (record f { body_out = f.body_out + count; waits_for = 0 })
piece_kept p f bytes own count sound next less came seen =
    record {
      sent = sound.sent;
      delivered = sound.delivered;
      out = sound.out;
      out_delivered = sound.out_delivered;
      body_out = inr (subst (λ o. OutOfNext (record f { body_out = f.body_out + count; waits_for = 0 }) o) (sym next) (less, came));
      waits = inl refl;
      ended = sound.ended;
      reset_came = sound.reset_came;
      unseen = λ e. absurd (no_way (sym seen ∙ e));
    }

no_body : (f : Flow) (o : Option Part) → next_part f ≡ o → ((bytes : List ℕ) (own : ℕ) → o ≡ Some (Body bytes own) → ⊥) → (f.body_out ≡ 0) ⊎ OutOfNext f (next_part f) → f.body_out ≡ 0
no_body f o e never (inl h) = h
no_body f o e never (inr h) = absurd (by_part o (subst (λ x. OutOfNext f x) e h) never)
  where
    by_part : (o : Option Part) → OutOfNext f o → ((bytes : List ℕ) (own : ℕ) → o ≡ Some (Body bytes own) → ⊥) → ⊥
    by_part None h never = h
    by_part (Some (Interim s)) h never = h
    by_part (Some (Head s)) h never = h
    by_part (Some (Body bytes own)) h never = never bytes own refl
    by_part (Some (Trailer s)) h never = h
    by_part (Some End) h never = h

one_byte_type : length (encoding 1) ≡ 1
unfolding encoding
one_byte_type = refl

-- a section's frame has bytes
some_bytes : (s : Section) → 0 < length (part_bytes (Head s))
some_bytes s = omega (arith, one_byte_type, length-append (head_encoding 1 (length s.encoded)) s.encoded, length-append (encoding 1) (encoding (length s.encoded)))

-- a part's bytes are among those up to it
last_within : (parts : List Part) (n : ℕ) (part : Part) → slice_get parts n ≡ Some part → length (part_bytes part) ≤ length (flat_map part_bytes (take (n + 1) parts))
last_within [] n part e = cc
last_within (q ∷ qs) zero part e = omega (arith, ap (λ o. length (part_bytes (unwrap_or o q))) e, length-append (part_bytes q) [])
last_within (q ∷ qs) (suc n) part e =
    let more : suc (n + 1) ≡ suc n + 1 = omega arith in
    omega (arith, last_within qs n part e, ap (λ k. length (flat_map part_bytes (take k (q ∷ qs)))) more, length-append (part_bytes q) (flat_map part_bytes (take (n + 1) qs)))

-- a section that has come
section_out : (p : Party) (f : Flow) (part : Part) (s : Section) → IsSoundFlow p f → next_part f ≡ Some part → f.body_out ≡ 0 → part_bytes part ≡ part_bytes (Head s)
    → s.own_length ≡ 0 + length (flat_map part_bytes (take (f.parts_out + 1) f.sent)) → s.own_length ≤ f.delivered → IsSoundFlow p (record f { parts_out = f.parts_out + 1; waits_for = 0 })
section_out p f part s sound next none bytes own came =
    past_as p f sound none (inside f.sent f.parts_out part next) (omega (arith, own, came)) (by_seen f.seen refl)
  where
    front : length (part_bytes part) ≤ length (flat_map part_bytes (take (f.parts_out + 1) f.sent))
    front = last_within f.sent f.parts_out part next

    by_seen : (b : Bool) → f.seen ≡ b → f.seen ≡ true
    by_seen true e = e
    by_seen false e = absurd (omega (arith, came, own, front, ap length bytes, some_bytes s, (sound.unseen e).0))

-- a piece of a body that has come
body_kept : (p : Party) (f : Flow) (bytes : List ℕ) (own count : ℕ) → IsSoundFlow p f → next_part f ≡ Some (Body bytes own) → 0 < count → count ≤ body_there f bytes own
    → IsSoundFlow p (after_piece f bytes (length (take count (drop f.body_out bytes))))
body_kept p f bytes own count sound next some came = by_test (f.body_out + piece == length bytes) refl
  where
    piece : ℕ
    piece = length (take count (drop f.body_out bytes))

    piece_is : piece ≡ min count (length bytes - f.body_out)
    piece_is = length-take count (drop f.body_out bytes) ∙ ap (min count) (length-drop f.body_out bytes)

    sent : IsSentPart p (0 + length (flat_map part_bytes (take (f.parts_out + 1) f.sent))) (Body bytes own)
    sent = ends_at p None 0 f.sent f.parts_out (Body bytes own) sound.sent next

    long : length bytes ≤ own
    long = omega (arith, sent.2, last_within f.sent f.parts_out (Body bytes own) next, length-append (head_encoding 0 (length bytes)) bytes)

    out : f.body_out ≤ length bytes
    out = by_out sound.body_out
      where
        by_out : (f.body_out ≡ 0) ⊎ OutOfNext f (next_part f) → f.body_out ≤ length bytes
        by_out (inl h) = omega (arith, h)
        by_out (inr h) = omega (arith, (subst (λ o. OutOfNext f o) next h).0)

    seen : f.seen ≡ true
    seen = by_seen f.seen refl
      where
        by_seen : (b : Bool) → f.seen ≡ b → f.seen ≡ true
        by_seen true e = e
        by_seen false e = absurd (omega (arith, some, came, (sound.unseen e).0))

    there : own - length bytes + f.body_out + count ≤ f.delivered
    there = omega (arith, some, came)

    same : (a b : ℕ) → (a == b) ≡ true → a ≡ b
    same a b h = grind (arith, common_steps, h)

    differs : (a b : ℕ) → a ≤ b → (a == b) ≡ false → a < b
    differs a b le h = grind (arith, common_steps, le, h)

    least : (a b : ℕ) → (min a b ≤ a) × (min a b ≤ b)
    least a b = (grind (arith, common_steps), grind (arith, common_steps))

    few : piece ≤ count
    few = omega (arith, piece_is, (least count (length bytes - f.body_out)).0)

    fits : f.body_out + piece ≤ length bytes
    fits = omega (arith, out, piece_is, (least count (length bytes - f.body_out)).1)

    by_test : (b : Bool) → (f.body_out + piece == length bytes) ≡ b
        → IsSoundFlow p (if b then record f { parts_out = f.parts_out + 1; body_out = 0; waits_for = 0 } else record f { body_out = f.body_out + piece; waits_for = 0 })
    by_test true e =
        let all = same (f.body_out + piece) (length bytes) e in
        past_kept p f sound (inside f.sent f.parts_out (Body bytes own) next) (omega (arith, sent.2, there, few, all, long)) seen
    by_test false e =
        piece_kept p f bytes own piece sound next (differs (f.body_out + piece) (length bytes) fits e) (omega (arith, there, few)) seen

-- what is handed out of the next part leaves the flow sound
pub item_kept : (p : Party) (most : ℕ) (f : Flow) (part : Option Part) (i : Item) → IsSoundFlow p f → next_part f ≡ part → HasCome most f part i → IsSoundFlow p (after_item f part i)
item_kept p most f None i sound next has = absurd has
item_kept p most f (Some (Interim s)) i sound next has =
    section_out p f (Interim s) s sound next (no_body f _ next (λ bytes own e. cc) sound.body_out) refl (ends_at p None 0 f.sent f.parts_out (Interim s) sound.sent next).1 has.0
item_kept p most f (Some (Head s)) i sound next has =
    section_out p f (Head s) s sound next (no_body f _ next (λ bytes own e. cc) sound.body_out) refl (ends_at p None 0 f.sent f.parts_out (Head s) sound.sent next).1 has.0
item_kept p most f (Some (Trailer s)) i sound next has =
    section_out p f (Trailer s) s sound next (no_body f _ next (λ bytes own e. cc) sound.body_out) refl (ends_at p None 0 f.sent f.parts_out (Trailer s) sound.sent next).1 has.0
item_kept p most f (Some (Body bytes own)) i sound next has =
    subst (λ x. IsSoundFlow p (after_item f (Some (Body bytes own)) x)) (sym has.3) (body_kept p f bytes own has.0 sound next has.1 has.2)
item_kept p most f (Some End) i sound next has =
    past_as p f sound (no_body f _ next (λ bytes own e. cc) sound.body_out) (inside f.sent f.parts_out End next)
    (omega (arith, (sound.ended has.0).1, front_within f.sent (f.parts_out + 1))) (by_seen f.seen refl)
  where
    by_seen : (b : Bool) → f.seen ≡ b → f.seen ≡ true
    by_seen true e = e
    by_seen false e = absurd (no_way (sym has.0 ∙ (sound.unseen e).2))
