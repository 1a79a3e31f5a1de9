-- What is handed out of a piece of the body whose type and length were read.
use Rattle.std.proofs.Common.{◌≡◌, ℕ, ◌<◌, true, arith, nat_lt, ◌+◌, ◌-◌, Bool, false, List, [], ◌++◌, length, drop, refl, sym, ap, ◌∙◌, length-append, if◌then◌else◌, zero, suc, subst, Option, Some, None, ◌≤◌, take, append_assoc, ◌∷◌, take-append-drop}
use Rattle.std.proofs.lemmas.Grind.{common_steps}
use Rattle.std.specs.List.{concat, flat_map, AllByRecursion}
use Rattle.std.specs.Prelude.{◌&&◌, ◌==◌, slice_get, nat_le}
use Rattle.h3_connection.specs.Incoming.{Incoming}
use Rattle.h3_world.specs.Flow.{Flow, part_bytes, Part, Section, flow_bytes}
use Rattle.h3_frames.specs.Pieces.{chunk_of}
use Rattle.h3_connection.specs.Pulling.{malformed, in_payload, at_payload, body_of, connection_fault, just}
use Rattle.h3_connection.specs.Codes.{frame_error}
use Rattle.h3_messages.specs.Content.{is_exceeded}
use Rattle.h3_connection.specs.declared.event.Malformation.TheVariants as malformation
use Rattle.h3_world.specs.Flow.Part.{Body}
use Rattle.h3_connection.specs.declared.event.Pull.TheVariants as pull
use Rattle.h3_world.specs.Items.{body_there}
use Rattle.h3_world.specs.Order.{next_part, is_end, section_of_part}
use Rattle.std.proofs.lemmas.List.{take_at, drop_at, take-append-le, drop-append-le, drop_all, length-drop, drop-drop, length-take}
use Rattle.h3_connection.specs.declared.event.Item.TheVariants as item
use Rattle.h3_connection.specs.declared.event.Pull.{Pull}
use Rattle.h3_headline.specs.PulledLaws.{receives_on, stands_at}
use Rattle.h3_headline.specs.Pulling.{ComesTo, HandsOut, IsFront, IsInPiece, Pauses, after_front}
use Rattle.h3_headline.specs.Standing.{HasBytes, ReceivesFlow, StandsBefore, WaitsIn, section_frame}

below : (a b : ℕ) → nat_lt a b ≡ true → a < b
below a b e = grind (arith, common_steps, e)

not_short : (f : Flow) (bytes : List ℕ) (own : ℕ) (i : Incoming) → IsInPiece f bytes own i → (i.ended && nat_lt (length (concat i.unread)) i.body_left) ≡ false
not_short f bytes own i h = by_tests i.ended refl (nat_lt (length (concat i.unread)) i.body_left) refl
  where
    by_tests : (a : Bool) → i.ended ≡ a → (b : Bool) → nat_lt (length (concat i.unread)) i.body_left ≡ b → (a && b) ≡ false
    by_tests false e b k = refl
    by_tests true e false k = refl
    by_tests true e true k =
        let none = h.whole (sym h.on.ended ∙ e) in
        let rest = flat_map part_bytes (drop (f.parts_out + 1) f.sent) in
        let all : concat i.unread ++ [] ≡ drop f.body_out bytes ++ rest = ap (λ l. concat i.unread ++ l) (sym none) ∙ h.unread in
        absurd (omega (arith, below _ _ k, h.size, ap length all, length-append (concat i.unread) [], length-append (drop f.body_out bytes) rest))

payload_is : (id : ℕ) (f : Flow) (bytes : List ℕ) (own : ℕ) (i : Incoming) → IsInPiece f bytes own i → at_payload id i ≡ body_of i (chunk_of i.body_left i.unread)
payload_is id f bytes own i h =
    ap (λ c. if is_exceeded c then malformed id malformation.ContentLength i [] else in_payload i) h.content
    ∙ ap (λ b. if b then connection_fault frame_error i else body_of i (chunk_of i.body_left i.unread)) (not_short f bytes own i h)

before_inside : (f : Flow) (n : ℕ) (part : Option Part) (bytes : List ℕ) (own : ℕ) (left : List ℕ) → part ≡ Some (Body bytes own) → 0 < n → n ≡ length (drop f.body_out bytes)
    → left ≡ drop f.body_out bytes ++ flat_map part_bytes (drop (f.parts_out + 1) f.sent) → StandsBefore f n part left
before_inside f zero part bytes own left is some size at = absurd (omega (arith, some))
before_inside f (suc n) part bytes own left is some size at = subst (λ o. StandsBefore f (suc n) o left) (sym is) (size, at)

-- what the receiver has read and not decoded is no section
no_section : (g : Flow) (i : Incoming) (section : Option (List ℕ)) (s : Option Section) → section ≡ None → g.waits_for ≡ 0 → WaitsIn g i section s
no_section g i section s none waits = subst (λ o. WaitsIn g i o s) (sym none) waits

-- Nothing of it came: the pull waits.
nothing_came_of_it : (most id : ℕ) (f : Flow) (came : ℕ) (bytes : List ℕ) (own : ℕ) (i : Incoming) → IsInPiece f bytes own i → i.unread ≡ [] → ComesTo most id f came (Some (Body bytes own)) (just pull.Pending i)
nothing_came_of_it most id f came bytes own i h none =
    let there : body_there f bytes own ≡ 0 = h.there ∙ ap (λ l. length (concat l)) none in
    let g : Flow = record f { waits_for = 0 } in
    Pauses pull.Pending (ap (λ n. if n == 0 then Some pull.Pending else None) there) refl refl
    (receives_on f g i i h.on refl refl refl refl refl refl (h.on.goes_on ∙ sym h.on.not_over) h.waits (record {
      unread = before_inside g i.body_left (next_part f) bytes own (section_frame i.section ++ concat i.unread ++ drop f.delivered (flow_bytes f)) h.next
          (omega (arith, h.some, h.size)) h.size (ap (λ o. section_frame o ++ concat i.unread ++ drop f.delivered (flow_bytes f)) h.section ∙ h.unread);
      waits = no_section g i i.section _ h.section refl;
      pieces = h.pieces;
      place = h.place;
      content = h.content;
    }))

front_left : (left rest unread front behind more : List ℕ) → unread ++ more ≡ left ++ rest → unread ≡ front ++ behind → length front ≤ length left
    → (front ≡ take (length front) left) × (behind ++ more ≡ drop (length front) left ++ rest)
front_left left rest unread front behind more e is within =
    let all : front ++ (behind ++ more) ≡ left ++ rest = sym (append_assoc front behind more) ∙ ap (λ l. l ++ more) (sym is) ∙ e in (
      sym (take_at front (behind ++ more) (length front) refl) ∙ ap (take (length front)) all ∙ take-append-le (length front) left rest within,
      sym (drop_at front (behind ++ more) (length front) refl) ∙ ap (drop (length front)) all ∙ drop-append-le (length front) left rest within,
    )

over_after_body : (f : Flow) (bytes : List ℕ) (own : ℕ) → next_part f ≡ Some (Body bytes own) → (nat_lt 0 (f.parts_out + 1) && is_end (slice_get f.sent (f.parts_out + 1 - 1))) ≡ false
over_after_body f bytes own next =
    let n : f.parts_out + 1 - 1 ≡ f.parts_out = omega arith in
    not_second (nat_lt 0 (f.parts_out + 1)) _ (ap (λ m. is_end (slice_get f.sent m)) n ∙ ap is_end next)
  where
    not_second : (a b : Bool) → b ≡ false → (a && b) ≡ false
    not_second true b e = e
    not_second false b e = refl

drop_whole : (l : List ℕ) → drop (length l) l ≡ []
drop_whole l = drop_all (length l) l (omega arith)

less : (a b : ℕ) → a ≤ b → (a ≡ b → ⊥) → a < b
less a b h k = grind (arith, common_steps, h, k)

handed : (most id : ℕ) (f : Flow) (came : ℕ) (bytes : List ℕ) (own : ℕ) (i : Incoming) (front : List ℕ) (pieces : List (List ℕ)) → IsInPiece f bytes own i → IsFront i front pieces
    → ComesTo most id f came (Some (Body bytes own)) (just (pull.Item (item.Body front)) (after_front i front pieces))
handed most id f came bytes own i front pieces h k =
    let left = drop f.body_out bytes in
    let rest = flat_map part_bytes (drop (f.parts_out + 1) f.sent) in
    let within : length front ≤ length left = omega (arith, k.within, h.size) in
    let parts = front_left left rest (concat i.unread) front (concat pieces) (drop f.delivered (flow_bytes f)) h.unread k.unread within in
    let here : 0 < body_there f bytes own = omega (arith, h.there, ap length k.unread, length-append front (concat pieces), k.some) in
    let enough : length front ≤ body_there f bytes own = omega (arith, h.there, ap length k.unread, length-append front (concat pieces)) in
    HandsOut (item.Body front) (not_none (body_there f bytes own) here) (length front, k.some, enough, ap item.Body parts.0) refl refl
    (by_size (f.body_out + length front == length bytes) refl parts.1)
  where
    differs : (n : ℕ) → 0 < n → (n == 0) ≡ false
    differs n some = grind (arith, common_steps, some)

    not_none : (n : ℕ) → 0 < n → ◌≡◌ {A = Option Pull} (if n == 0 then Some pull.Pending else None) None
    not_none n some = ap (λ b. if b then Some pull.Pending else None) (differs n some)

    same_number : (a b : ℕ) → (a == b) ≡ true → a ≡ b
    same_number a b e = grind (arith, common_steps, e)

    other_number : (a b : ℕ) → (a == b) ≡ false → a ≡ b → ⊥
    other_number a b e k = grind (arith, common_steps, e, k)

    by_size : (t : Bool) → (f.body_out + length front == length bytes) ≡ t
        → concat pieces ++ drop f.delivered (flow_bytes f) ≡ drop (length front) (drop f.body_out bytes) ++ flat_map part_bytes (drop (f.parts_out + 1) f.sent)
        → ReceivesFlow (if t then record f { parts_out = f.parts_out + 1; body_out = 0; waits_for = 0 } else record f { body_out = f.body_out + length front; waits_for = 0 }) (after_front i front pieces)
    by_size true e behind =
        let g : Flow = record f { parts_out = f.parts_out + 1; body_out = 0; waits_for = 0 } in
        let all : length front ≡ length (drop f.body_out bytes) = omega (arith, same_number _ _ e, length-drop f.body_out bytes, h.out) in
        let none_left : i.body_left - length front ≡ 0 = omega (arith, all, h.size) in
        let gone : drop (length front) (drop f.body_out bytes) ≡ [] = ap (λ n. drop n (drop f.body_out bytes)) all ∙ drop_whole (drop f.body_out bytes) in
        receives_on f g i (after_front i front pieces) h.on refl refl refl refl refl refl (h.on.goes_on ∙ sym (over_after_body f bytes own h.next)) h.waits (record {
          unread = stands_at g (i.body_left - length front) (next_part g) (section_frame i.section ++ concat pieces ++ drop f.delivered (flow_bytes f)) none_left refl
              (ap (λ o. section_frame o ++ concat pieces ++ drop f.delivered (flow_bytes f)) h.section ∙ behind
              ∙ ap (λ l. l ++ flat_map part_bytes (drop (f.parts_out + 1) f.sent)) gone);
          waits = no_section g (after_front i front pieces) i.section (section_of_part (next_part g)) h.section refl;
          pieces = k.kept;
          place = h.place ∙ sym h.place_next;
          content = h.content;
        })
    by_size false e behind =
        let g : Flow = record f { body_out = f.body_out + length front; waits_for = 0 } in
        let more : length front < length (drop f.body_out bytes) = less (length front) (length (drop f.body_out bytes)) (omega (arith, k.within, h.size))
        (λ same. other_number _ _ e (omega (arith, same, length-drop f.body_out bytes, h.out))) in
        let at : drop (length front) (drop f.body_out bytes) ≡ drop (f.body_out + length front) bytes = drop-drop (length front) f.body_out bytes in
        receives_on f g i (after_front i front pieces) h.on refl refl refl refl refl refl (h.on.goes_on ∙ sym h.on.not_over) h.waits (record {
          unread = before_inside g (i.body_left - length front) (next_part f) bytes own (section_frame i.section ++ concat pieces ++ drop f.delivered (flow_bytes f)) h.next
              (omega (arith, more, h.size))
              (omega (arith, h.size, more, length-drop f.body_out bytes, length-drop (f.body_out + length front) bytes))
              (ap (λ o. section_frame o ++ concat pieces ++ drop f.delivered (flow_bytes f)) h.section ∙ behind
              ∙ ap (λ l. l ++ flat_map part_bytes (drop (f.parts_out + 1) f.sent)) at);
          waits = no_section g (after_front i front pieces) i.section (section_of_part (next_part f)) h.section refl;
          pieces = k.kept;
          place = h.place;
          content = h.content;
        })

-- **The pull inside a piece of the body.**
pub payload_comes : (most id : ℕ) (f : Flow) (came : ℕ) (bytes : List ℕ) (own : ℕ) (i : Incoming) → IsInPiece f bytes own i → ComesTo most id f came (Some (Body bytes own)) (at_payload id i)
payload_comes most id f came bytes own i h = subst (ComesTo most id f came (Some (Body bytes own))) (sym (payload_is id f bytes own i h)) (by_pieces i.unread refl)
  where
    by_pieces : (pieces : List (List ℕ)) → i.unread ≡ pieces → ComesTo most id f came (Some (Body bytes own)) (body_of i (chunk_of i.body_left i.unread))
    by_pieces [] is = subst (λ u. ComesTo most id f came (Some (Body bytes own)) (body_of i (chunk_of i.body_left u))) (sym is) (nothing_came_of_it most id f came bytes own i h is)
    by_pieces (p ∷ pieces) is = subst (λ u. ComesTo most id f came (Some (Body bytes own)) (body_of i (chunk_of i.body_left u))) (sym is) (by_test (nat_le (length p) i.body_left) refl)
      where
        kept : AllByRecursion HasBytes (p ∷ pieces)
        kept = subst (AllByRecursion HasBytes) is h.pieces

        at_most : (a b : ℕ) → nat_le a b ≡ true → a ≤ b
        at_most a b e = grind (arith, common_steps, e)

        above : (a b : ℕ) → nat_le a b ≡ false → b < a
        above a b e = grind (arith, common_steps, e)

        by_test : (b : Bool) → nat_le (length p) i.body_left ≡ b
            → ComesTo most id f came (Some (Body bytes own)) (body_of i (if b then (Some p, pieces) else (Some (take i.body_left p), drop i.body_left p ∷ pieces)))
        by_test true e = handed most id f came bytes own i p pieces h (record { some = kept.0; within = at_most (length p) i.body_left e; unread = ap concat is; kept = kept.1 })
        by_test false e =
            let longer = above (length p) i.body_left e in
            let size : length (take i.body_left p) ≡ i.body_left = omega (arith, length-take i.body_left p, longer) in
            handed most id f came bytes own i (take i.body_left p) (drop i.body_left p ∷ pieces) h (record {
              some = omega (arith, size, h.size, h.some);
              within = omega (arith, size);
              unread = ap concat is ∙ ap (λ l. l ++ concat pieces) (sym (take-append-drop i.body_left p)) ∙ append_assoc (take i.body_left p) (drop i.body_left p) (concat pieces);
              kept = (omega (arith, length-drop i.body_left p, longer), kept.1);
            })
