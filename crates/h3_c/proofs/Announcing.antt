-- A body is announced by its length. To a schedule it is sent, with all of its bytes.
use Rattle.std.proofs.Common.{arith, ◌≡◌, ◌≤◌, ℕ, zero, suc, ◌+◌, ◌-◌, true, false, List, [], ◌∷◌, ◌++◌, flat_map, length, drop, take, refl, sym, ap, subst, ◌∙◌, Some, None, append_assoc, length-append, take-append-drop}
use Rattle.std.specs.Prelude.{◌==◌}
use Rattle.std.proofs.lemmas.List.{length-replicate}
use Rattle.h3_proto.specs.declared.stream.Side.{Side}
use Rattle.h3_messages.specs.Content.{left_behind}
use Rattle.h3_connection.specs.Endpoint.{EndpointHistory}
use Rattle.h3_connection.specs.Order.{default_precedence}
use Rattle.h3_connection.specs.Outgoing.{Outgoing as Out, OwnPart, with_body, written_part}
use Rattle.h3_connection.specs.Outgoing.OwnPart.{OwnBody}
use Rattle.h3_connection.specs.Sending.{with_outgoing}
use Rattle.h3_connection.specs.OwnIds.{is_own}
use Rattle.h3_connection.specs.StreamSets.{set_stream, stream_at}
use Rattle.h3_connection.specs.StreamSetLaws.{set-here, set-other}
use Rattle.h3_outgoing.specs.Held.{held}
use Rattle.h3_c.proofs.Filling.{filled_behind, filled_parts, held_filled, held_places, parts_enough, parts_places, places, places_behind, places_joined, places_of}
use Rattle.h3_c.proofs.Flights.{Carries, FliesAt, OwesAt, both_of_bytes, filled_text, flies_more, lagging, not_there, take_front, taken_within}
use Rattle.h3_c.proofs.Grows.{part_bytes}
use Rattle.h3_c.proofs.Views.{by_id, other_way, seen, seen_alike, set_seen}

-- As much was announced of each stream.
pub carries_alike : (side : Side) (carried said owed now left : ℕ → List ℕ) (e : EndpointHistory) → ((q : ℕ) → now q ≡ said q) → ((q : ℕ) → left q ≡ owed q) → Carries side carried said owed e → Carries side carried now left e
carries_alike side carried said owed now left e same owes k =
    record {
      side_is = k.side_is;
      flies = λ q. subst (λ l. FliesAt e q (stream_at e.outgoing q) l (carried q)) (sym (same q)) (k.flies q);
      owes = λ q. subst (λ l. OwesAt (stream_at e.outgoing q) l (left q)) (sym (same q)) (subst (λ l. OwesAt (stream_at e.outgoing q) (said q) l) (sym (owes q)) (k.owes q));
      silent = k.silent;
      apart = k.apart;
      next = k.next;
      next_is = k.next_is;
      fresh = k.fresh;
    }

pub seen_said : (side : Side) (carried said now : ℕ → List ℕ) (e : EndpointHistory) → ((q : ℕ) → now q ≡ said q) → seen (lagging side carried now) e ≡ seen (lagging side carried said) e
seen_said side carried said now e same =
    ap (λ l. record (seen (lagging side carried said) e) { outgoing = l })
    (seen_alike e.outgoing (lagging side carried now).out (lagging side carried said).out (λ i x. ap (λ l. record x { parts = filled_parts l x.parts; taken = x.taken - length (carried i); end_taken = false; precedence = default_precedence }) (same i)))

-- the announced part, with its payload
behind : (xs ys : List ℕ) (n : ℕ) → n ≡ length xs → drop n (xs ++ ys) ≡ ys
behind xs ys n is = subst (λ i. drop i (xs ++ ys) ≡ ys) (sym is) (by xs)
  where
    by : (zs : List ℕ) → drop (length zs) (zs ++ ys) ≡ ys
    by [] = refl
    by (z ∷ zs) = by zs

pub announced_parts : (said payload : List ℕ) (parts : List OwnPart) → places_of parts ≡ length said
    → filled_parts (said ++ payload) (parts ++ OwnBody (held (length payload)) ∷ []) ≡ filled_parts said parts ++ OwnBody payload ∷ []
announced_parts said payload parts all =
    filled_behind (said ++ payload) parts (OwnBody (held (length payload)) ∷ [])
    ∙ ap (λ l. l ++ filled_parts (drop (places_of parts) (said ++ payload)) (OwnBody (held (length payload)) ∷ [])) (parts_enough parts said payload (omega (arith, all)))
    ∙ ap (λ l. filled_parts said parts ++ filled_parts l (OwnBody (held (length payload)) ∷ [])) (behind said payload (places_of parts) all)
    ∙ ap (λ l. filled_parts said parts ++ OwnBody l ∷ []) (held_filled payload)

module _ (side : Side) (carried said now : ℕ → List ℕ) (e : EndpointHistory) (id : ℕ) (payload : List ℕ) (here : now id ≡ said id ++ payload) (others : (q : ℕ) → (q == id) ≡ false → now q ≡ said q) where
  pub announced_out : (o : Out) → places_of o.parts ≡ length (said id) → (lagging side carried now).out id (with_body o (held (length payload))) ≡ with_body ((lagging side carried said).out id o) payload
  announced_out o all =
      let V = (lagging side carried said).out id o in
      ap (λ l. record V { parts = filled_parts l (o.parts ++ OwnBody (held (length payload)) ∷ []); content = left_behind o.content (length (held (length payload))) }) here
      ∙ ap (λ l. record V { parts = l; content = left_behind o.content (length (held (length payload))) }) (announced_parts (said id) payload o.parts all)
      ∙ ap (λ n. record V { parts = filled_parts (said id) o.parts ++ OwnBody payload ∷ []; content = left_behind o.content n }) (length-replicate (length payload) 256)

  pub announced_seen : (o : Out) → places_of o.parts ≡ length (said id)
      → seen (lagging side carried now) (with_outgoing e id (with_body o (held (length payload)))) ≡ with_outgoing (seen (lagging side carried said) e) id (with_body ((lagging side carried said).out id o) payload)
  announced_seen o all =
      ap (λ l. record (seen (lagging side carried said) e) { outgoing = l })
      (sym (set_seen e.outgoing (lagging side carried said).out (lagging side carried now).out id (with_body o (held (length payload))) (with_body ((lagging side carried said).out id o) payload) (announced_out o all)
      (λ i x differs. ap (λ l. record x { parts = filled_parts l x.parts; taken = x.taken - length (carried i); end_taken = false; precedence = default_precedence }) (sym (others i differs)))))

parts_joined : (parts more : List OwnPart) → flat_map written_part (parts ++ more) ≡ flat_map written_part parts ++ flat_map written_part more
parts_joined [] more = refl
parts_joined (part ∷ parts) more = ap (λ l. written_part part ++ l) (parts_joined parts more) ∙ sym (append_assoc (written_part part) (flat_map written_part parts) (flat_map written_part more))

drop_front : (n : ℕ) (xs ys : List ℕ) → n ≤ length xs → drop n (xs ++ ys) ≡ drop n xs ++ ys
drop_front zero xs ys few = refl
drop_front (suc n) [] ys few = absurd (omega (arith, few))
drop_front (suc n) (x ∷ xs) ys few = drop_front n xs ys (omega (arith, few))

few_places : (n : ℕ) (xs : List ℕ) → places (take n xs) ≤ places xs
few_places n xs = let split = places_joined (take n xs) (drop n xs) in let whole = ap places (take-append-drop n xs) in omega (arith, split, whole)

module _ (side : Side) (carried said owed now left : ℕ → List ℕ) (e : EndpointHistory) (k : Carries side carried said owed e) (id : ℕ) (payload : List ℕ) (o : Out) (at : stream_at e.outgoing id ≡ Some o)
    (here : now id ≡ said id ++ payload) (others : (q : ℕ) → (q == id) ≡ false → now q ≡ said q) (owes_here : left id ≡ owed id ++ payload) (owes_others : (q : ℕ) → (q == id) ≡ false → left q ≡ owed q) where
  abbrev next_out : Out
  next_out = with_body o (held (length payload))

  was : OwesAt (Some o) (said id) (owed id)
  was = subst (λ x. OwesAt x (said id) (owed id)) at (k.owes id)

  longer : filled_text (now id) next_out ≡ filled_text (said id) o ++ flat_map written_part (OwnBody payload ∷ [])
  longer =
      ap (λ l. flat_map written_part (filled_parts l (o.parts ++ OwnBody (held (length payload)) ∷ []))) here ∙ ap (λ l. flat_map written_part l) (announced_parts (said id) payload o.parts was.0)
      ∙ parts_joined (filled_parts (said id) o.parts) (OwnBody payload ∷ [])

  flies_here : FliesAt e id (Some next_out) (now id) (carried id)
  flies_here = λ goes. let f = subst (λ x. FliesAt e id x (said id) (carried id)) at (k.flies id) goes in flies_more f (record { more = flat_map written_part (OwnBody payload ∷ []); is = longer }) refl

  owes_now : OwesAt (Some next_out) (now id) (left id)
  owes_now = (
    sums,
    both_of_bytes o.parts (OwnBody (held (length payload)) ∷ []) was.1 (tt, tt),
    λ goes.
        let f = subst (λ x. FliesAt e id x (said id) (carried id)) at (k.flies id) goes in
        let few = few_places o.taken (part_bytes o) in
        let all = parts_places o.parts was.1 in
        let count = was.0 in
        let front : take o.taken (part_bytes next_out) ≡ take o.taken (part_bytes o) = ap (λ l. take o.taken l) (parts_joined o.parts (OwnBody (held (length payload)) ∷ [])) ∙ take_front o.taken (part_bytes o) _ (taken_within o (said id) (carried id) was.1 f) in
        owes_here ∙ ap (λ l. l ++ payload) (was.2 goes)
        ∙ sym (drop_front (places (take o.taken (part_bytes o))) (said id) payload (omega (arith, few, all, count)))
        ∙ ap (λ l. drop (places (take o.taken (part_bytes o))) l) (sym here) ∙ ap (λ l. drop (places l) (now id)) (sym front),
  )
    where
      sums : places_of (o.parts ++ OwnBody (held (length payload)) ∷ []) ≡ length (now id)
      sums =
          let both = places_behind o.parts (OwnBody (held (length payload)) ∷ []) in
          let new = held_places (length payload) in
          let count = was.0 in
          let long = ap (λ l. length l) here ∙ length-append (said id) payload in
          omega (arith, both, new, count, long)

  pub announced_carries : Carries side carried now left (with_outgoing e id next_out)
  announced_carries = record {
    side_is = k.side_is;
    flies = λ q. by_id id q (λ b. FliesAt e q (stream_at (set_stream e.outgoing id next_out) q) (now q) (carried q))
        (λ same. subst (λ i. FliesAt e i (stream_at (set_stream e.outgoing id next_out) i) (now i) (carried i)) same (subst (λ x. FliesAt e id x (now id) (carried id)) (sym (set-here e.outgoing id next_out)) flies_here))
        (λ differs. subst (λ x. FliesAt e q x (now q) (carried q)) (sym (set-other e.outgoing id q next_out differs)) (subst (λ l. FliesAt e q (stream_at e.outgoing q) l (carried q)) (sym (others q (other_way id q differs))) (k.flies q)));
    owes = λ q. by_id id q (λ b. OwesAt (stream_at (set_stream e.outgoing id next_out) q) (now q) (left q))
        (λ same. subst (λ i. OwesAt (stream_at (set_stream e.outgoing id next_out) i) (now i) (left i)) same (subst (λ x. OwesAt x (now id) (left id)) (sym (set-here e.outgoing id next_out)) owes_now))
        (λ differs. subst (λ x. OwesAt x (now q) (left q)) (sym (set-other e.outgoing id q next_out differs))
        (subst (λ l. OwesAt (stream_at e.outgoing q) l (left q)) (sym (others q (other_way id q differs))) (subst (λ l. OwesAt (stream_at e.outgoing q) (said q) l) (sym (owes_others q (other_way id q differs))) (k.owes q))));
    silent = k.silent;
    apart = λ q own. by_id id q (λ b. stream_at (set_stream e.outgoing id next_out) q ≡ None)
        (λ same. absurd (not_there (stream_at e.outgoing id) o at (k.apart id (subst (λ i. is_own e.side i ≡ true) (sym same) own)))) (λ differs. set-other e.outgoing id q next_out differs ∙ k.apart q own);
    next = k.next;
    next_is = k.next_is;
    fresh = λ client q behind. by_id id q (λ b. stream_at (set_stream e.outgoing id next_out) q ≡ None)
        (λ same. absurd (not_there (stream_at e.outgoing id) o at (k.fresh client id (subst (λ i. e.next_id ≤ i) (sym same) behind)))) (λ differs. set-other e.outgoing id q next_out differs ∙ k.fresh client q behind);
  }
