-- Bytes that QUIC carried come. To a schedule they leave the writer then.
use Rattle.std.proofs.Common.{arith, ◌≡◌, ◌≤◌, ℕ, ◌+◌, ◌-◌, Bool, true, false, if◌then◌else◌, List, [], ◌++◌, length, refl, sym, ap, subst, ◌∙◌, Option, Some, None, append_assoc, length-append}
use Rattle.std.specs.Prelude.{◌==◌, option_map}
use Rattle.std.proofs.lemmas.Grind.{common_steps}
use Rattle.h3_proto.specs.declared.stream.Side.{Side}
use Rattle.h3_proto.specs.declared.stream.Side.TheVariants.{Client, Server}
use Rattle.h3_connection.specs.Endpoint.{EndpointHistory}
use Rattle.h3_connection.specs.Order.{default_precedence, no_order}
use Rattle.h3_connection.specs.Outgoing.{Outgoing as Out}
use Rattle.h3_connection.specs.OwnIds.{control_id, decoder_id, encoder_id, is_own}
use Rattle.h3_connection.specs.Sending.{advance, advance_at}
use Rattle.h3_connection.specs.StreamSets.{set_stream, stream_at}
use Rattle.h3_connection.specs.StreamSetLaws.{set-same}
use Rattle.h3_c.proofs.Filling.{filled_parts}
use Rattle.h3_c.proofs.Flights.{Carries, Flies, FliesAt, IsUnreset, advanced_own, extra, its, lagging, length_if, not_there, own_lags}
use Rattle.h3_c.proofs.Grows.{own_taken}
use Rattle.h3_c.proofs.Views.{at_seen, by_id, seen, seen_absent, set_seen, streams_seen}

-- The first of them are not carried any more.
flies_fewer : {text flying : List ℕ} {taken : ℕ} (front rest : List ℕ) → Flies text taken flying → flying ≡ front ++ rest → Flies text taken rest
flies_fewer {flying = flying} front rest f is =
    record {
      before = f.before ++ front;
      rest = f.rest;
      is = f.is ∙ ap (λ l. f.before ++ (l ++ f.rest)) is ∙ ap (λ l. f.before ++ l) (append_assoc front rest f.rest) ∙ sym (append_assoc f.before front (rest ++ f.rest));
      count = let all = ap (λ l. length l) is in let both = length-append front rest in let more = length-append f.before front in let was = f.count in omega (arith, all, both, more, was);
    }

-- so many bytes of it count as taken then
back : (t k x l : ℕ) → k ≡ x + l → k ≤ t → (t - k) + x ≡ t - l
back t k x l is few = omega (arith, is, few)

counted_few : {text flying : List ℕ} {taken : ℕ} → Flies text taken flying → length flying ≤ taken
counted_few f = let count = f.count in omega (arith, count)

counts_if : (side : Side) (m n o : ℕ)
    → ((if control_id side == control_id side then m else (if control_id side == encoder_id side then n else (if control_id side == decoder_id side then o else 0))) ≡ m)
    × ((if encoder_id side == control_id side then m else (if encoder_id side == encoder_id side then n else (if encoder_id side == decoder_id side then o else 0))) ≡ n)
    × ((if decoder_id side == control_id side then m else (if decoder_id side == encoder_id side then n else (if decoder_id side == decoder_id side then o else 0))) ≡ o)
counts_if Client m n o = (refl, refl, refl)
counts_if Server m n o = (refl, refl, refl)

are_own : (side : Side) → (is_own side (control_id side) ≡ true) × (is_own side (encoder_id side) ≡ true) × (is_own side (decoder_id side) ≡ true)
are_own Client = (refl, refl, refl)
are_own Server = (refl, refl, refl)

same_order : (b : Bool) → (if b then no_order else no_order) ≡ no_order
same_order true = refl
same_order false = refl

abbrev pub Leaves : (ℕ → List ℕ) → ℕ → List ℕ → (ℕ → List ℕ) → Type 0
Leaves before id bytes after = (q : ℕ) → before q ≡ (if q == id then bytes else []) ++ after q

module _ (before after said owed : ℕ → List ℕ) (e : EndpointHistory) (k : Carries e.side before said owed e) (id : ℕ) (bytes : List ℕ) (leaves : Leaves before id bytes after) where
  abbrev n : ℕ
  n = length bytes

  shorter : (q : ℕ) → length (before q) ≡ extra id n q + length (after q)
  shorter q = ap (λ l. length l) (leaves q) ∙ length-append (if q == id then bytes else []) (after q) ∙ ap (λ i. i + length (after q)) (length_if (q == id) bytes)

  flies_at : (q : ℕ) (o : Option Out) → FliesAt e q o (said q) (before q) → FliesAt e q o (said q) (after q)
  flies_at q None f = flies_fewer (if q == id then bytes else []) (after q) f (leaves q)
  flies_at q (Some o) f = λ goes. flies_fewer (if q == id then bytes else []) (after q) (f goes) (leaves q)

  pub carries_fewer : Carries e.side after said owed e
  carries_fewer = record { side_is = refl; flies = λ q. flies_at q (stream_at e.outgoing q) (k.flies q); owes = k.owes; silent = k.silent; apart = k.apart; next = k.next; next_is = k.next_is; fresh = k.fresh }

  others_out : (i : ℕ) (x : Out) → (i == id) ≡ false → (lagging e.side before said).out i x ≡ (lagging e.side after said).out i x
  others_out i x differs =
      let none = ap (λ b. if b then n else 0) differs in
      let all = shorter i in
      let same : length (before i) ≡ length (after i) = omega (arith, none, all) in
      ap (λ l. record x { parts = filled_parts (said i) x.parts; taken = x.taken - l; end_taken = false; precedence = default_precedence }) same

  -- an own stream
  own_few : (q : ℕ) → is_own e.side q ≡ true → length (before q) ≤ own_taken e q
  own_few q own = counted_few (subst (λ o. FliesAt e q o (said q) (before q)) (k.apart q own) (k.flies q))

  own_landed : stream_at e.outgoing id ≡ None → advance (its e said before e) id n ≡ its e said after e
  own_landed at =
      let V = its e said before e in
      let counts = counts_if e.side e.own.control_taken e.own.encoder_taken e.own.decoder_taken in
      let own = are_own e.side in
      ap (λ o. advance_at V id n o) (at_seen e.outgoing (lagging e.side before said).out id ∙ ap (λ o. option_map ((lagging e.side before said).out id) o) at)
      ∙ ap (λ o. record V { own = o }) (advanced_own V.own e.side id n)
      ∙ ap (λ o. record V { own = o })
      (own_lags e.own _ _ _ _ _ _
      (back e.own.control_taken (length (before (control_id e.side))) (extra id n (control_id e.side)) (length (after (control_id e.side))) (shorter (control_id e.side)) (subst (λ t. length (before (control_id e.side)) ≤ t) counts.0 (own_few (control_id e.side) own.0)))
      (back e.own.encoder_taken (length (before (encoder_id e.side))) (extra id n (encoder_id e.side)) (length (after (encoder_id e.side))) (shorter (encoder_id e.side)) (subst (λ t. length (before (encoder_id e.side)) ≤ t) counts.1 (own_few (encoder_id e.side) own.1)))
      (back e.own.decoder_taken (length (before (decoder_id e.side))) (extra id n (decoder_id e.side)) (length (after (decoder_id e.side))) (shorter (decoder_id e.side)) (subst (λ t. length (before (decoder_id e.side)) ≤ t) counts.2 (own_few (decoder_id e.side) own.2))))
      ∙ ap (λ l. record (its e said after e) { outgoing = l }) (seen_absent e.outgoing (lagging e.side before said).out (lagging e.side after said).out id at others_out)

  -- a request stream
  as_long : (o : Out) → stream_at e.outgoing id ≡ Some o → (q : ℕ) → is_own e.side q ≡ true → length (before q) ≡ length (after q)
  as_long o at q own =
      let none : extra id n q ≡ 0 = by_id q id (λ b. (if b then n else 0) ≡ 0) (λ same. absurd (not_there (stream_at e.outgoing id) o at (k.apart id (subst (λ i. is_own e.side i ≡ true) same own)))) (λ differs. refl) in
      let all = shorter q in omega (arith, all, none)

  request_landed : (o : Out) → stream_at e.outgoing id ≡ Some o → o.is_reset ≡ false → advance (its e said before e) id n ≡ its e said after e
  request_landed o at goes =
      let V = its e said before e in
      let own = are_own e.side in
      let there = (lagging e.side before said).out id o in
      let taken : Out = record there { taken = there.taken + n } in
      let this : extra id n id ≡ n = ap (λ b. if b then n else 0) (same_number id) in
      let all = shorter id ∙ ap (λ i. i + length (after id)) this in
      let few = counted_few (subst (λ x. FliesAt e id x (said id) (before id)) at (k.flies id) goes) in
      ap (λ x. advance_at V id n x) (at_seen e.outgoing (lagging e.side before said).out id ∙ ap (λ x. option_map ((lagging e.side before said).out id) x) at)
      ∙ ap (λ r. record V { outgoing = set_stream V.outgoing id taken; order = r }) (same_order (n == 0))
      ∙ ap (λ l. record V { outgoing = l })
      (set_seen e.outgoing (lagging e.side before said).out (lagging e.side after said).out id o taken
      (ap (λ t. record o { parts = filled_parts (said id) o.parts; taken = t; end_taken = false; precedence = default_precedence }) (sym (back o.taken (length (before id)) n (length (after id)) all few))) others_out
      ∙ ap (λ l. streams_seen l (lagging e.side after said).out) (set-same e.outgoing id o at))
      ∙ ap (λ x. record V { outgoing = streams_seen e.outgoing (lagging e.side after said).out; own = x })
      (own_lags e.own _ _ _ _ _ _ (ap (λ l. e.own.control_taken - l) (as_long o at (control_id e.side) own.0)) (ap (λ l. e.own.encoder_taken - l) (as_long o at (encoder_id e.side) own.1)) (ap (λ l. e.own.decoder_taken - l) (as_long o at (decoder_id e.side) own.2)))
    where
      same_number : (i : ℕ) → (i == i) ≡ true
      same_number i = grind (arith, common_steps)

  by_stream : (o : Option Out) → stream_at e.outgoing id ≡ o → IsUnreset o → advance (its e said before e) id n ≡ its e said after e
  by_stream None at goes = own_landed at
  by_stream (Some o) at goes = request_landed o at goes

  -- **What comes is taken then.**
  pub landed : IsUnreset (stream_at e.outgoing id) → advance (its e said before e) id n ≡ its e said after e
  landed goes = by_stream (stream_at e.outgoing id) refl goes

pub record Landed (side : Side) (before after said owed : ℕ → List ℕ) (e : EndpointHistory) (id n : ℕ) : Type 0 where
  pub carries : Carries side after said owed e
  pub advances : IsUnreset (stream_at e.outgoing id) → advance (seen (lagging side before said) e) id n ≡ seen (lagging side after said) e

pub landed_on : (side : Side) (before after said owed : ℕ → List ℕ) (e : EndpointHistory) → Carries side before said owed e → (id : ℕ) (bytes : List ℕ) → Leaves before id bytes after → Landed side before after said owed e id (length bytes)
landed_on side before after said owed e k id bytes leaves =
    let j = subst (λ s. Carries s before said owed e) (sym k.side_is) k in
    subst (λ s. Landed s before after said owed e id (length bytes)) k.side_is (record { carries = carries_fewer before after said owed e j id bytes leaves; advances = landed before after said owed e j id bytes leaves })
