-- What QUIC takes, and what it gives to the other side.
use Rattle.std.proofs.Common.{arith, ◌≡◌, ◌≤◌, ℕ, ◌+◌, ◌-◌, Bool, true, false, if◌then◌else◌, List, [], ◌∷◌, ◌++◌, length, drop, take, refl, sym, ap, subst, ◌∙◌, Option, Some, None, Result, Ok, append_assoc, zero, suc, length-drop}
use Rattle.std.specs.Prelude.{◌==◌, ◌||◌, option_map, unwrap_or}
use Rattle.std.proofs.lemmas.Grind.{common_steps}
use Rattle.h3_proto.specs.declared.stream.Side.{Side}
use Rattle.h3_proto.specs.declared.stream.Side.TheVariants.{Client, Server}
use Rattle.h3_connection.specs.Answers.{delivery_refused}
use Rattle.h3_connection.specs.Endpoint.{EndpointHistory, bytes_waiting}
use Rattle.h3_connection.specs.Keeping.{arrives, pulls}
use Rattle.h3_connection.specs.Order.{default_precedence}
use Rattle.h3_connection.specs.Outgoing.{Outgoing as Out}
use Rattle.h3_connection.specs.OwnIds.{control_id, decoder_id, encoder_id, is_own, other}
use Rattle.h3_connection.specs.ReceivingContracts.{Delivers, DeliversEnd, DeliversReset}
use Rattle.h3_connection.specs.Sending.{advance}
use Rattle.h3_connection.specs.Shown.{has_outgoing, is_finished, is_reset, waiting}
use Rattle.h3_connection.specs.State.{EndpointState, StandsFor}
use Rattle.h3_connection.specs.StreamSets.{stream_at}
use Rattle.h3_connection.specs.declared.arrival.Arrival.TheVariants.{BytesCame, EndCame, ResetCame}
use Rattle.h3_connection.specs.declared.event.DeliverError.{DeliverError}
use Rattle.h3_connection.specs.declared.event.Item.TheVariants as found
use Rattle.h3_connection.specs.declared.event.Pull.{Pull}
use Rattle.h3_connection.specs.declared.event.Pull.TheVariants as pull
use Rattle.h3_connection.specs.declared.lists.ListItem.TheVariants as listed
use Rattle.h3_connection.specs.declared.lists.ListPull.TheVariants as list
use Rattle.h3_world.specs.Delivering.{reset_code}
use Rattle.h3_world.specs.Ends.{Ends, delivery, end_at, was_listed, with_end}
use Rattle.h3_world.specs.declared.event.Answer.{Answer}
use Rattle.h3_world.specs.declared.event.Answer.TheVariants as answer
use Rattle.h3_world.specs.declared.event.Event.{Event}
use Rattle.h3_world.specs.declared.event.Event.TheVariants as event
use Rattle.h3_memory.specs.Refused.{EndsStep, handed_over}
use Rattle.h3_outgoing.specs.Held.{filled_with, past_of}
use Rattle.h3_session.specs.Running.{answer_of, is_stored}
use Rattle.h3_c.specs.Programs.{Handles, carrying, handle_at}
use Rattle.h3_c.specs.Seen.{Seen}
use Rattle.h3_c.proofs.Comings.{IsDone, bytes_step, came_seen, comes, end_step, left_if, reset_step, told_so}
use Rattle.h3_c.proofs.Filling.{filled_parts, parts_as_long, places}
use Rattle.h3_c.proofs.Flights.{Carries, FliesAt, IsUnreset, OwesAt, OwesLeft, carried_waits, carries_grown, filled_out, filled_text, filled_waiting, keeps_lagging, lagging, not_there, own_lags, take_joined, taken_within, takes_on}
use Rattle.h3_c.proofs.Grows.{own_text, part_bytes, waits_own}
use Rattle.h3_c.proofs.Landings.{Leaves, landed_on}
use Rattle.h3_c.proofs.ProgramMoves.{Moves, LeavesSo, ends_are, keep_lagging, views_of}
use Rattle.h3_c.proofs.ReadsGrow.{arrives_reads, pulls_reads_of_none, reads_grow, reads_then}
use Rattle.h3_c.proofs.Unordered.{waits_of}
use Rattle.h3_c.proofs.Views.{Keeps, View, at_seen, by_id, open_seen, seen, seen_alike}
use Rattle.h3_c.proofs.ViewsMemory.{step_seen}
use Rattle.h3_c.proofs.ViewsSteps.{both_seen}
use Rattle.h3_c.proofs.Writing.{Fronted, enough_owed, front_filled, owes_behind, places_taken, waits_filled}

-- so much is carried of one stream
abbrev pub with_stream : (ℕ → List ℕ) → ℕ → List ℕ → ℕ → List ℕ
with_stream carried id bytes = λ i. if i == id then bytes else carried i

leaves_front : (carried : ℕ → List ℕ) (id : ℕ) (bytes rest : List ℕ) → carried id ≡ bytes ++ rest → Leaves carried id bytes (with_stream carried id rest)
leaves_front carried id bytes rest is q =
    by_id q id (λ b. carried q ≡ (if b then bytes else []) ++ (if b then rest else carried q)) (λ same. ap (λ i. carried i) same ∙ is) (λ differs. refl)

-- as much as before
same_stream : (carried : ℕ → List ℕ) (id : ℕ) (bytes : List ℕ) → carried id ≡ bytes → (q : ℕ) → with_stream carried id bytes q ≡ carried q
same_stream carried id bytes is q = by_id q id (λ b. (if b then bytes else carried q) ≡ carried q) (λ same. sym (ap (λ i. carried i) same ∙ is)) (λ differs. refl)

leaves_none : (c d : ℕ → List ℕ) (id : ℕ) → ((q : ℕ) → d q ≡ c q) → Leaves c id [] d
leaves_none c d id same q = by_id q id (λ b. c q ≡ (if b then [] else []) ++ d q) (λ here. sym (same q)) (λ differs. sym (same q))

seen_same : (side : Side) (c d said : ℕ → List ℕ) (e : EndpointHistory) → ((q : ℕ) → d q ≡ c q) → seen (lagging side c said) e ≡ seen (lagging side d said) e
seen_same side c d said e same =
    ap (λ l. record (seen (lagging side c said) e) { outgoing = l })
    (seen_alike e.outgoing (lagging side c said).out (lagging side d said).out (λ i x. ap (λ l. record x { parts = filled_parts (said i) x.parts; taken = x.taken - length l; end_taken = false; precedence = default_precedence }) (sym (same i))))
    ∙ ap (λ o. record (seen (lagging side d said) e) { own = o })
    (own_lags e.own _ _ _ _ _ _ (ap (λ l. e.own.control_taken - length l) (sym (same (control_id side)))) (ap (λ l. e.own.encoder_taken - length l) (sym (same (encoder_id side)))) (ap (λ l. e.own.decoder_taken - length l) (sym (same (decoder_id side)))))

-- what is seen of the writer
unreset_at : (o : Option Out) → unwrap_or (option_map (λ (o : Out). o.is_reset) o) false ≡ false → IsUnreset o
unreset_at None is = tt
unreset_at (Some o) is = is

finished_mapped : (T : View) (K : Keeps T) (id : ℕ) (o : Option Out) → unwrap_or (option_map (λ (o : Out). o.is_finished) (option_map (T.out id) o)) false ≡ unwrap_or (option_map (λ (o : Out). o.is_finished) o) false
finished_mapped T K id None = refl
finished_mapped T K id (Some o) = K.finished id o

reset_mapped : (T : View) (K : Keeps T) (id : ℕ) (o : Option Out) → unwrap_or (option_map (λ (o : Out). o.is_reset) (option_map (T.out id) o)) false ≡ unwrap_or (option_map (λ (o : Out). o.is_reset) o) false
reset_mapped T K id None = refl
reset_mapped T K id (Some o) = K.reset id o

nothing_less : (n : ℕ) → n - 0 ≡ n
nothing_less n = omega arith

none_if : (a b c : Bool) (m n o x y z : ℕ) → (a ≡ true → x ≡ 0) → (b ≡ true → y ≡ 0) → (c ≡ true → z ≡ 0)
    → (if a then m - x else (if b then n - y else (if c then o - z else 0))) ≡ (if a then m else (if b then n else (if c then o else 0)))
none_if true b c m n o x y z p q r = ap (λ i. m - i) (p refl) ∙ nothing_less m
none_if false true c m n o x y z p q r = ap (λ i. n - i) (q refl) ∙ nothing_less n
none_if false false true m n o x y z p q r = ap (λ i. o - i) (r refl) ∙ nothing_less o
none_if false false false m n o x y z p q r = refl

module _ (side : Side) (carried said owed : ℕ → List ℕ) (e : EndpointHistory) (k : Carries side carried said owed e) (id : ℕ) where
  abbrev T : View
  T = lagging side carried said

  abbrev K : Keeps T
  K = keeps_lagging side carried said

  pub has_there : has_outgoing (seen T e) id ≡ has_outgoing e id
  has_there = ap (λ b. is_own e.side id || b) (open_seen T K e id)

  pub finished_there : is_finished (seen T e) id ≡ is_finished e id
  finished_there = ap (λ o. unwrap_or (option_map (λ (o : Out). o.is_finished) o) false) (at_seen e.outgoing T.out id) ∙ finished_mapped T K id (stream_at e.outgoing id)

  pub reset_there : is_reset (seen T e) id ≡ is_reset e id
  reset_there = ap (λ o. unwrap_or (option_map (λ (o : Out). o.is_reset) o) false) (at_seen e.outgoing T.out id) ∙ reset_mapped T K id (stream_at e.outgoing id)

  -- of a stream of which nothing is carried
  none_at : carried id ≡ [] → (q : ℕ) → (id == q) ≡ true → length (carried q) ≡ 0
  none_at none q is = by_id id q (λ b. b ≡ true → length (carried q) ≡ 0) (λ same here. ap (λ l. length l) (ap (λ i. carried i) (sym same) ∙ none)) (λ differs here. absurd (let never : false ≡ true = here in cc)) is

  waits_at : carried id ≡ [] → (o : Option Out) → waits_of (seen (lagging e.side carried said) e) id (option_map ((lagging e.side carried said).out id) o) ≡ waits_of e id (option_map (filled_out (said id)) o)
  waits_at none None =
      waits_own (seen (lagging e.side carried said) e) id
      ∙ ap (λ n. drop n (own_text e id)) (none_if (id == control_id e.side) (id == encoder_id e.side) (id == decoder_id e.side) e.own.control_taken e.own.encoder_taken e.own.decoder_taken _ _ _
      (none_at none (control_id e.side)) (none_at none (encoder_id e.side)) (none_at none (decoder_id e.side)))
      ∙ sym (waits_own e id)
  waits_at none (Some o) = ap (λ l. waits_of e id (Some (record (filled_out (said id) o) { taken = o.taken - length l }))) none ∙ ap (λ n. waits_of e id (Some (record (filled_out (said id) o) { taken = n }))) (nothing_less o.taken)

  filled_as_long : (o : Option Out) → length (waits_of e id (option_map (filled_out (said id)) o)) ≡ length (waits_of e id o)
  filled_as_long None = refl
  filled_as_long (Some o) = by o.is_reset
    where
      by : (b : Bool) → length (if b then [] else drop o.taken (filled_text (said id) o)) ≡ length (if b then [] else drop o.taken (part_bytes o))
      by true = refl
      by false = length-drop o.taken (filled_text (said id) o) ∙ ap (λ n. n - o.taken) (parts_as_long o.parts (said id)) ∙ sym (length-drop o.taken (part_bytes o))

  pub waits_there : carried id ≡ [] → waiting (seen T e) id ≡ waiting e id
  waits_there none =
      ap (λ l. length l) (subst (λ s. bytes_waiting (seen (lagging s carried said) e) id ≡ waits_of e id (option_map (filled_out (said id)) (stream_at e.outgoing id))) k.side_is
      (ap (λ o. waits_of (seen (lagging e.side carried said) e) id o) (at_seen e.outgoing (lagging e.side carried said).out id) ∙ waits_at none (stream_at e.outgoing id)))
      ∙ filled_as_long (stream_at e.outgoing id)

  -- the first bytes that are carried wait first
  pub fronts : (bytes rest : List ℕ) → carried id ≡ bytes ++ rest → is_reset e id ≡ false
      → (length bytes ≤ waiting (seen T e) id) × (take (length bytes) (bytes_waiting (seen T e) id) ≡ bytes)
  fronts bytes rest is goes =
      let behind = filled_waiting e said id in
      let waits : bytes_waiting (seen T e) id ≡ bytes ++ (rest ++ behind) = carried_waits side carried said owed e k id (unreset_at (stream_at e.outgoing id) goes) ∙ ap (λ l. l ++ behind) is ∙ append_assoc bytes rest behind in
      (subst (λ (l : List ℕ). length bytes ≤ length l) (sym waits) (longer bytes (rest ++ behind)), ap (λ l. take (length bytes) l) waits ∙ take_joined bytes (rest ++ behind))
    where
      longer : (xs ys : List ℕ) → length xs ≤ length (xs ++ ys)
      longer [] ys = omega arith
      longer (x ∷ xs) ys = let more = longer xs ys in omega (arith, more)

-- The writer, where so many bytes came, or none.
pub record Wrote (side : Side) (stored : Bool) (before after said owed : ℕ → List ℕ) (e : EndpointHistory) (id n : ℕ) : Type 0 where
  pub carries : Carries side after said owed e
  pub is : (if stored then advance (seen (lagging side before said) e) id n else seen (lagging side before said) e) ≡ seen (lagging side after said) e

pub wrote : (side : Side) (carried said owed : ℕ → List ℕ) (e : EndpointHistory) → Carries side carried said owed e → (id : ℕ) (bytes rest : List ℕ) → carried id ≡ bytes ++ rest → is_reset e id ≡ false → (stored : Bool)
    → Wrote side stored carried (with_stream carried id ((if stored then [] else bytes) ++ rest)) said owed e id (length bytes)
wrote side carried said owed e k id bytes rest is goes true =
    let l = landed_on side carried (with_stream carried id rest) said owed e k id bytes (leaves_front carried id bytes rest is) in record { carries = l.carries; is = l.advances (unreset_at (stream_at e.outgoing id) goes) }
wrote side carried said owed e k id bytes rest is goes false =
    let same = same_stream carried id (bytes ++ rest) is in
    let l = landed_on side carried (with_stream carried id (bytes ++ rest)) said owed e k id [] (leaves_none carried (with_stream carried id (bytes ++ rest)) id same) in
    record { carries = l.carries; is = seen_same side carried (with_stream carried id (bytes ++ rest)) said e same }

pub kept_on : (side : Side) (carried said owed : ℕ → List ℕ) (e : EndpointHistory) → Carries side carried said owed e → (id : ℕ) (bytes : List ℕ) → carried id ≡ bytes
    → Carries side (with_stream carried id bytes) said owed e × (seen (lagging side carried said) e ≡ seen (lagging side (with_stream carried id bytes) said) e)
kept_on side carried said owed e k id bytes is =
    let same = same_stream carried id bytes is in
    ((landed_on side carried (with_stream carried id bytes) said owed e k id [] (leaves_none carried (with_stream carried id bytes) id same)).carries, seen_same side carried (with_stream carried id bytes) said e same)

-- The handles once the reader's is this, and so much is carried of the stream.
abbrev pub given_to : Side → Handles → Seen → ℕ → List ℕ → Handles
given_to Client h s id bytes = record { client = h.client; server = s; carried = carrying h.carried Client id bytes; owed = h.owed }
given_to Server h s id bytes = record { client = s; server = h.server; carried = carrying h.carried Server id bytes; owed = h.owed }

-- or of which as much is carried as before
abbrev pub read_by : Side → Handles → Seen → Handles
read_by Client h s = record { client = h.client; server = s; carried = h.carried; owed = h.owed }
read_by Server h s = record { client = s; server = h.server; carried = h.carried; owed = h.owed }

abbrev Told : Result Unit DeliverError → Answer → Answer
Told result success = answer_of success (delivery_refused result)

-- both ends once bytes were offered
abbrev came_to : Bool → Ends → Side → ℕ → ℕ → EndpointHistory → Ends
came_to stored ends Client id count reader = record { client = if stored then advance ends.client id count else ends.client; server = reader }
came_to stored ends Server id count reader = record { client = reader; server = if stored then advance ends.server id count else ends.server }

came_so : (stored : Bool) (ends : Ends) (from : Side) (id count : ℕ) (reader : EndpointHistory) → with_end (left_if stored ends from id count) (other from) reader ≡ came_to stored ends from id count reader
came_so true ends Client id count reader = refl
came_so false ends Client id count reader = refl
came_so true ends Server id count reader = refl
came_so false ends Server id count reader = refl

module _ (h : Handles) (s : Seen) (id : ℕ) where
  -- **Bytes come.**
  pub bytes_given : (from : Side) (bytes rest : List ℕ) (result : Result Unit DeliverError) → h.carried from id ≡ bytes ++ rest
      → ((e : EndpointHistory) → StandsFor (handle_at h from).endpoint e → (has_outgoing e id ≡ true) × (is_reset e id ≡ false)) → Delivers (handle_at h (other from)).endpoint s.endpoint id bytes result
      → Moves h (given_to from h s id ((if is_stored result then [] else bytes) ++ rest)) (event.Deliver from id (length bytes) ∷ []) (Told result (answer.Delivered (length bytes)) ∷ [])
  bytes_given Client bytes rest result is there delivers = LeavesSo (λ ends stand.
      let w = ends.client in
      let r = ends.server in
      let about = there w stand.client in
      let f = fronts Client (h.carried Client) (stand.said Client) (h.owed Client) w stand.client_carries id bytes rest is about.1 in
      let came = comes h.server.endpoint s.endpoint (BytesCame id bytes) result r stand.server delivers.receives delivers.behind in
      let V = both_seen (views_of h.carried stand.said) ends in
      let step = bytes_step V Client id bytes result (seen (lagging Server (h.carried Server) (stand.said Server)) came.after) (has_there Client (h.carried Client) (stand.said Client) (h.owed Client) w stand.client_carries id ∙ about.0) f.0 f.1
      (came_seen (lagging Server (h.carried Server) (stand.said Server)) (keeps_lagging Server (h.carried Server) (stand.said Server)) r (BytesCame id bytes) result came.after came.came) in
      let u = wrote Client (h.carried Client) (stand.said Client) (h.owed Client) w stand.client_carries id bytes rest is about.1 (is_stored result) in
      let new : Ends = record { client = w; server = came.after } in
      record {
        new = new;
        of = (tt, tt);
        run = (_, step, sym (came_so (is_stored result) V Client id (length bytes) (seen (lagging Server (h.carried Server) (stand.said Server)) came.after) ∙ ends_are (came_to (is_stored result) V Client id (length bytes) (seen (lagging Server (h.carried Server) (stand.said Server)) came.after)) (both_seen (views_of (carrying h.carried Client id ((if is_stored result then [] else bytes) ++ rest)) stand.said) new) u.is refl));
        stand = record { client = stand.client; server = came.stands; said = stand.said; client_carries = u.carries; server_carries = carries_grown Server (h.carried Server) (stand.said Server) (h.owed Server) r came.after stand.server_carries (reads_grow h.server.endpoint r came.after stand.server came.reads) };
      })
  bytes_given Server bytes rest result is there delivers = LeavesSo (λ ends stand.
      let w = ends.server in
      let r = ends.client in
      let about = there w stand.server in
      let f = fronts Server (h.carried Server) (stand.said Server) (h.owed Server) w stand.server_carries id bytes rest is about.1 in
      let came = comes h.client.endpoint s.endpoint (BytesCame id bytes) result r stand.client delivers.receives delivers.behind in
      let V = both_seen (views_of h.carried stand.said) ends in
      let step = bytes_step V Server id bytes result (seen (lagging Client (h.carried Client) (stand.said Client)) came.after) (has_there Server (h.carried Server) (stand.said Server) (h.owed Server) w stand.server_carries id ∙ about.0) f.0 f.1
      (came_seen (lagging Client (h.carried Client) (stand.said Client)) (keeps_lagging Client (h.carried Client) (stand.said Client)) r (BytesCame id bytes) result came.after came.came) in
      let u = wrote Server (h.carried Server) (stand.said Server) (h.owed Server) w stand.server_carries id bytes rest is about.1 (is_stored result) in
      let new : Ends = record { client = came.after; server = w } in
      record {
        new = new;
        of = (tt, tt);
        run = (_, step, sym (came_so (is_stored result) V Server id (length bytes) (seen (lagging Client (h.carried Client) (stand.said Client)) came.after) ∙ ends_are (came_to (is_stored result) V Server id (length bytes) (seen (lagging Client (h.carried Client) (stand.said Client)) came.after)) (both_seen (views_of (carrying h.carried Server id ((if is_stored result then [] else bytes) ++ rest)) stand.said) new) refl u.is));
        stand = record { client = came.stands; server = stand.server; said = stand.said; client_carries = carries_grown Client (h.carried Client) (stand.said Client) (h.owed Client) r came.after stand.client_carries (reads_grow h.client.endpoint r came.after stand.client came.reads); server_carries = u.carries };
      })

  -- **The end comes.**
  pub end_given : (from : Side) (result : Result Unit DeliverError) → h.carried from id ≡ []
      → ((e : EndpointHistory) → StandsFor (handle_at h from).endpoint e → (has_outgoing e id ≡ true) × (is_finished e id ≡ true) × (waiting e id ≡ 0)) → DeliversEnd (handle_at h (other from)).endpoint s.endpoint id result
      → Moves h (read_by from h s) (event.DeliverEnd from id ∷ []) (Told result answer.Done ∷ [])
  end_given Client result none there delivers = LeavesSo (λ ends stand.
      let w = ends.client in
      let r = ends.server in
      let about = there w stand.client in
      let came = comes h.server.endpoint s.endpoint (EndCame id) result r stand.server delivers.receives delivers.behind in
      let V = both_seen (views_of h.carried stand.said) ends in
      let step = end_step V Client id result (seen (lagging Server (h.carried Server) (stand.said Server)) came.after) (has_there Client (h.carried Client) (stand.said Client) (h.owed Client) w stand.client_carries id ∙ about.0)
      (finished_there Client (h.carried Client) (stand.said Client) (h.owed Client) w stand.client_carries id ∙ about.1) (waits_there Client (h.carried Client) (stand.said Client) (h.owed Client) w stand.client_carries id none ∙ about.2)
      (came_seen (lagging Server (h.carried Server) (stand.said Server)) (keeps_lagging Server (h.carried Server) (stand.said Server)) r (EndCame id) result came.after came.came) in
      record {
        new = record { client = w; server = came.after };
        of = (tt, tt);
        run = (_, step, refl);
        stand = record { client = stand.client; server = came.stands; said = stand.said; client_carries = stand.client_carries; server_carries = carries_grown Server (h.carried Server) (stand.said Server) (h.owed Server) r came.after stand.server_carries (reads_grow h.server.endpoint r came.after stand.server came.reads) };
      })
  end_given Server result none there delivers = LeavesSo (λ ends stand.
      let w = ends.server in
      let r = ends.client in
      let about = there w stand.server in
      let came = comes h.client.endpoint s.endpoint (EndCame id) result r stand.client delivers.receives delivers.behind in
      let V = both_seen (views_of h.carried stand.said) ends in
      let step = end_step V Server id result (seen (lagging Client (h.carried Client) (stand.said Client)) came.after) (has_there Server (h.carried Server) (stand.said Server) (h.owed Server) w stand.server_carries id ∙ about.0)
      (finished_there Server (h.carried Server) (stand.said Server) (h.owed Server) w stand.server_carries id ∙ about.1) (waits_there Server (h.carried Server) (stand.said Server) (h.owed Server) w stand.server_carries id none ∙ about.2)
      (came_seen (lagging Client (h.carried Client) (stand.said Client)) (keeps_lagging Client (h.carried Client) (stand.said Client)) r (EndCame id) result came.after came.came) in
      record {
        new = record { client = came.after; server = w };
        of = (tt, tt);
        run = (_, step, refl);
        stand = record { client = came.stands; server = stand.server; said = stand.said; client_carries = carries_grown Client (h.carried Client) (stand.said Client) (h.owed Client) r came.after stand.client_carries (reads_grow h.client.endpoint r came.after stand.client came.reads); server_carries = stand.server_carries };
      })

  -- **The reset comes.**
  pub reset_given : (from : Side) (result : Result Unit DeliverError)
      → ((e : EndpointHistory) → StandsFor (handle_at h from).endpoint e → (has_outgoing e id ≡ true) × (is_reset e id ≡ true)) → DeliversReset (handle_at h (other from)).endpoint s.endpoint id reset_code result
      → Moves h (read_by from h s) (event.DeliverReset from id ∷ []) (Told result answer.Done ∷ [])
  reset_given Client result there delivers = LeavesSo (λ ends stand.
      let w = ends.client in
      let r = ends.server in
      let about = there w stand.client in
      let came = comes h.server.endpoint s.endpoint (ResetCame id reset_code) result r stand.server delivers.receives delivers.behind in
      let V = both_seen (views_of h.carried stand.said) ends in
      let step = reset_step V Client id result (seen (lagging Server (h.carried Server) (stand.said Server)) came.after) (has_there Client (h.carried Client) (stand.said Client) (h.owed Client) w stand.client_carries id ∙ about.0)
      (reset_there Client (h.carried Client) (stand.said Client) (h.owed Client) w stand.client_carries id ∙ about.1)
      (came_seen (lagging Server (h.carried Server) (stand.said Server)) (keeps_lagging Server (h.carried Server) (stand.said Server)) r (ResetCame id reset_code) result came.after came.came) in
      record {
        new = record { client = w; server = came.after };
        of = (tt, tt);
        run = (_, step, refl);
        stand = record { client = stand.client; server = came.stands; said = stand.said; client_carries = stand.client_carries; server_carries = carries_grown Server (h.carried Server) (stand.said Server) (h.owed Server) r came.after stand.server_carries (reads_grow h.server.endpoint r came.after stand.server came.reads) };
      })
  reset_given Server result there delivers = LeavesSo (λ ends stand.
      let w = ends.server in
      let r = ends.client in
      let about = there w stand.server in
      let came = comes h.client.endpoint s.endpoint (ResetCame id reset_code) result r stand.client delivers.receives delivers.behind in
      let V = both_seen (views_of h.carried stand.said) ends in
      let step = reset_step V Server id result (seen (lagging Client (h.carried Client) (stand.said Client)) came.after) (has_there Server (h.carried Server) (stand.said Server) (h.owed Server) w stand.server_carries id ∙ about.0)
      (reset_there Server (h.carried Server) (stand.said Server) (h.owed Server) w stand.server_carries id ∙ about.1)
      (came_seen (lagging Client (h.carried Client) (stand.said Client)) (keeps_lagging Client (h.carried Client) (stand.said Client)) r (ResetCame id reset_code) result came.after came.came) in
      record {
        new = record { client = came.after; server = w };
        of = (tt, tt);
        run = (_, step, refl);
        stand = record { client = came.stands; server = stand.server; said = stand.said; client_carries = carries_grown Client (h.carried Client) (stand.said Client) (h.owed Client) r came.after stand.client_carries (reads_grow h.client.endpoint r came.after stand.client came.reads); server_carries = stand.server_carries };
      })

-- As much is carried of each stream.
pub rest_given : (h : Handles) (from : Side) (id : ℕ) (bytes : List ℕ) → h.carried from id ≡ bytes → Moves h (record h { carried = carrying h.carried from id bytes }) [] []
rest_given h Client id bytes is = LeavesSo (λ ends stand.
    let u = kept_on Client (h.carried Client) (stand.said Client) (h.owed Client) ends.client stand.client_carries id bytes is in
    record { new = ends; of = tt; run = sym (ends_are (both_seen (views_of h.carried stand.said) ends) (both_seen (views_of (carrying h.carried Client id bytes) stand.said) ends) u.1 refl); stand = record { client = stand.client; server = stand.server; said = stand.said; client_carries = u.0; server_carries = stand.server_carries } })
rest_given h Server id bytes is = LeavesSo (λ ends stand.
    let u = kept_on Server (h.carried Server) (stand.said Server) (h.owed Server) ends.server stand.server_carries id bytes is in
    record { new = ends; of = tt; run = sym (ends_are (both_seen (views_of h.carried stand.said) ends) (both_seen (views_of (carrying h.carried Server id bytes) stand.said) ends) refl u.1); stand = record { client = stand.client; server = stand.server; said = stand.said; client_carries = stand.client_carries; server_carries = u.0 } })

-- **A piece of a body comes, and is handed out.**
hands_piece : (ends : Ends) (side : Side) (id : ℕ) (piece : List ℕ) (x : Pull × EndpointHistory) → x.0 ≡ pull.Item (found.Body piece)
    → was_listed ends side id x ≡ (answer.Listed (list.Item (listed.Body piece)), with_end ends side x.1)
hands_piece ends side id piece (p, e) is = ap (λ q. was_listed ends side id (q, e)) is

pub record HandsPiece (s : EndpointState) (id : ℕ) (bytes piece : List ℕ) (e : EndpointHistory) : Type 0 where
  pub accepted : (arrives e (BytesCame id bytes)).0 ≡ None
  pub kept : (arrives e (BytesCame id bytes)).1.kept ≡ []
  pub pulled : (pulls (arrives e (BytesCame id bytes)).1 id).0 ≡ pull.Item (found.Body piece)
  pub stands : StandsFor s (pulls (arrives e (BytesCame id bytes)).1 id).1

pub piece_given : (h : Handles) (s : Seen) (id : ℕ) (from : Side) (bytes rest piece : List ℕ) → h.carried from id ≡ bytes ++ rest
    → ((e : EndpointHistory) → StandsFor (handle_at h from).endpoint e → (has_outgoing e id ≡ true) × (is_reset e id ≡ false))
    → ((e : EndpointHistory) → StandsFor (handle_at h (other from)).endpoint e → HandsPiece s.endpoint id bytes piece e)
    → Moves h (given_to from h s id rest) (event.Deliver from id (length bytes) ∷ event.PullFields (other from) id ∷ []) (answer.Delivered (length bytes) ∷ answer.Listed (list.Item (listed.Body piece)) ∷ [])
piece_given h s id Client bytes rest piece is there hands = LeavesSo (λ ends stand.
    let w = ends.client in
    let r = ends.server in
    let about = there w stand.client in
    let f = fronts Client (h.carried Client) (stand.said Client) (h.owed Client) w stand.client_carries id bytes rest is about.1 in
    let p = hands r stand.server in
    let x = arrives r (BytesCame id bytes) in
    let V = both_seen (views_of h.carried stand.said) ends in
    let step = bytes_step V Client id bytes (Ok tt) (seen (lagging Server (h.carried Server) (stand.said Server)) x.1) (has_there Client (h.carried Client) (stand.said Client) (h.owed Client) w stand.client_carries id ∙ about.0) f.0 f.1
    (came_seen (lagging Server (h.carried Server) (stand.said Server)) (keeps_lagging Server (h.carried Server) (stand.said Server)) r (BytesCame id bytes) (Ok tt) x.1 (IsDone tt p.accepted)) in
    let u = wrote Client (h.carried Client) (stand.said Client) (h.owed Client) w stand.client_carries id bytes rest is about.1 true in
    let mid : Ends = record { client = w; server = x.1 } in
    let last : Ends = record { client = w; server = (pulls x.1 id).1 } in
    let views = views_of (carrying h.carried Client id rest) stand.said in
    let pulling = told_so mid last (event.PullFields Server id) (answer.Listed (list.Item (listed.Body piece))) refl (hands_piece mid Server id piece (pulls x.1 id) p.pulled) in
    let last_step = step_seen views (keep_lagging (carrying h.carried Client id rest) stand.said) mid last (event.PullFields Server id) (answer.Listed (list.Item (listed.Body piece))) tt tt tt pulling in
    let first = subst (λ new. EndsStep V (event.Deliver Client id (length bytes)) (answer.Delivered (length bytes)) new) (ends_are (with_end (handed_over V Client id (length bytes)) Server (seen (lagging Server (h.carried Server) (stand.said Server)) x.1)) (both_seen views mid) u.is refl) step in
    record {
      new = last;
      of = (tt, (tt, tt));
      run = (both_seen views mid, first, (both_seen views last, last_step, refl));
      stand = record {
        client = stand.client;
        server = p.stands;
        said = stand.said;
        client_carries = u.carries;
        server_carries = carries_grown Server (h.carried Server) (stand.said Server) (h.owed Server) r (pulls x.1 id).1 stand.server_carries
            (reads_grow h.server.endpoint r (pulls x.1 id).1 stand.server (reads_then r x.1 (pulls x.1 id).1 (arrives_reads r (BytesCame id bytes) stand.server.reached) (pulls_reads_of_none x.1 id p.kept)));
      };
    })
piece_given h s id Server bytes rest piece is there hands = LeavesSo (λ ends stand.
    let w = ends.server in
    let r = ends.client in
    let about = there w stand.server in
    let f = fronts Server (h.carried Server) (stand.said Server) (h.owed Server) w stand.server_carries id bytes rest is about.1 in
    let p = hands r stand.client in
    let x = arrives r (BytesCame id bytes) in
    let V = both_seen (views_of h.carried stand.said) ends in
    let step = bytes_step V Server id bytes (Ok tt) (seen (lagging Client (h.carried Client) (stand.said Client)) x.1) (has_there Server (h.carried Server) (stand.said Server) (h.owed Server) w stand.server_carries id ∙ about.0) f.0 f.1
    (came_seen (lagging Client (h.carried Client) (stand.said Client)) (keeps_lagging Client (h.carried Client) (stand.said Client)) r (BytesCame id bytes) (Ok tt) x.1 (IsDone tt p.accepted)) in
    let u = wrote Server (h.carried Server) (stand.said Server) (h.owed Server) w stand.server_carries id bytes rest is about.1 true in
    let mid : Ends = record { client = x.1; server = w } in
    let last : Ends = record { client = (pulls x.1 id).1; server = w } in
    let views = views_of (carrying h.carried Server id rest) stand.said in
    let pulling = told_so mid last (event.PullFields Client id) (answer.Listed (list.Item (listed.Body piece))) refl (hands_piece mid Client id piece (pulls x.1 id) p.pulled) in
    let last_step = step_seen views (keep_lagging (carrying h.carried Server id rest) stand.said) mid last (event.PullFields Client id) (answer.Listed (list.Item (listed.Body piece))) tt tt tt pulling in
    let first = subst (λ new. EndsStep V (event.Deliver Server id (length bytes)) (answer.Delivered (length bytes)) new) (ends_are (with_end (handed_over V Server id (length bytes)) Client (seen (lagging Client (h.carried Client) (stand.said Client)) x.1)) (both_seen views mid) refl u.is) step in
    record {
      new = last;
      of = (tt, (tt, tt));
      run = (both_seen views mid, first, (both_seen views last, last_step, refl));
      stand = record {
        client = p.stands;
        server = stand.server;
        said = stand.said;
        client_carries = carries_grown Client (h.carried Client) (stand.said Client) (h.owed Client) r (pulls x.1 id).1 stand.client_carries
            (reads_grow h.client.endpoint r (pulls x.1 id).1 stand.client (reads_then r x.1 (pulls x.1 id).1 (arrives_reads r (BytesCame id bytes) stand.client.reached) (pulls_reads_of_none x.1 id p.kept)));
        server_carries = u.carries;
      };
    })

-- **Nothing is left.**
short_step : (ends : Ends) (from : Side) (id : ℕ) → has_outgoing (end_at ends from) id ≡ true → waiting (end_at ends from) id ≡ 0 → delivery ends from id 1 ≡ (answer.Short 0, ends)
short_step ends from id has none = rw (has, none) refl

pub empty_given : (h : Handles) (from : Side) (id : ℕ) → h.carried from id ≡ [] → ((e : EndpointHistory) → StandsFor (handle_at h from).endpoint e → (has_outgoing e id ≡ true) × (waiting e id ≡ 0))
    → Moves h h (event.Deliver from id 1 ∷ []) (answer.Short 0 ∷ [])
empty_given h Client id none there = LeavesSo (λ ends stand.
    let about = there ends.client stand.client in
    let V = both_seen (views_of h.carried stand.said) ends in
    let is = short_step V Client id (has_there Client (h.carried Client) (stand.said Client) (h.owed Client) ends.client stand.client_carries id ∙ about.0) (waits_there Client (h.carried Client) (stand.said Client) (h.owed Client) ends.client stand.client_carries id none ∙ about.1) in
    record { new = ends; of = (tt, tt); run = (V, told_so V V (event.Deliver Client id 1) (answer.Short 0) refl is, refl); stand = stand })
empty_given h Server id none there = LeavesSo (λ ends stand.
    let about = there ends.server stand.server in
    let V = both_seen (views_of h.carried stand.said) ends in
    let is = short_step V Server id (has_there Server (h.carried Server) (stand.said Server) (h.owed Server) ends.server stand.server_carries id ∙ about.0) (waits_there Server (h.carried Server) (stand.said Server) (h.owed Server) ends.server stand.server_carries id none ∙ about.1) in
    record { new = ends; of = (tt, tt); run = (V, told_so V V (event.Deliver Server id 1) (answer.Short 0) refl is, refl); stand = stand })

-- **Bytes are taken.**
abbrev pub taken_from : Side → Handles → Seen → ℕ → List ℕ → ℕ → Handles
taken_from Client h v id bytes shown =
    record { client = v; server = h.server; carried = carrying h.carried Client id (h.carried Client id ++ bytes); owed = carrying h.owed Client id (drop (length bytes - shown) (h.owed Client id)) }
taken_from Server h v id bytes shown =
    record { client = h.client; server = v; carried = carrying h.carried Server id (h.carried Server id ++ bytes); owed = carrying h.owed Server id (drop (length bytes - shown) (h.owed Server id)) }

joins_behind : (carried : ℕ → List ℕ) (id : ℕ) (bytes : List ℕ) (q : ℕ) → with_stream carried id (carried id ++ bytes) q ≡ carried q ++ (if q == id then bytes else [])
joins_behind carried id bytes q =
    by_id q id (λ b. (if b then carried id ++ bytes else carried q) ≡ carried q ++ (if b then bytes else [])) (λ same. ap (λ i. carried i ++ bytes) (sym same)) (λ differs. sym (nothing_behind (carried q)))
  where
    nothing_behind : (xs : List ℕ) → xs ++ [] ≡ xs
    nothing_behind [] = refl
    nothing_behind (x ∷ xs) = ap (λ l. x ∷ l) (nothing_behind xs)

-- what was shown, and how much QUIC took of it and of what the program owes
pub record TakesShown (owed bytes : List ℕ) (wire : List ℕ) : Type 0 where
  pub buffer : List ℕ
  pub count : ℕ
  pub past : ℕ
  pub fronted : Fronted wire buffer count past
  pub within : length bytes ≤ count + past
  pub front : bytes ≡ take (length bytes) (take count buffer ++ take past owed)

module _ (side : Side) (carried said owed : ℕ → List ℕ) (e : EndpointHistory) (k : Carries side carried said owed e) (id : ℕ) (bytes : List ℕ) (t : TakesShown (owed id) bytes (bytes_waiting e id)) where
  abbrev left : ℕ → List ℕ
  left = with_stream owed id (drop (length bytes - t.count) (owed id))

  left_here : left id ≡ drop (length bytes - t.count) (owed id)
  left_here = by_id id id (λ b. (if b then drop (length bytes - t.count) (owed id) else owed id) ≡ drop (length bytes - t.count) (owed id)) (λ same. refl) (λ differs. absurd (never differs))
    where
      never : (id == id) ≡ false → ⊥
      never h = grind (arith, common_steps, h)

  others : (q : ℕ) → (q == id) ≡ false → left q ≡ owed q
  others q differs = ap (λ b. if b then drop (length bytes - t.count) (owed id) else owed q) differs

  none_dropped : (n : ℕ) → drop {A = ℕ} n [] ≡ []
  none_dropped zero = refl
  none_dropped (suc n) = refl

  none_taken : (n : ℕ) → take {A = ℕ} n [] ≡ []
  none_taken zero = refl
  none_taken (suc n) = refl

  nothing_behind : (xs : List ℕ) → xs ++ [] ≡ xs
  nothing_behind [] = refl
  nothing_behind (x ∷ xs) = ap (λ l. x ∷ l) (nothing_behind xs)

  shorter : (n m : ℕ) (xs : List ℕ) → n ≤ m → take n (take m xs) ≡ take n xs
  shorter zero m xs few = refl
  shorter (suc n) zero xs few = absurd (omega (arith, few))
  shorter (suc n) (suc m) [] few = refl
  shorter (suc n) (suc m) (x ∷ xs) few = ap (λ l. x ∷ l) (shorter n m xs (omega (arith, few)))

  few_taken : (n : ℕ) (xs : List ℕ) → length (take n xs) ≤ n
  few_taken zero xs = omega arith
  few_taken (suc n) [] = omega arith
  few_taken (suc n) (x ∷ xs) = let rest = few_taken n xs in omega (arith, rest)

  is_front : (n : ℕ) (xs : List ℕ) → length xs ≡ n → (m : ℕ) → xs ≡ take n (take m t.buffer) → n ≤ m
  is_front n xs long m is = let all = ap (λ l. length l) is in let few = few_short n (take m t.buffer) in let there = few_taken m t.buffer in omega (arith, long, all, few, there)
    where
      few_short : (i : ℕ) (ys : List ℕ) → length (take i ys) ≤ length ys
      few_short zero ys = omega arith
      few_short (suc i) [] = omega arith
      few_short (suc i) (y ∷ ys) = let rest = few_short i ys in omega (arith, rest)

  -- an own stream: the program owes nothing of it
  own_front : stream_at e.outgoing id ≡ None → owed id ≡ [] → bytes ≡ take (length bytes) (bytes_waiting e id)
  own_front at none =
      let plain : bytes ≡ take (length bytes) (take t.count t.buffer) = t.front ∙ ap (λ l. take (length bytes) (take t.count t.buffer ++ l)) (ap (λ l. take t.past l) none ∙ none_taken t.past) ∙ ap (λ l. take (length bytes) l) (nothing_behind (take t.count t.buffer)) in
      plain ∙ ap (λ l. take (length bytes) l) t.fronted.copied ∙ shorter (length bytes) t.count (bytes_waiting e id) (is_front (length bytes) bytes refl t.count plain)

  own_shown : stream_at e.outgoing id ≡ None → (bytes ≡ take (length bytes) (filled_waiting e said id)) × OwesLeft e id (length bytes) said owed left
  own_shown at =
      let none = (subst (λ o. OwesAt o (said id) (owed id)) at (k.owes id)).1 in (
        own_front at none ∙ ap (λ l. take (length bytes) l) (ap (λ o. waits_of e id o) at ∙ sym (ap (λ o. waits_of e id (option_map (filled_out (said id)) o)) at)),
        record {
          others = others;
          none = λ was. left_here ∙ ap (λ l. drop (length bytes - t.count) l) none ∙ none_dropped (length bytes - t.count);
          rest = λ o there. absurd (not_there (stream_at e.outgoing id) o there at);
        },
      )

  request_shown : (o : Out) → stream_at e.outgoing id ≡ Some o → (b : Bool) → o.is_reset ≡ b → (bytes ≡ take (length bytes) (filled_waiting e said id)) × OwesLeft e id (length bytes) said owed left
  request_shown o at true was =
      let real : bytes_waiting e id ≡ [] = ap (λ x. waits_of e id x) at ∙ ap (λ b. if b then [] else drop o.taken (part_bytes o)) was in
      let seen_none : filled_waiting e said id ≡ [] = ap (λ x. waits_of e id (option_map (filled_out (said id)) x)) at ∙ ap (λ b. if b then [] else drop o.taken (filled_text (said id) o)) was in
      (nothing_shown real ∙ sym (ap (λ l. take (length bytes) l) seen_none ∙ none_taken (length bytes)), record { others = others; none = λ none. absurd (not_there (stream_at e.outgoing id) o at none); rest = λ p there goes. absurd (reset_so p there goes) })
    where
      nothing_shown : bytes_waiting e id ≡ [] → bytes ≡ []
      nothing_shown none = no_length bytes (
          let few = ap (λ l. length l) none in
          let fits = t.fronted.few in
          let past = t.fronted.past_is ∙ ap (λ l. past_of (drop t.count l)) none ∙ ap past_of (none_dropped t.count) in
          let within = t.within in
          omega (arith, few, fits, past, within))
        where
          no_length : (xs : List ℕ) → length xs ≡ 0 → xs ≡ []
          no_length [] h = refl
          no_length (x ∷ xs) h = absurd (omega (arith, h))

      reset_so : (p : Out) → stream_at e.outgoing id ≡ Some p → p.is_reset ≡ false → ⊥
      reset_so p there goes = absurd (let never : true ≡ false = sym was ∙ ap (λ (x : Option Out). unwrap_or (option_map (λ (y : Out). y.is_reset) x) false) (sym at ∙ there) ∙ goes in cc)
  request_shown o at false goes =
      let real : bytes_waiting e id ≡ drop o.taken (part_bytes o) = ap (λ x. waits_of e id x) at ∙ ap (λ b. if b then [] else drop o.taken (part_bytes o)) goes in
      let was = subst (λ x. OwesAt x (said id) (owed id)) at (k.owes id) in
      let owes = was.2 goes in
      let f = subst (λ l. Fronted l t.buffer t.count t.past) real t.fronted in
      let enough = enough_owed o (said id) (owed id) was.0 was.1 owes in
      let front = front_filled (drop o.taken (part_bytes o)) t.buffer (owed id) t.count t.past f enough bytes t.within t.front in
      let there = places_taken (drop o.taken (part_bytes o)) t.buffer (owed id) t.count t.past f enough bytes t.within t.front in
      let flies = subst (λ x. FliesAt e id x (said id) (carried id)) at (k.flies id) goes in
      let shown : filled_waiting e said id ≡ filled_with (drop o.taken (part_bytes o)) (owed id) =
      ap (λ x. waits_of e id (option_map (filled_out (said id)) x)) at ∙ ap (λ b. if b then [] else drop o.taken (filled_text (said id) o)) goes
      ∙ waits_filled o (said id) (owed id) was.1 (taken_within o (said id) (carried id) was.1 flies) owes in (
        front ∙ ap (λ l. take (length bytes) l) (sym shown),
        record {
          others = others;
          none = λ none. absurd (not_there (stream_at e.outgoing id) o at none);
          rest = λ p at_p goes_p. subst (λ (x : Out). left id ≡ drop (places (take (x.taken + length bytes) (part_bytes x))) (said id)) (same_out o p (sym at ∙ at_p))
              (left_here ∙ owes_behind o (said id) (owed id) was.0 was.1 owes (length bytes) (length bytes - t.count) there);
        },
      )
    where
      same_out : (x y : Out) → Some x ≡ Some y → x ≡ y
      same_out x y is = cc

  -- **What QUIC takes is the front of what waits, with what is owed in its places.**
  pub shown_so : (o : Option Out) → stream_at e.outgoing id ≡ o → (bytes ≡ take (length bytes) (filled_waiting e said id)) × OwesLeft e id (length bytes) said owed left
  shown_so None at = own_shown at
  shown_so (Some o) at = request_shown o at o.is_reset refl

pub taken_so : (h : Handles) (from : Side) (v : Seen) (id : ℕ) (bytes : List ℕ) (shown : ℕ)
    → ((e : EndpointHistory) → StandsFor (handle_at h from).endpoint e → (t : TakesShown (h.owed from id) bytes (bytes_waiting e id)) × (t.count ≡ shown) × StandsFor v.endpoint (advance e id (length bytes)))
    → Moves h (taken_from from h v id bytes shown) [] []
taken_so h Client v id bytes shown there = LeavesSo (λ ends stand.
    let e = ends.client in
    let about = there e stand.client in
    let about_owed = shown_so Client (h.carried Client) (stand.said Client) (h.owed Client) e stand.client_carries id bytes about.0 (stream_at e.outgoing id) refl in
    let after = with_stream (h.carried Client) id (h.carried Client id ++ bytes) in
    let left = with_stream (h.owed Client) id (drop (length bytes - shown) (h.owed Client id)) in
    let owes = subst (λ n. OwesLeft e id (length bytes) (stand.said Client) (h.owed Client) (with_stream (h.owed Client) id (drop (length bytes - n) (h.owed Client id)))) about.1 about_owed.1 in
    let took = takes_on Client (h.carried Client) after (stand.said Client) (h.owed Client) left e stand.client_carries id bytes (joins_behind (h.carried Client) id bytes) about_owed.0 owes in
    let new : Ends = record { client = advance e id (length bytes); server = ends.server } in
    record {
      new = new;
      of = tt;
      run = ends_are (both_seen (views_of (carrying h.carried Client id (h.carried Client id ++ bytes)) stand.said) new) (both_seen (views_of h.carried stand.said) ends) took.seen_so refl;
      stand = record { client = about.2; server = stand.server; said = stand.said; client_carries = took.carries; server_carries = stand.server_carries };
    })
taken_so h Server v id bytes shown there = LeavesSo (λ ends stand.
    let e = ends.server in
    let about = there e stand.server in
    let about_owed = shown_so Server (h.carried Server) (stand.said Server) (h.owed Server) e stand.server_carries id bytes about.0 (stream_at e.outgoing id) refl in
    let after = with_stream (h.carried Server) id (h.carried Server id ++ bytes) in
    let left = with_stream (h.owed Server) id (drop (length bytes - shown) (h.owed Server id)) in
    let owes = subst (λ n. OwesLeft e id (length bytes) (stand.said Server) (h.owed Server) (with_stream (h.owed Server) id (drop (length bytes - n) (h.owed Server id)))) about.1 about_owed.1 in
    let took = takes_on Server (h.carried Server) after (stand.said Server) (h.owed Server) left e stand.server_carries id bytes (joins_behind (h.carried Server) id bytes) about_owed.0 owes in
    let new : Ends = record { client = ends.client; server = advance e id (length bytes) } in
    record {
      new = new;
      of = tt;
      run = ends_are (both_seen (views_of (carrying h.carried Server id (h.carried Server id ++ bytes)) stand.said) new) (both_seen (views_of h.carried stand.said) ends) refl took.seen_so;
      stand = record { client = stand.client; server = about.2; said = stand.said; client_carries = stand.client_carries; server_carries = took.carries };
    })
