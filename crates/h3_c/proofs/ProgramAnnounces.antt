-- A side announces a body by its length: to a schedule it sends the body.
use Rattle.std.proofs.Common.{arith, ◌≡◌, ℕ, ◌+◌, Bool, true, false, if◌then◌else◌, List, [], ◌∷◌, ◌++◌, length, refl, sym, ap, subst, ◌∙◌, Option, Some, None, append-nil}
use Rattle.std.specs.Prelude.{◌==◌, is_some, not, unwrap_or}
use Rattle.std.proofs.lemmas.List.{length-replicate}
use Rattle.std.proofs.lemmas.Grind.{common_steps}
use Rattle.h3_field.specs.ReadBack.{AreBytes}
use Rattle.h3_proto.specs.declared.stream.Side.{Side}
use Rattle.h3_proto.specs.declared.stream.Side.TheVariants.{Client, Server}
use Rattle.h3_connection.specs.Endpoint.{EndpointHistory}
use Rattle.h3_connection.specs.Outgoing.{Outgoing as Out, nothing_sent, with_body}
use Rattle.h3_connection.specs.Refusals.{SenderStream, refusal_of_body}
use Rattle.h3_connection.specs.Sending as sender
use Rattle.h3_connection.specs.Sending.{closed_or, counted, does, is_open, outgoing_at, seen_at, sent_bytes, with_outgoing}
use Rattle.h3_connection.specs.State.{StandsFor}
use Rattle.h3_connection.specs.StreamSets.{stream_at}
use Rattle.h3_connection.specs.StrictSending.{passes_content}
use Rattle.h3_connection.specs.declared.event.Malformation.TheVariants as malformation
use Rattle.h3_connection.specs.declared.event.Refusal.{Refusal}
use Rattle.h3_connection.specs.declared.event.Refusal.TheVariants as refusal
use Rattle.h3_outgoing.specs.Held.{held}
use Rattle.h3_world.specs.Ends.{Ends, done}
use Rattle.h3_world.specs.Headline.{is_out_of_memory}
use Rattle.h3_world.specs.declared.event.Answer.TheVariants as answer
use Rattle.h3_world.specs.declared.event.Event.TheVariants as event
use Rattle.h3_c.specs.Programs.{Handles, carrying, handle_at}
use Rattle.h3_c.specs.Seen.{Seen}
use Rattle.h3_c.proofs.Announcing.{announced_carries, announced_seen, carries_alike, seen_said}
use Rattle.h3_c.proofs.Comings.{told_so}
use Rattle.h3_c.proofs.Flights.{Carries, OwesAt, carries_grown, keeps_lagging, lagging}
use Rattle.h3_c.proofs.ProgramMoves.{LeavesSo, Moves, views_of}
use Rattle.h3_c.proofs.SendsGrow.{closed_none, counted_grows, open_first}
use Rattle.h3_c.proofs.Views.{by_id, outgoing_seen, seen}
use Rattle.h3_c.proofs.ViewsSending as sending
use Rattle.h3_c.proofs.ViewsSteps.{both_seen}

-- so much more of one stream
abbrev pub more_of : (ℕ → List ℕ) → ℕ → List ℕ → ℕ → List ℕ
more_of texts id bytes = λ i. if i == id then texts id ++ bytes else texts i

-- what the endpoint does, and what it is to a schedule
pub record Announced (side : Side) (carried said owed : ℕ → List ℕ) (e : EndpointHistory) (id : ℕ) (payload : List ℕ) : Type 0 where
  pub carries : Carries side carried (more_of said id payload) (more_of owed id payload) (sender.send_body e id (held (length payload))).1
  pub seen_so : sender.send_body (seen (lagging side carried said) e) id payload ≡ (None, seen (lagging side carried (more_of said id payload)) (sender.send_body e id (held (length payload))).1)

module _ (side : Side) (carried said owed : ℕ → List ℕ) (e : EndpointHistory) (k : Carries side carried said owed e) (id : ℕ) where
  more_here : (texts : ℕ → List ℕ) (bytes : List ℕ) → more_of texts id bytes id ≡ texts id ++ bytes
  more_here texts bytes = by_id id id (λ b. (if b then texts id ++ bytes else texts id) ≡ texts id ++ bytes) (λ same. refl) (λ differs. absurd (never differs))
    where
      never : (id == id) ≡ false → ⊥
      never h = grind (arith, common_steps, h)

  more_others : (texts : ℕ → List ℕ) (bytes : List ℕ) (q : ℕ) → (q == id) ≡ false → more_of texts id bytes q ≡ texts q
  more_others texts bytes q differs = ap (λ b. if b then texts id ++ bytes else texts q) differs

  none_more : (texts : ℕ → List ℕ) (q : ℕ) → more_of texts id [] q ≡ texts q
  none_more texts q = by_id q id (λ b. (if b then texts id ++ [] else texts q) ≡ texts q) (λ same. append-nil (texts id) ∙ ap (λ i. texts i) (sym same)) (λ differs. refl)

  length_held : (payload : List ℕ) → length (held (length payload)) ≡ length payload
  length_held payload = length-replicate (length payload) 256

  done_so : (payload : List ℕ) (new seen_new : EndpointHistory) → sender.body_refusal e id (length payload) ≡ None
      → (sender.send_body e id (held (length payload))).1 ≡ new → counted (sent_bytes (seen (lagging side carried said) e) id payload) (length payload) ≡ seen (lagging side carried (more_of said id payload)) new
      → Carries side carried (more_of said id payload) (more_of owed id payload) new → Announced side carried said owed e id payload
  done_so payload new seen_new none is same carries = record {
    carries = subst (λ x. Carries side carried (more_of said id payload) (more_of owed id payload) x) (sym is) carries;
    seen_so =
        ap (λ r. does r (seen (lagging side carried said) e) (counted (sent_bytes (seen (lagging side carried said) e) id payload) (length payload)))
        (sending.body_refused_seen (lagging side carried said) (keeps_lagging side carried said) e id (length payload) ∙ none)
        ∙ ap (λ x. (None, x)) (same ∙ ap (λ x. seen (lagging side carried (more_of said id payload)) x) (sym is));
  }

  real_is : (payload : List ℕ) → sender.body_refusal e id (length payload) ≡ None → (sender.send_body e id (held (length payload))).1 ≡ counted (sent_bytes e id (held (length payload))) (length payload)
  real_is payload none =
      ap (λ n. (does (sender.body_refusal e id n) e (counted (sent_bytes e id (held (length payload))) n)).1) (length_held payload)
      ∙ ap (λ r. (does r e (counted (sent_bytes e id (held (length payload))) (length payload))).1) none

  announced_at : (payload : List ℕ) (o : Out) → stream_at e.outgoing id ≡ Some o → sender.body_refusal e id (length payload) ≡ None → Announced side carried said owed e id payload
  announced_at [] o at none =
      done_so [] (counted e 0) e none (real_is [] none) (sym (seen_said side carried said (more_of said id []) (counted e 0) (none_more said)))
      (carries_alike side carried said owed (more_of said id []) (more_of owed id []) (counted e 0) (none_more said) (none_more owed) (carries_grown side carried said owed e (counted e 0) k (counted_grows e 0)))
  announced_at (byte ∷ payload) o at none =
      let all = byte ∷ payload in
      let T = lagging side carried said in
      let now = more_of said id all in
      let left = more_of owed id all in
      let there : outgoing_at e id ≡ o = ap (λ x. unwrap_or x nothing_sent) at in
      let was = subst (λ x. OwesAt x (said id) (owed id)) at (k.owes id) in
      let real = with_outgoing e id (with_body o (held (length all))) in
      let on = announced_carries side carried said owed now left e k id all o at (more_here said all) (more_others said all) (more_here owed all) (more_others owed all) in
      done_so all (counted real (length all)) e none
      (real_is all none ∙ ap (λ x. counted (with_outgoing e id (with_body x (held (length all)))) (length all)) there)
      (ap (λ x. counted (with_outgoing (seen T e) id (with_body x all)) (length all)) (outgoing_seen T (keeps_lagging side carried said) e id ∙ ap (λ x. T.out id x) there)
      ∙ ap (λ x. counted x (length all)) (sym (announced_seen side carried said now e id all (more_here said all) (more_others said all) o was.0)))
      (carries_grown side carried now left real (counted real (length all)) on (counted_grows real (length all)))

  pub announces : (payload : List ℕ) → sender.body_refusal e id (length payload) ≡ None → Announced side carried said owed e id payload
  announces payload none = by (stream_at e.outgoing id) refl
    where
      by : (o : Option Out) → stream_at e.outgoing id ≡ o → Announced side carried said owed e id payload
      by None at = absurd (let never : true ≡ false = sym (open_first (is_open e id) refusal.NotOpen _ (closed_none e.closed _ none)) ∙ ap (λ (o : Option Out). is_some o) at in cc)
      by (Some o) at = announced_at payload o at none

-- The handles once a side announced this, or was refused.
abbrev pub announced_by : Side → Handles → Seen → ℕ → List ℕ → Handles
announced_by Client h v id payload = record { client = v; server = h.server; carried = h.carried; owed = carrying h.owed Client id (h.owed Client id ++ payload) }
announced_by Server h v id payload = record { client = h.client; server = v; carried = h.carried; owed = carrying h.owed Server id (h.owed Server id ++ payload) }

abbrev pub refused_by : Side → Handles → Seen → Handles
refused_by Client h v = record { client = v; server = h.server; carried = h.carried; owed = h.owed }
refused_by Server h v = record { client = h.client; server = v; carried = h.carried; owed = h.owed }

does_refusal : (r : Option Refusal) (e new : EndpointHistory) → (does r e new).0 ≡ r
does_refusal None e new = refl
does_refusal (Some r) e new = refl

does_some : (o : Option Refusal) (e new : EndpointHistory) (r : Refusal) → o ≡ Some r → does o e new ≡ (Some r, e)
does_some o e new r is = ap (λ x. does x e new) is

refusal_is : (e : EndpointHistory) (id : ℕ) (payload : List ℕ) → sender.body_refusal e id (length payload) ≡ (sender.send_body e id (held (length payload))).0
refusal_is e id payload =
    ap (λ n. sender.body_refusal e id n) (sym (length-replicate (length payload) 256))
    ∙ sym (does_refusal (sender.body_refusal e id (length (held (length payload)))) e (counted (sent_bytes e id (held (length payload))) (length (held (length payload)))))

-- **It is accepted.**
pub announce_accepted : (h : Handles) (side : Side) (v : Seen) (id : ℕ) (payload : List ℕ) → AreBytes payload
    → ((e : EndpointHistory) → StandsFor (handle_at h side).endpoint e → (None ≡ (sender.send_body e id (held (length payload))).0) × StandsFor v.endpoint (sender.send_body e id (held (length payload))).1)
    → Moves h (announced_by side h v id payload) (event.Body side id payload ∷ []) (answer.Done ∷ [])
announce_accepted h Client v id payload all there = LeavesSo (λ ends stand.
    let e = ends.client in
    let about = there e stand.client in
    let a = announces Client (h.carried Client) (stand.said Client) (h.owed Client) e stand.client_carries id payload (refusal_is e id payload ∙ sym about.0) in
    let V = both_seen (views_of h.carried stand.said) ends in
    let said = carrying stand.said Client id (stand.said Client id ++ payload) in
    let new : Ends = record { client = (sender.send_body e id (held (length payload))).1; server = ends.server } in
    record {
      new = new;
      of = (all, tt);
      stand = record { client = about.1; server = stand.server; said = said; client_carries = a.carries; server_carries = stand.server_carries };
      run = (both_seen (views_of h.carried said) new, told_so V (both_seen (views_of h.carried said) new) (event.Body Client id payload) answer.Done refl (ap (λ x. done V Client answer.Done x) a.seen_so), refl);
    })
announce_accepted h Server v id payload all there = LeavesSo (λ ends stand.
    let e = ends.server in
    let about = there e stand.server in
    let a = announces Server (h.carried Server) (stand.said Server) (h.owed Server) e stand.server_carries id payload (refusal_is e id payload ∙ sym about.0) in
    let V = both_seen (views_of h.carried stand.said) ends in
    let said = carrying stand.said Server id (stand.said Server id ++ payload) in
    let new : Ends = record { client = ends.client; server = (sender.send_body e id (held (length payload))).1 } in
    record {
      new = new;
      of = (all, tt);
      stand = record { client = stand.client; server = about.1; said = said; client_carries = stand.client_carries; server_carries = a.carries };
      run = (both_seen (views_of h.carried said) new, told_so V (both_seen (views_of h.carried said) new) (event.Body Server id payload) answer.Done refl (ap (λ x. done V Server answer.Done x) a.seen_so), refl);
    })

-- **It is refused.**
seen_refused : (side : Side) (carried said : ℕ → List ℕ) (e : EndpointHistory) (id : ℕ) (payload : List ℕ) (r : Refusal) → Some r ≡ (sender.send_body e id (held (length payload))).0
    → sender.send_body (seen (lagging side carried said) e) id payload ≡ (Some r, seen (lagging side carried said) e)
seen_refused side carried said e id payload r is =
    does_some (sender.body_refusal (seen (lagging side carried said) e) id (length payload)) (seen (lagging side carried said) e) _ r
    (sending.body_refused_seen (lagging side carried said) (keeps_lagging side carried said) e id (length payload) ∙ refusal_is e id payload ∙ sym is)

-- what refuses a body: no memory is asked for
abbrev IsPlain : Option Refusal → Type 0
IsPlain None = Unit {0}
IsPlain (Some r) = is_out_of_memory (answer.Refused r) ≡ false

closed_plain : (closed : Option ℕ) (o : Option Refusal) → IsPlain o → IsPlain (closed_or closed o)
closed_plain (Some code) o plain = refl
closed_plain None o plain = plain

rules_plain : (s : SenderStream) (is_too_much : Bool) → IsPlain (refusal_of_body s is_too_much)
rules_plain s is_too_much = by (not s.is_open) (not s.takes_body) is_too_much
  where
    by : (a b c : Bool) → IsPlain (if a then Some refusal.NotOpen else (if b then Some refusal.OutOfOrder else (if c then Some (refusal.Malformed malformation.ContentLength) else None)))
    by true b c = refl
    by false true c = refl
    by false false true = refl
    by false false false = tt

refuses_plainly : (e : EndpointHistory) (id n : ℕ) (r : Refusal) → Some r ≡ sender.body_refusal e id n → is_out_of_memory (answer.Refused r) ≡ false
refuses_plainly e id n r is =
    let s = seen_at e id in
    let is_too_much = passes_content (outgoing_at e id).content n in
    subst (λ o. IsPlain o) (sym is) (closed_plain e.closed (refusal_of_body s is_too_much) (rules_plain s is_too_much))

pub announce_refused : (h : Handles) (side : Side) (v : Seen) (id : ℕ) (payload : List ℕ) (r : Refusal) → AreBytes payload
    → ((e : EndpointHistory) → StandsFor (handle_at h side).endpoint e → (Some r ≡ (sender.send_body e id (held (length payload))).0) × StandsFor v.endpoint e)
    → Moves h (refused_by side h v) (event.Body side id payload ∷ []) (answer.Refused r ∷ [])
announce_refused h Client v id payload r all there = LeavesSo (λ ends stand.
    let e = ends.client in
    let about = there e stand.client in
    let V = both_seen (views_of h.carried stand.said) ends in
    record {
      new = ends;
      of = (all, tt);
      stand = record { client = about.1; server = stand.server; said = stand.said; client_carries = stand.client_carries; server_carries = stand.server_carries };
      run = (V, told_so V V (event.Body Client id payload) (answer.Refused r) (refuses_plainly e id (length payload) r (about.0 ∙ sym (refusal_is e id payload))) (ap (λ x. done V Client answer.Done x) (seen_refused Client (h.carried Client) (stand.said Client) e id payload r about.0)), refl);
    })
announce_refused h Server v id payload r all there = LeavesSo (λ ends stand.
    let e = ends.server in
    let about = there e stand.server in
    let V = both_seen (views_of h.carried stand.said) ends in
    record {
      new = ends;
      of = (all, tt);
      stand = record { client = stand.client; server = about.1; said = stand.said; client_carries = stand.client_carries; server_carries = stand.server_carries };
      run = (V, told_so V V (event.Body Server id payload) (answer.Refused r) (refuses_plainly e id (length payload) r (about.0 ∙ sym (refusal_is e id payload))) (ap (λ x. done V Server answer.Done x) (seen_refused Server (h.carried Server) (stand.said Server) e id payload r about.0)), refl);
    })

-- **Memory is lacking.**
pub announce_lacks : (h : Handles) (side : Side) (v : Seen) (id : ℕ) (payload : List ℕ) → AreBytes payload → ((e : EndpointHistory) → StandsFor (handle_at h side).endpoint e → StandsFor v.endpoint e)
    → Moves h (refused_by side h v) (event.Body side id payload ∷ []) (answer.Refused refusal.OutOfMemory ∷ [])
announce_lacks h Client v id payload all there = LeavesSo (λ ends stand.
    let V = both_seen (views_of h.carried stand.said) ends in
    record {
      new = ends;
      of = (all, tt);
      stand = record { client = there ends.client stand.client; server = stand.server; said = stand.said; client_carries = stand.client_carries; server_carries = stand.server_carries };
      run = (V, refl, refl);
    })
announce_lacks h Server v id payload all there = LeavesSo (λ ends stand.
    let V = both_seen (views_of h.carried stand.said) ends in
    record {
      new = ends;
      of = (all, tt);
      stand = record { client = stand.client; server = there ends.server stand.server; said = stand.said; client_carries = stand.client_carries; server_carries = stand.server_carries };
      run = (V, refl, refl);
    })
