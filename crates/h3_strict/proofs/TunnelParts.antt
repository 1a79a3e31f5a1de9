-- What stands of tunnels (RFC 9110, section 9.3.6; RFC 9114, section 4.4) between two strict ends, whatever the server knows: behind what may begin one
-- no trailer is sent, and no receiver counts a tunnel where none may have begun.
use Rattle.std.proofs.Common.{◌≡◌, ◌⊎◌, inl, inr, ℕ, ◌+◌, ◌≤◌, zero, suc, Bool, true, false, List, [], ◌∷◌, ◌++◌, length, take, refl, sym, ap, ◌∙◌, subst, Some, None}
use Rattle.std.specs.Prelude.{◌||◌, slice_get, unwrap_or, flat_map}
use Rattle.std.specs.List.{list_any}
use Rattle.h3_messages.specs.declared.content.Content.TheVariants.{Tunnel, Unanswered, Unsaid}
use Rattle.h3_proto.specs.declared.stream.Side.TheVariants.{Client, Server}
use Rattle.h3_connection.specs.Incoming.{Incoming}
use Rattle.h3_connection.specs.Outgoing.{Outgoing, is_unsent}
use Rattle.h3_connection.specs.declared.place.Place.TheVariants.{BeforeHead}
use Rattle.h3_world.specs.Flow.{Flow, Part, own_part}
use Rattle.h3_world.specs.Flow.Part.{Body, End, Head as HeadPart, Interim, Trailer}
use Rattle.h3_headline.specs.SentPartLaws.{take_front}
use Rattle.h3_headline.specs.Standing.{place_after}
use Rattle.h3_strict.proofs.KeepsCounts.{HasAnswered, KeepsAt, SendsSame}
use Rattle.h3_strict.proofs.SentLaws.{asked_more}
use Rattle.h3_strict.specs.Tallies.{asked_in, has_head}
use Rattle.h3_strict.specs.Tunnels.{AsksOther, AwaitsTunnel, NoTrailer, TunnelAt, asks_tunnel, marked, opens_tunnel, trails}

-- a part more, or none
abbrev pub Grows : List Part → List Part → Type 0
Grows xs ys = (ys ≡ xs) ⊎ ((x : Part) × (ys ≡ xs ++ x ∷ []))

or_none : (b : Bool) → (b || false) ≡ b
or_none true = refl
or_none false = refl

or_joined : (a b c : Bool) → (a || (b || c)) ≡ ((a || b) || c)
or_joined true b c = refl
or_joined false b c = refl

or_left : (a b : Bool) → a ≡ true → (a || b) ≡ true
or_left true b h = refl
or_left false b h = absurd (cc)

or_right : (a b : Bool) → b ≡ true → (a || b) ≡ true
or_right true b h = refl
or_right false b h = h

pub any_more : (p : Part → Bool) (parts : List Part) (part : Part) → list_any p (parts ++ part ∷ []) ≡ (list_any p parts || p part)
any_more p [] part = or_none (p part)
any_more p (x ∷ parts) part = ap (λ b. p x || b) (any_more p parts part) ∙ or_joined (p x) (list_any p parts) (p part)

pub any_grows : (p : Part → Bool) (xs ys : List Part) → Grows xs ys → list_any p xs ≡ true → list_any p ys ≡ true
any_grows p xs ys (inl same) h = ap (list_any p) same ∙ h
any_grows p xs ys (inr (x, more)) h = ap (list_any p) more ∙ any_more p xs x ∙ or_left (list_any p xs) (p x) h

pub any_at : (p : Part → Bool) (parts : List Part) (n : ℕ) (x : Part) → slice_get parts n ≡ Some x → p x ≡ true → list_any p parts ≡ true
any_at p [] n x at h = absurd (cc)
any_at p (y ∷ parts) zero x at h = or_left (p y) (list_any p parts) (subst (λ z. p z ≡ true) (ap (λ o. unwrap_or o y) (sym at)) h)
any_at p (y ∷ parts) (suc n) x at h = or_right (p y) (list_any p parts) (any_at p parts n x at h)

pub asked_grows : (xs ys : List Part) → Grows xs ys → has_head xs ≡ true → (asked_in ys ≡ asked_in xs) × (has_head ys ≡ true)
asked_grows xs ys (inl same) h = (ap asked_in same, ap has_head same ∙ h)
asked_grows xs ys (inr (x, more)) h = let k = asked_more xs x h in (ap asked_in more ∙ k.0, ap has_head more ∙ k.1)

-- In front of the final head nothing of this was sent.
pub unsent_opens : (parts : List Part) → is_unsent (flat_map own_part parts) ≡ true → (list_any opens_tunnel parts ≡ false) × (list_any asks_tunnel parts ≡ false) × (list_any trails parts ≡ false)
unsent_opens [] h = (refl, refl, refl)
unsent_opens (Interim s ∷ parts) h = unsent_opens parts h
unsent_opens (HeadPart s ∷ parts) h = absurd (cc)
unsent_opens (Body bytes end ∷ parts) h = absurd (cc)
unsent_opens (Trailer s ∷ parts) h = absurd (cc)
unsent_opens (End ∷ parts) h = unsent_opens parts h

-- What a receiver is behind an event that hands nothing out.
pub record ServerKeeps (i j : Incoming) : Type 0 where
  pub response : j.response ≡ i.response
  pub alive : j.fault ≡ None → i.fault ≡ None
  pub content : j.fault ≡ None → marked Server j.content ≡ true → marked Server i.content ≡ true

pub record ClientKeeps (i j : Incoming) : Type 0 where
  pub alive : j.fault ≡ None → i.fault ≡ None
  pub content : j.fault ≡ None → marked Client j.content ≡ true → marked Client i.content ≡ true

pub server_keeps : (i j : Incoming) → KeepsAt i j → ServerKeeps i j
server_keeps i j (inl k) = record { response = k.response; alive = λ e. sym k.fault ∙ e; content = λ e m. ap (marked Server) (sym k.content) ∙ m }
server_keeps i j (inr k) = record { response = k.response; alive = λ e. absurd (k.lost e); content = λ e m. absurd (k.lost e) }

pub client_keeps : (i j : Incoming) → KeepsAt i j → ClientKeeps i j
client_keeps i j (inl k) = record { alive = λ e. sym k.fault ∙ e; content = λ e m. ap (marked Client) (sym k.content) ∙ m }
client_keeps i j (inr k) = record { alive = λ e. absurd (k.lost e); content = λ e m. absurd (k.lost e) }

pub server_answers : (i j : Incoming) → HasAnswered i j → ServerKeeps i j
server_answers i j k = record { response = k.response; alive = λ e. sym k.fault ∙ e; content = λ e m. was k.content m }
  where
    was : (j.content ≡ i.content) ⊎ ((i.content ≡ Unanswered) × ((j.content ≡ Tunnel) ⊎ (j.content ≡ Unsaid))) → marked Server j.content ≡ true → marked Server i.content ≡ true
    was (inl same) m = ap (marked Server) (sym same) ∙ m
    was (inr (before, after)) m = ap (marked Server) before

pub trailer_keeps : (parts : List Part) (o p : Outgoing) → SendsSame o p → NoTrailer parts o → NoTrailer parts p
trailer_keeps parts o p same h = record { content = λ takes. same.content takes ∙ h.content (same.takes takes); none = h.none }

-- the parts that are out stay
pub front_grows : (f g : Flow) → Grows f.sent g.sent → f.parts_out ≤ length f.sent → take f.parts_out g.sent ≡ take f.parts_out f.sent
front_grows f g (inl same) within = ap (take f.parts_out) same
front_grows f g (inr (x, more)) within = ap (take f.parts_out) more ∙ take_front f.parts_out f.sent (x ∷ []) within

pub awaits_keeps : (q r : List Part) (f g : Flow) → Grows q r → Grows f.sent g.sent → g.parts_out ≡ f.parts_out → take f.parts_out g.sent ≡ take f.parts_out f.sent → AwaitsTunnel q f → AwaitsTunnel r g
awaits_keeps q r f g requests responses out front h =
    let k = asked_grows q r requests h.has in
    record { has = k.1; asked = k.0 ∙ h.asked; stands = by_case h.stands }
  where
    by_case : (place_after (take f.parts_out f.sent) ≡ BeforeHead) ⊎ (list_any opens_tunnel f.sent ≡ true) → (place_after (take g.parts_out g.sent) ≡ BeforeHead) ⊎ (list_any opens_tunnel g.sent ≡ true)
    by_case (inl place) = inl (ap (λ n. place_after (take n g.sent)) out ∙ ap place_after front ∙ place)
    by_case (inr opens) = inr (any_grows opens_tunnel f.sent g.sent responses opens)

-- **What an event that hands nothing out leaves**, given what its senders count then.
pub tunnel_grows : (q r : List Part) (f g : Flow) (oc pc os ps : Outgoing) (is js ic jc : Incoming) → Grows q r → (list_any asks_tunnel r ≡ true → NoTrailer r pc)
    → (list_any opens_tunnel g.sent ≡ true → AsksOther r ⊎ NoTrailer g.sent ps) → ServerKeeps is js → (jc.fault ≡ None → marked Client jc.content ≡ true → AwaitsTunnel r g)
    → TunnelAt q f oc os is ic → TunnelAt r g pc ps js jc
tunnel_grows q r f g oc pc os ps is js ic jc requests request response keeps client h = record {
  request = request;
  response = response;
  knows = λ c e. let k = h.knows c (sym keeps.response ∙ e) in let m = asked_grows q r requests k.0 in (m.1, k.1 ∙ sym m.0);
  server = λ alive m. any_grows asks_tunnel q r requests (h.server (keeps.alive alive) (keeps.content alive m));
  client = client;
}

pub other_grows : (q r : List Part) → Grows q r → AsksOther q → AsksOther r
other_grows q r requests h = let k = asked_grows q r requests h.has in record { has = k.1; apart = λ e. h.apart (sym k.0 ∙ e) }

-- with nothing sent of the response
pub response_keeps : (q r : List Part) (f g : Flow) (os ps : Outgoing) → Grows q r → g.sent ≡ f.sent → SendsSame os ps → (list_any opens_tunnel f.sent ≡ true → AsksOther q ⊎ NoTrailer f.sent os)
    → list_any opens_tunnel g.sent ≡ true → AsksOther r ⊎ NoTrailer g.sent ps
response_keeps q r f g os ps requests same out h opens = by_case (h (ap (list_any opens_tunnel) (sym same) ∙ opens))
  where
    by_case : AsksOther q ⊎ NoTrailer f.sent os → AsksOther r ⊎ NoTrailer g.sent ps
    by_case (inl apart) = inl (other_grows q r requests apart)
    by_case (inr none) = inr (subst (λ l. NoTrailer l ps) (sym same) (trailer_keeps f.sent os ps out none))

-- **An event by which no part is sent or handed out.**
pub tunnel_keeps : (q r : List Part) (f g : Flow) (oc pc os ps : Outgoing) (is js ic jc : Incoming) → r ≡ q → g.sent ≡ f.sent → g.parts_out ≡ f.parts_out → SendsSame oc pc → SendsSame os ps
    → ServerKeeps is js → ClientKeeps ic jc → TunnelAt q f oc os is ic → TunnelAt r g pc ps js jc
tunnel_keeps q r f g oc pc os ps is js ic jc same sent out outs outs_too keeps kept h =
    tunnel_grows q r f g oc pc os ps is js ic jc (inl same)
    (λ asks. subst (λ l. NoTrailer l pc) (sym same) (trailer_keeps q oc pc outs (h.request (ap (list_any asks_tunnel) (sym same) ∙ asks))))
    (response_keeps q r f g os ps (inl same) sent outs_too h.response) keeps
    (λ alive m. awaits_keeps q r f g (inl same) (inl sent) out (ap (take f.parts_out) sent) (h.client (kept.alive alive) (kept.content alive m))) h

-- the same exchange, by other names
pub tunnel_same : (q r : List Part) (f g : Flow) (oc pc os ps : Outgoing) (is js ic jc : Incoming) → r ≡ q → g ≡ f → pc ≡ oc → ps ≡ os → js ≡ is → jc ≡ ic → TunnelAt q f oc os is ic → TunnelAt r g pc ps js jc
tunnel_same q r f g oc pc os ps is js ic jc a b c d x y h =
    subst (λ z. TunnelAt z g pc ps js jc) (sym a) (subst (λ z. TunnelAt q z pc ps js jc) (sym b) (subst (λ z. TunnelAt q f z ps js jc) (sym c)
    (subst (λ z. TunnelAt q f oc z js jc) (sym d) (subst (λ z. TunnelAt q f oc os z jc) (sym x) (subst (λ z. TunnelAt q f oc os is z) (sym y) h)))))
