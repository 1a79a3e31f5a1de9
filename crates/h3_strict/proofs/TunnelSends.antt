-- What a strict end sends leaves that tunnels stand: behind what may begin one no trailer is sent.
use Rattle.std.proofs.Common.{◌≡◌, ◌⊎◌, inl, inr, ℕ, ◌+◌, ◌≤◌, Bool, true, false, [], ◌∷◌, ◌++◌, length, refl, sym, ap, ◌∙◌, subst, arith, if◌then◌else◌}
use Rattle.std.specs.Prelude.{◌==◌}
use Rattle.std.specs.List.{list_any}
use Rattle.std.proofs.lemmas.Grind.{common_steps}
use Rattle.h3_proto.specs.declared.stream.Side.{Side}
use Rattle.h3_proto.specs.declared.stream.Side.TheVariants.{Client, Server}
use Rattle.h3_connection.specs.Delivering.{incoming_at}
use Rattle.h3_connection.specs.Endpoint.{EndpointHistory}
use Rattle.h3_connection.specs.Incoming.{Incoming}
use Rattle.h3_connection.specs.Outgoing as sent
use Rattle.h3_connection.specs.Outgoing.{Outgoing}
use Rattle.h3_connection.specs.Sending.{outgoing_at}
use Rattle.h3_world.specs.Ends.{Ends, end_at}
use Rattle.h3_world.specs.Flow.{Flow, Part}
use Rattle.h3_world.specs.Sending.{appended}
use Rattle.h3_world.specs.Streams.{flow}
use Rattle.h3_world.specs.World.{World}
use Rattle.h3_world.specs.Setup.{Setup}
use Rattle.h3_headline.specs.Contents.{KeepsParts}
use Rattle.h3_headline.specs.FlowLaws.{same_number}
use Rattle.h3_strict.proofs.KeepsCounts.{KeepsAt, KeepsBut, SameCounts, SendsSame, same_counts, sends_same}
use Rattle.h3_strict.proofs.TallySteps.{SendsPart, same_announced}
use Rattle.h3_strict.proofs.TunnelParts.{ClientKeeps, ServerKeeps, awaits_keeps, client_keeps, front_grows, response_keeps, server_answers, server_keeps, tunnel_grows, tunnel_keeps, tunnel_same}
use Rattle.h3_strict.specs.Tunnels.{AsksOther, NoTrailer, TunnelAt, TunnelsStand, asks_tunnel, opens_tunnel, tunnels}

pub kept_at : (only : ℕ → Bool) (e f : EndpointHistory) (id : ℕ) → KeepsBut only e f → KeepsAt (incoming_at e id) (incoming_at f id)
kept_at only e f id h = by_test (only id) refl
  where
    by_test : (b : Bool) → only id ≡ b → KeepsAt (incoming_at e id) (incoming_at f id)
    by_test true on = h.kept id on
    by_test false off = inl (h.same id off)

-- **An event that sends and hands out nothing.**
pub quiet_tunnels : (setup : Setup) (w v : World) (ends next : Ends) (only : Side → ℕ → Bool) → KeepsParts w v → ((side : Side) → KeepsBut (only side) (end_at ends side) (end_at next side)) → TunnelsStand setup w ends → TunnelsStand setup v next
quiet_tunnels setup w v ends next only parts keeps h = record {
  tunnels = λ id. tunnel_keeps _ (flow v Client id).sent (flow w Server id) (flow v Server id) (outgoing_at ends.client id) (outgoing_at next.client id) (outgoing_at ends.server id) (outgoing_at next.server id) (incoming_at ends.server id) (incoming_at next.server id)
      (incoming_at ends.client id) (incoming_at next.client id) (parts Client id).sent (parts Server id).sent (parts Server id).parts_out ((keeps Client).out id) ((keeps Server).out id)
      (server_keeps (incoming_at ends.server id) (incoming_at next.server id) (kept_at (only Server) ends.server next.server id (keeps Server)))
      (client_keeps (incoming_at ends.client id) (incoming_at next.client id) (kept_at (only Client) ends.client next.client id (keeps Client))) (h.tunnels id);
  announced = λ side. (keeps side).announced ∙ h.announced side;
}

pub by_id : (P : ℕ → Type 0) (i : ℕ) → P i → ((id : ℕ) → (i == id) ≡ false → P id) → (id : ℕ) → P id
by_id P i here there id = by_test (i == id) refl
  where
    by_test : (b : Bool) → (i == id) ≡ b → P id
    by_test true e = subst P (same_number i id e) here
    by_test false e = there id e

pub itself : (id : ℕ) → (id == id) ≡ true
itself id = grind (arith, common_steps)

-- What the part that is sent leaves to be shown, by its side.
abbrev pub SendsFine : Side → World → ℕ → Part → Outgoing → Type 0
SendsFine Client w i part p = list_any asks_tunnel ((flow w Client i).sent ++ part ∷ []) ≡ true → NoTrailer ((flow w Client i).sent ++ part ∷ []) p
SendsFine Server w i part p = list_any opens_tunnel ((flow w Server i).sent ++ part ∷ []) ≡ true → AsksOther (flow w Client i).sent ⊎ NoTrailer ((flow w Server i).sent ++ part ∷ []) p

keeps_same : (i j : Incoming) → SameCounts i j → ServerKeeps i j × ClientKeeps i j
keeps_same i j k = (server_keeps i j (inl k), client_keeps i j (inl k))

-- **A part that is sent, and is no request's head.**
pub sends_tunnels : (setup : Setup) (w v : World) (ends next : Ends) (s : Side) (i : ℕ) (part : Part) (p : Outgoing) → SendsPart w v ends next s i part p → (flow w s i).parts_out ≤ length (flow w s i).sent → SendsFine s w i part p
    → TunnelsStand setup w ends → TunnelsStand setup v next
sends_tunnels setup w v ends next s i part p m within fine h = record { tunnels = by_side s m within fine; announced = λ side. same_announced w v ends next s i part p m side ∙ h.announced side }
  where
    At : ℕ → Type 0
    At id = TunnelAt (flow v Client id).sent (flow v Server id) (outgoing_at next.client id) (outgoing_at next.server id) (incoming_at next.server id) (incoming_at next.client id)

    by_side : (s : Side) → SendsPart w v ends next s i part p → (flow w s i).parts_out ≤ length (flow w s i).sent → SendsFine s w i part p → (id : ℕ) → At id
    by_side Client m within fine = by_id At i here there
      where
        there : (id : ℕ) → (i == id) ≡ false → At id
        there id off =
            let k = keeps_same (incoming_at ends.client id) (incoming_at next.client id) (m.in_here id) in
            tunnel_keeps (flow w Client id).sent (flow v Client id).sent (flow w Server id) (flow v Server id) (outgoing_at ends.client id) (outgoing_at next.client id) (outgoing_at ends.server id) (outgoing_at next.server id)
            (incoming_at ends.server id) (incoming_at next.server id) (incoming_at ends.client id) (incoming_at next.client id)
            (ap (λ (x : Flow). x.sent) (m.flows Client id) ∙ ap (λ b. (if b then appended (flow w Client i) part else flow w Client id).sent) off)
            (ap (λ (x : Flow). x.sent) (m.flows Server id)) (ap (λ (x : Flow). x.parts_out) (m.flows Server id))
            (subst (λ o. SendsSame (outgoing_at ends.client id) o) (sym (m.out id ∙ ap (λ b. if b then p else outgoing_at ends.client id) off)) (sends_same (outgoing_at ends.client id)))
            (subst (λ (e : EndpointHistory). SendsSame (outgoing_at ends.server id) (outgoing_at e id)) (sym m.there) (sends_same (outgoing_at ends.server id)))
            (subst (λ (e : EndpointHistory). ServerKeeps (incoming_at ends.server id) (incoming_at e id)) (sym m.there) (server_keeps _ _ (inl (same_counts (incoming_at ends.server id))))) k.1 (h.tunnels id)

        here : At i
        here =
            let q = (flow w Client i).sent in
            let r = q ++ part ∷ [] in
            let k = keeps_same (incoming_at ends.client i) (incoming_at next.client i) (m.in_here i) in
            let old = h.tunnels i in
            tunnel_same r (flow v Client i).sent (flow w Server i) (flow v Server i) p (outgoing_at next.client i) (outgoing_at ends.server i) (outgoing_at next.server i) (incoming_at ends.server i) (incoming_at next.server i) (incoming_at next.client i) (incoming_at next.client i)
            (ap (λ (x : Flow). x.sent) (m.flows Client i) ∙ ap (λ b. (if b then appended (flow w Client i) part else flow w Client i).sent) (itself i))
            (m.flows Server i) (m.out i ∙ ap (λ b. if b then p else outgoing_at ends.client i) (itself i)) (ap (λ (e : EndpointHistory). outgoing_at e i) m.there) (ap (λ (e : EndpointHistory). incoming_at e i) m.there) refl
            (tunnel_grows q r (flow w Server i) (flow w Server i) (outgoing_at ends.client i) p (outgoing_at ends.server i) (outgoing_at ends.server i) (incoming_at ends.server i) (incoming_at ends.server i) (incoming_at ends.client i) (incoming_at next.client i)
            (inr (part, refl)) fine (response_keeps q r (flow w Server i) (flow w Server i) (outgoing_at ends.server i) (outgoing_at ends.server i) (inr (part, refl)) refl (sends_same (outgoing_at ends.server i)) old.response)
            (server_keeps _ _ (inl (same_counts (incoming_at ends.server i))))
            (λ alive mark. awaits_keeps q r (flow w Server i) (flow w Server i) (inr (part, refl)) (inl refl) refl refl (old.client (k.1.alive alive) (k.1.content alive mark))) old)
    by_side Server m within fine = by_id At i here there
      where
        there : (id : ℕ) → (i == id) ≡ false → At id
        there id off =
            let same : flow v Server id ≡ flow w Server id = m.flows Server id ∙ ap (λ b. if b then appended (flow w Server i) part else flow w Server id) off in
            tunnel_keeps (flow w Client id).sent (flow v Client id).sent (flow w Server id) (flow v Server id) (outgoing_at ends.client id) (outgoing_at next.client id) (outgoing_at ends.server id) (outgoing_at next.server id)
            (incoming_at ends.server id) (incoming_at next.server id) (incoming_at ends.client id) (incoming_at next.client id)
            (ap (λ (x : Flow). x.sent) (m.flows Client id)) (ap (λ (x : Flow). x.sent) same) (ap (λ (x : Flow). x.parts_out) same)
            (subst (λ (e : EndpointHistory). SendsSame (outgoing_at ends.client id) (outgoing_at e id)) (sym m.there) (sends_same (outgoing_at ends.client id)))
            (subst (λ o. SendsSame (outgoing_at ends.server id) o) (sym (m.out id ∙ ap (λ b. if b then p else outgoing_at ends.server id) off)) (sends_same (outgoing_at ends.server id)))
            (server_answers (incoming_at ends.server id) (incoming_at next.server id) (m.in_here id))
            (subst (λ (e : EndpointHistory). ClientKeeps (incoming_at ends.client id) (incoming_at e id)) (sym m.there) (client_keeps _ _ (inl (same_counts (incoming_at ends.client id))))) (h.tunnels id)

        here : At i
        here =
            let q = (flow w Client i).sent in
            let f = flow w Server i in
            let g = appended f part in
            let old = h.tunnels i in
            tunnel_same q (flow v Client i).sent g (flow v Server i) (outgoing_at ends.client i) (outgoing_at next.client i) p (outgoing_at next.server i) (incoming_at next.server i) (incoming_at next.server i) (incoming_at ends.client i) (incoming_at next.client i)
            (ap (λ (x : Flow). x.sent) (m.flows Client i)) (m.flows Server i ∙ ap (λ b. if b then appended (flow w Server i) part else flow w Server i) (itself i))
            (ap (λ (e : EndpointHistory). outgoing_at e i) m.there) (m.out i ∙ ap (λ b. if b then p else outgoing_at ends.server i) (itself i)) refl (ap (λ (e : EndpointHistory). incoming_at e i) m.there)
            (tunnel_grows q q f g (outgoing_at ends.client i) (outgoing_at ends.client i) (outgoing_at ends.server i) p (incoming_at ends.server i) (incoming_at next.server i) (incoming_at ends.client i) (incoming_at ends.client i)
            (inl refl) old.request fine (server_answers (incoming_at ends.server i) (incoming_at next.server i) (m.in_here i))
            (λ alive mark. awaits_keeps q q f g (inl refl) (inr (part, refl)) refl (front_grows f g (inr (part, refl)) within) (old.client alive mark)) old)
