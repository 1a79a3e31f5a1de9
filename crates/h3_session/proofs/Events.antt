-- What is reported of the connection: it is known by what is stored, and a caller who asks on comes to an end.
use Rattle.std.proofs.Common.{arith, ◌≡◌, ◌∙◌, ℕ, Bool, true, false, if◌then◌else◌, refl, ap, sym}
use Rattle.std.specs.Prelude.{◌==◌, ◌&&◌, not, Option, Some, None, is_some}
use Rattle.std.proofs.lemmas.Grind.{common_steps}
use Rattle.h3_connection.specs.Endpoint.{EndpointHistory}
use Rattle.h3_connection.specs.KeptGoaways.{keeps_last}
use Rattle.h3_connection.specs.KeptGoawayLaws.{last_kept}
use Rattle.h3_connection.specs.Lasts.{last_id}
use Rattle.h3_connection.specs.ReadingContracts.{Shows}
use Rattle.h3_connection.specs.State.{EndpointState}
use Rattle.h3_session.specs.Events.{asked_once, goaway_unseen, is_reported, next_event, seen_after, unseen, IsAllReported}
use Rattle.h3_session.specs.declared.endpoint.events.ConnectionEvent.{ConnectionEvent}
use Rattle.h3_session.specs.declared.endpoint.events.ConnectionEvent.TheVariants.{Settings, Goaway}
use Rattle.h3_session.specs.declared.endpoint.events.EventsSeen.{EventsSeen}

-- of the ids of GOAWAY frames the last one is kept
pub shows_next : (s : EndpointState) (seen : EventsSeen) (has_settings : Bool) (goaway : Option ℕ) (event : Option ConnectionEvent) → has_settings ≡ is_some s.peer.settings → goaway ≡ last_id s.peer.goaways → event ≡ unseen seen has_settings goaway
    → Shows (λ e. next_event e seen) s event
shows_next s seen has_settings goaway event came last is e h =
    is ∙ ap (λ b. unseen seen b goaway) came ∙ ap (λ o. unseen seen (is_some s.peer.settings) o) last
    ∙ ap (λ p. unseen seen (is_some p.settings) (last_id p.goaways)) h.peer
    ∙ ap (λ o. unseen seen (is_some e.peer.settings) o) (last_kept (keeps_last e.announced.choices) e.peer.goaways)

-- Where nothing is left it stays so.
still_reported : (seen : EventsSeen) (has_settings : Bool) (goaway : Option ℕ) → unseen seen has_settings goaway ≡ None → unseen (seen_after seen (unseen seen has_settings goaway)) has_settings goaway ≡ None
still_reported seen has_settings goaway none = ap (λ o. unseen (seen_after seen o) has_settings goaway) none ∙ none

itself : (n : ℕ) → (n == n) ≡ true
itself n = grind (arith, common_steps)

-- Where the settings were reported or did not come, nothing is left behind the GOAWAY.
behind_goaway : (settings has_settings : Bool) (reported goaway : Option ℕ) → (has_settings && not settings) ≡ false
    → unseen (seen_after (record { settings = settings; goaway = reported }) (goaway_unseen reported goaway)) has_settings goaway ≡ None
behind_goaway settings has_settings reported None is = ap (λ b. if b then Some Settings else None) is
behind_goaway settings has_settings reported (Some id) is = by_test (is_reported reported id) refl
  where
    by_test : (t : Bool) → is_reported reported id ≡ t → unseen (seen_after (record { settings = settings; goaway = reported }) (if t then None else Some (Goaway id))) has_settings (Some id) ≡ None
    by_test true was =
        ap (λ b. if b then Some Settings else goaway_unseen reported (Some id)) is ∙ ap (λ b. if b then None else Some (Goaway id)) was
    by_test false was =
        ap (λ b. if b then Some Settings else goaway_unseen (Some id) (Some id)) is ∙ ap (λ b. if b then None else Some (Goaway id)) (itself id)

twice : (settings has_settings : Bool) (reported goaway : Option ℕ)
    → (let seen : EventsSeen = record { settings = settings; goaway = reported } in
    let once : EventsSeen = seen_after seen (unseen seen has_settings goaway) in
    unseen (seen_after once (unseen once has_settings goaway)) has_settings goaway ≡ None)
twice true true reported goaway = still_reported _ true goaway (behind_goaway true true reported goaway refl)
twice true false reported goaway = still_reported _ false goaway (behind_goaway true false reported goaway refl)
twice false false reported goaway = still_reported _ false goaway (behind_goaway false false reported goaway refl)
twice false true reported goaway = behind_goaway true true reported goaway refl

pub ends : (e : EndpointHistory) (seen : EventsSeen) → next_event e (asked_once e (asked_once e seen)) ≡ None
ends e seen = twice seen.settings (is_some e.peer.settings) seen.goaway (last_id e.peer.goaways)

-- What is reported came.
came : (settings has_settings : Bool) (reported goaway : Option ℕ) → unseen (record { settings = settings; goaway = reported }) has_settings goaway ≡ Some Settings → has_settings ≡ true
came settings true reported goaway is = refl
came settings false reported None is = absurd (cc)
came settings false reported (Some id) is = by_test (is_reported reported id) is
  where
    by_test : (t : Bool) → (if t then None else Some (Goaway id)) ≡ Some Settings → false ≡ true
    by_test true is = absurd (cc)
    by_test false is = absurd (cc)

pub settings_came : (e : EndpointHistory) (seen : EventsSeen) → next_event e seen ≡ Some Settings → is_some e.peer.settings ≡ true
settings_came e seen = came seen.settings (is_some e.peer.settings) seen.goaway (last_id e.peer.goaways)

named : (reported goaway : Option ℕ) (id : ℕ) → goaway_unseen reported goaway ≡ Some (Goaway id) → goaway ≡ Some id
named reported None id is = absurd (cc)
named reported (Some last) id is = by_test (is_reported reported last) is
  where
    by_test : (t : Bool) → (if t then None else Some (Goaway last)) ≡ Some (Goaway id) → Some last ≡ Some id
    by_test true is = absurd (cc)
    by_test false is = cc

last_named : (t : Bool) (reported goaway : Option ℕ) (id : ℕ) → (if t then Some Settings else goaway_unseen reported goaway) ≡ Some (Goaway id) → goaway ≡ Some id
last_named true reported goaway id is = absurd (cc)
last_named false reported goaway id is = named reported goaway id is

pub tells_last : (e : EndpointHistory) (seen : EventsSeen) (id : ℕ) → next_event e seen ≡ Some (Goaway id) → last_id e.peer.goaways ≡ Some id
tells_last e seen = last_named (is_some e.peer.settings && not seen.settings) seen.goaway (last_id e.peer.goaways)

-- Where nothing is left all was reported.
settings_reported : (settings has_settings : Bool) (o : Option ConnectionEvent) → (if has_settings && not settings then Some Settings else o) ≡ None → has_settings ≡ true → settings ≡ true
settings_reported true has_settings o is has = refl
settings_reported false true o is has = absurd (cc)
settings_reported false false o is has = absurd (cc)

same_id : (reported : Option ℕ) (id : ℕ) → goaway_unseen reported (Some id) ≡ None → reported ≡ Some id
same_id None id is = absurd (cc)
same_id (Some earlier) id is = by_test (earlier == id) refl is
  where
    by_test : (t : Bool) → (earlier == id) ≡ t → (if t then None else Some (Goaway id)) ≡ None → Some earlier ≡ Some id
    by_test true same none = let equal : earlier ≡ id = grind (arith, common_steps, same) in ap Some equal
    by_test false same none = absurd (cc)

goaway_reported : (t : Bool) (reported goaway : Option ℕ) (id : ℕ) → (if t then Some Settings else goaway_unseen reported goaway) ≡ None → goaway ≡ Some id → reported ≡ Some id
goaway_reported true reported goaway id is last = absurd (cc)
goaway_reported false reported goaway id is last = same_id reported id (sym (ap (goaway_unseen reported) last) ∙ is)

pub all_reported : (e : EndpointHistory) (seen : EventsSeen) → next_event e seen ≡ None → IsAllReported e seen
all_reported e seen none = record {
  settings = settings_reported seen.settings (is_some e.peer.settings) (goaway_unseen seen.goaway (last_id e.peer.goaways)) none;
  goaway = λ id. goaway_reported (is_some e.peer.settings && not seen.settings) seen.goaway (last_id e.peer.goaways) id none;
}
