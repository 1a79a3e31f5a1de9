-- A pull whose answer is settled finds no fault of the connection.
use Rattle.std.proofs.Common.{◌≡◌, ℕ, ◌≤◌, Bool, true, false, refl, ap, ◌∙◌, subst, Option, Some, None, nat_lt}
use Rattle.std.specs.Prelude.{◌||◌, is_some}
use Rattle.std.proofs.lemmas.Bool.{le-ltb}
use Rattle.h3_connection.specs.Endpoint.{EndpointHistory, Kind, heads_waiting}
use Rattle.h3_connection.specs.Endpoint.Kind.{OwnUnidirectional, PeerUnidirectional, Request, ServerOpened}
use Rattle.h3_connection.specs.Incoming.{Incoming}
use Rattle.h3_connection.specs.Keeping.{is_settled_peer, is_settled_request, is_settled_session, settles_at}
use Rattle.h3_connection.specs.Pulling.{Pulled, just, pull_stream}
use Rattle.h3_connection.specs.Sending.{if_too_many, pull_at, pull_peer, pull_request, pulled, pulled_unidirectional}
use Rattle.h3_connection.specs.StreamSets.{set_stream, stream_at}
use Rattle.h3_connection.specs.Unidirectional.{Role, Unidirectional, if_over, pull_other, pull_session, pull_unidirectional, raw_or_reset}
use Rattle.h3_connection.specs.Unidirectional.Role.{Other, Session}
use Rattle.h3_connection.specs.declared.event.Fault.TheVariants as fault
use Rattle.h3_connection.specs.declared.event.Item.TheVariants as item
use Rattle.h3_connection.specs.declared.event.Pull.{Pull}
use Rattle.h3_connection.specs.declared.event.Pull.TheVariants as pull
use Rattle.h3_connection.specs.declared.event.StreamFault.{StreamFault}
use Rattle.h3_world.specs.Headline.{is_connection_fault}
use Rattle.h3_world.specs.declared.event.Answer.TheVariants as answer
use Rattle.h3_headline.specs.SettledPullLaws.{set_same}
use Rattle.h3_strict.proofs.PullEvents.{given_up_again, over_again}

abbrev IsCalm : Pull × EndpointHistory → Type 0
IsCalm x = is_connection_fault (answer.Pulled x.0) ≡ false

-- a session that is over, or was reset
abbrev over_or : Bool → Unidirectional → ℕ → Option ℕ → Pull × Unidirectional
over_or true o session code = (pull.Item item.End, o)
over_or false o session code = pull_session session o code

-- the same of a stream of another type
abbrev over_or_raw : Bool → Unidirectional → Option ℕ → Pull × Unidirectional
over_or_raw true o code = (pull.Item item.End, o)
over_or_raw false o code = raw_or_reset o code

pub settled_calm : (e : EndpointHistory) (id : ℕ) (k : Kind) → heads_waiting e.decoding.decoder e.incoming ≤ e.announced.limits.blocked → settles_at e id k ≡ true → IsCalm (pull_at e id k)
settled_calm e id Request few h = by_stream (stream_at e.incoming id) refl h
  where
    by_stream : (o : Option Incoming) → stream_at e.incoming id ≡ o → is_settled_request o ≡ true → IsCalm (pull_request e id o)
    by_stream None is h = absurd (cc)
    by_stream (Some i) is h = by_fault i.fault refl i.is_over refl h
      where
        given : Pulled
        given = pull_stream e.side e.announced id e.decoding.decoder i

        many : Pulled → Bool
        many p = nat_lt e.announced.limits.blocked (heads_waiting e.decoding.decoder (set_stream e.incoming id p.incoming))

        same : (a : Pull) → many (just a i) ≡ false
        same a = ap (λ s. nat_lt e.announced.limits.blocked (heads_waiting e.decoding.decoder s)) (set_same e.incoming id i is) ∙ le-ltb e.announced.limits.blocked (heads_waiting e.decoding.decoder e.incoming) few

        told : (a : Pull) → given ≡ just a i → pull_request e id (Some i) ≡ pulled e id (just a i)
        told a is = ap (λ p. pulled e id (if_too_many (many p) p)) is ∙ ap (λ b. pulled e id (if_too_many b (just a i))) (same a)

        by_fault : (o : Option StreamFault) → i.fault ≡ o → (b : Bool) → i.is_over ≡ b → (is_some o || b) ≡ true → IsCalm (pull_request e id (Some i))
        by_fault (Some why) gone b over h = ap (λ (x : Pull × EndpointHistory). is_connection_fault (answer.Pulled x.0)) (told (pull.Fault (fault.Stream why)) (given_up_again e.side e.announced id e i why gone))
        by_fault None alive true over h = ap (λ (x : Pull × EndpointHistory). is_connection_fault (answer.Pulled x.0)) (told (pull.Item item.End) (over_again e.side e.announced id e i alive over))
        by_fault None alive false over h = absurd (cc)
settled_calm e id ServerOpened few h = refl
settled_calm e id OwnUnidirectional few h = refl
settled_calm e id PeerUnidirectional few h = by_stream (stream_at e.unidirectional id) h
  where
    by_over : (o : Unidirectional) (session : ℕ) (b : Bool) (code : Option ℕ) → (b || is_some code) ≡ true → IsCalm (pulled_unidirectional e id (over_or b o session code))
    by_over o session true code h = refl
    by_over o session false (Some code) h = refl
    by_over o session false None h = absurd (cc)

    same : (o : Unidirectional) (session : ℕ) (b : Bool) → over_or b o session o.reset_code ≡ if_over b o session
    same o session true = refl
    same o session false = refl

    by_raw : (o : Unidirectional) (b : Bool) (code : Option ℕ) → (b || is_some code) ≡ true → IsCalm (pulled_unidirectional e id (over_or_raw b o code))
    by_raw o true code h = refl
    by_raw o false (Some code) h = refl
    by_raw o false None h = absurd (cc)

    same_raw : (o : Unidirectional) (b : Bool) → over_or_raw b o o.reset_code ≡ pull_other b o
    same_raw o true = refl
    same_raw o false = refl

    by_role : (o : Unidirectional) (r : Role) → is_settled_session o r ≡ true → IsCalm (pulled_unidirectional e id (pull_unidirectional o r))
    by_role o (Session session) h = subst (λ x. IsCalm (pulled_unidirectional e id x)) (same o session o.is_over) (by_over o session o.is_over o.reset_code h)
    by_role o (Other kind) h = subst (λ x. IsCalm (pulled_unidirectional e id x)) (same_raw o o.is_over) (by_raw o o.is_over o.reset_code h)
    by_role o r h = absurd (cc)

    by_stream : (o : Option Unidirectional) → is_settled_peer o ≡ true → IsCalm (pull_peer e id o)
    by_stream None h = refl
    by_stream (Some o) h = by_role o o.role h
