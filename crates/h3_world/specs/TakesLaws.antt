-- Of the settings that a made side announces, a strict connection refuses WebTransport without datagrams alone: flags are 0 or 1.
use Rattle.std.proofs.Common.{◌≡◌, ℕ, ◌++◌, Bool, true, false, ◌&&◌, ◌||◌, if◌then◌else◌, List, refl, sym, ap, ◌∙◌, arith, nat_lt}
use Rattle.std.proofs.lemmas.Bool.{ne_eqb}
use Rattle.std.proofs.lemmas.List.{append_assoc}
use Rattle.std.specs.Prelude.{not, ◌==◌, find, Option, Some, option_map, unwrap_or}
use Rattle.h3_proto.specs.Config.{flag, grease_pairs, own_pairs, table_pairs}
use Rattle.h3_proto.specs.Ids.{reserved}
use Rattle.h3_proto.specs.Settings.{value_of}
use Rattle.h3_proto.specs.declared.stream.Side.{Side}
use Rattle.h3_proto.specs.declared.stream.Side.TheVariants.{Client, Server}
use Rattle.h3_connection.specs.OwnIds.{other}
use Rattle.h3_connection.specs.StrictConnection.{is_strict, judges_connect, refuses_settings}
use Rattle.h3_connection.specs.declared.setup.Announced.{Announced}
use Rattle.h3_world.specs.Setup.{IsMade, IsMadeSetup, Setup, announced_at, refuses_sessions, takes_settings}

-- a reserved setting stands in front of no other one
behind_grease : (send : Bool) (grease id : ℕ) (pairs : List (ℕ × ℕ)) → (reserved grease == id) ≡ false → value_of id (grease_pairs send grease ++ pairs) ≡ value_of id pairs
behind_grease false grease id pairs e = refl
behind_grease true grease id pairs e = ap (λ b. option_map (λ (p : ℕ × ℕ). p.1) (if b then Some (reserved grease, 0) else find (λ (p : ℕ × ℕ). p.0 == id) pairs)) e

value_is : (a : Announced) (made : IsMade a) (id : ℕ) → (reserved made.grease == id) ≡ false
    → value_of id a.settings ≡ value_of id (own_pairs made.settings ++ table_pairs a.limits.table a.limits.blocked)
value_is a made id e =
    ap (value_of id) made.are
    ∙ ap (value_of id) (append_assoc (grease_pairs made.sends_grease made.grease) (own_pairs made.settings) (table_pairs a.limits.table a.limits.blocked))
    ∙ behind_grease made.sends_grease made.grease id (own_pairs made.settings ++ table_pairs a.limits.table a.limits.blocked) e

small : (b : Bool) → nat_lt 1 (flag b) ≡ false
small true = refl
small false = refl

flag_is : (b : Bool) → not (flag b == 0) ≡ b
flag_is true = refl
flag_is false = refl

-- what is judged, by the values of the settings
judged : Side → Bool → Option ℕ → Option ℕ → Option ℕ → Option ℕ → Bool
judged side strict own connect datagrams sessions =
    strict && ((judges_connect side && nat_lt 1 (unwrap_or connect 0)) || nat_lt 1 (unwrap_or datagrams 0)
    || (not (unwrap_or own 0 == 0) && (nat_lt 1 (unwrap_or sessions 0) || (not (unwrap_or sessions 0 == 0) && not (not (unwrap_or datagrams 0 == 0))))))

by_tests : Side → (strict own c d s o w e : Bool) → Bool
by_tests side strict own c d s o w e = strict && ((judges_connect side && c) || d || (o && (s || (w && not e))))

no_other : (side : Side) (strict own sessions datagrams : Bool) → by_tests side strict own false false false own sessions datagrams ≡ (strict && own && sessions && not datagrams)
unfolding by_tests
no_other Client false own w d = refl
no_other Client true false w d = refl
no_other Client true true false d = refl
no_other Client true true true d = refl
no_other Server false own w d = refl
no_other Server true false w d = refl
no_other Server true true false d = refl
no_other Server true true true d = refl

by_flags : (side : Side) (strict own connect datagrams sessions : Bool)
    → judged side strict (Some (flag own)) (Some (flag connect)) (Some (flag datagrams)) (Some (flag sessions)) ≡ (strict && own && sessions && not datagrams)
unfolding judged by_tests
by_flags side strict own connect datagrams sessions =
    ap (λ c. by_tests side strict own c (nat_lt 1 (flag datagrams)) (nat_lt 1 (flag sessions)) (not (flag own == 0)) (not (flag sessions == 0)) (not (flag datagrams == 0))) (small connect)
    ∙ ap (λ d. by_tests side strict own false d (nat_lt 1 (flag sessions)) (not (flag own == 0)) (not (flag sessions == 0)) (not (flag datagrams == 0))) (small datagrams)
    ∙ ap (λ s. by_tests side strict own false false s (not (flag own == 0)) (not (flag sessions == 0)) (not (flag datagrams == 0))) (small sessions)
    ∙ ap (λ o. by_tests side strict own false false false o (not (flag sessions == 0)) (not (flag datagrams == 0))) (flag_is own)
    ∙ ap (λ w. by_tests side strict own false false false own w (not (flag datagrams == 0))) (flag_is sessions)
    ∙ ap (λ d. by_tests side strict own false false false own sessions d) (flag_is datagrams)
    ∙ no_other side strict own sessions datagrams

pub refusal_is : (side : Side) (own peer : Announced) (o : IsMade own) (p : IsMade peer) → refuses_settings side own peer.settings ≡ refuses_sessions own o.settings p.settings
unfolding judged
refusal_is side own peer o p =
    ap (λ v. judged side (is_strict own) v (value_of 8 peer.settings) (value_of 0x33 peer.settings) (value_of 0x2b603742 peer.settings))
    (value_is own o 0x2b603742 (ne_eqb (reserved o.grease) 0x2b603742 (omega arith)))
    ∙ ap (λ v. judged side (is_strict own) (Some (flag o.settings.enable_webtransport)) v (value_of 0x33 peer.settings) (value_of 0x2b603742 peer.settings))
    (value_is peer p 8 (ne_eqb (reserved p.grease) 8 (omega arith)))
    ∙ ap (λ v. judged side (is_strict own) (Some (flag o.settings.enable_webtransport)) (Some (flag p.settings.enable_extended_connect)) v (value_of 0x2b603742 peer.settings))
    (value_is peer p 0x33 (ne_eqb (reserved p.grease) 0x33 (omega arith)))
    ∙ ap (λ v. judged side (is_strict own) (Some (flag o.settings.enable_webtransport)) (Some (flag p.settings.enable_extended_connect)) (Some (flag p.settings.enable_datagram)) v)
    (value_is peer p 0x2b603742 (ne_eqb (reserved p.grease) 0x2b603742 (omega arith)))
    ∙ by_flags side (is_strict own) o.settings.enable_webtransport p.settings.enable_extended_connect p.settings.enable_datagram p.settings.enable_webtransport

neither : (a b : Bool) → not (a || b) ≡ true → (a ≡ false) × (b ≡ false)
neither true b e = absurd (cc)
neither false true e = absurd (cc)
neither false false e = (refl, refl)

both_sides : (setup : Setup) → IsMade setup.client → IsMade setup.server → (side : Side) → IsMade (announced_at setup side)
both_sides setup client server Client = client
both_sides setup client server Server = server

-- **Two made sides of which each takes the other one's settings are what `Setup::new` makes.**
pub setup_made : (setup : Setup) → IsMade setup.client → IsMade setup.server → takes_settings setup ≡ true → IsMadeSetup setup
unfolding both_sides
setup_made setup client server takes = record { sides = both_sides setup client server; take = kept }
  where
    taken : (refuses_settings Client setup.client setup.server.settings ≡ false) × (refuses_settings Server setup.server setup.client.settings ≡ false)
    taken = neither (refuses_settings Client setup.client setup.server.settings) (refuses_settings Server setup.server setup.client.settings) takes

    kept : (side : Side) → refuses_sessions (announced_at setup side) (both_sides setup client server side).settings (both_sides setup client server (other side)).settings ≡ false
    kept Client = sym (refusal_is Client setup.client setup.server client server) ∙ taken.0
    kept Server = sym (refusal_is Server setup.server setup.client server client) ∙ taken.1
