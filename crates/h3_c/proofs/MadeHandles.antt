-- What `h3_new` makes stands at the beginning of what it announces.
use Rattle.std.proofs.Common.{arith, ◌≡◌, ◌<◌, Bool, true, false, if◌then◌else◌, inl, inr, sym, ap, subst, Option, Some, Result, Ok, Err}
use Rattle.h3_proto.specs.declared.stream.Side.{Side}
use Rattle.h3_connection.specs.Endpoint.{new_endpoint}
use Rattle.h3_connection.specs.SendingContracts.{Creates}
use Rattle.h3_connection.specs.State.{EndpointState, StandsFor}
use Rattle.h3_connection.specs.declared.setup.Announced.{Announced}
use Rattle.h3_connection.specs.declared.setup.NewError.{NewError}
use Rattle.h3_connection.specs.declared.setup.NewError.TheVariants as new_error
use Rattle.h3_world.specs.MadeLaws.{is_made}
use Rattle.h3_world.specs.Setup.{IsMade, IsMadeSetup, Setup}
use Rattle.h3_world.specs.TakesLaws.{setup_made}
use Rattle.h3_c.specs.Configs.{IsMade as OwnsMade, Makes, announced_of, config_of, lacks_settings, limits_of, made_told, sessions_of, side_of, without_settings}
use Rattle.h3_c.specs.Numbers.{new_told, ok}
use Rattle.h3_c.specs.Programs.{AreMade, Handles, IsMadeFor}
use Rattle.h3_webtransport.specs.Joint.{Joint}
use Rattle.h3_c.specs.Seen.{Seen}
use Rattle.h3_c.specs.declared.numbers.Told.{Told}
use Rattle.h3_c.proofs.FrontsShown.{below_or_not, not_argument}

-- H3_OK is no refusal
not_refused : (e : NewError) → ok ≡ new_told e → ⊥
not_refused new_error.TableLimit is = let n : 0 ≡ 19 = ap (λ (t : Told). t.number) is in omega (arith, n)
not_refused new_error.BlockedLimit is = let n : 0 ≡ 20 = ap (λ (t : Told). t.number) is in omega (arith, n)
not_refused (new_error.Settings why) is = let n : 0 ≡ 21 = ap (λ (t : Told). t.number) is in omega (arith, n)
not_refused new_error.UnfinishedLimit is = let n : 0 ≡ 28 = ap (λ (t : Told). t.number) is in omega (arith, n)
not_refused new_error.OutOfMemory is = let n : 0 ≡ 18 = ap (λ (t : Told). t.number) is in omega (arith, n)

same_seen : (v w : Seen) → Some v ≡ Some w → v ≡ w
same_seen v w is = cc

owned : (side : Side) (a : Announced) (v : Seen) (sessions : Joint) (before : Option Seen) (r : Result EndpointState NewError) → ok ≡ made_told r → Creates side (Ok a) r → OwnsMade sessions r before (Some v) → StandsFor v.endpoint (new_endpoint side a)
owned side a v sessions before (Ok s) is created owns = subst (λ (x : Seen). StandsFor x.endpoint (new_endpoint side a)) (sym (same_seen v _ owns)) created
owned side a v sessions before (Err e) is created owns = absurd (not_refused e is)

small : {side : Side} {a : Announced} {v : Seen} (m : IsMadeFor side a v) → (m.given.grease < 0x210842108421083) × Makes m.given ok m.before (Some v)
small m = elim (below_or_not m.given.grease 0x210842108421083) [
  | inl below ↦ (below, m.made.1 below)
  | inr above ↦ absurd (not_argument (m.made.0 above).0)
]

pub handle_stands : {side : Side} {a : Announced} {v : Seen} → IsMadeFor side a v → StandsFor v.endpoint (new_endpoint side a)
handle_stands {side = side} {a = a} {v = v} m =
    let makes = (small m).1 in
    let created : Creates side (Ok a) makes.answer = subst (λ x. Creates side x makes.answer) m.announces (subst (λ s. Creates s (announced_of m.given) makes.answer) m.side_is makes.done) in
    owned side a v (sessions_of (side_of m.given) m.given) m.before makes.answer makes.is created makes.made

-- what was announced was not refused for settings that sessions lack
announced_anyway : (lacks : Bool) (made : Result Announced NewError) (a : Announced) → (if lacks then Err without_settings else made) ≡ Ok a → made ≡ Ok a
announced_anyway true made a h = absurd (cc)
announced_anyway false made a h = h

announced_so : {side : Side} {a : Announced} {v : Seen} → IsMadeFor side a v → IsMade a
announced_so {a = a} m = is_made (config_of m.given) (limits_of m.given) m.given.grease a (small m).0 (announced_anyway (lacks_settings m.given) _ a m.announces)

pub setup_stands : {setup : Setup} {h : Handles} → AreMade setup h → IsMadeSetup setup
setup_stands {setup = setup} made = setup_made setup (announced_so made.client) (announced_so made.server) made.take
