-- What is made of a configuration.
use Rattle.std.proofs.Common.{◌≡◌, ◌≤◌, ◌<◌, Option, Some, None, Result, Ok, Err, refl, ap, subst, ◌∙◌}
use Rattle.h3_proto.specs.declared.stream.Side.{Side}
use Rattle.h3_connection.specs.SendingContracts.{Creates}
use Rattle.h3_connection.specs.State.{EndpointState}
use Rattle.h3_connection.specs.declared.setup.Announced.{Announced}
use Rattle.h3_connection.specs.declared.setup.NewError.{NewError}
use Rattle.h3_connection.specs.declared.setup.NewError.TheVariants.{OutOfMemory}
use Rattle.h3_connection.specs.declared.lists.ListPull.TheVariants.{Pending}
use Rattle.h3_session.specs.Events.{nothing_seen}
use Rattle.h3_webtransport.specs.Joint.{Joint}
use Rattle.h3_c.specs.declared.config.GivenConfig.{GivenConfig}
use Rattle.h3_c.specs.declared.numbers.Told.{Told}
use Rattle.h3_c.specs.Configs.{IsMade, Makes, MakesGiven, Unmakes, announced_of, sessions_of, side_of}
use Rattle.h3_c.specs.Numbers.{argument, memory, new_told, ok}
use Rattle.h3_c.specs.Seen.{Seen}

-- want of memory comes last
comes_last : (side : Side) (made : Result Announced NewError) (s : EndpointState) → Creates side made (Ok s) → Creates side made (Err OutOfMemory)
comes_last side (Ok announced) s h = refl
comes_last side (Err e) s h = absurd h

pub lacks_memory : (given : GivenConfig) (s : EndpointState) → Creates (side_of given) (announced_of given) (Ok s) → Unmakes given memory
lacks_memory given s h = record { answer = OutOfMemory; is = refl; refused = comes_last (side_of given) (announced_of given) s h }

pub refused : (given : GivenConfig) (e : NewError) (n : Told) → n ≡ new_told e → Creates (side_of given) (announced_of given) (Err e) → Unmakes given n
refused given e n is h = record { answer = e; is = is; refused = h }

-- the handle owns what was made
pub owns : (made : Joint) (v : Seen) (before after : Option Seen) → after ≡ Some v → v.sessions ≡ made → v.last ≡ Pending → v.events ≡ nothing_seen → IsMade made (Ok v.endpoint) before after
owns made v before after there sessions last events =
    there ∙ ap (λ p. let w : Seen = record { endpoint = v.endpoint; sessions = v.sessions; last = p; events = v.events } in Some w) last
    ∙ ap (λ p. let w : Seen = record { endpoint = v.endpoint; sessions = v.sessions; last = Pending; events = p } in Some w) events
    ∙ ap (λ p. let w : Seen = record { endpoint = v.endpoint; sessions = p; last = Pending; events = nothing_seen } in Some w) sessions

pub made : (given : GivenConfig) (v : Seen) (before after : Option Seen) (n : Told) → n ≡ ok → after ≡ Some v → v.sessions ≡ sessions_of (side_of given) given → v.last ≡ Pending → v.events ≡ nothing_seen → Creates (side_of given) (announced_of given) (Ok v.endpoint) → Makes given n before after
made given v before after n is there sessions last events h = record { answer = Ok v.endpoint; is = is; done = h; made = owns (sessions_of (side_of given) given) v before after there sessions last events }

pub unmade : (given : GivenConfig) (n : Told) (before after : Option Seen) → Unmakes given n → after ≡ before → Makes given n before after
unmade given n before after u same = record { answer = Err u.answer; is = u.is; done = u.refused; made = same }

-- what a caller gave is a configuration, or none
pub given_some : (config : Option GivenConfig) (given : GivenConfig) (n : Told) (before after : Option Seen) → Some given ≡ config
    → (0x210842108421083 ≤ given.grease → (n ≡ argument) × (after ≡ before)) → (given.grease < 0x210842108421083 → Makes given n before after)
    → MakesGiven config n before after
given_some config given n before after is far near = subst (λ c. MakesGiven c n before after) is (far, near)

pub given_none : (config : Option GivenConfig) (n : Told) (before after : Option Seen) → None ≡ config → n ≡ argument → after ≡ before → MakesGiven config n before after
given_none config n before after is refused same = subst (λ c. MakesGiven c n before after) is (refused, same)
